-- A step of the making of a map asks for a block, makes the map's first table, or links it, and does nothing else.
use Rattle.std.specs.Prelude.{◌≡◌, ◌<◌, ◌+◌, ◌%◌, ◌^◌, ℕ, Bool, true, false, List, [], ◌∷◌, Ok, Err, if◌then◌else◌}
use Rattle.std.specs.List.{list_all}
use Rattle.std.proofs.Common.{refl, ap, subst, sym, ◌∙◌, arith}
use Rattle.std.proofs.lemmas.Bool.{ne_eqb}
use Rattle.run_finds.specs.Given.SeizeWordsDeclared.at.At.{At}
use Rattle.run_finds.specs.Given.SeizeWordsDeclared.at.At.TheVariants.{Root, Used}
use Rattle.run_finds.specs.Given.SeizeWordsMem.{Mem, Took}
use Rattle.run_finds.specs.Given.SeizeWordsOp.{Out, Found, Stored, Exchanged, Made, Taken, Roomed, Exchange, Make}
use Rattle.run_finds.specs.Given.SeizeWordsPlan.{plan_as}
use Rattle.run_finds.specs.Given.SeizeWordsWord.{block_in}
use Rattle.papaya_raw.specs.Given.SeizeWorld.{World}
use Rattle.papaya_raw.specs.Given.SeizeDeclared.advance.Advance.{Advance}
use Rattle.papaya_raw.specs.Given.TablesDeclared.node.Node.{Node}
use Rattle.papaya_raw.specs.Given.TablesDeclared.node.Node.TheVariants as node
use Rattle.papaya_raw.specs.Given.TablesDeclared.setting.Setting.{Setting}
use Rattle.papaya_raw.specs.Given.TablesDeclared.table.Table.{Table}
use Rattle.papaya_raw.specs.Given.TablesDeclared.table_words.TheConstants.{PLACES, STATUS}
use Rattle.papaya_raw.specs.Given.TablesDeclared.lengths.Reason.{Reason}
use Rattle.run_kept.specs.Given.ResizeNewMap as new_map
use Rattle.run_finds.specs.Given.ResizeNewTable as new_table
use Rattle.run_finds.specs.Given.ResizeSum as sums
use Rattle.run_finds.specs.Given.ResizeDeclared.sum.Sum.{Sum}
use Rattle.run_finds.specs.Given.ResizeDeclared.sum.Summing.{Summing}
use Rattle.run_finds.specs.Given.ResizeDeclared.sum.Summing.TheVariants as summing
use Rattle.run_finds.specs.Given.ResizeDeclared.new_table.NewTable.{NewTable}
use Rattle.run_finds.specs.Given.ResizeDeclared.new_table.Making.{Making}
use Rattle.run_finds.specs.Given.ResizeDeclared.new_table.Making.TheVariants as makes
use Rattle.run_finds.specs.Given.ResizeDeclared.new_map.NewMap.{NewMap}
use Rattle.run_finds.specs.Given.ResizeDeclared.new_map.Opening.{Opening}
use Rattle.run_finds.specs.Given.ResizeDeclared.new_map.Opening.TheVariants as opens
use Rattle.run_finds.specs.Given.RuleRule.{no_table}
use Rattle.run_finds.proofs.Given.RuleWords.TablesSeen.{block_of_link}
use Rattle.run_finds.specs.Given.PointsFactsTables.{IsOwnTable, IsPlanned, MakingFacts}
use Rattle.run_schedules.specs.declared.effect.Effect.TheVariants.{Asked}
use Rattle.run_schedules.specs.declared.effect.Growth.TheVariants.{ABlock}
use Rattle.run_schedules.specs.Schedules.Handing.{is_first_making}
use Rattle.run_finds.specs.Given.TellerTells.{StepsObserved}
use Rattle.run_finds.specs.Given.EffectsDeclared.changed.Changed.{Changed}
use Rattle.run_finds.specs.Given.EffectsDeclared.changed.Changed.TheVariants as changed
use Rattle.run_finds.specs.Given.EffectsDeclared.changed.Kind.TheVariants as kind
use Rattle.run_finds.specs.Given.EffectsEffects.{effects_of, in_block, led_to, made_by, named, names_same, taken_by}
use Rattle.run_finds.specs.Given.EffectsKnown.{Known}
use Rattle.run_finds.specs.Given.EffectsDeclared.acting.Acting.TheVariants as acts
use Rattle.run_finds.specs.Given.EffectsDeclared.role.Role.{Role}
use Rattle.run_finds.specs.Given.EffectsDeclared.role.Role.TheVariants as role
use Rattle.run_finds.specs.Given.CallersTogether.{no_blocks}
use Rattle.run_kept.specs.Given.FinishesMakings.{HasMade, OpeningFacts}
use Rattle.run_finds.specs.Given.FollowsBlocks.{HasRole}
use Rattle.run_finds.proofs.Given.FollowsWrites.{nothing_free, own_table}
use Rattle.run_kept.proofs.Told.{told_as, told_back}
use Rattle.run_sweeps.proofs.Needs.Firsts.{firsts_are_all, makings_link_first}
use Rattle.run_kept.proofs.Given.OwesTables.MakingsOfMaps.{makings_keep_tables}
use Rattle.run_sweeps.specs.Needs.Makings.{MakingsDoTheirs, MakingsFindTheirs}

module _ (map : ℕ) (known : Known) where
  -- what was told is nothing else
  abbrev Firsts : Changed → Type 0
  Firsts told = list_all is_first_making (effects_of (acts.Making map) known told) ≡ true

  -- a table of its own is linked to a root that led nowhere
  led_first : (is : Role) → list_all is_first_making (led_to (acts.Making map) role.Free is) ≡ true
  led_first (role.OwnTable turn shape) = refl
  led_first _ = refl

module _ {K V : Type 0} (map : ℕ) (known : Known) where
  takes_root : (m : Mem (Node K V)) (r old new : ℕ) (out : Out (Node K V)) → Firsts map known (told_as m (Exchange (Used r) old new) out)
  takes_root m r old new (Exchanged (Ok word)) = refl
  takes_root m r old new (Exchanged (Err word)) = refl
  takes_root m r old new (Found word) = refl
  takes_root m r old new Stored = refl
  takes_root m r old new (Made made) = refl
  takes_root m r old new (Taken value) = refl
  takes_root m r old new (Roomed roomed) = refl

  makes_shards : (m : Mem (Node K V)) (words : ℕ) (out : Out (Node K V)) → Firsts map known (told_as m (Make node.Shards words) out)
  makes_shards m words (Made (Ok b)) = refl
  makes_shards m words (Made (Err back)) = refl
  makes_shards m words (Found word) = refl
  makes_shards m words Stored = refl
  makes_shards m words (Exchanged found) = refl
  makes_shards m words (Taken value) = refl
  makes_shards m words (Roomed roomed) = refl

  makes_table : (m : Mem (Node K V)) (len limit turn words : ℕ) → 0 < len → (out : Out (Node K V)) → Firsts map known (told_as m (Make (node.Table len limit turn) words) out)
  makes_table m len limit turn words some (Made (Ok b)) =
      ap (λ (q : Bool). list_all is_first_making (Asked ABlock ∷ made_by (acts.Making map) (if q then kind.Pair else kind.Table len limit turn))) (ne_eqb len 0 (λ none. omega (arith, some, none)))
  makes_table m len limit turn words some (Made (Err back)) = refl
  makes_table m len limit turn words some (Found word) = refl
  makes_table m len limit turn words some Stored = refl
  makes_table m len limit turn words some (Exchanged found) = refl
  makes_table m len limit turn words some (Taken value) = refl
  makes_table m len limit turn words some (Roomed roomed) = refl

  -- the world in which it is, with its blocks as they are noted
  module _ (w : World (Node K V)) (stored : List (K × V)) (roles : (b : ℕ) → HasRole w stored b (known.roles b)) (i : ℕ) where
    -- its table is noted as its own
    own_role : (table : Table) (status : ℕ) → IsOwnTable w i table status → IsPlanned table 0
        → known.roles (block_in table.link) ≡ role.OwnTable table.turn (record { len = table.len; limit = table.limit })
    own_role table status own planned =
        ap known.roles (ap block_in own.link ∙ block_of_link own.block)
        ∙ own_table w stored known roles own.block i table.len table.limit table.turn (let least = planned.len.least in omega (arith, least)) own.hand own.value

    -- a word of such a block says nothing
    own_word : (r : Role) (table : Table) → r ≡ role.OwnTable table.turn (record { len = table.len; limit = table.limit }) → (field n : ℕ) (q : Bool) (was is : Role)
        → list_all is_first_making (in_block (acts.Making map) r field n q was is) ≡ true
    own_word r table its field n q was is = ap (λ (x : Role). list_all is_first_making (in_block (acts.Making map) x field n q was is)) its

    links_table : (m m2 : Mem (Node K V)) (r link : ℕ) (out : Out (Node K V)) → Took m (Exchange (Root r) 0 link) out m2 → Firsts map known (told_as m (Exchange (Root r) 0 link) out)
    links_table m m2 r link (Exchanged (Ok word)) took = by (names_same word link)
      where
        was : named known word ≡ role.Free
        was = ap (λ (x : ℕ). known.roles (block_in x)) took.0.1 ∙ nothing_free w stored known roles

        by : (q : Bool) → list_all is_first_making (if q then [] else led_to (acts.Making map) (named known word) (named known link)) ≡ true
        by true = refl
        by false = ap (λ (x : Role). list_all is_first_making (led_to (acts.Making map) x (named known link))) was ∙ led_first map known (named known link)
    links_table m m2 r link (Exchanged (Err word)) took = refl
    links_table m m2 r link (Found word) took = refl
    links_table m m2 r link Stored took = refl
    links_table m m2 r link (Made made) took = refl
    links_table m m2 r link (Taken value) took = refl
    links_table m m2 r link (Roomed roomed) took = refl

    -- the making of a first table
    module _ (m m2 : Mem (Node K V)) (told : Changed) (setting : Setting) (n : NewTable) (link_is : n.link ≡ Root setting.root) where
      sums_do : (before : Table) (reason : Reason) (sum : Sum) (at : Summing) (end : NewTable × Advance Table)
          → StepsObserved K V (NewTable × Advance Table) m changed.Nothing (plan_as (new_table.counted n before reason) (sums.plan_at sum at)) m2 told end → Firsts map known told
      sums_do before reason sum (summing.Adds shard total) end s = subst (Firsts map known) (sym s.1.1) refl
      sums_do before reason sum (summing.Over count) end s = subst (Firsts map known) (sym s.2) refl

      links_do : (link : At) (to : ℕ) (out : Out (Node K V)) → link ≡ Root setting.root → Took m (Exchange link 0 to) out m2 → Firsts map known (told_as m (Exchange link 0 to) out)
      links_do link to out is took =
          subst (λ (l : At). Firsts map known (told_as m (Exchange l 0 to) out)) (sym is) (links_table m m2 setting.root to out (subst (λ (l : At). Took m (Exchange l 0 to) out m2) is took))

      table_does : (stands : Making) (end : NewTable × Advance Table) → MakingFacts w i setting no_table no_blocks (Root setting.root) 0 stands
          → StepsObserved K V (NewTable × Advance Table) m changed.Nothing (new_table.plan_at n stands) m2 told end → Firsts map known told
      table_does (makes.Sums before reason sum) end facts s = sums_do before reason sum sum.stands end s
      table_does (makes.Makes table) end facts s =
          subst (Firsts map known) (sym s.1.1)
          (makes_table m table.len table.limit table.turn ((table.len + PLACES) % 2 ^ 64) (let least = facts.1.len.least in omega (arith, least)) s.0)
      table_does (makes.Promotes table) end facts s =
          subst (Firsts map known) (sym s.1.1) (own_word (known.roles (block_in table.link)) table (own_role table _ facts.0 facts.1) STATUS known.stored _ _ _)
      table_does (makes.Links table) end facts s = subst (Firsts map known) (sym s.1.1) (links_do n.link table.link s.0 link_is s.1.0)
      table_does (makes.Drops table found) end facts s = absurd (let made = facts.3 in omega (arith, made))
      table_does (makes.Over table) end facts s = subst (Firsts map known) (sym s.2) refl
      table_does (makes.Refused fault) end facts s = subst (Firsts map known) (sym s.2) refl

    -- and of the map
    module _ (m m2 : Mem (Node K V)) (told : Changed) (roots : ℕ) (n : NewMap) (end : NewMap × Advance Setting) where
      map_does : (stands : Opening) → OpeningFacts w roots i n stands → (HasMade stands → known.roles n.setting.counter ≡ role.Counter map)
          → StepsObserved K V (NewMap × Advance Setting) m changed.Nothing (new_map.plan_at n stands) m2 told end → Firsts map known told
      map_does opens.Takes facts noted s = subst (Firsts map known) (sym s.1.1) (takes_root m n.setting.root 0 1 s.0)
      map_does opens.Shards facts noted s = subst (Firsts map known) (sym s.1.1) (makes_shards m ((n.setting.mask + 1) % 2 ^ 64) s.0)
      map_does (opens.Tables making) facts noted s =
          let b = told_back (new_map.opened n) m m2 changed.Nothing told (new_table.new_table_plan making) end s in
          table_does m m2 told n.setting making facts.2.link_is making.stands b.0 facts.2.point b.1
      map_does (opens.Unmakes fault) facts noted s =
          subst (Firsts map known) (sym s.1.1) (ap (λ (r : Role). list_all is_first_making (taken_by (acts.Making map) r)) (noted tt))
      map_does (opens.Frees fault) facts noted s = subst (Firsts map known) (sym s.1.1) refl
      map_does opens.Over facts noted s = absurd facts
      map_does (opens.Refused fault) facts noted s = absurd facts

module _ (K V : Type 0) (same : K → K → Bool) (hash : ℕ → K → ℕ) where
  pub makings_do_theirs : MakingsDoTheirs K V same hash
  makings_do_theirs name m known s old new at shown i told leads b here noted =
      map_does b.map known s.world m.stored shown.blocks.roles i old.memory new.memory new.changed old.roots b.machine ((leads b here).0, told) b.machine.stands
      (at.together.makings.facts i b here).point noted (leads b here).1

  pub makings_find_theirs : MakingsFindTheirs K V same hash
  makings_find_theirs name m known s old new at shown tables openings i told leads b here noted of f f_is none_yet faultless places_are shown_then =
      firsts_are_all K V b.map false of (effects_of (acts.Making b.map) known new.changed) m (makings_do_theirs name m known s old new at shown i told leads b here noted)
      (makings_keep_tables K V same hash name m known s old new at shown tables i told leads b here of shown_then).0
      (makings_link_first K V same hash name m known s old new at shown tables openings i told leads b here of f f_is none_yet faultless places_are shown_then)
