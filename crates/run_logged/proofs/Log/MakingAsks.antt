-- The making of a map that has made no table has done nothing but ask for growths.
use Rattle.std.specs.Prelude.{◌≡◌, ◌+◌, ◌/◌, ◌%◌, ◌^◌, ℕ, Bool, true, false, Ok, Err}
use Rattle.std.specs.List.{list_all}
use Rattle.std.proofs.Common.{refl, ap, subst, sym, ◌∙◌, inl, inr}
use Rattle.run_schedules.specs.Given.SeizeWordsDeclared.at.At.{At}
use Rattle.run_schedules.specs.Given.SeizeWordsDeclared.at.At.TheVariants.{Root, Used, Slot, Entry, Word}
use Rattle.run_schedules.specs.Given.SeizeWordsMem.{Mem, value_at}
use Rattle.run_schedules.specs.Given.SeizeWordsOp.{Out, Found, Stored, Exchanged, Made, Taken, Roomed, Exchange, Make}
use Rattle.run_schedules.specs.Given.SeizeWordsPlan.{Ends, plan_as}
use Rattle.run_schedules.proofs.Given.SeizeWordsOneOwner.Operations.{exchanged, taken}
use Rattle.seize.specs.declared.advance.Advance.{Advance}
use Rattle.seize.specs.declared.advance.Advance.TheVariants as progress
use Rattle.papaya_raw.specs.Given.TablesDeclared.node.Node.{Node}
use Rattle.papaya_raw.specs.Given.TablesDeclared.node.Node.TheVariants as node
use Rattle.papaya_raw.specs.Given.TablesDeclared.setting.Setting.{Setting}
use Rattle.papaya_raw.specs.Given.TablesDeclared.table.Table.{Table}
use Rattle.papaya_raw.specs.Given.TablesDeclared.table_words.TheConstants.{PLACES}
use Rattle.papaya_raw.specs.Given.TablesDeclared.lengths.Reason.{Reason}
use Rattle.run_effects.specs.Given.ResizeNewMap as new_map
use Rattle.run_effects.specs.Given.ResizeNewTable as new_table
use Rattle.run_effects.specs.Given.ResizeSum as sums
use Rattle.run_effects.specs.Given.ResizeDeclared.sum.Sum.{Sum}
use Rattle.run_effects.specs.Given.ResizeDeclared.sum.Summing.{Summing}
use Rattle.run_effects.specs.Given.ResizeDeclared.sum.Summing.TheVariants as summing
use Rattle.run_effects.specs.Given.ResizeDeclared.new_table.NewTable.{NewTable}
use Rattle.run_effects.specs.Given.ResizeDeclared.new_table.Making.{Making}
use Rattle.run_effects.specs.Given.ResizeDeclared.new_table.Making.TheVariants as makes
use Rattle.run_effects.specs.Given.ResizeDeclared.new_map.NewMap.{NewMap}
use Rattle.run_effects.specs.Given.ResizeDeclared.new_map.Opening.{Opening}
use Rattle.run_effects.specs.Given.ResizeDeclared.new_map.Opening.TheVariants as opens
use Rattle.run_schedules.specs.Schedules.InTurn.{is_growth}
use Rattle.run_effects.specs.ReportingMemory.Tells.{StepsObserved}
use Rattle.run_effects.specs.declared.changed.Changed.{Changed}
use Rattle.run_effects.specs.declared.changed.Changed.TheVariants as changed
use Rattle.run_effects.specs.Effects.Effects.{taken_by, effects_of}
use Rattle.run_effects.specs.Effects.Known.{Known}
use Rattle.run_effects.specs.declared.acting.Acting.TheVariants as acts
use Rattle.run_effects.specs.declared.role.Role.{Role}
use Rattle.run_effects.specs.declared.role.Role.TheVariants as role
use Rattle.run_shows.specs.Given.FinishesMakings.{HasMade}
use Rattle.run_logged.specs.Log.Makings.{has_table, has_tabled, IsBare}
use Rattle.run_shows.proofs.Scenes.Told.{as_step}
use Rattle.run_kept.proofs.Told.{told_back, told_as}

-- a table that is being made has none of its own yet, if it goes on, or is refused
abbrev IsBareTable : NewTable × Advance Table → Type 0
IsBareTable (n, progress.Goes) = has_table n.stands ≡ false
IsBareTable (n, progress.Waits) = ⊥
IsBareTable (n, progress.Done table) = ⊥
IsBareTable (n, progress.Refused fault) = Unit {0}

abbrev IsBareMap : NewMap × Advance Setting → Type 0
IsBareMap (n, told) = IsBare told n

made_has : (link : At) (table : Table) → has_table (new_table.after_making link table) ≡ true
made_has (Root root) table = refl
made_has (Used root) table = refl
made_has (Slot slot field) table = refl
made_has (Entry block field) table = refl
made_has (Word block field) table = refl

not_so : (q : Bool) → q ≡ true → q ≡ false → ⊥
not_so q is none = (let e : true ≡ false = sym is ∙ none in cc e)

bare_below : (n : NewMap) (e : NewTable × Advance Table) → IsBareMap (new_map.opened n e) → IsBareTable e
bare_below n (t, progress.Goes) bare = bare
bare_below n (t, progress.Waits) bare = bare
bare_below n (t, progress.Done table) bare = bare
bare_below n (t, progress.Refused fault) bare = tt

module _ (map : ℕ) (known : Known) where
  -- what was told is nothing but that growths were asked for
  abbrev Grows : Changed → Type 0
  Grows told = list_all is_growth (effects_of (acts.Making map) known told) ≡ true

module _ {K V : Type 0} (map : ℕ) (known : Known) where
  takes_root : (m : Mem (Node K V)) (r old new : ℕ) (out : Out (Node K V)) → Grows map known (told_as m (Exchange (Used r) old new) out)
  takes_root m r old new (Found word) = refl
  takes_root m r old new Stored = refl
  takes_root m r old new (Exchanged (Ok word)) = refl
  takes_root m r old new (Exchanged (Err word)) = refl
  takes_root m r old new (Made made) = refl
  takes_root m r old new (Taken value) = refl
  takes_root m r old new (Roomed roomed) = refl

  makes_shards : (m : Mem (Node K V)) (words : ℕ) (out : Out (Node K V)) → Grows map known (told_as m (Make node.Shards words) out)
  makes_shards m words (Found word) = refl
  makes_shards m words Stored = refl
  makes_shards m words (Exchanged found) = refl
  makes_shards m words (Made (Ok b)) = refl
  makes_shards m words (Made (Err back)) = refl
  makes_shards m words (Taken value) = refl
  makes_shards m words (Roomed roomed) = refl

  -- the making of a first table
  module _ (m m2 : Mem (Node K V)) (told : Changed) (n : NewTable) where
    -- it made no table before, and asked for growths alone
    abbrev AsksAt : Making → Type 0
    AsksAt stands = (has_table stands ≡ false) × Grows map known told

    sums_ask : (before : Table) (reason : Reason) (sum : Sum) (at : Summing) (end : NewTable × Advance Table)
        → StepsObserved K V (NewTable × Advance Table) m changed.Nothing (plan_as (new_table.counted n before reason) (sums.plan_at sum at)) m2 told end → Grows map known told
    sums_ask before reason sum (summing.Adds shard total) end s = subst (Grows map known) (sym s.1.1) refl
    sums_ask before reason sum (summing.Over count) end s = subst (Grows map known) (sym s.2) refl

    makes_ask : (table : Table) (words : ℕ) (end : NewTable × Advance Table) → IsBareTable end → (out : Out (Node K V)) → Ends (value_at m2) (new_table.made n table out) end
        → Grows map known (told_as m (Make (node.Table table.len table.limit table.turn) words) out)
    makes_ask table words end bare (Found word) ends = refl
    makes_ask table words end bare Stored ends = refl
    makes_ask table words end bare (Exchanged found) ends = refl
    makes_ask table words end bare (Made (Ok b)) ends = absurd (not_so (has_table (new_table.after_making n.link (new_table.with_block table b))) (made_has n.link (new_table.with_block table b)) (subst IsBareTable ends bare))
    makes_ask table words end bare (Made (Err back)) ends = refl
    makes_ask table words end bare (Taken value) ends = refl
    makes_ask table words end bare (Roomed roomed) ends = refl

    table_asks : (stands : Making) (end : NewTable × Advance Table) → StepsObserved K V (NewTable × Advance Table) m changed.Nothing (new_table.plan_at n stands) m2 told end → IsBareTable end → AsksAt stands
    table_asks (makes.Sums before reason sum) end s bare = (refl, sums_ask before reason sum sum.stands end s)
    table_asks (makes.Makes table) end s bare = (refl, subst (Grows map known) (sym s.1.1) (makes_ask table ((table.len + PLACES) % 2 ^ 64) end bare s.0 s.2))
    table_asks (makes.Promotes table) end s bare =
        let ends : end ≡ new_table.goes n (makes.Links table) = s.2 in
        absurd (not_so true refl (subst IsBareTable ends bare))
    table_asks (makes.Links table) end s bare =
        elim (exchanged m (new_table.linked n table) n.link 0 table.link m2 end (as_step m changed.Nothing (new_table.plan_at n (makes.Links table)) m2 told end s)) as (λ _. AsksAt (makes.Links table)) [
          | inl d ↦ absurd (subst IsBareTable d.3 bare)
          | inr d ↦ absurd (not_so true refl (subst IsBareTable d.3 bare))
        ]
    table_asks (makes.Drops table found) end s bare =
        let d = taken m (λ out. new_table.other n found) (table.link / 2048) m2 end (as_step m changed.Nothing (new_table.plan_at n (makes.Drops table found)) m2 told end s) in
        absurd (subst IsBareTable d.3.2 bare)
    table_asks (makes.Over table) end s bare = absurd (subst IsBareTable s.1 bare)
    table_asks (makes.Refused fault) end s bare = (refl, subst (Grows map known) (sym s.2) refl)

  -- and of the map
  module _ (m m2 : Mem (Node K V)) (told : Changed) (n : NewMap) where
    map_asks : (stands : Opening) (end : NewMap × Advance Setting) → StepsObserved K V (NewMap × Advance Setting) m changed.Nothing (new_map.plan_at n stands) m2 told end
        → (HasMade stands → known.roles n.setting.counter ≡ role.Counter map) → IsBareMap end → (has_tabled stands ≡ false) × Grows map known told
    map_asks opens.Takes end s noted bare = (refl, subst (Grows map known) (sym s.1.1) (takes_root m n.setting.root 0 1 s.0))
    map_asks opens.Shards end s noted bare = (refl, subst (Grows map known) (sym s.1.1) (makes_shards m ((n.setting.mask + 1) % 2 ^ 64) s.0))
    map_asks (opens.Tables making) end s noted bare =
        let b = told_back (new_map.opened n) m m2 changed.Nothing told (new_table.new_table_plan making) end s in
        table_asks m m2 told making making.stands b.0 b.1 (bare_below n b.0 (subst IsBareMap b.2 bare))
    map_asks (opens.Unmakes fault) end s noted bare =
        (refl, subst (Grows map known) (sym s.1.1) (ap (λ (r : Role). list_all is_growth (taken_by (acts.Making map) r)) (noted tt)))
    map_asks (opens.Frees fault) end s noted bare = (refl, subst (Grows map known) (sym s.1.1) refl)
    map_asks opens.Over end s noted bare = absurd (subst IsBareMap s.1 bare)
    map_asks (opens.Refused fault) end s noted bare = (refl, subst (Grows map known) (sym s.2) refl)

    -- if a step made no table, nor those before it, it asked for growths alone
    pub making_asks : (told_it : Advance Setting) (opening : NewMap) → StepsObserved K V (NewMap × Advance Setting) m changed.Nothing (new_map.new_map_plan n) m2 told (opening, told_it)
        → (HasMade n.stands → known.roles n.setting.counter ≡ role.Counter map) → IsBare told_it opening
        → (has_tabled n.stands ≡ false) × (list_all is_growth (effects_of (acts.Making map) known told) ≡ true)
    making_asks told_it opening s noted bare = map_asks n.stands (opening, told_it) s noted bare
