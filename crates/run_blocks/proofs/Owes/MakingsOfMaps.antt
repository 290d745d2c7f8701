-- A step of the making of a map makes no block for a pair, and takes none: what it takes it has made itself.
use Rattle.std.specs.Prelude.{◌≡◌, ◌<◌, ℕ, ◌+◌, ◌%◌, ◌^◌, Bool, List, [], Option, Some, None, ◌⊎◌, Ok, Err, if◌then◌else◌}
use Rattle.std.proofs.Common.{refl, ap, sym, subst, ◌∙◌, arith, inl, inr}
use Rattle.run_debts.specs.Given.SeizeWordsDeclared.at.At.TheVariants.{Root, Used, Slot, Entry, Word}
use Rattle.run_debts.specs.Given.SeizeWordsMem.{Mem}
use Rattle.run_debts.specs.Given.SeizeWordsOp.{Out, Make, Made}
use Rattle.run_debts.specs.Given.SeizeWordsWord.{block_in}
use Rattle.run_debts.specs.Given.SeizeWorld.{World, Making as MadeBy}
use Rattle.run_debts.specs.Given.SeizeDeclared.advance.Advance.{Advance}
use Rattle.run_debts.specs.Given.SeizeDeclared.advance.Advance.TheVariants as progress
use Rattle.run_debts.specs.Given.TablesDeclared.node.Node.{Node}
use Rattle.run_debts.specs.Given.TablesDeclared.node.Node.TheVariants as node
use Rattle.run_debts.specs.Given.TablesDeclared.setting.Setting.{Setting}
use Rattle.run_debts.specs.Given.ResizeNewMap as new_map
use Rattle.owner_calls.specs.Given.ResizeNewTable as new_table
use Rattle.owner_calls.specs.Given.ResizeSum as sums
use Rattle.owner_calls.specs.Given.ResizeDeclared.new_map.NewMap.{NewMap}
use Rattle.owner_calls.specs.Given.ResizeDeclared.new_map.Opening.{Opening}
use Rattle.owner_calls.specs.Given.ResizeDeclared.new_map.Opening.TheVariants as opening
use Rattle.owner_calls.specs.Given.ResizeDeclared.new_table.Making.{Making}
use Rattle.owner_calls.specs.Given.ResizeDeclared.new_table.Making.TheVariants as makes
use Rattle.owner_calls.specs.Given.ResizeDeclared.new_table.NewTable.{NewTable}
use Rattle.owner_calls.specs.Given.ResizeDeclared.sum.Sum.{Sum}
use Rattle.owner_calls.specs.Given.ResizeDeclared.sum.Summing.{Summing}
use Rattle.owner_calls.specs.Given.ResizeDeclared.sum.Summing.TheVariants as summing
use Rattle.run_debts.specs.Given.SchedulesEffects.{with_effects}
use Rattle.run_debts.specs.Given.SchedulesMoment.{Moment}
use Rattle.run_debts.specs.Given.TellsSeen.{seen_of}
use Rattle.run_debts.specs.Given.TellerTells.{observed_of, StepsObserved}
use Rattle.run_debts.specs.Given.EffectsDeclared.changed.Changed.{Changed}
use Rattle.run_debts.specs.Given.EffectsDeclared.changed.Changed.TheVariants as changed
use Rattle.run_debts.specs.Given.EffectsDeclared.changed.Kind.{Kind}
use Rattle.run_debts.specs.Given.EffectsDeclared.changed.Kind.TheVariants as kind
use Rattle.run_debts.specs.Given.TellerChanged.{kind_of}
use Rattle.owner_calls.specs.Given.RuleRule.{no_table}
use Rattle.owner_calls.specs.Given.PointsFactsTables.{MakingFacts}
use Rattle.owner_calls.specs.Given.CallersTogether.{no_blocks}
use Rattle.run_debts.specs.Given.EffectsEffects.{names_same, named, made_by, led_to, effects_of, known_after}
use Rattle.run_debts.specs.Given.EffectsKnown.{Known}
use Rattle.run_debts.specs.Given.EffectsDeclared.acting.Acting.{Acting}
use Rattle.run_debts.specs.Given.EffectsDeclared.acting.Acting.TheVariants as acts
use Rattle.run_debts.specs.Given.EffectsDeclared.role.Role.TheVariants as role
use Rattle.run_debts.specs.Given.FinishesEndings.{MakingStepsWithEndings}
use Rattle.run_debts.specs.Given.FinishesMakings.{Beginning, OpeningFacts}
use Rattle.run_debts.specs.Given.FollowsShows.{Refines}
use Rattle.run_debts.proofs.Given.FollowsOperations.{LeavesBy}
use Rattle.run_debts.specs.Given.OthersMakings.{making_after}
use Rattle.run_debts.proofs.Given.OthersLeads.{word_says}
use Rattle.run_debts.proofs.Given.OthersMakingPlans.{TellsMaking}
use Rattle.run_debts.proofs.Given.OthersMakes.{no_table_word, facts, tells, left}
use Rattle.run_debts.proofs.Given.OthersQuiet.{calls_none}
use Rattle.run_blocks.specs.Owes.Beside.{of_block, NoneOfBlock, MakingsPreserveMade}
use Rattle.run_blocks.specs.Owes.Made.{RefinesMade}
use Rattle.run_blocks.specs.Owes.Making.{making_in_opening}
use Rattle.run_blocks.proofs.Owes.Aside.{LeavesAlone, TakesIn, left_alone, not_storing, none_of, calm_none, taken_none, NoneStored, made_still, plan_took, takes_within}
use Rattle.run_blocks.proofs.Owes.InHand.{free_there, in_hand}
use Rattle.run_blocks.proofs.Owes.Planned.{HasPlaces, new_has}
use Rattle.run_blocks.proofs.Owes.Roles.{MakesFree, no_block, does_so}
use Rattle.run_blocks.proofs.Owes.Quiet.{none_if, led_none}
use Rattle.run_blocks.proofs.Owes.Walks.{PlanMakes, plan_made, makes_as, table_makes, IsToMake}
use Rattle.run_blocks.proofs.Owes.Words.{none_for_pair}
use Rattle.run_debts.specs.Given.ScenesHeld.{Held, IsAt}
use Rattle.run_debts.specs.Given.ScenesMaking.{MakingHasOutcome, MakingStepsFrom}
use Rattle.run_debts.specs.Given.ScenesScene.{Scene, slot_of}

module _ {K V : Type 0} (w : World (Node K V)) (i roots : ℕ) (n : NewMap) where
  -- it makes its table, or its counter
  opening_makes : (p : Opening) → PlanMakes {K = K} {V = V} (making_in_opening p) (new_map.plan_at n p) ⊎ (p ≡ opening.Shards)
  opening_makes opening.Takes = inl tt
  opening_makes opening.Shards = inr refl
  opening_makes (opening.Tables making) = inl (makes_as {K = K} {V = V} (Some making) (new_map.opened n) (new_table.new_table_plan making) (table_makes K V making))
  opening_makes (opening.Unmakes fault) = inl tt
  opening_makes (opening.Frees fault) = inl tt
  opening_makes opening.Over = inl tt
  opening_makes (opening.Refused fault) = inl tt

  -- which has places
  opening_has : (same : K → K → Bool) (hash : K → ℕ) (p : Opening) → OpeningFacts w roots i n p → (t : NewTable) → making_in_opening p ≡ Some t → HasPlaces t.stands
  opening_has same hash (opening.Tables making) facts t is =
      let one : making ≡ t = cc is in
      subst (λ (x : NewTable). HasPlaces x.stands) one (new_has same hash w i n.setting (no_table {K = K}) no_blocks (Root n.setting.root) 0 making facts.2)
  opening_has same hash opening.Takes facts t is = absurd (cc is)
  opening_has same hash opening.Shards facts t is = absurd (cc is)
  opening_has same hash (opening.Unmakes fault) facts t is = absurd (cc is)
  opening_has same hash (opening.Frees fault) facts t is = absurd (cc is)
  opening_has same hash opening.Over facts t is = absurd (cc is)
  opening_has same hash (opening.Refused fault) facts t is = absurd (cc is)

  -- or a counter
  shards_kind : (m : Mem (Node K V)) (words : ℕ) (out : Out (Node K V)) (k : Kind) (b : ℕ) → observed_of (Make node.Shards words) out (seen_of m (Make node.Shards words) out) ≡ changed.Made k b → k ≡ kind.Shards
  shards_kind m words (Made (Ok x)) k b e = (let same : kind.Shards ≡ k = cc e in sym same)
  shards_kind m words (Made (Err back)) k b e = absurd (cc e)
  shards_kind m words _ k b e = absurd (cc e)

  -- and it takes its counter alone

  sum_takes : (c : Sum) (p : Summing) (x : ℕ) → TakesIn (sums.plan_at {T = Node K V} c p) x → ⊥
  sum_takes c (summing.Adds shard total) x takes = takes
  sum_takes c (summing.Over count) x takes = takes

  table_takes : (c : NewTable) (p : Making) → MakingFacts w i n.setting (no_table {K = K}) no_blocks (Root n.setting.root) 0 p → (x : ℕ) → TakesIn (new_table.plan_at {K = K} {V = V} c p) x → ⊥
  table_takes c (makes.Sums before reason sum) facts x takes = sum_takes sum sum.stands x (takes_within {K = K} {V = V} (new_table.counted c before reason) (sums.sum_plan sum) x takes)
  table_takes c (makes.Makes table) facts x takes = takes
  table_takes c (makes.Promotes table) facts x takes = takes
  table_takes c (makes.Links table) facts x takes = takes
  table_takes c (makes.Drops table found) facts x takes = absurd (let l : facts.1 < 0 = facts.3 in omega (arith, l))
  table_takes c (makes.Over table) facts x takes = takes
  table_takes c (makes.Refused fault) facts x takes = takes

  opening_takes : (p : Opening) → OpeningFacts w roots i n p → (x : ℕ) → TakesIn (new_map.plan_at {K = K} {V = V} n p) x → w.hand x ≡ MadeBy i
  opening_takes opening.Takes knows x takes = absurd takes
  opening_takes opening.Shards knows x takes = absurd takes
  opening_takes (opening.Tables making) knows x takes =
      absurd (table_takes making making.stands knows.2.point x (takes_within {K = K} {V = V} (new_map.opened n) (new_table.new_table_plan making) x takes))
  opening_takes (opening.Unmakes fault) knows x takes = ap w.hand (sym takes) ∙ knows.1.hand
  opening_takes (opening.Frees fault) knows x takes = absurd takes
  opening_takes opening.Over knows x takes = absurd takes
  opening_takes (opening.Refused fault) knows x takes = absurd takes

  module _ (m m2 : Mem (Node K V)) (told : Changed) (end : NewMap × Advance Setting) where
    abbrev Told : Opening → Type 0
    Told p = StepsObserved K V (NewMap × Advance Setting) m changed.Nothing (new_map.plan_at n p) m2 told end

    -- what it makes is the table of its making, or its counter
    pub opening_which : (p : Opening) → Told p → (k : Kind) (b : ℕ) → told ≡ changed.Made k b → ((value : Node K V) × IsToMake (making_in_opening p) value × (kind_of value ≡ k)) ⊎ (k ≡ kind.Shards)
    opening_which p steps k b is = elim (opening_makes p) as (λ _. ((value : Node K V) × IsToMake (making_in_opening p) value × (kind_of value ≡ k)) ⊎ (k ≡ kind.Shards)) [
      | inl so ↦ inl (plan_made (making_in_opening p) m m2 told (new_map.plan_at n p) end steps so k b is)
      | inr shards ↦
          let there : Told opening.Shards = subst Told shards steps in inr (shards_kind m ((n.setting.mask + 1) % 2 ^ 64) there.0 k b (sym there.1.1 ∙ is))
    ]

    none_made : (same : K → K → Bool) (hash : K → ℕ) (p : Opening) → OpeningFacts w roots i n p → Told p → (b : ℕ) → told ≡ changed.Made kind.Pair b → ⊥
    none_made same hash p facts steps b is = elim (opening_which p steps kind.Pair b is) as (λ _. ⊥) [
      | inl it ↦ none_for_pair (making_in_opening p) it.0 it.1 (opening_has same hash p facts) it.2
      | inr shards ↦ cc shards
    ]

    pub no_pair_made : (same : K → K → Bool) (hash : K → ℕ) → OpeningFacts w roots i n n.stands → Told n.stands → (b : ℕ) → told ≡ changed.Made kind.Pair b → ⊥
    no_pair_made same hash facts steps b is = none_made same hash n.stands facts steps b is

    pub takes_its : OpeningFacts w roots i n n.stands → Told n.stands → (x : ℕ) → told ≡ changed.Took x → w.hand x ≡ MadeBy i
    takes_its facts steps x is = opening_takes n.stands facts x (plan_took m m2 told (new_map.plan_at n n.stands) end steps x is)

module _ {K V : Type 0} (same : K → K → Bool) (hash : ℕ → K → ℕ) (name : ℕ → List ℕ) (m : Moment K V) (known : Known) (s : Scene K V) (old new : Held K V) (at : IsAt same hash old s)
    (shown : Refines same name m known s) (made : RefinesMade name m known s) (i : ℕ) (b : Beginning K) (here : s.makers i ≡ Some b) (end : NewMap) (said : Advance Setting)
    (steps : MakingStepsFrom b.machine old new end said)
    (did : MakingStepsWithEndings V same same old.batch_size old.roots slot_of s.world s.maps s.calls s.makers s.enders i b new.memory (end, said)) (of : Option ℕ) where
  abbrev w : World (Node K V)
  w = s.world

  abbrev w2 : World (Node K V)
  w2 = did.step.w2

  abbrev told : Changed
  told = new.changed

  abbrev its : Acting
  its = acts.Making b.map

  point : OpeningFacts w old.roots i b.machine b.machine.stands
  point = (facts same hash name m known s old new at shown i b here end said steps did of).point

  so : TellsMaking w i b.machine.setting.root told
  so = tells same hash name m known s old new at shown i b here end said steps did of

  leaves : LeavesBy w.memory w2.memory told
  leaves = left same hash name m known s old new at shown i b here end said steps did of

  -- who makes a map has no call, and so no block for a pair
  untaken : (x j : ℕ) → told ≡ changed.Took x → known.roles x ≡ role.OwnPair j → ⊥
  untaken x j is its_block =
      let own = takes_its w i old.roots b.machine old.memory new.memory told (end, said) point steps x is in
      let held = (in_hand same hash name m known s old at shown made j x its_block).hand in
      let who : j ≡ i = cc (own, held) in
      let call = made.whose j x its_block in
      let there : s.calls call.0 i ≡ Some call.1 = ap (s.calls call.0) (sym who) ∙ call.2 in
      let none = at.together.makings.alone i b here call.0 in
      cc (there, none)

  makes_free : (x : Changed) → LeavesBy w.memory w2.memory x → MakesFree its known x
  makes_free (changed.Made k y) l = free_there w m.stored known shown.blocks.roles y l.0
  makes_free changed.Nothing l = tt
  makes_free (changed.Wrote at before after) l = tt
  makes_free (changed.Unmade k) l = tt
  makes_free (changed.Took y) l = tt
  makes_free (changed.Roomed bucket had) l = tt

  made_none : (k : Kind) → NoneStored (made_by its k)
  made_none kind.Pair = (refl, tt)
  made_none (kind.Table len limit turn) = (refl, tt)
  made_none kind.Shards = tt

  stores_none : (x : Changed) → TellsMaking w i b.machine.setting.root x → NoneStored (effects_of its known x)
  stores_none changed.Nothing is = tt
  stores_none (changed.Wrote (Root r) before after) is =
      let leads = led_to its (named known before) (named known after) in
      none_of (if names_same before after then [] else leads) (none_if of_block (names_same before after) [] leads tt (led_none of_block no_block its (λ turn shape. refl) (named known before) (named known after)))
  stores_none (changed.Wrote (Used r) before after) is = tt
  stores_none (changed.Wrote (Slot t field) before after) is = absurd is
  stores_none (changed.Wrote (Entry x field) before after) is = absurd is
  stores_none (changed.Wrote (Word x field) before after) is =
      calm_none (effects_of its known (changed.Wrote (Word x field) before after))
      (word_says its known field (block_in after) (known.roles x) (names_same before after) (named known before) (named known after)
      (no_table_word same hash name m known s old new at shown i b here end said steps did of x (names_same before after) is)).0
  stores_none (changed.Made k x) is = (refl, made_none k)
  stores_none (changed.Unmade k) is = (refl, tt)
  stores_none (changed.Took x) is = taken_none its (known.roles x)
  stores_none (changed.Roomed bucket had) is = absurd is

  alone : LeavesAlone its known told
  alone = left_alone its known told (does_so its known told (makes_free told leaves))
      (no_pair_made w i old.roots b.machine old.memory new.memory told (end, said) same b.hash point steps) untaken
      (λ storing. not_storing (effects_of its known told) storing (stores_none told so))

  same_calls : (t : Advance Setting) (comes : MakingHasOutcome same hash s old new i b end w2 t) → (making_after same hash s old new i b end w2 t comes).calls ≡ s.calls
  same_calls progress.Goes comes = refl
  same_calls progress.Waits comes = refl
  same_calls (progress.Done setting) comes = refl
  same_calls (progress.Refused fault) comes = refl

  pub making_keeps : (comes : MakingHasOutcome same hash s old new i b end w2 said) → NoneOfBlock (effects_of its known told)
      × RefinesMade name (with_effects None of (effects_of its known told) m) (known_after its told known) (making_after same hash s old new i b end w2 said comes)
  making_keeps comes = (
    alone.1,
    made_still name m (with_effects None of (effects_of its known told) m) known (known_after its told known) s (making_after same hash s old new i b end w2 said comes) made
        (calls_none of (effects_of its known told) m) (same_calls said comes) alone.0,
  )

module _ (K V : Type 0) (same : K → K → Bool) (hash : ℕ → K → ℕ) where
  pub makings_keep_made : MakingsPreserveMade K V same hash
  makings_keep_made name m known s old new at shown made i told leads b here of =
      let to = leads b here in making_keeps same hash name m known s old new at shown made i b here to.0 told to.1 to.2 of to.3
