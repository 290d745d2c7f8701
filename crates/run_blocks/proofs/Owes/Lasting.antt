-- What is in somebody's hands is there still after a step of a row on a slot, and after one of the end of a map.
use Rattle.std.proofs.Common.{ap, arith, refl, subst, sym, ◌∙◌}
use Rattle.std.specs.Prelude.{◌≡◌, ◌≢◌, ◌<◌, ℕ, zero, suc, Bool, false, List, Some, None, ◌⊎◌}
use Rattle.run_debts.specs.Given.SeizeWordsMem.{Mem, Took, value_at}
use Rattle.run_debts.specs.Given.SeizeWordsPlan.{Steps}
use Rattle.run_debts.specs.Given.SeizeWorld.{InUse, LeftTo, Step, World, times}
use Rattle.run_debts.specs.Given.SeizeDeclared.rows.settle.Settled.{Settled}
use Rattle.run_debts.proofs.Given.SeizeAloneHistories.NotTaken.{IsHad, kept_value}
use Rattle.owner_calls.specs.Given.SeizeAloneAlone.{IsOfUsers}
use Rattle.run_debts.specs.Given.TablesNodes.{deferred_word}
use Rattle.run_debts.specs.Given.TablesDeclared.node.Node.{Node}
use Rattle.run_debts.specs.Given.TablesDeclared.node.Node.TheVariants as node
use Rattle.run_debts.specs.Given.RawEndMap.{end_map_plan}
use Rattle.run_debts.specs.Given.RawDeclared.machines.end_map.EndMap.{EndMap}
use Rattle.run_debts.specs.Given.SchedulesMoment.{Moment}
use Rattle.run_debts.specs.Given.EffectsDeclared.changed.Changed.{Changed}
use Rattle.run_debts.specs.Given.EffectsDeclared.changed.Changed.TheVariants as changed
use Rattle.owner_calls.proofs.Given.CallersTogether.Came.{came_reached}
use Rattle.run_debts.specs.Given.EffectsEffects.{effects_of, known_after}
use Rattle.run_debts.specs.Given.EffectsKnown.{Known}
use Rattle.run_debts.specs.Given.EffectsDeclared.acting.Acting.{Acting}
use Rattle.run_debts.specs.Given.EffectsDeclared.acting.Acting.TheVariants as acts
use Rattle.run_debts.specs.Given.ScenesDeclared.row.RowTold.{RowTold}
use Rattle.run_debts.specs.Given.ScenesDeclared.row.SlotRow.{SlotRow}
use Rattle.run_debts.proofs.Given.FinishesEnds.Frames.{that_one}
use Rattle.run_debts.proofs.Given.FinishesEnds.Points.{end_steps}
use Rattle.run_debts.specs.Given.FinishesEndings.{Finishing, FinishingFacts, StepsOfEnding}
use Rattle.run_debts.specs.Given.FinishesFactsEnds.{Deed, EndStepSpec, IsFresh, IsItsDeed, JoinsPair, LeavesTable, Looks, TakesCounter, TakesLeft, TakesPair, WritesRoot, taken_by}
use Rattle.run_debts.proofs.Given.FollowsAlike.{AllCalm}
use Rattle.run_debts.proofs.Given.FollowsOperations.{LeavesBy, operated_leaves}
use Rattle.run_debts.specs.Given.FollowsShows.{Refines}
use Rattle.run_debts.proofs.Given.OthersEnds.{left, says_or_takes}
use Rattle.run_debts.proofs.Given.OthersRowPlans.{row_operated}
use Rattle.run_blocks.proofs.Owes.Held.{IsInHand}
use Rattle.run_debts.proofs.Given.ScenesMay.{may_row}
use Rattle.run_debts.proofs.Given.ScenesTold.{as_step}
use Rattle.run_debts.specs.Given.ScenesEnding.{EndingHasOutcome, EndingStepsFrom}
use Rattle.run_debts.specs.Given.ScenesHeld.{Held, IsAt}
use Rattle.run_debts.specs.Given.ScenesOnSlots.{HappensAt, RowSteps}
use Rattle.run_debts.specs.Given.ScenesScene.{IsOnSlot, Scene, slot_of}

module _ {K V : Type 0} (same : K → K → Bool) (hash : ℕ → K → ℕ) (s : Scene K V) (old new : Held K V) (at : IsAt same hash old s) (i : ℕ) (row : SlotRow) (here : IsOnSlot s i row)
    (end : SlotRow × RowTold (Node K V)) (steps : RowSteps K V row old.memory new.memory new.changed end) (happened : HappensAt same hash (Step i) s old new) where
  -- what the operation of a row leaves
  pub row_leaves : LeavesBy s.world.memory happened.0.memory new.changed
  row_leaves =
      subst (λ (n : Mem (Node K V)). LeavesBy s.world.memory n new.changed) (sym happened.4.memory)
      (subst (λ (n : Mem (Node K V)). LeavesBy n new.memory new.changed) (sym at.memory)
      (operated_leaves old.memory new.memory new.changed
      (row_operated old.memory new.memory new.changed end row (may_row same hash old s at i row here) steps)))

  -- what is in hand is not gone
  pub row_keeps_held : (b j : ℕ) → IsInHand s.world j b → new.changed ≡ changed.Took b → ⊥
  row_keeps_held b j held is =
      (let gone : value_at happened.0.memory b ≡ None = (subst (LeavesBy s.world.memory happened.0.memory) is row_leaves).1 in
      let had : IsOfUsers (s.world.hand b) = subst IsOfUsers (sym held.hand) tt in
      let kept = kept_value deferred_word old.batch_size s.world (came_reached old.batch_size s.world at.together.makings.standing.came) i happened.0 happened.1 b (IsHad had) in
      let there = held.is in cc (gone, kept, there))

-- a block that is there is neither in use nor left over, and no counter
pub record IsAside {K V : Type 0} (w : World (Node K V)) (b : ℕ) : Type 0 where
  pub used : (o : ℕ) → w.hand b ≡ InUse o → ⊥
  pub over : (j : ℕ) → w.hand b ≡ LeftTo j → ⊥
  pub value : Node K V
  pub there : value_at w.memory b ≡ Some value
  pub other : value ≢ node.Shards

module _ {K V : Type 0} (same : K → K → Bool) (hash : ℕ → K → ℕ) (name : ℕ → List ℕ) (m : Moment K V) (known : Known) (s : Scene K V) (old new : Held K V) (at : IsAt same hash old s)
    (shown : Refines same name m known s) (i : ℕ) (f : Finishing K V) (here : s.enders i ≡ Some f) (end : EndMap) (said : Settled (Node K V))
    (steps : EndingStepsFrom f.machine old new end said)
    (did : StepsOfEnding V same same old.batch_size old.roots slot_of s.world s.maps s.calls s.makers s.enders i f new.memory (end, said))
    (map : ℕ) (not_there : s.maps map ≡ None) (comes : EndingHasOutcome same hash s new i f end did.w2 did.deed said) where
  abbrev w : World (Node K V)
  w = s.world

  abbrev w2 : World (Node K V)
  w2 = did.w2

  abbrev told : Changed
  told = new.changed

  abbrev its : Acting
  its = acts.Ending map

  facts : FinishingFacts same old.batch_size w i f
  facts = at.together.facts i f here

  pub ending_leaves : LeavesBy w.memory w2.memory told
  ending_leaves = left same hash name m known s old new at shown i f here end said steps did map not_there

  pub ending_says : (AllCalm (effects_of its known told) × ((known_after its told known).roles ≡ known.roles)) ⊎ ((b : ℕ) × (told ≡ changed.Took b))
  ending_says = says_or_takes same hash name m known s old new at shown i f here end said steps did map not_there comes told refl ending_leaves

  -- what it did, by what it knows of its map
  went : EndStepSpec f.setting f.chart f.blocks facts.lists false i f.hash f.began w facts.past f.back new.memory (end, said)
  went =
      (end_steps same f.hash facts.lawful f.setting f.chart f.blocks facts.lists false i f.began facts.stood w f.machine facts.past f.back facts.facts).1 new.memory (end, said)
      (subst (λ (n : Mem (Node K V)). Steps Took value_at n (end_map_plan {K = K} {V = V} f.machine) new.memory (end, said)) (sym at.memory)
      (as_step old.memory changed.Nothing (end_map_plan {K = K} {V = V} f.machine) new.memory told (end, said) steps))

  nothing : 0 < 0 → ⊥
  nothing l = omega (arith, l)

  -- it takes none of these
  not_aside : (b : ℕ) → IsAside w b → (deed : Deed) → IsItsDeed f.setting f.chart f.blocks facts.lists false i w facts.past went.past2 deed
      → IsFresh f.setting f.chart f.blocks facts.lists false f.back deed → 0 < times b (taken_by deed) → ⊥
  not_aside b aside Looks is fresh some = nothing some
  not_aside b aside (TakesPair x) is fresh some = aside.used f.setting.counter (ap w.hand (that_one b x some) ∙ is.1)
  not_aside b aside (LeavesTable x further) is fresh some = nothing some
  not_aside b aside (JoinsPair x word) is fresh some = nothing some
  not_aside b aside (TakesLeft x) is fresh some = aside.over i (ap w.hand (that_one b x some) ∙ is.1)
  not_aside b aside (TakesCounter x) is fresh some =
      let counter = facts.facts.since.counter (subst (λ (y : ℕ). times y f.back ≡ 0) is.1 fresh) in
      let shards : value_at w.memory b ≡ Some node.Shards = ap (value_at w.memory) (that_one b x some ∙ is.1) ∙ counter.0 in
      let value = aside.there in
      aside.other (let same_value : aside.value ≡ node.Shards = cc (shards, value) in same_value)
  not_aside b aside (WritesRoot place word) is fresh some = nothing some

  pub ending_spares : (b : ℕ) → IsAside w b → told ≡ changed.Took b → ⊥
  ending_spares b aside is = by (times b (taken_by went.deed)) refl
    where
      gone : value_at went.w2.memory b ≡ None
      gone = ap (λ (n : Mem (Node K V)). value_at n b) (went.memory ∙ sym did.memory) ∙ (subst (LeavesBy w.memory w2.memory) is ending_leaves).1

      by : (n : ℕ) → times b (taken_by went.deed) ≡ n → ⊥
      by zero e = (let kept = went.spares.values b e in let there = aside.there in cc (gone, kept, there))
      by (suc n) e = not_aside b aside went.deed went.its went.fresh (omega (arith, e))

  -- what is in hand is not gone
  pub ending_keeps_held : (b j : ℕ) → IsInHand w j b → told ≡ changed.Took b → ⊥
  ending_keeps_held b j held is =
      ending_spares b
      (record {
        used = λ o in_use. (let own = held.hand in cc (in_use, own));
        over = λ k left_over. (let own = held.hand in cc (left_over, own));
        value = held.value;
        there = held.is;
        other = held.other;
      })
      is
