-- A step by which all is reclaimed leaves numbers of maps below the executor's count, and slots noted.
use Rattle.std.specs.Prelude.{ℕ, Bool, List, None}
use Rattle.std.proofs.Common.{sym, subst, inl, inr}
use Rattle.run_schedules.specs.Given.SeizeWordsDeclared.at.At.TheVariants.{Root, Used}
use Rattle.run_executor.specs.Given.SeizeWordsWord.{block_in}
use Rattle.seize.specs.ReclaimAll.{reclaim_all_plan}
use Rattle.seize.specs.declared.rows.reclaim_all.ReclaimAll.{ReclaimAll}
use Rattle.seize.specs.declared.rows.settle.Settled.{Settled}
use Rattle.papaya_raw.specs.Given.TablesNodes.{deferred_word, was_left}
use Rattle.papaya_raw.specs.Given.TablesDeclared.node.Node.{Node}
use Rattle.run_schedules.specs.declared.effect.Effect.{Effect}
use Rattle.run_schedules.specs.Schedules.Effects.{with_effects}
use Rattle.run_schedules.specs.Schedules.Moment.{Moment}
use Rattle.run_executor.specs.Given.EffectsDeclared.changed.Changed.{Changed}
use Rattle.run_executor.specs.Given.EffectsDeclared.changed.Changed.TheVariants as changed
use Rattle.run_executor.specs.Given.EffectsEffects.{names_same, named, effects_of, known_after}
use Rattle.run_executor.specs.Given.EffectsKnown.{Known}
use Rattle.run_executor.specs.Given.EffectsDeclared.acting.Acting.TheVariants.{Row}
use Rattle.run_executor.specs.Given.ScenesReclaiming.{IsReclaiming, ReclaimingLeads}
use Rattle.run_executor.proofs.Given.ScenesMay.{may_reclaim}
use Rattle.run_executor.proofs.Given.FollowsOperations.{operated}
use Rattle.run_executor.specs.Given.MomentsWhole.{RefinesWhole}
use Rattle.run_waiting.specs.Remains.Numbered.{NumbersUpTo}
use Rattle.run_waiting.specs.Remains.Slots.{SlotsNoted}
use Rattle.run_waiting.proofs.Remains.Numbered.{told_keeps_count}
use Rattle.run_waiting.proofs.Remains.Slots.{operation_notes}
use Rattle.run_kept.proofs.Sheds.Reclaiming.Rows.{EmptiesRoot, reclaiming_tells}
use Rattle.run_kept.proofs.Sheds.Reclaiming.Steps.{root_none, nothing_there}
use Rattle.run_executor.specs.Given.ScenesHeld.{Held}
use Rattle.run_executor.specs.Given.ScenesScene.{Scene}

module _ {K V : Type 0} (same : K → K → Bool) (hash : ℕ → K → ℕ) (name : ℕ → List ℕ) (m : Moment K V) (noted : Known) (s : Scene K V) (whole : RefinesWhole same name m noted s)
    (old new : Held K V) (i : ℕ) (lists : ℕ → List ℕ) (before after : ReclaimAll) (told : Settled (Node K V)) (at : IsReclaiming same hash old s i lists before)
    (leads : ReclaimingLeads same hash s i lists old new before after told) where
  module _ (count : ℕ) where
    root_numbers : (x : Changed) → EmptiesRoot x → NumbersUpTo count m → NumbersUpTo count (with_effects None None (effects_of Row noted x) m)
    root_numbers (changed.Wrote (Root r) was now) empty numbers =
        let none = root_none same hash name m noted s whole old new i lists before after told at leads (names_same was now) (named noted was) (named noted now) (block_in now)
        (nothing_there same hash name m noted s whole old new i lists before after told at leads now empty) in
        subst (λ (fs : List Effect). NumbersUpTo count (with_effects None None fs m)) (sym none.0) numbers
    root_numbers (changed.Wrote (Used r) was now) empty numbers = numbers
    root_numbers _ empty numbers = absurd empty

    -- numbers stay below the count,
    pub reclaiming_keeps_count : NumbersUpTo count m → NumbersUpTo count (with_effects None None (effects_of Row noted new.changed) m)
    reclaiming_keeps_count numbers =
        elim (reclaiming_tells old.memory new.memory new.changed before before.stands (after, told) leads.0)
        as (λ _. NumbersUpTo count (with_effects None None (effects_of Row noted new.changed) m)) [
          | inl tells ↦ told_keeps_count m noted count numbers new.changed tells
          | inr empties ↦ root_numbers new.changed empties numbers
        ]

  -- and slots stay noted
  pub reclaiming_notes_slots : SlotsNoted noted old.memory → SlotsNoted (known_after Row new.changed noted) new.memory
  reclaiming_notes_slots slots =
      operation_notes Row noted old.memory new.memory new.changed
      (operated old.memory new.memory new.changed (reclaim_all_plan deferred_word was_left before) (after, told) (may_reclaim same hash old s i lists before at) leads.0) slots
