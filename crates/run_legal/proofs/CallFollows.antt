-- An event of a call is by the model, and the sets are those of the model after it, but for a row of the call that is under way.
use Rattle.std.specs.Prelude.{◌≡◌, ℕ, ◌++◌, ◌∷◌, Bool, true, false, ◌&&◌, ◌||◌, List, map, flat_map, MatchBool, ◌⊎◌, Some}
use Rattle.std.specs.List.{list_all}
use Rattle.std.proofs.Common.{refl, sym, subst, inl, inr}
use Rattle.run_grows.specs.Given.TablesDeclared.node.Node.{Node}
use Rattle.run_grows.specs.Given.SeizeWorld.{World}
use Rattle.run_grows.specs.Given.RunsDeclared.effect.Effect.{Effect}
use Rattle.run_grows.specs.Given.RunsDeclared.event.Event.{Event}
use Rattle.run_grows.specs.Given.RunsDeclared.event.Event.TheVariants.{Enter, Own, Refresh, Flush, DropGuard, ReclaimAll, Close}
use Rattle.run_grows.specs.Given.SchedulesAfter.{after, is_by, moment}
use Rattle.run_grows.specs.Given.SchedulesEntry.{Entry, is_busy, speaker}
use Rattle.run_grows.specs.Given.SchedulesModel.{IsByModel, back_by_model, changes_of, handing, number_in, sets_in, thing_back, things_in}
use Rattle.run_grows.specs.Given.SchedulesTerms.{Terms}
use Rattle.run_grows.specs.Given.EffectsEffects.{effects_of, known_after}
use Rattle.run_grows.specs.Given.EffectsKnown.{Known}
use Rattle.run_grows.specs.Given.EffectsDeclared.acting.Acting.TheVariants as acts
use Rattle.run_grows.specs.Given.HistoriesInEvent.{here_of}
use Rattle.run_grows.proofs.Given.HistoriesAnyCall.InEvent.{events_keep_all}
use Rattle.run_grows.specs.Given.PromisesProtected.{is_of_slots}
use Rattle.run_grows.specs.Given.ModelsCallEvents.{FollowsInEvent, IsInItsRow, IsOfNoSlot}
use Rattle.run_grows.specs.Given.ModelsFollows.{FollowsModel}
use Rattle.run_grows.proofs.Given.ModelsCallEvents.{call_events_go_on, call_events_pause, others_hand_over}
use Rattle.run_grows.proofs.Given.ModelsMapEvents.{moments_note_once}
use Rattle.run_legal.specs.CallEvents.{CallEventsFollow}
use Rattle.run_legal.specs.Carried.{IsSequential, FollowsOrRows}
use Rattle.run_legal.proofs.Calls.{out_of_slots}
use Rattle.run_grows.specs.Given.ScenesScene.{slot_of}
use Rattle.run_grows.specs.Given.SchedulesTransition.{past}

-- an event that is none of a slot is no row on one
pub of_no_slot : {K V : Type 0} (event : Event K V) → is_of_slots event ≡ false → IsOfNoSlot event
of_no_slot (Enter guard registration) out = absurd (cc out)
of_no_slot (Own guard) out = absurd (cc out)
of_no_slot (DropGuard guard) out = absurd (cc out)
of_no_slot (Refresh guard) out = absurd (cc out)
of_no_slot (Flush guard) out = absurd (cc out)
of_no_slot ReclaimAll out = absurd (cc out)
of_no_slot Close out = absurd (cc out)
of_no_slot _ out = tt

-- what is so of an event that comes alone, and was not kept out, is so where calls come one after another still
module _ {K V : Type 0} (terms : Terms) (log : List (Entry K V)) (e : Entry K V) (busy : is_busy e.outcome ≡ false) where
  pub was_alone : (after e (moment log)).is_alone ≡ true → IsSequential e.event log
  was_alone alone = subst (λ (q : Bool). ((moment log).is_alone && (q || list_all (is_by (speaker e.event)) (moment log).calls)) ≡ true) busy alone

  pub by_model_so : (IsSequential e.event log → IsByModel terms log e) → IsByModel terms log e
  by_model_so so = by (after e (moment log)).is_alone refl
    where
      by : (q : Bool) → (after e (moment log)).is_alone ≡ q → IsByModel terms log e
      by true is = so (was_alone is)
      by false is =
          subst (λ (q : Bool). MatchBool q (map (number_in (things_in (e ∷ log))) (flat_map thing_back e.effects) ≡ back_by_model terms.batch_size log e) (Unit {0})) (sym is) tt

pub call_events_follow : (K V : Type 0) (same : K → K → Bool) (hash : ℕ → K → ℕ) → CallEventsFollow K V same hash
call_events_follow K V same hash name terms log beginning map i c steps done m known s u e midst old new at size said leads effects_are busy noted slot active =
    (by_model_so terms log e busy (λ alone. (over alone).0), λ alone. or_rows (over (was_alone terms log e busy alone)).1)
  where
    here : s.calls map i ≡ Some u
    here = here_of same name (past log) beginning map i c done m known s u midst.event_so

    effects : List Effect
    effects = effects_of (acts.Call i map) known new.changed

    then_known : Known
    then_known = known_after (acts.Call i map) new.changed known

    then_world : World (Node K V)
    then_world = (leads map u here).4.w2

    -- in its midst still, by all that it does
    in_event : IsSequential e.event log → FollowsInEvent terms.batch_size terms.roots (things_in log) (sets_in terms.batch_size log) (slot_of i) i e.effects then_known then_world
    in_event alone =
        subst (λ (fs : List Effect). FollowsInEvent terms.batch_size terms.roots (things_in log) (sets_in terms.batch_size log) (slot_of i) i fs then_known then_world) (sym effects_are)
        (subst (λ (n : ℕ). FollowsInEvent n terms.roots (things_in log) (sets_in terms.batch_size log) (slot_of i) i (done ++ effects) then_known then_world) size
        (call_events_go_on K V same hash name m known s old new at midst.calls.whole map i u here said leads
        (moments_note_once K V same name _ then_known _ (events_keep_all K V same hash name (past log) beginning map i c done m known s u midst.event_so old new at said leads).0) terms.roots (things_in log)
        (sets_in terms.batch_size log) (slot_of i) done
        (subst (λ (n : ℕ). FollowsInEvent n terms.roots (things_in log) (sets_in terms.batch_size log) (slot_of i) i done known s.world) (sym size) (midst.follows alone)) noted))

    out : is_of_slots e.event ≡ false
    out = out_of_slots (name i) e.event midst.of_call

    changes_are : changes_of log e ≡ flat_map (handing (things_in (e ∷ log)) (slot_of i)) e.effects
    changes_are = subst (λ (n : ℕ). changes_of log e ≡ flat_map (handing (things_in (e ∷ log)) n) e.effects) slot (others_hand_over K V log e (of_no_slot e.event out)).0

    over : IsSequential e.event log → IsByModel terms log e × (FollowsModel terms.batch_size terms.roots (e ∷ log) then_known then_world
        ⊎ IsInItsRow terms.batch_size terms.roots (things_in (e ∷ log)) (sets_in terms.batch_size (e ∷ log)) (slot_of i) i then_known then_world)
    over alone = call_events_pause K V terms log e (slot_of i) i then_known then_world (in_event alone) changes_are (others_hand_over K V log e (of_no_slot e.event out)).1 (active alone)

    or_rows : FollowsModel terms.batch_size terms.roots (e ∷ log) then_known then_world
        ⊎ IsInItsRow terms.batch_size terms.roots (things_in (e ∷ log)) (sets_in terms.batch_size (e ∷ log)) (slot_of i) i then_known then_world
        → FollowsOrRows terms (e ∷ log) then_known then_world
    or_rows (inl model) = inl model
    or_rows (inr row) = inr (i, row)
