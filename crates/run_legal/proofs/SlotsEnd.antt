-- An event of a slot keeps its promises once its row has ended.
use Rattle.std.specs.Prelude.{◌≡◌, ℕ, ◌+◌, Bool, true, false, MatchBool, ◌&&◌, ◌||◌, not, List, [], ◌∷◌, ◌++◌, map, flat_map, Option, None}
use Rattle.std.specs.List.{list_all, list_any}
use Rattle.std.proofs.Common.{refl, ap, sym, subst, ◌∙◌}
use Rattle.run_grows.specs.Given.SeizeWordsDeclared.fault.Fault.TheVariants.{Busy}
use Rattle.run_grows.specs.Given.RunsDeclared.effect.Effect.{Effect}
use Rattle.run_grows.specs.Given.RunsDeclared.effect.Effect.TheVariants.{Asked, Reclaimed}
use Rattle.run_grows.specs.Given.RunsDeclared.effect.Growth.TheVariants.{ABucket}
use Rattle.run_grows.specs.Given.RunsDeclared.event.Event.{Event}
use Rattle.run_grows.specs.Given.RunsDeclared.event.Event.TheVariants.{Register, Unregister, Enter, Own, Refresh, Flush, DropGuard, ReclaimAll, Close}
use Rattle.run_grows.specs.Given.RunsDeclared.outcome.Outcome.{Outcome}
use Rattle.run_grows.specs.Given.RunsDeclared.outcome.Outcome.TheVariants.{Refused}
use Rattle.run_grows.specs.Given.SchedulesAfter.{after, is_by, moment, moments_from}
use Rattle.run_grows.specs.Given.SchedulesBeginning.{begun}
use Rattle.run_grows.specs.Given.SchedulesEffects.{AtEachEffect, worked}
use Rattle.run_grows.specs.Given.SchedulesEntry.{Entry, IfCall, acting, caller_of, is_busy, speaker}
use Rattle.run_grows.specs.Given.SchedulesHanding.{AllFind, IsWhole, LeavesOf, asks_for_bucket, is_clear_outcome, gives_all, is_granted, is_made, is_only, is_reclaiming, may_do, refuses}
use Rattle.run_grows.specs.Given.SchedulesLinearizable.{shift_of}
use Rattle.run_grows.specs.Given.SchedulesLives.{Finds}
use Rattle.run_grows.specs.Given.SchedulesModel.{IsByModel, back_by_model, number_in, thing_back, things_in}
use Rattle.run_grows.specs.Given.SchedulesMoment.{UnderWay as CallThere, Moment}
use Rattle.run_grows.specs.Given.SchedulesReclaims.{IsProtected}
use Rattle.run_grows.specs.Given.SchedulesSequential.{Shift}
use Rattle.run_grows.specs.Given.SchedulesSteps.{IsBrief}
use Rattle.run_grows.specs.Given.SchedulesTerms.{Terms}
use Rattle.run_grows.proofs.Given.HistoriesOtherCalls.{no_calls_are_linearizable}
use Rattle.run_grows.specs.Given.ModelsFollows.{IsFollowed}
use Rattle.run_grows.proofs.Given.ModelsOnSlots.{slot_events_end}
use Rattle.run_grows.specs.Given.PromisesProtected.{is_of_slots}
use Rattle.run_grows.specs.Given.PromisesSheltered.{SectionsHold}
use Rattle.run_grows.proofs.Given.PromisesProtected.{slot_events_end_protected}
use Rattle.run_sweeps.proofs.Purposes.Nothing.{no_calls_are_swept}
use Rattle.run_legal.specs.CallEvents.{IsLegalBut}
use Rattle.run_legal.specs.Carried.{IsSequential}
use Rattle.run_legal.specs.SlotEvents.{SlotEventsAreLegal}
use Rattle.run_grows.specs.Given.ScenesRows.{request_of}
use Rattle.run_grows.specs.Given.ScenesScene.{slot_of}
use Rattle.run_grows.specs.Given.SchedulesTransition.{past, transition}
use Rattle.run_grows.proofs.Given.General.{both_true as and_both}

-- An event on slots acts for no call, and its effects bring no pair and take none out.

pub no_caller : {K V : Type 0} (event : Event K V) → is_of_slots event ≡ true → caller_of event ≡ None
no_caller (Register registration) on = refl
no_caller (Unregister registration) on = refl
no_caller (Enter guard registration) on = refl
no_caller (Own guard) on = refl
no_caller (Refresh guard) on = refl
no_caller (Flush guard) on = refl
no_caller (DropGuard guard) on = refl
no_caller ReclaimAll on = refl
no_caller Close on = refl
no_caller _ on = absurd (cc on)

never_refuses : {K V : Type 0} (event : Event K V) → is_of_slots event ≡ true → refuses event ≡ false
never_refuses (Register registration) on = refl
never_refuses (Unregister registration) on = refl
never_refuses (Enter guard registration) on = refl
never_refuses (Own guard) on = refl
never_refuses (Refresh guard) on = refl
never_refuses (Flush guard) on = refl
never_refuses (DropGuard guard) on = refl
never_refuses ReclaimAll on = refl
never_refuses Close on = refl
never_refuses _ on = absurd (cc on)

asks_none : (f : Effect) → asks_for_bucket f ≡ true → shift_of f ≡ []
asks_none (Asked ABucket) is = refl
asks_none _ is = absurd (cc is)

reclaiming_none : (f : Effect) → is_reclaiming f ≡ true → shift_of f ≡ []
reclaiming_none (Reclaimed x) is = refl
reclaiming_none _ is = absurd (cc is)

shifts_none : {K V : Type 0} (event : Event K V) (m : Moment K V) (f : Effect) → is_of_slots event ≡ true → may_do event m f ≡ true → shift_of f ≡ []
shifts_none (Register registration) m f on may = asks_none f may
shifts_none (Unregister registration) m f on may = absurd (cc may)
shifts_none (Enter guard registration) m f on may = absurd (cc may)
shifts_none (Own guard) m f on may = asks_none f may
shifts_none (Refresh guard) m f on may = reclaiming_none f (and_both (is_only guard m) (is_reclaiming f) may).1
shifts_none (Flush guard) m f on may = absurd (cc may)
shifts_none (DropGuard guard) m f on may = reclaiming_none f (and_both (is_only guard m) (is_reclaiming f) may).1
shifts_none ReclaimAll m f on may = reclaiming_none f may
shifts_none Close m f on may = reclaiming_none f may
shifts_none _ m f on may = absurd (cc on)

all_shift_none : {K V : Type 0} (event : Event K V) (m : Moment K V) (effects : List Effect) → is_of_slots event ≡ true → list_all (may_do event m) effects ≡ true → flat_map shift_of effects ≡ []
all_shift_none event m [] on may = refl
all_shift_none event m (f ∷ effects) on may =
    let each = and_both (may_do event m f) (list_all (may_do event m) effects) may in
    ap (λ (xs : List Shift). xs ++ flat_map shift_of effects) (shifts_none event m f on each.0) ∙ all_shift_none event m effects on each.1

-- what its effects find is what they must
module _ {K V : Type 0} (terms : Terms) (log : List (Entry K V)) (effects : List Effect) where
  finds_so : (event : Event K V) (outcome : Outcome V) (steps : ℕ) → is_of_slots event ≡ true → AtEachEffect (Finds terms None None (gives_all event) []) None None effects (moment log)
      → AllFind terms log (record { event = event; outcome = outcome; steps = steps; effects = effects }) (begun event outcome (moment log))
  finds_so (Register registration) outcome steps on finds = finds
  finds_so (Unregister registration) outcome steps on finds = finds
  finds_so (Enter guard registration) outcome steps on finds = finds
  finds_so (Own guard) outcome steps on finds = finds
  finds_so (Refresh guard) outcome steps on finds = finds
  finds_so (Flush guard) outcome steps on finds = finds
  finds_so (DropGuard guard) outcome steps on finds = finds
  finds_so ReclaimAll outcome steps on finds = finds
  finds_so Close outcome steps on finds = finds
  finds_so _ outcome steps on finds = absurd (cc on)

-- and one that is kept out did nothing
module _ {K V : Type 0} (effects : List Effect) (m w : Moment K V) where
  whole_so : (event : Event K V) (outcome : Outcome V) → is_of_slots event ≡ true → is_busy outcome ≡ false → IsWhole event outcome effects m w
  whole_so (Register registration) (Refused Busy) on busy = absurd (cc busy)
  whole_so (Register registration) _ on busy = tt
  whole_so (Unregister registration) (Refused Busy) on busy = absurd (cc busy)
  whole_so (Unregister registration) _ on busy = tt
  whole_so (Enter guard registration) (Refused Busy) on busy = absurd (cc busy)
  whole_so (Enter guard registration) _ on busy = tt
  whole_so (Own guard) (Refused Busy) on busy = absurd (cc busy)
  whole_so (Own guard) _ on busy = tt
  whole_so (Refresh guard) (Refused Busy) on busy = absurd (cc busy)
  whole_so (Refresh guard) _ on busy = tt
  whole_so (Flush guard) (Refused Busy) on busy = absurd (cc busy)
  whole_so (Flush guard) _ on busy = tt
  whole_so (DropGuard guard) (Refused Busy) on busy = absurd (cc busy)
  whole_so (DropGuard guard) _ on busy = tt
  whole_so ReclaimAll (Refused Busy) on busy = absurd (cc busy)
  whole_so ReclaimAll _ on busy = tt
  whole_so Close (Refused Busy) on busy = absurd (cc busy)
  whole_so Close _ on busy = tt
  whole_so _ outcome on busy = absurd (cc on)

-- So it is legal but for what it comes to, if what it did it may do, and finds what it must, and if it is protected, and by the model.
pub slots_are_legal_but : (K V : Type 0) (same : K → K → Bool) (terms : Terms) (log : List (Entry K V)) (e : Entry K V) → is_of_slots e.event ≡ true
    → list_all (may_do e.event (moment log)) e.effects ≡ true → AtEachEffect (Finds terms None None (gives_all e.event) []) None None e.effects (moment log) → is_granted false e.effects ≡ true
    → is_busy e.outcome ≡ false → IsProtected log e → IsByModel terms log e → IsLegalBut same terms log e
slots_are_legal_but K V same terms log e on may finds granted busy protected by_model = record {
  brief = subst (λ (o : Option (List ℕ)). IfCall (λ (c : CallThere K V). IsBrief c.call c (moments_from c.begun log) (worked e (moment log)) (c.steps + e.steps)) (acting o (worked e (moment log)))) (sym none) tt;
  linearizable = no_calls_are_linearizable K V same (past log) (transition log e) none (all_shift_none e.event (moment log) e.effects on may);
  swept = no_calls_are_swept K V same terms (past log) (transition log e) none;
  life = record {
    finds = finds_so terms log e.effects e.event e.outcome e.steps on finds;
    may = may;
    granted = granted;
    refuses = ap (λ (q : Bool). not q || not (list_any is_made e.effects)) (never_refuses e.event on);
    whole = whole_so e.effects (moment log) (worked e (moment log)) e.event e.outcome on busy;
    leaves = subst (λ (o : Option (List ℕ)). IfCall (LeavesOf (is_clear_outcome e.outcome) e.outcome) (acting o (worked e (moment log)))) (sym none) tt;
  };
  protected = protected;
  by_model = by_model;
}
  where
    none : caller_of e.event ≡ None
    none = no_caller e.event on

pub slot_events_are_legal : (K V : Type 0) (same : K → K → Bool) → SlotEventsAreLegal K V same
slot_events_are_legal K V same name terms log i called first began m known s e midst may finds small rests ends busy is_row = (
  slots_are_legal_but K V same terms log e midst.of_slots may finds midst.granted busy safe.0 (by (after e (moment log)).is_alone refl),
  safe.1,
  λ alone. (followed (before alone)).1,
)
  where
    safe : IsProtected log e × SectionsHold (after e (moment log)) known s.world
    safe = slot_events_end_protected K V log e m known s.world midst.of_slots midst.worked midst.protects ends

    followed : IsSequential e.event log → IsFollowed terms log e known s.world
    followed alone =
        slot_events_end K V terms log e first i (request_of (slot_of i) called) known began s.world small midst.once (midst.follows alone) rests m midst.calls.whole.all.shown.blocks (is_row alone)

    before : (after e (moment log)).is_alone ≡ true → IsSequential e.event log
    before alone = subst (λ (q : Bool). ((moment log).is_alone && (q || list_all (is_by (speaker e.event)) (moment log).calls)) ≡ true) busy alone

    by : (q : Bool) → (after e (moment log)).is_alone ≡ q → IsByModel terms log e
    by true is = (followed (before is)).0
    by false is =
        subst (λ (q : Bool). MatchBool q (map (number_in (things_in (e ∷ log))) (flat_map thing_back e.effects) ≡ back_by_model terms.batch_size log e) (Unit {0})) (sym is) tt
