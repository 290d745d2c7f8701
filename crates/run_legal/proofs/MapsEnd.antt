-- An event that makes a map, or ends one, keeps its promises once its work is done.
use Rattle.std.specs.Prelude.{◌≡◌, ℕ, ◌+◌, Bool, true, false, not, ◌||◌, List, [], ◌∷◌, ◌++◌, flat_map, Option, Some, None}
use Rattle.std.specs.List.{list_all, list_any}
use Rattle.std.proofs.Common.{refl, ap, sym, subst, ◌∙◌}
use Rattle.run_grows.specs.Given.RunsDeclared.effect.Effect.{Effect}
use Rattle.run_grows.specs.Given.RunsDeclared.effect.Effect.TheVariants.{Ended, Taken}
use Rattle.run_grows.specs.Given.RunsDeclared.event.Event.{Event}
use Rattle.run_grows.specs.Given.RunsDeclared.event.Event.TheVariants.{MakeMap, EndMap, Step, Go, ReclaimAll, Close}
use Rattle.run_grows.specs.Given.SchedulesAfter.{after, moment, moments_from}
use Rattle.run_grows.specs.Given.SchedulesBeginning.{at_work}
use Rattle.run_grows.specs.Given.SchedulesEffects.{AtEachEffect, worked}
use Rattle.run_grows.specs.Given.SchedulesEntry.{IfCall, acted_on, acting, caller_of}
use Rattle.run_grows.specs.Given.SchedulesHanding.{AllFind, LeavesOf, is_clear_outcome, gives_all, is_ending, is_made, may_do, moments_of, refuses}
use Rattle.run_grows.specs.Given.SchedulesLinearizable.{shift_of}
use Rattle.run_grows.specs.Given.SchedulesLives.{Finds}
use Rattle.run_grows.specs.Given.SchedulesMoment.{UnderWay as CallThere, Moment}
use Rattle.run_grows.specs.Given.SchedulesReclaims.{IsProtected}
use Rattle.run_grows.specs.Given.SchedulesSequential.{Shift}
use Rattle.run_grows.specs.Given.SchedulesSteps.{IsBrief}
use Rattle.run_grows.proofs.Given.HistoriesOtherCalls.{no_calls_are_linearizable}
use Rattle.run_grows.specs.Given.PromisesProtected.{is_of_slots}
use Rattle.run_grows.specs.Given.PromisesSheltered.{SectionsHold}
use Rattle.run_grows.proofs.Given.PromisesProtected.{other_events_end_protected}
use Rattle.run_sweeps.proofs.Purposes.Nothing.{no_calls_are_swept}
use Rattle.run_legal.specs.MapEvents.{MapEventsAreLegal}
use Rattle.run_grows.specs.Given.SchedulesTransition.{past, transition}
use Rattle.run_grows.proofs.Given.General.{both_true as and_both}
use Rattle.run_sweeps.proofs.Needs.Shifts.{making_none}

-- Its effects bring no pair and take none out that is not ended.

ending_none : (f : Effect) → is_ending f ≡ true → shift_of f ≡ []
ending_none (Ended n) is = refl
ending_none (Taken t) is = refl
ending_none _ is = absurd (cc is)

module _ {K V : Type 0} where
  shifts_none : (event : Event K V) (m : Moment K V) (f : Effect) → is_of_slots event ≡ false → caller_of event ≡ None → may_do event m f ≡ true → shift_of f ≡ []
  shifts_none (MakeMap name mode capacity) m f of_maps none may = making_none f may
  shifts_none (EndMap name) m f of_maps none may = ending_none f may
  shifts_none _ m f of_maps none may = absurd (cc (of_maps, none, may))

  all_shift_none : (event : Event K V) (m : Moment K V) (effects : List Effect) → is_of_slots event ≡ false → caller_of event ≡ None → list_all (may_do event m) effects ≡ true
      → flat_map shift_of effects ≡ []
  all_shift_none event m [] of_maps none may = refl
  all_shift_none event m (f ∷ effects) of_maps none may =
      let each = and_both (may_do event m f) (list_all (may_do event m) effects) may in
      ap (λ (xs : List Shift). xs ++ flat_map shift_of effects) (shifts_none event m f of_maps none each.0) ∙ all_shift_none event m effects of_maps none each.1

  gives_none : (event : Event K V) → is_of_slots event ≡ false → gives_all event ≡ false
  gives_none ReclaimAll of_maps = absurd (cc of_maps)
  gives_none Close of_maps = absurd (cc of_maps)
  gives_none _ of_maps = refl

  never_refuses : (event : Event K V) → caller_of event ≡ None → refuses event ≡ false
  never_refuses (Step caller refuse) none = absurd (cc none)
  never_refuses (Go caller refuse) none = absurd (cc none)
  never_refuses _ none = refl

pub map_events_are_legal : (K V : Type 0) (same : K → K → Bool) → MapEventsAreLegal K V same
map_events_are_legal K V same name terms log map beginning m known s e midst may finds none begins acted whole by_model = (
  record {
    brief = subst (λ (o : Option (List ℕ)). IfCall (λ (c : CallThere K V). IsBrief c.call c (moments_from c.begun log) (worked e (moment log)) (c.steps + e.steps)) (acting o (worked e (moment log)))) (sym none) tt;
    linearizable = no_calls_are_linearizable K V same (past log) (transition log e) none (all_shift_none e.event (moment log) e.effects midst.of_maps none may);
    swept = no_calls_are_swept K V same terms (past log) (transition log e) none;
    life = record {
      finds = all_find;
      may = may;
      granted = midst.granted;
      refuses = ap (λ (q : Bool). not q || not (list_any is_made e.effects)) (never_refuses e.event none);
      whole = whole;
      leaves = subst (λ (o : Option (List ℕ)). IfCall (LeavesOf (is_clear_outcome e.outcome) e.outcome) (acting o (worked e (moment log)))) (sym none) tt;
    };
    protected = safe.0;
    by_model = by_model;
  },
  safe.1,
)
  where
    -- each effect finds what it must of a call of this caller, if of any, on this map
    AllBy : Option (List ℕ) → Option ℕ → Bool → Moment K V → Type 0
    AllBy who o all b = AtEachEffect (Finds terms who o all (moments_of terms log (acting who b))) who o e.effects b

    all_find : AllFind terms log e (at_work e (moment log))
    all_find = subst (λ (b : Moment K V). AllBy (caller_of e.event) (acted_on e.event b) (gives_all e.event) b) (sym begins)
        (subst (λ (who : Option (List ℕ)). AllBy who (acted_on e.event beginning) (gives_all e.event) beginning) (sym none)
        (subst (λ (o : Option ℕ). AllBy None o (gives_all e.event) beginning) (sym acted)
        (subst (λ (all : Bool). AllBy None (Some map) all beginning) (sym (gives_none e.event midst.of_maps)) finds)))

    safe : IsProtected log e × SectionsHold (after e (moment log)) known s.world
    safe = other_events_end_protected K V log e beginning m None (Some map) known s.world midst.of_maps begins none acted midst.worked midst.protects
