-- An event that does nothing keeps its promises.
use Rattle.std.specs.Prelude.{◌≡◌, Bool, true, false, not, ◌||◌, List, []}
use Rattle.std.specs.List.{list_all, list_any}
use Rattle.std.proofs.Common.{refl, sym, subst}
use Rattle.run_grows.specs.Given.SeizeWorld.{World}
use Rattle.run_grows.specs.Given.TablesDeclared.node.Node.{Node}
use Rattle.run_grows.specs.Given.RunsDeclared.effect.Effect.{Effect}
use Rattle.run_grows.specs.Given.SchedulesAfter.{after, moment}
use Rattle.run_grows.specs.Given.SchedulesBeginning.{at_work}
use Rattle.run_grows.specs.Given.SchedulesEffects.{AtEachEffect, worked}
use Rattle.run_grows.specs.Given.SchedulesEntry.{Entry, IfCall, acted_on, acting, caller_of}
use Rattle.run_grows.specs.Given.SchedulesHanding.{IsWhole, LeavesOf, is_clear_outcome, gives_all, is_granted, is_made, may_do, moments_of, refuses as refuses_growth}
use Rattle.run_grows.specs.Given.SchedulesLinearizable.{IsLinearizable}
use Rattle.run_grows.specs.Given.SchedulesLives.{Finds}
use Rattle.run_grows.specs.Given.SchedulesModel.{changes_of, left_last}
use Rattle.run_grows.specs.Given.SchedulesReclaims.{IsProtected}
use Rattle.run_grows.specs.Given.SchedulesSteps.{ReadsBriefly}
use Rattle.run_grows.specs.Given.SchedulesSweeps.{IsSwept}
use Rattle.run_grows.specs.Given.SchedulesTerms.{Terms}
use Rattle.run_grows.specs.Given.EffectsKnown.{Known}
use Rattle.run_grows.proofs.Given.HistoriesNoKey.Idle.{idle_are_linearizable}
use Rattle.run_grows.proofs.Given.ModelsFollows.{idle_events_follow}
use Rattle.run_grows.specs.Given.PromisesGuards.{EntersInside}
use Rattle.run_grows.specs.Given.PromisesSheltered.{SectionsHold}
use Rattle.run_grows.proofs.Given.PromisesProtected.{idle_events_are_protected}
use Rattle.run_legal.specs.CallEvents.{IsLegalBut}
use Rattle.run_legal.specs.MapEvents.{IdleEventsAreLegal}
use Rattle.run_grows.specs.Given.SchedulesTransition.{past, transition}

-- nothing was made
pub none_made : (q : Bool) → (not q || true) ≡ true
none_made true = refl
none_made false = refl

module _ (K V : Type 0) (same : K → K → Bool) (terms : Terms) (log : List (Entry K V)) (known : Known) (w : World (Node K V)) (e : Entry K V) where
  -- so it is of any event that does nothing, if it changes maps, answers and asks as it may
  pub still_events_are_legal : e.effects ≡ [] → IsLinearizable same log e → SectionsHold (moment log) known w → EntersInside w e.event e.outcome (moment log).there → changes_of log e ≡ []
      → left_last e.event e.outcome (moment log) ≡ [] → ReadsBriefly log e (worked e (moment log)) → IsSwept same terms log e
      → IsWhole e.event e.outcome e.effects (moment log) (worked e (moment log)) → IfCall (LeavesOf (is_clear_outcome e.outcome) e.outcome) (acting (caller_of e.event) (worked e (moment log)))
      → IsLegalBut same terms log e × SectionsHold (after e (moment log)) known w
  still_events_are_legal nothing linear hold enters unchanged none_left brief swept whole leaves = (
    record {
      brief = brief;
      linearizable = linear;
      swept = swept;
      life = record {
        finds = subst (λ (fs : List Effect). AtEachEffect (Finds terms (caller_of e.event) (acted_on e.event (at_work e (moment log))) (gives_all e.event)
            (moments_of terms log (acting (caller_of e.event) (at_work e (moment log))))) (caller_of e.event) (acted_on e.event (at_work e (moment log))) fs (at_work e (moment log))) (sym nothing) tt;
        may = subst (λ (fs : List Effect). list_all (may_do e.event (moment log)) fs ≡ true) (sym nothing) refl;
        granted = subst (λ (fs : List Effect). is_granted false fs ≡ true) (sym nothing) refl;
        refuses = subst (λ (fs : List Effect). (not (refuses_growth e.event) || not (list_any is_made fs)) ≡ true) (sym nothing) (none_made (refuses_growth e.event));
        whole = whole;
        leaves = leaves;
      };
      protected = safe.0;
      by_model = (idle_events_follow K V terms log e nothing unchanged none_left).0;
    },
    safe.1,
  )
    where
      safe : IsProtected log e × SectionsHold (after e (moment log)) known w
      safe = idle_events_are_protected K V log e known w nothing hold enters

pub idle_events_are_legal : (K V : Type 0) (same : K → K → Bool) → IdleEventsAreLegal K V same
idle_events_are_legal K V same terms log known w e nothing idle hold enters unchanged none_left brief swept whole leaves =
    still_events_are_legal K V same terms log known w e nothing (idle_are_linearizable K V same (past log) (transition log e) nothing idle) hold enters unchanged none_left brief swept whole leaves
