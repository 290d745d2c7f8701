-- An event by which nothing is done keeps the run: one that was refused, and one with whose slot there was nothing to be done.
use Rattle.std.specs.Prelude.{◌≡◌, ◌≢◌, ◌||◌, ◌+◌, ℕ, Bool, true, false, List, [], ◌∷◌, not, Option, None, flat_map}
use Rattle.std.specs.List.{list_all, list_any}
use Rattle.std.proofs.Common.{refl, sym, ap, subst, ◌∙◌}
use Rattle.play_stepping.specs.Given.SeizeWorld.{World, IsInside}
use Rattle.play_lists.specs.Given.TablesDeclared.node.Node.{Node}
use Rattle.play_lists.proofs.Given.HistoriesOtherCalls.{no_calls_are_linearizable}
use Rattle.run_schedules.specs.Given.SeizeWordsDeclared.fault.Fault.{Fault}
use Rattle.run_schedules.specs.Given.SeizeWordsDeclared.fault.Fault.TheVariants.{Busy}
use Rattle.run_schedules.specs.Runs.Present.{Present, guards_on, slot_of_guard, slot_of_registration}
use Rattle.run_schedules.specs.declared.effect.Effect.{Effect}
use Rattle.run_schedules.specs.declared.event.Event.{Event}
use Rattle.run_schedules.specs.declared.event.Event.TheVariants.{DropGuard, EndMap, Enter, Flush, MakeMap, Own, Refresh, Register, Unregister}
use Rattle.run_schedules.specs.declared.outcome.Outcome.TheVariants.{Done, Refused}
use Rattle.run_schedules.specs.Schedules.After.{after, moment, moments_from, slots_on}
use Rattle.run_schedules.specs.Schedules.Beginning.{at_work}
use Rattle.run_schedules.specs.Schedules.Effects.{AtEachEffect, worked}
use Rattle.run_schedules.specs.Schedules.Entry.{Entry, IfCall, acted_on, acting, caller_of}
use Rattle.run_schedules.specs.Schedules.Handing.{IsWhole, LeavesOf, is_clear_outcome, gives_all, is_granted, is_made, may_do, moments_of, refuses as refuses_growth}
use Rattle.run_schedules.specs.Schedules.InTurn.{HasRightOutcome}
use Rattle.run_schedules.specs.Schedules.Lives.{Finds}
use Rattle.run_schedules.specs.Schedules.Model.{changes_of, left_last}
use Rattle.run_schedules.specs.Schedules.Moment.{UnderWay as CallThere, Moment}
use Rattle.run_schedules.specs.Schedules.Reclaims.{IsProtected}
use Rattle.run_schedules.specs.Schedules.Steps.{IsBrief}
use Rattle.run_schedules.specs.Schedules.Terms.{Terms}
use Rattle.play_lists.specs.Given.EffectsKnown.{Known, known}
use Rattle.run_schedules.specs.Schedules.Linearizable.{shift_of}
use Rattle.run_legal.specs.Given.PromisesGuards.{EntersInside}
use Rattle.play_lists.specs.Given.PromisesSheltered.{SectionsHold}
use Rattle.run_legal.proofs.Given.PromisesProtected.{idle_events_are_protected}
use Rattle.run_legal.proofs.Given.ModelsFollows.{idle_events_follow}
use Rattle.play_lists.proofs.Given.ModelsRows.{events_are_rows}
use Rattle.play_stepping.proofs.Given.PurposesNothing.{no_calls_are_swept}
use Rattle.play_lists.specs.Given.FindsLittle.{ReclaimsAll}
use Rattle.run_legal.specs.CallEvents.{IsLegalBut}
use Rattle.run_legal.specs.Carried.{RefinesRun}
use Rattle.run_legal.specs.Over.{LeavesAll}
use Rattle.run_legal.proofs.Over.{idle_events_end}
use Rattle.run_legal.proofs.Given.RowsThere.{is_inside}
use Rattle.play_stepping.specs.Given.SchedulerPlayed.{IsInTurn, IsPlayed, RefinesFor}
use Rattle.play_stepping.specs.Given.SchedulerWorks.{HasNoRow, IsAbout}
use Rattle.play_stepping.specs.Given.SchedulerDeclared.scheduler.Scheduler.{Scheduler}
use Rattle.play_stepping.proofs.Given.SchedulerDropped.{free_lives}
use Rattle.play_stepping.proofs.Given.SchedulerEnters as enters_so
use Rattle.play_stepping.proofs.Given.SchedulerRights.{entry}
use Rattle.play_events.specs.Events.Asked.{is_of_calls}
use Rattle.play_events.proofs.Events.OfCalls.Worth.{nobody_says}
use Rattle.play_events.specs.Events.OfCalls.{Runs, RunsOn}
use Rattle.play_events.specs.Events.OfRows.{is_of_rows}
use Rattle.play_events.proofs.Events.OfCalls.AsBefore.{as_before}
use Rattle.play_events.proofs.Events.OfRows.Facts.{inside_by, slot_is}
use Rattle.run_schedules.specs.Schedules.Transition.{past, transition}
use Rattle.run_legal.proofs.Idle.{none_made}

module _ {K V : Type 0} where
  -- Nothing is changed by this event, which is of no call, and has done nothing.
  pub record IsStill (log : List (Entry K V)) (w : World (Node K V)) (e : Entry K V) : Type 0 where
    pub caller : caller_of e.event ≡ None
    pub no_call : is_of_calls e.event ≡ false
    pub changes : changes_of log e ≡ []
    pub left : left_last e.event e.outcome (moment log) ≡ []
    pub enters : EntersInside w e.event e.outcome (moment log).there
    pub whole : IsWhole e.event e.outcome [] (moment log) (worked e (moment log))
    pub leaves : LeavesAll e.event e.outcome e.steps
    pub reclaims : ReclaimsAll log e

  -- So it is legal, and the sections hold what they shelter.
  pub still_legal : (same : K → K → Bool) (terms : Terms) (log : List (Entry K V)) (known : Known) (w : World (Node K V)) (e : Entry K V) → e.effects ≡ [] → IsStill log w e
      → SectionsHold (moment log) known w → IsLegalBut same terms log e × SectionsHold (after e (moment log)) known w
  still_legal same terms log known w e nothing still hold = (
    record {
      brief = subst (λ (o : Option (List ℕ)). IfCall (λ (c : CallThere K V). IsBrief c.call c (moments_from c.begun log) (worked e (moment log)) (c.steps + e.steps)) (acting o (worked e (moment log))))
          (sym still.caller) tt;
      linearizable = no_calls_are_linearizable K V same (past log) (transition log e) still.caller (ap (flat_map shift_of) nothing);
      swept = no_calls_are_swept K V same terms (past log) (transition log e) still.caller;
      life = record {
        finds = subst (λ (fs : List Effect). AtEachEffect (Finds terms (caller_of e.event) (acted_on e.event (at_work e (moment log))) (gives_all e.event)
            (moments_of terms log (acting (caller_of e.event) (at_work e (moment log))))) (caller_of e.event) (acted_on e.event (at_work e (moment log))) fs (at_work e (moment log))) (sym nothing) tt;
        may = subst (λ (fs : List Effect). list_all (may_do e.event (moment log)) fs ≡ true) (sym nothing) refl;
        granted = subst (λ (fs : List Effect). is_granted false fs ≡ true) (sym nothing) refl;
        refuses = subst (λ (fs : List Effect). (not (refuses_growth e.event) || not (list_any is_made fs)) ≡ true) (sym nothing) (none_made (refuses_growth e.event));
        whole = subst (λ (fs : List Effect). IsWhole e.event e.outcome fs (moment log) (worked e (moment log))) (sym nothing) still.whole;
        leaves = subst (λ (o : Option (List ℕ)). IfCall (LeavesOf (is_clear_outcome e.outcome) e.outcome) (acting o (worked e (moment log)))) (sym still.caller) tt;
      };
      protected = safe.0;
      by_model = (idle_events_follow K V terms log e nothing still.changes still.left).0;
    },
    safe.1,
  )
    where
      safe : IsProtected log e × SectionsHold (after e (moment log)) known w
      safe = idle_events_are_protected K V log e known w nothing hold still.enters

module _ {K V S : Type 0} (same : K → K → Bool) (hash : K → ℕ) (terms : Terms) (log : List (Entry K V)) (old : Scheduler K V S) (run : Runs same hash terms log old) where
  -- So the run goes on, where executor, notes and callers are as they were.
  pub still_keeps : (e : Entry K V) (new : Scheduler K V S) → e.effects ≡ [] → IsStill log run.stands.scene.world e → new.logged ≡ old.logged → new.calls ≡ old.calls
      → IsPlayed same hash terms (e ∷ log) new → HasRightOutcome terms log e → slots_on e.outcome (moment log).slots ≡ (moment log).slots → RunsOn same hash terms log e new
  still_keeps e new nothing still logged calls played right no_slot = as_before same hash terms log old new run logged calls e nothing legal.0 shows (nobody_says e (moment log) still.no_call) played right no_slot
    where
      legal : IsLegalBut same terms log e × SectionsHold (after e (moment log)) (known old.logged.notes) run.stands.scene.world
      legal = still_legal same terms log (known old.logged.notes) run.stands.scene.world e nothing still run.shows.sections

      shows : RefinesRun same run.stands.name terms (e ∷ log) (known old.logged.notes) run.stands.scene
      shows =
          idle_events_end K V same run.stands.name terms log (known old.logged.notes) run.stands.scene run.shows e right legal.0.life nothing still.changes still.left still.reclaims still.leaves
          legal.1

-- one that was refused is whole, and changes nothing
module _ {K V : Type 0} (log : List (Entry K V)) (w : Moment K V) where
  whole_refused : (event : Event K V) → is_of_rows event ≡ true → (fault : Fault) → IsWhole event (Refused fault) [] (moment log) w
  whole_refused (Register registration) of Busy = refl
  whole_refused (Register registration) of _ = tt
  whole_refused (Unregister registration) of Busy = refl
  whole_refused (Unregister registration) of _ = tt
  whole_refused (Enter guard registration) of Busy = refl
  whole_refused (Enter guard registration) of _ = tt
  whole_refused (Own guard) of Busy = refl
  whole_refused (Own guard) of _ = tt
  whole_refused (Refresh guard) of Busy = refl
  whole_refused (Refresh guard) of _ = tt
  whole_refused (Flush guard) of Busy = refl
  whole_refused (Flush guard) of _ = tt
  whole_refused (DropGuard guard) of Busy = refl
  whole_refused (DropGuard guard) of _ = tt
  whole_refused (MakeMap own mode capacity) of Busy = refl
  whole_refused (MakeMap own mode capacity) of _ = refl
  whole_refused (EndMap own) of Busy = refl
  whole_refused (EndMap own) of _ = tt
  whole_refused _ of fault = absurd (cc of)

module _ {K V : Type 0} (log : List (Entry K V)) (w : World (Node K V)) where
  pub refused_still : (event : Event K V) → is_of_rows event ≡ true → (fault : Fault) (steps : ℕ) → IsStill log w (entry event (Refused fault) steps [])
  refused_still (Register registration) of fault steps = record { caller = refl; no_call = refl; changes = refl; left = refl; enters = tt; whole = whole_refused log _ (Register registration) of fault; leaves = tt; reclaims = tt }
  refused_still (Unregister registration) of fault steps = record { caller = refl; no_call = refl; changes = refl; left = refl; enters = tt; whole = whole_refused log _ (Unregister registration) of fault; leaves = tt; reclaims = tt }
  refused_still (Enter guard registration) of fault steps = record { caller = refl; no_call = refl; changes = refl; left = refl; enters = tt; whole = whole_refused log _ (Enter guard registration) of fault; leaves = tt; reclaims = tt }
  refused_still (Own guard) of fault steps = record { caller = refl; no_call = refl; changes = refl; left = refl; enters = tt; whole = whole_refused log _ (Own guard) of fault; leaves = tt; reclaims = tt }
  refused_still (Refresh guard) of fault steps = record { caller = refl; no_call = refl; changes = refl; left = refl; enters = tt; whole = whole_refused log _ (Refresh guard) of fault; leaves = tt; reclaims = tt }
  refused_still (Flush guard) of fault steps = record { caller = refl; no_call = refl; changes = refl; left = refl; enters = tt; whole = whole_refused log _ (Flush guard) of fault; leaves = tt; reclaims = tt }
  refused_still (DropGuard guard) of fault steps = record { caller = refl; no_call = refl; changes = refl; left = refl; enters = tt; whole = whole_refused log _ (DropGuard guard) of fault; leaves = tt; reclaims = tt }
  refused_still (MakeMap own mode capacity) of fault steps = record { caller = refl; no_call = refl; changes = refl; left = refl; enters = tt; whole = whole_refused log _ (MakeMap own mode capacity) of fault; leaves = tt; reclaims = tt }
  refused_still (EndMap own) of fault steps = record { caller = refl; no_call = refl; changes = refl; left = refl; enters = tt; whole = whole_refused log _ (EndMap own) of fault; leaves = tt; reclaims = tt }
  refused_still _ of fault steps = absurd (cc of)

-- And so does one with whose slot there was nothing to be done, as others are there.
module _ {K V S : Type 0} (same : K → K → Bool) (hash : K → ℕ) (terms : Terms) (log : List (Entry K V)) (p : Scheduler K V S) (stands : RefinesFor same hash terms (moment log) p) where
  abbrev m : Moment K V
  m = moment log

  abbrev w : World (Node K V)
  w = stands.scene.world

  others_on : (guard : List ℕ) (slot : ℕ) → slot_of_guard guard m.there ≡ slot → guards_on slot p.there.guards ≢ 1 → guards_on (slot_of_guard guard m.there) m.there.guards ≢ 1
  others_on guard slot its many one =
      many (sym (ap (λ (x : ℕ). guards_on x m.there.guards) its ∙ ap (λ (x : Present). guards_on slot x.guards) stands.there) ∙ one)

  pub none_still : (event : Event K V) → m.is_closed ≡ false → (steps slot : ℕ) → IsAbout event p slot → HasNoRow event p.there slot → IsStill log w (entry event Done steps [])
  none_still (Unregister registration) turn steps slot about some = record { caller = refl; no_call = refl; changes = refl; left = refl; enters = tt; whole = tt; leaves = tt; reclaims = tt }
  none_still (Enter guard registration) turn steps slot (none, found) some = record {
    caller = refl;
    no_call = refl;
    changes = (events_are_rows K V m).1.enters guard registration
        (λ zero. some (sym (ap (λ (x : ℕ). guards_on x m.there.guards) its ∙ ap (λ (x : Present). guards_on slot x.guards) stands.there) ∙ zero));
    left = refl;
    enters = subst (λ (x : ℕ). IsInside (w.uses x)) (sym its) (inside_by _ (w.uses slot) (stands.shown.is_at.uses slot) (stands.slots slot ∙ is_inside slot p.there some));
    whole = tt;
    leaves = tt;
    reclaims = tt;
  }
    where
      due : IsInTurn same hash terms log (Enter guard registration) p
      due = record { played = stands; in_turn = turn }

      its : slot_of_registration registration m.there ≡ slot
      its = enters_so.its_slot same hash terms log p guard registration due none slot found
  none_still (Refresh guard) turn steps slot free many = record {
    caller = refl;
    no_call = refl;
    changes = (events_are_rows K V m).1.refreshes guard (others_on guard slot (slot_is same hash terms log p stands guard slot (free_lives same hash terms m p stands guard slot free)) many);
    left = refl;
    enters = tt;
    whole = tt;
    leaves = tt;
    reclaims = tt;
  }
  none_still (DropGuard guard) turn steps slot free many = record {
    caller = refl;
    no_call = refl;
    changes = (events_are_rows K V m).1.leaves guard (others_on guard slot (slot_is same hash terms log p stands guard slot (free_lives same hash terms m p stands guard slot free)) many);
    left = refl;
    enters = tt;
    whole = tt;
    leaves = tt;
    reclaims = tt;
  }
  none_still _ turn steps slot about none = absurd none
