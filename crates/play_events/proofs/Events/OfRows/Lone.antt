-- Where an event that speaks of no call comes alone, no call is under way, and the waiting sets are those of the model.
use Rattle.std.specs.Prelude.{◌≡◌, ◌==◌, ℕ, Bool, true, List, [], ◌∷◌, Option, None, map}
use Rattle.std.specs.List.{list_all, list_any}
use Rattle.std.proofs.Common.{refl, ap, sym, subst, inl, inr, ◌∙◌}
use Rattle.run_schedules.specs.declared.event.Event.{Event}
use Rattle.run_schedules.specs.Schedules.After.{is_by, moment}
use Rattle.run_schedules.specs.Schedules.Entry.{Entry, speaker}
use Rattle.run_schedules.specs.Schedules.Moment.{UnderWay as CallThere}
use Rattle.run_schedules.specs.Schedules.Terms.{Terms}
use Rattle.play_lists.specs.Given.EffectsKnown.{known}
use Rattle.run_legal.specs.Given.ModelsFollows.{FollowsModel}
use Rattle.run_legal.specs.Carried.{IsSequential, FollowsOrRows}
use Rattle.play_stepping.specs.Given.NamedSeen.{seen, seen_of}
use Rattle.play_stepping.specs.Given.ExecutorDeclared.caller.NamedCaller.{NamedCaller}
use Rattle.play_stepping.specs.Given.SchedulerDeclared.scheduler.Scheduler.{Scheduler}
use Rattle.play_events.specs.Events.OfCalls.{Runs}
use Rattle.play_events.proofs.Events.OfCalls.Alone.{row_of_caller}
use Rattle.play_stepping.proofs.Given.General.{both_true as both_so}

module _ {K V S : Type 0} (same : K → K → Bool) (hash : K → ℕ) (terms : Terms) (log : List (Entry K V)) (p : Scheduler K V S) (run : Runs same hash terms log p) where
  -- calls of nobody are none
  no_calls : (calls : List (CallThere K V)) → list_all (is_by None) calls ≡ true → calls ≡ []
  no_calls [] all = refl
  no_calls (c ∷ calls) all = absurd (cc all)

  no_callers : (ds : List (NamedCaller V)) → [] ≡ map seen_of ds → (i : ℕ) → list_any (λ (d : NamedCaller V). d.number == i) ds ≡ true → ⊥
  no_callers [] is i any = cc any
  no_callers (d ∷ ds) is i any = cc is

  pub alone_follows : (event : Event K V) → speaker event ≡ None → IsSequential event log → FollowsModel terms.batch_size terms.roots log (known p.logged.notes) run.stands.scene.world
  alone_follows event speaks alone = by (run.shows.follows (both_so (moment log).is_alone _ alone).0)
    where
      none : (moment log).calls ≡ []
      none = no_calls (moment log).calls (subst (λ (who : Option (List ℕ)). list_all (is_by who) (moment log).calls ≡ true) speaks (both_so (moment log).is_alone _ alone).1)

      by : FollowsOrRows terms log (known p.logged.notes) run.stands.scene.world → FollowsModel terms.batch_size terms.roots log (known p.logged.notes) run.stands.scene.world
      by (inl follows) = follows
      by (inr (i, row)) =
          absurd (no_callers p.calls (sym (ap (map seen) none) ∙ run.stands.calls.listed) i (row_of_caller same hash terms log p run.stands i row.goes))
