-- Wherever a run has come, what is behind the roots is what the moment says is left over, in that order.
use Rattle.std.specs.Prelude.{◌≡◌, ◌<◌, ◌||◌, ℕ, Bool, true, false, List}
use Rattle.std.proofs.Common.{refl, sym, subst, ◌∙◌}
use Rattle.play_stepping.specs.Given.MomentsNumbers.{AreFound}
use Rattle.run_schedules.specs.Schedules.After.{moment}
use Rattle.run_schedules.specs.Schedules.Entry.{Entry}
use Rattle.run_schedules.specs.Schedules.Lists.{is_among}
use Rattle.run_schedules.specs.Schedules.Moment.{Moment}
use Rattle.run_schedules.specs.Schedules.Terms.{Terms}
use Rattle.play_lists.specs.Given.EffectsKnown.{known}
use Rattle.run_legal.specs.AllEvents.{BehindRootsAreLeft, BehindRootsIsLeft, LeftIsBehindRoots}
use Rattle.run_legal.proofs.BehindTold.{behind_is_told}
use Rattle.play_stepping.specs.Given.RemainsRemains.{RefinesRemains, left_roots, map_roots}
use Rattle.play_lists.proofs.Given.RemainsInOrder.{all_noted}
use Rattle.play_stepping.proofs.Given.RemainsLists.{among_append}
use Rattle.play_stepping.specs.Given.SchedulerDeclared.scheduler.Scheduler.{Scheduler}
use Rattle.play_events.specs.Events.OfCalls.{Runs}
use Rattle.play_events.proofs.Events.Remaining.{noted_at}

module _ {K V S : Type 0} (same : K → K → Bool) (hash : K → ℕ) (terms : Terms) (log : List (Entry K V)) (p : Scheduler K V S) (run : Runs same hash terms log p) (found : AreFound (moment log))
    (roots_are : p.logged.executor.roots ≡ terms.roots) where
  abbrev m : Moment K V
  m = moment log

  abbrev c : RefinesRemains p.logged.executor.roots m (known p.logged.notes) run.stands.scene
  c = run.stands.shown.counted.remains

  abbrev IsBelow : ℕ → ℕ → Type 0
  IsBelow r roots = r < roots

  -- roots of what is left over are roots of the collector
  left_below : (r : ℕ) → is_among r (left_roots m) ≡ true → r < terms.roots
  left_below r among = subst (IsBelow r) roots_are (c.below r (among_append r (map_roots m) (left_roots m) ∙ by (is_among r (map_roots m)) (is_among r (left_roots m)) among))
    where
      by : (a b : Bool) → b ≡ true → (a || b) ≡ true
      by true b e = refl
      by false b e = e

  pub behind_so : LeftIsBehindRoots terms.roots m (known p.logged.notes) c.lists × BehindRootsIsLeft terms.roots m (known p.logged.notes) c.lists × BehindRootsAreLeft terms.roots m (known p.logged.notes) c.lists
  behind_so =
      behind_is_told K V terms.roots m (known p.logged.notes) c.lists
      (all_noted (known p.logged.notes).roles c.lists m.remains c.ascending terms.roots
      (λ r lt. noted_at same hash terms m p run.stands found r (subst (IsBelow r) (sym roots_are) lt)) left_below) run.shows.left
