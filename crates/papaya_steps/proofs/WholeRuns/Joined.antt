-- By all that is said of an event that has happened it keeps its promises, and the run goes on with it.
use Rattle.std.specs.Prelude.{◌≡◌, ◌==◌, ℕ, Bool, true, false, List, ◌∷◌}
use Rattle.std.proofs.Common.{refl}
use Rattle.run_schedules.specs.declared.event.Event.{Event}
use Rattle.run_schedules.specs.declared.event.Event.TheVariants as event
use Rattle.run_schedules.specs.declared.outcome.Outcome.{Outcome}
use Rattle.run_schedules.specs.Schedules.After.{moment}
use Rattle.run_schedules.specs.Schedules.Entry.{Entry}
use Rattle.run_schedules.specs.Schedules.Handing.{gives_all}
use Rattle.run_schedules.specs.Schedules.InTurn.{HasRightOutcome}
use Rattle.run_schedules.specs.Schedules.Terms.{Terms}
use Rattle.run_schedules.specs.Schedules.Runs.{IsLegal}
use Rattle.run_effects.specs.Effects.Known.{known}
use Rattle.play_events.specs.Given.FindsLittle.{ReclaimsAll, WhereAll}
use Rattle.play_events.proofs.Given.LegalLegal.{events_are_legal}
use Rattle.play_events.specs.Given.SchedulerPlayed.{entry_of}
use Rattle.play_events.specs.Given.SchedulerDeclared.played.Played.{Played}
use Rattle.play_events.specs.Given.SchedulerDeclared.scheduler.Scheduler.{Scheduler}
use Rattle.play_events.specs.Events.Asked.{FindsBy, FindsRight, Happens, HappensAt, Holds, is_of_calls}
use Rattle.play_events.specs.Events.OfAll.{PreservesAll}
use Rattle.play_events.specs.Folded.Folded.{HandsInOrder}
use Rattle.play_events.specs.Events.OfCalls.{PreservesAt, Runs, RunsOn}
use Rattle.play_events.specs.Events.OfRows.{PreservesRunAt, is_of_rows}
use Rattle.play_events.specs.Events.OfSetups.{PreservesSetup, is_of_setups}
use Rattle.play_events.proofs.Events.Nobody.{is_word, shows_nobody}

module _ {K V : Type 0} where
  -- an event of no call, whose work is no row, no making and no end, and which does not reclaim all, is one by which no steps run
  is_setup : (its : Event K V) → gives_all its ≡ false → is_of_calls its ≡ false → is_of_rows its ≡ false → is_of_setups its ≡ true
  is_setup (event.Collector setup) all calls rows = refl
  is_setup (event.Hash by) all calls rows = refl
  is_setup (event.Choose choice) all calls rows = refl
  is_setup (event.Forget guard) all calls rows = refl
  is_setup (event.ShowShape name) all calls rows = refl
  is_setup _ all calls rows = absurd (cc (all, calls, rows))

  -- of one that does not reclaim all nothing is said that it reclaims
  reclaims_none : (its : Event K V) (outcome : Outcome V) → gives_all its ≡ false → (P : Type 0) → WhereAll its outcome P
  reclaims_none event.ReclaimAll outcome none P = absurd (cc none)
  reclaims_none event.Close outcome none P = absurd (cc none)
  reclaims_none _ outcome none P = tt

  -- one of no call finds what it must to come to what is right
  others_right : (its : Event K V) → is_of_calls its ≡ false → (terms : Terms) (log : List (Entry K V)) (e : Entry K V) → FindsBy terms log e its
  others_right (event.Step caller refuse) none terms log e = absurd (cc none)
  others_right (event.Go caller refuse) none terms log e = absurd (cc none)
  others_right (event.OneCall guard name call) none terms log e = absurd (cc none)
  others_right _ none terms log e = tt

module _ {K V S : Type 0} (same : K → K → Bool) (hash : K → ℕ) (is_first : Bool) (its : Event K V) (played : Played V) (old new : Scheduler K V S) (happens : HappensAt same hash is_first its played old new)
    (terms : Terms) (log : List (Entry K V)) (first : is_first ≡ ((moment log).events == 0)) (holds : Holds same hash terms (moment log) old) (runs : Runs same hash terms log old) where
  abbrev e : Entry K V
  e = entry_of its played

  it : Happens same hash terms log e new
  it = happens terms log first holds

  -- it comes to what is right, whichever it is
  right : PreservesAt same hash its played old new → HasRightOutcome terms log e
  right calls = (it.plays (finds (is_of_calls its) refl)).right
    where
      finds : (q : Bool) → is_of_calls its ≡ q → FindsRight terms log e
      finds true is = (calls is terms log runs).0
      finds false none = others_right its none terms log e

  -- one that reclaims all,
  of_all : PreservesAt same hash its played old new → PreservesAll same hash its played old new → gives_all its ≡ true → RunsOn same hash terms log e new × ReclaimsAll log e
  of_all calls keeps all = keeps all terms log holds runs it.played (right calls)

  -- and any other
  of_others : PreservesAt same hash its played old new → PreservesRunAt same hash its played old new → PreservesSetup same hash its played old new → gives_all its ≡ false → RunsOn same hash terms log e new
  of_others calls rows setups none = by (is_of_calls its) (is_of_rows its) refl refl
    where
      by : (p q : Bool) → is_of_calls its ≡ p → is_of_rows its ≡ q → RunsOn same hash terms log e new
      by true q is of_rows = (calls is terms log runs).1 (right calls)
      by false true is of_rows = rows of_rows terms log holds runs it.played (right calls)
      by false false is of_rows = setups (is_setup its none is of_rows) terms log runs it.played (right calls)

  goes_on : PreservesAt same hash its played old new → PreservesRunAt same hash its played old new → PreservesSetup same hash its played old new → PreservesAll same hash its played old new
      → RunsOn same hash terms log e new × ReclaimsAll log e
  goes_on calls rows setups all = by (gives_all its) refl
    where
      by : (q : Bool) → gives_all its ≡ q → RunsOn same hash terms log e new × ReclaimsAll log e
      by true is = of_all calls all is
      by false none = (of_others calls rows setups none, reclaims_none its played.outcome none _)

  -- so it is legal, the run goes on, and it hands over in order
  pub legal_on : PreservesAt same hash its played old new → PreservesRunAt same hash its played old new → PreservesSetup same hash its played old new → PreservesAll same hash its played old new
      → IsLegal same terms log e × Runs same hash terms (e ∷ log) new × HandsInOrder log e
  legal_on calls rows setups all =
      let on = goes_on calls rows setups all in (
        events_are_legal K V same on.0.runs.stands.name terms log e (known new.logged.notes) on.0.runs.stands.scene (is_word same hash terms (e ∷ log) new on.0.runs) (right calls) it.makes
            it.does it.waits on.0.legal on.0.runs.shows on.1 (shows_nobody same hash terms (e ∷ log) new on.0.runs),
        on.0.runs,
        on.0.hands,
      )
