-- An event by which a call says again what it asks, or that it is ready: it keeps its promises, and the run goes on with it.
use Rattle.std.specs.Prelude.{◌≡◌, ◌≤◌, ℕ, Bool, true, false, cond, List, [], ◌∷◌, filter, find, length, map, position, Some}
use Rattle.std.specs.List.{AllByRecursion}
use Rattle.std.proofs.Common.{refl, ap, sym, subst, ◌∙◌, arith}
use Rattle.play_stepping.specs.Given.RawMachine.{machine_asked}
use Rattle.run_schedules.specs.Runs.Same.{is_same}
use Rattle.run_schedules.specs.declared.event.Event.{Event}
use Rattle.run_schedules.specs.declared.outcome.Outcome.{Outcome}
use Rattle.run_schedules.specs.declared.outcome.Outcome.TheVariants.{Asks, Ready}
use Rattle.run_schedules.specs.Schedules.After.{moment, slots_on, after}
use Rattle.run_schedules.specs.Schedules.Entry.{Entry}
use Rattle.run_schedules.specs.Schedules.InTurn.{HasRightOutcome}
use Rattle.run_schedules.specs.Schedules.Moment.{UnderWay as CallThere, CallState, Moment}
use Rattle.run_schedules.specs.Schedules.Terms.{Terms}
use Rattle.run_schedules.specs.Schedules.Views.{call_of}
use Rattle.play_lists.specs.Given.EffectsKnown.{known}
use Rattle.play_lists.specs.Given.FinishesMachines.{machine_of}
use Rattle.run_schedules.specs.declared.event.Event.TheVariants.{Go, Step}
use Rattle.run_legal.specs.CallEvents.{IsLegalBut}
use Rattle.run_legal.specs.Carried.{RefinesRun}
use Rattle.run_legal.specs.Over.{ContinuesBy, IsSaidSo}
use Rattle.run_legal.proofs.Again.{again_events_end}
use Rattle.play_stepping.specs.Given.NamedMachines.{IsAsFar}
use Rattle.play_stepping.specs.Given.NamedSeen.{Seen, far_of, is_named, seen, seen_of}
use Rattle.play_stepping.specs.Given.ExecutorDeclared.caller.NamedCaller.{NamedCaller}
use Rattle.play_stepping.specs.Given.ExecutorDeclared.caller.Stands.{Stands as HowFar}
use Rattle.play_stepping.specs.Given.ExecutorDeclared.caller.Stands.TheVariants as far
use Rattle.play_stepping.specs.Given.SchedulerPlayed.{IsPlayed, entry_of}
use Rattle.play_stepping.specs.Given.SchedulerDeclared.played.Played.{Played}
use Rattle.play_stepping.specs.Given.SchedulerDeclared.scheduler.Scheduler.{Scheduler}
use Rattle.play_stepping.proofs.Given.SchedulerHere.{Here, here_at}
use Rattle.play_stepping.proofs.Given.SchedulerReplied.{far_asks}
use Rattle.play_stepping.proofs.Given.SchedulerRights.{entry_is}
use Rattle.play_stepping.proofs.Given.SchedulerStopped.{asked_ready}
use Rattle.play_stepping.specs.EventSteps.Stepping.{SaysAgain}
use Rattle.play_stepping.proofs.EventSteps.Again.{far_ready}
use Rattle.play_events.proofs.Events.OfCalls.Worth.{SaidIn, event_says}
use Rattle.play_events.specs.Events.OfCalls.{Runs, RunsOn}
use Rattle.play_events.proofs.Events.OfCalls.AsBefore.{as_before}
use Rattle.play_stepping.specs.Given.ExecutorIsThere.{held_by}

-- Who has a name that one caller has at most is as far as that caller.

module _ {K V : Type 0} (own : List ℕ) (d : NamedCaller V) where
  abbrev IsFar : CallThere K V → Type 0
  IsFar x = is_same x.caller own ≡ true → far_of x.stands ≡ d.stands

  heads : (x : CallThere K V) (xs : List (CallThere K V)) (y : NamedCaller V) (ys : List (NamedCaller V)) → map seen (x ∷ xs) ≡ map seen_of (y ∷ ys) → (seen x ≡ seen_of y) × (map seen xs ≡ map seen_of ys)
  heads x xs y ys alike = (cc alike, cc alike)

  none_far : (xs : List (CallThere K V)) (ys : List (NamedCaller V)) → map seen xs ≡ map seen_of ys → length (filter (is_named own) ys) ≤ 0 → AllByRecursion IsFar xs
  none_far [] ys alike none = tt
  none_far (x ∷ xs) [] alike none = absurd (cc alike)
  none_far (x ∷ xs) (y ∷ ys) alike none = by (is_named own y) refl none (none_far xs ys (heads x xs y ys alike).1)
    where
      first : seen x ≡ seen_of y
      first = (heads x xs y ys alike).0

      by : (q : Bool) → is_named own y ≡ q → length (cond q (y ∷ filter (is_named own) ys) (filter (is_named own) ys)) ≤ 0 → (length (filter (is_named own) ys) ≤ 0 → AllByRecursion IsFar xs)
          → AllByRecursion IsFar (x ∷ xs)
      by true is few rest = absurd (omega (arith, few))
      by false is few rest = (λ its. absurd (let named = ap (λ (z : Seen). is_same z.name own) first in cc (its, named, is)), rest few)

  all_far : (xs : List (CallThere K V)) (ys : List (NamedCaller V)) → map seen xs ≡ map seen_of ys → length (filter (is_named own) ys) ≤ 1 → find (is_named own) ys ≡ Some d → AllByRecursion IsFar xs
  all_far [] ys alike once found = tt
  all_far (x ∷ xs) [] alike once found = absurd (cc alike)
  all_far (x ∷ xs) (y ∷ ys) alike once found = by (is_named own y) refl once found (all_far xs ys (heads x xs y ys alike).1)
    where
      both : (seen x ≡ seen_of y) × (map seen xs ≡ map seen_of ys)
      both = heads x xs y ys alike

      by : (q : Bool) → is_named own y ≡ q → length (cond q (y ∷ filter (is_named own) ys) (filter (is_named own) ys)) ≤ 1 → cond q (Some y) (find (is_named own) ys) ≡ Some d
          → (length (filter (is_named own) ys) ≤ 1 → find (is_named own) ys ≡ Some d → AllByRecursion IsFar xs) → AllByRecursion IsFar (x ∷ xs)
      by true is few there rest =
          let it : y ≡ d = cc there in
          (λ its. ap (λ (z : Seen). z.far) both.0 ∙ ap (λ (z : NamedCaller V). z.stands) it, none_far xs ys both.1 (omega (arith, few)))
      by false is few there rest = (λ its. absurd (let named = ap (λ (z : Seen). is_same z.name own) both.0 in cc (its, named, is)), rest few there)

module _ {K V S : Type 0} (same : K → K → Bool) (hash : K → ℕ) (terms : Terms) (log : List (Entry K V)) (old : Scheduler K V S) (runs : Runs same hash terms log old) (own : List ℕ) (place : ℕ)
    (placed : Some place ≡ position (is_named own) old.calls) where
  abbrev here : Here same hash terms (moment log) old runs.stands own place
  here = here_at same hash terms (moment log) old runs.stands own place placed

  -- what is said of a caller that stands so
  abbrev pub IsSaidAt : Outcome V → HowFar → Type 0
  IsSaidAt (Asks question) how = how ≡ far.Asks question
  IsSaidAt Ready how = how ≡ far.Ready
  IsSaidAt _ how = ⊥

  said_at : (said : Outcome V) → IsSaidAt said here.caller.stands → (stand : CallState) → far_of stand ≡ here.caller.stands → IsSaidSo said stand
  said_at (Asks question) is stand so = far_asks stand question (so ∙ is)
  said_at Ready is stand so = far_ready stand (so ∙ is)
  said_at _ is stand so = absurd is

  -- all calls of its name say so
  all_say : (said : Outcome V) → IsSaidAt said here.caller.stands → (calls : List (CallThere K V)) → AllByRecursion (λ (x : CallThere K V). is_same x.caller own ≡ true → far_of x.stands ≡ here.caller.stands) calls
      → AllByRecursion (λ (x : CallThere K V). is_same x.caller own ≡ true → IsSaidSo said x.stands) calls
  all_say said is [] all = tt
  all_say said is (x ∷ calls) all = (λ its. said_at said is x.stands (all.0 its), all_say said is calls all.1)

  module _ (event : Event K V) (on : ContinuesBy event own) (said : Outcome V) (is : IsSaidAt said here.caller.stands) (played : Played V) (new : Scheduler K V S)
      (again : SaysAgain same hash said played old new) (right : HasRightOutcome terms log (entry_of event played)) (plays : IsPlayed same hash terms (entry_of event played ∷ log) new) where
    entry_as : entry_of event played ≡ record { event = event; outcome = said; steps = 0; effects = [] }
    entry_as = entry_is event played said 0 [] again.0 again.1 again.2

    abbrev e : Entry K V
    e = record { event = event; outcome = said; steps = 0; effects = [] }

    name_is : runs.stands.name here.caller.number ≡ own
    name_is = here.way.2 ∙ here.named

    legal : IsLegalBut same terms log e × RefinesRun same runs.stands.name terms (e ∷ log) (known old.logged.notes) runs.stands.scene
    legal =
        again_events_end K V same (λ map. hash) runs.stands.name terms log (known old.logged.notes) runs.stands.scene (held_by old.logged.executor) runs.stands.shown.is_at.held runs.shows here.caller.map here.caller.number
        here.way.0 here.way.1 here.call (ap (λ (x : List ℕ). call_of x (moment log)) name_is ∙ here.call_is) event (subst (ContinuesBy event) (sym name_is) on) said
        (said_at said is here.call.stands (ap (λ (z : Seen). z.far) here.as_seen)) (λ ready. machine_ready ready)
        (subst (λ (x : List ℕ). AllByRecursion (λ (d : CallThere K V). is_same d.caller x ≡ true → IsSaidSo said d.stands) (moment log).calls) (sym name_is)
        (all_say said is (moment log).calls (all_far own here.caller (moment log).calls old.calls runs.stands.calls.listed (runs.stands.calls.once own) here.found)))
        (subst (HasRightOutcome terms log) entry_as right)
      where
        machine_ready : said ≡ Ready → (machine_asked (machine_of here.way.0)).1 ≡ true
        machine_ready ready =
            asked_ready here.caller.kind (machine_of here.way.0)
            (subst (λ (how : HowFar). IsAsFar here.caller.kind how (machine_of here.way.0)) (subst (λ (o : Outcome V). IsSaidAt o here.caller.stands) ready is) here.way.4.0)

    -- no call begins, and none is told a reply
    says_again : (x : Event K V) → ContinuesBy x own → (o : Outcome V) → IsSaidAt o here.caller.stands → (v : Moment K V)
        → SaidIn v.calls (after (record { event = x; outcome = o; steps = 0; effects = [] }) v).calls
    says_again (Step caller refuse) its o so v = event_says (record { event = Step caller refuse; outcome = o; steps = 0; effects = [] }) v tt
    says_again (Go caller refuse) its o so v = event_says (record { event = Go caller refuse; outcome = o; steps = 0; effects = [] }) v tt
    says_again _ its o so v = absurd its

    -- it takes no slot
    no_slot : (o : Outcome V) → IsSaidAt o here.caller.stands → slots_on o (moment log).slots ≡ (moment log).slots
    no_slot (Asks question) so = refl
    no_slot Ready so = refl
    no_slot _ so = absurd so

    pub again_on : RunsOn same hash terms log (entry_of event played) new
    again_on =
        subst (λ (x : Entry K V). RunsOn same hash terms log x new) (sym entry_as)
        (as_before same hash terms log old new runs (ap (λ (x : Scheduler K V S). x.logged) again.3) (ap (λ (x : Scheduler K V S). x.calls) again.3) e refl legal.0 legal.1 (says_again event on said is (moment log))
        (subst (λ (x : Entry K V). IsPlayed same hash terms (x ∷ log) new) entry_as plays) (subst (HasRightOutcome terms log) entry_as right) (no_slot said is))
