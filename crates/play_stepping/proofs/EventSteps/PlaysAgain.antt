-- The events by which a call would go on that asks, or is ready, or is not there: nothing happens.
use Rattle.std.specs.Prelude.{◌≡◌, ◌+◌, ◌&&◌, ℕ, Bool, true, false, List, [], ◌∷◌, map, position, is_some, Option, Some, None, if◌then◌else◌}
use Rattle.std.proofs.Common.{refl, sym, ap, subst, ◌∙◌, arith}
use Rattle.seize_words.specs.declared.fault.Fault.TheVariants.{Busy}
use Rattle.run_schedules.specs.Runs.Same.{is_same}
use Rattle.run_schedules.specs.declared.event.Event.TheVariants.{Go, Step}
use Rattle.run_schedules.specs.declared.outcome.Outcome.TheVariants.{Asks, Ready, Refused}
use Rattle.run_schedules.specs.Schedules.After.{with_outcome, is_alone_on, moment, moments_from}
use Rattle.run_schedules.specs.Schedules.Coming.{Progresses}
use Rattle.run_schedules.specs.Schedules.Entry.{ByCall, Entry}
use Rattle.run_schedules.specs.Schedules.InTurn.{Continues}
use Rattle.run_schedules.specs.Schedules.Moment.{Asking, IsReady, CallState, UnderWay as CallThere, Moment}
use Rattle.run_schedules.specs.Schedules.Steps.{MakesSteps, state_or}
use Rattle.run_schedules.specs.Schedules.Terms.{Terms}
use Rattle.run_schedules.specs.Schedules.Views.{call_of}
use Rattle.play_scheduler.specs.Given.FollowsCalling.{come_to}
use Rattle.play_scheduler.specs.Played.{IsInTurn, RefinesFor}
use Rattle.run_executor.specs.Named.Seen.{Seen, is_named}
use Rattle.play_stepping.specs.EventSteps.Stepping.{PlaysOn}
use Rattle.run_executor.specs.declared.caller.Stands.TheVariants as far
use Rattle.play_scheduler.specs.declared.scheduler.Scheduler.{Scheduler}
use Rattle.play_stepping.proofs.EventSteps.Again.{asks_again, far_ready, ready_again}
use Rattle.play_scheduler.proofs.Here.{Here, here_at, there_is}
use Rattle.play_stepping.proofs.EventSteps.PlaysSteps.{stands_elsewhere}
use Rattle.play_stepping.proofs.EventSteps.RightSteps.{waits_never}
use Rattle.play_scheduler.proofs.Quiet.{stands_on}
use Rattle.play_scheduler.proofs.Replied.{far_asks}
use Rattle.play_scheduler.proofs.Rights.{in_turn, out_of_turn, plays, quiet}

module _ {K V S : Type 0} (same : K → K → Bool) (hash : K → ℕ) (terms : Terms) (log : List (Entry K V)) (own : List ℕ) (refuse : Bool) (p : Scheduler K V S) where
  abbrev m : Moment K V
  m = moment log

  -- nobody has that name
  no_call : (stands : RefinesFor same hash terms m p) → position (is_named own) p.calls ≡ None → is_some (call_of own m) ≡ false
  no_call stands none = there_is same hash terms m p stands own None (sym none)

  -- a refusal as out of turn leaves all calls as they were, but for steps that are none
  steps_none : (c : CallThere K V) → with_outcome {K = K} {V = V} (Refused Busy) (record c { steps = c.steps + 0 }) ≡ c
  steps_none c = let zero : c.steps + 0 ≡ c.steps = omega arith in ap (λ (n : ℕ). record c { steps = n }) zero

  calls_same : (calls : List (CallThere K V)) → map (λ c. if is_same c.caller own then with_outcome (Refused Busy) (record c { steps = c.steps + 0 }) else c) calls ≡ calls
  calls_same [] = refl
  calls_same (c ∷ calls) = ap (λ (x : CallThere K V). x ∷ map (λ c. if is_same c.caller own then with_outcome (Refused Busy) (record c { steps = c.steps + 0 }) else c) calls) (one (is_same c.caller own))
      ∙ ap (λ (l : List (CallThere K V)). c ∷ l) (calls_same calls)
    where
      one : (b : Bool) → (if b then with_outcome {K = K} {V = V} (Refused Busy) (record c { steps = c.steps + 0 }) else c) ≡ c
      one true = steps_none c
      one false = refl

  pub busy_stands : RefinesFor same hash terms m p → RefinesFor same hash terms (come_to own (Refused Busy) 0 m) p
  busy_stands stands = subst (λ (calls : List (CallThere K V)). RefinesFor same hash terms (record m { calls = calls }) p) (sym (calls_same m.calls)) stands

  pub step_busy : (due : IsInTurn same hash terms log (Step own refuse) p) → position (is_named own) p.calls ≡ None → PlaysOn same hash terms log (quiet (Step own refuse) (Refused Busy)) p
  step_busy due none =
      let e = quiet (Step own refuse) (Refused Busy) in record {
        played = stands_elsewhere same hash terms (come_to own (Refused Busy) 0 m) p (busy_stands due.played) (m.events + 1) m.is_mapped m.is_closed (m.is_alone && is_alone_on e m) m.there m.slots m.sheltered m.remains refl refl refl refl;
        plays = λ within. plays same hash terms log (Step own refuse) p due e refl (out_of_turn (λ o. Continues terms log e) (is_some (call_of own m)) (Refused Busy) (no_call due.played none) refl)
            (stands_elsewhere same hash terms (come_to own (Refused Busy) 0 m) p (busy_stands due.played) (m.events + 1) m.is_mapped m.is_closed (m.is_alone && is_alone_on e m) m.there m.slots m.sheltered m.remains refl refl refl refl);
        makes = refl;
        does = omega arith;
        waits = waits_never same m (Refused Busy) (λ e. cc e) (call_of own m);
        is_quiet = refl;
      }

  pub go_busy : (due : IsInTurn same hash terms log (Go own refuse) p) → position (is_named own) p.calls ≡ None → PlaysOn same hash terms log (quiet (Go own refuse) (Refused Busy)) p
  go_busy due none =
      let e = quiet (Go own refuse) (Refused Busy) in record {
        played = stands_elsewhere same hash terms (come_to own (Refused Busy) 0 m) p (busy_stands due.played) (m.events + 1) m.is_mapped m.is_closed (m.is_alone && is_alone_on e m) m.there m.slots m.sheltered m.remains refl refl refl refl;
        plays = λ within. plays same hash terms log (Go own refuse) p due e refl (out_of_turn (λ o. Continues terms log e) (is_some (call_of own m)) (Refused Busy) (no_call due.played none) refl)
            (stands_elsewhere same hash terms (come_to own (Refused Busy) 0 m) p (busy_stands due.played) (m.events + 1) m.is_mapped m.is_closed (m.is_alone && is_alone_on e m) m.there m.slots m.sheltered m.remains refl refl refl refl);
        makes = refl;
        does = omega arith;
        waits = waits_never same m (Refused Busy) (λ e. cc e) (call_of own m);
        is_quiet = refl;
      }

  -- the call at its place
  module _ (stands : RefinesFor same hash terms m p) (place : ℕ) (placed : Some place ≡ position (is_named own) p.calls) where
    abbrev here : Here same hash terms m p stands own place
    here = here_at same hash terms m p stands own place placed

    in_place : is_some (call_of own m) ≡ true
    in_place = ap is_some here.call_is

    -- it says again that it asks
    module _ (question : Option ℕ) (is : here.caller.stands ≡ far.Asks question) where
      asking : here.call.stands ≡ Asking question
      asking = far_asks here.call.stands question (ap (λ (z : Seen). z.far) here.as_seen ∙ is)

      asks_right : ByCall (λ c. Progresses terms c.stands c (moments_from c.begun log) m (Asks question)) (call_of own m)
      asks_right = subst (λ (o : Option (CallThere K V)). ByCall (λ c. Progresses terms c.stands c (moments_from c.begun log) m (Asks question)) o) (sym here.call_is)
          (subst (λ (x : CallState). Progresses terms x here.call (moments_from here.call.begun log) m (Asks question)) (sym asking) refl)

      stands_or_is : state_or (call_of own m) ≡ Asking question
      stands_or_is = ap state_or here.call_is ∙ asking

      pub step_asks : (due : IsInTurn same hash terms log (Step own refuse) p) → PlaysOn same hash terms log (quiet (Step own refuse) (Asks question)) p
      step_asks due =
          let e = quiet (Step own refuse) (Asks question) in record {
            played = stands_on same hash terms (come_to own (Asks question) 0 m) p (asks_again same hash terms m p stands own place here 0 question is) (m.events + 1) (m.is_alone && is_alone_on e m) m.slots m.sheltered;
            plays = λ within. plays same hash terms log (Step own refuse) p due e refl (in_turn (λ o. Continues terms log e) (is_some (call_of own m)) (Asks question) in_place asks_right)
                (stands_on same hash terms (come_to own (Asks question) 0 m) p (asks_again same hash terms m p stands own place here 0 question is) (m.events + 1) (m.is_alone && is_alone_on e m) m.slots m.sheltered);
            makes = subst (λ (x : CallState). MakesSteps {K = K} {V = V} (Step own refuse) x 0 (Asks question)) (sym stands_or_is) refl;
            does = omega arith;
            waits = waits_never same m (Asks question) (λ e. cc e) (call_of own m);
            is_quiet = tt;
          }

      pub go_asks : (due : IsInTurn same hash terms log (Go own refuse) p) → PlaysOn same hash terms log (quiet (Go own refuse) (Asks question)) p
      go_asks due =
          let e = quiet (Go own refuse) (Asks question) in record {
            played = stands_on same hash terms (come_to own (Asks question) 0 m) p (asks_again same hash terms m p stands own place here 0 question is) (m.events + 1) (m.is_alone && is_alone_on e m) m.slots m.sheltered;
            plays = λ within. plays same hash terms log (Go own refuse) p due e refl (in_turn (λ o. Continues terms log e) (is_some (call_of own m)) (Asks question) in_place asks_right)
                (stands_on same hash terms (come_to own (Asks question) 0 m) p (asks_again same hash terms m p stands own place here 0 question is) (m.events + 1) (m.is_alone && is_alone_on e m) m.slots m.sheltered);
            makes = subst (λ (x : CallState). MakesSteps {K = K} {V = V} (Go own refuse) x 0 (Asks question)) (sym stands_or_is) refl;
            does = omega arith;
            waits = waits_never same m (Asks question) (λ e. cc e) (call_of own m);
            is_quiet = tt;
          }

    -- or that it is ready
    module _ (is : here.caller.stands ≡ far.Ready) where
      being_ready : here.call.stands ≡ IsReady
      being_ready = far_ready here.call.stands (ap (λ (z : Seen). z.far) here.as_seen ∙ is)

      ready_right : ByCall (λ c. Progresses terms c.stands c (moments_from c.begun log) m Ready) (call_of own m)
      ready_right = subst (λ (o : Option (CallThere K V)). ByCall (λ c. Progresses terms c.stands c (moments_from c.begun log) m Ready) o) (sym here.call_is)
          (subst (λ (x : CallState). Progresses terms x here.call (moments_from here.call.begun log) m Ready) (sym being_ready) refl)

      stands_or_ready : state_or (call_of own m) ≡ IsReady
      stands_or_ready = ap state_or here.call_is ∙ being_ready

      pub step_ready : (due : IsInTurn same hash terms log (Step own refuse) p) → PlaysOn same hash terms log (quiet (Step own refuse) Ready) p
      step_ready due =
          let e = quiet (Step own refuse) Ready in record {
            played = stands_on same hash terms (come_to own Ready 0 m) p (ready_again same hash terms m p stands own place here 0 is) (m.events + 1) (m.is_alone && is_alone_on e m) m.slots m.sheltered;
            plays = λ within. plays same hash terms log (Step own refuse) p due e refl (in_turn (λ o. Continues terms log e) (is_some (call_of own m)) Ready in_place ready_right)
                (stands_on same hash terms (come_to own Ready 0 m) p (ready_again same hash terms m p stands own place here 0 is) (m.events + 1) (m.is_alone && is_alone_on e m) m.slots m.sheltered);
            makes = subst (λ (x : CallState). MakesSteps {K = K} {V = V} (Step own refuse) x 0 Ready) (sym stands_or_ready) refl;
            does = omega arith;
            waits = waits_never same m Ready (λ e. cc e) (call_of own m);
            is_quiet = tt;
          }

      pub go_ready : (due : IsInTurn same hash terms log (Go own refuse) p) → PlaysOn same hash terms log (quiet (Go own refuse) Ready) p
      go_ready due =
          let e = quiet (Go own refuse) Ready in record {
            played = stands_on same hash terms (come_to own Ready 0 m) p (ready_again same hash terms m p stands own place here 0 is) (m.events + 1) (m.is_alone && is_alone_on e m) m.slots m.sheltered;
            plays = λ within. plays same hash terms log (Go own refuse) p due e refl (in_turn (λ o. Continues terms log e) (is_some (call_of own m)) Ready in_place ready_right)
                (stands_on same hash terms (come_to own Ready 0 m) p (ready_again same hash terms m p stands own place here 0 is) (m.events + 1) (m.is_alone && is_alone_on e m) m.slots m.sheltered);
            makes = subst (λ (x : CallState). MakesSteps {K = K} {V = V} (Go own refuse) x 0 Ready) (sym stands_or_ready) refl;
            does = omega arith;
            waits = waits_never same m Ready (λ e. cc e) (call_of own m);
            is_quiet = tt;
          }
