-- The last step of a walk to its next pair: it shows a pair, or has shown all; and the event by which it does.
use Rattle.std.specs.Prelude.{◌≡◌, ◌+◌, ◌≤◌, ◌&&◌, ℕ, Bool, true, false, List, [], ◌++◌, find, map, position, slice_get, slice_set, sum_by, Option, Some, None, option_map}
use Rattle.std.specs.List.{remove}
use Rattle.std.proofs.Common.{refl, sym, ap, subst, ◌∙◌, arith}
use Rattle.seize_words.specs.declared.fault.Fault.TheVariants.{Busy}
use Rattle.papaya_raw.specs.Given.TablesDeclared.node.Node.{Node}
use Rattle.papaya_raw.specs.Given.ReservesDeclared.sweep.Sweep.{Sweep}
use Rattle.papaya_raw.specs.Given.ReservesDeclared.sweep.Sweeping.{Sweeping}
use Rattle.papaya_raw.specs.declared.machines.machine.Machine.{Machine}
use Rattle.papaya_raw.specs.declared.machines.machine.Machine.TheVariants as kinds
use Rattle.papaya_raw.specs.declared.machines.progress.Answer.TheVariants as answers
use Rattle.papaya_raw.specs.declared.machines.progress.Progress.{Progress}
use Rattle.papaya_raw.specs.declared.machines.progress.Progress.TheVariants as progress
use Rattle.run_schedules.specs.Runs.Same.{is_same}
use Rattle.run_schedules.specs.declared.call.Response.TheVariants.{Absent}
use Rattle.run_schedules.specs.declared.effect.Effect.{Effect}
use Rattle.run_schedules.specs.declared.event.Event.TheVariants.{Next}
use Rattle.run_schedules.specs.declared.outcome.Outcome.{Outcome}
use Rattle.run_schedules.specs.declared.outcome.Outcome.TheVariants.{Answered, Refused, Shows}
use Rattle.run_schedules.specs.Schedules.After.{with_outcome, is_alone_on, moment, slots_on}
use Rattle.run_schedules.specs.Schedules.Coming.{shows_now}
use Rattle.run_schedules.specs.Schedules.Effects.{with_effects}
use Rattle.run_schedules.specs.Schedules.Entry.{Entry}
use Rattle.run_schedules.specs.Schedules.InTurn.{IsNext}
use Rattle.run_schedules.specs.Schedules.Moment.{CallState, UnderWay as CallThere, Moment}
use Rattle.run_schedules.specs.Schedules.Steps.{MakesSteps, state_or, weight}
use Rattle.run_schedules.specs.Schedules.Terms.{Terms}
use Rattle.run_schedules.specs.Schedules.Views.{call_of}
use Rattle.owner_whole.specs.Given.LateFaults.{RoomInSweeping}
use Rattle.owner_whole.specs.Given.CallersTogether.{UnderWay}
use Rattle.run_executor.specs.Given.EffectsKnown.{Known, known}
use Rattle.owner_whole.specs.Given.FinishesMachines.{machine_of}
use Rattle.play_scheduler.specs.Given.FollowsCalling.{come_to}
use Rattle.play_scheduler.specs.Given.LoggedCalling.{CallContinues, WalkContinues, step_did}
use Rattle.play_scheduler.specs.Given.LoggedShown.{IsShown}
use Rattle.play_scheduler.specs.Given.LoggedDeclared.logged.Logged.{Logged}
use Rattle.play_scheduler.proofs.Given.KeptStays.{calls_come_to_kept}
use Rattle.run_executor.proofs.Given.MomentsCalls.{calls_come_to_whole}
use Rattle.play_scheduler.proofs.Given.RemainsStays.{remains_stay}
use Rattle.play_scheduler.proofs.Given.LoggedCounted.{counted_calls}
use Rattle.run_executor.specs.Named.Machines.{IsFor}
use Rattle.play_scheduler.specs.Played.{AsFar, IsInTurn, RefinesAs, RefinesFor}
use Rattle.run_executor.specs.Named.Seen.{Seen, is_named, is_ready as is_ready_there, ready_place, seen, seen_of}
use Rattle.play_scheduler.specs.Quiet.{BusyIsSilent}
use Rattle.play_stepping.specs.EventSteps.Stepping.{IsMidWalk, IsPlaced, IsStepOf, PlaysNext, ReadyAt, WalkComes, WalksFar}
use Rattle.run_sweeps.specs.Says.{callers_then, outcome_of}
use Rattle.run_executor.specs.Named.Telling.{answer_of, number_by, swept}
use Rattle.run_executor.specs.declared.caller.NamedCaller.{NamedCaller}
use Rattle.run_executor.specs.declared.caller.Stands.{Stands as HowFar}
use Rattle.run_executor.specs.declared.caller.Stands.TheVariants as far
use Rattle.run_executor.specs.declared.kind.CallKind.{CallKind}
use Rattle.play_scheduler.specs.declared.scheduler.Scheduler.{Scheduler}
use Rattle.play_stepping.proofs.EventSteps.AfterEffects.{closed_stays, mapped_stays}
use Rattle.play_scheduler.proofs.Here.{Here, HereAs, here_at}
use Rattle.play_scheduler.proofs.Given.RowsLists.{changed_at, removed_at}
use Rattle.play_stepping.proofs.EventSteps.NextBegins.{has_walk, walk_begins}
use Rattle.play_stepping.proofs.EventSteps.NextOn.{alike, all_did, follows_all, goes_as_said, here, idle_all, is_ready, its_place, its_sweep, its_walk, leads_is, last_did, midst_w, saying, shown, then_at, then_next, under_way}
use Rattle.run_sweeps.proofs.Quiet.NextSays.{NextSays}
use Rattle.play_stepping.proofs.EventSteps.OneStep.{over_next}
use Rattle.play_stepping.proofs.EventSteps.PlaysAgain.{busy_stands}
use Rattle.play_stepping.proofs.EventSteps.PlaysSteps.{stands_elsewhere}
use Rattle.play_stepping.proofs.EventSteps.RightSteps.{waits_never}
use Rattle.play_scheduler.proofs.RanOn.{maps_named, there_stays}
use Rattle.play_scheduler.proofs.Rights.{entry, in_turn, out_of_turn, plays, quiet}
use Rattle.play_stepping.proofs.EventSteps.StepSays.{asks_nothing}
use Rattle.play_stepping.proofs.EventSteps.SteppedTo.{going_on, has_gone, none_named}
use Rattle.play_scheduler.proofs.Stopped.{ready_parts, shows_by, shows_is}
use Rattle.play_scheduler.specs.Given.ScenesScene.{HasCall}
use Rattle.seize_words.proofs.General.{same_some as the}

module _ {K V S : Type 0} (same : K → K → Bool) (hash : K → ℕ) (terms : Terms) (own : List ℕ) (n : ℕ) (w : Moment K V) (p : Scheduler K V S) (stands : RefinesAs (WalksFar own n) same hash terms w p)
    (place : ℕ) (at_place : ReadyAt own place p) where
  abbrev its : HereAs (WalksFar own n) same hash terms w p stands own place
  its = here same hash terms own n w p stands place at_place

  abbrev d : NamedCaller V
  d = its.caller

  abbrev calls : List (NamedCaller V)
  calls = p.calls

  abbrev Leads : Progress (Node K V) → Logged K V S → (before after : List Effect) → Type 0
  Leads said new before after = CallContinues same hash stands.name w stands.scene d.number d.map said before after p.logged new

  -- others are as far as they say
  others : (x : NamedCaller V) → is_named own x ≡ false → (machine : Machine K V K) → WalksFar own n x machine → AsFar x machine
  others x apart machine is = is.1 apart

  module _ (new : Logged K V S) (before after : List Effect) (callers : List (NamedCaller V)) (counted : ℕ) where
    abbrev by : Known
    by = known new.notes

    abbrev w2 : Moment K V
    w2 = with_effects (Some own) (Some d.map) (step_did same hash stands.name w stands.scene d.number d.map p.logged new) w

    abbrev p2 : Scheduler K V S
    p2 = record p { logged = new; calls = callers }

    -- it shows a pair, and is ready
    shows_pair : (word : ℕ) → Leads (progress.Pair word) new before after → callers ≡ callers_then {K = K} by place d (progress.Pair word) calls
        → RefinesFor same hash terms (come_to own (Shows (number_by by word)) counted w2) p2
    shows_pair word leads_so items =
        going_on (WalksFar own n) AsFar own others same hash terms w p stands place its (progress.Pair word) new (leads_so its.way.0 its.way.1).0
        (come_to own (Shows (number_by by word)) counted w2) shown_told (there_stays (Some own) (Some d.map) (step_did same hash stands.name w stands.scene d.number d.map p.logged new) w)
        (mapped_stays (Some own) (Some d.map) (step_did same hash stands.name w stands.scene d.number d.map p.logged new) w) (closed_stays (Some own) (Some d.map) (step_did same hash stands.name w stands.scene d.number d.map p.logged new) w)
        (maps_named (Some own) (Some d.map) (step_did same hash stands.name w stands.scene d.number d.map p.logged new) w) more.0 more.1 far.Ready d.value as_far listed callers items
      where
        more : (x : UnderWay K V K) × (then_next same hash terms own n w p stands place at_place (progress.Pair word) new before after leads_so ≡ Some x)
        more = under_way same hash terms own n w p stands place at_place (progress.Pair word) new before after leads_so refl

        says : (after_it : Sweep) × (((leads_so its.way.0 its.way.1).0 d.map its.way.0 its.way.1).1 ≡ kinds.Sweep after_it)
            × (after_it.purpose ≡ (its_sweep same hash terms own n w p stands place at_place).sweep.purpose)
            × NextSays {K = K} {V = V} (its_sweep same hash terms own n w p stands place at_place).sweep (progress.Pair word) after_it
        says = saying same hash terms own n w p stands place at_place (progress.Pair word) new before after leads_so

        as_far : AsFar (record d { stands = far.Ready; value = d.value }) (machine_of more.0)
        as_far = subst (AsFar (record d { stands = far.Ready; value = d.value }))
            (sym (goes_as_said same hash terms own n w p stands place at_place (progress.Pair word) new before after leads_so more.0 more.1)) (
              (subst (λ (k : CallKind). IsFor k says.0.purpose) (sym (its_walk same hash terms own n w p stands place at_place).0) (says.2 ∙ (its_sweep same hash terms own n w p stands place at_place).walks), says.3),
              subst (λ (q : Sweeping). RoomInSweeping q) (sym says.3) tt,
            )

        change : CallThere K V → CallThere K V
        change x = with_outcome (Shows (number_by by word)) (record x { steps = x.steps + counted })

        listed : map seen (come_to own (Shows (number_by by word)) counted w2).calls ≡ map seen_of (slice_set calls place (record d { stands = far.Ready; value = d.value }))
        listed =
            changed_at seen seen_of (λ (z : Seen). is_same z.name own) change (record d { stands = far.Ready; value = d.value }) w2.calls calls
            (alike same hash terms own n w p stands place at_place (progress.Pair word) new before after leads_so) (stands.calls.once own) its.any so
            ∙ ap (λ (k : ℕ). map seen_of (slice_set calls k (record d { stands = far.Ready; value = d.value }))) (sym its.first)
          where
            so : (x : CallThere K V) (y : NamedCaller V) → find (is_named own) calls ≡ Some y → seen x ≡ seen_of y → seen (change x) ≡ seen_of (record d { stands = far.Ready; value = d.value })
            so x y found it = it ∙ ap seen_of (the y d (sym found ∙ its.found)) ∙ ap (λ (h : HowFar). seen_of (record d { stands = h })) (is_ready same hash terms own n w p stands place at_place)

        shown_told : IsShown same hash stands.name (come_to own (Shows (number_by by word)) counted w2) new (then_at same hash terms own n w p stands place at_place (progress.Pair word) new before after leads_so)
        shown_told =
            let shown_so = shown same hash terms own n w p stands place at_place (progress.Pair word) new before after leads_so in record {
              is_at = shown_so.is_at;
              shows = calls_come_to_whole K V same stands.name w2 (known new.notes) (then_at same hash terms own n w p stands place at_place (progress.Pair word) new before after leads_so) shown_so.shows own
                  (Shows (number_by by word)) counted (λ e. absurd (cc e)) (λ a j x is named_so. asks_nothing (known new.notes) x (Shows (number_by by word)) (λ q e. cc e));
              kept = calls_come_to_kept K V same stands.name w2 (known new.notes) (then_at same hash terms own n w p stands place at_place (progress.Pair word) new before after leads_so) shown_so.shows shown_so.kept own
                  (Shows (number_by by word)) counted (λ e. absurd (cc e));
              counted = counted_calls new w2 (come_to own (Shows (number_by by word)) counted w2) (then_at same hash terms own n w p stands place at_place (progress.Pair word) new before after leads_so) shown_so.counted refl refl refl;
            }

    -- it has shown all, and is under way no more
    shows_none : Leads (progress.Done answers.Swept) new before after → callers ≡ callers_then {K = K} by place d (progress.Done answers.Swept) calls
        → RefinesFor same hash terms (come_to own (Answered (answer_of by d.kind d.value answers.Swept)) counted w2) p2
    shows_none leads_so items =
        has_gone (WalksFar own n) AsFar own others same hash terms w p stands place its (progress.Done answers.Swept) new (leads_so its.way.0 its.way.1).0
        (come_to own answer counted w2) shown_told (there_stays (Some own) (Some d.map) (step_did same hash stands.name w stands.scene d.number d.map p.logged new) w)
        (mapped_stays (Some own) (Some d.map) (step_did same hash stands.name w stands.scene d.number d.map p.logged new) w) (closed_stays (Some own) (Some d.map) (step_did same hash stands.name w stands.scene d.number d.map p.logged new) w)
        (maps_named (Some own) (Some d.map) (step_did same hash stands.name w stands.scene d.number d.map p.logged new) w) over listed callers items
      where
        answer : Outcome V
        answer = Answered (answer_of by d.kind d.value answers.Swept)

        over : then_next same hash terms own n w p stands place at_place (progress.Done answers.Swept) new before after leads_so ≡ None
        over = let to = (leads_so its.way.0 its.way.1).0 d.map its.way.0 its.way.1 in over_next to.1 (progress.Done answers.Swept) to.4.next to.4.goes_on refl

        listed : map seen (come_to own answer counted w2).calls ≡ map seen_of (remove calls place)
        listed =
            removed_at seen seen_of (λ (z : Seen). is_same z.name own) w2.calls calls (alike same hash terms own n w p stands place at_place (progress.Done answers.Swept) new before after leads_so)
            (stands.calls.once own) its.any
            ∙ ap (λ (k : ℕ). map seen_of (remove calls k)) (sym its.first)

        shown_told : IsShown same hash stands.name (come_to own answer counted w2) new (then_at same hash terms own n w p stands place at_place (progress.Done answers.Swept) new before after leads_so)
        shown_told =
            let shown_so = shown same hash terms own n w p stands place at_place (progress.Done answers.Swept) new before after leads_so in record {
              is_at = shown_so.is_at;
              shows = calls_come_to_whole K V same stands.name w2 (known new.notes) (then_at same hash terms own n w p stands place at_place (progress.Done answers.Swept) new before after leads_so) shown_so.shows own
                  answer counted
                  (λ e. none_named (WalksFar own n) AsFar own others same hash terms w p stands place its (progress.Done answers.Swept) new (leads_so its.way.0 its.way.1).0 over)
                  (λ a j x is named_so. asks_nothing (known new.notes) x answer (λ q e. cc e));
              kept = calls_come_to_kept K V same stands.name w2 (known new.notes) (then_at same hash terms own n w p stands place at_place (progress.Done answers.Swept) new before after leads_so) shown_so.shows shown_so.kept own
                  answer counted
                  (λ e. none_named (WalksFar own n) AsFar own others same hash terms w p stands place its (progress.Done answers.Swept) new (leads_so its.way.0 its.way.1).0 over);
              counted = counted_calls new w2 (come_to own answer counted w2) (then_at same hash terms own n w p stands place at_place (progress.Done answers.Swept) new before after leads_so) shown_so.counted refl refl refl;
            }

    -- what it comes to
    pub record Ends (said : Progress (Node K V)) : Type 0 where
      pub is_next : IsNext (outcome_of by d.kind d.value said)
      pub stands_told : RefinesFor same hash terms (come_to own (outcome_of by d.kind d.value said) counted w2) p2

    pub walk_ends : (said : Progress (Node K V)) → (said ≡ progress.Goes → ⊥) → Leads said new before after → callers ≡ callers_then by place d said calls → Ends said
    walk_ends said never leads_so items =
        let so = saying same hash terms own n w p stands place at_place said new before after leads_so in of said never leads_so items so.0 so.3
      where
        of : (x : Progress (Node K V)) → (x ≡ progress.Goes → ⊥) → Leads x new before after → callers ≡ callers_then by place d x calls → (after_it : Sweep)
            → NextSays (its_sweep same hash terms own n w p stands place at_place).sweep x after_it → Ends x
        of progress.Goes fails l it after_it so = absurd (fails refl)
        of (progress.Pair word) fails l it after_it so = record { is_next = tt; stands_told = shows_pair word l it }
        of (progress.Done answers.Swept) fails l it after_it so = record {
          is_next = subst (λ (k : CallKind). IsNext {V = V} (Answered (swept by k))) (sym (its_walk same hash terms own n w p stands place at_place).0) tt;
          stands_told = shows_none l it;
        }
        of _ fails l it after_it so = absurd so

module _ (K V : Type 0) where
  makes_next : (own : List ℕ) (stand : CallState) (steps : ℕ) (o : Outcome V) → IsNext o → 1 ≤ steps → MakesSteps {K = K} {V = V} (Next own) stand steps o
  makes_next own stand steps (Shows pair) is some = some
  makes_next own stand steps (Answered Absent) is some = some
  makes_next own stand steps _ is some = absurd is

  next_quiet : (effects : List Effect) (o : Outcome V) → IsNext o → BusyIsSilent o effects
  next_quiet effects (Shows pair) is = tt
  next_quiet effects (Answered Absent) is = tt
  next_quiet effects _ is = absurd is

module _ {K V S : Type 0} (same : K → K → Bool) (hash : K → ℕ) (terms : Terms) (log : List (Entry K V)) (own : List ℕ) (old : Scheduler K V S) (due : IsInTurn same hash terms log (Next own) old) where
  abbrev m : Moment K V
  m = moment log

  pub next_busy : None ≡ ready_place own old.calls → PlaysNext same hash terms log (quiet (Next own) (Refused Busy)) old
  next_busy none =
      let e = quiet (Next own) (Refused Busy) in record {
        plays = plays same hash terms log (Next own) old due e refl (out_of_turn IsNext (shows_now (call_of own m)) (Refused Busy) (shows_by same hash terms log old own due.played None none) refl)
            (stands_elsewhere same hash terms (come_to own (Refused Busy) 0 m) old (busy_stands same hash terms log own false old due.played) (m.events + 1) m.is_mapped m.is_closed
            (m.is_alone && is_alone_on e m) m.there m.slots m.sheltered m.remains refl refl refl refl);
        idle = refl;
        makes = refl;
        does = omega arith;
        waits = waits_never same m (Refused Busy) (λ e. cc e) (call_of own m);
        is_quiet = refl;
      }

  -- the walk is asked for its next pair
  module _ (place : ℕ) (ready : Some place ≡ ready_place own old.calls) where
    abbrev parts : (Some place ≡ position (is_named own) old.calls) × (is_ready_there (slice_get old.calls place) ≡ true)
    parts = ready_parts same hash terms log old own due.played place ready

    abbrev pub asked_here : Here same hash terms m old due.played own place
    asked_here = here_at same hash terms m old due.played own place parts.0

    asked_ready : asked_here.caller.stands ≡ far.Ready
    asked_ready = shows_is asked_here.caller.stands (sym (ap is_ready_there asked_here.at) ∙ parts.1)

    pub next_may : HasCall due.played.scene asked_here.caller.number
    next_may = has_walk same hash terms m old due.played own place asked_here asked_ready

    pub next_asked : (was_ready : Bool) (new : Logged K V S) → WalkContinues same hash due.played.name m due.played.scene asked_here.caller.number was_ready old.logged new
        → RefinesAs (WalksFar own 0) same hash terms m (record old { logged = new })
    next_asked was_ready new leads = walk_begins same hash terms m old due.played own place asked_here asked_ready was_ready new leads

    pub next_ready : (new : Logged K V S) → ReadyAt own place (record old { logged = new })
    next_ready new = (parts.0, asked_here.caller, asked_here.at, asked_ready)

  -- the walk was asked, has taken steps, and its caller is told
  module _ (place : ℕ) (asked : Scheduler K V S) (stands : RefinesAs (WalksFar own 0) same hash terms m asked) (at_place : ReadyAt own place asked) (steps : ℕ) (said : Progress (Node K V))
      (effects : List Effect) (walked : Scheduler K V S) (comes : WalkComes same hash place steps said [] effects asked walked) where
    abbrev n : ℕ
    n = comes.1

    abbrev mid : List Effect
    mid = comes.3

    abbrev p : Scheduler K V S
    p = comes.4

    abbrev step : IsStepOf same hash place said mid effects p walked
    step = comes.5

    abbrev midst : IsMidWalk same hash terms own place m n [] mid p
    midst = comes.6 terms m own stands at_place

    abbrev pub at_it : HereAs (WalksFar own n) same hash terms (midst_w same hash terms own place m n [] mid effects p walked midst) p midst.stands own place
    at_it = its_place same hash terms own place m n [] mid effects p walked midst

    abbrev did : List Effect
    did = midst.did ++ last_did same hash terms own place m n [] mid effects p walked midst said step

    calls_same : walked.calls ≡ p.calls
    calls_same = ap (λ (x : Scheduler K V S). x.calls) step.rest

    pub there : slice_get walked.calls place ≡ Some at_it.caller
    there = ap (λ (l : List (NamedCaller V)). slice_get l place) calls_same ∙ at_it.at

    pub placed_there : IsPlaced own place walked.calls
    placed_there = midst.ready.0 ∙ ap (λ (l : List (NamedCaller V)). position (is_named own) l) (sym calls_same)

    module _ (ready : Some place ≡ ready_place own old.calls) (callers : List (NamedCaller V))
        (told : (caller : NamedCaller V) → slice_get walked.calls place ≡ Some caller → callers ≡ callers_then (known walked.logged.notes) place caller said walked.calls)
        (outcome : Outcome V) (comes_to_it : (caller : NamedCaller V) → slice_get walked.calls place ≡ Some caller → outcome ≡ outcome_of (known walked.logged.notes) caller.kind caller.value said) where
      ends : Ends same hash terms own n (midst_w same hash terms own place m n [] mid effects p walked midst) p midst.stands place midst.ready walked.logged mid effects callers steps said
      ends = walk_ends same hash terms own n (midst_w same hash terms own place m n [] mid effects p walked midst) p midst.stands place midst.ready walked.logged mid effects callers steps said comes.0
          (leads_is same hash terms own place m n [] mid effects p walked midst said step)
          (told at_it.caller there ∙ ap (λ (l : List (NamedCaller V)). callers_then (known walked.logged.notes) place at_it.caller said l) calls_same)

      outcome_is : outcome_of (known walked.logged.notes) at_it.caller.kind at_it.caller.value said ≡ outcome
      outcome_is = sym (comes_to_it at_it.caller there)

      abbrev then_new : Scheduler K V S
      then_new = record walked { calls = callers }

      abbrev w : Moment K V
      w = with_effects (Some own) (option_map (λ x. x.map) (call_of own m)) effects m

      worked_is : with_effects (Some own) (Some midst.call.map) did m ≡ w
      worked_is =
          ap (λ (l : List Effect). with_effects (Some own) (Some midst.call.map) l m) (sym (follows_all same hash terms own place m n [] mid effects p walked midst said step))
          ∙ ap (λ (o : Option (CallThere K V)). with_effects (Some own) (option_map (λ x. x.map) o) effects m) (sym midst.call_is)

      -- after what its last step did
      abbrev last_w : Moment K V
      last_w = w2 same hash terms own n (midst_w same hash terms own place m n [] mid effects p walked midst) p midst.stands place midst.ready walked.logged mid effects callers steps

      stands_told : RefinesFor same hash terms (come_to own outcome steps w) then_new
      stands_told =
          subst (λ (x : Scheduler K V S). RefinesFor same hash terms (come_to own outcome steps w) (record x { calls = callers })) (sym step.rest)
          (subst (λ (x : Moment K V). RefinesFor same hash terms (come_to own outcome steps x) (record p { logged = walked.logged; calls = callers }))
          (all_did same hash terms own place m n [] mid effects p walked midst said step ∙ worked_is)
          (subst (λ (o : Outcome V). RefinesFor same hash terms (come_to own o steps last_w) (record p { logged = walked.logged; calls = callers })) outcome_is ends.stands_told))

      is_next : IsNext outcome
      is_next = subst (λ (o : Outcome V). IsNext o) outcome_is ends.is_next

      -- none of its steps has done anything
      idle : effects ≡ []
      idle = follows_all same hash terms own place m n [] mid effects p walked midst said step ∙ idle_all same hash terms own place m n [] mid effects p walked midst said step

      pub plays_next : PlaysNext same hash terms log (entry (Next own) outcome steps effects) then_new
      plays_next =
          let e = entry (Next own) outcome steps effects in record {
            plays = plays same hash terms log (Next own) then_new due e refl (in_turn IsNext (shows_now (call_of own m)) outcome (shows_by same hash terms log old own due.played (Some place) ready) is_next)
                (stands_elsewhere same hash terms (come_to own outcome steps w) then_new stands_told (m.events + 1) m.is_mapped m.is_closed (m.is_alone && is_alone_on e m) w.there (slots_on outcome m.slots)
                w.sheltered m.remains (sym (mapped_stays (Some own) (option_map (λ x. x.map) (call_of own m)) effects m)) (sym (closed_stays (Some own) (option_map (λ x. x.map) (call_of own m)) effects m)) refl
                (sym (remains_stay (Some own) (option_map (λ x. x.map) (call_of own m)) effects m)));
            idle = idle;
            makes = makes_next K V own (state_or (call_of own m)) steps outcome is_next (let more = comes.2 in omega (arith, more));
            does = subst (λ (l : List Effect). sum_by weight l ≤ steps) (sym idle) (omega arith);
            waits = waits_never same w outcome (λ e. subst (λ (o : Outcome V). IsNext o) e is_next) (call_of own w);
            is_quiet = next_quiet K V effects outcome is_next;
          }
