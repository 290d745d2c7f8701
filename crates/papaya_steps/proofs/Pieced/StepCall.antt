-- A step of a call, in the midst of an event: the list of acts goes on by it.
use Rattle.std.specs.Prelude.{◌+◌, ◌++◌, Option, Some, option_map}
use Rattle.std.proofs.Common.{◌≡◌, ℕ, Bool, false, List, refl, sym, ap, subst, ◌∙◌}
use Rattle.play_events.specs.Given.SeizeActsAnswers.{Grant}
use Rattle.seize_words.specs.OneMemory.Mem.{Mem}
use Rattle.map_tables.specs.declared.node.Node.{Node}
use Rattle.papaya_raw.specs.Machine.{machine_plan}
use Rattle.papaya_raw.specs.declared.machines.machine.Machine.{Machine}
use Rattle.papaya_raw.specs.declared.machines.progress.Progress.{Progress}
use Rattle.papaya_raw.specs.declared.machines.progress.Progress.TheVariants as progress
use Rattle.run_effects.specs.declared.changed.Changed.{Changed}
use Rattle.play_events.specs.Given.CallersTogether.{UnderWay}
use Rattle.play_events.specs.Given.FinishesMachines.{ContinuesAs, machine_of}
use Rattle.play_events.specs.Given.ScenesScene.{Scene, slot_of}
use Rattle.play_events.specs.Given.ScenesStepping.{has_ended}
use Rattle.run_schedules.specs.declared.effect.Effect.{Effect}
use Rattle.run_schedules.specs.declared.event.Event.{Event}
use Rattle.run_schedules.specs.declared.outcome.Outcome.{Outcome}
use Rattle.run_schedules.specs.Schedules.After.{moment}
use Rattle.run_schedules.specs.Schedules.Entry.{Entry}
use Rattle.run_effects.specs.Effects.Effects.{effects_of, known_after}
use Rattle.run_effects.specs.Effects.Known.{Known, known}
use Rattle.run_effects.specs.declared.acting.Acting.TheVariants as acting
use Rattle.play_events.specs.Given.ExecutorIsThere.{IsThere, StaysGiven, call_in, work_of}
use Rattle.play_events.specs.Given.ExecutorDeclared.executor.Executor.{Executor}
use Rattle.play_events.specs.Given.SchedulerDeclared.scheduler.Scheduler.{Scheduler}
use Rattle.play_events.specs.Given.NamedSeen.{kind_of}
use Rattle.play_events.specs.Given.ExecutorDeclared.caller.NamedCaller.{NamedCaller}
use Rattle.play_events.specs.Given.ExecutorDeclared.kind.CallKind.{CallKind}
use Rattle.play_events.specs.Given.ActsActs.{OfCall, StepsCall}
use Rattle.play_events.specs.Given.ActsAsSteps.{changed_by}
use Rattle.play_events.specs.Given.ActsLeads.{CallCame}
use Rattle.play_events.specs.Given.ActsDoings.{reclaiming}
use Rattle.play_events.specs.Given.ActsLists.{Course}
use Rattle.run_schedules.specs.Deeds.Deeds.{Steps, Entry as Act}
use Rattle.play_events.specs.Given.DrivesExecutors.{AreSteps, Computes, IsAct}
use Rattle.play_events.proofs.Given.DrivesExecutors.{executors_act}
use Rattle.play_events.proofs.Given.PlayedTied.{call_tied}
use Rattle.play_events.specs.Given.PlayedPlay.{Calling, State, call_stepped, is_refusal}
use Rattle.play_events.specs.Given.PlayedPlay as play
use Rattle.play_events.specs.Given.PlayedReached.{rows_beside}
use Rattle.play_events.proofs.Given.PlayedPlayedAs.{played_as}
use Rattle.play_events.specs.Given.SteppingStepping.{IsStepped}
use Rattle.play_events.specs.Given.GroupedGrouping.{MayHave, Names, names_after, number_called}
use Rattle.play_events.specs.Given.GroupedReach.{Reach}
use Rattle.play_events.specs.Given.GroupedCalled.{CallersAre, IsCalledAs}
use Rattle.play_events.proofs.Given.GroupedCallers.{call_here, each_at, under}
use Rattle.papaya_steps.proofs.Pieced.CallsOn.{callers_on, same_outcome}
use Rattle.play_events.proofs.Given.GroupedMidst.{InEvent, event_steps}
use Rattle.play_events.proofs.Given.GroupedOneMore.{one_act}
use Rattle.seize_words.proofs.General.{same_some}

-- what goes on is there as this machine
goes : {K V : Type 0} (machine : Machine K V K) (said : Progress (Node K V)) (next : Option (UnderWay K V K)) → has_ended said ≡ false → ContinuesAs machine said next → option_map machine_of next ≡ Some machine
goes machine progress.Goes next on (u, is, same) = ap (option_map machine_of) is ∙ ap Some same
goes machine (progress.Gave node) next on (u, is, same) = ap (option_map machine_of) is ∙ ap Some same
goes machine (progress.Unstored node) next on (u, is, same) = ap (option_map machine_of) is ∙ ap Some same
goes machine progress.Waits next on (u, is, same) = ap (option_map machine_of) is ∙ ap Some same
goes machine (progress.Asks word) next on (u, is, same) = ap (option_map machine_of) is ∙ ap Some same
goes machine progress.Ready next on (u, is, same) = ap (option_map machine_of) is ∙ ap Some same
goes machine (progress.Pair word) next on (u, is, same) = ap (option_map machine_of) is ∙ ap Some same
goes machine (progress.Done said) next on is = absurd (cc on)
goes machine (progress.Refused fault) next on is = absurd (cc on)

-- An executor has this call under way.
abbrev pub HasCallIn : {K V S : Type 0} → ℕ → ℕ → Executor K V S → Type 0
HasCallIn {K} {V} i m x = (machine : Machine K V K) × (call_in (work_of x i) m ≡ Some machine)

module _ {K V S : Type 0} (same : K → K → Bool) (by_hasher : S → K → ℕ) (place : ℕ) (outcome : Outcome V) (before after : List Effect) (old new : Scheduler K V S)
    (st : IsStepped same (by_hasher old.logged.executor.hasher) place outcome before after old new) where
  abbrev e : Executor K V S
  e = old.logged.executor

  abbrev e2 : Executor K V S
  e2 = new.logged.executor

  abbrev i : ℕ
  i = st.caller.number

  abbrev m : ℕ
  m = st.caller.map

  given : StaysGiven e e2
  given = (st.given.0, st.given.1, st.given.2)

  module _ (machine : Machine K V K) (works : call_in (work_of e i) m ≡ Some machine) where
    -- a step is computed with some choice, and by each such choice it is an act
    steps_in : (s : Scene K V) → IsThere same (by_hasher e.hasher) e s
        → AreSteps same by_hasher e e2 s (Computes e e2 (machine_plan same same (by_hasher e.hasher) machine) st.said) (StepsCall i m) (OfCall st.said)
    steps_in s there =
        let c = under machine_of (s.calls m i) machine (there.calls m i ∙ works) in
        subst (λ (x : Machine K V K). AreSteps same by_hasher e e2 s (Computes e e2 (machine_plan same same (by_hasher e.hasher) x) st.said) (StepsCall i m) (OfCall st.said)) c.2
        ((executors_act V same by_hasher e e2 s there given i).0.step st.said (st.steps.leads s there) m c.0 c.1)

    module _ (g : Grant) (computes : Computes e e2 (machine_plan same same (by_hasher e.hasher) machine) st.said g) where
      is : (s : Scene K V) → IsThere same (by_hasher e.hasher) e s → IsAct same by_hasher e e2 s (StepsCall i m g) (OfCall st.said)
      is s there = ((steps_in s there).1 g computes).0

      told : (s : Scene K V) → IsThere same (by_hasher e.hasher) e s → changed_by {S = S} same (StepsCall i m g) s ≡ e2.memory.changed
      told s there = ((steps_in s there).1 g computes).1

      -- where it goes on, it is under way then
      works_then : (s : Scene K V) → IsThere same (by_hasher e.hasher) e s → has_ended st.said ≡ false → HasCallIn i m e2
      works_then s there on =
          let act = is s there in
          let came : CallCame same by_hasher e.batch_size e.roots slot_of s i m g (OfCall st.said) act.to = act.led in
          let said : st.said ≡ came.progress = cc (came.tells) in (
            came.machine,
            sym (act.there.calls m i) ∙ ap (λ (x : Scene K V). option_map machine_of (x.calls m i)) came.comes
                ∙ ap (option_map machine_of) (call_here s.calls m i came.did.next) ∙ goes came.machine came.progress came.did.next (ap has_ended (sym said) ∙ on) came.did.goes_on,
          )

  module _ (log : List (Entry K V)) (event : Event K V) (may : (names : Names) → number_called st.caller.name names ≡ Some i → MayHave names (moment log) event (Steps i)) (steps : ℕ) (prev : Outcome V) where
    abbrev Before : State K V S → Type 0
    Before x = InEvent log event before steps prev old.calls x

    abbrev After : State K V S → Type 0
    After x = InEvent log event after (1 + steps) outcome new.calls x

    -- what it is played as, is so
    module _ (x : State K V S) (so : Before x) (knows : x.known ≡ known old.logged.notes) (it : Calling K V) (here : x.now.calls m i ≡ Some it) (memory : Mem (Node K V)) (machine2 : Machine K V K) where
      abbrev z : State K V S
      z = call_stepped i m it e2.memory.changed x (memory, (machine2, st.said))

      abbrev names : Names
      names = names_after event so.piece so.known

      called : IsCalledAs names x st.caller
      called = each_at (λ d. IsCalledAs names x d) old.calls place st.caller st.at so.callers.each

      one : called.call ≡ it
      one = same_some called.call it (sym called.here ∙ here)

      known_then : z.known ≡ known new.logged.notes
      known_then = ap (known_after (acting.Call i m) e2.memory.changed) knows ∙ sym st.steps.is_noted.noted

      abbrev entry : Act K V
      entry = record {
        deed = Steps i;
        outcome = play.outcome_of z.known (kind_of it.call) it.value st.said;
        effects = effects_of (acting.Call i m) x.known e2.memory.changed;
        refused = is_refusal e2.memory.changed;
      }

      did_so : before ++ entry.effects ≡ after
      did_so = ap (λ (k : Known). before ++ effects_of (acting.Call i m) k e2.memory.changed) knows ∙ sym st.steps.is_noted.did

      outcome_so : entry.outcome ≡ outcome
      outcome_so =
          ap (λ (k : Known). play.outcome_of k (kind_of it.call) it.value st.said) known_then
          ∙ ap (λ (c : Calling K V). play.outcome_of (known new.logged.notes) (kind_of c.call) c.value st.said) (sym one)
          ∙ ap (λ (k : CallKind). play.outcome_of (known new.logged.notes) k called.call.value st.said) called.kind
          ∙ ap (λ (v : Option V). play.outcome_of (known new.logged.notes) st.caller.kind v st.said) called.value
          ∙ same_outcome (known new.logged.notes) st.caller.kind st.caller.value st.said ∙ sym st.outcome_is

      callers : CallersAre names new.calls z
      callers = subst (λ (l : List (NamedCaller V)). CallersAre names l z) (sym st.calls)
          (callers_on names x st.caller (known new.logged.notes) e2.memory.changed memory machine2 called it one old.calls place st.at so.callers st.said)

      after_so : After z
      after_so =
          subst (λ (o : Outcome V). InEvent log event after (1 + steps) o new.calls z) outcome_so
          (subst (λ (l : List Effect). InEvent log event l (1 + steps) entry.outcome new.calls z) did_so
          (event_steps log event before steps prev old.calls new.calls x z so entry refl refl refl (may names called.name) callers))

    module _ (shards : ℕ) (any : Course V same by_hasher e.batch_size e.roots slot_of) where
      abbrev At : (State K V S → Type 0) → Executor K V S → Known → Type 0
      At P x noted = Reach same by_hasher e.hasher e.batch_size e.roots shards P x noted

      -- So the list goes on by it.
      pub step_goes : HasCallIn i m e → At Before e (known old.logged.notes) → At After e2 (known new.logged.notes) × (has_ended st.said ≡ false → HasCallIn i m e2)
      step_goes has at =
          let to = at.leads any in
          let c = (steps_in has.0 has.1 to.0.0.0 to.3).0 in (
            one_act same by_hasher shards e e2 given any (known old.logged.notes) (known new.logged.notes) Before After (StepsCall i m c.0) (OfCall st.said) (tt, tt) (is has.0 has.1 c.0 c.1) (λ x so. tt)
                (λ value. value) (λ value aborts x y p stage there its played knows so.
                (let act = is has.0 has.1 c.0 c.1 p.0 there in
                let came : CallCame same by_hasher e.batch_size e.roots slot_of p.0 i m c.0 (OfCall st.said) act.to = act.led in
                let tied = call_tied same by_hasher e.batch_size e.roots aborts p.0 act.to (rows_beside (reclaiming V same by_hasher e.batch_size e.roots slot_of p) p.0.world.row) x y stage.scene i m c.0
                (OfCall st.said) came (played_as same by_hasher e.batch_size e.roots aborts x y (StepsCall i m c.0) played) in
                let said : st.said ≡ came.progress = cc (came.tells) in
                let is_it : y ≡ call_stepped i m tied.it e2.memory.changed x (came.memory, (came.machine, st.said)) =
                tied.comes ∙ ap (λ (k : Changed). call_stepped i m tied.it k x (came.memory, (came.machine, came.progress))) (told has.0 has.1 c.0 c.1 p.0 there)
                ∙ ap (λ (w : Progress (Node K V)). call_stepped i m tied.it e2.memory.changed x (came.memory, (came.machine, w))) (sym said) in (
                  ap (λ (w : State K V S). w.known) is_it ∙ known_then x so knows tied.it tied.here came.memory came.machine,
                  subst After (sym is_it) (after_so x so knows tied.it tied.here came.memory came.machine),
                ))) at,
            works_then has.0 has.1 c.0 c.1 to.0.0.0 to.3,
          )
