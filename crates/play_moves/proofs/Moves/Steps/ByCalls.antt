-- What a moment shows of steps of calls it shows where a call begins, takes a step, takes a reply, goes on as a walk, or is given up.
use Rattle.std.specs.Prelude.{◌≡◌, ℕ, Bool, true, List, [], ◌∷◌, Some}
use Rattle.std.proofs.Common.{refl, ap, ◌∙◌}
use Rattle.run_legal.specs.Given.TablesDeclared.node.Node.{Node}
use Rattle.run_schedules.specs.Given.RawMachine.{machine_replied}
use Rattle.run_schedules.specs.Given.RawDeclared.machines.machine.Machine.{Machine}
use Rattle.run_schedules.specs.Given.RawDeclared.machines.progress.Progress.{Progress}
use Rattle.run_schedules.specs.declared.call.Call.{Call}
use Rattle.run_schedules.specs.declared.call.Reply.{Reply}
use Rattle.run_schedules.specs.declared.effect.Thing.TheVariants.{APair}
use Rattle.run_schedules.specs.declared.outcome.Outcome.{Outcome}
use Rattle.run_schedules.specs.Schedules.Beginning.{with_call}
use Rattle.run_schedules.specs.Schedules.Effects.{with_effects}
use Rattle.run_schedules.specs.Schedules.Entry.{ends_call}
use Rattle.run_schedules.specs.Schedules.Moment.{Moment, UnderWay as CallThere}
use Rattle.run_schedules.specs.Schedules.Transition.{Past}
use Rattle.run_schedules.specs.Schedules.Views.{call_of}
use Rattle.run_legal.specs.Given.CallersOverAll.{CallOverAll}
use Rattle.run_legal.specs.Given.CallersTogether.{OverAll, UnderWay}
use Rattle.run_legal.specs.Given.EffectsEffects.{effects_of, known_after}
use Rattle.run_legal.specs.Given.EffectsKnown.{Known}
use Rattle.run_legal.specs.Given.EffectsDeclared.acting.Acting.TheVariants as acts
use Rattle.run_legal.specs.Given.FinishesMachines.{machine_of}
use Rattle.run_legal.specs.Given.FinishesMaps.{Standing, with_call as with_call_of}
use Rattle.run_legal.specs.Given.FollowsCalling.{NoneNamed, come_to, told}
use Rattle.run_legal.specs.Given.FollowsCalls.{IsCalled}
use Rattle.run_legal.specs.Given.HandsAsked.{reply_to_machine}
use Rattle.run_legal.specs.Given.OthersWalks.{given_up}
use Rattle.run_legal.specs.Given.SettlesHand.{RefinesObligations, in_hand}
use Rattle.run_legal.specs.Given.PurposesPurposes.{RefinesPurposes}
use Rattle.run_legal.specs.Given.GrowsFinding.{RefinesFinding}
use Rattle.run_legal.specs.Given.GrowsNexts.{RefinesNexts}
use Rattle.run_legal.specs.Given.GrowsTries.{RefinesTries}
use Rattle.run_legal.specs.Given.ScenesBeginning.{Begins as BeginsSo}
use Rattle.run_legal.specs.Given.ScenesHeld.{Held, IsAt}
use Rattle.run_legal.specs.Given.ScenesReplying.{AskLeads, scene_with, unless_stopped}
use Rattle.run_legal.specs.Given.ScenesScene.{Scene}
use Rattle.run_legal.specs.Given.ScenesStepping.{StepLeads, scene_after}
use Rattle.run_legal.proofs.Given.KeptStays.{calls_come_to_kept}
use Rattle.run_legal.proofs.Given.SettlesHand.Asked.{asked_stays, told_stays}
use Rattle.run_legal.proofs.Given.FindsGrows.Between.{calls_begin_growing, calls_take_growing, walks_go_on_growing}
use Rattle.run_legal.proofs.Given.WaitsBetween.{calls_begin_waits}
use Rattle.run_legal.proofs.Given.GrowsFinding.Alike.{finding_fewer, stood_as}
use Rattle.run_legal.proofs.Given.GrowsFinding.Between.{asked_same, fewer_calls, none_at_first, puts_begun, puts_on, replied_same, waits_on}
use Rattle.run_legal.proofs.Given.GrowsFinding.Calls.{calls_keep_finding}
use Rattle.run_legal.proofs.Given.GrowsFinding.Making.Between.{calls_begin_further, calls_take_further, walks_go_on_further}
use Rattle.run_legal.proofs.Given.GrowsFinding.Nexts.{calls_begin_nexts, calls_come_to_nexts, calls_take_nexts, nexts_go_on, others_at_first, walks_go_on_nexts, walks_stop_nexts}
use Rattle.run_legal.proofs.Given.GrowsTries.Shows.{calls_begin_tries, calls_come_to_tries, calls_take_tries, tries_at_first, walks_go_on_tries, walks_stop_tries}
use Rattle.run_legal.proofs.Given.GrowsTries.Steps.{tries_go_on}
use Rattle.run_schedules.specs.Deeds.Deeds.{named}
use Rattle.play_linear.specs.Linear.Shown.{RefinesAnswers}
use Rattle.play_moves.specs.Moves.Steps.{RefinesSteps}

-- what stays so but for sources
pub record ShowsBut {K V : Type 0} (log : Past K V) (m : Moment K V) (known : Known) (s : Scene K V) : Type 0 where
  pub finding : RefinesFinding named m known s
  pub nexts : RefinesNexts named log m s
  pub tries : RefinesTries named log m s

module _ {K V : Type 0} (same : K → K → Bool) (hash : ℕ → K → ℕ) (log : Past K V) (known : Known) (s : Scene K V) (old new : Held K V) (at : IsAt same hash old s) (all : RefinesAnswers same log log.now known s)
    (purposes : RefinesPurposes same named log log.now known s) (steps : RefinesSteps same log log.now known s) (map i : ℕ) where
  abbrev m : Moment K V
  m = log.now

  -- A call begins,
  pub steps_begin : (standing : Standing K) (u : UnderWay K V K) (call : Call K V) (guard : List ℕ) → BeginsSo same standing i u → NoneNamed named (named i) s
      → ShowsBut log (with_call (named i) guard call (Some map) m) known (scene_with map i u s)
  steps_begin standing u call guard begins none = record {
    finding = record {
      growing = calls_begin_growing K V same m s steps.finding.growing standing map i u begins;
      further = calls_begin_further same m s steps.finding.further standing map i u begins;
      capacities = steps.finding.capacities;
      waits = calls_begin_waits K V named m s steps.finding.waits map i u call guard none (none_at_first same standing i u begins).0;
      puts = puts_begun known s map i u (none_at_first same standing i u begins).1 steps.finding.puts;
    };
    nexts = calls_begin_nexts same named log m s steps.nexts map i u guard call standing begins none;
    tries = calls_begin_tries same named log m s steps.tries map i u guard call standing begins none;
  }

  -- takes a step, and comes to an outcome,
  module _ (u : UnderWay K V K) (here : s.calls map i ≡ Some u) (said : Progress (Node K V)) (leads : StepLeads same hash i said s old new) where
    abbrev v : Moment K V
    v = with_effects (Some (named i)) (Some map) (effects_of (acts.Call i map) known new.changed) m

    abbrev known2 : Known
    known2 = known_after (acts.Call i map) new.changed known

    abbrev s2 : Scene K V
    s2 = let to = leads map u here in scene_after same s old new map i to.0 u to.1 said to.4

    its : (c : CallThere K V) × (call_of (named i) m ≡ Some c) × (c.map ≡ map) × IsCalled same u c.call
    its = all.whole.all.shown.calls map i u here

    pub steps_step : RefinesAnswers same log v known2 s2 → (o : Outcome V) → (ends_call o ≡ true → NoneNamed named (named i) s2) → ShowsBut log (come_to (named i) o 1 v) known2 s2
    steps_step then_all o ended = record {
      finding = finding_fewer K V same named v (come_to (named i) o 1 v) known2 s2 s2 then_all.whole.all.shown.calls then_all.kept.owed
          (calls_come_to_kept K V same named v known2 s2 then_all.whole then_all.kept (named i) o 1 ended).owed (λ n j x is. is) (stood_as s2 s2 refl) refl refl refl refl refl refl
          (calls_keep_finding K V same hash named m known s old new at all.whole all.kept steps.finding map i u here said leads);
      nexts = calls_come_to_nexts same named log v s2
          (nexts_go_on same hash named log m known s old new at all.whole map i u here said leads (others_at_first named log purposes.past i m s refl refl purposes.begun steps.nexts) steps.nexts its.0 its.1)
          then_all.whole.all.shown.calls (named i) o 1 ended;
      tries = calls_come_to_tries same named log v s2
          (tries_go_on same hash named log m known s old new at all.whole map i u here said leads steps.sources steps.tries its.0 its.1
          (tries_at_first named log purposes.past i m s (record { stored = refl; place = refl; born = refl; spot = refl }) refl refl purposes.begun steps.tries)) then_all.whole.all.shown.calls (named i) o 1 ended;
    }

  -- takes a reply,
  pub steps_take : (u : UnderWay K V K) → s.calls map i ≡ Some u → (reply : Reply V) (next : UnderWay K V K) → machine_of next ≡ (machine_replied (machine_of u) (reply_to_machine reply)).0
      → RefinesObligations named (told (named i) reply m) known (scene_with map i next s) → ShowsBut log (told (named i) reply m) known (scene_with map i next s)
  steps_take u here reply next next_is owed = record {
    finding = record {
      growing = calls_take_growing K V m s steps.finding.growing map i u here (reply_to_machine reply) next next_is;
      further = calls_take_further m s steps.finding.further map i u here next (reply_to_machine reply) next_is;
      capacities = steps.finding.capacities;
      waits = waits_on K V same named m (told (named i) reply m) known s map i u here next all.whole.all.shown.calls all.kept.owed owed stays goes (λ n j x is k waits held. held) steps.finding.waits;
      puts = puts_on K V same named m (told (named i) reply m) known s map i u here next all.whole.all.shown.calls all.kept.owed owed stays goes steps.finding.puts;
    };
    nexts = calls_take_nexts same named log m s steps.nexts map i u here all.whole.all.shown.calls next reply (reply_to_machine reply) next_is;
    tries = calls_take_tries same named log m s steps.tries map i u here all.whole.all.shown.calls next reply (reply_to_machine reply) next_is;
  }
    where
      stays : in_hand known (machine_of next) ≡ in_hand known (machine_of u)
      stays = ap (λ (z : Machine K V K). in_hand known z) next_is ∙ (told_stays known (machine_of u) (reply_to_machine reply)).0

      goes : (n : ℕ) → in_hand known (machine_of u) ≡ APair n ∷ [] → machine_of next ≡ machine_of u
      goes n e = next_is ∙ replied_same known n (machine_of u) (reply_to_machine reply) e

  -- goes on as a walk,
  pub steps_go_on : (leads : AskLeads same hash i true s old new) (o : CallOverAll) (here : s.calls map i ≡ Some (OverAll o))
      → (let t = scene_with map i (leads map (OverAll o) here).0 s in RefinesAnswers same log m known t → ShowsBut log m known t)
  steps_go_on leads o here then_all = record {
    finding = record {
      growing = walks_go_on_growing K V m s steps.finding.growing map i (OverAll o) here next (leads map (OverAll o) here).1;
      further = walks_go_on_further m s steps.finding.further map i (OverAll o) here next (leads map (OverAll o) here).1;
      capacities = steps.finding.capacities;
      waits = waits_on K V same named m m known s map i (OverAll o) here next all.whole.all.shown.calls all.kept.owed then_all.kept.owed stays goes (λ n j x there k waits held. held) steps.finding.waits;
      puts = puts_on K V same named m m known s map i (OverAll o) here next all.whole.all.shown.calls all.kept.owed then_all.kept.owed stays goes steps.finding.puts;
    };
    nexts = walks_go_on_nexts same named log m s steps.nexts map i (OverAll o) here all.whole.all.shown.calls next (leads map (OverAll o) here).1;
    tries = walks_go_on_tries same named log m s steps.tries map i (OverAll o) here all.whole.all.shown.calls next (leads map (OverAll o) here).1;
  }
    where
      next : UnderWay K V K
      next = (leads map (OverAll o) here).0

      stays : in_hand known (machine_of next) ≡ in_hand {K = K} {V = V} {Q = K} known (machine_of {K = K} {V = V} {Q = K} (OverAll o))
      stays = ap (λ (z : Machine K V K). in_hand known z) (leads map (OverAll o) here).1 ∙ (asked_stays known (machine_of {K = K} {V = V} {Q = K} (OverAll o))).0

      goes : (n : ℕ) → in_hand {K = K} {V = V} {Q = K} known (machine_of {K = K} {V = V} {Q = K} (OverAll o)) ≡ APair n ∷ [] → machine_of next ≡ machine_of (OverAll o)
      goes n e = (leads map (OverAll o) here).1 ∙ asked_same known n (machine_of {K = K} {V = V} {Q = K} (OverAll o)) e

  -- or is given up.
  pub steps_stop : (u : UnderWay K V K) → s.calls map i ≡ Some u
      → (let after = record s { calls = with_call_of s.calls map i (unless_stopped true u) } in
      NoneNamed named (named i) after → RefinesObligations named (given_up (named i) true m) known after → ShowsBut log (given_up (named i) true m) known after)
  steps_stop u here none owed =
      let after = record s { calls = with_call_of s.calls map i (unless_stopped true u) } in
      record {
        finding = finding_fewer K V same named m (given_up (named i) true m) known s after all.whole.all.shown.calls all.kept.owed owed (fewer_calls s map i u here true) (stood_as s after refl)
            refl refl refl refl refl refl steps.finding;
        nexts = walks_stop_nexts same named log m s steps.nexts map i u here all.whole.all.shown.calls u true (λ e. none);
        tries = walks_stop_tries same named log m s steps.tries map i u here all.whole.all.shown.calls u true (λ e. none);
      }
