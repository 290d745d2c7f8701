-- The end of a map, in the midst of an event: the list of acts goes on where it begins, and by each of its steps.
use Rattle.std.specs.Prelude.{◌++◌, Some, None, option_map, if◌then◌else◌}
use Rattle.std.proofs.Common.{◌≡◌, ℕ, Bool, true, false, List, refl, sym, ap, subst, ◌∙◌}
use Rattle.seize_acts.specs.Acts.Answers.{Grant}
use Rattle.run_schedules.specs.Given.SeizeWordsMem.{Mem}
use Rattle.seize.specs.declared.rows.settle.Settled.{Settled}
use Rattle.map_tables.specs.declared.node.Node.{Node}
use Rattle.run_schedules.specs.Given.RawEndMap.{end_map_plan, ending}
use Rattle.run_finds.specs.Given.RawDeclared.machines.end_map.EndMap.{EndMap}
use Rattle.run_kept.specs.Given.EffectsDeclared.changed.Changed.{Changed}
use Rattle.many_acts.specs.Given.FinishesEndings.{Finishing}
use Rattle.many_acts.proofs.Given.CallersTogether.At.{at_same}
use Rattle.many_acts.specs.Given.ScenesScene.{Scene, slot_of}
use Rattle.run_schedules.specs.declared.effect.Effect.{Effect}
use Rattle.run_schedules.specs.declared.event.Event.{Event}
use Rattle.run_schedules.specs.declared.outcome.Outcome.{Outcome}
use Rattle.run_schedules.specs.Schedules.After.{moment}
use Rattle.run_schedules.specs.Schedules.Entry.{Entry}
use Rattle.run_kept.specs.Given.EffectsEffects.{effects_of, known_after}
use Rattle.run_kept.specs.Given.EffectsKnown.{Known}
use Rattle.run_kept.specs.Given.EffectsDeclared.acting.Acting.TheVariants as acting
use Rattle.run_finds.specs.Given.ExecutorEnding.{EndingBegins, EndsThere, NoCallOn}
use Rattle.run_finds.specs.Given.ExecutorIsThere.{IsThere, StaysGiven, ending_in, work_of}
use Rattle.run_finds.specs.Given.ExecutorDeclared.executor.Executor.{Executor}
use Rattle.run_finds.specs.Given.ExecutorDeclared.caller.NamedCaller.{NamedCaller}
use Rattle.many_acts.specs.Acts.Acts.{BeginsEnding, Nothing, OfEnding, StepsEnding}
use Rattle.many_acts.specs.Acts.Doings.{Stage, reclaiming}
use Rattle.many_acts.specs.Acts.Leads.{Led}
use Rattle.many_acts.specs.Acts.Lists.{Course}
use Rattle.run_schedules.specs.Deeds.Deeds.{Ends, MapGoes}
use Rattle.play_lists.specs.Agrees.Fresh.{comes_with}
use Rattle.play_lists.specs.Drives.Executors.{AreSteps, Computes}
use Rattle.play_lists.proofs.Drives.Executors.{executors_act}
use Rattle.play_lists.specs.Played.Play.{Ending, State, ended_on, ending_begun, ending_deed, ending_stepped, is_over, play_act, settled_outcome}
use Rattle.play_lists.specs.Played.Reached.{IsOfStage, rows_beside}
use Rattle.play_lists.proofs.Played.PlayedAs.{played_as}
use Rattle.play_lists.proofs.Played.Tied.{ending_tied}
use Rattle.play_lists.specs.Grouped.Grouping.{MayHave, Names}
use Rattle.play_lists.specs.Grouped.Reach.{Reach}
use Rattle.play_lists.proofs.Grouped.Aside.{begun_aside, ending_aside, works_on}
use Rattle.play_lists.proofs.Grouped.Callers.{under}
use Rattle.play_lists.proofs.Grouped.Midst.{InEvent}
use Rattle.play_lists.proofs.Grouped.OneMore.{one_act}
use Rattle.run_finds.proofs.Given.General.{same_some}

-- no map comes by an end
ending_comes : (K V : Type 0) {T : Type 0} (n : ℕ) (f : Ending) (told : Settled T) → comes_with n (ending_deed {K = K} {V = V} f told) ≡ false
ending_comes K V n f told = by (is_over told)
  where
    by : (b : Bool) → comes_with {K = K} {V = V} n (if b then MapGoes f.map else Ends f.map) ≡ false
    by true = refl
    by false = refl

-- the end that a caller has under way, as it is played, is that of this map
abbrev pub EndsMap : {K V S : Type 0} → (i map : ℕ) → State K V S → Type 0
EndsMap i map x = option_map (λ f. f.map) (x.now.enders i) ≡ Some map

module _ {K V S : Type 0} (same : K → K → Bool) (by_hasher : S → K → ℕ) (shards : ℕ) (log : List (Entry K V)) (event : Event K V) (calls : List (NamedCaller V)) (e e2 : Executor K V S) (given : StaysGiven e e2)
    (any : Course V same by_hasher e.batch_size e.roots slot_of) (i map : ℕ) where
  abbrev At : (State K V S → Type 0) → Executor K V S → Known → Type 0
  At P x known = Reach same by_hasher e.hasher e.batch_size e.roots shards P x known

  -- it is under way
  abbrev pub EndsOn : (did : List Effect) → Outcome V → State K V S → Type 0
  EndsOn did outcome x = InEvent log event did 0 outcome calls x × EndsMap i map x

  -- It begins on a map on which no call is, by a caller that has nothing under way.
  pub end_begins : ((s : Scene K V) → IsThere same (by_hasher e.hasher) e s → EndingBegins same (by_hasher e.hasher) map i s e e2) → work_of e i ≡ None → NoCallOn e map → (did : List Effect) (outcome : Outcome V) (noted : Known)
      → At (λ x. InEvent log event did 0 outcome calls x) e noted → At (λ x. EndsOn did outcome x) e2 noted
  end_begins begins fresh none did outcome noted at =
      one_act same by_hasher shards e e2 given any noted noted (λ x. InEvent log event did 0 outcome calls x) (λ x. EndsOn did outcome x) (BeginsEnding i map) Nothing (tt, tt)
      (λ s there. (executors_act V same by_hasher e e2 s there given i).1.ending_begins map (begins s there) fresh none) (λ x so. tt) (λ value. value)
      (λ value aborts x y p stage there its played knows so.
      (let came = played_as same by_hasher e.batch_size e.roots aborts x y (BeginsEnding i map) played in
      let z = ending_begun i map x came.0 in (
        ap (λ (w : State K V S). w.known) came.2 ∙ knows,
        subst (λ (w : State K V S). EndsOn did outcome w) (sym came.2)
            (begun_aside log event did 0 outcome calls x so z.now refl, ap (option_map (λ f. f.map)) (at_same x.now.enders i (Some (record { map = map; machine = ending came.0.0 false })) i refl)),
      ))) at

  -- Its step, which said this: its entry is one of the event.
  module _ (under_way : EndMap) (has : ending_in (work_of e i) ≡ Some under_way) (said : Settled (Node K V)) (leads : (s : Scene K V) → IsThere same (by_hasher e.hasher) e s → EndsThere same (by_hasher e.hasher) i said s e e2)
      (did did2 : List Effect) (noted noted2 : Known) (did_is : did2 ≡ did ++ effects_of (acting.Ending map) noted e2.memory.changed) (noted_is : noted2 ≡ known_after (acting.Ending map) e2.memory.changed noted)
      (outcome : Outcome V) (may : (names : Names) (last : Bool) → MayHave names (moment log) event (if last then MapGoes map else Ends map)) where
    drive : (s : Scene K V) → IsThere same (by_hasher e.hasher) e s → AreSteps same by_hasher e e2 s (Computes e e2 (end_map_plan {K = K} {V = V} under_way) said) (StepsEnding i) (OfEnding said)
    drive s there =
        let f = under (λ (f : Finishing K V). f.machine) (s.enders i) under_way (there.enders i ∙ has) in
        subst (λ (z : EndMap). AreSteps same by_hasher e e2 s (Computes e e2 (end_map_plan {K = K} {V = V} z) said) (StepsEnding i) (OfEnding said)) f.2
        ((executors_act V same by_hasher e e2 s there given i).1.ending said (leads s there) f.0 f.1)

    -- then it is under way still, unless it is over
    abbrev pub EndsThen : State K V S → Type 0
    EndsThen x = InEvent log event did2 0 (settled_outcome said) calls x × (is_over said ≡ false → EndsMap i map x)

    module _ (g : Grant) (computed : Computes e e2 (end_map_plan {K = K} {V = V} under_way) said g) where
      -- by the end as it is played
      by_it : (x y : State K V S) (it : Ending) → x.now.enders i ≡ Some it → it.map ≡ map → (machine : EndMap) (memory : Mem (Node K V)) → y ≡ ending_stepped i it e2.memory.changed x (memory, (machine, said))
          → x.known ≡ noted → InEvent log event did 0 outcome calls x → (y.known ≡ noted2) × EndsThen y
      by_it x y it here map_is machine memory comes knows so =
          let z = ending_stepped i it e2.memory.changed x (memory, (machine, said)) in
          let may_it : (names : Names) → MayHave names (moment log) event (ending_deed it said) = λ names. subst (λ (m : ℕ). MayHave names (moment log) event (if is_over said then MapGoes m else Ends m)) (sym map_is) (may names (is_over said)) in
          let on = works_on log event did 0 outcome calls x so z.now refl (acting.Ending it.map) e2.memory.changed (ending_deed it said) (settled_outcome said) (OfEnding said) (ending_aside it said) (λ n l. ending_comes K V n it said) may_it noted noted2 did2 knows
          (did_is ∙ ap (λ (m : ℕ). did ++ effects_of (acting.Ending m) noted e2.memory.changed) (sym map_is)) (noted_is ∙ ap (λ (m : ℕ). known_after (acting.Ending m) e2.memory.changed noted) (sym map_is)) y comes in (
            on.0,
            (
              on.1,
              λ goes. ap (λ (w : State K V S). option_map (λ f. f.map) (w.now.enders i)) comes ∙ ap (option_map (λ f. f.map)) (at_same x.now.enders i (ended_on it machine said) i refl)
                  ∙ ap (λ (b : Bool). option_map (λ f. f.map) (if b then None else Some (record it { machine = machine }))) goes ∙ ap Some map_is,
            ),
          )

      next : (value : V) (aborts : ℕ → V) (x y : State K V S) (p : Stage V same by_hasher e.batch_size e.roots slot_of) → IsOfStage by_hasher same e.batch_size e.roots p x.now
          → IsThere same (by_hasher e.hasher) e p.0 → play_act same by_hasher e.batch_size e.roots aborts (StepsEnding i g) x ≡ Some y → x.known ≡ noted → EndsOn did outcome x → (y.known ≡ noted2) × EndsThen y
      next value aborts x y p stage there played knows so =
          let act = (drive p.0 there).1 g computed in
          let led : Led same by_hasher e.batch_size e.roots slot_of (StepsEnding i g) p.0 (OfEnding said) act.0.to = act.0.led in
          let tied = ending_tied same by_hasher e.batch_size e.roots aborts p.0 act.0.to (rows_beside (reclaiming V same by_hasher e.batch_size e.roots slot_of p) p.0.world.row) x y stage.scene i g led.0 led.1
          (led.2, (led.3, led.4)) led.5 (played_as same by_hasher e.batch_size e.roots aborts x y (StepsEnding i g) played) in
          let said_is : said ≡ led.4 = cc (led.6) in
          let comes : y ≡ ending_stepped i tied.it e2.memory.changed x (led.2, (led.3, said)) =
          tied.comes ∙ ap (λ (k : Changed). ending_stepped i tied.it k x (led.2, (led.3, led.4))) act.1
          ∙ ap (λ (w : Settled (Node K V)). ending_stepped i tied.it e2.memory.changed x (led.2, (led.3, w))) (sym said_is) in
          by_it x y tied.it tied.here (same_some tied.it.map map (sym (ap (option_map (λ (f : Ending). f.map)) tied.here) ∙ so.1)) led.3 led.2 comes knows so.0

    pub end_steps : At (λ x. EndsOn did outcome x) e noted → At (λ x. EndsThen x) e2 noted2
    end_steps at =
        let to = at.leads any in
        let c = (drive to.0.0.0 to.3).0 in
        one_act same by_hasher shards e e2 given any noted noted2 (λ x. EndsOn did outcome x) (λ x. EndsThen x) (StepsEnding i c.0) (OfEnding said) (tt, tt) (λ s there. ((drive s there).1 c.0 c.1).0) (λ x so. tt)
        (λ value. value) (λ value aborts x y p stage there its played knows so. next c.0 c.1 value aborts x y p stage there played knows so) at
