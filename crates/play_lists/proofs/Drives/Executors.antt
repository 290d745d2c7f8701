-- What an executor does, it does by acts.
use Rattle.std.specs.Prelude.{◌≡◌, ℕ, Bool, true, false, [], ◌∷◌, Option, Some, None, length, option_map, Result}
use Rattle.std.specs.Option.{is_none, option_map_or}
use Rattle.std.specs.Result.{is_err}
use Rattle.std.proofs.Common.{refl, sym, ap, subst, ◌∙◌}
use Rattle.run_schedules.specs.Given.SeizeWordsMem.{Mem, Can, Took, value_at}
use Rattle.run_schedules.specs.Given.SeizeWordsPlan.{Plan, May, Steps}
use Rattle.seize.specs.Enter.{enter_plan, unregister_plan}
use Rattle.seize.specs.Law.{Entered}
use Rattle.seize.specs.Leave.{leave_plan}
use Rattle.seize.specs.Register.{register_plan}
use Rattle.seize.specs.Settle.{settle_plan}
use Rattle.seize.specs.World.{MayStep, Rests, Row, Steps', World, with_at}
use Rattle.seize.specs.World as world
use Rattle.seize.specs.declared.rows.leave.Leave.{Leave}
use Rattle.seize.specs.declared.rows.register.Register.{Register}
use Rattle.seize.specs.declared.rows.settle.Settle.{Settle}
use Rattle.seize.specs.declared.advance.Advance.{Advance}
use Rattle.seize.specs.declared.advance.Advance.TheVariants as progress
use Rattle.seize.specs.declared.rows.settle.Settled.{Settled}
use Rattle.seize.specs.declared.rows.settle.Settled.TheVariants as settled
use Rattle.seize_acts.specs.Acts.Acts.{row_steps}
use Rattle.seize_acts.proofs.Acts.Answers.{was_stepped}
use Rattle.seize_acts.specs.Acts.Answers.{Grant, stepped, then_on}
use Rattle.seize_acts.proofs.Given.SeizeRuleWorld.Kept.{rows_may}
use Rattle.map_tables.specs.Nodes.{deferred_word}
use Rattle.map_tables.specs.declared.node.Node.{Node}
use Rattle.map_tables.specs.declared.setting.Setting.{Setting}
use Rattle.run_kept.specs.Given.ResizeNewMap.{new_map_plan}
use Rattle.run_finds.specs.Given.ResizeDeclared.new_map.NewMap.{NewMap}
use Rattle.run_schedules.specs.Given.RawEndMap.{end_map_plan}
use Rattle.run_finds.specs.Given.RawMachine.{machine_asked, machine_plan, machine_replied}
use Rattle.run_finds.specs.Given.RawDeclared.machines.asking.MachineReply.{MachineReply}
use Rattle.run_finds.specs.Given.RawDeclared.machines.end_map.EndMap.{EndMap}
use Rattle.run_finds.specs.Given.RawDeclared.machines.machine.Machine.{Machine}
use Rattle.run_finds.specs.Given.RawDeclared.machines.progress.Progress.{Progress as CallProgress}
use Rattle.run_finds.specs.Given.TellerTells.{StepsObserved}
use Rattle.run_kept.specs.Given.EffectsDeclared.changed.Changed.TheVariants.{Nothing as NoChange}
use Rattle.many_acts.specs.Given.CallersTogether.{Closes, Counting, MayWrite, ForRoom, OnKey, OverAll, UnderWay, UnlessCounts}
use Rattle.many_acts.specs.Given.FinishesEndings.{EndingsTogether, Finishing, MakingStepsWithEndings, StepsOfEnding}
use Rattle.many_acts.specs.Given.FinishesMachines.{machine_of}
use Rattle.many_acts.specs.Given.FinishesMakings.{Beginning}
use Rattle.many_acts.specs.Given.FinishesMaps.{Standing, with_call}
use Rattle.run_finds.specs.Given.ExecutorDeclared.executor.Executor.{Executor}
use Rattle.many_acts.specs.Acts.Acts.{Act, Answer, Nothing, OfCall, OfReply, OfAsking, OfMaking, OfEnding, BeginsCall, StepsCall, TellsCall, AsksCall, StopsCall, BeginsMaking, StepsMaking, BeginsEnding, StepsEnding, BeginsRow, StepsRow, begun}
use Rattle.many_acts.specs.Acts.AsSteps.{IsOwn, changed_of, row_changed}
use Rattle.play_lists.specs.Drives.Executors.{IsAct, AreSteps, Computes, IsComputed, RowIsComputed, CallsAreActs, OthersAreActs, ExecutorsAct}
use Rattle.many_acts.specs.Acts.Leads.{AllStand, EndingCame, Led, MakingCame, MayBe, asked_on, call_at, call_steps, ending_steps, making_steps}
use Rattle.many_acts.specs.Acts.Lists.{AllMayStep}
use Rattle.play_lists.proofs.Drives.Begins.{wants}
use Rattle.play_lists.proofs.Drives.May.{at_rest, begun_there, few_with, none_called, is_entered, is_free, no_map_yet, none_makes_it, unless_to_count}
use Rattle.play_lists.proofs.Drives.Told.{steps_once, told_so}
use Rattle.play_lists.proofs.Drives.Wherever.{wherever}
use Rattle.many_acts.proofs.Acts.AsSteps.Calls.{begins_so}
use Rattle.many_acts.proofs.Acts.Calls.{as_it_was, asked_machine, asked_stands, refused_same, told_nothing}
use Rattle.many_acts.proofs.Acts.Courses.{both_at}
use Rattle.many_acts.proofs.Acts.Lists.{all_may_step}
use Rattle.run_finds.specs.Given.ExecutorEnding.{EndsThere}
use Rattle.run_finds.specs.Given.ExecutorDeclared.worker.Work.{Work}
use Rattle.run_finds.specs.Given.ExecutorDeclared.worker.Work.TheVariants as work
use Rattle.run_finds.specs.Given.ExecutorIsThere.{IsThere, StaysGiven, call_in, held_by, work_of}
use Rattle.run_finds.specs.Given.ExecutorOnSlots.{MayBegin, NobodyIn, RowStepsThere}
use Rattle.run_finds.specs.Given.ExecutorMaking.{MakesThere}
use Rattle.run_finds.specs.Given.ExecutorReplying.{RepliesThere}
use Rattle.run_finds.specs.Given.ExecutorStepping.{StepsThere}
use Rattle.many_acts.specs.Given.ScenesEnding.{EndingOutcomeHolds}
use Rattle.many_acts.specs.Given.ScenesMaking.{MakingOutcomeHolds}
use Rattle.many_acts.specs.Given.ScenesOnSlots.{RowSteps}
use Rattle.many_acts.specs.Given.ScenesReplying.{scene_with, unless_stopped}
use Rattle.many_acts.specs.Given.ScenesRows.{request_of}
use Rattle.many_acts.specs.Given.ScenesDeclared.row.RowTold.{RowTold}
use Rattle.many_acts.specs.Given.ScenesDeclared.row.SlotCall.{SlotCall}
use Rattle.many_acts.specs.Given.ScenesDeclared.row.SlotCall.TheVariants as call
use Rattle.many_acts.specs.Given.ScenesDeclared.row.SlotRow.{SlotRow}
use Rattle.many_acts.specs.Given.ScenesDeclared.row.SlotRow.TheVariants as rows
use Rattle.many_acts.specs.Given.ScenesScene.{Scene, row_of, slot_of}
use Rattle.run_finds.proofs.Given.ExecutingOnSlotBegun.{of_slots as slots_alone}
use Rattle.run_finds.proofs.Given.General.{same_some, none_mapped as none_of}

-- the memory after a step of a row
registers_memory : {T : Type 0} (w : World T) (i : ℕ) (c : Register) (m : Mem T) (end : Register × Advance ℕ) → (world.registers_on w i c m end).memory ≡ m
registers_memory w i c m (c2, progress.Goes) = refl
registers_memory w i c m (c2, progress.Waits) = refl
registers_memory w i c m (c2, progress.Done slot) = refl
registers_memory w i c m (c2, progress.Refused fault) = refl

settles_memory : {T : Type 0} (w : World T) (i : ℕ) (c : Settle) (m : Mem T) (end : Settle × Settled T) → (world.settles_on w i c m end).memory ≡ m
settles_memory w i c m (c2, settled.Goes) = refl
settles_memory w i c m (c2, settled.Waits) = refl
settles_memory w i c m (c2, settled.Gave value) = refl
settles_memory w i c m (c2, settled.Done) = refl

leaves_memory : {T : Type 0} (w : World T) (i : ℕ) (c : Leave) (m : Mem T) (end : Leave × Settled T) → (world.leaves_on w i c m end).memory ≡ m
leaves_memory w i c m (c2, settled.Goes) = refl
leaves_memory w i c m (c2, settled.Waits) = refl
leaves_memory w i c m (c2, settled.Gave value) = refl
leaves_memory w i c m (c2, settled.Done) = refl

-- what is so of each call is so of those that are no countings
unless_counts : {K V Q A : Type 0} (u : UnderWay K V Q) → A → UnlessCounts u A
unless_counts (OnKey u) so = so
unless_counts (ForRoom r) so = so
unless_counts (Counting sum) so = tt
unless_counts (OverAll o) so = so

module _ {K V S : Type 0} (same : K → K → Bool) (hash : S → K → ℕ) (e e2 : Executor K V S) (s : Scene K V) (at : IsThere same (hash e.hasher) e s) (stays : StaysGiven e e2) (i : ℕ) where
  abbrev may : AllMayStep V same hash e.batch_size e.roots slot_of s
  may = all_may_step same hash e.batch_size e.roots slot_of s at.held.together

  -- an act that may be made, and leads to a scene in which the second executor is
  acts : (act : Act K V S) → IsOwn hash (λ map. hash e.hasher) act → MayBe same hash e.batch_size e.roots slot_of act s → (told : Answer K V) (to : Scene K V)
      → Led same hash e.batch_size e.roots slot_of act s told to → IsThere same (hash e.hasher) e2 to → IsAct same hash e e2 s act told
  acts act own is told to led there = record { may = is; to = to; led = led; there = there; wherever = wherever same hash e e2 s at stays act own is told to led there }

  -- a step that is told is computed, with some choice
  computed : {R : Type 0} (plan : Plan (Node K V) R) (end : R) → May Can Took value_at s.world.memory plan
      → StepsObserved K V R e.memory.memory NoChange plan e2.memory.memory e2.memory.changed end → (g : Grant) × IsComputed e e2 plan end g
  computed plan end can st =
      let so = told_so e.memory.memory plan e2.memory.memory e2.memory.changed end (subst (λ (m : Mem (Node K V)). May Can Took value_at m plan) at.held.memory can) st in
      (so.0, (so.1, so.2))

  -- and so it is in the memory of the scene, which is that of the executor
  in_scene : {R : Type 0} (plan : Plan (Node K V) R) (end : R) (g : Grant) → IsComputed e e2 plan end g
      → (stepped s.world.memory g plan ≡ Some (e2.memory.memory, end)) × (changed_of s.world.memory g plan ≡ e2.memory.changed)
  in_scene plan end g is =
      subst (λ (m : Mem (Node K V)). (stepped m g plan ≡ Some (e2.memory.memory, end)) × (changed_of m g plan ≡ e2.memory.changed)) (sym at.held.memory) is

  -- whichever choices compute a step, it comes to one end
  one_end : {R : Type 0} (plan : Plan (Node K V) R) (end other : R) (g h : Grant) → May Can Took value_at s.world.memory plan → IsComputed e e2 plan end g → IsComputed e e2 plan other h → end ≡ other
  one_end plan end other g h can is also =
      steps_once s.world.memory e2.memory.memory plan end other can (was_stepped s.world.memory g plan (e2.memory.memory, end) (in_scene plan end g is).0)
      (was_stepped s.world.memory h plan (e2.memory.memory, other) (in_scene plan other h also).0)

  -- so it is of a machine, of which one step was told
  computed_to : {M P : Type 0} (plan : Plan (Node K V) (M × P)) (machine : M) (told : P) → May Can Took value_at s.world.memory plan
      → StepsObserved K V (M × P) e.memory.memory NoChange plan e2.memory.memory e2.memory.changed (machine, told)
      → ((g : Grant) × Computes e e2 plan told g) × ((g : Grant) → Computes e e2 plan told g → IsComputed e e2 plan (machine, told) g)
  computed_to {M} {P} plan machine told can st =
      let so = computed plan (machine, told) can st in (
        (so.0, (machine, so.1)),
        λ g it. subst (λ (x : M × P). IsComputed e e2 plan x g) (one_end plan (it.0, told) (machine, told) g so.0 can it.1 so.1) it.1,
      )

  -- what is there may step
  steps_there : {X Y : Type 0} (o : Option X) (f : X → Option Y) (x : X) (y : Y) → o ≡ Some x → f x ≡ Some y → is_none (then_on o f) ≡ false
  steps_there o f x y is so = ap (λ (p : Option _). is_none (then_on p f)) is ∙ ap is_none so

  call_there : (m : ℕ) (standing : Standing K) (u : UnderWay K V K) → s.maps m ≡ Some standing → s.calls m i ≡ Some u → call_at s i m ≡ Some (standing, u)
  call_there m standing u stands here =
      ap (λ (o : Option (Standing K)). then_on o (λ it. then_on (s.calls m i) (λ v. Some (it, v)))) stands ∙ ap (λ (o : Option (UnderWay K V K)). then_on o (λ v. Some (standing, v))) here

  there_call : (m : ℕ) (u : UnderWay K V K) → s.calls m i ≡ Some u → is_none (call_at s i m) ≡ false
  there_call m u here = let it = may.standing m i u here in ap is_none (call_there m it.0 u it.1 here)

  step : (told : CallProgress (Node K V)) → StepsThere same (hash e.hasher) i told s e e2 → (m : ℕ) (u : UnderWay K V K) → s.calls m i ≡ Some u
      → AreSteps same hash e e2 s (Computes e e2 (machine_plan same same (hash e.hasher) (machine_of u)) told) (StepsCall i m) (OfCall told)
  step told leads m u here =
      let to = leads m u here in
      let hashed : to.0.hash ≡ hash e.hasher = at.held.hashes m to.0 to.2 in
      let plan = machine_plan same same (hash e.hasher) (machine_of u) in
      let can = subst (λ (h : K → ℕ). May Can Took value_at s.world.memory (machine_plan same same h (machine_of u))) hashed (may.calls m i to.0 u to.2 here) in
      let st = subst (λ (h : K → ℕ). StepsObserved K V (Machine K V K × CallProgress (Node K V)) e.memory.memory NoChange (machine_plan same same h (machine_of u)) e2.memory.memory e2.memory.changed (to.1, told)) hashed
      to.3 in
      let all = computed_to plan to.1 told can st in
      let at_it = call_there m to.0 u to.2 here in (
        all.0,
        λ g it.
            (let so = subst (λ (h : K → ℕ). (stepped s.world.memory g (machine_plan same same h (machine_of u)) ≡ Some (e2.memory.memory, (to.1, told)))
            × (changed_of s.world.memory g (machine_plan same same h (machine_of u)) ≡ e2.memory.changed)) (sym hashed) (in_scene plan (to.1, told) g (all.1 g it)) in (
              acts (StepsCall i m g) tt (steps_there (call_at s i m) (call_steps same hash e.batch_size e.roots slot_of s g) (to.0, u) (e2.memory.memory, (to.1, told)) at_it so.0) (OfCall told) _ (record {
                standing = to.0;
                stands = to.2;
                call = u;
                here = here;
                memory = e2.memory.memory;
                machine = to.1;
                progress = told;
                computed = so.0;
                tells = refl;
                did = to.4;
                comes = refl;
              }) to.5,
              ap (λ (o : Option (Standing K × UnderWay K V K)). option_map_or (λ it. changed_of s.world.memory g (machine_plan same same it.0.hash (machine_of it.1))) o NoChange) at_it ∙ so.1,
            )),
      )

  -- A call that goes on as the same machine is there with what else it knows, too: what is said of calls alone is so by what was there before, and all else by what is there then.
  there_as : (m : ℕ) (it next : UnderWay K V K) → EndingsTogether V same same e.batch_size e.roots slot_of s.world s.maps (with_call s.calls m i (Some it)) s.makers s.enders
      → machine_of it ≡ machine_of next → IsThere same (hash e.hasher) e2 (scene_with m i next s) → IsThere same (hash e.hasher) e2 (scene_with m i it s)
  there_as m it next calls_all machine_is there = record {
    held = record {
      memory = there.held.memory;
      together = record {
        makings = record {
          standing = record {
            came = then_all.makings.standing.came;
            each = calls_all.makings.standing.each;
            fit = then_all.makings.standing.fit;
            roots = calls_all.makings.standing.roots;
            counters = calls_all.makings.standing.counters;
            only = calls_all.makings.standing.only;
            once = calls_all.makings.standing.once;
          };
          free = then_all.makings.free;
          used = then_all.makings.used;
          facts = then_all.makings.facts;
          alone = calls_all.makings.alone;
          coming = then_all.makings.coming;
          numbers = then_all.makings.numbers;
          their_roots = then_all.makings.their_roots;
          roots_apart = then_all.makings.roots_apart;
          counters_apart = then_all.makings.counters_apart;
        };
        facts = then_all.facts;
        alone = calls_all.alone;
        roots_apart = then_all.roots_apart;
        counters_apart = then_all.counters_apart;
        makings_roots = then_all.makings_roots;
        makings_counters = then_all.makings_counters;
        their_roots = then_all.their_roots;
        their_counters = then_all.their_counters;
      };
      hashes = there.held.hashes;
      hashes_made = there.held.hashes_made;
      on_slots = there.held.on_slots;
      small = there.held.small;
    };
    maps = there.maps;
    calls = λ n j. both_at (λ (f : ℕ → Option (UnderWay K V K)). option_map machine_of (f j)) s.calls s.calls m (with_at (s.calls m) i (Some it)) (with_at (s.calls m) i (Some next))
        (both_at (option_map machine_of) (s.calls m) (s.calls m) i (Some it) (Some next) (ap Some machine_is) (λ l. refl) j) (λ l. refl) n ∙ there.calls n j;
    makers = there.makers;
    enders = there.enders;
    numbers = there.numbers;
    rows = there.rows;
    slots = there.slots;
    uses = there.uses;
  }
    where
      then_all : EndingsTogether V same same e2.batch_size e2.roots slot_of s.world s.maps (with_call s.calls m i (Some next)) s.makers s.enders
      then_all = there.held.together

  -- one that was asked for its next pair
  asked : (m : ℕ) (u next : UnderWay K V K) → s.calls m i ≡ Some u → machine_of next ≡ (machine_asked (machine_of u)).0 → IsThere same (hash e.hasher) e2 (scene_with m i next s)
      → IsThere same (hash e.hasher) e2 (scene_with m i (asked_on u) s)
  asked m u next here machine_is there =
      let standing = may.standing m i u here in
      there_as m (asked_on u) next (asked_stands same hash e.batch_size e.roots slot_of s at.held.together i m standing.0 standing.1 u here) (asked_machine u ∙ sym machine_is) there

  -- one that was told something: if it does not take that, it is as it was
  replied_so : (reply : MachineReply V) (result : Result Unit (MachineReply V)) → RepliesThere same (hash e.hasher) i reply result s e e2 → (m : ℕ) (u : UnderWay K V K) → s.calls m i ≡ Some u
      → IsAct same hash e e2 s (TellsCall i m reply) (OfReply result)
  replied_so reply result leads m u here = by (is_err (machine_replied (machine_of u) reply).1) refl
    where
      by : (q : Bool) → is_err (machine_replied (machine_of u) reply).1 ≡ q → IsAct same hash e e2 s (TellsCall i m reply) (OfReply result)
      by true refused =
          let to = leads.1 m u here in
          let as_it_is : (machine_replied (machine_of u) reply).0 ≡ machine_of u = refused_same (machine_of u) reply refused in
          acts (TellsCall i m reply) tt (there_call m u here) (OfReply result) _
          (to.0, to.2, u, u, here, sym as_it_is, ap OfReply to.4, (told_nothing same e.batch_size e.roots slot_of to.0 i reply u, λ x. refl), refl)
          (there_as m u to.1 (as_it_was same hash e.batch_size e.roots slot_of s at.held.together i m u here) (sym (to.3 ∙ as_it_is)) to.7)
      by false takes =
          let to = leads.1 m u here in
          acts (TellsCall i m reply) tt (there_call m u here) (OfReply result) _
          (to.0, to.2, u, to.1, here, to.3, ap OfReply to.4, (to.5, λ refused. absurd (let both : true ≡ false = sym refused ∙ takes in cc both)), refl) to.7

  -- all stand together in what the second holds, with what the first was given
  all_given : (n : Scene K V) → IsThere same (hash e.hasher) e2 n → AllStand same hash e.batch_size e.roots slot_of n
  all_given n there =
      subst (λ (x : ℕ). EndingsTogether V same same x e.roots slot_of n.world n.maps n.calls n.makers n.enders) stays.1
      (subst (λ (x : ℕ). EndingsTogether V same same e2.batch_size x slot_of n.world n.maps n.calls n.makers n.enders) stays.2 there.held.together)

  pub calls_are_acts : CallsAreActs same hash e e2 s i
  calls_are_acts = record {
    begin = λ m machine leads fresh standing stands inside wanted as_machine.
        (let lawful = (at.held.together.makings.standing.fit m standing stands).0 in
        let u = begun same slot_of standing i wanted in
        let to = (leads inside).1 standing stands u as_machine (begins_so same standing lawful i wanted) in
        acts (BeginsCall i m wanted) tt (
          is_free same (hash e.hasher) e s at i fresh,
          at_rest same (hash e.hasher) e s at i fresh,
          unless_to_count wanted (is_entered same (hash e.hasher) e s at i inside),
          ap is_none stands,
          few_with same hash e.batch_size e.roots s m i u (all_given (scene_with m i u s) to.1) (none_called same (hash e.hasher) e s at i fresh m) wanted
              (λ other here. subst (λ (x : Standing K). MayWrite (begun same slot_of x i wanted) → MayWrite u) (same_some standing other (sym stands ∙ here)) (λ writes. writes)),
        ) Nothing (scene_with m i u s) (standing, stands, refl, refl) to.1);
    begun_so = λ m standing stands u is. wants same standing (at.held.together.makings.standing.fit m standing stands).0 i u is;
    step = step;
    reply = replied_so;
    ask = λ ready leads m u here. (let to = leads.1 m u here in
        acts (AsksCall i m) tt (there_call m u here) (OfAsking ready) _ (u, here, ap OfAsking to.2, refl) (asked m u to.0 here to.1 to.4));
    stop = λ stopped leads m u here. (let to = leads.1 m u here in
        acts (StopsCall i m) tt (there_call m u here) (OfAsking stopped) _ (u, here, ap OfAsking to.0, ap (λ (x : Bool). record s { calls = with_call s.calls m i (unless_stopped x u) }) to.0) to.2);
  }

  making_comes : (b : Beginning K) (machine : NewMap) (told : Advance Setting) (did : MakingStepsWithEndings V same same e.batch_size e.roots slot_of s.world s.maps s.calls s.makers s.enders i b e2.memory.memory (machine, told))
      → MakingOutcomeHolds same (IsThere same (hash e.hasher) e2) s (held_by e) i b machine did.step.w2 told
      → (n : Scene K V) × MakingCame same hash e.batch_size e.roots slot_of s i b did.step.w2 machine n told × IsThere same (hash e.hasher) e2 n
  making_comes b machine progress.Goes did is = (_, refl, is)
  making_comes b machine progress.Waits did never = absurd never
  making_comes b machine (progress.Done setting) did (standing, made, is) = (_, (standing, made, refl), is)
  making_comes b machine (progress.Refused fault) did is = (_, refl, is)

  making : (told : Advance Setting) → MakesThere same (hash e.hasher) i told s e e2 → (b : Beginning K) → s.makers i ≡ Some b
      → AreSteps same hash e e2 s (Computes e e2 (new_map_plan {K = K} {V = V} b.machine) told) (StepsMaking i) (OfMaking told)
  making told leads b makes =
      let to = leads b makes in
      let comes = making_comes b to.0 told to.2 to.3 in
      let all = computed_to (new_map_plan b.machine) to.0 told (may.makings i b makes) to.1 in (
        all.0,
        λ g it.
            (let so = in_scene (new_map_plan b.machine) (to.0, told) g (all.1 g it) in (
              acts (StepsMaking i g) tt (steps_there (s.makers i) (making_steps same hash e.batch_size e.roots slot_of s g) b (e2.memory.memory, (to.0, told)) makes so.0) (OfMaking told) comes.0
                  (b, makes, e2.memory.memory, to.0, told, so.0, refl, to.2, comes.1) comes.2,
              ap (λ (o : Option (Beginning K)). option_map_or (λ x. changed_of s.world.memory g (new_map_plan {K = K} {V = V} x.machine)) o NoChange) makes ∙ so.1,
            )),
      )

  ending_comes : (f : Finishing K V) (machine : EndMap) (told : Settled (Node K V)) (did : StepsOfEnding V same same e.batch_size e.roots slot_of s.world s.maps s.calls s.makers s.enders i f e2.memory.memory (machine, told))
      → EndingOutcomeHolds same (IsThere same (hash e.hasher) e2) s i f machine did.w2 did.deed told
      → (n : Scene K V) × EndingCame same hash e.batch_size e.roots slot_of s i f did.w2 did.deed machine n told × IsThere same (hash e.hasher) e2 n
  ending_comes f machine settled.Goes did (none, is) = (_, (none, refl), is)
  ending_comes f machine settled.Waits did never = absurd never
  ending_comes f machine (settled.Gave value) did (b, there, taken, is) = (_, (b, there, taken, refl), is)
  ending_comes f machine settled.Done did (none, finished, is) = (_, (none, finished, refl), is)

  ending : (told : Settled (Node K V)) → EndsThere same (hash e.hasher) i told s e e2 → (f : Finishing K V) → s.enders i ≡ Some f
      → AreSteps same hash e e2 s (Computes e e2 (end_map_plan {K = K} {V = V} f.machine) told) (StepsEnding i) (OfEnding told)
  ending told leads f ends =
      let to = leads f ends in
      let comes = ending_comes f to.0 told to.2 to.3 in
      let all = computed_to (end_map_plan f.machine) to.0 told (may.endings i f ends) to.1 in (
        all.0,
        λ g it.
            (let so = in_scene (end_map_plan f.machine) (to.0, told) g (all.1 g it) in (
              acts (StepsEnding i g) tt (steps_there (s.enders i) (ending_steps same hash e.batch_size e.roots slot_of s g) f (e2.memory.memory, (to.0, told)) ends so.0) (OfEnding told) comes.0
                  (f, ends, e2.memory.memory, to.0, told, so.0, refl, to.2, comes.1) comes.2,
              ap (λ (o : Option (Finishing K V)). option_map_or (λ x. changed_of s.world.memory g (end_map_plan {K = K} {V = V} x.machine)) o NoChange) ends ∙ so.1,
            )),
      )

  row_may : MayStep deferred_word (s.world.row i) s.world.memory
  row_may = let came = at.held.together.makings.standing.came in rows_may deferred_word e.batch_size came.0 came.1 s.world came.2 i

  -- A step of a row that was seen to be one of its plan is what is computed so.
  row_by : {R : Type 0} (plan : Plan (Node K V) R) (made : Mem (Node K V) × R → World (Node K V)) (end other : R) (w2 : World (Node K V)) (m2 : Mem (Node K V)) (g : Grant) → May Can Took value_at s.world.memory plan
      → IsComputed e e2 plan end g → Steps Took value_at s.world.memory plan m2 other → w2 ≡ made (m2, other) → m2 ≡ e2.memory.memory
      → (then_on (stepped s.world.memory g plan) (λ p. Some (made p)) ≡ Some w2) × (changed_of s.world.memory g plan ≡ e2.memory.changed)
  row_by {R} plan made end other w2 m2 g can is seen made_is memory =
      let so = in_scene plan end g is in
      let one : end ≡ other = steps_once s.world.memory e2.memory.memory plan end other can (was_stepped s.world.memory g plan (e2.memory.memory, end) so.0)
      (subst (λ (m : Mem (Node K V)). Steps Took value_at s.world.memory plan m other) memory seen) in (
        ap (λ (o : Option (Mem (Node K V) × R)). then_on o (λ p. Some (made p))) so.0 ∙ ap (λ (p : Mem (Node K V) × R). Some (made p)) (ap (λ (x : R). (e2.memory.memory, x)) one ∙ ap (λ (m : Mem (Node K V)). (m, other)) (sym memory))
            ∙ ap Some (sym made_is),
        so.1,
      )

  -- whichever row it is
  row_world : (it : SlotRow) (told : RowTold (Node K V)) → s.world.row i ≡ row_of it → (g : Grant) → RowIsComputed e e2 it told g → (w2 : World (Node K V)) → Steps' deferred_word i (s.world.row i) s.world w2 → w2.memory ≡ e2.memory.memory
      → (row_steps deferred_word i (s.world.row i) g s.world ≡ Some w2) × (row_changed (s.world.row i) g s.world.memory ≡ e2.memory.changed)
  row_world it told is g computed_so w2 happens memory = by_row is row_may happens
    where
      w : World (Node K V)
      w = s.world

      by : (it : SlotRow) → RowIsComputed e e2 it told g → MayStep deferred_word (row_of it) w.memory → Steps' deferred_word i (row_of it) w w2
          → (row_steps deferred_word i (row_of it) g w ≡ Some w2) × (row_changed (row_of it) g w.memory ≡ e2.memory.changed)
      by (rows.Registers c) (end, is, tells) can (m2, other, seen, made) =
          row_by (register_plan c) (λ p. world.registers_on w i c p.0 p.1) end other w2 m2 g can is seen made (sym (registers_memory w i c m2 other) ∙ ap (λ (x : World (Node K V)). x.memory) (sym made) ∙ memory)
      by (rows.Enters c) (end, is, tells) can (m2, other, seen, made) =
          row_by (enter_plan c) (λ p. world.with_use (world.after_step w i p.0 Rests (Entered c.slot ∷ [])) c.slot (world.Inside 0)) end other w2 m2 g can is seen made
          (ap (λ (x : World (Node K V)). x.memory) (sym made) ∙ memory)
      by (rows.Leaves c) (end, is, tells) can (m2, other, seen, made) =
          row_by (leave_plan deferred_word c) (λ p. world.leaves_on w i c p.0 p.1) end other w2 m2 g can is seen made (sym (leaves_memory w i c m2 other) ∙ ap (λ (x : World (Node K V)). x.memory) (sym made) ∙ memory)
      by (rows.Flushes c) (end, is, tells) can (m2, other, seen, made) =
          row_by (settle_plan deferred_word c) (λ p. world.settles_on w i c p.0 p.1) end other w2 m2 g can is seen made (sym (settles_memory w i c m2 other) ∙ ap (λ (x : World (Node K V)). x.memory) (sym made) ∙ memory)
      by (rows.Frees c) (end, is, tells) can (m2, other, seen, made) =
          row_by (unregister_plan c) (λ p. world.with_use (world.after_step w i p.0 Rests []) c.slot world.Vacant) end other w2 m2 g can is seen made (ap (λ (x : World (Node K V)). x.memory) (sym made) ∙ memory)

      by_row : s.world.row i ≡ row_of it → MayStep deferred_word (s.world.row i) w.memory → Steps' deferred_word i (s.world.row i) w w2
          → (row_steps deferred_word i (s.world.row i) g w ≡ Some w2) × (row_changed (s.world.row i) g w.memory ≡ e2.memory.changed)
      by_row same_row =
          subst (λ (r : Row). MayStep deferred_word r w.memory → Steps' deferred_word i r w w2 → (row_steps deferred_word i r g w ≡ Some w2) × (row_changed r g w.memory ≡ e2.memory.changed))
          (sym same_row) (by it computed_so)

  -- and it is computed with some choice
  row_found : (it : SlotRow) → s.world.row i ≡ row_of it → (after : SlotRow) (told : RowTold (Node K V)) → RowSteps K V it e.memory.memory e2.memory.memory e2.memory.changed (after, told)
      → (g : Grant) × RowIsComputed e e2 it told g
  row_found it is after told steps = by it steps (subst (λ (r : Row). MayStep deferred_word r s.world.memory) is row_may)
    where
      by : (it : SlotRow) → RowSteps K V it e.memory.memory e2.memory.memory e2.memory.changed (after, told) → MayStep deferred_word (row_of it) s.world.memory → (g : Grant) × RowIsComputed e e2 it told g
      by (rows.Registers c) (end, st, ends) can = let so = computed (register_plan c) end can st in (so.0, (end, so.1, ap (λ (x : SlotRow × RowTold (Node K V)). x.1) ends))
      by (rows.Enters c) (end, st, ends) can = let so = computed (enter_plan c) end can st in (so.0, (end, so.1, ap (λ (x : SlotRow × RowTold (Node K V)). x.1) ends))
      by (rows.Leaves c) (end, st, ends) can = let so = computed (leave_plan deferred_word c) end can st in (so.0, (end, so.1, ap (λ (x : SlotRow × RowTold (Node K V)). x.1) ends))
      by (rows.Flushes c) (end, st, ends) can = let so = computed (settle_plan deferred_word c) end can st in (so.0, (end, so.1, ap (λ (x : SlotRow × RowTold (Node K V)). x.1) ends))
      by (rows.Frees c) (end, st, ends) can = let so = computed (unregister_plan c) end can st in (so.0, (end, so.1, ap (λ (x : SlotRow × RowTold (Node K V)). x.1) ends))

  row : (told : RowTold (Node K V)) → RowStepsThere same (hash e.hasher) i told s e e2 → (it : SlotRow) → work_of e i ≡ Some (work.OnSlot it)
      → AreSteps same hash e e2 s (RowIsComputed e e2 it told) (StepsRow i) Nothing
  row told leads it has =
      let comes = leads it has in
      let to = comes.5 in (
        row_found it comes.0.1 comes.1 told comes.2,
        λ g is.
            (let so = row_world it told comes.0.1 g is to.0 to.1 to.4.held.memory in
            (acts (StepsRow i g) tt (comes.0.0, ap is_none so.0) Nothing _ (to.0, so.0, to.1, to.2, to.3, refl, refl) to.4, so.1)),
      )

  -- nobody's section is ended in which a call is under way
  none_closed : (called : SlotCall) → MayBegin e (slot_of i) called → (m j : ℕ) (u : UnderWay K V K) → s.calls m j ≡ Some u → UnlessCounts u (Closes (request_of (slot_of i) called) (slot_of j) → ⊥)
  none_closed called begins m j u here = unless_counts u (by called begins)
    where
      somebody : NobodyIn e (slot_of i) → slot_of j ≡ slot_of i → ⊥
      somebody nobody is =
          let both : Some (machine_of u) ≡ None = sym (ap (option_map machine_of) here) ∙ at.calls m j ∙ ap (λ (x : Option (Work K V)). call_in x m) (nobody j is) in cc both

      by : (it : SlotCall) → MayBegin e (slot_of i) it → Closes (request_of (slot_of i) it) (slot_of j) → ⊥
      by (call.Register enters) so closes = closes
      by call.Enter so closes = closes
      by call.Leave so closes = somebody so.1 closes
      by call.LeaveOwned so closes = somebody so.1 closes
      by call.Refresh so closes = somebody so.1 closes
      by call.Flush so closes = closes
      by call.Unregister so closes = closes

  pub others_are_acts : OthersAreActs same hash e e2 s i
  others_are_acts = record {
    making_begins = λ given places leads fresh lawful power batches mask some sized.
        acts (BeginsMaking i (length e.maps.items) e.hasher given places) refl
        (is_free same (hash e.hasher) e s at i fresh, no_map_yet same (hash e.hasher) e s at i, none_makes_it same (hash e.hasher) e s at i, batches, mask, some, power, sized) Nothing _ (refl, refl)
        (leads lawful power batches mask some sized).1;
    making = making;
    ending_begins = λ m leads fresh none. (let to = (leads none).1 in
        acts (BeginsEnding i m) tt (is_free same (hash e.hasher) e s at i fresh, ap is_none to.1, λ j. ap is_none (none_of machine_of (s.calls m j) (at.calls m j ∙ none j))) Nothing _ (to.0, to.1, refl, refl) to.4);
    ending = ending;
    row_begins = λ called leads fresh begins. (let it = (leads begins).3 in let to = it.2 in
        acts (BeginsRow i (request_of (slot_of i) called)) (called, refl)
        (λ m. it.1 m, at_rest same (hash e.hasher) e s at i fresh, slots_alone (slot_of i) called, none_closed called begins, begun_there deferred_word e.batch_size i (slot_of i) s.world to.0 called to.1.1) Nothing _
        (to.0, to.1, to.2, to.3, refl, refl) to.4);
    row = row;
  }

pub executors_act : {K S : Type 0} (V : Type 0) (same : K → K → Bool) (hash : S → K → ℕ) → ExecutorsAct V same hash
executors_act V same hash e e2 s at stays i = (calls_are_acts same hash e e2 s at stays i, others_are_acts same hash e e2 s at stays i)
