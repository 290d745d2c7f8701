-- Calls that are played come to where they have led.
use Rattle.std.specs.Prelude.{◌≢◌, ◌⊎◌, ◌++◌, length, Option, Some, None, option_map, if◌then◌else◌}
use Rattle.std.specs.Option.{is_none}
use Rattle.std.proofs.Common.{◌≡◌, ℕ, Bool, true, false, [], ◌∷◌, inl, inr, refl, ap, sym, subst, ◌∙◌}
use Rattle.std.proofs.lemmas.Bool.{cases_eq}
use Rattle.run_schedules.specs.Given.SeizeWordsMem.{Mem}
use Rattle.run_schedules.specs.Given.SeizeWordsPlan.{Plan}
use Rattle.seize.specs.World.{World, Rests, with_at}
use Rattle.seize_acts.specs.Acts.Answers.{Grant, stepped, then_on}
use Rattle.seize_acts.proofs.Acts.Begun.{rests_is}
use Rattle.map_tables.specs.declared.node.Node.{Node}
use Rattle.map_tables.specs.declared.setting.Setting.{Setting}
use Rattle.run_finds.specs.Given.ReservesDeclared.sweep.Purpose.TheVariants as purpose
use Rattle.run_finds.specs.Given.RawMachine.{machine_plan, machine_replied, machine_asked}
use Rattle.run_finds.specs.Given.RawDeclared.machines.asking.MachineReply.{MachineReply}
use Rattle.run_finds.specs.Given.RawDeclared.machines.machine.Machine.{Machine}
use Rattle.run_finds.specs.Given.RawDeclared.machines.progress.Progress.{Progress}
use Rattle.many_acts.specs.Given.CallersTogether.{UnderWay, in_slot}
use Rattle.many_acts.specs.Given.FinishesMachines.{machine_of}
use Rattle.many_acts.specs.Given.FinishesMaps.{Standing, with_call}
use Rattle.many_acts.proofs.Given.ScenesGoes.{goes_as}
use Rattle.many_acts.proofs.Given.ScenesNoCall.{none_is}
use Rattle.many_acts.specs.Given.ScenesReplying.{unless_stopped}
use Rattle.many_acts.specs.Given.ScenesScene.{Scene, slot_of}
use Rattle.many_acts.specs.Given.ScenesStepping.{going_on, has_ended}
use Rattle.many_acts.specs.Acts.Acts.{Act, Answer, Nothing, OfCall, OfReply, OfAsking, BeginsCall, StepsCall, TellsCall, AsksCall, StopsCall, begun, Wanted, Get, Remove, Insert, TryToInsert, Compute, Update, UpdateOrInsert, TryToInsertWith, RemoveIf, GetKeyValue, ContainsKey, GetOrInsert, GetOrInsertWith, RemoveEntry, MakeRoom, Count, GoOver}
use Rattle.many_acts.specs.Acts.AsSteps.{changed_of}
use Rattle.many_acts.specs.Acts.Courses.{set_up}
use Rattle.many_acts.specs.Acts.Leads.{AllStand, CallCame, Led, MayBe, asked_on}
use Rattle.many_acts.proofs.Acts.Calls.{asked_machine}
use Rattle.many_acts.proofs.Acts.Courses.{same_set_up, stop_rests}
use Rattle.run_finds.specs.Given.NamedMachines.{machine_for}
use Rattle.run_finds.specs.Given.NamedSeen.{kind_of}
use Rattle.play_lists.specs.Played.Play.{Calling, Now, State, begun_call, call_asked, call_begun, call_for, call_stepped, call_stopped, call_replied, going, keeps, play_act, reply_for, step_call, replied_call}
use Rattle.play_lists.specs.Played.Reached.{IsOf, row_or_rests, stands_so}
use Rattle.play_lists.proofs.Played.Alike.{both_at, its_call, none_rests, others_call, there_too}

-- what is wanted begins with the machine of the call that it is
begins_with : {K V : Type 0} (same : K → K → Bool) (standing : Standing K) (i : ℕ) (wanted : Wanted K V)
    → machine_for (in_slot standing.setting (slot_of i)) standing.hash (call_for wanted) ≡ machine_of (begun same slot_of standing i wanted)
begins_with same standing i (Get key) = refl
begins_with same standing i (Remove key) = refl
begins_with same standing i (Insert key value) = refl
begins_with same standing i (TryToInsert key value) = refl
begins_with same standing i (Compute key) = refl
begins_with same standing i (Update key) = refl
begins_with same standing i (UpdateOrInsert key None) = refl
begins_with same standing i (UpdateOrInsert key (Some value)) = refl
begins_with same standing i (TryToInsertWith key) = refl
begins_with same standing i (RemoveIf key) = refl
begins_with same standing i (GetKeyValue key) = refl
begins_with same standing i (ContainsKey key) = refl
begins_with same standing i (GetOrInsert key value) = refl
begins_with same standing i (GetOrInsertWith key) = refl
begins_with same standing i (RemoveEntry key) = refl
begins_with same standing i (MakeRoom additional) = refl
begins_with same standing i Count = refl
begins_with same standing i (GoOver purpose.Walks) = refl
begins_with same standing i (GoOver purpose.Clears) = refl
begins_with same standing i (GoOver purpose.Retains) = refl

abbrev machine_at : {K V : Type 0} → Calling K V → Machine K V K
machine_at c = c.machine

-- it goes on as that machine, unless it has ended
goes_so : {K V : Type 0} (c : Calling K V) (machine : Machine K V K) (told : Progress (Node K V)) → option_map machine_at (going c machine told) ≡ going_on machine told
goes_so {K} {V} c machine told = by (has_ended told)
  where
    by : (ended : Bool) → option_map (machine_at {K = K} {V = V}) (if ended then None else Some (record c { machine = machine; value = keeps (kind_of c.call) told c.value })) ≡ (if ended then None else Some machine)
    by true = refl
    by false = refl

stopped_so : {K V : Type 0} (ready : Bool) (c : Calling K V) (u : UnderWay K V K) → c.machine ≡ machine_of u → option_map machine_at (unless_stopped ready c) ≡ option_map machine_of (unless_stopped ready u)
stopped_so true c u e = refl
stopped_so false c u e = ap Some e

module _ {K V S : Type 0} (same : K → K → Bool) (hash : S → K → ℕ) (batch_size roots : ℕ) (s : Scene K V) where
  module _ (aborts : ℕ → V) (x : State K V S) (is : IsOf hash s s.world.row x.now) (n : Scene K V) where
    -- played it comes to the scene to which it has led, and its caller is told the same
    abbrev pub Plays : Act K V S → Answer K V → Type 0
    Plays act told =
        (y : State K V S) × (play_act same hash batch_size roots aborts act x ≡ Some y) × IsOf hash n n.world.row y.now × (y.told ≡ x.told ++ told ∷ [])
        × (y.now.all ≡ x.now.all)

    to : (y : Now K V S) (z : Scene K V) → n ≡ z → IsOf hash z z.world.row y → IsOf hash n n.world.row y
    to y z e so = subst (λ (w : Scene K V). IsOf hash w w.world.row y) (sym e) so

    says : (answer told : Answer K V) → told ≡ answer → x.told ++ answer ∷ [] ≡ x.told ++ told ∷ []
    says answer told e = ap (λ (a : Answer K V). x.told ++ a ∷ []) (sym e)

    module _ (i m : ℕ) where
      -- one call is another one then
      call_then : (u : Option (UnderWay K V K)) (c : Option (Calling K V)) (w2 : World (Node K V)) (maps2 : ℕ → Option (Standing K)) (m2 : Mem (Node K V)) → m2 ≡ w2.memory
          → ((k : ℕ) → option_map set_up (s.maps k) ≡ option_map set_up (maps2 k)) → option_map machine_at c ≡ option_map machine_of u → (u ≡ None → w2.row i ≡ Rests)
          → x.now.rows i ≡ None → ((j : ℕ) → j ≢ i → w2.row j ≡ s.world.row j)
          → IsOf hash (record s { world = w2; maps = maps2; calls = with_call s.calls m i u }) w2.row (record x.now { memory = m2; calls = with_call x.now.calls m i c })
      call_then u c w2 maps2 m2 memory maps machine rests idle others = record {
        memory = memory;
        maps = λ k. is.maps k ∙ maps k;
        calls = λ k j. both_at (λ (f : ℕ → Option (Calling K V)). option_map machine_at (f j)) (λ (f : ℕ → Option (UnderWay K V K)). option_map machine_of (f j)) x.now.calls s.calls m
            (with_at (x.now.calls m) i c) (with_at (s.calls m) i u)
            (both_at (option_map machine_at) (option_map machine_of) (x.now.calls m) (s.calls m) i c u machine (is.calls m) j) (λ l. is.calls l j) k;
        makers = is.makers;
        enders = is.enders;
        between = λ j none. between j none (cases_eq j i);
        calling = λ k j v has. calling k j v has (cases_eq j i);
      }
        where
          between : (j : ℕ) → ((k : ℕ) → is_none (with_call s.calls m i u k j) ≡ true) → (j ≡ i) ⊎ (j ≢ i) → row_or_rests (x.now.rows j) ≡ w2.row j
          between j none (inl at) =
              let over : u ≡ None = none_is u (ap is_none (sym (its_call s.calls m i u)) ∙ subst (λ (l : ℕ). is_none (with_call s.calls m i u m l) ≡ true) at (none m)) in
              ap row_or_rests (ap x.now.rows at ∙ idle) ∙ sym (rests over) ∙ ap w2.row (sym at)
          between j none (inr ne) = is.between j (λ k. ap is_none (sym (others_call s.calls m i u k j ne)) ∙ none k) ∙ sym (others j ne)

          calling : (k j : ℕ) (v : UnderWay K V K) → with_call s.calls m i u k j ≡ Some v → (j ≡ i) ⊎ (j ≢ i) → x.now.rows j ≡ None
          calling k j v has (inl at) = ap x.now.rows at ∙ idle
          calling k j v has (inr ne) = is.calling k j v (sym (others_call s.calls m i u k j ne) ∙ has)

      -- and the world is as it was
      call_alone : (u : Option (UnderWay K V K)) (c : Option (Calling K V)) → option_map machine_at c ≡ option_map machine_of u → (u ≡ None → s.world.row i ≡ Rests) → x.now.rows i ≡ None
          → n ≡ record s { calls = with_call s.calls m i u } → IsOf hash n n.world.row (record x.now { calls = with_call x.now.calls m i c })
      call_alone u c machine rests idle comes =
          to (record x.now { calls = with_call x.now.calls m i c }) (record s { calls = with_call s.calls m i u }) comes
          (call_then u c s.world s.maps x.now.memory is.memory (λ k. refl) machine rests idle (λ j ne. refl))

      pub begins : (wanted : Wanted K V) → MayBe same hash batch_size roots slot_of (BeginsCall i m wanted) s → (told : Answer K V)
          → Led same hash batch_size roots slot_of (BeginsCall i m wanted) s told n → Plays (BeginsCall i m wanted) told
      begins wanted (free, rest, within, stands_there, few) told (standing, stands, none, comes) =
          let at = there_too (stands_so hash) set_up (x.now.maps m) (s.maps m) (is.maps m) standing stands in
          let y = call_begun i m hash (call_for wanted) x at.0 in
          let machine = ap (λ (p : Setting × (K → ℕ)). Some (machine_for (in_slot p.0 (slot_of i)) p.1 (call_for wanted))) at.2 ∙ ap Some (begins_with same standing i wanted) in
          let idle = none_rests (x.now.rows i) (is.between i free.no_call ∙ rests_is (s.world.row i) rest) in (
            y,
            ap (option_map (call_begun i m hash (call_for wanted) x)) at.1,
            call_alone (Some (begun same slot_of standing i wanted)) (Some (begun_call i m hash (call_for wanted) at.0)) machine (λ none. absurd (cc none)) idle comes,
            says Nothing told none,
            refl,
          )

      -- its step
      module _ (g : Grant) (told : Answer K V) (came : CallCame same hash batch_size roots slot_of s i m g told n) where
        at : (p : Setting × S) × (x.now.maps m ≡ Some p) × (stands_so hash p ≡ set_up came.standing)
        at = there_too (stands_so hash) set_up (x.now.maps m) (s.maps m) (is.maps m) came.standing came.stands

        it : (c : Calling K V) × (x.now.calls m i ≡ Some c) × (c.machine ≡ machine_of came.call)
        it = there_too machine_at machine_of (x.now.calls m i) (s.calls m i) (is.calls m i) came.call came.here

        abbrev End : Type 0
        End = Mem (Node K V) × (Machine K V K × Progress (Node K V))

        abbrev end : End
        end = (came.memory, (came.machine, came.progress))

        abbrev plan : Plan (Node K V) (Machine K V K × Progress (Node K V))
        plan = machine_plan same same (hash at.0.1) it.0.machine

        comes_to : stepped x.now.memory g plan ≡ Some end
        comes_to =
            ap (λ (v : Mem (Node K V)). stepped v g plan) is.memory
            ∙ ap (λ (p : Setting × (K → ℕ)). stepped s.world.memory g (machine_plan same same p.1 it.0.machine)) at.2
            ∙ ap (λ (v : Machine K V K). stepped s.world.memory g (machine_plan same same came.standing.hash v)) it.2 ∙ came.computed

        maps : (k : ℕ) → option_map set_up (s.maps k) ≡ option_map set_up (came.did.maps2 k)
        maps k = by (cases_eq k m)
          where
            by : (k ≡ m) ⊎ (k ≢ m) → option_map set_up (s.maps k) ≡ option_map set_up (came.did.maps2 k)
            by (inl e) = ap (option_map set_up) (ap s.maps e ∙ came.stands) ∙ sym (ap (option_map set_up) (ap came.did.maps2 e ∙ came.did.its_map.4))
            by (inr ne) = sym (same_set_up (s.maps k) (came.did.maps2 k) (came.did.others k ne))

        pub steps : Plays (StepsCall i m g) told
        steps =
            let y = call_stepped i m it.0 (changed_of x.now.memory g plan) x end in (
              y,
              ap (λ (o : Option (Setting × S)). then_on o (λ p. then_on (x.now.calls m i) (step_call same hash batch_size roots aborts i m g x p))) at.1
                  ∙ ap (λ (o : Option (Calling K V)). then_on o (step_call same hash batch_size roots aborts i m g x at.0)) it.1
                  ∙ ap (option_map (call_stepped i m it.0 (changed_of x.now.memory g plan) x)) comes_to,
              to y.now (record { world = came.did.w2; maps = came.did.maps2; calls = with_call s.calls m i came.did.next; makers = s.makers; enders = s.enders }) came.comes
                  (call_then came.did.next (going it.0 came.machine came.progress) came.did.w2 came.did.maps2 came.memory (sym came.did.memory) maps
                  (goes_so it.0 came.machine came.progress ∙ sym (goes_as came.machine came.progress came.did.next came.did.goes_on)) came.did.rests
                  (is.calling m i came.call came.here) came.did.rows),
              says (OfCall came.progress) told came.tells,
              refl,
            )

      -- what it is told, and asked for, and that it is given up
      pub tells : (reply : MachineReply V) (told : Answer K V) → Led same hash batch_size roots slot_of (TellsCall i m reply) s told n → Plays (TellsCall i m reply) told
      tells reply told (standing, stands, u, next, here, machine_is, told_is, kind, comes) =
          let it = there_too machine_at machine_of (x.now.calls m i) (s.calls m i) (is.calls m i) u here in
          let y = call_replied i m aborts reply x it.0 in (
            y,
            ap (option_map (call_replied i m aborts reply x)) it.1,
            call_alone (Some next) (Some (replied_call (machine_replied it.0.machine reply) (reply_for (aborts (length x.told)) reply) it.0)) (ap (λ (v : Machine K V K). Some (machine_replied v reply).0) it.2 ∙ ap Some (sym machine_is)) (λ none. absurd (cc none))
                (is.calling m i u here) comes,
            says (OfReply (machine_replied it.0.machine reply).1) told (told_is ∙ ap (λ (v : Machine K V K). OfReply (machine_replied v reply).1) (sym it.2)),
            refl,
          )

      pub asks : (told : Answer K V) → Led same hash batch_size roots slot_of (AsksCall i m) s told n → Plays (AsksCall i m) told
      asks told (u, here, told_is, comes) =
          let it = there_too machine_at machine_of (x.now.calls m i) (s.calls m i) (is.calls m i) u here in
          let y = call_asked i m x it.0 in (
            y,
            ap (option_map (call_asked i m x)) it.1,
            call_alone (Some (asked_on u)) (Some (record it.0 { machine = (machine_asked it.0.machine).0 })) (ap (λ (v : Machine K V K). Some (machine_asked v).0) it.2 ∙ ap Some (sym (asked_machine u))) (λ none. absurd (cc none))
                (is.calling m i u here) comes,
            says (OfAsking (machine_asked it.0.machine).1) told (told_is ∙ ap (λ (v : Machine K V K). OfAsking (machine_asked v).1) (sym it.2)),
            refl,
          )

      pub stops : AllStand same hash batch_size roots slot_of s → (told : Answer K V) → Led same hash batch_size roots slot_of (StopsCall i m) s told n → Plays (StopsCall i m) told
      stops all told (u, here, told_is, comes) =
          let it = there_too machine_at machine_of (x.now.calls m i) (s.calls m i) (is.calls m i) u here in
          let y = call_stopped i m x it.0 in
          let ready = (machine_asked (machine_of u)).1 in (
            y,
            ap (option_map (call_stopped i m x)) it.1,
            call_alone (unless_stopped ready u) (unless_stopped (machine_asked it.0.machine).1 it.0)
                (ap (λ (v : Machine K V K). option_map machine_at (unless_stopped (machine_asked v).1 it.0)) it.2 ∙ stopped_so ready it.0 u it.2)
                (λ none. stop_rests same hash batch_size roots slot_of s all m i u here ready refl none) (is.calling m i u here) comes,
            says (OfAsking (machine_asked it.0.machine).1) told (told_is ∙ ap (λ (v : Machine K V K). OfAsking (machine_asked v).1) (sym it.2)),
            refl,
          )
