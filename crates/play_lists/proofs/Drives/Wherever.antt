-- In whichever scene an act leads to, an executor is there that is in one of them: they are alike, and slots are used alike.
use Rattle.std.specs.Prelude.{Option, Some, None, option_map}
use Rattle.std.specs.Option.{is_none}
use Rattle.std.proofs.Common.{◌≡◌, ℕ, Bool, refl, sym, ap, subst, ◌∙◌}
use Rattle.seize.specs.World.{Request, Register', Enter', Leave', LeaveOwned, Refresh, Unregister', Retire, Flush, Defer', Begins, Use, Vacant, Outside, Inside, Changing, World}
use Rattle.run_schedules.specs.Given.SeizeWordsMem.{Mem}
use Rattle.seize.specs.declared.advance.Advance.{Advance}
use Rattle.seize.specs.declared.advance.Advance.TheVariants as progress
use Rattle.seize.specs.declared.rows.settle.Settled.{Settled}
use Rattle.seize.specs.declared.rows.settle.Settled.TheVariants as settled
use Rattle.map_tables.specs.Nodes.{deferred_word}
use Rattle.map_tables.specs.declared.node.Node.{Node}
use Rattle.map_tables.specs.declared.setting.Setting.{Setting}
use Rattle.run_finds.specs.Given.ResizeDeclared.new_map.NewMap.{NewMap}
use Rattle.run_finds.specs.Given.RawDeclared.machines.end_map.EndMap.{EndMap}
use Rattle.many_acts.specs.Given.CallersRows.{IsUsedAlike}
use Rattle.many_acts.specs.Given.CallersTogether.{IsOfSlots}
use Rattle.many_acts.proofs.Given.CallersTogether.Users.{events_uses}
use Rattle.many_acts.specs.Given.FinishesEndings.{EndingsTogether, Finishing}
use Rattle.many_acts.specs.Given.FinishesFactsEnds.{Deed}
use Rattle.many_acts.specs.Given.FinishesMachines.{machine_of}
use Rattle.many_acts.specs.Given.FinishesMakings.{Beginning}
use Rattle.many_acts.specs.Given.FinishesMaps.{Standing}
use Rattle.many_acts.specs.Given.ScenesHeld.{IsAt}
use Rattle.many_acts.specs.Given.ScenesScene.{Scene, slot_of}
use Rattle.many_acts.specs.Given.ScenesDeclared.row.SlotUse.{SlotUse}
use Rattle.many_acts.specs.Given.ScenesDeclared.row.SlotUse.TheVariants as used
use Rattle.run_finds.specs.Given.ExecutorDeclared.executor.Executor.{Executor}
use Rattle.run_finds.specs.Given.ExecutorDeclared.worker.Work.{Work}
use Rattle.run_finds.specs.Given.ExecutorDeclared.worker.Work.TheVariants as work
use Rattle.run_finds.proofs.Given.ExecutorAgain.{used_on}
use Rattle.run_finds.specs.Given.ExecutorIsThere.{HasRow, IsThere, IsUsedAs, StaysGiven, call_in, use_at, work_of}
use Rattle.many_acts.specs.Acts.Acts.{Act, Answer, BeginsCall, StepsCall, TellsCall, AsksCall, StopsCall, BeginsMaking, StepsMaking, BeginsEnding, StepsEnding, BeginsRow, StepsRow}
use Rattle.many_acts.specs.Acts.AsSteps.{IsOwn, changed_by, held_in}
use Rattle.many_acts.specs.Acts.Courses.{AreAlike, set_up}
use Rattle.many_acts.specs.Acts.Leads.{AllStand, EndingCame, Led, MakingCame, MayBe, ending_steps, making_steps}
use Rattle.many_acts.proofs.Acts.AsSteps.All.{acts_lead_as_steps}
use Rattle.many_acts.proofs.Acts.Courses.{by_act}
use Rattle.run_finds.proofs.Given.General.{same_some, none_mapped as none_of}

-- a slot that is used so after, was used so before, where that is alike
used_back : (v : SlotUse) (u u2 : Use) → IsUsedAs v u2 → IsUsedAlike u u2 → IsUsedAs v u
used_back used.Vacant Vacant u2 is alike = refl
used_back used.Vacant (Outside n) u2 is alike = absurd (cc (is, alike.1))
used_back used.Vacant (Inside n) u2 is alike = absurd (cc (is, alike.1))
used_back used.Vacant Changing u2 is alike = absurd (cc (is, alike))
used_back used.Outside Vacant u2 is alike = absurd (cc (is.1, alike))
used_back used.Outside (Outside n) u2 is alike = (n, refl)
used_back used.Outside (Inside n) u2 is alike = absurd (cc (is.1, alike.1))
used_back used.Outside Changing u2 is alike = absurd (cc (is.1, alike))
used_back used.Inside Vacant u2 is alike = absurd (cc (is.1, alike))
used_back used.Inside (Outside n) u2 is alike = absurd (cc (is.1, alike.1))
used_back used.Inside (Inside n) u2 is alike = (n, refl)
used_back used.Inside Changing u2 is alike = absurd (cc (is.1, alike))
used_back used.Changing Vacant u2 is alike = absurd (cc (is, alike))
used_back used.Changing (Outside n) u2 is alike = absurd (cc (is, alike.1))
used_back used.Changing (Inside n) u2 is alike = absurd (cc (is, alike.1))
used_back used.Changing Changing u2 is alike = refl

-- a row of slots that begins leads to one world
one_begun : {T : Type 0} (defers : T → Option ℕ) (size i : ℕ) (request : Request) (w v v2 : World T) → IsOfSlots request → Begins defers size i request w v → Begins defers size i request w v2 → v ≡ v2
one_begun defers size i (Register' enters) w v v2 of h k = h ∙ sym k
one_begun defers size i (Enter' s) w v v2 of h k = h.1 ∙ sym k.1
one_begun defers size i (Leave' s) w v v2 of h k = h.1 ∙ sym k.1
one_begun defers size i (LeaveOwned s) w v v2 of h k = h.1 ∙ sym k.1
one_begun defers size i (Refresh s) w v v2 of h k = h.1 ∙ sym k.1
one_begun defers size i (Unregister' s) w v v2 of h k = h.1 ∙ sym k.1
one_begun defers size i (Flush s) w v v2 of h k = h.1 ∙ sym k.1
one_begun defers size i (Retire s b) w v v2 of h k = absurd of
one_begun defers size i (Defer' s b t) w v v2 of h k = absurd of

module _ {K V S : Type 0} (same : K → K → Bool) (hash : S → K → ℕ) (batch_size roots : ℕ) (s to n : Scene K V) (t : ℕ) (v : SlotUse) where
  abbrev So : Scene K V → Type 0
  So x = IsUsedAs v (x.world.uses t)

  -- slots are used as they were
  as_they_were : (x y : Scene K V) → to ≡ x → n ≡ y → x.world.uses ≡ s.world.uses → y.world.uses ≡ s.world.uses → So to → So n
  as_they_were x y to_is n_is here there so =
      subst So (sym n_is) (subst (λ (f : ℕ → Use). IsUsedAs v (f t)) (sym there) (subst (λ (f : ℕ → Use). IsUsedAs v (f t)) here (subst So to_is so)))

  -- by a making, or an end, as it tells
  made_uses : (i : ℕ) (b : Beginning K) (w w2 : World (Node K V)) (machine machine2 : NewMap) → w.uses ≡ s.world.uses → w2.uses ≡ s.world.uses → (end : Advance Setting)
      → MakingCame same hash batch_size roots slot_of s i b w machine to end → MakingCame same hash batch_size roots slot_of s i b w2 machine2 n end → So to → So n
  made_uses i b w w2 machine machine2 here there progress.Goes is also so = as_they_were _ _ is also here there so
  made_uses i b w w2 machine machine2 here there progress.Waits never also so = absurd never
  made_uses i b w w2 machine machine2 here there (progress.Done setting) (it, made, is) (it2, made2, also) so = as_they_were _ _ is also here there so
  made_uses i b w w2 machine machine2 here there (progress.Refused fault) is also so = as_they_were _ _ is also here there so

  ended_uses : (i : ℕ) (f : Finishing K V) (w w2 : World (Node K V)) (deed deed2 : Deed) (machine machine2 : EndMap) → w.uses ≡ s.world.uses → w2.uses ≡ s.world.uses → (end : Settled (Node K V))
      → EndingCame same hash batch_size roots slot_of s i f w deed machine to end → EndingCame same hash batch_size roots slot_of s i f w2 deed2 machine2 n end → So to → So n
  ended_uses i f w w2 deed deed2 machine machine2 here there settled.Goes is also so = as_they_were _ _ is.1 also.1 here there so
  ended_uses i f w w2 deed deed2 machine machine2 here there settled.Waits never also so = absurd never
  ended_uses i f w w2 deed deed2 machine machine2 here there (settled.Gave value) is also so = as_they_were _ _ is.3 also.3 here there so
  ended_uses i f w w2 deed deed2 machine machine2 here there settled.Done is also so = as_they_were _ _ is.2 also.2 here there so

  uses_both : (act : Act K V S) → MayBe same hash batch_size roots slot_of act s → (told said : Answer K V) → Led same hash batch_size roots slot_of act s told to
      → Led same hash batch_size roots slot_of act s said n → So to → So n
  uses_both (BeginsCall i m wanted) may told said led also so = as_they_were _ _ led.3 also.3 refl refl so
  uses_both (StepsCall i m g) may told said led also so =
      subst So (sym also.comes)
      (used_on v (s.world.uses t) (also.did.w2.uses t) (used_back v (s.world.uses t) (led.did.w2.uses t) (subst So led.comes so) (led.did.slots.uses t)) (also.did.slots.uses t))
  uses_both (TellsCall i m reply) may told said led also so = as_they_were _ _ led.8 also.8 refl refl so
  uses_both (AsksCall i m) may told said led also so = as_they_were _ _ led.3 also.3 refl refl so
  uses_both (StopsCall i m) may told said led also so = as_they_were _ _ led.3 also.3 refl refl so
  uses_both (BeginsMaking i map hasher given places) may told said led also so = as_they_were _ _ led.1 also.1 refl refl so
  uses_both (StepsMaking i g) may told said (b, makes, m2, machine, end, computed, told_is, did, came) (b2, makes2, m3, machine2, end2, computed2, told_is2, did2, came2) so =
      let one : b ≡ b2 = same_some b b2 (sym makes ∙ makes2) in
      let step : ◌≡◌ {A = Mem (Node K V) × (NewMap × Advance Setting)} (m2, (machine, end)) (m3, (machine2, end2)) = same_some (m2, (machine, end)) (m3, (machine2, end2))
      (sym computed ∙ ap (λ (x : Beginning K). making_steps same hash batch_size roots slot_of s g x) one ∙ computed2) in
      made_uses i b did.step.w2 did2.step.w2 machine machine2 (events_uses batch_size did.step.events s.world did.step.w2 did.step.users did.step.runs)
      (events_uses batch_size did2.step.events s.world did2.step.w2 did2.step.users did2.step.runs) end came
      (subst (λ (x : Mem (Node K V) × (NewMap × Advance Setting)). MakingCame same hash batch_size roots slot_of s i b did2.step.w2 machine2 n x.1.1) (sym step)
      (subst (λ (x : Beginning K). MakingCame same hash batch_size roots slot_of s i x did2.step.w2 machine2 n end2) (sym one) came2)) so
  uses_both (BeginsEnding i m) may told said led also so = as_they_were _ _ led.3 also.3 refl refl so
  uses_both (StepsEnding i g) may told said (f, ends, m2, machine, end, computed, told_is, did, came) (f2, ends2, m3, machine2, end2, computed2, told_is2, did2, came2) so =
      let one : f ≡ f2 = same_some f f2 (sym ends ∙ ends2) in
      let step : ◌≡◌ {A = Mem (Node K V) × (EndMap × Settled (Node K V))} (m2, (machine, end)) (m3, (machine2, end2)) = same_some (m2, (machine, end)) (m3, (machine2, end2))
      (sym computed ∙ ap (λ (x : Finishing K V). ending_steps same hash batch_size roots slot_of s g x) one ∙ computed2) in
      ended_uses i f did.w2 did2.w2 did.deed did2.deed machine machine2 did.spares.uses did2.spares.uses end came
      (subst (λ (x : Mem (Node K V) × (EndMap × Settled (Node K V))). EndingCame same hash batch_size roots slot_of s i f did2.w2 did2.deed machine2 n x.1.1) (sym step)
      (subst (λ (x : Finishing K V). EndingCame same hash batch_size roots slot_of s i x did2.w2 did2.deed machine2 n end2) (sym one) came2)) so
  uses_both (BeginsRow i request) may told said (w2, happens, maps2, same2, told_is, is) (v2, happens2, maps3, same3, told_is2, is2) so =
      let one : w2 ≡ v2 = one_begun deferred_word batch_size i request s.world w2 v2 may.2 happens.1 happens2.1 in
      subst So (sym is2) (subst (λ (x : World (Node K V)). IsUsedAs v (x.uses t)) one (subst So is so))
  uses_both (StepsRow i g) may told said (w2, computed, happens, maps2, same2, told_is, is) (v2, computed2, happens2, maps3, same3, told_is2, is2) so =
      let one : w2 ≡ v2 = same_some w2 v2 (sym computed ∙ computed2) in
      subst So (sym is2) (subst (λ (x : World (Node K V)). IsUsedAs v (x.uses t)) one (subst So is so))

-- with what calls of a map work, by how it is set up
set_as : {K : Type 0} (o : Option (Standing K)) → option_map (λ (it : Setting × (K → ℕ)). it.0) (option_map set_up o) ≡ option_map (λ standing. standing.setting) o
set_as None = refl
set_as (Some standing) = refl

module _ {K V S : Type 0} (same : K → K → Bool) (hash : S → K → ℕ) (e e2 : Executor K V S) (s : Scene K V) (at : IsThere same (hash e.hasher) e s) (stays : StaysGiven e e2) where
  abbrev Its : Act K V S → Type 0
  Its act = MayBe same hash e.batch_size e.roots slot_of act s

  -- a caller without a call has the row that is noted, in whatever is alike
  row_as : (to n : Scene K V) (i : ℕ) → AreAlike to n → (it : Option (Work K V)) → work_of e2 i ≡ it → ((m : ℕ) → option_map machine_of (to.calls m i) ≡ call_in it m) → HasRow it (to.world.row i) → HasRow it (n.world.row i)
  row_as to n i alike (Some (work.Call map machine)) is calls has = tt
  row_as to n i alike None is calls has = subst (HasRow {K = K} {V = V} None) (alike.rows i (λ m. ap is_none (none_of machine_of (to.calls m i) (calls m)))) has
  row_as to n i alike (Some (work.Making map opening)) is calls has =
      subst (HasRow {K = K} {V = V} (Some (work.Making map opening))) (alike.rows i (λ m. ap is_none (none_of machine_of (to.calls m i) (calls m)))) has
  row_as to n i alike (Some (work.Ending ending)) is calls has = subst (HasRow {K = K} {V = V} (Some (work.Ending ending))) (alike.rows i (λ m. ap is_none (none_of machine_of (to.calls m i) (calls m)))) has
  row_as to n i alike (Some (work.OnSlot row)) is calls has = subst (HasRow {K = K} {V = V} (Some (work.OnSlot row))) (alike.rows i (λ m. ap is_none (none_of machine_of (to.calls m i) (calls m)))) has

  same_scene : AreAlike s s
  same_scene = record { memory = refl; maps = λ m. refl; calls = λ m i. refl; makers = λ i. refl; enders = λ i. refl; rows = λ i none. refl }

  -- The act may be made, and leads to a scene in which the second executor is: so it is in each one to which it leads.
  pub wherever : (act : Act K V S) → IsOwn hash (λ map. hash e.hasher) act → Its act → (told : Answer K V) (to : Scene K V) → Led same hash e.batch_size e.roots slot_of act s told to
      → IsThere same (hash e.hasher) e2 to → (n : Scene K V) (said : Answer K V) → AllStand same hash e.batch_size e.roots slot_of n → Led same hash e.batch_size e.roots slot_of act s said n
      → (said ≡ told) × IsThere same (hash e.hasher) e2 n
  wherever act own may told to led there n said all also = (
    sym so.1,
    record {
      held = record {
        memory = sym so.0.memory ∙ there.held.memory;
        together = subst (λ (x : ℕ). EndingsTogether V same same x e2.roots slot_of n.world n.maps n.calls n.makers n.enders) (sym stays.1)
            (subst (λ (x : ℕ). EndingsTogether V same same e.batch_size x slot_of n.world n.maps n.calls n.makers n.enders) (sym stays.2) all);
        hashes = held.hashes;
        hashes_made = held.hashes_made;
        on_slots = held.on_slots;
        small = there.held.small;
      };
      maps = λ m. sym (set_as (n.maps m)) ∙ ap (option_map (λ (it : Setting × (K → ℕ)). it.0)) (sym (so.0.maps m)) ∙ set_as (to.maps m) ∙ there.maps m;
      calls = λ m i. sym (so.0.calls m i) ∙ there.calls m i;
      makers = λ i. ap (option_map (λ (b : Beginning K). (b.map, b.machine))) (sym (so.0.makers i)) ∙ there.makers i;
      enders = λ i. sym (so.0.enders i) ∙ there.enders i;
      numbers = λ i b makes. there.numbers i b (so.0.makers i ∙ makes);
      rows = λ i. row_as to n i so.0 (work_of e2 i) refl (λ m. there.calls m i) (there.rows i);
      slots = there.slots;
      uses = λ t. uses_both same hash e.batch_size e.roots s to n t (use_at e2 t) act may told said led also (there.uses t);
    },
  )
    where
      so : AreAlike to n × (told ≡ said)
      so = by_act same hash e.batch_size e.roots slot_of s s to n at.held.together at.held.together same_scene act may told said led also

      held : IsAt same (λ map. hash e.hasher) (held_in e.batch_size e.roots (changed_by same act s) n) n
      held = (acts_lead_as_steps V same hash (λ map. hash e.hasher) e.batch_size e.roots s n e.memory.changed
          (record { memory = refl; together = at.held.together; hashes = at.held.hashes; hashes_made = at.held.hashes_made; on_slots = at.held.on_slots; small = at.held.small }) all act own may said also).1
