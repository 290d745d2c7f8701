-- Rows on slots that are played come to where they have led.
use Rattle.std.specs.Prelude.{◌≢◌, ◌⊎◌, ◌++◌, Option, Some, None, option_map}
use Rattle.std.proofs.Common.{◌≡◌, ℕ, Bool, [], ◌∷◌, inl, inr, refl, ap, sym, subst, ◌∙◌}
use Rattle.std.proofs.lemmas.Bool.{cases_eq}
use Rattle.run_schedules.specs.Given.SeizeWordsMem.{Mem, after}
use Rattle.run_schedules.specs.Given.SeizeWordsOp.{Op, Store}
use Rattle.run_schedules.specs.Given.SeizeWordsPlan.{Plan}
use Rattle.run_schedules.specs.Given.SeizeWordsDeclared.at.At.TheVariants.{Slot}
use Rattle.seize.specs.Enter.{enter_plan, unregister_plan}
use Rattle.seize.specs.Law.{Entered}
use Rattle.seize.specs.Leave.{leave_plan}
use Rattle.seize.specs.Register.{register_plan}
use Rattle.seize.specs.Settle.{settle_plan}
use Rattle.seize.specs.World.{World, Row, Rests, Inside, Vacant, Request, Begins, after_step, registers_on, settles_on, leaves_on, with_at, with_use}
use Rattle.seize.specs.declared.advance.Advance.{Advance}
use Rattle.seize.specs.declared.advance.Advance.TheVariants as progress
use Rattle.seize.specs.declared.rows.enter.Enter.{Enter}
use Rattle.seize.specs.declared.rows.enter.Unregister.{Unregister}
use Rattle.seize.specs.declared.rows.leave.Leave.{Leave}
use Rattle.seize.specs.declared.rows.register.Register.{Register}
use Rattle.seize.specs.declared.rows.settle.Settle.{Settle}
use Rattle.seize.specs.declared.rows.settle.Settled.{Settled}
use Rattle.seize.specs.declared.rows.settle.Settled.TheVariants as settled
use Rattle.seize.specs.declared.states.TheConstants.{ACTIVE, FREE, HEAD}
use Rattle.seize_acts.specs.Acts.Acts.{row_steps}
use Rattle.seize_acts.specs.Acts.Answers.{Grant, answer, stepped, then_on}
use Rattle.seize_acts.proofs.Acts.Answers.{some}
use Rattle.seize_acts.proofs.Given.SeizeRuleRows.Others.{begins_others, steps_others, with_here}
use Rattle.seize_acts.proofs.Given.SeizeEndsBatches.Rows.{begins_memory}
use Rattle.many_acts.proofs.Given.CallersTogether.At.{at_same, at_other}
use Rattle.map_tables.specs.Nodes.{deferred_word}
use Rattle.map_tables.specs.declared.node.Node.{Node}
use Rattle.many_acts.specs.Given.CallersTogether.{UnderWay}
use Rattle.many_acts.specs.Given.FinishesMaps.{Standing, IsSameMap}
use Rattle.many_acts.proofs.Given.ScenesNoCall.{no_call}
use Rattle.many_acts.proofs.Given.ScenesRows.{begun_there}
use Rattle.many_acts.specs.Given.ScenesRows.{begun_row, request_of, of_registering, of_storing, of_settling}
use Rattle.many_acts.specs.Given.ScenesScene.{Scene, HasNoCall, row_of, slot_of}
use Rattle.many_acts.specs.Given.ScenesDeclared.row.RowTold.{RowTold}
use Rattle.many_acts.specs.Given.ScenesDeclared.row.SlotCall.{SlotCall}
use Rattle.many_acts.specs.Given.ScenesDeclared.row.SlotCall.TheVariants as call
use Rattle.many_acts.specs.Given.ScenesDeclared.row.SlotRow.{SlotRow}
use Rattle.many_acts.specs.Given.ScenesDeclared.row.SlotRow.TheVariants as rows
use Rattle.many_acts.specs.Acts.Acts.{Act, Answer, Nothing, BeginsRow, StepsRow}
use Rattle.many_acts.specs.Acts.AsSteps.{row_changed}
use Rattle.many_acts.specs.Acts.Leads.{Led, MayBe}
use Rattle.play_lists.specs.Played.Play.{State, play_act, row_begun, row_on, row_stepped, slot_call_of, slot_row_steps, step_row}
use Rattle.play_lists.specs.Played.Reached.{IsOf, row_or_rests}
use Rattle.many_acts.proofs.Acts.Courses.{same_set_up}
use Rattle.run_finds.proofs.Given.General.{same_some}

-- the row that is asked for on a slot
pub called_is : (slot : ℕ) (called : SlotCall) → slot_call_of (request_of slot called) ≡ Some called
called_is slot (call.Register enters) = refl
called_is slot call.Enter = refl
called_is slot call.Leave = refl
called_is slot call.LeaveOwned = refl
called_is slot call.Refresh = refl
called_is slot call.Flush = refl
called_is slot call.Unregister = refl

module _ {K V : Type 0} (i : ℕ) (g : Grant) (w w2 : World (Node K V)) where
  -- the step of a row comes to this world, with its memory, and with the row as it goes on
  abbrev ComesBy : SlotRow → Type 0
  ComesBy row =
      (p : Mem (Node K V) × (SlotRow × RowTold (Node K V))) × (slot_row_steps row g w.memory ≡ Some p) × (w2.memory ≡ p.0) × (w2.row i ≡ row_or_rests (row_on p.1.0 p.1.1))

  module _ {R : Type 0} (plan : Plan (Node K V) R) (made : Mem (Node K V) × R → World (Node K V)) (row : SlotRow) (tells : R → SlotRow × RowTold (Node K V)) where
    comes : slot_row_steps row g w.memory ≡ option_map (λ p. (p.0, tells p.1)) (stepped w.memory g plan) → then_on (stepped w.memory g plan) (λ p. Some (made p)) ≡ Some w2
        → ((p : Mem (Node K V) × R) → stepped w.memory g plan ≡ Some p → ((made p).memory ≡ p.0) × ((made p).row i ≡ row_or_rests (row_on (tells p.1).0 (tells p.1).1))) → ComesBy row
    comes is e leads =
        let s = some (stepped w.memory g plan) (λ p. Some (made p)) w2 e in
        let at : made s.0 ≡ w2 = same_some (made s.0) w2 s.2 in
        let to = leads s.0 s.1 in (
          (s.0.0, tells s.0.1),
          is ∙ ap (option_map (λ (p : Mem (Node K V) × R). (p.0, tells p.1))) s.1,
          ap (λ (v : World (Node K V)). v.memory) (sym at) ∙ to.0,
          ap (λ (v : World (Node K V)). v.row i) (sym at) ∙ to.1,
        )

  here : (row : Row) → with_at w.row i row i ≡ row
  here row = with_here w.row i row

  registers_so : (c : Register) (m : Mem (Node K V)) (c2 : Register) (p : Advance ℕ)
      → ((registers_on w i c m (c2, p)).memory ≡ m) × ((registers_on w i c m (c2, p)).row i ≡ row_or_rests (row_on {T = Node K V} (rows.Registers c2) (of_registering p)))
  registers_so c m c2 progress.Goes = (refl, here _)
  registers_so c m c2 progress.Waits = (refl, here _)
  registers_so c m c2 (progress.Done slot) = (refl, here Rests)
  registers_so c m c2 (progress.Refused fault) = (refl, here Rests)

  settles_so : (c : Settle) (m : Mem (Node K V)) (c2 : Settle) (p : Settled (Node K V))
      → ((settles_on w i c m (c2, p)).memory ≡ m) × ((settles_on w i c m (c2, p)).row i ≡ row_or_rests (row_on (rows.Flushes c2) (of_settling p)))
  settles_so c m c2 settled.Goes = (refl, here _)
  settles_so c m c2 settled.Waits = (refl, here _)
  settles_so c m c2 (settled.Gave value) = (refl, here _)
  settles_so c m c2 settled.Done = (refl, here Rests)

  leaves_so : (c : Leave) (m : Mem (Node K V)) (c2 : Leave) (p : Settled (Node K V))
      → ((leaves_on w i c m (c2, p)).memory ≡ m) × ((leaves_on w i c m (c2, p)).row i ≡ row_or_rests (row_on (rows.Leaves c2) (of_settling p)))
  leaves_so c m c2 settled.Goes = (refl, here _)
  leaves_so c m c2 settled.Waits = (refl, here _)
  leaves_so c m c2 (settled.Gave value) = (refl, here _)
  leaves_so c m c2 settled.Done = (refl, here Rests)

  -- one store is all that a row of one store does
  stores : {R : Type 0} (op : Op (Node K V)) (end : R) (p : Mem (Node K V) × R) → then_on (answer w.memory g op) (λ out. Some (after w.memory op out, end)) ≡ Some p → p.1 ≡ end
  stores op end p e =
      let s = some (answer w.memory g op) (λ out. Some (after w.memory op out, end)) p e in sym (ap (λ (q : Mem (Node K V) × _). q.1) (same_some (after w.memory op s.0, end) p s.2))

  pub row_comes : (row : SlotRow) → row_steps deferred_word i (row_of row) g w ≡ Some w2 → ComesBy row
  row_comes (rows.Registers c) e =
      comes (register_plan c) (λ p. registers_on w i c p.0 p.1) (rows.Registers c) (λ end. (rows.Registers end.0, of_registering end.1)) refl e (λ p so. registers_so c p.0 p.1.0 p.1.1)
  row_comes (rows.Enters c) e =
      comes (enter_plan c) (λ p. with_use (after_step w i p.0 Rests (Entered c.slot ∷ [])) c.slot (Inside 0)) (rows.Enters c) (λ end. (rows.Enters end.0, of_storing end.1)) refl e
      (λ p so. (
        refl,
        here Rests ∙ sym (ap (λ (end : Enter × Advance Unit). row_or_rests (row_on {T = Node K V} (rows.Enters end.0) (of_storing end.1)))
            (stores (Store (Slot c.slot HEAD) ACTIVE) (c, progress.Done tt) p so)),
      ))
  row_comes (rows.Leaves c) e =
      comes (leave_plan deferred_word c) (λ p. leaves_on w i c p.0 p.1) (rows.Leaves c) (λ end. (rows.Leaves end.0, of_settling end.1)) refl e (λ p so. leaves_so c p.0 p.1.0 p.1.1)
  row_comes (rows.Flushes c) e =
      comes (settle_plan deferred_word c) (λ p. settles_on w i c p.0 p.1) (rows.Flushes c) (λ end. (rows.Flushes end.0, of_settling end.1)) refl e (λ p so. settles_so c p.0 p.1.0 p.1.1)
  row_comes (rows.Frees c) e =
      comes (unregister_plan c) (λ p. with_use (after_step w i p.0 Rests []) c.slot Vacant) (rows.Frees c) (λ end. (rows.Frees end.0, of_storing end.1)) refl e
      (λ p so. (
        refl,
        here Rests ∙ sym (ap (λ (end : Unregister × Advance Unit). row_or_rests (row_on {T = Node K V} (rows.Frees end.0) (of_storing end.1)))
            (stores (Store (Slot c.slot HEAD) FREE) (c, progress.Done tt) p so)),
      ))

module _ {K V S : Type 0} (same : K → K → Bool) (hash : S → K → ℕ) (batch_size roots : ℕ) (s : Scene K V) (aborts : ℕ → V) (x : State K V S) (is : IsOf hash s s.world.row x.now)
    (n : Scene K V) (i : ℕ) where
  abbrev pub Plays : Act K V S → Answer K V → Type 0
  Plays act told =
      (y : State K V S) × (play_act same hash batch_size roots aborts act x ≡ Some y) × IsOf hash n n.world.row y.now × (y.told ≡ x.told ++ told ∷ [])
      × (y.now.all ≡ x.now.all)

  -- one caller's row is another one then, and it has no call
  row_then : HasNoCall s i → (w2 : World (Node K V)) (maps2 : ℕ → Option (Standing K)) (m2 : Mem (Node K V)) (row : Option SlotRow) → m2 ≡ w2.memory
      → ((m : ℕ) → IsSameMap (s.maps m) (maps2 m)) → row_or_rests row ≡ w2.row i → ((j : ℕ) → j ≢ i → w2.row j ≡ s.world.row j) → n ≡ record s { world = w2; maps = maps2 }
      → IsOf hash n n.world.row (record x.now { memory = m2; rows = with_at x.now.rows i row })
  row_then none w2 maps2 m2 row memory maps its others e = subst (λ (z : Scene K V). IsOf hash z z.world.row (record x.now { memory = m2; rows = with_at x.now.rows i row })) (sym e) (record {
    memory = memory;
    maps = λ m. is.maps m ∙ sym (same_set_up (s.maps m) (maps2 m) (maps m));
    calls = is.calls;
    makers = is.makers;
    enders = is.enders;
    between = λ j rest. between j rest (cases_eq j i);
    calling = λ m j u has. calling m j u has (cases_eq j i);
  })
    where
      between : (j : ℕ) → HasNoCall s j → (j ≡ i) ⊎ (j ≢ i) → row_or_rests (with_at x.now.rows i row j) ≡ w2.row j
      between j rest (inl at) = ap row_or_rests (at_same x.now.rows i row j at) ∙ its ∙ ap w2.row (sym at)
      between j rest (inr ne) = ap row_or_rests (at_other x.now.rows i row j ne) ∙ is.between j rest ∙ sym (others j ne)

      calling : (m j : ℕ) (u : UnderWay K V K) → s.calls m j ≡ Some u → (j ≡ i) ⊎ (j ≢ i) → with_at x.now.rows i row j ≡ None
      calling m j u has (inl at) = absurd (no_call s i none (m, u, subst (λ (k : ℕ). s.calls m k ≡ Some u) at has))
      calling m j u has (inr ne) = at_other x.now.rows i row j ne ∙ is.calling m j u has

  says : (told : Answer K V) → told ≡ Nothing → x.told ++ Nothing ∷ [] ≡ x.told ++ told ∷ []
  says told e = ap (λ (a : Answer K V). x.told ++ a ∷ []) (sym e)

  pub row_begins : (request : Request) (called : SlotCall) → request ≡ request_of (slot_of i) called → MayBe same hash batch_size roots slot_of (BeginsRow i request) s → (told : Answer K V)
      → Led same hash batch_size roots slot_of (BeginsRow i request) s told n → Plays (BeginsRow i request) told
  row_begins request called own may told (w2, happens, maps2, as_they_were, none, e) = (
    row_begun batch_size i x called,
    ap (option_map (row_begun batch_size i x)) (ap slot_call_of own ∙ called_is (slot_of i) called),
    row_then may.0 w2 maps2 x.now.memory (Some (begun_row (slot_of i) batch_size called)) (is.memory ∙ sym (begins_memory deferred_word batch_size i request s.world w2 happens.1)) as_they_were
        (sym (begun_there deferred_word batch_size i s.world w2 (slot_of i) called (subst (λ (r : Request). Begins deferred_word batch_size i r s.world w2) own happens.1)))
        (λ j ne. begins_others deferred_word batch_size s.world w2 i j ne request happens.1) e,
    says told none,
    refl,
  )

  pub row_steps_so : (g : Grant) → MayBe same hash batch_size roots slot_of (StepsRow i g) s → (told : Answer K V)
      → Led same hash batch_size roots slot_of (StepsRow i g) s told n → Plays (StepsRow i g) told
  row_steps_so g may told (w2, computed, happens, maps2, as_they_were, none, e) = by (x.now.rows i) refl
    where
      by : (o : Option SlotRow) → x.now.rows i ≡ o → Plays (StepsRow i g) told
      by None rests =
          let idle : Rests ≡ s.world.row i = ap row_or_rests (sym rests) ∙ is.between i may.0 in
          absurd (cc (subst (λ (r : Row). row_steps deferred_word i r g s.world ≡ Some w2) (sym idle) computed))
      by (Some row) here =
          let its : row_of row ≡ s.world.row i = ap row_or_rests (sym here) ∙ is.between i may.0 in
          let to = row_comes i g s.world w2 row (subst (λ (r : Row). row_steps deferred_word i r g s.world ≡ Some w2) (sym its) computed) in
          let steps : slot_row_steps row g x.now.memory ≡ Some to.0 = ap (λ (v : Mem (Node K V)). slot_row_steps row g v) is.memory ∙ to.1 in
          let changed = row_changed (row_of row) g x.now.memory in (
            row_stepped i row changed x to.0,
            ap (λ (o : Option SlotRow). then_on o (step_row same hash batch_size roots aborts i g x)) here ∙ ap (option_map (row_stepped i row changed x)) steps,
            row_then may.0 w2 maps2 to.0.0 (row_on to.0.1.0 to.0.1.1) (sym to.2) as_they_were (sym to.3)
                (λ j ne. steps_others deferred_word batch_size s.world w2 i j ne (s.world.row i) happens) e,
            says told none,
            refl,
          )
