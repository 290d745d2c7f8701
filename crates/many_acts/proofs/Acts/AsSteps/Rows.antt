-- Rows on slots lead where a step of their kind does, and tell what is computed of them.
use Rattle.std.specs.Prelude.{◌≢◌, Option, Some}
use Rattle.std.specs.Option.{option_map_or}
use Rattle.std.proofs.Common.{◌≡◌, ℕ, Bool, [], ◌∷◌, refl, sym, ap, subst, ◌∙◌}
use Rattle.run_shows.specs.Given.SeizeWordsMem.{Mem, Took, value_at}
use Rattle.run_shows.specs.Given.SeizeWordsPlan.{Plan, Steps}
use Rattle.run_shows.specs.Given.SeizeEnter.{enter_plan, unregister_plan}
use Rattle.run_shows.specs.Given.SeizeLaw.{Entered}
use Rattle.run_shows.specs.Given.SeizeLeave.{leave_plan}
use Rattle.run_shows.specs.Given.SeizeRegister.{register_plan}
use Rattle.run_shows.specs.Given.SeizeSettle.{settle_plan}
use Rattle.run_shows.specs.Given.SeizeWorld.{World, Row, Rests, Registers, Enters, Settles, Leaves, Defers, Frees, Inside, Vacant, Request, Begin, Step, Happens, Steps', after_step, left_row, registers_on, settles_on, leaves_on, with_at, with_use}
use Rattle.run_shows.specs.Given.SeizeDeclared.advance.Advance.{Advance}
use Rattle.run_shows.specs.Given.SeizeDeclared.advance.Advance.TheVariants as progress
use Rattle.run_shows.specs.Given.SeizeDeclared.rows.enter.Enter.{Enter}
use Rattle.run_shows.specs.Given.SeizeDeclared.rows.enter.Unregister.{Unregister}
use Rattle.run_shows.specs.Given.SeizeDeclared.rows.leave.Leave.{Leave}
use Rattle.run_shows.specs.Given.SeizeDeclared.rows.register.Register.{Register}
use Rattle.run_shows.specs.Given.SeizeDeclared.rows.settle.Settle.{Settle}
use Rattle.run_shows.specs.Given.SeizeDeclared.rows.settle.Settled.{Settled}
use Rattle.run_shows.specs.Given.SeizeDeclared.rows.settle.Settled.TheVariants as settled
use Rattle.seize_acts.specs.Acts.Acts.{row_steps}
use Rattle.seize_acts.specs.Acts.Answers.{Grant, stepped, then_on}
use Rattle.seize_acts.proofs.Acts.Answers.{some, was_stepped}
use Rattle.seize_acts.proofs.Given.SeizeRuleRows.Others.{begins_others, steps_others, with_here}
use Rattle.seize_acts.proofs.Given.SeizeRuleRows.Teams.{shares}
use Rattle.seize_acts.proofs.Given.SeizeEndsBatches.Rows.{begins_memory}
use Rattle.run_shows.specs.Given.TablesNodes.{deferred_word}
use Rattle.run_shows.specs.Given.TablesDeclared.node.Node.{Node}
use Rattle.run_shows.specs.Given.TellerTells.{StepsObserved}
use Rattle.run_shows.specs.Given.EffectsDeclared.changed.Changed.{Changed}
use Rattle.run_shows.specs.Given.EffectsDeclared.changed.Changed.TheVariants.{Nothing as NoChange}
use Rattle.owner_facts.specs.Given.CallersRows.{IsRowOn}
use Rattle.owner_facts.specs.Given.CallersTogether.{CameAbout}
use Rattle.owner_facts.proofs.Given.CallersTogether.Came.{came_reached}
use Rattle.owner_facts.proofs.Given.CallersTogether.Slots.{step_leaves}
use Rattle.owner_facts.specs.Given.FinishesMaps.{Standing, IsSameMap}
use Rattle.many_acts.specs.Acts.Acts.{Act, Answer, BeginsRow, StepsRow}
use Rattle.many_acts.specs.Acts.AsSteps.{LeadsAs, changed_by, changed_of, held_in, row_changed, outcome_of_row_step}
use Rattle.many_acts.specs.Acts.Leads.{AllStand, Led, MayBe}
use Rattle.many_acts.proofs.Acts.AsSteps.There.{Stand, one_on_slot, same_hashed}
use Rattle.many_acts.proofs.Acts.AsSteps.Told.{of_some, was_told}
use Rattle.run_shows.proofs.Scenes.OnSlots.{its_row, left_at}
use Rattle.run_shows.proofs.Scenes.Rows.{begun_there}
use Rattle.run_shows.specs.Scenes.Held.{Held, IsAt}
use Rattle.run_shows.specs.Scenes.OnSlots.{HappensTo, RowSteps, row_then}
use Rattle.run_shows.specs.Scenes.Rows.{request_of, of_registering, of_storing, of_settling}
use Rattle.run_shows.specs.Scenes.Scene.{IsOnSlot, Scene, row_of, slot_of}
use Rattle.run_shows.specs.declared.row.RowTold.{RowTold}
use Rattle.run_shows.specs.declared.row.RowTold.TheVariants as told
use Rattle.run_shows.specs.declared.row.SlotCall.{SlotCall}
use Rattle.run_shows.specs.declared.row.SlotRow.{SlotRow}
use Rattle.run_shows.specs.declared.row.SlotRow.TheVariants as rows
use Rattle.run_shows.proofs.Given.General.{same_some}

module _ {K V : Type 0} (w : World (Node K V)) (i : ℕ) (g : Grant) where
  -- A step of a row has led to a world: it is told, with what it has changed, and the row goes on, on its slot, unless it has come to its end.
  pub record Goes (row : SlotRow) (changed : Changed) (v : World (Node K V)) (end : RowTold (Node K V)) : Type 0 where
    pub after : SlotRow
    pub steps : RowSteps K V row w.memory v.memory changed (after, end)
    pub row_is : v.row i ≡ row_then after end
    pub on_slot : (slot : ℕ) → IsRowOn slot (row_of row) → IsRowOn slot (v.row i)

  here : (row : Row) → with_at w.row i row i ≡ row
  here row = with_here w.row i row

  module _ (m2 : Mem (Node K V)) where
    registers_go : (c c2 : Register) (p : Advance ℕ) → stepped w.memory g (register_plan c) ≡ Some (m2, (c2, p))
        → Goes (rows.Registers c) (changed_of w.memory g (register_plan c)) (registers_on w i c m2 (c2, p)) (of_registering p)
    registers_go c c2 progress.Goes e = record {
      after = rows.Registers c2;
      steps = ((c2, progress.Goes), was_told w.memory g (register_plan c) (m2, (c2, progress.Goes)) e, refl);
      row_is = here (Registers c2);
      on_slot = λ slot on. subst (IsRowOn slot) (sym (here (Registers c2))) tt;
    }
    registers_go c c2 progress.Waits e = record {
      after = rows.Registers c2;
      steps = ((c2, progress.Waits), was_told w.memory g (register_plan c) (m2, (c2, progress.Waits)) e, refl);
      row_is = here (Registers c2);
      on_slot = λ slot on. subst (IsRowOn slot) (sym (here (Registers c2))) tt;
    }
    registers_go c c2 (progress.Done slot) e = record {
      after = rows.Registers c2;
      steps = ((c2, progress.Done slot), was_told w.memory g (register_plan c) (m2, (c2, progress.Done slot)) e, refl);
      row_is = here Rests;
      on_slot = λ slot on. subst (IsRowOn slot) (sym (here Rests)) tt;
    }
    registers_go c c2 (progress.Refused fault) e = record {
      after = rows.Registers c2;
      steps = ((c2, progress.Refused fault), was_told w.memory g (register_plan c) (m2, (c2, progress.Refused fault)) e, refl);
      row_is = here Rests;
      on_slot = λ slot on. subst (IsRowOn slot) (sym (here Rests)) tt;
    }

    -- a row of one store has ended
    has_ended : (after : SlotRow) (p : Advance Unit) → p ≡ progress.Done tt → with_at w.row i Rests i ≡ row_then {T = Node K V} after (of_storing p)
    has_ended after p done = subst (λ (x : Advance Unit). with_at w.row i Rests i ≡ row_then {T = Node K V} after (of_storing x)) (sym done) (here Rests)

    enters_go : (c c2 : Enter) (p : Advance Unit) → stepped w.memory g (enter_plan c) ≡ Some (m2, (c2, p))
        → Goes (rows.Enters c) (changed_of w.memory g (enter_plan c)) (with_use (after_step w i m2 Rests (Entered c.slot ∷ [])) c.slot (Inside 0)) (of_storing p)
    enters_go c c2 p e =
        let st : Steps Took value_at w.memory (enter_plan c) m2 (c2, p) = was_stepped w.memory g (enter_plan c) (m2, (c2, p)) e in record {
          after = rows.Enters c2;
          steps = ((c2, p), was_told w.memory g (enter_plan c) (m2, (c2, p)) e, refl);
          row_is = has_ended (rows.Enters c2) p (ap (λ (x : Enter × Advance Unit). x.1) st.2);
          on_slot = λ slot on. subst (IsRowOn slot) (sym (here Rests)) tt;
        }

    frees_go : (c c2 : Unregister) (p : Advance Unit) → stepped w.memory g (unregister_plan c) ≡ Some (m2, (c2, p))
        → Goes (rows.Frees c) (changed_of w.memory g (unregister_plan c)) (with_use (after_step w i m2 Rests []) c.slot Vacant) (of_storing p)
    frees_go c c2 p e =
        let st : Steps Took value_at w.memory (unregister_plan c) m2 (c2, p) = was_stepped w.memory g (unregister_plan c) (m2, (c2, p)) e in record {
          after = rows.Frees c2;
          steps = ((c2, p), was_told w.memory g (unregister_plan c) (m2, (c2, p)) e, refl);
          row_is = has_ended (rows.Frees c2) p (ap (λ (x : Unregister × Advance Unit). x.1) st.2);
          on_slot = λ slot on. subst (IsRowOn slot) (sym (here Rests)) tt;
        }

    -- a flush shares its slot
    flushes_go : (size : ℕ) → CameAbout size w → (c c2 : Settle) (p : Settled (Node K V)) → w.row i ≡ Settles c → stepped w.memory g (settle_plan deferred_word c) ≡ Some (m2, (c2, p))
        → Goes (rows.Flushes c) (changed_of w.memory g (settle_plan deferred_word c)) (settles_on w i c m2 (c2, p)) (of_settling p)
    flushes_go size came c c2 p is e = record {
      after = rows.Flushes c2;
      steps = (
        (c2, p),
        subst (λ (x : Mem (Node K V)). StepsObserved K V (Settle × Settled (Node K V)) w.memory NoChange (settle_plan deferred_word c) x
            (changed_of w.memory g (settle_plan deferred_word c)) (c2, p)) (sym (by_memory p)) (was_told w.memory g (settle_plan deferred_word c) (m2, (c2, p)) e),
        refl,
      );
      row_is = by_row p;
      on_slot = λ slot on. (step_leaves deferred_word size w (came_reached size w came) i (settles_on w i c m2 (c2, p)) slot (ap shares is)
          (subst (λ (r : Row). Steps' deferred_word i r w (settles_on w i c m2 (c2, p))) (sym is)
          (m2, (c2, p), was_stepped w.memory g (settle_plan deferred_word c) (m2, (c2, p)) e, refl))).on_slot (subst (IsRowOn slot) (sym is) on);
    }
      where
        by_memory : (p : Settled (Node K V)) → (settles_on w i c m2 (c2, p)).memory ≡ m2
        by_memory settled.Goes = refl
        by_memory settled.Waits = refl
        by_memory (settled.Gave value) = refl
        by_memory settled.Done = refl

        by_row : (p : Settled (Node K V)) → (settles_on w i c m2 (c2, p)).row i ≡ row_then (rows.Flushes c2) (of_settling p)
        by_row settled.Goes = here (Settles c2)
        by_row settled.Waits = here (Settles c2)
        by_row (settled.Gave value) = here (Settles c2)
        by_row settled.Done = here Rests

    leaves_go : (c c2 : Leave) (p : Settled (Node K V)) → stepped w.memory g (leave_plan deferred_word c) ≡ Some (m2, (c2, p))
        → Goes (rows.Leaves c) (changed_of w.memory g (leave_plan deferred_word c)) (leaves_on w i c m2 (c2, p)) (of_settling p)
    leaves_go c c2 p e = record {
      after = rows.Leaves c2;
      steps = ((c2, p), was_told w.memory g (leave_plan deferred_word c) (m2, (c2, p)) e, refl);
      row_is = here (left_row c2 p) ∙ by_row p;
      on_slot = λ slot on. subst (IsRowOn slot) (sym (here (left_row c2 p))) (by_slot slot p on);
    }
      where
        by_row : (p : Settled (Node K V)) → left_row c2 p ≡ row_then (rows.Leaves c2) (of_settling p)
        by_row settled.Goes = refl
        by_row settled.Waits = refl
        by_row (settled.Gave value) = refl
        by_row settled.Done = refl

        kept : c2.slot ≡ c.slot
        kept = left_at deferred_word c w.memory m2 (c2, p) c.stands (was_stepped w.memory g (leave_plan deferred_word c) (m2, (c2, p)) e)

        by_slot : (slot : ℕ) (p : Settled (Node K V)) → c.slot ≡ slot → IsRowOn slot (left_row c2 p)
        by_slot slot settled.Goes on = kept ∙ on
        by_slot slot settled.Waits on = kept ∙ on
        by_slot slot (settled.Gave value) on = kept ∙ on
        by_slot slot settled.Done on = tt

  -- from what is computed of it
  came : {R : Type 0} (plan : Plan (Node K V) R) (made : Mem (Node K V) × R → World (Node K V)) (tells : R → RowTold (Node K V)) (w2 : World (Node K V))
      → then_on (stepped w.memory g plan) (λ p. Some (made p)) ≡ Some w2 → (P : World (Node K V) → RowTold (Node K V) → Type 0)
      → ((p : Mem (Node K V) × R) → stepped w.memory g plan ≡ Some p → P (made p) (tells p.1)) → P w2 (option_map_or (λ p. tells p.1) (stepped w.memory g plan) told.Goes)
  came {R} plan made tells w2 e P so =
      let s = some (stepped w.memory g plan) (λ p. Some (made p)) w2 e in
      subst (P w2) (sym (of_some (λ (p : Mem (Node K V) × R). tells p.1) told.Goes (stepped w.memory g plan) s.0 s.1))
      (subst (λ (v : World (Node K V)). P v (tells s.0.1)) (same_some (made s.0) w2 s.2) (so s.0 s.1))

  -- whichever row it is
  goes : (size : ℕ) → CameAbout size w → (w2 : World (Node K V)) (row : SlotRow) → w.row i ≡ row_of row → row_steps deferred_word i (row_of row) g w ≡ Some w2
      → Goes row (row_changed (row_of row) g w.memory) w2 (outcome_of_row_step (row_of row) g w.memory)
  goes size from w2 (rows.Registers c) is e =
      came (register_plan c) (λ p. registers_on w i c p.0 p.1) (λ end. of_registering end.1) w2 e (Goes (rows.Registers c) (changed_of w.memory g (register_plan c)))
      (λ p so. registers_go p.0 c p.1.0 p.1.1 so)
  goes size from w2 (rows.Enters c) is e =
      came (enter_plan c) (λ p. with_use (after_step w i p.0 Rests (Entered c.slot ∷ [])) c.slot (Inside 0)) (λ end. of_storing end.1) w2 e
      (Goes (rows.Enters c) (changed_of w.memory g (enter_plan c))) (λ p so. enters_go p.0 c p.1.0 p.1.1 so)
  goes size from w2 (rows.Leaves c) is e =
      came (leave_plan deferred_word c) (λ p. leaves_on w i c p.0 p.1) (λ end. of_settling end.1) w2 e (Goes (rows.Leaves c) (changed_of w.memory g (leave_plan deferred_word c)))
      (λ p so. leaves_go p.0 c p.1.0 p.1.1 so)
  goes size from w2 (rows.Flushes c) is e =
      came (settle_plan deferred_word c) (λ p. settles_on w i c p.0 p.1) (λ end. of_settling end.1) w2 e (Goes (rows.Flushes c) (changed_of w.memory g (settle_plan deferred_word c)))
      (λ p so. flushes_go p.0 size from c p.1.0 p.1.1 is so)
  goes size from w2 (rows.Frees c) is e =
      came (unregister_plan c) (λ p. with_use (after_step w i p.0 Rests []) c.slot Vacant) (λ end. of_storing end.1) w2 e
      (Goes (rows.Frees c) (changed_of w.memory g (unregister_plan c))) (λ p so. frees_go p.0 c p.1.0 p.1.1 so)

  -- a row works on its slot after its step
  keeps_slot : (size : ℕ) → CameAbout size w → (w2 : World (Node K V)) (slot : ℕ) → Steps' deferred_word i (w.row i) w w2 → (row : Row) → w.row i ≡ row → row_steps deferred_word i row g w ≡ Some w2
      → IsRowOn slot row → IsRowOn slot (w2.row i)
  keeps_slot size from w2 slot step Rests is e = absurd (cc e)
  keeps_slot size from w2 slot step (Registers c) is e = (goes size from w2 (rows.Registers c) is e).on_slot slot
  keeps_slot size from w2 slot step (Enters c) is e = (goes size from w2 (rows.Enters c) is e).on_slot slot
  keeps_slot size from w2 slot step (Settles c) is e = (goes size from w2 (rows.Flushes c) is e).on_slot slot
  keeps_slot size from w2 slot step (Leaves c) is e = (goes size from w2 (rows.Leaves c) is e).on_slot slot
  keeps_slot size from w2 slot step (Defers t c) is e =
      λ on. (step_leaves deferred_word size w (came_reached size w from) i w2 slot (ap shares is) step).on_slot (subst (IsRowOn slot) (sym is) on)
  keeps_slot size from w2 slot step (Frees c) is e = (goes size from w2 (rows.Frees c) is e).on_slot slot

module _ {K V S : Type 0} (same : K → K → Bool) (by_hasher : S → K → ℕ) (hash : ℕ → K → ℕ) (batch_size roots : ℕ) (s n : Scene K V) (before : Changed)
    (at : IsAt same hash (held_in batch_size roots before s) s) (all : AllStand same by_hasher batch_size roots slot_of n) (i : ℕ) where
  abbrev old : Held K V
  old = held_in batch_size roots before s

  abbrev Stands : Scene K V → Type 0
  Stands x = Stand same hash batch_size roots s before at x

  abbrev Leads : Act K V S → Answer K V → Changed → Scene K V → Type 0
  Leads act told changed x =
      LeadsAs same by_hasher hash act s told x old (held_in batch_size roots changed x) × IsAt same hash (held_in batch_size roots changed x) x

  onto : (P : Scene K V → Type 0) (x : Scene K V) → n ≡ x → (Stands x → P x) → P n
  onto P x is so = subst P (sym is) (so (subst Stands is all))

  -- the world and the maps alone have changed
  module _ (w2 : World (Node K V)) (maps2 : ℕ → Option (Standing K)) (as_they_were : (m : ℕ) → IsSameMap (s.maps m) (maps2 m)) (its : IsRowOn (slot_of i) (w2.row i))
      (others : (j : ℕ) → j ≢ i → w2.row j ≡ s.world.row j) (changed : Changed) where
    there : Stands (record s { world = w2; maps = maps2 }) → IsAt same hash (held_in batch_size roots changed (record s { world = w2; maps = maps2 })) (record s { world = w2; maps = maps2 })
    there stand = record {
      memory = refl;
      together = stand;
      hashes = same_hashed same hash batch_size roots s before at maps2 as_they_were;
      hashes_made = at.hashes_made;
      on_slots = one_on_slot same hash batch_size roots s before at i w2 its others;
      small = at.small;
    }

  pub row_begins_as : (request : Request) (called : SlotCall) → request ≡ request_of (slot_of i) called → MayBe same by_hasher batch_size roots slot_of (BeginsRow i request) s
      → (told : Answer K V) → Led same by_hasher batch_size roots slot_of (BeginsRow i request) s told n → Leads (BeginsRow i request) told NoChange n
  row_begins_as request called own may told (w2, happens, maps2, as_they_were, none, is) =
      onto (Leads (BeginsRow i request) told NoChange) (record s { world = w2; maps = maps2 }) is
      (λ stand. let at2 = there w2 maps2 as_they_were its (λ j ne. begins_others deferred_word batch_size s.world w2 i j ne request happens.1) NoChange stand in
      ((called, own, (begins_memory deferred_word batch_size i request s.world w2 happens.1, may.0, (w2, it, maps2, as_they_were, at2)), refl), at2))
    where
      it : Happens deferred_word batch_size (Begin i (request_of (slot_of i) called)) s.world w2
      it = subst (λ (r : Request). Happens deferred_word batch_size (Begin i r) s.world w2) own happens

      its : IsRowOn (slot_of i) (w2.row i)
      its = subst (IsRowOn (slot_of i)) (sym (begun_there deferred_word batch_size i s.world w2 (slot_of i) called it.1)) (its_row (slot_of i) batch_size called)

  module _ (g : Grant) (w2 : World (Node K V)) (maps2 : ℕ → Option (Standing K)) where
    abbrev held_then : Held K V
    held_then = held_in batch_size roots (row_changed (s.world.row i) g s.world.memory) (record s { world = w2; maps = maps2 })

    -- where a row leads, and to which scene
    abbrev RowGoes : SlotRow → Row → Type 0
    RowGoes row r =
        (so : (after : SlotRow) × RowSteps K V row s.world.memory w2.memory (row_changed r g s.world.memory) (after, outcome_of_row_step r g s.world.memory)
        × (did : HappensTo (IsAt same hash held_then) (Step i) s old) × (did.0.row i ≡ row_then after (outcome_of_row_step r g s.world.memory)))
        × (record s { world = w2; maps = maps2 } ≡ record s { world = so.2.0; maps = so.2.2 })

  pub row_steps_as : (g : Grant) → (told : Answer K V) → Led same by_hasher batch_size roots slot_of (StepsRow i g) s told n → Leads (StepsRow i g) told (changed_by {S = S} same (StepsRow i g) s) n
  row_steps_as g told (w2, computed, happens, maps2, as_they_were, none, is) =
      onto (Leads (StepsRow i g) told (row_changed (s.world.row i) g s.world.memory)) (record s { world = w2; maps = maps2 }) is
      (λ stand. ((λ row on. (leads stand row on).0, λ row on. (leads stand row on).1), at2 stand))
    where
      came : CameAbout batch_size s.world
      came = at.together.makings.standing.came

      at2 : Stands (record s { world = w2; maps = maps2 }) → IsAt same hash (held_in batch_size roots (row_changed (s.world.row i) g s.world.memory) (record s { world = w2; maps = maps2 }))
          (record s { world = w2; maps = maps2 })
      at2 stand =
          there w2 maps2 as_they_were (keeps_slot s.world i g batch_size came w2 (slot_of i) happens (s.world.row i) refl computed (at.on_slots i))
          (λ j ne. steps_others deferred_word batch_size s.world w2 i j ne (s.world.row i) happens) (row_changed (s.world.row i) g s.world.memory) stand

      leads : Stands (record s { world = w2; maps = maps2 }) → (row : SlotRow) → IsOnSlot s i row → RowGoes g w2 maps2 row (s.world.row i)
      leads stand row on =
          let k = goes s.world i g batch_size came w2 row on.1 (subst (λ (r : Row). row_steps deferred_word i r g s.world ≡ Some w2) on.1 computed) in
          subst (RowGoes g w2 maps2 row) (sym on.1) ((k.after, k.steps, (w2, happens, maps2, as_they_were, at2 stand), k.row_is), refl)
