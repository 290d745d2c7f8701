-- What a row on a slot does to the memory, and where it stands then, is said by the memory, the row and what the memory was free to choose.
use Rattle.std.specs.Prelude.{Option, Some}
use Rattle.std.proofs.Common.{◌≡◌, ℕ, [], ◌∷◌, refl, ap, sym, ◌∙◌}
use Rattle.run_shows.specs.Given.SeizeWordsMem.{Mem}
use Rattle.run_shows.specs.Given.SeizeWordsPlan.{Plan}
use Rattle.run_shows.specs.Given.SeizeDefer.{defer_plan}
use Rattle.run_shows.specs.Given.SeizeEnter.{enter_plan, unregister_plan}
use Rattle.run_shows.specs.Given.SeizeLaw.{Entered}
use Rattle.run_shows.specs.Given.SeizeLeave.{leave_plan}
use Rattle.run_shows.specs.Given.SeizeRegister.{register_plan}
use Rattle.run_shows.specs.Given.SeizeSettle.{settle_plan}
use Rattle.run_shows.specs.Given.SeizeWorld.{World, Row, Rests, Registers, Enters, Settles, Leaves, Defers, Frees, Vacant, Inside, Request, Register', Enter', Leave', LeaveOwned, Refresh, Unregister', Retire, Flush, Defer', Begins, left_row, with_use, after_step, settles_on, leaves_on, registers_on, defers_on}
use Rattle.run_shows.specs.Given.SeizeDeclared.advance.Advance.{Advance}
use Rattle.run_shows.specs.Given.SeizeDeclared.advance.Advance.TheVariants as progress
use Rattle.run_shows.specs.Given.SeizeDeclared.rows.defer.Defer.{Defer}
use Rattle.run_shows.specs.Given.SeizeDeclared.rows.enter.Enter.{Enter}
use Rattle.run_shows.specs.Given.SeizeDeclared.rows.enter.Unregister.{Unregister}
use Rattle.run_shows.specs.Given.SeizeDeclared.rows.leave.Leave.{Leave}
use Rattle.run_shows.specs.Given.SeizeDeclared.rows.register.Register.{Register}
use Rattle.run_shows.specs.Given.SeizeDeclared.rows.settle.Settle.{Settle}
use Rattle.run_shows.specs.Given.SeizeDeclared.rows.settle.Settled.{Settled}
use Rattle.run_shows.specs.Given.SeizeDeclared.rows.settle.Settled.TheVariants as settled
use Rattle.seize_acts.specs.Acts.Acts.{row_steps}
use Rattle.seize_acts.specs.Acts.Answers.{Grant, then_on, stepped}
use Rattle.seize_acts.proofs.Acts.Answers.{some}
use Rattle.seize_acts.proofs.Given.SeizeRuleRows.Others.{with_here}
use Rattle.owner_facts.specs.Given.CallersTogether.{IsOfSlots}
use Rattle.run_shows.proofs.Given.General.{same_some}

module _ {T : Type 0} (defers : T → Option ℕ) (i : ℕ) where
  abbrev RowAlike : World T → World T → Type 0
  RowAlike w v = (w.memory ≡ v.memory) × (w.row i ≡ v.row i)

  -- a row that a machine's step leads to, by its memory and its end
  stepped_alike : {R : Type 0} (plan : Plan T R) (to : World T → Mem T → R → World T) (row : R → Row) → ((u : World T) (m : Mem T) (r : R) → ((to u m r).memory ≡ m) × ((to u m r).row i ≡ row r))
      → (g : Grant) (w v w2 v2 : World T) → w.memory ≡ v.memory → then_on (stepped w.memory g plan) (λ p. Some (to w p.0 p.1)) ≡ Some w2 → then_on (stepped v.memory g plan) (λ p. Some (to v p.0 p.1)) ≡ Some v2
      → RowAlike w2 v2
  stepped_alike {R} plan to row leads g w v w2 v2 memory e f =
      let x = some (stepped w.memory g plan) (λ p. Some (to w p.0 p.1)) w2 e in
      let y = some (stepped v.memory g plan) (λ p. Some (to v p.0 p.1)) v2 f in
      let one : x.0 ≡ y.0 = same_some x.0 y.0 (sym x.1 ∙ ap (λ (m : Mem T). stepped m g plan) memory ∙ y.1) in
      let at : to w x.0.0 x.0.1 ≡ w2 = same_some (to w x.0.0 x.0.1) w2 x.2 in
      let at2 : to v y.0.0 y.0.1 ≡ v2 = same_some (to v y.0.0 y.0.1) v2 y.2 in
      let here = leads w x.0.0 x.0.1 in
      let there = leads v y.0.0 y.0.1 in (
        ap (λ (u : World T). u.memory) (sym at) ∙ here.0 ∙ ap (λ (p : Mem T × R). p.0) one ∙ sym there.0 ∙ ap (λ (u : World T). u.memory) at2,
        ap (λ (u : World T). u.row i) (sym at) ∙ here.1 ∙ ap (λ (p : Mem T × R). row p.1) one ∙ sym there.1 ∙ ap (λ (u : World T). u.row i) at2,
      )

  abbrev registered_row : Register × Advance ℕ → Row
  registered_row (end, progress.Done s) = Rests
  registered_row (end, progress.Refused fault) = Rests
  registered_row (end, _) = Registers end

  registers_to : (c : Register) (u : World T) (m : Mem T) (r : Register × Advance ℕ) → ((registers_on u i c m r).memory ≡ m) × ((registers_on u i c m r).row i ≡ registered_row r)
  registers_to c u m (end, progress.Done s) = (refl, with_here u.row i Rests)
  registers_to c u m (end, progress.Refused fault) = (refl, with_here u.row i Rests)
  registers_to c u m (end, progress.Goes) = (refl, with_here u.row i (Registers end))
  registers_to c u m (end, progress.Waits) = (refl, with_here u.row i (Registers end))

  abbrev settled_row : Settle × Settled T → Row
  settled_row (end, settled.Done) = Rests
  settled_row (end, _) = Settles end

  settles_to : (c : Settle) (u : World T) (m : Mem T) (r : Settle × Settled T) → ((settles_on u i c m r).memory ≡ m) × ((settles_on u i c m r).row i ≡ settled_row r)
  settles_to c u m (end, settled.Done) = (refl, with_here u.row i Rests)
  settles_to c u m (end, settled.Goes) = (refl, with_here u.row i (Settles end))
  settles_to c u m (end, settled.Waits) = (refl, with_here u.row i (Settles end))
  settles_to c u m (end, settled.Gave value) = (refl, with_here u.row i (Settles end))

  abbrev deferred_row : ℕ → Defer × Advance Unit → Row
  deferred_row s (end, progress.Done x) = Rests
  deferred_row s (end, _) = Defers s end

  defers_to : (s : ℕ) (u : World T) (m : Mem T) (r : Defer × Advance Unit) → ((defers_on u i s m r).memory ≡ m) × ((defers_on u i s m r).row i ≡ deferred_row s r)
  defers_to s u m (end, progress.Done x) = (refl, with_here u.row i Rests)
  defers_to s u m (end, progress.Goes) = (refl, with_here u.row i (Defers s end))
  defers_to s u m (end, progress.Waits) = (refl, with_here u.row i (Defers s end))
  defers_to s u m (end, progress.Refused fault) = (refl, with_here u.row i (Defers s end))

  abbrev left_to : Leave × Settled T → Row
  left_to (end, told) = left_row end told

  pub row_step_alike : (row : Row) (g : Grant) (w v w2 v2 : World T) → w.memory ≡ v.memory → row_steps defers i row g w ≡ Some w2 → row_steps defers i row g v ≡ Some v2 → RowAlike w2 v2
  row_step_alike Rests g w v w2 v2 memory e f = absurd (cc e)
  row_step_alike (Registers c) g w v w2 v2 memory e f = stepped_alike (register_plan c) (λ u m r. registers_on u i c m r) registered_row (registers_to c) g w v w2 v2 memory e f
  row_step_alike (Enters c) g w v w2 v2 memory e f =
      stepped_alike {R = Enter × Advance Unit} (enter_plan c) (λ u m r. with_use (after_step u i m Rests (Entered c.slot ∷ [])) c.slot (Inside 0)) (λ r. Rests) (λ u m r. (refl, with_here u.row i Rests)) g w v w2 v2
      memory e f
  row_step_alike (Settles c) g w v w2 v2 memory e f = stepped_alike (settle_plan defers c) (λ u m r. settles_on u i c m r) settled_row (settles_to c) g w v w2 v2 memory e f
  row_step_alike (Leaves c) g w v w2 v2 memory e f =
      stepped_alike (leave_plan defers c) (λ u m r. leaves_on u i c m r) left_to (λ u m r. (refl, with_here u.row i (left_row r.0 r.1))) g w v w2 v2 memory e f
  row_step_alike (Defers s c) g w v w2 v2 memory e f = stepped_alike (defer_plan c) (λ u m r. defers_on u i s m r) (deferred_row s) (defers_to s) g w v w2 v2 memory e f
  row_step_alike (Frees c) g w v w2 v2 memory e f =
      stepped_alike {R = Unregister × Advance Unit} (unregister_plan c) (λ u m r. with_use (after_step u i m Rests []) c.slot Vacant) (λ r. Rests) (λ u m r. (refl, with_here u.row i Rests)) g w v w2 v2 memory e f

  -- a row that begins is said by what is asked
  pub row_begin_alike : (size : ℕ) (request : Request) (w v w2 v2 : World T) → IsOfSlots request → Begins defers size i request w w2 → Begins defers size i request v v2 → w2.row i ≡ v2.row i
  row_begin_alike size (Register' enters) w v w2 v2 of h k = ap (λ (x : World T). x.row i) h ∙ with_here w.row i _ ∙ sym (ap (λ (x : World T). x.row i) k ∙ with_here v.row i _)
  row_begin_alike size (Enter' s) w v w2 v2 of h k = ap (λ (x : World T). x.row i) h.1 ∙ with_here w.row i _ ∙ sym (ap (λ (x : World T). x.row i) k.1 ∙ with_here v.row i _)
  row_begin_alike size (Leave' s) w v w2 v2 of h k = ap (λ (x : World T). x.row i) h.1 ∙ with_here w.row i _ ∙ sym (ap (λ (x : World T). x.row i) k.1 ∙ with_here v.row i _)
  row_begin_alike size (LeaveOwned s) w v w2 v2 of h k = ap (λ (x : World T). x.row i) h.1 ∙ with_here w.row i _ ∙ sym (ap (λ (x : World T). x.row i) k.1 ∙ with_here v.row i _)
  row_begin_alike size (Refresh s) w v w2 v2 of h k = ap (λ (x : World T). x.row i) h.1 ∙ with_here w.row i _ ∙ sym (ap (λ (x : World T). x.row i) k.1 ∙ with_here v.row i _)
  row_begin_alike size (Unregister' s) w v w2 v2 of h k = ap (λ (x : World T). x.row i) h.1 ∙ with_here w.row i _ ∙ sym (ap (λ (x : World T). x.row i) k.1 ∙ with_here v.row i _)
  row_begin_alike size (Flush s) w v w2 v2 of h k = ap (λ (x : World T). x.row i) h.1 ∙ with_here w.row i _ ∙ sym (ap (λ (x : World T). x.row i) k.1 ∙ with_here v.row i _)
  row_begin_alike size (Retire s b) w v w2 v2 of h k = absurd of
  row_begin_alike size (Defer' s b t) w v w2 v2 of h k = absurd of
