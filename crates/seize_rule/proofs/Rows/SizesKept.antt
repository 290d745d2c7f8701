-- All rows go on with the batch size that they began with.
use Rattle.std.specs.Prelude.{Option, Ok, Err, if◌then◌else◌, nat_lt}
use Rattle.std.proofs.Common.{◌≡◌, ℕ, Bool, true, false, refl, subst, sym, ◌∙◌}
use Rattle.seize_moves.specs.Given.SeizeWordsOp.{Out, Found, Stored, Exchanged, Made, Taken, Roomed}
use Rattle.seize_moves.specs.Given.SeizeWordsMem.{Mem, Took, value_at, with_word}
use Rattle.seize_moves.specs.Given.SeizeWordsPlan.{Steps, Ends, Now}
use Rattle.seize_moves.proofs.Given.SeizeWordsOneOwner.Operations.{swapped, stored}
use Rattle.seize_moves.specs.Given.SeizeWordsDeclared.at.At.TheVariants as name
use Rattle.seize_moves.specs.Given.SeizeDeclared.states.TheConstants.{HEAD, FREE, ACTIVE}
use Rattle.seize_moves.specs.Given.SeizeDeclared.advance.Advance.{Advance}
use Rattle.seize_moves.specs.Given.SeizeDeclared.advance.Advance.TheVariants as progress
use Rattle.seize_moves.specs.Given.SeizeDeclared.rows.settle.Settle.{Settle}
use Rattle.seize_moves.specs.Given.SeizeDeclared.rows.settle.Settled.{Settled}
use Rattle.seize_moves.specs.Given.SeizeDeclared.rows.settle.Settled.TheVariants.{Goes, Waits, Gave, Done}
use Rattle.seize_moves.specs.Given.SeizeDeclared.rows.leave.Leave.{Leave}
use Rattle.seize_moves.specs.Given.SeizeDeclared.rows.leave.Leaving.{Leaving}
use Rattle.seize_moves.specs.Given.SeizeDeclared.rows.leave.Leaving.TheVariants as leaving
use Rattle.seize_moves.specs.Given.SeizeDeclared.rows.register.Register.{Register}
use Rattle.seize_moves.specs.Given.SeizeDeclared.rows.defer.Defer.{Defer}
use Rattle.seize_moves.specs.Given.SeizeSettle.{settle_plan, counting_down}
use Rattle.seize_moves.specs.Given.SeizeLeave.{standing, counted_down, settled, list_taken, plan_at}
use Rattle.seize_moves.specs.Given.SeizeWorld.{World, Row, Rests, Registers, Enters, Settles, Leaves, Defers, Frees, Event, Begin, Step, Makes, Drops, Links, Parts, Unlinks, Rewrites, Operates, Chooses, Request, Register', Enter', Leave', LeaveOwned, Refresh, Unregister', Retire, Flush, Defer', Begins, Happens, Steps', settles_on, leaves_on, registers_on, defers_on, made_by, LeavesOver, Relinks, Clears, Ends as EndsOwner}
use Rattle.seize_rule.proofs.Rows.Sizes.{LeaveSized, Sized, AllSized, sized_at, same_size}
use Rattle.seize_rule.proofs.Rows.Leaving.{steps_back}

counted_sized : (size : ℕ) (c : Leave) → c.batch_size ≡ size → Sized size (Leaves (counted_down c))
counted_sized size c h = by c.frees
  where
    by : (t : Bool) → Sized size (Leaves (if t then standing c leaving.Frees else standing c leaving.Over))
    by true = (h, tt)
    by false = (h, tt)

module _ {T : Type 0} (defers : T → Option ℕ) (size : ℕ) (w w2 : World T) (h : AllSized size w.row) where
  begins_sized : (i : ℕ) (request : Request) → Begins defers size i request w w2 → AllSized size w2.row
  begins_sized i (Register' enters) b = subst (λ (v : World T). AllSized size v.row) (sym b) (sized_at size i w.row _ h tt)
  begins_sized i (Enter' s) b = subst (λ (v : World T). AllSized size v.row) (sym b.1) (sized_at size i w.row _ h tt)
  begins_sized i (Leave' s) b = subst (λ (v : World T). AllSized size v.row) (sym b.1) (sized_at size i w.row _ h (refl, tt))
  begins_sized i (LeaveOwned s) b = subst (λ (v : World T). AllSized size v.row) (sym b.1) (sized_at size i w.row _ h (refl, tt))
  begins_sized i (Refresh s) b = subst (λ (v : World T). AllSized size v.row) (sym b.1) (sized_at size i w.row _ h (refl, tt))
  begins_sized i (Unregister' s) b = subst (λ (v : World T). AllSized size v.row) (sym b.1) (sized_at size i w.row _ h tt)
  begins_sized i (Retire s b') b = subst (λ (v : World T). AllSized size v.row) (sym b.2) (sized_at size i w.row _ h refl)
  begins_sized i (Flush s) b = subst (λ (v : World T). AllSized size v.row) (sym b.1) (sized_at size i w.row _ h refl)
  begins_sized i (Defer' s b' t) b = subst (λ (v : World T). AllSized size v.row) (sym b.7) (sized_at size i w.row _ h tt)

  registers_sized : (i : ℕ) (c d : Register) (m : Mem T) (o : Advance ℕ) → AllSized size (registers_on w i c m (d, o)).row
  registers_sized i c d m progress.Goes = sized_at size i w.row (Registers d) h tt
  registers_sized i c d m progress.Waits = sized_at size i w.row (Registers d) h tt
  registers_sized i c d m (progress.Done s) = sized_at size i w.row Rests h tt
  registers_sized i c d m (progress.Refused fault) = sized_at size i w.row Rests h tt

  settles_sized : (i : ℕ) (c d : Settle) (m : Mem T) (o : Settled T) → d.batch_size ≡ size → AllSized size (settles_on w i c m (d, o)).row
  settles_sized i c d m Goes e = sized_at size i w.row (Settles d) h e
  settles_sized i c d m Waits e = sized_at size i w.row (Settles d) h e
  settles_sized i c d m (Gave value) e = sized_at size i w.row (Settles d) h e
  settles_sized i c d m Done e = sized_at size i w.row Rests h tt

  leaves_sized : (i : ℕ) (c d : Leave) (m : Mem T) (o : Settled T) → Sized size (Leaves d) → AllSized size (leaves_on w i c m (d, o)).row
  leaves_sized i c d m Goes e = sized_at size i w.row (Leaves d) h e
  leaves_sized i c d m Waits e = sized_at size i w.row (Leaves d) h e
  leaves_sized i c d m (Gave value) e = sized_at size i w.row (Leaves d) h e
  leaves_sized i c d m Done e = sized_at size i w.row Rests h tt

  defers_sized : (i s : ℕ) (d : Defer) (m : Mem T) (o : Advance Unit) → AllSized size (defers_on w i s m (d, o)).row
  defers_sized i s d m progress.Goes = sized_at size i w.row (Defers s d) h tt
  defers_sized i s d m progress.Waits = sized_at size i w.row (Defers s d) h tt
  defers_sized i s d m (progress.Done u) = sized_at size i w.row Rests h tt
  defers_sized i s d m (progress.Refused fault) = sized_at size i w.row (Defers s d) h tt

  within : (c : Leave) (e : Settle × Settled T) → c.batch_size ≡ size → e.0.batch_size ≡ size → Sized size (Leaves (settled c e).0)
  within c (d, Goes) a b = (a, b)
  within c (d, Waits) a b = (a, b)
  within c (d, Gave value) a b = (a, b)
  within c (d, Done) a b = counted_sized size c a

  left_sized : (c : Leave) (m : Mem T) (end : Leave × Settled T) (p : Leaving) → c.batch_size ≡ size → LeaveSized size p → c.stands ≡ p → Steps Took value_at w.memory (plan_at defers c p) m end → Sized size (Leaves end.0)
  left_sized c m end leaving.Swaps a b is s =
      let d = swapped w.memory (list_taken c) (name.Slot c.slot HEAD) c.becomes m end s in
      by (value_at (with_word w.memory (name.Slot c.slot HEAD) c.becomes)) d.0 (nat_lt ACTIVE d.0) d.3
    where
      by : (shown : ℕ → Option T) (head : ℕ) (t : Bool) → Ends shown (if t then Now (standing c (leaving.Settles (counting_down c.slot c.batch_size head)), Goes) else Now (counted_down c, Goes)) end → Sized size (Leaves end.0)
      by shown head true e = subst (λ (q : Leave × Settled T). Sized size (Leaves q.0)) (sym e) (a, a)
      by shown head false e = subst (λ (q : Leave × Settled T). Sized size (Leaves q.0)) (sym e) (counted_sized size c a)
  left_sized c m end (leaving.Settles settle) a b is s =
      let k = steps_back (settled c) w.memory m (settle_plan defers settle) end s in
      subst (λ (q : Leave × Settled T). Sized size (Leaves q.0)) (sym k.2) (within c k.0 a (same_size defers w.memory m settle k.0 settle.stands k.1 ∙ b))
  left_sized c m end leaving.Frees a b is s =
      let d = stored w.memory (λ out. Now (standing c leaving.Over, Goes)) (name.Slot c.slot HEAD) FREE m end s in
      subst (λ (q : Leave × Settled T). Sized size (Leaves q.0)) (sym d.1) (a, tt)
  left_sized c m end leaving.Over a b is s = subst (λ (q : Leave × Settled T). Sized size (Leaves q.0)) (sym s.1) (a, subst (λ (p : Leaving). LeaveSized size p) (sym is) tt)

  steps_sized : (i : ℕ) (row : Row) → w.row i ≡ row → Steps' defers i row w w2 → AllSized size w2.row
  steps_sized i Rests is s = absurd s
  steps_sized i (Registers c) is s = subst (λ (v : World T). AllSized size v.row) (sym s.3) (registers_sized i c s.1.0 s.0 s.1.1)
  steps_sized i (Enters c) is s = subst (λ (v : World T). AllSized size v.row) (sym s.3) (sized_at size i w.row Rests h tt)
  steps_sized i (Settles c) is s =
      let a : c.batch_size ≡ size = subst (λ (q : Row). Sized size q) is (h i) in
      subst (λ (v : World T). AllSized size v.row) (sym s.3) (settles_sized i c s.1.0 s.0 s.1.1 (same_size defers w.memory s.0 c s.1 c.stands s.2 ∙ a))
  steps_sized i (Leaves c) is s =
      let a : Sized size (Leaves c) = subst (λ (q : Row). Sized size q) is (h i) in
      subst (λ (v : World T). AllSized size v.row) (sym s.3) (leaves_sized i c s.1.0 s.0 s.1.1 (left_sized c s.0 s.1 c.stands a.0 a.1 refl s.2))
  steps_sized i (Defers t c) is s = subst (λ (v : World T). AllSized size v.row) (sym s.3) (defers_sized i t s.1.0 s.0 s.1.1)
  steps_sized i (Frees c) is s = subst (λ (v : World T). AllSized size v.row) (sym s.3) (sized_at size i w.row Rests h tt)

  makes_sized : (i : ℕ) (m : Mem T) (out : Out T) → AllSized size (made_by defers w i m out).row
  makes_sized i m (Found x) = h
  makes_sized i m Stored = h
  makes_sized i m (Exchanged r) = h
  makes_sized i m (Made (Ok b)) = h
  makes_sized i m (Made (Err b)) = h
  makes_sized i m (Taken x) = h
  makes_sized i m (Roomed r) = h

  pub happens_sized : (e : Event T) → Happens defers size e w w2 → AllSized size w2.row
  happens_sized (Begin i request) e = begins_sized i request e.1
  happens_sized (Step i) e = steps_sized i (w.row i) refl e
  happens_sized (Makes i value words) e = subst (λ (v : World T). AllSized size v.row) (sym e.4) (makes_sized i e.1 e.0)
  happens_sized (Drops i b) e = subst (λ (v : World T). AllSized size v.row) (sym e.4) h
  happens_sized (Links i b o) e = subst (λ (v : World T). AllSized size v.row) (sym e.1) h
  happens_sized (Parts i b) e = subst (λ (v : World T). AllSized size v.row) (sym e.1) h
  happens_sized (Unlinks i b) e = subst (λ (v : World T). AllSized size v.row) (sym e.1) h
  happens_sized (Rewrites i b value) e = subst (λ (v : World T). AllSized size v.row) (sym e.5) h
  happens_sized (Operates op) e = subst (λ (v : World T). AllSized size v.row) (sym e.4) h
  happens_sized (EndsOwner i o) e = subst (λ (v : World T). AllSized size v.row) (sym e) h
  happens_sized (LeavesOver i b further) e = subst (λ (v : World T). AllSized size v.row) (sym e.4) h
  happens_sized (Relinks i b word) e = subst (λ (v : World T). AllSized size v.row) (sym e.4) h
  happens_sized (Clears i b) e = subst (λ (v : World T). AllSized size v.row) (sym e.5) h
  happens_sized (Chooses choice) e = subst (λ (v : World T). AllSized size v.row) (sym e) h
