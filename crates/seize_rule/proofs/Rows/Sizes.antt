-- A settling keeps the batch size that it began with.
use Rattle.std.specs.Prelude.{Option, Some, None, Ok, Err, if◌then◌else◌, nat_lt, ◌==◌, ◌+◌, ◌%◌, ◌^◌}
use Rattle.std.proofs.Common.{◌≡◌, ℕ, Bool, true, false, refl, ap, ◌∙◌}
use Rattle.seize_moves.specs.Given.SeizeWordsOp.{Out, Found, Stored, Exchanged, Made, Taken, Roomed}
use Rattle.seize_moves.specs.Given.SeizeWordsMem.{Mem, Took, value_at}
use Rattle.seize_moves.specs.Given.SeizeWordsPlan.{Plan, Then, Turn, Do, Now, Seeing, Sure, Steps, Ends}
use Rattle.seize_moves.specs.Given.SeizeDeclared.states.TheConstants.{HELD, NEVER, ACTIVE}
use Rattle.seize_moves.specs.Given.SeizeDeclared.rows.settle.Settle.{Settle}
use Rattle.seize_moves.specs.Given.SeizeDeclared.rows.settle.Settling.{Settling}
use Rattle.seize_moves.specs.Given.SeizeDeclared.rows.settle.Settling.TheVariants as at
use Rattle.seize_moves.specs.Given.SeizeDeclared.rows.settle.Settled.{Settled}
use Rattle.seize_moves.specs.Given.SeizeDeclared.rows.settle.Settled.TheVariants.{Waits}
use Rattle.seize_moves.specs.Given.SeizeDeclared.rows.leave.Leaving.{Leaving}
use Rattle.seize_moves.specs.Given.SeizeDeclared.rows.leave.Leaving.TheVariants as leaving
use Rattle.seize_moves.specs.Given.SeizeSettle as plans
use Rattle.seize_moves.specs.Given.SeizeWorld.{Row, Settles, Leaves, with_at}

abbrev pub LeaveSized : ℕ → Leaving → Type 0
LeaveSized size (leaving.Settles settle) = settle.batch_size ≡ size
LeaveSized size _ = Unit {0}

-- the row's batches are tried from this length on
abbrev pub Sized : ℕ → Row → Type 0
Sized size (Settles c) = c.batch_size ≡ size
Sized size (Leaves c) = (c.batch_size ≡ size) × LeaveSized size c.stands
Sized size _ = Unit {0}

abbrev pub AllSized : ℕ → (ℕ → Row) → Type 0
AllSized size row = (i : ℕ) → Sized size (row i)

pub sized_at : (size i : ℕ) (rows : ℕ → Row) (row : Row) → AllSized size rows → Sized size row → AllSized size (with_at rows i row)
sized_at size i rows row h a j = by (j == i)
  where
    by : (t : Bool) → Sized size (if t then row else rows j)
    by true = a
    by false = h j

with_batch_size : (c : Settle) → (plans.with_batch c).batch_size ≡ c.batch_size
with_batch_size c = by c.held c.flushing (c.last == 0)
  where
    by : (h f l : Bool) → (if h then (if f then (if l then record c { flushing = false; stands = at.Gives } else record c { flushing = false; stands = at.Firsts 0 }) else plans.standing c at.Pops) else plans.standing c at.Sees).batch_size ≡ c.batch_size
    by true true true = refl
    by true true false = refl
    by true false l = refl
    by false f l = refl

onward_size : (c : Settle) → (plans.onward c).batch_size ≡ c.batch_size
onward_size c = by (c.reclaiming == 0) (c.pending == 0) c.flushing (nat_lt ACTIVE c.list) c.held
  where
    by : (r p f l h : Bool) → (if r then (if p then (if f then plans.with_batch c else (if l then plans.standing c at.Lists else (if h then plans.standing c at.Gives else plans.standing c at.Over))) else plans.with_batch c) else plans.standing c at.Nexts).batch_size ≡ c.batch_size
    by true true true l h = with_batch_size c
    by true true false true h = refl
    by true true false false true = refl
    by true true false false false = refl
    by true false f l h = with_batch_size c
    by false p f l h = refl

without_size : (c : Settle) (next : ℕ) → (plans.without_block c next).batch_size ≡ c.batch_size
without_size c next = by (next == 0) (c.put_first == 0) (c.pending == 0)
  where
    by : (a p q : Bool) → (if a then (if p then plans.onward (record c { reclaiming = next }) else (if q then plans.with_put (record c { reclaiming = next }) else record c { reclaiming = next; stands = at.Puts })) else plans.onward (record c { reclaiming = next })).batch_size ≡ c.batch_size
    by true true q = onward_size (record c { reclaiming = next })
    by true false true = onward_size (record c { reclaiming = next; pending = c.put_first; put_first = 0; put_last = 0 })
    by true false false = refl
    by false p q = onward_size (record c { reclaiming = next })

closed_size : (c : Settle) (marks : ℕ) → (plans.closed c marks).batch_size ≡ c.batch_size
closed_size c marks = by (marks == 0)
  where
    by : (a : Bool) → (if a then record c { last = 0; stands = at.Sums 0 } else record c { last = 0; stands = at.Reads c.first marks 0 }).batch_size ≡ c.batch_size
    by true = refl
    by false = refl

module _ {T : Type 0} where
  -- all ends have this batch size
  abbrev AllOf : ℕ → Then T (Settle × Settled T) → Type 0
  AllOf k (Now r) = r.0.batch_size ≡ k
  AllOf k (Seeing block rest) = (v : T) → AllOf k (rest v)
  AllOf k (Sure fact rest) = AllOf k rest

  ends_of : (k : ℕ) (shown : ℕ → Option T) (rest : Then T (Settle × Settled T)) (end : Settle × Settled T) → Ends shown rest end → AllOf k rest → end.0.batch_size ≡ k
  ends_of k shown (Now r) end h a = ap (λ (q : Settle × Settled T). q.0.batch_size) h ∙ a
  ends_of k shown (Seeing block rest) end h a = ends_of k shown (rest h.0) end h.2 (a h.0)
  ends_of k shown (Sure fact rest) end h a = ends_of k shown rest end h a

  either : (k : ℕ) (t : Bool) (a b : Then T (Settle × Settled T)) → AllOf k a → AllOf k b → AllOf k (if t then a else b)
  either k true a b p q = p
  either k false a b p q = q

  drained_first_of : (c : Settle) (next : ℕ) (v : T) (o : Option ℕ) → AllOf c.batch_size (plans.drained_first {T = T} c next o)
  drained_first_of c next v (Some word) = refl
  drained_first_of c next v None = refl

  seen_of : (c : Settle) (out : Out T) → AllOf c.batch_size (plans.seen c out)
  seen_of c (Found w) = either c.batch_size (w == HELD) (Now (c, Waits)) (plans.to (record c { last = w; stands = at.Holds })) (refl) (refl)
  seen_of c Stored = refl
  seen_of c (Exchanged (Ok w)) = refl
  seen_of c (Exchanged (Err w)) = refl
  seen_of c (Made r) = refl
  seen_of c (Taken x) = refl
  seen_of c (Roomed r) = refl

  taken_hold_of : (c : Settle) (out : Out T) → AllOf c.batch_size (plans.taken_hold c out)
  taken_hold_of c (Found w) = refl
  taken_hold_of c Stored = refl
  taken_hold_of c (Exchanged (Ok w)) = onward_size (record c { held = true })
  taken_hold_of c (Exchanged (Err w)) = refl
  taken_hold_of c (Made r) = refl
  taken_hold_of c (Taken x) = refl
  taken_hold_of c (Roomed r) = refl

  popped_of : (c : Settle) (out : Out T) → AllOf c.batch_size (plans.popped c out)
  popped_of c (Found w) = either c.batch_size (c.last == 0) (plans.to (record c { pending = w; first = c.pending; stands = at.Batches c.pending })) (plans.to (record c { pending = w; stands = at.Firsts c.pending })) (refl) (refl)
  popped_of c Stored = refl
  popped_of c (Exchanged (Ok w)) = refl
  popped_of c (Exchanged (Err w)) = refl
  popped_of c (Made r) = refl
  popped_of c (Taken x) = refl
  popped_of c (Roomed r) = refl

  first_read_of : (c : Settle) (block : ℕ) (out : Out T) → AllOf c.batch_size (plans.first_read c block out)
  first_read_of c block (Found w) = either c.batch_size (block == 0) (plans.to (plans.scanning (record c { first = w }))) (plans.to (record c { first = w; stands = at.Batches block })) (refl) (refl)
  first_read_of c block Stored = refl
  first_read_of c block (Exchanged (Ok w)) = refl
  first_read_of c block (Exchanged (Err w)) = refl
  first_read_of c block (Made r) = refl
  first_read_of c block (Taken x) = refl
  first_read_of c block (Roomed r) = refl

  counted_of : (c : Settle) (block : ℕ) (out : Out T) → AllOf c.batch_size (plans.counted c block out)
  counted_of c block (Found w) = either c.batch_size (nat_lt ((w + 1) % 2 ^ 64) c.batch_size) (plans.to (plans.onward (record c { last = block }))) (plans.to (plans.scanning (record c { last = block }))) (onward_size (record c { last = block })) (refl)
  counted_of c block Stored = refl
  counted_of c block (Exchanged (Ok w)) = refl
  counted_of c block (Exchanged (Err w)) = refl
  counted_of c block (Made r) = refl
  counted_of c block (Taken x) = refl
  counted_of c block (Roomed r) = refl

  scanned_of : (c : Settle) (slot block marks : ℕ) (out : Out T) → AllOf c.batch_size (plans.scanned c slot block marks out)
  scanned_of c slot block marks (Found w) = either c.batch_size (w == NEVER) (plans.goes c (at.Closes marks)) (if nat_lt w ACTIVE then plans.goes c (plans.behind slot block marks) else (if block == 0 then plans.to (plans.onward c) else plans.goes c (at.Marks slot block marks))) (refl) (either c.batch_size (nat_lt w ACTIVE) (plans.goes c (plans.behind slot block marks)) (if block == 0 then plans.to (plans.onward c) else plans.goes c (at.Marks slot block marks)) (refl) (either c.batch_size (block == 0) (plans.to (plans.onward c)) (plans.goes c (at.Marks slot block marks)) (onward_size c) (refl)))
  scanned_of c slot block marks Stored = refl
  scanned_of c slot block marks (Exchanged (Ok w)) = refl
  scanned_of c slot block marks (Exchanged (Err w)) = refl
  scanned_of c slot block marks (Made r) = refl
  scanned_of c slot block marks (Taken x) = refl
  scanned_of c slot block marks (Roomed r) = refl

  marked_next_of : (c : Settle) (slot marks : ℕ) (out : Out T) → AllOf c.batch_size (plans.marked_next c slot marks out)
  marked_next_of c slot marks (Found w) = refl
  marked_next_of c slot marks Stored = refl
  marked_next_of c slot marks (Exchanged (Ok w)) = refl
  marked_next_of c slot marks (Exchanged (Err w)) = refl
  marked_next_of c slot marks (Made r) = refl
  marked_next_of c slot marks (Taken x) = refl
  marked_next_of c slot marks (Roomed r) = refl

  slot_read_of : (c : Settle) (block left pushed : ℕ) (out : Out T) → AllOf c.batch_size (plans.slot_read c block left pushed out)
  slot_read_of c block left pushed (Found w) = refl
  slot_read_of c block left pushed Stored = refl
  slot_read_of c block left pushed (Exchanged (Ok w)) = refl
  slot_read_of c block left pushed (Exchanged (Err w)) = refl
  slot_read_of c block left pushed (Made r) = refl
  slot_read_of c block left pushed (Taken x) = refl
  slot_read_of c block left pushed (Roomed r) = refl

  push_told_of : (c : Settle) (block left pushed slot : ℕ) (out : Out T) → AllOf c.batch_size (plans.after_push c block left pushed slot out)
  push_told_of c block left pushed slot (Found w) = refl
  push_told_of c block left pushed slot Stored = refl
  push_told_of c block left pushed slot (Exchanged (Ok w)) = refl
  push_told_of c block left pushed slot (Exchanged (Err w)) = either c.batch_size (plans.needs_none c w) (plans.goes c (plans.pushed_of block left pushed)) (plans.to (record c { lost = c.lost + 1; stands = at.Links block left pushed slot w })) (refl) (refl)
  push_told_of c block left pushed slot (Made r) = refl
  push_told_of c block left pushed slot (Taken x) = refl
  push_told_of c block left pushed slot (Roomed r) = refl

  next_pushed_of : (c : Settle) (left pushed : ℕ) (out : Out T) → AllOf c.batch_size (plans.next_pushed c left pushed out)
  next_pushed_of c left pushed (Found w) = refl
  next_pushed_of c left pushed Stored = refl
  next_pushed_of c left pushed (Exchanged (Ok w)) = refl
  next_pushed_of c left pushed (Exchanged (Err w)) = refl
  next_pushed_of c left pushed (Made r) = refl
  next_pushed_of c left pushed (Taken x) = refl
  next_pushed_of c left pushed (Roomed r) = refl

  summed_of : (c : Settle) (pushed : ℕ) (out : Out T) → AllOf c.batch_size (plans.summed c pushed out)
  summed_of c pushed (Found w) = either c.batch_size ((w + pushed) % 2 ^ 64 == 0) (plans.to (plans.onward (record c { reclaiming = c.first; first = 0 }))) (plans.to (plans.onward (record c { first = 0 }))) (onward_size (record c { reclaiming = c.first; first = 0 })) (onward_size (record c { first = 0 }))
  summed_of c pushed Stored = refl
  summed_of c pushed (Exchanged (Ok w)) = refl
  summed_of c pushed (Exchanged (Err w)) = refl
  summed_of c pushed (Made r) = refl
  summed_of c pushed (Taken x) = refl
  summed_of c pushed (Roomed r) = refl

  next_read_of : (defers : T → Option ℕ) (c : Settle) (out : Out T) → AllOf c.batch_size (plans.next_read defers c out)
  next_read_of defers c (Found w) = λ v. drained_first_of c w v (defers v)
  next_read_of defers c Stored = refl
  next_read_of defers c (Exchanged (Ok w)) = refl
  next_read_of defers c (Exchanged (Err w)) = refl
  next_read_of defers c (Made r) = refl
  next_read_of defers c (Taken x) = refl
  next_read_of defers c (Roomed r) = refl

  drained_of : (c : Settle) (next : ℕ) (out : Out T) → AllOf c.batch_size (plans.drained c next out)
  drained_of c next (Found w) = either c.batch_size (w == 0) (plans.goes c (at.Takes next)) (if c.put_first == 0 then plans.to (record c { put_first = w; put_last = w; stands = at.Tails next }) else plans.goes c (at.Joins next w)) (refl) (either c.batch_size (c.put_first == 0) (plans.to (record c { put_first = w; put_last = w; stands = at.Tails next })) (plans.goes c (at.Joins next w)) (refl) (refl))
  drained_of c next Stored = refl
  drained_of c next (Exchanged (Ok w)) = refl
  drained_of c next (Exchanged (Err w)) = refl
  drained_of c next (Made r) = refl
  drained_of c next (Taken x) = refl
  drained_of c next (Roomed r) = refl

  tail_read_of : (c : Settle) (next : ℕ) (out : Out T) → AllOf c.batch_size (plans.tail_read c next out)
  tail_read_of c next (Found w) = either c.batch_size (w == 0) (plans.goes c (at.Takes next)) (plans.to (record c { put_last = w; stands = at.Tails next })) (refl) (refl)
  tail_read_of c next Stored = refl
  tail_read_of c next (Exchanged (Ok w)) = refl
  tail_read_of c next (Exchanged (Err w)) = refl
  tail_read_of c next (Made r) = refl
  tail_read_of c next (Taken x) = refl
  tail_read_of c next (Roomed r) = refl

  given_back_of : (c : Settle) (next : ℕ) (out : Out T) → AllOf c.batch_size (plans.given_back c next out)
  given_back_of c next (Found w) = refl
  given_back_of c next Stored = refl
  given_back_of c next (Exchanged (Ok w)) = refl
  given_back_of c next (Exchanged (Err w)) = refl
  given_back_of c next (Made r) = refl
  given_back_of c next (Taken x) = without_size c next
  given_back_of c next (Roomed r) = refl

  entry_read_of : (c : Settle) (out : Out T) → AllOf c.batch_size (plans.entry_read c out)
  entry_read_of c (Found w) = refl
  entry_read_of c Stored = refl
  entry_read_of c (Exchanged (Ok w)) = refl
  entry_read_of c (Exchanged (Err w)) = refl
  entry_read_of c (Made r) = refl
  entry_read_of c (Taken x) = refl
  entry_read_of c (Roomed r) = refl

  batch_read_of : (c : Settle) (next : ℕ) (out : Out T) → AllOf c.batch_size (plans.batch_read c next out)
  batch_read_of c next (Found w) = refl
  batch_read_of c next Stored = refl
  batch_read_of c next (Exchanged (Ok w)) = refl
  batch_read_of c next (Exchanged (Err w)) = refl
  batch_read_of c next (Made r) = refl
  batch_read_of c next (Taken x) = refl
  batch_read_of c next (Roomed r) = refl

  counted_down_of : (c : Settle) (next batch : ℕ) (out : Out T) → AllOf c.batch_size (plans.counted_down c next batch out)
  counted_down_of c next batch (Found w) = either c.batch_size (w == 1) (plans.to (plans.onward (record c { list = next; reclaiming = batch }))) (plans.to (plans.onward (record c { list = next }))) (onward_size (record c { list = next; reclaiming = batch })) (onward_size (record c { list = next }))
  counted_down_of c next batch Stored = refl
  counted_down_of c next batch (Exchanged (Ok w)) = refl
  counted_down_of c next batch (Exchanged (Err w)) = refl
  counted_down_of c next batch (Made r) = refl
  counted_down_of c next batch (Taken x) = refl
  counted_down_of c next batch (Roomed r) = refl

  abbrev PlanOf : ℕ → Plan T (Settle × Settled T) → Type 0
  PlanOf k (Turn rest) = AllOf k rest
  PlanOf k (Do op rest) = (out : Out T) → AllOf k (rest out)

  steps_of : (k : ℕ) (mem mem2 : Mem T) (plan : Plan T (Settle × Settled T)) (end : Settle × Settled T) → Steps Took value_at mem plan mem2 end → PlanOf k plan → end.0.batch_size ≡ k
  steps_of k mem mem2 (Turn rest) end s a = ends_of k (value_at mem2) rest end s.1 a
  steps_of k mem mem2 (Do op rest) end s a = ends_of k (value_at mem2) (rest s.0) end s.2 (a s.0)

  plan_of : (defers : T → Option ℕ) (c : Settle) (p : Settling) → PlanOf c.batch_size (plans.plan_at defers c p)
  plan_of defers c at.Sees = λ out. seen_of c out
  plan_of defers c at.Holds = λ out. taken_hold_of c out
  plan_of defers c at.Pops = λ out. popped_of c out
  plan_of defers c (at.Firsts block) = λ out. first_read_of c block out
  plan_of defers c (at.Batches block) = λ out. refl
  plan_of defers c (at.Ends block) = λ out. refl
  plan_of defers c (at.Appends block) = λ out. refl
  plan_of defers c (at.Counts block) = λ out. counted_of c block out
  plan_of defers c (at.Scans slot block marks) = λ out. scanned_of c slot block marks out
  plan_of defers c (at.Marks slot block marks) = λ out. refl
  plan_of defers c (at.Marked slot block marks) = λ out. marked_next_of c slot marks out
  plan_of defers c (at.Closes marks) = λ out. closed_size c marks
  plan_of defers c (at.Reads block left pushed) = λ out. slot_read_of c block left pushed out
  plan_of defers c (at.Links block left pushed slot head) = λ out. refl
  plan_of defers c (at.Pushes block left pushed slot head) = λ out. push_told_of c block left pushed slot out
  plan_of defers c (at.Pushed block left pushed) = λ out. next_pushed_of c left pushed out
  plan_of defers c (at.Sums pushed) = λ out. summed_of c pushed out
  plan_of defers c at.Nexts = λ out. next_read_of defers c out
  plan_of defers c (at.Drains next word) = λ out. drained_of c next out
  plan_of defers c (at.Joins next more) = λ out. refl
  plan_of defers c (at.Tails next) = λ out. tail_read_of c next out
  plan_of defers c (at.Takes next) = λ out. given_back_of c next out
  plan_of defers c at.Puts = λ out. onward_size (record c { pending = c.put_first; put_first = 0; put_last = 0 })
  plan_of defers c at.Lists = λ out. entry_read_of c out
  plan_of defers c (at.Owns next) = λ out. batch_read_of c next out
  plan_of defers c (at.Downs next batch) = λ out. counted_down_of c next batch out
  plan_of defers c at.Gives = λ out. refl
  plan_of defers c at.Over = refl

  pub same_size : (defers : T → Option ℕ) (mem mem2 : Mem T) (c : Settle) (end : Settle × Settled T) (p : Settling) → Steps Took value_at mem (plans.plan_at defers c p) mem2 end
      → end.0.batch_size ≡ c.batch_size
  same_size defers mem mem2 c end p s = steps_of c.batch_size mem mem2 (plans.plan_at defers c p) end s (plan_of defers c p)
