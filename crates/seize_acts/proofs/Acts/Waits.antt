-- A row waits only while another one has its slot's batch in hand.
use Rattle.std.specs.Prelude.{Option, Some, None, Ok, Err, if◌then◌else◌, nat_lt}
use Rattle.std.proofs.Common.{◌≡◌, ℕ, ◌+◌, ◌<◌, Bool, true, false, cond, eqb, length, refl, arith, ap, sym, subst, ◌∙◌, ◌⊎◌, inl, inr}
use Rattle.std.proofs.lemmas.Bool.{ne_eqb}
use Rattle.seize_words.specs.OneMemory.Mem.{Mem, Took, value_at, with_word}
use Rattle.seize_words.specs.OneMemory.Op.{Out, Found, Exchanged, Roomed}
use Rattle.seize_words.specs.declared.at.At.TheVariants.{Slot}
use Rattle.seize_words.specs.OneMemory.Plan.{Steps, Ends, Now}
use Rattle.seize_words.specs.declared.fault.Fault.TheVariants.{SlotsUsedUp}
use Rattle.seize_words.proofs.OneMemory.OneOwner.Operations.{stored, swapped}
use Rattle.seize.specs.declared.states.TheConstants.{HEAD, BATCH, ACTIVE, FREE, HELD, LAST_SLOT}
use Rattle.seize.specs.declared.advance.Advance.{Advance}
use Rattle.seize.specs.declared.advance.Advance.TheVariants as progress
use Rattle.seize.specs.declared.rows.settle.Settle.{Settle}
use Rattle.seize.specs.declared.rows.settle.Settling.{Settling}
use Rattle.seize.specs.declared.rows.settle.Settling.TheVariants as at
use Rattle.seize.specs.declared.rows.settle.Settled.{Settled}
use Rattle.seize.specs.declared.rows.settle.Settled.TheVariants as settled
use Rattle.seize.specs.declared.rows.leave.Leave.{Leave}
use Rattle.seize.specs.declared.rows.leave.Leaving.{Leaving}
use Rattle.seize.specs.declared.rows.leave.Leaving.TheVariants as leaving
use Rattle.seize.specs.declared.rows.defer.Defer.{Defer}
use Rattle.seize.specs.declared.rows.defer.Deferring.{Deferring}
use Rattle.seize.specs.declared.rows.defer.Deferring.TheVariants as deferring
use Rattle.seize.specs.declared.rows.register.Register.{Register}
use Rattle.seize.specs.declared.rows.register.Registering.{Registering}
use Rattle.seize.specs.declared.rows.register.Registering.TheVariants as registering
use Rattle.seize.specs.Settle.{settle_plan, counting_down}
use Rattle.seize.specs.Leave as leave
use Rattle.seize.specs.Leave.{leave_plan}
use Rattle.seize.specs.Defer as defer
use Rattle.seize.specs.Register as registers
use Rattle.seize.specs.Enter.{enter_plan, unregister_plan}
use Rattle.seize.specs.World.{World, Row, Rests, Registers, Enters, Settles, Leaves, Defers, Frees, at_start}
use Rattle.seize_model.proofs.Given.SeizeMovesState.Ghost.{State}
use Rattle.seize_model.proofs.Given.SeizeMemoryWords.Chains.{last_of}
use Rattle.seize_model.proofs.Given.SeizeMemoryWords.Named.{link, words_of}
use Rattle.seize_model.proofs.Given.SeizeMemoryWords.View.{View, view}
use Rattle.seize_model.proofs.Given.SeizeMemoryWords.Shows.{Extra, batch_word}
use Rattle.seize_model.proofs.Given.SeizeRulePoints.Known.{FitsAt, Fits, FirstsOf, MayHold, bare}
use Rattle.seize_model.proofs.Given.SeizeRuleRows.Known.{FitsRow, FitsLeave}
use Rattle.seize_model.proofs.Given.SeizeRuleRows.Leaving.{steps_back}
use Rattle.seize_model.proofs.Given.SeizeRuleWorld.Good.{Good}
use Rattle.seize_model.proofs.Given.SeizeRuleWorld.Start.{start_good}
use Rattle.seize_model.proofs.Given.SeizeRuleWorld.Kept.{runs_good}
use Rattle.seize_model.specs.Ends.Holders.{settle_has, leaving_has, has_batch}
use Rattle.seize_model.proofs.Ends.Batches.Free.{Outcomes, PlanOutcomes, plan_outcome}
use Rattle.seize_model.proofs.Ends.Batches.Held.{waits_held}
use Rattle.seize_model.proofs.Ends.Batches.Rows.{HeldByRows, has_on, runs_held, start_held}
use Rattle.seize_acts.specs.Acts.Answers.{Grant}
use Rattle.seize_acts.specs.Acts.Waits.{SettlesOn, Waits, AnotherHas, RowsWaitForAHolder, SettlingWaitsForAHolder, DeferringNeverWaits}
use Rattle.seize_acts.proofs.Acts.Answers.{was_stepped}
use Rattle.seize_acts.proofs.Acts.Fine.{all_fine}

-- Who has a batch in hand is its holder, of whom there is one.

holding : (i : ℕ) (m : State) (x : Extra) (c : Settle) (t : Bool) → t ≡ true → MayHold t i m x c → m.holder c.slot ≡ i + 1
holding i m x c true e h = h.holder
holding i m x c false e h = absurd (cc e)

module _ (n i : ℕ) (f : View) (m : State) (x : Extra) (c : Settle) (held : c.held ≡ true) where
  no_holder : c.held ≡ false → m.holder c.slot ≡ i + 1
  no_holder e = absurd (cc (e, held))

  first_holder : (block : ℕ) (t : Bool) → FirstsOf t n i m x c block → m.holder c.slot ≡ i + 1
  first_holder block true r = holding i m x c c.held held r.retiring.rest.batch
  first_holder block false r = r.putting.batch.holder

  is_holder : (p : Settling) → FitsAt n i f m x c p → m.holder c.slot ≡ i + 1
  is_holder at.Sees r = no_holder r.retiring.holds
  is_holder at.Holds r = no_holder r.retiring.holds
  is_holder at.Pops r = holding i m x c c.held held r.retiring.rest.batch
  is_holder (at.Firsts block) r = first_holder block (eqb block 0) r
  is_holder (at.Batches block) r = r.putting.batch.holder
  is_holder (at.Ends block) r = r.batches.putting.batch.holder
  is_holder (at.Appends block) r = r.ends.batches.putting.batch.holder
  is_holder (at.Counts block) r = r.putting.batch.holder
  is_holder (at.Scans slot block marks) r = r.tries.batch.holder
  is_holder (at.Marks slot block marks) r = r.tries.batch.holder
  is_holder (at.Marked slot block marks) r = r.tries.batch.holder
  is_holder (at.Closes marks) r = r.tries.batch.holder
  is_holder (at.Reads block left pushed) r = r.shuts.batch.holder
  is_holder (at.Links block left pushed slot head) r = r.reads.shuts.batch.holder
  is_holder (at.Pushes block left pushed slot head) r = r.links.reads.shuts.batch.holder
  is_holder (at.Pushed block left pushed) r = r.shuts.batch.holder
  is_holder (at.Sums pushed) r = r.shuts.batch.holder
  is_holder at.Nexts r = holding i m x c c.held held r.rest.batch
  is_holder (at.Drains next word) r = holding i m x c c.held held r.backs.batch
  is_holder (at.Joins next more) r = holding i m x c c.held held r.drains.backs.batch
  is_holder (at.Tails next) r = holding i m x c c.held held r.backs.batch
  is_holder (at.Takes next) r = holding i m x c c.held held r.backs.batch
  is_holder at.Puts r = holding i m x c c.held held r.batch
  is_holder at.Lists r = holding i m x c c.held held r.rest.batch
  is_holder (at.Owns next) r = holding i m x c c.held held r.lists.rest.batch
  is_holder (at.Downs next batch) r = holding i m x c c.held held r.owns.lists.rest.batch
  is_holder at.Gives r = holding i m x c c.held held r.rest.batch
  is_holder at.Over r = holding i m x c c.held held r.rest.batch

-- Rows that never wait.

abbrev IsNoWait : {A : Type 0} → Advance A → Type 0
IsNoWait progress.Waits = ⊥
IsNoWait _ = Unit {0}

abbrev NoWait : {S A : Type 0} → S × Advance A → Type 0
NoWait e = IsNoWait e.1

further_goes : (c : Register) → NoWait (registers.further c)
further_goes c = by (nat_lt c.slot LAST_SLOT)
  where
    by : (t : Bool) → NoWait (if t then registers.going (record c { slot = c.slot + 1 }) registering.Look else registers.refused c SlotsUsedUp)
    by true = tt
    by false = tt

taking_goes : (c : Register) (seen : ℕ) (o : Option ℕ) → NoWait (registers.taking c seen o)
taking_goes c seen None = tt
taking_goes c seen (Some bucket) = tt

module _ (T : Type 0) where
  begun_goes : (c : Register) (out : Out T) → Outcomes NoWait (registers.begun c out)
  begun_goes c (Roomed (Ok made)) = tt
  begun_goes c (Roomed (Err fault)) = tt
  begun_goes c _ = tt

  looked_goes : (c : Register) (out : Out T) → Outcomes NoWait (registers.looked c out)
  looked_goes c (Found head) = by (registers.can_be_taken head)
    where
      by : (t : Bool) → NoWait (if t then registers.taking c head (registers.bucket_needed c.slot) else registers.further c)
      by true = taking_goes c head (registers.bucket_needed c.slot)
      by false = further_goes c
  looked_goes c _ = tt

  widened_goes : (c : Register) (seen : ℕ) (out : Out T) → Outcomes NoWait (registers.widened c seen out)
  widened_goes c seen (Roomed (Ok made)) = tt
  widened_goes c seen (Roomed (Err fault)) = tt
  widened_goes c seen _ = tt

  taken_goes : (c : Register) (out : Out T) → Outcomes NoWait (registers.taken c out)
  taken_goes c (Exchanged (Ok found)) = by c.enters
    where
      by : (t : Bool) → NoWait (if t then registers.going c registering.Enter else registers.registered c)
      by true = tt
      by false = tt
  taken_goes c (Exchanged (Err found)) = further_goes c
  taken_goes c _ = tt

  register_goes : (c : Register) (p : Registering) → PlanOutcomes {T = T} NoWait (registers.plan_at c p)
  register_goes c registering.Begin = begun_goes c
  register_goes c registering.Look = looked_goes c
  register_goes c (registering.Widen bucket seen) = widened_goes c seen
  register_goes c (registering.Take seen) = taken_goes c
  register_goes c registering.Enter = λ out. tt
  register_goes c registering.Registered = tt
  register_goes c (registering.Refused fault) = tt

  head_goes : (c : Defer) (out : Out T) → Outcomes NoWait (defer.head_read c out)
  head_goes c (Found head) = tt
  head_goes c _ = tt

  push_goes : (c : Defer) (out : Out T) → Outcomes NoWait (defer.after_push c out)
  push_goes c (Exchanged (Ok found)) = tt
  push_goes c (Exchanged (Err head)) = tt
  push_goes c _ = tt

  defer_goes : (c : Defer) (p : Deferring) → PlanOutcomes {T = T} NoWait (defer.plan_at c p)
  defer_goes c deferring.Reads = head_goes c
  defer_goes c (deferring.Links head) = λ out. tt
  defer_goes c (deferring.Pushes head) = push_goes c
  defer_goes c deferring.Over = tt

-- a leaving row waits within its settling, and nowhere else
module _ {T : Type 0} (defers : T → Option ℕ) (c d : Leave) (mem m : Mem T) where
  abbrev pub WaitsWithin : Leaving → Type 0
  WaitsWithin p = (settle s2 : Settle) × (p ≡ leaving.Settles settle) × Steps Took value_at mem (settle_plan defers settle) m (s2, settled.Waits) × (d ≡ leave.standing c (leaving.Settles s2))

  no_wait : (e : Leave × Settled T) → e.1 ≡ settled.Waits → e.1 ≡ settled.Goes → ⊥
  no_wait e a b = cc (a, b)

  abbrev end : Leave × Settled T
  end = (d, settled.Waits)

  pub leave_waits : (p : Leaving) → Steps Took value_at mem (leave.plan_at defers c p) m (d, settled.Waits) → WaitsWithin p
  leave_waits leaving.Swaps st = let k = swapped mem (leave.list_taken c) (Slot c.slot HEAD) c.becomes m (d, settled.Waits) st in absurd (one k.0 (nat_lt ACTIVE k.0) k.3)
    where
      one : (head : ℕ) (t : Bool)
          → Ends (value_at (with_word mem (Slot c.slot HEAD) c.becomes)) (if t then Now (leave.standing c (leaving.Settles (counting_down c.slot c.batch_size head)), settled.Goes) else Now (leave.counted_down c, settled.Goes)) end → ⊥
      one head true q = no_wait (d, settled.Waits) refl (ap (λ (z : Leave × Settled T). z.1) q)
      one head false q = no_wait (d, settled.Waits) refl (ap (λ (z : Leave × Settled T). z.1) q)
  leave_waits (leaving.Settles settle) st = let b = steps_back (leave.settled c) mem m (settle_plan defers settle) (d, settled.Waits) st in inner b.0.0 b.0.1 b.1 b.2
    where
      inner : (s2 : Settle) (o : Settled T) → Steps Took value_at mem (settle_plan defers settle) m (s2, o) → (d, settled.Waits) ≡ leave.settled c (s2, o) → WaitsWithin (leaving.Settles settle)
      inner s2 settled.Goes st q = absurd (no_wait (d, settled.Waits) refl (ap (λ (z : Leave × Settled T). z.1) q))
      inner s2 (settled.Gave value) st q = absurd (let z = ap (λ (z : Leave × Settled T). z.1) q in cc z)
      inner s2 settled.Done st q = absurd (no_wait (d, settled.Waits) refl (ap (λ (z : Leave × Settled T). z.1) q))
      inner s2 settled.Waits st q = (settle, s2, refl, st, ap (λ (z : Leave × Settled T). z.0) q)
  leave_waits leaving.Frees st =
      let k = stored {R = Leave × Settled T} mem (λ out. Now (leave.standing c leaving.Over, settled.Goes)) (Slot c.slot HEAD) FREE m (d, settled.Waits) st in
      absurd (no_wait (d, settled.Waits) refl (ap (λ (z : Leave × Settled T). z.1) k.1))
  leave_waits leaving.Over st = absurd (let z = ap (λ (z : Leave × Settled T). z.1) st.1 in cc z)

module _ {T : Type 0} {size : ℕ} (defers : T → Option ℕ) (w : World T) (good : Good defers (LAST_SLOT + 1) size w) (held : HeldByRows w) where
  fits_at : (i : ℕ) (row : Row) → w.row i ≡ row → FitsRow (LAST_SLOT + 1) i (view defers w.memory) good.state good.extra (length w.memory.slots) row
  fits_at i row is = subst (λ (r : Row). FitsRow (LAST_SLOT + 1) i (view defers w.memory) good.state good.extra (length w.memory.slots) r) is (good.rows i)

  settles_in : (i : ℕ) (c : Leave) (settle : Settle) → w.row i ≡ Leaves c → c.stands ≡ leaving.Settles settle
      → (settle.slot ≡ c.slot) × Fits (LAST_SLOT + 1) i (view defers w.memory) good.state good.extra settle
  settles_in i c settle is stands =
      let f = subst (λ (q : Leaving). FitsLeave (LAST_SLOT + 1) i (view defers w.memory) good.state good.extra c.slot c.becomes c.frees q) stands (fits_at i (Leaves c) is) in
      (f.slot_is, f.settles)

  settle_holds : (i s : ℕ) (c : Settle) → Fits (LAST_SLOT + 1) i (view defers w.memory) good.state good.extra c → settle_has s c ≡ true → good.state.holder s ≡ i + 1
  settle_holds i s c r has =
      let k = has_on s c has in
      ap good.state.holder k.0 ∙ is_holder (LAST_SLOT + 1) i (view defers w.memory) good.state good.extra (bare c) k.1 c.stands r

  holds : (i s : ℕ) (row : Row) → w.row i ≡ row → has_batch s row ≡ true → good.state.holder s ≡ i + 1
  holds i s Rests is has = absurd (cc has)
  holds i s (Registers c) is has = absurd (cc has)
  holds i s (Enters c) is has = absurd (cc has)
  holds i s (Settles c) is has = settle_holds i s c (fits_at i (Settles c) is) has
  holds i s (Leaves c) is has = by c.stands refl has
    where
      by : (p : Leaving) → c.stands ≡ p → leaving_has s p ≡ true → good.state.holder s ≡ i + 1
      by leaving.Swaps e h = absurd (cc h)
      by (leaving.Settles settle) e h = settle_holds i s settle (settles_in i c settle is e).1 h
      by leaving.Frees e h = absurd (cc h)
      by leaving.Over e h = absurd (cc h)
  holds i s (Defers t c) is has = absurd (cc has)
  holds i s (Frees c) is has = absurd (cc has)

  -- its slot's word says so,
  pub held_while : (i s : ℕ) → s < LAST_SLOT + 1 → has_batch s (w.row i) ≡ true → words_of w.memory (Slot s BATCH) ≡ HELD
  held_while i s fits has =
      good.shows.linkage.batched s fits
      ∙ ap (λ (h : ℕ). batch_word h (good.state.blocks (good.state.open_batch s))) (holds i s (w.row i) refl has)
      ∙ ap (λ (b : Bool). cond b (link (last_of (good.state.blocks (good.state.open_batch s)))) 1) (ne_eqb (i + 1) 0 (λ z. omega (arith, z)))

  -- and it settles on that slot
  pub has_its : (i s : ℕ) (row : Row) → w.row i ≡ row → has_batch s row ≡ true → SettlesOn s row
  has_its i s Rests is has = absurd (cc has)
  has_its i s (Registers c) is has = absurd (cc has)
  has_its i s (Enters c) is has = absurd (cc has)
  has_its i s (Settles c) is has = sym (has_on s c has).0
  has_its i s (Leaves c) is has = by c.stands refl has
    where
      by : (p : Leaving) → c.stands ≡ p → leaving_has s p ≡ true → c.slot ≡ s
      by leaving.Swaps e h = absurd (cc h)
      by (leaving.Settles settle) e h = sym (settles_in i c settle is e).0 ∙ sym (has_on s settle h).0
      by leaving.Frees e h = absurd (cc h)
      by leaving.Over e h = absurd (cc h)
  has_its i s (Defers t c) is has = absurd (cc has)
  has_its i s (Frees c) is has = absurd (cc has)

  -- another row has it: this one hasn't
  abbrev pub HasAnother : ℕ → ℕ → Type 0
  HasAnother s i = (j : ℕ) × (has_batch s (w.row j) ≡ true) × (j ≡ i → ⊥) × ((k : ℕ) → has_batch s (w.row k) ≡ true → k ≡ j)

  another : (i s : ℕ) → words_of w.memory (Slot s BATCH) ≡ HELD → (has_batch s (w.row i) ≡ true → ⊥) → HasAnother s i
  another i s h none =
      let k = held s h in (
        k.0,
        k.1,
        (λ e. none (subst (λ (j : ℕ). has_batch s (w.row j) ≡ true) e k.1)),
        (λ j has. one j k.0 (holds j s (w.row j) refl has) (holds k.0 s (w.row k.0) refl k.1)),
      )
    where
      one : (j k : ℕ) → good.state.holder s ≡ j + 1 → good.state.holder s ≡ k + 1 → j ≡ k
      one j k a b = omega (arith, a, b)

  -- a settling row that waits, by itself or within one that leaves
  settle_waits : (i : ℕ) (c d : Settle) (m : Mem T) → Fits (LAST_SLOT + 1) i (view defers w.memory) good.state good.extra c → Steps Took value_at w.memory (settle_plan defers c) m (d, settled.Waits)
      → (words_of w.memory (Slot c.slot BATCH) ≡ HELD) × ((s : ℕ) → settle_has s c ≡ true → ⊥)
  settle_waits i c d m r st =
      let k = waits_held defers w.memory m c d c.stands st in
      let sees = subst (λ (p : Settling). FitsAt (LAST_SLOT + 1) i (view defers w.memory) good.state good.extra (bare c) p) k.1 r in
      (k.0, (λ s has. let a = (has_on s c has).1 in let b = sees.retiring.holds in cc (a, b)))

  -- where it waits, another one has the batch; so it is of one that leaves
  pub settles_wait : (i : ℕ) (c d : Settle) (m : Mem T) → w.row i ≡ Settles c → Steps Took value_at w.memory (settle_plan defers c) m (d, settled.Waits) → HasAnother c.slot i
  settles_wait i c d m is st =
      let k = settle_waits i c d m (fits_at i (Settles c) is) st in
      another i c.slot k.0 (λ has. k.1 c.slot (sym (ap (has_batch c.slot) is) ∙ has))

  pub leaves_wait : (i : ℕ) (c d : Leave) (m : Mem T) → w.row i ≡ Leaves c → Steps Took value_at w.memory (leave_plan defers c) m (d, settled.Waits) → HasAnother c.slot i
  leaves_wait i c d m is st =
      let l = leave_waits defers c d w.memory m c.stands st in
      let f = settles_in i c l.0 is l.2 in
      let k = settle_waits i l.0 l.1 m f.1 l.3 in
      another i c.slot (subst (λ (t : ℕ). words_of w.memory (Slot t BATCH) ≡ HELD) f.0 k.0)
      (λ has. k.1 c.slot (sym (ap (leaving_has c.slot) l.2) ∙ sym (ap (has_batch c.slot) is) ∙ has))

  abbrev pub Found' : ℕ → Row → Type 0
  Found' i row = (s : ℕ) × SettlesOn s row × HasAnother s i

  pub row_waits : (i : ℕ) (g : Grant) (row : Row) → w.row i ≡ row → Waits defers row g w.memory → Found' i row
  row_waits i g Rests is h = absurd h
  row_waits i g (Registers c) is h =
      absurd (plan_outcome NoWait w.memory h.0 (registers.register_plan c) (h.1, progress.Waits) (register_goes T c c.stands) (was_stepped w.memory g (registers.register_plan c) (h.0, (h.1, progress.Waits)) h.2))
  row_waits i g (Enters c) is h =
      absurd (plan_outcome NoWait w.memory h.0 (enter_plan c) (h.1, progress.Waits) (λ out. tt) (was_stepped w.memory g (enter_plan c) (h.0, (h.1, progress.Waits)) h.2))
  row_waits i g (Settles c) is h =
      (c.slot, refl, settles_wait i c h.1 h.0 is (was_stepped w.memory g (settle_plan defers c) (h.0, (h.1, settled.Waits)) h.2))
  row_waits i g (Leaves c) is h =
      (c.slot, refl, leaves_wait i c h.1 h.0 is (was_stepped w.memory g (leave_plan defers c) (h.0, (h.1, settled.Waits)) h.2))
  row_waits i g (Defers s c) is h =
      absurd (plan_outcome NoWait w.memory h.0 (defer.defer_plan c) (h.1, progress.Waits) (defer_goes T c c.stands) (was_stepped w.memory g (defer.defer_plan c) (h.0, (h.1, progress.Waits)) h.2))
  row_waits i g (Frees c) is h =
      absurd (plan_outcome NoWait w.memory h.0 (unregister_plan c) (h.1, progress.Waits) (λ out. tt) (was_stepped w.memory g (unregister_plan c) (h.0, (h.1, progress.Waits)) h.2))

pub rows_wait_for_a_holder : {T : Type 0} (defers : T → Option ℕ) → RowsWaitForAHolder defers
rows_wait_for_a_holder defers size roots acts w did i g h =
    let f = all_fine defers size acts (at_start defers roots) w did in
    let start = start_good defers (LAST_SLOT + 1) size roots in
    let good = runs_good defers (LAST_SLOT + 1) size refl f.0 (at_start defers roots) w start (λ i. tt) f.1 in
    let held = runs_held defers size f.0 (at_start defers roots) w start (λ i. tt) f.1 (start_held defers size roots) in
    let k = row_waits defers w good held i g (w.row i) refl h in
    (k.0, k.2.0, k.1, k.2.1, k.2.2, k.2.3)

pub settling_waits_for_a_holder : {T : Type 0} (defers : T → Option ℕ) → SettlingWaitsForAHolder defers
settling_waits_for_a_holder defers size roots events w runs i c d m row st = by row
  where
    start : Good defers (LAST_SLOT + 1) size (at_start defers roots)
    start = start_good defers (LAST_SLOT + 1) size roots

    good : Good defers (LAST_SLOT + 1) size w
    good = runs_good defers (LAST_SLOT + 1) size refl events (at_start defers roots) w start (λ i. tt) runs

    held : HeldByRows w
    held = runs_held defers size events (at_start defers roots) w start (λ i. tt) runs (start_held defers size roots)

    by : (w.row i ≡ Rests) ⊎ (w.row i ≡ Settles c) → AnotherHas w i c.slot
    by (inl rests) =
        another defers w good held i c.slot (waits_held defers w.memory m c d c.stands st).0 (λ has. let none = ap (has_batch c.slot) rests in cc (none, has))
    by (inr is) = settles_wait defers w good held i c d m is st

pub deferring_never_waits : {T : Type 0} (defers : T → Option ℕ) → DeferringNeverWaits defers
deferring_never_waits {T} defers c d m m2 st = plan_outcome NoWait m m2 (defer.defer_plan c) (d, progress.Waits) (defer_goes T c c.stands) st
