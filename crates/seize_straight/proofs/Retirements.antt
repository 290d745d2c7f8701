-- The steps of a retirement, up to a batch that is full, over any memory.
use Rattle.std.specs.Prelude.{◌≡◌, ◌≢◌, ◌==◌, ℕ, Bool, ◌+◌, ◌%◌, ◌^◌, true, false, if◌then◌else◌, nat_lt, Option, Ok, Err}
use Rattle.std.proofs.Common.{refl, subst}
use Rattle.std.proofs.lemmas.Bool.{ne_eqb, eq-eqb}
use Rattle.seize_words.specs.OneMemory.Op.{Op, Out, Load, Store, Add, Exchange, Found, Stored, Exchanged}
use Rattle.seize_words.specs.OneMemory.Plan.{Ends}
use Rattle.seize_words.specs.OneMemory.Word.{block_in}
use Rattle.seize_words.specs.declared.at.At.TheVariants.{Slot, Entry}
use Rattle.seize.specs.Settle.{retiring, settle_plan, to}
use Rattle.seize.specs.declared.rows.settle.Settle.{Settle}
use Rattle.seize.specs.declared.rows.settle.Settled.TheVariants as settled
use Rattle.seize.specs.declared.rows.settle.Settling.{Settling}
use Rattle.seize.specs.declared.rows.settle.Settling.TheVariants as at
use Rattle.seize.specs.declared.states.TheConstants.{BATCH, COUNT, FIRST, HELD, NEXT}
use Rattle.seize_straight.specs.Going.{SettleGoes}
use Rattle.seize_straight.specs.Retiring.{grown, holding}
use Rattle.seize_straight.specs.Runs.{EndsTelling}
use Rattle.seize_straight.proofs.Running.{Led, steps_to, tells_at}

module _ {T M : Type 0} (defers : T → Option ℕ) (can : M → Op T → Type 0) (took : M → Op T → Out T → M → Type 0) (shown : M → ℕ → Option T) where
  -- a retirement that may be made has come to this point
  abbrev pub Comes : (slot size block : ℕ) → M → Settle → M → Type 0
  Comes slot size block m = Led (SettleGoes {T = T}) took shown (settle_plan defers) can (retiring slot size block) m

  -- the batch is held, and the block is being put behind this last one
  abbrev pub Grows : (slot size block last : ℕ) → M → (pending new first : ℕ) → Settling → M → Type 0
  Grows slot size block last m pending new first stands =
      Led (SettleGoes {T = T}) took shown (settle_plan defers) can (holding slot size block last 0 at.Pops) m (holding slot size pending new first stands)

-- what is left of the step that counts a block comes to that
goes_on : {T : Type 0} (shown : ℕ → Option T) (slot size pending block first : ℕ) (short none : Bool)
    → Ends shown (if short then to {T = T} (if none then holding slot size pending block first at.Gives else holding slot size pending block first at.Pops)
    else to (holding slot size pending block first (at.Scans 0 first 0)))
    (holding slot size pending block first (if short then (if none then at.Gives else at.Pops) else at.Scans 0 first 0), settled.Goes)
goes_on shown slot size pending block first true true = refl
goes_on shown slot size pending block first true false = refl
goes_on shown slot size pending block first false none = refl

-- where a batch stands that has grown
module _ (slot size pending block first count : ℕ) where
  pub is_full : nat_lt ((count + 1) % 2 ^ 64) size ≡ false → grown slot size pending block first count ≡ holding slot size pending block first (at.Scans 0 first 0)
  is_full long = rw long refl

  pub is_further : nat_lt ((count + 1) % 2 ^ 64) size ≡ true → pending ≢ 0 → grown slot size pending block first count ≡ holding slot size pending block first at.Pops
  is_further short more = rw short (rw (ne_eqb pending 0 more) refl)

  pub is_given : nat_lt ((count + 1) % 2 ^ 64) size ≡ true → pending ≡ 0 → grown slot size pending block first count ≡ holding slot size pending block first at.Gives
  is_given short none = rw short (rw (eq-eqb pending 0 none) refl)

module _ {T M : Type 0} (defers : T → Option ℕ) {can : M → Op T → Type 0} {took : M → Op T → Out T → M → Type 0} {shown : M → ℕ → Option T} {slot size block : ℕ} {m0 : M} where
  -- the batch is taken hold of
  module _ (begun : Comes defers can took shown slot size block m0 (retiring slot size block) m0) {m1 : M} {word : ℕ} (loads : took m0 (Load (Slot slot BATCH)) (Found word) m1) where
    abbrev holds : Settle
    holds = record (retiring slot size block) { last = word; stands = at.Holds }

    pub waits : word ≡ HELD → Comes defers can took shown slot size block m0 (retiring slot size block) m1
    waits is = steps_to begun settled.Waits tt (retiring slot size block) m1 (Found word, loads, rw (eq-eqb word HELD is) refl)

    pub seen : word ≢ HELD → Comes defers can took shown slot size block m0 holds m1
    seen free = steps_to begun settled.Goes tt holds m1 (Found word, loads, rw (ne_eqb word HELD free) refl)

  module _ {m1 m2 : M} {word : ℕ} (seen : Comes defers can took shown slot size block m0 (record (retiring slot size block) { last = word; stands = at.Holds }) m1) where
    pub lost : {was : ℕ} → took m1 (Exchange (Slot slot BATCH) word HELD) (Exchanged (Err was)) m2 → Comes defers can took shown slot size block m0 (retiring slot size block) m2
    lost {was} loses = steps_to seen settled.Goes tt (retiring slot size block) m2 (Exchanged (Err was), loses, refl)

    pub held : {was : ℕ} → took m1 (Exchange (Slot slot BATCH) word HELD) (Exchanged (Ok was)) m2 → block ≢ 0
        → Comes defers can took shown slot size block m0 (holding slot size block word 0 at.Pops) m2
    held {was} takes some = steps_to seen settled.Goes tt (holding slot size block word 0 at.Pops) m2 (Exchanged (Ok was), takes, rw (ne_eqb block 0 some) refl)

  pub held_none : {word : ℕ} {m2 : M} → Comes defers can took shown slot size block m0 (holding slot size block word 0 at.Pops) m2 → word ≡ 0
      → Comes defers can took shown slot size block m0 (holding slot size block 0 0 at.Pops) m2
  held_none {m2 = m2} l none = subst (λ w. Comes defers can took shown slot size block m0 (holding slot size block w 0 at.Pops) m2) none l

  -- the block opens a batch
  pub begun : {m1 : M} {pending : ℕ} → Grows defers can took shown slot size block 0 m0 block 0 0 at.Pops m0
      → took m0 (Load (Entry (block_in block) NEXT)) (Found pending) m1 → Grows defers can took shown slot size block 0 m0 pending 0 block (at.Batches block) m1
  begun {m1} {pending} l o = steps_to l settled.Goes tt (holding slot size pending 0 block (at.Batches block)) m1 (Found pending, o, refl)

  pub alone : {pending : ℕ} {n k : M} → Grows defers can took shown slot size block 0 m0 pending 0 block (at.Ends block) n → took n (Store (Entry (block_in block) NEXT) 0) Stored k
      → Grows defers can took shown slot size block 0 m0 pending 0 block (at.Counts block) k
  alone {pending} {k = k} l o = steps_to l settled.Goes tt (holding slot size pending 0 block (at.Counts block)) k (Stored, o, refl)

  -- the block is put behind the last one
  module _ {last : ℕ} where
    pub popped : {m1 : M} {pending : ℕ} → Grows defers can took shown slot size block last m0 block last 0 at.Pops m0 → last ≢ 0
        → took m0 (Load (Entry (block_in block) NEXT)) (Found pending) m1 → Grows defers can took shown slot size block last m0 pending last 0 (at.Firsts block) m1
    popped {m1} {pending} begun grows o =
        steps_to begun settled.Goes tt (holding slot size pending last 0 (at.Firsts block)) m1 (Found pending, o, rw (ne_eqb last 0 grows) refl)

    module _ {pending first : ℕ} {n k : M} where
      pub firsted : Grows defers can took shown slot size block last m0 pending last 0 (at.Firsts block) n → block ≢ 0 → took n (Load (Entry (block_in last) FIRST)) (Found first) k
          → Grows defers can took shown slot size block last m0 pending last first (at.Batches block) k
      firsted l some o = steps_to l settled.Goes tt (holding slot size pending last first (at.Batches block)) k (Found first, o, rw (ne_eqb block 0 some) refl)

      pub batched : Grows defers can took shown slot size block last m0 pending last first (at.Batches block) n → took n (Store (Entry (block_in block) FIRST) first) Stored k
          → Grows defers can took shown slot size block last m0 pending last first (at.Ends block) k
      batched l o = steps_to l settled.Goes tt (holding slot size pending last first (at.Ends block)) k (Stored, o, refl)

      pub ended : Grows defers can took shown slot size block last m0 pending last first (at.Ends block) n → last ≢ 0 → took n (Store (Entry (block_in block) NEXT) 0) Stored k
          → Grows defers can took shown slot size block last m0 pending last first (at.Appends block) k
      ended l grows o = steps_to l settled.Goes tt (holding slot size pending last first (at.Appends block)) k (Stored, o, rw (ne_eqb last 0 grows) refl)

      pub appended : Grows defers can took shown slot size block last m0 pending last first (at.Appends block) n → took n (Store (Entry (block_in last) NEXT) block) Stored k
          → Grows defers can took shown slot size block last m0 pending last first (at.Counts block) k
      appended l o = steps_to l settled.Goes tt (holding slot size pending last first (at.Counts block)) k (Stored, o, refl)

      -- and counted
      pub counted : {count : ℕ} → Grows defers can took shown slot size block last m0 pending last first (at.Counts block) n → took n (Add (Entry (block_in first) COUNT) 1) (Found count) k
          → Led (SettleGoes {T = T}) took shown (settle_plan defers) can (holding slot size block last 0 at.Pops) m0 (grown slot size pending block first count) k
      counted {count} l o =
          steps_to l settled.Goes tt (grown slot size pending block first count) k
          (Found count, o, goes_on {T = T} (shown k) slot size pending block first (nat_lt ((count + 1) % 2 ^ 64) size) (pending == 0))

-- the batch is given up
pub gave : {T M : Type 0} (defers : T → Option ℕ) {can : M → Op T → Type 0} {took : M → Op T → Out T → M → Type 0} {shown : M → ℕ → Option T} {slot size pending block first : ℕ}
    {x : Settle} {m n k : M} → Led (SettleGoes {T = T}) took shown (settle_plan defers) can x m (holding slot size pending block first at.Gives) n
    → took n (Store (Slot slot BATCH) block) Stored k → EndsTelling (SettleGoes {T = T}) took shown (settle_plan defers) x m k settled.Done
gave defers {slot = slot} {size = size} {pending = pending} {block = block} {first = first} {k = k} l o =
    let over = record (holding slot size pending block first at.Over) { held = false } in
    tells_at (steps_to l settled.Goes tt over k (Stored, o, refl)) settled.Done (λ x. x) over k (refl, refl)
