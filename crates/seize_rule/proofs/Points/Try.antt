-- The program points of a try of an open batch: slots are scanned, active ones are marked, and the batch is closed.
use Rattle.std.proofs.Common.{◌≡◌, ℕ, ◌+◌, ◌<◌, ◌≤◌, Bool, true, false, eqb, List, [], ◌∷◌, ◌++◌, length, refl, arith, ap, sym, subst, ◌∙◌, eqb-true}
use Rattle.std.proofs.lemmas.Bool.{eqb-false}
use Rattle.seize_moves.specs.Given.SeizeDeclared.rows.settle.Settle.{Settle}
use Rattle.seize_moves.proofs.Moves.State.Ghost.{put, Head, Never, Free, Idle, Active, State, is_active, is_never}
use Rattle.seize_moves.proofs.Memory.Words.Chains.{first_or}
use Rattle.seize_moves.proofs.Memory.Words.Shows.{Extra, HeadIs}
use Rattle.seize_rule.proofs.Points.Known.{AllTaken, TakenBelow, Common, HoldingOf, open_blocks, Tries, bare}

-- what a head's word says

pub never_word : (links : ℕ → ℕ) (w : ℕ) (h : Head) → HeadIs links w h → w ≡ 0 → is_never h ≡ true
never_word links w Never k z = refl
never_word links w Free k z = absurd (omega arith)
never_word links w Idle k z = absurd (omega arith)
never_word links w (Active []) k z = absurd (omega (arith, k))
never_word links w (Active (e ∷ es)) k z = absurd (let p = k.0 in let q = k.1 in omega arith)

pub taken_word : (links : ℕ → ℕ) (w : ℕ) (h : Head) → HeadIs links w h → (w ≡ 0 → ⊥) → is_never h ≡ false
taken_word links w Never k ne = absurd (ne k)
taken_word links w Free k ne = refl
taken_word links w Idle k ne = refl
taken_word links w (Active es) k ne = refl

pub inactive_word : (links : ℕ → ℕ) (w : ℕ) (h : Head) → HeadIs links w h → w < 3 → is_active h ≡ false
inactive_word links w Never k l = refl
inactive_word links w Free k l = refl
inactive_word links w Idle k l = refl
inactive_word links w (Active []) k l = absurd (omega (arith, k))
inactive_word links w (Active (e ∷ es)) k l = absurd (let p = k.0 in let q = k.1 in omega arith)

pub active_word : (links : ℕ → ℕ) (w : ℕ) (h : Head) → HeadIs links w h → 2 < w → is_active h ≡ true
active_word links w Never k l = absurd (omega (arith, k))
active_word links w Free k l = absurd (omega (arith, k))
active_word links w Idle k l = absurd (omega (arith, k))
active_word links w (Active es) k l = refl

pub below_more : (head : ℕ → Head) (k : ℕ) → TakenBelow head k → is_never (head k) ≡ false → TakenBelow head (k + 1)
below_more head k b h t l = one (eqb t k) (eqb-true t k) (eqb-false t k)
  where
    one : (z : Bool) → (z ≡ true → t ≡ k) → (z ≡ false → t ≡ k → ⊥) → is_never (head t) ≡ false
    one true e o = subst (λ (u : ℕ). is_never (head u) ≡ false) (sym (e refl)) h
    one false e o = b t (let ne = o refl in omega arith)

pub taken_more : (head : ℕ → Head) (ts : List ℕ) (t : ℕ) → AllTaken head ts → is_never (head t) ≡ false → AllTaken head (ts ++ t ∷ [])
taken_more head [] t a h = (h, tt)
taken_more head (u ∷ ts) t a h = (a.0, taken_more head ts t a.1 h)

-- A try goes on in a state in which more slots are scanned. The batch's blocks, and all that the row has in its hands, are as before.
module _ (n i : ℕ) (m m2 : State) (x : Extra) (c : Settle) (slot marks slot2 marks2 : ℕ) (us vs ts ts2 : List ℕ) (r : Tries n i m x (bare c) slot marks us vs ts)
    (head : m2.head ≡ m.head) (holder : m2.holder ≡ m.holder) (open_batch : m2.open_batch ≡ m.open_batch) (blocks : m2.blocks ≡ m.blocks)
    (closing : m2.closing ≡ m.closing) (section : m2.section ≡ m.section) (defers : m2.defers ≡ m.defers) (puts : m2.puts ≡ m.puts) where
  pub common_on : Common n i m2 x (bare c)
  common_on = record {
    slot_lt = r.common.slot_lt;
    taken = rw head (r.common.taken);
    outside = record { section = rw section (r.common.outside.section); defers = rw defers (r.common.outside.defers) };
    hand = r.common.hand;
    pends = r.common.pends;
    lefts = r.common.lefts;
    put_first = r.common.put_first;
  }

  pub holding_on : m2.seen (m.open_batch c.slot) ≡ slot2 → m2.todo (m.open_batch c.slot) ≡ ts2 → HoldingOf i m2 x c.slot c.last 0 slot2 ts2
  holding_on seen todo = record {
    holder = rw holder (r.batch.holder);
    last = rw (blocks, open_batch) (r.batch.last);
    behind = rw open_batch (r.batch.behind);
    seen = rw open_batch seen;
    todo = rw open_batch todo;
  }

  blocks_on : open_blocks m2 c ≡ open_blocks m c
  blocks_on = rw (blocks, open_batch, open_blocks) refl

  pub tries_on : m2.seen (m.open_batch c.slot) ≡ slot2 → m2.todo (m.open_batch c.slot) ≡ ts2 → length ts2 ≡ marks2 → marks2 ≤ slot2 → AllTaken m.head ts2
      → Tries n i m2 x (bare c) slot2 marks2 us vs ts2
  tries_on seen todo len le active = record {
    common = common_on;
    popped = r.popped;
    closing = rw closing (r.closing);
    put = r.put;
    put_last = rw puts (r.put_last);
    batch = holding_on seen todo;
    holds = r.holds;
    once = r.once;
    none_left = r.none_left;
    first = r.first ∙ sym (ap (first_or 0) blocks_on);
    some = r.some;
    blocks = blocks_on ∙ r.blocks;
    marked = len;
    marks_le = le;
    active = rw head active;
  }
