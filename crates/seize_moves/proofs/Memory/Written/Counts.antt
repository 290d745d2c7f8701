-- The write by which a row counts an entry down, and the reclaiming of a batch at zero.
use Rattle.std.proofs.Common.{◌≡◌, ℕ, ◌+◌, ◌-◌, ◌%◌, ◌^◌, ◌<◌, ◌≤◌, Bool, true, false, cond, eqb, List, ◌∷◌, refl, arith}
use Rattle.seize_moves.specs.Waiting.Held.{count}
use Rattle.seize_moves.proofs.Moves.State.Ghost.{put, entries, Entry, State, Stage, Unused, Open, Closing, Closed, Dead, Life, Debt, is_loose, was_put, owes, counts, total, list_of}
use Rattle.seize_moves.proofs.Moves.State.Moves.{counted}
use Rattle.seize_moves.proofs.Moves.State.Rule.{Inv, IsLive, SeenIs, AtStage}
use Rattle.seize_moves.proofs.Moves.State.Sums.{put_both, total_le, put_parts}
use Rattle.seize_moves.proofs.Memory.Words.Chains.{Chain, blocks_of}
use Rattle.seize_moves.proofs.Memory.Words.View.{View}
use Rattle.seize_moves.proofs.Memory.Words.Shows.{Spot, Nowhere, InHands, SpotLife, Extra, Shows, Written, CountIs, is_on, is_in_hands, is_unspent, stands, has_entry}
use Rattle.seize_moves.proofs.Memory.Written.Close.{first_in, count_put, zero_put}

-- the batch is closed, or is being closed
abbrev pub is_shut : Stage → Bool
is_shut Unused = false
is_shut (Open s) = false
is_shut (Closing i) = true
is_shut Closed = true
is_shut Dead = false

stands_first : (e : Entry) (es : List Entry) → 0 < stands e.block e.batch (e ∷ es)
stands_first e es = grind arith

-- the first loose entry's block is in its row's hands
pub in_hands : (spot : ℕ → Spot) (i : ℕ) (e : Entry) (l es : List Entry) → l ≡ e ∷ es → stands e.block e.batch l ≡ is_in_hands i e.batch (spot e.block)
    → spot e.block ≡ InHands i e.batch
in_hands spot i e l es is h = let some = stands_first e es in let k : 0 < is_in_hands i e.batch (spot e.block) = grind (arith, some) in one (spot e.block) k
  where
    one : (p : Spot) → 0 < is_in_hands i e.batch p → p ≡ InHands i e.batch
    one p k = grind arith

-- a batch with a loose entry is shut
pub shut_loose : (n i : ℕ) (e : Entry) (es : List Entry) (m : State) → Inv n m → m.loose i ≡ e ∷ es → is_shut (m.stage e.batch) ≡ true
shut_loose n i e es m inv is =
    let loose : 0 < is_loose i (m.debt e.batch (m.from i)) = one (m.loose i) (m.from i) (is_loose i (m.debt e.batch (m.from i))) is (inv.debts.loosed e.batch (m.from i) i) in
    let low : m.from i < n = below (m.debt e.batch (m.from i)) (m.from i) (m.seen e.batch) loose (inv.debts.scanned e.batch (m.from i)) (inv.debts.seen_le e.batch) in
    let owing : 0 < owes (m.debt e.batch (m.from i)) = owed (m.debt e.batch (m.from i)) loose in
    let le = total_le owes (m.debt e.batch) n (m.from i) low in
    shut (m.stage e.batch) (omega arith) (put_parts (m.debt e.batch) n) (inv.batches.tally e.batch)
  where
    one : (l : List Entry) (t k : ℕ) → l ≡ e ∷ es → cond (eqb t t) (entries e.batch l) 0 ≡ k → 0 < k
    one l t k is h = grind arith

    owed : (d : Debt) → 0 < is_loose i d → 0 < owes d
    owed d h = grind arith

    below : (d : Debt) (t k : ℕ) → 0 < is_loose i d → SeenIs d t k → k ≤ n → t < n
    below d t k h seen le = grind arith

    shut : (g : Stage) → 0 < total owes (m.debt e.batch) n → total was_put (m.debt e.batch) n ≡ total owes (m.debt e.batch) n + total counts (m.debt e.batch) n
        → AtStage n g (m.counter e.batch) (m.debt e.batch) (m.seen e.batch) (m.todo e.batch) → is_shut g ≡ true
    shut Unused some parts at = absurd (let k = at.1 in omega arith)
    shut (Open s) some parts at = absurd (let k = at.1 in omega arith)
    shut (Closing j) some parts at = refl
    shut Closed some parts at = refl
    shut Dead some parts at = absurd (omega arith)

-- the first loose entry is counted
abbrev pub counted_off : View → Extra → ℕ → Entry → Extra
counted_off f x i e = record x { spot = put x.spot e.block Nowhere; hand = put x.hand i (f.links e.block) }

module _ (spot : ℕ → Spot) (i : ℕ) (e : Entry) where
  hands_less : (loose : ℕ → List Entry) (es : List Entry) (j z a : ℕ) → spot e.block ≡ InHands i e.batch → loose i ≡ e ∷ es
      → stands a z (loose j) ≡ is_in_hands j z (spot a) → stands a z (put loose i es j) ≡ is_in_hands j z (put spot e.block Nowhere a)
  hands_less loose es j z a hs is h = grind arith

  on_same : (k t z a : ℕ) → spot e.block ≡ InHands i e.batch → k ≡ is_on t z (spot a) → k ≡ is_on t z (put spot e.block Nowhere a)
  on_same k t z a hs h = grind arith

  unspent_same : (k z a : ℕ) → spot e.block ≡ InHands i e.batch → k ≡ is_unspent z (spot a) → k ≡ is_unspent z (put spot e.block Nowhere a)
  unspent_same k z a hs h = grind arith

  life_same : (a : ℕ) (l : Life) → SpotLife (spot a) l → SpotLife (put spot e.block Nowhere a) l
  life_same a l h = grind arith

  kept_spot : (j a : ℕ) (holder : ℕ → ℕ) (stage : ℕ → Stage) → spot e.block ≡ InHands i e.batch → (j ≡ i → ⊥) → has_entry j holder stage (spot a) ≡ true
      → put spot e.block Nowhere a ≡ spot a
  kept_spot j a holder stage hs ne k = grind arith

pub counted_written : (n i c : ℕ) (l : List ℕ) (e : Entry) (es : List Entry) (f : View) (m : State) (x : Extra) → Inv n m → Shows n f m x
    → m.loose i ≡ e ∷ es → m.blocks e.batch ≡ c ∷ l
    → Written n i f m x (record f { counts = put f.counts c ((f.counts c + (2 ^ 64 - 1)) % 2 ^ 64) }) (counted m i e es) (counted_off f x i e)
counted_written n i c l e es f m x inv v is bs =
    let hs = in_hands x.spot i e (m.loose i) es is (v.entries.hands i e.batch e.block) in
    let shut = shut_loose n i e es m inv is in
    let life = first_in n e.batch c l m inv (live (m.stage e.batch) shut) bs in
    let word : f.counts c ≡ m.counter e.batch = counter_at (m.stage e.batch) (m.blocks e.batch) shut bs (v.linkage.counted e.batch) in
    record {
      shows = record {
        entries = record {
          headed = v.entries.headed;
          loosed = put_both (λ j w r. Chain 3 f.links w (blocks_of r)) x.hand m.loose i (f.links e.block) es ((rw is at (v.entries.loosed i)).2) v.entries.loosed;
          marks = v.entries.marks;
          rests = v.entries.rests;
          on = λ t z a. on_same x.spot i e (stands a z (list_of (m.head t))) t z a hs (v.entries.on t z a);
          hands = λ j z a. hands_less x.spot i e m.loose es j z a hs is (v.entries.hands j z a);
          unspent = λ z a. unspent_same x.spot i e (count a (x.rest z)) z a hs (v.entries.unspent z a);
          spots = λ a. life_same x.spot i e a (m.life a) (v.entries.spots a);
        };
        linkage = record {
          batched = v.linkage.batched;
          linked = v.linkage.linked;
          ended = v.linkage.ended;
          first = v.linkage.first;
          counted = count_put n e.batch c ((f.counts c + (2 ^ 64 - 1)) % 2 ^ 64) l f m x m.stage (put m.counter e.batch ((m.counter e.batch + (2 ^ 64 - 1)) % 2 ^ 64)) inv life
              v.linkage.counted (counter_put (m.stage e.batch) (m.blocks e.batch) shut bs word) (λ z ne. refl) (λ z ne. grind arith);
          zeros = λ a. zero_put e.batch c ((f.counts c + (2 ^ 64 - 1)) % 2 ^ 64) a f m life (v.linkage.zeros a);
        };
        lists = v.lists;
      };
      keeps = record {
        rows = λ j ne. record { hand = grind arith; pends = refl; popped = refl; lefts = refl; put_first = refl };
        batches = λ j z ne k. record { rest = refl; aimed = refl; behind = refl };
        nexts = λ j a ne k. refl;
        firsts = λ j a ne k. refl;
        links = λ j a ne k. refl;
        spots = λ j a ne k. kept_spot x.spot i e j a m.holder m.stage hs ne k;
        owns = λ j a ne k. record { own = λ d has. refl; lists = refl; drained = refl };
      };
    }
  where
    live : (g : Stage) → is_shut g ≡ true → IsLive g ≡ true
    live g h = grind arith

    counter_at : (g : Stage) (bs : List ℕ) → is_shut g ≡ true → bs ≡ c ∷ l → CountIs f.counts g (m.counter e.batch) bs → f.counts c ≡ m.counter e.batch
    counter_at g bs shut is h = grind arith

    counter_put : (g : Stage) (bs : List ℕ) → is_shut g ≡ true → bs ≡ c ∷ l → f.counts c ≡ m.counter e.batch
        → CountIs (put f.counts c ((f.counts c + (2 ^ 64 - 1)) % 2 ^ 64)) g (put m.counter e.batch ((m.counter e.batch + (2 ^ 64 - 1)) % 2 ^ 64) e.batch) bs
    counter_put g bs shut is h = grind arith
