-- A write to the link of a block that stands in no list leaves all lists as they are.
use Rattle.std.specs.Prelude.{Option, Some, None}
use Rattle.std.proofs.Common.{◌≡◌, ℕ, ◌+◌, ◌<◌, ◌≤◌, Bool, true, false, cond, eqb, List, [], ◌∷◌, refl, arith, ap, subst, sym, eqb-true}
use Rattle.std.proofs.lemmas.Bool.{eqb-false, eq-eqb}
use Rattle.seize_moves.specs.Waiting.Held.{count}
use Rattle.seize_moves.proofs.Moves.State.Ghost.{put, is_in, is_pending, Stage, Unused, Open, Closing, Closed, Dead, Life, IsIn, IsPending, IsDoomed, IsDeferring, IsDeferred, Head, Never, Free, Idle, Active, Entry, list_of, IsLeft, of_dropper}
use Rattle.seize_moves.proofs.Moves.State.Rule.{IsLive, SameUnlessDead, Places}
use Rattle.seize_moves.proofs.Memory.Words.Chains.{chain_apart, waiting, first_or, blocks_of}
use Rattle.seize_moves.proofs.Memory.Words.Shows.{LinkedIs, DeferredIs, NextIs, HeadIs, CountIs, stands}

pub count_waiting : (c : ℕ) (p : Bool) (l : List ℕ) → count c (waiting p l) ≤ count c l
count_waiting c false l = omega arith
count_waiting c true [] = omega arith
count_waiting c true (d ∷ l) = grind arith

-- the block stands in no list of a row or a block
pub record Unlisted (b : ℕ) (pending left puts deferred : ℕ → List ℕ) (popped : ℕ → Bool) : Type 0 where
  pub in_pending : (j : ℕ) → count b (waiting (popped j) (pending j)) ≡ 0
  pub in_left : (j : ℕ) → count b (left j) ≡ 0
  pub in_puts : (j : ℕ) → count b (puts j) ≡ 0
  pub in_deferred : (t : ℕ) → count b (deferred t) ≡ 0

-- nor in any but this row's list of blocks put
pub record UnlistedBut (i b : ℕ) (pending left puts deferred : ℕ → List ℕ) (popped : ℕ → Bool) : Type 0 where
  pub in_pending : (j : ℕ) → count b (waiting (popped j) (pending j)) ≡ 0
  pub in_left : (j : ℕ) → count b (left j) ≡ 0
  pub in_puts : (j : ℕ) → (j ≡ i → ⊥) → count b (puts j) ≡ 0
  pub in_deferred : (t : ℕ) → count b (deferred t) ≡ 0

-- nor among the blocks behind it that this row is to take
pub record UnlistedBehind (i b : ℕ) (bs : List ℕ) (pending left puts deferred : ℕ → List ℕ) (popped : ℕ → Bool) : Type 0 where
  pub in_pending : (j : ℕ) → count b (waiting (popped j) (pending j)) ≡ 0
  pub in_left : (j : ℕ) → (j ≡ i → ⊥) → count b (left j) ≡ 0
  pub behind : count b bs ≡ 0
  pub in_puts : (j : ℕ) → count b (puts j) ≡ 0
  pub in_deferred : (t : ℕ) → count b (deferred t) ≡ 0

pub boxed_none : (g : Stage) (bs : List ℕ) (b y : ℕ) (l : Life) → SameUnlessDead g (count b bs) (is_in y l) → is_in y l ≡ 0 → IsLive g ≡ true → count b bs ≡ 0
boxed_none g bs b y l k none live = grind arith

module _ (stage : ℕ → Stage) (blocks left pending puts deferred : ℕ → List ℕ) (carrier : ℕ → Bool) (life : ℕ → Life) (popped : ℕ → Bool) where
  pending_none : (b j : ℕ) → count b (pending j) + count b (puts j) ≡ is_pending j (life b) → is_pending j (life b) ≡ 0 → count b (waiting (popped j) (pending j)) ≡ 0
  pending_none b j k none = let le = count_waiting b (popped j) (pending j) in omega arith

  -- a block that is on its way to another's list
  pub unlisted_deferring : (i s t b : ℕ) → Places stage blocks left pending puts deferred carrier life → life b ≡ IsDeferring i s t
      → Unlisted b pending left puts deferred popped
  unlisted_deferring i s t b p is = record {
    in_pending = λ j. pending_none b j (p.to_retire j b) (grind arith);
    in_left = λ j. grind (arith, p.to_take j b);
    in_puts = λ j. grind (arith, p.to_retire j b);
    in_deferred = λ u. grind (arith, p.all_deferred u b);
  }

  -- a block that was never linked, or is left to a caller
  pub unlisted_dropped : (i b : ℕ) → Places stage blocks left pending puts deferred carrier life → of_dropper i (life b) ≡ true
      → Unlisted b pending left puts deferred popped
  unlisted_dropped i b p is = record {
    in_pending = λ j. pending_none b j (p.to_retire j b) (grind arith);
    in_left = λ j. grind (arith, p.to_take j b);
    in_puts = λ j. grind (arith, p.to_retire j b);
    in_deferred = λ u. grind (arith, p.all_deferred u b);
  }

  -- a block that is in a batch
  pub unlisted_in : (y b : ℕ) → Places stage blocks left pending puts deferred carrier life → life b ≡ IsIn y → Unlisted b pending left puts deferred popped
  unlisted_in y b p is = record {
    in_pending = λ j. pending_none b j (p.to_retire j b) (grind arith);
    in_left = λ j. grind (arith, p.to_take j b);
    in_puts = λ j. grind (arith, p.to_retire j b);
    in_deferred = λ u. grind (arith, p.all_deferred u b);
  }

  put_pending : (i b j : ℕ) → count b (pending j) + count b (puts j) ≡ is_pending j (life b) → life b ≡ IsPending i → 0 < count b (puts i) → count b (waiting (popped j) (pending j)) ≡ 0
  put_pending i b j k l some = let le = count_waiting b (popped j) (pending j) in at (eqb j i) (eqb-true j i)
    where
      at : (t : Bool) → (t ≡ true → j ≡ i) → count b (waiting (popped j) (pending j)) ≡ 0
      at true e = let q = e refl in grind (arith, count_waiting b (popped j) (pending j))
      at false e = grind (arith, count_waiting b (popped j) (pending j))

  -- a block that was put: it is of this row, stands once among what it has put, and nowhere else
  pub is_pending_put : (i b : ℕ) → Places stage blocks left pending puts deferred carrier life → 0 < count b (puts i) → life b ≡ IsPending i
  is_pending_put i b p some = grind (arith, p.to_retire i b)

  pub once_put : (i b : ℕ) → Places stage blocks left pending puts deferred carrier life → 0 < count b (puts i) → (count b (puts i) ≡ 1) × (count b (pending i) ≡ 0)
  once_put i b p some = let k = p.to_retire i b in let l = is_pending_put i b p some in (grind arith, grind arith)

  pub unlisted_put : (i b : ℕ) → Places stage blocks left pending puts deferred carrier life → 0 < count b (puts i) → UnlistedBut i b pending left puts deferred popped
  unlisted_put i b p some =
      let l = is_pending_put i b p some in
      record {
        in_pending = λ j. put_pending i b j (p.to_retire j b) l some;
        in_left = λ j. grind (arith, p.to_take j b);
        in_puts = λ j ne. grind (arith, p.to_retire j b);
        in_deferred = λ u. grind (arith, p.all_deferred u b);
      }

  pub is_doomed_first : (i b : ℕ) (bs : List ℕ) → Places stage blocks left pending puts deferred carrier life → left i ≡ b ∷ bs → life b ≡ IsDoomed i
  is_doomed_first i b bs p is = grind (arith, p.to_take i b)

  pub unlisted_doomed : (i b : ℕ) (bs : List ℕ) → Places stage blocks left pending puts deferred carrier life → left i ≡ b ∷ bs
      → UnlistedBehind i b bs pending left puts deferred popped
  unlisted_doomed i b bs p is =
      let l = is_doomed_first i b bs p is in
      record {
        in_pending = λ j. pending_none b j (p.to_retire j b) (grind arith);
        in_left = λ j ne. grind (arith, p.to_take j b);
        behind = grind (arith, p.to_take i b);
        in_puts = λ j. grind (arith, p.to_retire j b);
        in_deferred = λ u. grind (arith, p.all_deferred u b);
      }

  pub is_pending_first : (i b : ℕ) (bs : List ℕ) → Places stage blocks left pending puts deferred carrier life → pending i ≡ b ∷ bs → life b ≡ IsPending i
  is_pending_first i b bs p is = grind (arith, p.to_retire i b)

  -- the first block to be retired, on its way into a batch
  pub unlisted_popped : (i b : ℕ) (bs : List ℕ) → Places stage blocks left pending puts deferred carrier life → pending i ≡ b ∷ bs → popped i ≡ true
      → Unlisted b pending left puts deferred popped
  unlisted_popped i b bs p is pop =
      let l = is_pending_first i b bs p is in
      record {
        in_pending = λ j. one j (p.to_retire j b) l;
        in_left = λ j. grind (arith, p.to_take j b);
        in_puts = λ j. grind (arith, p.to_retire j b);
        in_deferred = λ u. grind (arith, p.all_deferred u b);
      }
    where
      one : (j : ℕ) → count b (pending j) + count b (puts j) ≡ is_pending j (life b) → life b ≡ IsPending i → count b (waiting (popped j) (pending j)) ≡ 0
      one j k l = let le = count_waiting b (popped j) (pending j) in grind arith

pub linked_apart : (nexts : ℕ → ℕ) (b v e : ℕ) (g : Stage) (bs : List ℕ) → (IsLive g ≡ true → count b bs ≡ 0) → LinkedIs nexts e g bs → LinkedIs (put nexts b v) e g bs
linked_apart nexts b v e Unused bs h k = k
linked_apart nexts b v e (Open s) bs h k = chain_apart e nexts b v (first_or e bs) bs (h refl) k
linked_apart nexts b v e (Closing i) bs h k = chain_apart 0 nexts b v (first_or 0 bs) bs (h refl) k
linked_apart nexts b v e Closed bs h k = chain_apart 0 nexts b v (first_or 0 bs) bs (h refl) k
linked_apart nexts b v e Dead bs h k = k

-- the block is in a list, or on its way to one, or was in one that has ended
abbrev pub is_listed : Life → Bool
is_listed (IsDeferring i s t) = true
is_listed (IsDeferred t) = true
is_listed (IsPending i) = true
is_listed (IsIn y) = true
is_listed (IsDoomed i) = true
is_listed (IsLeft i) = true
is_listed _ = false

pub next_put : (nexts : ℕ → ℕ) (life : ℕ → Life) (b w c : ℕ) → is_listed (life b) ≡ true → NextIs (nexts c) (life c) → NextIs (put nexts b w c) (life c)
next_put nexts life b w c listed h = grind arith

pub next_put_of : (nexts : ℕ → ℕ) (life : ℕ → Life) (b w c : ℕ) (l : Life) → life b ≡ l → is_listed l ≡ true → NextIs (nexts c) (life c) → NextIs (put nexts b w c) (life c)
next_put_of nexts life b w c l is listed h = next_put nexts life b w c (rw is listed) h

pub deferred_apart : (nexts own : ℕ → ℕ) (b v : ℕ) (o : Option ℕ) (d : Bool) (l : List ℕ) → count b l ≡ 0 → DeferredIs nexts own o d l → DeferredIs (put nexts b v) own o d l
deferred_apart nexts own b v None d l none k = k
deferred_apart nexts own b v (Some w) true l none k = k
deferred_apart nexts own b v (Some w) false l none k = chain_apart 0 nexts b v (own w) l none k

-- and so does a write to the link of an entry that stands on no list

pub count_blocks : (c : ℕ) (es : List Entry) → ((y : ℕ) → stands c y es ≡ 0) → count c (blocks_of es) ≡ 0
count_blocks c [] h = refl
count_blocks c (e ∷ es) h = one c e es (h e.batch) (count_blocks c es (λ y. fewer c y e es (h y)))
  where
    one : (c : ℕ) (e : Entry) (es : List Entry) → stands c e.batch (e ∷ es) ≡ 0 → count c (blocks_of es) ≡ 0 → count c (blocks_of (e ∷ es)) ≡ 0
    one c e es h k = grind arith

    fewer : (c y : ℕ) (e : Entry) (es : List Entry) → stands c y (e ∷ es) ≡ 0 → stands c y es ≡ 0
    fewer c y e es h = omega arith

pub head_apart : (links : ℕ → ℕ) (c v w : ℕ) (h : Head) → ((y : ℕ) → stands c y (list_of h) ≡ 0) → HeadIs links w h → HeadIs (put links c v) w h
head_apart links c v w Never none k = k
head_apart links c v w Free none k = k
head_apart links c v w Idle none k = k
head_apart links c v w (Active es) none k = chain_apart 3 links c v w (blocks_of es) (count_blocks c es none) k

-- a write to the count of a block that is not of a batch
pub counted_apart : (counts : ℕ → ℕ) (c v k : ℕ) (g : Stage) (bs : List ℕ) → (IsLive g ≡ true → count c bs ≡ 0) → CountIs counts g k bs → CountIs (put counts c v) g k bs
counted_apart counts c v k g [] h is = tt
counted_apart counts c v k Unused (d ∷ l) h is = tt
counted_apart counts c v k (Open s) (d ∷ l) h is = let none = h refl in grind arith
counted_apart counts c v k (Closing i) (d ∷ l) h is = let none = h refl in grind arith
counted_apart counts c v k Closed (d ∷ l) h is = let none = h refl in grind arith
counted_apart counts c v k Dead (d ∷ l) h is = tt

pub put_here : {X : Type 0} (f : ℕ → X) (k : ℕ) (v : X) → put f k v k ≡ v
put_here f k v = ap (λ t. cond t v (f k)) (eq-eqb k k refl)

-- and where the others need their numbers to be others
pub put_some : {X : Type 0} (P : ℕ → X → Type 0) (f : ℕ → X) (k : ℕ) (v : X) → P k v → ((j : ℕ) → (j ≡ k → ⊥) → P j (f j)) → (j : ℕ) → P j (put f k v j)
put_some P f k v a h j = at (eqb j k) (eqb-true j k) (eqb-false j k)
  where
    at : (b : Bool) → (b ≡ true → j ≡ k) → (b ≡ false → j ≡ k → ⊥) → P j (cond b v (f j))
    at true e o = subst (λ (i : ℕ). P i v) (sym (e refl)) a
    at false e o = h j (o refl)

pub put_both_some : {X Y : Type 0} (P : ℕ → X → Y → Type 0) (f : ℕ → X) (g : ℕ → Y) (k : ℕ) (v : X) (w : Y)
    → P k v w → ((j : ℕ) → (j ≡ k → ⊥) → P j (f j) (g j)) → (j : ℕ) → P j (put f k v j) (put g k w j)
put_both_some P f g k v w a h j = at (eqb j k) (eqb-true j k) (eqb-false j k)
  where
    at : (b : Bool) → (b ≡ true → j ≡ k) → (b ≡ false → j ≡ k → ⊥) → P j (cond b v (f j)) (cond b w (g j))
    at true e o = subst (λ (i : ℕ). P i v w) (sym (e refl)) a
    at false e o = h j (o refl)
