-- What a try does to the waiting sets: it closes the batch with the active slots, and their entries are pushed, or it reclaims the batch at once.
use Rattle.std.specs.Prelude.{◌==◌, map, max}
use Rattle.std.proofs.Common.{◌≡◌, ℕ, ◌+◌, ◌<◌, ◌≤◌, Bool, true, false, cond, eqb, ltb, List, [], ◌∷◌, refl, arith, eqb-true}
use Rattle.std.proofs.lemmas.Bool.{eqb-false, lt-ltb}
use Rattle.seize.specs.WaitingSets.{Batch, Sets, with_open, closing}
use Rattle.seize_moves.specs.Waiting.Held.{count}
use Rattle.seize_moves.proofs.Waiting.Counts.{map_same, filter_same}
use Rattle.seize_moves.proofs.Moves.State.Ghost.{put, Debt, Unscanned, Marked, Gone, Skipped, Owing, Loose, Counted, Open, Closing, Entry, Head, Active, State, was_put, list_of, is_active}
use Rattle.seize_moves.proofs.Moves.State.Rule.{Inv}
use Rattle.seize_moves.proofs.Moves.State.Sums.{total_zero}
use Rattle.seize_moves.proofs.Moves.Sets.Shown.{waits, is_owing, is_shut, ascending, ascending_same, batch_shown, batches_in, listed_in, Models, shut_in}
use Rattle.seize_moves.proofs.Moves.State.Moves

abbrev pub batch : List ℕ → List ℕ → Batch
batch retired slots = record { retired = retired; waits_for = slots }

-- an open batch has put no entry
pub none_owing : (n s x t : ℕ) (m : State) → Inv n m → m.stage x ≡ Open s → is_owing (m.debt x t) ≡ false
none_owing n s x t m inv e = at (m.debt x t) refl (ltb t n) refl
  where
    at : (d : Debt) → m.debt x t ≡ d → (b : Bool) → ltb t n ≡ b → is_owing d ≡ false
    at Unscanned k b l = refl
    at Marked k b l = refl
    at Gone k b l = refl
    at Skipped k b l = refl
    at Owing k b l = absurd (grind (arith, inv.batches.tally x, inv.debts.scanned x t, inv.debts.seen_le x, total_zero was_put (m.debt x) n t))
    at (Loose i) k b l = refl
    at Counted k b l = refl

pub passed_owing : (d : Debt) (b : Bool) → is_owing d ≡ false → is_owing (cond b (Moves.passed d) d) ≡ false
passed_owing d b e = grind (arith, e)

-- the open batch of s is set to one with nothing in it
opens_anew : (n s t : ℕ) (m : State) (order : List ℕ) (w : Sets) → Inv n m → s < n → t < n → Models n m order w
    → m.blocks (put m.open_batch s m.next t) ≡ (with_open w s []).open_batch t
opens_anew n s t m order w inv l k h = at (t == s) refl (eqb t s) refl
  where
    at : (y : Bool) → (t == s) ≡ y → (z : Bool) → eqb t s ≡ z → m.blocks (cond z m.next (m.open_batch t)) ≡ cond y [] (w.open_batch t)
    at true e true f = grind (arith, inv.batches.blank m.next, inv.batches.fresh m.next)
    at true e false f = absurd (eqb-false t s f (eqb-true t s e))
    at false e true f = absurd (eqb-false t s e (eqb-true t s f))
    at false e false f = h.opened t k

pub unused_anew : (s t : ℕ) (w : Sets) → ((u : ℕ) → w.slots ≤ u → w.open_batch u ≡ []) → max w.slots (s + 1) ≤ t → (with_open w s []).open_batch t ≡ []
unused_anew s t w h k = at (t == s) (h t (omega (arith, k)))
  where
    at : (y : Bool) → w.open_batch t ≡ [] → cond y [] (w.open_batch t) ≡ []
    at true e = refl
    at false e = e

abbrev pub closed_debt : ℕ → State → ℕ → ℕ → ℕ → Debt
closed_debt n m x = put m.debt x (Moves.passed_all n (m.debt x))

-- the marks are the active slots, and the batch is closed with them
pub closed_models : (n i s x : ℕ) (m : State) (order : List ℕ) (w : Sets) → Inv n m → s < n → m.stage x ≡ Open s → m.open_batch s ≡ x
    → ((t : ℕ) → t < n → waits (Moves.passed (m.debt x t)) ≡ is_active (m.head t))
    → Models n m order w → Models n (Moves.closed n m i s x) (x ∷ order) (closing s w)
closed_models n i s x m order w inv l open_now here scan h = record {
  opened = λ t k. opens_anew n s t m order w inv l k h;
  closed = both _ _ _ _ (first (eqb x x) (eqb-false x x)) rest;
  ordered = λ y. grind (arith, h.ordered y, open_now, inv.batches.fresh m.next);
  lists = λ t. listed t (eqb x x) (eqb-false x x);
  active = h.active;
  put = h.put;
  unused = λ t k. unused_anew s t w h.unused k;
}
  where
    both : (a b : Batch) (l r : List Batch) → a ≡ b → l ≡ r → (a ∷ l) ≡ (b ∷ r)
    both a b l r e f = cc

    marks : (t : ℕ) → t < n → (b : Bool) → ltb t n ≡ b → waits (cond b (Moves.passed (m.debt x t)) (m.debt x t)) ≡ is_active (m.head t)
    marks t k true e = scan t k
    marks t k false e = absurd (cc (lt-ltb t n k, e))

    first : (b : Bool) → (b ≡ false → x ≡ x → ⊥)
        → batch (m.blocks x) (ascending (λ t. waits (cond b (Moves.passed_all n (m.debt x)) (m.debt x) t)) n) ≡ batch (w.open_batch s) w.active
    first true g =
        let a = ascending_same (λ t. waits (Moves.passed_all n (m.debt x) t)) (λ t. is_active (m.head t)) n (λ t k. marks t k (ltb t n) refl) in
        let b = h.opened s l in let o = here in let c = h.active in cc
    first false g = absurd (g refl refl)

    other : (y : ℕ) → is_shut (m.stage y) ≡ 1 → eqb y x ≡ false
    other y e = grind (arith, e, open_now, eqb-true y x)

    shown : (y : ℕ) (b : Bool) → b ≡ false → batch (m.blocks y) (ascending (λ t. waits (cond b (Moves.passed_all n (m.debt x)) (m.debt y) t)) n) ≡ batch_shown n m.blocks m.debt y
    shown y true e = absurd (cc e)
    shown y false e = refl

    rest : map (batch_shown n m.blocks (closed_debt n m x)) order ≡ w.closed
    rest = cc (h.closed, map_same (batch_shown n m.blocks (closed_debt n m x)) (batch_shown n m.blocks m.debt) order (λ y ne. shown y (eqb y x) (other y (shut_in n m order w h y ne))))

    owing : (t y : ℕ) (b : Bool) → b ≡ false → is_owing (cond b (Moves.passed_all n (m.debt x)) (m.debt y) t) ≡ is_owing (m.debt y t)
    owing t y true e = absurd (cc e)
    owing t y false e = refl

    listed : (t : ℕ) (b : Bool) → (b ≡ false → x ≡ x → ⊥)
        → batches_in (list_of (m.head t)) ≡ cond (is_owing (cond b (Moves.passed_all n (m.debt x)) (m.debt x) t)) (x ∷ listed_in (closed_debt n m x) t order) (listed_in (closed_debt n m x) t order)
    listed t true g =
        let a = passed_owing (m.debt x t) (ltb t n) (none_owing n s x t m inv (open_now)) in
        let c = filter_same (λ y. is_owing (closed_debt n m x y t)) (λ y. is_owing (m.debt y t)) order (λ y ne. owing t y (eqb y x) (other y (shut_in n m order w h y ne))) in
        let e = h.lists t in at _ a c e
      where
        at : (b : Bool) → b ≡ false → listed_in (closed_debt n m x) t order ≡ listed_in m.debt t order → batches_in (list_of (m.head t)) ≡ listed_in m.debt t order
            → batches_in (list_of (m.head t)) ≡ cond b (x ∷ listed_in (closed_debt n m x) t order) (listed_in (closed_debt n m x) t order)
        at b a c e = cc
    listed t false g = absurd (g refl refl)

abbrev pub pushed_debt : State → ℕ → ℕ → ℕ → ℕ → Debt
pushed_debt m x t = put m.debt x (put (m.debt x) t Owing)

-- an entry is pushed on the list of a marked slot
pub pushed_models : (n i x t c : ℕ) (es : List Entry) (rest : List ℕ) (m : State) (order : List ℕ) (w : Sets) → m.stage x ≡ Closing i → m.debt x t ≡ Marked → m.head t ≡ Active es
    → Models n m (x ∷ order) w → Models n (Moves.pushed m x t c es rest) (x ∷ order) w
pushed_models n i x t c es rest m order w e d k h = record {
  opened = h.opened;
  closed = cc (h.closed, map_same (batch_shown n m.blocks (pushed_debt m x t)) (batch_shown n m.blocks m.debt) (x ∷ order) (λ y ne. shown y));
  ordered = h.ordered;
  lists = λ u. listed u (eqb u t) (eqb-true u t) (eqb-false u t) (h.lists u);
  active = cc (h.active, ascending_same (λ u. is_active (put m.head t (Active (record { block = c; batch = x } ∷ es)) u)) (λ u. is_active (m.head u)) n (λ u l. grind (arith, k)));
  put = h.put;
  unused = h.unused;
}
  where
    shown : (y : ℕ) → batch_shown n m.blocks (pushed_debt m x t) y ≡ batch_shown n m.blocks m.debt y
    shown y = let a = ascending_same (λ u. waits (pushed_debt m x t y u)) (λ u. waits (m.debt y u)) n (λ u l. grind (arith, d)) in cc

    fresh : count x order ≡ 0
    fresh = grind (arith, h.ordered x, e)

    rest_same : (u : ℕ) → listed_in (pushed_debt m x t) u order ≡ listed_in m.debt u order
    rest_same u = filter_same (λ y. is_owing (pushed_debt m x t y u)) (λ y. is_owing (m.debt y u)) order (λ y ne. let a = fresh in grind (arith, a, ne))

    listed : (u : ℕ) (b : Bool) → (b ≡ true → u ≡ t) → (b ≡ false → u ≡ t → ⊥) → batches_in (list_of (m.head u)) ≡ listed_in m.debt u (x ∷ order)
        → batches_in (list_of (cond b (Active (record { block = c; batch = x } ∷ es)) (m.head u))) ≡ listed_in (pushed_debt m x t) u (x ∷ order)
    listed u true r g f =
        let a = r refl in
        there (m.debt x u) (pushed_debt m x t x u) (m.head u) (listed_in m.debt u order) (listed_in (pushed_debt m x t) u order) (cc (k, a)) (cc (d, a)) (grind (arith, a)) (rest_same u) f
      where
        there : (v z : Debt) (top : Head) (l r : List ℕ) → top ≡ Active es → v ≡ Marked → z ≡ Owing → r ≡ l
            → batches_in (list_of top) ≡ cond (is_owing v) (x ∷ l) l → (x ∷ batches_in es) ≡ cond (is_owing z) (x ∷ r) r
        there v z top l r a b o e f = grind (arith, a, b, o, e, f)
    listed u false r g f =
        let a = g refl in
        other (m.debt x u) (pushed_debt m x t x u) _ _ _ (grind (arith, a)) (rest_same u) f
      where
        other : (v z : Debt) (top l r : List ℕ) → z ≡ v → r ≡ l → top ≡ cond (is_owing v) (x ∷ l) l → top ≡ cond (is_owing z) (x ∷ r) r
        other v z top l r a e f = cc
