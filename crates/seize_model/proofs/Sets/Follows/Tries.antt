-- A try, slot by slot, and how it ends: a row that runs alone follows the waiting sets through each move.
use Rattle.std.specs.Prelude.{◌==◌, not}
use Rattle.std.proofs.Common.{◌≡◌, ℕ, zero, suc, ◌+◌, ◌<◌, ◌≤◌, Bool, true, false, cond, eqb, ltb, List, [], ◌∷◌, ◌++◌, length, refl, arith, ap, eqb-true, length-append}
use Rattle.std.proofs.lemmas.Bool.{eqb-false, ltb-true, ltb-false, lt-ltb, le-ltb}
use Rattle.seize.specs.WaitingSets.{Batch, Sets, After, with_open, with_closed, closing, is_enough, retired_all}
use Rattle.seize_rule.specs.Given.SeizeWaitingHeld.{same, count}
use Rattle.seize_rule.proofs.Given.SeizeWaitingBound.{tried}
use Rattle.seize_rule.proofs.Given.SeizeWaitingWork.{rest_given}
use Rattle.seize_rule.proofs.Given.SeizeMovesState.Ghost.{put, Debt, Unscanned, Marked, Gone, Skipped, Owing, Loose, Counted, Open, Closing, Head, State, counts, was_put, is_marked, total, is_active}
use Rattle.seize_rule.proofs.Given.SeizeMovesState.Rule.{Inv, SeenIs}
use Rattle.seize_rule.proofs.Given.SeizeMovesState.Sums.{put_parts, total_zero}
use Rattle.seize_rule.proofs.Given.SeizeMovesSets.Shown.{waits, ascending, ascending_same, waiting, Models, Alike, models_alike}
use Rattle.seize_rule.proofs.Given.SeizeMovesSets.Counters.{waiting_length}
use Rattle.seize_rule.proofs.Given.SeizeMovesSets.Moved.{given_up_alike, skipped_alike, marked_alike}
use Rattle.seize_rule.proofs.Given.SeizeMovesSets.Scan.{NoneGone, MarksActive, skipped_marks, marked_marks, all_marked}
use Rattle.seize_rule.proofs.Given.SeizeMovesSets.Tries.{closed_models}
use Rattle.seize_rule.proofs.Given.SeizeMovesState.Moves
use Rattle.seize_rule.proofs.Points.Passed.{passed_rest}
use Rattle.seize_rule.proofs.Given.SeizeMovesMoves.Tries.{passed_total, passed_put}
use Rattle.seize_rule.proofs.Points.Told.{Trying, Marking, NoneLeft}
use Rattle.seize_model.proofs.Sets.Follows.Work.{Base, Plainly, Tries, AllActive, Puts, Setting}
use Rattle.seize_model.proofs.Sets.Follows.Kept.{OpenOnly, open_on, open_kept, not_behind, retires_plainly}

-- the scan goes on

abbrev rescanned : State → (ℕ → ℕ → Debt) → (ℕ → ℕ) → (ℕ → List ℕ) → State
rescanned m debt seen todo = record m { debt = debt; seen = seen; todo = todo }

scanned_tries : (batch_size n i s : ℕ) (m : State) (debt : ℕ → ℕ → Debt) (seen : ℕ → ℕ) (todo : ℕ → List ℕ) (before : List ℕ) (target : After)
    → m.stage (m.open_batch s) ≡ Open s → Alike n m (rescanned m debt seen todo) → ((y : ℕ) → (y ≡ m.open_batch s → ⊥) → debt y ≡ m.debt y)
    → MarksActive (m.open_batch s) (rescanned m debt seen todo)
    → Tries batch_size n i s m before target → Tries batch_size n i s (rescanned m debt seen todo) before target
scanned_tries batch_size n i s m debt seen todo before target e alike others marks h = record {
  order = h.order;
  sets = h.sets;
  bound = h.bound;
  bound_back = h.bound_back;
  base = open_on batch_size n i s (m.open_batch s) m _ before target h.order [] h.sets h.sets _ _ h.base e
      (record { same_loose = refl; same_from = refl; blocks = λ y ne. refl; debts = others; logged = refl })
      (λ aside k. models_alike n m _ h.order _ k alike) refl;
  bounds = h.bounds;
  none_left = record { left = h.none_left.left; puts = h.none_left.puts };
  marks = marks;
}

other_debt : (x y : ℕ) (d : ℕ → ℕ → Debt) (v : ℕ → Debt) → (y ≡ x → ⊥) → put d x v y ≡ d y
other_debt x y d v ne = grind (arith, ne)

-- it passes a slot
pub skips_follows : (batch_size n i s : ℕ) (m : State) (before : List ℕ) (target : After) → Setting batch_size n i s Trying m
    → (t : ℕ) → t < n → m.seen (m.open_batch s) ≡ t → is_active (m.head t) ≡ false
    → Tries batch_size n i s m before target → Tries batch_size n i s (Moves.skipped m (m.open_batch s) t) before target
skips_follows batch_size n i s m before target st t l e idle h =
    let now = st.inv.batches.mine s st.slot_lt in
    scanned_tries batch_size n i s m _ _ _ before target now (skipped_alike n s (m.open_batch s) t m now) (λ y ne. other_debt (m.open_batch s) y m.debt _ ne)
    (skipped_marks (m.open_batch s) t m e idle h.marks) h

passed_alike : (n s x : ℕ) (m : State) → m.stage x ≡ Open s → Alike n m (passed_rest n m x)
passed_alike n s x m e = record {
  opened = λ t l. refl;
  stages = λ y. refl;
  blocks = λ y k. refl;
  debts = λ y t k. grind (arith, e, k);
  lists = λ t. refl;
  active = λ t l. refl;
  put = λ t. refl;
}

passed_gone : (d : Debt) → Moves.passed d ≡ Gone → d ≡ Gone
passed_gone Unscanned e = absurd (cc e)
passed_gone Marked e = absurd (cc e)
passed_gone Gone e = refl
passed_gone Skipped e = absurd (cc e)
passed_gone Owing e = absurd (cc e)
passed_gone (Loose j) e = absurd (cc e)
passed_gone Counted e = absurd (cc e)

passed_stay : (n x : ℕ) (m : State) → NoneGone x m → (t : ℕ) → put m.debt x (Moves.passed_all n (m.debt x)) x t ≡ Gone → ⊥
passed_stay n x m none t = at (eqb x x)
  where
    there : (b : Bool) → cond b (Moves.passed (m.debt x t)) (m.debt x t) ≡ Gone → ⊥
    there true e = none t (passed_gone (m.debt x t) e)
    there false e = none t e

    at : (b : Bool) → cond b (Moves.passed_all n (m.debt x)) (m.debt x) t ≡ Gone → ⊥
    at true e = there (ltb t n) e
    at false e = none t e

passed_marks : (n x : ℕ) (m : State) → Inv n m → MarksActive x m → ((t : ℕ) → m.seen x ≤ t → t < n → is_active (m.head t) ≡ false) → MarksActive x (passed_rest n m x)
passed_marks n x m inv h rest = record { marks = λ t l. at t (eqb x x) (eqb-false x x) l; stay = passed_stay n x m h.stay }
  where
    there : (t : ℕ) (b : Bool) → ltb t n ≡ b → t < n → waits (cond b (Moves.passed (m.debt x t)) (m.debt x t)) ≡ is_active (m.head t)
    there t true e k = all_marked n x m inv h rest t k
    there t false e k = absurd (cc (e, lt-ltb t n k))

    at : (t : ℕ) (b : Bool) → (b ≡ false → x ≡ x → ⊥) → t < cond b n (m.seen x) → waits (cond b (Moves.passed_all n (m.debt x)) (m.debt x) t) ≡ is_active (m.head t)
    at t true g k = there t (ltb t n) refl k
    at t false g k = absurd (g refl refl)

-- or all that are left
pub passes_follows : (batch_size n i s : ℕ) (m : State) (before : List ℕ) (target : After) → Setting batch_size n i s Trying m
    → ((t : ℕ) → m.seen (m.open_batch s) ≤ t → t < n → is_active (m.head t) ≡ false)
    → Tries batch_size n i s m before target → Tries batch_size n i s (passed_rest n m (m.open_batch s)) before target
passes_follows batch_size n i s m before target st idle h =
    let now = st.inv.batches.mine s st.slot_lt in
    scanned_tries batch_size n i s m _ _ _ before target now (passed_alike n s (m.open_batch s) m now) (λ y ne. other_debt (m.open_batch s) y m.debt _ ne)
    (passed_marks n (m.open_batch s) m st.inv h.marks idle) h

-- it finds one active
pub finds_follows : (batch_size n i s : ℕ) (m : State) (before : List ℕ) (target : After) → Setting batch_size n i s Trying m
    → (t : ℕ) → t < n → m.seen (m.open_batch s) ≡ t → is_active (m.head t) ≡ true
    → Tries batch_size n i s m before target → Tries batch_size n i s m before target × (is_active (m.head t) ≡ true)
finds_follows batch_size n i s m before target st t l e active h = (h, active)

-- and marks it
pub marks_follows : (batch_size n i s : ℕ) (m : State) (before : List ℕ) (target : After) (t : ℕ) → Setting batch_size n i s (Marking t) m
    → t < n → m.seen (m.open_batch s) ≡ t
    → Tries batch_size n i s m before target × (is_active (m.head t) ≡ true) → Tries batch_size n i s (Moves.marked m (m.open_batch s) t) before target
marks_follows batch_size n i s m before target t st l e h =
    let now = st.inv.batches.mine s st.slot_lt in
    scanned_tries batch_size n i s m _ _ _ before target now (marked_alike n s (m.open_batch s) t m now) (λ y ne. other_debt (m.open_batch s) y m.debt _ ne)
    (marked_marks (m.open_batch s) t m e h.1 h.0.marks) h.0

-- as many slots are marked as the list has

abbrev counted_below : List ℕ → ℕ → ℕ
counted_below l zero = 0
counted_below l (suc n) = counted_below l n + count n l

none_below : (n : ℕ) → counted_below [] n ≡ 0
none_below zero = refl
none_below (suc n) = let ih = none_below n in omega (arith, ih)

one_below : (y n : ℕ) (l : List ℕ) → y < n → counted_below (y ∷ l) n ≡ suc (counted_below l n)
one_below y zero l k = absurd (omega (arith, k))
one_below y (suc n) l k = at (eqb n y) refl (λ j. one_below y n l j)
  where
    above : (j : ℕ) → j ≤ y → counted_below (y ∷ l) j ≡ counted_below l j
    above zero h = refl
    above (suc j) h = let ih = above j (omega (arith, h)) in grind (arith, ih, h)

    at : (b : Bool) → eqb n y ≡ b → (y < n → counted_below (y ∷ l) n ≡ suc (counted_below l n)) → counted_below (y ∷ l) n + (same n y + count n l) ≡ suc (counted_below l n + count n l)
    at true e ih = let a = eqb-true n y e in let b = above n (omega (arith, a)) in grind (arith, e, b)
    at false e ih = let a = eqb-false n y e in let b = ih (omega (arith, a, k)) in grind (arith, e, b)

all_below : (n : ℕ) (l : List ℕ) → ((t : ℕ) → (count t l ≡ 0 → ⊥) → t < n) → counted_below l n ≡ length l
all_below n [] h = none_below n
all_below n (y ∷ l) h =
    let a = one_below y n l (h y (λ e. grind (arith, e))) in
    let ih = all_below n l (λ t ne. h t (λ e. ne (grind (arith, e)))) in
    omega (arith, a, ih)

below_total : (d : ℕ → Debt) (l : List ℕ) (n : ℕ) → ((t : ℕ) → count t l ≡ is_marked (d t)) → counted_below l n ≡ total is_marked d n
below_total d l zero h = refl
below_total d l (suc n) h = let ih = below_total d l n h in omega (arith, ih, h n)

seen_marked : (d : Debt) (t k : ℕ) → (is_marked d ≡ 0 → ⊥) → SeenIs d t k → t < k
seen_marked d t k ne h = grind (arith, ne, h)

marked_length : (n x : ℕ) (m : State) → Inv n m → length (m.todo x) ≡ total is_marked (m.debt x) n
marked_length n x m inv =
    let a = below_total (m.debt x) (m.todo x) n (λ t. inv.debts.marked x t) in
    let b = all_below n (m.todo x) (λ t ne. let c = seen_marked (m.debt x t) t (m.seen x) (λ z. ne (cc (inv.debts.marked x t, z))) (inv.debts.scanned x t) in omega (arith, c, inv.debts.seen_le x)) in
    omega (arith, a, b)

-- an open batch has put no entry
none_put : (n s x : ℕ) (m : State) → Inv n m → m.stage x ≡ Open s → total was_put (m.debt x) n ≡ 0
none_put n s x m inv e = grind (arith, inv.batches.tally x, e)

open_counter : (n s x : ℕ) (m : State) → Inv n m → m.stage x ≡ Open s → m.counter x ≡ 0
open_counter n s x m inv e = grind (arith, inv.batches.tally x, e)

open_waiting : (n s x : ℕ) (m : State) → Inv n m → m.stage x ≡ Open s → length (waiting n (m.debt x)) ≡ length (m.todo x)
open_waiting n s x m inv e =
    let a = waiting_length (m.debt x) n in
    let b = none_put n s x m inv e in
    let c = put_parts (m.debt x) n in
    let d = marked_length n x m inv in
    omega (arith, a, b, c, d)

-- the try is given up

appended_length : (l : List ℕ) (b : Bool) (n : ℕ) → length (l ++ cond b (n ∷ []) []) ≡ length l + cond b 1 0
appended_length l b n = let a = length-append l (cond b (n ∷ []) []) in grind (arith, a)

-- fewer numbers pass a test that is never met where the other isn't
fewer : (p q : ℕ → Bool) (n : ℕ) → ((t : ℕ) → t < n → q t ≡ true → p t ≡ true) → length (ascending q n) ≤ length (ascending p n)
fewer p q zero h = omega arith
fewer p q (suc n) h =
    let ih = fewer p q n (λ t l. h t (omega (arith, l))) in
    let a = appended_length (ascending q n) (q n) n in
    let b = appended_length (ascending p n) (p n) n in
    at (q n) (p n) (h n (omega arith)) _ _ _ _ ih a b
  where
    at : (y z : Bool) → (y ≡ true → z ≡ true) → (i j k l : ℕ) → i ≤ j → k ≡ i + cond y 1 0 → l ≡ j + cond z 1 0 → k ≤ l
    at true true g i j k l ih a b = omega (arith, ih, a, b)
    at true false g i j k l ih a b = absurd (cc (g refl))
    at false true g i j k l ih a b = omega (arith, ih, a, b)
    at false false g i j k l ih a b = omega (arith, ih, a, b)

one_fewer : (p q : ℕ → Bool) (n k : ℕ) → ((t : ℕ) → t < n → q t ≡ true → p t ≡ true) → k < n → q k ≡ false → p k ≡ true → length (ascending q n) < length (ascending p n)
one_fewer p q zero k h l e f = absurd (omega (arith, l))
one_fewer p q (suc n) k h l e f =
    at (eqb n k) refl (λ j. one_fewer p q n k (λ t o. h t (omega (arith, o))) j e f) (appended_length (ascending q n) (q n) n) (appended_length (ascending p n) (p n) n)
  where
    last : (y z : Bool) → y ≡ false → z ≡ true → (i j g o : ℕ) → i ≤ j → g ≡ i + cond y 1 0 → o ≡ j + cond z 1 0 → g < o
    last true z a b i j g o ih c d = absurd (cc a)
    last false true a b i j g o ih c d = omega (arith, ih, c, d)
    last false false a b i j g o ih c d = absurd (cc b)

    before : (y z : Bool) → (y ≡ true → z ≡ true) → (i j g o : ℕ) → i < j → g ≡ i + cond y 1 0 → o ≡ j + cond z 1 0 → g < o
    before true true r i j g o ih a b = omega (arith, ih, a, b)
    before true false r i j g o ih a b = absurd (cc (r refl))
    before false true r i j g o ih a b = omega (arith, ih, a, b)
    before false false r i j g o ih a b = omega (arith, ih, a, b)

    at : (b : Bool) → eqb n k ≡ b → (k < n → length (ascending q n) < length (ascending p n))
        → length (ascending q n ++ cond (q n) (n ∷ []) []) ≡ length (ascending q n) + cond (q n) 1 0
        → length (ascending p n ++ cond (p n) (n ∷ []) []) ≡ length (ascending p n) + cond (p n) 1 0
        → length (ascending q (suc n)) < length (ascending p (suc n))
    at true g ih c d = let r = eqb-true n k g in last (q n) (p n) (cc (e, r)) (cc (f, r)) _ _ _ _ (fewer p q n (λ t o. h t (omega (arith, o)))) c d
    at false g ih c d = let r = eqb-false n k g in before (q n) (p n) (h n (omega arith)) _ _ _ _ (ih (omega (arith, l, r))) c d

-- a slot that isn't scanned isn't waited for
unseen_waits : (d : Debt) (t k : ℕ) → SeenIs d t k → k ≤ t → waits d ≡ false
unseen_waits d t k h l = grind (arith, h, l)

-- a slot more is active than the batch has blocks
not_enough : (n s t : ℕ) (m : State) (order : List ℕ) (sets : Sets) (aside : List Batch) → s < n → Inv n m → Models n m order (with_closed sets aside)
    → t < n → m.seen (m.open_batch s) ≡ t → is_active (m.head t) ≡ true → length (m.todo (m.open_batch s)) ≡ length (m.blocks (m.open_batch s)) → MarksActive (m.open_batch s) m
    → is_enough s sets ≡ false
not_enough n s t m order sets aside l inv h k e active full marks =
    let x = m.open_batch s in
    let a = open_waiting n s x m inv (inv.batches.mine s l) in
    let b = one_fewer (λ u. is_active (m.head u)) (λ u. waits (m.debt x u)) n t (λ u o w. below u (ltb u (m.seen x)) refl w) k (unseen_waits (m.debt x t) t (m.seen x) (inv.debts.scanned x t) (omega (arith, e))) active in
    let c = ap (λ (z : List ℕ). length z) h.active in
    let d = ap (λ (z : List ℕ). length z) (h.opened s l) in
    ap not (lt-ltb (length (sets.open_batch s)) (length sets.active) (omega (arith, a, b, c, d, full)))
  where
    below : (u : ℕ) (b : Bool) → ltb u (m.seen (m.open_batch s)) ≡ b → waits (m.debt (m.open_batch s) u) ≡ true → is_active (m.head u) ≡ true
    below u true g w = let r = marks.marks u (ltb-true u (m.seen (m.open_batch s)) g) in cc (r, w)
    below u false g w = let r = unseen_waits (m.debt (m.open_batch s) u) u (m.seen (m.open_batch s)) (inv.debts.scanned (m.open_batch s) u) (ltb-false u (m.seen (m.open_batch s)) g) in absurd (cc (r, w))

given_up_only : (i x : ℕ) (m : State) → OpenOnly i x m (Moves.given_up m x)
given_up_only i x m = record { same_loose = refl; same_from = refl; blocks = λ y ne. refl; debts = λ y ne. other_debt x y m.debt _ ne; logged = refl }

pub gives_up_follows : (batch_size n i s : ℕ) (m : State) (before : List ℕ) (target : After) → Setting batch_size n i s Trying m
    → (t : ℕ) → t < n → m.seen (m.open_batch s) ≡ t → is_active (m.head t) ≡ true → length (m.todo (m.open_batch s)) ≡ length (m.blocks (m.open_batch s)) → NoneLeft i m
    → Tries batch_size n i s m before target → Plainly batch_size n i s (Moves.given_up m (m.open_batch s)) before target
gives_up_follows batch_size n i s m before target st t l e active full none h =
    let x = m.open_batch s in
    let now = st.inv.batches.mine s st.slot_lt in
    let few = not_enough n s t m h.order h.sets _ st.slot_lt st.inv h.base.working.models l e active full h.marks in
    let rest = ap (λ (y : Bool). tried true y (length h.sets.active == 0) (retired_all batch_size h.bound s (m.pending i) h.sets)
    (rest_given batch_size h.bound_back s (h.sets.open_batch s) [] (m.pending i) (with_open h.sets s [])) (retired_all batch_size h.bound s (m.pending i) (closing s h.sets))) few in
    retires_plainly batch_size n i s _ before target (m.pending i) (record { left = none.left; puts = none.puts }) refl
    (record {
      order = h.order;
      sets = h.sets;
      bound = h.bound;
      base = open_on batch_size n i s x m _ before target h.order [] h.sets h.sets _ _ h.base now (given_up_only i x m)
          (λ aside k. models_alike n m _ h.order _ k (given_up_alike n s x m now)) rest;
      enough = h.bounds.enough;
    })

-- the batch is closed

marked_waits : (d : Debt) → (is_marked d ≡ 0 → ⊥) → waits d ≡ true
marked_waits d ne = grind (arith, ne)

marks_active : (x : ℕ) (head : ℕ → Head) (l : List ℕ) → ((t : ℕ) → (count t l ≡ 0 → ⊥) → is_active (head t) ≡ true) → AllActive head l
marks_active x head [] h = tt
marks_active x head (t ∷ l) h = (h t (λ e. grind (arith, e)), marks_active x head l (λ u ne. h u (λ e. ne (grind (arith, e)))))

-- every slot marked is active
todo_active : (n x : ℕ) (m : State) → Inv n m → MarksActive x m → AllActive m.head (m.todo x)
todo_active n x m inv h = marks_active x m.head (m.todo x) one
  where
    one : (t : ℕ) → (count t (m.todo x) ≡ 0 → ⊥) → is_active (m.head t) ≡ true
    one t ne =
        let k : is_marked (m.debt x t) ≡ 0 → ⊥ = λ z. ne (cc (inv.debts.marked x t, z)) in
        let a = marked_waits (m.debt x t) k in
        let b = h.marks t (seen_marked (m.debt x t) t (m.seen x) k (inv.debts.scanned x t)) in
        cc (a, b)

-- as many slots are active as are marked, and no more than the batch has blocks
is_enough_marked : (n s : ℕ) (m : State) (order : List ℕ) (sets : Sets) (aside : List Batch) → s < n → Inv n m → Models n m order (with_closed sets aside)
    → m.seen (m.open_batch s) ≡ n → length (m.todo (m.open_batch s)) ≤ length (m.blocks (m.open_batch s)) → MarksActive (m.open_batch s) m → is_enough s sets ≡ true
is_enough_marked n s m order sets aside l inv h e few marks =
    let x = m.open_batch s in
    let a = open_waiting n s x m inv (inv.batches.mine s l) in
    let b = ap (λ (z : List ℕ). length z) (ascending_same (λ t. waits (m.debt x t)) (λ t. is_active (m.head t)) n (λ t k. marks.marks t (omega (arith, k, e)))) in
    let c = ap (λ (z : List ℕ). length z) h.active in
    let d = ap (λ (z : List ℕ). length z) (h.opened s l) in
    ap not (le-ltb (length (sets.open_batch s)) (length sets.active) (omega (arith, a, b, c, d, few)))

closed_only : (n i s x : ℕ) (m : State) → OpenOnly i x m (Moves.closed n m i s x)
closed_only n i s x m = record { same_loose = refl; same_from = refl; blocks = λ y ne. refl; debts = λ y ne. other_debt x y m.debt _ ne; logged = refl }

not_loose_open : (n s x t j : ℕ) (m : State) → Inv n m → m.stage x ≡ Open s → m.debt x t ≡ Loose j → ⊥
not_loose_open n s x t j m inv e k = grind (arith, inv.debts.scanned x t, inv.debts.seen_le x, total_zero was_put (m.debt x) n t (none_put n s x m inv e), k)

passed_not_loose : (b : Bool) (d : Debt) (j : ℕ) → (d ≡ Loose j → ⊥) → cond b (Moves.passed d) d ≡ Loose j → ⊥
passed_not_loose b d j h e = grind (arith, h, e)

closed_here : (n x : ℕ) (d : ℕ → ℕ → Debt) → put d x (Moves.passed_all n (d x)) x ≡ Moves.passed_all n (d x)
closed_here n x d = grind arith

closed_stage : (n i s : ℕ) (m : State) (x : ℕ) → Inv n m → m.stage x ≡ Open s → (Moves.closed n m i s x).stage x ≡ Closing i
closed_stage n i s m x inv e = grind (arith, e, inv.batches.fresh m.next)

waits_of : (b c : Batch) (l r : List Batch) → (b ∷ l) ≡ (c ∷ r) → b.waits_for ≡ c.waits_for
waits_of b c l r e = ap (λ (a : Batch). a.waits_for) (first b c l r e)
  where
    first : {X : Type 0} (a b : X) (l r : List X) → (a ∷ l) ≡ (b ∷ r) → a ≡ b
    first a b l r e = cc e

closed_waits : (n s x : ℕ) (m : State) (order : List ℕ) (sets : Sets) (aside : List Batch) → Models n m (x ∷ order) (with_closed (closing s sets) ((closing s sets).closed ++ aside))
    → waiting n (m.debt x) ≡ sets.active
closed_waits n s x m order sets aside h = waits_of _ _ _ _ h.closed

-- what a try with enough blocks comes to, by whether a slot is active
tried_some : (none : Bool) (p q r : After) → tried true true none p q r ≡ cond (not none) r q
tried_some true p q r = refl
tried_some false p q r = refl

pub closes_follows : (batch_size n i s : ℕ) (m : State) (before : List ℕ) (target : After) → Setting batch_size n i s Trying m
    → m.seen (m.open_batch s) ≡ n → length (m.todo (m.open_batch s)) ≤ length (m.blocks (m.open_batch s)) → (m.blocks (m.open_batch s) ≡ [] → ⊥) → NoneLeft i m
    → Tries batch_size n i s m before target → Puts batch_size n i s (Moves.closed n m i s (m.open_batch s)) before target
closes_follows batch_size n i s m before target st e few ne none h =
    let x = m.open_batch s in
    let enough = is_enough_marked n s m h.order h.sets _ st.slot_lt st.inv models e few h.marks in
    let scan = all_marked n x m st.inv h.marks (λ t k l. absurd (omega (arith, k, l, e))) in
    let b = tried_some none_active later back closed in
    let kept = open_kept batch_size n i s x m m2 before target h.order (x ∷ []) h.sets (closing s h.sets) _ _ h.base now (closed_only n i s x m)
    (λ aside k. closed_models n i s x m h.order (with_closed h.sets (h.sets.closed ++ aside)) st.inv st.slot_lt now refl scan k) (cc b) in
    puts kept.0 kept.1
  where
    m2 : State
    m2 = Moves.closed n m i s (m.open_batch s)

    now : m.stage (m.open_batch s) ≡ Open s
    now = st.inv.batches.mine s st.slot_lt

    models : Models n m h.order (with_closed h.sets (h.sets.closed ++ (h.base.working.passed ++ h.base.working.to_come)))
    models = h.base.working.models

    none_active : Bool
    none_active = length h.sets.active == 0

    later : After
    later = retired_all batch_size h.bound s (m.pending i) h.sets

    back : After
    back = rest_given batch_size h.bound_back s (h.sets.open_batch s) [] (m.pending i) (with_open h.sets s [])

    closed : After
    closed = retired_all batch_size h.bound s (m.pending i) (closing s h.sets)

    uncounted : total counts (put m.debt (m.open_batch s) (Moves.passed_all n (m.debt (m.open_batch s))) (m.open_batch s)) n ≡ 0
    uncounted =
        let x = m.open_batch s in
        let a = ap (λ (d : ℕ → Debt). total counts d n) (closed_here n x m.debt) in
        let b = passed_total was_put n (m.debt x) passed_put in
        let c = none_put n s x m st.inv now in
        let d = put_parts (Moves.passed_all n (m.debt x)) n in
        omega (arith, a, b, c, d)

    puts : (b : Base batch_size n i s m2 before target (m.open_batch s ∷ h.order) (closing s h.sets) (cond (not none_active) closed back) []) → b.lined.behind ≡ h.base.lined.behind
        → Puts batch_size n i s m2 before target
    puts b same =
        let x = m.open_batch s in
        record {
          y = x;
          order = h.order;
          sets = h.sets;
          bound = h.bound;
          bound_back = h.bound_back;
          some = not none_active;
          base = b;
          bounds = h.bounds;
          none_left = record { left = none.left; puts = none.puts };
          stage = closed_stage n i s m x st.inv now;
          blocks = models.opened s st.slot_lt;
          counter = open_counter n s x m st.inv now;
          uncounted = uncounted;
          not_loose = λ t j k. passed_not_loose (ltb t n) (m.debt x t) j (not_loose_open n s x t j m st.inv now) (cc (ap (λ (d : ℕ → Debt). d t) (closed_here n x m.debt), k));
          active = todo_active n x m st.inv h.marks;
          stay = passed_stay n x m h.marks.stay;
          waits_for = ap (λ (l : List ℕ). not (length l == 0)) (closed_waits n s x m2 h.order h.sets (b.working.passed ++ b.working.to_come) b.working.models);
          newest = let a = ap (count x) same in let c = not_behind n i s x m h.order h.base.working.to_come _ h.base.lined models now in cc (a, c);
        }
