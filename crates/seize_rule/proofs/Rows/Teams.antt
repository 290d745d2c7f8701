-- Which rows work on each slot, and what their number says of the slot's use.
use Rattle.std.specs.Prelude.{if◌then◌else◌}
use Rattle.std.proofs.Common.{◌≡◌, ℕ, ◌+◌, Bool, true, false, cond, eqb, List, [], ◌∷◌, length, refl, arith, eqb-true}
use Rattle.std.proofs.lemmas.Bool.{eqb-false}
use Rattle.seize_moves.specs.Given.SeizeLaw.{Effect, is_open}
use Rattle.seize_moves.specs.Given.SeizeWorld.{Row, Rests, Registers, Enters, Settles, Leaves, Defers, Frees, Use, Vacant, Outside, Inside, Changing, with_at}
use Rattle.seize_moves.specs.Waiting.Held.{same, count}
use Rattle.seize_moves.proofs.Moves.State.Ghost.{Head, Never, Free, Idle, Active, emptied}
use Rattle.seize_rule.proofs.Rows.Known.{works_on}

-- how many rows work on a slot that nobody is registered at: one that has taken it, and is to enter it
abbrev pub VacantHead : Head → ℕ → Type 0
VacantHead Never k = k ≡ 0
VacantHead Free k = k ≡ 0
VacantHead Idle k = k ≡ 1
VacantHead (Active es) k = ⊥

abbrev pub is_taken : Head → Bool
is_taken Never = false
is_taken Free = false
is_taken Idle = true
is_taken (Active es) = true

-- a slot of this head, without its list, that k rows work on
abbrev pub UseFits : Use → Head → ℕ → Bool → Type 0
UseFits Vacant h k open_now = VacantHead h k
UseFits (Outside j) h k open_now = (h ≡ Idle) × (k ≡ j)
UseFits (Inside j) h k open_now = (h ≡ Active []) × (k ≡ j) × (open_now ≡ true)
UseFits Changing h k open_now = (is_taken h ≡ true) × (k ≡ 1)

-- the row works on its slot beside others, and no section of it begins or ends while it does
abbrev pub shares : Row → Bool
shares Rests = false
shares (Registers c) = false
shares (Enters c) = false
shares (Settles c) = true
shares (Leaves c) = false
shares (Defers s c) = true
shares (Frees c) = false

abbrev pub is_shared : Use → Bool
is_shared Vacant = false
is_shared (Outside j) = true
is_shared (Inside j) = true
is_shared Changing = false

pub record Used (head : ℕ → Head) (log : List Effect) (row : ℕ → Row) (uses : ℕ → Use) : Type 0 where
  pub team : ℕ → List ℕ  -- by slot: the rows that work on it
  pub teamed : (s i : ℕ) → count i (team s) ≡ same (s + 1) (works_on (row i))
  pub fits : (s : ℕ) → UseFits (uses s) (emptied (head s)) (length (team s)) (is_open s log)
  pub kinds : (i s : ℕ) → works_on (row i) ≡ s + 1 → shares (row i) ≡ is_shared (uses s)

-- lists of rows

abbrev pub off : ℕ → List ℕ → List ℕ
off i [] = []
off i (j ∷ l) = cond (eqb i j) l (j ∷ off i l)

pub count_off : (i j : ℕ) (l : List ℕ) → count i l ≡ 1 → count j (off i l) ≡ cond (eqb j i) 0 (count j l)
count_off i j [] h = absurd (cc h)
count_off i j (a ∷ l) h = at (λ e. count_off i j l e) (eqb i a) (eqb-true i a) (eqb-false i a) refl
  where
    at : (count i l ≡ 1 → count j (off i l) ≡ cond (eqb j i) 0 (count j l)) → (t : Bool) → (t ≡ true → i ≡ a) → (t ≡ false → i ≡ a → ⊥) → eqb i a ≡ t → count j (cond t l (a ∷ off i l)) ≡ cond (eqb j i) 0 (count j (a ∷ l))
    at rest true p q e = grind (arith, p refl, h)
    at rest false p q e = let k : count i l ≡ 1 = grind (arith, h, e) in grind (arith, q refl, h, e, rest k)

pub length_off : (i : ℕ) (l : List ℕ) → count i l ≡ 1 → length l ≡ length (off i l) + 1
length_off i [] h = absurd (cc h)
length_off i (a ∷ l) h = at (λ e. length_off i l e) (eqb i a) refl
  where
    at : (count i l ≡ 1 → length l ≡ length (off i l) + 1) → (t : Bool) → eqb i a ≡ t → length (a ∷ l) ≡ length (cond t l (a ∷ off i l)) + 1
    at rest true e = omega arith
    at rest false e = let k : count i l ≡ 1 = grind (arith, h, e) in let p = rest k in omega (arith, p)

-- nobody is in an empty team, and one alone in a team of one
pub none_in : (j : ℕ) (l : List ℕ) → length l ≡ 0 → count j l ≡ 1 → ⊥
none_in j [] h k = cc k
none_in j (a ∷ l) h k = omega (arith, h)

pub one_in : (i j : ℕ) (l : List ℕ) → length l ≡ 1 → count i l ≡ 1 → count j l ≡ 1 → j ≡ i
one_in i j [] h a b = absurd (cc a)
one_in i j (c ∷ []) h a b = grind (arith, a, b)
one_in i j (c ∷ d ∷ l) h a b = absurd (omega (arith, h))

-- no slot's use changes
pub used_same : (i : ℕ) (head head2 : ℕ → Head) (log log2 : List Effect) (row : ℕ → Row) (uses : ℕ → Use) (r : Row) → Used head log row uses
    → works_on r ≡ works_on (row i) → ((s : ℕ) → works_on r ≡ s + 1 → shares r ≡ shares (row i))
    → ((t : ℕ) → emptied (head2 t) ≡ emptied (head t)) → ((t : ℕ) → is_open t log2 ≡ is_open t log)
    → Used head2 log2 (with_at row i r) uses
used_same i head head2 log log2 row uses r p on kind heads opens = record {
  team = p.team;
  teamed = λ t j. team_at t j (eqb j i) (eqb-true j i);
  fits = λ t. rw (heads t, opens t) (p.fits t);
  kinds = λ j t. kind_at j t (eqb j i) (eqb-true j i);
}
  where
    team_at : (t j : ℕ) (z : Bool) → (z ≡ true → j ≡ i) → count j (p.team t) ≡ same (t + 1) (works_on (if z then r else row j))
    team_at t j true g = rw (on, ← g refl) (p.teamed t j)
    team_at t j false g = p.teamed t j

    kind_at : (j t : ℕ) (z : Bool) → (z ≡ true → j ≡ i) → works_on (if z then r else row j) ≡ t + 1 → shares (if z then r else row j) ≡ is_shared (uses t)
    kind_at j t true g h = let k = kind t h in let q = p.kinds i t (cc (on, h)) in cc (k, q)
    kind_at j t false g h = p.kinds j t h

-- the use of slot s changes, and that of no other slot
pub used_at : (i s : ℕ) (head head2 : ℕ → Head) (log log2 : List Effect) (row : ℕ → Row) (uses : ℕ → Use) (r : Row) (u : Use) (l : List ℕ) (p : Used head log row uses)
    → ((j : ℕ) → count j l ≡ cond (eqb j i) (same (s + 1) (works_on r)) (count j (p.team s)))
    → ((t : ℕ) → works_on r ≡ t + 1 → t ≡ s) → ((t : ℕ) → works_on (row i) ≡ t + 1 → t ≡ s)
    → (works_on r ≡ s + 1 → shares r ≡ is_shared u) → ((j : ℕ) → (j ≡ i → ⊥) → works_on (row j) ≡ s + 1 → shares (row j) ≡ is_shared u)
    → UseFits u (emptied (head2 s)) (length l) (is_open s log2)
    → ((t : ℕ) → (t ≡ s → ⊥) → (emptied (head2 t) ≡ emptied (head t)) × (is_open t log2 ≡ is_open t log))
    → Used head2 log2 (with_at row i r) (with_at uses s u)
used_at i s head head2 log log2 row uses r u l p counted new_on old_on kind kind_others fits same_others = record {
  team = λ t. cond (eqb t s) l (p.team t);
  teamed = λ t j. team_at t j (eqb t s) (eqb-true t s) (eqb-false t s) (eqb j i) (eqb-true j i) refl;
  fits = λ t. fits_at t (eqb t s) (eqb-true t s) (eqb-false t s);
  kinds = λ j t. kind_at j t (eqb j i) (eqb-true j i) (eqb-false j i) (eqb t s) (eqb-true t s) (eqb-false t s);
}
  where
    nobody : (a t : ℕ) → (a ≡ t + 1 → t ≡ s) → (t ≡ s → ⊥) → same (t + 1) a ≡ 0
    nobody a t h ne = at (eqb (t + 1) a) (eqb-true (t + 1) a)
      where
        at : (y : Bool) → (y ≡ true → t + 1 ≡ a) → cond {A = ℕ} y 1 0 ≡ 0
        at true e = absurd (ne (h (cc (e refl))))
        at false e = refl

    others : (t : ℕ) → (t ≡ s → ⊥) → same (t + 1) (works_on r) ≡ same (t + 1) (works_on (row i))
    others t ne = let a = nobody (works_on r) t (new_on t) ne in let b = nobody (works_on (row i)) t (old_on t) ne in cc (a, b)

    kind_at : (j t : ℕ) (z : Bool) → (z ≡ true → j ≡ i) → (z ≡ false → j ≡ i → ⊥) → (y : Bool) → (y ≡ true → t ≡ s) → (y ≡ false → t ≡ s → ⊥)
        → works_on (if z then r else row j) ≡ t + 1 → shares (if z then r else row j) ≡ is_shared (if y then u else uses t)
    kind_at j t true g d true e f h = kind (cc (e refl, h))
    kind_at j t true g d false e f h = absurd (f refl (new_on t h))
    kind_at j t false g d true e f h = kind_others j (d refl) (cc (e refl, h))
    kind_at j t false g d false e f h = p.kinds j t h

    team_at : (t j : ℕ) (y : Bool) → (y ≡ true → t ≡ s) → (y ≡ false → t ≡ s → ⊥) → (z : Bool) → (z ≡ true → j ≡ i) → eqb j i ≡ z
        → count j (cond y l (p.team t)) ≡ same (t + 1) (works_on (if z then r else row j))
    team_at t j true e f true g h = rw (e refl) (let k = counted j in rw h at k)
    team_at t j true e f false g h = rw (e refl) (let k = counted j in let q = p.teamed s j in cc (rw h at k, q))
    team_at t j false e f true g h = let k = p.teamed t j in let q = others t (f refl) in let o = g refl in cc (k, q, o)
    team_at t j false e f false g h = p.teamed t j

    fits_at : (t : ℕ) (y : Bool) → (y ≡ true → t ≡ s) → (y ≡ false → t ≡ s → ⊥) → UseFits (if y then u else uses t) (emptied (head2 t)) (length (cond y l (p.team t))) (is_open t log2)
    fits_at t true e f = rw (e refl) fits
    fits_at t false e f = let q = same_others t (f refl) in rw (q.0, q.1) (p.fits t)

module _ (i s : ℕ) (head head2 : ℕ → Head) (log log2 : List Effect) (row : ℕ → Row) (uses : ℕ → Use) (r : Row) (u : Use) (p : Used head log row uses)
    (same_others : (t : ℕ) → (t ≡ s → ⊥) → (emptied (head2 t) ≡ emptied (head t)) × (is_open t log2 ≡ is_open t log)) where
  on_team : works_on (row i) ≡ s + 1 → count i (p.team s) ≡ 1
  on_team h = let k = p.teamed s i in grind (arith, k, h)

  one_slot : works_on (row i) ≡ s + 1 → (t : ℕ) → works_on (row i) ≡ t + 1 → t ≡ s
  one_slot h t k = omega (arith, h, k)

  -- a row that doesn't share its slot is alone on it
  pub alone_on : works_on (row i) ≡ s + 1 → shares (row i) ≡ false → length (p.team s) ≡ 1
  alone_on h k = at (uses s) (emptied (head s)) (p.kinds i s h) (p.fits s)
    where
      vacant : (h : Head) → VacantHead h (length (p.team s)) → count i (p.team s) ≡ 1 → length (p.team s) ≡ 1
      vacant Never f c = absurd (none_in i (p.team s) f c)
      vacant Free f c = absurd (none_in i (p.team s) f c)
      vacant Idle f c = f
      vacant (Active es) f c = absurd f

      at : (v : Use) (h2 : Head) → shares (row i) ≡ is_shared v → UseFits v h2 (length (p.team s)) (is_open s log) → length (p.team s) ≡ 1
      at Vacant h2 e f = vacant h2 f (on_team h)
      at (Outside j) h2 e f = absurd (cc (e, k))
      at (Inside j) h2 e f = absurd (cc (e, k))
      at Changing h2 e f = f.1

  pub no_other : works_on (row i) ≡ s + 1 → shares (row i) ≡ false → (j : ℕ) → (j ≡ i → ⊥) → works_on (row j) ≡ s + 1 → ⊥
  no_other h k j ne o = ne (one_in i j (p.team s) (alone_on h k) (on_team h) (let q = p.teamed s j in grind (arith, q, o)))

  -- it ends, and leaves the slot so
  pub alone_ends : works_on (row i) ≡ s + 1 → shares (row i) ≡ false → works_on r ≡ 0 → UseFits u (emptied (head2 s)) 0 (is_open s log2)
      → Used head2 log2 (with_at row i r) (with_at uses s u)
  alone_ends h k o fits = used_at i s head head2 log log2 row uses r u (off i (p.team s)) p
      (λ j. let q = count_off i j (p.team s) (on_team h) in let z : same (s + 1) (works_on r) ≡ 0 = grind (arith, o) in rw z q)
      (λ t e. absurd (omega (arith, o, e))) (one_slot h) (λ e. absurd (omega (arith, o, e))) (λ j ne q. absurd (no_other h k j ne q))
      (let q = length_off i (p.team s) (on_team h) in let a = alone_on h k in let z : length (off i (p.team s)) ≡ 0 = omega (arith, q, a) in rw z fits)
      same_others

  -- it goes on, alone
  pub alone_goes : works_on (row i) ≡ s + 1 → shares (row i) ≡ false → works_on r ≡ s + 1 → shares r ≡ false → is_shared u ≡ false
      → UseFits u (emptied (head2 s)) 1 (is_open s log2) → Used head2 log2 (with_at row i r) (with_at uses s u)
  alone_goes h k o e v fits = used_at i s head head2 log log2 row uses r u (p.team s) p
      (λ j. at j (eqb j i) (eqb-true j i))
      (λ t q. omega (arith, o, q)) (one_slot h) (λ q. cc (e, v)) (λ j ne q. absurd (no_other h k j ne q))
      (let a = alone_on h k in rw a fits) same_others
    where
      at : (j : ℕ) (z : Bool) → (z ≡ true → j ≡ i) → count j (p.team s) ≡ cond z (same (s + 1) (works_on r)) (count j (p.team s))
      at j true g = let q = p.teamed s i in rw (g refl) (cc (q, h, o))
      at j false g = refl

  -- a row begins, alone
  pub alone_begins : works_on (row i) ≡ 0 → length (p.team s) ≡ 0 → works_on r ≡ s + 1 → shares r ≡ is_shared u → UseFits u (emptied (head2 s)) 1 (is_open s log2)
      → Used head2 log2 (with_at row i r) (with_at uses s u)
  alone_begins h none o e fits = used_at i s head head2 log log2 row uses r u (i ∷ []) p
      (λ j. at j (eqb j i) refl)
      (λ t q. omega (arith, o, q)) (λ t q. absurd (omega (arith, h, q))) (λ q. e) (λ j ne q. absurd (none_in j (p.team s) none (let a = p.teamed s j in grind (arith, a, q))))
      fits same_others
    where
      zero_count : (j : ℕ) (l : List ℕ) → length l ≡ 0 → count j l ≡ 0
      zero_count j [] z = refl
      zero_count j (a ∷ l) z = absurd (omega (arith, z))

      at : (j : ℕ) (z : Bool) → eqb j i ≡ z → cond z 1 0 + 0 ≡ cond z (same (s + 1) (works_on r)) (count j (p.team s))
      at j true g = grind (arith, o)
      at j false g = let q = zero_count j (p.team s) none in cc (q)

  -- one more begins beside the others
  pub shared_begins : works_on (row i) ≡ 0 → works_on r ≡ s + 1 → shares r ≡ true → is_shared (uses s) ≡ true → is_shared u ≡ true
      → UseFits u (emptied (head2 s)) (length (p.team s) + 1) (is_open s log2) → Used head2 log2 (with_at row i r) (with_at uses s u)
  shared_begins h o e was v fits = used_at i s head head2 log log2 row uses r u (i ∷ p.team s) p
      (λ j. at j (eqb j i) (eqb-true j i))
      (λ t q. omega (arith, o, q)) (λ t q. absurd (omega (arith, h, q))) (λ q. cc (e, v)) (λ j ne q. let a = p.kinds j s q in cc (a, was, v))
      (let z : length (i ∷ p.team s) ≡ length (p.team s) + 1 = omega arith in rw z fits) same_others
    where
      at : (j : ℕ) (z : Bool) → (z ≡ true → j ≡ i) → cond z 1 0 + count j (p.team s) ≡ cond z (same (s + 1) (works_on r)) (count j (p.team s))
      at j true g = let q = p.teamed s i in rw (g refl) (grind (arith, q, h, o))
      at j false g = omega arith

  -- and one ends
  pub shared_ends : works_on (row i) ≡ s + 1 → shares (row i) ≡ true → works_on r ≡ 0 → is_shared u ≡ true
      → ((k : ℕ) → length (p.team s) ≡ k + 1 → UseFits u (emptied (head2 s)) k (is_open s log2)) → Used head2 log2 (with_at row i r) (with_at uses s u)
  shared_ends h k o v fits = used_at i s head head2 log log2 row uses r u (off i (p.team s)) p
      (λ j. let q = count_off i j (p.team s) (on_team h) in let z : same (s + 1) (works_on r) ≡ 0 = grind (arith, o) in rw z q)
      (λ t e. absurd (omega (arith, o, e))) (one_slot h) (λ e. absurd (omega (arith, o, e)))
      (λ j ne q. let a = p.kinds j s q in let b = p.kinds i s h in cc (a, b, k, v))
      (fits (length (off i (p.team s))) (length_off i (p.team s) (on_team h))) same_others
