-- A step may lead to finitely many outcomes: where each of them has a number, one number does for all.
use Rattle.std.specs.Prelude.{◌≡◌, ◌≢◌, ℕ, zero, suc, ◌+◌, ◌<◌, ◌≤◌, ◌==◌, ◌&&◌, ◌^◌, Bool, true, false, cond, length, Option, Some, None, Ok, Err}
use Rattle.std.proofs.Common.{refl, sym, ◌∙◌, ap, arith, ⊎_elim}
use Rattle.std.proofs.lemmas.Bool.{eqb-true, eqb-false, false≢true, cases_lt}
use Rattle.seize_words.specs.OneMemory.Mem.{Mem, Gives, block_of, value_at, word_at}
use Rattle.seize_words.specs.OneMemory.Op.{Op, Out, Load, Store, Swap, Add, Or, Exchange, Make, Take, Rewrite, Room, Found, Stored, Exchanged, Made, Taken, Roomed}
use Rattle.seize_words.specs.OneMemory.Place.{capacity}
use Rattle.seize_words.specs.OneMemory.Plan.{Then, Now, Seeing, Sure, Ends}
use Rattle.seize_words.specs.declared.fault.Fault.TheVariants.{Memory}
use Rattle.owner_whole.specs.Strides.Within.{of_some, all_below, is_free, of_answers, of_ends}
use Rattle.map_measures.proofs.Passes.Places.{second as second_so}
use Rattle.seize_words.proofs.General.{and_true as both}

-- where it is so for a number, it is for all larger ones
abbrev pub Grows : (ℕ → Bool) → Type 0
Grows f = (n k : ℕ) → n ≤ k → f n ≡ true → f k ≡ true

abbrev pub HasBound : (ℕ → Bool) → Type 0
HasBound f = (n : ℕ) × (f n ≡ true)

some_bound : {T : Type 0} (x : Option T) (f : ℕ → T → Bool) → ((v : T) → x ≡ Some v → HasBound (λ n. f n v)) → HasBound (λ n. of_some x (f n))
some_bound None f h = (0, refl)
some_bound (Some v) f h = h v refl

both_bound : (a b : ℕ → Bool) → Grows a → Grows b → HasBound a → HasBound b → HasBound (λ n. a n && b n)
both_bound a b up up2 (n, p) (k, q) = (n + k, both (a (n + k)) (b (n + k)) (up n (n + k) (omega arith) p) (up2 k (n + k) (omega arith) q))

pub first_so : (a b : Bool) → (a && b) ≡ true → a ≡ true
first_so true b e = refl
first_so false b e = e

pub below_up : (f g : ℕ → Bool) → ((i : ℕ) → f i ≡ true → g i ≡ true) → (n : ℕ) → all_below n f ≡ true → all_below n g ≡ true
unfolding all_below
below_up f g up zero p = refl
below_up f g up (suc n) p = both (g n) (all_below n g) (up n (first_so (f n) (all_below n f) p)) (below_up f g up n (second_so (f n) (all_below n f) p))

below_bound : (f : ℕ → ℕ → Bool) → ((i : ℕ) → Grows (λ n. f n i)) → (k : ℕ) → ((i : ℕ) → i < k → HasBound (λ n. f n i)) → HasBound (λ n. all_below k (f n))
unfolding all_below
below_bound f up zero h = (0, refl)
below_bound f up (suc k) h =
    both_bound (λ n. f n k) (λ n. all_below k (f n)) (up k) (λ n j le e. below_up (f n) (f j) (λ i. up i n j le) k e)
    (h k (omega arith)) (below_bound f up k (λ i l. h i (omega arith)))

lt_of : (i n : ℕ) → i < suc n → (i ≡ n → ⊥) → i < n
lt_of i n l differs = ⊎_elim (λ e. e) (λ e. absurd (differs (omega (arith, l, e)))) (cases_lt i n)

at_or_below : (f : ℕ → Bool) (n i : ℕ) → f n ≡ true → (i < n → f i ≡ true) → i < suc n → (b : Bool) → (i == n) ≡ b → f i ≡ true
at_or_below f n i at below l true is = ap f (eqb-true i n is) ∙ at
at_or_below f n i at below l false is = below (lt_of i n l (eqb-false i n is))

-- it is so with each number below that one
pub below_so : (f : ℕ → Bool) (n : ℕ) → all_below n f ≡ true → (i : ℕ) → i < n → f i ≡ true
unfolding all_below
below_so f zero e i l = absurd (omega (arith, l))
below_so f (suc n) e i l = at_or_below f n i (first_so (f n) (all_below n f) e) (below_so f n (second_so (f n) (all_below n f) e) i) l (i == n) refl

module _ {T R : Type 0} where
  -- what is left of a step
  pub ends_bound : (shown : ℕ → Option T) (rest : Then T R) (f : ℕ → R → Bool) → ((r : R) → Ends shown rest r → HasBound (λ n. f n r)) → HasBound (λ n. of_ends shown rest (f n))
  ends_bound shown (Now r) f h = h r refl
  ends_bound shown (Seeing block rest) f h =
      some_bound (shown block) (λ n v. of_ends shown (rest v) (f n)) (λ v is. ends_bound shown (rest v) f (λ r e. h r (v, is, e)))
  ends_bound shown (Sure fact rest) f h = ends_bound shown rest f h

  pub ends_so : (shown : ℕ → Option T) (rest : Then T R) (ok : R → Bool) → of_ends shown rest ok ≡ true → (r : R) → Ends shown rest r → ok r ≡ true
  ends_so shown (Now x) ok e r is = ap ok is ∙ e
  ends_so shown (Seeing block rest) ok e r (v, is, ends) = ends_so shown (rest v) ok (sym (ap (λ x. of_some x (λ y. of_ends shown (rest y) ok)) is) ∙ e) r ends
  ends_so shown (Sure fact rest) ok e r is = ends_so shown rest ok e r is

module _ {T : Type 0} (m : Mem T) where
  free_so : {B : Type 0} (x : Option B) → is_free x ≡ true → x ≡ None
  free_so None e = refl
  free_so (Some x) e = absurd (false≢true e)

  lt_zero : (b : ℕ) → (b ≡ 0 → ⊥) → 0 < b
  lt_zero b differs = ⊎_elim (λ l. l) (λ l. absurd (differs (omega (arith, l)))) (cases_lt 0 b)

  -- a number that a make may take
  may_take : (f : ℕ → Bool) (b : ℕ) → ((block_of m b ≡ None) × (0 < b) → HasBound f) → (zero_is : Bool) → (b == 0) ≡ zero_is → (free : Bool) → is_free (block_of m b) ≡ free
      → HasBound (λ n. cond zero_is true (cond free (f n) true))
  may_take f b h true e free e2 = (0, refl)
  may_take f b h false e true e2 = h (free_so (block_of m b) e2, lt_zero b (eqb-false b 0 e))
  may_take f b h false e false e2 = (0, refl)

  by_eq : (f g : ℕ → Bool) (x y : ℕ) → (x ≡ y → HasBound f) → (x ≢ y → HasBound g) → (b : Bool) → (x == y) ≡ b → HasBound (λ n. cond b (f n) (g n))
  by_eq f g x y p q true e = p (eqb-true x y e)
  by_eq f g x y p q false e = q (eqb-false x y e)

  cond_grows : (f : ℕ → Bool) (a b : Bool) → Grows f → Grows (λ n. cond a true (cond b (f n) true))
  cond_grows f true b up n k le e = refl
  cond_grows f false true up n k le e = up n k le e
  cond_grows f false false up n k le e = refl

  if_grows : (f : ℕ → Bool) (a : Bool) → Grows f → Grows (λ n. cond a (f n) true)
  if_grows f true up n k le e = up n k le e
  if_grows f false up n k le e = refl

  pub answers_bound : (op : Op T) (f : ℕ → Out T → Bool) → ((out : Out T) → Grows (λ n. f n out)) → ((out : Out T) → Gives m op out → HasBound (λ n. f n out)) → HasBound (λ n. of_answers m op (f n))
  answers_bound (Load at) f up h = some_bound (word_at m at) (λ n w. f n (Found w)) (λ w is. h (Found w) is)
  answers_bound (Store at new) f up h = h Stored tt
  answers_bound (Swap at new) f up h = some_bound (word_at m at) (λ n w. f n (Found w)) (λ w is. h (Found w) is)
  answers_bound (Add at by) f up h = some_bound (word_at m at) (λ n w. f n (Found w)) (λ w is. h (Found w) is)
  answers_bound (Or at bits) f up h = some_bound (word_at m at) (λ n w. f n (Found w)) (λ w is. h (Found w) is)
  answers_bound (Exchange at old new) f up h =
      some_bound (word_at m at) (λ n w. cond (w == old) (f n (Exchanged (Ok w))) (f n (Exchanged (Err w))))
      (λ w is. by_eq (λ n. f n (Exchanged (Ok w))) (λ n. f n (Exchanged (Err w))) w old (λ e. h (Exchanged (Ok w)) (is, e)) (λ differs. h (Exchanged (Err w)) (is, differs)) (w == old) refl)
  answers_bound (Make value words) f up h =
      both_bound (λ n. f n (Made (Err value))) (λ n. all_below (2 ^ 53) (λ b. cond (b == 0) true (cond (is_free (block_of m b)) (f n (Made (Ok b))) true)))
      (up (Made (Err value)))
      (λ n k le e. below_up (λ b. cond (b == 0) true (cond (is_free (block_of m b)) (f n (Made (Ok b))) true)) (λ b. cond (b == 0) true (cond (is_free (block_of m b)) (f k (Made (Ok b))) true))
      (λ b. cond_grows (λ j. f j (Made (Ok b))) (b == 0) (is_free (block_of m b)) (up (Made (Ok b))) n k le) (2 ^ 53) e)
      (h (Made (Err value)) refl)
      (below_bound (λ n b. cond (b == 0) true (cond (is_free (block_of m b)) (f n (Made (Ok b))) true)) (λ b. cond_grows (λ j. f j (Made (Ok b))) (b == 0) (is_free (block_of m b)) (up (Made (Ok b)))) (2 ^ 53)
      (λ b l. may_take (λ n. f n (Made (Ok b))) b (λ free. h (Made (Ok b)) (free, l)) (b == 0) refl (is_free (block_of m b)) refl))
  answers_bound (Take b) f up h = some_bound (value_at m b) (λ n v. f n (Taken v)) (λ v is. h (Taken v) is)
  answers_bound (Rewrite b new) f up h = some_bound (value_at m b) (λ n v. f n (Taken v)) (λ v is. h (Taken v) is)
  answers_bound (Room bucket) f up h =
      both_bound (λ n. f n (Roomed (Ok tt))) (λ n. cond (length m.slots + 32 == capacity bucket) (f n (Roomed (Err Memory))) true)
      (up (Roomed (Ok tt))) (if_grows (λ n. f n (Roomed (Err Memory))) (length m.slots + 32 == capacity bucket) (up (Roomed (Err Memory))))
      (h (Roomed (Ok tt)) tt)
      (by_eq (λ n. f n (Roomed (Err Memory))) (λ n. true) (length m.slots + 32) (capacity bucket) (λ e. h (Roomed (Err Memory)) (refl, e)) (λ differs. (0, refl)) (length m.slots + 32 == capacity bucket) refl)
