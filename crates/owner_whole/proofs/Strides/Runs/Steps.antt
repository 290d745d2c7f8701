-- Where each run comes to an end, a number bounds them, and each step leaves a lower one.
use Rattle.std.specs.Prelude.{◌≡◌, ℕ, zero, suc, ◌<◌, ◌≤◌, ◌+◌, ◌==◌, ◌&&◌, ◌^◌, ◌⊎◌, Bool, true, false, cond, length, Option, Some, None, Ok, Err}
use Rattle.std.proofs.Common.{refl, sym, ◌∙◌, ap, subst, arith, ⊎_elim, inl, inr}
use Rattle.std.proofs.lemmas.Bool.{eqb-true, eq-eqb, false≢true, cases_lt}
use Rattle.seize_words.specs.OneMemory.Mem.{Mem, Can, Took, Gives, after, block_of, value_at, word_at}
use Rattle.seize_words.specs.OneMemory.Op.{Op, Out, Load, Store, Swap, Add, Or, Exchange, Make, Take, Rewrite, Room, Found, Stored, Exchanged, Made, Taken, Roomed}
use Rattle.seize_words.specs.OneMemory.Place.{capacity}
use Rattle.seize_words.specs.OneMemory.Plan.{Plan, Turn, Do, Then, Now, Seeing, Sure, Steps, Ends as Comes, May}
use Rattle.seize_words.specs.declared.fault.Fault.TheVariants.{Memory}
use Rattle.seize.specs.declared.advance.Advance.{Advance}
use Rattle.seize.specs.declared.advance.Advance.TheVariants as progress
use Rattle.owner_whole.specs.Strides.Ending.{Continues, Ends, all_end}
use Rattle.owner_whole.specs.Strides.Within.{of_some, all_below, is_free, of_answers, of_ends, of_steps, if_goes, within, IsLeast, HasLeast}
use Rattle.owner_whole.proofs.Strides.Runs.Bounds.{Grows, HasBound, first_so, below_up, below_so, ends_bound, ends_so, answers_bound}
use Rattle.map_measures.proofs.Passes.Places.{second as second_so}
use Rattle.seize_words.proofs.General.{and_true as both}

some_up : {T : Type 0} (x : Option T) (f g : T → Bool) → ((v : T) → f v ≡ true → g v ≡ true) → of_some x f ≡ true → of_some x g ≡ true
some_up None f g up e = refl
some_up (Some v) f g up e = up v e

some_so : {T : Type 0} (x : Option T) (f : T → Bool) (v : T) → x ≡ Some v → of_some x f ≡ true → f v ≡ true
some_so x f v is e = sym (ap (λ y. of_some y f) is) ∙ e

and_up : (a b c d : Bool) → (a ≡ true → c ≡ true) → (b ≡ true → d ≡ true) → (a && b) ≡ true → (c && d) ≡ true
and_up a b c d p q e = both c d (p (first_so a b e)) (q (second_so a b e))

cond_up : (x a b c d : Bool) → (a ≡ true → c ≡ true) → (b ≡ true → d ≡ true) → cond x a b ≡ true → cond x c d ≡ true
cond_up true a b c d p q e = p e
cond_up false a b c d p q e = q e

cond_so : (x a b : Bool) → x ≡ true → cond x a b ≡ true → a ≡ true
cond_so true a b is e = e
cond_so false a b is e = absurd (false≢true is)

cond_not : (x a b : Bool) → (x ≡ true → ⊥) → cond x a b ≡ true → b ≡ true
cond_not true a b differs e = absurd (differs refl)
cond_not false a b differs e = e

module _ {T : Type 0} where
  answers_up : (m : Mem T) (op : Op T) (f g : Out T → Bool) → ((out : Out T) → f out ≡ true → g out ≡ true) → of_answers m op f ≡ true → of_answers m op g ≡ true
  answers_up m (Load at) f g up e = some_up (word_at m at) (λ w. f (Found w)) (λ w. g (Found w)) (λ w. up (Found w)) e
  answers_up m (Store at new) f g up e = up Stored e
  answers_up m (Swap at new) f g up e = some_up (word_at m at) (λ w. f (Found w)) (λ w. g (Found w)) (λ w. up (Found w)) e
  answers_up m (Add at by) f g up e = some_up (word_at m at) (λ w. f (Found w)) (λ w. g (Found w)) (λ w. up (Found w)) e
  answers_up m (Or at bits) f g up e = some_up (word_at m at) (λ w. f (Found w)) (λ w. g (Found w)) (λ w. up (Found w)) e
  answers_up m (Exchange at old new) f g up e =
      some_up (word_at m at) (λ w. cond (w == old) (f (Exchanged (Ok w))) (f (Exchanged (Err w)))) (λ w. cond (w == old) (g (Exchanged (Ok w))) (g (Exchanged (Err w))))
      (λ w. cond_up (w == old) (f (Exchanged (Ok w))) (f (Exchanged (Err w))) (g (Exchanged (Ok w))) (g (Exchanged (Err w))) (up (Exchanged (Ok w))) (up (Exchanged (Err w)))) e
  answers_up m (Make value words) f g up e =
      and_up (f (Made (Err value))) (all_below (2 ^ 53) (λ b. cond (b == 0) true (cond (is_free (block_of m b)) (f (Made (Ok b))) true)))
      (g (Made (Err value))) (all_below (2 ^ 53) (λ b. cond (b == 0) true (cond (is_free (block_of m b)) (g (Made (Ok b))) true)))
      (up (Made (Err value)))
      (below_up (λ b. cond (b == 0) true (cond (is_free (block_of m b)) (f (Made (Ok b))) true)) (λ b. cond (b == 0) true (cond (is_free (block_of m b)) (g (Made (Ok b))) true))
      (λ b. cond_up (b == 0) true (cond (is_free (block_of m b)) (f (Made (Ok b))) true) true (cond (is_free (block_of m b)) (g (Made (Ok b))) true) (λ x. x)
      (cond_up (is_free (block_of m b)) (f (Made (Ok b))) true (g (Made (Ok b))) true (up (Made (Ok b))) (λ x. x))) (2 ^ 53)) e
  answers_up m (Take b) f g up e = some_up (value_at m b) (λ v. f (Taken v)) (λ v. g (Taken v)) (λ v. up (Taken v)) e
  answers_up m (Rewrite b new) f g up e = some_up (value_at m b) (λ v. f (Taken v)) (λ v. g (Taken v)) (λ v. up (Taken v)) e
  answers_up m (Room bucket) f g up e =
      and_up (f (Roomed (Ok tt))) (cond (length m.slots + 32 == capacity bucket) (f (Roomed (Err Memory))) true)
      (g (Roomed (Ok tt))) (cond (length m.slots + 32 == capacity bucket) (g (Roomed (Err Memory))) true)
      (up (Roomed (Ok tt))) (cond_up (length m.slots + 32 == capacity bucket) (f (Roomed (Err Memory))) true (g (Roomed (Err Memory))) true (up (Roomed (Err Memory))) (λ x. x)) e

  module _ {R : Type 0} where
    ends_up : (shown : ℕ → Option T) (rest : Then T R) (f g : R → Bool) → ((r : R) → f r ≡ true → g r ≡ true) → of_ends shown rest f ≡ true → of_ends shown rest g ≡ true
    ends_up shown (Now r) f g up e = up r e
    ends_up shown (Seeing block rest) f g up e =
        some_up (shown block) (λ v. of_ends shown (rest v) f) (λ v. of_ends shown (rest v) g) (λ v. ends_up shown (rest v) f g up) e
    ends_up shown (Sure fact rest) f g up e = ends_up shown rest f g up e

    steps_up : (m : Mem T) (plan : Plan T R) (f g : Mem T → R → Bool) → ((m2 : Mem T) (r : R) → f m2 r ≡ true → g m2 r ≡ true) → of_steps m plan f ≡ true → of_steps m plan g ≡ true
    steps_up m (Turn rest) f g up e = ends_up (value_at m) rest (f m) (g m) (up m) e
    steps_up m (Do op rest) f g up e =
        answers_up m op (λ out. of_ends (value_at (after m op out)) (rest out) (f (after m op out))) (λ out. of_ends (value_at (after m op out)) (rest out) (g (after m op out)))
        (λ out. ends_up (value_at (after m op out)) (rest out) (f (after m op out)) (g (after m op out)) (up (after m op out))) e

    steps_bound : (m : Mem T) (plan : Plan T R) (f : ℕ → Mem T → R → Bool) → ((m2 : Mem T) (r : R) → Grows (λ n. f n m2 r))
        → ((m2 : Mem T) (r : R) → Steps Took value_at m plan m2 r → HasBound (λ n. f n m2 r)) → HasBound (λ n. of_steps m plan (f n))
    steps_bound m (Turn rest) f up h = ends_bound (value_at m) rest (λ n. f n m) (λ r e. h m r (refl, e))
    steps_bound m (Do op rest) f up h =
        answers_bound m op (λ n out. of_ends (value_at (after m op out)) (rest out) (f n (after m op out)))
        (λ out n k le. ends_up (value_at (after m op out)) (rest out) (f n (after m op out)) (f k (after m op out)) (λ r. up (after m op out) r n k le))
        (λ out g. ends_bound (value_at (after m op out)) (rest out) (λ n. f n (after m op out)) (λ r e. h (after m op out) r (out, (g, refl), e)))

  -- an answer that the operation gives is one of those
  answer_so : (m : Mem T) (op : Op T) (out : Out T) (f : Out T → Bool) → Gives m op out → of_answers m op f ≡ true → f out ≡ true
  answer_so m (Load at) (Found w) f g e = some_so (word_at m at) (λ v. f (Found v)) w g e
  answer_so m (Swap at new) (Found w) f g e = some_so (word_at m at) (λ v. f (Found v)) w g e
  answer_so m (Add at by) (Found w) f g e = some_so (word_at m at) (λ v. f (Found v)) w g e
  answer_so m (Or at bits) (Found w) f g e = some_so (word_at m at) (λ v. f (Found v)) w g e
  answer_so m (Store at new) Stored f g e = e
  answer_so m (Exchange at old new) (Exchanged (Ok w)) f g e =
      cond_so (w == old) (f (Exchanged (Ok w))) (f (Exchanged (Err w))) (eq-eqb w old g.1)
      (some_so (word_at m at) (λ v. cond (v == old) (f (Exchanged (Ok v))) (f (Exchanged (Err v)))) w g.0 e)
  answer_so m (Exchange at old new) (Exchanged (Err w)) f g e =
      cond_not (w == old) (f (Exchanged (Ok w))) (f (Exchanged (Err w))) (λ is. g.1 (eqb-true w old is))
      (some_so (word_at m at) (λ v. cond (v == old) (f (Exchanged (Ok v))) (f (Exchanged (Err v)))) w g.0 e)
  answer_so m (Make value words) (Made (Ok b)) f g e =
      cond_so (is_free (block_of m b)) (f (Made (Ok b))) true (ap is_free g.0.0)
      (cond_not (b == 0) true (cond (is_free (block_of m b)) (f (Made (Ok b))) true) (λ is. let z = g.0.1 in let y = eqb-true b 0 is in omega (arith, z, y))
      (below_so (λ j. cond (j == 0) true (cond (is_free (block_of m j)) (f (Made (Ok j))) true)) (2 ^ 53)
      (second_so (f (Made (Err value))) (all_below (2 ^ 53) (λ j. cond (j == 0) true (cond (is_free (block_of m j)) (f (Made (Ok j))) true))) e) b g.1))
  answer_so m (Make value words) (Made (Err back)) f g e =
      ap (λ v. f (Made (Err v))) g
      ∙ first_so (f (Made (Err value))) (all_below (2 ^ 53) (λ j. cond (j == 0) true (cond (is_free (block_of m j)) (f (Made (Ok j))) true))) e
  answer_so m (Take b) (Taken v) f g e = some_so (value_at m b) (λ x. f (Taken x)) v g e
  answer_so m (Rewrite b new) (Taken v) f g e = some_so (value_at m b) (λ x. f (Taken x)) v g e
  answer_so m (Room bucket) (Roomed (Ok tt)) f g e = first_so (f (Roomed (Ok tt))) (cond (length m.slots + 32 == capacity bucket) (f (Roomed (Err Memory))) true) e
  answer_so m (Room bucket) (Roomed (Err fault)) f g e =
      ap (λ x. f (Roomed (Err x))) g.0
      ∙ cond_so (length m.slots + 32 == capacity bucket) (f (Roomed (Err Memory))) true (eq-eqb (length m.slots + 32) (capacity bucket) g.1)
      (second_so (f (Roomed (Ok tt))) (cond (length m.slots + 32 == capacity bucket) (f (Roomed (Err Memory))) true) e)
  answer_so m _ _ f g e = absurd g

  module _ {R : Type 0} where
    pub steps_so : (m : Mem T) (plan : Plan T R) (f : Mem T → R → Bool) → of_steps m plan f ≡ true → (m2 : Mem T) (r : R) → Steps Took value_at m plan m2 r → f m2 r ≡ true
    steps_so m (Turn rest) f e m2 r (is, comes) =
        ap (λ x. f x r) is ∙ ends_so (value_at m) rest (f m) e r (subst (λ (x : Mem T). Comes (value_at x) rest r) is comes)
    steps_so m (Do op rest) f e m2 r (out, (g, is), comes) =
        ap (λ x. f x r) is
        ∙ ends_so (value_at (after m op out)) (rest out) (f (after m op out)) (answer_so m op out (λ o. of_ends (value_at (after m op o)) (rest o) (f (after m op o))) g e) r
        (subst (λ (x : Mem T). Comes (value_at x) (rest out) r) is comes)

module _ {A : Type 0} where
  goes_up : (told : Advance A) (a b : Bool) → (a ≡ true → b ≡ true) → if_goes told a ≡ true → if_goes told b ≡ true
  goes_up progress.Goes a b up e = up e
  goes_up progress.Waits a b up e = up e
  goes_up (progress.Done x) a b up e = refl
  goes_up (progress.Refused x) a b up e = refl

  goes_bound : (told : Advance A) (f : ℕ → Bool) → (Continues told → HasBound f) → HasBound (λ n. if_goes told (f n))
  goes_bound progress.Goes f h = h tt
  goes_bound progress.Waits f h = h tt
  goes_bound (progress.Done x) f h = (0, refl)
  goes_bound (progress.Refused x) f h = (0, refl)

  goes_so : (told : Advance A) (a : Bool) → Continues told → if_goes told a ≡ true → a ≡ true
  goes_so progress.Goes a on e = e
  goes_so progress.Waits a on e = e
  goes_so (progress.Done x) a on e = absurd on
  goes_so (progress.Refused x) a on e = absurd on

module _ (so : ℕ → Bool) where
  -- none below this one, or a least one
  searched : (n : ℕ) → ((k : ℕ) → k < n → so k ≡ false) ⊎ HasLeast so
  searched zero = inl (λ k l. absurd (omega (arith, l)))
  searched (suc n) = ⊎_elim (λ none. search_at n none (so n) refl) inr (searched n)
    where
      below_suc : (n k : ℕ) → ((j : ℕ) → j < n → so j ≡ false) → so n ≡ false → k < suc n → so k ≡ false
      below_suc n k none at l = ⊎_elim (none k) (λ le. ap so (let e : k ≡ n = omega (arith, l, le) in e) ∙ at) (cases_lt k n)

      search_at : (n : ℕ) → ((k : ℕ) → k < n → so k ≡ false) → (b : Bool) → so n ≡ b → ((k : ℕ) → k < suc n → so k ≡ false) ⊎ HasLeast so
      search_at n none true is = inr (n, (is, none))
      search_at n none false is = inl (λ k l. below_suc n k none is l)

  pub least_of : HasBound so → HasLeast so
  least_of (n, is) = ⊎_elim (λ none. (n, (is, none))) (λ l. l) (searched n)

module _ {T X A : Type 0} (plan : X → Plan T (X × Advance A)) where
  within_up : (n k : ℕ) → n ≤ k → (x : X) (m : Mem T) → within plan n x m ≡ true → within plan k x m ≡ true
  within_up zero k le x m e = absurd (false≢true e)
  within_up (suc n) zero le x m e = absurd (omega (arith, le))
  within_up (suc n) (suc k) le x m e =
      steps_up m (plan x) (λ m2 end. if_goes end.1 (within plan n end.0 m2)) (λ m2 end. if_goes end.1 (within plan k end.0 m2))
      (λ m2 end. goes_up end.1 (within plan n end.0 m2) (within plan k end.0 m2) (within_up n k (omega (arith, le)) end.0 m2)) e

  bounded : (x : X) (m : Mem T) → Ends plan x m → HasBound (λ n. within plan n x m)
  bounded x m (all_end _ _ may next) =
      let b = steps_bound m (plan x) (λ n m2 end. if_goes end.1 (within plan n end.0 m2))
      (λ m2 end n k le. goes_up end.1 (within plan n end.0 m2) (within plan k end.0 m2) (within_up n k le end.0 m2))
      (λ m2 end s. goes_bound end.1 (λ n. within plan n end.0 m2) (λ on. bounded end.0 m2 (next m2 end.0 end.1 on s))) in (suc b.0, b.1)

  -- the least number of steps that no run goes past
  pub has_least : (x : X) (m : Mem T) → Ends plan x m → HasLeast (λ n. within plan n x m)
  has_least x m h = least_of (λ n. within plan n x m) (bounded x m h)

  pub may_step : (x : X) (m : Mem T) → Ends plan x m → May Can Took value_at m (plan x)
  may_step x m (all_end _ _ may next) = may

  pub ends_on : (x : X) (m : Mem T) → Ends plan x m → (m2 : Mem T) (x2 : X) (told : Advance A) → Continues told → Steps Took value_at m (plan x) m2 (x2, told) → Ends plan x2 m2
  ends_on x m (all_end _ _ may next) = next

  -- a step leaves a lower number
  pub within_on : (n : ℕ) (x : X) (m : Mem T) → within plan n x m ≡ true → (x2 : X) (m2 : Mem T) (told : Advance A) → Continues told → Steps Took value_at m (plan x) m2 (x2, told)
      → (k : ℕ) × (k < n) × (within plan k x2 m2 ≡ true)
  within_on zero x m e x2 m2 told on s = absurd (false≢true e)
  within_on (suc n) x m e x2 m2 told on s =
      (n, omega arith, goes_so told (within plan n x2 m2) on (steps_so m (plan x) (λ m2 end. if_goes end.1 (within plan n end.0 m2)) e m2 (x2, told) s))

  -- it is lower after each step
  pub lower : (n : ℕ) (x : X) (m : Mem T) → within plan n x m ≡ true → (k : ℕ) (x2 : X) (m2 : Mem T) → IsLeast (λ j. within plan j x2 m2) k
      → (told : Advance A) → Continues told → Steps Took value_at m (plan x) m2 (x2, told) → k < n
  lower zero x m e k x2 m2 least told on s = absurd (false≢true e)
  lower (suc n) x m e k x2 m2 least told on s =
      let is = goes_so told (within plan n x2 m2) on (steps_so m (plan x) (λ m2 end. if_goes end.1 (within plan n end.0 m2)) e m2 (x2, told) s) in
      ⊎_elim (λ (l : n < k). absurd (false≢true (sym (least.1 n l) ∙ is))) (λ (le : k ≤ n). let r : k < suc n = omega (arith, le) in r) (cases_lt n k)

  pub less : (n : ℕ) (x x0 : X) (m m0 : Mem T) → x0 ≡ x → m0 ≡ m → IsLeast (λ j. within plan j x0 m0) n
      → (k : ℕ) (x2 x3 : X) (m2 m3 : Mem T) → x3 ≡ x2 → m3 ≡ m2 → IsLeast (λ j. within plan j x3 m3) k
      → (told : Advance A) → Continues told → Steps Took value_at m (plan x) m2 (x2, told) → k < n
  less n x x0 m m0 e e2 least k x2 x3 m2 m3 e3 e4 least2 told on s =
      lower n x m (ap (λ y. within plan n y m) (sym e) ∙ ap (λ y. within plan n x0 y) (sym e2) ∙ least.0) k x2 m2
      (subst (λ (y : X). IsLeast (λ j. within plan j y m2) k) e3 (subst (λ (y : Mem T). IsLeast (λ j. within plan j x3 y) k) e4 least2)) told on s

  pub lowest_at : (x x0 : X) (m m0 : Mem T) → x0 ≡ x → m0 ≡ m → Ends plan x m → HasLeast (λ n. within plan n x0 m0)
  lowest_at x x0 m m0 e e2 h = has_least x0 m0 (subst (λ (y : X). Ends plan y m0) (sym e) (subst (λ (y : Mem T). Ends plan x y) (sym e2) h))

pub on_of : {A : Type 0} (told : Advance A) → (told ≡ progress.Goes) ⊎ (told ≡ progress.Waits) → Continues told
on_of {A} told = ⊎_elim (λ e. subst (Continues {A = A}) (sym e) tt) (λ e. subst (Continues {A = A}) (sym e) tt)
