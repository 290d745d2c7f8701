-- One of several is another one, or goes, and what is so of each of them.
use Rattle.std.specs.Prelude.{◌≢◌, ◌⊎◌, ◌==◌, ◌≤◌, ◌+◌, ◌||◌, zero, suc, not, length, filter, Option, Some, None, option_map, cond, nat_lt, position, slice_set, slice_get}
use Rattle.std.specs.List.{AllByRecursion, list_any, position_or_len, remove}
use Rattle.std.proofs.Common.{◌≡◌, ℕ, Bool, true, false, List, [], ◌∷◌, inl, inr, refl, sym, ap, subst, arith, ◌∙◌}
use Rattle.std.proofs.lemmas.Bool.{cases_eq, eq-eqb}
use Rattle.seize.specs.World.{with_at}
use Rattle.many_acts.specs.Given.FinishesMaps.{with_call}
use Rattle.many_acts.proofs.Given.CallersTogether.At.{at_other, at_same}
use Rattle.run_finds.proofs.Given.General.{same_some}
use Rattle.run_kept.proofs.Lists.{all_but}

-- something is there, of which this is seen
pub under : {A B : Type 0} (f : A → B) (o : Option A) (b : B) → option_map f o ≡ Some b → (a : A) × (o ≡ Some a) × (f a ≡ b)
under f None b is = absurd (cc is)
under f (Some a) b is = (a, refl, same_some (f a) b is)

-- what is so of each is so of the one at a place
pub each_at : {X : Type 0} (P : X → Type 0) (xs : List X) (k : ℕ) (x : X) → slice_get xs k ≡ Some x → AllByRecursion P xs → P x
each_at P [] k x is all = absurd (cc is)
each_at P (y ∷ xs) zero x is all = let e : y ≡ x = cc is in subst P e all.0
each_at P (y ∷ xs) (suc k) x is all = each_at P xs k x is all.1

module _ {X : Type 0} (p : X → Bool) where
  none_left : (xs : List X) → length (filter p xs) ≤ 0 → list_any p xs ≡ false
  none_left [] l = refl
  none_left (y ∷ xs) l = one (p y) l (none_left xs)
    where
      one : (b : Bool) → length (cond b (y ∷ filter p xs) (filter p xs)) ≤ 0 → (length (filter p xs) ≤ 0 → list_any p xs ≡ false) → (b || list_any p xs) ≡ false
      one true few ih = absurd (omega (arith, few))
      one false few ih = ih few

  any_there : (xs : List X) (k : ℕ) (x : X) → slice_get xs k ≡ Some x → p x ≡ true → 1 ≤ length (filter p xs)
  any_there [] k x is passes = absurd (cc is)
  any_there (y ∷ xs) zero x is passes = let e : y ≡ x = cc is in one (p y) (ap p e ∙ passes)
    where
      one : (b : Bool) → b ≡ true → 1 ≤ length (cond b (y ∷ filter p xs) (filter p xs))
      one true so = omega arith
      one false so = absurd (cc so)
  any_there (y ∷ xs) (suc k) x is passes = one (p y) (any_there xs k x is passes)
    where
      one : (b : Bool) → 1 ≤ length (filter p xs) → 1 ≤ length (cond b (y ∷ filter p xs) (filter p xs))
      one true l = omega (arith, l)
      one false l = l

  -- where one at most passes, none does before it
  fails : (y : X) (xs : List X) (k : ℕ) (x : X) → slice_get xs k ≡ Some x → p x ≡ true → length (filter p (y ∷ xs)) ≤ 1 → (p y ≡ false) × (length (filter p xs) ≤ 1)
  fails y xs k x is passes once = one (p y) refl once (any_there xs k x is passes)
    where
      one : (b : Bool) → p y ≡ b → length (cond b (y ∷ filter p xs) (filter p xs)) ≤ 1 → 1 ≤ length (filter p xs) → (p y ≡ false) × (length (filter p xs) ≤ 1)
      one true e l some = absurd (omega (arith, l, some))
      one false e l some = (e, l)

  -- nor behind it
  none_behind : (y : X) (xs : List X) → p y ≡ true → length (filter p (y ∷ xs)) ≤ 1 → list_any p xs ≡ false
  none_behind y xs passes once = none_left xs (one (p y) passes once)
    where
      one : (b : Bool) → b ≡ true → length (cond b (y ∷ filter p xs) (filter p xs)) ≤ 1 → length (filter p xs) ≤ 0
      one true e l = omega (arith, l)
      one false e l = absurd (cc e)

  module _ (P Q : X → Type 0) (so : (x : X) → p x ≡ false → P x → Q x) where
    pub set_one : (new : X) → Q new → (xs : List X) (k : ℕ) (x : X) → slice_get xs k ≡ Some x → p x ≡ true → length (filter p xs) ≤ 1 → AllByRecursion P xs → AllByRecursion Q (slice_set xs k new)
    set_one new here [] k x is passes once all = tt
    set_one new here (y ∷ xs) zero x is passes once all = let e : y ≡ x = cc is in (here, all_but P Q p so xs (none_behind y xs (ap p e ∙ passes) once) all.1)
    set_one new here (y ∷ xs) (suc k) x is passes once all = let f = fails y xs k x is passes once in (so y f.0 all.0, set_one new here xs k x is passes f.1 all.1)

    pub remove_one : (xs : List X) (k : ℕ) (x : X) → slice_get xs k ≡ Some x → p x ≡ true → length (filter p xs) ≤ 1 → AllByRecursion P xs → AllByRecursion Q (remove xs k)
    remove_one [] zero x is passes once all = tt
    remove_one [] (suc k) x is passes once all = tt
    remove_one (y ∷ xs) zero x is passes once all = let e : y ≡ x = cc is in all_but P Q p so xs (none_behind y xs (ap p e ∙ passes) once) all.1
    remove_one (y ∷ xs) (suc k) x is passes once all = let f = fails y xs k x is passes once in (so y f.0 all.0, remove_one xs k x is passes f.1 all.1)

-- how many pass a test, of which one is another one, or goes
module _ {X : Type 0} where
  pub set_count : (q : X → Bool) (xs : List X) (k : ℕ) (old new : X) → slice_get xs k ≡ Some old → q new ≡ q old → length (filter q (slice_set xs k new)) ≡ length (filter q xs)
  set_count q [] k old new is same = refl
  set_count q (x ∷ xs) zero old new is same =
      let e : x ≡ old = cc is in ap (λ (b : Bool). length (cond b (new ∷ filter q xs) (filter q xs))) (same ∙ ap q (sym e)) ∙ one (q x)
    where
      one : (b : Bool) → length (cond b (new ∷ filter q xs) (filter q xs)) ≡ length (cond b (x ∷ filter q xs) (filter q xs))
      one true = refl
      one false = refl
  set_count q (x ∷ xs) (suc k) old new is same = one (q x) (set_count q xs k old new is same)
    where
      one : (b : Bool) → length (filter q (slice_set xs k new)) ≡ length (filter q xs) → length (cond b (x ∷ filter q (slice_set xs k new)) (filter q (slice_set xs k new))) ≡ length (cond b (x ∷ filter q xs) (filter q xs))
      one true e = ap suc e
      one false e = e

  pub removed_count : (q : X → Bool) (xs : List X) (k : ℕ) → length (filter q (remove xs k)) ≤ length (filter q xs)
  removed_count q [] zero = omega arith
  removed_count q [] (suc k) = omega arith
  removed_count q (x ∷ xs) zero = one (q x)
    where
      one : (b : Bool) → length (filter q xs) ≤ length (cond b (x ∷ filter q xs) (filter q xs))
      one true = omega arith
      one false = omega arith
  removed_count q (x ∷ xs) (suc k) = one (q x) (removed_count q xs k)
    where
      one : (b : Bool) → length (filter q (remove xs k)) ≤ length (filter q xs) → length (cond b (x ∷ filter q (remove xs k)) (filter q (remove xs k))) ≤ length (cond b (x ∷ filter q xs) (filter q xs))
      one true l = omega (arith, l)
      one false l = l

  pub set_there : (xs : List X) (k : ℕ) (old new : X) → slice_get xs k ≡ Some old → slice_get (slice_set xs k new) k ≡ Some new
  set_there [] k old new is = absurd (cc is)
  set_there (x ∷ xs) zero old new is = refl
  set_there (x ∷ xs) (suc k) old new is = set_there xs k old new is

-- At the place of one that passes a test stands one that passes it.
pub placed_at : {X : Type 0} (p : X → Bool) (xs : List X) (place : ℕ) → Some place ≡ position p xs → (x : X) × (slice_get xs place ≡ Some x) × (p x ≡ true)
placed_at {X} p xs place is = by (nat_lt (position_or_len p xs) (length xs)) refl is
  where
    first : (ys : List X) → nat_lt (position_or_len p ys) (length ys) ≡ true → (x : X) × (slice_get ys (position_or_len p ys) ≡ Some x) × (p x ≡ true)
    first [] there = absurd (cc there)
    first (y ∷ ys) there = one (p y) refl there (first ys)
      where
        further : (a b : ℕ) → nat_lt (1 + a) (suc b) ≡ nat_lt a b
        further a b = grind arith

        one_more : (n : ℕ) → suc n ≡ 1 + n
        one_more n = omega arith

        one : (b : Bool) → p y ≡ b → nat_lt (cond (not b) (1 + position_or_len p ys) 0) (length (y ∷ ys)) ≡ true
            → (nat_lt (position_or_len p ys) (length ys) ≡ true → (x : X) × (slice_get ys (position_or_len p ys) ≡ Some x) × (p x ≡ true))
            → (x : X) × (slice_get (y ∷ ys) (cond (not b) (1 + position_or_len p ys) 0) ≡ Some x) × (p x ≡ true)
        one true e l ih = (y, refl, e)
        one false e l ih =
            let it = ih (sym (further (position_or_len p ys) (length ys)) ∙ l) in
            (it.0, ap (slice_get (y ∷ ys)) (sym (one_more (position_or_len p ys))) ∙ it.1, it.2)

    by : (b : Bool) → nat_lt (position_or_len p xs) (length xs) ≡ b → Some place ≡ cond b (Some (position_or_len p xs)) None → (x : X) × (slice_get xs place ≡ Some x) × (p x ≡ true)
    by true there e = let at : place ≡ position_or_len p xs = cc e in let it = first xs there in (it.0, ap (slice_get xs) at ∙ it.1, it.2)
    by false there e = absurd (cc e)

-- a call that is written, and those of other callers
pub call_here : {X : Type 0} (calls : ℕ → ℕ → Option X) (m i : ℕ) (it : Option X) → with_call calls m i it m i ≡ it
call_here calls m i it = ap (λ (f : ℕ → Option _). f i) (at_same calls m (with_at (calls m) i it) m refl) ∙ at_same (calls m) i it i refl

pub call_beside : {X : Type 0} (calls : ℕ → ℕ → Option X) (m i : ℕ) (it : Option X) (n j : ℕ) → (j == i) ≡ false → with_call calls m i it n j ≡ calls n j
call_beside {X} calls m i it n j other = by (cases_eq n m)
  where
    apart : j ≢ i
    apart same = let both : true ≡ false = sym (eq-eqb j i same) ∙ other in cc both

    by : (n ≡ m) ⊎ (n ≢ m) → with_call calls m i it n j ≡ calls n j
    by (inl e) = ap (λ (f : ℕ → Option X). f j) (at_same calls m (with_at (calls m) i it) n e) ∙ at_other (calls m) i it j apart ∙ ap (λ (k : ℕ). calls k j) (sym e)
    by (inr ne) = ap (λ (f : ℕ → Option X). f j) (at_other calls m (with_at (calls m) i it) n ne)
