-- Lists of pairs that are the same, in whatever order, up to equality of keys and of values.
use Rattle.std.specs.Prelude.{◌≡◌, Bool, true, false, cond, ◌&&◌, ◌⊎◌, List, [], ◌∷◌, Option, Some, None, map}
use Rattle.std.proofs.Common.{refl, sym, ap, ◌∙◌, inl, inr, true≢false}
use Rattle.std.specs.Cmp.{IsEquivalence, first_so, second_so}
use Rattle.std.specs.Bool.{Decides}
use Rattle.std.specs.List.{IsDistinct, list_all}
use Rattle.std.specs.List.Sorted.{IsPermutation}
use Rattle.std.specs.Map.{keys_of}
use Rattle.std.specs.Option.{option_eq}
use Rattle.owner_calls.specs.Owned.Owned.{found_by}

module _ {K V : Type 0} (same : K → K → Bool) (equal : V → V → Bool) (xs ys : List (K × V)) where
  -- at this key both have a pair, and the two have equal values, or neither has one
  abbrev pub agree_at : K → Bool
  agree_at k = option_eq (λ x y. equal x.1 y.1) (found_by (same k) xs) (found_by (same k) ys)

  -- they agree at each key of either
  abbrev pub agree : Bool
  agree = list_all agree_at (keys_of xs) && list_all agree_at (keys_of ys)

-- elements, as the pairs of a map with no values
abbrev pub with_no_values : {K : Type 0} → List K → List (K × Unit {0})
with_no_values elements = map (λ x. (x, tt)) elements

-- what is so of both, and of all keys
both_turned : (a b : Bool) → (a && b) ≡ (b && a)
both_turned true true = refl
both_turned true false = refl
both_turned false true = refl
both_turned false false = refl

each_passes : {K : Type 0} (test : K → Bool) → ((k : K) → test k ≡ true) → (ks : List K) → list_all test ks ≡ true
each_passes test so [] = refl
each_passes test so (k ∷ ks) = ap (λ b. b && list_all test ks) (so k) ∙ each_passes test so ks

-- a key has no pair in a list, or equals one that passes where all of the list's keys do
pub none_or_passing : {K V : Type 0} (same : K → K → Bool) (test : K → Bool) (q : K) (xs : List (K × V)) → list_all test (keys_of xs) ≡ true
    → (found_by (same q) xs ≡ None) ⊎ ((k : K) × (same q k ≡ true) × (test k ≡ true))
none_or_passing same test q [] all = inl refl
none_or_passing {K} {V} same test q (x ∷ xs) all = by (same q x.0) refl (none_or_passing same test q xs (second_so (test x.0) (list_all test (keys_of xs)) all))
  where
    by : (b : Bool) → same q x.0 ≡ b → (found_by (same q) xs ≡ None) ⊎ ((k : K) × (same q k ≡ true) × (test k ≡ true))
        → (found_by (same q) (x ∷ xs) ≡ None) ⊎ ((k : K) × (same q k ≡ true) × (test k ≡ true))
    by true is rest = inr (x.0, is, first_so (test x.0) (list_all test (keys_of xs)) all)
    by false is (inl none) = inl (ap (λ b. cond b (Some x) (found_by (same q) xs)) is ∙ none)
    by false is (inr k) = inr k

module _ {X : Type 0} (equal : X → X → Bool) where
  turned : ((x y : X) → equal x y ≡ equal y x) → (p q : Option X) → option_eq equal p q ≡ option_eq equal q p
  turned symm None None = refl
  turned symm None (Some y) = refl
  turned symm (Some x) None = refl
  turned symm (Some x) (Some y) = symm x y

  through : ((x y z : X) → equal x y ≡ true → equal y z ≡ true → equal x z ≡ true) → (p q r : Option X) → option_eq equal p q ≡ true → option_eq equal q r ≡ true → option_eq equal p r ≡ true
  through trans None None r a b = b
  through trans None (Some y) r a b = absurd (true≢false (sym a))
  through trans (Some x) None r a b = absurd (true≢false (sym a))
  through trans (Some x) (Some y) None a b = b
  through trans (Some x) (Some y) (Some z) a b = trans x y z a b

  itself : ((x : X) → equal x x ≡ true) → (p : Option X) → option_eq equal p p ≡ true
  itself refl_is None = refl
  itself refl_is (Some x) = refl_is x

module _ {K V : Type 0} (same : K → K → Bool) (equal : V → V → Bool) where
  -- lists that agree at each key agree
  pub agree_from_each : (xs ys : List (K × V)) → ((q : K) → agree_at same equal xs ys q ≡ true) → agree same equal xs ys ≡ true
  agree_from_each xs ys so =
      ap (λ b. b && list_all (agree_at same equal xs ys) (keys_of ys)) (each_passes (agree_at same equal xs ys) so (keys_of xs)) ∙ each_passes (agree_at same equal xs ys) so (keys_of ys)

  pub agree_turned : ((x y : V) → equal x y ≡ equal y x) → (xs ys : List (K × V)) → agree same equal xs ys ≡ agree same equal ys xs
  agree_turned symm xs ys =
      let back : (k : K) → agree_at same equal xs ys k ≡ agree_at same equal ys xs k
      = λ k. turned (λ (x y : K × V). equal x.1 y.1) (λ x y. symm x.1 y.1) (found_by (same k) xs) (found_by (same k) ys) in
      both_turned (list_all (agree_at same equal xs ys) (keys_of xs)) (list_all (agree_at same equal xs ys) (keys_of ys))
      ∙ (λ i. list_all (λ k. back k i) (keys_of ys) && list_all (λ k. back k i) (keys_of xs))

  pub agree_itself : ((x : V) → equal x x ≡ true) → (xs : List (K × V)) → agree same equal xs xs ≡ true
  agree_itself refl_is xs = agree_from_each xs xs (λ q. itself (λ (x y : K × V). equal x.1 y.1) (λ x. refl_is x.1) (found_by (same q) xs))

  module _ (classes : IsEquivalence same) where
    pub agree_at_equals : (xs ys : List (K × V)) (q k : K) → same q k ≡ true → agree_at same equal xs ys q ≡ agree_at same equal xs ys k
    agree_at_equals xs ys q k is = λ i. option_eq (λ x y. equal x.1 y.1) (found_by (λ z. classes.congr q k z is i) xs) (found_by (λ z. classes.congr q k z is i) ys)

    pub agree_at_each : (xs ys : List (K × V)) → agree same equal xs ys ≡ true → (q : K) → agree_at same equal xs ys q ≡ true
    agree_at_each xs ys so q =
        by (none_or_passing same (agree_at same equal xs ys) q xs (first_so (list_all (agree_at same equal xs ys) (keys_of xs)) (list_all (agree_at same equal xs ys) (keys_of ys)) so))
        (none_or_passing same (agree_at same equal xs ys) q ys (second_so (list_all (agree_at same equal xs ys) (keys_of xs)) (list_all (agree_at same equal xs ys) (keys_of ys)) so))
      where
        by : (found_by (same q) xs ≡ None) ⊎ ((k : K) × (same q k ≡ true) × (agree_at same equal xs ys k ≡ true))
            → (found_by (same q) ys ≡ None) ⊎ ((k : K) × (same q k ≡ true) × (agree_at same equal xs ys k ≡ true)) → agree_at same equal xs ys q ≡ true
        by (inr k) there = agree_at_equals xs ys q k.0 k.1 ∙ k.2
        by (inl here) (inr k) = agree_at_equals xs ys q k.0 k.1 ∙ k.2
        by (inl here) (inl there) = λ i. option_eq (λ x y. equal x.1 y.1) (here i) (there i)

    pub agree_through : ((x y z : V) → equal x y ≡ true → equal y z ≡ true → equal x z ≡ true) → (xs ys zs : List (K × V)) → agree same equal xs ys ≡ true → agree same equal ys zs ≡ true
        → agree same equal xs zs ≡ true
    agree_through trans xs ys zs a b =
        agree_from_each xs zs (λ q. through (λ (x y : K × V). equal x.1 y.1) (λ x y z. trans x.1 y.1 z.1) (found_by (same q) xs) (found_by (same q) ys) (found_by (same q) zs)
        (agree_at_each xs ys a q) (agree_at_each ys zs b q))

module _ (K V : Type 0) where
  -- lists of pairs agree just where they agree at each key, whether one of them has it or not
  abbrev pub AgreeAtEachKey : Type 0
  AgreeAtEachKey =
      (same : K → K → Bool) → IsEquivalence same → (equal : V → V → Bool) (xs ys : List (K × V)) → Decides (agree same equal xs ys) ((q : K) → agree_at same equal xs ys q ≡ true)

  -- pairs agree with the same ones in any order, where no two keys are equal
  abbrev pub AgreeInAnyOrder : Type 0
  AgreeInAnyOrder =
      (same : K → K → Bool) → IsEquivalence same → (equal : V → V → Bool) → ((x : V) → equal x x ≡ true) → (xs ys : List (K × V)) → IsDistinct same (keys_of xs) → IsPermutation xs ys
      → agree same equal xs ys ≡ true
