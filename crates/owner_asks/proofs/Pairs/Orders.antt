-- Pairs in another order: what is found among them, and what is left without some.
use Rattle.std.specs.Prelude.{if◌then◌else◌}
use Rattle.std.specs.Cmp.{IsEquivalence}
use Rattle.std.specs.List.{IsDistinct, swap}
use Rattle.std.specs.List.Sorted.{IsPermutation}
use Rattle.std.specs.Map.{keys_of}
use Rattle.std.proofs.Common.{◌≡◌, ℕ, zero, suc, ◌<◌, Bool, true, false, cond, List, [], ◌∷◌, ◌++◌, map, length, get_or, set, filter, Some, None, refl, ap, sym, subst, ◌∙◌, arith}
use Rattle.std.proofs.lemmas.Bool.{true≢false}
use Rattle.std.proofs.lemmas.List.Sorted.{IsPermutation-refl, IsPermutation-trans, IsPermutation-cons, IsPermutation-append_left, IsPermutation-append_comm, IsPermutation-keeps, IsPermutation-map, length_permutation}
use Rattle.std.proofs.lemmas.Map.Keys.{IsDistinct-head, IsDistinct-tail, IsDistinct-IsPermutation}
use Rattle.owner_calls.specs.Owned.Owned.{found_by, left_by}
use Rattle.owner_calls.proofs.Owned.Owned.Lookups.{found_append}
use Rattle.owner_asks.specs.Pairs.Orders.{IsOneClass}

-- What holds of each list and itself, and where the first two change places, and goes under one more and on from list to list, holds of a list in any order.
module _ {X : Type 0} (So : List X → List X → Type 0) (itself : (xs : List X) → So xs xs) (under : (x : X) (xs ys : List X) → So xs ys → So (x ∷ xs) (x ∷ ys))
    (first_two : (x y : X) (xs : List X) → So (x ∷ y ∷ xs) (y ∷ x ∷ xs)) (on : (xs ys zs : List X) → So xs ys → So ys zs → So xs zs) where
  -- the first one and the one at this place behind it
  with_first : (x : X) (xs : List X) (i : ℕ) (d : X) → i < length xs → So (x ∷ xs) (get_or xs i d ∷ set xs i x)
  with_first x [] i d below = absurd (omega (arith, below))
  with_first x (y ∷ xs) zero d below = first_two x y xs
  with_first x (y ∷ xs) (suc i) d below =
      let z = get_or xs i d in
      on (x ∷ y ∷ xs) (y ∷ x ∷ xs) (z ∷ y ∷ set xs i x) (first_two x y xs)
      (on (y ∷ x ∷ xs) (y ∷ z ∷ set xs i x) (z ∷ y ∷ set xs i x) (under y (x ∷ xs) (z ∷ set xs i x) (with_first x xs i d (omega (arith, below)))) (first_two y z (set xs i x)))

  -- any two
  two_places : (xs : List X) (i j : ℕ) (d : X) → i < length xs → j < length xs → So xs (set (set xs i (get_or xs j d)) j (get_or xs i d))
  two_places [] i j d below_i below_j = absurd (omega (arith, below_i))
  two_places (x ∷ xs) zero zero d below_i below_j = itself (x ∷ xs)
  two_places (x ∷ xs) zero (suc j) d below_i below_j = with_first x xs j d (omega (arith, below_j))
  two_places (x ∷ xs) (suc i) zero d below_i below_j = with_first x xs i d (omega (arith, below_i))
  two_places (x ∷ xs) (suc i) (suc j) d below_i below_j =
      under x xs (set (set xs i (get_or xs j d)) j (get_or xs i d)) (two_places xs i j d (omega (arith, below_i)) (omega (arith, below_j)))

  one_swap : (xs : List X) (i j : ℕ) → i < length xs → j < length xs → So xs (swap xs i j)
  one_swap [] i j below_i below_j = itself []
  one_swap (x ∷ xs) i j below_i below_j = two_places (x ∷ xs) i j x below_i below_j

  pub in_any_order : (xs ys : List X) → IsPermutation xs ys → So xs ys
  in_any_order xs ys = IsPermutation-keeps xs (So xs) (itself xs) (λ zs i j below_i below_j so. on xs zs (swap zs i j) so (one_swap zs i j below_i below_j)) ys

pub none_left : {X : Type 0} (xs : List X) → IsPermutation xs [] → xs ≡ []
none_left [] same = refl
none_left (x ∷ xs) same = absurd (let e = length_permutation (x ∷ xs) [] same in omega (arith, e))

two_turned : {X : Type 0} (x y : X) (xs : List X) → IsPermutation (x ∷ y ∷ xs) (y ∷ x ∷ xs)
two_turned x y xs = IsPermutation-append_left xs (x ∷ y ∷ []) (y ∷ x ∷ []) (IsPermutation-append_comm (x ∷ []) (y ∷ []))

-- those that pass a test
module _ {X : Type 0} (test : X → Bool) where
  kept_under : (x : X) (xs ys : List X) → IsPermutation (filter test xs) (filter test ys) → IsPermutation (filter test (x ∷ xs)) (filter test (x ∷ ys))
  kept_under x xs ys same = by (test x)
    where
      by : (b : Bool) → IsPermutation (cond b (x ∷ filter test xs) (filter test xs)) (cond b (x ∷ filter test ys) (filter test ys))
      by true = IsPermutation-cons x (filter test xs) (filter test ys) same
      by false = same

  kept_turned : (x y : X) (xs : List X) → IsPermutation (filter test (x ∷ y ∷ xs)) (filter test (y ∷ x ∷ xs))
  kept_turned x y xs = by (test x) (test y) (filter test xs)
    where
      by : (a b : Bool) (zs : List X) → IsPermutation (cond a (x ∷ cond b (y ∷ zs) zs) (cond b (y ∷ zs) zs)) (cond b (y ∷ cond a (x ∷ zs) zs) (cond a (x ∷ zs) zs))
      by true true zs = two_turned x y zs
      by true false zs = IsPermutation-refl (x ∷ zs)
      by false true zs = IsPermutation-refl (y ∷ zs)
      by false false zs = IsPermutation-refl zs

  pub kept_in_any_order : (xs ys : List X) → IsPermutation xs ys → IsPermutation (filter test xs) (filter test ys)
  kept_in_any_order =
      in_any_order (λ xs ys. IsPermutation (filter test xs) (filter test ys)) (λ xs. IsPermutation-refl (filter test xs)) kept_under kept_turned
      (λ xs ys zs. IsPermutation-trans (filter test xs) (filter test ys) (filter test zs))

-- what stands beside each goes with it
module _ {X Y : Type 0} (of : Y → X) where
  abbrev Lifts : List X → List X → Type 0
  Lifts xs ys = (us : List Y) → map of us ≡ xs → (vs : List Y) × (map of vs ≡ ys) × IsPermutation us vs

  lifts_under : (x : X) (xs ys : List X) → Lifts xs ys → Lifts (x ∷ xs) (x ∷ ys)
  lifts_under x xs ys so [] is = absurd (cc is)
  lifts_under x xs ys so (u ∷ us) is = let e : map of us ≡ xs = cc is in let first : of u ≡ x = cc is in let vs = so us e in (u ∷ vs.0, cc (first, vs.1), IsPermutation-cons u us vs.0 vs.2)

  lifts_turned : (x y : X) (xs : List X) → Lifts (x ∷ y ∷ xs) (y ∷ x ∷ xs)
  lifts_turned x y xs [] is = absurd (cc is)
  lifts_turned x y xs (u ∷ []) is = absurd (cc is)
  lifts_turned x y xs (u ∷ v ∷ us) is =
      let e : map of us ≡ xs = cc is in let first : of u ≡ x = cc is in let second : of v ≡ y = cc is in (v ∷ u ∷ us, cc (first, second, e), two_turned u v us)

  pub lifts : (xs ys : List X) → IsPermutation xs ys → Lifts xs ys
  lifts =
      in_any_order Lifts (λ xs us is. (us, is, IsPermutation-refl us)) lifts_under lifts_turned
      (λ xs ys zs p q us is. let vs = p us is in let ws = q vs.0 vs.1 in (ws.0, ws.1, IsPermutation-trans us vs.0 ws.0 vs.2 ws.2))

module _ {K V : Type 0} (keys : K → Bool) where
  -- those that are left are those that pass
  left_pass : (xs : List (K × V)) → left_by keys xs ≡ filter (λ x. if keys x.0 then false else true) xs
  left_pass [] = refl
  left_pass (x ∷ xs) = by (keys x.0) (left_pass xs)
    where
      by : (b : Bool) → left_by keys xs ≡ filter (λ x. if keys x.0 then false else true) xs
          → (if b then left_by keys xs else x ∷ left_by keys xs)
          ≡ cond (if b then false else true) (x ∷ filter (λ x. if keys x.0 then false else true) xs) (filter (λ x. if keys x.0 then false else true) xs)
      by true e = e
      by false e = ap (λ zs. x ∷ zs) e

  pub left_same : (xs ys : List (K × V)) → IsPermutation xs ys → IsPermutation (left_by keys xs) (left_by keys ys)
  left_same xs ys same =
      subst (λ zs. IsPermutation zs (left_by keys ys)) (sym (left_pass xs))
      (subst (IsPermutation (filter (λ x. if keys x.0 then false else true) xs)) (sym (left_pass ys)) (kept_in_any_order (λ x. if keys x.0 then false else true) xs ys same))

  -- none of them is found then
  pub none_found : (xs : List (K × V)) → found_by keys (left_by keys xs) ≡ None
  none_found [] = refl
  none_found (x ∷ xs) = by (keys x.0) refl (none_found xs)
    where
      by : (b : Bool) → keys x.0 ≡ b → found_by keys (left_by keys xs) ≡ None → found_by keys (if b then left_by keys xs else x ∷ left_by keys xs) ≡ None
      by true e none = none
      by false e none = ap (λ (b : Bool). if b then Some x else found_by keys (left_by keys xs)) e ∙ none

  pub put_found : (xs : List (K × V)) (x : K × V) → keys x.0 ≡ true → found_by keys (left_by keys xs ++ (x ∷ [])) ≡ Some x
  put_found xs x its = found_append keys (left_by keys xs) (x ∷ []) (none_found xs) ∙ ap (λ (b : Bool). if b then Some x else None) its

  module _ (others : K → Bool) (apart : (k : K) → keys k ≡ true → others k ≡ false) where
    pub others_found : (xs : List (K × V)) → found_by others (left_by keys xs) ≡ found_by others xs
    others_found [] = refl
    others_found (x ∷ xs) = by (keys x.0) refl (others_found xs)
      where
        by : (b : Bool) → keys x.0 ≡ b → found_by others (left_by keys xs) ≡ found_by others xs
            → found_by others (if b then left_by keys xs else x ∷ left_by keys xs) ≡ (if others x.0 then Some x else found_by others xs)
        by true e more = more ∙ sym (ap (λ (b : Bool). if b then Some x else found_by others xs) (apart x.0 e))
        by false e more = ap (λ o. if others x.0 then Some x else o) more

    pub others_found_behind : (xs : List (K × V)) (x : K × V) → keys x.0 ≡ true → found_by others (xs ++ (x ∷ [])) ≡ found_by others xs
    others_found_behind [] x its = ap (λ (b : Bool). if b then Some x else None) (apart x.0 its)
    others_found_behind (y ∷ xs) x its = ap (λ o. if others y.0 then Some y else o) (others_found_behind xs x its)

module _ {K V : Type 0} (same : K → K → Bool) where
  module _ (classes : IsEquivalence same) where
    pub apart_same : (xs ys : List (K × V)) → IsDistinct same (keys_of xs) → IsPermutation xs ys → IsDistinct same (keys_of ys)
    apart_same xs ys apart order = IsDistinct-IsPermutation same classes.symm (keys_of xs) (keys_of ys) (IsPermutation-map (λ x. x.0) xs ys order) apart

    module _ (keys : K → Bool) (class : IsOneClass same keys) where
      -- in another order, and the same is found where keys are apart
      abbrev FindsSame : List (K × V) → List (K × V) → Type 0
      FindsSame xs ys = IsPermutation xs ys × (IsDistinct same (keys_of xs) → found_by keys ys ≡ found_by keys xs)

      finds_under : (x : K × V) (xs ys : List (K × V)) → FindsSame xs ys → FindsSame (x ∷ xs) (x ∷ ys)
      finds_under x xs ys so = (IsPermutation-cons x xs ys so.0, λ apart. ap (λ o. if keys x.0 then Some x else o) (so.1 (IsDistinct-tail same x.0 (keys_of xs) apart)))

      finds_turned : (x y : K × V) (xs : List (K × V)) → FindsSame (x ∷ y ∷ xs) (y ∷ x ∷ xs)
      finds_turned x y xs = (two_turned x y xs, λ apart. by (keys x.0) refl (keys y.0) refl (IsDistinct-head same x.0 (keys_of (y ∷ xs)) apart).0)
        where
          by : (a : Bool) → keys x.0 ≡ a → (b : Bool) → keys y.0 ≡ b → same x.0 y.0 ≡ false
              → (if b then Some y else (if a then Some x else found_by keys xs)) ≡ (if a then Some x else (if b then Some y else found_by keys xs))
          by true is_x true is_y other = absurd (true≢false (sym is_y ∙ class x.0 y.0 is_x ∙ other))
          by true is_x false is_y other = refl
          by false is_x true is_y other = refl
          by false is_x false is_y other = refl

      pub found_same : (xs ys : List (K × V)) → IsDistinct same (keys_of xs) → IsPermutation xs ys → found_by keys ys ≡ found_by keys xs
      found_same xs ys apart order =
          (in_any_order FindsSame (λ zs. (IsPermutation-refl zs, λ a. refl)) finds_under finds_turned
          (λ us vs ws p q. (IsPermutation-trans us vs ws p.0 q.0, λ a. q.1 (apart_same us vs a p.0) ∙ p.1 a)) xs ys order).1 apart

-- with further pairs behind
pub left_and : {K V : Type 0} (keys : K → Bool) (xs ys zs : List (K × V)) → IsPermutation xs ys → IsPermutation (left_by keys xs ++ zs) (left_by keys ys ++ zs)
left_and keys xs ys zs same = IsPermutation-append_left zs (left_by keys xs) (left_by keys ys) (left_same keys xs ys same)
