-- Sets that one array has, and maps that one object has.
use Rattle.std.specs.Prelude.{◌↔◌, IsTrue, if◌then◌else◌}
use Rattle.std.specs.Cmp.{IsEquivalence}
use Rattle.std.specs.List.{All, Contains}
use Rattle.std.specs.Option.{option_eq}
use Rattle.std.proofs.Common.{◌≡◌, ℕ, zero, suc, Bool, true, false, List, [], ◌∷◌, Option, Some, None, is_some, refl, ap, sym, subst, ◌∙◌, true≢false, arith}
use Rattle.std.proofs.lemmas.List.Elements.{All-contains}
use Rattle.serde_json.specs.Data.{Data, Members, no_members, object}
use Rattle.serde_json.specs.Find.{get_member}
use Rattle.map_forms.specs.ArrayLaws.{HaveSameValues}
use Rattle.map_forms.specs.Objects.{IsObjectOf}
use Rattle.map_forms.proofs.OneArray.{arrays_tell}
use Rattle.map_forms.proofs.PairByPair.{first_is, later_is}
use Rattle.owner_map.specs.Given.{agree_from_each, found_by, with_no_values}
use Rattle.papaya_seq.specs.ReadBack.{OneArrayOneSet, OneObjectOneMap}

-- both or neither
alike : (a b : Bool) → (a ≡ true → b ≡ true) → (b ≡ true → a ≡ true) → a ≡ b
alike true b to from = sym (to refl)
alike false true to from = from refl
alike false false to from = refl

-- where nothing is asked of two that are there
both_there : {X : Type 0} (p q : Option X) → is_some p ≡ is_some q → option_eq (λ (x y : X). true) p q ≡ true
both_there None None same = refl
both_there None (Some y) same = same
both_there (Some x) None same = sym same
both_there (Some x) (Some y) same = refl

module _ {K : Type 0} (same : K → K → Bool) (q : K) where
  is_found : (xs : List K) (x : K) → Contains xs x → same q x ≡ true → is_some (found_by (same q) (with_no_values xs)) ≡ true
  is_found [] x (k, l, at) equals = absurd (omega (arith, l))
  is_found (y ∷ xs) x (zero, l, at) equals = ap (λ (b : Bool). is_some (if b then Some (y, tt {0}) else found_by (same q) (with_no_values xs))) (ap (same q) at ∙ equals)
  is_found (y ∷ xs) x (suc k, l, at) equals = by (same q y) (is_found xs x (k, omega (arith, l), at) equals)
    where
      by : (b : Bool) → is_some (found_by (same q) (with_no_values xs)) ≡ true → is_some (if b then Some (y, tt {0}) else found_by (same q) (with_no_values xs)) ≡ true
      by true there = refl
      by false there = there

  found_one : (xs : List K) → is_some (found_by (same q) (with_no_values xs)) ≡ true → (x : K) × Contains xs x × (same q x ≡ true)
  found_one [] there = absurd (true≢false (sym there))
  found_one (y ∷ xs) there = by (same q y) refl there (found_one xs)
    where
      by : (b : Bool) → same q y ≡ b → is_some (if b then Some (y, tt {0}) else found_by (same q) (with_no_values xs)) ≡ true
          → (is_some (found_by (same q) (with_no_values xs)) ≡ true → (x : K) × Contains xs x × (same q x ≡ true)) → (x : K) × Contains (y ∷ xs) x × (same q x ≡ true)
      by true equals found behind = (y, first_is y xs, equals)
      by false differs found behind = let one = behind found in (one.0, later_is y one.0 xs one.1, one.2)

module _ {K : Type 0} (same : K → K → Bool) (classes : IsEquivalence same) (value : K → Data) where
  found_too : (xs ys : List K) → ((x y : K) → Contains xs x → Contains ys y → value x ≡ value y → same x y ≡ true) → All (λ x. (y : K) × Contains ys y × (value x ≡ value y)) xs → (q : K)
      → is_some (found_by (same q) (with_no_values xs)) ≡ true → is_some (found_by (same q) (with_no_values ys)) ≡ true
  found_too xs ys tells among q there =
      let x = found_one same q xs there in
      let y = All-contains (λ z. (w : K) × Contains ys w × (value z ≡ value w)) xs x.0 among x.1 in
      is_found same q ys y.0 y.1 (classes.congr q x.0 y.0 x.2 ∙ tells x.0 y.0 x.1 y.1 y.2)

pub one_array_one_set : (K : Type 0) → OneArrayOneSet K
one_array_one_set K same classes value xs ys tells d has had =
    let told : HaveSameValues value xs ys = arrays_tell K value xs ys d has had in
    agree_from_each same (λ _ _. true) (with_no_values xs) (with_no_values ys)
    (λ q. both_there (found_by (same q) (with_no_values xs)) (found_by (same q) (with_no_values ys))
    (alike _ _ (found_too same classes value xs ys (λ x y inx iny e. (tells x y inx iny).1 e) told.0 q)
    (found_too same classes value ys xs (λ y x iny inx e. classes.symm y x ∙ (tells x y inx iny).1 (sym e)) told.1 q)))

-- the members of an object
members_in : Data → Members
members_in (object ms) = ms
members_in _ = no_members

members_are : (ms ns : Members) → object ms ≡ object ns → ms ≡ ns
unfolding members_in
members_are ms ns same = ap members_in same

module _ {K V : Type 0} (keys : K → Bool) where
  -- the pair that is found is one of them, and its key passes
  pair_found : (xs : List (K × V)) (x : K × V) → found_by keys xs ≡ Some x → Contains xs x × (keys x.0 ≡ true)
  pair_found [] x is = absurd (true≢false (sym (ap is_some is)))
  pair_found (y ∷ xs) x is = by (keys y.0) refl is (pair_found xs x)
    where
      by : (b : Bool) → keys y.0 ≡ b → (if b then Some y else found_by keys xs) ≡ Some x → (found_by keys xs ≡ Some x → Contains xs x × (keys x.0 ≡ true))
          → Contains (y ∷ xs) x × (keys x.0 ≡ true)
      by true passes here behind = let one : y ≡ x = cc here in (subst (Contains (y ∷ xs)) one (first_is y xs), ap (λ (z : K × V). keys z.0) (sym one) ∙ passes)
      by false fails there behind = let one = behind there in (later_is y x xs one.0, one.1)

  -- where the key of one of them passes, some pair is found
  some_found : (xs : List (K × V)) (x : K × V) → Contains xs x → keys x.0 ≡ true → (z : K × V) × (found_by keys xs ≡ Some z)
  some_found [] x (k, l, at) passes = absurd (omega (arith, l))
  some_found (y ∷ xs) x (zero, l, at) passes = (y, ap (λ (b : Bool). if b then Some y else found_by keys xs) (ap (λ (z : K × V). keys z.0) at ∙ passes))
  some_found (y ∷ xs) x (suc k, l, at) passes = by (keys y.0) (some_found xs x (k, omega (arith, l), at) passes)
    where
      by : (b : Bool) → (z : K × V) × (found_by keys xs ≡ Some z) → (z : K × V) × ((if b then Some y else found_by keys xs) ≡ Some z)
      by true behind = (y, refl)
      by false behind = behind

module _ {K V : Type 0} (same : K → K → Bool) (classes : IsEquivalence same) (text : K → List ℕ) (value : V → Data) where
  -- What a key finds in one of two maps that an object has, it finds in the other, too, with the same value.
  found_beside : (xs ys : List (K × V)) → ((x y : K × V) → Contains xs x → Contains ys y → IsTrue (same x.0 y.0) ↔ (text x.0 ≡ text y.0))
      → (d : Data) → IsObjectOf text value xs d → IsObjectOf text value ys d → (q : K) (x : K × V) → found_by (same q) xs ≡ Some x
      → (y : K × V) × (found_by (same q) ys ≡ Some y) × Contains ys y × (value x.1 ≡ value y.1)
  found_beside xs ys tells d of_xs of_ys q x is =
      let its = pair_found (same q) xs x is in
      let members : of_xs.members ≡ of_ys.members = members_are of_xs.members of_ys.members (sym of_xs.is ∙ of_ys.is) in
      let there : get_member (text x.0) of_ys.members ≡ Some (value x.1) =
      subst (λ ms. get_member (text x.0) ms ≡ Some (value x.1)) members (All-contains (λ z. get_member (text z.0) of_xs.members ≡ Some (value z.1)) xs x of_xs.each its.0) in
      let twin = of_ys.only (text x.0) (value x.1) there in
      let y = some_found (same q) ys twin.0 twin.1 (classes.congr q x.0 twin.0.0 its.1 ∙ (tells x twin.0 its.0 twin.1).1 (sym twin.2)) in
      let one = pair_found (same q) ys y.0 y.1 in
      let texts : text x.0 ≡ text y.0.0 = (tells x y.0 its.0 one.0).0 (sym (classes.congr q x.0 y.0.0 its.1) ∙ one.1) in
      let both : Some (value x.1) ≡ Some (value y.0.1) =
      sym there ∙ ap (λ t. get_member t of_ys.members) texts ∙ All-contains (λ z. get_member (text z.0) of_ys.members ≡ Some (value z.1)) ys y.0 of_ys.each one.0 in
      let values : value x.1 ≡ value y.0.1 = cc both in
      (y.0, y.1, one.0, values)

  module _ (equal : V → V → Bool) (xs ys : List (K × V))
      (tells : (x y : K × V) → Contains xs x → Contains ys y → (IsTrue (same x.0 y.0) ↔ (text x.0 ≡ text y.0)) × (IsTrue (equal x.1 y.1) ↔ (value x.1 ≡ value y.1)))
      (d : Data) (of_xs : IsObjectOf text value xs d) (of_ys : IsObjectOf text value ys d) (q : K) where
    both_equal : (o p : Option (K × V)) → found_by (same q) xs ≡ o → found_by (same q) ys ≡ p → option_eq (λ (x y : K × V). equal x.1 y.1) o p ≡ true
    both_equal None None none neither = refl
    both_equal None (Some y) none is =
        let x =
        found_beside ys xs
        (λ z w inz inw.
        let told = (tells w z inw inz).0 in (λ so. sym (told.0 (classes.symm w.0 z.0 ∙ so)), λ so. classes.symm z.0 w.0 ∙ told.1 (sym so))) d of_ys of_xs q y is in
        absurd (true≢false (ap is_some (sym x.1 ∙ none)))
    both_equal (Some x) p is other =
        let y = found_beside xs ys (λ z w inz inw. (tells z w inz inw).0) d of_xs of_ys q x is in
        subst (λ o. option_eq (λ (z w : K × V). equal z.1 w.1) (Some x) o ≡ true) (sym y.1 ∙ other) ((tells x y.0 (pair_found (same q) xs x is).0 y.2).1.1 y.3)

pub one_object_one_map : (K V : Type 0) → OneObjectOneMap K V
one_object_one_map K V same classes equal text value xs ys tells d of_xs of_ys =
    agree_from_each same equal xs ys
    (λ q. both_equal same classes text value equal xs ys tells d of_xs of_ys q (found_by (same q) xs) (found_by (same q) ys) refl refl)
