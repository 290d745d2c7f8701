-- The members of an object, pair by pair.
use Rattle.std.specs.List.{All, Contains}
use Rattle.std.specs.Str.{bytes_eq}
use Rattle.std.proofs.Common.{◌≡◌, ◌≢◌, ℕ, suc, Bool, true, false, List, [], ◌∷◌, ◌++◌, map, Some, ◌⊎◌, inl, inr, refl, sym, ◌∙◌, arith}
use Rattle.std.proofs.lemmas.Slice.Eq.{bytes_eq-Decides}
use Rattle.std.proofs.lemmas.Bool.{true≢false}
use Rattle.std.proofs.lemmas.List.Elements.{All-cons, All-nil, All-head, All-tail}
use Rattle.std.proofs.lemmas.List.Sorted.{All-permutation, Contains-permutation}
use Rattle.serde_json.specs.Data.{Data, Members, no_members, put}
use Rattle.serde_json.specs.Find.{get_member}
use Rattle.serde_json.proofs.Views.{get_member-put, get_member-put_other}
use Rattle.map_forms.specs.Objects.{members_with, AreApart, ObjectsHaveTheirPairs, ObjectsHaveNoOrder}

-- it is one of the list
pub first_is : {X : Type 0} (x : X) (xs : List X) → Contains (x ∷ xs) x
first_is x xs = (0, omega arith, refl)

pub later_is : {X : Type 0} (x y : X) (xs : List X) → Contains xs y → Contains (x ∷ xs) y
later_is x y xs (k, l, is) = (suc k, omega (arith, l), is)

module _ {K V X : Type 0} (text : K → List ℕ) (value : V → Data) (pair : X → K × V) where
  -- one pair more
  pub one_more : (ms : Members) (xs : List X) (x : X)
      → members_with text value ms (map pair (xs ++ x ∷ [])) ≡ put (text (pair x).0) (value (pair x).1) (members_with text value ms (map pair xs))
  one_more ms [] x = refl
  one_more ms (y ∷ xs) x = one_more (put (text (pair y).0) (value (pair y).1) ms) xs x

module _ {K V : Type 0} (text : K → List ℕ) (value : V → Data) where
  -- a member whose name no further key has stays
  kept : (xs : List (K × V)) (ms : Members) (name : List ℕ) (d : Data) → All (λ y. text y.0 ≢ name) xs → get_member name ms ≡ Some d → get_member name (members_with text value ms xs) ≡ Some d
  kept [] ms name d apart is = is
  kept (x ∷ xs) ms name d apart is =
      kept xs (put (text x.0) (value x.1) ms) name d (All-tail (λ y. text y.0 ≢ name) x xs apart)
      (get_member-put_other name (text x.0) (value x.1) ms (λ e. All-head (λ y. text y.0 ≢ name) x xs apart (sym e)) ∙ is)

  each : (xs : List (K × V)) (ms : Members) → AreApart text value xs → All (λ x. get_member (text x.0) (members_with text value ms xs) ≡ Some (value x.1)) xs
  each [] ms apart = All-nil _
  each (x ∷ xs) ms apart =
      All-cons (λ y. get_member (text y.0) (members_with text value (put (text x.0) (value x.1) ms) xs) ≡ Some (value y.1)) x xs
      (kept xs (put (text x.0) (value x.1) ms) (text x.0) (value x.1) apart.0 (get_member-put (text x.0) (value x.1) ms))
      (each xs (put (text x.0) (value x.1) ms) apart.1)

  abbrev IsOne : List (K × V) → List ℕ → Type 0
  IsOne xs name = (x : K × V) × Contains xs x × (text x.0 ≡ name)

  only : (xs : List (K × V)) (ms : Members) (name : List ℕ) (d : Data) → get_member name (members_with text value ms xs) ≡ Some d → IsOne xs name ⊎ (get_member name ms ≡ Some d)
  only [] ms name d is = inr is
  only (x ∷ xs) ms name d is = by (only xs (put (text x.0) (value x.1) ms) name d is)
    where
      of_put : (b : Bool) → bytes_eq name (text x.0) ≡ b → get_member name (put (text x.0) (value x.1) ms) ≡ Some d → IsOne (x ∷ xs) name ⊎ (get_member name ms ≡ Some d)
      of_put true e h = inl (x, first_is x xs, sym ((bytes_eq-Decides name (text x.0)).0 e))
      of_put false e h =
          inr (sym (get_member-put_other name (text x.0) (value x.1) ms (λ same. true≢false (sym ((bytes_eq-Decides name (text x.0)).1 same) ∙ e))) ∙ h)

      by : IsOne xs name ⊎ (get_member name (put (text x.0) (value x.1) ms) ≡ Some d) → IsOne (x ∷ xs) name ⊎ (get_member name ms ≡ Some d)
      by (inl one) = inl (one.0, later_is x one.0 xs one.1, one.2)
      by (inr h) = of_put (bytes_eq name (text x.0)) refl h

pub objects_have_their_pairs : (K V : Type 0) → ObjectsHaveTheirPairs K V
objects_have_their_pairs K V text value xs apart = record {
  members = members_with text value no_members xs;
  is = refl;
  each = each text value xs no_members apart;
  only = λ name d is. elim (only text value xs no_members name d is) as (λ _. (x : K × V) × Contains xs x × (text x.0 ≡ name)) [
    | inl one ↦ one
    | inr none ↦ absurd (cc none)
  ];
}

pub objects_have_no_order : (K V : Type 0) → ObjectsHaveNoOrder K V
objects_have_no_order K V text value xs ys same written of = record {
  members = of.members;
  is = of.is;
  each = All-permutation (λ x. get_member (text x.0) of.members ≡ Some (value x.1)) xs ys same of.each;
  only = λ name d is. let one = of.only name d is in (one.0, Contains-permutation xs ys one.0 same one.1, one.2);
}
