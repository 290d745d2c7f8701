-- Arrays of the same elements.
use Rattle.std.specs.Cmp.Lexicographic.{slice_cmp}
use Rattle.std.specs.List.{All, AllByRecursion, Contains}
use Rattle.std.specs.List.Sorted.{IsStrictlySortedBy}
use Rattle.std.specs.Ordering.{ordering_reverse}
use Rattle.std.proofs.Common.{◌≡◌, ℕ, zero, suc, List, [], ◌∷◌, map, Less, nat_cmp, refl, ap, sym, subst, ◌∙◌, arith}
use Rattle.std.proofs.lemmas.Cmp.{nat_list_cmp_total, tied_itself}
use Rattle.std.proofs.lemmas.List.Elements.{All-contains, All-weaker}
use Rattle.std.proofs.lemmas.List.Sorted.{All-permutation, Contains-permutation}
use Rattle.serde_json.specs.Data.{Data, Items, no_items, item, array}
use Rattle.serde_json.specs.View.{items_of}
use Rattle.serde_json.specs.Written.{compact_text}
use Rattle.map_forms.specs.Arrays.{HasElements}
use Rattle.map_forms.specs.ArrayLaws.{ArraysAreOne, ArraysHaveNoOrder, ArraysTell}
use Rattle.map_forms.proofs.PairByPair.{first_is, later_is}

-- this text stands before that of each of these
abbrev StandsBefore : List ℕ → List Data → Type 0
StandsBefore text ds = AllByRecursion (λ t. slice_cmp nat_cmp text t ≡ Less) (map compact_text ds)

abbrev AreInOrder : List Data → Type 0
AreInOrder ds = IsStrictlySortedBy (slice_cmp nat_cmp) (map compact_text ds)

before_each : (text : List ℕ) (ds : List Data) (d : Data) → StandsBefore text ds → Contains ds d → slice_cmp nat_cmp text (compact_text d) ≡ Less
before_each text [] d before (k, l, at) = absurd (omega (arith, l))
before_each text (e ∷ ds) d before (zero, l, at) = subst (λ f. slice_cmp nat_cmp text (compact_text f) ≡ Less) at before.0
before_each text (e ∷ ds) d before (suc k, l, at) = before_each text ds d before.1 (k, omega (arith, l), at)

not_before_itself : (text : List ℕ) → slice_cmp nat_cmp text text ≡ Less → ⊥
not_before_itself text before = cc (sym before ∙ tied_itself nat_list_cmp_total text)

not_both : (s t : List ℕ) → slice_cmp nat_cmp s t ≡ Less → slice_cmp nat_cmp t s ≡ Less → ⊥
not_both s t before behind = cc (sym before ∙ nat_list_cmp_total.antisymm s t ∙ ap ordering_reverse behind)

-- the first of each is in the other, so they are one
same_first : (d e : Data) (ds es : List Data) → StandsBefore (compact_text d) ds → StandsBefore (compact_text e) es → Contains (e ∷ es) d → Contains (d ∷ ds) e → d ≡ e
same_first d e ds es before_d before_e (zero, l, at) there = sym at
same_first d e ds es before_d before_e (suc k, l, at) (zero, m, here) = here
same_first d e ds es before_d before_e (suc k, l, at) (suc j, m, here) =
    absurd (not_both (compact_text d) (compact_text e) (before_each (compact_text d) ds e before_d (j, omega (arith, m), here))
    (before_each (compact_text e) es d before_e (k, omega (arith, l), at)))

-- what stands behind the first is not the first
behind_first : (d e x : Data) (ds es : List Data) → StandsBefore (compact_text d) ds → d ≡ e → Contains ds x → Contains (e ∷ es) x → Contains es x
behind_first d e x ds es before first there (zero, l, at) =
    absurd (not_before_itself (compact_text d) (subst (λ f. slice_cmp nat_cmp (compact_text d) (compact_text f) ≡ Less) (sym (first ∙ at)) (before_each (compact_text d) ds x before there)))
behind_first d e x ds es before first there (suc k, l, at) = (k, omega (arith, l), at)

none_in : (d : Data) → Contains [] d → ⊥
none_in d (k, l, at) = omega (arith, l)

same_items : (ds es : List Data) → AreInOrder ds → AreInOrder es → ((d : Data) → Contains ds d → Contains es d) → ((d : Data) → Contains es d → Contains ds d) → ds ≡ es
unfolding IsStrictlySortedBy
same_items [] [] ordered sorted to from = refl
same_items [] (e ∷ es) ordered sorted to from = absurd (none_in e (from e (first_is e es)))
same_items (d ∷ ds) [] ordered sorted to from = absurd (none_in d (to d (first_is d ds)))
same_items (d ∷ ds) (e ∷ es) ordered sorted to from =
    let first : d ≡ e = same_first d e ds es ordered.0 sorted.0 (to d (first_is d ds)) (from e (first_is e es)) in
    ap (λ f. f ∷ ds) first
    ∙ ap (λ l. e ∷ l)
    (same_items ds es ordered.1 sorted.1 (λ x there. behind_first d e x ds es ordered.0 first there (to x (later_is d x ds there)))
    (λ x there. behind_first e d x es ds sorted.0 (sym first) there (from x (later_is e x es there))))

module _ {K : Type 0} (value : K → Data) where
  among : (xs ys : List K) (a b : Data) → All (λ x. (y : K) × Contains ys y × (value x ≡ value y)) xs → (has : HasElements value xs a) (had : HasElements value ys b) (d : Data)
      → Contains has.items d → Contains had.items d
  among xs ys a b same has had d there =
      let x = All-contains (λ e. (x : K) × Contains xs x × (value x ≡ e)) has.items d has.only there in
      let y = All-contains (λ z. (y : K) × Contains ys y × (value z ≡ value y)) xs x.0 same x.1 in
      subst (Contains had.items) (sym y.2 ∙ x.2) (All-contains (λ z. Contains had.items (value z)) ys y.0 had.each y.1)

pub arrays_are_one : (K : Type 0) → ArraysAreOne K
arrays_are_one K value xs ys same a b of_xs of_ys =
    of_xs.has.is
    ∙ ap (λ l. array (items_of l))
    (same_items of_xs.has.items of_ys.has.items of_xs.in_order of_ys.in_order (among value xs ys a b same.0 of_xs.has of_ys.has) (among value ys xs b a same.1 of_ys.has of_xs.has))
    ∙ sym of_ys.has.is

pub arrays_have_no_order : (K : Type 0) → ArraysHaveNoOrder K
arrays_have_no_order K value xs ys order d has = record {
  items = has.items;
  is = has.is;
  each = All-permutation (λ x. Contains has.items (value x)) xs ys order has.each;
  only =
      All-weaker (λ e. (x : K) × Contains xs x × (value x ≡ e)) (λ e. (x : K) × Contains ys x × (value x ≡ e))
      (λ e one. (one.0, Contains-permutation xs ys one.0 order one.1, one.2)) has.items has.only;
}

-- the items, read back
listed : Items → List Data
listed no_items = []
listed (item d ds) = d ∷ listed ds

items_in : Data → List Data
items_in (array ds) = listed ds
items_in _ = []

listed_items : (ds : List Data) → listed (items_of ds) ≡ ds
unfolding listed
listed_items [] = refl
listed_items (d ∷ ds) = ap (λ l. d ∷ l) (listed_items ds)

items_are : (ds es : List Data) → array (items_of ds) ≡ array (items_of es) → ds ≡ es
unfolding items_in
items_are ds es same = sym (listed_items ds) ∙ ap items_in same ∙ listed_items es

module _ {K : Type 0} (value : K → Data) where
  told : (xs ys : List K) (d : Data) (has : HasElements value xs d) (had : HasElements value ys d) → All (λ x. (y : K) × Contains ys y × (value x ≡ value y)) xs
  told xs ys d has had =
      All-weaker (λ x. Contains has.items (value x)) (λ x. (y : K) × Contains ys y × (value x ≡ value y))
      (λ x there.
      let y = All-contains (λ e. (y : K) × Contains ys y × (value y ≡ e)) had.items (value x) had.only
      (subst (λ l. Contains l (value x)) (items_are has.items had.items (sym has.is ∙ had.is)) there) in
      (y.0, y.1, sym y.2)) xs has.each

pub arrays_tell : (K : Type 0) → ArraysTell K
arrays_tell K value xs ys d has had = (told value xs ys d has had, told value ys xs d had has)
