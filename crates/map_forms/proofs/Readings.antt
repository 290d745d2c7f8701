-- Elements that are read of the items of an array, one after another.
use Rattle.std.specs.Prelude.{◌+◌, ◌<◌, ◌≤◌, ◌⊎◌, IsTrue, ◌↔◌}
use Rattle.std.specs.Cmp.{IsEquivalence}
use Rattle.std.specs.List.{All, Contains, IsDistinct, list_any}
use Rattle.std.specs.List.Sorted.{IsPermutation}
use Rattle.std.proofs.Common.{◌≡◌, ℕ, zero, suc, Bool, true, false, not, cond, ◌||◌, List, [], ◌∷◌, ◌++◌, map, filter, length, take, get_or, inl, inr, refl, ap, sym, subst, ◌∙◌, arith}
use Rattle.std.proofs.lemmas.List.{map-append, take_all, take_more}
use Rattle.std.proofs.lemmas.List.Elements.{All-contains, All-filter, All-head, All-map, All-nil, All-push, All-tail, All-weaker, Contains-append_left, Contains-push}
use Rattle.std.proofs.lemmas.List.Kept.{AllPairs-filter}
use Rattle.std.proofs.lemmas.List.Sorted.{All-permutation, Contains-permutation, IsPermutation-sym}
use Rattle.std.proofs.lemmas.Map.Keys.{IsDistinct-IsPermutation, IsDistinct-from_apart, IsDistinct-push, apart_from_distinct}
use Rattle.serde_json.specs.Data.{Data, array}
use Rattle.serde_json.specs.View.{view, items_view}
use Rattle.serde_json.specs.declared.value.Value.{Value}
use Rattle.map_forms.specs.Arrays.{AreElementsOf, FirstBad, HasElements, IsElementOf, IsNoElement, IsRefused}
use Rattle.map_forms.specs.declared.fault.JsonFault.{JsonFault}
use Rattle.map_forms.proofs.PairByPair.{first_is, later_is}

-- what passes is still there
kept_there : {X : Type 0} (test : X → Bool) (xs : List X) (y : X) → Contains xs y → test y ≡ true → Contains (filter test xs) y
kept_there test [] y (k, l, at) passes = absurd (omega (arith, l))
kept_there test (x ∷ xs) y (zero, l, at) passes = subst (λ b. Contains (cond b (x ∷ filter test xs) (filter test xs)) y) (sym (ap test at ∙ passes)) (subst (Contains (x ∷ filter test xs)) at (first_is x (filter test xs)))
kept_there test (x ∷ xs) y (suc k, l, at) passes = by (test x) (kept_there test xs y (k, omega (arith, l), at) passes)
  where
    by : (b : Bool) → Contains (filter test xs) y → Contains (cond b (x ∷ filter test xs) (filter test xs)) y
    by true there = later_is x y (filter test xs) there
    by false there = there

module _ {K : Type 0} (same : K → K → Bool) (x : K) where
  -- those that do not equal it
  abbrev others : List K → List K
  others xs = filter (λ y. not (same x y)) xs

  others_apart : (xs : List K) → IsDistinct same xs → IsDistinct same (others xs)
  others_apart xs apart =
      IsDistinct-from_apart same (others xs) (AllPairs-filter (λ a b. same a b ≡ false) (λ y. not (same x y)) xs (λ i j d. apart_from_distinct same xs i j d apart))

  none_equals : (xs : List K) → list_any (same x) (others xs) ≡ false
  none_equals [] = refl
  none_equals (y ∷ xs) = by (same x y) refl (none_equals xs)
    where
      by : (b : Bool) → same x y ≡ b → list_any (same x) (others xs) ≡ false → list_any (same x) (cond (not b) (y ∷ others xs) (others xs)) ≡ false
      by true is none = none
      by false is none = ap (λ b. b || list_any (same x) (others xs)) is ∙ none

module _ {K : Type 0} (in_range : K → Type 0) (value : K → Data) (same : K → K → Bool) where
  -- the items so far stand for these elements, of which no two are equal
  pub record AreRead (done : List Value) (xs : List K) : Type 0 where
    pub ranged : All in_range xs
    pub each : All (λ x. Contains (map view done) (value x)) xs
    pub only : All (λ v. (x : K) × Contains xs x × (value x ≡ view v)) done
    pub once : IsDistinct same xs

  pub none_yet : (xs : List K) → xs ≡ [] → AreRead [] xs
  unfolding IsDistinct
  none_yet xs none = subst (AreRead []) (sym none) (record { ranged = All-nil _; each = All-nil _; only = All-nil _; once = tt })

  module _ (laws : IsEquivalence same) (tells : (x y : K) → in_range x → in_range y → IsTrue (same x y) ↔ (value x ≡ value y)) where
    one_on : (done : List Value) (v : Value) (old new : List K) (x : K) → AreRead done old → IsElementOf in_range value (view v) x → IsPermutation new (others same x old ++ (x ∷ []))
        → AreRead (done ++ v ∷ []) new
    one_on done v old new x so its order =
        let kept = others same x old in
        let back : IsPermutation (kept ++ (x ∷ [])) new = IsPermutation-sym new (kept ++ (x ∷ [])) order in
        let more : map view (done ++ v ∷ []) ≡ map view done ++ view v ∷ [] = map-append view done (v ∷ []) in
        let there : (d : Data) → Contains (map view done) d → Contains (map view (done ++ v ∷ [])) d
        = λ d c. subst (λ l. Contains l d) (sym more) (Contains-append_left (map view done) (view v ∷ []) d c) in
        let it : Contains new x = Contains-permutation (kept ++ (x ∷ [])) new x back (Contains-push kept x) in record {
          ranged = All-permutation in_range (kept ++ (x ∷ [])) new back (All-push in_range kept x (All-filter (λ y. not (same x y)) in_range old so.ranged) its.0);
          each =
              All-permutation (λ y. Contains (map view (done ++ v ∷ [])) (value y)) (kept ++ (x ∷ [])) new back
              (All-push (λ y. Contains (map view (done ++ v ∷ [])) (value y)) kept x
              (All-filter (λ y. not (same x y)) (λ y. Contains (map view (done ++ v ∷ [])) (value y)) old
              (All-weaker (λ y. Contains (map view done) (value y)) (λ y. Contains (map view (done ++ v ∷ [])) (value y)) (λ y c. there (value y) c) old so.each))
              (subst (λ l. Contains l (value x)) (sym more) (subst (Contains (map view done ++ view v ∷ [])) (sym its.1) (Contains-push (map view done) (view v)))));
          only =
              All-push (λ w. (y : K) × Contains new y × (value y ≡ view w)) done v
              (All-weaker (λ w. (y : K) × Contains old y × (value y ≡ view w)) (λ w. (y : K) × Contains new y × (value y ≡ view w)) (λ w one. still w one.0 one.1 one.2 (same x one.0) refl) done so.only)
              (x, it, its.1);
          once = IsDistinct-IsPermutation same laws.symm (kept ++ (x ∷ [])) new back (IsDistinct-push laws kept x (others_apart same x old so.once) (none_equals same x old));
        }
      where
        still : (w : Value) (y : K) → Contains old y → value y ≡ view w → (b : Bool) → same x y ≡ b → (z : K) × Contains new z × (value z ≡ view w)
        still w y c is true equals = (
          x,
          Contains-permutation (others same x old ++ (x ∷ [])) new x (IsPermutation-sym new (others same x old ++ (x ∷ [])) order) (Contains-push (others same x old) x),
          (tells x y its.0 (All-contains in_range old y so.ranged c)).0 equals ∙ is,
        )
        still w y c is false differs = (
          y,
          Contains-permutation (others same x old ++ (x ∷ [])) new y (IsPermutation-sym new (others same x old ++ (x ∷ [])) order)
              (Contains-append_left (others same x old) (x ∷ []) y (kept_there (λ z. not (same x z)) old y c (ap not differs))),
          is,
        )

    pub goes_on : (items : List Value) (i : ℕ) (v : Value) (old new : List K) → i < length items → v ≡ get_or items i v → AreRead (take i items) old
        → (x : K) × IsElementOf in_range value (view v) x × IsPermutation new (others same x old ++ (x ∷ [])) → AreRead (take (i + 1) items) new
    goes_on items i v old new below is so (x, its, order) =
        subst (λ l. AreRead l new) (sym (take_more items i v below ∙ ap (λ w. take i items ++ w ∷ []) (sym is))) (one_on (take i items) v old new x so its order)

  -- the items so far stand for elements, in their order, and so they do with one more
  behind : (given : List K) (done : List Value) (x : K) (v : Value) → AreElementsOf in_range value given (items_view done) → IsElementOf in_range value (view v) x
      → AreElementsOf in_range value (given ++ (x ∷ [])) (items_view (done ++ v ∷ []))
  behind [] [] x v so its = (its, tt)
  behind (y ∷ given) (w ∷ done) x v so its = (so.0, behind given done x v so.1 its)
  behind [] (w ∷ done) x v so its = absurd so
  behind (y ∷ given) [] x v so its = absurd so

  pub one_behind : (items : List Value) (i : ℕ) (v : Value) (given : List K) (x : K) → i < length items → v ≡ get_or items i v → AreElementsOf in_range value given (items_view (take i items))
      → IsElementOf in_range value (view v) x → AreElementsOf in_range value (given ++ (x ∷ [])) (items_view (take (i + 1) items))
  one_behind items i v given x below is so its =
      subst (λ l. AreElementsOf in_range value (given ++ (x ∷ [])) (items_view l)) (sym (take_more items i v below ∙ ap (λ w. take i items ++ w ∷ []) (sym is)))
      (behind given (take i items) x v so its)

  -- the fault of the item behind them is the first one
  bad_behind : (why : JsonFault) (items : List Value) (i : ℕ) (v : Value) → i < length items → v ≡ get_or items i v → All (λ w. (x : K) × IsElementOf in_range value (view w) x) (take i items)
      → IsNoElement in_range value why (view v) → FirstBad in_range value why (items_view items)
  bad_behind why [] i v below is all none = absurd (omega (arith, below))
  bad_behind why (w ∷ items) zero v below is all none = inl (subst (IsNoElement in_range value why) (ap view is) none)
  bad_behind why (w ∷ items) (suc i) v below is all none =
      inr (
        All-head (λ u. (x : K) × IsElementOf in_range value (view u) x) w (take i items) all,
        bad_behind why items i v (omega (arith, below)) is (All-tail (λ u. (x : K) × IsElementOf in_range value (view u) x) w (take i items) all) none,
      )

  bad_at : (why : JsonFault) (items : List Value) (i : ℕ) (v : Value) (xs : List K) → i < length items → v ≡ get_or items i v → AreRead (take i items) xs
      → IsNoElement in_range value why (view v) → FirstBad in_range value why (items_view items)
  bad_at why items i v xs below is so none =
      bad_behind why items i v below is
      (All-weaker (λ w. (x : K) × Contains xs x × (value x ≡ view w)) (λ w. (x : K) × IsElementOf in_range value (view w) x)
      (λ w one. (one.0, (All-contains in_range xs one.0 so.ranged one.1, one.2))) (take i items) so.only) none

  pub fault_at : (why : JsonFault) (items : List Value) (i : ℕ) (v : Value) (xs : List K) → i < length items → v ≡ get_or items i v → AreRead (take i items) xs
      → IsNoElement in_range value why (view v) ⊎ IsRefused why → FirstBad in_range value why (items_view items) ⊎ IsRefused why
  fault_at why items i v xs below is so (inl none) = inl (bad_at why items i v xs below is so none)
  fault_at why items i v xs below is so (inr refused) = inr refused

  -- where no item is left
  module _ (items : List Value) (i : ℕ) (xs : List K) (past : length items ≤ i) (so : AreRead (take i items) xs) where
    pub all_read : AreRead items xs
    all_read = subst (λ l. AreRead l xs) (take_all i items past) so

    pub has_elements : HasElements value xs (array (items_view items))
    has_elements = record {
      items = map view items;
      is = refl;
      each = all_read.each;
      only = All-map (λ d. (x : K) × Contains xs x × (value x ≡ d)) view items all_read.only;
    }
