-- Values that are put among others by their compact texts, and the array of them.
use Rattle.std.specs.BTreeMap.{insert_entry}
use Rattle.std.specs.Cmp.Lexicographic.{slice_cmp}
use Rattle.std.specs.List.{All, AllByRecursion, Contains}
use Rattle.std.specs.List.Sorted.{IsStrictlySortedBy}
use Rattle.std.specs.Map.{keys_of, values_of}
use Rattle.std.specs.Ordering.{is_eq, match_ordering}
use Rattle.std.proofs.Common.{◌≡◌, ℕ, zero, suc, List, [], ◌∷◌, ◌++◌, map, Ordering, Less, Equal, Greater, Vec, Global, nat_cmp, string_bytes, string_cmp, refl, ap, sym, subst, ◌∙◌, arith}
use Rattle.std.proofs.lemmas.List.Elements.{All-cons, All-nil, All-head, All-map, All-tail, All-push, All-weaker, Contains-append_left, Contains-push}
use Rattle.std.proofs.lemmas.Map.Text.{is_eq-slice_cmp}
use Rattle.std.proofs.lemmas.Map.Views.{All-values-insert_entry}
use Rattle.std.proofs.lemmas.Option.{same_Some}
use Rattle.std.proofs.lemmas.Slice.Eq.{bytes_eq-Decides}
use Rattle.serde_json.specs.Data.{Data, array}
use Rattle.serde_json.specs.Read.{read}
use Rattle.serde_json.specs.View.{view, items_of}
use Rattle.serde_json.specs.Written.{compact_text}
use Rattle.serde_json.specs.declared.value.Value.{Value, Array}
use Rattle.serde_json.proofs.Views.{Entry, view-Array}
use Rattle.map_forms.specs.Arrays.{IsArrayOf}
use Rattle.map_forms.specs.Texts.{IsTextOf, PutsValue}
use Rattle.map_forms.proofs.PairByPair.{first_is, later_is}

-- the values that stand beside the texts
abbrev pub data_of : List Entry → List Data
data_of es = map view (values_of es)

-- texts of which neither stands before the other are one
same_bytes : (xs ys : List ℕ) → slice_cmp nat_cmp xs ys ≡ Equal → xs ≡ ys
same_bytes xs ys tied = (bytes_eq-Decides xs ys).0 (sym (is_eq-slice_cmp xs ys) ∙ ap is_eq tied)

-- one text has one value
one_value : (a b : Entry) → IsTextOf a → IsTextOf b → string_bytes a.0 ≡ string_bytes b.0 → view a.1 ≡ view b.1
one_value a b is_a is_b same = same_Some (view a.1) (view b.1) (sym is_a.1 ∙ ap read same ∙ is_b.1)

module _ (e : Entry) (is : IsTextOf e) where
  -- each value still stands beside its text
  texts_on : (es : List Entry) → All IsTextOf es → All IsTextOf (insert_entry string_cmp es e.0 e.1)
  texts_on [] all = All-cons IsTextOf e [] is (All-nil IsTextOf)
  texts_on (f ∷ es) all = by (string_cmp e.0 f.0) refl (texts_on es (All-tail IsTextOf f es all))
    where
      by : (o : Ordering) → string_cmp e.0 f.0 ≡ o → All IsTextOf (insert_entry string_cmp es e.0 e.1)
          → All IsTextOf (match_ordering o ((e.0, e.1) ∷ f ∷ es) ((f.0, e.1) ∷ es) (f ∷ insert_entry string_cmp es e.0 e.1))
      by Less at behind = All-cons IsTextOf e (f ∷ es) is all
      by Equal at behind =
          let same : string_bytes e.0 ≡ string_bytes f.0 = same_bytes (string_bytes e.0) (string_bytes f.0) at in
          All-cons IsTextOf (f.0, e.1) es (sym same ∙ is.0, ap read (sym same) ∙ is.1) (All-tail IsTextOf f es all)
      by Greater at behind = All-cons IsTextOf f (insert_entry string_cmp es e.0 e.1) (All-head IsTextOf f es all) behind

  -- it is there
  is_put : (es : List Entry) → Contains (data_of (insert_entry string_cmp es e.0 e.1)) (view e.1)
  is_put [] = first_is (view e.1) []
  is_put (f ∷ es) = by (string_cmp e.0 f.0) (is_put es)
    where
      by : (o : Ordering) → Contains (data_of (insert_entry string_cmp es e.0 e.1)) (view e.1)
          → Contains (data_of (match_ordering o ((e.0, e.1) ∷ f ∷ es) ((f.0, e.1) ∷ es) (f ∷ insert_entry string_cmp es e.0 e.1))) (view e.1)
      by Less behind = first_is (view e.1) (data_of (f ∷ es))
      by Equal behind = first_is (view e.1) (data_of es)
      by Greater behind = later_is (view f.1) (view e.1) (data_of (insert_entry string_cmp es e.0 e.1)) behind

  -- and so is what was there
  others_stay : (es : List Entry) → All IsTextOf es → (d : Data) → Contains (data_of es) d → Contains (data_of (insert_entry string_cmp es e.0 e.1)) d
  others_stay [] all d (k, l, at) = absurd (omega (arith, l))
  others_stay (f ∷ es) all d there = by (string_cmp e.0 f.0) refl there (others_stay es (All-tail IsTextOf f es all) d)
    where
      by : (o : Ordering) → string_cmp e.0 f.0 ≡ o → Contains (data_of (f ∷ es)) d → (Contains (data_of es) d → Contains (data_of (insert_entry string_cmp es e.0 e.1)) d)
          → Contains (data_of (match_ordering o ((e.0, e.1) ∷ f ∷ es) ((f.0, e.1) ∷ es) (f ∷ insert_entry string_cmp es e.0 e.1))) d
      by Less at found behind = later_is (view e.1) d (data_of (f ∷ es)) found
      by Equal at (zero, l, here) behind =
          let same : view e.1 ≡ view f.1 = one_value e f is (All-head IsTextOf f es all) (same_bytes (string_bytes e.0) (string_bytes f.0) at) in
          subst (Contains (view e.1 ∷ data_of es)) (same ∙ here) (first_is (view e.1) (data_of es))
      by Equal at (suc k, l, here) behind = later_is (view e.1) d (data_of es) (k, omega (arith, l), here)
      by Greater at (zero, l, here) behind = subst (Contains (view f.1 ∷ data_of (insert_entry string_cmp es e.0 e.1))) here (first_is (view f.1) (data_of (insert_entry string_cmp es e.0 e.1)))
      by Greater at (suc k, l, here) behind = later_is (view f.1) d (data_of (insert_entry string_cmp es e.0 e.1)) (behind (k, omega (arith, l), here))

module _ {K : Type 0} (value : K → Data) where
  -- the values so far are those of these elements
  pub record AreSoFar (xs : List K) (es : List Entry) : Type 0 where
    pub texts : All IsTextOf es
    pub each : All (λ x. Contains (data_of es) (value x)) xs
    pub only : All (λ v. (x : K) × Contains xs x × (value x ≡ view v)) (values_of es)

  pub none_yet : (es : List Entry) → es ≡ [] → AreSoFar [] es
  none_yet es none = subst (AreSoFar []) (sym none) (record { texts = All-nil _; each = All-nil _; only = All-nil _ })

  pub one_more : (xs : List K) (old new : List Entry) (x : K) → AreSoFar xs old → PutsValue (value x) old new → AreSoFar (xs ++ x ∷ []) new
  one_more xs old new x so (e, is, its, put) =
      subst (AreSoFar (xs ++ x ∷ [])) (sym put)
      (record {
        texts = texts_on e is old so.texts;
        each =
            All-push (λ y. Contains (data_of (insert_entry string_cmp old e.0 e.1)) (value y)) xs x
            (All-weaker (λ y. Contains (data_of old) (value y)) (λ y. Contains (data_of (insert_entry string_cmp old e.0 e.1)) (value y))
            (λ y there. others_stay e is old so.texts (value y) there) xs so.each)
            (subst (Contains (data_of (insert_entry string_cmp old e.0 e.1))) its (is_put e is old));
        only =
            All-values-insert_entry string_cmp e.0 e.1 (λ v. (y : K) × Contains (xs ++ x ∷ []) y × (value y ≡ view v)) old
            (All-weaker (λ v. (y : K) × Contains xs y × (value y ≡ view v)) (λ v. (y : K) × Contains (xs ++ x ∷ []) y × (value y ≡ view v))
            (λ v one. (one.0, Contains-append_left xs (x ∷ []) one.0 one.1, one.2)) (values_of old) so.only)
            (x, Contains-push xs x, sym its);
      })

  -- texts in order are those of the values
  below_texts : (a : Entry) → IsTextOf a → (es : List Entry) → All IsTextOf es → AllByRecursion (λ k. string_cmp a.0 k ≡ Less) (keys_of es)
      → AllByRecursion (λ t. slice_cmp nat_cmp (compact_text (view a.1)) t ≡ Less) (map compact_text (data_of es))
  below_texts a is [] all below = tt
  below_texts a is (e ∷ es) all below = (
    sym (ap (λ t. slice_cmp nat_cmp t (string_bytes e.0)) is.0 ∙ ap (slice_cmp nat_cmp (compact_text (view a.1))) (All-head IsTextOf e es all).0) ∙ below.0,
    below_texts a is es (All-tail IsTextOf e es all) below.1,
  )

  texts_in_order : (es : List Entry) → All IsTextOf es → IsStrictlySortedBy string_cmp (keys_of es) → IsStrictlySortedBy (slice_cmp nat_cmp) (map compact_text (data_of es))
  unfolding IsStrictlySortedBy
  texts_in_order [] all ordered = tt
  texts_in_order (e ∷ es) all ordered =
      (below_texts e (All-head IsTextOf e es all) es (All-tail IsTextOf e es all) ordered.0, texts_in_order es (All-tail IsTextOf e es all) ordered.1)

  pub written_of : (xs : List K) (es : List Entry) (listed : Vec Value Global) → AreSoFar xs es → IsStrictlySortedBy string_cmp (keys_of es) → listed.items ≡ values_of es
      → IsArrayOf value xs (view (Array listed))
  written_of xs es listed so ordered are =
      record {
        has = record {
          items = data_of es;
          is = view-Array listed ∙ ap (λ vs. array (items_of (map view vs))) are;
          each = so.each;
          only = All-map (λ d. (x : K) × Contains xs x × (value x ≡ d)) view (values_of es) so.only;
        };
        in_order = texts_in_order es so.texts ordered;
      }
