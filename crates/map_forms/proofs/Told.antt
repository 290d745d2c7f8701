-- What was written of all that was told, one after another.
use Rattle.std.specs.Prelude.{Bool, false}
use Rattle.std.specs.BTreeMap.{BTreeMap, IsOrdered}
use Rattle.std.specs.List.{All, FoldsTo}
use Rattle.std.proofs.Common.{◌≡◌, ◌∙◌, ℕ, List, [], ◌∷◌, ◌++◌, Global, String, append-nil, append_assoc, map, string_cmp, ap, refl, sym, subst}
use Rattle.std.proofs.lemmas.List.Elements.{All-cons, All-nil}
use Rattle.serde_json.specs.Data.{Data, Members}
use Rattle.serde_json.specs.declared.value.Value.{Value}
use Rattle.map_forms.specs.Objects.{members_with}
use Rattle.map_forms.proofs.SortedItems.{AreSoFar, one_more}
use Rattle.map_forms.specs.Growing.{PutsItem, PutsMember}

module _ {K V W : Type 0} (key_in : K → Type 0) (text : K → List ℕ) (value_in : V → Type 0) (value : V → Data) (refused : W → Bool) (members : W → Members) where
  abbrev pub along : W → K × V → W → Type 0
  along w x n = PutsMember key_in text value_in value x.0 x.1 (refused w) (members w) (refused n) (members n)

  pub all_written : (xs : List (K × V)) (w last : W) → FoldsTo along w xs last → refused last ≡ false
      → (refused w ≡ false) × All (λ x. key_in x.0 × value_in x.1) xs × (members last ≡ members_with text value (members w) xs)
  all_written [] w last is none = (ap refused is ∙ none, All-nil (λ x. key_in x.0 × value_in x.1), sym (ap members is))
  all_written (x ∷ xs) w last (j, one, folds) none =
      let rest = all_written xs j last folds none in let here = one rest.0 in (
        here.0,
        All-cons (λ y. key_in y.0 × value_in y.1) x xs here.1 rest.1,
        rest.2 ∙ ap (λ ms. members_with text value ms xs) here.2,
      )

-- And of all elements.
module _ {K V W : Type 0} (in_range : K → Type 0) (value : K → Data) (refused : W → Bool) (items : W → BTreeMap (String Global) Value) where
  abbrev pub along_items : W → K × V → W → Type 0
  along_items w x n = PutsItem in_range value x.0 (refused w) (items w) (refused n) (items n)

  pub all_items : (xs : List (K × V)) (before : List K) (w last : W) → FoldsTo along_items w xs last → refused last ≡ false → AreSoFar value before (items w).entries → IsOrdered string_cmp (items w)
      → All (λ x. in_range x.0) xs × AreSoFar value (before ++ map (λ x. x.0) xs) (items last).entries × IsOrdered string_cmp (items last)
  all_items [] before w last is none so ordered = (
    All-nil (λ x. in_range x.0),
    subst (λ (n : W). AreSoFar value (before ++ []) (items n).entries) is (subst (λ l. AreSoFar value l (items w).entries) (sym (append-nil before)) so),
    subst (λ (n : W). IsOrdered string_cmp (items n)) is ordered,
  )
  all_items (x ∷ xs) before w last (j, one, folds) none so ordered =
      let here = one (not_before xs j last folds none) in
      let rest = all_items xs (before ++ (x.0 ∷ [])) j last folds none (one_more value before (items w).entries (items j).entries x.0 so here.2) here.3 in (
        All-cons (λ y. in_range y.0) x xs here.1 rest.0,
        subst (λ l. AreSoFar value l (items last).entries) (append_assoc before (x.0 ∷ []) (map (λ y. y.0) xs)) rest.1,
        rest.2,
      )
    where
      not_before : (ys : List (K × V)) (u n : W) → FoldsTo along_items u ys n → refused n ≡ false → refused u ≡ false
      not_before [] u n is none = ap refused is ∙ none
      not_before (y ∷ ys) u n (v, o, f) none = (o (not_before ys v n f none)).0
