-- What was read of members, or of items, so far, and put into what takes it.
use Rattle.std.specs.Prelude.{◌<◌, ◌⊎◌}
use Rattle.std.specs.List.{FoldsTo}
use Rattle.std.proofs.Common.{◌≡◌, ◌∙◌, ℕ, zero, suc, List, [], ◌∷◌, ◌++◌, append-nil, append_assoc, get_or, inl, inr, length, string_bytes, take, ap, refl, sym, subst, arith}
use Rattle.std.proofs.lemmas.Fn.{FoldsTo-push}
use Rattle.seize_words.specs.declared.fault.Fault.TheVariants.{Memory}
use Rattle.serde_json.specs.Data.{Data}
use Rattle.serde_json.specs.View.{items_view, members_view, view}
use Rattle.serde_json.specs.declared.value.Value.{Value}
use Rattle.serde_json.proofs.Views.{Entry}
use Rattle.map_forms.specs.Arrays.{AreElementsOf, FirstBad, IsNoElement}
use Rattle.map_forms.specs.Objects.{FirstFault, IsNoPair, IsPairOf, IsRefusal}
use Rattle.map_forms.specs.declared.fault.JsonFault.{JsonFault}
use Rattle.map_forms.specs.declared.fault.JsonFault.TheVariants.{Refused}
use Rattle.map_forms.specs.Reading.{AreMembersOf, IsRefused}

-- what map_forms refuses is refused
pub refused_too : {A : Type 0} (why : JsonFault) → A ⊎ IsRefusal why → A ⊎ IsRefused why
refused_too why (inl a) = inl a
refused_too why (inr (fault, is, room)) = inr (fault, is)

-- and so is what there was no memory for
pub no_memory : {A B : Type 0} (why : JsonFault) → A ⊎ ((why ≡ Refused Memory) × B) → A ⊎ IsRefused why
no_memory why (inl a) = inl a
no_memory why (inr (is, takes)) = inr (Memory, is)

module _ {K V : Type 0} (key_in : K → Type 0) (text : K → List ℕ) (value_in : V → Type 0) (value : V → Data) where
  abbrev IsOne : Entry → K × V → Type 0
  IsOne e = IsPairOf key_in text value_in value (string_bytes e.0) (view e.1)

  -- one member more
  members_on : (xs : List (K × V)) (es : List Entry) (x : K × V) (e : Entry) → AreMembersOf key_in text value_in value xs (members_view es) → IsOne e x
      → AreMembersOf key_in text value_in value (xs ++ x ∷ []) (members_view (es ++ e ∷ []))
  members_on [] [] x e so one = (one, tt)
  members_on (y ∷ ys) (d ∷ ds) x e so one = (so.0, members_on ys ds x e so.1 one)
  members_on [] (d ∷ ds) x e so one = absurd so
  members_on (y ∷ ys) [] x e so one = absurd so

  -- the fault of the member behind them is the first one
  fault_behind : (why : JsonFault) (xs : List (K × V)) (done : List Entry) (e : Entry) (more : List Entry) → AreMembersOf key_in text value_in value xs (members_view done)
      → IsNoPair key_in text value_in value why (string_bytes e.0) (view e.1) → FirstFault key_in text value_in value why (members_view (done ++ e ∷ more))
  fault_behind why [] [] e more so none = inl none
  fault_behind why (x ∷ xs) (d ∷ done) e more so none = inr ((x, so.0), fault_behind why xs done e more so.1 none)
  fault_behind why [] (d ∷ done) e more so none = absurd so
  fault_behind why (x ∷ xs) [] e more so none = absurd so

  module _ {C : Type 0} (puts : C → K × V → C → Type 0) where
    -- The members so far stand for these pairs, which were put there one after another. The other members are left.
    pub record IsSoFar (es left : List Entry) (first now : C) : Type 0 where
      pub done : List Entry
      pub pairs : List (K × V)
      pub all : es ≡ done ++ left
      pub each : AreMembersOf key_in text value_in value pairs (members_view done)
      pub folds : FoldsTo puts first pairs now

    pub none_yet : (es left : List Entry) (first : C) → left ≡ es → IsSoFar es left first first
    none_yet es left first all = record { done = []; pairs = []; all = sym all; each = tt; folds = refl }

    pub goes_on : (es left more : List Entry) (first now next : C) (e : Entry) (name : List ℕ) → IsSoFar es left first now → left ≡ e ∷ more → name ≡ string_bytes e.0
        → (x : K × V) × IsPairOf key_in text value_in value name (view e.1) x × puts now x next → IsSoFar es more first next
    goes_on es left more first now next e name so is named (x, one, put) =
        let its : IsOne e x = subst (λ n. IsPairOf key_in text value_in value n (view e.1) x) named one in record {
          done = so.done ++ e ∷ [];
          pairs = so.pairs ++ x ∷ [];
          all = so.all ∙ ap (λ l. so.done ++ l) is ∙ sym (append_assoc so.done (e ∷ []) more);
          each = members_on so.pairs so.done x e so.each its;
          folds = FoldsTo-push puts first so.pairs now x next so.folds put;
        }

    pub fault_at : (why : JsonFault) (es left more : List Entry) (first now : C) (e : Entry) (name : List ℕ) → IsSoFar es left first now → left ≡ e ∷ more → name ≡ string_bytes e.0
        → IsNoPair key_in text value_in value why name (view e.1) ⊎ IsRefused why → FirstFault key_in text value_in value why (members_view es) ⊎ IsRefused why
    fault_at why es left more first now e name so is named (inl none) =
        inl (subst (λ l. FirstFault key_in text value_in value why (members_view l)) (sym (so.all ∙ ap (λ l. so.done ++ l) is))
        (fault_behind why so.pairs so.done e more so.each (subst (λ n. IsNoPair key_in text value_in value why n (view e.1)) named none)))
    fault_at why es left more first now e name so is named (inr refused) = inr refused

    -- where no member is left
    pub all_read : (es left : List Entry) (first now : C) → IsSoFar es left first now → left ≡ []
        → (pairs : List (K × V)) × AreMembersOf key_in text value_in value pairs (members_view es) × FoldsTo puts first pairs now
    all_read es left first now so none = (
      so.pairs,
      subst (λ l. AreMembersOf key_in text value_in value so.pairs (members_view l)) (sym (so.all ∙ ap (λ l. so.done ++ l) none ∙ append-nil so.done)) so.each,
      so.folds,
    )

module _ {K : Type 0} (in_range : K → Type 0) (value : K → Data) where
  -- the fault of the item behind so many is the first one
  bad_at : (why : JsonFault) (given : List K) (items : List Value) (i : ℕ) (v : Value) → i < length items → v ≡ get_or items i v → AreElementsOf in_range value given (items_view (take i items))
      → IsNoElement in_range value why (view v) → FirstBad in_range value why (items_view items)
  bad_at why given [] i v below is so none = absurd (omega (arith, below))
  bad_at why given (w ∷ items) zero v below is so none = inl (subst (IsNoElement in_range value why) (ap view is) none)
  bad_at why (x ∷ given) (w ∷ items) (suc i) v below is so none = inr ((x, so.0), bad_at why given items i v (omega (arith, below)) is so.1 none)
  bad_at why [] (w ∷ items) (suc i) v below is so none = absurd so

  pub bad_among : (why : JsonFault) (given : List K) (items : List Value) (i : ℕ) (v : Value) → i < length items → v ≡ get_or items i v → AreElementsOf in_range value given (items_view (take i items))
      → IsNoElement in_range value why (view v) ⊎ IsRefused why → FirstBad in_range value why (items_view items) ⊎ IsRefused why
  bad_among why given items i v below is so (inl none) = inl (bad_at why given items i v below is so none)
  bad_among why given items i v below is so (inr refused) = inr refused
