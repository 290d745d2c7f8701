-- What the members of an object stand for, all of them, and what is refused to who reads them.
use Rattle.std.specs.Prelude.{◌≡◌, ℕ, List, [], ◌∷◌}
use Rattle.seize_words.specs.declared.fault.Fault.{Fault}
use Rattle.serde_json.specs.Data.{Data, Members, no_members, member}
use Rattle.map_forms.specs.Objects.{IsPairOf}
use Rattle.map_forms.specs.declared.fault.JsonFault.{JsonFault}
use Rattle.map_forms.specs.declared.fault.JsonFault.TheVariants.{Refused}

-- something was refused: memory, or what was to be put
abbrev pub IsRefused : JsonFault → Type 0
IsRefused why = (fault : Fault) × (why ≡ Refused fault)

module _ {K V : Type 0} (key_in : K → Type 0) (text : K → List ℕ) (value_in : V → Type 0) (value : V → Data) where
  -- The members stand for these pairs, in their order.
  abbrev pub AreMembersOf : List (K × V) → Members → Type 0
  AreMembersOf [] no_members = Unit {0}
  AreMembersOf (x ∷ xs) (member name d ms) = IsPairOf key_in text value_in value name d x × AreMembersOf xs ms
  AreMembersOf [] (member name d ms) = ⊥
  AreMembersOf (x ∷ xs) no_members = ⊥
