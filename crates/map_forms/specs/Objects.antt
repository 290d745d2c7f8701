-- Pairs as the members of a JSON object, and which pair each member stands for.
use Rattle.std.specs.Prelude.{◌≡◌, ◌≢◌, ◌⊎◌, ℕ, List, [], ◌∷◌, Some}
use Rattle.std.specs.List.{All, Contains}
use Rattle.std.specs.List.Sorted.{IsPermutation}
use Rattle.seize_words.specs.declared.fault.Fault.{Fault}
use Rattle.seize_words.specs.declared.fault.Fault.TheVariants.{Memory, Capacity}
use Rattle.serde_json.specs.Data.{Data, Members, no_members, member, put, object}
use Rattle.serde_json.specs.Find.{get_member}
use Rattle.map_forms.specs.Forms.{IsNone}
use Rattle.map_forms.specs.declared.fault.JsonFault.{JsonFault}
use Rattle.map_forms.specs.declared.fault.JsonFault.TheVariants.{BadKey, BadElement, Refused}

module _ {K V : Type 0} (text : K → List ℕ) (value : V → Data) where
  -- the members, with these pairs put among them one after another
  abbrev pub members_with : Members → List (K × V) → Members
  members_with ms [] = ms
  members_with ms (x ∷ xs) = members_with (put (text x.0) (value x.1) ms) xs

  -- no two keys have the same text
  abbrev pub AreApart : List (K × V) → Type 0
  AreApart [] = Unit {0}
  AreApart (x ∷ xs) = All (λ y. text y.0 ≢ text x.0) xs × AreApart xs

  -- The object has these pairs, and no others: each is the member with its key's text for a name, and each member is one of them.
  pub record IsObjectOf (xs : List (K × V)) (written : Data) : Type 0 where
    pub members : Members
    pub is : written ≡ object members
    pub each : All (λ x. get_member (text x.0) members ≡ Some (value x.1)) xs
    pub only : (name : List ℕ) (d : Data) → get_member name members ≡ Some d → (x : K × V) × Contains xs x × (text x.0 ≡ name)

-- What pairs make that are put among no members one after another, where no two keys have the same text, is the object of these pairs.
abbrev pub ObjectsHaveTheirPairs : Type 0 → Type 0 → Type 0
ObjectsHaveTheirPairs K V =
    (text : K → List ℕ) (value : V → Data) (xs : List (K × V)) → AreApart text value xs → IsObjectOf text value xs (object (members_with text value no_members xs))

-- Another order of the pairs makes no difference.
abbrev pub ObjectsHaveNoOrder : Type 0 → Type 0 → Type 0
ObjectsHaveNoOrder K V =
    (text : K → List ℕ) (value : V → Data) (xs ys : List (K × V)) → IsPermutation xs ys → (written : Data) → IsObjectOf text value xs written → IsObjectOf text value ys written

-- memory, or the length of a table, was refused
abbrev pub IsRefusal : JsonFault → Type 0
IsRefusal why = (fault : Fault) × (why ≡ Refused fault) × ((fault ≡ Memory) ⊎ (fault ≡ Capacity))

-- What keys and values are in range, and what each is written as.
module _ {K V : Type 0} (key_in : K → Type 0) (text : K → List ℕ) (value_in : V → Type 0) (value : V → Data) where
  -- a member with this name and this value stands for this pair
  abbrev pub IsPairOf : List ℕ → Data → K × V → Type 0
  IsPairOf name d x = (key_in x.0 × (text x.0 ≡ name)) × (value_in x.1 × (value x.1 ≡ d))

  -- It stands for none, for this: no key is written as its name; or a key is, and no value is written as its value.
  abbrev pub IsNoPair : JsonFault → List ℕ → Data → Type 0
  IsNoPair why name d =
      ((why ≡ BadKey) × IsNone key_in text name)
      ⊎ ((why ≡ BadElement) × ((key : K) × key_in key × (text key ≡ name)) × IsNone value_in value d)

  -- The first member that stands for no pair stands for none for this: all before it do.
  abbrev pub FirstFault : JsonFault → Members → Type 0
  FirstFault why no_members = ⊥
  FirstFault why (member name d ms) = IsNoPair why name d ⊎ (((x : K × V) × IsPairOf name d x) × FirstFault why ms)
