-- Elements as the items of a JSON array.
use Rattle.std.specs.Prelude.{◌≡◌, ◌⊎◌, List, [], ◌∷◌, None, map}
use Rattle.std.specs.Cmp.Lexicographic.{slice_cmp}
use Rattle.std.specs.List.{All, Contains}
use Rattle.std.specs.List.Sorted.{IsStrictlySortedBy}
use Rattle.std.specs.Ordering.{nat_cmp}
use Rattle.seize_words.specs.declared.fault.Fault.TheVariants.{Memory, Capacity}
use Rattle.serde_json.specs.Data.{Data, Items, no_items, item, array}
use Rattle.serde_json.specs.Find.{as_array}
use Rattle.serde_json.specs.View.{items_of}
use Rattle.serde_json.specs.Written.{compact_text}
use Rattle.map_forms.specs.Forms.{IsNone}
use Rattle.map_forms.specs.declared.fault.JsonFault.{JsonFault}
use Rattle.map_forms.specs.declared.fault.JsonFault.TheVariants.{NotAnArray, BadElement, Refused}

module _ {K : Type 0} (value : K → Data) where
  -- The array has these elements, and no others, in any order, each once or more often: each element's value is an item, and each item is the value of an element.
  pub record HasElements (xs : List K) (written : Data) : Type 0 where
    pub items : List Data
    pub is : written ≡ array (items_of items)
    pub each : All (λ x. Contains items (value x)) xs
    pub only : All (λ d. (x : K) × Contains xs x × (value x ≡ d)) items

  -- The array has these elements, each once, in the order of the bytes of their compact texts: of each item the text is below those of the items behind it.
  pub record IsArrayOf (xs : List K) (written : Data) : Type 0 where
    pub has : HasElements xs written
    pub in_order : IsStrictlySortedBy (slice_cmp nat_cmp) (map compact_text has.items)

-- Memory, or the length of a table, was refused.
abbrev pub IsRefused : JsonFault → Type 0
IsRefused why = (why ≡ Refused Memory) ⊎ (why ≡ Refused Capacity)

-- What elements are in range, and what each is written as.
module _ {K : Type 0} (in_range : K → Type 0) (value : K → Data) where
  -- an item of this value stands for this element
  abbrev pub IsElementOf : Data → K → Type 0
  IsElementOf d x = in_range x × (value x ≡ d)

  -- it stands for none
  abbrev pub IsNoElement : JsonFault → Data → Type 0
  IsNoElement why d = (why ≡ BadElement) × IsNone in_range value d

  -- These items stand for these elements, in their order.
  abbrev pub AreElementsOf : List K → Items → Type 0
  AreElementsOf [] no_items = Unit {0}
  AreElementsOf (x ∷ xs) (item d ds) = IsElementOf d x × AreElementsOf xs ds
  AreElementsOf [] (item d ds) = ⊥
  AreElementsOf (x ∷ xs) no_items = ⊥

  -- so of the items of an array
  abbrev pub AreItemsOf : List K → Data → Type 0
  AreItemsOf xs d = (ds : Items) × (d ≡ array ds) × AreElementsOf xs ds

  -- The first item that stands for no element is one for this: all before it do.
  abbrev pub FirstBad : JsonFault → Items → Type 0
  FirstBad why no_items = ⊥
  FirstBad why (item d ds) = IsNoElement why d ⊎ (((x : K) × IsElementOf d x) × FirstBad why ds)

  -- Why elements were not read of a value: it is no array; or it is one, and this is its first fault, or memory, or the length of a table, was refused.
  abbrev pub IsNotRead : JsonFault → Data → Type 0
  IsNotRead why d = ((why ≡ NotAnArray) × (as_array d ≡ None)) ⊎ ((ds : Items) × (d ≡ array ds) × (FirstBad why ds ⊎ IsRefused why))
