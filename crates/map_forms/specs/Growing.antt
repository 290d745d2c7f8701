-- What was put among the members of an object, or the items of an array, as long as no memory was refused.
use Rattle.std.specs.Prelude.{◌≡◌, ℕ, Bool, false, List, String, Vec, string_cmp}
use Rattle.std.specs.BTreeMap.{BTreeMap, IsOrdered}
use Rattle.std.specs.declared.alloc.Global.{Global}
use Rattle.serde_json.specs.Data.{Data, Members, put}
use Rattle.serde_json.specs.declared.value.Value.{Value, Array}
use Rattle.map_forms.specs.Texts.{PutsValue}

-- it is the array of these items
abbrev pub HasItems : List Value → Value → Type 0
HasItems items value = (listed : Vec Value Global) × (value ≡ Array listed) × (listed.items ≡ items)

module _ {K V : Type 0} (key_in : K → Type 0) (text : K → List ℕ) (value_in : V → Type 0) (value : V → Data) where
  -- Where none was refused by then, none was before, and this pair, which is in range, was put among the members, its key's text for a name.
  abbrev pub PutsMember : K → V → Bool → Members → Bool → Members → Type 0
  PutsMember key x refused before now after = (now ≡ false) → (refused ≡ false) × (key_in key × value_in x) × (after ≡ put (text key) (value x) before)

module _ {K : Type 0} (in_range : K → Type 0) (value : K → Data) where
  -- And so of an element, which was put among the items by its text.
  abbrev pub PutsItem : K → Bool → BTreeMap (String Global) Value → Bool → BTreeMap (String Global) Value → Type 0
  PutsItem x refused before now after = (now ≡ false) → (refused ≡ false) × in_range x × PutsValue (value x) before.entries after.entries × IsOrdered string_cmp after
