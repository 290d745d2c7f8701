-- What changes of a map for one owner have done, and what the map ends as once an answer has ended that borrows it.
use Rattle.std.specs.Prelude.{◌≡◌, Bool, [], ◌∷◌, ◌++◌, Option, None, Some, Result, Ok, Err}
use Rattle.std.specs.Borrow.{Fml, GName, RattleType, MutBor, RestsIfErr}
use Rattle.std.specs.HashMap.Lent.{HashMembers}
use Rattle.std.specs.declared.hash.Hasher as hasher
use Rattle.std.specs.declared.hash.BuildHasher as builder
use Rattle.seize_words.specs.declared.fault.Fault.{Fault}
use Rattle.seize_words.specs.declared.fault.Fault.TheVariants.{Capacity}
use Rattle.owner_rests.specs.Given.{left_by}
use Rattle.map_straight.specs.Shown.Chain.{CannotGrow}
use Rattle.owner_map.specs.Lent.{map_row}
use Rattle.owner_rests.specs.ShowsPairs.Maps.{HasNow, Keeps, Map}

module _ {K V S : Type 0} (before after : Map K V S) where
  -- no pair has changed, and this one was met at the key, or none
  abbrev pub IsLeft : Option (K × V) → Type 0
  IsLeft met = HasNow after before.pairs None met × Keeps [] before after

  -- this pair was put beside those before
  abbrev pub HasAdded : K × V → Type 0
  HasAdded new = HasNow after (before.pairs ++ (new ∷ [])) None (Some new) × Keeps (new ∷ []) before after

  -- this pair was put in the place of this one of its key
  abbrev pub HasReplaced : (K → Bool) → K × V → K × V → Type 0
  HasReplaced keys old new = HasNow after (left_by keys before.pairs ++ (new ∷ [])) (Some old) (Some new) × Keeps (new ∷ []) before after

  -- this pair was removed
  abbrev pub HasRemoved : (K → Bool) → K × V → Type 0
  HasRemoved keys old = HasNow after (left_by keys before.pairs) (Some old) None × Keeps [] before after

  -- the change was refused by this fault, and no pair has changed
  abbrev pub IsRefused : Fault → Type 0
  IsRefused fault = IsLeft None × (after.hasher ≡ before.hasher) × (fault ≡ Capacity → CannotGrow after.tables)

-- the name in one of two
abbrev pub name_of_either : {A B : Type 0} → Result A B → (A → GName) → (B → GName) → GName
name_of_either (Ok x) first second = first x
name_of_either (Err x) first second = second x

module _ (K V S R H : RattleType) (key : HashMembers K.Denot) (build : builder.Ghosts S.Denot H.Denot) (hash : hasher.Ghosts H.Denot) where
  -- An answer has the map under this name, which then ends as that leaves it. Where the call was refused, the map ends as one of which this holds.
  abbrev pub QuiescentUnless : {A E : Type 0} → MutBor (Map K.Denot V.Denot S.Denot) → Result A E → (A → GName) → (Map K.Denot V.Denot S.Denot → Type 0) → Fml
  QuiescentUnless map r name Holds = RestsIfErr (map_row K V S R H key build hash) map name r Holds
