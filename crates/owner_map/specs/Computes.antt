-- What a computing has done with the pair of a key, which its answer lends.
use Rattle.std.specs.Prelude.{◌≡◌, ⊤, Bool, IsTrue, Option, Some, None, is_some}
use Rattle.std.specs.Borrow.{GName}
use Rattle.seize_words.specs.declared.operation.Operation.{Operation}
use Rattle.seize_words.specs.declared.operation.Operation.TheVariants as operation
use Rattle.owner_rests.specs.Given.{found_by}
use Rattle.owner_map.specs.Answers.{HasAdded, HasRemoved, HasReplaced, IsLeft}
use Rattle.owner_rests.specs.ShowsPairs.Maps.{Map}
use Rattle.owner_map.specs.declared.answers.Compute.{Compute}
use Rattle.owner_map.specs.declared.answers.Compute.TheVariants.{Inserted, Updated, Removed, Aborted}

module _ {K V S T R H : Type 0} where
  -- the name under which an answer has the map
  abbrev pub name_of : Compute K V S T R H → GName
  name_of (Inserted x) = x.map.ghost_name
  name_of (Updated x) = x.map.ghost_name
  name_of (Removed x) = x.map.ghost_name
  name_of (Aborted x) = x.map.ghost_name

  -- by which the map is so now
  abbrev pub IsNow : Compute K V S T R H → (Map K V S → Type 0) → Type 0
  IsNow (Inserted x) Holds = Holds x.map.now
  IsNow (Updated x) Holds = Holds x.map.now
  IsNow (Removed x) Holds = Holds x.map.now
  IsNow (Aborted x) Holds = Holds x.map.now

  -- what was stored, or removed, can be looked at
  abbrev pub IsShown : Compute K V S T R H → Type 0
  IsShown (Inserted x) = IsTrue (is_some x.map.now.met)
  IsShown (Updated x) = ⊤
  IsShown (Removed x) = IsTrue (is_some x.map.now.taken)
  IsShown (Aborted x) = ⊤

  -- The computing gave this operation for the pair that was there, or for none, and it was done.
  abbrev pub HasComputed : (K → Bool) → K → (Option (K × V) → Operation V T → Type 0) → Map K V S → Compute K V S T R H → Type 0
  HasComputed keys key Gives old (Inserted x) =
      (found_by keys old.pairs ≡ None) × (value : V) × Gives None (operation.Insert value) × HasAdded old x.map.now (key, value)
  HasComputed keys key Gives old (Updated x) =
      (was : K × V) × (found_by keys old.pairs ≡ Some was) × (value : V) × Gives (Some was) (operation.Insert value) × HasReplaced old x.map.now keys was (key, value)
  HasComputed keys key Gives old (Removed x) = (was : K × V) × (found_by keys old.pairs ≡ Some was) × Gives (Some was) operation.Remove × HasRemoved old x.map.now keys was
  HasComputed keys key Gives old (Aborted x) =
      (why : T) × (x.why ≡ Some why) × Gives (found_by keys old.pairs) (operation.Abort why) × IsLeft old x.map.now (found_by keys old.pairs)
