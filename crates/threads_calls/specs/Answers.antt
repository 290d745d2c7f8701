-- What the answers of a session's calls say.
pub use Rattle.threads_callers.specs.Answers.{CameBack, has_stored, is_removed, is_replaced, removed_by, replaced_by}
use Rattle.std.specs.Prelude.{◌≡◌, ◌==◌, ℕ, Bool, Option, Some, Ok}
use Rattle.threads_callers.specs.Given.ActsActs.{Count, GoOver, Insert, MakeRoom, Remove, TryToInsert, Wanted}
use Rattle.papaya_raw.specs.declared.machines.progress.Answer.{Answer}
use Rattle.papaya_raw.specs.Given.ReservesDeclared.sweep.Purpose.TheVariants.{Clears}
use Rattle.papaya_raw.specs.declared.machines.progress.Answer.TheVariants.{Count as Counted, Reserved, Swept}
use Rattle.threads_callers.specs.Given.ViewsDeclared.view.View.{View}
use Rattle.threads_callers.specs.Given.ErrandsCalling.{is_put, outcome_of, pair_there}
use Rattle.threads_callers.specs.Given.ErrandsLooking.{HasRun}

-- what is wanted of a map whose pairs are all to be removed
abbrev pub clears : {K V : Type 0} → Wanted K V
clears = GoOver Clears

module _ {K V S : Type 0} where
  -- it has run a call that stores this pair, and whose answer says whether a pair was replaced
  abbrev pub HasStored : (K → K → Bool) → (S → K → ℕ) → K → V → Bool → View K V S → View K V S → Type 0
  HasStored same hash key value replaced v w = (answer : Answer) × HasRun same hash (Insert key value) (outcome_of (Ok answer)) v w × (replaced ≡ is_replaced answer)

  -- one that stores this pair where its key is missing, and whose answer says whether it is there then
  abbrev pub HasTried : (K → K → Bool) → (S → K → ℕ) → K → V → Bool → View K V S → View K V S → Type 0
  HasTried same hash key value stored v w = (answer : Answer) × HasRun same hash (TryToInsert key value) (outcome_of (Ok answer)) v w × (stored ≡ is_put answer)

  -- one that removes the pair of this key, and whose answer says whether there was one
  abbrev pub HasRemoved : (K → K → Bool) → (S → K → ℕ) → K → Bool → View K V S → View K V S → Type 0
  HasRemoved same hash key removed v w = (answer : Answer) × HasRun same hash (Remove key) (outcome_of (Ok answer)) v w × (removed ≡ is_removed answer)

  -- one that stores this pair, and whose answer names the pair that was replaced, if one was
  abbrev pub HasReplaced : (K → K → Bool) → (S → K → ℕ) → K → V → Option ℕ → View K V S → View K V S → Type 0
  HasReplaced same hash key value old v w = (answer : Answer) × HasRun same hash (Insert key value) (outcome_of (Ok answer)) v w × (replaced_by answer ≡ old)

  -- one that stores this pair where its key is missing, and whose answer names the pair that is there then
  abbrev pub HasOneThere : (K → K → Bool) → (S → K → ℕ) → K → V → ℕ → View K V S → View K V S → Type 0
  HasOneThere same hash key value word v w = (answer : Answer) × HasRun same hash (TryToInsert key value) (outcome_of (Ok answer)) v w × (pair_there answer ≡ Some word)

  -- one that removes the pair of this key, and whose answer names that one, if there was one
  abbrev pub HasTakenOut : (K → K → Bool) → (S → K → ℕ) → K → Option ℕ → View K V S → View K V S → Type 0
  HasTakenOut same hash key taken v w = (answer : Answer) × HasRun same hash (Remove key) (outcome_of (Ok answer)) v w × (removed_by answer ≡ taken)

  -- one that counts the pairs, and has counted so many,
  abbrev pub HasMeasured : (K → K → Bool) → (S → K → ℕ) → ℕ → View K V S → View K V S → Type 0
  HasMeasured same hash count v w = HasRun same hash Count (outcome_of (Ok (Counted count))) v w

  -- or whether there are any,
  abbrev pub HasFoundEmpty : (K → K → Bool) → (S → K → ℕ) → Bool → View K V S → View K V S → Type 0
  HasFoundEmpty same hash empty v w = (count : ℕ) × HasMeasured same hash count v w × (empty ≡ (count == 0))

  -- one that makes room for so many further pairs, and has made it,
  abbrev pub HasReserved : (K → K → Bool) → (S → K → ℕ) → ℕ → View K V S → View K V S → Type 0
  HasReserved same hash additional v w = HasRun same hash (MakeRoom additional) (outcome_of (Ok Reserved)) v w

  -- and one that removes all pairs, and has gone over all
  abbrev pub HasSweptAll : (K → K → Bool) → (S → K → ℕ) → View K V S → View K V S → Type 0
  HasSweptAll same hash v w = HasRun same hash clears (outcome_of (Ok Swept)) v w
