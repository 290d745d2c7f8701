-- What is done at the root of a chain, by what a guard has done last at a root.
use Rattle.std.specs.Prelude.{◌≡◌, ◌≢◌, ℕ, Option, Some, None}
use Rattle.seize_shared.specs.Guards.Deeds.{has_taken}
use Rattle.seize_views.specs.Views.Chains.{IsChainRoot}
use Rattle.seize_views.specs.Views.Notes.{looked_at}
use Rattle.seize_views.specs.declared.view.Deed.{Deed}
use Rattle.seize_views.specs.declared.view.Fixed.{Fixed}
use Rattle.seize_guards.specs.declared.guard.Unstacked.{Unstacked}
use Rattle.seize_guards.specs.declared.guard.Unstacked.TheVariants.{Empty, Missed, Took}

-- it has looked there, and found this block, 0 for none
abbrev pub HasFound : {T : Type 0} → ℕ → Deed T → ℕ → Type 0
HasFound r did b = looked_at did ≡ Some (r, b)

module _ {T X : Type 0} where
  -- The first block was taken from there. Or the chain had none, if one stands there; or another block was there than the one that was to be taken.
  abbrev pub IsTaken : Fixed → ℕ → Deed T → Unstacked X → Type 0
  IsTaken fixed r did (Took told) = IsChainRoot fixed r × (has_taken did ≡ Some r)
  IsTaken fixed r did Empty = IsChainRoot fixed r → HasFound r did 0
  IsTaken fixed r did Missed = IsChainRoot fixed r × ((b : ℕ) × HasFound r did b)

  -- It has looked there, if a chain stands there, and found a block, if something was told of the one below.
  abbrev pub IsLookedBelow : Fixed → ℕ → Deed T → Option X → Type 0
  IsLookedBelow fixed r did (Some told) = IsChainRoot fixed r × ((b : ℕ) × (b ≢ 0) × HasFound r did b)
  IsLookedBelow fixed r did None = IsChainRoot fixed r → (b : ℕ) × HasFound r did b
