-- The numbers of things in the waiting sets, and the blocks in which things are, by what is noted of these.
use Rattle.std.specs.Prelude.{◌≡◌, ℕ, true, List, [], ◌∷◌}
use Rattle.run_schedules.specs.Schedules.Lists.{is_in}
use Rattle.run_schedules.specs.Schedules.Model.{number_in}
use Rattle.run_schedules.specs.Schedules.Things.{same_thing}
use Rattle.run_schedules.specs.declared.effect.Effect.{Effect}
use Rattle.run_schedules.specs.declared.effect.Effect.TheVariants.{Asked, PairGivenUp, TableGivenUp, Reclaimed, Retired, Deferred, Taken}
use Rattle.run_schedules.specs.declared.effect.Thing.{Thing}
use Rattle.run_schedules.specs.declared.effect.Thing.TheVariants.{APair, ATable}
use Rattle.run_executor.specs.Given.EffectsKnown.{Known}
use Rattle.run_executor.specs.Given.EffectsDeclared.role.Role.{Role}
use Rattle.run_executor.specs.Given.EffectsDeclared.role.Role.TheVariants as role
use Rattle.run_blocks.specs.Given.PromisesSheltered.{IsOfThing}

-- what a block with this role is, if it is a thing
abbrev pub things_of : Role → List Thing
things_of (role.Pair n) = APair n ∷ []
things_of (role.Table t len) = ATable t ∷ []
things_of _ = []

module _ (known : Known) where
  -- the block is noted as a thing that came into a map, which has this number
  abbrev pub HasNumber : List Thing → ℕ → ℕ → Type 0
  HasNumber things b n = (x : Thing) × IsOfThing x (known.roles b) × (is_in same_thing x things ≡ true) × (number_in things x ≡ n)

  -- no thing is in two blocks
  abbrev pub EachIsOnce : Type 0
  EachIsOnce = (b d : ℕ) (x : Thing) → IsOfThing x (known.roles b) → IsOfThing x (known.roles d) → b ≡ d

-- an effect that a row on a slot may have, whatever the blocks are that it takes away
abbrev pub IsOfRow : Effect → Type 0
IsOfRow (Asked growth) = Unit {0}
IsOfRow PairGivenUp = Unit {0}
IsOfRow (TableGivenUp t) = Unit {0}
IsOfRow (Reclaimed x) = Unit {0}
IsOfRow _ = ⊥

abbrev pub AreOfRow : List Effect → Type 0
AreOfRow [] = Unit {0}
AreOfRow (e ∷ effects) = IsOfRow e × AreOfRow effects

-- it hands over what is among these things, and ends no table
abbrev pub IsOfThings : List Thing → Effect → Type 0
IsOfThings things (Retired x) = is_in same_thing x things ≡ true
IsOfThings things (Deferred n t) = (is_in same_thing (APair n) things ≡ true) × (is_in same_thing (ATable t) things ≡ true)
IsOfThings things (Taken t) = ⊥
IsOfThings things _ = Unit {0}

abbrev pub AreOfThings : List Thing → List Effect → Type 0
AreOfThings things [] = Unit {0}
AreOfThings things (e ∷ effects) = IsOfThings things e × AreOfThings things effects

-- it reclaims nothing that was handed over
abbrev pub NotBack : Effect → Type 0
NotBack (Reclaimed x) = ⊥
NotBack _ = Unit {0}

abbrev pub NoneBack : List Effect → Type 0
NoneBack [] = Unit {0}
NoneBack (e ∷ effects) = NotBack e × NoneBack effects
