-- Which roots are taken, and which one the making of a map finds.
use Rattle.std.specs.Prelude.{◌≡◌, ◌<◌, ◌≤◌, ◌^◌, ◌==◌, ◌||◌, ℕ, Bool, true, false, List, ◌++◌, max, Some, if◌then◌else◌}
use Rattle.run_schedules.specs.Given.SeizeWordsDeclared.at.At.TheVariants.{Used}
use Rattle.run_schedules.specs.Given.SeizeWordsDeclared.fault.Fault.TheVariants.{Memory, RootsUsedUp}
use Rattle.run_schedules.specs.Given.SeizeWordsMem.{Mem, word_at}
use Rattle.seize.specs.declared.advance.Advance.{Advance}
use Rattle.seize.specs.declared.advance.Advance.TheVariants as progress
use Rattle.papaya_raw.specs.Given.TablesDeclared.setting.Setting.{Setting}
use Rattle.run_effects.specs.Given.ResizeNewMap.{opening}
use Rattle.run_schedules.specs.declared.effect.Effect.{Effect}
use Rattle.run_schedules.specs.Schedules.InTurn.{has_grown}
use Rattle.run_shows.specs.Given.FinishesMakings.{Beginning}
use Rattle.run_logged.specs.declared.logged.Logged.{Logged}
use Rattle.run_executor.specs.Executing.IsThere.{IsThere}
use Rattle.run_shows.specs.Scenes.Scene.{Scene}

-- of so many roots these are taken, and the others are free
abbrev pub AreTaken : {T : Type 0} → ℕ → (ℕ → Bool) → Mem T → Type 0
AreTaken roots taken m = (r : ℕ) → r < roots → word_at m (Used r) ≡ Some (if taken r then 1 else 0)

-- this one is the first that is free
abbrev pub IsFirstFree : ℕ → (ℕ → Bool) → ℕ → Type 0
IsFirstFree roots taken r = (r < roots) × (taken r ≡ false) × ((q : ℕ) → q < r → taken q ≡ true)

-- this one, too
abbrev pub with_root : ℕ → (ℕ → Bool) → ℕ → Bool
with_root root taken r = (r == root) || taken r

-- A making, which has done this, has taken the first root that was free, and its map has it; or all are taken; or it was refused memory, for which it has asked, and has given
-- the root up.
abbrev pub FindsRoot : {T : Type 0} → ℕ → (ℕ → Bool) → List Effect → Mem T → Advance Setting → Type 0
FindsRoot roots taken did m (progress.Done setting) = IsFirstFree roots taken setting.root × AreTaken roots (with_root setting.root taken) m
FindsRoot roots taken did m (progress.Refused RootsUsedUp) = ((q : ℕ) → q < roots → taken q ≡ true) × AreTaken roots taken m
FindsRoot roots taken did m (progress.Refused Memory) = (has_grown did ≡ true) × ((r : ℕ) × IsFirstFree roots taken r) × AreTaken roots taken m
FindsRoot roots taken did m _ = ⊥

module _ {K V S : Type 0} where
  -- So does one that has just begun, if its table is not too long.
  abbrev pub MakingFinds : (i map : ℕ) → Advance Setting → (before after : List Effect) → (old new : Logged K V S) → Type 0
  MakingFinds i map told before after old new =
      (same : K → K → Bool) (hash : K → ℕ) (s : Scene K V) → IsThere same hash old.executor s → (b : Beginning K) → s.makers i ≡ Some b → b.map ≡ map
      → b.machine ≡ opening b.given old.executor.roots b.places → max b.places 8 ≤ 2 ^ 48
      → (taken : ℕ → Bool) → AreTaken old.executor.roots taken old.executor.memory.memory
      → (did : List Effect) × (after ≡ before ++ did) × FindsRoot old.executor.roots taken did new.executor.memory.memory told
