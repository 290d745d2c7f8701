-- What it leads to that a caller begins to make a map.
use Rattle.std.specs.Prelude.{◌≡◌, ◌<◌, ◌≤◌, ◌+◌, ◌^◌, ℕ, Bool, length, max}
use Rattle.std.specs.Int.{IsPowerOfTwo}
use Rattle.papaya_raw.specs.Given.TablesLengths.{IsTableLen}
use Rattle.papaya_raw.specs.Given.TablesDeclared.setting.Setting.{Setting}
use Rattle.run_places.specs.Given.PointsSteps.{AreLawful}
use Rattle.run_places.specs.Given.FinishesMakings.{Beginning}
use Rattle.run_places.specs.Given.ScenesMaking.{making_begun, scene_making}
use Rattle.run_places.specs.Given.ScenesScene.{Scene}
use Rattle.run_executor.specs.declared.executor.Executor.{Executor}
use Rattle.run_executor.specs.Executing.IsThere.{IsThere}

module _ {K V S : Type 0} (hash : K → ℕ) where
  -- with this setting, and a first table of so many places, the map is made whose number comes next
  abbrev pub next_making : Setting → ℕ → Executor K V S → Beginning K
  next_making given places e = making_begun hash e.roots (length e.maps.items) given places

module _ {K V S : Type 0} (same : K → K → Bool) (hash : K → ℕ) where
  -- A making that begins so is under way, and nothing else has changed: the executor is there.
  abbrev pub MakingBegins : Setting → ℕ → ℕ → Scene K V → Executor K V S → Executor K V S → Type 0
  MakingBegins given places i s old new =
      AreLawful same hash → IsPowerOfTwo given.initial → given.batch_size ≡ old.batch_size → given.mask + 1 < 2 ^ 64 → 0 < old.roots
      → (max places 8 ≤ 2 ^ 48 → IsTableLen (max places 8))
      → (new.memory ≡ old.memory) × IsThere same hash new (scene_making i (next_making hash given places old) s)
