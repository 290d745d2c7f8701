-- A choice of a free block number joins those that are left.
use Rattle.std.specs.Prelude.{ℕ, Bool, List, [], ◌∷◌, ◌++◌}
use Rattle.run_schedules.specs.Given.SeizeWordsMem.{Mem}
use Rattle.run_schedules.specs.Schedules.Moment.{Moment}
use Rattle.run_logged.specs.Log.Shown.{IsShown}
use Rattle.run_logged.specs.declared.logged.Logged.{Logged}
use Rattle.run_shows.specs.Scenes.Scene.{Scene}

abbrev pub memory_chosen : {T : Type 0} → ℕ → Mem T → Mem T
memory_chosen choice m = record m { choices = m.choices ++ choice ∷ [] }

abbrev pub scene_chosen : {K V : Type 0} → ℕ → Scene K V → Scene K V
scene_chosen choice s = record s { world = record s.world { memory = memory_chosen choice s.world.memory } }

-- the memory has one choice more, and all else is as it was
abbrev pub logged_chosen : {K V S : Type 0} → ℕ → Logged K V S → Logged K V S
logged_chosen choice l =
    record l { executor = record l.executor { memory = record l.executor.memory { memory = memory_chosen choice l.executor.memory.memory } } }

-- and the moment shows it as before
abbrev pub ChoiceIsShown : {K V S : Type 0} → ℕ → (old new : Logged K V S) → Type 0
ChoiceIsShown {K} {V} choice old new =
    (same : K → K → Bool) (hash : K → ℕ) (name : ℕ → List ℕ) (m : Moment K V) (s : Scene K V) → IsShown same hash name m old s → IsShown same hash name m new (scene_chosen choice s)
