-- A list of acts leads to the same by whichever course: the same memory, the same machines under way, and the same answers.
use Rattle.std.specs.Prelude.{◌≡◌, ℕ, Bool, List, option_map}
use Rattle.run_shows.specs.Given.TablesDeclared.setting.Setting.{Setting}
use Rattle.owner_facts.specs.Given.FinishesMachines.{machine_of}
use Rattle.owner_facts.specs.Given.FinishesMaps.{Standing}
use Rattle.many_acts.specs.Acts.Doings.{Doing, reclaiming}
use Rattle.many_acts.specs.Acts.Lists.{Course, Reached, LedTo}
use Rattle.run_shows.specs.Scenes.Scene.{Scene, HasNoCall}

-- what callers know of a map: its setting, and the hash of its keys
abbrev pub set_up : {K : Type 0} → Standing K → Setting × (K → ℕ)
set_up s = (s.setting, s.hash)

-- Of two scenes the memory is the same, what callers know of the maps, the machines of calls, makings and ends, and the rows between calls.
pub record AreAlike {K V : Type 0} (s t : Scene K V) : Type 0 where
  pub memory : s.world.memory ≡ t.world.memory
  pub maps : (m : ℕ) → option_map set_up (s.maps m) ≡ option_map set_up (t.maps m)
  pub calls : (m i : ℕ) → option_map machine_of (s.calls m i) ≡ option_map machine_of (t.calls m i)
  pub makers : (i : ℕ) → s.makers i ≡ t.makers i
  pub enders : (i : ℕ) → option_map (λ f. f.machine) (s.enders i) ≡ option_map (λ f. f.machine) (t.enders i)
  pub rows : (i : ℕ) → HasNoCall s i → s.world.row i ≡ t.world.row i

-- The promise: where a list of acts leads by one course, and where by another one, is alike, the same was told, and who reclaims all is as far.
abbrev pub CoursesAgree : {K S : Type 0} (V : Type 0) (same : K → K → Bool) (hash : S → K → ℕ) (batch_size roots : ℕ) (slot : ℕ → ℕ) → Type 0
CoursesAgree {K} {S} V same hash batch_size roots slot =
    (one other : Course V same hash batch_size roots slot) (doings : List (Doing K V S)) (x y : Reached V same hash batch_size roots slot)
    → LedTo V same hash batch_size roots slot one doings x → LedTo V same hash batch_size roots slot other doings y
    → AreAlike x.0.0 y.0.0 × (x.1 ≡ y.1) × (reclaiming V same hash batch_size roots slot x.0 ≡ reclaiming V same hash batch_size roots slot y.0)
