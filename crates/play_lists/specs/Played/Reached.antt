-- That a list of acts, played, comes to just where it has led: the same memory and machines, and the same is told.
use Rattle.std.specs.Prelude.{◌≡◌, ℕ, Bool, List, [], ◌∷◌, Option, Some, None, option_map}
use Rattle.many_acts.specs.Acts.Acts.{BeginsRow}
use Rattle.many_acts.specs.Acts.Courses.{set_up}
use Rattle.many_acts.specs.Acts.Doings.{Doing, Does, Stage, reclaiming}
use Rattle.many_acts.specs.Acts.Lists.{Course, Reached, LedTo}
use Rattle.many_acts.specs.Given.CallersTogether.{UnderWay}
use Rattle.many_acts.specs.Given.FinishesMachines.{machine_of}
use Rattle.many_acts.specs.Given.FinishesMakings.{Beginning}
use Rattle.run_finds.specs.Given.ResizeDeclared.new_map.NewMap.{NewMap}
use Rattle.seize.specs.World.{Row, Rests}
use Rattle.seize.specs.declared.rows.reclaim_all.ReclaimAll.{ReclaimAll}
use Rattle.map_tables.specs.declared.setting.Setting.{Setting}
use Rattle.many_acts.specs.Given.ScenesRows.{request_of}
use Rattle.many_acts.specs.Given.ScenesScene.{HasNoCall, Scene, row_of, slot_of}
use Rattle.many_acts.specs.Given.ScenesDeclared.row.SlotCall.{SlotCall}
use Rattle.many_acts.specs.Given.ScenesDeclared.row.SlotRow.{SlotRow}
use Rattle.play_lists.specs.Played.Play.{Making, Now, State, first_state, play_all}

-- a row between calls, if there is one
abbrev pub row_or_rests : Option SlotRow → Row
row_or_rests None = Rests
row_or_rests (Some row) = row_of row

-- the rows between calls, while a caller reclaims all or nobody does
abbrev pub rows_beside : Option (ℕ × ReclaimAll) → (ℕ → Row) → ℕ → Row
rows_beside None rows = rows
rows_beside (Some it) rows = λ i. Rests

-- a making: of which map, with the hash of its keys, and how far
abbrev pub made_so : {K : Type 0} → Beginning K → ℕ × ((K → ℕ) × NewMap)
made_so b = (b.map, (b.hash, b.machine))

module _ {K S : Type 0} (hash : S → K → ℕ) where
  abbrev pub makes_so : Making S → ℕ × ((K → ℕ) × NewMap)
  makes_so b = (b.map, (hash b.hasher, b.machine))

  abbrev pub stands_so : Setting × S → Setting × (K → ℕ)
  stands_so at = (at.0, hash at.1)

module _ {K V S : Type 0} (hash : S → K → ℕ) where
  -- What is under way is that of a scene, with such rows between calls: it has the memory, what callers know of the maps, and the machines of calls, makings and ends.
  -- A caller that has a call has no row beside it.
  pub record IsOf (s : Scene K V) (rows : ℕ → Row) (x : Now K V S) : Type 0 where
    pub memory : x.memory ≡ s.world.memory
    pub maps : (m : ℕ) → option_map (stands_so hash) (x.maps m) ≡ option_map set_up (s.maps m)
    pub calls : (m i : ℕ) → option_map (λ c. c.machine) (x.calls m i) ≡ option_map machine_of (s.calls m i)
    pub makers : (i : ℕ) → option_map (makes_so hash) (x.makers i) ≡ option_map made_so (s.makers i)
    pub enders : (i : ℕ) → option_map (λ f. f.machine) (x.enders i) ≡ option_map (λ f. f.machine) (s.enders i)
    pub between : (i : ℕ) → HasNoCall s i → row_or_rests (x.rows i) ≡ rows i
    pub calling : (m i : ℕ) (u : UnderWay K V K) → s.calls m i ≡ Some u → x.rows i ≡ None

  module _ (same : K → K → Bool) (batch_size roots : ℕ) where
    -- It is that of a stage: who reclaims all is as far, too.
    pub record IsOfStage (p : Stage V same hash batch_size roots slot_of) (x : Now K V S) : Type 0 where
      pub scene : IsOf p.0 (rows_beside (reclaiming V same hash batch_size roots slot_of p) p.0.world.row) x
      pub all : x.all ≡ option_map (λ it. it.1) (reclaiming V same hash batch_size roots slot_of p)

module _ {K V S : Type 0} where
  -- a row begins on the slot of its caller
  abbrev pub IsOnOwn : Doing K V S → Type 0
  IsOnOwn (Does (BeginsRow i request)) = (called : SlotCall) × (request ≡ request_of (slot_of i) called)
  IsOnOwn doing = Unit {0}

  abbrev pub AreOnOwn : List (Doing K V S) → Type 0
  AreOnOwn [] = Unit {0}
  AreOnOwn (doing ∷ doings) = IsOnOwn doing × AreOnOwn doings

-- The promise: wherever a list of acts has led, there it comes as it is played, whatever the values are with which closures abort, and the same was told.
abbrev pub ListsArePlayed : {K S : Type 0} (V : Type 0) (same : K → K → Bool) (hash : S → K → ℕ) (batch_size roots : ℕ) (aborts : ℕ → V) → Type 0
ListsArePlayed {K} {S} V same hash batch_size roots aborts =
    (course : Course V same hash batch_size roots slot_of) (doings : List (Doing K V S)) (x : Reached V same hash batch_size roots slot_of)
    → LedTo V same hash batch_size roots slot_of course doings x → AreOnOwn doings
    → (state : State K V S) × (play_all same hash batch_size roots aborts doings (first_state roots) ≡ Some state) × IsOfStage hash same batch_size roots x.0 state.now × (state.told ≡ x.1)
