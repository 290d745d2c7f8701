-- What it leads to that a caller begins to make a map, and that it takes a step of that.
use Rattle.std.specs.Prelude.{◌≡◌, ℕ, Bool, Some, None}
use Rattle.seize.specs.World.{World, with_at}
use Rattle.seize.specs.declared.advance.Advance.{Advance}
use Rattle.seize.specs.declared.advance.Advance.TheVariants as progress
use Rattle.run_effects.specs.Given.TablesDeclared.node.Node.{Node}
use Rattle.run_effects.specs.Given.TablesDeclared.setting.Setting.{Setting}
use Rattle.run_effects.specs.Given.ResizeNewMap.{opening, new_map_plan}
use Rattle.run_effects.specs.Given.ResizeDeclared.new_map.NewMap.{NewMap}
use Rattle.run_effects.specs.ReportingMemory.Tells.{StepsObserved}
use Rattle.run_effects.specs.declared.changed.Changed.TheVariants.{Nothing}
use Rattle.many_maps.specs.Endings.{MakingStepsWithEndings}
use Rattle.many_maps.specs.Makings.{Beginning, IsMade}
use Rattle.many_maps.specs.Maps.{Standing}
use Rattle.run_shows.specs.Scenes.Held.{Held, IsAt}
use Rattle.run_shows.specs.Scenes.Scene.{Scene, slot_of}

-- the making that begins of the map of this number, where there are so many roots: with this hash and setting, and a first table of so many places
abbrev pub making_begun : {K : Type 0} → (K → ℕ) → ℕ → ℕ → Setting → ℕ → Beginning K
making_begun hash roots map given places = record { map = map; given = given; places = places; hash = hash; machine = opening given roots places }

-- the scene in which it has begun
abbrev pub scene_making : {K V : Type 0} → ℕ → Beginning K → Scene K V → Scene K V
scene_making i b s = record s { makers = with_at s.makers i (Some b) }

module _ {K V : Type 0} where
  -- it was a step of this making, and what its one operation has changed is told
  abbrev pub MakingStepsFrom : NewMap → Held K V → Held K V → NewMap → Advance Setting → Type 0
  MakingStepsFrom before old new opening told = StepsObserved K V (NewMap × Advance Setting) old.memory Nothing (new_map_plan before) new.memory new.changed (opening, told)

module _ {K V : Type 0} (same : K → K → Bool) where
  module _ (IsThere : Scene K V → Type 0) where
    module _ (s : Scene K V) (old : Held K V) (i : ℕ) (b : Beginning K) (opening : NewMap) (w2 : World (Node K V)) where
      -- by what it says: the making goes on, or its map stands, or it was refused
      abbrev pub MakingOutcomeHolds : Advance Setting → Type 0
      MakingOutcomeHolds progress.Goes = IsThere (record s { world = w2; makers = with_at s.makers i (Some (record b { machine = opening })) })
      MakingOutcomeHolds progress.Waits = ⊥
      MakingOutcomeHolds (progress.Done setting) =
          (standing : Standing K) × IsMade V same same old.batch_size old.roots slot_of b setting standing
          × IsThere (record s { world = w2; maps = with_at s.maps b.map (Some standing); makers = with_at s.makers i None })
      MakingOutcomeHolds (progress.Refused fault) = IsThere (record s { world = w2; makers = with_at s.makers i None })

    -- The step of a caller's making of a map.
    abbrev pub MakingLeadsTo : ℕ → Advance Setting → Scene K V → Held K V → Held K V → Type 0
    MakingLeadsTo i told s old new =
        (b : Beginning K) → s.makers i ≡ Some b
        → (opening : NewMap) × MakingStepsFrom b.machine old new opening told
        × (did : MakingStepsWithEndings V same same old.batch_size old.roots slot_of s.world s.maps s.calls s.makers s.enders i b new.memory (opening, told))
        × MakingOutcomeHolds s old i b opening did.step.w2 told

  -- the same, to the scene of what is held then
  module _ (hash : ℕ → K → ℕ) where
    abbrev pub MakingHasOutcome : (s : Scene K V) (old new : Held K V) (i : ℕ) (b : Beginning K) (opening : NewMap) (w2 : World (Node K V)) → Advance Setting → Type 0
    MakingHasOutcome s old new i b opening w2 told = MakingOutcomeHolds (IsAt same hash new) s old i b opening w2 told

    abbrev pub MakingLeads : ℕ → Advance Setting → Scene K V → Held K V → Held K V → Type 0
    MakingLeads i told s old new = MakingLeadsTo (IsAt same hash new) i told s old new
