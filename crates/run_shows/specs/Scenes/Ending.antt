-- What it leads to that a caller begins to end a map, and that it takes a step of that.
use Rattle.std.specs.Prelude.{◌≡◌, ℕ, Bool, List, [], ◌∷◌, ◌++◌, Some, None}
use Rattle.seize_words.specs.OneMemory.Mem.{value_at}
use Rattle.seize.specs.Law.{Ended}
use Rattle.seize.specs.World.{World, with_at, with_effect}
use Rattle.seize.specs.declared.rows.settle.Settled.{Settled}
use Rattle.seize.specs.declared.rows.settle.Settled.TheVariants as settled
use Rattle.run_effects.specs.Given.TablesChunks.{is_incremental}
use Rattle.run_effects.specs.Given.TablesDeclared.node.Node.{Node}
use Rattle.run_effects.specs.Given.RawEndMap.{end_map_plan}
use Rattle.run_effects.specs.Given.RawDeclared.machines.end_map.EndMap.{EndMap}
use Rattle.run_effects.specs.ReportingMemory.Tells.{StepsObserved}
use Rattle.run_effects.specs.declared.changed.Changed.TheVariants.{Nothing}
use Rattle.many_maps.specs.Endings.{Finishing, finishing_of, waiting_by, AllPairsOnce, HasFinished, StepsOfEnding}
use Rattle.many_maps.specs.FactsEnds.{Deed, taken_by}
use Rattle.many_maps.specs.Maps.{Standing}
use Rattle.run_shows.specs.Scenes.Held.{Held, IsAt}
use Rattle.run_shows.specs.Scenes.Scene.{Scene, slot_of}

-- the scene in which the end of a map that stands has begun
abbrev pub ending_begun : {K V : Type 0} → ℕ → ℕ → Standing K → Scene K V → Scene K V
ending_begun m i standing s = record s {
  world = with_effect s.world (Ended standing.setting.counter);
  maps = with_at s.maps m None;
  enders = with_at s.enders i (Some (finishing_of standing s.world));
}

module _ {K V : Type 0} where
  -- it was a step of this end, and what its one operation has changed is told
  abbrev pub EndingStepsFrom : EndMap → Held K V → Held K V → EndMap → Settled (Node K V) → Type 0
  EndingStepsFrom before old new ending told = StepsObserved K V (EndMap × Settled (Node K V)) old.memory Nothing (end_map_plan before) new.memory new.changed (ending, told)

  -- the end goes on, and has reclaimed so much
  abbrev pub ending_goes : (s : Scene K V) (i : ℕ) (f : Finishing K V) (ending : EndMap) (w2 : World (Node K V)) (deed : Deed) → List ℕ → Scene K V
  ending_goes s i f ending w2 deed back =
      record s { world = w2; enders = with_at s.enders i (Some (record f { machine = ending; back = back; waits = f.waits ++ waiting_by deed })) }

module _ {K V : Type 0} (same : K → K → Bool) where
  module _ (IsThere : Scene K V → Type 0) where
    -- The end of a map that begins so is under way, and the map does not stand any more. Its pairs are to be reclaimed, each once. Nothing else has changed.
    abbrev pub EndingBeginsTo : ℕ → ℕ → Scene K V → Held K V → Held K V → Type 0
    EndingBeginsTo m i s old new =
        (standing : Standing K) × (s.maps m ≡ Some standing) × AllPairsOnce (is_incremental standing.setting.mode) standing.chart
        × (new.memory ≡ old.memory) × IsThere (ending_begun m i standing s)

    module _ (s : Scene K V) (i : ℕ) (f : Finishing K V) (ending : EndMap) (w2 : World (Node K V)) (deed : Deed) where
      -- By what it says: the end goes on, and has taken no block away, or one whose value it hands out; or it is over. It never waits.
      abbrev pub EndingOutcomeHolds : Settled (Node K V) → Type 0
      EndingOutcomeHolds settled.Goes = (taken_by deed ≡ []) × IsThere (ending_goes s i f ending w2 deed f.back)
      EndingOutcomeHolds settled.Waits = ⊥
      EndingOutcomeHolds (settled.Gave value) =
          (b : ℕ) × (value_at s.world.memory b ≡ Some value) × (taken_by deed ≡ b ∷ []) × IsThere (ending_goes s i f ending w2 deed (f.back ++ b ∷ []))
      EndingOutcomeHolds settled.Done =
          (taken_by deed ≡ []) × HasFinished w2.memory f × IsThere (record s { world = w2; enders = with_at s.enders i None })

    -- The step of a caller's end of a map.
    abbrev pub EndingLeadsTo : ℕ → Settled (Node K V) → Scene K V → Held K V → Held K V → Type 0
    EndingLeadsTo i told s old new =
        (f : Finishing K V) → s.enders i ≡ Some f
        → (ending : EndMap) × EndingStepsFrom f.machine old new ending told
        × (did : StepsOfEnding V same same old.batch_size old.roots slot_of s.world s.maps s.calls s.makers s.enders i f new.memory (ending, told))
        × EndingOutcomeHolds s i f ending did.w2 did.deed told

  -- the same, to the scene of what is held then
  module _ (hash : ℕ → K → ℕ) where
    abbrev pub EndingHasOutcome : (s : Scene K V) (new : Held K V) (i : ℕ) (f : Finishing K V) (ending : EndMap) (w2 : World (Node K V)) (deed : Deed) → Settled (Node K V) → Type 0
    EndingHasOutcome s new i f ending w2 deed told = EndingOutcomeHolds (IsAt same hash new) s i f ending w2 deed told

    abbrev pub EndingLeads : ℕ → Settled (Node K V) → Scene K V → Held K V → Held K V → Type 0
    EndingLeads i told s old new = EndingLeadsTo (IsAt same hash new) i told s old new
