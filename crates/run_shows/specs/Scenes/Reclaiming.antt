-- That all is being reclaimed in what is held, and what a step of it leads to.
use Rattle.std.specs.Prelude.{◌≡◌, ◌<◌, ◌^◌, ℕ, Bool, List, Some}
use Rattle.seize.specs.declared.rows.reclaim_all.ReclaimAll.{ReclaimAll}
use Rattle.seize.specs.declared.rows.settle.Settled.{Settled}
use Rattle.seize.specs.declared.rows.settle.Settled.TheVariants as settled
use Rattle.seize.specs.ReclaimAll.{reclaim_all_plan}
use Rattle.run_effects.specs.Given.TablesNodes.{deferred_word, was_left}
use Rattle.run_effects.specs.Given.TablesDeclared.node.Node.{Node}
use Rattle.run_effects.specs.ReportingMemory.Tells.{StepsObserved}
use Rattle.run_effects.specs.declared.changed.Changed.TheVariants.{Nothing}
use Rattle.many_maps.specs.Maps.{Standing}
use Rattle.run_shows.specs.Reclaims.Reclaims.{ReclaimingTogether, StepsOfReclaiming, AllIsReclaimed}
use Rattle.run_shows.specs.Scenes.Held.{Held, IsAt}
use Rattle.run_shows.specs.Scenes.Scene.{Scene, slot_of}

module _ {K V : Type 0} (same : K → K → Bool) (hash : ℕ → K → ℕ) where
  -- All is being reclaimed, as if this caller did so: it is so far, and these lists are behind the roots still. The scene has the memory, and the keys of a map
  -- have the map's hash.
  pub record IsReclaiming (h : Held K V) (s : Scene K V) (i : ℕ) (lists : ℕ → List ℕ) (all : ReclaimAll) : Type 0 where
    pub memory : s.world.memory ≡ h.memory
    pub under_way : ReclaimingTogether V same same h.batch_size h.roots slot_of s.maps s.calls s.makers s.enders s.world i lists all
    pub hashes : (m : ℕ) (standing : Standing K) → s.maps m ≡ Some standing → standing.hash ≡ hash m
    pub small : h.batch_size < 2 ^ 64

module _ {K V : Type 0} (same : K → K → Bool) (s : Scene K V) (i : ℕ) (lists : ℕ → List ℕ) where
  module _ (GoesOn : Scene K V → (ℕ → List ℕ) → ReclaimAll → Type 0) (IsThere : Scene K V → Type 0) (old new : Held K V) where
    -- it goes on; or it is over, and all is reclaimed
    abbrev pub ReclaimingOutcomeHolds : Scene K V → (ℕ → List ℕ) → ReclaimAll → Settled (Node K V) → Type 0
    ReclaimingOutcomeHolds s2 lists2 all settled.Done = AllIsReclaimed old.roots s2.world s2.maps × IsThere s2
    ReclaimingOutcomeHolds s2 lists2 all _ = GoesOn s2 lists2 all

    -- The step: it is told, with what its one operation has changed, and leads where a step does by which one caller reclaims all.
    abbrev pub ReclaimingLeadsTo : ReclaimAll → ReclaimAll → Settled (Node K V) → Type 0
    ReclaimingLeadsTo before after told =
        StepsObserved K V (ReclaimAll × Settled (Node K V)) old.memory Nothing (reclaim_all_plan deferred_word was_left before) new.memory new.changed (after, told)
        × (did : StepsOfReclaiming V same same old.batch_size old.roots slot_of s.maps s.calls s.makers s.enders s.world i lists before.stands new.memory after told)
        × ReclaimingOutcomeHolds (record s { world = did.w2; maps = did.maps2 }) did.lists2 after told

-- to what is so of what is held then
module _ {K V : Type 0} (same : K → K → Bool) (hash : ℕ → K → ℕ) (s : Scene K V) (i : ℕ) (lists : ℕ → List ℕ) (old new : Held K V) where
  abbrev pub ReclaimingHasOutcome : Scene K V → (ℕ → List ℕ) → ReclaimAll → Settled (Node K V) → Type 0
  ReclaimingHasOutcome s2 lists2 all told = ReclaimingOutcomeHolds same s i lists (λ s3 lists3 all3. IsReclaiming same hash new s3 i lists3 all3) (IsAt same hash new) old new s2 lists2 all told

  abbrev pub ReclaimingLeads : ReclaimAll → ReclaimAll → Settled (Node K V) → Type 0
  ReclaimingLeads before after told = ReclaimingLeadsTo same s i lists (λ s2 lists2 all. IsReclaiming same hash new s2 i lists2 all) (IsAt same hash new) old new before after told
