-- That all is being reclaimed in the memory of an executor, and what a step of it leads to.
use Rattle.std.specs.Prelude.{◌≡◌, ℕ, Bool, true, false, List, length, None, option_map, slice_index_or, IsSome}
use Rattle.seize_words.specs.declared.at.At.TheVariants.{Slot}
use Rattle.seize_words.specs.OneMemory.Mem.{word_at}
use Rattle.seize.specs.declared.rows.reclaim_all.ReclaimAll.{ReclaimAll}
use Rattle.seize.specs.declared.rows.settle.Settled.{Settled}
use Rattle.seize.specs.declared.rows.settle.Settled.TheVariants as settled
use Rattle.seize.specs.declared.states.TheConstants.{HEAD}
use Rattle.papaya_raw.specs.Given.TablesDeclared.node.Node.{Node}
use Rattle.run_places.specs.Given.ReclaimsReclaims.{LeftBehind}
use Rattle.run_places.specs.Given.ReclaimsSlots.{IsQuiescent}
use Rattle.run_executor.specs.declared.executor.Executor.{Executor}
use Rattle.run_places.specs.Given.ScenesDeclared.callers.TheConstants.{SLOTS}
use Rattle.run_places.specs.Given.ScenesDeclared.row.SlotUse.TheVariants.{Vacant}
use Rattle.run_executor.specs.Executing.IsThere.{IsThere, held_by, use_at, work_of}
use Rattle.run_places.specs.Given.ScenesReclaiming.{IsReclaiming, ReclaimingLeadsTo}
use Rattle.run_places.specs.Given.ScenesScene.{Scene}

module _ {K V S : Type 0} where
  -- nobody has anything under way
  abbrev pub NobodyHas : Executor K V S → Type 0
  NobodyHas e = (i : ℕ) → work_of e i ≡ None

  -- once it is over no slot is in use
  abbrev pub Leaves : Executor K V S → Executor K V S → Settled (Node K V) → Type 0
  Leaves old new settled.Done = ((t : ℕ) → use_at new t ≡ Vacant) × (length new.slots.items ≡ length old.slots.items) × (new ≡ record old { slots = new.slots })
  Leaves old new _ = new ≡ old

  -- These lists are behind the roots of maps that have ended; and a slot was taken, or nothing is left of what slots had.
  abbrev pub MayReclaim : Executor K V S → Scene K V → (ℕ → List ℕ) → Bool → Type 0
  MayReclaim e s lists true = LeftBehind e.roots s.world s.maps lists × IsSome (word_at s.world.memory (Slot 0 HEAD))
  MayReclaim e s lists false = LeftBehind e.roots s.world s.maps lists × IsQuiescent s.world

module _ {K V S : Type 0} (same : K → K → Bool) (hash : K → ℕ) where
  -- All is being reclaimed in what an executor holds: nobody has anything under way, and it has the settings of the maps that stand.
  pub record IsReclaimingThere (e : Executor K V S) (s : Scene K V) (i : ℕ) (lists : ℕ → List ℕ) (all : ReclaimAll) : Type 0 where
    pub held : IsReclaiming same (λ m. hash) (held_by e) s i lists all
    pub nobody : NobodyHas e
    pub maps : (m : ℕ) → option_map (λ standing. standing.setting) (s.maps m) ≡ slice_index_or e.maps.items m None
    pub slots : length e.slots.items ≡ SLOTS

  -- Its step leads on, or it is over, and the executor is there.
  abbrev pub ReclaimsThere : (s : Scene K V) (i : ℕ) (lists : ℕ → List ℕ) (old new : Executor K V S) → ReclaimAll → ReclaimAll → Settled (Node K V) → Type 0
  ReclaimsThere s i lists old new before after told =
      ReclaimingLeadsTo same s i lists (λ s2 lists2 all. IsReclaimingThere new s2 i lists2 all) (IsThere same hash new) (held_by old) (held_by new) before after told
