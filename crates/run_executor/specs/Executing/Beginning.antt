-- What it leads to that a caller begins a call.
use Rattle.std.specs.Prelude.{◌≡◌, ◌≤◌, ◌^◌, ◌⊎◌, ℕ, Bool, length}
use Rattle.std.specs.Vec.{vec_capacity, vec_len}
use Rattle.papaya_raw.specs.declared.machines.machine.Machine.{Machine}
use Rattle.run_places.specs.Given.ScenesBeginning.{BeginLeadsTo}
use Rattle.run_places.specs.Given.ScenesScene.{Scene, slot_of}
use Rattle.run_places.specs.Given.ScenesDeclared.row.SlotUse.TheVariants as used
use Rattle.run_executor.specs.declared.executor.Executor.{Executor}
use Rattle.run_executor.specs.Executing.IsThere.{IsThere, held_by, use_at}

module _ {K V S : Type 0} where
  -- Where a beginning is refused the executor is there as it was.
  abbrev pub IsRefused : Executor K V S → Executor K V S → Type 0
  IsRefused old new = (same : K → K → Bool) (hash : K → ℕ) (s : Scene K V) → IsThere same hash old s → IsThere same hash new s

  -- It is refused where there are as many callers as there can be, or no more room for one without asking for memory,
  abbrev pub HasNoPlace : Executor K V S → Type 0
  HasNoPlace e = (2 ^ 32 ≤ length e.workers.items) ⊎ (vec_capacity e.workers ≤ vec_len e.workers)

  -- or, if a map is to be made, for its setting.
  abbrev pub HasNoNumber : Executor K V S → Type 0
  HasNoNumber e = HasNoPlace e ⊎ (vec_capacity e.maps ≤ vec_len e.maps)

module _ {K V S : Type 0} (same : K → K → Bool) (hash : K → ℕ) where
  -- A call that begins while its slot is entered leads where one does that begins on what is held: the executor is there.
  abbrev pub BeginsThere : ℕ → Machine K V K → ℕ → Scene K V → Executor K V S → Executor K V S → Type 0
  BeginsThere m machine i s old new =
      use_at old (slot_of i) ≡ used.Inside → (new.memory ≡ old.memory) × BeginLeadsTo same (IsThere same hash new) m machine i s (held_by old) (held_by new)
