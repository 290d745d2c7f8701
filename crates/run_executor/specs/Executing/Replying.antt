-- What a reply to the call of a caller leads to, and what it leads to that it is asked for a pair, or given up.
use Rattle.std.specs.Prelude.{◌≡◌, ℕ, Bool, Option, Result}
use Rattle.papaya_raw.specs.declared.machines.asking.MachineReply.{MachineReply}
use Rattle.run_places.specs.Given.ScenesReplying.{ReplyLeadsTo, AskLeadsTo, StopLeadsTo}
use Rattle.run_places.specs.Given.ScenesScene.{Scene, HasCall}
use Rattle.run_executor.specs.declared.executor.Executor.{Executor}
use Rattle.run_executor.specs.declared.worker.Worker.{Worker}
use Rattle.run_executor.specs.Executing.IsThere.{IsThere, ChangesAt, held_by}

module _ {K V S : Type 0} where
  -- the executor is another one at one place alone
  abbrev pub PutBack : ℕ → Option (Worker K V) → Executor K V S → Executor K V S → Type 0
  PutBack place next old new = (new.memory ≡ old.memory) × ChangesAt place next old new

module _ {K V S : Type 0} (same : K → K → Bool) (hash : K → ℕ) where
  -- A reply to a call leads where one does to what is held: the executor is there, and its memory as it was.
  abbrev pub RepliesThere : ℕ → MachineReply V → Result Unit (MachineReply V) → Scene K V → Executor K V S → Executor K V S → Type 0
  RepliesThere i told result s old new =
      (HasCall s i → new.memory ≡ old.memory) × ReplyLeadsTo same (IsThere same hash new) i told result s (held_by old) (held_by new)

  -- So does it that a walk is asked for its next pair,
  abbrev pub AsksThere : ℕ → Bool → Scene K V → Executor K V S → Executor K V S → Type 0
  AsksThere i ready s old new = (HasCall s i → new.memory ≡ old.memory) × AskLeadsTo same (IsThere same hash new) i ready s (held_by old) (held_by new)

  -- and that one is given up.
  abbrev pub StopsThere : ℕ → Bool → Scene K V → Executor K V S → Executor K V S → Type 0
  StopsThere i stopped s old new = (HasCall s i → new.memory ≡ old.memory) × StopLeadsTo same (IsThere same hash new) i stopped s (held_by old) (held_by new)
