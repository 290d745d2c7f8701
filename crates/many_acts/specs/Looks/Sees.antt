-- What is promised of the blocks whose values a step of a call looks at once its operation is answered: they last until its caller's next step.
use Rattle.std.specs.Prelude.{◌≡◌, ◌≢◌, ℕ, ◌==◌, Bool, true, false, Option, Some, ◌⊎◌}
use Rattle.run_shows.specs.Given.SeizeWordsMem.{Mem, Took, value_at}
use Rattle.run_shows.specs.Given.SeizeWordsOp.{Out}
use Rattle.run_shows.specs.Given.SeizeWordsPlan.{Plan, Turn, Do, Ends}
use Rattle.run_shows.specs.Given.SeizeWordsWord.{block_in}
use Rattle.run_shows.specs.Given.SeizeLaw.{holds, owner_of}
use Rattle.run_shows.specs.Given.SeizeWorld.{World, Making}
use Rattle.run_shows.specs.Given.TablesDeclared.node.Node.{Node}
use Rattle.run_shows.specs.Given.TablesDeclared.node.Node.TheVariants.{Shards}
use Rattle.run_shows.specs.Given.RawMachine.{machine_plan}
use Rattle.run_shows.specs.Given.RawDeclared.machines.call.Calling.{Calling}
use Rattle.run_shows.specs.Given.RawDeclared.machines.call.Calling.TheVariants as at
use Rattle.run_shows.specs.Given.RawDeclared.machines.machine.Machine.{Machine}
use Rattle.run_shows.specs.Given.RawDeclared.machines.machine.Machine.TheVariants as kinds
use Rattle.run_shows.specs.Given.RawDeclared.machines.progress.Progress.{Progress}
use Rattle.run_shows.specs.Given.RawDeclared.machines.progress.Progress.TheVariants as progress
use Rattle.owner_facts.specs.Given.CallersTogether.{UnderWay}
use Rattle.owner_facts.specs.Given.FinishesEndings.{Finishing, EndingsTogether}
use Rattle.owner_facts.specs.Given.FinishesMachines.{machine_of}
use Rattle.owner_facts.specs.Given.FinishesMakings.{Beginning}
use Rattle.owner_facts.specs.Given.FinishesMaps.{Standing}
use Rattle.many_acts.specs.Looks.Blocks.{MayLookAt}
use Rattle.many_acts.specs.Looks.Looks.{IsAtRow}

-- The step of this plan that came to this memory and this end has seen the block: it has looked at its value once its operation was answered.
abbrev pub HasSeen : {T R : Type 0} → ℕ → Mem T → Plan T R → Mem T → R → Type 0
HasSeen b m (Turn rest) n end = (n ≡ m) × Ends (value_at n) rest end × MayLookAt b (value_at n) rest
HasSeen {T} b m (Do op rest) n end = (out : Out T) × Took m op out n × Ends (value_at n) (rest out) end × MayLookAt b (value_at n) (rest out)

-- the call goes on
abbrev pub Continues : {T : Type 0} → Progress T → Type 0
Continues (progress.Done answer) = ⊥
Continues (progress.Refused fault) = ⊥
Continues _ = Unit {0}

-- where a call on a key has yet to put its own pair into the map, or to give it back
abbrev pub IsToStore : Calling → Type 0
IsToStore at.Probes = Unit {0}
IsToStore (at.Tries word new) = Unit {0}
IsToStore at.Nexts = Unit {0}
IsToStore (at.Firsts making) = Unit {0}
IsToStore (at.Allocs making) = Unit {0}
IsToStore (at.Asks asking) = Unit {0}
IsToStore (at.Drops end) = Unit {0}
IsToStore _ = ⊥

-- the block is that of the call's own pair
abbrev pub IsOwnOf : {K V Q : Type 0} → Machine K V Q → ℕ → Type 0
IsOwnOf (kinds.Key c) b = IsToStore c.stands × ((c.own == 0) ≡ false) × (b ≡ block_in c.own)
IsOwnOf _ b = ⊥

module _ {K Q : Type 0} (V : Type 0) (same : K → K → Bool) (asks : Q → K → Bool) (batch_size roots : ℕ) (slot : ℕ → ℕ) where
  -- The promise: what a step of a call has seen at no row its section holds, and it is of the map of the call; or it is the own pair of the call, with which it goes on.
  abbrev pub StepsSeeWhatLasts : Type 0
  StepsSeeWhatLasts =
      (w : World (Node K V)) (maps : ℕ → Option (Standing K)) (calls : ℕ → ℕ → Option (UnderWay K V Q))
      (makers : ℕ → Option (Beginning K)) (enders : ℕ → Option (Finishing K V))
      → EndingsTogether V same asks batch_size roots slot w maps calls makers enders
      → (m : ℕ) (s : Standing K) → maps m ≡ Some s → (i : ℕ) (u : UnderWay K V Q) → calls m i ≡ Some u → (IsAtRow u → ⊥)
      → (m2 : Mem (Node K V)) (machine : Machine K V Q) (told : Progress (Node K V)) (b : ℕ) → HasSeen b w.memory (machine_plan asks same s.hash (machine_of u)) m2 (machine, told)
      → ((holds (slot i) b w.log ≡ true) × (owner_of b w.log ≡ s.setting.counter)) ⊎ (IsOwnOf machine b × Continues told)

  -- And the own pair of a call is in the hands of its caller, who has made its block, and not as the counter of a map.
  abbrev pub OwnPairsAreMade : Type 0
  OwnPairsAreMade =
      (w : World (Node K V)) (maps : ℕ → Option (Standing K)) (calls : ℕ → ℕ → Option (UnderWay K V Q))
      (makers : ℕ → Option (Beginning K)) (enders : ℕ → Option (Finishing K V))
      → EndingsTogether V same asks batch_size roots slot w maps calls makers enders
      → (m : ℕ) (s : Standing K) → maps m ≡ Some s → (i : ℕ) (u : UnderWay K V Q) → calls m i ≡ Some u → (b : ℕ) → IsOwnOf (machine_of u) b → (w.hand b ≡ Making i) × (value : Node K V) × (value_at w.memory b ≡ Some value) × (value ≢ Shards)
