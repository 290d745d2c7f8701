-- What calls on a key are told that go by closures, by the pair of their key that the map has, or where it has none.
use Rattle.std.specs.Prelude.{◌≡◌, ℕ, Bool, true, false, List, Result, Ok, Err, Option, Some, None, option_map}
use Rattle.std.specs.Fn.{Once, FnOnceReturns}
use denote.Ref.{Bor}
use Rattle.seize_words.specs.OneMemory.Mem.{Mem}
use Rattle.seize_words.specs.declared.fault.Fault.{Fault}
use Rattle.map_tables.specs.declared.node.Node.{Node}
use Rattle.map_tables.specs.declared.setting.Setting.{Setting}
use Rattle.papaya_raw.specs.declared.machines.answer.KeyAnswer.{KeyAnswer}
use Rattle.papaya_raw.specs.declared.machines.asking.MachineReply.{MachineReply}
use Rattle.papaya_raw.specs.declared.machines.asking.MachineReply.TheVariants as reply
use Rattle.owner_asks.specs.Asks.Asking.{AnswersAs, RefusedAs}
use Rattle.owner_calls.specs.Owned.Owned.{found_by}
use Rattle.owner_calls.specs.declared.machines.Stop.{Stop}
use Rattle.owner_calls.specs.declared.machines.Stop.TheVariants as stop
use Rattle.owner_asks.specs.declared.computing.Computed.{Computed}
use Rattle.owner_asks.specs.declared.computing.Computed.TheVariants as computed
use Rattle.seize_words.specs.declared.operation.Operation.{Operation}
use Rattle.seize_words.specs.declared.operation.Operation.TheVariants as operation
use Rattle.seize_words.specs.declared.refused.RefusedKey.{RefusedKey}
use Rattle.seize_words.specs.declared.refused.Refused.{Refused}

-- a test may answer so of a pair
abbrev pub TestsAs : {F K V : Type 0} → Once F (Bor K × (Bor V × Unit {0})) Bool → F → K × V → Bool → Type 0
TestsAs {F} {K} {V} g f x answer = (p : Bor K) × (q : Bor V) × FnOnceReturns g f (p, (q, tt)) answer × (p.now ≡ x.0) × (q.now ≡ x.1)

-- and may be called at it
abbrev pub TestTakes : {F K V : Type 0} → Once F (Bor K × (Bor V × Unit {0})) Bool → F → K × V → Type 0
TestTakes {F} {K} {V} g f x = (p : Bor K) (q : Bor V) → p.now ≡ x.0 → q.now ≡ x.1 → g.pre f (p, (q, tt))

-- a computing may give this operation where it is shown this pair, or none
abbrev pub ComputesAs : {F K V T : Type 0} → Once F (Option (Bor K × Bor V) × Unit {0}) (Operation V T) → F → Option (K × V) → Operation V T → Type 0
ComputesAs {F} {K} {V} g f about gives = (shown : Option (Bor K × Bor V)) × FnOnceReturns g f (shown, tt) gives × (option_map (λ x. (x.0.now, x.1.now)) shown ≡ about)

-- and may be called there
abbrev pub ComputingTakes : {F K V T : Type 0} → Once F (Option (Bor K × Bor V) × Unit {0}) (Operation V T) → F → Option (K × V) → Type 0
ComputingTakes {F} {K} {V} g f about = (shown : Option (Bor K × Bor V)) → option_map (λ x. (x.0.now, x.1.now)) shown ≡ about → g.pre f (shown, tt)

module _ {K V : Type 0} where
  -- The value of a pair that is there gives way to one that is made of it, and where there is none, nothing changes.
  abbrev pub Updating : (V → V → Type 0) → Option (K × V) → MachineReply V → Type 0
  Updating Makes (Some x) (reply.Insert value) = Makes x.1 value
  Updating Makes None reply.Abort = Unit {0}
  Updating Makes about told = ⊥

  -- So it does, and where there is none, a value is stored that is so.
  abbrev pub UpdatingOrStoring : (V → V → Type 0) → (V → Type 0) → Option (K × V) → MachineReply V → Type 0
  UpdatingOrStoring Makes IsSo (Some x) (reply.Insert value) = Makes x.1 value
  UpdatingOrStoring Makes IsSo None (reply.Insert value) = IsSo value
  UpdatingOrStoring Makes IsSo about told = ⊥

  -- A pair that is there stays, and where there is none, a value is stored that is so.
  abbrev pub Storing : (V → Type 0) → Option (K × V) → MachineReply V → Type 0
  Storing IsSo (Some x) reply.Abort = Unit {0}
  Storing IsSo None (reply.Insert value) = IsSo value
  Storing IsSo about told = ⊥

  -- A pair that is there is removed where a test answers yes, and stays where it answers no.
  abbrev pub Removing : (K × V → Bool → Type 0) → Option (K × V) → MachineReply V → Type 0
  Removing Tests (Some x) reply.Remove = Tests x true
  Removing Tests (Some x) reply.Abort = Tests x false
  Removing Tests None reply.Abort = Unit {0}
  Removing Tests about told = ⊥

  -- What is given is done. Nothing changes by these.
  abbrev pub Computing : {T : Type 0} → (Option (K × V) → Operation V T → Type 0) → Option (K × V) → MachineReply V → Type 0
  Computing Gives about (reply.Insert value) = Gives about (operation.Insert value)
  Computing Gives about reply.Remove = Gives about operation.Remove
  Computing Gives about told = ⊥

-- What a call comes to that was given a key, by what it was told: where it is refused, the key comes back.
module _ {K V : Type 0} (same : K → K → Bool) (hash : K → ℕ) (setting : Setting) (m : Mem (Node K V)) (key : K) (xs : List (K × V)) where
  abbrev pub HasOutcome : (Option (K × V) → MachineReply V → Type 0) → Result KeyAnswer (RefusedKey K) → Type 0
  HasOutcome Told (Ok answer) = AnswersAs same hash setting m (same key) xs (Some key) Told answer
  HasOutcome Told (Err r) = RefusedAs same hash setting m (same key) xs (Some key) Told r.fault × (r.key ≡ key)

  -- and the value, where it was given one, too
  abbrev pub HasOutcomeWith : V → (Option (K × V) → MachineReply V → Type 0) → Result KeyAnswer (Refused K V) → Type 0
  HasOutcomeWith value Told (Ok answer) = AnswersAs same hash setting m (same key) xs (Some key) Told answer
  HasOutcomeWith value Told (Err r) = RefusedAs same hash setting m (same key) xs (Some key) Told r.fault × (r.key ≡ key) × (r.value ≡ value)

  -- a computing that was told to change nothing says with what, and what it found
  abbrev pub ComputesTo : {T : Type 0} → (Option (K × V) → Operation V T → Type 0) → Result (Computed T) (RefusedKey K) → Type 0
  ComputesTo Gives (Ok (computed.Changed answer)) = AnswersAs same hash setting m (same key) xs (Some key) (Computing Gives) answer
  ComputesTo Gives (Ok (computed.Aborted end answer)) =
      Gives (found_by (same key) xs) (operation.Abort end) × AnswersAs same hash setting m (same key) xs (Some key) (λ about said. said ≡ reply.Abort) answer
  ComputesTo Gives (Err r) = RefusedAs same hash setting m (same key) xs (Some key) (Computing Gives) r.fault × (r.key ≡ key)

-- how a computing's call has stopped
abbrev pub computing_stop : {K T : Type 0} → Result (Computed T) (RefusedKey K) → Result Stop Fault
computing_stop (Ok (computed.Changed answer)) = Ok (stop.Answered answer)
computing_stop (Ok (computed.Aborted end answer)) = Ok (stop.Answered answer)
computing_stop (Err r) = Err r.fault
