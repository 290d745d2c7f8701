-- What is said of the pair of a key, or of none, by closures.
use Rattle.std.specs.Prelude.{◌≡◌, Option, Some, None, option_map}
use Rattle.std.specs.Fn.{Shared, FnReturns}
use denote.Ref.{Bor}
use Rattle.papaya_raw.specs.declared.machines.asking.MachineReply.{MachineReply}
use Rattle.papaya_raw.specs.declared.machines.asking.MachineReply.TheVariants as reply
use Rattle.seize_words.specs.declared.operation.Operation.{Operation}
use Rattle.seize_words.specs.declared.operation.Operation.TheVariants as operation

-- what a call is told by what is said
abbrev pub reply_of : {V T : Type 0} → Operation V T → MachineReply V
reply_of (operation.Insert value) = reply.Insert value
reply_of operation.Remove = reply.Remove
reply_of (operation.Abort end) = reply.Abort

-- a closure may say so of a pair, or of none
abbrev pub MayDecide : {F K V T : Type 0} → Shared F (Option (Bor K × Bor V) × Unit {0}) (Operation V T) → F → Option (K × V) → Operation V T → Type 0
MayDecide {F} {K} {V} g f about said = (shown : Option (Bor K × Bor V)) × FnReturns g f (shown, tt) said × (option_map (λ x. (x.0.now, x.1.now)) shown ≡ about)

module _ {K V T : Type 0} where
  -- A value that is there gives way to one that is made of it, and where there is none, nothing changes.
  abbrev pub NewOld : (V → V → Type 0) → Option (K × V) → Operation V T → Type 0
  NewOld Makes (Some x) (operation.Insert value) = Makes x.1 value
  NewOld Makes None (operation.Abort end) = Unit {0}
  NewOld Makes about said = ⊥

  -- So it does, and where there is none, a value is stored that is so,
  abbrev pub NewOldOr : (V → V → Type 0) → (V → Type 0) → Option (K × V) → Operation V T → Type 0
  NewOldOr Makes IsSo (Some x) (operation.Insert value) = Makes x.1 value
  NewOldOr Makes IsSo None (operation.Insert value) = IsSo value
  NewOldOr Makes IsSo about said = ⊥

  -- unless there is no memory for that value.
  abbrev pub NewOldOrStop : (V → V → Type 0) → (V → Type 0) → Option (K × V) → Operation V T → Type 0
  NewOldOrStop Makes IsSo about (operation.Abort end) = Unit {0}
  NewOldOrStop Makes IsSo about said = NewOldOr Makes IsSo about said
