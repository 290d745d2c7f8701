-- One call that computes, step by step: what it is told, and what it has come to.
use Rattle.std.specs.Prelude.{◌≡◌, ℕ, Bool, false, Option, Some, None}
use Rattle.seize_words.specs.OneMemory.Word.{block_in}
use Rattle.seize_words.specs.declared.operation.Operation.{Operation}
use Rattle.seize_words.specs.declared.operation.Operation.TheVariants as operation
use Rattle.map_tables.specs.declared.node.Node.{Node}
use Rattle.map_tables.specs.declared.node.Node.TheVariants.{Pair}
use Rattle.papaya_raw.specs.declared.machines.answer.There.TheVariants as there
use Rattle.papaya_raw.specs.declared.machines.answer.Missing.TheVariants as missing
use Rattle.papaya_raw.specs.declared.machines.asking.MachineReply.{MachineReply}
use Rattle.papaya_raw.specs.declared.machines.asking.MachineReply.TheVariants as reply
use Rattle.papaya_raw.specs.declared.machines.asking.Takes.TheVariants as takes
use Rattle.papaya_raw.specs.declared.machines.machine.Machine.{Machine}
use Rattle.threads_calls.specs.Given.StepsAsking.{HasAnswered}
use Rattle.threads_calls.specs.Given.CallKindsKinds.{Kind, Stage, PairIsVisible}
use Rattle.threads_calls.specs.Given.ErrandsCalling.{IsAsking, IsUnderWay}
use Rattle.threads_calls.specs.Given.ActsActs.{Wanted}
use Rattle.threads_calls.specs.Given.ViewsDeclared.view.View.{View}
use Rattle.threads_updates.specs.declared.computing.ComputedOnce.{ComputedOnce}

-- a call that asks wherever its key is, and takes any change
abbrev pub computes : Kind
computes = record { present = there.Asks; absent = missing.Asks; takes = takes.Changes }

-- What is said is done. A call that was told a value, and meets another pair, is told to leave that as it is.
abbrev pub Told : {K V T : Type 0} → (Option (K × V) → Operation V T → Type 0) → Option (K × V) → MachineReply V → Type 0
Told Gives about (reply.Insert value) = Gives about (operation.Insert value)
Told Gives about reply.Remove = Gives about operation.Remove
Told Gives about reply.Abort = Unit {0}
Told Gives about told = ⊥

-- it is said last that nothing is to change, if it is, of a pair, or of none
abbrev pub SaidLast : {K V T : Type 0} → (Option (K × V) → Operation V T → Type 0) → Option T → Type 0
SaidLast Gives None = Unit {0}
SaidLast {K} {V} Gives (Some end) = (about : Option (K × V)) × Gives about (operation.Abort end)

module _ {K V : Type 0} where
  -- it asks with no pair, or with one that is shown,
  abbrev pub ShowsAsked : (ℕ → Option (Node K V)) → Option ℕ → Type 0
  ShowsAsked shown None = Unit {0}
  ShowsAsked shown (Some word) = PairIsVisible shown word

  -- which is this one
  abbrev pub IsAbout : (ℕ → Option (Node K V)) → Option ℕ → Option (K × V) → Type 0
  IsAbout shown None None = Unit {0}
  IsAbout shown (Some word) (Some x) = shown (block_in word) ≡ Some (Pair x.0 x.1)
  IsAbout shown pair about = ⊥

module _ {K V S : Type 0} where
  -- a call that computes goes on, and was told no value yet, if this says so,
  abbrev pub StandsAt : Bool → S → Machine K V K → View K V S → Type 0
  StandsAt value hasher machine v = (s : Stage) × (value ≡ false → s.told ≡ false) × IsUnderWay computes s hasher machine v

  -- or it asks
  abbrev pub Asks : Bool → S → Option ℕ → Machine K V K → View K V S → Type 0
  Asks value hasher pair machine v = (s : Stage) × (value ≡ false → s.told ≡ false) × IsAsking computes s hasher pair machine v

  -- what a call has come to that has ended
  pub record Once {T : Type 0} (same : K → K → Bool) (hash : S → K → ℕ) (Gives : Option (K × V) → Operation V T → Type 0) (wanted : Wanted K V) (once : ComputedOnce T) (v w : View K V S) : Type 0 where
    pub answered : HasAnswered same hash (Told Gives) wanted once.told v w
    pub said : SaidLast Gives once.end
