-- A writer that knows whether a write to it has failed, the status that tells it, and what the two outputs of a program come to.
use Rattle.std.specs.Prelude.{◌≡◌, ℕ, Bool, true, false, List, Option, codes, ◌++◌, ◌⊎◌}
use Rattle.std.specs.Fmt.{decimal}
use Rattle.std.specs.Io.KnownBytes.{Keeps, Appends}
use Rattle.seize_words.specs.declared.fault.Fault.{Fault}
use Rattle.seize_words.specs.OneMemory.Fault.{number_of as fault_number, name_of as fault_name}
use Rattle.reclaimed_script.specs.declared.output.Output.{Output}

module _ {W : Type 0} where
  abbrev pub writer_of : Output W → W
  writer_of o = o.writer

  abbrev pub has_failed : Output W → Bool
  has_failed o = o.failed

-- the status is 0 where all of the text was written, and 1 where the write failed
abbrev pub Writes : ℕ → List ℕ → Bool → Option (List ℕ) → Option (List ℕ) → Type 0
Writes status text failed before after = ((status ≡ 0) × (failed ≡ false) × Appends before after text) ⊎ ((status ≡ 1) × (failed ≡ true))

-- what is known of the bytes that the input has left, and that the two outputs held before and hold after
pub record Streams : Type 0 where
  pub left : Option (List ℕ)
  pub output_before : Option (List ℕ)
  pub output_after : Option (List ℕ)
  pub output_failed : Bool  -- a write to it has failed
  pub errors_before : Option (List ℕ)
  pub errors_after : Option (List ℕ)
  pub errors_failed : Bool

-- this line, and nothing else, is written, on the errors, unless that write fails
abbrev pub SaysOnly : List ℕ → Streams → Type 0
SaysOnly line s = Keeps s.output_before s.output_after × (s.errors_failed ≡ false → Appends s.errors_before s.errors_after line)

-- that a write failed is told by a line on the errors, unless that write fails, too; else nothing is written there
abbrev pub ReportsFailure : Bool → Bool → Option (List ℕ) → Option (List ℕ) → Type 0
ReportsFailure true errors_failed before after = errors_failed ≡ false → Appends before after (codes "write failed\n")
ReportsFailure false errors_failed before after = Keeps before after

-- a line ends in a line feed
abbrev pub line : List ℕ → List ℕ
line text = text ++ codes "\n"

-- the line of what was refused: the fault's number and name
abbrev pub refused_line : Fault → List ℕ
refused_line fault = line (codes "refused " ++ decimal (fault_number fault) ++ codes " " ++ fault_name fault)
