-- A line as the text that one format string gives.
use Rattle.std.proofs.Common.{◌≡◌, ℕ, List, ◌++◌, append_assoc}
use Rattle.std.specs.Prelude.{codes}
use Rattle.std.specs.Fmt.{decimal}
use Rattle.reclaimed_engine.specs.PrintedText.Text.{fault_line}

pub fault_line_parts : (number : ℕ) (text : List ℕ) → fault_line number text ≡ codes "line " ++ (decimal number ++ (codes ": " ++ (text ++ codes "\n")))
fault_line_parts number text = simp append_assoc
