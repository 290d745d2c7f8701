-- The line of what was refused as the text that one format string gives.
use Rattle.std.proofs.Common.{◌≡◌, ◌++◌, append_assoc}
use Rattle.std.specs.Prelude.{codes}
use Rattle.std.specs.Fmt.{decimal}
use Rattle.seize_words.specs.declared.fault.Fault.{Fault}
use Rattle.seize_words.specs.OneMemory.Fault.{number_of, name_of}
use Rattle.reclaimed_script.specs.Outputs.{refused_line}

pub refused_line_parts : (fault : Fault) → refused_line fault ≡ codes "refused " ++ (decimal (number_of fault) ++ (codes " " ++ (name_of fault ++ codes "\n")))
refused_line_parts fault = simp append_assoc
