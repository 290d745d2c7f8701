-- How a collector comes about.
use Rattle.std.specs.Prelude.{◌≡◌, Result, Ok, Err}
use Rattle.seize.specs.Collector.{Setting}
use Rattle.seize_words.specs.declared.fault.Fault.{Fault}
use Rattle.seize_words.specs.declared.fault.Fault.TheVariants.{Memory}

-- Where its source has a number left there is a collector that was made with just this, or memory was refused; where it has none, that is said.
abbrev pub IsMade : {C : Type 0} → (C → Setting) → Result Setting Fault → Result C Fault → Type 0
IsMade setting (Ok made) (Ok collector) = setting collector ≡ made
IsMade setting (Ok made) (Err fault) = fault ≡ Memory
IsMade setting (Err none) (Ok collector) = ⊥
IsMade setting (Err none) (Err fault) = fault ≡ none
