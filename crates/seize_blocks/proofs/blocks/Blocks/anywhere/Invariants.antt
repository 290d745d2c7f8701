use Rattle.seize_blocks.specs.Parts.{IsPart}
use Rattle.seize_blocks.proofs.blocks.Blocks.anywhere.Given as goal

-- the strip is that of this place
abbrev pub invariant-loop-door : goal.invariant-loop-door
invariant-loop-door g l = IsPart l.self.words.id l.part l.door
