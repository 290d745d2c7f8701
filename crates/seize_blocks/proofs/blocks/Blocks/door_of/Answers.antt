use Rattle.std.proofs.Common.{◌∙◌}
use Rattle.seize_blocks.proofs.Digits.{has_digits, no_fewer, begins, follow, half}
use Rattle.seize_blocks.proofs.blocks.Blocks.door_of.Goals as goal

pub overflow_sub-top : goal.overflow_sub-top
overflow_sub-top g c = let x = c.args.self.now in
    has_digits x.words.id.least x.digits c.args.index (x.counted.2 ∙ x.even) c.requires.0 c.requires.1

pub overflow_sub-result : goal.overflow_sub-result
overflow_sub-result g c = let x = c.args.self.now in
    no_fewer x.words.id.least x.digits c.args.index (x.counted.2 ∙ x.even) c.requires.0 c.requires.1

pub returns-clause-door : goal.returns-clause-door
returns-clause-door g c = let x = c.args.self.now in
    begins x.words.id.least x.digits c.args.index (x.counted.2 ∙ x.even) c.requires.0 c.requires.1

pub returns-clause-index : goal.returns-clause-index
returns-clause-index g c = let x = c.args.self.now in
    follow x.words.id.least x.digits c.args.index (x.counted.2 ∙ x.even) c.requires.0 c.requires.1

pub returns-clause-half : goal.returns-clause-half
returns-clause-half g c = let x = c.args.self.now in
    half x.words.id.least x.digits c.args.index (x.counted.2 ∙ x.even) c.requires.0 c.requires.1
