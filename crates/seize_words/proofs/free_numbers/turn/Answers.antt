use Rattle.seize_words.proofs.OneMemory.FreeTrees.{turned-over}
use Rattle.seize_words.proofs.free_numbers.turn.Goals as goal

pub returns-clause-turned : goal.returns-clause-turned
returns-clause-turned c =
    turned-over c.args.first c.args.nodes.now c.args.node c.args.bit c.requires.low c.requires.within c.requires.small c.mend.new.nodes c.mend.ensures.lowest
