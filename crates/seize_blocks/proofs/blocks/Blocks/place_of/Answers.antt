use Rattle.std.proofs.Common.{subst}
use Rattle.seize_words.specs.declared.at.At.{At}
use Rattle.seize_atoms.specs.Placed.{HasWord}
use Rattle.seize_blocks.proofs.By.{shows_block}
use Rattle.seize_blocks.proofs.blocks.Blocks.place_of.Goals as goal

pub spot_of-spot-requires-clause-shown : goal.spot_of-spot-requires-clause-shown
spot_of-spot-requires-clause-shown g c = let holds = g.R.Rule.holds c.args.self.now.words.fixed in let seat = c.args.seat.now in let e = c.in-Entry in
    shows_block holds seat.id seat.view e.block e.word (subst (λ (at : At). HasWord holds seat.id seat.view at) e.is c.requires.there)
