use Rattle.seize_words.specs.OneMemory.Op.{Take}
use Rattle.seize_blocks.proofs.By.{on_take}
use Rattle.seize_blocks.proofs.blocks.Blocks.take.Goals as goal

pub spot_of-spot-requires-clause-shown : goal.spot_of-spot-requires-clause-shown
spot_of-spot-requires-clause-shown g c = λ t so is _ _. (c.requires.may t so is).0

pub take-kept-requires : goal.take-kept-requires
take-kept-requires g c = let s = c.spot_of-spot in let low = s.ensures.words.1 in
    on_take g.R.Rule.rests g.R.Rule.leans g.R.Rule.upright g.R.Rule.holds g.R.Rule.keeps c.args.seat.now.base c.args.seat.now.id c.args.block s.result.index s.result.first c.args.seat.now.view
    s.result.values _ _ _ _ c.args.self.now.words.id _ _ (g.R.Rule.then c.args.seat.now.view (Take c.args.block)) c.by.ensures c.requires.own s.ensures.index.0
    s.ensures.strip.2 s.ensures.words.0 low c.requires.may
