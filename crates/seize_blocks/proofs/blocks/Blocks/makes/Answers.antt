use Rattle.seize_words.specs.OneMemory.Op.{Make}
use Rattle.seize_blocks.proofs.By.{on_put}
use Rattle.seize_blocks.proofs.blocks.Blocks.makes.Goals as goal

pub put-requires : goal.put-requires
put-requires g c = let s = c.in-Some-number in let k = s.ensures in let l = c.in-Some in
    on_put g.R.Rule.rests g.R.Rule.leans g.R.Rule.upright g.R.Rule.holds g.R.Rule.keeps c.args.seat.now.base c.args.seat.now.id s.index s.part.first s.part.count c.args.seat.now.view
    record { value = c.args.value; at = l.laid.at; count = c.args.words; beside = l.ensures.beside } l.laid.piece
    s.part.values _ _ _ _ c.args.self.now.words.id _ _ s.claim (g.R.Rule.then c.args.seat.now.view (Make c.args.value c.args.words)) c.by.ensures c.requires.own
    (k.2, k.3, k.4) s.part.is.0 s.part.is.1 s.part.is.2 k.1 s.part.fits.1 (l.ensures.lies.0, l.ensures.lies.1, l.ensures.zeros) c.requires.may
