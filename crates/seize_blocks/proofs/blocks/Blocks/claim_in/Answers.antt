use Rattle.seize_blocks.proofs.By.{on_claim}
use Rattle.seize_blocks.proofs.blocks.Blocks.claim_in.Goals as goal

pub claim-found-requires : goal.claim-found-requires
claim-found-requires g c = let part = c.args.part.now in
    on_claim g.R.Rule.rests g.R.Rule.leans g.R.Rule.upright g.R.Rule.holds g.R.Rule.keeps c.loop-index.index part.first part.count part.skip _ _ _ _ c.args.self.now.words.id _ _ c.by.ensures part.is.1 part.is.2
    part.is.3 c.loop-index-test.true part.fits.0
