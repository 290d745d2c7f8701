use Rattle.seize_blocks.proofs.By.{lies_there}
use Rattle.seize_blocks.proofs.blocks.Blocks.beside.Goals as goal

pub returns : goal.returns
returns g c = let e = c.value.ensures in let t = c.args.seat.now in
    lies_there g.R.Rule.rests g.R.Rule.leans g.R.Rule.upright (g.R.Rule.holds c.args.self.now.words.fixed) g.R.Rule.keeps t.id t.view t.visit t.away c.args.block e.0 c.in-Some.kept _
    c.requires.visits e.1 c.in-Some.is e.2
