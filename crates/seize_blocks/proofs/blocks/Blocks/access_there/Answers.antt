use Rattle.seize_blocks.proofs.By.{on_word}
use Rattle.seize_blocks.proofs.blocks.Blocks.access_there.Goals as goal

pub made-requires : goal.made-requires
made-requires g c = let s = c.args.seat.now in let r = c.place_of-reached in let t = r.new.seat in let op = g.A.Access.op c.args.access c.args.at in
    on_word g.R.Rule.rests g.R.Rule.leans g.R.Rule.upright g.R.Rule.holds g.R.Rule.keeps s.base t.base s.id t.id r.result.address r.result.place s.view t.view t.visit t.away c.args.at op
    (λ v. g.R.Rule.then v op) _ _ _ _ c.args.self.now.words.id _ _ c.by.ensures r.ensures.same c.requires.own r.ensures.lies.2 c.requires.may

pub place_of-reached-requires-clause-there : goal.place_of-reached-requires-clause-there
place_of-reached-requires-clause-there g c = λ t so is. g.A.Access.there c.args.access c.args.at t.memory (c.requires.may t so is).0
