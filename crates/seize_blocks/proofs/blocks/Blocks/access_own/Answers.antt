use Rattle.seize_words.specs.declared.at.At.TheVariants.{Word}
use Rattle.seize_blocks.proofs.By.{on_own}
use Rattle.seize_blocks.proofs.blocks.Blocks.access_own.Goals as goal

pub made-requires : goal.made-requires
made-requires g c = let s = c.args.seat.now in let p = c.finds.new.place in let t = c.visit.new.seat in let v = c.visit.ensures in let b = c.beside-beside.result in let l = c.lands-landing in
    let op = g.A.Access.op c.args.access (Word c.args.block c.args.own) in
    on_own g.R.Rule.rests g.R.Rule.leans g.R.Rule.upright g.R.Rule.holds g.R.Rule.keeps s.base t.base s.id t.id c.args.block c.args.own p.spot.index (b.at, b.count) l.result.at l.result.place s.view t.view
    t.visit t.away op (λ v. g.R.Rule.then v op) _ _ _ _ c.args.self.now.words.id _ _ c.by.ensures (v.0, v.1, v.3) c.requires.own l.ensures.0 l.ensures.1 c.finds.ensures.index c.beside-beside.ensures
    l.ensures.2 c.requires.may
