use Rattle.seize_words.specs.OneMemory.Op.{Rewrite}
use Rattle.seize_blocks.proofs.By.{on_rewrite}
use Rattle.seize_blocks.proofs.blocks.Blocks.rewrite.Goals as goal

pub rewrite-requires : goal.rewrite-requires
rewrite-requires g c = let s = c.args.seat.now in let t = c.visit.new.seat in let v = c.visit.ensures in let p = c.spot_of-spot in let b = c.beside-beside.result in
    on_rewrite g.R.Rule.rests g.R.Rule.leans g.R.Rule.upright g.R.Rule.holds g.R.Rule.keeps s.base t.base s.id t.id c.args.block p.result.index s.view t.view t.visit t.away
    record { value = c.args.value; at = b.at; count = b.count; beside = b.beside }
    p.result.values _ _ _ _ c.args.self.now.words.id _ _ (λ v. g.R.Rule.then v (Rewrite c.args.block c.args.value)) c.by.ensures (v.0, v.1, v.3) c.beside-beside.ensures
    c.requires.own p.ensures.index.0 p.ensures.strip.2 c.requires.alone c.requires.may
