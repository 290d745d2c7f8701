use Rattle.seize_blocks.proofs.By.{own_lies}
use Rattle.seize_blocks.proofs.blocks.Blocks.own_place.Goals as goal

pub returns-clause-lies : goal.returns-clause-lies
returns-clause-lies g c =
    let s = c.spot_of-spot in let e = s.ensures in let t = c.visit.new.seat in let b = c.beside-beside.result in let l = c.lands-landing in (
      e.strip.0,
      e.strip.1,
      (
        l.ensures.0,
        l.ensures.1,
        own_lies g.R.Rule.rests g.R.Rule.leans g.R.Rule.upright (g.R.Rule.holds c.args.self.now.words.fixed) g.R.Rule.keeps t.id t.view t.visit t.away c.args.block c.args.own (b.at, b.count) s.result.strip.words
            l.result.at l.result.place s.result.strip.id s.result.index e.index.0 c.beside-beside.ensures l.ensures.2,
      ),
    )
