-- What the word says is judged.
use Rattle.std.proofs.Common.{subst}
use Rattle.map_tables.specs.declared.finding.Finding.{Finding}
use Rattle.papaya_raw.specs.CallPoints.{told, after_finding}
use Rattle.map_straight.specs.Straight.Storing.{HasTried, storing}
use Rattle.map_straight.proofs.storing.read.Goals as goal

pub returns : goal.returns
returns g c =
    λ stands loaded. (
      told loaded (storing {K = g.row.K.Denot} {V = g.row.V.Denot} {Q = g.row.Q.Denot} c.args.setting c.args.hash c.args.there c.args.own c.args.trial stands) c.args.word c.is_of_own-same.result,
      c.is_of_own-same.ensures stands loaded,
      subst (λ (f : Finding). HasTried {K = g.row.K.Denot} {V = g.row.V.Denot} {Q = g.row.Q.Denot} c.args.setting c.args.hash c.args.there c.args.own (after_finding loaded (storing {K = g.row.K.Denot} {V = g.row.V.Denot} {Q = g.row.Q.Denot} c.args.setting c.args.hash c.args.there c.args.own c.args.trial stands) c.args.word f) c.judge.result) c.seen-finding.ensures (c.judge.ensures stands loaded),
    )
