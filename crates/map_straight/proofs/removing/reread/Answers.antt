-- What the word says is weighed.
use Rattle.std.proofs.Common.{subst}
use Rattle.map_tables.specs.declared.finding.Finding.{Finding}
use Rattle.papaya_raw.specs.CallPoints.{told, after_finding}
use Rattle.map_straight.specs.Straight.Going.{CallGoes}
use Rattle.seize_straight.specs.Reaches.{HasOutcome}
use Rattle.map_straight.specs.Straight.Removing.{seeking, sought_at}
use Rattle.map_straight.proofs.removing.reread.Goals as goal

pub returns : goal.returns
returns g c =
    λ stands loaded. (
      told loaded (seeking {K = g.row.K.Denot} {V = g.row.V.Denot} {Q = g.row.Q.Denot} c.args.setting c.args.hash c.args.asked.now c.args.trial stands) c.args.word c.is_asked-same.result,
      c.is_asked-same.ensures stands loaded,
      subst (λ (f : Finding). HasOutcome CallGoes (after_finding loaded (seeking {K = g.row.K.Denot} {V = g.row.V.Denot} {Q = g.row.Q.Denot} c.args.setting c.args.hash c.args.asked.now c.args.trial stands) c.args.word f) (sought_at c.args.setting c.args.hash c.args.asked.now c.weigh.result)) c.seen-finding.ensures (c.weigh.ensures stands loaded),
    )
