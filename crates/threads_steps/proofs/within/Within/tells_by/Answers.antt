use Rattle.std.specs.Prelude.{Result}
use Rattle.std.proofs.Common.{sym, subst, ap, ◌∙◌}
use Rattle.map_measures.specs.ByKey.ByKey.{by_key}
use Rattle.papaya_raw.specs.declared.machines.asking.MachineReply.{MachineReply}
use Rattle.papaya_raw.specs.declared.machines.machine.Machine.{Machine}
use Rattle.threads_rule.specs.Errands.Calling.{IsUnderWay}
use Rattle.threads_kinds.specs.CallKinds.Kinds.{stage_after}
use Rattle.threads_steps.proofs.Forms.{replied_by}
use Rattle.threads_steps.proofs.Told.{goes_told, takes_it}
use Rattle.threads_steps.proofs.within.Within.tells_by.Goals as goal

pub tells_as-requires-clause-knows : goal.tells_as-requires-clause-knows
tells_as-requires-clause-knows g c = let at = c.requires.asks.2.at in (at.map, at.knows)

pub tells_as-requires-clause-works : goal.tells_as-requires-clause-works
tells_as-requires-clause-works g c = c.requires.asks.2.at.works

pub taken-requires : goal.taken-requires
taken-requires g c =
    let asks = c.requires.asks in let sf = g.Q.Equivalent.stands_for in
    let now = replied_by sf c.args.machine.now c.reply-back.new.self c.args.reply c.reply-back.result c.reply-back.ensures in record {
      taken =
          ap (λ (x : Machine g.row.K.Denot g.row.V.Denot g.row.K.Denot × Result Unit (MachineReply g.row.V.Denot)). x.1) now
          ∙ takes_it asks.0 asks.1 c.args._hasher.now c.args.pair c.args.reply (by_key sf c.args.machine.now) c.args.self.now.seat.now.view asks.2 asks.3;
    }

pub returns-clause-goes : goal.returns-clause-goes
returns-clause-goes g c = λ k s is fit.
    let sf = g.Q.Equivalent.stands_for in
    let now = replied_by sf c.args.machine.now c.reply-back.new.self c.args.reply c.reply-back.result c.reply-back.ensures in
    subst (λ (m : Machine g.row.K.Denot g.row.V.Denot g.row.K.Denot). IsUnderWay k (stage_after s c.args.pair c.args.reply) c.args._hasher.now m c.tells_as.new.self.seat.now.view)
    (sym (ap (λ (x : Machine g.row.K.Denot g.row.V.Denot g.row.K.Denot × Result Unit (MachineReply g.row.V.Denot)). x.0) now))
    (goes_told k s c.args._hasher.now c.args.pair c.args.reply (by_key sf c.args.machine.now) c.args.self.now.seat.now.view is fit c.tells_as.new.self.seat.now.view c.tells_as.ensures.told)
