use Rattle.std.proofs.Common.{◌≡◌, sym, subst}
use Rattle.papaya_raw.specs.declared.machines.machine.Machine.{Machine}
use Rattle.threads_kinds.specs.CallKinds.Kinds.{stage_after}
use Rattle.threads_rule.specs.Errands.Calling.{IsAsking, IsUnderWay}
use Rattle.threads_rule.specs.Views.Begun.{replied}
use Rattle.threads_steps.proofs.Forms.{by_key_of_keys}
use Rattle.threads_steps.proofs.within.Within.tells.Goals as goal

-- a key stands for itself
pub tells_by-requires : goal.tells_by-requires
tells_by-requires g c =
    let x = c.requires.asks in record {
      asks = (
        x.0,
        x.1,
        subst (λ (m : Machine g.row.K.Denot g.row.V.Denot g.row.K.Denot). IsAsking x.0 x.1 c.args.hasher.now c.args.pair m c.args.self.now.seat.now.view) (sym (by_key_of_keys c.args.machine.now)) x.2,
        x.3,
      );
    }

pub returns-clause-goes : goal.returns-clause-goes
returns-clause-goes g c = λ k s is fit.
    subst (λ (m : Machine g.row.K.Denot g.row.V.Denot g.row.K.Denot). IsUnderWay k (stage_after s c.args.pair c.args.reply) c.args.hasher.now m c.tells_by.new.self.seat.now.view) (by_key_of_keys c.tells_by.new.machine)
    (c.tells_by.ensures.goes k s
    (subst (λ (m : Machine g.row.K.Denot g.row.V.Denot g.row.K.Denot). IsAsking k s c.args.hasher.now c.args.pair m c.args.self.now.seat.now.view) (sym (by_key_of_keys c.args.machine.now)) is) fit)

pub returns-clause-told : goal.returns-clause-told
returns-clause-told g c =
    let v = c.args.self.now.seat.now.view in
    subst (λ (m : Machine g.row.K.Denot g.row.V.Denot g.row.K.Denot). c.tells_by.new.self.seat.now.view ≡ replied v m c.args.reply) (by_key_of_keys c.args.machine.now) c.tells_by.ensures.told
