use Rattle.std.proofs.Common.{sym, subst}
use Rattle.papaya_raw.specs.declared.machines.machine.Machine.{Machine}
use Rattle.threads_rule.specs.Errands.Calling.{IsUnderWay}
use Rattle.threads_steps.specs.Asking.{PausedSo}
use Rattle.threads_steps.proofs.Forms.{by_key_of_keys}
use Rattle.threads_steps.proofs.within.Within.runs_on.Goals as goal

-- a key stands for itself
pub runs_on_by-requires : goal.runs_on_by-requires
runs_on_by-requires g c =
    let x = c.requires.calls in record {
      calls = (
        x.0,
        x.1,
        subst (λ (m : Machine g.row.K.Denot g.row.V.Denot g.row.K.Denot). IsUnderWay x.0 x.1 c.args.hasher.now m c.args.self.now.seat.now.view) (sym (by_key_of_keys c.args.machine.now)) x.2,
      );
    }

pub returns-clause-paused : goal.returns-clause-paused
returns-clause-paused g c = λ k s is.
    let v = c.args.self.now.seat.now.view in
    subst (λ (m : Machine g.row.K.Denot g.row.V.Denot g.row.K.Denot). PausedSo k s c.args.hasher.now m c.runs_on_by.result v c.runs_on_by.new.self.seat.now.view) (by_key_of_keys c.runs_on_by.new.machine)
    (c.runs_on_by.ensures.paused k s
    (subst (λ (m : Machine g.row.K.Denot g.row.V.Denot g.row.K.Denot). IsUnderWay k s c.args.hasher.now m v) (sym (by_key_of_keys c.args.machine.now)) is))
