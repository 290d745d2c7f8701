use Rattle.std.proofs.Common.{sym, subst}
use Rattle.map_measures.specs.ByKey.ByKey.{by_key}
use Rattle.papaya_raw.specs.declared.machines.machine.Machine.{Machine}
use Rattle.threads_rule.specs.Errands.Calling.{MayStep, StepsTo}
use Rattle.threads_steps.proofs.Forms.{by_key_of_keys}
use Rattle.threads_steps.proofs.within.Within.steps.Goals as goal

-- a key stands for itself
pub steps_by-requires : goal.steps_by-requires
steps_by-requires g c = record {
  may = subst (λ (m : Machine g.row.K.Denot g.row.V.Denot g.row.K.Denot). MayStep c.args.hasher.now m c.args.self.now.seat.now.view) (sym (by_key_of_keys c.args.machine.now)) c.requires.may;
}

pub returns-clause-stepped : goal.returns-clause-stepped
returns-clause-stepped g c =
    let v = c.args.self.now.seat.now.view in let w = c.steps_by.new.self.seat.now.view in
    subst (λ (m : Machine g.row.K.Denot g.row.V.Denot g.row.K.Denot). StepsTo g.K.PartialEq.eq g.S.Hashes.hash c.args.hasher.now m c.steps_by.new.machine c.steps_by.result v w) (by_key_of_keys c.args.machine.now)
    (subst (λ (m : Machine g.row.K.Denot g.row.V.Denot g.row.K.Denot). StepsTo g.K.PartialEq.eq g.S.Hashes.hash c.args.hasher.now (by_key (λ (key : g.row.K.Denot). key) c.args.machine.now) m c.steps_by.result v w)
    (by_key_of_keys c.steps_by.new.machine) c.steps_by.ensures.stepped)
