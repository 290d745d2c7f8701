-- A step of the retirement is the copying's, with its outcome turned.
use Rattle.std.proofs.Common.{refl, subst, sym}
use Rattle.map_tables.specs.Given.SeizeWordsPlan.{Steps}
use Rattle.seize.proofs.StepsInto.{steps_into}
use Rattle.seize.specs.Settle.{settle_plan}
use Rattle.map_tables.specs.Nodes.{deferred_word}
use Rattle.map_machines.specs.declared.copier.Copying.{Copying}
use Rattle.map_machines.specs.Copier.{plan_at}
use Rattle.map_machines.specs.CopierPromotes.{retired}
use Rattle.map_machines.proofs.copier.Copier.retires.Goals as goal

pub returns : goal.returns
returns g c = λ hashes.
    subst (λ (stands : Copying). Steps g.M.Look.took g.M.Look.shown c.args.memory.now (plan_at {K = g.row.K.Denot} {V = g.row.V.Denot} hashes c.args.self.now stands)
    c.step-progress.new.memory (c.retired.new.self, c.retired.result)) (sym c.in-Retires.is)
    (steps_into (retired {K = g.row.K.Denot} {V = g.row.V.Denot} c.args.self.now c.in-Retires.rest) g.M.Look.can g.M.Look.took g.M.Look.shown c.args.memory.now c.step-progress.new.memory
    (settle_plan deferred_word c.in-Retires.settle) (c.step-progress.new.self, c.step-progress.result) _
    (c.retired.ensures c.args.self.now c.step-progress.new.self refl) c.step-progress.ensures)
