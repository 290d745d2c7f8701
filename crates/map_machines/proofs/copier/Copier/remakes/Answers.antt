-- A step of the making is the copying's, with its outcome turned.
use Rattle.std.proofs.Common.{refl, subst, sym}
use Rattle.map_tables.specs.Given.SeizeWordsPlan.{Steps}
use Rattle.seize.proofs.StepsInto.{steps_into}
use Rattle.map_machines.specs.NewTable.{new_table_plan}
use Rattle.map_machines.specs.declared.copier.Copying.{Copying}
use Rattle.map_machines.specs.Copier.{plan_at}
use Rattle.map_machines.specs.CopierFurther.{remade}
use Rattle.map_machines.proofs.copier.Copier.remakes.Goals as goal

pub returns : goal.returns
returns g c = λ hashes.
    subst (λ (stands : Copying). Steps g.M.Look.took g.M.Look.shown c.args.memory.now (plan_at {K = g.row.K.Denot} {V = g.row.V.Denot} hashes c.args.self.now stands)
    c.step-progress.new.memory (c.remade.new.self, c.remade.result)) (sym c.in-Remakes.is)
    (steps_into (remade {K = g.row.K.Denot} {V = g.row.V.Denot} c.args.self.now) g.M.Look.can g.M.Look.took g.M.Look.shown c.args.memory.now c.step-progress.new.memory
    (new_table_plan {K = g.row.K.Denot} {V = g.row.V.Denot} c.in-Remakes.making) (c.step-progress.new.self, c.step-progress.result) _
    (c.remade.ensures c.args.self.now c.step-progress.new.self refl) c.step-progress.ensures)
