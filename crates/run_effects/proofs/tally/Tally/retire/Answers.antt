-- A pair or a table is retired.
use Rattle.std.proofs.Common.{refl, sym, ap, subst}
use Rattle.run_schedules.specs.declared.effect.Effect.TheVariants.{Retired}
use Rattle.run_schedules.specs.Schedules.Moment as at
use Rattle.run_effects.specs.Tallies.Tally.{RecordsNext}
use Rattle.run_effects.specs.declared.tally.Whereabouts.TheVariants.{Waits}
use Rattle.run_effects.proofs.Tallies.Tallies.{ok_so, put_tells, retired_tells}
use Rattle.run_effects.proofs.tally.Tally.retire.Goals as goal

pub returns-in-APair : goal.returns-in-APair
returns-in-APair c = λ map.
    ok_so c.put.result _ _ c.put.ensures.pairs
    (λ pairs. subst (λ x. RecordsNext map (Retired x) c.args.self.now c.put.new.self) (sym c.in-APair.is)
    (λ place deferred tables tells. put_tells c.args.self.now c.put.new.self place deferred tables tells c.in-APair.pair Waits at.Handed refl pairs (ap (λ t. t.behind.items) c.put.ensures.rest) (ap (λ t. t.tables.items) c.put.ensures.rest) (ap (λ t. t.places) c.put.ensures.rest)))

pub returns-in-ATable : goal.returns-in-ATable
returns-in-ATable c = λ map.
    let new = record c.args.self.now { tables = c.flag.new.tables } in
    subst (λ x. RecordsNext map (Retired x) c.args.self.now new) (sym c.in-ATable.is)
    (λ place deferred tables tells. retired_tells c.args.self.now new place deferred tables tells c.in-ATable.table refl refl c.flag.ensures refl)
