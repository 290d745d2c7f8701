-- A pair or a table is reclaimed.
use Rattle.std.proofs.Common.{refl, sym, ap, subst}
use Rattle.run_schedules.specs.declared.effect.Effect.TheVariants.{Reclaimed}
use Rattle.run_schedules.specs.Schedules.Moment as at
use Rattle.run_effects.specs.Tallies.Tally.{RecordsNext}
use Rattle.run_effects.specs.declared.tally.Whereabouts.TheVariants.{Back}
use Rattle.run_effects.proofs.Tallies.Tallies.{gone_tells, ok_all, ok_so, put_tells}
use Rattle.run_effects.proofs.tally.Tally.reclaim.Goals as goal

pub returns-in-APair : goal.returns-in-APair
returns-in-APair c = λ map.
    ok_so c.put.result _ _ c.put.ensures.pairs
    (λ pairs. subst (λ x. RecordsNext map (Reclaimed x) c.args.self.now c.put.new.self) (sym c.in-APair.is)
    (λ place deferred tables tells. put_tells c.args.self.now c.put.new.self place deferred tables tells c.in-APair.pair Back at.GivenBack refl pairs (ap (λ t. t.behind.items) c.put.ensures.rest) (ap (λ t. t.tables.items) c.put.ensures.rest) (ap (λ t. t.places) c.put.ensures.rest)))

pub returns-in-ATable : goal.returns-in-ATable
returns-in-ATable c = λ map.
    ok_all c.go.result _ _ _ _ c.go.ensures.pairs c.go.ensures.behind c.go.ensures.tables
    (λ pairs behind flags. subst (λ x. RecordsNext map (Reclaimed x) c.args.self.now c.go.new.self) (sym c.in-ATable.is)
    (λ place deferred tables tells. gone_tells c.args.self.now c.go.new.self place deferred tables tells c.in-ATable.table at.Handed refl at.IsReclaimed refl pairs behind flags c.go.ensures.places))
