-- An effect is noted.
use Rattle.std.proofs.Common.{refl, sym, ap, subst, ◌∙◌}
use Rattle.run_schedules.specs.Schedules.Effects.{in_map}
use Rattle.run_schedules.specs.Schedules.Moment as at
use Rattle.run_effects.specs.Tallies.Tally.{RecordsNext}
use Rattle.run_effects.specs.declared.tally.Whereabouts.TheVariants.{Back, Waits}
use Rattle.run_effects.proofs.Tallies.Tallies.{behind_tells, gone_tells, linked_tells, ok_all, ok_both, ok_so, other_tells, put_tells, stored_so}
use Rattle.run_effects.proofs.tally.Tally.note.Goals as goal

pub returns-in-Stored : goal.returns-in-Stored
returns-in-Stored c =
    ok_so c.put.result _ _ c.put.ensures.pairs
    (λ pairs. subst (λ x. RecordsNext c.args.map x c.args.self.now c.put.new.self) (sym c.in-Stored.is)
    (λ place deferred tables tells. put_tells c.args.self.now c.put.new.self place deferred tables tells c.in-Stored.pair c.stored_in.result (in_map c.args.map) (c.stored_in.ensures ∙ stored_so c.args.map) pairs
    (ap (λ t. t.behind.items) c.put.ensures.rest) (ap (λ t. t.tables.items) c.put.ensures.rest) (ap (λ t. t.places) c.put.ensures.rest)))

pub returns-in-Replaced : goal.returns-in-Replaced
returns-in-Replaced c =
    ok_so c.put-in-Replaced.result _ _ c.put-in-Replaced.ensures.pairs
    (λ pairs. subst (λ x. RecordsNext c.args.map x c.args.self.now c.put-in-Replaced.new.self) (sym c.in-Replaced.is)
    (λ place deferred tables tells. put_tells c.args.self.now c.put-in-Replaced.new.self place deferred tables tells c.in-Replaced.pair Waits at.Out refl pairs
    (ap (λ t. t.behind.items) c.put-in-Replaced.ensures.rest) (ap (λ t. t.tables.items) c.put-in-Replaced.ensures.rest) (ap (λ t. t.places) c.put-in-Replaced.ensures.rest)))

pub returns-in-Removed : goal.returns-in-Removed
returns-in-Removed c =
    ok_so c.put-in-Removed.result _ _ c.put-in-Removed.ensures.pairs
    (λ pairs. subst (λ x. RecordsNext c.args.map x c.args.self.now c.put-in-Removed.new.self) (sym c.in-Removed.is)
    (λ place deferred tables tells. put_tells c.args.self.now c.put-in-Removed.new.self place deferred tables tells c.in-Removed.pair Waits at.Out refl pairs
    (ap (λ t. t.behind.items) c.put-in-Removed.ensures.rest) (ap (λ t. t.tables.items) c.put-in-Removed.ensures.rest) (ap (λ t. t.places) c.put-in-Removed.ensures.rest)))

pub returns-in-Deferred : goal.returns-in-Deferred
returns-in-Deferred c =
    ok_both c.put_behind.result _ _ _ c.put_behind.ensures.pairs c.put_behind.ensures.behind
    (λ pairs behind. subst (λ x. RecordsNext c.args.map x c.args.self.now c.put_behind.new.self) (sym c.in-Deferred.is)
    (λ place deferred tables tells. behind_tells c.args.self.now c.put_behind.new.self place deferred tables tells c.in-Deferred.pair c.in-Deferred.behind pairs behind (ap (λ v. v.items) c.put_behind.ensures.tables) c.put_behind.ensures.places))

pub returns-in-Retired : goal.returns-in-Retired
returns-in-Retired c =
    ok_so c.retire.result _ _ (c.retire.ensures c.args.map) (λ so. subst (λ x. RecordsNext c.args.map x c.args.self.now c.retire.new.self) (sym c.in-Retired.is) so)

pub returns-in-Reclaimed : goal.returns-in-Reclaimed
returns-in-Reclaimed c =
    ok_so c.reclaim.result _ _ (c.reclaim.ensures c.args.map) (λ so. subst (λ x. RecordsNext c.args.map x c.args.self.now c.reclaim.new.self) (sym c.in-Reclaimed.is) so)

pub returns-in-Ended : goal.returns-in-Ended
returns-in-Ended c =
    ok_so c.put-in-Ended.result _ _ c.put-in-Ended.ensures.pairs
    (λ pairs. subst (λ x. RecordsNext c.args.map x c.args.self.now c.put-in-Ended.new.self) (sym c.in-Ended.is)
    (λ place deferred tables tells. put_tells c.args.self.now c.put-in-Ended.new.self place deferred tables tells c.in-Ended.pair Back at.GivenBack refl pairs
    (ap (λ t. t.behind.items) c.put-in-Ended.ensures.rest) (ap (λ t. t.tables.items) c.put-in-Ended.ensures.rest) (ap (λ t. t.places) c.put-in-Ended.ensures.rest)))

pub returns-in-Taken : goal.returns-in-Taken
returns-in-Taken c =
    ok_all c.go.result _ _ _ _ c.go.ensures.pairs c.go.ensures.behind c.go.ensures.tables
    (λ pairs behind flags. subst (λ x. RecordsNext c.args.map x c.args.self.now c.go.new.self) (sym c.in-Taken.is)
    (λ place deferred tables tells. gone_tells c.args.self.now c.go.new.self place deferred tables tells c.in-Taken.table at.Left refl at.IsTaken refl pairs behind flags c.go.ensures.places))

pub returns-in-Linked : goal.returns-in-Linked
returns-in-Linked c =
    ok_both c.link.result _ _ _ c.link.ensures.tables c.link.ensures.places
    (λ flags places. subst (λ x. RecordsNext c.args.map x c.args.self.now c.link.new.self) (sym c.in-Linked.is)
    (λ place deferred tables tells. linked_tells c.args.self.now c.link.new.self place deferred tables tells c.in-Linked.table _ (ap (λ t. t.pairs.items) c.link.ensures.rest)
    (ap (λ t. t.behind.items) c.link.ensures.rest) flags places))

pub returns-in_default : goal.returns-in_default
returns-in_default c =
    let d = c.in_default in
    other_tells c.args.map c.args.self.now c.args.effect d.not-Stored d.not-Replaced d.not-Removed d.not-Deferred d.not-Retired d.not-Reclaimed d.not-Ended d.not-Taken d.not-Linked
