use Rattle.threads_steps.specs.Made.{IsSameSeat}
use Rattle.threads_rule.specs.Errands.Making.{MakesMap, KnowsAlike}
use Rattle.threads_kinds.specs.Makings.{chosen_of, left_of}
use Rattle.threads_steps.proofs.within.Within.goes_on.Given as goal
use Rattle.threads_rule.specs.Views.Rule.{side_of}
use Rattle.std.proofs.Common.{◌≡◌}

-- the making goes on, with what was chosen
abbrev pub invariant-loop-setting : goal.invariant-loop-setting
invariant-loop-setting g l =
    MakesMap l.fn.own l.fn._hasher l.opening l.self.seat.now.view × (chosen_of l.opening.setting ≡ chosen_of l.initial.opening.setting)
    × KnowsAlike l.initial.self.seat.now.view l.self.seat.now.view × (side_of l.self.seat.now.view ≡ side_of l.initial.self.seat.now.view) × IsSameSeat l.initial.self l.self
    × (l.self.seat.now.view.calls ≡ l.initial.self.seat.now.view.calls)

abbrev pub decreases-loop-setting : goal.decreases-loop-setting
decreases-loop-setting g l = left_of l.opening
