use Rattle.std.proofs.Common.{◌≡◌, map, take}
use Rattle.std.specs.List.{filter_map}
use Rattle.run_schedules.specs.Schedules.Runs.{pair_of}
use Rattle.reclaimed_engine.proofs.finals.in_order.Given as goal

abbrev pub invariant-loop-number : goal.invariant-loop-number
invariant-loop-number l = map (λ pair. pair.now) l.pairs.items ≡ filter_map (pair_of l.run) (take l.number-index l.numbers)
