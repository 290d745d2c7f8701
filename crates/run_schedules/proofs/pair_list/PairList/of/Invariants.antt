use Rattle.std.specs.Prelude.{◌≡◌, ◌++◌}
use Rattle.run_schedules.proofs.pair_list.PairList.of.Given as goal

-- with the pairs that are left it comes to all
abbrev pub invariant-loop-pair : goal.invariant-loop-pair
invariant-loop-pair g l = l.list ++ l.pair-iterator.rest.items ≡ l.fn.pairs.items
