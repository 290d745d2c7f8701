-- So many drivers have a part each, and no event is counted.
use Rattle.std.specs.Prelude.{◌≡◌, ◌+◌, [], map}
use Rattle.std.specs.List.{range_with_len}
use Rattle.run_names.proofs.crew.CrewOf.new.Given as goal

abbrev pub invariant-loop-number : goal.invariant-loop-number
invariant-loop-number g l =
    (l.all.parts + l.number ≡ l.fn.n) × (l.all.amount ≡ 0) × (l.drivers.items ≡ map (λ k. record { number = k; list = [] }) (range_with_len 0 l.number))
