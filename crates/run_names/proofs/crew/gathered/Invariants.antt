-- With the shares of the drivers that are left it comes to all.
use Rattle.std.specs.Prelude.{◌≡◌, ◌+◌, length, sum_by}
use Rattle.run_names.proofs.crew.gathered.Given as goal

abbrev pub invariant-loop-driver : goal.invariant-loop-driver
invariant-loop-driver g l =
    (l.all.parts + length l.drivers.items ≡ length l.fn.drivers.items)
    × (l.all.amount + sum_by (λ d. length d.list) l.drivers.items ≡ sum_by (λ d. length d.list) l.fn.drivers.items)

abbrev pub decreases-loop-driver : goal.decreases-loop-driver
decreases-loop-driver g l = length l.drivers.items
