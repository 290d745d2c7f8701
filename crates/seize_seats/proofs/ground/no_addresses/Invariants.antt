use Rattle.std.proofs.Common.{◌≡◌, length}
use Rattle.seize_seats.proofs.ground.no_addresses.Given as goal

-- there are as many so far
abbrev pub invariant-loop : goal.invariant-loop
invariant-loop l = length l.all.items ≡ l.counter
