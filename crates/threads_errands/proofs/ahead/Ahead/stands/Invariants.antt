use Rattle.std.proofs.Common.{◌≡◌}
use Rattle.threads_steps.specs.Given.ByKey.{by_key}
use Rattle.threads_errands.proofs.ahead.Ahead.stands.Given as goal

-- the point is that of this machine
abbrev pub ghosts-stands_as : goal.ghosts-stands_as
ghosts-stands_as g a = record { point = λ machine. machine ≡ by_key g.Q.Equivalent.stands_for a._machine.now }
