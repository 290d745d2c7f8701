use Rattle.map_measures.specs.ByKey.ByKey.{by_key}
use Rattle.threads_steps.proofs.within.Within.tells_by.Given as goal

-- what is told is this, to this call
abbrev pub ghosts-tells_as : goal.ghosts-tells_as
ghosts-tells_as g a = record { machine = by_key g.Q.Equivalent.stands_for a._machine.now; reply = a._reply.now }
