use Rattle.threads_steps.proofs.within.Within.keeps.Given as goal

-- what is told is this, to this call
abbrev pub ghosts-tells_as : goal.ghosts-tells_as
ghosts-tells_as g a = record { machine = a._machine.now; reply = a._reply.now }
