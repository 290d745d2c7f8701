use Rattle.threads_steps.proofs.within.Within.asks_next.Given as goal

-- what is asked is this call
abbrev pub ghosts-asks_as : goal.ghosts-asks_as
ghosts-asks_as g a = record { machine = a._machine.now }
