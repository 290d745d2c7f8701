-- The crew's ledger is the blank's, and its setup is the one that is given.
use Rattle.run_tests.proofs.crews.one.Given as goal

abbrev pub ghosts-by_one-N-CrewName : goal.ghosts-by_one-N-CrewName
ghosts-by_one-N-CrewName g a = record { setup = a.setup }

abbrev pub ghosts-by_one-N-Ledger : goal.ghosts-by_one-N-Ledger
ghosts-by_one-N-Ledger g a = record { name = a.blank.name; parts = a.blank.parts }
