-- The crew's ledger is the blank's, and its setup is the one that is given.
use Rattle.run_tests.proofs.crews.two.Given as goal

abbrev pub ghosts-by_two-N-CrewName : goal.ghosts-by_two-N-CrewName
ghosts-by_two-N-CrewName g a = record { setup = a.setup }

abbrev pub ghosts-by_two-N-Ledger : goal.ghosts-by_two-N-Ledger
ghosts-by_two-N-Ledger g a = record { name = a.blank.name; parts = a.blank.parts }
