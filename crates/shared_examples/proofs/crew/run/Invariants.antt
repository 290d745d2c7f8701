-- The crew's ledger is the blank's, and its setup the one with which it is made.
use Rattle.shared_examples.proofs.crew.run.Given as goal

abbrev pub ghosts-by_four-N-CrewName : goal.ghosts-by_four-N-CrewName
ghosts-by_four-N-CrewName g a = record { setup = record { batch_size = 1; processors = 4; roots = 1 } }

abbrev pub ghosts-by_four-N-Ledger : goal.ghosts-by_four-N-Ledger
ghosts-by_four-N-Ledger g a = record { name = a.blank.name; parts = a.blank.parts }
