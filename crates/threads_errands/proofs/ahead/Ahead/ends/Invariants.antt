use Rattle.threads_errands.proofs.ahead.Ahead.ends.Given as goal

-- the answer is this one
abbrev pub ghosts-ends_as : goal.ghosts-ends_as
ghosts-ends_as g a = record { answer = a._answer }
