use Rattle.threads_rule.specs.Errands.Calling.{wanted_of}
use Rattle.threads_steps.proofs.within.Within.begins.Given as goal

-- what is wanted is what this call does
abbrev pub ghosts-begins_on_as : goal.ghosts-begins_on_as
ghosts-begins_on_as g a = record { wanted = wanted_of a._key.now }
