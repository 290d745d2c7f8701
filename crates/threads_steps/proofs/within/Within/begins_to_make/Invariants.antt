use Rattle.threads_rule.specs.Errands.Making.{IsThis}
use Rattle.threads_steps.proofs.within.Within.begins_to_make.Given as goal

-- the map is made by that machine, with that hasher
abbrev pub ghosts-begins_to_make_as : goal.ghosts-begins_to_make_as
ghosts-begins_to_make_as g a = record { plans = IsThis a._own a._hasher.now a._opening.now }
