use Rattle.threads_rule.specs.Given.ActsActs.{Remove}
use Rattle.threads_steps.proofs.within.Within.begins_to_remove.Given as goal

-- the pair of that key is to be removed
abbrev pub ghosts-begins_on_as : goal.ghosts-begins_on_as
ghosts-begins_on_as g a = record { wanted = Remove (g.Q.Equivalent.stands_for a._key.now) }
