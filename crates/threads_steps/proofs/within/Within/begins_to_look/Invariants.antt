use Rattle.threads_rule.specs.Given.ActsActs.{Get}
use Rattle.threads_steps.proofs.within.Within.begins_to_look.Given as goal

-- what is wanted is that key
abbrev pub ghosts-begins_on_as : goal.ghosts-begins_on_as
ghosts-begins_on_as g a = record { wanted = Get (g.Q.Equivalent.stands_for a._key.now) }
