-- The sessions that are still to come.
use Rattle.papaya_json_tests.proofs.refused.+follow.Given as goal

abbrev pub decreases-follow : goal.decreases-follow
decreases-follow g l = l.left
