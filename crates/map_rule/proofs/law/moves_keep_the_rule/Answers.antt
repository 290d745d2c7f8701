-- Each change of the tables.
use Rattle.map_rule.proofs.History.History.{history_begins, history_kept}
use Rattle.map_rule.proofs.History.Leaving.{moves_leave}
use Rattle.map_rule.proofs.History.LeavingOn.{leaves_on}
use Rattle.map_rule.proofs.Moves.Promised.{moves_keep}
use Rattle.map_rule.proofs.Moves.RuleBegins.{rule_begins}
use Rattle.map_rule.proofs.Moves.SharesGiven.{none_given}
use Rattle.map_rule.proofs.law.moves_keep_the_rule.Goals as goal

pub returns : goal.returns
returns c d = record { begins = rule_begins; kept = moves_keep; starts = history_begins _; remembers = history_kept; leaves = moves_leave; on = leaves_on; shares = none_given }
