use Rattle.threads_rule.proofs.Views.Calls.{calls_go_on, calls_turn}
use Rattle.threads_rule.proofs.Views.Held.{held_are_shown}
use Rattle.threads_rule.proofs.Views.Starts.{rules_start, seats_come}
use Rattle.threads_rule.proofs.law.calls_go_on.Goals as goal

pub returns-clause-starts : goal.returns-clause-starts
returns-clause-starts g c = rules_start _

pub returns-clause-come : goal.returns-clause-come
returns-clause-come g c = seats_come _

pub returns-clause-on : goal.returns-clause-on
returns-clause-on g c = calls_go_on _

pub returns-clause-turn : goal.returns-clause-turn
returns-clause-turn g c = calls_turn _

pub returns-clause-held : goal.returns-clause-held
returns-clause-held g c = held_are_shown _
