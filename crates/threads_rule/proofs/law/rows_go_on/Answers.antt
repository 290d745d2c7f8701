use Rattle.threads_rule.proofs.Views.Rows.{rows_go_on, rows_turn, settlings_begin, looked_are_shown}
use Rattle.threads_rule.proofs.law.rows_go_on.Goals as goal

pub returns-clause-on : goal.returns-clause-on
returns-clause-on g c = rows_go_on _

pub returns-clause-turn : goal.returns-clause-turn
returns-clause-turn g c = rows_turn _

pub returns-clause-settle : goal.returns-clause-settle
returns-clause-settle g c = settlings_begin _

pub returns-clause-looked : goal.returns-clause-looked
returns-clause-looked g c = looked_are_shown _
