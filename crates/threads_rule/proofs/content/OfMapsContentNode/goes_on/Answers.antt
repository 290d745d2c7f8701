use Rattle.threads_rule.proofs.Views.Contents.{seats_come_in, rows_go_on_in, rows_are_told, rows_turn_in, settlings_begin_in, looked_are_shown_in, leans_beside}
use Rattle.threads_rule.proofs.content.OfMapsContentNode.goes_on.Goals as goal

pub returns-clause-come : goal.returns-clause-come
returns-clause-come g c = seats_come_in _ _ _

pub returns-clause-rows : goal.returns-clause-rows
returns-clause-rows g c = rows_go_on_in _ _ _

pub returns-clause-told : goal.returns-clause-told
returns-clause-told g c = rows_are_told _ _ _

pub returns-clause-turn : goal.returns-clause-turn
returns-clause-turn g c = rows_turn_in _ _ _

pub returns-clause-settle : goal.returns-clause-settle
returns-clause-settle g c = settlings_begin_in _ _ _

pub returns-clause-looked : goal.returns-clause-looked
returns-clause-looked g c = looked_are_shown_in _ _ _

pub returns-clause-rest : goal.returns-clause-rest
returns-clause-rest g c = λ v rests. rests

pub returns-clause-leans : goal.returns-clause-leans
returns-clause-leans g c = leans_beside
