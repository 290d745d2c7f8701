-- Whole calls on one key for one owner.
use Rattle.owner_whole.proofs.Whole.Keys.AtEnds.{map_begins_at_rest, counts_at_end, counts_where_unchanged}
use Rattle.owner_whole.proofs.Whole.Keys.Begins.{calls_begin_alone}
use Rattle.owner_whole.proofs.Whole.Keys.Ends.{calls_come_to_an_end}
use Rattle.owner_whole.proofs.Whole.Keys.Replies.{replies_lead_on, replies_count_nothing}
use Rattle.owner_whole.proofs.Whole.Keys.Whole.{calls_go_on_alone}
use Rattle.owner_whole.proofs.law.whole.calls_run_whole.Goals as goal

pub returns : goal.returns
returns c d = record { starts = map_begins_at_rest; begins = calls_begin_alone; steps = calls_go_on_alone; replies = replies_lead_on; ends = calls_come_to_an_end; replies_count = replies_count_nothing; counted = counts_at_end; unchanged = counts_where_unchanged _ }
