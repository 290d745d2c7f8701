-- Calls of many callers on one map.
use Rattle.many_calls.proofs.Together.Begins.{begins_together}
use Rattle.many_calls.proofs.Together.Stand.{stand_together}
use Rattle.many_calls.proofs.Together.Replies.{replies_stand_together}
use Rattle.many_calls.proofs.Together.Stepped.{rows_stand_together}
use Rattle.many_calls.proofs.Together.Guards.{guards_stand_together}
use Rattle.many_calls.proofs.Together.MapStands.{map_begins_together}
use Rattle.many_calls.proofs.law.calls_stand_together.Goals as goal

pub returns : goal.returns
returns c d = record { starts = map_begins_together _; begins = begins_together; steps = stand_together; replies = replies_stand_together; rows = rows_stand_together; guards = guards_stand_together }
