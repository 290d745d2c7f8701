use Rattle.seize_callers.proofs.Keeping.{none_away}
use Rattle.seize_words.specs.OneMemory.Word.{block_in}
use Rattle.seize_guards.proofs.Deferrals.{come_rests}
use Rattle.seize_guards.proofs.behind.takes.Goals as goal

pub errand-old-requires-clause-home : goal.errand-old-requires-clause-home
errand-old-requires-clause-home g c = none_away c.args.caller.now.seat.away c.args.caller.now.home

pub errand-old-requires-clause-ends : goal.errand-old-requires-clause-ends
errand-old-requires-clause-ends g c = λ answer w did. come_rests c.args.slot c.args.seen (block_in answer.0) w answer.1 did.0
