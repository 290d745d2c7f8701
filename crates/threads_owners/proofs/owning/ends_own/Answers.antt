use Rattle.seize_callers.proofs.Keeping.{none_away}
use Rattle.threads_owners.proofs.Rests.{rests_ended}
use Rattle.threads_owners.proofs.owning.ends_own.Goals as goal

pub errand-requires-clause-home : goal.errand-requires-clause-home
errand-requires-clause-home g c = none_away c.args.caller.now.seat.away c.args.caller.now.home

pub errand-requires-clause-asks : goal.errand-requires-clause-asks
errand-requires-clause-asks g c = (c.requires.rests, c.requires.free, c.requires.owns)

pub errand-requires-clause-ends : goal.errand-requires-clause-ends
errand-requires-clause-ends g c = λ answer w did. rests_ended c.args.caller.now.seat.view w c.args.caller.now.lone c.args.caller.now.good c.requires.rests did
