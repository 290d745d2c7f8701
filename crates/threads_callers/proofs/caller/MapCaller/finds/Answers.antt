use Rattle.seize_callers.proofs.Keeping.{none_away}
use Rattle.threads_callers.proofs.Rows.{rests_inside}
use Rattle.threads_callers.proofs.caller.MapCaller.finds.Goals as goal

pub errand-requires-clause-home : goal.errand-requires-clause-home
errand-requires-clause-home g c = none_away c.args.self.now.seat.away c.args.self.now.home

pub errand-requires-clause-ends : goal.errand-requires-clause-ends
errand-requires-clause-ends g c = λ answer w did. rests_inside g.K.PartialEq.eq g.S.Hashes.hash (g.Q.Equivalent.stands_for c.args.key.now) answer c.args.self.now.seat.view w c.requires.may.slot c.args.self.now.lone c.args.self.now.good c.requires.may.inside did
