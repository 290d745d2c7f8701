use Rattle.seize_callers.proofs.Keeping.{none_away}
use Rattle.threads_errands.specs.Given.ActsActs.{RemoveIf}
use Rattle.threads_errands.specs.Given.StepsAsking.{MayTest, TestSays}
use Rattle.threads_callers.proofs.Rows.{rests_answered}
use Rattle.threads_callers.proofs.caller.MapCaller.removes_if.Goals as goal

pub errand-ran-requires-clause-home : goal.errand-ran-requires-clause-home
errand-ran-requires-clause-home g c = none_away c.args.self.now.seat.away c.args.self.now.home

pub errand-ran-requires-clause-asks : goal.errand-ran-requires-clause-asks
errand-ran-requires-clause-asks g c = (c.requires.may.0, c.requires.may.1, c.requires.callable)

pub errand-ran-requires-clause-ends : goal.errand-ran-requires-clause-ends
errand-ran-requires-clause-ends g c =
    λ answer w did.
    rests_answered g.K.PartialEq.eq g.S.Hashes.hash (TestSays (MayTest g.F.Fn c.args.test.now)) (RemoveIf (g.Q.Equivalent.stands_for c.args.key.now)) answer.told c.args.self.now.seat.view w
    c.requires.may.1.may.slot c.args.self.now.lone c.args.self.now.good c.requires.may.1.may.inside did
