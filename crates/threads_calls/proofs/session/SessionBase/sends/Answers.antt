use Rattle.threads_callers.proofs.Rows.{rests_there}
use Rattle.threads_calls.proofs.session.SessionBase.sends.Goals as goal

pub sends-requires-clause-ends : goal.sends-requires-clause-ends
sends-requires-clause-ends g c =
    λ answer w did.
    let came = c.requires.ends answer w did in (rests_there c.args.self.now.caller.seat.view w c.args.self.now.slot c.args.self.now.caller.lone c.args.self.now.caller.good c.requires.inside came.0 came.1, came.1)
