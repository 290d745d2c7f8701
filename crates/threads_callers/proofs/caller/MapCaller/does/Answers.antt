use Rattle.seize_callers.proofs.Keeping.{none_away}
use Rattle.threads_errands.specs.Given.ErrandsCalling.{wanted_of}
use Rattle.threads_callers.proofs.Rows.{rests_called}
use Rattle.threads_callers.proofs.caller.MapCaller.does.Goals as goal

pub errand-ran-requires-clause-home : goal.errand-ran-requires-clause-home
errand-ran-requires-clause-home g c = none_away c.args.self.now.seat.away c.args.self.now.home

pub errand-ran-requires-clause-ends : goal.errand-ran-requires-clause-ends
errand-ran-requires-clause-ends g c =
    λ answer w did.
    rests_called g.K.PartialEq.eq g.S.Hashes.hash (wanted_of c.args.machine) answer.told answer.unstored c.args.self.now.seat.view w c.requires.may.may.slot c.args.self.now.lone c.args.self.now.good c.requires.may.may.inside did.0

pub returns-clause-called : goal.returns-clause-called
returns-clause-called g c = c.errand-ran.ensures.did.0

pub returns-clause-fits : goal.returns-clause-fits
returns-clause-fits g c = c.errand-ran.ensures.did.1
