use Rattle.std.proofs.Common.{◌∙◌}
use Rattle.threads_steps.specs.Storing.{making}
use Rattle.threads_errands.proofs.Puts.{stored_since}
use Rattle.threads_errands.proofs.ahead.Ahead.stores.Goals as goal

-- its block is made, and stored
pub puts_own-requires : goal.puts_own-requires
puts_own-requires g c = record { ahead = c.in-Ok.ensures.own.0.0 }

pub returns-in-Ok-clause-stored : goal.returns-in-Ok-clause-stored
returns-in-Ok-clause-stored g c =
    let x = c.args in let o = c.in-Ok.ensures.own in
    stored_since g.K.PartialEq.eq g.S.Hashes.hash x.hasher.now x.setting x.hash x.there (making x.setting x.hash x.there x.pair) c.in-Ok.own c.puts_own.result
    x.self.now.seat.now.view c.makes.new.self.seat.now.view c.puts_own.new.self.seat.now.view o.0.1 o.0.2 o.1 c.puts_own.ensures.stored

pub returns-in-Ok-clause-same : goal.returns-in-Ok-clause-same
returns-in-Ok-clause-same g c = c.puts_own.ensures.same ∙ c.in-Ok.ensures.same

-- or its pair has come back
pub returns-in-Err-clause-stored : goal.returns-in-Err-clause-stored
returns-in-Err-clause-stored g c = c.in-Err.ensures.own

pub returns-in-Err-clause-same : goal.returns-in-Err-clause-same
returns-in-Err-clause-same g c = c.in-Err.ensures.same
