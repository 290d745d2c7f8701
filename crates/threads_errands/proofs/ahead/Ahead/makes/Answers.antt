use Rattle.std.specs.Prelude.{Ok}
use Rattle.std.proofs.Common.{ℕ, refl, sym, subst}
use Rattle.threads_errands.specs.Puts.{HasOwn}
use Rattle.threads_errands.proofs.Puts.{has_back, has_own}
use Rattle.threads_steps.specs.Storing.{making}
use Rattle.threads_errands.proofs.ahead.Ahead.makes.Goals as goal

pub make-requires : goal.make-requires
make-requires g c = let x = c.args in record { hasher = x._hasher.now; point = making x._setting x.hash x._there x.pair; ahead = c.requires.ahead; makes = refl }

-- its block is made
pub returns-in-Ok-clause-own : goal.returns-in-Ok-clause-own
returns-in-Ok-clause-own g c =
    let x = c.args in let made = has_own g.K.PartialEq.eq g.S.Hashes.hash x._hasher.now x._setting x.hash x._there x.pair c.in-Ok.block x.self.now c.make.new.self c.in-Ok.ensures c.requires.ahead in
    subst (λ (own : ℕ). HasOwn g.K.PartialEq.eq g.S.Hashes.hash x._hasher.now x._setting x.hash x._there x.pair (Ok own) x.self.now.seat.now.view c.make.new.self.seat.now.view) (sym c.link_to.ensures)
    made.0

pub returns-in-Ok-clause-same : goal.returns-in-Ok-clause-same
returns-in-Ok-clause-same g c = c.in-Ok.ensures.seat

-- or its pair has come back
pub returns-in-Err-clause-own : goal.returns-in-Err-clause-own
returns-in-Err-clause-own g c =
    let x = c.args in
    (has_back g.K.PartialEq.eq g.S.Hashes.hash x._hasher.now x._setting x.hash x._there x.pair c.in-Err.pair x.self.now c.make.new.self c.in-Err.ensures c.requires.ahead).0

pub returns-in-Err-clause-same : goal.returns-in-Err-clause-same
returns-in-Err-clause-same g c = c.in-Err.ensures.seat
