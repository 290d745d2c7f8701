use Rattle.threads_errands.proofs.Puts.{from, has_put}
use Rattle.threads_errands.proofs.Standing.{may_run}
use Rattle.threads_errands.proofs.ahead.Ahead.puts.Goals as goal

pub store-requires : goal.store-requires
store-requires g c = let x = c.args in
    may_run g.K.PartialEq.eq g.S.Hashes.hash x.hasher.now (from g.K.PartialEq.eq g.S.Hashes.hash x.hasher.now x.setting x.hash x.there x.own) x.self.now c.requires.ahead

pub returns-clause-put : goal.returns-clause-put
returns-clause-put g c = let x = c.args in
    (has_put g.K.PartialEq.eq g.S.Hashes.hash x.hasher.now x.setting x.hash x.there x.own c.store.result x.self.now c.store.new.memory c.store.ensures c.requires.ahead).0

pub returns-clause-same : goal.returns-clause-same
returns-clause-same g c = let x = c.args in
    (has_put g.K.PartialEq.eq g.S.Hashes.hash x.hasher.now x.setting x.hash x.there x.own c.store.result x.self.now c.store.new.memory c.store.ensures c.requires.ahead).1
