use Rattle.papaya_raw.specs.CallPoints.{untried}
use Rattle.papaya_raw.specs.declared.machines.call.Calling.TheVariants as at
use Rattle.map_straight.specs.Straight.Removing.{seeking}
use Rattle.threads_steps.proofs.Forms.{call_may_run_by}
use Rattle.threads_errands.specs.Ahead.{CanGo, HasGone, shown_ahead}
use Rattle.threads_errands.proofs.Takes.{from_root, has_taken, taken_by}
use Rattle.threads_errands.proofs.Standing.{may_run}
use Rattle.threads_errands.proofs.ahead.Ahead.takes.Goals as goal

pub remove-requires : goal.remove-requires
remove-requires g c = let x = c.args in
    call_may_run_by (CanGo g.K.PartialEq.eq g.S.Hashes.hash) (HasGone g.K.PartialEq.eq g.S.Hashes.hash) shown_ahead g.K.PartialEq.eq g.Q.Equivalent.equivalent g.Q.Equivalent.stands_for g.met.Q.Equivalent.stands
    (g.S.Hashes.hash x.hasher.now) (seeking x.setting x.hash x.key.now untried at.Roots) x.self.now
    (may_run g.K.PartialEq.eq g.S.Hashes.hash x.hasher.now (from_root g.K.PartialEq.eq g.S.Hashes.hash x.hasher.now x.setting x.hash (g.Q.Equivalent.stands_for x.key.now)) x.self.now c.requires.ahead)

pub returns-clause-taken : goal.returns-clause-taken
returns-clause-taken g c = let x = c.args in
    (has_taken g.K.PartialEq.eq g.S.Hashes.hash x.hasher.now x.setting x.hash (g.Q.Equivalent.stands_for x.key.now) c.remove.result x.self.now c.remove.new.memory
    (taken_by g.K.PartialEq.eq g.S.Hashes.hash g.Q.Equivalent.equivalent g.Q.Equivalent.stands_for g.met.Q.Equivalent.stands x.hasher.now x.setting x.hash x.key.now c.remove.result x.self.now c.remove.new.memory c.remove.ensures)
    c.requires.ahead).0

pub returns-clause-same : goal.returns-clause-same
returns-clause-same g c = let x = c.args in
    (has_taken g.K.PartialEq.eq g.S.Hashes.hash x.hasher.now x.setting x.hash (g.Q.Equivalent.stands_for x.key.now) c.remove.result x.self.now c.remove.new.memory
    (taken_by g.K.PartialEq.eq g.S.Hashes.hash g.Q.Equivalent.equivalent g.Q.Equivalent.stands_for g.met.Q.Equivalent.stands x.hasher.now x.setting x.hash x.key.now c.remove.result x.self.now c.remove.new.memory c.remove.ensures)
    c.requires.ahead).1
