use Rattle.threads_steps.specs.Given.ByKey.{key_call}
use Rattle.threads_steps.proofs.Forms.{call_leads_by, call_may_run_by}
use Rattle.threads_errands.specs.Ahead.{CanGo, HasGone, shown_ahead}
use Rattle.threads_errands.proofs.Standing.{led, may_run}
use Rattle.threads_errands.proofs.ahead.Ahead.helps.Goals as goal

pub help-requires : goal.help-requires
help-requires g c =
    call_may_run_by (CanGo g.K.PartialEq.eq g.S.Hashes.hash) (HasGone g.K.PartialEq.eq g.S.Hashes.hash) shown_ahead g.K.PartialEq.eq g.Q.Equivalent.equivalent g.Q.Equivalent.stands_for g.met.Q.Equivalent.stands
    (g.S.Hashes.hash c.args.hasher.now) c.args.call.now c.args.self.now
    (may_run g.K.PartialEq.eq g.S.Hashes.hash c.args.hasher.now (key_call g.Q.Equivalent.stands_for c.args.call.now) c.args.self.now c.requires.ahead)

pub returns-clause-ahead : goal.returns-clause-ahead
returns-clause-ahead g c =
    (led g.K.PartialEq.eq g.S.Hashes.hash c.args.hasher.now (key_call g.Q.Equivalent.stands_for c.args.call.now) (key_call g.Q.Equivalent.stands_for c.help.new.call) c.args.self.now c.help.new.memory
    (call_leads_by (CanGo g.K.PartialEq.eq g.S.Hashes.hash) (HasGone g.K.PartialEq.eq g.S.Hashes.hash) shown_ahead g.K.PartialEq.eq g.Q.Equivalent.equivalent g.Q.Equivalent.stands_for g.met.Q.Equivalent.stands
    (g.S.Hashes.hash c.args.hasher.now) c.args.call.now c.help.new.call c.args.self.now c.help.new.memory c.help.ensures) c.requires.ahead).at

pub returns-clause-stays : goal.returns-clause-stays
returns-clause-stays g c =
    (led g.K.PartialEq.eq g.S.Hashes.hash c.args.hasher.now (key_call g.Q.Equivalent.stands_for c.args.call.now) (key_call g.Q.Equivalent.stands_for c.help.new.call) c.args.self.now c.help.new.memory
    (call_leads_by (CanGo g.K.PartialEq.eq g.S.Hashes.hash) (HasGone g.K.PartialEq.eq g.S.Hashes.hash) shown_ahead g.K.PartialEq.eq g.Q.Equivalent.equivalent g.Q.Equivalent.stands_for g.met.Q.Equivalent.stands
    (g.S.Hashes.hash c.args.hasher.now) c.args.call.now c.help.new.call c.args.self.now c.help.new.memory c.help.ensures) c.requires.ahead).stays

pub returns-clause-them : goal.returns-clause-them
returns-clause-them g c =
    (led g.K.PartialEq.eq g.S.Hashes.hash c.args.hasher.now (key_call g.Q.Equivalent.stands_for c.args.call.now) (key_call g.Q.Equivalent.stands_for c.help.new.call) c.args.self.now c.help.new.memory
    (call_leads_by (CanGo g.K.PartialEq.eq g.S.Hashes.hash) (HasGone g.K.PartialEq.eq g.S.Hashes.hash) shown_ahead g.K.PartialEq.eq g.Q.Equivalent.equivalent g.Q.Equivalent.stands_for g.met.Q.Equivalent.stands
    (g.S.Hashes.hash c.args.hasher.now) c.args.call.now c.help.new.call c.args.self.now c.help.new.memory c.help.ensures) c.requires.ahead).calls

pub returns-clause-back : goal.returns-clause-back
returns-clause-back g c =
    (led g.K.PartialEq.eq g.S.Hashes.hash c.args.hasher.now (key_call g.Q.Equivalent.stands_for c.args.call.now) (key_call g.Q.Equivalent.stands_for c.help.new.call) c.args.self.now c.help.new.memory
    (call_leads_by (CanGo g.K.PartialEq.eq g.S.Hashes.hash) (HasGone g.K.PartialEq.eq g.S.Hashes.hash) shown_ahead g.K.PartialEq.eq g.Q.Equivalent.equivalent g.Q.Equivalent.stands_for g.met.Q.Equivalent.stands
    (g.S.Hashes.hash c.args.hasher.now) c.args.call.now c.help.new.call c.args.self.now c.help.new.memory c.help.ensures) c.requires.ahead).back

pub returns-clause-same : goal.returns-clause-same
returns-clause-same g c =
    (led g.K.PartialEq.eq g.S.Hashes.hash c.args.hasher.now (key_call g.Q.Equivalent.stands_for c.args.call.now) (key_call g.Q.Equivalent.stands_for c.help.new.call) c.args.self.now c.help.new.memory
    (call_leads_by (CanGo g.K.PartialEq.eq g.S.Hashes.hash) (HasGone g.K.PartialEq.eq g.S.Hashes.hash) shown_ahead g.K.PartialEq.eq g.Q.Equivalent.equivalent g.Q.Equivalent.stands_for g.met.Q.Equivalent.stands
    (g.S.Hashes.hash c.args.hasher.now) c.args.call.now c.help.new.call c.args.self.now c.help.new.memory c.help.ensures) c.requires.ahead).seat
