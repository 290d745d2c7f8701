-- The places that are copied are so by steps of the call, and so is a batch tried.
use Rattle.std.proofs.Common.{sym, subst}
use Rattle.papaya_raw.specs.declared.machines.call.Calling.{Calling}
use Rattle.papaya_raw.specs.declared.machines.call.Calling.TheVariants as at
use Rattle.map_straight.specs.Straight.Going.{CallLeads, MayCall}
use Rattle.map_straight.proofs.Straight.Disposals.{disposes_on, may_dispose}
use Rattle.seize_straight.specs.Runs.{none_taken}
use Rattle.threads_errands.proofs.Helps.{copies_on, may_copy}
use Rattle.threads_errands.proofs.helping.help.Goals as goal

pub copy_places-requires : goal.copy_places-requires
copy_places-requires g c = let x = c.args in
    may_copy g.M.Look.can g.M.Look.took g.M.Look.shown g.Q.Equivalent.equivalent g.K.PartialEq.eq (g.S.Hashes.hash x.hasher.now) x.call.now c.in-Helps.goal c.in-Helps.copier x.memory.now
    (subst (λ (s : Calling). MayCall g.Q.Equivalent.equivalent g.K.PartialEq.eq (g.S.Hashes.hash x.hasher.now) g.M.Look.took g.M.Look.shown g.M.Look.can (record x.call.now { stands = s }) x.memory.now)
    c.in-Helps.is c.requires)

pub returns-in-Helps : goal.returns-in-Helps
returns-in-Helps g c = let x = c.args in
    subst (λ (s : Calling). CallLeads g.Q.Equivalent.equivalent g.K.PartialEq.eq (g.S.Hashes.hash x.hasher.now) g.M.Look.took g.M.Look.shown (record x.call.now { stands = s }) x.memory.now
    (record x.call.now { stands = at.Helps c.copy_places.new.copier c.in-Helps.goal }) c.copy_places.new.memory) (sym c.in-Helps.is)
    (copies_on g.M.Look.can g.M.Look.took g.M.Look.shown g.Q.Equivalent.equivalent g.K.PartialEq.eq (g.S.Hashes.hash x.hasher.now) x.call.now c.in-Helps.goal c.in-Helps.copier
    c.copy_places.new.copier x.memory.now c.copy_places.new.memory c.copy_places.ensures)

pub try_batch-requires : goal.try_batch-requires
try_batch-requires g c = let x = c.args in
    may_dispose g.M.Look.can g.M.Look.took g.M.Look.shown g.Q.Equivalent.equivalent g.K.PartialEq.eq (g.S.Hashes.hash x.hasher.now) x.call.now c.in-Disposes.answer c.in-Disposes.dispose x.memory.now
    (subst (λ (s : Calling). MayCall g.Q.Equivalent.equivalent g.K.PartialEq.eq (g.S.Hashes.hash x.hasher.now) g.M.Look.took g.M.Look.shown g.M.Look.can (record x.call.now { stands = s }) x.memory.now)
    c.in-Disposes.is c.requires)

pub returns-in-Disposes : goal.returns-in-Disposes
returns-in-Disposes g c = let x = c.args in
    subst (λ (s : Calling). CallLeads g.Q.Equivalent.equivalent g.K.PartialEq.eq (g.S.Hashes.hash x.hasher.now) g.M.Look.took g.M.Look.shown (record x.call.now { stands = s }) x.memory.now
    (record x.call.now { stands = at.Disposes c.try_batch.new.dispose c.in-Disposes.answer }) c.try_batch.new.memory) (sym c.in-Disposes.is)
    (disposes_on g.M.Look.can g.M.Look.took g.M.Look.shown g.Q.Equivalent.equivalent g.K.PartialEq.eq (g.S.Hashes.hash x.hasher.now) x.call.now c.in-Disposes.answer c.in-Disposes.dispose
    c.try_batch.new.dispose x.memory.now c.try_batch.new.memory c.try_batch.ensures)

-- and no step is taken elsewhere
pub returns-in_default : goal.returns-in_default
returns-in_default g c = none_taken c.args.call.now c.args.memory.now
