-- It goes on from where the straight code has stopped, or has ended there.
use Rattle.std.proofs.Common.{sym, subst}
use Rattle.papaya_raw.specs.CallPoints.{removing}
use Rattle.papaya_raw.specs.declared.machines.call.KeyCall.{KeyCall}
use Rattle.map_straight.specs.Straight.Removing.{removing_at, seeking}
use Rattle.owner_whole.specs.Strides.Ending.{Ends, RunsTo}
use Rattle.owner_calls.specs.Owned.Machines.{on_call, on_key_plan}
use Rattle.owner_calls.proofs.Owned.Straight.{ends_there, may_run, runs_out, runs_there}
use Rattle.owner_calls.proofs.removals.run_removal.Goals as goal

pub remove-requires : goal.remove-requires
remove-requires g c =
    may_run g.Q.Equivalent.equivalent g.K.PartialEq.eq g.S.Hashes.hash c.args.hasher (removing c.args.setting c.args.hash c.args.asked) c.args.memory.now c.requires

pub returns-in-Answered : goal.returns-in-Answered
returns-in-Answered g c =
    let r = runs_out g.Q.Equivalent.equivalent g.K.PartialEq.eq g.S.Hashes.hash c.args.hasher (removing c.args.setting c.args.hash c.args.asked) c.args.memory.now c.remove.new.memory c.in-Answered.answer c.in-Answered.ensures in
    (on_call c.args.hasher r.0, r.1)

pub run_skimming-requires : goal.run_skimming-requires
run_skimming-requires g c =
    subst (λ (x : KeyCall g.row.K.Denot g.row.V.Denot g.row.Q.Denot). Ends (on_key_plan g.Q.Equivalent.equivalent g.K.PartialEq.eq g.S.Hashes.hash) (on_call c.args.hasher x) c.remove.new.memory) (sym c.removal_of-call.ensures)
    (ends_there g.Q.Equivalent.equivalent g.K.PartialEq.eq g.S.Hashes.hash c.args.hasher (removing c.args.setting c.args.hash c.args.asked)
    (seeking c.args.setting c.args.hash c.args.asked c.in-Stands.trial (removing_at c.args.setting c.in-Stands.trial c.in-Stands.removal)) c.args.memory.now c.remove.new.memory c.in-Stands.ensures c.requires)

pub returns-in-Stands : goal.returns-in-Stands
returns-in-Stands g c = (
  c.run_skimming.new.machine,
  runs_there g.Q.Equivalent.equivalent g.K.PartialEq.eq g.S.Hashes.hash c.args.hasher (removing c.args.setting c.args.hash c.args.asked)
      (seeking c.args.setting c.args.hash c.args.asked c.in-Stands.trial (removing_at c.args.setting c.in-Stands.trial c.in-Stands.removal)) c.args.memory.now c.remove.new.memory c.in-Stands.ensures
      c.run_skimming.new.machine c.run_skimming.new.memory c.run_skimming.result
      (subst (λ (x : KeyCall g.row.K.Denot g.row.V.Denot g.row.Q.Denot). RunsTo (on_key_plan g.Q.Equivalent.equivalent g.K.PartialEq.eq g.S.Hashes.hash) (on_call c.args.hasher x) c.remove.new.memory
      c.run_skimming.new.machine c.run_skimming.new.memory c.run_skimming.result) c.removal_of-call.ensures c.run_skimming.ensures),
)
