-- The tries so far have led to the present one.
use Rattle.std.proofs.Common.{◌≡◌}
use Rattle.papaya_raw.specs.declared.machines.call.Calling.TheVariants as at
use Rattle.owner_whole.specs.Strides.Ending.{Leads}
use Rattle.owner_calls.specs.Owned.Machines.{at_trial, on_key_plan}
use Rattle.owner_calls.specs.declared.machines.OnKey.{OnKey}
use Rattle.owner_calls.proofs.calls.last_try.Given as goal

abbrev pub invariant-loop : goal.invariant-loop
invariant-loop g l = record {
  leads : (u : OnKey g.row.K.Denot g.row.V.Denot g.row.Q.Denot g.row.S.Denot) → u.call.stands ≡ at.Probes → u.call.hash ≡ l.hash → u.call.setting.mode ≡ l.mode
      → Leads (on_key_plan g.Q.Equivalent.equivalent g.K.PartialEq.eq g.S.Hashes.hash) (at_trial u l.fn.first) l.memory (at_trial u l.trial) l.memory;
}
