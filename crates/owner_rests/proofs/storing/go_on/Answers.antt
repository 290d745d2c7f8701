-- It runs as it stands.
use Rattle.std.proofs.Common.{refl, sym, subst}
use Rattle.papaya_raw.specs.declared.machines.call.KeyCall.{KeyCall}
use Rattle.owner_calls.specs.Given.StridesEnding.{Ends}
use Rattle.owner_calls.specs.Owned.Machines.{on_call, on_key_plan}
use Rattle.owner_rests.specs.Rests.Storing.{StoresTo}
use Rattle.owner_rests.proofs.storing.go_on.Goals as goal

pub run_skimming-end-requires : goal.run_skimming-end-requires
run_skimming-end-requires g c =
    subst (λ (x : KeyCall g.row.K.Denot g.row.V.Denot g.row.K.Denot). Ends (on_key_plan g.K.PartialEq.eq g.K.PartialEq.eq g.S.Hashes.hash)
    (on_call c.args.hasher x) c.args.memory.now) (sym c.call_of-call.ensures) c.requires

pub returns : goal.returns
returns g c =
    subst (λ (x : KeyCall g.row.K.Denot g.row.V.Denot g.row.K.Denot). StoresTo g.K.PartialEq.eq g.S.Hashes.hash
    (on_call c.args.hasher x) c.args.memory.now c.run_skimming-end.new.memory (c.run_skimming-end.result, c.run_skimming-end.new.machine.unstored))
    c.call_of-call.ensures (c.run_skimming-end.new.machine, c.run_skimming-end.ensures, refl)
