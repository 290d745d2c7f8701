-- Its block is made, and it goes on from the root, or its pair comes back.
use Rattle.std.proofs.Common.{sym, subst}
use Rattle.papaya_raw.specs.CallPoints.{untried}
use Rattle.papaya_raw.specs.declared.machines.call.Calling.TheVariants as at
use Rattle.owner_calls.specs.Given.StridesEnding.{Ends}
use Rattle.owner_calls.specs.Owned.Machines.{on_key_plan}
use Rattle.owner_rests.specs.Rests.Storing.{StoresTo, with_own}
use Rattle.owner_rests.proofs.Rests.Straight.{made_ends, made_on, not_made}
use Rattle.owner_rests.proofs.storing.store.Goals as goal

pub from_root-requires : goal.from_root-requires
from_root-requires g c =
    let plan = on_key_plan {V = g.row.V.Denot} {Q = g.row.K.Denot} g.K.PartialEq.eq g.K.PartialEq.eq g.S.Hashes.hash in
    subst (λ own. Ends plan (with_own c.args.setting c.args.hasher c.args.hash c.args.there own untried at.Roots) c.make.new.self) (sym c.link_to-own.ensures)
    (made_ends g.K.PartialEq.eq g.S.Hashes.hash c.args.setting c.args.hasher c.args.hash c.args.there c.args.memory.now c.make.new.self c.args.key c.args.value c.in-Ok.block c.in-Ok.ensures.took c.requires)

pub returns-in-Ok : goal.returns-in-Ok
returns-in-Ok g c =
    made_on g.K.PartialEq.eq g.S.Hashes.hash c.args.setting c.args.hasher c.args.hash c.args.there c.args.memory.now c.make.new.self c.args.key c.args.value c.in-Ok.block c.in-Ok.ensures.took
    c.from_root.new.memory c.from_root.result
    (subst (λ own. StoresTo g.K.PartialEq.eq g.S.Hashes.hash (with_own c.args.setting c.args.hasher c.args.hash c.args.there own untried at.Roots) c.make.new.self c.from_root.new.memory c.from_root.result)
    c.link_to-own.ensures c.from_root.ensures)

pub returns-in-Err : goal.returns-in-Err
returns-in-Err g c =
    not_made g.K.PartialEq.eq g.S.Hashes.hash c.args.setting c.args.hasher c.args.hash c.args.there c.args.memory.now c.make.new.self c.args.key c.args.value c.in-Err.pair c.in-Err.ensures.took
