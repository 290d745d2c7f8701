-- The list of the slot is taken, and counted down, if there is one: the map has the same pairs.
use Rattle.owner_rests.proofs.Rests.Removals.{head_can, none_came, none_waits, counting_ends, counted_holds, counted_none, counted_refreshes, passed_refreshes}
use Rattle.owner_rests.proofs.changes.refresh.Goals as goal

pub swap-head-requires : goal.swap-head-requires
swap-head-requires g c = let r = c.requires in head_can _ _ c.args.setting c.args.memory.now c.args.memory.now r.0 r.1

pub returns-then-head-le-ACTIVE-clause-holds : goal.returns-then-head-le-ACTIVE-clause-holds
returns-then-head-le-ACTIVE-clause-holds g c = λ xs has. none_waits _ _ c.args.setting c.args.memory.now c.swap-head.new.self xs has c.swap-head.result c.swap-head.ensures c.if-head-le-ACTIVE.true

pub run_skimming-requires : goal.run_skimming-requires
run_skimming-requires g c =
    let r = c.requires in
    counting_ends _ _ c.args.setting c.args.memory.now c.swap-head.new.self r.0 r.1 c.swap-head.result c.swap-head.ensures c.if-head-le-ACTIVE.false _ c.count_down-settle.ensures

pub returns-clause-holds : goal.returns-clause-holds
returns-clause-holds g c = λ xs has.
    counted_holds _ _ c.args.setting c.args.memory.now c.swap-head.new.self xs has c.swap-head.result c.swap-head.ensures c.if-head-le-ACTIVE.false _ c.count_down-settle.ensures _ _ _ c.run_skimming.ensures

pub returns-then-head-le-ACTIVE-clause-none : goal.returns-then-head-le-ACTIVE-clause-none
returns-then-head-le-ACTIVE-clause-none g c =
    let r = c.requires in none_came _ _ c.args.setting c.args.memory.now c.swap-head.new.self r.0 r.1 c.swap-head.result c.swap-head.ensures c.if-head-le-ACTIVE.true

pub returns-clause-none : goal.returns-clause-none
returns-clause-none g c =
    let r = c.requires in
    counted_none _ _ c.args.setting c.args.memory.now c.swap-head.new.self r.0 r.1 c.swap-head.result c.swap-head.ensures c.if-head-le-ACTIVE.false _ c.count_down-settle.ensures _ _ _ c.run_skimming.ensures

pub returns-then-head-le-ACTIVE-clause-ran : goal.returns-then-head-le-ACTIVE-clause-ran
returns-then-head-le-ACTIVE-clause-ran g c =
    let r = c.requires in passed_refreshes _ _ c.args.setting c.args.memory.now c.swap-head.new.self r.0 r.1 c.swap-head.result c.swap-head.ensures c.if-head-le-ACTIVE.true

pub returns-clause-ran : goal.returns-clause-ran
returns-clause-ran g c =
    let r = c.requires in
    counted_refreshes _ _ c.args.setting c.args.memory.now c.swap-head.new.self r.0 r.1 c.swap-head.result c.swap-head.ensures c.if-head-le-ACTIVE.false _ c.count_down-settle.ensures _ _ _ c.run_skimming.ensures
