use Rattle.std.proofs.Common.{refl, ◌∙◌, arith}
use Rattle.map_tables.specs.Chunks.{is_incremental}
use Rattle.map_straight.proofs.Shown.Onward.{none_here, one_here, none_left}
use Rattle.map_straight.proofs.places.next_in.Goals as goal

pub loop-at-init : goal.loop-at-init
loop-at-init g c = refl

pub returns-in-Some : goal.returns-in-Some
returns-in-Some g c =
    let l = c.loop-at-test.true in (
      omega (arith, l),
      one_here c.args.memory.now (is_incremental c.args.setting.mode) c.args.link c.args.len c.loop-at.at c.args.place l c.loop-at.invariant c.pair_at.result c.pair_at.ensures c.in-Some.key c.in-Some.value c.in-Some.is,
    )

pub loop-at-preserved : goal.loop-at-preserved
loop-at-preserved g c =
    none_here c.args.memory.now (is_incremental c.args.setting.mode) c.args.link c.args.len c.loop-at.at c.args.place c.loop-at-test.true c.loop-at.invariant c.pair_at.result c.pair_at.ensures c.in_default.is

pub returns : goal.returns
returns g c = c.loop-at.invariant ∙ none_left c.args.memory.now (is_incremental c.args.setting.mode) c.args.link c.args.len c.loop-at.at c.loop-at-test.false
