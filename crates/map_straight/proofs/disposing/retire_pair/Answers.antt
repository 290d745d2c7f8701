-- The retirement of a pair is part of its disposal.
use Rattle.std.proofs.Common.{sym, subst}
use Rattle.seize.specs.Settle.{retiring}
use Rattle.map_tables.specs.Nodes.{deferred_word}
use Rattle.seize_straight.specs.Going.{MaySettle, SettleReaches}
use Rattle.seize_straight.specs.Retiring.{retired}
use Rattle.map_straight.proofs.Straight.Disposals.{may_retire, pair_retired}
use Rattle.map_straight.proofs.disposing.retire_pair.Goals as goal

pub retire-retired-requires : goal.retire-retired-requires
retire-retired-requires g c =
    subst (λ l. MaySettle deferred_word g.M.Look.took g.M.Look.shown g.M.Look.can (retiring c.args.setting.slot c.args.setting.batch_size l) c.args.memory.now) (sym c.link_of-pair.ensures)
    (may_retire g.M.Look.can g.M.Look.took g.M.Look.shown c.args.setting c.args.word c.args.table c.args.memory.now c.requires)

pub returns : goal.returns
returns g c =
    let s = c.args.setting in
    pair_retired g.M.Look.can g.M.Look.took g.M.Look.shown s c.args.word c.args.table c.args.memory.now c.retire-retired.new.memory c.retire-retired.result
    (subst (λ l. SettleReaches deferred_word g.M.Look.took g.M.Look.shown (retiring s.slot s.batch_size l) c.args.memory.now c.retire-retired.new.memory
    (retired s.slot s.batch_size l c.retire-retired.result)) c.link_of-pair.ensures c.retire-retired.ensures)
