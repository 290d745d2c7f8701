-- The pair is retired at once where no older table may name it, and else by what the root says.
use Rattle.std.proofs.Common.{sym, ◌∙◌, ap, subst}
use Rattle.std.specs.Prelude.{◌≡◌, IsSome, Some}
use Rattle.map_tables.specs.declared.table.Table.{Table}
use Rattle.map_straight.proofs.Straight.Disposals as by
use Rattle.seize_straight.proofs.Running.{next, on_from, reaches_to}
use Rattle.map_straight.proofs.disposing.dispose.Given as given
use Rattle.map_straight.proofs.disposing.dispose.Goals as goal
use Rattle.map_straight.proofs.disposing.dispose.Goals.{After-value}

rooted : (g : given.Over) (c : goal.After-value g) → by.HasRoot g.M.Look.can g.M.Look.took g.M.Look.shown c.args.setting c.args.word c.args.table c.args.memory.now c.load-root.new.self c.load-root.result c.value.result.now
rooted g c = record {
  lent = sym c.is_borrowed.ensures ∙ c.if-not-is_borrowed.false;
  run = c.requires;
  loads = c.load-root.ensures;
  shows = subst (λ b. g.M.Look.shown c.load-root.new.self b ≡ Some c.value.result.now) c.block_of.ensures c.value.ensures;
}

pub retire_pair-requires : goal.retire_pair-requires
retire_pair-requires g c =
    by.may_begin c.args.setting c.args.word c.args.table (sym c.is_borrowed.ensures ∙ c.if-not-is_borrowed.true) c.requires

pub returns-then-not-is_borrowed : goal.returns-then-not-is_borrowed
returns-then-not-is_borrowed g c =
    by.has_retired g.M.Look.took g.M.Look.shown c.args.setting c.args.word c.args.table (sym c.is_borrowed.ensures ∙ c.if-not-is_borrowed.true) c.args.memory.now c.retire_pair.new.memory c.retire_pair.result c.retire_pair.ensures

pub load-root-requires : goal.load-root-requires
load-root-requires g c =
    (next (by.to_read c.args.setting c.args.word c.args.table (sym c.is_borrowed.ensures ∙ c.if-not-is_borrowed.false) c.requires)).0

pub value-requires : goal.value-requires
value-requires g c =
    subst (λ b. IsSome (g.M.Look.shown c.load-root.new.self b)) (sym c.block_of.ensures)
    ((next (by.to_read c.args.setting c.args.word c.args.table (sym c.is_borrowed.ensures ∙ c.if-not-is_borrowed.false) c.requires)).1 _ _ c.load-root.ensures).0

pub returns-then-turn-table : goal.returns-then-turn-table
returns-then-turn-table g c =
    by.to_walk c.args.setting c.args.word c.args.table (rooted g (goal.at.returns-then-turn-table g c).After-value) c.seen-turn.result.turn (ap (λ (t : Table). t.turn) c.seen-turn.ensures) c.if-turn-table.true

pub retire_pair-requires-2 : goal.retire_pair-requires-2
retire_pair-requires-2 g c =
    on_from (by.to_retire c.args.setting c.args.word c.args.table (rooted g (goal.at.retire_pair-requires-2 g c).After-value) c.seen-turn.result.turn (ap (λ (t : Table). t.turn) c.seen-turn.ensures) c.if-turn-table.false)

pub returns : goal.returns
returns g c =
    reaches_to (by.to_retire c.args.setting c.args.word c.args.table (rooted g (goal.at.returns g c).After-value) c.seen-turn.result.turn (ap (λ (t : Table). t.turn) c.seen-turn.ensures) c.if-turn-table.false)
    c.retire_pair-2.new.memory _ c.retire_pair-2.ensures
