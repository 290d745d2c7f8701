-- The root is read, and its table's tries are made.
use Rattle.std.specs.Prelude.{◌≡◌, IsSome, Some}
use Rattle.std.proofs.Common.{sym, ◌∙◌, ap, subst}
use Rattle.map_tables.specs.Trials.{first_trial}
use Rattle.map_straight.specs.Straight.Looking.{sight_at}
use Rattle.map_straight.proofs.Straight.Looks as by
use Rattle.seize_straight.proofs.Running.{begins, next, on_from, reaches_to}
use Rattle.map_straight.proofs.looking.look_up.Goals as goal

pub load-link-requires : goal.load-link-requires
load-link-requires g c =
    (next (begins c.requires)).0

pub returns-then-link-eq0 : goal.returns-then-link-eq0
returns-then-link-eq0 g c =
    by.has_none (g.Q.Equivalent.equivalent c.args.asked.now) c.args.root c.args.mode c.args.hash c.requires c.load-link.ensures c.if-link-eq0.true

pub value-requires : goal.value-requires
value-requires g c =
    subst (λ b. IsSome (g.M.Look.shown c.load-link.new.self b)) (sym c.block_of.ensures) (by.sees_table (g.Q.Equivalent.equivalent c.args.asked.now) c.args.root c.args.mode c.args.hash c.requires c.load-link.ensures c.if-link-eq0.false)

pub look_on-requires : goal.look_on-requires
look_on-requires g c =
    on_from (by.enters (g.Q.Equivalent.equivalent c.args.asked.now) c.args.root c.args.mode c.args.hash c.requires c.load-link.ensures c.if-link-eq0.false c.value.result.now
    (subst (λ b. g.M.Look.shown c.load-link.new.self b ≡ Some c.value.result.now) c.block_of.ensures c.value.ensures) c.first.result (c.first.ensures ∙ ap (λ t. first_trial t c.args.hash) c.seen-table.ensures))

pub returns : goal.returns
returns g c =
    reaches_to (by.enters (g.Q.Equivalent.equivalent c.args.asked.now) c.args.root c.args.mode c.args.hash c.requires c.load-link.ensures c.if-link-eq0.false c.value.result.now
    (subst (λ b. g.M.Look.shown c.load-link.new.self b ≡ Some c.value.result.now) c.block_of.ensures c.value.ensures) c.first.result (c.first.ensures ∙ ap (λ t. first_trial t c.args.hash) c.seen-table.ensures))
    c.look_on.new.memory (sight_at c.args.root c.args.mode c.args.hash c.look_on.result) c.look_on.ensures
