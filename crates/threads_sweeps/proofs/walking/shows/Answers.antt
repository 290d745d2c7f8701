use Rattle.std.specs.Prelude.{Some, IsSome}
use Rattle.std.proofs.Common.{◌≡◌, ℕ, sym, subst, ap, ◌∙◌}
use Rattle.map_tables.specs.declared.node.Node.{Node}
use Rattle.threads_calls.specs.Given.ViewsLooks.{shown_in}
use Rattle.seize_words.proofs.General.{some_is}
use Rattle.threads_sweeps.proofs.Onlookers.{was_shown}
use Rattle.threads_sweeps.proofs.walking.shows.Goals as goal

pub value-requires : goal.value-requires
value-requires g c =
    subst (λ b. IsSome (shown_in c.args.within.now.seat.now.view.held b)) (sym c.block_of.ensures) (some_is _ _ c.requires.shown.2)

pub returns-clause-seen : goal.returns-clause-seen
returns-clause-seen g c =
    was_shown g.T.Onlooker.has_seen c.args.word c.args.within.now.seat.now.view c.args.onlooker.now _ _ _ c.sees.ensures.seen
    (subst (λ (b : ℕ). shown_in c.args.within.now.seat.now.view.held b ≡ Some c.value.result.now) c.block_of.ensures c.value.ensures
    ∙ ap (λ (x : Node g.row.K.Denot g.row.V.Denot). Some x) c.in-Pair.is)
