use Rattle.std.specs.Prelude.{◌≡◌, ℕ, Some, IsSome}
use Rattle.std.proofs.Common.{refl, sym, subst, ap, ◌∙◌}
use Rattle.seize_words.specs.OneMemory.Word.{block_in}
use Rattle.seize_seats.specs.Seats.Lendings.{IsValueBy}
use Rattle.map_tables.specs.declared.node.Node.{Node}
use Rattle.threads_errands.specs.Given.ViewsLooks.{shown_in}
use Rattle.threads_errands.specs.Given.ViewsRule.{Holds}
use Rattle.threads_owners.proofs.lending.pair_on.Goals as goal

pub node_on-requires : goal.node_on-requires
node_on-requires g c = record {
  own = c.requires.own;
  one = c.requires.one;
  under = c.requires.under;
  map = c.requires.map;
  free = c.requires.free;
  shown = subst (λ (b : ℕ). IsSome (shown_in c.args.seat.now.view.held b)) (sym c.block_of.ensures) (subst IsSome (sym c.requires.shown.2) refl);
}

pub returns : goal.returns
returns g c =
    let s = c.args.seat.now in let k = c.args.guard.now.seat in let o = c.args.owner.now.seat in
    let Is = λ (b : ℕ) (n : Node g.row.K.Denot g.row.V.Denot).
    IsValueBy (Holds g.K.PartialEq.eq g.S.Hashes.hash c.args.guard.now.blocks.now.words.fixed) s.id s.view k.id k.view o.id o.view b n in (
      subst (λ (b : ℕ). shown_in s.view.held b ≡ Some c.node_on.result.now) c.block_of.ensures c.node_on.ensures.shown ∙ ap Some c.in-Pair.is,
      subst (λ (n : Node g.row.K.Denot g.row.V.Denot). Is (block_in c.args.word) n) c.in-Pair.is
          (subst (λ (b : ℕ). Is b c.node_on.result.now) c.block_of.ensures c.node_on.ensures.value),
    )
