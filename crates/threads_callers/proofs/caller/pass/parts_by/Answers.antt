use Rattle.std.specs.Prelude.{◌≡◌, ℕ, Some, IsSome}
use Rattle.std.proofs.Common.{refl, sym, subst, ap, ◌∙◌}
use Rattle.seize_words.specs.OneMemory.Word.{block_in}
use Rattle.seize_seats.specs.Seats.Lendings.{IsValueBy}
use Rattle.map_tables.specs.declared.node.Node.{Node}
use Rattle.threads_errands.specs.Given.ViewsLooks.{shown_in}
use Rattle.threads_errands.specs.Given.ViewsRule.{Holds}
use Rattle.threads_callers.proofs.caller.pass.parts_by.Goals as goal

pub pair_by-requires : goal.pair_by-requires
pair_by-requires g c = record {
  own = c.requires.own;
  under = c.requires.under;
  map = c.requires.map;
  free = c.requires.free;
  shown = subst (λ (b : ℕ). IsSome (shown_in c.args.seat.now.view.held b)) (sym c.block_of.ensures) (subst IsSome (sym c.requires.shown.1.3) refl);
}

pub returns : goal.returns
returns g c =
    let s = c.args.seat.now in let k = c.args.guard.now in (
      subst (λ (b : ℕ). shown_in s.view.held b ≡ Some c.pair_by.result.now) c.block_of.ensures c.pair_by.ensures.shown ∙ ap Some c.in-Pair.is,
      subst (λ (n : Node g.row.K.Denot g.row.V.Denot). IsValueBy (Holds g.K.PartialEq.eq g.S.Hashes.hash c.args.blocks.now.words.fixed) s.id s.view k.id k.view k.id k.view (block_in c.args.word) n)
          c.in-Pair.is
          (subst (λ (b : ℕ). IsValueBy (Holds g.K.PartialEq.eq g.S.Hashes.hash c.args.blocks.now.words.fixed) s.id s.view k.id k.view k.id k.view b c.pair_by.result.now) c.block_of.ensures
          c.pair_by.ensures.value),
    )
