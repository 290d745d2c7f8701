use Rattle.std.specs.Prelude.{◌≡◌, ℕ, Some, IsSome}
use Rattle.std.proofs.Common.{refl, sym, subst, ap, ◌∙◌}
use Rattle.seize_words.specs.OneMemory.Word.{block_in}
use Rattle.seize_blocks.specs.Given.SeizeSeatsLendings.{IsValueOf}
use Rattle.map_tables.specs.declared.node.Node.{Node}
use Rattle.threads_callers.specs.Given.ViewsLooks.{shown_in}
use Rattle.threads_callers.specs.Given.ViewsRule.{Holds}
use Rattle.threads_calls.proofs.session.SessionBase.pair.Goals as goal

pub pair-requires : goal.pair-requires
pair-requires g c = record {
  shown =
      subst (λ (b : ℕ). IsSome (shown_in c.args.self.now.caller.seat.view.held b)) (sym c.block_of.ensures) (subst IsSome (sym c.requires.shown.2) refl);
}

pub returns : goal.returns
returns g c =
    let x = c.args.self.now.caller in (
      subst (λ (b : ℕ). shown_in x.seat.view.held b ≡ Some c.pair.result.now) c.block_of.ensures c.pair.ensures.shown ∙ ap Some c.in-Pair.is,
      subst (λ (n : Node g.row.K.Denot g.row.V.Denot). IsValueOf (Holds g.K.PartialEq.eq g.S.Hashes.hash x.blocks.now.words.fixed) x.seat.id x.seat.view (block_in c.args.found.word) n)
          c.in-Pair.is
          (subst (λ (b : ℕ). IsValueOf (Holds g.K.PartialEq.eq g.S.Hashes.hash x.blocks.now.words.fixed) x.seat.id x.seat.view b c.pair.result.now) c.block_of.ensures c.pair.ensures.value),
    )
