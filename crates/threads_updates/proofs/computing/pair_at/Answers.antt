use Rattle.std.specs.Prelude.{ℕ, Some, IsSome}
use Rattle.std.proofs.Common.{◌≡◌, sym, subst, ◌∙◌}
use Rattle.threads_calls.specs.Given.ViewsLooks.{shown_in}
use Rattle.seize_words.proofs.General.{some_is}
use Rattle.threads_calls.proofs.Given.Pausing.{shown_pair}
use Rattle.threads_updates.proofs.computing.pair_at.Goals as goal

pub value-requires : goal.value-requires
value-requires g c =
    subst (λ (b : ℕ). IsSome (shown_in c.args.within.now.seat.now.view.held b)) (sym c.block_of.ensures) (some_is _ _ c.requires.shown.2)

pub returns : goal.returns
returns g c = record {
  is =
      λ key value e.
      let same = sym c.in-Pair.is ∙ shown_pair c.value.result.now key value
      (sym (subst (λ (b : ℕ). shown_in c.args.within.now.seat.now.view.held b ≡ Some c.value.result.now) c.block_of.ensures c.value.ensures) ∙ e) in (cc same, cc same);
}
