use Rattle.std.proofs.Common.{refl, subst, ap, ◌∙◌}
use Rattle.seize_words.specs.OneMemory.Word.{block_in}
use Rattle.seize_views.specs.Views.Chains.{IsChainRoot}
use Rattle.seize_views.specs.Views.Notes.{looked_at}
use Rattle.seize_guards.proofs.guard.looks_below.Goals as goal

-- where nothing is told it has looked at the root, and at nothing else there
pub returns-in_default-clause-looked : goal.returns-in_default-clause-looked
returns-in_default-clause-looked g c = λ chain.
    let first = c.sees_first-first in (block_in first.result, ap looked_at (c.stops.ensures.did ∙ first.ensures.looked))

pub returns-in_default-named-clause-looked : goal.returns-in_default-named-clause-looked
returns-in_default-named-clause-looked g c = λ chain.
    let first = c.sees_first-first in
    (block_in first.result, ap looked_at (c.stops-in_default-named.ensures.did ∙ c.sees_link-link.ensures.did ∙ first.ensures.looked))

pub returns-clause-looked : goal.returns-clause-looked
returns-clause-looked g c =
    let first = c.sees_first-first in let block = c.in-Some.ensures.some in (
      subst (λ b. IsChainRoot b.now.words.fixed c.args.root) c.opens.ensures.home (c.if-not-has_chain.ensures.is refl),
      (
        block_in first.result,
        (λ e. block.2 (block.0 ∙ e)),
        ap looked_at (c.stops-2.ensures.did ∙ c.goes_down.ensures.did ∙ c.sees_link-link.ensures.did ∙ first.ensures.looked),
      ),
    )
