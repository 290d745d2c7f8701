use Rattle.std.specs.Prelude.{ℕ, Some}
use Rattle.std.proofs.Common.{refl, subst, ap, ◌∙◌}
use Rattle.seize_words.specs.OneMemory.Word.{block_in}
use Rattle.seize_views.specs.Views.Chains.{IsChainRoot}
use Rattle.seize_views.specs.Views.Notes.{looked_at}
use Rattle.seize_guards.proofs.guard.unstacks.Goals as goal

-- where the chain has no block it has seen so at the root
pub returns-in_default-clause-taken : goal.returns-in_default-clause-taken
returns-in_default-clause-taken g c = λ chain.
    ap looked_at (c.stops.ensures.did ∙ c.sees_first-first.ensures.looked) ∙ ap (λ (b : ℕ). Some (c.args.root, b)) c.in_default.ensures.none

-- where it was too late it has seen which block is there
pub returns-in-Err-clause-taken : goal.returns-in-Err-clause-taken
returns-in-Err-clause-taken g c = (
  subst (λ b. IsChainRoot b.now.words.fixed c.args.root) c.opens.ensures.home (c.if-not-has_chain.ensures.is refl),
  (block_in c.in-Err.field-0, ap looked_at (c.stops-in-Err.ensures.did ∙ c.in-Err.ensures.looked)),
)
