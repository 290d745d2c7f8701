-- Claims that are refused: one that is at its bound while a call is to claim there, and a call that comes to claim where no places are left.
use Rattle.std.specs.Prelude.{[], ◌∷◌}
use Rattle.std.proofs.Common.{◌≡◌, ℕ, ◌+◌, ◌*◌, ◌<◌, ◌^◌, refl, arith}
use Rattle.std.proofs.lemmas.List.Elements.{All-cons}
use Rattle.map_facts_late.specs.Given.ResizeCopierStates.{standing}
use Rattle.map_facts_late.specs.Given.ResizeDeclared.copier.Copier.{Copier}
use Rattle.map_facts_late.specs.Given.ResizeDeclared.copier.Copying.TheVariants as copies
use Rattle.map_facts_late.specs.Given.RawDeclared.machines.call.Calling.TheVariants as at
use Rattle.map_facts_late.specs.Given.RuleChart.{Chart}
use Rattle.many_calls.specs.Claims.{IsToClaim, ClaimsFit, ClaimsBy}

at_its_bound : {K : Type 0} (c : Chart K) (IsTo : ℕ → ℕ → Type 0) (t i : ℕ) → t < c.past → c.claim t ≡ 2 ^ 48 + 4096 * 2 ^ 32 → IsTo t i → ClaimsFit c IsTo → ⊥
at_its_bound c IsTo t i made full to fits =
    let most = fits t made (i ∷ []) (λ a b d l m. absurd (omega (arith, l, m))) (All-cons (IsTo t) i [] to (λ k d l. absurd (omega (arith, l)))) in omega (arith, most, full)

unseen : {K : Type 0} (c c2 : Chart K) (Was : ℕ → Type 0) (copier : Copier) → c2.claim copier.target.turn ≡ 2 ^ 48 → ClaimsBy c c2 Was (λ t. IsToClaim t (at.Copies (standing copier copies.Claims))) → ⊥
unseen c c2 Was copier full by = let few = by.sees copier.target.turn (refl, refl) in omega (arith, few, full)
