-- A machine that takes the step of one inside it comes to what its own function makes of that one's outcome.
use Rattle.std.specs.Prelude.{◌≡◌, ℕ, Option}
use Rattle.std.proofs.Common.{subst, sym}
use Rattle.seize_words.specs.OneMemory.Op.{Op, Out}
use Rattle.seize_words.specs.OneMemory.Plan.{Plan, Steps, plan_as}
use Rattle.seize_words.proofs.OneMemory.Plans.{steps_as}

module _ {T A B M : Type 0} (f : A → B) (can : M → Op T → Type 0) (took : M → Op T → Out T → M → Type 0) (shown : M → ℕ → Option T) where
  -- the inner step was taken, and the outer one came to this
  pub steps_into : (m n : M) (plan : Plan T A) (end : A) (into : B) → into ≡ f end → Steps took shown m plan n end
      → Steps took shown m (plan_as f plan) n into
  steps_into m n plan end into made s =
      subst (λ (b : B). Steps took shown m (plan_as f plan) n b) (sym made) (steps_as f can took shown m n plan end s)
