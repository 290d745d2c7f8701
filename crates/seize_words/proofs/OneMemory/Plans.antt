-- Steps by their plans, in any memory: a machine that takes the step of a machine inside it, and choices.
use Rattle.std.specs.Prelude.{◌≡◌, ℕ, Option, Bool, true, false, if◌then◌else◌, ◌⊎◌, refl}
use Rattle.std.proofs.Common.{ap, inl, inr}
use Rattle.seize_words.specs.OneMemory.Op.{Op, Out}
use Rattle.seize_words.specs.OneMemory.Plan.{Plan, Then, Turn, Do, Now, Seeing, Sure, May, MaySee, Steps, Ends, then_as, plan_as}

module _ {T A B : Type 0} (f : A → B) where
  see_as : (shown : ℕ → Option T) (rest : Then T A) → MaySee shown (then_as f rest) → MaySee shown rest
  see_as shown (Now end) may = tt
  see_as shown (Seeing block rest) may = (may.0, λ value is. see_as shown (rest value) (may.1 value is))
  see_as shown (Sure fact rest) may = (may.0, see_as shown rest may.1)

  as_see : (shown : ℕ → Option T) (rest : Then T A) → MaySee shown rest → MaySee shown (then_as f rest)
  as_see shown (Now end) may = tt
  as_see shown (Seeing block rest) may = (may.0, λ value is. as_see shown (rest value) (may.1 value is))
  as_see shown (Sure fact rest) may = (may.0, as_see shown rest may.1)

  ends_as : (shown : ℕ → Option T) (rest : Then T A) (end : A) → Ends shown rest end → Ends shown (then_as f rest) (f end)
  ends_as shown (Now r) end ends = ap f ends
  ends_as shown (Seeing block rest) end ends = (ends.0, ends.1, ends_as shown (rest ends.0) end ends.2)
  ends_as shown (Sure fact rest) end ends = ends_as shown rest end ends

  module _ {M : Type 0} (can : M → Op T → Type 0) (took : M → Op T → Out T → M → Type 0) (shown : M → ℕ → Option T) where
    -- where the outer step may be taken, the inner one may
    pub may_as : (m : M) (plan : Plan T A) → May can took shown m (plan_as f plan) → May can took shown m plan
    may_as m (Turn rest) may = see_as (shown m) rest may
    may_as m (Do op rest) may = (may.0, λ out n t. see_as (shown n) (rest out) (may.1 out n t))

    -- and where the inner one may, the outer one may
    pub as_may : (m : M) (plan : Plan T A) → May can took shown m plan → May can took shown m (plan_as f plan)
    as_may m (Turn rest) may = as_see (shown m) rest may
    as_may m (Do op rest) may = (may.0, λ out n t. as_see (shown n) (rest out) (may.1 out n t))

    -- where the inner step was taken, the outer one was, with its outcome turned
    pub steps_as : (m n : M) (plan : Plan T A) (end : A) → Steps took shown m plan n end → Steps took shown m (plan_as f plan) n (f end)
    steps_as m n (Turn rest) end s = (s.0, ends_as (shown n) rest end s.1)
    steps_as m n (Do op rest) end s = (s.0, s.1, ends_as (shown n) (rest s.0) end s.2)

module _ {T R : Type 0} where
  -- a choice, by its two cases
  pub see_if : (shown : ℕ → Option T) (b : Bool) (x y : Then T R) → (b ≡ true → MaySee shown x) → (b ≡ false → MaySee shown y)
      → MaySee shown (if b then x else y)
  see_if shown true x y f g = f refl
  see_if shown false x y f g = g refl

  pub ends_if : (shown : ℕ → Option T) (b : Bool) (x y : Then T R) (end : R) → Ends shown (if b then x else y) end
      → ((b ≡ true) × Ends shown x end) ⊎ ((b ≡ false) × Ends shown y end)
  ends_if shown true x y end ends = inl (refl, ends)
  ends_if shown false x y end ends = inr (refl, ends)
