-- What one step of a machine does: at most one operation, then looks at values of blocks, then its outcome.
use Rattle.std.specs.Prelude.{◌≡◌, ℕ, Option, Some, IsSome, Bool, true}
use Rattle.seize_words.specs.OneMemory.Op.{Op, Out}

-- What is left of a step once its operation is answered. `Now` is the outcome, `Seeing` looks at the value of a block,
-- `Sure` is a fact that the code relies on.
pub data Then (T R : Type 0) : Type 0 where
  Now : R → Then T R
  Seeing : ℕ → (T → Then T R) → Then T R
  Sure : Bool → Then T R → Then T R

-- `Turn` makes no operation, `Do` exactly one
pub data Plan (T R : Type 0) : Type 0 where
  Turn : Then T R → Plan T R
  Do : Op T → (Out T → Then T R) → Plan T R

module _ {T R : Type 0} where
  -- each block that the rest looks at is shown, and each fact that it relies on holds
  abbrev pub MaySee : (ℕ → Option T) → Then T R → Type 0
  MaySee shown (Now end) = Unit {0}
  MaySee shown (Seeing block rest) = IsSome (shown block) × ((value : T) → shown block ≡ Some value → MaySee shown (rest value))
  MaySee shown (Sure fact rest) = (fact ≡ true) × MaySee shown rest

  -- the rest comes to this outcome
  abbrev pub Ends : (ℕ → Option T) → Then T R → R → Type 0
  Ends shown (Now r) end = end ≡ r
  Ends shown (Seeing block rest) end = (value : T) × (shown block ≡ Some value) × Ends shown (rest value) end
  Ends shown (Sure fact rest) end = Ends shown rest end

module _ {T R M : Type 0} where
  -- the step may be taken in this memory
  abbrev pub May : (M → Op T → Type 0) → (M → Op T → Out T → M → Type 0) → (M → ℕ → Option T) → M → Plan T R → Type 0
  May can took shown m (Turn rest) = MaySee (shown m) rest
  May can took shown m (Do op rest) = can m op × ((out : Out T) (n : M) → took m op out n → MaySee (shown n) (rest out))

  -- the step was taken: it made its one operation, if it has one, and came to this memory and this outcome
  abbrev pub Steps : (M → Op T → Out T → M → Type 0) → (M → ℕ → Option T) → M → Plan T R → M → R → Type 0
  Steps took shown m (Turn rest) n end = (n ≡ m) × Ends (shown n) rest end
  Steps took shown m (Do op rest) n end = (out : Out T) × took m op out n × Ends (shown n) (rest out) end

module _ {T A B : Type 0} where
  -- the same step, with its outcome turned into another
  abbrev pub then_as : (A → B) → Then T A → Then T B
  then_as f (Now end) = Now (f end)
  then_as f (Seeing block rest) = Seeing block (λ value. then_as f (rest value))
  then_as f (Sure fact rest) = Sure fact (then_as f rest)

  abbrev pub plan_as : (A → B) → Plan T A → Plan T B
  plan_as f (Turn rest) = Turn (then_as f rest)
  plan_as f (Do op rest) = Do op (λ out. then_as f (rest out))
