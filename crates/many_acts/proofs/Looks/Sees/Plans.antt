-- What a step has seen, it has seen through each machine that it is a step of.
use Rattle.std.specs.Prelude.{Option, if◌then◌else◌}
use Rattle.std.proofs.Common.{◌≡◌, ℕ, Bool, true, false, ◌⊎◌, inl, inr, refl}
use Rattle.run_shows.specs.Given.SeizeWordsMem.{Mem, Took, value_at}
use Rattle.run_shows.specs.Given.SeizeWordsPlan.{Plan, Then, Turn, Do, Now, Seeing, Sure, Steps, Ends, plan_as, then_as}
use Rattle.many_acts.specs.Looks.Blocks.{MayLookAt}
use Rattle.many_acts.specs.Looks.Sees.{HasSeen}

module _ {T A B : Type 0} (f : A → B) where
  sees_as : (b : ℕ) (shown : ℕ → Option T) (rest : Then T A) → MayLookAt b shown (then_as f rest) → MayLookAt b shown rest
  sees_as b shown (Now end) sees = absurd sees
  sees_as b shown (Seeing block rest) (inl is) = inl is
  sees_as b shown (Seeing block rest) (inr (value, is, sees)) = inr (value, is, sees_as b shown (rest value) sees)
  sees_as b shown (Sure fact rest) sees = sees_as b shown rest sees

  ends_as : (shown : ℕ → Option T) (rest : Then T A) (end : B) → Ends shown (then_as f rest) end → (first : A) × (end ≡ f first) × Ends shown rest first
  ends_as shown (Now r) end ends = (r, ends, refl)
  ends_as shown (Seeing block rest) end (value, is, ends) = let e = ends_as shown (rest value) end ends in (e.0, e.1, (value, is, e.2))
  ends_as shown (Sure fact rest) end ends = ends_as shown rest end ends

  -- the machine within has seen it
  pub seen_as : (b : ℕ) (m : Mem T) (plan : Plan T A) (n : Mem T) (end : B) → HasSeen b m (plan_as f plan) n end → (first : A) × (end ≡ f first) × HasSeen b m plan n first
  seen_as b m (Turn rest) n end (is, ends, sees) = let e = ends_as (value_at n) rest end ends in (e.0, e.1, (is, e.2, sees_as b (value_at n) rest sees))
  seen_as b m (Do op rest) n end (out, took, ends, sees) =
      let e = ends_as (value_at n) (rest out) end ends in (e.0, e.1, (out, took, e.2, sees_as b (value_at n) (rest out) sees))

  -- and has taken the step
  pub stepped_as : (m : Mem T) (plan : Plan T A) (n : Mem T) (end : B) → Steps Took value_at m (plan_as f plan) n end → (first : A) × (end ≡ f first) × Steps Took value_at m plan n first
  stepped_as m (Turn rest) n end (is, ends) = let e = ends_as (value_at n) rest end ends in (e.0, e.1, (is, e.2))
  stepped_as m (Do op rest) n end (out, took, ends) = let e = ends_as (value_at n) (rest out) end ends in (e.0, e.1, (out, took, e.2))

module _ {T R : Type 0} where
  -- it is seen on one of two ways
  pub sees_if : (b : ℕ) (shown : ℕ → Option T) (x : Bool) (first other : Then T R) → MayLookAt b shown (if x then first else other)
      → ((x ≡ true) × MayLookAt b shown first) ⊎ ((x ≡ false) × MayLookAt b shown other)
  sees_if b shown true first other sees = inl (refl, sees)
  sees_if b shown false first other sees = inr (refl, sees)

  -- nothing but one block is seen
  pub sees_one : (b block : ℕ) (shown : ℕ → Option T) (on : T → R) → MayLookAt b shown (Seeing block (λ value. Now (on value))) → b ≡ block
  sees_one b block shown on (inl is) = is
  sees_one b block shown on (inr (value, is, none)) = absurd none
