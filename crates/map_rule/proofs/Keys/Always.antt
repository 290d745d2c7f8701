-- What is so of each outcome that a step can come to, whatever it finds.
use Rattle.std.specs.Prelude.{ℕ, Bool, true, false, Option, if◌then◌else◌}
use Rattle.std.proofs.Common.{sym, subst}
use Rattle.map_machines.specs.Given.SeizeWordsMem.{Mem, value_at, Took}
use Rattle.map_machines.specs.Given.SeizeWordsOp.{Out}
use Rattle.map_machines.specs.Given.SeizeWordsPlan.{Plan, Then, Turn, Do, Now, Seeing, Sure, Steps, Ends, then_as, plan_as}

module _ {T R : Type 0} (P : R → Type 0) where
  -- this is so of each outcome of a rest
  abbrev pub Always : Then T R → Type 0
  Always (Now end) = P end
  Always (Seeing block rest) = (value : T) → Always (rest value)
  Always (Sure fact rest) = Always rest

  -- and of each outcome of a step
  abbrev pub AlwaysOf : Plan T R → Type 0
  AlwaysOf (Turn rest) = Always rest
  AlwaysOf (Do op rest) = (out : Out T) → Always (rest out)

  pub always_if : (b : Bool) (x y : Then T R) → Always x → Always y → Always (if b then x else y)
  always_if true x y f g = f
  always_if false x y f g = g

  pub always_ends : (shown : ℕ → Option T) (rest : Then T R) (end : R) → Always rest → Ends shown rest end → P end
  always_ends shown (Now r) end always ends = subst P (sym ends) always
  always_ends shown (Seeing block rest) end always ends = always_ends shown (rest ends.0) end (always ends.0) ends.2
  always_ends shown (Sure fact rest) end always ends = always_ends shown rest end always ends

module _ {T A B : Type 0} (P : B → Type 0) (f : A → B) (all : (a : A) → P (f a)) where
  always_as : (rest : Then T A) → Always P (then_as f rest)
  always_as (Now end) = all end
  always_as (Seeing block rest) = λ value. always_as (rest value)
  always_as (Sure fact rest) = always_as rest

  pub always_plan_as : (plan : Plan T A) → AlwaysOf P (plan_as f plan)
  always_plan_as (Turn rest) = always_as rest
  always_plan_as (Do op rest) = λ out. always_as (rest out)

module _ {T R : Type 0} (P : R → Type 0) where
  pub always_steps : (m m2 : Mem T) (plan : Plan T R) (end : R) → AlwaysOf P plan → Steps Took value_at m plan m2 end → P end
  always_steps m m2 (Turn rest) end always s = always_ends P (value_at m2) rest end always s.1
  always_steps m m2 (Do op rest) end always s = always_ends P (value_at m2) (rest s.0) end (always s.0) s.2
