-- The one who has the memory to himself, as the memory of his machines: what he may do next, what he has done, and what he is shown.
use Rattle.std.specs.Prelude.{◌≡◌, ℕ, Bool, Option, Some, None}
use Rattle.seize_words.specs.OneMemory.Op.{Op, Out, Rewrite}
use Rattle.seize_reclaims.specs.Renews.One.{shown_to_one}
use Rattle.seize_reclaims.specs.declared.alone.Alone.{Alone}

module _ {T : Type 0} where
  -- where the operation replaces the value of a block, he has that block to himself
  abbrev pub HasAlone : (ℕ → Type 0) → Op T → Type 0
  HasAlone owns (Rewrite b x) = owns b
  HasAlone owns _ = Unit {0}

  -- the rule allows him this operation
  pub record Can {M : Type 0} (owns : M → ℕ → Type 0) (allowed : M → Op T → Type 0) (m : M) (op : Op T) : Type 0 where
    pub alone : HasAlone (owns m) op
    pub may : allowed m op

  -- he has made it, and knows what it told
  abbrev pub Has : {M B V : Type 0} → (M → B) → (M → V) → (V → Op T → Out T → V → Type 0) → M → Op T → Out T → M → Type 0
  Has blocks view tells m op out n = (blocks n ≡ blocks m) × tells (view m) op out (view n)

  -- what one is shown who acts so
  abbrev pub shown_as : (T → Option ℕ) → (T → Bool) → Option (Alone T) → ℕ → Option T
  shown_as defers left_over None b = None
  shown_as defers left_over (Some a) b = shown_to_one defers left_over a b

  abbrev pub shown_of : {M : Type 0} → (T → Option ℕ) → (T → Bool) → (M → Option (Alone T)) → M → ℕ → Option T
  shown_of defers left_over acts m b = shown_as defers left_over (acts m) b
