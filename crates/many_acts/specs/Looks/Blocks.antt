-- Which blocks a step looks at, by its plan: the one of its operation, and each one whose value it looks at then.
use Rattle.std.specs.Prelude.{◌≡◌, ℕ, Option, Some, ◌⊎◌}
use Rattle.run_shows.specs.Given.SeizeWordsMem.{Mem, Took, IsFreeNumber, value_at}
use Rattle.run_shows.specs.Given.SeizeWordsOp.{Op, Out, Load, Store, Swap, Add, Or, Exchange, Make, Take, Rewrite, Room}
use Rattle.run_shows.specs.Given.SeizeWordsPlan.{Plan, Then, Turn, Do, Now, Seeing, Sure}
use Rattle.run_shows.specs.Given.SeizeWordsDeclared.at.At.{At}
use Rattle.run_shows.specs.Given.SeizeWordsDeclared.at.At.TheVariants.{Entry, Word}

-- the word is this block's, or its entry's
abbrev pub IsWordOf : ℕ → At → Type 0
IsWordOf b (Entry block field) = b ≡ block
IsWordOf b (Word block field) = b ≡ block
IsWordOf b _ = ⊥

module _ {T : Type 0} where
  -- the operation is one on this block: on a word of it, or it takes the block away, or rewrites its value
  abbrev pub IsDoneTo : ℕ → Op T → Type 0
  IsDoneTo b (Load at) = IsWordOf b at
  IsDoneTo b (Store at word) = IsWordOf b at
  IsDoneTo b (Swap at word) = IsWordOf b at
  IsDoneTo b (Add at by) = IsWordOf b at
  IsDoneTo b (Or at bits) = IsWordOf b at
  IsDoneTo b (Exchange at old new) = IsWordOf b at
  IsDoneTo b (Take block) = b ≡ block
  IsDoneTo b (Rewrite block value) = b ≡ block
  IsDoneTo b (Make value words) = ⊥
  IsDoneTo b (Room bucket) = ⊥

  -- the operation is one on this word
  abbrev pub IsOn : At → Op T → Type 0
  IsOn at (Load word) = at ≡ word
  IsOn at (Store word new) = at ≡ word
  IsOn at (Swap word new) = at ≡ word
  IsOn at (Add word by) = at ≡ word
  IsOn at (Or word bits) = at ≡ word
  IsOn at (Exchange word old new) = at ≡ word
  IsOn at (Take block) = ⊥
  IsOn at (Rewrite block value) = ⊥
  IsOn at (Make value words) = ⊥
  IsOn at (Room bucket) = ⊥

module _ {T R : Type 0} where
  -- what is left of a step looks at the value of this block
  abbrev pub MayLookAt : ℕ → (ℕ → Option T) → Then T R → Type 0
  MayLookAt b shown (Now end) = ⊥
  MayLookAt b shown (Seeing block rest) = (b ≡ block) ⊎ ((value : T) × (shown block ≡ Some value) × MayLookAt b shown (rest value))
  MayLookAt b shown (Sure fact rest) = MayLookAt b shown rest

  -- In this memory the step of this plan looks at this block.
  abbrev pub LooksAt : ℕ → Mem T → Plan T R → Type 0
  LooksAt b m (Turn rest) = MayLookAt b (value_at m) rest
  LooksAt b m (Do op rest) = IsDoneTo b op ⊎ ((out : Out T) × (n : Mem T) × Took m op out n × MayLookAt b (value_at n) (rest out))

  -- the step may make this block: its number is free
  abbrev pub MayMake : ℕ → Mem T → Plan T R → Type 0
  MayMake b m (Do (Make value words) rest) = IsFreeNumber m b
  MayMake b m _ = ⊥
