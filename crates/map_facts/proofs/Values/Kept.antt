-- A step that makes no block, takes none away and rewrites no value leaves the values of all blocks.
use Rattle.std.specs.Prelude.{◌≡◌, ℕ, ◌+◌, ◌%◌, ◌^◌, IsSome, bit_or}
use Rattle.std.proofs.Common.{refl, ap, ◌∙◌, inl, inr}
use Rattle.map_rule.specs.Given.SeizeWordsDeclared.at.At.{At}
use Rattle.map_rule.specs.Given.SeizeWordsOp.{Op, Out, Load, Store, Swap, Add, Or, Exchange, Make, Take, Rewrite, Room}
use Rattle.map_rule.specs.Given.SeizeWordsMem.{Mem, Can, Took, value_at, word_at, with_word}
use Rattle.map_rule.specs.Given.SeizeWordsPlan.{Plan, Then, Turn, Do, Now, May, Steps, plan_as}
use Rattle.map_rule.proofs.Given.SeizeWordsOneOwner.AfterWrites.{value_at-with_word}
use Rattle.map_rule.proofs.Given.SeizeWordsOneOwner.Operations.{loaded, stored, swapped, added, ored, exchanged}

module _ {T : Type 0} where
  -- the operation makes no block, takes none away and rewrites no value
  abbrev pub IsPlain : Op T → Type 0
  IsPlain (Make value words) = ⊥
  IsPlain (Take b) = ⊥
  IsPlain (Rewrite b new) = ⊥
  IsPlain (Room bucket) = ⊥
  IsPlain _ = Unit {0}

  abbrev pub SameValues : Mem T → Mem T → Type 0
  SameValues m m2 = (b : ℕ) → value_at m2 b ≡ value_at m b

  same_written : (m m2 : Mem T) (at : At) (word : ℕ) → IsSome (word_at m at) → m2 ≡ with_word m at word → SameValues m m2
  same_written m m2 at word some is b = ap (λ (x : Mem T). value_at x b) is ∙ value_at-with_word m at word b some

  same_mem : (m m2 : Mem T) → m2 ≡ m → SameValues m m2
  same_mem m m2 is b = ap (λ (x : Mem T). value_at x b) is

  abbrev any : Out T → Then T (Out T)
  any out = Now out

  op_keeps : (m m2 : Mem T) (op : Op T) (out : Out T) → IsPlain op → Can m op → Steps Took value_at m (Do op any) m2 out → SameValues m m2
  op_keeps m m2 (Load at) out plain can s = same_mem m m2 (loaded m any at m2 out s).2
  op_keeps m m2 (Store at word) out plain can s = same_written m m2 at word can (stored m any at word m2 out s).0
  op_keeps m m2 (Swap at word) out plain can s = same_written m m2 at word can (swapped m any at word m2 out s).2
  op_keeps m m2 (Add at by) out plain can s = let d = added m any at by m2 out s in same_written m m2 at ((d.0 + by) % 2 ^ 64) can d.2
  op_keeps m m2 (Or at bits) out plain can s = let d = ored m any at bits m2 out s in same_written m m2 at (bit_or d.0 bits) can d.2
  op_keeps m m2 (Exchange at old word) out plain can s = elim (exchanged m any at old word m2 out s) as (λ _. SameValues m m2) [
    | inl d ↦ same_written m m2 at word can d.2
    | inr d ↦ same_mem m m2 d.2
  ]
  op_keeps m m2 (Make value words) out plain can s = absurd plain
  op_keeps m m2 (Take b) out plain can s = absurd plain
  op_keeps m m2 (Rewrite b new) out plain can s = absurd plain
  op_keeps m m2 (Room bucket) out plain can s = absurd plain

  module _ {R : Type 0} where
    -- so does a step with such an operation, or with none
    abbrev pub IsPlainStep : Plan T R → Type 0
    IsPlainStep (Turn rest) = Unit {0}
    IsPlainStep (Do op rest) = IsPlain op

    pub plain_keeps : (m m2 : Mem T) (plan : Plan T R) (end : R) → IsPlainStep plan → May Can Took value_at m plan → Steps Took value_at m plan m2 end → SameValues m m2
    plain_keeps m m2 (Turn rest) end plain may s = same_mem m m2 s.0
    plain_keeps m m2 (Do op rest) end plain may s = op_keeps m m2 op s.0 plain may.0 (s.0, s.1, refl)

  pub plain_as : {A B : Type 0} (f : A → B) (plan : Plan T A) → IsPlainStep plan → IsPlainStep (plan_as f plan)
  plain_as f (Turn rest) plain = tt
  plain_as f (Do op rest) plain = plain
