-- A step that makes an operation, over a memory of which it is known what may be done and what it told: it may be taken, and is the one that was made.
use Rattle.std.specs.Prelude.{Option, Some, None}
use Rattle.std.proofs.Common.{◌≡◌, ℕ, refl}
use Rattle.seize_words.specs.OneMemory.Op.{Op, Out, Rewrite}
use Rattle.seize_words.specs.OneMemory.Plan.{Plan, Turn, Do, May, Steps}
use Rattle.seize_views.specs.Views.Promises.{op_in}
use Rattle.seize_views.specs.Views.Told.{FollowsBy}
use Rattle.seize_views.proofs.Views.Looks.{rest_of, LooksOnce, ends_may, ends_same}

-- it makes an operation
abbrev pub IsDo : {T R : Type 0} → Plan T R → Type 0
IsDo (Turn rest) = ⊥
IsDo (Do op rest) = Unit {0}

-- its operation replaces no value
abbrev pub IsNoRewrite : {T : Type 0} → Option (Op T) → Type 0
IsNoRewrite None = Unit {0}
IsNoRewrite (Some (Rewrite b x)) = ⊥
IsNoRewrite (Some _) = Unit {0}

module _ {T R M : Type 0} (can : M → Op T → Type 0) (took : M → Op T → Out T → M → Type 0) (shown : M → ℕ → Option T) (m : M) where
  -- a step may be taken where its operation may be made, and what it looks at is told with the answer
  pub may_by : (plan : Plan T R) → IsDo plan → ((op : Op T) → op_in plan ≡ Some op → can m op)
      → ((op : Op T) (out : Out T) (n : M) → op_in plan ≡ Some op → took m op out n → (end : R) × FollowsBy (shown n) plan out end)
      → ((out : Out T) → LooksOnce (rest_of plan out)) → May can took shown m plan
  may_by (Turn rest) is may tells looks = absurd is
  may_by (Do op rest) is may tells looks =
      (may op refl, λ out n t. let f = tells op out n refl t in ends_may (shown n) (rest out) f.0 (looks out) f.1)

  -- the operation of a step that was taken, and its answer
  pub was_made : (plan : Plan T R) (n : M) (end : R) → IsDo plan → Steps took shown m plan n end
      → (op : Op T) × (out : Out T) × took m op out n × ((other : R) → FollowsBy (shown n) plan out other → end ≡ other)
  was_made (Turn rest) n end is st = absurd is
  was_made (Do op rest) n end is st = (op, st.0, st.1, λ other f. ends_same (shown n) (rest st.0) end other st.2 f)
