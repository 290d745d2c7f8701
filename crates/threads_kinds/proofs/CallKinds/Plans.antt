-- Steps that may be taken, by what is told of them: whoever knows to what a step has come may look at what it looks at.
use Rattle.std.specs.Prelude.{Option, Some, IsSome, if◌then◌else◌}
use Rattle.std.proofs.Common.{◌≡◌, ℕ, Bool, true, false, refl, sym, subst, ◌∙◌}
use Rattle.seize_words.specs.OneMemory.Op.{Op, Out, Rewrite}
use Rattle.seize_words.specs.OneMemory.Plan.{Plan, Then, Turn, Do, Now, Seeing, Sure, Ends, MaySee, May, Steps, then_as, plan_as}
use Rattle.seize_views.specs.Views.Promises.{op_in}
use Rattle.seize_views.specs.Views.Told.{FollowsBy}
use Rattle.seize_views.proofs.Views.Looks.{IsNow, rest_of, ends_same, now_ends}
use Rattle.threads_kinds.specs.CallKinds.Answers.{IsAnswer}
use Rattle.seize_views.proofs.Views.Makes.{IsDo}
use Rattle.seize_words.proofs.General.{same_some}

abbrev pub ReplacesNone : {T : Type 0} → Op T → Type 0
ReplacesNone (Rewrite b x) = ⊥
ReplacesNone _ = Unit {0}

-- so does the step
abbrev pub LeavesValues : {T R : Type 0} → Plan T R → Type 0
LeavesValues (Turn rest) = Unit {0}
LeavesValues (Do op rest) = ReplacesNone op

-- the answer is of the kind of its operation
abbrev pub IsAnsweredBy : {T R : Type 0} → Plan T R → Out T → Type 0
IsAnsweredBy (Turn rest) out = ⊥
IsAnsweredBy (Do op rest) out = IsAnswer op out

-- it relies on no fact
abbrev pub IsPlain : {T R : Type 0} → Then T R → Type 0
IsPlain (Now r) = Unit {0}
IsPlain {T} (Seeing block rest) = (value : T) → IsPlain (rest value)
IsPlain (Sure fact rest) = ⊥

module _ {T R : Type 0} where
  pub plain_either : (b : Bool) (x y : Then T R) → IsPlain x → IsPlain y → IsPlain (if b then x else y)
  plain_either true x y p q = p
  plain_either false x y p q = q

  -- what comes to an end may look at what it looks at
  ends_may : (shown : ℕ → Option T) (x : Then T R) (end : R) → IsPlain x → Ends shown x end → MaySee shown x
  ends_may shown (Now r) end is e = tt
  ends_may shown (Seeing block rest) end is e = (
    subst (λ (o : Option T). IsSome o) (sym e.1) refl,
    λ value shows.
        let same : e.0 ≡ value = same_some e.0 value (sym e.1 ∙ shows) in
        ends_may shown (rest value) end (is value) (subst (λ (v : T). Ends shown (rest v) end) same e.2),
  )
  ends_may shown (Sure fact rest) end is e = absurd is

  module _ {M : Type 0} (can : M → Op T → Type 0) (took : M → Op T → Out T → M → Type 0) (shown : M → ℕ → Option T) (m : M) where
    -- a step may be taken where its operation may be made, and what it looks at is told with the answer
    pub may_by : (plan : Plan T R) → IsDo plan → ((op : Op T) → op_in plan ≡ Some op → can m op)
        → ((op : Op T) (out : Out T) (n : M) → op_in plan ≡ Some op → took m op out n → (end : R) × FollowsBy (shown n) plan out end)
        → ((out : Out T) → IsPlain (rest_of plan out)) → May can took shown m plan
    may_by (Turn rest) is may tells plain = absurd is
    may_by (Do op rest) is may tells plain =
        (may op refl, λ out n t. let f = tells op out n refl t in ends_may (shown n) (rest out) f.0 (plain out) f.1)

    -- the operation of a step that was taken, and its answer
    pub was_made : (plan : Plan T R) (n : M) (end : R) → IsDo plan → Steps took shown m plan n end
        → (op : Op T) × (out : Out T) × (op_in plan ≡ Some op) × took m op out n × FollowsBy (shown n) plan out end
    was_made (Turn rest) n end is st = absurd is
    was_made (Do op rest) n end is st = (op, st.0, refl, st.1, st.2)

  pub leaves_values : (plan : Plan T R) (op : Op T) → LeavesValues plan → op_in plan ≡ Some op → ReplacesNone op
  leaves_values (Turn rest) op is e = absurd (cc e)
  leaves_values (Do o rest) op is e = subst ReplacesNone (same_some o op e) is

  pub answered_by : (plan : Plan T R) (op : Op T) (out : Out T) → op_in plan ≡ Some op → IsAnswer op out → IsAnsweredBy plan out
  answered_by (Turn rest) op out e fits = absurd (cc e)
  answered_by (Do o rest) op out e fits = subst (λ (x : Op T). IsAnswer x out) (sym (same_some o op e)) fits

  -- what looks at nothing relies on no fact, and shows the same whatever is shown
  pub now_plain : (x : Then T R) → IsNow x → IsPlain x
  now_plain (Now r) is = tt
  now_plain (Seeing block rest) is = absurd is
  now_plain (Sure fact rest) is = absurd is

  pub now_follows : (shown other : ℕ → Option T) (plan : Plan T R) (out : Out T) (end : R) → IsNow (rest_of plan out) → FollowsBy shown plan out end → FollowsBy other plan out end
  now_follows shown other (Turn rest) out end is f = f
  now_follows shown other (Do op rest) out end is f = now_ends shown other (rest out) end is f

  -- the rest of a step, once its operation is answered
  pub follows_rest : (shown : ℕ → Option T) (plan : Plan T R) (out : Out T) (end : R) → FollowsBy shown plan out end → Ends shown (rest_of plan out) end
  follows_rest shown (Turn rest) out end f = absurd f
  follows_rest shown (Do op rest) out end f = f

module _ {T A B : Type 0} (f : A → B) where
  -- the same step, with its outcome turned into another
  pub op_as : (plan : Plan T A) → op_in (plan_as f plan) ≡ op_in plan
  op_as (Turn rest) = refl
  op_as (Do op rest) = refl

  leaves_in : (plan : Plan T A) → LeavesValues plan → LeavesValues (plan_as f plan)
  leaves_in (Turn rest) is = is
  leaves_in (Do op rest) is = is

  pub leaves_as : (plan : Plan T A) (other : Plan T B) → other ≡ plan_as f plan → LeavesValues plan → LeavesValues other
  leaves_as plan other e is = subst (λ (p : Plan T B). LeavesValues p) (sym e) (leaves_in plan is)

  pub ends_as : (shown : ℕ → Option T) (rest : Then T A) (end : B) → Ends shown (then_as f rest) end → (e : A) × Ends shown rest e × (end ≡ f e)
  ends_as shown (Now r) end e = (r, refl, e)
  ends_as shown (Seeing block rest) end e = let k = ends_as shown (rest e.0) end e.2 in (k.0, (e.0, e.1, k.1), k.2)
  ends_as shown (Sure fact rest) end e = ends_as shown rest end e

  pub follows_as : (shown : ℕ → Option T) (plan : Plan T A) (out : Out T) (end : B) → FollowsBy shown (plan_as f plan) out end → (e : A) × FollowsBy shown plan out e × (end ≡ f e)
  follows_as shown (Turn rest) out end e = absurd e
  follows_as shown (Do op rest) out end e = ends_as shown (rest out) end e

module _ {T R : Type 0} where
  -- a step that has made its operation comes to one end
  pub follows_one : (shown : ℕ → Option T) (plan : Plan T R) (out : Out T) (a b : R) → FollowsBy shown plan out a → FollowsBy shown plan out b → a ≡ b
  follows_one shown (Turn rest) out a b e f = absurd e
  follows_one shown (Do op rest) out a b e f = ends_same shown (rest out) a b e f
