-- Steps of a machine within another one are steps of that one.
use Rattle.std.specs.Prelude.{◌≡◌, ℕ, Option}
use Rattle.std.proofs.Common.{sym, subst}
use Rattle.seize_words.specs.OneMemory.Op.{Op, Out}
use Rattle.seize_words.specs.OneMemory.Plan.{Plan, May, Steps, plan_as}
use Rattle.seize_words.proofs.OneMemory.Plans.{may_as, steps_as}
use Rattle.seize_straight.specs.Runs.{MayRun, Leads, none_taken, one_more, EndsTelling}
use Rattle.seize_straight.proofs.Running.{by_law, may_step, runs_on}

-- `put` is the outer machine with the inner one at a point, and `into` what it makes of a step of that one
module _ {T X P Y Q M : Type 0} (on : P → Type 0) (goes : Q → Type 0) (can : M → Op T → Type 0) (took : M → Op T → Out T → M → Type 0) (shown : M → ℕ → Option T)
    (inner : X → Plan T (X × P)) (outer : Y → Plan T (Y × Q)) (put : X → Y) (into : X → X × P → Y × Q) (is : (x : X) → outer (put x) ≡ plan_as (into x) (inner x)) where
  step_in : (x y : X) (m n : M) (told : P) → Steps took shown m (inner x) n (y, told) → Steps took shown m (outer (put x)) n (into x (y, told))
  step_in x y m n told s =
      subst (λ (p : Plan T (Y × Q)). Steps took shown m p n (into x (y, told))) (sym (is x)) (steps_as (into x) can took shown m n (inner x) (y, told) s)

  module _ (on_goes : (x y : X) (told : P) → on told → ((into x (y, told)).0 ≡ put y) × goes (into x (y, told)).1) where
    goes_in : (x y : X) (m n : M) (told : P) → on told → Steps took shown m (inner x) n (y, told) → Steps took shown m (outer (put x)) n (put y, (into x (y, told)).1)
    goes_in x y m n told so s =
        subst (λ (z : Y). Steps took shown m (outer (put x)) n (z, (into x (y, told)).1)) (on_goes x y told so).0 (step_in x y m n told s)

    pub leads_in : (x y : X) (m n : M) → Leads on took shown inner x m y n → Leads goes took shown outer (put x) m (put y) n
    leads_in x y m n (none_taken _ _) = none_taken (put x) m
    leads_in x y m n (one_more _ _ z k l told so _ _ s) =
        one_more (put x) m (put z) k (leads_in x z m k l) (into z (y, told)).1 (on_goes z y told so).1 (put y) n (goes_in z y k n told so s)

    pub may_in : (x : X) (m : M) → MayRun goes took shown outer can (put x) m → MayRun on took shown inner can x m
    may_in =
        by_law on took shown inner can (λ x m. MayRun goes took shown outer can (put x) m)
        (λ x m h. may_as (into x) can took shown m (inner x)
        (subst (λ (p : Plan T (Y × Q)). May can took shown m p) (is x) (may_step goes took shown outer can (put x) m h)))
        (λ x m h n y told so s. runs_on goes took shown outer can (put x) m h n (put y) (into x (y, told)).1 (on_goes x y told so).1 (goes_in x y m n told so s))

    -- where the inner one has told something, the outer one tells this
    pub tells_in : (x : X) (m n : M) (told : P) (end : Q) → ((y z : X) → (into y (z, told)).1 ≡ end) → (goes end → ⊥)
        → EndsTelling on took shown inner x m n told → EndsTelling goes took shown outer (put x) m n end
    tells_in x m n told end tells not (y, k, z, l, s, _) = (
      put y,
      k,
      (into y (z, told)).0,
      leads_in x y m k l,
      subst (λ (q : Q). Steps took shown k (outer (put y)) n ((into y (z, told)).0, q)) (tells y z) (step_in y z k n told s),
      not,
    )
