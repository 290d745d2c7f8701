-- Steps of a machine over any memory, one after another.
use Rattle.std.specs.Prelude.{ℕ, zero, suc, Option}
use Rattle.seize_words.specs.OneMemory.Op.{Op, Out}
use Rattle.std.proofs.Common.{subst}
use Rattle.seize_words.specs.OneMemory.Plan.{Plan, Then, May, Steps, Ends}
use Rattle.seize_straight.specs.Reaches.{HasOutcome, Reached, At, Told, Reaches}
use Rattle.seize_straight.specs.Runs.{Lasts, MayRun, lasts, Leads, none_taken, one_more, EndsTelling}

module _ {T X P M : Type 0} (on : P → Type 0) (took : M → Op T → Out T → M → Type 0) (shown : M → ℕ → Option T) (plan : X → Plan T (X × P)) where
  -- what may be run from the one point on has come to the other
  pub record Led (can : M → Op T → Type 0) (x : X) (m : M) (y : X) (n : M) : Type 0 where
    pub run : MayRun on took shown plan can x m
    pub leads : Leads on took shown plan x m y n

  module _ (can : M → Op T → Type 0) where
    -- what may be run may take its next step, and may be run on from there
    pub may_step : (x : X) (m : M) → MayRun on took shown plan can x m → May can took shown m (plan x)
    may_step x m (lasts _ _ h) = (h (suc zero)).0

    pub runs_on : (x : X) (m : M) → MayRun on took shown plan can x m → (n : M) (y : X) (told : P) → on told → Steps took shown m (plan x) n (y, told)
        → MayRun on took shown plan can y n
    runs_on x m (lasts _ _ h) n y told so s = lasts y n (λ k. (h (suc k)).1 n y told so s)

    pub runs_along : (x y : X) (m n : M) → Leads on took shown plan x m y n → MayRun on took shown plan can x m → MayRun on took shown plan can y n
    runs_along x y m n (none_taken _ _) h = h
    runs_along x y m n (one_more _ _ z k l told so _ _ s) h = runs_on z k (runs_along x z m k l h) n y told so s

    -- what holds at a point, lets its step be taken and holds on is enough
    lasts_by : (I : X → M → Type 0) → ((x : X) (m : M) → I x m → May can took shown m (plan x))
        → ((x : X) (m : M) → I x m → (n : M) (y : X) (told : P) → on told → Steps took shown m (plan x) n (y, told) → I y n)
        → (k : ℕ) (x : X) (m : M) → I x m → Lasts on took shown plan can k x m
    lasts_by I may keeps zero x m i = tt
    lasts_by I may keeps (suc k) x m i = (may x m i, λ n y told so s. lasts_by I may keeps k y n (keeps x m i n y told so s))

    pub by_law : (I : X → M → Type 0) → ((x : X) (m : M) → I x m → May can took shown m (plan x))
        → ((x : X) (m : M) → I x m → (n : M) (y : X) (told : P) → on told → Steps took shown m (plan x) n (y, told) → I y n)
        → (x : X) (m : M) → I x m → MayRun on took shown plan can x m
    by_law I may keeps x m i = lasts x m (λ k. lasts_by I may keeps k x m i)

  pub leads_on : (x y z : X) (m n k : M) → Leads on took shown plan x m y n → Leads on took shown plan y n z k → Leads on took shown plan x m z k
  leads_on x y z m n k l (none_taken _ _) = l
  leads_on x y z m n k l (one_more _ _ w j l2 told so _ _ s) = one_more x m w j (leads_on x y w m n j l l2) told so z k s

  pub reaches_on : (x y : X) (m n k : M) (end : Reached X P) → Leads on took shown plan x m y n → Reaches on took shown plan y n k end → Reaches on took shown plan x m k end
  reaches_on x y m n k (At z) l r = leads_on x y z m n k l r
  reaches_on x y m n k (Told told) l (w, j, z, l2, s, not) = (w, j, z, leads_on x y w m n j l l2, s, not)

  -- a step that comes to a point, or to what is told, reaches it
  pub comes_to : (x : X) (m n : M) (rest : Then T (X × P)) (to : Reached X P) (end : X × P) → Ends (shown n) rest end → HasOutcome on end to
      → ((e : X × P) → Ends (shown n) rest e → Steps took shown m (plan x) n e) → Reaches on took shown plan x m n to
  comes_to x m n rest (At y) end ends w step =
      one_more x m x m (none_taken x m) end.1 w.1 y n (subst (λ (z : X). Steps took shown m (plan x) n (z, end.1)) w.0 (step end ends))
  comes_to x m n rest (Told told) end ends w step =
      (x, m, end.0, none_taken x m, subst (λ (p : P). Steps took shown m (plan x) n (end.0, p)) w.0 (step end ends), w.1)

module _ {T X P M : Type 0} {on : P → Type 0} {took : M → Op T → Out T → M → Type 0} {shown : M → ℕ → Option T} {plan : X → Plan T (X × P)} {can : M → Op T → Type 0} {x : X} {m : M} where
  pub begins : MayRun on took shown plan can x m → Led on took shown plan can x m x m
  begins h = record { run = h; leads = none_taken x m }

  module _ {y : X} {n : M} (l : Led on took shown plan can x m y n) where
    -- it may be run on from there
    pub on_from : MayRun on took shown plan can y n
    on_from = runs_along on took shown plan can x y m n l.leads l.run

    pub next : May can took shown n (plan y)
    next = may_step on took shown plan can y n on_from

    -- it takes a step, or further ones
    pub steps_to : (told : P) → on told → (z : X) (k : M) → Steps took shown n (plan y) k (z, told) → Led on took shown plan can x m z k
    steps_to told so z k s = record { run = l.run; leads = one_more x m y n l.leads told so z k s }

    pub led_to : (z : X) (k : M) → Leads on took shown plan y n z k → Led on took shown plan can x m z k
    led_to z k l2 = record { run = l.run; leads = leads_on on took shown plan x y z m n k l.leads l2 }

    pub reaches_to : (k : M) (end : Reached X P) → Reaches on took shown plan y n k end → Reaches on took shown plan x m k end
    reaches_to k end r = reaches_on on took shown plan x y m n k end l.leads r

    pub tells_at : (told : P) → (on told → ⊥) → (z : X) (k : M) → Steps took shown n (plan y) k (z, told) → EndsTelling on took shown plan x m k told
    tells_at told not z k s = (y, n, z, l.leads, s, not)
