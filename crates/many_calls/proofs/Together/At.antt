-- What stands at each index after one was written.
use Rattle.std.specs.Prelude.{◌≡◌, ◌≢◌, ℕ, Bool, cond}
use Rattle.std.proofs.Common.{ap}
use Rattle.std.proofs.lemmas.Bool.{eq-eqb, ne_eqb}
use Rattle.seize_model.specs.Given.SeizeWorld.{with_at}

pub at_other : {X : Type 0} (f : ℕ → X) (k : ℕ) (v : X) (j : ℕ) → j ≢ k → with_at f k v j ≡ f j
at_other f k v j ne = ap (λ (b : Bool). cond b v (f j)) (ne_eqb j k ne)

pub at_same : {X : Type 0} (f : ℕ → X) (k : ℕ) (v : X) (j : ℕ) → j ≡ k → with_at f k v j ≡ v
at_same f k v j e = ap (λ (b : Bool). cond b v (f j)) (eq-eqb j k e)
