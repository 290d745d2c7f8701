-- What each step of a chain keeps is so at its end.
use Rattle.std.specs.Prelude.{zero, suc}
use Rattle.std.proofs.Common.{ℕ, subst}
use Rattle.play_events.specs.Given.LoggedGoes.{GoesFor, GoesTo}

module _ {X : Type 0} (Goes : X → X → Type 0) (P : X → Type 0) (step : (x y : X) → P x → Goes x y → P y) where
  goes_for : (n : ℕ) (x y : X) → GoesFor Goes n x y → P x → P y
  goes_for zero x y is p = subst P is p
  goes_for (suc n) x y (mid, before, last) p = step mid y (goes_for n x mid before p) last

  pub goes_to : (x y : X) → GoesTo Goes x y → P x → P y
  goes_to x y goes p = goes_for goes.0 x y goes.1 p
