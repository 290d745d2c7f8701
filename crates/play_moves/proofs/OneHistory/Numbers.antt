-- Makings that are numbered in order give no number to two maps.
use Rattle.std.specs.Prelude.{◌==◌, suc, if◌then◌else◌}
use Rattle.std.proofs.Common.{◌≡◌, ℕ, ◌<◌, Bool, true, false, List, [], ◌∷◌, refl, ap, ◌∙◌, arith}
use Rattle.std.proofs.lemmas.Bool.{ne_eqb}
use Rattle.threads_rule.specs.Given.ActsActs.{BeginsMaking}
use Rattle.play_linear.specs.Given.ActsDoings.{Doing, Does}
use Rattle.play_linear.specs.Given.AgreesFresh.{MakesOnce, is_made}
use Rattle.threads_rule.specs.Views.Listed.{AreNumbered}

module _ {K V S : Type 0} where
  -- no making has a number below
  none_below : (doings : List (Doing K V S)) (k end n : ℕ) → AreNumbered k doings end → n < k → is_made n doings ≡ false
  none_below [] k end n are less = refl
  none_below (Does (BeginsMaking i m hasher given places) ∷ doings) k end n are less =
      let other : (m == n) ≡ false = ne_eqb m n (λ e. let is = are.0 in absurd (omega (arith, e, is, less))) in
      ap (λ (q : Bool). if q then true else is_made n doings) other ∙ none_below doings (suc k) end n are.1 (omega (arith, less))
  none_below (_ ∷ doings) k end n are less = none_below doings k end n are less

  pub once : (doings : List (Doing K V S)) (k end : ℕ) → AreNumbered k doings end → MakesOnce doings
  once [] k end are = tt
  once (Does (BeginsMaking i m hasher given places) ∷ doings) k end are =
      (none_below doings (suc k) end m are.1 (let is = are.0 in omega (arith, is)), once doings (suc k) end are.1)
  once (_ ∷ doings) k end are = once doings k end are
