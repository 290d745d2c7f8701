-- Taking blocks away that were left over changes neither the waiting sets nor how slots are used.
use Rattle.std.proofs.Common.{◌≡◌, ℕ, List, [], ◌∷◌, refl}
use Rattle.seize_model.specs.Alone.Alone.{History}
use Rattle.seize_acts.specs.Reclaims.Roots.{all_cleared}

pub cleared_before : (back : List ℕ) (h : History) → (all_cleared back h).before ≡ h.before
cleared_before [] h = refl
cleared_before (b ∷ back) h = cleared_before back _

pub cleared_uses : (back : List ℕ) (h : History) → (all_cleared back h).uses ≡ h.uses
cleared_uses [] h = refl
cleared_uses (b ∷ back) h = cleared_uses back _
