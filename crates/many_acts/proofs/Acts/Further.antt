-- Acts that lead on from where others have led: both together lead there.
use Rattle.std.specs.Prelude.{ℕ, ◌++◌, Bool, List, [], ◌∷◌}
use Rattle.std.proofs.Common.{subst}
use Rattle.many_acts.specs.Acts.Doings.{Doing}
use Rattle.many_acts.specs.Acts.Lists.{Course, Reached, LedOn, on_by}

module _ {K S : Type 0} (V : Type 0) (same : K → K → Bool) (hash : S → K → ℕ) (batch_size roots : ℕ) (slot : ℕ → ℕ) (course : Course V same hash batch_size roots slot) where
  pub led_further : (doings more : List (Doing K V S)) (x y z : Reached V same hash batch_size roots slot) → LedOn V same hash batch_size roots slot course doings x y
      → LedOn V same hash batch_size roots slot course more y z → LedOn V same hash batch_size roots slot course (doings ++ more) x z
  led_further [] more x y z led then = subst (λ (w : Reached V same hash batch_size roots slot). LedOn V same hash batch_size roots slot course more w z) led then
  led_further (doing ∷ doings) more x y z (may, led) then = (may, led_further doings more (on_by V same hash batch_size roots slot course x doing may) y z led then)
