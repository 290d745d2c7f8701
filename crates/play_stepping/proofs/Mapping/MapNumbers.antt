-- How many maps have a number once the making of one has run: the number of one that was refused is given back.
use Rattle.std.specs.Prelude.{◌≡◌, ◌+◌, ◌==◌, ℕ, Bool, true, false, if◌then◌else◌}
use Rattle.std.proofs.Common.{refl, sym, ap, ◌∙◌}
use Rattle.std.proofs.lemmas.Bool.{eq-eqb}

pub given_up : (map count old : ℕ) → map ≡ old → count ≡ old + 1 → (if count == map + 1 then map else count) ≡ old
given_up map count old number more = by (count == map + 1) refl
  where
    by : (q : Bool) → (count == map + 1) ≡ q → (if q then map else count) ≡ old
    by true e = number
    by false e = absurd (let is : true ≡ false = sym (eq-eqb count (map + 1) (more ∙ ap (λ (n : ℕ). n + 1) (sym number))) ∙ e in cc is)
