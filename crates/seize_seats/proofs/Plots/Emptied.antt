-- Of places that are emptied one by one those before are empty.
use Rattle.std.proofs.Common.{◌≡◌, ◌≢◌, ◌⊎◌, inl, inr, ℕ, ◌+◌, ◌<◌, Bool, false, List, length, ap, ◌∙◌, arith}
use Rattle.std.specs.Prelude.{slice_index_or, slice_set}
use Rattle.std.proofs.lemmas.Bool.{cases_eq}
use Rattle.std.proofs.lemmas.List.{get_or-set_same, get_or-set_other}
use Rattle.seize_seats.specs.Seats.Plots.{AreEmpty}

pub empty_before : (fs gs : List Bool) (k : ℕ) → gs ≡ slice_set fs k false → k < length fs → AreEmpty fs k → AreEmpty gs (k + 1)
empty_before fs gs k set lt empty i low = by (cases_eq i k)
  where
    by : (i ≡ k) ⊎ (i ≢ k) → slice_index_or gs i false ≡ false
    by (inl e) = ap (λ (hs : List Bool). slice_index_or hs i false) set ∙ ap (λ (j : ℕ). slice_index_or (slice_set fs k false) j false) e ∙ get_or-set_same fs k false false lt
    by (inr ne) = ap (λ (hs : List Bool). slice_index_or hs i false) set ∙ get_or-set_other fs k i false false ne ∙ empty i (omega (arith, low, ne))
