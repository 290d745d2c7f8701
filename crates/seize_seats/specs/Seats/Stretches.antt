-- For how long the view of a seat stays as it is: its stretch, a lifetime that ends with the seat's next step. Whoever is told of a stretch can find out at any
-- time whether it has ended, or the view is still that one.
use Rattle.std.specs.Prelude.{◌≡◌, ℕ, zero, suc, ◌+◌, Bool, true, false, [], ◌∷◌}
use base.Fraction.{full_share}
use base.Share
use base.Share.{three_quarters}
use base.Stored.{Gv}
use base.Fml.{Lft, Fml, Share, fsep, fex, flft, fdead, fnamed, fshr_bor}
use types.Keyed.{ticket}
use Rattle.seize_seats.specs.Seats.Seen.{fact, seen}

-- An invariant with an even number and one with an odd number are two, so both may be opened at once.
abbrev pub IsEven : ℕ → Type 0
IsEven n = (h : ℕ) × (n ≡ h + h)

abbrev pub IsOdd : ℕ → Type 0
IsOdd n = (h : ℕ) × (n ≡ h + h + 1)

-- And those of the stretches of two seats have two numbers: m is of the k-th kind where it is 2 ^ k times an odd number.
abbrev pub IsOfKind : ℕ → ℕ → Type 0
IsOfKind zero m = IsOdd m
IsOfKind (suc k) m = (h : ℕ) × (m ≡ h + h) × IsOfKind k h

abbrev pub IsOfSeat : ℕ → ℕ → Type 0
IsOfSeat id n = (m : ℕ) × (n ≡ m + m + 1) × IsOfKind id m

abbrev pub numbered : (ℕ → Type 0) → Fml → ℕ → Fml
numbered good P n = fsep (fact (good n)) (fnamed n P)

abbrev pub invariant : (ℕ → Type 0) → Fml → Fml
invariant good P = fex ℕ (numbered good P)

-- three quarters of a view are in two parts: one stays with the seat, the other is under the seat's stretch
abbrev pub seats_part : Share
seats_part = Share.right three_quarters

abbrev pub stretch_part : Share
stretch_part = Share.left three_quarters

-- σ: the stretch; θ: the name of its mark, which the seat has while the stretch lasts
module _ {V : Type 0} (c : V → Gv) (γ id : ℕ) (v : V) (σ θ : ℕ) where
  abbrev pub lasting : Bool → Fml
  lasting true = seen c γ stretch_part id v
  lasting false = fsep (fdead (σ ∷ [])) (ticket θ 0)

  abbrev pub stretch : Fml
  stretch = fex Bool lasting

  -- what may be told to all
  abbrev pub stretch_shared : Fml
  stretch_shared = invariant (IsOfSeat id) stretch

  abbrev pub seat_owns : Fml
  seat_owns = fsep (flft (σ ∷ []) full_share) (fsep (seen c γ seats_part id v) (fsep stretch_shared (ticket θ 0)))

  -- what a `&` to the seat shows for as long as it lasts: that the stretch does, and the view
  abbrev pub seat_shares : Lft → Fml
  seat_shares κ = fsep (fshr_bor κ (λ q. flft (σ ∷ []) q)) (fsep (fshr_bor κ (λ q. seen c γ q id v)) stretch_shared)
