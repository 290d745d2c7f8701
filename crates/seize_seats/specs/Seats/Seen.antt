-- A share of what a seat knows: its view, in a ledger that names the seats by their numbers.
use Rattle.std.specs.Prelude.{ℕ}
use base.Stored.{Gv, Coded, coded×, coded_ℕ}
use base.Algebra.{Algebra}
use base.Algebras.{both, shares, agreed}
use base.SetCodes.{coded, coded_share}
use base.Fml.{Share, Fml, ftrue, fex}
use types.Keyed.{entry}

abbrev pub fact : Type 0 → Fml
fact φ = fex φ (λ _. ftrue)

-- A view is kept as its ghost value, in an algebra that names no type parameter.
abbrev pub itself : Coded Gv
itself = record { code = λ g. g; inj = λ x y p. p }

abbrev pub shared_view : Algebra
shared_view = both shares (agreed (coded itself))

-- a share of the view of a seat
abbrev pub seen : {V : Type 0} → (V → Gv) → ℕ → Share → ℕ → V → Fml
seen c γ q id v = entry shared_view γ id (q, c v)

-- a number and a share, as they are kept
abbrev pub number_share_coded : Coded (ℕ × Share)
number_share_coded = coded× coded_ℕ coded_share
