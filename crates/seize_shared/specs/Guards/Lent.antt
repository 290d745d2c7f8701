-- What a seat is lent.
use Rattle.std.specs.Prelude.{ℕ, Option}
use Rattle.seize_seats.specs.Seats.Lendings.{IsValueOf}
use Rattle.seize_views.specs.Views.Notes.{NotedHolds}
use Rattle.seize_views.specs.declared.view.Fixed.{Fixed}
use Rattle.seize_views.specs.declared.view.Noted.{Noted}

-- the value of this block, as it is while the seat knows what it knows
abbrev pub IsLent : {T : Type 0} → (T → Option ℕ) → Fixed → ℕ → Noted T → ℕ → T → Type 0
IsLent defers fixed id v b x = IsValueOf (NotedHolds defers fixed) id v b x
