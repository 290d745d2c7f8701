-- What a seat is sent for: what it has to know before, and what it knows then.
use Rattle.std.specs.Prelude.{◌≡◌, ℕ}
use Rattle.seize_views.specs.Views.Promises.{IsLooking}
use Rattle.seize_views.specs.declared.view.Has.{Has}
use Rattle.seize_views.specs.declared.view.Noted.{Noted}
use Rattle.seize_views.specs.declared.view.SlotView.{SlotView}
use Rattle.seize_views.specs.declared.view.SlotView.TheVariants.{Inside}

-- it holds this slot, whose section is open, and has no block in its hand
abbrev pub IsLookingWithin : {T : Type 0} → ℕ → SlotView T → Type 0
IsLookingWithin {T} slot w = (has : Has T) × IsLooking has × (w ≡ Inside slot has)

-- this is so of its notes, and nothing else has changed
abbrev pub IsDone : {T V B : Type 0} → (V → Noted T) → (V → B) → V → V → (Noted T → Type 0) → Type 0
IsDone notes beside v w so = so (notes w) × ((notes w).guards ≡ (notes v).guards) × (beside w ≡ beside v)
