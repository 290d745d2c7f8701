-- What stays of a seat on an errand, whatever it does there.
use Rattle.std.specs.Prelude.{ℕ, Bool, true, false, Some, None}
use Rattle.seize_seats.specs.Seats.Errands.{Away}

-- the memory, by which reference the seat is had, which seat it is, and the errand
pub record Kept (B N A : Type 0) : Type 0 where
  pub blocks : B
  pub name : N
  pub id : ℕ
  pub away : A

unfoldable pub kept : {B N A : Type 0} → B → N → ℕ → A → Kept B N A
kept b n i a = record { blocks = b; name = n; id = i; away = a }

-- it is on none
abbrev pub is_home : Away → Bool
is_home None = true
is_home (Some q) = false
