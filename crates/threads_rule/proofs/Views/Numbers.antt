-- A seat is another caller in each slot.
use Rattle.std.specs.Prelude.{◌/◌}
use Rattle.std.proofs.Common.{◌≡◌, ℕ, ◌%◌, arith}
use Rattle.many_acts.specs.Given.ScenesScene.{slot_of}
use Rattle.threads_rule.specs.Views.Rule.{caller_at, IsSlot}

pub slot_at : (seat t : ℕ) → IsSlot t → slot_of (caller_at seat t) ≡ t
slot_at seat t is = omega (arith, is)

pub seat_apart : (seat other s t : ℕ) → IsSlot s → IsSlot t → caller_at seat s ≡ caller_at other t → seat ≡ other
seat_apart seat other s t is is2 e = omega (arith, is, is2, e)

pub slot_apart : (seat other s t : ℕ) → IsSlot s → IsSlot t → caller_at seat s ≡ caller_at other t → s ≡ t
slot_apart seat other s t is is2 e = omega (arith, is, is2, e)

pub first_slot : IsSlot 0
first_slot = omega arith

-- each number is that of a caller
pub its_caller : (a : ℕ) → caller_at (a / 65536) (a % 65536) ≡ a
its_caller a = omega arith

pub its_place : (a : ℕ) → IsSlot (a % 65536)
its_place a = omega arith
