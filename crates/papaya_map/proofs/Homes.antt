-- What follows for a pass where a guard is one of this map.
use Rattle.std.proofs.Common.{◌≡◌, ◌∙◌, ℕ, sym}
use Rattle.papaya_sessions.specs.Homes.{Home, OneMap, OneSource}

-- it is of one source with the guard, too
pub with_guard : {S : Type 0} (number memory : ℕ) (guard map : Home S) → OneMap guard map → OneSource number memory map → guard.number ≡ map.number → OneSource number memory guard
with_guard number memory guard map one source e = λ same. source (same ∙ e) ∙ sym (one e).0
