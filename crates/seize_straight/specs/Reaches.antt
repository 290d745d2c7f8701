-- What code that makes a machine's operations without being the machine has come to.
use Rattle.std.specs.Prelude.{◌≡◌, ℕ, Option}
use Rattle.seize_words.specs.OneMemory.Op.{Op, Out}
use Rattle.seize_words.specs.OneMemory.Plan.{Plan}
use Rattle.seize_straight.specs.Runs.{Leads, EndsTelling}

-- a point where the machine stands, or what it has told
pub data Reached (X P : Type 0) : Type 0 where
  At : X → Reached X P
  Told : P → Reached X P

module _ {T X P M : Type 0} (on : P → Type 0) (took : M → Op T → Out T → M → Type 0) (shown : M → ℕ → Option T) (plan : X → Plan T (X × P)) where
  -- it stands at a point of the machine, to which steps that go on have led, or the machine has told something and does not go on
  abbrev pub Reaches : X → M → M → Reached X P → Type 0
  Reaches x m n (At y) = Leads on took shown plan x m y n
  Reaches x m n (Told told) = EndsTelling on took shown plan x m n told

-- a step has come to that: it goes on from a point, or has told something and does not go on
abbrev pub HasOutcome : {X P : Type 0} → (P → Type 0) → X × P → Reached X P → Type 0
HasOutcome on end (At x) = (end.0 ≡ x) × on end.1
HasOutcome on end (Told told) = (end.1 ≡ told) × (on told → ⊥)
