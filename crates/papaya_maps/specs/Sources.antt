-- Which collector something is of.
use Rattle.std.specs.Prelude.{◌≡◌, ◌≢◌, ◌⊎◌, ℕ}
use Rattle.seize_words.specs.declared.fault.Fault.{Fault}
use Rattle.seize_words.specs.declared.fault.Fault.TheVariants.{ForeignGuard}

-- the number of a collector, and which memory is its own
abbrev pub Source : Type 0
Source = ℕ × ℕ

-- Where the numbers agree the memory is one, as it is where one source has given them.
abbrev pub OneSource : Source → Source → Type 0
OneSource a b = a.0 ≡ b.0 → a.1 ≡ b.1

-- the guard or the pass is of another collector than the map
abbrev pub IsForeign : ℕ → ℕ → ℕ → Type 0
IsForeign map guard pass = (guard ≢ map) ⊎ (pass ≢ map)

-- A call was refused with this fault: as one of them is of another collector, and nothing has changed; or so.
abbrev pub IsForeignOr : ℕ → ℕ → ℕ → Fault → Type 0 → Type 0 → Type 0
IsForeignOr map guard pass fault unchanged So = ((fault ≡ ForeignGuard) × IsForeign map guard pass × unchanged) ⊎ So
