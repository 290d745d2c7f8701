-- Which map something is of.
use Rattle.std.specs.Prelude.{◌≡◌, ℕ, Option}
use Rattle.play_moves.specs.Given.ViewsDeclared.view.Map.{Map}
use Rattle.threads_updates.specs.Given.CallersDeclared.caller.MapCaller.{MapCaller}

-- The number of its collector, which memory is its own, and which map stands there.
pub record Home (S : Type 0) : Type 0 where
  pub number : ℕ
  pub memory : ℕ
  pub map : Option (Map S)

abbrev pub home_at : {S : Type 0} → ℕ → ℕ → Option (Map S) → Home S
home_at number memory map = record { number = number; memory = memory; map = map }

-- that of one of those who share a map, whose collector has this number
abbrev pub home_of : {K V S : Type 0} → ℕ → MapCaller K V S → Home S
home_of number c = home_at number c.blocks.now.words.id.views_name c.seat.view.map

-- Where the numbers agree the map is one, as it is where one source has given them: of what has this home, and what has that one.
abbrev pub OneMap : {S : Type 0} → Home S → Home S → Type 0
OneMap a b = a.number ≡ b.number → (a.memory ≡ b.memory) × (a.map ≡ b.map)

-- And so is the memory: of a pass that has this number, and is of this memory.
abbrev pub OneSource : {S : Type 0} → ℕ → ℕ → Home S → Type 0
OneSource number memory home = number ≡ home.number → memory ≡ home.memory
