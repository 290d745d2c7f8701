-- How many steps a call takes at most by one event.
use Rattle.std.specs.Prelude.{ℕ}

-- one that has not ended then may go on
abbrev pub most_steps : ℕ
most_steps = 1000000
