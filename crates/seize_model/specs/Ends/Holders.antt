-- Which row has a slot's batch in hand.
use Rattle.std.specs.Prelude.{ℕ, Bool, false, ◌==◌, ◌&&◌}
use Rattle.seize.specs.declared.rows.settle.Settle.{Settle}
use Rattle.seize.specs.declared.rows.leave.Leaving.{Leaving}
use Rattle.seize.specs.declared.rows.leave.Leaving.TheVariants as leaving
use Rattle.seize.specs.World.{Row, Settles, Leaves}

-- a row that settles has it from where it takes hold of it to where it gives it up
abbrev pub settle_has : ℕ → Settle → Bool
settle_has s c = c.held && (c.slot == s)

-- and so does one that settles as it leaves
abbrev pub leaving_has : ℕ → Leaving → Bool
leaving_has s (leaving.Settles settle) = settle_has s settle
leaving_has s _ = false

abbrev pub has_batch : ℕ → Row → Bool
has_batch s (Settles c) = settle_has s c
has_batch s (Leaves c) = leaving_has s c.stands
has_batch s _ = false
