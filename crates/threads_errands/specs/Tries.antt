-- The try of a slot's batch, once a disposal has filled that.
use Rattle.std.specs.Prelude.{Bool, true, false}
use Rattle.seize.specs.declared.rows.settle.Settling.{Settling}
use Rattle.seize.specs.declared.rows.settle.Settling.TheVariants as settling
use Rattle.map_machines.specs.declared.dispose.Disposing.{Disposing}
use Rattle.map_machines.specs.declared.dispose.Disposing.TheVariants as disposing

-- a settling tries the slot's batch, or gives it up
abbrev pub tries : Settling → Bool
tries (settling.Scans slot block marks) = true
tries (settling.Marks slot block marks) = true
tries (settling.Marked slot block marks) = true
tries (settling.Closes marks) = true
tries (settling.Reads block left pushed) = true
tries (settling.Links block left pushed slot head) = true
tries (settling.Pushes block left pushed slot head) = true
tries (settling.Pushed block left pushed) = true
tries (settling.Sums pushed) = true
tries settling.Gives = true
tries _ = false

-- and a disposal, whose settling does
abbrev pub tries_batch : Disposing → Bool
tries_batch (disposing.Settles settle) = tries settle.stands
tries_batch _ = false
