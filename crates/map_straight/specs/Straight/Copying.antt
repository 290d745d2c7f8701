-- The places of a chunk as straight code: which of them it copies, and where it stops at one.
use Rattle.std.specs.Prelude.{◌≡◌, ◌+◌, ◌-◌, ◌<◌, ◌%◌, ◌^◌, ℕ, true, false, nat_lt, if◌then◌else◌}
use Rattle.map_tables.specs.Chunks.{is_incremental}
use Rattle.map_tables.specs.Probes.{probe_after}
use Rattle.map_tables.specs.declared.probe.Probe.{Probe}
use Rattle.map_tables.specs.declared.table.Table.{Table}
use Rattle.map_machines.specs.declared.copier.Copier.{Copier}
use Rattle.map_machines.specs.declared.copier.Copying.{Copying}
use Rattle.map_machines.specs.declared.copier.Copying.TheVariants as at
use Rattle.map_straight.specs.declared.copying.Placed.{Placed}
use Rattle.map_straight.specs.declared.copying.Placed.TheVariants as placed

-- it is to mark a place of a chunk in incremental mode, and a further one follows
abbrev pub IsMidst : Copier → Type 0
IsMidst c = (c.stands ≡ at.Marks) × (c.whole ≡ false) × (is_incremental c.setting.mode ≡ true) × (c.place < c.end - 1)

-- it is at the next place, once so many are done
abbrev pub further : Copier → ℕ → Copier
further c done = record c { place = c.place + 1; done = done; stands = at.Marks }

-- the same, where it stands as it stood
abbrev pub moved : Copier → ℕ → Copier
moved c done = record c { place = c.place + 1; done = done }

-- one more than this
abbrev pub one_more_done : ℕ → ℕ
one_more_done done = (done + 1) % 2 ^ 64

-- after a try that has not found an empty place: the next one, or none is left
abbrev pub missed : Table → Probe → Placed
missed table probe = if nat_lt probe.len table.limit then placed.Next (probe_after probe (table.len - 1)) else placed.Past

-- where a pair is put into a table, or is still to be
abbrev pub placing : ℕ → ℕ → Table → Placed → Copying
placing word hash table placed.Put = at.Covers word
placing word hash table placed.Past = at.Passes word hash table
placing word hash table (placed.Next probe) = at.Probes word hash table probe
