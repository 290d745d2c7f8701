-- The disposal of a pair as straight code: where it stops.
use Rattle.std.specs.Prelude.{ℕ, Bool, false}
use Rattle.seize.specs.declared.rows.settle.Settled.{Settled}
use Rattle.seize.specs.declared.rows.settle.Settled.TheVariants as settled
use Rattle.seize.specs.declared.rows.settle.Settle.{Settle}
use Rattle.map_tables.specs.Marks.{has_mark, link_in}
use Rattle.map_tables.specs.declared.marks.TheConstants.{BORROWED}
use Rattle.map_tables.specs.declared.resize_mode.ResizeMode.{ResizeMode}
use Rattle.map_tables.specs.declared.resize_mode.ResizeMode.TheVariants.{Incremental, Blocking}
use Rattle.map_tables.specs.declared.setting.Setting.{Setting}
use Rattle.map_tables.specs.declared.table.Table.{Table}
use Rattle.map_machines.specs.Dispose.{disposing}
use Rattle.map_machines.specs.declared.dispose.Dispose.{Dispose}
use Rattle.map_machines.specs.declared.dispose.Disposing.TheVariants as at
use Rattle.seize_straight.specs.Reaches.{Reached, At, Told}
use Rattle.seize_straight.specs.Retiring.{settle_at}
use Rattle.map_straight.specs.declared.disposing.Disposed.{Disposed}
use Rattle.map_straight.specs.declared.disposing.Disposed.TheVariants as to
use Rattle.seize_straight.specs.declared.retiring.Retired.TheVariants as retire

-- an older table may name the pair of a word, too
abbrev pub is_borrowed : ResizeMode → ℕ → Bool
is_borrowed (Incremental chunk) word = has_mark word BORROWED
is_borrowed Blocking word = false

-- it retires the pair, and stands there
abbrev pub settling : Setting → ℕ → Table → Settle → Dispose
settling setting word table settle = record (disposing setting word table) { stands = at.Settles settle }

-- the disposal at the point where it stops
abbrev pub dispose_at : Setting → ℕ → Table → Disposed → Dispose
dispose_at setting word table (to.Walks older) = record (disposing setting word table) { stands = at.Walks older }
dispose_at setting word table (to.Retires retired) = settling setting word table (settle_at setting.slot setting.batch_size (link_in word) retired)

-- it has told that the pair is disposed of, or stands at that point
abbrev pub disposed : {T : Type 0} → Setting → ℕ → Table → Disposed → Reached Dispose (Settled T)
disposed setting word table (to.Retires retire.Ended) = Told settled.Done
disposed setting word table stop = At (dispose_at setting word table stop)
