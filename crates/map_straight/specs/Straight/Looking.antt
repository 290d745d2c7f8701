-- A lookup as straight code: where it stops.
use Rattle.std.specs.Prelude.{ℕ, if◌then◌else◌, Option, None}
use Rattle.seize_words.specs.OneMemory.Plan.{Then, Ends}
use Rattle.seize.specs.declared.advance.Advance.{Advance}
use Rattle.seize.specs.declared.advance.Advance.TheVariants as progress
use Rattle.map_tables.specs.Chunks.{is_incremental}
use Rattle.map_tables.specs.declared.node.Node.{Node}
use Rattle.map_tables.specs.declared.resize_mode.ResizeMode.{ResizeMode}
use Rattle.map_tables.specs.declared.table.Table.{Table}
use Rattle.map_machines.specs.Lookup.{looking}
use Rattle.map_machines.specs.declared.lookup.Lookup.{Lookup}
use Rattle.map_machines.specs.declared.lookup.Looking.{Looking}
use Rattle.map_machines.specs.declared.lookup.Looking.TheVariants as at
use Rattle.map_straight.specs.Straight.Going.{LookGoes}
use Rattle.seize_straight.specs.Reaches.{HasOutcome, Reached, At, Told}
use Rattle.map_straight.specs.declared.looking.Glance.{Glance}
use Rattle.map_straight.specs.declared.looking.Glance.TheVariants as glance
use Rattle.map_straight.specs.declared.looking.Sight.{Sight}
use Rattle.map_straight.specs.declared.looking.Sight.TheVariants as sight

-- all tries at a table are made: in incremental mode the key may be in the next one
abbrev pub past_tries : ResizeMode → Table → Sight
past_tries mode table = if is_incremental mode then sight.Stands (at.Nexts table) else sight.Ends None

module _ (root : ℕ) (mode : ResizeMode) (hash : ℕ) where
  -- it stands there
  abbrev pub looks : Looking → Lookup
  looks stands = record (looking root mode hash) { stands = stands }

  -- it has ended with an answer, or stands somewhere
  abbrev pub sight_at : Sight → Reached Lookup (Advance (Option ℕ))
  sight_at (sight.Ends found) = Told (progress.Done found)
  sight_at (sight.Stands stands) = At (looks stands)

  -- after a try it is to make the next one, or that ends the tries
  abbrev pub glance_at : Glance → Reached Lookup (Advance (Option ℕ))
  glance_at (glance.Next trial) = At (looks (at.Probes trial))
  glance_at (glance.Ends end) = sight_at end

  -- what is left of its step, once the word of its try is read, comes to that
  abbrev pub HasGlanced : {K V : Type 0} → (ℕ → Option (Node K V)) → Then (Node K V) (Lookup × Advance (Option ℕ)) → Glance → Type 0
  HasGlanced shown rest result = (end : Lookup × Advance (Option ℕ)) × Ends shown rest end × HasOutcome LookGoes end (glance_at result)
