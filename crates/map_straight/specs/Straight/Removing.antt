-- A call that removes the pair of a key as straight code: where it stops.
use Rattle.std.specs.Prelude.{ℕ, if◌then◌else◌, Option}
use Rattle.seize_words.specs.OneMemory.Plan.{Then, Ends}
use Rattle.map_tables.specs.declared.marks.TheConstants.{TOMBSTONE}
use Rattle.map_tables.specs.declared.node.Node.{Node}
use Rattle.map_tables.specs.Chunks.{is_incremental}
use Rattle.map_tables.specs.declared.resize_mode.ResizeMode.{ResizeMode}
use Rattle.map_tables.specs.declared.setting.Setting.{Setting}
use Rattle.map_tables.specs.declared.trial.Trial.{Trial}
use Rattle.papaya_raw.specs.CallPoints.{removing}
use Rattle.papaya_raw.specs.declared.machines.answer.Called.{Called}
use Rattle.papaya_raw.specs.declared.machines.answer.Called.TheVariants as called
use Rattle.papaya_raw.specs.declared.machines.answer.KeyAnswer.TheVariants as answers
use Rattle.papaya_raw.specs.declared.machines.call.Calling.{Calling}
use Rattle.papaya_raw.specs.declared.machines.call.Calling.TheVariants as at
use Rattle.papaya_raw.specs.declared.machines.call.KeyCall.{KeyCall}
use Rattle.map_straight.specs.Straight.Disposing.{dispose_at}
use Rattle.map_straight.specs.Straight.Going.{CallGoes}
use Rattle.seize_straight.specs.Reaches.{HasOutcome, Reached, At, Told}
use Rattle.map_straight.specs.declared.disposing.Disposed.{Disposed}
use Rattle.map_straight.specs.declared.disposing.Disposed.TheVariants as to
use Rattle.seize_straight.specs.declared.retiring.Retired.TheVariants as retire
use Rattle.map_straight.specs.declared.removing.Removal.{Removal}
use Rattle.map_straight.specs.declared.removing.Removal.TheVariants as removal
use Rattle.map_straight.specs.declared.removing.RemovalAt.{RemovalAt}
use Rattle.map_straight.specs.declared.removing.RemovalAt.TheVariants as removed
use Rattle.map_straight.specs.declared.removing.Sought.{Sought}
use Rattle.map_straight.specs.declared.removing.Sought.TheVariants as sought

-- a point, by what was tried there
abbrev pub removing_at : Setting → Trial → Removal → Calling
removing_at setting trial removal.Roots = at.Roots
removing_at setting trial removal.Probes = at.Probes
removing_at setting trial removal.Nexts = at.Nexts
removing_at setting trial (removal.Tries word) = at.Tries word TOMBSTONE
removing_at setting trial (removal.Counts word) = at.Counts word
removing_at setting trial (removal.Disposes word disposed) = at.Disposes (dispose_at setting word trial.table disposed) (answers.Removed word)

-- all tries at a table are made: in incremental mode the key may be in the next one
abbrev pub past_all : ResizeMode → Trial → RemovalAt
past_all mode met = if is_incremental mode then removed.Stands met removal.Nexts else removed.Answered answers.Absent

-- a pair was removed, and its disposal has ended, or has come so far
abbrev pub removed_by : Trial → ℕ → Disposed → RemovalAt
removed_by trial word (to.Retires retire.Ended) = removed.Answered (answers.Removed word)
removed_by trial word disposed = removed.Stands trial (removal.Disposes word disposed)

module _ {K V Q : Type 0} (setting : Setting) (hash : ℕ) (asked : Q) where
  -- it stands there, at this try
  abbrev pub seeking : Trial → Calling → KeyCall K V Q
  seeking trial stands = record (removing setting hash asked) { trial = trial; stands = stands }

  -- it has ended with an answer, or stands somewhere
  abbrev pub removed_at : RemovalAt → Reached (KeyCall K V Q) (Called (Node K V))
  removed_at (removed.Answered answer) = Told (called.Done answer)
  removed_at (removed.Stands trial stands) = At (seeking trial (removing_at setting trial stands))

  -- after a try it stands at the next one, or that ends the tries
  abbrev pub sought_at : Sought → Reached (KeyCall K V Q) (Called (Node K V))
  sought_at (sought.Next trial) = At (seeking trial at.Probes)
  sought_at (sought.Ends end) = removed_at end

  -- what is left of its step, once the word of its try is read, comes to that
  abbrev pub HasSought : (ℕ → Option (Node K V)) → Then (Node K V) (KeyCall K V Q × Called (Node K V)) → Sought → Type 0
  HasSought shown rest result = (end : KeyCall K V Q × Called (Node K V)) × Ends shown rest end × HasOutcome CallGoes end (sought_at result)
