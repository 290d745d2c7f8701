-- A call that stores its own block as straight code: where it stops.
use Rattle.std.specs.Prelude.{◌≡◌, ℕ, Bool, true, false, Option, None}
use Rattle.seize_words.specs.OneMemory.Plan.{Then, Ends}
use Rattle.map_tables.specs.declared.lengths.TheConstants.{FIRST_LEN}
use Rattle.map_tables.specs.declared.node.Node.{Node}
use Rattle.map_tables.specs.declared.setting.Setting.{Setting}
use Rattle.map_tables.specs.declared.trial.Trial.{Trial}
use Rattle.map_machines.specs.NewTable.{first_table}
use Rattle.papaya_raw.specs.CallPoints.{calling}
use Rattle.papaya_raw.specs.Replies.{silent}
use Rattle.papaya_raw.specs.declared.machines.answer.Called.{Called}
use Rattle.papaya_raw.specs.declared.machines.answer.Called.TheVariants as called
use Rattle.papaya_raw.specs.declared.machines.answer.End.TheVariants as ends
use Rattle.papaya_raw.specs.declared.machines.answer.KeyAnswer.TheVariants as answers
use Rattle.papaya_raw.specs.declared.machines.answer.There.{There}
use Rattle.papaya_raw.specs.declared.machines.answer.There.TheVariants as there
use Rattle.papaya_raw.specs.declared.machines.answer.Missing.TheVariants as missing
use Rattle.papaya_raw.specs.declared.machines.call.Calling.{Calling}
use Rattle.papaya_raw.specs.declared.machines.call.Calling.TheVariants as at
use Rattle.papaya_raw.specs.declared.machines.call.KeyCall.{KeyCall}
use Rattle.map_straight.specs.Straight.Disposing.{dispose_at}
use Rattle.map_straight.specs.Straight.Going.{CallGoes}
use Rattle.seize_straight.specs.Reaches.{Reached, At, Told}
use Rattle.map_straight.specs.declared.disposing.Disposed.{Disposed}
use Rattle.map_straight.specs.declared.disposing.Disposed.TheVariants as to
use Rattle.seize_straight.specs.declared.retiring.Retired.TheVariants as retire
use Rattle.map_straight.specs.declared.storing.StoringPoint.{StoringPoint}
use Rattle.map_straight.specs.declared.storing.StoringPoint.TheVariants as spot
use Rattle.map_straight.specs.declared.storing.Stored.{Stored}
use Rattle.map_straight.specs.declared.storing.Stored.TheVariants as stored
use Rattle.map_straight.specs.declared.storing.Tried.{Tried}
use Rattle.map_straight.specs.declared.storing.Tried.TheVariants as tried

-- what it does with a pair of its key: it replaces that, or finds it
abbrev pub is_plain : There → Bool
is_plain there.Puts = true
is_plain there.Answers = true
is_plain _ = false

-- a point, by what was tried there
abbrev pub calling_at : Setting → ℕ → Trial → StoringPoint → Calling
calling_at setting own trial spot.Roots = at.Roots
calling_at setting own trial spot.Firsts = at.Firsts (first_table setting FIRST_LEN)
calling_at setting own trial spot.Probes = at.Probes
calling_at setting own trial spot.Nexts = at.Nexts
calling_at setting own trial (spot.Tries word) = at.Tries word own
calling_at setting own trial (spot.Finds word) = at.Drops (ends.Answered (answers.Found word))
calling_at setting own trial (spot.Disposes word disposed) = at.Disposes (dispose_at setting word trial.table disposed) (answers.Replaced word own)

-- a pair was replaced, and its disposal has ended, or has come so far
abbrev pub replaced_by : Trial → ℕ → ℕ → Disposed → Stored
replaced_by trial own word (to.Retires retire.Ended) = stored.Answered (answers.Replaced word own)
replaced_by trial own word disposed = stored.Stands trial (spot.Disposes word disposed)

module _ {K V Q : Type 0} (setting : Setting) (hash : ℕ) (there : There) (own : ℕ) where
  -- its own block is made, to which this word links, and it stands there, at this try
  abbrev pub storing : Trial → Calling → KeyCall K V Q
  storing trial stands = record (calling setting hash there missing.Puts None None silent stands) { own = own; trial = trial }

  abbrev pub call_at : Trial → StoringPoint → KeyCall K V Q
  call_at trial stands = storing trial (calling_at setting own trial stands)

  -- after a try it stands at the next one, or elsewhere
  abbrev pub try_at : Tried → KeyCall K V Q
  try_at (tried.Next trial) = storing trial at.Probes
  try_at (tried.Stands trial stands) = call_at trial stands

  -- a step that goes on has come to that
  abbrev pub HasTried : KeyCall K V Q × Called (Node K V) → Tried → Type 0
  HasTried end result = (end.0 ≡ try_at result) × CallGoes end.1

  -- what is left of its step, once the word of its try is read, comes to that
  abbrev pub HasRead : (ℕ → Option (Node K V)) → Then (Node K V) (KeyCall K V Q × Called (Node K V)) → Tried → Type 0
  HasRead shown rest result = (end : KeyCall K V Q × Called (Node K V)) × Ends shown rest end × HasTried end result

  -- it has ended with an answer, or stands somewhere
  abbrev pub stored_at : Stored → Reached (KeyCall K V Q) (Called (Node K V))
  stored_at (stored.Answered answer) = Told (called.Done answer)
  stored_at (stored.Stands trial stands) = At (call_at trial stands)
