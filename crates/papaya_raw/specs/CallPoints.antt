-- A call on one key: how it goes on from one point to another.
use Rattle.std.specs.Prelude.{ℕ, ◌+◌, ◌*◌, ◌/◌, ◌%◌, ◌^◌, ◌==◌, Bool, true, false, if◌then◌else◌, Option, Some, None}
use Rattle.map_sweeps.specs.Given.SeizeWordsWord.{link_to, block_in}
use Rattle.map_sweeps.specs.Given.TablesChunks.{is_incremental}
use Rattle.map_sweeps.specs.Given.TablesTrials.{trial_on, with_met, found_full, next_trial}
use Rattle.map_sweeps.specs.Given.TablesFinding.{finding}
use Rattle.map_sweeps.specs.Given.ResizeLookup.{looking}
use Rattle.papaya_raw.specs.Answers.{ended}
use Rattle.papaya_raw.specs.Replies.{silent}
use Rattle.map_sweeps.specs.Given.ResizeNewTable.{first_table, table_after}
use Rattle.map_sweeps.specs.Given.ResizeDispose.{disposing}
use Rattle.map_sweeps.specs.Given.ResizeCopierStates.{helping, copying_all}
use Rattle.map_sweeps.specs.Given.TablesDeclared.lengths.TheConstants.{FIRST_LEN}
use Rattle.map_sweeps.specs.Given.TablesDeclared.lengths.Reason.{Reason}
use Rattle.map_sweeps.specs.Given.TablesDeclared.lengths.Reason.TheVariants.{Full}
use Rattle.map_sweeps.specs.Given.TablesDeclared.marks.TheConstants.{TOMBSTONE}
use Rattle.map_sweeps.specs.Given.TablesDeclared.node.Node.{Node}
use Rattle.map_sweeps.specs.Given.TablesDeclared.node.Node.TheVariants as nodes
use Rattle.map_sweeps.specs.Given.TablesDeclared.setting.Setting.{Setting}
use Rattle.map_sweeps.specs.Given.TablesDeclared.table.Table.{Table}
use Rattle.map_sweeps.specs.Given.TablesDeclared.trial.Trial.{Trial}
use Rattle.map_sweeps.specs.Given.TablesDeclared.finding.Aim.{Aim}
use Rattle.map_sweeps.specs.Given.TablesDeclared.finding.Aim.TheVariants.{Changes, Stores}
use Rattle.map_sweeps.specs.Given.TablesDeclared.finding.Finding.{Finding}
use Rattle.map_sweeps.specs.Given.TablesDeclared.finding.Finding.TheVariants as is
use Rattle.papaya_raw.specs.declared.machines.answer.There.{There}
use Rattle.papaya_raw.specs.declared.machines.answer.There.TheVariants as there
use Rattle.papaya_raw.specs.declared.machines.answer.Missing.{Missing}
use Rattle.papaya_raw.specs.declared.machines.answer.Missing.TheVariants as missing
use Rattle.papaya_raw.specs.declared.machines.answer.KeyAnswer.{KeyAnswer}
use Rattle.papaya_raw.specs.declared.machines.answer.KeyAnswer.TheVariants as answers
use Rattle.papaya_raw.specs.declared.machines.answer.End.{End}
use Rattle.papaya_raw.specs.declared.machines.answer.End.TheVariants as ends
use Rattle.papaya_raw.specs.declared.machines.answer.Called.{Called}
use Rattle.papaya_raw.specs.declared.machines.answer.Called.TheVariants.{Goes, Waits, Asks}
use Rattle.papaya_raw.specs.declared.machines.asking.Asking.TheVariants as asking
use Rattle.papaya_raw.specs.declared.machines.asking.Gap.{Gap}
use Rattle.papaya_raw.specs.declared.machines.asking.Gap.TheVariants as gaps
use Rattle.papaya_raw.specs.declared.machines.asking.Replies.{Replies}
use Rattle.papaya_raw.specs.declared.machines.asking.Told.{Told}
use Rattle.papaya_raw.specs.declared.machines.asking.Told.TheVariants as tells
use Rattle.papaya_raw.specs.declared.machines.call.KeyCall.{KeyCall}
use Rattle.papaya_raw.specs.declared.machines.call.Calling.{Calling}
use Rattle.papaya_raw.specs.declared.machines.call.Calling.TheVariants as at

-- a call that stores none where the key is missing may change the pair that is there, and the others may store one
abbrev pub aim_of : Missing → Aim
aim_of missing.Answers = Changes
aim_of missing.Puts = Stores
aim_of missing.Asks = Stores

-- the word that links to a block of this number by a hash
abbrev pub word_to : ℕ → ℕ → ℕ
word_to block hash = (link_to block % 2 ^ 64 + hash / 2 ^ 57 * 8) % 2 ^ 64

-- why a table is made behind the one of a try: that is full. It is to have places for as many pairs as its tries have met, or those of a table before.
abbrev pub full_for : Trial → Reason
full_for trial = Full trial.met (found_full trial).most

-- nothing was tried yet
abbrev pub untried : Trial
untried = record { table = record { link = 0; len = 0; limit = 0; turn = 0 }; probe = record { i = 0; len = 0 }; met = 0; most = 0 }

module _ {K V Q : Type 0} where
  -- a call that begins
  abbrev pub calling : Setting → ℕ → There → Missing → Option Q → Option (Node K V) → Replies K V → Calling → KeyCall K V Q
  calling setting hash there missing asked unmade replies stands = record {
    setting = setting;
    hash = hash;
    there = there;
    missing = missing;
    asked = asked;
    unmade = unmade;
    replies = replies;
    own = 0;
    trial = untried;
    helped = false;
    stands = stands;
  }

  abbrev pub getting : Setting → ℕ → Q → KeyCall K V Q
  getting setting hash asked =
      calling setting hash there.Answers missing.Answers (Some asked) None silent (at.Looks (looking setting.root setting.mode hash))

  abbrev pub removing : Setting → ℕ → Q → KeyCall K V Q
  removing setting hash asked = calling setting hash there.Removes missing.Answers (Some asked) None silent at.Roots

  abbrev pub inserting : Setting → ℕ → K → V → KeyCall K V Q
  inserting setting hash key value = calling setting hash there.Puts missing.Puts None (Some (nodes.Pair key value)) silent at.Makes

  abbrev pub trying_to_insert : Setting → ℕ → K → V → KeyCall K V Q
  trying_to_insert setting hash key value = calling setting hash there.Answers missing.Puts None (Some (nodes.Pair key value)) silent at.Makes

  -- it stands elsewhere
  abbrev pub standing : KeyCall K V Q → Calling → KeyCall K V Q
  standing c stands = record c { stands = stands }

  -- further steps are needed
  abbrev pub going : KeyCall K V Q → Calling → KeyCall K V Q × Called (Node K V)
  going c stands = (standing c stands, Goes)

  -- it ends, and has no block of its own any longer
  abbrev pub over : KeyCall K V Q → End → KeyCall K V Q × Called (Node K V)
  over c end = (standing c (at.Over end), ended end)

  abbrev pub answered_with : KeyCall K V Q → KeyAnswer → KeyCall K V Q × Called (Node K V)
  answered_with c answer = over c (ends.Answered answer)

  -- it ends, once it has given up its own block, if it has one
  abbrev pub ending : KeyCall K V Q → End → KeyCall K V Q × Called (Node K V)
  ending c end = if c.own == 0 then over c end else going c (at.Drops end)

  -- it answers without a change of the map
  abbrev pub answering : KeyCall K V Q → KeyAnswer → KeyCall K V Q × Called (Node K V)
  answering c answer = ending c (ends.Answered answer)

  -- no table follows the one that was tried, which is full: who needs one makes it
  abbrev pub following_made : KeyCall K V Q → KeyCall K V Q × Called (Node K V)
  following_made c = going (record c { trial = found_full c.trial }) (at.Allocs (table_after c.setting c.trial.table (full_for c.trial)))

  -- It puts its own block in the place of a word, once that has the value which it was told.
  abbrev pub storing : Told V → KeyCall K V Q → ℕ → KeyCall K V Q × Called (Node K V)
  storing tells.Own c word = going c (at.Tries word c.own)
  storing _ c word = going c (at.Asks (asking.Fills word))

  -- It removes the pair of a word, once it has given up its own block, if it has one.
  abbrev pub burying : KeyCall K V Q → ℕ → KeyCall K V Q × Called (Node K V)
  burying c word = if c.own == 0 then going c (at.Tries word TOMBSTONE) else going c (at.Asks (asking.GivesUp word))

  -- where the key is missing, it goes on to store a pair
  abbrev pub at_gap : Gap → KeyCall K V Q → KeyCall K V Q × Called (Node K V)
  at_gap gaps.NoTable c = going c (at.Firsts (first_table c.setting FIRST_LEN))
  at_gap gaps.Free c = storing c.replies.absent c 0
  at_gap gaps.Past c = going c at.Nexts
  at_gap gaps.Last c = following_made c

  -- but asks first, where it was not told yet what to do there
  abbrev pub gap_by : Told V → Gap → KeyCall K V Q → KeyCall K V Q × Called (Node K V)
  gap_by tells.Nothing gap c = (standing c (at.Asks (asking.Absent gap)), Asks None)
  gap_by _ gap c = at_gap gap c

  abbrev pub asking_at : Gap → KeyCall K V Q → KeyCall K V Q × Called (Node K V)
  asking_at gap c = gap_by c.replies.absent gap c

  -- what it does with the pair of a word, by what it was told of that one
  abbrev pub pair_by : Told V → KeyCall K V Q → ℕ → KeyCall K V Q × Called (Node K V)
  pair_by tells.Nothing c word = (standing c (at.Asks (asking.Present word)), Asks (Some word))
  pair_by tells.Removes c word = burying c word
  pair_by told c word = storing told c word

  abbrev pub asking_of : KeyCall K V Q → ℕ → KeyCall K V Q × Called (Node K V)
  asking_of c word = if block_in word == c.replies.pair then pair_by c.replies.present c word else pair_by tells.Nothing c word

  -- The key is not in the map. A call that stores none answers that, and one that asks does so before it goes on.
  -- Where there is no table yet, the others make the first one,
  abbrev pub tableless : Missing → KeyCall K V Q → KeyCall K V Q × Called (Node K V)
  tableless missing.Answers c = answering c answers.Absent
  tableless missing.Puts c = going c (at.Firsts (first_table c.setting FIRST_LEN))
  tableless missing.Asks c = asking_at gaps.NoTable c

  -- where the place of the try is empty, they store their block there,
  abbrev pub at_free : Missing → KeyCall K V Q → KeyCall K V Q × Called (Node K V)
  at_free missing.Answers c = answering c answers.Absent
  at_free missing.Puts c = going c (at.Tries 0 c.own)
  at_free missing.Asks c = asking_at gaps.Free c

  -- and where all tries are made and all pairs are copied at once, they go on in the next table
  abbrev pub at_end : Missing → KeyCall K V Q → KeyCall K V Q × Called (Node K V)
  at_end missing.Answers c = answering c answers.Absent
  at_end missing.Puts c = going c at.Nexts
  at_end missing.Asks c = asking_at gaps.Past c

  -- all tries at a table are made
  abbrev pub beyond : KeyCall K V Q → KeyCall K V Q × Called (Node K V)
  beyond c = if is_incremental c.setting.mode then going c at.Nexts else at_end c.missing c

  -- no table follows the one that was tried
  abbrev pub at_last : Missing → KeyCall K V Q → KeyCall K V Q × Called (Node K V)
  at_last missing.Answers c = if is_incremental c.setting.mode then answering c answers.Absent else following_made c
  at_last missing.Puts c = following_made c
  at_last missing.Asks c = if is_incremental c.setting.mode then asking_at gaps.Last c else following_made c

  -- the key is there, in the pair of a word
  abbrev pub at_pair : There → KeyCall K V Q → ℕ → KeyCall K V Q × Called (Node K V)
  at_pair there.Answers c word = answering c (answers.Found word)
  at_pair there.Puts c word = going c (at.Tries word c.own)
  at_pair there.Removes c word = going c (at.Tries word TOMBSTONE)
  at_pair there.Asks c word = asking_of c word

  -- the word of its try is counted, if it names a pair
  abbrev pub having_met : KeyCall K V Q → ℕ → KeyCall K V Q
  having_met c word = record c { trial = with_met c.trial word }

  -- a try was passed
  abbrev pub passed : KeyCall K V Q → Option Trial → KeyCall K V Q × Called (Node K V)
  passed c (Some trial) = going (record c { trial = trial }) at.Probes
  passed c None = beyond c

  -- The pair of the key is being copied. Who has just read its word waits, and who has tried to change it reads it again.
  abbrev pub halted : Bool → KeyCall K V Q → KeyCall K V Q × Called (Node K V)
  halted loaded c = if loaded then (standing c at.Probes, Waits) else going c at.Probes

  -- how it goes on by what the word of a try says
  abbrev pub after_finding : Bool → KeyCall K V Q → ℕ → Finding → KeyCall K V Q × Called (Node K V)
  after_finding loaded c word is.Free = at_free c.missing c
  after_finding loaded c word is.Passed = passed (having_met c word) (next_trial (with_met c.trial word))
  after_finding loaded c word is.Moved = going c at.Nexts
  after_finding loaded c word is.Copying = halted loaded c
  after_finding loaded c word is.There = at_pair c.there c word

  abbrev pub told : Bool → KeyCall K V Q → ℕ → Bool → KeyCall K V Q × Called (Node K V)
  told loaded c word same = after_finding loaded c word (finding c.setting.mode (aim_of c.missing) word same)

  -- a table is entered
  abbrev pub entering : KeyCall K V Q → Table → KeyCall K V Q × Called (Node K V)
  entering c table = going (record c { trial = trial_on c.trial table c.hash }) at.Probes

  -- A table follows the one that was tried. Where pairs move in incremental mode, a call helps once before it goes on there; else the
  -- whole table is copied first.
  abbrev pub continued_in : KeyCall K V Q → Table → KeyCall K V Q × Called (Node K V)
  continued_in c table =
      if is_incremental c.setting.mode
      then (if c.helped then entering c table else going (record c { helped = true }) (at.Helps (helping c.setting) table))
      else going c (at.Copies (copying_all c.setting c.trial.table table))

  -- the own block replaced nothing or the pair of a word, or the tombstone replaced that pair
  abbrev pub changed : KeyCall K V Q → ℕ → ℕ → KeyCall K V Q × Called (Node K V)
  changed c word new =
      if new == TOMBSTONE then going c (at.Counts word) else
      (if word == 0 then going c (at.Counts 0) else
      going c (at.Disposes (disposing c.setting word c.trial.table) (answers.Replaced word c.own)))

  -- the change is counted: a removed pair is disposed of
  abbrev pub counted : KeyCall K V Q → ℕ → KeyCall K V Q × Called (Node K V)
  counted c removed =
      if removed == 0 then over c (ends.Answered (answers.Stored c.own))
      else going c (at.Disposes (disposing c.setting removed c.trial.table) (answers.Removed removed))
