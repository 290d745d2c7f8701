-- From each point the call by the key goes on to where the one by another form does.
use Rattle.std.specs.Prelude.{◌≡◌, ℕ, ◌==◌, Bool, true, false, if◌then◌else◌, Option, Some, None, Result, Ok}
use Rattle.std.proofs.Common.{refl, ap}
use Rattle.seize_words.specs.OneMemory.Word.{block_in}
use Rattle.seize_words.specs.declared.fault.Fault.TheVariants.{RemoveNothing}
use Rattle.map_tables.specs.Chunks.{is_incremental}
use Rattle.map_tables.specs.Finding.{finding}
use Rattle.map_tables.specs.Trials.{next_trial, with_met}
use Rattle.map_tables.specs.declared.finding.Finding.{Finding}
use Rattle.map_tables.specs.declared.finding.Finding.TheVariants as is
use Rattle.map_tables.specs.declared.marks.TheConstants.{TOMBSTONE}
use Rattle.map_tables.specs.declared.node.Node.{Node}
use Rattle.map_tables.specs.declared.table.Table.{Table}
use Rattle.map_tables.specs.declared.trial.Trial.{Trial}
use Rattle.map_machines.specs.CopierStates.{helping, copying_all}
use Rattle.map_machines.specs.Dispose.{disposing}
use Rattle.many_calls.specs.Given.RawCallAsks.{absent_replied, present_replied, replied_at, with_absent, with_present}
use Rattle.many_calls.specs.Given.RawCallPoints.{going, over, standing, storing, ending, burying, at_gap, gap_by, pair_by, asking_of, tableless, at_free, at_end, beyond, at_last, at_pair, having_met, passed, after_finding, aim_of, told, entering, continued_in, changed, counted, following_made}
use Rattle.many_calls.specs.Given.RawDeclared.machines.answer.Called.{Called}
use Rattle.many_calls.specs.Given.RawDeclared.machines.answer.Called.TheVariants.{Waits}
use Rattle.many_calls.specs.Given.RawDeclared.machines.answer.End.{End}
use Rattle.many_calls.specs.Given.RawDeclared.machines.answer.End.TheVariants as ends
use Rattle.many_calls.specs.Given.RawDeclared.machines.answer.KeyAnswer.TheVariants as answers
use Rattle.many_calls.specs.Given.RawDeclared.machines.answer.Missing.{Missing}
use Rattle.many_calls.specs.Given.RawDeclared.machines.answer.Missing.TheVariants as missing
use Rattle.many_calls.specs.Given.RawDeclared.machines.answer.There.{There}
use Rattle.many_calls.specs.Given.RawDeclared.machines.answer.There.TheVariants as there
use Rattle.many_calls.specs.Given.RawDeclared.machines.asking.Asking.TheVariants as asking
use Rattle.many_calls.specs.Given.RawDeclared.machines.asking.Gap.{Gap}
use Rattle.many_calls.specs.Given.RawDeclared.machines.asking.Gap.TheVariants as gaps
use Rattle.many_calls.specs.Given.RawDeclared.machines.asking.MachineReply.{MachineReply}
use Rattle.many_calls.specs.Given.RawDeclared.machines.asking.MachineReply.TheVariants as reply
use Rattle.many_calls.specs.Given.RawDeclared.machines.asking.Takes.{Takes}
use Rattle.many_calls.specs.Given.RawDeclared.machines.asking.Takes.TheVariants as takes
use Rattle.many_calls.specs.Given.RawDeclared.machines.asking.Told.{Told}
use Rattle.many_calls.specs.Given.RawDeclared.machines.asking.Told.TheVariants as tells
use Rattle.many_calls.specs.Given.RawDeclared.machines.call.Calling.{Calling}
use Rattle.many_calls.specs.Given.RawDeclared.machines.call.Calling.TheVariants as at
use Rattle.many_calls.specs.Given.RawDeclared.machines.call.KeyCall.{KeyCall}
use Rattle.map_measures.specs.ByKey.ByKey.{key_call}

module _ {K V Q : Type 0} (stands_for : Q → K) where
  abbrev pub by : KeyCall K V Q → KeyCall K V K
  by c = key_call stands_for c

  -- where it goes on, with what it tells
  abbrev pub on : KeyCall K V Q × Called (Node K V) → KeyCall K V K × Called (Node K V)
  on end = (by end.0, end.1)

  -- by a test
  either : (b : Bool) (x y : KeyCall K V Q × Called (Node K V)) → (if b then on x else on y) ≡ on (if b then x else y)
  either true x y = refl
  either false x y = refl

  pub ending_on : (c : KeyCall K V Q) (end : End) → ending (by c) end ≡ on (ending c end)
  ending_on c end = either (c.own == 0) (over c end) (going c (at.Drops end))

  storing_on : (told : Told V) (c : KeyCall K V Q) (word : ℕ) → storing told (by c) word ≡ on (storing told c word)
  storing_on tells.Own c word = refl
  storing_on _ c word = refl

  pub burying_on : (c : KeyCall K V Q) (word : ℕ) → burying (by c) word ≡ on (burying c word)
  burying_on c word = either (c.own == 0) (going c (at.Tries word TOMBSTONE)) (going c (at.Asks (asking.GivesUp word)))

  pub at_gap_on : (gap : Gap) (c : KeyCall K V Q) → at_gap gap (by c) ≡ on (at_gap gap c)
  at_gap_on gaps.NoTable c = refl
  at_gap_on gaps.Free c = storing_on c.replies.absent c 0
  at_gap_on gaps.Past c = refl
  at_gap_on gaps.Last c = refl

  gap_on : (told : Told V) (gap : Gap) (c : KeyCall K V Q) → gap_by told gap (by c) ≡ on (gap_by told gap c)
  gap_on tells.Nothing gap c = refl
  gap_on _ gap c = at_gap_on gap c

  pair_on : (told : Told V) (c : KeyCall K V Q) (word : ℕ) → pair_by told (by c) word ≡ on (pair_by told c word)
  pair_on tells.Nothing c word = refl
  pair_on tells.Removes c word = burying_on c word
  pair_on told c word = storing_on told c word

  asking_on : (c : KeyCall K V Q) (word : ℕ) → asking_of (by c) word ≡ on (asking_of c word)
  asking_on c word = of (block_in word == c.replies.pair)
    where
      of : (b : Bool) → (if b then pair_by c.replies.present (by c) word else pair_by tells.Nothing (by c) word)
          ≡ on (if b then pair_by c.replies.present c word else pair_by tells.Nothing c word)
      of true = pair_on c.replies.present c word
      of false = refl

  pub tableless_on : (m : Missing) (c : KeyCall K V Q) → tableless m (by c) ≡ on (tableless m c)
  tableless_on missing.Answers c = ending_on c (ends.Answered answers.Absent)
  tableless_on missing.Puts c = refl
  tableless_on missing.Asks c = gap_on c.replies.absent gaps.NoTable c

  at_free_on : (m : Missing) (c : KeyCall K V Q) → at_free m (by c) ≡ on (at_free m c)
  at_free_on missing.Answers c = ending_on c (ends.Answered answers.Absent)
  at_free_on missing.Puts c = refl
  at_free_on missing.Asks c = gap_on c.replies.absent gaps.Free c

  at_end_on : (m : Missing) (c : KeyCall K V Q) → at_end m (by c) ≡ on (at_end m c)
  at_end_on missing.Answers c = ending_on c (ends.Answered answers.Absent)
  at_end_on missing.Puts c = refl
  at_end_on missing.Asks c = gap_on c.replies.absent gaps.Past c

  beyond_on : (c : KeyCall K V Q) → beyond (by c) ≡ on (beyond c)
  beyond_on c = of (is_incremental c.setting.mode)
    where
      of : (b : Bool) → (if b then going (by c) at.Nexts else at_end c.missing (by c)) ≡ on (if b then going c at.Nexts else at_end c.missing c)
      of true = refl
      of false = at_end_on c.missing c

  pub at_last_on : (m : Missing) (c : KeyCall K V Q) → at_last m (by c) ≡ on (at_last m c)
  at_last_on missing.Answers c = of (is_incremental c.setting.mode)
    where
      of : (b : Bool) → (if b then ending (by c) (ends.Answered answers.Absent) else following_made (by c)) ≡ on (if b then ending c (ends.Answered answers.Absent) else following_made c)
      of true = ending_on c (ends.Answered answers.Absent)
      of false = refl
  at_last_on missing.Puts c = refl
  at_last_on missing.Asks c = of (is_incremental c.setting.mode)
    where
      of : (b : Bool) → (if b then gap_by c.replies.absent gaps.Last (by c) else following_made (by c)) ≡ on (if b then gap_by c.replies.absent gaps.Last c else following_made c)
      of true = gap_on c.replies.absent gaps.Last c
      of false = refl

  at_pair_on : (t : There) (c : KeyCall K V Q) (word : ℕ) → at_pair t (by c) word ≡ on (at_pair t c word)
  at_pair_on there.Answers c word = ending_on c (ends.Answered (answers.Found word))
  at_pair_on there.Puts c word = refl
  at_pair_on there.Removes c word = refl
  at_pair_on there.Asks c word = asking_on c word

  passed_on : (c : KeyCall K V Q) (trial : Option Trial) → passed (by c) trial ≡ on (passed c trial)
  passed_on c (Some trial) = refl
  passed_on c None = beyond_on c

  told_of_on : (loaded : Bool) (c : KeyCall K V Q) (word : ℕ) (f : Finding) → after_finding loaded (by c) word f ≡ on (after_finding loaded c word f)
  told_of_on loaded c word is.Free = at_free_on c.missing c
  told_of_on loaded c word is.Passed = passed_on (having_met c word) (next_trial (with_met c.trial word))
  told_of_on loaded c word is.Moved = refl
  told_of_on loaded c word is.Copying = either loaded (standing c at.Probes, Waits) (going c at.Probes)
  told_of_on loaded c word is.There = at_pair_on c.there c word

  pub told_on : (loaded : Bool) (c : KeyCall K V Q) (word : ℕ) (same : Bool) → told loaded (by c) word same ≡ on (told loaded c word same)
  told_on loaded c word same = told_of_on loaded c word (finding c.setting.mode (aim_of c.missing) word same)

  pub went_further : (c : KeyCall K V Q) (table : Table) → continued_in (by c) table ≡ on (continued_in c table)
  went_further c table = of (is_incremental c.setting.mode) c.helped
    where
      of : (b h : Bool) → (if b then (if h then entering (by c) table else going (record (by c) { helped = true }) (at.Helps (helping c.setting) table)) else going (by c) (at.Copies (copying_all c.setting c.trial.table table)))
          ≡ on (if b then (if h then entering c table else going (record c { helped = true }) (at.Helps (helping c.setting) table)) else going c (at.Copies (copying_all c.setting c.trial.table table)))
      of true true = refl
      of true false = refl
      of false h = refl

  pub changed_on : (c : KeyCall K V Q) (word new : ℕ) → changed (by c) word new ≡ on (changed c word new)
  changed_on c word new = of (new == TOMBSTONE) (word == 0)
    where
      of : (b z : Bool) → (if b then going (by c) (at.Counts word) else (if z then going (by c) (at.Counts 0) else going (by c) (at.Disposes (disposing c.setting word c.trial.table) (answers.Replaced word c.own))))
          ≡ on (if b then going c (at.Counts word) else (if z then going c (at.Counts 0) else going c (at.Disposes (disposing c.setting word c.trial.table) (answers.Replaced word c.own))))
      of true z = refl
      of false true = refl
      of false false = refl

  pub counted_on : (c : KeyCall K V Q) (removed : ℕ) → counted (by c) removed ≡ on (counted c removed)
  counted_on c removed =
      either (removed == 0) (over c (ends.Answered (answers.Stored c.own))) (going c (at.Disposes (disposing c.setting removed c.trial.table) (answers.Removed removed)))

  -- by a reply
  abbrev pub Replied : KeyCall K V Q × Result Unit (MachineReply V) → KeyCall K V K × Result Unit (MachineReply V)
  Replied end = (by end.0, end.1)

  taken : {x : KeyCall K V K × Called (Node K V)} (y : KeyCall K V Q × Called (Node K V)) → x ≡ on y → ◌≡◌ {A = KeyCall K V K × Result Unit (MachineReply V)} (x.0, Ok tt) (by y.0, Ok tt)
  taken y is = ap (λ (z : KeyCall K V K × Called (Node K V)). (z.0, Ok tt)) is

  absent_on : (t : Takes) (c : KeyCall K V Q) (gap : Gap) (told : MachineReply V) → absent_replied t (by c) gap told ≡ Replied (absent_replied t c gap told)
  absent_on takes.Values c gap (reply.Insert value) = taken (at_gap gap (with_absent c value)) (at_gap_on gap (with_absent c value))
  absent_on takes.Changes c gap (reply.Insert value) = taken (at_gap gap (with_absent c value)) (at_gap_on gap (with_absent c value))
  absent_on takes.Changes c gap reply.Remove = taken (ending c (ends.Refused RemoveNothing)) (ending_on c (ends.Refused RemoveNothing))
  absent_on takes.Changes c gap reply.Abort = taken (ending c (ends.Answered answers.Absent)) (ending_on c (ends.Answered answers.Absent))
  absent_on _ c gap told = refl

  present_on : (t : Takes) (c : KeyCall K V Q) (word : ℕ) (told : MachineReply V) → present_replied t (by c) word told ≡ Replied (present_replied t c word told)
  present_on takes.Values c word (reply.Insert value) = refl
  present_on takes.Changes c word (reply.Insert value) = refl
  present_on takes.Changes c word reply.Remove = taken (burying (with_present c word tells.Removes) word) (burying_on (with_present c word tells.Removes) word)
  present_on takes.Changes c word reply.Abort = taken (ending c (ends.Answered (answers.Found word))) (ending_on c (ends.Answered (answers.Found word)))
  present_on takes.Choices c word reply.Yes = taken (burying c word) (burying_on c word)
  present_on takes.Choices c word reply.No = taken (ending c (ends.Answered (answers.Found word))) (ending_on c (ends.Answered (answers.Found word)))
  present_on _ c word told = refl

  pub replied_on : (p : Calling) (c : KeyCall K V Q) (told : MachineReply V) → replied_at p (by c) told ≡ Replied (replied_at p c told)
  replied_on (at.Asks (asking.Absent gap)) c told = absent_on c.replies.takes c gap told
  replied_on (at.Asks (asking.Present word)) c told = present_on c.replies.takes c word told
  replied_on _ c told = refl
