-- The points of a call on one key at which it goes on, or ends, whatever the memory is.
use Rattle.std.specs.Prelude.{◌==◌, if◌then◌else◌, Ok, Err, Option, Some, None}
use Rattle.std.proofs.Common.{◌≡◌, ◌≢◌, ℕ, Bool, true, false, refl}
use Rattle.seize_words.specs.OneMemory.Word.{block_in}
use Rattle.seize_words.specs.OneMemory.Op.{Out, Found, Made, Taken, Exchanged}
use Rattle.seize_words.proofs.OneMemory.OneOwner.Operations.{loaded}
use Rattle.seize.specs.declared.advance.Advance.{Advance}
use Rattle.seize.specs.declared.advance.Advance.TheVariants as progress
use Rattle.seize.specs.declared.rows.settle.Settled.{Settled}
use Rattle.seize.specs.declared.rows.settle.Settled.TheVariants as settled
use Rattle.map_tables.specs.Chunks.{is_incremental}
use Rattle.map_tables.specs.Finding.{finding, may_name}
use Rattle.map_tables.specs.Trials.{next_trial, with_met}
use Rattle.map_tables.specs.declared.finding.Finding.{Finding}
use Rattle.map_tables.specs.declared.finding.Finding.TheVariants as is
use Rattle.map_tables.specs.declared.marks.TheConstants.{TOMBSTONE}
use Rattle.map_tables.specs.declared.node.Node.{Node}
use Rattle.map_tables.specs.declared.node.Node.TheVariants as nodes
use Rattle.map_tables.specs.declared.table.Table.{Table}
use Rattle.map_tables.specs.declared.trial.Trial.{Trial}
use Rattle.many_calls.specs.Given.RawAnswers.{ended}
use Rattle.many_calls.specs.Given.RawCall.{have_one_key, made, makes_of, root_found, next_found, dropped, key_read, pair_read, tried, looked, looks_for, first_made, next_made, disposed, plan_at}
use Rattle.many_calls.specs.Given.RawCallFills.{filled, putting_by, fill_by, emptied, fills_with, given_up, asks_at}
use Rattle.many_calls.specs.Given.RawCallPoints.{aim_of, standing, going, over, ending, storing, at_gap, gap_by, pair_by, tableless, at_free, at_end, at_last, at_pair, passed, after_finding, told, continued_in, changed, counted, having_met, asking_at, burying, entering, following_made, answering}
use Rattle.many_calls.specs.Given.RawDeclared.machines.answer.KeyAnswer.{KeyAnswer}
use Rattle.many_calls.specs.Given.RawDeclared.machines.answer.Called.{Called}
use Rattle.many_calls.specs.Given.RawDeclared.machines.answer.Called.TheVariants as called
use Rattle.many_calls.specs.Given.RawDeclared.machines.answer.End.{End}
use Rattle.many_calls.specs.Given.RawDeclared.machines.answer.End.TheVariants as ends
use Rattle.many_calls.specs.Given.RawDeclared.machines.answer.Missing.{Missing}
use Rattle.many_calls.specs.Given.RawDeclared.machines.answer.Missing.TheVariants as missing
use Rattle.many_calls.specs.Given.RawDeclared.machines.answer.There.{There}
use Rattle.many_calls.specs.Given.RawDeclared.machines.answer.There.TheVariants as there
use Rattle.many_calls.specs.Given.RawDeclared.machines.asking.Asking.{Asking}
use Rattle.many_calls.specs.Given.RawDeclared.machines.asking.Asking.TheVariants as asking
use Rattle.many_calls.specs.Given.RawDeclared.machines.asking.Gap.{Gap}
use Rattle.many_calls.specs.Given.RawDeclared.machines.asking.Gap.TheVariants as gaps
use Rattle.many_calls.specs.Given.RawDeclared.machines.asking.Told.{Told}
use Rattle.many_calls.specs.Given.RawDeclared.machines.asking.Told.TheVariants as tells
use Rattle.many_calls.specs.Given.RawDeclared.machines.call.KeyCall.{KeyCall}
use Rattle.many_calls.specs.Given.RawDeclared.machines.call.Calling.{Calling}
use Rattle.many_calls.specs.Given.RawDeclared.machines.call.Calling.TheVariants as at
use Rattle.many_calls.specs.Given.RawReplies.{value_for, as_own}
use Rattle.map_machines.specs.CopierStates.{helping, copying_all}
use Rattle.map_machines.specs.Dispose.{disposing, dispose_plan}
use Rattle.map_tables.specs.Nodes.{table_seen}
use Rattle.many_calls.specs.Given.RawDeclared.machines.answer.KeyAnswer.TheVariants as answers
use Rattle.map_machines.specs.Lookup.{names_pair, lookup_plan}
use Rattle.map_machines.specs.NewTable.{new_table_plan}
use Rattle.map_machines.specs.declared.dispose.Dispose.{Dispose}
use Rattle.map_machines.specs.declared.lookup.Lookup.{Lookup}
use Rattle.map_machines.specs.declared.new_table.NewTable.{NewTable}
use Rattle.many_calls.specs.Given.PointsTold.{IsRowOf}
use Rattle.many_calls.proofs.Given.RuleKeys.Always.{Always, AlwaysOf, always_if}
use Rattle.map_measures.proofs.Waits.Never.{Advances, Settles, always_within, lookup_goes, new_table_goes, dispose_goes}

-- it goes on, or has ended, or asks
abbrev pub Continues : {T S : Type 0} → S × Called T → Type 0
Continues (s, called.Waits) = ⊥
Continues (s, _) = Unit {0}

module _ {K V Q : Type 0} where
  abbrev pub On : KeyCall K V Q × Called (Node K V) → Type 0
  On = Continues

  ended_goes : (q : KeyCall K V Q) (end : End) → On (q, ended {T = Node K V} end)
  ended_goes q (ends.Answered answer) = tt
  ended_goes q (ends.Refused fault) = tt

  either : (b : Bool) (x y : KeyCall K V Q × Called (Node K V)) → On x → On y → On (if b then x else y)
  either true x y f g = f
  either false x y f g = g

  pub ending_goes : (q : KeyCall K V Q) (end : End) → On (ending {V = V} q end)
  ending_goes q end = either (q.own == 0) (over q end) (going q (at.Drops end)) (ended_goes (standing q (at.Over end)) end) tt

  storing_goes : (told : Told V) (q : KeyCall K V Q) (word : ℕ) → On (storing told q word)
  storing_goes tells.Own q word = tt
  storing_goes _ q word = tt

  burying_goes : (q : KeyCall K V Q) (word : ℕ) → On (burying {V = V} q word)
  burying_goes q word = either (q.own == 0) (going q (at.Tries word TOMBSTONE)) (going q (at.Asks (asking.GivesUp word))) tt tt

  gap_goes : (gap : Gap) (q : KeyCall K V Q) → On (at_gap {V = V} gap q)
  gap_goes gaps.NoTable q = tt
  gap_goes gaps.Free q = storing_goes q.replies.absent q 0
  gap_goes gaps.Past q = tt
  gap_goes gaps.Last q = tt

  asking_goes : (told : Told V) (gap : Gap) (q : KeyCall K V Q) → On (gap_by told gap q)
  asking_goes tells.Nothing gap q = tt
  asking_goes tells.Own gap q = gap_goes gap q
  asking_goes tells.Removes gap q = gap_goes gap q
  asking_goes (tells.Value value) gap q = gap_goes gap q

  pair_by_goes : (told : Told V) (q : KeyCall K V Q) (word : ℕ) → On (pair_by told q word)
  pair_by_goes tells.Nothing q word = tt
  pair_by_goes tells.Own q word = tt
  pair_by_goes tells.Removes q word = burying_goes q word
  pair_by_goes (tells.Value value) q word = tt

  tableless_goes : (m : Missing) (q : KeyCall K V Q) → On (tableless {V = V} m q)
  tableless_goes missing.Answers q = ending_goes q _
  tableless_goes missing.Puts q = tt
  tableless_goes missing.Asks q = asking_goes q.replies.absent gaps.NoTable q

  free_goes : (m : Missing) (q : KeyCall K V Q) → On (at_free {V = V} m q)
  free_goes missing.Answers q = ending_goes q _
  free_goes missing.Puts q = tt
  free_goes missing.Asks q = asking_goes q.replies.absent gaps.Free q

  end_goes : (m : Missing) (q : KeyCall K V Q) → On (at_end {V = V} m q)
  end_goes missing.Answers q = ending_goes q _
  end_goes missing.Puts q = tt
  end_goes missing.Asks q = asking_goes q.replies.absent gaps.Past q

  last_goes : (m : Missing) (q : KeyCall K V Q) → On (at_last {V = V} m q)
  last_goes missing.Answers q = either (is_incremental q.setting.mode) (answering q answers.Absent) (following_made q) (ending_goes q _) tt
  last_goes missing.Puts q = tt
  last_goes missing.Asks q = either (is_incremental q.setting.mode) (asking_at gaps.Last q) (following_made q) (asking_goes q.replies.absent gaps.Last q) tt

  pair_goes : (x : There) (q : KeyCall K V Q) (word : ℕ) → On (at_pair {V = V} x q word)
  pair_goes there.Answers q word = ending_goes q _
  pair_goes there.Puts q word = tt
  pair_goes there.Removes q word = tt
  pair_goes there.Asks q word =
      either (block_in word == q.replies.pair) (pair_by q.replies.present q word) (pair_by tells.Nothing q word) (pair_by_goes q.replies.present q word) tt

  passed_goes : (q : KeyCall K V Q) (next : Option Trial) → On (passed {V = V} q next)
  passed_goes q (Some trial) = tt
  passed_goes q None = either (is_incremental q.setting.mode) (going q at.Nexts) (at_end q.missing q) tt (end_goes q.missing q)

  -- it halts only where it has just read the word of a pair that is being copied
  pub told_goes : (loaded : Bool) (q : KeyCall K V Q) (word : ℕ) (x : Finding) → (loaded ≡ true → x ≢ is.Copying) → On (after_finding {V = V} loaded q word x)
  told_goes loaded q word is.Free other = free_goes q.missing q
  told_goes loaded q word is.Passed other = passed_goes (having_met q word) (next_trial (with_met q.trial word))
  told_goes loaded q word is.Moved other = tt
  told_goes true q word is.Copying other = absurd (other refl refl)
  told_goes false q word is.Copying other = tt
  told_goes loaded q word is.There other = pair_goes q.there q word

  went_goes : (q : KeyCall K V Q) (table : Table) → On (continued_in {V = V} q table)
  went_goes q table = by (is_incremental q.setting.mode) q.helped
    where
      by : (b h : Bool)
          → On (if b then (if h then entering q table else going (record q { helped = true }) (at.Helps (helping q.setting) table)) else going q (at.Copies (copying_all q.setting q.trial.table table)))
      by true true = tt
      by true false = tt
      by false h = tt

  changed_goes : (q : KeyCall K V Q) (word new : ℕ) → On (changed {V = V} q word new)
  changed_goes q word new = by (new == TOMBSTONE) (word == 0)
    where
      by : (b e : Bool)
          → On (if b then going q (at.Counts word) else (if e then going q (at.Counts 0) else going q (at.Disposes (disposing q.setting word q.trial.table) (answers.Replaced word q.own))))
      by true e = tt
      by false true = tt
      by false false = tt

  counted_goes : (q : KeyCall K V Q) (removed : ℕ) → On (counted {V = V} q removed)
  counted_goes q removed =
      either (removed == 0) (over q (ends.Answered (answers.Stored q.own)))
      (going q (at.Disposes (disposing q.setting removed q.trial.table) (answers.Removed removed))) tt tt

-- where it is to be told by what it finds, when it has tried to change the word that it found
module _ {K V Q : Type 0} (asks : Q → K → Bool) (same : K → K → Bool) (p : KeyCall K V Q) where
  now : (word : ℕ) (flag : Bool) → On (told {V = V} false p word flag)
  now word flag = told_goes false p word (finding p.setting.mode (aim_of p.missing) word flag) (λ e. absurd (cc e))

  key_goes : (word : ℕ) (key : Option K) → Always On (key_read asks same false p word key)
  key_goes word (Some key) = λ value. now word (names_pair (same key) value)
  key_goes word None = λ own value. now word (have_one_key same own value)

  asked_goes : (word : ℕ) (asked : Option Q) → Always On (pair_read asks same false p word asked)
  asked_goes word (Some asked) = λ value. now word (names_pair (asks asked) value)
  asked_goes word None = key_goes word p.replies.key

  tried_goes : (word new : ℕ) (out : Out (Node K V)) → Always On (tried asks same p word new out)
  tried_goes word new (Exchanged (Ok found)) = changed_goes p word new
  tried_goes word new (Exchanged (Err found)) =
      always_if On (may_name p.hash found) (pair_read asks same false p found p.asked) _ (asked_goes found p.asked) (now found false)
  tried_goes word new _ = tt

module _ {K V Q : Type 0} (p : KeyCall K V Q) where
  made_goes : (out : Out (Node K V)) → Always On (made p out)
  made_goes (Made (Ok block)) = tt
  made_goes (Made (Err node)) = tt
  made_goes _ = tt

  makes_goes : (unmade : Option (Node K V)) → AlwaysOf On (makes_of p unmade)
  makes_goes (Some node) = made_goes
  makes_goes None = tt

  root_goes : (out : Out (Node K V)) → Always On (root_found p out)
  root_goes (Found link) = always_if On (link == 0) _ _ (tableless_goes p.missing p) (λ value. tt)
  root_goes _ = tt

  next_goes : (out : Out (Node K V)) → Always On (next_found p out)
  next_goes (Found link) = always_if On (link == 0) _ _ (last_goes p.missing p) (λ value. went_goes p (table_seen link value))
  next_goes _ = tt

  dropped_goes : (end : End) (out : Out (Node K V)) → Always On (dropped p end out)
  dropped_goes end (Taken node) = tt
  dropped_goes end _ = tt

  looked_goes : (to : Lookup × Advance (Option ℕ)) → Advances to → On (looked p to)
  looked_goes (next, progress.Goes) on = tt
  looked_goes (next, progress.Waits) on = on
  looked_goes (next, progress.Done (Some found)) on = tt
  looked_goes (next, progress.Done None) on = tt
  looked_goes (next, progress.Refused fault) on = tt

  pub looks_goes : (asks : Q → K → Bool) (l : Lookup) (asked : Option Q) → AlwaysOf On (looks_for asks p l asked)
  looks_goes asks l (Some asked) = always_within Advances On (looked p) looked_goes (lookup_plan (asks asked) l) (lookup_goes V (asks asked) l)
  looks_goes asks l None = tt

  first_goes : (to : NewTable × Advance Table) → Advances to → On (first_made p to)
  first_goes (next, progress.Goes) on = tt
  first_goes (next, progress.Waits) on = on
  first_goes (next, progress.Done table) on = tt
  first_goes (next, progress.Refused fault) on = ending_goes p (ends.Refused fault)

  following_goes : (to : NewTable × Advance Table) → Advances to → On (next_made p to)
  following_goes (next, progress.Goes) on = tt
  following_goes (next, progress.Waits) on = on
  following_goes (next, progress.Done table) on = went_goes p table
  following_goes (next, progress.Refused fault) on = ending_goes p (ends.Refused fault)

  disposed_goes : (answer : KeyAnswer) (to : Dispose × Settled (Node K V)) → Settles to → On (disposed p answer to)
  disposed_goes answer (next, settled.Goes) on = tt
  disposed_goes answer (next, settled.Waits) on = on
  disposed_goes answer (next, settled.Gave value) on = tt
  disposed_goes answer (next, settled.Done) on = tt

  filled_goes : (q : KeyCall K V Q) (word : ℕ) (out : Out (Node K V)) → Always On (filled q word out)
  filled_goes q word (Made (Ok block)) = tt
  filled_goes q word (Made (Err node)) = tt
  filled_goes q word (Taken node) = tt
  filled_goes q word _ = tt

  putting_goes : (b : Bool) (q : KeyCall K V Q) (word : ℕ) (key : K) (value : V) → AlwaysOf On (putting_by b q word key value)
  putting_goes true q word key value = filled_goes q word
  putting_goes false q word key value = filled_goes q word

  fill_goes : (o : Option V) (q : KeyCall K V Q) (word : ℕ) (key : K) → AlwaysOf On (fill_by o q word key)
  fill_goes (Some value) q word key = putting_goes (q.own == 0) (record q { replies = record q.replies { key = None } }) word key value
  fill_goes None q word key = tt

  emptied_goes : (word : ℕ) (out : Out (Node K V)) → Always On (emptied p word out)
  emptied_goes word (Taken (nodes.Pair key value)) = tt
  emptied_goes word _ = tt

  fills_goes : (key : Option K) (word : ℕ) → AlwaysOf On (fills_with key p word)
  fills_goes (Some key) word = fill_goes (value_for p.replies word) (record p { replies = as_own p.replies word }) word key
  fills_goes None word = emptied_goes word

  given_goes : (word : ℕ) (out : Out (Node K V)) → Always On (given_up p word out)
  given_goes word (Taken (nodes.Pair key value)) = tt
  given_goes word (Taken _) = tt
  given_goes word _ = tt

  asks_goes : (asks_now : Asking) → AlwaysOf On (asks_at p asks_now)
  asks_goes (asking.Absent gap) = tt
  asks_goes (asking.Present word) = tt
  asks_goes (asking.Fills word) = fills_goes p.replies.key word
  asks_goes (asking.GivesUp word) = given_goes word

-- the points at which it may wait
abbrev pub MayWait : Calling → Type 0
MayWait at.Probes = Unit {0}
MayWait (at.Helps copier goal) = Unit {0}
MayWait (at.Copies copier) = Unit {0}
MayWait (at.Disposes dispose answer) = IsRowOf dispose.stands
MayWait _ = ⊥

-- at all others it goes on
module _ {K V Q : Type 0} (same : K → K → Bool) (hash : K → ℕ) (asks : Q → K → Bool) (p : KeyCall K V Q) where
  pub goes_at : (stands : Calling) → (MayWait stands → ⊥) → AlwaysOf On (plan_at asks same hash p stands)
  goes_at at.Makes none = makes_goes p p.unmade
  goes_at (at.Looks lookup) none = looks_goes p asks lookup p.asked
  goes_at at.Roots none = root_goes p
  goes_at at.Probes none = absurd (none tt)
  goes_at (at.Tries word new) none = tried_goes asks same p word new
  goes_at (at.Counts removed) none = λ out. counted_goes p removed
  goes_at at.Nexts none = next_goes p
  goes_at (at.Firsts making) none = always_within Advances On (first_made p) (first_goes p) (new_table_plan making) (new_table_goes K V making)
  goes_at (at.Allocs making) none = always_within Advances On (next_made p) (following_goes p) (new_table_plan making) (new_table_goes K V making)
  goes_at (at.Helps copier goal) none = absurd (none tt)
  goes_at (at.Copies copier) none = absurd (none tt)
  goes_at (at.Asks asks_now) none = asks_goes p asks_now
  goes_at (at.Disposes dispose answer) none =
      always_within Settles On (disposed p answer) (disposed_goes p answer) (dispose_plan dispose) (dispose_goes K V dispose none)
  goes_at (at.Drops end) none = dropped_goes p end
  goes_at (at.Over end) none = ended_goes p end
