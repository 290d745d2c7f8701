-- A call on one key that says that it has ended stands where it is over, and has nothing in hand there.
use Rattle.std.specs.Prelude.{◌==◌, Option, Some, None, Ok, Err, if◌then◌else◌}
use Rattle.std.proofs.Common.{◌≡◌, ℕ, Bool, true, false, refl, sym, subst}
use Rattle.run_places.specs.Given.SeizeWordsMem.{Mem, Took, value_at}
use Rattle.run_places.specs.Given.SeizeWordsOp.{Out, Found, Stored, Exchanged, Made, Taken, Roomed}
use Rattle.run_places.specs.Given.SeizeWordsPlan.{Steps}
use Rattle.run_places.specs.Given.SeizeWordsWord.{block_in}
use Rattle.run_places.specs.Given.SeizeDeclared.rows.settle.Settled.{Settled}
use Rattle.run_places.specs.Given.SeizeDeclared.rows.settle.Settled.TheVariants as settled
use Rattle.run_places.specs.Given.SeizeDeclared.advance.Advance.{Advance}
use Rattle.run_places.specs.Given.SeizeDeclared.advance.Advance.TheVariants as progress
use Rattle.run_places.specs.Given.TablesChunks.{is_incremental}
use Rattle.run_places.specs.Given.TablesFinding.{may_name}
use Rattle.run_places.specs.Given.TablesTrials.{next_trial, with_met}
use Rattle.run_places.specs.Given.TablesDeclared.finding.Finding.{Finding}
use Rattle.run_places.specs.Given.TablesDeclared.finding.Finding.TheVariants as finds
use Rattle.run_places.specs.Given.TablesDeclared.marks.TheConstants.{TOMBSTONE}
use Rattle.run_places.specs.Given.TablesDeclared.node.Node.{Node}
use Rattle.run_places.specs.Given.TablesDeclared.node.Node.TheVariants as node
use Rattle.run_places.specs.Given.TablesDeclared.table.Table.{Table}
use Rattle.run_places.specs.Given.ResizeDispose.{dispose_plan}
use Rattle.run_places.specs.Given.ResizeDeclared.dispose.Dispose.{Dispose}
use Rattle.run_places.specs.Given.ResizeCopier.{copier_plan}
use Rattle.run_places.specs.Given.ResizeCopierStates.{copying_all}
use Rattle.run_places.specs.Given.ResizeLookup.{lookup_plan}
use Rattle.run_places.specs.Given.ResizeNewTable.{new_table_plan}
use Rattle.run_places.specs.Given.ResizeDeclared.copier.Copier.{Copier}
use Rattle.run_places.specs.Given.ResizeDeclared.lookup.Lookup.{Lookup}
use Rattle.run_places.specs.Given.ResizeDeclared.new_table.NewTable.{NewTable}
use Rattle.run_places.specs.Given.ResizeDeclared.yielding.Yielding.{Yielding}
use Rattle.run_places.specs.Given.ResizeDeclared.yielding.Yielding.TheVariants as outcome
use Rattle.run_places.specs.Given.RawAnswers.{ended}
use Rattle.run_places.specs.Given.RawCall.{made, makes_of, root_found, next_found, dropped, key_read, pair_read, word_read, word_found, tried, looked, looks_for, first_made, next_made, helped, copied, disposed, plan_at, call_plan}
use Rattle.run_places.specs.Given.RawCallFills.{filled, putting_by, fill_by, emptied, fills_with, given_up}
use Rattle.run_places.specs.Given.RawCallPoints.{going, over, ending, storing, burying, at_gap, gap_by, asking_at, pair_by, tableless, at_free, at_last, at_pair, after_finding, entering, continued_in, changed, having_met}
use Rattle.run_places.specs.Given.RawReplies.{value_for, as_own}
use Rattle.run_places.specs.Given.RawDeclared.machines.answer.Called.{Called}
use Rattle.run_places.specs.Given.RawDeclared.machines.answer.Called.TheVariants as called
use Rattle.run_places.specs.Given.RawDeclared.machines.answer.End.{End}
use Rattle.run_places.specs.Given.RawDeclared.machines.answer.End.TheVariants as ends
use Rattle.run_places.specs.Given.RawDeclared.machines.answer.KeyAnswer.{KeyAnswer}
use Rattle.run_places.specs.Given.RawDeclared.machines.answer.KeyAnswer.TheVariants as answers
use Rattle.run_places.specs.Given.RawDeclared.machines.answer.Missing.{Missing}
use Rattle.run_places.specs.Given.RawDeclared.machines.answer.Missing.TheVariants as missing
use Rattle.run_places.specs.Given.RawDeclared.machines.answer.There.{There}
use Rattle.run_places.specs.Given.RawDeclared.machines.answer.There.TheVariants as there
use Rattle.run_places.specs.Given.RawDeclared.machines.asking.Asking.TheVariants as asking
use Rattle.run_places.specs.Given.RawDeclared.machines.asking.Gap.{Gap}
use Rattle.run_places.specs.Given.RawDeclared.machines.asking.Gap.TheVariants as gaps
use Rattle.run_places.specs.Given.RawDeclared.machines.asking.Told.{Told}
use Rattle.run_places.specs.Given.RawDeclared.machines.asking.Told.TheVariants as tells
use Rattle.run_places.specs.Given.RawDeclared.machines.call.Calling.{Calling}
use Rattle.run_places.specs.Given.RawDeclared.machines.call.Calling.TheVariants as at
use Rattle.run_places.specs.Given.RawDeclared.machines.call.KeyCall.{KeyCall}
use Rattle.owner_facts.proofs.Given.PointsCalls.Asked.{passed_so}
use Rattle.run_places.proofs.Given.RuleKeys.Always.{Always, AlwaysOf, always_if, always_plan_as, always_steps}

-- it is over
abbrev pub IsOverAt : Calling → Type 0
IsOverAt (at.Over end) = Unit {0}
IsOverAt _ = ⊥

module _ {K V Q : Type 0} where
  -- it goes on, or it has ended, and is over
  abbrev pub IsEnded : KeyCall K V Q × Called (Node K V) → Type 0
  IsEnded (p, called.Done answer) = IsOverAt p.stands
  IsEnded (p, called.Refused fault) = IsOverAt p.stands
  IsEnded (p, _) = Unit {0}

  either : (b : Bool) (x y : KeyCall K V Q × Called (Node K V)) → IsEnded x → IsEnded y → IsEnded (if b then x else y)
  either true x y f g = f
  either false x y f g = g

  module _ (p : KeyCall K V Q) where
    over_ends : (end : End) → IsEnded (over p end)
    over_ends (ends.Answered answer) = tt
    over_ends (ends.Refused fault) = tt

    ending_ends : (end : End) → IsEnded (ending p end)
    ending_ends end = either (p.own == 0) (over p end) (going p (at.Drops end)) (over_ends end) tt

    storing_ends : (t : Told V) (word : ℕ) → IsEnded (storing t p word)
    storing_ends tells.Own word = tt
    storing_ends tells.Nothing word = tt
    storing_ends (tells.Value value) word = tt
    storing_ends tells.Removes word = tt

    burying_ends : (word : ℕ) → IsEnded (burying p word)
    burying_ends word = either (p.own == 0) (going p (at.Tries word TOMBSTONE)) (going p (at.Asks (asking.GivesUp word))) tt tt

    gap_ends : (gap : Gap) → IsEnded (at_gap gap p)
    gap_ends gaps.NoTable = tt
    gap_ends gaps.Free = storing_ends p.replies.absent 0
    gap_ends gaps.Past = tt
    gap_ends gaps.Last = tt

    asking_ends : (gap : Gap) → IsEnded (asking_at gap p)
    asking_ends gap = by p.replies.absent
      where
        by : (t : Told V) → IsEnded (gap_by t gap p)
        by tells.Nothing = tt
        by (tells.Value value) = gap_ends gap
        by tells.Own = gap_ends gap
        by tells.Removes = gap_ends gap

    pair_ends : (t : Told V) (word : ℕ) → IsEnded (pair_by t p word)
    pair_ends tells.Nothing word = tt
    pair_ends tells.Removes word = burying_ends word
    pair_ends tells.Own word = tt
    pair_ends (tells.Value value) word = tt

    tableless_ends : (t : Missing) → IsEnded (tableless t p)
    tableless_ends missing.Answers = ending_ends (ends.Answered answers.Absent)
    tableless_ends missing.Puts = tt
    tableless_ends missing.Asks = asking_ends gaps.NoTable

    free_ends : (t : Missing) → IsEnded (at_free t p)
    free_ends missing.Answers = ending_ends (ends.Answered answers.Absent)
    free_ends missing.Puts = tt
    free_ends missing.Asks = asking_ends gaps.Free

    last_ends : (t : Missing) → IsEnded (at_last t p)
    last_ends missing.Answers = either (is_incremental p.setting.mode) (ending p (ends.Answered answers.Absent)) _ (ending_ends (ends.Answered answers.Absent)) tt
    last_ends missing.Puts = tt
    last_ends missing.Asks = either (is_incremental p.setting.mode) (asking_at gaps.Last p) _ (asking_ends gaps.Last) tt

    there_ends : (t : There) (word : ℕ) → IsEnded (at_pair t p word)
    there_ends there.Answers word = ending_ends (ends.Answered (answers.Found word))
    there_ends there.Puts word = tt
    there_ends there.Removes word = tt
    there_ends there.Asks word =
        either (block_in word == p.replies.pair) (pair_by p.replies.present p word) (pair_by tells.Nothing p word) (pair_ends p.replies.present word) (pair_ends tells.Nothing word)

    told_ends : (loaded : Bool) (word : ℕ) (found : Finding) → IsEnded (after_finding loaded p word found)
    told_ends loaded word finds.Free = free_ends p.missing
    told_ends loaded word finds.Passed =
        passed_so IsEnded (having_met p word) (λ next. tt) tt
        (λ e. either (p.own == 0) (over (having_met p word) (ends.Answered answers.Absent)) (going (having_met p word) (at.Drops (ends.Answered answers.Absent))) tt tt)
        (λ e untold. tt) (next_trial (with_met p.trial word))
    told_ends loaded word finds.Moved = tt
    told_ends true word finds.Copying = tt
    told_ends false word finds.Copying = tt
    told_ends loaded word finds.There = there_ends p.there word

    on_ends : (table : Table) → IsEnded (continued_in p table)
    on_ends table =
        either (is_incremental p.setting.mode) _ (going p (at.Copies (copying_all p.setting p.trial.table table))) (either p.helped (entering p table) _ tt tt) tt

    changed_ends : (word new : ℕ) → IsEnded (changed p word new)
    changed_ends word new = either (new == TOMBSTONE) (going p (at.Counts word)) _ tt (either (word == 0) (going p (at.Counts 0)) _ tt tt)

    -- what machines within it tell
    looked_ends : (end : Lookup × Advance (Option ℕ)) → IsEnded (looked p end)
    looked_ends (l, progress.Goes) = tt
    looked_ends (l, progress.Waits) = tt
    looked_ends (l, progress.Done (Some found)) = tt
    looked_ends (l, progress.Done None) = tt
    looked_ends (l, progress.Refused fault) = tt

    first_ends : (end : NewTable × Advance Table) → IsEnded (first_made p end)
    first_ends (n, progress.Goes) = tt
    first_ends (n, progress.Waits) = tt
    first_ends (n, progress.Done table) = tt
    first_ends (n, progress.Refused fault) = ending_ends (ends.Refused fault)

    next_ends : (end : NewTable × Advance Table) → IsEnded (next_made p end)
    next_ends (n, progress.Goes) = tt
    next_ends (n, progress.Waits) = tt
    next_ends (n, progress.Done table) = on_ends table
    next_ends (n, progress.Refused fault) = ending_ends (ends.Refused fault)

    helped_ends : (goal : Table) (end : Copier × Yielding (Node K V) Table) → IsEnded (helped p goal end)
    helped_ends goal (c, outcome.Goes) = tt
    helped_ends goal (c, outcome.Waits) = tt
    helped_ends goal (c, outcome.Gave value) = tt
    helped_ends goal (c, outcome.Done table) = tt
    helped_ends goal (c, outcome.Refused fault) = ending_ends (ends.Refused fault)

    copied_ends : (end : Copier × Yielding (Node K V) Table) → IsEnded (copied p end)
    copied_ends (c, outcome.Goes) = tt
    copied_ends (c, outcome.Waits) = tt
    copied_ends (c, outcome.Gave value) = tt
    copied_ends (c, outcome.Done table) = tt
    copied_ends (c, outcome.Refused fault) = ending_ends (ends.Refused fault)

    -- what each operation's answer leads to
    root_ends : (out : Out (Node K V)) → Always IsEnded (root_found p out)
    root_ends (Found link) = always_if IsEnded (link == 0) _ _ (tableless_ends p.missing) (λ value. tt)
    root_ends Stored = tt
    root_ends (Exchanged r) = tt
    root_ends (Made r) = tt
    root_ends (Taken value) = tt
    root_ends (Roomed r) = tt

    nexts_ends : (out : Out (Node K V)) → Always IsEnded (next_found p out)
    nexts_ends (Found link) = always_if IsEnded (link == 0) _ _ (last_ends p.missing) (λ value. on_ends _)
    nexts_ends Stored = tt
    nexts_ends (Exchanged r) = tt
    nexts_ends (Made r) = tt
    nexts_ends (Taken value) = tt
    nexts_ends (Roomed r) = tt

    made_ends : (out : Out (Node K V)) → Always IsEnded (made p out)
    made_ends (Made (Ok block)) = tt
    made_ends (Made (Err value)) = tt
    made_ends Stored = tt
    made_ends (Exchanged r) = tt
    made_ends (Found word) = tt
    made_ends (Taken value) = tt
    made_ends (Roomed r) = tt

    makes_ends : (unmade : Option (Node K V)) → AlwaysOf IsEnded (makes_of p unmade)
    makes_ends (Some value) = made_ends
    makes_ends None = tt

    dropped_ends : (end : End) (out : Out (Node K V)) → Always IsEnded (dropped p end out)
    dropped_ends end (Taken value) = tt
    dropped_ends end Stored = tt
    dropped_ends end (Exchanged r) = tt
    dropped_ends end (Found word) = tt
    dropped_ends end (Made r) = tt
    dropped_ends end (Roomed r) = tt

    given_ends : (word : ℕ) (out : Out (Node K V)) → Always IsEnded (given_up p word out)
    given_ends word (Taken (node.Pair key value)) = tt
    given_ends word (Taken (node.Table len limit turn)) = tt
    given_ends word (Taken node.Shards) = tt
    given_ends word Stored = tt
    given_ends word (Exchanged r) = tt
    given_ends word (Found found) = tt
    given_ends word (Made r) = tt
    given_ends word (Roomed r) = tt

    emptied_ends : (word : ℕ) (out : Out (Node K V)) → Always IsEnded (emptied p word out)
    emptied_ends word (Taken (node.Pair key value)) = tt
    emptied_ends word (Taken (node.Table len limit turn)) = tt
    emptied_ends word (Taken node.Shards) = tt
    emptied_ends word Stored = tt
    emptied_ends word (Exchanged r) = tt
    emptied_ends word (Found found) = tt
    emptied_ends word (Made r) = tt
    emptied_ends word (Roomed r) = tt

    filled_ends : (word : ℕ) (out : Out (Node K V)) → Always IsEnded (filled p word out)
    filled_ends word (Made (Ok block)) = tt
    filled_ends word (Made (Err value)) = tt
    filled_ends word (Taken value) = tt
    filled_ends word Stored = tt
    filled_ends word (Exchanged r) = tt
    filled_ends word (Found found) = tt
    filled_ends word (Roomed r) = tt

    module _ (asks : Q → K → Bool) (same : K → K → Bool) where
      key_ends : (loaded : Bool) (word : ℕ) (key : Option K) → Always IsEnded (key_read asks same loaded p word key)
      key_ends loaded word (Some key) = λ value. told_ends loaded word _
      key_ends loaded word None = λ own value. told_ends loaded word _

      read_ends : (loaded : Bool) (word : ℕ) (asked : Option Q) → Always IsEnded (pair_read asks same loaded p word asked)
      read_ends loaded word (Some q) = λ value. told_ends loaded word _
      read_ends loaded word None = key_ends loaded word p.replies.key

      word_ends : (loaded : Bool) (word : ℕ) → Always IsEnded (word_read asks same loaded p word)
      word_ends loaded word = always_if IsEnded (may_name p.hash word) _ _ (read_ends loaded word p.asked) (told_ends loaded word _)

      found_ends : (out : Out (Node K V)) → Always IsEnded (word_found asks same p out)
      found_ends (Found word) = word_ends true word
      found_ends Stored = tt
      found_ends (Exchanged r) = tt
      found_ends (Made r) = tt
      found_ends (Taken value) = tt
      found_ends (Roomed r) = tt

      tried_ends : (word new : ℕ) (out : Out (Node K V)) → Always IsEnded (tried asks same p word new out)
      tried_ends word new (Exchanged (Ok found)) = changed_ends word new
      tried_ends word new (Exchanged (Err found)) = word_ends false found
      tried_ends word new (Found found) = tt
      tried_ends word new Stored = tt
      tried_ends word new (Made r) = tt
      tried_ends word new (Taken value) = tt
      tried_ends word new (Roomed r) = tt

  -- what is told to be stored goes into its own block
  putting_ends : (b : Bool) (p : KeyCall K V Q) (word : ℕ) (key : K) (value : V) → AlwaysOf IsEnded (putting_by b p word key value)
  putting_ends true p word key value = filled_ends p word
  putting_ends false p word key value = filled_ends p word

  fill_ends : (o : Option V) (p : KeyCall K V Q) (word : ℕ) (key : K) → AlwaysOf IsEnded (fill_by o p word key)
  fill_ends (Some value) p word key = putting_ends (p.own == 0) (record p { replies = record p.replies { key = None } }) word key value
  fill_ends None p word key = tt

  fills_ends : (key : Option K) (p : KeyCall K V Q) (word : ℕ) → AlwaysOf IsEnded (fills_with key p word)
  fills_ends (Some key) p word = fill_ends (value_for p.replies word) (record p { replies = as_own p.replies word }) word key
  fills_ends None p word = emptied_ends p word

  looks_ends : (asks : Q → K → Bool) (p : KeyCall K V Q) (lookup : Lookup) (asked : Option Q) → AlwaysOf IsEnded (looks_for asks p lookup asked)
  looks_ends asks p lookup (Some q) = always_plan_as IsEnded (looked p) (looked_ends p) (lookup_plan (asks q) lookup)
  looks_ends asks p lookup None = tt

  disposed_ends : (p : KeyCall K V Q) (answer : KeyAnswer) (q : Dispose × Settled (Node K V)) → IsEnded (disposed p answer q)
  disposed_ends p answer (d, settled.Goes) = tt
  disposed_ends p answer (d, settled.Waits) = tt
  disposed_ends p answer (d, settled.Gave value) = tt
  disposed_ends p answer (d, settled.Done) = tt

  at_over : (p : KeyCall K V Q) (end : End) → p.stands ≡ at.Over end → IsEnded (p, ended end)
  at_over p (ends.Answered answer) is = subst IsOverAt (sym is) tt
  at_over p (ends.Refused fault) is = subst IsOverAt (sym is) tt

  ends_at : (asks : Q → K → Bool) (same : K → K → Bool) (hash : K → ℕ) (p : KeyCall K V Q) (stands : Calling) → p.stands ≡ stands → AlwaysOf IsEnded (plan_at asks same hash p stands)
  ends_at asks same hash p at.Makes is = makes_ends p p.unmade
  ends_at asks same hash p (at.Looks lookup) is = looks_ends asks p lookup p.asked
  ends_at asks same hash p at.Roots is = root_ends p
  ends_at asks same hash p at.Probes is = found_ends p asks same
  ends_at asks same hash p (at.Tries word new) is = tried_ends p asks same word new
  ends_at asks same hash p (at.Counts removed) is = λ out. either (removed == 0) (over p (ends.Answered (answers.Stored p.own))) _ tt tt
  ends_at asks same hash p at.Nexts is = nexts_ends p
  ends_at asks same hash p (at.Firsts making) is = always_plan_as IsEnded (first_made p) (first_ends p) (new_table_plan making)
  ends_at asks same hash p (at.Allocs making) is = always_plan_as IsEnded (next_made p) (next_ends p) (new_table_plan making)
  ends_at asks same hash p (at.Helps copier goal) is = always_plan_as IsEnded (helped p goal) (helped_ends p goal) (copier_plan hash copier)
  ends_at asks same hash p (at.Copies copier) is = always_plan_as IsEnded (copied p) (copied_ends p) (copier_plan hash copier)
  ends_at asks same hash p (at.Asks (asking.Absent gap)) is = tt
  ends_at asks same hash p (at.Asks (asking.Present word)) is = tt
  ends_at asks same hash p (at.Asks (asking.Fills word)) is = fills_ends p.replies.key p word
  ends_at asks same hash p (at.Asks (asking.GivesUp word)) is = given_ends p word
  ends_at asks same hash p (at.Disposes dispose answer) is = always_plan_as IsEnded (disposed p answer) (disposed_ends p answer) (dispose_plan dispose)
  ends_at asks same hash p (at.Drops end) is = dropped_ends p end
  ends_at asks same hash p (at.Over end) is = at_over p end is

  -- so it is after each of its steps
  pub ended_step : (asks : Q → K → Bool) (same : K → K → Bool) (hash : K → ℕ) (p : KeyCall K V Q) (m m2 : Mem (Node K V)) (end : KeyCall K V Q × Called (Node K V))
      → Steps Took value_at m (call_plan asks same hash p) m2 end → IsEnded end
  ended_step asks same hash p m m2 end steps = always_steps IsEnded m m2 (call_plan asks same hash p) end (ends_at asks same hash p p.stands refl) steps
