-- A call on one key that goes on is not over, unless its own pair comes back; from where it answers that its key is there; and one that is about to end does so.
use Rattle.std.specs.Prelude.{◌==◌, Option, Some, None, Ok, Err, if◌then◌else◌}
use Rattle.std.proofs.Common.{◌≡◌, ℕ, Bool, true, false, eqb-true, refl, sym, subst}
use Rattle.run_schedules.specs.Given.SeizeWordsMem.{Mem, Took, value_at}
use Rattle.run_schedules.specs.Given.SeizeWordsOp.{Out, Found, Exchanged, Made, Taken}
use Rattle.run_schedules.specs.Given.SeizeWordsPlan.{Steps}
use Rattle.run_executor.specs.Given.SeizeWordsWord.{block_in}
use Rattle.seize.specs.declared.rows.settle.Settled.{Settled}
use Rattle.seize.specs.declared.rows.settle.Settled.TheVariants as settled
use Rattle.seize.specs.declared.advance.Advance.{Advance}
use Rattle.seize.specs.declared.advance.Advance.TheVariants as progress
use Rattle.papaya_raw.specs.Given.TablesChunks.{is_incremental}
use Rattle.papaya_raw.specs.Given.TablesFinding.{may_name}
use Rattle.papaya_raw.specs.Given.TablesTrials.{next_trial, with_met}
use Rattle.papaya_raw.specs.Given.TablesDeclared.finding.Finding.{Finding}
use Rattle.papaya_raw.specs.Given.TablesDeclared.finding.Finding.TheVariants as finds
use Rattle.papaya_raw.specs.Given.TablesDeclared.marks.TheConstants.{TOMBSTONE}
use Rattle.papaya_raw.specs.Given.TablesDeclared.node.Node.{Node}
use Rattle.papaya_raw.specs.Given.TablesDeclared.node.Node.TheVariants as node
use Rattle.papaya_raw.specs.Given.TablesDeclared.table.Table.{Table}
use Rattle.run_blocks.specs.Given.ResizeDispose.{dispose_plan}
use Rattle.run_blocks.specs.Given.ResizeDeclared.dispose.Dispose.{Dispose}
use Rattle.run_blocks.specs.Given.ResizeCopier.{copier_plan}
use Rattle.run_blocks.specs.Given.ResizeCopierStates.{copying_all}
use Rattle.run_blocks.specs.Given.ResizeLookup.{lookup_plan}
use Rattle.run_blocks.specs.Given.ResizeNewTable.{new_table_plan}
use Rattle.run_blocks.specs.Given.ResizeDeclared.copier.Copier.{Copier}
use Rattle.run_blocks.specs.Given.ResizeDeclared.lookup.Lookup.{Lookup}
use Rattle.run_blocks.specs.Given.ResizeDeclared.new_table.NewTable.{NewTable}
use Rattle.run_blocks.specs.Given.ResizeDeclared.yielding.Yielding.{Yielding}
use Rattle.run_blocks.specs.Given.ResizeDeclared.yielding.Yielding.TheVariants as outcome
use Rattle.papaya_raw.specs.Answers.{ended}
use Rattle.papaya_raw.specs.Call.{made, makes_of, root_found, next_found, dropped, key_read, pair_read, word_read, word_found, tried, looked, looks_for, first_made, next_made, helped, copied, disposed, plan_at, call_plan}
use Rattle.papaya_raw.specs.CallFills.{filled, putting_by, fill_by, emptied, fills_with, given_up}
use Rattle.papaya_raw.specs.CallPoints.{going, over, ending, storing, burying, at_gap, gap_by, asking_at, pair_by, tableless, at_free, at_last, at_pair, after_finding, entering, continued_in, changed, having_met}
use Rattle.papaya_raw.specs.Replies.{value_for, as_own}
use Rattle.papaya_raw.specs.declared.machines.answer.Called.{Called}
use Rattle.papaya_raw.specs.declared.machines.answer.Called.TheVariants as called
use Rattle.papaya_raw.specs.declared.machines.answer.End.{End}
use Rattle.papaya_raw.specs.declared.machines.answer.End.TheVariants as ends
use Rattle.papaya_raw.specs.declared.machines.answer.KeyAnswer.{KeyAnswer}
use Rattle.papaya_raw.specs.declared.machines.answer.KeyAnswer.TheVariants as answers
use Rattle.papaya_raw.specs.declared.machines.answer.Missing.{Missing}
use Rattle.papaya_raw.specs.declared.machines.answer.Missing.TheVariants as missing
use Rattle.papaya_raw.specs.declared.machines.answer.There.{There}
use Rattle.papaya_raw.specs.declared.machines.answer.There.TheVariants as there
use Rattle.papaya_raw.specs.declared.machines.asking.Asking.TheVariants as asking
use Rattle.papaya_raw.specs.declared.machines.asking.Gap.{Gap}
use Rattle.papaya_raw.specs.declared.machines.asking.Gap.TheVariants as gaps
use Rattle.papaya_raw.specs.declared.machines.asking.Told.{Told}
use Rattle.papaya_raw.specs.declared.machines.asking.Told.TheVariants as tells
use Rattle.papaya_raw.specs.declared.machines.call.Calling.{Calling}
use Rattle.papaya_raw.specs.declared.machines.call.Calling.TheVariants as at
use Rattle.papaya_raw.specs.declared.machines.call.KeyCall.{KeyCall}
use Rattle.run_executor.proofs.Given.PointsCalls.Asked.{passed_so}
use Rattle.run_executor.proofs.Given.RuleKeys.Always.{Always, AlwaysOf, always_if, always_plan_as, always_steps}
use Rattle.run_kept.specs.Values.Values.{IsEnding}
use Rattle.run_schedules.specs.Given.SeizeWordsDeclared.fault.Fault.{Fault}

-- it is not over
abbrev pub IsNotOver : Calling → Type 0
IsNotOver (at.Over end) = ⊥
IsNotOver _ = Unit {0}

module _ (Founds : ℕ → Type 0) {K V Q : Type 0} where
  -- It goes on, and is not over; or it has ended, or its own pair comes back. Where it answers that the key is there, this is so of the word.
  abbrev pub Comes : KeyCall K V Q × Called (Node K V) → Type 0
  Comes (p, called.Done (answers.Found word)) = Founds word
  Comes (p, called.Done answer) = Unit {0}
  Comes (p, called.Refused fault) = Unit {0}
  Comes (p, called.Unstored value) = Unit {0}
  Comes (p, _) = IsNotOver p.stands

  -- from where it may answer so: from a try, where it has no block of its own; from a lookup, a disposal, and where it is over
  abbrev pub MayFind : KeyCall K V Q → Calling → Type 0
  MayFind p at.Probes = p.own ≡ 0 → (word : ℕ) → Founds word
  MayFind p (at.Tries old new) = p.own ≡ 0 → (word : ℕ) → Founds word
  MayFind p (at.Looks lookup) = (word : ℕ) → Founds word
  MayFind p (at.Disposes dispose answer) = (word : ℕ) → answer ≡ answers.Found word → Founds word
  MayFind p (at.Over end) = (word : ℕ) → end ≡ ends.Answered (answers.Found word) → Founds word
  MayFind p _ = Unit {0}

  either : (b : Bool) (x y : KeyCall K V Q × Called (Node K V)) → Comes x → Comes y → Comes (if b then x else y)
  either true x y f g = f
  either false x y f g = g

  module _ (p : KeyCall K V Q) where
    fault_comes : (fault : Fault) → Comes (ending p (ends.Refused fault))
    fault_comes fault = either (p.own == 0) (over p (ends.Refused fault)) (going p (at.Drops (ends.Refused fault))) tt tt

    absent_comes : Comes (ending p (ends.Answered answers.Absent))
    absent_comes = either (p.own == 0) (over p (ends.Answered answers.Absent)) (going p (at.Drops (ends.Answered answers.Absent))) tt tt

    storing_comes : (t : Told V) (word : ℕ) → Comes (storing t p word)
    storing_comes tells.Own word = tt
    storing_comes _ word = tt

    burying_comes : (word : ℕ) → Comes (burying p word)
    burying_comes word = either (p.own == 0) (going p (at.Tries word TOMBSTONE)) (going p (at.Asks (asking.GivesUp word))) tt tt

    gap_comes : (gap : Gap) → Comes (at_gap gap p)
    gap_comes gaps.NoTable = tt
    gap_comes gaps.Free = storing_comes p.replies.absent 0
    gap_comes gaps.Past = tt
    gap_comes gaps.Last = tt

    asking_comes : (gap : Gap) → Comes (asking_at gap p)
    asking_comes gap = by p.replies.absent
      where
        by : (t : Told V) → Comes (gap_by t gap p)
        by tells.Nothing = tt
        by (tells.Value value) = gap_comes gap
        by tells.Own = gap_comes gap
        by tells.Removes = gap_comes gap

    pair_comes : (t : Told V) (word : ℕ) → Comes (pair_by t p word)
    pair_comes tells.Nothing word = tt
    pair_comes tells.Removes word = burying_comes word
    pair_comes tells.Own word = tt
    pair_comes (tells.Value value) word = tt

    tableless_comes : (t : Missing) → Comes (tableless t p)
    tableless_comes missing.Answers = absent_comes
    tableless_comes missing.Puts = tt
    tableless_comes missing.Asks = asking_comes gaps.NoTable

    free_comes : (t : Missing) → Comes (at_free t p)
    free_comes missing.Answers = absent_comes
    free_comes missing.Puts = tt
    free_comes missing.Asks = asking_comes gaps.Free

    last_comes : (t : Missing) → Comes (at_last t p)
    last_comes missing.Answers = either (is_incremental p.setting.mode) (ending p (ends.Answered answers.Absent)) _ absent_comes tt
    last_comes missing.Puts = tt
    last_comes missing.Asks = either (is_incremental p.setting.mode) (asking_at gaps.Last p) _ (asking_comes gaps.Last) tt

    on_comes : (table : Table) → Comes (continued_in p table)
    on_comes table =
        either (is_incremental p.setting.mode) _ (going p (at.Copies (copying_all p.setting p.trial.table table))) (either p.helped (entering p table) _ tt tt) tt

    changed_comes : (word new : ℕ) → Comes (changed p word new)
    changed_comes word new = either (new == TOMBSTONE) (going p (at.Counts word)) _ tt (either (word == 0) (going p (at.Counts 0)) _ tt tt)

    -- where its try has found the key
    module _ (may : p.own ≡ 0 → (word : ℕ) → Founds word) where
      there_comes : (t : There) (word : ℕ) → Comes (at_pair t p word)
      there_comes there.Answers word = by (p.own == 0) refl
        where
          by : (q : Bool) → (p.own == 0) ≡ q → Comes (if q then over p (ends.Answered (answers.Found word)) else going p (at.Drops (ends.Answered (answers.Found word))))
          by true none = may (eqb-true p.own 0 none) word
          by false some = tt
      there_comes there.Puts word = tt
      there_comes there.Removes word = tt
      there_comes there.Asks word =
          either (block_in word == p.replies.pair) (pair_by p.replies.present p word) (pair_by tells.Nothing p word) (pair_comes p.replies.present word) (pair_comes tells.Nothing word)

      told_comes : (loaded : Bool) (word : ℕ) (found : Finding) → Comes (after_finding loaded p word found)
      told_comes loaded word finds.Free = free_comes p.missing
      told_comes loaded word finds.Passed =
          passed_so Comes (having_met p word) (λ next. tt) tt
          (λ e. either (p.own == 0) (over (having_met p word) (ends.Answered answers.Absent)) (going (having_met p word) (at.Drops (ends.Answered answers.Absent))) tt tt)
          (λ e untold. tt) (next_trial (with_met p.trial word))
      told_comes loaded word finds.Moved = tt
      told_comes true word finds.Copying = tt
      told_comes false word finds.Copying = tt
      told_comes loaded word finds.There = there_comes p.there word

      module _ (asks : Q → K → Bool) (same : K → K → Bool) where
        key_comes : (loaded : Bool) (word : ℕ) (key : Option K) → Always Comes (key_read asks same loaded p word key)
        key_comes loaded word (Some key) = λ value. told_comes loaded word _
        key_comes loaded word None = λ own value. told_comes loaded word _

        read_comes : (loaded : Bool) (word : ℕ) (asked : Option Q) → Always Comes (pair_read asks same loaded p word asked)
        read_comes loaded word (Some q) = λ value. told_comes loaded word _
        read_comes loaded word None = key_comes loaded word p.replies.key

        word_comes : (loaded : Bool) (word : ℕ) → Always Comes (word_read asks same loaded p word)
        word_comes loaded word = always_if Comes (may_name p.hash word) _ _ (read_comes loaded word p.asked) (told_comes loaded word _)

        found_comes : IsNotOver p.stands → (out : Out (Node K V)) → Always Comes (word_found asks same p out)
        found_comes here (Found word) = word_comes true word
        found_comes here _ = here

        tried_comes : IsNotOver p.stands → (word new : ℕ) (out : Out (Node K V)) → Always Comes (tried asks same p word new out)
        tried_comes here word new (Exchanged (Ok found)) = changed_comes word new
        tried_comes here word new (Exchanged (Err found)) = word_comes false found
        tried_comes here word new _ = here

    -- what machines within it tell
    looked_comes : ((word : ℕ) → Founds word) → (end : Lookup × Advance (Option ℕ)) → Comes (looked p end)
    looked_comes may (l, progress.Goes) = tt
    looked_comes may (l, progress.Waits) = tt
    looked_comes may (l, progress.Done (Some found)) = may found
    looked_comes may (l, progress.Done None) = tt
    looked_comes may (l, progress.Refused fault) = tt

    first_comes : (end : NewTable × Advance Table) → Comes (first_made p end)
    first_comes (n, progress.Goes) = tt
    first_comes (n, progress.Waits) = tt
    first_comes (n, progress.Done table) = tt
    first_comes (n, progress.Refused fault) = fault_comes fault

    next_comes : (end : NewTable × Advance Table) → Comes (next_made p end)
    next_comes (n, progress.Goes) = tt
    next_comes (n, progress.Waits) = tt
    next_comes (n, progress.Done table) = on_comes table
    next_comes (n, progress.Refused fault) = fault_comes fault

    helped_comes : (goal : Table) (end : Copier × Yielding (Node K V) Table) → Comes (helped p goal end)
    helped_comes goal (c, outcome.Goes) = tt
    helped_comes goal (c, outcome.Waits) = tt
    helped_comes goal (c, outcome.Gave value) = tt
    helped_comes goal (c, outcome.Done table) = tt
    helped_comes goal (c, outcome.Refused fault) = fault_comes fault

    copied_comes : (end : Copier × Yielding (Node K V) Table) → Comes (copied p end)
    copied_comes (c, outcome.Goes) = tt
    copied_comes (c, outcome.Waits) = tt
    copied_comes (c, outcome.Gave value) = tt
    copied_comes (c, outcome.Done table) = tt
    copied_comes (c, outcome.Refused fault) = fault_comes fault

    disposed_comes : (answer : KeyAnswer) → ((word : ℕ) → answer ≡ answers.Found word → Founds word) → (q : Dispose × Settled (Node K V)) → Comes (disposed p answer q)
    disposed_comes answer may (d, settled.Goes) = tt
    disposed_comes answer may (d, settled.Waits) = tt
    disposed_comes answer may (d, settled.Gave value) = tt
    disposed_comes (answers.Found word) may (d, settled.Done) = may word refl
    disposed_comes _ may (d, settled.Done) = tt

    -- what each operation's answer leads to
    root_comes : IsNotOver p.stands → (out : Out (Node K V)) → Always Comes (root_found p out)
    root_comes here (Found link) = always_if Comes (link == 0) _ _ (tableless_comes p.missing) (λ value. tt)
    root_comes here _ = here

    nexts_comes : IsNotOver p.stands → (out : Out (Node K V)) → Always Comes (next_found p out)
    nexts_comes here (Found link) = always_if Comes (link == 0) _ _ (last_comes p.missing) (λ value. on_comes _)
    nexts_comes here _ = here

    made_comes : IsNotOver p.stands → (out : Out (Node K V)) → Always Comes (made p out)
    made_comes here (Made (Ok block)) = tt
    made_comes here (Made (Err value)) = tt
    made_comes here _ = here

    makes_comes : IsNotOver p.stands → (unmade : Option (Node K V)) → AlwaysOf Comes (makes_of p unmade)
    makes_comes here (Some value) = made_comes here
    makes_comes here None = tt

    dropped_comes : IsNotOver p.stands → (end : End) (out : Out (Node K V)) → Always Comes (dropped p end out)
    dropped_comes here end (Taken value) = tt
    dropped_comes here end _ = here

    given_comes : IsNotOver p.stands → (word : ℕ) (out : Out (Node K V)) → Always Comes (given_up p word out)
    given_comes here word (Taken (node.Pair key value)) = tt
    given_comes here word (Taken _) = tt
    given_comes here word _ = here

    emptied_comes : (word : ℕ) (out : Out (Node K V)) → Always Comes (emptied p word out)
    emptied_comes word (Taken (node.Pair key value)) = tt
    emptied_comes word (Taken _) = tt
    emptied_comes word _ = tt

    filled_comes : IsNotOver p.stands → (word : ℕ) (out : Out (Node K V)) → Always Comes (filled p word out)
    filled_comes here word (Made (Ok block)) = tt
    filled_comes here word (Made (Err value)) = tt
    filled_comes here word (Taken value) = tt
    filled_comes here word _ = here

    over_comes : (end : End) → ((word : ℕ) → end ≡ ends.Answered (answers.Found word) → Founds word) → Comes (p, ended end)
    over_comes (ends.Answered (answers.Found word)) may = may word refl
    over_comes (ends.Answered _) may = tt
    over_comes (ends.Refused fault) may = tt

  -- what is told to be stored goes into its own block
  putting_comes : (b : Bool) (p : KeyCall K V Q) → IsNotOver p.stands → (word : ℕ) (key : K) (value : V) → AlwaysOf Comes (putting_by b p word key value)
  putting_comes true p here word key value = filled_comes p here word
  putting_comes false p here word key value = filled_comes p here word

  fill_comes : (o : Option V) (p : KeyCall K V Q) → IsNotOver p.stands → (word : ℕ) (key : K) → AlwaysOf Comes (fill_by o p word key)
  fill_comes (Some value) p here word key = putting_comes (p.own == 0) (record p { replies = record p.replies { key = None } }) here word key value
  fill_comes None p here word key = tt

  fills_comes : (key : Option K) (p : KeyCall K V Q) → IsNotOver p.stands → (word : ℕ) → AlwaysOf Comes (fills_with key p word)
  fills_comes (Some key) p here word = fill_comes (value_for p.replies word) (record p { replies = as_own p.replies word }) here word key
  fills_comes None p here word = emptied_comes p word

  looks_comes : (asks : Q → K → Bool) (p : KeyCall K V Q) → ((word : ℕ) → Founds word) → (lookup : Lookup) (asked : Option Q) → AlwaysOf Comes (looks_for asks p lookup asked)
  looks_comes asks p may lookup (Some q) = always_plan_as Comes (looked p) (looked_comes p may) (lookup_plan (asks q) lookup)
  looks_comes asks p may lookup None = tt

  comes_at : (asks : Q → K → Bool) (same : K → K → Bool) (hash : K → ℕ) (p : KeyCall K V Q) (stands : Calling) → p.stands ≡ stands → MayFind p stands → AlwaysOf Comes (plan_at asks same hash p stands)
  comes_at asks same hash p at.Makes is may = makes_comes p (subst IsNotOver (sym is) tt) p.unmade
  comes_at asks same hash p (at.Looks lookup) is may = looks_comes asks p may lookup p.asked
  comes_at asks same hash p at.Roots is may = root_comes p (subst IsNotOver (sym is) tt)
  comes_at asks same hash p at.Probes is may = found_comes p may asks same (subst IsNotOver (sym is) tt)
  comes_at asks same hash p (at.Tries word new) is may = tried_comes p may asks same (subst IsNotOver (sym is) tt) word new
  comes_at asks same hash p (at.Counts removed) is may = λ out. either (removed == 0) (over p (ends.Answered (answers.Stored p.own))) _ tt tt
  comes_at asks same hash p at.Nexts is may = nexts_comes p (subst IsNotOver (sym is) tt)
  comes_at asks same hash p (at.Firsts making) is may = always_plan_as Comes (first_made p) (first_comes p) (new_table_plan making)
  comes_at asks same hash p (at.Allocs making) is may = always_plan_as Comes (next_made p) (next_comes p) (new_table_plan making)
  comes_at asks same hash p (at.Helps copier goal) is may = always_plan_as Comes (helped p goal) (helped_comes p goal) (copier_plan hash copier)
  comes_at asks same hash p (at.Copies copier) is may = always_plan_as Comes (copied p) (copied_comes p) (copier_plan hash copier)
  comes_at asks same hash p (at.Asks (asking.Absent gap)) is may = subst IsNotOver (sym is) tt
  comes_at asks same hash p (at.Asks (asking.Present word)) is may = subst IsNotOver (sym is) tt
  comes_at asks same hash p (at.Asks (asking.Fills word)) is may = fills_comes p.replies.key p (subst IsNotOver (sym is) tt) word
  comes_at asks same hash p (at.Asks (asking.GivesUp word)) is may = given_comes p (subst IsNotOver (sym is) tt) word
  comes_at asks same hash p (at.Disposes dispose answer) is may = always_plan_as Comes (disposed p answer) (disposed_comes p answer may) (dispose_plan dispose)
  comes_at asks same hash p (at.Drops end) is may = dropped_comes p (subst IsNotOver (sym is) tt) end
  comes_at asks same hash p (at.Over end) is may = over_comes p end may

  -- so it is after each of its steps
  pub key_comes_so : (asks : Q → K → Bool) (same : K → K → Bool) (hash : K → ℕ) (p : KeyCall K V Q) → MayFind p p.stands → (m m2 : Mem (Node K V)) (end : KeyCall K V Q × Called (Node K V))
      → Steps Took value_at m (call_plan asks same hash p) m2 end → Comes end
  key_comes_so asks same hash p may m m2 end steps = always_steps Comes m m2 (call_plan asks same hash p) end (comes_at asks same hash p p.stands refl may) steps

-- Where it has come to its end, or is about to, it stays so.

module _ {K V Q : Type 0} where
  abbrev EndsOn : KeyCall K V Q × Called (Node K V) → Type 0
  EndsOn end = IsEnding end.0.stands

  drops_on : (p : KeyCall K V Q) → IsEnding p.stands → (end : End) (out : Out (Node K V)) → Always EndsOn (dropped p end out)
  drops_on p here end (Taken value) = tt
  drops_on p here end _ = here

  pub ending_stays : (asks : Q → K → Bool) (same : K → K → Bool) (hash : K → ℕ) (p : KeyCall K V Q) → IsEnding p.stands → (m m2 : Mem (Node K V)) (end : KeyCall K V Q × Called (Node K V))
      → Steps Took value_at m (call_plan asks same hash p) m2 end → IsEnding end.0.stands
  ending_stays asks same hash p here m m2 end steps = always_steps EndsOn m m2 (call_plan asks same hash p) end (by p.stands here) steps
    where
      by : (stands : Calling) → IsEnding stands → AlwaysOf EndsOn (plan_at asks same hash p stands)
      by (at.Drops end) is = drops_on p here end
      by (at.Over end) is = here
      by _ is = absurd is
