-- A step that says that its call asks has led to where it asks that, and one of a call that asks says so.
use Rattle.std.specs.Prelude.{◌≡◌, ℕ, ◌==◌, Bool, true, false, Option, Some, None, Ok, Err, if◌then◌else◌}
use Rattle.std.proofs.Common.{refl}
use Rattle.run_places.specs.Given.SeizeWordsOp.{Out, Found, Stored, Exchanged, Made, Taken, Roomed}
use Rattle.run_places.specs.Given.SeizeWordsWord.{block_in}
use Rattle.run_places.specs.Given.SeizeDeclared.advance.Advance.{Advance as Counting}
use Rattle.run_places.specs.Given.SeizeDeclared.advance.Advance.TheVariants as counting
use Rattle.run_places.specs.Given.SeizeDeclared.rows.settle.Settled.{Settled}
use Rattle.run_places.specs.Given.SeizeDeclared.rows.settle.Settled.TheVariants as settled
use Rattle.run_places.specs.Given.TablesChunks.{is_incremental}
use Rattle.run_places.specs.Given.TablesFinding.{may_name}
use Rattle.run_places.specs.Given.TablesTrials.{next_trial, with_met}
use Rattle.run_places.specs.Given.TablesDeclared.finding.Finding.{Finding}
use Rattle.run_places.specs.Given.TablesDeclared.finding.Finding.TheVariants as finds
use Rattle.run_places.specs.Given.TablesDeclared.marks.TheConstants.{TOMBSTONE}
use Rattle.run_places.specs.Given.TablesDeclared.node.Node.{Node}
use Rattle.run_places.specs.Given.TablesDeclared.node.Node.TheVariants as node
use Rattle.run_places.specs.Given.TablesDeclared.table.Table.{Table}
use Rattle.run_places.specs.Given.ResizeCopier.{copier_plan}
use Rattle.run_places.specs.Given.ResizeCopierStates.{copying_all}
use Rattle.run_places.specs.Given.ResizeDispose.{dispose_plan}
use Rattle.run_places.specs.Given.ResizeLookup.{lookup_plan}
use Rattle.run_places.specs.Given.ResizeNewTable.{new_table_plan}
use Rattle.run_places.specs.Given.ResizeDeclared.copier.Copier.{Copier}
use Rattle.run_places.specs.Given.ResizeDeclared.dispose.Dispose.{Dispose}
use Rattle.run_places.specs.Given.ResizeDeclared.lookup.Lookup.{Lookup}
use Rattle.run_places.specs.Given.ResizeDeclared.new_table.NewTable.{NewTable}
use Rattle.run_places.specs.Given.ResizeDeclared.yielding.Yielding.{Yielding}
use Rattle.run_places.specs.Given.ResizeDeclared.yielding.Yielding.TheVariants as outcome
use Rattle.run_places.specs.Given.RawAnswers.{ended}
use Rattle.run_places.specs.Given.RawCall.{made, makes_of, root_found, next_found, dropped, key_read, pair_read, word_read, word_found, tried, looked, looks_for, first_made, next_made, disposed, helped, copied, plan_at}
use Rattle.run_places.specs.Given.RawCallFills.{filled, putting_by, fill_by, emptied, fills_with, given_up, asks_at}
use Rattle.run_places.specs.Given.RawCallPoints.{going, standing, over, ending, following_made, storing, burying, at_gap, gap_by, asking_at, pair_by, tableless, at_free, at_last, at_pair, after_finding, entering, continued_in, changed, counted, having_met}
use Rattle.run_places.specs.Given.RawReplies.{value_for, as_own}
use Rattle.run_places.specs.Given.RawDeclared.machines.answer.KeyAnswer.{KeyAnswer}
use Rattle.run_places.specs.Given.RawDeclared.machines.answer.KeyAnswer.TheVariants as answers
use Rattle.run_places.specs.Given.RawDeclared.machines.answer.Called.{Called}
use Rattle.run_places.specs.Given.RawDeclared.machines.answer.Called.TheVariants as called
use Rattle.run_places.specs.Given.RawDeclared.machines.answer.End.{End}
use Rattle.run_places.specs.Given.RawDeclared.machines.answer.End.TheVariants as ends
use Rattle.run_places.specs.Given.RawDeclared.machines.answer.Missing.{Missing}
use Rattle.run_places.specs.Given.RawDeclared.machines.answer.Missing.TheVariants as missing
use Rattle.run_places.specs.Given.RawDeclared.machines.answer.There.{There}
use Rattle.run_places.specs.Given.RawDeclared.machines.answer.There.TheVariants as there
use Rattle.run_places.specs.Given.RawDeclared.machines.asking.Asking.{Asking as AskingAt}
use Rattle.run_places.specs.Given.RawDeclared.machines.asking.Asking.TheVariants as asking
use Rattle.run_places.specs.Given.RawDeclared.machines.asking.Gap.{Gap}
use Rattle.run_places.specs.Given.RawDeclared.machines.asking.Gap.TheVariants as gaps
use Rattle.run_places.specs.Given.RawDeclared.machines.asking.Told.{Told}
use Rattle.run_places.specs.Given.RawDeclared.machines.asking.Told.TheVariants as tells
use Rattle.run_places.specs.Given.RawDeclared.machines.call.Calling.{Calling}
use Rattle.run_places.specs.Given.RawDeclared.machines.call.Calling.TheVariants as at
use Rattle.run_places.specs.Given.RawDeclared.machines.call.KeyCall.{KeyCall}
use Rattle.run_places.proofs.Given.PointsCalls.Asked.{passed_so}
use Rattle.run_places.proofs.Given.RuleKeys.Always.{Always, AlwaysOf, always_if, always_plan_as}

-- it asks there what it says
abbrev pub AsksAt : Option ℕ → Calling → Type 0
AsksAt None stands = (gap : Gap) × (stands ≡ at.Asks (asking.Absent gap))
AsksAt (Some word) stands = stands ≡ at.Asks (asking.Present word)

module _ {K V Q : Type 0} where
  abbrev pub SaysSo : KeyCall K V Q × Called (Node K V) → Type 0
  SaysSo (p, called.Asks about) = AsksAt about p.stands
  SaysSo (p, _) = Unit {0}

  either : (b : Bool) (x y : KeyCall K V Q × Called (Node K V)) → SaysSo x → SaysSo y → SaysSo (if b then x else y)
  either true x y f g = f
  either false x y f g = g

  module _ (p : KeyCall K V Q) where
    over_so : (end : End) → SaysSo (over p end)
    over_so (ends.Answered answer) = tt
    over_so (ends.Refused fault) = tt

    ending_so : (end : End) → SaysSo (ending p end)
    ending_so end = either (p.own == 0) (over p end) (going p (at.Drops end)) (over_so end) tt

    storing_so : (t : Told V) (word : ℕ) → SaysSo (storing t p word)
    storing_so tells.Own word = tt
    storing_so tells.Nothing word = tt
    storing_so (tells.Value value) word = tt
    storing_so tells.Removes word = tt

    burying_so : (word : ℕ) → SaysSo (burying p word)
    burying_so word = either (p.own == 0) (going p (at.Tries word TOMBSTONE)) (going p (at.Asks (asking.GivesUp word))) tt tt

    gap_so : (gap : Gap) → SaysSo (at_gap gap p)
    gap_so gaps.NoTable = tt
    gap_so gaps.Free = storing_so p.replies.absent 0
    gap_so gaps.Past = tt
    gap_so gaps.Last = tt

    asking_so : (gap : Gap) → SaysSo (asking_at gap p)
    asking_so gap = by p.replies.absent
      where
        by : (t : Told V) → SaysSo (gap_by t gap p)
        by tells.Nothing = (gap, refl)
        by (tells.Value value) = gap_so gap
        by tells.Own = gap_so gap
        by tells.Removes = gap_so gap

    pair_so : (t : Told V) (word : ℕ) → SaysSo (pair_by t p word)
    pair_so tells.Nothing word = refl
    pair_so tells.Removes word = burying_so word
    pair_so tells.Own word = storing_so tells.Own word
    pair_so (tells.Value value) word = storing_so (tells.Value value) word

    tableless_so : (t : Missing) → SaysSo (tableless t p)
    tableless_so missing.Answers = ending_so (ends.Answered answers.Absent)
    tableless_so missing.Puts = tt
    tableless_so missing.Asks = asking_so gaps.NoTable

    free_so : (t : Missing) → SaysSo (at_free t p)
    free_so missing.Answers = ending_so (ends.Answered answers.Absent)
    free_so missing.Puts = tt
    free_so missing.Asks = asking_so gaps.Free

    last_so : (t : Missing) → SaysSo (at_last t p)
    last_so missing.Answers = either (is_incremental p.setting.mode) (ending p (ends.Answered answers.Absent)) (following_made p) (ending_so (ends.Answered answers.Absent)) tt
    last_so missing.Puts = tt
    last_so missing.Asks = either (is_incremental p.setting.mode) (asking_at gaps.Last p) (following_made p) (asking_so gaps.Last) tt

    there_so : (t : There) (word : ℕ) → SaysSo (at_pair t p word)
    there_so there.Answers word = ending_so (ends.Answered (answers.Found word))
    there_so there.Puts word = tt
    there_so there.Removes word = tt
    there_so there.Asks word =
        either (block_in word == p.replies.pair) (pair_by p.replies.present p word) (pair_by tells.Nothing p word) (pair_so p.replies.present word) (pair_so tells.Nothing word)

    told_so : (loaded : Bool) (word : ℕ) (found : Finding) → SaysSo (after_finding loaded p word found)
    told_so loaded word finds.Free = free_so p.missing
    told_so loaded word finds.Passed =
        passed_so SaysSo (having_met p word) (λ next. tt) tt
        (λ e. either (p.own == 0) (over (having_met p word) (ends.Answered answers.Absent)) (going (having_met p word) (at.Drops (ends.Answered answers.Absent))) tt tt)
        (λ e untold. (gaps.Past, refl)) (next_trial (with_met p.trial word))
    told_so loaded word finds.Moved = tt
    told_so loaded word finds.Copying = either loaded (standing p at.Probes, called.Waits) (going p at.Probes) tt tt
    told_so loaded word finds.There = there_so p.there word

    on_so : (table : Table) → SaysSo (continued_in p table)
    on_so table =
        either (is_incremental p.setting.mode) _ (going p (at.Copies (copying_all p.setting p.trial.table table))) (either p.helped (entering p table) _ tt tt) tt

    changed_so : (word new : ℕ) → SaysSo (changed p word new)
    changed_so word new = either (new == TOMBSTONE) (going p (at.Counts word)) _ tt (either (word == 0) (going p (at.Counts 0)) _ tt tt)

    counted_so : (removed : ℕ) → SaysSo (counted p removed)
    counted_so removed = either (removed == 0) (over p (ends.Answered (answers.Stored p.own))) _ tt tt

    -- what machines within it tell
    looked_so : (end : Lookup × Counting (Option ℕ)) → SaysSo (looked p end)
    looked_so (l, counting.Goes) = tt
    looked_so (l, counting.Waits) = tt
    looked_so (l, counting.Done (Some found)) = tt
    looked_so (l, counting.Done None) = tt
    looked_so (l, counting.Refused fault) = tt

    first_so : (end : NewTable × Counting Table) → SaysSo (first_made p end)
    first_so (n, counting.Goes) = tt
    first_so (n, counting.Waits) = tt
    first_so (n, counting.Done table) = tt
    first_so (n, counting.Refused fault) = ending_so (ends.Refused fault)

    next_so : (end : NewTable × Counting Table) → SaysSo (next_made p end)
    next_so (n, counting.Goes) = tt
    next_so (n, counting.Waits) = tt
    next_so (n, counting.Done table) = on_so table
    next_so (n, counting.Refused fault) = ending_so (ends.Refused fault)

    helped_so : (goal : Table) (end : Copier × Yielding (Node K V) Table) → SaysSo (helped p goal end)
    helped_so goal (c, outcome.Goes) = tt
    helped_so goal (c, outcome.Waits) = tt
    helped_so goal (c, outcome.Gave value) = tt
    helped_so goal (c, outcome.Done table) = tt
    helped_so goal (c, outcome.Refused fault) = ending_so (ends.Refused fault)

    copied_so : (end : Copier × Yielding (Node K V) Table) → SaysSo (copied p end)
    copied_so (c, outcome.Goes) = tt
    copied_so (c, outcome.Waits) = tt
    copied_so (c, outcome.Gave value) = tt
    copied_so (c, outcome.Done table) = tt
    copied_so (c, outcome.Refused fault) = ending_so (ends.Refused fault)

    disposed_so : (answer : KeyAnswer) (end : Dispose × Settled (Node K V)) → SaysSo (disposed p answer end)
    disposed_so answer (d, settled.Goes) = tt
    disposed_so answer (d, settled.Waits) = tt
    disposed_so answer (d, settled.Gave value) = tt
    disposed_so answer (d, settled.Done) = tt

    -- what each operation's answer leads to
    made_so : (out : Out (Node K V)) → Always SaysSo (made p out)
    made_so (Made (Ok block)) = tt
    made_so (Made (Err back)) = tt
    made_so (Found link) = tt
    made_so Stored = tt
    made_so (Exchanged r) = tt
    made_so (Taken value) = tt
    made_so (Roomed r) = tt

    root_so : (out : Out (Node K V)) → Always SaysSo (root_found p out)
    root_so (Found link) = always_if SaysSo (link == 0) _ _ (tableless_so p.missing) (λ value. tt)
    root_so Stored = tt
    root_so (Exchanged r) = tt
    root_so (Made r) = tt
    root_so (Taken value) = tt
    root_so (Roomed r) = tt

    nexts_so : (out : Out (Node K V)) → Always SaysSo (next_found p out)
    nexts_so (Found link) = always_if SaysSo (link == 0) _ _ (last_so p.missing) (λ value. on_so _)
    nexts_so Stored = tt
    nexts_so (Exchanged r) = tt
    nexts_so (Made r) = tt
    nexts_so (Taken value) = tt
    nexts_so (Roomed r) = tt

    dropped_so : (end : End) (out : Out (Node K V)) → Always SaysSo (dropped p end out)
    dropped_so end (Taken value) = tt
    dropped_so end (Found link) = tt
    dropped_so end Stored = tt
    dropped_so end (Exchanged r) = tt
    dropped_so end (Made r) = tt
    dropped_so end (Roomed r) = tt

    module _ (asks : Q → K → Bool) (same : K → K → Bool) where
      key_so : (loaded : Bool) (word : ℕ) (key : Option K) → Always SaysSo (key_read asks same loaded p word key)
      key_so loaded word (Some key) = λ value. told_so loaded word _
      key_so loaded word None = λ own value. told_so loaded word _

      read_so : (loaded : Bool) (word : ℕ) (asked : Option Q) → Always SaysSo (pair_read asks same loaded p word asked)
      read_so loaded word (Some q) = λ value. told_so loaded word _
      read_so loaded word None = key_so loaded word p.replies.key

      word_so : (loaded : Bool) (word : ℕ) → Always SaysSo (word_read asks same loaded p word)
      word_so loaded word = always_if SaysSo (may_name p.hash word) _ _ (read_so loaded word p.asked) (told_so loaded word _)

      found_so : (out : Out (Node K V)) → Always SaysSo (word_found asks same p out)
      found_so (Found word) = word_so true word
      found_so Stored = tt
      found_so (Exchanged r) = tt
      found_so (Made r) = tt
      found_so (Taken value) = tt
      found_so (Roomed r) = tt

      tried_so : (word new : ℕ) (out : Out (Node K V)) → Always SaysSo (tried asks same p word new out)
      tried_so word new (Exchanged (Ok found)) = changed_so word new
      tried_so word new (Exchanged (Err found)) = word_so false found
      tried_so word new (Found found) = tt
      tried_so word new Stored = tt
      tried_so word new (Made r) = tt
      tried_so word new (Taken value) = tt
      tried_so word new (Roomed r) = tt

    filled_so : (word : ℕ) (out : Out (Node K V)) → Always SaysSo (filled p word out)
    filled_so word (Made (Ok block)) = tt
    filled_so word (Made (Err back)) = tt
    filled_so word (Taken value) = tt
    filled_so word (Found found) = tt
    filled_so word Stored = tt
    filled_so word (Exchanged r) = tt
    filled_so word (Roomed r) = tt

    emptied_so : (word : ℕ) (out : Out (Node K V)) → Always SaysSo (emptied p word out)
    emptied_so word (Taken (node.Pair key value)) = tt
    emptied_so word (Taken (node.Table len limit turn)) = tt
    emptied_so word (Taken node.Shards) = tt
    emptied_so word (Found found) = tt
    emptied_so word Stored = tt
    emptied_so word (Exchanged r) = tt
    emptied_so word (Made r) = tt
    emptied_so word (Roomed r) = tt

    given_up_so : (word : ℕ) (out : Out (Node K V)) → Always SaysSo (given_up p word out)
    given_up_so word (Taken (node.Pair key value)) = tt
    given_up_so word (Taken (node.Table len limit turn)) = tt
    given_up_so word (Taken node.Shards) = tt
    given_up_so word (Found found) = tt
    given_up_so word Stored = tt
    given_up_so word (Exchanged r) = tt
    given_up_so word (Made r) = tt
    given_up_so word (Roomed r) = tt

    putting_so : (b : Bool) (word : ℕ) (key : K) (value : V) → AlwaysOf SaysSo (putting_by b p word key value)
    putting_so true word key value = filled_so word
    putting_so false word key value = filled_so word

  fill_so : (p : KeyCall K V Q) (value : Option V) (word : ℕ) (key : K) → AlwaysOf SaysSo (fill_by value p word key)
  fill_so p (Some value) word key = putting_so (record p { replies = record p.replies { key = None } }) (p.own == 0) word key value
  fill_so p None word key = tt

  fills_so : (p : KeyCall K V Q) (key : Option K) (word : ℕ) → AlwaysOf SaysSo (fills_with key p word)
  fills_so p (Some key) word = fill_so (record p { replies = as_own p.replies word }) (value_for p.replies word) word key
  fills_so p None word = emptied_so p word

  asks_so : (p : KeyCall K V Q) → (it : AskingAt) → p.stands ≡ at.Asks it → AlwaysOf SaysSo (asks_at p it)
  asks_so p (asking.Absent gap) is = (gap, is)
  asks_so p (asking.Present word) is = is
  asks_so p (asking.Fills word) is = fills_so p p.replies.key word
  asks_so p (asking.GivesUp word) is = given_up_so p word

  module _ (p : KeyCall K V Q) (asks : Q → K → Bool) (same : K → K → Bool) (hash : K → ℕ) where
    makes_so : (unmade : Option (Node K V)) → AlwaysOf SaysSo (makes_of p unmade)
    makes_so (Some value) = made_so p
    makes_so None = tt

    looks_so : (l : Lookup) (asked : Option Q) → AlwaysOf SaysSo (looks_for asks p l asked)
    looks_so l (Some q) = always_plan_as SaysSo (looked p) (looked_so p) (lookup_plan (asks q) l)
    looks_so l None = tt

    ended_so : (end : End) → SaysSo (p, ended end)
    ended_so (ends.Answered answer) = tt
    ended_so (ends.Refused fault) = tt

    from : (stands : Calling) → p.stands ≡ stands → AlwaysOf SaysSo (plan_at asks same hash p stands)
    from at.Makes is = makes_so p.unmade
    from (at.Looks l) is = looks_so l p.asked
    from at.Roots is = root_so p
    from at.Probes is = found_so p asks same
    from (at.Tries word new) is = tried_so p asks same word new
    from (at.Counts removed) is = λ out. counted_so p removed
    from at.Nexts is = nexts_so p
    from (at.Firsts making) is = always_plan_as SaysSo (first_made p) (first_so p) (new_table_plan making)
    from (at.Allocs making) is = always_plan_as SaysSo (next_made p) (next_so p) (new_table_plan making)
    from (at.Helps copier goal) is = always_plan_as SaysSo (helped p goal) (helped_so p goal) (copier_plan hash copier)
    from (at.Copies copier) is = always_plan_as SaysSo (copied p) (copied_so p) (copier_plan hash copier)
    from (at.Asks it) is = asks_so p it is
    from (at.Disposes dispose answer) is = always_plan_as SaysSo (disposed p answer) (disposed_so p answer) (dispose_plan dispose)
    from (at.Drops end) is = dropped_so p end
    from (at.Over end) is = ended_so end

    pub says_so : AlwaysOf SaysSo (plan_at asks same hash p p.stands)
    says_so = from p.stands refl
