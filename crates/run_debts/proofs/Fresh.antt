-- A call on one key that has not changed its map yet goes on to count, or to dispose of a pair in the place of another one, or it has changed nothing.
use Rattle.std.specs.Prelude.{◌==◌, Option, Some, None, Ok, Err, if◌then◌else◌}
use Rattle.std.proofs.Common.{◌≡◌, ℕ, Bool, true, false, refl}
use Rattle.run_places.specs.Given.SeizeWordsMem.{Mem, Took, value_at}
use Rattle.run_places.specs.Given.SeizeWordsOp.{Out, Found, Stored, Exchanged, Made, Taken, Roomed}
use Rattle.run_places.specs.Given.SeizeWordsPlan.{Steps}
use Rattle.run_places.specs.Given.SeizeWordsWord.{block_in}
use Rattle.run_places.specs.Given.SeizeDeclared.advance.Advance.{Advance}
use Rattle.run_places.specs.Given.SeizeDeclared.advance.Advance.TheVariants as progress
use Rattle.run_places.specs.Given.TablesChunks.{is_incremental}
use Rattle.run_places.specs.Given.TablesFinding.{may_name}
use Rattle.run_places.specs.Given.TablesTrials.{next_trial, with_met}
use Rattle.run_places.specs.Given.TablesDeclared.finding.Finding.{Finding}
use Rattle.run_places.specs.Given.TablesDeclared.finding.Finding.TheVariants as finds
use Rattle.run_places.specs.Given.TablesDeclared.marks.TheConstants.{TOMBSTONE}
use Rattle.run_places.specs.Given.TablesDeclared.node.Node.{Node}
use Rattle.run_places.specs.Given.TablesDeclared.node.Node.TheVariants as node
use Rattle.run_places.specs.Given.TablesDeclared.setting.Setting.{Setting}
use Rattle.run_places.specs.Given.TablesDeclared.table.Table.{Table}
use Rattle.run_places.specs.Given.ResizeDispose.{disposing}
use Rattle.run_places.specs.Given.ResizeDeclared.dispose.Dispose.{Dispose}
use Rattle.run_places.specs.Given.ResizeCopier.{copier_plan}
use Rattle.run_places.specs.Given.ResizeCopierStates.{copying_all}
use Rattle.run_places.specs.Given.ResizeLookup.{lookup_plan}
use Rattle.run_places.specs.Given.ResizeNewTable.{new_table_plan}
use Rattle.run_places.specs.Given.ResizeDeclared.copier.Copier.{Copier}
use Rattle.run_places.specs.Given.ResizeDeclared.lookup.Lookup.{Lookup}
use Rattle.run_places.specs.Given.ResizeDeclared.new_table.NewTable.{NewTable}
use Rattle.run_places.specs.Given.ResizeDeclared.yielding.Yielding.{Yielding}
use Rattle.run_places.specs.Given.ResizeDeclared.yielding.Yielding.TheVariants as outcome
use Rattle.run_places.specs.Given.RawCall.{made, makes_of, root_found, next_found, dropped, key_read, pair_read, word_read, word_found, tried, looked, looks_for, first_made, next_made, helped, copied, plan_at, call_plan}
use Rattle.run_places.specs.Given.RawCallFills.{filled, putting_by, fill_by, emptied, fills_with, given_up}
use Rattle.run_places.specs.Given.RawCallPoints.{going, over, ending, storing, burying, at_gap, gap_by, asking_at, pair_by, tableless, at_free, at_last, at_pair, after_finding, entering, continued_in, changed, having_met}
use Rattle.run_places.specs.Given.RawReplies.{value_for, as_own}
use Rattle.run_places.specs.Given.RawDeclared.machines.answer.Called.{Called}
use Rattle.run_places.specs.Given.RawDeclared.machines.answer.Called.TheVariants as called
use Rattle.run_places.specs.Given.RawDeclared.machines.answer.End.{End}
use Rattle.run_places.specs.Given.RawDeclared.machines.answer.End.TheVariants as ends
use Rattle.run_places.specs.Given.RawDeclared.machines.answer.KeyAnswer.{KeyAnswer}
use Rattle.run_places.specs.Given.RawDeclared.machines.answer.KeyAnswer.TheVariants as answers
use Rattle.run_places.specs.Given.RawDeclared.machines.answer.Missing.{Missing}
use Rattle.run_places.specs.Given.RawDeclared.machines.answer.Missing.TheVariants as missing
use Rattle.run_places.specs.Given.RawDeclared.machines.answer.There.{There}
use Rattle.run_places.specs.Given.RawDeclared.machines.answer.There.TheVariants as there
use Rattle.run_places.specs.Given.RawDeclared.machines.asking.Asking.TheVariants as asking
use Rattle.run_places.specs.Given.RawDeclared.machines.asking.Gap.{Gap}
use Rattle.run_places.specs.Given.RawDeclared.machines.asking.Gap.TheVariants as gaps
use Rattle.run_places.specs.Given.RawDeclared.machines.asking.Told.{Told}
use Rattle.run_places.specs.Given.RawDeclared.machines.asking.Told.TheVariants as tells
use Rattle.run_places.specs.Given.RawDeclared.machines.call.Calling.{Calling}
use Rattle.run_places.specs.Given.RawDeclared.machines.call.Calling.TheVariants as at
use Rattle.run_places.specs.Given.RawDeclared.machines.call.KeyCall.{KeyCall}
use Rattle.owner_facts.proofs.Given.PointsCalls.Asked.{passed_so}
use Rattle.run_places.proofs.Given.RuleKeys.Always.{Always, AlwaysOf, always_if, always_plan_as, always_steps}
use Rattle.run_debts.specs.Counts.{counts_in_calling}

-- it has neither counted, nor begun to dispose of a pair, nor ended
abbrev pub IsBefore : Calling → Type 0
IsBefore (at.Counts removed) = ⊥
IsBefore (at.Disposes dispose answer) = ⊥
IsBefore (at.Over end) = ⊥
IsBefore _ = Unit {0}

-- an answer that tells no change
abbrev pub IsPlain : KeyAnswer → Type 0
IsPlain (answers.Stored word) = ⊥
IsPlain (answers.Replaced old new) = ⊥
IsPlain (answers.Removed word) = ⊥
IsPlain _ = Unit {0}

abbrev IsPlainEnd : End → Type 0
IsPlainEnd (ends.Answered answer) = IsPlain answer
IsPlainEnd (ends.Refused fault) = Unit {0}

-- a disposal of the pair that this word names begins
abbrev pub IsNewDisposal : Dispose → ℕ → Type 0
IsNewDisposal d word = (setting : Setting) × (table : Table) × (d ≡ disposing setting word table)

-- it disposes of no pair but one that it has replaced
abbrev pub IsFreshAt : Calling → Type 0
IsFreshAt (at.Disposes dispose (answers.Replaced old new)) = IsNewDisposal dispose old
IsFreshAt (at.Disposes dispose answer) = ⊥
IsFreshAt _ = Unit {0}

-- whichever pair that is
abbrev pub IsFreshLike : Calling → Type 0
IsFreshLike (at.Disposes dispose (answers.Replaced old new)) = Unit {0}
IsFreshLike (at.Disposes dispose answer) = ⊥
IsFreshLike _ = Unit {0}

pub fresh_like : (p : Calling) → IsFreshAt p → IsFreshLike p
fresh_like (at.Disposes dispose (answers.Replaced old new)) fresh = tt
fresh_like (at.Disposes dispose (answers.Found word)) fresh = absurd fresh
fresh_like (at.Disposes dispose answers.Absent) fresh = absurd fresh
fresh_like (at.Disposes dispose (answers.Stored word)) fresh = absurd fresh
fresh_like (at.Disposes dispose (answers.Removed word)) fresh = absurd fresh
fresh_like _ fresh = tt

before_fresh : (stands : Calling) → IsBefore stands → IsFreshAt stands
before_fresh (at.Disposes dispose answer) before = absurd before
before_fresh _ before = tt

module _ {K V Q : Type 0} where
  -- so it goes on, or it has ended, and told no change
  abbrev pub IsFresh : KeyCall K V Q × Called (Node K V) → Type 0
  IsFresh (p, called.Done answer) = IsPlain answer × (counts_in_calling p.stands ≡ false)
  IsFresh (p, called.Refused fault) = counts_in_calling p.stands ≡ false
  IsFresh (p, _) = IsFreshAt p.stands

  either : (b : Bool) (x y : KeyCall K V Q × Called (Node K V)) → IsFresh x → IsFresh y → IsFresh (if b then x else y)
  either true x y f g = f
  either false x y f g = g

  module _ (p : KeyCall K V Q) where
    over_fresh : (end : End) → IsPlainEnd end → IsFresh (over p end)
    over_fresh (ends.Answered answer) plain = (plain, refl)
    over_fresh (ends.Refused fault) plain = refl

    ending_fresh : (end : End) → IsPlainEnd end → IsFresh (ending p end)
    ending_fresh end plain = either (p.own == 0) (over p end) (going p (at.Drops end)) (over_fresh end plain) tt

    storing_fresh : (t : Told V) (word : ℕ) → IsFresh (storing t p word)
    storing_fresh tells.Own word = tt
    storing_fresh tells.Nothing word = tt
    storing_fresh (tells.Value value) word = tt
    storing_fresh tells.Removes word = tt

    burying_fresh : (word : ℕ) → IsFresh (burying p word)
    burying_fresh word = either (p.own == 0) (going p (at.Tries word TOMBSTONE)) (going p (at.Asks (asking.GivesUp word))) tt tt

    gap_fresh : (gap : Gap) → IsFresh (at_gap gap p)
    gap_fresh gaps.NoTable = tt
    gap_fresh gaps.Free = storing_fresh p.replies.absent 0
    gap_fresh gaps.Past = tt
    gap_fresh gaps.Last = tt

    asking_fresh : (gap : Gap) → IsFresh (asking_at gap p)
    asking_fresh gap = by p.replies.absent
      where
        by : (t : Told V) → IsFresh (gap_by t gap p)
        by tells.Nothing = tt
        by (tells.Value value) = gap_fresh gap
        by tells.Own = gap_fresh gap
        by tells.Removes = gap_fresh gap

    pair_fresh : (t : Told V) (word : ℕ) → IsFresh (pair_by t p word)
    pair_fresh tells.Nothing word = tt
    pair_fresh tells.Removes word = burying_fresh word
    pair_fresh tells.Own word = tt
    pair_fresh (tells.Value value) word = tt

    tableless_fresh : (t : Missing) → IsFresh (tableless t p)
    tableless_fresh missing.Answers = ending_fresh (ends.Answered answers.Absent) tt
    tableless_fresh missing.Puts = tt
    tableless_fresh missing.Asks = asking_fresh gaps.NoTable

    free_fresh : (t : Missing) → IsFresh (at_free t p)
    free_fresh missing.Answers = ending_fresh (ends.Answered answers.Absent) tt
    free_fresh missing.Puts = tt
    free_fresh missing.Asks = asking_fresh gaps.Free

    last_fresh : (t : Missing) → IsFresh (at_last t p)
    last_fresh missing.Answers = either (is_incremental p.setting.mode) (ending p (ends.Answered answers.Absent)) _ (ending_fresh (ends.Answered answers.Absent) tt) tt
    last_fresh missing.Puts = tt
    last_fresh missing.Asks = either (is_incremental p.setting.mode) (asking_at gaps.Last p) _ (asking_fresh gaps.Last) tt

    there_fresh : (t : There) (word : ℕ) → IsFresh (at_pair t p word)
    there_fresh there.Answers word = ending_fresh (ends.Answered (answers.Found word)) tt
    there_fresh there.Puts word = tt
    there_fresh there.Removes word = tt
    there_fresh there.Asks word =
        either (block_in word == p.replies.pair) (pair_by p.replies.present p word) (pair_by tells.Nothing p word) (pair_fresh p.replies.present word) (pair_fresh tells.Nothing word)

    told_fresh : (loaded : Bool) (word : ℕ) (found : Finding) → IsFresh (after_finding loaded p word found)
    told_fresh loaded word finds.Free = free_fresh p.missing
    told_fresh loaded word finds.Passed =
        passed_so IsFresh (having_met p word) (λ next. tt) tt
        (λ e. either (p.own == 0) (over (having_met p word) (ends.Answered answers.Absent)) (going (having_met p word) (at.Drops (ends.Answered answers.Absent))) (tt, refl) tt)
        (λ e untold. tt) (next_trial (with_met p.trial word))
    told_fresh loaded word finds.Moved = tt
    told_fresh true word finds.Copying = tt
    told_fresh false word finds.Copying = tt
    told_fresh loaded word finds.There = there_fresh p.there word

    on_fresh : (table : Table) → IsFresh (continued_in p table)
    on_fresh table =
        either (is_incremental p.setting.mode) _ (going p (at.Copies (copying_all p.setting p.trial.table table))) (either p.helped (entering p table) _ tt tt) tt

    changed_fresh : (word new : ℕ) → IsFresh (changed p word new)
    changed_fresh word new = either (new == TOMBSTONE) (going p (at.Counts word)) _ tt (either (word == 0) (going p (at.Counts 0)) _ tt (_, _, refl))

    -- what machines within it tell
    looked_fresh : (end : Lookup × Advance (Option ℕ)) → IsFresh (looked p end)
    looked_fresh (l, progress.Goes) = tt
    looked_fresh (l, progress.Waits) = tt
    looked_fresh (l, progress.Done (Some found)) = (tt, refl)
    looked_fresh (l, progress.Done None) = (tt, refl)
    looked_fresh (l, progress.Refused fault) = refl

    first_fresh : (end : NewTable × Advance Table) → IsFresh (first_made p end)
    first_fresh (n, progress.Goes) = tt
    first_fresh (n, progress.Waits) = tt
    first_fresh (n, progress.Done table) = tt
    first_fresh (n, progress.Refused fault) = ending_fresh (ends.Refused fault) tt

    next_fresh : (end : NewTable × Advance Table) → IsFresh (next_made p end)
    next_fresh (n, progress.Goes) = tt
    next_fresh (n, progress.Waits) = tt
    next_fresh (n, progress.Done table) = on_fresh table
    next_fresh (n, progress.Refused fault) = ending_fresh (ends.Refused fault) tt

    helped_fresh : (goal : Table) (end : Copier × Yielding (Node K V) Table) → IsFresh (helped p goal end)
    helped_fresh goal (c, outcome.Goes) = tt
    helped_fresh goal (c, outcome.Waits) = tt
    helped_fresh goal (c, outcome.Gave value) = tt
    helped_fresh goal (c, outcome.Done table) = tt
    helped_fresh goal (c, outcome.Refused fault) = ending_fresh (ends.Refused fault) tt

    copied_fresh : (end : Copier × Yielding (Node K V) Table) → IsFresh (copied p end)
    copied_fresh (c, outcome.Goes) = tt
    copied_fresh (c, outcome.Waits) = tt
    copied_fresh (c, outcome.Gave value) = tt
    copied_fresh (c, outcome.Done table) = tt
    copied_fresh (c, outcome.Refused fault) = ending_fresh (ends.Refused fault) tt

    -- what each operation's answer leads to
    module _ (fresh : IsFreshAt p.stands) where
      root_fresh : (out : Out (Node K V)) → Always IsFresh (root_found p out)
      root_fresh (Found link) = always_if IsFresh (link == 0) _ _ (tableless_fresh p.missing) (λ value. tt)
      root_fresh Stored = fresh
      root_fresh (Exchanged r) = fresh
      root_fresh (Made r) = fresh
      root_fresh (Taken value) = fresh
      root_fresh (Roomed r) = fresh

      nexts_fresh : (out : Out (Node K V)) → Always IsFresh (next_found p out)
      nexts_fresh (Found link) = always_if IsFresh (link == 0) _ _ (last_fresh p.missing) (λ value. on_fresh _)
      nexts_fresh Stored = fresh
      nexts_fresh (Exchanged r) = fresh
      nexts_fresh (Made r) = fresh
      nexts_fresh (Taken value) = fresh
      nexts_fresh (Roomed r) = fresh

      made_fresh : (out : Out (Node K V)) → Always IsFresh (made p out)
      made_fresh (Made (Ok block)) = tt
      made_fresh (Made (Err value)) = tt
      made_fresh Stored = fresh
      made_fresh (Exchanged r) = fresh
      made_fresh (Found word) = fresh
      made_fresh (Taken value) = fresh
      made_fresh (Roomed r) = fresh

      makes_fresh : (unmade : Option (Node K V)) → AlwaysOf IsFresh (makes_of p unmade)
      makes_fresh (Some value) = made_fresh
      makes_fresh None = tt

      dropped_fresh : (end : End) (out : Out (Node K V)) → Always IsFresh (dropped p end out)
      dropped_fresh end (Taken value) = tt
      dropped_fresh end Stored = fresh
      dropped_fresh end (Exchanged r) = fresh
      dropped_fresh end (Found word) = fresh
      dropped_fresh end (Made r) = fresh
      dropped_fresh end (Roomed r) = fresh

      given_fresh : (word : ℕ) (out : Out (Node K V)) → Always IsFresh (given_up p word out)
      given_fresh word (Taken (node.Pair key value)) = tt
      given_fresh word (Taken (node.Table len limit turn)) = tt
      given_fresh word (Taken node.Shards) = tt
      given_fresh word Stored = fresh
      given_fresh word (Exchanged r) = fresh
      given_fresh word (Found found) = fresh
      given_fresh word (Made r) = fresh
      given_fresh word (Roomed r) = fresh

      emptied_fresh : (word : ℕ) (out : Out (Node K V)) → Always IsFresh (emptied p word out)
      emptied_fresh word (Taken (node.Pair key value)) = tt
      emptied_fresh word (Taken (node.Table len limit turn)) = tt
      emptied_fresh word (Taken node.Shards) = tt
      emptied_fresh word Stored = tt
      emptied_fresh word (Exchanged r) = tt
      emptied_fresh word (Found found) = tt
      emptied_fresh word (Made r) = tt
      emptied_fresh word (Roomed r) = tt

      filled_fresh : (word : ℕ) (out : Out (Node K V)) → Always IsFresh (filled p word out)
      filled_fresh word (Made (Ok block)) = tt
      filled_fresh word (Made (Err value)) = tt
      filled_fresh word (Taken value) = tt
      filled_fresh word Stored = fresh
      filled_fresh word (Exchanged r) = fresh
      filled_fresh word (Found found) = fresh
      filled_fresh word (Roomed r) = fresh

      module _ (asks : Q → K → Bool) (same : K → K → Bool) where
        key_fresh : (loaded : Bool) (word : ℕ) (key : Option K) → Always IsFresh (key_read asks same loaded p word key)
        key_fresh loaded word (Some key) = λ value. told_fresh loaded word _
        key_fresh loaded word None = λ own value. told_fresh loaded word _

        read_fresh : (loaded : Bool) (word : ℕ) (asked : Option Q) → Always IsFresh (pair_read asks same loaded p word asked)
        read_fresh loaded word (Some q) = λ value. told_fresh loaded word _
        read_fresh loaded word None = key_fresh loaded word p.replies.key

        word_fresh : (loaded : Bool) (word : ℕ) → Always IsFresh (word_read asks same loaded p word)
        word_fresh loaded word = always_if IsFresh (may_name p.hash word) _ _ (read_fresh loaded word p.asked) (told_fresh loaded word _)

        found_fresh : (out : Out (Node K V)) → Always IsFresh (word_found asks same p out)
        found_fresh (Found word) = word_fresh true word
        found_fresh Stored = fresh
        found_fresh (Exchanged r) = fresh
        found_fresh (Made r) = fresh
        found_fresh (Taken value) = fresh
        found_fresh (Roomed r) = fresh

        tried_fresh : (word new : ℕ) (out : Out (Node K V)) → Always IsFresh (tried asks same p word new out)
        tried_fresh word new (Exchanged (Ok found)) = changed_fresh word new
        tried_fresh word new (Exchanged (Err found)) = word_fresh false found
        tried_fresh word new (Found found) = fresh
        tried_fresh word new Stored = fresh
        tried_fresh word new (Made r) = fresh
        tried_fresh word new (Taken value) = fresh
        tried_fresh word new (Roomed r) = fresh

  -- what is told to be stored goes into its own block
  putting_fresh : (b : Bool) (p : KeyCall K V Q) (word : ℕ) (key : K) (value : V) → IsFreshAt p.stands → AlwaysOf IsFresh (putting_by b p word key value)
  putting_fresh true p word key value fresh = filled_fresh p fresh word
  putting_fresh false p word key value fresh = filled_fresh p fresh word

  fill_fresh : (o : Option V) (p : KeyCall K V Q) (word : ℕ) (key : K) → IsFreshAt p.stands → AlwaysOf IsFresh (fill_by o p word key)
  fill_fresh (Some value) p word key fresh = putting_fresh (p.own == 0) (record p { replies = record p.replies { key = None } }) word key value fresh
  fill_fresh None p word key fresh = tt

  fills_fresh : (key : Option K) (p : KeyCall K V Q) (word : ℕ) → IsFreshAt p.stands → AlwaysOf IsFresh (fills_with key p word)
  fills_fresh (Some key) p word fresh = fill_fresh (value_for p.replies word) (record p { replies = as_own p.replies word }) word key fresh
  fills_fresh None p word fresh = emptied_fresh p fresh word

  looks_fresh : (asks : Q → K → Bool) (p : KeyCall K V Q) (lookup : Lookup) (asked : Option Q) → AlwaysOf IsFresh (looks_for asks p lookup asked)
  looks_fresh asks p lookup (Some q) = always_plan_as IsFresh (looked p) (looked_fresh p) (lookup_plan (asks q) lookup)
  looks_fresh asks p lookup None = (tt, refl)

  fresh_at : (asks : Q → K → Bool) (same : K → K → Bool) (hash : K → ℕ) (p : KeyCall K V Q) (stands : Calling) → IsFreshAt p.stands → IsBefore stands → AlwaysOf IsFresh (plan_at asks same hash p stands)
  fresh_at asks same hash p at.Makes fresh before = makes_fresh p fresh p.unmade
  fresh_at asks same hash p (at.Looks lookup) fresh before = looks_fresh asks p lookup p.asked
  fresh_at asks same hash p at.Roots fresh before = root_fresh p fresh
  fresh_at asks same hash p at.Probes fresh before = found_fresh p fresh asks same
  fresh_at asks same hash p (at.Tries word new) fresh before = tried_fresh p fresh asks same word new
  fresh_at asks same hash p (at.Counts removed) fresh before = absurd before
  fresh_at asks same hash p at.Nexts fresh before = nexts_fresh p fresh
  fresh_at asks same hash p (at.Firsts making) fresh before = always_plan_as IsFresh (first_made p) (first_fresh p) (new_table_plan making)
  fresh_at asks same hash p (at.Allocs making) fresh before = always_plan_as IsFresh (next_made p) (next_fresh p) (new_table_plan making)
  fresh_at asks same hash p (at.Helps copier goal) fresh before = always_plan_as IsFresh (helped p goal) (helped_fresh p goal) (copier_plan hash copier)
  fresh_at asks same hash p (at.Copies copier) fresh before = always_plan_as IsFresh (copied p) (copied_fresh p) (copier_plan hash copier)
  fresh_at asks same hash p (at.Asks (asking.Absent gap)) fresh before = fresh
  fresh_at asks same hash p (at.Asks (asking.Present word)) fresh before = fresh
  fresh_at asks same hash p (at.Asks (asking.Fills word)) fresh before = fills_fresh p.replies.key p word fresh
  fresh_at asks same hash p (at.Asks (asking.GivesUp word)) fresh before = given_fresh p fresh word
  fresh_at asks same hash p (at.Disposes dispose answer) fresh before = absurd before
  fresh_at asks same hash p (at.Drops end) fresh before = dropped_fresh p fresh end
  fresh_at asks same hash p (at.Over end) fresh before = absurd before

  -- so it is after each of its steps
  pub fresh_step : (asks : Q → K → Bool) (same : K → K → Bool) (hash : K → ℕ) (p : KeyCall K V Q) → IsBefore p.stands → (m m2 : Mem (Node K V)) (end : KeyCall K V Q × Called (Node K V))
      → Steps Took value_at m (call_plan asks same hash p) m2 end → IsFresh end
  fresh_step asks same hash p before m m2 end steps = always_steps IsFresh m m2 (call_plan asks same hash p) end (fresh_at asks same hash p p.stands (before_fresh p.stands before) before) steps
