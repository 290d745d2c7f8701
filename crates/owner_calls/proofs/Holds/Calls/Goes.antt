-- Where a call on one key goes on it keeps its own block, and what its point says of that.
use Rattle.std.specs.Prelude.{◌==◌, Option, Some, None, Ok, Err, if◌then◌else◌}
use Rattle.std.proofs.Common.{◌≡◌, ◌≢◌, ℕ, Bool, true, false, ◌⊎◌, inl, inr, refl, sym, ◌∙◌, subst, eqb-true}
use Rattle.std.proofs.lemmas.Bool.{eqb-false}
use Rattle.seize_words.specs.OneMemory.Op.{Out, Found, Stored, Exchanged, Made, Taken, Roomed}
use Rattle.seize_words.specs.OneMemory.Word.{block_in}
use Rattle.seize.specs.declared.advance.Advance.{Advance}
use Rattle.seize.specs.declared.advance.Advance.TheVariants as progress
use Rattle.seize.specs.declared.rows.settle.Settled.{Settled}
use Rattle.seize.specs.declared.rows.settle.Settled.TheVariants as settled
use Rattle.map_tables.specs.Chunks.{is_incremental}
use Rattle.map_tables.specs.Finding.{may_name}
use Rattle.map_tables.specs.Trials.{next_trial, with_met}
use Rattle.map_tables.specs.declared.finding.Finding.{Finding}
use Rattle.map_tables.specs.declared.finding.Finding.TheVariants as finds
use Rattle.map_tables.specs.declared.marks.TheConstants.{TOMBSTONE}
use Rattle.map_tables.specs.declared.node.Node.{Node}
use Rattle.map_tables.specs.declared.table.Table.{Table}
use Rattle.map_straight.specs.Given.ResizeCopierStates.{copying_all}
use Rattle.map_straight.specs.Given.ResizeDispose.{disposing}
use Rattle.map_straight.specs.Given.ResizeDeclared.copier.Copier.{Copier}
use Rattle.map_straight.specs.Given.ResizeDeclared.dispose.Dispose.{Dispose}
use Rattle.map_straight.specs.Given.ResizeDeclared.lookup.Lookup.{Lookup}
use Rattle.map_straight.specs.Given.ResizeDeclared.new_table.NewTable.{NewTable}
use Rattle.map_straight.specs.Given.ResizeDeclared.yielding.Yielding.{Yielding}
use Rattle.map_straight.specs.Given.ResizeDeclared.yielding.Yielding.TheVariants as outcome
use Rattle.papaya_raw.specs.Answers.{ended}
use Rattle.papaya_raw.specs.Call.{root_found, next_found, key_read, pair_read, word_read, word_found, tried, looked, first_made, next_made, disposed, helped, copied}
use Rattle.papaya_raw.specs.CallPoints.{going, standing, over, ending, following_made, storing, burying, at_gap, gap_by, asking_at, pair_by, tableless, at_free, at_last, at_pair, after_finding, entering, continued_in, changed, counted, having_met}
use Rattle.papaya_raw.specs.declared.machines.answer.KeyAnswer.{KeyAnswer}
use Rattle.papaya_raw.specs.declared.machines.answer.KeyAnswer.TheVariants as answers
use Rattle.papaya_raw.specs.declared.machines.answer.Called.{Called}
use Rattle.papaya_raw.specs.declared.machines.answer.Called.TheVariants as called
use Rattle.papaya_raw.specs.declared.machines.answer.End.{End}
use Rattle.papaya_raw.specs.declared.machines.answer.End.TheVariants as ends
use Rattle.papaya_raw.specs.declared.machines.answer.Missing.{Missing}
use Rattle.papaya_raw.specs.declared.machines.answer.Missing.TheVariants as missing
use Rattle.papaya_raw.specs.declared.machines.answer.There.{There}
use Rattle.papaya_raw.specs.declared.machines.answer.There.TheVariants as there
use Rattle.papaya_raw.specs.declared.machines.asking.Asking.TheVariants as asking
use Rattle.papaya_raw.specs.declared.machines.asking.Gap.{Gap}
use Rattle.papaya_raw.specs.declared.machines.asking.Gap.TheVariants as gaps
use Rattle.papaya_raw.specs.declared.machines.asking.Told.{Told}
use Rattle.papaya_raw.specs.declared.machines.asking.Told.TheVariants as tells
use Rattle.papaya_raw.specs.declared.machines.call.Calling.{Calling}
use Rattle.papaya_raw.specs.declared.machines.call.Calling.TheVariants as at
use Rattle.papaya_raw.specs.declared.machines.call.KeyCall.{KeyCall}
use Rattle.owner_whole.proofs.Given.PointsCalls.Asked.{passed_so}
use Rattle.map_straight.proofs.Given.RuleKeys.Always.{Always, always_if}
use Rattle.owner_calls.specs.Holds.Came.{AnswerNamesOwn, EndsOwn, OwnsAt, Owns}

-- an end that tells nothing of its own block
abbrev IsPlain : End → Type 0
IsPlain (ends.Answered (answers.Stored word)) = ⊥
IsPlain (ends.Answered (answers.Replaced old new)) = ⊥
IsPlain _ = Unit {0}

plain_ends : (end : End) → IsPlain end → EndsOwn 0 end
plain_ends (ends.Answered answers.Absent) plain = refl
plain_ends (ends.Answered (answers.Found word)) plain = refl
plain_ends (ends.Answered (answers.Stored word)) plain = absurd plain
plain_ends (ends.Answered (answers.Replaced old new)) plain = absurd plain
plain_ends (ends.Answered (answers.Removed word)) plain = refl
plain_ends (ends.Refused fault) plain = refl

module _ {K V Q : Type 0} where
  -- what it tells of its own block
  abbrev pub TellsSo : KeyCall K V Q × Called (Node K V) → Type 0
  TellsSo (p, called.Done answer) = AnswerNamesOwn p.own answer
  TellsSo (p, called.Refused fault) = p.own ≡ 0
  TellsSo _ = Unit {0}

  -- it goes on with this own block
  abbrev pub GoesWith : ℕ → KeyCall K V Q × Called (Node K V) → Type 0
  GoesWith own e = Owns e.0 × TellsSo e × (e.0.own ≡ own)

  by_test : (own : ℕ) (b : Bool) (x y : KeyCall K V Q × Called (Node K V)) → (b ≡ true → GoesWith own x) → (b ≡ false → GoesWith own y) → GoesWith own (if b then x else y)
  by_test own true x y f g = f refl
  by_test own false x y f g = g refl

  either : (own : ℕ) (b : Bool) (x y : KeyCall K V Q × Called (Node K V)) → GoesWith own x → GoesWith own y → GoesWith own (if b then x else y)
  either own b x y f g = by_test own b x y (λ e. f) (λ e. g)

  module _ (p : KeyCall K V Q) (o : Owns p) where
    pub on_to : (stands : Calling) → OwnsAt p stands → GoesWith p.own (going p stands)
    on_to stands point = (record { code = o.code; live = o.live; removes = o.removes; point = point }, tt, refl)

    waiting : (stands : Calling) → OwnsAt p stands → GoesWith p.own (standing p stands, called.Waits)
    waiting stands point = (record { code = o.code; live = o.live; removes = o.removes; point = point }, tt, refl)

    giving : (stands : Calling) (value : Node K V) → OwnsAt p stands → GoesWith p.own (standing p stands, called.Gave value)
    giving stands value point = (record { code = o.code; live = o.live; removes = o.removes; point = point }, tt, refl)

    asking_on : (stands : Calling) (about : Option ℕ) → OwnsAt p stands → GoesWith p.own (standing p stands, called.Asks about)
    asking_on stands about point = (record { code = o.code; live = o.live; removes = o.removes; point = point }, tt, refl)

    pub over_so : (end : End) → EndsOwn p.own end → GoesWith p.own (over p end)
    over_so (ends.Answered answer) so = (record { code = o.code; live = o.live; removes = o.removes; point = so }, so, refl)
    over_so (ends.Refused fault) so = (record { code = o.code; live = o.live; removes = o.removes; point = so }, so, refl)

    pub ending_so : (end : End) → IsPlain end → GoesWith p.own (ending p end)
    ending_so end plain =
        by_test p.own (p.own == 0) (over p end) (going p (at.Drops end)) (λ e. over_so end (subst (λ (own : ℕ). EndsOwn own end) (sym (eqb-true p.own 0 e)) (plain_ends end plain)))
        (λ e. on_to (at.Drops end) (plain_ends end plain))

    -- it may put its own block, unless it only removes
    asks_so : p.missing ≡ missing.Asks → p.there ≢ there.Removes
    asks_so asks removes = let answers = (o.removes removes).0 in cc (asks, answers)

    puts_so : (word : ℕ) → GoesWith p.own (going p (at.Tries word p.own))
    puts_so word = on_to (at.Tries word p.own) (inl refl)

    storing_so : p.there ≢ there.Removes → (t : Told V) (word : ℕ) → GoesWith p.own (storing t p word)
    storing_so some tells.Own word = puts_so word
    storing_so some tells.Nothing word = on_to (at.Asks (asking.Fills word)) some
    storing_so some (tells.Value value) word = on_to (at.Asks (asking.Fills word)) some
    storing_so some tells.Removes word = on_to (at.Asks (asking.Fills word)) some

    pub burying_so : p.there ≢ there.Removes → (word : ℕ) → GoesWith p.own (burying p word)
    burying_so some word =
        by_test p.own (p.own == 0) (going p (at.Tries word TOMBSTONE)) (going p (at.Asks (asking.GivesUp word))) (λ e. on_to (at.Tries word TOMBSTONE) (inr (eqb-true p.own 0 e)))
        (λ e. on_to (at.Asks (asking.GivesUp word)) some)

    following_so : GoesWith p.own (following_made p)
    following_so = (record { code = o.code; live = o.live; removes = o.removes; point = tt }, tt, refl)

    pub gap_so : p.there ≢ there.Removes → (gap : Gap) → GoesWith p.own (at_gap gap p)
    gap_so some gaps.NoTable = on_to _ tt
    gap_so some gaps.Free = storing_so some p.replies.absent 0
    gap_so some gaps.Past = on_to at.Nexts tt
    gap_so some gaps.Last = following_so

    asking_so : p.there ≢ there.Removes → (gap : Gap) → GoesWith p.own (asking_at gap p)
    asking_so some gap = by p.replies.absent
      where
        by : (t : Told V) → GoesWith p.own (gap_by t gap p)
        by tells.Nothing = asking_on (at.Asks (asking.Absent gap)) None some
        by (tells.Value value) = gap_so some gap
        by tells.Own = gap_so some gap
        by tells.Removes = gap_so some gap

    pair_so : p.there ≢ there.Removes → (t : Told V) (word : ℕ) → GoesWith p.own (pair_by t p word)
    pair_so some tells.Nothing word = asking_on (at.Asks (asking.Present word)) (Some word) some
    pair_so some tells.Removes word = burying_so some word
    pair_so some tells.Own word = storing_so some tells.Own word
    pair_so some (tells.Value value) word = storing_so some (tells.Value value) word

    tableless_so : (t : Missing) → p.missing ≡ t → GoesWith p.own (tableless t p)
    tableless_so missing.Answers e = ending_so (ends.Answered answers.Absent) tt
    tableless_so missing.Puts e = on_to _ tt
    tableless_so missing.Asks e = asking_so (asks_so e) gaps.NoTable

    free_so : (t : Missing) → p.missing ≡ t → GoesWith p.own (at_free t p)
    free_so missing.Answers e = ending_so (ends.Answered answers.Absent) tt
    free_so missing.Puts e = puts_so 0
    free_so missing.Asks e = asking_so (asks_so e) gaps.Free

    last_so : (t : Missing) → p.missing ≡ t → GoesWith p.own (at_last t p)
    last_so missing.Answers e = either p.own (is_incremental p.setting.mode) (ending p (ends.Answered answers.Absent)) (following_made p) (ending_so (ends.Answered answers.Absent) tt) following_so
    last_so missing.Puts e = following_so
    last_so missing.Asks e = either p.own (is_incremental p.setting.mode) (asking_at gaps.Last p) (following_made p) (asking_so (asks_so e) gaps.Last) following_so

    there_so : (t : There) → p.there ≡ t → (word : ℕ) → GoesWith p.own (at_pair t p word)
    there_so there.Answers e word = ending_so (ends.Answered (answers.Found word)) tt
    there_so there.Puts e word = puts_so word
    there_so there.Removes e word = on_to (at.Tries word TOMBSTONE) (inr (o.removes e).1)
    there_so there.Asks e word =
        either p.own (block_in word == p.replies.pair) (pair_by p.replies.present p word) (pair_by tells.Nothing p word) (pair_so (λ r. cc (e, r)) p.replies.present word)
        (pair_so (λ r. cc (e, r)) tells.Nothing word)

    told_so : (loaded : Bool) (word : ℕ) (found : Finding) → GoesWith p.own (after_finding loaded p word found)
    told_so loaded word finds.Free = free_so p.missing refl
    told_so loaded word finds.Passed =
        passed_so (GoesWith p.own) (having_met p word) (λ next. (record { code = o.code; live = o.live; removes = o.removes; point = tt }, tt, refl))
        (record { code = o.code; live = o.live; removes = o.removes; point = tt }, tt, refl)
        (λ e. by_test p.own (p.own == 0) (over (having_met p word) (ends.Answered answers.Absent)) (going (having_met p word) (at.Drops (ends.Answered answers.Absent)))
        (λ none. (record { code = o.code; live = o.live; removes = o.removes; point = eqb-true p.own 0 none }, eqb-true p.own 0 none, refl))
        (λ some. (record { code = o.code; live = o.live; removes = o.removes; point = plain_ends (ends.Answered answers.Absent) tt }, tt, refl)))
        (λ e untold. (record { code = o.code; live = o.live; removes = o.removes; point = asks_so e }, tt, refl)) (next_trial (with_met p.trial word))
    told_so loaded word finds.Moved = on_to at.Nexts tt
    told_so loaded word finds.Copying = either p.own loaded (standing p at.Probes, called.Waits) (going p at.Probes) (waiting at.Probes tt) (on_to at.Probes tt)
    told_so loaded word finds.There = there_so p.there refl word

    pub entering_so : (table : Table) → GoesWith p.own (entering p table)
    entering_so table = (record { code = o.code; live = o.live; removes = o.removes; point = tt }, tt, refl)

    on_so : (table : Table) → GoesWith p.own (continued_in p table)
    on_so table =
        either p.own (is_incremental p.setting.mode) _ (going p (at.Copies (copying_all p.setting p.trial.table table)))
        (either p.own p.helped (entering p table) _ (entering_so table) (record { code = o.code; live = o.live; removes = o.removes; point = tt }, tt, refl))
        (on_to (at.Copies (copying_all p.setting p.trial.table table)) tt)

    pub changed_so : (word new : ℕ) → (new ≡ p.own) ⊎ (p.own ≡ 0) → GoesWith p.own (changed p word new)
    changed_so word new own =
        by_test p.own (new == TOMBSTONE) (going p (at.Counts word)) _
        (λ e. on_to (at.Counts word) (elim own as (λ _. (word ≡ 0) ⊎ (p.own ≡ 0)) [
          | inl is ↦ absurd (o.live (sym is ∙ eqb-true new TOMBSTONE e))
          | inr none ↦ inr none
        ]))
        (λ e. either p.own (word == 0) (going p (at.Counts 0)) _ (on_to (at.Counts 0) (inl refl))
        (on_to (at.Disposes (disposing p.setting word p.trial.table) (answers.Replaced word p.own)) refl))

    pub counted_so : (removed : ℕ) → (removed ≡ 0) ⊎ (p.own ≡ 0) → GoesWith p.own (counted p removed)
    counted_so removed own =
        by_test p.own (removed == 0) (over p (ends.Answered (answers.Stored p.own))) _ (λ e. over_so (ends.Answered (answers.Stored p.own)) refl)
        (λ e. on_to (at.Disposes (disposing p.setting removed p.trial.table) (answers.Removed removed)) (elim own as (λ _. p.own ≡ 0) [
          | inl is ↦ absurd (eqb-false removed 0 e is)
          | inr none ↦ none
        ]))

    -- what machines within it tell
    pub looked_so : p.own ≡ 0 → (end : Lookup × Advance (Option ℕ)) → GoesWith p.own (looked p end)
    looked_so none (l, progress.Goes) = on_to (at.Looks l) none
    looked_so none (l, progress.Waits) = waiting (at.Looks l) none
    looked_so none (l, progress.Done (Some found)) = over_so (ends.Answered (answers.Found found)) none
    looked_so none (l, progress.Done None) = over_so (ends.Answered answers.Absent) none
    looked_so none (l, progress.Refused fault) = over_so (ends.Refused fault) none

    pub first_so : (end : NewTable × Advance Table) → GoesWith p.own (first_made p end)
    first_so (n, progress.Goes) = on_to (at.Firsts n) tt
    first_so (n, progress.Waits) = waiting (at.Firsts n) tt
    first_so (n, progress.Done table) = entering_so table
    first_so (n, progress.Refused fault) = ending_so (ends.Refused fault) tt

    pub next_so : (end : NewTable × Advance Table) → GoesWith p.own (next_made p end)
    next_so (n, progress.Goes) = on_to (at.Allocs n) tt
    next_so (n, progress.Waits) = waiting (at.Allocs n) tt
    next_so (n, progress.Done table) = on_so table
    next_so (n, progress.Refused fault) = ending_so (ends.Refused fault) tt

    pub helped_so : (goal : Table) (end : Copier × Yielding (Node K V) Table) → GoesWith p.own (helped p goal end)
    helped_so goal (c, outcome.Goes) = on_to (at.Helps c goal) tt
    helped_so goal (c, outcome.Waits) = waiting (at.Helps c goal) tt
    helped_so goal (c, outcome.Gave value) = giving (at.Helps c goal) value tt
    helped_so goal (c, outcome.Done table) = entering_so goal
    helped_so goal (c, outcome.Refused fault) = ending_so (ends.Refused fault) tt

    pub copied_so : (end : Copier × Yielding (Node K V) Table) → GoesWith p.own (copied p end)
    copied_so (c, outcome.Goes) = on_to (at.Copies c) tt
    copied_so (c, outcome.Waits) = waiting (at.Copies c) tt
    copied_so (c, outcome.Gave value) = giving (at.Copies c) value tt
    copied_so (c, outcome.Done table) = entering_so table
    copied_so (c, outcome.Refused fault) = ending_so (ends.Refused fault) tt

    pub disposed_so : (answer : KeyAnswer) → AnswerNamesOwn p.own answer → (end : Dispose × Settled (Node K V)) → GoesWith p.own (disposed p answer end)
    disposed_so answer so (d, settled.Goes) = on_to (at.Disposes d answer) so
    disposed_so answer so (d, settled.Waits) = waiting (at.Disposes d answer) so
    disposed_so answer so (d, settled.Gave value) = giving (at.Disposes d answer) value so
    disposed_so answer so (d, settled.Done) = over_so (ends.Answered answer) so

    -- what each operation's answer leads to
    as_it_is : GoesWith p.own (p, called.Goes)
    as_it_is = (o, tt, refl)

    pub root_so : (out : Out (Node K V)) → Always (GoesWith p.own) (root_found p out)
    root_so (Found link) = always_if (GoesWith p.own) (link == 0) _ _ (tableless_so p.missing refl) (λ value. entering_so _)
    root_so Stored = as_it_is
    root_so (Exchanged r) = as_it_is
    root_so (Made r) = as_it_is
    root_so (Taken value) = as_it_is
    root_so (Roomed r) = as_it_is

    pub nexts_so : (out : Out (Node K V)) → Always (GoesWith p.own) (next_found p out)
    nexts_so (Found link) = always_if (GoesWith p.own) (link == 0) _ _ (last_so p.missing refl) (λ value. on_so _)
    nexts_so Stored = as_it_is
    nexts_so (Exchanged r) = as_it_is
    nexts_so (Made r) = as_it_is
    nexts_so (Taken value) = as_it_is
    nexts_so (Roomed r) = as_it_is

    module _ (asks : Q → K → Bool) (same : K → K → Bool) where
      key_so : (loaded : Bool) (word : ℕ) (key : Option K) → Always (GoesWith p.own) (key_read asks same loaded p word key)
      key_so loaded word (Some key) = λ value. told_so loaded word _
      key_so loaded word None = λ own value. told_so loaded word _

      read_so : (loaded : Bool) (word : ℕ) (asked : Option Q) → Always (GoesWith p.own) (pair_read asks same loaded p word asked)
      read_so loaded word (Some q) = λ value. told_so loaded word _
      read_so loaded word None = key_so loaded word p.replies.key

      word_so : (loaded : Bool) (word : ℕ) → Always (GoesWith p.own) (word_read asks same loaded p word)
      word_so loaded word = always_if (GoesWith p.own) (may_name p.hash word) _ _ (read_so loaded word p.asked) (told_so loaded word _)

      pub found_so : (out : Out (Node K V)) → Always (GoesWith p.own) (word_found asks same p out)
      found_so (Found word) = word_so true word
      found_so Stored = as_it_is
      found_so (Exchanged r) = as_it_is
      found_so (Made r) = as_it_is
      found_so (Taken value) = as_it_is
      found_so (Roomed r) = as_it_is

      pub tried_so : (word new : ℕ) → (new ≡ p.own) ⊎ (p.own ≡ 0) → (out : Out (Node K V)) → Always (GoesWith p.own) (tried asks same p word new out)
      tried_so word new own (Exchanged (Ok found)) = changed_so word new own
      tried_so word new own (Exchanged (Err found)) = word_so false found
      tried_so word new own (Found found) = as_it_is
      tried_so word new own Stored = as_it_is
      tried_so word new own (Made r) = as_it_is
      tried_so word new own (Taken value) = as_it_is
      tried_so word new own (Roomed r) = as_it_is

    -- it tells how it has ended
    pub told_over : (end : End) → EndsOwn p.own end → GoesWith p.own (p, ended end)
    told_over (ends.Answered answer) so = (o, so, refl)
    told_over (ends.Refused fault) so = (o, so, refl)
