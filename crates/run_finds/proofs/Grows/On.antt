-- A step of a call on one key comes to the making of a table only where the call has what it stores.
use Rattle.std.specs.Prelude.{◌≡◌, ℕ, suc, ◌<◌, ◌≤◌, ◌==◌, Bool, true, false, Option, Some, None, Ok, Err, ◌⊎◌, if◌then◌else◌}
use Rattle.std.proofs.Common.{refl, ap, sym, subst, ◌∙◌, inl, inr, arith}
use Rattle.run_executor.specs.Given.SeizeWordsMem.{Mem, Gives, value_at, word_at}
use Rattle.run_executor.specs.Given.SeizeWordsOp.{Out, Load, Exchange, Found, Exchanged, Made, Taken}
use Rattle.run_executor.specs.Given.SeizeWordsPlan.{Now, Seeing, Ends}
use Rattle.run_executor.specs.Given.SeizeWordsWord.{block_in}
use Rattle.run_executor.specs.Given.SeizeWordsDeclared.fault.Fault.TheVariants.{RemoveNothing}
use Rattle.run_executor.specs.Given.SeizeDeclared.advance.Advance.{Advance}
use Rattle.run_executor.specs.Given.SeizeDeclared.advance.Advance.TheVariants as progress
use Rattle.run_executor.specs.Given.SeizeDeclared.rows.settle.Settled.{Settled}
use Rattle.run_executor.specs.Given.SeizeDeclared.rows.settle.Settled.TheVariants as settling
use Rattle.run_blocks.specs.Given.TablesChunks.{is_incremental}
use Rattle.run_blocks.specs.Given.TablesFinding.{may_name, finding}
use Rattle.run_blocks.specs.Given.TablesNodes.{table_seen}
use Rattle.run_blocks.specs.Given.TablesTablePlaces.{at_word}
use Rattle.run_blocks.specs.Given.TablesTrials.{found_full, next_trial, with_met, place_tried}
use Rattle.run_blocks.specs.Given.TablesDeclared.finding.Finding.{Finding}
use Rattle.run_blocks.specs.Given.TablesDeclared.finding.Finding.TheVariants as is
use Rattle.run_blocks.specs.Given.TablesDeclared.marks.TheConstants.{TOMBSTONE}
use Rattle.run_blocks.specs.Given.TablesDeclared.node.Node.{Node}
use Rattle.run_blocks.specs.Given.TablesDeclared.node.Node.TheVariants as nodes
use Rattle.run_blocks.specs.Given.TablesDeclared.table.Table.{Table}
use Rattle.run_blocks.specs.Given.TablesDeclared.table_words.TheConstants.{NEXT}
use Rattle.run_blocks.specs.Given.TablesDeclared.trial.Trial.{Trial}
use Rattle.run_blocks.specs.Given.ResizeCopier.{copier_plan}
use Rattle.run_blocks.specs.Given.ResizeCopierStates.{helping, copying_all}
use Rattle.run_blocks.specs.Given.ResizeDispose.{disposing, dispose_plan}
use Rattle.run_blocks.specs.Given.ResizeLookup.{names_pair, lookup_plan}
use Rattle.run_blocks.specs.Given.ResizeNewTable.{new_table_plan}
use Rattle.run_blocks.specs.Given.ResizeDeclared.copier.Copier.{Copier}
use Rattle.run_blocks.specs.Given.ResizeDeclared.dispose.Dispose.{Dispose}
use Rattle.run_blocks.specs.Given.ResizeDeclared.lookup.Lookup.{Lookup}
use Rattle.run_blocks.specs.Given.ResizeDeclared.new_table.NewTable.{NewTable}
use Rattle.run_blocks.specs.Given.ResizeDeclared.yielding.Yielding.{Yielding}
use Rattle.run_blocks.specs.Given.ResizeDeclared.yielding.Yielding.TheVariants as outcome
use Rattle.run_executor.specs.Given.RawCall.{have_one_key, made, makes_of, root_found, next_read, next_found, dropped, key_read, pair_read, word_read, word_found, tried, looked, looks_for, first_made, next_made, disposed, helped, copied, plan_at}
use Rattle.run_executor.specs.Given.RawCallAsks.{with_absent, with_present, absent_replied, present_replied, replied_at, replied}
use Rattle.run_executor.specs.Given.RawCallFills.{filled, putting_by, fill_by, emptied, fills_with, given_up}
use Rattle.run_executor.specs.Given.RawCallPoints.{aim_of, standing, going, over, ending, following_made, storing, burying, at_gap, gap_by, asking_at, pair_by, tableless, at_free, at_end, at_last, at_pair, passed, after_finding, told, entering, continued_in, changed, counted, having_met}
use Rattle.run_executor.specs.Given.RawReplies.{value_for, as_own}
use Rattle.run_executor.specs.Given.RawDeclared.machines.answer.Called.{Called}
use Rattle.run_executor.specs.Given.RawDeclared.machines.answer.Called.TheVariants as called
use Rattle.run_executor.specs.Given.RawDeclared.machines.answer.End.{End}
use Rattle.run_executor.specs.Given.RawDeclared.machines.answer.End.TheVariants as ends
use Rattle.run_executor.specs.Given.RawDeclared.machines.answer.KeyAnswer.{KeyAnswer}
use Rattle.run_executor.specs.Given.RawDeclared.machines.answer.KeyAnswer.TheVariants as answers
use Rattle.run_executor.specs.Given.RawDeclared.machines.answer.Missing.{Missing}
use Rattle.run_executor.specs.Given.RawDeclared.machines.answer.Missing.TheVariants as missing
use Rattle.run_executor.specs.Given.RawDeclared.machines.answer.There.{There}
use Rattle.run_executor.specs.Given.RawDeclared.machines.answer.There.TheVariants as there
use Rattle.run_executor.specs.Given.RawDeclared.machines.asking.Asking.TheVariants as asking
use Rattle.run_executor.specs.Given.RawDeclared.machines.asking.Gap.{Gap}
use Rattle.run_executor.specs.Given.RawDeclared.machines.asking.Gap.TheVariants as gaps
use Rattle.run_executor.specs.Given.RawDeclared.machines.asking.MachineReply.{MachineReply}
use Rattle.run_executor.specs.Given.RawDeclared.machines.asking.MachineReply.TheVariants as replies
use Rattle.run_executor.specs.Given.RawDeclared.machines.asking.Takes.{Takes}
use Rattle.run_executor.specs.Given.RawDeclared.machines.asking.Takes.TheVariants as takes
use Rattle.run_executor.specs.Given.RawDeclared.machines.asking.Told.{Told}
use Rattle.run_executor.specs.Given.RawDeclared.machines.asking.Told.TheVariants as tells
use Rattle.run_executor.specs.Given.RawDeclared.machines.call.Calling.{Calling}
use Rattle.run_executor.specs.Given.RawDeclared.machines.call.Calling.TheVariants as at
use Rattle.run_executor.specs.Given.RawDeclared.machines.call.KeyCall.{KeyCall}
use Rattle.run_executor.proofs.Given.RuleKeys.Always.{Always, AlwaysOf, always_if, always_ends, always_plan_as, always_steps}
use Rattle.run_executor.specs.Given.TellerTells.{StepsObserved}
use Rattle.run_executor.specs.Given.EffectsDeclared.changed.Changed.{Changed}
use Rattle.run_executor.specs.Given.EffectsDeclared.changed.Changed.TheVariants as changes
use Rattle.run_finds.specs.Growing.{HasForNone, GrowsAt}
use Rattle.run_finds.proofs.Shaping.{always_plan_more, FirstGoes, first_goes, first_begun, NextGoes, next_goes, next_begun}
use Rattle.run_executor.proofs.Given.ScenesTold.{as_step}
use Rattle.run_executor.proofs.Given.General.{equal_so as number_is}

-- What its table says, by the word that it reads: in blocking mode a place that sends it on has a next table, and the last table has none.
module _ {K V : Type 0} (had : ℕ) (p : KeyCall K V K) (m : Mem (Node K V)) where
  abbrev pub NextIfMoved : Type 0
  NextIfMoved =
      (word : ℕ) → word_at m (place_tried p.trial) ≡ Some word → (flag : Bool) → finding p.setting.mode (aim_of p.missing) word flag ≡ is.Moved → is_incremental p.setting.mode ≡ false
      → suc p.trial.table.turn < had

  abbrev pub NoneIfLast : Type 0
  NoneIfLast = word_at m (at_word p.trial.table NEXT) ≡ Some 0 → suc p.trial.table.turn < had → ⊥

  abbrev pub TableTells : Calling → Type 0
  TableTells at.Probes = NextIfMoved
  TableTells (at.Tries word new) = NextIfMoved
  TableTells at.Nexts = NoneIfLast
  TableTells _ = Unit {0}

module _ {K V : Type 0} (many : ℕ) where
  -- where it has come it goes on to make a table for what it has
  abbrev pub GrowsSo : KeyCall K V K × Called (Node K V) → Type 0
  GrowsSo e = GrowsAt many e.0 e.0.stands

  by_test : (b : Bool) (x y : KeyCall K V K × Called (Node K V)) → (b ≡ true → GrowsSo x) → (b ≡ false → GrowsSo y) → GrowsSo (if b then x else y)
  by_test true x y f g = f refl
  by_test false x y f g = g refl

  -- With fewer tables it was so.
  pub grows_later : (had : ℕ) → had ≤ many → (p : KeyCall K V K) (q : Calling) → GrowsAt had p q → GrowsAt many p q
  grows_later had l p at.Nexts grows = λ alone. elim (grows alone) as (λ _. HasForNone p ⊎ (suc p.trial.table.turn < many)) [
    | inl has ↦ inl has
    | inr before ↦ inr (omega (arith, before, l))
  ]
  grows_later had l p (at.Firsts making) grows = grows
  grows_later had l p (at.Allocs making) grows = grows
  grows_later had l p (at.Asks (asking.Absent gap)) grows = grows
  grows_later had l p (at.Asks (asking.Present word)) grows = tt
  grows_later had l p (at.Asks (asking.Fills word)) grows = tt
  grows_later had l p (at.Asks (asking.GivesUp word)) grows = tt
  grows_later had l p at.Makes grows = tt
  grows_later had l p (at.Looks lookup) grows = tt
  grows_later had l p at.Roots grows = tt
  grows_later had l p at.Probes grows = tt
  grows_later had l p (at.Tries word new) grows = tt
  grows_later had l p (at.Counts removed) grows = tt
  grows_later had l p (at.Helps copier goal) grows = tt
  grows_later had l p (at.Copies copier) grows = tt
  grows_later had l p (at.Disposes dispose answer) grows = tt
  grows_later had l p (at.Drops end) grows = tt
  grows_later had l p (at.Over end) grows = tt

  module _ (p : KeyCall K V K) where
    ending_so : (end : End) → GrowsSo (ending p end)
    ending_so end = by_test (p.own == 0) (over p end) (going p (at.Drops end)) (λ e. tt) (λ e. tt)

    storing_so : (t : Told V) (word : ℕ) → GrowsSo (storing t p word)
    storing_so tells.Own word = tt
    storing_so tells.Nothing word = tt
    storing_so (tells.Value value) word = tt
    storing_so tells.Removes word = tt

    burying_so : (word : ℕ) → GrowsSo (burying p word)
    burying_so word = by_test (p.own == 0) (going p (at.Tries word TOMBSTONE)) (going p (at.Asks (asking.GivesUp word))) (λ e. tt) (λ e. tt)

    -- where the key is missing

    following_so : HasForNone p → GrowsSo (following_made p)
    following_so has = (has, next_begun p.setting p.trial.table p.trial.met (found_full p.trial).most)

    gap_so : HasForNone p → (gap : Gap) → GrowsSo (at_gap gap p)
    gap_so has gaps.NoTable = (has, first_begun p.setting)
    gap_so has gaps.Free = storing_so p.replies.absent 0
    gap_so has gaps.Past = λ alone. inl has
    gap_so has gaps.Last = following_so has

    asking_so : p.missing ≡ missing.Asks → (gap : Gap) → GrowsSo (asking_at gap p)
    asking_so asks gap = by p.replies.absent refl
      where
        by : (t : Told V) → p.replies.absent ≡ t → GrowsSo (gap_by t gap p)
        by tells.Nothing e = asks
        by (tells.Value value) e = gap_so (inr (asks, λ none. cc (e, none))) gap
        by tells.Own e = gap_so (inr (asks, λ none. cc (e, none))) gap
        by tells.Removes e = gap_so (inr (asks, λ none. cc (e, none))) gap

    tableless_so : (t : Missing) → p.missing ≡ t → GrowsSo (tableless t p)
    tableless_so missing.Answers e = ending_so (ends.Answered answers.Absent)
    tableless_so missing.Puts e = (inl e, first_begun p.setting)
    tableless_so missing.Asks e = asking_so e gaps.NoTable

    free_so : (t : Missing) → p.missing ≡ t → GrowsSo (at_free t p)
    free_so missing.Answers e = ending_so (ends.Answered answers.Absent)
    free_so missing.Puts e = tt
    free_so missing.Asks e = asking_so e gaps.Free

    end_so : (t : Missing) → p.missing ≡ t → GrowsSo (at_end t p)
    end_so missing.Answers e = ending_so (ends.Answered answers.Absent)
    end_so missing.Puts e = λ alone. inl (inl e)
    end_so missing.Asks e = asking_so e gaps.Past

    last_so : (is_incremental p.setting.mode ≡ false → HasForNone p) → (t : Missing) → p.missing ≡ t → GrowsSo (at_last t p)
    last_so has missing.Answers e =
        by_test (is_incremental p.setting.mode) (ending p (ends.Answered answers.Absent)) (following_made p) (λ chunked. ending_so (ends.Answered answers.Absent)) (λ alone. following_so (has alone))
    last_so has missing.Puts e = following_so (inl e)
    last_so has missing.Asks e = by_test (is_incremental p.setting.mode) (asking_at gaps.Last p) (following_made p) (λ chunked. asking_so e gaps.Last) (λ alone. following_so (has alone))

    -- and where it is not

    pair_so : (t : Told V) (word : ℕ) → GrowsSo (pair_by t p word)
    pair_so tells.Nothing word = tt
    pair_so tells.Removes word = burying_so word
    pair_so tells.Own word = tt
    pair_so (tells.Value value) word = tt

    there_so : (t : There) (word : ℕ) → GrowsSo (at_pair t p word)
    there_so there.Answers word = ending_so (ends.Answered (answers.Found word))
    there_so there.Puts word = tt
    there_so there.Removes word = tt
    there_so there.Asks word =
        by_test (block_in word == p.replies.pair) (pair_by p.replies.present p word) (pair_by tells.Nothing p word) (λ e. pair_so p.replies.present word) (λ e. tt)

    -- by the word of its try

    passed_so : (trial : Option Trial) → GrowsSo (passed p trial)
    passed_so (Some trial) = tt
    passed_so None = by_test (is_incremental p.setting.mode) (going p at.Nexts) (at_end p.missing p) (λ chunked alone. absurd (cc (chunked, alone))) (λ alone. end_so p.missing refl)

  -- so it is of a call at a try, which counts the word of a try that it passes
  module _ (p : KeyCall K V K) where
    told_so : (loaded : Bool) (word : ℕ) (found : Finding) → (found ≡ is.Moved → is_incremental p.setting.mode ≡ false → suc p.trial.table.turn < many) → GrowsSo (after_finding loaded p word found)
    told_so loaded word is.Free next = free_so p p.missing refl
    told_so loaded word is.Passed next = passed_so (having_met p word) (next_trial (with_met p.trial word))
    told_so loaded word is.Moved next = λ alone. inr (next refl alone)
    told_so loaded word is.Copying next = by_test loaded (standing p at.Probes, called.Waits) (going p at.Probes) (λ e. tt) (λ e. tt)
    told_so loaded word is.There next = there_so p p.there word

    on_so : (table : Table) → GrowsSo (continued_in p table)
    on_so table =
        by_test (is_incremental p.setting.mode) (if p.helped then entering p table else going (record p { helped = true }) (at.Helps (helping p.setting) table))
        (going p (at.Copies (copying_all p.setting p.trial.table table)))
        (λ chunked. by_test p.helped (entering p table) (going (record p { helped = true }) (at.Helps (helping p.setting) table)) (λ e. tt) (λ e. tt)) (λ alone. tt)

    changed_so : (word new : ℕ) → GrowsSo (changed p word new)
    changed_so word new =
        by_test (new == TOMBSTONE) (going p (at.Counts word)) (if word == 0 then going p (at.Counts 0) else going p (at.Disposes (disposing p.setting word p.trial.table) (answers.Replaced word p.own))) (λ e. tt)
        (λ e. by_test (word == 0) (going p (at.Counts 0)) (going p (at.Disposes (disposing p.setting word p.trial.table) (answers.Replaced word p.own))) (λ z. tt) (λ z. tt))

    counted_so : (removed : ℕ) → GrowsSo (counted p removed)
    counted_so removed =
        by_test (removed == 0) (over p (ends.Answered (answers.Stored p.own))) (going p (at.Disposes (disposing p.setting removed p.trial.table) (answers.Removed removed))) (λ e. tt) (λ e. tt)

    -- by a step of a machine within it

    looked_so : (e : Lookup × Advance (Option ℕ)) → GrowsSo (looked p e)
    looked_so (lookup, progress.Goes) = tt
    looked_so (lookup, progress.Waits) = tt
    looked_so (lookup, progress.Done (Some found)) = tt
    looked_so (lookup, progress.Done None) = tt
    looked_so (lookup, progress.Refused fault) = tt

    first_so : HasForNone p → (n : NewTable) (e : NewTable × Advance Table) → FirstGoes n e → GrowsSo (first_made p e)
    first_so has n (making, progress.Goes) so = (has, so.1)
    first_so has n (making, progress.Waits) so = (has, so.1)
    first_so has n (making, progress.Done table) so = tt
    first_so has n (making, progress.Refused fault) so = ending_so p (ends.Refused fault)

    next_so : HasForNone p → (n : NewTable) → n.setting ≡ p.setting → (e : NewTable × Advance Table) → NextGoes p.setting p.trial.table p.trial.met n e → GrowsSo (next_made p e)
    next_so has n setting_is (making, progress.Goes) so = (has, (so.0 ∙ setting_is, so.1))
    next_so has n setting_is (making, progress.Waits) so = (has, (so.0 ∙ setting_is, so.1))
    next_so has n setting_is (making, progress.Done table) so = on_so table
    next_so has n setting_is (making, progress.Refused fault) so = ending_so p (ends.Refused fault)

    disposed_so : (answer : KeyAnswer) (e : Dispose × Settled (Node K V)) → GrowsSo (disposed p answer e)
    disposed_so answer (dispose, settling.Goes) = tt
    disposed_so answer (dispose, settling.Waits) = tt
    disposed_so answer (dispose, settling.Gave value) = tt
    disposed_so answer (dispose, settling.Done) = tt

    helped_so : (goal : Table) (e : Copier × Yielding (Node K V) Table) → GrowsSo (helped p goal e)
    helped_so goal (copier, outcome.Goes) = tt
    helped_so goal (copier, outcome.Waits) = tt
    helped_so goal (copier, outcome.Gave value) = tt
    helped_so goal (copier, outcome.Done table) = tt
    helped_so goal (copier, outcome.Refused fault) = ending_so p (ends.Refused fault)

    copied_so : (e : Copier × Yielding (Node K V) Table) → GrowsSo (copied p e)
    copied_so (copier, outcome.Goes) = tt
    copied_so (copier, outcome.Waits) = tt
    copied_so (copier, outcome.Gave value) = tt
    copied_so (copier, outcome.Done table) = tt
    copied_so (copier, outcome.Refused fault) = ending_so p (ends.Refused fault)

    -- by the answer of its operation: one that it makes not, it stays where it stands

    root_so : (out : Out (Node K V)) → GrowsSo (p, called.Goes) → Always GrowsSo (root_found p out)
    root_so (Found link) stays = always_if GrowsSo (link == 0) (Now (tableless p.missing p)) (Seeing (block_in link) (λ (value : Node K V). Now (entering p (table_seen link value)))) (tableless_so p p.missing refl) (λ value. tt)
    root_so _ stays = stays

    made_so : (out : Out (Node K V)) → GrowsSo (p, called.Goes) → Always GrowsSo (made p out)
    made_so (Made (Ok block)) stays = tt
    made_so (Made (Err node)) stays = tt
    made_so _ stays = stays

    makes_so : GrowsSo (p, called.Goes) → (o : Option (Node K V)) → AlwaysOf GrowsSo (makes_of p o)
    makes_so stays (Some node) = λ out. made_so out stays
    makes_so stays None = tt

    filled_so : (word : ℕ) (out : Out (Node K V)) → GrowsSo (p, called.Goes) → Always GrowsSo (filled p word out)
    filled_so word (Made (Ok block)) stays = tt
    filled_so word (Made (Err node)) stays = tt
    filled_so word (Taken node) stays = tt
    filled_so word _ stays = stays

    emptied_so : (word : ℕ) (out : Out (Node K V)) → Always GrowsSo (emptied p word out)
    emptied_so word (Taken (nodes.Pair key value)) = tt
    emptied_so word (Taken (nodes.Table len limit turn)) = tt
    emptied_so word (Taken nodes.Shards) = tt
    emptied_so word _ = tt

    gives_so : (word : ℕ) (out : Out (Node K V)) → GrowsSo (p, called.Goes) → Always GrowsSo (given_up p word out)
    gives_so word (Taken (nodes.Pair key value)) stays = tt
    gives_so word (Taken (nodes.Table len limit turn)) stays = tt
    gives_so word (Taken nodes.Shards) stays = tt
    gives_so word _ stays = stays

    dropped_so : (end : End) (out : Out (Node K V)) → GrowsSo (p, called.Goes) → Always GrowsSo (dropped p end out)
    dropped_so end (Taken node) stays = tt
    dropped_so end _ stays = stays

  -- Where it stands as it stood, it is so of another one, too.
  rests_at : (stands : Calling) (q : KeyCall K V K) → q.stands ≡ stands → GrowsAt many q stands → GrowsSo (q, called.Goes)
  rests_at stands q is so = subst (GrowsAt many q) (sym is) so

  -- it puts what it was told into its own block

  puts_so : (q : KeyCall K V K) (x : ℕ) → q.stands ≡ at.Asks (asking.Fills x) → (b : Bool) (word : ℕ) (key : K) (value : V) → AlwaysOf GrowsSo (putting_by b q word key value)
  puts_so q x is true word key value = λ out. filled_so q word out (rests_at (at.Asks (asking.Fills x)) q is tt)
  puts_so q x is false word key value = λ out. filled_so q word out (rests_at (at.Asks (asking.Fills x)) q is tt)

  fill_so : (q : KeyCall K V K) (x : ℕ) → q.stands ≡ at.Asks (asking.Fills x) → (value : Option V) (word : ℕ) (key : K) → AlwaysOf GrowsSo (fill_by value q word key)
  fill_so q x is (Some value) word key = puts_so (record q { replies = record q.replies { key = None } }) x is (q.own == 0) word key value
  fill_so q x is None word key = tt

  fills_so : (p : KeyCall K V K) (word : ℕ) → p.stands ≡ at.Asks (asking.Fills word) → (key : Option K) → AlwaysOf GrowsSo (fills_with key p word)
  fills_so p word is (Some key) = fill_so (record p { replies = as_own p.replies word }) word is (value_for p.replies word) word key
  fills_so p word is None = λ out. emptied_so p word out

  module _ (had : ℕ) (le : had ≤ many) (asks : K → K → Bool) (same : K → K → Bool) (hash : K → ℕ) (p : KeyCall K V K) (m m2 : Mem (Node K V)) (told_by : Changed) (end : KeyCall K V K × Called (Node K V)) where
    abbrev pub StepAt : Calling → Type 0
    StepAt q = StepsObserved K V (KeyCall K V K × Called (Node K V)) m changes.Nothing (plan_at asks same hash p q) m2 told_by end

    -- a word of its try was read

    told_grows : NextIfMoved had p m → (loaded flag : Bool) (word : ℕ) → word_at m (place_tried p.trial) ≡ Some word → GrowsSo (told loaded p word flag)
    told_grows next loaded flag word read =
        told_so p loaded word (finding p.setting.mode (aim_of p.missing) word flag) (λ moved alone. let before = next word read flag moved alone in omega (arith, before, le))

    key_grows : NextIfMoved had p m → (loaded : Bool) (word : ℕ) → word_at m (place_tried p.trial) ≡ Some word → (key : Option K) → Always GrowsSo (key_read asks same loaded p word key)
    key_grows next loaded word read (Some key) = λ value. told_grows next loaded (names_pair (same key) value) word read
    key_grows next loaded word read None = λ own value. told_grows next loaded (have_one_key same own value) word read

    pair_grows : NextIfMoved had p m → (loaded : Bool) (word : ℕ) → word_at m (place_tried p.trial) ≡ Some word → (asked : Option K) → Always GrowsSo (pair_read asks same loaded p word asked)
    pair_grows next loaded word read (Some asked) = λ value. told_grows next loaded (names_pair (asks asked) value) word read
    pair_grows next loaded word read None = key_grows next loaded word read p.replies.key

    read_grows : NextIfMoved had p m → (loaded : Bool) (word : ℕ) → word_at m (place_tried p.trial) ≡ Some word → Ends (value_at m2) (word_read asks same loaded p word) end → GrowsSo end
    read_grows next loaded word read e =
        always_ends GrowsSo (value_at m2) (word_read asks same loaded p word) end
        (always_if GrowsSo (may_name p.hash word) (pair_read asks same loaded p word p.asked) (Now (told loaded p word false)) (pair_grows next loaded word read p.asked) (told_grows next loaded false word read)) e

    probed : NextIfMoved had p m → (out : Out (Node K V)) → Gives m (Load (place_tried p.trial)) out → Ends (value_at m2) (word_found asks same p out) end → GrowsSo end
    probed next (Found word) gives e = read_grows next true word gives e
    probed next _ gives e = absurd gives

    exchanged : NextIfMoved had p m → (word new : ℕ) (out : Out (Node K V)) → Gives m (Exchange (place_tried p.trial) word new) out → Ends (value_at m2) (tried asks same p word new out) end → GrowsSo end
    exchanged next word new (Exchanged (Ok found)) gives e = subst GrowsSo (sym e) (changed_so p word new)
    exchanged next word new (Exchanged (Err found)) gives e = read_grows next false found gives.0 e
    exchanged next word new _ gives e = absurd gives

    -- the link to the next table was read

    has_for_none : NoneIfLast had p m → HasForNone p ⊎ (suc p.trial.table.turn < had) → word_at m (at_word p.trial.table NEXT) ≡ Some 0 → HasForNone p
    has_for_none last (inl has) read = has
    has_for_none last (inr before) read = absurd (last read before)

    next_so_read : NoneIfLast had p m → GrowsAt had p at.Nexts → (link : ℕ) → word_at m (at_word p.trial.table NEXT) ≡ Some link → Always GrowsSo (next_read p link)
    next_so_read last grows link read = by (link == 0) refl
      where
        by : (q : Bool) → (link == 0) ≡ q → Always GrowsSo (if q then Now (at_last p.missing p) else Seeing (block_in link) (λ (value : Node K V). Now (continued_in p (table_seen link value))))
        by true e = last_so p (λ alone. has_for_none last (grows alone) (read ∙ ap (λ (x : ℕ). Some x) (number_is link 0 e))) p.missing refl
        by false e = λ value. on_so p (table_seen link value)

    followed : NoneIfLast had p m → GrowsAt had p at.Nexts → (out : Out (Node K V)) → Gives m (Load (at_word p.trial.table NEXT)) out → Ends (value_at m2) (next_found p out) end → GrowsSo end
    followed last grows (Found link) gives e = always_ends GrowsSo (value_at m2) (next_read p link) end (next_so_read last grows link gives) e
    followed last grows _ gives e = absurd gives

    -- whatever is read

    always_so : (q : Calling) → AlwaysOf GrowsSo (plan_at asks same hash p q) → StepAt q → GrowsSo end
    always_so q all s = always_steps GrowsSo m m2 (plan_at asks same hash p q) end all (as_step m changes.Nothing (plan_at asks same hash p q) m2 told_by end s)

    looks_so : (lookup : Lookup) (asked : Option K) → AlwaysOf GrowsSo (looks_for asks p lookup asked)
    looks_so lookup (Some q) = always_plan_as GrowsSo (looked p) (looked_so p) (lookup_plan (asks q) lookup)
    looks_so lookup None = tt

    -- So it is after a step, whatever the point.
    by_point : (q : Calling) → p.stands ≡ q → GrowsAt had p q → TableTells had p m q → GrowsSo (p, called.Goes) → StepAt q → GrowsSo end
    by_point at.Makes is grows table stays s = always_so at.Makes (makes_so p stays p.unmade) s
    by_point (at.Looks lookup) is grows table stays s = always_so (at.Looks lookup) (looks_so lookup p.asked) s
    by_point at.Roots is grows table stays s = always_so at.Roots (λ out. root_so p out stays) s
    by_point at.Probes is grows table stays s = probed table s.0 s.1.0.0 s.2
    by_point (at.Tries word new) is grows table stays s = exchanged table word new s.0 s.1.0.0 s.2
    by_point (at.Counts removed) is grows table stays s = always_so (at.Counts removed) (λ out. counted_so p removed) s
    by_point at.Nexts is grows table stays s = followed table grows s.0 s.1.0.0 s.2
    by_point (at.Firsts making) is grows table stays s =
        always_so (at.Firsts making) (always_plan_more (FirstGoes making) GrowsSo (first_made p) (first_so p grows.0 making) (new_table_plan making) (first_goes K V making grows.1)) s
    by_point (at.Allocs making) is grows table stays s =
        always_so (at.Allocs making)
        (always_plan_more (NextGoes p.setting p.trial.table p.trial.met making) GrowsSo (next_made p) (next_so p grows.0 making grows.1.0) (new_table_plan making)
        (next_goes p.setting p.trial.table p.trial.met K V making grows.1.0 grows.1.1)) s
    by_point (at.Helps copier goal) is grows table stays s = always_so (at.Helps copier goal) (always_plan_as GrowsSo (helped p goal) (helped_so p goal) (copier_plan hash copier)) s
    by_point (at.Copies copier) is grows table stays s = always_so (at.Copies copier) (always_plan_as GrowsSo (copied p) (copied_so p) (copier_plan hash copier)) s
    by_point (at.Asks (asking.Absent gap)) is grows table stays s = always_so (at.Asks (asking.Absent gap)) stays s
    by_point (at.Asks (asking.Present word)) is grows table stays s = always_so (at.Asks (asking.Present word)) stays s
    by_point (at.Asks (asking.Fills word)) is grows table stays s = always_so (at.Asks (asking.Fills word)) (fills_so p word is p.replies.key) s
    by_point (at.Asks (asking.GivesUp word)) is grows table stays s = always_so (at.Asks (asking.GivesUp word)) (λ out. gives_so p word out stays) s
    by_point (at.Disposes dispose answer) is grows table stays s =
        always_so (at.Disposes dispose answer) (always_plan_as GrowsSo (disposed p answer) (disposed_so p answer) (dispose_plan dispose)) s
    by_point (at.Drops end_of) is grows table stays s = always_so (at.Drops end_of) (λ out. dropped_so p end_of out stays) s
    by_point (at.Over end_of) is grows table stays s = always_so (at.Over end_of) stays s

    pub step_grows : GrowsAt had p p.stands → TableTells had p m p.stands → StepAt p.stands → GrowsSo end
    step_grows grows table s = by_point p.stands refl grows table (grows_later had le p p.stands grows) s

  -- And so it is where one that asks goes on by a reply: where its key is missing it was told what to store.

  told_for_none : (p : KeyCall K V K) (value : V) → p.missing ≡ missing.Asks → HasForNone (with_absent p value)
  told_for_none p value asks = inr (asks, λ none. cc none)

  absent_so : (t : Takes) (p : KeyCall K V K) (gap : Gap) (reply : MachineReply V) → p.missing ≡ missing.Asks → GrowsSo (p, called.Goes) → GrowsAt many (absent_replied t p gap reply).0 (absent_replied t p gap reply).0.stands
  absent_so takes.Values p gap (replies.Insert value) asks stays = gap_so (with_absent p value) (told_for_none p value asks) gap
  absent_so takes.Changes p gap (replies.Insert value) asks stays = gap_so (with_absent p value) (told_for_none p value asks) gap
  absent_so takes.Changes p gap replies.Remove asks stays = ending_so p (ends.Refused RemoveNothing)
  absent_so takes.Changes p gap replies.Abort asks stays = ending_so p (ends.Answered answers.Absent)
  absent_so _ p gap _ asks stays = stays

  present_so : (t : Takes) (p : KeyCall K V K) (word : ℕ) (reply : MachineReply V) → GrowsSo (p, called.Goes) → GrowsAt many (present_replied t p word reply).0 (present_replied t p word reply).0.stands
  present_so takes.Values p word (replies.Insert value) stays = tt
  present_so takes.Changes p word (replies.Insert value) stays = tt
  present_so takes.Changes p word replies.Remove stays = burying_so (with_present p word tells.Removes) word
  present_so takes.Changes p word replies.Abort stays = ending_so p (ends.Answered (answers.Found word))
  present_so takes.Choices p word replies.Yes stays = burying_so p word
  present_so takes.Choices p word replies.No stays = ending_so p (ends.Answered (answers.Found word))
  present_so _ p word _ stays = stays

  by_reply : (q : Calling) (p : KeyCall K V K) (reply : MachineReply V) → GrowsAt many p q → GrowsSo (p, called.Goes) → GrowsAt many (replied_at q p reply).0 (replied_at q p reply).0.stands
  by_reply (at.Asks (asking.Absent gap)) p reply grows stays = absent_so p.replies.takes p gap reply grows stays
  by_reply (at.Asks (asking.Present word)) p reply grows stays = present_so p.replies.takes p word reply stays
  by_reply _ p reply grows stays = stays

  pub reply_grows : (p : KeyCall K V K) (reply : MachineReply V) → GrowsAt many p p.stands → GrowsAt many (replied p reply).0 (replied p reply).0.stands
  reply_grows p reply grows = by_reply p.stands p reply grows grows
