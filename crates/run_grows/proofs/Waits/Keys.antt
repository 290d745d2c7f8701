-- A step of a call on one key: which pair it has in hand then, by where it stood.
use Rattle.std.specs.Prelude.{◌≡◌, ℕ, ◌==◌, Bool, true, false, Option, Some, None, Ok, Err, ◌≤◌, if◌then◌else◌}
use Rattle.std.proofs.Common.{refl, ap, sym, subst, ◌∙◌}
use Rattle.run_finds.specs.Given.SeizeWordsMem.{Mem, value_at, word_at}
use Rattle.run_finds.specs.Given.SeizeWordsOp.{Out, Exchange, Found, Exchanged, Made, Taken}
use Rattle.run_finds.specs.Given.SeizeWordsPlan.{Now, Seeing, Ends}
use Rattle.run_finds.specs.Given.SeizeWordsWord.{block_in}
use Rattle.run_finds.specs.Given.SeizeWordsDeclared.at.At.TheVariants.{Root}
use Rattle.run_finds.specs.Given.SeizeDeclared.advance.Advance.{Advance}
use Rattle.run_finds.specs.Given.SeizeDeclared.advance.Advance.TheVariants as progress
use Rattle.run_finds.specs.Given.SeizeDeclared.rows.settle.Settled.{Settled}
use Rattle.run_finds.specs.Given.SeizeDeclared.rows.settle.Settled.TheVariants as settling
use Rattle.run_finds.specs.Given.TablesChunks.{is_incremental}
use Rattle.papaya_raw.specs.Given.TablesFinding.{may_name, finding}
use Rattle.run_finds.specs.Given.TablesNodes.{table_seen}
use Rattle.papaya_raw.specs.Given.TablesTrials.{next_trial, place_tried, with_met}
use Rattle.run_finds.specs.Given.TablesDeclared.finding.Finding.{Finding}
use Rattle.run_finds.specs.Given.TablesDeclared.finding.Finding.TheVariants as is
use Rattle.run_finds.specs.Given.TablesDeclared.marks.TheConstants.{TOMBSTONE}
use Rattle.run_finds.specs.Given.TablesDeclared.node.Node.{Node}
use Rattle.run_finds.specs.Given.TablesDeclared.node.Node.TheVariants as nodes
use Rattle.run_finds.specs.Given.TablesDeclared.table.Table.{Table}
use Rattle.run_finds.specs.Given.TablesDeclared.trial.Trial.{Trial}
use Rattle.run_finds.specs.Given.ResizeCopier.{copier_plan}
use Rattle.run_finds.specs.Given.ResizeCopierStates.{helping, copying_all}
use Rattle.papaya_raw.specs.Given.ResizeDispose.{disposing, dispose_plan}
use Rattle.papaya_raw.specs.Given.ResizeLookup.{names_pair, lookup_plan}
use Rattle.run_finds.specs.Given.ResizeNewTable.{new_table_plan}
use Rattle.run_finds.specs.Given.ResizeDeclared.copier.Copier.{Copier}
use Rattle.run_finds.specs.Given.ResizeDeclared.dispose.Dispose.{Dispose}
use Rattle.run_finds.specs.Given.ResizeDeclared.dispose.Disposing.TheVariants as disposal
use Rattle.run_finds.specs.Given.ResizeDeclared.lookup.Lookup.{Lookup}
use Rattle.run_finds.specs.Given.ResizeDeclared.new_table.NewTable.{NewTable}
use Rattle.run_finds.specs.Given.ResizeDeclared.yielding.Yielding.{Yielding}
use Rattle.run_finds.specs.Given.ResizeDeclared.yielding.Yielding.TheVariants as outcome
use Rattle.papaya_raw.specs.Call.{have_one_key, made, makes_of, root_found, next_found, dropped, key_read, pair_read, word_read, word_found, tried, looked, looks_for, first_made, next_made, disposed, helped, copied, plan_at}
use Rattle.papaya_raw.specs.CallFills.{filled, putting_by, fill_by, emptied, fills_with, given_up}
use Rattle.papaya_raw.specs.CallPoints.{aim_of, standing, going, having_met, over, ending, following_made, storing, burying, at_gap, gap_by, asking_at, pair_by, tableless, at_free, at_end, at_last, at_pair, passed, after_finding, told, entering, continued_in, changed, counted}
use Rattle.papaya_raw.specs.Replies.{value_for, as_own}
use Rattle.papaya_raw.specs.declared.machines.answer.Called.{Called}
use Rattle.papaya_raw.specs.declared.machines.answer.Called.TheVariants as called
use Rattle.papaya_raw.specs.declared.machines.answer.End.{End}
use Rattle.papaya_raw.specs.declared.machines.answer.End.TheVariants as ends
use Rattle.papaya_raw.specs.declared.machines.answer.KeyAnswer.{KeyAnswer}
use Rattle.papaya_raw.specs.declared.machines.answer.KeyAnswer.TheVariants as answers
use Rattle.papaya_raw.specs.declared.machines.answer.Missing.{Missing}
use Rattle.papaya_raw.specs.declared.machines.answer.Missing.TheVariants as missing
use Rattle.papaya_raw.specs.declared.machines.answer.There.{There}
use Rattle.papaya_raw.specs.declared.machines.answer.There.TheVariants as there
use Rattle.papaya_raw.specs.declared.machines.asking.Asking.TheVariants as asking
use Rattle.papaya_raw.specs.declared.machines.asking.Gap.{Gap}
use Rattle.papaya_raw.specs.declared.machines.asking.Gap.TheVariants as gaps
use Rattle.papaya_raw.specs.declared.machines.asking.Told.{Told}
use Rattle.papaya_raw.specs.declared.machines.asking.Told.TheVariants as tells
use Rattle.papaya_raw.specs.declared.machines.call.Calling.{Calling}
use Rattle.papaya_raw.specs.declared.machines.call.Calling.TheVariants as at
use Rattle.papaya_raw.specs.declared.machines.call.KeyCall.{KeyCall}
use Rattle.run_finds.proofs.Given.RuleKeys.Always.{Always, AlwaysOf, always_if, always_ends, always_plan_as, always_steps}
use Rattle.run_finds.specs.Given.TellerTells.{StepsObserved, ObservedAs}
use Rattle.run_finds.specs.Given.EffectsDeclared.changed.Changed.{Changed}
use Rattle.run_finds.specs.Given.EffectsDeclared.changed.Changed.TheVariants as changes
use Rattle.run_finds.specs.Given.PointsFactsCalls.{IsCopying}
use Rattle.run_finds.specs.Given.PointsTold.{IsRowOfCall}
use Rattle.run_finds.proofs.Given.OthersOutcomes.{told_in}
use Rattle.run_finds.specs.Given.SettlesInHand.{pair_in_disposing, pair_in_calling}
use Rattle.run_finds.specs.Waits.{waits_in_disposing, waits_of, waits_in_calling}
use Rattle.run_grows.proofs.Waits.Dispose.{Holding, WaitsGo, WaitsAlike, WaitsOver, WaitsPast, dispose_goes}
use Rattle.run_finds.proofs.Given.ScenesTold.{as_step}

-- It has no pair in hand where it has come.
module _ {K V : Type 0} where
  abbrev pub NoneSo : KeyCall K V K × Called (Node K V) → Type 0
  NoneSo e = pair_in_calling e.0.stands ≡ None

  by_test : (b : Bool) (x y : KeyCall K V K × Called (Node K V)) → NoneSo x → NoneSo y → NoneSo (if b then x else y)
  by_test true x y f g = f
  by_test false x y f g = g

  module _ (p : KeyCall K V K) where
    ending_none : (end : End) → NoneSo (ending p end)
    ending_none end = by_test (p.own == 0) (over p end) (going p (at.Drops end)) refl refl

    storing_none : (t : Told V) (word : ℕ) → NoneSo (storing t p word)
    storing_none tells.Own word = refl
    storing_none tells.Nothing word = refl
    storing_none (tells.Value value) word = refl
    storing_none tells.Removes word = refl

    burying_none : (word : ℕ) → NoneSo (burying p word)
    burying_none word = by_test (p.own == 0) (going p (at.Tries word TOMBSTONE)) (going p (at.Asks (asking.GivesUp word))) refl refl

    -- where the key is missing

    gap_none : (gap : Gap) → NoneSo (at_gap gap p)
    gap_none gaps.NoTable = refl
    gap_none gaps.Free = storing_none p.replies.absent 0
    gap_none gaps.Past = refl
    gap_none gaps.Last = refl

    by_told : (t : Told V) (gap : Gap) → NoneSo (gap_by t gap p)
    by_told tells.Nothing gap = refl
    by_told (tells.Value value) gap = gap_none gap
    by_told tells.Own gap = gap_none gap
    by_told tells.Removes gap = gap_none gap

    tableless_none : (t : Missing) → NoneSo (tableless t p)
    tableless_none missing.Answers = ending_none (ends.Answered answers.Absent)
    tableless_none missing.Puts = refl
    tableless_none missing.Asks = by_told p.replies.absent gaps.NoTable

    free_none : (t : Missing) → NoneSo (at_free t p)
    free_none missing.Answers = ending_none (ends.Answered answers.Absent)
    free_none missing.Puts = refl
    free_none missing.Asks = by_told p.replies.absent gaps.Free

    end_none : (t : Missing) → NoneSo (at_end t p)
    end_none missing.Answers = ending_none (ends.Answered answers.Absent)
    end_none missing.Puts = refl
    end_none missing.Asks = by_told p.replies.absent gaps.Past

    last_none : (t : Missing) → NoneSo (at_last t p)
    last_none missing.Answers = by_test (is_incremental p.setting.mode) (ending p (ends.Answered answers.Absent)) (following_made p) (ending_none (ends.Answered answers.Absent)) refl
    last_none missing.Puts = refl
    last_none missing.Asks = by_test (is_incremental p.setting.mode) (asking_at gaps.Last p) (following_made p) (by_told p.replies.absent gaps.Last) refl

    -- and where it is not

    pair_none : (t : Told V) (word : ℕ) → NoneSo (pair_by t p word)
    pair_none tells.Nothing word = refl
    pair_none tells.Removes word = burying_none word
    pair_none tells.Own word = refl
    pair_none (tells.Value value) word = refl

    there_none : (t : There) (word : ℕ) → NoneSo (at_pair t p word)
    there_none there.Answers word = ending_none (ends.Answered (answers.Found word))
    there_none there.Puts word = refl
    there_none there.Removes word = refl
    there_none there.Asks word =
        by_test (block_in word == p.replies.pair) (pair_by p.replies.present p word) (pair_by tells.Nothing p word) (pair_none p.replies.present word) refl

    -- by the word of its try

    passed_none : (trial : Option Trial) → NoneSo (passed p trial)
    passed_none (Some trial) = refl
    passed_none None = by_test (is_incremental p.setting.mode) (going p at.Nexts) (at_end p.missing p) refl (end_none p.missing)

  -- so it is of a call at a try, which counts the word of a try that it passes
  module _ (p : KeyCall K V K) where
    told_none : (loaded : Bool) (word : ℕ) (found : Finding) → NoneSo (after_finding loaded p word found)
    told_none loaded word is.Free = free_none p p.missing
    told_none loaded word is.Passed = passed_none (having_met p word) (next_trial (with_met p.trial word))
    told_none loaded word is.Moved = refl
    told_none loaded word is.Copying = by_test loaded (standing p at.Probes, called.Waits) (going p at.Probes) refl refl
    told_none loaded word is.There = there_none p p.there word

    on_none : (table : Table) → NoneSo (continued_in p table)
    on_none table =
        by_test (is_incremental p.setting.mode) (if p.helped then entering p table else going (record p { helped = true }) (at.Helps (helping p.setting) table))
        (going p (at.Copies (copying_all p.setting p.trial.table table)))
        (by_test p.helped (entering p table) (going (record p { helped = true }) (at.Helps (helping p.setting) table)) refl refl) refl

    -- by a step of a machine within it

    looked_none : (e : Lookup × Advance (Option ℕ)) → NoneSo (looked p e)
    looked_none (lookup, progress.Goes) = refl
    looked_none (lookup, progress.Waits) = refl
    looked_none (lookup, progress.Done (Some found)) = refl
    looked_none (lookup, progress.Done None) = refl
    looked_none (lookup, progress.Refused fault) = refl

    first_none : (e : NewTable × Advance Table) → NoneSo (first_made p e)
    first_none (making, progress.Goes) = refl
    first_none (making, progress.Waits) = refl
    first_none (making, progress.Done table) = refl
    first_none (making, progress.Refused fault) = ending_none p (ends.Refused fault)

    next_none : (e : NewTable × Advance Table) → NoneSo (next_made p e)
    next_none (making, progress.Goes) = refl
    next_none (making, progress.Waits) = refl
    next_none (making, progress.Done table) = on_none table
    next_none (making, progress.Refused fault) = ending_none p (ends.Refused fault)

    helped_none : (goal : Table) (e : Copier × Yielding (Node K V) Table) → NoneSo (helped p goal e)
    helped_none goal (copier, outcome.Goes) = refl
    helped_none goal (copier, outcome.Waits) = refl
    helped_none goal (copier, outcome.Gave value) = refl
    helped_none goal (copier, outcome.Done table) = refl
    helped_none goal (copier, outcome.Refused fault) = ending_none p (ends.Refused fault)

    copied_none : (e : Copier × Yielding (Node K V) Table) → NoneSo (copied p e)
    copied_none (copier, outcome.Goes) = refl
    copied_none (copier, outcome.Waits) = refl
    copied_none (copier, outcome.Gave value) = refl
    copied_none (copier, outcome.Done table) = refl
    copied_none (copier, outcome.Refused fault) = ending_none p (ends.Refused fault)

    -- by the answer of its operation: one that it makes not, it stays where it stands
    module _ (stays : NoneSo (p, called.Goes)) where
      root_none : (out : Out (Node K V)) → Always NoneSo (root_found p out)
      root_none (Found link) = always_if NoneSo (link == 0) (Now (tableless p.missing p)) (Seeing (block_in link) (λ (value : Node K V). Now (entering p (table_seen link value)))) (tableless_none p p.missing) (λ value. refl)
      root_none _ = stays

      next_found_none : (out : Out (Node K V)) → Always NoneSo (next_found p out)
      next_found_none (Found link) =
          always_if NoneSo (link == 0) (Now (at_last p.missing p)) (Seeing (block_in link) (λ (value : Node K V). Now (continued_in p (table_seen link value)))) (last_none p p.missing) (λ value. on_none (table_seen link value))
      next_found_none _ = stays

      made_none : (out : Out (Node K V)) → Always NoneSo (made p out)
      made_none (Made (Ok block)) = refl
      made_none (Made (Err node)) = refl
      made_none _ = stays

      makes_none : (o : Option (Node K V)) → AlwaysOf NoneSo (makes_of p o)
      makes_none (Some node) = λ out. made_none out
      makes_none None = refl

      filled_none : (word : ℕ) (out : Out (Node K V)) → Always NoneSo (filled p word out)
      filled_none word (Made (Ok block)) = refl
      filled_none word (Made (Err node)) = refl
      filled_none word (Taken node) = refl
      filled_none word _ = stays

      gives_none : (word : ℕ) (out : Out (Node K V)) → Always NoneSo (given_up p word out)
      gives_none word (Taken (nodes.Pair key value)) = refl
      gives_none word (Taken (nodes.Table len limit turn)) = refl
      gives_none word (Taken nodes.Shards) = refl
      gives_none word _ = stays

      dropped_none : (end : End) (out : Out (Node K V)) → Always NoneSo (dropped p end out)
      dropped_none end (Taken node) = refl
      dropped_none end _ = stays

    emptied_none : (word : ℕ) (out : Out (Node K V)) → Always NoneSo (emptied p word out)
    emptied_none word (Taken (nodes.Pair key value)) = refl
    emptied_none word (Taken (nodes.Table len limit turn)) = refl
    emptied_none word (Taken nodes.Shards) = refl
    emptied_none word _ = refl

    -- a word of its try was read
    module _ (asks same : K → K → Bool) where
      found_none : (loaded flag : Bool) (word : ℕ) → NoneSo (told loaded p word flag)
      found_none loaded flag word = told_none loaded word (finding p.setting.mode (aim_of p.missing) word flag)

      key_none : (loaded : Bool) (word : ℕ) (key : Option K) → Always NoneSo (key_read asks same loaded p word key)
      key_none loaded word (Some key) = λ value. found_none loaded (names_pair (same key) value) word
      key_none loaded word None = λ own value. found_none loaded (have_one_key same own value) word

      asked_none : (loaded : Bool) (word : ℕ) (asked : Option K) → Always NoneSo (pair_read asks same loaded p word asked)
      asked_none loaded word (Some asked) = λ value. found_none loaded (names_pair (asks asked) value) word
      asked_none loaded word None = key_none loaded word p.replies.key

      read_none : (loaded : Bool) (word : ℕ) → Always NoneSo (word_read asks same loaded p word)
      read_none loaded word =
          always_if NoneSo (may_name p.hash word) (pair_read asks same loaded p word p.asked) (Now (told loaded p word false)) (asked_none loaded word p.asked) (found_none loaded false word)

      probed_none : NoneSo (p, called.Goes) → (out : Out (Node K V)) → Always NoneSo (word_found asks same p out)
      probed_none stays (Found word) = read_none true word
      probed_none stays _ = stays

  -- it puts what it was told into its own block
  puts_none : (q : KeyCall K V K) → NoneSo (q, called.Goes) → (b : Bool) (word : ℕ) (key : K) (value : V) → AlwaysOf NoneSo (putting_by b q word key value)
  puts_none q stays true word key value = λ out. filled_none q stays word out
  puts_none q stays false word key value = λ out. filled_none q stays word out

  fill_none : (q : KeyCall K V K) → NoneSo (q, called.Goes) → (value : Option V) (word : ℕ) (key : K) → AlwaysOf NoneSo (fill_by value q word key)
  fill_none q stays (Some value) word key = puts_none (record q { replies = record q.replies { key = None } }) stays (q.own == 0) word key value
  fill_none q stays None word key = refl

  fills_none : (p : KeyCall K V K) (word : ℕ) → NoneSo (p, called.Goes) → (key : Option K) → AlwaysOf NoneSo (fills_with key p word)
  fills_none p word stays (Some key) = fill_none (record p { replies = as_own p.replies word }) stays (value_for p.replies word) word key
  fills_none p word stays None = λ out. emptied_none p word out

module _ {K V : Type 0} (asks same : K → K → Bool) (hash : K → ℕ) (p : KeyCall K V K) (m m2 : Mem (Node K V)) (told_by : Changed) where
  abbrev Pair : Type 0
  Pair = (IsRowOfCall p.stands → ⊥) → (word : ℕ) × (pair_in_calling p.stands ≡ Some word)

  -- After a step it has no pair in hand; or it had one before, unless in a row, and goes by the same table, or has read a root that is none before that; or it has just taken the pair of this word.
  pub data KeyWaits (y : KeyCall K V K) : Type 0 where
    HandNone : pair_in_calling y.stands ≡ None → KeyWaits y
    HandAlike : (IsCopying p.stands → ⊥) → Pair → waits_in_calling y y.stands ≡ waits_in_calling p p.stands → KeyWaits y
    HandPast : (d : Dispose) (root : ℕ) (value : Node K V) → (IsCopying p.stands → ⊥) → Pair → waits_in_calling p p.stands ≡ Some d.table.turn → waits_in_calling y y.stands ≡ None
        → (answer : KeyAnswer) → p.stands ≡ at.Disposes d answer → d.stands ≡ disposal.Reads → told_by ≡ changes.Nothing → word_at m (Root d.setting.root) ≡ Some root → value_at m (block_in root) ≡ Some value
        → d.table.turn ≤ (table_seen root value).turn → KeyWaits y
    HandNew : (word new : ℕ) → p.stands ≡ at.Tries word new → told_by ≡ changes.Wrote (place_tried p.trial) word new → waits_in_calling y y.stands ≡ waits_of (disposing p.setting word p.trial.table) → KeyWaits y

  abbrev Hands : KeyCall K V K × Called (Node K V) → Type 0
  Hands e = KeyWaits e.0

  abbrev pub StepAt : Calling → KeyCall K V K × Called (Node K V) → Type 0
  StepAt q e = StepsObserved K V (KeyCall K V K × Called (Node K V)) m changes.Nothing (plan_at asks same hash p q) m2 told_by e

  none_hands : (q : Calling) (e : KeyCall K V K × Called (Node K V)) → AlwaysOf NoneSo (plan_at asks same hash p q) → StepAt q e → Hands e
  none_hands q e all s = HandNone (always_steps NoneSo m m2 (plan_at asks same hash p q) e all (as_step m changes.Nothing (plan_at asks same hash p q) m2 told_by e s))

  apart : (q : Calling) → p.stands ≡ q → (IsCopying q → ⊥) → IsCopying p.stands → ⊥
  apart q is none = λ copies. none (subst IsCopying is copies)

  -- it counts the pair that it has removed
  counted_hands : (removed : ℕ) → p.stands ≡ at.Counts removed → Hands (counted p removed)
  counted_hands removed is = by (removed == 0) refl
    where
      by : (b : Bool) → (removed == 0) ≡ b → Hands (if b then over p (ends.Answered (answers.Stored p.own)) else going p (at.Disposes (disposing p.setting removed p.trial.table) (answers.Removed removed)))
      by true e = HandNone refl
      by false e =
          HandAlike (apart (at.Counts removed) is (λ c. c)) (λ no_row. (removed, ap pair_in_calling is ∙ ap (λ (b : Bool). if b then None else Some removed) e)) (sym (ap (waits_in_calling p) is))

  -- it has just changed the map
  changed_hands : (word new : ℕ) → p.stands ≡ at.Tries word new → told_by ≡ changes.Wrote (place_tried p.trial) word new → Hands (changed p word new)
  changed_hands word new is wrote = by (new == TOMBSTONE) (word == 0)
    where
      by : (b z : Bool) → Hands (if b then going p (at.Counts word) else (if z then going p (at.Counts 0) else going p (at.Disposes (disposing p.setting word p.trial.table) (answers.Replaced word p.own))))
      by true z = HandNew word new is wrote refl
      by false true = HandNone refl
      by false false = HandNew word new is wrote refl

  exchanged_hands : (word new : ℕ) → p.stands ≡ at.Tries word new → (out : Out (Node K V)) → ObservedAs K V (KeyCall K V K × Called (Node K V)) m (Exchange (place_tried p.trial) word new) out m2 told_by
      → (e : KeyCall K V K × Called (Node K V)) → Ends (value_at m2) (tried asks same p word new out) e → Hands e
  exchanged_hands word new is (Exchanged (Ok found)) tells e end =
      subst Hands (sym end) (changed_hands word new is (tells.1 ∙ ap (λ (x : ℕ). changes.Wrote (place_tried p.trial) x new) tells.0.0.1))
  exchanged_hands word new is (Exchanged (Err found)) tells e end = HandNone (always_ends NoneSo (value_at m2) (word_read asks same false p found) e (read_none p asks same false found) end)
  exchanged_hands word new is _ tells e end = absurd tells.0.0

  -- a disposal goes on
  module _ (d : Dispose) (answer : KeyAnswer) (is : p.stands ≡ at.Disposes d answer) where
    waits_were : waits_in_calling p p.stands ≡ waits_of d
    waits_were = ap (waits_in_calling p) is

    held : Holding d m m2 told_by → Pair
    held holds no_row = let it = holds (λ row. no_row (subst IsRowOfCall (sym is) row)) in (it.0, ap pair_in_calling is ∙ it.1)

    goes_to : (next : Dispose) → WaitsGo d m m2 told_by next → KeyWaits (standing p (at.Disposes next answer))
    goes_to next (WaitsAlike holds e) = HandAlike (apart (at.Disposes d answer) is (λ c. c)) (held holds) (e ∙ sym waits_were)
    goes_to next (WaitsOver e) = HandNone e
    goes_to next (WaitsPast root value nothing reads none read seen before) =
        HandPast d root value (apart (at.Disposes d answer) is (λ c. c)) (held (λ no. (d.pair, ap (pair_in_disposing d) reads))) (waits_were ∙ ap (waits_in_disposing d) reads) none answer is reads nothing read seen before

    disposed_hands : (r : Dispose × Settled (Node K V)) → WaitsGo d m m2 told_by r.0 → Hands (disposed p answer r)
    disposed_hands (next, settling.Goes) goes = goes_to next goes
    disposed_hands (next, settling.Waits) goes = goes_to next goes
    disposed_hands (next, settling.Gave value) goes = goes_to next goes
    disposed_hands (next, settling.Done) goes = HandNone refl

  looks_none : (lookup : Lookup) (asked : Option K) → AlwaysOf NoneSo (looks_for asks p lookup asked)
  looks_none lookup (Some q) = always_plan_as NoneSo (looked p) (looked_none p) (lookup_plan (asks q) lookup)
  looks_none lookup None = refl

  -- So it is whatever the point.
  by_point : (q : Calling) → p.stands ≡ q → (e : KeyCall K V K × Called (Node K V)) → StepAt q e → Hands e
  by_point at.Makes is e s = none_hands at.Makes e (makes_none p (ap pair_in_calling is) p.unmade) s
  by_point (at.Looks lookup) is e s = none_hands (at.Looks lookup) e (looks_none lookup p.asked) s
  by_point at.Roots is e s = none_hands at.Roots e (λ out. root_none p (ap pair_in_calling is) out) s
  by_point at.Probes is e s = none_hands at.Probes e (λ out. probed_none p asks same (ap pair_in_calling is) out) s
  by_point (at.Tries word new) is e s = exchanged_hands word new is s.0 s.1 e s.2
  by_point (at.Counts removed) is e s =
      always_steps Hands m m2 (plan_at asks same hash p (at.Counts removed)) e (λ out. counted_hands removed is) (as_step m changes.Nothing (plan_at asks same hash p (at.Counts removed)) m2 told_by e s)
  by_point at.Nexts is e s = none_hands at.Nexts e (λ out. next_found_none p (ap pair_in_calling is) out) s
  by_point (at.Firsts making) is e s = none_hands (at.Firsts making) e (always_plan_as NoneSo (first_made p) (first_none p) (new_table_plan making)) s
  by_point (at.Allocs making) is e s = none_hands (at.Allocs making) e (always_plan_as NoneSo (next_made p) (next_none p) (new_table_plan making)) s
  by_point (at.Helps copier goal) is e s = none_hands (at.Helps copier goal) e (always_plan_as NoneSo (helped p goal) (helped_none p goal) (copier_plan hash copier)) s
  by_point (at.Copies copier) is e s = none_hands (at.Copies copier) e (always_plan_as NoneSo (copied p) (copied_none p) (copier_plan hash copier)) s
  by_point (at.Asks (asking.Absent gap)) is e s = none_hands (at.Asks (asking.Absent gap)) e (ap pair_in_calling is) s
  by_point (at.Asks (asking.Present word)) is e s = none_hands (at.Asks (asking.Present word)) e (ap pair_in_calling is) s
  by_point (at.Asks (asking.Fills word)) is e s = none_hands (at.Asks (asking.Fills word)) e (fills_none p word (ap pair_in_calling is) p.replies.key) s
  by_point (at.Asks (asking.GivesUp word)) is e s = none_hands (at.Asks (asking.GivesUp word)) e (λ out. gives_none p (ap pair_in_calling is) word out) s
  by_point (at.Disposes d answer) is e s =
      let it = told_in m m2 told_by (disposed p answer) (dispose_plan d) e s in
      subst Hands (sym it.1) (disposed_hands d answer is it.0 (dispose_goes d m m2 told_by d.stands refl it.0 it.2))
  by_point (at.Drops end) is e s = none_hands (at.Drops end) e (λ out. dropped_none p (ap pair_in_calling is) end out) s
  by_point (at.Over end) is e s = none_hands (at.Over end) e (ap pair_in_calling is) s

  pub step_hands : (e : KeyCall K V K × Called (Node K V)) → StepAt p.stands e → Hands e
  step_hands e s = by_point p.stands refl e s
