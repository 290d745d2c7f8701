-- A step of a call on one key: at the table where it tries it has met what its tries meet, still; or it is at none, or at the first try.
use Rattle.std.specs.Prelude.{◌≡◌, ◌≢◌, ◌⊎◌, ◌+◌, ◌-◌, ◌<◌, ◌≤◌, ◌%◌, ◌^◌, ◌==◌, nat_lt, ℕ, suc, Bool, true, false, Option, Some, None, Ok, Err, if◌then◌else◌}
use Rattle.std.proofs.Common.{refl, sym, subst, arith, inl, inr}
use Rattle.std.proofs.lemmas.Bool.{ltb-true}
use Rattle.run_finds.specs.Given.SeizeWordsDeclared.at.At.TheVariants.{Entry, Root, Word}
use Rattle.run_finds.specs.Given.SeizeWordsMem.{Mem, value_at, word_at}
use Rattle.run_finds.specs.Given.SeizeWordsOp.{Exchanged, Found, Made, Out, Roomed, Stored, Taken}
use Rattle.run_finds.specs.Given.SeizeWordsPlan.{Plan}
use Rattle.run_finds.specs.Given.SeizeWordsWord.{block_in}
use Rattle.papaya_raw.specs.Given.SeizeDeclared.advance.Advance.{Advance as Counting}
use Rattle.papaya_raw.specs.Given.SeizeDeclared.advance.Advance.TheVariants as progress
use Rattle.papaya_raw.specs.Given.SeizeDeclared.rows.settle.Settled.{Settled}
use Rattle.papaya_raw.specs.Given.SeizeDeclared.rows.settle.Settled.TheVariants as settled
use Rattle.papaya_raw.specs.Given.TablesChunks.{is_incremental}
use Rattle.papaya_raw.specs.Given.TablesFinding.{finding, may_name}
use Rattle.papaya_raw.specs.Given.TablesLengths.{next_len}
use Rattle.papaya_raw.specs.Given.TablesNodes.{table_seen}
use Rattle.papaya_raw.specs.Given.TablesProbes.{probe_after}
use Rattle.papaya_raw.specs.Given.TablesTrials.{place_tried, with_met}
use Rattle.papaya_raw.specs.Given.TablesDeclared.finding.Finding.{Finding}
use Rattle.papaya_raw.specs.Given.TablesDeclared.finding.Finding.TheVariants as finds
use Rattle.papaya_raw.specs.Given.TablesDeclared.lengths.Reason.{Reason}
use Rattle.papaya_raw.specs.Given.TablesDeclared.marks.TheConstants.{TOMBSTONE}
use Rattle.papaya_raw.specs.Given.TablesDeclared.node.Node.{Node}
use Rattle.papaya_raw.specs.Given.TablesDeclared.node.Node.TheVariants as node
use Rattle.papaya_raw.specs.Given.TablesDeclared.table.Table.{Table}
use Rattle.papaya_raw.specs.Given.TablesDeclared.table_words.TheConstants.{STATUS}
use Rattle.papaya_raw.specs.Given.ResizeCopier.{copier_plan}
use Rattle.papaya_raw.specs.Given.ResizeCopierStates.{copying_all, helping}
use Rattle.papaya_raw.specs.Given.ResizeDispose.{dispose_plan, disposing}
use Rattle.papaya_raw.specs.Given.ResizeLookup.{lookup_plan}
use Rattle.run_finds.specs.Given.ResizeNewTable as making
use Rattle.run_finds.specs.Given.ResizeNewTable.{new_table_plan}
use Rattle.run_finds.specs.Given.ResizeSum as summing
use Rattle.run_finds.specs.Given.ResizeSum.{sum_plan}
use Rattle.run_finds.specs.Given.ResizeDeclared.copier.Copier.{Copier}
use Rattle.run_finds.specs.Given.ResizeDeclared.dispose.Dispose.{Dispose}
use Rattle.run_finds.specs.Given.ResizeDeclared.lookup.Lookup.{Lookup}
use Rattle.run_finds.specs.Given.ResizeDeclared.new_table.Making.{Making}
use Rattle.run_finds.specs.Given.ResizeDeclared.new_table.Making.TheVariants as makes
use Rattle.run_finds.specs.Given.ResizeDeclared.new_table.NewTable.{NewTable}
use Rattle.run_finds.specs.Given.ResizeDeclared.yielding.Yielding.{Yielding}
use Rattle.run_finds.specs.Given.ResizeDeclared.yielding.Yielding.TheVariants as outcome
use Rattle.run_finds.specs.Given.ResizeDeclared.sum.Sum.{Sum}
use Rattle.run_finds.specs.Given.ResizeDeclared.sum.Summing.{Summing}
use Rattle.run_finds.specs.Given.ResizeDeclared.sum.Summing.TheVariants as sums
use Rattle.papaya_raw.specs.Call.{call_plan, copied, disposed, dropped, first_made, helped, key_read, looked, looks_for, made, makes_of, next_made, next_read, pair_read, plan_at, root_found, word_read}
use Rattle.papaya_raw.specs.CallFills.{asks_at, fill_by, fills_with, gives_up, putting_by}
use Rattle.papaya_raw.specs.CallPoints.{aim_of, at_free, at_last, at_pair, changed, counted, entering, following_made, gap_by, going, having_met, over, pair_by, passed, standing, tableless, after_finding, continued_in, told as tells_of}
use Rattle.papaya_raw.specs.Replies.{as_own, value_for}
use Rattle.papaya_raw.specs.declared.machines.answer.Called.{Called}
use Rattle.papaya_raw.specs.declared.machines.answer.Called.TheVariants as called
use Rattle.papaya_raw.specs.declared.machines.answer.End.TheVariants as ends
use Rattle.papaya_raw.specs.declared.machines.answer.End.{End}
use Rattle.papaya_raw.specs.declared.machines.answer.KeyAnswer.{KeyAnswer}
use Rattle.papaya_raw.specs.declared.machines.answer.KeyAnswer.TheVariants as answers
use Rattle.papaya_raw.specs.declared.machines.answer.Missing.{Missing}
use Rattle.papaya_raw.specs.declared.machines.answer.Missing.TheVariants as missing
use Rattle.papaya_raw.specs.declared.machines.answer.There.{There}
use Rattle.papaya_raw.specs.declared.machines.answer.There.TheVariants as there
use Rattle.papaya_raw.specs.declared.machines.asking.Asking.{Asking}
use Rattle.papaya_raw.specs.declared.machines.asking.Asking.TheVariants as asking
use Rattle.papaya_raw.specs.declared.machines.asking.Gap.{Gap}
use Rattle.papaya_raw.specs.declared.machines.asking.Gap.TheVariants as gaps
use Rattle.papaya_raw.specs.declared.machines.asking.Told.{Told}
use Rattle.papaya_raw.specs.declared.machines.asking.Told.TheVariants as tells
use Rattle.papaya_raw.specs.declared.machines.call.Calling.{Calling}
use Rattle.papaya_raw.specs.declared.machines.call.Calling.TheVariants as at
use Rattle.papaya_raw.specs.declared.machines.call.KeyCall.{KeyCall}
use Rattle.run_schedules.specs.declared.effect.Spot.{Spot}
use Rattle.run_schedules.specs.Schedules.Tries.{try_at}
use Rattle.run_finds.specs.Given.TellerTells.{StepsObserved}
use Rattle.run_finds.specs.Given.EffectsDeclared.changed.Changed.{Changed}
use Rattle.run_finds.specs.Given.EffectsDeclared.changed.Changed.TheVariants as changes
use Rattle.run_finds.proofs.Given.PointsCalls.Asked.{beyond_so}
use Rattle.run_finds.proofs.Given.RuleKeys.Always.{Always, AlwaysOf, always_ends, always_if, always_plan_as, always_steps}
use Rattle.run_finds.proofs.Given.OthersOutcomes.{told_in}
use Rattle.run_grows.specs.Grows.Tries.{HasTried, TriedAt, TriedAtGap}
use Rattle.run_grows.proofs.Grows.Tries.More.{Tried, burying_tried, either, ending_tried, fill, gap_tried, storing_tried}
use Rattle.run_finds.proofs.Given.ScenesTold.{as_step}

-- no root was written, nor a word of a block that says what stands in a table
abbrev pub OffWords : Changed → Type 0
OffWords (changes.Wrote (Root r) old new) = ⊥
OffWords (changes.Wrote (Entry b field) old new) = ⊥
OffWords (changes.Wrote (Word b field) old new) = field ≡ STATUS
OffWords _ = Unit {0}

-- what is so of no place
abbrev pub OfNone : Spot × ℕ → Type 0
OfNone x = ⊥

module _ (Why : Spot × ℕ → Type 0) {K V Q : Type 0} where
  -- Where no try was made yet.

  abbrev So : KeyCall K V Q × Called (Node K V) → Type 0
  So e = Tried Why e

  entering_tried : (q : KeyCall K V Q) (table : Table) → So (entering q table)
  entering_tried q table = ((let none : 0 ≤ 0 = omega arith in none), refl)

  on_tried : (q : KeyCall K V Q) (table : Table) → So (continued_in q table)
  on_tried q table =
      either Why (is_incremental q.setting.mode) (if q.helped then entering q table else going (record q { helped = true }) (at.Helps (helping q.setting) table))
      (going q (at.Copies (copying_all q.setting q.trial.table table)))
      (either Why q.helped (entering q table) (going (record q { helped = true }) (at.Helps (helping q.setting) table)) (entering_tried q table) tt) tt

  told_gap_tried : (q : KeyCall K V Q) (told : Told V) (gap : Gap) → TriedAtGap Why q gap → So (gap_by told gap q)
  told_gap_tried q tells.Nothing gap so = so
  told_gap_tried q (tells.Value value) gap so = gap_tried Why q gap so
  told_gap_tried q tells.Own gap so = gap_tried Why q gap so
  told_gap_tried q tells.Removes gap so = gap_tried Why q gap so

  tableless_tried : (x : Missing) (q : KeyCall K V Q) → So (tableless x q)
  tableless_tried missing.Answers q = ending_tried Why q (ends.Answered answers.Absent)
  tableless_tried missing.Puts q = tt
  tableless_tried missing.Asks q = told_gap_tried q q.replies.absent gaps.NoTable tt

  changed_tried : (q : KeyCall K V Q) (word new : ℕ) → So (changed q word new)
  changed_tried q word new =
      either Why (new == TOMBSTONE) (going q (at.Counts word)) _ tt
      (either Why (word == 0) (going q (at.Counts 0)) (going q (at.Disposes (disposing q.setting word q.trial.table) (answers.Replaced word q.own))) tt tt)

  counted_tried : (q : KeyCall K V Q) (removed : ℕ) → So (counted q removed)
  counted_tried q removed =
      either Why (removed == 0) (over q (ends.Answered (answers.Stored q.own))) (going q (at.Disposes (disposing q.setting removed q.trial.table) (answers.Removed removed))) tt tt

  looked_tried : (q : KeyCall K V Q) (end : Lookup × Counting (Option ℕ)) → So (looked q end)
  looked_tried q (l, progress.Goes) = tt
  looked_tried q (l, progress.Waits) = tt
  looked_tried q (l, progress.Done (Some found)) = tt
  looked_tried q (l, progress.Done None) = tt
  looked_tried q (l, progress.Refused fault) = tt

  first_tried : (q : KeyCall K V Q) (end : NewTable × Counting Table) → So (first_made q end)
  first_tried q (n, progress.Goes) = tt
  first_tried q (n, progress.Waits) = tt
  first_tried q (n, progress.Done table) = entering_tried q table
  first_tried q (n, progress.Refused fault) = ending_tried Why q (ends.Refused fault)

  helped_tried : (q : KeyCall K V Q) (goal : Table) (end : Copier × Yielding (Node K V) Table) → So (helped q goal end)
  helped_tried q goal (copier, outcome.Goes) = tt
  helped_tried q goal (copier, outcome.Waits) = tt
  helped_tried q goal (copier, outcome.Gave value) = tt
  helped_tried q goal (copier, outcome.Done table) = entering_tried q goal
  helped_tried q goal (copier, outcome.Refused fault) = ending_tried Why q (ends.Refused fault)

  copied_tried : (q : KeyCall K V Q) (end : Copier × Yielding (Node K V) Table) → So (copied q end)
  copied_tried q (copier, outcome.Goes) = tt
  copied_tried q (copier, outcome.Waits) = tt
  copied_tried q (copier, outcome.Gave value) = tt
  copied_tried q (copier, outcome.Done table) = entering_tried q table
  copied_tried q (copier, outcome.Refused fault) = ending_tried Why q (ends.Refused fault)

  disposed_tried : (q : KeyCall K V Q) (answer : KeyAnswer) (end : Dispose × Settled (Node K V)) → So (disposed q answer end)
  disposed_tried q answer (d, settled.Goes) = tt
  disposed_tried q answer (d, settled.Waits) = tt
  disposed_tried q answer (d, settled.Gave value) = tt
  disposed_tried q answer (d, settled.Done) = tt

  -- Where all tries are made.

  last_tried : (x : Missing) (q : KeyCall K V Q) → HasTried Why q (suc q.trial.table.limit) → So (at_last x q)
  last_tried missing.Answers q all =
      either Why (is_incremental q.setting.mode) _ (following_made q) (ending_tried Why q (ends.Answered answers.Absent)) all
  last_tried missing.Puts q all = all
  last_tried missing.Asks q all = either Why (is_incremental q.setting.mode) (gap_by q.replies.absent gaps.Last q) (following_made q) (told_gap_tried q q.replies.absent gaps.Last all) all

  -- At a try.

  module _ (q : KeyCall K V Q) (here : HasTried Why q q.trial.probe.len) where
    free_tried : (x : Missing) → So (at_free x q)
    free_tried missing.Answers = ending_tried Why q (ends.Answered answers.Absent)
    free_tried missing.Puts = here
    free_tried missing.Asks = told_gap_tried q q.replies.absent gaps.Free here

    pair_told_tried : (told : Told V) (word : ℕ) → So (pair_by told q word)
    pair_told_tried tells.Nothing word = here
    pair_told_tried (tells.Value value) word = storing_tried Why q here (tells.Value value) word
    pair_told_tried tells.Own word = storing_tried Why q here tells.Own word
    pair_told_tried tells.Removes word = burying_tried Why q here word

    pair_tried : (x : There) (word : ℕ) → So (at_pair x q word)
    pair_tried there.Answers word = ending_tried Why q (ends.Answered (answers.Found word))
    pair_tried there.Puts word = here
    pair_tried there.Removes word = here
    pair_tried there.Asks word =
        either Why (block_in word == q.replies.pair) (pair_by q.replies.present q word) (pair_by tells.Nothing q word) (pair_told_tried q.replies.present word) (pair_told_tried tells.Nothing word)

    module _ (within : q.trial.probe.len ≤ q.trial.table.limit) (few : suc q.trial.table.limit < 2 ^ 64) (word : ℕ)
        (takes : word ≢ 0 → Why (try_at q.trial.table.turn q.trial.table.len q.hash q.trial.probe.len, if block_in word == 0 then 0 else 1))
        (moves : (flag : Bool) → finding q.setting.mode (aim_of q.missing) word flag ≡ finds.Moved → (x : Spot × ℕ) → x.0.turn ≡ q.trial.table.turn → Why x) where
      -- the word of the try is counted
      with_this : word ≢ 0 → HasTried Why (having_met q word) (suc q.trial.probe.len)
      with_this some = (one_more (block_in word == 0), (q.trial.met, (if block_in word == 0 then 0 else 1), here.1, takes some, adds (block_in word == 0)))
        where
          one_more : (b : Bool) → (if b then q.trial.met else (q.trial.met + 1) % 2 ^ 64) ≤ suc q.trial.probe.len
          one_more true = let low = here.0 in omega (arith, low)
          one_more false = let low = here.0 in omega (arith, low)

          adds : (b : Bool) → (if b then q.trial.met else (q.trial.met + 1) % 2 ^ 64) ≡ q.trial.met + (if b then 0 else 1)
          adds true = omega arith
          adds false = let low = here.0 in omega (arith, low, within, few)

      passed_tried : word ≢ 0 → (b : Bool) → nat_lt q.trial.probe.len q.trial.table.limit ≡ b
          → So (passed (having_met q word) (if b then Some record { table = q.trial.table; probe = probe_after q.trial.probe (q.trial.table.len - 1); met = (with_met q.trial word).met; most = q.trial.most } else None))
      passed_tried some true e = subst (λ (n : ℕ). HasTried Why (having_met q word) n) next (with_this some)
        where
          next : suc q.trial.probe.len ≡ (q.trial.probe.len + 1) % 2 ^ 64
          next = let below = ltb-true q.trial.probe.len q.trial.table.limit e in omega (arith, below, few)
      passed_tried some false e = beyond_so So (having_met q word) all (λ none. ending_tried Why (having_met q word) (ends.Answered answers.Absent)) (λ asks untold. all)
        where
          last : q.trial.probe.len ≡ q.trial.table.limit
          last = grind (arith, e, within)

          all : HasTried Why (having_met q word) (suc q.trial.table.limit)
          all = subst (λ (n : ℕ). HasTried Why (having_met q word) (suc n)) last (with_this some)

      moved_tried : ((x : Spot × ℕ) → x.0.turn ≡ q.trial.table.turn → Why x) → HasTried Why q (suc q.trial.table.limit)
      moved_tried all = (
        (let low = here.0 in omega (arith, low, within)),
        fill Why q.trial.table.turn q.trial.table.len q.hash q.trial.met all q.trial.probe.len (suc q.trial.table.limit) (omega (arith, within)) here.1,
      )

      told_tried : (loaded flag : Bool) → So (tells_of loaded q word flag)
      told_tried loaded flag = by (finding q.setting.mode (aim_of q.missing) word flag) refl
        where
          some : finding q.setting.mode (aim_of q.missing) word flag ≡ finds.Passed → word ≢ 0
          some e none = let empty : finding q.setting.mode (aim_of q.missing) 0 flag ≡ finds.Passed = subst (λ (x : ℕ). finding q.setting.mode (aim_of q.missing) x flag ≡ finds.Passed) none e in cc empty

          by : (found : Finding) → finding q.setting.mode (aim_of q.missing) word flag ≡ found → So (after_finding loaded q word found)
          by finds.Free e = free_tried q.missing
          by finds.Passed e = passed_tried (some e) (nat_lt q.trial.probe.len q.trial.table.limit) refl
          by finds.Moved e = moved_tried (moves flag e)
          by finds.Copying e = either Why loaded (standing q at.Probes, called.Waits) (going q at.Probes) here here
          by finds.There e = pair_tried q.there word

      module _ (asks : Q → K → Bool) (same : K → K → Bool) (loaded : Bool) where
        key_tried : (key : Option K) → Always So (key_read asks same loaded q word key)
        key_tried (Some key) = λ value. told_tried loaded _
        key_tried None = λ own value. told_tried loaded _

        pair_read_tried : (asked : Option Q) → Always So (pair_read asks same loaded q word asked)
        pair_read_tried (Some asked) = λ value. told_tried loaded _
        pair_read_tried None = key_tried q.replies.key

        read_tried : Always So (word_read asks same loaded q word)
        read_tried = always_if So (may_name q.hash word) _ _ (pair_read_tried q.asked) (told_tried loaded false)

-- A step of a call leaves it at no try, or at the first one, whatever it was so by; or it writes no such word, and the call has met what its tries meet.
module _ {K V Q : Type 0} (Why : Spot × ℕ → Type 0) (asks : Q → K → Bool) (same : K → K → Bool) (hash : K → ℕ) (m m2 : Mem (Node K V)) (told : Changed) (p : KeyCall K V Q) (end : KeyCall K V Q × Called (Node K V))
    (within : (at.Probes ≡ p.stands) ⊎ ((word new : ℕ) × (at.Tries word new ≡ p.stands)) → (p.trial.probe.len ≤ p.trial.table.limit) × (suc p.trial.table.limit < 2 ^ 64))
    (takes : (at.Probes ≡ p.stands) ⊎ ((word new : ℕ) × (at.Tries word new ≡ p.stands)) → (word : ℕ) → word_at m (place_tried p.trial) ≡ Some word → word ≢ 0
    → Why (try_at p.trial.table.turn p.trial.table.len p.hash p.trial.probe.len, if block_in word == 0 then 0 else 1))
    (moves : (at.Probes ≡ p.stands) ⊎ ((word new : ℕ) × (at.Tries word new ≡ p.stands)) → (word : ℕ) → word_at m (place_tried p.trial) ≡ Some word
    → (flag : Bool) → finding p.setting.mode (aim_of p.missing) word flag ≡ finds.Moved → (x : Spot × ℕ) → x.0.turn ≡ p.trial.table.turn → Why x) where
  abbrev pub Goal : Type 0
  Goal = Tried OfNone end ⊎ (OffWords told × Tried Why end)

  abbrev Step : {R : Type 0} → Plan (Node K V) R → R → Type 0
  Step {R} plan e = StepsObserved K V R m changes.Nothing plan m2 told e

  -- what goes on to no try
  by_plan : (plan : Plan (Node K V) (KeyCall K V Q × Called (Node K V))) → AlwaysOf (Tried OfNone) plan → Step plan end → Goal
  by_plan plan always s = inl (always_steps (Tried OfNone) m m2 plan end always (as_step m changes.Nothing plan m2 told end s))

  -- where nothing is told
  quiet : told ≡ changes.Nothing → Tried Why end → Goal
  quiet is so = inr (subst OffWords (sym is) tt, so)

  at_probes : at.Probes ≡ p.stands → HasTried Why p p.trial.probe.len → TriedAt Why p p.stands → Step (plan_at asks same hash p at.Probes) end → Goal
  at_probes is here self (Found word, took, e) =
      quiet took.1 (always_ends (Tried Why) (value_at m2) (word_read asks same true p word) end
      (read_tried Why p here (within (inl is)).0 (within (inl is)).1 word (takes (inl is) word took.0.0) (moves (inl is) word took.0.0) asks same true) e)
  at_probes is here self (Stored, took, e) = absurd took.0.0
  at_probes is here self (Exchanged r, took, e) = absurd took.0.0
  at_probes is here self (Made r, took, e) = absurd took.0.0
  at_probes is here self (Taken value, took, e) = absurd took.0.0
  at_probes is here self (Roomed r, took, e) = absurd took.0.0

  at_tries : (word new : ℕ) → at.Tries word new ≡ p.stands → HasTried Why p p.trial.probe.len → Step (plan_at asks same hash p (at.Tries word new)) end → Goal
  at_tries word new is here (Exchanged (Ok found), took, e) = inl (subst (Tried OfNone) (sym e) (changed_tried OfNone p word new))
  at_tries word new is here (Exchanged (Err found), took, e) =
      let trying = inr (word, new, is) in
      quiet took.1 (always_ends (Tried Why) (value_at m2) (word_read asks same false p found) end
      (read_tried Why p here (within trying).0 (within trying).1 found (takes trying found took.0.0.0) (moves trying found took.0.0.0) asks same false) e)
  at_tries word new is here (Found found, took, e) = absurd took.0.0
  at_tries word new is here (Stored, took, e) = absurd took.0.0
  at_tries word new is here (Made r, took, e) = absurd took.0.0
  at_tries word new is here (Taken value, took, e) = absurd took.0.0
  at_tries word new is here (Roomed r, took, e) = absurd took.0.0

  at_nexts : HasTried Why p (suc p.trial.table.limit) → Step (plan_at asks same hash p at.Nexts) end → Goal
  at_nexts all (Found link, took, e) =
      quiet took.1 (always_ends (Tried Why) (value_at m2) (next_read p link) end (always_if (Tried Why) (link == 0) _ _ (last_tried Why p.missing p all) (λ value. on_tried Why p _)) e)
  at_nexts all (Stored, took, e) = absurd took.0.0
  at_nexts all (Exchanged r, took, e) = absurd took.0.0
  at_nexts all (Made r, took, e) = absurd took.0.0
  at_nexts all (Taken value, took, e) = absurd took.0.0
  at_nexts all (Roomed r, took, e) = absurd took.0.0

  -- the next table is made
  module _ (all : HasTried Why p (suc p.trial.table.limit)) (n : NewTable) where
    abbrev Made_so : NewTable × Counting Table → Type 0
    Made_so e = Tried OfNone (next_made p e) ⊎ (OffWords told × Tried Why (next_made p e))

    goes_on : OffWords told → (x : NewTable) → Made_so (x, progress.Goes)
    goes_on off x = inr (off, all)

    is_so : (e e2 : NewTable × Counting Table) → e ≡ e2 → Made_so e2 → Made_so e
    is_so e e2 is so = subst Made_so (sym is) so

    off_nothing : told ≡ changes.Nothing → OffWords told
    off_nothing is = subst OffWords (sym is) tt

    by_count : (before : Table) (reason : Reason) (b : Sum × Counting ℕ) → told ≡ changes.Nothing → Made_so (making.counted n before reason b)
    by_count before reason (sum, progress.Goes) is = goes_on (off_nothing is) (making.standing n (makes.Sums before reason sum))
    by_count before reason (sum, progress.Waits) is = inr (off_nothing is, all)
    by_count before reason (sum, progress.Done count) is = goes_on (off_nothing is) (making.standing n (making.making_of reason before (next_len reason before.len count n.setting.initial)))
    by_count before reason (sum, progress.Refused fault) is = inl (ending_tried OfNone p (ends.Refused fault))

    count_quiet : (sum : Sum) (x : Summing) (b : Sum × Counting ℕ) → Step (summing.plan_at {T = Node K V} sum x) b → told ≡ changes.Nothing
    count_quiet sum (sums.Adds shard total) b (Found word, took, e) = took.1
    count_quiet sum (sums.Adds shard total) b (Stored, took, e) = absurd took.0.0
    count_quiet sum (sums.Adds shard total) b (Exchanged r, took, e) = absurd took.0.0
    count_quiet sum (sums.Adds shard total) b (Made r, took, e) = absurd took.0.0
    count_quiet sum (sums.Adds shard total) b (Taken value, took, e) = absurd took.0.0
    count_quiet sum (sums.Adds shard total) b (Roomed r, took, e) = absurd took.0.0
    count_quiet sum (sums.Over count) b s = s.2

    made_at : (x : Making) (e : NewTable × Counting Table) → Step (making.plan_at {K = K} {V = V} n x) e → Made_so e
    made_at (makes.Sums before reason sum) e s =
        let it = told_in m m2 told (making.counted n before reason) (sum_plan sum) e s in is_so e (making.counted n before reason it.0) it.1 (by_count before reason it.0 (count_quiet sum sum.stands it.0 it.2))
    made_at (makes.Makes table) e (Made (Ok block), took, ends) = is_so e _ ends (goes_on (subst OffWords (sym took.1) tt) (making.standing n (making.after_making n.link (making.with_block table block))))
    made_at (makes.Makes table) e (Made (Err back), took, ends) = is_so e _ ends (inl (ending_tried OfNone p _))
    made_at (makes.Makes table) e (Found word, took, ends) = absurd took.0.0
    made_at (makes.Makes table) e (Stored, took, ends) = absurd took.0.0
    made_at (makes.Makes table) e (Exchanged r, took, ends) = absurd took.0.0
    made_at (makes.Makes table) e (Taken value, took, ends) = absurd took.0.0
    made_at (makes.Makes table) e (Roomed r, took, ends) = absurd took.0.0
    made_at (makes.Promotes table) e (out, took, ends) = is_so e _ ends (goes_on (subst OffWords (sym took.1) refl) (making.standing n (makes.Links table)))
    made_at (makes.Links table) e (Exchanged (Ok found), took, ends) = is_so e _ ends (inl (on_tried OfNone p table))
    made_at (makes.Links table) e (Exchanged (Err found), took, ends) = is_so e _ ends (goes_on (off_nothing took.1) (making.standing n (makes.Drops table found)))
    made_at (makes.Links table) e (Found word, took, ends) = absurd took.0.0
    made_at (makes.Links table) e (Stored, took, ends) = absurd took.0.0
    made_at (makes.Links table) e (Made r, took, ends) = absurd took.0.0
    made_at (makes.Links table) e (Taken value, took, ends) = absurd took.0.0
    made_at (makes.Links table) e (Roomed r, took, ends) = absurd took.0.0
    made_at (makes.Drops table found) e (out, took, ends) = is_so e _ ends.2 (inl (on_tried OfNone p _))
    made_at (makes.Over table) e s = is_so e _ s.1 (inl (on_tried OfNone p table))
    made_at (makes.Refused fault) e s = is_so e _ s.1 (inl (ending_tried OfNone p (ends.Refused fault)))

    at_allocs : Step (plan_at asks same hash p (at.Allocs n)) end → Goal
    at_allocs s =
        let it = told_in m m2 told (next_made p) (new_table_plan {K = K} {V = V} n) end s in
        subst (λ (e : KeyCall K V Q × Called (Node K V)). Tried OfNone e ⊎ (OffWords told × Tried Why e)) (sym it.1) (made_at n.stands it.0 it.2)

  -- where it asks, or goes by what it was told
  module _ (word : ℕ) (here : HasTried Why p p.trial.probe.len) where
    put_made : (b : Bool) (q : KeyCall K V Q) → HasTried Why q q.trial.probe.len → (key : K) (value : V) → Step (putting_by b q word key value) end → Goal
    put_made true q so key value (Made (Ok block), took, e) = inr (subst OffWords (sym took.1) tt, subst (Tried Why) (sym e) so)
    put_made true q so key value (Made (Err back), took, e) = inl (subst (Tried OfNone) (sym e) tt)
    put_made true q so key value (Found found, took, e) = absurd took.0.0
    put_made true q so key value (Stored, took, e) = absurd took.0.0
    put_made true q so key value (Exchanged r, took, e) = absurd took.0.0
    put_made true q so key value (Taken node, took, e) = absurd took.0.0
    put_made true q so key value (Roomed r, took, e) = absurd took.0.0
    put_made false q so key value (Taken node, took, e) = inr (subst OffWords (sym took.1) tt, subst (Tried Why) (sym e) so)
    put_made false q so key value (Made r, took, e) = absurd took.0.0
    put_made false q so key value (Found found, took, e) = absurd took.0.0
    put_made false q so key value (Stored, took, e) = absurd took.0.0
    put_made false q so key value (Exchanged r, took, e) = absurd took.0.0
    put_made false q so key value (Roomed r, took, e) = absurd took.0.0

    fill_told : (value : Option V) (q : KeyCall K V Q) → HasTried Why q q.trial.probe.len → (key : K) → Step (fill_by value q word key) end → Goal
    fill_told (Some value) q so key s = put_made (q.own == 0) (record q { replies = record q.replies { key = None } }) so key value s
    fill_told None q so key s = quiet s.2 (subst (Tried Why) (sym s.1) so)

    at_fills : (key : Option K) → Step (fills_with key p word) end → Goal
    at_fills (Some key) s = fill_told (value_for p.replies word) (record p { replies = as_own p.replies word }) here key s
    at_fills None (Taken (node.Pair key value), took, e) = inr (subst OffWords (sym took.1) tt, subst (Tried Why) (sym e) here)
    at_fills None (Taken value, took, e) = inr (subst OffWords (sym took.1) tt, subst (Tried Why) (sym e) here)
    at_fills None (Made r, took, e) = absurd took.0.0
    at_fills None (Found found, took, e) = absurd took.0.0
    at_fills None (Stored, took, e) = absurd took.0.0
    at_fills None (Exchanged r, took, e) = absurd took.0.0
    at_fills None (Roomed r, took, e) = absurd took.0.0

    at_gives_up : Step (gives_up p word) end → Goal
    at_gives_up (Taken (node.Pair key value), took, e) = inr (subst OffWords (sym took.1) tt, subst (Tried Why) (sym e) here)
    at_gives_up (Taken value, took, e) = inr (subst OffWords (sym took.1) tt, subst (Tried Why) (sym e) here)
    at_gives_up (Made r, took, e) = absurd took.0.0
    at_gives_up (Found found, took, e) = absurd took.0.0
    at_gives_up (Stored, took, e) = absurd took.0.0
    at_gives_up (Exchanged r, took, e) = absurd took.0.0
    at_gives_up (Roomed r, took, e) = absurd took.0.0

  -- elsewhere
  on_made : (node : Option (Node K V)) → TriedAt OfNone p p.stands → AlwaysOf (Tried OfNone) (makes_of p node)
  on_made None self = tt
  on_made (Some value) self = by
    where
      by : (out : Out (Node K V)) → Always (Tried OfNone) (made p out)
      by (Made (Ok block)) = tt
      by (Made (Err back)) = tt
      by (Found word) = self
      by Stored = self
      by (Exchanged r) = self
      by (Taken value) = self
      by (Roomed r) = self

  on_looks : (l : Lookup) (asked : Option Q) → AlwaysOf (Tried OfNone) (looks_for asks p l asked)
  on_looks l (Some q) = always_plan_as (Tried OfNone) (looked p) (looked_tried OfNone p) (lookup_plan (asks q) l)
  on_looks l None = tt

  on_root : TriedAt OfNone p p.stands → (out : Out (Node K V)) → Always (Tried OfNone) (root_found p out)
  on_root self (Found link) = always_if (Tried OfNone) (link == 0) _ _ (tableless_tried OfNone p.missing p) (λ value. entering_tried OfNone p (table_seen link value))
  on_root self Stored = self
  on_root self (Exchanged r) = self
  on_root self (Made r) = self
  on_root self (Taken value) = self
  on_root self (Roomed r) = self

  on_dropped : TriedAt OfNone p p.stands → (over : End) (out : Out (Node K V)) → Always (Tried OfNone) (dropped p over out)
  on_dropped self over (Taken value) = tt
  on_dropped self over (Found found) = self
  on_dropped self over Stored = self
  on_dropped self over (Exchanged r) = self
  on_dropped self over (Made r) = self
  on_dropped self over (Roomed r) = self

  -- it stands where no tries are made
  none_here : (stands : Calling) → stands ≡ p.stands → TriedAt OfNone p stands → TriedAt OfNone p p.stands
  none_here stands is so = subst (TriedAt OfNone p) is so

  at_asks : (a : Asking) → TriedAt Why p (at.Asks a) → TriedAt Why p p.stands → Step (asks_at p a) end → Goal
  at_asks (asking.Absent gap) so self s = quiet s.2 (subst (Tried Why) (sym s.1) self)
  at_asks (asking.Present word) so self s = quiet s.2 (subst (Tried Why) (sym s.1) self)
  at_asks (asking.Fills word) so self s = at_fills word so p.replies.key s
  at_asks (asking.GivesUp word) so self s = at_gives_up word so s

  by_point : (stands : Calling) → stands ≡ p.stands → TriedAt Why p stands → Step (plan_at asks same hash p stands) end → Goal
  by_point at.Makes is so s = by_plan (plan_at asks same hash p at.Makes) (on_made p.unmade (none_here at.Makes is tt)) s
  by_point (at.Looks l) is so s = by_plan (plan_at asks same hash p (at.Looks l)) (on_looks l p.asked) s
  by_point at.Roots is so s = by_plan (plan_at asks same hash p at.Roots) (on_root (none_here at.Roots is tt)) s
  by_point at.Probes is so s = at_probes is so (subst (TriedAt Why p) is so) s
  by_point (at.Tries word new) is so s = at_tries word new is so s
  by_point at.Nexts is so s = at_nexts so s
  by_point (at.Firsts n) is so s = by_plan (plan_at asks same hash p (at.Firsts n)) (always_plan_as (Tried OfNone) (first_made p) (first_tried OfNone p) (new_table_plan n)) s
  by_point (at.Allocs n) is so s = at_allocs so n s
  by_point (at.Helps copier goal) is so s = by_plan (plan_at asks same hash p (at.Helps copier goal)) (always_plan_as (Tried OfNone) (helped p goal) (helped_tried OfNone p goal) (copier_plan hash copier)) s
  by_point (at.Copies copier) is so s = by_plan (plan_at asks same hash p (at.Copies copier)) (always_plan_as (Tried OfNone) (copied p) (copied_tried OfNone p) (copier_plan hash copier)) s
  by_point (at.Counts removed) is so s = by_plan (plan_at asks same hash p (at.Counts removed)) (λ out. counted_tried OfNone p removed) s
  by_point (at.Asks a) is so s = at_asks a so (subst (TriedAt Why p) is so) s
  by_point (at.Disposes dispose answer) is so s = by_plan (plan_at asks same hash p (at.Disposes dispose answer)) (always_plan_as (Tried OfNone) (disposed p answer) (disposed_tried OfNone p answer) (dispose_plan dispose)) s
  by_point (at.Drops over) is so s = by_plan (plan_at asks same hash p (at.Drops over)) (on_dropped (none_here (at.Drops over) is tt) over) s
  by_point (at.Over over) is so s = by_plan (plan_at asks same hash p (at.Over over)) (none_here (at.Over over) is tt) s

  pub call_tried : TriedAt Why p p.stands → Step (call_plan asks same hash p) end → Goal
  call_tried so s = by_point p.stands refl so s
