-- What a call has met at its table, from one step to the next: no more pairs than its tries meet there, until the pairs are counted for the next table.
use Rattle.std.specs.Prelude.{◌==◌, ◌-◌, ◌%◌, ◌^◌, nat_le, nat_lt, not, Option, Some, None, Result, Ok, Err, if◌then◌else◌, max}
use Rattle.std.proofs.Common.{◌≡◌, ◌≢◌, ℕ, suc, ◌+◌, ◌≤◌, inl, inr, Bool, true, false, refl, ap, sym, subst, arith}
use Rattle.std.proofs.lemmas.Bool.{ltb-true}
use Rattle.many_maps.specs.Given.SeizeWordsDeclared.at.At.{At}
use Rattle.many_maps.specs.Given.SeizeWordsDeclared.at.At.TheVariants as names
use Rattle.many_maps.specs.Given.SeizeWordsDeclared.fault.Fault.{Fault}
use Rattle.many_maps.specs.Given.SeizeWordsDeclared.fault.Fault.TheVariants.{Memory, Capacity}
use Rattle.many_maps.specs.Given.SeizeWordsMem.{Mem, value_at, word_at, Took}
use Rattle.many_maps.specs.Given.SeizeWordsOp.{Out, Found, Stored, Exchanged, Made, Taken, Roomed}
use Rattle.many_maps.specs.Given.SeizeWordsPlan.{Steps, plan_as}
use Rattle.many_maps.specs.Given.SeizeWordsWord.{block_in}
use Rattle.many_maps.proofs.Given.SeizeWordsOneOwner.Operations.{loaded, exchanged}
use Rattle.many_maps.proofs.Given.SeizeRuleRows.Leaving.{steps_back}
use Rattle.many_maps.specs.Given.SeizeDeclared.advance.Advance.{Advance}
use Rattle.many_maps.specs.Given.SeizeDeclared.advance.Advance.TheVariants as progress
use Rattle.many_maps.specs.Given.SeizeDeclared.rows.settle.Settled.{Settled}
use Rattle.many_maps.specs.Given.SeizeDeclared.rows.settle.Settled.TheVariants as settled
use Rattle.many_maps.specs.Given.TablesChunks.{is_incremental}
use Rattle.many_maps.specs.Given.TablesFinding.{may_name}
use Rattle.many_maps.specs.Given.TablesNodes.{table_seen}
use Rattle.many_maps.specs.Given.TablesLengths.{next_len, next_limit, next_turn}
use Rattle.many_maps.specs.Given.TablesProbes.{probe_after}
use Rattle.many_maps.specs.Given.TablesTablePlaces.{at_place, at_word}
use Rattle.many_maps.specs.Given.TablesTrials.{place_tried, with_met}
use Rattle.many_maps.specs.Given.TablesDeclared.finding.Finding.{Finding}
use Rattle.many_maps.specs.Given.TablesDeclared.finding.Finding.TheVariants as finds
use Rattle.many_maps.specs.Given.TablesDeclared.lengths.Reason.{Reason}
use Rattle.many_maps.specs.Given.TablesDeclared.marks.TheConstants.{TOMBSTONE}
use Rattle.many_maps.specs.Given.TablesDeclared.node.Node.{Node}
use Rattle.many_maps.specs.Given.TablesDeclared.table.Table.{Table}
use Rattle.many_maps.specs.Given.TablesDeclared.table_words.TheConstants.{NEXT}
use Rattle.many_maps.specs.Given.ResizeCopier.{copier_plan}
use Rattle.many_maps.specs.Given.ResizeCopierStates.{copying_all, helping}
use Rattle.many_maps.specs.Given.ResizeDispose.{disposing, dispose_plan}
use Rattle.many_maps.specs.Given.ResizeLookup.{lookup_plan}
use Rattle.many_maps.specs.Given.ResizeNewTable as making
use Rattle.many_maps.specs.Given.ResizeNewTable.{new_table_plan}
use Rattle.many_maps.specs.Given.ResizeSum as summing
use Rattle.many_maps.specs.Given.ResizeDeclared.copier.Copier.{Copier}
use Rattle.many_maps.specs.Given.ResizeDeclared.dispose.Dispose.{Dispose}
use Rattle.many_maps.specs.Given.ResizeDeclared.lookup.Lookup.{Lookup}
use Rattle.many_maps.specs.Given.ResizeDeclared.new_table.NewTable.{NewTable}
use Rattle.many_maps.specs.Given.ResizeDeclared.new_table.Making.{Making}
use Rattle.many_maps.specs.Given.ResizeDeclared.new_table.Making.TheVariants as makes
use Rattle.many_maps.specs.Given.ResizeDeclared.yielding.Yielding.{Yielding}
use Rattle.many_maps.specs.Given.ResizeDeclared.yielding.Yielding.TheVariants as outcome
use Rattle.many_maps.specs.Given.ResizeDeclared.sum.Sum.{Sum}
use Rattle.many_maps.specs.Given.ResizeDeclared.sum.Summing.{Summing}
use Rattle.many_maps.specs.Given.ResizeDeclared.sum.Summing.TheVariants as sums
use Rattle.many_maps.specs.Given.RawCall.{made, makes_of, root_found, next_read, next_found, dropped, key_read, pair_read, word_read, word_found, tried, looked, looks_for, first_made, next_made, disposed, helped, copied, plan_at}
use Rattle.many_maps.specs.Given.RawCallPoints.{going, standing, over, ending, tableless, at_free, following_made, asking_at, gap_by, at_last, at_pair, passed, halted, after_finding, entering, continued_in, changed, counted, having_met}
use Rattle.many_maps.specs.Given.RawDeclared.machines.answer.Called.{Called}
use Rattle.many_maps.specs.Given.RawDeclared.machines.answer.Called.TheVariants as called
use Rattle.many_maps.specs.Given.RawDeclared.machines.answer.End.{End}
use Rattle.many_maps.specs.Given.RawDeclared.machines.answer.End.TheVariants as ends
use Rattle.many_maps.specs.Given.RawDeclared.machines.answer.KeyAnswer.{KeyAnswer}
use Rattle.many_maps.specs.Given.RawDeclared.machines.answer.KeyAnswer.TheVariants as answers
use Rattle.many_maps.specs.Given.RawDeclared.machines.answer.Missing.{Missing}
use Rattle.many_maps.specs.Given.RawDeclared.machines.answer.Missing.TheVariants as missing
use Rattle.many_maps.specs.Given.RawDeclared.machines.answer.There.{There}
use Rattle.many_maps.specs.Given.RawDeclared.machines.answer.There.TheVariants as there
use Rattle.many_maps.specs.Given.RawDeclared.machines.asking.Asking.{Asking}
use Rattle.many_maps.specs.Given.RawDeclared.machines.asking.Gap.TheVariants as gaps
use Rattle.many_maps.specs.Given.RawDeclared.machines.asking.Told.{Told}
use Rattle.many_maps.specs.Given.RawDeclared.machines.asking.Told.TheVariants as tells
use Rattle.many_maps.specs.Given.RawDeclared.machines.call.KeyCall.{KeyCall}
use Rattle.many_maps.specs.Given.RawDeclared.machines.call.Calling.{Calling}
use Rattle.many_maps.specs.Given.RawDeclared.machines.call.Calling.TheVariants as at
use Rattle.many_maps.proofs.Given.PointsCalls.Asked.{asking_so, asking_of_so, beyond_so}
use Rattle.many_maps.specs.Given.RuleMaps.{spot_at}
use Rattle.many_maps.proofs.Given.RuleKeys.Always.{Always, AlwaysOf, always_if, always_ends, always_plan_as, always_steps}
use Rattle.owner_facts.specs.Alone.Counting.{one_if}
use Rattle.owner_facts.specs.Alone.Met.{names_block, words_met, IsTrying, HasMet, MetMaking, MetAt, CallsMeetPairs}
use Rattle.owner_facts.proofs.Alone.Shards.Met.{AtSpot, at_spot_of}
use Rattle.owner_facts.proofs.Alone.Shards.Sums.{total_more}

-- more tries meet no fewer pairs
words_more : {T : Type 0} (m : Mem T) (table : Table) (code n k : ℕ) → n ≤ k → words_met m table code n ≤ words_met m table code k
words_more m table code n k l = total_more one_if (λ j. names_block (word_at m (at_place table (spot_at table.len code j)))) n k l

module _ {K V Q : Type 0} (m : Mem (Node K V)) where
  -- so it is where a step comes to, in this memory
  abbrev On : KeyCall K V Q × Called (Node K V) → Type 0
  On e = MetAt m e.0 e.0.stands

  either : (b : Bool) (x y : KeyCall K V Q × Called (Node K V)) → On x → On y → On (if b then x else y)
  either true x y f g = f
  either false x y f g = g

  ending_met : (q : KeyCall K V Q) (end : End) → On (ending q end)
  ending_met q end = either (q.own == 0) (over q end) (going q (at.Drops end)) tt tt

  -- a table is entered, with nothing met
  entering_met : (q : KeyCall K V Q) (table : Table) → On (entering q table)
  entering_met q table = let none : 0 ≤ words_met m table q.hash 0 = omega arith in none

  on_met : (q : KeyCall K V Q) (table : Table) → On (continued_in q table)
  on_met q table =
      either (is_incremental q.setting.mode) (if q.helped then entering q table else going (record q { helped = true }) (at.Helps (helping q.setting) table))
      (going q (at.Copies (copying_all q.setting q.trial.table table)))
      (either q.helped (entering q table) (going (record q { helped = true }) (at.Helps (helping q.setting) table)) (entering_met q table) tt) tt

  tableless_met : (x : Missing) (q : KeyCall K V Q) → On (tableless x q)
  tableless_met missing.Answers q = ending_met q (ends.Answered answers.Absent)
  tableless_met missing.Puts q = tt
  tableless_met missing.Asks q = by q.replies.absent
    where
      by : (told : Told V) → On (gap_by told gaps.NoTable q)
      by tells.Nothing = tt
      by (tells.Value value) = tt
      by tells.Own = tt
      by tells.Removes = tt

  changed_met : (q : KeyCall K V Q) (word new : ℕ) → On (changed q word new)
  changed_met q word new =
      either (new == TOMBSTONE) (going q (at.Counts word)) _ tt
      (either (word == 0) (going q (at.Counts 0)) (going q (at.Disposes (disposing q.setting word q.trial.table) (answers.Replaced word q.own))) tt tt)

  counted_met : (q : KeyCall K V Q) (removed : ℕ) → On (counted q removed)
  counted_met q removed =
      either (removed == 0) (over q (ends.Answered (answers.Stored q.own))) (going q (at.Disposes (disposing q.setting removed q.trial.table) (answers.Removed removed))) tt tt

  -- what machines within it tell
  looked_met : (q : KeyCall K V Q) (end : Lookup × Advance (Option ℕ)) → On (looked q end)
  looked_met q (l, progress.Goes) = tt
  looked_met q (l, progress.Waits) = tt
  looked_met q (l, progress.Done (Some found)) = tt
  looked_met q (l, progress.Done None) = tt
  looked_met q (l, progress.Refused fault) = tt

  first_met : (q : KeyCall K V Q) (end : NewTable × Advance Table) → On (first_made q end)
  first_met q (n, progress.Goes) = tt
  first_met q (n, progress.Waits) = tt
  first_met q (n, progress.Done table) = entering_met q table
  first_met q (n, progress.Refused fault) = ending_met q (ends.Refused fault)

  helped_met : (q : KeyCall K V Q) (goal : Table) (end : Copier × Yielding (Node K V) Table) → On (helped q goal end)
  helped_met q goal (copier, outcome.Goes) = tt
  helped_met q goal (copier, outcome.Waits) = tt
  helped_met q goal (copier, outcome.Gave value) = tt
  helped_met q goal (copier, outcome.Done table) = entering_met q goal
  helped_met q goal (copier, outcome.Refused fault) = ending_met q (ends.Refused fault)

  copied_met : (q : KeyCall K V Q) (end : Copier × Yielding (Node K V) Table) → On (copied q end)
  copied_met q (copier, outcome.Goes) = tt
  copied_met q (copier, outcome.Waits) = tt
  copied_met q (copier, outcome.Gave value) = tt
  copied_met q (copier, outcome.Done table) = entering_met q table
  copied_met q (copier, outcome.Refused fault) = ending_met q (ends.Refused fault)

  disposed_met : (q : KeyCall K V Q) (answer : KeyAnswer) (end : Dispose × Settled (Node K V)) → On (disposed q answer end)
  disposed_met q answer (d, settled.Goes) = tt
  disposed_met q answer (d, settled.Waits) = tt
  disposed_met q answer (d, settled.Gave value) = tt
  disposed_met q answer (d, settled.Done) = tt

  -- all tries are made
  module _ (q : KeyCall K V Q) (all : HasMet m q (suc q.trial.table.limit)) where
    following_met : On (following_made q)
    following_met = (refl, refl, all)

    last_met : (x : Missing) → On (at_last x q)
    last_met missing.Answers =
        either (is_incremental q.setting.mode) (ending q (ends.Answered answers.Absent)) (following_made q) (ending_met q (ends.Answered answers.Absent)) following_met
    last_met missing.Puts = following_met
    last_met missing.Asks = either (is_incremental q.setting.mode) (asking_at gaps.Last q) (following_made q) (by q.replies.absent) following_met
      where
        by : (told : Told V) → On (gap_by told gaps.Last q)
        by tells.Nothing = tt
        by (tells.Value value) = following_met
        by tells.Own = following_met
        by tells.Removes = following_met

  -- at a try
  module _ (q : KeyCall K V Q) (tries : AtSpot q) (here : HasMet m q q.trial.probe.len) where
    all_met : HasMet m q (suc q.trial.table.limit)
    all_met =
        let within = tries.1 in
        let more = words_more m q.trial.table q.hash q.trial.probe.len (suc q.trial.table.limit) (omega (arith, within)) in
        omega (arith, here, more)

    free_met : (x : Missing) → On (at_free x q)
    free_met missing.Answers = ending_met q (ends.Answered answers.Absent)
    free_met missing.Puts = here
    free_met missing.Asks = asking_so On q (λ word new. here) (λ asks_at. tt) (λ asks_at asked. tt) tt all_met (following_met q all_met) gaps.Free

    pair_met : (x : There) (word : ℕ) → On (at_pair x q word)
    pair_met there.Answers word = ending_met q (ends.Answered (answers.Found word))
    pair_met there.Puts word = here
    pair_met there.Removes word = here
    pair_met there.Asks word = asking_of_so On q (λ other new. here) (λ asks_at. tt) (λ asks_at asked. tt) word

    halted_met : (b : Bool) → On (halted b q)
    halted_met true = here
    halted_met false = here

    module _ (word : ℕ) (is : word_at m (place_tried q.trial) ≡ Some word) where
      -- the word of the try is counted
      with_this : HasMet m (having_met q word) (suc q.trial.probe.len)
      with_this = let one = one_more (block_in word == 0) in omega (arith, adds, one)
        where
          at_spot : word_at m (at_place q.trial.table (spot_at q.trial.table.len q.hash q.trial.probe.len)) ≡ Some word
          at_spot = subst (λ (i : ℕ). word_at m (at_place q.trial.table i) ≡ Some word) tries.0 is

          adds : words_met m q.trial.table q.hash (suc q.trial.probe.len) ≡ words_met m q.trial.table q.hash q.trial.probe.len + one_if (not (block_in word == 0))
          adds = ap (λ (o : Option ℕ). words_met m q.trial.table q.hash q.trial.probe.len + one_if (names_block o)) at_spot

          one_more : (b : Bool) → (if b then q.trial.met else (q.trial.met + 1) % 2 ^ 64) ≤ words_met m q.trial.table q.hash q.trial.probe.len + one_if (not b)
          one_more true = omega (arith, here)
          one_more false = omega (arith, here)

      all_with_this : HasMet m (having_met q word) (suc q.trial.table.limit)
      all_with_this =
          let within = tries.1 in
          let more = words_more m q.trial.table q.hash (suc q.trial.probe.len) (suc q.trial.table.limit) (omega (arith, within)) in
          let counted_in = with_this in
          omega (arith, counted_in, more)

      passed_met : (b : Bool) → nat_lt q.trial.probe.len q.trial.table.limit ≡ b
          → On (passed (having_met q word) (if b then Some record { table = q.trial.table; probe = probe_after q.trial.probe (q.trial.table.len - 1); met = (with_met q.trial word).met; most = q.trial.most } else None))
      passed_met true e = subst (λ (n : ℕ). (with_met q.trial word).met ≤ words_met m q.trial.table q.hash n) next with_this
        where
          next : suc q.trial.probe.len ≡ (q.trial.probe.len + 1) % 2 ^ 64
          next = let below = ltb-true q.trial.probe.len q.trial.table.limit e in let few = tries.2 in omega (arith, below, few)
      passed_met false e = beyond_so On (having_met q word) all_with_this (λ none. ending_met (having_met q word) (ends.Answered answers.Absent)) (λ asks untold. tt)

      told_met : (loaded : Bool) (found : Finding) → On (after_finding loaded q word found)
      told_met loaded finds.Free = free_met q.missing
      told_met loaded finds.Passed = passed_met (nat_lt q.trial.probe.len q.trial.table.limit) refl
      told_met loaded finds.Moved = all_met
      told_met loaded finds.Copying = halted_met loaded
      told_met loaded finds.There = pair_met q.there word

      module _ (asks : Q → K → Bool) (same : K → K → Bool) (loaded : Bool) where
        key_met : (key : Option K) → Always On (key_read asks same loaded q word key)
        key_met (Some key) = λ value. told_met loaded _
        key_met None = λ own value. told_met loaded _

        pair_read_met : (asked : Option Q) → Always On (pair_read asks same loaded q word asked)
        pair_read_met (Some asked) = λ value. told_met loaded _
        pair_read_met None = key_met q.replies.key

        read_met : Always On (word_read asks same loaded q word)
        read_met = always_if On (may_name q.hash word) _ _ (pair_read_met q.asked) (told_met loaded _)

  -- the making of the next table
  module _ (q : KeyCall K V Q) where
    -- the same of the call, wherever it stands
    stands_so : (stands : Calling) (x : Making) → MetMaking m q x → MetMaking m (standing q stands) x
    stands_so stands (makes.Sums before reason sum) so = so
    stands_so stands (makes.Makes table) so = tt
    stands_so stands (makes.Promotes table) so = tt
    stands_so stands (makes.Links table) so = tt
    stands_so stands (makes.Drops table found) so = tt
    stands_so stands (makes.Over table) so = tt
    stands_so stands (makes.Refused fault) so = tt

    pub goes_on : (n : NewTable) (x : Making) → MetMaking m q x → On (going q (at.Allocs (making.standing n x)))
    goes_on n x so = stands_so (at.Allocs (making.standing n x)) x so

    following_none : (reason : Reason) (before : Table) (len : ℕ) (turn : Result ℕ Fault) → MetMaking m q (making.following reason before len turn)
    following_none reason before len (Ok turn) = by (nat_le len (2 ^ 48))
      where
        by : (b : Bool) → MetMaking m q (if b then makes.Makes (making.planned len (next_limit reason before.len before.limit len) turn) else makes.Refused Capacity)
        by true = tt
        by false = tt
    following_none reason before len (Err fault) = tt

    making_none : (reason : Reason) (before : Table) (len : Result ℕ Fault) → MetMaking m q (making.making_of reason before len)
    making_none reason before (Ok len) = following_none reason before (max len 8) (next_turn before.turn)
    making_none reason before (Err fault) = tt

    after_none : (link : At) (table : Table) → MetMaking m q (making.after_making link table)
    after_none (names.Root root) table = tt
    after_none (names.Used root) table = tt
    after_none (names.Slot slot word) table = tt
    after_none (names.Entry block word) table = tt
    after_none (names.Word block word) table = tt

    abbrev Inside : NewTable × Advance Table → Type 0
    Inside end = On (next_made q end)

    -- where the pairs are counted, up to the end of that
    counting_met : (n : NewTable) (before : Table) (reason : Reason) (sum : Sum) → MetMaking m q (makes.Sums before reason sum) → (end : Sum × Advance ℕ) → Inside (making.counted n before reason end)
    counting_met n before reason sum so (sum2, progress.Goes) = (so.0, so.1, so.2)
    counting_met n before reason sum so (sum2, progress.Waits) = (so.0, so.1, so.2)
    counting_met n before reason sum so (sum2, progress.Done count) =
        goes_on n (making.making_of reason before (next_len reason before.len count n.setting.initial)) (making_none reason before (next_len reason before.len count n.setting.initial))
    counting_met n before reason sum so (sum2, progress.Refused fault) = ending_met q (ends.Refused fault)

    -- at the other points nothing is to be known
    module _ (n : NewTable) (own : MetMaking m q n.stands) where
      self : On (going q (at.Allocs n))
      self = stands_so (at.Allocs n) n.stands own

      makes_met : (table : Table) (out : Out (Node K V)) → Always Inside (making.made n table out)
      makes_met table (Made (Ok block)) = goes_on n (making.after_making n.link (making.with_block table block)) (after_none n.link (making.with_block table block))
      makes_met table (Made (Err value)) = ending_met q (ends.Refused Memory)
      makes_met table (Found word) = self
      makes_met table Stored = self
      makes_met table (Exchanged r) = self
      makes_met table (Taken value) = self
      makes_met table (Roomed r) = self

      links_met : (table : Table) (out : Out (Node K V)) → Always Inside (making.linked n table out)
      links_met table (Exchanged (Ok empty)) = on_met q table
      links_met table (Exchanged (Err found)) = tt
      links_met table (Found word) = self
      links_met table Stored = self
      links_met table (Made r) = self
      links_met table (Taken value) = self
      links_met table (Roomed r) = self

      making_met : (stands : Making) → ((before : Table) (reason : Reason) (sum : Sum) → stands ≢ makes.Sums before reason sum) → AlwaysOf Inside (making.plan_at {K = K} {V = V} n stands)
      making_met (makes.Sums before reason sum) other = absurd (other before reason sum refl)
      making_met (makes.Makes table) other = makes_met table
      making_met (makes.Promotes table) other = λ out. tt
      making_met (makes.Links table) other = links_met table
      making_met (makes.Drops table found) other = λ out value. on_met q _
      making_met (makes.Over table) other = on_met q table
      making_met (makes.Refused fault) other = ending_met q (ends.Refused fault)

module _ {K V Q : Type 0} (asks : Q → K → Bool) (same : K → K → Bool) (hash : K → ℕ) (m m2 : Mem (Node K V)) (p : KeyCall K V Q) (end : KeyCall K V Q × Called (Node K V)) where
  abbrev So : Type 0
  So = MetAt m2 end.0 end.0.stands

  abbrev Stepped : Calling → Type 0
  Stepped stands = Steps Took value_at m (plan_at asks same hash p stands) m2 end

  -- where the step has changed nothing
  as_was : m2 ≡ m → MetAt m end.0 end.0.stands → So
  as_was e met = subst (λ (x : Mem (Node K V)). MetAt x end.0 end.0.stands) (sym e) met

  at_probes : AtSpot p → HasMet m p p.trial.probe.len → Stepped at.Probes → So
  at_probes tries here s =
      let d = loaded m (word_found asks same p) (place_tried p.trial) m2 end s in
      as_was d.2 (always_ends (On m) (value_at m) (word_read asks same true p d.0) end (read_met m p tries here d.0 d.1 asks same true) d.3)

  at_tries : (word new : ℕ) → AtSpot p → HasMet m p p.trial.probe.len → Stepped (at.Tries word new) → So
  at_tries word new tries here s =
      elim (exchanged m (tried asks same p word new) (place_tried p.trial) word new m2 end s) as (λ _. So) [
        | inl d ↦ subst (λ (e : KeyCall K V Q × Called (Node K V)). MetAt m2 e.0 e.0.stands) (sym d.3) (changed_met m2 p word new)
        | inr d ↦ as_was d.2 (always_ends (On m) (value_at m) (word_read asks same false p d.0) end (read_met m p tries here d.0 d.1.0 asks same false) d.3)
      ]

  at_nexts : HasMet m p (suc p.trial.table.limit) → Stepped at.Nexts → So
  at_nexts all s =
      let d = loaded m (next_found p) (at_word p.trial.table NEXT) m2 end s in
      as_was d.2 (always_ends (On m) (value_at m) (next_read p d.0) end (always_if (On m) (d.0 == 0) _ _ (last_met m p all p.missing) (λ value. on_met m p _)) d.3)

  -- the next table is made
  module _ (n : NewTable) where
    abbrev MakesSo : Making → Type 0
    MakesSo x = Steps Took value_at m (plan_as (next_made p) (making.plan_at n x)) m2 end

    module _ (before : Table) (reason : Reason) (sum : Sum) where
      same_memory : (x : Summing) (b : Sum × Advance ℕ) → Steps Took value_at m (summing.plan_at {T = Node K V} sum x) m2 b → m2 ≡ m
      same_memory (sums.Adds shard so_far) b s = (loaded m (summing.added sum shard so_far) (names.Word sum.setting.counter shard) m2 b s).2
      same_memory (sums.Over count) b s = s.0

      at_sums : MetMaking m p (makes.Sums before reason sum) → MakesSo (makes.Sums before reason sum) → So
      at_sums met s =
          let told = steps_back (next_made p) m m2 (plan_as (making.counted n before reason) (summing.sum_plan sum)) end s in
          let counts = steps_back (making.counted n before reason) m m2 (summing.sum_plan sum) told.0 told.1 in
          as_was (same_memory sum.stands counts.0 counts.1)
          (subst (λ (e : KeyCall K V Q × Called (Node K V)). On m e) (sym told.2)
          (subst (λ (e : NewTable × Advance Table). Inside m p e) (sym counts.2) (counting_met m p n before reason sum met counts.0)))

    nothing : (x : Making) → ((before : Table) (reason : Reason) (sum : Sum) → x ≢ makes.Sums before reason sum) → MetMaking m2 p x
    nothing (makes.Sums before reason sum) other = absurd (other before reason sum refl)
    nothing (makes.Makes table) other = tt
    nothing (makes.Promotes table) other = tt
    nothing (makes.Links table) other = tt
    nothing (makes.Drops table found) other = tt
    nothing (makes.Over table) other = tt
    nothing (makes.Refused fault) other = tt

    at_others : ((before : Table) (reason : Reason) (sum : Sum) → n.stands ≢ makes.Sums before reason sum) → MakesSo n.stands → So
    at_others other s =
        let told = steps_back (next_made p) m m2 (making.plan_at n n.stands) end s in
        subst (λ (e : KeyCall K V Q × Called (Node K V)). On m2 e) (sym told.2)
        (always_steps (Inside m2 p) m m2 (making.plan_at n n.stands) told.0 (making_met m2 p n (nothing n.stands other) n.stands other) told.1)

    at_allocs : MetMaking m p n.stands → MakesSo n.stands → So
    at_allocs met s = by n.stands refl
      where
        by : (x : Making) → n.stands ≡ x → So
        by (makes.Sums before reason sum) e = at_sums before reason sum (subst (MetMaking m p) e met) (subst MakesSo e s)
        by (makes.Makes table) e = at_others (λ before reason sum is. absurd (cc (e, is))) s
        by (makes.Promotes table) e = at_others (λ before reason sum is. absurd (cc (e, is))) s
        by (makes.Links table) e = at_others (λ before reason sum is. absurd (cc (e, is))) s
        by (makes.Drops table found) e = at_others (λ before reason sum is. absurd (cc (e, is))) s
        by (makes.Over table) e = at_others (λ before reason sum is. absurd (cc (e, is))) s
        by (makes.Refused fault) e = at_others (λ before reason sum is. absurd (cc (e, is))) s

  -- where nothing is to be known
  module _ (self : On m2 (p, called.Goes)) where
    on_made : (node : Option (Node K V)) → AlwaysOf (On m2) (makes_of p node)
    on_made None = tt
    on_made (Some node) = by
      where
        by : (out : Out (Node K V)) → Always (On m2) (made p out)
        by (Made (Ok block)) = tt
        by (Made (Err back)) = tt
        by (Found word) = self
        by Stored = self
        by (Exchanged r) = self
        by (Taken value) = self
        by (Roomed r) = self

    on_looks : (l : Lookup) (asked : Option Q) → AlwaysOf (On m2) (looks_for asks p l asked)
    on_looks l (Some q) = always_plan_as (On m2) (looked p) (looked_met m2 p) (lookup_plan (asks q) l)
    on_looks l None = tt

    on_root : (out : Out (Node K V)) → Always (On m2) (root_found p out)
    on_root (Found link) = always_if (On m2) (link == 0) _ _ (tableless_met m2 p.missing p) (λ value. entering_met m2 p (table_seen link value))
    on_root Stored = self
    on_root (Exchanged r) = self
    on_root (Made r) = self
    on_root (Taken value) = self
    on_root (Roomed r) = self

    on_dropped : (over : End) (out : Out (Node K V)) → Always (On m2) (dropped p over out)
    on_dropped over (Taken value) = tt
    on_dropped over (Found found) = self
    on_dropped over Stored = self
    on_dropped over (Exchanged r) = self
    on_dropped over (Made r) = self
    on_dropped over (Roomed r) = self

  steps_meet : (IsTrying p.stands → AtSpot p) → ((asking : Asking) → p.stands ≢ at.Asks asking) → MetAt m p p.stands → Stepped p.stands → So
  steps_meet tries never met s = by p.stands refl tries met s
    where
      self : (stands : Calling) → p.stands ≡ stands → MetAt m2 p stands → On m2 (p, called.Goes)
      self stands is so = subst (MetAt m2 p) (sym is) so

      whole : (stands : Calling) → AlwaysOf (On m2) (plan_at asks same hash p stands) → Stepped stands → So
      whole stands all st = always_steps (On m2) m m2 (plan_at asks same hash p stands) end all st

      by : (stands : Calling) → p.stands ≡ stands → (IsTrying stands → AtSpot p) → MetAt m p stands → Stepped stands → So
      by at.Makes is try had st = whole at.Makes (on_made (self at.Makes is tt) p.unmade) st
      by (at.Looks l) is try had st = whole (at.Looks l) (on_looks (self (at.Looks l) is tt) l p.asked) st
      by at.Roots is try had st = whole at.Roots (on_root (self at.Roots is tt)) st
      by at.Probes is try had st = at_probes (try tt) had st
      by (at.Tries word new) is try had st = at_tries word new (try tt) had st
      by at.Nexts is try had st = at_nexts had st
      by (at.Firsts n) is try had st = whole (at.Firsts n) (always_plan_as (On m2) (first_made p) (first_met m2 p) (new_table_plan n)) st
      by (at.Allocs n) is try had st = at_allocs n had st
      by (at.Helps copier goal) is try had st = whole (at.Helps copier goal) (always_plan_as (On m2) (helped p goal) (helped_met m2 p goal) (copier_plan hash copier)) st
      by (at.Copies copier) is try had st = whole (at.Copies copier) (always_plan_as (On m2) (copied p) (copied_met m2 p) (copier_plan hash copier)) st
      by (at.Counts removed) is try had st = whole (at.Counts removed) (λ out. counted_met m2 p removed) st
      by (at.Asks asking) is try had st = absurd (never asking is)
      by (at.Disposes d answer) is try had st = whole (at.Disposes d answer) (always_plan_as (On m2) (disposed p answer) (disposed_met m2 p answer) (dispose_plan d)) st
      by (at.Drops over) is try had st = whole (at.Drops over) (on_dropped (self (at.Drops over) is tt) over) st
      by (at.Over over) is try had st = whole (at.Over over) (self (at.Over over) is tt) st

pub calls_meet_pairs : {K Q : Type 0} (V : Type 0) (same : K → K → Bool) (hash : K → ℕ) (asks : Q → K → Bool) → CallsMeetPairs V same hash asks
calls_meet_pairs V same hash asks m m2 c blocks p end tries never met s =
    steps_meet asks same hash m m2 p end (λ trying. at_spot_of c blocks p (tries trying)) never met s
