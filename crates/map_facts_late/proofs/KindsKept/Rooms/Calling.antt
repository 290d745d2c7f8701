-- A call on one key is refused for the length of a table only where none can follow one of its map: so it is at each of its points, and by what it is told.
use Rattle.std.specs.Prelude.{◌≡◌, ℕ, ◌==◌, Bool, true, false, Option, Some, None, Ok, Err, if◌then◌else◌}
use Rattle.std.proofs.Common.{refl, sym, subst, ap, ◌∙◌, eqb-true, arith}
use Rattle.map_facts.specs.Given.SeizeWordsMem.{Mem, value_at, Took}
use Rattle.map_facts.specs.Given.SeizeWordsOp.{Out, Found, Stored, Exchanged, Made, Taken, Roomed}
use Rattle.map_facts.specs.Given.SeizeWordsPlan.{Steps}
use Rattle.map_facts.specs.Given.SeizeWordsWord.{block_in}
use Rattle.map_facts.specs.Given.SeizeWordsDeclared.fault.Fault.{Fault}
use Rattle.map_facts.specs.Given.SeizeWordsDeclared.fault.Fault.TheVariants.{Memory, RemoveNothing}
use Rattle.map_facts.specs.Given.SeizeDeclared.advance.Advance.{Advance as Counting}
use Rattle.map_facts.specs.Given.SeizeDeclared.advance.Advance.TheVariants as progress
use Rattle.map_facts.specs.Given.SeizeDeclared.rows.settle.Settled.{Settled}
use Rattle.map_facts.specs.Given.SeizeDeclared.rows.settle.Settled.TheVariants as settled
use Rattle.map_facts.proofs.Given.SeizeWordsOneOwner.Operations.{loaded}
use Rattle.map_facts.proofs.Given.SeizeRuleRows.Leaving.{steps_back}
use Rattle.map_facts.specs.Given.TablesChunks.{is_incremental}
use Rattle.map_facts.specs.Given.TablesFinding.{finding, may_name}
use Rattle.map_facts.specs.Given.TablesTablePlaces.{at_word}
use Rattle.map_facts.specs.Given.TablesTrials.{found_full, next_trial, with_met}
use Rattle.map_facts.specs.Given.TablesDeclared.finding.Finding.{Finding}
use Rattle.map_facts.specs.Given.TablesDeclared.finding.Finding.TheVariants as finds
use Rattle.map_facts.specs.Given.TablesDeclared.lengths.Reason.{Reason}
use Rattle.map_facts.specs.Given.TablesDeclared.lengths.TheConstants.{FIRST_LEN}
use Rattle.map_facts.specs.Given.TablesDeclared.marks.TheConstants.{TOMBSTONE}
use Rattle.map_facts.specs.Given.TablesDeclared.node.Node.{Node}
use Rattle.map_facts.specs.Given.TablesDeclared.node.Node.TheVariants as node
use Rattle.map_facts.specs.Given.TablesDeclared.table.Table.{Table}
use Rattle.map_facts.specs.Given.TablesDeclared.table_words.TheConstants.{NEXT}
use Rattle.map_facts.specs.Given.ResizeCopier.{copier_plan}
use Rattle.map_facts.specs.Given.ResizeCopierStates.{copying_all}
use Rattle.map_facts.specs.Given.ResizeDispose.{disposing, dispose_plan}
use Rattle.map_facts.specs.Given.ResizeLookup.{lookup_plan}
use Rattle.map_facts.specs.Given.ResizeNewTable.{first_table, new_table_plan}
use Rattle.map_facts.specs.Given.ResizeDeclared.copier.Copier.{Copier}
use Rattle.map_facts.specs.Given.ResizeDeclared.dispose.Dispose.{Dispose}
use Rattle.map_facts.specs.Given.ResizeDeclared.lookup.Lookup.{Lookup}
use Rattle.map_facts.specs.Given.ResizeDeclared.new_table.NewTable.{NewTable}
use Rattle.map_facts.specs.Given.ResizeDeclared.yielding.Yielding.{Yielding}
use Rattle.map_facts.specs.Given.ResizeDeclared.yielding.Yielding.TheVariants as outcome
use Rattle.map_facts.specs.Given.RawCall.{call_plan, made, makes_of, root_found, next_found, dropped, key_read, pair_read, word_read, word_found, tried, looked, looks_for, first_made, next_made, disposed, helped, copied}
use Rattle.map_facts.specs.Given.RawCall as calls
use Rattle.map_facts.specs.Given.RawCallAsks.{absent_replied, present_replied, replied_at, with_absent, with_present}
use Rattle.map_facts.specs.Given.RawCallFills.{emptied, fill_by, filled, fills_with, given_up, putting_by}
use Rattle.map_facts.specs.Given.RawCallPoints.{aim_of, asking_at, asking_of, at_free, at_gap, at_last, at_pair, burying, changed, counted, ending, entering, full_for, following_made, gap_by, going, having_met, over, pair_by, standing, storing, tableless, told, after_finding, continued_in}
use Rattle.map_facts.specs.Given.RawReplies.{as_own, value_for}
use Rattle.map_facts.specs.Given.RawDeclared.machines.answer.Called.{Called}
use Rattle.map_facts.specs.Given.RawDeclared.machines.answer.Called.TheVariants as called
use Rattle.map_facts.specs.Given.RawDeclared.machines.answer.End.{End}
use Rattle.map_facts.specs.Given.RawDeclared.machines.answer.End.TheVariants as ends
use Rattle.map_facts.specs.Given.RawDeclared.machines.answer.KeyAnswer.{KeyAnswer}
use Rattle.map_facts.specs.Given.RawDeclared.machines.answer.KeyAnswer.TheVariants as answers
use Rattle.map_facts.specs.Given.RawDeclared.machines.answer.Missing.{Missing}
use Rattle.map_facts.specs.Given.RawDeclared.machines.answer.Missing.TheVariants as missing
use Rattle.map_facts.specs.Given.RawDeclared.machines.answer.There.{There}
use Rattle.map_facts.specs.Given.RawDeclared.machines.answer.There.TheVariants as there
use Rattle.map_facts.specs.Given.RawDeclared.machines.asking.Asking.TheVariants as asking
use Rattle.map_facts.specs.Given.RawDeclared.machines.asking.Gap.{Gap}
use Rattle.map_facts.specs.Given.RawDeclared.machines.asking.Gap.TheVariants as gaps
use Rattle.map_facts.specs.Given.RawDeclared.machines.asking.MachineReply.{MachineReply}
use Rattle.map_facts.specs.Given.RawDeclared.machines.asking.MachineReply.TheVariants as reply
use Rattle.map_facts.specs.Given.RawDeclared.machines.asking.Takes.{Takes}
use Rattle.map_facts.specs.Given.RawDeclared.machines.asking.Takes.TheVariants as takes
use Rattle.map_facts.specs.Given.RawDeclared.machines.asking.Told.{Told}
use Rattle.map_facts.specs.Given.RawDeclared.machines.asking.Told.TheVariants as tells
use Rattle.map_facts.specs.Given.RawDeclared.machines.call.Calling.{Calling}
use Rattle.map_facts.specs.Given.RawDeclared.machines.call.Calling.TheVariants as at
use Rattle.map_facts.specs.Given.RawDeclared.machines.call.KeyCall.{KeyCall}
use Rattle.map_facts.proofs.Calls.Asked.{passed_so}
use Rattle.map_facts.proofs.Given.RuleKeys.Always.{Always, AlwaysOf, always_ends, always_if, always_steps}
use Rattle.map_facts_late.specs.Ends.{IsLastFor, EndsInCalling}
use Rattle.map_facts_late.specs.Faults.{AnyTable, CallRefusesSo, SoInCalling, HoldsInCalling, HoldsInMaking}
use Rattle.map_facts_late.proofs.KindsKept.Calls.Kept.{LooksOn, looks_on}
use Rattle.map_facts_late.proofs.KindsKept.Rooms.Copying.{CopiesAs, copier_as}
use Rattle.map_facts_late.proofs.KindsKept.Rooms.Making.{MakesAs, always_where, first_table_as, new_table_as, table_full_as}
use Rattle.map_facts_late.proofs.KindsKept.Rooms.Reserving.{copying_as}

-- where a call stands, in the table of its try
module _ (Is : Fault → Type 0) (Last : Table → Reason → Type 0) where
  abbrev pub IsSoAt : {K V Q : Type 0} → KeyCall K V Q → Type 0
  IsSoAt p = HoldsInCalling Is Last p.trial.table p.stands

  -- it is so, and what it tells
  abbrev pub CallsAs : {K V Q : Type 0} → KeyCall K V Q × Called (Node K V) → Type 0
  CallsAs end = IsSoAt end.0 × CallRefusesSo Is end.1

  -- at its end, where it asks about a pair for a table behind, its table is such a one
  abbrev pub GapSo : Table → Gap → Type 0
  GapSo table gaps.Last = IsLastFor Is Last table
  GapSo table _ = Unit {0}

  gap_stands : (table : Table) (gap : Gap) → HoldsInCalling Is Last table (at.Asks (asking.Absent gap)) → GapSo table gap
  gap_stands table gaps.NoTable so = tt
  gap_stands table gaps.Free so = tt
  gap_stands table gaps.Past so = tt
  gap_stands table gaps.Last so = so

  stands_gap : (table : Table) (gap : Gap) → GapSo table gap → HoldsInCalling Is Last table (at.Asks (asking.Absent gap))
  stands_gap table gaps.NoTable so = tt
  stands_gap table gaps.Free so = tt
  stands_gap table gaps.Past so = tt
  stands_gap table gaps.Last so = so

  abbrev EndsFor : End → Type 0
  EndsFor (ends.Refused fault) = Is fault
  EndsFor (ends.Answered answer) = Unit {0}

  -- where it goes on from a point
  module _ {K V Q : Type 0} (p : KeyCall K V Q) where
    abbrev So : KeyCall K V Q × Called (Node K V) → Type 0
    So end = CallsAs end

    either : (b : Bool) (x y : KeyCall K V Q × Called (Node K V)) → So x → So y → So (if b then x else y)
    either true x y f g = f
    either false x y f g = g

    over_as : (end : End) → EndsFor end → So (over p end)
    over_as (ends.Answered answer) so = (tt, tt)
    over_as (ends.Refused fault) so = (so, so)

    drops_as : (end : End) → EndsFor end → So (going p (at.Drops end))
    drops_as (ends.Answered answer) so = (tt, tt)
    drops_as (ends.Refused fault) so = (so, tt)

    pub ending_as : (end : End) → EndsFor end → So (ending p end)
    ending_as end so = either (p.own == 0) (over p end) (going p (at.Drops end)) (over_as end so) (drops_as end so)

    following_as : IsLastFor Is Last p.trial.table → So (following_made p)
    following_as last = (table_full_as Is Last p.setting p.trial.table p.trial.met (found_full p.trial).most (last (full_for p.trial) tt), tt)

    -- its first table is not too long
    firsts_as : HoldsInMaking Is Last (first_table p.setting FIRST_LEN).stands
    firsts_as = first_table_as Is Last p.setting FIRST_LEN (λ more. absurd (omega (arith, more)))

    storing_as : (t : Told V) (word : ℕ) → So (storing t p word)
    storing_as tells.Own word = (tt, tt)
    storing_as _ word = (tt, tt)

    pub burying_as : (word : ℕ) → So (burying p word)
    burying_as word = either (p.own == 0) (going p (at.Tries word TOMBSTONE)) (going p (at.Asks (asking.GivesUp word))) (tt, tt) (tt, tt)

    pub gap_as : (gap : Gap) → GapSo p.trial.table gap → So (at_gap gap p)
    gap_as gaps.NoTable so = (firsts_as, tt)
    gap_as gaps.Free so = storing_as p.replies.absent 0
    gap_as gaps.Past so = (tt, tt)
    gap_as gaps.Last so = following_as so

    asking_as : (gap : Gap) → GapSo p.trial.table gap → So (asking_at gap p)
    asking_as gap so = by p.replies.absent
      where
        by : (t : Told V) → So (gap_by t gap p)
        by tells.Nothing = (stands_gap p.trial.table gap so, tt)
        by (tells.Value value) = gap_as gap so
        by tells.Own = gap_as gap so
        by tells.Removes = gap_as gap so

    asking_of_as : (word : ℕ) → So (asking_of p word)
    asking_of_as word = either (block_in word == p.replies.pair) (pair_by p.replies.present p word) (pair_by tells.Nothing p word) (by p.replies.present) (tt, tt)
      where
        by : (t : Told V) → So (pair_by t p word)
        by tells.Nothing = (tt, tt)
        by (tells.Value value) = storing_as (tells.Value value) word
        by tells.Own = storing_as tells.Own word
        by tells.Removes = burying_as word

    absent_as : So (ending p (ends.Answered answers.Absent))
    absent_as = ending_as (ends.Answered answers.Absent) tt

    tableless_as : (m : Missing) → So (tableless m p)
    tableless_as missing.Answers = absent_as
    tableless_as missing.Puts = (firsts_as, tt)
    tableless_as missing.Asks = asking_as gaps.NoTable tt

    free_as : (m : Missing) → So (at_free m p)
    free_as missing.Answers = absent_as
    free_as missing.Puts = (tt, tt)
    free_as missing.Asks = asking_as gaps.Free tt

    last_as : IsLastFor Is Last p.trial.table → (m : Missing) → So (at_last m p)
    last_as last missing.Answers = either (is_incremental p.setting.mode) (ending p (ends.Answered answers.Absent)) (following_made p) absent_as (following_as last)
    last_as last missing.Puts = following_as last
    last_as last missing.Asks = either (is_incremental p.setting.mode) (asking_at gaps.Last p) (following_made p) (asking_as gaps.Last last) (following_as last)

    pair_as : (t : There) (word : ℕ) → So (at_pair t p word)
    pair_as there.Answers word = ending_as (ends.Answered (answers.Found word)) tt
    pair_as there.Puts word = (tt, tt)
    pair_as there.Removes word = (tt, tt)
    pair_as there.Asks word = asking_of_as word

    told_as : (loaded : Bool) (word : ℕ) (named : Bool) → So (told loaded p word named)
    told_as loaded word named = by (finding p.setting.mode (aim_of p.missing) word named)
      where
        by : (found : Finding) → So (after_finding loaded p word found)
        by finds.Free = free_as p.missing
        by finds.Passed =
            passed_so So (having_met p word) (λ next. (tt, tt)) (tt, tt)
            (λ e. either (p.own == 0) (over (having_met p word) (ends.Answered answers.Absent)) (going (having_met p word) (at.Drops (ends.Answered answers.Absent))) (tt, tt) (tt, tt))
            (λ e untold. (tt, tt)) (next_trial (with_met p.trial word))
        by finds.Moved = (tt, tt)
        by finds.Copying = either loaded (standing p at.Probes, called.Waits) (going p at.Probes) (tt, tt) (tt, tt)
        by finds.There = pair_as p.there word

    on_as : (table : Table) → So (continued_in p table)
    on_as table =
        either (is_incremental p.setting.mode) _ (going p (at.Copies (copying_all p.setting p.trial.table table))) (either p.helped (entering p table) _ (tt, tt) (tt, tt))
        (copying_as Is Last p.setting p.trial.table table, tt)

    changed_as : (word new : ℕ) → So (changed p word new)
    changed_as word new =
        either (new == TOMBSTONE) (going p (at.Counts word)) _ (tt, tt)
        (either (word == 0) (going p (at.Counts 0)) (going p (at.Disposes (disposing p.setting word p.trial.table) (answers.Replaced word p.own))) (tt, tt) (tt, tt))

    pub counted_as : (removed : ℕ) → So (counted p removed)
    counted_as removed =
        either (removed == 0) (over p (ends.Answered (answers.Stored p.own))) (going p (at.Disposes (disposing p.setting removed p.trial.table) (answers.Removed removed))) (tt, tt) (tt, tt)

    -- what machines within it tell
    pub looked_as : (end : Lookup × Counting (Option ℕ)) → LooksOn end → So (looked p end)
    looked_as (l, progress.Goes) on = (tt, tt)
    looked_as (l, progress.Waits) on = (tt, tt)
    looked_as (l, progress.Done (Some found)) on = (tt, tt)
    looked_as (l, progress.Done None) on = (tt, tt)
    looked_as (l, progress.Refused fault) on = absurd on

    pub first_as : (end : NewTable × Counting Table) → MakesAs Is Last end → So (first_made p end)
    first_as (n, progress.Goes) so = (so, tt)
    first_as (n, progress.Waits) so = (so, tt)
    first_as (n, progress.Done table) so = (tt, tt)
    first_as (n, progress.Refused fault) so = ending_as (ends.Refused fault) so.1

    pub next_as : (end : NewTable × Counting Table) → MakesAs Is Last end → So (next_made p end)
    next_as (n, progress.Goes) so = (so, tt)
    next_as (n, progress.Waits) so = (so, tt)
    next_as (n, progress.Done table) so = on_as table
    next_as (n, progress.Refused fault) so = ending_as (ends.Refused fault) so.1

    pub helped_as : (goal : Table) (end : Copier × Yielding (Node K V) Table) → CopiesAs Is Last end → So (helped p goal end)
    helped_as goal (copier, outcome.Goes) so = (so.0, tt)
    helped_as goal (copier, outcome.Waits) so = (so.0, tt)
    helped_as goal (copier, outcome.Gave value) so = (so.0, tt)
    helped_as goal (copier, outcome.Done table) so = (tt, tt)
    helped_as goal (copier, outcome.Refused fault) so = ending_as (ends.Refused fault) so.1

    pub copied_as : (end : Copier × Yielding (Node K V) Table) → CopiesAs Is Last end → So (copied p end)
    copied_as (copier, outcome.Goes) so = (so.0, tt)
    copied_as (copier, outcome.Waits) so = (so.0, tt)
    copied_as (copier, outcome.Gave value) so = (so.0, tt)
    copied_as (copier, outcome.Done table) so = (tt, tt)
    copied_as (copier, outcome.Refused fault) so = ending_as (ends.Refused fault) so.1

    pub disposed_as : (answer : KeyAnswer) (end : Dispose × Settled (Node K V)) → So (disposed p answer end)
    disposed_as answer (d, settled.Goes) = (tt, tt)
    disposed_as answer (d, settled.Waits) = (tt, tt)
    disposed_as answer (d, settled.Gave value) = (tt, tt)
    disposed_as answer (d, settled.Done) = (tt, tt)

    -- what each operation's answer leads to
    module _ (asks : Q → K → Bool) (same : K → K → Bool) (here : IsSoAt p) where
      stays : So (p, called.Goes)
      stays = (here, tt)

      pub on_dropped : (end : End) → EndsFor end → (out : Out (Node K V)) → Always So (dropped p end out)
      on_dropped (ends.Answered answer) so (Taken value) = (tt, tt)
      on_dropped (ends.Refused fault) so (Taken value) = (so, tt)
      on_dropped end so (Found found) = stays
      on_dropped end so Stored = stays
      on_dropped end so (Exchanged r) = stays
      on_dropped end so (Made r) = stays
      on_dropped end so (Roomed r) = stays

      pub on_root : (out : Out (Node K V)) → Always So (root_found p out)
      on_root (Found link) = always_if So (link == 0) _ _ (tableless_as p.missing) (λ value. (tt, tt))
      on_root Stored = stays
      on_root (Exchanged r) = stays
      on_root (Made r) = stays
      on_root (Taken value) = stays
      on_root (Roomed r) = stays

      pub on_next : (out : Out (Node K V)) → (out ≡ Found 0 → IsLastFor Is Last p.trial.table) → Always So (next_found p out)
      on_next (Found link) last = always_where So (link == 0) _ _ (λ none. last_as (last (ap (λ (x : ℕ). Found x) (eqb-true link 0 none))) p.missing) (λ value. on_as _)
      on_next Stored last = stays
      on_next (Exchanged r) last = stays
      on_next (Made r) last = stays
      on_next (Taken value) last = stays
      on_next (Roomed r) last = stays

      on_key : (loaded : Bool) (word : ℕ) (key : Option K) → Always So (key_read asks same loaded p word key)
      on_key loaded word (Some key) = λ value. told_as loaded word _
      on_key loaded word None = λ own value. told_as loaded word _

      on_pair : (loaded : Bool) (word : ℕ) (asked : Option Q) → Always So (pair_read asks same loaded p word asked)
      on_pair loaded word (Some q) = λ value. told_as loaded word _
      on_pair loaded word None = on_key loaded word p.replies.key

      on_word : (loaded : Bool) (word : ℕ) → Always So (word_read asks same loaded p word)
      on_word loaded word = always_if So (may_name p.hash word) _ _ (on_pair loaded word p.asked) (told_as loaded word false)

      pub on_found : (out : Out (Node K V)) → Always So (word_found asks same p out)
      on_found (Found word) = on_word true word
      on_found Stored = stays
      on_found (Exchanged r) = stays
      on_found (Made r) = stays
      on_found (Taken value) = stays
      on_found (Roomed r) = stays

      pub on_tried : (word new : ℕ) (out : Out (Node K V)) → Always So (tried asks same p word new out)
      on_tried word new (Exchanged (Ok found)) = changed_as word new
      on_tried word new (Exchanged (Err found)) = on_word false found
      on_tried word new (Found found) = stays
      on_tried word new Stored = stays
      on_tried word new (Made r) = stays
      on_tried word new (Taken value) = stays
      on_tried word new (Roomed r) = stays

      pub on_emptied : (word : ℕ) (out : Out (Node K V)) → Always So (emptied p word out)
      on_emptied word (Taken (node.Pair key value)) = (tt, tt)
      on_emptied word (Taken (node.Table a b c)) = (tt, tt)
      on_emptied word (Taken node.Shards) = (tt, tt)
      on_emptied word (Found found) = (tt, tt)
      on_emptied word Stored = (tt, tt)
      on_emptied word (Exchanged r) = (tt, tt)
      on_emptied word (Made r) = (tt, tt)
      on_emptied word (Roomed r) = (tt, tt)

      pub on_given_up : (word : ℕ) (out : Out (Node K V)) → Always So (given_up p word out)
      on_given_up word (Taken (node.Pair key value)) = (tt, tt)
      on_given_up word (Taken (node.Table a b c)) = (tt, tt)
      on_given_up word (Taken node.Shards) = (tt, tt)
      on_given_up word (Found found) = stays
      on_given_up word Stored = stays
      on_given_up word (Exchanged r) = stays
      on_given_up word (Made r) = stays
      on_given_up word (Roomed r) = stays

      -- its own pair has a block, or is refused for memory
      pub on_filled : (word : ℕ) (out : Out (Node K V)) → ((back : Node K V) → out ≡ Made (Err back) → Is Memory) → Always So (filled p word out)
      on_filled word (Made (Ok block)) short = (tt, tt)
      on_filled word (Made (Err back)) short = (short back refl, tt)
      on_filled word (Taken value) short = (tt, tt)
      on_filled word (Found found) short = stays
      on_filled word Stored short = stays
      on_filled word (Exchanged r) short = stays
      on_filled word (Roomed r) short = stays

      pub on_made : (out : Out (Node K V)) → ((back : Node K V) → out ≡ Made (Err back) → Is Memory) → Always So (made p out)
      on_made (Made (Ok block)) short = (tt, tt)
      on_made (Made (Err back)) short = (short back refl, tt)
      on_made (Found found) short = stays
      on_made Stored short = stays
      on_made (Exchanged r) short = stays
      on_made (Taken value) short = stays
      on_made (Roomed r) short = stays

-- of a call that goes on with what it was told
module _ (Is : Fault → Type 0) (Last : Table → Reason → Type 0) (nothing : Is RemoveNothing) {K V Q : Type 0} where
  absent_told_as : (t : Takes) (p : KeyCall K V Q) → IsSoAt Is Last p → (gap : Gap) → GapSo Is Last p.trial.table gap → (r : MachineReply V) → IsSoAt Is Last (absent_replied t p gap r).0
  absent_told_as takes.Values p here gap so (reply.Insert value) = (gap_as Is Last (with_absent p value) gap so).0
  absent_told_as takes.Changes p here gap so (reply.Insert value) = (gap_as Is Last (with_absent p value) gap so).0
  absent_told_as takes.Changes p here gap so reply.Remove = (ending_as Is Last p (ends.Refused RemoveNothing) nothing).0
  absent_told_as takes.Changes p here gap so reply.Abort = (ending_as Is Last p (ends.Answered answers.Absent) tt).0
  absent_told_as takes.Changes p here gap so reply.Yes = here
  absent_told_as takes.Changes p here gap so reply.No = here
  absent_told_as takes.Values p here gap so reply.Remove = here
  absent_told_as takes.Values p here gap so reply.Abort = here
  absent_told_as takes.Values p here gap so reply.Yes = here
  absent_told_as takes.Values p here gap so reply.No = here
  absent_told_as takes.Nothing p here gap so r = here
  absent_told_as takes.Choices p here gap so r = here

  present_told_as : (t : Takes) (p : KeyCall K V Q) → IsSoAt Is Last p → (word : ℕ) (r : MachineReply V) → IsSoAt Is Last (present_replied t p word r).0
  present_told_as takes.Values p here word (reply.Insert value) = tt
  present_told_as takes.Changes p here word (reply.Insert value) = tt
  present_told_as takes.Changes p here word reply.Remove = (burying_as Is Last (with_present p word tells.Removes) word).0
  present_told_as takes.Changes p here word reply.Abort = (ending_as Is Last p (ends.Answered (answers.Found word)) tt).0
  present_told_as takes.Choices p here word reply.Yes = (burying_as Is Last p word).0
  present_told_as takes.Choices p here word reply.No = (ending_as Is Last p (ends.Answered (answers.Found word)) tt).0
  present_told_as takes.Values p here word reply.Remove = here
  present_told_as takes.Values p here word reply.Abort = here
  present_told_as takes.Values p here word reply.Yes = here
  present_told_as takes.Values p here word reply.No = here
  present_told_as takes.Changes p here word reply.Yes = here
  present_told_as takes.Changes p here word reply.No = here
  present_told_as takes.Choices p here word (reply.Insert value) = here
  present_told_as takes.Choices p here word reply.Remove = here
  present_told_as takes.Choices p here word reply.Abort = here
  present_told_as takes.Nothing p here word r = here

  told_at_as : (stands : Calling) (p : KeyCall K V Q) → IsSoAt Is Last p → HoldsInCalling Is Last p.trial.table stands → (r : MachineReply V) → IsSoAt Is Last (replied_at stands p r).0
  told_at_as (at.Asks (asking.Absent gap)) p here so r = absent_told_as p.replies.takes p here gap (gap_stands Is Last p.trial.table gap so) r
  told_at_as (at.Asks (asking.Present word)) p here so r = present_told_as p.replies.takes p here word r
  told_at_as _ p here so r = here

  pub key_told_as : (p : KeyCall K V Q) → IsSoAt Is Last p → (r : MachineReply V) → IsSoAt Is Last (replied_at p.stands p r).0
  key_told_as p here r = told_at_as p.stands p here here r

-- The promise: each step leads to a point that is so, and a refusal is so.
module _ (Is : Fault → Type 0) (Last : Table → Reason → Type 0) (short : Is Memory) {K V Q : Type 0} (asks : Q → K → Bool) (same : K → K → Bool) (hash : K → ℕ) (p : KeyCall K V Q) (here : IsSoAt Is Last p)
    (m m2 : Mem (Node K V)) (end : KeyCall K V Q × Called (Node K V)) where
  abbrev Comes : KeyCall K V Q × Called (Node K V) → Type 0
  Comes x = CallsAs Is Last x

  so_of : (stands : Calling) → AlwaysOf Comes (calls.plan_at asks same hash p stands) → Steps Took value_at m (calls.plan_at asks same hash p stands) m2 end → Comes end
  so_of stands always s = always_steps Comes m m2 (calls.plan_at asks same hash p stands) end always s

  makes_as : (o : Option (Node K V)) → AlwaysOf Comes (makes_of p o)
  makes_as None = (tt, tt)
  makes_as (Some value) = λ out. on_made Is Last p asks same here out (λ back is. short)

  looks_as : (lookup : Lookup) (asked : Option Q) → Steps Took value_at m (looks_for asks p lookup asked) m2 end → Comes end
  looks_as lookup (Some q) s =
      let d = steps_back (looked p) m m2 (lookup_plan (asks q) lookup) end s in subst Comes (sym d.2) (looked_as Is Last p d.0 (looks_on lookup (asks q) m m2 d.0 d.1))
  looks_as lookup None s = subst Comes (sym s.1) (tt, tt)

  -- of one that fills its own block, as it is then
  puts_as : (b : Bool) (q : KeyCall K V Q) → IsSoAt Is Last q → (word : ℕ) (key : K) (value : V) → AlwaysOf Comes (putting_by b q word key value)
  puts_as true q so word key value = λ out. on_filled Is Last q asks same so word out (λ back is. short)
  puts_as false q so word key value = λ out. on_filled Is Last q asks same so word out (λ back is. short)

  fill_as : (o : Option V) (q : KeyCall K V Q) → IsSoAt Is Last q → (word : ℕ) (key : K) → AlwaysOf Comes (fill_by o q word key)
  fill_as (Some value) q so word key = puts_as (q.own == 0) (record q { replies = record q.replies { key = None } }) so word key value
  fill_as None q so word key = (tt, tt)

  fills_as : (key : Option K) (word : ℕ) → AlwaysOf Comes (fills_with key p word)
  fills_as (Some key) word = fill_as (value_for p.replies word) (record p { replies = as_own p.replies word }) here word key
  fills_as None word = λ out. on_emptied Is Last p asks same here word out

  from : (stands : Calling) → HoldsInCalling Is Last p.trial.table stands → EndsInCalling Is Last m p.trial.table stands → Steps Took value_at m (calls.plan_at asks same hash p stands) m2 end → Comes end
  from at.Makes so bounds s = so_of at.Makes (makes_as p.unmade) s
  from (at.Looks lookup) so bounds s = looks_as lookup p.asked s
  from at.Roots so bounds s = so_of at.Roots (on_root Is Last p asks same here) s
  from at.Probes so bounds s = so_of at.Probes (on_found Is Last p asks same here) s
  from (at.Tries word new) so bounds s = so_of (at.Tries word new) (on_tried Is Last p asks same here word new) s
  from (at.Counts removed) so bounds s = so_of (at.Counts removed) (λ out. counted_as Is Last p removed) s
  from at.Nexts so bounds s =
      let d = loaded m (next_found p) (at_word p.trial.table NEXT) m2 end s in
      always_ends Comes (value_at m) (next_found p (Found d.0)) end
      (on_next Is Last p asks same here (Found d.0) (λ none. bounds (let zero : d.0 ≡ 0 = cc none in d.1 ∙ ap (λ (x : ℕ). Some x) zero))) d.3
  from (at.Firsts n) so bounds s =
      let d = steps_back (first_made p) m m2 (new_table_plan n) end s in subst Comes (sym d.2) (first_as Is Last p d.0 (new_table_as Is Last short n bounds so m m2 d.0 d.1))
  from (at.Allocs n) so bounds s =
      let d = steps_back (next_made p) m m2 (new_table_plan n) end s in subst Comes (sym d.2) (next_as Is Last p d.0 (new_table_as Is Last short n bounds so m m2 d.0 d.1))
  from (at.Helps copier goal) so bounds s =
      let d = steps_back (helped p goal) m m2 (copier_plan hash copier) end s in
      subst Comes (sym d.2) (helped_as Is Last p goal d.0 (copier_as Is Last short K V hash copier so m m2 d.0 bounds d.1))
  from (at.Copies copier) so bounds s =
      let d = steps_back (copied p) m m2 (copier_plan hash copier) end s in
      subst Comes (sym d.2) (copied_as Is Last p d.0 (copier_as Is Last short K V hash copier so m m2 d.0 bounds d.1))
  from (at.Asks (asking.Absent gap)) so bounds s = so_of (at.Asks (asking.Absent gap)) (here, tt) s
  from (at.Asks (asking.Present word)) so bounds s = so_of (at.Asks (asking.Present word)) (here, tt) s
  from (at.Asks (asking.Fills word)) so bounds s = so_of (at.Asks (asking.Fills word)) (fills_as p.replies.key word) s
  from (at.Asks (asking.GivesUp word)) so bounds s = so_of (at.Asks (asking.GivesUp word)) (on_given_up Is Last p asks same here word) s
  from (at.Disposes dispose answer) so bounds s =
      let d = steps_back (disposed p answer) m m2 (dispose_plan dispose) end s in subst Comes (sym d.2) (disposed_as Is Last p answer d.0)
  from (at.Drops (ends.Answered answer)) so bounds s = so_of (at.Drops (ends.Answered answer)) (on_dropped Is Last p asks same here (ends.Answered answer) tt) s
  from (at.Drops (ends.Refused fault)) so bounds s = so_of (at.Drops (ends.Refused fault)) (on_dropped Is Last p asks same here (ends.Refused fault) so) s
  from (at.Over (ends.Answered answer)) so bounds s = so_of (at.Over (ends.Answered answer)) (here, tt) s
  from (at.Over (ends.Refused fault)) so bounds s = so_of (at.Over (ends.Refused fault)) (here, so) s

  pub key_as : EndsInCalling Is Last m p.trial.table p.stands → Steps Took value_at m (call_plan asks same hash p) m2 end → CallsAs Is Last end
  key_as bounds s = from p.stands here bounds s

-- where any table is one of these
module _ (Is : Fault → Type 0) where
  pub so_of_stands : (table : Table) (stands : Calling) → HoldsInCalling Is AnyTable table stands → SoInCalling Is stands
  so_of_stands table (at.Firsts making) so = so
  so_of_stands table (at.Allocs making) so = so
  so_of_stands table (at.Helps copier goal) so = so
  so_of_stands table (at.Copies copier) so = so
  so_of_stands table (at.Drops (ends.Refused fault)) so = so
  so_of_stands table (at.Over (ends.Refused fault)) so = so
  so_of_stands table _ so = tt

  pub stands_of_so : (table : Table) (stands : Calling) → SoInCalling Is stands → HoldsInCalling Is AnyTable table stands
  stands_of_so table (at.Firsts making) so = so
  stands_of_so table (at.Allocs making) so = so
  stands_of_so table (at.Helps copier goal) so = so
  stands_of_so table (at.Copies copier) so = so
  stands_of_so table (at.Asks (asking.Absent gap)) so = stands_gap Is AnyTable table gap (any_gap gap)
    where
      any_gap : (gap : Gap) → GapSo Is AnyTable table gap
      any_gap gaps.Last = λ reason by_table. tt
      any_gap _ = tt
  stands_of_so table (at.Drops (ends.Refused fault)) so = so
  stands_of_so table (at.Over (ends.Refused fault)) so = so
  stands_of_so table _ so = tt
