-- The most that a call has met at tables which it found full, from one step to the next: it is no more where it finds the next one full that has no more.
use Rattle.std.specs.Prelude.{◌==◌, ◌-◌, nat_lt, Option, Some, None, Ok, Err, if◌then◌else◌}
use Rattle.std.proofs.Common.{◌≡◌, ◌≢◌, ℕ, ◌≤◌, Bool, true, false, refl, arith}
use Rattle.many_maps.specs.Given.SeizeWordsOp.{Out, Found, Stored, Exchanged, Made, Taken, Roomed}
use Rattle.many_maps.specs.Given.SeizeDeclared.advance.Advance.{Advance}
use Rattle.many_maps.specs.Given.SeizeDeclared.advance.Advance.TheVariants as progress
use Rattle.many_maps.specs.Given.SeizeDeclared.rows.settle.Settled.{Settled}
use Rattle.many_maps.specs.Given.SeizeDeclared.rows.settle.Settled.TheVariants as settled
use Rattle.many_maps.specs.Given.TablesChunks.{is_incremental}
use Rattle.many_maps.specs.Given.TablesFinding.{may_name}
use Rattle.many_maps.specs.Given.TablesProbes.{probe_after}
use Rattle.many_maps.specs.Given.TablesTrials.{with_met}
use Rattle.many_maps.specs.Given.TablesDeclared.finding.Finding.{Finding}
use Rattle.many_maps.specs.Given.TablesDeclared.finding.Finding.TheVariants as finds
use Rattle.many_maps.specs.Given.TablesDeclared.marks.TheConstants.{TOMBSTONE}
use Rattle.many_maps.specs.Given.TablesDeclared.node.Node.{Node}
use Rattle.many_maps.specs.Given.TablesDeclared.table.Table.{Table}
use Rattle.many_maps.specs.Given.ResizeCopier.{copier_plan}
use Rattle.many_maps.specs.Given.ResizeCopierStates.{copying_all, helping}
use Rattle.many_maps.specs.Given.ResizeDispose.{disposing, dispose_plan}
use Rattle.many_maps.specs.Given.ResizeLookup.{lookup_plan}
use Rattle.many_maps.specs.Given.ResizeNewTable.{new_table_plan}
use Rattle.many_maps.specs.Given.ResizeDeclared.copier.Copier.{Copier}
use Rattle.many_maps.specs.Given.ResizeDeclared.dispose.Dispose.{Dispose}
use Rattle.many_maps.specs.Given.ResizeDeclared.lookup.Lookup.{Lookup}
use Rattle.many_maps.specs.Given.ResizeDeclared.new_table.NewTable.{NewTable}
use Rattle.many_maps.specs.Given.ResizeDeclared.yielding.Yielding.{Yielding}
use Rattle.many_maps.specs.Given.ResizeDeclared.yielding.Yielding.TheVariants as outcome
use Rattle.many_maps.specs.Given.RawCall.{made, makes_of, root_found, next_found, dropped, key_read, pair_read, word_read, word_found, tried, looked, looks_for, first_made, next_made, disposed, helped, copied, plan_at, call_plan}
use Rattle.many_maps.specs.Given.RawCallPoints.{going, standing, over, ending, tableless, storing, at_gap, gap_by, at_free, following_made, at_last, at_pair, passed, after_finding, entering, continued_in, changed, counted, having_met}
use Rattle.many_maps.specs.Given.RawDeclared.machines.answer.Called.{Called}
use Rattle.many_maps.specs.Given.RawDeclared.machines.answer.Called.TheVariants as called
use Rattle.many_maps.specs.Given.RawDeclared.machines.answer.End.{End}
use Rattle.many_maps.specs.Given.RawDeclared.machines.answer.End.TheVariants as ends
use Rattle.many_maps.specs.Given.RawDeclared.machines.answer.KeyAnswer.{KeyAnswer}
use Rattle.many_maps.specs.Given.RawDeclared.machines.answer.KeyAnswer.TheVariants as answers
use Rattle.many_maps.specs.Given.RawDeclared.machines.answer.Missing.{Missing}
use Rattle.many_maps.specs.Given.RawDeclared.machines.answer.Missing.TheVariants as missing
use Rattle.many_maps.specs.Given.RawDeclared.machines.answer.There.{There}
use Rattle.many_maps.specs.Given.RawDeclared.machines.answer.There.TheVariants as there
use Rattle.many_maps.specs.Given.RawDeclared.machines.asking.Asking.{Asking}
use Rattle.many_maps.specs.Given.RawDeclared.machines.asking.Gap.{Gap}
use Rattle.many_maps.specs.Given.RawDeclared.machines.asking.Gap.TheVariants as gaps
use Rattle.many_maps.specs.Given.RawDeclared.machines.asking.Told.{Told}
use Rattle.many_maps.specs.Given.RawDeclared.machines.asking.Told.TheVariants as tells
use Rattle.many_maps.specs.Given.RawDeclared.machines.call.KeyCall.{KeyCall}
use Rattle.many_maps.specs.Given.RawDeclared.machines.call.Calling.{Calling}
use Rattle.many_maps.specs.Given.RawDeclared.machines.call.Calling.TheVariants as at
use Rattle.many_maps.proofs.Given.PointsCalls.Asked.{asking_of_so, beyond_so}
use Rattle.many_maps.proofs.Given.RuleKeys.Always.{Always, AlwaysOf, always_if, always_plan_as, always_steps}
use Rattle.owner_facts.specs.Alone.Met.{CallsPreserveMost}

module _ {K V Q : Type 0} (n : ℕ) where
  abbrev pub Few : KeyCall K V Q × Called (Node K V) → Type 0
  Few end = end.0.trial.most ≤ n

  either : (b : Bool) (x y : KeyCall K V Q × Called (Node K V)) → Few x → Few y → Few (if b then x else y)
  either true x y f g = f
  either false x y f g = g

  module _ (p : KeyCall K V Q) (few : p.trial.most ≤ n) where
    ending_few : (end : End) → Few (ending p end)
    ending_few end = either (p.own == 0) (over p end) (going p (at.Drops end)) few few

    storing_few : (told : Told V) (word : ℕ) → Few (storing told p word)
    storing_few tells.Nothing word = few
    storing_few (tells.Value value) word = few
    storing_few tells.Own word = few
    storing_few tells.Removes word = few

    following_few : p.trial.met ≤ n → Few (following_made p)
    following_few met = omega (arith, few, met)

    -- where the key is missing; behind the last table it was met no more than so often
    gap_few : (gap : Gap) → (gap ≡ gaps.Last → p.trial.met ≤ n) → Few (at_gap gap p)
    gap_few gaps.NoTable met = few
    gap_few gaps.Free met = storing_few p.replies.absent 0
    gap_few gaps.Past met = few
    gap_few gaps.Last met = following_few (met refl)

    told_gap_few : (told : Told V) (gap : Gap) → (gap ≡ gaps.Last → p.trial.met ≤ n) → Few (gap_by told gap p)
    told_gap_few tells.Nothing gap met = few
    told_gap_few (tells.Value value) gap met = gap_few gap met
    told_gap_few tells.Own gap met = gap_few gap met
    told_gap_few tells.Removes gap met = gap_few gap met

    tableless_few : (m : Missing) → Few (tableless m p)
    tableless_few missing.Answers = ending_few (ends.Answered answers.Absent)
    tableless_few missing.Puts = few
    tableless_few missing.Asks = told_gap_few p.replies.absent gaps.NoTable (λ is. absurd (cc is))

    free_few : (m : Missing) → Few (at_free m p)
    free_few missing.Answers = ending_few (ends.Answered answers.Absent)
    free_few missing.Puts = few
    free_few missing.Asks = told_gap_few p.replies.absent gaps.Free (λ is. absurd (cc is))

    last_few : p.trial.met ≤ n → (m : Missing) → Few (at_last m p)
    last_few met missing.Answers =
        either (is_incremental p.setting.mode) (ending p (ends.Answered answers.Absent)) (following_made p) (ending_few (ends.Answered answers.Absent)) (following_few met)
    last_few met missing.Puts = following_few met
    last_few met missing.Asks =
        either (is_incremental p.setting.mode) (gap_by p.replies.absent gaps.Last p) (following_made p) (told_gap_few p.replies.absent gaps.Last (λ is. met)) (following_few met)

    pair_few : (t : There) (word : ℕ) → Few (at_pair t p word)
    pair_few there.Answers word = ending_few (ends.Answered (answers.Found word))
    pair_few there.Puts word = few
    pair_few there.Removes word = few
    pair_few there.Asks word = asking_of_so Few p (λ other new. few) (λ asks_at. few) (λ asks_at asked. few) word

    on_few : (table : Table) → Few (continued_in p table)
    on_few table =
        either (is_incremental p.setting.mode) (if p.helped then entering p table else going (record p { helped = true }) (at.Helps (helping p.setting) table))
        (going p (at.Copies (copying_all p.setting p.trial.table table)))
        (either p.helped (entering p table) (going (record p { helped = true }) (at.Helps (helping p.setting) table)) few few) few

    changed_few : (word new : ℕ) → Few (changed p word new)
    changed_few word new =
        either (new == TOMBSTONE) (going p (at.Counts word)) _ few
        (either (word == 0) (going p (at.Counts 0)) (going p (at.Disposes (disposing p.setting word p.trial.table) (answers.Replaced word p.own))) few few)

    counted_few : (removed : ℕ) → Few (counted p removed)
    counted_few removed =
        either (removed == 0) (over p (ends.Answered (answers.Stored p.own))) (going p (at.Disposes (disposing p.setting removed p.trial.table) (answers.Removed removed))) few few

    -- what machines within it tell
    looked_few : (end : Lookup × Advance (Option ℕ)) → Few (looked p end)
    looked_few (l, progress.Goes) = few
    looked_few (l, progress.Waits) = few
    looked_few (l, progress.Done (Some found)) = few
    looked_few (l, progress.Done None) = few
    looked_few (l, progress.Refused fault) = few

    first_few : (end : NewTable × Advance Table) → Few (first_made p end)
    first_few (m, progress.Goes) = few
    first_few (m, progress.Waits) = few
    first_few (m, progress.Done table) = few
    first_few (m, progress.Refused fault) = ending_few (ends.Refused fault)

    next_few : (end : NewTable × Advance Table) → Few (next_made p end)
    next_few (m, progress.Goes) = few
    next_few (m, progress.Waits) = few
    next_few (m, progress.Done table) = on_few table
    next_few (m, progress.Refused fault) = ending_few (ends.Refused fault)

    helped_few : (goal : Table) (end : Copier × Yielding (Node K V) Table) → Few (helped p goal end)
    helped_few goal (copier, outcome.Goes) = few
    helped_few goal (copier, outcome.Waits) = few
    helped_few goal (copier, outcome.Gave value) = few
    helped_few goal (copier, outcome.Done table) = few
    helped_few goal (copier, outcome.Refused fault) = ending_few (ends.Refused fault)

    copied_few : (end : Copier × Yielding (Node K V) Table) → Few (copied p end)
    copied_few (copier, outcome.Goes) = few
    copied_few (copier, outcome.Waits) = few
    copied_few (copier, outcome.Gave value) = few
    copied_few (copier, outcome.Done table) = few
    copied_few (copier, outcome.Refused fault) = ending_few (ends.Refused fault)

    disposed_few : (answer : KeyAnswer) (end : Dispose × Settled (Node K V)) → Few (disposed p answer end)
    disposed_few answer (d, settled.Goes) = few
    disposed_few answer (d, settled.Waits) = few
    disposed_few answer (d, settled.Gave value) = few
    disposed_few answer (d, settled.Done) = few

  -- at a try
  module _ (p : KeyCall K V Q) (few : p.trial.most ≤ n) where
    passed_few : (word : ℕ) (b : Bool)
        → Few (passed (having_met p word) (if b then Some record { table = p.trial.table; probe = probe_after p.trial.probe (p.trial.table.len - 1); met = (with_met p.trial word).met; most = p.trial.most } else None))
    passed_few word true = few
    passed_few word false = beyond_so Few (having_met p word) few (λ none. ending_few (having_met p word) few (ends.Answered answers.Absent)) (λ asks untold. few)

    told_few : (loaded : Bool) (word : ℕ) (found : Finding) → Few (after_finding loaded p word found)
    told_few loaded word finds.Free = free_few p few p.missing
    told_few loaded word finds.Passed = passed_few word (nat_lt p.trial.probe.len p.trial.table.limit)
    told_few loaded word finds.Moved = few
    told_few loaded word finds.Copying = either loaded (standing p at.Probes, called.Waits) (going p at.Probes) few few
    told_few loaded word finds.There = pair_few p few p.there word

  -- what each operation's answer leads to
  module _ (asks : Q → K → Bool) (same : K → K → Bool) (hash : K → ℕ) (p : KeyCall K V Q) (few : p.trial.most ≤ n) where
    on_made : (node : Option (Node K V)) → AlwaysOf Few (makes_of p node)
    on_made None = few
    on_made (Some node) = by
      where
        by : (out : Out (Node K V)) → Always Few (made p out)
        by (Made (Ok block)) = few
        by (Made (Err back)) = few
        by (Found word) = few
        by Stored = few
        by (Exchanged r) = few
        by (Taken value) = few
        by (Roomed r) = few

    on_looks : (l : Lookup) (asked : Option Q) → AlwaysOf Few (looks_for asks p l asked)
    on_looks l (Some q) = always_plan_as Few (looked p) (looked_few p few) (lookup_plan (asks q) l)
    on_looks l None = few

    on_root : (out : Out (Node K V)) → Always Few (root_found p out)
    on_root (Found link) = always_if Few (link == 0) _ _ (tableless_few p few p.missing) (λ value. few)
    on_root Stored = few
    on_root (Exchanged r) = few
    on_root (Made r) = few
    on_root (Taken value) = few
    on_root (Roomed r) = few

    on_next : p.trial.met ≤ n → (out : Out (Node K V)) → Always Few (next_found p out)
    on_next met (Found link) = always_if Few (link == 0) _ _ (last_few p few met p.missing) (λ value. on_few p few _)
    on_next met Stored = few
    on_next met (Exchanged r) = few
    on_next met (Made r) = few
    on_next met (Taken value) = few
    on_next met (Roomed r) = few

    on_key : (loaded : Bool) (word : ℕ) (key : Option K) → Always Few (key_read asks same loaded p word key)
    on_key loaded word (Some key) = λ value. told_few p few loaded word _
    on_key loaded word None = λ own value. told_few p few loaded word _

    on_pair : (loaded : Bool) (word : ℕ) (asked : Option Q) → Always Few (pair_read asks same loaded p word asked)
    on_pair loaded word (Some q) = λ value. told_few p few loaded word _
    on_pair loaded word None = on_key loaded word p.replies.key

    on_word : (loaded : Bool) (word : ℕ) → Always Few (word_read asks same loaded p word)
    on_word loaded word = always_if Few (may_name p.hash word) _ _ (on_pair loaded word p.asked) (told_few p few loaded word _)

    on_found : (out : Out (Node K V)) → Always Few (word_found asks same p out)
    on_found (Found word) = on_word true word
    on_found Stored = few
    on_found (Exchanged r) = few
    on_found (Made r) = few
    on_found (Taken value) = few
    on_found (Roomed r) = few

    on_tried : (word new : ℕ) (out : Out (Node K V)) → Always Few (tried asks same p word new out)
    on_tried word new (Exchanged (Ok found)) = changed_few p few word new
    on_tried word new (Exchanged (Err found)) = on_word false found
    on_tried word new (Found found) = few
    on_tried word new Stored = few
    on_tried word new (Made r) = few
    on_tried word new (Taken value) = few
    on_tried word new (Roomed r) = few

    on_dropped : (end : End) (out : Out (Node K V)) → Always Few (dropped p end out)
    on_dropped end (Taken value) = few
    on_dropped end (Found found) = few
    on_dropped end Stored = few
    on_dropped end (Exchanged r) = few
    on_dropped end (Made r) = few
    on_dropped end (Roomed r) = few

    plan_few : (stands : Calling) → p.stands ≡ stands → (p.stands ≡ at.Nexts → p.trial.met ≤ n) → ((asking : Asking) → p.stands ≢ at.Asks asking) → AlwaysOf Few (plan_at asks same hash p stands)
    plan_few at.Makes is met never = on_made p.unmade
    plan_few (at.Looks l) is met never = on_looks l p.asked
    plan_few at.Roots is met never = on_root
    plan_few at.Probes is met never = on_found
    plan_few (at.Tries word new) is met never = on_tried word new
    plan_few at.Nexts is met never = on_next (met is)
    plan_few (at.Firsts making) is met never = always_plan_as Few (first_made p) (first_few p few) (new_table_plan making)
    plan_few (at.Allocs making) is met never = always_plan_as Few (next_made p) (next_few p few) (new_table_plan making)
    plan_few (at.Helps copier goal) is met never = always_plan_as Few (helped p goal) (helped_few p few goal) (copier_plan hash copier)
    plan_few (at.Copies copier) is met never = always_plan_as Few (copied p) (copied_few p few) (copier_plan hash copier)
    plan_few (at.Counts removed) is met never = λ out. counted_few p few removed
    plan_few (at.Disposes dispose answer) is met never = always_plan_as Few (disposed p answer) (disposed_few p few answer) (dispose_plan dispose)
    plan_few (at.Asks asking) is met never = absurd (never asking is)
    plan_few (at.Drops over) is met never = on_dropped over
    plan_few (at.Over over) is met never = few

pub calls_keep_most : {K Q : Type 0} (V : Type 0) (same : K → K → Bool) (hash : K → ℕ) (asks : Q → K → Bool) → CallsPreserveMost V same hash asks
calls_keep_most V same hash asks m m2 p end n few met never s =
    always_steps (Few n) m m2 (call_plan asks same hash p) end (plan_few n asks same hash p few p.stands refl met never) s
