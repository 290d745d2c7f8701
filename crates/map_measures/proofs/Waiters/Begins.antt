-- A step of a call on one key that stands within no copier: where it begins to copy, its copier has not found each place claimed.
use Rattle.std.specs.Prelude.{if◌then◌else◌, ℕ, ◌==◌, Bool, true, false, Option, Some, None, Ok, Err}
use Rattle.std.proofs.Common.{◌≡◌, refl, sym, subst}
use Rattle.seize_words.specs.OneMemory.Mem.{Mem, value_at, Took}
use Rattle.seize_words.specs.OneMemory.Op.{Out, Found, Exchanged, Made, Taken}
use Rattle.seize_words.specs.OneMemory.Plan.{Then, Steps}
use Rattle.seize.specs.declared.advance.Advance.{Advance}
use Rattle.seize.specs.declared.advance.Advance.TheVariants as progress
use Rattle.seize.specs.declared.rows.settle.Settled.{Settled}
use Rattle.seize.specs.declared.rows.settle.Settled.TheVariants as settled
use Rattle.map_tables.specs.Chunks.{is_incremental}
use Rattle.map_tables.specs.Finding.{may_name}
use Rattle.map_tables.specs.Trials.{next_trial, with_met}
use Rattle.map_machines.specs.CopierStates.{copying_all, resting}
use Rattle.map_machines.specs.Dispose.{dispose_plan}
use Rattle.map_machines.specs.Lookup.{lookup_plan}
use Rattle.map_machines.specs.NewTable.{new_table_plan}
use Rattle.many_calls.specs.Given.RawCall.{made, makes_of, root_found, next_found, dropped, key_read, pair_read, word_read, word_found, tried, looked, looks_for, first_made, next_made, disposed, plan_at, call_plan}
use Rattle.many_calls.specs.Given.RawCallFills.{filled, putting_by, fill_by, emptied, fills_with, fills, given_up, asks_at}
use Rattle.many_calls.specs.Given.RawCallPoints.{ending, asking_at, tableless, at_free, at_last, at_pair, after_finding, continued_in, changed, counted, having_met}
use Rattle.map_tables.specs.declared.finding.Finding.{Finding}
use Rattle.map_tables.specs.declared.finding.Finding.TheVariants as finds
use Rattle.map_tables.specs.declared.marks.TheConstants.{TOMBSTONE}
use Rattle.map_tables.specs.declared.node.Node.{Node}
use Rattle.map_tables.specs.declared.node.Node.TheVariants as node
use Rattle.map_tables.specs.declared.setting.Setting.{Setting}
use Rattle.map_tables.specs.declared.table.Table.{Table}
use Rattle.map_machines.specs.declared.copier.Copier.{Copier}
use Rattle.map_machines.specs.declared.copier.Copying.TheVariants as copies
use Rattle.map_machines.specs.declared.dispose.Dispose.{Dispose}
use Rattle.map_machines.specs.declared.lookup.Lookup.{Lookup}
use Rattle.map_machines.specs.declared.new_table.NewTable.{NewTable}
use Rattle.many_calls.specs.Given.RawDeclared.machines.answer.KeyAnswer.{KeyAnswer}
use Rattle.many_calls.specs.Given.RawDeclared.machines.answer.End.{End}
use Rattle.many_calls.specs.Given.RawDeclared.machines.answer.Called.{Called}
use Rattle.many_calls.specs.Given.RawDeclared.machines.answer.Missing.{Missing}
use Rattle.many_calls.specs.Given.RawDeclared.machines.answer.Missing.TheVariants as missing
use Rattle.many_calls.specs.Given.RawDeclared.machines.answer.There.{There}
use Rattle.many_calls.specs.Given.RawDeclared.machines.answer.There.TheVariants as there
use Rattle.many_calls.specs.Given.RawReplies.{value_for}
use Rattle.many_calls.specs.Given.RawDeclared.machines.asking.Asking.{Asking}
use Rattle.many_calls.specs.Given.RawDeclared.machines.asking.Asking.TheVariants as asking
use Rattle.many_calls.specs.Given.RawDeclared.machines.asking.Gap.{Gap}
use Rattle.many_calls.specs.Given.RawDeclared.machines.asking.Gap.TheVariants as gaps
use Rattle.many_calls.specs.Given.RawDeclared.machines.call.KeyCall.{KeyCall}
use Rattle.many_calls.specs.Given.RawDeclared.machines.call.Calling.{Calling}
use Rattle.many_calls.specs.Given.RawDeclared.machines.call.Calling.TheVariants as at
use Rattle.many_calls.proofs.Given.RuleKeys.Always.{Always, AlwaysOf, always_if, always_plan_as, always_steps}
use Rattle.many_calls.proofs.Given.PointsCalls.Asked.{asking_so, asking_of_so, passed_so}
use Rattle.map_measures.specs.Waits.Others.{copier_in}

-- a copier that has just begun has not found each place claimed
abbrev pub IsNew : Option Copier → Type 0
IsNew None = Unit {0}
IsNew (Some p) = p.spent ≡ false

pub as_none : {o : Option Copier} → o ≡ None → IsNew o
as_none none = subst IsNew (sym none) tt

abbrev pub IsNewCall : Calling → Type 0
IsNewCall stands = IsNew (copier_in stands)

-- a copying that begins
pub begun_new : (setting : Setting) (source target : Table) → (copying_all setting source target).spent ≡ false
begun_new setting source target = by (is_incremental setting.mode)
  where
    by : (b : Bool) → (if b then record (resting setting true source target copies.Marks) { end = source.len } else resting setting true source target copies.Asks).spent ≡ false
    by true = refl
    by false = refl

module _ {K V Q : Type 0} where
  abbrev pub NewStep : KeyCall K V Q × Called (Node K V) → Type 0
  NewStep end = IsNewCall end.0.stands

  abbrev News : Then (Node K V) (KeyCall K V Q × Called (Node K V)) → Type 0
  News rest = Always NewStep rest

  -- of two, where both go on elsewhere
  either : (b : Bool) (x y : KeyCall K V Q × Called (Node K V)) → NewStep x → NewStep y → NewStep (if b then x else y)
  either true x y f g = f
  either false x y f g = g

  -- where it goes on from a point
  module _ (p : KeyCall K V Q) where
    pub ending_new : (end : End) → NewStep (ending p end)
    ending_new end = either (p.own == 0) _ _ tt tt

    missing_new : (gap : Gap) → NewStep (asking_at gap p)
    missing_new = asking_so NewStep p (λ word new. tt) (λ asking. tt) (λ asking asked. tt) tt tt tt

    tableless_new : (m : Missing) → NewStep (tableless m p)
    tableless_new missing.Answers = ending_new _
    tableless_new missing.Puts = tt
    tableless_new missing.Asks = missing_new gaps.NoTable

    free_new : (m : Missing) → NewStep (at_free m p)
    free_new missing.Answers = ending_new _
    free_new missing.Puts = tt
    free_new missing.Asks = missing_new gaps.Free

    last_new : (m : Missing) → NewStep (at_last m p)
    last_new missing.Answers = either (is_incremental p.setting.mode) _ _ (ending_new _) tt
    last_new missing.Puts = tt
    last_new missing.Asks = either (is_incremental p.setting.mode) _ _ (missing_new gaps.Last) tt

    pair_new : (t : There) (word : ℕ) → NewStep (at_pair t p word)
    pair_new there.Answers word = ending_new _
    pair_new there.Puts word = tt
    pair_new there.Removes word = tt
    pair_new there.Asks word = asking_of_so NewStep p (λ word new. tt) (λ asking. tt) (λ asking asked. tt) word

    told_new : (loaded : Bool) (word : ℕ) (found : Finding) → NewStep (after_finding loaded p word found)
    told_new loaded word finds.Free = free_new p.missing
    told_new loaded word finds.Passed =
        passed_so NewStep (having_met p word) (λ next. tt) tt (λ e. either (p.own == 0) _ _ tt tt) (λ e untold. tt) (next_trial (with_met p.trial word))
    told_new loaded word finds.Moved = tt
    told_new loaded word finds.Copying = either loaded _ _ tt tt
    told_new loaded word finds.There = pair_new p.there word

    on_new : (table : Table) → NewStep (continued_in p table)
    on_new table = either (is_incremental p.setting.mode) _ _ (either p.helped _ _ tt refl) (begun_new p.setting p.trial.table table)

    changed_new : (word new : ℕ) → NewStep (changed p word new)
    changed_new word new = either (new == TOMBSTONE) _ _ tt (either (word == 0) _ _ tt tt)

    counted_new : (removed : ℕ) → NewStep (counted p removed)
    counted_new removed = either (removed == 0) _ _ tt tt

    -- what machines within it tell
    looked_new : (end : Lookup × Advance (Option ℕ)) → NewStep (looked p end)
    looked_new (l, progress.Goes) = tt
    looked_new (l, progress.Waits) = tt
    looked_new (l, progress.Done (Some found)) = tt
    looked_new (l, progress.Done None) = tt
    looked_new (l, progress.Refused fault) = tt

    first_new : (end : NewTable × Advance Table) → NewStep (first_made p end)
    first_new (n, progress.Goes) = tt
    first_new (n, progress.Waits) = tt
    first_new (n, progress.Done table) = tt
    first_new (n, progress.Refused fault) = ending_new _

    next_new : (end : NewTable × Advance Table) → NewStep (next_made p end)
    next_new (n, progress.Goes) = tt
    next_new (n, progress.Waits) = tt
    next_new (n, progress.Done table) = on_new table
    next_new (n, progress.Refused fault) = ending_new _

    disposed_new : (answer : KeyAnswer) (end : Dispose × Settled (Node K V)) → NewStep (disposed p answer end)
    disposed_new answer (d, settled.Goes) = tt
    disposed_new answer (d, settled.Waits) = tt
    disposed_new answer (d, settled.Gave value) = tt
    disposed_new answer (d, settled.Done) = tt

  -- what each answer of an operation leads to
  module _ (asks : Q → K → Bool) (same : K → K → Bool) (hash : K → ℕ) (p : KeyCall K V Q) (here : IsNewCall p.stands) where
    on_made : (node : Option (Node K V)) → AlwaysOf NewStep (makes_of p node)
    on_made None = tt
    on_made (Some node) = by
      where
        by : (out : Out (Node K V)) → News (made p out)
        by (Made (Ok block)) = tt
        by (Made (Err back)) = tt
        by _ = here

    on_root : (out : Out (Node K V)) → News (root_found p out)
    on_root (Found link) = always_if NewStep (link == 0) _ _ (tableless_new p p.missing) (λ value. tt)
    on_root _ = here

    on_next : (out : Out (Node K V)) → News (next_found p out)
    on_next (Found link) = always_if NewStep (link == 0) _ _ (last_new p p.missing) (λ value. on_new p _)
    on_next _ = here

    on_key : (loaded : Bool) (word : ℕ) (key : Option K) → News (key_read asks same loaded p word key)
    on_key loaded word (Some key) = λ value. told_new p loaded word _
    on_key loaded word None = λ own value. told_new p loaded word _

    on_pair : (loaded : Bool) (word : ℕ) (asked : Option Q) → News (pair_read asks same loaded p word asked)
    on_pair loaded word (Some q) = λ value. told_new p loaded word _
    on_pair loaded word None = on_key loaded word p.replies.key

    on_word : (loaded : Bool) (word : ℕ) → News (word_read asks same loaded p word)
    on_word loaded word = always_if NewStep (may_name p.hash word) _ _ (on_pair loaded word p.asked) (told_new p loaded word _)

    on_found : (out : Out (Node K V)) → News (word_found asks same p out)
    on_found (Found word) = on_word true word
    on_found _ = here

    on_tried : (word new : ℕ) (out : Out (Node K V)) → News (tried asks same p word new out)
    on_tried word new (Exchanged (Ok found)) = changed_new p word new
    on_tried word new (Exchanged (Err found)) = on_word false found
    on_tried word new _ = here

    on_dropped : (end : End) (out : Out (Node K V)) → News (dropped p end out)
    on_dropped end (Taken value) = tt
    on_dropped end _ = here

    on_looks : (l : Lookup) (asked : Option Q) → AlwaysOf NewStep (looks_for asks p l asked)
    on_looks l (Some q) = always_plan_as NewStep (looked p) (looked_new p) (lookup_plan (asks q) l)
    on_looks l None = tt

    on_fills : (word : ℕ) → AlwaysOf NewStep (fills p word)
    on_fills word = by p.replies.key
      where
        on_filled : (q : KeyCall K V Q) → IsNewCall q.stands → (out : Out (Node K V)) → News (filled q word out)
        on_filled q other (Made (Ok block)) = tt
        on_filled q other (Made (Err node)) = tt
        on_filled q other (Taken node) = tt
        on_filled q other _ = other

        puts : (b : Bool) (q : KeyCall K V Q) → IsNewCall q.stands → (key : K) (value : V) → AlwaysOf NewStep (putting_by b q word key value)
        puts true q other key value = on_filled q other
        puts false q other key value = on_filled q other

        fill : (told : Option V) (q : KeyCall K V Q) → IsNewCall q.stands → (key : K) → AlwaysOf NewStep (fill_by told q word key)
        fill (Some value) q other key = puts (q.own == 0) _ other key value
        fill None q other key = tt

        on_emptied : (out : Out (Node K V)) → News (emptied p word out)
        on_emptied (Taken (node.Pair key value)) = tt
        on_emptied _ = tt

        by : (key : Option K) → AlwaysOf NewStep (fills_with key p word)
        by (Some key) = fill (value_for p.replies word) _ here key
        by None = on_emptied

    on_given_up : (word : ℕ) (out : Out (Node K V)) → News (given_up p word out)
    on_given_up word (Taken (node.Pair key value)) = tt
    on_given_up word (Taken _) = tt
    on_given_up word _ = here

    on_asks : (stands : Asking) → AlwaysOf NewStep (asks_at p stands)
    on_asks (asking.Absent gap) = here
    on_asks (asking.Present word) = here
    on_asks (asking.Fills word) = on_fills word
    on_asks (asking.GivesUp word) = on_given_up word

    new_plan : (stands : Calling) → copier_in stands ≡ None → AlwaysOf NewStep (plan_at asks same hash p stands)
    new_plan at.Makes none = on_made p.unmade
    new_plan (at.Looks l) none = on_looks l p.asked
    new_plan at.Roots none = on_root
    new_plan at.Probes none = on_found
    new_plan (at.Tries word new) none = on_tried word new
    new_plan (at.Counts removed) none = λ out. counted_new p removed
    new_plan at.Nexts none = on_next
    new_plan (at.Firsts making) none = always_plan_as NewStep (first_made p) (first_new p) (new_table_plan making)
    new_plan (at.Allocs making) none = always_plan_as NewStep (next_made p) (next_new p) (new_table_plan making)
    new_plan (at.Helps copier goal) none = absurd (cc none)
    new_plan (at.Copies copier) none = absurd (cc none)
    new_plan (at.Disposes dispose answer) none = always_plan_as NewStep (disposed p answer) (disposed_new p answer) (dispose_plan dispose)
    new_plan (at.Asks stands) none = on_asks stands
    new_plan (at.Drops last) none = on_dropped last
    new_plan (at.Over last) none = here

  -- whatever a step beside its copying comes to
  module _ (asks : Q → K → Bool) (same : K → K → Bool) (hash : K → ℕ) (p : KeyCall K V Q) (m m2 : Mem (Node K V)) (end : KeyCall K V Q × Called (Node K V)) where
    pub call_new : copier_in p.stands ≡ None → Steps Took value_at m (call_plan asks same hash p) m2 end → NewStep end
    call_new none s = always_steps NewStep m m2 (call_plan asks same hash p) end (new_plan asks same hash p (as_none none) p.stands none) s
