-- A step of a call comes to the claiming of places only within its copying.
use Rattle.std.specs.Prelude.{ℕ, ◌==◌, if◌then◌else◌, Bool, true, false, Option, Some, None, Ok, Err}
use Rattle.seize_model.specs.Given.SeizeWordsMem.{Mem, value_at, Took}
use Rattle.seize_model.specs.Given.SeizeWordsOp.{Out, Found, Exchanged, Made, Taken}
use Rattle.seize_model.specs.Given.SeizeWordsPlan.{Then, Steps}
use Rattle.seize_model.specs.Given.SeizeDeclared.advance.Advance.{Advance}
use Rattle.seize_model.specs.Given.SeizeDeclared.advance.Advance.TheVariants as progress
use Rattle.seize_model.specs.Given.SeizeDeclared.rows.settle.Settled.{Settled}
use Rattle.seize_model.specs.Given.SeizeDeclared.rows.settle.Settled.TheVariants as settled
use Rattle.map_facts_late.specs.Given.TablesChunks.{is_incremental}
use Rattle.map_facts_late.specs.Given.TablesFinding.{may_name}
use Rattle.map_facts_late.specs.Given.TablesTrials.{next_trial, with_met}
use Rattle.map_facts_late.specs.Given.ResizeCopierStates.{copying_all, resting}
use Rattle.map_facts_late.specs.Given.ResizeDispose.{dispose_plan}
use Rattle.map_facts_late.specs.Given.ResizeLookup.{lookup_plan}
use Rattle.map_facts_late.specs.Given.ResizeNewTable.{new_table_plan}
use Rattle.map_facts_late.specs.Given.RawCall.{made, makes_of, root_found, next_found, dropped, key_read, pair_read, word_read, word_found, tried, looked, looks_for, first_made, next_made, disposed, copied, plan_at, call_plan}
use Rattle.map_facts_late.specs.Given.RawCallFills.{filled, putting_by, fill_by, emptied, fills_with, fills, given_up, asks_at}
use Rattle.map_facts_late.specs.Given.RawCallPoints.{ending, asking_at, tableless, at_free, at_last, at_pair, after_finding, continued_in, changed, counted, having_met}
use Rattle.map_facts_late.specs.Given.TablesDeclared.finding.Finding.{Finding}
use Rattle.map_facts_late.specs.Given.TablesDeclared.finding.Finding.TheVariants as finds
use Rattle.map_facts_late.specs.Given.TablesDeclared.marks.TheConstants.{TOMBSTONE}
use Rattle.map_facts_late.specs.Given.TablesDeclared.node.Node.{Node}
use Rattle.map_facts_late.specs.Given.TablesDeclared.node.Node.TheVariants as node
use Rattle.map_facts_late.specs.Given.TablesDeclared.setting.Setting.{Setting}
use Rattle.map_facts_late.specs.Given.TablesDeclared.table.Table.{Table}
use Rattle.map_facts_late.specs.Given.ResizeDeclared.copier.Copier.{Copier}
use Rattle.map_facts_late.specs.Given.ResizeDeclared.copier.Copying.TheVariants as copies
use Rattle.map_facts_late.specs.Given.ResizeDeclared.dispose.Dispose.{Dispose}
use Rattle.map_facts_late.specs.Given.ResizeDeclared.lookup.Lookup.{Lookup}
use Rattle.map_facts_late.specs.Given.ResizeDeclared.new_table.NewTable.{NewTable}
use Rattle.map_facts_late.specs.Given.ResizeDeclared.yielding.Yielding.{Yielding}
use Rattle.map_facts_late.specs.Given.ResizeDeclared.yielding.Yielding.TheVariants as outcome
use Rattle.map_facts_late.specs.Given.RawDeclared.machines.answer.KeyAnswer.{KeyAnswer}
use Rattle.map_facts_late.specs.Given.RawDeclared.machines.answer.End.{End}
use Rattle.map_facts_late.specs.Given.RawDeclared.machines.answer.Called.{Called}
use Rattle.map_facts_late.specs.Given.RawDeclared.machines.answer.Missing.{Missing}
use Rattle.map_facts_late.specs.Given.RawDeclared.machines.answer.Missing.TheVariants as missing
use Rattle.map_facts_late.specs.Given.RawDeclared.machines.answer.There.{There}
use Rattle.map_facts_late.specs.Given.RawDeclared.machines.answer.There.TheVariants as there
use Rattle.map_facts_late.specs.Given.RawReplies.{value_for}
use Rattle.map_facts_late.specs.Given.RawDeclared.machines.asking.Asking.{Asking}
use Rattle.map_facts_late.specs.Given.RawDeclared.machines.asking.Asking.TheVariants as asking
use Rattle.map_facts_late.specs.Given.RawDeclared.machines.asking.Gap.{Gap}
use Rattle.map_facts_late.specs.Given.RawDeclared.machines.asking.Gap.TheVariants as gaps
use Rattle.map_facts_late.specs.Given.RawDeclared.machines.call.KeyCall.{KeyCall}
use Rattle.map_facts_late.specs.Given.RawDeclared.machines.call.Calling.{Calling}
use Rattle.map_facts_late.specs.Given.RawDeclared.machines.call.Calling.TheVariants as at
use Rattle.map_facts_late.proofs.Given.RuleKeys.Always.{Always, AlwaysOf, always_if, always_plan_as, always_steps}
use Rattle.map_facts_late.specs.Given.PointsFactsCalls.{IsCopying}
use Rattle.map_facts_late.proofs.Given.PointsCalls.Asked.{asking_so, asking_of_so, passed_so}
use Rattle.many_calls.proofs.Claims.Copiers.{IsOther}

-- it is not to claim places next
abbrev pub IsOtherCall : Calling → Type 0
IsOtherCall (at.Copies copier) = IsOther copier.stands
IsOtherCall _ = Unit {0}

-- a copying that begins asks first, or marks a place
pub begun_other : (setting : Setting) (source target : Table) → IsOther (copying_all setting source target).stands
begun_other setting source target = by (is_incremental setting.mode)
  where
    by : (b : Bool) → IsOther (if b then record (resting setting true source target copies.Marks) { end = source.len } else resting setting true source target copies.Asks).stands
    by true = tt
    by false = tt

module _ {K V Q : Type 0} where
  abbrev pub OtherStep : KeyCall K V Q × Called (Node K V) → Type 0
  OtherStep end = IsOtherCall end.0.stands

  abbrev Others : Then (Node K V) (KeyCall K V Q × Called (Node K V)) → Type 0
  Others rest = Always OtherStep rest

  -- of two, where both go on elsewhere
  either : (b : Bool) (x y : KeyCall K V Q × Called (Node K V)) → OtherStep x → OtherStep y → OtherStep (if b then x else y)
  either true x y f g = f
  either false x y f g = g

  -- where it goes on from a point
  module _ (p : KeyCall K V Q) where
    pub ending_other : (end : End) → OtherStep (ending p end)
    ending_other end = either (p.own == 0) _ _ tt tt

    missing_other : (gap : Gap) → OtherStep (asking_at gap p)
    missing_other = asking_so OtherStep p (λ word new. tt) (λ asking. tt) (λ asking asked. tt) tt tt tt

    tableless_other : (m : Missing) → OtherStep (tableless m p)
    tableless_other missing.Answers = ending_other _
    tableless_other missing.Puts = tt
    tableless_other missing.Asks = missing_other gaps.NoTable

    free_other : (m : Missing) → OtherStep (at_free m p)
    free_other missing.Answers = ending_other _
    free_other missing.Puts = tt
    free_other missing.Asks = missing_other gaps.Free

    last_other : (m : Missing) → OtherStep (at_last m p)
    last_other missing.Answers = either (is_incremental p.setting.mode) _ _ (ending_other _) tt
    last_other missing.Puts = tt
    last_other missing.Asks = either (is_incremental p.setting.mode) _ _ (missing_other gaps.Last) tt

    pair_other : (t : There) (word : ℕ) → OtherStep (at_pair t p word)
    pair_other there.Answers word = ending_other _
    pair_other there.Puts word = tt
    pair_other there.Removes word = tt
    pair_other there.Asks word = asking_of_so OtherStep p (λ word new. tt) (λ asking. tt) (λ asking asked. tt) word

    told_other : (loaded : Bool) (word : ℕ) (found : Finding) → OtherStep (after_finding loaded p word found)
    told_other loaded word finds.Free = free_other p.missing
    told_other loaded word finds.Passed =
        passed_so OtherStep (having_met p word) (λ next. tt) tt (λ e. either (p.own == 0) _ _ tt tt) (λ e untold. tt) (next_trial (with_met p.trial word))
    told_other loaded word finds.Moved = tt
    told_other loaded word finds.Copying = either loaded _ _ tt tt
    told_other loaded word finds.There = pair_other p.there word

    on_other : (table : Table) → OtherStep (continued_in p table)
    on_other table = either (is_incremental p.setting.mode) _ _ (either p.helped _ _ tt tt) (begun_other p.setting p.trial.table table)

    changed_other : (word new : ℕ) → OtherStep (changed p word new)
    changed_other word new = either (new == TOMBSTONE) _ _ tt (either (word == 0) _ _ tt tt)

    counted_other : (removed : ℕ) → OtherStep (counted p removed)
    counted_other removed = either (removed == 0) _ _ tt tt

    -- what machines within it tell
    looked_other : (end : Lookup × Advance (Option ℕ)) → OtherStep (looked p end)
    looked_other (l, progress.Goes) = tt
    looked_other (l, progress.Waits) = tt
    looked_other (l, progress.Done (Some found)) = tt
    looked_other (l, progress.Done None) = tt
    looked_other (l, progress.Refused fault) = tt

    first_other : (end : NewTable × Advance Table) → OtherStep (first_made p end)
    first_other (n, progress.Goes) = tt
    first_other (n, progress.Waits) = tt
    first_other (n, progress.Done table) = tt
    first_other (n, progress.Refused fault) = ending_other _

    next_other : (end : NewTable × Advance Table) → OtherStep (next_made p end)
    next_other (n, progress.Goes) = tt
    next_other (n, progress.Waits) = tt
    next_other (n, progress.Done table) = on_other table
    next_other (n, progress.Refused fault) = ending_other _

    disposed_other : (answer : KeyAnswer) (end : Dispose × Settled (Node K V)) → OtherStep (disposed p answer end)
    disposed_other answer (d, settled.Goes) = tt
    disposed_other answer (d, settled.Waits) = tt
    disposed_other answer (d, settled.Gave value) = tt
    disposed_other answer (d, settled.Done) = tt

    pub copied_other : (end : Copier × Yielding (Node K V) Table) → IsOther end.0.stands → OtherStep (copied p end)
    copied_other (copier, outcome.Goes) other = other
    copied_other (copier, outcome.Waits) other = other
    copied_other (copier, outcome.Gave value) other = other
    copied_other (copier, outcome.Done table) other = tt
    copied_other (copier, outcome.Refused fault) other = ending_other _

  -- what each answer of an operation leads to
  module _ (asks : Q → K → Bool) (same : K → K → Bool) (hash : K → ℕ) (p : KeyCall K V Q) (here : IsOtherCall p.stands) where
    on_made : (node : Option (Node K V)) → AlwaysOf OtherStep (makes_of p node)
    on_made None = tt
    on_made (Some node) = by
      where
        by : (out : Out (Node K V)) → Others (made p out)
        by (Made (Ok block)) = tt
        by (Made (Err back)) = tt
        by _ = here

    on_root : (out : Out (Node K V)) → Others (root_found p out)
    on_root (Found link) = always_if OtherStep (link == 0) _ _ (tableless_other p p.missing) (λ value. tt)
    on_root _ = here

    on_next : (out : Out (Node K V)) → Others (next_found p out)
    on_next (Found link) = always_if OtherStep (link == 0) _ _ (last_other p p.missing) (λ value. on_other p _)
    on_next _ = here

    on_key : (loaded : Bool) (word : ℕ) (key : Option K) → Others (key_read asks same loaded p word key)
    on_key loaded word (Some key) = λ value. told_other p loaded word _
    on_key loaded word None = λ own value. told_other p loaded word _

    on_pair : (loaded : Bool) (word : ℕ) (asked : Option Q) → Others (pair_read asks same loaded p word asked)
    on_pair loaded word (Some q) = λ value. told_other p loaded word _
    on_pair loaded word None = on_key loaded word p.replies.key

    on_word : (loaded : Bool) (word : ℕ) → Others (word_read asks same loaded p word)
    on_word loaded word = always_if OtherStep (may_name p.hash word) _ _ (on_pair loaded word p.asked) (told_other p loaded word _)

    on_found : (out : Out (Node K V)) → Others (word_found asks same p out)
    on_found (Found word) = on_word true word
    on_found _ = here

    on_tried : (word new : ℕ) (out : Out (Node K V)) → Others (tried asks same p word new out)
    on_tried word new (Exchanged (Ok found)) = changed_other p word new
    on_tried word new (Exchanged (Err found)) = on_word false found
    on_tried word new _ = here

    on_dropped : (end : End) (out : Out (Node K V)) → Others (dropped p end out)
    on_dropped end (Taken value) = tt
    on_dropped end _ = here

    on_looks : (l : Lookup) (asked : Option Q) → AlwaysOf OtherStep (looks_for asks p l asked)
    on_looks l (Some q) = always_plan_as OtherStep (looked p) (looked_other p) (lookup_plan (asks q) l)
    on_looks l None = tt

    on_fills : (word : ℕ) → AlwaysOf OtherStep (fills p word)
    on_fills word = by p.replies.key
      where
        on_filled : (q : KeyCall K V Q) → IsOtherCall q.stands → (out : Out (Node K V)) → Others (filled q word out)
        on_filled q other (Made (Ok block)) = tt
        on_filled q other (Made (Err node)) = tt
        on_filled q other (Taken node) = tt
        on_filled q other _ = other

        puts : (b : Bool) (q : KeyCall K V Q) → IsOtherCall q.stands → (key : K) (value : V) → AlwaysOf OtherStep (putting_by b q word key value)
        puts true q other key value = on_filled q other
        puts false q other key value = on_filled q other

        fill : (told : Option V) (q : KeyCall K V Q) → IsOtherCall q.stands → (key : K) → AlwaysOf OtherStep (fill_by told q word key)
        fill (Some value) q other key = puts (q.own == 0) _ other key value
        fill None q other key = tt

        on_emptied : (out : Out (Node K V)) → Others (emptied p word out)
        on_emptied (Taken (node.Pair key value)) = tt
        on_emptied _ = tt

        by : (key : Option K) → AlwaysOf OtherStep (fills_with key p word)
        by (Some key) = fill (value_for p.replies word) _ here key
        by None = on_emptied

    on_given_up : (word : ℕ) (out : Out (Node K V)) → Others (given_up p word out)
    on_given_up word (Taken (node.Pair key value)) = tt
    on_given_up word (Taken _) = tt
    on_given_up word _ = here

    on_asks : (stands : Asking) → AlwaysOf OtherStep (asks_at p stands)
    on_asks (asking.Absent gap) = here
    on_asks (asking.Present word) = here
    on_asks (asking.Fills word) = on_fills word
    on_asks (asking.GivesUp word) = on_given_up word

    other_plan : (stands : Calling) → (IsCopying stands → ⊥) → AlwaysOf OtherStep (plan_at asks same hash p stands)
    other_plan at.Makes none = on_made p.unmade
    other_plan (at.Looks l) none = on_looks l p.asked
    other_plan at.Roots none = on_root
    other_plan at.Probes none = on_found
    other_plan (at.Tries word new) none = on_tried word new
    other_plan (at.Counts removed) none = λ out. counted_other p removed
    other_plan at.Nexts none = on_next
    other_plan (at.Firsts making) none = always_plan_as OtherStep (first_made p) (first_other p) (new_table_plan making)
    other_plan (at.Allocs making) none = always_plan_as OtherStep (next_made p) (next_other p) (new_table_plan making)
    other_plan (at.Helps copier goal) none = absurd (none tt)
    other_plan (at.Copies copier) none = absurd (none tt)
    other_plan (at.Disposes dispose answer) none = always_plan_as OtherStep (disposed p answer) (disposed_other p answer) (dispose_plan dispose)
    other_plan (at.Asks stands) none = on_asks stands
    other_plan (at.Drops last) none = on_dropped last
    other_plan (at.Over last) none = here

  -- whatever a step beside its copying comes to
  module _ (asks : Q → K → Bool) (same : K → K → Bool) (hash : K → ℕ) (p : KeyCall K V Q) (m m2 : Mem (Node K V)) (end : KeyCall K V Q × Called (Node K V)) where
    pub call_other : (IsCopying p.stands → ⊥) → Steps Took value_at m (call_plan asks same hash p) m2 end → OtherStep end
    call_other none s = always_steps OtherStep m m2 (call_plan asks same hash p) end (other_plan asks same hash p (beside p.stands none) p.stands none) s
      where
        beside : (stands : Calling) → (IsCopying stands → ⊥) → IsOtherCall stands
        beside (at.Copies copier) none = absurd (none tt)
        beside _ none = tt
