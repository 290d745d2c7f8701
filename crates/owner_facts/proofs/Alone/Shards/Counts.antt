-- What a call has counted, from one step to the next: nothing, until it knows its answer.
use Rattle.std.specs.Prelude.{◌==◌, ◌-◌, ◌^◌, Option, Some, None, Ok, Err, if◌then◌else◌}
use Rattle.std.proofs.Common.{◌≡◌, ℕ, Bool, true, false, refl, ap, sym, subst, ◌∙◌}
use Rattle.many_maps.specs.Given.SeizeWordsMem.{Mem, value_at, Took}
use Rattle.many_maps.specs.Given.SeizeWordsOp.{Out, Found, Stored, Exchanged, Made, Taken, Roomed}
use Rattle.many_maps.specs.Given.SeizeWordsPlan.{Steps}
use Rattle.many_maps.specs.Given.SeizeDeclared.advance.Advance.{Advance}
use Rattle.many_maps.specs.Given.SeizeDeclared.advance.Advance.TheVariants as progress
use Rattle.many_maps.specs.Given.SeizeDeclared.rows.settle.Settled.{Settled}
use Rattle.many_maps.specs.Given.SeizeDeclared.rows.settle.Settled.TheVariants as settled
use Rattle.many_maps.specs.Given.TablesCounts.{count_change}
use Rattle.many_maps.specs.Given.RawAnswers.{ended}
use Rattle.many_maps.specs.Given.RawCall.{made, makes_of, root_found, next_found, dropped, key_read, pair_read, word_read, word_found, tried, looked, looks_for, first_made, next_made, disposed, helped, copied, plan_at}
use Rattle.many_maps.specs.Given.RawCallPoints.{going, standing, over, ending, tableless, at_free, following_made, asking_at, at_last, at_pair, after_finding, entering, continued_in, changed, counted, having_met}
use Rattle.many_maps.specs.Given.TablesChunks.{is_incremental}
use Rattle.many_maps.specs.Given.ResizeCopier.{copier_plan}
use Rattle.many_maps.specs.Given.ResizeCopierStates.{copying_all}
use Rattle.many_maps.specs.Given.ResizeDispose.{disposing, dispose_plan}
use Rattle.many_maps.specs.Given.TablesFinding.{may_name}
use Rattle.many_maps.specs.Given.ResizeLookup.{lookup_plan}
use Rattle.many_maps.specs.Given.ResizeNewTable.{new_table_plan}
use Rattle.many_maps.specs.Given.TablesTrials.{next_trial, with_met}
use Rattle.many_maps.specs.Given.TablesDeclared.marks.TheConstants.{TOMBSTONE}
use Rattle.many_maps.specs.Given.TablesDeclared.node.Node.{Node}
use Rattle.many_maps.specs.Given.ResizeDeclared.yielding.Yielding.{Yielding}
use Rattle.many_maps.specs.Given.ResizeDeclared.yielding.Yielding.TheVariants as outcome
use Rattle.many_maps.specs.Given.TablesDeclared.table.Table.{Table}
use Rattle.many_maps.specs.Given.RawDeclared.machines.answer.KeyAnswer.{KeyAnswer}
use Rattle.many_maps.specs.Given.RawDeclared.machines.answer.KeyAnswer.TheVariants as answers
use Rattle.many_maps.specs.Given.RawDeclared.machines.answer.Called.{Called}
use Rattle.many_maps.specs.Given.RawDeclared.machines.answer.Called.TheVariants as called
use Rattle.many_maps.specs.Given.RawDeclared.machines.answer.End.{End}
use Rattle.many_maps.specs.Given.RawDeclared.machines.answer.End.TheVariants as ends
use Rattle.many_maps.specs.Given.RawDeclared.machines.answer.Missing.{Missing}
use Rattle.many_maps.specs.Given.RawDeclared.machines.answer.Missing.TheVariants as missing
use Rattle.many_maps.specs.Given.RawDeclared.machines.answer.There.{There}
use Rattle.many_maps.specs.Given.RawDeclared.machines.answer.There.TheVariants as there
use Rattle.many_maps.specs.Given.RawDeclared.machines.asking.Gap.{Gap}
use Rattle.many_maps.specs.Given.RawDeclared.machines.asking.Gap.TheVariants as gaps
use Rattle.many_maps.specs.Given.RawDeclared.machines.call.KeyCall.{KeyCall}
use Rattle.many_maps.specs.Given.RawDeclared.machines.call.Calling.{Calling}
use Rattle.many_maps.specs.Given.RawDeclared.machines.call.Calling.TheVariants as at
use Rattle.many_maps.specs.Given.ResizeDeclared.copier.Copier.{Copier}
use Rattle.many_maps.specs.Given.ResizeDeclared.dispose.Dispose.{Dispose}
use Rattle.many_maps.specs.Given.TablesDeclared.finding.Finding.{Finding}
use Rattle.many_maps.specs.Given.TablesDeclared.finding.Finding.TheVariants as finds
use Rattle.many_maps.specs.Given.ResizeDeclared.lookup.Lookup.{Lookup}
use Rattle.many_maps.specs.Given.ResizeDeclared.new_table.NewTable.{NewTable}
use Rattle.many_maps.proofs.Given.PointsCalls.Asked.{asking_so, asking_of_so, passed_so}
use Rattle.many_maps.proofs.Given.RuleKeys.Always.{Always, AlwaysOf, always_if, always_plan_as, always_steps}
use Rattle.owner_facts.proofs.Alone.Asks.{asks_so}
use Rattle.owner_facts.specs.Alone.Counted.{counted_for, counted_end, counted_at}
use Rattle.many_maps.proofs.Given.CallersAsked.Stays.{HasYet as CountsLater}

pub none_at : (stands : Calling) → CountsLater stands → counted_at stands ≡ 0
none_at at.Makes so = refl
none_at (at.Looks l) so = refl
none_at at.Roots so = refl
none_at at.Probes so = refl
none_at (at.Tries word new) so = refl
none_at at.Nexts so = refl
none_at (at.Firsts making) so = refl
none_at (at.Allocs making) so = refl
none_at (at.Helps copier goal) so = refl
none_at (at.Copies copier) so = refl
none_at (at.Counts removed) so = refl
none_at (at.Disposes dispose answer) so = absurd so
none_at (at.Asks asking) so = refl
none_at (at.Drops over) so = absurd so
none_at (at.Over over) so = absurd so

-- a call that is refused has counted nothing
abbrev pub RefusedAt : {T : Type 0} → ℕ → Called T → Type 0
RefusedAt n (called.Refused fault) = n ≡ 0
RefusedAt n _ = Unit {0}

module _ {K V Q : Type 0} where
  -- it has counted so much
  abbrev pub Says : ℕ → KeyCall K V Q × Called (Node K V) → Type 0
  Says n end = (counted_at end.0.stands ≡ n) × RefusedAt n end.1

  abbrev SaysNone : KeyCall K V Q × Called (Node K V) → Type 0
  SaysNone = Says 0

  either : (n : ℕ) (b : Bool) (x y : KeyCall K V Q × Called (Node K V)) → Says n x → Says n y → Says n (if b then x else y)
  either n true x y f g = f
  either n false x y f g = g

  says_ending : (p : KeyCall K V Q) (end : End) → counted_end end ≡ 0 → SaysNone (ending p end)
  says_ending p end none = either 0 (p.own == 0) (over p end) (going p (at.Drops end)) (none, by end) (none, tt)
    where
      by : (end : End) → RefusedAt {T = Node K V} 0 (ended end)
      by (ends.Answered answer) = tt
      by (ends.Refused fault) = refl

  -- where it goes on from a point
  module _ (p : KeyCall K V Q) where
    says_missing : (gap : Gap) → SaysNone (asking_at gap p)
    says_missing = asking_so SaysNone p (λ word new. (refl, tt)) (λ asking. (refl, tt)) (λ asking asked. (refl, tt)) (refl, tt) (refl, tt) (refl, tt)

    says_tableless : (m : Missing) → SaysNone (tableless m p)
    says_tableless missing.Answers = says_ending p (ends.Answered answers.Absent) refl
    says_tableless missing.Puts = (refl, tt)
    says_tableless missing.Asks = says_missing gaps.NoTable

    says_free : (m : Missing) → SaysNone (at_free m p)
    says_free missing.Answers = says_ending p (ends.Answered answers.Absent) refl
    says_free missing.Puts = (refl, tt)
    says_free missing.Asks = says_missing gaps.Free

    says_last : (m : Missing) → SaysNone (at_last m p)
    says_last missing.Answers =
        either 0 (is_incremental p.setting.mode) (ending p (ends.Answered answers.Absent)) (following_made p) (says_ending p (ends.Answered answers.Absent) refl) (refl, tt)
    says_last missing.Puts = (refl, tt)
    says_last missing.Asks = either 0 (is_incremental p.setting.mode) (asking_at gaps.Last p) (following_made p) (says_missing gaps.Last) (refl, tt)

    says_pair : (t : There) (word : ℕ) → SaysNone (at_pair t p word)
    says_pair there.Answers word = says_ending p (ends.Answered (answers.Found word)) refl
    says_pair there.Puts word = (refl, tt)
    says_pair there.Removes word = (refl, tt)
    says_pair there.Asks word = asking_of_so SaysNone p (λ word new. (refl, tt)) (λ asking. (refl, tt)) (λ asking asked. (refl, tt)) word

    says_told : (loaded : Bool) (word : ℕ) (found : Finding) → SaysNone (after_finding loaded p word found)
    says_told loaded word finds.Free = says_free p.missing
    says_told loaded word finds.Passed =
        passed_so SaysNone (having_met p word) (λ next. (refl, tt)) (refl, tt) (λ e. says_ending (having_met p word) (ends.Answered answers.Absent) refl) (λ e untold. (refl, tt))
        (next_trial (with_met p.trial word))
    says_told loaded word finds.Moved = (refl, tt)
    says_told loaded word finds.Copying = either 0 loaded (standing p at.Probes, called.Waits) (going p at.Probes) (refl, tt) (refl, tt)
    says_told loaded word finds.There = says_pair p.there word

    says_on : (table : Table) → SaysNone (continued_in p table)
    says_on table =
        either 0 (is_incremental p.setting.mode) _ (going p (at.Copies (copying_all p.setting p.trial.table table)))
        (either 0 p.helped (entering p table) _ (refl, tt) (refl, tt)) (refl, tt)

    says_changed : (word new : ℕ) → SaysNone (changed p word new)
    says_changed word new =
        either 0 (new == TOMBSTONE) (going p (at.Counts word)) _ (refl, tt)
        (either 0 (word == 0) (going p (at.Counts 0)) (going p (at.Disposes (disposing p.setting word p.trial.table) (answers.Replaced word p.own))) (refl, tt) (refl, tt))

    -- what machines within it tell
    says_looked : (end : Lookup × Advance (Option ℕ)) → SaysNone (looked p end)
    says_looked (l, progress.Goes) = (refl, tt)
    says_looked (l, progress.Waits) = (refl, tt)
    says_looked (l, progress.Done (Some found)) = (refl, tt)
    says_looked (l, progress.Done None) = (refl, tt)
    says_looked (l, progress.Refused fault) = (refl, refl)

    says_first : (end : NewTable × Advance Table) → SaysNone (first_made p end)
    says_first (n, progress.Goes) = (refl, tt)
    says_first (n, progress.Waits) = (refl, tt)
    says_first (n, progress.Done table) = (refl, tt)
    says_first (n, progress.Refused fault) = says_ending p (ends.Refused fault) refl

    says_next : (end : NewTable × Advance Table) → SaysNone (next_made p end)
    says_next (n, progress.Goes) = (refl, tt)
    says_next (n, progress.Waits) = (refl, tt)
    says_next (n, progress.Done table) = says_on table
    says_next (n, progress.Refused fault) = says_ending p (ends.Refused fault) refl

    says_helped : (goal : Table) (end : Copier × Yielding (Node K V) Table) → SaysNone (helped p goal end)
    says_helped goal (copier, outcome.Goes) = (refl, tt)
    says_helped goal (copier, outcome.Waits) = (refl, tt)
    says_helped goal (copier, outcome.Gave value) = (refl, tt)
    says_helped goal (copier, outcome.Done table) = (refl, tt)
    says_helped goal (copier, outcome.Refused fault) = says_ending p (ends.Refused fault) refl

    says_copied : (end : Copier × Yielding (Node K V) Table) → SaysNone (copied p end)
    says_copied (copier, outcome.Goes) = (refl, tt)
    says_copied (copier, outcome.Waits) = (refl, tt)
    says_copied (copier, outcome.Gave value) = (refl, tt)
    says_copied (copier, outcome.Done table) = (refl, tt)
    says_copied (copier, outcome.Refused fault) = says_ending p (ends.Refused fault) refl

    -- it goes on with its answer
    says_disposed : (answer : KeyAnswer) (end : Dispose × Settled (Node K V)) → Says (counted_for answer) (disposed p answer end)
    says_disposed answer (d, settled.Goes) = (refl, tt)
    says_disposed answer (d, settled.Waits) = (refl, tt)
    says_disposed answer (d, settled.Gave value) = (refl, tt)
    says_disposed answer (d, settled.Done) = (refl, tt)

    -- its change is counted
    says_counted : (removed : ℕ) → Says (count_change removed) (counted p removed)
    says_counted removed = by (removed == 0)
      where
        by : (b : Bool) → Says (if b then 1 else 2 ^ 64 - 1)
            (if b then over p (ends.Answered (answers.Stored p.own)) else going p (at.Disposes (disposing p.setting removed p.trial.table) (answers.Removed removed)))
        by true = (refl, tt)
        by false = (refl, tt)

  -- what each operation's answer leads to
  module _ (asks : Q → K → Bool) (same : K → K → Bool) (hash : K → ℕ) (p : KeyCall K V Q) where
    module _ (self : SaysNone (p, called.Goes)) where
      on_made : (node : Option (Node K V)) → AlwaysOf SaysNone (makes_of p node)
      on_made None = (refl, tt)
      on_made (Some node) = by
        where
          by : (out : Out (Node K V)) → Always SaysNone (made p out)
          by (Made (Ok block)) = (refl, tt)
          by (Made (Err back)) = (refl, tt)
          by (Found word) = self
          by Stored = self
          by (Exchanged r) = self
          by (Taken value) = self
          by (Roomed r) = self

      on_looks : (l : Lookup) (asked : Option Q) → AlwaysOf SaysNone (looks_for asks p l asked)
      on_looks l (Some q) = always_plan_as SaysNone (looked p) (says_looked p) (lookup_plan (asks q) l)
      on_looks l None = (refl, tt)

      on_root : (out : Out (Node K V)) → Always SaysNone (root_found p out)
      on_root (Found link) = always_if SaysNone (link == 0) _ _ (says_tableless p p.missing) (λ value. (refl, tt))
      on_root Stored = self
      on_root (Exchanged r) = self
      on_root (Made r) = self
      on_root (Taken value) = self
      on_root (Roomed r) = self

      on_next : (out : Out (Node K V)) → Always SaysNone (next_found p out)
      on_next (Found link) = always_if SaysNone (link == 0) _ _ (says_last p p.missing) (λ value. says_on p _)
      on_next Stored = self
      on_next (Exchanged r) = self
      on_next (Made r) = self
      on_next (Taken value) = self
      on_next (Roomed r) = self

      on_key : (loaded : Bool) (word : ℕ) (key : Option K) → Always SaysNone (key_read asks same loaded p word key)
      on_key loaded word (Some key) = λ value. says_told p loaded word _
      on_key loaded word None = λ own value. says_told p loaded word _

      on_pair : (loaded : Bool) (word : ℕ) (asked : Option Q) → Always SaysNone (pair_read asks same loaded p word asked)
      on_pair loaded word (Some q) = λ value. says_told p loaded word _
      on_pair loaded word None = on_key loaded word p.replies.key

      on_word : (loaded : Bool) (word : ℕ) → Always SaysNone (word_read asks same loaded p word)
      on_word loaded word = always_if SaysNone (may_name p.hash word) _ _ (on_pair loaded word p.asked) (says_told p loaded word _)

      on_found : (out : Out (Node K V)) → Always SaysNone (word_found asks same p out)
      on_found (Found word) = on_word true word
      on_found Stored = self
      on_found (Exchanged r) = self
      on_found (Made r) = self
      on_found (Taken value) = self
      on_found (Roomed r) = self

      on_tried : (word new : ℕ) (out : Out (Node K V)) → Always SaysNone (tried asks same p word new out)
      on_tried word new (Exchanged (Ok found)) = says_changed p word new
      on_tried word new (Exchanged (Err found)) = on_word false found
      on_tried word new (Found found) = self
      on_tried word new Stored = self
      on_tried word new (Made r) = self
      on_tried word new (Taken value) = self
      on_tried word new (Roomed r) = self

      -- whatever it comes to, it has counted nothing yet
      later_of : (stands : Calling) → p.stands ≡ stands → CountsLater stands → AlwaysOf SaysNone (plan_at asks same hash p stands)
      later_of at.Makes is so = on_made p.unmade
      later_of (at.Looks l) is so = on_looks l p.asked
      later_of at.Roots is so = on_root
      later_of at.Probes is so = on_found
      later_of (at.Tries word new) is so = on_tried word new
      later_of at.Nexts is so = on_next
      later_of (at.Firsts making) is so = always_plan_as SaysNone (first_made p) (says_first p) (new_table_plan making)
      later_of (at.Allocs making) is so = always_plan_as SaysNone (next_made p) (says_next p) (new_table_plan making)
      later_of (at.Helps copier goal) is so = always_plan_as SaysNone (helped p goal) (says_helped p goal) (copier_plan hash copier)
      later_of (at.Copies copier) is so = always_plan_as SaysNone (copied p) (says_copied p) (copier_plan hash copier)
      later_of (at.Counts removed) is so = absurd so
      later_of (at.Disposes dispose answer) is so = absurd so
      later_of (at.Asks asks_at) is so =
          asks_so SaysNone p (λ q same. (ap counted_at (same ∙ is), tt)) (λ q word new. (refl, tt)) (λ q word. (refl, tt)) (λ q. (refl, tt)) (λ q node. (refl, tt))
          (λ a asked here. (ap counted_at is, tt)) asks_at is
      later_of (at.Drops over) is so = absurd so
      later_of (at.Over over) is so = absurd so

    on_dropped : (end : End) → Says (counted_end end) (p, called.Goes) → (out : Out (Node K V)) → Always (Says (counted_end end)) (dropped p end out)
    on_dropped end self (Taken value) = (refl, tt)
    on_dropped end self (Found found) = self
    on_dropped end self Stored = self
    on_dropped end self (Exchanged r) = self
    on_dropped end self (Made r) = self
    on_dropped end self (Roomed r) = self

    module _ (m m2 : Mem (Node K V)) (end : KeyCall K V Q × Called (Node K V)) where
      -- it has counted nothing yet
      pub later_says : (stands : Calling) → p.stands ≡ stands → CountsLater stands → Steps Took value_at m (plan_at asks same hash p stands) m2 end → Says 0 end
      later_says stands is so s = always_steps SaysNone m m2 (plan_at asks same hash p stands) end (later_of (ap counted_at is ∙ none_at stands so, tt) stands is so) s

      -- it has counted its change
      pub counts_says : (removed : ℕ) → Steps Took value_at m (plan_at asks same hash p (at.Counts removed)) m2 end → Says (count_change removed) end
      counts_says removed s = always_steps (Says (count_change removed)) m m2 (plan_at asks same hash p (at.Counts removed)) end (λ out. says_counted p removed) s

      -- and goes on to its end
      pub disposes_says : (dispose : Dispose) (answer : KeyAnswer) → Steps Took value_at m (plan_at asks same hash p (at.Disposes dispose answer)) m2 end → Says (counted_for answer) end
      disposes_says dispose answer s =
          always_steps (Says (counted_for answer)) m m2 (plan_at asks same hash p (at.Disposes dispose answer)) end
          (always_plan_as (Says (counted_for answer)) (disposed p answer) (says_disposed p answer) (dispose_plan dispose)) s

      pub drops_says : (over : End) → p.stands ≡ at.Drops over → Steps Took value_at m (plan_at asks same hash p (at.Drops over)) m2 end → Says (counted_end over) end
      drops_says over is s = always_steps (Says (counted_end over)) m m2 (plan_at asks same hash p (at.Drops over)) end (on_dropped over (ap counted_at is, tt)) s

      pub over_says : (over : End) → p.stands ≡ at.Over over → Steps Took value_at m (plan_at asks same hash p (at.Over over)) m2 end → Says (counted_end over) end
      over_says over is s = subst (Says (counted_end over)) (sym s.1) (ap counted_at is, by over)
        where
          by : (end : End) → RefusedAt {T = Node K V} (counted_end end) (ended end)
          by (ends.Answered answer) = tt
          by (ends.Refused fault) = refl
