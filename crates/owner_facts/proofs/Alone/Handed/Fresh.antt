-- Where a step of a call leads that has unlinked no table and disposes of nothing: it has unlinked none, and a disposal that it comes to has only begun.
use Rattle.std.specs.Prelude.{◌==◌, Option, Some, None, Ok, Err, if◌then◌else◌}
use Rattle.std.proofs.Common.{◌≡◌, ℕ, Bool, true, false, refl, sym, subst}
use Rattle.many_maps.specs.Given.SeizeWordsMem.{Mem, value_at, Took}
use Rattle.many_maps.specs.Given.SeizeWordsOp.{Out, Found, Stored, Exchanged, Made, Taken, Roomed}
use Rattle.many_maps.specs.Given.SeizeWordsPlan.{Then, Steps}
use Rattle.many_maps.proofs.Given.SeizeRuleRows.Leaving.{steps_back}
use Rattle.many_maps.specs.Given.SeizeDeclared.advance.Advance.{Advance}
use Rattle.many_maps.specs.Given.SeizeDeclared.advance.Advance.TheVariants as progress
use Rattle.many_maps.specs.Given.RawAnswers.{ended}
use Rattle.many_maps.specs.Given.RawCall.{made, makes_of, root_found, next_found, dropped, key_read, pair_read, word_read, word_found, tried, looked, looks_for, first_made, next_made, helped, copied, plan_at}
use Rattle.many_maps.specs.Given.RawCallPoints.{going, standing, over, ending, tableless, at_free, following_made, asking_at, at_last, at_pair, after_finding, entering, continued_in, changed, counted, having_met}
use Rattle.many_maps.specs.Given.TablesChunks.{is_incremental}
use Rattle.many_maps.specs.Given.ResizeCopier.{copier_plan}
use Rattle.many_maps.specs.Given.ResizeCopierStates.{copying_all}
use Rattle.many_maps.specs.Given.ResizeDispose.{disposing}
use Rattle.many_maps.specs.Given.TablesFinding.{may_name}
use Rattle.many_maps.specs.Given.ResizeLookup.{lookup_plan}
use Rattle.many_maps.specs.Given.ResizeNewTable.{new_table_plan}
use Rattle.many_maps.specs.Given.TablesTrials.{next_trial, with_met}
use Rattle.many_maps.specs.Given.TablesDeclared.marks.TheConstants.{TOMBSTONE}
use Rattle.many_maps.specs.Given.TablesDeclared.node.Node.{Node}
use Rattle.many_maps.specs.Given.ResizeDeclared.yielding.Yielding.{Yielding}
use Rattle.many_maps.specs.Given.ResizeDeclared.yielding.Yielding.TheVariants as outcome
use Rattle.many_maps.specs.Given.TablesDeclared.table.Table.{Table}
use Rattle.many_maps.specs.Given.RawDeclared.machines.answer.KeyAnswer.{KeyAnswer}
use Rattle.many_maps.specs.Given.RawDeclared.machines.answer.KeyAnswer.TheVariants as answers
use Rattle.many_maps.specs.Given.RawDeclared.machines.answer.Called.{Called}
use Rattle.many_maps.specs.Given.RawDeclared.machines.answer.Called.TheVariants as called
use Rattle.many_maps.specs.Given.RawDeclared.machines.answer.End.{End}
use Rattle.many_maps.specs.Given.RawDeclared.machines.answer.End.TheVariants as ends
use Rattle.many_maps.specs.Given.RawDeclared.machines.answer.Missing.{Missing}
use Rattle.many_maps.specs.Given.RawDeclared.machines.answer.Missing.TheVariants as missing
use Rattle.many_maps.specs.Given.RawDeclared.machines.answer.There.{There}
use Rattle.many_maps.specs.Given.RawDeclared.machines.answer.There.TheVariants as there
use Rattle.many_maps.specs.Given.RawDeclared.machines.asking.Gap.{Gap}
use Rattle.many_maps.specs.Given.RawDeclared.machines.asking.Gap.TheVariants as gaps
use Rattle.many_maps.specs.Given.RawDeclared.machines.call.KeyCall.{KeyCall}
use Rattle.many_maps.specs.Given.RawDeclared.machines.call.Calling.{Calling}
use Rattle.many_maps.specs.Given.RawDeclared.machines.call.Calling.TheVariants as at
use Rattle.many_maps.specs.Given.ResizeDeclared.copier.Copier.{Copier}
use Rattle.many_maps.specs.Given.TablesDeclared.finding.Finding.{Finding}
use Rattle.many_maps.specs.Given.TablesDeclared.finding.Finding.TheVariants as finds
use Rattle.many_maps.specs.Given.ResizeDeclared.lookup.Lookup.{Lookup}
use Rattle.many_maps.specs.Given.ResizeDeclared.new_table.NewTable.{NewTable}
use Rattle.many_maps.specs.Given.PointsUnlinked.{has_unlinked}
use Rattle.many_maps.proofs.Given.PointsCalls.Asked.{asking_so, asking_of_so, passed_so}
use Rattle.many_maps.proofs.Given.RuleKeys.Always.{Always, AlwaysOf, always_if, always_plan_as, always_steps}
use Rattle.many_maps.proofs.Given.PointsCopiers.CopiersWhole.{unlinks_none}
use Rattle.many_maps.proofs.Given.PointsSteps.RootSteps.{call_is_promoting}
use Rattle.owner_facts.specs.Alone.Handed.{word_out, call_has_unlinked}

-- an answer tells no pair that was taken out of the map
abbrev pub TakesNone : KeyAnswer → Type 0
TakesNone (answers.Replaced old new) = ⊥
TakesNone (answers.Removed word) = ⊥
TakesNone _ = Unit {0}

abbrev pub TellsNone : {T : Type 0} → Called T → Type 0
TellsNone (called.Done answer) = TakesNone answer
TellsNone _ = Unit {0}

-- it is no disposal, nor has it ended
abbrev pub IsSeeking : Calling → Type 0
IsSeeking (at.Disposes dispose answer) = ⊥
IsSeeking (at.Over end) = ⊥
IsSeeking (at.Asks asking) = ⊥
IsSeeking _ = Unit {0}

module _ {K V Q : Type 0} where
  -- it has unlinked no table, and its disposal has only begun
  abbrev pub IsFreshAt : KeyCall K V Q → Calling → Type 0
  IsFreshAt p (at.Disposes dispose answer) = dispose ≡ disposing p.setting (word_out answer) p.trial.table
  IsFreshAt p stands = call_has_unlinked stands ≡ false

  abbrev pub IsFresh : KeyCall K V Q × Called (Node K V) → Type 0
  IsFresh end = IsFreshAt end.0 end.0.stands × TellsNone end.1

  abbrev Fresh : Then (Node K V) (KeyCall K V Q × Called (Node K V)) → Type 0
  Fresh rest = Always IsFresh rest

  either : (b : Bool) (x y : KeyCall K V Q × Called (Node K V)) → IsFresh x → IsFresh y → IsFresh (if b then x else y)
  either true x y f g = f
  either false x y f g = g

  fresh_ending : (p : KeyCall K V Q) (end : End) → TellsNone {T = Node K V} (ended end) → IsFresh (ending p end)
  fresh_ending p end none = either (p.own == 0) (over p end) (going p (at.Drops end)) (refl, none) (refl, tt)

  -- where it goes on from a point
  module _ (p : KeyCall K V Q) where
    fresh_missing : (gap : Gap) → IsFresh (asking_at gap p)
    fresh_missing = asking_so IsFresh p (λ word new. (refl, tt)) (λ asking. (refl, tt)) (λ asking asked. (refl, tt)) (refl, tt) (refl, tt) (refl, tt)

    fresh_tableless : (m : Missing) → IsFresh (tableless m p)
    fresh_tableless missing.Answers = fresh_ending p (ends.Answered answers.Absent) tt
    fresh_tableless missing.Puts = (refl, tt)
    fresh_tableless missing.Asks = fresh_missing gaps.NoTable

    fresh_free : (m : Missing) → IsFresh (at_free m p)
    fresh_free missing.Answers = fresh_ending p (ends.Answered answers.Absent) tt
    fresh_free missing.Puts = (refl, tt)
    fresh_free missing.Asks = fresh_missing gaps.Free

    fresh_last : (m : Missing) → IsFresh (at_last m p)
    fresh_last missing.Answers =
        either (is_incremental p.setting.mode) (ending p (ends.Answered answers.Absent)) (following_made p) (fresh_ending p (ends.Answered answers.Absent) tt) (refl, tt)
    fresh_last missing.Puts = (refl, tt)
    fresh_last missing.Asks = either (is_incremental p.setting.mode) (asking_at gaps.Last p) (following_made p) (fresh_missing gaps.Last) (refl, tt)

    fresh_pair : (t : There) (word : ℕ) → IsFresh (at_pair t p word)
    fresh_pair there.Answers word = fresh_ending p (ends.Answered (answers.Found word)) tt
    fresh_pair there.Puts word = (refl, tt)
    fresh_pair there.Removes word = (refl, tt)
    fresh_pair there.Asks word = asking_of_so IsFresh p (λ word new. (refl, tt)) (λ asking. (refl, tt)) (λ asking asked. (refl, tt)) word

    fresh_told : (loaded : Bool) (word : ℕ) (found : Finding) → IsFresh (after_finding loaded p word found)
    fresh_told loaded word finds.Free = fresh_free p.missing
    fresh_told loaded word finds.Passed =
        passed_so IsFresh (having_met p word) (λ next. (refl, tt)) (refl, tt) (λ e. fresh_ending (having_met p word) (ends.Answered answers.Absent) tt) (λ e untold. (refl, tt))
        (next_trial (with_met p.trial word))
    fresh_told loaded word finds.Moved = (refl, tt)
    fresh_told loaded word finds.Copying = either loaded (standing p at.Probes, called.Waits) (going p at.Probes) (refl, tt) (refl, tt)
    fresh_told loaded word finds.There = fresh_pair p.there word

    fresh_on : (table : Table) → IsFresh (continued_in p table)
    fresh_on table =
        either (is_incremental p.setting.mode) _ (going p (at.Copies (copying_all p.setting p.trial.table table)))
        (either p.helped (entering p table) _ (refl, tt) (refl, tt)) (copying (is_incremental p.setting.mode) _ _ refl refl, tt)
      where
        copying : (b : Bool) (x y : Copier) → has_unlinked x.stands ≡ false → has_unlinked y.stands ≡ false → has_unlinked (if b then x else y).stands ≡ false
        copying true x y f g = f
        copying false x y f g = g

    fresh_changed : (word new : ℕ) → IsFresh (changed p word new)
    fresh_changed word new =
        either (new == TOMBSTONE) (going p (at.Counts word)) _ (refl, tt)
        (either (word == 0) (going p (at.Counts 0)) (going p (at.Disposes (disposing p.setting word p.trial.table) (answers.Replaced word p.own))) (refl, tt) (refl, tt))

    fresh_counted : (removed : ℕ) → IsFresh (counted p removed)
    fresh_counted removed =
        either (removed == 0) (over p (ends.Answered (answers.Stored p.own))) (going p (at.Disposes (disposing p.setting removed p.trial.table) (answers.Removed removed))) (refl, tt) (refl, tt)

    -- what machines within it tell
    fresh_looked : (end : Lookup × Advance (Option ℕ)) → IsFresh (looked p end)
    fresh_looked (l, progress.Goes) = (refl, tt)
    fresh_looked (l, progress.Waits) = (refl, tt)
    fresh_looked (l, progress.Done (Some found)) = (refl, tt)
    fresh_looked (l, progress.Done None) = (refl, tt)
    fresh_looked (l, progress.Refused fault) = (refl, tt)

    fresh_first : (end : NewTable × Advance Table) → IsFresh (first_made p end)
    fresh_first (n, progress.Goes) = (refl, tt)
    fresh_first (n, progress.Waits) = (refl, tt)
    fresh_first (n, progress.Done table) = (refl, tt)
    fresh_first (n, progress.Refused fault) = fresh_ending p (ends.Refused fault) tt

    fresh_next : (end : NewTable × Advance Table) → IsFresh (next_made p end)
    fresh_next (n, progress.Goes) = (refl, tt)
    fresh_next (n, progress.Waits) = (refl, tt)
    fresh_next (n, progress.Done table) = fresh_on table
    fresh_next (n, progress.Refused fault) = fresh_ending p (ends.Refused fault) tt

    pub fresh_helped : (goal : Table) (end : Copier × Yielding (Node K V) Table) → has_unlinked end.0.stands ≡ false → IsFresh (helped p goal end)
    fresh_helped goal (copier, outcome.Goes) e = (e, tt)
    fresh_helped goal (copier, outcome.Waits) e = (e, tt)
    fresh_helped goal (copier, outcome.Gave value) e = (e, tt)
    fresh_helped goal (copier, outcome.Done table) e = (refl, tt)
    fresh_helped goal (copier, outcome.Refused fault) e = fresh_ending p (ends.Refused fault) tt

    pub fresh_copied : (end : Copier × Yielding (Node K V) Table) → has_unlinked end.0.stands ≡ false → IsFresh (copied p end)
    fresh_copied (copier, outcome.Goes) e = (e, tt)
    fresh_copied (copier, outcome.Waits) e = (e, tt)
    fresh_copied (copier, outcome.Gave value) e = (e, tt)
    fresh_copied (copier, outcome.Done table) e = (refl, tt)
    fresh_copied (copier, outcome.Refused fault) e = fresh_ending p (ends.Refused fault) tt

  -- what each operation's answer leads to
  module _ (asks : Q → K → Bool) (same : K → K → Bool) (hash : K → ℕ) (p : KeyCall K V Q) (self : IsFreshAt p p.stands) where
    stays : IsFresh (p, called.Goes)
    stays = (self, tt)

    on_made : (node : Option (Node K V)) → AlwaysOf IsFresh (makes_of p node)
    on_made None = (refl, tt)
    on_made (Some node) = by
      where
        by : (out : Out (Node K V)) → Fresh (made p out)
        by (Made (Ok block)) = (refl, tt)
        by (Made (Err back)) = (refl, tt)
        by (Found word) = stays
        by Stored = stays
        by (Exchanged r) = stays
        by (Taken value) = stays
        by (Roomed r) = stays

    on_looks : (l : Lookup) (asked : Option Q) → AlwaysOf IsFresh (looks_for asks p l asked)
    on_looks l (Some q) = always_plan_as IsFresh (looked p) (fresh_looked p) (lookup_plan (asks q) l)
    on_looks l None = (refl, tt)

    on_root : (out : Out (Node K V)) → Fresh (root_found p out)
    on_root (Found link) = always_if IsFresh (link == 0) _ _ (fresh_tableless p p.missing) (λ value. (refl, tt))
    on_root Stored = stays
    on_root (Exchanged r) = stays
    on_root (Made r) = stays
    on_root (Taken value) = stays
    on_root (Roomed r) = stays

    on_next : (out : Out (Node K V)) → Fresh (next_found p out)
    on_next (Found link) = always_if IsFresh (link == 0) _ _ (fresh_last p p.missing) (λ value. fresh_on p _)
    on_next Stored = stays
    on_next (Exchanged r) = stays
    on_next (Made r) = stays
    on_next (Taken value) = stays
    on_next (Roomed r) = stays

    on_key : (loaded : Bool) (word : ℕ) (key : Option K) → Fresh (key_read asks same loaded p word key)
    on_key loaded word (Some key) = λ value. fresh_told p loaded word _
    on_key loaded word None = λ own value. fresh_told p loaded word _

    on_pair : (loaded : Bool) (word : ℕ) (asked : Option Q) → Fresh (pair_read asks same loaded p word asked)
    on_pair loaded word (Some q) = λ value. fresh_told p loaded word _
    on_pair loaded word None = on_key loaded word p.replies.key

    on_word : (loaded : Bool) (word : ℕ) → Fresh (word_read asks same loaded p word)
    on_word loaded word = always_if IsFresh (may_name p.hash word) _ _ (on_pair loaded word p.asked) (fresh_told p loaded word _)

    on_found : (out : Out (Node K V)) → Fresh (word_found asks same p out)
    on_found (Found word) = on_word true word
    on_found Stored = stays
    on_found (Exchanged r) = stays
    on_found (Made r) = stays
    on_found (Taken value) = stays
    on_found (Roomed r) = stays

    on_tried : (word new : ℕ) (out : Out (Node K V)) → Fresh (tried asks same p word new out)
    on_tried word new (Exchanged (Ok found)) = fresh_changed p word new
    on_tried word new (Exchanged (Err found)) = on_word false found
    on_tried word new (Found found) = stays
    on_tried word new Stored = stays
    on_tried word new (Made r) = stays
    on_tried word new (Taken value) = stays
    on_tried word new (Roomed r) = stays

    on_dropped : (end : End) (out : Out (Node K V)) → Fresh (dropped p end out)
    on_dropped end (Taken value) = (refl, tt)
    on_dropped end (Found found) = stays
    on_dropped end Stored = stays
    on_dropped end (Exchanged r) = stays
    on_dropped end (Made r) = stays
    on_dropped end (Roomed r) = stays

    module _ (m m2 : Mem (Node K V)) (end : KeyCall K V Q × Called (Node K V)) where
      always_at : (stands : Calling) → AlwaysOf IsFresh (plan_at asks same hash p stands) → Steps Took value_at m (plan_at asks same hash p stands) m2 end → IsFresh end
      always_at stands all s = always_steps IsFresh m m2 (plan_at asks same hash p stands) end all s

      -- whatever its step comes to
      pub call_fresh : (stands : Calling) → IsSeeking stands → call_has_unlinked stands ≡ false → call_is_promoting stands ≡ false → Steps Took value_at m (plan_at asks same hash p stands) m2 end → IsFresh end
      call_fresh at.Makes so none other s = always_at at.Makes (on_made p.unmade) s
      call_fresh (at.Looks l) so none other s = always_at (at.Looks l) (on_looks l p.asked) s
      call_fresh at.Roots so none other s = always_at at.Roots on_root s
      call_fresh at.Probes so none other s = always_at at.Probes on_found s
      call_fresh (at.Tries word new) so none other s = always_at (at.Tries word new) (on_tried word new) s
      call_fresh (at.Counts removed) so none other s = always_at (at.Counts removed) (λ out. fresh_counted p removed) s
      call_fresh at.Nexts so none other s = always_at at.Nexts on_next s
      call_fresh (at.Firsts making) so none other s = always_at (at.Firsts making) (always_plan_as IsFresh (first_made p) (fresh_first p) (new_table_plan making)) s
      call_fresh (at.Allocs making) so none other s = always_at (at.Allocs making) (always_plan_as IsFresh (next_made p) (fresh_next p) (new_table_plan making)) s
      call_fresh (at.Helps copier goal) so none other s =
          let d = steps_back (helped p goal) m m2 (copier_plan hash copier) end s in
          subst IsFresh (sym d.2) (fresh_helped p goal d.0 (unlinks_none hash copier m m2 d.0 d.1 none other))
      call_fresh (at.Copies copier) so none other s =
          let d = steps_back (copied p) m m2 (copier_plan hash copier) end s in
          subst IsFresh (sym d.2) (fresh_copied p d.0 (unlinks_none hash copier m m2 d.0 d.1 none other))
      call_fresh (at.Asks asking) so none other s = absurd so
      call_fresh (at.Drops over) so none other s = always_at (at.Drops over) (on_dropped over) s
      call_fresh (at.Disposes dispose answer) so none other s = absurd so
      call_fresh (at.Over over) so none other s = absurd so
