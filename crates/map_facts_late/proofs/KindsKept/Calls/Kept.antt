-- A step of a call leaves what it does where its key is there, and where it is not, and what it comes to tell fits that.
use Rattle.std.specs.Prelude.{◌==◌, Option, Some, None, Ok, Err, if◌then◌else◌}
use Rattle.std.proofs.Common.{◌≡◌, ◌≢◌, ℕ, Bool, true, false, inl, refl, sym, subst, ◌∙◌, eqb-true}
use Rattle.std.proofs.lemmas.Bool.{eqb-false}
use Rattle.map_facts.specs.Given.SeizeWordsMem.{Mem, value_at, Took}
use Rattle.map_facts.specs.Given.SeizeWordsOp.{Out, Found, Stored, Exchanged, Made, Taken, Roomed}
use Rattle.map_facts.specs.Given.SeizeWordsPlan.{Then, Steps}
use Rattle.map_facts.specs.Given.SeizeDeclared.advance.Advance.{Advance}
use Rattle.map_facts.specs.Given.SeizeDeclared.advance.Advance.TheVariants as progress
use Rattle.map_facts.specs.Given.SeizeDeclared.rows.settle.Settled.{Settled}
use Rattle.map_facts.specs.Given.SeizeDeclared.rows.settle.Settled.TheVariants as settled
use Rattle.map_facts.proofs.Given.SeizeRuleRows.Leaving.{steps_back}
use Rattle.map_facts.specs.Given.RawAnswers.{ended}
use Rattle.map_facts.specs.Given.RawCall.{made, makes_of, root_found, next_found, dropped, key_read, pair_read, word_read, word_found, tried, looked, looks_for, first_made, next_made, disposed, helped, copied, plan_at}
use Rattle.map_facts.specs.Given.RawCallPoints.{aim_of, told, going, standing, over, ending, tableless, at_free, following_made, asking_at, at_last, at_pair, after_finding, entering, continued_in, changed, counted, having_met}
use Rattle.map_facts.specs.Given.TablesChunks.{is_incremental}
use Rattle.map_facts.specs.Given.ResizeCopier.{copier_plan}
use Rattle.map_facts.specs.Given.ResizeCopierStates.{copying_all, resting}
use Rattle.map_facts.specs.Given.ResizeDispose.{disposing, dispose_plan}
use Rattle.map_facts.specs.Given.TablesFinding.{may_name, finding}
use Rattle.map_facts.specs.Given.TablesDeclared.finding.Aim.{Aim}
use Rattle.map_facts.specs.Given.TablesDeclared.resize_mode.ResizeMode.{ResizeMode}
use Rattle.map_facts.specs.Given.ResizeLookup.{lookup_plan}
use Rattle.map_facts.specs.Given.ResizeLookup as lookups
use Rattle.map_facts.specs.Given.ResizeNewTable.{new_table_plan}
use Rattle.map_facts.specs.Given.TablesTrials.{next_trial, with_met}
use Rattle.map_facts.specs.Given.TablesDeclared.lengths.TheConstants.{FIRST_LEN}
use Rattle.map_facts.specs.Given.TablesDeclared.marks.TheConstants.{TOMBSTONE}
use Rattle.map_facts.specs.Given.TablesDeclared.node.Node.{Node}
use Rattle.map_facts.specs.Given.ResizeDeclared.yielding.Yielding.{Yielding}
use Rattle.map_facts.specs.Given.ResizeDeclared.yielding.Yielding.TheVariants as outcome
use Rattle.map_facts.specs.Given.TablesDeclared.setting.Setting.{Setting}
use Rattle.map_facts.specs.Given.TablesDeclared.table.Table.{Table}
use Rattle.map_facts.specs.Given.RawDeclared.machines.answer.KeyAnswer.{KeyAnswer}
use Rattle.map_facts.specs.Given.RawDeclared.machines.answer.KeyAnswer.TheVariants as answers
use Rattle.map_facts.specs.Given.RawDeclared.machines.answer.Called.{Called}
use Rattle.map_facts.specs.Given.RawDeclared.machines.answer.Called.TheVariants as called
use Rattle.map_facts.specs.Given.RawDeclared.machines.answer.End.{End}
use Rattle.map_facts.specs.Given.RawDeclared.machines.answer.End.TheVariants as ends
use Rattle.map_facts.specs.Given.RawDeclared.machines.answer.Missing.{Missing}
use Rattle.map_facts.specs.Given.RawDeclared.machines.answer.Missing.TheVariants as missing
use Rattle.map_facts.specs.Given.RawDeclared.machines.answer.There.{There}
use Rattle.map_facts.specs.Given.RawDeclared.machines.answer.There.TheVariants as there
use Rattle.map_facts.specs.Given.RawDeclared.machines.asking.Gap.{Gap}
use Rattle.map_facts.specs.Given.RawDeclared.machines.asking.Gap.TheVariants as gaps
use Rattle.map_facts.specs.Given.RawDeclared.machines.asking.Takes.{Takes}
use Rattle.map_facts.specs.Given.RawDeclared.machines.asking.Takes.TheVariants as kinds
use Rattle.map_facts.specs.Given.RawDeclared.machines.asking.Told.{Told}
use Rattle.map_facts.specs.Given.RawDeclared.machines.asking.Told.TheVariants as tells
use Rattle.map_facts.specs.Given.RawReplies.{untold}
use Rattle.map_facts.specs.Given.RawDeclared.machines.call.KeyCall.{KeyCall}
use Rattle.map_facts.specs.Given.RawDeclared.machines.call.Calling.{Calling}
use Rattle.map_facts.specs.Given.RawDeclared.machines.call.Calling.TheVariants as at
use Rattle.map_facts.specs.Given.ResizeDeclared.copier.Copier.{Copier}
use Rattle.map_facts.specs.Given.ResizeDeclared.copier.Copying.TheVariants as copies
use Rattle.map_facts.specs.Given.ResizeDeclared.dispose.Dispose.{Dispose}
use Rattle.map_facts.specs.Given.TablesDeclared.finding.Finding.{Finding}
use Rattle.map_facts.specs.Given.TablesDeclared.finding.Finding.TheVariants as finds
use Rattle.map_facts.specs.Given.ResizeDeclared.lookup.Lookup.{Lookup}
use Rattle.map_facts.specs.Given.ResizeDeclared.lookup.Looking.{Looking}
use Rattle.map_facts.specs.Given.ResizeDeclared.lookup.Looking.TheVariants as looks
use Rattle.map_facts.specs.Given.ResizeDeclared.new_table.NewTable.{NewTable}
use Rattle.map_facts.specs.Given.TablesDeclared.trial.Trial.{Trial}
use Rattle.map_facts.proofs.Calls.Asked.{passed_so}
use Rattle.map_facts.proofs.Given.RuleKeys.Always.{Always, AlwaysOf, always_if, always_plan_as, always_steps}
use Rattle.map_facts_late.specs.Faults.{RoomInCopying}
use Rattle.map_facts_late.specs.Kinds.{RepliesFit, IsMore, Fits, FitsStore, FitsExchange, FitsCount, OverFits, FitsAt, OutcomeFits, IsFit, StepFits, KindsBegin, AskingKindsBegin, CallsPreserveTheirKind}
use Rattle.map_facts_late.proofs.KindsKept.Calls.Asked.{word_no_tombstone, either, fit_over, fit_ending, fit_puts, fit_removes, fit_following, fit_asking, fit_asking_of, on_asks}
use Rattle.map_facts_late.proofs.KindsKept.Rooms.Copying.{CopiesRoom, copier_rooms}
use Rattle.map_facts_late.proofs.KindsKept.Rooms.Making.{MakesRoom, new_table_rooms, first_table_room}

-- a lookup is never refused
abbrev pub LooksOn : Lookup × Advance (Option ℕ) → Type 0
LooksOn (l, progress.Refused fault) = ⊥
LooksOn (l, _) = Unit {0}

module _ (l : Lookup) where
  either_on : (b : Bool) (x y : Lookup × Advance (Option ℕ)) → LooksOn x → LooksOn y → LooksOn (if b then x else y)
  either_on true x y f g = f
  either_on false x y f g = g

  on_passed : (table : Table) (trial : Option Trial) → LooksOn (lookups.passed l table trial)
  on_passed table (Some trial) = tt
  on_passed table None = either_on (is_incremental l.mode) _ _ tt tt

  on_told : (trial : Trial) (word : ℕ) (found : Finding) → LooksOn (lookups.after_finding l trial word found)
  on_told trial word finds.Free = tt
  on_told trial word finds.Passed = on_passed trial.table (next_trial trial)
  on_told trial word finds.Moved = tt
  on_told trial word finds.Copying = tt
  on_told trial word finds.There = tt

  module _ {K V : Type 0} where
    on_link : (out : Out (Node K V)) → Always LooksOn (lookups.link_found l out)
    on_link (Found link) = always_if LooksOn (link == 0) _ _ tt (λ value. tt)
    on_link Stored = tt
    on_link (Exchanged r) = tt
    on_link (Made r) = tt
    on_link (Taken value) = tt
    on_link (Roomed r) = tt

    on_read : (keys : K → Bool) (trial : Trial) (out : Out (Node K V)) → Always LooksOn (lookups.word_found keys l trial out)
    on_read keys trial (Found word) = always_if LooksOn (may_name l.hash word) _ _ (λ value. on_told trial word _) (on_told trial word _)
    on_read keys trial Stored = tt
    on_read keys trial (Exchanged r) = tt
    on_read keys trial (Made r) = tt
    on_read keys trial (Taken value) = tt
    on_read keys trial (Roomed r) = tt

    pub looks_on : (keys : K → Bool) (m m2 : Mem (Node K V)) (end : Lookup × Advance (Option ℕ)) → Steps Took value_at m (lookup_plan keys l) m2 end → LooksOn end
    looks_on keys m m2 end s = by l.stands s
      where
        by : (stands : Looking) → Steps Took value_at m (lookups.plan_at keys l stands) m2 end → LooksOn end
        by looks.Roots s = always_steps LooksOn m m2 (lookups.plan_at keys l looks.Roots) end on_link s
        by (looks.Probes trial) s = always_steps LooksOn m m2 (lookups.plan_at keys l (looks.Probes trial)) end (on_read keys trial) s
        by (looks.Nexts table) s = always_steps LooksOn m m2 (lookups.plan_at keys l (looks.Nexts table)) end on_link s
        by (looks.Over found) s = always_steps LooksOn m m2 (lookups.plan_at keys l (looks.Over found)) end tt s

-- a word that names the pair that is looked for is not that of an empty place
there_names : (mode : ResizeMode) (aim : Aim) (word : ℕ) (named : Bool) → finding mode aim word named ≡ finds.There → word ≢ 0
there_names mode aim word named e z = let empty : finding mode aim 0 named ≡ finds.There = subst (λ (x : ℕ). finding mode aim x named ≡ finds.There) z e in cc empty

-- a copying that begins
copying_room : (setting : Setting) (source target : Table) → RoomInCopying (copying_all setting source target).stands
copying_room setting source target = by (is_incremental setting.mode)
  where
    by : (b : Bool) → RoomInCopying (if b then record (resting setting true source target copies.Marks) { end = source.len } else resting setting true source target copies.Asks).stands
    by true = tt
    by false = tt

module _ {K V Q : Type 0} (present : There) (absent : Missing) (takes : Takes) where
  abbrev Fit : Then (Node K V) (KeyCall K V Q × Called (Node K V)) → Type 0
  Fit rest = Always (StepFits present absent takes) rest

  -- where it goes on from a point
  module _ (p : KeyCall K V Q) (is_there : p.there ≡ present) (is_missing : p.missing ≡ absent) (is_told : RepliesFit takes p.replies) (is_own : p.own ≢ TOMBSTONE) where
    ended_fits : (end : End) → OverFits present absent takes end → StepFits present absent takes (over p end)
    ended_fits end fits = fit_over present absent takes p is_there is_missing is_told is_own end fits

    ending_fits : (end : End) → OverFits present absent takes end → StepFits present absent takes (ending p end)
    ending_fits end fits = fit_ending present absent takes p is_there is_missing is_told is_own end fits

    fit_absent : p.missing ≡ missing.Answers → StepFits present absent takes (ending p (ends.Answered answers.Absent))
    fit_absent e = ending_fits (ends.Answered answers.Absent) (inl (sym is_missing ∙ e))

    fit_changed : (word new : ℕ) → FitsExchange present absent takes word new → StepFits present absent takes (changed p word new)
    fit_changed word new fits =
        either present absent takes (new == TOMBSTONE) (going p (at.Counts word)) _
        (λ e. let t = fits.0 (eqb-true new TOMBSTONE e) in ((is_there, is_missing, is_told, is_own, ((λ z. absurd (t.0 z)), (λ n. t.1))), tt))
        (λ e. let o = fits.1 (eqb-false new TOMBSTONE e) in
        either present absent takes (word == 0) (going p (at.Counts 0)) (going p (at.Disposes (disposing p.setting word p.trial.table) (answers.Replaced word p.own)))
        (λ z. ((is_there, is_missing, is_told, is_own, ((λ q. o.0 (eqb-true word 0 z)), (λ n. absurd (n refl)))), tt))
        (λ z. ((is_there, is_missing, is_told, is_own, o.1 (eqb-false word 0 z)), tt)))

    fit_counted : (removed : ℕ) → FitsCount present absent takes removed → StepFits present absent takes (counted p removed)
    fit_counted removed fits =
        either present absent takes (removed == 0) (over p (ends.Answered (answers.Stored p.own))) (going p (at.Disposes (disposing p.setting removed p.trial.table) (answers.Removed removed)))
        (λ z. let f = fits.0 (eqb-true removed 0 z) in ((is_there, is_missing, is_told, is_own, f), f)) (λ z. ((is_there, is_missing, is_told, is_own, fits.1 (eqb-false removed 0 z)), tt))

    fit_looked : (present ≡ there.Answers) × (absent ≡ missing.Answers) → (end : Lookup × Advance (Option ℕ)) → LooksOn end → StepFits present absent takes (looked p end)
    fit_looked fits (l, progress.Goes) on = ((is_there, is_missing, is_told, is_own, fits), tt)
    fit_looked fits (l, progress.Waits) on = ((is_there, is_missing, is_told, is_own, fits), tt)
    fit_looked fits (l, progress.Done (Some found)) on = ended_fits (ends.Answered (answers.Found found)) (inl fits.0)
    fit_looked fits (l, progress.Done None) on = ended_fits (ends.Answered answers.Absent) (inl fits.1)
    fit_looked fits (l, progress.Refused fault) on = absurd on

    fit_disposed : (answer : KeyAnswer) → Fits present absent takes answer → (end : Dispose × Settled (Node K V)) → StepFits present absent takes (disposed p answer end)
    fit_disposed answer fits (d, settled.Goes) = ((is_there, is_missing, is_told, is_own, fits), tt)
    fit_disposed answer fits (d, settled.Waits) = ((is_there, is_missing, is_told, is_own, fits), tt)
    fit_disposed answer fits (d, settled.Gave value) = ((is_there, is_missing, is_told, is_own, fits), tt)
    fit_disposed answer fits (d, settled.Done) = ended_fits (ends.Answered answer) fits

    -- one that is more than a lookup
    module _ (more : IsMore present absent takes) where
      asking_fits : p.missing ≡ missing.Asks → (gap : Gap) → StepFits present absent takes (asking_at gap p)
      asking_fits e gap = fit_asking present absent takes p is_there is_missing is_told is_own (sym is_missing ∙ e) gap

      following_fits : StepFits present absent takes (following_made p)
      following_fits = fit_following present absent takes p is_there is_missing is_told is_own more

      puts_fit : (word : ℕ) → FitsStore present absent takes word → StepFits present absent takes (going p (at.Tries word p.own))
      puts_fit word fits = fit_puts present absent takes p is_there is_missing is_told is_own more word fits

      fit_tableless : (m : Missing) → p.missing ≡ m → StepFits present absent takes (tableless m p)
      fit_tableless missing.Answers e = fit_absent e
      fit_tableless missing.Puts e = ((is_there, is_missing, is_told, is_own, (more, first_table_room p.setting FIRST_LEN)), tt)
      fit_tableless missing.Asks e = asking_fits e gaps.NoTable

      fit_free : (m : Missing) → p.missing ≡ m → StepFits present absent takes (at_free m p)
      fit_free missing.Answers e = fit_absent e
      fit_free missing.Puts e = puts_fit 0 ((λ z. inl (sym is_missing ∙ e)), (λ n. absurd (n refl)))
      fit_free missing.Asks e = asking_fits e gaps.Free

      fit_last : (m : Missing) → p.missing ≡ m → StepFits present absent takes (at_last m p)
      fit_last missing.Answers e =
          either present absent takes (is_incremental p.setting.mode) (ending p (ends.Answered answers.Absent)) (following_made p) (λ i. fit_absent e) (λ i. following_fits)
      fit_last missing.Puts e = following_fits
      fit_last missing.Asks e = either present absent takes (is_incremental p.setting.mode) (asking_at gaps.Last p) (following_made p) (λ i. asking_fits e gaps.Last) (λ i. following_fits)

      fit_pair : (t : There) → p.there ≡ t → (word : ℕ) → word ≢ 0 → StepFits present absent takes (at_pair t p word)
      fit_pair there.Answers e word some = ending_fits (ends.Answered (answers.Found word)) (inl (sym is_there ∙ e))
      fit_pair there.Puts e word some = puts_fit word ((λ z. absurd (some z)), (λ n. inl (sym is_there ∙ e)))
      fit_pair there.Removes e word some = fit_removes present absent takes p is_there is_missing is_told is_own more word some (inl (sym is_there ∙ e))
      fit_pair there.Asks e word some = fit_asking_of present absent takes p is_there is_missing is_told is_own (sym is_there ∙ e) word some

      fit_told : (loaded : Bool) (word : ℕ) (named : Bool) → StepFits present absent takes (told loaded p word named)
      fit_told loaded word named = by (finding p.setting.mode (aim_of p.missing) word named) refl
        where
          by : (found : Finding) → finding p.setting.mode (aim_of p.missing) word named ≡ found → StepFits present absent takes (after_finding loaded p word found)
          by finds.Free e = fit_free p.missing refl
          by finds.Passed e =
              passed_so (StepFits present absent takes) (having_met p word) (λ next. ((is_there, is_missing, is_told, is_own, more), tt)) ((is_there, is_missing, is_told, is_own, more), tt)
              (λ none. fit_ending present absent takes (having_met p word) is_there is_missing is_told is_own (ends.Answered answers.Absent) (inl (sym is_missing ∙ none)))
              (λ asks untold. ((is_there, is_missing, is_told, is_own, sym is_missing ∙ asks), sym is_missing ∙ asks)) (next_trial (with_met p.trial word))
          by finds.Moved e = ((is_there, is_missing, is_told, is_own, more), tt)
          by finds.Copying e =
              either present absent takes loaded (standing p at.Probes, called.Waits) (going p at.Probes) (λ q. ((is_there, is_missing, is_told, is_own, more), tt)) (λ q. ((is_there, is_missing, is_told, is_own, more), tt))
          by finds.There e = fit_pair p.there refl word (there_names p.setting.mode (aim_of p.missing) word named e)

      fit_on : (table : Table) → StepFits present absent takes (continued_in p table)
      fit_on table =
          either present absent takes (is_incremental p.setting.mode) _ (going p (at.Copies (copying_all p.setting p.trial.table table)))
          (λ e. either present absent takes p.helped (entering p table) _ (λ h. ((is_there, is_missing, is_told, is_own, more), tt)) (λ h. ((is_there, is_missing, is_told, is_own, (more, tt)), tt)))
          (λ e. ((is_there, is_missing, is_told, is_own, (more, copying_room p.setting p.trial.table table)), tt))

      -- what machines within it tell
      fit_first : (end : NewTable × Advance Table) → MakesRoom end → StepFits present absent takes (first_made p end)
      fit_first (n, progress.Goes) room = ((is_there, is_missing, is_told, is_own, (more, room)), tt)
      fit_first (n, progress.Waits) room = ((is_there, is_missing, is_told, is_own, (more, room)), tt)
      fit_first (n, progress.Done table) room = ((is_there, is_missing, is_told, is_own, more), tt)
      fit_first (n, progress.Refused fault) room = ending_fits (ends.Refused fault) (inl (more, room.1))

      fit_next : (end : NewTable × Advance Table) → MakesRoom end → StepFits present absent takes (next_made p end)
      fit_next (n, progress.Goes) room = ((is_there, is_missing, is_told, is_own, (more, room)), tt)
      fit_next (n, progress.Waits) room = ((is_there, is_missing, is_told, is_own, (more, room)), tt)
      fit_next (n, progress.Done table) room = fit_on table
      fit_next (n, progress.Refused fault) room = ending_fits (ends.Refused fault) (inl (more, room.1))

      fit_helped : (goal : Table) (end : Copier × Yielding (Node K V) Table) → CopiesRoom end → StepFits present absent takes (helped p goal end)
      fit_helped goal (copier, outcome.Goes) room = ((is_there, is_missing, is_told, is_own, (more, room.0)), tt)
      fit_helped goal (copier, outcome.Waits) room = ((is_there, is_missing, is_told, is_own, (more, room.0)), tt)
      fit_helped goal (copier, outcome.Gave value) room = ((is_there, is_missing, is_told, is_own, (more, room.0)), tt)
      fit_helped goal (copier, outcome.Done table) room = ((is_there, is_missing, is_told, is_own, more), tt)
      fit_helped goal (copier, outcome.Refused fault) room = ending_fits (ends.Refused fault) (inl (more, room.1))

      fit_copied : (end : Copier × Yielding (Node K V) Table) → CopiesRoom end → StepFits present absent takes (copied p end)
      fit_copied (copier, outcome.Goes) room = ((is_there, is_missing, is_told, is_own, (more, room.0)), tt)
      fit_copied (copier, outcome.Waits) room = ((is_there, is_missing, is_told, is_own, (more, room.0)), tt)
      fit_copied (copier, outcome.Gave value) room = ((is_there, is_missing, is_told, is_own, (more, room.0)), tt)
      fit_copied (copier, outcome.Done table) room = ((is_there, is_missing, is_told, is_own, more), tt)
      fit_copied (copier, outcome.Refused fault) room = ending_fits (ends.Refused fault) (inl (more, room.1))

  -- what each operation's answer leads to
  module _ (asks : Q → K → Bool) (same : K → K → Bool) (hash : K → ℕ) (p : KeyCall K V Q) (is : IsFit present absent takes p) where
    stays : StepFits present absent takes (p, called.Goes)
    stays = (is, tt)

    on_dropped : (end : End) → OverFits present absent takes end → (out : Out (Node K V)) → Fit (dropped p end out)
    on_dropped end fits (Taken value) = ((is.0, is.1, is.2, (λ e. absurd (cc e)), fits), tt)
    on_dropped end fits (Found found) = stays
    on_dropped end fits Stored = stays
    on_dropped end fits (Exchanged r) = stays
    on_dropped end fits (Made r) = stays
    on_dropped end fits (Roomed r) = stays

    on_over : (end : End) → OverFits present absent takes end → OutcomeFits present absent takes {T = Node K V} (ended end)
    on_over (ends.Answered answer) fits = fits
    on_over (ends.Refused fault) fits = fits

    module _ (more : IsMore present absent takes) where
      on_made : (node : Option (Node K V)) → AlwaysOf (StepFits present absent takes) (makes_of p node)
      on_made None = ((is.0, is.1, is.2, is.3, more), tt)
      on_made (Some node) = by
        where
          by : (out : Out (Node K V)) → Fit (made p out)
          by (Made (Ok block)) = ((is.0, is.1, is.2, word_no_tombstone block p.hash, more), tt)
          by (Made (Err back)) = ((is.0, is.1, is.2, is.3, inl (more, inl refl)), tt)
          by (Found word) = stays
          by Stored = stays
          by (Exchanged r) = stays
          by (Taken value) = stays
          by (Roomed r) = stays

      on_root : (out : Out (Node K V)) → Fit (root_found p out)
      on_root (Found link) = always_if (StepFits present absent takes) (link == 0) _ _ (fit_tableless p is.0 is.1 is.2 is.3 more p.missing refl) (λ value. ((is.0, is.1, is.2, is.3, more), tt))
      on_root Stored = stays
      on_root (Exchanged r) = stays
      on_root (Made r) = stays
      on_root (Taken value) = stays
      on_root (Roomed r) = stays

      on_next : (out : Out (Node K V)) → Fit (next_found p out)
      on_next (Found link) = always_if (StepFits present absent takes) (link == 0) _ _ (fit_last p is.0 is.1 is.2 is.3 more p.missing refl) (λ value. fit_on p is.0 is.1 is.2 is.3 more _)
      on_next Stored = stays
      on_next (Exchanged r) = stays
      on_next (Made r) = stays
      on_next (Taken value) = stays
      on_next (Roomed r) = stays

      on_key : (loaded : Bool) (word : ℕ) (key : Option K) → Fit (key_read asks same loaded p word key)
      on_key loaded word (Some key) = λ value. fit_told p is.0 is.1 is.2 is.3 more loaded word _
      on_key loaded word None = λ own value. fit_told p is.0 is.1 is.2 is.3 more loaded word _

      on_pair : (loaded : Bool) (word : ℕ) (asked : Option Q) → Fit (pair_read asks same loaded p word asked)
      on_pair loaded word (Some q) = λ value. fit_told p is.0 is.1 is.2 is.3 more loaded word _
      on_pair loaded word None = on_key loaded word p.replies.key

      on_word : (loaded : Bool) (word : ℕ) → Fit (word_read asks same loaded p word)
      on_word loaded word = always_if (StepFits present absent takes) (may_name p.hash word) _ _ (on_pair loaded word p.asked) (fit_told p is.0 is.1 is.2 is.3 more loaded word false)

      on_found : (out : Out (Node K V)) → Fit (word_found asks same p out)
      on_found (Found word) = on_word true word
      on_found Stored = stays
      on_found (Exchanged r) = stays
      on_found (Made r) = stays
      on_found (Taken value) = stays
      on_found (Roomed r) = stays

      on_tried : (word new : ℕ) → FitsExchange present absent takes word new → (out : Out (Node K V)) → Fit (tried asks same p word new out)
      on_tried word new fits (Exchanged (Ok found)) = fit_changed p is.0 is.1 is.2 is.3 word new fits
      on_tried word new fits (Exchanged (Err found)) = on_word false found
      on_tried word new fits (Found found) = stays
      on_tried word new fits Stored = stays
      on_tried word new fits (Made r) = stays
      on_tried word new fits (Taken value) = stays
      on_tried word new fits (Roomed r) = stays

    module _ (m m2 : Mem (Node K V)) (end : KeyCall K V Q × Called (Node K V)) where
      on_looks : (present ≡ there.Answers) × (absent ≡ missing.Answers) → (l : Lookup) (asked : Option Q) → Steps Took value_at m (looks_for asks p l asked) m2 end → StepFits present absent takes end
      on_looks fits l (Some q) s =
          let d = steps_back (looked p) m m2 (lookup_plan (asks q) l) end s in
          subst (StepFits present absent takes) (sym d.2) (fit_looked p is.0 is.1 is.2 is.3 fits d.0 (looks_on l (asks q) m m2 d.0 d.1))
      on_looks fits l None s = subst (StepFits present absent takes) (sym s.1) (ended_fits p is.0 is.1 is.2 is.3 (ends.Answered answers.Absent) (inl fits.1))

      always_at : (stands : Calling) → AlwaysOf (StepFits present absent takes) (plan_at asks same hash p stands) → Steps Took value_at m (plan_at asks same hash p stands) m2 end → StepFits present absent takes end
      always_at stands all s = always_steps (StepFits present absent takes) m m2 (plan_at asks same hash p stands) end all s

      -- whatever its step comes to
      fits_from : (stands : Calling) → FitsAt present absent takes stands → Steps Took value_at m (plan_at asks same hash p stands) m2 end → StepFits present absent takes end
      fits_from at.Makes fits s = always_at at.Makes (on_made fits p.unmade) s
      fits_from (at.Looks l) fits s = on_looks fits l p.asked s
      fits_from at.Roots fits s = always_at at.Roots (on_root fits) s
      fits_from at.Probes fits s = always_at at.Probes (on_found fits) s
      fits_from (at.Tries word new) fits s = always_at (at.Tries word new) (on_tried fits.0 word new fits.1) s
      fits_from (at.Counts removed) fits s = always_at (at.Counts removed) (λ out. fit_counted p is.0 is.1 is.2 is.3 removed fits) s
      fits_from at.Nexts fits s = always_at at.Nexts (on_next fits) s
      fits_from (at.Firsts making) fits s =
          let d = steps_back (first_made p) m m2 (new_table_plan making) end s in
          subst (StepFits present absent takes) (sym d.2) (fit_first p is.0 is.1 is.2 is.3 fits.0 d.0 (new_table_rooms making fits.1 m m2 d.0 d.1))
      fits_from (at.Allocs making) fits s =
          let d = steps_back (next_made p) m m2 (new_table_plan making) end s in
          subst (StepFits present absent takes) (sym d.2) (fit_next p is.0 is.1 is.2 is.3 fits.0 d.0 (new_table_rooms making fits.1 m m2 d.0 d.1))
      fits_from (at.Helps copier goal) fits s =
          let d = steps_back (helped p goal) m m2 (copier_plan hash copier) end s in
          subst (StepFits present absent takes) (sym d.2) (fit_helped p is.0 is.1 is.2 is.3 fits.0 goal d.0 (copier_rooms K V hash copier fits.1 m m2 d.0 d.1))
      fits_from (at.Copies copier) fits s =
          let d = steps_back (copied p) m m2 (copier_plan hash copier) end s in
          subst (StepFits present absent takes) (sym d.2) (fit_copied p is.0 is.1 is.2 is.3 fits.0 d.0 (copier_rooms K V hash copier fits.1 m m2 d.0 d.1))
      fits_from (at.Asks asking) fits s = always_at (at.Asks asking) (on_asks present absent takes p is asking fits) s
      fits_from (at.Disposes dispose answer) fits s =
          always_at (at.Disposes dispose answer) (always_plan_as (StepFits present absent takes) (disposed p answer) (fit_disposed p is.0 is.1 is.2 is.3 answer fits) (dispose_plan dispose)) s
      fits_from (at.Drops last) fits s = always_at (at.Drops last) (on_dropped last fits) s
      fits_from (at.Over last) fits s = always_at (at.Over last) (is, on_over last fits) s

    pub call_fits : (m m2 : Mem (Node K V)) (end : KeyCall K V Q × Called (Node K V)) → Steps Took value_at m (plan_at asks same hash p p.stands) m2 end → StepFits present absent takes end
    call_fits m m2 end s = fits_from m m2 end p.stands is.4 s

-- nothing was told of a pair yet
pub untold_fits : {K V : Type 0} (kind : Takes) (key : Option K) (absent : Told V) → RepliesFit kind (untold kind key absent)
untold_fits kind key absent = record { takes_is = refl; removes = λ e. cc e; choices = λ e. refl }

-- the four kinds that never ask
pub kinds_begin : (K V Q : Type 0) → KindsBegin K V Q
kinds_begin K V Q setting code q key value = (
  (refl, refl, untold_fits kinds.Nothing None tells.Nothing, (λ e. absurd (cc e)), (refl, refl)),
  (refl, refl, untold_fits kinds.Nothing None tells.Nothing, (λ e. absurd (cc e)), (λ present absent. cc present)),
  (refl, refl, untold_fits kinds.Nothing None tells.Nothing, (λ e. absurd (cc e)), (λ present absent. cc present)),
  (refl, refl, untold_fits kinds.Nothing None tells.Nothing, (λ e. absurd (cc e)), (λ present absent. cc absent)),
)

-- and the five that do
pub asking_kinds_begin : (K V Q : Type 0) → AskingKindsBegin K V Q
asking_kinds_begin K V Q setting code q key absent = (
  (refl, refl, untold_fits kinds.Changes (Some key) tells.Nothing, (λ e. absurd (cc e)), (λ present absent. cc present)),
  (refl, refl, untold_fits kinds.Values (Some key) tells.Nothing, (λ e. absurd (cc e)), (λ present absent. cc present)),
  (refl, refl, untold_fits kinds.Values (Some key) absent, (λ e. absurd (cc e)), (λ present absent. cc present)),
  (refl, refl, untold_fits kinds.Values (Some key) tells.Nothing, (λ e. absurd (cc e)), (λ present absent. cc absent)),
  (refl, refl, untold_fits kinds.Choices None tells.Nothing, (λ e. absurd (cc e)), (λ present absent. cc present)),
)

pub kinds_kept : (K V Q : Type 0) → CallsPreserveTheirKind K V Q
kinds_kept K V Q asks same hash present absent takes p is m m2 end s = call_fits present absent takes asks same hash p is m m2 end s
