-- A call on one key waits at a try, or within its copying, or within a row of the collector: so its plan says, whatever the memory is.
use Rattle.std.specs.Prelude.{◌==◌, ◌&&◌, if◌then◌else◌, Option, Some, None}
use Rattle.std.proofs.Common.{◌≡◌, ◌≢◌, ℕ, Bool, true, false, inl, inr, refl, ap, sym, subst, ◌∙◌}
use Rattle.std.proofs.lemmas.Bool.{eqb-false}
use Rattle.seize_words.specs.OneMemory.Word.{block_in}
use Rattle.seize_words.specs.OneMemory.Mem.{Mem, Took, value_at, word_at}
use Rattle.seize_words.specs.OneMemory.Plan.{Now, Ends, Steps}
use Rattle.seize_words.proofs.OneMemory.OneOwner.Operations.{loaded}
use Rattle.seize_words.proofs.OneMemory.Plans.{ends_if}
use Rattle.seize_acts.proofs.Given.SeizeRuleRows.Leaving.{steps_back}
use Rattle.map_tables.specs.Chunks.{is_incremental}
use Rattle.map_tables.specs.Finding.{finding, may_name, vacant, shut, marked}
use Rattle.map_tables.specs.Marks.{has_mark}
use Rattle.map_tables.specs.Trials.{place_tried}
use Rattle.map_tables.specs.declared.finding.Aim.{Aim}
use Rattle.map_tables.specs.declared.finding.Aim.TheVariants.{Looks, Changes, Stores}
use Rattle.map_tables.specs.declared.finding.Finding.{Finding}
use Rattle.map_tables.specs.declared.finding.Finding.TheVariants as is
use Rattle.map_tables.specs.declared.marks.TheConstants.{COPYING, COPIED}
use Rattle.map_tables.specs.declared.node.Node.{Node}
use Rattle.map_tables.specs.declared.resize_mode.ResizeMode.{ResizeMode}
use Rattle.map_tables.specs.declared.table.Table.{Table}
use Rattle.many_calls.specs.Given.RawCall.{have_one_key, key_read, pair_read, word_found, helped, copied, plan_at, call_plan}
use Rattle.many_calls.specs.Given.RawCallPoints.{aim_of, standing, after_finding, told}
use Rattle.many_calls.specs.Given.RawDeclared.machines.answer.Called.{Called}
use Rattle.many_calls.specs.Given.RawDeclared.machines.answer.Called.TheVariants as called
use Rattle.many_calls.specs.Given.RawDeclared.machines.answer.End.TheVariants as ends
use Rattle.many_calls.specs.Given.RawDeclared.machines.call.KeyCall.{KeyCall}
use Rattle.many_calls.specs.Given.RawDeclared.machines.call.Calling.{Calling}
use Rattle.many_calls.specs.Given.RawDeclared.machines.call.Calling.TheVariants as at
use Rattle.map_machines.specs.Copier.{copier_plan}
use Rattle.map_machines.specs.Lookup.{names_pair}
use Rattle.map_machines.specs.declared.copier.Copier.{Copier}
use Rattle.map_machines.specs.declared.yielding.Yielding.{Yielding}
use Rattle.map_machines.specs.declared.yielding.Yielding.TheVariants as outcome
use Rattle.many_calls.specs.Given.PointsTold.{IsRowOfCall}
use Rattle.many_calls.proofs.Given.RuleKeys.Always.{always_steps}
use Rattle.map_measures.proofs.Waits.CallPlans.{Continues, ending_goes, told_goes, goes_at}
use Rattle.map_measures.proofs.Waits.Copiers.{Sees, copier_waits}

-- in incremental mode alone, a pair of the key is found that is being copied: its word has the one mark and not the other
pub finding_copying : (mode : ResizeMode) (aim : Aim) (word : ℕ) (flag : Bool) → finding mode aim word flag ≡ is.Copying
    → (is_incremental mode ≡ true) × (block_in word ≢ 0) × (has_mark word COPYING ≡ true) × (has_mark word COPIED ≡ false)
finding_copying mode aim word flag e = by (block_in word == 0) (is_incremental mode) (has_mark word COPIED) (has_mark word COPYING) flag refl refl refl refl e
  where
    vacant_not : (b : Bool) (x : Aim) → vacant b x word ≢ is.Copying
    vacant_not b x e = none (word == 0) (word == COPYING) b x e
      where
        shut_not : (x : Aim) → shut x ≢ is.Copying
        shut_not Looks e = cc e
        shut_not Changes e = cc e
        shut_not Stores e = cc e

        none : (z m b : Bool) (x : Aim) → (if z then is.Free else (if m then (if b then is.Passed else shut x) else is.Passed)) ≢ is.Copying
        none true m b x e = cc e
        none false true true x e = cc e
        none false true false x e = shut_not x e
        none false false b x e = cc e

    marked_not : (x : Aim) → marked false x ≢ is.Copying
    marked_not Looks e = cc e
    marked_not Changes e = cc e
    marked_not Stores e = cc e

    by : (z b d m f : Bool) → (block_in word == 0) ≡ z → is_incremental mode ≡ b → has_mark word COPIED ≡ d → has_mark word COPYING ≡ m
        → (if z then vacant b aim word else (if f then (if b && d then is.Moved else (if m then marked b aim else is.There)) else is.Passed)) ≡ is.Copying
        → (is_incremental mode ≡ true) × (block_in word ≢ 0) × (has_mark word COPYING ≡ true) × (has_mark word COPIED ≡ false)
    by true b d m f zero bits done mark e = absurd (vacant_not b aim e)
    by false true false true true zero bits done mark e = (bits, eqb-false (block_in word) 0 zero, mark, done)
    by false true true m true zero bits done mark e = absurd (cc e)
    by false true false false true zero bits done mark e = absurd (cc e)
    by false false d true true zero bits done mark e = absurd (marked_not aim e)
    by false false d false true zero bits done mark e = absurd (cc e)
    by false b d m false zero bits done mark e = absurd (cc e)

module _ {K V Q : Type 0} (p : KeyCall K V Q) (m : Mem (Node K V)) where
  -- at its try, the word of a pair that is being copied, and is not yet copied
  abbrev pub SeesPair : Type 0
  SeesPair =
      (word : ℕ) × (word_at m (place_tried p.trial) ≡ Some word) × (is_incremental p.setting.mode ≡ true) × (block_in word ≢ 0) × (has_mark word COPYING ≡ true)
      × (has_mark word COPIED ≡ false)

  -- what it has seen, by itself or by its copier
  abbrev pub CallSees : Calling → Type 0
  CallSees at.Probes = SeesPair
  CallSees (at.Helps copier goal) = Sees copier m copier.stands
  CallSees (at.Copies copier) = Sees copier m copier.stands
  CallSees _ = ⊥

  module _ (same : K → K → Bool) (hash : K → ℕ) (asks : Q → K → Bool) (m2 : Mem (Node K V)) (q : KeyCall K V Q) where
    abbrev waiting : KeyCall K V Q × Called (Node K V)
    waiting = (q, called.Waits)

    goes_not : (x : KeyCall K V Q × Called (Node K V)) → Continues x → waiting ≡ x → ⊥
    goes_not x on e = subst (λ (y : KeyCall K V Q × Called (Node K V)). Continues y) (sym e) on

    -- where it has come to a word
    halts : (word : ℕ) (x : Finding) → waiting ≡ after_finding {V = V} true p word x → (x ≡ is.Copying) × (q ≡ standing p at.Probes)
    halts word is.Copying e = (refl, ap (λ (y : KeyCall K V Q × Called (Node K V)). y.0) e)
    halts word is.Free e = absurd (goes_not _ (told_goes true p word is.Free (λ l f. cc f)) e)
    halts word is.Passed e = absurd (goes_not _ (told_goes true p word is.Passed (λ l f. cc f)) e)
    halts word is.Moved e = absurd (goes_not _ (told_goes true p word is.Moved (λ l f. cc f)) e)
    halts word is.There e = absurd (goes_not _ (told_goes true p word is.There (λ l f. cc f)) e)

    abbrev Halts : Type 0
    Halts = (q ≡ standing p at.Probes) × SeesPair

    by_flag : (word : ℕ) → word_at m (place_tried p.trial) ≡ Some word → (flag : Bool) → waiting ≡ told {V = V} true p word flag → Halts
    by_flag word read flag e =
        let h = halts word (finding p.setting.mode (aim_of p.missing) word flag) e in
        let marks = finding_copying p.setting.mode (aim_of p.missing) word flag h.0 in (h.1, (word, read, marks.0, marks.1, marks.2, marks.3))

    by_key : (word : ℕ) → word_at m (place_tried p.trial) ≡ Some word → (key : Option K) → Ends (value_at m) (key_read asks same true p word key) waiting
        → Halts
    by_key word read (Some key) ends = by_flag word read (names_pair (same key) ends.0) ends.2
    by_key word read None ends = by_flag word read (have_one_key same ends.0 ends.2.0) ends.2.2

    by_asked : (word : ℕ) → word_at m (place_tried p.trial) ≡ Some word → (asked : Option Q) → Ends (value_at m) (pair_read asks same true p word asked) waiting
        → Halts
    by_asked word read (Some asked) ends = by_flag word read (names_pair (asks asked) ends.0) ends.2
    by_asked word read None ends = by_key word read p.replies.key ends

    probes_waits : Steps Took value_at m (plan_at asks same hash p at.Probes) m2 waiting → Halts
    probes_waits s =
        let d = loaded m (word_found asks same p) (place_tried p.trial) m2 waiting s in
        elim (ends_if (value_at m) (may_name p.hash d.0) (pair_read asks same true p d.0 p.asked) (Now (told true p d.0 false)) waiting d.3) as (λ _. Halts) [
          | inl h ↦ by_asked d.0 d.1 p.asked h.1
          | inr h ↦ by_flag d.0 d.1 false h.1
        ]

    -- within its copying
    helps_waits : (copier : Copier) (goal : Table) → (IsRowOfCall (at.Helps copier goal) → ⊥) → (to : Copier × Yielding (Node K V) Table)
        → Steps Took value_at m (copier_plan hash copier) m2 to
        → waiting ≡ helped p goal to → (q ≡ standing p (at.Helps copier goal)) × Sees copier m copier.stands
    helps_waits copier goal none (next, outcome.Waits) s e =
        let h = copier_waits copier m hash m2 next none s in
        (ap (λ (y : KeyCall K V Q × Called (Node K V)). y.0) e ∙ ap (λ (x : Copier). standing p (at.Helps x goal)) h.0, h.1)
    helps_waits copier goal none (next, outcome.Goes) s e = absurd (goes_not _ tt e)
    helps_waits copier goal none (next, outcome.Gave value) s e = absurd (goes_not _ tt e)
    helps_waits copier goal none (next, outcome.Done table) s e = absurd (goes_not _ tt e)
    helps_waits copier goal none (next, outcome.Refused fault) s e = absurd (goes_not _ (ending_goes p (ends.Refused fault)) e)

    copies_waits : (copier : Copier) → (IsRowOfCall (at.Copies copier) → ⊥) → (to : Copier × Yielding (Node K V) Table)
        → Steps Took value_at m (copier_plan hash copier) m2 to
        → waiting ≡ copied p to → (q ≡ standing p (at.Copies copier)) × Sees copier m copier.stands
    copies_waits copier none (next, outcome.Waits) s e =
        let h = copier_waits copier m hash m2 next none s in
        (ap (λ (y : KeyCall K V Q × Called (Node K V)). y.0) e ∙ ap (λ (x : Copier). standing p (at.Copies x)) h.0, h.1)
    copies_waits copier none (next, outcome.Goes) s e = absurd (goes_not _ tt e)
    copies_waits copier none (next, outcome.Gave value) s e = absurd (goes_not _ tt e)
    copies_waits copier none (next, outcome.Done table) s e = absurd (goes_not _ tt e)
    copies_waits copier none (next, outcome.Refused fault) s e = absurd (goes_not _ (ending_goes p (ends.Refused fault)) e)

    waits_at : (stands : Calling) → (IsRowOfCall stands → ⊥) → Steps Took value_at m (plan_at asks same hash p stands) m2 waiting → (q ≡ standing p stands)
        × CallSees stands
    waits_at at.Probes none s = probes_waits s
    waits_at (at.Helps copier goal) none s =
        let b = steps_back (helped p goal) m m2 (copier_plan hash copier) waiting s in helps_waits copier goal none b.0 b.1 b.2
    waits_at (at.Copies copier) none s = let b = steps_back (copied p) m m2 (copier_plan hash copier) waiting s in copies_waits copier none b.0 b.1 b.2
    waits_at (at.Disposes dispose answer) none s =
        absurd (always_steps Continues m m2 (plan_at asks same hash p (at.Disposes dispose answer)) waiting
        (goes_at same hash asks p (at.Disposes dispose answer) none) s)
    waits_at stands none s = absurd (always_steps Continues m m2 (plan_at asks same hash p stands) waiting (goes_at same hash asks p stands (λ may. may)) s)

    -- standing there, it is as it was
    pub call_waits : (IsRowOfCall p.stands → ⊥) → Steps Took value_at m (call_plan asks same hash p) m2 waiting → (q ≡ p) × CallSees p.stands
    call_waits none s = waits_at p.stands none s
