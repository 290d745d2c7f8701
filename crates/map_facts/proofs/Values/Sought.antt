-- Where a call goes that has changed nothing: it keeps its own block until it gives it up.
use Rattle.std.specs.Prelude.{◌≡◌, ℕ, ◌==◌, Bool, true, false, Option, Some, None, max, if◌then◌else◌}
use Rattle.std.proofs.Common.{refl, ap, eqb-true}
use Rattle.papaya_raw.specs.Call.{key_read, pair_read, word_read, have_one_key}
use Rattle.papaya_raw.specs.CallPoints.{aim_of, going, over, ending, tableless, at_free, following_made, asking_at, at_last, at_pair, halted, after_finding, told, entering, continued_in, having_met}
use Rattle.papaya_raw.specs.Given.TablesChunks.{is_incremental}
use Rattle.map_rule.specs.Given.ResizeCopierStates.{helping, copying_all}
use Rattle.papaya_raw.specs.Given.TablesFinding.{finding, may_name}
use Rattle.map_rule.specs.Given.ResizeLookup.{names_pair}
use Rattle.papaya_raw.specs.Given.TablesTrials.{next_trial, with_met}
use Rattle.papaya_raw.specs.Given.TablesDeclared.lengths.TheConstants.{FIRST_LEN}
use Rattle.papaya_raw.specs.Given.TablesDeclared.node.Node.{Node}
use Rattle.papaya_raw.specs.Given.TablesDeclared.table.Table.{Table}
use Rattle.papaya_raw.specs.declared.machines.answer.KeyAnswer.{KeyAnswer}
use Rattle.papaya_raw.specs.declared.machines.answer.KeyAnswer.TheVariants as answers
use Rattle.papaya_raw.specs.declared.machines.answer.Called.{Called}
use Rattle.papaya_raw.specs.declared.machines.answer.Called.TheVariants as called
use Rattle.papaya_raw.specs.declared.machines.answer.End.{End}
use Rattle.papaya_raw.specs.declared.machines.answer.End.TheVariants as ends
use Rattle.papaya_raw.specs.declared.machines.answer.Missing.{Missing}
use Rattle.papaya_raw.specs.declared.machines.answer.Missing.TheVariants as missing
use Rattle.papaya_raw.specs.declared.machines.answer.There.{There}
use Rattle.papaya_raw.specs.declared.machines.answer.There.TheVariants as there
use Rattle.papaya_raw.specs.declared.machines.asking.Asking.TheVariants as asking
use Rattle.papaya_raw.specs.declared.machines.asking.Gap.{Gap}
use Rattle.papaya_raw.specs.declared.machines.asking.Replies.{Replies}
use Rattle.papaya_raw.specs.declared.machines.asking.Gap.TheVariants as gaps
use Rattle.papaya_raw.specs.declared.machines.call.KeyCall.{KeyCall}
use Rattle.papaya_raw.specs.declared.machines.call.Calling.{Calling}
use Rattle.papaya_raw.specs.declared.machines.call.Calling.TheVariants as at
use Rattle.papaya_raw.specs.Given.TablesDeclared.finding.Finding.{Finding}
use Rattle.papaya_raw.specs.Given.TablesDeclared.finding.Finding.TheVariants as is
use Rattle.map_facts.specs.Made.{IsMadeByCall}
use Rattle.map_facts.proofs.Calls.Asked.{asking_so, asking_of_so, passed_so}
use Rattle.map_facts.proofs.Values.Making.{MadeNone, none_made, first_made_none}
use Rattle.map_facts.proofs.Values.Copying.{AllThen, all_if, CopierMadeNone, none_made_by_copier, none_if as copier_if}

-- where a call stands that has made its own block, if it is to have one, and has changed nothing
abbrev pub IsSought : Calling → Type 0
IsSought at.Makes = ⊥
IsSought (at.Counts removed) = ⊥
IsSought (at.Disposes dispose answer) = ⊥
IsSought (at.Over end) = ⊥
IsSought (at.Asks (asking.Fills word)) = ⊥
IsSought _ = Unit {0}

-- or is to fill its own block next
abbrev pub IsAhead : Calling → Type 0
IsAhead (at.Asks asking) = Unit {0}
IsAhead stands = IsSought stands

-- an answer of one that changes nothing
abbrev pub IsLook : KeyAnswer → Type 0
IsLook (answers.Found word) = Unit {0}
IsLook answers.Absent = Unit {0}
IsLook _ = ⊥

abbrev pub EndsLooking : End → Type 0
EndsLooking (ends.Answered answer) = IsLook answer
EndsLooking (ends.Refused fault) = Unit {0}

-- it has made no table that it has not linked
abbrev pub CallMadeNone : Calling → Type 0
CallMadeNone (at.Firsts making) = MadeNone making.stands
CallMadeNone (at.Allocs making) = MadeNone making.stands
CallMadeNone (at.Helps copier goal) = CopierMadeNone copier.stands
CallMadeNone (at.Copies copier) = CopierMadeNone copier.stands
CallMadeNone _ = Unit {0}

pub none_made_by_call : (stands : Calling) → CallMadeNone stands → (b : ℕ) → IsMadeByCall stands b → ⊥
none_made_by_call at.Makes none b h = h
none_made_by_call (at.Looks lookup) none b h = h
none_made_by_call at.Roots none b h = h
none_made_by_call at.Probes none b h = h
none_made_by_call (at.Tries word new) none b h = h
none_made_by_call (at.Counts removed) none b h = h
none_made_by_call at.Nexts none b h = h
none_made_by_call (at.Firsts making) none b h = none_made making.stands none b h
none_made_by_call (at.Allocs making) none b h = none_made making.stands none b h
none_made_by_call (at.Helps copier goal) none b h = none_made_by_copier copier.stands none b h
none_made_by_call (at.Copies copier) none b h = none_made_by_copier copier.stands none b h
none_made_by_call (at.Disposes dispose answer) none b h = h
none_made_by_call (at.Asks asking) none b h = h
none_made_by_call (at.Drops end) none b h = h
none_made_by_call (at.Over end) none b h = h

-- where it goes on, or how it ends: it ends with no block of its own
abbrev pub Leads : {N : Type 0} → ℕ → Called N → Calling → Type 0
Leads own called.Goes stands = IsAhead stands
Leads own called.Waits stands = IsAhead stands
Leads own (called.Gave value) stands = Unit {0}
Leads own (called.Unstored value) stands = ⊥
Leads own (called.Asks pair) stands = IsAhead stands
Leads own (called.Done answer) stands = (own ≡ 0) × IsLook answer
Leads own (called.Refused fault) stands = own ≡ 0

module _ {K V Q : Type 0} where
  -- its own block, and what it was told
  abbrev pub kept_of : KeyCall K V Q → ℕ × Replies K V
  kept_of p = (p.own, p.replies)

  abbrev pub GoesSeeking : KeyCall K V Q → KeyCall K V Q × Called (Node K V) → Type 0
  GoesSeeking p e = (kept_of e.0 ≡ kept_of p) × Leads p.own e.1 e.0.stands

  pub told_kept : (p : KeyCall K V Q) (e : KeyCall K V Q × Called (Node K V)) → GoesSeeking p e → e.0.replies ≡ p.replies
  told_kept p e g = ap (λ (x : ℕ × Replies K V). x.1) g.0

  -- and no table is left to be linked
  abbrev pub GoesPlainly : KeyCall K V Q → KeyCall K V Q × Called (Node K V) → Type 0
  GoesPlainly p e = GoesSeeking p e × CallMadeNone e.0.stands

  module _ (p : KeyCall K V Q) where
    plainly_if : (q : Bool) (x y : KeyCall K V Q × Called (Node K V)) → GoesPlainly p x → GoesPlainly p y → GoesPlainly p (if q then x else y)
    plainly_if true x y f g = f
    plainly_if false x y f g = g

    pub over_so : (end : End) → EndsLooking end → p.own ≡ 0 → GoesPlainly p (over p end)
    over_so (ends.Answered answer) looks none = ((refl, (none, looks)), tt)
    over_so (ends.Refused fault) looks none = ((refl, none), tt)

    pub ending_so : (end : End) → EndsLooking end → GoesPlainly p (ending p end)
    ending_so end looks = by (p.own == 0) (eqb-true p.own 0)
      where
        by : (q : Bool) → (q ≡ true → p.own ≡ 0) → GoesPlainly p (if q then over p end else going p (at.Drops end))
        by true none = over_so end looks (none refl)
        by false none = ((refl, tt), tt)

    missing_so : (gap : Gap) → GoesPlainly p (asking_at gap p)
    missing_so =
        asking_so (GoesPlainly p) p (λ word new. ((refl, tt), tt)) (λ asking. ((refl, tt), tt)) (λ asking asked. ((refl, tt), tt))
        ((refl, tt), first_made_none (max FIRST_LEN 8)) ((refl, tt), tt) ((refl, tt), tt)

    pub tableless_so : (x : Missing) → GoesPlainly p (tableless x p)
    tableless_so missing.Answers = ending_so (ends.Answered answers.Absent) tt
    tableless_so missing.Puts = ((refl, tt), first_made_none (max FIRST_LEN 8))
    tableless_so missing.Asks = missing_so gaps.NoTable

    free_so : (x : Missing) → GoesPlainly p (at_free x p)
    free_so missing.Answers = ending_so (ends.Answered answers.Absent) tt
    free_so missing.Puts = ((refl, tt), tt)
    free_so missing.Asks = missing_so gaps.Free

    pub last_so : (x : Missing) → GoesPlainly p (at_last x p)
    last_so missing.Answers =
        plainly_if (is_incremental p.setting.mode) (ending p (ends.Answered answers.Absent)) (following_made p) (ending_so (ends.Answered answers.Absent) tt) ((refl, tt), tt)
    last_so missing.Puts = ((refl, tt), tt)
    last_so missing.Asks = plainly_if (is_incremental p.setting.mode) (asking_at gaps.Last p) (following_made p) (missing_so gaps.Last) ((refl, tt), tt)

    pair_so : (x : There) (word : ℕ) → GoesPlainly p (at_pair x p word)
    pair_so there.Answers word = ending_so (ends.Answered (answers.Found word)) tt
    pair_so there.Puts word = ((refl, tt), tt)
    pair_so there.Removes word = ((refl, tt), tt)
    pair_so there.Asks word =
        asking_of_so (GoesPlainly p) p (λ word new. ((refl, tt), tt)) (λ asking. ((refl, tt), tt)) (λ asking asked. ((refl, tt), tt)) word

    halted_so : (q : Bool) → GoesPlainly p (halted q p)
    halted_so true = ((refl, tt), tt)
    halted_so false = ((refl, tt), tt)

    told_of_so : (q : Bool) (word : ℕ) (f : Finding) → GoesPlainly p (after_finding q p word f)
    told_of_so q word is.Free = free_so p.missing
    told_of_so q word is.Passed =
        passed_so (GoesPlainly p) (having_met p word) (λ next. ((refl, tt), tt)) ((refl, tt), tt) (λ e. answered (p.own == 0) (eqb-true p.own 0)) (λ e untold. ((refl, tt), tt))
        (next_trial (with_met p.trial word))
      where
        answered : (b : Bool) → (b ≡ true → p.own ≡ 0)
            → GoesPlainly p (if b then over (having_met p word) (ends.Answered answers.Absent) else going (having_met p word) (at.Drops (ends.Answered answers.Absent)))
        answered true none = ((refl, (none refl, tt)), tt)
        answered false none = ((refl, tt), tt)
    told_of_so q word is.Moved = ((refl, tt), tt)
    told_of_so q word is.Copying = halted_so q
    told_of_so q word is.There = pair_so p.there word

    told_so : (q : Bool) (word : ℕ) (same : Bool) → GoesPlainly p (told q p word same)
    told_so q word same = told_of_so q word (finding p.setting.mode (aim_of p.missing) word same)

    pub went_on_so : (table : Table) → GoesPlainly p (continued_in p table)
    went_on_so table =
        plainly_if (is_incremental p.setting.mode)
        (if p.helped then entering p table else going (record p { helped = true }) (at.Helps (helping p.setting) table)) (going p (at.Copies (copying_all p.setting p.trial.table table)))
        (plainly_if p.helped (entering p table) (going (record p { helped = true }) (at.Helps (helping p.setting) table)) ((refl, tt), tt) ((refl, tt), tt))
        ((refl, tt), copier_if (is_incremental p.setting.mode) _ _ tt tt)

    -- the word of a try was read
    module _ (asks : Q → K → Bool) (eq : K → K → Bool) (loaded : Bool) (word : ℕ) where
      key_so : (key : Option K) → AllThen (GoesPlainly p) (key_read asks eq loaded p word key)
      key_so (Some key) = λ value. told_so loaded word (names_pair (eq key) value)
      key_so None = λ own value. told_so loaded word (have_one_key eq own value)

      asked_so : (asked : Option Q) → AllThen (GoesPlainly p) (pair_read asks eq loaded p word asked)
      asked_so (Some q) = λ value. told_so loaded word (names_pair (asks q) value)
      asked_so None = key_so p.replies.key

      pub read_so : AllThen (GoesPlainly p) (word_read asks eq loaded p word)
      read_so = all_if (GoesPlainly p) (may_name p.hash word) _ _ (asked_so p.asked) (told_so loaded word false)
