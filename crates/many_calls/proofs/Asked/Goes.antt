-- Where a call that asks goes on to: what it does there it does by what it remembers of its replies, and it ends by itself where it does not ask.
use Rattle.std.specs.Prelude.{◌≡◌, ◌≢◌, ℕ, ◌==◌, Bool, true, false, Option, Some, None, if◌then◌else◌, ◌⊎◌}
use Rattle.std.proofs.Common.{refl, eqb-true, inl, inr}
use Rattle.std.proofs.lemmas.Bool.{eqb-false}
use Rattle.seize_model.specs.Given.SeizeWordsWord.{block_in}
use Rattle.map_facts_late.specs.Given.RawCall.{first_made, next_made, helped, copied, key_read, pair_read, word_read, have_one_key}
use Rattle.map_facts_late.specs.Given.RawCallPoints.{aim_of, going, over, ending, tableless, at_free, following_made, storing, burying, at_gap, gap_by, asking_at, pair_by, asking_of, at_last, at_pair, halted, after_finding, told, entering, continued_in, having_met}
use Rattle.map_facts_late.specs.Given.TablesChunks.{is_incremental}
use Rattle.map_facts_late.specs.Given.ResizeCopierStates.{helping, copying_all}
use Rattle.map_facts_late.specs.Given.TablesFinding.{finding, may_name}
use Rattle.map_facts_late.specs.Given.ResizeLookup.{names_pair}
use Rattle.map_facts_late.specs.Given.TablesTrials.{next_trial, with_met}
use Rattle.map_facts_late.specs.Given.TablesDeclared.marks.TheConstants.{TOMBSTONE}
use Rattle.map_facts_late.specs.Given.TablesDeclared.node.Node.{Node}
use Rattle.map_facts_late.specs.Given.TablesDeclared.table.Table.{Table}
use Rattle.map_facts_late.specs.Given.TablesDeclared.finding.Finding.{Finding}
use Rattle.map_facts_late.specs.Given.TablesDeclared.finding.Finding.TheVariants as is
use Rattle.map_facts_late.specs.Given.ResizeDeclared.copier.Copier.{Copier}
use Rattle.map_facts_late.specs.Given.ResizeDeclared.new_table.NewTable.{NewTable}
use Rattle.map_facts_late.specs.Given.ResizeDeclared.yielding.Yielding.{Yielding}
use Rattle.map_facts_late.specs.Given.ResizeDeclared.yielding.Yielding.TheVariants as outcome
use Rattle.seize_model.specs.Given.SeizeDeclared.advance.Advance.{Advance}
use Rattle.seize_model.specs.Given.SeizeDeclared.advance.Advance.TheVariants as progress
use Rattle.map_facts_late.specs.Given.RawDeclared.machines.answer.KeyAnswer.TheVariants as answers
use Rattle.map_facts_late.specs.Given.RawDeclared.machines.answer.Called.{Called}
use Rattle.map_facts_late.specs.Given.RawDeclared.machines.answer.Called.TheVariants as called
use Rattle.map_facts_late.specs.Given.RawDeclared.machines.answer.End.{End}
use Rattle.map_facts_late.specs.Given.RawDeclared.machines.answer.End.TheVariants as ends
use Rattle.map_facts_late.specs.Given.RawDeclared.machines.answer.Missing.{Missing}
use Rattle.map_facts_late.specs.Given.RawDeclared.machines.answer.Missing.TheVariants as missing
use Rattle.map_facts_late.specs.Given.RawDeclared.machines.answer.There.{There}
use Rattle.map_facts_late.specs.Given.RawDeclared.machines.answer.There.TheVariants as there
use Rattle.map_facts_late.specs.Given.RawDeclared.machines.asking.Asking.TheVariants as asking
use Rattle.map_facts_late.specs.Given.RawDeclared.machines.asking.Gap.{Gap}
use Rattle.map_facts_late.specs.Given.RawDeclared.machines.asking.Gap.TheVariants as gaps
use Rattle.map_facts_late.specs.Given.RawDeclared.machines.asking.Replies.{Replies}
use Rattle.map_facts_late.specs.Given.RawDeclared.machines.asking.Takes.{Takes}
use Rattle.map_facts_late.specs.Given.RawDeclared.machines.asking.Takes.TheVariants as takes
use Rattle.map_facts_late.specs.Given.RawDeclared.machines.asking.Told.{Told}
use Rattle.map_facts_late.specs.Given.RawDeclared.machines.asking.Told.TheVariants as tells
use Rattle.map_facts_late.specs.Given.RawDeclared.machines.call.KeyCall.{KeyCall}
use Rattle.map_facts_late.specs.Given.RawDeclared.machines.call.Calling.{Calling}
use Rattle.map_facts_late.specs.Given.RawDeclared.machines.call.Calling.TheVariants as at
use Rattle.map_facts_late.specs.Faults.{IsRoom}
use Rattle.map_facts_late.proofs.KindsKept.Rooms.Copying.{CopiesRoom}
use Rattle.map_facts_late.proofs.KindsKept.Rooms.Making.{MakesRoom}
use Rattle.map_facts_late.specs.Given.PointsFactsCalls.{MayStore}
use Rattle.map_facts_late.proofs.Given.PointsCalls.Asked.{passed_so}
use Rattle.map_facts_late.proofs.Given.PointsValues.Copying.{AllThen, all_if}
use Rattle.map_facts_late.proofs.Given.PointsValues.Sought.{kept_of}

-- one that asks stores or removes nothing unasked
abbrev pub AsksThere : There → Type 0
AsksThere there.Puts = ⊥
AsksThere there.Removes = ⊥
AsksThere _ = Unit {0}

abbrev pub AsksMissing : Missing → Type 0
AsksMissing missing.Puts = ⊥
AsksMissing _ = Unit {0}

pub asks_both : (x : Takes) (t : There) (m : Missing) → MayStore x t m → x ≢ takes.Nothing → AsksThere t × AsksMissing m
asks_both takes.Nothing t m may asks = absurd (asks refl)
asks_both takes.Values there.Asks missing.Answers may asks = (tt, tt)
asks_both takes.Values there.Asks missing.Asks may asks = (tt, tt)
asks_both takes.Values there.Asks missing.Puts may asks = absurd may
asks_both takes.Values there.Answers missing.Asks may asks = (tt, tt)
asks_both takes.Values there.Answers missing.Answers may asks = absurd may
asks_both takes.Values there.Answers missing.Puts may asks = absurd may
asks_both takes.Values there.Puts m may asks = absurd may
asks_both takes.Values there.Removes m may asks = absurd may
asks_both takes.Changes there.Asks missing.Asks may asks = (tt, tt)
asks_both takes.Changes there.Asks missing.Answers may asks = absurd may
asks_both takes.Changes there.Asks missing.Puts may asks = absurd may
asks_both takes.Changes there.Answers m may asks = absurd may
asks_both takes.Changes there.Puts m may asks = absurd may
asks_both takes.Changes there.Removes m may asks = absurd may
asks_both takes.Choices there.Asks missing.Answers may asks = (tt, tt)
asks_both takes.Choices there.Asks missing.Asks may asks = absurd may
asks_both takes.Choices there.Asks missing.Puts may asks = absurd may
asks_both takes.Choices there.Answers m may asks = absurd may
asks_both takes.Choices there.Puts m may asks = absurd may
asks_both takes.Choices there.Removes m may asks = absurd may

module _ {K V : Type 0} where
  -- What it does by its replies: it puts its own block in an empty place, or in that of the pair that it was told of last, or removes that one. It asks
  -- about a pair whose word it has just read, and not about that one.
  abbrev pub DoesBy : (ℕ → Type 0) → Replies K V → ℕ → Calling → Type 0
  DoesBy Read r own (at.Tries word new) =
      ((new ≡ own) × (((word ≡ 0) × (r.absent ≡ tells.Own)) ⊎ ((block_in word ≡ r.pair) × (r.present ≡ tells.Own))))
      ⊎ ((new ≡ TOMBSTONE) × (block_in word ≡ r.pair) × (r.present ≡ tells.Removes))
  DoesBy Read r own (at.Asks (asking.Present word)) = Read word × (block_in word ≡ r.pair → r.present ≡ tells.Nothing)
  DoesBy Read r own (at.Asks (asking.Absent gap)) = r.absent ≡ tells.Nothing
  DoesBy Read r own (at.Asks (asking.Fills word)) = word ≢ 0 → block_in word ≡ r.pair
  DoesBy Read r own (at.Asks (asking.GivesUp word)) = (block_in word ≡ r.pair) × (r.present ≡ tells.Removes)
  DoesBy Read r own _ = Unit {0}

-- The end that it comes to untold: it has found a pair, or none, and does not ask there, or is refused for room.
abbrev pub EndsUntold : There → Missing → End → Type 0
EndsUntold present absent (ends.Answered (answers.Found word)) = present ≡ there.Answers
EndsUntold present absent (ends.Answered answers.Absent) = absent ≡ missing.Answers
EndsUntold present absent (ends.Answered _) = Unit {0}
EndsUntold present absent (ends.Refused fault) = IsRoom fault

-- the end that it has come to, or is to come to once it has given up its own block
abbrev pub DropsUntold : There → Missing → Calling → Type 0
DropsUntold present absent (at.Drops end) = EndsUntold present absent end
DropsUntold present absent _ = Unit {0}

abbrev pub ComesUntold : {T : Type 0} → There → Missing → Called T → Calling → Type 0
ComesUntold present absent (called.Done answer) stands = EndsUntold present absent (ends.Answered answer)
ComesUntold present absent (called.Refused fault) stands = EndsUntold present absent (ends.Refused fault)
ComesUntold present absent _ stands = DropsUntold present absent stands

module _ {K V Q : Type 0} where
  abbrev pub GoesBy : (ℕ → Type 0) → KeyCall K V Q → KeyCall K V Q × Called (Node K V) → Type 0
  GoesBy Read p e = (kept_of e.0 ≡ kept_of p) × DoesBy Read p.replies p.own e.0.stands × ComesUntold e.0.there e.0.missing e.1 e.0.stands

  module _ (Read : ℕ → Type 0) (p : KeyCall K V Q) where
    by_if : (q : Bool) (x y : KeyCall K V Q × Called (Node K V)) → GoesBy Read p x → GoesBy Read p y → GoesBy Read p (if q then x else y)
    by_if true x y f g = f
    by_if false x y f g = g

    over_by : (end : End) → EndsUntold p.there p.missing end → GoesBy Read p (over p end)
    over_by (ends.Answered answer) untold = (refl, tt, untold)
    over_by (ends.Refused fault) untold = (refl, tt, untold)

    pub ending_by : (end : End) → EndsUntold p.there p.missing end → GoesBy Read p (ending p end)
    ending_by end untold = by_if (p.own == 0) (over p end) (going p (at.Drops end)) (over_by end untold) (refl, tt, untold)

    free_told : (told : Told V) → p.replies.absent ≡ told → GoesBy Read p (storing told p 0)
    free_told tells.Nothing e = (refl, (λ some. absurd (some refl)), tt)
    free_told (tells.Value v) e = (refl, (λ some. absurd (some refl)), tt)
    free_told tells.Own e = (refl, inl (refl, inl (refl, e)), tt)
    free_told tells.Removes e = (refl, (λ some. absurd (some refl)), tt)

    gap_told : (gap : Gap) → GoesBy Read p (at_gap gap p)
    gap_told gaps.NoTable = (refl, tt, tt)
    gap_told gaps.Free = free_told p.replies.absent refl
    gap_told gaps.Past = (refl, tt, tt)
    gap_told gaps.Last = (refl, tt, tt)

    missing_by : (gap : Gap) → GoesBy Read p (asking_at gap p)
    missing_by gap = by p.replies.absent refl
      where
        by : (told : Told V) → p.replies.absent ≡ told → GoesBy Read p (gap_by told gap p)
        by tells.Nothing e = (refl, e, tt)
        by (tells.Value v) e = gap_told gap
        by tells.Own e = gap_told gap
        by tells.Removes e = gap_told gap

    -- with the pair that it was told of last
    pub burying_by : (word : ℕ) → block_in word ≡ p.replies.pair → p.replies.present ≡ tells.Removes → GoesBy Read p (burying p word)
    burying_by word block e = by_if (p.own == 0) (going p (at.Tries word TOMBSTONE)) (going p (at.Asks (asking.GivesUp word))) (refl, inr (refl, block, e), tt) (refl, (block, e), tt)

    there_by : (word : ℕ) → Read word → GoesBy Read p (asking_of p word)
    there_by word read = by (block_in word == p.replies.pair) (eqb-true (block_in word) p.replies.pair) (eqb-false (block_in word) p.replies.pair)
      where
        told_by : block_in word ≡ p.replies.pair → (told : Told V) → p.replies.present ≡ told → GoesBy Read p (pair_by told p word)
        told_by block tells.Nothing e = (refl, (read, λ same. e), tt)
        told_by block (tells.Value v) e = (refl, (λ some. block), tt)
        told_by block tells.Own e = (refl, inl (refl, inr (block, e)), tt)
        told_by block tells.Removes e = burying_by word block e

        by : (b : Bool) → (b ≡ true → block_in word ≡ p.replies.pair) → (b ≡ false → block_in word ≢ p.replies.pair) → GoesBy Read p (if b then pair_by p.replies.present p word else pair_by tells.Nothing p word)
        by true block other = told_by (block refl) p.replies.present refl
        by false block other = (refl, (read, λ same. absurd (other refl same)), tt)

    module _ (there_asks : AsksThere p.there) (missing_asks : AsksMissing p.missing) where
      pub tableless_by : (x : Missing) → p.missing ≡ x → GoesBy Read p (tableless x p)
      tableless_by missing.Answers is = ending_by (ends.Answered answers.Absent) is
      tableless_by missing.Puts is = (refl, tt, tt)
      tableless_by missing.Asks is = missing_by gaps.NoTable

      free_by : (x : Missing) → p.missing ≡ x → AsksMissing x → GoesBy Read p (at_free x p)
      free_by missing.Answers is so = ending_by (ends.Answered answers.Absent) is
      free_by missing.Puts is so = absurd so
      free_by missing.Asks is so = missing_by gaps.Free

      pub last_by : (x : Missing) → p.missing ≡ x → GoesBy Read p (at_last x p)
      last_by missing.Answers is =
          by_if (is_incremental p.setting.mode) (ending p (ends.Answered answers.Absent)) (following_made p) (ending_by (ends.Answered answers.Absent) is) (refl, tt, tt)
      last_by missing.Puts is = (refl, tt, tt)
      last_by missing.Asks is = by_if (is_incremental p.setting.mode) (asking_at gaps.Last p) (following_made p) (missing_by gaps.Last) (refl, tt, tt)

      pair_by_word : (x : There) → p.there ≡ x → AsksThere x → (word : ℕ) → Read word → GoesBy Read p (at_pair x p word)
      pair_by_word there.Answers is so word read = ending_by (ends.Answered (answers.Found word)) is
      pair_by_word there.Puts is so word read = absurd so
      pair_by_word there.Removes is so word read = absurd so
      pair_by_word there.Asks is so word read = there_by word read

      halted_by : (q : Bool) → GoesBy Read p (halted q p)
      halted_by true = (refl, tt, tt)
      halted_by false = (refl, tt, tt)

      told_of_by : (q : Bool) (word : ℕ) → Read word → (f : Finding) → GoesBy Read p (after_finding q p word f)
      told_of_by q word read is.Free = free_by p.missing refl missing_asks
      told_of_by q word read is.Passed =
          passed_so (GoesBy Read p) (having_met p word) (λ next. (refl, tt, tt)) (refl, tt, tt)
          (λ none. by_if (p.own == 0) (over (having_met p word) (ends.Answered answers.Absent)) (going (having_met p word) (at.Drops (ends.Answered answers.Absent))) (refl, tt, none) (refl, tt, none))
          (λ e untold. (refl, untold, tt)) (next_trial (with_met p.trial word))
      told_of_by q word read is.Moved = (refl, tt, tt)
      told_of_by q word read is.Copying = halted_by q
      told_of_by q word read is.There = pair_by_word p.there refl there_asks word read

      told_by : (q : Bool) (word : ℕ) → Read word → (same : Bool) → GoesBy Read p (told q p word same)
      told_by q word read same = told_of_by q word read (finding p.setting.mode (aim_of p.missing) word same)

      -- the word of a try was read
      module _ (asks : Q → K → Bool) (eq : K → K → Bool) (loaded : Bool) (word : ℕ) (read : Read word) where
        key_by : (key : Option K) → AllThen (GoesBy Read p) (key_read asks eq loaded p word key)
        key_by (Some key) = λ value. told_by loaded word read (names_pair (eq key) value)
        key_by None = λ own value. told_by loaded word read (have_one_key eq own value)

        asked_by : (asked : Option Q) → AllThen (GoesBy Read p) (pair_read asks eq loaded p word asked)
        asked_by (Some q) = λ value. told_by loaded word read (names_pair (asks q) value)
        asked_by None = key_by p.replies.key

        pub read_by : AllThen (GoesBy Read p) (word_read asks eq loaded p word)
        read_by = all_if (GoesBy Read p) (may_name p.hash word) _ _ (asked_by p.asked) (told_by loaded word read false)

    pub went_on_by : (table : Table) → GoesBy Read p (continued_in p table)
    went_on_by table =
        by_if (is_incremental p.setting.mode)
        (if p.helped then entering p table else going (record p { helped = true }) (at.Helps (helping p.setting) table)) (going p (at.Copies (copying_all p.setting p.trial.table table)))
        (by_if p.helped (entering p table) (going (record p { helped = true }) (at.Helps (helping p.setting) table)) (refl, tt, tt) (refl, tt, tt)) (refl, tt, tt)

    -- a machine within it went on, and was refused for room alone
    pub first_by : (e : NewTable × Advance Table) → MakesRoom e → GoesBy Read p (first_made p e)
    first_by (n, progress.Goes) room = (refl, tt, tt)
    first_by (n, progress.Waits) room = (refl, tt, tt)
    first_by (n, progress.Done table) room = (refl, tt, tt)
    first_by (n, progress.Refused fault) room = ending_by (ends.Refused fault) room.1

    pub next_by : (e : NewTable × Advance Table) → MakesRoom e → GoesBy Read p (next_made p e)
    next_by (n, progress.Goes) room = (refl, tt, tt)
    next_by (n, progress.Waits) room = (refl, tt, tt)
    next_by (n, progress.Done table) room = went_on_by table
    next_by (n, progress.Refused fault) room = ending_by (ends.Refused fault) room.1

    pub helped_by : (goal : Table) (e : Copier × Yielding (Node K V) Table) → CopiesRoom e → GoesBy Read p (helped p goal e)
    helped_by goal (n, outcome.Goes) room = (refl, tt, tt)
    helped_by goal (n, outcome.Waits) room = (refl, tt, tt)
    helped_by goal (n, outcome.Gave value) room = (refl, tt, tt)
    helped_by goal (n, outcome.Done table) room = (refl, tt, tt)
    helped_by goal (n, outcome.Refused fault) room = ending_by (ends.Refused fault) room.1

    pub copied_by : (e : Copier × Yielding (Node K V) Table) → CopiesRoom e → GoesBy Read p (copied p e)
    copied_by (n, outcome.Goes) room = (refl, tt, tt)
    copied_by (n, outcome.Waits) room = (refl, tt, tt)
    copied_by (n, outcome.Gave value) room = (refl, tt, tt)
    copied_by (n, outcome.Done table) room = (refl, tt, tt)
    copied_by (n, outcome.Refused fault) room = ending_by (ends.Refused fault) room.1
