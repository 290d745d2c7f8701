-- A call that asks, for one owner: nobody changes the word that it is about to replace, so it replaces it at once. Until then it has no block of its own, and
-- its key in hand.
use Rattle.std.specs.Prelude.{◌==◌, ◌&&◌, Option, Some, None, Ok, if◌then◌else◌}
use Rattle.std.proofs.Common.{◌≡◌, ◌≢◌, ℕ, Bool, true, false, refl, sym, ◌∙◌, ap, subst, eqb-true}
use Rattle.std.proofs.lemmas.Bool.{eqb-false, ne_eqb}
use Rattle.seize_words.specs.declared.at.At.TheVariants.{Word}
use Rattle.seize_words.specs.OneMemory.Word.{block_in}
use Rattle.seize_words.specs.OneMemory.Mem.{Mem, word_at, word_in, block_of, fresh, IsFreeNumber, after}
use Rattle.seize_words.specs.OneMemory.Op.{Make, Made}
use Rattle.seize_words.proofs.OneMemory.OneOwner.AfterWrites.{block_of-made}
use Rattle.seize.specs.declared.advance.Advance.{Advance}
use Rattle.seize.specs.declared.advance.Advance.TheVariants as progress
use Rattle.seize.specs.declared.rows.settle.Settled.{Settled}
use Rattle.seize.specs.declared.rows.settle.Settled.TheVariants as settled
use Rattle.papaya_raw.specs.Call.{first_made, next_made, disposed, helped, copied}
use Rattle.papaya_raw.specs.CallPoints.{going, standing, over, ending, following_made, storing, at_gap, gap_by, asking_at, pair_by, tableless, at_free, at_last, at_pair, after_finding, entering, continued_in, changed, counted, having_met}
use Rattle.papaya_raw.specs.Replies.{value_replied, value_for}
use Rattle.map_tables.specs.Chunks.{is_incremental}
use Rattle.map_tables.specs.Finding.{finding, vacant, named, marked}
use Rattle.map_tables.specs.Marks.{has_mark}
use Rattle.map_tables.specs.Trials.{place_tried, next_trial, with_met}
use Rattle.map_tables.specs.declared.finding.Aim.TheVariants as aims
use Rattle.map_tables.specs.declared.finding.Finding.{Finding}
use Rattle.map_tables.specs.declared.finding.Finding.TheVariants as finds
use Rattle.map_tables.specs.declared.marks.TheConstants.{COPYING, COPIED, TOMBSTONE}
use Rattle.map_tables.specs.declared.node.Node.{Node}
use Rattle.map_tables.specs.declared.node.Node.TheVariants as node
use Rattle.map_tables.specs.declared.resize_mode.ResizeMode.{ResizeMode}
use Rattle.map_tables.specs.declared.table.Table.{Table}
use Rattle.owner_calls.specs.Given.ResizeCopierStates.{copying_all}
use Rattle.owner_calls.specs.Given.ResizeDispose.{disposing}
use Rattle.owner_calls.specs.Given.ResizeDeclared.copier.Copier.{Copier}
use Rattle.owner_calls.specs.Given.ResizeDeclared.dispose.Dispose.{Dispose}
use Rattle.owner_calls.specs.Given.ResizeDeclared.new_table.NewTable.{NewTable}
use Rattle.owner_calls.specs.Given.ResizeDeclared.yielding.Yielding.{Yielding}
use Rattle.owner_calls.specs.Given.ResizeDeclared.yielding.Yielding.TheVariants as outcome
use Rattle.papaya_raw.specs.declared.machines.answer.KeyAnswer.{KeyAnswer}
use Rattle.papaya_raw.specs.declared.machines.answer.KeyAnswer.TheVariants as answers
use Rattle.papaya_raw.specs.declared.machines.answer.Called.{Called}
use Rattle.papaya_raw.specs.declared.machines.answer.Called.TheVariants as called
use Rattle.papaya_raw.specs.declared.machines.answer.End.{End}
use Rattle.papaya_raw.specs.declared.machines.answer.End.TheVariants as ends
use Rattle.papaya_raw.specs.declared.machines.answer.Missing.{Missing}
use Rattle.papaya_raw.specs.declared.machines.answer.Missing.TheVariants as missing
use Rattle.papaya_raw.specs.declared.machines.answer.There.{There}
use Rattle.papaya_raw.specs.declared.machines.answer.There.TheVariants as there
use Rattle.papaya_raw.specs.declared.machines.asking.Asking.{Asking}
use Rattle.papaya_raw.specs.declared.machines.asking.Asking.TheVariants as asking
use Rattle.papaya_raw.specs.declared.machines.asking.Gap.{Gap}
use Rattle.papaya_raw.specs.declared.machines.asking.Gap.TheVariants as gaps
use Rattle.papaya_raw.specs.declared.machines.asking.Told.{Told}
use Rattle.papaya_raw.specs.declared.machines.asking.Told.TheVariants as tells
use Rattle.papaya_raw.specs.declared.machines.call.KeyCall.{KeyCall}
use Rattle.papaya_raw.specs.declared.machines.call.Calling.{Calling}
use Rattle.papaya_raw.specs.declared.machines.call.Calling.TheVariants as at
use Rattle.owner_calls.specs.Given.PointsSteps.{first_reply}
use Rattle.owner_calls.proofs.Given.PointsCalls.Asked.{passed_so}
use Rattle.owner_calls.proofs.Owned.Owned.HandsBack.{IsOver}

-- where the key is there it asks, or answers with the pair
abbrev pub AsksThere : There → Type 0
AsksThere there.Asks = Unit {0}
AsksThere there.Answers = Unit {0}
AsksThere _ = ⊥

-- where it is missing it asks, or answers so
abbrev pub AsksMissing : Missing → Type 0
AsksMissing missing.Puts = ⊥
AsksMissing _ = Unit {0}

-- it asks this: what to do with the pair of a word, or where the key is missing
abbrev pub AsksFor : Option ℕ → Calling → Type 0
AsksFor None (at.Asks (asking.Absent gap)) = Unit {0}
AsksFor (Some word) (at.Asks (asking.Present other)) = other ≡ word
AsksFor _ _ = ⊥

-- a make leaves the words that there are
pub word_made : {T : Type 0} (m : Mem T) (value : T) (words b : ℕ) → IsFreeNumber m b → (t field word : ℕ) → word_at m (Word t field) ≡ Some word
    → word_at (after m (Make value words) (Made (Ok b))) (Word t field) ≡ Some word
word_made m value words b free t field word is =
    ap (λ o. word_in o field) (block_of-made m value words b t free ∙ ap (λ q. if q then Some (fresh value words) else block_of m t) (ne_eqb t b apart)) ∙ is
  where
    apart : t ≢ b
    apart e = let none = ap (λ o. word_in o field) (ap (block_of m) e ∙ free.0) in cc (none, is)

-- what is free for a pair
if_free : (C : Type 0) (b : Bool) (x y : Finding) → (b ≡ true → x ≡ finds.Free → C) → (b ≡ false → y ≡ finds.Free → C) → (if b then x else y) ≡ finds.Free → C
if_free C true x y f g e = f refl e
if_free C false x y f g e = g refl e

-- the place of a try is free for a pair where its word is empty
pub free_is : (mode : ResizeMode) (word : ℕ) (same : Bool) → finding mode aims.Stores word same ≡ finds.Free → word ≡ 0
free_is mode word same =
    if_free (word ≡ 0) (block_in word == 0) (vacant i aims.Stores word) (if same then named i aims.Stores word else finds.Passed)
    (λ no_block. if_free (word ≡ 0) (word == 0) finds.Free (if word == COPYING then (if i then finds.Passed else finds.Moved) else finds.Passed) (λ zero e. eqb-true word 0 zero)
    (λ some. if_free (word ≡ 0) (word == COPYING) (if i then finds.Passed else finds.Moved) finds.Passed
    (λ marked_only. if_free (word ≡ 0) i finds.Passed finds.Moved (λ b e. absurd (cc e)) (λ b e. absurd (cc e))) (λ b e. absurd (cc e))))
    (λ block. if_free (word ≡ 0) same (named i aims.Stores word) finds.Passed
    (λ alike. if_free (word ≡ 0) (i && has_mark word COPIED) finds.Moved (if has_mark word COPYING then marked i aims.Stores else finds.There) (λ b e. absurd (cc e))
    (λ here. if_free (word ≡ 0) (has_mark word COPYING) (marked i aims.Stores) finds.There
    (λ b. if_free (word ≡ 0) i finds.Copying finds.Moved (λ c e. absurd (cc e)) (λ c e. absurd (cc e))) (λ b e. absurd (cc e)))) (λ b e. absurd (cc e)))
  where
    i : Bool
    i = is_incremental mode

-- where it was told nothing to store, it knows of nothing
none_known : {V : Type 0} (known : Option V) → first_reply known ≡ tells.Nothing → known ≡ None
none_known None e = refl
none_known (Some value) e = absurd (cc e)

module _ {K V Q : Type 0} where
  -- it has no block of its own, its key is in hand, and this is what it knows to store where that is missing
  abbrev pub IsBare : Option K → Option V → KeyCall K V Q → Type 0
  IsBare its known p = (p.own ≡ 0) × (p.replies.key ≡ its) × (p.replies.absent ≡ first_reply known) × (p.replies.present ≡ tells.Nothing)

  -- the word of its try
  abbrev pub WordIs : Mem (Node K V) → KeyCall K V Q → ℕ → Type 0
  WordIs m p word = word_at m (place_tried p.trial) ≡ Some word

  -- where the key is missing since the place of its try is free, that is empty
  abbrev pub GapIs : Mem (Node K V) → KeyCall K V Q → Gap → Type 0
  GapIs m p gaps.Free = WordIs m p 0
  GapIs m p _ = Unit {0}

  -- it has its key, and the value that it is to put into its own block
  abbrev pub IsToFill : Option K → Option V → KeyCall K V Q → ℕ → Type 0
  IsToFill its value p word = (p.own ≡ 0) × (k : K) × (its ≡ Some k) × (p.replies.key ≡ Some k) × (v : V) × (value ≡ Some v) × (value_for p.replies word ≡ Some v)

-- of a call with this key, if with one, that knows what to store where it is missing, or was told it; and whether it seeks still
module _ {K V Q : Type 0} (its : Option K) (known value : Option V) (seeks : Bool) where
  abbrev pub UndisturbedAt : Mem (Node K V) → KeyCall K V Q → Calling → Type 0
  UndisturbedAt m p at.Makes = ⊥
  UndisturbedAt m p (at.Looks lookup) = ⊥
  UndisturbedAt m p (at.Tries word new) = WordIs m p word
  UndisturbedAt m p (at.Counts removed) = Unit {0}
  UndisturbedAt m p (at.Asks (asking.Absent gap)) = (seeks ≡ true) × IsBare its known p × (known ≡ None) × GapIs m p gap
  UndisturbedAt m p (at.Asks (asking.Present word)) = (seeks ≡ true) × IsBare its known p × WordIs m p word
  UndisturbedAt m p (at.Asks (asking.Fills word)) = IsToFill its value p word × WordIs m p word
  UndisturbedAt m p (at.Asks (asking.GivesUp word)) = ⊥
  UndisturbedAt m p (at.Disposes dispose answer) = Unit {0}
  UndisturbedAt m p (at.Drops end) = ⊥
  UndisturbedAt m p (at.Over (ends.Answered answer)) = Unit {0}
  UndisturbedAt m p (at.Over (ends.Refused fault)) = IsBare its known p
  UndisturbedAt m p _ = (seeks ≡ true) × IsBare its known p

  pub record Undisturbed (m : Mem (Node K V)) (p : KeyCall K V Q) : Type 0 where
    pub present : AsksThere p.there
    pub absent : AsksMissing p.missing
    pub point : UndisturbedAt m p p.stands

  -- after a step: what it hands out is its key with the value that it was to store
  abbrev pub StaysSo : Mem (Node K V) → KeyCall K V Q × Called (Node K V) → Type 0
  StaysSo m (p, called.Unstored value_out) = IsOver p.stands × (k : K) × (v : V) × (its ≡ Some k) × (value ≡ Some v) × (value_out ≡ node.Pair k v)
  StaysSo m (p, called.Asks asked) = Undisturbed m p × AsksFor asked p.stands
  StaysSo m (p, called.Done answer) = Unit {0}
  StaysSo m (p, called.Refused fault) = IsBare its known p
  StaysSo m (p, _) = Undisturbed m p

  module _ (m2 : Mem (Node K V)) where
    abbrev So : KeyCall K V Q × Called (Node K V) → Type 0
    So = StaysSo m2

    either : (b : Bool) (x y : KeyCall K V Q × Called (Node K V)) → So x → So y → So (if b then x else y)
    either true x y f g = f
    either false x y f g = g

    by_test : (b : Bool) (x y : KeyCall K V Q × Called (Node K V)) → (b ≡ true → So x) → (b ≡ false → So y) → So (if b then x else y)
    by_test true x y f g = f refl
    by_test false x y f g = g refl

    -- where it goes on from a point
    module _ (p : KeyCall K V Q) (asks : AsksThere p.there) (absent : AsksMissing p.missing) where
      pub goes_on : (stands : Calling) → UndisturbedAt m2 p stands → Undisturbed m2 (standing p stands)
      goes_on stands point = record { present = asks; absent = absent; point = by stands point }
        where
          ask : (a : Asking) → UndisturbedAt m2 p (at.Asks a) → UndisturbedAt m2 (standing p (at.Asks a)) (at.Asks a)
          ask (asking.Absent gaps.NoTable) h = h
          ask (asking.Absent gaps.Free) h = h
          ask (asking.Absent gaps.Past) h = h
          ask (asking.Absent gaps.Last) h = h
          ask (asking.Present word) h = h
          ask (asking.Fills word) h = h
          ask (asking.GivesUp word) h = h

          over_by : (end : End) → UndisturbedAt m2 p (at.Over end) → UndisturbedAt m2 (standing p (at.Over end)) (at.Over end)
          over_by (ends.Answered answer) h = h
          over_by (ends.Refused fault) h = h

          by : (stands : Calling) → UndisturbedAt m2 p stands → UndisturbedAt m2 (standing p stands) stands
          by at.Makes h = h
          by (at.Looks lookup) h = h
          by at.Roots h = h
          by at.Probes h = h
          by (at.Tries word new) h = h
          by (at.Counts removed) h = h
          by at.Nexts h = h
          by (at.Firsts making) h = h
          by (at.Allocs making) h = h
          by (at.Helps copier goal) h = h
          by (at.Copies copier) h = h
          by (at.Asks asking) h = ask asking h
          by (at.Disposes dispose answer) h = h
          by (at.Drops end) h = h
          by (at.Over end) h = over_by end h

      pub stays_counted : (removed : ℕ) → So (counted p removed)
      stays_counted removed = either (removed == 0) (over p (ends.Answered (answers.Stored p.own))) _ tt (goes_on (at.Disposes (disposing p.setting removed p.trial.table) (answers.Removed removed)) tt)

      pub stays_disposed : (answer : KeyAnswer) (end : Dispose × Settled (Node K V)) → So (disposed p answer end)
      stays_disposed answer (d, settled.Goes) = goes_on (at.Disposes d answer) tt
      stays_disposed answer (d, settled.Waits) = goes_on (at.Disposes d answer) tt
      stays_disposed answer (d, settled.Gave value) = goes_on (at.Disposes d answer) tt
      stays_disposed answer (d, settled.Done) = tt

      pub stays_changed : (word new : ℕ) → So (changed p word new)
      stays_changed word new =
          either (new == TOMBSTONE) (going p (at.Counts word)) _ (goes_on (at.Counts word) tt)
          (either (word == 0) (going p (at.Counts 0)) _ (goes_on (at.Counts 0) tt) (goes_on (at.Disposes (disposing p.setting word p.trial.table) (answers.Replaced word p.own)) tt))

      -- while it seeks
      module _ (seek : seeks ≡ true) (bare : IsBare its known p) (has_key : (v : V) → known ≡ Some v → (value ≡ Some v) × (k : K) × (its ≡ Some k)) where
        pub stays_over : (end : End) → So (over p end)
        stays_over (ends.Answered answer) = tt
        stays_over (ends.Refused fault) = bare

        stays_ending : (end : End) → So (ending p end)
        stays_ending end = by_test (p.own == 0) (over p end) (going p (at.Drops end)) (λ e. stays_over end) (λ e. absurd (eqb-false p.own 0 e bare.0))

        -- where the key is missing, and it knows what to store
        pub stays_gap : (v : V) → known ≡ Some v → p.replies.absent ≡ tells.Value v → (gap : Gap) → GapIs m2 p gap → So (at_gap gap p)
        stays_gap v is told gaps.NoTable empty = goes_on _ (seek, bare)
        stays_gap v is told gaps.Free empty =
            let h = has_key v is in
            subst (λ (t : Told V). So (storing t p 0)) (sym told)
            (goes_on (at.Asks (asking.Fills 0)) ((bare.0, h.1, h.2, bare.1 ∙ h.2, v, h.0, ap value_replied told), empty))
        stays_gap v is told gaps.Past empty = goes_on at.Nexts (seek, bare)
        stays_gap v is told gaps.Last empty = record { present = asks; absent = absent; point = (seek, bare) }

        stays_asking : (gap : Gap) → GapIs m2 p gap → So (asking_at gap p)
        stays_asking gap empty = by known refl
          where
            by : (o : Option V) → known ≡ o → So (asking_at gap p)
            by None is =
                subst (λ (t : Told V). So (gap_by t gap p)) (sym (bare.2 ∙ ap first_reply is)) (goes_on (at.Asks (asking.Absent gap)) (seek, bare, is, empty), tt)
            by (Some v) is =
                let told : p.replies.absent ≡ tells.Value v = bare.2 ∙ ap first_reply is in
                subst (λ (t : Told V). So (gap_by t gap p)) (sym told) (stays_gap v is told gap empty)

        pub stays_tableless : (x : Missing) → AsksMissing x → So (tableless x p)
        stays_tableless missing.Answers so = stays_ending (ends.Answered answers.Absent)
        stays_tableless missing.Puts so = absurd so
        stays_tableless missing.Asks so = stays_asking gaps.NoTable tt

        stays_free : (x : Missing) → AsksMissing x → (x ≡ missing.Asks → WordIs m2 p 0) → So (at_free x p)
        stays_free missing.Answers so empty = stays_ending (ends.Answered answers.Absent)
        stays_free missing.Puts so empty = absurd so
        stays_free missing.Asks so empty = stays_asking gaps.Free (empty refl)

        stays_made : So (following_made p)
        stays_made = record { present = asks; absent = absent; point = (seek, bare) }

        pub stays_last : (x : Missing) → AsksMissing x → So (at_last x p)
        stays_last missing.Answers so = either (is_incremental p.setting.mode) _ _ (stays_ending (ends.Answered answers.Absent)) stays_made
        stays_last missing.Puts so = absurd so
        stays_last missing.Asks so = either (is_incremental p.setting.mode) _ _ (stays_asking gaps.Last tt) stays_made

        stays_pair : (t : There) → AsksThere t → (word : ℕ) → WordIs m2 p word → So (at_pair t p word)
        stays_pair there.Answers so word is = stays_ending (ends.Answered (answers.Found word))
        stays_pair there.Puts so word is = absurd so
        stays_pair there.Removes so word is = absurd so
        stays_pair there.Asks so word is =
            either (block_in word == p.replies.pair) _ _ (subst (λ (t : Told V). So (pair_by t p word)) (sym bare.3) asks_it) asks_it
          where
            asks_it : So (pair_by tells.Nothing p word)
            asks_it = (goes_on (at.Asks (asking.Present word)) (seek, bare, is), refl)

        pub stays_told : (word : ℕ) → WordIs m2 p word → (found : Finding) → (found ≡ finds.Free → p.missing ≡ missing.Asks → word ≡ 0) → So (after_finding true p word found)
        stays_told word is finds.Free zero = stays_free p.missing absent (λ e. subst (WordIs m2 p) (zero refl e) is)
        stays_told word is finds.Passed zero =
            passed_so So (having_met p word) (λ next. record { present = asks; absent = absent; point = (seek, bare) }) (record { present = asks; absent = absent; point = (seek, bare) })
            (λ e. by_test (p.own == 0) (over (having_met p word) (ends.Answered answers.Absent)) (going (having_met p word) (at.Drops (ends.Answered answers.Absent)))
            (λ none. tt) (λ some. absurd (eqb-false p.own 0 some bare.0)))
            (λ e untold. (record { present = asks; absent = absent; point = (seek, bare, none_known known (sym bare.2 ∙ untold), tt) }, tt)) (next_trial (with_met p.trial word))
        stays_told word is finds.Moved zero = goes_on at.Nexts (seek, bare)
        stays_told word is finds.Copying zero = goes_on at.Probes (seek, bare)
        stays_told word is finds.There zero = stays_pair p.there asks word is

        pub stays_entering : (table : Table) → So (entering p table)
        stays_entering table = record { present = asks; absent = absent; point = (seek, bare) }

        pub stays_on : (table : Table) → So (continued_in p table)
        stays_on table =
            either (is_incremental p.setting.mode) _ (going p (at.Copies (copying_all p.setting p.trial.table table)))
            (either p.helped (entering p table) _ (stays_entering table) (record { present = asks; absent = absent; point = (seek, bare) }))
            (goes_on (at.Copies (copying_all p.setting p.trial.table table)) (seek, bare))

        -- what machines within it tell
        pub stays_first : (end : NewTable × Advance Table) → So (first_made p end)
        stays_first (n, progress.Goes) = goes_on (at.Firsts n) (seek, bare)
        stays_first (n, progress.Waits) = goes_on (at.Firsts n) (seek, bare)
        stays_first (n, progress.Done table) = stays_entering table
        stays_first (n, progress.Refused fault) = stays_ending (ends.Refused fault)

        pub stays_next : (end : NewTable × Advance Table) → So (next_made p end)
        stays_next (n, progress.Goes) = goes_on (at.Allocs n) (seek, bare)
        stays_next (n, progress.Waits) = goes_on (at.Allocs n) (seek, bare)
        stays_next (n, progress.Done table) = stays_on table
        stays_next (n, progress.Refused fault) = stays_ending (ends.Refused fault)

        pub stays_helped : (goal : Table) (end : Copier × Yielding (Node K V) Table) → So (helped p goal end)
        stays_helped goal (copier, outcome.Goes) = goes_on (at.Helps copier goal) (seek, bare)
        stays_helped goal (copier, outcome.Waits) = goes_on (at.Helps copier goal) (seek, bare)
        stays_helped goal (copier, outcome.Gave value) = goes_on (at.Helps copier goal) (seek, bare)
        stays_helped goal (copier, outcome.Done table) = stays_entering goal
        stays_helped goal (copier, outcome.Refused fault) = stays_ending (ends.Refused fault)

        pub stays_copied : (end : Copier × Yielding (Node K V) Table) → So (copied p end)
        stays_copied (copier, outcome.Goes) = goes_on (at.Copies copier) (seek, bare)
        stays_copied (copier, outcome.Waits) = goes_on (at.Copies copier) (seek, bare)
        stays_copied (copier, outcome.Gave value) = goes_on (at.Copies copier) (seek, bare)
        stays_copied (copier, outcome.Done table) = stays_entering table
        stays_copied (copier, outcome.Refused fault) = stays_ending (ends.Refused fault)
