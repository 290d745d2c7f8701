-- What a call waits for: a pair that is being copied, and what a machine within it waits for. And where it begins to copy.
use Rattle.many_maps.specs.Given.RawAnswers.{ended}
use Rattle.many_maps.specs.Given.RawCall.{copied, disposed, first_made, helped, looked, next_made}
use Rattle.many_maps.specs.Given.RawCallPoints.{answering, asking_at, at_free, at_last, at_pair, changed, counted, ending, entering, following_made, going, passed, standing, tableless, after_finding, continued_in, having_met}
use Rattle.many_maps.specs.Given.TablesChunks.{is_incremental}
use Rattle.many_maps.specs.Given.ResizeCopierStates.{copying_all, helping}
use Rattle.many_maps.specs.Given.ResizeDispose.{disposing}
use Rattle.many_maps.specs.Given.TablesFinding.{finding}
use Rattle.many_maps.specs.Given.TablesTrials.{next_trial, with_met}
use Rattle.many_maps.specs.Given.RawDeclared.machines.answer.KeyAnswer.{KeyAnswer}
use Rattle.many_maps.specs.Given.RawDeclared.machines.answer.Called.{Called}
use Rattle.many_maps.specs.Given.RawDeclared.machines.answer.Called.TheVariants.{Waits, Unstored, Asks}
use Rattle.many_maps.specs.Given.RawDeclared.machines.answer.End.{End}
use Rattle.many_maps.specs.Given.RawDeclared.machines.answer.Missing.{Missing}
use Rattle.many_maps.specs.Given.RawDeclared.machines.answer.There.{There}
use Rattle.many_maps.specs.Given.RawDeclared.machines.call.KeyCall.{KeyCall}
use Rattle.many_maps.specs.Given.RawDeclared.machines.call.Calling.{Calling}
use Rattle.many_maps.specs.Given.ResizeDeclared.copier.Copier.{Copier}
use Rattle.many_maps.specs.Given.ResizeDeclared.dispose.Dispose.{Dispose}
use Rattle.many_maps.specs.Given.TablesDeclared.finding.Aim.{Aim}
use Rattle.many_maps.specs.Given.TablesDeclared.finding.Aim.TheVariants.{Changes, Looks, Stores}
use Rattle.many_maps.specs.Given.TablesDeclared.finding.Finding.{Finding}
use Rattle.many_maps.specs.Given.ResizeDeclared.lookup.Lookup.{Lookup}
use Rattle.many_maps.specs.Given.ResizeDeclared.new_table.NewTable.{NewTable}
use Rattle.many_maps.specs.Given.TablesDeclared.marks.TheConstants.{TOMBSTONE}
use Rattle.many_maps.specs.Given.TablesDeclared.node.Node.{Node}
use Rattle.many_maps.specs.Given.ResizeDeclared.yielding.Yielding.{Yielding}
use Rattle.many_maps.specs.Given.TablesDeclared.resize_mode.ResizeMode.{ResizeMode}
use Rattle.many_maps.specs.Given.TablesDeclared.resize_mode.ResizeMode.TheVariants.{Blocking, Incremental}
use Rattle.many_maps.specs.Given.TablesDeclared.setting.Setting.{Setting}
use Rattle.many_maps.specs.Given.TablesDeclared.table.Table.{Table}
use Rattle.many_maps.proofs.Given.RuleWords.PlaceWords.{HasBlock, HasByte}
use Rattle.many_maps.proofs.Given.RuleWords.PlaceWordsFinding.{finding-tombstone, finding-copied, finding-copying, finding-other, finding-still}
use Rattle.many_maps.specs.Given.RuleChart.{Tombstone, Copied, Copying, Empty, Holds, Place, Still}
use Rattle.many_maps.specs.Given.RuleWords.{word_of}
use Rattle.many_maps.specs.Given.SeizeDeclared.advance.Advance.{Advance}
use Rattle.many_maps.specs.Given.SeizeDeclared.rows.settle.Settled.{Settled}
use Rattle.many_maps.proofs.Given.SeizeWordsOneOwner.Operations.{loaded}
use Rattle.std.proofs.Common.{◌≡◌, ◌≢◌, ℕ, Bool, true, false, Option, Some, None, refl, sym, subst, ◌∙◌}
use Rattle.std.specs.Prelude.{◌==◌, if◌then◌else◌}
use Rattle.many_maps.specs.Given.RawDeclared.machines.call.Calling.TheVariants as at
use Rattle.many_maps.specs.Given.ResizeDeclared.yielding.Yielding.TheVariants as outcome
use Rattle.many_maps.specs.Given.RawDeclared.machines.answer.End.TheVariants as ends
use Rattle.many_maps.specs.Given.SeizeDeclared.advance.Advance.TheVariants as progress
use Rattle.many_maps.specs.Given.SeizeDeclared.rows.settle.Settled.TheVariants as settled
use Rattle.many_maps.specs.Given.RawDeclared.machines.answer.KeyAnswer.TheVariants as answers
use Rattle.many_maps.specs.Given.RawDeclared.machines.answer.Missing.TheVariants as missing
use Rattle.many_maps.specs.Given.TablesDeclared.finding.Finding.TheVariants as is
use Rattle.many_maps.specs.Given.RawDeclared.machines.answer.There.TheVariants as there
use Rattle.many_maps.proofs.Given.PointsCalls.Asked.{asking_so, asking_of_so, passed_so}
use Rattle.many_maps.specs.Given.RawCallFills.{asks_at as plan_of}
use Rattle.owner_facts.proofs.Alone.Asks.{asks_so}
use Rattle.many_maps.specs.Given.RawDeclared.machines.asking.Asking.{Asking}
use Rattle.many_maps.specs.Given.RawDeclared.machines.asking.Asking.TheVariants as asking
use Rattle.many_maps.specs.Given.RawDeclared.machines.asking.Gap.{Gap}
use Rattle.many_maps.specs.Given.RawDeclared.machines.asking.Gap.TheVariants as gaps
use Rattle.many_maps.proofs.Given.RuleKeys.Always.{AlwaysOf}
use Rattle.many_maps.specs.Given.SeizeWordsDeclared.fault.Fault.TheVariants.{Memory}

-- a pair is found that is being copied
pub copying_place : (block byte : ℕ → ℕ) (mode : ResizeMode) (aim : Aim) (place : Place) (same : Bool) → HasBlock block place → HasByte byte place
    → finding mode aim (word_of block byte place) same ≡ is.Copying → (is_incremental mode ≡ true) × (n : ℕ) × (borrowed : Bool) × (place ≡ Holds n Copying borrowed)
copying_place block byte (Incremental chunk) aim (Empty true) same some low e = absurd (cc)
copying_place block byte Blocking Looks (Empty true) same some low e = absurd (cc)
copying_place block byte Blocking Changes (Empty true) same some low e = absurd (cc)
copying_place block byte Blocking Stores (Empty true) same some low e = absurd (cc)
copying_place block byte mode aim (Empty false) same some low e = absurd (cc)
copying_place block byte mode aim (Tombstone mark) same some low e = absurd (let f = finding-tombstone block byte mode aim mark same in cc)
copying_place block byte mode aim (Holds n phase borrowed) false some low e =
    absurd (let f = finding-other block byte mode aim n borrowed (low n phase borrowed refl) (some n phase borrowed refl) phase in cc)
copying_place block byte mode aim (Holds n Still borrowed) true some low e =
    absurd (let f = finding-still block byte mode aim n borrowed (low n Still borrowed refl) (some n Still borrowed refl) in cc)
copying_place block byte (Incremental chunk) aim (Holds n Copying borrowed) true some low e = (refl, n, borrowed, refl)
copying_place block byte Blocking Looks (Holds n Copying borrowed) true some low e =
    absurd (let f = finding-copying block byte Blocking Looks n borrowed (low n Copying borrowed refl) (some n Copying borrowed refl) in cc)
copying_place block byte Blocking Changes (Holds n Copying borrowed) true some low e =
    absurd (let f = finding-copying block byte Blocking Changes n borrowed (low n Copying borrowed refl) (some n Copying borrowed refl) in cc)
copying_place block byte Blocking Stores (Holds n Copying borrowed) true some low e =
    absurd (let f = finding-copying block byte Blocking Stores n borrowed (low n Copying borrowed refl) (some n Copying borrowed refl) in cc)
copying_place block byte (Incremental chunk) aim (Holds n Copied borrowed) true some low e =
    absurd (let f = finding-copied block byte (Incremental chunk) aim n borrowed (low n Copied borrowed refl) (some n Copied borrowed refl) in cc)
copying_place block byte Blocking Looks (Holds n Copied borrowed) true some low e =
    absurd (let f = finding-copied block byte Blocking Looks n borrowed (low n Copied borrowed refl) (some n Copied borrowed refl) in cc)
copying_place block byte Blocking Changes (Holds n Copied borrowed) true some low e =
    absurd (let f = finding-copied block byte Blocking Changes n borrowed (low n Copied borrowed refl) (some n Copied borrowed refl) in cc)
copying_place block byte Blocking Stores (Holds n Copied borrowed) true some low e =
    absurd (let f = finding-copied block byte Blocking Stores n borrowed (low n Copied borrowed refl) (some n Copied borrowed refl) in cc)

-- where it copies, it begins to
abbrev pub IsFresh : Setting → Calling → Type 0
IsFresh setting (at.Helps copier goal) = (is_incremental setting.mode ≡ true) × (copier ≡ helping setting)
IsFresh setting (at.Copies copier) = (is_incremental setting.mode ≡ false) × (source : Table) × (target : Table) × (copier ≡ copying_all setting source target)
IsFresh setting _ = Unit {0}

-- it does not wait, asks only at a question, and reclaims its own pair at its end alone
abbrev pub Proceeds : {K V Q T : Type 0} → KeyCall K V Q × Called T → Type 0
Proceeds (p, Waits) = ⊥
Proceeds (p, Asks asked) = (asks_at : Asking) × (p.stands ≡ at.Asks asks_at)
Proceeds (p, Unstored value) = (end : End) × (p.stands ≡ at.Over end)
Proceeds (p, _) = Unit {0}

module _ {K V Q : Type 0} (p : KeyCall K V Q) where
  -- nor is it in the middle of a copying
  abbrev pub On : KeyCall K V Q × Called (Node K V) → Type 0
  On end = Proceeds end × IsFresh p.setting end.0.stands

  pub ended_on : (q : KeyCall K V Q) (end : End) → Proceeds (q, ended {T = Node K V} end)
  ended_on q (ends.Answered answer) = tt
  ended_on q (ends.Refused fault) = tt

  ending_on : (end : End) → On (ending p end)
  ending_on end = by_own (p.own == 0)
    where
      by_own : (b : Bool) → On (if b then (record p { stands = at.Over end }, ended end) else going p (at.Drops end))
      by_own true = (ended_on (record p { stands = at.Over end }) end, tt)
      by_own false = (tt, tt)

  -- where the key is missing, one that asks does so, or goes on
  gap_on : (gap : Gap) → On (asking_at gap p)
  gap_on = asking_so On p (λ word new. (tt, tt)) (λ asks_at. (tt, tt)) (λ asks_at asked. ((asks_at, refl), tt)) (tt, tt) (tt, tt) (tt, tt)

  pub tableless_on : (m : Missing) → On (tableless m p)
  tableless_on missing.Answers = ending_on (ends.Answered answers.Absent)
  tableless_on missing.Puts = (tt, tt)
  tableless_on missing.Asks = gap_on gaps.NoTable

  pub last_on : (m : Missing) → On (at_last m p)
  last_on missing.Answers = by_mode (is_incremental p.setting.mode)
    where
      by_mode : (b : Bool) → On (if b then answering p answers.Absent else following_made p)
      by_mode true = ending_on (ends.Answered answers.Absent)
      by_mode false = (tt, tt)
  last_on missing.Puts = (tt, tt)
  last_on missing.Asks = by_mode (is_incremental p.setting.mode)
    where
      by_mode : (b : Bool) → On (if b then asking_at gaps.Last p else following_made p)
      by_mode true = gap_on gaps.Last
      by_mode false = (tt, tt)

  pub following_on : (table : Table) → On (continued_in p table)
  following_on table = by (is_incremental p.setting.mode) p.helped refl
    where
      by : (b h : Bool) → is_incremental p.setting.mode ≡ b → On (if b then (if h then entering p table else going (record p { helped = true }) (at.Helps (helping p.setting) table))
          else going p (at.Copies (copying_all p.setting p.trial.table table)))
      by true true mode = (tt, tt)
      by true false mode = (tt, (mode, refl))
      by false h mode = (tt, (mode, p.trial.table, table, refl))

  pub changed_on : (word new : ℕ) → On (changed p word new)
  changed_on word new = by (new == TOMBSTONE) (word == 0)
    where
      by : (b e : Bool) → On (if b then going p (at.Counts word) else (if e then going p (at.Counts 0) else going p (at.Disposes (disposing p.setting word p.trial.table) (answers.Replaced word p.own))))
      by true e = (tt, tt)
      by false true = (tt, tt)
      by false false = (tt, tt)

  pub counted_on : (removed : ℕ) → On (counted p removed)
  counted_on removed = by (removed == 0)
    where
      by : (b : Bool)
          → On (if b then (record p { stands = at.Over (ends.Answered (answers.Stored p.own)) }, ended (ends.Answered (answers.Stored p.own)))
          else going p (at.Disposes (disposing p.setting removed p.trial.table) (answers.Removed removed)))
      by true = (tt, tt)
      by false = (tt, tt)

  goes : {X : Type 0} (end : KeyCall K V Q × Called (Node K V)) → On end → (X → Proceeds end) × IsFresh p.setting end.0.stands
  goes end on = (λ other. on.0, on.1)

  -- only a pair that is being copied is waited for
  pub told_on : (loaded : Bool) (word : ℕ) (x : Finding) → (x ≢ is.Copying → Proceeds (after_finding {V = V} loaded p word x)) × IsFresh p.setting (after_finding loaded p word x).0.stands
  told_on loaded word is.Copying = (λ other. absurd (other refl), halts loaded)
    where
      halts : (b : Bool) → IsFresh p.setting (if b then (standing p at.Probes, let w : Called (Node K V) = Waits in w) else going p at.Probes).0.stands
      halts true = tt
      halts false = tt
  told_on loaded word is.Free = goes (at_free p.missing p) (free p.missing)
    where
      free : (m : Missing) → On (at_free m p)
      free missing.Answers = ending_on (ends.Answered answers.Absent)
      free missing.Puts = (tt, tt)
      free missing.Asks = gap_on gaps.Free
  told_on loaded word is.Moved = goes (going p at.Nexts) (tt, tt)
  told_on loaded word is.There = goes (at_pair p.there p word) (pair p.there)
    where
      pair : (x : There) → On (at_pair x p word)
      pair there.Answers = ending_on (ends.Answered (answers.Found word))
      pair there.Puts = (tt, tt)
      pair there.Removes = (tt, tt)
      pair there.Asks = asking_of_so On p (λ word new. (tt, tt)) (λ asks_at. (tt, tt)) (λ asks_at asked. ((asks_at, refl), tt)) word
  told_on loaded word is.Passed =
      goes (passed (having_met p word) (next_trial (with_met p.trial word)))
      (passed_so On (having_met p word) (λ next. (tt, tt)) (tt, tt) (λ e. answered (p.own == 0)) (λ e untold. ((asking.Absent gaps.Past, refl), tt)) (next_trial (with_met p.trial word)))
    where
      answered : (b : Bool) → On (if b then (record (having_met p word) { stands = at.Over (ends.Answered answers.Absent) }, ended (ends.Answered answers.Absent)) else going (having_met p word) (at.Drops (ends.Answered answers.Absent)))
      answered true = (tt, tt)
      answered false = (tt, tt)

  pub looked_on : (end : Lookup × Advance (Option ℕ)) → end.1 ≢ progress.Waits → On (looked p end)
  looked_on (next, progress.Goes) none = (tt, tt)
  looked_on (next, progress.Waits) none = absurd (none refl)
  looked_on (next, progress.Done (Some found)) none = (tt, tt)
  looked_on (next, progress.Done None) none = (tt, tt)
  looked_on (next, progress.Refused fault) none = (tt, tt)

  pub first_on : (end : NewTable × Advance Table) → end.1 ≢ progress.Waits → On (first_made p end)
  first_on (next, progress.Goes) none = (tt, tt)
  first_on (next, progress.Waits) none = absurd (none refl)
  first_on (next, progress.Done table) none = (tt, tt)
  first_on (next, progress.Refused fault) none = ending_on (ends.Refused fault)

  pub next_on : (end : NewTable × Advance Table) → end.1 ≢ progress.Waits → On (next_made p end)
  next_on (next, progress.Goes) none = (tt, tt)
  next_on (next, progress.Waits) none = absurd (none refl)
  next_on (next, progress.Done table) none = following_on table
  next_on (next, progress.Refused fault) none = ending_on (ends.Refused fault)

  pub helped_on : (goal : Table) (end : Copier × Yielding (Node K V) Table) → end.1 ≢ outcome.Waits → Proceeds (helped p goal end)
  helped_on goal (next, outcome.Goes) none = tt
  helped_on goal (next, outcome.Waits) none = absurd (none refl)
  helped_on goal (next, outcome.Gave value) none = tt
  helped_on goal (next, outcome.Done table) none = tt
  helped_on goal (next, outcome.Refused fault) none = (ending_on (ends.Refused fault)).0

  pub copied_on : (end : Copier × Yielding (Node K V) Table) → end.1 ≢ outcome.Waits → Proceeds (copied p end)
  copied_on (next, outcome.Goes) none = tt
  copied_on (next, outcome.Waits) none = absurd (none refl)
  copied_on (next, outcome.Gave value) none = tt
  copied_on (next, outcome.Done table) none = tt
  copied_on (next, outcome.Refused fault) none = (ending_on (ends.Refused fault)).0

  -- where it asks, or goes by what it was told
  pub asks_on : (asks_at : Asking) → p.stands ≡ at.Asks asks_at → AlwaysOf On (plan_of p asks_at)
  asks_on asks_at here =
      asks_so On p (λ q same. (tt, subst (IsFresh p.setting) (sym (same ∙ here)) tt)) (λ q word new. (tt, tt)) (λ q word. (tt, tt)) (λ q. (tt, tt)) (λ q node. ((ends.Refused Memory, refl), tt))
      (λ a asked is. ((a, is), subst (IsFresh p.setting) (sym here) tt)) asks_at here

  pub disposed_on : (answer : KeyAnswer) (end : Dispose × Settled (Node K V)) → end.1 ≢ settled.Waits → On (disposed p answer end)
  disposed_on answer (next, settled.Goes) none = (tt, tt)
  disposed_on answer (next, settled.Waits) none = absurd (none refl)
  disposed_on answer (next, settled.Gave value) none = (tt, tt)
  disposed_on answer (next, settled.Done) none = (tt, tt)
