-- What a call on one key has changed, by where it stands, and whether it is about to count then.
use Rattle.std.specs.Prelude.{◌≡◌, ℕ, Bool, true, false}
use Rattle.std.proofs.Common.{refl, ap, subst, inl, inr}
use Rattle.run_places.specs.Given.SeizeWorld.{World}
use Rattle.run_places.specs.Given.TablesDeclared.node.Node.{Node}
use Rattle.run_places.specs.Given.TablesDeclared.setting.Setting.{Setting}
use Rattle.run_places.specs.Given.ResizeDeclared.dispose.Dispose.{Dispose}
use Rattle.run_places.specs.Given.RawProgress.{of_called}
use Rattle.run_places.specs.Given.RawDeclared.machines.answer.Called.{Called}
use Rattle.run_places.specs.Given.RawDeclared.machines.answer.Called.TheVariants as called
use Rattle.run_places.specs.Given.RawDeclared.machines.answer.End.{End}
use Rattle.run_places.specs.Given.RawDeclared.machines.answer.KeyAnswer.{KeyAnswer}
use Rattle.run_places.specs.Given.RawDeclared.machines.answer.KeyAnswer.TheVariants as answers
use Rattle.run_places.specs.Given.RawDeclared.machines.call.Calling.{Calling}
use Rattle.run_places.specs.Given.RawDeclared.machines.call.Calling.TheVariants as at
use Rattle.run_places.specs.Given.RawDeclared.machines.call.KeyCall.{KeyCall}
use Rattle.run_places.specs.Given.RuleChart.{Chart}
use Rattle.run_places.specs.Given.RuleWords.{Blocks}
use Rattle.owner_facts.specs.Given.PointsFactsCalls.{Change, Unchanged, Stored, Replaced, Removed, Seeks, AnswersChange, CallingFacts}
use Rattle.owner_facts.specs.Given.PointsTold.{IsRowOfCall}
use Rattle.owner_facts.specs.Given.LateLateCalls.{SupersededCalling}
use Rattle.owner_facts.specs.Given.CallersRows.{past_row, once_over}
use Rattle.owner_facts.specs.Given.CallersTogether.{CallOnKey, OnKey, Knows, IsAtPoint, in_slot}
use Rattle.run_debts.specs.Counts.{counts_in_calling}
use Rattle.run_debts.proofs.Aimed.{CallsElsewhere}
use Rattle.run_debts.proofs.Fresh.{IsBefore, IsPlain, IsFreshAt, IsFreshLike, fresh_like}
use Rattle.run_debts.proofs.Points.{IsBeyond}

-- what a call on one key says of how far it is, it says in one way
pub same_called : {T : Type 0} (a b : Called T) → of_called a ≡ of_called b → a ≡ b
same_called called.Goes called.Goes e = refl
same_called called.Waits called.Waits e = refl
same_called (called.Gave v) (called.Gave w) e = let one : v ≡ w = cc e in ap called.Gave one
same_called (called.Unstored v) (called.Unstored w) e = let one : v ≡ w = cc e in ap called.Unstored one
same_called (called.Asks v) (called.Asks w) e = let one : v ≡ w = cc e in ap called.Asks one
same_called (called.Done v) (called.Done w) e = let one : v ≡ w = cc e in ap called.Done one
same_called (called.Refused v) (called.Refused w) e = let one : v ≡ w = cc e in ap called.Refused one
same_called _ _ e = absurd (cc e)

-- where it stands once its row is over, it is as little about to count, and has as little begun to dispose of a pair
past_counts : (p : Calling) → counts_in_calling (past_row p) ≡ counts_in_calling p
past_counts (at.Disposes dispose answer) = refl
past_counts (at.Helps copier goal) = refl
past_counts (at.Copies copier) = refl
past_counts _ = refl

past_fresh : (p : Calling) → IsFreshLike p → IsFreshLike (past_row p)
past_fresh (at.Disposes dispose (answers.Replaced old new)) fresh = tt
past_fresh (at.Disposes dispose answer) fresh = fresh
past_fresh (at.Helps copier goal) fresh = tt
past_fresh (at.Copies copier) fresh = tt
past_fresh _ fresh = fresh

-- it counts, or has changed nothing yet, or is past that
pub data KindOf (p : Calling) : Type 0 where
  ToCount : (removed : ℕ) → p ≡ at.Counts removed → KindOf p
  ToDispose : (dispose : Dispose) (answer : KeyAnswer) → p ≡ at.Disposes dispose answer → KindOf p
  IsAtEnd : (end : End) → p ≡ at.Over end → KindOf p
  ToChange : IsBefore p → KindOf p

pub kind_at : (p : Calling) → KindOf p
kind_at (at.Counts removed) = ToCount removed refl
kind_at (at.Disposes dispose answer) = ToDispose dispose answer refl
kind_at (at.Over end) = IsAtEnd end refl
kind_at _ = ToChange tt

pub before_elsewhere : (p : Calling) → IsBefore p → CallsElsewhere p
before_elsewhere (at.Counts removed) before = absurd before
before_elsewhere _ before = tt

pub before_not : (p : Calling) → IsBefore p → counts_in_calling p ≡ false
before_not (at.Counts removed) before = absurd before
before_not _ before = refl

pub elsewhere_not : (p : Calling) → CallsElsewhere p → counts_in_calling p ≡ false
elsewhere_not (at.Counts removed) elsewhere = absurd elsewhere
elsewhere_not _ elsewhere = refl

pub row_beyond : (p : Calling) → IsRowOfCall p → IsBeyond p × CallsElsewhere p
row_beyond (at.Disposes dispose answer) row = (tt, tt)
row_beyond (at.Helps copier goal) row = (tt, tt)
row_beyond (at.Copies copier) row = (tt, tt)
row_beyond _ row = absurd row

-- by what the call has changed, and whether it is about to count then: it has changed nothing, or has replaced a pair, and is not; or it has stored or removed one,
-- and is
pub data Status (change : Change) (counts : Bool) : Type 0 where
  IsNone : change ≡ Unchanged → counts ≡ false → Status change counts
  IsOver : (o n : ℕ) → change ≡ Replaced o n → counts ≡ false → Status change counts
  IsNew : (n : ℕ) → change ≡ Stored n → counts ≡ true → Status change counts
  IsGone : (n : ℕ) → change ≡ Removed n → counts ≡ true → Status change counts

module _ {K V : Type 0} (same : K → K → Bool) (hash : K → ℕ) (w : World (Node K V)) (i : ℕ) (setting : Setting) (c : Chart K) (seen : Blocks) (keys : K → Bool) where
  abbrev TellsAt : Change → KeyAnswer → Type 0
  TellsAt change answer = AnswersChange same hash same w i setting c seen keys change change answer

  -- a plain answer tells no change
  pub plain_tells : (change : Change) (answer : KeyAnswer) → IsPlain answer → TellsAt change answer → ⊥
  plain_tells Unchanged (answers.Found word) plain tells = tells
  plain_tells (Stored n) (answers.Found word) plain tells = tells
  plain_tells (Replaced o n) (answers.Found word) plain tells = tells
  plain_tells (Removed n) (answers.Found word) plain tells = tells
  plain_tells Unchanged answers.Absent plain tells = tells
  plain_tells (Stored n) answers.Absent plain tells = tells
  plain_tells (Replaced o n) answers.Absent plain tells = tells
  plain_tells (Removed n) answers.Absent plain tells = tells
  plain_tells change (answers.Stored word) plain tells = plain
  plain_tells change (answers.Replaced old new) plain tells = plain
  plain_tells change (answers.Removed word) plain tells = plain

  over_status : (change : Change) (old new : ℕ) → TellsAt change (answers.Replaced old new) → Status change false
  over_status Unchanged old new tells = absurd tells
  over_status (Stored n) old new tells = absurd tells
  over_status (Replaced o n) old new tells = IsOver o n refl refl
  over_status (Removed n) old new tells = absurd tells

  pub unchanged_tells : (change : Change) (answer : KeyAnswer) → change ≡ Unchanged → TellsAt change answer → ⊥
  unchanged_tells change answer is tells = by answer (subst (λ (x : Change). TellsAt x answer) is tells)
    where
      by : (a : KeyAnswer) → TellsAt Unchanged a → ⊥
      by (answers.Found word) t = t
      by answers.Absent t = t
      by (answers.Stored word) t = t
      by (answers.Replaced old new) t = t
      by (answers.Removed word) t = t

  -- by what it knows where it stands
  status_at : (change : Change) (x : KeyCall K V K) (p : Calling) → IsFreshLike p → (Seeks same hash same w i setting c seen keys change p → change ≡ Unchanged)
      → CallingFacts same hash same w i setting c seen keys change x p → Status change (counts_in_calling p)
  status_at change x (at.Counts removed) fresh seeks facts = elim facts as (λ _. Status change true) [
    | inl stored ↦ IsNew stored.1 stored.2 refl
    | inr gone ↦ IsGone gone.0 gone.3 refl
  ]
  status_at change x (at.Disposes dispose (answers.Replaced old new)) fresh seeks facts = over_status change old new facts.1
  status_at change x (at.Disposes dispose (answers.Found word)) fresh seeks facts = absurd fresh
  status_at change x (at.Disposes dispose answers.Absent) fresh seeks facts = absurd fresh
  status_at change x (at.Disposes dispose (answers.Stored word)) fresh seeks facts = absurd fresh
  status_at change x (at.Disposes dispose (answers.Removed word)) fresh seeks facts = absurd fresh
  status_at change x (at.Over end) fresh seeks facts = IsNone facts refl
  status_at change x _ fresh seeks facts = IsNone (seeks tt) refl

  late_status : (change : Change) (began : ℕ) (x : KeyCall K V K) (p : Calling) → change ≡ Unchanged → SupersededCalling same hash same w i setting c seen keys began x p → Status change (counts_in_calling p)
  late_status change began x (at.Counts removed) none facts = absurd facts
  late_status change began x _ none facts = IsNone none refl

module _ {K V : Type 0} (same : K → K → Bool) (hash : K → ℕ) (setting : Setting) (slot : ℕ → ℕ) (w : World (Node K V)) (c : Chart K) (seen : Blocks) (i : ℕ) (x : CallOnKey K V K) where
  knows_status : (p : KeyCall K V K) → IsFreshLike p.stands → Knows V same hash same setting slot w c seen i x p → Status x.change (counts_in_calling p.stands)
  knows_status p fresh knows = elim (knows.facts) as (λ _. Status x.change (counts_in_calling p.stands)) [
    | inl facts ↦ status_at same hash w i (in_slot setting (slot i)) c seen x.keys x.change p p.stands fresh facts.unchanged facts.point
    | inr late ↦ late_status same hash w i (in_slot setting (slot i)) c seen x.keys x.change x.began p p.stands late.0 late.1.point
  ]

  pub stands_status : IsFreshAt x.call.stands → IsAtPoint V same hash same setting slot w c seen i (OnKey x) → Status x.change (counts_in_calling x.call.stands)
  stands_status is_fresh stands = elim stands as (λ _. Status x.change (counts_in_calling x.call.stands)) [
    | inl k ↦ knows_status x.call (fresh_like x.call.stands is_fresh) k.1
    | inr k ↦ subst (Status x.change) (past_counts x.call.stands) (knows_status (once_over x.call) (past_fresh x.call.stands (fresh_like x.call.stands is_fresh)) k.2)
  ]
