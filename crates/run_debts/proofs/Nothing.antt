-- A call on one key that has taken no pair out of its map by its step, and is no copier with tables, has nothing in hand after it.
use Rattle.std.specs.Prelude.{◌≡◌, ℕ, Bool, false, Some, None, if◌then◌else◌}
use Rattle.std.proofs.Common.{refl, ap, sym, subst, inl, inr}
use Rattle.std.proofs.lemmas.Bool.{eq-eqb}
use Rattle.run_places.specs.Given.SeizeWorld.{World}
use Rattle.run_places.specs.Given.TablesDeclared.node.Node.{Node}
use Rattle.run_places.specs.Given.TablesDeclared.setting.Setting.{Setting}
use Rattle.run_places.specs.Given.RawDeclared.machines.answer.KeyAnswer.TheVariants as answers
use Rattle.run_places.specs.Given.RawDeclared.machines.call.Calling.{Calling}
use Rattle.run_places.specs.Given.RawDeclared.machines.call.Calling.TheVariants as at
use Rattle.run_places.specs.Given.RawDeclared.machines.call.KeyCall.{KeyCall}
use Rattle.run_places.specs.Given.EffectsKnown.{Known}
use Rattle.run_places.specs.Given.RuleChart.{Chart}
use Rattle.run_places.specs.Given.RuleWords.{Blocks}
use Rattle.owner_facts.specs.Given.PointsFactsCalls.{Change, Unchanged, Stored, Replaced, Removed, AnswersChange, CallingFacts}
use Rattle.owner_facts.specs.Given.LateLateCalls.{SupersededCalling}
use Rattle.owner_facts.specs.Alone.Handed.{call_has_unlinked}
use Rattle.owner_facts.specs.Given.CallersRows.{past_row, once_over}
use Rattle.owner_facts.specs.Given.CallersTogether.{CallOnKey, OnKey, IsAtPoint, in_slot}
use Rattle.run_debts.specs.Hand.{things_at, NotesPair}
use Rattle.run_debts.proofs.Fresh.{IsFreshAt}
use Rattle.run_debts.proofs.Hand.Asked.{NoneOfCall}
use Rattle.run_debts.proofs.Passed.{copier_none}

-- the change takes no pair out
abbrev pub TakesNone : Change → Type 0
TakesNone (Replaced a n) = ⊥
TakesNone (Removed a) = ⊥
TakesNone _ = Unit {0}

-- one that counts a pair that it has stored has none in hand
zero_none : (known : Known) (removed : ℕ) → removed ≡ 0 → NoneOfCall known (at.Counts removed)
zero_none known removed zero =
    let yes = eq-eqb removed 0 zero in (
      ap (λ (q : Bool). things_at known (if q then None else Some removed)) yes,
      subst (λ (q : Bool). NotesPair known (if q then None else Some removed)) (sym yes) tt,
    )

module _ {K V : Type 0} (known : Known) (same : K → K → Bool) (hash : K → ℕ) (w : World (Node K V)) (i : ℕ) (setting : Setting) (c : Chart K) (seen : Blocks) (keys : K → Bool) where
  -- an answer that tells that a pair was replaced
  replaced_not : (change : Change) (old new : ℕ) → AnswersChange same hash same w i setting c seen keys change change (answers.Replaced old new) → TakesNone change → ⊥
  replaced_not (Replaced a n) old new tells takes = takes
  replaced_not Unchanged old new tells takes = tells
  replaced_not (Stored n) old new tells takes = tells
  replaced_not (Removed n) old new tells takes = tells

  none_at : (change : Change) (x : KeyCall K V K) (p : Calling) → IsFreshAt p → call_has_unlinked p ≡ false → TakesNone change
      → CallingFacts same hash same w i setting c seen keys change x p → NoneOfCall known p
  none_at change x (at.Counts removed) fresh linked takes facts = elim facts as (λ _. NoneOfCall known (at.Counts removed)) [
    | inl stored ↦ zero_none known removed stored.0
    | inr gone ↦ absurd (subst TakesNone gone.3 takes)
  ]
  none_at change x (at.Disposes dispose (answers.Replaced old new)) fresh linked takes facts = absurd (replaced_not change old new facts.1 takes)
  none_at change x (at.Disposes dispose (answers.Found word)) fresh linked takes facts = absurd fresh
  none_at change x (at.Disposes dispose answers.Absent) fresh linked takes facts = absurd fresh
  none_at change x (at.Disposes dispose (answers.Stored word)) fresh linked takes facts = absurd fresh
  none_at change x (at.Disposes dispose (answers.Removed word)) fresh linked takes facts = absurd fresh
  none_at change x (at.Helps copier goal) fresh linked takes facts = copier_none known copier copier.stands linked
  none_at change x (at.Copies copier) fresh linked takes facts = copier_none known copier copier.stands linked
  none_at change x _ fresh linked takes facts = (refl, tt)

  -- and where its row is under way
  none_past : (change : Change) (x : KeyCall K V K) (p : Calling) → IsFreshAt p → call_has_unlinked p ≡ false → TakesNone change
      → CallingFacts same hash same w i setting c seen keys change x (past_row p) → NoneOfCall known p
  none_past change x (at.Disposes dispose (answers.Replaced old new)) fresh linked takes facts = absurd (replaced_not change old new facts.1 takes)
  none_past change x (at.Disposes dispose (answers.Found word)) fresh linked takes facts = absurd fresh
  none_past change x (at.Disposes dispose answers.Absent) fresh linked takes facts = absurd fresh
  none_past change x (at.Disposes dispose (answers.Stored word)) fresh linked takes facts = absurd fresh
  none_past change x (at.Disposes dispose (answers.Removed word)) fresh linked takes facts = absurd fresh
  none_past change x (at.Helps copier goal) fresh linked takes facts = copier_none known copier copier.stands linked
  none_past change x (at.Copies copier) fresh linked takes facts = copier_none known copier copier.stands linked
  none_past change x p fresh linked takes facts = none_at change x p fresh linked takes facts

  -- one that comes late has taken none out
  late_none : (began : ℕ) (x : KeyCall K V K) (p : Calling) → call_has_unlinked p ≡ false → SupersededCalling same hash same w i setting c seen keys began x p → NoneOfCall known p
  late_none began x (at.Counts removed) linked facts = absurd facts
  late_none began x (at.Disposes dispose answer) linked facts = absurd facts
  late_none began x (at.Helps copier goal) linked facts = copier_none known copier copier.stands linked
  late_none began x (at.Copies copier) linked facts = copier_none known copier copier.stands linked
  late_none began x _ linked facts = (refl, tt)

  late_past : (began : ℕ) (x : KeyCall K V K) (p : Calling) → call_has_unlinked p ≡ false → SupersededCalling same hash same w i setting c seen keys began x (past_row p) → NoneOfCall known p
  late_past began x (at.Disposes dispose answer) linked facts = absurd facts
  late_past began x (at.Helps copier goal) linked facts = copier_none known copier copier.stands linked
  late_past began x (at.Copies copier) linked facts = copier_none known copier copier.stands linked
  late_past began x p linked facts = late_none began x p linked facts

module _ {K V : Type 0} (known : Known) (same : K → K → Bool) (hash : K → ℕ) (setting : Setting) (slot : ℕ → ℕ) (w : World (Node K V)) (c : Chart K) (seen : Blocks) (i : ℕ) (x : CallOnKey K V K) where
  abbrev None2 : Type 0
  None2 = NoneOfCall known x.call.stands

  pub stands_none : IsFreshAt x.call.stands → call_has_unlinked x.call.stands ≡ false → TakesNone x.change → IsAtPoint V same hash same setting slot w c seen i (OnKey x) → None2
  stands_none fresh linked takes stands = elim stands as (λ _. None2) [
    | inl k ↦ elim (k.1.facts) as (λ _. None2) [
      | inl facts ↦ none_at known same hash w i (in_slot setting (slot i)) c seen x.keys x.change x.call x.call.stands fresh linked takes facts.point
      | inr late ↦ late_none known same hash w i (in_slot setting (slot i)) c seen x.keys x.began x.call x.call.stands linked late.1.point
    ]
    | inr k ↦ elim (k.2.facts) as (λ _. None2) [
      | inl facts ↦ none_past known same hash w i (in_slot setting (slot i)) c seen x.keys x.change (once_over x.call) x.call.stands fresh linked takes facts.point
      | inr late ↦ late_past known same hash w i (in_slot setting (slot i)) c seen x.keys x.began (once_over x.call) x.call.stands linked late.1.point
    ]
  ]
