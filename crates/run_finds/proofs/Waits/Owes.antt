-- What a call owed before a step after which it owes one pair: that pair; or nothing, and the step has taken the pair out of its map; or something more, which it has handed over.
use Rattle.std.specs.Prelude.{◌≡◌, ℕ, ◌==◌, List, [], ◌∷◌, ◌++◌, Option, Some, None}
use Rattle.std.proofs.Common.{refl, ap, sym, subst, ◌∙◌, inl, inr, arith}
use Rattle.std.proofs.lemmas.Bool.{eq-eqb}
use Rattle.run_executor.specs.Given.SeizeWordsWord.{block_in}
use Rattle.run_executor.specs.Given.ReservesDeclared.sweep.Sweeping.{Sweeping}
use Rattle.run_executor.specs.Given.ReservesDeclared.sweep.Sweeping.TheVariants as sweeping
use Rattle.run_blocks.specs.Given.ResizeDeclared.copier.Copier.{Copier}
use Rattle.run_executor.specs.Given.RawDeclared.machines.call.Calling.{Calling}
use Rattle.run_executor.specs.Given.RawDeclared.machines.call.Calling.TheVariants as calling
use Rattle.run_executor.specs.Given.RunsDeclared.effect.Effect.{Effect}
use Rattle.run_executor.specs.Given.RunsDeclared.effect.Thing.{Thing}
use Rattle.run_executor.specs.Given.RunsDeclared.effect.Thing.TheVariants.{APair}
use Rattle.run_executor.specs.Given.SchedulesEffects.{passed}
use Rattle.run_executor.specs.Given.SchedulesMoment.{Moment}
use Rattle.run_executor.specs.Given.SchedulesViews.{first_of}
use Rattle.run_executor.specs.Given.PointsFactsCalls.{IsCopying}
use Rattle.run_executor.specs.Given.EffectsEffects.{carried}
use Rattle.run_executor.specs.Given.EffectsKnown.{Known}
use Rattle.run_executor.specs.Given.EffectsDeclared.role.Role.{Role}
use Rattle.run_executor.specs.Given.EffectsDeclared.role.Role.TheVariants as role
use Rattle.run_blocks.specs.Given.SettlesDue.{RowObligation, RowTells, TellsNone, TellsRetired, TellsDeferred, retired_effects}
use Rattle.run_blocks.specs.Given.SettlesHand.{thing_as, things_at, in_hand_of_call, in_hand_of_sweep, IsPairRole, NotesPair, NotesOfSweep}
use Rattle.run_blocks.specs.Given.SettlesInHand.{pair_in_calling, pair_in_sweeping, TakesPair}
use Rattle.run_blocks.specs.Given.SettlesOwing.{ObligationsGo, KeepsOwed, TakesOut, PutsOver, Passes, HandsFirst}
use Rattle.run_finds.specs.Waiting.{once_if, owed_in}
use Rattle.run_finds.proofs.Owed.{passed_none}

pub data OwedBefore (effects : List Effect) (k : ℕ) (before : List Thing) : Type 0 where
  OwedIt : before ≡ APair k ∷ [] → OwedBefore effects k before
  OwedNone : before ≡ [] → TakesPair effects k → OwedBefore effects k before
  OwedMore : (x y : Thing) (rest : List Thing) → before ≡ x ∷ y ∷ rest → OwedBefore effects k before

-- where one comes behind
by_last : (effects : List Effect) (p k : ℕ) (before : List Thing) → TakesPair effects p → before ++ APair p ∷ [] ≡ APair k ∷ [] → OwedBefore effects k before
by_last effects p k [] takes e = OwedNone refl (subst (TakesPair effects) (let one : p ≡ k = cc e in one) takes)
by_last effects p k (x ∷ []) takes e = absurd (cc e)
by_last effects p k (x ∷ y ∷ rest) takes e = absurd (cc e)

-- tables that the root passes are no pair
by_passed : (effects : List Effect) (k : ℕ) (before tables : List Thing) → owed_in k tables ≡ 0 → before ++ tables ≡ APair k ∷ [] → OwedBefore effects k before
by_passed effects k [] tables none e = absurd (once (subst (λ (l : List Thing). owed_in k l ≡ 0) e none))
  where
    once : owed_in k (APair k ∷ []) ≡ 0 → ⊥
    once zero_is = (let one : once_if (k == k) ≡ 1 = ap once_if (eq-eqb k k refl) in omega (arith, one, zero_is))
by_passed effects k (x ∷ []) tables none e = OwedIt (let one : x ≡ APair k = cc e in ap (λ (y : Thing). y ∷ []) one)
by_passed effects k (x ∷ y ∷ rest) tables none e = absurd (cc e)

module _ {K V : Type 0} (m : Moment K V) where
  pub owed_before : (effects : List Effect) (k : ℕ) (before after : List Thing) → ObligationsGo m effects before after → after ≡ APair k ∷ [] → OwedBefore effects k before
  owed_before effects k before after (KeepsOwed all same) is = OwedIt (sym same ∙ is)
  owed_before effects k before after (TakesOut p are more) is = by_last effects p k before (inl are) (sym more ∙ is)
  owed_before effects k before after (PutsOver p n s are more) is = by_last effects p k before (inr (n, s, are)) (sym more ∙ is)
  owed_before effects k before after (Passes t are more) is = by_passed effects k before (passed t.map (first_of t.map m) t.turn) (passed_none k t.map (first_of t.map m) t.turn) (sym more ∙ is)
  owed_before effects k before after (HandsFirst f x are hands less) is = OwedMore x (APair k) [] (less ∙ ap (λ (l : List Thing). x ∷ l) is)

-- What a machine has in hand that copies no pairs is one thing at most, the pair of its word.
module _ (known : Known) where
  things_one : (o : Option ℕ) (x y : Thing) (rest : List Thing) → things_at known o ≡ x ∷ y ∷ rest → ⊥
  things_one None x y rest e = cc e
  things_one (Some word) x y rest e = by (known.roles (block_in word)) e
    where
      by : (r : Role) → thing_as r ≡ x ∷ y ∷ rest → ⊥
      by (role.Pair n) is = cc is
      by (role.Table t len) is = cc is
      by role.Free is = cc is
      by (role.OwnPair j) is = cc is
      by (role.OwnTable turn shape) is = cc is
      by (role.Counter map) is = cc is

  things_some : (o : Option ℕ) (k : ℕ) → things_at known o ≡ APair k ∷ [] → (word : ℕ) × (o ≡ Some word)
  things_some None k e = absurd (cc e)
  things_some (Some word) k e = (word, refl)

  pub call_one : (q : Calling) → (IsCopying q → ⊥) → (x y : Thing) (rest : List Thing) → in_hand_of_call known q ≡ x ∷ y ∷ rest → ⊥
  call_one (calling.Helps copier goal) none x y rest e = none tt
  call_one (calling.Copies copier) none x y rest e = none tt
  call_one q none x y rest e = things_one (pair_in_calling q) x y rest e

  pub call_some : (q : Calling) → (IsCopying q → ⊥) → (k : ℕ) → in_hand_of_call known q ≡ APair k ∷ [] → (word : ℕ) × (pair_in_calling q ≡ Some word)
  call_some (calling.Helps copier goal) none k e = absurd (none tt)
  call_some (calling.Copies copier) none k e = absurd (none tt)
  call_some q none k e = things_some (pair_in_calling q) k e

  pub sweep_one : (q : Sweeping) → ((copier : Copier) → q ≡ sweeping.Copies copier → ⊥) → (x y : Thing) (rest : List Thing) → in_hand_of_sweep known q ≡ x ∷ y ∷ rest → ⊥
  sweep_one (sweeping.Copies copier) none x y rest e = none copier refl
  sweep_one q none x y rest e = things_one (pair_in_sweeping q) x y rest e

  pub sweep_some : (q : Sweeping) → ((copier : Copier) → q ≡ sweeping.Copies copier → ⊥) → (k : ℕ) → in_hand_of_sweep known q ≡ APair k ∷ [] → (word : ℕ) × (pair_in_sweeping q ≡ Some word)
  sweep_some (sweeping.Copies copier) none k e = absurd (none copier refl)
  sweep_some q none k e = things_some (pair_in_sweeping q) k e

  -- a pair in hand is noted as one
  things_none : (word : ℕ) → IsPairRole (known.roles (block_in word)) → things_at known (Some word) ≡ [] → ⊥
  things_none word pair e = by (known.roles (block_in word)) pair e
    where
      by : (r : Role) → IsPairRole r → thing_as r ≡ [] → ⊥
      by (role.Pair n) is none = cc none
      by (role.Table t len) is none = is
      by role.Free is none = is
      by (role.OwnPair j) is none = is
      by (role.OwnTable turn shape) is none = is
      by (role.Counter map) is none = is

  pub sweep_noted : (q : Sweeping) → ((copier : Copier) → q ≡ sweeping.Copies copier → ⊥) → NotesOfSweep known q → (word : ℕ) → pair_in_sweeping q ≡ Some word → in_hand_of_sweep known q ≡ [] → ⊥
  sweep_noted (sweeping.Copies copier) none notes word some e = none copier refl
  sweep_noted q none notes word some e = things_none word (subst (NotesPair known) some notes) (ap (things_at known) (sym some) ∙ e)

-- a row takes no pair out of its map
pub row_takes : (caller map : ℕ) (known : Known) (effects : List Effect) (before after : Option RowObligation) (k : ℕ) → RowTells caller map known effects before after → TakesPair effects k → ⊥
row_takes caller map known effects before after k (TellsNone none same) takes = nothing takes
  where
    nothing : TakesPair effects k → ⊥
    nothing (inl is) = (let both = sym is ∙ none in cc both)
    nothing (inr (n, s, is)) = (let both = sym is ∙ none in cc both)
row_takes caller map known effects before after k (TellsRetired word was gone are) takes = by (known.roles (block_in word)) are takes
  where
    by : (r : Role) → effects ≡ retired_effects r → TakesPair effects k → ⊥
    by (role.Pair n) e (inl is) = (let both = sym is ∙ e in cc both)
    by (role.Pair n) e (inr (x, s, is)) = (let both = sym is ∙ e in cc both)
    by (role.Table t len) e (inl is) = (let both = sym is ∙ e in cc both)
    by (role.Table t len) e (inr (x, s, is)) = (let both = sym is ∙ e in cc both)
    by role.Free e (inl is) = (let both = sym is ∙ e in cc both)
    by role.Free e (inr (x, s, is)) = (let both = sym is ∙ e in cc both)
    by (role.OwnPair j) e (inl is) = (let both = sym is ∙ e in cc both)
    by (role.OwnPair j) e (inr (x, s, is)) = (let both = sym is ∙ e in cc both)
    by (role.OwnTable turn shape) e (inl is) = (let both = sym is ∙ e in cc both)
    by (role.OwnTable turn shape) e (inr (x, s, is)) = (let both = sym is ∙ e in cc both)
    by (role.Counter of) e (inl is) = (let both = sym is ∙ e in cc both)
    by (role.Counter of) e (inr (x, s, is)) = (let both = sym is ∙ e in cc both)
row_takes caller map known effects before after k (TellsDeferred word block place t len was its gone table are) takes = by (known.roles (block_in word)) are takes
  where
    by : (r : Role) → effects ≡ carried t r → TakesPair effects k → ⊥
    by (role.Pair n) e (inl is) = (let both = sym is ∙ e in cc both)
    by (role.Pair n) e (inr (x, s, is)) = (let both = sym is ∙ e in cc both)
    by (role.Table u l) e (inl is) = (let both = sym is ∙ e in cc both)
    by (role.Table u l) e (inr (x, s, is)) = (let both = sym is ∙ e in cc both)
    by role.Free e (inl is) = (let both = sym is ∙ e in cc both)
    by role.Free e (inr (x, s, is)) = (let both = sym is ∙ e in cc both)
    by (role.OwnPair j) e (inl is) = (let both = sym is ∙ e in cc both)
    by (role.OwnPair j) e (inr (x, s, is)) = (let both = sym is ∙ e in cc both)
    by (role.OwnTable turn shape) e (inl is) = (let both = sym is ∙ e in cc both)
    by (role.OwnTable turn shape) e (inr (x, s, is)) = (let both = sym is ∙ e in cc both)
    by (role.Counter of) e (inl is) = (let both = sym is ∙ e in cc both)
    by (role.Counter of) e (inr (x, s, is)) = (let both = sym is ∙ e in cc both)
