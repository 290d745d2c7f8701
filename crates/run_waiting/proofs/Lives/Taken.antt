-- What a step of a row takes away was retired, and what is there after it was not taken; what is left over was not retired.
use Rattle.std.specs.Prelude.{◌≡◌, ◌≢◌, ◌⊎◌, ℕ, zero, suc, List, [], ◌∷◌, ◌++◌, Option, Some, None, IsSome, false, true}
use Rattle.std.proofs.Common.{refl, ap, sym, subst, ◌∙◌, arith, inl, inr}
use Rattle.std.proofs.lemmas.Bool.{cases_eq}
use Rattle.run_debts.specs.Given.SeizeWordsMem.{Mem, value_at}
use Rattle.run_debts.specs.Given.SeizeLaw.{Effect as LogEffect, Entered, Left as LeftSlot, Retired, Taken, is_retired, IsSound}
use Rattle.run_debts.specs.Given.SeizeSequence.{taken_in}
use Rattle.run_debts.specs.Given.SeizeWorld.{World, Hand, NoBlock, Making, InUse, Parting, Cutting, Handed, LeftTo, Steps', times}
use Rattle.run_debts.proofs.Given.SeizeMovesState.Ghost.{Life, is_given}
use Rattle.run_debts.proofs.Given.SeizeRulePoints.Aside.{HandFits}
use Rattle.run_debts.proofs.Given.SeizeRuleRows.Effects.{IsOneStep}
use Rattle.run_debts.proofs.Given.SeizeAloneHistories.NotTaken.{did, taken_gone}
use Rattle.run_debts.proofs.Given.SeizeAloneHistories.Reached.{Reached, steps_reached}
use Rattle.run_debts.proofs.Given.SeizeAloneSpared.Rows.{RowStepped}
use Rattle.run_debts.specs.Given.TablesNodes.{deferred_word}
use Rattle.run_debts.specs.Given.TablesDeclared.node.Node.{Node}
use Rattle.run_debts.specs.Given.EffectsDeclared.changed.Changed.{Changed}
use Rattle.run_debts.specs.Given.EffectsDeclared.changed.Changed.TheVariants as changed
use Rattle.run_debts.specs.Given.CallersTogether.{CameAbout}
use Rattle.run_debts.proofs.Given.FollowsOperations.{LeavesBy}
use Rattle.run_debts.proofs.Given.OthersRowPlans.{TellsRow}
use Rattle.run_waiting.specs.Lives.Behind.{IsLeft}
use Rattle.run_waiting.proofs.Lives.Logs.{one_apart}
use Rattle.run_waiting.proofs.Lives.Worlds.{Kept, runs_kept, start_kept}

-- what is left over was not retired
left_not_given : (h : Hand) (l : Life) → IsLeft h → HandFits h l → is_given l ≡ false
left_not_given NoBlock l left fits = absurd left
left_not_given (Making i) l left fits = absurd left
left_not_given (InUse o) l left fits = absurd left
left_not_given (Parting i) l left fits = absurd left
left_not_given (Cutting i) l left fits = absurd left
left_not_given Handed l left fits = absurd left
left_not_given (LeftTo i) l left fits = ap is_given fits

-- what one step of a row takes was retired
pub taken_retired : (x : ℕ) (effects log : List LogEffect) → IsOneStep effects → IsSound (effects ++ log) → (times x (taken_in effects) ≡ 0 → ⊥) → is_retired x log ≡ true
taken_retired x [] log one sound some = absurd (some refl)
taken_retired x (Entered s ∷ []) log one sound some = absurd (some refl)
taken_retired x (LeftSlot s ∷ []) log one sound some = absurd (some refl)
taken_retired x (Retired c ∷ []) log one sound some = absurd (some refl)
taken_retired x (Taken c ∷ []) log one sound some = by (cases_eq x c)
  where
    by : (x ≡ c) ⊎ (x ≢ c) → is_retired x log ≡ true
    by (inl e) = ap (λ (k : ℕ). is_retired k log) e ∙ sound.0
    by (inr ne) = absurd (some (one_apart x c ne))
taken_retired x (_ ∷ []) log one sound some = absurd one
taken_retired x (e ∷ f ∷ effects) log one sound some = absurd one

-- a block is there still, unless it was taken
module _ {K V : Type 0} (m m2 : Mem (Node K V)) where
  pub there_still : (told : Changed) → TellsRow told → LeavesBy m m2 told → (x : ℕ) (value : Node K V) → value_at m x ≡ Some value → (told ≡ changed.Took x → ⊥) → (after : Node K V) × (value_at m2 x ≡ Some after)
  there_still changed.Nothing is l x value there ne = (l x).there value there
  there_still (changed.Wrote at old new) is l x value there ne = (value, l.2 x ∙ there)
  there_still (changed.Made kind b) is l x value there ne = absurd is
  there_still (changed.Unmade kind) is l x value there ne = absurd is
  there_still (changed.Took b) is l x value there ne = (l.2 x (λ e. ne (ap changed.Took (sym e)))).there value there
  there_still (changed.Roomed bucket had) is l x value there ne = (l x).there value there

module _ {K V : Type 0} (size : ℕ) (w : World (Node K V)) (came : CameAbout size w) (reached : Reached deferred_word size w) (i : ℕ) (w2 : World (Node K V)) (step : Steps' deferred_word i (w.row i) w w2) where
  pub kept : Kept deferred_word size w
  kept = runs_kept deferred_word size came.1 _ w (start_kept deferred_word size came.0) came.2

  abbrev pub it : RowStepped deferred_word i w w2
  it = did deferred_word size w reached i w2 step

  sound : IsSound (it.effects ++ w.log)
  sound = let good2 = (steps_reached deferred_word size i w w2 reached step).good in subst IsSound (good2.logged ∙ it.logged) good2.inv.logged.sound

  -- a block that is there after it was not taken
  pub not_taken : (x : ℕ) (after : Node K V) → value_at w2.memory x ≡ Some after → times x (taken_in it.effects) ≡ 0
  not_taken x after there = by (times x (taken_in it.effects)) refl
    where
      by : (n : ℕ) → times x (taken_in it.effects) ≡ n → times x (taken_in it.effects) ≡ 0
      by zero e = e
      by (suc n) e = absurd (let gone = taken_gone deferred_word size w reached i w2 step x (λ z. omega (arith, e, z)) in cc (gone, there))

  -- what is left over was not retired
  pub left_unretired : (x : ℕ) → IsLeft (w.hand x) → is_retired x w.log ≡ false
  left_unretired x its =
      ap (is_retired x) (sym kept.good.logged) ∙ kept.good.inv.logged.given x ∙ left_not_given (w.hand x) (kept.good.state.life x) its (kept.good.hands x)

  -- one that is told to be taken is taken,
  pub told_taken : (told : Changed) → LeavesBy w.memory w2.memory told → (x : ℕ) → told ≡ changed.Took x → times x (taken_in it.effects) ≡ 0 → ⊥
  told_taken told left x is none =
      let l : LeavesBy w.memory w2.memory (changed.Took x) = subst (LeavesBy w.memory w2.memory) is left in
      no_value (value_at w.memory x) l.0 (sym (it.frames.values x none) ∙ l.1)
    where
      no_value : (o : Option (Node K V)) → IsSome o → o ≡ None → ⊥
      no_value o some gone = (let it_is : IsSome {T = Node K V} None = subst (λ (q : Option (Node K V)). IsSome q) gone some in cc it_is)

  -- and was retired
  pub told_retired : (told : Changed) → LeavesBy w.memory w2.memory told → (x : ℕ) → told ≡ changed.Took x → is_retired x w.log ≡ true
  told_retired told left x is = taken_retired x it.effects w.log it.one sound (told_taken told left x is)
