-- Who has a block after effects: nobody, if it was reclaimed, and else who had it before.
use Rattle.std.proofs.Common.{◌≡◌, ℕ, Bool, true, false, cond, eqb, List, [], ◌∷◌, refl, arith, ap, ◌∙◌}
use Rattle.seize.specs.Law.{Effect, Entered, Left, Linked, Unlinked, Deferred, Retired, Taken, Dropped, Ended, Made, LeftOver}
use Rattle.seize.specs.World.{Hand, NoBlock, handed_by, times}
use Rattle.seize.specs.Sequence.{taken_in}
use Rattle.seize_rule.specs.Given.SeizeWaitingHeld.{same, count}
use Rattle.seize_rule.proofs.Given.SeizeWaitingCounts.{count-append}

-- the two ways to count
pub times_counted : (x : ℕ) (l : List ℕ) → times x l ≡ count x l
times_counted x [] = refl
times_counted x (y ∷ l) = let k = times_counted x l in grind (arith, k)

pub hand_spared : (b : ℕ) (effects : List Effect) (hand : ℕ → Hand) → count b (taken_in effects) ≡ 0 → handed_by effects hand b ≡ hand b
hand_spared b [] hand e = refl
hand_spared b (Taken c ∷ effects) hand e =
    let k = count-append b (taken_in effects) (c ∷ []) in
    by (eqb b c) refl (hand_spared b effects hand (omega (arith, k, e)))
  where
    by : (y : Bool) → eqb b c ≡ y → handed_by effects hand b ≡ hand b → cond (eqb b c) NoBlock (handed_by effects hand b) ≡ hand b
    by true is ih =
        let k = count-append b (taken_in effects) (c ∷ []) in
        let one : same b c ≡ 1 = ap (λ (y : Bool). cond y 1 0) is in absurd (omega (arith, k, e, one))
    by false is ih = ap (λ (y : Bool). cond y NoBlock (handed_by effects hand b)) is ∙ ih
hand_spared b (Entered s ∷ effects) hand e = hand_spared b effects hand e
hand_spared b (Left s ∷ effects) hand e = hand_spared b effects hand e
hand_spared b (Made c ∷ effects) hand e = hand_spared b effects hand e
hand_spared b (Linked c w ∷ effects) hand e = hand_spared b effects hand e
hand_spared b (Unlinked c ∷ effects) hand e = hand_spared b effects hand e
hand_spared b (Deferred c t ∷ effects) hand e = hand_spared b effects hand e
hand_spared b (Retired c ∷ effects) hand e = hand_spared b effects hand e
hand_spared b (Dropped c ∷ effects) hand e = hand_spared b effects hand e
hand_spared b (Ended w ∷ effects) hand e = hand_spared b effects hand e
hand_spared b (LeftOver c further ∷ effects) hand e = hand_spared b effects hand e

pub hand_gone : (b : ℕ) (effects : List Effect) (hand : ℕ → Hand) → (count b (taken_in effects) ≡ 0 → ⊥) → handed_by effects hand b ≡ NoBlock
hand_gone b [] hand some = absurd (some refl)
hand_gone b (Taken c ∷ effects) hand some = by (eqb b c) refl (hand_gone b effects hand)
  where
    by : (y : Bool) → eqb b c ≡ y → ((count b (taken_in effects) ≡ 0 → ⊥) → handed_by effects hand b ≡ NoBlock) → cond (eqb b c) NoBlock (handed_by effects hand b) ≡ NoBlock
    by true is ih = ap (λ (y : Bool). cond y NoBlock (handed_by effects hand b)) is
    by false is ih =
        let none : same b c ≡ 0 = ap (λ (y : Bool). cond y 1 0) is in
        ap (λ (y : Bool). cond y NoBlock (handed_by effects hand b)) is
        ∙ ih (λ e. some (let k = count-append b (taken_in effects) (c ∷ []) in omega (arith, k, e, none)))
hand_gone b (Entered s ∷ effects) hand some = hand_gone b effects hand some
hand_gone b (Left s ∷ effects) hand some = hand_gone b effects hand some
hand_gone b (Made c ∷ effects) hand some = hand_gone b effects hand some
hand_gone b (Linked c w ∷ effects) hand some = hand_gone b effects hand some
hand_gone b (Unlinked c ∷ effects) hand some = hand_gone b effects hand some
hand_gone b (Deferred c t ∷ effects) hand some = hand_gone b effects hand some
hand_gone b (Retired c ∷ effects) hand some = hand_gone b effects hand some
hand_gone b (Dropped c ∷ effects) hand some = hand_gone b effects hand some
hand_gone b (Ended w ∷ effects) hand some = hand_gone b effects hand some
hand_gone b (LeftOver c further ∷ effects) hand some = hand_gone b effects hand some
