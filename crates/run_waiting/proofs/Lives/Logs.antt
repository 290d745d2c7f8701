-- What waits behind a block by a log of effects waited so before the last of them, if that put nothing behind another block.
use Rattle.std.specs.Prelude.{Option, Some, None, ◌==◌, ◌++◌, if◌then◌else◌}
use Rattle.std.proofs.Common.{◌≡◌, ℕ, ◌+◌, Bool, true, false, List, [], ◌∷◌, refl, arith, ap, ◌∙◌}
use Rattle.std.proofs.lemmas.Bool.{eq-eqb}
use Rattle.run_debts.specs.Given.SeizeLaw.{Effect, Entered, Left, Retired, Taken}
use Rattle.run_debts.specs.Given.SeizeSequence.{taken_in}
use Rattle.run_debts.specs.Given.SeizeWorld.{times}
use Rattle.run_debts.proofs.Given.SeizeRuleRows.Effects.{IsOneStep}
use Rattle.run_waiting.specs.Lives.Waiting.{unless_it, waits_behind}

-- a block that waits behind one which is not this block
pub unless_is : (c : ℕ) (o : Option ℕ) (t : ℕ) → unless_it c o ≡ Some t → (o ≡ Some t) × (t ≡ c → ⊥)
unless_is c None t e = absurd (cc e)
unless_is c (Some u) t e = by (u == c) refl e
  where
    by : (q : Bool) → (u == c) ≡ q → (if q then None else Some u) ≡ Some t → (◌≡◌ {A = Option ℕ} (Some u) (Some t)) × (t ≡ c → ⊥)
    by true is k = absurd (cc k)
    by false is k = (k, λ same. (let one : u ≡ t = cc k in let yes : (u == c) ≡ true = eq-eqb u c (one ∙ same) in cc (is, yes)))

pub unless_other : (c : ℕ) (o : Option ℕ) (t : ℕ) → o ≡ Some t → (t ≡ c → ⊥) → unless_it c o ≡ Some t
unless_other c o t e ne = ap (unless_it c) e ∙ by (t == c) refl
  where
    by : (q : Bool) → (t == c) ≡ q → (if q then None else Some t) ≡ Some t
    by true is = absurd (ne (grind (arith, is)))
    by false is = refl

-- another block stands not there
pub one_apart : (t c : ℕ) → (t ≡ c → ⊥) → times t (c ∷ []) ≡ 0
one_apart t c ne = by (t == c) refl
  where
    by : (q : Bool) → (t == c) ≡ q → (if q then 1 else 0) + 0 ≡ 0
    by true is = absurd (ne (grind (arith, is)))
    by false is = refl

-- before a step of a row
pub waited : (b t : ℕ) (effects log : List Effect) → IsOneStep effects → waits_behind b (effects ++ log) ≡ Some t → (waits_behind b log ≡ Some t) × (times t (taken_in effects) ≡ 0)
waited b t [] log one e = (e, refl)
waited b t (Entered s ∷ []) log one e = (e, refl)
waited b t (Left s ∷ []) log one e = (e, refl)
waited b t (Retired c ∷ []) log one e = (e, refl)
waited b t (Taken c ∷ []) log one e = let was = unless_is c (waits_behind b log) t e in (was.0, one_apart t c was.1)
waited b t (_ ∷ []) log one e = absurd one
waited b t (e ∷ f ∷ effects) log one k = absurd one

-- and it waits so after one that does not take that block
pub waits_on : (b t : ℕ) (effects log : List Effect) → IsOneStep effects → waits_behind b log ≡ Some t → times t (taken_in effects) ≡ 0 → waits_behind b (effects ++ log) ≡ Some t
waits_on b t [] log one e none = e
waits_on b t (Entered s ∷ []) log one e none = e
waits_on b t (Left s ∷ []) log one e none = e
waits_on b t (Retired c ∷ []) log one e none = e
waits_on b t (Taken c ∷ []) log one e none = unless_other c (waits_behind b log) t e (λ same. let once : times t (c ∷ []) ≡ 1 = ap (λ (q : Bool). (if q then 1 else 0) + 0) (eq-eqb t c same) in absurd (omega (arith, once, none)))
waits_on b t (_ ∷ []) log one e none = absurd one
waits_on b t (e ∷ f ∷ effects) log one k none = absurd one

-- nor does anything wait that did not
pub waits_not : (b : ℕ) (effects log : List Effect) → IsOneStep effects → waits_behind b log ≡ None → waits_behind b (effects ++ log) ≡ None
waits_not b [] log one e = e
waits_not b (Entered s ∷ []) log one e = e
waits_not b (Left s ∷ []) log one e = e
waits_not b (Retired c ∷ []) log one e = e
waits_not b (Taken c ∷ []) log one e = ap (unless_it c) e
waits_not b (_ ∷ []) log one e = absurd one
waits_not b (e ∷ f ∷ effects) log one k = absurd one

-- and what waited behind a block does not once that is taken
pub waits_no_more : (b t : ℕ) (effects log : List Effect) → IsOneStep effects → (times t (taken_in effects) ≡ 0 → ⊥) → waits_behind b log ≡ Some t → waits_behind b (effects ++ log) ≡ None
waits_no_more b t [] log one some e = absurd (some refl)
waits_no_more b t (Entered s ∷ []) log one some e = absurd (some refl)
waits_no_more b t (Left s ∷ []) log one some e = absurd (some refl)
waits_no_more b t (Retired c ∷ []) log one some e = absurd (some refl)
waits_no_more b t (Taken c ∷ []) log one some e = ap (unless_it c) e ∙ by (t == c) refl
  where
    by : (q : Bool) → (t == c) ≡ q → ◌≡◌ {A = Option ℕ} (if q then None else Some t) None
    by true is = refl
    by false is = absurd (some (one_apart t c (λ same. let yes : (t == c) ≡ true = eq-eqb t c same in cc (is, yes))))
waits_no_more b t (_ ∷ []) log one some e = absurd one
waits_no_more b t (e ∷ f ∷ effects) log one some k = absurd one
