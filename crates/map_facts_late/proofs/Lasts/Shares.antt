-- In blocking mode: what steps of others leave of a caller's shares.
use Rattle.std.proofs.Common.{◌≡◌, ℕ, zero, suc, ◌<◌, Bool, true, false, cond, inl, inr, refl, arith, ap, sym, ◌∙◌}
use Rattle.std.proofs.lemmas.Bool.{cases_lt}
use Rattle.map_facts.specs.Given.RuleChart.{Share, Free, Claimed, Done, Counted, Lost, Chart}
use Rattle.map_facts.specs.Given.RuleRule.{total}
use Rattle.map_facts.specs.Given.RuleMoves.{is_of_caller, is_done_by}
use Rattle.map_facts.specs.Given.RuleLeaves.{Leaves}
use Rattle.map_facts.proofs.Given.RuleMoves.Totals.{total_same}

module _ (caller : ℕ) where
  done_none : (s : Share) → is_of_caller caller s ≡ false → is_done_by caller s ≡ 0
  done_none Free e = refl
  done_none (Claimed other) e = refl
  done_none (Done other) e = ap {B = ℕ} (λ (q : Bool). cond q 1 0) e
  done_none Counted e = refl
  done_none Lost e = refl

  its_done : (s : Share) → 0 < is_done_by caller s → is_of_caller caller s ≡ true
  its_done s l = by (is_of_caller caller s) refl
    where
      by : (q : Bool) → is_of_caller caller s ≡ q → is_of_caller caller s ≡ true
      by true e = e
      by false e = absurd (let none = done_none s e in omega (arith, l, none))

  -- where some are done there is one
  pub some_done : (d : ℕ → Share) (n : ℕ) → 0 < total (is_done_by caller) d n → (j : ℕ) × (j < n) × (is_of_caller caller (d j) ≡ true)
  some_done d zero l = absurd (omega (arith, l))
  some_done d (suc n) l = elim (cases_lt 0 (is_done_by caller (d n))) [
    | inl here ↦ (n, omega arith, its_done (d n) here)
    | inr none ↦ (let more = some_done d n (omega (arith, l, none)) in let k = more.1 in (more.0, omega (arith, k), more.2))
  ]

module _ {K : Type 0} (same : K → K → Bool) (spot : ℕ → K → ℕ → ℕ) (bit : Bool) (caller : ℕ) (c c2 : Chart K) (leaves : Leaves same spot bit caller c c2) where
  -- what was none of its own is not its own then
  pub none_on : (t j : ℕ) → is_of_caller caller (c.share t j) ≡ false → is_of_caller caller (c2.share t j) ≡ false
  none_on t j none = by (is_of_caller caller (c2.share t j)) refl
    where
      by : (q : Bool) → is_of_caller caller (c2.share t j) ≡ q → is_of_caller caller (c2.share t j) ≡ false
      by true e = absurd (let s = ap (is_of_caller caller) (leaves.mine_before t j e) in cc (s, e, none))
      by false e = e

  -- as many are done
  done_same : (t j : ℕ) → is_done_by caller (c2.share t j) ≡ is_done_by caller (c.share t j)
  done_same t j = by (is_of_caller caller (c.share t j)) refl
    where
      by : (q : Bool) → is_of_caller caller (c.share t j) ≡ q → is_done_by caller (c2.share t j) ≡ is_done_by caller (c.share t j)
      by true e = ap (is_done_by caller) (leaves.mine t j e)
      by false e = done_none caller _ (none_on t j e) ∙ sym (done_none caller _ e)

  pub done_on : (t len done : ℕ) → done ≡ total (is_done_by caller) (c.share t) len → done ≡ total (is_done_by caller) (c2.share t) len
  done_on t len done is = is ∙ sym (total_same (is_done_by caller) (c.share t) (c2.share t) len (λ j l. done_same t j))
