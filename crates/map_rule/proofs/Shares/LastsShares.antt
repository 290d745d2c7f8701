-- In incremental mode: what steps of others leave of a caller's part in a copying.
use Rattle.std.specs.Prelude.{◌≡◌, ◌≢◌, ℕ, zero, suc, ◌<◌, Bool, true, false, cond, ◌⊎◌}
use Rattle.std.proofs.Common.{refl, ap, sym, ◌∙◌, inl, inr, arith}
use Rattle.std.proofs.lemmas.Bool.{cases_lt, eq-eqb}
use Rattle.map_machines.specs.Given.TablesDeclared.status.TheConstants.Status.{ABORTED}
use Rattle.map_rule.specs.Chart.{Share, Free, Claimed, Done, Counted, Lost, Chart}
use Rattle.map_rule.specs.Rule.{Rule, total}
use Rattle.map_rule.specs.Moves.{is_of_caller, is_done_by}
use Rattle.map_rule.specs.Leaves.{Leaves}
use Rattle.map_rule.proofs.Moves.Totals.{total_same, total_none}

-- a sum that is 0 is one of zeros
pub total_zero : {X : Type 0} (f : X → ℕ) (d : ℕ → X) (n : ℕ) → total f d n ≡ 0 → (j : ℕ) → j < n → f (d j) ≡ 0
total_zero f d zero e j l = absurd (omega (arith, l))
total_zero f d (suc n) e j l = elim (cases_lt j n) [
  | inl before ↦ total_zero f d n (omega (arith, e)) j before
  | inr last ↦ (let is : j ≡ n = omega (arith, l, last) in ap (λ (x : ℕ). f (d x)) is ∙ omega (arith, e))
]

module _ (caller : ℕ) where
  -- a share is the caller's as one that it is to copy, or as one that it has done
  done_none : (s : Share) → is_of_caller caller s ≡ false → is_done_by caller s ≡ 0
  done_none Free e = refl
  done_none (Claimed other) e = refl
  done_none (Done other) e = ap {B = ℕ} (λ (q : Bool). cond q 1 0) e
  done_none Counted e = refl
  done_none Lost e = refl

  pub claimed_own : (s : Share) → s ≡ Claimed caller → is_of_caller caller s ≡ true
  claimed_own s e = ap (is_of_caller caller) e ∙ eq-eqb caller caller refl

module _ {K : Type 0} (same : K → K → Bool) (spot : ℕ → K → ℕ → ℕ) (caller : ℕ) (c c2 : Chart K) (rule : Rule same spot true c) (leaves : Leaves same spot true caller c c2) where
  abbrev own : Chart K → ℕ → Bool
  own d j = is_of_caller caller (d.share (suc d.first) j)

  -- while it has a share, the root stays
  pub root_on : (j : ℕ) → suc c.first < c.past → j < c.len c.first → is_of_caller caller (c.share (suc c.first) j) ≡ true → c2.first ≡ c.first
  root_on j made l mine = by (leaves.root_stays (suc c.first) j (omega arith) made l mine)
    where
      by : (c2.first ≡ c.first) ⊎ ((true ≡ false) × (c2.status (suc c.first) ≡ ABORTED)) → c2.first ≡ c.first
      by (inl is) = is
      by (inr other) = absurd (let e = other.0 in cc e)

  -- what is its own then was before
  own_before : (j : ℕ) → own c2 j ≡ true → c.share (suc c2.first) j ≡ c2.share (suc c2.first) j
  own_before j mine = leaves.mine_before (suc c2.first) j mine

  far : c.first < c2.first → (j : ℕ) → own c2 j ≡ false
  far l j = by (own c2 j) refl
    where
      by : (q : Bool) → own c2 j ≡ q → own c2 j ≡ false
      by true e =
          let free = rule.in_mode.only_next (suc c2.first) j (omega (arith, l)) in
          absurd (let of = ap (is_of_caller caller) (sym (own_before j e) ∙ free) in cc (of, e))
      by false e = e

  module _ (root : c2.first ≡ c.first) where
    share_at : (j : ℕ) → c2.share (suc c2.first) j ≡ c2.share (suc c.first) j
    share_at j = ap (λ (t : ℕ). c2.share (suc t) j) root

    pub mine_on : (j : ℕ) → is_of_caller caller (c.share (suc c.first) j) ≡ true → c2.share (suc c2.first) j ≡ c.share (suc c.first) j
    mine_on j mine = share_at j ∙ leaves.mine (suc c.first) j mine

    pub mine_back : (j : ℕ) → own c2 j ≡ true → c2.share (suc c2.first) j ≡ c.share (suc c.first) j
    mine_back j mine = sym (own_before j mine) ∙ ap (λ (t : ℕ). c.share (suc t) j) root

    not_mine_on : (j : ℕ) → is_of_caller caller (c.share (suc c.first) j) ≡ false → own c2 j ≡ false
    not_mine_on j none = by (own c2 j) refl
      where
        by : (q : Bool) → own c2 j ≡ q → own c2 j ≡ false
        by true e = absurd (let s = ap (is_of_caller caller) (mine_back j e) in cc (s, e, none))
        by false e = e

    -- as many are done
    done_same : (j : ℕ) → is_done_by caller (c2.share (suc c2.first) j) ≡ is_done_by caller (c.share (suc c.first) j)
    done_same j = by (is_of_caller caller (c.share (suc c.first) j)) refl
      where
        by : (q : Bool) → is_of_caller caller (c.share (suc c.first) j) ≡ q → is_done_by caller (c2.share (suc c2.first) j) ≡ is_done_by caller (c.share (suc c.first) j)
        by true e = ap (is_done_by caller) (mine_on j e)
        by false e = done_none caller _ (not_mine_on j e) ∙ sym (done_none caller _ e)

    pub done_on : c.first < c.past → (done : ℕ) → done ≡ total (is_done_by caller) (c.share (suc c.first)) (c.len c.first) → done ≡ total (is_done_by caller) (c2.share (suc c2.first)) (c2.len c2.first)
    done_on made done is =
        is ∙ sym (total_same (is_done_by caller) (c.share (suc c.first)) (c2.share (suc c2.first)) (c.len c.first) (λ j l. done_same j))
        ∙ ap (total (is_done_by caller) (c2.share (suc c2.first))) (sym (ap c2.len root ∙ (leaves.lasts.lens c.first made).0))

    pub claims_none_on : ((j : ℕ) → c.share (suc c.first) j ≢ Claimed caller) → (j : ℕ) → c2.share (suc c2.first) j ≢ Claimed caller
    claims_none_on none j e = none j (sym (mine_back j (claimed_own caller _ e)) ∙ e)

  -- what it has no part in it has no part in still
  module _ (done : 0 ≡ total (is_done_by caller) (c.share (suc c.first)) (c.len c.first)) (none : (j : ℕ) → c.share (suc c.first) j ≢ Claimed caller) where
    stays_or_not : (c2.first ≡ c.first) ⊎ (c.first < c2.first)
    stays_or_not = elim (cases_lt c.first c2.first) [
      | inl on ↦ inr on
      | inr still ↦ inl (let f = leaves.lasts.first in omega (arith, still, f))
    ]

    none_done : (0 < c.past) → (c2.first ≡ c.first) ⊎ (c.first < c2.first) → 0 ≡ total (is_done_by caller) (c2.share (suc c2.first)) (c2.len c2.first)
    none_done there (inl root) = done_on root (rule.common.rooted there) 0 done
    none_done there (inr on) = sym (total_none (is_done_by caller) (c2.share (suc c2.first)) (c2.len c2.first) (λ j l. done_none caller _ (far on j)))

    none_claimed : (c2.first ≡ c.first) ⊎ (c.first < c2.first) → (j : ℕ) → c2.share (suc c2.first) j ≢ Claimed caller
    none_claimed (inl root) j e = claims_none_on root none j e
    none_claimed (inr on) j e = let mine = claimed_own caller _ e in let not = far on j in cc (mine, not)

    -- a map without a table may have got its first one
    none_shared : c.past ≡ 0 → (j : ℕ) → own c2 j ≡ false
    none_shared past j = by (own c2 j) refl
      where
        by : (q : Bool) → own c2 j ≡ q → own c2 j ≡ false
        by true e =
            let free = rule.common.unshared (suc c2.first) j (omega (arith, past)) in
            absurd (let of = ap (is_of_caller caller) (sym (own_before j e) ∙ free) in cc (of, e))
        by false e = e

    pub idle_done : 0 ≡ total (is_done_by caller) (c2.share (suc c2.first)) (c2.len c2.first)
    idle_done = elim (cases_lt 0 c.past) [
      | inl there ↦ none_done there stays_or_not
      | inr no_table ↦ sym (total_none (is_done_by caller) (c2.share (suc c2.first)) (c2.len c2.first) (λ j l. done_none caller _ (none_shared (omega (arith, no_table)) j)))
    ]

    pub idle_claims : (j : ℕ) → c2.share (suc c2.first) j ≢ Claimed caller
    idle_claims = none_claimed stays_or_not

  -- where it is to copy no place, and the root has gone on, it has none to count
  pub spent : suc c.first < c.past → (done : ℕ) → done ≡ total (is_done_by caller) (c.share (suc c.first)) (c.len c.first) → c.first < c2.first → done ≡ 0
  spent made done is on = is ∙ total_none (is_done_by caller) (c.share (suc c.first)) (c.len c.first) (λ j l. done_none caller _ (not_mine j l))
    where
      not_mine : (j : ℕ) → j < c.len c.first → is_of_caller caller (c.share (suc c.first) j) ≡ false
      not_mine j l = by (is_of_caller caller (c.share (suc c.first) j)) refl
        where
          by : (q : Bool) → is_of_caller caller (c.share (suc c.first) j) ≡ q → is_of_caller caller (c.share (suc c.first) j) ≡ false
          by true e = absurd (let root = root_on j made l e in omega (arith, root, on))
          by false e = e

  -- where it has some to count, the root stays
  pub root_of_done : suc c.first < c.past → (done : ℕ) → done ≡ total (is_done_by caller) (c.share (suc c.first)) (c.len c.first) → 0 < done → c2.first ≡ c.first
  root_of_done made done is some = elim (cases_lt c.first c2.first) [
    | inl on ↦ absurd (let none = spent made done is on in omega (arith, none, some))
    | inr still ↦ (let f = leaves.lasts.first in omega (arith, still, f))
  ]
