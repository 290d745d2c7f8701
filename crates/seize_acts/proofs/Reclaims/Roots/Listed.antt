-- The lists behind the roots, counted: the next block of one was not reclaimed yet.
use Rattle.std.specs.Prelude.{if◌then◌else◌}
use Rattle.std.proofs.Common.{◌≡◌, ℕ, zero, suc, ◌+◌, ◌<◌, ◌≤◌, Bool, List, [], ◌∷◌, ◌++◌, inl, inr, refl, arith, ap, sym, subst, ◌∙◌, eq-eqb}
use Rattle.std.proofs.lemmas.Bool.{cases_eq}
use Rattle.std.proofs.lemmas.List.{append-nil, append_assoc}
use Rattle.seize.specs.World.{NoBlock, times}
use Rattle.seize_model.specs.Alone.Alone.{History, cleared}
use Rattle.seize_acts.specs.Reclaims.Roots.{all_lists, all_cleared, IsIn}
use Rattle.seize_model.proofs.Given.SeizeRuleRows.Others.{with_other}

pub times_append : (b : ℕ) (a c : List ℕ) → times b (a ++ c) ≡ times b a + times b c
times_append b [] c = omega arith
times_append b (x ∷ a) c = let k = times_append b a c in omega (arith, k)

pub times_here : (b : ℕ) (rest : List ℕ) → times b (b ∷ rest) ≡ 1 + times b rest
times_here b rest = ap (λ (t : Bool). (if t then 1 else 0) + times b rest) (eq-eqb b b refl)

-- the lists of all roots begin with those of the roots below one
pub lists_split : (lists : ℕ → List ℕ) (r n : ℕ) → r ≤ n → (more : List ℕ) × (all_lists lists n ≡ all_lists lists r ++ more)
lists_split lists r zero le = let e : 0 ≡ r = omega (arith, le) in ([], ap (all_lists lists) e ∙ sym (append-nil (all_lists lists r)))
lists_split lists r (suc n) le =
    elim (cases_eq r (suc n)) as (λ _. (more : List ℕ) × (all_lists lists (suc n) ≡ all_lists lists r ++ more)) [
      | inl same ↦ ([], ap (all_lists lists) (sym same) ∙ sym (append-nil (all_lists lists r)))
      | inr other ↦ (let k = lists_split lists r n (omega (arith, le, other)) in
          (k.0 ++ lists n, ap (λ (l : List ℕ). l ++ lists n) k.1 ∙ append_assoc (all_lists lists r) k.0 (lists n)))
    ]

pub cleared_append : (back : List ℕ) (b : ℕ) (h : History) → all_cleared (back ++ b ∷ []) h ≡ cleared b (all_cleared back h)
cleared_append [] b h = refl
cleared_append (c ∷ back) b h = cleared_append back b (cleared c h)

-- a block that was not taken is whose it was
pub cleared_hand : (back : List ℕ) (b : ℕ) (h : History) → times b back ≡ 0 → (all_cleared back h).hand b ≡ h.hand b
cleared_hand [] b h none = refl
cleared_hand (c ∷ back) b h none =
    cleared_hand back b (cleared c h) (omega (arith, none))
    ∙ with_other h.hand c b NoBlock (λ same. let k = subst (λ (x : ℕ). times b (x ∷ back) ≡ 0) (sym same) none in absurd (omega (arith, k, times_here b back)))

module _ {T : Type 0} (left_over : T → Bool) (lists : ℕ → List ℕ) (roots r b : ℕ) (rest back : List ℕ) (at : IsIn lists roots r b rest back) where
  -- how often the next block stands in all lists
  counted : suc (times b back) ≤ times b (all_lists lists roots)
  counted =
      let s = lists_split lists (suc r) roots at.below in
      let first = all_lists lists r in
      let e = ap (times b) s.1 in
      let e2 = times_append b (first ++ lists r) s.0 in
      let e3 = times_append b first (lists r) in
      let e4 = ap (times b) at.list in
      let e5 = times_append b at.before (b ∷ rest) in
      let e6 = times_here b rest in
      let e7 = ap (times b) at.order in
      let e8 = times_append b first at.before in
      omega (arith, e, e2, e3, e4, e5, e6, e7, e8)

  pub next_some : 0 < times b (all_lists lists roots)
  next_some = omega (arith, counted)

  pub next_none : times b (all_lists lists roots) ≤ 1 → times b back ≡ 0
  next_none once = omega (arith, counted, once)
