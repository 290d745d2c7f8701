-- The lists behind roots, once the first block of one is taken away.
use Rattle.std.specs.Prelude.{◌≢◌}
use Rattle.std.proofs.Common.{◌≡◌, ℕ, zero, suc, ◌+◌, ◌<◌, ◌≤◌, List, [], ◌∷◌, ◌++◌, inl, inr, refl, arith, ap, ◌∙◌}
use Rattle.std.proofs.lemmas.Bool.{cases_eq}
use Rattle.seize_words.specs.OneMemory.Mem.{Mem}
use Rattle.seize.specs.Further.{ListFrom}
use Rattle.seize.specs.World.{times, with_at}
use Rattle.seize_acts.proofs.Given.SeizeRuleRows.Others.{with_here, with_other}
use Rattle.seize_acts.specs.Reclaims.Roots.{all_lists}
use Rattle.many_maps.proofs.Ends.CountedBlocks.{times-append}
use Rattle.run_shows.proofs.Reclaims.Behind.Kept.{in_all}

module _ (lists : ℕ → List ℕ) (root b : ℕ) (rest : List ℕ) (is : lists root ≡ b ∷ rest) where
  abbrev pub less : ℕ → List ℕ
  less = with_at lists root rest

  pub less_here : less root ≡ rest
  less_here = with_here lists root rest

  pub less_other : (r : ℕ) → r ≢ root → less r ≡ lists r
  less_other r ne = with_other lists root r rest ne

  before_same : (n : ℕ) → n ≤ root → all_lists less n ≡ all_lists lists n
  before_same zero le = refl
  before_same (suc n) le =
      ap (λ (l : List ℕ). l ++ less n) (before_same n (omega (arith, le))) ∙ ap (λ (l : List ℕ). all_lists lists n ++ l) (less_other n (λ e. omega (arith, e, le)))

  -- how often a block stands in them
  pub counted : (n x : ℕ) → root < n → times x (all_lists less n) + times x (b ∷ []) ≡ times x (all_lists lists n)
  counted zero x lt = absurd (omega (arith, lt))
  counted (suc n) x lt = elim (cases_eq n root) as (λ _. times x (all_lists less (suc n)) + times x (b ∷ []) ≡ times x (all_lists lists (suc n))) [
    | inl e ↦ (let k1 = times-append x (all_lists less n) (less n) in let k2 = times-append x (all_lists lists n) (lists n) in
        let e1 = ap (times x) (before_same n (omega (arith, e))) in
        let e2 = ap (times x) (ap less e ∙ less_here) in
        let e3 = ap (times x) (ap lists e ∙ is) in
        let e4 : times x (b ∷ rest) ≡ times x (b ∷ []) + times x rest = times-append x (b ∷ []) rest in
        omega (arith, k1, k2, e1, e2, e3, e4))
    | inr ne ↦ (let k1 = times-append x (all_lists less n) (less n) in let k2 = times-append x (all_lists lists n) (lists n) in
        let e1 = ap (times x) (less_other n ne) in
        let ih = counted n x (omega (arith, lt, ne)) in
        omega (arith, k1, k2, e1, ih))
  ]

  module _ (roots : ℕ) (lt : root < roots) (once : (x : ℕ) → times x (all_lists lists roots) ≤ 1) where
    here_some : (x : ℕ) → times x (x ∷ []) ≡ 1
    here_some x = grind arith

    -- that block stands there no more
    pub gone_from : (r : ℕ) → r < roots → (x : ℕ) → 0 < times x (less r) → x ≢ b
    gone_from r below x some e =
        let k = counted roots x lt in
        let one = once x in
        let a = in_all less r roots x below in
        let h = here_some x in
        let same = ap (λ (y : ℕ). times x (y ∷ [])) e in
        omega (arith, k, one, a, h, same, some)

    pub still_in : (x : ℕ) → 0 < times x (all_lists less roots) → (0 < times x (all_lists lists roots))
    still_in x some = let k = counted roots x lt in omega (arith, k, some)

    pub other_than : (x : ℕ) → 0 < times x (all_lists less roots) → x ≢ b
    other_than x some e =
        let k = counted roots x lt in
        let one = once x in
        let h = here_some x in
        let same = ap (λ (y : ℕ). times x (y ∷ [])) e in
        omega (arith, k, one, h, same, some)

    pub still_once : (x : ℕ) → times x (all_lists less roots) ≤ 1
    still_once x = let k = counted roots x lt in let one = once x in omega (arith, k, one)

    -- it stood there
    pub was_in : 0 < times b (all_lists lists roots)
    was_in = let k = counted roots b lt in let h = here_some b in omega (arith, k, h)

-- a list that begins with no block is empty
pub from_zero : {T : Type 0} (m : Mem T) (l : List ℕ) (word : ℕ) → word ≡ 0 → ListFrom m word l → l ≡ []
from_zero m [] word z h = refl
from_zero m (b ∷ l) word z h = absurd (let p = h.1 in let q = h.2 in omega (arith, z, p, q))

-- and one that begins with one has it
pub from_some : {T : Type 0} (m : Mem T) (l : List ℕ) (word : ℕ) → (word ≡ 0 → ⊥) → ListFrom m word l → (b : ℕ) × (rest : List ℕ) × (l ≡ b ∷ rest)
from_some m [] word z h = absurd (z h)
from_some m (b ∷ l) word z h = (b, l, refl)
