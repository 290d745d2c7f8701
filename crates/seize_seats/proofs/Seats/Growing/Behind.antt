-- The strip behind a door, at the end: whoever takes the address finds null, or the first of the strips that are left.
use Rattle.std.specs.Prelude.{slice_index_or}
use Rattle.std.proofs.Common.{◌≡◌, ℕ, zero, suc, ◌+◌, ◌*◌, ◌^◌, ◌<◌, Bool, false, List, [], ◌∷◌, length, drop, refl, sym, ap, ◌∙◌, subst, arith, lit<, slice_set, pow-suc, mul_assoc, get_or-set_other}
use denote.RattleType.{RattleType}
use denote.RawPtr.{Ptr, null_ptr, InBlock, Testable}
use Rattle.seize_seats.specs.Seats.Strips.{Strip, further}
use Rattle.seize_seats.specs.Seats.Doors.{block_bytes, IsFurther, AreBehind}
use Rattle.seize_seats.specs.Seats.Owned.{stride}
use Rattle.seize_seats.proofs.Seats.Places.Plots.{fits}
use Rattle.core.specs.Mem.Slots.Ownership.{Filled}
use Rattle.seize_seats.specs.Seats.Plots.{HasFirst}

split_at : (k : ℕ) (ps : List Ptr) (d : Ptr) → k < length ps → drop k ps ≡ slice_index_or ps k d ∷ drop (suc k) ps
split_at k [] d lt = absurd (omega (arith, lt))
split_at zero (p ∷ ps) d lt = refl
split_at (suc k) (p ∷ ps) d lt = split_at k ps d (omega (arith, lt))

module _ (R : RattleType) (least : ℕ) where
  abbrev pub Behind : ℕ → List Strip → List Ptr → Type 0
  Behind = AreBehind (IsFurther R least)

  -- what is so of the address, and of the others
  abbrev pub Found : ℕ → ℕ → List Strip → List Ptr → Ptr → Type 0
  Found k n ss ps p =
      Testable p × (InBlock p → HasFirst R p n ss × (block_bytes R n < 2 ^ 63) × (n * stride R < 2 ^ 63) × Behind (k + 1) (further ss) (drop (k + 1) ps))

  behind_first : (k n : ℕ) (ss : List Strip) (ps qs : List Ptr) (p : Ptr) → n ≡ least * 2 ^ k → qs ≡ drop (k + 1) ps → Behind k ss (p ∷ qs) → Found k n ss ps p
  behind_first k n [] ps qs p is rest are = let none : p ≡ null_ptr = are 0 in
      (subst Testable (sym none) (lit< tt), λ there. absurd (subst InBlock none there))
  behind_first k n (s ∷ ss) ps qs p is rest are = let so = are.0 in let same : s.words ≡ p = sym are.1 in let size : s.size ≡ n = so.5 ∙ so.4 ∙ sym is in
      let bytes : block_bytes R n < 2 ^ 63 = subst (λ (m : ℕ). block_bytes R m < 2 ^ 63) size so.6 in let next : suc k ≡ k + 1 = omega arith in (
        subst Testable same so.1,
        λ there. (
          (same, there, so.3 ∙ same, so.2 ∙ ap (Rattle.seize_seats.specs.Seats.Doors.before R) size, size),
          bytes,
          (fits R n bytes).1,
          subst (λ (u : ℕ × List Ptr). Behind u.0 ss u.1) (λ i. (next i, rest i)) are.2,
        ),
      )

  pub behind : (k n : ℕ) (ss : List Strip) (ps : List Ptr) (p : Ptr) → Behind k ss (drop k ps) → k < length ps → p ≡ slice_index_or ps k p → n ≡ least * 2 ^ k
      → Found k n ss ps p
  behind k n ss ps p are lt at is = let next : suc k ≡ k + 1 = omega arith in
      behind_first k n ss ps (drop (suc k) ps) p is (ap (λ (m : ℕ). drop m ps) next)
      (subst (λ (qs : List Ptr). Behind k ss qs) (split_at k ps p lt ∙ ap (λ (q : Ptr). q ∷ drop (suc k) ps) (sym at)) are)

-- so many numbers can be doubled
pub doubles : (R : RattleType) (n : ℕ) → block_bytes R n < 2 ^ 63 → n * 2 < 2 ^ 64
doubles R n small = let few = (fits R n small).0 in omega (arith, few)

-- what the next door has
pub doubled : (least k n : ℕ) → n ≡ least * 2 ^ k → n * 2 ≡ least * 2 ^ (k + 1)
doubled least k n is = let next : k + 1 ≡ suc k = omega arith in
    ap (λ (m : ℕ). m * 2) is ∙ mul_assoc least (2 ^ k) 2 ∙ ap (λ (m : ℕ). least * m) (sym (ap (λ (m : ℕ). 2 ^ m) next ∙ pow-suc 2 k))

-- places behind one that is emptied stay full
pub full_behind : (fs gs : List Bool) (k n m : ℕ) → gs ≡ slice_set fs k false → m ≡ n → Filled fs k n → Filled gs (k + 1) m
full_behind fs gs k n m set same full i low lt =
    ap (λ (hs : List Bool). slice_index_or hs i false) set ∙ get_or-set_other fs k i false false (λ e. let at : i ≡ k = e in absurd (omega (arith, at, low)))
    ∙ full i (omega (arith, low)) (omega (arith, lt, same))
