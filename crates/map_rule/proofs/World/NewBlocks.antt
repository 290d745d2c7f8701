-- The blocks of numbered things, tables or pairs, where the next one gets a block of its own.
use Rattle.std.proofs.Common.{◌≡◌, ◌≢◌, ℕ, suc, ◌^◌, ◌<◌, Bool, true, false, cond, eqb, refl, sym, ◌∙◌, arith, eqb-true}
use Rattle.std.proofs.lemmas.Bool.{eqb-false}
use Rattle.map_rule.specs.Chart.{put}

module _ (block : ℕ → ℕ) (known : ℕ → Bool) (next b : ℕ) where
  -- the numbers of the blocks fit links
  pub numbers_fit : 0 < b → b < 2 ^ 53 → ((i : ℕ) → i < next → known i ≡ true → (0 < block i) × (block i < 2 ^ 53))
      → (i : ℕ) → i < suc next → put known next true i ≡ true → (0 < put block next b i) × (put block next b i < 2 ^ 53)
  numbers_fit some fits old i l = at (eqb i next) (eqb-false i next)
    where
      at : (q : Bool) → (q ≡ false → i ≢ next) → cond q true (known i) ≡ true → (0 < cond q b (block i)) × (cond q b (block i) < 2 ^ 53)
      at true other is = (some, fits)
      at false other is = let ne = other refl in old i (omega arith) is

  -- no two have the same block
  pub blocks_apart : ((i : ℕ) → i < next → known i ≡ true → block i ≢ b)
      → ((i j : ℕ) → i < next → j < next → known i ≡ true → known j ≡ true → block i ≡ block j → i ≡ j)
      → (i j : ℕ) → i < suc next → j < suc next → put known next true i ≡ true → put known next true j ≡ true → put block next b i ≡ put block next b j → i ≡ j
  blocks_apart new old i j l l2 = at (eqb i next) (eqb j next) (eqb-true i next) (eqb-false i next) (eqb-true j next) (eqb-false j next)
    where
      at : (q r : Bool) → (q ≡ true → i ≡ next) → (q ≡ false → i ≢ next) → (r ≡ true → j ≡ next) → (r ≡ false → j ≢ next)
          → cond q true (known i) ≡ true → cond r true (known j) ≡ true → cond q b (block i) ≡ cond r b (block j) → i ≡ j
      at true true i_is i_not j_is j_not is is2 e = i_is refl ∙ sym (j_is refl)
      at true false i_is i_not j_is j_not is is2 e = let ne = j_not refl in absurd (new j (omega arith) is2 (sym e))
      at false true i_is i_not j_is j_not is is2 e = let ne = i_not refl in absurd (new i (omega arith) is e)
      at false false i_is i_not j_is j_not is is2 e = let ne = i_not refl in let ne2 = j_not refl in old i j (omega arith) (omega arith) is is2 e
