-- The free numbers of a table of blocks, and the number that a choice picks.
use Rattle.std.proofs.Common.{◌≡◌, ℕ, ◌+◌, ◌-◌, ◌%◌, ◌<◌, ◌≤◌, List, [], ◌∷◌, length, Option, Some, None, zero, suc, ap, ◌∙◌, arith, inl, inr}
use Rattle.std.specs.Prelude.{slice_index_or}
use Rattle.std.proofs.lemmas.Bool.{cases_lt}
use Rattle.std.proofs.Math.ListN.{get_or-eq_default}
use Rattle.seize_words.specs.declared.block.Block.{Block}
use Rattle.seize_words.specs.OneMemory.Mem.{free_from, picked}

-- the number is that of a free place of the table, whose places are numbered from `n` on
pub record IsFree {T : Type 0} (n : ℕ) (blocks : List (Option (Block T))) (number : ℕ) : Type 0 where
  pub least : n ≤ number
  pub most : number < n + length blocks
  pub none : slice_index_or blocks (number - n) None ≡ None

module _ {T : Type 0} where
  IsFree-later : (n : ℕ) (first : Option (Block T)) (rest : List (Option (Block T))) (number : ℕ) → IsFree (n + 1) rest number
      → IsFree n (first ∷ rest) number
  IsFree-later n first rest number f =
      let e : number - n ≡ suc (number - (n + 1)) = omega (arith, f.least) in
      record {
        least = omega (arith, f.least);
        most = omega (arith, f.most);
        none = ap (λ k. slice_index_or (first ∷ rest) k None) e ∙ f.none;
      }

  IsFree-first : (n : ℕ) (rest : List (Option (Block T))) → IsFree n (None ∷ rest) n
  IsFree-first n rest =
      let e : n - n ≡ zero = omega arith in
      record {
        least = omega arith;
        most = omega arith;
        none = ap (λ k. slice_index_or (None ∷ rest) k None) e;
      }

  pub free_at : (n : ℕ) (blocks : List (Option (Block T))) (k d : ℕ) → k < length (free_from n blocks)
      → IsFree n blocks (slice_index_or (free_from n blocks) k d)
  free_at n [] k d h = absurd (omega arith)
  free_at n (None ∷ rest) zero d h = IsFree-first n rest
  free_at n (None ∷ rest) (suc k) d h = IsFree-later n None rest _ (free_at (n + 1) rest k d (omega arith))
  free_at n (Some x ∷ rest) k d h = IsFree-later n (Some x) rest _ (free_at (n + 1) rest k d h)

  -- a number picked is that of a free place, or the first behind the table
  pub record IsOpen (blocks : List (Option (Block T))) (number : ℕ) : Type 0 where
    pub some : 0 < number
    pub place : number ≤ length blocks + 1
    pub free : slice_index_or blocks (number - 1) None ≡ None

  pub IsOpen-at : (blocks : List (Option (Block T))) (k : ℕ) → k ≤ length (free_from 1 blocks)
      → IsOpen blocks (slice_index_or (free_from 1 blocks) k (length blocks + 1))
  IsOpen-at blocks k h =
      elim (cases_lt k (length (free_from 1 blocks))) as (λ _. IsOpen blocks (slice_index_or (free_from 1 blocks) k (length blocks + 1))) [
        | inl within ↦ (let f = free_at 1 blocks k (length blocks + 1) within in record { some = omega (arith, f.least); place = omega (arith, f.most); free = f.none })
        | inr past ↦ (let e : slice_index_or (free_from 1 blocks) k (length blocks + 1) ≡ length blocks + 1 = get_or-eq_default (free_from 1 blocks) (length blocks + 1) past in
            let o : IsOpen blocks (length blocks + 1) = record {
              some = omega arith;
              place = omega arith;
              free = get_or-eq_default blocks None (omega arith);
            } in rw e o)
      ]

  pub IsOpen-picked : (blocks : List (Option (Block T))) (choice : ℕ) → IsOpen blocks (picked blocks choice)
  IsOpen-picked blocks choice = IsOpen-at blocks (choice % (length (free_from 1 blocks) + 1)) (omega arith)
