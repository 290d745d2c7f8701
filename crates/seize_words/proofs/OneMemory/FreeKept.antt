-- The free numbers of a table as its blocks change.
use Rattle.std.proofs.Common.{◌≡◌, ℕ, ◌+◌, ◌-◌, ◌<◌, ◌≤◌, ◌^◌, List, [], ◌∷◌, ◌++◌, length, Option, Some, None, zero, suc, ap, sym, ◌∙◌, arith, refl, length-append, subst, inl, inr, IsSome}
use Rattle.std.proofs.lemmas.Bool.{cases_lt}
use Rattle.std.proofs.Math.ListN.{get_or-eq_default}
use Rattle.std.specs.Prelude.{◌%◌, slice_index_or, slice_set, remove}
use Rattle.std.proofs.lemmas.List.{length-set, get_or_default}
use Rattle.seize_words.specs.declared.block.Block.{Block}
use Rattle.seize_words.specs.OneMemory.Mem.{free_from, value_in, picked, with_made}
use Rattle.seize_words.specs.OneMemory.Free.{IsKept}
use Rattle.seize_words.specs.OneMemory.FreeNumbers.{FreeNumbers, flagged_from, with_number}
use Rattle.seize_words.proofs.OneMemory.FreeFlags.{flagged-given}
use Rattle.seize_words.proofs.OneMemory.FreeNumbers.{IsFree, free_at}

module _ {T : Type 0} where
  -- another block in place of one
  free_from-set_some : (n : ℕ) (blocks : List (Option (Block T))) (i : ℕ) (x y : Block T) → slice_index_or blocks i None ≡ Some x
      → free_from n (slice_set blocks i (Some y)) ≡ free_from n blocks
  free_from-set_some n [] i x y is = refl
  free_from-set_some n (None ∷ rest) zero x y is = absurd (cc)
  free_from-set_some n (None ∷ rest) (suc i) x y is = ap (λ ns. n ∷ ns) (free_from-set_some (n + 1) rest i x y is)
  free_from-set_some n (Some z ∷ rest) zero x y is = refl
  free_from-set_some n (Some z ∷ rest) (suc i) x y is = free_from-set_some (n + 1) rest i x y is

  -- a block behind the table
  free_from-push : (n : ℕ) (blocks : List (Option (Block T))) (x : Block T) → free_from n (blocks ++ Some x ∷ []) ≡ free_from n blocks
  free_from-push n [] x = refl
  free_from-push n (None ∷ rest) x = ap (λ ns. n ∷ ns) (free_from-push (n + 1) rest x)
  free_from-push n (Some z ∷ rest) x = free_from-push (n + 1) rest x

  length-free_from : (n : ℕ) (blocks : List (Option (Block T))) → length (free_from n blocks) ≤ length blocks
  length-free_from n [] = omega arith
  length-free_from n (None ∷ rest) = omega (arith, length-free_from (n + 1) rest)
  length-free_from n (Some x ∷ rest) = omega (arith, length-free_from (n + 1) rest)

  -- a block at a free number
  later-set : (n : ℕ) (first : Option (Block T)) (rest : List (Option (Block T))) (number : ℕ) (new : Option (Block T)) → n + 1 ≤ number
      → slice_set (first ∷ rest) (number - n) new ≡ first ∷ slice_set rest (number - (n + 1)) new
  later-set n first rest number new h =
      let e : number - n ≡ suc (number - (n + 1)) = omega (arith, h) in
      ap (λ k. slice_set (first ∷ rest) k new) e

  free_from-reused : (n : ℕ) (blocks : List (Option (Block T))) (k : ℕ) (x : Block T) (d : ℕ) → k < length (free_from n blocks)
      → free_from n (slice_set blocks (slice_index_or (free_from n blocks) k d - n) (Some x)) ≡ remove (free_from n blocks) k
  free_from-reused n [] k x d h = absurd (omega arith)
  free_from-reused n (None ∷ rest) zero x d h =
      let e : n - n ≡ zero = omega arith in
      ap (λ i. free_from n (slice_set (None ∷ rest) i (Some x))) e
  free_from-reused n (None ∷ rest) (suc k) x d h =
      let inside : k < length (free_from (n + 1) rest) = omega arith in
      ap (free_from n) (later-set n None rest (slice_index_or (free_from (n + 1) rest) k d) (Some x) (free_at (n + 1) rest k d inside).least)
      ∙ ap (λ ns. n ∷ ns) (free_from-reused (n + 1) rest k x d inside)
  free_from-reused n (Some z ∷ rest) k x d h =
      ap (free_from n) (later-set n (Some z) rest (slice_index_or (free_from (n + 1) rest) k d) (Some x) (free_at (n + 1) rest k d h).least)
      ∙ free_from-reused (n + 1) rest k x d h

  -- no block where one was
  abbrev flags_of : List (Option (Block T)) → List ℕ
  flags_of [] = []
  flags_of (None ∷ rest) = 1 ∷ flags_of rest
  flags_of (Some x ∷ rest) = 0 ∷ flags_of rest

  free_from-flags : (n : ℕ) (blocks : List (Option (Block T))) → free_from n blocks ≡ flagged_from n (flags_of blocks)
  free_from-flags n [] = refl
  free_from-flags n (None ∷ rest) = ap (λ ns. n ∷ ns) (free_from-flags (n + 1) rest)
  free_from-flags n (Some x ∷ rest) = free_from-flags (n + 1) rest

  flags-taken : (blocks : List (Option (Block T))) (i : ℕ) → flags_of (slice_set blocks i None) ≡ slice_set (flags_of blocks) i 1
  flags-taken [] i = refl
  flags-taken (None ∷ rest) zero = refl
  flags-taken (None ∷ rest) (suc i) = ap (λ flags. 1 ∷ flags) (flags-taken rest i)
  flags-taken (Some x ∷ rest) zero = refl
  flags-taken (Some x ∷ rest) (suc i) = ap (λ flags. 0 ∷ flags) (flags-taken rest i)

  length-flags : (blocks : List (Option (Block T))) → length (flags_of blocks) ≡ length blocks
  length-flags [] = refl
  length-flags (None ∷ rest) = ap suc (length-flags rest)
  length-flags (Some x ∷ rest) = ap suc (length-flags rest)

  free_from-taken : (n i : ℕ) (blocks : List (Option (Block T))) → i < length blocks
      → free_from n (slice_set blocks i None) ≡ with_number (n + i) (free_from n blocks)
  free_from-taken n i blocks within =
      free_from-flags n (slice_set blocks i None) ∙ ap (flagged_from n) (flags-taken blocks i)
      ∙ flagged-given n i (flags_of blocks) (omega (arith, within, length-flags blocks))
      ∙ ap (with_number (n + i)) (sym (free_from-flags n blocks))

  pub IsKept-set_some : (blocks : List (Option (Block T))) (free : FreeNumbers) (i : ℕ) (x y : Block T) → IsKept blocks free
      → slice_index_or blocks i None ≡ Some x → IsKept (slice_set blocks i (Some y)) free
  IsKept-set_some blocks free i x y kept is = record {
    few = omega (arith, kept.few, length-set blocks i (Some y));
    are_free = kept.are_free ∙ sym (free_from-set_some 1 blocks i x y is);
    fit = omega (arith, kept.fit, length-set blocks i (Some y));
  }

  pub IsKept-push : (blocks : List (Option (Block T))) (free more : FreeNumbers) (x : Block T) → IsKept blocks free
      → length blocks + 1 < 2 ^ 53 → more.numbers ≡ free.numbers → length blocks + 1 ≤ more.room → IsKept (blocks ++ Some x ∷ []) more
  IsKept-push blocks free more x kept few same fit = record {
    few = omega (arith, few, length-append blocks (Some x ∷ []));
    are_free = same ∙ kept.are_free ∙ sym (free_from-push 1 blocks x);
    fit = omega (arith, fit, length-append blocks (Some x ∷ []));
  }

  pub IsKept-reused : (blocks : List (Option (Block T))) (free : FreeNumbers) (k number : ℕ) (x : Block T) → IsKept blocks free
      → k < length free.numbers → number ≡ slice_index_or free.numbers k number
      → IsKept (slice_set blocks (number - 1) (Some x)) (record free { numbers = remove free.numbers k })
  IsKept-reused blocks free k number x kept within is =
      let inside : k < length (free_from 1 blocks) = omega (arith, within, ap length kept.are_free) in
      let same : number ≡ slice_index_or (free_from 1 blocks) k number = is ∙ ap (λ ns. slice_index_or ns k number) kept.are_free in
      record {
        few = omega (arith, kept.few, length-set blocks (number - 1) (Some x));
        are_free = ap (λ ns. remove ns k) kept.are_free ∙ sym (ap (λ m. free_from 1 (slice_set blocks (m - 1) (Some x))) same
            ∙ free_from-reused 1 blocks k x number inside);
        fit = omega (arith, kept.fit, length-set blocks (number - 1) (Some x));
      }

  pub free_at_one : (blocks : List (Option (Block T))) (free : FreeNumbers) (k number : ℕ) → IsKept blocks free → k < length free.numbers
      → number ≡ slice_index_or free.numbers k number → IsFree 1 blocks number
  free_at_one blocks free k number kept within is =
      let inside : k < length (free_from 1 blocks) = omega (arith, within, ap length kept.are_free) in
      let same : number ≡ slice_index_or (free_from 1 blocks) k number = is ∙ ap (λ ns. slice_index_or ns k number) kept.are_free in
      subst (IsFree 1 blocks) (sym same) (free_at 1 blocks k number inside)

  pub free_lt : (blocks : List (Option (Block T))) (free : FreeNumbers) (k : ℕ) → IsKept blocks free → k < length (free_from 1 blocks)
      → k < length free.numbers
  free_lt blocks free k kept within = omega (arith, within, ap length kept.are_free)

  pub free_few : (blocks : List (Option (Block T))) (free : FreeNumbers) → IsKept blocks free → length free.numbers < 2 ^ 53
  free_few blocks free kept = omega (arith, kept.few, ap length kept.are_free, length-free_from 1 blocks)

  pub IsKept-room : (blocks : List (Option (Block T))) (free more : FreeNumbers) → IsKept blocks free → more.numbers ≡ free.numbers
      → length blocks ≤ more.room → IsKept blocks more
  IsKept-room blocks free more kept same fit = record { few = kept.few; are_free = same ∙ kept.are_free; fit = fit }

  -- a block put at a free number, as the choice has it
  pub reuse_gives : (blocks : List (Option (Block T))) (choice count number : ℕ) (x : Block T) → length blocks < 2 ^ 53
      → count ≡ length (free_from 1 blocks) → choice % (count + 1) < count
      → number ≡ slice_index_or (free_from 1 blocks) (choice % (count + 1)) number
      → (number ≡ picked blocks choice) × (number < 2 ^ 53) × (slice_set blocks (number - 1) (Some x) ≡ with_made blocks number x)
  reuse_gives blocks choice count number x few long within is =
      let inside : choice % (count + 1) < length (free_from 1 blocks) = omega (arith, within, long) in
      let f = subst (IsFree 1 blocks) (sym is) (free_at 1 blocks (choice % (count + 1)) number inside) in (
        is ∙ get_or_default (free_from 1 blocks) (choice % (count + 1)) number (length blocks + 1) inside
            ∙ ap (λ k. slice_index_or (free_from 1 blocks) (choice % (k + 1)) (length blocks + 1)) long,
        omega (arith, f.most, few),
        in_table blocks number x (omega (arith, f.most)),
      )
    where
      in_table : (blocks : List (Option (Block T))) (b : ℕ) (x : Block T) → b ≤ length blocks → slice_set blocks (b - 1) (Some x) ≡ with_made blocks b x
      in_table blocks b x h = grind arith

  pub place_lt : (blocks : List (Option (Block T))) (i : ℕ) → IsSome (value_in (slice_index_or blocks i None)) → i < length blocks
  place_lt blocks i some =
      elim (cases_lt i (length blocks)) as (λ _. i < length blocks) [
        | inl within ↦ within
        | inr past ↦ absurd (let e : slice_index_or blocks i None ≡ None = get_or-eq_default blocks None past in
            let e' : IsSome (value_in {T = T} None) = rw e at some in cc)
      ]

  pub IsKept-taken : (blocks : List (Option (Block T))) (free : FreeNumbers) (i : ℕ) → IsKept blocks free → IsSome (value_in (slice_index_or blocks i None))
      → IsKept (slice_set blocks i None) (record free { numbers = with_number (i + 1) free.numbers })
  IsKept-taken blocks free i kept some =
      let e : 1 + i ≡ i + 1 = omega arith in
      record {
        few = omega (arith, kept.few, length-set blocks i None);
        are_free = ap (with_number (i + 1)) kept.are_free
            ∙ sym (free_from-taken 1 i blocks (place_lt blocks i some) ∙ ap (λ b. with_number b (free_from 1 blocks)) e);
        fit = omega (arith, kept.fit, length-set blocks i None);
      }
