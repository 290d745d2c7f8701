-- The tree of words with a row or a word more.
use Rattle.std.proofs.Common.{◌≡◌, ℕ, zero, suc, ◌+◌, ◌*◌, ◌-◌, ◌/◌, ◌<◌, ◌≤◌, List, [], ◌∷◌, ◌++◌, length, get_or, set, replicate, refl, sym, ap, ◌∙◌, arith, inl, inr}
use Rattle.std.specs.Prelude.{◌≢◌, ◌⊎◌}
use Rattle.std.proofs.Math.ListN.{get_or-eq_default}
use Rattle.std.proofs.lemmas.Bool.{cases_eq, cases_lt}
use Rattle.std.proofs.lemmas.Grind.{get_or-set_at}
use Rattle.std.proofs.lemmas.List.{get_or-set_other, length-replicate, length-set}
use Rattle.seize_words.specs.OneMemory.FreeNumbers.{AreFlags, IsTree, flag_of, numbers_in}
use Rattle.seize_words.proofs.OneMemory.FreeWords.{flag_at-none, flag_at-same, numbers-same}
use Rattle.seize_words.proofs.OneMemory.FreeTrees.{row_below-more}

-- A tree with a row more, whose lowest row begins at `top`. The words up to this place are copied.
pub record IsCopied (first top : ℕ) (nodes : List ℕ) (place : ℕ) (more : List ℕ) : Type 0 where
  pub tree : IsTree top more
  pub long : length more ≡ top + (top - first) + 1
  pub done : (i : ℕ) → first + i < place → get_or more (top + i) 0 ≡ get_or nodes (first + i) 0
  pub rest : (i : ℕ) → place ≤ first + i → get_or more (top + i) 0 ≡ 0

zeros_at : (n k : ℕ) → ◌≡◌ {A = ℕ} (get_or (replicate n 0) k 0) 0
zeros_at zero k = refl
zeros_at (suc n) zero = refl
zeros_at (suc n) (suc k) = zeros_at n k

module _ (first : ℕ) (nodes : List ℕ) (tree : IsTree first nodes) (top : ℕ) (all : top ≡ length nodes) (full : length nodes ≡ 64 * first + 1) where
  pub copied-begins : IsCopied first top nodes first (replicate (top + (top - first) + 1) 0)
  copied-begins = record {
    tree = record {
      whole = (suc tree.whole.0, all ∙ full ∙ ap (λ n. 64 * n + 1) tree.whole.1 ∙ sym (row_below-more tree.whole.0 0));
      some = omega (arith, length-replicate {A = ℕ} (top + (top - first) + 1) 0);
      within = omega (arith, length-replicate {A = ℕ} (top + (top - first) + 1) 0, all, full);
      flags = λ k less.
          flag_at-none (replicate (top + (top - first) + 1) 0) k (zeros_at (top + (top - first) + 1) (k / 64))
          ∙ ap flag_of (sym (zeros_at (top + (top - first) + 1) (k + 1)));
    };
    long = length-replicate {A = ℕ} (top + (top - first) + 1) 0;
    done = λ i before. absurd (omega (arith, before));
    rest = λ i past. zeros_at (top + (top - first) + 1) (top + i);
  }

  module _ (place : ℕ) (more : List ℕ) (c : IsCopied first top nodes place more) (low : first ≤ place) (less : place < top) where
    abbrev node : ℕ
    node = top + (place - first)

    abbrev written : List ℕ
    written = set more node (get_or nodes place 0)

    pub copied-within : node < length more
    copied-within = omega (arith, c.long, less)

    -- the word was empty
    empty : get_or more node 0 ≡ 0
    empty = c.rest (place - first) (omega (arith, low))

    as_before : (j : ℕ) → get_or more j 0 ≡ get_or (set written node 0) j 0
    as_before j = at (cases_eq j node)
      where
        at : (j ≡ node) ⊎ (j ≢ node) → get_or more j 0 ≡ get_or (set written node 0) j 0
        at (inl e) =
            ap (λ k. get_or more k 0) e ∙ empty
            ∙ sym (get_or-set_at written node j 0 0 e (omega (arith, copied-within, length-set more node (get_or nodes place 0))))
        at (inr other) = sym (get_or-set_other written node j 0 0 other ∙ get_or-set_other more node j (get_or nodes place 0) 0 other)

    pub copied-flags : AreFlags top written (set written node 0)
    copied-flags k before =
        flag_at-same more written k (get_or-set_other more node (k / 64) (get_or nodes place 0) 0 (λ e. absurd (omega (arith, e, before))))
        ∙ c.tree.flags k before ∙ ap flag_of (as_before (k + 1))

    pub copied-more : (new : List ℕ) → AreFlags top new new → length new ≡ length written → ((k : ℕ) → top ≤ k → get_or new k 0 ≡ get_or written k 0)
        → IsCopied first top nodes (place + 1) new
    copied-more new flags long lowest =
        let same : length new ≡ length more = long ∙ length-set more node (get_or nodes place 0) in
        record {
          tree = record {
            whole = c.tree.whole;
            some = omega (arith, c.tree.some, same);
            within = omega (arith, c.tree.within, same);
            flags = flags;
          };
          long = same ∙ c.long;
          done = λ i before. lowest (top + i) (omega arith) ∙ at i before (cases_eq (top + i) node);
          rest = λ i past.
              lowest (top + i) (omega arith)
              ∙ get_or-set_other more node (top + i) (get_or nodes place 0) 0 (λ e. absurd (omega (arith, e, past, low))) ∙ c.rest i (omega (arith, past));
        }
      where
        at : (i : ℕ) → first + i < place + 1 → (top + i ≡ node) ⊎ (top + i ≢ node) → get_or written (top + i) 0 ≡ get_or nodes (first + i) 0
        at i before (inl e) =
            let p : place ≡ first + i = omega (arith, e, low) in
            get_or-set_at more node (top + i) (get_or nodes place 0) 0 e copied-within ∙ ap (λ k. get_or nodes k 0) p
        at i before (inr other) =
            get_or-set_other more node (top + i) (get_or nodes place 0) 0 other ∙ c.done i (omega (arith, before, other, low))

  pub copied-ends : (more : List ℕ) → IsCopied first top nodes top more → numbers_in top more ≡ numbers_in first nodes
  copied-ends more c = numbers-same first top nodes more (λ i. at i (cases_lt (first + i) top))
    where
      at : (i : ℕ) → (first + i < top) ⊎ (top ≤ first + i) → get_or more (top + i) 0 ≡ get_or nodes (first + i) 0
      at i (inl before) = c.done i before
      at i (inr past) = c.rest i past ∙ sym (get_or-eq_default nodes 0 (omega (arith, past, all)))

-- ---- a word more

push_at : (xs : List ℕ) (k : ℕ) → get_or (xs ++ 0 ∷ []) k 0 ≡ get_or xs k 0
push_at [] zero = refl
push_at [] (suc k) = refl
push_at (x ∷ xs) zero = refl
push_at (x ∷ xs) (suc k) = push_at xs k

pub pushed-numbers : (first : ℕ) (nodes : List ℕ) → numbers_in first (nodes ++ 0 ∷ []) ≡ numbers_in first nodes
pushed-numbers first nodes = numbers-same first first nodes (nodes ++ 0 ∷ []) (λ i. push_at nodes (first + i))
