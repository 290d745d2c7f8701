-- How a walk over the pairs of a map goes on: by a pair, or by a table.
use Rattle.std.specs.Prelude.{◌-◌}
use Rattle.std.proofs.Common.{◌≡◌, ◌≢◌, ℕ, zero, suc, ◌<◌, Bool, List, [], ◌∷◌, ◌++◌, length, Some, ap, sym, subst, ◌∙◌, arith}
use Rattle.std.specs.Iterator.{MakesProgress, item_count}
use Rattle.seize_words.specs.OneMemory.Word.{block_in}
use Rattle.seize_words.specs.declared.at.At.TheVariants.{Word}
use Rattle.seize_words.specs.OneMemory.Mem.{Mem, value_at, word_at}
use Rattle.map_tables.specs.declared.node.Node.{Node}
use Rattle.map_tables.specs.declared.table_words.TheConstants.{NEXT}
use Rattle.map_straight.specs.Shown.Chain.{word_or_none, places_of, behind, pairs_at, pairs_on, pairs_left, HasTables, CanBeRead, one_count}

module _ {K V : Type 0} (m : Mem (Node K V)) (link : ℕ) (some : link ≢ 0) where
  module _ (next : ℕ) (is : word_at m (Word (block_in link) NEXT) ≡ Some next) where
    is_behind : behind m link ≡ next
    is_behind = ap word_or_none is

    pub behind_fewer : (tables : ℕ) → HasTables m tables link → (n : ℕ) → HasTables m n next → n < tables
    behind_fewer zero has n counts = absurd (some has)
    behind_fewer (suc tables) has n counts = let e = one_count m n tables next counts (subst (HasTables m tables) is_behind has.1) in omega (arith, e)

    pub behind_read : (tables : ℕ) → HasTables m tables link → CanBeRead m tables link → (n : ℕ) → HasTables m n next → CanBeRead m n next
    behind_read zero has read n counts = absurd (some has)
    behind_read (suc tables) has read n counts =
        let e = one_count m n tables next counts (subst (HasTables m tables) is_behind has.1) in
        subst (λ k. CanBeRead m k next) (sym e) (subst (CanBeRead m tables) is_behind read.1)

module _ {K V : Type 0} (m : Mem (Node K V)) (incremental : Bool) (link len place : ℕ) (some : link ≢ 0) (is_len : len ≡ places_of (value_at m (block_in link))) where
  abbrev Here : ℕ → List (K × V)
  Here at = pairs_at m incremental link at (len - at)

  here_is : (at : ℕ) → pairs_at m incremental link at (places_of (value_at m (block_in link)) - at) ≡ Here at
  here_is at = ap (λ n. pairs_at m incremental link at (n - at)) (sym is_len)

  -- by a pair
  pub came : (at : ℕ) (x : K × V) → Here place ≡ x ∷ Here at → (tables : ℕ) → HasTables m tables link → pairs_left m incremental tables link place ≡ x ∷ pairs_left m incremental tables link at
  came at x here zero has = absurd (some has)
  came at x here (suc tables) has =
      ap (λ l. l ++ pairs_on m incremental tables (behind m link)) (here_is place ∙ here) ∙ ap (λ l. x ∷ (l ++ pairs_on m incremental tables (behind m link))) (sym (here_is at))

  -- by a table
  pub passed : Here place ≡ [] → (next : ℕ) → word_at m (Word (block_in link) NEXT) ≡ Some next → (tables : ℕ) → HasTables m tables link → (n : ℕ) → HasTables m n next
      → pairs_left m incremental tables link place ≡ pairs_on m incremental n next
  passed here next is zero has n counts = absurd (some has)
  passed here next is (suc tables) has n counts =
      let b : behind m link ≡ next = ap word_or_none is in
      let e = one_count m n tables next counts (subst (HasTables m tables) b has.1) in
      ap (λ l. l ++ pairs_on m incremental tables (behind m link)) (here_is place ∙ here) ∙ ap (pairs_on m incremental tables) b ∙ ap (λ k. pairs_on m incremental k next) (sym e)

-- an item came, and fewer are left
pub one_less : {S A B : Type 0} (can : S → Type 0) (rest : S → List B) (s t : S) (r : A) (x : B) → rest s ≡ x ∷ rest t → can t → MakesProgress can (item_count rest) s (Some r) t
one_less can rest s t r x is may = record {
  on = λ finite. (may, tt, let e = ap length is in omega (arith, e));
  keeps = may;
  rests = λ finite. tt;
}
