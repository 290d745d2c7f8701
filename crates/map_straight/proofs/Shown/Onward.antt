-- The pairs that are still to come of a table, and of those behind it.
use Rattle.std.specs.Prelude.{◌-◌, Option, None}
use Rattle.std.proofs.Common.{◌≡◌, ℕ, suc, ◌+◌, ◌<◌, ◌≤◌, Bool, List, [], ◌∷◌, ◌++◌, Some, ap, sym, ◌∙◌, arith}
use Rattle.std.specs.Borrow.{Bor}
use Rattle.seize_words.specs.OneMemory.Word.{block_in}
use Rattle.seize_words.specs.declared.at.At.TheVariants.{Word}
use Rattle.seize_words.specs.OneMemory.Mem.{Mem, word_at}
use Rattle.map_tables.specs.declared.node.Node.{Node}
use Rattle.map_tables.specs.declared.table_words.TheConstants.{PLACES}
use Rattle.map_straight.specs.Shown.Chain.{word_or_none, pair_by, pairs_at}
use Rattle.map_straight.specs.Shown.Lent.{shown}

module _ {K V : Type 0} (m : Mem (Node K V)) (incremental : Bool) (link : ℕ) where
  abbrev Left : ℕ → ℕ → List (K × V)
  Left len at = pairs_at m incremental link at (len - at)

  abbrev Here : ℕ → List (K × V)
  Here at = pair_by m incremental (word_or_none (word_at m (Word (block_in link) (at + PLACES))))

  -- the pair at a place, and then those at the places behind it
  pub one_on : (len at : ℕ) → at < len → Left len at ≡ Here at ++ Left len (at + 1)
  one_on len at l =
      let e : len - at ≡ suc (len - (at + 1)) = omega (arith, l) in
      let f : suc at ≡ at + 1 = omega arith in
      ap (pairs_at m incremental link at) e ∙ ap (λ j. Here at ++ pairs_at m incremental link j (len - (at + 1))) f

  module _ (len at place : ℕ) (l : at < len) (so_far : Left len place ≡ Left len at) (lent : Option (Bor K × Bor V)) (is : shown lent ≡ Here at) where
    pub none_here : lent ≡ None → Left len place ≡ Left len (at + 1)
    none_here none = so_far ∙ one_on len at l ∙ ap (λ l. l ++ Left len (at + 1)) (sym is ∙ ap shown none)

    pub one_here : (k : Bor K) (v : Bor V) → lent ≡ Some (k, v) → Left len place ≡ (k.now, v.now) ∷ Left len (at + 1)
    one_here k v some = so_far ∙ one_on len at l ∙ ap (λ l. l ++ Left len (at + 1)) (sym is ∙ ap shown some)

  -- behind the last place there is none
  pub none_left : (len at : ℕ) → len ≤ at → Left len at ≡ []
  none_left len at le = let e : len - at ≡ 0 = omega (arith, le) in ap (pairs_at m incremental link at) e
