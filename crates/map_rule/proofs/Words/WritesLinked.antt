-- The word that links to a further table is written.
use Rattle.std.specs.Prelude.{Some, IsSome, ◌&&◌}
use Rattle.std.proofs.Common.{◌≡◌, ℕ, suc, ◌*◌, ◌<◌, Bool, true, cond, eqb, ltb, refl, ap, sym, ◌∙◌, arith}
use Rattle.std.proofs.lemmas.Bool.{eq-eqb, ne_eqb}
use Rattle.map_machines.specs.Given.SeizeWordsDeclared.at.At.TheVariants.{Root, Word}
use Rattle.map_machines.specs.Given.SeizeWordsMem.{Mem, word_at, with_word}
use Rattle.map_machines.proofs.Given.SeizeWordsOneOwner.AfterWrites.{word_at-with_word}
use Rattle.map_machines.specs.Given.TablesDeclared.node.Node.{Node}
use Rattle.map_machines.specs.Given.TablesDeclared.table_words.TheConstants.{NEXT}
use Rattle.map_rule.specs.Chart.{Chart, put}
use Rattle.map_rule.specs.Rule.{Common}
use Rattle.map_rule.specs.Moves.{Links, after}
use Rattle.map_rule.specs.Words.{Blocks, Represents, next_word, root_word}
use Rattle.map_rule.proofs.Words.WritesWords.{values_same, table_words, word_kept}
use Rattle.map_rule.proofs.World.Linked.{IsNewTable, IsUnmade, linked_shown, with_table_block}
use Rattle.map_machines.proofs.Given.General.{some_is as is_some_of}

-- the links to the tables behind, after one more was linked behind the last one
next_links : (table : ℕ → ℕ) (past p t b : ℕ) → past ≡ suc p → t < past
    → cond (eqb t p && eqb NEXT NEXT) (Some (b * 2048)) (Some (cond (ltb (suc t) past) (table (suc t) * 2048) 0))
    ≡ Some (cond (ltb (suc t) (suc past)) (put table past b (suc t) * 2048) 0)
next_links table past p t b is made = grind arith

module _ {K V : Type 0} (hash : K → ℕ) (same : K → K → Bool) (spot : ℕ → K → ℕ → ℕ) (incremental : Bool) (m : Mem (Node K V)) (c : Chart K) (blocks : Blocks) (root b len limit : ℕ)
    (s : Represents hash m c blocks root) (rule : Common same spot incremental c) (new : IsNewTable m c blocks b len limit) where
  unmade : IsUnmade c
  unmade = record { place = λ i. rule.unmade c.past i (omega arith); claim = (rule.uncounted c.past (omega arith)).0; copied = (rule.uncounted c.past (omega arith)).1 }

  -- the first table
  pub first_table_linked : c.past ≡ 0 → Represents hash (with_word m (Root root) (b * 2048)) (after spot incremental (Links len limit) c) (with_table_block blocks c.past b) root
  first_table_linked none = linked_shown hash spot incremental m (with_word m (Root root) (b * 2048)) c blocks root b len limit s unmade new
      (record {
        values = λ a. refl;
        root_there = word_at-with_word m (Root root) (b * 2048) (Root root) there ∙ ap (λ q. cond q (Some (b * 2048)) (word_at m (Root root))) (eq-eqb root root refl) ∙ root_new;
        nexts = λ t made known. absurd (omega arith);
        words = λ t d x made known other h. h;
        own_words = λ d x h. h;
      })
    where
      there : IsSome (word_at m (Root root))
      there = is_some_of _ _ s.root_there

      root_new : Some (b * 2048) ≡ Some (root_word hash (after spot incremental (Links len limit) c) (with_table_block blocks c.past b))
      root_new = rw (ne_eqb (suc c.past) 0 (omega arith), eq-eqb c.first c.past (rule.rootless none ∙ sym none)) refl

  -- a table behind the last one
  pub table_linked : (p : ℕ) → c.past ≡ suc p → Represents hash (with_word m (Word (blocks.table p) NEXT) (b * 2048)) (after spot incremental (Links len limit) c) (with_table_block blocks c.past b) root
  table_linked p is = linked_shown hash spot incremental m (with_word m (Word (blocks.table p) NEXT) (b * 2048)) c blocks root b len limit s unmade new
      (record {
        values = values_same m (blocks.table p) NEXT (b * 2048) _ there;
        root_there = s.root_there ∙ root_same;
        nexts = λ t made known. table_words hash m c blocks root s p NEXT (b * 2048) _ last known_last there t made known NEXT
            ∙ ap (λ o. cond (eqb t p && eqb NEXT NEXT) (Some (b * 2048)) o) (s.tables t made known).next
            ∙ next_links blocks.table c.past p t b is made;
        words = λ t d x made known other h. word_kept hash m c blocks root s p NEXT (b * 2048) _ last known_last there t made known d other x h;
        own_words = λ d x h. word_at-with_word m (Word (blocks.table p) NEXT) (b * 2048) (Word b d) (is_some_of _ _ there)
            ∙ ap (λ q. cond (q && eqb d NEXT) (Some (b * 2048)) (word_at m (Word b d))) (ne_eqb b (blocks.table p) (λ e. new.apart p last known_last (sym e))) ∙ h;
      })
    where
      last : p < c.past
      last = omega arith

      known_last : blocks.table_known p ≡ true
      known_last = let rooted = rule.rooted (omega arith) in s.linked p (omega arith) last

      there : word_at m (Word (blocks.table p) NEXT) ≡ Some (next_word hash c blocks p)
      there = (s.tables p last known_last).next

      root_same : Some (root_word hash c blocks) ≡ Some (root_word hash (after spot incremental (Links len limit) c) (with_table_block blocks c.past b))
      root_same = let rooted = rule.rooted (omega arith) in rw (ne_eqb c.past 0 (omega arith), ne_eqb (suc c.past) 0 (omega arith), ne_eqb c.first c.past (omega arith)) refl
