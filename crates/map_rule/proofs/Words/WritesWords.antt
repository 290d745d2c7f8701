-- What is read of a map's tables after one word of them was written.
use Rattle.std.specs.Prelude.{Some, ◌&&◌}
use Rattle.std.proofs.Common.{◌≡◌, ◌≢◌, ℕ, ◌+◌, ◌*◌, ◌^◌, ◌<◌, Bool, true, false, cond, eqb, refl, ap, ap₂, ◌∙◌, arith, eqb-true}
use Rattle.std.proofs.lemmas.Bool.{eq-eqb, ne_eqb, eqb-false}
use Rattle.map_machines.specs.Given.SeizeWordsDeclared.at.At.TheVariants.{Word}
use Rattle.map_machines.specs.Given.SeizeWordsMem.{Mem, value_at, word_at, with_word}
use Rattle.map_machines.proofs.Given.SeizeWordsOneOwner.AfterWrites.{word_at-with_word, value_at-with_word}
use Rattle.map_machines.specs.Given.TablesDeclared.node.Node.{Node}
use Rattle.map_machines.specs.Given.TablesDeclared.table.Table.{Table}
use Rattle.map_machines.specs.Given.TablesDeclared.table_words.TheConstants.{PLACES}
use Rattle.map_machines.specs.Given.TablesTablePlaces.{at_word, at_place}
use Rattle.map_rule.specs.Chart.{Chart, Place, put, put_in}
use Rattle.map_rule.specs.Words.{Blocks, Represents}
use Rattle.map_machines.proofs.Given.General.{some_is as is_some_of}

-- the words of a table whose link is to this block
pub at_word_block : (table : Table) (block number : ℕ) → table.link ≡ block * 2048 → at_word table number ≡ Word block number
at_word_block table block number is = ap (λ b. Word b number) (omega arith)

-- and those of its places, where the table is not too long
pub at_place_block : (table : Table) (block i : ℕ) → table.link ≡ block * 2048 → i < 2 ^ 48 → at_place table i ≡ Word block (i + PLACES)
at_place_block table block i is fits = ap₂ Word (omega arith) (omega arith)

places_apart : (i j : ℕ) → eqb (j + PLACES) (i + PLACES) ≡ eqb j i
places_apart i j = grind arith

-- values stay
pub values_same : {T : Type 0} (m : Mem T) (b d w old : ℕ) → word_at m (Word b d) ≡ Some old → (a : ℕ) → value_at (with_word m (Word b d) w) a ≡ value_at m a
values_same m b d w old there a = value_at-with_word m (Word b d) w a (is_some_of _ old there)

module _ {K V : Type 0} (hash : K → ℕ) (m : Mem (Node K V)) (c : Chart K) (blocks : Blocks) (root : ℕ) where
  -- the words of all tables that can be looked at, after a word of one of them was written
  module _ (s : Represents hash m c blocks root) (t d w old : ℕ) (made : t < c.past) (known : blocks.table_known t ≡ true)
      (there : word_at m (Word (blocks.table t) d) ≡ Some old) (u : ℕ) (made2 : u < c.past) (known2 : blocks.table_known u ≡ true) where
    pub table_words : (e : ℕ) → word_at (with_word m (Word (blocks.table t) d) w) (Word (blocks.table u) e)
        ≡ cond (eqb u t && eqb e d) (Some w) (word_at m (Word (blocks.table u) e))
    table_words e =
        word_at-with_word m (Word (blocks.table t) d) w (Word (blocks.table u) e) (is_some_of _ old there)
        ∙ ap (λ q. cond (q && eqb e d) (Some w) (word_at m (Word (blocks.table u) e))) (same (eqb u t) refl)
      where
        same : (q : Bool) → eqb u t ≡ q → eqb (blocks.table u) (blocks.table t) ≡ q
        same true is = eq-eqb _ _ (ap blocks.table (eqb-true u t is))
        same false is = ne_eqb _ _ (λ e. eqb-false u t is (s.tables_apart u t made2 made known2 known e))

    -- one of another number
    pub word_kept : (e : ℕ) → e ≢ d → (x : ℕ) → word_at m (Word (blocks.table u) e) ≡ Some x
        → word_at (with_word m (Word (blocks.table t) d) w) (Word (blocks.table u) e) ≡ Some x
    word_kept e other x h = table_words e ∙ at (eqb u t) (eqb e d) (ne_eqb e d other) ∙ h
      where
        at : (p q : Bool) → q ≡ false → cond (p && q) (Some w) (word_at m (Word (blocks.table u) e)) ≡ word_at m (Word (blocks.table u) e)
        at true true is = absurd (cc)
        at true false is = refl
        at false q is = refl

    -- one of this number
    pub word_put : (f : ℕ → ℕ) → word_at m (Word (blocks.table u) d) ≡ Some (f u)
        → word_at (with_word m (Word (blocks.table t) d) w) (Word (blocks.table u) d) ≡ Some (put f t w u)
    word_put f h = table_words d ∙ at (eqb u t) (eqb d d) (eq-eqb d d refl)
      where
        at : (p q : Bool) → q ≡ true → cond (p && q) (Some w) (word_at m (Word (blocks.table u) d)) ≡ Some (cond p w (f u))
        at true true is = refl
        at true false is = absurd (cc)
        at false q is = h

  -- those of the places, after that of one was written
  module _ (s : Represents hash m c blocks root) (t i : ℕ) (f : Place → ℕ) (place : Place) (old : ℕ) (made : t < c.past) (known : blocks.table_known t ≡ true)
      (there : word_at m (Word (blocks.table t) (i + PLACES)) ≡ Some old) (u : ℕ) (made2 : u < c.past) (known2 : blocks.table_known u ≡ true) where
    pub place_put : (j : ℕ) → word_at m (Word (blocks.table u) (j + PLACES)) ≡ Some (f (c.place u j))
        → word_at (with_word m (Word (blocks.table t) (i + PLACES)) (f place)) (Word (blocks.table u) (j + PLACES)) ≡ Some (f (put_in c.place t i place u j))
    place_put j h =
        table_words s t (i + PLACES) (f place) old made known there u made2 known2 (j + PLACES)
        ∙ ap (λ q. cond (eqb u t && q) (Some (f place)) (word_at m (Word (blocks.table u) (j + PLACES)))) (places_apart i j)
        ∙ at (eqb u t) (eqb j i)
      where
        at : (p q : Bool) → cond (p && q) (Some (f place)) (word_at m (Word (blocks.table u) (j + PLACES))) ≡ Some (f (cond p (cond q place (c.place u j)) (c.place u j)))
        at true true = refl
        at true false = h
        at false q = h
