-- A map with a further table, whichever word links to it.
use Rattle.std.specs.Prelude.{Some}
use Rattle.std.proofs.Common.{◌≡◌, ◌≢◌, ℕ, suc, ◌+◌, ◌^◌, ◌<◌, ◌≤◌, Bool, true, false, cond, eqb, ltb, refl, ap, sym, subst, ◌∙◌, arith, eqb-true, inl, inr}
use Rattle.std.proofs.lemmas.Bool.{eq-eqb, ne_eqb, eqb-false, cases_eq}
use Rattle.map_machines.specs.Given.SeizeWordsDeclared.at.At.TheVariants.{Root, Word}
use Rattle.map_machines.specs.Given.SeizeWordsMem.{Mem, value_at, word_at}
use Rattle.map_machines.specs.Given.TablesLengths.{IsTableLen}
use Rattle.map_machines.specs.Given.TablesDeclared.node.Node.{Node}
use Rattle.map_machines.specs.Given.TablesDeclared.node.Node.TheVariants as node
use Rattle.map_machines.specs.Given.TablesDeclared.status.TheConstants.Status.{PENDING, PROMOTED}
use Rattle.map_machines.specs.Given.TablesDeclared.table_words.TheConstants.{NEXT, CLAIM, COPIED, STATUS, PLACES}
use Rattle.map_rule.specs.Chart.{Chart, Phase, Empty, Holds, put}
use Rattle.map_rule.specs.Moves.{Links, after}
use Rattle.map_rule.specs.Words.{Blocks, RepresentsTable, Represents, next_word, root_word, place_word}
use Rattle.map_rule.proofs.World.NewBlocks.{numbers_fit, blocks_apart}

-- the next table has this block
abbrev pub with_table_block : Blocks → ℕ → ℕ → Blocks
with_table_block blocks t b = record blocks { table = put blocks.table t b; table_known = put blocks.table_known t true }

-- a block with an empty table that nothing links to yet
pub record IsNewTable {K V : Type 0} (m : Mem (Node K V)) (c : Chart K) (blocks : Blocks) (b len limit : ℕ) : Type 0 where
  pub value : value_at m b ≡ Some (node.Table len limit c.past)
  pub next : word_at m (Word b NEXT) ≡ Some 0
  pub claim : word_at m (Word b CLAIM) ≡ Some 0
  pub copied : word_at m (Word b COPIED) ≡ Some 0
  pub status : word_at m (Word b STATUS) ≡ Some (cond (eqb c.past 0) PROMOTED PENDING)
  pub places : (i : ℕ) → i < len → word_at m (Word b (i + PLACES)) ≡ Some 0
  pub sized : IsTableLen len
  pub some : 0 < b
  pub fits : b < 2 ^ 53
  pub apart : (t : ℕ) → t < c.past → blocks.table_known t ≡ true → blocks.table t ≢ b

-- what the rule says of the next table, which is not there yet
pub record IsUnmade {K : Type 0} (c : Chart K) : Type 0 where
  pub place : (i : ℕ) → c.place c.past i ≡ Empty false
  pub claim : c.claim c.past ≡ 0
  pub copied : c.copied c.past ≡ 0

last_next : (t x : ℕ) → cond (ltb (suc t) (suc t)) x 0 ≡ 0
last_next t x = grind arith

module _ {K V : Type 0} (hash : K → ℕ) (spot : ℕ → K → ℕ → ℕ) (incremental : Bool) (m n : Mem (Node K V)) (c : Chart K) (blocks : Blocks) (root b len limit : ℕ) where
  abbrev chart : Chart K
  chart = after spot incremental (Links len limit) c

  abbrev blocks_after : Blocks
  blocks_after = with_table_block blocks c.past b

  -- the memory links to the table, and is as before in all else that shows the map
  pub record LinksTo : Type 0 where
    pub values : (a : ℕ) → value_at n a ≡ value_at m a
    pub root_there : word_at n (Root root) ≡ Some (root_word hash chart blocks_after)
    pub nexts : (t : ℕ) → t < c.past → blocks.table_known t ≡ true → word_at n (Word (blocks.table t) NEXT) ≡ Some (next_word hash chart blocks_after t)
    pub words : (t d x : ℕ) → t < c.past → blocks.table_known t ≡ true → d ≢ NEXT → word_at m (Word (blocks.table t) d) ≡ Some x → word_at n (Word (blocks.table t) d) ≡ Some x
    pub own_words : (d x : ℕ) → word_at m (Word b d) ≡ Some x → word_at n (Word b d) ≡ Some x

  module _ (s : Represents hash m c blocks root) (unmade : IsUnmade c) (new : IsNewTable m c blocks b len limit) (l : LinksTo) where
    old_table : (t : ℕ) → t < c.past → blocks.table_known t ≡ true → RepresentsTable hash m c blocks t → RepresentsTable hash n chart blocks_after t
    old_table t made known h = record {
      value = rw other (l.values (blocks.table t) ∙ h.value);
      next = rw other (l.nexts t made known);
      claim = rw other (l.words t CLAIM _ made known (omega arith) h.claim);
      copied = rw other (l.words t COPIED _ made known (omega arith) h.copied);
      status = rw other (l.words t STATUS _ made known (omega arith) h.status);
      places = λ i inside. rw other (l.words t (i + PLACES) _ made known (omega arith) (h.places i (rw other at inside)));
    }
      where
        other : eqb t c.past ≡ false
        other = ne_eqb t c.past (omega arith)

    new_table : RepresentsTable hash n chart blocks_after c.past
    new_table = record {
      value = rw is (l.values b ∙ new.value);
      next = rw (is, last_next) (l.own_words NEXT _ new.next);
      claim = rw is (l.own_words CLAIM _ new.claim ∙ ap Some (sym unmade.claim));
      copied = rw is (l.own_words COPIED _ new.copied ∙ ap Some (sym unmade.copied));
      status = rw is (l.own_words STATUS _ new.status);
      places = λ i inside. rw is (l.own_words (i + PLACES) _ (new.places i (rw is at inside)) ∙ ap (λ p. Some (place_word hash chart blocks_after p)) (sym (unmade.place i)));
    }
      where
        is : eqb c.past c.past ≡ true
        is = eq-eqb c.past c.past refl

    table : (t : ℕ) → t < suc c.past → cond (eqb t c.past) true (blocks.table_known t) ≡ true → RepresentsTable hash n chart blocks_after t
    table t made known =
        elim (cases_eq t c.past) as (λ _. RepresentsTable hash n chart blocks_after t) [
          | inl e ↦ subst (λ (u : ℕ). RepresentsTable hash n chart blocks_after u) (sym e) new_table
          | inr ne ↦ (let before : t < c.past = omega arith in let known2 = rw (ne_eqb t c.past ne) at known in old_table t before known2 (s.tables t before known2))
        ]

    sized : (t : ℕ) → t < suc c.past → IsTableLen (cond (eqb t c.past) len (c.len t))
    sized t made = at (eqb t c.past) (eqb-false t c.past)
      where
        at : (q : Bool) → (q ≡ false → t ≢ c.past) → IsTableLen (cond q len (c.len t))
        at true other = new.sized
        at false other = let ne = other refl in s.sized t (omega arith)

    linked : (t : ℕ) → c.first ≤ t → t < suc c.past → cond (eqb t c.past) true (blocks.table_known t) ≡ true
    linked t later made = at (eqb t c.past) (eqb-false t c.past)
      where
        at : (q : Bool) → (q ≡ false → t ≢ c.past) → cond q true (blocks.table_known t) ≡ true
        at true other = refl
        at false other = let ne = other refl in s.linked t later (omega arith)

    named : (t i p : ℕ) (phase : Phase) (borrowed : Bool) → t < suc c.past → cond (eqb t c.past) true (blocks.table_known t) ≡ true → c.place t i ≡ Holds p phase borrowed
        → blocks.pair_known p ≡ true
    named t i p phase borrowed made = at (eqb t c.past) (eqb-true t c.past) (eqb-false t c.past)
      where
        at : (q : Bool) → (q ≡ true → t ≡ c.past) → (q ≡ false → t ≢ c.past) → cond q true (blocks.table_known t) ≡ true → c.place t i ≡ Holds p phase borrowed → blocks.pair_known p ≡ true
        at true is other known e = let t_is = is refl in let none = unmade.place i in absurd (cc)
        at false is other known e = let ne = other refl in s.named t i p phase borrowed (omega arith) known e

    pub linked_shown : Represents hash n (after spot incremental (Links len limit) c) (with_table_block blocks c.past b) root
    linked_shown = record {
      root_there = l.root_there;
      tables = table;
      pairs = λ p made known. let q = s.pairs p made known in (q.0, q.1, l.values (blocks.pair p) ∙ q.2, q.3);
      sized = sized;
      linked = linked;
      named = named;
      table_numbers = numbers_fit blocks.table blocks.table_known c.past b new.some new.fits s.table_numbers;
      pair_numbers = s.pair_numbers;
      tables_apart = blocks_apart blocks.table blocks.table_known c.past b new.apart s.tables_apart;
      pairs_apart = s.pairs_apart;
    }
