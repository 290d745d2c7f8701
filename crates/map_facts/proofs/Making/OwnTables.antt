-- A table that its caller has made and not linked: how it comes to be, and how it is written.
use Rattle.std.specs.Prelude.{◌≡◌, ℕ, ◌+◌, ◌%◌, ◌^◌, ◌<◌, ◌≤◌, ◌&&◌, Bool, true, false, cond, eqb, Option, Some, Ok, replicate, slice_get}
use Rattle.std.proofs.Common.{refl, ap, sym, subst, ◌∙◌, arith}
use Rattle.std.proofs.lemmas.Bool.{eq-eqb, ne_eqb}
use Rattle.std.proofs.lemmas.List.{get_or-replicate, length-replicate}
use Rattle.std.proofs.lemmas.Option.{slice_get-get_or}
use Rattle.map_rule.specs.Given.SeizeWordsDeclared.at.At.TheVariants.{Word}
use Rattle.map_rule.specs.Given.SeizeWordsOp.{Make, Made}
use Rattle.map_rule.specs.Given.SeizeWordsMem.{block_of, value_in, word_in, word_at, with_word, IsFreeNumber, fresh, after as mem_after}
use Rattle.map_rule.proofs.Given.SeizeWordsOneOwner.AfterWrites.{block_of-made, word_at-with_word, value_at-with_word}
use Rattle.papaya_raw.specs.Given.SeizeWorld.{World, Making, made_by}
use Rattle.papaya_raw.specs.Given.TablesNodes.{deferred_word}
use Rattle.map_rule.specs.Given.ResizeNewTable.{with_block}
use Rattle.papaya_raw.specs.Given.TablesDeclared.node.Node.{Node}
use Rattle.papaya_raw.specs.Given.TablesDeclared.node.Node.TheVariants as node
use Rattle.papaya_raw.specs.Given.TablesDeclared.status.TheConstants.Status.{PENDING}
use Rattle.papaya_raw.specs.Given.TablesDeclared.table.Table.{Table}
use Rattle.papaya_raw.specs.Given.TablesDeclared.table_words.TheConstants.{STATUS, PLACES}
use Rattle.map_facts.specs.FactsTables.{IsOwnTable}
use Rattle.map_rule.proofs.World.Hands.{at_cases}
use Rattle.map_rule.proofs.Given.General.{some_is as is_some_of}

pub zero_at : (n i : ℕ) → i < n → slice_get {X = ℕ} (replicate n 0) i ≡ Some 0
zero_at n i l = slice_get-get_or (replicate n 0) i 0 (subst (λ (k : ℕ). i < k) (sym (length-replicate n 0)) l) ∙ ap Some (get_or-replicate n i 0 0 l)

module _ {K V : Type 0} (w : World (Node K V)) (caller : ℕ) where
  module _ (table : Table) (most : table.len ≤ 2 ^ 48) (b : ℕ) (free : IsFreeNumber w.memory b) (fits : b < 2 ^ 53) where
    abbrev value : Node K V
    value = node.Table table.len table.limit table.turn

    abbrev words : ℕ
    words = (table.len + PLACES) % 2 ^ 64

    made_block : block_of (mem_after w.memory (Make value words) (Made (Ok b))) b ≡ Some (fresh value words)
    made_block = block_of-made w.memory value words b b free ∙ ap (λ q. cond q (Some (fresh value words)) (block_of w.memory b)) (eq-eqb b b refl)

    made_word : (field : ℕ) → field < table.len + PLACES → word_at (mem_after w.memory (Make value words) (Made (Ok b))) (Word b field) ≡ Some 0
    made_word field l = ap (λ o. word_in o field) made_block ∙ zero_at words field (omega arith)

    -- it was made just now
    pub own_made : IsOwnTable (made_by deferred_word w caller (mem_after w.memory (Make value words) (Made (Ok b))) (Made (Ok b))) caller (with_block table b) PENDING
    own_made = record {
      block = b;
      link = omega arith;
      number = (free.1, fits);
      hand = at_cases (λ h. h ≡ Making caller) w.hand b (Making caller) b (λ e. refl) (λ ne. absurd (ne refl));
      value = ap value_in made_block;
      blank = λ field l other. made_word field l;
      status_is = made_word STATUS (omega arith);
    }

  -- its status is written
  module _ (table : Table) (old new : ℕ) (own : IsOwnTable w caller table old) where
    pub own_marked : IsOwnTable (record w { memory = with_word w.memory (Word own.block STATUS) new }) caller table new
    own_marked = record {
      block = own.block;
      link = own.link;
      number = own.number;
      hand = own.hand;
      value = value_at-with_word w.memory (Word own.block STATUS) new own.block (is_some_of _ _ own.status_is) ∙ own.value;
      blank = λ field l other. word_at-with_word w.memory (Word own.block STATUS) new (Word own.block field) (is_some_of _ _ own.status_is)
          ∙ apart (eqb own.block own.block) (eqb field STATUS) (ne_eqb field STATUS other) (word_at w.memory (Word own.block field)) ∙ own.blank field l other;
      status_is = word_at-with_word w.memory (Word own.block STATUS) new (Word own.block STATUS) (is_some_of _ _ own.status_is)
          ∙ ap (λ q. cond (q && true) (Some new) (word_at w.memory (Word own.block STATUS))) (eq-eqb own.block own.block refl);
    }
      where
        apart : (p q : Bool) → q ≡ false → (o : Option ℕ) → cond (p && q) (Some new) o ≡ o
        apart true true e o = absurd (cc)
        apart true false e o = refl
        apart false q e o = refl
