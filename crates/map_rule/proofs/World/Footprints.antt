-- What a step of a caller writes, and what is as it was.
use Rattle.std.specs.Prelude.{◌≡◌, ◌≢◌, ℕ, zero, suc, Bool, true, false, cond, Option, Some, None, Ok, IsSome}
use Rattle.std.proofs.Common.{refl, ap, sym, subst, ◌∙◌, inl, inr}
use Rattle.std.proofs.lemmas.Bool.{ne_eqb, eq-eqb, cases_eq}
use Rattle.map_machines.specs.Given.SeizeWordsDeclared.at.At.{At}
use Rattle.map_machines.specs.Given.SeizeWordsDeclared.at.At.TheVariants.{Root, Used, Slot, Entry, Word}
use Rattle.map_machines.specs.Given.SeizeWordsOp.{Op, Make, Made}
use Rattle.map_machines.specs.Given.SeizeWordsMem.{Mem, same_at, block_of, value_in, entry_in, word_in, value_at, word_at, with_word, with_block, IsFreeNumber, fresh, after as mem_after}
use Rattle.map_machines.proofs.Given.SeizeWordsOneOwner.AfterWrites.{block_of-with_block, block_of-made, word_at-with_word, value_at-with_word}
use Rattle.seize_rule.proofs.Given.SeizeMemoryWords.Named.{block_there, same_at-true}
use Rattle.seize_rule.specs.Given.SeizeWorld.{World, Making, IsOwn, IsOwnOp}
use Rattle.map_machines.specs.Given.TablesNodes.{deferred_word}
use Rattle.map_machines.specs.Given.TablesDeclared.node.Node.{Node}
use Rattle.map_machines.specs.Given.TablesDeclared.node.Node.TheVariants as node
use Rattle.map_machines.specs.Given.TablesDeclared.setting.Setting.{Setting}
use Rattle.map_rule.specs.Chart.{Chart}
use Rattle.map_rule.specs.Words.{Blocks}
use Rattle.map_rule.specs.InWorld.{IsMapIn, IsOwnBlock, InFootprint, StaysTable, IsFramed}
use Rattle.map_rule.proofs.Words.BlocksApart.{new_apart}
use Rattle.map_rule.proofs.World.OthersSpared.{IsAside, out_aside, own_aside}

module _ {K V : Type 0} where
  pub stays_same : (o : Option (Node K V)) → StaysTable o o
  stays_same None = tt
  stays_same (Some (node.Pair k v)) = refl
  stays_same (Some (node.Table zero limit turn)) = refl
  stays_same (Some (node.Table (suc len) limit turn)) = refl
  stays_same (Some node.Shards) = refl

  pub stays_so : (o o2 : Option (Node K V)) → o2 ≡ o → StaysTable o o2
  stays_so o o2 e = subst (StaysTable o) (sym e) (stays_same o)

  pub stays_none : (o o2 : Option (Node K V)) → o2 ≡ None → StaysTable o o2
  stays_none None o2 e = tt
  stays_none (Some (node.Pair k v)) o2 e = subst (StaysTable (Some (node.Pair k v))) (sym e) tt
  stays_none (Some (node.Table zero limit turn)) o2 e = subst (StaysTable (Some (node.Table zero limit turn))) (sym e) tt
  stays_none (Some (node.Table (suc len) limit turn)) o2 e = subst (StaysTable (Some (node.Table (suc len) limit turn))) (sym e) tt
  stays_none (Some node.Shards) o2 e = subst (StaysTable {K = K} {V = V} (Some node.Shards)) (sym e) tt

module _ {K V : Type 0} (setting : Setting) (caller : ℕ) (w : World (Node K V)) (c : Chart K) (blocks : Blocks) where
  -- a word that this caller may write
  abbrev pub MayWrite : At → Type 0
  MayWrite at = IsOwn deferred_word w.memory at × InFootprint setting caller w c blocks at

  -- an operation on it
  abbrev pub MayWriteBy : Op (Node K V) → At → Type 0
  MayWriteBy op at = IsOwnOp deferred_word w.memory op × InFootprint setting caller w c blocks at

  pub framed_same : IsFramed setting caller w c blocks w.memory
  framed_same = record { words = λ at word is other. is; values = λ b value is other. is; tables = λ b. stays_same (value_at w.memory b) }

  pub framed_written : (at : At) (word : ℕ) → IsSome (word_at w.memory at) → InFootprint setting caller w c blocks at → IsFramed setting caller w c blocks (with_word w.memory at word)
  framed_written at word some mine = record {
    words = λ x old is other. by x old is other (same_at x at) refl;
    values = λ b value is other. value_at-with_word w.memory at word b some ∙ is;
    tables = λ b. stays_so (value_at w.memory b) (value_at (with_word w.memory at word) b) (value_at-with_word w.memory at word b some);
  }
    where
      by : (x : At) (old : ℕ) → word_at w.memory x ≡ Some old → (InFootprint setting caller w c blocks x → ⊥) → (q : Bool) → same_at x at ≡ q → word_at (with_word w.memory at word) x ≡ Some old
      by x old is other true e = absurd (other (subst (InFootprint setting caller w c blocks) (sym (same_at-true x at e)) mine))
      by x old is other false e = word_at-with_word w.memory at word x some ∙ ap (λ (q : Bool). cond q (Some word) (word_at w.memory x)) e ∙ is

  -- where other blocks are as they were
  framed_blocks : (m2 : Mem (Node K V)) (b : ℕ) → ((r : ℕ) → word_at m2 (Root r) ≡ word_at w.memory (Root r)) → ((r : ℕ) → word_at m2 (Used r) ≡ word_at w.memory (Used r))
      → ((s field : ℕ) → word_at m2 (Slot s field) ≡ word_at w.memory (Slot s field)) → ((x : ℕ) → x ≢ b → block_of m2 x ≡ block_of w.memory x)
      → ((x : ℕ) (value : Node K V) → value_at w.memory x ≡ Some value → (IsOwnBlock caller w x → ⊥) → x ≢ b)
      → ((x field word : ℕ) → word_at w.memory (Entry x field) ≡ Some word → (w.hand x ≡ Making caller → ⊥) → x ≢ b)
      → ((x field word : ℕ) → word_at w.memory (Word x field) ≡ Some word → (IsOwnBlock caller w x → ⊥) → x ≢ b)
      → StaysTable (value_at w.memory b) (value_at m2 b)
      → IsFramed setting caller w c blocks m2
  framed_blocks m2 b roots used slots others values entries words stays = record {
    words = λ at word is other. by at word is other;
    values = λ x value is other. ap value_in (others x (values x value is other)) ∙ is;
    tables = λ x. elim (cases_eq x b) [
      | inl e ↦ subst (λ (y : ℕ). StaysTable (value_at w.memory y) (value_at m2 y)) (sym e) stays
      | inr ne ↦ stays_so (value_at w.memory x) (value_at m2 x) (ap value_in (others x ne))
    ];
  }
    where
      by : (at : At) (word : ℕ) → word_at w.memory at ≡ Some word → (InFootprint setting caller w c blocks at → ⊥) → word_at m2 at ≡ Some word
      by (Root r) word is other = roots r ∙ is
      by (Used r) word is other = used r ∙ is
      by (Slot s field) word is other = slots s field ∙ is
      by (Entry x field) word is other = ap (λ o. entry_in o field) (others x (entries x field word is other)) ∙ is
      by (Word x field) word is other = ap (λ o. word_in o field) (others x (words x field word is (λ made. other (inr (inl made))))) ∙ is

  -- a block is made
  pub framed_made : (value : Node K V) (words b : ℕ) → IsFreeNumber w.memory b → IsFramed setting caller w c blocks (mem_after w.memory (Make value words) (Made (Ok b)))
  framed_made value words b free =
      framed_blocks (mem_after w.memory (Make value words) (Made (Ok b))) b (λ r. refl) (λ r. refl) (λ s field. refl)
      (λ x ne. block_of-made w.memory value words b x free ∙ ap (λ q. cond q (Some (fresh value words)) (block_of w.memory x)) (ne_eqb x b ne))
      (λ x it is other. new_apart w.memory x b it is free)
      (λ x field word is other e. (let there = subst (λ (y : ℕ). word_at w.memory (Entry y field) ≡ Some word) e is in let none = ap (λ o. entry_in o field) free.0 in cc (there, none)))
      (λ x field word is other e. (let there = subst (λ (y : ℕ). word_at w.memory (Word y field) ≡ Some word) e is in let none = ap (λ o. word_in o field) free.0 in cc (there, none)))
      (subst (λ (o : Option (Node K V)). StaysTable o (value_at (mem_after w.memory (Make value words) (Made (Ok b))) b)) (sym (ap value_in free.0)) tt)

  -- one of the caller's own is taken away
  pub framed_dropped : (b : ℕ) → IsOwnBlock caller w b → IsSome (value_at w.memory b) → IsFramed setting caller w c blocks (with_block w.memory b None)
  framed_dropped b own there =
      framed_blocks (with_block w.memory b None) b (λ r. refl) (λ r. refl) (λ s field. refl)
      (λ x ne. let y = block_there w.memory b there in block_of-with_block w.memory b x y.0 None y.1 ∙ ap (λ q. cond q None (block_of w.memory x)) (ne_eqb x b ne))
      (λ x it is other e. other (its x e)) (λ x field word is other e. other (ap w.hand e ∙ own.0)) (λ x field word is other e. other (its x e))
      (stays_none (value_at w.memory b) (value_at (with_block w.memory b None) b) gone)
    where
      gone : value_at (with_block w.memory b None) b ≡ None
      gone = let y = block_there w.memory b there in ap value_in (block_of-with_block w.memory b b y.0 None y.1 ∙ ap (λ q. cond q None (block_of w.memory b)) (eq-eqb b b refl))

      its : (x : ℕ) → x ≡ b → IsOwnBlock caller w x
      its x e = subst (IsOwnBlock caller w) (sym e) own

module _ {K V : Type 0} (same : K → K → Bool) (hash : K → ℕ) (setting : Setting) (caller : ℕ) (w : World (Node K V)) (c : Chart K) (blocks : Blocks) (map : IsMapIn same hash setting w c blocks) where
  -- what a caller may write no other one has made
  pub aside_of : (at : At) → InFootprint setting caller w c blocks at → IsAside caller w at
  aside_of (Root r) mine = tt
  aside_of (Used r) mine = absurd mine
  aside_of (Slot s field) mine = absurd mine
  aside_of (Entry b field) mine = tt
  aside_of (Word b field) (inl (t, made, known, is)) = subst (λ (x : ℕ). IsAside caller w (Word x field)) (sym is) (out_aside caller w (blocks.table t) field (map.tables_out t made known))
  aside_of (Word b field) (inr (inl own)) = own_aside caller w b field own.0
  aside_of (Word b field) (inr (inr counter)) = subst (λ (x : ℕ). IsAside caller w (Word x field)) (sym counter) (λ j other made. map.counter)
