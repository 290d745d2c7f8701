-- What the steps of a caller leave to all others: the blocks that they have.
use Rattle.std.specs.Prelude.{◌≡◌, ◌≢◌, ℕ, Bool, cond, eqb, ◌&&◌, Some, None, Ok, IsSome}
use Rattle.std.proofs.Common.{refl, ap, sym, subst, ◌∙◌, inl, inr}
use Rattle.std.proofs.lemmas.Bool.{cases_eq, ne_eqb}
use Rattle.map_machines.specs.Given.SeizeWordsDeclared.at.At.{At}
use Rattle.map_machines.specs.Given.SeizeWordsDeclared.at.At.TheVariants.{Root, Used, Slot, Entry, Word}
use Rattle.map_machines.specs.Given.SeizeWordsOp.{Make, Made}
use Rattle.map_machines.specs.Given.SeizeWordsMem.{Mem, block_of, value_in, word_in, value_at, word_at, with_word, with_block, IsFreeNumber, fresh, after as mem_after}
use Rattle.map_machines.proofs.Given.SeizeWordsOneOwner.AfterWrites.{block_of-with_block, block_of-made, word_at-with_word, value_at-with_word}
use Rattle.seize_rule.proofs.Given.SeizeMemoryWords.Named.{block_there}
use Rattle.seize_rule.specs.Given.SeizeWorld.{World, Hand, NoBlock, Making, InUse, Parting, Cutting, Handed, LeftTo, with_at}
use Rattle.map_machines.specs.Given.TablesDeclared.node.Node.{Node}
use Rattle.map_machines.specs.Given.TablesDeclared.node.Node.TheVariants as node
use Rattle.map_rule.specs.InWorld.{IsHeldBy, IsOut, PreservesBlocks}
use Rattle.map_rule.proofs.Words.BlocksApart.{new_apart}
use Rattle.map_rule.proofs.World.Hands.{at_cases}

-- who has a block is one
pub held_once : (i j : ℕ) (hand : Hand) → IsHeldBy i hand → IsHeldBy j hand → i ≡ j
held_once i j NoBlock a b = absurd a
held_once i j (Making h) a b = sym a ∙ b
held_once i j (InUse o) a b = absurd a
held_once i j (Parting h) a b = sym a ∙ b
held_once i j (Cutting h) a b = sym a ∙ b
held_once i j Handed a b = absurd a
held_once i j (LeftTo h) a b = absurd a

abbrev Hands : Type 0
Hands = ℕ → Hand

module _ {K V : Type 0} where
  pub keeps_same : (j : ℕ) (m : Mem (Node K V)) (hand : Hands) → PreservesBlocks j m hand m hand
  keeps_same j m hand = record { blocks = λ b value is other held. (refl, is); words = λ b field value is other made. refl }

  pub keeps_then : (j : ℕ) (m m2 m3 : Mem (Node K V)) (hand hand2 hand3 : Hands) → PreservesBlocks j m hand m2 hand2 → PreservesBlocks j m2 hand2 m3 hand3 → PreservesBlocks j m hand m3 hand3
  keeps_then j m m2 m3 hand hand2 hand3 first then = record {
    blocks = λ b value is other held.
        let a = first.blocks b value is other held in
        let z = then.blocks b value a.1 other (subst (IsHeldBy j) (sym a.0) held) in (z.0 ∙ a.0, z.1);
    words = λ b field value is other made.
        let a = first.blocks b value is other (subst (IsHeldBy j) (sym made) refl) in
        then.words b field value a.1 other (a.0 ∙ made) ∙ first.words b field value is other made;
  }

  -- a block that another one has changes hands
  pub keeps_handed : (j : ℕ) (m : Mem (Node K V)) (hand : Hands) (b : ℕ) (new : Hand) → (IsHeldBy j (hand b) → ⊥) → PreservesBlocks j m hand m (with_at hand b new)
  keeps_handed j m hand b new not_its = record {
    blocks = λ x value is other held.
        (at_cases (λ (h : Hand). h ≡ hand x) hand b new x (λ e. absurd (not_its (subst (λ (y : ℕ). IsHeldBy j (hand y)) e held))) (λ _. refl), is);
    words = λ x field value is other made. refl;
  }

  -- a word that is none of what others have made
  abbrev pub IsAside : ℕ → World (Node K V) → At → Type 0
  IsAside caller w (Root r) = Unit {0}
  IsAside caller w (Used r) = Unit {0}
  IsAside caller w (Slot s field) = Unit {0}
  IsAside caller w (Entry b field) = Unit {0}
  IsAside caller w (Word b field) = (j : ℕ) → j ≢ caller → w.hand b ≡ Making j → value_at w.memory b ≡ Some node.Shards

  pub out_aside : (caller : ℕ) (w : World (Node K V)) (b field : ℕ) → IsOut (w.hand b) → IsAside caller w (Word b field)
  out_aside caller w b field out j other made = absurd (subst IsOut made out)

  pub own_aside : (caller : ℕ) (w : World (Node K V)) (b field : ℕ) → w.hand b ≡ Making caller → IsAside caller w (Word b field)
  own_aside caller w b field own j other made = absurd (other (held_once j caller (w.hand b) (subst (IsHeldBy j) (sym made) refl) (subst (IsHeldBy caller) (sym own) refl)))

  -- it is written
  module _ (caller : ℕ) (w : World (Node K V)) (j : ℕ) (other : j ≢ caller) where
    pub keeps_written : (at : At) (word : ℕ) → IsSome (word_at w.memory at) → IsAside caller w at → PreservesBlocks j w.memory w.hand (with_word w.memory at word) w.hand
    keeps_written at word some aside = record {
      blocks = λ b value is unlike held. (refl, value_at-with_word w.memory at word b some ∙ is);
      words = λ b field value is unlike made. stays at some aside b field value is unlike made;
    }
      where
        stays : (at : At) → IsSome (word_at w.memory at) → IsAside caller w at → (b field : ℕ) (value : Node K V) → value_at w.memory b ≡ Some value → value ≢ node.Shards → w.hand b ≡ Making j
            → word_at (with_word w.memory at word) (Word b field) ≡ word_at w.memory (Word b field)
        stays (Root r) some aside b field value is unlike made = refl
        stays (Used r) some aside b field value is unlike made = refl
        stays (Slot s f) some aside b field value is unlike made = refl
        stays (Entry x f) some aside b field value is unlike made = word_at-with_word w.memory (Entry x f) word (Word b field) some
        stays (Word x f) some aside b field value is unlike made = elim (cases_eq b x) [
          | inl e ↦ absurd (unlike (let shards = aside j other (subst (λ (y : ℕ). w.hand y ≡ Making j) e made) in cc (e, shards, is)))
          | inr ne ↦ word_at-with_word w.memory (Word x f) word (Word b field) some ∙ ap (λ (q : Bool). cond (q && eqb field f) (Some word) (word_at w.memory (Word b field))) (ne_eqb b x ne)
        ]

    -- a block is made
    pub keeps_made : (value : Node K V) (words b : ℕ) → IsFreeNumber w.memory b → PreservesBlocks j w.memory w.hand (mem_after w.memory (Make value words) (Made (Ok b))) (with_at w.hand b (Making caller))
    keeps_made value words b free = record {
      blocks = λ x it is unlike held.
          let ne = new_apart w.memory x b it is free in
          (at_cases (λ (h : Hand). h ≡ w.hand x) w.hand b (Making caller) x (λ e. absurd (ne e)) (λ _. refl), ap value_in (same_block x ne) ∙ is);
      words = λ x field it is unlike made. ap (λ o. word_in o field) (same_block x (new_apart w.memory x b it is free));
    }
      where
        same_block : (x : ℕ) → x ≢ b → block_of (mem_after w.memory (Make value words) (Made (Ok b))) x ≡ block_of w.memory x
        same_block x ne = block_of-made w.memory value words b x free ∙ ap (λ q. cond q (Some (fresh value words)) (block_of w.memory x)) (ne_eqb x b ne)

    -- one of the caller's own is taken away
    pub keeps_dropped : (b : ℕ) → w.hand b ≡ Making caller → IsSome (value_at w.memory b) → PreservesBlocks j w.memory w.hand (with_block w.memory b None) (with_at w.hand b NoBlock)
    keeps_dropped b own there = record {
      blocks = λ x it is unlike held.
          let ne = apart x held in
          (at_cases (λ (h : Hand). h ≡ w.hand x) w.hand b NoBlock x (λ e. absurd (ne e)) (λ _. refl), ap value_in (same_block x ne) ∙ is);
      words = λ x field it is unlike made. ap (λ o. word_in o field) (same_block x (apart x (subst (IsHeldBy j) (sym made) refl)));
    }
      where
        apart : (x : ℕ) → IsHeldBy j (w.hand x) → x ≢ b
        apart x held e = other (held_once j caller (w.hand b) (subst (λ (y : ℕ). IsHeldBy j (w.hand y)) e held) (subst (IsHeldBy caller) (sym own) refl))

        same_block : (x : ℕ) → x ≢ b → block_of (with_block w.memory b None) x ≡ block_of w.memory x
        same_block x ne =
            let y = block_there w.memory b there in
            block_of-with_block w.memory b x y.0 None y.1 ∙ ap (λ q. cond q None (block_of w.memory x)) (ne_eqb x b ne)

    -- a word is written, and then a block changes hands that no other caller has
    pub keeps_changed : (at : At) (word : ℕ) → IsSome (word_at w.memory at) → IsAside caller w at → (b : ℕ) (new : Hand) → (IsHeldBy j (w.hand b) → ⊥)
        → PreservesBlocks j w.memory w.hand (with_word w.memory at word) (with_at w.hand b new)
    keeps_changed at word some aside b new not_its =
        keeps_then j w.memory (with_word w.memory at word) (with_word w.memory at word) w.hand w.hand (with_at w.hand b new)
        (keeps_written at word some aside) (keeps_handed j (with_word w.memory at word) w.hand b new not_its)

-- a block in use is nobody's, and what one caller has made no other one has
pub used_not_held : (j : ℕ) (hand : Hand) {o : ℕ} → hand ≡ InUse o → IsHeldBy j hand → ⊥
used_not_held j hand used held = subst (IsHeldBy j) used held

pub own_not_held : (caller j : ℕ) (hand : Hand) → j ≢ caller → hand ≡ Making caller → IsHeldBy j hand → ⊥
own_not_held caller j hand other own held = other (held_once j caller hand held (subst (IsHeldBy caller) (sym own) refl))
