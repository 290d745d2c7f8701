-- A step of a call that changed nothing; and which steps spare the pairs that callers made and have not linked.
use Rattle.std.specs.Prelude.{◌≡◌, ◌≢◌, ℕ, Bool, cond, List, [], Some, None, Ok, IsSome}
use Rattle.std.proofs.Common.{refl, ap, sym, subst, ◌∙◌, inl}
use Rattle.std.proofs.lemmas.Bool.{ne_eqb}
use Rattle.map_machines.specs.Given.SeizeWordsDeclared.at.At.{At}
use Rattle.map_machines.specs.Given.SeizeWordsOp.{Make, Made}
use Rattle.map_machines.specs.Given.SeizeWordsMem.{Mem, block_of, value_in, value_at, word_at, with_word, with_block, IsFreeNumber, fresh, after as mem_after}
use Rattle.map_machines.proofs.Given.SeizeWordsOneOwner.AfterWrites.{block_of-with_block, block_of-made, value_at-with_word}
use Rattle.seize_rule.proofs.Given.SeizeMemoryWords.Named.{block_there}
use Rattle.seize_rule.specs.Given.SeizeLaw.{Effect}
use Rattle.seize_rule.specs.Given.SeizeWorld.{World, Hand, Making, with_at, made_by}
use Rattle.map_machines.specs.Given.TablesNodes.{deferred_word}
use Rattle.map_machines.specs.Given.TablesDeclared.node.Node.{Node}
use Rattle.map_machines.specs.Given.TablesDeclared.node.Node.TheVariants as node
use Rattle.map_machines.specs.Given.TablesDeclared.setting.Setting.{Setting}
use Rattle.map_rule.specs.Chart.{Chart}
use Rattle.map_rule.specs.Words.{Blocks}
use Rattle.map_rule.specs.InWorld.{IsMapIn, IsFramed, StepSpec, SparesPairs}
use Rattle.map_rule.proofs.World.Hands.{hand_kept}
use Rattle.map_rule.proofs.World.Footprints.{framed_same}
use Rattle.map_rule.proofs.Words.LinksOwn.{outs_same, known_same, links_none}
use Rattle.map_rule.proofs.World.MovesKnown.{tables_same}
use Rattle.map_rule.proofs.World.OthersSpared.{keeps_same}
use Rattle.map_rule.proofs.Words.BlocksApart.{new_apart}

module _ {K V : Type 0} (same : K → K → Bool) (hash : K → ℕ) (setting : Setting) where
  pub went_still : (caller : ℕ) (w : World (Node K V)) (c : Chart K) (blocks : Blocks) → IsMapIn same hash setting w c blocks → (m2 : Mem (Node K V)) → m2 ≡ w.memory
      → (Told : World (Node K V) → Chart K → Blocks → Type 0) → Told w c blocks → StepSpec same hash setting caller w c blocks m2 Told
  went_still caller w c blocks map m2 is Told told = record {
    w2 = w;
    c2 = c;
    blocks2 = blocks;
    events = [];
    users = tt;
    its = tt;
    runs = refl;
    memory = sym is;
    tables = tables_same c blocks;
    links = links_none caller w w c c blocks refl refl (outs_same w.memory w.hand) (known_same caller w.hand c blocks);
    frame = subst (IsFramed setting caller w c blocks) (sym is) (framed_same setting caller w c blocks);
    spares = λ j other. keeps_same j w.memory w.hand;
    moved = inl refl;
    map = map;
    blocks_same = record { tables = λ t made known. (refl, known); pairs = λ n was known. (refl, known); tables_back = λ t made known. known; pairs_back = λ n was known. known };
    told = told;
  }

module _ {K V : Type 0} where
  pub spares_same : (w : World (Node K V)) → SparesPairs w w
  spares_same w b j k v making is = (making, refl)

  pub spares_then : (w v u : World (Node K V)) → SparesPairs w v → SparesPairs v u → SparesPairs w u
  spares_then w v u first later b j k x making is =
      let a = first b j k x making is in let z = later b j k x a.0 (a.1 ∙ is) in (z.0, z.1 ∙ a.1)

  module _ (w : World (Node K V)) where
    pub spares_written : (at : At) (word : ℕ) → IsSome (word_at w.memory at) → SparesPairs w (record w { memory = with_word w.memory at word })
    spares_written at word some b j k v making is = (making, value_at-with_word w.memory at word b some)

    -- a block that is no such pair changes hands
    pub spares_hand : (b : ℕ) (hand : Hand) (log : List Effect) → ((j : ℕ) (k : K) (v : V) → w.hand b ≡ Making j → value_at w.memory b ≡ Some (node.Pair k v) → ⊥)
        → SparesPairs w (record w { hand = with_at w.hand b hand; log = log })
    spares_hand b hand log none x j k v making is =
        (hand_kept w.hand b hand (Making j) x (λ e. none j k v (subst (λ (y : ℕ). w.hand y ≡ Making j) e making) (subst (λ (y : ℕ). value_at w.memory y ≡ Some (node.Pair k v)) e is)) making, refl)

    -- a block is made
    pub spares_made : (i : ℕ) (value : Node K V) (words b : ℕ) → IsFreeNumber w.memory b
        → SparesPairs w (made_by deferred_word w i (mem_after w.memory (Make value words) (Made (Ok b))) (Made (Ok b)))
    spares_made i value words b free x j k v making is = (
      hand_kept w.hand b (Making i) (Making j) x apart making,
      ap value_in (block_of-made w.memory value words b x free ∙ ap (λ q. cond q (Some (fresh value words)) (block_of w.memory x)) (ne_eqb x b apart)),
    )
      where
        apart : x ≢ b
        apart = new_apart w.memory x b (node.Pair k v) is free

    -- a block that holds no pair is taken
    pub spares_taken : (b : ℕ) (hand : Hand) (log : List Effect) → IsSome (value_at w.memory b) → ((k : K) (v : V) → value_at w.memory b ≢ Some (node.Pair k v))
        → SparesPairs w (record w { memory = with_block w.memory b None; hand = with_at w.hand b hand; log = log })
    spares_taken b hand log some none x j k v making is = (
      hand_kept w.hand b hand (Making j) x apart making,
      (let y = block_there w.memory b some in ap value_in (block_of-with_block w.memory b x y.0 None y.1 ∙ ap (λ q. cond q None (block_of w.memory x)) (ne_eqb x b apart))),
    )
      where
        apart : x ≢ b
        apart e = none k v (subst (λ (y : ℕ). value_at w.memory y ≡ Some (node.Pair k v)) e is)
