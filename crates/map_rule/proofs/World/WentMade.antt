-- A step of a call that made a block of its own, or took one away.
use Rattle.std.specs.Prelude.{◌≡◌, ◌≢◌, ℕ, ◌<◌, ◌^◌, Bool, [], ◌∷◌, Some, None, Ok, IsSome, cond}
use Rattle.std.proofs.Common.{subst, refl, ap, sym, ◌∙◌, inl}
use Rattle.std.proofs.lemmas.Bool.{ne_eqb}
use Rattle.map_machines.specs.Given.SeizeWordsOp.{Make, Made, Taken}
use Rattle.map_machines.specs.Given.SeizeWordsMem.{Mem, block_of, value_at, with_block, IsFreeNumber, fresh, after as mem_after}
use Rattle.map_machines.proofs.Given.SeizeWordsOneOwner.AfterWrites.{block_of-with_block, block_of-made}
use Rattle.seize_rule.proofs.Given.SeizeMemoryWords.Named.{block_there}
use Rattle.seize_rule.specs.Given.SeizeLaw as law
use Rattle.seize_rule.specs.Given.SeizeLaw.{Dropped}
use Rattle.seize_rule.specs.Given.SeizeWorld.{World, NoBlock, Making, Makes, Drops, HasListWord, with_hand, with_effect, made_by}
use Rattle.map_machines.specs.Given.TablesNodes.{deferred_word}
use Rattle.map_machines.specs.Given.TablesDeclared.node.Node.{Node}
use Rattle.map_machines.specs.Given.TablesDeclared.node.Node.TheVariants as node
use Rattle.map_machines.specs.Given.TablesDeclared.setting.Setting.{Setting}
use Rattle.map_rule.specs.Chart.{Chart}
use Rattle.map_rule.specs.Words.{Blocks}
use Rattle.map_rule.specs.InWorld.{IsFramed, IsMapIn, StepSpec}
use Rattle.map_rule.proofs.World.Framed.{shows_framed}
use Rattle.map_rule.proofs.World.FramedSteps.{IsOutside, frames_made, frames_taken, new_outside}
use Rattle.map_rule.proofs.World.Hands.{hands_of, hands_beside, own_outside}
use Rattle.map_rule.proofs.World.WentWrote.{counter_of, counter_stays, map_in}
use Rattle.map_rule.proofs.World.Footprints.{framed_made, framed_dropped}
use Rattle.map_rule.proofs.Words.LinksOwn.{outs_made, outs_dropped, known_same, known_with, links_none}
use Rattle.map_rule.proofs.World.MovesKnown.{tables_same}
use Rattle.map_rule.proofs.World.OthersSpared.{keeps_made, keeps_dropped}
use Rattle.map_rule.proofs.World.CounterSpared.{counter_apart, counter_made_apart}
use Rattle.map_machines.proofs.Given.General.{some_is as is_some_of}

module _ {K V : Type 0} (same : K → K → Bool) (hash : K → ℕ) (setting : Setting) (w : World (Node K V)) (c : Chart K) (blocks : Blocks) (map : IsMapIn same hash setting w c blocks) where
  -- the world after this caller made this block
  abbrev pub world_made : ℕ → Node K V → ℕ → ℕ → World (Node K V)
  world_made i value words b = made_by deferred_word w i (mem_after w.memory (Make value words) (Made (Ok b))) (Made (Ok b))

  -- and after it took it away
  abbrev pub world_dropped : ℕ → World (Node K V)
  world_dropped b = with_effect (with_hand (record w { memory = with_block w.memory b None }) b NoBlock) (Dropped b)

  pub made_in : (i : ℕ) (value : Node K V) (words b : ℕ) → IsFreeNumber w.memory b → IsMapIn same hash setting (world_made i value words b) c blocks
  made_in i value words b free =
      map_in same hash setting (world_made i value words b) c blocks
      (record {
        rule = map.map.rule;
        later = map.map.later;
        shows = shows_framed hash w.memory (mem_after w.memory (Make value words) (Made (Ok b))) c blocks setting.root map.map.shows (frames_made hash w.memory c blocks setting.root map.map.shows value words b free);
      })
      (counter_stays setting w.memory (mem_after w.memory (Make value words) (Made (Ok b)))
      (block_of-made w.memory value words b setting.counter free ∙ ap (λ q. cond q (Some (fresh value words)) (block_of w.memory setting.counter)) (ne_eqb setting.counter b apart))
      (counter_of same hash setting w c blocks map))
      (let h = hands_beside same hash setting w c blocks map.map.rule map.map.shows b (Making i) (law.Made b ∷ w.log) (new_outside hash w.memory c blocks setting.root map.map.shows b free) (λ x ne. refl) (hands_of same hash setting w c blocks map) in
      record { tables = h.tables; pairs = h.pairs; named = h.named; tables_out = h.tables_out; pairs_out = h.pairs_out })
    where
      apart : setting.counter ≢ b
      apart = counter_made_apart same hash setting w c blocks map b free

  pub went_made : (i : ℕ) (value : Node K V) (words b : ℕ) → HasListWord (deferred_word {K = K} {V = V}) (deferred_word value) words → IsFreeNumber w.memory b × (b < 2 ^ 53) → (m2 : Mem (Node K V))
      → m2 ≡ mem_after w.memory (Make value words) (Made (Ok b)) → (Told : World (Node K V) → Chart K → Blocks → Type 0) → Told (world_made i value words b) c blocks
      → StepSpec same hash setting i w c blocks m2 Told
  went_made i value words b list is m2 after Told told = record {
    w2 = world_made i value words b;
    c2 = c;
    blocks2 = blocks;
    events = Makes i value words ∷ [];
    users = (tt, tt);
    its = (tt, tt);
    runs = (world_made i value words b, (Made (Ok b), mem_after w.memory (Make value words) (Made (Ok b)), list, (is, refl), refl), refl);
    memory = sym after;
    tables = tables_same c blocks;
    links = links_none i w (world_made i value words b) c c blocks refl refl (outs_made w.memory w.hand b (Making i) is.0)
        (known_with i w.hand c blocks w.hand b (Making i) (λ own out. absurd out) (known_same i w.hand c blocks));
    frame = subst (IsFramed setting i w c blocks) (sym after) (framed_made setting i w c blocks value words b is.0);
    spares = λ j apart. keeps_made i w j apart value words b is.0;
    moved = inl refl;
    map = made_in i value words b is.0;
    blocks_same = record { tables = λ t made known. (refl, known); pairs = λ n was known. (refl, known); tables_back = λ t made known. known; pairs_back = λ n was known. known };
    told = told;
  }

  -- its block is neither the map's nor its counter's
  pub dropped_in : (b i : ℕ) (value : Node K V) → w.hand b ≡ Making i → value_at w.memory b ≡ Some value → value ≢ node.Shards → IsMapIn same hash setting (world_dropped b) c blocks
  dropped_in b i value making is other =
      map_in same hash setting (world_dropped b) c blocks
      (record {
        rule = map.map.rule;
        later = map.map.later;
        shows = shows_framed hash w.memory (with_block w.memory b None) c blocks setting.root map.map.shows (frames_taken hash w.memory c blocks setting.root b there outside);
      })
      (counter_stays setting w.memory (with_block w.memory b None)
      (let y = block_there w.memory b there in
      block_of-with_block w.memory b setting.counter y.0 None y.1 ∙ ap (λ q. cond q None (block_of w.memory setting.counter)) (ne_eqb setting.counter b apart))
      (counter_of same hash setting w c blocks map))
      (let h = hands_beside same hash setting w c blocks map.map.rule map.map.shows b NoBlock (Dropped b ∷ w.log) outside (λ x ne. rw (ne_eqb x b ne) refl) (hands_of same hash setting w c blocks map) in
      record { tables = h.tables; pairs = h.pairs; named = h.named; tables_out = h.tables_out; pairs_out = h.pairs_out })
    where
      outside : IsOutside c blocks b
      outside = own_outside same hash setting w c blocks b i making (hands_of same hash setting w c blocks map)

      there : IsSome (value_at w.memory b)
      there = is_some_of _ _ is

      apart : setting.counter ≢ b
      apart = counter_apart same hash setting w c blocks map b value is other

  pub went_dropped : (b i : ℕ) (value : Node K V) → w.hand b ≡ Making i → value_at w.memory b ≡ Some value → value ≢ node.Shards → (m2 : Mem (Node K V))
      → m2 ≡ with_block w.memory b None → (Told : World (Node K V) → Chart K → Blocks → Type 0) → Told (world_dropped b) c blocks
      → StepSpec same hash setting i w c blocks m2 Told
  went_dropped b i value making is other m2 after Told told = record {
    w2 = world_dropped b;
    c2 = c;
    blocks2 = blocks;
    events = Drops i b ∷ [];
    users = (tt, tt);
    its = (inl (making, λ shards. other (cc (is, shards))), tt);
    runs = (world_dropped b, (Taken value, with_block w.memory b None, (i, making), (is, refl), refl), refl);
    memory = sym after;
    tables = tables_same c blocks;
    links = links_none i w (world_dropped b) c c blocks refl refl (outs_dropped w.memory w.hand b i NoBlock making)
        (known_with i w.hand c blocks w.hand b NoBlock (λ own out. absurd out) (known_same i w.hand c blocks));
    frame = subst (IsFramed setting i w c blocks) (sym after) (framed_dropped setting i w c blocks b (making, λ shards. other (cc (is, shards))) (is_some_of _ _ is));
    spares = λ j apart. keeps_dropped i w j apart b making (is_some_of _ _ is);
    moved = inl refl;
    map = dropped_in b i value making is other;
    blocks_same = record { tables = λ t made known. (refl, known); pairs = λ n was known. (refl, known); tables_back = λ t made known. known; pairs_back = λ n was known. known };
    told = told;
  }
