-- A caller writes the word of a place of a table that it can look at, by an allowed move, and hands of blocks change after it.
use Rattle.std.specs.Prelude.{◌≤◌, ◌≡◌, ◌≢◌, ℕ, ◌+◌, ◌<◌, Bool, true, List, Some, Ok, IsSome}
use Rattle.std.proofs.Common.{inl, refl, ap, sym, subst, ◌∙◌, inr, arith}
use Rattle.map_rule.specs.Given.SeizeWordsDeclared.at.At.{At}
use Rattle.map_rule.specs.Given.SeizeWordsDeclared.at.At.TheVariants.{Word}
use Rattle.map_rule.specs.Given.SeizeWordsMem.{Mem, word_at, with_word}
use Rattle.map_rule.specs.Given.SeizeWordsOp.{Exchange, Exchanged}
use Rattle.papaya_raw.specs.Given.SeizeLaw.{Effect}
use Rattle.papaya_raw.specs.Given.SeizeWorld.{Making, World, Hand, Event, IsOwn, Runs}
use Rattle.papaya_raw.specs.Given.TablesChunks.{is_incremental}
use Rattle.papaya_raw.specs.Given.TablesNodes.{deferred_word}
use Rattle.papaya_raw.specs.Given.TablesDeclared.node.Node.{Node}
use Rattle.papaya_raw.specs.Given.TablesDeclared.setting.Setting.{Setting}
use Rattle.papaya_raw.specs.Given.TablesDeclared.table_words.TheConstants.{PLACES}
use Rattle.map_rule.specs.Chart.{Chart}
use Rattle.map_rule.specs.Rule.{IsLawful}
use Rattle.map_rule.specs.Moves.{Move, after, Allowed}
use Rattle.map_rule.specs.Words.{Blocks, place_word, Represents}
use Rattle.map_rule.specs.Maps.{spot_of}
use Rattle.map_rule.specs.InWorld.{InFootprint, IsMapIn, AllUsers, AllIts, SameBlocks, StepSpec, PreservesBlocks}
use Rattle.map_rule.proofs.World.Hands.{Hands}
use Rattle.map_rule.proofs.World.Footprints.{framed_written, aside_of}
use Rattle.map_rule.proofs.Words.LinksOwn.{OutsStay, OutsAreKnown}
use Rattle.map_rule.proofs.World.MovesKnown.{IsItsMove, spares_moved}
use Rattle.map_rule.proofs.World.OthersSpared.{keeps_then, keeps_written}
use Rattle.map_rule.proofs.World.WentWrote.{IsLater, counter_of, counter_written, map_in, map_moved, went_after, own_word}
use Rattle.map_rule.proofs.Given.General.{some_is as is_some_of}

module _ {K V : Type 0} (same : K → K → Bool) (hash : K → ℕ) (caller : ℕ) (setting : Setting)
    (w : World (Node K V)) (c : Chart K) (blocks : Blocks) (map : IsMapIn same hash setting w c blocks)
    (t i : ℕ) (made : t < c.past) (known : blocks.table_known t ≡ true) (inside : i < c.len t) (at : At) (at_is : at ≡ Word (blocks.table t) (i + PLACES)) where
  pub word_there : word_at w.memory at ≡ Some (place_word hash c blocks (c.place t i))
  word_there = ap (word_at w.memory) at_is ∙ (map.map.shows.tables t made known).places i inside

  pub word_some : IsSome (word_at w.memory at)
  word_some = is_some_of _ _ word_there

  -- a word that was found there is that of the place
  pub word_is : (found : ℕ) → word_at w.memory at ≡ Some found → found ≡ place_word hash c blocks (c.place t i)
  word_is found is = let there = word_there in cc (is, there)

  word_own : IsOwn deferred_word w.memory at
  word_own = subst (λ (a : At). IsOwn deferred_word w.memory a) (sym at_is) (own_word hash w.memory c blocks setting.root map.map.shows t (i + PLACES) made known (omega arith))

  word_mine : InFootprint setting caller w c blocks at
  word_mine = subst (λ (a : At). InFootprint setting caller w c blocks a) (sym at_is) (inl (t, made, known, refl))

  -- The word was written, by an allowed move, and blocks were linked or unlinked after it.
  pub went_changed : IsLawful same (spot_of hash)
      → (word new found : ℕ) → (word_at w.memory at ≡ Some found) × (found ≡ word) → (m2 : Mem (Node K V)) → m2 ≡ with_word w.memory at new
      → (hand : ℕ → Hand) (log : List Effect)
      → ((m : Mem (Node K V)) (i : ℕ) → i ≢ caller → PreservesBlocks i m w.hand m hand) → OutsStay w.memory w.hand hand → (events : List (Event (Node K V))) → AllUsers events → AllIts setting caller w c blocks events
      → Runs deferred_word setting.batch_size events (record w { memory = with_word w.memory at new })
      (record w { memory = with_word w.memory at new; hand = hand; log = log })
      → (move : Move K) → IsItsMove caller blocks move → Allowed same (spot_of hash) (is_incremental setting.mode) move c → (after (spot_of hash) (is_incremental setting.mode) move c).past ≡ c.past → (blocks2 : Blocks)
      → ((n : ℕ) → c.stored ≤ n → n < (after (spot_of hash) (is_incremental setting.mode) move c).stored → w.hand (blocks2.pair n) ≡ Making caller)
      → OutsAreKnown caller w.hand hand (after (spot_of hash) (is_incremental setting.mode) move c) blocks2
      → Represents hash (with_word w.memory (Word (blocks.table t) (i + PLACES)) new) (after (spot_of hash) (is_incremental setting.mode) move c) blocks2 setting.root
      → IsLater (after (spot_of hash) (is_incremental setting.mode) move c) blocks2
      → Hands same hash setting (record w { hand = hand; log = log }) (after (spot_of hash) (is_incremental setting.mode) move c) blocks2
      → SameBlocks c blocks blocks2 → (Told : World (Node K V) → Chart K → Blocks → Type 0)
      → Told (record w { memory = with_word w.memory at new; hand = hand; log = log }) (after (spot_of hash) (is_incremental setting.mode) move c) blocks2
      → StepSpec same hash setting caller w c blocks m2 Told
  went_changed lawful word new found is m2 after_is hand log others outs events users its runs move by allowed past blocks2 fresh come_out shows later hands same_blocks Told told =
      subst (λ (n : Mem (Node K V)). StepSpec same hash setting caller w c blocks n Told) (sym after_is)
      (went_after same hash setting caller w c blocks map (Exchange at word new) (Exchanged (Ok found)) word_own
      (with_word w.memory at new) (is, refl) events users its
      (record w { memory = with_word w.memory at new; hand = hand; log = log }) runs refl (framed_written setting caller w c blocks at new word_some word_mine)
      (λ i other. keeps_then i w.memory (with_word w.memory at new) (with_word w.memory at new) w.hand w.hand hand
      (keeps_written caller w i other at new word_some (aside_of same hash setting caller w c blocks map at word_mine)) (others (with_word w.memory at new) i other))
      (after (spot_of hash) (is_incremental setting.mode) move c) blocks2 (spares_moved (spot_of hash) (is_incremental setting.mode) c blocks map.map.shows.linked move by.1)
      (record { tables = λ t l m. absurd (omega (arith, l, m, past)); pairs = fresh; outs = outs; known = come_out }) (inr (move, allowed, refl, by.0)) map2 same_blocks Told told)
    where
      map2 : IsMapIn same hash setting (record w { memory = with_word w.memory at new; hand = hand; log = log }) (after (spot_of hash) (is_incremental setting.mode) move c) blocks2
      map2 =
          map_in same hash setting (record w { memory = with_word w.memory at new; hand = hand; log = log }) (after (spot_of hash) (is_incremental setting.mode) move c) blocks2
          (map_moved same hash setting lawful w.memory (with_word w.memory at new) c blocks blocks2 move map.map allowed
          (subst (λ (a : At). Represents hash (with_word w.memory a new) (after (spot_of hash) (is_incremental setting.mode) move c) blocks2 setting.root) (sym at_is) shows) later)
          (counter_written setting w.memory at new word_some (counter_of same hash setting w c blocks map))
          (record { tables = hands.tables; pairs = hands.pairs; named = hands.named; tables_out = hands.tables_out; pairs_out = hands.pairs_out })
