-- A caller adds to a shard of its map's counter: the map stands there as it stood, whoever does so.
use Rattle.std.specs.Prelude.{◌≡◌, ℕ, ◌+◌, ◌%◌, ◌^◌, Bool, bit_and, [], Some, IsSome}
use Rattle.std.proofs.Common.{refl, ap, sym, subst, ◌∙◌, inl, inr}
use Rattle.std.proofs.lemmas.Nat.{and_le_r}
use Rattle.map_rule.specs.Given.SeizeWordsDeclared.at.At.{At}
use Rattle.map_rule.specs.Given.SeizeWordsDeclared.at.At.TheVariants.{Word}
use Rattle.map_rule.specs.Given.SeizeWordsMem.{Mem, value_at, word_at, with_word}
use Rattle.map_rule.specs.Given.SeizeWordsOp.{Add, Found}
use Rattle.papaya_raw.specs.Given.SeizeWorld.{World, IsOwn}
use Rattle.papaya_raw.specs.Given.TablesNodes.{deferred_word}
use Rattle.papaya_raw.specs.Given.TablesDeclared.node.Node.{Node}
use Rattle.papaya_raw.specs.Given.TablesDeclared.node.Node.TheVariants as node
use Rattle.papaya_raw.specs.Given.TablesDeclared.setting.Setting.{Setting}
use Rattle.map_rule.specs.Chart.{Chart}
use Rattle.map_rule.specs.Words.{Blocks}
use Rattle.map_rule.specs.InWorld.{InFootprint, IsMapIn, StepSpec}
use Rattle.map_rule.proofs.World.Framed.{shows_framed}
use Rattle.map_rule.proofs.World.FramedSteps.{IsBeside, frames_written}
use Rattle.map_rule.proofs.World.Hands.{hands_of}
use Rattle.map_rule.proofs.World.Footprints.{framed_written, aside_of}
use Rattle.map_rule.proofs.Words.LinksOwn.{outs_same, known_same, links_none}
use Rattle.map_rule.proofs.World.MovesKnown.{tables_same}
use Rattle.map_rule.proofs.World.OthersSpared.{keeps_written}
use Rattle.map_rule.proofs.World.WentWrote.{went_after, wrote_in}
use Rattle.map_rule.proofs.Given.General.{some_is as is_some_of}

module _ {K V : Type 0} (same : K → K → Bool) (hash : K → ℕ) (caller : ℕ) (setting own : Setting) (setting_is : own ≡ setting)
    (w : World (Node K V)) (c : Chart K) (blocks : Blocks) (map : IsMapIn same hash setting w c blocks) where
  shard_is : Word own.counter (bit_and own.slot own.mask) ≡ Word setting.counter (bit_and setting.slot setting.mask)
  shard_is = ap (λ (x : Setting). Word x.counter (bit_and x.slot x.mask)) setting_is

  pub shard_some : IsSome (word_at w.memory (Word own.counter (bit_and own.slot own.mask)))
  shard_some =
      let there = map.shards (bit_and setting.slot setting.mask) (and_le_r setting.slot setting.mask) in
      is_some_of _ _ (ap (word_at w.memory) shard_is ∙ there.1)

  shard_own : IsOwn deferred_word w.memory (Word own.counter (bit_and own.slot own.mask))
  shard_own = subst (λ (a : At). IsOwn deferred_word w.memory a) (sym shard_is) (node.Shards, map.counter, λ e. cc)

  shard_mine : InFootprint setting caller w c blocks (Word own.counter (bit_and own.slot own.mask))
  shard_mine = subst (λ (a : At). InFootprint setting caller w c blocks a) (sym shard_is) (inr (inr refl))

  shard_beside : IsBeside c blocks setting.root (Word own.counter (bit_and own.slot own.mask))
  shard_beside =
      subst (λ (a : At). IsBeside c blocks setting.root a) (sym shard_is)
      (λ t made known is. (let table = (map.map.shows.tables t made known).value in let shards = map.counter in absurd (cc (ap (value_at w.memory) is))))

  -- the map with another count
  counted_in : (word : ℕ) → IsMapIn same hash setting (record w { memory = with_word w.memory (Word own.counter (bit_and own.slot own.mask)) word }) c blocks
  counted_in word =
      wrote_in same hash setting caller w c blocks map (Word own.counter (bit_and own.slot own.mask)) word shard_some c blocks
      (record {
        rule = map.map.rule;
        shows = shows_framed hash w.memory (with_word w.memory (Word own.counter (bit_and own.slot own.mask)) word) c blocks setting.root map.map.shows
            (frames_written hash w.memory c blocks setting.root (Word own.counter (bit_and own.slot own.mask)) word shard_some shard_beside);
        later = map.map.later;
      })
      (hands_of same hash setting w c blocks map)

  pub went_counted : (change found : ℕ) → word_at w.memory (Word own.counter (bit_and own.slot own.mask)) ≡ Some found → (m2 : Mem (Node K V))
      → m2 ≡ with_word w.memory (Word own.counter (bit_and own.slot own.mask)) ((found + change) % 2 ^ 64)
      → (Told : World (Node K V) → Chart K → Blocks → Type 0) → ((m : Mem (Node K V)) → Told (record w { memory = m }) c blocks) → StepSpec same hash setting caller w c blocks m2 Told
  went_counted change found is m2 after_is Told told =
      subst (λ (n : Mem (Node K V)). StepSpec same hash setting caller w c blocks n Told) (sym after_is)
      (went_after same hash setting caller w c blocks map (Add (Word own.counter (bit_and own.slot own.mask)) change) (Found found) shard_own
      (with_word w.memory (Word own.counter (bit_and own.slot own.mask)) ((found + change) % 2 ^ 64)) (is, refl) [] tt tt
      (record w { memory = with_word w.memory (Word own.counter (bit_and own.slot own.mask)) ((found + change) % 2 ^ 64) }) refl refl
      (framed_written setting caller w c blocks (Word own.counter (bit_and own.slot own.mask)) ((found + change) % 2 ^ 64) shard_some shard_mine)
      (λ j other. keeps_written caller w j other (Word own.counter (bit_and own.slot own.mask)) ((found + change) % 2 ^ 64) shard_some
      (aside_of same hash setting caller w c blocks map (Word own.counter (bit_and own.slot own.mask)) shard_mine)) c blocks (tables_same c blocks)
      (links_none caller w (record w { memory = with_word w.memory (Word own.counter (bit_and own.slot own.mask)) ((found + change) % 2 ^ 64) }) c c blocks refl refl (outs_same w.memory w.hand)
      (known_same caller w.hand c blocks)) (inl refl)
      (counted_in ((found + change) % 2 ^ 64))
      (record { tables = λ u made seen. (refl, seen); pairs = λ o made seen. (refl, seen); tables_back = λ t made known. known; pairs_back = λ n was known. known })
      Told (told (with_word w.memory (Word own.counter (bit_and own.slot own.mask)) ((found + change) % 2 ^ 64))))
