-- In blocking mode, a copier tries a place of its target for a pair, whichever table it copies.
use Rattle.std.specs.Prelude.{Some}
use Rattle.std.proofs.Common.{◌≡◌, ℕ, ◌+◌, ◌<◌, ◌==◌, Bool, true, false, ap, sym, subst, ◌∙◌}
use Rattle.map_rule.specs.Given.SeizeWordsDeclared.at.At.{At}
use Rattle.map_rule.specs.Given.SeizeWordsDeclared.at.At.TheVariants.{Word}
use Rattle.map_rule.specs.Given.SeizeWordsMem.{Can, Took, value_at, word_at, with_word}
use Rattle.map_rule.specs.Given.SeizeWordsPlan.{May}
use Rattle.map_rule.proofs.Given.SeizeWordsOneOwner.Operations.{may_load, may_exchange}
use Rattle.map_rule.proofs.Given.SeizeWordsPlans.{see_if}
use Rattle.papaya_raw.specs.Given.SeizeWorld.{World}
use Rattle.papaya_raw.specs.Given.TablesChunks.{is_incremental}
use Rattle.papaya_raw.specs.Given.TablesTablePlaces.{at_place}
use Rattle.papaya_raw.specs.Given.TablesTrials.{trial_at}
use Rattle.papaya_raw.specs.Given.TablesDeclared.node.Node.{Node}
use Rattle.papaya_raw.specs.Given.TablesDeclared.probe.Probe.{Probe}
use Rattle.papaya_raw.specs.Given.TablesDeclared.setting.Setting.{Setting}
use Rattle.papaya_raw.specs.Given.TablesDeclared.table.Table.{Table}
use Rattle.papaya_raw.specs.Given.TablesDeclared.table_words.TheConstants.{PLACES}
use Rattle.map_rule.specs.Given.ResizeCopierPlaces.{copied_word, place_read, probes, after_put, puts}
use Rattle.map_rule.specs.Given.ResizeDeclared.copier.Copier.{Copier}
use Rattle.map_rule.specs.Chart.{Phase, Place, Empty, Holds, Chart, put_in}
use Rattle.map_rule.specs.InWorld.{IsMapIn}
use Rattle.map_rule.specs.Maps.{spot_at, spot_of, IsTrial}
use Rattle.map_rule.specs.Words.{Blocks, byte_of, place_word, Represents}
use Rattle.map_rule.proofs.Keys.TriesSeen.{spot_inside}
use Rattle.map_rule.proofs.Words.OwnWords.{own_at_place}
use Rattle.map_rule.proofs.Words.PlacesShown.{are_stored, shown_block}
use Rattle.map_rule.proofs.Words.PlaceWordsRead.{word-empty}
use Rattle.map_rule.proofs.Words.TablesSeen.{place_stands, place_there}
use Rattle.map_rule.proofs.Words.WritesPlaces.{place_written}
use Rattle.map_rule.proofs.World.Footprints.{MayWrite}
use Rattle.map_rule.proofs.Given.General.{some_is as is_some_of}

module _ {K V : Type 0} (same : K → K → Bool) (hash : K → ℕ) (setting : Setting) (w : World (Node K V)) (c : Chart K) (blocks : Blocks)
    (map : IsMapIn same hash setting w c blocks)
    (code : ℕ) (table : Table) (probe : Probe) (t : ℕ) (k : K) (j : ℕ) (code_is : code ≡ hash k)
    (trial : IsTrial c blocks (trial_at table probe) code t j) where
  abbrev spot : ℕ
  spot = spot_of hash (c.len t) k j

  probe_is : probe.i ≡ spot
  probe_is = trial.place ∙ ap (λ (x : ℕ). spot_at (c.len t) x j) code_is

  -- the place is one of the table
  pub try_inside : spot < c.len t
  try_inside = spot_inside (c.len t) (hash k) j (map.map.rule.common.lens t trial.table.made).0

  abbrev place : Place
  place = c.place t spot

  abbrev at_try : At
  at_try = at_place table probe.i

  at_is : at_try ≡ Word (blocks.table t) (spot + PLACES)
  at_is = ap (at_place table) probe_is ∙ place_stands hash w.memory c blocks setting.root map.map.shows table t trial.table spot try_inside

  pub try_word : word_at w.memory at_try ≡ Some (place_word hash c blocks place)
  try_word =
      ap (λ (i : ℕ). word_at w.memory (at_place table i)) probe_is ∙ place_there hash w.memory c blocks setting.root map.map.shows table t trial.table spot try_inside

  -- a word of 0 is that of an empty place
  pub try_empty : place_word hash c blocks place ≡ 0 → place ≡ Empty false
  try_empty empty =
      word-empty blocks.pair (λ o. byte_of hash (c.key o)) place
      (shown_block hash w.memory c blocks setting.root map.map.shows (are_stored same (spot_of hash) (is_incremental setting.mode) c map.map.rule.common) t spot trial.table.made trial.table.known) empty

  pub may_write_try : (caller : ℕ) → MayWrite setting caller w c blocks at_try
  may_write_try caller =
      subst (λ (i : ℕ). MayWrite setting caller w c blocks (at_place table i)) (sym probe_is)
      (own_at_place same hash setting w c blocks map caller table t spot trial.table try_inside)

  -- a pair is put there
  pub put_shows : (word : ℕ) (new : Place) → word ≡ place_word hash c blocks new
      → ((n : ℕ) (phase : Phase) (borrowed : Bool) → new ≡ Holds n phase borrowed → blocks.pair_known n ≡ true)
      → Represents hash (with_word w.memory at_try word) (record c { place = put_in c.place t spot new }) blocks setting.root
  put_shows word new is known =
      subst (λ (x : At). Represents hash (with_word w.memory x word) (record c { place = put_in c.place t spot new }) blocks setting.root) (sym at_is)
      (subst (λ (y : ℕ). Represents hash (with_word w.memory (Word (blocks.table t) (spot + PLACES)) y) (record c { place = put_in c.place t spot new }) blocks setting.root) (sym is)
      (place_written hash w.memory c blocks setting.root map.map.shows t spot new trial.table.made trial.table.known try_inside known))

  module _ (p : Copier) (pair : ℕ) where
    pub may_probe : May Can Took value_at w.memory (probes p pair code table probe)
    may_probe =
        may_load w.memory (place_read p pair code table probe) at_try (is_some_of _ _ try_word)
        (λ found e. see_if (value_at w.memory) (found == 0) _ _ (λ _. tt) (λ _. tt))

    pub may_put : May Can Took value_at w.memory (puts p pair code table probe)
    may_put = may_exchange w.memory (after_put p pair code table probe) at_try 0 (copied_word p pair) (is_some_of _ _ try_word) (λ found e. tt) (λ found e. tt)
