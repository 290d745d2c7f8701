-- A call replaces the word of its try: what of that is the same whatever it writes.
use Rattle.std.specs.Prelude.{◌≤◌, ◌≡◌, ◌≢◌, ℕ, ◌+◌, ◌^◌, ◌<◌, Bool, false, List, Some, IsSome}
use Rattle.std.proofs.Common.{ap, ◌∙◌}
use Rattle.map_rule.specs.Given.SeizeWordsDeclared.at.At.TheVariants.{Word}
use Rattle.map_rule.specs.Given.SeizeWordsMem.{Mem, value_at, word_at, with_word, Can, Took}
use Rattle.map_rule.specs.Given.SeizeWordsPlan.{May}
use Rattle.map_rule.proofs.Given.SeizeWordsOneOwner.Operations.{may_exchange}
use Rattle.papaya_raw.specs.Given.SeizeLaw.{Effect}
use Rattle.papaya_raw.specs.Given.SeizeWorld.{Making, World, Hand, Event, Runs}
use Rattle.papaya_raw.specs.Given.TablesChunks.{is_incremental}
use Rattle.papaya_raw.specs.Call.{tries, tried}
use Rattle.papaya_raw.specs.Given.TablesNodes.{deferred_word}
use Rattle.papaya_raw.specs.Given.TablesTablePlaces.{at_place}
use Rattle.papaya_raw.specs.Given.TablesTrials.{place_tried}
use Rattle.papaya_raw.specs.Given.TablesDeclared.node.Node.{Node}
use Rattle.papaya_raw.specs.Given.TablesDeclared.setting.Setting.{Setting}
use Rattle.papaya_raw.specs.Given.TablesDeclared.table_words.TheConstants.{PLACES}
use Rattle.papaya_raw.specs.declared.machines.call.KeyCall.{KeyCall}
use Rattle.map_rule.specs.Chart.{Chart}
use Rattle.map_rule.specs.Rule.{IsLawful}
use Rattle.map_rule.specs.Moves.{Move, after, Allowed}
use Rattle.map_rule.specs.Words.{Blocks, place_word, Represents}
use Rattle.map_rule.specs.Maps.{spot_at, spot_of, IsTrial}
use Rattle.map_rule.specs.InWorld.{IsMapIn, AllUsers, AllIts, SameBlocks, StepSpec, PreservesBlocks}
use Rattle.map_rule.proofs.Words.TablesSeen.{place_stands}
use Rattle.map_rule.proofs.World.Hands.{Hands}
use Rattle.map_rule.proofs.Words.LinksOwn.{OutsStay, OutsAreKnown}
use Rattle.map_rule.proofs.World.MovesKnown.{IsItsMove}
use Rattle.map_rule.proofs.World.WentWrote.{IsLater}
use Rattle.map_facts.proofs.Calls.CallsOn.{Seeking}
use Rattle.map_rule.proofs.Keys.TriesSeen.{spot_inside}
use Rattle.map_facts.proofs.Calls.Probes.{see_read}
use Rattle.map_facts.proofs.Steps.PlacesChanged as places

module _ {K V Q : Type 0} (same : K → K → Bool) (hash : K → ℕ) (asks : Q → K → Bool) (caller : ℕ) (setting : Setting) (keys : K → Bool)
    (lawful : IsLawful same (spot_of hash)) (fits : (k : K) → hash k < 2 ^ 64)
    (w : World (Node K V)) (c : Chart K) (blocks : Blocks) (map : IsMapIn same hash setting w c blocks) (p : KeyCall K V Q)
    (s : Seeking same hash asks caller setting keys w c blocks p)
    (t j : ℕ) (trial : IsTrial c blocks p.trial p.hash t j) where
  -- where the word of the try stands
  pub try_is : place_tried p.trial ≡ Word (blocks.table t) (spot_at (c.len t) p.hash j + PLACES)
  try_is =
      ap (at_place p.trial.table) trial.place
      ∙ place_stands hash w.memory c blocks setting.root map.map.shows p.trial.table t trial.table (spot_at (c.len t) p.hash j)
      (spot_inside (c.len t) p.hash j (map.map.rule.common.lens t trial.table.made).0)

  spot_in : spot_at (c.len t) p.hash j < c.len t
  spot_in = spot_inside (c.len t) p.hash j (map.map.rule.common.lens t trial.table.made).0

  pub try_some : IsSome (word_at w.memory (place_tried p.trial))
  try_some = places.word_some same hash caller setting w c blocks map t (spot_at (c.len t) p.hash j) trial.table.made trial.table.known spot_in (place_tried p.trial) try_is

  -- a word that was found there is that of the place
  pub found_is : (found : ℕ) → word_at w.memory (place_tried p.trial) ≡ Some found → found ≡ place_word hash c blocks (c.place t (spot_at (c.len t) p.hash j))
  found_is = places.word_is same hash caller setting w c blocks map t (spot_at (c.len t) p.hash j) trial.table.made trial.table.known spot_in (place_tried p.trial) try_is

  pub may_tries : (word new : ℕ) → May Can Took value_at w.memory (tries asks same p word new)
  may_tries word new =
      may_exchange w.memory (tried asks same p word new) (place_tried p.trial) word new try_some (λ found is. tt)
      (λ found is. see_read same hash asks caller setting keys fits w c blocks map p s t j trial false found (found_is found is.0))

  -- The word was written, by an allowed move, and blocks were linked or unlinked after it.
  pub went_changed : (word new found : ℕ) → (word_at w.memory (place_tried p.trial) ≡ Some found) × (found ≡ word) → (m2 : Mem (Node K V)) → m2 ≡ with_word w.memory (place_tried p.trial) new
      → (hand : ℕ → Hand) (log : List Effect)
      → ((m : Mem (Node K V)) (i : ℕ) → i ≢ caller → PreservesBlocks i m w.hand m hand) → OutsStay w.memory w.hand hand → (events : List (Event (Node K V))) → AllUsers events → AllIts setting caller w c blocks events
      → Runs deferred_word setting.batch_size events (record w { memory = with_word w.memory (place_tried p.trial) new })
      (record w { memory = with_word w.memory (place_tried p.trial) new; hand = hand; log = log })
      → (move : Move K) → IsItsMove caller blocks move → Allowed same (spot_of hash) (is_incremental setting.mode) move c → (after (spot_of hash) (is_incremental setting.mode) move c).past ≡ c.past → (blocks2 : Blocks)
      → ((n : ℕ) → c.stored ≤ n → n < (after (spot_of hash) (is_incremental setting.mode) move c).stored → w.hand (blocks2.pair n) ≡ Making caller)
      → OutsAreKnown caller w.hand hand (after (spot_of hash) (is_incremental setting.mode) move c) blocks2
      → Represents hash (with_word w.memory (Word (blocks.table t) (spot_at (c.len t) p.hash j + PLACES)) new) (after (spot_of hash) (is_incremental setting.mode) move c) blocks2 setting.root
      → IsLater (after (spot_of hash) (is_incremental setting.mode) move c) blocks2
      → Hands same hash setting (record w { hand = hand; log = log }) (after (spot_of hash) (is_incremental setting.mode) move c) blocks2
      → SameBlocks c blocks blocks2 → (Told : World (Node K V) → Chart K → Blocks → Type 0)
      → Told (record w { memory = with_word w.memory (place_tried p.trial) new; hand = hand; log = log }) (after (spot_of hash) (is_incremental setting.mode) move c) blocks2
      → StepSpec same hash setting caller w c blocks m2 Told
  went_changed = places.went_changed same hash caller setting w c blocks map t (spot_at (c.len t) p.hash j) trial.table.made trial.table.known spot_in (place_tried p.trial) try_is lawful
