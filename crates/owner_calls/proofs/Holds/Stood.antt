-- What could be looked at as the map rested stands still in its block: then so do all pairs of the map, each in a block of its own.
use Rattle.std.specs.Prelude.{◌≡◌, ◌≢◌, ℕ, ◌<◌, Bool, true, List, Some, Result}
use Rattle.std.proofs.Common.{refl, sym, ap}
use Rattle.seize_words.specs.OneMemory.Mem.{Mem, value_at}
use Rattle.seize_words.specs.OneMemory.Word.{block_in}
use Rattle.seize_words.specs.declared.fault.Fault.{Fault}
use Rattle.map_tables.specs.declared.node.Node.{Node}
use Rattle.map_tables.specs.declared.setting.Setting.{Setting}
use Rattle.map_straight.proofs.Given.RuleWorld.Hands.{current_known}
use Rattle.map_straight.specs.Given.RuleInWorld.{IsMapIn}
use Rattle.owner_whole.proofs.Whole.Contents.Below.{below_stays}
use Rattle.owner_calls.proofs.Owned.Owned.Standing.{blocks_below, none_there, standing_below}
use Rattle.owner_calls.specs.Owned.Owned.{Holds}
use Rattle.owner_whole.specs.Strides.Standing.{Standing}
use Rattle.owner_calls.specs.declared.machines.Stop.{Stop}
use Rattle.owner_calls.specs.Holds.Came.{StayBeside, StayInPlace, stored_at}

module _ {K V : Type 0} (same : K → K → Bool) (hash : K → ℕ) (setting : Setting) (m0 : Mem (Node K V)) (xs : List (K × V)) (h : Holds same hash setting m0 xs) where
  abbrev pub StandsStill : Mem (Node K V) → Type 0
  StandsStill m = (n : ℕ) → n < h.chart.stored → h.blocks.pair_known n ≡ true → value_at m (h.blocks.pair n) ≡ value_at h.world.memory (h.blocks.pair n)

  pub still_first : StandsStill m0
  still_first n low known = ap (λ (y : Mem (Node K V)). value_at y (h.blocks.pair n)) (sym h.memory)

  map : IsMapIn same hash setting h.world h.chart h.blocks
  map = h.rests.together.ground.map

  apart : (n o : ℕ) → h.chart.current n ≡ true → h.chart.current o ≡ true → h.blocks.pair n ≡ h.blocks.pair o → n ≡ o
  apart n o now now2 alike =
      let k = current_known same hash setting h.world h.chart h.blocks map.map.rule map.map.shows n now in
      let k2 = current_known same hash setting h.world h.chart h.blocks map.map.rule map.map.shows o now2 in map.map.shows.pairs_apart n o k.0 k2.0 k.1 k2.1 alike

  stand_in : (m : Mem (Node K V)) → StandsStill m → Standing m (blocks_below h.chart h.blocks.pair h.chart.stored) xs
  stand_in m still =
      standing_below h.chart h.blocks.pair m h.blocks (λ o now. refl) apart h.chart.stored xs
      (below_stays same h.world.memory m h.chart h.chart h.blocks h.blocks h.chart.stored xs (λ o low. refl)
      (λ o low now. let k = current_known same hash setting h.world h.chart h.blocks map.map.rule map.map.shows o now in still o k.0 k.1) h.are)

  -- and none in the block of what was stored
  pub stood_beside : (m : Mem (Node K V)) → StandsStill m → (result : Result Stop Fault)
      → ((word : ℕ) → stored_at result ≡ Some word → (n : ℕ) → n < h.chart.stored → h.blocks.pair_known n ≡ true → block_in word ≢ h.blocks.pair n) → StayBeside m0 m xs result
  stood_beside m still result beside = (
    blocks_below h.chart h.blocks.pair h.chart.stored,
    stand_in m0 still_first,
    stand_in m still,
    λ word is. none_there h.chart h.blocks.pair (block_in word) h.chart.stored
        (λ o low now. let k = current_known same hash setting h.world h.chart h.blocks map.map.rule map.map.shows o now in beside word is o k.0 k.1),
  )

  -- in the same blocks
  pub stood : (m : Mem (Node K V)) → StandsStill m → StayInPlace m0 m xs
  stood m still = (blocks_below h.chart h.blocks.pair h.chart.stored, stand_in m0 still_first, stand_in m still)
