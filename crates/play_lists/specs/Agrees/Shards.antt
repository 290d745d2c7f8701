-- Each map has as many shards of its count as the terms say.
use Rattle.std.specs.Prelude.{◌≡◌, ℕ, ◌+◌, Some}
use Rattle.many_acts.specs.Given.FinishesMakings.{Beginning}
use Rattle.many_acts.specs.Given.FinishesMaps.{Standing}
use Rattle.many_acts.specs.Given.ScenesScene.{Scene}
use Rattle.many_acts.specs.Acts.Acts.{Act, BeginsMaking}

-- each map that stands has so many, and each that is made
pub record ShardsAre {K V : Type 0} (shards : ℕ) (s : Scene K V) : Type 0 where
  pub standing : (m : ℕ) (st : Standing K) → s.maps m ≡ Some st → st.setting.mask + 1 ≡ shards
  pub made : (i : ℕ) (b : Beginning K) → s.makers i ≡ Some b → b.given.mask + 1 ≡ shards

-- a making is asked for with so many
abbrev pub AsksShards : {K V S : Type 0} → ℕ → Act K V S → Type 0
AsksShards shards (BeginsMaking i map hasher given places) = given.mask + 1 ≡ shards
AsksShards shards act = Unit {0}
