-- With which places a map is made: such as a capacity without a fault asks for; and of whom so many shards, and such places, are asked.
use Rattle.std.specs.Prelude.{◌≡◌, ◌+◌, ℕ, max, None}
use Rattle.map_tables.specs.declared.setting.Setting.{Setting}
use Rattle.run_finds.specs.Given.NamedPlaces.{first_places}
use Rattle.run_schedules.specs.Runs.Runs.{map_fault}
use Rattle.many_acts.specs.Acts.Acts.{Act, BeginsMaking}
use Rattle.many_acts.specs.Acts.AsSteps.{IsOwn}
use Rattle.many_acts.specs.Acts.Doings.{Doing, Does}
use Rattle.play_lists.specs.Played.Play.{pairs_for}

-- With this setting so many places are those that so many pairs need, in its mode, and no table is to have fewer entries.
abbrev pub ArePlaces : Setting → ℕ → Type 0
ArePlaces given places = (map_fault given.mode (pairs_for places) ≡ None) × (places ≡ first_places (pairs_for places)) × (given.initial ≡ max places 1)

-- a map is made with such places
abbrev pub AsksPlaces : {K V S : Type 0} → Act K V S → Type 0
AsksPlaces (BeginsMaking i map hasher given places) = ArePlaces given places
AsksPlaces act = Unit {0}

-- a map is made with so many shards, and with such places
abbrev pub AsksMap : {K V S : Type 0} → ℕ → Act K V S → Type 0
AsksMap shards (BeginsMaking i map hasher given places) = (given.mask + 1 ≡ shards) × ArePlaces given places
AsksMap shards act = Unit {0}

-- Keys have a hash by each hasher, and each map has one by its number, and so many shards.
module _ {K S : Type 0} (V : Type 0) (by_hasher : S → K → ℕ) (hash : ℕ → K → ℕ) (shards : ℕ) where
  -- an act is of its own, and a making is asked for with so many, and with such places
  abbrev pub AsksMaps : Doing K V S → Type 0
  AsksMaps (Does act) = IsOwn by_hasher hash act × AsksMap shards act
  AsksMaps doing = Unit {0}
