-- What is promised of a pair that has left its map: it lies where it lay, and the root that has come there does not go back, so that it may be retired later still.
use Rattle.std.specs.Prelude.{◌≡◌, ℕ, ◌≤◌, true, false, List, length, Option, Some}
use Rattle.run_executor.specs.Given.RunsDeclared.effect.Effect.{Effect}
use Rattle.run_executor.specs.Given.RunsDeclared.effect.Effect.TheVariants.{Promoted, Copied}
use Rattle.run_executor.specs.Given.SchedulesEffects.{is_chunked, AtEachEffect}
use Rattle.run_executor.specs.Given.SchedulesLives.{IsPast}
use Rattle.run_executor.specs.Given.SchedulesMoment.{UnderWay as CallThere, Moment}
use Rattle.run_executor.specs.Given.SchedulesViews.{call_of, is_in_a_map, first_of}
use Rattle.run_executor.specs.Given.FollowsFinds.{FindsMap}
use Rattle.run_finds.specs.Parts.{FindPlacesOf}

module _ {K V : Type 0} where
  -- the pair of this number was stored, and is in no map
  abbrev pub HasLeftMaps : Moment K V → ℕ → Type 0
  HasLeftMaps m n = (n ≤ length m.stored) × (is_in_a_map (m.place n) ≡ false)

  -- it lies where it was stored, or no further on than the root of this map
  abbrev pub IsPastRoot : ℕ → Moment K V → ℕ → Type 0
  IsPastRoot map m n = IsPast (m.born n).turn (m.spot n).turn (first_of map m)

  -- what is copied in a map that grows in chunks is in a map, and the root comes to no earlier table
  abbrev pub FindsOnward : Option ℕ → Moment K V → Effect → Type 0
  FindsOnward acted m (Copied n s) = is_chunked acted m ≡ true → is_in_a_map (m.place n) ≡ true
  FindsOnward acted m (Promoted t) = first_of t.map m ≤ t.turn
  FindsOnward acted m _ = Unit {0}

-- The promise: so it is of the effects of a call, by what they find of pairs and tables.
abbrev pub CallsFindOnward : Type 0 → Type 0 → Type 0
CallsFindOnward K V =
    (own : List ℕ) (map : ℕ) (effects : List Effect) (m : Moment K V) (c : CallThere K V) → call_of own m ≡ Some c → AtEachEffect (FindsMap map) (Some own) (Some map) effects m
    → FindPlacesOf own map effects m → AtEachEffect (FindsOnward (Some map)) (Some own) (Some map) effects m
