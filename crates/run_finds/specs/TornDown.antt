-- Once the collector has ended each stored pair was reclaimed, once.
use Rattle.std.specs.Prelude.{◌≡◌, ℕ, ◌≤◌, ◌==◌, true, false, List, [], length, Option, Some, None}
use Rattle.std.specs.List.{list_any}
use Rattle.run_executor.specs.Given.RunsDeclared.effect.Effect.{Effect}
use Rattle.run_executor.specs.Given.RunsDeclared.effect.Effect.TheVariants.{Stored}
use Rattle.run_executor.specs.Given.SchedulesEffects.{with_effects, AtEachEffect}
use Rattle.run_executor.specs.Given.SchedulesMoment.{InMap, MapThere, Moment, start}
use Rattle.run_executor.specs.Given.SchedulesReclaims.{IsEmptied, IsTornDown}
use Rattle.run_finds.specs.Waiting.{is_unborn, PairsArePlaced, FindsPlaced}

module _ {K V : Type 0} (m : Moment K V) where
  pub record StoredAreSomewhere : Type 0 where
    -- each pair that was stored is somewhere,
    pub born : (n : ℕ) → 1 ≤ n → n ≤ length m.stored → is_unborn (m.place n) ≡ false
    -- and where it is in a map, that is there
    pub there : (n map : ℕ) → 1 ≤ n → m.place n ≡ InMap map → list_any (λ (f : MapThere). f.number == map) m.maps ≡ true

-- The promises: so it is before all events;
abbrev pub SomewhereAtFirst : Type 0 → Type 0 → Type 0
SomewhereAtFirst K V = StoredAreSomewhere (start {K = K} {V = V})

-- and after any effects that find what they must, of which one that stores a pair finds its map;
module _ {K V : Type 0} where
  abbrev pub FindsItsMap : Option ℕ → Moment K V → Effect → Type 0
  FindsItsMap (Some map) m (Stored n s) = list_any (λ (f : MapThere). f.number == map) m.maps ≡ true
  FindsItsMap None m (Stored n s) = ⊥
  FindsItsMap acted m _ = Unit {0}

abbrev pub EffectsPreserveSomewhere : Type 0 → Type 0 → Type 0
EffectsPreserveSomewhere K V =
    (caller : Option (List ℕ)) (acted : Option ℕ) (effects : List Effect) (m : Moment K V) → AtEachEffect (λ v f. FindsPlaced caller v f × FindsItsMap acted v f) caller acted effects m
    → StoredAreSomewhere m → StoredAreSomewhere (with_effects caller acted effects m)

-- where all else happens that leaves pairs where they are, and maps that have some;
abbrev pub OthersPreserveSomewhere : Type 0 → Type 0 → Type 0
OthersPreserveSomewhere K V =
    (m v : Moment K V) → StoredAreSomewhere m → ((n : ℕ) → v.place n ≡ m.place n) → v.stored ≡ m.stored
    → ((n map : ℕ) → 1 ≤ n → m.place n ≡ InMap map → list_any (λ (f : MapThere). f.number == map) m.maps ≡ true → list_any (λ (f : MapThere). f.number == map) v.maps ≡ true)
    → StoredAreSomewhere v

-- and where all is reclaimed that waits, and no map is there, each pair was given back once.
abbrev pub TornDownInTheEnd : Type 0 → Type 0 → Type 0
TornDownInTheEnd K V = (m : Moment K V) → PairsArePlaced m → StoredAreSomewhere m → m.maps ≡ [] → IsEmptied m → IsTornDown m
