-- Numbers of maps: each map that is there has one of its own, and the next one that comes has a higher one than any before.
use Rattle.std.specs.Prelude.{◌≡◌, ℕ, ◌<◌, Bool, List, [], Option, Some, None}
use Rattle.std.specs.List.{All}
use Rattle.run_shows.specs.Given.TablesDeclared.node.Node.{Node}
use Rattle.run_shows.specs.Given.TablesDeclared.setting.Setting.{Setting}
use Rattle.run_shows.specs.Given.RunsDeclared.effect.Effect.{Effect}
use Rattle.run_shows.specs.Given.SchedulesBeginning.{with_map}
use Rattle.run_shows.specs.Given.SchedulesEffects.{with_effects}
use Rattle.run_shows.specs.Given.SchedulesMoment.{InMap, MapThere, Remains, Moment, start}
use Rattle.run_shows.specs.Given.SchedulesViews.{map_at, tables_of}
use Rattle.run_shows.specs.Given.EffectsDeclared.changed.Changed.{Changed}
use Rattle.run_shows.specs.Given.EffectsEffects.{map_of, effects_of}
use Rattle.run_shows.specs.Given.EffectsKnown.{Known}
use Rattle.run_shows.specs.Given.EffectsDeclared.acting.Acting.{Acting}
use Rattle.run_shows.specs.Given.EffectsDeclared.acting.Acting.TheVariants.{Row}
use Rattle.run_shows.specs.declared.row.RowTold.{RowTold}
use Rattle.run_shows.specs.declared.row.SlotRow.{SlotRow}
use Rattle.run_shows.specs.Others.Endings.{without_map}
use Rattle.run_shows.specs.Others.Makings.{IsNew}
use Rattle.run_shows.specs.Given.FinishesMakings.{Beginning}
use Rattle.run_shows.specs.Given.FinishesMaps.{Standing}
use Rattle.run_shows.specs.Scenes.Held.{Held}
use Rattle.run_shows.specs.Scenes.OnSlots.{RowLeads}
use Rattle.run_shows.specs.Scenes.Scene.{IsOnSlot, Scene}

module _ {K V : Type 0} where
  -- each map that is there is the one that is found by its number
  abbrev pub AreFound : Moment K V → Type 0
  AreFound m = All (λ there. map_at there.number m ≡ Some there) m.maps

  -- so it is, and its number is below that of the next map, and so are those of the maps of all tables
  pub record NumbersMaps (m : Moment K V) : Type 0 where
    pub found : AreFound m
    pub below : All (λ there. there.number < m.made) m.maps
    pub tables : All (λ t. t.table.map < m.made) m.tables

-- The maps of a scene that stand or are made have numbers below this one.
pub record MapsAreBelow {K V : Type 0} (count : ℕ) (s : Scene K V) : Type 0 where
  pub standing : (map : ℕ) (st : Standing K) → s.maps map ≡ Some st → map < count
  pub made : (i : ℕ) (b : Beginning K) → s.makers i ≡ Some b → b.map < count

-- The promises: so it is before all events,
abbrev pub NumbersBegin : Type 0 → Type 0 → Type 0
NumbersBegin K V = NumbersMaps {K = K} {V = V} start

-- and where a map comes by the next number, of which there is no table yet,
abbrev pub MapsComeByNumber : Type 0 → Type 0 → Type 0
MapsComeByNumber K V =
    (m : Moment K V) → NumbersMaps m → (there : MapThere) → there.number ≡ m.made → NumbersMaps (with_map there m) × (tables_of there.number m ≡ [])

-- or is there no more.
abbrev pub MapsGo : Type 0 → Type 0 → Type 0
MapsGo K V = (m : Moment K V) → NumbersMaps m → (own : List ℕ) (remains : List Remains) → NumbersMaps (without_map own remains m)

-- And so it is after each step of a call, of a making or of an end, on a map that was made; the number of a map that is there is one of those,
abbrev pub StepsPreserveNumbers : Type 0 → Type 0 → Type 0
StepsPreserveNumbers K V =
    (m : Moment K V) → NumbersMaps m → (caller : Option (List ℕ)) (acted : Option ℕ) (acting : Acting) (known : Known) (told : Changed) → map_of acting < m.made
    → NumbersMaps (with_effects caller acted (effects_of acting known told) m)

abbrev pub NumbersAreBelow : Type 0 → Type 0 → Type 0
NumbersAreBelow K V = (m : Moment K V) → NumbersMaps m → (number : ℕ) (there : MapThere) → map_at number m ≡ Some there → number < m.made

module _ (K V : Type 0) (same : K → K → Bool) (hash : ℕ → K → ℕ) where
  -- and after a step of a row on a slot.
  abbrev pub RowsPreserveNumbers : Type 0
  RowsPreserveNumbers =
      (m : Moment K V) → NumbersMaps m → (known : Known) (s : Scene K V) (old new : Held K V) (i : ℕ) (told : RowTold (Node K V)) → RowLeads same hash i told s old new
      → (row : SlotRow) → IsOnSlot s i row → NumbersMaps (with_effects None None (effects_of Row known new.changed) m)

-- Each pair that is in a map is in one of such a number, too.
abbrev pub PairsAreBelow : {K V : Type 0} → Moment K V → Type 0
PairsAreBelow m = (n map : ℕ) → m.place n ≡ InMap map → map < m.made

-- The promises: so it is before all events, where a map comes, or is there no more,
abbrev pub PairsBegin : Type 0 → Type 0 → Type 0
PairsBegin K V = PairsAreBelow {K = K} {V = V} start

abbrev pub PairsStayAsMapsCome : Type 0 → Type 0 → Type 0
PairsStayAsMapsCome K V = (m : Moment K V) → PairsAreBelow m → (there : MapThere) → PairsAreBelow (with_map there m)

abbrev pub PairsStayAsMapsGo : Type 0 → Type 0 → Type 0
PairsStayAsMapsGo K V = (m : Moment K V) → PairsAreBelow m → (own : List ℕ) (remains : List Remains) → PairsAreBelow (without_map own remains m)

-- and after any effects, on a map that was made, or on none.
abbrev pub EffectsPreservePairs : Type 0 → Type 0 → Type 0
EffectsPreservePairs K V =
    (m : Moment K V) → PairsAreBelow m → (caller : Option (List ℕ)) (acted : Option ℕ) (effects : List Effect) → ((map : ℕ) → acted ≡ Some map → map < m.made)
    → PairsAreBelow (with_effects caller acted effects m)

-- So a map that comes by the next number is there as a new one.
abbrev pub MapsComeAsNew : Type 0 → Type 0 → Type 0
MapsComeAsNew K V =
    (m : Moment K V) → NumbersMaps m → PairsAreBelow m → (there : MapThere) → there.number ≡ m.made → there.first ≡ 0
    → (setting : Setting) → there.root ≡ setting.root → there.mode ≡ setting.mode → IsNew there.number setting (with_map there m)
