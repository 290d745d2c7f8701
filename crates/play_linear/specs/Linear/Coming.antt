-- What is so of maps that come and go as a list of acts is played: of their numbers, of those that are being made, and of those that end.
use Rattle.std.specs.Prelude.{◌≡◌, ◌≢◌, ◌≤◌, ◌<◌, ◌⊎◌, ℕ, Bool, true, false, Option, Some, None, []}
use Rattle.seize_acts.specs.Given.SeizeWorld.{times}
use Rattle.run_logged.specs.Given.ResizeNewMap.{at_root}
use Rattle.play_lists.specs.Given.FinishesEndings.{Finishing}
use Rattle.play_lists.specs.Given.FinishesMakings.{Beginning}
use Rattle.run_schedules.specs.Schedules.Moment.{InMap, Moment}
use Rattle.run_schedules.specs.Schedules.Views.{map_at, tables_of}
use Rattle.play_lists.specs.Given.EffectsKnown.{Known}
use Rattle.play_lists.specs.Given.OthersMakings.{IsNew}
use Rattle.play_lists.specs.Given.ScenesScene.{Scene}
use Rattle.run_logged.specs.Given.MomentsNumbers.{MapsAreBelow}
use Rattle.play_lists.specs.Given.RemainsNumbered.{NumbersUpTo}
use Rattle.run_logged.specs.Log.Ends.{NotesMap}
use Rattle.play_lists.specs.Given.ActsActs.{Act, BeginsMaking}
use Rattle.play_lists.specs.Agrees.Fresh.{AreNamed}
use Rattle.run_schedules.specs.Deeds.Deeds.{moment}
use Rattle.play_lists.specs.Played.Play.{Ending, State, has_root}

module _ {K V : Type 0} where
  -- no map has this number, and neither a table nor a pair is one of such a map
  pub record IsUnknown (map : ℕ) (m : Moment K V) : Type 0 where
    pub none : map_at map m ≡ None
    pub no_pairs : (n : ℕ) → m.place n ≡ InMap map → ⊥
    pub no_tables : tables_of map m ≡ []

  -- A map is unknown before its root is taken, and from then on, while it is made, it is there as a new one.
  abbrev pub ComesBy : Bool → Beginning K → Moment K V → Type 0
  ComesBy true b m = IsNew b.map (at_root b.given b.machine.setting.root) m
  ComesBy false b m = IsUnknown b.map m

  abbrev pub Comes : Beginning K → Moment K V → Type 0
  Comes b m = ComesBy (has_root b.machine.stands) b m

  -- the map of this number neither stands nor is made
  pub record IsGone (map : ℕ) (s : Scene K V) : Type 0 where
    pub not_there : s.maps map ≡ None
    pub not_made : (j : ℕ) (b : Beginning K) → s.makers j ≡ Some b → b.map ≢ map

  -- one of the blocks of a map that ends: a pair of it, a table, or its counter
  abbrev pub IsItsBlock : Finishing K V → ℕ → Type 0
  IsItsBlock f b =
      ((n : ℕ) × (f.chart.current n ≡ true) × (b ≡ f.blocks.pair n)) ⊎ (((t : ℕ) × (f.chart.first ≤ t) × (t < f.chart.past) × (b ≡ f.blocks.table t)) ⊎ (b ≡ f.setting.counter))

  -- A map that ends is there no more, its blocks were noted as its own, and those that it has not reclaimed are so still.
  pub record Goes (map : ℕ) (f : Finishing K V) (known : Known) (s : Scene K V) : Type 0 where
    pub gone : IsGone map s
    pub number : ℕ → ℕ
    pub first : Known
    pub notes : NotesMap map number first f.setting f.chart f.blocks
    pub still : (b : ℕ) → IsItsBlock f b → times b f.back ≡ 0 → known.roles b ≡ first.roles b

  -- All maps have numbers of their own, below a count, which are their names; and so they come and go.
  pub record MapsComeAndGo (m : Moment K V) (known : Known) (enders : ℕ → Option Ending) (s : Scene K V) : Type 0 where
    pub count : ℕ
    pub numbers : NumbersUpTo count m
    pub below : MapsAreBelow count s
    pub names : AreNamed m
    pub coming : (i : ℕ) (b : Beginning K) → s.makers i ≡ Some b → Comes b m
    pub going : (i : ℕ) (e : Ending) → enders i ≡ Some e → (f : Finishing K V) → s.enders i ≡ Some f → Goes e.map f known s

module _ {K V S : Type 0} where
  -- A map is made by a number that is unknown to the history so far, and of which no map is ending.
  abbrev pub IsByNewNumber : State K V S → Act K V S → Type 0
  IsByNewNumber x (BeginsMaking i map hasher given places) = IsUnknown map (moment x.history) × ((j : ℕ) (e : Ending) → x.now.enders j ≡ Some e → e.map ≢ map)
  IsByNewNumber x act = Unit {0}
