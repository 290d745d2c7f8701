-- That a history agrees with what is so where a list of acts has led.
use Rattle.std.specs.Prelude.{◌≡◌, ◌<◌, ◌^◌, ℕ, Bool, false, List, Some}
use Rattle.std.specs.List.{AllByRecursion}
use Rattle.many_acts.specs.Given.ScenesScene.{slot_of}
use Rattle.many_acts.specs.Acts.AsSteps.{IsOwn}
use Rattle.many_acts.specs.Acts.Doings.{Doing, Does, Stage, reclaiming}
use Rattle.many_acts.specs.Acts.Lists.{Course, LedTo, Reached}
use Rattle.run_schedules.specs.Deeds.Deeds.{moment}
use Rattle.play_lists.specs.Played.Play.{State, first_state, play_all}
use Rattle.play_lists.specs.Agrees.Fresh.{IsFresh, MakesNew, has_come, is_taken}
use Rattle.play_lists.specs.Agrees.Grants.{EachRefuses}
use Rattle.play_lists.specs.Agrees.Guards.{CallsHaveGuards, GuardsAgree, UnlessReclaimed}
use Rattle.play_lists.specs.Agrees.Shards.{AsksShards, ShardsAre}

-- Keys have a hash by each hasher, and each map has one by its number, and so many shards.
module _ {K S : Type 0} (V : Type 0) (same : K → K → Bool) (by_hasher : S → K → ℕ) (hash : ℕ → K → ℕ) (batch_size roots shards : ℕ) where
  -- an act is of its own, and a making is asked for with so many
  abbrev pub Asks : Doing K V S → Type 0
  Asks (Does act) = IsOwn by_hasher hash act × AsksShards shards act
  Asks doing = Unit {0}

  -- Each map has so many shards. The guards of the history are the slots within sections, unless somebody reclaims all; each call under way there has the guard of its
  -- caller's slot; each entry that was refused a growth has asked for it, and made nothing; and nothing is there of a number with which no map has come.
  pub record Agrees (p : Stage V same by_hasher batch_size roots slot_of) (x : State K V S) : Type 0 where
    pub shards_are : ShardsAre shards p.0
    pub guards : UnlessReclaimed (reclaiming V same by_hasher batch_size roots slot_of p) (GuardsAgree x p.0.world.uses)
    pub calls : CallsHaveGuards (moment x.history)
    pub refuses : EachRefuses x.history
    pub fresh : (n : ℕ) → has_come n x.history ≡ false → IsFresh n (moment x.history)

  -- The promise: so it is wherever a list has led, whatever the values are with which closures abort. And where the list makes each map with a new number, nothing is
  -- there of a number that was given back either.
  abbrev pub ListsAgree : Type 0
  ListsAgree =
      batch_size < 2 ^ 64 → (aborts : ℕ → V) (course : Course V same by_hasher batch_size roots slot_of) (doings : List (Doing K V S)) (y : Reached V same by_hasher batch_size roots slot_of)
      → LedTo V same by_hasher batch_size roots slot_of course doings y → AllByRecursion Asks doings
      → (after : State K V S) × (play_all same by_hasher batch_size roots aborts doings (first_state roots) ≡ Some after) × Agrees y.0 after
      × (MakesNew same by_hasher batch_size roots aborts doings (first_state roots) → (n : ℕ) → is_taken n after.history ≡ false → IsFresh n (moment after.history))
