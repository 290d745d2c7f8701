-- Where an executor is by acts, in the midst of an event: a list of acts has led there by every course, and what it comes to as it is played.
use Rattle.std.specs.Prelude.{◌≡◌, ℕ, Bool, List, None, Some}
use Rattle.std.specs.List.{AllByRecursion}
use Rattle.many_acts.specs.Given.ScenesScene.{slot_of}
use Rattle.run_kept.specs.Given.EffectsKnown.{Known}
use Rattle.run_finds.specs.Given.ExecutorIsThere.{IsThere}
use Rattle.run_finds.specs.Given.ExecutorDeclared.executor.Executor.{Executor}
use Rattle.many_acts.specs.Acts.Doings.{Doing, Stage, reclaiming}
use Rattle.many_acts.specs.Acts.Lists.{Course, LedTo, Reached}
use Rattle.play_lists.specs.Agrees.Places.{AsksMaps}
use Rattle.play_lists.specs.Played.Play.{State, first_state, play_all}
use Rattle.play_lists.specs.Agrees.Fresh.{MakesNew}

module _ {K V S : Type 0} (same : K → K → Bool) (by_hasher : S → K → ℕ) (hasher : S) (batch_size roots shards : ℕ) where
  -- Played so far, with what closures abort with, and with what is known of the blocks, this is so of the state.
  pub record PlaysTo (P : State K V S → Type 0) (doings : List (Doing K V S)) (noted : Known) : Type 0 where
    pub aborts : ℕ → V
    pub after : State K V S
    pub plays : play_all same by_hasher batch_size roots aborts doings (first_state roots) ≡ Some after
    pub new : MakesNew same by_hasher batch_size roots aborts doings (first_state roots)
    pub knows : after.known ≡ noted
    pub so : P after

  -- A list of acts leads by every course to where this is so; and whatever value there is at all, the list is played to what is so.
  pub record LeadsTo (Stands : Stage V same by_hasher batch_size roots slot_of → Type 0) (P : State K V S → Type 0) (noted : Known) : Type 0 where
    pub doings : List (Doing K V S)
    pub asks : AllByRecursion (AsksMaps V by_hasher (λ map. by_hasher hasher) shards) doings
    pub leads : (course : Course V same by_hasher batch_size roots slot_of) → (y : Reached V same by_hasher batch_size roots slot_of)
        × LedTo V same by_hasher batch_size roots slot_of course doings y × Stands y.0
    pub played : V → PlaysTo P doings noted

  -- The executor is where a list of acts leads by every course, while nobody reclaims all; and whatever value there is at all, the list is played to what is so.
  pub record Reach (P : State K V S → Type 0) (e : Executor K V S) (noted : Known) : Type 0 where
    pub hasher_is : e.hasher ≡ hasher
    pub size : e.batch_size ≡ batch_size
    pub roots_are : e.roots ≡ roots
    pub doings : List (Doing K V S)
    pub asks : AllByRecursion (AsksMaps V by_hasher (λ map. by_hasher hasher) shards) doings
    pub leads : (course : Course V same by_hasher batch_size roots slot_of) → (y : Reached V same by_hasher batch_size roots slot_of)
        × LedTo V same by_hasher batch_size roots slot_of course doings y × (reclaiming V same by_hasher batch_size roots slot_of y.0 ≡ None) × IsThere same (by_hasher hasher) e y.0.0
    pub played : V → PlaysTo P doings noted
