-- What is promised of links: wherever a list of acts on maps has led, the world is tied, and what a step unlinks no link names any more.
use Rattle.std.specs.Prelude.{ℕ, Bool, List}
use Rattle.many_acts.specs.Acts.Acts.{Act, Answer}
use Rattle.many_acts.specs.Acts.Doings.{Doing, MayDo}
use Rattle.many_acts.specs.Acts.Leads.{MayBe, AllStand, Led}
use Rattle.many_acts.specs.Acts.Lists.{Course, Reached, LedTo}
use Rattle.many_acts.specs.Carries.Lists.{AreTheirs}
use Rattle.many_acts.specs.Links.Tied.{IsTied, IsHeldInside, AllAreClosed, UnlinksWhatNoneNames}
use Rattle.run_shows.specs.Scenes.Scene.{Scene}

module _ {K S : Type 0} (V : Type 0) (same : K → K → Bool) (hash : S → K → ℕ) (batch_size roots : ℕ) (slot : ℕ → ℕ) where
  -- The promise of a scene: where the invariant of all holds, and each block behind which something may be put is somebody's, the world is tied.
  abbrev pub ScenesAreTied : Type 0
  ScenesAreTied = (s : Scene K V) → AllStand same hash batch_size roots slot s → AreTheirs s → IsTied s.world s.maps

  -- What a caller sees of a map is closed, where the invariant of all holds.
  abbrev pub ScenesAreClosed : Type 0
  ScenesAreClosed = (s : Scene K V) → AllStand same hash batch_size roots slot s → AllAreClosed s.world s.maps

  -- The promise of one act.
  abbrev pub ActsUnlink : Type 0
  ActsUnlink =
      (s n : Scene K V) → AllStand same hash batch_size roots slot s → AllStand same hash batch_size roots slot n → AreTheirs s → (act : Act K V S)
      → MayBe same hash batch_size roots slot act s → (told : Answer K V) → Led same hash batch_size roots slot act s told n → UnlinksWhatNoneNames s.world n.world n.maps

  module _ (course : Course V same hash batch_size roots slot) where
    -- The promise: wherever a list of acts has led, what links lead to can be reached.
    abbrev pub ListsAreTied : Type 0
    ListsAreTied = (doings : List (Doing K V S)) (x : Reached V same hash batch_size roots slot) → LedTo V same hash batch_size roots slot course doings x → IsTied x.0.0.world x.0.0.maps

    -- Each section that is open there holds it.
    abbrev pub ListsHold : Type 0
    ListsHold = (doings : List (Doing K V S)) (x : Reached V same hash batch_size roots slot) → LedTo V same hash batch_size roots slot course doings x → IsHeldInside x.0.0.world x.0.0.maps

    -- And what one more step unlinks no links lead to then.
    abbrev pub ListsUnlink : Type 0
    ListsUnlink =
        (doings : List (Doing K V S)) (x : Reached V same hash batch_size roots slot) → LedTo V same hash batch_size roots slot course doings x
        → (doing : Doing K V S) (may : MayDo V same hash batch_size roots slot doing x.0)
        → UnlinksWhatNoneNames x.0.0.world (course.next x.0 doing may).0.world (course.next x.0 doing may).0.maps

    abbrev pub ListsAreClosed : Type 0
    ListsAreClosed = (doings : List (Doing K V S)) (x : Reached V same hash batch_size roots slot) → LedTo V same hash batch_size roots slot course doings x → AllAreClosed x.0.0.world x.0.0.maps
