-- That the log of a run is the grouping of a history: the history can be cut into consecutive pieces, one for each entry of the log, and each piece is of its entry.
use Rattle.std.specs.Prelude.{◌≡◌, ◌≢◌, ◌⊎◌, ◌==◌, not, ℕ, Bool, true, false, List, [], ◌∷◌, ◌++◌, filter, find, length, Option, Some, option_map}
use Rattle.std.specs.List.{AllByRecursion}
use Rattle.run_schedules.specs.Runs.Present.{guard_of, guards_on, living_slot, registration_of}
use Rattle.run_schedules.specs.Runs.Same.{is_same}
use Rattle.run_schedules.specs.declared.effect.Effect.{Effect}
use Rattle.run_schedules.specs.declared.event.Event.{Event}
use Rattle.run_schedules.specs.declared.event.Event.TheVariants as event
use Rattle.run_schedules.specs.declared.outcome.Outcome.{Outcome}
use Rattle.run_schedules.specs.declared.outcome.Outcome.TheVariants as outcome
use Rattle.run_schedules.specs.Schedules.After.{moment}
use Rattle.run_schedules.specs.Schedules.Entry.{Entry, nameless}
use Rattle.run_schedules.specs.Schedules.Moment.{Moment}
use Rattle.run_schedules.specs.Schedules.Views.{number_of}
use Rattle.run_finds.specs.Given.NamedPlaces.{first_places}
use Rattle.run_schedules.specs.Deeds.Deeds.{Deed, Begins, Steps, Replies, Stops, Registers, Opens, Shuts, Leaves, Tends, MapComes, Makes, MapFails, Ends, MapGoes, ReclaimsAll, Entry as Act}

-- In a run callers have names, and in a history numbers: by which number each name goes, the newest first. A number goes by one name.
abbrev pub Names : Type 0
Names = List (List ℕ × ℕ)

abbrev pub number_called : List ℕ → Names → Option ℕ
number_called own names = option_map (λ it. it.1) (find (λ it. is_same it.0 own) names)

-- without whoever went by it so far
abbrev pub without_number : ℕ → Names → Names
without_number i names = filter (λ it. not (it.1 == i)) names

-- whether an event was refused; and whether its call stands where it asks, or is ready
abbrev pub refuses : {V : Type 0} → Outcome V → Bool
refuses (outcome.Refused fault) = true
refuses _ = false

abbrev pub stands_still : {V : Type 0} → Outcome V → Bool
stands_still (outcome.Asks question) = true
stands_still outcome.Ready = true
stands_still _ = false

module _ {K V : Type 0} where
  -- whose call an event begins, if it begins one
  abbrev pub beginner_of : Event K V → List ℕ
  beginner_of (event.Begin caller guard map call) = caller
  beginner_of _ = nameless

  -- who begins a call in a piece goes by its number from then on, and nobody else does
  abbrev pub names_on : Event K V → Deed K V → Names → Names
  names_on e (Begins i slot map call) names = (beginner_of e, i) ∷ without_number i names
  names_on e deed names = names

  abbrev pub names_after : Event K V → List (Act K V) → Names → Names
  names_after e [] names = names
  names_after e (x ∷ piece) names = names_on e x.deed (names_after e piece names)

  -- At this moment, with these names, an event may have a deed: on its caller's call, on the slot of its guard or registration, on the map of its name.
  module _ (names : Names) (m : Moment K V) where
    abbrev pub IsCalled : List ℕ → ℕ → Type 0
    IsCalled own i = number_called own names ≡ Some i

    abbrev pub IsUnder : List ℕ → ℕ → Type 0
    IsUnder guard slot = living_slot (guard_of guard m.there.guards) ≡ Some slot

    abbrev pub IsRegistered : List ℕ → ℕ → Type 0
    IsRegistered registration slot = option_map (λ r. r.slot) (registration_of registration m.there.registrations) ≡ Some slot

    abbrev pub IsMapOf : List ℕ → ℕ → Type 0
    IsMapOf name map = number_of name m ≡ Some map

    abbrev pub MayHave : Event K V → Deed K V → Type 0
    -- a call begins, takes steps, is told a reply, or is given up
    MayHave (event.Begin caller guard name call) (Begins i slot map asked) = IsCalled caller i × IsUnder guard slot × IsMapOf name map × (asked ≡ call)
    MayHave (event.OneCall guard name call) (Begins i slot map asked) = IsCalled nameless i × IsUnder guard slot × IsMapOf name map × (asked ≡ call)
    MayHave (event.OneCall guard name call) (Steps i) = IsCalled nameless i
    MayHave (event.Step caller refuse) (Steps i) = IsCalled caller i
    MayHave (event.Go caller refuse) (Steps i) = IsCalled caller i
    MayHave (event.Next caller) (Steps i) = IsCalled caller i
    MayHave (event.Replied caller reply) (Replies i told) = IsCalled caller i × (told ≡ reply)
    MayHave (event.Stop caller) (Stops i) = IsCalled caller i
    -- a slot is looked for, one after another, and taken; it is entered, left, refreshed, given up, or its batch is flushed
    MayHave (event.Register registration) (Registers slot) = Unit {0}
    MayHave (event.Own guard) (Registers slot) = Unit {0}
    MayHave (event.Own guard) (Opens slot) = Unit {0}
    MayHave (event.Enter guard registration) (Opens slot) = IsRegistered registration slot
    MayHave (event.Refresh guard) (Shuts slot) = IsUnder guard slot
    MayHave (event.Refresh guard) (Leaves slot) = IsUnder guard slot
    MayHave (event.Refresh guard) (Opens slot) = IsUnder guard slot
    MayHave (event.DropGuard guard) (Shuts slot) = IsUnder guard slot
    MayHave (event.DropGuard guard) (Leaves slot) = IsUnder guard slot
    MayHave (event.Flush guard) (Tends slot) = IsUnder guard slot
    MayHave (event.Unregister registration) (Tends slot) = IsRegistered registration slot
    -- the map is made that comes next, of this mode and with as many places at first; one ends; all is reclaimed
    MayHave (event.MakeMap name mode capacity) (MapComes map root its given) = (map ≡ m.made) × (its ≡ mode) × (first_places given ≡ first_places capacity)
    MayHave (event.MakeMap name mode capacity) (Makes map) = map ≡ m.made
    MayHave (event.MakeMap name mode capacity) (MapFails map) = map ≡ m.made
    MayHave (event.EndMap name) (Ends map) = IsMapOf name map
    MayHave (event.EndMap name) (MapGoes map) = IsMapOf name map
    MayHave event.ReclaimAll (ReclaimsAll last) = Unit {0}
    MayHave event.Close (ReclaimsAll last) = Unit {0}
    -- and of no other event there is any
    MayHave e deed = ⊥

  -- what a piece, the newest first, has done; how many steps of a call it has; and what it has come to, if there is any
  abbrev pub effects_in : List (Act K V) → List Effect
  effects_in [] = []
  effects_in (x ∷ piece) = effects_in piece ++ x.effects

  abbrev pub is_step : Deed K V → Bool
  is_step (Steps i) = true
  is_step deed = false

  abbrev pub steps_in : List (Act K V) → ℕ
  steps_in piece = length (filter (λ x. is_step x.deed) piece)

  -- Which events have no act: it is refused; its call asks, or is ready, as before; it acts on no memory, or gives it a choice; or other guards are on its slot.
  abbrev pub acts_on_none : Event K V → Bool
  acts_on_none (event.Collector setup) = true
  acts_on_none (event.Hash by) = true
  acts_on_none (event.Choose choice) = true
  acts_on_none (event.ShowShape map) = true
  acts_on_none (event.Forget guard) = true
  acts_on_none _ = false

  abbrev pub asks_for_steps : Event K V → Bool
  asks_for_steps (event.Step caller refuse) = true
  asks_for_steps (event.Go caller refuse) = true
  asks_for_steps _ = false

  abbrev pub IsShared : Moment K V → Event K V → Type 0
  IsShared m (event.Unregister registration) =
      (slot : ℕ) × (option_map (λ r. r.slot) (registration_of registration m.there.registrations) ≡ Some slot) × (guards_on slot m.there.guards ≢ 0)
  IsShared m (event.Enter guard registration) =
      (slot : ℕ) × (option_map (λ r. r.slot) (registration_of registration m.there.registrations) ≡ Some slot) × (guards_on slot m.there.guards ≢ 0)
  IsShared m (event.Refresh guard) = (slot : ℕ) × (living_slot (guard_of guard m.there.guards) ≡ Some slot) × (guards_on slot m.there.guards ≢ 1)
  IsShared m (event.DropGuard guard) = (slot : ℕ) × (living_slot (guard_of guard m.there.guards) ≡ Some slot) × (guards_on slot m.there.guards ≢ 1)
  IsShared m _ = ⊥

  abbrev pub MayRest : Moment K V → Event K V → Outcome V → Type 0
  MayRest m e outcome =
      (refuses outcome ≡ true) ⊎ ((acts_on_none e ≡ true) ⊎ (((asks_for_steps e ≡ true) × (stands_still outcome ≡ true)) ⊎ IsShared m e))

  abbrev pub HasOutcome : Moment K V → Event K V → List (Act K V) → Outcome V → Type 0
  HasOutcome m e [] outcome = MayRest m e outcome
  HasOutcome m e (x ∷ piece) outcome = outcome ≡ x.outcome

  -- A piece is of an entry: it has done, one after another, what the event did, has as many steps, and its last one came to what the event came to, or the
  -- event may be of none; and it may have each of its deeds.
  pub record IsPieceOf (names : Names) (m : Moment K V) (e : Entry K V) (piece : List (Act K V)) : Type 0 where
    pub effects : e.effects ≡ effects_in piece
    pub steps : e.steps ≡ steps_in piece
    pub outcome : HasOutcome m e.event piece e.outcome
    pub deeds : AllByRecursion (λ x. MayHave names m e.event x.deed) piece

  -- The log is the grouping of the history, and callers go by these names: the newest entry is one of the last piece, and the log before it is that of what was before.
  abbrev pub IsGroupingOf : List (Entry K V) → List (Act K V) → Names → Type 0
  IsGroupingOf [] history names = (history ≡ []) × (names ≡ [])
  IsGroupingOf (e ∷ log) history names =
      (piece before : List (Act K V)) × (known : Names) × (history ≡ piece ++ before) × (names ≡ names_after e.event piece known)
      × IsPieceOf names (moment log) e piece × IsGroupingOf log before known
