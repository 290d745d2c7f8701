-- Events of registrations and guards, and those that reclaim everything: in the midst of one, and at its end.
use Rattle.std.specs.Prelude.{◌≡◌, ◌<◌, ◌^◌, ℕ, Bool, true, false, List, [], ◌∷◌, ◌++◌, None}
use Rattle.std.specs.List.{list_all}
use Rattle.run_grows.specs.Given.SeizeWorld.{World, Rests, Begin, Step}
use Rattle.run_grows.specs.Given.TablesDeclared.node.Node.{Node}
use Rattle.run_grows.specs.Given.RunsDeclared.effect.Effect.{Effect}
use Rattle.run_grows.specs.Given.RunsDeclared.event.Event.{Event}
use Rattle.run_grows.specs.Given.SchedulesAfter.{after, moment}
use Rattle.run_grows.specs.Given.SchedulesBeginning.{at_work}
use Rattle.run_grows.specs.Given.SchedulesEffects.{with_effects, AtEachEffect}
use Rattle.run_grows.specs.Given.SchedulesEntry.{Entry, is_busy}
use Rattle.run_grows.specs.Given.SchedulesHanding.{gives_all, is_granted, may_do}
use Rattle.run_grows.specs.Given.SchedulesInTurn.{HasRightOutcome}
use Rattle.run_grows.specs.Given.SchedulesLives.{Finds}
use Rattle.run_grows.specs.Given.SchedulesModel.{sets_in, things_in}
use Rattle.run_grows.specs.Given.SchedulesMoment.{Moment}
use Rattle.run_grows.specs.Given.SchedulesTerms.{Terms}
use Rattle.run_grows.specs.Given.EffectsEffects.{effects_of, known_after}
use Rattle.run_grows.specs.Given.EffectsKnown.{Known}
use Rattle.run_grows.specs.Given.EffectsDeclared.acting.Acting.TheVariants as acts
use Rattle.run_grows.specs.Given.ScenesDeclared.row.RowTold.{RowTold}
use Rattle.run_grows.specs.Given.ScenesDeclared.row.SlotCall.{SlotCall}
use Rattle.run_grows.specs.Given.ScenesDeclared.row.SlotRow.{SlotRow}
use Rattle.run_grows.specs.Given.OthersRows.{scene_then}
use Rattle.run_grows.specs.Given.PromisesProtected.{EndsInside, InMidst, is_of_slots, there_in}
use Rattle.run_grows.specs.Given.PromisesOthers.{SparesGuards}
use Rattle.run_grows.specs.Given.PromisesReading.{RefinesReadings}
use Rattle.run_grows.specs.Given.PromisesSheltered.{SectionsHold}
use Rattle.run_grows.specs.Given.ModelsFollows.{FollowsModel}
use Rattle.run_grows.specs.Given.ModelsNumbers.{EachIsOnce}
use Rattle.run_grows.specs.Given.ModelsOnSlots.{FollowsInRow, IsRowFor}
use Rattle.run_grows.specs.Given.FindsLittle.{ReclaimsAll}
use Rattle.run_legal.specs.CallEvents.{IsLegalBut}
use Rattle.run_legal.specs.Carried.{IsSequential, RefinesAllCalls, RefinesRun}
use Rattle.run_grows.specs.Given.ScenesHeld.{Held, IsAt}
use Rattle.run_grows.specs.Given.ScenesOnSlots.{RowBegins, RowLeads}
use Rattle.run_grows.specs.Given.ScenesRows.{request_of}
use Rattle.run_grows.specs.Given.ScenesScene.{IsOnSlot, Scene, slot_of}
use Rattle.run_grows.specs.Given.SchedulesTransition.{past}

module _ {K V : Type 0} (same : K → K → Bool) (name : ℕ → List ℕ) (terms : Terms) (log : List (Entry K V)) (event : Event K V) (i : ℕ) (called : SlotCall) (first : Known) (began : World (Node K V)) where
  -- In the midst of an event whose work is a row of caller i on its slot, which began in that world, and has done this.
  pub record InSlotEvent (done : List Effect) (m : Moment K V) (known : Known) (s : Scene K V) : Type 0 where
    pub of_slots : is_of_slots event ≡ true
    pub once : EachIsOnce first
    pub calls : RefinesAllCalls same name (past log) m known s
    pub reading : RefinesReadings name (past log) (λ j. 0) m s
    pub worked : m ≡ with_effects None None done (moment log)
    pub granted : is_granted false done ≡ true
    pub protects : InMidst event done m known s.world
    pub follows : IsSequential event log → FollowsInRow terms.batch_size terms.roots (things_in log) (sets_in terms.batch_size log) first i (request_of (slot_of i) called) began done known s.world

module _ (K V : Type 0) (same : K → K → Bool) (hash : ℕ → K → ℕ) where
  -- The promises: so it is where its row begins, on a slot that has none of the guards whose sections the event does not end, and where no call is in the midst of a row if the event comes alone;
  abbrev pub SlotEventsBegin : Type 0
  SlotEventsBegin =
      (name : ℕ → List ℕ) (terms : Terms) (log : List (Entry K V)) (known : Known) (s : Scene K V) (old new : Held K V) → IsAt same hash old s → old.batch_size ≡ terms.batch_size
      → RefinesRun same name terms log known s
      → (event : Event K V) → is_of_slots event ≡ true → (i : ℕ) (called : SlotCall) (leads : RowBegins same hash called i s old new)
      → SparesGuards called (slot_of i) (there_in event (moment log).there) → (IsSequential event log → FollowsModel terms.batch_size terms.roots log known s.world)
      → InSlotEvent same name terms log event i called known s.world [] (moment log) known (scene_then same hash (Begin i (request_of (slot_of i) called)) s old new leads.2)

  -- after each step of the row,
  abbrev pub SlotEventsContinue : Type 0
  SlotEventsContinue =
      (name : ℕ → List ℕ) (terms : Terms) (log : List (Entry K V)) (event : Event K V) (i : ℕ) (called : SlotCall) (first : Known) (began : World (Node K V)) (done : List Effect) (m : Moment K V) (known : Known) (s : Scene K V)
      → InSlotEvent same name terms log event i called first began done m known s → (old new : Held K V) → IsAt same hash old s → old.batch_size ≡ terms.batch_size
      → (said : RowTold (Node K V)) (leads : RowLeads same hash i said s old new) (row : SlotRow) (here : IsOnSlot s i row)
      → (let effects = effects_of acts.Row known new.changed in
      InSlotEvent same name terms log event i called first began (done ++ effects) (with_effects None None effects m) (known_after acts.Row new.changed known)
      (scene_then same hash (Step i) s old new (leads row here).2))

module _ (K V : Type 0) (same : K → K → Bool) where
  -- and once the row has ended the event keeps its promises, if what it did it may do, and finds what it must, if it is that row to the waiting sets, and was not kept out; the sections of guards hold
  -- what they shelter, and the sets are those of the model.
  abbrev pub SlotEventsAreLegal : Type 0
  SlotEventsAreLegal =
      (name : ℕ → List ℕ) (terms : Terms) (log : List (Entry K V)) (i : ℕ) (called : SlotCall) (first : Known) (began : World (Node K V)) (m : Moment K V) (known : Known) (s : Scene K V) (e : Entry K V)
      → InSlotEvent same name terms log e.event i called first began e.effects m known s → list_all (may_do e.event (moment log)) e.effects ≡ true
      → AtEachEffect (Finds terms None None (gives_all e.event) []) None None e.effects (moment log) → terms.batch_size < 2 ^ 64 → s.world.row i ≡ Rests
      → EndsInside s.world e.event e.outcome (moment log).there → is_busy e.outcome ≡ false
      → (IsSequential e.event log → IsRowFor (request_of (slot_of i) called) began.uses s.world.uses e.event e.outcome (at_work e (moment log)))
      → IsLegalBut same terms log e × SectionsHold (after e (moment log)) known s.world
      × ((moment (e ∷ log)).is_alone ≡ true → FollowsModel terms.batch_size terms.roots (e ∷ log) known s.world)

  -- The moment after it shows all by which the next event keeps its promises, where all is back if it reclaims all.
  abbrev pub SlotEventsEnd : Type 0
  SlotEventsEnd =
      (name : ℕ → List ℕ) (terms : Terms) (log : List (Entry K V)) (i : ℕ) (called : SlotCall) (first : Known) (began : World (Node K V)) (m : Moment K V) (known : Known) (before s : Scene K V) (e : Entry K V)
      → InSlotEvent same name terms log e.event i called first began e.effects m known s → RefinesRun same name terms log first before → HasRightOutcome terms log e → IsLegalBut same terms log e
      → SectionsHold (after e (moment log)) known s.world → ((moment (e ∷ log)).is_alone ≡ true → FollowsModel terms.batch_size terms.roots (e ∷ log) known s.world)
      → ReclaimsAll log e → RefinesRun same name terms (e ∷ log) known s
