-- What is promised of an event as it goes on: what left its map in sections that it does not end is sheltered by these, and not reclaimed.
use Rattle.std.specs.Prelude.{◌≡◌, ℕ, Bool, true, false, List, [], ◌++◌, Option, Some, None, flat_map}
use Rattle.run_places.specs.Given.SeizeWorld.{World, Step, IsInside}
use Rattle.run_places.specs.Given.SeizeDeclared.advance.Advance.{Advance as Making}
use Rattle.run_places.specs.Given.SeizeDeclared.rows.settle.Settled.{Settled}
use Rattle.run_places.specs.Given.TablesDeclared.node.Node.{Node}
use Rattle.run_places.specs.Given.TablesDeclared.setting.Setting.{Setting}
use Rattle.run_places.specs.Given.RawDeclared.machines.progress.Progress.{Progress}
use Rattle.run_places.specs.Given.RunsPresent.{Present, nobody, guard_of, slot_of_registration, drops}
use Rattle.run_places.specs.Given.RunsDeclared.holders.NamedGuard.{NamedGuard}
use Rattle.run_places.specs.Given.RunsDeclared.effect.Effect.{Effect}
use Rattle.run_places.specs.Given.RunsDeclared.event.Event.{Event}
use Rattle.run_places.specs.Given.RunsDeclared.event.Event.TheVariants.{Register, Unregister, Enter, Own, Refresh, Flush, DropGuard, ReclaimAll, Close}
use Rattle.run_places.specs.Given.RunsDeclared.outcome.Outcome.{Outcome}
use Rattle.run_places.specs.Given.RunsDeclared.outcome.Outcome.TheVariants.{Done, Slot}
use Rattle.run_places.specs.Given.SchedulesAfter.{sheltered_on, after, moment}
use Rattle.run_places.specs.Given.SchedulesBeginning.{at_work}
use Rattle.run_places.specs.Given.SchedulesEffects.{with_effects, worked}
use Rattle.run_places.specs.Given.SchedulesEntry.{Entry, caller_of, acted_on}
use Rattle.run_places.specs.Given.SchedulesModel.{thing_back}
use Rattle.run_places.specs.Given.SchedulesMoment.{Sheltered, Moment}
use Rattle.run_places.specs.Given.SchedulesReclaims.{IsProtected}
use Rattle.run_places.specs.Given.CallersTogether.{UnderWay}
use Rattle.run_places.specs.Given.EffectsEffects.{effects_of, known_after}
use Rattle.run_places.specs.Given.EffectsKnown.{Known}
use Rattle.run_places.specs.Given.EffectsDeclared.acting.Acting.TheVariants as acts
use Rattle.run_places.specs.Given.FinishesEndings.{Finishing}
use Rattle.run_places.specs.Given.FinishesMakings.{Beginning}
use Rattle.run_places.specs.Given.ScenesDeclared.row.RowTold.{RowTold}
use Rattle.run_places.specs.Given.ScenesDeclared.row.SlotCall.{SlotCall}
use Rattle.run_places.specs.Given.ScenesDeclared.row.SlotRow.{SlotRow}
use Rattle.run_places.specs.Given.OthersMakings.{WasNew}
use Rattle.run_places.specs.Given.OthersRows.{scene_then}
use Rattle.run_places.specs.Moments.Whole.{RefinesWhole}
use Rattle.run_histories.specs.Promises.Guards.{EntersInside}
use Rattle.run_histories.specs.Promises.Others.{SparesGuards}
use Rattle.run_histories.specs.Promises.Sheltered.{GuardsAreInside, AreSheltered, SectionsHold}
use Rattle.run_histories.specs.Promises.Shelters.{NoneIsBack}
use Rattle.run_places.specs.Given.ScenesEnding.{EndingLeads}
use Rattle.run_places.specs.Given.ScenesHeld.{Held, IsAt}
use Rattle.run_places.specs.Given.ScenesMaking.{MakingLeads}
use Rattle.run_places.specs.Given.ScenesOnSlots.{RowBegins, RowLeads}
use Rattle.run_places.specs.Given.ScenesScene.{IsOnSlot, Scene, slot_of}
use Rattle.run_places.specs.Given.ScenesStepping.{StepLeads}

-- rows on slots are its work
abbrev pub is_of_slots : {K V : Type 0} → Event K V → Bool
is_of_slots (Register registration) = true
is_of_slots (Unregister registration) = true
is_of_slots (Enter guard registration) = true
is_of_slots (Own guard) = true
is_of_slots (Refresh guard) = true
is_of_slots (Flush guard) = true
is_of_slots (DropGuard guard) = true
is_of_slots ReclaimAll = true
is_of_slots Close = true
is_of_slots _ = false

-- the guards whose sections it does not end
abbrev pub there_in : {K V : Type 0} → Event K V → Present → Present
there_in (Refresh guard) there = drops guard there
there_in (DropGuard guard) there = drops guard there
there_in ReclaimAll there = nobody
there_in Close there = nobody
there_in _ there = there

-- so far rows have reclaimed nothing that is sheltered, and other work has reclaimed nothing at all
abbrev pub HasSpared : Bool → List Effect → List Sheltered → Type 0
HasSpared true done sheltered = NoneIsBack done sheltered
HasSpared false done sheltered = flat_map thing_back done ≡ []

module _ {K V : Type 0} where
  -- In the midst of an event, once it has done this: those guards are within their sections, which shelter what they do, and none of that was reclaimed.
  pub record InMidst (event : Event K V) (done : List Effect) (m : Moment K V) (known : Known) (w : World (Node K V)) : Type 0 where
    pub inside : GuardsAreInside (there_in event m.there) w
    pub sheltered : AreSheltered (there_in event m.there) w known (sheltered_on event Done m.sheltered)
    pub spared : HasSpared (is_of_slots event) done (sheltered_on event Done m.sheltered)

  module _ (w : World (Node K V)) where
    -- as it ends, a guard that has entered is within a section, and one that was refreshed within a new one; an event that ends sections was done
    abbrev pub EndsInside : Event K V → Outcome V → Present → Type 0
    EndsInside (Enter guard registration) Done there = IsInside (w.uses (slot_of_registration registration there))
    EndsInside (Own guard) (Slot s) there = IsInside (w.uses s)
    EndsInside (Refresh guard) Done there = (g : NamedGuard) × (guard_of guard there.guards ≡ Some g) × IsInside (w.uses g.slot)
    EndsInside (Refresh guard) _ there = ⊥
    EndsInside (DropGuard guard) Done there = Unit {0}
    EndsInside (DropGuard guard) _ there = ⊥
    EndsInside ReclaimAll Done there = Unit {0}
    EndsInside ReclaimAll _ there = ⊥
    EndsInside Close Done there = Unit {0}
    EndsInside Close _ there = ⊥
    EndsInside _ _ there = Unit {0}

module _ (K V : Type 0) where
  -- The promises: so it is where an event begins,
  abbrev pub EventsBeginProtected : Type 0
  EventsBeginProtected =
      (m : Moment K V) (known : Known) (w : World (Node K V)) → SectionsHold m known w → (e : Entry K V) → InMidst e.event [] (at_work e m) known w

  -- and where it ends it is protected, and the sections hold what they do.
  abbrev pub EventsEndProtected : Type 0
  EventsEndProtected =
      (log : List (Entry K V)) (e : Entry K V) (known : Known) (w : World (Node K V)) → InMidst e.event e.effects (worked e (moment log)) known w
      → EndsInside w e.event e.outcome (moment log).there → IsProtected log e × SectionsHold (after e (moment log)) known w

  -- So does one whose work is none of rows, where the moment so far has its effects,
  abbrev pub OtherEventsEndProtected : Type 0
  OtherEventsEndProtected =
      (log : List (Entry K V)) (e : Entry K V) (begun m : Moment K V) (caller : Option (List ℕ)) (map : Option ℕ) (known : Known) (w : World (Node K V))
      → is_of_slots e.event ≡ false → at_work e (moment log) ≡ begun → caller_of e.event ≡ caller → acted_on e.event begun ≡ map
      → m ≡ with_effects caller map e.effects begun → InMidst e.event e.effects m known w
      → IsProtected log e × SectionsHold (after e (moment log)) known w

  -- and one whose work is.
  abbrev pub SlotEventsEndProtected : Type 0
  SlotEventsEndProtected =
      (log : List (Entry K V)) (e : Entry K V) (m : Moment K V) (known : Known) (w : World (Node K V)) → is_of_slots e.event ≡ true
      → m ≡ with_effects None None e.effects (moment log) → InMidst e.event e.effects m known w → EndsInside w e.event e.outcome (moment log).there
      → IsProtected log e × SectionsHold (after e (moment log)) known w

  -- Where everything is reclaimed it is so, whatever is done.
  abbrev pub AllIsEndedProtected : Type 0
  AllIsEndedProtected =
      (done : List Effect) (m : Moment K V) (known : Known) (w : World (Node K V)) → InMidst ReclaimAll done m known w × InMidst Close done m known w

  -- The sections hold what they do after an event, too, that does nothing to pairs and blocks.
  abbrev pub IdleEventsAreProtected : Type 0
  IdleEventsAreProtected =
      (log : List (Entry K V)) (e : Entry K V) (known : Known) (w : World (Node K V)) → e.effects ≡ [] → SectionsHold (moment log) known w
      → EntersInside w e.event e.outcome (moment log).there → IsProtected log e × SectionsHold (after e (moment log)) known w

module _ (K V : Type 0) (same : K → K → Bool) (hash : ℕ → K → ℕ) where
  -- It goes on so by a step of a call,
  abbrev pub CallsProtect : Type 0
  CallsProtect =
      (name : ℕ → List ℕ) (m : Moment K V) (known : Known) (s : Scene K V) (old new : Held K V) → IsAt same hash old s
      → RefinesWhole same name m known s
      → (map i : ℕ) (u : UnderWay K V K) (here : s.calls map i ≡ Some u) (told : Progress (Node K V)) (leads : StepLeads same hash i told s old new)
      → (event : Event K V) → is_of_slots event ≡ false → (done : List Effect) → InMidst event done m known s.world
      → (let to = leads map u here in
      let effects = effects_of (acts.Call i map) known new.changed in
      InMidst event (done ++ effects) (with_effects (Some (name i)) (Some map) effects m) (known_after (acts.Call i map) new.changed known) to.4.w2)

  -- of a making,
  abbrev pub MakingsProtect : Type 0
  MakingsProtect =
      (name : ℕ → List ℕ) (m : Moment K V) (known : Known) (s : Scene K V) (old new : Held K V) → IsAt same hash old s
      → RefinesWhole same name m known s
      → (i : ℕ) (told : Making Setting) (leads : MakingLeads same hash i told s old new) (b : Beginning K) (here : s.makers i ≡ Some b) (of : Option ℕ)
      → WasNew b.map told m → (event : Event K V) → is_of_slots event ≡ false → (done : List Effect) → InMidst event done m known s.world
      → (let to = leads b here in
      let effects = effects_of (acts.Making b.map) known new.changed in
      InMidst event (done ++ effects) (with_effects None of effects m) (known_after (acts.Making b.map) new.changed known) to.2.step.w2)

  -- and of an end;
  abbrev pub EndingsProtect : Type 0
  EndingsProtect =
      (name : ℕ → List ℕ) (m : Moment K V) (known : Known) (s : Scene K V) (old new : Held K V) → IsAt same hash old s
      → RefinesWhole same name m known s
      → (i : ℕ) (told : Settled (Node K V)) (leads : EndingLeads same hash i told s old new) (f : Finishing K V) (here : s.enders i ≡ Some f) (map : ℕ)
      → s.maps map ≡ None → (event : Event K V) → is_of_slots event ≡ false → (done : List Effect) → InMidst event done m known s.world
      → (let to = leads f here in
      let effects = effects_of (acts.Ending map) known new.changed in
      InMidst event (done ++ effects) (with_effects None (Some map) effects m) (known_after (acts.Ending map) new.changed known) to.2.w2)

  -- where a row begins on a slot that has none of those guards, if it ends its section,
  abbrev pub RowsBeginProtect : Type 0
  RowsBeginProtect =
      (m : Moment K V) (known : Known) (s : Scene K V) (old new : Held K V) (called : SlotCall) (i : ℕ)
      → (leads : RowBegins same hash called i s old new) → (event : Event K V) → SparesGuards called (slot_of i) (there_in event m.there)
      → (done : List Effect) → InMidst event done m known s.world → InMidst event done m known leads.2.0

  -- and by a step of it.
  abbrev pub RowsProtect : Type 0
  RowsProtect =
      (name : ℕ → List ℕ) (m : Moment K V) (known : Known) (s : Scene K V) (old new : Held K V) → IsAt same hash old s
      → RefinesWhole same name m known s
      → (i : ℕ) (told : RowTold (Node K V)) (leads : RowLeads same hash i told s old new) (row : SlotRow) (here : IsOnSlot s i row)
      → (event : Event K V) → is_of_slots event ≡ true → (done : List Effect) → InMidst event done m known s.world
      → (let effects = effects_of acts.Row known new.changed in
      InMidst event (done ++ effects) (with_effects None None effects m) (known_after acts.Row new.changed known)
      (scene_then same hash (Step i) s old new (leads row here).2).world)
