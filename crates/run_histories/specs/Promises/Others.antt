-- What is promised of what left its map, where anything else happens than a step of a call or of a row: it is sheltered still.
use Rattle.std.specs.Prelude.{◌≡◌, ℕ, Bool, List, [], Option, Some, None, flat_map}
use Rattle.run_places.specs.Given.SeizeWordsMem.{Mem}
use Rattle.run_places.specs.Given.SeizeLaw.{Ended}
use Rattle.run_places.specs.Given.SeizeWorld.{World, with_effect}
use Rattle.run_places.specs.Given.SeizeDeclared.advance.Advance.{Advance}
use Rattle.run_places.specs.Given.SeizeDeclared.rows.settle.Settled.{Settled}
use Rattle.run_places.specs.Given.TablesDeclared.node.Node.{Node}
use Rattle.run_places.specs.Given.TablesDeclared.setting.Setting.{Setting}
use Rattle.run_places.specs.Given.RunsPresent.{Present, guard_of}
use Rattle.run_places.specs.Given.RunsDeclared.holders.NamedGuard.{NamedGuard}
use Rattle.run_places.specs.Given.RunsDeclared.call.Call.{Call}
use Rattle.run_places.specs.Given.RunsDeclared.call.Reply.{Reply}
use Rattle.run_places.specs.Given.RunsDeclared.outcome.Outcome.{Outcome}
use Rattle.run_places.specs.Given.SchedulesBeginning.{with_call, with_map}
use Rattle.run_places.specs.Given.SchedulesEffects.{with_effects}
use Rattle.run_places.specs.Given.SchedulesModel.{thing_back}
use Rattle.run_places.specs.Given.SchedulesMoment.{MapThere, Remains, Sheltered, Moment}
use Rattle.run_places.specs.Given.EffectsEffects.{effects_of, known_after}
use Rattle.run_places.specs.Given.EffectsKnown.{Known}
use Rattle.run_places.specs.Given.EffectsDeclared.acting.Acting.TheVariants as acts
use Rattle.run_places.specs.Given.FinishesEndings.{Finishing}
use Rattle.run_places.specs.Given.FinishesMakings.{Beginning}
use Rattle.run_places.specs.Given.ScenesDeclared.row.SlotCall.{SlotCall}
use Rattle.run_places.specs.Given.ScenesDeclared.row.SlotCall.TheVariants as call
use Rattle.run_places.specs.Given.FollowsCalling.{told as told_so, come_to}
use Rattle.run_places.specs.Given.OthersEndings.{without_map}
use Rattle.run_places.specs.Given.OthersMakings.{WasNew}
use Rattle.run_places.specs.Given.OthersWalks.{given_up}
use Rattle.run_places.specs.Moments.Whole.{RefinesWhole}
use Rattle.run_histories.specs.Promises.Sheltered.{GuardsAreInside, AreSheltered, SectionsHold}
use Rattle.run_places.specs.Given.ScenesEnding.{EndingLeads}
use Rattle.run_places.specs.Given.ScenesHeld.{Held, IsAt}
use Rattle.run_places.specs.Given.ScenesMaking.{MakingLeads}
use Rattle.run_places.specs.Given.ScenesOnSlots.{RowBegins}
use Rattle.run_places.specs.Given.ScenesScene.{Scene, slot_of}

-- no guard that is there is on this slot
abbrev pub NobodyOn : ℕ → Present → Type 0
NobodyOn slot there = (own : List ℕ) (g : NamedGuard) → guard_of own there.guards ≡ Some g → g.slot ≡ slot → ⊥

-- a row that ends the section of this slot ends no guard's
abbrev pub SparesGuards : SlotCall → ℕ → Present → Type 0
SparesGuards call.Leave slot there = NobodyOn slot there
SparesGuards call.LeaveOwned slot there = NobodyOn slot there
SparesGuards call.Refresh slot there = NobodyOn slot there
SparesGuards _ slot there = Unit {0}

module _ (K V : Type 0) (same : K → K → Bool) (hash : ℕ → K → ℕ) where
  -- The promises: a step of the making of a map leaves guards within their sections, and sheltered what is so; it reclaims nothing.
  abbrev pub MakingsShelter : Type 0
  MakingsShelter =
      (name : ℕ → List ℕ) (m : Moment K V) (known : Known) (s : Scene K V) (old new : Held K V) → IsAt same hash old s
      → RefinesWhole same name m known s
      → (i : ℕ) (told : Advance Setting) (leads : MakingLeads same hash i told s old new) (b : Beginning K) (here : s.makers i ≡ Some b)
      → (of : Option ℕ) → WasNew b.map told m → SectionsHold m known s.world
      → (let to = leads b here in
      let effects = effects_of (acts.Making b.map) known new.changed in
      GuardsAreInside m.there to.2.step.w2
      × AreSheltered m.there to.2.step.w2 (known_after (acts.Making b.map) new.changed known) (with_effects None of effects m).sheltered
      × (flat_map thing_back effects ≡ []))

  -- So does one of the end of a map, which takes blocks away.
  abbrev pub EndingsShelter : Type 0
  EndingsShelter =
      (name : ℕ → List ℕ) (m : Moment K V) (known : Known) (s : Scene K V) (old new : Held K V) → IsAt same hash old s
      → RefinesWhole same name m known s
      → (i : ℕ) (told : Settled (Node K V)) (leads : EndingLeads same hash i told s old new) (f : Finishing K V) (here : s.enders i ≡ Some f) (map : ℕ)
      → s.maps map ≡ None → SectionsHold m known s.world
      → (let to = leads f here in
      let effects = effects_of (acts.Ending map) known new.changed in
      GuardsAreInside m.there to.2.w2
      × AreSheltered m.there to.2.w2 (known_after (acts.Ending map) new.changed known) (with_effects None (Some map) effects m).sheltered
      × (flat_map thing_back effects ≡ []))

  -- Where a row begins on a slot, they do so, too, if it ends the section of none of them.
  abbrev pub RowsBeginShelter : Type 0
  RowsBeginShelter =
      (s : Scene K V) (old new : Held K V) (called : SlotCall) (i : ℕ)
      → (leads : RowBegins same hash called i s old new) → (there : Present) → SparesGuards called (slot_of i) there → GuardsAreInside there s.world
      → (known : Known) (sheltered : List Sheltered) → AreSheltered there s.world known sheltered
      → (let then = leads.2.0 in GuardsAreInside there then × AreSheltered there then known sheltered)

module _ {K V : Type 0} (m : Moment K V) (known : Known) (w : World (Node K V)) where
  -- They hold what they held where a call begins, is told a reply or comes to an outcome, and where one is given up;
  pub record HoldByCalls : Type 0 where
    pub begins : (own guard : List ℕ) (call : Call K V) (map : Option ℕ) → SectionsHold (with_call own guard call map m) known w
    pub takes : (own : List ℕ) (reply : Reply V) → SectionsHold (told_so own reply m) known w
    pub comes_to : (own : List ℕ) (outcome : Outcome V) (steps : ℕ) → SectionsHold (come_to own outcome steps m) known w
    pub stops : (own : List ℕ) (stopped : Bool) → SectionsHold (given_up own stopped m) known w

  -- where a map comes, where its owner ends, as its end begins, and where that is over; whatever the memory has.
  pub record HoldByMaps : Type 0 where
    pub comes : (there : MapThere) → SectionsHold (with_map there m) known w
    pub ends : (owner : ℕ) → SectionsHold m known (with_effect w (Ended owner))
    pub over : (own : List ℕ) (remains : List Remains) → SectionsHold (without_map own remains m) known w
    pub has : (memory : Mem (Node K V)) → SectionsHold m known (record w { memory = memory })

-- The promise: so it is.
abbrev pub SectionsContinue : Type 0 → Type 0 → Type 0
SectionsContinue K V = (m : Moment K V) (known : Known) (w : World (Node K V)) → SectionsHold m known w → HoldByCalls m known w × HoldByMaps m known w
