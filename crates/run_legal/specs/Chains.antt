-- An event as the chain of the steps that it has taken: what is so where it begins, and stays so by each step, is so where it has come.
use Rattle.std.specs.Prelude.{◌≡◌, ◌<◌, ◌^◌, ◌+◌, ℕ, Bool, true, false, zero, suc, List, [], ◌∷◌, ◌++◌, Some, None}
use Rattle.std.specs.List.{list_all}
use Rattle.run_grows.specs.Given.SeizeWorld.{World, Request, Begin, Step, Happens, Rests, with_at}
use Rattle.run_grows.specs.Given.SeizeDeclared.advance.Advance.{Advance as Making}
use Rattle.run_grows.specs.Given.SeizeDeclared.rows.settle.Settled.{Settled}
use Rattle.run_grows.specs.Given.TablesDeclared.node.Node.{Node}
use Rattle.run_grows.specs.Given.TablesDeclared.setting.Setting.{Setting}
use Rattle.run_grows.specs.Given.RunsDeclared.effect.Effect.{Effect}
use Rattle.run_grows.specs.Given.RunsDeclared.event.Event.{Event}
use Rattle.run_grows.specs.Given.SchedulesEffects.{with_effects, AtEachEffect, worked}
use Rattle.run_grows.specs.Given.SchedulesEntry.{Entry, is_busy}
use Rattle.run_grows.specs.Given.SchedulesMoment.{Moment, MapThere}
use Rattle.run_grows.specs.Given.SchedulesTerms.{Terms}
use Rattle.run_grows.specs.Given.EffectsEffects.{effects_of, known_after}
use Rattle.run_grows.specs.Given.EffectsKnown.{Known}
use Rattle.run_grows.specs.Given.EffectsDeclared.acting.Acting.TheVariants as acts
use Rattle.run_grows.specs.Given.ScenesDeclared.row.RowTold.{RowTold}
use Rattle.run_grows.specs.Given.ScenesDeclared.row.SlotCall.{SlotCall}
use Rattle.run_grows.specs.Given.ScenesDeclared.row.SlotRow.{SlotRow}
use Rattle.run_grows.specs.Given.FinishesEndings.{Finishing}
use Rattle.run_grows.specs.Given.FinishesMakings.{Beginning, HasMade}
use Rattle.run_grows.specs.Given.MomentsEndings.{IsOfIts}
use Rattle.run_grows.specs.Given.OthersEndings.{ending_after}
use Rattle.run_grows.specs.Given.OthersMakings.{WasNew, making_after}
use Rattle.run_grows.specs.Given.OthersRows.{scene_then}
use Rattle.run_grows.specs.Given.TablesNodes.{deferred_word}
use Rattle.run_grows.specs.Given.RawDeclared.machines.progress.Progress.{Progress as CallTold}
use Rattle.run_grows.specs.Given.SchedulesModel.{things_in}
use Rattle.run_grows.specs.Given.CallersTogether.{UnderWay, HandsOver}
use Rattle.run_sweeps.specs.Purposes.Kept.{ShowsNone}
use Rattle.run_grows.specs.Given.ModelsCallEvents.{IsNoted, things_then}
use Rattle.run_legal.specs.CallEvents.{IsLegalBut}
use Rattle.run_legal.specs.MapEvents.{FindsItsMap, InEndEvent, InMakingEvent}
use Rattle.run_grows.specs.Given.SchedulesAfter.{moment}
use Rattle.run_grows.specs.Given.SchedulesBeginning.{at_work, with_map}
use Rattle.run_grows.specs.Given.SchedulesHanding.{gives_all, may_do, IsWhole}
use Rattle.run_grows.specs.Given.SchedulesInTurn.{HasRightOutcome}
use Rattle.run_grows.specs.Given.SchedulesLives.{Finds}
use Rattle.run_grows.specs.Given.PromisesOthers.{SparesGuards}
use Rattle.run_grows.specs.Given.PromisesProtected.{EndsInside, is_of_slots, there_in}
use Rattle.run_grows.specs.Given.ModelsFollows.{FollowsModel}
use Rattle.run_grows.specs.Given.ModelsOnSlots.{IsRowFor}
use Rattle.run_grows.specs.Given.FindsLittle.{ReclaimsAll}
use Rattle.run_legal.specs.Carried.{IsSequential, RefinesRun}
use Rattle.run_grows.specs.Given.RunsSame.{is_same}
use Rattle.run_grows.specs.Given.TablesDeclared.resize_mode.ResizeMode.{ResizeMode}
use Rattle.run_grows.specs.Given.RunsDeclared.event.Event.TheVariants.{EndMap, MakeMap}
use Rattle.run_grows.specs.Given.RunsDeclared.outcome.Outcome.TheVariants.{Done}
use Rattle.run_grows.specs.Given.SchedulesViews.{map_at, number_of}
use Rattle.run_grows.specs.Given.FinishesMaps.{Standing}
use Rattle.run_legal.specs.SlotEvents.{InSlotEvent}
use Rattle.run_grows.specs.Given.ScenesEnding.{EndingLeads, ending_begun}
use Rattle.run_grows.specs.Given.ScenesHeld.{Held, IsAt}
use Rattle.run_grows.specs.Given.ScenesMaking.{MakingLeads}
use Rattle.run_grows.specs.Given.ScenesOnSlots.{RowBegins, RowLeads}
use Rattle.run_grows.specs.Given.ScenesRows.{request_of}
use Rattle.run_grows.specs.Given.ScenesScene.{IsOnSlot, Scene, slot_of}
use Rattle.run_grows.specs.Given.ScenesStepping.{StepLeads, scene_after}

-- How far an event has come: what is held then, what it has done, the moment after that, what is known then, and the scene of what is held.
pub record Come (K V : Type 0) : Type 0 where
  pub held : Held K V
  pub did : List Effect
  pub now : Moment K V
  pub notes : Known
  pub scene : Scene K V

-- How far an event of a call has come: with what under way, after so many steps, too.
pub record CallCome (K V : Type 0) : Type 0 where
  pub come : Come K V
  pub under : UnderWay K V K
  pub steps : ℕ

module _ {X : Type 0} where
  -- so many steps lead from there to here
  abbrev pub Chain : (X → X → Type 0) → ℕ → X → X → Type 0
  Chain Steps zero from to = from ≡ to
  Chain Steps (suc n) from to = (mid : X) × Chain Steps n from mid × Steps mid to

module _ {K V : Type 0} (same : K → K → Bool) (hash : ℕ → K → ℕ) (terms : Terms) where
  -- A step of the row of caller i on its slot,
  pub record RowSteps (i : ℕ) (from to : Come K V) : Type 0 where
    pub is_at : IsAt same hash from.held from.scene
    pub size : from.held.batch_size ≡ terms.batch_size
    pub said : RowTold (Node K V)
    pub leads : RowLeads same hash i said from.scene from.held to.held
    pub row : SlotRow
    pub here : IsOnSlot from.scene i row
    pub comes : to ≡ record {
      held = to.held;
      did = from.did ++ effects_of acts.Row from.notes to.held.changed;
      now = with_effects None None (effects_of acts.Row from.notes to.held.changed) from.now;
      notes = known_after acts.Row to.held.changed from.notes;
      scene = scene_then same hash (Step i) from.scene from.held to.held (leads row here).2;
    }

  -- of the making of a map, which is there by its number, and new; or one that just asks for blocks,
  pub record MakingSteps (i map : ℕ) (from to : Come K V) : Type 0 where
    pub is_at : IsAt same hash from.held from.scene
    pub size : from.held.batch_size ≡ terms.batch_size
    pub said : Making Setting
    pub leads : MakingLeads same hash i said from.scene from.held to.held
    pub making : Beginning K
    pub here : from.scene.makers i ≡ Some making
    pub map_is : making.map ≡ map
    pub was_new : WasNew making.map said from.now
    pub finds : FindsItsMap making said (effects_of (acts.Making making.map) from.notes to.held.changed) from.now
    pub comes : to ≡ record {
      held = to.held;
      did = from.did ++ effects_of (acts.Making making.map) from.notes to.held.changed;
      now = with_effects None (Some making.map) (effects_of (acts.Making making.map) from.notes to.held.changed) from.now;
      notes = known_after (acts.Making making.map) to.held.changed from.notes;
      scene = making_after same hash from.scene from.held to.held i making (leads making here).0 (leads making here).2.step.w2 said (leads making here).3;
    }

  -- and of the end of one, which takes tables of its map alone.
  pub record EndSteps (i map : ℕ) (from to : Come K V) : Type 0 where
    pub is_at : IsAt same hash from.held from.scene
    pub size : from.held.batch_size ≡ terms.batch_size
    pub said : Settled (Node K V)
    pub leads : EndingLeads same hash i said from.scene from.held to.held
    pub ending : Finishing K V
    pub here : from.scene.enders i ≡ Some ending
    pub gone : from.scene.maps map ≡ None
    pub below : map < from.now.made
    pub its : AtEachEffect (IsOfIts map) None (Some map) (effects_of (acts.Ending map) from.notes to.held.changed) from.now
    pub comes : to ≡ record {
      held = to.held;
      did = from.did ++ effects_of (acts.Ending map) from.notes to.held.changed;
      now = with_effects None (Some map) (effects_of (acts.Ending map) from.notes to.held.changed) from.now;
      notes = known_after (acts.Ending map) to.held.changed from.notes;
      scene = ending_after same hash from.scene to.held i ending (leads ending here).0 (leads ending here).2.w2 (leads ending here).2.deed said (leads ending here).3;
    }

module _ {K V : Type 0} (same : K → K → Bool) (hash : ℕ → K → ℕ) (name : ℕ → List ℕ) (terms : Terms) (log : List (Entry K V)) (map i : ℕ) where
  -- A step of the call of caller i on its map, by which the call goes on: no pair of a walk is shown, and what a row hands over
  -- that begins with the step is noted.
  pub record CallSteps (from to : CallCome K V) : Type 0 where
    pub is_at : IsAt same hash from.come.held from.come.scene
    pub size : from.come.held.batch_size ≡ terms.batch_size
    pub said : CallTold (Node K V)
    pub leads : StepLeads same hash i said from.come.scene from.come.held to.come.held
    pub none : ShowsNone said
    pub noted : (here : from.come.scene.calls map i ≡ Some from.under) (request : Request) (begun : World (Node K V))
        → HandsOver (leads map from.under here).0.setting i from.come.scene.world request
        → Happens deferred_word from.come.held.batch_size (Begin i request) from.come.scene.world begun
        → Happens deferred_word from.come.held.batch_size (Step i) begun (leads map from.under here).4.w2
        → IsNoted (things_then (things_in log) from.come.did) from.come.notes (slot_of i) request
    pub goes_on : (here : from.come.scene.calls map i ≡ Some from.under) → (leads map from.under here).4.next ≡ Some to.under
    pub comes : (here : from.come.scene.calls map i ≡ Some from.under) → to ≡ record {
      come = record {
        held = to.come.held;
        did = from.come.did ++ effects_of (acts.Call i map) from.come.notes to.come.held.changed;
        now = with_effects (Some (name i)) (Some map) (effects_of (acts.Call i map) from.come.notes to.come.held.changed) from.come.now;
        notes = known_after (acts.Call i map) to.come.held.changed from.come.notes;
        scene = scene_after same from.come.scene from.come.held to.come.held map i (leads map from.under here).0 from.under (leads map from.under here).1 said (leads map from.under here).4;
      };
      under = to.under;
      steps = from.steps + 1;
    }

module _ (K V : Type 0) (same : K → K → Bool) (hash : ℕ → K → ℕ) where
  -- The promises: an event whose work is a row on a slot is in its midst wherever a chain of steps of the row has led,
  abbrev pub RowsChain : Type 0
  RowsChain =
      (name : ℕ → List ℕ) (terms : Terms) (log : List (Entry K V)) (event : Event K V) (i : ℕ) (called : SlotCall) (first : Known) (began : World (Node K V)) (n : ℕ) (from to : Come K V)
      → Chain (RowSteps same hash terms i) n from to → InSlotEvent same name terms log event i called first began from.did from.now from.notes from.scene
      → InSlotEvent same name terms log event i called first began to.did to.now to.notes to.scene

  -- and so is one that makes a map, or ends one.
  abbrev pub MakingsChain : Type 0
  MakingsChain =
      (name : ℕ → List ℕ) (terms : Terms) (log : List (Entry K V)) (event : Event K V) (i map : ℕ) (beginning : Moment K V) (n : ℕ) (from to : Come K V)
      → Chain (MakingSteps same hash terms i map) n from to → InMakingEvent same name terms log event map beginning from.did from.now from.notes from.scene
      → InMakingEvent same name terms log event map beginning to.did to.now to.notes to.scene

  abbrev pub EndsChain : Type 0
  EndsChain =
      (name : ℕ → List ℕ) (terms : Terms) (log : List (Entry K V)) (event : Event K V) (i map : ℕ) (beginning : Moment K V) (first : Known) (n : ℕ) (from to : Come K V)
      → Chain (EndSteps same hash terms i map) n from to → InEndEvent same name terms log event map beginning first i from.did from.now from.notes from.scene
      → InEndEvent same name terms log event map beginning first i to.did to.now to.notes to.scene

  -- So an event whose row has begun, and has run to its end, is legal but for what it comes to, and a run goes on with it, if what it did it may do, and finds what it must, if it is that row to the
  -- waiting sets, was not kept out, leaves its guards within their sections, and all is back if it reclaims all.
  abbrev pub RowsRunToTheirEnds : Type 0
  RowsRunToTheirEnds =
      (name : ℕ → List ℕ) (terms : Terms) (log : List (Entry K V)) (known : Known) (s : Scene K V) (old new : Held K V) → IsAt same hash old s → old.batch_size ≡ terms.batch_size
      → terms.batch_size < 2 ^ 64 → RefinesRun same name terms log known s
      → (e : Entry K V) → is_of_slots e.event ≡ true → (i : ℕ) (called : SlotCall) (leads : RowBegins same hash called i s old new)
      → SparesGuards called (slot_of i) (there_in e.event (moment log).there) → (IsSequential e.event log → FollowsModel terms.batch_size terms.roots log known s.world)
      → (n : ℕ) (to : Come K V)
      → Chain (RowSteps same hash terms i) n (record {
        held = new;
        did = [];
        now = moment log;
        notes = known;
        scene = scene_then same hash (Begin i (request_of (slot_of i) called)) s old new leads.2;
      }) to
      → to.did ≡ e.effects → to.scene.world.row i ≡ Rests → EndsInside to.scene.world e.event e.outcome (moment log).there → is_busy e.outcome ≡ false
      → list_all (may_do e.event (moment log)) e.effects ≡ true → AtEachEffect (Finds terms None None (gives_all e.event) []) None None e.effects (moment log)
      → (IsSequential e.event log → IsRowFor (request_of (slot_of i) called) s.world.uses to.scene.world.uses e.event e.outcome (at_work e (moment log)))
      → HasRightOutcome terms log e → ReclaimsAll log e → IsLegalBut same terms log e × RefinesRun same name terms (e ∷ log) to.notes to.scene

  -- So it is of an event that makes a map, whose making has come to its end, if what it did it may do, and finds what it must, and if it is whole;
  abbrev pub MakingsRunToTheirEnds : Type 0
  MakingsRunToTheirEnds =
      (name : ℕ → List ℕ) (terms : Terms) (log : List (Entry K V)) (known : Known) (s : Scene K V) (old new : Held K V) → IsAt same hash old s → RefinesRun same name terms log known s
      → (own : List ℕ) (mode : ResizeMode) (capacity : ℕ) (there : MapThere) → there.number ≡ (moment log).made → (i : ℕ) (b : Beginning K) → s.makers i ≡ None → b.map ≡ there.number
      → (HasMade b.machine.stands → ⊥) → (IsSequential (MakeMap own mode capacity) log → FollowsModel terms.batch_size terms.roots log known s.world)
      → IsAt same hash new (record s { makers = with_at s.makers i (Some b) }) → (n : ℕ) (to : Come K V)
      → Chain (MakingSteps same hash terms i b.map) n (record {
        held = new;
        did = [];
        now = with_map there (moment log);
        notes = known;
        scene = record s { makers = with_at s.makers i (Some b) };
      }) to
      → (steps : ℕ) (effects : List Effect) → to.did ≡ effects
      → (let e : Entry K V = record { event = MakeMap own mode capacity; outcome = Done; steps = steps; effects = effects } in
      at_work e (moment log) ≡ with_map there (moment log) → number_of own (with_map there (moment log)) ≡ Some b.map → list_all (may_do e.event (moment log)) effects ≡ true
      → AtEachEffect (Finds terms None (Some b.map) false []) None (Some b.map) effects (with_map there (moment log))
      → IsWhole e.event e.outcome effects (moment log) (worked e (moment log)) → HasRightOutcome terms log e → IsLegalBut same terms log e × RefinesRun same name terms (e ∷ log) to.notes to.scene)

  -- and of one that ends a map, whose end is over, if no map that stands then has its name.
  abbrev pub EndsRunToTheirEnds : Type 0
  EndsRunToTheirEnds =
      (name : ℕ → List ℕ) (terms : Terms) (log : List (Entry K V)) (known : Known) (s : Scene K V) (old new : Held K V) → IsAt same hash old s → RefinesRun same name terms log known s
      → terms.batch_size < 2 ^ 64 → (own : List ℕ) (map i : ℕ) (standing : Standing K) → s.maps map ≡ Some standing → s.enders i ≡ None → IsAt same hash new (ending_begun map i standing s)
      → (IsSequential (EndMap own) log → FollowsModel terms.batch_size terms.roots log known s.world) → (n : ℕ) (to : Come K V)
      → Chain (EndSteps same hash terms i map) n (record { held = new; did = []; now = moment log; notes = known; scene = ending_begun map i standing s }) to → IsAt same hash to.held to.scene
      → (steps : ℕ) (effects : List Effect) → to.did ≡ effects → number_of own (moment log) ≡ Some map → to.scene.enders i ≡ None
      → ((k : ℕ) (st : Standing K) (there : MapThere) → to.scene.maps k ≡ Some st → map_at k to.now ≡ Some there → is_same there.name own ≡ false)
      → (let e : Entry K V = record { event = EndMap own; outcome = Done; steps = steps; effects = effects } in
      list_all (may_do e.event (moment log)) effects ≡ true → AtEachEffect (Finds terms None (Some map) false []) None (Some map) effects (moment log)
      → IsWhole e.event e.outcome effects (moment log) (worked e (moment log)) → HasRightOutcome terms log e → IsLegalBut same terms log e × RefinesRun same name terms (e ∷ log) to.notes to.scene)
