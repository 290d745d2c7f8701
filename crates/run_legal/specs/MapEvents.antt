-- Events that make a map, or end one, and those that do nothing: in the midst of one, and at its end.
use Rattle.std.specs.Prelude.{◌≡◌, ◌<◌, ◌⊎◌, ℕ, Bool, true, false, List, [], ◌++◌, Some, None}
use Rattle.std.specs.List.{list_all}
use Rattle.run_grows.specs.Given.SeizeDeclared.advance.Advance.{Advance as Making}
use Rattle.run_grows.specs.Given.SeizeDeclared.advance.Advance.TheVariants as progress
use Rattle.run_grows.specs.Given.SeizeDeclared.rows.settle.Settled.{Settled}
use Rattle.run_grows.specs.Given.TablesDeclared.node.Node.{Node}
use Rattle.run_grows.specs.Given.TablesDeclared.setting.Setting.{Setting}
use Rattle.run_grows.specs.Given.RunsDeclared.effect.Effect.{Effect}
use Rattle.run_grows.specs.Given.RunsDeclared.event.Event.{Event}
use Rattle.run_grows.specs.Given.SchedulesAfter.{moment, after}
use Rattle.run_grows.specs.Given.SchedulesEffects.{with_effects, AtEachEffect, worked}
use Rattle.run_grows.specs.Given.SchedulesEntry.{Entry, IfCall, acting, caller_of, acted_on}
use Rattle.run_grows.specs.Given.SchedulesHanding.{is_granted, may_do, IsWhole, LeavesOf, is_clear_outcome}
use Rattle.run_grows.specs.Given.SchedulesInTurn.{is_growth}
use Rattle.run_grows.specs.Given.SchedulesLives.{Finds}
use Rattle.run_grows.specs.Given.SchedulesModel.{sets_in, things_in, changes_of, left_last, IsByModel}
use Rattle.run_grows.specs.Given.SchedulesMoment.{Moment}
use Rattle.run_grows.specs.Given.SchedulesTerms.{Terms}
use Rattle.run_grows.specs.Given.EffectsEffects.{effects_of, known_after}
use Rattle.run_grows.specs.Given.EffectsKnown.{Known}
use Rattle.run_grows.specs.Given.EffectsDeclared.acting.Acting.TheVariants as acts
use Rattle.run_grows.specs.Given.FinishesEndings.{Finishing}
use Rattle.run_grows.specs.Given.MomentsEndings.{IsOfIts}
use Rattle.run_grows.specs.Given.FinishesMakings.{Beginning}
use Rattle.run_grows.specs.Given.OthersEndings.{ending_after}
use Rattle.run_grows.specs.Given.OthersMakings.{WasNew, making_after}
use Rattle.run_grows.specs.Given.FindsLinking.{IsMadeFor}
use Rattle.run_grows.specs.Given.PromisesProtected.{InMidst, is_of_slots}
use Rattle.run_grows.specs.Given.PromisesReading.{RefinesReadings}
use Rattle.run_grows.specs.Given.ModelsEnds.{FollowsInEnd}
use Rattle.run_grows.specs.Given.ModelsMapEvents.{FollowsInMaking}
use Rattle.run_legal.specs.CallEvents.{IsLegalBut}
use Rattle.run_grows.specs.Given.SeizeWorld.{World}
use Rattle.run_grows.specs.Given.SchedulesSteps.{ReadsBriefly}
use Rattle.run_grows.specs.Given.SchedulesSweeps.{IsSwept}
use Rattle.run_grows.specs.Given.HistoriesOtherCalls.{IsIdle}
use Rattle.run_grows.specs.Given.PromisesGuards.{EntersInside}
use Rattle.run_grows.specs.Given.PromisesSheltered.{SectionsHold}
use Rattle.run_grows.specs.Given.SchedulesBeginning.{at_work}
use Rattle.run_grows.specs.Sources.Stays.{NoneBorn}
use Rattle.run_legal.specs.Carried.{IsSequential, RefinesAllCalls}
use Rattle.run_grows.specs.Given.ScenesEnding.{EndingLeads}
use Rattle.run_grows.specs.Given.ScenesHeld.{Held, IsAt}
use Rattle.run_grows.specs.Given.ScenesMaking.{MakingLeads}
use Rattle.run_grows.specs.Given.ScenesScene.{Scene}
use Rattle.run_grows.specs.Given.SchedulesTransition.{past}

module _ {K V : Type 0} (same : K → K → Bool) (name : ℕ → List ℕ) (terms : Terms) (log : List (Entry K V)) (event : Event K V) (map : ℕ) (beginning : Moment K V) where
  -- In the midst of an event whose work is that of a map which is made, or ends: what it has done finds what it must.
  pub record InMapEvent (done : List Effect) (m : Moment K V) (known : Known) (s : Scene K V) : Type 0 where
    pub of_maps : is_of_slots event ≡ false
    pub calls : RefinesAllCalls same name (past log) m known s
    pub reading : RefinesReadings name (past log) (λ j. 0) m s
    pub worked : m ≡ with_effects None (Some map) done beginning
    pub granted : is_granted false done ≡ true
    pub protects : InMidst event done m known s.world

  -- where calls came one after another, the sets are those of the model as it began, in the midst of a making, whose map has had no pair,
  abbrev pub InMakingEvent : List Effect → Moment K V → Known → Scene K V → Type 0
  InMakingEvent done m known s =
      InMapEvent done m known s × (IsSequential event log → FollowsInMaking terms.batch_size terms.roots (things_in log) (sets_in terms.batch_size log) done known s.world) × NoneBorn map m

  -- and in that of an end
  abbrev pub InEndEvent : Known → ℕ → List Effect → Moment K V → Known → Scene K V → Type 0
  InEndEvent first i done m known s =
      InMapEvent done m known s × (IsSequential event log → FollowsInEnd terms.batch_size terms.roots (things_in log) (sets_in terms.batch_size log) first i done known s.world)

-- it has not made its map
abbrev pub HasNotMade : Making Setting → Type 0
HasNotMade (progress.Done setting) = ⊥
HasNotMade said = Unit {0}

-- A step of the making of a map finds it there, as it was to be made; or it just asks for blocks, and has not made it.
abbrev pub FindsItsMap : {K V : Type 0} → Beginning K → Making Setting → List Effect → Moment K V → Type 0
FindsItsMap b said effects m = ((b.map < m.made) × IsMadeFor b.map m b.given) ⊎ (HasNotMade said × (list_all is_growth effects ≡ true))

module _ (K V : Type 0) (same : K → K → Bool) (hash : ℕ → K → ℕ) where
  -- The promises: a making goes on so, whose map is there, made for its capacity, or which just asks for blocks,
  abbrev pub MakingEventsContinue : Type 0
  MakingEventsContinue =
      (name : ℕ → List ℕ) (terms : Terms) (log : List (Entry K V)) (event : Event K V) (beginning : Moment K V) (done : List Effect) (m : Moment K V) (known : Known) (s : Scene K V) (i : ℕ) (b : Beginning K)
      (here : s.makers i ≡ Some b) → InMakingEvent same name terms log event b.map beginning done m known s → (old new : Held K V) → IsAt same hash old s
      → old.batch_size ≡ terms.batch_size → (said : Making Setting) (leads : MakingLeads same hash i said s old new) → WasNew b.map said m
      → FindsItsMap b said (effects_of (acts.Making b.map) known new.changed) m
      → (let to = leads b here in
      let effects = effects_of (acts.Making b.map) known new.changed in
      InMakingEvent same name terms log event b.map beginning (done ++ effects) (with_effects None (Some b.map) effects m) (known_after (acts.Making b.map) new.changed known)
      (making_after same hash s old new i b to.0 to.2.step.w2 said to.3))

  -- and so does an end, which takes tables of its map alone;
  abbrev pub EndEventsContinue : Type 0
  EndEventsContinue =
      (name : ℕ → List ℕ) (terms : Terms) (log : List (Entry K V)) (event : Event K V) (map : ℕ) (beginning : Moment K V) (first : Known) (done : List Effect) (m : Moment K V) (known : Known) (s : Scene K V) (i : ℕ)
      (f : Finishing K V) (here : s.enders i ≡ Some f) → s.maps map ≡ None → InEndEvent same name terms log event map beginning first i done m known s → (old new : Held K V) → IsAt same hash old s
      → old.batch_size ≡ terms.batch_size → map < m.made → (said : Settled (Node K V)) (leads : EndingLeads same hash i said s old new)
      → (let to = leads f here in
      let effects = effects_of (acts.Ending map) known new.changed in
      AtEachEffect (IsOfIts map) None (Some map) effects m
      → InEndEvent same name terms log event map beginning first i (done ++ effects) (with_effects None (Some map) effects m) (known_after (acts.Ending map) new.changed known)
      (ending_after same hash s new i f to.0 to.2.w2 to.2.deed said to.3))

-- Once its work is done such an event keeps its promises, if what it did it may do, and finds what it must, if it is whole, and by the model; the sections of guards hold what they shelter.
abbrev pub MapEventsAreLegal : (K V : Type 0) → (K → K → Bool) → Type 0
MapEventsAreLegal K V same =
    (name : ℕ → List ℕ) (terms : Terms) (log : List (Entry K V)) (map : ℕ) (beginning m : Moment K V) (known : Known) (s : Scene K V) (e : Entry K V)
    → InMapEvent same name terms log e.event map beginning e.effects m known s → list_all (may_do e.event (moment log)) e.effects ≡ true
    → AtEachEffect (Finds terms None (Some map) false []) None (Some map) e.effects beginning → caller_of e.event ≡ None → at_work e (moment log) ≡ beginning → acted_on e.event beginning ≡ Some map
    → IsWhole e.event e.outcome e.effects (moment log) (worked e (moment log)) → IsByModel terms log e → IsLegalBut same terms log e × SectionsHold (after e (moment log)) known s.world

-- And an event that does nothing to pairs, tables and blocks, and by which no call has terminated or asks, keeps its promises, if it changes no waiting sets,
-- reads briefly, does what it is for, needs no effects, and leaves nothing behind; the sections of guards hold what they shelter.
abbrev pub IdleEventsAreLegal : (K V : Type 0) → (K → K → Bool) → Type 0
IdleEventsAreLegal K V same =
    (terms : Terms) (log : List (Entry K V)) (known : Known) (w : World (Node K V)) (e : Entry K V) → e.effects ≡ [] → IsIdle e.outcome → SectionsHold (moment log) known w
    → EntersInside w e.event e.outcome (moment log).there → changes_of log e ≡ [] → left_last e.event e.outcome (moment log) ≡ [] → ReadsBriefly log e (worked e (moment log))
    → IsSwept same terms log e → IsWhole e.event e.outcome e.effects (moment log) (worked e (moment log))
    → IfCall (LeavesOf (is_clear_outcome e.outcome) e.outcome) (acting (caller_of e.event) (worked e (moment log))) → IsLegalBut same terms log e × SectionsHold (after e (moment log)) known w
