-- What stays so where anything else happens than a step of a call: on a slot, to a map that is made or ends, or to a walk that goes on or is given up.
use Rattle.std.specs.Prelude.{◌≡◌, ℕ, Bool, true, false, List, [], Option, Some, None}
use Rattle.run_places.specs.Given.SeizeWorld.{Begin, Step, with_at}
use Rattle.run_places.specs.Given.SeizeDeclared.rows.settle.Settled.{Settled}
use Rattle.run_places.specs.Given.TablesDeclared.node.Node.{Node}
use Rattle.run_places.specs.Given.TablesDeclared.setting.Setting.{Setting}
use Rattle.run_places.specs.Given.RunsSame.{is_same}
use Rattle.run_places.specs.Given.SeizeDeclared.advance.Advance.{Advance}
use Rattle.run_places.specs.Given.SchedulesBeginning.{with_map}
use Rattle.run_places.specs.Given.SchedulesEffects.{with_effects, AtEachEffect}
use Rattle.run_places.specs.Given.SchedulesMoment.{MapThere, Remains, Moment}
use Rattle.run_places.specs.Given.SchedulesViews.{map_at, tables_of}
use Rattle.run_places.specs.Given.SweepsSweepPoints.{after_next}
use Rattle.run_places.specs.Given.CallersOverAll.{CallOverAll, gone_on}
use Rattle.run_places.specs.Given.CallersTogether.{UnderWay, OverAll}
use Rattle.run_places.specs.Given.EffectsEffects.{effects_of, known_after}
use Rattle.run_places.specs.Given.EffectsKnown.{Known}
use Rattle.run_places.specs.Given.EffectsDeclared.acting.Acting.TheVariants.{Row, Making, Ending}
use Rattle.run_places.specs.Given.ScenesDeclared.row.RowTold.{RowTold}
use Rattle.run_places.specs.Given.ScenesDeclared.row.SlotCall.{SlotCall}
use Rattle.run_places.specs.Given.ScenesDeclared.row.SlotRow.{SlotRow}
use Rattle.run_places.specs.Given.FinishesEndings.{Finishing}
use Rattle.run_places.specs.Given.FinishesMakings.{Beginning}
use Rattle.run_places.specs.Given.FinishesMaps.{Standing, with_call}
use Rattle.run_places.specs.Given.FollowsCalling.{NoneNamed}
use Rattle.run_places.specs.Given.OthersElsewhere.{HasSame}
use Rattle.run_places.specs.Given.OthersEndings.{ending_after, without_map}
use Rattle.run_places.specs.Given.OthersMakings.{WasNew, making_after}
use Rattle.run_places.specs.Given.OthersRows.{scene_then}
use Rattle.run_places.specs.Given.OthersWalks.{given_up}
use Rattle.run_places.specs.Moments.Endings.{IsOfIts}
use Rattle.run_places.specs.Moments.OnSlots.{HadRetired}
use Rattle.run_places.specs.Moments.Whole.{RefinesWhole}
use Rattle.run_histories.specs.Histories.AsCalled.{RefinesAsCalled}
use Rattle.run_histories.specs.Histories.Due.{RefinesPendingAnswers}
use Rattle.run_places.specs.Given.ScenesEnding.{EndingLeads, ending_begun}
use Rattle.run_places.specs.Given.ScenesHeld.{Held, IsAt}
use Rattle.run_places.specs.Given.ScenesMaking.{MakingLeads}
use Rattle.run_places.specs.Given.ScenesOnSlots.{RowBegins, RowLeads}
use Rattle.run_places.specs.Given.ScenesReplying.{AskLeads, StopLeads, scene_with, unless_stopped}
use Rattle.run_places.specs.Given.ScenesRows.{request_of}
use Rattle.run_places.specs.Given.ScenesScene.{IsOnSlot, Scene, slot_of}
use Rattle.run_places.specs.Given.SchedulesTransition.{Past}

module _ {K V : Type 0} (same : K → K → Bool) (hash : ℕ → K → ℕ) (name : ℕ → List ℕ) (P : Moment K V → Known → Scene K V → Type 0) where
  -- from a moment that shows all of a scene, and at which it is so
  abbrev pub From : (Moment K V → Known → Scene K V → Held K V → Held K V → Type 0) → Type 0
  From Then =
      (m : Moment K V) (known : Known) (s : Scene K V) (old new : Held K V) → IsAt same hash old s → RefinesWhole same name m known s → P m known s
      → Then m known s old new

  pub record StaysElsewhere : Type 0 where
    -- It stays so where a row begins on a slot, and after a step of it: a table that it reclaims was retired.
    pub rows_begin : From (λ m known s old new. (called : SlotCall) (i : ℕ)
        → (leads : RowBegins same hash called i s old new)
        → P m known (scene_then same hash (Begin i (request_of (slot_of i) called)) s old new leads.2))
    pub rows : From (λ m known s old new. (i : ℕ) (told : RowTold (Node K V)) (leads : RowLeads same hash i told s old new)
        → (row : SlotRow) (here : IsOnSlot s i row)
        → AtEachEffect HadRetired None None (effects_of Row known new.changed) m
        → P (with_effects None None (effects_of Row known new.changed) m) (known_after Row new.changed known)
        (scene_then same hash (Step i) s old new (leads row here).2))
    -- It does where the making of a map begins, where its map comes by a number of which there is no table, and after a step of it, while its map is new.
    pub makings_begin : From (λ m known s old new. (i : ℕ) (b : Beginning K)
        → (let begun = record s { makers = with_at s.makers i (Some b) } in IsAt same hash new begun → P m known begun))
    pub maps_come : From (λ m known s old new. (there : MapThere) → tables_of there.number m ≡ [] → P (with_map there m) known s)
    pub makings : From (λ m known s old new. (i : ℕ) (told : Advance Setting) (leads : MakingLeads same hash i told s old new)
        → (b : Beginning K) (here : s.makers i ≡ Some b) (of : Option ℕ) → WasNew b.map told m
        → P (with_effects None of (effects_of (Making b.map) known new.changed) m) (known_after (Making b.map) new.changed known)
        (making_after same hash s old new i b (leads b here).0 (leads b here).2.step.w2 told (leads b here).3))
    -- It does where the end of a map begins, after a step of it, by which tables of that map end alone, and once it is over: no map that stands has its name.
    pub endings_begin : From (λ m known s old new. (map i : ℕ) (standing : Standing K) → s.maps map ≡ Some standing
        → IsAt same hash new (ending_begun map i standing s) → P m known (ending_begun map i standing s))
    pub endings : From (λ m known s old new. (i : ℕ) (told : Settled (Node K V)) (leads : EndingLeads same hash i told s old new)
        → (f : Finishing K V) (here : s.enders i ≡ Some f) (map : ℕ) → s.maps map ≡ None
        → AtEachEffect (IsOfIts map) None (Some map) (effects_of (Ending map) known new.changed) m
        → P (with_effects None (Some map) (effects_of (Ending map) known new.changed) m) (known_after (Ending map) new.changed known)
        (ending_after same hash s new i f (leads f here).0 (leads f here).2.w2 (leads f here).2.deed told (leads f here).3))
    pub endings_over : From (λ m known s old new. (own : List ℕ) (remains : List Remains)
        → ((map : ℕ) (standing : Standing K) (there : MapThere) → s.maps map ≡ Some standing → map_at map m ≡ Some there → is_same there.name own ≡ false)
        → P (without_map own remains m) known s)
    -- It does where a walk that is ready goes on to its next pair as the walk that it was, and where one is given up: no call that is there then has its name.
    pub walks : From (λ m known s old new. (i : ℕ) (leads : AskLeads same hash i true s old new)
        → (map : ℕ) (o : CallOverAll) (here : s.calls map i ≡ Some (OverAll o))
        → (leads map (OverAll o) here).0 ≡ OverAll (gone_on o (after_next o.sweep)) → P m known (scene_with map i (leads map (OverAll o) here).0 s))
    pub walks_stop : From (λ m known s old new. (i : ℕ) (stopped : Bool) → StopLeads same hash i stopped s old new
        → (map : ℕ) (u : UnderWay K V K) → s.calls map i ≡ Some u
        → (let after = record s { calls = with_call s.calls map i (unless_stopped stopped u) } in
        (stopped ≡ true → NoneNamed name (name i) after) → P (given_up (name i) stopped m) known after))
    -- And it does at another moment that has the same pairs, maps, tables and calls.
    pub alike : (m m2 : Moment K V) (known : Known) (s : Scene K V) → P m known s → HasSame m m2 → P m2 known s

module _ (K V : Type 0) (same : K → K → Bool) (hash : ℕ → K → ℕ) where
  -- The promises: so do the obligations of calls,
  abbrev pub PendingAnswersStay : Type 0
  PendingAnswersStay = (name : ℕ → List ℕ) (log : Past K V) → StaysElsewhere same hash name (RefinesPendingAnswers same name log)

  -- and what those on no key are called for, told and ask.
  abbrev pub AsCalledStays : Type 0
  AsCalledStays = (name : ℕ → List ℕ) → StaysElsewhere {V = V} same hash name (RefinesAsCalled same name)
