-- What is promised of the effects of each step of a call: they find the parts.
use Rattle.std.specs.Prelude.{◌≡◌, ℕ, ◌+◌, Bool, true, List, Some}
use Rattle.std.specs.List.{list_all}
use Rattle.run_blocks.specs.Given.TablesDeclared.node.Node.{Node}
use Rattle.run_executor.specs.Given.RawDeclared.machines.progress.Progress.{Progress}
use Rattle.run_executor.specs.Given.RunsPresent.{slot_of_guard}
use Rattle.run_executor.specs.Given.SchedulesEffects.{AtEachEffect}
use Rattle.run_executor.specs.Given.SchedulesHanding.{is_call_effect}
use Rattle.run_executor.specs.Given.SchedulesMoment.{UnderWay as CallThere, Moment}
use Rattle.run_executor.specs.Given.SchedulesTerms.{Terms, shards_of}
use Rattle.run_executor.specs.Given.SchedulesViews.{call_of}
use Rattle.run_executor.specs.Given.CallersTogether.{UnderWay}
use Rattle.run_executor.specs.Given.EffectsEffects.{effects_of}
use Rattle.run_executor.specs.Given.EffectsKnown.{Known}
use Rattle.run_executor.specs.Given.EffectsDeclared.acting.Acting.TheVariants as acts
use Rattle.run_executor.specs.Given.FollowsFinds.{FindsMap}
use Rattle.run_executor.specs.Given.MomentsWhole.{RefinesWhole}
use Rattle.run_blocks.specs.Owes.Looking.{RefinesLooking}
use Rattle.run_blocks.specs.Owes.Made.{RefinesMade}
use Rattle.run_blocks.specs.Owes.Short.{RefinesShort}
use Rattle.run_blocks.specs.Owes.Tables.{RefinesOwnTables}
use Rattle.run_blocks.specs.Given.SettlesCounts.{RefinesCounts}
use Rattle.run_finds.specs.Joined.{FindParts}
use Rattle.run_finds.specs.Life.{StoresOne}
use Rattle.run_finds.specs.Parts.{FindPlacesOf, FindAhead}
use Rattle.run_executor.specs.Given.ScenesHeld.{Held, IsAt}
use Rattle.run_executor.specs.Given.ScenesScene.{Scene, slot_of}
use Rattle.run_executor.specs.Given.ScenesStepping.{StepLeads}

-- all that a moment shows of what calls under way have made, have to count, and are
pub record RefinesWork {K V : Type 0} (same : K → K → Bool) (name : ℕ → List ℕ) (m : Moment K V) (known : Known) (s : Scene K V) : Type 0 where
  pub whole : RefinesWhole same name m known s
  pub made : RefinesMade name m known s
  pub tables : RefinesOwnTables name m known s
  pub short : RefinesShort name m s
  pub looking : RefinesLooking name m s
  pub counts : RefinesCounts name m s

module _ (K V : Type 0) (same : K → K → Bool) (hash : ℕ → K → ℕ) where
  -- The promises, of a step of a call, whether of a row or none: each of its effects is one of a call,
  abbrev pub StepsDoTheirs : Type 0
  StepsDoTheirs =
      (name : ℕ → List ℕ) (m : Moment K V) (known : Known) (s : Scene K V) (old new : Held K V) → IsAt same hash old s → RefinesWhole same name m known s
      → (map i : ℕ) (u : UnderWay K V K) → s.calls map i ≡ Some u → (said : Progress (Node K V)) → StepLeads same hash i said s old new
      → list_all is_call_effect (effects_of (acts.Call i map) known new.changed) ≡ true

  -- and they find the map as they must; a pair is copied, and stored, where it may lie; and as the root
  -- comes to a table, each pair of the map lies there or behind it, or has its copy there.
  abbrev pub StepsFindPlaces : Type 0
  StepsFindPlaces =
      (name : ℕ → List ℕ) (m : Moment K V) (known : Known) (s : Scene K V) (old new : Held K V) → IsAt same hash old s → RefinesWhole same name m known s
      → (map i : ℕ) (u : UnderWay K V K) → s.calls map i ≡ Some u → (said : Progress (Node K V)) → StepLeads same hash i said s old new
      → (let effects = effects_of (acts.Call i map) known new.changed in
      AtEachEffect (FindsMap map) (Some (name i)) (Some map) effects m × FindPlacesOf (name i) map effects m × FindAhead (name i) map effects m)

  -- Each that stores a pair stores one, which the call had to store.
  abbrev pub StepsStoreOne : Type 0
  StepsStoreOne =
      (name : ℕ → List ℕ) (m : Moment K V) (known : Known) (s : Scene K V) (old new : Held K V) → IsAt same hash old s → RefinesWhole same name m known s
      → (map i : ℕ) (u : UnderWay K V K) → s.calls map i ≡ Some u → (said : Progress (Node K V)) → StepLeads same hash i said s old new
      → AtEachEffect (StoresOne (Some (name i))) (Some (name i)) (Some map) (effects_of (acts.Call i map) known new.changed) m

  -- So they find all parts that are promised, where the guard of the call is on the slot of its caller, and the map has as many shards as the terms say.
  abbrev pub StepsFindParts : Type 0
  StepsFindParts =
      (name : ℕ → List ℕ) (m : Moment K V) (known : Known) (s : Scene K V) (old new : Held K V) → IsAt same hash old s → RefinesWork same name m known s
      → (map i : ℕ) (u : UnderWay K V K) (here : s.calls map i ≡ Some u) (said : Progress (Node K V)) (leads : StepLeads same hash i said s old new)
      → (terms : Terms) → (leads map u here).0.setting.mask + 1 ≡ shards_of terms
      → (c : CallThere K V) → call_of (name i) m ≡ Some c → slot_of_guard c.guard m.there ≡ slot_of i
      → (moments : List (Moment K V)) → FindParts terms moments (name i) map (effects_of (acts.Call i map) known new.changed) m
