-- Which table a call on one key links, while it copies no pairs: the first one of its map, or the one that follows the newest, as its length and a count of the pairs say.
use Rattle.std.specs.Prelude.{◌≡◌, ℕ, suc, Bool, List, ◌∷◌, Some}
use Rattle.run_blocks.specs.Given.TablesLengths.{entries_of}
use Rattle.run_blocks.specs.Given.TablesDeclared.node.Node.{Node}
use Rattle.run_blocks.specs.Given.TablesDeclared.setting.Setting.{Setting}
use Rattle.run_blocks.specs.Given.TablesDeclared.table.Table.{Table}
use Rattle.run_executor.specs.Given.RawDeclared.machines.call.Calling.{Calling}
use Rattle.run_executor.specs.Given.RawDeclared.machines.call.Calling.TheVariants as at
use Rattle.run_executor.specs.Given.RawDeclared.machines.call.KeyCall.{KeyCall}
use Rattle.run_executor.specs.Given.RawDeclared.machines.progress.Progress.{Progress}
use Rattle.run_executor.specs.Given.RunsDeclared.effect.Effect.{Effect}
use Rattle.run_executor.specs.Given.RunsDeclared.effect.Effect.TheVariants.{Linked}
use Rattle.run_executor.specs.Given.SchedulesEffects.{AtEachEffect}
use Rattle.run_executor.specs.Given.SchedulesEntry.{ByCall, acting}
use Rattle.run_executor.specs.Given.SchedulesGrowing.{Has, Follows}
use Rattle.run_executor.specs.Given.SchedulesMoment.{UnderWay as CallThere, IsLinked, TableThere, Moment}
use Rattle.run_executor.specs.Given.SchedulesTerms.{Terms}
use Rattle.run_executor.specs.Given.SchedulesTries.{IsFull}
use Rattle.run_executor.specs.Given.SchedulesViews.{map_at, capacity_or, tables_of}
use Rattle.run_executor.specs.Given.PointsFactsCalls.{IsCopying}
use Rattle.run_executor.specs.Given.CallersTogether.{CallOnKey, UnderWay, OnKey}
use Rattle.run_executor.specs.Given.EffectsEffects.{effects_of}
use Rattle.run_executor.specs.Given.EffectsKnown.{Known}
use Rattle.run_executor.specs.Given.EffectsDeclared.acting.Acting.TheVariants as acts
use Rattle.run_executor.specs.Given.MomentsWhole.{RefinesWhole}
use Rattle.run_blocks.specs.Owes.Tables.{RefinesOwnTables}
use Rattle.run_executor.specs.Given.FollowsMaps.{table_of}
use Rattle.run_finds.specs.Growing.{RefinesGrowing}
use Rattle.run_finds.specs.Within.{many_of}
use Rattle.run_executor.specs.Given.ScenesHeld.{Held, IsAt}
use Rattle.run_executor.specs.Given.ScenesScene.{Scene}
use Rattle.run_executor.specs.Given.ScenesStepping.{StepLeads}

module _ {K V : Type 0} (terms : Terms) where
  -- what is left of an effect that links a table: it follows
  abbrev pub FindsShape : List (Moment K V) → Moment K V → Effect → CallThere K V → Type 0
  FindsShape moments m (Linked t shape) c = Follows terms c (m ∷ moments) (capacity_or (map_at c.map m)) shape (tables_of c.map m)
  FindsShape moments m _ c = Unit {0}

  abbrev pub FindShapes : List (Moment K V) → List ℕ → ℕ → List Effect → Moment K V → Type 0
  FindShapes moments own map effects m = AtEachEffect (λ v f. ByCall (FindsShape moments v f) (acting (Some own) v)) (Some own) (Some map) effects m

-- a table in the words of a run
abbrev pub there_of : ℕ → Table → TableThere
there_of map t = record { table = table_of map t.turn; shape = record { len = t.len; limit = t.limit }; stage = IsLinked }

-- where the call makes the table behind the one that it has tried, and that is the newest of so many: it found it full, by these moments
abbrev pub HasFoundFull : {K V Q : Type 0} → ℕ → ℕ → List (Moment K V) → KeyCall K V Q → Calling → Type 0
HasFoundFull map many moments p (at.Allocs making) = suc p.trial.table.turn ≡ many → IsFull map (there_of map p.trial.table) moments p.trial.met
HasFoundFull map many moments p _ = Unit {0}

abbrev pub FoundFull : {K V : Type 0} → ℕ → ℕ → List (Moment K V) → UnderWay K V K → Type 0
FoundFull map many moments (OnKey u) = HasFoundFull map many moments u.call u.call.stands
FoundFull map many moments _ = Unit {0}

-- the map was made with the capacity that the moment says: no later table has fewer entries than it
abbrev pub IsMadeFor : {K V : Type 0} → ℕ → Moment K V → Setting → Type 0
IsMadeFor map m setting = Has (entries_of (capacity_or (map_at map m))) setting.initial

-- The promise.
abbrev pub KeyCallsLink : (K V : Type 0) (same : K → K → Bool) (hash : ℕ → K → ℕ) → Type 0
KeyCallsLink K V same hash =
    (name : ℕ → List ℕ) (m : Moment K V) (known : Known) (s : Scene K V) (old new : Held K V) → IsAt same hash old s → RefinesWhole same name m known s → RefinesOwnTables name m known s → RefinesGrowing m s
    → (map i : ℕ) (u : CallOnKey K V K) (here : s.calls map i ≡ Some (OnKey u)) (said : Progress (Node K V)) (leads : StepLeads same hash i said s old new)
    → (IsCopying u.call.stands → ⊥) → IsMadeFor map m (leads map (OnKey u) here).0.setting → (terms : Terms) (moments : List (Moment K V))
    → HasFoundFull map (many_of map m) (m ∷ moments) u.call u.call.stands
    → FindShapes terms moments (name i) map (effects_of (acts.Call i map) known new.changed) m
