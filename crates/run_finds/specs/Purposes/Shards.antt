-- Which words of a map's count a call that adds them up reads, in the words of a run.
use Rattle.std.specs.Prelude.{◌≡◌, ℕ, Bool, List, Some}
use Rattle.run_finds.specs.Given.TablesDeclared.node.Node.{Node}
use Rattle.run_finds.specs.Given.RawDeclared.machines.progress.Progress.{Progress}
use Rattle.run_finds.specs.Given.SchedulesEffects.{with_effects}
use Rattle.run_finds.specs.Given.SchedulesMoment.{Moment}
use Rattle.run_finds.specs.Given.CallersTogether.{UnderWay}
use Rattle.run_finds.specs.Given.EffectsEffects.{effects_of}
use Rattle.run_finds.specs.Given.EffectsKnown.{Known}
use Rattle.run_finds.specs.Given.EffectsDeclared.acting.Acting.TheVariants as acts
use Rattle.run_finds.specs.Given.FinishesMaps.{Standing}
use Rattle.run_finds.specs.Given.MomentsWhole.{RefinesWhole}
use Rattle.run_finds.specs.Within.{many_of}
use Rattle.run_finds.specs.Given.ShardsShardSteps.{AddsUp}
use Rattle.run_finds.specs.Given.ShardsShardWords.{RefinesShards, RefinesCounters}
use Rattle.run_finds.specs.Purposes.Tableless.{TablelessUncounted}
use Rattle.run_finds.specs.Given.ScenesHeld.{Held, IsAt}
use Rattle.run_finds.specs.Given.ScenesScene.{Scene}
use Rattle.run_finds.specs.Given.ScenesStepping.{StepLeads}
use Rattle.run_finds.specs.Given.SchedulesTransition.{Past}

module _ {K V : Type 0} where
  -- no shard of this map has changed since the last event of the log, and they said nothing if the map has had no table
  abbrev pub NoneCounted : Past K V → Moment K V → ℕ → Type 0
  NoneCounted log m of = ((shard : ℕ) → m.shards of shard ≡ log.now.shards of shard) × (many_of of m ≡ 0 → (shard : ℕ) → log.now.shards of shard ≡ 0)

  -- so it is where the map stands and has had none
  abbrev pub SaysNothing : Past K V → Scene K V → ℕ → Type 0
  SaysNothing log s of = (standing : Standing K) → s.maps of ≡ Some standing → standing.chart.past ≡ 0 → (shard : ℕ) → log.now.shards of shard ≡ 0

  -- what a call that adds shards up may read: those that the moment says, and that it said as the last event of the log ended
  abbrev pub ReadsShards : Past K V → Moment K V → Scene K V → ℕ → UnderWay K V K → Type 0
  ReadsShards log m s of u = AddsUp u → RefinesShards m s × NoneCounted log m of × SaysNothing log s of

-- The promises: as an event begins nothing has been counted in it,
abbrev pub EventsBeginUncounted : Type 0 → Type 0 → Type 0
EventsBeginUncounted K V = (log : Past K V) (m : Moment K V) (of : ℕ) → m.shards ≡ log.now.shards → m.tables ≡ log.now.tables → TablelessUncounted log.now → NoneCounted log m of

module _ (K V : Type 0) (same : K → K → Bool) (hash : ℕ → K → ℕ) where
  -- and until something is, a call reads what it may; by its steps nothing is counted, if it adds shards up.
  abbrev pub StepsReadShards : Type 0
  StepsReadShards =
      (name : ℕ → List ℕ) (log : Past K V) (m : Moment K V) (known : Known) (s : Scene K V) (old new : Held K V) → IsAt same hash old s
      → RefinesWhole same name m known s → RefinesCounters name m s
      → (of i : ℕ) (u : UnderWay K V K) (here : s.calls of i ≡ Some u) (said : Progress (Node K V)) (leads : StepLeads same hash i said s old new) → NoneCounted log m of
      → ReadsShards log m s of u × (AddsUp u → NoneCounted log (with_effects (Some (name i)) (Some of) (effects_of (acts.Call i of) known new.changed) m) of)
