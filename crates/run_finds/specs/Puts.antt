-- Behind which table a row within a call is to put the pair that the call has in hand: the one just before that in which the pair lies.
use Rattle.std.specs.Prelude.{◌≡◌, ℕ, ◌+◌, Bool, List, Option, Some}
use Rattle.run_executor.specs.Given.SeizeWordsDeclared.at.At.{At}
use Rattle.run_executor.specs.Given.SeizeFurther.{IsWordOf}
use Rattle.run_blocks.specs.Given.TablesDeclared.node.Node.{Node}
use Rattle.run_executor.specs.Given.RawDeclared.machines.progress.Progress.{Progress}
use Rattle.run_executor.specs.Given.CallersTogether.{UnderWay}
use Rattle.run_executor.specs.Given.EffectsEffects.{effects_of, known_after}
use Rattle.run_executor.specs.Given.EffectsKnown.{Known}
use Rattle.run_executor.specs.Given.EffectsDeclared.acting.Acting.TheVariants as acts
use Rattle.run_executor.specs.Given.EffectsDeclared.role.Role.TheVariants as role
use Rattle.run_executor.specs.Given.FinishesMachines.{machine_of}
use Rattle.run_executor.specs.Given.MomentsWhole.{RefinesWhole}
use Rattle.run_executor.specs.Given.SchedulesMoment.{Moment}
use Rattle.run_blocks.specs.Given.SettlesDue.{ToPut, due_in_row, OwnAreMade}
use Rattle.run_blocks.specs.Given.SettlesEntries.{EntriesAreBlank}
use Rattle.run_blocks.specs.Given.SettlesHand.{RefinesObligations}
use Rattle.run_finds.specs.Waits.{waits_in, RefinesWaits, FindDeferrals}
use Rattle.run_executor.specs.Given.ScenesHeld.{Held, IsAt}
use Rattle.run_executor.specs.Given.ScenesScene.{Scene}
use Rattle.run_executor.specs.Given.ScenesStepping.{StepLeads, scene_after}

-- the place is in the block that is noted as the table of the map with the turn before this one
abbrev pub IsDeferredOnTheLast : Known → ℕ → At → Option ℕ → Type 0
IsDeferredOnTheLast known map place waits =
    (b turn len : ℕ) × IsWordOf b place × (waits ≡ Some (turn + 1)) × (known.roles b ≡ role.Table (record { map = map; turn = turn }) len)

-- so it is of each call whose row is to put a pair behind a table
abbrev pub RefinesPuts : {K V : Type 0} → Known → Scene K V → Type 0
RefinesPuts {K} {V} known s =
    (map i : ℕ) (u : UnderWay K V K) → s.calls map i ≡ Some u → (word : ℕ) (place : At) → due_in_row (machine_of u) ≡ Some (ToPut word place) → IsDeferredOnTheLast known map place (waits_in (machine_of u))

module _ (K V : Type 0) where
  -- So it stays as long as each call that is to put a pair behind a table was so before, as the same machine, and the table is noted as it was.
  abbrev pub PutsStay : Type 0
  PutsStay =
      (known known2 : Known) (s t : Scene K V) → RefinesPuts known s
      → ((map i : ℕ) (u : UnderWay K V K) → t.calls map i ≡ Some u → (word : ℕ) (place : At) → due_in_row (machine_of u) ≡ Some (ToPut word place)
      → (x : UnderWay K V K) × (s.calls map i ≡ Some x) × (machine_of x ≡ machine_of u) × ((b : ℕ) → IsWordOf b place → known2.roles b ≡ known.roles b))
      → RefinesPuts known2 t

module _ (K V : Type 0) (same : K → K → Bool) (hash : ℕ → K → ℕ) where
  -- The promise, of a step of a call, whichever it is: so it is after it.
  abbrev pub CallsPreservePuts : Type 0
  CallsPreservePuts =
      (name : ℕ → List ℕ) (m : Moment K V) (known : Known) (s : Scene K V) (old new : Held K V)
      → IsAt same hash old s → RefinesWhole same name m known s → EntriesAreBlank s → OwnAreMade known s.world → RefinesPuts known s
      → (map i : ℕ) (u : UnderWay K V K) (here : s.calls map i ≡ Some u) (said : Progress (Node K V)) (leads : StepLeads same hash i said s old new)
      → (let to = leads map u here in
      RefinesPuts (known_after (acts.Call i map) new.changed known) (scene_after same s old new map i to.0 u to.1 said to.4))

  -- So a pair that it puts behind a table is put behind that of the map just before its own.
  abbrev pub CallsDeferOnTheLast : Type 0
  CallsDeferOnTheLast =
      (name : ℕ → List ℕ) (m : Moment K V) (known : Known) (s : Scene K V) (old new : Held K V)
      → IsAt same hash old s → RefinesWhole same name m known s → EntriesAreBlank s → OwnAreMade known s.world → RefinesObligations name m known s → RefinesWaits name m s → RefinesPuts known s
      → (map i : ℕ) (u : UnderWay K V K) (here : s.calls map i ≡ Some u) (said : Progress (Node K V)) (leads : StepLeads same hash i said s old new)
      → FindDeferrals (name i) map (effects_of (acts.Call i map) known new.changed) m
