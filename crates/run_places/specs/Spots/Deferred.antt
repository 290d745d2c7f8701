-- What was put behind tables is in no map, whatever happens to it.
use Rattle.std.specs.Prelude.{◌≡◌, ℕ, ◌+◌, ◌≤◌, Bool, true, false, List, length, map, Option, Some}
use Rattle.run_shows.specs.Given.RawDeclared.machines.progress.Progress.{Progress}
use Rattle.run_shows.specs.Given.TablesDeclared.node.Node.{Node}
use Rattle.run_shows.specs.Given.RunsDeclared.effect.Effect.{Effect}
use Rattle.run_shows.specs.Given.RunsDeclared.effect.Effect.TheVariants.{Stored, Deferred}
use Rattle.run_shows.specs.Given.RunsDeclared.effect.TableId.{TableId}
use Rattle.run_shows.specs.Given.SchedulesEffects.{with_effects, AtEachEffect}
use Rattle.run_shows.specs.Given.SchedulesLists.{is_among}
use Rattle.run_shows.specs.Given.SchedulesMoment.{Moment}
use Rattle.run_shows.specs.Given.SchedulesViews.{is_in_a_map, behind}
use Rattle.run_shows.specs.Given.CallersTogether.{UnderWay}
use Rattle.run_shows.specs.Given.EffectsEffects.{effects_of}
use Rattle.run_shows.specs.Given.EffectsKnown.{Known}
use Rattle.run_shows.specs.Given.EffectsDeclared.acting.Acting.TheVariants.{Call}
use Rattle.run_shows.specs.Follows.Shows.{Refines}
use Rattle.run_shows.specs.Scenes.Held.{Held, IsAt}
use Rattle.run_shows.specs.Scenes.Scene.{Scene}
use Rattle.run_shows.specs.Scenes.Stepping.{StepLeads}

module _ {K V : Type 0} where
  -- each pair that waits behind some table was stored, and is in no map
  abbrev pub WaitOutside : Moment K V → Type 0
  WaitOutside m = (n : ℕ) → is_among n (map (λ d. d.pair) m.deferred) ≡ true → (n ≤ length m.stored) × (is_in_a_map (m.place n) ≡ false)

  -- a pair that is stored gets the next number, and one that is put behind a table was stored
  abbrev pub FindsNumbers : Moment K V → Effect → Type 0
  FindsNumbers m (Stored n s) = n ≡ length m.stored + 1
  FindsNumbers m (Deferred n t) = n ≤ length m.stored
  FindsNumbers m _ = Unit {0}

-- The promise of any effects, whoever makes them: what waits behind a table stays outside of maps.
abbrev pub EffectsLeaveOutside : Type 0 → Type 0 → Type 0
EffectsLeaveOutside K V =
    (caller : Option (List ℕ)) (acted : Option ℕ) (effects : List Effect) (m : Moment K V) → AtEachEffect FindsNumbers caller acted effects m → WaitOutside m
    → WaitOutside (with_effects caller acted effects m)

-- So it does behind each table by itself.
abbrev pub EachWaitsOutside : Type 0 → Type 0 → Type 0
EachWaitsOutside K V = (m : Moment K V) → WaitOutside m → (t : TableId) (n : ℕ) → is_among n (behind t m.deferred) ≡ true → is_in_a_map (m.place n) ≡ false

module _ (K V : Type 0) (same : K → K → Bool) (hash : ℕ → K → ℕ) where
  -- The promise of a step of a call.
  abbrev pub CallsLeaveOutside : Type 0
  CallsLeaveOutside =
      (name : ℕ → List ℕ) (m : Moment K V) (known : Known) (s : Scene K V) (old new : Held K V) → IsAt same hash old s → Refines same name m known s → WaitOutside m
      → (map i : ℕ) (u : UnderWay K V K) → s.calls map i ≡ Some u → (told : Progress (Node K V)) → StepLeads same hash i told s old new
      → WaitOutside (with_effects (Some (name i)) (Some map) (effects_of (Call i map) known new.changed) m)
