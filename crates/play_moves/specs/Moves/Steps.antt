-- What the moment of a history shows of calls, in the scene to which a list of acts has led, by which the effects of their next steps find what they must.
use Rattle.std.specs.Prelude.{◌≡◌, ℕ, Bool, List, [], ◌∷◌, Some}
use Rattle.play_linear.specs.Given.TablesLengths.{entries_of}
use Rattle.run_schedules.specs.Schedules.After.{AtEachEvent}
use Rattle.run_schedules.specs.Schedules.Effects.{AtEachEffect}
use Rattle.run_schedules.specs.Schedules.Growing.{Has}
use Rattle.run_schedules.specs.Schedules.Moment.{MapThere, Moment}
use Rattle.run_schedules.specs.Schedules.Terms.{Terms, shards_of}
use Rattle.run_schedules.specs.Schedules.Transition.{Past}
use Rattle.run_schedules.specs.Schedules.Views.{map_at}
use Rattle.run_schedules.specs.Runs.Present.{guard_of}
use Rattle.run_legal.specs.Given.CallersTogether.{UnderWay, UnlessCounts}
use Rattle.run_legal.specs.Given.EffectsKnown.{Known}
use Rattle.run_legal.specs.Given.FinishesMakings.{Beginning}
use Rattle.run_legal.specs.Given.FindsLife.{StoresOne}
use Rattle.run_legal.specs.Given.FindsWithin.{AllIsInOrder}
use Rattle.run_legal.specs.Given.GrowsFinding.{RefinesFinding}
use Rattle.run_legal.specs.Given.GrowsNexts.{RefinesNexts}
use Rattle.run_legal.specs.Given.GrowsTries.{RefinesTries}
use Rattle.run_legal.specs.Given.ScenesScene.{Scene, slot_of}
use Rattle.run_legal.specs.Given.SourcesSources.{RefinesSources}
use Rattle.play_linear.specs.Given.AgreesGuards.{CallsHaveGuards, guard_on}
use Rattle.play_linear.specs.Given.AgreesShards.{ShardsAre}
use Rattle.run_schedules.specs.Deeds.Deeds.{Deed, Entry, Steps, moment, named}
use Rattle.run_schedules.specs.Deeds.History.{past, transition}
use Rattle.play_linear.specs.Swept.Shown.{HasSwept}
use Rattle.play_moves.specs.EachMoves.Finds.{FindsIts}

-- For what calls make tables, for which capacities maps were made, and where the pairs lie that calls have in hand; that the map of a copier that makes a table
-- has a second one, or had one; what calls have met at tries; and from where pairs were copied.
pub record RefinesSteps {K V : Type 0} (same : K → K → Bool) (log : Past K V) (m : Moment K V) (known : Known) (s : Scene K V) : Type 0 where
  pub finding : RefinesFinding named m known s
  pub nexts : RefinesNexts named log m s
  pub tries : RefinesTries named log m s
  pub sources : RefinesSources same named m known s

module _ {K V : Type 0} where
  -- all is in order, and was at each moment of the history
  abbrev pub InOrderSoFar : List (Entry K V) → Type 0
  InOrderSoFar [] = AllIsInOrder (moment {K = K} {V = V} [])
  InOrderSoFar (e ∷ log) = AllIsInOrder (moment (e ∷ log)) × InOrderSoFar log

  -- of a step of a call
  abbrev pub OfStep : Deed K V → Type 0 → Type 0
  OfStep (Steps i) So = So
  OfStep deed So = Unit {0}

  -- each effect of an entry that stores a pair stores one
  abbrev pub EachStoresOne : List (Entry K V) → Entry K V → Type 0
  EachStoresOne log e = let t = transition log e in AtEachEffect (StoresOne t.caller) t.caller t.map e.effects t.found

module _ {K V : Type 0} (terms : Terms) where
  -- The effects of a step of a call find what they must where all has been in order so far, and each that stores a pair stores one.
  abbrev pub StepFinds : List (Entry K V) → Entry K V → Type 0
  StepFinds log e = OfStep e.deed ((InOrderSoFar log → FindsIts terms log e) × EachStoresOne log e)

-- By which that stays so: each map has as many shards as the terms say; one that is made, once it is there, has the capacity for which its making was asked; and a call, but for a counting, has the
-- guard of its caller's slot.
pub record StepsMay {K V : Type 0} (terms : Terms) (history : List (Entry K V)) (s : Scene K V) : Type 0 where
  pub shards : ShardsAre (shards_of terms) s
  pub capacities : (i : ℕ) (b : Beginning K) → s.makers i ≡ Some b → (f : MapThere) → map_at b.map (moment history) ≡ Some f → Has (entries_of f.capacity) b.given.initial
  pub names : CallsHaveGuards (moment history)
  pub guards : (map i : ℕ) (u : UnderWay K V K) → s.calls map i ≡ Some u
      → UnlessCounts u (guard_of (named (slot_of i)) (moment history).there.guards ≡ Some (guard_on (slot_of i)))

-- What is so of a history, and of the scene to which acts have led: its entries are swept, those that are steps of calls find what they must, and by what it shows so will the next one.
pub record HasFound {K V : Type 0} (same : K → K → Bool) (terms : Terms) (history : List (Entry K V)) (known : Known) (s : Scene K V) : Type 0 where
  pub swept : HasSwept same terms history known s
  pub shows : InOrderSoFar history → RefinesSteps same (past history) (moment history) known s
  pub each : AtEachEvent (StepFinds terms) history
