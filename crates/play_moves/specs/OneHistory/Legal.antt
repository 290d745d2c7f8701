-- That the history of what threads have done in a memory that they share is legal.
use Rattle.std.specs.Prelude.{◌≡◌, ◌<◌, ◌^◌, ℕ, Bool, Some}
use Rattle.std.specs.List.{AllByRecursion}
use Rattle.threads_rule.specs.Given.SeizeSeatsState.{State}
use Rattle.threads_rule.specs.Given.SeizeViewsDeclared.view.Fixed.{Fixed}
use Rattle.run_legal.specs.Given.TablesDeclared.node.Node.{Node}
use Rattle.threads_rule.specs.Views.Rule.{MapsWorld, Holds}
use Rattle.threads_rule.specs.declared.view.View.{View}
use Rattle.run_schedules.specs.Schedules.After.{AtEachEvent}
use Rattle.run_schedules.specs.Schedules.Terms.{Terms, shards_of}
use Rattle.play_linear.specs.Given.ActsDoings.{Doing, Does}
use Rattle.play_linear.specs.Given.AgreesPlaces.{AsksMap}
use Rattle.run_schedules.specs.Deeds.History.{IsLinearizable, IsProtected}
use Rattle.play_linear.specs.Given.PlayedPlay.{State as Played, first_state, play_all}
use Rattle.play_moves.specs.Moves.Legal.{KeepsAll}

-- a making is asked for with so many shards, and with such places
abbrev pub AsksSo : {K V S : Type 0} → ℕ → Doing K V S → Type 0
AsksSo shards (Does act) = AsksMap shards act
AsksSo shards doing = Unit {0}

module _ {K S : Type 0} (V : Type 0) (same : K → K → Bool) (hash : S → K → ℕ) where
  -- The promise: wherever the memory stands between two steps of any threads, what was done is played to a history of which each entry is linearizable, and reclaims
  -- nothing that an open section may look at; whatever the values are with which closures abort.
  abbrev pub HistoriesAreLegal : Type 0
  HistoriesAreLegal =
      (fixed : Fixed) → fixed.batch_size < 2 ^ 64 → (aborts : ℕ → V) (s : State (Node K V) (View K V S) (MapsWorld K V S)) → Holds same hash fixed s
      → (after : Played K V S) × (play_all same hash fixed.batch_size fixed.roots aborts s.world.doings (first_state fixed.roots) ≡ Some after)
      × AtEachEvent (IsLinearizable same) after.history × AtEachEvent IsProtected after.history

  -- And where all makings so far ask for as many shards as the terms say, and for places that a capacity without a fault asks for, each entry keeps all.
  abbrev pub HistoriesKeepAll : Terms → Type 0
  HistoriesKeepAll terms =
      (fixed : Fixed) → fixed.batch_size < 2 ^ 64 → (aborts : ℕ → V) (s : State (Node K V) (View K V S) (MapsWorld K V S)) → Holds same hash fixed s
      → AllByRecursion (AsksSo (shards_of terms)) s.world.doings
      → (after : Played K V S) × (play_all same hash fixed.batch_size fixed.roots aborts s.world.doings (first_state fixed.roots) ≡ Some after)
      × AtEachEvent (KeepsAll same terms) after.history
