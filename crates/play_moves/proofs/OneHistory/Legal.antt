-- The history of what threads have done is legal.
use Rattle.std.specs.Prelude.{Bool, List, [], ◌∷◌}
use Rattle.std.specs.List.{AllByRecursion}
use Rattle.std.proofs.Common.{ℕ, refl, sym, subst, ◌∙◌}
use Rattle.threads_rule.specs.Given.SeizeSeatsState.{State}
use Rattle.threads_rule.specs.Given.SeizeViewsDeclared.view.Fixed.{Fixed}
use Rattle.run_legal.specs.Given.TablesDeclared.node.Node.{Node}
use Rattle.threads_rule.specs.Views.Rule.{MapsWorld, Holds}
use Rattle.threads_rule.specs.declared.view.View.{View}
use Rattle.run_schedules.specs.Schedules.After.{AtEachEvent}
use Rattle.run_schedules.specs.Schedules.Terms.{Terms, shards_of}
use Rattle.play_linear.specs.Given.ActsDoings.{Doing, Does, BeginsReclaiming, BeginsClearing, StepsReclaiming, Chooses}
use Rattle.play_linear.specs.Given.AgreesFresh.{MakesNew}
use Rattle.play_linear.specs.Given.AgreesPlaces.{AsksMaps}
use Rattle.run_schedules.specs.Deeds.History.{IsProtected}
use Rattle.play_linear.specs.Linear.Linear.{IsOfOwn}
use Rattle.play_linear.specs.Given.PlayedPlay.{State as Played, first_state}
use Rattle.play_linear.proofs.Given.AgreesComing.{once_is_new}
use Rattle.play_linear.proofs.Linear.Linear.{lists_are_linearizable}
use Rattle.play_linear.proofs.Protects.Protected.{lists_are_protected}
use Rattle.play_moves.proofs.Moves.Legal.{lists_keep_all}
use Rattle.play_moves.specs.OneHistory.Legal.{AsksSo, HistoriesAreLegal, HistoriesKeepAll}
use Rattle.play_moves.proofs.OneHistory.Numbers.{once}
use Rattle.play_moves.proofs.OneHistory.Own.{hash_at, own_from}
use Rattle.run_schedules.proofs.Given.General.{same_some}

module _ {K V S : Type 0} (same : K → K → Bool) (hash : S → K → ℕ) (fixed : Fixed) (s : State (Node K V) (View K V S) (MapsWorld K V S)) (h : Holds same hash fixed s) where
  -- each map has the hash of the hasher with which it was made
  abbrev pub hashes : ℕ → K → ℕ
  hashes = hash_at hash s.world.doings

  pub own : AllByRecursion (IsOfOwn V same hash hashes fixed.batch_size fixed.roots) s.world.doings
  own = own_from V same hash fixed.batch_size fixed.roots hashes s.world.doings 0 h.so.fresh.0 h.so.fresh.2 (λ m above. refl) h.own

  pub new : (aborts : ℕ → V) → MakesNew same hash fixed.batch_size fixed.roots aborts s.world.doings (first_state fixed.roots)
  new aborts = once_is_new V same hash hashes fixed.batch_size fixed.roots aborts s.world.doings (once s.world.doings 0 h.so.fresh.0 h.so.fresh.2)

-- each act is of its own, and asked for so
both_so : {K S : Type 0} (V : Type 0) (same : K → K → Bool) (hash : S → K → ℕ) (hashes : ℕ → K → ℕ) (batch_size roots shards : ℕ) (doings : List (Doing K V S))
    → AllByRecursion (IsOfOwn V same hash hashes batch_size roots) doings → AllByRecursion (AsksSo shards) doings → AllByRecursion (AsksMaps V hash hashes shards) doings
both_so V same hash hashes batch_size roots shards [] its asks = tt
both_so V same hash hashes batch_size roots shards (Does act ∷ doings) its asks = ((its.0, asks.0), both_so V same hash hashes batch_size roots shards doings its.1 asks.1)
both_so V same hash hashes batch_size roots shards (BeginsReclaiming i ∷ doings) its asks = (tt, both_so V same hash hashes batch_size roots shards doings its.1 asks.1)
both_so V same hash hashes batch_size roots shards (BeginsClearing i ∷ doings) its asks = (tt, both_so V same hash hashes batch_size roots shards doings its.1 asks.1)
both_so V same hash hashes batch_size roots shards (StepsReclaiming g ∷ doings) its asks = (tt, both_so V same hash hashes batch_size roots shards doings its.1 asks.1)
both_so V same hash hashes batch_size roots shards (Chooses choice ∷ doings) its asks = (tt, both_so V same hash hashes batch_size roots shards doings its.1 asks.1)

module _ {K S : Type 0} (V : Type 0) (same : K → K → Bool) (hash : S → K → ℕ) where
  pub histories_are_legal : HistoriesAreLegal V same hash
  histories_are_legal fixed small aborts s h =
      let its = own same hash fixed s h in
      let fresh = new same hash fixed s h aborts in
      let linear = lists_are_linearizable V same hash (hashes same hash fixed s h) fixed.batch_size fixed.roots small aborts h.course s.world.doings h.reached h.led its fresh in
      let protected = lists_are_protected V same hash (hashes same hash fixed s h) fixed.batch_size fixed.roots small aborts h.course s.world.doings h.reached h.led its fresh in (
        linear.0,
        linear.1,
        linear.2,
        subst (λ (x : Played K V S). AtEachEvent IsProtected x.history) (same_some protected.0 linear.0 (sym protected.1 ∙ linear.1)) protected.2,
      )

  pub histories_keep_all : (terms : Terms) → HistoriesKeepAll V same hash terms
  histories_keep_all terms fixed small aborts s h asks =
      lists_keep_all V same hash (hashes same hash fixed s h) fixed.batch_size fixed.roots terms small aborts h.course s.world.doings h.reached h.led
      (both_so V same hash (hashes same hash fixed s h) fixed.batch_size fixed.roots (shards_of terms) s.world.doings (own same hash fixed s h) asks) (new same hash fixed s h aborts)
