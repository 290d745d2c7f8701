-- The history of each list of acts keeps all that is promised of histories.
use Rattle.std.specs.Prelude.{Bool, List, [], ◌∷◌, Option, Some}
use Rattle.std.specs.List.{AllByRecursion}
use Rattle.std.proofs.Common.{◌≡◌, ℕ, sym, subst, ◌∙◌}
use Rattle.run_schedules.specs.Schedules.After.{AtEachEvent}
use Rattle.run_schedules.specs.Schedules.Terms.{Terms, shards_of}
use Rattle.play_linear.specs.Given.ActsDoings.{Doing, Does, BeginsReclaiming, BeginsClearing, StepsReclaiming, Chooses}
use Rattle.play_linear.specs.Given.AgreesAgree.{Asks}
use Rattle.play_linear.specs.Given.AgreesPlaces.{AsksMaps}
use Rattle.run_schedules.specs.Deeds.Deeds.{Entry}
use Rattle.run_schedules.specs.Deeds.History.{IsLinearizable, IsProtected, IsSwept, MovesOn}
use Rattle.play_linear.specs.Given.PlayedPlay.{State}
use Rattle.play_linear.specs.Linear.Linear.{IsOfOwn}
use Rattle.play_linear.proofs.Linear.Linear.{lists_are_linearizable}
use Rattle.play_linear.proofs.Protects.Protected.{lists_are_protected}
use Rattle.play_linear.proofs.Swept.Swept.{lists_are_swept}
use Rattle.play_moves.specs.Moves.Legal.{KeepsAll, ListsKeepAll}
use Rattle.play_moves.specs.EachMoves.Own.{IsOfItsCall}
use Rattle.play_moves.proofs.Moves.Moved.{both_asked, move_as_their_calls}
use Rattle.run_schedules.proofs.Given.General.{same_some}

module _ {K V : Type 0} (same : K → K → Bool) (terms : Terms) where
  -- each entry keeps the one, and the others
  all_kept : (history : List (Entry K V)) → AtEachEvent (IsLinearizable same) history → AtEachEvent IsProtected history → AtEachEvent (IsSwept same terms) history → AtEachEvent (MovesOn terms) history → AtEachEvent IsOfItsCall history
      → AtEachEvent (KeepsAll same terms) history
  all_kept [] linear protected swept moves own = tt
  all_kept (e ∷ log) linear protected swept moves own =
      (record { linearizable = linear.0; protected = protected.0; swept = swept.0; moves = moves.0; own = own.0 }, all_kept log linear.1 protected.1 swept.1 moves.1 own.1)

module _ {K S : Type 0} (V : Type 0) (same : K → K → Bool) (by_hasher : S → K → ℕ) (hash : ℕ → K → ℕ) (batch_size roots : ℕ) (terms : Terms) where
  -- who asks for such maps asks for so many shards, and each act is of its own
  less_asked : (doings : List (Doing K V S)) → AllByRecursion (AsksMaps V by_hasher hash (shards_of terms)) doings
      → AllByRecursion (IsOfOwn V same by_hasher hash batch_size roots) doings × AllByRecursion (Asks V same by_hasher hash batch_size roots (shards_of terms)) doings
  less_asked [] asks = (tt, tt)
  less_asked (Does act ∷ doings) asks = (let rest = less_asked doings asks.1 in ((asks.0.0, rest.0), ((asks.0.0, (both_asked (shards_of terms) act asks.0.1).0), rest.1)))
  less_asked (BeginsReclaiming i ∷ doings) asks = (let rest = less_asked doings asks.1 in ((tt, rest.0), (tt, rest.1)))
  less_asked (BeginsClearing i ∷ doings) asks = (let rest = less_asked doings asks.1 in ((tt, rest.0), (tt, rest.1)))
  less_asked (StepsReclaiming g ∷ doings) asks = (let rest = less_asked doings asks.1 in ((tt, rest.0), (tt, rest.1)))
  less_asked (Chooses choice ∷ doings) asks = (let rest = less_asked doings asks.1 in ((tt, rest.0), (tt, rest.1)))

  -- what is so of the history of the one state is so of that of the other, where both are come to alike
  as_of : (o : Option (State K V S)) (x y : State K V S) → o ≡ Some x → o ≡ Some y → (P : List (Entry K V) → Entry K V → Type 0) → AtEachEvent P x.history → AtEachEvent P y.history
  as_of o x y one two P each = subst (λ (z : State K V S). AtEachEvent P z.history) (same_some x y (sym one ∙ two)) each

  pub lists_keep_all : ListsKeepAll V same by_hasher hash batch_size roots terms
  lists_keep_all small aborts course doings y led asks new =
      let less = less_asked doings asks in
      let moves = move_as_their_calls V same by_hasher hash batch_size roots terms small aborts course doings y led asks new in
      let linear = lists_are_linearizable V same by_hasher hash batch_size roots small aborts course doings y led less.0 new in
      let protected = lists_are_protected V same by_hasher hash batch_size roots small aborts course doings y led less.0 new in
      let swept = lists_are_swept V same by_hasher hash batch_size roots terms small aborts course doings y led less.1 new in (
        moves.0,
        moves.1,
        all_kept same terms moves.0.history (as_of _ linear.0 moves.0 linear.1 moves.1 (IsLinearizable same) linear.2) (as_of _ protected.0 moves.0 protected.1 moves.1 IsProtected protected.2)
            (as_of _ swept.0 moves.0 swept.1 moves.1 (IsSwept same terms) swept.2) moves.2 moves.3,
      )
