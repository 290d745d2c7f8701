-- What a seat may say of its newest call where that was one on a whole map: it has ended so in the history, and has done there what such a call is for.
use Rattle.std.specs.Prelude.{◌≡◌, ℕ, Bool, List, Some}
use Rattle.std.specs.List.{AllByRecursion}
use Rattle.threads_rule.specs.Given.SeizeSeatsState.{State, view_of}
use Rattle.threads_rule.specs.Given.SeizeViewsDeclared.view.Fixed.{Fixed}
use Rattle.run_legal.specs.Given.TablesDeclared.node.Node.{Node}
use Rattle.threads_rule.specs.Views.Rule.{MapsWorld, Holds, caller_at, acts_in}
use Rattle.threads_rule.specs.declared.view.Map.{Map}
use Rattle.threads_rule.specs.declared.view.View.{View}
use Rattle.run_schedules.specs.Schedules.After.{AtEachEvent}
use Rattle.run_schedules.specs.Schedules.Terms.{Terms, shards_of}
use Rattle.run_schedules.specs.declared.call.Response.{Response}
use Rattle.run_schedules.specs.declared.call.Response.TheVariants as answers
use Rattle.run_schedules.specs.declared.call.Call.{Call}
use Rattle.run_schedules.specs.declared.call.Call.TheVariants.{Clear, Len, Reserve, Retain, Walk}
use Rattle.run_schedules.specs.declared.outcome.Outcome.TheVariants.{Answered}
use Rattle.run_schedules.specs.Deeds.Deeds.{Entry}
use Rattle.run_schedules.specs.Deeds.History.{IsSwept}
use Rattle.play_linear.specs.Given.PlayedPlay.{State as Played, first_state, play_all}
use Rattle.play_moves.specs.Moves.Legal.{KeepsAll}
use Rattle.play_moves.specs.OneHistory.Answered.{ByNewest, IsItsEnd}
use Rattle.play_moves.specs.OneHistory.Calls.{ItsCall}
use Rattle.play_moves.specs.OneHistory.Legal.{AsksSo}

module _ {K V : Type 0} (same : K → K → Bool) where
  -- By this entry the caller's call comes to this end, and has done what such a call is for, of maps with so many shards: what it has counted are shards, each as it was at a
  -- moment of the call; it has met a table with the room; it has left no pair that was there all the time, but those that it was told to keep; or it has shown each of those.
  abbrev pub EndsDone : Terms → ℕ → ℕ → Call K V → Response V → List (Entry K V) → Entry K V → Type 0
  EndsDone terms i map call answer log e = IsItsEnd same i map call (Answered answer) log e × IsSwept same terms log e

module _ {K V S : Type 0} (same : K → K → Bool) (hash : S → K → ℕ) (fixed : Fixed) (id : ℕ) (v : View K V S) where
  -- Wherever the memory stands while the rule holds and the seat knows this, and all makings so far ask for as many shards as the terms say: each entry of the history keeps
  -- all that is promised of histories, and this is so of the newest step that its calls have taken, on the map that it knows.
  abbrev pub ItsCallBy : Terms → (ℕ → ℕ → List (Entry K V) → Entry K V → Type 0) → Type 0
  ItsCallBy terms So =
      (map : Map S) × (v.map ≡ Some map)
      × ((aborts : ℕ → V) (s : State (Node K V) (View K V S) (MapsWorld K V S)) → Holds same hash fixed s → view_of s id ≡ Some v → AllByRecursion (AsksSo (shards_of terms)) s.world.doings
      → (after : Played K V S) × (play_all same hash fixed.batch_size fixed.roots aborts s.world.doings (first_state fixed.roots) ≡ Some after)
      × AtEachEvent (KeepsAll same terms) after.history × ByNewest (caller_at id (acts_in v.under v.slot)) (So (caller_at id (acts_in v.under v.slot)) map.number) after.history)

  -- It has ended this call with this answer, and has done what that is for.
  abbrev pub HasDone : Call K V → Response V → Type 0
  HasDone call answer = ItsCall same hash fixed id v (λ i m. IsItsEnd same i m call (Answered answer)) × ((terms : Terms) → ItsCallBy terms (λ i m. EndsDone same terms i m call answer))

  -- it has counted so many pairs,
  abbrev pub HasCounted : ℕ → Type 0
  HasCounted count = HasDone Len (answers.Counted count)

  -- made room for so many further ones,
  abbrev pub HasMadeRoom : ℕ → Type 0
  HasMadeRoom additional = HasDone (Reserve additional) answers.Completed

  -- removed all pairs,
  abbrev pub HasCleared : Type 0
  HasCleared = HasDone Clear answers.Completed

  -- or all but those that it was told to keep,
  abbrev pub HasRetained : Type 0
  HasRetained = HasDone Retain answers.Completed

  -- or has shown all
  abbrev pub HasWalked : Type 0
  HasWalked = HasDone Walk answers.Absent
