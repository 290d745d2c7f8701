-- What a seat may say of its newest call: what that was told is what one finite map means. So a public call says it in its own clause.
use Rattle.std.specs.Prelude.{◌≡◌, ℕ, Bool, List, ◌∷◌, Option, Some, None, is_some, if◌then◌else◌}
use Rattle.threads_rule.specs.Given.SeizeSeatsState.{State, view_of}
use Rattle.threads_rule.specs.Given.SeizeViewsDeclared.view.Fixed.{Fixed}
use Rattle.run_schedules.specs.Given.SeizeWordsDeclared.fault.Fault.{Fault}
use Rattle.run_legal.specs.Given.TablesDeclared.node.Node.{Node}
use Rattle.threads_rule.specs.Views.Rule.{MapsWorld, Holds, caller_at, acts_in}
use Rattle.threads_rule.specs.declared.view.Map.{Map}
use Rattle.threads_rule.specs.declared.view.View.{View}
use Rattle.run_schedules.specs.Schedules.After.{AtEachEvent}
use Rattle.run_schedules.specs.Schedules.Sequential.{looked}
use Rattle.run_schedules.specs.declared.call.Response.{Response}
use Rattle.run_schedules.specs.declared.call.Response.TheVariants as answers
use Rattle.run_schedules.specs.declared.call.Call.{Call}
use Rattle.run_schedules.specs.declared.call.Call.TheVariants.{On}
use Rattle.run_schedules.specs.declared.call.OneKey.TheVariants.{Compute, Insert, TryInsert, TryInsertWith, Remove, RemoveIf}
use Rattle.run_schedules.specs.declared.outcome.Outcome.TheVariants.{Answered, Refused}
use Rattle.threads_rule.specs.Given.ActsActs.{Wanted}
use Rattle.run_schedules.specs.Deeds.Deeds.{Entry, moment}
use Rattle.run_schedules.specs.Runs.Log.{pair_at}
use Rattle.run_schedules.specs.Deeds.History.{IsLinearizable, IsProtected}
use Rattle.play_linear.specs.Given.PlayedPlay.{State as Played, call_for, first_state, play_all}
use Rattle.play_moves.specs.OneHistory.Answered.{ByNewest, IsItsEnd}
use Rattle.play_moves.specs.OneHistory.Lookups.{WasHad, WasSo}

-- what became of a pair by a call that computes
pub data Became : Type 0 where
  CameIn : Became  -- it was stored where there was none
  TookItsPlace : Became  -- it was stored in the place of another one
  GaveWay : Became  -- another one was stored in its place
  WentOut : Became  -- it was removed

-- how that is answered, by the numbers of the pair and of the other one
abbrev pub computed_so : {V : Type 0} → Became → ℕ → ℕ → Response V
computed_so CameIn other number = answers.Inserted number
computed_so TookItsPlace other number = answers.Updated other number
computed_so GaveWay other number = answers.Updated number other
computed_so WentOut other number = answers.Removed number

-- the pair that stays, or that there is none
abbrev pub kept : {V : Type 0} → Option ℕ → Response V
kept None = answers.Absent
kept (Some number) = answers.Kept number

module _ {K V : Type 0} (same : K → K → Bool) where
  -- By this entry the caller's call on this map ends: it is answered so with the number of a pair, under which this is stored.
  abbrev pub WasNamed : ℕ → ℕ → Call K V → (ℕ → Response V) → K × V → List (Entry K V) → Entry K V → Type 0
  WasNamed i map call answer pair log e = (number : ℕ) × IsItsEnd same i map call (Answered (answer number)) log e × (pair_at (moment (e ∷ log)).stored number ≡ Some pair)

  -- By this one its call to store this where the key is missing ends: it is answered with the number of its own pair, or of the one that is there, and that is stored with this
  -- value.
  abbrev pub WasThere : ℕ → ℕ → K → V → V → List (Entry K V) → Entry K V → Type 0
  WasThere i map key value its log e =
      (stored : Bool) × (number : ℕ) × IsItsEnd same i map (On (TryInsert key value)) (Answered (if stored then answers.Stored number else answers.Occupied number value)) log e
      × (found : K) × (pair_at (moment (e ∷ log)).stored number ≡ Some (found, its))

module _ {K V S : Type 0} (same : K → K → Bool) (hash : S → K → ℕ) (fixed : Fixed) (id : ℕ) (v : View K V S) where
  -- Wherever the memory stands while the rule holds and the seat knows this: what was done is played to a history of which each entry is linearizable, and reclaims nothing
  -- that an open section may look at; and this is so of it, of the caller that the seat is in its slot.
  abbrev pub InItsHistory : (List (Entry K V) → ℕ → Type 0) → Type 0
  InItsHistory So =
      (aborts : ℕ → V) (s : State (Node K V) (View K V S) (MapsWorld K V S)) → Holds same hash fixed s → view_of s id ≡ Some v
      → (after : Played K V S) × (play_all same hash fixed.batch_size fixed.roots aborts s.world.doings (first_state fixed.roots) ≡ Some after)
      × AtEachEvent (IsLinearizable same) after.history × AtEachEvent IsProtected after.history × So after.history (caller_at id (acts_in v.under v.slot))

  -- The newest step that its calls have taken ends a call on the map that it knows, and so it is of that.
  abbrev pub ItsCall : (ℕ → ℕ → List (Entry K V) → Entry K V → Type 0) → Type 0
  ItsCall So = (map : Map S) × (v.map ≡ Some map) × InItsHistory (λ history i. ByNewest i (So i map.number) history)

  -- It has looked this key up: the finite map of its map had no pair for it at a moment of the call,
  abbrev pub FoundNone : K → Type 0
  FoundNone key = ItsCall (λ i m. WasSo same i m key answers.Absent)

  -- or had one with this value,
  abbrev pub FoundValue : K → V → Type 0
  FoundValue key value = ItsCall (λ i m. WasHad same i m key value)

  -- or had one or none.
  abbrev pub HasLooked : K → Bool → Type 0
  HasLooked key there = ItsCall (λ i m log e. (pair : Option ℕ) × (is_some pair ≡ there) × WasSo same i m key (looked pair) log e)

  -- It has stored this pair, in the place of another one or of none: its answer is the number of the pair that was there, or that none was.
  abbrev pub HasInserted : K → V → Bool → Type 0
  HasInserted key value replaced =
      ItsCall (λ i m log e. (before : Option ℕ) × (is_some before ≡ replaced) × IsItsEnd same i m (On (Insert key value)) (Answered (looked before)) log e)

  -- And it was in the place of this one.
  abbrev pub HasReplacedPair : K → V → K × V → Type 0
  HasReplacedPair key value pair = ItsCall (λ i m. WasNamed same i m (On (Insert key value)) answers.Found pair)

  -- It has tried to store it: its answer is the number under which it is stored, or the pair that is there, and the value back.
  abbrev pub HasTried : K → V → Bool → Type 0
  HasTried key value stored =
      ItsCall (λ i m log e. (pair : ℕ) × IsItsEnd same i m (On (TryInsert key value)) (Answered (if stored then answers.Stored pair else answers.Occupied pair value)) log e)

  -- And the pair that is there then, its own or the other one, has this value.
  abbrev pub HasOne : K → V → V → Type 0
  HasOne key value its = ItsCall (λ i m. WasThere same i m key value its)

  -- It has tried to store what is made: and this is the pair that is there then, its own or the one that stays.
  abbrev pub HasOneWith : K → K × V → Type 0
  HasOneWith key pair = ItsCall (λ i m log e. (stored : Bool) × WasNamed same i m (On (TryInsertWith key)) (λ n. if stored then answers.Stored n else answers.Kept n) pair log e)

  -- It has removed the pair of this key, if there was one: its answer is the number of that pair, or that none was there.
  abbrev pub HasRemoved : K → Bool → Type 0
  HasRemoved key removed = ItsCall (λ i m log e. (pair : Option ℕ) × (is_some pair ≡ removed) × IsItsEnd same i m (On (Remove key)) (Answered (looked pair)) log e)

  -- And it was this one.
  abbrev pub HasRemovedPair : K → K × V → Type 0
  HasRemovedPair key pair = ItsCall (λ i m. WasNamed same i m (On (Remove key)) answers.Found pair)

  -- It has removed the pair of this key, as a test said yes of it: it was this one.
  abbrev pub HasRemovedIfPair : K → K × V → Type 0
  HasRemovedIfPair key pair = ItsCall (λ i m. WasNamed same i m (On (RemoveIf key)) answers.Found pair)

  -- It has left it, as no test said yes of it, or there was none.
  abbrev pub HasKept : K → Type 0
  HasKept key = ItsCall (λ i m log e. (pair : Option ℕ) × IsItsEnd same i m (On (RemoveIf key)) (Answered (kept pair)) log e)

  -- It has done with this key what a closure has said, and this became of this pair.
  abbrev pub HasComputedPair : Became → K → K × V → Type 0
  HasComputedPair became key pair = ItsCall (λ i m log e. (other : ℕ) × WasNamed same i m (On (Compute key)) (computed_so became other) pair log e)

  -- It was to change nothing.
  abbrev pub HasAborted : K → Type 0
  HasAborted key = ItsCall (λ i m log e. (end : V) × IsItsEnd same i m (On (Compute key)) (Answered (answers.Aborted end)) log e)

  -- It was refused so, whatever it wanted.
  abbrev pub HasRefused : Wanted K V → Fault → Type 0
  HasRefused wanted fault = ItsCall (λ i m. IsItsEnd same i m (call_for wanted) (Refused fault))
