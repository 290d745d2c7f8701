-- That a call which a seat knows to have ended stands in the history, has come to what its seat was told, and that this is so.
use Rattle.std.specs.Prelude.{◌≡◌, ◌⊎◌, ◌<◌, ◌^◌, ◌++◌, ℕ, Bool, true, false, List, [], ◌∷◌, Option, Some}
use Rattle.threads_rule.specs.Given.SeizeSeatsState.{State, view_of}
use Rattle.threads_rule.specs.Given.SeizeViewsDeclared.view.Fixed.{Fixed}
use Rattle.run_legal.specs.Given.TablesDeclared.node.Node.{Node}
use Rattle.threads_rule.specs.Views.Begun.{machine_for}
use Rattle.threads_rule.specs.Views.Listed.{plain}
use Rattle.threads_rule.specs.Views.Rule.{MapsWorld, Holds, caller_at}
use Rattle.threads_rule.specs.declared.view.Map.{Map}
use Rattle.threads_rule.specs.declared.view.BegunCall.{BegunCall}
use Rattle.threads_rule.specs.declared.view.View.{View}
use Rattle.run_schedules.specs.Schedules.Moment.{UnderWay}
use Rattle.run_schedules.specs.Schedules.Views.{call_of}
use Rattle.run_schedules.specs.declared.call.Call.{Call}
use Rattle.run_schedules.specs.declared.outcome.Outcome.{Outcome}
use Rattle.threads_rule.specs.Given.ActsActs.{Wanted}
use Rattle.run_schedules.specs.Deeds.Deeds.{Entry, Steps, moment, named}
use Rattle.run_schedules.specs.Deeds.History.{IsLinearizable, is_of}
use Rattle.run_legal.specs.Given.EffectsKnown.{Known}
use Rattle.run_legal.specs.Given.NamedSeen.{kind_of}
use Rattle.play_linear.specs.Given.PlayedPlay.{State as Played, call_for, first_state, outcome_of, play_all}
use Rattle.run_legal.specs.Given.ScenesStepping.{has_ended}

-- one of two, by a test
abbrev pub IfElse : Bool → Type 0 → Type 0 → Type 0
IfElse true A B = A
IfElse false A B = B

module _ {K V : Type 0} where
  -- of the steps of this caller's calls the newest one is such an entry
  abbrev pub ByNewest : ℕ → (List (Entry K V) → Entry K V → Type 0) → List (Entry K V) → Type 0
  ByNewest i So [] = ⊥
  ByNewest i So (e ∷ log) = IfElse (is_of i e.deed) (So log e) (ByNewest i So log)

module _ {K V : Type 0} (same : K → K → Bool) where
  -- By this entry the caller's call terminates: it has this call under way on this map, which comes to this; and that is so: an answer is what the call means
  -- in the finite map of its map at a moment since it began, or its obligations since it changed that.
  pub record IsItsEnd (i map : ℕ) (call : Call K V) (outcome : Outcome V) (log : List (Entry K V)) (e : Entry K V) : Type 0 where
    pub deed : e.deed ≡ Steps i
    pub comes : e.outcome ≡ outcome
    pub there : UnderWay K V
    pub here : call_of (named i) (moment log) ≡ Some there
    pub on : there.map ≡ map
    pub what : there.call ≡ call
    pub right : IsLinearizable same log e

  -- somewhere in the history
  abbrev pub IsAnswered : List (Entry K V) → ℕ → ℕ → Call K V → Outcome V → Type 0
  IsAnswered [] i map call outcome = ⊥
  IsAnswered (e ∷ log) i map call outcome = IsItsEnd i map call outcome log e ⊎ IsAnswered log i map call outcome

module _ {K S : Type 0} (V : Type 0) (same : K → K → Bool) (hash : S → K → ℕ) where
  -- The promise: a seat that knows a map, and of a call for this on it, in this slot, that it has ended, finds it in the history, wherever the memory stands; and it has
  -- come to what the seat was told, in the words of the history.
  abbrev pub SeatsAreAnswered : Type 0
  SeatsAreAnswered =
      (fixed : Fixed) → fixed.batch_size < 2 ^ 64 → (aborts : ℕ → V) (id t : ℕ) (v : View K V S) (map : Map S) (wanted : Wanted K V) (run : BegunCall K V) (later before : List (BegunCall K V))
      → v.map ≡ Some map → v.calls ≡ later ++ run ∷ before → run.map ≡ map.number → plain wanted ≡ wanted → run.began ≡ machine_for same hash map t wanted → has_ended run.told ≡ true
      → (s : State (Node K V) (View K V S) (MapsWorld K V S)) → Holds same hash fixed s → view_of s id ≡ Some v
      → (after : Played K V S) × (play_all same hash fixed.batch_size fixed.roots aborts s.world.doings (first_state fixed.roots) ≡ Some after)
      × (known : Known) × (value : Option V)
      × IsAnswered same after.history (caller_at id t) map.number (call_for wanted) (outcome_of known (kind_of (call_for wanted)) value run.told)
