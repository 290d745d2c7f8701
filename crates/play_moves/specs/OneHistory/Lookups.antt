-- That a lookup which a seat knows to have ended was answered as the finite map of its map said for the key at a moment since the lookup began.
use Rattle.std.specs.Prelude.{◌≡◌, ◌⊎◌, ◌<◌, ◌^◌, ◌++◌, ℕ, Bool, List, [], ◌∷◌, Some}
use Rattle.threads_rule.specs.Given.SeizeSeatsState.{State, view_of}
use Rattle.threads_rule.specs.Given.SeizeViewsDeclared.view.Fixed.{Fixed}
use Rattle.run_legal.specs.Given.TablesDeclared.node.Node.{Node}
use Rattle.run_schedules.specs.Given.RawDeclared.machines.answer.KeyAnswer.{KeyAnswer}
use Rattle.run_schedules.specs.Given.RawDeclared.machines.answer.KeyAnswer.TheVariants.{Absent, Found}
use Rattle.run_schedules.specs.Given.RawDeclared.machines.progress.Answer.TheVariants.{Key}
use Rattle.run_schedules.specs.Given.RawDeclared.machines.progress.Progress.TheVariants.{Done}
use Rattle.threads_rule.specs.Views.Begun.{machine_for}
use Rattle.threads_rule.specs.Views.Rule.{MapsWorld, Holds, caller_at}
use Rattle.threads_rule.specs.declared.view.Map.{Map}
use Rattle.threads_rule.specs.declared.view.BegunCall.{BegunCall}
use Rattle.threads_rule.specs.declared.view.View.{View}
use Rattle.run_schedules.specs.Schedules.Lists.{OneOf}
use Rattle.run_schedules.specs.Schedules.Moment.{UnderWay}
use Rattle.run_schedules.specs.Schedules.Sequential.{looked}
use Rattle.run_schedules.specs.Schedules.Views.{call_of, finite_map}
use Rattle.run_schedules.specs.declared.call.Response.{Response}
use Rattle.run_schedules.specs.declared.call.Response.TheVariants as answers
use Rattle.run_schedules.specs.declared.call.Call.TheVariants.{On}
use Rattle.run_schedules.specs.declared.call.OneKey.TheVariants.{Get}
use Rattle.run_schedules.specs.declared.outcome.Outcome.TheVariants.{Answered}
use Rattle.run_schedules.specs.Deeds.Deeds.{Entry, Steps, moment, named}
use Rattle.run_schedules.specs.Deeds.History.{moments_from}
use Rattle.play_linear.specs.Given.PlayedPlay.{State as Played, first_state, play_all}
use Rattle.threads_rule.specs.Given.ActsActs.{Get as GetsKey}
use Rattle.run_schedules.specs.Runs.Log.{pair_at}

module _ {K V : Type 0} (same : K → K → Bool) where
  -- By this entry the caller's call on this map, to get this key, is answered this, and at a moment since it began the finite map of that map had just that for the key: a pair, or none.
  pub record WasSo (i map : ℕ) (key : K) (answer : Response V) (log : List (Entry K V)) (e : Entry K V) : Type 0 where
    pub deed : e.deed ≡ Steps i
    pub comes : e.outcome ≡ Answered answer
    pub there : UnderWay K V
    pub here : call_of (named i) (moment log) ≡ Some there
    pub on : there.map ≡ map
    pub what : there.call ≡ On (Get key)
    pub so : OneOf (λ m. looked (finite_map same map m key) ≡ answer) (moments_from there.begun log)

  -- somewhere in the history
  abbrev pub IsLookedUp : List (Entry K V) → ℕ → ℕ → K → Response V → Type 0
  IsLookedUp [] i map key answer = ⊥
  IsLookedUp (e ∷ log) i map key answer = WasSo i map key answer log e ⊎ IsLookedUp log i map key answer

  -- By this entry it is answered with a pair, which the finite map had for the key at that moment; and the pair that is stored under this number has this value.
  pub record WasHad (i map : ℕ) (key : K) (value : V) (log : List (Entry K V)) (e : Entry K V) : Type 0 where
    pub number : ℕ
    pub found : WasSo i map key (answers.Found number) log e
    pub stored : K
    pub pair : pair_at (moment (e ∷ log)).stored number ≡ Some (stored, value)

-- a pair was found, or none
abbrev pub IsSuch : {V : Type 0} → KeyAnswer → Response V → Type 0
IsSuch Absent answer = answer ≡ answers.Absent
IsSuch (Found word) answer = (n : ℕ) × (answer ≡ answers.Found n)
IsSuch told answer = ⊥

module _ {K S : Type 0} (V : Type 0) (same : K → K → Bool) (hash : S → K → ℕ) where
  -- The promise: what a seat was told of a key that it has looked up, in this slot, on the map that it knows, was so at a moment since it began to look, by the history of
  -- what was done, wherever the memory stands: there was no pair for the key, or there was one.
  abbrev pub LookupsWereSo : Type 0
  LookupsWereSo =
      (fixed : Fixed) → fixed.batch_size < 2 ^ 64 → (aborts : ℕ → V) (id t : ℕ) (v : View K V S) (map : Map S) (key : K) (run : BegunCall K V) (later before : List (BegunCall K V)) (told : KeyAnswer)
      → v.map ≡ Some map → v.calls ≡ later ++ run ∷ before → run.map ≡ map.number → run.began ≡ machine_for same hash map t (GetsKey key) → run.told ≡ Done (Key told)
      → (s : State (Node K V) (View K V S) (MapsWorld K V S)) → Holds same hash fixed s → view_of s id ≡ Some v
      → (after : Played K V S) × (play_all same hash fixed.batch_size fixed.roots aborts s.world.doings (first_state fixed.roots) ≡ Some after)
      × (answer : Response V) × IsSuch told answer × IsLookedUp same after.history (caller_at id t) map.number key answer
