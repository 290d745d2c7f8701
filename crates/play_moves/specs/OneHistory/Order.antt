-- That the calls of a caller have got their answers one for one, and in order.
use Rattle.std.specs.Prelude.{◌≡◌, ◌==◌, ◌&&◌, ◌<◌, ◌^◌, ℕ, Bool, true, false, List, [], ◌∷◌, Option, Some}
use Rattle.threads_rule.specs.Given.SeizeSeatsState.{State}
use Rattle.threads_rule.specs.Given.SeizeViewsDeclared.view.Fixed.{Fixed}
use Rattle.run_legal.specs.Given.TablesDeclared.node.Node.{Node}
use Rattle.run_schedules.specs.Given.RawDeclared.machines.progress.Progress.{Progress}
use Rattle.run_schedules.specs.Given.RawDeclared.machines.progress.Progress.TheVariants.{Done}
use Rattle.threads_rule.specs.Views.Listed.{Called, calls_of}
use Rattle.threads_rule.specs.Views.Rule.{MapsWorld, Holds, IsSlot, caller_at}
use Rattle.threads_rule.specs.declared.view.View.{View}
use Rattle.run_schedules.specs.declared.call.Response.{Response}
use Rattle.run_schedules.specs.declared.call.Call.{Call}
use Rattle.run_schedules.specs.declared.outcome.Outcome.TheVariants.{Answered}
use Rattle.run_schedules.specs.Deeds.History.{answers_of}
use Rattle.run_legal.specs.Given.EffectsKnown.{Known}
use Rattle.run_legal.specs.Given.NamedSeen.{kind_of}
use Rattle.play_linear.specs.Given.PlayedPlay.{State as Played, call_for, first_state, outcome_of, play_all}
use Rattle.play_moves.specs.OneHistory.Answered.{IfElse}

-- an answer was told
abbrev pub is_answer : {T : Type 0} → Progress T → Bool
is_answer (Done answer) = true
is_answer _ = false

module _ {K V : Type 0} where
  -- the newest of these answers is that of this call, for what it wanted, as it was told; and the others are so
  abbrev pub IsNewestAnswer : Called K V → (List (Call K V × Response V) → Type 0) → List (Call K V × Response V) → Type 0
  IsNewestAnswer one Others [] = ⊥
  IsNewestAnswer one Others (got ∷ answers) =
      (got.0 ≡ call_for one.wanted) × ((known : Known) × (value : Option V) × (outcome_of known (kind_of (call_for one.wanted)) value one.told ≡ Answered got.1)) × Others answers

  -- Of these calls, the newest first, those of a caller that were answered have got just these answers, one each and in order.
  abbrev pub HaveGot : ℕ → List (Called K V) → List (Call K V × Response V) → Type 0
  HaveGot i [] answers = answers ≡ []
  HaveGot i (one ∷ before) answers = IfElse (is_answer one.told && (one.caller == i)) (IsNewestAnswer one (HaveGot i before) answers) (HaveGot i before answers)

module _ {K S : Type 0} (V : Type 0) (same : K → K → Bool) (hash : S → K → ℕ) where
  -- The promise: wherever the memory stands, the answers that a seat has got in a slot, by the history of what was done, are those that its calls there were told, one
  -- for one and in order.
  abbrev pub CallsAreInOrder : Type 0
  CallsAreInOrder =
      (fixed : Fixed) → fixed.batch_size < 2 ^ 64 → (aborts : ℕ → V) (s : State (Node K V) (View K V S) (MapsWorld K V S)) (h : Holds same hash fixed s) (id t : ℕ) → IsSlot t
      → (after : Played K V S) × (play_all same hash fixed.batch_size fixed.roots aborts s.world.doings (first_state fixed.roots) ≡ Some after)
      × HaveGot (caller_at id t) (calls_of id s.world.doings h.reached.1 []) (answers_of (caller_at id t) after.history)
