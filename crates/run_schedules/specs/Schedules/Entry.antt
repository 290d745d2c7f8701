-- An entry of a log: an event, what it came to, how many steps of a call it made, and what it did.
use Rattle.std.specs.Prelude.{ℕ, Bool, true, false, List, [], ◌∷◌, Option, Some, None, option_map}
use Rattle.seize_words.specs.declared.fault.Fault.TheVariants.{Busy}
use Rattle.run_schedules.specs.declared.event.Event.{Event}
use Rattle.run_schedules.specs.declared.event.Event.TheVariants.{MakeMap, EndMap, Step, Go, Replied, OneCall, Next, Stop}
use Rattle.run_schedules.specs.declared.outcome.Outcome.{Outcome}
use Rattle.run_schedules.specs.declared.outcome.Outcome.TheVariants.{Answered, Refused}
use Rattle.run_schedules.specs.declared.effect.Effect.{Effect}
use Rattle.run_schedules.specs.Schedules.Moment.{UnderWay, Moment}
use Rattle.run_schedules.specs.Schedules.Views.{call_of, number_of}

pub record Entry (K V : Type 0) : Type 0 where
  pub event : Event K V
  pub outcome : Outcome V
  pub steps : ℕ
  pub effects : List Effect

-- out of turn
abbrev pub is_busy : {V : Type 0} → Outcome V → Bool
is_busy (Refused Busy) = true
is_busy _ = false

-- an answer ends a call, and so does each refusal but that of an event out of turn
abbrev pub ends_call : {V : Type 0} → Outcome V → Bool
ends_call (Answered a) = true
ends_call (Refused Busy) = false
ends_call (Refused fault) = true
ends_call _ = false

-- the caller of a whole call that is begun without one: its name is a dash
abbrev pub nameless : List ℕ
nameless = 45 ∷ []

module _ {K V : Type 0} where
  -- whose call takes the steps of an event
  abbrev pub caller_of : Event K V → Option (List ℕ)
  caller_of (OneCall guard map call) = Some nameless
  caller_of (Step caller refuse) = Some caller
  caller_of (Go caller refuse) = Some caller
  caller_of (Next caller) = Some caller
  caller_of _ = None

  -- of which call an event speaks
  abbrev pub speaker : Event K V → Option (List ℕ)
  speaker (Replied caller reply) = Some caller
  speaker (Stop caller) = Some caller
  speaker event = caller_of event

  -- the call of a caller
  abbrev pub acting : Option (List ℕ) → Moment K V → Option (UnderWay K V)
  acting None m = None
  acting (Some caller) m = call_of caller m

  -- on which map an event acts, once it has begun what it begins
  abbrev pub acted_on : Event K V → Moment K V → Option ℕ
  acted_on (EndMap map) m = number_of map m
  acted_on (MakeMap map mode capacity) m = number_of map m
  acted_on event m = option_map (λ c. c.map) (acting (caller_of event) m)

  -- P holds of the call, and there is one
  abbrev pub ByCall : (UnderWay K V → Type 0) → Option (UnderWay K V) → Type 0
  ByCall P None = ⊥
  ByCall P (Some c) = P c

  -- P holds of the call, if there is one
  abbrev pub IfCall : (UnderWay K V → Type 0) → Option (UnderWay K V) → Type 0
  IfCall P None = Unit {0}
  IfCall P (Some c) = P c
