-- What is in turn, and that what comes to what it must comes to what is right.
use Rattle.std.specs.Prelude.{◌≡◌, ℕ, Bool, true, false, List, [], ◌∷◌, MatchBool}
use Rattle.std.proofs.Common.{sym, subst}
use Rattle.seize_words.specs.declared.fault.Fault.TheVariants.{Busy}
use Rattle.run_schedules.specs.declared.effect.Effect.{Effect}
use Rattle.run_schedules.specs.declared.event.Event.{Event}
use Rattle.run_schedules.specs.declared.outcome.Outcome.{Outcome}
use Rattle.run_schedules.specs.declared.outcome.Outcome.TheVariants.{Refused}
use Rattle.run_schedules.specs.Schedules.After.{moment}
use Rattle.run_schedules.specs.Schedules.Entry.{Entry}
use Rattle.run_schedules.specs.Schedules.InTurn.{HasRightOutcome, HasOutcome, InTurn, IsKeptOut}
use Rattle.run_schedules.specs.Schedules.Terms.{Terms}
use Rattle.play_scheduler.specs.Played.{IsInTurn, IsPlayed, Plays, entry_of}
use Rattle.play_scheduler.specs.declared.played.Played.{Played}
use Rattle.play_scheduler.specs.declared.scheduler.Scheduler.{Scheduler}

module _ {V : Type 0} (wanted : Outcome V → Type 0) where
  pub in_turn : (turn : Bool) (outcome : Outcome V) → turn ≡ true → wanted outcome → InTurn turn wanted outcome
  in_turn turn outcome is so = subst (λ (b : Bool). MatchBool b (wanted outcome) (outcome ≡ Refused Busy)) (sym is) so

  pub out_of_turn : (turn : Bool) (outcome : Outcome V) → turn ≡ false → outcome ≡ Refused Busy → InTurn turn wanted outcome
  out_of_turn turn outcome is so = subst (λ (b : Bool). MatchBool b (wanted outcome) (outcome ≡ Refused Busy)) (sym is) so

module _ {K V : Type 0} where
  pub comes_right : (terms : Terms) (log : List (Entry K V)) (e : Entry K V) → (moment log).is_closed ≡ false → HasOutcome terms log (moment log) e e.event e.outcome → HasRightOutcome terms log e
  comes_right terms log e is to = subst (λ (b : Bool). MatchBool b (IsKeptOut e.event e.outcome) (HasOutcome terms log (moment log) e e.event e.outcome)) (sym is) to

  -- an event that came to this, by so many steps, which did this
  abbrev pub entry : Event K V → Outcome V → ℕ → List Effect → Entry K V
  entry event outcome steps effects = record { event = event; outcome = outcome; steps = steps; effects = effects }

  -- and nothing
  abbrev pub quiet : Event K V → Outcome V → Entry K V
  quiet event outcome = entry event outcome 0 []

  pub entry_is : (event : Event K V) (played : Played V) (outcome : Outcome V) (steps : ℕ) (effects : List Effect) → played.outcome ≡ outcome → played.steps ≡ steps → played.effects.items ≡ effects
      → entry_of event played ≡ entry event outcome steps effects
  entry_is event played outcome steps effects a b c = λ i. entry event (a i) (b i) (c i)

module _ {K V S : Type 0} (same : K → K → Bool) (hash : K → ℕ) (terms : Terms) (log : List (Entry K V)) (event : Event K V) (p : Scheduler K V S) where
  -- what is promised of an event that came to what it must
  pub plays : {q : Scheduler K V S} → IsInTurn same hash terms log event q → (e : Entry K V) → e.event ≡ event → HasOutcome terms log (moment log) e e.event e.outcome → IsPlayed same hash terms (e ∷ log) p
      → Plays same hash terms log e p
  plays due e is to played = record { right = comes_right terms log e (subst (λ (x : Event K V). (moment log).is_closed ≡ false) (sym is) due.in_turn) to; played = played }

module _ {K V S : Type 0} (same : K → K → Bool) (hash : K → ℕ) (terms : Terms) (log : List (Entry K V)) (p : Scheduler K V S) (event : Event K V) (played : Played V) where
  -- what is told of an event is what it came to
  pub so_played : (outcome : Outcome V) (steps : ℕ) (effects : List Effect) → played.outcome ≡ outcome → played.steps ≡ steps → played.effects.items ≡ effects
      → Plays same hash terms log (entry event outcome steps effects) p → Plays same hash terms log (entry_of event played) p
  so_played outcome steps effects a b c it = subst (λ (e : Entry K V). Plays same hash terms log e p) (sym (entry_is event played outcome steps effects a b c)) it
