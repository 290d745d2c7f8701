-- What an event of a form gives back is what is promised of any.
use Rattle.std.specs.Prelude.{◌≡◌, ℕ, Bool, true, false, List, [], flat_map, Result, Ok, Err, IfOk}
use Rattle.std.proofs.Common.{refl, sym, subst, ◌∙◌}
use Rattle.std.proofs.lemmas.List.{append-nil}
use Rattle.run_schedules.specs.declared.ended.Pair.{Pair}
use Rattle.run_schedules.specs.declared.effect.Effect.{Effect}
use Rattle.run_schedules.specs.declared.event.Event.{Event}
use Rattle.run_schedules.specs.declared.event.Event.TheVariants.{Begin, Step, Go, Replied, OneCall, Next, Stop}
use Rattle.run_schedules.specs.Schedules.Effects.{pairs_back}
use Rattle.play_events.specs.Given.LoggedBack.{ComesBack}
use Rattle.play_events.specs.Given.SchedulerBack.{GivesAllBack, GivesBack}
use Rattle.play_events.specs.Given.SchedulerDeclared.played.Played.{Played}
use Rattle.play_events.specs.Given.SchedulerDeclared.scheduler.Scheduler.{Scheduler}
use Rattle.play_events.specs.Events.Asked.{is_of_calls}
use Rattle.papaya_steps.specs.WholeRuns.Back.{GivesAt, GivesDue, ReclaimsBy}
use Rattle.papaya_steps.proofs.WholeRuns.Happened.{due_so}

module _ {K V : Type 0} where
  -- such an event reclaims no pair
  abbrev pub ReclaimsNone : Event K V → Type 0
  ReclaimsNone event = (did : List Effect) → ReclaimsBy event did → flat_map pairs_back did ≡ []

  pub calls_reclaim_none : (event : Event K V) → is_of_calls event ≡ true → ReclaimsNone event
  calls_reclaim_none (Begin caller guard name call) e did none = none
  calls_reclaim_none (Step caller refuse) e did none = none
  calls_reclaim_none (Go caller refuse) e did none = none
  calls_reclaim_none (Replied caller reply) e did none = none
  calls_reclaim_none (OneCall guard name call) e did none = none
  calls_reclaim_none (Next caller) e did none = none
  calls_reclaim_none (Stop caller) e did none = none
  calls_reclaim_none _ e did none = absurd (cc e)

  -- nothing has come back
  quiet : (stored : List (K × V)) (did : List Effect) (b : List (Pair K V)) → flat_map pairs_back did ≡ [] → ComesBack stored did b b
  quiet stored did b none = record { more = []; follow = sym (append-nil b); reclaimed = sym none; contents = tt }

module _ {K V S : Type 0} (same : K → K → Bool) (hash : K → ℕ) (event form : Event K V) (is : event ≡ form) (old : Scheduler K V S) where
  -- what gives nothing back,
  pub gave_none : ReclaimsNone form → (played : Played V) (b : List (Pair K V)) → GivesDue same hash event played old b b
  gave_none none played b terms log holds out reclaims =
      quiet _ played.effects.items b (none played.effects.items (subst (λ (x : Event K V). ReclaimsBy x played.effects.items) is reclaims))

  pub gave_none_if : {X : Type 0} → ReclaimsNone form → (result : Result (Played V) X) (b : List (Pair K V)) → IfOk result (λ played. GivesDue same hash event played old b b)
  gave_none_if none (Ok played) b = gave_none none played b
  gave_none_if none (Err x) b = tt

  -- what gives back what it reclaims,
  pub gave : {X : Type 0} (result : Result (Played V) X) (b0 b1 : List (Pair K V)) → IfOk result (λ played. (same : K → K → Bool) (hash : K → ℕ) → GivesBack same hash form played old b0 b1)
      → IfOk result (λ played. GivesDue same hash event played old b0 b1)
  gave (Ok played) b0 b1 gives = λ terms log holds out reclaims. gives same hash terms log (due_so same hash event form is old terms log holds out)
  gave (Err x) b0 b1 gives = tt

  -- and what reclaims everything
  pub gave_all : {X : Type 0} (result : Result (Played V) X) (b0 b1 : List (Pair K V)) → IfOk result (λ played. (same : K → K → Bool) (hash : K → ℕ) → GivesAllBack same hash form played old b0 b1)
      → IfOk result (λ played. GivesDue same hash event played old b0 b1)
  gave_all (Ok played) b0 b1 gives = λ terms log holds out reclaims. gives same hash terms log (due_so same hash event form is old terms log holds out) holds.gives
  gave_all (Err x) b0 b1 gives = tt

-- An event is kept out, or in turn.
module _ {K V S : Type 0} (same : K → K → Bool) (hash : K → ℕ) (event : Event K V) (old : Scheduler K V S) where
  pub gave_out : (played : Played V) (b : List (Pair K V)) → played.effects.items ≡ [] → GivesAt same hash event played old b b
  gave_out played b none terms log holds reclaims = quiet _ played.effects.items b (subst (λ (xs : List Effect). flat_map pairs_back xs ≡ []) (sym none) refl)

  pub gave_in_turn : {X : Type 0} (result : Result (Played V) X) (b0 b1 : List (Pair K V)) → IfOk result (λ played. GivesDue same hash event played old b0 b1) → old.is_closed ≡ false
      → IfOk result (λ played. GivesAt same hash event played old b0 b1)
  gave_in_turn (Ok played) b0 b1 gives out = λ terms log holds reclaims. gives terms log holds (holds.stands.closed ∙ out) reclaims
  gave_in_turn (Err x) b0 b1 gives out = tt
