-- A call that stores a pair by straight code: what its block and the storing of that come to, and that it has been run then.
use Rattle.std.specs.Prelude.{Option, None, Result, Ok, Err}
use Rattle.std.proofs.Common.{◌≡◌, ℕ, Bool, refl, ◌∙◌}
use Rattle.seize_words.specs.OneMemory.Op.{Make, Made}
use Rattle.map_tables.specs.declared.node.Node.{Node}
use Rattle.map_tables.specs.declared.setting.Setting.{Setting}
use Rattle.papaya_raw.specs.CallPoints.{untried, word_to}
use Rattle.papaya_raw.specs.declared.machines.answer.Called.TheVariants as tells
use Rattle.papaya_raw.specs.declared.machines.answer.There.{There}
use Rattle.papaya_raw.specs.declared.machines.call.Calling.TheVariants as at
use Rattle.papaya_raw.specs.declared.machines.call.KeyCall.{KeyCall}
use Rattle.papaya_raw.specs.declared.machines.machine.Machine.{Machine}
use Rattle.papaya_raw.specs.declared.machines.machine.Machine.TheVariants.{Key, Reserve, Sweep, Count}
use Rattle.papaya_raw.specs.declared.machines.progress.Answer.{Answer}
use Rattle.papaya_raw.specs.declared.machines.progress.Answer.TheVariants.{Key as OfKey}
use Rattle.papaya_raw.specs.declared.machines.progress.Progress.TheVariants as progress
use Rattle.seize_words.specs.declared.fault.Fault.{Fault}
use Rattle.threads_steps.specs.Given.ActsActs.{Wanted}
use Rattle.threads_steps.specs.Given.ViewsDeclared.view.View.{View}
use Rattle.map_straight.specs.Straight.Going.{CallReaches}
use Rattle.map_straight.specs.Straight.Storing.{call_at, stored_at, storing}
use Rattle.map_straight.specs.declared.storing.Stored.{Stored}
use Rattle.map_straight.specs.declared.storing.Stored.TheVariants as stored
use Rattle.threads_errands.specs.Ahead.{HasGone, IsAhead, here, IsSameAhead, LiesAhead, StandsAt, shown_ahead}
use Rattle.threads_steps.specs.Given.ErrandsCalling.{IsReturned, HasCalled, HasEnded, IsCalling, outcome_of}
use Rattle.threads_steps.specs.Given.ErrandsLooking.{Begins, IsOfThem, StaysThere}
use Rattle.threads_steps.specs.Storing.{further, making, refused}
use Rattle.threads_errands.specs.Puts.{HasOwn, HasPut, HasStored, KeepsIt}
use Rattle.threads_errands.specs.declared.ahead.Ahead.{Ahead}
use Rattle.threads_errands.specs.declared.ahead.storing.Put.{Put}
use Rattle.threads_errands.specs.declared.ahead.storing.Put.TheVariants as put
use Rattle.threads_steps.proofs.Given.ErrandsBeginnings.{stays_begun, stays_on}
use Rattle.threads_steps.proofs.Given.ErrandsRuns.{has_run, same_pair}
use Rattle.threads_steps.proofs.Pausing.{ended_on}
use Rattle.threads_steps.proofs.Sinces.{since_on}
use Rattle.threads_errands.proofs.Behind.{at_point, goes_along}
use Rattle.threads_errands.proofs.Standing.{IsAt, answered, led, made_one}

module _ {K V S : Type 0} (same : K → K → Bool) (hash : S → K → ℕ) (hasher : S) where
  -- code stands where its call stands, as it begins,
  pub ahead_here : (call : KeyCall K V K) (v : View K V S) → IsCalling hasher (Key call) v → IsAhead same hash hasher call v
  ahead_here call v is = record { kind = is.none.0; stage = is.none.1; none = is.none.2; behind = call; at = is.at; goes = is.none.3; leads = here call }

  -- and the call where its code stands, once the seat has taken the turns
  pub calling_there : (x : KeyCall K V K) (v w : View K V S) → IsAhead same hash hasher x v → StandsAt (Key x) v w → IsCalling hasher (Key x) w
  calling_there x v w a s = record {
    at = at_point same hash v hasher x w a s;
    none = (a.kind, a.stage, a.none, goes_along same (hash hasher) a.kind a.stage a.behind x a.leads a.goes);
  }

  pub calls_there : (machine : Machine K V K) (v w : View K V S) → LiesAhead same hash hasher machine v → StandsAt machine v w → IsCalling hasher machine w
  calls_there (Key x) v w a s = calling_there x v w a s
  calls_there (Reserve r) v w a s = absurd a
  calls_there (Sweep r) v w a s = absurd a
  calls_there (Count r) v w a s = absurd a

  module _ (setting : Setting) (hashed : ℕ) (present : There) where
    abbrev pub from : ℕ → KeyCall K V K
    from own = storing setting hashed present own untried at.Roots

    pub has_put : (own : ℕ) (end : Stored) (m n : Ahead K V S) → CallReaches same same (hash hasher) (HasGone same hash) shown_ahead (from own) m n (stored_at setting hashed present own end)
        → IsAt same hash hasher (from own) m → HasPut same hash hasher setting hashed present own end m.seat.now.view n.seat.now.view × IsSameAhead m n
    has_put own (stored.Answered answer) m n r is = let a = answered same hash hasher (from own) m n answer r is in ((a.ends, a.stays, a.calls, a.back), a.seat)
    has_put own (stored.Stands trial spot) m n r is =
        let a = led same hash hasher (from own) (call_at setting hashed present own trial spot) m n r is in (((a.at, a.stays, a.calls), λ pair since. a.back pair None since), a.seat)

    -- its block is made,
    pub has_own : (pair : Node K V) (block : ℕ) (m n : Ahead K V S) → HasGone same hash m (Make pair 0) (Made (Ok block)) n → IsAt same hash hasher (making setting hashed present pair) m
        → HasOwn same hash hasher setting hashed present pair (Ok (word_to block hashed)) m.seat.now.view n.seat.now.view × IsSameAhead m n
    has_own pair block m n gone is =
        let x : KeyCall K V K = making setting hashed present pair in let y = from (word_to block hashed) in
        let a = made_one same hash hasher x m is n y tells.Goes (Make pair 0, Made (Ok block), gone, refl, refl) in
        (((a.ahead tt, a.stays, a.calls), λ other since. since_on same (hash hasher) other x y None tells.Goes tt since a.step), a.seat)

    -- or its pair has come back
    pub has_back : (pair node : Node K V) (m n : Ahead K V S) → HasGone same hash m (Make pair 0) (Made (Err node)) n → IsAt same hash hasher (making setting hashed present pair) m
        → HasOwn same hash hasher setting hashed present pair (Err node) m.seat.now.view n.seat.now.view × IsSameAhead m n
    has_back pair node m n gone is =
        let x : KeyCall K V K = making setting hashed present pair in let y : KeyCall K V K = refused setting hashed present in
        let a = made_one same hash hasher x m is n y (tells.Unstored node) (Make pair 0, Made (Err node), gone, refl, refl) in
        (((a.ahead tt, a.stays, a.calls), λ other its since. further (Key x) (Key y) None (progress.Unstored node) since a.step (a.hands other its) tt), a.seat)

    -- what its storing came to is known of the call from where that had begun
    pub stored_since : (x : KeyCall K V K) (own : ℕ) (end : Put K V) (u v w : View K V S) → StaysThere u v → IsOfThem u v → KeepsIt same (hash hasher) x (from own)
        → HasStored same hash hasher setting hashed present (from own) end v w → HasStored same hash hasher setting hashed present x end u w
    stored_since x own (put.Answered answer) u v w stays them keeps s =
        (ended_on (Ok (OfKey answer)) u v w them s.0, stays_on u v w stays s.1, λ pair since. s.2 pair (keeps pair since))
    stored_since x own (put.Stands word trial spot) u v w stays them keeps s =
        ((s.0.0, stays_on u v w stays s.0.1, λ told. s.0.2 told ∙ them told), λ pair since. s.1 pair (keeps pair since))
    stored_since x own (put.Back node) u v w stays them keeps s =
        ((s.0.0, stays_on u v w stays s.0.1, λ told. s.0.2 told ∙ them told), λ pair its since. s.1 pair (same_pair u v them ∙ its) (keeps pair since))

module _ {K V S : Type 0} (same : K → K → Bool) (hash : S → K → ℕ) (wanted : Wanted K V) where
  -- a call that has begun so, and has ended since, has been run
  pub has_called : (answer : Result Answer Fault) (back : Option (Node K V)) (v w u : View K V S) → Begins same hash wanted v w → HasEnded answer w u → StaysThere w u
      → IsReturned wanted answer back → HasCalled same hash wanted answer back v u
  has_called answer back v w u b e stays comes = record {
    free = e.free;
    stays = stays_on v w u (stays_begun same hash wanted v w b) stays;
    ran = has_run same hash wanted (outcome_of answer) v w u b e.told;
    back = comes;
    shows = e.shows;
  }
