-- No effect changes which event began a call.
use Rattle.std.specs.Prelude.{◌≡◌, ℕ, Bool, true, false, List, [], ◌∷◌, Option, Some, if◌then◌else◌}
use Rattle.std.proofs.Common.{refl, ◌∙◌}
use Rattle.run_shows.specs.Given.RunsSame.{is_same}
use Rattle.run_shows.specs.Given.RunsDeclared.call.Call.{Call}
use Rattle.run_shows.specs.Given.RunsDeclared.call.Call.TheVariants as call
use Rattle.run_shows.specs.Given.RunsDeclared.call.Reply.{Reply}
use Rattle.run_shows.specs.Given.RunsDeclared.effect.Effect.{Effect}
use Rattle.run_shows.specs.Given.RunsDeclared.effect.Effect.TheVariants as effect
use Rattle.run_shows.specs.Given.RunsDeclared.outcome.Outcome.{Outcome}
use Rattle.run_shows.specs.Given.RunsDeclared.outcome.Outcome.TheVariants as outcome
use Rattle.run_shows.specs.Given.SchedulesAfter.{asks_on, with_outcome, replied}
use Rattle.run_shows.specs.Given.SchedulesEffects.{due_for, call_by, with_effect, with_effects}
use Rattle.run_shows.specs.Given.SchedulesMoment.{CallState, Going, Asking, Told, IsReady, UnderWay as CallThere, Moment}
use Rattle.run_shows.specs.Given.SchedulesViews.{call_of}
use Rattle.run_shows.proofs.Follows.Calls.{changed_same, changed, found}

module _ {K V : Type 0} where
  due_begun : (its : Call K V) (c : CallThere K V) (old : Option ℕ) (new : ℕ) → (due_for its c old new).begun ≡ c.begun
  due_begun (call.On one) c old new = refl
  due_begun (call.Reserve n) c old new = refl
  due_begun call.Clear c old new = refl
  due_begun call.Retain c old new = refl
  due_begun call.Len c old new = refl
  due_begun call.Walk c old new = refl

  by_begun : (m : Moment K V) (f : Effect) (c : CallThere K V) → (call_by m f c).begun ≡ c.begun
  by_begun m (effect.Asked growth) c = refl
  by_begun m effect.PairMade c = refl
  by_begun m effect.PairGivenUp c = refl
  by_begun m (effect.TableMade t) c = refl
  by_begun m (effect.TableGivenUp t) c = refl
  by_begun m (effect.Linked t shape) c = refl
  by_begun m (effect.Promoted t) c = refl
  by_begun m (effect.Copied n s) c = refl
  by_begun m (effect.Stored n s) c = due_begun c.call c c.replacing n
  by_begun m (effect.Replaced n) c = refl
  by_begun m (effect.Removed n) c = due_begun c.call c (Some n) _
  by_begun m (effect.Counted s) c = refl
  by_begun m (effect.Deferred n t) c = refl
  by_begun m (effect.Retired x) c = refl
  by_begun m (effect.Reclaimed x) c = refl
  by_begun m (effect.Ended n) c = refl
  by_begun m (effect.Taken t) c = refl

  pub if_begun : (change : CallThere K V → CallThere K V) → ((c : CallThere K V) → (change c).begun ≡ c.begun) → (c : CallThere K V) (q : Bool) → (if q then change c else c).begun ≡ c.begun
  if_begun change kept c true = kept c
  if_begun change kept c false = refl

  -- each call is found after effects, begun by the same event
  pub effects_begun : (own : List ℕ) (acted : ℕ) (name : List ℕ) (effects : List Effect) (m : Moment K V) (c : CallThere K V) → call_of name m ≡ Some c
      → (d : CallThere K V) × (call_of name (with_effects (Some own) (Some acted) effects m) ≡ Some d) × (d.begun ≡ c.begun)
  effects_begun own acted name [] m c is = (c, is, refl)
  effects_begun own acted name (f ∷ effects) m c is =
      let d = changed (call_by m f) (changed_same m f) own c in
      let rest = effects_begun own acted name effects (with_effect (Some own) (Some acted) f m) d (found (call_by m f) (changed_same m f) own name m.calls c is) in
      (rest.0, rest.1, rest.2 ∙ if_begun (call_by m f) (by_begun m f) c (is_same c.caller own))

  pub replied_begun : (reply : Reply V) (c : CallThere K V) (stands : CallState) → (replied reply c stands).begun ≡ c.begun
  replied_begun reply c Going = refl
  replied_begun reply c (Asking q) = refl
  replied_begun reply c Told = refl
  replied_begun reply c IsReady = refl

  asks_begun : (question : Option ℕ) (c : CallThere K V) (stands : CallState) → (asks_on question c stands).begun ≡ c.begun
  asks_begun question c Going = refl
  asks_begun question c (Asking q) = refl
  asks_begun question c Told = refl
  asks_begun question c IsReady = refl

  pub comes_begun : (o : Outcome V) (c : CallThere K V) → (with_outcome o c).begun ≡ c.begun
  comes_begun outcome.Done c = refl
  comes_begun (outcome.Slot n) c = refl
  comes_begun outcome.Goes c = refl
  comes_begun (outcome.Asks question) c = asks_begun question c c.stands
  comes_begun outcome.Waits c = refl
  comes_begun outcome.Ready c = refl
  comes_begun (outcome.Shows n) c = refl
  comes_begun (outcome.Answered a) c = refl
  comes_begun (outcome.Shape tables) c = refl
  comes_begun (outcome.Refused fault) c = refl
