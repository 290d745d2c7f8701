-- No effect changes what a walk has shown, nor which event began a call, nor what it was told.
use Rattle.std.specs.Prelude.{◌≡◌, ℕ, Bool, true, false, List, [], ◌∷◌, Option, Some, if◌then◌else◌}
use Rattle.std.proofs.Common.{refl, ap, sym, ◌∙◌}
use Rattle.run_finds.specs.Given.RunsSame.{is_same}
use Rattle.run_finds.specs.Given.RunsDeclared.call.Call.{Call}
use Rattle.run_finds.specs.Given.RunsDeclared.call.Call.TheVariants as call
use Rattle.run_finds.specs.Given.RunsDeclared.effect.Effect.{Effect}
use Rattle.run_finds.specs.Given.RunsDeclared.effect.Effect.TheVariants as effect
use Rattle.run_finds.specs.Given.RunsDeclared.outcome.Outcome.{Outcome}
use Rattle.run_finds.specs.Given.RunsDeclared.outcome.Outcome.TheVariants as outcome
use Rattle.run_finds.specs.Given.SchedulesAfter.{asks_on, with_outcome}
use Rattle.run_finds.specs.Given.SchedulesEffects.{due_for, call_by, with_effect, with_effects}
use Rattle.run_finds.specs.Given.SchedulesMoment.{CallState, Going, Asking, Told, IsReady, UnderWay as CallThere, Moment}
use Rattle.run_finds.specs.Given.SchedulesViews.{call_of}
use Rattle.run_finds.proofs.Given.FollowsCalls.{changed_same, changed, found}
use Rattle.run_finds.proofs.Given.HandsReplacing.{calls_after}
use Rattle.run_finds.proofs.Given.ChangesBegun.{effects_begun}
use Rattle.run_sweeps.specs.Purposes.Kept.{OutcomeShowsNone}
use Rattle.run_finds.proofs.Given.General.{same_some as one_of}

module _ {K V : Type 0} where
  due_shown : (its : Call K V) (c : CallThere K V) (old : Option ℕ) (new : ℕ) → (due_for its c old new).shown ≡ c.shown
  due_shown (call.On one) c old new = refl
  due_shown (call.Reserve n) c old new = refl
  due_shown call.Clear c old new = refl
  due_shown call.Retain c old new = refl
  due_shown call.Len c old new = refl
  due_shown call.Walk c old new = refl

  by_shown : (m : Moment K V) (f : Effect) (c : CallThere K V) → (call_by m f c).shown ≡ c.shown
  by_shown m (effect.Asked growth) c = refl
  by_shown m effect.PairMade c = refl
  by_shown m effect.PairGivenUp c = refl
  by_shown m (effect.TableMade t) c = refl
  by_shown m (effect.TableGivenUp t) c = refl
  by_shown m (effect.Linked t shape) c = refl
  by_shown m (effect.Promoted t) c = refl
  by_shown m (effect.Copied n s) c = refl
  by_shown m (effect.Stored n s) c = due_shown c.call c c.replacing n
  by_shown m (effect.Replaced n) c = refl
  by_shown m (effect.Removed n) c = due_shown c.call c (Some n) _
  by_shown m (effect.Counted s) c = refl
  by_shown m (effect.Deferred n t) c = refl
  by_shown m (effect.Retired x) c = refl
  by_shown m (effect.Reclaimed x) c = refl
  by_shown m (effect.Ended n) c = refl
  by_shown m (effect.Taken t) c = refl

  if_shown : (change : CallThere K V → CallThere K V) → ((c : CallThere K V) → (change c).shown ≡ c.shown) → (c : CallThere K V) (q : Bool) → (if q then change c else c).shown ≡ c.shown
  if_shown change kept c true = kept c
  if_shown change kept c false = refl

  effects_shown : (own : List ℕ) (acted : ℕ) (name : List ℕ) (effects : List Effect) (m : Moment K V) (c : CallThere K V) → call_of name m ≡ Some c
      → (d : CallThere K V) × (call_of name (with_effects (Some own) (Some acted) effects m) ≡ Some d) × (d.shown ≡ c.shown)
  effects_shown own acted name [] m c is = (c, is, refl)
  effects_shown own acted name (f ∷ effects) m c is =
      let d = changed (call_by m f) (changed_same m f) own c in
      let rest = effects_shown own acted name effects (with_effect (Some own) (Some acted) f m) d (found (call_by m f) (changed_same m f) own name m.calls c is) in
      (rest.0, rest.1, rest.2 ∙ if_shown (call_by m f) (by_shown m f) c (is_same c.caller own))

  -- the call is the same one, begun by the same event, and has been told and has shown what it was told and had shown
  pub record IsStill (c d : CallThere K V) : Type 0 where
    pub call : d.call ≡ c.call
    pub begun : d.begun ≡ c.begun
    pub replies : d.replies ≡ c.replies
    pub shown : d.shown ≡ c.shown
    pub map : d.map ≡ c.map

  pub same_still : (c : CallThere K V) → IsStill c c
  same_still c = record { call = refl; begun = refl; replies = refl; shown = refl; map = refl }

  -- so it is with each call after effects
  pub effects_still : (own : List ℕ) (acted : ℕ) (name : List ℕ) (effects : List Effect) (m : Moment K V) (c d : CallThere K V) → call_of name m ≡ Some c
      → call_of name (with_effects (Some own) (Some acted) effects m) ≡ Some d → IsStill c d
  effects_still own acted name effects m c d c_is d_is =
      let on = calls_after own acted name effects m c c_is in
      let begun = effects_begun own acted name effects m c c_is in
      let shown = effects_shown own acted name effects m c c_is in
      let on_is = one_of d on.0 (sym d_is ∙ on.1) in record {
        call = ap (λ (x : CallThere K V). x.call) on_is ∙ on.2.0.call;
        begun = ap (λ (x : CallThere K V). x.begun) (one_of d begun.0 (sym d_is ∙ begun.1)) ∙ begun.2;
        replies = ap (λ (x : CallThere K V). x.replies) on_is ∙ on.2.0.replies;
        shown = ap (λ (x : CallThere K V). x.shown) (one_of d shown.0 (sym d_is ∙ shown.1)) ∙ shown.2;
        map = ap (λ (x : CallThere K V). x.map) on_is ∙ on.2.0.map;
      }

  asks_still : (question : Option ℕ) (c : CallThere K V) (stands : CallState) → IsStill c (asks_on question c stands)
  asks_still question c Going = record { call = refl; begun = refl; replies = refl; shown = refl; map = refl }
  asks_still question c (Asking q) = same_still c
  asks_still question c Told = record { call = refl; begun = refl; replies = refl; shown = refl; map = refl }
  asks_still question c IsReady = record { call = refl; begun = refl; replies = refl; shown = refl; map = refl }

  -- and with one that comes to an outcome that tells of no pair
  pub comes_still : (o : Outcome V) → OutcomeShowsNone o → (c : CallThere K V) → IsStill c (with_outcome o c)
  comes_still outcome.Done none c = same_still c
  comes_still (outcome.Slot n) none c = same_still c
  comes_still outcome.Goes none c = record { call = refl; begun = refl; replies = refl; shown = refl; map = refl }
  comes_still (outcome.Asks question) none c = asks_still question c c.stands
  comes_still outcome.Waits none c = record { call = refl; begun = refl; replies = refl; shown = refl; map = refl }
  comes_still outcome.Ready none c = record { call = refl; begun = refl; replies = refl; shown = refl; map = refl }
  comes_still (outcome.Shows n) none c = absurd none
  comes_still (outcome.Answered a) none c = same_still c
  comes_still (outcome.Shape tables) none c = same_still c
  comes_still (outcome.Refused fault) none c = same_still c
