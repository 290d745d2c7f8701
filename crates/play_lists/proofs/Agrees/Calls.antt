-- Wherever a list has led, each call that its history has under way has the guard of its caller's slot.
use Rattle.std.specs.Prelude.{◌+◌, not, filter, length, map, Bool, true, false, Option, Some, None, if◌then◌else◌}
use Rattle.std.specs.List.{AllByRecursion}
use Rattle.std.proofs.Common.{◌≡◌, ℕ, List, [], ◌∷◌, refl, ap, ◌∙◌}
use Rattle.run_schedules.specs.Runs.Same.{is_same}
use Rattle.run_schedules.specs.declared.call.Call.{Call}
use Rattle.run_schedules.specs.declared.call.Call.TheVariants as calls
use Rattle.run_schedules.specs.declared.call.Reply.{Reply}
use Rattle.run_schedules.specs.declared.effect.Effect.{Effect}
use Rattle.run_schedules.specs.declared.effect.Effect.TheVariants as effect
use Rattle.run_schedules.specs.declared.outcome.Outcome.{Outcome}
use Rattle.run_schedules.specs.declared.outcome.Outcome.TheVariants as outcome
use Rattle.run_schedules.specs.Schedules.After.{asks_on, with_outcome, replied, stepped, without_call}
use Rattle.run_schedules.specs.Schedules.Effects.{call_by, due_for, with_effect, with_effects}
use Rattle.run_schedules.specs.Schedules.Entry.{ends_call}
use Rattle.run_schedules.specs.Schedules.Moment.{Asking, Going, IsReady, Moment, CallState, Told, UnderWay}
use Rattle.run_kept.specs.Given.EffectsEffects.{effects_of}
use Rattle.run_schedules.specs.Deeds.Deeds.{Deed, Begins, Steps, Replies, Stops, MapComes, Entry, acted_on, after, at_work, begun, caller_of, calls_on, moment, named, worked}
use Rattle.play_lists.specs.Played.Play.{is_refusal}
use Rattle.play_lists.specs.Agrees.Guards.{CallsHaveGuards, HasItsGuard}
use Rattle.play_lists.proofs.Agrees.Entries.{BeginsOnIts, Grows}
use Rattle.play_lists.proofs.Agrees.Lists.{all_kept}

module _ {K V : Type 0} where
  -- it is by the same caller, within the same section
  abbrev AsIts : UnderWay K V → UnderWay K V → Type 0
  AsIts c d = (d.caller ≡ c.caller) × (d.guard ≡ c.guard)

  its_guard : (c d : UnderWay K V) → AsIts c d → HasItsGuard c → HasItsGuard d
  its_guard c d as_its (i, caller_is, guard_is) = (i, as_its.0 ∙ caller_is, as_its.1 ∙ guard_is)

  -- calls of one caller have changed, but not whose they are
  changed_so : (test : UnderWay K V → Bool) (change : UnderWay K V → UnderWay K V) → ((c : UnderWay K V) → AsIts c (change c)) → (cs : List (UnderWay K V)) → AllByRecursion HasItsGuard cs
      → AllByRecursion HasItsGuard (map (λ c. if test c then change c else c) cs)
  changed_so test change as_its [] all = tt
  changed_so test change as_its (c ∷ cs) all = (by (test c), changed_so test change as_its cs all.1)
    where
      by : (q : Bool) → HasItsGuard (if q then change c else c)
      by true = its_guard c (change c) (as_its c) all.0
      by false = all.0

  kept_so : (keep : UnderWay K V → Bool) (cs : List (UnderWay K V)) → AllByRecursion HasItsGuard cs → AllByRecursion HasItsGuard (filter keep cs)
  kept_so keep cs all = all_kept HasItsGuard HasItsGuard keep cs (λ c kept so. so) all

  due_same : (call : Call K V) (c : UnderWay K V) (old : Option ℕ) (new : ℕ) → AsIts c (due_for call c old new)
  due_same (calls.On one) c old new = (refl, refl)
  due_same _ c old new = (refl, refl)

  effect_same : (m : Moment K V) (f : Effect) (c : UnderWay K V) → AsIts c (call_by m f c)
  effect_same m (effect.Stored n s) c = due_same c.call c c.replacing n
  effect_same m (effect.Removed n) c = due_same c.call c (Some n) (length m.stored + 1)
  effect_same m _ c = (refl, refl)

  one_effect : (caller : Option (List ℕ)) (acted : Option ℕ) (f : Effect) (m : Moment K V) → CallsHaveGuards m → CallsHaveGuards (with_effect caller acted f m)
  one_effect None acted f m all = all
  one_effect (Some own) acted f m all = changed_so (λ c. is_same c.caller own) (call_by m f) (effect_same m f) m.calls all

  effects_so : (caller : Option (List ℕ)) (acted : Option ℕ) (effects : List Effect) (m : Moment K V) → CallsHaveGuards m → CallsHaveGuards (with_effects caller acted effects m)
  effects_so caller acted [] m all = all
  effects_so caller acted (f ∷ effects) m all = effects_so caller acted effects (with_effect caller acted f m) (one_effect caller acted f m all)

  begun_so : (d : Deed K V) (m : Moment K V) → BeginsOnIts d → CallsHaveGuards m → CallsHaveGuards (begun d m)
  begun_so (Begins i s map call) m its all = ((i, refl, ap named its), all)
  begun_so (MapComes map root mode capacity) m its all = all
  begun_so _ m its all = all

  asked_same : (question : Option ℕ) (c : UnderWay K V) (stands : CallState) → AsIts c (asks_on question c stands)
  asked_same question c Going = (refl, refl)
  asked_same question c (Asking q) = (refl, refl)
  asked_same question c Told = (refl, refl)
  asked_same question c IsReady = (refl, refl)

  come_same : (o : Outcome V) (c : UnderWay K V) → AsIts c (with_outcome o (record c { steps = c.steps + 1 }))
  come_same outcome.Goes c = (refl, refl)
  come_same outcome.Waits c = (refl, refl)
  come_same (outcome.Asks question) c = asked_same question (record c { steps = c.steps + 1 }) c.stands
  come_same outcome.Ready c = (refl, refl)
  come_same (outcome.Shows n) c = (refl, refl)
  come_same _ c = (refl, refl)

  replied_same : (reply : Reply V) (c : UnderWay K V) (stands : CallState) → AsIts c (replied reply c stands)
  replied_same reply c Going = (refl, refl)
  replied_same reply c (Asking q) = (refl, refl)
  replied_same reply c Told = (refl, refl)
  replied_same reply c IsReady = (refl, refl)

  stepped_so : (caller : Option (List ℕ)) (o : Outcome V) (cs : List (UnderWay K V)) → AllByRecursion HasItsGuard cs → AllByRecursion HasItsGuard (stepped caller o 1 cs)
  stepped_so None o cs all = all
  stepped_so (Some own) o cs all = by (ends_call o)
    where
      by : (q : Bool) → AllByRecursion HasItsGuard (if q then without_call own cs else map (λ c. if is_same c.caller own then with_outcome o (record c { steps = c.steps + 1 }) else c) cs)
      by true = kept_so (λ c. not (is_same c.caller own)) cs all
      by false = changed_so (λ c. is_same c.caller own) (λ c. with_outcome o (record c { steps = c.steps + 1 })) (come_same o) cs all

  calls_so : (d : Deed K V) (o : Outcome V) (cs : List (UnderWay K V)) → AllByRecursion HasItsGuard cs → AllByRecursion HasItsGuard (calls_on d o cs)
  calls_so (Replies i reply) outcome.Goes cs all = changed_so (λ c. is_same c.caller (named i)) (λ c. replied reply c c.stands) (λ c. replied_same reply c c.stands) cs all
  calls_so (Stops i) outcome.Goes cs all = all
  calls_so (Stops i) _ cs all = kept_so (λ c. not (is_same c.caller (named i))) cs all
  calls_so (Steps i) o cs all = stepped_so (Some (named i)) o cs all
  calls_so _ _ cs all = all

  -- So it is after an entry.
  pub entry_so : (e : Entry K V) (m : Moment K V) → BeginsOnIts e.deed → CallsHaveGuards m → CallsHaveGuards (after e m)
  entry_so e m its all =
      calls_so e.deed e.outcome (worked e m).calls (effects_so (caller_of e.deed) (acted_on e.deed (at_work e m)) e.effects (at_work e m) (begun_so e.deed m its all))

-- So it is wherever a list has led.
pub calls_have_guards : (K V : Type 0) → Grows K V (λ log. CallsHaveGuards (moment log))
calls_have_guards K V = record {
  quiet = λ log d o its all. entry_so (record { deed = d; outcome = o; effects = []; refused = false }) (moment log) its all;
  works = λ log who known changed d o its all.
      entry_so (record { deed = d; outcome = o; effects = effects_of who known changed; refused = is_refusal changed }) (moment log) its all;
}
