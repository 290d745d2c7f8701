-- Effects of a call leave all that is seen of calls by name, and whether a map was to be made, or the collector has ended.
use Rattle.std.specs.Prelude.{◌≡◌, ℕ, Bool, true, false, List, [], ◌∷◌, map, Option, Some, if◌then◌else◌}
use Rattle.std.proofs.Common.{refl, ◌∙◌}
use Rattle.run_schedules.specs.Runs.Same.{is_same}
use Rattle.run_schedules.specs.declared.call.Call.{Call}
use Rattle.run_schedules.specs.declared.call.Call.TheVariants.{On}
use Rattle.run_schedules.specs.declared.effect.Effect.{Effect}
use Rattle.run_schedules.specs.declared.effect.Effect.TheVariants.{Removed, Stored}
use Rattle.run_schedules.specs.Schedules.Effects.{call_by, due_for, with_effect, with_effects}
use Rattle.run_schedules.specs.Schedules.Moment.{UnderWay as CallThere, Moment}
use Rattle.run_executor.specs.Named.Seen.{seen}
use Rattle.play_scheduler.proofs.Given.RowsLists.{unseen}

module _ {K V : Type 0} where
  due_seen : (call : Call K V) (c : CallThere K V) (old : Option ℕ) (new : ℕ) → seen (due_for call c old new) ≡ seen c
  due_seen (On one) c old new = refl
  due_seen _ c old new = refl

  -- of one call, by one effect of it
  effect_seen : (m : Moment K V) (f : Effect) (c : CallThere K V) → seen (call_by m f c) ≡ seen c
  effect_seen m (Stored n s) c = due_seen c.call c c.replacing n
  effect_seen m (Removed n) c = due_seen c.call c (Some n) _
  effect_seen m _ c = refl

  one_seen : (own : List ℕ) (m : Moment K V) (f : Effect) (c : CallThere K V) → seen (if is_same c.caller own then call_by m f c else c) ≡ seen c
  one_seen own m f c = by (is_same c.caller own)
    where
      by : (b : Bool) → seen (if b then call_by m f c else c) ≡ seen c
      by true = effect_seen m f c
      by false = refl

  -- of all calls, by all of them
  pub calls_seen : (own : List ℕ) (acted : Option ℕ) (effects : List Effect) (m : Moment K V) → map seen (with_effects (Some own) acted effects m).calls ≡ map seen m.calls
  calls_seen own acted [] m = refl
  calls_seen own acted (f ∷ effects) m =
      calls_seen own acted effects (with_effect (Some own) acted f m) ∙ unseen seen (λ c. if is_same c.caller own then call_by m f c else c) (one_seen own m f) m.calls

  pub mapped_stays : (caller : Option (List ℕ)) (acted : Option ℕ) (effects : List Effect) (m : Moment K V) → (with_effects caller acted effects m).is_mapped ≡ m.is_mapped
  mapped_stays caller acted [] m = refl
  mapped_stays caller acted (f ∷ effects) m = mapped_stays caller acted effects (with_effect caller acted f m)

  pub closed_stays : (caller : Option (List ℕ)) (acted : Option ℕ) (effects : List Effect) (m : Moment K V) → (with_effects caller acted effects m).is_closed ≡ m.is_closed
  closed_stays caller acted [] m = refl
  closed_stays caller acted (f ∷ effects) m = closed_stays caller acted effects (with_effect caller acted f m)
