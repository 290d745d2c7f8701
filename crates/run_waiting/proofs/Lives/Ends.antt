-- What waits behind a table that ends with its map is not reclaimed.
use Rattle.std.specs.Prelude.{◌≡◌, ℕ, Bool, true, List, [], ◌∷◌, Some, None}
use Rattle.std.proofs.Common.{sym, subst, inl, inr}
use Rattle.run_debts.specs.Given.RunsDeclared.effect.Effect.{Effect}
use Rattle.run_debts.specs.Given.RunsDeclared.effect.Effect.TheVariants.{Taken}
use Rattle.run_debts.specs.Given.SchedulesEffects.{with_effect, AtEachEffect}
use Rattle.run_debts.specs.Given.SchedulesMoment.{Moment}
use Rattle.run_debts.specs.Given.EffectsDeclared.changed.Changed.{Changed}
use Rattle.run_debts.specs.Given.EffectsEffects.{taken_by, effects_of}
use Rattle.run_debts.specs.Given.EffectsDeclared.acting.Acting.TheVariants.{Ending}
use Rattle.run_debts.specs.Given.EffectsDeclared.role.Role.{Role}
use Rattle.run_debts.specs.Given.EffectsDeclared.role.Role.TheVariants as role
use Rattle.run_debts.proofs.Given.FollowsAlike.{is_calm, AllCalm}
use Rattle.run_debts.specs.Given.MomentsEndings.{WaitsOn}
use Rattle.run_debts.proofs.Given.MomentsEnds.{says}
use Rattle.run_waiting.specs.Lives.Steps.{EndingsFindWaiting}
use Rattle.run_waiting.proofs.Lives.Waiting.{effects_find_waiting}

-- effects that move no pair and no table end none
module _ {K V : Type 0} (map : ℕ) where
  calm_waits : (f : Effect) (v : Moment K V) → is_calm f ≡ true → WaitsOn v f
  calm_waits (Taken t) v e = absurd (cc e)
  calm_waits _ v e = tt

  all_calm_wait : (effects : List Effect) (v : Moment K V) → AllCalm effects → AtEachEffect WaitsOn None (Some map) effects v
  all_calm_wait [] v all = tt
  all_calm_wait (f ∷ effects) v all = (calm_waits f v all.0, all_calm_wait effects (with_effect None (Some map) f v) all.1)

  took_waits : (m : Moment K V) (r : Role) → ((f : Effect) → WaitsOn m f) → AtEachEffect WaitsOn None (Some map) (taken_by (Ending map) r) m
  took_waits m role.Free waits = tt
  took_waits m (role.OwnPair i) waits = (tt, tt)
  took_waits m (role.OwnTable turn shape) waits = (tt, tt)
  took_waits m (role.Pair k) waits = (tt, tt)
  took_waits m (role.Table t len) waits = (waits (Taken t), tt)
  took_waits m (role.Counter of) waits = tt

pub endings_find_waiting : (K V : Type 0) (same : K → K → Bool) (hash : ℕ → K → ℕ) → EndingsFindWaiting K V same hash
endings_find_waiting K V same hash name m known s old new at whole waiting i told leads f here map not_there =
    let to = leads f here in
    elim (says same hash name m known s old new at whole i f here to.0 told to.1 to.2 map not_there to.3) as (λ _. AtEachEffect WaitsOn None (Some map) (effects_of (Ending map) known new.changed) m) [
      | inl it ↦ all_calm_wait map (effects_of (Ending map) known new.changed) m it.0
      | inr it ↦ subst (λ (x : Changed). AtEachEffect WaitsOn None (Some map) (effects_of (Ending map) known x) m) (sym it.1)
          (took_waits map m (known.roles it.0) (λ f. (effects_find_waiting K V m known s waiting f).1))
    ]
