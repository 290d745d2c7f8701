-- A call that has a pair to store is one on one key, which replaces nothing between the effects of two steps.
use Rattle.std.specs.Prelude.{◌≡◌, ℕ, Bool, [], ◌∷◌, None}
use Rattle.std.proofs.Common.{sym, subst}
use Rattle.run_executor.specs.Given.RunsDeclared.call.Call.{Call}
use Rattle.run_executor.specs.Given.RunsDeclared.call.Call.TheVariants as call
use Rattle.run_executor.specs.Given.SchedulesEffects.{new_pair}
use Rattle.run_executor.specs.Given.SchedulesMoment.{UnderWay as CallThere}
use Rattle.run_executor.specs.Given.CallersTogether.{UnderWay, OnKey, ForRoom, Counting, OverAll}
use Rattle.run_executor.specs.Given.EffectsKnown.{Known}
use Rattle.run_executor.specs.Given.FollowsCalls.{IsCalled}
use Rattle.run_executor.specs.Given.HandsAsked.{IsAskedOn, IsAskedAs, IsAsked}

module _ {K V : Type 0} (same : K → K → Bool) (number : ℕ → ℕ) (stored : ℕ) (known : Known) where
  pub replaces_none : (u : UnderWay K V K) (its : Call K V) (c : CallThere K V) → its ≡ c.call → IsCalled same u its → IsAsked number stored known u c
      → (k : K) (v : V) (n : ℕ) → new_pair its c n ≡ (k, v) ∷ [] → c.replacing ≡ None
  replaces_none (OnKey x) (call.On one) c is called asked k v n has =
      let it : IsAskedOn number stored known x one c = subst (λ (z : Call K V). IsAskedAs number stored known x z c) (sym is) asked in it.replacing
  replaces_none (ForRoom r) (call.On one) c is called asked k v n has = absurd called
  replaces_none (Counting sum) (call.On one) c is called asked k v n has = absurd called
  replaces_none (OverAll o) (call.On one) c is called asked k v n has = absurd called
  replaces_none u (call.Reserve more) c is called asked k v n has = absurd (cc has)
  replaces_none u call.Clear c is called asked k v n has = absurd (cc has)
  replaces_none u call.Retain c is called asked k v n has = absurd (cc has)
  replaces_none u call.Len c is called asked k v n has = absurd (cc has)
  replaces_none u call.Walk c is called asked k v n has = absurd (cc has)
