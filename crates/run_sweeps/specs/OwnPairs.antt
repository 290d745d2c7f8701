-- Each pair that is in a map is the one of its class there.
use Rattle.std.specs.Prelude.{◌≡◌, ℕ, Bool, true, Some}
use Rattle.run_schedules.specs.Schedules.Moment.{Moment}
use Rattle.run_schedules.specs.Runs.Log.{pair_at}
use Rattle.run_schedules.specs.Schedules.Views.{finite_map, is_in_map}

-- each pair that is in this map is the one of its class there
abbrev pub EachIsItsOwn : {K V : Type 0} → (K → K → Bool) → ℕ → Moment K V → Type 0
EachIsItsOwn {K} {V} same map m = (q : ℕ) → is_in_map map (m.place q) ≡ true → (p : K × V) × (pair_at m.stored q ≡ Some p) × (finite_map same map m p.0 ≡ Some q)
