-- The calls that are under way at a moment of a run, by those of the scene.
use Rattle.std.specs.Prelude.{◌≡◌, ℕ, Bool, List, Option, Some}
use Rattle.run_effects.specs.Given.RunsDeclared.call.Call.{Call}
use Rattle.run_effects.specs.Given.RunsDeclared.call.Call.TheVariants.{On, Reserve, Clear, Retain, Len, Walk}
use Rattle.run_effects.specs.Given.SchedulesMoment.{UnderWay as CallThere, Moment}
use Rattle.run_effects.specs.Given.SchedulesSequential.{key_of}
use Rattle.run_effects.specs.Given.SchedulesViews.{call_of}
use Rattle.many_maps.specs.Given.CallersTogether.{UnderWay, OnKey, ForRoom, Counting, OverAll}

module _ {K V : Type 0} (same : K → K → Bool) where
  -- it is what was called: on this key, for room, to count, or over the whole map
  abbrev pub IsCalled : UnderWay K V K → Call K V → Type 0
  IsCalled (OnKey u) (On one) = u.keys ≡ same (key_of one)
  IsCalled (ForRoom r) (Reserve additional) = Unit {0}
  IsCalled (Counting sum) Len = Unit {0}
  IsCalled (OverAll o) Clear = Unit {0}
  IsCalled (OverAll o) Retain = Unit {0}
  IsCalled (OverAll o) Walk = Unit {0}
  IsCalled _ _ = ⊥

  -- each call that the scene has under way is there, by its caller's name, on its map, and is what was called
  abbrev pub RefinesCalls : (ℕ → List ℕ) → Moment K V → (ℕ → ℕ → Option (UnderWay K V K)) → Type 0
  RefinesCalls name m calls = (map i : ℕ) (u : UnderWay K V K) → calls map i ≡ Some u → (c : CallThere K V) × (call_of (name i) m ≡ Some c) × (c.map ≡ map) × IsCalled u c.call
