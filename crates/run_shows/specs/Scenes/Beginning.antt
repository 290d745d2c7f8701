-- What it leads to that a caller begins a call.
use Rattle.std.specs.Prelude.{◌≡◌, ℕ, Bool, Some}
use Rattle.run_effects.specs.Given.ResizeSum.{summing}
use Rattle.run_effects.specs.Given.ReservesReserve.{reserving}
use Rattle.run_effects.specs.Given.ReservesDeclared.sweep.Purpose.{Purpose}
use Rattle.run_effects.specs.Given.RawDeclared.machines.machine.Machine.{Machine}
use Rattle.many_maps.specs.Given.CallersOverAll.{begun_over_all}
use Rattle.many_maps.specs.Given.CallersTogether.{UnderWay, OnKey, ForRoom, Counting, OverAll, IsBegun, begun_at, in_slot}
use Rattle.many_maps.specs.Machines.{machine_of}
use Rattle.many_maps.specs.Maps.{Standing}
use Rattle.run_shows.specs.Scenes.Held.{Held}
use Rattle.run_shows.specs.Scenes.Replying.{scene_with}
use Rattle.run_shows.specs.Scenes.Scene.{Scene, slot_of}

module _ {K V : Type 0} (same : K → K → Bool) where
  -- on this map, as it stands, a caller begins this now
  abbrev pub Begins : Standing K → ℕ → UnderWay K V K → Type 0
  Begins s i (OnKey u) = IsBegun V same s.hash same s.setting slot_of i u.keys u.pair u.call × (u ≡ begun_at V same s.hash same s.setting slot_of s.chart u.keys u.pair u.call)
  Begins s i (ForRoom r) = (additional : ℕ) × (r ≡ record { began = s.chart.now; reserve = reserving (in_slot s.setting (slot_of i)) additional })
  Begins s i (Counting sum) = sum ≡ summing (in_slot s.setting (slot_of i))
  Begins s i (OverAll o) = (purpose : Purpose) × (o ≡ begun_over_all s.chart.now (in_slot s.setting (slot_of i)) purpose)

  -- A call that begins so on a map that stands is under way, and nothing else has changed: it has led to a scene of this kind.
  abbrev pub BeginLeadsTo : (Scene K V → Type 0) → ℕ → Machine K V K → ℕ → Scene K V → Held K V → Held K V → Type 0
  BeginLeadsTo IsThere m machine i s old new =
      (standing : Standing K) → s.maps m ≡ Some standing → (u : UnderWay K V K) → machine_of u ≡ machine → Begins standing i u
      → (new.memory ≡ old.memory) × IsThere (scene_with m i u s)
