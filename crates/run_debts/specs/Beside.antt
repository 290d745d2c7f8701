-- What is promised of what calls have to count where another one than a call takes a step, and where walks go on or are given up: it is as it was.
use Rattle.std.specs.Prelude.{◌≡◌, ℕ, Bool, true, List, Option, Some, None}
use Rattle.run_places.specs.Given.RunsDeclared.effect.Effect.{Effect}
use Rattle.run_places.specs.Given.SchedulesEffects.{with_effects}
use Rattle.run_places.specs.Given.SchedulesMoment.{Moment}
use Rattle.owner_facts.specs.Given.CallersTogether.{UnderWay}
use Rattle.run_places.specs.Given.EffectsKnown.{Known}
use Rattle.owner_facts.specs.Given.FinishesMaps.{with_call}
use Rattle.run_places.specs.Given.FollowsCalling.{NoneNamed}
use Rattle.run_places.specs.Given.FollowsShows.{Refines}
use Rattle.run_places.specs.Given.OthersWalks.{given_up}
use Rattle.run_debts.specs.Counts.{RefinesCounts}
use Rattle.run_places.specs.Given.ScenesHeld.{Held}
use Rattle.run_places.specs.Given.ScenesReplying.{AskLeads, StopLeads, scene_with, unless_stopped}
use Rattle.run_places.specs.Given.ScenesScene.{Scene}

module _ (K V : Type 0) where
  -- So it is as long as calls are as they were, of the moment and under way: where a row begins on a slot, where the making or the end of a map begins, and
  -- where a map is there by its number, or not any more;
  abbrev pub StaysCounts : Type 0
  StaysCounts =
      (name : ℕ → List ℕ) (m v : Moment K V) (s t : Scene K V) → RefinesCounts name m s → v.calls ≡ m.calls → t.calls ≡ s.calls → RefinesCounts name v t

  -- and after any effects of what is no call: of a row on a slot, of the making of a map, and of the end of one.
  abbrev pub EffectsLeaveCounts : Type 0
  EffectsLeaveCounts =
      (name : ℕ → List ℕ) (m : Moment K V) (s t : Scene K V) → RefinesCounts name m s → t.calls ≡ s.calls
      → (acted : Option ℕ) (effects : List Effect) → RefinesCounts name (with_effects None acted effects m) t

module _ (K V : Type 0) (same : K → K → Bool) (hash : ℕ → K → ℕ) where
  -- A walk goes on to its next pair,
  abbrev pub WalksPreserveCounts : Type 0
  WalksPreserveCounts =
      (name : ℕ → List ℕ) (m : Moment K V) (s : Scene K V) (old new : Held K V) → RefinesCounts name m s
      → (i : ℕ) (leads : AskLeads same hash i true s old new) (map : ℕ) (u : UnderWay K V K) (here : s.calls map i ≡ Some u) → RefinesCounts name m (scene_with map i (leads map u here).0 s)

  -- or is given up: no call that is under way then has its name.
  abbrev pub WalksStopCounts : Type 0
  WalksStopCounts =
      (name : ℕ → List ℕ) (m : Moment K V) (known : Known) (s : Scene K V) (old new : Held K V) → Refines same name m known s → RefinesCounts name m s
      → (i : ℕ) (stopped : Bool) → StopLeads same hash i stopped s old new → (map : ℕ) (u : UnderWay K V K) → s.calls map i ≡ Some u
      → (let after = record s { calls = with_call s.calls map i (unless_stopped stopped u) } in
      (stopped ≡ true → NoneNamed name (name i) after) → RefinesCounts name (given_up (name i) stopped m) after)
