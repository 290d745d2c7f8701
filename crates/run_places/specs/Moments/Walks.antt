-- Walks: where one goes on, or is given up, the moment shows all of the scene then.
use Rattle.std.specs.Prelude.{◌≡◌, ℕ, Bool, true, List, Some}
use Rattle.run_shows.specs.Given.SchedulesMoment.{Moment}
use Rattle.run_shows.specs.Given.CallersTogether.{UnderWay}
use Rattle.run_shows.specs.Given.FinishesMaps.{with_call}
use Rattle.run_shows.specs.Given.EffectsKnown.{Known}
use Rattle.run_shows.specs.Follows.Calling.{NoneNamed}
use Rattle.run_shows.specs.Others.Walks.{given_up}
use Rattle.run_places.specs.Moments.Whole.{RefinesWhole}
use Rattle.run_shows.specs.Scenes.Held.{Held}
use Rattle.run_shows.specs.Scenes.Replying.{AskLeads, StopLeads, scene_with, unless_stopped}
use Rattle.run_shows.specs.Scenes.Scene.{Scene}

module _ (K V : Type 0) (same : K → K → Bool) (hash : ℕ → K → ℕ) where
  -- The promises: so it is where a walk that is ready is asked for its next pair,
  abbrev pub WalksPreserveWhole : Type 0
  WalksPreserveWhole =
      (name : ℕ → List ℕ) (m : Moment K V) (known : Known) (s : Scene K V) (old new : Held K V) → RefinesWhole same name m known s
      → (i : ℕ) (leads : AskLeads same hash i true s old new) (map : ℕ) (u : UnderWay K V K) (here : s.calls map i ≡ Some u) → RefinesWhole same name m known (scene_with map i (leads map u here).0 s)

  -- and where it is given up: no call that is under way then has its name.
  abbrev pub WalksStopWhole : Type 0
  WalksStopWhole =
      (name : ℕ → List ℕ) (m : Moment K V) (known : Known) (s : Scene K V) (old new : Held K V) → RefinesWhole same name m known s
      → (i : ℕ) (stopped : Bool) → StopLeads same hash i stopped s old new → (map : ℕ) (u : UnderWay K V K) → s.calls map i ≡ Some u
      → (let after = record s { calls = with_call s.calls map i (unless_stopped stopped u) } in
      (stopped ≡ true → NoneNamed name (name i) after) → RefinesWhole same name (given_up (name i) stopped m) known after)
