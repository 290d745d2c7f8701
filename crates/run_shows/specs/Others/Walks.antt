-- Walks: one that is ready goes on, or is given up.
use Rattle.std.specs.Prelude.{◌≡◌, ℕ, Bool, true, false, List, Some}
use Rattle.run_effects.specs.Given.SchedulesAfter.{without_call}
use Rattle.run_effects.specs.Given.SchedulesMoment.{Moment}
use Rattle.many_maps.specs.Given.CallersTogether.{UnderWay}
use Rattle.many_maps.specs.Maps.{with_call}
use Rattle.run_effects.specs.Effects.Known.{Known}
use Rattle.run_shows.specs.Follows.Calling.{NoneNamed}
use Rattle.run_shows.specs.Follows.Shows.{Refines}
use Rattle.run_shows.specs.Others.After.{RefinesAfter}
use Rattle.run_shows.specs.Scenes.Held.{Held}
use Rattle.run_shows.specs.Scenes.Replying.{AskLeads, StopLeads, scene_with, unless_stopped}
use Rattle.run_shows.specs.Scenes.Scene.{Scene}

-- the call of this name is under way no more, if it was stopped
abbrev pub given_up : {K V : Type 0} → List ℕ → Bool → Moment K V → Moment K V
given_up own true m = record m { calls = without_call own m.calls }
given_up own false m = m

module _ (K V : Type 0) (same : K → K → Bool) (hash : ℕ → K → ℕ) where
  -- The promises: a walk that is ready is asked for its next pair,
  abbrev pub WalksContinue : Type 0
  WalksContinue =
      (name : ℕ → List ℕ) (m : Moment K V) (known : Known) (s : Scene K V) (old new : Held K V) → (shown : Refines same name m known s)
      → (i : ℕ) (leads : AskLeads same hash i true s old new) (map : ℕ) (u : UnderWay K V K) (here : s.calls map i ≡ Some u)
      → RefinesAfter same name m known s shown m known (scene_with map i (leads map u here).0 s)

  -- and is given up: no call that is under way then has its name.
  abbrev pub WalksAreGivenUp : Type 0
  WalksAreGivenUp =
      (name : ℕ → List ℕ) (m : Moment K V) (known : Known) (s : Scene K V) (old new : Held K V) → (shown : Refines same name m known s)
      → (i : ℕ) (stopped : Bool) → StopLeads same hash i stopped s old new → (map : ℕ) (u : UnderWay K V K) → s.calls map i ≡ Some u
      → (let after = record s { calls = with_call s.calls map i (unless_stopped stopped u) } in
      (stopped ≡ true → NoneNamed name (name i) after) → RefinesAfter same name m known s shown (given_up (name i) stopped m) known after)
