-- The history of a map since a call on it began, by the moments of the run since then.
use Rattle.std.specs.Prelude.{◌≡◌, ℕ, ◌≤◌, Bool, List, ◌∷◌, Option, Some, None}
use Rattle.run_shows.specs.Given.SchedulesLists.{OneOf}
use Rattle.run_shows.specs.Given.SchedulesMoment.{UnderWay as CallThere, Moment}
use Rattle.run_shows.specs.Given.SchedulesViews.{call_of, finite_map}
use Rattle.run_shows.specs.Given.CallersTogether.{UnderWay, OnKey, ForRoom, Counting, OverAll}
use Rattle.run_shows.specs.Given.EffectsKnown.{Known}
use Rattle.run_shows.specs.Given.FinishesMaps.{Standing}
use Rattle.run_shows.specs.Follows.Shows.{Refines}
use Rattle.run_places.specs.Hands.Asked.{RefinesAsked}
use Rattle.run_places.specs.Changes.Had.{HadThen}
use Rattle.run_shows.specs.Scenes.Scene.{Scene}
use Rattle.run_shows.specs.Given.SchedulesTransition.{Past}

module _ {K V : Type 0} where
  -- the moment of its map at which a call began, if it looks at pairs or makes room for them; a counting looks at shards alone
  abbrev pub began_of : UnderWay K V K → Option ℕ
  began_of (OnKey u) = Some u.began
  began_of (ForRoom r) = Some r.began
  began_of (Counting sum) = None
  began_of (OverAll o) = Some o.began

  -- the moments of the run since the event that began a call, and the one to which the run has come, be it in the midst of an event
  abbrev pub since : Past K V → Moment K V → CallThere K V → List (Moment K V)
  since log m c = m ∷ log.since c.begun

  -- Class by class, what the map had at each of its moments since this one, the finite map has at one of these moments of the run.
  abbrev pub IsWithin : (K → K → Bool) → ℕ → Standing K → (ℕ → ℕ) → List (Moment K V) → ℕ → Type 0
  IsWithin same map s number moments began =
      (time : ℕ) → began ≤ time → time ≤ s.chart.now → (k : K) → OneOf (λ m. HadThen same s number time k (finite_map same map m k)) moments

-- The moments since any entry are those up to now, and each entry is counted.
pub record IsPast {K V : Type 0} (log : Past K V) : Type 0 where
  pub counted : log.now.events ≡ log.entries
  pub last : (begun : ℕ) → begun ≤ log.entries → (rest : List (Moment K V)) × (log.since begun ≡ log.now ∷ rest)

-- The moment shows the scene, and what its calls were told. The event that began a call is one of the log or the next one, and the history of its map since it
-- began is within the moments of the run since then.
pub record RefinesHistory {K V : Type 0} (same : K → K → Bool) (name : ℕ → List ℕ) (log : Past K V) (m : Moment K V) (known : Known) (s : Scene K V) : Type 0 where
  pub past : IsPast log
  pub shown : Refines same name m known s
  pub asked : RefinesAsked name shown.number m known s
  pub begun : (map i : ℕ) (u : UnderWay K V K) → s.calls map i ≡ Some u → (c : CallThere K V) → call_of (name i) m ≡ Some c → c.begun ≤ log.entries
  pub within : (map i : ℕ) (u : UnderWay K V K) → s.calls map i ≡ Some u → (standing : Standing K) → s.maps map ≡ Some standing
      → (c : CallThere K V) → call_of (name i) m ≡ Some c
      → (began : ℕ) → began_of u ≡ Some began → IsWithin same map standing (shown.number map) (since log m c) began

-- the moment shows it so, and pairs have the numbers that they had
abbrev pub StaysWithin : {K V : Type 0} (same : K → K → Bool) (name : ℕ → List ℕ) (log : Past K V) (m : Moment K V) (known : Known) (s : Scene K V) → RefinesHistory same name log m known s
    → Past K V → Moment K V → Scene K V → Type 0
StaysWithin same name log m known s history log2 m2 s2 = (after : RefinesHistory same name log2 m2 known s2) × (after.shown.number ≡ history.shown.number)
