-- What is promised of the parts of what effects of a call find: they make up all of it, over the steps of an event, and so for the event.
use Rattle.std.specs.Prelude.{◌≡◌, ℕ, true, List, ◌∷◌, ◌++◌, Some}
use Rattle.std.specs.List.{list_all}
use Rattle.run_executor.specs.Given.RunsDeclared.effect.Effect.{Effect}
use Rattle.run_executor.specs.Given.SchedulesAfter.{moments_from}
use Rattle.run_executor.specs.Given.SchedulesEffects.{with_effects, AtEachEffect}
use Rattle.run_executor.specs.Given.SchedulesEntry.{Entry, caller_of}
use Rattle.run_executor.specs.Given.SchedulesHanding.{is_call_effect, AllFind}
use Rattle.run_executor.specs.Given.SchedulesMoment.{UnderWay as CallThere, Moment}
use Rattle.run_executor.specs.Given.SchedulesTerms.{Terms}
use Rattle.run_executor.specs.Given.SchedulesViews.{call_of}
use Rattle.run_executor.specs.Given.FollowsFinds.{FindsMap}
use Rattle.run_blocks.specs.Owes.Events.{FindMade}
use Rattle.run_blocks.specs.Owes.Looking.{FindAtWork}
use Rattle.run_finds.specs.Parts.{FindPlacesOf, FindAhead, FindObligations, FindRest, FindShards, FindAll}

module _ {K V : Type 0} (terms : Terms) (moments : List (Moment K V)) (own : List ℕ) (map : ℕ) (effects : List Effect) (m : Moment K V) where
  -- each part that is promised elsewhere, or here
  pub record FindParts : Type 0 where
    pub kinds : list_all is_call_effect effects ≡ true
    pub at_work : FindAtWork own map effects m
    pub made : FindMade terms moments own map effects m
    pub on_map : AtEachEffect (FindsMap map) (Some own) (Some map) effects m
    pub places : FindPlacesOf own map effects m
    pub ahead : FindAhead own map effects m
    pub shards : FindShards terms moments own map effects m

-- The promises: with what is left, the parts make up all that the effects of a call must find,
abbrev pub PartsAreAll : Type 0 → Type 0 → Type 0
PartsAreAll K V =
    (terms : Terms) (moments : List (Moment K V)) (own : List ℕ) (map : ℕ) (effects : List Effect) (m : Moment K V) (c : CallThere K V) → call_of own m ≡ Some c → c.map ≡ map
    → FindParts terms moments own map effects m → FindObligations own map effects m → FindRest terms moments own map effects m → FindAll terms moments own map effects m

-- the effects of an event of several steps find it, if those before do and those of the last step,
abbrev pub SeveralFindAll : Type 0 → Type 0 → Type 0
SeveralFindAll K V =
    (terms : Terms) (moments : List (Moment K V)) (own : List ℕ) (map : ℕ) (done effects : List Effect) (m : Moment K V)
    → FindAll terms moments own map done m → FindAll terms moments own map effects (with_effects (Some own) (Some map) done m) → FindAll terms moments own map (done ++ effects) m

-- and so does the event, of the call whose it is.
abbrev pub EventsFindAll : Type 0 → Type 0 → Type 0
EventsFindAll K V =
    (terms : Terms) (log : List (Entry K V)) (e : Entry K V) (b : Moment K V) (own : List ℕ) (c : CallThere K V) → caller_of e.event ≡ Some own → call_of own b ≡ Some c
    → FindAll terms (moments_from c.begun log) own c.map e.effects b → AllFind terms log e b
