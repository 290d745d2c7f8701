-- What is so after each event of a run, of the moment and of the scene that it shows: by this each promise is had of the next event.
use Rattle.std.specs.Prelude.{◌≡◌, ◌⊎◌, ◌≤◌, ℕ, Bool, true, ◌&&◌, List, [], flat_map}
use Rattle.std.specs.List.{list_all}
use Rattle.run_grows.specs.Given.SeizeWorld.{World}
use Rattle.run_grows.specs.Given.TablesNodes.{deferred_word}
use Rattle.run_grows.specs.Given.TablesDeclared.node.Node.{Node}
use Rattle.run_grows.specs.Given.RunsDeclared.event.Event.{Event}
use Rattle.run_grows.specs.Given.SchedulesAfter.{after, is_by, moment}
use Rattle.run_grows.specs.Given.SchedulesEntry.{Entry, speaker}
use Rattle.run_grows.specs.Given.SchedulesLists.{is_among}
use Rattle.run_grows.specs.Given.SchedulesModel.{sets_in, things_in}
use Rattle.run_grows.specs.Given.SchedulesMoment.{Moment, start}
use Rattle.run_grows.specs.Given.SchedulesTerms.{Terms}
use Rattle.run_grows.specs.Given.EffectsKnown.{Known}
use Rattle.run_grows.specs.Given.MomentsNumbers.{NumbersMaps, PairsAreBelow}
use Rattle.run_grows.specs.Given.MomentsWhole.{RefinesWhole}
use Rattle.run_grows.specs.Given.HistoriesAsCalled.{RefinesAsCalled}
use Rattle.run_grows.specs.Given.HistoriesDue.{RefinesPendingAnswers}
use Rattle.run_grows.specs.Given.HistoriesQuestions.{AllHaveAskedJust}
use Rattle.run_grows.specs.Given.PromisesReading.{RefinesReadings}
use Rattle.run_grows.specs.Given.PromisesSheltered.{SectionsHold}
use Rattle.run_grows.specs.Given.PurposesPurposes.{RefinesPurposes}
use Rattle.run_grows.specs.Given.PurposesTableless.{TablelessUncounted}
use Rattle.run_grows.specs.Given.ModelsCallEvents.{IsInItsRow}
use Rattle.run_grows.specs.Given.ModelsFollows.{FollowsModel}
use Rattle.run_grows.specs.Given.ModelsTurns.{CameByTurns}
use Rattle.run_grows.specs.Given.ShardsShardWords.{IsUncounted, RefinesCounters}
use Rattle.run_grows.specs.Given.FindsLittle.{OverIsBack, ReclaimsAll}
use Rattle.run_grows.specs.Given.FindsOrderly.{is_left_over}
use Rattle.run_grows.specs.Given.FindsWithin.{AllIsInOrder, GoesInOrder, ReadyOweNone}
use Rattle.run_grows.specs.Given.KeptKept.{RefinesKept}
use Rattle.run_grows.specs.Sources.Sources.{RefinesSources}
use Rattle.run_grows.specs.Grows.Finding.{RefinesFinding}
use Rattle.run_grows.specs.Grows.Limits.{RefinesLimits}
use Rattle.run_grows.specs.Grows.Nexts.{RefinesNexts}
use Rattle.run_grows.specs.Grows.Tries.{RefinesTries}
use Rattle.run_grows.specs.Given.ScenesScene.{Scene, at_first, slot_of}
use Rattle.run_grows.specs.Given.SchedulesTransition.{past, Past}

-- calls came one after another so far, and the event is one of those that do
abbrev pub IsSequential : {K V : Type 0} → Event K V → List (Entry K V) → Type 0
IsSequential event log = ((moment log).is_alone && list_all (is_by (speaker event)) (moment log).calls) ≡ true

-- nothing was counted on a map of a number that none has had yet
abbrev pub NoneCounted : {K V : Type 0} → Moment K V → Type 0
NoneCounted m = (of : ℕ) → m.made ≤ of → IsUncounted of m

-- What a moment shows beside who is there, wherever in an event it is, so far since the log: numbers of maps; what every step keeps; by what steps of calls
-- find what they must, for what copiers make tables, where calls can have no further one, and what they have met at tries; the shards of maps; the pending
-- answers of calls, are called for, have asked, and are for.
pub record RefinesAllCalls {K V : Type 0} (same : K → K → Bool) (name : ℕ → List ℕ) (log : Past K V) (m : Moment K V) (known : Known) (s : Scene K V) : Type 0 where
  pub whole : RefinesWhole same name m known s
  pub numbers : NumbersMaps m × PairsAreBelow m
  pub kept : RefinesKept name m known s
  pub finding : RefinesFinding name m known s
  pub nexts : RefinesNexts name log m s
  pub limits : RefinesLimits name log m s
  pub tries : RefinesTries name log m s
  pub sources : RefinesSources same name m known s
  pub counters : RefinesCounters name m s
  pub uncounted : NoneCounted m
  pub dues : RefinesPendingAnswers same name log m known s
  pub as_called : RefinesAsCalled same name m known s
  pub questions : AllHaveAskedJust m
  pub purposes : RefinesPurposes same name log m known s

-- the waiting sets are those of the model after the log, or a call is in the midst of a row that has told its part
abbrev pub FollowsOrRows : {K V : Type 0} → Terms → List (Entry K V) → Known → World (Node K V) → Type 0
FollowsOrRows terms log known w =
    FollowsModel terms.batch_size terms.roots log known w ⊎ ((i : ℕ) × IsInItsRow terms.batch_size terms.roots (things_in log) (sets_in terms.batch_size log) (slot_of i) i known w)

-- The pairs that ended maps have left over are those that the moment tells.
abbrev pub LeftIsNoted : {K V : Type 0} → Moment K V → Type 0
LeftIsNoted m = (n : ℕ) → is_left_over (m.place n) ≡ is_among n (flat_map (λ r. r.pairs) m.remains)

-- And once an event is over: no lookup has read more than the moment says; sections hold what they shelter; where calls came one after another so far, the waiting sets are those of the
-- model, but for a row that is under way; all waits in order; a map that has had no table has counted nothing; once the collector has ended all is back; and what ended maps have left over is told.
pub record RefinesRun {K V : Type 0} (same : K → K → Bool) (name : ℕ → List ℕ) (terms : Terms) (log : List (Entry K V)) (known : Known) (s : Scene K V) : Type 0 where
  pub calls : RefinesAllCalls same name (past log) (moment log) known s
  pub reading : RefinesReadings name (past log) (λ i. 0) (moment log) s
  pub sections : SectionsHold (moment log) known s.world
  pub follows : (moment log).is_alone ≡ true → FollowsOrRows terms log known s.world
  pub order : AllIsInOrder (moment log) × ReadyOweNone (moment log)
  pub tableless : TablelessUncounted (moment log)
  pub over : OverIsBack (moment log)
  pub left : LeftIsNoted (moment log)

-- The promises: an event that goes in order tells what is left over after it;
abbrev pub EventsTellLeft : Type 0 → Type 0 → Type 0
EventsTellLeft K V =
    (terms : Terms) (log : List (Entry K V)) (e : Entry K V) → GoesInOrder terms log e → ReclaimsAll log e → AllIsInOrder (moment log) → LeftIsNoted (moment log) → LeftIsNoted (after e (moment log))

-- and all this is so before all events in any world that came about by what happens between rows, if it is shown that nothing is under way there: so whatever was chosen of numbers of blocks.
abbrev pub RunsBeginIn : Type 0 → Type 0 → Type 0
RunsBeginIn K V =
    (same : K → K → Bool) (terms : Terms) (name : ℕ → List ℕ) (known : Known) (w : World (Node K V))
    → (let s : Scene K V = record (at_first terms.roots) { world = w } in
    RefinesWhole same name start known s → RefinesKept name start known s → CameByTurns deferred_word terms.batch_size terms.roots w [] → RefinesRun same name terms [] known s)
