-- An event that chooses the number of a block is legal, and a run goes on with it in the scene whose memory has that choice.
use Rattle.std.specs.Prelude.{ℕ, Bool, List, [], ◌∷◌}
use Rattle.std.proofs.Common.{refl, subst, inl}
use Rattle.std.proofs.lemmas.List.{append-nil}
use Rattle.run_grows.specs.Given.SeizeWaitingSets.{Change}
use Rattle.run_grows.specs.Given.SeizeWorld.{Chooses, World}
use Rattle.run_grows.specs.Given.TablesNodes.{deferred_word}
use Rattle.run_grows.specs.Given.TablesDeclared.node.Node.{Node}
use Rattle.run_grows.specs.Given.RunsDeclared.event.Event.TheVariants.{Choose}
use Rattle.run_grows.specs.Given.RunsDeclared.outcome.Outcome.TheVariants.{Done}
use Rattle.run_grows.specs.Given.SchedulesAfter.{after, moment}
use Rattle.run_grows.specs.Given.SchedulesEntry.{Entry}
use Rattle.run_grows.specs.Given.SchedulesMoment.{Moment}
use Rattle.run_grows.specs.Given.SchedulesTerms.{Terms}
use Rattle.run_grows.specs.Given.EffectsKnown.{Known}
use Rattle.run_grows.specs.Given.FollowsShows.{Refines}
use Rattle.run_grows.specs.Given.MomentsWhole.{RefinesWhole}
use Rattle.run_grows.specs.Given.KeptKept.{RefinesKept}
use Rattle.run_logged.specs.Log.Choosing.{scene_chosen}
use Rattle.run_grows.specs.Given.ModelsFollows.{FollowsModel}
use Rattle.run_grows.specs.Given.ModelsTurns.{CameByTurns}
use Rattle.run_grows.proofs.Given.ModelsFollows.{idle_events_follow}
use Rattle.run_grows.proofs.Given.ModelsTurns.{events_follow}
use Rattle.run_grows.specs.Given.PromisesReading.{RefinesReadings}
use Rattle.run_grows.specs.Given.PromisesSheltered.{SectionsHold}
use Rattle.run_legal.specs.CallEvents.{IsLegalBut}
use Rattle.run_legal.specs.Carried.{FollowsOrRows, RefinesAllCalls, RefinesRun}
use Rattle.run_legal.specs.Over.{ChoicesEnd}
use Rattle.run_legal.proofs.Between.{likes_show}
use Rattle.run_legal.proofs.Idle.{idle_events_are_legal}
use Rattle.run_legal.proofs.Over.{reading_like, runs_go_on, still_follows}
use Rattle.run_grows.specs.Given.ScenesScene.{Scene}
use Rattle.run_grows.specs.Given.SchedulesTransition.{past}

-- Calls, maps and words are there as they were.
module _ {K V : Type 0} (choice : ℕ) (same : K → K → Bool) (name : ℕ → List ℕ) (log : List (Entry K V)) (m : Moment K V) (known : Known) (s : Scene K V) (whole : RefinesWhole same name m known (scene_chosen choice s))
    (kept : RefinesKept name m known (scene_chosen choice s)) where
  abbrev shown_then : Refines same name m known s → Refines same name m known (scene_chosen choice s)
  shown_then shown = record { blocks = whole.all.shown.blocks; number = shown.number; maps = shown.maps; calls = shown.calls }

  calls_then : RefinesAllCalls same name (past log) m known s → RefinesAllCalls same name (past log) m known (scene_chosen choice s)
  calls_then all = record {
    whole = whole;
    numbers = all.numbers;
    kept = kept;
    counters = record { shards = all.counters.shards; makes = all.counters.makes; adds = all.counters.adds };
    uncounted = all.uncounted;
    dues = record {
      history = record {
        past = all.dues.history.past;
        shown = shown_then all.dues.history.shown;
        asked = record { apart = all.dues.history.asked.apart; each = all.dues.history.asked.each };
        begun = all.dues.history.begun;
        within = all.dues.history.within;
      };
      owes = all.dues.owes;
      taken = all.dues.taken;
    };
    as_called = record { shown = shown_then all.as_called.shown; each = all.as_called.each };
    questions = all.questions;
    purposes = record { past = all.purposes.past; lasts = all.purposes.lasts; shown = shown_then all.purposes.shown; begun = all.purposes.begun; is_for = all.purposes.is_for; come = all.purposes.come };
    finding = record { growing = all.finding.growing; further = all.finding.further; capacities = all.finding.capacities; waits = all.finding.waits; puts = all.finding.puts };
    nexts = all.nexts;
    sources = record { shown = shown_then all.sources.shown; numbered = all.sources.numbered; came = all.sources.came; left = all.sources.left };
    limits = all.limits;
    tries = all.tries;
  }

  reading_then : RefinesReadings name (past log) (λ i. 0) m s → RefinesReadings name (past log) (λ i. 0) m (scene_chosen choice s)
  reading_then reading = record { past = reading.past; begun = reading.begun; reads = reading.reads }

module _ {K V : Type 0} (terms : Terms) (log : List (Entry K V)) (known : Known) (s : Scene K V) (choice steps : ℕ) where
  abbrev chosen : World (Node K V)
  chosen = (scene_chosen choice s).world

  abbrev e : Entry K V
  e = record { event = Choose choice; outcome = Done; steps = steps; effects = [] }

  -- the waiting sets are those that they were
  came_then : (f : FollowsModel terms.batch_size terms.roots log known s.world) → CameByTurns deferred_word terms.batch_size terms.roots chosen f.before
  came_then f =
      subst (λ (before : List Change). CameByTurns deferred_word terms.batch_size terms.roots chosen before) (append-nil f.before)
      (events_follow deferred_word terms.batch_size terms.roots s.world chosen f.before f.came (Chooses choice) tt refl)

  follows_then : FollowsModel terms.batch_size terms.roots log known s.world → FollowsOrRows terms (e ∷ log) known chosen
  follows_then f =
      let stays = idle_events_follow K V terms log e refl refl refl in
      still_follows terms known chosen log e stays.1 stays.2 (inl (record { before = f.before; came = came_then f; alike = f.alike }))

pub choices_end : (K V : Type 0) (same : K → K → Bool) → ChoicesEnd K V same
choices_end K V same name terms log known s run choice alone whole kept steps right = (legal.0, runs)
  where
    its : Entry K V
    its = record { event = Choose choice; outcome = Done; steps = steps; effects = [] }

    legal : IsLegalBut same terms log its × SectionsHold (after its (moment log)) known (scene_chosen choice s).world
    legal = idle_events_are_legal K V same terms log known (scene_chosen choice s).world its refl tt run.sections tt refl refl tt tt tt tt

    runs : RefinesRun same name terms (its ∷ log) known (scene_chosen choice s)
    runs =
        runs_go_on K V same name name terms log known known s (scene_chosen choice s) run its right legal.0.life tt tt
        (likes_show K V same name (past log) (moment log) (moment (its ∷ log)) known (scene_chosen choice s) (calls_then choice same name log (moment log) known s whole kept run.calls) refl)
        (reading_like name log (λ i. 0) (moment log) (moment (its ∷ log)) (scene_chosen choice s) (reading_then choice same name log (moment log) known s whole kept run.reading) refl) legal.1
        (λ is_alone. follows_then terms log known s choice steps (alone is_alone))
