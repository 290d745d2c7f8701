-- A run whose events are all legal, and after which all is in order, is one of its schedule.
use Rattle.std.specs.Prelude.{Bool, List, [], ◌∷◌}
use Rattle.std.proofs.Common.{ap}
use Rattle.run_schedules.specs.declared.event.Event.{Event}
use Rattle.run_schedules.specs.declared.record.Run.{Run}
use Rattle.run_schedules.specs.Schedules.After.{AtEachEvent, moment}
use Rattle.run_schedules.specs.Schedules.Entry.{Entry}
use Rattle.run_schedules.specs.Schedules.Moment.{Moment}
use Rattle.run_schedules.specs.Schedules.Runs.{IsLegal, IsRunOf, ReportsEnd, log_of}
use Rattle.run_schedules.specs.Schedules.Terms.{Terms}
use Rattle.play_events.specs.Given.FindsTornDown.{StoredAreSomewhere}
use Rattle.play_events.specs.Given.FindsWaiting.{is_unborn}
use Rattle.run_effects.specs.Tallies.Told.{ArePlaced}
use Rattle.papaya_steps.specs.WholeRuns.Back.{ReclaimsRight}
use Rattle.papaya_steps.specs.WholeRuns.Run.{IsRightRun}
use Rattle.papaya_steps.proofs.WholeRuns.Mays.{reclaims_right}

module _ {K V : Type 0} where
  -- each pair that was stored is somewhere
  are_placed : (m : Moment K V) → StoredAreSomewhere m → ArePlaced m
  are_placed m all n some many none = (let born = all.born n some many in let unborn = ap is_unborn none in cc (born, unborn))

  module _ (same : K → K → Bool) (terms : Terms) where
    -- events that do what they may reclaim pairs only where that may be so
    pub all_reclaim_right : (log : List (Entry K V)) → AtEachEvent (IsLegal same terms) log → AtEachEvent ReclaimsRight log
    all_reclaim_right [] all = tt
    all_reclaim_right (e ∷ log) all = (reclaims_right terms log e all.0.life, all_reclaim_right log all.1)

    pub as_run : (schedule : List (Event K V)) (run : Run K V) → IsRightRun terms schedule run → AtEachEvent (IsLegal same terms) (log_of schedule run) → StoredAreSomewhere (moment (log_of schedule run))
        → IsRunOf same terms schedule run
    as_run schedule run is legal somewhere = record {
      outcomes = is.outcomes;
      steps = is.steps;
      effects = is.effects;
      trace = is.trace;
      legal = legal;
      tells = tells_end;
    }
      where
        tells_end : ReportsEnd (moment (log_of schedule run)) run
        tells_end = record {
          stored = is.tells.stored;
          maps = is.tells.maps;
          waiting = is.tells.waiting;
          ascending = is.tells.ascending;
          tables = is.tells.tables;
          given_back = is.back.given_back;
          contents = is.back.contents;
          kept = is.tells.kept;
          pairs = is.back.pairs (are_placed (moment (log_of schedule run)) somewhere);
        }
