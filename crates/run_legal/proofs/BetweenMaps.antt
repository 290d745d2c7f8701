-- What a moment shows of calls is so on where a map comes, begins to be made or to end, and is gone.
use Rattle.std.specs.Prelude.{◌≡◌, ◌≤◌, ◌==◌, ℕ, Bool, not, Some}
use Rattle.std.proofs.Common.{refl, ap, sym, ◌∙◌, arith}
use Rattle.run_grows.specs.Given.SeizeWorld.{with_at}
use Rattle.run_grows.specs.Given.RunsSame.{is_same}
use Rattle.run_grows.specs.Given.SchedulesBeginning.{with_map}
use Rattle.run_grows.specs.Given.SchedulesViews.{map_at}
use Rattle.run_grows.specs.Given.FinishesMaps.{Standing}
use Rattle.run_grows.specs.Given.OthersEndings.{without_map}
use Rattle.run_grows.proofs.Given.MomentsEnds.{endings_begin_whole}
use Rattle.run_grows.proofs.Given.MomentsMapsCome.{makings_begin_whole, maps_come_whole}
use Rattle.run_grows.proofs.Given.MomentsNewMaps.{pairs_stay_as_maps_come, pairs_stay_as_maps_go}
use Rattle.run_grows.proofs.Given.MomentsNumbers.{maps_come_by_number, maps_go, numbers_are_below}
use Rattle.run_grows.proofs.Given.MomentsOver.{endings_are_over_whole}
use Rattle.run_grows.proofs.Given.HistoriesAside.Stays.{as_called_stays, dues_stay}
use Rattle.run_grows.specs.Given.FindsCapacities.{StoodSo}
use Rattle.run_grows.specs.Given.KeptKept.{RefinesKept}
use Rattle.run_grows.proofs.Given.KeptOthers.{endings_begin_kept}
use Rattle.run_grows.proofs.Given.KeptStays.{makings_begin_kept, stays_kept}
use Rattle.run_sweeps.proofs.Purposes.Elsewhere.{purposes_stay}
use Rattle.run_grows.proofs.Given.ShardsShardBetween.{counters_stay}
use Rattle.run_grows.proofs.Given.ShardsShardOthers.{endings_begin_counters, makings_begin_counters}
use Rattle.run_legal.specs.Between.{EndsBegin, MakingsBegin, MapsCome, MapsGo}
use Rattle.run_legal.proofs.Sourced.{ends_leave, sources_so}
use Rattle.run_grows.proofs.Grows.Finding.Alike.{finding_fewer}
use Rattle.run_grows.proofs.Grows.Limits.Shows.{limits_where}
use Rattle.run_grows.proofs.Grows.Tries.Shows.{tries_where}
use Rattle.run_grows.proofs.Grows.Finding.Nexts.{nexts_where}
use Rattle.run_grows.proofs.Grows.Finding.Between.{finding_where, found_beside, found_kept}
use Rattle.run_grows.specs.Given.ScenesEnding.{ending_begun}

module _ (K V : Type 0) (same : K → K → Bool) (hash : ℕ → K → ℕ) where
  pub maps_come : MapsCome K V same hash
  maps_come name log m known s e at all there number =
      let come = maps_come_by_number K V m all.numbers.0 there number in (
        record {
          whole = maps_come_whole K V same name m known s all.whole there come.1;
          numbers = (come.0, pairs_stay_as_maps_come K V m all.numbers.1 there);
          kept = stays_kept K V name m (with_map there m) known s s all.kept refl refl refl refl refl refl refl refl refl;
          finding = finding_where same hash name m (with_map there m) known s e at still refl refl refl refl refl refl all.finding;
          sources = sources_so K V same name m (with_map there m) known known s s all.sources (maps_come_whole K V same name m known s all.whole there come.1).all.shown refl refl refl (λ n st is. is);
          nexts = nexts_where same hash name log m (with_map there m) s e at all.nexts still refl refl;
          limits = limits_where same hash name log m (with_map there m) s e at all.limits still refl refl;
          tries = tries_where same hash name log m (with_map there m) s e at all.tries still (record { stored = refl; place = refl; born = refl; spot = refl }) refl refl;
          counters = counters_stay K V name m (with_map there m) s s all.counters refl refl refl refl refl (λ of j x is removed adds. (x, is, adds));
          uncounted = λ of low. (let l : m.made ≤ of = omega (arith, low) in all.uncounted of l);
          dues = (dues_stay K V same hash name log).maps_come m known s e e at all.whole all.dues there come.1;
          as_called = (as_called_stays K V same hash name).maps_come m known s e e at all.whole all.as_called there come.1;
          questions = all.questions;
          purposes = (purposes_stay K V same hash name log).maps_come m known s e e at all.whole all.purposes there come.1;
        },
        (let l : m.made ≤ there.number = omega (arith, number) in all.uncounted there.number l),
      )
    where
      still : (n : ℕ) (st : Standing K) → s.maps n ≡ Some st → map_at n (with_map there m) ≡ map_at n m
      still n st stands =
          let f = (all.whole.all.shown.maps n st stands).there in
          let below = numbers_are_below K V m all.numbers.0 n f.there f.is in
          found_beside m.maps there n (λ one. omega (arith, one, below, number))

  pub makings_begin : MakingsBegin K V same hash
  makings_begin name log m known s old new at all i b none not_made uncounted at2 = record {
    whole = makings_begin_whole K V same name m known s all.whole i b not_made;
    numbers = all.numbers;
    kept = makings_begin_kept K V name m known s all.kept i b none;
    finding = record { growing = all.finding.growing; further = all.finding.further; capacities = all.finding.capacities; waits = all.finding.waits; puts = all.finding.puts };
    sources = sources_so K V same name m m known known s (record s { makers = with_at s.makers i (Some b) }) all.sources (makings_begin_whole K V same name m known s all.whole i b not_made).all.shown refl refl refl (λ n st is. is);
    nexts = all.nexts;
    limits = all.limits;
    tries = all.tries;
    counters = makings_begin_counters K V name m s all.counters i b not_made uncounted;
    uncounted = all.uncounted;
    dues = (dues_stay K V same hash name log).makings_begin m known s old new at all.whole all.dues i b at2;
    as_called = (as_called_stays K V same hash name).makings_begin m known s old new at all.whole all.as_called i b at2;
    questions = all.questions;
    purposes = (purposes_stay K V same hash name log).makings_begin m known s old new at all.whole all.purposes i b at2;
  }

  pub ends_begin : EndsBegin K V same hash
  ends_begin name log m known s old new at all map i standing there idle at2 = record {
    whole = endings_begin_whole K V same hash name m known s new all.whole map i standing there at2;
    numbers = all.numbers;
    kept = kept;
    finding = finding_fewer K V same name m m known s (ending_begun map i standing s) all.whole.all.shown.calls all.kept.owed kept.owed (λ n j x is. is) stood refl refl refl refl refl refl all.finding;
    sources = sources_so K V same name m m known known s (ending_begun map i standing s) all.sources (endings_begin_whole K V same hash name m known s new all.whole map i standing there at2).all.shown refl refl refl
        (ends_leave s map i standing);
    nexts = all.nexts;
    limits = all.limits;
    tries = all.tries;
    counters = endings_begin_counters K V name m s all.counters map i standing;
    uncounted = all.uncounted;
    dues = (dues_stay K V same hash name log).endings_begin m known s old new at all.whole all.dues map i standing there at2;
    as_called = (as_called_stays K V same hash name).endings_begin m known s old new at all.whole all.as_called map i standing there at2;
    questions = all.questions;
    purposes = (purposes_stay K V same hash name log).endings_begin m known s old new at all.whole all.purposes map i standing there at2;
  }
    where
      kept : RefinesKept name m known (ending_begun map i standing s)
      kept = endings_begin_kept K V same hash name m known s old new at all.kept map i standing idle at2

      stood : StoodSo s (ending_begun map i standing s)
      stood n st stands = (st, ends_leave s map i standing n st stands, refl)

  pub maps_gone : MapsGo K V same hash
  maps_gone name log m known s e at all own remains apart = record {
    whole = endings_are_over_whole K V same name m known s all.whole own remains all.numbers.0.found apart;
    numbers = (maps_go K V m all.numbers.0 own remains, pairs_stay_as_maps_go K V m all.numbers.1 own remains);
    kept = stays_kept K V name m (without_map own remains m) known s s all.kept refl refl refl refl refl refl refl refl refl;
    finding = finding_where same hash name m (without_map own remains m) known s e at still refl refl refl refl refl refl all.finding;
    sources = sources_so K V same name m (without_map own remains m) known known s s all.sources (endings_are_over_whole K V same name m known s all.whole own remains all.numbers.0.found apart).all.shown refl refl refl
        (λ n st is. is);
    nexts = nexts_where same hash name log m (without_map own remains m) s e at all.nexts still refl refl;
    limits = limits_where same hash name log m (without_map own remains m) s e at all.limits still refl refl;
    tries = tries_where same hash name log m (without_map own remains m) s e at all.tries still (record { stored = refl; place = refl; born = refl; spot = refl }) refl refl;
    counters = counters_stay K V name m (without_map own remains m) s s all.counters refl refl refl refl refl (λ of j x is removed adds. (x, is, adds));
    uncounted = all.uncounted;
    dues = (dues_stay K V same hash name log).endings_over m known s e e at all.whole all.dues own remains apart;
    as_called = (as_called_stays K V same hash name).endings_over m known s e e at all.whole all.as_called own remains apart;
    questions = all.questions;
    purposes = (purposes_stay K V same hash name log).endings_over m known s e e at all.whole all.purposes own remains apart;
  }
    where
      still : (n : ℕ) (st : Standing K) → s.maps n ≡ Some st → map_at n (without_map own remains m) ≡ map_at n m
      still n st stands =
          let f = (all.whole.all.shown.maps n st stands).there in
          found_kept (λ g. g.number == n) (λ g. not (is_same g.name own)) m.maps f.there f.is (ap not (apart n st f.there stands f.is)) ∙ sym f.is
