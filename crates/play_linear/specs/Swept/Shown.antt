-- What the moment of a history shows of calls on whole maps, in the scene to which a list of acts has led, by which its next entry does what its call is for.
use Rattle.std.specs.Prelude.{◌≡◌, ◌<◌, ℕ, Bool, true, List, Some}
use Rattle.run_logged.specs.Given.CallersTogether.{UnderWay}
use Rattle.play_lists.specs.Given.FinishesMachines.{machine_of}
use Rattle.run_schedules.specs.Schedules.After.{AtEachEvent}
use Rattle.run_schedules.specs.Schedules.Moment.{Moment}
use Rattle.run_schedules.specs.Schedules.Terms.{Terms}
use Rattle.run_schedules.specs.Schedules.Transition.{Past}
use Rattle.play_lists.specs.Given.EffectsKnown.{Known}
use Rattle.play_lists.specs.Given.ScenesScene.{Scene}
use Rattle.play_lists.specs.Given.FindsWithin.{many_of}
use Rattle.play_lists.specs.Given.SettlesCounts.{is_to_count}
use Rattle.play_lists.specs.Given.ShardsShardWords.{RefinesCounters}
use Rattle.run_sweeps.specs.Given.PurposesPurposes.{RefinesPurposes}
use Rattle.run_schedules.specs.Deeds.Deeds.{Entry, moment, named}
use Rattle.run_schedules.specs.Deeds.History.{IsSwept, past}

-- On a map that has had no table nothing was counted, and no call is about to count.
pub record IsTabled {K V : Type 0} (m : Moment K V) (s : Scene K V) : Type 0 where
  pub maps : (of : ℕ) → many_of of m ≡ 0 → (shard : ℕ) → m.shards of shard ≡ 0
  pub counts : (of i : ℕ) (u : UnderWay K V K) → s.calls of i ≡ Some u → is_to_count (machine_of u) ≡ true → 0 < many_of of m

-- What calls on whole maps have come to, and are for; and the words of maps' counts.
pub record RefinesSweeps {K V : Type 0} (same : K → K → Bool) (log : Past K V) (m : Moment K V) (known : Known) (s : Scene K V) : Type 0 where
  pub purposes : RefinesPurposes same named log m known s
  pub counters : RefinesCounters named m s
  pub tabled : IsTabled m s

-- So it is after a history, each entry of which has done what its call is for.
pub record HasSwept {K V : Type 0} (same : K → K → Bool) (terms : Terms) (history : List (Entry K V)) (known : Known) (s : Scene K V) : Type 0 where
  pub shows : RefinesSweeps same (past history) (moment history) known s
  pub each : AtEachEvent (IsSwept same terms) history
