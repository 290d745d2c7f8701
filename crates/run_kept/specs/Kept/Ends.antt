-- Of each map: each copying that is not over has a place that is not counted, or a call that is to end it; in blocking mode also one that is to give it up where a place of it was.
use Rattle.std.specs.Prelude.{◌≡◌, ℕ, Bool, cond, Option, Some}
use Rattle.papaya_raw.specs.Given.TablesChunks.{is_incremental}
use Rattle.run_executor.specs.Given.RuleChart.{Chart}
use Rattle.run_executor.specs.Given.CallersTogether.{UnderWay}
use Rattle.run_executor.specs.Given.FinishesMaps.{Standing}
use Rattle.run_blocks.specs.Given.WaitsOthers.{HaveEnds}
use Rattle.run_blocks.specs.Given.WaitersBlocking.{HaveEndsBlocking}
use Rattle.run_executor.specs.Given.ScenesScene.{Scene}

-- in either mode
abbrev pub HaveEndsIn : {K V : Type 0} → Bool → Chart K → (ℕ → Option (UnderWay K V K)) → Type 0
HaveEndsIn incremental c calls = cond incremental (HaveEnds c calls) (HaveEndsBlocking c calls)

abbrev pub MapsHaveEnds : {K V : Type 0} → Scene K V → Type 0
MapsHaveEnds {K} s = (map : ℕ) (st : Standing K) → s.maps map ≡ Some st → HaveEndsIn (is_incremental st.setting.mode) st.chart (s.calls map)
