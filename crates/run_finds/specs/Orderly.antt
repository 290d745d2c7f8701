-- While no call is under way each pair waits, and each table is there, for a reason; and once all was reclaimed, for one reason alone.
use Rattle.std.specs.Prelude.{◌≡◌, ℕ, Bool, true, false, not, []}
use Rattle.std.specs.List.{list_all}
use Rattle.run_executor.specs.Given.SchedulesMoment.{Place, Left, Moment, start}
use Rattle.run_executor.specs.Given.SchedulesReclaims.{is_handed, IsOrderly, IsEmptied}
use Rattle.run_executor.specs.Given.SchedulesViews.{is_retired}
use Rattle.run_executor.specs.Given.MomentsNumbers.{AreFound}
use Rattle.run_finds.specs.Tables.{TablesAreInOrder}
use Rattle.run_finds.specs.Waiting.{PairsArePlaced}

abbrev pub is_left_over : Place → Bool
is_left_over Left = true
is_left_over _ = false

module _ {K V : Type 0} (m : Moment K V) where
  -- pairs are in their places, tables in order, and each map that is there is found by its number
  pub record WaitsInOrder : Type 0 where
    pub placed : PairsArePlaced m
    pub tables : TablesAreInOrder m
    pub found : AreFound m

  -- nothing is retired, and nothing is left over by maps that have ended
  pub record NothingIsRetired : Type 0 where
    pub pairs : (n : ℕ) → is_handed (m.place n) ≡ false
    pub tables : list_all (λ u. not (is_retired u.stage)) m.tables ≡ true
    pub left : (n : ℕ) → is_left_over (m.place n) ≡ false

-- The promises: so it is before all events;
abbrev pub OrderAtFirst : Type 0 → Type 0 → Type 0
OrderAtFirst K V = WaitsInOrder (start {K = K} {V = V})

-- where it is so, and no call is under way, all is orderly;
abbrev pub OrderlyAtQuiescence : Type 0 → Type 0 → Type 0
OrderlyAtQuiescence K V = (m : Moment K V) → WaitsInOrder m → m.calls ≡ [] → IsOrderly m

-- and where nothing is retired then, nothing waits but what is behind tables of resizes that go on.
abbrev pub EmptiedOnceReclaimed : Type 0 → Type 0 → Type 0
EmptiedOnceReclaimed K V = (m : Moment K V) → WaitsInOrder m → m.calls ≡ [] → NothingIsRetired m → IsEmptied m
