-- What a call on a whole map has come to, in the words of a run: what it has counted, which pairs it has shown or was told to keep, and that it is for what was
-- called.
use Rattle.std.specs.Prelude.{◌≡◌, ℕ, suc, ◌<◌, ◌≤◌, ◌%◌, ◌^◌, Bool, true, List, [], map, Some}
use Rattle.std.specs.List.{AllByRecursion}
use Rattle.run_finds.specs.Given.TablesChunks.{is_incremental}
use Rattle.run_finds.specs.Given.ResizeDeclared.sum.Summing.{Summing}
use Rattle.run_finds.specs.Given.ResizeDeclared.sum.Summing.TheVariants as sums
use Rattle.run_finds.specs.Given.ReservesDeclared.reserve.Reserving.{Reserving}
use Rattle.run_finds.specs.Given.ReservesDeclared.reserve.Reserving.TheVariants as reserving
use Rattle.run_finds.specs.Given.ReservesDeclared.sweep.Purpose.TheVariants.{Walks, Clears, Retains}
use Rattle.run_finds.specs.Given.RunsDeclared.call.Call.{Call}
use Rattle.run_finds.specs.Given.RunsDeclared.call.Call.TheVariants.{On, Reserve, Clear, Retain, Len, Walk}
use Rattle.run_finds.specs.Given.SchedulesCounts.{AddsUp, Counts}
use Rattle.run_finds.specs.Given.SchedulesLists.{OneOf}
use Rattle.run_finds.specs.Given.SchedulesMoment.{UnderWay as CallThere, Moment}
use Rattle.run_finds.specs.Given.SchedulesSweeps.{is_yes}
use Rattle.run_finds.specs.Given.SchedulesViews.{call_of, is_in_map, first_of, reply_to}
use Rattle.run_finds.specs.Given.RuleMaps.{spot_of}
use Rattle.run_finds.specs.Given.CallersOverAll.{CallOverAll}
use Rattle.run_finds.specs.Given.CallersRooms.{CallForRoom}
use Rattle.run_finds.specs.Given.CallersTogether.{UnderWay, OnKey, ForRoom, Counting, OverAll}
use Rattle.run_finds.specs.Given.EffectsKnown.{Known}
use Rattle.run_finds.specs.Given.FinishesMaps.{Standing}
use Rattle.run_finds.specs.Given.FollowsShows.{Refines}
use Rattle.run_finds.specs.Given.ChangesHistories.{since, IsWithin, IsPast}
use Rattle.run_finds.specs.Reserving.{ReservesAt}
use Rattle.run_finds.specs.Purposes.Keys.{KeysAt, AreKeyed}
use Rattle.run_finds.specs.Purposes.Needs.{NeedsAt}
use Rattle.run_finds.specs.Given.NamedMachines.{IsBefore}
use Rattle.run_finds.specs.Given.ScenesScene.{Scene}
use Rattle.run_finds.specs.Given.SchedulesTransition.{Past}
use Rattle.run_finds.specs.Given.RunsLog.{pair_at}

-- by key, what a sweep that is a walk has come to in its map
abbrev pub KeysOf : {K : Type 0} → (K → K → Bool) → Standing K → CallOverAll → Type 0
KeysOf same s o = KeysAt same (spot_of s.hash) (is_incremental s.setting.mode) s.chart o.began o.sweep o.done o.sweep.stands × AreKeyed s.chart o.done

module _ {K V : Type 0} where
  -- it is for what was called
  abbrev pub IsFor : UnderWay K V K → Call K V → Type 0
  IsFor (OnKey u) (On one) = Unit {0}
  IsFor (ForRoom r) (Reserve additional) = r.reserve.additional ≡ additional
  IsFor (Counting sum) Len = Unit {0}
  IsFor (OverAll o) Clear = o.sweep.purpose ≡ Clears
  IsFor (OverAll o) Retain = o.sweep.purpose ≡ Retains
  IsFor (OverAll o) Walk = o.sweep.purpose ≡ Walks
  IsFor _ _ = ⊥

  -- Pair by pair, what a map had at each of its moments since this one, it has at one of these moments of the run.
  pub record PairsWithin (of : ℕ) (s : Standing K) (number : ℕ → ℕ) (moments : List (Moment K V)) (began : ℕ) : Type 0 where
    pub stored : (time n : ℕ) → began ≤ time → time ≤ s.chart.now → s.chart.was time n ≡ true → n < s.chart.stored
    pub within : (time n : ℕ) → began ≤ time → time ≤ s.chart.now → n < s.chart.stored → OneOf (λ m. is_in_map of (m.place (number n)) ≡ s.chart.was time n) moments

  -- a counting has added up the first shards, each as it was at one of these moments; or it has counted all of them
  abbrev pub HasAdded : ℕ → List (Moment K V) → ℕ → Summing → Type 0
  HasAdded of moments mask (sums.Adds shard total) = (sum : ℕ) × AddsUp of moments shard sum × (total ≡ sum % 2 ^ 64)
  HasAdded of moments mask (sums.Over count) = Counts (suc mask) of moments count

  -- a walk has shown just the pairs that it has done, and a retaining has done such about which the last reply was yes
  abbrev pub ShowsDone : Call K V → (ℕ → ℕ) → List ℕ → CallThere K V → Type 0
  ShowsDone Walk number done c = c.shown ≡ map number done
  ShowsDone Retain number done c = AllByRecursion (λ n. is_yes (reply_to (Some (number n)) c.replies) ≡ true) done
  ShowsDone _ number done c = Unit {0}

  -- what a sweep has come to: pair by pair and class by class, the history of its map since it began is within these moments; it has done what the moment says; and by
  -- key, what a walk has come to
  pub record HasSwept (same : K → K → Bool) (of : ℕ) (s : Standing K) (number : ℕ → ℕ) (moments : List (Moment K V)) (o : CallOverAll) (c : CallThere K V) : Type 0 where
    pub within : PairsWithin of s number moments o.began
    pub classes : IsWithin same of s number moments o.began
    pub stored : AllByRecursion (λ n. n < s.chart.stored) o.done
    pub tells : ShowsDone c.call number o.done c
    pub none : o.sweep.purpose ≡ Walks → IsBefore o.sweep.stands → o.done ≡ []
    pub keys : o.sweep.purpose ≡ Walks → KeysOf same s o

  -- The table to which a reservation has come is not before this one. Where it has come to none, the map has counted nothing at one of these moments; and where it counts, it has added up shards.
  abbrev pub RoomAt : ℕ → List (Moment K V) → ℕ → Reserving → Type 0
  RoomAt of moments low reserving.Reads = Unit {0}
  RoomAt of moments low (reserving.Makes making) = (low ≡ 0) × ((shards : ℕ) → Counts shards of moments 0)
  RoomAt of moments low (reserving.Sums table sum) = (low ≤ table.turn) × HasAdded of moments sum.setting.mask sum.stands
  RoomAt of moments low (reserving.Follows table need) = low ≤ table.turn
  RoomAt of moments low (reserving.Grows table making) = low ≤ table.turn
  RoomAt of moments low (reserving.Copies copier) = (low ≤ copier.source.turn) × (low ≤ copier.target.turn)
  RoomAt of moments low _ = ⊥

  -- What a reservation has come to: to no table that was before the root at each of these moments; and to a count, by which it makes a table that can be had, as long as it must be.
  pub record HasMet (of : ℕ) (s : Standing K) (moments : List (Moment K V)) (r : CallForRoom) : Type 0 where
    pub low : ℕ
    pub was : OneOf (λ m. first_of of m ≤ low) moments
    pub root : low ≤ s.chart.first
    pub point : RoomAt of moments low r.reserve.stands
    pub reserves : ReservesAt of moments r.reserve r.reserve.stands
    pub needs : NeedsAt of moments r.reserve r.reserve.stands

  -- what was stored at any of the moments since an entry has its number still at this one
  abbrev pub NumbersLast : Past K V → Moment K V → Type 0
  NumbersLast log m =
      (begun : ℕ) → AllByRecursion (λ v. (n : ℕ) (pair : K × V) → pair_at v.stored n ≡ Some pair → pair_at m.stored n ≡ Some pair) (log.since begun)

  -- what a call has come to
  abbrev pub HasCome : (K → K → Bool) → ℕ → Standing K → (ℕ → ℕ) → Past K V → Moment K V → UnderWay K V K → CallThere K V → Type 0
  HasCome same of s number log m (OnKey u) c = Unit {0}
  HasCome same of s number log m (ForRoom r) c = HasMet of s (log.since c.begun) r
  HasCome same of s number log m (Counting sum) c = HasAdded of (log.since c.begun) sum.setting.mask sum.stands
  HasCome same of s number log m (OverAll o) c = HasSwept same of s number (since log m c) o c

-- The moment shows the scene, and has each pair that was stored at one before by the number that it had. The event that began a call is one of the log or the next one;
-- each call is for what was called, and has come to what it says.
pub record RefinesPurposes {K V : Type 0} (same : K → K → Bool) (name : ℕ → List ℕ) (log : Past K V) (m : Moment K V) (known : Known) (s : Scene K V) : Type 0 where
  pub past : IsPast log
  pub lasts : NumbersLast log m
  pub shown : Refines same name m known s
  pub begun : (of i : ℕ) (u : UnderWay K V K) → s.calls of i ≡ Some u → (c : CallThere K V) → call_of (name i) m ≡ Some c → c.begun ≤ log.entries
  pub is_for : (of i : ℕ) (u : UnderWay K V K) → s.calls of i ≡ Some u → (c : CallThere K V) → call_of (name i) m ≡ Some c → IsFor u c.call
  pub come : (of i : ℕ) (u : UnderWay K V K) → s.calls of i ≡ Some u → (standing : Standing K) → s.maps of ≡ Some standing → (c : CallThere K V) → call_of (name i) m ≡ Some c
      → HasCome same of standing (shown.number of) log m u c
