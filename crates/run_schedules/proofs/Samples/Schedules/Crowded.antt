-- Which table follows a full one of the same length: all its places are tried where the tries met pairs, and not where those were removed. And wrong runs.
use Rattle.std.specs.Prelude.{◌-◌, ◌%◌, if◌then◌else◌, map}
use Rattle.std.proofs.Common.{◌≡◌, ℕ, zero, suc, Bool, true, false, [], ◌∷◌, inl, inr, refl, arith, ap, ◌∙◌}
use Rattle.papaya_raw.specs.Given.TablesDeclared.lengths.Reason.TheVariants.{Full, Reserved, NoPlace}
use Rattle.papaya_raw.specs.Given.TablesLengths.{next_limit}
use Rattle.papaya_raw.specs.Given.TablesProbes.{triangular}
use Rattle.run_schedules.specs.declared.call.Call.TheVariants.{On}
use Rattle.run_schedules.specs.declared.call.OneKey.TheVariants.{Insert}
use Rattle.run_schedules.specs.Schedules.Lists.{numbers_from}
use Rattle.run_schedules.specs.Schedules.Beginning.{fresh_call}
use Rattle.run_schedules.specs.Schedules.Moment.{Place, InMap, GivenBack, UnderWay, TableThere, IsLinked, Moment, start}
use Rattle.run_schedules.specs.Schedules.Tries.{try_at, is_taken_at, Meets}
use Rattle.run_schedules.specs.Schedules.Growing.{IsNextShape}
use Rattle.run_schedules.proofs.Samples.Schedules.Words.{small, spot, table, shape, tries_meet}

-- 31 pairs of hash 0 are at all its tries in a table of 64 places: in the map, or given back; and a call brings one more
abbrev full : TableThere
full = record { table = table 0; shape = shape 64 30; stage = IsLinked }

abbrev crowd : Place → Moment ℕ ℕ
crowd there =
    record start {
      stored = map (λ (k : ℕ). (k, 10)) (numbers_from 0 31);
      place = λ n. there;
      born = λ n. table 0;
      spot = λ n. spot 0 (triangular (n - 1) % 64);
      tables = full ∷ [];
    }

abbrev inserting : UnderWay ℕ ℕ
inserting = fresh_call [] [] (On (Insert 40 10)) 0 0

-- The map has 31 pairs, less than half of 64 and more than an eighth: the next table is as long, and tried everywhere.
after_pairs : IsNextShape small inserting (crowd (InMap 0) ∷ []) 48 full (shape 64 63)
unfolding lib.Count.count_leading_zeros
after_pairs = (Full 31 31, 31, 64, refl, (refl, (0, tries_meet 0 64 0 (crowd (InMap 0)) [] 31 refl)), refl, refl)

-- It has none, and was made for 48: the next table is as long, and has the limit of that length.
after_tombstones : IsNextShape small inserting (crowd GivenBack ∷ []) 48 full (shape 64 30)
unfolding lib.Count.count_leading_zeros
after_tombstones = (Full 0 0, 0, 64, refl, (refl, (0, tries_meet 0 64 0 (crowd GivenBack) [] 31 refl)), refl, refl)

-- whatever its hash, a call meets a pair at each try where none was removed
all_met : (hash tries met : ℕ) → Meets 0 0 64 hash (crowd (InMap 0) ∷ []) tries met → met ≡ tries
all_met hash zero met none = none
all_met hash (suc try) met (inl (before, pairs, so, finds, sum)) =
    let so_far = all_met hash try before so in
    let one = found (is_taken_at 0 (try_at 0 64 hash try) (crowd (InMap 0))) finds.0 finds.1 in
    omega (arith, so_far, one, sum)
  where
    found : (b : Bool) → b ≡ true → pairs ≡ (if b then 1 else 0) → pairs ≡ 1
    found true e is = is
    found false e is = absurd (cc e)
all_met hash (suc try) met (inr e) = absurd e

-- and none where all were
none_met : (hash tries met : ℕ) → Meets 0 0 64 hash (crowd GivenBack ∷ []) tries met → met ≡ 0
none_met hash zero met none = none
none_met hash (suc try) met (inl (before, pairs, so, finds, sum)) =
    let so_far = none_met hash try before so in
    let none = finds.1 in
    omega (arith, so_far, none, sum)
none_met hash (suc try) met (inr e) = absurd e

-- wrong: after pairs alone the limit is that of the length
short : ◌≡◌ {A = ℕ} 30 63 → ⊥
short h = omega (arith, h)

stops_early : IsNextShape small inserting (crowd (InMap 0) ∷ []) 48 full (shape 64 30) → ⊥
unfolding lib.Count.count_leading_zeros
stops_early (Full met most, count, initial, made, (valued, (hash, met_so)), is, limit) =
    let all : met ≡ 31 = all_met hash 31 met met_so in
    short (limit ∙ ap (λ (n : ℕ). next_limit (Full n most) 64 30 64) all)
stops_early (NoPlace, count, initial, made, may, is, limit) = short limit
stops_early (Reserved more, count, initial, made, may, is, limit) = may

-- wrong: where all were removed every place is tried
long : ◌≡◌ {A = ℕ} 63 30 → ⊥
long h = omega (arith, h)

twice : ◌≡◌ {A = ℕ} 64 128 → ⊥
twice h = omega (arith, h)

tries_tombstones : IsNextShape small inserting (crowd GivenBack ∷ []) 48 full (shape 64 63) → ⊥
unfolding lib.Count.count_leading_zeros
tries_tombstones (Full met most, count, initial, made, (valued, (hash, met_so)), is, limit) =
    let none : met ≡ 0 = none_met hash 31 met met_so in
    long (limit ∙ ap (λ (n : ℕ). next_limit (Full n most) 64 30 64) none)
tries_tombstones (NoPlace, count, initial, made, may, is, limit) = twice is
tries_tombstones (Reserved more, count, initial, made, may, is, limit) = may
