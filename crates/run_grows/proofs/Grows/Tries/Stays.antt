-- A place is found taken at a moment as it was at another one, where the pairs of its map lie where they lay.
use Rattle.std.specs.Prelude.{◌≡◌, ◌<◌, ◌≤◌, ◌==◌, ◌&&◌, ◌||◌, ℕ, Bool, true, false, List, [], ◌∷◌, length, if◌then◌else◌}
use Rattle.std.specs.List.{list_any}
use Rattle.std.proofs.Common.{refl, ap, sym, ◌∙◌, arith, inl, inr}
use Rattle.run_schedules.specs.declared.effect.Spot.{Spot}
use Rattle.run_schedules.specs.declared.effect.TableId.{TableId}
use Rattle.run_schedules.specs.Schedules.Lists.{numbers_from}
use Rattle.run_schedules.specs.Schedules.Moment.{Moment, Place}
use Rattle.run_schedules.specs.Schedules.Things.{same_spot}
use Rattle.run_schedules.specs.Schedules.Tries.{FindsTaken, has_pair_at, is_taken_at}
use Rattle.run_schedules.specs.Schedules.Views.{is_in_map, map_at}
use Rattle.run_finds.specs.Given.RuleChart.{Chart}
use Rattle.run_finds.specs.Given.EffectsKnown.{Known}
use Rattle.run_finds.specs.Given.FinishesMaps.{Standing}
use Rattle.run_finds.specs.Given.FollowsMaps.{RefinesMap}
use Rattle.run_finds.proofs.Given.FollowsStored.{in_map_true}
use Rattle.run_finds.specs.Within.{many_of}
use Rattle.run_grows.specs.Sources.Sources.{AreNumbered}
use Rattle.run_grows.specs.Sources.Stays.{PairsStay}
use Rattle.run_grows.proofs.Sources.Stays.{numbers_stay}
use Rattle.run_grows.specs.Grows.Tries.{TakenOrPassed}
use Rattle.run_grows.proofs.Grows.Finding.Alike.{many_same}
use Rattle.run_grows.proofs.Grows.Since.{HasSamePairs}

any_same : (p q : ℕ → Bool) → ((n : ℕ) → p n ≡ q n) → (xs : List ℕ) → list_any p xs ≡ list_any q xs
any_same p q same [] = refl
any_same p q same (x ∷ xs) = ap (λ (b : Bool). b || list_any p xs) (same x) ∙ ap (λ (b : Bool). q x || b) (any_same p q same xs)

-- Where the same pairs are in the map,
module _ {K V : Type 0} (map : ℕ) (m v : Moment K V) (stored : v.stored ≡ m.stored) (born : v.born ≡ m.born) (spot : v.spot ≡ m.spot) (there : (k : ℕ) → is_in_map map (v.place k) ≡ is_in_map map (m.place k)) where
  numbers : numbers_from 1 (length v.stored) ≡ numbers_from 1 (length m.stored)
  numbers = ap (λ (xs : List (K × V)). numbers_from 1 (length xs)) stored

  taken_same : (s : Spot) → is_taken_at map s v ≡ is_taken_at map s m
  taken_same s =
      any_same (λ n. ((v.born n).map == map) && same_spot (v.spot n) s) (λ n. ((m.born n).map == map) && same_spot (m.spot n) s)
      (λ n. ap (λ (f : ℕ → TableId). ((f n).map == map) && same_spot (v.spot n) s) born ∙ ap (λ (f : ℕ → Spot). ((m.born n).map == map) && same_spot (f n) s) spot) (numbers_from 1 (length v.stored))
      ∙ ap (λ (ns : List ℕ). list_any (λ n. ((m.born n).map == map) && same_spot (m.spot n) s) ns) numbers

  pairs_same : (s : Spot) → has_pair_at map s v ≡ has_pair_at map s m
  pairs_same s =
      any_same (λ n. is_in_map map (v.place n) && same_spot (v.spot n) s) (λ n. is_in_map map (m.place n) && same_spot (m.spot n) s)
      (λ n. ap (λ (b : Bool). b && same_spot (v.spot n) s) (there n) ∙ ap (λ (f : ℕ → Spot). is_in_map map (m.place n) && same_spot (f n) s) spot) (numbers_from 1 (length v.stored))
      ∙ ap (λ (ns : List ℕ). list_any (λ n. is_in_map map (m.place n) && same_spot (m.spot n) s) ns) numbers

  pub taken_still : (s : Spot) (pairs : ℕ) → FindsTaken map s m pairs → FindsTaken map s v pairs
  taken_still s pairs found = (taken_same s ∙ found.0, found.1 ∙ sym (ap (λ (b : Bool). if b then 1 else 0) (pairs_same s)))

  pub passed_still : many_of map m ≤ many_of map v → (x : Spot × ℕ) → TakenOrPassed map x m → TakenOrPassed map x v
  passed_still more x (inl found) = inl (taken_still x.0 x.1 found)
  passed_still more x (inr passed) = inr (omega (arith, more, passed))

-- as where all are where they were,
pub same_taken : {K V : Type 0} (m v : Moment K V) → HasSamePairs m v → (map : ℕ) → many_of map m ≤ many_of map v → (x : Spot × ℕ) → TakenOrPassed map x m → TakenOrPassed map x v
same_taken m v pairs map more x so = passed_still map m v pairs.stored pairs.born pairs.spot (λ k. ap (λ (f : ℕ → Place). is_in_map map (f k)) pairs.place) more x so

pub taken_where : {K V : Type 0} (m v : Moment K V) → HasSamePairs m v → v.tables ≡ m.tables → (map : ℕ) → map_at map v ≡ map_at map m → (x : Spot × ℕ) → TakenOrPassed map x m → TakenOrPassed map x v
taken_where m v pairs tables map there x so = same_taken m v pairs map (many_same m v tables map) x so

-- and where its tables say so.
module _ {K V : Type 0} (map : ℕ) (number number2 : ℕ → ℕ) (st st2 : Standing K) (m v : Moment K V) (known known2 : Known) (stored : v.stored ≡ m.stored) (born : v.born ≡ m.born) (spot : v.spot ≡ m.spot)
    (same_chart : st2.chart ≡ st.chart) (shown : RefinesMap map number st m known) (shown2 : RefinesMap map number2 st2 v known2) (numbered : AreNumbered map number st m) where
  stay : PairsStay m v
  stay = record { stored = ap length stored; born = λ k l. ap (λ (f : ℕ → TableId). f k) born; spot = λ k l. ap (λ (f : ℕ → Spot). f k) spot }

  numbers_as : (n : ℕ) → n < st.chart.stored → number2 n ≡ number n
  numbers_as = numbers_stay map number number2 st st2 m v known known2 stay same_chart shown shown2 numbered

  as_many : st2.chart.stored ≡ st.chart.stored
  as_many = ap (λ (c : Chart K). c.stored) same_chart

  current_as : (n : ℕ) → st2.chart.current n ≡ st.chart.current n
  current_as n = ap (λ (c : Chart K). c.current n) same_chart

  comes_in : (k : ℕ) → is_in_map map (m.place k) ≡ true → is_in_map map (v.place k) ≡ true
  comes_in k is =
      let it = shown.pairs.all k (in_map_true map (m.place k) is) in
      let current : st.chart.current it.0 ≡ true = sym (shown.pairs.here it.0 it.1) ∙ ap (λ (x : ℕ). is_in_map map (m.place x)) (sym it.2) ∙ is in
      let same_number : k ≡ number2 it.0 = it.2 ∙ sym (numbers_as it.0 it.1) in
      ap (λ (x : ℕ). is_in_map map (v.place x)) same_number ∙ shown2.pairs.here it.0 (let l = it.1 in omega (arith, l, as_many)) ∙ current_as it.0 ∙ current

  was_in : (k : ℕ) → is_in_map map (v.place k) ≡ true → is_in_map map (m.place k) ≡ true
  was_in k is =
      let it = shown2.pairs.all k (in_map_true map (v.place k) is) in
      let old : it.0 < st.chart.stored = (let l = it.1 in omega (arith, l, as_many)) in
      let current : st2.chart.current it.0 ≡ true = sym (shown2.pairs.here it.0 it.1) ∙ ap (λ (x : ℕ). is_in_map map (v.place x)) (sym it.2) ∙ is in
      let same_number : k ≡ number it.0 = it.2 ∙ numbers_as it.0 old in
      ap (λ (x : ℕ). is_in_map map (m.place x)) same_number ∙ shown.pairs.here it.0 old ∙ sym (current_as it.0) ∙ current

  same_in : (k : ℕ) → is_in_map map (v.place k) ≡ is_in_map map (m.place k)
  same_in k = by (is_in_map map (v.place k)) (is_in_map map (m.place k)) refl refl
    where
      by : (a b : Bool) → is_in_map map (v.place k) ≡ a → is_in_map map (m.place k) ≡ b → is_in_map map (v.place k) ≡ is_in_map map (m.place k)
      by true b now was = now ∙ sym (was_in k now)
      by false true now was = absurd (let came = comes_in k was in cc (came, now))
      by false false now was = now ∙ sym was

  pub chart_taken : many_of map m ≤ many_of map v → (x : Spot × ℕ) → TakenOrPassed map x m → TakenOrPassed map x v
  chart_taken more x so = passed_still map m v stored born spot same_in more x so
