-- How many pairs maps have, by what is counted of them: the shards of a map, and what calls under way have added to it, and taken out, and not yet counted.
use Rattle.std.specs.Prelude.{◌≡◌, ℕ, zero, suc, ◌+◌, ◌%◌, ◌^◌, ◌==◌, Bool, false, List, ◌∷◌, sum_by, Some, if◌then◌else◌}
use Rattle.std.specs.List.{AllByRecursion}
use Rattle.run_finds.specs.Given.TablesCounts.{count_in}
use Rattle.run_finds.specs.Given.RunsDeclared.call.Response.TheVariants.{Counted}
use Rattle.run_finds.specs.Given.RunsDeclared.call.Call.TheVariants.{Len}
use Rattle.run_finds.specs.Given.RunsDeclared.event.Event.TheVariants.{OneCall}
use Rattle.run_finds.specs.Given.RunsDeclared.outcome.Outcome.TheVariants.{Answered}
use Rattle.run_finds.specs.Given.SchedulesAfter.{moment, moments_from}
use Rattle.run_finds.specs.Given.SchedulesEffects.{worked}
use Rattle.run_finds.specs.Given.SchedulesEntry.{Entry, acting, caller_of}
use Rattle.run_finds.specs.Given.SchedulesInTurn.{is_called}
use Rattle.run_finds.specs.Given.SchedulesMoment.{MapThere, Moment, UnderWay}
use Rattle.run_finds.specs.Given.SchedulesRuns.{IsLegalLog}
use Rattle.run_finds.specs.Given.SchedulesTerms.{Terms, shards_of}
use Rattle.run_finds.specs.Given.SchedulesViews.{number_of, size_of}

-- the sum of so many words, from the first on
abbrev pub sum_below : ℕ → (ℕ → ℕ) → ℕ
sum_below zero words = 0
sum_below (suc n) words = sum_below n words + words n

module _ {K V : Type 0} where
  -- how many pairs calls under way have added to a map and not yet counted, and how many they have taken out
  abbrev pub gained_on : ℕ → List (UnderWay K V) → ℕ
  gained_on map calls = sum_by (λ c. if map == c.map then c.gained else 0) calls

  abbrev pub lost_on : ℕ → List (UnderWay K V) → ℕ
  lost_on map calls = sum_by (λ c. if map == c.map then c.lost else 0) calls

  -- The shards of a map, with what was added and not yet counted, come to its pairs, with what was taken out and not yet counted: modulo 2 ^ 64, as
  -- shards are words.
  abbrev pub ShardsComeToSize : ℕ → Moment K V → MapThere → Type 0
  ShardsComeToSize shards m f = (sum_below shards (m.shards f.number) + gained_on f.number m.calls) % 2 ^ 64 ≡ (size_of f.number m + lost_on f.number m.calls) % 2 ^ 64

  -- so it is of each map that is there
  abbrev pub IsCounted : Terms → Moment K V → Type 0
  IsCounted terms m = AllByRecursion (ShardsComeToSize (shards_of terms) m) m.maps

  -- At each of these moments calls have counted all that they have added to a map and taken out, and it has so many pairs.
  abbrev pub StaysCounted : ℕ → ℕ → List (Moment K V) → Type 0
  StaysCounted map size moments = AllByRecursion (λ m. (gained_on map m.calls ≡ lost_on map m.calls) × (size_of map m ≡ size)) moments

module _ (K V : Type 0) where
  -- The promises: each map of a run is counted so;
  abbrev pub ShardsSaySize : Type 0
  ShardsSaySize = (eq : K → K → Bool) (terms : Terms) (log : List (Entry K V)) → IsLegalLog eq terms log → IsCounted terms (moment log)

  -- a `len` tells how many pairs its map has, where that stayed so during the call: as a number with a sign, so below 2 ^ 63 just that many;
  abbrev pub LensTellSize : Type 0
  LensTellSize =
      (eq : K → K → Bool) (terms : Terms) (log : List (Entry K V)) (e : Entry K V) → IsLegalLog eq terms (e ∷ log)
      → (c : UnderWay K V) → acting (caller_of e.event) (worked e (moment log)) ≡ Some c → c.call ≡ Len
      → (n : ℕ) → e.outcome ≡ Answered (Counted n) → (size : ℕ) → StaysCounted c.map size (moments_from c.begun log) → n ≡ count_in (size % 2 ^ 64)

  -- and so a whole `len` does of a map on which nobody has a call.
  abbrev pub WholeLensTellSize : Type 0
  WholeLensTellSize =
      (eq : K → K → Bool) (terms : Terms) (log : List (Entry K V)) (e : Entry K V) → IsLegalLog eq terms (e ∷ log)
      → (guard name : List ℕ) → e.event ≡ OneCall guard name Len → (map : ℕ) → number_of name (moment log) ≡ Some map → is_called (Some map) (moment log) ≡ false
      → (n : ℕ) → e.outcome ≡ Answered (Counted n) → n ≡ count_in (size_of map (moment log) % 2 ^ 64)
