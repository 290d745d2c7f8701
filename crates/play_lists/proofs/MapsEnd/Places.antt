-- How many pairs a map has: none just where no pair that was stored is in it.
use Rattle.std.specs.Prelude.{◌≡◌, ℕ, zero, suc, ◌≤◌, ◌⊎◌, Bool, true, false, length}
use Rattle.std.proofs.Common.{refl, ap, sym, ◌∙◌, arith, inl, inr}
use Rattle.std.proofs.lemmas.Bool.{cases_eq}
use Rattle.run_schedules.specs.Schedules.Moment.{Moment, Place}
use Rattle.run_schedules.specs.Schedules.Views.{is_in_map, places_below, size_of}
use Rattle.play_lists.specs.MapsEnd.Ends.{AlikeOf, AreStored}
use Rattle.run_finds.proofs.Given.MomentsWholeEnds.{one_if}

module _ (test : Place → Bool) (place : ℕ → Place) where
  none_below : (n : ℕ) → places_below test place n ≡ 0 → (k : ℕ) → 1 ≤ k → k ≤ n → test (place k) ≡ false
  none_below zero e k l u = absurd (omega (arith, l, u))
  none_below (suc n) e k l u = by (test (place (suc n))) refl (cases_eq k (suc n)) (none_below n)
    where
      by : (q : Bool) → test (place (suc n)) ≡ q → (k ≡ suc n) ⊎ (k ≡ suc n → ⊥) → (places_below test place n ≡ 0 → (j : ℕ) → 1 ≤ j → j ≤ n → test (place j) ≡ false) → test (place k) ≡ false
      by true is at rest = absurd (let one : one_if (test (place (suc n))) ≡ 1 = ap one_if is in omega (arith, e, one))
      by false is (inl same) rest = ap (λ (j : ℕ). test (place j)) same ∙ is
      by false is (inr ne) rest = rest (omega (arith, e)) k l (omega (arith, u, ne))

  all_none : (n : ℕ) → ((k : ℕ) → test (place k) ≡ false) → places_below test place n ≡ 0
  all_none zero none = refl
  all_none (suc n) none = let here = ap one_if (none (suc n)) in let before = all_none n none in omega (arith, here, before)

module _ {K V : Type 0} (map : ℕ) where
  pub none_in : (m : Moment K V) → AreStored map m → size_of map m ≡ 0 → (k : ℕ) → is_in_map map (m.place k) ≡ false
  none_in m stored none k = by (is_in_map map (m.place k)) refl
    where
      by : (q : Bool) → is_in_map map (m.place k) ≡ q → is_in_map map (m.place k) ≡ false
      by false e = e
      by true e = let its = stored k e in none_below (is_in_map map) m.place (length m.stored) none k its.0 its.1

  pub none_then : (m : Moment K V) → ((k : ℕ) → is_in_map map (m.place k) ≡ false) → size_of map m ≡ 0
  none_then m none = all_none (is_in_map map) m.place (length m.stored) none

  -- so it is of both of two moments that are alike
  pub none_alike : (m v : Moment K V) → AlikeOf map m v → AreStored map m → size_of map m ≡ 0 → size_of map v ≡ 0
  none_alike m v alike stored none = none_then v (λ k. alike.pairs k ∙ none_in m stored none k)

  pub stored_alike : (m v : Moment K V) → AlikeOf map m v → AreStored map m → AreStored map v
  stored_alike m v alike stored k e = let its = stored k (sym (alike.pairs k) ∙ e) in let more = alike.stored in let l = its.0 in let u = its.1 in (l, omega (arith, u, more))
