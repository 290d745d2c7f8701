-- Whether a pair of a map lies at a place of a table, and whether one did, by what the table names there.
use Rattle.std.specs.Prelude.{◌≡◌, ◌≢◌, ℕ, zero, suc, ◌+◌, ◌<◌, ◌≤◌, ◌==◌, ◌&&◌, ◌||◌, Bool, true, false, List, [], ◌∷◌, length}
use Rattle.std.specs.List.{list_any}
use Rattle.std.proofs.Common.{refl, ap, sym, ◌∙◌, arith, inl, inr}
use Rattle.std.proofs.lemmas.Bool.{cases_eq, eq-eqb}
use Rattle.run_shows.specs.Given.RunsDeclared.effect.Spot.{Spot}
use Rattle.run_shows.specs.Given.SchedulesLists.{numbers_from}
use Rattle.run_shows.specs.Given.SchedulesMoment.{Moment}
use Rattle.run_shows.specs.Given.SchedulesThings.{same_spot}
use Rattle.run_shows.specs.Given.SchedulesTries.{has_pair_at, is_taken_at}
use Rattle.run_shows.specs.Given.SchedulesViews.{is_in_map}
use Rattle.run_shows.specs.Given.FinishesMaps.{Standing}
use Rattle.run_shows.specs.Given.EffectsKnown.{Known}
use Rattle.run_shows.specs.Follows.Maps.{RefinesMap}
use Rattle.run_shows.proofs.Follows.Stored.{in_map_true}
use Rattle.run_places.specs.Spots.Spots.{ThePair, named_by, spot_in, LiesAt}
use Rattle.run_places.proofs.Spots.Placed.{lies_named}
use Rattle.run_shows.proofs.Given.General.{or_second, both_true as and_both}

any_none : {X : Type 0} (p : X → Bool) → ((x : X) → p x ≡ false) → (xs : List X) → list_any p xs ≡ false
any_none p none [] = refl
any_none p none (x ∷ xs) = ap (λ (q : Bool). q || list_any p xs) (none x) ∙ any_none p none xs

-- a spot is the same as itself
pub spot_same : (s t : Spot) → s ≡ t → same_spot s t ≡ true
spot_same s t e = ap (λ (x : Spot). same_spot x t) e ∙ ap (λ (q : Bool). q && (t.place == t.place)) (eq-eqb t.turn t.turn refl) ∙ eq-eqb t.place t.place refl

spot_from : (s t : Spot) → same_spot s t ≡ true → (s.turn ≡ t.turn) × (s.place ≡ t.place)
spot_from s t e = let two = and_both (s.turn == t.turn) (s.place == t.place) e in (number_is s.turn t.turn two.0, number_is s.place t.place two.1)
  where
    number_is : (a b : ℕ) → (a == b) ≡ true → a ≡ b
    number_is a b e = grind (arith, e)

-- one of so many numbers passes a test
pub number_among : (test : ℕ → Bool) (first many n : ℕ) → first ≤ n → n < first + many → test n ≡ true → list_any test (numbers_from first many) ≡ true
number_among test first zero n from to passes = absurd (omega (arith, from, to))
number_among test first (suc many) n from to passes =
    elim (cases_eq n first) as (λ _. (test first || list_any test (numbers_from (suc first) many)) ≡ true) [
      | inl e ↦ ap (λ (q : Bool). q || list_any test (numbers_from (suc first) many)) (ap test (sym e) ∙ passes)
      | inr other ↦ or_second (test first) (list_any test (numbers_from (suc first) many)) (number_among test (suc first) many n (omega (arith, from, other)) (omega (arith, to)) passes)
    ]

module _ {K V : Type 0} (map : ℕ) (m : Moment K V) where
  -- one that was stored in the map lies there, or did
  pub taken_there : (k : ℕ) (s : Spot) → 0 < k → k ≤ length m.stored → (m.born k).map ≡ map → m.spot k ≡ s → is_taken_at map s m ≡ true
  taken_there k s some most born at =
      number_among (λ n. ((m.born n).map == map) && same_spot (m.spot n) s) 1 (length m.stored) k (omega (arith, some)) (omega (arith, most))
      (ap (λ (q : Bool). q && same_spot (m.spot k) s) (eq-eqb (m.born k).map map born) ∙ spot_same (m.spot k) s at)

  -- a pair of the map does
  pub pair_there : (k : ℕ) (s : Spot) → 0 < k → k ≤ length m.stored → is_in_map map (m.place k) ≡ true → m.spot k ≡ s → has_pair_at map s m ≡ true
  pair_there k s some most in_map at =
      number_among (λ n. is_in_map map (m.place n) && same_spot (m.spot n) s) 1 (length m.stored) k (omega (arith, some)) (omega (arith, most))
      (ap (λ (q : Bool). q && same_spot (m.spot k) s) in_map ∙ spot_same (m.spot k) s at)

-- and none where the table names none
module _ {K V : Type 0} (map : ℕ) (number : ℕ → ℕ) (s : Standing K) (m : Moment K V) (known : Known) (shown : RefinesMap map number s m known) (q : Bool)
    (lies : (n : ℕ) → s.chart.current n ≡ true → LiesAt s.chart q n (m.spot (number n)) (m.born (number n)).turn) where
  pub no_pair_there : (t i : ℕ) → ((n : ℕ) (b : Bool) → named_by (s.chart.place t i) ≢ ThePair n b) → has_pair_at map (spot_in t i) m ≡ false
  no_pair_there t i none = any_none (λ k. is_in_map map (m.place k) && same_spot (m.spot k) (spot_in t i)) (λ k. by k (is_in_map map (m.place k)) refl (same_spot (m.spot k) (spot_in t i)) refl) (numbers_from 1 (length m.stored))
    where
      not_here : (k : ℕ) → is_in_map map (m.place k) ≡ true → same_spot (m.spot k) (spot_in t i) ≡ true → ⊥
      not_here k in_map at =
          let it = shown.pairs.all k (in_map_true map (m.place k) in_map) in
          let current : s.chart.current it.0 ≡ true = sym (shown.pairs.here it.0 it.1) ∙ ap (λ (x : ℕ). is_in_map map (m.place x)) (sym it.2) ∙ in_map in
          let named = lies_named s.chart q it.0 (m.spot (number it.0)) (m.born (number it.0)).turn (lies it.0 current) in
          let spot = spot_from (m.spot k) (spot_in t i) at in
          none it.0 named.1
          (ap (λ (x : ℕ). named_by (s.chart.place x i)) (sym spot.0) ∙ ap (λ (x : ℕ). named_by (s.chart.place (m.spot k).turn x)) (sym spot.1)
          ∙ ap (λ (x : ℕ). named_by (s.chart.place (m.spot x).turn (m.spot x).place)) it.2 ∙ named.2)

      by : (k : ℕ) (a : Bool) → is_in_map map (m.place k) ≡ a → (b : Bool) → same_spot (m.spot k) (spot_in t i) ≡ b → (is_in_map map (m.place k) && same_spot (m.spot k) (spot_in t i)) ≡ false
      by k true in_map true at = absurd (not_here k in_map at)
      by k true in_map false at = ap (λ (x : Bool). x && same_spot (m.spot k) (spot_in t i)) in_map ∙ at
      by k false in_map b at = ap (λ (x : Bool). x && same_spot (m.spot k) (spot_in t i)) in_map
