-- Pairs that were each copied from a table up to one are no more than the places of the tables up to that one.
use Rattle.std.specs.Prelude.{◌≡◌, ℕ, suc, ◌<◌, ◌≤◌, List, ◌∷◌, length}
use Rattle.std.proofs.Common.{ap, ◌∙◌, arith, inl, inr}
use Rattle.std.proofs.lemmas.Bool.{cases_lt}
use Rattle.run_finds.specs.Given.RunsLifeCycle.{times}
use Rattle.run_finds.specs.Given.SchedulesMoment.{Stage}
use Rattle.run_finds.specs.Given.RuleChart.{Place, Holds, Chart}
use Rattle.run_finds.specs.Given.FollowsMaps.{tables_to}
use Rattle.run_grows.specs.Sources.Sources.{HasSource}
use Rattle.run_grows.proofs.Sources.Counting.{no_longer}
use Rattle.run_grows.proofs.Sources.Places.{names_before, found_before, enough, places_to}

-- the number of the pair that a place names, if it names one
abbrev pub number_at : (ℕ → ℕ) → Place → ℕ
number_at number (Holds n phase borrowed) = number n
number_at number _ = 0

module _ {K : Type 0} (map : ℕ) (c : Chart K) (number : ℕ → ℕ) where
  abbrev named : ℕ → ℕ → ℕ
  named t i = number_at number (c.place t i)

  -- this number is that of a pair which was copied from a table before this one
  abbrev pub CameFrom : ℕ → ℕ → Type 0
  CameFrom turn k = (n : ℕ) × (number n ≡ k) × HasSource c n turn

  its_place : (turn k : ℕ) → CameFrom turn k → (t : ℕ) × (i : ℕ) × (t < turn) × (i < c.len t) × (named t i ≡ k)
  its_place turn k (n, is, source) = (source.table, source.place, source.before, source.is.within, named_so)
    where
      named_so : named source.table source.place ≡ k
      named_so = ap (number_at number) source.is.held ∙ is

  -- The pair is one more than those that stand in this list, each once: so these are fewer than there are places.
  pub has_room : (stage : ℕ → Stage) (last k : ℕ) (behind : List ℕ) → last < c.past → ((j : ℕ) → times j (k ∷ behind) ≤ 1) → ((j : ℕ) → 1 ≤ times j (k ∷ behind) → CameFrom (suc last) j)
      → length behind < places_to map c stage last (λ t i. 0) (tables_to map c stage c.past)
  has_room stage last k behind made once came =
      let fits = no_longer (k ∷ behind) (names_before named c.len (suc last)) each in
      let places = enough map c stage last named c.past (suc last) (omega (arith, made)) (omega arith) in
      omega (arith, fits, places)
    where
      each : (j : ℕ) → times j (k ∷ behind) ≤ times j (names_before named c.len (suc last))
      each j = elim (cases_lt 0 (times j (k ∷ behind))) as (λ _. times j (k ∷ behind) ≤ times j (names_before named c.len (suc last))) [
        | inl some ↦
            let p = its_place (suc last) j (came j (omega (arith, some))) in
            let found = found_before named c.len (suc last) j p.0 p.1 p.2 p.3 p.4 in
            let few = once j in
            omega (arith, found, few)
        | inr none ↦ omega (arith, none)
      ]
