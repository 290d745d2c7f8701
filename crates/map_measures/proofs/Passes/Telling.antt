-- A sweep that is asked for the next pair, or told whether a pair is to be kept, has a lower number then.
use Rattle.std.specs.Prelude.{nat_lt, if◌then◌else◌}
use Rattle.std.proofs.Common.{◌≡◌, ℕ, suc, ◌-◌, ◌<◌, ◌≤◌, Bool, true, false, ◌∷◌, ◌⊎◌, inl, inr, refl, subst, sym, arith}
use Rattle.std.proofs.lemmas.Bool.{cases_lt}
use Rattle.map_sweeps.specs.Sweeps.SweepPoints.{next_at, reply_at}
use Rattle.map_sweeps.specs.declared.sweep.Sweep.{Sweep}
use Rattle.map_sweeps.specs.declared.sweep.Sweeping.{Sweeping}
use Rattle.map_sweeps.specs.declared.sweep.Sweeping.TheVariants as at
use Rattle.many_calls.specs.Given.RuleChart.{Chart}
use Rattle.many_calls.specs.Given.RuleWords.{Blocks}
use Rattle.many_calls.specs.Given.PointsMeasures.{IsBelow}
use Rattle.map_measures.specs.Falls.Room.{tables_to_come}
use Rattle.many_calls.specs.Given.LateFactsSweeps.{SweepingFacts}
use Rattle.map_measures.specs.Passes.FallsSweeps.{RepliesLowerTheVariant}
use Rattle.map_measures.specs.Passes.Sweeps.{stale, numbers_at, number_of_sweep}
use Rattle.map_measures.proofs.Passes.Over.{further_on}
use Rattle.map_measures.proofs.Passes.Places.{none_within}

-- the end is below each stage
over_below : {A : Type 0} (x tables stage : ℕ) → 0 < stage → (x < x) ⊎ ((x ≡ x) × ((0 < tables) ⊎ ((0 ≡ tables) × ((0 < stage) ⊎ ((0 ≡ stage) × A)))))
over_below {A} x tables stage some = by (cases_lt 0 tables)
  where
    by : (0 < tables) ⊎ (tables ≤ 0) → (x < x) ⊎ ((x ≡ x) × ((0 < tables) ⊎ ((0 ≡ tables) × ((0 < stage) ⊎ ((0 ≡ stage) × A)))))
    by (inl l) = inr (refl, inl l)
    by (inr l) = inr (refl, inr (omega (arith, l), inl some))

module _ {K : Type 0} (hash : K → ℕ) (c : Chart K) (blocks : Blocks) (p : Sweep) where
  abbrev Below : Sweep → Sweeping → Type 0
  Below q stands = IsBelow (number_of_sweep hash c blocks q) (numbers_at hash c blocks p stands)

  -- it reads its next place, or is at the end
  pub next_below : Below (next_at at.Ready p) at.Ready
  next_below = by (nat_lt p.place p.table.len)
    where
      by : (more : Bool) → Below (record p { stands = if more then at.Words else at.Over }) at.Ready
      by true = inr (refl, inr (refl, inr (refl, inr (refl, inl (omega arith)))))
      by false = over_below (tables_to_come c.past 0) (c.past - p.table.turn) 2 (omega arith)

module _ {K : Type 0} (V : Type 0) (same : K → K → Bool) (hash : K → ℕ) where
  pub telling_falls : RepliesLowerTheVariant V same hash
  telling_falls setting w caller c blocks began p map f = (
    λ is. subst (λ (stands : Sweeping). Below hash c blocks p (next_at stands p) stands) (sym is) (next_below hash c blocks p),
    λ word is keeps. (subst (λ (stands : Sweeping). Below hash c blocks p (reply_at stands p keeps) stands) (sym is)
        (replied word keeps (subst (SweepingFacts same hash w caller setting c blocks began p) is f.point))),
  )
    where
      replied : (word : ℕ) (keeps : Bool) → SweepingFacts same hash w caller setting c blocks began p (at.Asks word)
          → Below hash c blocks p (reply_at (at.Asks word) p keeps) (at.Asks word)
      replied word true (retains, names, t, (over, inside)) =
          further_on same hash setting w caller c blocks began map p t over inside c blocks refl (suc (suc (suc (stale hash c blocks p word))) ∷ none_within)
      replied word false point = inr (refl, inr (refl, inr (refl, inr (refl, inl (omega arith)))))
