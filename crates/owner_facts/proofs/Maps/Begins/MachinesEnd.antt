-- Machines come to an end: a counting and a making of a table whatever others do, a lookup where no other caller takes a step.
use Rattle.std.proofs.Common.{◌≡◌, ℕ, List, length, refl, ap, subst, ◌∙◌}
use Rattle.many_maps.specs.Given.PointsMeasures.{IsBelow, EndsFrom, ends}
use Rattle.owner_facts.specs.Alone.Endings.{RunsEnd, runs_end, StepsLower}
use Rattle.many_maps.proofs.Given.PointsDescents.{descents_end}

module _ (X : Type 0) (step : X → X → Type 0) (number : X → List ℕ) (lower : StepsLower X step number) where
  from : (x : X) (xs : List ℕ) → number x ≡ xs → EndsFrom xs → RunsEnd X step x
  from x xs is (ends _ below) =
      runs_end x (λ y s. let l = lower x y s in from y (number y) refl (below (number y) (l.0 ∙ ap (λ (z : List ℕ). length z) is) (subst (λ (z : List ℕ). IsBelow (number y) z) is l.1)))

  -- what each step lowers ends all runs
  pub lowered_ends : (x : X) → RunsEnd X step x
  lowered_ends x = from x (number x) refl (descents_end (number x))
