-- One that has nothing under way may come to know the map that another one knows, who stays as it is.
use Rattle.std.specs.Prelude.{Some, None, slice_set}
use Rattle.std.proofs.Common.{◌≡◌, ℕ, List, [], Bool, inl, inr, refl, sym, subst, ap}
use Rattle.threads_errands.proofs.Given.ViewsLaws.{maps_are_handed_on}
use Rattle.threads_errands.specs.Given.ViewsBegun.{shown_map}
use Rattle.seize_blocks.specs.Given.SeizeSeatsState.{Learns}
use Rattle.seize_views.specs.declared.view.Fixed.{Fixed}
use Rattle.threads_errands.specs.Given.ViewsRule.{Holds, IsBy, KeepsFor, Leans, LeansOn}
use Rattle.threads_errands.specs.Given.ViewsDeclared.view.Map.{Map}
use Rattle.threads_errands.specs.Given.ViewsDeclared.view.View.{View}
use Rattle.threads_errands.specs.Given.ViewsDeclared.view.SeatWork.TheVariants.{Nothing}
use Rattle.threads_callers.specs.Standing.{LearnsMap}
use Rattle.seize_words.proofs.General.{set_same as as_before}

-- who was handed a map on leans on whom it leant, but on no owner
pub shown_leans : {K V S : Type 0} (v w : View K V S) (map : Map S) (n : ℕ) → w ≡ shown_map v map → Leans w n → Leans v n
shown_leans {K} {V} {S} v w map n is (inl leans) = inl (subst (λ (x : View K V S). LeansOn x.under n) is leans)
shown_leans {K} {V} {S} v w map n is (inr leans) = absurd (subst (λ (x : View K V S). IsBy x.by n) is leans)

module _ {K V S : Type 0} (same : K → K → Bool) (hash : S → K → ℕ) (fixed : Fixed) (i : ℕ) (v : View K V S) (j : ℕ) (u : View K V S) where
  pub may_learn : (map : Map S) → u.map ≡ Some map → u.by ≡ None → v.work ≡ Nothing → Learns (Holds same hash fixed) KeepsFor i v j u (LearnsMap v u)
  may_learn map knows good free s h at there ne =
      let g = maps_are_handed_on V same hash fixed j i u v map knows good free s h there at (λ e. ne (sym e)) in
      let views : List (View K V S) = slice_set (slice_set s.views j g.0) i g.1 in
      let is : views ≡ slice_set s.views i (shown_map v map) =
      subst (λ (p : View K V S). slice_set (slice_set s.views j p) i g.1 ≡ slice_set s.views i (shown_map v map)) (sym g.3.0)
      (subst (λ (q : View K V S). slice_set (slice_set s.views j u) i q ≡ slice_set s.views i (shown_map v map)) (sym g.3.1)
      (ap (λ (l : List (View K V S)). slice_set l i (shown_map v map)) (as_before s.views j u there))) in (
        shown_map v map,
        s.world,
        subst (λ (l : List (View K V S)). Holds same hash fixed record { memory = s.memory; views = l; world = s.world }) is g.2,
        λ k o b x y far away x_is y_is kept. kept,
        (map, knows, refl),
      )
