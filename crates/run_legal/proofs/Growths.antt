-- What just asks for growths leaves the moment as it is.
use Rattle.std.specs.Prelude.{◌≡◌, ℕ, true, List, [], ◌∷◌, ◌++◌, flat_map, map, Option, Some, None}
use Rattle.std.specs.List.{list_all}
use Rattle.std.proofs.Common.{refl, ap, ◌∙◌}
use Rattle.std.proofs.lemmas.List.{append-nil}
use Rattle.run_grows.specs.Given.RunsDeclared.holders.NamedGuard.{NamedGuard}
use Rattle.run_grows.specs.Given.RunsDeclared.effect.Effect.{Effect}
use Rattle.run_grows.specs.Given.RunsDeclared.effect.Effect.TheVariants.{Asked}
use Rattle.run_grows.specs.Given.RunsDeclared.effect.Growth.{Growth}
use Rattle.run_grows.specs.Given.RunsDeclared.effect.Thing.{Thing}
use Rattle.run_grows.specs.Given.SchedulesEffects.{with_effect, with_effects}
use Rattle.run_grows.specs.Given.SchedulesInTurn.{is_growth}
use Rattle.run_grows.specs.Given.SchedulesMoment.{Moment, Sheltered}

none_sheltered : (gs : List NamedGuard) → ◌≡◌ {A = List Sheltered} (flat_map (λ (g : NamedGuard). map (λ (x : Thing). record { guard = g.name; thing = x }) []) gs) []
none_sheltered [] = refl
none_sheltered (g ∷ gs) = none_sheltered gs

module _ {K V : Type 0} where
  as_it_was : (m : Moment K V) (xs : List Sheltered) → xs ≡ []
      → ◌≡◌ {A = Moment K V} (record m { sheltered = xs ++ m.sheltered; given_back = m.given_back ++ [] }) m
  as_it_was m xs none =
      ap (λ (ys : List Sheltered). record m { sheltered = ys ++ m.sheltered; given_back = m.given_back ++ [] }) none ∙ ap (λ (ns : List ℕ). record m { given_back = ns }) (append-nil m.given_back)

  growth_leaves : (of : Option ℕ) (growth : Growth) (m : Moment K V) → with_effect None of (Asked growth) m ≡ m
  growth_leaves None growth m = as_it_was m (flat_map (λ (g : NamedGuard). map (λ (x : Thing). record { guard = g.name; thing = x }) []) m.there.guards) (none_sheltered m.there.guards)
  growth_leaves (Some map_of) growth m = as_it_was m (flat_map (λ (g : NamedGuard). map (λ (x : Thing). record { guard = g.name; thing = x }) []) m.there.guards) (none_sheltered m.there.guards)

  pub growths_leave : (of : Option ℕ) (fs : List Effect) (m : Moment K V) → list_all is_growth fs ≡ true → with_effects None of fs m ≡ m
  growths_leave of [] m all = refl
  growths_leave of (Asked growth ∷ fs) m all = growths_leave of fs (with_effect None of (Asked growth) m) all ∙ growth_leaves of growth m
  growths_leave of (_ ∷ fs) m all = absurd (cc all)
