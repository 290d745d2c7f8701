-- Effects that are of no call: they change no call and store no pair, and those that move nothing leave the pairs and the tables as they were.
use Rattle.std.specs.Prelude.{◌≡◌, ℕ, Bool, true, List, [], ◌∷◌, find, Option, Some, None}
use Rattle.std.proofs.Common.{refl, ap, ◌∙◌}
use Rattle.run_effects.specs.Given.RunsSame.{is_same}
use Rattle.run_effects.specs.Given.RunsDeclared.effect.Effect.{Effect}
use Rattle.run_effects.specs.Given.RunsDeclared.effect.Effect.TheVariants.{Asked, PairMade, PairGivenUp, TableMade, TableGivenUp, Copied, Counted}
use Rattle.run_effects.specs.Given.SchedulesEffects.{with_effect, with_effects}
use Rattle.run_effects.specs.Given.SchedulesMoment.{UnderWay as CallThere, Moment}
use Rattle.many_maps.specs.Given.CallersTogether.{UnderWay}
use Rattle.run_shows.specs.Follows.Calls.{RefinesCalls}
use Rattle.run_shows.proofs.Follows.Alike.{is_still, AllStill, AreSame, still_all}

module _ {K V : Type 0} where
  pub calls_none : (of : Option ℕ) (effects : List Effect) (m : Moment K V) → (with_effects None of effects m).calls ≡ m.calls
  calls_none of [] m = refl
  calls_none of (f ∷ effects) m = calls_none of effects (with_effect None of f m)

  pub stored_none : (of : Option ℕ) (effects : List Effect) (m : Moment K V) → (with_effects None of effects m).stored ≡ m.stored
  stored_none of [] m = refl
  stored_none of (f ∷ effects) m = stored_none of effects (with_effect None of f m)

  still_one : (f : Effect) (m : Moment K V) → is_still f ≡ true → AreSame m (with_effect None None f m)
  still_one (Asked growth) m e = record { place = refl; born = refl; maps = refl; tables = refl; stored = refl }
  still_one PairMade m e = record { place = refl; born = refl; maps = refl; tables = refl; stored = refl }
  still_one PairGivenUp m e = record { place = refl; born = refl; maps = refl; tables = refl; stored = refl }
  still_one (TableMade t) m e = record { place = refl; born = refl; maps = refl; tables = refl; stored = refl }
  still_one (TableGivenUp t) m e = record { place = refl; born = refl; maps = refl; tables = refl; stored = refl }
  still_one (Copied n s) m e = record { place = refl; born = refl; maps = refl; tables = refl; stored = refl }
  still_one (Counted s) m e = record { place = refl; born = refl; maps = refl; tables = refl; stored = refl }
  still_one _ m e = absurd (cc e)

  still_on_none : (effects : List Effect) (m : Moment K V) → AllStill effects → AreSame m (with_effects None None effects m)
  still_on_none [] m all = record { place = refl; born = refl; maps = refl; tables = refl; stored = refl }
  still_on_none (f ∷ effects) m all =
      let first = still_one f m all.0 in let rest = still_on_none effects (with_effect None None f m) all.1 in
      record { place = rest.place ∙ first.place; born = rest.born ∙ first.born; maps = rest.maps ∙ first.maps; tables = rest.tables ∙ first.tables; stored = rest.stored ∙ first.stored }

  -- such effects, on whichever map, if on any
  pub all_quiet : (of : Option ℕ) (effects : List Effect) (m : Moment K V) → AllStill effects → AreSame m (with_effects None of effects m)
  all_quiet None effects m all = still_on_none effects m all
  all_quiet (Some map) effects m all = still_all None map effects m all

  -- calls are shown where they are those that they were
  pub calls_shown : (same : K → K → Bool) (name : ℕ → List ℕ) (m v : Moment K V) (calls : ℕ → ℕ → Option (UnderWay K V K)) → v.calls ≡ m.calls → RefinesCalls same name m calls → RefinesCalls same name v calls
  calls_shown same name m v calls e shown map i u is =
      let there = shown map i u is in
      (there.0, ap (λ (cs : List (CallThere K V)). find (λ c. is_same c.caller (name i)) cs) e ∙ there.1, there.2, there.3)
