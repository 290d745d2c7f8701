-- Each map that is there has its number as its name: so no map that stands has the name of one that does not.
use Rattle.std.specs.Prelude.{◌≡◌, ◌==◌, ℕ, false, List, Some, None}
use Rattle.std.proofs.Common.{ap, sym, subst, ◌∙◌, arith}
use Rattle.run_schedules.specs.Runs.Same.{is_same}
use Rattle.run_schedules.specs.Schedules.Moment.{Moment}
use Rattle.play_lists.specs.Given.ScenesScene.{Scene}
use Rattle.run_logged.proofs.Given.MomentsNumbers.{found_of}
use Rattle.run_schedules.specs.Deeds.Deeds.{named}
use Rattle.play_lists.specs.Agrees.Fresh.{AreNamed, IsNamed}
use Rattle.play_lists.proofs.Played.Noted.{apart}
use Rattle.play_linear.proofs.Linear.MapsPlayed.{IsApart}

module _ {K V : Type 0} where
  -- one that stands has another name than one that does not
  pub apart_so : (own : ℕ) (v : Moment K V) (t : Scene K V) → AreNamed v → t.maps own ≡ None → IsApart own v t
  apart_so own v t all none n standing there stands is =
      let found = found_of IsNamed (λ f. f.number == n) v.maps there all is in
      let number : there.number ≡ n = grind (arith, found.0) in
      subst (λ (name : List ℕ). is_same name (named own) ≡ false) (sym (found.1 ∙ ap named number)) (apart n own (λ same. let both : None ≡ Some standing = sym none ∙ (ap t.maps same ∙ stands) in cc both))
