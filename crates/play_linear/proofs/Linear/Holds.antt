-- What is so of a state that is played, and of the scene to which its acts have led.
use Rattle.std.specs.Prelude.{◌≡◌, Bool}
use Rattle.std.proofs.Common.{sym, subst}
use Rattle.run_schedules.specs.Schedules.After.{AtEachEvent}
use Rattle.play_lists.specs.Given.ScenesScene.{Scene}
use Rattle.run_schedules.specs.Deeds.Deeds.{moment}
use Rattle.run_schedules.specs.Deeds.History.{IsLinearizable, past}
use Rattle.play_lists.specs.Played.Play.{State}
use Rattle.play_lists.proofs.Played.Noted.{CallsAreNoted}
use Rattle.play_linear.specs.Linear.Shown.{RefinesAnswers}
use Rattle.play_linear.proofs.Linear.HeardAll.{AreHeard}

-- Each entry so far is linearizable; and the moment shows the scene, and what calls are, and what they were told.
pub record Holds {K V S : Type 0} (same : K → K → Bool) (x : State K V S) (s : Scene K V) : Type 0 where
  pub shows : RefinesAnswers same (past x.history) (moment x.history) x.known s
  pub noted : CallsAreNoted x
  pub heard : AreHeard x
  pub each : AtEachEvent (IsLinearizable same) x.history

-- so it is of what this comes to
pub onto : {K V S : Type 0} (same : K → K → Bool) (x : State K V S) (s : Scene K V) (y : State K V S) (n : Scene K V) → y ≡ x → n ≡ s → Holds same x s → Holds same y n
onto {K} {V} {S} same x s y n y_is n_is so = subst (λ (q : State K V S). Holds same q n) (sym y_is) (subst (Holds same x) (sym n_is) so)
