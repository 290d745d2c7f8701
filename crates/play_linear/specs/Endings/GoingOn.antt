-- Each map of which an end is under way goes on to end, and no two ends have one map.
use Rattle.std.specs.Prelude.{◌≡◌, ◌≢◌, ℕ, Some}
use Rattle.play_lists.specs.Given.FinishesEndings.{Finishing}
use Rattle.play_lists.specs.Given.ScenesScene.{Scene}
use Rattle.run_schedules.specs.Deeds.Deeds.{moment}
use Rattle.play_lists.specs.Played.Play.{Ending, State}
use Rattle.play_lists.specs.MapsEnd.Going.{ContinuesToEnd}

pub record EndsContinue {K V S : Type 0} (x : State K V S) (s : Scene K V) : Type 0 where
  pub each : (j : ℕ) (e : Ending) → x.now.enders j ≡ Some e → (f : Finishing K V) → s.enders j ≡ Some f → ContinuesToEnd e.map f x.known (moment x.history)
  pub apart : (i j : ℕ) (e g : Ending) → i ≢ j → x.now.enders i ≡ Some e → x.now.enders j ≡ Some g → e.map ≢ g.map
