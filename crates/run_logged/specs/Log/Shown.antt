-- That a moment of a run shows an executor, with what is noted of its memory, and with all that every step keeps.
use Rattle.std.specs.Prelude.{ℕ, Bool, List, length}
use Rattle.run_schedules.specs.Schedules.Moment.{Moment}
use Rattle.run_effects.specs.Effects.Known.{known}
use Rattle.run_executor.specs.Given.MomentsWhole.{RefinesWhole}
use Rattle.run_kept.specs.Kept.Kept.{RefinesKept}
use Rattle.run_kept.specs.Given.RemainsNumbered.{NumbersUpTo}
use Rattle.run_kept.specs.Given.RemainsRemains.{RefinesRemains}
use Rattle.run_kept.specs.Given.RemainsSlots.{SlotsNoted}
use Rattle.run_logged.specs.declared.logged.Logged.{Logged}
use Rattle.run_executor.specs.Executing.IsThere.{IsThere}
use Rattle.run_shows.specs.Scenes.Scene.{Scene}

-- Numbers of maps are below the next one that the executor gives, and slots are noted where there are some;
pub record AreNumbered {K V S : Type 0} (m : Moment K V) (l : Logged K V S) : Type 0 where
  pub numbers : NumbersUpTo (length l.executor.maps.items) m
  pub slots : SlotsNoted (known l.notes) l.executor.memory.memory

-- and what ended maps have left over is behind the roots that the moment tells.
pub record IsCounted {K V S : Type 0} (m : Moment K V) (l : Logged K V S) (s : Scene K V) : Type 0 where
  pub numbered : AreNumbered m l
  pub remains : RefinesRemains l.executor.roots m (known l.notes) s

-- The executor is there, in this scene, which the moment shows with the notes, and of which all is so that every step keeps; and its numbers and roots are so. Callers have these names.
pub record IsShown {K V S : Type 0} (same : K → K → Bool) (hash : K → ℕ) (name : ℕ → List ℕ) (m : Moment K V) (l : Logged K V S) (s : Scene K V) : Type 0 where
  pub is_at : IsThere same hash l.executor s
  pub shows : RefinesWhole same name m (known l.notes) s
  pub kept : RefinesKept name m (known l.notes) s
  pub counted : IsCounted m l s
