-- How a scheduler begins.
use Rattle.std.specs.Prelude.{◌≡◌, [], replicate}
use Rattle.run_logged.specs.Given.EffectsKnown.{known, nothing_known}
use Rattle.run_schedules.specs.declared.setup.Setup.{Setup}
use Rattle.play_scheduler.specs.declared.scheduler.Scheduler.{Scheduler}

-- No map was made. Of the memory nothing is known, and there is no slot; the roots are as many as given, are free, and lead nowhere; batches have the size that was given. Which numbers blocks get is open.
pub record HasJustBegun {K V S : Type 0} (setup : Setup) (p : Scheduler K V S) : Type 0 where
  pub maps : p.logged.executor.maps.items ≡ []
  pub known_is : known p.logged.notes ≡ nothing_known
  pub many : p.logged.executor.roots ≡ setup.roots
  pub batches : p.logged.executor.batch_size ≡ setup.batch_size
  pub free : p.logged.executor.memory.memory.used ≡ replicate setup.roots 0
  pub nowhere : p.logged.executor.memory.memory.roots ≡ replicate setup.roots 0
  pub slots : p.logged.executor.memory.memory.slots ≡ []
