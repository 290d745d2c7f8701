-- What a step of a call that a caller has under way leads to.
use Rattle.std.specs.Prelude.{◌≡◌, ℕ, Bool, true, false, Option, Some, None, if◌then◌else◌}
use Rattle.run_effects.specs.Given.TablesDeclared.node.Node.{Node}
use Rattle.run_effects.specs.Given.RawMachine.{machine_plan}
use Rattle.run_effects.specs.Given.RawDeclared.machines.machine.Machine.{Machine}
use Rattle.run_effects.specs.Given.RawDeclared.machines.progress.Progress.{Progress}
use Rattle.run_effects.specs.Given.RawDeclared.machines.progress.Progress.TheVariants as progress
use Rattle.run_effects.specs.ReportingMemory.Tells.{StepsObserved}
use Rattle.run_effects.specs.declared.changed.Changed.TheVariants.{Nothing}
use Rattle.many_maps.specs.Given.CallersTogether.{UnderWay}
use Rattle.many_maps.specs.Machines.{machine_of, MachineStepsWithEndings}
use Rattle.many_maps.specs.Maps.{Standing, with_call}
use Rattle.run_shows.specs.Scenes.Held.{Held, IsAt}
use Rattle.run_shows.specs.Scenes.Scene.{Scene, slot_of}

-- a call has ended
abbrev pub has_ended : {T : Type 0} → Progress T → Bool
has_ended (progress.Done answer) = true
has_ended (progress.Refused fault) = true
has_ended _ = false

-- it goes on, unless it has ended
abbrev pub going_on : {K V : Type 0} → Machine K V K → Progress (Node K V) → Option (Machine K V K)
going_on machine told = if has_ended told then None else Some machine

module _ {K V : Type 0} (same : K → K → Bool) where
  -- it was a step of this machine, on a map with this hash, and what its one operation has changed is told
  abbrev pub StepsFrom : (K → ℕ) → Machine K V K → Held K V → Held K V → Machine K V K → Progress (Node K V) → Type 0
  StepsFrom hash before old new machine told =
      StepsObserved K V (Machine K V K × Progress (Node K V)) old.memory Nothing (machine_plan same same hash before) new.memory new.changed (machine, told)

  -- where the scene has come by a step of a caller's call on a map
  abbrev pub scene_after : (s : Scene K V) (old new : Held K V) (m i : ℕ) (standing : Standing K) (u : UnderWay K V K) (machine : Machine K V K) (told : Progress (Node K V))
      → MachineStepsWithEndings V same same old.batch_size old.roots slot_of s.world s.maps s.calls s.makers s.enders m standing i new.memory u machine told → Scene K V
  scene_after s old new m i standing u machine told did =
      record { world = did.w2; maps = did.maps2; calls = with_call s.calls m i did.next; makers = s.makers; enders = s.enders }

  -- The step of a caller's call, on whichever map it is: it was one of its machine, and told what its one operation has changed; it has led as such a step does
  -- where many callers have calls under way, to a scene of this kind.
  abbrev pub StepLeadsTo : (Scene K V → Type 0) → ℕ → Progress (Node K V) → Scene K V → Held K V → Held K V → Type 0
  StepLeadsTo IsThere i told s old new =
      (m : ℕ) (u : UnderWay K V K) → s.calls m i ≡ Some u
      → (standing : Standing K) × (machine : Machine K V K) × (s.maps m ≡ Some standing)
      × StepsFrom standing.hash (machine_of u) old new machine told
      × (did : MachineStepsWithEndings V same same old.batch_size old.roots slot_of s.world s.maps s.calls s.makers s.enders m standing i new.memory u machine told)
      × IsThere (scene_after s old new m i standing u machine told did)

  -- and that is the scene of what is held then
  abbrev pub StepLeads : (ℕ → K → ℕ) → ℕ → Progress (Node K V) → Scene K V → Held K V → Held K V → Type 0
  StepLeads hash i told s old new = StepLeadsTo (IsAt same hash new) i told s old new
