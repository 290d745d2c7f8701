-- A step of a call that a caller has under way: it may be taken, and the executor is there again.
use Rattle.std.specs.Prelude.{◌≡◌, ◌≢◌, ◌⊎◌, ℕ, Bool, Option, Some, None, slice_set}
use Rattle.std.proofs.Common.{sym, subst, inl, inr}
use Rattle.std.proofs.lemmas.Bool.{cases_eq}
use Rattle.seize_words.specs.OneMemory.Mem.{Mem, Can, Took, value_at}
use Rattle.seize_words.specs.OneMemory.Plan.{May, Steps}
use Rattle.papaya_raw.specs.Given.TablesDeclared.node.Node.{Node}
use Rattle.papaya_raw.specs.Machine.{machine_plan}
use Rattle.papaya_raw.specs.declared.machines.machine.Machine.{Machine}
use Rattle.papaya_raw.specs.declared.machines.progress.Progress.{Progress}
use Rattle.run_places.specs.Given.TellerTells.{StepsObserved}
use Rattle.run_places.specs.Given.EffectsDeclared.changed.Changed.TheVariants.{Nothing}
use Rattle.run_places.specs.Given.CallersTogether.{UnderWay}
use Rattle.run_places.specs.Given.FinishesMachines.{machine_of, MachineStepsWithEndings}
use Rattle.run_places.specs.Given.FinishesMaps.{Standing}
use Rattle.run_places.proofs.Given.FinishesAmong.Machines.{machines_stand_among}
use Rattle.run_executor.specs.declared.executor.Executor.{Executor}
use Rattle.run_executor.proofs.Executing.Changed.{is_at_on, worker_is}
use Rattle.run_executor.proofs.Executing.Taken.{through}
use Rattle.run_executor.specs.Executing.IsThere.{ChangesAt, IsThere, place_of, worker_with, held_by}
use Rattle.run_executor.specs.Executing.Stepping.{SteppedAs}
use Rattle.run_places.proofs.Given.ScenesTold.{as_step}
use Rattle.run_places.specs.Given.ScenesScene.{Scene, slot_of}
use Rattle.run_places.specs.Given.ScenesStepping.{StepsFrom, going_on, scene_after}
use Rattle.run_places.proofs.Given.ScenesMay.{standing_is}
use Rattle.run_places.proofs.Given.ScenesGoes.{Keeps, goes_as, moved_map_keeps, same_map_keeps}

module _ {K V S : Type 0} (same : K → K → Bool) (hash : K → ℕ) (e : Executor K V S) (s : Scene K V) (at : IsThere same hash e s) (m i : ℕ) (u : UnderWay K V K) (here : s.calls m i ≡ Some u) where
  abbrev standing : Standing K
  standing = (standing_is same (λ m. hash) (held_by e) s at.held m i u here).0

  stands : s.maps m ≡ Some standing
  stands = (standing_is same (λ m. hash) (held_by e) s at.held m i u here).1

  hashed : standing.hash ≡ hash
  hashed = at.held.hashes m standing stands

  -- the step may be taken
  pub may_step : May Can Took value_at e.memory.memory (machine_plan same same hash (machine_of u))
  may_step =
      subst (λ (x : Mem (Node K V)). May Can Took value_at x (machine_plan same same hash (machine_of u))) at.held.memory
      (subst (λ (x : K → ℕ). May Can Took value_at s.world.memory (machine_plan same same x (machine_of u))) hashed
      (machines_stand_among V same same e.batch_size e.roots slot_of s.world s.maps s.calls s.makers s.enders at.held.together m standing stands i u here).0)

  module _ (e2 : Executor K V S) (machine : Machine K V K) (told : Progress (Node K V)) (steps : StepsFrom same hash (machine_of u) (held_by e) (held_by e2) machine told)
      (changes : ChangesAt (place_of i) (worker_with (slot_of i) m (going_on machine told)) e e2) where
    its_step : Steps Took value_at s.world.memory (machine_plan same same standing.hash (machine_of u)) e2.memory.memory (machine, told)
    its_step =
        subst (λ (x : K → ℕ). Steps Took value_at s.world.memory (machine_plan same same x (machine_of u)) e2.memory.memory (machine, told)) (sym hashed)
        (subst (λ (x : Mem (Node K V)). Steps Took value_at x (machine_plan same same hash (machine_of u)) e2.memory.memory (machine, told)) (sym at.held.memory)
        (as_step e.memory.memory Nothing (machine_plan same same hash (machine_of u)) e2.memory.memory e2.memory.changed (machine, told) steps))

    did : MachineStepsWithEndings V same same e.batch_size e.roots slot_of s.world s.maps s.calls s.makers s.enders m standing i e2.memory.memory u machine told
    did = (machines_stand_among V same same e.batch_size e.roots slot_of s.world s.maps s.calls s.makers s.enders at.held.together m standing stands i u here).1
        e2.memory.memory machine told its_step

    keeps : (n : ℕ) → Keeps hash (s.maps n) (did.maps2 n)
    keeps n = by (cases_eq n m)
      where
        by : (n ≡ m) ⊎ (n ≢ m) → Keeps hash (s.maps n) (did.maps2 n)
        by (inl e) = subst (λ (x : ℕ). Keeps hash (s.maps x) (did.maps2 x)) (sym e) (moved_map_keeps hash standing (s.maps m) (did.maps2 m) stands hashed did.its_map)
        by (inr ne) = same_map_keeps hash (s.maps n) (did.maps2 n) (at.held.hashes n) (did.others n ne)

    -- and the executor is there again
    pub stepped : (standing : Standing K) × (machine : Machine K V K) × (s.maps m ≡ Some standing) × StepsFrom same standing.hash (machine_of u) (held_by e) (held_by e2) machine told
        × (did : MachineStepsWithEndings V same same e.batch_size e.roots slot_of s.world s.maps s.calls s.makers s.enders m standing i e2.memory.memory u machine told)
        × IsThere same hash e2 (scene_after same s (held_by e) (held_by e2) m i standing u machine told did)
    stepped = (
      standing,
      machine,
      stands,
      subst (λ (x : K → ℕ). StepsFrom same x (machine_of u) (held_by e) (held_by e2) machine told) (sym hashed) steps,
      did,
      is_at_on same hash e s at m i (Some (machine_of u)) (worker_is same hash e s at m i u here) e2 did.next
          (subst (λ (x : Option (Machine K V K)). ChangesAt (place_of i) (worker_with (slot_of i) m x) e e2) (sym (goes_as machine told did.next did.goes_on)) changes)
          did.w2 did.maps2 did.memory did.rows did.slots did.rests (λ n. (keeps n).setting) (λ n. (keeps n).hashes) did.together,
    )

  -- so the step of a call that was taken out of its place leads where one of the caller's does
  module _ (e1 e2 : Executor K V S) (memory : e1.memory.memory ≡ e.memory.memory) (items : e1.workers.items ≡ slice_set e.workers.items (place_of i) None) (hasher : e1.hasher ≡ e.hasher)
      (batch_size : e1.batch_size ≡ e.batch_size) (roots : e1.roots ≡ e.roots) (maps : e1.maps.items ≡ e.maps.items) (slots : e1.slots.items ≡ e.slots.items) (told : Progress (Node K V)) where
    pub leads_on : (slot map : ℕ) (before : Machine K V K) → (slot ≡ slot_of i) × (map ≡ m) × (before ≡ machine_of u) → SteppedAs same hash (place_of i) slot map before told e1 e2
        → (standing : Standing K) × (machine : Machine K V K) × (s.maps m ≡ Some standing) × StepsFrom same standing.hash (machine_of u) (held_by e) (held_by e2) machine told
        × (did : MachineStepsWithEndings V same same e.batch_size e.roots slot_of s.world s.maps s.calls s.makers s.enders m standing i e2.memory.memory u machine told)
        × IsThere same hash e2 (scene_after same s (held_by e) (held_by e2) m i standing u machine told did)
    leads_on slot map before (slot_is, map_is, before_is) (machine, steps, changes) =
        stepped e2 machine told
        (subst (λ (x : Mem (Node K V)). StepsObserved K V (Machine K V K × Progress (Node K V)) x Nothing (machine_plan same same hash (machine_of u)) e2.memory.memory e2.memory.changed (machine, told))
        memory (subst (λ (x : Machine K V K). StepsFrom same hash x (held_by e1) (held_by e2) machine told) before_is steps))
        (through e e1 e2 (place_of i) _ items hasher batch_size roots maps slots
        (subst (λ (x : ℕ). ChangesAt (place_of i) (worker_with x m (going_on machine told)) e1 e2) slot_is
        (subst (λ (x : ℕ). ChangesAt (place_of i) (worker_with slot x (going_on machine told)) e1 e2) map_is changes)))
