-- What a call is told, and what it is asked for: the executor is there again.
use Rattle.std.specs.Prelude.{◌≡◌, ℕ, Bool, Some, None, Result, slice_set}
use Rattle.std.proofs.Common.{refl, sym, ap, subst, ◌∙◌}
use Rattle.papaya_raw.specs.Machine.{machine_replied, machine_asked}
use Rattle.papaya_raw.specs.declared.machines.asking.MachineReply.{MachineReply}
use Rattle.papaya_raw.specs.declared.machines.machine.Machine.{Machine}
use Rattle.run_places.proofs.Given.CallersTogether.Slots.{alike_same}
use Rattle.run_places.specs.Given.CallersTogether.{UnderWay}
use Rattle.run_places.specs.Given.FinishesEndings.{EndingsTogether}
use Rattle.run_places.specs.Given.FinishesMachines.{machine_of}
use Rattle.run_places.specs.Given.FinishesMaps.{with_call}
use Rattle.run_places.proofs.Given.FinishesAmong.MachinesTold.{machines_told_among}
use Rattle.run_executor.specs.declared.executor.Executor.{Executor}
use Rattle.run_executor.proofs.Executing.Changed.{is_at_on, worker_is}
use Rattle.run_executor.proofs.Executing.Taken.{taken_call, through}
use Rattle.run_executor.specs.Executing.IsThere.{ChangesAt, IsThere, place_of, worker_at, worker_with, held_by}
use Rattle.run_executor.specs.Executing.Replying.{AsksThere, PutBack, RepliesThere}
use Rattle.run_places.specs.Given.ScenesReplying.{scene_with}
use Rattle.run_places.specs.Given.ScenesScene.{Scene, slot_of}
use Rattle.run_places.proofs.Given.ScenesMay.{standing_is}

module _ {K V S : Type 0} (same : K → K → Bool) (hash : K → ℕ) (e : Executor K V S) (s : Scene K V) (at : IsThere same hash e s) (i : ℕ)
    (e1 e2 : Executor K V S) (memory1 : e1.memory ≡ e.memory) (items : e1.workers.items ≡ slice_set e.workers.items (place_of i) None) (hasher : e1.hasher ≡ e.hasher)
    (batch_size : e1.batch_size ≡ e.batch_size) (roots : e1.roots ≡ e.roots) (maps : e1.maps.items ≡ e.maps.items) (slots : e1.slots.items ≡ e.slots.items)
    (slot map : ℕ) (before : Machine K V K) (there : worker_at e (place_of i) ≡ worker_with slot map (Some before)) (after : Machine K V K)
    (put : PutBack (place_of i) (worker_with slot map (Some after)) e1 e2) where
  memory : e2.memory ≡ e.memory
  memory = put.0 ∙ memory1

  module _ (m : ℕ) (u : UnderWay K V K) (here : s.calls m i ≡ Some u) where
    is : (slot ≡ slot_of i) × (map ≡ m) × (before ≡ machine_of u)
    is = taken_call same hash e s at i m u here slot map before there

    changes : ChangesAt (place_of i) (worker_with (slot_of i) m (Some after)) e e2
    changes = through e e1 e2 (place_of i) (worker_with (slot_of i) m (Some after)) items hasher batch_size roots maps slots
        (subst (λ (x : ℕ). ChangesAt (place_of i) (worker_with x m (Some after)) e1 e2) is.0
        (subst (λ (x : ℕ). ChangesAt (place_of i) (worker_with slot x (Some after)) e1 e2) is.1 put.1))

    -- the call goes on as another machine, and nothing else has changed
    goes_on : (next : UnderWay K V K) → machine_of next ≡ after
        → EndingsTogether V same same e.batch_size e.roots slot_of s.world s.maps (with_call s.calls m i (Some next)) s.makers s.enders → IsThere same hash e2 (scene_with m i next s)
    goes_on next as_after together =
        is_at_on same hash e s at m i (Some (machine_of u)) (worker_is same hash e s at m i u here) e2 (Some next)
        (subst (λ (x : Machine K V K). ChangesAt (place_of i) (worker_with (slot_of i) m (Some x)) e e2) (sym as_after) changes)
        s.world s.maps (at.held.memory ∙ ap (λ t. t.memory) (sym memory)) (λ j ne. refl) (record { uses = λ t. alike_same (s.world.uses t); on_slot = λ on. on }) (λ none. absurd (cc none)) (λ n. refl) at.held.hashes together

  pub reply_leads : (told : MachineReply V) (result : Result Unit (MachineReply V)) → (after, result) ≡ machine_replied before told → RepliesThere same hash i told result s e e2
  reply_leads told result replied = (
    λ has. memory,
    λ m u here. (
        let standing = standing_is same (λ m. hash) (held_by e) s at.held m i u here in
        let leads = (machines_told_among V same same e.batch_size e.roots slot_of s.world s.maps s.calls s.makers s.enders at.held.together m standing.0 standing.1 i u here).0 told in
        let by_it : (after, result) ≡ machine_replied (machine_of u) told = replied ∙ ap (λ (x : Machine K V K). machine_replied x told) (is m u here).2 in
        (standing.0, leads.0, standing.1, leads.1, ap (λ x. x.1) by_it, leads.2, ap (λ t. t.memory) memory, goes_on m u here leads.0 (leads.1 ∙ sym (ap (λ x. x.0) by_it)) leads.3)),
  )

  pub ask_leads : (ready : Bool) → (after, ready) ≡ machine_asked before → AsksThere same hash i ready s e e2
  ask_leads ready asked = (
    λ has. memory,
    λ m u here. (
        let standing = standing_is same (λ m. hash) (held_by e) s at.held m i u here in
        let leads = (machines_told_among V same same e.batch_size e.roots slot_of s.world s.maps s.calls s.makers s.enders at.held.together m standing.0 standing.1 i u here).1 in
        let by_it : (after, ready) ≡ machine_asked (machine_of u) = asked ∙ ap machine_asked (is m u here).2 in
        (leads.0, leads.1, ap (λ x. x.1) by_it, ap (λ t. t.memory) memory, goes_on m u here leads.0 (leads.1 ∙ sym (ap (λ x. x.0) by_it)) leads.2)),
  )
