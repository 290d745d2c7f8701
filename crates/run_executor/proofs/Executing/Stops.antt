-- A walk is given up, if it is ready: the executor is there again.
use Rattle.std.specs.Prelude.{◌≡◌, ℕ, Bool, true, false, Option, Some, None, option_map}
use Rattle.std.proofs.Common.{refl, sym, ap, subst, ◌∙◌}
use Rattle.seize.specs.World.{Rests, with_at}
use Rattle.run_places.proofs.Given.SeizeRuleRows.Leaving.{with_same}
use Rattle.papaya_raw.specs.Given.ReservesDeclared.sweep.Sweeping.{Sweeping}
use Rattle.papaya_raw.specs.Given.ReservesDeclared.sweep.Sweeping.TheVariants as sweeping
use Rattle.papaya_raw.specs.Machine.{machine_asked, is_ready}
use Rattle.papaya_raw.specs.declared.machines.machine.Machine.{Machine}
use Rattle.run_places.proofs.Given.CallersTogether.Slots.{alike_same}
use Rattle.run_places.specs.Given.CallersTogether.{UnderWay, OnKey, ForRoom, Counting, OverAll}
use Rattle.run_places.specs.Given.FinishesEndings.{EndingsTogether}
use Rattle.run_places.specs.Given.FinishesMachines.{machine_of}
use Rattle.run_places.specs.Given.FinishesMaps.{Standing, with_call}
use Rattle.run_places.proofs.Given.FinishesAmong.Sweeps.{walks_stop_among}
use Rattle.run_executor.specs.declared.executor.Executor.{Executor}
use Rattle.run_executor.proofs.Executing.Changed.{is_at_on, worker_is}
use Rattle.run_executor.specs.Executing.IsThere.{ChangesAt, IsThere, place_of, worker_with, held_by}
use Rattle.run_places.specs.Given.ScenesReplying.{unless_stopped}
use Rattle.run_places.specs.Given.ScenesScene.{Scene, slot_of}
use Rattle.run_places.proofs.Given.ScenesMay.{standing_is}

-- a stage that is ready is that one
ready_is : (stage : Sweeping) → is_ready stage ≡ true → stage ≡ sweeping.Ready
ready_is sweeping.Ready is = refl
ready_is _ is = absurd (cc is)

module _ {K V S : Type 0} (same : K → K → Bool) (hash : K → ℕ) (e : Executor K V S) (s : Scene K V) (at : IsThere same hash e s) (m i : ℕ) (u : UnderWay K V K) (here : s.calls m i ≡ Some u) where
  abbrev After : Option (UnderWay K V K) → Type 0
  After next = EndingsTogether V same same e.batch_size e.roots slot_of s.world s.maps (with_call s.calls m i next) s.makers s.enders × (next ≡ None → s.world.row i ≡ Rests)

  standing : (standing : Standing K) × (s.maps m ≡ Some standing)
  standing = standing_is same (λ m. hash) (held_by e) s at.held m i u here

  -- as it was
  unchanged : with_call s.calls m i (Some u) ≡ s.calls
  unchanged = ap (λ x. with_call s.calls m i x) (sym here) ∙ (ap (λ x. with_at s.calls m x) (with_same (s.calls m) i) ∙ with_same s.calls m)

  goes : After (Some u)
  goes = (subst (λ x. EndingsTogether V same same e.batch_size e.roots slot_of s.world s.maps x s.makers s.enders) (sym unchanged) at.held.together, λ none. absurd (cc none))

  stops : (v : UnderWay K V K) → u ≡ v → (stopped : Bool) → stopped ≡ (machine_asked (machine_of v)).1 → After (unless_stopped stopped u)
  stops v is false asked = goes
  stops (OnKey k) is true asked = absurd (cc asked)
  stops (ForRoom r) is true asked = absurd (cc asked)
  stops (Counting sum) is true asked = absurd (cc asked)
  stops (OverAll o) is true asked =
      let over = walks_stop_among V same same e.batch_size e.roots slot_of s.world s.maps s.calls s.makers s.enders at.held.together m standing.0 standing.1 i o (here ∙ ap Some is) (ready_is o.sweep.stands (sym asked)) in
      (over.0, λ none. over.1)

  same_machine : (stopped : Bool) → option_map machine_of (unless_stopped stopped u) ≡ unless_stopped stopped (machine_of u)
  same_machine true = refl
  same_machine false = refl

  module _ (e2 : Executor K V S) (memory : e2.memory ≡ e.memory) (slot map : ℕ) (before : Machine K V K) (is : (slot ≡ slot_of i) × (map ≡ m) × (before ≡ machine_of u))
      (stopped : Bool) (asked : stopped ≡ (machine_asked before).1) (changes : ChangesAt (place_of i) (worker_with slot map (unless_stopped stopped before)) e e2) where
    so : stopped ≡ (machine_asked (machine_of u)).1
    so = asked ∙ ap (λ (x : Machine K V K). (machine_asked x).1) is.2

    its : ChangesAt (place_of i) (worker_with (slot_of i) m (option_map machine_of (unless_stopped stopped u))) e e2
    its =
        subst (λ (x : Option (Machine K V K)). ChangesAt (place_of i) (worker_with (slot_of i) m x) e e2) (sym (same_machine stopped))
        (subst (λ (x : ℕ). ChangesAt (place_of i) (worker_with x m (unless_stopped stopped (machine_of u))) e e2) is.0
        (subst (λ (x : ℕ). ChangesAt (place_of i) (worker_with slot x (unless_stopped stopped (machine_of u))) e e2) is.1
        (subst (λ (x : Machine K V K). ChangesAt (place_of i) (worker_with slot map (unless_stopped stopped x)) e e2) is.2 changes)))

    pub stop_leads : (stopped ≡ (machine_asked (machine_of u)).1) × (e2.memory.memory ≡ e.memory.memory) × IsThere same hash e2 (record s { calls = with_call s.calls m i (unless_stopped stopped u) })
    stop_leads =
        let after = stops u refl stopped so in (
          so,
          ap (λ t. t.memory) memory,
          is_at_on same hash e s at m i (Some (machine_of u)) (worker_is same hash e s at m i u here) e2 (unless_stopped stopped u) its
              s.world s.maps (at.held.memory ∙ ap (λ t. t.memory) (sym memory)) (λ j ne. refl) (record { uses = λ t. alike_same (s.world.uses t); on_slot = λ on. on }) after.1 (λ n. refl) at.held.hashes after.0,
        )
