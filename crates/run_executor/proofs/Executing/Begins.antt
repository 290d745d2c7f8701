-- The beginning of a call: the executor is there again.
use Rattle.std.specs.Prelude.{◌≡◌, ◌<◌, ◌^◌, ℕ, Bool, [], ◌∷◌, ◌++◌, length, Some, None}
use Rattle.std.proofs.Common.{refl, sym, ap, subst, ◌∙◌}
use Rattle.seize.specs.World.{IsInside}
use Rattle.papaya_raw.specs.declared.machines.machine.Machine.{Machine}
use Rattle.run_places.proofs.Given.CallersTogether.Slots.{alike_same}
use Rattle.run_places.specs.Given.CallersTogether.{UnderWay, OnKey, ForRoom, Counting, OverAll}
use Rattle.run_places.specs.Given.FinishesEndings.{EndingsTogether}
use Rattle.run_places.specs.Given.FinishesMaps.{Standing, with_call}
use Rattle.run_places.proofs.Given.FinishesAmong.Calls.{calls_begin_among}
use Rattle.run_places.proofs.Given.FinishesAmong.Countings.{countings_begin_among}
use Rattle.run_places.proofs.Given.FinishesAmong.Rooms.{rooms_begin_among}
use Rattle.run_places.proofs.Given.FinishesAmong.Sweeps.{sweeps_begin_among}
use Rattle.run_executor.specs.declared.executor.Executor.{Executor}
use Rattle.run_places.specs.Given.ScenesDeclared.callers.TheConstants.{SLOTS}
use Rattle.run_executor.specs.declared.worker.Work.TheVariants as work
use Rattle.run_places.specs.Given.ScenesDeclared.row.SlotUse.TheVariants as used
use Rattle.run_executor.proofs.Executing.Changed.{is_at_on}
use Rattle.run_executor.proofs.Executing.Few.{are_few}
use Rattle.run_places.proofs.Given.CallersTogether.Few.{few_with_any}
use Rattle.run_executor.proofs.Executing.Fresh.{caller_in, fresh_before, fresh_changes, fresh_place, no_calls_yet, no_ending_yet, no_making_yet, resting}
use Rattle.run_executor.specs.Executing.Beginning.{BeginsThere}
use Rattle.run_executor.specs.Executing.IsThere.{ChangesAt, IsThere, place_of, use_at, worker_with}
use Rattle.run_places.specs.Given.ScenesBeginning.{Begins}
use Rattle.run_places.specs.Given.ScenesScene.{Scene, slot_of}
use Rattle.run_executor.proofs.Executing.Used.{used_slots_are_inside}

module _ {K V S : Type 0} (same : K → K → Bool) (hash : K → ℕ) (e : Executor K V S) (s : Scene K V) (at : IsThere same hash e s) (slot m : ℕ) (machine : Machine K V K)
    (fits : slot < SLOTS) (few : length e.workers.items < 2 ^ 32) (e2 : Executor K V S) (memory : e2.memory ≡ e.memory)
    (items : e2.workers.items ≡ e.workers.items ++ Some (record { slot = slot; work = work.Call m machine }) ∷ []) (hasher : e2.hasher ≡ e.hasher)
    (batch_size : e2.batch_size ≡ e.batch_size) (roots : e2.roots ≡ e.roots) (maps : e2.maps.items ≡ e.maps.items) (slots : e2.slots.items ≡ e.slots.items) where
  abbrev caller : ℕ
  caller = caller_in e slot

  place_is : place_of caller ≡ length e.workers.items
  place_is = fresh_place e slot fits

  module _ (standing : Standing K) (stands : s.maps m ≡ Some standing) (inside : IsInside (s.world.uses (slot_of caller))) where
    no_calls : (n : ℕ) → s.calls n caller ≡ None
    no_calls = no_calls_yet same hash e s at slot fits

    no_maker : s.makers caller ≡ None
    no_maker = no_making_yet same hash e s at slot fits

    no_ender : s.enders caller ≡ None
    no_ender = no_ending_yet same hash e s at slot fits

    together : (u : UnderWay K V K) → Begins same standing caller u
        → EndingsTogether V same same e.batch_size e.roots slot_of s.world s.maps (with_call s.calls m caller (Some u)) s.makers s.enders
    together (OnKey u) (begun, is) =
        subst (λ x. EndingsTogether V same same e.batch_size e.roots slot_of s.world s.maps (with_call s.calls m caller (Some (OnKey x))) s.makers s.enders) (sym is)
        (calls_begin_among V same same e.batch_size e.roots slot_of s.world s.maps s.calls s.makers s.enders at.held.together caller no_maker no_ender no_calls
        (resting same hash e s at slot fits) inside m standing stands u.keys u.pair u.call begun (λ blocking. few_with_any (s.calls m) caller (OnKey u) (are_few same hash e s at m caller place_is few)))
    together (ForRoom r) (additional, is) =
        subst (λ x. EndingsTogether V same same e.batch_size e.roots slot_of s.world s.maps (with_call s.calls m caller (Some (ForRoom x))) s.makers s.enders) (sym is)
        (rooms_begin_among V same same e.batch_size e.roots slot_of s.world s.maps s.calls s.makers s.enders at.held.together caller no_maker no_ender no_calls
        (resting same hash e s at slot fits) inside m standing stands additional (λ blocking. few_with_any (s.calls m) caller (ForRoom r) (are_few same hash e s at m caller place_is few)))
    together (Counting sum) is =
        subst (λ x. EndingsTogether V same same e.batch_size e.roots slot_of s.world s.maps (with_call s.calls m caller (Some (Counting x))) s.makers s.enders) (sym is)
        (countings_begin_among V same same e.batch_size e.roots slot_of s.world s.maps s.calls s.makers s.enders at.held.together caller no_maker no_ender no_calls
        (resting same hash e s at slot fits) m standing stands)
    together (OverAll o) (purpose, is) =
        subst (λ x. EndingsTogether V same same e.batch_size e.roots slot_of s.world s.maps (with_call s.calls m caller (Some (OverAll x))) s.makers s.enders) (sym is)
        (sweeps_begin_among V same same e.batch_size e.roots slot_of s.world s.maps s.calls s.makers s.enders at.held.together caller no_maker no_ender no_calls
        (resting same hash e s at slot fits) inside m standing stands purpose (λ blocking. few_with_any (s.calls m) caller (OverAll o) (are_few same hash e s at m caller place_is few)))

  -- somebody is inside of a slot that is entered
  entered : use_at e (slot_of caller) ≡ used.Inside → IsInside (s.world.uses (slot_of caller))
  entered v = used_slots_are_inside K V S same hash s e at (slot_of caller) v

  pub begin_leads : BeginsThere same hash m machine caller s e e2
  begin_leads inside = (
    memory,
    λ standing stands u as_machine begins. (
      ap (λ t. t.memory) memory,
      is_at_on same hash e s at m caller None (fresh_before e slot fits) e2 (Some u)
          (subst (λ (x : Machine K V K). ChangesAt (place_of caller) (worker_with (slot_of caller) m (Some x)) e e2) (sym as_machine) (fresh_changes e slot fits (work.Call m machine) e2 items hasher batch_size roots maps slots))
          s.world s.maps (at.held.memory ∙ ap (λ t. t.memory) (sym memory)) (λ j ne. refl) (record { uses = λ t. alike_same (s.world.uses t); on_slot = λ on. on }) (λ none. absurd (cc none)) (λ n. refl) at.held.hashes (together standing stands (entered inside) u begins),
    ),
  )
