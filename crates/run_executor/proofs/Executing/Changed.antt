-- An executor whose one place has changed, as the call there has begun, gone on or ended, is there again.
use Rattle.std.specs.Prelude.{◌≡◌, ◌≢◌, ◌<◌, ◌⊎◌, ℕ, Bool, length, Option, Some, None, option_map, slice_index_or}
use Rattle.std.proofs.Common.{refl, sym, ap, subst, ◌∙◌, inl, inr, arith}
use Rattle.std.proofs.lemmas.Bool.{cases_eq}
use Rattle.seize.specs.World.{World, Row, Rests, with_at}
use Rattle.papaya_raw.specs.Given.TablesDeclared.node.Node.{Node}
use Rattle.papaya_raw.specs.declared.machines.machine.Machine.{Machine}
use Rattle.run_places.specs.Given.CallersRows.{LeavesSlots}
use Rattle.run_places.specs.Given.CallersTogether.{UnderWay}
use Rattle.run_places.proofs.Given.CallersTogether.At.{at_other, at_same}
use Rattle.run_places.specs.Given.FinishesEndings.{EndingsTogether}
use Rattle.run_places.specs.Given.FinishesMachines.{machine_of}
use Rattle.run_places.specs.Given.FinishesMaps.{Standing, with_call}
use Rattle.run_executor.specs.declared.executor.Executor.{Executor}
use Rattle.run_executor.specs.declared.worker.Work.{Work}
use Rattle.run_executor.specs.declared.worker.Work.TheVariants as work
use Rattle.run_places.specs.Given.ScenesDeclared.row.SlotUse.TheVariants as slot_use
use Rattle.run_executor.proofs.Executing.Again.{there_again, used_on, work_own}
use Rattle.run_executor.proofs.Executing.Places.{call_found, no_call, own_call, within}
use Rattle.run_executor.specs.Executing.IsThere.{ChangesAt, HasRow, IsThere, IsUsedAs, call_in, ending_in, making_in, place_of, use_at, worker_at, worker_with}
use Rattle.run_places.specs.Given.ScenesScene.{Scene, slot_of}
use Rattle.seize_words.proofs.General.{none_mapped as none_of}

module _ {K V : Type 0} where
  -- a call is no making of a map, and no end of one
  no_making : (m : ℕ) (x : Option (Machine K V K)) → making_in (option_map (λ machine. work.Call m machine) x) ≡ None
  no_making m None = refl
  no_making m (Some machine) = refl

  no_ending : (m : ℕ) (x : Option (Machine K V K)) → ending_in (option_map (λ machine. work.Call m machine) x) ≡ None
  no_ending m None = refl
  no_ending m (Some machine) = refl

module _ {K V S : Type 0} (same : K → K → Bool) (hash : K → ℕ) (e : Executor K V S) (s : Scene K V) (at : IsThere same hash e s) (m i : ℕ) (u : UnderWay K V K) (here : s.calls m i ≡ Some u) where
  -- the caller's call is at its place
  pub worker_is : worker_at e (place_of i) ≡ worker_with (slot_of i) m (Some (machine_of u))
  worker_is = call_found (slot_of i) m (machine_of u) (worker_at e (place_of i)) (sym (at.calls m i) ∙ ap (option_map machine_of) here)

  pub place_there : place_of i < length e.workers.items
  place_there = within e.workers.items (place_of i) (record { slot = slot_of i; work = work.Call m (machine_of u) }) worker_is

module _ {K V S : Type 0} (same : K → K → Bool) (hash : K → ℕ) (e : Executor K V S) (s : Scene K V) (at : IsThere same hash e s) (m i : ℕ)
    (x : Option (Machine K V K)) (before : worker_at e (place_of i) ≡ worker_with (slot_of i) m x) where
  abbrev had : Option (Work K V)
  had = option_map (λ machine. work.Call m machine) x

  module _ (e2 : Executor K V S) (next : Option (UnderWay K V K)) (changes : ChangesAt (place_of i) (worker_with (slot_of i) m (option_map machine_of next)) e e2) where
    abbrev has : Option (Work K V)
    has = option_map (λ machine. work.Call m machine) (option_map machine_of next)

    abbrev calls2 : ℕ → ℕ → Option (UnderWay K V K)
    calls2 = with_call s.calls m i next

    in_map : (n j : ℕ) → n ≡ m → calls2 n j ≡ with_at (s.calls m) i next j
    in_map n j en = ap (λ (f : ℕ → Option (UnderWay K V K)). f j) (at_same s.calls m (with_at (s.calls m) i next) n en)

    elsewhere : (n j : ℕ) → n ≢ m → calls2 n j ≡ s.calls n j
    elsewhere n j nn = ap (λ (f : ℕ → Option (UnderWay K V K)). f j) (at_other s.calls m (with_at (s.calls m) i next) n nn)

    calls_own : (n : ℕ) → (n ≡ m) ⊎ (n ≢ m) → option_map machine_of (calls2 n i) ≡ call_in has n
    calls_own n (inl en) =
        ap (option_map machine_of) (in_map n i en ∙ at_same (s.calls m) i next i refl) ∙ sym (ap (call_in has) en ∙ own_call m (option_map machine_of next))
    calls_own n (inr nn) =
        ap (option_map machine_of) (elsewhere n i nn) ∙ at.calls n i ∙ (ap (λ (x : Option (Work K V)). call_in x n) (work_own e e2 i had has before changes) ∙ no_call m n x nn)
        ∙ sym (no_call m n (option_map machine_of next) nn)

    calls_other : (n j : ℕ) → j ≢ i → (n ≡ m) ⊎ (n ≢ m) → calls2 n j ≡ s.calls n j
    calls_other n j nj (inl en) = in_map n j en ∙ at_other (s.calls m) i next j nj ∙ sym (ap (λ (y : ℕ). s.calls y j) en)
    calls_other n j nj (inr nn) = elsewhere n j nn

    -- there is no row if no call is left
    row_then : (row : Row) (it : Option (UnderWay K V K)) → (it ≡ None → row ≡ Rests) → HasRow (option_map (λ machine. work.Call m machine) (option_map machine_of it)) row
    row_then row None rests = rests refl
    row_then row (Some u) rests = tt

    -- the world and the maps after the step
    module _ (w2 : World (Node K V)) (maps2 : ℕ → Option (Standing K)) (memory : w2.memory ≡ e2.memory.memory) (rows : (j : ℕ) → j ≢ i → w2.row j ≡ s.world.row j)
        (slots : LeavesSlots (slot_of i) i s.world w2) (rests : next ≡ None → w2.row i ≡ Rests)
        (settings : (n : ℕ) → option_map (λ standing. standing.setting) (maps2 n) ≡ option_map (λ standing. standing.setting) (s.maps n))
        (hashes : (n : ℕ) (standing : Standing K) → maps2 n ≡ Some standing → standing.hash ≡ hash)
        (together : EndingsTogether V same same e.batch_size e.roots slot_of w2 maps2 calls2 s.makers s.enders) where
      abbrev scene2 : Scene K V
      scene2 = record { world = w2; maps = maps2; calls = calls2; makers = s.makers; enders = s.enders }

      maker_none : s.makers i ≡ None
      maker_none = none_of _ (s.makers i) (at.makers i ∙ ap making_in (work_own e e2 i had has before changes) ∙ no_making m x)

      pub is_at_on : IsThere same hash e2 scene2
      is_at_on = there_again same hash e s at i had has before e2 e2 changes refl changes.batch_size changes.roots (omega (arith, ap length changes.maps)) scene2 (record {
        memory = memory;
        together = together;
        maps = λ n. settings n ∙ at.maps n ∙ ap (λ xs. slice_index_or xs n None) (sym changes.maps);
        hashes = hashes;
        calls = λ n. calls_own n (cases_eq n m);
        calls_as = λ n j nj. calls_other n j nj (cases_eq n m);
        makers = ap (option_map (λ b. (b.map, b.machine))) maker_none ∙ sym (no_making m (option_map machine_of next));
        makers_as = λ j nj. refl;
        makes = λ c makes. absurd (cc (maker_none, makes));
        enders = at.enders i ∙ ap ending_in (work_own e e2 i had has before changes) ∙ no_ending m x ∙ sym (no_ending m (option_map machine_of next));
        enders_as = λ j nj. refl;
        row = row_then (w2.row i) next rests;
        on_slot = slots.on_slot (at.held.on_slots i);
        rows_as = rows;
        slots = ap length changes.slots ∙ at.slots;
        uses = λ t. subst (λ xs. IsUsedAs (slice_index_or xs t slot_use.Vacant) (w2.uses t)) (sym changes.slots) (used_on (use_at e t) (s.world.uses t) (w2.uses t) (at.uses t) (slots.uses t));
      })
