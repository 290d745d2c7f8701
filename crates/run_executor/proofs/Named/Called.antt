-- A call as it begins on a map: what is under way then, and that it is what was called.
use Rattle.std.specs.Prelude.{◌≡◌, ◌^◌, ℕ, Bool, true, [], Some, None}
use Rattle.std.proofs.Common.{refl, sym, arith}
use Rattle.papaya_raw.specs.Given.ReservesReserve.{reserving}
use Rattle.run_places.specs.Given.ResizeSum.{summing}
use Rattle.run_places.specs.Given.RuleMaps.{IsClass}
use Rattle.run_places.specs.Given.PointsSteps.{AreLawful}
use Rattle.papaya_raw.specs.Given.ReservesDeclared.sweep.Purpose.TheVariants.{Walks, Clears, Retains}
use Rattle.run_schedules.specs.Schedules.Sequential.{key_of}
use Rattle.run_schedules.specs.declared.call.Call.{Call}
use Rattle.run_schedules.specs.declared.call.Call.TheVariants.{On, Reserve, Clear, Retain, Len, Walk}
use Rattle.run_schedules.specs.declared.call.OneKey.{OneKey}
use Rattle.run_schedules.specs.declared.call.OneKey.TheVariants.{Get, GetKeyValue, ContainsKey, Insert, TryInsert, TryInsertWith, GetOrInsert, GetOrInsertWith, Update, UpdateOrInsert, UpdateOrInsertWith, Compute, Remove, RemoveEntry, RemoveIf}
use Rattle.run_places.specs.Given.CallersOverAll.{begun_over_all}
use Rattle.run_places.specs.Given.CallersTogether.{UnderWay, OnKey, ForRoom, Counting, OverAll, IsBegun, Gets, Removes, Inserts, TriesToInsert, Computes, Updates, UpdatesOrInserts, TriesToInsertWith, RemovesIf, begun_at, in_slot}
use Rattle.run_places.specs.Given.FinishesMachines.{machine_of}
use Rattle.run_places.specs.Given.FinishesMaps.{Standing}
use Rattle.run_places.specs.Given.FollowsCalls.{IsCalled}
use Rattle.run_places.specs.Hands.Asked.{given_by}
use Rattle.run_places.specs.Hands.Calling.{IsBegunFor}
use Rattle.run_executor.specs.Named.Machines.{IsAsFar, RefusedForRoom, machine_for, machine_on}
use Rattle.run_executor.specs.Named.Seen.{kind_of}
use Rattle.run_executor.specs.declared.caller.Stands.TheVariants as far
use Rattle.run_places.specs.Given.ScenesBeginning.{Begins}
use Rattle.run_places.specs.Given.ScenesScene.{slot_of}

-- a key stands for its class
module _ {K : Type 0} (same : K → K → Bool) (hash : K → ℕ) (are : AreLawful same hash) where
  equal_hashes : (k other : K) → same k other ≡ true → hash k ≡ hash other
  equal_hashes k other e =
      let spots = are.lawful.respects (2 ^ 64) 0 k other e in
      let one = are.fits k in
      let two = are.fits other in
      omega (arith, spots, one, two)

  class_of : (key : K) → IsClass same hash (same key) (hash key)
  class_of key = record { hashes = λ k e. sym (equal_hashes key k e); one = λ k other e. are.lawful.classes.congr key k other e }

module _ {K V : Type 0} (same : K → K → Bool) (st : Standing K) (i : ℕ) where
  -- what is under way where this is called
  abbrev pub begun_call : Call K V → UnderWay K V K
  begun_call (On one) = OnKey (begun_at V same st.hash same st.setting slot_of st.chart (same (key_of one)) (given_by one []) (machine_on (in_slot st.setting (slot_of i)) st.hash one))
  begun_call (Reserve additional) = ForRoom (record { began = st.chart.now; reserve = reserving (in_slot st.setting (slot_of i)) additional })
  begun_call Clear = OverAll (begun_over_all st.chart.now (in_slot st.setting (slot_of i)) Clears)
  begun_call Retain = OverAll (begun_over_all st.chart.now (in_slot st.setting (slot_of i)) Retains)
  begun_call Len = Counting (summing (in_slot st.setting (slot_of i)))
  begun_call Walk = OverAll (begun_over_all st.chart.now (in_slot st.setting (slot_of i)) Walks)

  pub its_machine : (call : Call K V) → machine_of (begun_call call) ≡ machine_for (in_slot st.setting (slot_of i)) st.hash call
  its_machine (On one) = refl
  its_machine (Reserve additional) = refl
  its_machine Clear = refl
  its_machine Retain = refl
  its_machine Len = refl
  its_machine Walk = refl

  pub is_called : (call : Call K V) → IsCalled same (begun_call call) call
  is_called (On one) = refl
  is_called (Reserve additional) = tt
  is_called Clear = tt
  is_called Retain = tt
  is_called Len = tt
  is_called Walk = tt

  pub is_begun_for : (call : Call K V) → IsBegunFor (begun_call call) call
  is_begun_for (On one) = refl
  is_begun_for (Reserve additional) = tt
  is_begun_for Clear = tt
  is_begun_for Retain = tt
  is_begun_for Len = tt
  is_begun_for Walk = tt

  pub is_as_far : (call : Call K V) → IsAsFar (kind_of call) far.Goes (machine_of (begun_call call))
  is_as_far (On one) = tt
  is_as_far (Reserve additional) = tt
  is_as_far Clear = (refl, λ e. absurd (cc e))
  is_as_far Retain = (refl, λ e. absurd (cc e))
  is_as_far Len = tt
  is_as_far Walk = (refl, λ e. tt)

  -- it has no fault to tell
  pub begins_for_room : (call : Call K V) → RefusedForRoom (machine_of (begun_call call))
  begins_for_room (On one) = tt
  begins_for_room (Reserve additional) = tt
  begins_for_room Clear = tt
  begins_for_room Retain = tt
  begins_for_room Len = tt
  begins_for_room Walk = tt

  module _ (are : AreLawful same st.hash) where
    key_begun : (one : OneKey K V) → IsBegun V same st.hash same st.setting slot_of i (same (key_of one)) (given_by one []) (machine_on (in_slot st.setting (slot_of i)) st.hash one)
    key_begun (Get k) = Gets k (st.hash k) (are.fits k) (class_of same st.hash are k)
    key_begun (GetKeyValue k) = Gets k (st.hash k) (are.fits k) (class_of same st.hash are k)
    key_begun (ContainsKey k) = Gets k (st.hash k) (are.fits k) (class_of same st.hash are k)
    key_begun (Insert k v) = Inserts k v
    key_begun (TryInsert k v) = TriesToInsert k v
    key_begun (TryInsertWith k) = TriesToInsertWith k
    key_begun (GetOrInsert k v) = TriesToInsert k v
    key_begun (GetOrInsertWith k) = TriesToInsertWith k
    key_begun (Update k) = Updates k
    key_begun (UpdateOrInsert k v) = UpdatesOrInserts k (Some v)
    key_begun (UpdateOrInsertWith k) = UpdatesOrInserts k None
    key_begun (Compute k) = Computes k
    key_begun (Remove k) = Removes k (st.hash k) (are.fits k) (class_of same st.hash are k)
    key_begun (RemoveEntry k) = Removes k (st.hash k) (are.fits k) (class_of same st.hash are k)
    key_begun (RemoveIf k) = RemovesIf k (st.hash k) (are.fits k) (class_of same st.hash are k)

    pub begins_so : (call : Call K V) → Begins same st i (begun_call call)
    begins_so (On one) = (key_begun one, refl)
    begins_so (Reserve additional) = (additional, refl)
    begins_so Clear = (Clears, refl)
    begins_so Retain = (Retains, refl)
    begins_so Len = refl
    begins_so Walk = (Walks, refl)
