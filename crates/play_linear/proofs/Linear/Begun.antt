-- A call as an act begins it is what was called: on its key, given its pair, and over the map for its purpose.
use Rattle.std.specs.Prelude.{◌≡◌, ℕ, Bool, Some, None}
use Rattle.std.proofs.Common.{refl, sym, subst}
use Rattle.run_logged.specs.Given.ReservesDeclared.sweep.Purpose.TheVariants as purpose
use Rattle.run_logged.specs.Given.CallersTogether.{UnderWay}
use Rattle.play_lists.specs.Given.FinishesMaps.{Standing}
use Rattle.play_lists.specs.Given.FollowsCalls.{IsCalled}
use Rattle.run_logged.specs.Given.HandsCalling.{IsBegunFor}
use Rattle.run_schedules.specs.declared.call.Call.{Call}
use Rattle.run_schedules.specs.declared.call.Call.TheVariants.{On, Reserve, Clear, Retain, Len, Walk}
use Rattle.play_lists.specs.Given.ScenesScene.{slot_of}
use Rattle.play_lists.specs.Given.HistoriesAsCalled.{IsBegunAs}
use Rattle.run_logged.proofs.Given.NamedCalled.{begun_call, is_begun_for, is_called}
use Rattle.play_lists.specs.Given.ActsActs.{Wanted, begun, Get, Remove, Insert, TryToInsert, Compute, Update, UpdateOrInsert, TryToInsertWith, RemoveIf, GetKeyValue, ContainsKey, GetOrInsert, GetOrInsertWith, RemoveEntry, MakeRoom, Count, GoOver}
use Rattle.play_lists.specs.Played.Play.{call_for}

module _ {K V : Type 0} (same : K → K → Bool) (st : Standing K) (i : ℕ) where
  -- what an act begins is what begins where that is called
  pub begun_is : (wanted : Wanted K V) → begun same slot_of st i wanted ≡ begun_call same st i (call_for wanted)
  begun_is (Get key) = refl
  begun_is (Remove key) = refl
  begun_is (Insert key value) = refl
  begun_is (TryToInsert key value) = refl
  begun_is (Compute key) = refl
  begun_is (Update key) = refl
  begun_is (UpdateOrInsert key None) = refl
  begun_is (UpdateOrInsert key (Some value)) = refl
  begun_is (TryToInsertWith key) = refl
  begun_is (RemoveIf key) = refl
  begun_is (GetKeyValue key) = refl
  begun_is (ContainsKey key) = refl
  begun_is (GetOrInsert key value) = refl
  begun_is (GetOrInsertWith key) = refl
  begun_is (RemoveEntry key) = refl
  begun_is (MakeRoom additional) = refl
  begun_is Count = refl
  begun_is (GoOver purpose.Walks) = refl
  begun_is (GoOver purpose.Clears) = refl
  begun_is (GoOver purpose.Retains) = refl

  begun_as : (call : Call K V) → IsBegunAs (begun_call same st i call) call
  begun_as (On one) = tt
  begun_as (Reserve additional) = tt
  begun_as Clear = (refl, refl)
  begun_as Retain = (refl, refl)
  begun_as Len = tt
  begun_as Walk = (refl, refl)

  pub begun_rightly : (wanted : Wanted K V) → (let u = begun same slot_of st i wanted in IsCalled same u (call_for wanted) × IsBegunFor u (call_for wanted) × IsBegunAs u (call_for wanted))
  begun_rightly wanted =
      subst (λ (u : UnderWay K V K). IsCalled same u (call_for wanted) × IsBegunFor u (call_for wanted) × IsBegunAs u (call_for wanted)) (sym (begun_is wanted))
      (is_called same st i (call_for wanted), is_begun_for same st i (call_for wanted), begun_as (call_for wanted))
