-- What a call of a run wants of a map: what begins then is that call, with its machine.
use Rattle.std.specs.Prelude.{Some, None}
use Rattle.std.proofs.Common.{◌≡◌, ℕ, Bool, refl}
use Rattle.run_finds.specs.Given.ReservesDeclared.sweep.Purpose.TheVariants as purpose
use Rattle.many_acts.specs.Given.CallersTogether.{in_slot}
use Rattle.many_acts.specs.Given.FinishesMachines.{machine_of}
use Rattle.many_acts.specs.Given.FinishesMaps.{Standing}
use Rattle.many_acts.specs.Given.ScenesScene.{slot_of}
use Rattle.many_acts.specs.Acts.Acts.{Wanted, Get, Remove, Insert, TryToInsert, Compute, Update, UpdateOrInsert, TryToInsertWith, RemoveIf, GetKeyValue, ContainsKey, GetOrInsert, GetOrInsertWith, RemoveEntry, MakeRoom, Count, GoOver, begun}
use Rattle.run_finds.specs.Given.NamedMachines.{machine_for}
use Rattle.play_lists.specs.Played.Play.{call_for}
use Rattle.run_schedules.specs.declared.call.Call.{Call}
use Rattle.run_schedules.specs.declared.call.Call.TheVariants as calls
use Rattle.run_schedules.specs.declared.call.OneKey.{OneKey}
use Rattle.run_schedules.specs.declared.call.OneKey.TheVariants as one

module _ {K V : Type 0} where
  abbrev pub wanted_on : OneKey K V → Wanted K V
  wanted_on (one.Get key) = Get key
  wanted_on (one.GetKeyValue key) = GetKeyValue key
  wanted_on (one.ContainsKey key) = ContainsKey key
  wanted_on (one.Insert key value) = Insert key value
  wanted_on (one.TryInsert key value) = TryToInsert key value
  wanted_on (one.TryInsertWith key) = TryToInsertWith key
  wanted_on (one.GetOrInsert key value) = GetOrInsert key value
  wanted_on (one.GetOrInsertWith key) = GetOrInsertWith key
  wanted_on (one.Update key) = Update key
  wanted_on (one.UpdateOrInsert key value) = UpdateOrInsert key (Some value)
  wanted_on (one.UpdateOrInsertWith key) = UpdateOrInsert key None
  wanted_on (one.Compute key) = Compute key
  wanted_on (one.Remove key) = Remove key
  wanted_on (one.RemoveEntry key) = RemoveEntry key
  wanted_on (one.RemoveIf key) = RemoveIf key

  abbrev pub wanted_for : Call K V → Wanted K V
  wanted_for (calls.On it) = wanted_on it
  wanted_for (calls.Reserve additional) = MakeRoom additional
  wanted_for calls.Clear = GoOver purpose.Clears
  wanted_for calls.Retain = GoOver purpose.Retains
  wanted_for calls.Len = Count
  wanted_for calls.Walk = GoOver purpose.Walks

  on_back : (it : OneKey K V) → call_for (wanted_on it) ≡ calls.On it
  on_back (one.Get key) = refl
  on_back (one.GetKeyValue key) = refl
  on_back (one.ContainsKey key) = refl
  on_back (one.Insert key value) = refl
  on_back (one.TryInsert key value) = refl
  on_back (one.TryInsertWith key) = refl
  on_back (one.GetOrInsert key value) = refl
  on_back (one.GetOrInsertWith key) = refl
  on_back (one.Update key) = refl
  on_back (one.UpdateOrInsert key value) = refl
  on_back (one.UpdateOrInsertWith key) = refl
  on_back (one.Compute key) = refl
  on_back (one.Remove key) = refl
  on_back (one.RemoveEntry key) = refl
  on_back (one.RemoveIf key) = refl

  pub call_back : (call : Call K V) → call_for (wanted_for call) ≡ call
  call_back (calls.On it) = on_back it
  call_back (calls.Reserve additional) = refl
  call_back calls.Clear = refl
  call_back calls.Retain = refl
  call_back calls.Len = refl
  call_back calls.Walk = refl

  on_machine : (same : K → K → Bool) (standing : Standing K) (i : ℕ) (it : OneKey K V)
      → machine_of (begun same slot_of standing i (wanted_on it)) ≡ machine_for (in_slot standing.setting (slot_of i)) standing.hash (calls.On it)
  on_machine same standing i (one.Get key) = refl
  on_machine same standing i (one.GetKeyValue key) = refl
  on_machine same standing i (one.ContainsKey key) = refl
  on_machine same standing i (one.Insert key value) = refl
  on_machine same standing i (one.TryInsert key value) = refl
  on_machine same standing i (one.TryInsertWith key) = refl
  on_machine same standing i (one.GetOrInsert key value) = refl
  on_machine same standing i (one.GetOrInsertWith key) = refl
  on_machine same standing i (one.Update key) = refl
  on_machine same standing i (one.UpdateOrInsert key value) = refl
  on_machine same standing i (one.UpdateOrInsertWith key) = refl
  on_machine same standing i (one.Compute key) = refl
  on_machine same standing i (one.Remove key) = refl
  on_machine same standing i (one.RemoveEntry key) = refl
  on_machine same standing i (one.RemoveIf key) = refl

  pub wanted_machine : (same : K → K → Bool) (standing : Standing K) (i : ℕ) (call : Call K V)
      → machine_of (begun same slot_of standing i (wanted_for call)) ≡ machine_for (in_slot standing.setting (slot_of i)) standing.hash call
  wanted_machine same standing i (calls.On it) = on_machine same standing i it
  wanted_machine same standing i (calls.Reserve additional) = refl
  wanted_machine same standing i calls.Clear = refl
  wanted_machine same standing i calls.Retain = refl
  wanted_machine same standing i calls.Len = refl
  wanted_machine same standing i calls.Walk = refl
