-- A run of a call that asks, for one owner: it comes to a question, to an answer, or is refused, and its key is in hand then, or handed out with the value.
use Rattle.std.specs.Prelude.{ℕ, Bool, Option, Some, None, Result, Ok, Err, ◌⊎◌}
use Rattle.std.proofs.Common.{◌≡◌, ap, inl, inr}
use Rattle.seize_words.specs.OneMemory.Mem.{Mem, Took, value_at}
use Rattle.seize_words.specs.OneMemory.Plan.{Plan, Steps}
use Rattle.seize_words.specs.declared.fault.Fault.{Fault}
use Rattle.seize.specs.declared.advance.Advance.{Advance}
use Rattle.map_tables.specs.declared.node.Node.{Node}
use Rattle.map_tables.specs.declared.node.Node.TheVariants as node
use Rattle.papaya_raw.specs.Call.{call_plan}
use Rattle.papaya_raw.specs.declared.machines.answer.Called.{Called}
use Rattle.papaya_raw.specs.declared.machines.answer.Called.TheVariants as called
use Rattle.papaya_raw.specs.declared.machines.call.KeyCall.{KeyCall}
use Rattle.owner_calls.specs.Given.StridesEnding.{RunsTo}
use Rattle.owner_calls.specs.Owned.Machines.{on_key_after, on_key_plan}
use Rattle.owner_calls.specs.declared.machines.OnKey.{OnKey}
use Rattle.owner_calls.specs.declared.machines.Stop.{Stop}
use Rattle.owner_calls.specs.declared.machines.Stop.TheVariants as stop
use Rattle.owner_calls.proofs.Owned.Owned.HandsBack.{IsOver}
use Rattle.owner_calls.proofs.Owned.Owned.ComesBack.{TellsEnd, over_tells}
use Rattle.owner_calls.proofs.Given.StridesRuns.Comes.{NextOf, next_turned, run_comes}
use Rattle.owner_asks.proofs.Asks.Asks.Undisturbed.{AsksFor, IsBare, Undisturbed, StaysSo}
use Rattle.owner_asks.proofs.Asks.Asks.Steps.{stays_undisturbed}

module _ {K V Q S : Type 0} (its : Option K) (known value : Option V) (seeks : Bool) where
  -- its key was handed out, with the value that it was to store
  abbrev pub HandedOut : OnKey K V Q S → Type 0
  HandedOut x = (k : K) × (v : V) × (its ≡ Some k) × (value ≡ Some v) × (x.unstored ≡ Some (node.Pair k v))

  abbrev pub InHand : OnKey K V Q S → Type 0
  InHand x = (x.unstored ≡ None) × IsBare its known x.call

  -- while it is under way
  abbrev pub IsStillSo : Mem (Node K V) → OnKey K V Q S → Type 0
  IsStillSo m x = (IsOver x.call.stands × HandedOut x) ⊎ ((x.unstored ≡ None) × Undisturbed its known value seeks m x.call)

  -- it has come to a question
  abbrev pub HasAsked : Mem (Node K V) → OnKey K V Q S → Option ℕ → Type 0
  HasAsked m x asked = (x.unstored ≡ None) × Undisturbed its known value seeks m x.call × AsksFor asked x.call.stands

  -- what it has come to
  abbrev pub HasCome : Mem (Node K V) → OnKey K V Q S → Result Stop Fault → Type 0
  HasCome m x (Ok (stop.Answered answer)) = Unit {0}
  HasCome m x (Ok (stop.Asks asked)) = HasAsked m x asked
  HasCome m x (Err fault) = HandedOut x ⊎ InHand x

  -- where a step leads, by what the machine tells
  abbrev IsNextSo : Mem (Node K V) → OnKey K V Q S → Advance Stop → Type 0
  IsNextSo m x = NextOf (λ y n. IsStillSo n y) (λ y n result. HasCome n y result) x m

  next_by : (x : OnKey K V Q S) (p2 : KeyCall K V Q) (m2 : Mem (Node K V)) (told : Called (Node K V)) → x.unstored ≡ None → StaysSo its known value seeks m2 (p2, told)
      → IsNextSo m2 (on_key_after x (p2, told)).0 (on_key_after x (p2, told)).1
  next_by x p2 m2 called.Goes none h = inr (none, h)
  next_by x p2 m2 called.Waits none h = inr (none, h)
  next_by x p2 m2 (called.Gave out) none h = inr (none, h)
  next_by x p2 m2 (called.Unstored out) none h = inl (h.0, (h.1, h.2, h.3, h.4, ap (λ (n : Node K V). Some n) h.5))
  next_by x p2 m2 (called.Asks asked) none h = (none, h.0, h.1)
  next_by x p2 m2 (called.Done answer) none h = tt
  next_by x p2 m2 (called.Refused fault) none h = inr (none, h)

  out_by : (x : OnKey K V Q S) (p2 : KeyCall K V Q) (m2 : Mem (Node K V)) (told : Called (Node K V)) → TellsEnd told → HandedOut x
      → IsNextSo m2 (on_key_after x (p2, told)).0 (on_key_after x (p2, told)).1
  out_by x p2 m2 called.Goes end out = absurd end
  out_by x p2 m2 called.Waits end out = absurd end
  out_by x p2 m2 (called.Gave value_out) end out = absurd end
  out_by x p2 m2 (called.Unstored value_out) end out = absurd end
  out_by x p2 m2 (called.Asks asked) end out = absurd end
  out_by x p2 m2 (called.Done answer) end out = tt
  out_by x p2 m2 (called.Refused fault) end out = inl out

  module _ (has_key : (v : V) → known ≡ Some v → (value ≡ Some v) × (k : K) × (its ≡ Some k)) (asks : Q → K → Bool) (same : K → K → Bool) (hashes : S → K → ℕ) where
    abbrev the_plan : OnKey K V Q S → Plan (Node K V) (OnKey K V Q S × Advance Stop)
    the_plan = on_key_plan asks same hashes

    on_step : (x : OnKey K V Q S) (m m2 : Mem (Node K V)) → IsStillSo m x → (e : KeyCall K V Q × Called (Node K V)) → Steps Took value_at m (call_plan asks same (hashes x.hasher.now) x.call) m2 e
        → IsNextSo m2 (on_key_after x e).0 (on_key_after x e).1
    on_step x m m2 (inl (over, out)) e s = out_by x e.0 m2 e.1 (over_tells asks same (hashes x.hasher.now) x.call m m2 e x.call.stands over s) out
    on_step x m m2 (inr (none, h)) e s = next_by x e.0 m2 e.1 none (stays_undisturbed its known value seeks has_key asks same (hashes x.hasher.now) x.call m m2 h e s)

    on_machine : (x : OnKey K V Q S) (m : Mem (Node K V)) → IsStillSo m x → (m2 : Mem (Node K V)) (end : OnKey K V Q S × Advance Stop) → Steps Took value_at m (the_plan x) m2 end → IsNextSo m2 end.0 end.1
    on_machine x m h m2 end s =
        next_turned (λ y n. IsStillSo n y) (λ y n result. HasCome n y result) (on_key_after x) m m2 (call_plan asks same (hashes x.hasher.now) x.call) (on_step x m m2 h) end s

    -- what a run comes to
    pub has_come : (x : OnKey K V Q S) (m : Mem (Node K V)) (x2 : OnKey K V Q S) (m2 : Mem (Node K V)) (result : Result Stop Fault) → RunsTo the_plan x m x2 m2 result → IsStillSo m x → HasCome m2 x2 result
    has_come x m x2 m2 result runs h = run_comes (λ y n. IsStillSo n y) (λ y n r. HasCome n y r) the_plan on_machine x m h x2 m2 result runs
