-- What a call on one key comes to by a step, by what it was called for: which calls ask, and for what each is refused.
use Rattle.std.specs.Prelude.{◌≡◌, ℕ, true, List, Option}
use Rattle.std.proofs.Common.{◌⊎◌, refl, inl, inr}
use Rattle.seize_words.specs.declared.fault.Fault.{Fault}
use Rattle.seize_words.specs.declared.fault.Fault.TheVariants.{Capacity, Memory, RemoveNothing}
use Rattle.papaya_raw.specs.declared.machines.asking.Asking.{Asking}
use Rattle.papaya_raw.specs.declared.machines.asking.Asking.TheVariants as asking
use Rattle.run_schedules.specs.declared.call.Call.TheVariants.{On}
use Rattle.run_schedules.specs.Schedules.Coming.{asks_of_key, is_compute}
use Rattle.run_schedules.specs.declared.call.OneKey.{OneKey}
use Rattle.run_schedules.specs.declared.call.OneKey.TheVariants.{Get, GetKeyValue, ContainsKey, Insert, TryInsert, TryInsertWith, GetOrInsert, GetOrInsertWith, Update, UpdateOrInsert, UpdateOrInsertWith, Compute, Remove, RemoveEntry, RemoveIf}
use Rattle.owner_whole.specs.Given.LateFaults.{IsRoom}
use Rattle.owner_whole.specs.Given.LateKinds.{FaultFits, FitsAsking}
use Rattle.owner_whole.specs.Given.CallersAsked.{Asked}
use Rattle.owner_whole.specs.Given.CallersPairs.{kind_of}
use Rattle.run_executor.specs.Given.EffectsKnown.{Known}
use Rattle.run_executor.specs.Given.HandsAsked.{IsQuestion, given_by}
use Rattle.play_stepping.specs.EventSteps.Stepping.{IsFaultOn}

module _ {K V : Type 0} where
  -- only one that asks stands where one asks
  pub key_asks : (known : Known) (one : OneKey K V) (asked : List (Asked V)) (it : Asking) (question : Option ℕ) → IsQuestion known it question
      → FitsAsking (kind_of (given_by one asked)).present (kind_of (given_by one asked)).absent (kind_of (given_by one asked)).takes it → asks_of_key one ≡ true
  key_asks known (TryInsertWith k) asked it question is fit = refl
  key_asks known (GetOrInsertWith k) asked it question is fit = refl
  key_asks known (Update k) asked it question is fit = refl
  key_asks known (UpdateOrInsert k v) asked it question is fit = refl
  key_asks known (UpdateOrInsertWith k) asked it question is fit = refl
  key_asks known (Compute k) asked it question is fit = refl
  key_asks known (RemoveIf k) asked it question is fit = refl
  key_asks known (Get k) asked (asking.Absent gap) question is fit = absurd (cc fit)
  key_asks known (Get k) asked (asking.Present word) question is fit = absurd (let f = fit.0 in cc f)
  key_asks known (GetKeyValue k) asked (asking.Absent gap) question is fit = absurd (cc fit)
  key_asks known (GetKeyValue k) asked (asking.Present word) question is fit = absurd (let f = fit.0 in cc f)
  key_asks known (ContainsKey k) asked (asking.Absent gap) question is fit = absurd (cc fit)
  key_asks known (ContainsKey k) asked (asking.Present word) question is fit = absurd (let f = fit.0 in cc f)
  key_asks known (Insert k v) asked (asking.Absent gap) question is fit = absurd (cc fit)
  key_asks known (Insert k v) asked (asking.Present word) question is fit = absurd (let f = fit.0 in cc f)
  key_asks known (TryInsert k v) asked (asking.Absent gap) question is fit = absurd (cc fit)
  key_asks known (TryInsert k v) asked (asking.Present word) question is fit = absurd (let f = fit.0 in cc f)
  key_asks known (GetOrInsert k v) asked (asking.Absent gap) question is fit = absurd (cc fit)
  key_asks known (GetOrInsert k v) asked (asking.Present word) question is fit = absurd (let f = fit.0 in cc f)
  key_asks known (Remove k) asked (asking.Absent gap) question is fit = absurd (cc fit)
  key_asks known (Remove k) asked (asking.Present word) question is fit = absurd (let f = fit.0 in cc f)
  key_asks known (RemoveEntry k) asked (asking.Absent gap) question is fit = absurd (cc fit)
  key_asks known (RemoveEntry k) asked (asking.Present word) question is fit = absurd (let f = fit.0 in cc f)
  key_asks known one asked (asking.Fills word) question is fit = absurd is
  key_asks known one asked (asking.GivesUp word) question is fit = absurd is

  -- for what a call is refused that is no lookup
  abbrev IsOf : OneKey K V → Fault → Type 0
  IsOf one fault = (fault ≡ Memory) ⊎ (fault ≡ Capacity) ⊎ ((fault ≡ RemoveNothing) × (is_compute {K = K} {V = V} (On one) ≡ true))

  room : (one : OneKey K V) (fault : Fault) → IsRoom fault → IsOf one fault
  room one fault is = elim is as (λ _. IsOf one fault) [
    | inl memory ↦ inl memory
    | inr capacity ↦ inr (inl capacity)
  ]

  -- one that takes no changes is refused for room alone, and a lookup never
  pub key_refused : (one : OneKey K V) (asked : List (Asked V)) (fault : Fault)
      → FaultFits (kind_of (given_by one asked)).present (kind_of (given_by one asked)).absent (kind_of (given_by one asked)).takes fault → IsFaultOn one fault
  key_refused (Compute k) asked fault (inl (more, is)) = (refl, room (Compute k) fault is)
  key_refused (Compute k) asked fault (inr (takes, absent, is)) = (refl, inr (inr (is, refl)))
  key_refused (Get k) asked fault (inl (more, is)) = absurd (more refl refl)
  key_refused (Get k) asked fault (inr (takes, absent, is)) = absurd (cc takes)
  key_refused (GetKeyValue k) asked fault (inl (more, is)) = absurd (more refl refl)
  key_refused (GetKeyValue k) asked fault (inr (takes, absent, is)) = absurd (cc takes)
  key_refused (ContainsKey k) asked fault (inl (more, is)) = absurd (more refl refl)
  key_refused (ContainsKey k) asked fault (inr (takes, absent, is)) = absurd (cc takes)
  key_refused (Insert k v) asked fault (inl (more, is)) = (refl, room (Insert k v) fault is)
  key_refused (Insert k v) asked fault (inr (takes, absent, is)) = absurd (cc takes)
  key_refused (TryInsert k v) asked fault (inl (more, is)) = (refl, room (TryInsert k v) fault is)
  key_refused (TryInsert k v) asked fault (inr (takes, absent, is)) = absurd (cc takes)
  key_refused (TryInsertWith k) asked fault (inl (more, is)) = (refl, room (TryInsertWith k) fault is)
  key_refused (TryInsertWith k) asked fault (inr (takes, absent, is)) = absurd (cc takes)
  key_refused (GetOrInsert k v) asked fault (inl (more, is)) = (refl, room (GetOrInsert k v) fault is)
  key_refused (GetOrInsert k v) asked fault (inr (takes, absent, is)) = absurd (cc takes)
  key_refused (GetOrInsertWith k) asked fault (inl (more, is)) = (refl, room (GetOrInsertWith k) fault is)
  key_refused (GetOrInsertWith k) asked fault (inr (takes, absent, is)) = absurd (cc takes)
  key_refused (Update k) asked fault (inl (more, is)) = (refl, room (Update k) fault is)
  key_refused (Update k) asked fault (inr (takes, absent, is)) = absurd (cc takes)
  key_refused (UpdateOrInsert k v) asked fault (inl (more, is)) = (refl, room (UpdateOrInsert k v) fault is)
  key_refused (UpdateOrInsert k v) asked fault (inr (takes, absent, is)) = absurd (cc takes)
  key_refused (UpdateOrInsertWith k) asked fault (inl (more, is)) = (refl, room (UpdateOrInsertWith k) fault is)
  key_refused (UpdateOrInsertWith k) asked fault (inr (takes, absent, is)) = absurd (cc takes)
  key_refused (Remove k) asked fault (inl (more, is)) = (refl, room (Remove k) fault is)
  key_refused (Remove k) asked fault (inr (takes, absent, is)) = absurd (cc takes)
  key_refused (RemoveEntry k) asked fault (inl (more, is)) = (refl, room (RemoveEntry k) fault is)
  key_refused (RemoveEntry k) asked fault (inr (takes, absent, is)) = absurd (cc takes)
  key_refused (RemoveIf k) asked fault (inl (more, is)) = (refl, room (RemoveIf k) fault is)
  key_refused (RemoveIf k) asked fault (inr (takes, absent, is)) = absurd (cc takes)
