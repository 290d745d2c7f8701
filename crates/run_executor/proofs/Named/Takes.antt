-- A call that asks takes each reply of its kind.
use Rattle.std.specs.Prelude.{◌≡◌, ℕ, true, false, not, List, Option, Ok}
use Rattle.std.proofs.Common.{refl, sym, subst}
use Rattle.papaya_raw.specs.CallAsks.{absent_replied, present_replied, replied_at}
use Rattle.papaya_raw.specs.Machine.{sweep_with_reply}
use Rattle.papaya_raw.specs.declared.machines.answer.Missing.TheVariants as missing
use Rattle.papaya_raw.specs.declared.machines.answer.There.TheVariants as there
use Rattle.papaya_raw.specs.declared.machines.asking.Asking.{Asking}
use Rattle.papaya_raw.specs.declared.machines.asking.Asking.TheVariants as asking
use Rattle.papaya_raw.specs.declared.machines.asking.MachineReply.TheVariants as reply
use Rattle.papaya_raw.specs.declared.machines.asking.Takes.{Takes}
use Rattle.papaya_raw.specs.declared.machines.asking.Takes.TheVariants as takes
use Rattle.papaya_raw.specs.declared.machines.call.Calling.TheVariants as at
use Rattle.papaya_raw.specs.declared.machines.call.KeyCall.{KeyCall}
use Rattle.papaya_raw.specs.Given.ReservesDeclared.sweep.Sweep.{Sweep}
use Rattle.papaya_raw.specs.Given.ReservesDeclared.sweep.Sweeping.{Sweeping}
use Rattle.papaya_raw.specs.Given.ReservesDeclared.sweep.Sweeping.TheVariants as sweeping
use Rattle.run_schedules.specs.declared.call.OneKey.{OneKey}
use Rattle.run_schedules.specs.declared.call.OneKey.TheVariants.{Get, GetKeyValue, ContainsKey, Insert, TryInsert, TryInsertWith, GetOrInsert, GetOrInsertWith, Update, UpdateOrInsert, UpdateOrInsertWith, Compute, Remove, RemoveEntry, RemoveIf}
use Rattle.run_schedules.specs.declared.call.Reply.{Reply}
use Rattle.run_schedules.specs.declared.call.Reply.TheVariants.{Gives, Removes, Aborts, Decides}
use Rattle.run_places.specs.Given.LateKinds.{FitsAsking}
use Rattle.run_places.specs.Given.CallersAsked.{Asked}
use Rattle.run_places.specs.Given.CallersPairs.{kind_of}
use Rattle.run_places.specs.Given.EffectsKnown.{Known}
use Rattle.run_places.specs.Hands.Asked.{IsQuestion, reply_to_machine, given_by}
use Rattle.run_executor.specs.Named.Machines.{IsFor, SweepIsAt}
use Rattle.run_executor.specs.Named.Seen.{fits, is_choice, is_gift, kind_on}
use Rattle.run_executor.specs.declared.caller.Stands.TheVariants as far
use Rattle.run_executor.specs.declared.kind.CallKind.{CallKind}
use Rattle.run_executor.specs.declared.kind.CallKind.TheVariants as kind

module _ {K V : Type 0} (known : Known) (c : KeyCall K V K) where
  abbrev TakesIt : Asking → Reply V → Type 0
  TakesIt it told = (replied_at (at.Asks it) c (reply_to_machine told)).1 ≡ Ok tt

  -- a value, where it takes values,
  values_taken : (it : Asking) (question : Option ℕ) → IsQuestion known it question → c.replies.takes ≡ takes.Values → (told : Reply V) → is_gift told ≡ true → TakesIt it told
  values_taken (asking.Absent gap) question is takes (Gives v) gift = subst (λ (t : Takes). (absent_replied t c gap (reply.Insert v)).1 ≡ Ok tt) (sym takes) refl
  values_taken (asking.Present word) question is takes (Gives v) gift = subst (λ (t : Takes). (present_replied t c word (reply.Insert v)).1 ≡ Ok tt) (sym takes) refl
  values_taken (asking.Fills word) question is takes told gift = absurd is
  values_taken (asking.GivesUp word) question is takes told gift = absurd is
  values_taken it question is takes Removes gift = absurd (cc gift)
  values_taken it question is takes (Aborts w) gift = absurd (cc gift)
  values_taken it question is takes (Decides b) gift = absurd (cc gift)

  -- a change, where it takes changes,
  changes_taken : (it : Asking) (question : Option ℕ) → IsQuestion known it question → c.replies.takes ≡ takes.Changes → (told : Reply V) → not (is_choice told) ≡ true → TakesIt it told
  changes_taken (asking.Absent gap) question is takes (Gives v) plain = subst (λ (t : Takes). (absent_replied t c gap (reply.Insert v)).1 ≡ Ok tt) (sym takes) refl
  changes_taken (asking.Absent gap) question is takes Removes plain = subst (λ (t : Takes). (absent_replied t c gap reply.Remove).1 ≡ Ok tt) (sym takes) refl
  changes_taken (asking.Absent gap) question is takes (Aborts w) plain = subst (λ (t : Takes). (absent_replied t c gap reply.Abort).1 ≡ Ok tt) (sym takes) refl
  changes_taken (asking.Present word) question is takes (Gives v) plain = subst (λ (t : Takes). (present_replied t c word (reply.Insert v)).1 ≡ Ok tt) (sym takes) refl
  changes_taken (asking.Present word) question is takes Removes plain = subst (λ (t : Takes). (present_replied t c word reply.Remove).1 ≡ Ok tt) (sym takes) refl
  changes_taken (asking.Present word) question is takes (Aborts w) plain = subst (λ (t : Takes). (present_replied t c word reply.Abort).1 ≡ Ok tt) (sym takes) refl
  changes_taken (asking.Fills word) question is takes told plain = absurd is
  changes_taken (asking.GivesUp word) question is takes told plain = absurd is
  changes_taken it question is takes (Decides b) plain = absurd (cc plain)

  -- and a choice, where it takes choices: it asks about pairs alone
  choices_taken : (it : Asking) (question : Option ℕ) → IsQuestion known it question → c.replies.takes ≡ takes.Choices → FitsAsking there.Asks missing.Answers takes.Choices it
      → (told : Reply V) → is_choice told ≡ true → TakesIt it told
  choices_taken (asking.Absent gap) question is takes fit told choice = absurd (cc fit)
  choices_taken (asking.Present word) question is takes fit (Decides true) choice = subst (λ (t : Takes). (present_replied t c word reply.Yes).1 ≡ Ok tt) (sym takes) refl
  choices_taken (asking.Present word) question is takes fit (Decides false) choice = subst (λ (t : Takes). (present_replied t c word reply.No).1 ≡ Ok tt) (sym takes) refl
  choices_taken (asking.Fills word) question is takes fit told choice = absurd is
  choices_taken (asking.GivesUp word) question is takes fit told choice = absurd is
  choices_taken it question is takes fit (Gives v) choice = absurd (cc choice)
  choices_taken it question is takes fit Removes choice = absurd (cc choice)
  choices_taken it question is takes fit (Aborts w) choice = absurd (cc choice)

  -- whichever call on a key it is
  pub key_takes : (one : OneKey K V) (asked : List (Asked V)) (it : Asking) (question : Option ℕ) → IsQuestion known it question → c.replies.takes ≡ (kind_of (given_by one asked)).takes
      → FitsAsking (kind_of (given_by one asked)).present (kind_of (given_by one asked)).absent (kind_of (given_by one asked)).takes it
      → (told : Reply V) → fits (kind_on one) told ≡ true → (replied_at (at.Asks it) c (reply_to_machine told)).1 ≡ Ok tt
  key_takes (TryInsertWith k) asked it question is takes fit told fits = values_taken it question is takes told fits
  key_takes (GetOrInsertWith k) asked it question is takes fit told fits = values_taken it question is takes told fits
  key_takes (Update k) asked it question is takes fit told fits = values_taken it question is takes told fits
  key_takes (UpdateOrInsert k v) asked it question is takes fit told fits = values_taken it question is takes told fits
  key_takes (UpdateOrInsertWith k) asked it question is takes fit told fits = values_taken it question is takes told fits
  key_takes (Compute k) asked it question is takes fit told fits = changes_taken it question is takes told fits
  key_takes (RemoveIf k) asked it question is takes fit told fits = choices_taken it question is takes fit told fits
  key_takes (Get k) asked (asking.Absent gap) question is takes fit told fits = absurd (cc fit)
  key_takes (Get k) asked (asking.Present word) question is takes fit told fits = absurd (let f = fit.0 in cc f)
  key_takes (GetKeyValue k) asked (asking.Absent gap) question is takes fit told fits = absurd (cc fit)
  key_takes (GetKeyValue k) asked (asking.Present word) question is takes fit told fits = absurd (let f = fit.0 in cc f)
  key_takes (ContainsKey k) asked (asking.Absent gap) question is takes fit told fits = absurd (cc fit)
  key_takes (ContainsKey k) asked (asking.Present word) question is takes fit told fits = absurd (let f = fit.0 in cc f)
  key_takes (Insert k v) asked (asking.Absent gap) question is takes fit told fits = absurd (cc fit)
  key_takes (Insert k v) asked (asking.Present word) question is takes fit told fits = absurd (let f = fit.0 in cc f)
  key_takes (TryInsert k v) asked (asking.Absent gap) question is takes fit told fits = absurd (cc fit)
  key_takes (TryInsert k v) asked (asking.Present word) question is takes fit told fits = absurd (let f = fit.0 in cc f)
  key_takes (GetOrInsert k v) asked (asking.Absent gap) question is takes fit told fits = absurd (cc fit)
  key_takes (GetOrInsert k v) asked (asking.Present word) question is takes fit told fits = absurd (let f = fit.0 in cc f)
  key_takes (Remove k) asked (asking.Absent gap) question is takes fit told fits = absurd (cc fit)
  key_takes (Remove k) asked (asking.Present word) question is takes fit told fits = absurd (let f = fit.0 in cc f)
  key_takes (RemoveEntry k) asked (asking.Absent gap) question is takes fit told fits = absurd (cc fit)
  key_takes (RemoveEntry k) asked (asking.Present word) question is takes fit told fits = absurd (let f = fit.0 in cc f)
  key_takes one asked (asking.Fills word) question is takes fit told fits = absurd is
  key_takes one asked (asking.GivesUp word) question is takes fit told fits = absurd is

-- a sweep that asks takes a choice
module _ {V : Type 0} (c : Sweep) where
  by_stage : (stage : Sweeping) (word : ℕ) → stage ≡ sweeping.Asks word → (told : Reply V) → is_choice told ≡ true → (sweep_with_reply stage c (reply_to_machine told)).1 ≡ Ok tt
  by_stage stage word is (Decides true) choice = subst (λ (x : Sweeping). (sweep_with_reply {V = V} x c reply.Yes).1 ≡ Ok tt) (sym is) refl
  by_stage stage word is (Decides false) choice = subst (λ (x : Sweeping). (sweep_with_reply {V = V} x c reply.No).1 ≡ Ok tt) (sym is) refl
  by_stage stage word is (Gives v) choice = absurd (cc choice)
  by_stage stage word is Removes choice = absurd (cc choice)
  by_stage stage word is (Aborts w) choice = absurd (cc choice)

  pub sweep_takes : (its : CallKind) (question : Option ℕ) → IsFor its c.purpose → SweepIsAt (far.Asks question) c → (told : Reply V) → fits its told ≡ true → (sweep_with_reply c.stands c (reply_to_machine told)).1 ≡ Ok tt
  sweep_takes kind.Retains question for asks told fits = by_stage c.stands asks.0 asks.1 told fits
  sweep_takes kind.Clears question for asks told fits = absurd (cc fits)
  sweep_takes kind.Walks question for asks told fits = absurd (cc fits)
  sweep_takes _ question for asks told fits = absurd for
