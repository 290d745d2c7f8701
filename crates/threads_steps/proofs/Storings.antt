-- A call that was to store a pair is of its kind as long as it goes on, and answers with a pair that is in the map then.
use Rattle.std.proofs.Common.{◌≡◌, ◌≢◌, ℕ, Bool, ◌⊎◌, inl, inr, refl, sym, subst}
use Rattle.seize_words.specs.OneMemory.Mem.{Took, value_at}
use Rattle.map_tables.specs.declared.node.Node.{Node}
use Rattle.owner_calls.proofs.Given.LateKindsKept.Laws.{calls_keep_their_kind}
use Rattle.owner_calls.specs.Given.LateKinds.{FitsAt, IsFit, OutcomeFits, RepliesFit}
use Rattle.papaya_raw.specs.Call.{call_plan}
use Rattle.papaya_raw.specs.Machine.{machine_plan, called as as_machine}
use Rattle.papaya_raw.specs.Progress.{of_called}
use Rattle.papaya_raw.specs.declared.machines.answer.Called.{Called}
use Rattle.papaya_raw.specs.declared.machines.answer.Called.TheVariants as tells
use Rattle.papaya_raw.specs.declared.machines.answer.KeyAnswer.TheVariants as answers
use Rattle.papaya_raw.specs.declared.machines.answer.Missing.TheVariants as missing
use Rattle.papaya_raw.specs.declared.machines.answer.There.{There}
use Rattle.papaya_raw.specs.declared.machines.answer.There.TheVariants as there
use Rattle.papaya_raw.specs.declared.machines.asking.Replies.{Replies}
use Rattle.papaya_raw.specs.declared.machines.asking.Takes.TheVariants as takes
use Rattle.papaya_raw.specs.declared.machines.call.Calling.{Calling}
use Rattle.papaya_raw.specs.declared.machines.call.KeyCall.{KeyCall}
use Rattle.papaya_raw.specs.declared.machines.machine.Machine.{Machine}
use Rattle.papaya_raw.specs.declared.machines.machine.Machine.TheVariants as kinds
use Rattle.papaya_raw.specs.declared.machines.progress.Progress.{Progress}
use Rattle.threads_rule.specs.Errands.Calling.{IsToStore, MachineStores, PutsOrLeaves}
use Rattle.threads_rule.specs.Views.Told.{MayCome}
use Rattle.threads_steps.proofs.Handing.{TellsOne, steps_as}

-- a call that puts its pair into the map, or leaves the one that is there, removes none
none_removed : (present : There) → PutsOrLeaves present → (present ≡ there.Removes) ⊎ ((present ≡ there.Asks) × (takes.Nothing ≢ takes.Values)) → ⊥
none_removed there.Puts of (inl is) = cc is
none_removed there.Puts of (inr is) = let asks = is.0 in cc asks
none_removed there.Answers of (inl is) = cc is
none_removed there.Answers of (inr is) = let asks = is.0 in cc asks
none_removed there.Removes of is = of
none_removed there.Asks of is = of

module _ {K V : Type 0} where
  -- a call of a kind that stores its pair where there is none, and puts it in the place of another one, or leaves that
  abbrev pub Storing : Machine K V K → Type 0
  Storing (kinds.Key c) = (present : There) × PutsOrLeaves present × IsFit present missing.Puts takes.Nothing c
  Storing _ = ⊥

  -- it begins as one
  stores_first : (pair : Node K V) (c : KeyCall K V K) → IsToStore pair c → Storing (kinds.Key c)
  stores_first pair c is = (
    c.there,
    is.present,
    (
      refl,
      is.absent,
      subst (λ (r : Replies K V). RepliesFit takes.Nothing r) (sym is.untold) (record { takes_is = refl; removes = λ e. absurd (cc e); choices = λ e. absurd (cc e) }),
      λ e. let none = is.none in absurd (cc (e, none)),
      subst (λ (s : Calling). FitsAt c.there missing.Puts takes.Nothing s) (sym is.here) (λ e none. absurd (cc none)),
    ),
  )

  pub stores_it : (pair : Node K V) (machine : Machine K V K) → MachineStores pair machine → Storing machine
  stores_it pair (kinds.Key c) is = stores_first pair c is
  stores_it pair (kinds.Reserve r) is = absurd is
  stores_it pair (kinds.Sweep s) is = absurd is
  stores_it pair (kinds.Count s) is = absurd is

  -- and answers as one
  tells_one : (present : There) → PutsOrLeaves present → (told : Called (Node K V)) → OutcomeFits present missing.Puts takes.Nothing told → TellsOne (of_called told)
  tells_one present of tells.Goes fits = tt
  tells_one present of tells.Waits fits = tt
  tells_one present of (tells.Gave value) fits = tt
  tells_one present of (tells.Unstored value) fits = tt
  tells_one present of (tells.Asks pair) fits = tt
  tells_one present of (tells.Refused fault) fits = tt
  tells_one present of (tells.Done (answers.Found word)) fits = refl
  tells_one present of (tells.Done (answers.Stored word)) fits = refl
  tells_one present of (tells.Done (answers.Replaced old new)) fits = refl
  tells_one present of (tells.Done (answers.Removed word)) fits = absurd (none_removed present of fits)
  tells_one present of (tells.Done answers.Absent) (inl is) = absurd (cc is)
  tells_one present of (tells.Done answers.Absent) (inr is) = let asks = is.0 in absurd (cc asks)

  module _ (same : K → K → Bool) (hashes : K → ℕ) where
    pub next_storing : (machine : Machine K V K) (end : Machine K V K × Progress (Node K V)) → MayCome (machine_plan same same hashes machine) end → Storing machine
        → Storing end.0 × TellsOne end.1
    next_storing (kinds.Key c) end (m, n, s) (present, of, fits) =
        let k = steps_as as_machine Took value_at m n (call_plan same same hashes c) end s in
        let after = calls_keep_their_kind same same hashes present missing.Puts takes.Nothing c fits m n k.0 k.1 in
        subst (λ (e : Machine K V K × Progress (Node K V)). Storing e.0 × TellsOne e.1) (sym k.2) ((present, of, after.0), tells_one present of k.0.1 after.1)
    next_storing (kinds.Reserve r) end may is = absurd is
    next_storing (kinds.Sweep r) end may is = absurd is
    next_storing (kinds.Count r) end may is = absurd is
