-- A call that is to store a pair has it, until it has put it into the map, or hands it back: where its outcome is not that it is there, the pair has come back.
use Rattle.std.specs.Prelude.{Option, Some, IsSome, Result, Ok, Err}
use Rattle.std.proofs.Common.{◌≡◌, ℕ, Bool, true, false, List, ◌⊎◌, inl, inr, refl, sym, subst, ap, ◌∙◌}
use Rattle.seize_words.specs.OneMemory.Mem.{Took, value_at}
use Rattle.seize_words.specs.OneMemory.Op.{Op, Out}
use Rattle.seize_words.specs.OneMemory.Plan.{Plan, Turn, Do, Steps, plan_as}
use Rattle.seize_words.specs.declared.fault.Fault.{Fault}
use Rattle.map_tables.specs.declared.node.Node.{Node}
use Rattle.papaya_raw.specs.Call.{call_plan}
use Rattle.papaya_raw.specs.Machine.{machine_plan, called as as_machine}
use Rattle.papaya_raw.specs.declared.machines.answer.Called.{Called}
use Rattle.papaya_raw.specs.declared.machines.answer.Called.TheVariants as tells
use Rattle.papaya_raw.specs.declared.machines.call.KeyCall.{KeyCall}
use Rattle.papaya_raw.specs.declared.machines.call.Calling.{Calling}
use Rattle.papaya_raw.specs.declared.machines.machine.Machine.{Machine}
use Rattle.papaya_raw.specs.declared.machines.machine.Machine.TheVariants as kinds
use Rattle.papaya_raw.specs.declared.machines.answer.KeyAnswer.{KeyAnswer}
use Rattle.papaya_raw.specs.declared.machines.answer.KeyAnswer.TheVariants as answers
use Rattle.papaya_raw.specs.declared.machines.progress.Answer.{Answer}
use Rattle.papaya_raw.specs.declared.machines.progress.Answer.TheVariants.{Key as OfKey}
use Rattle.papaya_raw.specs.declared.machines.progress.Progress.{Progress}
use Rattle.papaya_raw.specs.declared.machines.progress.Progress.TheVariants as progress
use Rattle.papaya_raw.specs.Progress.{of_called}
use Rattle.threads_rule.specs.Views.Told.{HandsBack, MayCome, pair_in}
use Rattle.threads_rule.specs.declared.view.BegunCall.{BegunCall}
use Rattle.owner_calls.specs.Owned.Owned.{PutsIt}
use Rattle.owner_calls.proofs.Owned.Owned.ComesBack.{TellsEnd, over_tells}
use Rattle.owner_calls.proofs.Owned.Owned.HandsBack.{HasPair, HasPairAt, IsOver, KeepsPair, pair_kept}
use Rattle.threads_rule.specs.Errands.Calling.{IsBack, IsGoing, IsToStore, MachineStores, handed_by, is_put, outcome_of, pair_there}
use Rattle.threads_kinds.proofs.CallKinds.Plans.{ends_as}

-- a step whose outcome is turned into another one comes to what that is of
pub steps_as : {T A B M : Type 0} (f : A → B) (took : M → Op T → Out T → M → Type 0) (shown : M → ℕ → Option T) (m n : M) (plan : Plan T A) (end : B) → Steps took shown m (plan_as f plan) n end
    → (e : A) × Steps took shown m plan n e × (end ≡ f e)
steps_as f took shown m n (Turn rest) end s = let k = ends_as f (shown n) rest end s.1 in (k.0, (s.0, k.1), k.2)
steps_as f took shown m n (Do op rest) end s = let k = ends_as f (shown n) (rest s.0) end s.2 in (k.0, (s.0, s.1, k.1), k.2)

puts : (answer : KeyAnswer) → PutsIt answer → is_put (OfKey answer) ≡ true
puts (answers.Stored word) is = refl
puts (answers.Replaced old new) is = refl
puts (answers.Found word) is = absurd is
puts answers.Absent is = absurd is
puts (answers.Removed word) is = absurd is

-- as it ends it tells which pair is in the map
abbrev pub TellsOne : {T : Type 0} → Progress T → Type 0
TellsOne (progress.Done answer) = IsSome (pair_there answer)
TellsOne told = Unit {0}

module _ {K V : Type 0} where
  abbrev HasIt : Machine K V K → Type 0
  HasIt (kinds.Key c) = HasPair c
  HasIt _ = ⊥

  abbrev IsEnding : Machine K V K → Type 0
  IsEnding (kinds.Key c) = IsOver c.stands
  IsEnding _ = ⊥

  -- the pair has come back, and the call is over; or it has it
  abbrev pub StillHas : Node K V → Machine K V K → Option (Node K V) → Type 0
  StillHas pair machine back = ((back ≡ Some pair) × IsEnding machine) ⊎ HasIt machine

  -- where its outcome is not that its pair is in the map, that has come back
  abbrev pub ComesBack : Node K V → Answer → Option (Node K V) → Type 0
  ComesBack pair answer back = is_put answer ≡ false → back ≡ Some pair

  -- so it is after a step, by what that tells
  abbrev pub HasNext : Node K V → Machine K V K → Option (Node K V) → Progress (Node K V) → Type 0
  HasNext pair machine back (progress.Unstored value) = StillHas pair machine (Some value)
  HasNext pair machine back (progress.Done answer) = ComesBack pair answer back
  HasNext pair machine back (progress.Refused fault) = IsBack pair (Err fault) back
  HasNext pair machine back (progress.Asks asked) = ⊥
  HasNext pair machine back told = StillHas pair machine back

  module _ (pair : Node K V) (back : Option (Node K V)) where
    has_by : (runs : List (BegunCall K V)) → pair_in runs ≡ Some pair → (c : KeyCall K V K) (told : Called (Node K V)) → KeepsPair (c, told) → HandsBack runs (of_called told)
        → HasNext pair (kinds.Key c) back (of_called told)
    has_by runs is c tells.Goes keeps hands = inr keeps
    has_by runs is c tells.Waits keeps hands = inr keeps
    has_by runs is c (tells.Gave value) keeps hands = inr keeps
    has_by runs is c (tells.Unstored value) keeps hands = inl (ap Some (hands pair is), keeps)
    has_by runs is c (tells.Asks asked) keeps hands = keeps
    has_by runs is c (tells.Done answer) keeps hands = λ e. let put = puts answer keeps in absurd (cc (put, e))
    has_by runs is c (tells.Refused fault) keeps hands = absurd keeps

    back_by : (c : KeyCall K V K) (told : Called (Node K V)) → TellsEnd told → back ≡ Some pair → HasNext pair (kinds.Key c) back (of_called told)
    back_by c tells.Goes end is = absurd end
    back_by c tells.Waits end is = absurd end
    back_by c (tells.Gave value) end is = absurd end
    back_by c (tells.Unstored value) end is = absurd end
    back_by c (tells.Asks asked) end is = absurd end
    back_by c (tells.Done answer) end is = λ e. is
    back_by c (tells.Refused fault) end is = is

    module _ (same : K → K → Bool) (hashes : K → ℕ) (runs : List (BegunCall K V)) (its : pair_in runs ≡ Some pair) where
      key_next : (c : KeyCall K V K) (end : Machine K V K × Progress (Node K V)) → MayCome (plan_as as_machine (call_plan same same hashes c)) end → HandsBack runs end.1
          → StillHas pair (kinds.Key c) back → HasNext pair end.0 back end.1
      key_next c end (m, n, s) hands has =
          let k = steps_as as_machine Took value_at m n (call_plan same same hashes c) end s in
          let handed = subst (λ (e : Machine K V K × Progress (Node K V)). HandsBack runs e.1) k.2 hands in
          subst (λ (e : Machine K V K × Progress (Node K V)). HasNext pair e.0 back e.1) (sym k.2)
          (elim has as (λ _. HasNext pair (as_machine k.0).0 back (as_machine k.0).1) [
            | inl over ↦ back_by k.0.0 k.0.1 (over_tells same same hashes c m n k.0 c.stands over.1 k.1) over.0
            | inr it ↦ has_by runs its k.0.0 k.0.1 (pair_kept same same hashes c it m n k.0 k.1) handed
          ])

      pub has_next : (machine : Machine K V K) (end : Machine K V K × Progress (Node K V)) → MayCome (machine_plan same same hashes machine) end → HandsBack runs end.1
          → StillHas pair machine back → HasNext pair end.0 back end.1
      has_next (kinds.Key c) end may hands has = key_next c end may hands has
      has_next (kinds.Reserve r) end may hands (inl over) = absurd over.1
      has_next (kinds.Reserve r) end may hands (inr it) = absurd it
      has_next (kinds.Sweep s) end may hands (inl over) = absurd over.1
      has_next (kinds.Sweep s) end may hands (inr it) = absurd it
      has_next (kinds.Count s) end may hands (inl over) = absurd over.1
      has_next (kinds.Count s) end may hands (inr it) = absurd it

  -- who is to store a pair has it
  has_first : (pair : Node K V) (c : KeyCall K V K) → IsToStore pair c → HasPair c
  has_first pair c is = record {
    absent = is.absent;
    present = is.present;
    own = λ e. let none = is.none in absurd (cc (e, none));
    pair = subst (λ (s : Calling). HasPairAt c s) (sym is.here) (λ e. let some = is.unmade in absurd (cc (e, some)), is.word);
  }

  -- so it is where the call goes on, with what was handed back by then
  pub still_has : (pair : Node K V) (machine : Machine K V K) (back : Option (Node K V)) (told : Progress (Node K V)) → IsGoing told → HasNext pair machine back told
      → StillHas pair machine (handed_by told back)
  still_has pair machine back progress.Goes on has = has
  still_has pair machine back progress.Waits on has = has
  still_has pair machine back (progress.Gave value) on has = has
  still_has pair machine back (progress.Unstored value) on has = has
  still_has pair machine back (progress.Asks asked) on has = absurd has
  still_has pair machine back progress.Ready on has = has
  still_has pair machine back (progress.Pair asked) on has = has
  still_has pair machine back (progress.Done answer) on has = absurd on
  still_has pair machine back (progress.Refused fault) on has = absurd on

  -- as it ends it hands nothing back
  pub handed_at_last : (answer : Result Answer Fault) (told : Progress (Node K V)) (back : Option (Node K V)) → told ≡ outcome_of answer → handed_by told back ≡ back
  handed_at_last (Ok answer) told back is = ap (λ (t : Progress (Node K V)). handed_by t back) is
  handed_at_last (Err fault) told back is = ap (λ (t : Progress (Node K V)). handed_by t back) is

  -- so it is with the outcome
  pub back_at_last : (pair : Node K V) (machine : Machine K V K) (unstored back : Option (Node K V)) (told : Progress (Node K V)) (answer so : Result Answer Fault) → told ≡ outcome_of answer
      → HasNext pair machine unstored told × TellsOne told → so ≡ answer → back ≡ unstored → IsBack pair so back
  back_at_last pair machine unstored back told (Ok answer) so is has same kept =
      subst (λ (r : Result Answer Fault). IsBack pair r back) (sym same)
      (λ e. kept ∙ subst (λ (t : Progress (Node K V)). HasNext pair machine unstored t) is has.0 e, subst (λ (t : Progress (Node K V)). TellsOne t) is has.1)
  back_at_last pair machine unstored back told (Err fault) so is has same kept =
      subst (λ (r : Result Answer Fault). IsBack pair r back) (sym same) (kept ∙ subst (λ (t : Progress (Node K V)). HasNext pair machine unstored t) is has.0)

  pub has_it : (pair : Node K V) (machine : Machine K V K) (back : Option (Node K V)) → MachineStores pair machine → StillHas pair machine back
  has_it pair (kinds.Key c) back is = inr (has_first pair c is)
  has_it pair (kinds.Reserve r) back is = absurd is
  has_it pair (kinds.Sweep s) back is = absurd is
  has_it pair (kinds.Count s) back is = absurd is
