-- What calls on a key that go by closures have done, by what they came to.
use Rattle.std.specs.Prelude.{◌≡◌, ℕ, Bool, List, Result, Ok, Err, Option, Some, None, IfErr}
use Rattle.std.proofs.Common.{sym, subst, inl, inr}
use Rattle.seize_words.specs.OneMemory.Mem.{Mem}
use Rattle.seize_words.specs.declared.fault.Fault.{Fault}
use Rattle.seize_words.specs.declared.fault.Fault.TheVariants.{Capacity}
use Rattle.map_tables.specs.declared.node.Node.{Node}
use Rattle.map_tables.specs.declared.setting.Setting.{Setting}
use Rattle.papaya_raw.specs.declared.machines.answer.KeyAnswer.{KeyAnswer}
use Rattle.papaya_raw.specs.declared.machines.answer.KeyAnswer.TheVariants as answers
use Rattle.papaya_raw.specs.declared.machines.asking.MachineReply.{MachineReply}
use Rattle.papaya_raw.specs.declared.machines.asking.MachineReply.TheVariants as reply
use Rattle.owner_asks.specs.Asks.Asking.{AnswersAs, EndsAs, RefusedAs}
use Rattle.owner_asks.specs.Asks.Closures.{HasOutcome, HasOutcomeWith, ComputesTo, Computing}
use Rattle.owner_asks.specs.declared.computing.Computed.{Computed}
use Rattle.owner_asks.specs.declared.computing.Computed.TheVariants as computed
use Rattle.seize_words.specs.declared.operation.Operation.{Operation}
use Rattle.seize_words.specs.declared.refused.RefusedKey.{RefusedKey}
use Rattle.seize_words.specs.declared.refused.Refused.{Refused}
use Rattle.map_straight.specs.Shown.Chain.{CannotGrowIn}
use Rattle.owner_calls.specs.Owned.Owned.{found_by}
use Rattle.owner_rests.specs.Rests.Asking.{HasDone, IsRefusedFor, ChangeHasOutcome, ComputesToIt, changed_by, ended_by, computing_ended_by}
use Rattle.owner_rests.specs.Rests.Lasts.{QuiescentWith, no_words, words_of, words_of_computing, words_of_end}
use Rattle.owner_rests.specs.declared.last.Last.{Last}
use Rattle.owner_rests.specs.declared.change.Change.{Change}
use Rattle.owner_rests.specs.declared.change.ComputedChange.{ComputedChange}

-- what was told of the calls below, with the words that they tell
module _ {K V : Type 0} (same : K → K → Bool) (hash : K → ℕ) (setting : Setting) (m : Mem (Node K V)) (keys : K → Bool) (its : Option K) (xs : List (K × V)) where
  module _ (Told : Option (K × V) → MachineReply V → Type 0) where
    pub done_so : (answer : KeyAnswer) → AnswersAs same hash setting m keys xs its Told answer → HasDone keys its Told xs (QuiescentWith same hash setting m (words_of answer)) (changed_by answer)
    done_so answers.Absent a = (a.1, a.0, record { holds = a.2; taken_is = tt; met_is = tt })
    done_so (answers.Found word) a = (a.0, a.2, a.1, record { holds = a.4; taken_is = tt; met_is = a.3 })
    done_so (answers.Stored word) a = (a.0, a.1, a.4, a.2, a.3, record { holds = a.6; taken_is = tt; met_is = a.5 })
    done_so (answers.Replaced old new) a = (a.0, a.1, a.2, a.5, a.3, a.4, record { holds = a.8; taken_is = a.6; met_is = a.7 })
    done_so (answers.Removed word) a = (a.0, a.2, a.1, record { holds = a.4; taken_is = a.3; met_is = tt })

    pub refused_for : (fault : Fault) → RefusedAs same hash setting m keys xs its Told fault → IsRefusedFor keys Told xs fault × QuiescentWith same hash setting m no_words xs None None
    refused_for fault (inl room, holds, ends) = (inl room, record { holds = holds; taken_is = tt; met_is = tt })
    refused_for fault (inr why, holds, ends) = (inr (why.0, why.2, why.1), record { holds = holds; taken_is = tt; met_is = tt })

    ends_so : (r : Result KeyAnswer Fault) → EndsAs same hash setting m keys xs its Told r → ChangeHasOutcome keys its Told xs (QuiescentWith same hash setting m (words_of_end r)) (λ fault. fault) (ended_by r)
    ends_so (Ok answer) e = done_so answer e
    ends_so (Err fault) e = refused_for fault e

    -- for the length of a table only where none can follow the last one
    end_long : (r : Result KeyAnswer Fault) → EndsAs same hash setting m keys xs its Told r → IfErr (ended_by r) (λ (fault : Fault). fault ≡ Capacity → CannotGrowIn m setting)
    end_long (Ok answer) e = tt
    end_long (Err fault) e = e.2

  -- told to change nothing, it has found what was there
  pub aborted_so : (answer : KeyAnswer) → AnswersAs same hash setting m keys xs its (λ about said. said ≡ reply.Abort) answer → QuiescentWith same hash setting m (words_of answer) xs None (found_by keys xs)
  aborted_so answers.Absent a = subst (QuiescentWith same hash setting m no_words xs None) (sym a.1) (record { holds = a.2; taken_is = tt; met_is = tt })
  aborted_so (answers.Found word) a = subst (QuiescentWith same hash setting m (words_of (answers.Found word)) xs None) (sym a.2) (record { holds = a.4; taken_is = tt; met_is = a.3 })
  aborted_so (answers.Stored word) a = absurd (let f = a.3 in cc f)
  aborted_so (answers.Replaced old new) a = absurd (let f = a.4 in cc f)
  aborted_so (answers.Removed word) a = absurd (let f = a.1 in cc f)

  -- as it is with the words that were kept, and what was answered
  module _ (Told : Option (K × V) → MachineReply V → Type 0) {E : Type 0} (fault_of : E → Fault) (r : Result KeyAnswer E) where
    abbrev pub ComesWith : Last → Result Change E → Type 0
    ComesWith last = ChangeHasOutcome keys its Told xs (QuiescentWith same hash setting m last) fault_of

    pub kept_as : ComesWith (words_of_end r) (ended_by r) → (last : Last) → last ≡ words_of_end r → (d : Result Change E) → d ≡ ended_by r → ComesWith last d
    kept_as so last words d is = subst (ComesWith last) (sym is) (subst (λ (l : Last). ComesWith l (ended_by r)) (sym words) so)

  module _ (Told : Option (K × V) → MachineReply V → Type 0) (r : Result KeyAnswer Fault) (e : EndsAs same hash setting m keys xs its Told r) where
    pub ends_as : (last : Last) → last ≡ words_of_end r → (d : Result Change Fault) → d ≡ ended_by r → ChangeHasOutcome keys its Told xs (QuiescentWith same hash setting m last) (λ fault. fault) d
    ends_as = kept_as Told (λ fault. fault) r (ends_so Told r e)

    pub end_capacity : (d : Result Change Fault) → d ≡ ended_by r → IfErr d (λ (fault : Fault). fault ≡ Capacity → CannotGrowIn m setting)
    end_capacity d is = subst (λ x. IfErr x (λ (fault : Fault). fault ≡ Capacity → CannotGrowIn m setting)) (sym is) (end_long Told r e)

module _ {K V : Type 0} (same : K → K → Bool) (hash : K → ℕ) (setting : Setting) (m : Mem (Node K V)) (key : K) (xs : List (K × V)) where
  module _ (Told : Option (K × V) → MachineReply V → Type 0) where
    comes_so : (r : Result KeyAnswer (RefusedKey K)) → HasOutcome same hash setting m key xs Told r
        → ChangeHasOutcome (same key) (Some key) Told xs (QuiescentWith same hash setting m (words_of_end r)) (λ (e : RefusedKey K). e.fault) (ended_by r)
    comes_so (Ok answer) e = done_so same hash setting m (same key) (Some key) xs Told answer e
    comes_so (Err r) e = refused_for same hash setting m (same key) (Some key) xs Told r.fault e.0

    key_back : (r : Result KeyAnswer (RefusedKey K)) → HasOutcome same hash setting m key xs Told r → IfErr (ended_by r) (λ e. e.key ≡ key)
    key_back (Ok answer) e = tt
    key_back (Err r) e = e.1

    key_long : (r : Result KeyAnswer (RefusedKey K)) → HasOutcome same hash setting m key xs Told r → IfErr (ended_by r) (λ (e : RefusedKey K). e.fault ≡ Capacity → CannotGrowIn m setting)
    key_long (Ok answer) e = tt
    key_long (Err r) e = e.0.2

    module _ (r : Result KeyAnswer (RefusedKey K)) (e : HasOutcome same hash setting m key xs Told r) where
      pub comes_as : (last : Last) → last ≡ words_of_end r → (d : Result Change (RefusedKey K)) → d ≡ ended_by r
          → ChangeHasOutcome (same key) (Some key) Told xs (QuiescentWith same hash setting m last) (λ (e : RefusedKey K). e.fault) d
      comes_as = kept_as same hash setting m (same key) (Some key) xs Told (λ (e : RefusedKey K). e.fault) r (comes_so r e)

      pub key_comes_back : (d : Result Change (RefusedKey K)) → d ≡ ended_by r → IfErr d (λ e. e.key ≡ key)
      key_comes_back d is = subst (λ x. IfErr x (λ (e : RefusedKey K). e.key ≡ key)) (sym is) (key_back r e)

      pub key_capacity : (d : Result Change (RefusedKey K)) → d ≡ ended_by r → IfErr d (λ (e : RefusedKey K). e.fault ≡ Capacity → CannotGrowIn m setting)
      key_capacity d is = subst (λ x. IfErr x (λ (e : RefusedKey K). e.fault ≡ Capacity → CannotGrowIn m setting)) (sym is) (key_long r e)

    with_so : (value : V) (r : Result KeyAnswer (Refused K V)) → HasOutcomeWith same hash setting m key xs value Told r
        → ChangeHasOutcome (same key) (Some key) Told xs (QuiescentWith same hash setting m (words_of_end r)) (λ (e : Refused K V). e.fault) (ended_by r)
    with_so value (Ok answer) e = done_so same hash setting m (same key) (Some key) xs Told answer e
    with_so value (Err r) e = refused_for same hash setting m (same key) (Some key) xs Told r.fault e.0

    pair_back : (value : V) (r : Result KeyAnswer (Refused K V)) → HasOutcomeWith same hash setting m key xs value Told r → IfErr (ended_by r) (λ e. (e.key ≡ key) × (e.value ≡ value))
    pair_back value (Ok answer) e = tt
    pair_back value (Err r) e = (e.1, e.2)

    pair_long : (value : V) (r : Result KeyAnswer (Refused K V)) → HasOutcomeWith same hash setting m key xs value Told r → IfErr (ended_by r) (λ (e : Refused K V). e.fault ≡ Capacity → CannotGrowIn m setting)
    pair_long value (Ok answer) e = tt
    pair_long value (Err r) e = e.0.2

    module _ (value : V) (r : Result KeyAnswer (Refused K V)) (e : HasOutcomeWith same hash setting m key xs value Told r) where
      pub with_as : (last : Last) → last ≡ words_of_end r → (d : Result Change (Refused K V)) → d ≡ ended_by r
          → ChangeHasOutcome (same key) (Some key) Told xs (QuiescentWith same hash setting m last) (λ (e : Refused K V). e.fault) d
      with_as = kept_as same hash setting m (same key) (Some key) xs Told (λ (e : Refused K V). e.fault) r (with_so value r e)

      pub pair_comes_back : (d : Result Change (Refused K V)) → d ≡ ended_by r → IfErr d (λ e. (e.key ≡ key) × (e.value ≡ value))
      pair_comes_back d is = subst (λ x. IfErr x (λ (e : Refused K V). (e.key ≡ key) × (e.value ≡ value))) (sym is) (pair_back value r e)

      pub pair_capacity : (d : Result Change (Refused K V)) → d ≡ ended_by r → IfErr d (λ (e : Refused K V). e.fault ≡ Capacity → CannotGrowIn m setting)
      pair_capacity d is = subst (λ x. IfErr x (λ (e : Refused K V). e.fault ≡ Capacity → CannotGrowIn m setting)) (sym is) (pair_long value r e)

  module _ {T : Type 0} (Gives : Option (K × V) → Operation V T → Type 0) where
    abbrev ComputesWith : Last → Result (ComputedChange T) (RefusedKey K) → Type 0
    ComputesWith last = ComputesToIt (same key) (Some key) Gives xs (QuiescentWith same hash setting m last) (λ (e : RefusedKey K). e.fault)

    computes_so : (r : Result (Computed T) (RefusedKey K)) → ComputesTo same hash setting m key xs Gives r → ComputesWith (words_of_computing r) (computing_ended_by r)
    computes_so (Ok (computed.Changed answer)) e = done_so same hash setting m (same key) (Some key) xs (Computing Gives) answer e
    computes_so (Ok (computed.Aborted end answer)) e = (e.0, aborted_so same hash setting m (same key) (Some key) xs answer e.1)
    computes_so (Err r) e = refused_for same hash setting m (same key) (Some key) xs (Computing Gives) r.fault e.0

    computing_key_back : (r : Result (Computed T) (RefusedKey K)) → ComputesTo same hash setting m key xs Gives r → IfErr (computing_ended_by r) (λ e. e.key ≡ key)
    computing_key_back (Ok (computed.Changed answer)) e = tt
    computing_key_back (Ok (computed.Aborted end answer)) e = tt
    computing_key_back (Err r) e = e.1

    computing_long : (r : Result (Computed T) (RefusedKey K)) → ComputesTo same hash setting m key xs Gives r → IfErr (computing_ended_by r) (λ (e : RefusedKey K). e.fault ≡ Capacity → CannotGrowIn m setting)
    computing_long (Ok (computed.Changed answer)) e = tt
    computing_long (Ok (computed.Aborted end answer)) e = tt
    computing_long (Err r) e = e.0.2

    module _ (r : Result (Computed T) (RefusedKey K)) (e : ComputesTo same hash setting m key xs Gives r) where
      pub computes_as : (last : Last) → last ≡ words_of_computing r → (d : Result (ComputedChange T) (RefusedKey K)) → d ≡ computing_ended_by r
          → ComputesToIt (same key) (Some key) Gives xs (QuiescentWith same hash setting m last) (λ (e : RefusedKey K). e.fault) d
      computes_as last words d is = subst (ComputesWith last) (sym is) (subst (λ (l : Last). ComputesWith l (computing_ended_by r)) (sym words) (computes_so r e))

      pub key_of_computing : (d : Result (ComputedChange T) (RefusedKey K)) → d ≡ computing_ended_by r → IfErr d (λ e. e.key ≡ key)
      key_of_computing d is = subst (λ x. IfErr x (λ (e : RefusedKey K). e.key ≡ key)) (sym is) (computing_key_back r e)

      pub computing_capacity : (d : Result (ComputedChange T) (RefusedKey K)) → d ≡ computing_ended_by r → IfErr d (λ (e : RefusedKey K). e.fault ≡ Capacity → CannotGrowIn m setting)
      computing_capacity d is = subst (λ x. IfErr x (λ (e : RefusedKey K). e.fault ≡ Capacity → CannotGrowIn m setting)) (sym is) (computing_long r e)
