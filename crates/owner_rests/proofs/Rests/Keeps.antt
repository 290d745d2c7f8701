-- What a memory held is kept by the calls of a map, each after a refresh, but for some that waited; and what was stored has come.
use Rattle.std.specs.Prelude.{◌≡◌, ℕ, Bool, true, false, List, [], ◌∷◌, Option, Some, None, Result, Ok, Err, OnOk, OnErr}
use Rattle.std.proofs.Common.{refl, sym, ◌∙◌, subst, inl, inr}
use denote.Ref.{Bor}
use Rattle.seize_words.specs.OneMemory.Mem.{Mem, value_at}
use Rattle.seize_words.specs.OneMemory.Word.{block_in}
use Rattle.seize_words.specs.declared.fault.Fault.{Fault}
use Rattle.map_tables.specs.declared.node.Node.{Node}
use Rattle.map_tables.specs.declared.node.Node.TheVariants as node
use Rattle.map_tables.specs.declared.setting.Setting.{Setting}
use Rattle.papaya_raw.specs.declared.machines.answer.KeyAnswer.{KeyAnswer}
use Rattle.papaya_raw.specs.declared.machines.answer.KeyAnswer.TheVariants as answers
use Rattle.papaya_raw.specs.declared.machines.asking.MachineReply.{MachineReply}
use Rattle.papaya_raw.specs.declared.machines.asking.MachineReply.TheVariants as reply
use Rattle.owner_calls.specs.Given.CallersKind.{inserts, removes, tries_to_insert}
use Rattle.owner_asks.specs.Asks.Asking.{AnswersAs, EndsAs}
use Rattle.owner_asks.specs.Asks.Closures.{ComputesTo, computing_stop}
use Rattle.owner_asks.specs.declared.computing.Computed.{Computed}
use Rattle.owner_asks.specs.declared.computing.Computed.TheVariants as computed
use Rattle.seize_words.specs.declared.operation.Operation.{Operation}
use Rattle.seize_words.specs.declared.refused.RefusedKey.{RefusedKey}
use Rattle.owner_calls.specs.Given.CallersPairs.{Given}
use Rattle.owner_calls.specs.Owned.Calling.{HasStopped, stop_by}
use Rattle.owner_calls.specs.Owned.Owned.{Holds, EndsBy}
use Rattle.owner_calls.specs.declared.machines.Stop.{Stop}
use Rattle.owner_calls.specs.declared.machines.Stop.TheVariants as stop
use Rattle.owner_calls.specs.Holds.Came.{NoneCame, stored_by}
use Rattle.owner_calls.specs.Holds.Held.{HoldsOn, held_in, pair_at_word, with_pair}
use Rattle.owner_calls.proofs.Holds.Changes.{call_holds_on, refused_holds_on}
use Rattle.owner_rests.specs.Rests.Asking.{changed_by, ended_by, computing_ended_by}
use Rattle.owner_rests.specs.Rests.Calls.{has_found}
use Rattle.owner_rests.specs.Rests.Held.{as_list, if_tried, stored_as, stored_computing, stored_in}
use Rattle.owner_rests.specs.Rests.Lasts.{pair_in, pair_of, words_of, words_of_computing, words_of_end}
use Rattle.owner_rests.specs.declared.change.Change.{Change}
use Rattle.owner_rests.specs.declared.change.ComputedChange.{ComputedChange}
use Rattle.owner_rests.specs.declared.last.Last.{Last}

module _ {K V : Type 0} where
  listed : (o : Option (Node K V)) → as_list (pair_of o) ≡ with_pair o []
  listed (Some (node.Pair key value)) = refl
  listed (Some (node.Table len limit turn)) = refl
  listed (Some node.Shards) = refl
  listed None = refl

  -- what a call has stored is met where it was put
  stored_met : (m : Mem (Node K V)) (answer : KeyAnswer) → stored_as (changed_by answer) (pair_in m (words_of answer).met) ≡ pair_at_word m (stored_by answer)
  unfolding pair_in
  stored_met m answers.Absent = refl
  stored_met m (answers.Found word) = refl
  stored_met m (answers.Stored word) = listed (value_at m (block_in word))
  stored_met m (answers.Replaced old new) = listed (value_at m (block_in new))
  stored_met m (answers.Removed word) = refl

-- A refresh led from the one memory to the other, and a call on a key on to a third one.
module _ {K V S : Type 0} (m0 m1 : Mem (Node K V)) (none : NoneCame m0 m1) (same : K → K → Bool) (hashes : S → K → ℕ) (b : Bor S) (setting : Setting) (xs : List (K × V)) (h : Holds same (hashes b.now) setting m1 xs)
    (m2 : Mem (Node K V)) where
  abbrev HoldsWith : List (K × V) → Type 0
  HoldsWith stored = HoldsOn stored xs (held_in m0) (held_in m2)

  module _ {Q : Type 0} (asks : Q → K → Bool) (its_class : K → Bool) (its_given : Given K V) where
    abbrev Stopped : Result Stop Fault → Type 0
    Stopped = HasStopped asks same hashes b setting m1 its_class its_given m2

    answered : (answer : KeyAnswer) → Stopped (Ok (stop.Answered answer)) → HoldsWith (pair_at_word m2 (stored_by answer))
    answered answer ran = call_holds_on m0 m1 none same hashes b setting xs h m2 asks its_class its_given answer ran

    answered_met : (answer : KeyAnswer) → Stopped (Ok (stop.Answered answer)) → HoldsWith (stored_as (changed_by answer) (pair_in m2 (words_of answer).met))
    answered_met answer ran = subst HoldsWith (sym (stored_met m2 answer)) (answered answer ran)

    pub refused : (result : Result Stop Fault) (fault : Fault) → result ≡ Err fault → Stopped result → HoldsWith []
    refused result fault is ran = refused_holds_on m0 m1 none same hashes b setting xs h m2 asks its_class its_given fault (subst Stopped is ran)

    -- by what it has done
    module _ {E : Type 0} (fault_of : E → Fault) where
      ends : (r : Result KeyAnswer E) → Stopped (stop_by fault_of r) → HoldsWith (stored_in (ended_by r) (pair_in m2 (words_of_end r).met))
      ends (Ok answer) ran = answered_met answer ran
      ends (Err e) ran = refused (Err (fault_of e)) (fault_of e) refl ran

      pub change_holds_on : (r : Result KeyAnswer E) → Stopped (stop_by fault_of r) → (last : Last) → last ≡ words_of_end r → (d : Result Change E) → d ≡ ended_by r → HoldsWith (stored_in d (pair_in m2 last.met))
      change_holds_on r ran last words d is =
          subst (λ (l : Last). HoldsWith (stored_in d (pair_in m2 l.met))) (sym words)
          (subst (λ (z : Result Change E). HoldsWith (stored_in z (pair_in m2 (words_of_end r).met))) (sym is) (ends r ran))

    -- told to change nothing, it has stored nothing
    aborted : (keys : K → Bool) (its : Option K) (answer : KeyAnswer) → AnswersAs same (hashes b.now) setting m2 keys xs its (λ about said. said ≡ reply.Abort) answer → Stopped (Ok (stop.Answered answer)) → HoldsWith []
    aborted keys its answers.Absent a ran = answered answers.Absent ran
    aborted keys its (answers.Found word) a ran = answered (answers.Found word) ran
    aborted keys its (answers.Stored word) a ran = absurd (let f = a.3 in cc f)
    aborted keys its (answers.Replaced old new) a ran = absurd (let f = a.4 in cc f)
    aborted keys its (answers.Removed word) a ran = answered (answers.Removed word) ran

    module _ {T : Type 0} (key : K) (Gives : Option (K × V) → Operation V T → Type 0) where
      computes : (r : Result (Computed T) (RefusedKey K)) → ComputesTo same (hashes b.now) setting m2 key xs Gives r → Stopped (computing_stop r)
          → HoldsWith (stored_computing (computing_ended_by r) (pair_in m2 (words_of_computing r).met))
      computes (Ok (computed.Changed answer)) e ran = answered_met answer ran
      computes (Ok (computed.Aborted end answer)) e ran = aborted (same key) (Some key) answer e.1 ran
      computes (Err r) e ran = refused (Err r.fault) r.fault refl ran

      pub computing_holds_on : (r : Result (Computed T) (RefusedKey K)) → ComputesTo same (hashes b.now) setting m2 key xs Gives r → Stopped (computing_stop r)
          → (last : Last) → last ≡ words_of_computing r → (d : Result (ComputedChange T) (RefusedKey K)) → d ≡ computing_ended_by r → HoldsWith (stored_computing d (pair_in m2 last.met))
      computing_holds_on r e ran last words d is =
          subst (λ (l : Last). HoldsWith (stored_computing d (pair_in m2 l.met))) (sym words)
          (subst (λ (z : Result (ComputedChange T) (RefusedKey K)). HoldsWith (stored_computing z (pair_in m2 (words_of_computing r).met))) (sym is) (computes r e ran))

    -- without a key it stores nothing
    keyless : (keys : K → Bool) (Told : Option (K × V) → MachineReply V → Type 0) (answer : KeyAnswer) → AnswersAs same (hashes b.now) setting m2 keys xs None Told answer → Stopped (Ok (stop.Answered answer)) → HoldsWith []
    keyless keys Told answers.Absent a ran = answered answers.Absent ran
    keyless keys Told (answers.Found word) a ran = answered (answers.Found word) ran
    keyless keys Told (answers.Stored word) a ran = absurd (let f = a.2 in cc f)
    keyless keys Told (answers.Replaced old new) a ran = absurd (let f = a.3 in cc f)
    keyless keys Told (answers.Removed word) a ran = answered (answers.Removed word) ran

    pub chosen_holds_on : (keys : K → Bool) (Told : Option (K × V) → MachineReply V → Type 0) (r : Result KeyAnswer Fault) → EndsAs same (hashes b.now) setting m2 keys xs None Told r → Stopped (stop_by (λ fault. fault) r) → HoldsWith []
    chosen_holds_on keys Told (Ok answer) e ran = keyless keys Told answer e ran
    chosen_holds_on keys Told (Err fault) e ran = refused (Err fault) fault refl ran

    pub removal_holds_on : (keys : K → Bool) (s : Stop) → EndsBy same (hashes b.now) setting m2 removes None keys xs (Ok s) → Stopped (Ok s) → HoldsWith []
    removal_holds_on keys (stop.Answered answers.Absent) e ran = answered answers.Absent ran
    removal_holds_on keys (stop.Answered (answers.Removed word)) e ran = answered (answers.Removed word) ran
    removal_holds_on keys (stop.Answered (answers.Found word)) e ran = answered (answers.Found word) ran
    removal_holds_on keys (stop.Answered (answers.Stored word)) e ran = absurd (elim e.0 as (λ _. ⊥) [ inl p ↦ cc p | inr p ↦ cc p ])
    removal_holds_on keys (stop.Answered (answers.Replaced old new)) e ran = absurd (elim e.0 as (λ _. ⊥) [ inl p ↦ cc p | inr p ↦ cc p.0 ])
    removal_holds_on keys (stop.Asks None) e ran = absurd (cc e)
    removal_holds_on keys (stop.Asks (Some word)) e ran = absurd (cc e)

    -- the pair that was given is the one that was stored
    module _ (key : K) (value : V) where
      abbrev given : Option (Node K V)
      given = Some (node.Pair key value)

      with_given : (word : ℕ) (j : K) (v : V) → given ≡ Some (node.Pair j v) → value_at m2 (block_in word) ≡ Some (node.Pair j v) → HoldsWith (pair_at_word m2 (Some word)) → HoldsWith ((key, value) ∷ [])
      with_given word j v e there holds = subst (λ (o : Option (Node K V)). HoldsWith (with_pair o [])) (there ∙ sym e) holds

      inserted : (s : Stop) → EndsBy same (hashes b.now) setting m2 inserts given (same key) xs (Ok s) → Stopped (Ok s) → HoldsWith ((key, value) ∷ [])
      inserted (stop.Answered (answers.Stored word)) e ran = let a = e.1 in with_given word a.1 a.2 a.3 a.4 (answered (answers.Stored word) ran)
      inserted (stop.Answered (answers.Replaced old new)) e ran = let a = e.1 in with_given new a.3 a.4 a.5 a.6 (answered (answers.Replaced old new) ran)
      inserted (stop.Answered answers.Absent) e ran = absurd (elim e.0 as (λ _. ⊥) [ inl p ↦ cc p | inr p ↦ cc p.0 ])
      inserted (stop.Answered (answers.Found word)) e ran = absurd (elim e.0 as (λ _. ⊥) [ inl p ↦ cc p | inr p ↦ cc p.0 ])
      inserted (stop.Answered (answers.Removed word)) e ran = absurd (elim e.0 as (λ _. ⊥) [ inl p ↦ cc p | inr p ↦ cc p.0 ])
      inserted (stop.Asks None) e ran = absurd (cc e)
      inserted (stop.Asks (Some word)) e ran = absurd (cc e)

      pub insertion_holds_on : (result : Result Stop Fault) → EndsBy same (hashes b.now) setting m2 inserts given (same key) xs result → Stopped result → (s : Stop) → result ≡ Ok s → HoldsWith ((key, value) ∷ [])
      insertion_holds_on result e ran s is = inserted s (subst (EndsBy same (hashes b.now) setting m2 inserts given (same key) xs) is e) (subst Stopped is ran)

      tried : (s : Stop) → EndsBy same (hashes b.now) setting m2 tries_to_insert given (same key) xs (Ok s) → Stopped (Ok s) → (r : Result Unit V) → OnOk r (has_found s ≡ false) → OnErr r (has_found s ≡ true)
          → HoldsWith (if_tried {E = Fault} (Ok r) (key, value))
      tried (stop.Answered (answers.Stored word)) e ran (Ok done) stored found = let a = e.1 in with_given word a.1 a.2 a.3 a.4 (answered (answers.Stored word) ran)
      tried (stop.Answered (answers.Stored word)) e ran (Err back) stored found = absurd (cc found)
      tried (stop.Answered (answers.Found word)) e ran (Ok done) stored found = absurd (cc stored)
      tried (stop.Answered (answers.Found word)) e ran (Err back) stored found = answered (answers.Found word) ran
      tried (stop.Answered (answers.Replaced old new)) e ran r stored found = absurd (elim e.0 as (λ _. ⊥) [ inl p ↦ cc p | inr p ↦ cc p.0 ])
      tried (stop.Answered answers.Absent) e ran r stored found = absurd (elim e.0 as (λ _. ⊥) [ inl p ↦ cc p | inr p ↦ cc p.0 ])
      tried (stop.Answered (answers.Removed word)) e ran r stored found = absurd (elim e.0 as (λ _. ⊥) [ inl p ↦ cc p | inr p ↦ cc p.0 ])
      tried (stop.Asks None) e ran r stored found = absurd (cc e)
      tried (stop.Asks (Some word)) e ran r stored found = absurd (cc e)

      pub try_holds_on : (result : Result Stop Fault) → EndsBy same (hashes b.now) setting m2 tries_to_insert given (same key) xs result → Stopped result → (s : Stop) → result ≡ Ok s
          → (r : Result Unit V) → OnOk r (has_found s ≡ false) → OnErr r (has_found s ≡ true) → HoldsWith (if_tried {E = Fault} (Ok r) (key, value))
      try_holds_on result e ran s is = tried s (subst (EndsBy same (hashes b.now) setting m2 tries_to_insert given (same key) xs) is e) (subst Stopped is ran)
