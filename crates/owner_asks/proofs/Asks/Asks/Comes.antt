-- What a call comes to that goes by closures, from its beginning on.
use Rattle.std.specs.Prelude.{◌≡◌, ◌≢◌, ℕ, Bool, List, Option, Some, None, Result, Ok, Err}
use Rattle.std.proofs.Common.{◌∙◌, ap, subst, inl, inr}
use denote.Ref.{Bor}
use Rattle.seize_words.specs.OneMemory.Mem.{Mem}
use Rattle.seize_words.specs.declared.fault.Fault.{Fault}
use Rattle.seize_words.specs.declared.fault.Fault.TheVariants.{Capacity}
use Rattle.map_tables.specs.declared.node.Node.{Node}
use Rattle.map_tables.specs.declared.setting.Setting.{Setting}
use Rattle.papaya_raw.specs.declared.machines.answer.KeyAnswer.{KeyAnswer}
use Rattle.papaya_raw.specs.declared.machines.answer.KeyAnswer.TheVariants as answers
use Rattle.papaya_raw.specs.declared.machines.answer.Missing.TheVariants as missing
use Rattle.papaya_raw.specs.declared.machines.answer.There.TheVariants as there
use Rattle.papaya_raw.specs.declared.machines.asking.MachineReply.{MachineReply}
use Rattle.papaya_raw.specs.declared.machines.asking.MachineReply.TheVariants as reply
use Rattle.owner_calls.specs.Given.CallersKind.{Kind}
use Rattle.owner_calls.specs.Given.LateFaults.{IsRoom}
use Rattle.owner_calls.specs.Given.ShownChain.{CannotGrowIn}
use Rattle.owner_asks.specs.Asks.Asking.{meant, AnswersAs, RefusedAs, EndsAs, Pauses, AsksOf, StartsAs, RepliedThis, HasKeyBack}
use Rattle.owner_asks.specs.Asks.Closures.{HasOutcome, HasOutcomeWith}
use Rattle.owner_calls.specs.Owned.Owned.{Holds, IsWordOf, found_by}
use Rattle.owner_calls.specs.declared.machines.OnKey.{OnKey}
use Rattle.owner_calls.specs.declared.machines.Stop.{Stop}
use Rattle.owner_calls.specs.declared.machines.Stop.TheVariants as stop
use Rattle.seize_words.specs.declared.refused.RefusedKey.{RefusedKey}
use Rattle.seize_words.specs.declared.refused.Refused.{Refused}
use Rattle.owner_asks.proofs.Asks.Asks.Calls.{answers_as, refused_as, unasked_as, told_as}

module _ {K V Q S : Type 0} (asks : Q → K → Bool) (same : K → K → Bool) (hashes : S → K → ℕ) (b : Bor S) (setting : Setting) (kind : Kind) (its : Option K) (keys : K → Bool) (xs : List (K × V)) (x : OnKey K V Q S)
    (m : Mem (Node K V)) (result : Result Stop Fault) (h : StartsAs asks same hashes setting kind its keys xs b x m result) where
  -- it has answered, and asked nothing
  pub comes_answered : (Meant : Option (K × V) → MachineReply V → Type 0) → (kind.absent ≢ missing.Asks → Meant None reply.Abort) → ((y : K × V) → kind.present ≢ there.Asks → Meant (Some y) reply.Abort)
      → (s : Stop) (answer : KeyAnswer) → result ≡ Ok s → s ≡ stop.Answered answer → AnswersAs same (hashes b.now) setting m keys xs its Meant answer
  comes_answered Meant none some s answer e f =
      answers_as same (hashes b.now) setting m keys xs its _ Meant (unasked_as Meant kind none some) answer
      (subst (StartsAs asks same hashes setting kind its keys xs b x m) (e ∙ ap (λ (t : Stop). Ok t) f) h)

  -- it asks
  pub comes_asking : (s : Stop) (a asked : Option ℕ) → result ≡ Ok s → s ≡ stop.Asks a → a ≡ asked
      → Pauses asks same hashes setting kind its keys xs x m asked × (x.hasher ≡ b) × IsWordOf keys m xs asked × AsksOf kind asked
  comes_asking s a asked e f g = subst (StartsAs asks same hashes setting kind its keys xs b x m) (e ∙ ap (λ (t : Stop). Ok t) (f ∙ ap stop.Asks g)) h

  -- it was refused
  pub comes_refused : (fault : Fault) → result ≡ Err fault → IsRoom fault × Holds same (hashes b.now) setting m xs × ((k : K) → its ≡ Some k → HasKeyBack x k) × (fault ≡ Capacity → CannotGrowIn m setting)
  comes_refused fault e = subst (StartsAs asks same hashes setting kind its keys xs b x m) e h

-- it was told this, and has come to its end
module _ {K V S : Type 0} (same : K → K → Bool) (hashes : S → K → ℕ) (b c : Bor S) (lent : c ≡ b) (setting : Setting) (xs : List (K × V)) (m : Mem (Node K V))
    (Meant : Option (K × V) → MachineReply V → Type 0) (said : MachineReply V) (about : Option (K × V)) (is : Meant about (meant said)) where
  -- with whatever stands for its keys
  pub ends_told : (keys : K → Bool) (its : Option K) → found_by keys xs ≡ about → (result : Result KeyAnswer Fault) → EndsAs same (hashes c.now) setting m keys xs its (RepliedThis keys xs said) result
      → EndsAs same (hashes b.now) setting m keys xs its Meant result
  ends_told keys its found result e =
      by result (subst (λ (z : Bor S). EndsAs same (hashes z.now) setting m keys xs its (RepliedThis keys xs said) result) lent e)
    where
      by : (result : Result KeyAnswer Fault) → EndsAs same (hashes b.now) setting m keys xs its (RepliedThis keys xs said) result → EndsAs same (hashes b.now) setting m keys xs its Meant result
      by (Ok answer) a = answers_as same (hashes b.now) setting m keys xs its (RepliedThis keys xs said) Meant (told_as Meant keys xs said about found is) answer a
      by (Err fault) r = refused_as same (hashes b.now) setting m keys xs its (RepliedThis keys xs said) Meant (told_as Meant keys xs said about found is) fault r

  module _ (key : K) (found : found_by (same key) xs ≡ about) where
    pub comes_told : (result : Result KeyAnswer (RefusedKey K)) → HasOutcome same (hashes c.now) setting m key xs (RepliedThis (same key) xs said) result → HasOutcome same (hashes b.now) setting m key xs Meant result
    comes_told result e = by result (subst (λ (z : Bor S). HasOutcome same (hashes z.now) setting m key xs (RepliedThis (same key) xs said) result) lent e)
      where
        by : (result : Result KeyAnswer (RefusedKey K)) → HasOutcome same (hashes b.now) setting m key xs (RepliedThis (same key) xs said) result → HasOutcome same (hashes b.now) setting m key xs Meant result
        by (Ok answer) a = answers_as same (hashes b.now) setting m (same key) xs (Some key) (RepliedThis (same key) xs said) Meant (told_as Meant (same key) xs said about found is) answer a
        by (Err r) e = (refused_as same (hashes b.now) setting m (same key) xs (Some key) (RepliedThis (same key) xs said) Meant (told_as Meant (same key) xs said about found is) r.fault e.0, e.1)

    pub comes_with : (value : V) (result : Result KeyAnswer (Refused K V)) → HasOutcomeWith same (hashes c.now) setting m key xs value (RepliedThis (same key) xs said) result
        → HasOutcomeWith same (hashes b.now) setting m key xs value Meant result
    comes_with value result e = by result (subst (λ (z : Bor S). HasOutcomeWith same (hashes z.now) setting m key xs value (RepliedThis (same key) xs said) result) lent e)
      where
        by : (result : Result KeyAnswer (Refused K V)) → HasOutcomeWith same (hashes b.now) setting m key xs value (RepliedThis (same key) xs said) result → HasOutcomeWith same (hashes b.now) setting m key xs value Meant result
        by (Ok answer) a = answers_as same (hashes b.now) setting m (same key) xs (Some key) (RepliedThis (same key) xs said) Meant (told_as Meant (same key) xs said about found is) answer a
        by (Err r) e = (refused_as same (hashes b.now) setting m (same key) xs (Some key) (RepliedThis (same key) xs said) Meant (told_as Meant (same key) xs said about found is) r.fault e.0, e.1, e.2)

-- nothing is answered by what it was never told
pub never_answers : {K V : Type 0} (same : K → K → Bool) (hash : K → ℕ) (setting : Setting) (m : Mem (Node K V)) (keys : K → Bool) (xs : List (K × V)) (its : Option K) (answer : KeyAnswer)
    → AnswersAs same hash setting m keys xs its (λ about said. ⊥) answer → ⊥
never_answers same hash setting m keys xs its answers.Absent a = a.0
never_answers same hash setting m keys xs its (answers.Found word) a = a.1
never_answers same hash setting m keys xs its (answers.Stored word) a = a.3
never_answers same hash setting m keys xs its (answers.Replaced old new) a = a.4
never_answers same hash setting m keys xs its (answers.Removed word) a = a.1

-- it was told to abort
module _ {K V S : Type 0} (same : K → K → Bool) (hashes : S → K → ℕ) (b c : Bor S) (lent : c ≡ b) (setting : Setting) (xs : List (K × V)) (m : Mem (Node K V)) (key : K)
    (result : Result KeyAnswer (RefusedKey K)) (e : HasOutcome same (hashes c.now) setting m key xs (RepliedThis (same key) xs reply.Abort) result) where
  as_lent : HasOutcome same (hashes b.now) setting m key xs (RepliedThis (same key) xs reply.Abort) result
  as_lent = subst (λ (z : Bor S). HasOutcome same (hashes z.now) setting m key xs (RepliedThis (same key) xs reply.Abort) result) lent e

  pub aborted_answers : (answer : KeyAnswer) → result ≡ Ok answer → AnswersAs same (hashes b.now) setting m (same key) xs (Some key) (λ about said. said ≡ reply.Abort) answer
  aborted_answers answer is =
      answers_as same (hashes b.now) setting m (same key) xs (Some key) (RepliedThis (same key) xs reply.Abort) (λ about said. said ≡ reply.Abort) (λ about said told. told.1) answer
      (subst (HasOutcome same (hashes b.now) setting m key xs (RepliedThis (same key) xs reply.Abort)) is as_lent)

  pub aborted_refused : (r : RefusedKey K) → result ≡ Err r → (Meant : Option (K × V) → MachineReply V → Type 0) → RefusedAs same (hashes b.now) setting m (same key) xs (Some key) Meant r.fault × (r.key ≡ key)
  aborted_refused r is Meant =
      let f = subst (HasOutcome same (hashes b.now) setting m key xs (RepliedThis (same key) xs reply.Abort)) is as_lent in
      (refused_as same (hashes b.now) setting m (same key) xs (Some key) (λ about said. ⊥) Meant (λ about said never. absurd never) r.fault (by r.fault f.0), f.1)
    where
      by : (fault : Fault) → RefusedAs same (hashes b.now) setting m (same key) xs (Some key) (RepliedThis (same key) xs reply.Abort) fault → RefusedAs same (hashes b.now) setting m (same key) xs (Some key) (λ about said. ⊥) fault
      by fault (inl room, holds, ends) = (inl room, holds, ends)
      by fault (inr (nothing, told, none), holds, ends) = absurd (let g = told.1 in cc g)
