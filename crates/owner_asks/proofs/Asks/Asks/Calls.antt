-- What a call comes to, by what it was told, in other words.
use Rattle.std.specs.Prelude.{◌≡◌, ◌≢◌, ℕ, Bool, true, false, List, Option, Some, None, if◌then◌else◌}
use Rattle.std.proofs.Common.{sym, ◌∙◌, subst, inl, inr}
use Rattle.seize_words.specs.OneMemory.Mem.{Mem}
use Rattle.seize_words.specs.declared.fault.Fault.{Fault}
use Rattle.map_tables.specs.declared.node.Node.{Node}
use Rattle.map_tables.specs.declared.setting.Setting.{Setting}
use Rattle.papaya_raw.specs.declared.machines.answer.KeyAnswer.{KeyAnswer}
use Rattle.papaya_raw.specs.declared.machines.answer.KeyAnswer.TheVariants as answers
use Rattle.papaya_raw.specs.declared.machines.answer.Missing.TheVariants as missing
use Rattle.papaya_raw.specs.declared.machines.answer.There.TheVariants as there
use Rattle.papaya_raw.specs.declared.machines.asking.MachineReply.{MachineReply}
use Rattle.papaya_raw.specs.declared.machines.asking.MachineReply.TheVariants as reply
use Rattle.papaya_raw.specs.declared.machines.asking.Takes.TheVariants as takes
use Rattle.owner_calls.specs.Given.CallersKind.{Kind}
use Rattle.owner_asks.specs.Asks.Asking.{meant, IsTaken, AnswersAs, RefusedAs, Unasked, RepliedThis}
use Rattle.owner_asks.specs.Asks.Closures.{Removing}
use Rattle.owner_calls.specs.Owned.Owned.{NamesAPair, IsWordOf, found_by}

module _ {K V : Type 0} (same : K → K → Bool) (hash : K → ℕ) (setting : Setting) (m : Mem (Node K V)) (keys : K → Bool) (xs : List (K × V)) (its : Option K)
    (Told Meant : Option (K × V) → MachineReply V → Type 0) (turn : (about : Option (K × V)) (said : MachineReply V) → Told about said → Meant about said) where
  pub answers_as : (answer : KeyAnswer) → AnswersAs same hash setting m keys xs its Told answer → AnswersAs same hash setting m keys xs its Meant answer
  answers_as answers.Absent a = (turn None reply.Abort a.0, a.1, a.2)
  answers_as (answers.Found word) a = (a.0, turn (Some a.0) reply.Abort a.1, a.2, a.3, a.4)
  answers_as (answers.Stored word) a = (a.0, a.1, a.2, turn None (reply.Insert a.1) a.3, a.4, a.5, a.6)
  answers_as (answers.Replaced old new) a = (a.0, a.1, a.2, a.3, turn (Some a.0) (reply.Insert a.2) a.4, a.5, a.6, a.7, a.8, a.9)
  answers_as (answers.Removed word) a = (a.0, turn (Some a.0) reply.Remove a.1, a.2, a.3, a.4, a.5)

  pub refused_as : (fault : Fault) → RefusedAs same hash setting m keys xs its Told fault → RefusedAs same hash setting m keys xs its Meant fault
  refused_as fault (inl room, holds, ends) = (inl room, holds, ends)
  refused_as fault (inr (is, said, none), holds, ends) = (inr (is, turn None reply.Remove said, none), holds, ends)

module _ {K V : Type 0} (Meant : Option (K × V) → MachineReply V → Type 0) where
  -- where it does not ask
  pub unasked_as : (kind : Kind) → (kind.absent ≢ missing.Asks → Meant None reply.Abort) → ((x : K × V) → kind.present ≢ there.Asks → Meant (Some x) reply.Abort)
      → (about : Option (K × V)) (said : MachineReply V) → Unasked kind about said → Meant about said
  unasked_as kind none some None reply.Abort h = none h
  unasked_as kind none some (Some x) reply.Abort h = some x h
  unasked_as kind none some None (reply.Insert v) h = absurd h
  unasked_as kind none some None reply.Remove h = absurd h
  unasked_as kind none some None reply.Yes h = absurd h
  unasked_as kind none some None reply.No h = absurd h
  unasked_as kind none some (Some x) (reply.Insert v) h = absurd h
  unasked_as kind none some (Some x) reply.Remove h = absurd h
  unasked_as kind none some (Some x) reply.Yes h = absurd h
  unasked_as kind none some (Some x) reply.No h = absurd h

  -- where it was told this
  pub told_as : (keys : K → Bool) (xs : List (K × V)) (said : MachineReply V) (about : Option (K × V)) → found_by keys xs ≡ about → Meant about (meant said)
      → (other : Option (K × V)) (meaning : MachineReply V) → RepliedThis keys xs said other meaning → Meant other meaning
  told_as keys xs said about found is other meaning (same_about, same_meaning) =
      subst (λ (o : Option (K × V)). Meant o meaning) (sym (same_about ∙ found)) (subst (Meant about) (sym same_meaning) is)

-- a pair stands in the block of a word that it asks about
pub word_names : {K V : Type 0} (keys : K → Bool) (m : Mem (Node K V)) (xs : List (K × V)) (word : ℕ) → IsWordOf keys m xs (Some word) → NamesAPair m word
word_names keys m xs word is = (is.0, is.1, is.2)

-- a choice, as a reply
module _ {V : Type 0} where
  pub chosen_taken : (word : ℕ) (yes : Bool) (said : MachineReply V) → said ≡ (if yes then reply.Yes else reply.No) → IsTaken takes.Choices (Some word) said
  chosen_taken word true said e = subst (IsTaken takes.Choices (Some word)) (sym e) tt
  chosen_taken word false said e = subst (IsTaken takes.Choices (Some word)) (sym e) tt

  pub chosen_means : {K : Type 0} (Tests : K × V → Bool → Type 0) (x : K × V) (yes : Bool) (said : MachineReply V) → said ≡ (if yes then reply.Yes else reply.No) → Tests x yes → Removing Tests (Some x) (meant said)
  chosen_means Tests x true said e is = subst (λ (r : MachineReply V). Removing Tests (Some x) (meant r)) (sym e) is
  chosen_means Tests x false said e is = subst (λ (r : MachineReply V). Removing Tests (Some x) (meant r)) (sym e) is
