-- What a step of a call on one key answers is told as the call means, where the value is kept that is to be told back; and what it asks, by the number of the pair about which it asks.
use Rattle.std.specs.Prelude.{◌≡◌, ◌⊎◌, ℕ, true, false, List, Option, Some, None, option_map}
use Rattle.std.proofs.Common.{refl, ap, sym, subst, ◌∙◌, inl, inr}
use Rattle.papaya_raw.specs.Given.TablesDeclared.node.Node.{Node}
use Rattle.papaya_raw.specs.declared.machines.answer.KeyAnswer.{KeyAnswer}
use Rattle.papaya_raw.specs.declared.machines.answer.KeyAnswer.TheVariants as says
use Rattle.papaya_raw.specs.declared.machines.progress.Answer.TheVariants as answers
use Rattle.papaya_raw.specs.declared.machines.progress.Progress.{Progress}
use Rattle.papaya_raw.specs.declared.machines.progress.Progress.TheVariants as progress
use Rattle.run_schedules.specs.declared.call.Response.{Response}
use Rattle.run_schedules.specs.declared.call.Response.TheVariants as answer
use Rattle.run_schedules.specs.declared.call.Call.{Call}
use Rattle.run_schedules.specs.declared.call.Call.TheVariants.{Clear, Len, On, Reserve, Retain, Walk}
use Rattle.run_schedules.specs.declared.call.OneKey.{OneKey}
use Rattle.run_schedules.specs.declared.call.OneKey.TheVariants.{Get, GetKeyValue, ContainsKey, Insert, TryInsert, TryInsertWith, GetOrInsert, GetOrInsertWith, Update, UpdateOrInsert, UpdateOrInsertWith, Compute, Remove, RemoveEntry, RemoveIf}
use Rattle.run_schedules.specs.declared.call.Reply.{Reply}
use Rattle.run_schedules.specs.declared.call.Reply.TheVariants.{Gives, Removes, Aborts, Decides}
use Rattle.run_schedules.specs.declared.outcome.Outcome.{Outcome}
use Rattle.run_schedules.specs.declared.outcome.Outcome.TheVariants as outcome
use Rattle.run_schedules.specs.Schedules.Sequential.{Answers, Leaves, Puts, Takes, means, puts_reply}
use Rattle.run_schedules.specs.Schedules.Views.{reply_to}
use Rattle.run_finds.specs.Given.EffectsKnown.{Known}
use Rattle.run_finds.specs.Given.HistoriesAnswers.{IsAnsweredAs, IsAnsweredDone, NamesPair}
use Rattle.run_kept.specs.Given.HistoriesEvents.{HasOutcome}
use Rattle.run_kept.specs.Given.HistoriesInEvent.{HasOutcomeSo}
use Rattle.run_kept.specs.Given.HistoriesOtherMidsts.{AsksAsSaid}
use Rattle.run_finds.specs.Given.NamedSeen.{kind_of, kind_on}
use Rattle.run_finds.specs.Given.NamedTelling.{aborted_with, answer_on, number_by, number_in, occupied_by}
use Rattle.run_sweeps.specs.Says.{outcome_of}
use Rattle.run_finds.specs.Given.EffectsDeclared.role.Role.TheVariants as role
use Rattle.run_kept.specs.Given.HistoriesAsking.{IsQuestionAsked}

-- a question that has words is told by the number of its pair
pub told_by : (by : Known) (about question : Option ℕ) → IsQuestionAsked by about question → IsQuestionAsked by about (option_map (number_by by) about)
told_by by None None told = tt
told_by by None (Some n) told = absurd told
told_by by (Some word) None told = absurd told
told_by by (Some word) (Some n) told = told ∙ ap role.Pair (sym (ap number_in told))

-- what a retaining asks about is the pair of its word
pub about_pair : (known : Known) (word : ℕ) (question : Option ℕ) → IsQuestionAsked known (Some word) question → (q : ℕ) × (question ≡ Some q) × NamesPair known word q
about_pair known word (Some q) told = (q, refl, told)
about_pair known word None told = absurd told

-- what is stored is the reply's value, and else nothing is meant
module _ {V : Type 0} where
  puts_is : (reply : Option (Reply V)) (b a : Response V) (v : V) → puts_reply reply b ≡ Answers a (Puts v) → a ≡ b
  puts_is None b a v e = absurd (cc e)
  puts_is (Some (Gives w)) b a v e = cc e
  puts_is (Some Removes) b a v e = absurd (cc e)
  puts_is (Some (Aborts w)) b a v e = absurd (cc e)
  puts_is (Some (Decides q)) b a v e = absurd (cc e)

  never_leaves : (reply : Option (Reply V)) (b a : Response V) → puts_reply reply b ≡ Answers a Leaves → ⊥
  never_leaves None b a e = cc e
  never_leaves (Some (Gives w)) b a e = cc e
  never_leaves (Some Removes) b a e = cc e
  never_leaves (Some (Aborts w)) b a e = cc e
  never_leaves (Some (Decides q)) b a e = cc e

  never_takes : (reply : Option (Reply V)) (b a : Response V) → puts_reply reply b ≡ Answers a Takes → ⊥
  never_takes None b a e = cc e
  never_takes (Some (Gives w)) b a e = cc e
  never_takes (Some Removes) b a e = cc e
  never_takes (Some (Aborts w)) b a e = cc e
  never_takes (Some (Decides q)) b a e = cc e

-- the number of a pair by its word
pub number_is : (by : Known) (word n : ℕ) → NamesPair by word n → number_by by word ≡ n
number_is by word n names = ap number_in names

module _ {V : Type 0} (by : Known) (word n : ℕ) (names : NamesPair by word n) (a : Response V) where
  found_it : answer.Found n ≡ a → a ≡ answer.Found (number_by by word)
  found_it is = sym is ∙ ap answer.Found (sym (number_is by word n names))

  kept_it : answer.Kept n ≡ a → a ≡ answer.Kept (number_by by word)
  kept_it is = sym is ∙ ap answer.Kept (sym (number_is by word n names))

  stored_it : answer.Stored n ≡ a → a ≡ answer.Stored (number_by by word)
  stored_it is = sym is ∙ ap answer.Stored (sym (number_is by word n names))

-- and a value that the caller keeps is told back
module _ {V : Type 0} (value : Option V) (w : V) (a : Response V) (keeps : value ≡ Some w) where
  aborts : answer.Aborted w ≡ a → a ≡ aborted_with value
  aborts is = sym is ∙ ap (λ (x : Option V). aborted_with x) (sym keeps)

  occupied : (number : ℕ) → answer.Occupied number w ≡ a → a ≡ occupied_by number value
  occupied number is = sym is ∙ ap (λ (x : Option V). occupied_by number x) (sym keeps)

module _ {K V : Type 0} (by : Known) (value : Option V) (replies : List (Option ℕ × Reply V)) where
  -- what is told of an answer of a call on one key
  abbrev told : OneKey K V → KeyAnswer → Response V
  told one a = answer_on by (kind_on one) value a

  -- the value that it tells back is the one that was given: by `try_insert` its own, and by `compute` the one with which it was told to abort
  abbrev pub Tells : OneKey K V → KeyAnswer → Type 0
  Tells (TryInsert k v) (says.Found word) = value ≡ Some v
  Tells (Compute k) it = (about : Option ℕ) (w : V) → reply_to about replies ≡ Some (Aborts w) → value ≡ Some w
  Tells one it = Unit {0}

  module _ (word n : ℕ) (names : NamesPair by word n) (a : Response V) where
    found_by : (reply : Option (Reply V)) → reply_to (Some n) replies ≡ reply → (one : OneKey K V) → means one reply (Some n) 0 ≡ Answers a Leaves → Tells one (says.Found word) → a ≡ told one (says.Found word)
    found_by reply is (Get k) e tells = found_it by word n names a (cc e)
    found_by reply is (GetKeyValue k) e tells = found_it by word n names a (cc e)
    found_by reply is (ContainsKey k) e tells = found_it by word n names a (cc e)
    found_by reply is (Insert k v) e tells = absurd (cc e)
    found_by reply is (TryInsert k v) e tells =
        occupied value v a tells (number_by by word) (ap (λ (x : ℕ). answer.Occupied x v) (number_is by word n names) ∙ (let f : answer.Occupied n v ≡ a = cc e in f))
    found_by reply is (TryInsertWith k) e tells = kept_it by word n names a (cc e)
    found_by reply is (GetOrInsert k v) e tells = found_it by word n names a (cc e)
    found_by reply is (GetOrInsertWith k) e tells = found_it by word n names a (cc e)
    found_by reply is (Update k) e tells = absurd (never_leaves reply (answer.Stored 0) a e)
    found_by reply is (UpdateOrInsert k v) e tells = absurd (never_leaves reply (answer.Stored 0) a e)
    found_by reply is (UpdateOrInsertWith k) e tells = absurd (never_leaves reply (answer.Stored 0) a e)
    found_by (Some (Aborts w)) is (Compute k) e tells = aborts value w a (tells (Some n) w is) (cc e)
    found_by (Some (Gives w)) is (Compute k) e tells = absurd (cc e)
    found_by (Some Removes) is (Compute k) e tells = absurd (cc e)
    found_by (Some (Decides q)) is (Compute k) e tells = absurd (cc e)
    found_by None is (Compute k) e tells = absurd (cc e)
    found_by reply is (Remove k) e tells = absurd (cc e)
    found_by reply is (RemoveEntry k) e tells = absurd (cc e)
    found_by (Some (Decides false)) is (RemoveIf k) e tells = kept_it by word n names a (cc e)
    found_by (Some (Decides true)) is (RemoveIf k) e tells = absurd (cc e)
    found_by (Some (Gives w)) is (RemoveIf k) e tells = absurd (cc e)
    found_by (Some Removes) is (RemoveIf k) e tells = absurd (cc e)
    found_by (Some (Aborts w)) is (RemoveIf k) e tells = absurd (cc e)
    found_by None is (RemoveIf k) e tells = absurd (cc e)

    stored_by : (v : V) (reply : Option (Reply V)) (one : OneKey K V) → means one reply None n ≡ Answers a (Puts v) → a ≡ told one (says.Stored word)
    stored_by v reply (Get k) e = absurd (cc e)
    stored_by v reply (GetKeyValue k) e = absurd (cc e)
    stored_by v reply (ContainsKey k) e = absurd (cc e)
    stored_by v reply (Insert k w) e = let f : answer.Absent ≡ a = cc e in sym f
    stored_by v reply (TryInsert k w) e = stored_it by word n names a (cc e)
    stored_by v reply (TryInsertWith k) e = stored_it by word n names a (sym (puts_is reply (answer.Stored n) a v e))
    stored_by v reply (GetOrInsert k w) e = stored_it by word n names a (cc e)
    stored_by v reply (GetOrInsertWith k) e = stored_it by word n names a (sym (puts_is reply (answer.Stored n) a v e))
    stored_by v reply (Update k) e = absurd (cc e)
    stored_by v reply (UpdateOrInsert k w) e = stored_it by word n names a (cc e)
    stored_by v reply (UpdateOrInsertWith k) e = stored_it by word n names a (sym (puts_is reply (answer.Stored n) a v e))
    stored_by v (Some (Gives w)) (Compute k) e = let f : answer.Inserted n ≡ a = cc e in sym f ∙ ap answer.Inserted (sym (number_is by word n names))
    stored_by v (Some Removes) (Compute k) e = absurd (cc e)
    stored_by v (Some (Aborts w)) (Compute k) e = absurd (cc e)
    stored_by v (Some (Decides q)) (Compute k) e = absurd (cc e)
    stored_by v None (Compute k) e = absurd (cc e)
    stored_by v reply (Remove k) e = absurd (cc e)
    stored_by v reply (RemoveEntry k) e = absurd (cc e)
    stored_by v reply (RemoveIf k) e = absurd (cc e)

    removed_by : (reply : Option (Reply V)) (one : OneKey K V) → means one reply (Some n) 0 ≡ Answers a Takes → a ≡ told one (says.Removed word)
    removed_by reply (Get k) e = absurd (cc e)
    removed_by reply (GetKeyValue k) e = absurd (cc e)
    removed_by reply (ContainsKey k) e = absurd (cc e)
    removed_by reply (Insert k v) e = absurd (cc e)
    removed_by reply (TryInsert k v) e = absurd (cc e)
    removed_by reply (TryInsertWith k) e = absurd (cc e)
    removed_by reply (GetOrInsert k v) e = absurd (cc e)
    removed_by reply (GetOrInsertWith k) e = absurd (cc e)
    removed_by reply (Update k) e = absurd (never_takes reply (answer.Stored 0) a e)
    removed_by reply (UpdateOrInsert k v) e = absurd (never_takes reply (answer.Stored 0) a e)
    removed_by reply (UpdateOrInsertWith k) e = absurd (never_takes reply (answer.Stored 0) a e)
    removed_by (Some Removes) (Compute k) e = let f : answer.Removed n ≡ a = cc e in sym f ∙ ap answer.Removed (sym (number_is by word n names))
    removed_by (Some (Gives w)) (Compute k) e = absurd (cc e)
    removed_by (Some (Aborts w)) (Compute k) e = absurd (cc e)
    removed_by (Some (Decides q)) (Compute k) e = absurd (cc e)
    removed_by None (Compute k) e = absurd (cc e)
    removed_by reply (Remove k) e = found_it by word n names a (cc e)
    removed_by reply (RemoveEntry k) e = found_it by word n names a (cc e)
    removed_by (Some (Decides true)) (RemoveIf k) e = found_it by word n names a (cc e)
    removed_by (Some (Decides false)) (RemoveIf k) e = absurd (cc e)
    removed_by (Some (Gives w)) (RemoveIf k) e = absurd (cc e)
    removed_by (Some Removes) (RemoveIf k) e = absurd (cc e)
    removed_by (Some (Aborts w)) (RemoveIf k) e = absurd (cc e)
    removed_by None (RemoveIf k) e = absurd (cc e)

  absent_by : (a : Response V) (reply : Option (Reply V)) → reply_to None replies ≡ reply → (one : OneKey K V) → means one reply None 0 ≡ Answers a Leaves → Tells one says.Absent → a ≡ told one says.Absent
  absent_by a reply is (Get k) e tells = let f : answer.Absent ≡ a = cc e in sym f
  absent_by a reply is (GetKeyValue k) e tells = let f : answer.Absent ≡ a = cc e in sym f
  absent_by a reply is (ContainsKey k) e tells = let f : answer.Absent ≡ a = cc e in sym f
  absent_by a reply is (Insert k v) e tells = absurd (cc e)
  absent_by a reply is (TryInsert k v) e tells = absurd (cc e)
  absent_by a reply is (TryInsertWith k) e tells = absurd (never_leaves reply (answer.Stored 0) a e)
  absent_by a reply is (GetOrInsert k v) e tells = absurd (cc e)
  absent_by a reply is (GetOrInsertWith k) e tells = absurd (never_leaves reply (answer.Stored 0) a e)
  absent_by a reply is (Update k) e tells = let f : answer.Absent ≡ a = cc e in sym f
  absent_by a reply is (UpdateOrInsert k v) e tells = absurd (cc e)
  absent_by a reply is (UpdateOrInsertWith k) e tells = absurd (never_leaves reply (answer.Stored 0) a e)
  absent_by a (Some (Aborts w)) is (Compute k) e tells = aborts value w a (tells None w is) (cc e)
  absent_by a (Some (Gives w)) is (Compute k) e tells = absurd (cc e)
  absent_by a (Some Removes) is (Compute k) e tells = absurd (cc e)
  absent_by a (Some (Decides q)) is (Compute k) e tells = absurd (cc e)
  absent_by a None is (Compute k) e tells = absurd (cc e)
  absent_by a reply is (Remove k) e tells = let f : answer.Absent ≡ a = cc e in sym f
  absent_by a reply is (RemoveEntry k) e tells = let f : answer.Absent ≡ a = cc e in sym f
  absent_by a reply is (RemoveIf k) e tells = let f : answer.Absent ≡ a = cc e in sym f

  module _ (old new o n : ℕ) (was : NamesPair by old o) (comes : NamesPair by new n) (a : Response V) (v : V) where
    replaced_by : (reply : Option (Reply V)) (one : OneKey K V) → means one reply (Some o) n ≡ Answers a (Puts v) → a ≡ told one (says.Replaced old new)
    replaced_by reply (Get k) e = absurd (cc e)
    replaced_by reply (GetKeyValue k) e = absurd (cc e)
    replaced_by reply (ContainsKey k) e = absurd (cc e)
    replaced_by reply (Insert k w) e = found_it by old o was a (cc e)
    replaced_by reply (TryInsert k w) e = absurd (cc e)
    replaced_by reply (TryInsertWith k) e = absurd (cc e)
    replaced_by reply (GetOrInsert k w) e = absurd (cc e)
    replaced_by reply (GetOrInsertWith k) e = absurd (cc e)
    replaced_by reply (Update k) e = stored_it by new n comes a (sym (puts_is reply (answer.Stored n) a v e))
    replaced_by reply (UpdateOrInsert k w) e = stored_it by new n comes a (sym (puts_is reply (answer.Stored n) a v e))
    replaced_by reply (UpdateOrInsertWith k) e = stored_it by new n comes a (sym (puts_is reply (answer.Stored n) a v e))
    replaced_by (Some (Gives w)) (Compute k) e =
        let f : answer.Updated o n ≡ a = cc e in
        sym f ∙ ap (λ (x : ℕ). answer.Updated x n) (sym (number_is by old o was)) ∙ ap (answer.Updated (number_by by old)) (sym (number_is by new n comes))
    replaced_by (Some Removes) (Compute k) e = absurd (cc e)
    replaced_by (Some (Aborts w)) (Compute k) e = absurd (cc e)
    replaced_by (Some (Decides q)) (Compute k) e = absurd (cc e)
    replaced_by None (Compute k) e = absurd (cc e)
    replaced_by reply (Remove k) e = absurd (cc e)
    replaced_by reply (RemoveEntry k) e = absurd (cc e)
    replaced_by (Some (Decides true)) (RemoveIf k) e = absurd (cc e)
    replaced_by (Some (Decides false)) (RemoveIf k) e = absurd (cc e)
    replaced_by (Some (Gives w)) (RemoveIf k) e = absurd (cc e)
    replaced_by (Some Removes) (RemoveIf k) e = absurd (cc e)
    replaced_by (Some (Aborts w)) (RemoveIf k) e = absurd (cc e)
    replaced_by None (RemoveIf k) e = absurd (cc e)

  -- so what the call means is what is told
  means_it : (one : OneKey K V) (it : KeyAnswer) (a : Response V) → IsAnsweredAs by one replies it a ⊎ IsAnsweredDone by one replies it a → Tells one it → a ≡ told one it
  means_it one (says.Found word) a (inl (n, names, so)) tells = found_by word n names a (reply_to (Some n) replies) refl one (so 0) tells
  means_it one (says.Found word) a (inr done) tells = absurd done
  means_it one says.Absent a (inl so) tells = absent_by a (reply_to None replies) refl one (so 0) tells
  means_it one says.Absent a (inr done) tells = absurd done
  means_it one (says.Stored word) a (inl so) tells = absurd so
  means_it one (says.Stored word) a (inr (n, names, v, is)) tells = stored_by word n names a v (reply_to None replies) one is
  means_it one (says.Replaced old new) a (inl so) tells = absurd so
  means_it one (says.Replaced old new) a (inr (o, n, was, comes, v, is)) tells = replaced_by old new o n was comes a v (reply_to (Some o) replies) one is
  means_it one (says.Removed word) a (inl so) tells = absurd so
  means_it one (says.Removed word) a (inr (o, names, so)) tells = removed_by word o names a (reply_to (Some o) replies) one (so 0)

  key_comes : (one : OneKey K V) (said : Progress (Node K V)) (o : Outcome V) → HasOutcome by one replies said o → ((it : KeyAnswer) → said ≡ progress.Done (answers.Key it) → Tells one it)
      → HasOutcome by one replies said (outcome_of by (kind_on one) value said)
  key_comes one (progress.Done (answers.Key it)) (outcome.Answered a) so tells =
      subst (λ (x : Response V). IsAnsweredAs by one replies it x ⊎ IsAnsweredDone by one replies it x) (means_it one it a so (tells it refl)) so
  key_comes one (progress.Asks about) (outcome.Asks question) so tells = told_by by about question so
  key_comes one progress.Goes o so tells = tt
  key_comes one progress.Waits o so tells = tt
  key_comes one (progress.Gave node) o so tells = tt
  key_comes one (progress.Unstored node) o so tells = tt
  key_comes one (progress.Refused fault) o so tells = refl
  key_comes one _ _ so tells = absurd so

  other_comes : (call : Call K V) (said : Progress (Node K V)) (o : Outcome V) → AsksAsSaid by said o → AsksAsSaid by said (outcome_of by (kind_of call) value said)
  other_comes call (progress.Asks about) (outcome.Asks question) so = told_by by about question so
  other_comes call progress.Goes o so = tt
  other_comes call progress.Waits o so = tt
  other_comes call (progress.Gave node) o so = tt
  other_comes call (progress.Unstored node) o so = tt
  other_comes call progress.Ready o so = tt
  other_comes call (progress.Pair word) o so = tt
  other_comes call (progress.Done it) o so = tt
  other_comes call (progress.Refused fault) o so = tt
  other_comes call (progress.Asks about) _ so = absurd so

  pub comes_so : (call : Call K V) (said : Progress (Node K V)) (o : Outcome V) → HasOutcomeSo by call replies said o
      → ((one : OneKey K V) → call ≡ On one → (it : KeyAnswer) → said ≡ progress.Done (answers.Key it) → Tells one it)
      → HasOutcomeSo by call replies said (outcome_of by (kind_of call) value said)
  comes_so (On one) said o so tells = key_comes one said o so (tells one refl)
  comes_so (Reserve more) said o so tells = other_comes (Reserve more) said o so
  comes_so Clear said o so tells = other_comes Clear said o so
  comes_so Retain said o so tells = other_comes Retain said o so
  comes_so Len said o so tells = other_comes Len said o so
  comes_so Walk said o so tells = other_comes Walk said o so
