-- A call on one key that has what it stores where its key is missing stores there, by the sequential specification.
use Rattle.std.specs.Prelude.{◌≡◌, ◌≢◌, ℕ, ◌<◌, true, List, Option, Some, None}
use Rattle.std.proofs.Common.{refl, ap, sym, ◌∙◌, inl, inr}
use Rattle.run_blocks.specs.Given.TablesDeclared.node.Node.{Node}
use Rattle.run_executor.specs.Given.RawDeclared.machines.answer.Missing.TheVariants as missing
use Rattle.run_executor.specs.Given.RawDeclared.machines.asking.MachineReply.TheVariants as reply
use Rattle.run_executor.specs.Given.RunsDeclared.call.OneKey.{OneKey}
use Rattle.run_executor.specs.Given.RunsDeclared.call.OneKey.TheVariants.{Get, GetKeyValue, ContainsKey, Insert, TryInsert, TryInsertWith, GetOrInsert, GetOrInsertWith, Update, UpdateOrInsert, UpdateOrInsertWith, Compute, Remove, RemoveEntry, RemoveIf}
use Rattle.run_executor.specs.Given.RunsDeclared.call.Reply.{Reply}
use Rattle.run_executor.specs.Given.RunsDeclared.call.Reply.TheVariants.{Gives}
use Rattle.run_executor.specs.Given.SchedulesSequential.{means, puts_any}
use Rattle.run_executor.specs.Given.SchedulesViews.{reply_to}
use Rattle.run_executor.specs.Given.CallersAsked.{Asked, last_reply}
use Rattle.run_executor.specs.Given.CallersKind.{Kind}
use Rattle.run_executor.specs.Given.CallersPairs.{Given, Begun, IsTold}
use Rattle.run_executor.specs.Given.HandsAsked.{given_by, AreReplies}
use Rattle.run_executor.proofs.Given.HandsReplies.{gave, told_as}
use Rattle.run_finds.proofs.Grows.Given.{StoresForNone, answers_none, HasGivenForNone, kind_same}

module _ {K V : Type 0} where
  -- where its key is missing
  abbrev StoresSo : OneKey K V → List (Option ℕ × Reply V) → Type 0
  StoresSo one replies = puts_any (means one (reply_to None replies) None 0) ≡ true

  begun_stores : (one : OneKey K V) (asked : List (Asked V)) (kind : Kind) (pair : Option (Node K V)) → ◌≡◌ {A = Given K V} (Begun kind pair) (given_by one asked) → kind.absent ≢ missing.Answers
      → (replies : List (Option ℕ × Reply V)) → StoresSo one replies
  begun_stores (Insert k v) asked kind pair e some replies = refl
  begun_stores (TryInsert k v) asked kind pair e some replies = refl
  begun_stores (GetOrInsert k v) asked kind pair e some replies = refl
  begun_stores (UpdateOrInsert k v) asked kind pair e some replies = refl
  begun_stores (Get k) asked kind pair e some replies = absurd (some (kind_same (Begun kind pair) (Get k) asked e))
  begun_stores (GetKeyValue k) asked kind pair e some replies = absurd (some (kind_same (Begun kind pair) (GetKeyValue k) asked e))
  begun_stores (ContainsKey k) asked kind pair e some replies = absurd (some (kind_same (Begun kind pair) (ContainsKey k) asked e))
  begun_stores (Remove k) asked kind pair e some replies = absurd (some (kind_same (Begun kind pair) (Remove k) asked e))
  begun_stores (RemoveEntry k) asked kind pair e some replies = absurd (some (kind_same (Begun kind pair) (RemoveEntry k) asked e))
  begun_stores (TryInsertWith k) asked kind pair e some replies = absurd (cc e)
  begun_stores (GetOrInsertWith k) asked kind pair e some replies = absurd (cc e)
  begun_stores (Update k) asked kind pair e some replies = absurd (cc e)
  begun_stores (UpdateOrInsertWith k) asked kind pair e some replies = absurd (cc e)
  begun_stores (Compute k) asked kind pair e some replies = absurd (cc e)
  begun_stores (RemoveIf k) asked kind pair e some replies = absurd (cc e)

  module _ (number : ℕ → ℕ) (stored : ℕ) (apart : (n o : ℕ) → n < stored → o < stored → number n ≡ number o → n ≡ o) (replies : List (Option ℕ × Reply V)) (kind : Kind) (its : Option K)
      (asked : List (Asked V)) (stores : StoresForNone kind asked) where
    abbrev Its : Given K V
    Its = IsTold kind its asked

    -- it asks there
    abbrev Never : Type 0
    Never = kind.absent ≡ missing.Puts → ⊥

    last_value : Never → (value : V) × (last_reply None asked ≡ Some (reply.Insert value))
    last_value never = by stores
      where
        by : StoresForNone kind asked → (value : V) × (last_reply None asked ≡ Some (reply.Insert value))
        by (inl puts) = absurd (never puts)
        by (inr (asks, value, was)) = (value, was)

    replied : (of : List (Asked V)) → AreReplies number stored of replies → asked ≡ of → Never → (value : V) × (reply_to None replies ≡ Some (Gives value))
    replied of are e never =
        let it = last_value never in
        (it.0, gave (reply_to None replies) it.0 (sym (told_as number stored apart None None tt of replies are) ∙ ap (last_reply None) (sym e) ∙ it.1))

    told_stores : (one : OneKey K V) (of : List (Asked V)) → AreReplies number stored of replies → Its ≡ given_by one of → StoresSo one replies
    told_stores (Insert k v) of are e = refl
    told_stores (TryInsert k v) of are e = refl
    told_stores (GetOrInsert k v) of are e = refl
    told_stores (UpdateOrInsert k v) of are e = refl
    told_stores (TryInsertWith k) of are e =
        let it = replied of are (let one : asked ≡ of = cc e in one) (λ puts. cc (e, puts)) in
        ap (λ (x : Option (Reply V)). puts_any (means (TryInsertWith k) x None 0)) it.1
    told_stores (GetOrInsertWith k) of are e =
        let it = replied of are (let one : asked ≡ of = cc e in one) (λ puts. cc (e, puts)) in
        ap (λ (x : Option (Reply V)). puts_any (means (GetOrInsertWith k) x None 0)) it.1
    told_stores (UpdateOrInsertWith k) of are e =
        let it = replied of are (let one : asked ≡ of = cc e in one) (λ puts. cc (e, puts)) in
        ap (λ (x : Option (Reply V)). puts_any (means (UpdateOrInsertWith k) x None 0)) it.1
    told_stores (Compute k) of are e =
        let it = replied of are (let one : asked ≡ of = cc e in one) (λ puts. cc (e, puts)) in
        ap (λ (x : Option (Reply V)). puts_any (means (Compute k) x None 0)) it.1
    told_stores (Update k) of are e = absurd (answers_none kind asked (kind_same Its (Update k) of e) stores)
    told_stores (RemoveIf k) of are e = absurd (answers_none kind asked (kind_same Its (RemoveIf k) of e) stores)
    told_stores (Get k) of are e = absurd (cc e)
    told_stores (GetKeyValue k) of are e = absurd (cc e)
    told_stores (ContainsKey k) of are e = absurd (cc e)
    told_stores (Remove k) of are e = absurd (cc e)
    told_stores (RemoveEntry k) of are e = absurd (cc e)

  pub given_stores : (number : ℕ → ℕ) (stored : ℕ) → ((n o : ℕ) → n < stored → o < stored → number n ≡ number o → n ≡ o) → (replies : List (Option ℕ × Reply V)) (g : Given K V) → HasGivenForNone g
      → (one : OneKey K V) (of : List (Asked V)) → AreReplies number stored of replies → g ≡ given_by one of → StoresSo one replies
  given_stores number stored apart replies (Begun kind pair) has one of are e = begun_stores one of kind pair e has replies
  given_stores number stored apart replies (IsTold kind its asked) has one of are e = told_stores number stored apart replies kind its asked has one of are e
