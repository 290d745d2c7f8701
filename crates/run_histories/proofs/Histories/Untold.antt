-- What a call asks, by its kind: it wants a reply for that, and was told nothing of it, unless it is `remove_if`.
use Rattle.std.specs.Prelude.{◌≡◌, ℕ, ◌<◌, ◌||◌, Bool, true, false, List, [], ◌∷◌, ◌++◌, Option, Some, None, option_map, if◌then◌else◌}
use Rattle.std.proofs.Common.{refl, ap, sym, ◌∙◌}
use Rattle.run_places.specs.Given.SeizeWordsMem.{Mem}
use Rattle.run_places.specs.Given.TablesDeclared.node.Node.{Node}
use Rattle.run_places.specs.Given.RawDeclared.machines.answer.Missing.TheVariants as missing
use Rattle.run_places.specs.Given.RawDeclared.machines.answer.There.TheVariants as there
use Rattle.run_places.specs.Given.RawDeclared.machines.asking.Asking.{Asking as AskingAt}
use Rattle.run_places.specs.Given.RawDeclared.machines.asking.Asking.TheVariants as asking
use Rattle.run_places.specs.Given.RawDeclared.machines.asking.Gap.{Gap}
use Rattle.run_places.specs.Given.RawDeclared.machines.asking.MachineReply.{MachineReply}
use Rattle.run_places.specs.Given.RawDeclared.machines.call.Calling.TheVariants as at
use Rattle.run_places.specs.Given.RawDeclared.machines.call.KeyCall.{KeyCall}
use Rattle.run_places.specs.Given.RunsDeclared.call.OneKey.{OneKey}
use Rattle.run_places.specs.Given.RunsDeclared.call.OneKey.TheVariants.{Get, GetKeyValue, ContainsKey, Insert, TryInsert, TryInsertWith, GetOrInsert, GetOrInsertWith, Update, UpdateOrInsert, UpdateOrInsertWith, Compute, Remove, RemoveEntry, RemoveIf}
use Rattle.run_places.specs.Given.RunsDeclared.call.Reply.{Reply}
use Rattle.run_places.specs.Given.SchedulesLists.{is_in}
use Rattle.run_places.specs.Given.SchedulesSequential.{Wants, means, asks_again}
use Rattle.run_places.specs.Given.SchedulesThings.{same_question}
use Rattle.run_places.specs.Given.SchedulesViews.{reply_to}
use Rattle.run_places.specs.Given.RuleChart.{Chart, Holds, Still}
use Rattle.run_places.specs.Given.RuleWords.{Blocks, place_word}
use Rattle.run_places.specs.Given.PointsFactsCalls.{Change}
use Rattle.run_places.specs.Given.LateKinds.{FitsAsking}
use Rattle.run_places.specs.Given.CallersAsked.{Asked, last_reply, replies_before}
use Rattle.run_places.specs.Given.CallersAskedOnce.{IsNew, AskedAt}
use Rattle.run_places.specs.Given.CallersKind.{Kind}
use Rattle.run_places.specs.Given.CallersPairs.{Given, Begun, IsTold, kind_of, IsOfKind, KeepsGiven}
use Rattle.run_places.specs.Hands.Asked.{reply_to_machine, given_by, KnowsFirst}
use Rattle.run_places.proofs.Hands.Replies.{told_since}
use Rattle.run_histories.specs.Histories.Questions.{replied_to}
use Rattle.run_places.specs.Given.SchedulesTransition.{further}

-- what has no reply is none of what has
unreplied : {V : Type 0} (question : Option ℕ) (replies : List (Option ℕ × Reply V)) → reply_to question replies ≡ None → is_in same_question question (replied_to replies) ≡ false
unreplied question [] none = refl
unreplied {V} question (r ∷ replies) none = by (same_question question r.0) refl (λ rest. unreplied question replies rest)
  where
    by : (q : Bool) → same_question question r.0 ≡ q → (reply_to question replies ≡ None → is_in same_question question (replied_to replies) ≡ false)
        → is_in same_question question (replied_to (r ∷ replies)) ≡ false
    by true e further = absurd (let some : ◌≡◌ {A = Option (Reply V)} (Some r.1) None = ap (λ z. if z then Some r.1 else reply_to question replies) (sym e) ∙ none in cc some)
    by false e further =
        ap (λ z. z || is_in same_question question (replied_to replies)) e ∙ further (ap (λ z. if z then Some r.1 else reply_to question replies) (sym e) ∙ none)

none_told : {V : Type 0} (o : Option (Reply V)) → ◌≡◌ {A = Option (MachineReply V)} (option_map reply_to_machine o) None → o ≡ None
none_told None e = refl
none_told (Some r) e = absurd (cc e)

pub never_asked : {V : Type 0} (question : Option ℕ) (replies : List (Option ℕ × Reply V)) → ◌≡◌ {A = Option (MachineReply V)} (option_map reply_to_machine (reply_to question replies)) None
    → is_in same_question question (replied_to replies) ≡ false
never_asked question replies none = unreplied question replies (none_told (reply_to question replies) none)

module _ {K V : Type 0} (asked : List (Asked V)) where
  -- a call that asks where its key is missing wants a reply for none, if it does not know it from the beginning
  pub wants_none : (one : OneKey K V) → (kind_of (given_by one asked)).absent ≡ missing.Asks → (KnowsFirst one → ⊥) → (n : ℕ) → means one None None n ≡ Wants
  wants_none (Get k) asks new n = absurd (cc asks)
  wants_none (GetKeyValue k) asks new n = absurd (cc asks)
  wants_none (ContainsKey k) asks new n = absurd (cc asks)
  wants_none (Insert k v) asks new n = absurd (cc asks)
  wants_none (TryInsert k v) asks new n = absurd (cc asks)
  wants_none (TryInsertWith k) asks new n = refl
  wants_none (GetOrInsert k v) asks new n = absurd (cc asks)
  wants_none (GetOrInsertWith k) asks new n = refl
  wants_none (Update k) asks new n = absurd (cc asks)
  wants_none (UpdateOrInsert k v) asks new n = absurd (new tt)
  wants_none (UpdateOrInsertWith k) asks new n = refl
  wants_none (Compute k) asks new n = refl
  wants_none (Remove k) asks new n = absurd (cc asks)
  wants_none (RemoveEntry k) asks new n = absurd (cc asks)
  wants_none (RemoveIf k) asks new n = absurd (cc asks)

  -- and one that asks where its key is there wants one for the pair
  pub wants_pair : (one : OneKey K V) → (kind_of (given_by one asked)).present ≡ there.Asks → (p n : ℕ) → means one None (Some p) n ≡ Wants
  wants_pair (Get k) asks p n = absurd (cc asks)
  wants_pair (GetKeyValue k) asks p n = absurd (cc asks)
  wants_pair (ContainsKey k) asks p n = absurd (cc asks)
  wants_pair (Insert k v) asks p n = absurd (cc asks)
  wants_pair (TryInsert k v) asks p n = absurd (cc asks)
  wants_pair (TryInsertWith k) asks p n = absurd (cc asks)
  wants_pair (GetOrInsert k v) asks p n = absurd (cc asks)
  wants_pair (GetOrInsertWith k) asks p n = absurd (cc asks)
  wants_pair (Update k) asks p n = refl
  wants_pair (UpdateOrInsert k v) asks p n = refl
  wants_pair (UpdateOrInsertWith k) asks p n = refl
  wants_pair (Compute k) asks p n = refl
  wants_pair (Remove k) asks p n = absurd (cc asks)
  wants_pair (RemoveEntry k) asks p n = absurd (cc asks)
  wants_pair (RemoveIf k) asks p n = refl

-- what a call keeps where it asks
module _ {K V Q : Type 0} (hash : K → ℕ) (m : Mem (Node K V)) (c : Chart K) (seen : Blocks) (keys : K → Bool) (change : Change) (p : KeyCall K V Q) where
  abbrev pub Keeps : Given K V → AskingAt → Type 0
  Keeps given it = KeepsGiven hash m c seen keys given change p (at.Asks it)

  -- it is of a kind that asks there
  pub fits_it : (given : Given K V) (it : AskingAt) → Keeps given it → FitsAsking (kind_of given).present (kind_of given).absent (kind_of given).takes it
  fits_it (Begun kind pair) it keeps = let is : IsOfKind kind p (at.Asks it) = keeps.2 in is.4
  fits_it (IsTold kind its asked) it keeps = let is : IsOfKind kind p (at.Asks it) = keeps.2 in is.4

  -- where its key is missing, it was told nothing of that
  module _ (asked : List (Asked V)) (gap : Gap) where
    of_gap : (kind : Kind) (its : Option K) (told : List (Asked V)) → Keeps (IsTold kind its told) (asking.Absent gap) → last_reply None told ≡ None
    of_gap kind its told keeps = keeps.0.0.absent_first keeps.0.1

    pub untold_none : (one : OneKey K V) → Keeps (given_by one asked) (asking.Absent gap) → (kind_of (given_by one asked)).absent ≡ missing.Asks → (KnowsFirst one → ⊥) → last_reply None asked ≡ None
    untold_none (Get k) keeps asks new = absurd (cc asks)
    untold_none (GetKeyValue k) keeps asks new = absurd (cc asks)
    untold_none (ContainsKey k) keeps asks new = absurd (cc asks)
    untold_none (Insert k v) keeps asks new = absurd (cc asks)
    untold_none (TryInsert k v) keeps asks new = absurd (cc asks)
    untold_none (TryInsertWith k) keeps asks new = of_gap _ _ asked keeps
    untold_none (GetOrInsert k v) keeps asks new = absurd (cc asks)
    untold_none (GetOrInsertWith k) keeps asks new = of_gap _ _ asked keeps
    untold_none (Update k) keeps asks new = absurd (cc asks)
    untold_none (UpdateOrInsert k v) keeps asks new = absurd (new tt)
    untold_none (UpdateOrInsertWith k) keeps asks new = of_gap _ _ asked keeps
    untold_none (Compute k) keeps asks new = of_gap _ _ asked keeps
    untold_none (Remove k) keeps asks new = absurd (cc asks)
    untold_none (RemoveEntry k) keeps asks new = absurd (cc asks)
    untold_none (RemoveIf k) keeps asks new = absurd (cc asks)

  -- where the pair of a word is there, it was told nothing of that one
  abbrev pub IsUntold : List (Asked V) → ℕ → Type 0
  IsUntold asked word =
      (n : ℕ) × (n < c.stored) × (seen.pair_known n ≡ true) × (borrowed : Bool) × (word ≡ place_word hash c seen (Holds n Still borrowed)) × (last_reply (Some n) asked ≡ None)

  module _ (asked : List (Asked V)) (word : ℕ) where
    by_new : (told : List (Asked V)) → IsNew hash c seen keys told word → IsUntold told word
    by_new told (n, of_keys, borrowed, word_is, none) = (n, of_keys.0, of_keys.1, borrowed, word_is, none)

    of_pair : (kind : Kind) (key : K) (told : List (Asked V)) → Keeps (IsTold kind (Some key) told) (asking.Present word) → IsUntold told word
    of_pair kind key told keeps = let asked_at : AskedAt hash c seen keys told p.replies (at.Asks (asking.Present word)) = keeps.1 in by_new told asked_at.1

    pub untold_pair : (one : OneKey K V) → Keeps (given_by one asked) (asking.Present word) → (kind_of (given_by one asked)).present ≡ there.Asks → asks_again one ≡ false → IsUntold asked word
    untold_pair (Get k) keeps asks once = absurd (cc asks)
    untold_pair (GetKeyValue k) keeps asks once = absurd (cc asks)
    untold_pair (ContainsKey k) keeps asks once = absurd (cc asks)
    untold_pair (Insert k v) keeps asks once = absurd (cc asks)
    untold_pair (TryInsert k v) keeps asks once = absurd (cc asks)
    untold_pair (TryInsertWith k) keeps asks once = absurd (cc asks)
    untold_pair (GetOrInsert k v) keeps asks once = absurd (cc asks)
    untold_pair (GetOrInsertWith k) keeps asks once = absurd (cc asks)
    untold_pair (Update k) keeps asks once = of_pair _ _ asked keeps
    untold_pair (UpdateOrInsert k v) keeps asks once =
        let it = of_pair _ _ (asked ++ replies_before (Some v)) keeps in
        (it.0, it.1, it.2, it.3, it.4, sym (told_since (Some it.0) asked (replies_before (Some v)) refl) ∙ it.5)
    untold_pair (UpdateOrInsertWith k) keeps asks once = of_pair _ _ asked keeps
    untold_pair (Compute k) keeps asks once = of_pair _ _ asked keeps
    untold_pair (Remove k) keeps asks once = absurd (cc asks)
    untold_pair (RemoveEntry k) keeps asks once = absurd (cc asks)
    untold_pair (RemoveIf k) keeps asks once = absurd (cc once)
