-- What a call means where it stores or removes a pair.
use Rattle.run_shows.specs.Given.SeizeWordsDeclared.fault.Fault.TheVariants.{RemoveNothing}
use Rattle.std.specs.Prelude.{◌≡◌, ℕ, ◌<◌, true, false, List, ◌∷◌, map, Option, Some, None, option_map, ◌⊎◌}
use Rattle.std.proofs.Common.{refl, ap, sym, ◌∙◌, inl, inr}
use Rattle.run_shows.specs.Given.RawDeclared.machines.asking.MachineReply.{MachineReply}
use Rattle.run_shows.specs.Given.RawDeclared.machines.asking.MachineReply.TheVariants as reply
use Rattle.run_shows.specs.Given.RawDeclared.machines.asking.Takes.TheVariants as takes
use Rattle.run_shows.specs.Given.RunsDeclared.call.Response.{Response}
use Rattle.run_shows.specs.Given.RunsDeclared.call.Response.TheVariants as answer
use Rattle.run_shows.specs.Given.RunsDeclared.call.OneKey.{OneKey}
use Rattle.run_shows.specs.Given.RunsDeclared.call.OneKey.TheVariants.{Get, GetKeyValue, ContainsKey, Insert, TryInsert, TryInsertWith, GetOrInsert, GetOrInsertWith, Update, UpdateOrInsert, UpdateOrInsertWith, Compute, Remove, RemoveEntry, RemoveIf}
use Rattle.run_shows.specs.Given.RunsDeclared.call.Reply.{Reply}
use Rattle.run_shows.specs.Given.RunsDeclared.call.Reply.TheVariants.{Gives, Removes, Aborts, Decides}
use Rattle.run_shows.specs.Given.SchedulesSequential.{Meaning, Answers, Refuses, Wants, Leaves, Puts, Takes, means, value_put}
use Rattle.run_shows.specs.Given.SchedulesViews.{reply_to}
use Rattle.run_shows.specs.Given.LateFaults.{IsRoom}
use Rattle.run_shows.specs.Given.LateKinds.{MayRemove, FaultFits}
use Rattle.run_shows.specs.Given.CallersAsked.{Asked, last_reply}
use Rattle.run_shows.specs.Given.CallersPairs.{Given, Begun, IsTold, kind_of, RemovesNone}
use Rattle.run_places.specs.Hands.Asked.{reply_to_machine, given_by, AreReplies}
use Rattle.run_places.proofs.Hands.Replies.{told_as}
use Rattle.run_places.specs.Changes.Changes.{AreTaken}

module _ {V X : Type 0} where
  -- where it has a value to put, it is to put it
  pub puts_some : (f : V → X) (x : X) (xs : List X) (meaning : Meaning V) → map f (value_put meaning) ≡ x ∷ xs → (a : Response V) × (v : V) × (meaning ≡ Answers a (Puts v))
  puts_some f x xs (Answers a Leaves) e = absurd (cc e)
  puts_some f x xs (Answers a (Puts v)) e = (a, v, refl)
  puts_some f x xs (Answers a Takes) e = absurd (cc e)
  puts_some f x xs Refuses e = absurd (cc e)
  puts_some f x xs Wants e = absurd (cc e)

module _ {V : Type 0} where
  -- what was told to remove a pair was that, or a yes
  removed_by : (o : Option (Reply V)) → ◌≡◌ {A = Option (MachineReply V)} (option_map reply_to_machine o) (Some reply.Remove) → o ≡ Some Removes
  removed_by None e = absurd (cc e)
  removed_by (Some (Gives w)) e = absurd (cc e)
  removed_by (Some Removes) e = refl
  removed_by (Some (Aborts w)) e = absurd (cc e)
  removed_by (Some (Decides true)) e = absurd (cc e)
  removed_by (Some (Decides false)) e = absurd (cc e)

  decided_by : (o : Option (Reply V)) → ◌≡◌ {A = Option (MachineReply V)} (option_map reply_to_machine o) (Some reply.Yes) → o ≡ Some (Decides true)
  decided_by None e = absurd (cc e)
  decided_by (Some (Gives w)) e = absurd (cc e)
  decided_by (Some Removes) e = absurd (cc e)
  decided_by (Some (Aborts w)) e = absurd (cc e)
  decided_by (Some (Decides true)) e = refl
  decided_by (Some (Decides false)) e = absurd (cc e)

-- it was told last to remove this pair, if it asks
abbrev pub ToRemove : {K V : Type 0} → ℕ → Given K V → Type 0
ToRemove n (Begun kind pair) = Unit {0}
ToRemove n (IsTold kind its asked) = (last_reply (Some n) asked ≡ Some reply.Remove) ⊎ (last_reply (Some n) asked ≡ Some reply.Yes)

-- the last reply about a pair is what the call was told last of it
module _ {V : Type 0} (number : ℕ → ℕ) (stored : ℕ) (apart : (n o : ℕ) → n < stored → o < stored → number n ≡ number o → n ≡ o)
    (asked : List (Asked V)) (replies : List (Option ℕ × Reply V)) (are : AreReplies number stored asked replies) (n : ℕ) (l : n < stored) where
  reply_is : last_reply (Some n) asked ≡ option_map reply_to_machine (reply_to (Some (number n)) replies)
  reply_is = told_as number stored apart (Some n) (Some (number n)) (l, refl) asked replies are

module _ {K V : Type 0} (number : ℕ → ℕ) (stored : ℕ) (apart : (n o : ℕ) → n < stored → o < stored → number n ≡ number o → n ≡ o)
    (asked : List (Asked V)) (replies : List (Option ℕ × Reply V)) (are : AreReplies number stored asked replies) (n : ℕ) (l : n < stored) (new : ℕ) where
  -- it means to remove this pair
  abbrev pub TakesIt : OneKey K V → Type 0
  TakesIt one = (a : Response V) × (means one (reply_to (Some (number n)) replies) (Some (number n)) new ≡ Answers a Takes)

  computed : (k : K) → AreTaken (Compute k) replies → (last_reply (Some n) asked ≡ Some reply.Remove) ⊎ (last_reply (Some n) asked ≡ Some reply.Yes) → TakesIt (Compute k)
  computed k taken (inl told) =
      let is = removed_by (reply_to (Some (number n)) replies) (sym (reply_is number stored apart asked replies are n l) ∙ told) in
      (answer.Removed (number n), ap (λ (o : Option (Reply V)). means {K = K} (Compute k) o (Some (number n)) new) is)
  computed k taken (inr told) = absurd (taken (Some (number n)) (Decides true) (decided_by (reply_to (Some (number n)) replies) (sym (reply_is number stored apart asked replies are n l) ∙ told)))

  chosen : (k : K) → AreTaken (RemoveIf k) replies → (last_reply (Some n) asked ≡ Some reply.Remove) ⊎ (last_reply (Some n) asked ≡ Some reply.Yes) → TakesIt (RemoveIf k)
  chosen k taken (inl told) = absurd (taken (Some (number n)) Removes (removed_by (reply_to (Some (number n)) replies) (sym (reply_is number stored apart asked replies are n l) ∙ told)))
  chosen k taken (inr told) =
      let is = decided_by (reply_to (Some (number n)) replies) (sym (reply_is number stored apart asked replies are n l) ∙ told) in
      (answer.Found (number n), ap (λ (o : Option (Reply V)). means {K = K} (RemoveIf k) o (Some (number n)) new) is)

  abbrev MayIt : OneKey K V → Type 0
  MayIt one = MayRemove (kind_of (given_by one asked)).present (kind_of (given_by one asked)).absent (kind_of (given_by one asked)).takes

  pub takes_it : (one : OneKey K V) → AreTaken one replies → MayIt one → ToRemove n (given_by one asked) → TakesIt one
  takes_it (Get k) taken (inl may) told = absurd (cc may)
  takes_it (Get k) taken (inr (may, more)) told = absurd (cc may)
  takes_it (GetKeyValue k) taken (inl may) told = absurd (cc may)
  takes_it (GetKeyValue k) taken (inr (may, more)) told = absurd (cc may)
  takes_it (ContainsKey k) taken (inl may) told = absurd (cc may)
  takes_it (ContainsKey k) taken (inr (may, more)) told = absurd (cc may)
  takes_it (Insert k v) taken (inl may) told = absurd (cc may)
  takes_it (Insert k v) taken (inr (may, more)) told = absurd (cc may)
  takes_it (TryInsert k v) taken (inl may) told = absurd (cc may)
  takes_it (TryInsert k v) taken (inr (may, more)) told = absurd (cc may)
  takes_it (TryInsertWith k) taken (inl may) told = absurd (cc may)
  takes_it (TryInsertWith k) taken (inr (may, more)) told = absurd (cc may)
  takes_it (GetOrInsert k v) taken (inl may) told = absurd (cc may)
  takes_it (GetOrInsert k v) taken (inr (may, more)) told = absurd (cc may)
  takes_it (GetOrInsertWith k) taken (inl may) told = absurd (cc may)
  takes_it (GetOrInsertWith k) taken (inr (may, more)) told = absurd (cc may)
  takes_it (Update k) taken (inl may) told = absurd (cc may)
  takes_it (Update k) taken (inr (may, more)) told = absurd (more refl)
  takes_it (UpdateOrInsert k v) taken (inl may) told = absurd (cc may)
  takes_it (UpdateOrInsert k v) taken (inr (may, more)) told = absurd (more refl)
  takes_it (UpdateOrInsertWith k) taken (inl may) told = absurd (cc may)
  takes_it (UpdateOrInsertWith k) taken (inr (may, more)) told = absurd (more refl)
  takes_it (Compute k) taken may told = computed k taken told
  takes_it (Remove k) taken may told = (answer.Found (number n), refl)
  takes_it (RemoveEntry k) taken may told = (answer.Found (number n), refl)
  takes_it (RemoveIf k) taken may told = chosen k taken told

no_room : IsRoom RemoveNothing → ⊥
no_room (inl e) = cc e
no_room (inr e) = cc e

-- a call that was told to remove what is not there means to be refused for that
module _ {K V : Type 0} (number : ℕ → ℕ) (stored : ℕ) (apart : (n o : ℕ) → n < stored → o < stored → number n ≡ number o → n ≡ o)
    (asked : List (Asked V)) (replies : List (Option ℕ × Reply V)) (are : AreReplies number stored asked replies) where
  abbrev FitsIt : OneKey K V → Type 0
  FitsIt one = FaultFits (kind_of (given_by one asked)).present (kind_of (given_by one asked)).absent (kind_of (given_by one asked)).takes RemoveNothing

  -- only where it takes changes
  takes_changes : (one : OneKey K V) → FitsIt one → (kind_of (given_by one asked)).takes ≡ takes.Changes
  takes_changes one (inl (more, room)) = absurd (no_room room)
  takes_changes one (inr fits) = fits.0

  pub refuses_it : (one : OneKey K V) → FitsIt one → RemovesNone (given_by one asked) → (n : ℕ) → means one (reply_to None replies) None n ≡ Refuses
  refuses_it (Get k) fits told n = absurd told
  refuses_it (GetKeyValue k) fits told n = absurd told
  refuses_it (ContainsKey k) fits told n = absurd told
  refuses_it (Insert k v) fits told n = absurd told
  refuses_it (TryInsert k v) fits told n = absurd told
  refuses_it (TryInsertWith k) fits told n = absurd (let e = takes_changes (TryInsertWith k) fits in cc e)
  refuses_it (GetOrInsert k v) fits told n = absurd told
  refuses_it (GetOrInsertWith k) fits told n = absurd (let e = takes_changes (GetOrInsertWith k) fits in cc e)
  refuses_it (Update k) fits told n = absurd (let e = takes_changes (Update k) fits in cc e)
  refuses_it (UpdateOrInsert k v) fits told n = absurd (let e = takes_changes (UpdateOrInsert k v) fits in cc e)
  refuses_it (UpdateOrInsertWith k) fits told n = absurd (let e = takes_changes (UpdateOrInsertWith k) fits in cc e)
  refuses_it (Compute k) fits told n =
      ap (λ (o : Option (Reply V)). means {K = K} (Compute k) o None n) (removed_by (reply_to None replies) (sym (told_as number stored apart None None tt asked replies are) ∙ told))
  refuses_it (Remove k) fits told n = absurd told
  refuses_it (RemoveEntry k) fits told n = absurd told
  refuses_it (RemoveIf k) fits told n = absurd (let e = takes_changes (RemoveIf k) fits in cc e)
