-- An answer without a change has words, by what a call of its kind means where it is told to leave all as it is.
use Rattle.std.specs.Prelude.{◌≡◌, ℕ, ◌<◌, Bool, true, false, List, [], ◌∷◌, Option, Some, None, option_map, if◌then◌else◌}
use Rattle.std.proofs.Common.{refl, ap, sym, subst, ◌∙◌, inl, inr}
use Rattle.std.proofs.lemmas.Bool.{eqb-true}
use Rattle.run_places.specs.Given.RawDeclared.machines.asking.MachineReply.{MachineReply}
use Rattle.run_places.specs.Given.RawDeclared.machines.asking.MachineReply.TheVariants as reply
use Rattle.run_places.specs.Given.RunsDeclared.call.Response.{Response}
use Rattle.run_places.specs.Given.RunsDeclared.call.Response.TheVariants as answer
use Rattle.run_places.specs.Given.RunsDeclared.call.OneKey.{OneKey}
use Rattle.run_places.specs.Given.RunsDeclared.call.OneKey.TheVariants.{Get, GetKeyValue, ContainsKey, Insert, TryInsert, TryInsertWith, GetOrInsert, GetOrInsertWith, Update, UpdateOrInsert, UpdateOrInsertWith, Compute, Remove, RemoveEntry, RemoveIf}
use Rattle.run_places.specs.Given.RunsDeclared.call.Reply.{Reply}
use Rattle.run_places.specs.Given.RunsDeclared.call.Reply.TheVariants.{Gives, Removes, Aborts, Decides}
use Rattle.run_places.specs.Given.SchedulesSequential.{Answers, Leaves, Takes, puts_reply, means}
use Rattle.run_places.specs.Given.SchedulesViews.{reply_to}
use Rattle.run_places.specs.Given.LateKinds.{MayFind, MayMiss}
use Rattle.run_places.specs.Given.CallersAsked.{Asked, is_about, last_reply, LeavesPair, LeavesNone}
use Rattle.run_places.specs.Given.CallersPairs.{Given, Begun, IsTold, kind_of}
use Rattle.run_places.specs.Hands.Asked.{reply_to_machine, given_by, IsSameQuestion, AreReplies}
use Rattle.run_places.proofs.Hands.Replies.{told_as}
use Rattle.run_places.specs.Given.SchedulesTransition.{further}

module _ {V : Type 0} where
  -- what was told to abort was that, and what was told not to remove a pair was a no
  aborted_by : (o : Option (Reply V)) → ◌≡◌ {A = Option (MachineReply V)} (option_map reply_to_machine o) (Some reply.Abort) → (w : V) × (o ≡ Some (Aborts w))
  aborted_by None e = absurd (cc e)
  aborted_by (Some (Gives w)) e = absurd (cc e)
  aborted_by (Some Removes) e = absurd (cc e)
  aborted_by (Some (Aborts w)) e = (w, refl)
  aborted_by (Some (Decides true)) e = absurd (cc e)
  aborted_by (Some (Decides false)) e = absurd (cc e)

  denied_by : (o : Option (Reply V)) → ◌≡◌ {A = Option (MachineReply V)} (option_map reply_to_machine o) (Some reply.No) → o ≡ Some (Decides false)
  denied_by None e = absurd (cc e)
  denied_by (Some (Gives w)) e = absurd (cc e)
  denied_by (Some Removes) e = absurd (cc e)
  denied_by (Some (Aborts w)) e = absurd (cc e)
  denied_by (Some (Decides true)) e = absurd (cc e)
  denied_by (Some (Decides false)) e = refl

-- it was told only of pairs that were stored
module _ (number : ℕ → ℕ) (stored : ℕ) where
  same_stored : (k : ℕ) (x : Option ℕ) → IsSameQuestion number stored (Some k) x → k < stored
  same_stored k None is = absurd is
  same_stored k (Some j) is = is.0

  about_stored : (about x : Option ℕ) (n : ℕ) → IsSameQuestion number stored about x → is_about about (Some n) ≡ true → n < stored
  about_stored None x n is e = absurd (cc e)
  about_stored (Some k) x n is e = subst (λ (z : ℕ). z < stored) (eqb-true k n e) (same_stored k x is)

  told_stored : {V : Type 0} (asked : List (Asked V)) (replies : List (Option ℕ × Reply V)) → AreReplies number stored asked replies → (n : ℕ) (r : MachineReply V) → last_reply (Some n) asked ≡ Some r → n < stored
  told_stored [] replies are n r e = absurd (cc e)
  told_stored (a ∷ asked) [] are n r e = absurd are
  told_stored (a ∷ asked) (x ∷ replies) are n r e = by (is_about a.about (Some n)) refl (told_stored asked replies are.2 n r)
    where
      by : (q : Bool) → is_about a.about (Some n) ≡ q → (last_reply (Some n) asked ≡ Some r → n < stored) → n < stored
      by true is further = about_stored a.about x.0 n are.0 is
      by false is further = further (sym (ap (λ (z : Bool). if z then Some a.told else last_reply (Some n) asked) is) ∙ e)

module _ {K V : Type 0} where
  -- what a call leaves so it was told to leave so, if it asks
  abbrev pub LeavesIt : ℕ → Given K V → Type 0
  LeavesIt n (Begun kind pair) = Unit {0}
  LeavesIt n (IsTold kind its told) = LeavesPair told kind.present kind.takes n

  abbrev pub LeavesMissing : Given K V → Type 0
  LeavesMissing (Begun kind pair) = Unit {0}
  LeavesMissing (IsTold kind its told) = LeavesNone told kind.absent kind.takes

module _ {V : Type 0} (number : ℕ → ℕ) (stored : ℕ) (apart : (n o : ℕ) → n < stored → o < stored → number n ≡ number o → n ≡ o)
    (asked : List (Asked V)) (replies : List (Option ℕ × Reply V)) (are : AreReplies number stored asked replies) where
  -- of a pair with this number, if it was stored by then
  reply_is : (n q : ℕ) → (n < stored → number n ≡ q) → (r : MachineReply V) → last_reply (Some n) asked ≡ Some r → ◌≡◌ {A = Option (MachineReply V)} (option_map reply_to_machine (reply_to (Some q) replies)) (Some r)
  reply_is n q same r e = let l = told_stored number stored asked replies are n r e in sym (told_as number stored apart (Some n) (Some q) (l, same l) asked replies are) ∙ e

module _ {K V : Type 0} (number : ℕ → ℕ) (stored : ℕ) (apart : (n o : ℕ) → n < stored → o < stored → number n ≡ number o → n ≡ o)
    (asked : List (Asked V)) (replies : List (Option ℕ × Reply V)) (are : AreReplies number stored asked replies) where
  -- it means to leave this pair, or that there is none, as it is
  abbrev pub FindsIt : OneKey K V → ℕ → Type 0
  FindsIt one q = (a : Response V) × ((new : ℕ) → means one (reply_to (Some q) replies) (Some q) new ≡ Answers a Leaves)

  abbrev pub MissesIt : OneKey K V → Type 0
  MissesIt one = (a : Response V) × ((new : ℕ) → means one (reply_to None replies) None new ≡ Answers a Leaves)

  pub finds_it : (n q : ℕ) → (n < stored → number n ≡ q) → (one : OneKey K V) → MayFind (kind_of (given_by one asked)).present (kind_of (given_by one asked)).absent (kind_of (given_by one asked)).takes
      → LeavesIt n (given_by one asked) → FindsIt one q
  finds_it n q same (Get k) may leaves = (answer.Found q, λ new. refl)
  finds_it n q same (GetKeyValue k) may leaves = (answer.Found q, λ new. refl)
  finds_it n q same (ContainsKey k) may leaves = (answer.Found q, λ new. refl)
  finds_it n q same (Insert k v) (inl may) leaves = absurd (cc may)
  finds_it n q same (Insert k v) (inr (may, more)) leaves = absurd (cc may)
  finds_it n q same (TryInsert k v) may leaves = (answer.Occupied q v, λ new. refl)
  finds_it n q same (TryInsertWith k) may leaves = (answer.Kept q, λ new. refl)
  finds_it n q same (GetOrInsert k v) may leaves = (answer.Found q, λ new. refl)
  finds_it n q same (GetOrInsertWith k) may leaves = (answer.Found q, λ new. refl)
  finds_it n q same (Update k) (inl may) leaves = absurd (cc may)
  finds_it n q same (Update k) (inr (may, more)) leaves = absurd (more refl)
  finds_it n q same (UpdateOrInsert k v) (inl may) leaves = absurd (cc may)
  finds_it n q same (UpdateOrInsert k v) (inr (may, more)) leaves = absurd (more refl)
  finds_it n q same (UpdateOrInsertWith k) (inl may) leaves = absurd (cc may)
  finds_it n q same (UpdateOrInsertWith k) (inr (may, more)) leaves = absurd (more refl)
  finds_it n q same (Compute k) may leaves =
      let is = aborted_by (reply_to (Some q) replies) (reply_is number stored apart asked replies are n q same reply.Abort leaves) in
      (answer.Aborted is.0, λ new. ap (λ (o : Option (Reply V)). means {K = K} (Compute k) o (Some q) new) is.1)
  finds_it n q same (Remove k) (inl may) leaves = absurd (cc may)
  finds_it n q same (Remove k) (inr (may, more)) leaves = absurd (cc may)
  finds_it n q same (RemoveEntry k) (inl may) leaves = absurd (cc may)
  finds_it n q same (RemoveEntry k) (inr (may, more)) leaves = absurd (cc may)
  finds_it n q same (RemoveIf k) may leaves =
      let is = denied_by (reply_to (Some q) replies) (reply_is number stored apart asked replies are n q same reply.No leaves) in
      (answer.Kept q, λ new. ap (λ (o : Option (Reply V)). means {K = K} (RemoveIf k) o (Some q) new) is)

  pub misses_it : (one : OneKey K V) → MayMiss (kind_of (given_by one asked)).present (kind_of (given_by one asked)).absent (kind_of (given_by one asked)).takes
      → LeavesMissing (given_by one asked) → MissesIt one
  misses_it (Get k) may leaves = (answer.Absent, λ new. refl)
  misses_it (GetKeyValue k) may leaves = (answer.Absent, λ new. refl)
  misses_it (ContainsKey k) may leaves = (answer.Absent, λ new. refl)
  misses_it (Insert k v) (inl may) leaves = absurd (cc may)
  misses_it (Insert k v) (inr (may, more)) leaves = absurd (cc may)
  misses_it (TryInsert k v) (inl may) leaves = absurd (cc may)
  misses_it (TryInsert k v) (inr (may, more)) leaves = absurd (cc may)
  misses_it (TryInsertWith k) (inl may) leaves = absurd (cc may)
  misses_it (TryInsertWith k) (inr (may, more)) leaves = absurd (cc more)
  misses_it (GetOrInsert k v) (inl may) leaves = absurd (cc may)
  misses_it (GetOrInsert k v) (inr (may, more)) leaves = absurd (cc may)
  misses_it (GetOrInsertWith k) (inl may) leaves = absurd (cc may)
  misses_it (GetOrInsertWith k) (inr (may, more)) leaves = absurd (cc more)
  misses_it (Update k) may leaves = (answer.Absent, λ new. refl)
  misses_it (UpdateOrInsert k v) (inl may) leaves = absurd (cc may)
  misses_it (UpdateOrInsert k v) (inr (may, more)) leaves = absurd (cc more)
  misses_it (UpdateOrInsertWith k) (inl may) leaves = absurd (cc may)
  misses_it (UpdateOrInsertWith k) (inr (may, more)) leaves = absurd (cc more)
  misses_it (Compute k) may leaves =
      let is = aborted_by (reply_to None replies) (sym (told_as number stored apart None None tt asked replies are) ∙ leaves) in
      (answer.Aborted is.0, λ new. ap (λ (o : Option (Reply V)). means {K = K} (Compute k) o None new) is.1)
  misses_it (Remove k) may leaves = (answer.Absent, λ new. refl)
  misses_it (RemoveEntry k) may leaves = (answer.Absent, λ new. refl)
  misses_it (RemoveIf k) may leaves = (answer.Absent, λ new. refl)

-- a reply that is to be stored removes none
put_no : {V : Type 0} (a : Response V) (r : Option (Reply V)) (b : Response V) → puts_reply r b ≡ Answers a Takes → ⊥
put_no a None b e = cc e
put_no a (Some (Gives v)) b e = cc e
put_no a (Some Removes) b e = cc e
put_no a (Some (Aborts w)) b e = cc e
put_no a (Some (Decides d)) b e = cc e

-- to remove a pair means so whichever pair would be stored next
module _ {K V : Type 0} (p new new2 : ℕ) (a : Response V) where
  abbrev Same : OneKey K V → Option (Reply V) → Type 0
  Same one r = means one r (Some p) new ≡ Answers a Takes → means one r (Some p) new2 ≡ Answers a Takes

  computes_any : (k : K) (r : Option (Reply V)) → Same (Compute k) r
  computes_any k None e = absurd (cc e)
  computes_any k (Some (Gives v)) e = absurd (cc e)
  computes_any k (Some Removes) e = e
  computes_any k (Some (Aborts w)) e = absurd (cc e)
  computes_any k (Some (Decides b)) e = absurd (cc e)

  pub takes_any : (one : OneKey K V) (r : Option (Reply V)) → Same one r
  takes_any (Get k) r e = absurd (cc e)
  takes_any (GetKeyValue k) r e = absurd (cc e)
  takes_any (ContainsKey k) r e = absurd (cc e)
  takes_any (Insert k v) r e = absurd (cc e)
  takes_any (TryInsert k v) r e = absurd (cc e)
  takes_any (TryInsertWith k) r e = absurd (cc e)
  takes_any (GetOrInsert k v) r e = absurd (cc e)
  takes_any (GetOrInsertWith k) r e = absurd (cc e)
  takes_any (Update k) r e = absurd (put_no a r (answer.Stored new) e)
  takes_any (UpdateOrInsert k v) r e = absurd (put_no a r (answer.Stored new) e)
  takes_any (UpdateOrInsertWith k) r e = absurd (put_no a r (answer.Stored new) e)
  takes_any (Compute k) r e = computes_any k r e
  takes_any (Remove k) r e = e
  takes_any (RemoveEntry k) r e = e
  takes_any (RemoveIf k) r e = e
