-- The pair that a call on one key stores is the one that it has to store at that moment.
use Rattle.std.specs.Prelude.{◌≡◌, ℕ, ◌<◌, List, [], ◌∷◌, ◌++◌, Option, Some, None}
use Rattle.std.proofs.Common.{refl, ap, sym, ◌∙◌, inl, inr}
use Rattle.run_shows.specs.Given.SeizeWordsMem.{Mem, value_at}
use Rattle.run_shows.specs.Given.TablesDeclared.node.Node.{Node}
use Rattle.run_shows.specs.Given.TablesDeclared.node.Node.TheVariants as node
use Rattle.run_shows.specs.Given.RawDeclared.machines.asking.MachineReply.TheVariants as reply
use Rattle.run_shows.specs.Given.RunsDeclared.call.OneKey.{OneKey}
use Rattle.run_shows.specs.Given.RunsDeclared.call.OneKey.TheVariants.{Get, GetKeyValue, ContainsKey, Insert, TryInsert, TryInsertWith, GetOrInsert, GetOrInsertWith, Update, UpdateOrInsert, UpdateOrInsertWith, Compute, Remove, RemoveEntry, RemoveIf}
use Rattle.run_shows.specs.Given.RunsDeclared.call.Reply.{Reply}
use Rattle.run_shows.specs.Given.RunsDeclared.call.Reply.TheVariants.{Gives}
use Rattle.run_shows.specs.Given.SchedulesSequential.{means, key_of, value_put}
use Rattle.run_shows.specs.Given.SchedulesViews.{reply_to}
use Rattle.run_shows.specs.Given.LateKinds.{MayPut, MayReplace, MayRemove}
use Rattle.run_shows.specs.Given.PointsFactsCalls.{Change, Stored, Replaced, Removed}
use Rattle.run_shows.specs.Given.RuleChart.{Chart}
use Rattle.run_shows.specs.Given.RuleWords.{Blocks}
use Rattle.run_shows.specs.Given.CallersAsked.{Asked, last_reply, replies_before}
use Rattle.run_shows.specs.Given.CallersKind.{Kind}
use Rattle.run_shows.specs.Given.CallersPairs.{kind_of, StoresGiven}
use Rattle.run_places.specs.Hands.Asked.{given_by, KnowsFirst, IsSameQuestion, AreReplies}
use Rattle.run_places.proofs.Hands.Replies.{gave, told_since, told_first, told_as}

-- a call of this kind may store where there was none, or in the place of a pair, or remove one
abbrev pub MayDo : Kind → Change → Type 0
MayDo kind (Stored n) = MayPut kind.present kind.absent kind.takes
MayDo kind (Replaced o n) = MayReplace kind.present kind.absent kind.takes
MayDo kind (Removed o) = MayRemove kind.present kind.absent kind.takes
MayDo kind _ = Unit {0}

module _ {K V : Type 0} where
  -- the pair of the call's key and of the value that it puts, where its class has this pair or none, is in the block
  abbrev pub PutsThere : OneKey K V → List (Option ℕ × Reply V) → Option ℕ → ℕ → Mem (Node K V) → ℕ → Type 0
  PutsThere one replies old new m b = (v : V) × (value_put (means one (reply_to old replies) old new) ≡ v ∷ []) × (value_at m b ≡ Some (node.Pair (key_of one) v))

  put_reply : (o : Option (Reply V)) (v : V) → o ≡ Some (Gives v) → (new old : ℕ) (k : K)
      → (value_put (means (Update k) o (Some old) new) ≡ v ∷ []) × (value_put (means (UpdateOrInsertWith k) o None new) ≡ v ∷ []) × (value_put (means (UpdateOrInsertWith k) o (Some old) new) ≡ v ∷ [])
      × (value_put (means (Compute k) o None new) ≡ v ∷ []) × (value_put (means (Compute k) o (Some old) new) ≡ v ∷ []) × (value_put (means (TryInsertWith k) o None new) ≡ v ∷ [])
  put_reply o v e new old k = (
    ap (λ (x : Option (Reply V)). value_put (means (Update k) x (Some old) new)) e,
    ap (λ (x : Option (Reply V)). value_put (means (UpdateOrInsertWith k) x None new)) e,
    ap (λ (x : Option (Reply V)). value_put (means (UpdateOrInsertWith k) x (Some old) new)) e,
    ap (λ (x : Option (Reply V)). value_put (means (Compute k) x None new)) e,
    ap (λ (x : Option (Reply V)). value_put (means (Compute k) x (Some old) new)) e,
    ap (λ (x : Option (Reply V)). value_put (means (TryInsertWith k) x None new)) e,
  )

  some_pair : (k key : K) (value : V) (m : Mem (Node K V)) (b : ℕ) → ◌≡◌ {A = Option K} (Some k) (Some key) → value_at m b ≡ Some (node.Pair key value) → value_at m b ≡ Some (node.Pair k value)
  some_pair k key value m b e is = let same : key ≡ k = cc e in is ∙ ap (λ (x : K). Some (node.Pair x value)) same

  module _ (hash : K → ℕ) (number : ℕ → ℕ) (stored : ℕ) (apart : (n o : ℕ) → n < stored → o < stored → number n ≡ number o → n ≡ o) (m : Mem (Node K V)) (c : Chart K) (blocks : Blocks)
      (asked : List (Asked V)) (replies : List (Option ℕ × Reply V)) (are : AreReplies number stored asked replies) (new : ℕ) where
    -- it was told last to store this
    reply_is : (q k : Option ℕ) (v : V) → IsSameQuestion number stored q k → last_reply q asked ≡ Some (reply.Insert v) → reply_to k replies ≡ Some (Gives v)
    reply_is q k v same told = gave (reply_to k replies) v (sym (told_as number stored apart q k same asked replies are) ∙ told)

    pub puts_new : (one : OneKey K V) → (KnowsFirst one → last_reply None asked ≡ None) → (n : ℕ) → MayDo (kind_of (given_by one asked)) (Stored n) → StoresGiven hash m c blocks (given_by one asked) (Stored n)
        → PutsThere one replies None new m (blocks.pair n)
    puts_new (Get k) first n (inl may) has = absurd (cc may)
    puts_new (Get k) first n (inr may) has = absurd (cc may)
    puts_new (GetKeyValue k) first n (inl may) has = absurd (cc may)
    puts_new (GetKeyValue k) first n (inr may) has = absurd (cc may)
    puts_new (ContainsKey k) first n (inl may) has = absurd (cc may)
    puts_new (ContainsKey k) first n (inr may) has = absurd (cc may)
    puts_new (Insert k v) first n may has = (v, refl, has.2)
    puts_new (TryInsert k v) first n may has = (v, refl, has.2)
    puts_new (TryInsertWith k) first n may (there, (key, value, is, its, told)) =
        (value, (put_reply (reply_to None replies) value (reply_is None None value tt told) new 0 k).5, some_pair k key value m (blocks.pair n) its is)
    puts_new (GetOrInsert k v) first n may has = (v, refl, has.2)
    puts_new (GetOrInsertWith k) first n may (there, (key, value, is, its, told)) =
        (value, (put_reply (reply_to None replies) value (reply_is None None value tt told) new 0 k).5, some_pair k key value m (blocks.pair n) its is)
    puts_new (Update k) first n (inl may) has = absurd (cc may)
    puts_new (Update k) first n (inr may) has = absurd (cc may)
    puts_new (UpdateOrInsert k v) first n may (there, (key, value, is, its, told)) =
        let known : last_reply None (asked ++ replies_before (Some v)) ≡ Some (reply.Insert v) = told_first None asked (replies_before (Some v)) (first tt) in
        let same : value ≡ v = cc (known, told) in
        (v, refl, some_pair k key v m (blocks.pair n) its (is ∙ ap (λ (x : V). Some (node.Pair key x)) same))
    puts_new (UpdateOrInsertWith k) first n may (there, (key, value, is, its, told)) =
        (value, (put_reply (reply_to None replies) value (reply_is None None value tt told) new 0 k).1, some_pair k key value m (blocks.pair n) its is)
    puts_new (Compute k) first n may (there, (key, value, is, its, told)) =
        (value, (put_reply (reply_to None replies) value (reply_is None None value tt told) new 0 k).3, some_pair k key value m (blocks.pair n) its is)
    puts_new (Remove k) first n (inl may) has = absurd (cc may)
    puts_new (Remove k) first n (inr may) has = absurd (cc may)
    puts_new (RemoveEntry k) first n (inl may) has = absurd (cc may)
    puts_new (RemoveEntry k) first n (inr may) has = absurd (cc may)
    puts_new (RemoveIf k) first n (inl may) has = absurd (cc may)
    puts_new (RemoveIf k) first n (inr may) has = absurd (cc may)

    -- what was told about a pair was told since it began
    since_it : (o : ℕ) (v w : V) → last_reply (Some o) (asked ++ replies_before (Some v)) ≡ Some (reply.Insert w) → last_reply (Some o) asked ≡ Some (reply.Insert w)
    since_it o v w told = sym (told_since (Some o) asked (replies_before (Some v)) refl) ∙ told

    pub puts_over : (one : OneKey K V) (o n : ℕ) → o < stored → MayDo (kind_of (given_by one asked)) (Replaced o n) → StoresGiven hash m c blocks (given_by one asked) (Replaced o n)
        → PutsThere one replies (Some (number o)) new m (blocks.pair n)
    puts_over (Get k) o n l (inl may) has = absurd (cc may)
    puts_over (Get k) o n l (inr (may, more)) has = absurd (cc may)
    puts_over (GetKeyValue k) o n l (inl may) has = absurd (cc may)
    puts_over (GetKeyValue k) o n l (inr (may, more)) has = absurd (cc may)
    puts_over (ContainsKey k) o n l (inl may) has = absurd (cc may)
    puts_over (ContainsKey k) o n l (inr (may, more)) has = absurd (cc may)
    puts_over (Insert k v) o n l may has = (v, refl, has.2)
    puts_over (TryInsert k v) o n l (inl may) has = absurd (cc may)
    puts_over (TryInsert k v) o n l (inr (may, more)) has = absurd (cc may)
    puts_over (TryInsertWith k) o n l (inl may) has = absurd (cc may)
    puts_over (TryInsertWith k) o n l (inr (may, more)) has = absurd (cc may)
    puts_over (GetOrInsert k v) o n l (inl may) has = absurd (cc may)
    puts_over (GetOrInsert k v) o n l (inr (may, more)) has = absurd (cc may)
    puts_over (GetOrInsertWith k) o n l (inl may) has = absurd (cc may)
    puts_over (GetOrInsertWith k) o n l (inr (may, more)) has = absurd (cc may)
    puts_over (Update k) o n l may (there, (key, value, is, its, told)) =
        (value, (put_reply (reply_to (Some (number o)) replies) value (reply_is (Some o) (Some (number o)) value (l, refl) told) new (number o) k).0, some_pair k key value m (blocks.pair n) its is)
    puts_over (UpdateOrInsert k v) o n l may (there, (key, value, is, its, told)) = (
      value,
      (put_reply (reply_to (Some (number o)) replies) value (reply_is (Some o) (Some (number o)) value (l, refl) (since_it o v value told)) new (number o) k).0,
      some_pair k key value m (blocks.pair n) its is,
    )
    puts_over (UpdateOrInsertWith k) o n l may (there, (key, value, is, its, told)) =
        (value, (put_reply (reply_to (Some (number o)) replies) value (reply_is (Some o) (Some (number o)) value (l, refl) told) new (number o) k).2, some_pair k key value m (blocks.pair n) its is)
    puts_over (Compute k) o n l may (there, (key, value, is, its, told)) =
        (value, (put_reply (reply_to (Some (number o)) replies) value (reply_is (Some o) (Some (number o)) value (l, refl) told) new (number o) k).4, some_pair k key value m (blocks.pair n) its is)
    puts_over (Remove k) o n l (inl may) has = absurd (cc may)
    puts_over (Remove k) o n l (inr (may, more)) has = absurd (cc may)
    puts_over (RemoveEntry k) o n l (inl may) has = absurd (cc may)
    puts_over (RemoveEntry k) o n l (inr (may, more)) has = absurd (cc may)
    puts_over (RemoveIf k) o n l (inl may) has = absurd (cc may)
    puts_over (RemoveIf k) o n l (inr (may, more)) has = absurd (more refl)
