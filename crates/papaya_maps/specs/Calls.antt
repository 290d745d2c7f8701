-- What a call on a map that shares its collector has come to, and that its answer is so in one finite map at a moment of that call: by the guard under which a pass has made it, and the
-- owner of the map.
use Rattle.std.specs.Prelude.{◌≡◌, ℕ, Bool, true, Option, Some, None, Ok, Err, IfSome, is_some}
use Rattle.papaya_raw.specs.declared.machines.progress.Answer.{Answer}
use Rattle.papaya_raw.specs.declared.machines.progress.Answer.TheVariants as said
use Rattle.play_moves.specs.OneHistory.Calls.{FoundNone, FoundValue, HasInserted, HasOne, HasRefused, HasRemoved, HasRemovedPair, HasReplacedPair, HasTried}
use Rattle.play_moves.specs.OneHistory.Whole.{HasCounted}
use Rattle.seize_words.specs.declared.fault.Fault.{Fault}
use Rattle.threads_callers.specs.Answers.{removed_by, replaced_by}
use Rattle.threads_callers.specs.Given.ActsActs.{Count, Insert, Remove, TryToInsert, Wanted}
use Rattle.threads_callers.specs.Given.ErrandsCalling.{is_put, outcome_of, pair_there}
use Rattle.threads_callers.specs.Given.ErrandsLooking.{HasFound, HasRun}
use Rattle.threads_callers.specs.Given.ViewsDeclared.view.View.{View}
use Rattle.map_tables.specs.declared.setting.Setting.{Setting}
use Rattle.threads_owners.specs.Loans.{HasDoneOn, IsLentIf}
use Rattle.threads_callers.specs.Standing.{known_as}
use Rattle.threads_callers.specs.declared.caller.MapCaller.{MapCaller}

-- it is this one, if a word is named, or none
abbrev pub IsIf : {A : Type 0} → Option ℕ → Option A → Option A → Type 0
IsIf None it result = result ≡ None
IsIf (Some word) it result = result ≡ it

-- a map that has this setting and this hasher is its own
abbrev pub own_by : {K V S : Type 0} → View K V S → Option (Setting × S)
own_by v = known_as v.own

module _ {K V S : Type 0} (same : K → K → Bool) (hash : S → K → ℕ) (guard owner : MapCaller K V S) where
  -- so it is of what the pass knew as its call had ended, whichever number its seat has
  abbrev pub IsSoOf : View K V S → (ℕ → View K V S → Type 0) → Type 0
  IsSoOf knew So = (id : ℕ) → So id knew

  -- the map had no pair of this key, or it had this one, whose key is equal
  abbrev pub WasHadAs : K → Option (K × V) → View K V S → Type 0
  WasHadAs key None knew = IsSoOf knew (λ id v. FoundNone same hash guard.blocks.now.words.fixed id v key)
  WasHadAs key (Some pair) knew = (same key pair.0 ≡ true) × IsSoOf knew (λ id v. FoundValue same hash guard.blocks.now.words.fixed id v key pair.1)

  -- It has looked this key up, and the pair found is lent, if there was one.
  pub record MapHadOn (key : K) (pair : Option (K × V)) (v w : View K V S) : Type 0 where
    pub found : Option ℕ
    pub on : HasDoneOn (HasFound same hash key found) guard owner v w
    pub lent : IsLentIf same hash guard owner on.knew found pair
    pub had : WasHadAs key pair on.knew

  -- it has run a call that was to do this, and that was answered
  abbrev pub HasRunOn : Wanted K V → Answer → View K V S → View K V S → Type 0
  HasRunOn wanted answer v w = HasDoneOn (HasRun same hash wanted (outcome_of (Ok answer))) guard owner v w

  -- It has stored this pair, which the map came to have in the place of the one that is lent, or of none.
  pub record MapCameToHaveOn (key : K) (value : V) (old : Option (K × V)) (v w : View K V S) : Type 0 where
    pub answer : Answer
    pub on : HasRunOn (Insert key value) answer v w
    pub lent : IsLentIf same hash guard owner on.knew (replaced_by answer) old
    pub has : IsSoOf on.knew (λ id u. HasInserted same hash guard.blocks.now.words.fixed id u key value (is_some old))
    pub was : IfSome old (λ pair. IsSoOf on.knew (λ id u. HasReplacedPair same hash guard.blocks.now.words.fixed id u key value pair))

  -- It has tried to, and the map had no pair of this key, and came to have this one, or it had another one; the one that is there then is lent.
  pub record MapLackedOn (key : K) (value : V) (stored : Bool) (there : K × V) (v w : View K V S) : Type 0 where
    pub answer : Answer
    pub on : HasRunOn (TryToInsert key value) answer v w
    pub lent : IsLentIf same hash guard owner on.knew (pair_there answer) (Some there)
    pub put : stored ≡ is_put answer
    pub tried : IsSoOf on.knew (λ id u. HasTried same hash guard.blocks.now.words.fixed id u key value stored)
    pub one : IsSoOf on.knew (λ id u. HasOne same hash guard.blocks.now.words.fixed id u key value there.1)

  -- It has removed the pair of this key, which is lent, or there was none.
  pub record MapGaveUpOn (key : K) (pair : Option (K × V)) (v w : View K V S) : Type 0 where
    pub answer : Answer
    pub on : HasRunOn (Remove key) answer v w
    pub lent : IsLentIf same hash guard owner on.knew (removed_by answer) pair
    pub gave : IsSoOf on.knew (λ id u. HasRemoved same hash guard.blocks.now.words.fixed id u key (is_some pair))
    pub was : IfSome pair (λ it. IsSoOf on.knew (λ id u. HasRemovedPair same hash guard.blocks.now.words.fixed id u key it))

  -- Or it was to do this, and was refused so.
  pub record WasRefusedOn (wanted : Wanted K V) (fault : Fault) (v w : View K V S) : Type 0 where
    pub on : HasDoneOn (HasRun same hash wanted (outcome_of (Err fault))) guard owner v w
    pub refused : IsSoOf on.knew (λ id u. HasRefused same hash guard.blocks.now.words.fixed id u wanted fault)

  -- It has counted so many pairs, which the shards of the map's count said, each at a moment of the call.
  pub record MapCountedOn (count : ℕ) (v w : View K V S) : Type 0 where
    pub on : HasRunOn Count (said.Count count) v w
    pub counted : IsSoOf on.knew (λ id u. HasCounted same hash guard.blocks.now.words.fixed id u count)
