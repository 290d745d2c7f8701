-- What has become of a key by what is said of its pair, or of none: calls that compute, one after another, of which the last one has changed the map, or was to stop.
use Rattle.std.specs.Prelude.{◌≡◌, ◌⊎◌, ℕ, zero, suc, Bool, Option, Some, None, Result, Ok, Err}
use Rattle.seize_words.specs.declared.fault.Fault.{Fault}
use Rattle.seize_words.specs.declared.fault.Fault.TheVariants.{Memory}
use Rattle.seize_words.specs.declared.operation.Operation.{Operation}
use Rattle.seize_words.specs.declared.operation.Operation.TheVariants as operation
use Rattle.papaya_raw.specs.declared.machines.answer.KeyAnswer.TheVariants as answers
use Rattle.papaya_raw.specs.declared.machines.progress.Answer.{Answer}
use Rattle.papaya_raw.specs.declared.machines.progress.Answer.TheVariants.{Key as OfKey}
use Rattle.threads_calls.specs.Given.StepsAsking.{HasAnswered}
use Rattle.threads_calls.specs.Given.CallersDeclared.caller.MapCaller.{MapCaller}
use Rattle.threads_calls.specs.Given.ActsActs.{Compute}
use Rattle.threads_calls.specs.Given.ViewsDeclared.view.View.{View}
use Rattle.threads_calls.specs.Shown.{Shows}
use Rattle.threads_updates.specs.Computing.{Told}
use Rattle.threads_updates.specs.declared.changing.ComputedPair.{ComputedPair}
use Rattle.threads_updates.specs.declared.changing.ComputedPair.TheVariants as computed

-- it tells of no change
abbrev pub IsLeft : Answer → Type 0
IsLeft (OfKey (answers.Stored word)) = ⊥
IsLeft (OfKey (answers.Replaced old new)) = ⊥
IsLeft (OfKey (answers.Removed word)) = ⊥
IsLeft answer = Unit {0}

-- it tells of this change, and of these pairs, or of none
abbrev pub IsSo : {T : Type 0} → ComputedPair T → Answer → Type 0
IsSo (computed.Inserted new) (OfKey (answers.Stored word)) = word ≡ new.word
IsSo (computed.Updated old new) (OfKey (answers.Replaced was is)) = (was ≡ old.word) × (is ≡ new.word)
IsSo (computed.Removed old) (OfKey (answers.Removed word)) = word ≡ old.word
IsSo (computed.Aborted end) answer = IsLeft answer
IsSo done answer = ⊥

-- where nothing was to change, that was said with this
abbrev pub EndsSo : {T : Type 0} → Option T → ComputedPair T → Type 0
EndsSo end (computed.Aborted with_it) = end ≡ Some with_it
EndsSo end done = Unit {0}

-- and of a pair, or of none
abbrev pub SaysAborted : {K V T : Type 0} → (Option (K × V) → Operation V T → Type 0) → ComputedPair T → Type 0
SaysAborted {K} {V} Gives (computed.Aborted end) = (about : Option (K × V)) × Gives about (operation.Abort end)
SaysAborted Gives done = Unit {0}

-- the pair that was stored, or else the one that was removed
abbrev pub named_by : {T : Type 0} → ComputedPair T → Option ℕ
named_by (computed.Inserted new) = Some new.word
named_by (computed.Updated old new) = Some new.word
named_by (computed.Removed old) = Some old.word
named_by (computed.Aborted end) = None

-- the caller shows the pairs that it names
abbrev pub ShowsNamed : {K V S T : Type 0} → MapCaller K V S → ComputedPair T → Type 0
ShowsNamed c (computed.Inserted new) = Shows c new.word
ShowsNamed c (computed.Updated old new) = Shows c old.word × Shows c new.word
ShowsNamed c (computed.Removed old) = Shows c old.word
ShowsNamed c (computed.Aborted end) = Unit {0}

module _ {K V S T : Type 0} (same : K → K → Bool) (hash : S → K → ℕ) (Is : K → Type 0) (Gives : Option (K × V) → Operation V T → Type 0) where
  -- A call on a key that is so was told what is said, and has told this.
  abbrev pub HasTold : Result Answer Fault → View K V S → View K V S → Type 0
  HasTold told v w = (key : K) × Is key × HasAnswered same hash (Told Gives) (Compute key) told v w

  -- It has changed the map, or was to change nothing; or it has changed nothing so far; or it was refused, or there was no memory for one.
  abbrev pub HasTriedOnce : Result (Option (ComputedPair T)) Fault → View K V S → View K V S → Type 0
  HasTriedOnce (Ok (Some done)) v w = (answer : Answer) × HasTold (Ok answer) v w × IsSo done answer × SaysAborted Gives done
  HasTriedOnce (Ok None) v w = (answer : Answer) × HasTold (Ok answer) v w × IsLeft answer
  HasTriedOnce (Err fault) v w = HasTold (Err fault) v w ⊎ ((w ≡ v) × (fault ≡ Memory))

  -- so many of them have changed nothing
  abbrev pub HasLeft : ℕ → View K V S → View K V S → Type 0
  HasLeft zero v w = w ≡ v
  HasLeft (suc n) v w = (u : View K V S) × HasLeft n v u × HasTriedOnce (Ok None) u w

  -- After such calls one has changed the map, or was to change nothing.
  pub record HasComputed (done : ComputedPair T) (v w : View K V S) : Type 0 where
    pub tries : ℕ
    pub before : View K V S
    pub left : HasLeft tries v before
    pub answer : Answer
    pub told : HasTold (Ok answer) before w
    pub so : IsSo done answer
    pub said : SaysAborted Gives done

  -- Or one was refused with this fault, or there was no memory for one.
  abbrev pub HasStopped : Fault → View K V S → View K V S → Type 0
  HasStopped fault v w = (n : ℕ) × (u : View K V S) × HasLeft n v u × HasTriedOnce (Err fault) u w

-- it is told the pair that this names, if it names one
abbrev pub HasUpdated : {K V S T : Type 0} → (K → K → Bool) → (S → K → ℕ) → (K → Type 0) → (Option (K × V) → Operation V T → Type 0) → Option ℕ → View K V S → View K V S → Type 0
HasUpdated {T = T} same hash Is Gives named v w = (done : ComputedPair T) × HasComputed same hash Is Gives done v w × (named_by done ≡ named)
