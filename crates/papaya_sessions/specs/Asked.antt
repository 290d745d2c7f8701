-- What a session has done by a call that asks its caller's closure, and that the pairs which its answer names are those of one finite map.
use Rattle.std.specs.Prelude.{◌≡◌, ℕ, Bool, Option, Some, None, Ok}
use Rattle.play_moves.specs.Given.ActsActs.{RemoveIf, TryToInsertWith}
use Rattle.play_moves.specs.Given.ErrandsCalling.{is_put, outcome_of, pair_there}
use Rattle.play_moves.specs.Given.ErrandsLooking.{HasRun}
use Rattle.play_moves.specs.OneHistory.Calls.{Became, CameIn, GaveWay, TookItsPlace, WentOut, HasAborted, HasComputedPair, HasKept, HasOneWith, HasRemovedIfPair}
use Rattle.papaya_raw.specs.declared.machines.progress.Answer.{Answer}
use Rattle.seize_words.specs.declared.operation.Operation.{Operation}
use Rattle.threads_updates.specs.Given.CallsAnswers.{removed_by}
use Rattle.threads_updates.specs.Given.CallersDeclared.caller.MapCaller.{MapCaller}
use Rattle.threads_updates.specs.Given.CallsShown.{IsPairLent}
use Rattle.threads_updates.specs.Updated.{HasComputed, named_by}
use Rattle.threads_updates.specs.declared.changing.ComputedPair.{ComputedPair}
use Rattle.threads_updates.specs.declared.changing.ComputedPair.TheVariants as computed

module _ {K V S : Type 0} (same : K → K → Bool) (hash : S → K → ℕ) (key : K) where
  -- it has made one call more, which stores what is made where the key is missing, and whose answer says whether that was stored, and names the pair that is there then
  abbrev pub HasTriedWith : Bool → ℕ → MapCaller K V S → MapCaller K V S → Type 0
  HasTriedWith stored word c n =
      (answer : Answer) × HasRun same hash (TryToInsertWith key) (outcome_of (Ok answer)) c.seat.view n.seat.view × (stored ≡ is_put answer) × (pair_there answer ≡ Some word)

  -- and it is what is lent by that word that its map had
  abbrev pub MapHasNamedWith : Bool → ℕ → MapCaller K V S → MapCaller K V S → Type 0
  MapHasNamedWith stored word c n =
      HasTriedWith stored word c n × ((pair : K × V) → IsPairLent same hash n word pair → HasOneWith same hash n.blocks.now.words.fixed n.seat.id n.seat.view key pair)

  -- or it lends the value of that pair
  abbrev pub MapHasOneWith : V → MapCaller K V S → MapCaller K V S → Type 0
  MapHasOneWith lent c n =
      (stored : Bool) × (word : ℕ) × HasTriedWith stored word c n
      × (found : K) × IsPairLent same hash n word (found, lent) × HasOneWith same hash n.blocks.now.words.fixed n.seat.id n.seat.view key (found, lent)

  -- one that removes the pair of the key if a test says yes of it, and whose answer names that one, if it has
  abbrev pub HasRemovedIf : Option ℕ → MapCaller K V S → MapCaller K V S → Type 0
  HasRemovedIf taken c n = (answer : Answer) × HasRun same hash (RemoveIf key) (outcome_of (Ok answer)) c.seat.view n.seat.view × (removed_by answer ≡ taken)

  -- and it is what is lent by that word that its map gave up; or this has left it
  abbrev pub MapGaveUpIf : Option ℕ → MapCaller K V S → MapCaller K V S → Type 0
  MapGaveUpIf (Some word) c n =
      HasRemovedIf (Some word) c n × ((pair : K × V) → IsPairLent same hash n word pair → HasRemovedIfPair same hash n.blocks.now.words.fixed n.seat.id n.seat.view key pair)
  MapGaveUpIf None c n = HasRemovedIf None c n × HasKept same hash n.blocks.now.words.fixed n.seat.id n.seat.view key

  -- By the call that it has ended last this became of what is lent by this word,
  abbrev pub BecameSo : Became → ℕ → MapCaller K V S → Type 0
  BecameSo became word n = (pair : K × V) → IsPairLent same hash n word pair → HasComputedPair same hash n.blocks.now.words.fixed n.seat.id n.seat.view became key pair

  -- which is so of the pairs that are named; or nothing was to change.
  abbrev pub MapTold : {T : Type 0} → ComputedPair T → MapCaller K V S → Type 0
  MapTold (computed.Inserted new) n = BecameSo CameIn new.word n
  MapTold (computed.Updated old new) n = BecameSo GaveWay old.word n × BecameSo TookItsPlace new.word n
  MapTold (computed.Removed old) n = BecameSo WentOut old.word n
  MapTold (computed.Aborted end) n = HasAborted same hash n.blocks.now.words.fixed n.seat.id n.seat.view key

module _ {K V S T : Type 0} (same : K → K → Bool) (hash : S → K → ℕ) (Is : K → Type 0) (Gives : Option (K × V) → Operation V T → Type 0) where
  -- Calls that compute were told what is said; the last one, on a key that is so, has come to this, and the pairs that it names are those of its map:
  abbrev pub MapComputed : ComputedPair T → MapCaller K V S → MapCaller K V S → Type 0
  MapComputed done c n = (has : HasComputed same hash Is Gives done c.seat.view n.seat.view) × MapTold same hash has.told.0 done n

  -- of them this one is told.
  abbrev pub MapNamed : Option ℕ → MapCaller K V S → MapCaller K V S → Type 0
  MapNamed named c n = (done : ComputedPair T) × MapComputed done c n × (named_by done ≡ named)
