-- What a session has done by one call more, and that its answer is so in one finite map, at a moment of that call: by the caller that it was, and the one that it is.
use Rattle.std.specs.Prelude.{◌≡◌, ◌==◌, ℕ, Bool, true, false, Option, Some, None, Ok, option_map}
use Rattle.play_moves.specs.OneHistory.Calls.{FoundNone, FoundValue, HasInserted, HasLooked, HasOne, HasRefused, HasRemoved as HasGivenUp, HasRemovedPair, HasReplacedPair, HasTried as HasLacked}
use Rattle.play_moves.specs.OneHistory.Whole.{HasCleared, HasCounted, HasMadeRoom, HasRetained, HasWalked}
use Rattle.play_moves.specs.Given.ActsActs.{Wanted}
use Rattle.papaya_sessions.specs.Sessions.{HasBeenRefused, HasGot, HasSought}
use Rattle.threads_updates.specs.Given.CallsAnswers.{HasMeasured, HasOneThere, HasRemoved, HasReplaced, HasReserved, HasStored, HasSweptAll, HasTakenOut, HasTried}
use Rattle.threads_updates.specs.Given.CallersDeclared.caller.MapCaller.{MapCaller}
use Rattle.threads_updates.specs.Given.CallsShown.{IsPairLent}
use Rattle.threads_sweeps.specs.Swept.{HasShown, HasSifted}
use Rattle.seize_words.specs.declared.fault.Fault.{Fault}

module _ {K V S : Type 0} (same : K → K → Bool) (hash : S → K → ℕ) where
  -- it has looked this key up, and its map had no pair of it, or had one with the value that is lent
  abbrev pub MapHad : K → Option V → MapCaller K V S → MapCaller K V S → Type 0
  MapHad key None c n = HasGot same hash key None c n × FoundNone same hash n.blocks.now.words.fixed n.seat.id n.seat.view key
  MapHad key (Some value) c n = HasGot same hash key (Some value) c n × FoundValue same hash n.blocks.now.words.fixed n.seat.id n.seat.view key value

  -- it has asked for this key, and its map had a pair of it, or none
  abbrev pub MapHadOne : K → Bool → MapCaller K V S → MapCaller K V S → Type 0
  MapHadOne key there c n = HasSought same hash key there c n × HasLooked same hash n.blocks.now.words.fixed n.seat.id n.seat.view key there

  -- it has stored this pair, which its map came to have in the place of another one, or of none
  abbrev pub MapCameToHave : K → V → Bool → MapCaller K V S → MapCaller K V S → Type 0
  MapCameToHave key value replaced c n =
      HasStored same hash key value replaced c.seat.view n.seat.view × HasInserted same hash n.blocks.now.words.fixed n.seat.id n.seat.view key value replaced

  -- and it names the other one by this word: it is what it lends by that
  abbrev pub MapHadBefore : K → V → ℕ → MapCaller K V S → MapCaller K V S → Type 0
  MapHadBefore key value word c n =
      HasReplaced same hash key value (Some word) c.seat.view n.seat.view
      × ((pair : K × V) → IsPairLent same hash n word pair → HasReplacedPair same hash n.blocks.now.words.fixed n.seat.id n.seat.view key value pair)

  -- it has tried to, and its map had no pair of this key, and came to have this one, or it had another one
  abbrev pub MapLacked : K → V → Bool → MapCaller K V S → MapCaller K V S → Type 0
  MapLacked key value stored c n =
      HasTried same hash key value stored c.seat.view n.seat.view × HasLacked same hash n.blocks.now.words.fixed n.seat.id n.seat.view key value stored

  -- it has removed the pair of this key, which its map had till then, or it had none
  abbrev pub MapGaveUp : K → Bool → MapCaller K V S → MapCaller K V S → Type 0
  MapGaveUp key removed c n = HasRemoved same hash key removed c.seat.view n.seat.view × HasGivenUp same hash n.blocks.now.words.fixed n.seat.id n.seat.view key removed

  -- and it lends that pair, which its call names as the one that was removed, and which its map had under the number that it gave up
  abbrev pub MapGaveUpPair : K → Option (K × V) → MapCaller K V S → MapCaller K V S → Type 0
  MapGaveUpPair key None c n = MapGaveUp key false c n
  MapGaveUpPair key (Some pair) c n =
      MapGaveUp key true c n × HasRemovedPair same hash n.blocks.now.words.fixed n.seat.id n.seat.view key pair
      × (word : ℕ) × HasTakenOut same hash key (Some word) c.seat.view n.seat.view × IsPairLent same hash n word pair

  -- or it lends its value,
  abbrev pub MapGaveUpValue : K → Option V → MapCaller K V S → MapCaller K V S → Type 0
  MapGaveUpValue key value c n = (pair : Option (K × V)) × (value ≡ option_map (λ p. p.1) pair) × MapGaveUpPair key pair c n

  -- or names it by this word, and it is what it lends by that
  abbrev pub MapGaveUpNamed : K → ℕ → MapCaller K V S → MapCaller K V S → Type 0
  MapGaveUpNamed key word c n =
      HasTakenOut same hash key (Some word) c.seat.view n.seat.view
      × ((pair : K × V) → IsPairLent same hash n word pair → HasRemovedPair same hash n.blocks.now.words.fixed n.seat.id n.seat.view key pair)

  -- it has tried to store this pair, and names the one that is there then, as its map had it
  abbrev pub MapHasNamed : K → V → ℕ → MapCaller K V S → MapCaller K V S → Type 0
  MapHasNamed key value word c n =
      HasOneThere same hash key value word c.seat.view n.seat.view
      × ((pair : K × V) → IsPairLent same hash n word pair → HasOne same hash n.blocks.now.words.fixed n.seat.id n.seat.view key value pair.1)

  -- it has tried to store this pair, and lends the value of the pair that its call names as the one that is there then, as its map had it
  abbrev pub MapHasOne : K → V → V → MapCaller K V S → MapCaller K V S → Type 0
  MapHasOne key value lent c n =
      ((stored : Bool) × MapLacked key value stored c n) × HasOne same hash n.blocks.now.words.fixed n.seat.id n.seat.view key value lent
      × (word : ℕ) × HasOneThere same hash key value word c.seat.view n.seat.view
      × (found : K) × IsPairLent same hash n word (found, lent)

  -- or it was to do this, and was refused so
  abbrev pub WasRefused : Wanted K V → Fault → MapCaller K V S → MapCaller K V S → Type 0
  WasRefused wanted fault c n = HasBeenRefused same hash wanted fault c n × HasRefused same hash n.blocks.now.words.fixed n.seat.id n.seat.view wanted fault

  -- It has counted so many pairs, which the shards of its map's count said, each at a moment of the call,
  abbrev pub MapCounted : ℕ → MapCaller K V S → MapCaller K V S → Type 0
  MapCounted count c n = HasMeasured same hash count c.seat.view n.seat.view × HasCounted same hash n.blocks.now.words.fixed n.seat.id n.seat.view count

  -- or whether that is 0;
  abbrev pub MapLookedEmpty : Bool → MapCaller K V S → MapCaller K V S → Type 0
  MapLookedEmpty empty c n = (count : ℕ) × MapCounted count c n × (empty ≡ (count == 0))

  -- it has made room for so many more than were counted;
  abbrev pub MapHadRoom : ℕ → MapCaller K V S → MapCaller K V S → Type 0
  MapHadRoom additional c n = HasReserved same hash additional c.seat.view n.seat.view × HasMadeRoom same hash n.blocks.now.words.fixed n.seat.id n.seat.view additional

  -- it has gone over its map, and no pair is left that this had all the time,
  abbrev pub MapWasCleared : MapCaller K V S → MapCaller K V S → Type 0
  MapWasCleared c n = HasSweptAll same hash c.seat.view n.seat.view × HasCleared same hash n.blocks.now.words.fixed n.seat.id n.seat.view

  -- but those that a test has kept;
  abbrev pub MapWasSifted : MapCaller K V S → MapCaller K V S → Type 0
  MapWasSifted c n = HasSifted same hash (Ok tt) c.seat.view n.seat.view × HasRetained same hash n.blocks.now.words.fixed n.seat.id n.seat.view

  -- or each of those was shown.
  abbrev pub MapWasShown : MapCaller K V S → MapCaller K V S → Type 0
  MapWasShown c n = HasShown same hash (Ok tt) c.seat.view n.seat.view × HasWalked same hash n.blocks.now.words.fixed n.seat.id n.seat.view
