-- What a call has asked about before: no pair twice, but where it only chooses whether to remove it.
use Rattle.std.specs.Prelude.{◌≡◌, ◌≢◌, ℕ, ◌<◌, ◌⊎◌, Bool, true, false, List, Option, Some, None}
use Rattle.map_facts_late.specs.Given.RawDeclared.machines.asking.Asking.TheVariants as asking
use Rattle.map_facts_late.specs.Given.RawDeclared.machines.asking.Replies.{Replies}
use Rattle.map_facts_late.specs.Given.RawDeclared.machines.asking.Takes.TheVariants as takes
use Rattle.map_facts_late.specs.Given.RawDeclared.machines.asking.Told.TheVariants as tells
use Rattle.map_facts_late.specs.Given.RawDeclared.machines.call.Calling.{Calling}
use Rattle.map_facts_late.specs.Given.RawDeclared.machines.call.Calling.TheVariants as at
use Rattle.map_facts_late.specs.Given.RuleChart.{Chart, Holds, Still}
use Rattle.map_facts_late.specs.Given.RuleWords.{Blocks, place_word}
use Rattle.many_calls.specs.Asked.{Asked, last_reply}

module _ {K V : Type 0} (hash : K → ℕ) (c : Chart K) (blocks : Blocks) (keys : K → Bool) (asked : List (Asked V)) where
  -- it was told something about this pair
  abbrev pub WasAsked : ℕ → Type 0
  WasAsked n = last_reply (Some n) asked ≢ None

  -- the pair has left the map
  abbrev pub HasGone : ℕ → Type 0
  HasGone n = (n < c.stored) × (c.current n ≡ false)

  -- the pair has one of the call's keys, and can still be looked at
  abbrev pub IsOfKeys : ℕ → Type 0
  IsOfKeys n = (n < c.stored) × (blocks.pair_known n ≡ true) × (k : K) × (c.key n ≡ Some k) × (keys k ≡ true)

  -- it is the one that the call remembers
  abbrev pub IsRecalled : Replies K V → ℕ → Type 0
  IsRecalled r n = IsOfKeys n × (blocks.pair n ≡ r.pair) × (r.present ≢ tells.Nothing)

  -- the word is that of a pair that it was told nothing about
  abbrev pub IsNew : ℕ → Type 0
  IsNew word = (n : ℕ) × IsOfKeys n × (borrowed : Bool) × (word ≡ place_word hash c blocks (Holds n Still borrowed)) × (last_reply (Some n) asked ≡ None)

  -- Each pair that it was asked about has left the map, but the one that it remembers. Where it asks, all have, and the pair is a new one.
  abbrev pub AskedAt : Replies K V → Calling → Type 0
  AskedAt r (at.Asks (asking.Present word)) = (r.takes ≢ takes.Choices) × IsNew word × ((n : ℕ) → WasAsked n → HasGone n)
  AskedAt r (at.Counts removed) = Unit {0}
  AskedAt r (at.Disposes dispose answer) = Unit {0}
  AskedAt r (at.Drops end) = Unit {0}
  AskedAt r (at.Over end) = Unit {0}
  AskedAt r _ = (r.takes ≢ takes.Choices) × ((n : ℕ) → WasAsked n → HasGone n ⊎ IsRecalled r n)

  -- what a call keeps of that, with its key, if it may store one: choices are not remembered
  abbrev pub AsksOnce : Option K → Replies K V → Calling → Type 0
  AsksOnce None r stands = Unit {0}
  AsksOnce (Some key) r stands = AskedAt r stands
