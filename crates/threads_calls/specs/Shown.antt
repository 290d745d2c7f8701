-- What one of those who share a map shows of its pairs.
use Rattle.std.specs.Prelude.{◌≡◌, ℕ, Bool, Some}
use Rattle.seize_words.specs.OneMemory.Word.{block_in}
use Rattle.seize_blocks.specs.Given.SeizeSeatsLendings.{IsValueOf}
use Rattle.map_tables.specs.declared.node.Node.TheVariants.{Pair}
use Rattle.threads_callers.specs.Given.CallKindsKinds.{PairIsVisible}
use Rattle.threads_callers.specs.Given.ViewsLooks.{shown_in}
use Rattle.threads_callers.specs.Given.ViewsRule.{Holds}
use Rattle.threads_callers.specs.Given.ErrandsLooking.{HasLookedAt}
use Rattle.threads_callers.specs.declared.caller.MapCaller.{MapCaller}

module _ {K V S : Type 0} where
  -- the caller shows the pair of this word
  abbrev pub Shows : MapCaller K V S → ℕ → Type 0
  Shows c word = PairIsVisible (shown_in c.seat.view.held) word

module _ {K V S : Type 0} (same : K → K → Bool) where
  -- and its key is equal to this one
  abbrev pub IsShown : K → MapCaller K V S → ℕ → Type 0
  IsShown key c word = HasLookedAt same key c.seat.view word

module _ {K V S : Type 0} (same : K → K → Bool) (hash : S → K → ℕ) where
  -- it is the pair of this word that is shown, as it is in the memory while the seat knows what it knows
  abbrev pub IsPairLent : MapCaller K V S → ℕ → K × V → Type 0
  IsPairLent c word pair =
      (shown_in c.seat.view.held (block_in word) ≡ Some (Pair pair.0 pair.1))
      × IsValueOf (Holds same hash c.blocks.now.words.fixed) c.seat.id c.seat.view (block_in word) (Pair pair.0 pair.1)

  -- and this is its value
  abbrev pub IsLent : MapCaller K V S → ℕ → V → Type 0
  IsLent c word value =
      (key : K) × (shown_in c.seat.view.held (block_in word) ≡ Some (Pair key value))
      × IsValueOf (Holds same hash c.blocks.now.words.fixed) c.seat.id c.seat.view (block_in word) (Pair key value)
