-- What the last change of a map for one owner took out of it, and what it met at its key: the words of these pairs, and the pairs.
use Rattle.std.specs.Prelude.{ℕ, Bool, true, List, Option, Some, None, Result, Ok, Err, is_some}
use Rattle.seize_words.specs.OneMemory.Mem.{Mem, value_at}
use Rattle.seize_words.specs.OneMemory.Word.{block_in}
use Rattle.map_tables.specs.declared.node.Node.{Node}
use Rattle.map_tables.specs.declared.node.Node.TheVariants as node
use Rattle.map_tables.specs.declared.setting.Setting.{Setting}
use Rattle.papaya_raw.specs.declared.machines.answer.KeyAnswer.{KeyAnswer}
use Rattle.papaya_raw.specs.declared.machines.answer.KeyAnswer.TheVariants as answers
use Rattle.owner_asks.specs.declared.computing.Computed.{Computed}
use Rattle.owner_asks.specs.declared.computing.Computed.TheVariants as computed
use Rattle.owner_calls.specs.Owned.Owned.{Holds, IsPairAt}
use Rattle.owner_calls.specs.declared.machines.Stop.{Stop}
use Rattle.owner_calls.specs.declared.machines.Stop.TheVariants as stop
use Rattle.owner_rests.specs.declared.last.Last.{Last}

-- neither pair
abbrev pub no_words : Last
no_words = record { taken = None; met = None }

-- the words that an answer tells: of the pair that was taken out, and of the one that was met or put
abbrev pub words_of : KeyAnswer → Last
words_of answers.Absent = no_words
words_of (answers.Found word) = record { taken = None; met = Some word }
words_of (answers.Stored word) = record { taken = None; met = Some word }
words_of (answers.Replaced old new) = record { taken = Some old; met = Some new }
words_of (answers.Removed word) = record { taken = Some word; met = None }

-- those that the end of a call tells
abbrev pub words_of_stop : Stop → Last
words_of_stop (stop.Answered answer) = words_of answer
words_of_stop (stop.Asks asked) = no_words

abbrev pub words_of_end : {E : Type 0} → Result KeyAnswer E → Last
words_of_end (Ok answer) = words_of answer
words_of_end (Err e) = no_words

abbrev pub words_of_computing : {T E : Type 0} → Result (Computed T) E → Last
words_of_computing (Ok (computed.Changed answer)) = words_of answer
words_of_computing (Ok (computed.Aborted end answer)) = words_of answer
words_of_computing (Err e) = no_words

module _ {K V : Type 0} where
  -- the pair that a block has, if it has one
  abbrev pub pair_of : Option (Node K V) → Option (K × V)
  pair_of (Some (node.Pair key value)) = Some (key, value)
  pair_of _ = None

  -- the pair of a word, if there is one
  unfoldable pub pair_in : Mem (Node K V) → Option ℕ → Option (K × V)
  pair_in m None = None
  pair_in m (Some word) = pair_of (value_at m (block_in word))

  -- a word, where there is one, is that of a pair
  unfoldable pub is_named : Mem (Node K V) → Option ℕ → Bool
  is_named m None = true
  is_named m (Some word) = is_some (pair_of (value_at m (block_in word)))

  -- this pair stands in the block of a word, or there is neither
  abbrev pub IsPairOf : Mem (Node K V) → Option ℕ → Option (K × V) → Type 0
  IsPairOf m None None = Unit {0}
  IsPairOf m (Some word) (Some x) = IsPairAt m word x
  IsPairOf m word pair = ⊥

-- The map rests in this memory with these pairs, and the words name the pair that the last change took out of it, if it took one, and the one that it met at its
-- key or put there, if there is one. Both can be looked at.
pub record QuiescentWith {K V : Type 0} (same : K → K → Bool) (hash : K → ℕ) (setting : Setting) (m : Mem (Node K V)) (last : Last) (xs : List (K × V)) (taken met : Option (K × V)) : Type 0 where
  pub holds : Holds same hash setting m xs
  pub taken_is : IsPairOf m last.taken taken
  pub met_is : IsPairOf m last.met met
