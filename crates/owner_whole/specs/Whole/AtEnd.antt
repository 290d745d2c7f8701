-- What a whole call on one key answers, and what the list of the map's pairs is then.
use Rattle.std.specs.Prelude.{◌≡◌, ℕ, Bool, true, List, [], ◌∷◌, ◌++◌, Some, None}
use Rattle.seize_words.specs.OneMemory.Mem.{Mem, value_at}
use Rattle.seize.specs.World.{World}
use Rattle.map_tables.specs.declared.node.Node.{Node}
use Rattle.map_tables.specs.declared.node.Node.TheVariants as node
use Rattle.map_tables.specs.declared.setting.Setting.{Setting}
use Rattle.papaya_raw.specs.declared.machines.answer.KeyAnswer.{KeyAnswer}
use Rattle.papaya_raw.specs.declared.machines.answer.KeyAnswer.TheVariants as answers
use Rattle.map_measures.specs.Given.RuleChart.{Phase, Holds, Still, Chart}
use Rattle.map_measures.specs.Given.RuleWords.{Blocks, place_word}
use Rattle.map_measures.specs.Given.RuleInWorld.{IsMapIn}
use Rattle.owner_facts.specs.Given.PointsFactsCalls.{Stored, Replaced, Removed}
use Rattle.owner_facts.specs.Given.PointsSteps.{AreLawful}
use Rattle.map_measures.specs.Given.CallersPairs.{Given, StoresGiven}
use Rattle.owner_facts.specs.Given.CallersTogether.{CallOnKey, AnswersOnce}
use Rattle.owner_whole.specs.Whole.Contents.{pair_for, without, AreContents, HasRun, HasPairFor}

-- By an answer: from the pairs xs, the map has come to the pairs ys. What was stored is what the call was given, or was told,
-- and what was replaced or removed is the pair of the key's class that the map had.
module _ {K V : Type 0} (same : K → K → Bool) (hash : K → ℕ) (m0 : Mem (Node K V)) (blocks0 : Blocks) (m : Mem (Node K V)) (c : Chart K) (seen : Blocks) (given : Given K V) (k : K)
    (xs ys : List (K × V)) where
  -- the word is one for pair n, which is this one
  abbrev pub IsWordOf : ℕ → ℕ → K → V → Type 0
  IsWordOf word n j v =
      (phase : Phase) × (borrowed : Bool) × (word ≡ place_word hash c seen (Holds n phase borrowed)) × (value_at m (seen.pair n) ≡ Some (node.Pair j v))

  abbrev pub AnswersSo : KeyAnswer → Type 0
  AnswersSo (answers.Found word) = (ys ≡ xs) × (n : ℕ) × (j : K) × (v : V) × (pair_for same k xs ≡ Some (j, v)) × IsWordOf word n j v
  AnswersSo answers.Absent = (ys ≡ xs) × (pair_for same k xs ≡ None)
  AnswersSo (answers.Stored word) =
      (pair_for same k xs ≡ None) × (n : ℕ) × (j : K) × (v : V) × (ys ≡ xs ++ ((j, v) ∷ [])) × IsWordOf word n j v × StoresGiven hash m c seen given (Stored n)
  AnswersSo (answers.Replaced old new) =
      (o : ℕ) × HasPairFor same m0 blocks0 k xs o × (n : ℕ) × (j : K) × (v : V) × (ys ≡ without same k xs ++ ((j, v) ∷ [])) × IsWordOf new n j v
      × ((borrowed : Bool) × (old ≡ place_word hash c seen (Holds o Still borrowed))) × StoresGiven hash m c seen given (Replaced o n)
  AnswersSo (answers.Removed word) =
      (o : ℕ) × HasPairFor same m0 blocks0 k xs o × (ys ≡ without same k xs) × ((borrowed : Bool) × (word ≡ place_word hash c seen (Holds o Still borrowed))) × StoresGiven hash m c seen given (Removed o)

module _ {K Q : Type 0} (V : Type 0) (same : K → K → Bool) (hash : K → ℕ) (asks : Q → K → Bool) (setting : Setting) (slot : ℕ → ℕ) where
  -- Where a call on one key began at these pairs, and answers, its answer tells of them, and of the pairs that the map has then.
  abbrev pub AnswersTellThePairs : Type 0
  AnswersTellThePairs =
      AreLawful same hash → (w0 : World (Node K V)) (c0 : Chart K) (blocks0 : Blocks) → IsMapIn same hash setting w0 c0 blocks0
      → (w : World (Node K V)) (c : Chart K) (blocks seen : Blocks) → IsMapIn same hash setting w c blocks → ((o : ℕ) → c.current o ≡ true → seen.pair o ≡ blocks.pair o)
      → (u : CallOnKey K V Q) → u.began ≡ c0.now → (k : K) → ((j : K) → u.keys j ≡ same k j) → HasRun same hash setting u.keys w0.memory c0 blocks0 u.change w.memory c blocks
      → (answer : KeyAnswer) → AnswersOnce V same hash asks setting slot w c seen 0 u u.change answer
      → (xs : List (K × V)) → AreContents w0.memory c0 blocks0 xs
      → (ys : List (K × V)) × AreContents w.memory c blocks ys × AnswersSo same hash w0.memory blocks0 w.memory c seen u.pair k xs ys answer
