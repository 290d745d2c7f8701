-- What a map had of a call's keys, at a moment.
use Rattle.std.specs.Prelude.{◌≡◌, ℕ, ◌<◌, ◌≤◌, Bool, true, false, Some}
use Rattle.map_facts.specs.Given.RawDeclared.machines.answer.KeyAnswer.{KeyAnswer}
use Rattle.map_facts.specs.Given.RawDeclared.machines.answer.KeyAnswer.TheVariants as answers
use Rattle.map_facts.specs.Given.RuleChart.{Phase, Holds, Chart}
use Rattle.map_facts.specs.Given.RuleWords.{Blocks, place_word}

module _ {K : Type 0} (hash : K → ℕ) (c : Chart K) (blocks : Blocks) (keys : K → Bool) where
  -- at this moment, the map had this pair, which has one of the keys
  abbrev pub HadPair : ℕ → ℕ → Type 0
  HadPair m n = (n < c.stored) × (c.was m n ≡ true) × (k : K) × (c.key n ≡ Some k) × (keys k ≡ true)

  -- it had none of them, nor a pair that came later
  abbrev pub HadNone : ℕ → Type 0
  HadNone m = ((n : ℕ) → c.was m n ≡ true → n < c.stored) × ((n : ℕ) (k : K) → n < c.stored → c.was m n ≡ true → c.key n ≡ Some k → keys k ≡ false)

  -- an answer that changes nothing was so at this moment
  abbrev pub WasSo : ℕ → KeyAnswer → Type 0
  WasSo m (answers.Found word) =
      (n : ℕ) × HadPair m n × (blocks.pair_known n ≡ true) × (phase : Phase) × (borrowed : Bool) × (word ≡ place_word hash c blocks (Holds n phase borrowed))
  WasSo m answers.Absent = HadNone m
  WasSo m _ = ⊥

  -- since then, the answer was so
  abbrev pub SoSince : ℕ → KeyAnswer → Type 0
  SoSince began answer = (m : ℕ) × (began ≤ m) × (m ≤ c.now) × WasSo m answer
