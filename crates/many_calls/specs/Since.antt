-- What was so of a map at a moment since a call began: what it had of the call's keys, and how it was changed.
use Rattle.std.specs.Prelude.{◌≡◌, ℕ, suc, ◌<◌, ◌≤◌, Bool, true, false, Some, ◌⊎◌}
use Rattle.map_facts_late.specs.Given.RawDeclared.machines.answer.KeyAnswer.{KeyAnswer}
use Rattle.map_facts_late.specs.Given.RawDeclared.machines.answer.KeyAnswer.TheVariants as answers
use Rattle.map_facts_late.specs.Given.RawDeclared.machines.call.Calling.{Calling}
use Rattle.map_facts_late.specs.Given.RuleChart.{Phase, Holds, Chart, put}
use Rattle.map_facts_late.specs.Given.RuleWords.{Blocks, place_word}
use Rattle.map_facts_late.specs.Given.PointsFactsCalls.{Change, Unchanged, Stored, Replaced, Removed}
use Rattle.map_facts_late.specs.Given.PointsTold.{HasAnswered}

module _ {K : Type 0} (hash : K → ℕ) (c : Chart K) (blocks : Blocks) (keys : K → Bool) where
  -- at this moment, the map had this pair, which has one of the keys
  abbrev pub HadPair : ℕ → ℕ → Type 0
  HadPair m n = (n < c.stored) × (c.was m n ≡ true) × (k : K) × (c.key n ≡ Some k) × (keys k ≡ true)

  -- it had none of them, nor a pair that came later
  abbrev pub HadNone : ℕ → Type 0
  HadNone m = ((n : ℕ) → c.was m n ≡ true → n < c.stored) × ((n : ℕ) (k : K) → n < c.stored → c.was m n ≡ true → c.key n ≡ Some k → keys k ≡ false)

  -- an answer that changes nothing was so at this moment
  abbrev pub WasSo : ℕ → KeyAnswer → Type 0
  WasSo m (answers.Found word) =
      (n : ℕ) × HadPair m n × (blocks.pair_known n ≡ true) × (phase : Phase) × (borrowed : Bool) × (word ≡ place_word hash c blocks (Holds n phase borrowed))
  WasSo m answers.Absent = HadNone m
  WasSo m _ = ⊥

  -- from this moment to the next, the map was changed so, and not otherwise
  abbrev pub WasChanged : ℕ → Change → Type 0
  WasChanged m Unchanged = ⊥
  WasChanged m (Stored n) = HadNone m × ((x : ℕ) → c.was (suc m) x ≡ put (c.was m) n true x)
  WasChanged m (Replaced o n) = HadPair m o × ((x : ℕ) → c.was (suc m) x ≡ put (put (c.was m) o false) n true x)
  WasChanged m (Removed o) = HadPair m o × ((x : ℕ) → c.was (suc m) x ≡ put (c.was m) o false x)

  -- since this moment, the map was changed so, if it was
  abbrev pub ChangedSince : ℕ → Change → Type 0
  ChangedSince began change = (change ≡ Unchanged) ⊎ ((m : ℕ) × (began ≤ m) × (m < c.now) × WasChanged m change)

  -- since then, the answer was so
  abbrev pub SoSince : ℕ → KeyAnswer → Type 0
  SoSince began answer = (m : ℕ) × (began ≤ m) × (m ≤ c.now) × WasSo m answer

  -- of a call that began then: its change was made since, and if it has made none, the answer that it has come to was so
  pub record Since (began : ℕ) (change : Change) (stands : Calling) : Type 0 where
    pub began_before : began ≤ c.now
    pub changed : ChangedSince began change
    pub answered : change ≡ Unchanged → (answer : KeyAnswer) → HasAnswered answer stands → SoSince began answer
