-- The map that one owner has in a memory of its own, between its calls, and its pairs as a list.
use Rattle.std.specs.Prelude.{◌≡◌, ℕ, ◌%◌, ◌^◌, ◌<◌, ◌≤◌, Bool, true, List, [], ◌∷◌, ◌++◌, Result, Ok, Err, Option, Some, None, fold, if◌then◌else◌, ◌⊎◌}
use Rattle.std.specs.Int.{IsPowerOfTwo}
use Rattle.seize_words.specs.OneMemory.Mem.{Mem, value_at}
use Rattle.seize_words.specs.OneMemory.Word.{block_in}
use Rattle.seize.specs.World.{World}
use Rattle.map_tables.specs.declared.node.Node.{Node}
use Rattle.map_tables.specs.declared.node.Node.TheVariants as node
use Rattle.map_tables.specs.declared.setting.Setting.{Setting}
use Rattle.map_tables.specs.Chunks.{is_incremental}
use Rattle.papaya_raw.specs.declared.machines.answer.Called.TheVariants as called
use Rattle.papaya_raw.specs.declared.machines.answer.KeyAnswer.{KeyAnswer}
use Rattle.papaya_raw.specs.declared.machines.answer.KeyAnswer.TheVariants as answers
use Rattle.map_straight.specs.Given.RuleChart.{Chart}
use Rattle.map_straight.specs.Given.RuleWords.{Blocks}
use Rattle.owner_whole.specs.Given.PointsSteps.{AreLawful}
use Rattle.owner_whole.specs.Given.AloneCounting.{IsCounted}
use Rattle.owner_whole.specs.Given.CallersKind.{Kind}
use Rattle.owner_whole.specs.Given.CallersSights.{Visible}
use Rattle.owner_whole.specs.Given.LateKinds.{Fits, FaultFits, OutcomeFits}
use Rattle.owner_whole.specs.Whole.Contents.{AreContents}
use Rattle.owner_whole.specs.Whole.Owner.{IsQuiescent}
use Rattle.owner_whole.specs.Strides.Standing.{Standing, Waits}
use Rattle.owner_calls.specs.declared.machines.Stop.{Stop}
use Rattle.owner_calls.specs.declared.machines.Stop.TheVariants as stop
use Rattle.seize_words.specs.declared.fault.Fault.{Fault}
use Rattle.seize_words.specs.declared.fault.Fault.TheVariants.{Capacity}
use Rattle.map_straight.specs.Shown.Chain.{CannotGrowIn}

-- the hash that a hasher gives to what a key writes
abbrev pub hashed_by : {K S H : Type 0} → (H → ℕ) → (H → List ℕ → H) → (S → H) → (K → List (List ℕ)) → S → K → ℕ
hashed_by finish write build input hasher key = finish (fold write (build hasher) (input key)) % 2 ^ 64

module _ {K V : Type 0} (keys : K → Bool) where
  -- the pair of these keys
  abbrev pub found_by : List (K × V) → Option (K × V)
  found_by [] = None
  found_by (x ∷ xs) = if keys x.0 then Some x else found_by xs

  -- all pairs but those of these keys
  abbrev pub left_by : List (K × V) → List (K × V)
  left_by [] = []
  left_by (x ∷ xs) = if keys x.0 then left_by xs else x ∷ left_by xs

module _ {K V : Type 0} (same : K → K → Bool) (hash : K → ℕ) (setting : Setting) where
  -- The map rests in this memory, with these pairs, in the order in which they were stored. One word counts them.
  pub record Holds (m : Mem (Node K V)) (xs : List (K × V)) : Type 0 where
    pub lawful : AreLawful same hash
    pub initial : IsPowerOfTwo setting.initial
    pub few : setting.initial ≤ 2 ^ 48
    pub one_shard : setting.mask ≡ 0
    pub incremental : is_incremental setting.mode ≡ true
    pub size : setting.batch_size < 2 ^ 64
    pub world : World (Node K V)
    pub chart : Chart K
    pub blocks : Blocks
    pub sights : ℕ → Visible
    pub memory : world.memory ≡ m
    pub rests : IsQuiescent {K = K} {V = V} {Q = K} same hash same setting (λ i. setting.slot) world chart blocks sights
    pub counted : IsCounted setting world.memory chart
    pub are : AreContents world.memory chart blocks xs

-- This is the word of the pair that the list has of these keys, or it has none.
abbrev pub IsWordOf : {K V : Type 0} → (K → Bool) → Mem (Node K V) → List (K × V) → Option ℕ → Type 0
IsWordOf keys m xs None = found_by keys xs ≡ None
IsWordOf {K} {V} keys m xs (Some word) = (k : K) × (v : V) × (value_at m (block_in word) ≡ Some (node.Pair k v)) × (found_by keys xs ≡ Some (k, v))

-- this pair stands in the block of a word
abbrev pub IsPairAt : {K V : Type 0} → Mem (Node K V) → ℕ → K × V → Type 0
IsPairAt m word x = value_at m (block_in word) ≡ Some (node.Pair x.0 x.1)

-- the pair of a word, where there is one, is this one
abbrev pub IsShownAt : {K V : Type 0} → Mem (Node K V) → Option ℕ → Option (K × V) → Type 0
IsShownAt m None shown = shown ≡ None
IsShownAt {K} {V} m (Some word) shown = (x : K × V) × (shown ≡ Some x) × IsPairAt m word x

-- some pair does
abbrev pub NamesAPair : {K V : Type 0} → Mem (Node K V) → ℕ → Type 0
NamesAPair {K} {V} m word = (k : K) × (v : V) × (value_at m (block_in word) ≡ Some (node.Pair k v))

module _ {K V : Type 0} (same : K → K → Bool) (hash : K → ℕ) (setting : Setting) (m : Mem (Node K V)) (kind : Kind) (pair : Option (Node K V)) (keys : K → Bool) (xs : List (K × V)) where
  -- What a call that was begun with this pair, if with one, has come to, by its answer: the pairs that the map had, and has. In the block of a word that it tells
  -- is the pair that was found, stored, replaced or removed. One that was replaced or removed waits there, apart from those of the map.
  abbrev pub AnswersBy : KeyAnswer → Type 0
  AnswersBy answers.Absent = (found_by keys xs ≡ None) × Holds same hash setting m xs
  AnswersBy (answers.Found word) =
      (j : K) × (v : V) × (found_by keys xs ≡ Some (j, v)) × (value_at m (block_in word) ≡ Some (node.Pair j v)) × Holds same hash setting m xs
  AnswersBy (answers.Stored word) =
      (found_by keys xs ≡ None) × (j : K) × (v : V) × (pair ≡ Some (node.Pair j v)) × (value_at m (block_in word) ≡ Some (node.Pair j v)) × Holds same hash setting m (xs ++ ((j, v) ∷ []))
  AnswersBy (answers.Replaced old new) =
      (x : K × V) × (found_by keys xs ≡ Some x) × IsPairAt m old x × (j : K) × (v : V) × (pair ≡ Some (node.Pair j v)) × (value_at m (block_in new) ≡ Some (node.Pair j v))
      × Holds same hash setting m (left_by keys xs ++ ((j, v) ∷ [])) × Waits m (block_in old) x (left_by keys xs ++ ((j, v) ∷ []))
  AnswersBy (answers.Removed word) =
      (x : K × V) × (found_by keys xs ≡ Some x) × IsPairAt m word x × Holds same hash setting m (left_by keys xs) × Waits m (block_in word) x (left_by keys xs)

  -- Where it is refused, no pair has changed, and where that is for the length of a table, none can follow the last one.
  abbrev pub EndsBy : Result Stop Fault → Type 0
  EndsBy (Ok (stop.Answered answer)) = Fits kind.present kind.absent kind.takes answer × AnswersBy answer
  EndsBy (Ok (stop.Asks asked)) = OutcomeFits kind.present kind.absent kind.takes {T = Node K V} (called.Asks asked)
  EndsBy (Err fault) = FaultFits kind.present kind.absent kind.takes fault × Holds same hash setting m xs × (fault ≡ Capacity → CannotGrowIn m setting)

-- an answer with which the call's own pair is in the map
abbrev pub PutsIt : KeyAnswer → Type 0
PutsIt (answers.Stored word) = Unit {0}
PutsIt (answers.Replaced old new) = Unit {0}
PutsIt _ = ⊥

-- The pair that a call was begun with comes back, unless it is in the map.
abbrev pub IsReturned : {N : Type 0} → Option N → Result Stop Fault → Option N → Type 0
IsReturned pair (Ok (stop.Answered answer)) back = PutsIt answer ⊎ (back ≡ pair)
IsReturned pair _ back = back ≡ pair

-- Between two changes each pair of the map stands in a block of its own.
abbrev pub PairsStand : Type 0 → Type 0 → Type 0
PairsStand K V =
    (same : K → K → Bool) (hash : K → ℕ) (setting : Setting) (m : Mem (Node K V)) (xs : List (K × V)) → Holds same hash setting m xs → (blocks : List ℕ) × Standing m blocks xs
