-- The pairs of a map as a list, in the order in which they were stored, and the words on such lists.
use Rattle.std.specs.Prelude.{◌≡◌, ℕ, zero, suc, ◌<◌, ◌≤◌, Bool, true, cond, List, [], ◌∷◌, ◌++◌, Option, Some, None, if◌then◌else◌}
use Rattle.seize_words.specs.OneMemory.Mem.{Mem, value_at}
use Rattle.map_tables.specs.declared.node.Node.{Node}
use Rattle.map_tables.specs.declared.node.Node.TheVariants as node
use Rattle.papaya_raw.specs.declared.machines.answer.KeyAnswer.{KeyAnswer}
use Rattle.papaya_raw.specs.declared.machines.answer.KeyAnswer.TheVariants as answers
use Rattle.map_measures.specs.Given.RuleChart.{Phase, Holds, Chart}
use Rattle.map_measures.specs.Given.RuleWords.{Blocks, place_word}
use Rattle.map_measures.specs.Given.RuleMoments.{Moments}
use Rattle.map_tables.specs.Chunks.{is_incremental}
use Rattle.map_measures.specs.Given.CallersSince.{SoSince}
use Rattle.map_measures.specs.Given.RuleInWorld.{IsMapIn}
use Rattle.owner_facts.specs.Given.PointsFactsCalls.{Change, Unchanged, Stored, Replaced, Removed}
use Rattle.owner_facts.specs.Given.PointsSteps.{AreLawful}
use Rattle.owner_facts.specs.Alone.Alone.{HasChanged}
use Rattle.map_tables.specs.declared.setting.Setting.{Setting}
use Rattle.seize.specs.World.{World}

module _ {K V : Type 0} (same : K → K → Bool) where
  -- the pair of a key's class
  abbrev pub pair_for : K → List (K × V) → Option (K × V)
  pair_for k [] = None
  pair_for k (x ∷ xs) = if same k x.0 then Some x else pair_for k xs

  -- all pairs but those of a key's class
  abbrev pub without : K → List (K × V) → List (K × V)
  without k [] = []
  without k (x ∷ xs) = if same k x.0 then without k xs else x ∷ without k xs

  -- no two keys are of one class
  abbrev pub HasOneEach : List (K × V) → Type 0
  HasOneEach [] = Unit {0}
  HasOneEach (x ∷ xs) = (pair_for x.0 xs ≡ None) × HasOneEach xs

module _ {K V : Type 0} (m : Mem (Node K V)) (c : Chart K) (blocks : Blocks) where
  -- the pairs of the map with numbers below this one: each has the key and the value that its block has
  abbrev pub ContentsBelow : ℕ → List (K × V) → Type 0
  ContentsBelow zero xs = xs ≡ []
  ContentsBelow (suc n) xs =
      cond (c.current n)
      ((ys : List (K × V)) × (k : K) × (v : V) × ContentsBelow n ys × (value_at m (blocks.pair n) ≡ Some (node.Pair k v)) × (xs ≡ ys ++ ((k, v) ∷ [])))
      (ContentsBelow n xs)

  -- all pairs of the map
  abbrev pub AreContents : List (K × V) → Type 0
  AreContents xs = ContentsBelow c.stored xs

-- From one state of a map to a later one: the pairs that it has still were there, with the same values.
pub record KeepsPairs {K V : Type 0} (m : Mem (Node K V)) (c : Chart K) (blocks : Blocks) (m2 : Mem (Node K V)) (c2 : Chart K) (blocks2 : Blocks) : Type 0 where
  pub stored : c.stored ≤ c2.stored
  pub were : (o : ℕ) → o < c.stored → c2.current o ≡ true → c.current o ≡ true
  pub values : (o : ℕ) → o < c.stored → c2.current o ≡ true → value_at m2 (blocks2.pair o) ≡ value_at m (blocks.pair o)

-- while what runs has changed nothing, the map had the same pairs at each moment
abbrev pub StillSince : {K : Type 0} → Chart K → Chart K → Change → Type 0
StillSince c0 c change = change ≡ Unchanged → (n o : ℕ) → c0.now ≤ n → n ≤ c.now → c.was n o ≡ c.current o

-- Since the map stood so, what runs has changed this at its keys, and kept all other pairs.
pub record HasRun {K V : Type 0} (same : K → K → Bool) (hash : K → ℕ) (setting : Setting) (keys : K → Bool) (m0 : Mem (Node K V)) (c0 : Chart K) (blocks0 : Blocks) (change : Change)
    (m : Mem (Node K V)) (c : Chart K) (blocks : Blocks) : Type 0 where
  pub changed : HasChanged same hash setting keys c0 c change
  pub keeps : KeepsPairs m0 c0 blocks0 m c blocks
  pub still : StillSince c0 c change

-- The list has this pair of a key's class: it is the one with this number, with the key and the value that its block has.
abbrev pub HasPairFor : {K V : Type 0} → (K → K → Bool) → Mem (Node K V) → Blocks → K → List (K × V) → ℕ → Type 0
HasPairFor {K} {V} same m blocks k xs o = (i : K) × (x : V) × (value_at m (blocks.pair o) ≡ Some (node.Pair i x)) × (pair_for same k xs ≡ Some (i, x))

module _ {K V : Type 0} (same : K → K → Bool) (m : Mem (Node K V)) (blocks : Blocks) (m2 : Mem (Node K V)) (c2 : Chart K) (blocks2 : Blocks) where
  -- What the list is after a change at a key of this class, by what it was. A pair that is stored has the key and the value that its block has. One that is
  -- replaced or removed was that of the class.
  abbrev pub ContentsThen : K → List (K × V) → Change → Type 0
  ContentsThen k xs Unchanged = AreContents m2 c2 blocks2 xs
  ContentsThen k xs (Stored n) =
      (pair_for same k xs ≡ None) × (j : K) × (v : V) × (value_at m2 (blocks2.pair n) ≡ Some (node.Pair j v)) × AreContents m2 c2 blocks2 (xs ++ ((j, v) ∷ []))
  ContentsThen k xs (Replaced o n) =
      HasPairFor same m blocks k xs o × (j : K) × (v : V) × (value_at m2 (blocks2.pair n) ≡ Some (node.Pair j v)) × AreContents m2 c2 blocks2 (without same k xs ++ ((j, v) ∷ []))
  ContentsThen k xs (Removed o) = HasPairFor same m blocks k xs o × AreContents m2 c2 blocks2 (without same k xs)

-- What an answer tells of the list that changed nothing: its word is that of the pair of the key's class, or there is none.
module _ {K V : Type 0} (same : K → K → Bool) (hash : K → ℕ) (m : Mem (Node K V)) (c : Chart K) (seen : Blocks) where
  abbrev pub IsOfPairs : K → List (K × V) → KeyAnswer → Type 0
  IsOfPairs k xs (answers.Found word) =
      (n : ℕ) × (phase : Phase) × (borrowed : Bool) × (word ≡ place_word hash c seen (Holds n phase borrowed))
      × (j : K) × (v : V) × (value_at m (seen.pair n) ≡ Some (node.Pair j v)) × (pair_for same k xs ≡ Some (j, v))
  IsOfPairs k xs answers.Absent = pair_for same k xs ≡ None
  IsOfPairs k xs _ = ⊥

module _ {K : Type 0} (V : Type 0) (same : K → K → Bool) (hash : K → ℕ) where
  -- The pairs of a map are such a list, in which no two keys are of one class.
  abbrev pub ContentsAre : Type 0
  ContentsAre =
      AreLawful same hash → (setting : Setting) (w : World (Node K V)) (c : Chart K) (blocks : Blocks) → IsMapIn same hash setting w c blocks
      → (xs : List (K × V)) × AreContents w.memory c blocks xs × HasOneEach same xs

  -- What runs has changed nothing yet.
  abbrev pub RunsBegin : Type 0
  RunsBegin = (setting : Setting) (keys : K → Bool) (m : Mem (Node K V)) (c : Chart K) (blocks : Blocks) → Moments (is_incremental setting.mode) c
      → HasRun same hash setting keys m c blocks Unchanged m c blocks

  -- How the list follows what has run at keys of one class.
  abbrev pub ContentsFollow : Type 0
  ContentsFollow =
      AreLawful same hash → (setting : Setting) (w w2 : World (Node K V)) (c c2 : Chart K) (blocks blocks2 : Blocks)
      → IsMapIn same hash setting w c blocks → IsMapIn same hash setting w2 c2 blocks2
      → (keys : K → Bool) (k : K) → ((j : K) → keys j ≡ same k j) → (change : Change) → HasRun same hash setting keys w.memory c blocks change w2.memory c2 blocks2
      → (xs : List (K × V)) → AreContents w.memory c blocks xs → ContentsThen same w.memory blocks w2.memory c2 blocks2 k xs change

  -- An answer of what has changed nothing is of the list as it is.
  abbrev pub AnswersOfPairs : Type 0
  AnswersOfPairs =
      AreLawful same hash → (setting : Setting) (w : World (Node K V)) (c : Chart K) (blocks seen : Blocks) → IsMapIn same hash setting w c blocks
      → ((o : ℕ) → c.current o ≡ true → seen.pair o ≡ blocks.pair o) → (keys : K → Bool) (k : K) → ((j : K) → keys j ≡ same k j)
      → (m0 : Mem (Node K V)) (c0 : Chart K) (blocks0 : Blocks) → HasRun same hash setting keys m0 c0 blocks0 Unchanged w.memory c blocks
      → (answer : KeyAnswer) → SoSince hash c seen keys c0.now answer → (xs : List (K × V)) → AreContents w.memory c blocks xs → IsOfPairs same hash w.memory c seen k xs answer
