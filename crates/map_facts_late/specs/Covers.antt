-- What a sweep has come to in its table: which pairs were in the map since it began to go over it, and which of them it has shown, or was told to keep.
use Rattle.std.specs.Prelude.{◌≡◌, ◌≢◌, ℕ, suc, ◌+◌, ◌<◌, ◌≤◌, Bool, true, false, cond, eqb, ◌&&◌, List, [], ◌∷◌, ◌⊎◌}
use Rattle.map_facts.specs.Given.SweepsSweepPoints.{removes}
use Rattle.map_facts.specs.Given.ReservesDeclared.sweep.Purpose.{Purpose}
use Rattle.map_facts.specs.Given.ReservesDeclared.sweep.Purpose.TheVariants.{Walks, Clears, Retains}
use Rattle.map_facts.specs.Given.ReservesDeclared.sweep.Sweep.{Sweep}
use Rattle.map_facts.specs.Given.ReservesDeclared.sweep.Sweeping.{Sweeping}
use Rattle.map_facts.specs.Given.ReservesDeclared.sweep.Sweeping.TheVariants as at
use Rattle.map_facts.specs.Given.RuleChart.{Phase, Holds, Chart}
use Rattle.map_facts.specs.Given.RuleWords.{Blocks, place_word}
use Rattle.map_facts.specs.Given.RuleMoments.{Names}

-- how often a pair is in a list
abbrev pub times : ℕ → List ℕ → ℕ
times n [] = 0
times n (x ∷ xs) = cond (eqb n x) 1 0 + times n xs

-- after a clearing, no pair is left; after a walk each was shown, and after a retaining each was told to be kept
abbrev pub IsKept : Purpose → ℕ → List ℕ → Type 0
IsKept Clears n done = ⊥
IsKept Walks n done = 0 < times n done
IsKept Retains n done = 0 < times n done

module _ {K : Type 0} (c : Chart K) (entered : ℕ) where
  -- the pair was in the map at a moment since then, or at each
  abbrev pub WasSince : ℕ → Type 0
  WasSince n = (m : ℕ) × (entered ≤ m) × (m ≤ c.now) × (c.was m n ≡ true)

  abbrev pub WasAlways : ℕ → Type 0
  WasAlways n = (m : ℕ) → entered ≤ m → m ≤ c.now → c.was m n ≡ true

  -- the pairs of this list were in the map, and none is in it twice
  abbrev pub AreShown : List ℕ → Type 0
  AreShown done = ((n : ℕ) → 0 < times n done → WasSince n) × ((n : ℕ) → times n done ≤ 1)

  -- What a sweep comes to at its end: each pair that was in the map at each moment was shown, or told to be kept.
  pub record Came (purpose : Purpose) (done : List ℕ) : Type 0 where
    pub since : entered ≤ c.now
    pub all : (n : ℕ) → WasAlways n → IsKept purpose n done
    pub shown : AreShown done

  -- what it has come to at this place of table t
  pub record Covers (t place : ℕ) (purpose : Purpose) (met : Bool) (done : List ℕ) : Type 0 where
    pub since : entered ≤ c.now
    -- the table names pairs that were in the map, and all that were there at each moment
    pub named : (i n : ℕ) (phase : Phase) (borrowed : Bool) → c.place t i ≡ Holds n phase borrowed → WasSince n
    pub stands : (n : ℕ) → WasAlways n → Names c t n
    -- behind its place, all of these are done, unless it has met a mark that it passes
    pub behind : (removes purpose && met) ≡ false → (i n : ℕ) (phase : Phase) (borrowed : Bool) → i < place → c.place t i ≡ Holds n phase borrowed → WasAlways n → IsKept purpose n done
    -- what is done stands before its place, or nowhere in the table
    pub shown : AreShown done
    pub before : (n : ℕ) → 0 < times n done → (n < c.stored) × ((i : ℕ) (phase : Phase) (borrowed : Bool) → place ≤ i → c.place t i ≢ Holds n phase borrowed)

  -- the pair that it asks about: it is not done, and stands at this place, or nowhere in the table
  pub record Asked (t place : ℕ) (done : List ℕ) (n : ℕ) : Type 0 where
    pub was : WasSince n
    pub stored : n < c.stored
    pub fresh : times n done ≡ 0
    pub here : (o : ℕ) (phase : Phase) (borrowed : Bool) → c.place t place ≡ Holds o phase borrowed → WasAlways o → o ≡ n
    pub nowhere_else : (i : ℕ) (phase : Phase) (borrowed : Bool) → place < i → c.place t i ≢ Holds n phase borrowed

module _ {K : Type 0} (hash : K → ℕ) (c : Chart K) (blocks : Blocks) where
  -- the word names this pair, which can be looked at
  abbrev pub NamesPair : ℕ → ℕ → Type 0
  NamesPair word n = (n < c.stored) × (blocks.pair_known n ≡ true) × (phase : Phase) × (borrowed : Bool) × (word ≡ place_word hash c blocks (Holds n phase borrowed))

  module _ (p : Sweep) (entered : ℕ) (done : List ℕ) where
    -- in the table that it goes over
    abbrev pub CoversTo : ℕ → Type 0
    CoversTo place = Covers c entered p.table.turn place p.purpose p.met done

    -- what it has come to at a point
    abbrev pub CoversAt : Sweeping → Type 0
    CoversAt at.Ready = ((p.table.len ≡ 0) × Came c entered p.purpose done) ⊎ ((0 < p.table.len) × CoversTo p.place)
    CoversAt at.Words = CoversTo p.place
    CoversAt (at.Asks word) = CoversTo p.place × (n : ℕ) × NamesPair word n × Asked c entered p.table.turn p.place done n
    CoversAt (at.Tries word) = CoversTo p.place
    CoversAt (at.Counts removed) = CoversTo (suc p.place)
    CoversAt (at.Disposes dispose) = CoversTo (suc p.place)
    CoversAt at.Over = Came c entered p.purpose done
    CoversAt _ = Unit {0}
