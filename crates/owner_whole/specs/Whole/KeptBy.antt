-- A retaining that is told to keep just the pairs that pass a test: what it leaves of the list. And the list of the pairs that a walk has shown.
use Rattle.std.specs.Prelude.{◌≡◌, ℕ, ◌<◌, Bool, true, cond, List, [], ◌∷◌, filter, IsPermutation, Some}
use Rattle.seize_words.specs.OneMemory.Mem.{Mem, value_at}
use Rattle.seize.specs.World.{World}
use Rattle.map_tables.specs.declared.node.Node.{Node}
use Rattle.map_tables.specs.declared.node.Node.TheVariants as node
use Rattle.map_tables.specs.declared.setting.Setting.{Setting}
use Rattle.papaya_raw.specs.Given.ReservesDeclared.sweep.Purpose.TheVariants.{Walks, Retains}
use Rattle.papaya_raw.specs.Given.ReservesDeclared.sweep.Sweeping.TheVariants as at
use Rattle.map_measures.specs.Given.RuleChart.{Chart}
use Rattle.map_measures.specs.Given.RuleWords.{Blocks}
use Rattle.map_measures.specs.Given.RuleInWorld.{IsMapIn}
use Rattle.map_measures.specs.Given.LateCovers.{times, Came}
use Rattle.owner_facts.specs.Given.CallersOverAll.{CallOverAll}
use Rattle.owner_whole.specs.Whole.Contents.{AreContents}
use Rattle.owner_whole.specs.Whole.LoneSweeps.{goes_once}
use Rattle.owner_whole.specs.Whole.SweptPairs.{HasSwept, is_done}

module _ {K V : Type 0} (test : K → V → Bool) (m0 : Mem (Node K V)) (blocks0 : Blocks) where
  -- of the pairs that it was told about, it was told to keep just those that pass the test
  abbrev pub KeptBy : List ℕ → List ℕ → Type 0
  KeptBy asked done = (n : ℕ) (k : K) (v : V) → 0 < times n asked → value_at m0 (blocks0.pair n) ≡ Some (node.Pair k v) → is_done done n ≡ test k v

  -- So it is before it was told anything,
  abbrev pub KeptBegins : Type 0
  KeptBegins = (done : List ℕ) → KeptBy [] done

  -- and so it stays where it is told of one more pair, and by the test.
  abbrev pub KeptReplied : Type 0
  KeptReplied =
      (asked done : List ℕ) → KeptBy asked done → (n : ℕ) → times n asked ≡ 0 → times n done ≡ 0 → (k : K) (v : V) → value_at m0 (blocks0.pair n) ≡ Some (node.Pair k v)
      → KeptBy (n ∷ asked) (cond (test k v) (n ∷ done) done)

  -- Where it is done, and goes over one table alone, it has left just the pairs that pass.
  abbrev pub KeptAtEnd : Type 0
  KeptAtEnd =
      (incremental : Bool) (m : Mem (Node K V)) (c0 c : Chart K) (blocks : Blocks) (asked : List ℕ) (o : CallOverAll) → HasSwept incremental m0 c0 blocks0 asked o m c blocks
      → Came c o.entered o.sweep.purpose o.done → o.sweep.stands ≡ at.Over → goes_once incremental o.sweep.purpose ≡ true → o.sweep.purpose ≡ Retains → KeptBy asked o.done
      → (xs : List (K × V)) → AreContents m0 c0 blocks0 xs → AreContents m c blocks (filter (λ x. test x.0 x.1) xs)

module _ {K V : Type 0} (m : Mem (Node K V)) (blocks : Blocks) where
  -- the pairs of these numbers, one for each, in their order
  abbrev pub AreShownAs : List ℕ → List (K × V) → Type 0
  AreShownAs [] ps = ps ≡ []
  AreShownAs (n ∷ done) ps = (k : K) × (v : V) × (qs : List (K × V)) × (value_at m (blocks.pair n) ≡ Some (node.Pair k v)) × AreShownAs done qs × (ps ≡ (k, v) ∷ qs)

-- A walk that is done has shown the pairs of the list, each once, in some order.
abbrev pub WalksShowAll : {K : Type 0} → Type 0 → (K → K → Bool) → (K → ℕ) → Type 0
WalksShowAll {K} V same hash =
    (setting : Setting) (w : World (Node K V)) (c : Chart K) (blocks : Blocks) → IsMapIn same hash setting w c blocks
    → (incremental : Bool) (m0 : Mem (Node K V)) (c0 : Chart K) (blocks0 : Blocks) (asked : List ℕ) (o : CallOverAll) → HasSwept incremental m0 c0 blocks0 asked o w.memory c blocks
    → Came c o.entered o.sweep.purpose o.done → o.sweep.stands ≡ at.Over → o.sweep.purpose ≡ Walks
    → (xs ps : List (K × V)) → AreContents m0 c0 blocks0 xs → AreShownAs m0 blocks0 o.done ps → IsPermutation ps xs
