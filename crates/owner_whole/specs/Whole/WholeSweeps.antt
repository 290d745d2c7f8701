-- What is promised of whole sweeps for one owner: walks, clearings and retainings.
use Rattle.std.specs.Prelude.{◌≡◌, ◌⊎◌, ℕ, ◌<◌, ◌≤◌, ◌%◌, ◌^◌, ◌+◌, suc, Bool, true, List, ◌∷◌, Some}
use Rattle.std.specs.Int.{IsPowerOfTwo}
use Rattle.seize_words.specs.OneMemory.Mem.{Mem, Can, Took, value_at}
use Rattle.seize_words.specs.OneMemory.Plan.{May, Steps}
use Rattle.seize_words.specs.OneMemory.Word.{block_in}
use Rattle.seize_words.specs.declared.fault.Fault.{Fault}
use Rattle.seize.specs.World.{World}
use Rattle.map_tables.specs.Chunks.{is_incremental}
use Rattle.map_tables.specs.declared.node.Node.{Node}
use Rattle.map_tables.specs.declared.node.Node.TheVariants as node
use Rattle.map_tables.specs.declared.setting.Setting.{Setting}
use Rattle.papaya_raw.specs.Given.SweepsSweep.{sweep_plan}
use Rattle.papaya_raw.specs.Given.SweepsSweepPoints.{sweeping, after_next, after_reply}
use Rattle.papaya_raw.specs.Given.ReservesDeclared.sweep.Purpose.{Purpose}
use Rattle.papaya_raw.specs.Given.ReservesDeclared.sweep.Sweep.{Sweep}
use Rattle.papaya_raw.specs.Given.ReservesDeclared.sweep.Sweeping.{Sweeping}
use Rattle.papaya_raw.specs.Given.ReservesDeclared.sweep.Sweeping.TheVariants as at
use Rattle.papaya_raw.specs.Given.ReservesDeclared.sweep.Swept.{Swept}
use Rattle.papaya_raw.specs.Given.ReservesDeclared.sweep.Swept.TheVariants as swept
use Rattle.map_measures.specs.Given.RuleChart.{Phase, Holds, Chart}
use Rattle.map_measures.specs.Given.RuleWords.{Blocks, place_word}
use Rattle.owner_facts.specs.Given.PointsSteps.{AreLawful}
use Rattle.owner_facts.specs.Alone.Counting.{pairs_in, shards_sum, IsCounted}
use Rattle.owner_facts.specs.Alone.Endings.{RunsEnd}
use Rattle.map_measures.specs.Given.LateCovers.{times, Came}
pub use Rattle.map_measures.specs.Passes.FallsSweeps.{AdvancesFrom}
use Rattle.owner_facts.specs.Given.CallersOverAll.{CallOverAll, begun_over_all, gone_on, come_to, with_verdict, RemovesAsReplied}
use Rattle.owner_facts.specs.Given.CallersSights.{Visible}
use Rattle.owner_facts.specs.Given.CallersTogether.{OverAll, in_slot, IsReclaimed}
use Rattle.map_measures.specs.Given.LateFaults.{HoldsInSweeping, SweepRefusesSo}
use Rattle.owner_whole.specs.Whole.Limits.{IsForTheLast, IsTheLast}
use Rattle.owner_whole.specs.Whole.LoneSweeps.{goes_once}
use Rattle.owner_whole.specs.Whole.Owner.{IsQuiescent, IsAlone}
use Rattle.owner_whole.specs.Whole.SweptPairs.{HasSwept}

module _ {K V : Type 0} (hash : K → ℕ) (m : Mem (Node K V)) (c : Chart K) (blocks : Blocks) where
  -- the word names pair n of the map: its block is there, and has this key and this value
  pub record NamesPairOf (word n : ℕ) (k : K) (v : V) : Type 0 where
    pub stored : n < c.stored
    pub is_there : c.current n ≡ true
    pub value : value_at m (blocks.pair n) ≡ Some (node.Pair k v)
    pub block : block_in word ≡ blocks.pair n
    pub phase : Phase
    pub borrowed : Bool
    pub word_is : word ≡ place_word hash c blocks (Holds n phase borrowed)

  -- a pair that was not shown before, nor told to be kept
  abbrev pub NamesNew : List ℕ → ℕ → ℕ → K → V → Type 0
  NamesNew done word n k v = NamesPairOf word n k v × (times n done ≡ 0)

  -- What is shown, or asked about, is such a pair. What is done then is one pair more where a walk has shown it; else it is the same, or a sweep begins anew.
  abbrev pub ShowsNew : Bool → List ℕ → List ℕ → Swept (Node K V) → Type 0
  ShowsNew once done done2 (swept.Pair word) = (n : ℕ) × (k : K) × (v : V) × NamesNew done word n k v × (done2 ≡ n ∷ done)
  ShowsNew once done done2 (swept.Asks word) = ((n : ℕ) × (k : K) × (v : V) × NamesNew done2 word n k v) × (once ≡ true → done2 ≡ done)
  ShowsNew once done done2 _ = once ≡ true → done2 ≡ done

-- the shards of the counter say one pair more than the map has, where its removal is still to be counted
abbrev pub uncounted : Sweeping → ℕ
uncounted (at.Counts removed) = 1
uncounted _ = 0

abbrev pub IsCountedBut : {K T : Type 0} → Setting → Mem T → Chart K → Sweeping → Type 0
IsCountedBut setting m c stands = shards_sum m setting.counter (suc setting.mask) % 2 ^ 64 ≡ pairs_in c + uncounted stands

-- Where a sweep begins, and where it has ended, that is what the shards say of the map.
abbrev pub SweptPairsCounted : Type 0 → Type 0 → Type 0
SweptPairsCounted K V =
    (setting : Setting) (m : Mem (Node K V)) (c : Chart K)
    → ((its : Setting) (purpose : Purpose) → IsCounted setting m c → IsCountedBut setting m c (sweeping its purpose).stands)
    × (IsCountedBut setting m c at.Over → IsCounted setting m c) × ((fault : Fault) → IsCountedBut setting m c (at.Refused fault) → IsCounted setting m c)

-- what a sweep is asked, or told, counts nothing
abbrev pub TellingCountsNothing : Type 0
TellingCountsNothing = (p : Sweep) → (uncounted (after_next p).stands ≡ uncounted p.stands) × ((keeps : Bool) → uncounted (after_reply p keeps).stands ≡ uncounted p.stands)

-- nor does it change the purpose
abbrev pub RepliesPreserveThePurpose : Type 0
RepliesPreserveThePurpose = (p : Sweep) → ((after_next p).purpose ≡ p.purpose) × ((keeps : Bool) → (after_reply p keeps).purpose ≡ p.purpose)

module _ {K V : Type 0} (hash : K → ℕ) where
  -- a sweep takes a step, or is asked for the next pair, or told whether to keep one
  abbrev pub SweepsOn : Sweep × Mem (Node K V) → Sweep × Mem (Node K V) → Type 0
  SweepsOn x y =
      ((end : Swept (Node K V)) × AdvancesFrom x.0.stands end × Steps Took value_at x.1 (sweep_plan hash x.0) y.1 (y.0, end))
      ⊎ ((y.1 ≡ x.1) × (((x.0.stands ≡ at.Ready) × (y.0 ≡ after_next x.0)) ⊎ ((word : ℕ) × (x.0.stands ≡ at.Asks word) × (keeps : Bool) × (y.0 ≡ after_reply x.0 keeps))))

  -- the whole sweep terminates, whatever it is told
  abbrev pub Terminates : Sweep → Mem (Node K V) → Type 0
  Terminates p m = RunsEnd (Sweep × Mem (Node K V)) SweepsOn (p, m)

module _ {K V Q : Type 0} (same : K → K → Bool) (hash : K → ℕ) (asks : Q → K → Bool) (setting : Setting) (slot : ℕ → ℕ) where
  -- After a step, by what it tells: it never waits. It is alone still, and stands where it says; or it has ended, and the owner rests. What a row gives back
  -- was in a block that no section held.
  abbrev pub SweepLeads : World (Node K V) → World (Node K V) → Chart K → Blocks → (ℕ → Visible) → CallOverAll → Swept (Node K V) → Type 0
  SweepLeads w w2 c2 blocks2 sights2 o swept.Goes = IsAlone {Q = Q} same hash asks setting slot w2 c2 blocks2 sights2 (OverAll o)
  SweepLeads w w2 c2 blocks2 sights2 o swept.Waits = ⊥
  SweepLeads w w2 c2 blocks2 sights2 o (swept.Gave value) = IsAlone {Q = Q} same hash asks setting slot w2 c2 blocks2 sights2 (OverAll o) × IsReclaimed w w2 value
  SweepLeads w w2 c2 blocks2 sights2 o swept.Ready = IsAlone {Q = Q} same hash asks setting slot w2 c2 blocks2 sights2 (OverAll o) × (o.sweep.stands ≡ at.Ready)
  SweepLeads w w2 c2 blocks2 sights2 o (swept.Pair word) = IsAlone {Q = Q} same hash asks setting slot w2 c2 blocks2 sights2 (OverAll o) × (o.sweep.stands ≡ at.Ready)
  SweepLeads w w2 c2 blocks2 sights2 o (swept.Asks word) = IsAlone {Q = Q} same hash asks setting slot w2 c2 blocks2 sights2 (OverAll o) × (o.sweep.stands ≡ at.Asks word)
  SweepLeads w w2 c2 blocks2 sights2 o swept.Done = IsQuiescent {K = K} {V = V} {Q = Q} same hash asks setting slot w2 c2 blocks2 sights2 × (o.sweep.stands ≡ at.Over)
  SweepLeads w w2 c2 blocks2 sights2 o (swept.Refused fault) =
      IsQuiescent {K = K} {V = V} {Q = Q} same hash asks setting slot w2 c2 blocks2 sights2 × (o.sweep.stands ≡ at.Refused fault)

  -- what has run since the map stood so, up to this state
  abbrev pub RunsTo : Mem (Node K V) → Chart K → Blocks → List ℕ → CallOverAll → Mem (Node K V) → Chart K → Blocks → Type 0
  RunsTo m0 c0 blocks0 asked o m c blocks = HasSwept (is_incremental setting.mode) m0 c0 blocks0 asked o m c blocks

  -- Where a step leads, be it one of a row of the collector: what the sweep has come to, what it shows or asks about, which pair it has removed, if any, what
  -- has run since the map stood in some way, and that the shards of the counter count on.
  pub record SweepStepLeads (w : World (Node K V)) (c : Chart K) (blocks : Blocks) (o : CallOverAll) (m2 : Mem (Node K V)) (p2 : Sweep) (end : Swept (Node K V)) : Type 0 where
    pub w2 : World (Node K V)
    pub c2 : Chart K
    pub blocks2 : Blocks
    pub sights2 : ℕ → Visible
    pub entered2 : ℕ
    pub done2 : List ℕ
    pub memory : w2.memory ≡ m2
    pub leads : SweepLeads w w2 c2 blocks2 sights2 (come_to o entered2 done2 p2) end
    pub tells : ShowsNew hash w2.memory c2 blocks2 (goes_once (is_incremental setting.mode) o.sweep.purpose) o.done done2 end
    pub removes : RemovesAsReplied o c c2
    pub purpose : p2.purpose ≡ o.sweep.purpose
    pub comes : end ≡ swept.Done → Came c2 entered2 p2.purpose done2
    pub runs : (m0 : Mem (Node K V)) (c0 : Chart K) (blocks0 : Blocks) (asked : List ℕ) → RunsTo m0 c0 blocks0 asked o w.memory c blocks
        → RunsTo m0 c0 blocks0 asked (come_to o entered2 done2 p2) w2.memory c2 blocks2
    pub counts : IsCountedBut setting w.memory c o.sweep.stands → IsCountedBut setting w2.memory c2 p2.stands
    -- in incremental mode it is refused for the length of a table only where the last table of the map cannot be followed, as it is then
    pub ends : is_incremental setting.mode ≡ true → setting.initial ≤ 2 ^ 48 → HoldsInSweeping (IsForTheLast c) (IsTheLast c) o.sweep.stands
        → HoldsInSweeping (IsForTheLast c2) (IsTheLast c2) p2.stands × SweepRefusesSo (IsForTheLast c2) end

module _ {K Q : Type 0} (V : Type 0) (same : K → K → Bool) (hash : K → ℕ) (asks : Q → K → Bool) (setting : Setting) (slot : ℕ → ℕ) where
  abbrev pub Alone : World (Node K V) → Chart K → Blocks → (ℕ → Visible) → CallOverAll → Type 0
  Alone w c blocks sights o = IsAlone {Q = Q} same hash asks setting slot w c blocks sights (OverAll o)

  -- Where the owner rests, a sweep of any purpose begins alone.
  abbrev pub SweepsBeginAlone : Type 0
  SweepsBeginAlone =
      (w : World (Node K V)) (c : Chart K) (blocks : Blocks) (sights : ℕ → Visible) → IsQuiescent {Q = Q} same hash asks setting slot w c blocks sights
      → (purpose : Purpose) → Alone w c blocks sights (begun_over_all c.now (in_slot setting (slot 0)) purpose)

  -- It may take its next step, whether that is its own or one of a row of the collector.
  abbrev pub SweepsContinueAlone : Type 0
  SweepsContinueAlone =
      AreLawful same hash → IsPowerOfTwo setting.initial
      → (w : World (Node K V)) (c : Chart K) (blocks : Blocks) (sights : ℕ → Visible) (o : CallOverAll) → Alone w c blocks sights o
      → May Can Took value_at w.memory (sweep_plan hash o.sweep)
      × ((m2 : Mem (Node K V)) (p2 : Sweep) (end : Swept (Node K V)) → Steps Took value_at w.memory (sweep_plan hash o.sweep) m2 (p2, end)
      → SweepStepLeads {Q = Q} same hash asks setting slot w c blocks o m2 p2 end)

  -- Where it is ready for the next pair, and asked for it, it is alone again. It asks about one pair, and told whether to keep that, it is alone again, too.
  pub record IsReplied (w : World (Node K V)) (c : Chart K) (blocks : Blocks) (sights : ℕ → Visible) (o : CallOverAll) : Type 0 where
    pub next : o.sweep.stands ≡ at.Ready → Alone w c blocks sights (gone_on o (after_next o.sweep))
    pub asks_about : (word : ℕ) → o.sweep.stands ≡ at.Asks word → (n : ℕ) × (k : K) × (v : V) × NamesNew hash w.memory c blocks o.done word n k v
    pub replied : (word n : ℕ) (k : K) (v : V) → o.sweep.stands ≡ at.Asks word → NamesPairOf hash w.memory c blocks word n k v → (keeps : Bool)
        → Alone w c blocks sights (with_verdict o n keeps)
        × ((m0 : Mem (Node K V)) (c0 : Chart K) (blocks0 : Blocks) (asked : List ℕ) → RunsTo {Q = Q} same hash asks setting slot m0 c0 blocks0 asked o w.memory c blocks
        → RunsTo {Q = Q} same hash asks setting slot m0 c0 blocks0 (n ∷ asked) (with_verdict o n keeps) w.memory c blocks)
    pub next_runs : o.sweep.stands ≡ at.Ready → (m0 : Mem (Node K V)) (c0 : Chart K) (blocks0 : Blocks) (asked : List ℕ)
        → RunsTo {Q = Q} same hash asks setting slot m0 c0 blocks0 asked o w.memory c blocks
        → RunsTo {Q = Q} same hash asks setting slot m0 c0 blocks0 asked (gone_on o (after_next o.sweep)) w.memory c blocks

  abbrev pub SweepsRepliedAlone : Type 0
  SweepsRepliedAlone =
      AreLawful same hash → (w : World (Node K V)) (c : Chart K) (blocks : Blocks) (sights : ℕ → Visible) (o : CallOverAll) → Alone w c blocks sights o → IsReplied w c blocks sights o

  -- A whole sweep, with the rows that it begins and all that it is asked and told, terminates.
  abbrev pub SweepsComeToAnEnd : Type 0
  SweepsComeToAnEnd =
      AreLawful same hash → IsPowerOfTwo setting.initial
      → (w : World (Node K V)) (c : Chart K) (blocks : Blocks) (sights : ℕ → Visible) (o : CallOverAll) → Alone w c blocks sights o → Terminates {V = V} hash o.sweep w.memory
