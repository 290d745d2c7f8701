-- What is promised of whole reservations and countings for one owner.
use Rattle.std.specs.Prelude.{◌≡◌, ℕ, suc, ◌%◌, ◌^◌, ◌≤◌, Bool, true, List, length}
use Rattle.std.specs.Int.{IsPowerOfTwo}
use Rattle.seize_words.specs.OneMemory.Mem.{Mem, Can, Took, value_at}
use Rattle.seize_words.specs.OneMemory.Plan.{May, Steps}
use Rattle.seize.specs.World.{World}
use Rattle.seize.specs.declared.advance.Advance.{Advance}
use Rattle.seize.specs.declared.advance.Advance.TheVariants as progress
use Rattle.map_tables.specs.declared.node.Node.{Node}
use Rattle.map_tables.specs.declared.setting.Setting.{Setting}
use Rattle.map_measures.specs.Given.ResizeSum.{summing, sum_plan}
use Rattle.map_measures.specs.Given.ResizeDeclared.yielding.Yielding.{Yielding}
use Rattle.map_measures.specs.Given.ResizeDeclared.yielding.Yielding.TheVariants as outcome
use Rattle.map_measures.specs.Given.ResizeDeclared.sum.Sum.{Sum}
use Rattle.papaya_raw.specs.Given.ReservesReserve.{reserving, reserve_plan}
use Rattle.papaya_raw.specs.Given.ReservesDeclared.reserve.Reserve.{Reserve}
use Rattle.map_measures.specs.Given.RuleChart.{Chart}
use Rattle.map_measures.specs.Given.RuleWords.{Blocks}
use Rattle.map_measures.specs.Given.RuleMaps.{spot_of}
use Rattle.map_measures.specs.Given.RuleRule.{Rule}
use Rattle.map_tables.specs.Chunks.{is_incremental}
use Rattle.map_tables.specs.Counts.{count_in}
use Rattle.owner_facts.specs.Given.PointsFactsCalls.{Unchanged}
use Rattle.owner_facts.specs.Alone.Counted.{HasAdded}
use Rattle.owner_facts.specs.Alone.Counting.{IsCounted, count_ahead, shards_sum}
use Rattle.map_measures.specs.Given.RuleInWorld.{IsMapIn}
use Rattle.owner_whole.specs.Whole.Contents.{AreContents, HasRun}
use Rattle.owner_facts.specs.Given.PointsSteps.{AreLawful}
use Rattle.owner_facts.specs.Maps.AloneReserves.{SumsUp, LooksAtRoot, KeepsToRoot}
use Rattle.owner_facts.specs.Maps.EndingsReserves.{Terminates}
use Rattle.owner_facts.specs.Given.CallersRooms.{CallForRoom}
use Rattle.owner_facts.specs.Given.CallersSights.{Visible}
use Rattle.owner_facts.specs.Given.CallersTogether.{ForRoom, Counting, in_slot, IsReclaimed}
use Rattle.map_measures.specs.Given.LateFaults.{RefusesSo, HoldsInReserving}
use Rattle.owner_whole.specs.Whole.Limits.{IsForRoom, IsTheLast}
use Rattle.owner_whole.specs.Whole.Owner.{IsQuiescent, IsAlone}

-- this reservation, where it goes on
abbrev pub room_so : CallForRoom → Reserve → CallForRoom
room_so r p = record { began = r.began; reserve = p }

module _ {K V Q : Type 0} (same : K → K → Bool) (hash : K → ℕ) (asks : Q → K → Bool) (setting : Setting) (slot : ℕ → ℕ) where
  -- After a step of a reservation, by what it tells: it never waits. It is alone still, or has ended, and the owner rests.
  abbrev pub RoomLeads : World (Node K V) → World (Node K V) → Chart K → Blocks → (ℕ → Visible) → CallForRoom → Yielding (Node K V) Unit → Type 0
  RoomLeads w w2 c2 blocks2 sights2 r outcome.Goes = IsAlone {Q = Q} same hash asks setting slot w2 c2 blocks2 sights2 (ForRoom r)
  RoomLeads w w2 c2 blocks2 sights2 r outcome.Waits = ⊥
  RoomLeads w w2 c2 blocks2 sights2 r (outcome.Gave value) = IsAlone {Q = Q} same hash asks setting slot w2 c2 blocks2 sights2 (ForRoom r) × IsReclaimed w w2 value
  RoomLeads w w2 c2 blocks2 sights2 r (outcome.Done end) = IsQuiescent {K = K} {V = V} {Q = Q} same hash asks setting slot w2 c2 blocks2 sights2
  RoomLeads w w2 c2 blocks2 sights2 r (outcome.Refused fault) = IsQuiescent {K = K} {V = V} {Q = Q} same hash asks setting slot w2 c2 blocks2 sights2

  -- where a step leads, be it one of a row of the collector: no pair of the map has changed
  pub record RoomStepLeads (w : World (Node K V)) (c : Chart K) (blocks : Blocks) (r : CallForRoom) (m2 : Mem (Node K V)) (p2 : Reserve) (end : Yielding (Node K V) Unit) : Type 0 where
    pub w2 : World (Node K V)
    pub c2 : Chart K
    pub blocks2 : Blocks
    pub sights2 : ℕ → Visible
    pub memory : w2.memory ≡ m2
    pub same_pairs : c2.current ≡ c.current
    pub leads : RoomLeads w w2 c2 blocks2 sights2 (room_so r p2) end
    pub runs : (keys : K → Bool) (m0 : Mem (Node K V)) (c0 : Chart K) (blocks0 : Blocks) → Rule same (spot_of hash) (is_incremental setting.mode) c0
        → HasRun same hash setting keys m0 c0 blocks0 Unchanged w.memory c blocks → HasRun same hash setting keys m0 c0 blocks0 Unchanged w2.memory c2 blocks2
    -- the shards of the counter say what they did
    pub counts : (m0 : Mem (Node K V)) (more : ℕ) → HasAdded setting m0 more w.memory → HasAdded setting m0 more w2.memory
    -- in incremental mode, it keeps to the root, and at its end that has the places for the pairs that the shards say, and for the further ones
    pub places : is_incremental setting.mode ≡ true → LooksAtRoot c r.reserve.stands → SumsUp setting w.memory r.reserve.stands → KeepsToRoot setting w2.memory c2 (p2, end)
    -- and it is refused for the length of a table only where the last table of the map cannot be followed, as it is then, or so many further pairs need too many
    -- places, by themselves, or beside those that the shards say
    pub ends : is_incremental setting.mode ≡ true → setting.initial ≤ 2 ^ 48 → SumsUp setting w.memory r.reserve.stands
        → (count : ℕ) → count_in (shards_sum w.memory setting.counter (suc setting.mask) % 2 ^ 64) ≡ count
        → HoldsInReserving (IsForRoom c r.reserve.additional count) (IsTheLast c) r.reserve.stands
        → HoldsInReserving (IsForRoom c2 r.reserve.additional count) (IsTheLast c2) p2.stands × RefusesSo (IsForRoom c2 r.reserve.additional count) end

  -- After a step of a counting, it is alone still, or has ended, and the owner rests.
  abbrev pub CountLeads : World (Node K V) → Chart K → Blocks → (ℕ → Visible) → Sum → Advance ℕ → Type 0
  CountLeads w c blocks sights sum progress.Goes = IsAlone {Q = Q} same hash asks setting slot w c blocks sights (Counting sum)
  CountLeads w c blocks sights sum progress.Waits = ⊥
  CountLeads w c blocks sights sum (progress.Done count) = IsQuiescent {K = K} {V = V} {Q = Q} same hash asks setting slot w c blocks sights
  CountLeads w c blocks sights sum (progress.Refused fault) = ⊥

-- a step of a counting tells this: it will come to what it would have come to, or has come to it
abbrev pub HasOutcome : {T : Type 0} → Setting → Mem T → Sum → Sum × Advance ℕ → Type 0
HasOutcome setting m sum (sum2, progress.Goes) = count_ahead setting m sum2.stands ≡ count_ahead setting m sum.stands
HasOutcome setting m sum (sum2, progress.Done count) = count ≡ count_ahead setting m sum.stands
HasOutcome setting m sum _ = ⊥

-- Where the shards say how many pairs the map has, a counting that begins comes to the length of their list.
abbrev pub CountingsComeTo : {K : Type 0} → Type 0 → (K → K → Bool) → (K → ℕ) → Type 0
CountingsComeTo {K} V same hash =
    (setting : Setting) (w : World (Node K V)) (c : Chart K) (blocks : Blocks) → IsMapIn same hash setting w c blocks → IsCounted setting w.memory c
    → (xs : List (K × V)) → AreContents w.memory c blocks xs → count_ahead setting w.memory (summing setting).stands ≡ length xs

module _ {K Q : Type 0} (V : Type 0) (same : K → K → Bool) (hash : K → ℕ) (asks : Q → K → Bool) (setting : Setting) (slot : ℕ → ℕ) where
  -- Where the owner rests, a reservation begins alone.
  abbrev pub RoomsBeginAlone : Type 0
  RoomsBeginAlone =
      (w : World (Node K V)) (c : Chart K) (blocks : Blocks) (sights : ℕ → Visible) → IsQuiescent {Q = Q} same hash asks setting slot w c blocks sights
      → (additional : ℕ) → IsAlone {Q = Q} same hash asks setting slot w c blocks sights (ForRoom (record { began = c.now; reserve = reserving (in_slot setting (slot 0)) additional }))

  -- It may take its next step, whether that is its own or one of a row of the collector.
  abbrev pub RoomsContinueAlone : Type 0
  RoomsContinueAlone =
      AreLawful same hash → IsPowerOfTwo setting.initial
      → (w : World (Node K V)) (c : Chart K) (blocks : Blocks) (sights : ℕ → Visible) (r : CallForRoom) → IsAlone {Q = Q} same hash asks setting slot w c blocks sights (ForRoom r)
      → May Can Took value_at w.memory (reserve_plan hash r.reserve)
      × ((m2 : Mem (Node K V)) (p2 : Reserve) (end : Yielding (Node K V) Unit) → Steps Took value_at w.memory (reserve_plan hash r.reserve) m2 (p2, end)
      → RoomStepLeads {Q = Q} same hash asks setting slot w c blocks r m2 p2 end)

  -- Each run of its steps, with those of the rows that it begins, terminates.
  abbrev pub RoomsComeToAnEnd : Type 0
  RoomsComeToAnEnd =
      AreLawful same hash → IsPowerOfTwo setting.initial
      → (w : World (Node K V)) (c : Chart K) (blocks : Blocks) (sights : ℕ → Visible) (r : CallForRoom) → IsAlone {Q = Q} same hash asks setting slot w c blocks sights (ForRoom r)
      → Terminates {V = V} hash r.reserve w.memory

  -- Where the owner rests, a counting of the pairs begins alone.
  abbrev pub CountingsBeginAlone : Type 0
  CountingsBeginAlone =
      (w : World (Node K V)) (c : Chart K) (blocks : Blocks) (sights : ℕ → Visible) → IsQuiescent {Q = Q} same hash asks setting slot w c blocks sights
      → IsAlone {Q = Q} same hash asks setting slot w c blocks sights (Counting (summing (in_slot setting (slot 0))))

  -- It may take its next step, which changes nothing.
  abbrev pub CountingsContinueAlone : Type 0
  CountingsContinueAlone =
      (w : World (Node K V)) (c : Chart K) (blocks : Blocks) (sights : ℕ → Visible) (sum : Sum) → IsAlone {Q = Q} same hash asks setting slot w c blocks sights (Counting sum)
      → May Can Took value_at w.memory (sum_plan sum)
      × ((m2 : Mem (Node K V)) (sum2 : Sum) (end : Advance ℕ) → Steps Took value_at w.memory (sum_plan sum) m2 (sum2, end)
      → (m2 ≡ w.memory) × HasOutcome setting w.memory sum (sum2, end) × CountLeads {V = V} {Q = Q} same hash asks setting slot w c blocks sights sum2 end)
