-- What the one operation of a step tells of a map: which change of its tables it made.
use Rattle.std.specs.Prelude.{◌≡◌, ℕ, ◌+◌, ◌*◌, ◌<◌, ◌^◌, Bool, true, false}
use Rattle.std.proofs.Common.{zero, suc, inl, inr}
use Rattle.run_schedules.specs.Given.SeizeWordsDeclared.at.At.{At}
use Rattle.run_schedules.specs.Given.SeizeWordsDeclared.at.At.TheVariants.{Root, Word}
use Rattle.run_schedules.specs.Given.SeizeWordsMem.{Mem, Can, Took}
use Rattle.run_schedules.specs.Given.SeizeWordsOp.{Op, Out}
use Rattle.run_schedules.specs.Given.SeizeWordsWord.{block_in}
use Rattle.seize.specs.World.{World}
use Rattle.run_schedules.specs.Given.TablesChunks.{is_incremental}
use Rattle.run_schedules.specs.Given.TablesDeclared.node.Node.{Node}
use Rattle.run_schedules.specs.Given.TablesDeclared.setting.Setting.{Setting}
use Rattle.run_schedules.specs.Given.TablesDeclared.table_words.TheConstants.{NEXT, PLACES}
use Rattle.run_schedules.specs.Given.TablesDeclared.marks.TheConstants.{TOMBSTONE}
use Rattle.map_rule.specs.Chart.{Still, Copying, Holds, Chart}
use Rattle.map_rule.specs.Moves.{Move, Links, Stores, Replaces, Removes, Puts, PutsLate, Promotes}
use Rattle.map_rule.specs.Words.{Blocks, place_word}
use Rattle.map_rule.specs.Maps.{spot_of}
use Rattle.map_rule.specs.Rule.{IsLawful}
use Rattle.map_rule.specs.InWorld.{IsMapIn, Moved, StepSpec}
use Rattle.run_effects.specs.Tells.Seen.{Seen, Wrote, Unseen, seen_of}

-- the word of a place of the table with this turn
abbrev pub place_at : Blocks → ℕ → ℕ → At
place_at blocks t i = Word (blocks.table t) (i + PLACES)

-- the word that links to the next table that comes: the root's, or that behind the last one of so many tables
abbrev pub last_link : Setting → Blocks → ℕ → At
last_link setting blocks zero = Root setting.root
last_link setting blocks (suc t) = Word (blocks.table t) NEXT

module _ {K : Type 0} (setting : Setting) (c : Chart K) (blocks : Blocks) where
  -- a link of the map is as it was, and a place names what it named: the same pair, or none
  abbrev pub PreservesNames : At → ℕ → ℕ → Type 0
  PreservesNames (Root r) old new = r ≡ setting.root → new ≡ old
  PreservesNames (Word b field) old new =
      (t : ℕ) → t < c.past → blocks.table_known t ≡ true → b ≡ blocks.table t
      → (field ≡ NEXT → new ≡ old) × ((i : ℕ) → i < c.len t → field ≡ i + PLACES → block_in new ≡ block_in old)
  PreservesNames _ old new = Unit {0}

  abbrev pub IsSilent : {T : Type 0} → Seen T → Type 0
  IsSilent (Wrote at old new) = PreservesNames at old new
  IsSilent _ = Unit {0}

-- of a map before a step and after it
module _ {K : Type 0} (hash : K → ℕ) (setting : Setting) (c : Chart K) (blocks : Blocks) (c2 : Chart K) (blocks2 : Blocks) where
  -- the word of the pair that is stored next
  abbrev pub new_word : ℕ
  new_word = place_word hash c2 blocks2 (Holds c.stored Still false)

  module _ {T : Type 0} where
    -- the place was written, from this word to that one
    abbrev pub WroteFrom : ℕ → ℕ → ℕ → ℕ → Seen T → Type 0
    WroteFrom t i old new seen = seen ≡ Wrote (place_at blocks t i) old new

    -- it held a pair, and was written
    abbrev pub WroteOver : ℕ → ℕ → ℕ → Seen T → Type 0
    WroteOver t i new seen =
        (n : ℕ) × (borrowed : Bool) × (c.place t i ≡ Holds n Still borrowed) × WroteFrom t i (place_word hash c blocks (Holds n Still borrowed)) new seen

    -- as which change of words a change of the tables is seen; all others keep names
    abbrev pub IsSeenAs : Move K → Seen T → Type 0
    IsSeenAs (Links len limit) seen = seen ≡ Wrote (last_link setting blocks c.past) 0 (blocks2.table c.past * 2048)
    IsSeenAs (Stores t k j) seen = WroteFrom t (spot_of hash (c.len t) k j) 0 new_word seen
    IsSeenAs (Replaces t i k) seen = WroteOver t i new_word seen
    IsSeenAs (Removes t i) seen = WroteOver t i TOMBSTONE seen
    IsSeenAs (Puts caller i t k j) seen =
        (n : ℕ) × (borrowed : Bool) × (c.place c.first i ≡ Holds n Copying borrowed)
        × WroteFrom t (spot_of hash (c.len t) k j) 0 (place_word hash c2 blocks2 (Holds n Still (is_incremental setting.mode))) seen
    IsSeenAs (PutsLate t i n) seen = WroteFrom t i 0 (place_word hash c2 blocks2 (Holds n Still false)) seen
    IsSeenAs (Promotes t) seen = seen ≡ Wrote (Root setting.root) (blocks.table c.first * 2048) (blocks.table t * 2048)
    IsSeenAs _ seen = IsSilent setting c blocks seen

    -- what was seen tells the change that was made, if one was
    abbrev pub IsObserved : (same : K → K → Bool) (caller : ℕ) → Moved same hash setting.mode caller c c2 → Seen T → Type 0
    IsObserved same caller (inl same_tables) seen = IsSilent setting c blocks seen
    IsObserved same caller (inr made) seen = IsSeenAs made.0 seen

module _ {K : Type 0} (V : Type 0) (same : K → K → Bool) (hash : K → ℕ) where
  -- a step of this caller has led there, of which nothing more is known
  abbrev pub HasStepped : Setting → ℕ → World (Node K V) → Chart K → Blocks → Mem (Node K V) → Type 0
  HasStepped setting caller w c blocks m2 = StepSpec same hash setting caller w c blocks m2 (λ w2 c2 blocks2. Unit {0})

  -- The promise, of a step that made this operation, and got this answer.
  abbrev pub OperationsTell : Type 0
  OperationsTell =
      IsLawful same (spot_of hash) → ((k : K) → hash k < 2 ^ 64) → (setting : Setting) (caller : ℕ) (w : World (Node K V)) (c : Chart K) (blocks : Blocks) (m2 : Mem (Node K V)) → IsMapIn same hash setting w c blocks
      → (went : HasStepped setting caller w c blocks m2)
      → (op : Op (Node K V)) (out : Out (Node K V)) → Can w.memory op → Took w.memory op out m2
      → IsObserved hash setting c blocks went.c2 went.blocks2 same caller went.moved (seen_of w.memory op out)

  -- And of one that made none: it made no change that an operation would be seen by.
  abbrev pub StillStepsTell : Type 0
  StillStepsTell =
      IsLawful same (spot_of hash) → ((k : K) → hash k < 2 ^ 64) → (setting : Setting) (caller : ℕ) (w : World (Node K V)) (c : Chart K) (blocks : Blocks) (m2 : Mem (Node K V)) → IsMapIn same hash setting w c blocks
      → (went : HasStepped setting caller w c blocks m2) → m2 ≡ w.memory
      → IsObserved hash setting c blocks went.c2 went.blocks2 {T = Node K V} same caller went.moved Unseen
