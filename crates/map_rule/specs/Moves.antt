-- The few changes of a map's tables that the program points of all its calls come down to, and when each is made.
use Rattle.std.specs.Prelude.{◌≡◌, ◌≢◌, ℕ, suc, ◌+◌, ◌<◌, ◌≤◌, Bool, true, false, cond, eqb, leb, ltb, ◌&&◌, Some}
use Rattle.map_machines.specs.Given.TablesDeclared.status.TheConstants.Status.{PENDING, ABORTED, PROMOTED}
use Rattle.map_rule.specs.Chart.{Phase, Still, Copying, Copied, Place, Empty, Tombstone, Holds, Share, Free, Claimed, Done, Counted, Lost, Chart, put, put_in, is_marked, is_taken}
use Rattle.map_rule.specs.Rule.{total, Shut, ShutBefore, Passed, is_of, names, tried}

-- a place with the mark of copying
abbrev pub marked : Place → Place
marked (Empty mark) = Empty true
marked (Tombstone mark) = Tombstone true
marked (Holds n Still borrowed) = Holds n Copying borrowed
marked (Holds n Copying borrowed) = Holds n Copying borrowed
marked (Holds n Copied borrowed) = Holds n Copied borrowed

-- in incremental mode, the caller that marks a place first has its share: a pair is to be copied, and all else is done
abbrev pub share_of : ℕ → Place → Share
share_of caller (Empty mark) = Done caller
share_of caller (Tombstone mark) = Done caller
share_of caller (Holds n phase borrowed) = Claimed caller

-- the caller is to copy this place, or has and did not count it yet
abbrev pub is_of_caller : ℕ → Share → Bool
is_of_caller caller (Claimed other) = eqb other caller
is_of_caller caller (Done other) = eqb other caller
is_of_caller caller _ = false

-- one for a share that the caller has done and not counted, for sums
abbrev pub is_done_by : ℕ → Share → ℕ
is_done_by caller (Done other) = cond (eqb other caller) 1 0
is_done_by caller _ = 0

-- what a caller has done is counted
abbrev pub with_counted : ℕ → Share → Share
with_counted caller (Done other) = cond (eqb other caller) Counted (Done other)
with_counted caller share = share

-- a caller gives its shares up
abbrev pub with_lost : ℕ → Share → Share
with_lost caller share = cond (is_of_caller caller share) Lost share

pub data Move (K : Type 0) : Type 0 where
  Links : (len limit : ℕ) → Move K  -- a table is linked behind the last one, or as the first one
  Stores : (turn : ℕ) (k : K) (try : ℕ) → Move K  -- a pair of this key in an empty place
  Replaces : (turn place : ℕ) (k : K) → Move K  -- a pair by another one of its class
  Removes : (turn place : ℕ) → Move K  -- a pair is removed
  Marks : (caller place : ℕ) → Move K  -- in incremental mode, a place of the root that was not marked
  MarksBlocking : (place : ℕ) → Move K  -- in blocking mode, a place of the root that holds a pair
  Skips : (caller turn place : ℕ) → Move K  -- in blocking mode, a place of the root that holds none: it is done for this table
  Unmarks : (caller place : ℕ) → Move K
  Puts : (caller place turn : ℕ) (k : K) (try : ℕ) → Move K  -- the pair of a place of the root into an empty place of a later table
  Covers : (caller place : ℕ) → Move K  -- that pair was put
  PutsLate : (turn place pair : ℕ) → Move K  -- in blocking mode, into a table that was aborted and that the root has passed
  Claims : (caller turn chunk : ℕ) → Move K  -- in blocking mode
  Reclaims : (turn claim : ℕ) → Move K  -- in incremental mode, the claim is another one, and shares no places
  Counts : (caller turn number : ℕ) → Move K  -- what the caller has done
  GivesUp : (caller turn : ℕ) → Move K
  Aborts : (turn : ℕ) → Move K
  Promotes : (turn : ℕ) → Move K
  Announces : (turn : ℕ) → Move K  -- a table that is the root, or was

-- from the next moment on, these pairs are in the map
abbrev pub with_current : {K : Type 0} → Chart K → (ℕ → Bool) → Chart K
with_current c current = record c { current = current; now = suc c.now; was = put c.was (suc c.now) current }

-- the root leaves its table, and those before this one, now
abbrev pub passing : {K : Type 0} → Chart K → ℕ → ℕ → ℕ
passing c t u = cond (leb c.first u && ltb u t) c.now (c.passed u)

-- how many places are counted for this table then; for one that the root has come to, some number is
abbrev pub counted_to : {K : Type 0} → Chart K → ℕ → ℕ → ℕ
counted_to c t number = cond (ltb c.first t) (c.copied t + number) number

module _ {K : Type 0} (spot : ℕ → K → ℕ → ℕ) (incremental : Bool) where
  -- the pair of a place, put into a later table
  abbrev pub lent_place : Place → Place
  lent_place (Holds n phase borrowed) = Holds n Still incremental
  lent_place place = place

  -- the pair of a place is copied
  abbrev pub copied_place : Place → Place
  copied_place (Holds n phase borrowed) = Holds n Copied borrowed
  copied_place place = place

  -- the pair of a place is not copied, and its place is not marked
  abbrev pub still_place : Place → Place
  still_place (Holds n phase borrowed) = Holds n Still borrowed
  still_place place = place

  -- a pair is not in the map any more
  abbrev pub without : Place → (ℕ → Bool) → ℕ → Bool
  without (Holds n phase borrowed) current = put current n false
  without place current = current

  -- a new pair of this key is there
  abbrev pub with_pair : Chart K → ℕ → ℕ → K → Chart K
  with_pair c t i k =
      with_current (record c { place = put_in c.place t i (Holds c.stored Still false); stored = suc c.stored; key = put c.key c.stored (Some k) })
      (put (without (c.place t i) c.current) c.stored true)

  -- the shares of so many places from the claim on are the caller's; a table that the root has come to has none to give
  abbrev pub claimed : Chart K → ℕ → ℕ → ℕ → ℕ → ℕ → Share
  claimed c caller t chunk u j =
      cond (eqb u t && ltb c.first t) (cond (leb (c.claim t) j && ltb j (c.claim t + chunk) && ltb j (c.len c.first)) (Claimed caller) (c.share u j)) (c.share u j)

  -- the tables after a move
  abbrev pub after : Move K → Chart K → Chart K
  after (Links len limit) c =
      record c {
        past = suc c.past;
        len = put c.len c.past len;
        limit = put c.limit c.past limit;
        status = put c.status c.past (cond (eqb c.past 0) PROMOTED PENDING);
        from = put c.from c.past c.first;
      }
  after (Stores t k j) c = with_pair c t (spot (c.len t) k j) k
  after (Replaces t i k) c = with_pair c t i k
  after (Removes t i) c = with_current (record c { place = put_in c.place t i (Tombstone false) }) (without (c.place t i) c.current)
  after (Marks caller i) c =
      record c { place = put_in c.place c.first i (marked (c.place c.first i)); share = put_in c.share (suc c.first) i (share_of caller (c.place c.first i)) }
  after (MarksBlocking i) c = record c { place = put_in c.place c.first i (marked (c.place c.first i)) }
  after (Skips caller t i) c = record c { place = put_in c.place c.first i (marked (c.place c.first i)); share = put_in c.share t i (Done caller) }
  after (Unmarks caller i) c = record c { place = put_in c.place c.first i (still_place (c.place c.first i)); share = put_in c.share (suc c.first) i Free }
  after (Puts caller i t k j) c =
      record c {
        place = put_in c.place t (spot (c.len t) k j) (lent_place (c.place c.first i));
        share = cond incremental c.share (put_in c.share t i (Done caller));
      }
  after (Covers caller i) c = record c { place = put_in c.place c.first i (copied_place (c.place c.first i)); share = put_in c.share (suc c.first) i (Done caller) }
  after (PutsLate t i n) c = record c { place = put_in c.place t i (Holds n Still false) }
  after (Claims caller t chunk) c = record c { claim = put c.claim t (c.claim t + chunk); share = claimed c caller t chunk }
  after (Reclaims t claim) c = record c { claim = put c.claim t claim }
  after (Counts caller t number) c =
      record c { share = λ u j. cond (eqb u t) (with_counted caller (c.share u j)) (c.share u j); copied = put c.copied t (counted_to c t number) }
  after (GivesUp caller t) c = record c { share = λ u j. cond (eqb u t) (with_lost caller (c.share u j)) (c.share u j) }
  after (Aborts t) c = record c { status = put c.status t ABORTED }
  after (Promotes t) c = record c { first = t; passed = passing c t }
  after (Announces t) c = record c { status = put c.status t PROMOTED }

-- when a move is made
module _ {K : Type 0} (same : K → K → Bool) (spot : ℕ → K → ℕ → ℕ) (incremental : Bool) where
  -- a key has its pairs from the root on: in blocking mode in the root alone, in incremental mode behind tables that are shut for it
  abbrev pub MayChange : Chart K → ℕ → K → Type 0
  MayChange c t k = cond incremental (ShutBefore same spot incremental c t k) (t ≡ c.first)

  -- a pair of the class stands there, and is not marked
  abbrev pub IsStill : Chart K → ℕ → ℕ → K → Type 0
  IsStill c t i k = (n : ℕ) × (borrowed : Bool) × (c.place t i ≡ Holds n Still borrowed) × (is_of same spot incremental k (c.key n) ≡ true)

  -- in incremental mode, no later table names a class
  abbrev pub NamedInRootAlone : Chart K → K → Type 0
  NamedInRootAlone c k = (t i : ℕ) → c.first < t → names same spot incremental c.key k (c.place t i) ≡ false

  -- the tables between the root and this one are shut for the class
  abbrev pub ShutBetween : Chart K → ℕ → K → Type 0
  ShutBetween c t k = (u : ℕ) → c.first < u → u < t → Shut same spot incremental c u k

  -- what a copier knows of the table that it puts a pair into
  abbrev pub MayPut : Chart K → ℕ → ℕ → ℕ → K → Type 0
  MayPut c caller i t k =
      cond incremental
      ((c.share (suc c.first) i ≡ Claimed caller) × NamedInRootAlone c k × ShutBetween c t k)
      (c.share t i ≡ Claimed caller)

  -- the try is taken
  abbrev pub Taken : Chart K → ℕ → K → ℕ → Type 0
  Taken c t k g = is_taken incremental (tried same spot incremental c t k g) ≡ true

  -- the pair of the key stands there, and is being copied
  abbrev pub IsCopied : Chart K → ℕ → K → Type 0
  IsCopied c i k = (n : ℕ) × (borrowed : Bool) × (c.place c.first i ≡ Holds n Copying borrowed) × (c.key n ≡ Some k)

  -- the pair stands in a later table, borrowed
  abbrev pub WasPut : Chart K → ℕ → Type 0
  WasPut c n = (t : ℕ) × (i : ℕ) × (c.first < t) × (c.place t i ≡ Holds n Still true)

  -- this pair was stored
  abbrev pub IsStored : Chart K → ℕ → Type 0
  IsStored c n = (k : K) × (c.key n ≡ Some k)

  -- when a move may be made
  abbrev pub Allowed : Move K → Chart K → Type 0
  Allowed (Links len limit) c =
      (0 < len) × (limit < len) × cond incremental (Unit {0}) ((u : ℕ) → c.first < u → u < c.past → c.status u ≡ ABORTED)
  Allowed (Stores t k j) c =
      (t < c.past) × (c.first ≤ t) × (j ≤ c.limit t) × (tried same spot incremental c t k j ≡ Empty false) × Passed same spot incremental c t k j × MayChange c t k
  Allowed (Replaces t i k) c = IsStill c t i k × MayChange c t k
  Allowed (Removes t i) c = (k : K) × IsStill c t i k × MayChange c t k
  Allowed (Marks caller i) c = (incremental ≡ true) × (i < c.len c.first) × (suc c.first < c.past) × (is_marked (c.place c.first i) ≡ false)
  Allowed (MarksBlocking i) c =
      (incremental ≡ false) × (suc c.first < c.past) × (n : ℕ) × (phase : Phase) × (borrowed : Bool) × (c.place c.first i ≡ Holds n phase borrowed)
  Allowed (Skips caller t i) c =
      (incremental ≡ false) × (c.first < t) × (t < c.past) × (i < c.len c.first) × (c.share t i ≡ Claimed caller)
      × ((n : ℕ) (phase : Phase) (borrowed : Bool) → c.place c.first i ≢ Holds n phase borrowed)
  Allowed (Unmarks caller i) c =
      (incremental ≡ true) × (i < c.len c.first) × (c.share (suc c.first) i ≡ Claimed caller)
      × ((n : ℕ) (borrowed : Bool) (t j : ℕ) (phase : Phase) (borrowed2 : Bool) → c.place c.first i ≡ Holds n Copying borrowed → c.first < t → c.place t j ≢ Holds n phase borrowed2)
  Allowed (Puts caller i t k j) c =
      (c.first < t) × (t < c.past) × (i < c.len c.first) × (j ≤ c.limit t) × (tried same spot incremental c t k j ≡ Empty false)
      × ((g : ℕ) → g < j → Taken c t k g) × IsCopied c i k × MayPut c caller i t k
  Allowed (Covers caller i) c =
      (incremental ≡ true) × (i < c.len c.first) × (c.share (suc c.first) i ≡ Claimed caller)
      × ((n : ℕ) (borrowed : Bool) → c.place c.first i ≡ Holds n Copying borrowed → WasPut c n)
  Allowed (PutsLate t i n) c = (incremental ≡ false) × (t < c.first) × (i < c.len t) × (c.status t ≡ ABORTED) × (c.place t i ≡ Empty false) × (n < c.stored) × IsStored c n
      × (j : ℕ) × (c.place (c.from t) j ≡ Holds n Copying false)
  Allowed (Claims caller t chunk) c = (incremental ≡ false) × (t < c.past)
  Allowed (Reclaims t claim) c = (incremental ≡ true) × (t < c.past)
  Allowed (Counts caller t number) c = (t < c.past) × (c.first < t → number ≡ total (is_done_by caller) (c.share t) (c.len c.first))
  Allowed (GivesUp caller t) c = incremental ≡ false
  Allowed (Aborts t) c = (incremental ≡ false) × (c.first < t) × (t < c.past) × (j : ℕ) × (j < c.len c.first) × (c.share t j ≡ Lost)
  Allowed (Promotes t) c = (c.first < t) × (t < c.past) × ((j : ℕ) → j < c.len c.first → c.share t j ≡ Counted) × cond incremental (t ≡ suc c.first) (Unit {0})
  Allowed (Announces t) c = (t ≤ c.first) × (t < c.past) × (c.status t ≢ ABORTED)
