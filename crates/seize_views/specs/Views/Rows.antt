-- The rule of the collector's rows: there is a world that came about, of which the memory is that of the state; each seat knows its row there, its slot, and a
-- block; and what a root names is there.
use Rattle.std.specs.Prelude.{◌≡◌, ◌≢◌, ℕ, true, false, List, Option, Some, None, length, ◌⊎◌}
use Rattle.seize_words.specs.OneMemory.Mem.{Mem, Can, Took, value_at, word_at}
use Rattle.seize_words.specs.OneMemory.Word.{block_in}
use Rattle.seize_words.specs.declared.at.At.TheVariants.{Root}
use Rattle.seize.specs.declared.states.TheConstants.{IDLE, ACTIVE}
use Rattle.seize.specs.declared.rows.register.Registering.{Registering}
use Rattle.seize.specs.declared.rows.register.Registering.TheVariants as at
use Rattle.seize.specs.declared.rows.settle.Settle.{Settle}
use Rattle.seize.specs.declared.rows.settle.Settling.{Settling}
use Rattle.seize.specs.declared.rows.settle.Settling.TheVariants as settling_at
use Rattle.seize.specs.declared.rows.leave.Leave.{Leave}
use Rattle.seize.specs.declared.rows.leave.Leaving.TheVariants as leaving_at
use Rattle.seize.specs.Leave.{leaving, standing}
use Rattle.seize.specs.Law.{holds, is_over}
use Rattle.seize.specs.World.{World, Row, Hand, Event, Use, Runs, IsInside, at_start}
use Rattle.seize.specs.World as world
use Rattle.seize_seats.specs.Seats.State.{State, view_of, after, PreservesKept}
use Rattle.seize_words.specs.OneMemory.Op.{Op, Out}
use Rattle.seize_acts.specs.Bounds.Bounds.{SettlesWithin, TriesWithin}
use Rattle.seize_views.specs.Views.Chains.{all_roots, IsChainRoot, LinksTo, IsLinkSeen, HoldsAllBelow, Chain}
use Rattle.seize_views.specs.declared.view.TheConstants.{LINK}
use Rattle.seize_views.specs.declared.view.SlotView.{SlotView}
use Rattle.seize_views.specs.declared.view.Becomes.{Becomes}
use Rattle.seize_views.specs.declared.view.Becomes.TheVariants.{Idle, Active}
use Rattle.seize_views.specs.declared.view.SlotView.TheVariants.{Rests, Registers, Outside, Owes, Enters, Inside, Settles, Leaves, Left, Frees, Brings, Bears, Watches, Under, Joins, Defers, Busy}
use Rattle.seize_views.specs.declared.view.Has.{Has}
use Rattle.seize_views.specs.declared.view.Has.TheVariants.{Nothing, Made, Seen, Both, Cut, Walks}
use Rattle.seize_views.specs.declared.view.Deferral.{Deferral}
use Rattle.seize_views.specs.declared.view.Deferral.TheVariants.{Takes, Parts, Puts}
use Rattle.seize_views.specs.declared.view.Why.{Why}
use Rattle.seize_views.specs.declared.view.Why.TheVariants.{Retiring, Ending}
use Rattle.seize_views.specs.declared.view.Fixed.{Fixed}

-- the head of a slot whose section has ended so
abbrev pub head_of : Becomes → ℕ
head_of Idle = IDLE
head_of Active = ACTIVE

-- a slot that leaves so, with batches of this size; and the same one as its list is counted down
abbrev pub leave_of : ℕ → ℕ → Becomes → Leave
leave_of t size way = leaving t size (head_of way) false

abbrev pub counting : ℕ → Becomes → Settle → Leave
counting size way c = standing (leave_of c.slot size way) (leaving_at.Settles c)

-- the row of a seat that settles
abbrev pub settles_for : Why → Settle → Row
settles_for (Retiring way) c = world.Settles c
settles_for (Ending size way) c = world.Leaves (counting size way c)

-- how its slot is used meanwhile
abbrev pub used_for : Why → Use
used_for (Retiring Idle) = world.Outside 1
used_for (Retiring Active) = world.Inside 1
used_for (Ending size way) = world.Changing

-- the row of a seat that defers a block, within the section of this slot; how that slot is used meanwhile; and the block that is in its hand, if one is
abbrev pub row_for : {T : Type 0} → ℕ → Deferral T → Row
row_for t (Takes a y made) = world.Rests
row_for t (Parts a y b x) = world.Rests
row_for t (Puts a c) = world.Defers t c

abbrev pub used_by : {T : Type 0} → Deferral T → Use
used_by (Takes a y made) = world.Inside 0
used_by (Parts a y b x) = world.Inside 0
used_by (Puts a c) = world.Inside 1

abbrev pub had_by : {T : Type 0} → Deferral T → Option ℕ
had_by (Takes a y None) = None
had_by (Takes a y (Some made)) = Some made.0
had_by (Parts a y b x) = Some b
had_by (Puts a c) = None

-- the row that a seat has under way
abbrev pub row_of : {T : Type 0} → SlotView T → Row
row_of Rests = world.Rests
row_of (Registers c) = world.Registers c
row_of (Outside t) = world.Rests
row_of (Owes t b) = world.Rests
row_of (Enters t) = world.Enters record { slot = t }
row_of (Inside t has) = world.Rests
row_of (Settles c why seen left) = settles_for why c
row_of (Leaves t size way) = world.Leaves (leave_of t size way)
row_of (Left t size way) = world.Leaves (standing (leave_of t size way) leaving_at.Over)
row_of (Frees t) = world.Frees record { slot = t }
row_of (Brings b x) = world.Rests
row_of (Bears b) = world.Rests
row_of (Watches t b) = world.Rests
row_of (Under n t b) = world.Rests
row_of (Joins block) = world.Rests
row_of (Defers t c) = row_for t c
row_of (Busy t) = world.Rests

-- it has nothing under way: no row, and nothing beside rows
abbrev pub IsQuiescent : {T : Type 0} → SlotView T → Type 0
IsQuiescent (Registers c) = ⊥
IsQuiescent (Enters t) = ⊥
IsQuiescent (Settles c why seen left) = ⊥
IsQuiescent (Leaves t size way) = ⊥
IsQuiescent (Left t size way) = ⊥
IsQuiescent (Frees t) = ⊥
IsQuiescent (Under n t b) = ⊥
IsQuiescent (Defers t c) = ⊥
IsQuiescent (Busy t) = ⊥
IsQuiescent _ = Unit {0}

-- the slot that it holds, if it holds one, and how that is used
abbrev pub use_of : {T : Type 0} → SlotView T → Option (ℕ × Use)
use_of Rests = None
use_of (Registers c) = None
use_of (Outside t) = Some (t, world.Outside 0)
use_of (Owes t b) = Some (t, world.Outside 0)
use_of (Enters t) = Some (t, world.Changing)
use_of (Inside t has) = Some (t, world.Inside 0)
use_of (Settles c why seen left) = Some (c.slot, used_for why)
use_of (Leaves t size way) = Some (t, world.Changing)
use_of (Left t size way) = Some (t, world.Changing)
use_of (Frees t) = Some (t, world.Changing)
use_of (Brings b x) = None
use_of (Bears b) = None
use_of (Watches t b) = None
use_of (Under n t b) = None
use_of (Joins block) = None
use_of (Defers t c) = Some (t, used_by c)
use_of (Busy None) = None
use_of (Busy (Some t)) = Some (t, world.Inside 0)

-- the block that is in its hand, if one is
abbrev pub had_in : {T : Type 0} → Has T → Option ℕ
had_in Nothing = None
had_in (Made b x) = Some b
had_in (Seen b) = None
had_in (Both b x a) = Some b
had_in (Cut b) = Some b
had_in (Walks b next) = None

abbrev pub hand_of : {T : Type 0} → SlotView T → Option ℕ
hand_of (Owes t b) = Some b
hand_of (Inside t has) = had_in has
hand_of (Brings b x) = Some b
hand_of (Bears b) = Some b
hand_of (Joins (Some made)) = Some made.0
hand_of (Defers t c) = had_by c
hand_of _ = None

-- registering seeks a slot, and has none yet
abbrev pub IsSeeking : Registering → Type 0
IsSeeking at.Begin = Unit {0}
IsSeeking at.Look = Unit {0}
IsSeeking (at.Widen bucket seen) = Unit {0}
IsSeeking (at.Take seen) = Unit {0}
IsSeeking _ = ⊥

-- registering only takes a slot, and does not enter it
abbrev pub IsShort : {T : Type 0} → SlotView T → Type 0
IsShort (Registers c) = (c.enters ≡ false) × IsSeeking c.stands
IsShort _ = Unit {0}

-- it knows of no block but one that a settling is to look at
abbrev pub IsPlain : {T : Type 0} → SlotView T → Type 0
IsPlain (Inside t Nothing) = Unit {0}
IsPlain (Inside t has) = ⊥
IsPlain (Owes t b) = ⊥
IsPlain (Brings b x) = ⊥
IsPlain (Bears b) = ⊥
IsPlain (Watches t b) = ⊥
IsPlain (Under n t b) = ⊥
IsPlain (Joins block) = ⊥
IsPlain (Defers t c) = ⊥
IsPlain (Busy t) = ⊥
IsPlain _ = Unit {0}

-- a settling is about to reclaim a block
abbrev pub IsReclaiming : Settling → Type 0
IsReclaiming (settling_at.Takes next) = Unit {0}
IsReclaiming (settling_at.Drains next word) = Unit {0}
IsReclaiming _ = ⊥

module _ {T : Type 0} where
  -- the slot is used so
  abbrev pub IsUsed : World T → Option (ℕ × Use) → Type 0
  IsUsed w None = Unit {0}
  IsUsed w (Some slot) = w.uses slot.0 ≡ slot.1

  -- the block was made by some seat, of this value, and was not linked
  abbrev pub IsMade : World T → ℕ → T → Type 0
  IsMade w b x = ((h : ℕ) × (w.hand b ≡ world.Making h)) × (value_at w.memory b ≡ Some x)

  -- it was unlinked by some seat, and was not retired
  abbrev pub IsCut : World T → ℕ → Type 0
  IsCut w b = (h : ℕ) × (w.hand b ≡ world.Cutting h)

  -- a block that was made is, if there is one
  abbrev pub IsMadeSo : World T → Option (ℕ × T) → Type 0
  IsMadeSo w None = Unit {0}
  IsMadeSo w (Some made) = IsMade w made.0 made.1

  -- the section of this slot holds the block, of this value
  abbrev pub IsHeldSo : World T → ℕ → ℕ → T → Type 0
  IsHeldSo w t a y = (holds t a w.log ≡ true) × (value_at w.memory a ≡ Some y)

  -- some seat has taken the block out, of this value
  abbrev pub IsPartingSo : World T → ℕ → T → Type 0
  IsPartingSo w b x = ((h : ℕ) × (w.hand b ≡ world.Parting h)) × (value_at w.memory b ≡ Some x)

  abbrev pub IsDeferring : World T → ℕ → Deferral T → Type 0
  IsDeferring w t (Takes a y made) = IsHeldSo w t a y × IsMadeSo w made
  IsDeferring w t (Parts a y b x) = IsHeldSo w t a y × IsPartingSo w b x
  IsDeferring w t (Puts a c) = holds t a w.log ≡ true

  -- the block that it has taken out is its own
  abbrev pub IsItsOwn : World T → ℕ → SlotView T → Type 0
  IsItsOwn w j (Defers t (Parts a y b x)) = w.hand b ≡ world.Parting j
  IsItsOwn w j _ = Unit {0}

  -- the block that a settling is to look at is the one that it is about to reclaim, and has this value
  abbrev pub IsLooked : Mem T → Settle → Option (ℕ × T) → Type 0
  IsLooked m c None = Unit {0}
  IsLooked m c (Some seen) = IsReclaiming c.stands × (seen.0 ≡ block_in c.reclaiming) × (value_at m seen.0 ≡ Some seen.1)

  -- some seat has the block in its hand
  abbrev pub IsSomeones : State T (SlotView T) (World T) → ℕ → Type 0
  IsSomeones s b = (j : ℕ) × (v : SlotView T) × (view_of s j ≡ Some v) × (hand_of v ≡ Some b)

  -- or it was in this hand in that world already
  abbrev pub IsInSomeHand : State T (SlotView T) (World T) → World T → ℕ → Hand → Type 0
  IsInSomeHand s began b k = IsSomeones s b ⊎ (began.hand b ≡ k)

  -- the word at a root names the block
  abbrev pub IsNamedAt : Mem T → ℕ → ℕ → Type 0
  IsNamedAt m r b = (word : ℕ) × (word_at m (Root r) ≡ Some word) × (block_in word ≡ b)

  -- Where a block is, by whose it is: who has made it, taken it out or unlinked it has it so, and what is linked at a root is named there, or stands in the chain there; each
  -- other one is nobody's, or the collector's.
  abbrev pub IsFound : Fixed → Mem T → ℕ → (Hand → Type 0) → Hand → Type 0
  IsFound fixed m b has world.NoBlock = Unit {0}
  IsFound fixed m b has (world.Making h) = has (world.Making h)
  IsFound fixed m b has (world.InUse r) = IsNamedAt m r b ⊎ IsChainRoot fixed r
  IsFound fixed m b has (world.Parting h) = has (world.Parting h)
  IsFound fixed m b has (world.Cutting h) = has (world.Cutting h)
  IsFound fixed m b has world.Handed = Unit {0}
  IsFound fixed m b has (world.LeftTo h) = ⊥

  -- a root names no block, or one that is linked there
  abbrev pub RootsNameLinked : Mem T → (ℕ → Hand) → Type 0
  RootsNameLinked m hand = (r word : ℕ) → word_at m (Root r) ≡ Some word → (block_in word ≡ 0) ⊎ (hand (block_in word) ≡ world.InUse r)

module _ {T : Type 0} (defers : T → Option ℕ) where
  -- what a seat knows of a block, within a section of this slot where it has seen one
  abbrev pub IsInHand : World T → ℕ → Has T → Type 0
  IsInHand w t Nothing = Unit {0}
  IsInHand w t (Made b x) = IsMade w b x
  IsInHand w t (Seen b) = holds t b w.log ≡ true
  IsInHand w t (Both b x a) = IsMade w b x × (holds t a w.log ≡ true)
  IsInHand w t (Cut b) = IsCut w b
  IsInHand w t (Walks b next) = HoldsAllBelow defers w t b × IsLinkSeen w.memory b next

  -- the block was made by some seat, and has a link, which names this one
  abbrev pub IsToStand : World T → Option (ℕ × T × ℕ) → Type 0
  IsToStand w None = Unit {0}
  IsToStand w (Some (b, x, a)) = IsMade w b x × LinksTo w.memory b a × (defers x ≢ Some LINK)

  -- nobody is busy, as rows are all there is
  abbrev pub IsKnown : World T → SlotView T → Type 0
  IsKnown w (Owes t b) = IsCut w b
  IsKnown w (Inside t has) = IsInHand w t has
  IsKnown w (Brings b x) = IsMade w b x
  IsKnown w (Bears b) = IsCut w b
  IsKnown w (Settles c why seen left) = IsLooked w.memory c seen
  IsKnown w (Joins block) = IsToStand w block
  IsKnown w (Defers t c) = IsDeferring w t c
  IsKnown w (Busy t) = ⊥
  IsKnown w _ = Unit {0}

  -- what a seat knows is so
  pub record Fits (w : World T) (j : ℕ) (v : SlotView T) : Type 0 where
    pub row : w.row j ≡ row_of v
    pub slot : IsUsed w (use_of v)
    pub short : IsShort v
    pub known : IsKnown w v
    pub its_own : IsItsOwn w j v

module _ {T : Type 0} (defers : T → Option ℕ) (fixed : Fixed) where
  -- What a seat settles it has settled within so many steps: where its section has ended, its list is counted down; else its block is retired, or its batch
  -- tried.
  abbrev pub IsBounded : World T → ℕ → SlotView T → Type 0
  IsBounded w j (Settles c (Ending size way) seen left) = SettlesWithin defers fixed.batch_size j left w
  IsBounded w j (Settles c (Retiring way) seen left) = TriesWithin defers fixed.batch_size j left w
  IsBounded w j _ = Unit {0}

  -- one world has come of another one
  abbrev pub Since : World T → World T → Type 0
  Since w n = (events : List (Event T)) × Runs defers fixed.batch_size events w n

  -- the world came about from the start
  abbrev pub Came : World T → Type 0
  Came w = Since (at_start defers (all_roots fixed)) w

  -- The present lifetime of the memory began with this world, in which nobody had a row under way. Seats of an earlier one may have kept blocks, which nobody
  -- has any more.
  pub record Lifetime (w : World T) : Type 0 where
    pub began : World T
    pub past : Came began
    pub idle : (j : ℕ) → began.row j ≡ world.Rests
    pub since : Since began w

  pub record Holds (s : State T (SlotView T) (World T)) : Type 0 where
    pub came : Came s.world
    pub memory : s.memory ≡ s.world.memory
    pub seats : (j : ℕ) (v : SlotView T) → view_of s j ≡ Some v → Fits defers s.world j v
    pub unborn : (j : ℕ) → view_of s j ≡ None → s.world.row j ≡ world.Rests
    pub apart : (j k t : ℕ) (a b : Use) (v u : SlotView T) → view_of s j ≡ Some v → view_of s k ≡ Some u → use_of v ≡ Some (t, a) → use_of u ≡ Some (t, b) → j ≡ k
    pub sole : (j k b : ℕ) (v u : SlotView T) → view_of s j ≡ Some v → view_of s k ≡ Some u → hand_of v ≡ Some b → hand_of u ≡ Some b → j ≡ k
    pub roots : RootsNameLinked s.memory s.world.hand
    pub rooted : length s.memory.roots ≡ all_roots fixed
    pub life : Lifetime s.world
    pub found : (b : ℕ) → IsFound fixed s.memory b (IsInSomeHand s life.began b) (s.world.hand b)
    pub chains : (r : ℕ) → IsChainRoot fixed r → Chain defers s.memory s.world.hand r
    pub bounded : (j : ℕ) (v : SlotView T) → view_of s j ≡ Some v → IsBounded s.world j v

module _ {T : Type 0} where
  -- the section of a seat holds the block, which is not over
  abbrev pub Keeps : SlotView T → SlotView T → World T → ℕ → Type 0
  Keeps u o w b = (t : ℕ) × (has : Has T) × (u ≡ Inside t has) × (holds t b w.log ≡ true) × (is_over b w.log ≡ false)

  -- what a section that is open holds it holds still
  abbrev pub HeldStay : World T → World T → Type 0
  HeldStay w n = (t b : ℕ) → IsInside (w.uses t) → holds t b w.log ≡ true → holds t b n.log ≡ true

module _ {T : Type 0} (defers : T → Option ℕ) (fixed : Fixed) where
  -- A step of a seat leads to this memory: the seat has a view, and there is a world, by which the rule holds again; what others keep stays kept, and what
  -- open sections hold, its own too, they hold still.
  abbrev pub Leads : State T (SlotView T) (World T) → Mem T → ℕ → (SlotView T → Type 0) → Type 0
  Leads s m id so =
      (v : SlotView T) × (w : World T) × Holds defers fixed (after s m id v w) × PreservesKept (Holds defers fixed) Keeps s id w × HeldStay s.world w × so v

  -- the seat may make the operation, in each state in which it knows this, and whatever it answers
  abbrev pub Permits : ℕ → SlotView T → Op T → (Out T → SlotView T → Type 0) → Type 0
  Permits id v op so =
      (s : State T (SlotView T) (World T)) → Holds defers fixed s → view_of s id ≡ Some v
      → Can s.memory op × ((out : Out T) (m : Mem T) → Took s.memory op out m → Leads s m id (so out))

  -- or take a step without one
  abbrev pub TurnsTo : ℕ → SlotView T → (SlotView T → Type 0) → Type 0
  TurnsTo id v so = (s : State T (SlotView T) (World T)) → Holds defers fixed s → view_of s id ≡ Some v → Leads s s.memory id so
