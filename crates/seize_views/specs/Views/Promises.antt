-- What is promised of the rule: it may start, seats may come, and each row may begin, go on and end, whatever the other seats do; and what a seat may do with
-- blocks within its section.
use Rattle.std.specs.Prelude.{◌≡◌, ◌≢◌, ◌<◌, ◌^◌, ◌⊎◌, ℕ, Option, Some, None}
use Rattle.seize_words.specs.OneMemory.Word.{block_in, link_to}
use Rattle.seize_words.specs.OneMemory.Op.{Op, Load, Store, Swap, Or, Exchange, Make, Take, Rewrite}
use Rattle.seize_words.specs.OneMemory.Plan.{Plan, Turn, Do}
use Rattle.seize_words.specs.declared.at.At.TheVariants.{Root, Slot}
use Rattle.seize.specs.declared.states.TheConstants.{HEAD, FREE, ACTIVE}
use Rattle.seize.specs.declared.rows.register.Registering.TheVariants as at
use Rattle.seize.specs.declared.rows.settle.Settling.TheVariants as settling_at
use Rattle.seize.specs.declared.rows.settle.Settle.{Settle}
use Rattle.seize.specs.Register.{register_plan}
use Rattle.seize.specs.Settle.{retiring, flushing, settle_plan}
use Rattle.seize.specs.World.{HasListWord}
use Rattle.seize_seats.specs.Seats.Lendings.{VisibleTo, IsValueOf}
use Rattle.seize_seats.specs.Seats.State.{Starts, Comes, Meets}
use Rattle.seize_views.specs.Views.Chains.{all_roots}
use Rattle.seize_views.specs.Views.Rows.{TurnsTo, Permits, head_of, Holds, Keeps}
use Rattle.seize_views.specs.Views.Begun.{IsBegun, Hands, left_with, seeker_at}
use Rattle.seize_views.specs.Views.Told.{alone_with, told}
use Rattle.seize_views.specs.declared.view.SlotView.{SlotView}
use Rattle.seize_views.specs.declared.view.Becomes.{Becomes}
use Rattle.seize_views.specs.declared.view.Becomes.TheVariants.{Idle, Active}
use Rattle.seize_views.specs.declared.view.SlotView.TheVariants.{Rests, Registers, Outside, Owes, Enters, Inside, Settles, Leaves, Left, Frees, Brings, Bears}
use Rattle.seize_views.specs.declared.view.Has.{Has}
use Rattle.seize_views.specs.declared.view.Has.TheVariants.{Nothing, Made, Seen, Both, Cut, Walks}
use Rattle.seize_views.specs.declared.view.Why.{Why}
use Rattle.seize_views.specs.declared.view.Why.TheVariants.{Retiring, Ending}
use Rattle.seize_views.specs.declared.view.Fixed.{Fixed}

-- the operation of a step, if it makes one
abbrev pub op_in : {T R : Type 0} → Plan T R → Option (Op T)
op_in (Turn rest) = None
op_in (Do op rest) = Some op

module _ {T : Type 0} (defers : T → Option ℕ) where
  -- the next operation of the row of a seat
  abbrev pub op_of : SlotView T → Option (Op T)
  op_of (Registers c) = op_in (register_plan {T = T} c)
  op_of (Enters t) = Some (Store (Slot t HEAD) ACTIVE)
  op_of (Settles c why seen left) = op_in (settle_plan defers c)
  op_of (Leaves t size way) = Some (Swap (Slot t HEAD) (head_of way))
  op_of (Frees t) = Some (Store (Slot t HEAD) FREE)
  op_of _ = None

-- within a section of this slot a seat that has no block in its hand may begin to leave, or to refresh, and let go of what it has seen
abbrev pub IsFree : {T : Type 0} → Fixed → ℕ → SlotView T → Type 0
IsFree fixed t u = ((way : Becomes) × (u ≡ Leaves t fixed.batch_size way)) ⊎ (u ≡ Inside t Nothing)

-- what a seat may come to know without an operation: a row begins, or ends
abbrev pub IsNext : {T : Type 0} → Fixed → SlotView T → SlotView T → Type 0
IsNext fixed Rests u = u ≡ Registers (seeker_at 0 at.Begin)
IsNext fixed (Outside t) u = (u ≡ Enters t) ⊎ (u ≡ Frees t)
IsNext fixed (Inside t Nothing) u = IsFree fixed t u
IsNext fixed (Inside t (Seen b)) u = IsFree fixed t u
IsNext fixed (Settles c (Retiring way) seen left) u = (c.stands ≡ settling_at.Over) × (u ≡ left_with way c.slot)
IsNext fixed (Settles c (Ending size way) seen left) u = (c.stands ≡ settling_at.Over) × (u ≡ Left c.slot size way)
IsNext fixed (Left t size way) u = u ≡ left_with way t
IsNext fixed _ u = ⊥

-- within a section, or outside of one, a settling may begin: of the block that was unlinked, or of the batch
abbrev pub IsToSettle : {T : Type 0} → Fixed → SlotView T → Becomes → Settle → Type 0
IsToSettle fixed (Inside t (Cut b)) Active c = c ≡ retiring t fixed.batch_size (link_to b)
IsToSettle fixed (Inside t Nothing) Active c = c ≡ flushing t fixed.batch_size
IsToSettle fixed (Inside t (Seen b)) Active c = c ≡ flushing t fixed.batch_size
IsToSettle fixed (Owes t b) Idle c = c ≡ retiring t fixed.batch_size (link_to b)
IsToSettle fixed (Outside t) Idle c = c ≡ flushing t fixed.batch_size
IsToSettle fixed _ way c = ⊥

-- the block that is known, or one of both
abbrev pub Names : {T : Type 0} → Has T → ℕ → Type 0
Names Nothing b = ⊥
Names (Made c x) b = c ≡ b
Names (Seen c) b = c ≡ b
Names (Both c x a) b = (c ≡ b) ⊎ (a ≡ b)
Names (Cut c) b = c ≡ b
Names (Walks c next) b = (c ≡ b) × (b ≢ 0)

-- the block that was made
abbrev pub HasMade : {T : Type 0} → Has T → ℕ → Type 0
HasMade (Made c x) b = c ≡ b
HasMade (Both c x a) b = c ≡ b
HasMade _ b = ⊥

-- a block was seen, or none is known
abbrev pub IsLooking : {T : Type 0} → Has T → Type 0
IsLooking Nothing = Unit {0}
IsLooking (Seen b) = Unit {0}
IsLooking _ = ⊥

-- a seat has a slot, and no block in its hand
abbrev pub IsTaker : {T : Type 0} → SlotView T → Type 0
IsTaker (Outside t) = Unit {0}
IsTaker (Inside t has) = IsLooking has
IsTaker _ = ⊥

module _ (T : Type 0) (defers : T → Option ℕ) where
  -- The promise: the rule may start, whatever is chosen.
  abbrev pub RulesStart : Type 0
  RulesStart = (fixed : Fixed) → Starts (Holds defers fixed) (all_roots fixed)

  -- and seats may come
  abbrev pub SeatsCome : Type 0
  SeatsCome = (fixed : Fixed) → Comes (Holds defers fixed) Keeps Rests

  -- the next operation of the row of a seat may be made at any moment
  abbrev pub RowsContinue : Type 0
  RowsContinue = (fixed : Fixed) (id : ℕ) (v : SlotView T) (op : Op T) → op_of defers v ≡ Some op → Permits defers fixed id v op (told defers v op)

  -- and rows begin and end
  abbrev pub RowsTurn : Type 0
  RowsTurn = (fixed : Fixed) (id : ℕ) (v u : SlotView T) → IsNext fixed v u → TurnsTo defers fixed id v (λ x. x ≡ u)

  -- a settling begins, with as many steps left as it takes at most
  abbrev pub SettlingsBegin : Type 0
  SettlingsBegin =
      (fixed : Fixed) (id : ℕ) (v : SlotView T) (way : Becomes) (c : Settle) → IsToSettle fixed v way c → TurnsTo defers fixed id v (IsBegun way c)

  -- within a section of a slot this operation may be made by a seat that knows of this block
  abbrev pub MayInside : Has T → Op T → Type 0
  MayInside has op = (fixed : Fixed) (id t : ℕ) → Permits defers fixed id (Inside t has) op (told defers (Inside t has) op)

  -- a block with the words that its value asks for may be made by whoever has none in its hand, and taken away by whoever has made it
  abbrev pub BlocksAreMade : Type 0
  BlocksAreMade = (has : Has T) (value : T) (words : ℕ) → IsLooking has → HasListWord defers (defers value) words → MayInside has (Make value words)

  abbrev pub MadeAreTaken : Type 0
  MadeAreTaken = (has : Has T) (b : ℕ) → HasMade has b → MayInside has (Take b)

  -- it may be put at a root, by a word that links to it, in place of what is there, or only in place of this word
  abbrev pub MadeAreLinked : Type 0
  MadeAreLinked =
      (b : ℕ) (x : T) (r word : ℕ) (fixed : Fixed) (id t : ℕ) → block_in word ≡ b → r < fixed.roots
      → Permits defers fixed id (Inside t (Made b x)) (Swap (Root r) word) (told defers (Inside t (Made b x)) (Swap (Root r) word))

  abbrev pub MadeAreExchanged : Type 0
  MadeAreExchanged =
      (has : Has T) (b r old word : ℕ) (fixed : Fixed) (id t : ℕ) → HasMade has b → block_in word ≡ b → r < fixed.roots
      → Permits defers fixed id (Inside t has) (Exchange (Root r) old word) (told defers (Inside t has) (Exchange (Root r) old word))

  -- what a root names may be seen
  abbrev pub RootsAreSeen : Type 0
  RootsAreSeen =
      (has : Has T) (r : ℕ) (fixed : Fixed) (id t : ℕ) → IsLooking has → r < fixed.roots
      → Permits defers fixed id (Inside t has) (Load (Root r)) (told defers (Inside t has) (Load (Root r)))

  -- or the word that names it marked: bits of its tag are set
  abbrev pub RootsAreMarked : Type 0
  RootsAreMarked =
      (has : Has T) (r bits : ℕ) (fixed : Fixed) (id t : ℕ) → IsLooking has → bits < 2 ^ 11 → r < fixed.roots
      → Permits defers fixed id (Inside t has) (Or (Root r) bits) (told defers (Inside t has) (Or (Root r) bits))

  -- or it may be taken from there
  abbrev pub RootsAreCleared : Type 0
  RootsAreCleared =
      (r : ℕ) (fixed : Fixed) (id t : ℕ) → r < fixed.roots
      → Permits defers fixed id (Inside t Nothing) (Swap (Root r) 0) (told defers (Inside t Nothing) (Swap (Root r) 0))

  -- outside of a section, too
  abbrev pub RootsAreWithdrawn : Type 0
  RootsAreWithdrawn =
      (r : ℕ) (fixed : Fixed) (id t : ℕ) → r < fixed.roots
      → Permits defers fixed id (Outside t) (Swap (Root r) 0) (told defers (Outside t) (Swap (Root r) 0))

  -- Without a slot a seat may make a block with the words that its value asks for, take it away, give it a value that keeps its list in the same word, or put
  -- it at a root, by a word that links to it, in place of what is there, or only in place of this word.
  abbrev pub MayAlone : Has T → Op T → Type 0
  MayAlone has op = (fixed : Fixed) (id : ℕ) → Permits defers fixed id (alone_with has) op (told defers (alone_with has) op)

  abbrev pub OwnAreMade : Type 0
  OwnAreMade = (value : T) (words : ℕ) → HasListWord defers (defers value) words → MayAlone Nothing (Make value words)

  abbrev pub OwnAreTaken : Type 0
  OwnAreTaken = (b : ℕ) (x : T) → MayAlone (Made b x) (Take b)

  abbrev pub OwnAreRewritten : Type 0
  OwnAreRewritten = (b : ℕ) (x y : T) → defers y ≡ defers x → MayAlone (Made b x) (Rewrite b y)

  abbrev pub OwnAreLinked : Type 0
  OwnAreLinked =
      (b : ℕ) (x : T) (r word : ℕ) (fixed : Fixed) (id : ℕ) → block_in word ≡ b → r < fixed.roots
      → Permits defers fixed id (Brings b x) (Swap (Root r) word) (told defers (Brings b x) (Swap (Root r) word))

  abbrev pub OwnAreExchanged : Type 0
  OwnAreExchanged =
      (b : ℕ) (x : T) (r old word : ℕ) (fixed : Fixed) (id : ℕ) → block_in word ≡ b → r < fixed.roots
      → Permits defers fixed id (Brings b x) (Exchange (Root r) old word) (told defers (Brings b x) (Exchange (Root r) old word))

  -- the block that it has is there, with the value that it was made of; or it was unlinked, and is there, too
  abbrev pub OwnAreShown : Type 0
  OwnAreShown =
      (fixed : Fixed) (id b : ℕ) (x : T) → VisibleTo (Holds defers fixed) id (Brings b x) b
      × ((y : T) → IsValueOf (Holds defers fixed) id (Brings b x) b y → y ≡ x)

  abbrev pub BorneAreShown : Type 0
  BorneAreShown = (fixed : Fixed) (id b : ℕ) → VisibleTo (Holds defers fixed) id (Bears b) b

  -- which it may hand on, to a seat that has a slot, and no block in its hand
  abbrev pub BorneAreHandedOn : Type 0
  BorneAreHandedOn = (fixed : Fixed) (i j b : ℕ) (u : SlotView T) → IsTaker u → Meets (Holds defers fixed) i (Bears b) j u (Hands fixed (Bears b) u)

  -- and the block that a seat knows of is there
  abbrev pub KnownAreShown : Type 0
  KnownAreShown = (has : Has T) (b : ℕ) (fixed : Fixed) (id t : ℕ) → Names has b → VisibleTo (Holds defers fixed) id (Inside t has) b

  -- as is the one that a settling is to look at, with the value that was told
  abbrev pub LookedAreShown : Type 0
  LookedAreShown =
      (fixed : Fixed) (id : ℕ) (c : Settle) (why : Why) (b left : ℕ) (x : T) → VisibleTo (Holds defers fixed) id (Settles c why (Some (b, x)) left) b
      × ((y : T) → IsValueOf (Holds defers fixed) id (Settles c why (Some (b, x)) left) b y → y ≡ x)
