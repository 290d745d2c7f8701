-- The world of the collector: a memory, the row that each caller has under way, and what has happened so far. At any moment any caller may take
-- its next step, which makes at most one operation.
use Rattle.std.specs.Prelude.{◌≡◌, ◌≢◌, ℕ, ◌+◌, ◌-◌, ◌*◌, ◌<◌, ◌==◌, Bool, true, false, List, [], ◌∷◌, ◌++◌, Option, Some, None, Ok, if◌then◌else◌, replicate, ◌⊎◌, ◌≤◌, ◌^◌, max, length}
use Rattle.seize_words.specs.OneMemory.Word.{block_in, link_to}
use Rattle.seize_words.specs.declared.at.At.{At}
use Rattle.seize_words.specs.declared.at.At.TheVariants.{Root, Used, Slot, Entry, Word}
use Rattle.seize_words.specs.OneMemory.Op.{Op, Out, Load, Store, Swap, Add, Or, Exchange, Make, Take, Rewrite, Made, Taken}
use Rattle.seize_words.specs.OneMemory.Mem.{Mem, Can, Took, value_at, word_at}
use Rattle.seize_words.specs.OneMemory.Plan.{May, Steps}
use Rattle.seize.specs.declared.states.TheConstants.{HEAD, IDLE, ACTIVE, NEXT}
use Rattle.seize.specs.declared.advance.Advance.{Advance}
use Rattle.seize.specs.declared.advance.Advance.TheVariants as progress
use Rattle.seize.specs.declared.rows.settle.Settle.{Settle}
use Rattle.seize.specs.declared.rows.settle.Settling.{Settling}
use Rattle.seize.specs.declared.rows.settle.Settling.TheVariants as settling
use Rattle.seize.specs.declared.rows.settle.Settled.{Settled}
use Rattle.seize.specs.declared.rows.settle.Settled.TheVariants as settled
use Rattle.seize.specs.declared.rows.leave.Leave.{Leave}
use Rattle.seize.specs.declared.rows.leave.Leaving.{Leaving}
use Rattle.seize.specs.declared.rows.leave.Leaving.TheVariants as leaving
use Rattle.seize.specs.declared.rows.defer.Defer.{Defer}
use Rattle.seize.specs.declared.rows.register.Register.{Register}
use Rattle.seize.specs.declared.rows.register.Registering.{Registering}
use Rattle.seize.specs.declared.rows.register.Registering.TheVariants as registering
use Rattle.seize.specs.declared.rows.enter.Enter.{Enter}
use Rattle.seize.specs.declared.rows.enter.Unregister.{Unregister}
use Rattle.seize.specs.Law.{Effect, Entered, Left, Made as MadeBlock, Linked, Unlinked, Deferred, Retired, Taken as TakenBlock, Dropped, Ended, LeftOver, holds, is_orphan, is_over, is_retired, IsSound}
use Rattle.seize.specs.WaitingSets.{is_one_of}
use Rattle.seize.specs.Further.{IsWordOf, FurtherAre}
use Rattle.seize.specs.Settle.{retiring, flushing, settle_plan}
use Rattle.seize.specs.Leave.{leaving as leaving_slot, leave_plan}
use Rattle.seize.specs.Defer.{deferring, defer_plan}
use Rattle.seize.specs.Register.{register_plan}
use Rattle.seize.specs.Enter.{enter_plan, unregister_plan}

-- what a caller has under way
pub data Row : Type 0 where
  Rests : Row
  Registers : Register → Row
  Enters : Enter → Row
  Settles : Settle → Row  -- it retires a block, or flushes
  Leaves : Leave → Row  -- or refreshes
  Defers : ℕ → Defer → Row  -- within the section of this slot
  Frees : Unregister → Row

-- what a slot is used for; the number says how many rows work on it
pub data Use : Type 0 where
  Vacant : Use
  Outside : ℕ → Use  -- it is registered, and no section of it is open
  Inside : ℕ → Use
  Changing : Use  -- a row takes it, enters, leaves, refreshes, or gives it up

-- Who has a block. A number is that of its holder: the caller who came to it so, or whoever has it from that caller.
pub data Hand : Type 0 where
  NoBlock : Hand
  Making : ℕ → Hand  -- this holder: it was made, and is not linked
  InUse : ℕ → Hand  -- it is linked, and is this owner's
  Parting : ℕ → Hand  -- this holder, who has taken it out of what it was in: it can still be reached, and nobody else may unlink it
  Cutting : ℕ → Hand  -- this holder: it was unlinked
  Handed : Hand  -- the collector
  LeftTo : ℕ → Hand  -- this holder: its owner has ended, and it can only be taken away

pub record World (T : Type 0) : Type 0 where
  pub memory : Mem T
  pub row : ℕ → Row  -- by caller
  pub uses : ℕ → Use  -- by slot
  pub hand : ℕ → Hand  -- by block
  pub log : List Effect  -- the newest first

-- f with v at k
abbrev pub with_at : {X : Type 0} → (ℕ → X) → ℕ → X → ℕ → X
with_at f k v j = if j == k then v else f j

-- what a caller begins
pub data Request : Type 0 where
  Register' : Bool → Request  -- whether the slot is entered, too
  Enter' : ℕ → Request
  Leave' : ℕ → Request
  LeaveOwned : ℕ → Request
  Refresh : ℕ → Request
  Unregister' : ℕ → Request
  Retire : ℕ → ℕ → Request  -- under this slot, this block
  Flush : ℕ → Request
  Defer' : ℕ → ℕ → ℕ → Request  -- in a section of this slot, this block, onto the list of that one

-- one row more works on the slot
abbrev pub one_more : Use → Use
one_more (Outside n) = Outside (n + 1)
one_more (Inside n) = Inside (n + 1)
one_more u = u

abbrev pub one_less : Use → Use
one_less (Outside n) = Outside (n - 1)
one_less (Inside n) = Inside (n - 1)
one_less u = u

abbrev pub IsTaken : Use → Type 0
IsTaken (Outside n) = Unit {0}
IsTaken (Inside n) = Unit {0}
IsTaken _ = ⊥

-- the block is left to nobody
abbrev pub IsNotLeft : Hand → Type 0
IsNotLeft (LeftTo i) = ⊥
IsNotLeft _ = Unit {0}

-- this caller may unlink the block, or defer it: it is linked, and nobody else has taken it out of what it was in
abbrev pub MayCut : ℕ → Hand → Type 0
MayCut i (InUse o) = Unit {0}
MayCut i (Parting h) = h ≡ i
MayCut i _ = ⊥

abbrev pub IsInside : Use → Type 0
IsInside (Inside n) = Unit {0}
IsInside _ = ⊥

module _ {T : Type 0} where
  abbrev pub with_row : World T → ℕ → Row → World T
  with_row w i row = record w { row = with_at w.row i row }

  abbrev pub with_use : World T → ℕ → Use → World T
  with_use w s u = record w { uses = with_at w.uses s u }

  abbrev pub with_hand : World T → ℕ → Hand → World T
  with_hand w b hand = record w { hand = with_at w.hand b hand }

  abbrev pub with_effect : World T → Effect → World T
  with_effect w effect = record w { log = effect ∷ w.log }

module _ {T : Type 0} (defers : T → Option ℕ) (batch_size : ℕ) where
  -- the word of a block that holds its list of further values
  abbrev pub ListWord : World T → ℕ → ℕ → Type 0
  ListWord w b field = (value : T) × (value_at w.memory b ≡ Some value) × (defers value ≡ Some field)

  abbrev pub HasNoList : World T → ℕ → Type 0
  HasNoList w b = (value : T) × (value_at w.memory b ≡ Some value) × (defers value ≡ None)

  -- A caller begins a row. A slot enters, leaves, refreshes and is given up while no row works on it. A block is retired that
  -- somebody has unlinked. It is deferred within a section that could reach the block that it goes to,
  -- which is not left over.
  abbrev pub Begins : ℕ → Request → World T → World T → Type 0
  Begins i (Register' enters) w n = n ≡ with_row w i (Registers (record { slot = 0; enters = enters; stands = registering.Begin }))
  Begins i (Enter' s) w n = (w.uses s ≡ Outside 0) × (n ≡ with_use (with_row w i (Enters (record { slot = s }))) s Changing)
  Begins i (Leave' s) w n = (w.uses s ≡ Inside 0) × (n ≡ with_use (with_row w i (Leaves (leaving_slot s batch_size IDLE false))) s Changing)
  Begins i (LeaveOwned s) w n = (w.uses s ≡ Inside 0) × (n ≡ with_use (with_row w i (Leaves (leaving_slot s batch_size IDLE true))) s Changing)
  Begins i (Refresh s) w n = (w.uses s ≡ Inside 0) × (n ≡ with_use (with_row w i (Leaves (leaving_slot s batch_size ACTIVE false))) s Changing)
  Begins i (Unregister' s) w n = (w.uses s ≡ Outside 0) × (n ≡ with_use (with_row w i (Frees (record { slot = s }))) s Changing)
  Begins i (Retire s b) w n =
      IsTaken (w.uses s) × ((h : ℕ) × (w.hand b ≡ Cutting h))
      × (n ≡ with_hand (with_use (with_row w i (Settles (retiring s batch_size (link_to b)))) s (one_more (w.uses s))) b Handed)
  Begins i (Flush s) w n = IsTaken (w.uses s) × (n ≡ with_use (with_row w i (Settles (flushing s batch_size))) s (one_more (w.uses s)))
  Begins i (Defer' s b t) w n =
      (field : ℕ) × IsInside (w.uses s) × MayCut i (w.hand b) × HasNoList w b × ListWord w t field × (holds s t w.log ≡ true) × IsNotLeft (w.hand t)
      × (n ≡ with_effect (with_hand (with_use (with_row w i (Defers s (deferring (link_to b) (Word t field)))) s (one_more (w.uses s))) b Handed) (Deferred b t))

-- what a step does beside its operation, by where its machine stands: a block is retired as it is counted into its batch, a section ends as its
-- slot's list is taken, and begins with a row's last step
abbrev pub settle_effects : Settle → Settling → List Effect
settle_effects c (settling.Counts block) = Retired (block_in block) ∷ []
settle_effects c (settling.Takes next) = TakenBlock (block_in c.reclaiming) ∷ []
settle_effects c _ = []

abbrev pub leave_effects : Leave → Leaving → List Effect
leave_effects c leaving.Swaps = Left c.slot ∷ []
leave_effects c (leaving.Settles settle) = settle_effects settle settle.stands
leave_effects c leaving.Over = if c.becomes == ACTIVE then Entered c.slot ∷ [] else []
leave_effects c _ = []

abbrev pub register_effects : Register → Registering → List Effect
register_effects c registering.Enter = Entered c.slot ∷ []
register_effects c _ = []

-- a block that is reclaimed is nobody's
abbrev pub handed_by : List Effect → (ℕ → Hand) → ℕ → Hand
handed_by [] hand = hand
handed_by (TakenBlock b ∷ effects) hand = with_at (handed_by effects hand) b NoBlock
handed_by (_ ∷ effects) hand = handed_by effects hand

-- the use of a slot after this step of a row that leaves it: one that frees it has nothing more to do with it from then on
abbrev pub left_as : Leave → Leaving → Use → Use
left_as c leaving.Frees use_before = Vacant
left_as c leaving.Over use_before = if c.becomes == ACTIVE then Inside 0 else (if c.frees then use_before else Outside 0)
left_as c _ use_before = use_before

-- how a slot is used whose row has ended here
abbrev pub registered_use : Registering → Use
registered_use registering.Enter = Inside 0
registered_use _ = Outside 0

abbrev pub registered_as : Register → Use
registered_as c = registered_use c.stands

module _ {T : Type 0} where
  -- the world after a step of caller i: the memory left, what the row goes on with, what happened, and how the slot is used
  abbrev pub after_step : World T → ℕ → Mem T → Row → List Effect → World T
  after_step w i m row effects = record w { memory = m; row = with_at w.row i row; hand = handed_by effects w.hand; log = effects ++ w.log }

  abbrev pub settles_on : World T → ℕ → Settle → Mem T → Settle × Settled T → World T
  settles_on w i c m (end, settled.Done) = with_use (after_step w i m Rests []) c.slot (one_less (w.uses c.slot))
  settles_on w i c m (end, _) = after_step w i m (Settles end) (settle_effects c c.stands)

  abbrev pub left_row : Leave → Settled T → Row
  left_row end settled.Done = Rests
  left_row end _ = Leaves end

  abbrev pub leaves_on : World T → ℕ → Leave → Mem T → Leave × Settled T → World T
  leaves_on w i c m (end, progress) =
      with_use (after_step w i m (left_row end progress) (leave_effects c c.stands)) c.slot (left_as c c.stands (w.uses c.slot))

  abbrev pub registers_on : World T → ℕ → Register → Mem T → Register × Advance ℕ → World T
  registers_on w i c m (end, progress.Done s) = with_use (after_step w i m Rests (register_effects c c.stands)) s (registered_as c)
  registers_on w i c m (end, progress.Refused fault) = after_step w i m Rests []
  registers_on w i c m (end, _) = after_step w i m (Registers end) (register_effects c c.stands)

  abbrev pub defers_on : World T → ℕ → ℕ → Mem T → Defer × Advance Unit → World T
  defers_on w i s m (end, progress.Done u) = with_use (after_step w i m Rests []) s (one_less (w.uses s))
  defers_on w i s m (end, _) = after_step w i m (Defers s end) []

module _ {T : Type 0} (defers : T → Option ℕ) where
  -- caller i takes the next step of its row
  abbrev pub Steps' : ℕ → Row → World T → World T → Type 0
  Steps' i Rests w n = ⊥
  Steps' i (Registers c) w n = (m : Mem T) × (end : Register × Advance ℕ) × Steps Took value_at w.memory (register_plan c) m end × (n ≡ registers_on w i c m end)
  Steps' i (Enters c) w n =
      (m : Mem T) × (end : Enter × Advance Unit) × Steps Took value_at w.memory (enter_plan c) m end
      × (n ≡ with_use (after_step w i m Rests (Entered c.slot ∷ [])) c.slot (Inside 0))
  Steps' i (Settles c) w n = (m : Mem T) × (end : Settle × Settled T) × Steps Took value_at w.memory (settle_plan defers c) m end × (n ≡ settles_on w i c m end)
  Steps' i (Leaves c) w n = (m : Mem T) × (end : Leave × Settled T) × Steps Took value_at w.memory (leave_plan defers c) m end × (n ≡ leaves_on w i c m end)
  Steps' i (Defers s c) w n = (m : Mem T) × (end : Defer × Advance Unit) × Steps Took value_at w.memory (defer_plan c) m end × (n ≡ defers_on w i s m end)
  Steps' i (Frees c) w n =
      (m : Mem T) × (end : Unregister × Advance Unit) × Steps Took value_at w.memory (unregister_plan c) m end
      × (n ≡ with_use (after_step w i m Rests []) c.slot Vacant)

  -- and it may take it
  abbrev pub MayStep : Row → Mem T → Type 0
  MayStep Rests m = Unit {0}
  MayStep (Registers c) m = May Can Took value_at m (register_plan c)
  MayStep (Enters c) m = May Can Took value_at m (enter_plan c)
  MayStep (Settles c) m = May Can Took value_at m (settle_plan defers c)
  MayStep (Leaves c) m = May Can Took value_at m (leave_plan defers c)
  MayStep (Defers s c) m = May Can Took value_at m (defer_plan c)
  MayStep (Frees c) m = May Can Took value_at m (unregister_plan c)

-- these blocks are left to caller i
abbrev pub all_left_to : ℕ → List ℕ → (ℕ → Hand) → ℕ → Hand
all_left_to i blocks hand b = if is_one_of b blocks then LeftTo i else hand b

-- a row is putting a block on the list of this one
abbrev pub IsOnto : ℕ → Row → Type 0
IsOnto b (Defers s c) = IsWordOf b c.table_word
IsOnto b _ = ⊥

-- a block that is left over may be taken away: it is over, or no section holds it
abbrev pub MayClear : ℕ → List Effect → Type 0
MayClear b log = (is_over b log ≡ true) ⊎ ((s : ℕ) → holds s b log ≡ false)

-- what happens at a moment
pub data Event (T : Type 0) : Type 0 where
  Begin : ℕ → Request → Event T  -- this caller begins a row
  Step : ℕ → Event T  -- this caller takes one step
  Makes : ℕ → T → ℕ → Event T  -- this caller makes a block of a value and as many words
  Drops : ℕ → ℕ → Event T  -- this caller takes a block away that was made and not linked
  Links : ℕ → ℕ → ℕ → Event T  -- from now on the block can be reached, and is this owner's
  Parts : ℕ → ℕ → Event T  -- this caller takes the block out of what it was in: it alone is to unlink it
  Unlinks : ℕ → ℕ → Event T  -- and from now on not any more
  Rewrites : ℕ → ℕ → T → Event T  -- this caller replaces the value of a block that was made and not linked
  Operates : Op T → Event T  -- somebody makes an operation on a word of the users' own
  Ends : ℕ → ℕ → Event T  -- this owner ends
  LeavesOver : ℕ → ℕ → List ℕ → Event T  -- the block's owner has ended: from now on it and its further values are left to this caller
  Relinks : ℕ → ℕ → ℕ → Event T  -- this caller writes the word that links a block which is left over to the next one
  Clears : ℕ → ℕ → Event T  -- this caller takes a block away that is left over: one that is over, or that no section holds
  Chooses : ℕ → Event T

module _ {T : Type 0} (defers : T → Option ℕ) where
  -- a word that its users write: of roots, and of blocks, save the words that hold further values
  abbrev pub IsOwn : Mem T → At → Type 0
  IsOwn m (Root r) = Unit {0}
  IsOwn m (Used r) = Unit {0}
  IsOwn m (Slot s field) = ⊥
  IsOwn m (Entry b field) = ⊥
  IsOwn m (Word b field) = (value : T) × (value_at m b ≡ Some value) × (defers value ≢ Some field)

  abbrev pub IsOwnOp : Mem T → Op T → Type 0
  IsOwnOp m (Load at) = IsOwn m at
  IsOwnOp m (Store at word) = IsOwn m at
  IsOwnOp m (Swap at word) = IsOwn m at
  IsOwnOp m (Add at by) = IsOwn m at
  IsOwnOp m (Or at bits) = IsOwn m at
  IsOwnOp m (Exchange at old new) = IsOwn m at
  IsOwnOp m _ = ⊥

  -- a block has the word that its value names
  abbrev pub HasListWord : Option ℕ → ℕ → Type 0
  HasListWord None words = Unit {0}
  HasListWord (Some field) words = field < words

  abbrev pub made_by : World T → ℕ → Mem T → Out T → World T
  made_by w i m (Made (Ok b)) = with_effect (with_hand (record w { memory = m }) b (Making i)) (MadeBlock b)
  made_by w i m _ = record w { memory = m }

  abbrev pub Happens : ℕ → Event T → World T → World T → Type 0
  Happens batch_size (Begin i request) w n = (w.row i ≡ Rests) × Begins defers batch_size i request w n
  Happens batch_size (Step i) w n = Steps' defers i (w.row i) w n
  Happens batch_size (Makes i value words) w n =
      (out : Out T) × (m : Mem T) × HasListWord (defers value) words × Took w.memory (Make value words) out m × (n ≡ made_by w i m out)
  Happens batch_size (Drops i b) w n =
      (out : Out T) × (m : Mem T) × ((h : ℕ) × (w.hand b ≡ Making h)) × Took w.memory (Take b) out m
      × (n ≡ with_effect (with_hand (record w { memory = m }) b NoBlock) (Dropped b))
  Happens batch_size (Links i b o) w n = ((h : ℕ) × (w.hand b ≡ Making h)) × (n ≡ with_effect (with_hand w b (InUse o)) (Linked b o))
  Happens batch_size (Parts i b) w n = ((o : ℕ) × (w.hand b ≡ InUse o)) × (n ≡ with_hand w b (Parting i))
  Happens batch_size (Unlinks i b) w n = MayCut i (w.hand b) × (n ≡ with_effect (with_hand w b (Cutting i)) (Unlinked b))
  Happens batch_size (Rewrites i b value) w n =
      (before : T) × (m : Mem T) × ((h : ℕ) × (w.hand b ≡ Making h)) × Took w.memory (Rewrite b value) (Taken before) m
      × (defers value ≡ defers before) × (n ≡ record w { memory = m })
  Happens batch_size (Operates op) w n = (out : Out T) × (m : Mem T) × IsOwnOp w.memory op × Took w.memory op out m × (n ≡ record w { memory = m })
  Happens batch_size (Ends i o) w n = n ≡ with_effect w (Ended o)
  Happens batch_size (LeavesOver i b further) w n =
      ((h : ℕ) × (w.hand b ≡ Cutting h)) × (is_orphan b w.log ≡ true) × ((j : ℕ) → IsOnto b (w.row j) → ⊥) × FurtherAre defers w.memory b further
      × (n ≡ with_effect (record w { hand = all_left_to i (b ∷ further) w.hand }) (LeftOver b further))
  Happens batch_size (Relinks i b word) w n =
      (out : Out T) × (m : Mem T) × ((h : ℕ) × (w.hand b ≡ LeftTo h)) × Took w.memory (Store (Entry b NEXT) word) out m × (n ≡ record w { memory = m })
  Happens batch_size (Clears i b) w n =
      (out : Out T) × (m : Mem T) × ((h : ℕ) × (w.hand b ≡ LeftTo h)) × MayClear b w.log × Took w.memory (Take b) out m
      × (n ≡ with_effect (with_hand (record w { memory = m }) b NoBlock) (Dropped b))
  Happens batch_size (Chooses choice) w n = n ≡ record w { memory = record w.memory { choices = w.memory.choices ++ choice ∷ [] } }

  -- these events happen, one after another
  abbrev pub Runs : ℕ → List (Event T) → World T → World T → Type 0
  Runs batch_size [] w n = n ≡ w
  Runs batch_size (e ∷ events) w n = (v : World T) × Happens batch_size e w v × Runs batch_size events v n

  -- a memory with as many roots, and nothing else
  abbrev pub at_start : ℕ → World T
  at_start roots = record {
    memory = record { roots = replicate roots 0; used = replicate roots 0; slots = []; blocks = []; choices = [] };
    row = λ i. Rests;
    uses = λ s. Vacant;
    hand = λ b. NoBlock;
    log = [];
  }

  -- The promise: whatever happens, in whatever order the callers take their steps, the log of effects is sound.
  abbrev pub RowsAreSound : Type 0
  RowsAreSound = (batch_size roots : ℕ) (events : List (Event T)) (w : World T) → Runs batch_size events (at_start roots) w → IsSound w.log

  -- and each row under way may take its next step
  abbrev pub RowsMayStep : Type 0
  RowsMayStep = (batch_size roots : ℕ) (events : List (Event T)) (w : World T) → Runs batch_size events (at_start roots) w → (i : ℕ) → MayStep defers (w.row i) w.memory

-- nobody is within a section of the slot, nor about to enter or to leave one
abbrev pub IsOutside : Use → Type 0
IsOutside Vacant = Unit {0}
IsOutside (Outside n) = Unit {0}
IsOutside _ = ⊥

-- how often a block stands in a list
abbrev pub times : ℕ → List ℕ → ℕ
times b [] = 0
times b (c ∷ blocks) = (if b == c then 1 else 0) + times b blocks

-- the slots below this number were taken at some time, and no others
abbrev pub SlotsTaken : {T : Type 0} → Mem T → ℕ → Type 0
SlotsTaken m slots =
    ((s : ℕ) → s < slots → (head : ℕ) × (word_at m (Slot s HEAD) ≡ Some head) × (0 < head))
    × ((s head : ℕ) → slots ≤ s → word_at m (Slot s HEAD) ≡ Some head → head ≡ 0)

-- The bound: where no row is under way and no slot is active, so many blocks at most are retired and not yet reclaimed: on each slot ever taken
-- fewer than a batch is tried with, or fewer than there are such slots. A batch size is a word.
abbrev pub GarbageIsBounded : {T : Type 0} → (T → Option ℕ) → Type 0
GarbageIsBounded {T} defers =
    (batch_size roots : ℕ) (events : List (Event T)) (w : World T) → batch_size < 2 ^ 64 → Runs defers batch_size events (at_start defers roots) w
    → ((i : ℕ) → w.row i ≡ Rests) → ((s : ℕ) → IsOutside (w.uses s)) → (slots : ℕ) → SlotsTaken w.memory slots
    → (blocks : List ℕ) → ((b : ℕ) → times b blocks ≤ 1) → ((b : ℕ) → 0 < times b blocks → is_retired b w.log ≡ true)
    → length blocks ≤ slots * (max (max batch_size slots) 1 - 1)
