-- Whole calls over a memory that has one owner, who is caller 0: what has happened to it so far, and the call that is under way.
use Rattle.std.specs.Prelude.{◌≡◌, ℕ, zero, suc, ◌<◌, ◌^◌, Bool, if◌then◌else◌, List, [], ◌∷◌, ◌++◌, map, Option, Some, None, Result, Ok, Err}
use Rattle.seize.specs.Given.SeizeWordsDeclared.fault.Fault.{Fault}
use Rattle.seize.specs.Given.SeizeWordsDeclared.fault.Fault.TheVariants.{Memory, SlotsUsedUp}
use Rattle.seize.specs.Given.SeizeWordsDeclared.at.At.TheVariants.{Slot, Entry, Word}
use Rattle.seize.specs.Given.SeizeWordsMem.{Mem, Took, value_at, word_at}
use Rattle.seize.specs.Given.SeizeWordsPlan.{Steps}
use Rattle.seize.specs.declared.states.TheConstants.{HEAD, NEXT}
use Rattle.seize.specs.declared.rows.settle.Settled.{Settled}
use Rattle.seize_model.specs.declared.calls.WholeCall.{WholeCall}
use Rattle.seize_model.specs.declared.calls.WholeCall.TheVariants as call
use Rattle.seize.specs.Law.{Effect, Entered, Linked, Unlinked, Dropped, Made}
use Rattle.seize.specs.Room.{NeedsRoom}
use Rattle.seize.specs.Settle.{settle_plan}
use Rattle.seize.specs.Leave.{leave_plan}
use Rattle.seize.specs.WaitingSets.{Change, Enters, all_changed, at_start as sets_at_start}
use Rattle.seize.specs.World.{World, Row, Rests, Settles, Leaves, Use, Vacant, Outside, Inside, Hand, NoBlock, Making, InUse, Parting, Cutting, Handed, LeftTo, Request, Leave', LeaveOwned, Refresh, Retire, Flush, Begins, Steps', with_at, handed_by, times, at_start}
use Rattle.seize.specs.Sequence.{Turn, TakesTurns, taken_in, changes, new_slot}

-- what has happened to a memory, where no call is under way
pub record History : Type 0 where
  pub before : List Change  -- in the waiting sets, in order
  pub uses : ℕ → Use  -- by slot
  pub hand : ℕ → Hand  -- by block
  pub log : List Effect  -- the newest first

-- a slot is taken, and perhaps entered at once
abbrev pub registered : Bool → ℕ → History → History
registered enters s h = record {
  before = h.before ++ (if enters then Enters s ∷ [] else []);
  uses = with_at h.uses s (if enters then Inside 0 else Outside 0);
  hand = h.hand;
  log = (if enters then Entered s ∷ [] else []) ++ h.log;
}

abbrev pub entered : ℕ → History → History
entered s h = record { before = h.before ++ Enters s ∷ []; uses = with_at h.uses s (Inside 0); hand = h.hand; log = Entered s ∷ h.log }

-- a slot is vacant again
abbrev pub given_up : ℕ → History → History
given_up s h = record { before = h.before; uses = with_at h.uses s Vacant; hand = h.hand; log = h.log }

-- nothing has happened yet
abbrev pub nothing_yet : History
nothing_yet = record { before = []; uses = λ s. Vacant; hand = λ b. NoBlock; log = [] }

-- a block changes hands
abbrev pub with_hand_of : ℕ → Hand → List Effect → History → History
with_hand_of b hand effects h = record { before = h.before; uses = h.uses; hand = with_at h.hand b hand; log = effects ++ h.log }

-- caller 0 has made a block, linked one for an owner, unlinked or dropped one
abbrev pub made : ℕ → History → History
made b = with_hand_of b (Making 0) (Made b ∷ [])

abbrev pub linked : ℕ → ℕ → History → History
linked b o = with_hand_of b (InUse o) (Linked b o ∷ [])

abbrev pub unlinked : ℕ → History → History
unlinked b = with_hand_of b (Cutting 0) (Unlinked b ∷ [])

-- a block that was left over is taken away
abbrev pub cleared : ℕ → History → History
cleared b = with_hand_of b NoBlock (Dropped b ∷ [])

-- how slots are used after a call that reclaims values
abbrev pub uses_after : Request → (ℕ → Use) → ℕ → Use
uses_after (Leave' s) uses = with_at uses s (Outside 0)
uses_after (LeaveOwned s) uses = with_at uses s Vacant
uses_after (Refresh s) uses = with_at uses s (Inside 0)
uses_after _ uses = uses

-- a block that is retired is the collector's
abbrev pub hand_at : Request → (ℕ → Hand) → ℕ → Hand
hand_at (Retire s b) hand = with_at hand b Handed
hand_at _ hand = hand

-- after a whole call, while which these effects happened
abbrev pub called : Request → List Effect → History → History
called request effects h = record {
  before = h.before ++ changes request h.uses h.uses;
  uses = uses_after request h.uses;
  hand = handed_by effects (hand_at request h.hand);
  log = effects ++ h.log;
}

-- the blocks that the waiting sets reclaim at a call, in order
abbrev pub given_back : ℕ → Request → History → List ℕ
given_back batch_size request h = (all_changed batch_size (changes request h.uses h.uses) (all_changed batch_size h.before sets_at_start).sets).reclaimed

abbrev pub row_of : WholeCall → Row
row_of (call.Settles c) = Settles c
row_of (call.Leaves c) = Leaves c

-- a call that may reclaim values
abbrev pub MayGive : Request → Type 0
MayGive (Retire s b) = Unit {0}
MayGive (Flush s) = Unit {0}
MayGive (Leave' s) = Unit {0}
MayGive (LeaveOwned s) = Unit {0}
MayGive (Refresh s) = Unit {0}
MayGive _ = ⊥

-- A caller's block: made and not linked, or in use, or unlinked and not yet handed over, or left over from what has ended.
abbrev pub IsOfUsers : Hand → Type 0
IsOfUsers NoBlock = ⊥
IsOfUsers (Making i) = Unit {0}
IsOfUsers (InUse o) = Unit {0}
IsOfUsers (Parting i) = Unit {0}
IsOfUsers (Cutting i) = Unit {0}
IsOfUsers Handed = ⊥
IsOfUsers (LeftTo i) = Unit {0}

-- how many blocks there are
abbrev pub number_of : {X : Type 0} → List (Option X) → ℕ
number_of [] = 0
number_of (None ∷ blocks) = number_of blocks
number_of (Some x ∷ blocks) = suc (number_of blocks)

abbrev pub blocks_in : {T : Type 0} → Mem T → ℕ
blocks_in m = number_of m.blocks

-- What is as it was, where a memory has become another one and these blocks were reclaimed: the roots, and the values and the users' words of all other
-- blocks. And a slot that was ever taken is so still.
pub record Spares {T : Type 0} (m m2 : Mem T) (back : List ℕ) : Type 0 where
  pub roots : m2.roots ≡ m.roots
  pub used : m2.used ≡ m.used
  pub values : (b : ℕ) → times b back ≡ 0 → value_at m2 b ≡ value_at m b
  pub words : (b i : ℕ) → times b back ≡ 0 → word_at m2 (Word b i) ≡ word_at m (Word b i)
  pub taken : (s head : ℕ) → word_at m (Slot s HEAD) ≡ Some head → 0 < head → (head2 : ℕ) × (word_at m2 (Slot s HEAD) ≡ Some head2) × (0 < head2)

-- each block links to what it linked to
abbrev pub SameLinks : {T : Type 0} → Mem T → Mem T → Type 0
SameLinks m m2 = (b : ℕ) → word_at m2 (Entry b NEXT) ≡ word_at m (Entry b NEXT)

-- and so does each that is left to caller 0
abbrev pub SameLeft : {T : Type 0} → History → Mem T → Mem T → Type 0
SameLeft h m m2 = (b : ℕ) → h.hand b ≡ LeftTo 0 → word_at m2 (Entry b NEXT) ≡ word_at m (Entry b NEXT)

-- Why no slot is taken: there is no memory, where some is needed, or no slot is vacant.
abbrev pub IsRefusal : {T : Type 0} → Mem T → (ℕ → Use) → Fault → Type 0
IsRefusal m uses Memory = NeedsRoom m uses
IsRefusal m uses SlotsUsedUp = new_slot uses ≡ None
IsRefusal m uses _ = ⊥

module _ {T : Type 0} (defers : T → Option ℕ) where
  -- the world of a memory, with no row under way
  abbrev pub at_rest : Mem T → History → World T
  at_rest m h = record { memory = m; row = λ i. Rests; uses = h.uses; hand = h.hand; log = h.log }

  -- the row of this caller takes so many steps
  abbrev pub TakesSteps : ℕ → ℕ → World T → World T → Type 0
  TakesSteps zero i w n = n ≡ w
  TakesSteps (suc steps) i w n = (v : World T) × Steps' defers i (w.row i) w v × TakesSteps steps i v n

  -- a step of a call: the memory and the call before it, and after it, and how far it is
  abbrev pub CallSteps : Mem T → WholeCall → Mem T → WholeCall → Settled T → Type 0
  CallSteps m (call.Settles c) m2 (call.Settles c2) progress = Steps Took value_at m (settle_plan defers c) m2 (c2, progress)
  CallSteps m (call.Leaves c) m2 (call.Leaves c2) progress = Steps Took value_at m (leave_plan defers c) m2 (c2, progress)
  CallSteps m _ m2 _ progress = ⊥

  module _ (batch_size roots : ℕ) where
    -- this happened from the start
    abbrev pub IsHistory : Mem T → History → Type 0
    IsHistory m h = (turns : List (Turn T)) × TakesTurns defers batch_size turns (at_start defers roots) (at_rest m h) h.before

    -- something happened from the start, and the slots are used so now
    abbrev pub SlotsAre : Mem T → (ℕ → Use) → Type 0
    SlotsAre m uses = (h : History) × IsHistory m h × (h.uses ≡ uses)

    -- what registering tells
    abbrev pub RegisteringAnswers : Mem T → Bool → History → Result ℕ Fault → Type 0
    RegisteringAnswers m enters h (Ok s) = (new_slot h.uses ≡ Some s) × IsHistory m (registered enters s h)
    RegisteringAnswers m enters h (Err fault) = IsRefusal m h.uses fault × IsHistory m h

    -- These are the values of the blocks, which were reclaimed since the memory was this one.
    abbrev pub AreValues : Mem T → List ℕ → List T → Type 0
    AreValues m blocks given = map (value_at m) blocks ≡ map Some given

    -- A call was begun on the memory m, with this history. Now its row is this one, the memory m2, and it has given these values back.
    pub record IsMidway (m : Mem T) (h : History) (request : Request) (row : Row) (m2 : Mem T) (given : List T) : Type 0 where
      pub size : batch_size < 2 ^ 64
      pub may : MayGive request
      pub history : IsHistory m h
      pub begun : World T
      pub begins : Begins defers batch_size 0 request (at_rest m h) begun
      pub now : World T
      pub steps : ℕ
      pub runs : TakesSteps steps 0 begun now
      pub row_now : now.row 0 ≡ row
      pub memory_now : now.memory ≡ m2
      pub back : List ℕ
      pub taken : taken_in now.log ≡ taken_in h.log ++ back
      pub values : AreValues m back given
      pub spares : Spares m m2 back

    -- It has ended: it gave back what the waiting sets say, in this order.
    abbrev pub IsEnded : Mem T → History → Request → List T → Mem T → Type 0
    IsEnded m h request given m2 =
        (effects : List Effect) × IsHistory m2 (called request effects h)
        × (taken_in effects ≡ given_back batch_size request h) × AreValues m (given_back batch_size request h) given × Spares m m2 (given_back batch_size request h)

    -- it goes on with a value more, or it has ended
    abbrev pub Continues : Mem T → History → Request → List T → Row → Mem T → Option T → Type 0
    Continues m h request given row m2 (Some value) = IsMidway m h request row m2 (given ++ value ∷ [])
    Continues m h request given row m2 None = IsEnded m h request given m2
