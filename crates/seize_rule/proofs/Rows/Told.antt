-- What each step of a row does to the state, by the row's kind.
use Rattle.std.proofs.Common.{◌≡◌, ℕ, ◌<◌, Bool, true, false, List}
use Rattle.seize_moves.specs.Given.SeizeWordsDeclared.at.At.TheVariants.{Word}
use Rattle.seize_moves.specs.Given.SeizeDeclared.rows.settle.Settle.{Settle}
use Rattle.seize_moves.specs.Given.SeizeDeclared.rows.settle.Settling.TheVariants as at
use Rattle.seize_moves.specs.Given.SeizeDeclared.rows.leave.Leave.{Leave}
use Rattle.seize_moves.specs.Given.SeizeDeclared.rows.leave.Leaving.{Leaving}
use Rattle.seize_moves.specs.Given.SeizeDeclared.rows.leave.Leaving.TheVariants as leaving
use Rattle.seize_moves.specs.Given.SeizeDeclared.rows.register.Register.{Register}
use Rattle.seize_moves.specs.Given.SeizeDeclared.rows.register.Registering.{Registering}
use Rattle.seize_moves.specs.Given.SeizeDeclared.rows.register.Registering.TheVariants as registering
use Rattle.seize_moves.specs.Given.SeizeDeclared.rows.defer.Defer.{Defer}
use Rattle.seize_moves.specs.Given.SeizeDeclared.rows.defer.Deferring.{Deferring}
use Rattle.seize_moves.specs.Given.SeizeDeclared.rows.defer.Deferring.TheVariants as deferring
use Rattle.seize_moves.specs.Given.SeizeDeclared.rows.enter.Enter.{Enter}
use Rattle.seize_moves.specs.Given.SeizeDeclared.rows.enter.Unregister.{Unregister}
use Rattle.seize_moves.specs.Given.SeizeLeave.{standing}
use Rattle.seize_moves.specs.Given.SeizeWorld.{Row, Rests, Registers, Enters, Settles, Leaves, Defers, Frees, Use, Vacant, Outside, Inside, Request, Retire, Flush, with_at}
use Rattle.seize_moves.proofs.Moves.State.Ghost.{Entry, Idle, Active, State}
use Rattle.seize_moves.proofs.Moves.State.Moves
use Rattle.seize_moves.proofs.Memory.Words.Named.{link}
use Rattle.seize_rule.proofs.Rows.Known.{word_of}
use Rattle.seize_moves.proofs.Moves.Sets.Unmoved.{Unmoved}
use Rattle.seize_rule.proofs.Points.Told.{Plain, part, Told}

-- the state once the slot's list is taken, for a refresh or not
abbrev pub list_off : Bool → State → ℕ → ℕ → List Entry → State
list_off true m i s es = Moves.refreshed m i s es
list_off false m i s es = Moves.has_left m i s es

-- a row that leaves has settled everything
abbrev pub IsSettled : Leaving → Type 0
IsSettled leaving.Frees = Unit {0}
IsSettled leaving.Over = Unit {0}
IsSettled _ = ⊥

-- or begins to settle
abbrev pub IsBehindList : ℕ → Leaving → Type 0
IsBehindList s leaving.Swaps = ⊥
IsBehindList s (leaving.Settles settle) = (settle.slot ≡ s) × (part settle ≡ Plain)
IsBehindList s leaving.Frees = Unit {0}
IsBehindList s leaving.Over = Unit {0}

abbrev pub HasSettled : Row → Type 0
HasSettled Rests = Unit {0}
HasSettled (Leaves c) = IsSettled c.stands
HasSettled _ = ⊥

-- no slot is taken yet
abbrev pub IsLooking : Registering → Type 0
IsLooking registering.Begin = Unit {0}
IsLooking registering.Look = Unit {0}
IsLooking (registering.Widen bucket seen) = Unit {0}
IsLooking (registering.Take seen) = Unit {0}
IsLooking _ = ⊥

-- the row goes on to enter the slot that it has taken, or is done
abbrev pub TakesFor : Bool → Register → (ℕ → Use) → Row → (ℕ → Use) → Type 0
TakesFor true c uses row2 uses2 = (row2 ≡ Registers (record c { stands = registering.Enter })) × (uses2 ≡ uses)
TakesFor false c uses row2 uses2 = (row2 ≡ Rests) × (uses2 ≡ with_at uses c.slot (Outside 0))

-- the block isn't on its list yet
abbrev pub IsOnWay : Deferring → Type 0
IsOnWay deferring.Reads = Unit {0}
IsOnWay (deferring.Links head) = Unit {0}
IsOnWay (deferring.Pushes head) = Unit {0}
IsOnWay deferring.Over = ⊥

pub data RowTold (n i : ℕ) (row : Row) (m : State) (uses : ℕ → Use) (row2 : Row) (m2 : State) (uses2 : ℕ → Use) : Type 0 where
  SettleGoes : (c c2 : Settle) → row ≡ Settles c → row2 ≡ Settles c2 → c2.slot ≡ c.slot → Told n i c (part c) m c2 m2 → RowTold n i row m uses row2 m2 uses2
  SettleEnds : (c : Settle) → row ≡ Settles c → row2 ≡ Rests → c.stands ≡ at.Over → m2 ≡ m → RowTold n i row m uses row2 m2 uses2
  -- the section ends
  LeaveSwaps : (c : Leave) (again : Bool) (es : List Entry) (p : Leaving) → row ≡ Leaves c → row2 ≡ Leaves (standing c p) → c.stands ≡ leaving.Swaps → c.slot < n
      → c.becomes ≡ word_of again → m.head c.slot ≡ Active es → m2 ≡ list_off again m i c.slot es → IsBehindList c.slot p → RowTold n i row m uses row2 m2 uses2
  -- what was on its list is settled
  LeaveGoes : (c : Leave) (settle settle2 : Settle) → row ≡ Leaves c → row2 ≡ Leaves (standing c (leaving.Settles settle2)) → c.stands ≡ leaving.Settles settle
      → settle2.slot ≡ settle.slot → Told n i settle (part settle) m settle2 m2 → RowTold n i row m uses row2 m2 uses2
  LeaveSettled : (c : Leave) (settle : Settle) → row ≡ Leaves c → c.stands ≡ leaving.Settles settle → settle.stands ≡ at.Over → HasSettled row2 → m2 ≡ m
      → RowTold n i row m uses row2 m2 uses2
  LeaveEnds : (c : Leave) → row ≡ Leaves c → IsSettled c.stands → HasSettled row2 → Unmoved n m m2 → RowTold n i row m uses row2 m2 uses2
  -- a slot is sought
  RegisterLooks : (c c2 : Register) → row ≡ Registers c → row2 ≡ Registers c2 → IsLooking c.stands → IsLooking c2.stands → c2.enters ≡ c.enters → uses2 ≡ uses → m2 ≡ m
      → RowTold n i row m uses row2 m2 uses2
  RegisterRefused : (c : Register) → row ≡ Registers c → row2 ≡ Rests → IsLooking c.stands → uses2 ≡ uses → m2 ≡ m → RowTold n i row m uses row2 m2 uses2
  RegisterTakes : (c : Register) → row ≡ Registers c → IsLooking c.stands → uses c.slot ≡ Vacant → TakesFor c.enters c uses row2 uses2 → Unmoved n m m2
      → RowTold n i row m uses row2 m2 uses2
  RegisterEnters : (c : Register) → row ≡ Registers c → row2 ≡ Rests → c.stands ≡ registering.Enter → c.slot < n → m.head c.slot ≡ Idle → m2 ≡ Moves.entered m c.slot
      → uses2 ≡ with_at uses c.slot (Inside 0) → RowTold n i row m uses row2 m2 uses2
  -- a slot is entered, or given up
  EntersSlot : (c : Enter) → row ≡ Enters c → row2 ≡ Rests → c.slot < n → m.head c.slot ≡ Idle → m2 ≡ Moves.entered m c.slot → RowTold n i row m uses row2 m2 uses2
  FreesSlot : (c : Unregister) → row ≡ Frees c → row2 ≡ Rests → Unmoved n m m2 → RowTold n i row m uses row2 m2 uses2
  -- a block goes on another one's list
  DeferGoes : (s : ℕ) (c : Defer) (p : Deferring) → row ≡ Defers s c → row2 ≡ Defers s (record c { stands = p }) → IsOnWay c.stands → IsOnWay p → m2 ≡ m
      → RowTold n i row m uses row2 m2 uses2
  DeferPushes : (s b t d : ℕ) (c : Defer) → row ≡ Defers s c → row2 ≡ Defers s (record c { stands = deferring.Over }) → IsOnWay c.stands → c.block ≡ link b → c.table_word ≡ Word t d
      → m2 ≡ Moves.deferred_to m i b t → RowTold n i row m uses row2 m2 uses2
  DeferEnds : (s : ℕ) (c : Defer) → row ≡ Defers s c → row2 ≡ Rests → c.stands ≡ deferring.Over → Unmoved n m m2 → RowTold n i row m uses row2 m2 uses2

-- what the beginning of a row does to the state
abbrev pub BeginTold : ℕ → ℕ → Request → State → State → Type 0
BeginTold n i (Retire s b) m m2 = m2 ≡ Moves.begins_retire m i b
BeginTold n i (Flush s) m m2 = m2 ≡ m
BeginTold n i _ m m2 = Unmoved n m m2
