-- The row of a caller in a world, as a view knows it, and where a step of it leads; whatever else is so of the world.
use Rattle.std.specs.Prelude.{Option, Some, None}
use Rattle.std.proofs.Common.{◌≡◌, ℕ, ◌+◌, ◌<◌, List, ◌⊎◌, refl, subst, ap}
use Rattle.seize_words.specs.OneMemory.Mem.{Mem, Can, Took}
use Rattle.seize_words.specs.OneMemory.Op.{Op, Out}
use Rattle.seize.specs.declared.states.TheConstants.{LAST_SLOT}
use Rattle.seize.specs.World.{World, Row, Rests, Use, Vacant, InUse, Handed, Event, Begin, Request, Register', Enter', Leave', LeaveOwned, Refresh, Unregister', Retire, Flush, Defer', Runs, Steps', Happens, MayStep, at_start, one_less}
use Rattle.seize_acts.proofs.Given.SeizeRuleWorld.Kept.{rows_may}
use Rattle.seize_acts.proofs.Given.SeizeAloneHistories.Reached.{Reached}
use Rattle.seize_acts.specs.Acts.Acts.{begun}
use Rattle.seize_acts.specs.Acts.Waits.{SettlesOn}
use Rattle.seize_acts.specs.Bounds.Bounds.{IsAloneOnSlot}
use Rattle.seize_views.specs.Views.Rows.{row_of, use_of, hand_of, IsPlain, IsShort, IsKnown, IsBounded}
use Rattle.seize_views.specs.declared.view.SlotView.{SlotView}
use Rattle.seize_views.specs.declared.view.Fixed.{Fixed}
use Rattle.seize_views.proofs.Views.Came.{from_start, since_then}

-- the slot that is held, if one is
abbrev pub slot_held : Option (ℕ × Use) → Option ℕ
slot_held None = None
slot_held (Some slot) = Some slot.0

-- One use is like another one: each is like itself, and stays so as a row less works on both slots.
pub record IsLikeness (Is : Use → Use → Type 0) : Type 0 where
  pub same : (a : Use) → Is a a
  pub less : (a b : Use) → Is a b → Is (one_less a) (one_less b)

-- the slot is used like this, if one is held
abbrev pub IsUsedLike : {T : Type 0} → (Use → Use → Type 0) → World T → Option (ℕ × Use) → Type 0
IsUsedLike Is w None = Unit {0}
IsUsedLike Is w (Some slot) = Is slot.1 (w.uses slot.0)

-- just so
abbrev pub IsJustSo : Use → Use → Type 0
IsJustSo a b = b ≡ a

pub just_so : IsLikeness IsJustSo
just_so = record { same = λ a. refl; less = λ a b is. ap one_less is }

-- the slot of one is that of the other
pub slot_of : (p q : ℕ × Use) → Some p ≡ Some q → p.0 ≡ q.0
slot_of p q e = cc e

abbrev pub used_as : ℕ → Use → Option (ℕ × Use)
used_as t a = Some (t, a)

pub same_slot : (t s : ℕ) (a b c : Use) → used_as t a ≡ used_as s b → (d : Use) × (used_as t c ≡ used_as s d)
same_slot t s a b c e = (c, ap (λ (k : ℕ). used_as k c) (slot_of (t, a) (s, b) e))

module _ {T : Type 0} (defers : T → Option ℕ) (fixed : Fixed) where
  -- the world came about from a start
  abbrev pub CameAbout : World T → Type 0
  CameAbout w = (roots : ℕ) × (events : List (Event T)) × Runs defers fixed.batch_size events (at_start defers roots) w

  pub is_reached : (w : World T) → CameAbout w → Reached defers fixed.batch_size w
  is_reached w came = from_start defers fixed came.0 came.1 w came.2

  pub came_on : (w n : World T) (e : Event T) → CameAbout w → Happens defers fixed.batch_size e w n → CameAbout n
  came_on w n e came step = let c = since_then defers fixed (at_start defers came.0) w n e (came.1, came.2) step in (came.0, c.0, c.1)

  module _ (Is : Use → Use → Type 0) where
    -- the caller has the row under way, of which this is known, and nobody else settles on its slot
    pub record HasRow (w : World T) (i : ℕ) (v : SlotView T) : Type 0 where
      pub came : CameAbout w
      pub row : w.row i ≡ row_of v
      pub used : IsUsedLike Is w (use_of v)
      pub short : IsShort v
      pub bounded : IsBounded defers fixed w i v
      pub alone : IsAloneOnSlot i w

    -- A step of its row has led to this memory, this view and this world. A slot that it has then it had before, or nobody had it; and while its row goes on it has the same one.
    pub record Went (w : World T) (i : ℕ) (v : SlotView T) (m : Mem T) (u : SlotView T) (n : World T) : Type 0 where
      pub step : Steps' defers i (row_of v) w n
      pub memory : m ≡ n.memory
      pub row : n.row i ≡ row_of u
      pub used : IsUsedLike Is n (use_of u)
      pub plain : IsPlain u
      pub short : IsShort u
      pub known : IsKnown defers n u
      pub bounded : IsBounded defers fixed n i u
      pub none : hand_of u ≡ None
      pub slot : (t : ℕ) (b : Use) → use_of u ≡ Some (t, b) → ((a : Use) × (use_of v ≡ Some (t, a))) ⊎ ((w.uses t ≡ Vacant) × (t < LAST_SLOT + 1))
      pub place : (row_of u ≡ Rests) ⊎ (slot_held (use_of u) ≡ slot_held (use_of v))

    abbrev pub GoesTo : World T → ℕ → SlotView T → Mem T → (SlotView T → Type 0) → Type 0
    GoesTo w i v m so = (u : SlotView T) × (n : World T) × Went w i v m u n × so u

    -- the operation may be made, and whatever it answers it leads on
    abbrev pub MayMake : World T → ℕ → SlotView T → Op T → (Out T → SlotView T → Type 0) → Type 0
    MayMake w i v op so = Can w.memory op × ((out : Out T) (m : Mem T) → Took w.memory op out m → GoesTo w i v m (so out))

    -- its row may take its next step
    pub may : (w : World T) (i : ℕ) (v : SlotView T) → HasRow w i v → MayStep defers (row_of v) w.memory
    may w i v h = subst (λ (row : Row). MayStep defers row w.memory) h.row (rows_may defers fixed.batch_size h.came.0 h.came.1 w h.came.2 i)

module _ {T : Type 0} where
  -- where the row of one caller goes on, on its slot, nobody else settles there
  pub stays_on : (w n : World T) (i : ℕ) → IsAloneOnSlot i w → ((j : ℕ) → (j ≡ i → ⊥) → n.row j ≡ w.row j)
      → ((s : ℕ) → SettlesOn s (n.row i) → SettlesOn s (w.row i)) → IsAloneOnSlot i n
  stays_on w n i alone same on j s ne its other = alone j s ne (on s its) (subst (λ (r : Row). SettlesOn s r) (same j ne) other)

-- the slot that a beginning row is about, if it is about one
abbrev pub slot_in : Request → Option ℕ
slot_in (Register' enters) = None
slot_in (Enter' s) = Some s
slot_in (Leave' s) = Some s
slot_in (LeaveOwned s) = Some s
slot_in (Refresh s) = Some s
slot_in (Unregister' s) = Some s
slot_in (Retire s b) = Some s
slot_in (Flush s) = Some s
slot_in (Defer' s b t) = Some s

-- the row has no block
abbrev pub HasNoBlock : Request → Type 0
HasNoBlock (Retire s b) = ⊥
HasNoBlock (Defer' s b t) = ⊥
HasNoBlock _ = Unit {0}

module _ {T : Type 0} (defers : T → Option ℕ) (fixed : Fixed) where
  -- A row of the caller has begun, and has led to this view and this world. Nobody had the slot but who begins.
  pub record Began (w : World T) (i : ℕ) (v : SlotView T) (request : Request) (u : SlotView T) (n : World T) : Type 0 where
    pub happens : Happens defers fixed.batch_size (Begin i request) w n
    pub computed : begun defers fixed.batch_size i request w ≡ Some n
    pub about : (t : ℕ) → slot_in request ≡ Some t → (a : Use) × (use_of v ≡ Some (t, a))
    pub no_block : hand_of v ≡ None → HasNoBlock request
    pub memory : n.memory ≡ w.memory
    pub log : n.log ≡ w.log
    pub hand : (b : ℕ) → (hand_of v ≡ Some b → ⊥) → n.hand b ≡ w.hand b
    pub handed : (b : ℕ) → hand_of v ≡ Some b → n.hand b ≡ Handed
    pub linked : (b r : ℕ) → w.hand b ≡ InUse r → n.hand b ≡ InUse r
    pub rows : (j : ℕ) → (j ≡ i → ⊥) → n.row j ≡ w.row j
    pub uses : (t : ℕ) → ((a : Use) → use_of v ≡ Some (t, a) → ⊥) → n.uses t ≡ w.uses t
    pub row : n.row i ≡ row_of u
    pub used : IsUsedLike IsJustSo n (use_of u)
    pub plain : IsPlain u
    pub short : IsShort u
    pub known : IsKnown defers n u
    pub bounded : IsBounded defers fixed n i u
    pub none : hand_of u ≡ None
    pub slot : (t : ℕ) (b : Use) → use_of u ≡ Some (t, b) → (a : Use) × (use_of v ≡ Some (t, a))
    pub place : slot_held (use_of u) ≡ slot_held (use_of v)

  abbrev pub BeginsTo : World T → ℕ → SlotView T → (SlotView T → Type 0) → Type 0
  BeginsTo w i v so = (u : SlotView T) × (n : World T) × (request : Request) × Began w i v request u n × so u
