-- Words of a block's own lie beside it, and where they lie is kept with its value. A seat that wants to reach one *visits* the block: it has seen where they
-- lie, and as long as it knows what it knows they lie there. Rules speak of values alone, and know of no visits. With the visit there is noted how many steps
-- the seat has taken: what a claim says of two seats is so for as long as both are at the steps that it names.
use Rattle.std.specs.Prelude.{◌≡◌, ℕ, suc, Option, Some, None, Result, Ok, Err, map}
use denote.RawPtr.{Ptr}
use Rattle.seize_words.specs.OneMemory.Mem.{Mem, value_at}
use Rattle.seize_words.specs.OneMemory.Op.{Op, Out, Load, Store, Swap, Add, Or, Exchange, Make, Take, Rewrite, Room, Found, Stored, Exchanged, Made, Taken, Roomed}
use Rattle.seize_words.specs.declared.block.Block.{Block}
use Rattle.seize_seats.specs.Seats.State.{State, view_of}
use Rattle.seize_seats.specs.Seats.Lendings.{VisibleTo}

-- where words of a block's own lie, and how many they are
abbrev pub Spot : Type 0
Spot = Ptr × ℕ

-- As long as the one seat is at this one of its steps, and the other one at that one of its own, the block is kept.
pub record Claim : Type 0 where
  pub guard : ℕ
  pub guards : ℕ
  pub owner : ℕ
  pub owners : ℕ
  pub block : ℕ

-- What is noted of a seat of which rules know nothing: which block it visits, and where its own words lie; how many steps it has taken; and what it bears
-- witness of, which is a seat that nobody has.
pub record Visit : Type 0 where
  pub spot : Option (ℕ × Spot)
  pub steps : ℕ
  pub claim : Option Claim

-- of one that has just come
abbrev pub fresh : Visit
fresh = record { spot = None; steps = 0; claim = None }

-- a step further
abbrev pub onward : Visit → Visit
onward y = record { spot = None; steps = suc y.steps; claim = None }

-- it begins to visit a block
abbrev pub onward_at : Visit → ℕ → Spot → Visit
onward_at y b p = record { spot = Some (b, p); steps = suc y.steps; claim = None }

-- of one that comes to bear witness
abbrev pub witness : Claim → Visit
witness c = record { spot = None; steps = 0; claim = Some c }

-- D: what is kept of a block in its place; value: the value of it
module _ {D T : Type 0} (value : D → T) where
  abbrev pub plain_block : Option (Block D) → Option (Block T)
  plain_block None = None
  plain_block (Some x) = Some record { value = value x.value; entry = x.entry; words = x.words }

  -- the memory as rules see it
  abbrev pub plain_memory : Mem D → Mem T
  plain_memory m = record { roots = m.roots; used = m.used; slots = m.slots; blocks = map plain_block m.blocks; choices = m.choices }

  abbrev pub plain_op : Op D → Op T
  plain_op (Load at) = Load at
  plain_op (Store at w) = Store at w
  plain_op (Swap at w) = Swap at w
  plain_op (Add at by) = Add at by
  plain_op (Or at bits) = Or at bits
  plain_op (Exchange at old new) = Exchange at old new
  plain_op (Make x words) = Make (value x) words
  plain_op (Take b) = Take b
  plain_op (Rewrite b x) = Rewrite b (value x)
  plain_op (Room bucket) = Room bucket

  abbrev pub plain_made : Result ℕ D → Result ℕ T
  plain_made (Ok b) = Ok b
  plain_made (Err x) = Err (value x)

  abbrev pub plain_out : Out D → Out T
  plain_out (Found w) = Found w
  plain_out Stored = Stored
  plain_out (Exchanged r) = Exchanged r
  plain_out (Made r) = Made (plain_made r)
  plain_out (Taken x) = Taken (value x)
  plain_out (Roomed r) = Roomed r

  module _ {V W : Type 0} where
    abbrev pub plain : State D (V × Visit) W → State T V W
    plain s = record { memory = plain_memory s.memory; views = map (λ (u : V × Visit). u.0) s.views; world = s.world }

    -- own: where the own words of what is kept lie. As long as a seat that visits a block has this view the block is there, and its own words lie where the seat
    -- has seen them, as many as it has seen.
    abbrev pub AreFound : (D → Spot) → (State T V W → Type 0) → State D (V × Visit) W → Type 0
    AreFound own holds s =
        (id : ℕ) (u : V × Visit) (b : ℕ) (p : Spot) → view_of s id ≡ Some u → u.1.spot ≡ Some (b, p)
        → VisibleTo holds id u.0 b × ((x : D) → value_at s.memory b ≡ Some x → own x ≡ p)

    -- what holds between any two steps, where a rule does
    abbrev pub HoldsKept : (D → Spot) → (State T V W → Type 0) → State D (V × Visit) W → Type 0
    HoldsKept own holds s = holds (plain s) × AreFound own holds s

  -- a visit keeps nothing of its own
  abbrev pub keeps_kept : {V W : Type 0} → (V → V → W → ℕ → Type 0) → V × Visit → V × Visit → W → ℕ → Type 0
  keeps_kept keeps u o w b = keeps u.0 o.0 w b

  -- what an operation tells, and no visit lasts after it
  abbrev pub then_kept : {V : Type 0} → Visit → (Out T → V → Type 0) → Out D → V × Visit → Type 0
  then_kept y so out u = so (plain_out out) u.0 × (u.1 ≡ onward y)

-- the own words of the block lie there, as long as the seat has this view
abbrev pub AreSeenAt : {D V W : Type 0} → (D → Ptr) → (State D V W → Type 0) → ℕ → V → ℕ → Ptr → Type 0
AreSeenAt {D} {V} {W} own holds id v b r = (t : State D V W) → holds t → view_of t id ≡ Some v → (x : D) × (value_at t.memory b ≡ Some x) × (own x ≡ r)
