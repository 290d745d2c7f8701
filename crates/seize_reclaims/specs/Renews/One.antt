-- The rule by which one seat acts alone: how the memory that seats have shared comes under it, and goes back.
use Rattle.std.specs.Prelude.{◌≡◌, ℕ, ◌<◌, ◌^◌, Bool, Option, Some, None, [], ◌∷◌}
use Rattle.seize_words.specs.OneMemory.Mem.{Mem}
use Rattle.seize_words.specs.OneMemory.Op.{Op, Out}
use Rattle.seize_words.specs.OneMemory.Plan.{Turn, Now}
use Rattle.seize.specs.declared.rows.reclaim_all.ReclaimAll.{ReclaimAll}
use Rattle.seize.specs.declared.rows.reclaim_all.Reclaiming.TheVariants as at
use Rattle.seize.specs.declared.rows.register.Registering.TheVariants as register_at
use Rattle.seize.specs.declared.rows.settle.Settled.{Settled}
use Rattle.seize.specs.Register.{register_plan}
use Rattle.seize.specs.ReclaimAll.{standing, reclaim_all_plan}
use Rattle.seize.specs.World.{World}
use Rattle.seize_seats.specs.Seats.Errands.{RenewsTo, RenewsFrom}
use Rattle.seize_seats.specs.Seats.Lendings.{VisibleTo, IsValueOf}
use Rattle.seize_seats.specs.Seats.Start.{WasKnown}
use Rattle.seize_seats.specs.Seats.State.{State, Allows, Turns}
use Rattle.seize_views.specs.Views.Begun.{seeker_at}
use Rattle.seize_views.specs.Views.Notes.{NotedHolds}
use Rattle.seize_views.specs.Views.Promises.{op_in}
use Rattle.seize_views.specs.Views.Rows.{IsQuiescent}
use Rattle.seize_views.specs.Views.Told.{shown_by}
use Rattle.seize_views.specs.declared.view.Fixed.{Fixed}
use Rattle.seize_views.specs.declared.view.Noted.{Noted}
use Rattle.seize_reclaims.specs.Renews.Emptied.{IsEmptied}
use Rattle.seize_reclaims.specs.Renews.Rule.{told, HoldsAlone, KeepsNone, all_of}
use Rattle.seize_reclaims.specs.declared.alone.Alone.{Alone}
use Rattle.seize_reclaims.specs.declared.alone.Alone.TheVariants.{Registers, Reclaims}

-- who acts begins to take a slot
abbrev pub one_first : {T : Type 0} → Fixed → Alone T
one_first fixed = Registers (seeker_at 0 register_at.Begin) fixed.batch_size

-- what it reclaims all by, once it has sought a slot: roots are the users' own
abbrev pub all_of_one : {T : Type 0} → Alone T → ReclaimAll
all_of_one (Registers c size) = all_of size
all_of_one (Reclaims c seen left) = c

-- without slots it has nothing to do
abbrev pub none_of_one : ReclaimAll → ReclaimAll
none_of_one c = standing c at.Over

-- a seat that notes so has nothing under way
abbrev pub NotedRests : {T : Type 0} → Noted T → Type 0
NotedRests v = IsQuiescent v.knows

module _ {T : Type 0} (defers : T → Option ℕ) (left_over : T → Bool) where
  abbrev pub HoldsOne : Fixed → State T (Alone T) (World T) → Type 0
  HoldsOne fixed = HoldsAlone defers left_over fixed

  abbrev pub one_observed : Alone T → Op T → Out T → Alone T → Type 0
  one_observed v op out w = told defers left_over v op out w

  -- its next operation, if its next step makes one
  abbrev pub op_of_one : Alone T → Option (Op T)
  op_of_one (Registers c size) = op_in (register_plan {T = T} c)
  op_of_one (Reclaims c seen left) = op_in (reclaim_all_plan defers left_over c)

  -- what it is about to look at
  abbrev pub shown_to_one : Alone T → ℕ → Option T
  shown_to_one (Reclaims c seen left) b = shown_by seen b
  shown_to_one _ b = None

  -- its next step makes no operation
  abbrev pub Passes : Alone T → Alone T → Type 0
  Passes (Reclaims c seen left) w =
      (c2 : ReclaimAll) × (progress : Settled T) × (now : ℕ) × (reclaim_all_plan defers left_over c ≡ Turn (Now (c2, progress))) × (now < left)
      × (w ≡ Reclaims c2 None now)
  Passes _ w = ⊥

  -- The promise: where each seat has nothing under way the memory may go under this rule.
  abbrev pub OneBegins : Type 0
  OneBegins = (fixed : Fixed) → RenewsTo NotedRests (NotedHolds defers fixed) (HoldsOne fixed) (one_first fixed ∷ [])

  -- the next operation of the one that acts may be made
  abbrev pub OneContinues : Type 0
  OneContinues =
      (fixed : Fixed) (id : ℕ) (v : Alone T) (op : Op T) → fixed.batch_size < 2 ^ 64 → op_of_one v ≡ Some op
      → Allows (HoldsOne fixed) KeepsNone id v op (one_observed v op)

  -- a step of its machine that makes none is a turn
  abbrev pub OneTurns : Type 0
  OneTurns =
      (fixed : Fixed) (id : ℕ) (c c2 : ReclaimAll) (progress : Settled T) (seen : Option (ℕ × T)) (left : ℕ) → fixed.batch_size < 2 ^ 64 → (c.stands ≡ at.Over → ⊥)
      → reclaim_all_plan defers left_over c ≡ Turn (Now (c2, progress))
      → Turns (HoldsOne fixed) KeepsNone id (Reclaims c seen left) (Passes (Reclaims c seen left))

  -- what it is about to look at is there, with its value
  abbrev pub OneIsShown : Type 0
  OneIsShown =
      (fixed : Fixed) (id : ℕ) (v : Alone T) (b : ℕ) (x : T) → shown_to_one v b ≡ Some x
      → VisibleTo (HoldsOne fixed) id v b × ((y : T) → IsValueOf (HoldsOne fixed) id v b y → y ≡ x)

  -- and where its machine is over the memory goes back
  abbrev pub OneEnds : Type 0
  OneEnds =
      (fixed : Fixed) (id : ℕ) (c : ReclaimAll) (seen : Option (ℕ × T)) (left : ℕ) → c.stands ≡ at.Over
      → RenewsFrom (λ (v : Alone T). Unit {0}) (HoldsOne fixed) (NotedHolds defers fixed) id (Reclaims c seen left)

  -- and so it is as its present lifetime begins: nothing waits in it
  abbrev pub OneEmpties : Type 0
  OneEmpties =
      (fixed : Fixed) (id : ℕ) (c : ReclaimAll) (seen : Option (ℕ × T)) (left : ℕ) (m : Mem T) → fixed.batch_size < 2 ^ 64 → c.stands ≡ at.Over
      → WasKnown (λ (v : Alone T). Unit {0}) (HoldsOne fixed) id (Reclaims c seen left) m → IsEmptied defers fixed m
