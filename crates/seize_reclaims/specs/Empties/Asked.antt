-- What is asked of a rule by which one seat acts alone: what tells it how far it has come, that each of its steps may be taken, and that others rest.
use Rattle.std.specs.Prelude.{◌≡◌, ℕ, ◌<◌, ◌^◌, Bool, Option, Some}
use Rattle.seize_words.specs.OneMemory.Op.{Op, Out}
use Rattle.seize_words.specs.OneMemory.Plan.{Turn, Now}
use Rattle.seize.specs.declared.advance.Advance.{Advance}
use Rattle.seize.specs.declared.advance.Advance.TheVariants as progress
use Rattle.seize.specs.declared.rows.register.Register.{Register}
use Rattle.seize.specs.declared.rows.reclaim_all.ReclaimAll.{ReclaimAll}
use Rattle.seize.specs.declared.rows.reclaim_all.Reclaiming.TheVariants as at
use Rattle.seize.specs.declared.rows.settle.Settled.{Settled}
use Rattle.seize.specs.Register.{register_plan}
use Rattle.seize.specs.ReclaimAll.{reclaim_all_plan}
use Rattle.seize_seats.specs.Seats.Lendings.{VisibleTo, IsValueOf}
use Rattle.seize_seats.specs.Seats.State.{State, Allows, Turns}
use Rattle.seize_views.specs.Views.Told.{HasOutcome}
use Rattle.seize_views.specs.declared.view.Fixed.{Fixed}
use Rattle.seize_reclaims.specs.Renews.One.{op_of_one, shown_to_one, Passes}
use Rattle.seize_reclaims.specs.Renews.Rule.{ReclaimsOn}
use Rattle.seize_reclaims.specs.Empties.Emptying.{IsUnderWay}
use Rattle.seize_reclaims.specs.declared.alone.Alone.{Alone}
use Rattle.seize_reclaims.specs.declared.alone.Alone.TheVariants.{Registers, Reclaims}

module _ {T V : Type 0} (acts : V → Option (Alone T)) where
  module _ (all : V → ReclaimAll) (none : ReclaimAll → ReclaimAll) where
    -- Where registering has come so far it goes on; or it reclaims all, or what there is without slots, where it was refused the words of the first ones.
    abbrev pub HasSought : ℕ → V → Register × Advance ℕ → V → Type 0
    HasSought size v (c, progress.Done t) w = IsUnderWay (all v) (acts w)
    HasSought size v (c, progress.Refused fault) w = (c.slot ≡ 0 → IsUnderWay (none (all v)) (acts w)) × ((c.slot ≡ 0 → ⊥) → IsUnderWay (all v) (acts w))
    HasSought size v (c, _) w = (acts w ≡ Some (Registers c size)) × (all w ≡ all v)

    module _ (defers : T → Option ℕ) (left_over : T → Bool) where
      abbrev pub HasTold : V → Alone T → Op T → Out T → V → Type 0
      HasTold v (Registers c size) op out w = (end : Register × Advance ℕ) × HasOutcome (register_plan {T = T} c) out end × HasSought size v end w
      HasTold v (Reclaims c seen left) op out w = (a : Alone T) × (acts w ≡ Some a) × ReclaimsOn defers left_over c left out a

      -- an operation of the one that acts tells it how far it has come, and what it knows beside that stays
      abbrev pub OneTells : {B : Type 0} → (V → B) → (V → Op T → Out T → V → Type 0) → Type 0
      OneTells beside tells =
          (v w : V) (a : Alone T) (op : Op T) (out : Out T) → acts v ≡ Some a → tells v op out w → HasTold v a op out w × (beside w ≡ beside v)

  module _ (defers : T → Option ℕ) (left_over : T → Bool) where
    -- its machine has taken a step that makes no operation, and what it knows beside that stays
    abbrev pub HasPassed : {B : Type 0} → (V → B) → V → V → Type 0
    HasPassed beside v w = (a b : Alone T) × (acts v ≡ Some a) × (acts w ≡ Some b) × Passes defers left_over a b × (beside w ≡ beside v)

    module _ {W : Type 0} (holds : Fixed → State T V W → Type 0) where
      module _ (keeps : V → V → W → ℕ → Type 0) where
        -- its next operation may be made, whatever is answered
        abbrev pub OneMayGoOn : (V → Op T → Out T → V → Type 0) → Type 0
        OneMayGoOn tells =
            (fixed : Fixed) (id : ℕ) (v : V) (a : Alone T) (op : Op T) → fixed.batch_size < 2 ^ 64 → acts v ≡ Some a → op_of_one defers left_over a ≡ Some op
            → Allows (holds fixed) keeps id v op (tells v op)

        -- a step of its machine that makes none is a turn
        abbrev pub OneMayTurn : {B : Type 0} → (V → B) → Type 0
        OneMayTurn beside =
            (fixed : Fixed) (id : ℕ) (v : V) (c c2 : ReclaimAll) (progress : Settled T) (seen : Option (ℕ × T)) (left : ℕ) → fixed.batch_size < 2 ^ 64
            → acts v ≡ Some (Reclaims c seen left) → (c.stands ≡ at.Over → ⊥) → reclaim_all_plan defers left_over c ≡ Turn (Now (c2, progress))
            → Turns (holds fixed) keeps id v (HasPassed beside v)

      -- what it is about to look at is there, with its value
      abbrev pub OneIsShownAll : Type 0
      OneIsShownAll =
          (fixed : Fixed) (id : ℕ) (v : V) (a : Alone T) (b : ℕ) (x : T) → acts v ≡ Some a → shown_to_one defers left_over a b ≡ Some x
          → VisibleTo (holds fixed) id v b × ((y : T) → IsValueOf (holds fixed) id v b y → y ≡ x)

-- each seat rests, and none leans on another
abbrev pub AllRest : {V : Type 0} → (V → Type 0) → Type 0
AllRest {V} rests = (v : V) → rests v

abbrev pub NobodyLeans : {V : Type 0} → (V → ℕ → Type 0) → Type 0
NobodyLeans {V} leans = (v : V) (n : ℕ) → leans v n → ⊥
