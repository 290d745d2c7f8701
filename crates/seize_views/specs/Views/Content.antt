-- What is promised of a content: of a rule by which seats have rows of the collector under way, whatever else they know and do.
use Rattle.std.specs.Prelude.{◌≡◌, ℕ, Option, Some}
use Rattle.seize_words.specs.OneMemory.Op.{Op, Out}
use Rattle.seize.specs.declared.rows.settle.Settle.{Settle}
use Rattle.seize_seats.specs.Seats.Lendings.{VisibleTo, IsValueOf}
use Rattle.seize_seats.specs.Seats.State.{State, Comes, Allows}
use Rattle.seize_seats.specs.Seats.Errands.{TurnsUnlent}
use Rattle.seize_views.specs.Views.Begun.{IsBegun}
use Rattle.seize_views.specs.Views.Notes.{newcomer, noted_observed}
use Rattle.seize_views.specs.Views.Promises.{op_of, IsNext, IsToSettle}
use Rattle.seize_views.specs.Views.Rows.{IsQuiescent}
use Rattle.seize_views.specs.Views.Watched.{IsOfRows, Stays}
use Rattle.seize_views.specs.declared.view.Began.{Began}
use Rattle.seize_views.specs.declared.view.Becomes.{Becomes}
use Rattle.seize_views.specs.declared.view.Fixed.{Fixed}
use Rattle.seize_views.specs.declared.view.Noted.{Noted}
use Rattle.seize_views.specs.declared.view.SlotView.{SlotView}
use Rattle.seize_views.specs.declared.view.SlotView.TheVariants.{Settles}
use Rattle.seize_views.specs.declared.view.Why.{Why}

-- A view of the content has notes: what its seat knows of its slot and of its row, and has begun last. Beside them it has what no row changes.
module _ {T V B : Type 0} (notes : V → Noted T) (beside : V → B) where
  -- a turn of a row, by the notes, which writes down what it has begun
  abbrev pub Turned : (Fixed → SlotView T → SlotView T → Type 0) → (Began → Began) → Fixed → V → V → Type 0
  Turned so began fixed v w =
      so fixed (notes v).knows (notes w).knows × ((notes w).did ≡ (notes v).did) × ((notes w).began ≡ began (notes v).began)
      × ((notes w).guards ≡ (notes v).guards) × (beside w ≡ beside v)

-- what a turn may make of the notes: a row begins, or ends, but no section that is watched
abbrev pub MayTurn : {T : Type 0} → Fixed → Noted T → Noted T → Type 0
MayTurn fixed v u = IsNext fixed v.knows u.knows × Stays v.guards v.knows u.knows × (u.did ≡ v.did) × (u.guards ≡ v.guards)

module _ {T V W B : Type 0} (holds : Fixed → State T V W → Type 0) (keeps : V → V → W → ℕ → Type 0) (notes : V → Noted T) (beside : V → B) where
  -- The promise: seats come, and have noted nothing.
  abbrev pub SeatsComeIn : (Fixed → V) → Type 0
  SeatsComeIn come = (fixed : Fixed) → Comes (holds fixed) keeps (come fixed) × (notes (come fixed) ≡ newcomer)

  -- the next operation of the row of a seat may be made at any moment
  abbrev pub RowsContinueIn : (T → Option ℕ) → (V → Op T → Out T → V → Type 0) → Type 0
  RowsContinueIn defers then = (fixed : Fixed) (id : ℕ) (v : V) (op : Op T) → op_of defers (notes v).knows ≡ Some op → Allows (holds fixed) keeps id v op (then v op)

  -- and rows begin and end, where nobody leans on the seat
  abbrev pub RowsTurnIn : (V → ℕ → Type 0) → Type 0
  RowsTurnIn leans =
      (fixed : Fixed) (id : ℕ) (v : V) (u : Noted T) → MayTurn fixed (notes v) u
      → TurnsUnlent (holds fixed) keeps leans id v (λ w. (notes w ≡ u) × (beside w ≡ beside v))

  -- a settling begins, with as many steps left as it takes at most
  abbrev pub SettlingsBeginIn : (V → ℕ → Type 0) → Type 0
  SettlingsBeginIn leans =
      (fixed : Fixed) (id : ℕ) (v : V) (way : Becomes) (c : Settle) (began : Began) → IsToSettle fixed (notes v).knows way c
      → TurnsUnlent (holds fixed) keeps leans id v (Turned notes beside (λ _ _ u. IsBegun way c u) (λ _. began) fixed v)

  -- and the block that it is to look at is there, with the value that was told
  abbrev pub LookedAreShownIn : Type 0
  LookedAreShownIn =
      (fixed : Fixed) (id : ℕ) (v : V) (c : Settle) (why : Why) (b left : ℕ) (x : T) → (notes v).knows ≡ Settles c why (Some (b, x)) left
      → VisibleTo (holds fixed) id v b × ((y : T) → IsValueOf (holds fixed) id v b y → y ≡ x)

module _ {T V B : Type 0} (notes : V → Noted T) (beside : V → B) where
  -- what the operation of a row tells its seat is what it tells by the notes, and changes nothing beside them
  abbrev pub RowsAreObserved : (T → Option ℕ) → (V → Op T → Out T → V → Type 0) → Type 0
  RowsAreObserved defers then =
      (v w : V) (op : Op T) (out : Out T) → op_of defers (notes v).knows ≡ Some op → then v op out w
      → noted_observed defers (notes v) op out (notes w) × (beside w ≡ beside v)

-- who has nothing but a row under way leans on whom it does by what it knows beside its notes
abbrev pub LeansByTheRest : {T V B : Type 0} → (V → ℕ → Type 0) → (V → Noted T) → (V → B) → Type 0
LeansByTheRest {T} {V} leans notes beside = (v w : V) (n : ℕ) → IsOfRows (notes w).knows → beside w ≡ beside v → leans w n → leans v n

-- who has nothing under way by its notes is in the midst of nothing
abbrev pub RestWithNothing : {T V : Type 0} → (V → Type 0) → (V → Noted T) → Type 0
RestWithNothing {T} {V} rests notes = (v : V) → IsQuiescent (notes v).knows → rests v
