-- A memory of the rows that somebody has under way, by what he has noted: what he may do next, what he has done, and what he is shown.
use Rattle.std.specs.Prelude.{◌≡◌, ◌⊎◌, ℕ, Option, Some, None}
use Rattle.seize_words.specs.OneMemory.Op.{Op, Out, Rewrite}
use Rattle.seize.specs.declared.rows.settle.Settle.{Settle}
use Rattle.seize_seats.specs.Seats.State.{State, Allows, Owns}
use Rattle.seize_views.specs.Views.Notes.{noted, noted_observed}
use Rattle.seize_views.specs.Views.Promises.{op_of}
use Rattle.seize_views.specs.Views.Told.{shown_by}
use Rattle.seize_views.specs.declared.view.Fixed.{Fixed}
use Rattle.seize_views.specs.declared.view.Noted.{Noted}
use Rattle.seize_views.specs.declared.view.Deed.{Deed}
use Rattle.seize_views.specs.declared.view.Began.{Began}
use Rattle.seize_views.specs.declared.view.SlotView.{SlotView}
use Rattle.seize_views.specs.declared.view.SlotView.TheVariants.{Settles}
use Rattle.seize_views.specs.declared.view.Why.{Why}

-- why a seat settles, and what it has done and begun last meanwhile
pub record Task (T : Type 0) : Type 0 where
  pub why : Why
  pub did : Deed T
  pub began : Began
  pub guards : ℕ

module _ {T : Type 0} where
  -- by what a seat has noted
  abbrev pub task_of : Why → Noted T → Task T
  task_of why v = record { why = why; did = v.did; began = v.began; guards = v.guards }

  -- what a settling is about to look at
  abbrev pub shown_in : SlotView T → ℕ → Option T
  shown_in (Settles c why seen left) b = shown_by seen b
  shown_in _ b = None

  -- it has this settling under way
  abbrev pub IsSettling : Task T → Settle → Noted T → Type 0
  IsSettling task c v = (seen : Option (ℕ × T)) × (left : ℕ) × (v ≡ noted (Settles c task.why seen left) task.did task.began task.guards)

  -- within so many further steps
  abbrev pub left_of : SlotView T → ℕ
  left_of (Settles c why seen left) = left
  left_of _ = 0

  abbrev pub left_in : Noted T → ℕ
  left_in v = left_of v.knows

module _ {T V W B : Type 0} (holds : Fixed → State T V W → Type 0) (keeps : V → V → W → ℕ → Type 0) (notes : V → Noted T) (beside : V → B) (defers : T → Option ℕ)
    (then : V → Op T → Out T → V → Type 0) (fixed : Fixed) (id : ℕ) (v : V) where
  -- where the operation replaces the value of a block, its seat has that block to itself
  abbrev pub HasAlone : Op T → Type 0
  HasAlone (Rewrite b x) = Owns (holds fixed) keeps id v b
  HasAlone _ = Unit {0}

  -- the rule allows the operation, which tells no more than what is noted
  pub record IsAllowed (op : Op T) : Type 0 where
    pub alone : HasAlone op
    pub may : Allows (holds fixed) keeps id v op (then v op)
    pub told : (out : Out T) (w : V) → then v op out w → noted_observed defers (notes v) op out (notes w) × (beside w ≡ beside v)

module _ {T M : Type 0} (notes : M → Noted T) where
  abbrev pub shown_of : M → ℕ → Option T
  shown_of m b = shown_in (notes m).knows b

  -- the operation is the next one of its row, or one that it may make else
  abbrev pub CanMake : (M → Op T → Type 0) → (T → Option ℕ) → M → Op T → Type 0
  CanMake else_may defers m op = (op_of defers (notes m).knows ≡ Some op) ⊎ else_may m op

  -- it has made it, and notes what it told; and nothing else has changed
  abbrev pub HasMade : {X Y : Type 0} → (T → Option ℕ) → (M → X) → (M → Y) → M → Op T → Out T → M → Type 0
  HasMade defers beside blocks m op out n = (blocks n ≡ blocks m) × (beside n ≡ beside m) × noted_observed defers (notes m) op out (notes n)
