-- Seats that watch the open section of another one's slot: how many they are that one knows, and what they have seen its section holds. And seats that lean on
-- another one, which is lent to their errands: its section is open, and holds what they have seen there.
use Rattle.std.specs.Prelude.{◌≡◌, ◌≢◌, ◌⊎◌, ℕ, Bool, true, false, List, [], ◌∷◌, ◌+◌, Option, Some, None, ◌==◌, map, slice_get}
use Rattle.seize.specs.Law.{Effect, holds}
use Rattle.seize.specs.World.{World}
use Rattle.seize_seats.specs.Seats.State.{State}
use Rattle.seize_views.specs.declared.view.SlotView.{SlotView}
use Rattle.seize_views.specs.declared.view.SlotView.TheVariants.{Inside, Settles, Watches, Under, Defers, Busy}
use Rattle.seize_views.specs.declared.view.Why.TheVariants.{Retiring}
use Rattle.seize_views.specs.declared.view.Becomes.TheVariants.{Active}
use Rattle.seize_views.specs.declared.view.Noted.{Noted}

abbrev pub one : Bool → ℕ
one true = 1
one false = 0

module _ {T : Type 0} where
  -- the slot of which a seat has a section open
  abbrev pub open_at : SlotView T → Option ℕ
  open_at (Inside t has) = Some t
  open_at (Settles c (Retiring Active) seen left) = Some c.slot
  open_at (Defers t c) = Some t
  open_at (Busy t) = t
  open_at _ = None

  -- it watches that of this slot
  abbrev pub is_watching : ℕ → SlotView T → Bool
  is_watching t (Watches u b) = u == t
  is_watching t _ = false

  -- it leans on the seat of this number
  abbrev pub LeansOn : SlotView T → ℕ → Type 0
  LeansOn (Under m t b) n = m ≡ n
  LeansOn _ n = ⊥

  abbrev pub Leans : Noted T → ℕ → Type 0
  Leans v n = LeansOn v.knows n

  -- it watches none, and leans on nobody
  abbrev pub IsOwn : SlotView T → Type 0
  IsOwn (Watches t b) = ⊥
  IsOwn (Under n t b) = ⊥
  IsOwn _ = Unit {0}

  -- it watches none, leans on nobody, and has nothing under way but a row
  abbrev pub IsOfRows : SlotView T → Type 0
  IsOfRows (Watches t b) = ⊥
  IsOfRows (Under n t b) = ⊥
  IsOfRows (Busy t) = ⊥
  IsOfRows _ = Unit {0}

  -- how many watch that of this slot
  abbrev pub watchers : ℕ → List (SlotView T) → ℕ
  watchers t [] = 0
  watchers t (v ∷ views) = one (is_watching t v) + watchers t views

  -- how many watch a section, if it is one
  abbrev pub watching : List (SlotView T) → Option ℕ → ℕ
  watching views None = 0
  watching views (Some t) = watchers t views

  abbrev pub known_by : Noted T → SlotView T
  known_by v = v.knows

  -- a step ends no section that is watched
  abbrev pub Stays : ℕ → SlotView T → SlotView T → Type 0
  Stays guards v u = (open_at u ≡ open_at v) ⊎ (open_at v ≡ None) ⊎ ((guards ≡ 0) × (open_at u ≡ None))

  -- the seat of this number has a section of the slot open
  abbrev pub IsBase : List (Noted T) → ℕ → ℕ → Type 0
  IsBase seats n t = (u : Noted T) × (slice_get seats n ≡ Some u) × (open_at u.knows ≡ Some t)

  -- A step of a seat leaves those who lean on it as they are: no section of it ends, or nobody leans on it.
  abbrev pub Upholds : List (Noted T) → ℕ → SlotView T → SlotView T → Type 0
  Upholds seats id v u =
      (open_at u ≡ open_at v) ⊎ (open_at v ≡ None) ⊎ ((j : ℕ) (x : Noted T) → slice_get seats j ≡ Some x → Leans x id → ⊥)

  -- of seats that lean on others
  pub record AreLeaned (seats : List (Noted T)) (log : List Effect) : Type 0 where
    -- they do so on one whose section is open
    pub based : (j n t b : ℕ) (v : Noted T) → slice_get seats j ≡ Some v → v.knows ≡ Under n t b → IsBase seats n t
    -- which holds what they have seen
    pub seen : (j n t b : ℕ) (v : Noted T) → slice_get seats j ≡ Some v → v.knows ≡ Under n t b → b ≢ 0 → holds t b log ≡ true

  -- of seats that know this, and note that
  pub record AreWatched (seats : List (Noted T)) (views : List (SlotView T)) (log : List Effect) : Type 0 where
    -- a section holds what somebody has seen who watches it
    pub held : (j t b : ℕ) → slice_get views j ≡ Some (Watches t b) → b ≢ 0 → holds t b log ≡ true
    -- who has it open knows how many these are
    pub counted : (k : ℕ) (v : Noted T) → slice_get seats k ≡ Some v → v.guards ≡ watching views (open_at v.knows)
    -- and somebody has it open
    pub opened : (t : ℕ) → watchers t views ≢ 0 → (k : ℕ) × (v : SlotView T) × (slice_get views k ≡ Some v) × (open_at v ≡ Some t)
    pub leaned : AreLeaned seats log

  abbrev pub AreGuarded : State T (Noted T) (World T) → Type 0
  AreGuarded s = AreWatched s.views (map known_by s.views) s.world.log
