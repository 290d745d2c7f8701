-- What is promised of reclamation, said of the log of effects alone, newest first.
use Rattle.std.specs.Prelude.{◌≡◌, ℕ, Bool, true, false, cond, eqb, List, [], ◌∷◌, ◌⊎◌}
use Rattle.seize.specs.WaitingSets.{is_one_of}

-- `s` is a slot, `b` and `t` are blocks, and `o` is an owner: what a block is of as long as it is linked, as a map
pub data Effect : Type 0 where
  Entered : ℕ → Effect  -- a critical section of this slot begins
  Left : ℕ → Effect  -- it ends
  Made : ℕ → Effect  -- the block is there from now on
  Linked : ℕ → ℕ → Effect  -- the block can be reached from a root from now on, and is this owner's
  Unlinked : ℕ → Effect  -- it can't be reached any more
  Deferred : ℕ → ℕ → Effect  -- from now on it can be reached only through this other block
  Retired : ℕ → Effect  -- it is handed to the collector
  Taken : ℕ → Effect  -- it is reclaimed
  Dropped : ℕ → Effect  -- it is taken away without having been linked since it was made, or after its owner has ended
  Ended : ℕ → Effect  -- the owner ends
  LeftOver : ℕ → List ℕ → Effect  -- the block, whose owner has ended, and its further values can only be taken away from now on

pub data Place : Type 0 where
  Nowhere : Place
  Standing : Place  -- reached from a root
  With : ℕ → Place  -- reached through this block, which stands

-- where a block is once `c` is unlinked, which isn't that block itself
abbrev pub without : ℕ → Place → Place
without c Nowhere = Nowhere
without c Standing = Standing
without c (With t) = cond (eqb t c) Nowhere (With t)

abbrev pub is_standing : Place → Bool
is_standing Nowhere = false
is_standing Standing = true
is_standing (With t) = false

abbrev pub is_somewhere : Place → Bool
is_somewhere Nowhere = false
is_somewhere Standing = true
is_somewhere (With t) = true

abbrev pub where_is : ℕ → List Effect → Place
where_is b [] = Nowhere
where_is b (Linked c o ∷ r) = cond (eqb b c) Standing (where_is b r)
where_is b (Unlinked c ∷ r) = cond (eqb b c) Nowhere (without c (where_is b r))
where_is b (Deferred c t ∷ r) = cond (eqb b c) (cond (is_standing (where_is t r)) (With t) Nowhere) (where_is b r)
where_is b (Dropped c ∷ r) = cond (eqb b c) Nowhere (where_is b r)
where_is b (_ ∷ r) = where_is b r

-- the block can be reached after these effects
abbrev pub reachable : ℕ → List Effect → Bool
reachable b log = is_somewhere (where_is b log)

-- a critical section of the slot is open
abbrev pub is_open : ℕ → List Effect → Bool
is_open s [] = false
is_open s (Entered t ∷ r) = cond (eqb s t) true (is_open s r)
is_open s (Left t ∷ r) = cond (eqb s t) false (is_open s r)
is_open s (_ ∷ r) = is_open s r

-- The slot's open section holds the block: it was reachable at some moment of it, or the section was open as the block was retired. An open
-- section that is entered once more goes on. The number of a block that was taken away is nobody's.
abbrev pub holds : ℕ → ℕ → List Effect → Bool
holds s b [] = false
holds s b (Entered t ∷ r) = cond (eqb s t) (cond (reachable b r) true (holds s b r)) (holds s b r)
holds s b (Left t ∷ r) = cond (eqb s t) false (holds s b r)
holds s b (Linked c o ∷ r) = cond (eqb b c) (is_open s r) (holds s b r)
holds s b (Deferred c t ∷ r) = cond (eqb b c) (cond (is_standing (where_is t r)) (is_open s r) (holds s b r)) (holds s b r)
holds s b (Retired c ∷ r) = cond (eqb b c) (is_open s r) (holds s b r)
holds s b (Dropped c ∷ r) = cond (eqb b c) false (holds s b r)
holds s b (_ ∷ r) = holds s b r

-- the block was linked, and since then neither reclaimed nor left over
abbrev pub was_linked : ℕ → List Effect → Bool
was_linked b [] = false
was_linked b (Linked c o ∷ r) = cond (eqb b c) true (was_linked b r)
was_linked b (Taken c ∷ r) = cond (eqb b c) false (was_linked b r)
was_linked b (LeftOver c further ∷ r) = cond (is_one_of b (c ∷ further)) false (was_linked b r)
was_linked b (_ ∷ r) = was_linked b r

-- the block was retired since it was last linked or reclaimed
abbrev pub is_retired : ℕ → List Effect → Bool
is_retired b [] = false
is_retired b (Linked c o ∷ r) = cond (eqb b c) false (is_retired b r)
is_retired b (Retired c ∷ r) = cond (eqb b c) true (is_retired b r)
is_retired b (Taken c ∷ r) = cond (eqb b c) false (is_retired b r)
is_retired b (_ ∷ r) = is_retired b r

-- the owner of the block, by its last linking
abbrev pub owner_of : ℕ → List Effect → ℕ
owner_of b [] = 0
owner_of b (Linked c o ∷ r) = cond (eqb b c) o (owner_of b r)
owner_of b (_ ∷ r) = owner_of b r

-- Its owner has ended since it was linked. The number of an owner that has ended may be another one's later.
abbrev pub is_orphan : ℕ → List Effect → Bool
is_orphan b [] = false
is_orphan b (Linked c o ∷ r) = cond (eqb b c) false (is_orphan b r)
is_orphan b (Ended o ∷ r) = cond (eqb (owner_of b r) o) true (is_orphan b r)
is_orphan b (_ ∷ r) = is_orphan b r

-- The block is over: it could be reached from a root as its owner ended. From then on nobody looks at it.
abbrev pub is_over : ℕ → List Effect → Bool
is_over b [] = false
is_over b (Linked c o ∷ r) = cond (eqb b c) false (is_over b r)
is_over b (Ended o ∷ r) = cond (eqb (owner_of b r) o) (cond (is_standing (where_is b r)) true (is_over b r)) (is_over b r)
is_over b (_ ∷ r) = is_over b r

-- A block gets a number that no open section holds. A block that is retired can't be reached, and wasn't retired before. A block that is reclaimed
-- was retired and not reclaimed since, can't be reached, and no open section holds it. A block that is dropped was never linked since it was made,
-- or it was left over; it is over, or no open section holds it. What is left over can't be reached, and isn't retired, and its owner has ended.
abbrev pub IsSound : List Effect → Type 0
IsSound [] = Unit {0}
IsSound (Made b ∷ r) = ((s : ℕ) → holds s b r ≡ false) × IsSound r
IsSound (Retired b ∷ r) = (reachable b r ≡ false) × (is_retired b r ≡ false) × IsSound r
IsSound (Taken b ∷ r) = (is_retired b r ≡ true) × (reachable b r ≡ false) × ((s : ℕ) → holds s b r ≡ false) × IsSound r
IsSound (Dropped b ∷ r) = (was_linked b r ≡ false) × ((is_over b r ≡ true) ⊎ ((s : ℕ) → holds s b r ≡ false)) × IsSound r
IsSound (LeftOver b further ∷ r) =
    (is_orphan b r ≡ true) × ((c : ℕ) → is_one_of c (b ∷ further) ≡ true → (reachable c r ≡ false) × (is_retired c r ≡ false)) × IsSound r
IsSound (_ ∷ r) = IsSound r
