-- The same waiting sets under other numbers: each number of one stands for that at the same place of the other.
use Rattle.std.specs.Prelude.{◌≡◌, ℕ, List, [], ◌∷◌}
use Rattle.seize.specs.WaitingSets.{Batch, Further, Sets, After, Change, Enters, Leaves, Refreshes, Retires, Flushes, Defers, Ends, ReclaimsAll}
use Rattle.run_executor.specs.Given.SeizeWaitingHeld.{Every}

-- which number stands for which one
module _ (R : ℕ → ℕ → Type 0) where
  abbrev pub AreAlike : List ℕ → List ℕ → Type 0
  AreAlike [] [] = Unit {0}
  AreAlike (x ∷ xs) (y ∷ ys) = R x y × AreAlike xs ys
  AreAlike _ _ = ⊥

  -- the batches wait for the same slots
  abbrev pub BatchesAlike : List Batch → List Batch → Type 0
  BatchesAlike [] [] = Unit {0}
  BatchesAlike (b ∷ bs) (c ∷ cs) = AreAlike b.retired c.retired × (b.waits_for ≡ c.waits_for) × BatchesAlike bs cs
  BatchesAlike _ _ = ⊥

  abbrev pub FurtherAlike : List Further → List Further → Type 0
  FurtherAlike [] [] = Unit {0}
  FurtherAlike (f ∷ fs) (g ∷ gs) = R f.number g.number × R f.behind g.behind × FurtherAlike fs gs
  FurtherAlike _ _ = ⊥

  pub record SetsAlike (w v : Sets) : Type 0 where
    pub opens : (s : ℕ) → AreAlike (w.open_batch s) (v.open_batch s)
    pub closes : BatchesAlike w.closed v.closed
    pub actives : w.active ≡ v.active
    pub used : w.slots ≡ v.slots
    pub puts : FurtherAlike w.further v.further

  -- and so are the sets after a change, and what it gave back
  pub record AfterAlike (a b : After) : Type 0 where
    pub sets : SetsAlike a.sets b.sets
    pub reclaimed : AreAlike a.reclaimed b.reclaimed

  -- the same change
  abbrev pub ChangeAlike : Change → Change → Type 0
  ChangeAlike (Enters s) d = d ≡ Enters s
  ChangeAlike (Leaves s) d = d ≡ Leaves s
  ChangeAlike (Refreshes s) d = d ≡ Refreshes s
  ChangeAlike (Retires s n) d = (k : ℕ) × R n k × (d ≡ Retires s k)
  ChangeAlike (Flushes s) d = d ≡ Flushes s
  ChangeAlike (Defers n behind) d = (k : ℕ) × (l : ℕ) × R n k × R behind l × (d ≡ Defers k l)
  ChangeAlike (Ends n) d = (k : ℕ) × R n k × (d ≡ Ends k)
  ChangeAlike ReclaimsAll d = d ≡ ReclaimsAll

  abbrev pub ChangesAlike : List Change → List Change → Type 0
  ChangesAlike [] [] = Unit {0}
  ChangesAlike (c ∷ cs) (d ∷ ds) = ChangeAlike c d × ChangesAlike cs ds
  ChangesAlike _ _ = ⊥

  -- a number stands for one alone, and one alone stands for it
  pub record IsOneToOne : Type 0 where
    pub left : (x y z : ℕ) → R x y → R x z → y ≡ z
    pub right : (x y z : ℕ) → R x z → R y z → x ≡ y

-- what holds of each number that stands in the sets, and of each behind which another one does
module _ (P : ℕ → Type 0) where
  abbrev pub EachIs : List ℕ → Type 0
  EachIs [] = Unit {0}
  EachIs (x ∷ xs) = P x × EachIs xs

  abbrev pub EachBatchIs : List Batch → Type 0
  EachBatchIs [] = Unit {0}
  EachBatchIs (b ∷ bs) = EachIs b.retired × EachBatchIs bs

  pub record AllAre (w : Sets) : Type 0 where
    pub opens : (s : ℕ) → EachIs (w.open_batch s)
    pub closes : EachBatchIs w.closed
    pub puts : Every (λ f. P f.number × P f.behind) w.further
