-- How often a number stands in the waiting sets, and when these are tidy.
use Rattle.std.specs.Prelude.{◌≡◌, ℕ, suc, ◌+◌, ◌≤◌, cond, eqb, List, [], ◌∷◌, length}
use Rattle.seize.specs.WaitingSets.{Batch, Further, Sets, opened}

-- one for the same number
abbrev pub same : ℕ → ℕ → ℕ
same a b = cond (eqb a b) 1 0

-- how often a number stands in a list
abbrev pub count : ℕ → List ℕ → ℕ
count x [] = 0
count x (y ∷ ys) = same x y + count x ys

-- a sum over numbers
abbrev pub weight : (ℕ → ℕ) → List ℕ → ℕ
weight f [] = 0
weight f (x ∷ xs) = f x + weight f xs

-- and over those that wait behind others
abbrev pub weight_put : (ℕ → ℕ) → List Further → ℕ
weight_put f [] = 0
weight_put f (x ∷ xs) = f x.number + weight_put f xs

-- no number stands twice in these, in those still to be retired, and in what waits behind others
abbrev pub Once : List ℕ → List ℕ → List Further → Type 0
Once opened xs further = (c : ℕ) → weight (same c) opened + weight (same c) xs + weight_put (same c) further ≤ 1

-- how often a number stands in closed batches
abbrev pub held_closed : ℕ → List Batch → ℕ
held_closed n [] = 0
held_closed n (b ∷ batches) = count n b.retired + held_closed n batches

-- and in all batches
abbrev pub held : ℕ → Sets → ℕ
held n w = count n (opened w.slots w) + held_closed n w.closed

-- in ascending order, from this number on
abbrev pub AscendFrom : ℕ → List ℕ → Type 0
AscendFrom low [] = Unit {0}
AscendFrom low (s ∷ slots) = (low ≤ s) × AscendFrom (suc s) slots

-- each of the batches waits for a slot, and for none but these
abbrev pub AllWaitFor : List ℕ → List Batch → Type 0
AllWaitFor active [] = Unit {0}
AllWaitFor active (b ∷ batches) = (1 ≤ length b.waits_for) × ((t : ℕ) → count t b.waits_for ≤ count t active) × AllWaitFor active batches

-- Each closed batch waits for active slots, these stand in ascending order, a slot that was never used has no open batch, and nothing waits behind others.
pub record Tidy (w : Sets) : Type 0 where
  pub none_further : w.further ≡ []
  pub unused : (s : ℕ) → w.slots ≤ s → w.open_batch s ≡ []
  pub waiting : AllWaitFor w.active w.closed
  pub ascends : AscendFrom 0 w.active

-- the same sets, with nothing behind others
abbrev pub bare : Sets → Sets
bare w = record w { further = [] }

-- how often a number stands in the sets, in batches and behind others together
abbrev pub all_held : ℕ → Sets → ℕ
all_held n w = held n w + weight_put (same n) w.further

-- each of those that wait behind others is so
abbrev pub Every : (Further → Type 0) → List Further → Type 0
Every P [] = Unit {0}
Every P (f ∷ further) = P f × Every P further
