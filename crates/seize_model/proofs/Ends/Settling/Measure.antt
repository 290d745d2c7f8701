-- How much is left to do for a settling row that runs alone: a number that each of its steps lowers.
use Rattle.std.specs.Prelude.{if◌then◌else◌, nat_lt, ◌==◌, ◌/◌}
use Rattle.std.proofs.Common.{◌≡◌, ℕ, ◌+◌, ◌-◌, ◌*◌, ◌≤◌, Bool, true, false, cond, eqb, List, [], ◌∷◌, ◌++◌, length, refl, arith}
use Rattle.seize.specs.declared.states.TheConstants.{ACTIVE}
use Rattle.seize.specs.declared.rows.settle.Settle.{Settle}
use Rattle.seize.specs.declared.rows.settle.Settling.{Settling}
use Rattle.seize.specs.declared.rows.settle.Settling.TheVariants as at
use Rattle.seize.specs.Settle.{onward, with_batch, standing}
use Rattle.seize_rule.specs.Given.SeizeWaitingHeld.{count}
use Rattle.seize_rule.proofs.Given.SeizeMovesState.Ghost.{State, Life, IsFree, IsOwned, IsLinked, IsUnlinked, IsDeferring, IsDeferred, IsPending, IsIn, IsDoomed, IsLeft}
use Rattle.seize_rule.proofs.Given.SeizeMemoryWords.Sums.{sum_of}
use Rattle.seize_rule.proofs.Given.SeizeMemoryWords.View.{View}

-- A block goes from the list that it is deferred on to those to be retired, into a batch, and is taken. What it weighs at each of these pays for the work up
-- to the next one: for the try of its batch, too, where it is retired.
abbrev pub weight : ℕ → Life → ℕ
weight n IsFree = 0
weight n (IsOwned i) = 0
weight n IsLinked = 0
weight n (IsUnlinked i) = 0
weight n (IsDeferring i s t) = 10 * n + 16
weight n (IsDeferred t) = 10 * n + 16
weight n (IsPending i) = 10 * n + 15
weight n (IsIn x) = 6
weight n (IsDoomed i) = 6
weight n (IsLeft i) = 0

-- how many of a list stand behind the first of this number
abbrev pub behind_of : ℕ → List ℕ → ℕ
behind_of d [] = 0
behind_of d (c ∷ l) = cond (eqb d c) (length l) (behind_of d l)

-- How far a point is from the end of the work that it belongs to. An exchange fails once at most, since nobody else changes the word.
abbrev pub point : ℕ → View → List ℕ → Settle → Settling → ℕ
point n f puts c at.Sees = 3
point n f puts c at.Holds = cond (eqb (f.batches c.slot) c.last) 2 4
point n f puts c at.Pops = 6
point n f puts c (at.Firsts block) = cond (eqb block 0) (10 * n + 10) 5
point n f puts c (at.Batches block) = 4
point n f puts c (at.Ends block) = 3
point n f puts c (at.Appends block) = 2
point n f puts c (at.Counts block) = 1
point n f puts c (at.Scans slot block marks) = 10 * (n - slot) + 6 * marks + 9
point n f puts c (at.Marks slot block marks) = 10 * (n - slot) + 6 * marks + 8
point n f puts c (at.Marked slot block marks) = 10 * (n - slot) + 6 * marks + 7
point n f puts c (at.Closes marks) = 6 * marks + 8
point n f puts c (at.Reads block left pushed) = 6 * left + 7
point n f puts c (at.Links block left pushed slot head) = 6 * left + cond (eqb (f.heads slot) head) 4 6
point n f puts c (at.Pushes block left pushed slot head) = 6 * left + cond (eqb (f.heads slot) head) 3 5
point n f puts c (at.Pushed block left pushed) = 6 * left + 8
point n f puts c (at.Sums pushed) = 7
point n f puts c at.Nexts = 5
point n f puts c (at.Drains next word) = 4
point n f puts c (at.Joins next more) = 3
point n f puts c (at.Tails next) = behind_of (c.put_last / 2048) puts + 3
point n f puts c (at.Takes next) = 2
point n f puts c at.Puts = 7
point n f puts c at.Lists = 3
point n f puts c (at.Owns next) = 2
point n f puts c (at.Downs next batch) = 1
point n f puts c at.Gives = 6
point n f puts c at.Over = 0

-- the batch is still to be held, and to be tried
abbrev pub ahead : ℕ → Bool → Bool → ℕ
ahead n held flushing = cond held 0 5 + cond flushing (10 * n + 4) 0

abbrev pub ahead_of : ℕ → Settle → ℕ
ahead_of n c = ahead n c.held c.flushing

-- what is left up to the end of the work that the row is at
abbrev pub here : ℕ → View → List ℕ → Settle → ℕ
here n f puts c = ahead_of n c + point n f puts c c.stands

-- what is left behind it: the blocks below a number weigh so much, and each loose entry is to be counted
abbrev pub weighs : ℕ → ℕ → ℕ → State → ℕ
weighs n bound i m = sum_of (λ c. weight n (m.life c)) bound + 6 * length (m.loose i)

abbrev pub ends : ℕ → ℕ → ℕ → State → View → Settle → ℕ
ends n bound i m f c = weighs n bound i m + here n f (m.puts i) c

-- where it goes on after a piece of work
module _ (n : ℕ) (f : View) (puts : List ℕ) (c : Settle) where
  batch_here : (h g z : Bool) → c.flushing ≡ g
      → here n f puts (if h then (if g then (if z then record c { flushing = false; stands = at.Gives } else record c { flushing = false; stands = at.Firsts 0 }) else standing c at.Pops) else standing c at.Sees) ≤ ahead_of n c + 6
  batch_here true true true e = omega arith
  batch_here true true false e = grind (arith, e)
  batch_here true false z e = omega arith
  batch_here false g z e = omega arith

  pub onward_here : here n f puts (onward c) ≤ ahead_of n c + 6
  onward_here = one (c.reclaiming == 0) (c.pending == 0) c.flushing (nat_lt ACTIVE c.list) c.held
    where
      one : (a b d l h : Bool) → here n f puts (if a then (if b then (if d then with_batch c else (if l then standing c at.Lists else (if h then standing c at.Gives else standing c at.Over))) else with_batch c) else standing c at.Nexts) ≤ ahead_of n c + 6
      one false b d l h = omega arith
      one true false d l h = batch_here c.held c.flushing (c.last == 0) refl
      one true true true l h = batch_here c.held c.flushing (c.last == 0) refl
      one true true false true h = omega arith
      one true true false false true = omega arith
      one true true false false false = omega arith

-- what stands behind a block that stands in a list once
pub behind_there : (d : ℕ) (u l : List ℕ) → count d u ≡ 0 → behind_of d (u ++ d ∷ l) ≡ length l
behind_there d [] l none = grind arith
behind_there d (c ∷ u) l none =
    let q = other d c u none in
    let ih = behind_there d u l q.1 in
    one (eqb d c) q.0 ih
  where
    other : (d c : ℕ) (u : List ℕ) → count d (c ∷ u) ≡ 0 → (eqb d c ≡ false) × (count d u ≡ 0)
    other d c u h = (grind (arith, h), omega (arith, h))

    one : (t : Bool) → t ≡ false → behind_of d (u ++ d ∷ l) ≡ length l → cond t (length (u ++ d ∷ l)) (behind_of d (u ++ d ∷ l)) ≡ length l
    one true e ih = absurd (cc e)
    one false e ih = ih
