-- How many steps a machine takes at most from here on, whatever its operations answer.
use Rattle.std.specs.Prelude.{◌≡◌, ℕ, zero, suc, ◌+◌, ◌<◌, ◌≤◌, ◌==◌, ◌&&◌, ◌^◌, Bool, true, false, cond, length, Option, Some, None, Ok, Err}
use Rattle.std.proofs.Common.{sym, ◌∙◌, arith, ⊎_elim}
use Rattle.std.proofs.lemmas.Bool.{true≢false, cases_lt}
use mathlib.Core.HLevel.{Σ_prop_path}
use Rattle.std.specs.Coded.{Coded-set, coded_bool, ×_prop, Π_prop}
use Rattle.seize_words.specs.OneMemory.Mem.{Mem, after, block_of, value_at, word_at}
use Rattle.seize_words.specs.OneMemory.Op.{Op, Out, Load, Store, Swap, Add, Or, Exchange, Make, Take, Rewrite, Room, Found, Stored, Exchanged, Made, Taken, Roomed}
use Rattle.seize_words.specs.OneMemory.Place.{capacity}
use Rattle.seize_words.specs.OneMemory.Plan.{Plan, Turn, Do, Then, Now, Seeing, Sure}
use Rattle.seize_words.specs.declared.fault.Fault.TheVariants.{Memory}
use Rattle.seize.specs.declared.advance.Advance.{Advance}
use Rattle.seize.specs.declared.advance.Advance.TheVariants as progress

-- so it is with what is there, if anything is
abbrev pub of_some : {T : Type 0} → Option T → (T → Bool) → Bool
of_some None ok = true
of_some (Some x) ok = ok x

-- so it is with each number below this one
unfoldable pub all_below : ℕ → (ℕ → Bool) → Bool
all_below zero ok = true
all_below (suc n) ok = ok n && all_below n ok

-- nothing is there
abbrev pub is_free : {T : Type 0} → Option T → Bool
is_free None = true
is_free (Some x) = false

module _ {T : Type 0} where
  -- so it is with each answer that this operation may give
  abbrev pub of_answers : Mem T → Op T → (Out T → Bool) → Bool
  of_answers m (Load at) ok = of_some (word_at m at) (λ w. ok (Found w))
  of_answers m (Store at new) ok = ok Stored
  of_answers m (Swap at new) ok = of_some (word_at m at) (λ w. ok (Found w))
  of_answers m (Add at by) ok = of_some (word_at m at) (λ w. ok (Found w))
  of_answers m (Or at bits) ok = of_some (word_at m at) (λ w. ok (Found w))
  of_answers m (Exchange at old new) ok = of_some (word_at m at) (λ w. cond (w == old) (ok (Exchanged (Ok w))) (ok (Exchanged (Err w))))
  of_answers m (Make value words) ok = ok (Made (Err value)) && all_below (2 ^ 53) (λ b. cond (b == 0) true (cond (is_free (block_of m b)) (ok (Made (Ok b))) true))
  of_answers m (Take b) ok = of_some (value_at m b) (λ v. ok (Taken v))
  of_answers m (Rewrite b new) ok = of_some (value_at m b) (λ v. ok (Taken v))
  of_answers m (Room bucket) ok = ok (Roomed (Ok tt)) && cond (length m.slots + 32 == capacity bucket) (ok (Roomed (Err Memory))) true

  module _ {R : Type 0} where
    -- so it is with what is left of a step, where it terminates
    abbrev pub of_ends : (ℕ → Option T) → Then T R → (R → Bool) → Bool
    of_ends shown (Now r) ok = ok r
    of_ends shown (Seeing block rest) ok = of_some (shown block) (λ value. of_ends shown (rest value) ok)
    of_ends shown (Sure fact rest) ok = of_ends shown rest ok

    -- so it is wherever this step may lead
    abbrev pub of_steps : Mem T → Plan T R → (Mem T → R → Bool) → Bool
    of_steps m (Turn rest) ok = of_ends (value_at m) rest (ok m)
    of_steps m (Do op rest) ok = of_answers m op (λ out. of_ends (value_at (after m op out)) (rest out) (ok (after m op out)))

-- it is so, where the machine takes a further step
abbrev pub if_goes : {A : Type 0} → Advance A → Bool → Bool
if_goes progress.Goes b = b
if_goes progress.Waits b = b
if_goes _ b = true

module _ {T X A : Type 0} (plan : X → Plan T (X × Advance A)) where
  -- each run from here on has fewer steps than this number
  abbrev pub within : ℕ → X → Mem T → Bool
  within zero x m = false
  within (suc n) x m = of_steps m (plan x) (λ m2 end. if_goes end.1 (within n end.0 m2))

module _ (so : ℕ → Bool) where
  -- the least number for which it is so
  abbrev pub IsLeast : ℕ → Type 0
  IsLeast n = (so n ≡ true) × ((k : ℕ) → k < n → so k ≡ false)

  abbrev pub HasLeast : Type 0
  HasLeast = (n : ℕ) × IsLeast n

  is_least_prop : (n : ℕ) → IsProp (IsLeast n)
  is_least_prop n = ×_prop (Coded-set coded_bool (so n) true) (Π_prop (λ k. Π_prop (λ below. Coded-set coded_bool (so k) false)))

  not_below : (i j : ℕ) → ((l : ℕ) → l < i → so l ≡ false) → so j ≡ true → i ≤ j
  not_below i j none is = ⊎_elim (λ l. absurd (true≢false (sym is ∙ none j l))) (λ e. e) (cases_lt j i)

  one_least : (n k : ℕ) → IsLeast n → IsLeast k → n ≡ k
  one_least n k a b = let p = not_below n k a.1 b.0 in let q = not_below k n b.1 a.0 in omega (arith, p, q)

  pub has_least_prop : IsProp HasLeast
  has_least_prop x y = Σ_prop_path is_least_prop (one_least x.0 y.0 x.1 y.1)
