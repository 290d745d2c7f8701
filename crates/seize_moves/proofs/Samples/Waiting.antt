-- Waiting sets worked by hand: tidy ones and others, and what no change may leave.
use Rattle.std.specs.Prelude.{if◌then◌else◌, ◌==◌}
use Rattle.std.proofs.Common.{◌≡◌, ℕ, ◌≤◌, Bool, true, false, cond, List, [], ◌∷◌, refl, arith, eqb-true}
use Rattle.seize.specs.WaitingSets.{Batch, Further, Sets, Leaves, quietly, changed}
use Rattle.seize_moves.specs.Waiting.Held.{Tidy, bare, all_held}
use Rattle.seize_moves.specs.Waiting.Changes.{Keeps}

-- one batch waits for the slots 0 and 2, and an older one for slot 2 alone
abbrev newer : Batch
newer = record { retired = 2 ∷ []; waits_for = 0 ∷ 2 ∷ [] }

abbrev older : Batch
older = record { retired = 1 ∷ []; waits_for = 2 ∷ [] }

-- number 5 waits behind number 1, and number 3 in the open batch of slot 0
abbrev behind_one : List Further
behind_one = record { number = 5; behind = 1 } ∷ []

abbrev opened_now : ℕ → List ℕ
opened_now s = if s == 0 then 3 ∷ [] else []

abbrev two_wait : Sets
two_wait = record { open_batch = opened_now; closed = newer ∷ (older ∷ []); active = 0 ∷ 2 ∷ []; slots = 3; further = behind_one }

two_tidy : Tidy (bare two_wait)
two_tidy = record {
  none_further = refl;
  unused = λ s l. at s l (s == 0) refl;
  waiting = (omega arith, (λ t. omega arith), (omega arith, (λ t. omega arith), tt));
  ascends = (omega arith, (omega arith, tt));
}
  where
    at : (s : ℕ) → 3 ≤ s → (y : Bool) → (s == 0) ≡ y → cond {A = List ℕ} y (3 ∷ []) [] ≡ []
    at s l true e = let a = eqb-true s 0 e in absurd (omega (arith, l, a))
    at s l false e = refl

-- each number stands in them once
all_once : (all_held 1 two_wait ≡ 1) × (all_held 2 two_wait ≡ 1) × (all_held 3 two_wait ≡ 1) × (all_held 5 two_wait ≡ 1)
all_once = (refl, refl, refl, refl)

-- a batch waits for a slot that isn't active
slot_forgotten : Tidy (bare (record two_wait { active = 2 ∷ [] })) → ⊥
slot_forgotten h = let a = h.waiting.1 0 in omega (arith, a)

-- a batch waits for no slot, and was not reclaimed
none_awaited : Tidy (bare (record two_wait { closed = record { retired = 1 ∷ []; waits_for = [] } ∷ [] })) → ⊥
none_awaited h = let a = h.waiting.0 in omega (arith, a)

-- a slot was used that is not counted
slot_not_counted : Tidy (bare (record two_wait { slots = 0 })) → ⊥
slot_not_counted h = absurd (cc (h.unused 0 (omega arith)))

-- as slot 2 leaves, the older batch is reclaimed, and what waited behind it is retired: it goes into the open batch of that slot
two_left : (changed 2 (Leaves 2) two_wait).reclaimed ≡ 1 ∷ []
two_left = refl

five_opened : (changed 2 (Leaves 2) two_wait).sets.open_batch 2 ≡ 5 ∷ []
five_opened = refl

-- what no change may leave

-- the older batch is gone, and was not reclaimed
one_lost : Keeps two_wait [] (0 ∷ 2 ∷ []) (quietly (record two_wait { closed = newer ∷ [] })) → ⊥
one_lost k = absurd (cc (k.balance 1))

-- it is reclaimed, and still there
one_twice : Keeps two_wait [] (0 ∷ 2 ∷ []) (record { sets = two_wait; reclaimed = 1 ∷ [] }) → ⊥
one_twice k = absurd (cc (k.balance 1))

-- it is reclaimed, and number 5 waits behind it for ever
five_stuck : Keeps two_wait [] (0 ∷ 2 ∷ []) (record { sets = record two_wait { closed = newer ∷ [] }; reclaimed = 1 ∷ [] }) → ⊥
five_stuck k = absurd (cc k.behind)
