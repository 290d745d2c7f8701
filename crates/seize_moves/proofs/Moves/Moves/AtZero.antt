-- A batch whose counter comes to zero is reclaimed in the same step, so between whole steps no closed batch is at zero.
use Rattle.std.proofs.Common.{◌≡◌, ℕ, ◌+◌, ◌-◌, ◌%◌, ◌^◌, ◌<◌, List, [], ◌∷◌, refl, arith}
use Rattle.seize_moves.proofs.Moves.State.Ghost.{Entry, Loose, Closing, State, was_put, total}
use Rattle.seize_moves.proofs.Moves.State.Rule.{Inv, Moved, Pending}
use Rattle.seize_moves.proofs.Moves.Moves.Pushes.{summed_moves, counted_moves, closed_at_zero}
use Rattle.seize_moves.proofs.Moves.Moves.Takes.{gives_up_moves}
use Rattle.seize_moves.proofs.Moves.State.Moves.{summed, counted, gives_up}
use Rattle.seize_moves.proofs.Moves.State.Together.{then}

-- what the other moves leave

pub summed_pending : (n i : ℕ) (m : State) (x : ℕ) → 0 < (m.counter x + total was_put (m.debt x) n) % 2 ^ 64
    → Pending m.stage m.counter → Pending (summed n m i x).stage (summed n m i x).counter
summed_pending n i m x z p y e = grind (arith, p y)

-- the last entry was counted before their number was added

pub summed_gives_up : (n i s : ℕ) (m : State) (x : ℕ)
    → n < 2 ^ 64 → Inv n m → m.stage x ≡ Closing i → m.todo x ≡ [] → m.left i ≡ [] → (m.counter x + total was_put (m.debt x) n) % 2 ^ 64 ≡ 0
    → Moved n i s m (gives_up (summed n m i x) i x)
summed_gives_up n i s m x small inv hs ht hl z =
    let a = summed_moves n i s m x small inv hs ht in
    then n i s m (summed n m i x) _ a (gives_up_moves n i s (summed n m i x) x a.inv (grind arith) (grind (arith, z)) hl) refl

pub summed_gives_up_pending : (n i : ℕ) (m : State) (x : ℕ)
    → Pending m.stage m.counter → Pending (gives_up (summed n m i x) i x).stage (gives_up (summed n m i x) i x).counter
summed_gives_up_pending n i m x p y e = grind (arith, p y)

-- row i counts the last entry

pub counted_gives_up : (n i s : ℕ) (m : State) (e : Entry) (es : List Entry)
    → n < 2 ^ 64 → Inv n m → m.loose i ≡ e ∷ es → m.debt e.batch (m.from i) ≡ Loose i → m.left i ≡ [] → (m.counter e.batch + (2 ^ 64 - 1)) % 2 ^ 64 ≡ 0
    → Moved n i s m (gives_up (counted m i e es) i e.batch)
counted_gives_up n i s m e es small inv h hd hl z =
    let a = counted_moves n i s m e es small inv h hd in
    then n i s m (counted m i e es) _ a
    (gives_up_moves n i s (counted m i e es) e.batch a.inv (closed_at_zero n i m e small inv hd z) (grind (arith, z)) hl) refl

pub counted_gives_up_pending : (i : ℕ) (m : State) (e : Entry) (es : List Entry)
    → Pending m.stage m.counter → Pending (gives_up (counted m i e es) i e.batch).stage (gives_up (counted m i e es) i e.batch).counter
counted_gives_up_pending i m e es p y k = grind (arith, p y)

-- where no slot is active, an open batch is reclaimed at once
