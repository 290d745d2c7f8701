-- A slot that is active reclaims nothing by what it retires: its batch waits for the slot itself.
use Rattle.std.specs.Prelude.{◌==◌}
use Rattle.std.proofs.Common.{◌≡◌, ℕ, zero, suc, ◌≤◌, Bool, true, false, List, [], ◌∷◌, ◌++◌, length, refl, arith}
use Rattle.std.proofs.lemmas.Bool.{ne_eqb}
use Rattle.seize.specs.WaitingSets.{Sets, After, Retires, with_open, closing, is_full, is_enough, size, retired_all, changed}
use Rattle.seize_moves.specs.Waiting.Held.{count}
use Rattle.seize_moves.proofs.Waiting.Bound.{tried}

tried_back : (full enough none : Bool) (p q r : After) → none ≡ false → p.reclaimed ≡ [] → r.reclaimed ≡ [] → (tried full enough none p q r).reclaimed ≡ []
tried_back false enough none p q r e a b = a
tried_back true false none p q r e a b = a
tried_back true true true p q r e a b = absurd (cc e)
tried_back true true false p q r e a b = b

retired_all_quietly : (batch_size bound slot : ℕ) (xs : List ℕ) (w : Sets) → (length w.active == 0) ≡ false → (retired_all batch_size bound slot xs w).reclaimed ≡ []
retired_all_quietly batch_size bound slot [] w e = refl
retired_all_quietly batch_size zero slot (x ∷ xs) w e = refl
retired_all_quietly batch_size (suc bound) slot (x ∷ xs) w e =
    let v = with_open w slot (w.open_batch slot ++ x ∷ []) in
    tried_back (is_full batch_size slot v) (is_enough slot v) (length v.active == 0) _ _ _ e
    (retired_all_quietly batch_size (suc bound) slot xs v e) (retired_all_quietly batch_size (suc bound) slot xs (closing slot v) e)

-- there is a slot that is active
pub one_active : (s : ℕ) (active : List ℕ) → 1 ≤ count s active → (length active == 0) ≡ false
one_active s [] l = absurd (omega (arith, l))
one_active s (x ∷ active) l = ne_eqb (suc (length active)) 0 (λ e. omega (arith, e))

pub retires_quietly : (batch_size s n : ℕ) (w : Sets) → 1 ≤ count s w.active → (changed batch_size (Retires s n) w).reclaimed ≡ []
retires_quietly batch_size s n w l = retired_all_quietly batch_size (suc (size w)) s (n ∷ []) w (one_active s w.active l)
