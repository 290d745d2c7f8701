-- How many guards have a name, and how many are on a slot, as guards enter, are dropped and are forgotten.
use Rattle.std.proofs.Common.{◌≡◌, ℕ, ◌+◌, ◌≤◌, Bool, true, false, cond, not, List, [], ◌∷◌, ◌++◌, Some, None, refl, ap, arith}
use Rattle.std.specs.Prelude.{filter, ◌==◌}
use Rattle.run_schedules.specs.declared.holders.NamedGuard.{NamedGuard}
use Rattle.run_schedules.specs.Runs.Same.{is_same}
use Rattle.run_schedules.specs.Runs.Present.{guard_of, guards_on, guards_named, forgotten_if}

-- how many guards of a name are on this slot
abbrev pub named_on : ℕ → List ℕ → List NamedGuard → ℕ
named_on slot name [] = 0
named_on slot name (g ∷ guards) = cond (is_same g.name name) (cond (g.slot == slot) 1 0) 0 + named_on slot name guards

-- one more

pub none_named : (name : List ℕ) (guards : List NamedGuard) → guard_of name guards ≡ None → guards_named name guards ≡ 0
none_named name [] e = refl
none_named name (g ∷ guards) e = at (is_same g.name name) e (none_named name guards)
  where
    at : (b : Bool) → cond b (Some g) (guard_of name guards) ≡ None → (guard_of name guards ≡ None → guards_named name guards ≡ 0) → cond b 1 0 + guards_named name guards ≡ 0
    at true e ih = absurd (cc e)
    at false e ih = let a = ih e in omega (arith, a)

pub named_more : (name : List ℕ) (guards : List NamedGuard) (g : NamedGuard) → guards_named name (guards ++ g ∷ []) ≡ guards_named name guards + cond (is_same g.name name) 1 0
named_more name [] g = omega arith
named_more name (x ∷ guards) g = let ih = named_more name guards g in omega (arith, ih)

pub on_more : (slot : ℕ) (guards : List NamedGuard) (g : NamedGuard) → guards_on slot (guards ++ g ∷ []) ≡ guards_on slot guards + cond (g.slot == slot) 1 0
on_more slot [] g = omega arith
on_more slot (x ∷ guards) g = let ih = on_more slot guards g in omega (arith, ih)

-- one less

none_on : (slot : ℕ) (name : List ℕ) (guards : List NamedGuard) → guards_named name guards ≡ 0 → named_on slot name guards ≡ 0
none_on slot name [] e = refl
none_on slot name (g ∷ guards) e = at (is_same g.name name) e (none_on slot name guards)
  where
    at : (b : Bool) → cond b 1 0 + guards_named name guards ≡ 0 → (guards_named name guards ≡ 0 → named_on slot name guards ≡ 0)
        → cond b (cond (g.slot == slot) 1 0) 0 + named_on slot name guards ≡ 0
    at true e ih = absurd (omega (arith, e))
    at false e ih = let a = ih (omega (arith, e)) in omega (arith, a)

pub the_named_on : (slot : ℕ) (name : List ℕ) (guards : List NamedGuard) (g : NamedGuard) → guard_of name guards ≡ Some g → guards_named name guards ≤ 1 → named_on slot name guards ≡ cond (g.slot == slot) 1 0
the_named_on slot name [] g e l = absurd (cc e)
the_named_on slot name (x ∷ guards) g e l = at (is_same x.name name) e l (the_named_on slot name guards g) (none_on slot name guards)
  where
    at : (b : Bool) → cond b (Some x) (guard_of name guards) ≡ Some g → cond b 1 0 + guards_named name guards ≤ 1
        → (guard_of name guards ≡ Some g → guards_named name guards ≤ 1 → named_on slot name guards ≡ cond (g.slot == slot) 1 0)
        → (guards_named name guards ≡ 0 → named_on slot name guards ≡ 0)
        → cond b (cond (x.slot == slot) 1 0) 0 + named_on slot name guards ≡ cond (g.slot == slot) 1 0
    at true e l ih none =
        let same : x ≡ g = cc e in
        let a = none (omega (arith, l)) in
        let b = ap {B = ℕ} (λ (y : NamedGuard). cond (y.slot == slot) 1 0) same in
        omega (arith, a, b)
    at false e l ih none = let a = ih e (omega (arith, l)) in omega (arith, a)

pub drop_on : (slot : ℕ) (name : List ℕ) (guards : List NamedGuard) → guards_on slot (filter (λ g. not (is_same g.name name)) guards) + named_on slot name guards ≡ guards_on slot guards
drop_on slot name [] = refl
drop_on slot name (g ∷ guards) = at (is_same g.name name) (drop_on slot name guards)
  where
    rest : List NamedGuard
    rest = filter (λ g. not (is_same g.name name)) guards

    at : (b : Bool) → guards_on slot rest + named_on slot name guards ≡ guards_on slot guards
        → guards_on slot (cond (not b) (g ∷ rest) rest) + (cond b (cond (g.slot == slot) 1 0) 0 + named_on slot name guards) ≡ cond (g.slot == slot) 1 0 + guards_on slot guards
    at true ih = omega (arith, ih)
    at false ih = omega (arith, ih)

pub drop_named : (other name : List ℕ) (guards : List NamedGuard) → guards_named other (filter (λ g. not (is_same g.name name)) guards) ≤ guards_named other guards
drop_named other name [] = omega arith
drop_named other name (g ∷ guards) = at (is_same g.name name) (drop_named other name guards)
  where
    rest : List NamedGuard
    rest = filter (λ g. not (is_same g.name name)) guards

    at : (b : Bool) → guards_named other rest ≤ guards_named other guards → guards_named other (cond (not b) (g ∷ rest) rest) ≤ cond (is_same g.name other) 1 0 + guards_named other guards
    at true ih = omega (arith, ih)
    at false ih = omega (arith, ih)

-- forgotten

pub forgotten_named : (other name : List ℕ) (guards : List NamedGuard) → guards_named other (forgotten_if name guards) ≡ guards_named other guards
forgotten_named other name [] = refl
forgotten_named other name (g ∷ guards) = at (is_same g.name name) (forgotten_named other name guards)
  where
    at : (b : Bool) → guards_named other (forgotten_if name guards) ≡ guards_named other guards
        → guards_named other (cond b (record g { forgotten = true }) g ∷ forgotten_if name guards) ≡ cond (is_same g.name other) 1 0 + guards_named other guards
    at true ih = omega (arith, ih)
    at false ih = omega (arith, ih)

pub forgotten_on : (slot : ℕ) (name : List ℕ) (guards : List NamedGuard) → guards_on slot (forgotten_if name guards) ≡ guards_on slot guards
forgotten_on slot name [] = refl
forgotten_on slot name (g ∷ guards) = at (is_same g.name name) (forgotten_on slot name guards)
  where
    at : (b : Bool) → guards_on slot (forgotten_if name guards) ≡ guards_on slot guards
        → guards_on slot (cond b (record g { forgotten = true }) g ∷ forgotten_if name guards) ≡ cond (g.slot == slot) 1 0 + guards_on slot guards
    at true ih = omega (arith, ih)
    at false ih = omega (arith, ih)

-- at the start, and once all was reclaimed
