-- What is promised of the words of a run: of names, and of guards.
use Rattle.std.specs.Prelude.{◌≡◌, ◌≤◌, ◌==◌, ℕ, ◌+◌, true, cond, not, List, [], ◌∷◌, ◌++◌, filter, Some, None}
use Rattle.run_schedules.specs.declared.holders.NamedGuard.{NamedGuard}
use Rattle.run_schedules.specs.Runs.Present.{guard_of, guards_named, guards_on, forgotten_if}
use Rattle.run_schedules.specs.Runs.Same.{is_same}

-- names

-- the test of names says whether they are the same
abbrev pub SameTells : Type 0
SameTells = (a b : List ℕ) → (is_same a b ≡ true → a ≡ b) × (a ≡ b → is_same a b ≡ true)

-- guards

-- where a name isn't found, no guard has it
abbrev pub NoneIsNamed : Type 0
NoneIsNamed = (name : List ℕ) (guards : List NamedGuard) → guard_of name guards ≡ None → guards_named name guards ≡ 0

-- a guard that enters counts once, for its name and on its slot
abbrev pub EntersCounts : Type 0
EntersCounts =
    (guards : List NamedGuard) (g : NamedGuard)
    → ((name : List ℕ) → guards_named name (guards ++ g ∷ []) ≡ guards_named name guards + cond (is_same g.name name) 1 0)
    × ((slot : ℕ) → guards_on slot (guards ++ g ∷ []) ≡ guards_on slot guards + cond (g.slot == slot) 1 0)

-- where a guard is dropped, no name has more, and its slot has one less where it was the only one of its name
abbrev pub DropsCounts : Type 0
DropsCounts =
    (name : List ℕ) (guards : List NamedGuard)
    → ((other : List ℕ) → guards_named other (filter (λ g. not (is_same g.name name)) guards) ≤ guards_named other guards)
    × ((g : NamedGuard) → guard_of name guards ≡ Some g → guards_named name guards ≤ 1
    → (slot : ℕ) → guards_on slot (filter (λ h. not (is_same h.name name)) guards) + cond (g.slot == slot) 1 0 ≡ guards_on slot guards)

-- a guard that is forgotten counts as before
abbrev pub ForgetsCounts : Type 0
ForgetsCounts =
    (name : List ℕ) (guards : List NamedGuard)
    → ((other : List ℕ) → guards_named other (forgotten_if name guards) ≡ guards_named other guards)
    × ((slot : ℕ) → guards_on slot (forgotten_if name guards) ≡ guards_on slot guards)
