-- Names of their own: who is there keeps them when one comes, leaves or is forgotten.
use Rattle.std.proofs.Common.{◌≡◌, ℕ, ◌≤◌, Bool, true, false, List, [], ◌∷◌, ◌++◌, None, refl, sym, ap, ◌∙◌, arith}
use Rattle.run_schedules.specs.declared.holders.NamedGuard.{NamedGuard}
use Rattle.run_schedules.specs.Runs.Same.{is_same}
use Rattle.run_schedules.specs.Runs.Present.{Present, HaveNames, nobody, guard_of, guards_named, enters_slot, drops, forgets}
use Rattle.run_schedules.proofs.Runs.Laws.{same_tells, none_is_named, enters_counts, drops_counts, forgets_counts}

pub nobody_named : HaveNames nobody
nobody_named = record { guards = λ name. omega arith; registrations = λ name. omega arith; slots = λ slot. omega arith }

pub forgets_named : (name : List ℕ) (there : Present) → HaveNames there → HaveNames (forgets name there)
forgets_named name there h = record {
  guards = λ other. let a = (forgets_counts name there.guards).0 other in let b = h.guards other in omega (arith, a, b);
  registrations = h.registrations;
  slots = h.slots;
}

pub drops_named : (name : List ℕ) (there : Present) → HaveNames there → HaveNames (drops name there)
drops_named name there h = record {
  guards = λ other. let a = (drops_counts name there.guards).0 other in let b = h.guards other in omega (arith, a, b);
  registrations = h.registrations;
  slots = h.slots;
}

-- one guard more, of a name that none has

more_named : (name : List ℕ) (guards : List NamedGuard) (g : NamedGuard) (other : List ℕ) (b : Bool) → guard_of name guards ≡ None → g.name ≡ name → is_same g.name other ≡ b → guards_named other guards ≤ 1
    → guards_named other (guards ++ g ∷ []) ≤ 1
more_named name guards g other true none is e l =
    let a = none_is_named name guards none in
    let same = ap (λ x. guards_named x guards) (sym is ∙ (same_tells g.name other).0 e) in
    let c = (enters_counts guards g).0 other in
    let d = rw e at c in
    omega (arith, a, same, d)
more_named name guards g other false none is e l = let c = (enters_counts guards g).0 other in let d = rw e at c in omega (arith, d, l)

pub enters_named : (name : List ℕ) (slot : ℕ) (there : Present) → guard_of name there.guards ≡ None → HaveNames there → HaveNames (enters_slot name slot there)
enters_named name slot there none h = record {
  guards = λ other. more_named name there.guards (record { name = name; slot = slot; forgotten = false }) other (is_same name other) none refl refl (h.guards other);
  registrations = h.registrations;
  slots = h.slots;
}
