-- Guards and registrations by name: what the tests of a moment say, by what is found; and how slots are used then.
use Rattle.std.specs.Prelude.{◌==◌, ◌&&◌, ◌||◌, not, cond, filter, is_some, option_map, Option, Some, None, if◌then◌else◌}
use Rattle.std.specs.List.{list_any}
use Rattle.std.proofs.Common.{◌≡◌, ◌≢◌, ℕ, ◌+◌, ◌≤◌, Bool, true, false, List, [], ◌∷◌, refl, sym, ap, ◌∙◌, arith}
use Rattle.std.proofs.lemmas.Bool.{eq-eqb}
use Rattle.run_schedules.specs.declared.holders.NamedGuard.{NamedGuard}
use Rattle.run_schedules.specs.declared.holders.NamedRegistration.{NamedRegistration}
use Rattle.run_schedules.specs.Runs.Present.{Present, guard_of, guards_named, guards_on, living_slot, registration_of, has_registration, forgotten_if, forgets, slot_of_registration, slot_or}
use Rattle.run_schedules.specs.Runs.Same.{is_same}
use Rattle.run_schedules.proofs.Runs.Laws.{same_tells, forgets_counts}
use Rattle.run_shows.specs.declared.row.SlotUse.TheVariants as used
use Rattle.run_schedules.specs.Schedules.InUse.{is_registered, is_guard, is_living}
use Rattle.run_logged.specs.Rows.Rows.{used_as}
use Rattle.run_logged.proofs.Rows.Lists.{is_found}

-- a guard of this name is there, or a registration
pub guard_is : (name : List ℕ) (there : Present) → is_guard name there ≡ is_some (guard_of name there.guards)
guard_is name there = sym (is_found (λ g. is_same g.name name) there.guards)

pub registered_is : (name : List ℕ) (there : Present) → is_registered name there ≡ is_some (registration_of name there.registrations)
registered_is name there = sym (is_found (λ r. is_same r.name name) there.registrations)

pub slot_some : (o : Option NamedRegistration) → is_some (option_map (λ r. r.slot) o) ≡ is_some o
slot_some None = refl
slot_some (Some r) = refl

-- one whose slot is known
pub slot_is : (name : List ℕ) (there : Present) (slot : ℕ) → option_map (λ r. r.slot) (registration_of name there.registrations) ≡ Some slot → slot_of_registration name there ≡ slot
slot_is name there slot e = by (registration_of name there.registrations) e
  where
    by : (o : Option NamedRegistration) → option_map (λ r. r.slot) o ≡ Some slot → slot_or o ≡ slot
    by None f = absurd (cc f)
    by (Some r) f = cc f

-- where no guard has the name none lives
none_lives : (name : List ℕ) (guards : List NamedGuard) → guards_named name guards ≡ 0 → list_any (λ g. is_same g.name name && not g.forgotten) guards ≡ false
none_lives name [] e = refl
none_lives name (g ∷ guards) e = at (is_same g.name name) e (none_lives name guards)
  where
    at : (b : Bool) → (if b then 1 else 0) + guards_named name guards ≡ 0 → (guards_named name guards ≡ 0 → list_any (λ h. is_same h.name name && not h.forgotten) guards ≡ false)
        → ((b && not g.forgotten) || list_any (λ h. is_same h.name name && not h.forgotten) guards) ≡ false
    at true e ih = absurd (omega (arith, e))
    at false e ih = ih (omega (arith, e))

-- the one of a name lives where it is found with its slot
lives_in : (name : List ℕ) (guards : List NamedGuard) → guards_named name guards ≤ 1 → list_any (λ g. is_same g.name name && not g.forgotten) guards ≡ is_some (living_slot (guard_of name guards))
lives_in name [] l = refl
lives_in name (g ∷ guards) l = at (is_same g.name name) l (lives_in name guards) (none_lives name guards)
  where
    Rest : Bool
    Rest = list_any (λ h. is_same h.name name && not h.forgotten) guards

    so : (f : Bool) → Rest ≡ false → (not f || Rest) ≡ is_some (if f then None else Some g.slot)
    so true e = e
    so false e = refl

    at : (b : Bool) → (if b then 1 else 0) + guards_named name guards ≤ 1 → (guards_named name guards ≤ 1 → Rest ≡ is_some (living_slot (guard_of name guards)))
        → (guards_named name guards ≡ 0 → Rest ≡ false) → ((b && not g.forgotten) || Rest) ≡ is_some (living_slot (cond b (Some g) (guard_of name guards)))
    at true l ih none = so g.forgotten (none (omega (arith, l)))
    at false l ih none = ih (omega (arith, l))

pub living_is : (name : List ℕ) (there : Present) → guards_named name there.guards ≤ 1 → is_living name there ≡ is_some (living_slot (guard_of name there.guards))
living_is name there l = lives_in name there.guards l

-- one of a name is of no other one
not_other : (own name other : List ℕ) → is_same other name ≡ false → is_same own name ≡ true → is_same own other ≡ false
not_other own name other ne e = by (is_same own other) refl
  where
    by : (b : Bool) → is_same own other ≡ b → is_same own other ≡ false
    by true f = absurd (let h = ap (λ (x : List ℕ). is_same x name) (sym ((same_tells own other).0 f)) ∙ e in cc (h, ne))
    by false f = f

-- others are found as before where one is forgotten,
pub others_found : (name other : List ℕ) (guards : List NamedGuard) → is_same other name ≡ false → guard_of other (forgotten_if name guards) ≡ guard_of other guards
others_found name other [] ne = refl
others_found name other (g ∷ guards) ne = at (is_same g.name name) refl (others_found name other guards ne)
  where
    at : (b : Bool) → is_same g.name name ≡ b → guard_of other (forgotten_if name guards) ≡ guard_of other guards
        → guard_of other ((if b then record g { forgotten = true } else g) ∷ forgotten_if name guards) ≡ guard_of other (g ∷ guards)
    at true e ih =
        ap (λ (q : Bool). cond q (Some (record g { forgotten = true })) (guard_of other (forgotten_if name guards))) (not_other g.name name other ne e) ∙ ih
        ∙ sym (ap (λ (q : Bool). cond q (Some g) (guard_of other guards)) (not_other g.name name other ne e))
    at false e ih = ap (λ (o : Option NamedGuard). cond (is_same g.name other) (Some g) o) ih

-- and where one is dropped
pub others_left : (name other : List ℕ) (guards : List NamedGuard) → is_same other name ≡ false → guard_of other (filter (λ h. not (is_same h.name name)) guards) ≡ guard_of other guards
others_left name other [] ne = refl
others_left name other (g ∷ guards) ne = at (is_same g.name name) refl (others_left name other guards ne)
  where
    rest : List NamedGuard
    rest = filter (λ h. not (is_same h.name name)) guards

    at : (b : Bool) → is_same g.name name ≡ b → guard_of other rest ≡ guard_of other guards
        → guard_of other (cond (not b) (g ∷ rest) rest) ≡ cond (is_same g.name other) (Some g) (guard_of other guards)
    at true e ih = ih ∙ sym (ap (λ (q : Bool). cond q (Some g) (guard_of other guards)) (not_other g.name name other ne e))
    at false e ih = ap (λ (o : Option NamedGuard). cond (is_same g.name other) (Some g) o) ih

-- slots are used as before where one is forgotten
pub forgets_used : (name : List ℕ) (slot : ℕ) (there : Present) → used_as slot (forgets name there) ≡ used_as slot there
forgets_used name slot there =
    ap (λ (n : ℕ). if n == 0 then (if has_registration slot there.registrations then used.Outside else used.Vacant) else used.Inside) ((forgets_counts name there.guards).1 slot)

-- a slot on which a guard is, is entered; else one that has a registration is not
by_guards : (slot : ℕ) (there : Present) (b : Bool) → (guards_on slot there.guards == 0) ≡ b → used_as slot there ≡ (if b then (if has_registration slot there.registrations then used.Outside else used.Vacant) else used.Inside)
by_guards slot there b e = ap (λ (q : Bool). if q then (if has_registration slot there.registrations then used.Outside else used.Vacant) else used.Inside) e

pub is_inside : (slot : ℕ) (there : Present) → guards_on slot there.guards ≢ 0 → used_as slot there ≡ used.Inside
is_inside slot there ne = by_guards slot there false (by (guards_on slot there.guards == 0) refl)
  where
    by : (b : Bool) → (guards_on slot there.guards == 0) ≡ b → (guards_on slot there.guards == 0) ≡ false
    by true e = absurd (let z : guards_on slot there.guards ≡ 0 = grind (arith, e) in ne z)
    by false e = e

pub is_outside : (slot : ℕ) (there : Present) → guards_on slot there.guards ≡ 0 → has_registration slot there.registrations ≡ true → used_as slot there ≡ used.Outside
is_outside slot there none has =
    ap (λ (n : ℕ). if n == 0 then (if has_registration slot there.registrations then used.Outside else used.Vacant) else used.Inside) none
    ∙ ap (λ (q : Bool). if q then used.Outside else used.Vacant) has

pub is_vacant : (slot : ℕ) (there : Present) → guards_on slot there.guards ≡ 0 → has_registration slot there.registrations ≡ false → used_as slot there ≡ used.Vacant
is_vacant slot there none has =
    ap (λ (n : ℕ). if n == 0 then (if has_registration slot there.registrations then used.Outside else used.Vacant) else used.Inside) none
    ∙ ap (λ (q : Bool). if q then used.Outside else used.Vacant) has

-- as many guards, and the same registrations
pub used_alike : (slot : ℕ) (there there2 : Present) → guards_on slot there2.guards ≡ guards_on slot there.guards → has_registration slot there2.registrations ≡ has_registration slot there.registrations
    → used_as slot there2 ≡ used_as slot there
used_alike slot there there2 on has =
    ap (λ (n : ℕ). if n == 0 then (if has_registration slot there2.registrations then used.Outside else used.Vacant) else used.Inside) on
    ∙ ap (λ (q : Bool). if guards_on slot there.guards == 0 then (if q then used.Outside else used.Vacant) else used.Inside) has

-- a guard that lives on a slot is on it
pub on_its_slot : (name : List ℕ) (guards : List NamedGuard) (slot : ℕ) → living_slot (guard_of name guards) ≡ Some slot → guards_on slot guards ≢ 0
on_its_slot name [] slot e = absurd (cc e)
on_its_slot name (g ∷ guards) slot e = at (is_same g.name name) e (on_its_slot name guards slot)
  where
    same_slot : (f : Bool) → (if f then None else Some g.slot) ≡ Some slot → (g.slot == slot) ≡ true
    same_slot true h = absurd (cc h)
    same_slot false h = let s : g.slot ≡ slot = cc h in eq-eqb g.slot slot s

    more : (q : Bool) → (g.slot == slot) ≡ q → q ≡ true → (if g.slot == slot then 1 else 0) + guards_on slot guards ≢ 0
    more q h t = λ z. let c = ap {B = ℕ} (λ (b : Bool). if b then 1 else 0) (h ∙ t) in omega (arith, z, c)

    at : (b : Bool) → living_slot (cond b (Some g) (guard_of name guards)) ≡ Some slot → (living_slot (guard_of name guards) ≡ Some slot → guards_on slot guards ≢ 0)
        → (if g.slot == slot then 1 else 0) + guards_on slot guards ≢ 0
    at true h ih = more (g.slot == slot) refl (same_slot g.forgotten h)
    at false h ih = λ z. ih h (omega (arith, z))
