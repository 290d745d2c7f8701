-- Registrations by name and by slot: one that is found, one more, and one less.
use Rattle.std.specs.Prelude.{filter, ◌==◌, ◌||◌, not, option_map, if◌then◌else◌}
use Rattle.std.proofs.Common.{◌≡◌, ℕ, ◌+◌, ◌≤◌, Bool, true, false, cond, List, [], ◌∷◌, ◌++◌, Option, Some, None, refl, sym, ap, ◌∙◌, arith, eqb-true}
use Rattle.std.proofs.lemmas.Bool.{eq-eqb, ne_eqb}
use Rattle.run_schedules.specs.declared.holders.NamedRegistration.{NamedRegistration}
use Rattle.run_schedules.specs.Runs.Same.{is_same}
use Rattle.run_schedules.specs.Runs.Present.{Present, HaveNames, registration_of, registrations_named, registrations_on, has_registration, registers, unregisters}
use Rattle.run_schedules.proofs.Runs.Laws.{same_tells}

-- a slot has a registration exactly if their number is not zero
pub has_counted : (slot : ℕ) (registrations : List NamedRegistration) → has_registration slot registrations ≡ not (registrations_on slot registrations == 0)
has_counted slot [] = refl
has_counted slot (r ∷ registrations) = at (r.slot == slot) (has_counted slot registrations)
  where
    at : (b : Bool) → has_registration slot registrations ≡ not (registrations_on slot registrations == 0)
        → (b || has_registration slot registrations) ≡ not ((if b then 1 else 0) + registrations_on slot registrations == 0)
    at true ih = sym (ap not (ne_eqb (1 + registrations_on slot registrations) 0 (λ e. omega (arith, e))))
    at false ih = ih ∙ ap (λ (n : ℕ). not (n == 0)) (omega arith)

-- the slot of the one of a name
pub slot_found : (o : Option NamedRegistration) (slot : ℕ) → option_map (λ r. r.slot) o ≡ Some slot → (r : NamedRegistration) × (o ≡ Some r) × (r.slot ≡ slot)
slot_found None slot e = absurd (cc e)
slot_found (Some r) slot e = (r, refl, cc e)

-- how many registrations of a name are on this slot
abbrev pub registered_on : ℕ → List ℕ → List NamedRegistration → ℕ
registered_on slot name [] = 0
registered_on slot name (r ∷ registrations) = cond (is_same r.name name) (cond (r.slot == slot) 1 0) 0 + registered_on slot name registrations

none_registered : (slot : ℕ) (name : List ℕ) (registrations : List NamedRegistration) → registrations_named name registrations ≡ 0 → registered_on slot name registrations ≡ 0
none_registered slot name [] e = refl
none_registered slot name (r ∷ registrations) e = at (is_same r.name name) e (none_registered slot name registrations)
  where
    at : (b : Bool) → cond b 1 0 + registrations_named name registrations ≡ 0 → (registrations_named name registrations ≡ 0 → registered_on slot name registrations ≡ 0)
        → cond b (cond (r.slot == slot) 1 0) 0 + registered_on slot name registrations ≡ 0
    at true e ih = absurd (omega (arith, e))
    at false e ih = let a = ih (omega (arith, e)) in omega (arith, a)

pub the_registered : (slot : ℕ) (name : List ℕ) (registrations : List NamedRegistration) (r : NamedRegistration) → registration_of name registrations ≡ Some r → registrations_named name registrations ≤ 1
    → registered_on slot name registrations ≡ cond (r.slot == slot) 1 0
the_registered slot name [] r e l = absurd (cc e)
the_registered slot name (x ∷ registrations) r e l = at (is_same x.name name) e l (the_registered slot name registrations r) (none_registered slot name registrations)
  where
    at : (b : Bool) → cond b (Some x) (registration_of name registrations) ≡ Some r → cond b 1 0 + registrations_named name registrations ≤ 1
        → (registration_of name registrations ≡ Some r → registrations_named name registrations ≤ 1 → registered_on slot name registrations ≡ cond (r.slot == slot) 1 0)
        → (registrations_named name registrations ≡ 0 → registered_on slot name registrations ≡ 0)
        → cond b (cond (x.slot == slot) 1 0) 0 + registered_on slot name registrations ≡ cond (r.slot == slot) 1 0
    at true e l ih none =
        let same : x ≡ r = cc e in
        let a = none (omega (arith, l)) in
        let b = ap {B = ℕ} (λ (y : NamedRegistration). cond (y.slot == slot) 1 0) same in
        omega (arith, a, b)
    at false e l ih none = let a = ih e (omega (arith, l)) in omega (arith, a)

-- one less

less_on : (slot : ℕ) (name : List ℕ) (registrations : List NamedRegistration)
    → registrations_on slot (filter (λ r. not (is_same r.name name)) registrations) + registered_on slot name registrations ≡ registrations_on slot registrations
less_on slot name [] = refl
less_on slot name (r ∷ registrations) = at (is_same r.name name) (less_on slot name registrations)
  where
    rest : List NamedRegistration
    rest = filter (λ r. not (is_same r.name name)) registrations

    at : (b : Bool) → registrations_on slot rest + registered_on slot name registrations ≡ registrations_on slot registrations
        → registrations_on slot (cond (not b) (r ∷ rest) rest) + (cond b (cond (r.slot == slot) 1 0) 0 + registered_on slot name registrations)
        ≡ cond (r.slot == slot) 1 0 + registrations_on slot registrations
    at true ih = omega (arith, ih)
    at false ih = omega (arith, ih)

less_named : (other name : List ℕ) (registrations : List NamedRegistration)
    → registrations_named other (filter (λ r. not (is_same r.name name)) registrations) ≤ registrations_named other registrations
less_named other name [] = omega arith
less_named other name (r ∷ registrations) = at (is_same r.name name) (less_named other name registrations)
  where
    rest : List NamedRegistration
    rest = filter (λ r. not (is_same r.name name)) registrations

    at : (b : Bool) → registrations_named other rest ≤ registrations_named other registrations
        → registrations_named other (cond (not b) (r ∷ rest) rest) ≤ cond (is_same r.name other) 1 0 + registrations_named other registrations
    at true ih = omega (arith, ih)
    at false ih = omega (arith, ih)

module _ (name : List ℕ) (there : Present) (h : HaveNames there) where
  pub unregisters_named : HaveNames (unregisters name there)
  unregisters_named = record {
    guards = h.guards;
    registrations = λ other. let a = less_named other name there.registrations in let b = h.registrations other in omega (arith, a, b);
    slots = λ slot. let a = less_on slot name there.registrations in let b = h.slots slot in omega (arith, a, b);
  }

  -- its slot has no registration then, and other slots are as they were
  pub none_then : (r : NamedRegistration) → registration_of name there.registrations ≡ Some r → has_registration r.slot (unregisters name there).registrations ≡ false
  none_then r e =
      let a = less_on r.slot name there.registrations in
      let b = the_registered r.slot name there.registrations r e (h.registrations name) in
      let q = eq-eqb r.slot r.slot refl in
      let d = rw q at b in
      let k = h.slots r.slot in
      let z : registrations_on r.slot (unregisters name there).registrations ≡ 0 = omega (arith, a, d, k) in
      has_counted r.slot (unregisters name there).registrations ∙ ap (λ (n : ℕ). not (n == 0)) z

  pub others_then : (r : NamedRegistration) (t : ℕ) → registration_of name there.registrations ≡ Some r → (r.slot == t) ≡ false
      → has_registration t (unregisters name there).registrations ≡ has_registration t there.registrations
  others_then r t e ne =
      let a = less_on t name there.registrations in
      let b = the_registered t name there.registrations r e (h.registrations name) in
      let d = rw ne at b in
      let z : registrations_on t (unregisters name there).registrations ≡ registrations_on t there.registrations = omega (arith, a, d) in
      has_counted t (unregisters name there).registrations ∙ ap (λ (n : ℕ). not (n == 0)) z ∙ sym (has_counted t there.registrations)

  -- the slot of one that is found has a registration
  pub found_has : (r : NamedRegistration) → registration_of name there.registrations ≡ Some r → has_registration r.slot there.registrations ≡ true
  found_has r e =
      let a = less_on r.slot name there.registrations in
      let b = the_registered r.slot name there.registrations r e (h.registrations name) in
      let q = eq-eqb r.slot r.slot refl in
      let d = rw q at b in
      has_counted r.slot there.registrations ∙ ap not (ne_eqb (registrations_on r.slot there.registrations) 0 (λ z. omega (arith, a, d, z)))

-- one more

none_named : (name : List ℕ) (registrations : List NamedRegistration) → registration_of name registrations ≡ None → registrations_named name registrations ≡ 0
none_named name [] e = refl
none_named name (r ∷ registrations) e = at (is_same r.name name) e (none_named name registrations)
  where
    at : (b : Bool) → cond b (Some r) (registration_of name registrations) ≡ None → (registration_of name registrations ≡ None → registrations_named name registrations ≡ 0)
        → cond b 1 0 + registrations_named name registrations ≡ 0
    at true e ih = absurd (cc e)
    at false e ih = let a = ih e in omega (arith, a)

named_more : (name : List ℕ) (registrations : List NamedRegistration) (r : NamedRegistration)
    → registrations_named name (registrations ++ r ∷ []) ≡ registrations_named name registrations + cond (is_same r.name name) 1 0
named_more name [] r = omega arith
named_more name (x ∷ registrations) r = let ih = named_more name registrations r in omega (arith, ih)

pub on_more : (slot : ℕ) (registrations : List NamedRegistration) (r : NamedRegistration)
    → registrations_on slot (registrations ++ r ∷ []) ≡ registrations_on slot registrations + cond (r.slot == slot) 1 0
on_more slot [] r = omega arith
on_more slot (x ∷ registrations) r = let ih = on_more slot registrations r in omega (arith, ih)

module _ (name : List ℕ) (slot : ℕ) (there : Present) (h : HaveNames there) (none : registration_of name there.registrations ≡ None) where
  abbrev new : NamedRegistration
  new = record { name = name; slot = slot }

  more_named : (other : List ℕ) (b : Bool) → is_same name other ≡ b → registrations_named other (there.registrations ++ new ∷ []) ≤ 1
  more_named other true e =
      let a = none_named name there.registrations none in
      let same = ap (λ x. registrations_named x there.registrations) ((same_tells name other).0 e) in
      let c = named_more other there.registrations new in
      let d = rw e at c in
      omega (arith, a, same, d)
  more_named other false e = let l = h.registrations other in let c = named_more other there.registrations new in let d = rw e at c in omega (arith, l, d)

  more_on : registrations_on slot there.registrations ≡ 0 → (t : ℕ) (b : Bool) → (slot == t) ≡ b → registrations_on t (there.registrations ++ new ∷ []) ≤ 1
  more_on z t true e =
      let same = ap (λ (x : ℕ). registrations_on x there.registrations) (eqb-true slot t e) in
      let c = on_more t there.registrations new in
      let d = rw e at c in
      omega (arith, z, same, d)
  more_on z t false e = let l = h.slots t in let c = on_more t there.registrations new in let d = rw e at c in omega (arith, l, d)

  none_on : has_registration slot there.registrations ≡ false → registrations_on slot there.registrations ≡ 0
  none_on e = by (registrations_on slot there.registrations == 0) refl
    where
      by : (b : Bool) → (registrations_on slot there.registrations == 0) ≡ b → registrations_on slot there.registrations ≡ 0
      by true k = eqb-true (registrations_on slot there.registrations) 0 k
      by false k = absurd (let c : not false ≡ false = sym (ap not k) ∙ sym (has_counted slot there.registrations) ∙ e in cc c)

  pub registers_named : has_registration slot there.registrations ≡ false → HaveNames (registers name slot there)
  registers_named free = record {
    guards = h.guards;
    registrations = λ other. more_named other (is_same name other) refl;
    slots = λ t. more_on (none_on free) t (slot == t) refl;
  }

-- the new slot has one then, and other slots are as they were
pub has_more : (name : List ℕ) (slot : ℕ) (there : Present) (t : ℕ)
    → has_registration t (registers name slot there).registrations ≡ (if slot == t then true else has_registration t there.registrations)
has_more name slot there t = by (slot == t) refl
  where
    more : List NamedRegistration
    more = (registers name slot there).registrations

    by : (b : Bool) → (slot == t) ≡ b → has_registration t more ≡ (if b then true else has_registration t there.registrations)
    by true e =
        let c = on_more t there.registrations (record { name = name; slot = slot }) in
        let d = rw e at c in
        has_counted t more ∙ ap not (ne_eqb (registrations_on t more) 0 (λ z. omega (arith, d, z)))
    by false e =
        let c = on_more t there.registrations (record { name = name; slot = slot }) in
        let d = rw e at c in
        let z : registrations_on t more ≡ registrations_on t there.registrations = omega (arith, d) in
        has_counted t more ∙ ap (λ (n : ℕ). not (n == 0)) z ∙ sym (has_counted t there.registrations)
