-- Which slots are in use, by registrations and guards.
use Rattle.std.specs.Prelude.{◌==◌, ◌||◌, not, map, if◌then◌else◌}
use Rattle.std.proofs.Common.{◌≡◌, ℕ, ◌+◌, Bool, true, false, List, [], ◌∷◌, refl, sym, ap, ◌∙◌, arith, eqb-true}
use Rattle.std.proofs.lemmas.Bool.{eq-eqb, ne_eqb}
use Rattle.run_schedules.specs.declared.holders.NamedGuard.{NamedGuard}
use Rattle.run_schedules.specs.declared.holders.NamedRegistration.{NamedRegistration}
use Rattle.run_schedules.specs.Runs.Present.{Present, guards_on, has_registration}
use Rattle.run_schedules.specs.Schedules.InUse.{used_slots}
use Rattle.run_schedules.specs.Schedules.Lists.{is_among}
use Rattle.run_shows.specs.declared.row.SlotUse.{SlotUse}
use Rattle.run_shows.specs.declared.row.SlotUse.TheVariants as used
use Rattle.run_logged.specs.Rows.Rows.{used_as}
use Rattle.run_kept.proofs.Given.RemainsLists.{among_append as among_both}

eqb_turned : (a b : ℕ) → (a == b) ≡ (b == a)
eqb_turned a b = by (b == a) refl
  where
    by : (q : Bool) → (b == a) ≡ q → (a == b) ≡ q
    by true k = eq-eqb a b (sym (eqb-true b a k))
    by false k = ne_eqb a b (λ is. (let c = eq-eqb b a (sym is) in cc (c, k)))

among_registered : (t : ℕ) (registrations : List NamedRegistration) → is_among t (map (λ r. r.slot) registrations) ≡ has_registration t registrations
among_registered t [] = refl
among_registered t (r ∷ registrations) =
    ap (λ (b : Bool). b || is_among t (map (λ x. x.slot) registrations)) (eqb_turned t r.slot) ∙ ap (λ (b : Bool). (r.slot == t) || b) (among_registered t registrations)

among_guards : (t : ℕ) (guards : List NamedGuard) → is_among t (map (λ g. g.slot) guards) ≡ not (guards_on t guards == 0)
among_guards t [] = refl
among_guards t (g ∷ guards) =
    ap (λ (b : Bool). b || is_among t (map (λ x. x.slot) guards)) (eqb_turned t g.slot) ∙ by (g.slot == t) (among_guards t guards)
  where
    by : (b : Bool) → is_among t (map (λ x. x.slot) guards) ≡ not (guards_on t guards == 0)
        → (b || is_among t (map (λ x. x.slot) guards)) ≡ not ((if b then 1 else 0) + guards_on t guards == 0)
    by true ih = sym (ap not (ne_eqb (1 + guards_on t guards) 0 (λ z. omega (arith, z))))
    by false ih = ih ∙ ap (λ (n : ℕ). not (n == 0)) (omega arith)

-- a slot is in use that has a registration, or on which a guard is
pub among_used : (t : ℕ) (there : Present) → is_among t (used_slots there) ≡ (has_registration t there.registrations || not (guards_on t there.guards == 0))
among_used t there =
    among_both t (map (λ r. r.slot) there.registrations) (map (λ g. g.slot) there.guards)
    ∙ ap (λ (b : Bool). b || is_among t (map (λ g. g.slot) there.guards)) (among_registered t there.registrations)
    ∙ ap (λ (b : Bool). has_registration t there.registrations || b) (among_guards t there.guards)

-- how it is used then
abbrev pub use_by : Bool → Bool → SlotUse
use_by free has = if free then (if has then used.Outside else used.Vacant) else used.Inside

pub unused_by : (free has : Bool) → use_by free has ≡ used.Vacant → (has || not free) ≡ false
unused_by true true is = absurd (cc is)
unused_by true false is = refl
unused_by false has is = absurd (cc is)

pub used_by : (free has : Bool) → (use_by free has ≡ used.Vacant → ⊥) → (has || not free) ≡ true
used_by true true not_so = refl
used_by true false not_so = absurd (not_so refl)
used_by false true not_so = refl
used_by false false not_so = refl

-- no guard is on a vacant slot, and it has no registration
free_by : (free has : Bool) → use_by free has ≡ used.Vacant → (free ≡ true) × (has ≡ false)
free_by true true is = absurd (cc is)
free_by true false is = (refl, refl)
free_by false has is = absurd (cc is)

pub vacant_free : (t : ℕ) (there : Present) → used_as t there ≡ used.Vacant → (guards_on t there.guards ≡ 0) × (has_registration t there.registrations ≡ false)
vacant_free t there is =
    let both = free_by (guards_on t there.guards == 0) (has_registration t there.registrations) is in
    (eqb-true (guards_on t there.guards) 0 both.0, both.1)
