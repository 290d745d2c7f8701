-- What is counted of registrations and guards, where one comes or leaves.
use Rattle.std.specs.Prelude.{◌==◌, ◌&&◌, ◌||◌, not, nat_lt, if◌then◌else◌}
use Rattle.std.proofs.Common.{◌≡◌, ℕ, ◌+◌, ◌≤◌, Bool, true, false, List, [], ◌∷◌, ◌++◌, length, refl, sym, ap, arith, ◌∙◌}
use Rattle.run_schedules.specs.declared.holders.NamedGuard.{NamedGuard}
use Rattle.run_schedules.specs.declared.holders.NamedRegistration.{NamedRegistration}
use Rattle.run_schedules.specs.Runs.Present.{all_forgotten, guards_on, has_registration, living_on, registrations_on}
use Rattle.run_names.specs.Presence.Crowd.{is_living, weigh}
use Rattle.run_names.proofs.Presence.Crowds.Guards.{is_on, lives_on, living_weighed, on_weighed, lives}
use Rattle.run_names.proofs.Presence.Crowds.Weights.{weigh_few, weigh_more}
use Rattle.seize_words.proofs.General.{equal_itself as same_slot}

abbrev pub has_slot : ℕ → NamedRegistration → ℕ
has_slot slot r = if r.slot == slot then 1 else 0

pub slots_weighed : (slot : ℕ) (registrations : List NamedRegistration) → registrations_on slot registrations ≡ weigh (has_slot slot) registrations
slots_weighed slot [] = refl
slots_weighed slot (r ∷ registrations) = ap (λ n. has_slot slot r + n) (slots_weighed slot registrations)

-- whether there are some
some : (b rest : Bool) (n : ℕ) → nat_lt 0 n ≡ rest → nat_lt 0 ((if b then 1 else 0) + n) ≡ (b || rest)
some true rest n e = one n
  where
    one : (m : ℕ) → nat_lt 0 (1 + m) ≡ true
    one m = grind arith
some false rest n e = let z : 0 + n ≡ n = omega arith in ap (λ m. nat_lt 0 m) z ∙ e

pub some_registered : (slot : ℕ) (registrations : List NamedRegistration) → nat_lt 0 (registrations_on slot registrations) ≡ has_registration slot registrations
some_registered slot [] = refl
some_registered slot (r ∷ registrations) = some (r.slot == slot) (has_registration slot registrations) (registrations_on slot registrations)
    (some_registered slot registrations)

none : (b rest : Bool) (n : ℕ) → (n == 0) ≡ rest → (((if b then 0 else 1) + n) == 0) ≡ (b && rest)
none true rest n e = let z : 0 + n ≡ n = omega arith in ap (λ m. m == 0) z ∙ e
none false rest n e = one n
  where
    one : (m : ℕ) → (1 + m == 0) ≡ false
    one m = grind arith

pub none_lives : (guards : List NamedGuard) → (weigh is_living guards == 0) ≡ all_forgotten guards
none_lives [] = refl
none_lives (g ∷ guards) = none g.forgotten (all_forgotten guards) (weigh is_living guards) (none_lives guards)

-- no more than there are
one_at_most : (b : Bool) → (if b then 1 else 0) ≤ 1
one_at_most true = omega arith
one_at_most false = omega arith

one_at_most_not : (b : Bool) → (if b then 0 else 1) ≤ 1
one_at_most_not true = omega arith
one_at_most_not false = omega arith

pub few_registered : (slot : ℕ) (registrations : List NamedRegistration) → registrations_on slot registrations ≤ length registrations
few_registered slot registrations =
    omega (arith, slots_weighed slot registrations, weigh_few (has_slot slot) (λ r. one_at_most (r.slot == slot)) registrations)

pub few_held : (slot : ℕ) (guards : List NamedGuard) → guards_on slot guards ≤ length guards
few_held slot guards = omega (arith, on_weighed slot guards, weigh_few (is_on slot) (λ g. one_at_most (g.slot == slot)) guards)

pub few_living : (slot : ℕ) (guards : List NamedGuard) → living_on slot guards ≤ length guards
few_living slot guards = omega (arith, living_weighed slot guards, weigh_few (lives_on slot) (λ g. one_at_most ((g.slot == slot) && not g.forgotten)) guards)

pub few_all : (guards : List NamedGuard) → weigh is_living guards ≤ length guards
few_all guards = weigh_few is_living (λ g. one_at_most_not g.forgotten) guards

-- one more

pub registered_more : (slot : ℕ) (registrations : List NamedRegistration) (r : NamedRegistration)
    → registrations_on slot (registrations ++ r ∷ []) ≡ (if r.slot == slot then 1 else 0) + registrations_on slot registrations
registered_more slot registrations r =
    slots_weighed slot (registrations ++ r ∷ []) ∙ weigh_more (has_slot slot) registrations r
    ∙ ap (λ n. has_slot slot r + n) (sym (slots_weighed slot registrations))

pub held_more : (slot : ℕ) (guards : List NamedGuard) (g : NamedGuard) → guards_on slot (guards ++ g ∷ []) ≡ (if g.slot == slot then 1 else 0) + guards_on slot guards
held_more slot guards g = on_weighed slot (guards ++ g ∷ []) ∙ weigh_more (is_on slot) guards g ∙ ap (λ n. is_on slot g + n) (sym (on_weighed slot guards))

abbrev one_if : Bool → ℕ
one_if b = if b then 1 else 0

both : (same was : Bool) → lives same was ≡ (if same then one_if (not was) else 0)
both true was = refl
both false was = refl

pub living_more : (slot : ℕ) (guards : List NamedGuard) (g : NamedGuard) → g.forgotten ≡ false
    → living_on slot (guards ++ g ∷ []) ≡ (if g.slot == slot then 1 else 0) + living_on slot guards
living_more slot guards g e =
    living_weighed slot (guards ++ g ∷ []) ∙ weigh_more (lives_on slot) guards g
    ∙ ap (λ n. n + weigh (lives_on slot) guards) (both (g.slot == slot) g.forgotten ∙ ap (λ (b : Bool). if g.slot == slot then one_if (not b) else 0) e)
    ∙ ap (λ n. one_if (g.slot == slot) + n) (sym (living_weighed slot guards))

pub all_more : (guards : List NamedGuard) (g : NamedGuard) → g.forgotten ≡ false → weigh is_living (guards ++ g ∷ []) ≡ 1 + weigh is_living guards
all_more guards g e = weigh_more is_living guards g ∙ ap (λ (b : Bool). (if b then 0 else 1) + weigh is_living guards) e

-- one less

other_way : (was : Bool) → one_if (not was) ≡ (if was then 0 else 1)
other_way true = refl
other_way false = refl

pub registered_less : (r : NamedRegistration) (old new : List NamedRegistration) → ((weight : NamedRegistration → ℕ) → weight r + weigh weight new ≡ weigh weight old)
    → (slot : ℕ)
    → one_if (r.slot == slot) + registrations_on slot new ≡ registrations_on slot old
registered_less r old new weights slot =
    ap (λ n. one_if (r.slot == slot) + n) (slots_weighed slot new) ∙ weights (has_slot slot) ∙ sym (slots_weighed slot old)

pub registered_one : (r : NamedRegistration) (old new : List NamedRegistration) → ((weight : NamedRegistration → ℕ) → weight r + weigh weight new ≡ weigh weight old)
    → 1 + registrations_on r.slot new ≡ registrations_on r.slot old
registered_one r old new weights = ap (λ (b : Bool). one_if b + registrations_on r.slot new) (sym (same_slot r.slot)) ∙ registered_less r old new weights r.slot

module _ (g : NamedGuard) (old new : List NamedGuard) (weights : (weight : NamedGuard → ℕ) → weight g + weigh weight new ≡ weigh weight old) where
  pub held_less : (slot : ℕ) → one_if (g.slot == slot) + guards_on slot new ≡ guards_on slot old
  held_less slot = ap (λ n. one_if (g.slot == slot) + n) (on_weighed slot new) ∙ weights (is_on slot) ∙ sym (on_weighed slot old)

  pub held_one : 1 + guards_on g.slot new ≡ guards_on g.slot old
  held_one = ap (λ (b : Bool). one_if b + guards_on g.slot new) (sym (same_slot g.slot)) ∙ held_less g.slot

  pub living_less : (slot : ℕ) → (if g.slot == slot then one_if (not g.forgotten) else 0) + living_on slot new ≡ living_on slot old
  living_less slot =
      ap (λ n. n + living_on slot new) (sym (both (g.slot == slot) g.forgotten)) ∙ ap (λ n. lives_on slot g + n) (living_weighed slot new)
      ∙ weights (lives_on slot) ∙ sym (living_weighed slot old)

  pub living_one : one_if (not g.forgotten) + living_on g.slot new ≡ living_on g.slot old
  living_one = ap (λ (b : Bool). (if b then one_if (not g.forgotten) else 0) + living_on g.slot new) (sym (same_slot g.slot)) ∙ living_less g.slot

  pub all_less : one_if (not g.forgotten) + weigh is_living new ≡ weigh is_living old
  all_less = ap (λ n. n + weigh is_living new) (other_way g.forgotten) ∙ weights is_living
