-- The first vacant slot: the one that is vacant and has none before it.
use Rattle.std.specs.Prelude.{Option, Some, None}
use Rattle.std.proofs.Common.{◌≡◌, ℕ, zero, suc, ◌+◌, ◌<◌, ◌≤◌, ◌⊎◌, inl, inr, refl, arith, sym, ap, ◌∙◌}
use Rattle.std.proofs.lemmas.Bool.{cases_eq}
use Rattle.seize.specs.declared.states.TheConstants.{LAST_SLOT}
use Rattle.seize.specs.World.{Use, Vacant, Outside, Inside, Changing}
use Rattle.seize.specs.Sequence.{this_or, first_vacant, new_slot}

-- none of the slots from this one on, up to that one, is vacant
abbrev pub NoneVacant : (ℕ → Use) → ℕ → ℕ → Type 0
NoneVacant uses s k = (t : ℕ) → s ≤ t → t < k → uses t ≡ Vacant → ⊥

pub none_more : (uses : ℕ → Use) (s k : ℕ) → NoneVacant uses s k → (uses k ≡ Vacant → ⊥) → NoneVacant uses s (k + 1)
none_more uses s k none here t le lt e = elim (cases_eq t k) as (λ _. ⊥) [
  | inl same ↦ here (ap uses (sym same) ∙ e)
  | inr other ↦ none t le (omega (arith, lt, other)) e
]

not_this : (u : Use) (s : ℕ) (later : Option ℕ) → (u ≡ Vacant → ⊥) → this_or u s later ≡ later
not_this Vacant s later h = absurd (h refl)
not_this (Outside n) s later h = refl
not_this (Inside n) s later h = refl
not_this Changing s later h = refl

pub first_vacant_is : (slots s k : ℕ) (uses : ℕ → Use) → s ≤ k → k < s + slots → NoneVacant uses s k → uses k ≡ Vacant → first_vacant slots s uses ≡ Some k
first_vacant_is zero s k uses le lt none here = absurd (omega (arith, le, lt))
first_vacant_is (suc slots) s k uses le lt none here = elim (cases_eq s k) as (λ _. first_vacant (suc slots) s uses ≡ Some k) [
  | inl same ↦ ap (λ (u : Use). this_or u s (first_vacant slots (s + 1) uses)) (ap uses same ∙ here) ∙ ap Some same
  | inr other ↦
      not_this (uses s) s (first_vacant slots (s + 1) uses) (none s (omega arith) (omega (arith, le, other)))
      ∙ first_vacant_is slots (s + 1) k uses (omega (arith, le, other)) (omega (arith, lt)) (λ t a b. none t (omega (arith, a)) b) here
]

pub first_vacant_none : (slots s : ℕ) (uses : ℕ → Use) → NoneVacant uses s (s + slots) → first_vacant slots s uses ≡ None
first_vacant_none zero s uses none = refl
first_vacant_none (suc slots) s uses none =
    not_this (uses s) s (first_vacant slots (s + 1) uses) (none s (omega arith) (omega arith))
    ∙ first_vacant_none slots (s + 1) uses (λ t a b. none t (omega (arith, a)) (omega (arith, b)))

-- and what it says of the slots
pub record First (slots s : ℕ) (uses : ℕ → Use) (k : ℕ) : Type 0 where
  pub from : s ≤ k
  pub below : k < s + slots
  pub none : NoneVacant uses s k
  pub vacant : uses k ≡ Vacant

says_later : (slots s k : ℕ) (uses : ℕ → Use) → (uses s ≡ Vacant → ⊥) → First slots (s + 1) uses k → First (suc slots) s uses k
says_later slots s k uses ne r = record {
  from = (let a = r.from in omega (arith, a));
  below = (let a = r.below in omega (arith, a));
  none = λ t a b v. (elim (cases_eq t s) as (λ _. ⊥) [
    | inl same ↦ ne (ap uses (sym same) ∙ v)
    | inr other ↦ r.none t (omega (arith, a, other)) b v
  ]);
  vacant = r.vacant;
}

says_now : (slots s k : ℕ) (uses : ℕ → Use) → uses s ≡ Vacant → s ≡ k → First (suc slots) s uses k
says_now slots s k uses v same = record {
  from = omega (arith, same);
  below = omega (arith, same);
  none = λ t a b. absurd (omega (arith, same, a, b));
  vacant = ap uses (sym same) ∙ v;
}

-- whichever use the slot has
by_use : (u : Use) (s k : ℕ) (later : Option ℕ) → this_or u s later ≡ Some k → ((u ≡ Vacant) × (s ≡ k)) ⊎ ((u ≡ Vacant → ⊥) × (later ≡ Some k))
by_use Vacant s k later e = inl (refl, cc e)
by_use (Outside n) s k later e = inr (λ z. cc z, e)
by_use (Inside n) s k later e = inr (λ z. cc z, e)
by_use Changing s k later e = inr (λ z. cc z, e)

none_by_use : (u : Use) (s : ℕ) (later : Option ℕ) → this_or u s later ≡ None → (u ≡ Vacant → ⊥) × (later ≡ None)
none_by_use Vacant s later e = absurd (cc e)
none_by_use (Outside n) s later e = (λ z. cc z, e)
none_by_use (Inside n) s later e = (λ z. cc z, e)
none_by_use Changing s later e = (λ z. cc z, e)

pub first_vacant_says : (slots s k : ℕ) (uses : ℕ → Use) → first_vacant slots s uses ≡ Some k → First slots s uses k
first_vacant_says zero s k uses e = absurd (cc e)
first_vacant_says (suc slots) s k uses e = elim (by_use (uses s) s k (first_vacant slots (s + 1) uses) e) as (λ _. First (suc slots) s uses k) [
  | inl h ↦ says_now slots s k uses h.0 h.1
  | inr h ↦ says_later slots s k uses h.0 (first_vacant_says slots (s + 1) k uses h.1)
]

pub first_vacant_says_none : (slots s : ℕ) (uses : ℕ → Use) → first_vacant slots s uses ≡ None → NoneVacant uses s (s + slots)
first_vacant_says_none zero s uses e t a b v = omega (arith, a, b)
first_vacant_says_none (suc slots) s uses e t a b v =
    let h = none_by_use (uses s) s (first_vacant slots (s + 1) uses) e in
    elim (cases_eq t s) as (λ _. ⊥) [
      | inl same ↦ h.0 (ap uses (sym same) ∙ v)
      | inr other ↦ first_vacant_says_none slots (s + 1) uses h.1 t (omega (arith, a, other)) (omega (arith, b)) v
    ]

-- the slot that a row takes which registers now

pub new_slot_is : (n s : ℕ) (uses : ℕ → Use) → n ≡ LAST_SLOT + 1 → s < n → NoneVacant uses 0 s → uses s ≡ Vacant → new_slot uses ≡ Some s
new_slot_is n s uses last lt none here = ap (λ k. first_vacant k 0 uses) (sym last) ∙ first_vacant_is n 0 s uses (omega arith) (omega (arith, lt)) none here

pub new_slot_none : (n s : ℕ) (uses : ℕ → Use) → n ≡ LAST_SLOT + 1 → n ≤ s → NoneVacant uses 0 s → new_slot uses ≡ None
new_slot_none n s uses last le none = ap (λ k. first_vacant k 0 uses) (sym last) ∙ first_vacant_none n 0 uses (λ t a b. none t a (omega (arith, b, le)))

pub new_slot_vacant : (s : ℕ) (uses : ℕ → Use) → new_slot uses ≡ Some s → uses s ≡ Vacant
new_slot_vacant s uses e = (first_vacant_says (LAST_SLOT + 1) 0 s uses e).vacant
