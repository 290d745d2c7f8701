-- Registering ends, whatever others do: a number that each of its steps lowers, save the last.
use Rattle.std.specs.Prelude.{Option, Some, None, ◌*◌, ◌-◌, nat_lt, if◌then◌else◌}
use Rattle.std.proofs.Common.{◌≡◌, ℕ, ◌+◌, ◌<◌, ◌≤◌, Bool, true, false, inl, inr, refl, arith, subst, sym}
use Rattle.seize.specs.Given.SeizeWordsDeclared.at.At.TheVariants as at
use Rattle.seize.specs.Given.SeizeWordsDeclared.fault.Fault.TheVariants.{Memory, SlotsUsedUp}
use Rattle.seize.specs.Given.SeizeWordsMem.{Mem, value_at, Took}
use Rattle.seize.specs.Given.SeizeWordsPlan.{Steps, Now}
use Rattle.seize.proofs.Given.SeizeWordsOneOwner.Operations.{loaded, stored, exchanged, roomed}
use Rattle.seize.specs.declared.states.TheConstants.{HEAD, IDLE, ACTIVE, LAST_SLOT}
use Rattle.seize.specs.declared.advance.Advance.{Advance}
use Rattle.seize.specs.declared.advance.Advance.TheVariants.{Goes, Waits, Done, Refused}
use Rattle.seize.specs.declared.rows.register.Register.{Register}
use Rattle.seize.specs.declared.rows.register.Registering.{Registering}
use Rattle.seize.specs.declared.rows.register.Registering.TheVariants as stands
use Rattle.seize.specs.Register.{begun, looked, widened, taken, further, taking, going, refused, registered, can_be_taken, bucket_needed, plan_at, register_plan}

-- three steps at most a slot
abbrev pub to_go : ℕ → Registering → ℕ
to_go s stands.Begin = 3 * (LAST_SLOT - s) + 5
to_go s stands.Look = 3 * (LAST_SLOT - s) + 4
to_go s (stands.Widen bucket seen) = 3 * (LAST_SLOT - s) + 3
to_go s (stands.Take seen) = 3 * (LAST_SLOT - s) + 2
to_go s stands.Enter = 1
to_go s stands.Registered = 0
to_go s (stands.Refused fault) = 0

abbrev pub register_to_go : Register → ℕ
register_to_go c = to_go c.slot c.stands

-- the row goes on after this step
abbrev pub IsUnderWay : Advance ℕ → Type 0
IsUnderWay Goes = Unit {0}
IsUnderWay Waits = Unit {0}
IsUnderWay (Done s) = ⊥
IsUnderWay (Refused fault) = ⊥

-- if it goes on, less is left
abbrev Less : ℕ → Register × Advance ℕ → Type 0
Less k end = IsUnderWay end.1 → register_to_go end.0 < k

less_as : (k : ℕ) (end want : Register × Advance ℕ) → end ≡ want → Less k want → Less k end
less_as k end want e h = subst (λ (q : Register × Advance ℕ). Less k q) (sym e) h

less_further : (s : ℕ) → nat_lt s LAST_SLOT ≡ true → 3 * (LAST_SLOT - (s + 1)) + 4 < 3 * (LAST_SLOT - s) + 2
less_further s h = let k : s < LAST_SLOT = grind arith in omega (arith, k)

further_less : (c : Register) (k : ℕ) → 3 * (LAST_SLOT - c.slot) + 2 ≤ k → (t : Bool) → nat_lt c.slot LAST_SLOT ≡ t
    → Less k (if t then going (record c { slot = c.slot + 1 }) stands.Look else refused c SlotsUsedUp)
further_less c k le true e u = let h = less_further c.slot e in omega (arith, h, le)
further_less c k le false e u = absurd u

taking_less : (c : Register) (seen : ℕ) (o : Option ℕ) → Less (to_go c.slot stands.Look) (taking c seen o)
taking_less c seen (Some bucket) u = omega arith
taking_less c seen None u = omega arith

looked_less : (c : Register) (seen : ℕ) (t : Bool) → Less (to_go c.slot stands.Look) (if t then taking c seen (bucket_needed c.slot) else further c)
looked_less c seen true = taking_less c seen (bucket_needed c.slot)
looked_less c seen false = further_less c (to_go c.slot stands.Look) (omega arith) (nat_lt c.slot LAST_SLOT) refl

taken_less : (c : Register) (seen : ℕ) (t : Bool) → Less (to_go c.slot (stands.Take seen)) (if t then going c stands.Enter else registered c)
taken_less c seen true u = omega arith
taken_less c seen false u = absurd u

module _ {T : Type 0} (m : Mem T) (c : Register) where
  ends_at : (p : Registering) (m2 : Mem T) (end : Register × Advance ℕ) → Steps Took value_at m (plan_at c p) m2 end → Less (to_go c.slot p) end
  ends_at stands.Begin m2 end st = elim (roomed m (begun c) 0 m2 end st) as (λ _. Less (to_go c.slot stands.Begin) end) [
    | inl d ↦ less_as (to_go c.slot stands.Begin) end (going c stands.Look) d.1 (λ u. omega arith)
    | inr d ↦ less_as (to_go c.slot stands.Begin) end (refused c Memory) d.1 (λ u. absurd u)
  ]
  ends_at stands.Look m2 end st =
      let d = loaded m (looked c) (at.Slot c.slot HEAD) m2 end st in
      less_as (to_go c.slot stands.Look) end (if can_be_taken d.0 then taking c d.0 (bucket_needed c.slot) else further c) d.3 (looked_less c d.0 (can_be_taken d.0))
  ends_at (stands.Widen bucket seen) m2 end st = elim (roomed m (widened c seen) bucket m2 end st) as (λ _. Less (to_go c.slot (stands.Widen bucket seen)) end) [
    | inl d ↦ less_as (to_go c.slot (stands.Widen bucket seen)) end (going c (stands.Take seen)) d.1 (λ u. omega arith)
    | inr d ↦ less_as (to_go c.slot (stands.Widen bucket seen)) end (refused c Memory) d.1 (λ u. absurd u)
  ]
  ends_at (stands.Take seen) m2 end st = elim (exchanged m (taken c) (at.Slot c.slot HEAD) seen IDLE m2 end st) as (λ _. Less (to_go c.slot (stands.Take seen)) end) [
    | inl d ↦ less_as (to_go c.slot (stands.Take seen)) end (if c.enters then going c stands.Enter else registered c) d.3 (taken_less c seen c.enters)
    | inr d ↦ less_as (to_go c.slot (stands.Take seen)) end (further c) d.3 (further_less c (to_go c.slot (stands.Take seen)) (omega arith) (nat_lt c.slot LAST_SLOT) refl)
  ]
  ends_at stands.Enter m2 end st =
      let d = stored {R = Register × Advance ℕ} m (λ out. Now (registered c)) (at.Slot c.slot HEAD) ACTIVE m2 end st in
      less_as (to_go c.slot stands.Enter) end (registered c) d.1 (λ u. absurd u)
  ends_at stands.Registered m2 end st = less_as 0 end (c, Done c.slot) st.1 (λ u. absurd u)
  ends_at (stands.Refused fault) m2 end st = less_as 0 end (c, Refused fault) st.1 (λ u. absurd u)

  -- a step after which it goes on lowers the number
  pub register_ends : (m2 : Mem T) (end : Register × Advance ℕ) → Steps Took value_at m (register_plan c) m2 end → IsUnderWay end.1 → register_to_go end.0 < register_to_go c
  register_ends m2 end st = ends_at c.stands m2 end st
