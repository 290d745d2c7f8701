-- Slots that somebody is inside, as a test.
use Rattle.std.proofs.Common.{◌≡◌, ℕ, ◌+◌, ◌<◌, Bool, true, false, inl, inr, refl, ap}
use Rattle.std.proofs.lemmas.Bool.{cases_lt}
use Rattle.seize_model.specs.Given.SeizeDeclared.states.TheConstants.{LAST_SLOT}
use Rattle.seize_model.specs.Given.SeizeWorld.{World, Use, Vacant, Outside, Inside, Changing, IsInside}
use Rattle.seize_model.proofs.Given.SeizeMovesState.Ghost.{Never, emptied}
use Rattle.seize_model.proofs.Given.SeizeRuleRows.Teams.{UseFits}
use Rattle.seize_model.proofs.Alone.Histories.Reached.{Reached}
use Rattle.std.specs.Prelude.{Option}

abbrev pub is_inside : Use → Bool
is_inside (Inside k) = true
is_inside _ = false

pub inside_is : (u : Use) → IsInside u → is_inside u ≡ true
inside_is Vacant h = absurd h
inside_is (Outside k) h = absurd h
inside_is (Inside k) h = refl
inside_is Changing h = absurd h

pub is_inside_so : (u : Use) → is_inside u ≡ true → IsInside u
is_inside_so Vacant h = absurd (cc h)
is_inside_so (Outside k) h = absurd (cc h)
is_inside_so (Inside k) h = tt
is_inside_so Changing h = absurd (cc h)

module _ {T : Type 0} (defers : T → Option ℕ) (size : ℕ) (w : World T) (r : Reached defers size w) where
  -- there is such a slot
  pub inside_below : (s : ℕ) → IsInside (w.uses s) → s < LAST_SLOT + 1
  inside_below s h = elim (cases_lt s (LAST_SLOT + 1)) as (λ _. s < LAST_SLOT + 1) [
    | inl l ↦ l
    | inr l ↦ absurd (by (w.uses s) _ _ h (r.good.used.fits s) (ap emptied (r.good.inv.slots.outside s l)))
  ]
    where
      by : (u : Use) (k : ℕ) (now : Bool) → IsInside u → UseFits u (emptied (r.good.state.head s)) k now → emptied (r.good.state.head s) ≡ Never → ⊥
      by Vacant k now h f e = h
      by (Outside j) k now h f e = h
      by (Inside j) k now h f e = let a = f.0 in cc (a, e)
      by Changing k now h f e = h
