-- Which row an event of guards and registrations is to the waiting sets.
use Rattle.std.specs.Prelude.{◌==◌, if◌then◌else◌, Some}
use Rattle.std.proofs.Common.{◌≡◌, ◌≢◌, ℕ, Bool, List, [], ◌∷◌, refl, ap, sym, ◌∙◌}
use Rattle.std.proofs.lemmas.Bool.{eq-eqb, ne_eqb}
use Rattle.seize.specs.Sequence.{new_slot, entered_as, entered_at, changes}
use Rattle.seize.specs.WaitingSets.{Change, Enters, Leaves, Refreshes}
use Rattle.seize.specs.World.{Use, Vacant, Outside, Inside, Changing, IsInside, Register'}
use Rattle.run_executor.proofs.Given.SeizeSetsSlots.Least.{refused_changes}
use Rattle.run_schedules.specs.Runs.Present.{slot_of_registration, slot_of_guard}
use Rattle.run_kept.specs.Models.Rows.{guards_at, EventsAreRows}

-- one guard more or less is on a slot
if_so : (n k : ℕ) (xs : List Change) → n ≡ k → (if n == k then xs else []) ≡ xs
if_so n k xs is = ap (λ (q : Bool). if q then xs else []) (eq-eqb n k is)

if_not : (n k : ℕ) (xs : List Change) → n ≢ k → (if n == k then xs else []) ≡ []
if_not n k xs not = ap (λ (q : Bool). if q then xs else []) (ne_eqb n k not)

not_inside : (s : ℕ) (u : Use) → (IsInside u → ⊥) → entered_as s u ≡ []
not_inside s Vacant none = refl
not_inside s (Outside n) none = refl
not_inside s (Inside n) none = absurd (none tt)
not_inside s Changing none = refl

inside : (s : ℕ) (u : Use) → IsInside u → entered_as s u ≡ Enters s ∷ []
inside s Vacant is = absurd is
inside s (Outside n) is = absurd is
inside s (Inside n) is = refl
inside s Changing is = absurd is

module _ (before after : ℕ → Use) where
  registered : (s : ℕ) → new_slot before ≡ Some s → (enters : Bool) → changes (Register' enters) before after ≡ entered_as s (after s)
  registered s new enters = ap (λ o. entered_at o after) new

  refused : (enters : Bool) → after ≡ before → changes (Register' enters) before after ≡ []
  refused enters same = ap (changes (Register' enters) before) same ∙ refused_changes enters before

pub events_are_rows : (K V : Type 0) → EventsAreRows K V
events_are_rows K V m = (
  λ before after. record {
    registers = λ enters registration s new none. sym (registered before after s new enters ∙ not_inside s (after s) none);
    owns = λ enters guard s new is. sym (registered before after s new enters ∙ inside s (after s) is);
    not_registered = λ enters registration fault same. sym (refused before after enters same);
    not_owned = λ enters guard fault same. sym (refused before after enters same);
    unregisters = λ registration s. refl;
    enters = λ guard registration none. if_so (guards_at m (slot_of_registration registration m.there)) 0 (Enters (slot_of_registration registration m.there) ∷ []) none;
    leaves = λ guard one. if_so (guards_at m (slot_of_guard guard m.there)) 1 (Leaves (slot_of_guard guard m.there) ∷ []) one;
    leaves_owned = λ guard one. if_so (guards_at m (slot_of_guard guard m.there)) 1 (Leaves (slot_of_guard guard m.there) ∷ []) one;
    refreshes = λ guard one. if_so (guards_at m (slot_of_guard guard m.there)) 1 (Refreshes (slot_of_guard guard m.there) ∷ []) one;
    flushes = λ guard. refl;
  },
  record {
    enters = λ guard registration some. if_not (guards_at m (slot_of_registration registration m.there)) 0 (Enters (slot_of_registration registration m.there) ∷ []) some;
    leaves = λ guard other. if_not (guards_at m (slot_of_guard guard m.there)) 1 (Leaves (slot_of_guard guard m.there) ∷ []) other;
    refreshes = λ guard other. if_not (guards_at m (slot_of_guard guard m.there)) 1 (Refreshes (slot_of_guard guard m.there) ∷ []) other;
    forgets = λ guard. refl;
  },
)
