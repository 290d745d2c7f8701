-- Registrations: wrong plans for whoever loses one exchange, and memory that is refused.
use Rattle.std.specs.Prelude.{Option, Some, None, Err}
use Rattle.std.proofs.Common.{◌≡◌, ℕ, false, List, [], ◌∷◌, refl, arith, inl, inr, subst, sym}
use Rattle.seize_words.specs.declared.at.At.TheVariants.{Slot}
use Rattle.seize_words.specs.declared.fault.Fault.TheVariants.{SlotsUsedUp, Memory}
use Rattle.seize_words.specs.OneMemory.Op.{Out, Exchange, Exchanged}
use Rattle.seize_words.specs.OneMemory.Plan.{Plan, Then, Do, Now}
use Rattle.seize.specs.declared.states.TheConstants.{HEAD, IDLE}
use Rattle.seize.specs.declared.advance.Advance.{Advance}
use Rattle.seize.specs.declared.advance.Advance.TheVariants as progress
use Rattle.seize.specs.declared.rows.register.Register.{Register}
use Rattle.seize.specs.declared.rows.register.Registering.TheVariants as at
use Rattle.seize.specs.Register.{register_plan, taken, going, refused, can_be_taken}
use Rattle.seize.specs.World.{World, Rests, Registers, Register', at_start}
use Rattle.seize_acts.specs.Acts.Answers.{stepped}
use Rattle.seize_acts.specs.Acts.Acts.{Act, Begin, Step, AllDid, became}
use Rattle.seize_acts.specs.Acts.Waits.{AnotherHasIt}
use Rattle.seize_acts.specs.Acts.Refused.{IsRefused, FoundNoRoom, IsHadMeanwhile, Sometime, EachWasHad}
use Rattle.seize_acts.proofs.Samples.Acts.Base.{plain, after}
use Rattle.seize_words.proofs.General.{same_some}

-- Whoever loses one exchange is refused, as if no slot were left: refused by `UsedUpIfAllAreHad`.
abbrev gave_up : Register → Out ℕ → Then ℕ (Register × Advance ℕ)
gave_up c (Exchanged (Err found)) = Now (refused c SlotsUsedUp)
gave_up c out = taken c out

abbrev gives_up : Register → Plan ℕ (Register × Advance ℕ)
gives_up c = Do (Exchange (Slot c.slot HEAD) 0 IDLE) (gave_up c)

-- caller 1 has seen that slot 0 was never taken
abbrev first : World ℕ
first = after plain 1 (Begin 1 (Register' false) (Some 0) ∷ Step 1 None ∷ []) (at_start plain 1)

-- caller 0 begins and sees the same, and then caller 1 takes the slot
abbrev since : List (Act ℕ)
since = Begin 0 (Register' false) (Some 0) ∷ Step 0 None ∷ Step 1 None ∷ []

abbrev late : World ℕ
late = after plain 1 since first

so_it_went : (first.row 0 ≡ Rests) × AllDid plain 1 since first late
so_it_went = (refl, (_, (refl, tt), (_, (refl, tt), (_, (refl, tt), refl))))

abbrev loser : Register
loser = record { slot = 0; enters = false; stands = at.Take 0 }

-- its next step would be refused
is_refused : (late.row 0 ≡ Registers loser) × (stepped late.memory None (gives_up loser) ≡ Some (late.memory, refused loser SlotsUsedUp))
is_refused = (refl, refl)

-- but slot 1 was never had
abbrev IfThere : Option (World ℕ) → (World ℕ → Type 0) → Type 0
IfThere None Q = Unit {0}
IfThere (Some w) Q = Q w

abbrev Nowhere : (World ℕ → Type 0) → List (Act ℕ) → World ℕ → Type 0
Nowhere P [] w = P w → ⊥
Nowhere P (act ∷ acts) w = (P w → ⊥) × IfThere (became plain 1 act w) (Nowhere P acts)

never : (P : World ℕ → Type 0) (acts : List (Act ℕ)) (w : World ℕ) → Nowhere P acts w → Sometime plain 1 P acts w → ⊥
never P [] w h p = h p
never P (act ∷ acts) w h (inl p) = h.0 p
never P (act ∷ acts) w h (inr later) = never P acts later.0 (subst (λ (o : Option (World ℕ)). IfThere o (Nowhere P acts)) later.1.0 h.1) later.2

free_head : (head : ℕ) → Some 0 ≡ Some head → can_be_taken head ≡ false → ⊥
free_head head e had =
    let none : can_be_taken 0 ≡ false = subst (λ (h : ℕ). can_be_taken h ≡ false) (sym (same_some 0 head e)) had in cc none

loser_is_refused_wrongly : EachWasHad plain 1 0 since first → ⊥
loser_is_refused_wrongly each = never (IsHadMeanwhile 0 1) since first (
  (λ h. free_head h.1.0 h.1.1 h.1.2),
  (
    (λ h. free_head h.1.0 h.1.1 h.1.2),
    (
      (λ h. free_head h.1.0 h.1.1 h.1.2),
      (λ h. free_head h.1.0 h.1.1 h.1.2),
    ),
  ),
) (each 1 (omega arith))

-- The right plan looks at the next slot.
right_looks_on : stepped late.memory None (register_plan loser) ≡ Some (late.memory, going (record loser { slot = 1 }) at.Look)
right_looks_on = refl

-- Whoever loses one exchange waits for that slot: refused by `RowsWaitForAHolder`, since a registration waits for nobody.
abbrev stayed : Register → Out ℕ → Then ℕ (Register × Advance ℕ)
stayed c (Exchanged (Err found)) = Now (c, progress.Waits)
stayed c out = taken c out

abbrev stays : Register → Plan ℕ (Register × Advance ℕ)
stays c = Do (Exchange (Slot c.slot HEAD) 0 IDLE) (stayed c)

would_wait : stepped late.memory None (stays loser) ≡ Some (late.memory, (loser, progress.Waits))
would_wait = refl

stays_is_refused : AnotherHasIt plain late 0 → ⊥
stays_is_refused h = h.2

-- The memory has no room for the first bucket: the registration is refused, and the act says why.
abbrev roomless : Act ℕ
roomless = Begin 0 (Register' false) None

no_memory : IsRefused plain 1 0 roomless (at_start plain 1) Memory × FoundNoRoom plain 1 roomless (at_start plain 1)
no_memory = ((refl, refl, _, refl, (_, _, refl)), (refl, 0, refl))

-- wrong: the memory has no room for a bucket that is there
there_already : became plain 1 (Begin 0 (Register' false) None) first ≡ None
there_already = refl
