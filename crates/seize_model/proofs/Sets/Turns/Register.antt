-- A row that registers: which slot it has taken, and what the state shows then.
use Rattle.std.proofs.Common.{◌≡◌, ℕ, Bool, true, false, List, refl, subst, sym, ap, ◌∙◌}
use Rattle.seize.specs.declared.rows.register.Register.{Register}
use Rattle.seize.specs.declared.rows.register.Registering.{Registering}
use Rattle.seize.specs.declared.rows.register.Registering.TheVariants as registering
use Rattle.seize.specs.WaitingSets.{Sets, Enters as EntersSet, changed}
use Rattle.seize.specs.World.{Row, Rests, Registers, Enters, Settles, Leaves, Defers, Frees, Use, Vacant, Outside, Inside, with_at}
use Rattle.seize_rule.proofs.Given.SeizeMovesState.Ghost.{State}
use Rattle.seize_rule.proofs.Given.SeizeMovesSets.Unmoved.{Unmoved}
use Rattle.seize_rule.proofs.Rows.Told.{RowTold, SettleGoes, SettleEnds, LeaveSwaps, LeaveGoes, LeaveSettled, LeaveEnds, RegisterLooks, RegisterRefused, RegisterTakes, RegisterEnters, EntersSlot, FreesSlot, DeferGoes, DeferPushes, DeferEnds, IsLooking, TakesFor}
use Rattle.seize_model.proofs.Sets.Turns.Middle.{Ended, EndedAs, ended_unmoved, ended_as, entered_ended}

module _ (size n i : ℕ) (before : List ℕ) (sets : Sets) (uses : ℕ → Use) where
  -- slot s was vacant, and is taken now
  pub data TakenAs (s : ℕ) (m : State) (uses2 : ℕ → Use) : Type 0 where
    IsOutside : uses2 ≡ with_at uses s (Outside 0) → Ended n m before sets → TakenAs s m uses2
    IsInside : uses2 ≡ with_at uses s (Inside 0) → EndedAs n m before (changed size (EntersSet s) sets) → TakenAs s m uses2

  -- at its end
  pub data Registered (m : State) (uses2 : ℕ → Use) : Type 0 where
    NoneTaken : uses2 ≡ uses → Ended n m before sets → Registered m uses2
    OneTaken : (s : ℕ) → uses s ≡ Vacant → TakenAs s m uses2 → Registered m uses2

  -- in its middle
  abbrev pub MidTaken : ℕ → Registering → Type 0
  MidTaken s registering.Begin = Unit {0}
  MidTaken s registering.Look = Unit {0}
  MidTaken s (registering.Widen bucket seen) = Unit {0}
  MidTaken s (registering.Take seen) = Unit {0}
  MidTaken s registering.Enter = uses s ≡ Vacant
  MidTaken s registering.Registered = ⊥
  MidTaken s (registering.Refused fault) = ⊥

  abbrev pub MidRegister : Row → State → (ℕ → Use) → Type 0
  MidRegister Rests m uses2 = Registered m uses2
  MidRegister (Registers c) m uses2 = Ended n m before sets × (uses2 ≡ uses) × MidTaken c.slot c.stands
  MidRegister (Enters c) m uses2 = ⊥
  MidRegister (Settles c) m uses2 = ⊥
  MidRegister (Leaves c) m uses2 = ⊥
  MidRegister (Defers s c) m uses2 = ⊥
  MidRegister (Frees c) m uses2 = ⊥

  looks_on : (s : ℕ) (p : Registering) → IsLooking p → MidTaken s p
  looks_on s registering.Begin k = tt
  looks_on s registering.Look k = tt
  looks_on s (registering.Widen bucket seen) k = tt
  looks_on s (registering.Take seen) k = tt
  looks_on s registering.Enter k = absurd k
  looks_on s registering.Registered k = absurd k
  looks_on s (registering.Refused fault) k = absurd k

  module _ (row row2 : Row) (m m2 : State) (uses1 uses2 : ℕ → Use) where
    mid_at : (r : Row) → row ≡ r → MidRegister row m uses1 → MidRegister r m uses1
    mid_at r e h = subst (λ (q : Row). MidRegister q m uses1) e h

    mid_to : (r : Row) → row2 ≡ r → MidRegister r m2 uses2 → MidRegister row2 m2 uses2
    mid_to r e h = subst (λ (q : Row). MidRegister q m2 uses2) (sym e) h

    takes : (c : Register) (enters : Bool) → uses1 c.slot ≡ Vacant → TakesFor enters c uses1 row2 uses2 → Unmoved n m m2 → Ended n m before sets → uses1 ≡ uses → MidRegister row2 m2 uses2
    takes c true vacant t u h same =
        mid_to (Registers (record c { stands = registering.Enter })) t.0
        (ended_unmoved n m m2 before sets u h, t.1 ∙ same, ap (λ (f : ℕ → Use). f c.slot) (sym same) ∙ vacant)
    takes c false vacant t u h same =
        mid_to Rests t.0
        (OneTaken c.slot (ap (λ (f : ℕ → Use). f c.slot) (sym same) ∙ vacant)
        (IsOutside (t.1 ∙ ap (λ (f : ℕ → Use). with_at f c.slot (Outside 0)) same) (ended_unmoved n m m2 before sets u h)))

    pub step_registers : RowTold n i row m uses1 row2 m2 uses2 → MidRegister row m uses1 → MidRegister row2 m2 uses2
    step_registers (RegisterLooks c c2 e e2 a b d f same) h =
        let k = mid_at (Registers c) e h in
        mid_to (Registers c2) e2 (ended_as n m m2 before sets same k.0, f ∙ k.1, looks_on c2.slot c2.stands b)
    step_registers (RegisterRefused c e e2 a f same) h =
        let k = mid_at (Registers c) e h in
        mid_to Rests e2 (NoneTaken (f ∙ k.1) (ended_as n m m2 before sets same k.0))
    step_registers (RegisterTakes c e a vacant t u) h = let k = mid_at (Registers c) e h in takes c c.enters vacant t u k.0 k.1
    step_registers (RegisterEnters c e e2 at lt idle same f) h =
        let k = mid_at (Registers c) e h in
        mid_to Rests e2
        (OneTaken c.slot (subst (λ (p : Registering). MidTaken c.slot p) at k.2)
        (IsInside (f ∙ ap (λ (g : ℕ → Use). with_at g c.slot (Inside 0)) k.1)
        (entered_ended size n i before sets (changed size (EntersSet c.slot) sets) c.slot m m2 lt idle same k.0 refl)))
    step_registers (SettleGoes c c2 e a b d) h = absurd (mid_at (Settles c) e h)
    step_registers (SettleEnds c e a b d) h = absurd (mid_at (Settles c) e h)
    step_registers (LeaveSwaps c again es p e a b d f g k l) h = absurd (mid_at (Leaves c) e h)
    step_registers (LeaveGoes c settle settle2 e a b d f) h = absurd (mid_at (Leaves c) e h)
    step_registers (LeaveSettled c settle e a b d f) h = absurd (mid_at (Leaves c) e h)
    step_registers (LeaveEnds c e a b d) h = absurd (mid_at (Leaves c) e h)
    step_registers (EntersSlot c e a b d f) h = absurd (mid_at (Enters c) e h)
    step_registers (FreesSlot c e a b) h = absurd (mid_at (Frees c) e h)
    step_registers (DeferGoes s c p e a b d f) h = absurd (mid_at (Defers s c) e h)
    step_registers (DeferPushes s b t d c e a f g k l) h = absurd (mid_at (Defers s c) e h)
    step_registers (DeferEnds s c e a b d) h = absurd (mid_at (Defers s c) e h)
