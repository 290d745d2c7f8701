-- A new slot is the least that was vacant: what a whole call that registers comes to.
use Rattle.std.specs.Prelude.{Option, Some, None}
use Rattle.std.proofs.Common.{◌≡◌, ℕ, zero, suc, ◌+◌, Bool, true, false, List, [], ◌∷◌, ◌⊎◌, inl, inr, refl, arith, subst, sym, ap, ◌∙◌}
use Rattle.std.proofs.lemmas.Bool.{cases_eq}
use Rattle.seize.specs.declared.states.TheConstants.{LAST_SLOT}
use Rattle.seize.specs.declared.advance.Advance.{Advance}
use Rattle.seize.specs.declared.rows.register.Register.{Register}
use Rattle.seize.specs.declared.rows.register.Registering.TheVariants as stands
use Rattle.seize.specs.WaitingSets.{Change, Enters}
use Rattle.seize.specs.World.{World, Row, Rests, Registers, Use, Vacant, Request, Register', Enter', Leave', LeaveOwned, Refresh, Unregister', Retire, Flush, Defer', Begins, Steps', with_at, at_start}
use Rattle.seize.specs.Sequence.{new_slot, entered_as, entered_at, changes, RunsOn, Calls, NewSlotsAreLeast}
use Rattle.seize_model.proofs.Sets.Slots.Vacant.{new_slot_vacant}
use Rattle.seize_rule.proofs.Rows.Others.{with_here, with_other}
use Rattle.seize_rule.proofs.World.Rested.{Lone, Rested, begins_lone, steps_lone, start_rested, rests_on, turns_rested}
use Rattle.seize_model.proofs.Sets.Slots.Registers.{use_taken, RegistersOn, Comes, GoesOn, IsRefused, TakesFirst, registers_alone}
use Rattle.seize_model.proofs.Sets.Slots.Others.{begins_still, runs_still}
use Rattle.seize_model.proofs.Sets.Turns.Begins.{NoNewSlot as DoesNotRegister}

-- It is refused, and all slots are used as before, or it has taken the first vacant one.
abbrev pub Registered : (ℕ → Use) → Bool → (ℕ → Use) → Type 0
Registered before enters after = (after ≡ before) ⊎ ((s : ℕ) × (new_slot before ≡ Some s) × (after ≡ with_at before s (use_taken enters)))

-- what that changes in the waiting sets
abbrev pub entered_if : Bool → ℕ → List Change
entered_if true s = Enters s ∷ []
entered_if false s = []

pub refused_changes : (enters : Bool) (before : ℕ → Use) → changes (Register' enters) before before ≡ []
refused_changes enters before = at (new_slot before) refl
  where
    at : (o : Option ℕ) → new_slot before ≡ o → entered_at o before ≡ []
    at None e = refl
    at (Some s) e = ap (entered_as s) (new_slot_vacant s before e)

pub taken_changes : (enters : Bool) (before : ℕ → Use) (s : ℕ) → new_slot before ≡ Some s → changes (Register' enters) before (with_at before s (use_taken enters)) ≡ entered_if enters s
taken_changes enters before s e =
    ap (λ (o : Option ℕ). entered_at o (with_at before s (use_taken enters))) e ∙ ap (entered_as s) (with_here before s (use_taken enters)) ∙ by enters
  where
    by : (t : Bool) → entered_as s (use_taken t) ≡ entered_if t s
    by true = refl
    by false = refl

module _ {T : Type 0} (defers : T → Option ℕ) (n size : ℕ) (last : n ≡ LAST_SLOT + 1) (i : ℕ) (uses : ℕ → Use) (enters : Bool) where
  ended : (steps : ℕ) (w w2 : World T) → w.row i ≡ Rests → RunsOn defers steps i w w2 → Registered uses enters w.uses → Registered uses enters w2.uses
  ended steps w w2 e h r = subst (λ (v : World T). Registered uses enters v.uses) (sym (rests_on defers i steps w w2 e h).1) r

  pub runs_registered : (steps : ℕ) (w w2 : World T) (c : Register) → Lone defers n size i w → w.row i ≡ Registers c → RegistersOn uses enters w c → RunsOn defers steps i w w2
      → Registered uses enters w2.uses
  runs_registered zero w w2 c lone is on h = absurd (let k = h.0 in cc (k, is))
  runs_registered (suc steps) w w2 c lone is on h =
      let v = h.0 in
      let st : Steps' defers i (Registers c) w v = subst (λ (r : Row). Steps' defers i r w v) is h.1 in
      let lone2 = steps_lone defers n size last i w v lone h.1 in
      comes v st.1 (registers_alone defers n last w lone.good i c is lone.others uses enters on v st.0 st.1 st.2 st.3)
      (λ c2 is2 on2. runs_registered steps v w2 c2 lone2 is2 on2 h.2) h.2
    where
      comes : (v : World T) (end : Register × Advance ℕ) → Comes uses enters i v end
          → ((c2 : Register) → v.row i ≡ Registers c2 → RegistersOn uses enters v c2 → Registered uses enters w2.uses) → RunsOn defers steps i v w2 → Registered uses enters w2.uses
      comes v end (GoesOn c2 e is2 on2) rest run = rest c2 is2 on2
      comes v end (IsRefused c2 fault e is2 same none) rest run = ended steps v w2 is2 run (inl same)
      comes v end (TakesFirst c2 s e is2 first same) rest run = ended steps v w2 is2 run (inr (s, first, same))

module _ {T : Type 0} (defers : T → Option ℕ) (n size : ℕ) (last : n ≡ LAST_SLOT + 1) where
  -- a row begins to register
  pub begins_registering : (i : ℕ) (enters : Bool) (w v : World T) → Begins defers size i (Register' enters) w v
      → (c : Register) × (v.row i ≡ Registers c) × RegistersOn w.uses enters v c
  begins_registering i enters w v h =
      subst (λ (u : World T). (c : Register) × (u.row i ≡ Registers c) × RegistersOn w.uses enters u c) (sym h)
      (record { slot = 0; enters = enters; stands = stands.Begin }, with_here w.row i _, record { uses_same = refl; enters_same = refl; looks = λ t a b. absurd (omega (arith, b)) })

  -- a whole call that registers
  pub calls_registered : (i : ℕ) (enters : Bool) (w w2 : World T) → Rested defers n size w → Calls defers size i (Register' enters) w w2 → Registered w.uses enters w2.uses
  calls_registered i enters w w2 r h =
      let b = begins_registering i enters w h.0 h.3 in
      runs_registered defers n size last i w.uses enters h.1 h.0 w2 b.0 (begins_lone defers n size last i (Register' enters) w h.0 r h.3) b.1 b.2 h.4

  -- and one that doesn't
  pub calls_still : (i s : ℕ) (request : Request) (w w2 : World T) → DoesNotRegister request → w.uses s ≡ Vacant → Calls defers size i request w w2 → w2.uses s ≡ Vacant
  calls_still i s request w w2 d v h = runs_still defers i s h.1 h.0 w2 (begins_still defers i s w v size request h.0 d h.3) h.4

  first_taken : (s : ℕ) (before after : ℕ → Use) (enters : Bool) → before s ≡ Vacant → (after s ≡ Vacant → ⊥) → Registered before enters after → new_slot before ≡ Some s
  first_taken s before after enters v ne r = elim r as (λ _. new_slot before ≡ Some s) [
    | inl same ↦ absurd (ne (ap (λ (f : ℕ → Use). f s) same ∙ v))
    | inr k ↦ (elim (cases_eq s k.0) as (λ _. new_slot before ≡ Some s) [
      | inl here ↦ k.1 ∙ ap Some (sym here)
      | inr other ↦ absurd (ne (ap (λ (f : ℕ → Use). f s) k.2 ∙ (with_other before k.0 s (use_taken enters) other ∙ v)))
    ])
  ]

  pub least_taken : (i s : ℕ) (request : Request) (w w2 : World T) → Rested defers n size w → Calls defers size i request w w2 → w.uses s ≡ Vacant → (w2.uses s ≡ Vacant → ⊥)
      → new_slot w.uses ≡ Some s
  least_taken i s (Register' enters) w w2 r h v ne = first_taken s w.uses w2.uses enters v ne (calls_registered i enters w w2 r h)
  least_taken i s (Enter' t) w w2 r h v ne = absurd (ne (calls_still i s (Enter' t) w w2 tt v h))
  least_taken i s (Leave' t) w w2 r h v ne = absurd (ne (calls_still i s (Leave' t) w w2 tt v h))
  least_taken i s (LeaveOwned t) w w2 r h v ne = absurd (ne (calls_still i s (LeaveOwned t) w w2 tt v h))
  least_taken i s (Refresh t) w w2 r h v ne = absurd (ne (calls_still i s (Refresh t) w w2 tt v h))
  least_taken i s (Unregister' t) w w2 r h v ne = absurd (ne (calls_still i s (Unregister' t) w w2 tt v h))
  least_taken i s (Retire t b) w w2 r h v ne = absurd (ne (calls_still i s (Retire t b) w w2 tt v h))
  least_taken i s (Flush t) w w2 r h v ne = absurd (ne (calls_still i s (Flush t) w w2 tt v h))
  least_taken i s (Defer' t b onto) w w2 r h v ne = absurd (ne (calls_still i s (Defer' t b onto) w w2 tt v h))

pub new_slots_least : {T : Type 0} (defers : T → Option ℕ) → NewSlotsAreLeast defers
new_slots_least defers size roots turns w w2 before i s request turned h v ne =
    least_taken defers (LAST_SLOT + 1) size refl i s request w w2
    (turns_rested defers (LAST_SLOT + 1) size refl turns (at_start defers roots) w before (start_rested defers (LAST_SLOT + 1) size refl roots) turned) h v ne
