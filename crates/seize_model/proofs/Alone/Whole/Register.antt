-- Registering, alone.
use Rattle.std.specs.Prelude.{Option, Some, None, Ok, Err, if◌then◌else◌, nat_lt}
use Rattle.std.proofs.Common.{◌≡◌, ℕ, zero, suc, ◌+◌, ◌<◌, Bool, true, false, List, [], ◌∷◌, ◌++◌, ◌⊎◌, inl, inr, refl, arith, ap, sym, subst, ◌∙◌}
use Rattle.std.proofs.lemmas.List.{append-nil}
use Rattle.seize.specs.Given.SeizeWordsDeclared.at.At.TheVariants as name
use Rattle.seize.specs.Given.SeizeWordsDeclared.fault.Fault.{Fault}
use Rattle.seize.specs.Given.SeizeWordsDeclared.fault.Fault.TheVariants.{Memory, SlotsUsedUp}
use Rattle.seize.specs.Given.SeizeWordsMem.{Mem, Can, Took, value_at}
use Rattle.seize.specs.Given.SeizeWordsPlan.{May, Steps, Now}
use Rattle.seize.proofs.Given.SeizeWordsOneOwner.Operations.{loaded, stored, exchanged, roomed}
use Rattle.seize.specs.declared.states.TheConstants.{LAST_SLOT, HEAD, IDLE, ACTIVE}
use Rattle.seize.specs.declared.advance.Advance.{Advance}
use Rattle.seize.specs.declared.advance.Advance.TheVariants.{Goes, Waits, Done, Refused}
use Rattle.seize.specs.declared.rows.register.Register.{Register}
use Rattle.seize.specs.declared.rows.register.Registering.{Registering}
use Rattle.seize.specs.declared.rows.register.Registering.TheVariants as stands
use Rattle.seize.specs.Register.{begun, looked, widened, taken, further, taking, going, refused, registered as registered_row, can_be_taken, bucket_needed, plan_at, register_plan}
use Rattle.seize.specs.Law.{Effect, Entered}
use Rattle.seize.specs.WaitingSets.{Change, Enters}
use Rattle.seize.specs.World.{World, Rests, Registers, Use, Inside, Outside, Hand, Register', Steps', with_at, register_effects, handed_by, registers_on}
use Rattle.seize.specs.Sequence.{RunsOn, new_slot, changes}
use Rattle.seize_model.specs.Alone.Alone.{History, IsHistory, at_rest, registered, IsRefusal, TakesSteps, RegisteringAnswers}
use Rattle.seize_rule.proofs.World.Rested.{Lone, steps_lone}
use Rattle.seize_rule.proofs.World.Kept.{row_may}
use Rattle.seize_model.proofs.Sets.Slots.Registers.{use_taken, WhyRefused, LooksAt, RegistersOn, Comes, GoesOn, IsRefused, TakesFirst, registers_alone}
use Rattle.seize_model.proofs.Ends.Rows.Register.{register_to_go, register_ends, IsUnderWay}
use Rattle.seize_model.proofs.Sets.Slots.Least.{entered_if, refused_changes, taken_changes}
use Rattle.seize_model.proofs.Alone.Histories.Calls.{with_anew, rests_anew, called_history}
use Rattle.seize_model.proofs.Alone.Whole.Enter.{first_may}

-- one step more
module _ {T : Type 0} (defers : T → Option ℕ) (i : ℕ) where
  pub steps_more : (steps : ℕ) (v w n : World T) → TakesSteps defers steps i v w → Steps' defers i (w.row i) w n → TakesSteps defers (suc steps) i v n
  steps_more zero v w n h st = (n, subst (λ (u : World T). Steps' defers i (u.row i) u n) h st, refl)
  steps_more (suc steps) v w n h st = (h.0, h.1, steps_more steps h.0 w n h.2 st)

  -- the last one
  pub steps_end : (steps : ℕ) (v n : World T) → TakesSteps defers steps i v n → n.row i ≡ Rests → RunsOn defers steps i v n
  steps_end zero v n h e = (subst (λ (u : World T). u.row i ≡ Rests) h e, h)
  steps_end (suc steps) v n h e = (h.0, h.1, steps_end steps h.0 n h.2 e)

-- what a step of a registering row tells goes with its effects
abbrev EffectsFit : Bool → List Effect → Register × Advance ℕ → Type 0
EffectsFit enters effects (c, Goes) = effects ≡ []
EffectsFit enters effects (c, Waits) = ⊥
EffectsFit enters effects (c, Done s) = effects ≡ (if enters then Entered s ∷ [] else [])
EffectsFit enters effects (c, Refused fault) = effects ≡ []

fit_as : (enters : Bool) (effects : List Effect) (end want : Register × Advance ℕ) → end ≡ want → EffectsFit enters effects want → EffectsFit enters effects end
fit_as enters effects end want e h = subst (λ (q : Register × Advance ℕ). EffectsFit enters effects q) (sym e) h

taking_fits : (enters : Bool) (c : Register) (seen : ℕ) (o : Option ℕ) → EffectsFit enters [] (taking c seen o)
taking_fits enters c seen (Some bucket) = refl
taking_fits enters c seen None = refl

further_fits : (enters : Bool) (c : Register) (t : Bool) → EffectsFit enters [] (if t then going (record c { slot = c.slot + 1 }) stands.Look else refused c SlotsUsedUp)
further_fits enters c true = refl
further_fits enters c false = refl

looked_fits : (enters : Bool) (c : Register) (seen : ℕ) (t : Bool) → EffectsFit enters [] (if t then taking c seen (bucket_needed c.slot) else further c)
looked_fits enters c seen true = taking_fits enters c seen (bucket_needed c.slot)
looked_fits enters c seen false = further_fits enters c (nat_lt c.slot LAST_SLOT)

taken_fits : (enters t : Bool) (c : Register) → t ≡ enters → EffectsFit enters [] (if t then going c stands.Enter else registered_row c)
taken_fits true true c e = refl
taken_fits false true c e = refl
taken_fits true false c e = absurd (cc e)
taken_fits false false c e = refl

module _ {T : Type 0} (enters : Bool) (uses : ℕ → Use) (m : Mem T) (c : Register) (same : c.enters ≡ enters) where
  fits_at : (p : Registering) → LooksAt uses enters m c.slot p → (m2 : Mem T) (end : Register × Advance ℕ) → Steps Took value_at m (plan_at c p) m2 end
      → EffectsFit enters (register_effects c p) end
  fits_at stands.Begin l m2 end st = elim (roomed m (begun c) 0 m2 end st) as (λ _. EffectsFit enters [] end) [
    | inl d ↦ fit_as enters [] end (going c stands.Look) d.1 refl
    | inr d ↦ fit_as enters [] end (refused c Memory) d.1 refl
  ]
  fits_at stands.Look l m2 end st =
      let d = loaded m (looked c) (name.Slot c.slot HEAD) m2 end st in
      fit_as enters [] end (if can_be_taken d.0 then taking c d.0 (bucket_needed c.slot) else further c) d.3 (looked_fits enters c d.0 (can_be_taken d.0))
  fits_at (stands.Widen bucket seen) l m2 end st = elim (roomed m (widened c seen) bucket m2 end st) as (λ _. EffectsFit enters [] end) [
    | inl d ↦ fit_as enters [] end (going c (stands.Take seen)) d.1 refl
    | inr d ↦ fit_as enters [] end (refused c Memory) d.1 refl
  ]
  fits_at (stands.Take seen) l m2 end st = elim (exchanged m (taken c) (name.Slot c.slot HEAD) seen IDLE m2 end st) as (λ _. EffectsFit enters [] end) [
    | inl d ↦ fit_as enters [] end (if c.enters then going c stands.Enter else registered_row c) d.3 (taken_fits enters c.enters c same)
    | inr d ↦ fit_as enters [] end (further c) d.3 (further_fits enters c (nat_lt c.slot LAST_SLOT))
  ]
  fits_at stands.Enter l m2 end st =
      let d = stored {R = Register × Advance ℕ} m (λ out. Now (registered_row c)) (name.Slot c.slot HEAD) ACTIVE m2 end st in
      fit_as enters (Entered c.slot ∷ []) end (registered_row c) d.1 (ap (λ (t : Bool). if t then Entered c.slot ∷ [] else []) (sym l.1))
  fits_at stands.Registered l m2 end st = absurd l
  fits_at (stands.Refused fault) l m2 end st = absurd l

-- a row that registers frees no block
hand_kept : (effects : List Effect) (enters : Bool) (s : ℕ) (hand : ℕ → Hand) → effects ≡ (if enters then Entered s ∷ [] else []) → handed_by effects hand ≡ hand
hand_kept effects enters s hand e = ap (λ (l : List Effect). handed_by l hand) e ∙ at enters
  where
    at : (t : Bool) → handed_by (if t then Entered s ∷ [] else []) hand ≡ hand
    at true = refl
    at false = refl

use_as : (enters : Bool) → use_taken enters ≡ (if enters then Inside 0 else Outside 0)
use_as true = refl
use_as false = refl

entered_as : (enters : Bool) (s : ℕ) → entered_if enters s ≡ (if enters then Enters s ∷ [] else [])
entered_as true s = refl
entered_as false s = refl

is_refusal : {T : Type 0} (m : Mem T) (uses : ℕ → Use) (fault : Fault) → WhyRefused m uses fault → IsRefusal m uses fault
is_refusal m uses fault why = elim why as (λ _. IsRefusal m uses fault) [
  | inl e ↦ subst (λ (f : Fault). IsRefusal m uses f) (sym e.0) e.1
  | inr e ↦ subst (λ (f : Fault). IsRefusal m uses f) (sym e.0) e.1
]

module _ {T : Type 0} (defers : T → Option ℕ) (batch_size roots : ℕ) (m : Mem T) (h : History) (had : IsHistory defers batch_size roots m h) (enters : Bool) where
  -- the world while the row registers
  abbrev pub registering : Mem T → Register → World T
  registering m2 c = record { memory = m2; row = with_at (λ i. Rests) 0 (Registers c); uses = h.uses; hand = h.hand; log = h.log }

  abbrev first : Register
  first = record { slot = 0; enters = enters; stands = stands.Begin }

  -- what holds before each of its steps
  pub record RegistersStill (m2 : Mem T) (c : Register) : Type 0 where
    pub steps : ℕ
    pub runs : TakesSteps defers steps 0 (registering m first) (registering m2 c)
    pub lone : Lone defers (LAST_SLOT + 1) batch_size 0 (registering m2 c)
    pub on : RegistersOn h.uses enters (registering m2 c) c

  pub register_begins : RegistersStill m first
  register_begins = record {
    steps = 0;
    runs = refl;
    lone = first_may defers batch_size roots m h had (Register' enters) (registering m first) refl;
    on = record { uses_same = refl; enters_same = refl; looks = λ t a b. absurd (omega (arith, b)) };
  }

  module _ (m2 : Mem T) (c : Register) (mid : RegistersStill m2 c) where
    pub register_may : May Can Took value_at m2 (register_plan {T = T} c)
    register_may = row_may defers (LAST_SLOT + 1) batch_size refl (registering m2 c) mid.lone.good 0 (Registers c) refl

    module _ (m3 : Mem T) (end : Register × Advance ℕ) (st : Steps Took value_at m2 (register_plan c) m3 end) where
      comes : Comes h.uses enters 0 (registers_on (registering m2 c) 0 c m3 end) end
      comes = registers_alone defers (LAST_SLOT + 1) refl (registering m2 c) mid.lone.good 0 c refl mid.lone.others h.uses enters mid.on (registers_on (registering m2 c) 0 c m3 end) m3 end st refl

      fits : EffectsFit enters (register_effects c c.stands) end
      fits = fits_at enters h.uses m2 c mid.on.enters_same c.stands mid.on.looks m3 end st

      -- the row has ended here
      ended : (h2 : History) → at_rest defers m3 h2 ≡ registers_on (registering m2 c) 0 c m3 end → h2.before ≡ h.before ++ changes (Register' enters) h.uses h2.uses
          → IsHistory defers batch_size roots m3 h2
      ended h2 e changed =
          called_history defers batch_size roots m m3 h h2 had (Register' enters) (
            registering m first,
            suc mid.steps,
            refl,
            refl,
            steps_end defers 0 (suc mid.steps) (registering m first) (at_rest defers m3 h2)
                (steps_more defers 0 mid.steps (registering m first) (registering m2 c) (at_rest defers m3 h2) mid.runs (m3, end, st, e)) refl,
          ) changed

    -- it goes on
    pub register_goes : (m3 : Mem T) (c3 : Register) → Steps Took value_at m2 (register_plan c) m3 (c3, Goes) → RegistersStill m3 c3
    register_goes m3 c3 st =
        let none : register_effects c c.stands ≡ [] = fits m3 (c3, Goes) st in
        let w = registering m2 c in
        let e : registering m3 c3 ≡ registers_on w 0 c m3 (c3, Goes) =
        λ i. record { memory = m3; row = sym (with_anew (λ j. Rests) 0 (Registers c) (Registers c3)) i; uses = h.uses; hand = handed_by (sym none i) h.hand; log = sym none i ++ h.log } in
        let s : Steps' defers 0 (Registers c) w (registering m3 c3) = (m3, (c3, Goes), st, e) in
        record {
          steps = suc mid.steps;
          runs = steps_more defers 0 mid.steps (registering m first) w (registering m3 c3) mid.runs s;
          lone = steps_lone defers (LAST_SLOT + 1) batch_size refl 0 w (registering m3 c3) mid.lone s;
          on = subst (λ (v : World T). RegistersOn h.uses enters v c3) (sym e) (by (comes m3 (c3, Goes) st));
        }
      where
        by : {v : World T} → Comes h.uses enters 0 v (c3, Goes) → RegistersOn h.uses enters v c3
        by {v} (GoesOn c2 e is on) = subst (λ (d : Register). RegistersOn h.uses enters v d) (sym (ap (λ (q : Register × Advance ℕ). q.0) e)) on
        by {v} (IsRefused c2 fault e is same none) = absurd (let k = ap (λ (q : Register × Advance ℕ). q.1) e in cc k)
        by {v} (TakesFirst c2 s e is first same) = absurd (let k = ap (λ (q : Register × Advance ℕ). q.1) e in cc k)

    -- nobody else has what it needs
    pub register_waits : (m3 : Mem T) (c3 : Register) → Steps Took value_at m2 (register_plan c) m3 (c3, Waits) → RegistersStill m3 c3
    register_waits m3 c3 st = absurd (fits m3 (c3, Waits) st)

    -- it has taken a slot
    pub register_takes : (m3 : Mem T) (c3 : Register) (s : ℕ) → Steps Took value_at m2 (register_plan c) m3 (c3, Done s) → RegisteringAnswers defers batch_size roots m3 enters h (Ok s)
    register_takes m3 c3 s st =
        let effects : register_effects c c.stands ≡ (if enters then Entered s ∷ [] else []) = fits m3 (c3, Done s) st in
        let k = by (comes m3 (c3, Done s) st) in
        let used : with_at h.uses s (if enters then Inside 0 else Outside 0) ≡ with_at h.uses s (use_taken enters) = ap (with_at h.uses s) (sym (use_as enters)) in
        let hands : handed_by (register_effects c c.stands) h.hand ≡ h.hand = hand_kept (register_effects c c.stands) enters s h.hand effects in
        let uses2 : with_at h.uses s (if enters then Inside 0 else Outside 0) ≡ (registers_on (registering m2 c) 0 c m3 (c3, Done s)).uses = used ∙ sym k.1 in
        let e : at_rest defers m3 (registered enters s h) ≡ registers_on (registering m2 c) 0 c m3 (c3, Done s) =
        λ i. record { memory = m3; row = sym (rests_anew (Registers c)) i; uses = uses2 i; hand = sym hands i; log = sym effects i ++ h.log } in
        let changed : changes (Register' enters) h.uses (with_at h.uses s (if enters then Inside 0 else Outside 0)) ≡ (if enters then Enters s ∷ [] else []) =
        ap (λ (u : ℕ → Use). changes (Register' enters) h.uses u) used ∙ taken_changes enters h.uses s k.0 ∙ entered_as enters s in
        (k.0, ended m3 (c3, Done s) st (registered enters s h) e (ap (λ (l : List Change). h.before ++ l) (sym changed)))
      where
        by : {v : World T} → Comes h.uses enters 0 v (c3, Done s) → (new_slot h.uses ≡ Some s) × (v.uses ≡ with_at h.uses s (use_taken enters))
        by {v} (GoesOn c2 e is on) = absurd (let k = ap (λ (q : Register × Advance ℕ). q.1) e in cc k)
        by {v} (IsRefused c2 fault e is same none) = absurd (let k = ap (λ (q : Register × Advance ℕ). q.1) e in cc k)
        by {v} (TakesFirst c2 t e is first same) =
            let k : Done s ≡ Done t = ap (λ (q : Register × Advance ℕ). q.1) e in
            let p : s ≡ t = cc k in
            subst (λ (t : ℕ). (new_slot h.uses ≡ Some t) × (v.uses ≡ with_at h.uses t (use_taken enters))) (sym p) (first, same)

    -- it is refused
    pub register_refused : (m3 : Mem T) (c3 : Register) (fault : Fault) → Steps Took value_at m2 (register_plan c) m3 (c3, Refused fault) → RegisteringAnswers defers batch_size roots m3 enters h (Err fault)
    register_refused m3 c3 fault st =
        let e : at_rest defers m3 h ≡ registers_on (registering m2 c) 0 c m3 (c3, Refused fault) =
        λ i. record { memory = m3; row = sym (rests_anew (Registers c)) i; uses = h.uses; hand = h.hand; log = h.log } in (
          is_refusal m3 h.uses fault (by (comes m3 (c3, Refused fault) st)),
          ended m3 (c3, Refused fault) st h e (sym (append-nil h.before) ∙ ap (λ (l : List Change). h.before ++ l) (sym (refused_changes enters h.uses))),
        )
      where
        by : {v : World T} → Comes h.uses enters 0 v (c3, Refused fault) → WhyRefused v.memory h.uses fault
        by {v} (GoesOn c2 e is on) = absurd (let k = ap (λ (q : Register × Advance ℕ). q.1) e in cc k)
        by {v} (IsRefused c2 f e is same none) =
            let k : Refused fault ≡ Refused f = ap (λ (q : Register × Advance ℕ). q.1) e in
            let p : fault ≡ f = cc k in
            subst (λ (f : Fault). WhyRefused v.memory h.uses f) (sym p) none
        by {v} (TakesFirst c2 s e is first same) = absurd (let k = ap (λ (q : Register × Advance ℕ). q.1) e in cc k)

    -- further steps are needed
    pub register_still : (m3 : Mem T) (c3 : Register) (p : Advance ℕ) → (p ≡ Goes) ⊎ (p ≡ Waits) → Steps Took value_at m2 (register_plan c) m3 (c3, p) → RegistersStill m3 c3
    register_still m3 c3 p e st = elim e as (λ _. RegistersStill m3 c3) [
      | inl goes ↦ register_goes m3 c3 (subst (λ (q : Advance ℕ). Steps Took value_at m2 (register_plan c) m3 (c3, q)) goes st)
      | inr waits ↦ register_waits m3 c3 (subst (λ (q : Advance ℕ). Steps Took value_at m2 (register_plan c) m3 (c3, q)) waits st)
    ]

pub register_fewer : {T : Type 0} (m m2 : Mem T) (c c2 : Register) (p : Advance ℕ) → (p ≡ Goes) ⊎ (p ≡ Waits) → Steps Took value_at m (register_plan c) m2 (c2, p)
    → register_to_go c2 < register_to_go c
register_fewer m m2 c c2 p e st = register_ends m c m2 (c2, p) st (under p e)
  where
    under : (p : Advance ℕ) → (p ≡ Goes) ⊎ (p ≡ Waits) → IsUnderWay p
    under p e = elim e as (λ _. IsUnderWay p) [
      | inl goes ↦ subst (λ (q : Advance ℕ). IsUnderWay q) (sym goes) tt
      | inr waits ↦ subst (λ (q : Advance ℕ). IsUnderWay q) (sym waits) tt
    ]

-- what is told with its last step
abbrev pub Tells : {T : Type 0} → (T → Option ℕ) → ℕ → ℕ → Mem T → Bool → History → Advance ℕ → Type 0
Tells defers batch_size roots m enters h Goes = Unit {0}
Tells defers batch_size roots m enters h Waits = Unit {0}
Tells defers batch_size roots m enters h (Done s) = RegisteringAnswers defers batch_size roots m enters h (Ok s)
Tells defers batch_size roots m enters h (Refused fault) = RegisteringAnswers defers batch_size roots m enters h (Err fault)

module _ {T : Type 0} (defers : T → Option ℕ) (batch_size roots : ℕ) (m : Mem T) (h : History) (had : IsHistory defers batch_size roots m h) (enters : Bool)
    (m2 : Mem T) (c : Register) (mid : RegistersStill defers batch_size roots m h had enters m2 c) (m3 : Mem T) (c3 : Register) where
  told : (q : Advance ℕ) → Steps Took value_at m2 (register_plan c) m3 (c3, q) → Tells defers batch_size roots m3 enters h q
  told Goes st = tt
  told Waits st = tt
  told (Done s) st = register_takes defers batch_size roots m h had enters m2 c mid m3 c3 s st
  told (Refused fault) st = register_refused defers batch_size roots m h had enters m2 c mid m3 c3 fault st

  pub register_told : (p q : Advance ℕ) → p ≡ q → Steps Took value_at m2 (register_plan c) m3 (c3, p) → Tells defers batch_size roots m3 enters h q
  register_told p q e st = told q (subst (λ (r : Advance ℕ). Steps Took value_at m2 (register_plan c) m3 (c3, r)) e st)
