-- A row is refused as having no memory where its operation was answered so, and there is one other fault.
use Rattle.std.specs.Prelude.{Option, Some, None, Ok, Err, nat_lt, if◌then◌else◌}
use Rattle.std.proofs.Common.{◌≡◌, ℕ, ◌+◌, Bool, true, false, length, ◌⊎◌, inl, inr, refl, ap, sym, subst, ◌∙◌}
use Rattle.seize_words.specs.declared.fault.Fault.{Fault}
use Rattle.seize_words.specs.declared.fault.Fault.TheVariants.{SlotsUsedUp, Memory}
use Rattle.seize_words.specs.OneMemory.Mem.{Mem, Gives, after, value_at}
use Rattle.seize_words.specs.OneMemory.Op.{Op, Out, Room, Found, Exchanged, Roomed}
use Rattle.seize_words.specs.OneMemory.Place.{capacity}
use Rattle.seize_words.specs.OneMemory.Plan.{Then, Do, Ends}
use Rattle.seize.specs.declared.states.TheConstants.{LAST_SLOT}
use Rattle.seize.specs.declared.advance.Advance.{Advance}
use Rattle.seize.specs.declared.advance.Advance.TheVariants.{Goes, Refused}
use Rattle.seize.specs.declared.rows.register.Register.{Register}
use Rattle.seize.specs.declared.rows.register.Registering.{Registering}
use Rattle.seize.specs.declared.rows.register.Registering.TheVariants as at
use Rattle.seize.specs.declared.rows.defer.Defer.{Defer}
use Rattle.seize.specs.declared.rows.defer.Deferring.{Deferring}
use Rattle.seize.specs.declared.rows.defer.Deferring.TheVariants as deferring
use Rattle.seize.specs.Register.{begun, looked, widened, taken, further, taking, going, refused, registered, can_be_taken, bucket_needed, plan_at}
use Rattle.seize.specs.Defer as defer
use Rattle.seize.specs.Enter.{enter_plan, unregister_plan}
use Rattle.seize.specs.World.{Row, Rests, Registers, Enters, Settles, Leaves, Defers, Frees}
use Rattle.seize_model.proofs.Given.SeizeMovesState.Ghost.{State}
use Rattle.seize_model.proofs.Given.SeizeMemoryWords.View.{View}
use Rattle.seize_model.proofs.Given.SeizeMemoryWords.Shows.{Extra}
use Rattle.seize_model.proofs.Given.SeizeRuleRows.Known.{FitsRegister, FitsRow}
use Rattle.seize_model.proofs.Ends.Batches.Free.{Outcomes, PlanOutcomes, plan_outcome}
use Rattle.seize_acts.specs.Acts.Answers.{Grant, then_on, answer, ends, stepped}
use Rattle.seize_acts.specs.Acts.Acts.{row_answered}
use Rattle.seize_acts.specs.Acts.Refused.{IsRegistering, Refuses}
use Rattle.seize_acts.proofs.Acts.Answers.{some, answer_gives, ended, was_stepped}
use Rattle.seize_words.proofs.General.{same_some}

-- it is not refused
abbrev IsNoFault : {A : Type 0} → Advance A → Type 0
IsNoFault (Refused fault) = ⊥
IsNoFault _ = Unit {0}

abbrev NoFault : {S A : Type 0} → S × Advance A → Type 0
NoFault e = IsNoFault e.1

-- or only as this
abbrev IsUsedUp : Advance ℕ → Type 0
IsUsedUp (Refused fault) = fault ≡ SlotsUsedUp
IsUsedUp _ = Unit {0}

abbrev OnlyUsedUp : Register × Advance ℕ → Type 0
OnlyUsedUp e = IsUsedUp e.1

further_so : (c : Register) → OnlyUsedUp (further c)
further_so c = by (nat_lt c.slot LAST_SLOT)
  where
    by : (t : Bool) → OnlyUsedUp (if t then going (record c { slot = c.slot + 1 }) at.Look else refused c SlotsUsedUp)
    by true = tt
    by false = refl

taking_so : (c : Register) (seen : ℕ) (o : Option ℕ) → OnlyUsedUp (taking c seen o)
taking_so c seen None = tt
taking_so c seen (Some bucket) = tt

module _ (T : Type 0) where
  looked_so : (c : Register) (out : Out T) → Outcomes OnlyUsedUp (looked c out)
  looked_so c (Found head) = by (can_be_taken head)
    where
      by : (t : Bool) → OnlyUsedUp (if t then taking c head (bucket_needed c.slot) else further c)
      by true = taking_so c head (bucket_needed c.slot)
      by false = further_so c
  looked_so c _ = tt

  taken_so : (c : Register) (out : Out T) → Outcomes OnlyUsedUp (taken c out)
  taken_so c (Exchanged (Ok found)) = by c.enters
    where
      by : (t : Bool) → OnlyUsedUp (if t then going c at.Enter else registered c)
      by true = tt
      by false = tt
  taken_so c (Exchanged (Err found)) = further_so c
  taken_so c _ = tt

  head_so : (c : Defer) (out : Out T) → Outcomes NoFault (defer.head_read c out)
  head_so c (Found head) = tt
  head_so c _ = tt

  push_so : (c : Defer) (out : Out T) → Outcomes NoFault (defer.after_push c out)
  push_so c (Exchanged (Ok found)) = tt
  push_so c (Exchanged (Err head)) = tt
  push_so c _ = tt

  defer_so : (c : Defer) (p : Deferring) → PlanOutcomes {T = T} NoFault (defer.plan_at c p)
  defer_so c deferring.Reads = head_so c
  defer_so c (deferring.Links head) = λ out. tt
  defer_so c (deferring.Pushes head) = push_so c
  defer_so c deferring.Over = tt

module _ {T R : Type 0} where
  -- the answer of the operation, and how the rest ended on it
  did_so : (m : Mem T) (g : Grant) (op : Op T) (rest : Out T → Then T R) (p : Mem T × R) → stepped m g (Do op rest) ≡ Some p
      → (out : Out T) × (answer m g op ≡ Some out) × Ends (value_at (after m op out)) (rest out) p.1
  did_so m g op rest p e =
      let s = some (answer m g op) (λ out. then_on (ends (value_at (after m op out)) (rest out)) (λ x. Some (after m op out, x))) p e in
      let t = some (ends (value_at (after m op s.0)) (rest s.0)) (λ x. Some (after m op s.0, x)) p s.2 in
      let same = same_some (after m op s.0, t.0) p t.2 in
      (s.0, s.1, subst (λ (q : Mem T × R). Ends (value_at (after m op s.0)) (rest s.0) q.1) same (ended (value_at (after m op s.0)) (rest s.0) t.0 t.1))

-- the row found no room for a bucket that was not there
module _ {T : Type 0} (m : Mem T) (g : Grant) where
  abbrev pub NoRoom : Option (Out T) → Fault → Type 0
  NoRoom told fault = (fault ≡ SlotsUsedUp) ⊎ ((fault ≡ Memory) × (told ≡ Some (Roomed (Err Memory))) × (bucket : ℕ) × (length m.slots + 32 ≡ capacity bucket))

  same_fault : (a b : Fault) (x y : Advance ℕ) → x ≡ Refused a → y ≡ Refused b → x ≡ y → a ≡ b
  same_fault a b x y e f g = let k = sym e ∙ g ∙ f in cc k

  no_room : (bucket : ℕ) (out : Out T) (f fault : Fault) → out ≡ Roomed (Err f) → Gives m (Room bucket) (Roomed (Err f))
      → answer m g (Room bucket) ≡ Some out → fault ≡ f
      → NoRoom (answer m g (Room bucket)) fault
  no_room bucket out f fault is gives e same =
      inr (same ∙ gives.0, e ∙ ap Some (is ∙ ap (λ (x : Fault). Roomed (Err x)) gives.0), bucket, gives.1)

  module _ (c d : Register) (fault : Fault) where
    goes_on : (e : Register × Advance ℕ) → IsNoFault e.1 → (d, Refused fault) ≡ e → ⊥
    goes_on e free is = subst (λ (q : Register × Advance ℕ). IsNoFault q.1 → ⊥) is (λ n. n) free

    begun_fault : (out : Out T) → answer m g (Room 0) ≡ Some out → Ends (value_at (after m (Room 0) out)) (begun c out) (d, Refused fault)
        → NoRoom (answer m g (Room 0)) fault
    begun_fault (Roomed (Ok made)) e is = absurd (goes_on (going c at.Look) tt is)
    begun_fault (Roomed (Err f)) e is =
        no_room 0 (Roomed (Err f)) f fault refl (answer_gives m g (Room 0) (Roomed (Err f)) e) e
        (same_fault fault f (Refused fault) (Refused f) refl refl (ap (λ (q : Register × Advance ℕ). q.1) is))
    begun_fault _ e is = absurd (goes_on (c, Goes) tt is)

    widened_fault : (bucket seen : ℕ) (out : Out T) → answer m g (Room bucket) ≡ Some out
        → Ends (value_at (after m (Room bucket) out)) (widened c seen out) (d, Refused fault)
        → NoRoom (answer m g (Room bucket)) fault
    widened_fault bucket seen (Roomed (Ok made)) e is = absurd (goes_on (going c (at.Take seen)) tt is)
    widened_fault bucket seen (Roomed (Err f)) e is =
        no_room bucket (Roomed (Err f)) f fault refl (answer_gives m g (Room bucket) (Roomed (Err f)) e) e
        (same_fault fault f (Refused fault) (Refused f) refl refl (ap (λ (q : Register × Advance ℕ). q.1) is))
    widened_fault bucket seen _ e is = absurd (goes_on (c, Goes) tt is)

  module _ (defers : T → Option ℕ) (n i : ℕ) (f : View) (x : State) (extra : Extra) (k : ℕ) (fault : Fault) where
    register_fault : (c d : Register) (m2 : Mem T) (p : Registering) → FitsRegister n i x extra k c.slot p
        → stepped m g (plan_at c p) ≡ Some (m2, (d, Refused fault))
        → (told : Option (Out T)) → told ≡ row_answered defers (Registers (record c { stands = p })) g m → NoRoom told fault
    register_fault c d m2 at.Begin r e told is =
        let s = did_so m g (Room 0) (begun c) (m2, (d, Refused fault)) e in
        subst (λ (o : Option (Out T)). NoRoom o fault) (sym is) (begun_fault c d fault s.0 s.1 s.2)
    register_fault c d m2 at.Look r e told is =
        inl (plan_outcome OnlyUsedUp m m2 (plan_at c at.Look) (d, Refused fault) (looked_so T c)
        (was_stepped m g (plan_at c at.Look) (m2, (d, Refused fault)) e))
    register_fault c d m2 (at.Widen bucket seen) r e told is =
        let s = did_so m g (Room bucket) (widened c seen) (m2, (d, Refused fault)) e in
        subst (λ (o : Option (Out T)). NoRoom o fault) (sym is) (widened_fault c d fault bucket seen s.0 s.1 s.2)
    register_fault c d m2 (at.Take seen) r e told is =
        inl (plan_outcome OnlyUsedUp m m2 (plan_at c (at.Take seen)) (d, Refused fault) (taken_so T c)
        (was_stepped m g (plan_at c (at.Take seen)) (m2, (d, Refused fault)) e))
    register_fault c d m2 at.Enter r e told is =
        absurd (plan_outcome NoFault m m2 (plan_at {T = T} c at.Enter) (d, Refused fault) (λ out. tt)
        (was_stepped m g (plan_at c at.Enter) (m2, (d, Refused fault)) e))
    register_fault c d m2 at.Registered r e told is = absurd r
    register_fault c d m2 (at.Refused other) r e told is = absurd r

    -- where a row is refused
    pub row_fault : (row : Row) → FitsRow n i f x extra k row → Refuses row g m fault → IsRegistering row × NoRoom (row_answered defers row g m) fault
    row_fault Rests r h = absurd h
    row_fault (Registers c) r h = (tt, register_fault c h.1 h.0 c.stands r h.2 (row_answered defers (Registers c) g m) refl)
    row_fault (Enters c) r h =
        absurd (plan_outcome NoFault m h.0 (enter_plan c) (h.1, Refused fault) (λ out. tt)
        (was_stepped m g (enter_plan c) (h.0, (h.1, Refused fault)) h.2))
    row_fault (Settles c) r h = absurd h
    row_fault (Leaves c) r h = absurd h
    row_fault (Defers s c) r h =
        absurd (plan_outcome NoFault m h.0 (defer.defer_plan c) (h.1, Refused fault) (defer_so T c c.stands)
        (was_stepped m g (defer.defer_plan c) (h.0, (h.1, Refused fault)) h.2))
    row_fault (Frees c) r h =
        absurd (plan_outcome NoFault m h.0 (unregister_plan c) (h.1, Refused fault) (λ out. tt)
        (was_stepped m g (unregister_plan c) (h.0, (h.1, Refused fault)) h.2))
