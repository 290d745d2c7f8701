-- Registering: each of its operations may be made, and leads on; a slot that it takes nobody has.
use Rattle.std.specs.Prelude.{Option, Some, None, Ok, Err, nat_lt, if◌then◌else◌, length}
use Rattle.std.proofs.Common.{◌≡◌, ℕ, ◌+◌, ◌<◌, Bool, true, false, ◌⊎◌, inl, inr, refl, sym, subst, ap, ◌∙◌}
use Rattle.seize_words.specs.OneMemory.Mem.{Mem, Can, Took, value_at, word_at}
use Rattle.seize_words.specs.OneMemory.Op.{Op, Out, Load, Exchange, Room, Found, Stored, Exchanged, Made, Taken, Roomed}
use Rattle.seize_words.specs.OneMemory.Plan.{Plan, Then, Do, Ends, Steps, May}
use Rattle.seize_words.specs.declared.at.At.TheVariants.{Slot}
use Rattle.seize.specs.declared.states.TheConstants.{HEAD, IDLE, LAST_SLOT}
use Rattle.seize.specs.declared.advance.Advance.{Advance}
use Rattle.seize.specs.declared.advance.Advance.TheVariants as progress
use Rattle.seize.specs.declared.rows.register.Register.{Register}
use Rattle.seize.specs.declared.rows.register.Registering.{Registering}
use Rattle.seize.specs.declared.rows.register.Registering.TheVariants as at
use Rattle.seize.specs.Register.{register_plan, plan_at, begun, looked, widened, taken, further, taking, going, refused, registered, can_be_taken, bucket_needed}
use Rattle.seize.specs.World.{World, Row, Use, Vacant, registers_on, registered_use, registered_as}
use Rattle.seize.specs.World as world
use Rattle.seize_acts.proofs.Given.SeizeEndsBatches.Rows.{registers_memory}
use Rattle.seize_acts.proofs.Given.SeizeMemoryWords.Named.{word_found}
use Rattle.seize_acts.proofs.Given.SeizeMemoryWords.View.{view}
use Rattle.seize_acts.proofs.Given.SeizeRuleRows.Others.{with_here}
use Rattle.seize_acts.proofs.Given.SeizeRuleRows.Known.{FitsRow, FitsRegister}
use Rattle.seize_acts.proofs.Given.SeizeRuleRows.Register.{taken_use}
use Rattle.seize_acts.proofs.Given.SeizeAloneHistories.Reached.{Reached}
use Rattle.seize_views.specs.Views.Rows.{hand_of, use_of, row_of, IsSeeking, IsPlain, IsShort, IsKnown, IsBounded}
use Rattle.seize_views.specs.Views.Told.{left_by, HasOutcome, told}
use Rattle.seize_views.specs.Views.Promises.{op_in}
use Rattle.seize_views.specs.declared.view.SlotView.TheVariants.{Registers}
use Rattle.seize_views.specs.declared.view.Fixed.{Fixed}
use Rattle.seize_views.proofs.Views.InWorld.{slot_held, IsLikeness, IsUsedLike, HasRow, GoesTo, MayMake, is_reached, may, slot_of}
use Rattle.seize_words.proofs.General.{same_some}

-- registering that has come so far goes on without entering, or the slot that it has taken was nobody's
abbrev pub IsWell : (ℕ → Use) → Register × Advance ℕ → Type 0
IsWell uses (d, progress.Done t) = (uses t ≡ Vacant) × (t < LAST_SLOT + 1)
IsWell uses (d, progress.Refused fault) = Unit {0}
IsWell uses (d, _) = (d.enters ≡ false) × IsSeeking d.stands

well_either : (uses : ℕ → Use) (b : Bool) (x y : Register × Advance ℕ) → IsWell uses x → IsWell uses y → IsWell uses (if b then x else y)
well_either uses true x y p q = p
well_either uses false x y p q = q

well_further : (uses : ℕ → Use) (c : Register) → c.enters ≡ false → IsWell uses (further c)
well_further uses c short = well_either uses (nat_lt c.slot LAST_SLOT) (going (record c { slot = c.slot + 1 }) at.Look) (refused c _) (short, tt) tt

well_taking : (uses : ℕ → Use) (c : Register) (seen : ℕ) (bucket : Option ℕ) → c.enters ≡ false → IsWell uses (taking c seen bucket)
well_taking uses c seen (Some bucket) short = (short, tt)
well_taking uses c seen None short = (short, tt)

module _ {T : Type 0} (defers : T → Option ℕ) (fixed : Fixed) (Is : Use → Use → Type 0) (like : IsLikeness Is) (w : World T) (i : ℕ) (c : Register)
    (h : HasRow defers fixed Is w i (Registers c)) where
  r : Reached defers fixed.batch_size w
  r = is_reached defers fixed w h.came

  abbrev n : Mem T → Register × Advance ℕ → World T
  n m end = registers_on w i c m end

  -- so it is registered, and no section is open
  outside : (p : Registering) → IsSeeking p → registered_use p ≡ world.Outside 0
  outside at.Begin seeks = refl
  outside at.Look seeks = refl
  outside (at.Widen bucket seen) seeks = refl
  outside (at.Take seen) seeks = refl
  outside at.Enter seeks = absurd seeks
  outside at.Registered seeks = absurd seeks
  outside (at.Refused fault) seeks = absurd seeks

  row : (m : Mem T) (d : Register) (o : Advance ℕ) → (n m (d, o)).row i ≡ row_of {T = T} (left_by (d, o))
  row m d progress.Goes = with_here w.row i (world.Registers d)
  row m d progress.Waits = with_here w.row i (world.Registers d)
  row m d (progress.Done t) = with_here w.row i world.Rests
  row m d (progress.Refused fault) = with_here w.row i world.Rests

  used : (m : Mem T) (d : Register) (o : Advance ℕ) → IsUsedLike Is (n m (d, o)) (use_of {T = T} (left_by (d, o)))
  used m d progress.Goes = tt
  used m d progress.Waits = tt
  used m d (progress.Done t) = subst (λ (u : Use). Is (world.Outside 0) u) (sym (with_here w.uses t (registered_as c) ∙ outside c.stands h.short.1)) (like.same (world.Outside 0))
  used m d (progress.Refused fault) = tt

  short : (d : Register) (o : Advance ℕ) → IsWell w.uses (d, o) → IsShort {T = T} (left_by (d, o))
  short d progress.Goes well = well
  short d progress.Waits well = well
  short d (progress.Done t) well = tt
  short d (progress.Refused fault) well = tt

  plain : (d : Register) (o : Advance ℕ) → IsPlain {T = T} (left_by (d, o))
  plain d progress.Goes = tt
  plain d progress.Waits = tt
  plain d (progress.Done t) = tt
  plain d (progress.Refused fault) = tt

  known : (v : World T) (d : Register) (o : Advance ℕ) → IsKnown defers v (left_by (d, o))
  known v d progress.Goes = tt
  known v d progress.Waits = tt
  known v d (progress.Done t) = tt
  known v d (progress.Refused fault) = tt

  slot : (d : Register) (o : Advance ℕ) → IsWell w.uses (d, o) → (t : ℕ) (b : Use) → use_of {T = T} (left_by (d, o)) ≡ Some (t, b)
      → ((a : Use) × (use_of {T = T} (Registers c) ≡ Some (t, a))) ⊎ ((w.uses t ≡ Vacant) × (t < LAST_SLOT + 1))
  slot d progress.Goes well t b e = absurd (cc e)
  slot d progress.Waits well t b e = absurd (cc e)
  slot d (progress.Done k) well t b e = subst (λ (a : ℕ). ((x : Use) × (use_of {T = T} (Registers c) ≡ Some (a, x))) ⊎ ((w.uses a ≡ Vacant) × (a < LAST_SLOT + 1))) (slot_of (k, world.Outside 0) (t, b) e) (inr well)
  slot d (progress.Refused fault) well t b e = absurd (cc e)

  place : (d : Register) (o : Advance ℕ) → (row_of {T = T} (left_by (d, o)) ≡ world.Rests) ⊎ (slot_held (use_of {T = T} (left_by (d, o))) ≡ None)
  place d progress.Goes = inr refl
  place d progress.Waits = inr refl
  place d (progress.Done t) = inl refl
  place d (progress.Refused fault) = inl refl

  no_hand : (d : Register) (o : Advance ℕ) → hand_of {T = T} (left_by (d, o)) ≡ None
  no_hand d progress.Goes = refl
  no_hand d progress.Waits = refl
  no_hand d (progress.Done k) = refl
  no_hand d (progress.Refused fault) = refl

  bound : (v : World T) (d : Register) (o : Advance ℕ) → IsBounded defers fixed v i (left_by (d, o))
  bound v d progress.Goes = tt
  bound v d progress.Waits = tt
  bound v d (progress.Done k) = tt
  bound v d (progress.Refused fault) = tt

  -- a step of its plan that ends so
  goes : (op : Op T) (out : Out T) (m : Mem T) (end : Register × Advance ℕ) → Steps Took value_at w.memory (register_plan c) m end
      → HasOutcome (register_plan {T = T} c) out end → IsWell w.uses end → GoesTo defers fixed Is w i (Registers c) m (told defers (Registers c) op out)
  goes op out m end steps comes well = (
    left_by end,
    n m end,
    record {
      step = (m, end, steps, refl);
      memory = sym (registers_memory w i m c end.0 end.1);
      row = row m end.0 end.1;
      used = used m end.0 end.1;
      plain = plain end.0 end.1;
      short = short end.0 end.1 well;
      known = known (n m end) end.0 end.1;
      bounded = bound (n m end) end.0 end.1;
      none = no_hand end.0 end.1;
      slot = slot end.0 end.1 well;
      place = place end.0 end.1;
    },
    (end, comes, refl, short end.0 end.1 well),
  )

  module _ (p : Registering) (stands : c.stands ≡ p) where
    abbrev P : Plan T (Register × Advance ℕ)
    P = plan_at c p

    can : May Can Took value_at w.memory P
    can = subst (λ (q : Registering). May Can Took value_at w.memory (plan_at c q)) stands (may defers fixed Is w i (Registers c) h)

    -- the step ends so after this answer
    goes_at : (op : Op T) (rest : Out T → Then T (Register × Advance ℕ)) (out : Out T) (m : Mem T) (end : Register × Advance ℕ) → P ≡ Do op rest
        → Took w.memory op out m
        → ((shown : ℕ → Option T) → Ends shown (rest out) end) → IsWell w.uses end
        → GoesTo defers fixed Is w i (Registers c) m (told defers (Registers c) op out)
    goes_at op rest out m end is took ends well =
        goes op out m end
        (subst (λ (q : Plan T (Register × Advance ℕ)). Steps Took value_at w.memory q m end) (sym plan_is)
        (out, took, ends (value_at m)))
        (subst (λ (q : Plan T (Register × Advance ℕ)). HasOutcome q out end) (sym plan_is) (w.memory, m, took, ends (value_at m))) well
      where
        plan_is : register_plan {T = T} c ≡ Do op rest
        plan_is = ap (plan_at {T = T} c) stands ∙ is

  -- a slot of which the head says that it can be taken is nobody's
  vacant : (seen : ℕ) → c.stands ≡ at.Take seen → word_at w.memory (Slot c.slot HEAD) ≡ Some seen → (w.uses c.slot ≡ Vacant) × (c.slot < LAST_SLOT + 1)
  vacant seen stands e =
      ((taken_use defers (LAST_SLOT + 1) refl w r.good i c h.row seen free (word_found w.memory (Slot c.slot HEAD) seen e)).2, fits.sees.looks.slot_lt)
    where
      fits : FitsRegister (LAST_SLOT + 1) i r.good.state r.good.extra (length w.memory.slots) c.slot (at.Take seen)
      fits = subst (λ (q : Registering). FitsRegister (LAST_SLOT + 1) i r.good.state r.good.extra (length w.memory.slots) c.slot q) stands
          (subst (λ (q : Row). FitsRow (LAST_SLOT + 1) i (view defers w.memory) r.good.state r.good.extra (length w.memory.slots) q) h.row (r.good.rows i))

      free : can_be_taken seen ≡ true
      free = fits.sees.free

  abbrev Gone : Op T → Out T → Mem T → Type 0
  Gone op out m = Took w.memory op out m → GoesTo defers fixed Is w i (Registers c) m (told defers (Registers c) op out)

  begins : c.stands ≡ at.Begin → (out : Out T) (m : Mem T) → Gone (Room 0) out m
  begins e (Roomed (Ok made)) m took =
      goes_at at.Begin e (Room 0) (begun c) (Roomed (Ok made)) m (going c at.Look) refl took (λ shown. refl) (h.short.0, tt)
  begins e (Roomed (Err fault)) m took =
      goes_at at.Begin e (Room 0) (begun c) (Roomed (Err fault)) m (refused c fault) refl took (λ shown. refl) tt
  begins e (Found x) m took = absurd took.0
  begins e Stored m took = absurd took.0
  begins e (Exchanged x) m took = absurd took.0
  begins e (Made x) m took = absurd took.0
  begins e (Taken x) m took = absurd took.0

  looks : c.stands ≡ at.Look → (out : Out T) (m : Mem T) → Gone (Load (Slot c.slot HEAD)) out m
  looks e (Found head) m took =
      goes_at at.Look e (Load (Slot c.slot HEAD)) (looked c) (Found head) m (if can_be_taken head then taking c head
      (bucket_needed c.slot) else further c) refl took (λ shown. refl)
      (well_either w.uses (can_be_taken head) (taking c head (bucket_needed c.slot)) (further c) (well_taking w.uses c head (bucket_needed c.slot) h.short.0)
      (well_further w.uses c h.short.0))
  looks e Stored m took = absurd took.0
  looks e (Exchanged x) m took = absurd took.0
  looks e (Made x) m took = absurd took.0
  looks e (Taken x) m took = absurd took.0
  looks e (Roomed x) m took = absurd took.0

  widens : (bucket seen : ℕ) → c.stands ≡ at.Widen bucket seen → (out : Out T) (m : Mem T) → Gone (Room bucket) out m
  widens bucket seen e (Roomed (Ok made)) m took =
      goes_at (at.Widen bucket seen) e (Room bucket) (widened c seen) (Roomed (Ok made)) m (going c (at.Take seen)) refl took (λ shown. refl) (h.short.0, tt)
  widens bucket seen e (Roomed (Err fault)) m took =
      goes_at (at.Widen bucket seen) e (Room bucket) (widened c seen) (Roomed (Err fault)) m (refused c fault) refl took (λ shown. refl) tt
  widens bucket seen e (Found x) m took = absurd took.0
  widens bucket seen e Stored m took = absurd took.0
  widens bucket seen e (Exchanged x) m took = absurd took.0
  widens bucket seen e (Made x) m took = absurd took.0
  widens bucket seen e (Taken x) m took = absurd took.0

  takes : (seen : ℕ) → c.stands ≡ at.Take seen → (out : Out T) (m : Mem T) → Gone (Exchange (Slot c.slot HEAD) seen IDLE) out m
  takes seen e (Exchanged (Ok found)) m took =
      goes_at (at.Take seen) e (Exchange (Slot c.slot HEAD) seen IDLE) (taken c) (Exchanged (Ok found)) m (registered c) refl took (λ shown. rw h.short.0 refl)
      (vacant seen e (took.0.0 ∙ ap Some took.0.1))
  takes seen e (Exchanged (Err found)) m took =
      goes_at (at.Take seen) e (Exchange (Slot c.slot HEAD) seen IDLE) (taken c) (Exchanged (Err found)) m (further c) refl took (λ shown. refl)
      (well_further w.uses c h.short.0)
  takes seen e (Found x) m took = absurd took.0
  takes seen e Stored m took = absurd took.0
  takes seen e (Made x) m took = absurd took.0
  takes seen e (Taken x) m took = absurd took.0
  takes seen e (Roomed x) m took = absurd took.0

  -- each operation of its plan
  abbrev Allowed : Op T → Type 0
  Allowed op = MayMake defers fixed Is w i (Registers c) op (told defers (Registers c) op)

  by : (p : Registering) → c.stands ≡ p → (op : Op T) → op_in (plan_at {T = T} c p) ≡ Some op → Allowed op
  by at.Begin e op is = subst Allowed (same_some (Room 0) op is) ((can at.Begin e).0, λ out m. begins e out m)
  by at.Look e op is = subst Allowed (same_some (Load (Slot c.slot HEAD)) op is) ((can at.Look e).0, λ out m. looks e out m)
  by (at.Widen bucket seen) e op is =
      subst Allowed (same_some (Room bucket) op is) ((can (at.Widen bucket seen) e).0, λ out m. widens bucket seen e out m)
  by (at.Take seen) e op is =
      subst Allowed (same_some (Exchange (Slot c.slot HEAD) seen IDLE) op is)
      ((can (at.Take seen) e).0, λ out m. takes seen e out m)
  by at.Enter e op is = absurd (subst IsSeeking e h.short.1)
  by at.Registered e op is = absurd (cc is)
  by (at.Refused fault) e op is = absurd (cc is)

  pub registers : (op : Op T) → op_in (register_plan {T = T} c) ≡ Some op → Allowed op
  registers op is = by c.stands refl op is
