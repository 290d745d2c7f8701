-- A row that doesn't register leaves a vacant slot vacant.
use Rattle.std.specs.Prelude.{Option, if◌then◌else◌, nat_lt}
use Rattle.std.proofs.Common.{◌≡◌, ℕ, zero, suc, Bool, true, false, eqb, refl, subst, sym, ap, ◌∙◌, eqb-true}
use Rattle.seize.specs.Given.SeizeWordsDeclared.at.At.TheVariants as name
use Rattle.seize.specs.Given.SeizeWordsMem.{Mem, Took, value_at, with_word}
use Rattle.seize.specs.Given.SeizeWordsPlan.{Steps, Ends, Now}
use Rattle.seize.proofs.Given.SeizeWordsOneOwner.Operations.{swapped, stored}
use Rattle.seize.specs.declared.states.TheConstants.{HEAD, FREE, ACTIVE}
use Rattle.seize.specs.declared.advance.Advance.{Advance}
use Rattle.seize.specs.declared.advance.Advance.TheVariants as progress
use Rattle.seize.specs.declared.rows.settle.Settle.{Settle}
use Rattle.seize.specs.declared.rows.settle.Settled.{Settled}
use Rattle.seize.specs.declared.rows.settle.Settled.TheVariants.{Goes, Waits, Gave, Done}
use Rattle.seize.specs.declared.rows.leave.Leave.{Leave}
use Rattle.seize.specs.declared.rows.leave.Leaving.{Leaving}
use Rattle.seize.specs.declared.rows.leave.Leaving.TheVariants as leaving
use Rattle.seize.specs.declared.rows.defer.Defer.{Defer}
use Rattle.seize.specs.Settle.{settle_plan, counting_down}
use Rattle.seize.specs.Leave.{standing, counted_down, settled, list_taken, plan_at, leave_plan}
use Rattle.seize.specs.World.{World, Row, Rests, Registers, Enters, Settles, Leaves, Defers, Frees, Use, Vacant, Outside, Inside, Changing, Request, Register', Enter', Leave', LeaveOwned, Refresh, Unregister', Retire, Flush, Defer', Begins, Steps', IsTaken, IsInside, one_more, one_less, with_at, settles_on, left_row, left_as, defers_on}
use Rattle.seize.specs.Sequence.{RunsOn}
use Rattle.seize_rule.proofs.Rows.Leaving.{steps_back}
use Rattle.seize_rule.proofs.Rows.Others.{with_here, with_other}
use Rattle.seize_model.proofs.Sets.Turns.Begins.{NoNewSlot as DoesNotRegister}

-- a leaving row keeps its slot

counted_slot : (c : Leave) → (counted_down c).slot ≡ c.slot
counted_slot c = by c.frees
  where
    by : (t : Bool) → (if t then standing c leaving.Frees else standing c leaving.Over).slot ≡ c.slot
    by true = refl
    by false = refl

module _ {T : Type 0} (defers : T → Option ℕ) (mem : Mem T) (c : Leave) where
  settled_slot : (e : Settle × Settled T) → (settled c e).0.slot ≡ c.slot
  settled_slot (d, Goes) = refl
  settled_slot (d, Waits) = refl
  settled_slot (d, Gave value) = refl
  settled_slot (d, Done) = counted_slot c

  slot_at : (p : Leaving) (m : Mem T) (end : Leave × Settled T) → Steps Took value_at mem (plan_at defers c p) m end → end.0.slot ≡ c.slot
  slot_at leaving.Swaps m end s =
      let d = swapped mem (list_taken c) (name.Slot c.slot HEAD) c.becomes m end s in
      by (value_at (with_word mem (name.Slot c.slot HEAD) c.becomes)) d.0 (nat_lt ACTIVE d.0) d.3
    where
      by : (shown : ℕ → Option T) (head : ℕ) (t : Bool) → Ends shown (if t then Now (standing c (leaving.Settles (counting_down c.slot c.batch_size head)), Goes) else Now (counted_down c, Goes)) end → end.0.slot ≡ c.slot
      by shown head true e = subst (λ (q : Leave × Settled T). q.0.slot ≡ c.slot) (sym e) refl
      by shown head false e = subst (λ (q : Leave × Settled T). q.0.slot ≡ c.slot) (sym e) (counted_slot c)
  slot_at (leaving.Settles settle) m end s =
      let k = steps_back (settled c) mem m (settle_plan defers settle) end s in
      subst (λ (q : Leave × Settled T). q.0.slot ≡ c.slot) (sym k.2) (settled_slot k.0)
  slot_at leaving.Frees m end s =
      let d = stored mem (λ out. Now (standing c leaving.Over, Goes)) (name.Slot c.slot HEAD) FREE m end s in
      subst (λ (q : Leave × Settled T). q.0.slot ≡ c.slot) (sym d.1) refl
  slot_at leaving.Over m end s = subst (λ (q : Leave × Settled T). q.0.slot ≡ c.slot) (sym s.1) refl

  pub leave_slot : (m : Mem T) (end : Leave × Settled T) → Steps Took value_at mem (leave_plan defers c) m end → end.0.slot ≡ c.slot
  leave_slot m end s = slot_at c.stands m end s

-- the row doesn't register, and where it changes how a slot is used, it's another one than s
abbrev pub KeepsOff : ℕ → Row → Type 0
KeepsOff s Rests = Unit {0}
KeepsOff s (Registers c) = ⊥
KeepsOff s (Enters c) = c.slot ≡ s → ⊥
KeepsOff s (Settles c) = Unit {0}
KeepsOff s (Leaves c) = c.slot ≡ s → ⊥
KeepsOff s (Defers t c) = Unit {0}
KeepsOff s (Frees c) = Unit {0}

-- uses of slots

at_other : (uses : ℕ → Use) (t s : ℕ) (u : Use) → (t ≡ s → ⊥) → uses s ≡ Vacant → with_at uses t u s ≡ Vacant
at_other uses t s u ne v = with_other uses t s u (λ e. ne (sym e)) ∙ v

at_vacant : (uses : ℕ → Use) (t s : ℕ) (u : Use) → (t ≡ s → u ≡ Vacant) → uses s ≡ Vacant → with_at uses t u s ≡ Vacant
at_vacant uses t s u same v = at (eqb s t) (eqb-true s t)
  where
    at : (z : Bool) → (z ≡ true → s ≡ t) → (if z then u else uses s) ≡ Vacant
    at true e = same (sym (e refl))
    at false e = v

vacant_less : (uses : ℕ → Use) (t s : ℕ) → uses s ≡ Vacant → with_at uses t (one_less (uses t)) s ≡ Vacant
vacant_less uses t s v = at_vacant uses t s (one_less (uses t)) (λ e. ap one_less (ap uses e ∙ v)) v

vacant_none : (uses : ℕ → Use) (t s : ℕ) → uses s ≡ Vacant → with_at uses t Vacant s ≡ Vacant
vacant_none uses t s v = at_vacant uses t s Vacant (λ e. refl) v

outside_other : (uses : ℕ → Use) (t s : ℕ) → uses t ≡ Outside 0 → uses s ≡ Vacant → t ≡ s → ⊥
outside_other uses t s o v e = let k = ap uses e in cc (k, o, v)

inside_other : (uses : ℕ → Use) (t s : ℕ) → uses t ≡ Inside 0 → uses s ≡ Vacant → t ≡ s → ⊥
inside_other uses t s o v e = let k = ap uses e in cc (k, o, v)

taken_other : (uses : ℕ → Use) (t s : ℕ) → IsTaken (uses t) → uses s ≡ Vacant → t ≡ s → ⊥
taken_other uses t s o v e = subst (λ (u : Use). IsTaken u) (ap uses e ∙ v) o

within_other : (uses : ℕ → Use) (t s : ℕ) → IsInside (uses t) → uses s ≡ Vacant → t ≡ s → ⊥
within_other uses t s o v e = subst (λ (u : Use). IsInside u) (ap uses e ∙ v) o

module _ {T : Type 0} (defers : T → Option ℕ) (i s : ℕ) where
  -- the slot is vacant still, and the row leaves it so
  abbrev Still : World T → Type 0
  Still v = (v.uses s ≡ Vacant) × KeepsOff s (v.row i)

  row_keeps : (rows : ℕ → Row) (row : Row) → KeepsOff s row → KeepsOff s (with_at rows i row i)
  row_keeps rows row k = subst (λ (r : Row). KeepsOff s r) (sym (with_here rows i row)) k

  module _ (w : World T) (v : w.uses s ≡ Vacant) where
    pub begins_still : (size : ℕ) (request : Request) (w2 : World T) → DoesNotRegister request → Begins defers size i request w w2 → Still w2
    begins_still size (Register' enters) w2 d b = absurd d
    begins_still size (Enter' t) w2 d b =
        let ne = outside_other w.uses t s b.0 v in
        subst (λ (u : World T). Still u) (sym b.1) (at_other w.uses t s Changing ne v, row_keeps w.row _ ne)
    begins_still size (Leave' t) w2 d b =
        let ne = inside_other w.uses t s b.0 v in
        subst (λ (u : World T). Still u) (sym b.1) (at_other w.uses t s Changing ne v, row_keeps w.row _ ne)
    begins_still size (LeaveOwned t) w2 d b =
        let ne = inside_other w.uses t s b.0 v in
        subst (λ (u : World T). Still u) (sym b.1) (at_other w.uses t s Changing ne v, row_keeps w.row _ ne)
    begins_still size (Refresh t) w2 d b =
        let ne = inside_other w.uses t s b.0 v in
        subst (λ (u : World T). Still u) (sym b.1) (at_other w.uses t s Changing ne v, row_keeps w.row _ ne)
    begins_still size (Unregister' t) w2 d b =
        let ne = outside_other w.uses t s b.0 v in
        subst (λ (u : World T). Still u) (sym b.1) (at_other w.uses t s Changing ne v, row_keeps w.row _ tt)
    begins_still size (Retire t c) w2 d b =
        let ne = taken_other w.uses t s b.0 v in
        subst (λ (u : World T). Still u) (sym b.2) (at_other w.uses t s (one_more (w.uses t)) ne v, row_keeps w.row _ tt)
    begins_still size (Flush t) w2 d b =
        let ne = taken_other w.uses t s b.0 v in
        subst (λ (u : World T). Still u) (sym b.1) (at_other w.uses t s (one_more (w.uses t)) ne v, row_keeps w.row _ tt)
    begins_still size (Defer' t c onto) w2 d b =
        let ne = within_other w.uses t s b.1 v in
        subst (λ (u : World T). Still u) (sym b.7) (at_other w.uses t s (one_more (w.uses t)) ne v, row_keeps w.row _ tt)

    settles_still : (c d : Settle) (m : Mem T) (o : Settled T) → Still (settles_on w i c m (d, o))
    settles_still c d m Goes = (v, row_keeps w.row (Settles d) tt)
    settles_still c d m Waits = (v, row_keeps w.row (Settles d) tt)
    settles_still c d m (Gave value) = (v, row_keeps w.row (Settles d) tt)
    settles_still c d m Done = (vacant_less w.uses c.slot s v, row_keeps w.row Rests tt)

    defers_still : (t : ℕ) (d : Defer) (m : Mem T) (o : Advance Unit) → Still (defers_on w i t m (d, o))
    defers_still t d m progress.Goes = (v, row_keeps w.row (Defers t d) tt)
    defers_still t d m progress.Waits = (v, row_keeps w.row (Defers t d) tt)
    defers_still t d m (progress.Done u) = (vacant_less w.uses t s v, row_keeps w.row Rests tt)
    defers_still t d m (progress.Refused fault) = (v, row_keeps w.row (Defers t d) tt)

    left_still : (d : Leave) (o : Settled T) → (d.slot ≡ s → ⊥) → KeepsOff s (left_row d o)
    left_still d Goes ne = ne
    left_still d Waits ne = ne
    left_still d (Gave value) ne = ne
    left_still d Done ne = tt

    pub steps_still : (row : Row) (w2 : World T) → KeepsOff s row → Steps' defers i row w w2 → Still w2
    steps_still Rests w2 k h = absurd h
    steps_still (Registers c) w2 k h = absurd k
    steps_still (Enters c) w2 k h = subst (λ (u : World T). Still u) (sym h.3) (at_other w.uses c.slot s (Inside 0) k v, row_keeps w.row Rests tt)
    steps_still (Settles c) w2 k h = subst (λ (u : World T). Still u) (sym h.3) (settles_still c h.1.0 h.0 h.1.1)
    steps_still (Leaves c) w2 k h =
        let same = leave_slot defers w.memory c h.0 h.1 h.2 in
        subst (λ (u : World T). Still u) (sym h.3)
        (at_other w.uses c.slot s (left_as c c.stands (w.uses c.slot)) k v, row_keeps w.row (left_row h.1.0 h.1.1) (left_still h.1.0 h.1.1 (λ e. k (sym same ∙ e))))
    steps_still (Defers t c) w2 k h = subst (λ (u : World T). Still u) (sym h.3) (defers_still t h.1.0 h.0 h.1.1)
    steps_still (Frees c) w2 k h = subst (λ (u : World T). Still u) (sym h.3) (vacant_none w.uses c.slot s v, row_keeps w.row Rests tt)

  pub runs_still : (steps : ℕ) (w w2 : World T) → Still w → RunsOn defers steps i w w2 → w2.uses s ≡ Vacant
  runs_still zero w w2 k h = subst (λ (u : World T). u.uses s ≡ Vacant) (sym h.1) k.0
  runs_still (suc steps) w w2 k h = runs_still steps h.0 w2 (steps_still w k.0 (w.row i) h.0 k.1 h.1) h.2
