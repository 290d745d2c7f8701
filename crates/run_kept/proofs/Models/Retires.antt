-- A row that retires a block, within a call: until it has written into the block which batch that is of, and from then on.
use Rattle.std.specs.Prelude.{◌==◌, ◌<◌, ◌%◌, ◌^◌, nat_lt, Option, Some, Ok, Err, if◌then◌else◌}
use Rattle.std.proofs.Common.{◌≡◌, ℕ, ◌+◌, ◌-◌, Bool, true, false, refl, ap, sym, subst, arith, ◌∙◌}
use Rattle.std.proofs.lemmas.Bool.{eq-eqb, ne_eqb}
use Rattle.run_schedules.specs.Given.SeizeWordsDeclared.at.At.TheVariants.{Slot, Entry}
use Rattle.run_schedules.specs.Given.SeizeWordsMem.{Mem, value_at, word_at, with_word, Gives, Took, after}
use Rattle.run_schedules.specs.Given.SeizeWordsOp.{Out, Load, Exchange, Found, Exchanged}
use Rattle.run_schedules.specs.Given.SeizeWordsPlan.{Now, Ends, Steps}
use Rattle.run_schedules.specs.Given.SeizeWordsWord.{link_to, block_in}
use Rattle.seize.specs.declared.states.TheConstants.{BATCH, HELD, NEVER, ACTIVE, NEXT, FIRST, LAST_SLOT}
use Rattle.seize.specs.declared.rows.settle.Settle.{Settle}
use Rattle.seize.specs.declared.rows.settle.Settled.{Settled}
use Rattle.seize.specs.declared.rows.settle.Settled.TheVariants as settled
use Rattle.seize.specs.declared.rows.settle.Settling.{Settling}
use Rattle.seize.specs.declared.rows.settle.Settling.TheVariants as at
use Rattle.seize.specs.Settle.{standing, with_batch, onward, behind, pushed_of, needs_none, closed, scanning, to, goes, seen, taken_hold, popped, first_read, counted, scanned, marked_next, slot_read, after_push, next_pushed, summed, plan_at}
use Rattle.seize.specs.World.{World, Rests, Settles, settles_on}
use Rattle.run_executor.proofs.Given.SeizeRulePoints.Retire.{of_link}
use Rattle.run_executor.proofs.Given.SeizeRuleRows.Others.{with_here}
use Rattle.run_executor.specs.Given.HandsRows.{IsAside, SettlesAside}
use Rattle.run_kept.specs.Models.Retires.{IsToRetireAt, IsToRetire, IsPast, HasRetired}

abbrev IsOn : {T : Type 0} → Settled T → Type 0
IsOn settled.Goes = Unit {0}
IsOn settled.Waits = Unit {0}
IsOn _ = ⊥

chosen : {X : Type 0} (r p f : Bool) (x y z u : X) → r ≡ true → p ≡ false → f ≡ false → (if r then (if p then x else (if f then y else z)) else u) ≡ z
chosen true false false x y z u e g h = refl
chosen true false true x y z u e g h = absurd (cc h)
chosen true true f x y z u e g h = absurd (cc g)
chosen false p f x y z u e g h = absurd (cc e)

-- what has nothing pending goes on to what is past
abbrev PastAt : Settle → Type 0
PastAt d = (d.pending ≡ 0) × IsPast d.stands

-- it has come to that, or has ended
abbrev pub Past : {T : Type 0} → Settle × Settled T → Type 0
Past (d, settled.Done) = Unit {0}
Past (d, _) = PastAt d

onward_past : (d : Settle) → d.pending ≡ 0 → d.flushing ≡ false → PastAt (onward d)
onward_past d none once = by (d.reclaiming == 0) (d.pending == 0) d.flushing (nat_lt ACTIVE d.list) d.held (eq-eqb d.pending 0 none) once
  where
    by : (r p f l h : Bool) → p ≡ true → f ≡ false
        → PastAt (if r then (if p then (if f then with_batch d else (if l then standing d at.Lists else (if h then standing d at.Gives else standing d at.Over))) else with_batch d) else standing d at.Nexts)
    by false p f l h e k = (none, tt)
    by true true false true h e k = (none, tt)
    by true true false false true e k = (none, tt)
    by true true false false false e k = (none, tt)
    by true true true l h e k = absurd (cc k)
    by true false f l h e k = absurd (cc e)

behind_past : (slot block marks : ℕ) → IsPast (behind slot block marks)
behind_past slot block marks = by (nat_lt slot LAST_SLOT)
  where
    by : (q : Bool) → IsPast (if q then at.Scans (slot + 1) block marks else at.Closes marks)
    by true = tt
    by false = tt

pushed_past : (block left pushed : ℕ) → IsPast (pushed_of block left pushed)
pushed_past block left pushed = by (nat_lt 1 left)
  where
    by : (q : Bool) → IsPast (if q then at.Pushed block (left - 1) pushed else at.Sums pushed)
    by true = tt
    by false = tt

module _ {T : Type 0} (defers : T → Option ℕ) (b : ℕ) (some : 0 < b) (m m2 : Mem T) (c : Settle) (aside : SettlesAside c) (end : Settle × Settled T) where
  -- it goes on, and is to retire the block still
  abbrev GoesOn : Settle × Settled T → Type 0
  GoesOn x = IsOn x.1 × IsToRetireAt b x.0 x.0.stands

  module _ (here : IsToRetireAt b c c.stands) where
    sees_on : c.pending ≡ link_to b → (out : Out T) → Ends (value_at m2) (seen c out) end → GoesOn end
    sees_on is (Found word) h = by (word == HELD) h
      where
        by : (q : Bool) → Ends (value_at m2) (if q then Now (c, settled.Waits) else to (record c { last = word; stands = at.Holds })) end → GoesOn end
        by true h = subst GoesOn (sym h) (tt, here)
        by false h = subst GoesOn (sym h) (tt, is)
    sees_on is _ h = subst GoesOn (sym h) (tt, here)

    holds_on : c.pending ≡ link_to b → (out : Out T) → Ends (value_at m2) (taken_hold c out) end → GoesOn end
    holds_on is (Exchanged (Ok w)) h =
        let d = record c { held = true } in
        let on : onward d ≡ standing d at.Pops =
        chosen (c.reclaiming == 0) (c.pending == 0) c.flushing _ _ (standing d at.Pops) _ (eq-eqb c.reclaiming 0 aside.0) (ne_eqb c.pending 0 (λ e. omega (arith, e, is, some))) aside.2 in
        subst GoesOn (sym h) (tt, subst (λ (x : Settle). IsToRetireAt b x x.stands) (sym on) is)
    holds_on is (Exchanged (Err w)) h = subst GoesOn (sym h) (tt, is)
    holds_on is _ h = subst GoesOn (sym h) (tt, here)

    pops_on : c.pending ≡ link_to b → word_at m (Entry b NEXT) ≡ Some 0 → (out : Out T) → Gives m (Load (Entry (block_in c.pending) NEXT)) out → Ends (value_at m2) (popped c out) end → GoesOn end
    pops_on is next (Found word) gives h = by (c.last == 0) h
      where
        none : word ≡ 0
        none = let there : word_at m (Entry b NEXT) ≡ Some word = subst (λ (x : ℕ). word_at m (Entry x NEXT) ≡ Some word) (of_link c.pending b is) gives in cc (there, next)

        by : (q : Bool)
            → Ends (value_at m2) (if q then to (record c { pending = word; first = c.pending; stands = at.Batches c.pending }) else to (record c { pending = word; stands = at.Firsts c.pending })) end
            → GoesOn end
        by true h = subst GoesOn (sym h) (tt, (is, none))
        by false h = subst GoesOn (sym h) (tt, (is, none))
    pops_on is next _ gives h = subst GoesOn (sym h) (tt, here)

    firsts_on : (block : ℕ) → block ≡ link_to b → c.pending ≡ 0 → (out : Out T) → Ends (value_at m2) (first_read c block out) end → GoesOn end
    firsts_on block is none (Found word) h = by (block == 0) (ne_eqb block 0 (λ e. omega (arith, e, is, some))) h
      where
        by : (q : Bool) → q ≡ false → Ends (value_at m2) (if q then to (scanning (record c { first = word })) else to (record c { first = word; stands = at.Batches block })) end → GoesOn end
        by true e h = absurd (cc e)
        by false e h = subst GoesOn (sym h) (tt, (is, none))
    firsts_on block is none _ h = subst GoesOn (sym h) (tt, here)

  -- the entries of the block are as they were
  abbrev KeepsEntry : Type 0
  KeepsEntry = (field : ℕ) → word_at m2 (Entry b field) ≡ word_at m (Entry b field)

  same_entry : m2 ≡ m → KeepsEntry
  same_entry e field = ap (λ (k : Mem T). word_at k (Entry b field)) e

  held_entry : (old new slot : ℕ) (out : Out T) → m2 ≡ after m (Exchange (Slot slot BATCH) old new) out → KeepsEntry
  held_entry old new slot (Exchanged (Ok w)) e field = ap (λ (k : Mem T). word_at k (Entry b field)) e
  held_entry old new slot (Exchanged (Err w)) e field = ap (λ (k : Mem T). word_at k (Entry b field)) e
  held_entry old new slot _ e field = ap (λ (k : Mem T). word_at k (Entry b field)) e

  pub to_retire : (p : Settling) → c.stands ≡ p → IsToRetireAt b c p → ((block : ℕ) → p ≡ at.Batches block → ⊥) → word_at m (Entry b NEXT) ≡ Some 0
      → Steps Took value_at m (plan_at defers c p) m2 end → GoesOn end × KeepsEntry
  to_retire at.Sees e here other next st = (sees_on (subst (IsToRetireAt b c) (sym e) here) here st.0 st.2, same_entry st.1.1)
  to_retire at.Holds e here other next st = (holds_on (subst (IsToRetireAt b c) (sym e) here) here st.0 st.2, held_entry c.last HELD c.slot st.0 st.1.1)
  to_retire at.Pops e here other next st = (pops_on (subst (IsToRetireAt b c) (sym e) here) here next st.0 st.1.0 st.2, same_entry st.1.1)
  to_retire (at.Firsts block) e here other next st = (firsts_on (subst (IsToRetireAt b c) (sym e) here) block here.0 here.1 st.0 st.2, same_entry st.1.1)
  to_retire (at.Batches block) e here other next st = absurd (other block refl)
  to_retire _ e here other next st = absurd here

  -- as it writes which batch the block is of
  pub retires : (block : ℕ) → block ≡ link_to b → c.pending ≡ 0 → Steps Took value_at m (plan_at defers c (at.Batches block)) m2 end
      → (m2 ≡ with_word m (Entry b FIRST) c.first) × Past end
  retires block is none st = (st.1.1 ∙ ap (λ (x : ℕ). with_word m (Entry x FIRST) c.first) (of_link block b is), subst Past (sym st.2) (none, tt))

  module _ (none : c.pending ≡ 0) (here : IsPast c.stands) where
    stays : Ends (value_at m2) (to c) end → Past end
    stays h = subst Past (sym h) (none, here)

    counted_on : (block : ℕ) (out : Out T) → Ends (value_at m2) (counted c block out) end → Past end
    counted_on block (Found count) h = by (nat_lt ((count + 1) % 2 ^ 64) c.batch_size) h
      where
        by : (q : Bool) → Ends (value_at m2) (if q then to (onward (record c { last = block })) else to (scanning (record c { last = block }))) end → Past end
        by true h = subst Past (sym h) (onward_past (record c { last = block }) none aside.2)
        by false h = subst Past (sym h) (none, tt)
    counted_on block _ h = stays h

    scanned_on : (slot block marks : ℕ) (out : Out T) → Ends (value_at m2) (scanned c slot block marks out) end → Past end
    scanned_on slot block marks (Found head) h = by (head == NEVER) (nat_lt head ACTIVE) (block == 0) h
      where
        by : (q r t : Bool)
            → Ends (value_at m2)
            (if q then goes c (at.Closes marks) else (if r then goes c (behind slot block marks) else (if t then to (onward c) else goes c (at.Marks slot block marks)))) end
            → Past end
        by true r t h = subst Past (sym h) (none, tt)
        by false true t h = subst Past (sym h) (none, behind_past slot block marks)
        by false false true h = subst Past (sym h) (onward_past c none aside.2)
        by false false false h = subst Past (sym h) (none, tt)
    scanned_on slot block marks _ h = stays h

    marked_on : (slot marks : ℕ) (out : Out T) → Ends (value_at m2) (marked_next c slot marks out) end → Past end
    marked_on slot marks (Found next) h = subst Past (sym h) (none, behind_past slot next ((marks + 1) % 2 ^ 64))
    marked_on slot marks _ h = stays h

    closed_on : (marks : ℕ) → Ends (value_at m2) (to (closed c marks)) end → Past end
    closed_on marks h = by (marks == 0) h
      where
        by : (q : Bool) → Ends (value_at m2) (to (if q then record c { last = 0; stands = at.Sums 0 } else record c { last = 0; stands = at.Reads c.first marks 0 })) end → Past end
        by true h = subst Past (sym h) (none, tt)
        by false h = subst Past (sym h) (none, tt)

    slot_on : (block left pushed : ℕ) (out : Out T) → Ends (value_at m2) (slot_read c block left pushed out) end → Past end
    slot_on block left pushed (Found slot) h = subst Past (sym h) (none, tt)
    slot_on block left pushed _ h = stays h

    push_on : (block left pushed slot : ℕ) (out : Out T) → Ends (value_at m2) (after_push c block left pushed slot out) end → Past end
    push_on block left pushed slot (Exchanged (Ok w)) h = subst Past (sym h) (none, pushed_past block left ((pushed + 1) % 2 ^ 64))
    push_on block left pushed slot (Exchanged (Err head)) h = by (needs_none c head) h
      where
        by : (q : Bool) → Ends (value_at m2) (if q then goes c (pushed_of block left pushed) else to (record c { lost = c.lost + 1; stands = at.Links block left pushed slot head })) end → Past end
        by true h = subst Past (sym h) (none, pushed_past block left pushed)
        by false h = subst Past (sym h) (none, tt)
    push_on block left pushed slot _ h = stays h

    pushed_on : (left pushed : ℕ) (out : Out T) → Ends (value_at m2) (next_pushed c left pushed out) end → Past end
    pushed_on left pushed (Found next) h = subst Past (sym h) (none, tt)
    pushed_on left pushed _ h = stays h

    summed_on : (pushed : ℕ) (out : Out T) → Ends (value_at m2) (summed c pushed out) end → Past end
    summed_on pushed (Found count) h = by ((count + pushed) % 2 ^ 64 == 0) h
      where
        by : (q : Bool) → Ends (value_at m2) (if q then to (onward (record c { reclaiming = c.first; first = 0 })) else to (onward (record c { first = 0 }))) end → Past end
        by true h = subst Past (sym h) (onward_past (record c { reclaiming = c.first; first = 0 }) none aside.2)
        by false h = subst Past (sym h) (onward_past (record c { first = 0 }) none aside.2)
    summed_on pushed _ h = stays h

    ended_past : (block : ℕ) → IsPast (if c.last == 0 then at.Counts block else at.Appends block)
    ended_past block = by (c.last == 0)
      where
        by : (q : Bool) → IsPast (if q then at.Counts block else at.Appends block)
        by true = tt
        by false = tt

    pub past_on : (p : Settling) → IsPast p → IsAside p → Steps Took value_at m (plan_at defers c p) m2 end → Past end
    past_on at.Sees past away st = absurd past
    past_on at.Holds past away st = absurd past
    past_on at.Pops past away st = absurd past
    past_on (at.Firsts block) past away st = absurd past
    past_on (at.Batches block) past away st = absurd past
    past_on (at.Ends block) past away st = subst Past (sym st.2) (none, ended_past block)
    past_on (at.Appends block) past away st = subst Past (sym st.2) (none, tt)
    past_on (at.Counts block) past away st = counted_on block st.0 st.2
    past_on (at.Scans slot block marks) past away st = scanned_on slot block marks st.0 st.2
    past_on (at.Marks slot block marks) past away st = subst Past (sym st.2) (none, tt)
    past_on (at.Marked slot block marks) past away st = marked_on slot marks st.0 st.2
    past_on (at.Closes marks) past away st = closed_on marks st.2
    past_on (at.Reads block left pushed) past away st = slot_on block left pushed st.0 st.2
    past_on (at.Links block left pushed slot head) past away st = subst Past (sym st.2) (none, tt)
    past_on (at.Pushes block left pushed slot head) past away st = push_on block left pushed slot st.0 st.2
    past_on (at.Pushed block left pushed) past away st = pushed_on left pushed st.0 st.2
    past_on (at.Sums pushed) past away st = summed_on pushed st.0 st.2
    past_on at.Nexts past away st = absurd away
    past_on (at.Drains next word) past away st = absurd away
    past_on (at.Joins next more) past away st = absurd away
    past_on (at.Tails next) past away st = absurd away
    past_on (at.Takes next) past away st = absurd away
    past_on at.Puts past away st = absurd away
    past_on at.Lists past away st = absurd away
    past_on (at.Owns next) past away st = absurd away
    past_on (at.Downs next batch) past away st = absurd away
    past_on at.Gives past away st = subst Past (sym st.2) (none, tt)
    past_on at.Over past away st = subst Past (sym st.1) tt

-- the row after a step of it
module _ {T : Type 0} (w : World T) (i b : ℕ) (c : Settle) (m : Mem T) where
  pub goes_row : (end : Settle × Settled T) → IsOn end.1 → IsToRetireAt b end.0 end.0.stands → IsToRetire b ((settles_on w i c m end).row i)
  goes_row (d, settled.Goes) on is = subst (IsToRetire b) (sym (with_here w.row i (Settles d))) is
  goes_row (d, settled.Waits) on is = subst (IsToRetire b) (sym (with_here w.row i (Settles d))) is
  goes_row (d, settled.Gave value) on is = absurd on
  goes_row (d, settled.Done) on is = absurd on

  pub past_row : (end : Settle × Settled T) → Past end → HasRetired ((settles_on w i c m end).row i)
  past_row (d, settled.Goes) past = subst HasRetired (sym (with_here w.row i (Settles d))) past
  past_row (d, settled.Waits) past = subst HasRetired (sym (with_here w.row i (Settles d))) past
  past_row (d, settled.Gave value) past = subst HasRetired (sym (with_here w.row i (Settles d))) past
  past_row (d, settled.Done) past = subst HasRetired (sym (with_here w.row i Rests)) tt
