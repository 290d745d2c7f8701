-- A settling row says whether it has its slot's batch in hand, and waits only where that is held.
use Rattle.std.specs.Prelude.{if◌then◌else◌, nat_lt, ◌==◌, ◌%◌, ◌^◌, ◌+◌, ◌&&◌, Option, Some, None, IsSome, Ok, Err}
use Rattle.std.proofs.Common.{◌≡◌, ℕ, ◌*◌, Bool, true, false, eqb, [], refl, arith, ap, sym, eqb-true, ◌∙◌, ◌⊎◌, inl, inr}
use Rattle.std.proofs.lemmas.Bool.{eqb-false}
use Rattle.seize.specs.Given.SeizeWordsDeclared.at.At.TheVariants.{Slot}
use Rattle.seize.specs.Given.SeizeWordsMem.{Mem, Can, Took, value_at, word_at, with_word}
use Rattle.seize.specs.Given.SeizeWordsOp.{Out, Found, Exchanged, Taken}
use Rattle.seize.specs.Given.SeizeWordsPlan.{May, Steps, Ends, Now}
use Rattle.seize.proofs.Given.SeizeWordsOneOwner.Operations.{loaded, stored, exchanged}
use Rattle.seize.specs.declared.states.TheConstants.{BATCH, HELD, ACTIVE, NEVER}
use Rattle.seize.specs.declared.rows.settle.Settle.{Settle}
use Rattle.seize.specs.declared.rows.settle.Settling.{Settling}
use Rattle.seize.specs.declared.rows.settle.Settling.TheVariants as at
use Rattle.seize.specs.declared.rows.settle.Settled.{Settled}
use Rattle.seize.specs.declared.rows.settle.Settled.TheVariants.{Goes, Waits}
use Rattle.seize.specs.Settle as plans
use Rattle.seize_rule.proofs.Given.SeizeMovesState.Ghost.{State}
use Rattle.seize_rule.proofs.Given.SeizeMemoryWords.Named.{words_of, word_found, wrote, write_apart, write_here}
use Rattle.seize_rule.proofs.Given.SeizeMemoryWords.Chains.{last_of}
use Rattle.seize_rule.proofs.Given.SeizeMemoryWords.View.{View, view}
use Rattle.seize_rule.proofs.Given.SeizeMemoryWords.Shows.{Extra}
use Rattle.seize_rule.proofs.Points.Known.{Over, MayHold, Holding, FitsAt, bare}
use Rattle.seize_rule.proofs.Words.Kept.{settle_quiet}
use Rattle.seize_model.proofs.Ends.Batches.Free.{spares_plan, plan_same, Outcomes, PlanOutcomes, plan_outcome, if_outcome}

pub onward_held : (c : Settle) → (plans.onward c).held ≡ c.held
onward_held c = one (c.reclaiming == 0) (c.pending == 0) c.flushing (nat_lt ACTIVE c.list) c.held c.held c.flushing (c.last == 0) c.held c.flushing (c.last == 0)
  where
    one : (a b d l h h2 f2 z h3 f3 z3 : Bool)
        → (if a then (if b then (if d then (if h2 then (if f2 then (if z then record c { flushing = false; stands = at.Gives } else record c { flushing = false; stands = at.Firsts 0 }) else plans.standing c at.Pops) else plans.standing c at.Sees) else (if l then plans.standing c at.Lists else (if h then plans.standing c at.Gives else plans.standing c at.Over))) else (if h3 then (if f3 then (if z3 then record c { flushing = false; stands = at.Gives } else record c { flushing = false; stands = at.Firsts 0 }) else plans.standing c at.Pops) else plans.standing c at.Sees)) else plans.standing c at.Nexts).held ≡ c.held
    one a b d l h h2 f2 z h3 f3 z3 = grind arith

-- looks whether the batch is held, takes hold of it, or gives it up
abbrev pub moves_hold : Settling → Bool
moves_hold at.Sees = true
moves_hold at.Holds = true
moves_hold at.Gives = true
moves_hold _ = false

-- it does not wait
abbrev pub GoesOn : {T : Type 0} → Settled T → Type 0
GoesOn Waits = ⊥
GoesOn _ = Unit {0}

module _ {T : Type 0} (defers : T → Option ℕ) (c : Settle) where
  abbrev Held : Settle × Settled T → Type 0
  Held e = (e.0.held ≡ c.held) × GoesOn e.1

  -- it waits where another row has the batch
  abbrev SeesHeld : Settle × Settled T → Type 0
  SeesHeld e = e.0.held ≡ c.held

  sees : (out : Out T) → Outcomes SeesHeld (plans.seen c out)
  sees (Found w) = if_outcome SeesHeld (w == HELD) _ _ refl refl
  sees _ = refl

  pops : (out : Out T) → Outcomes Held (plans.popped c out)
  pops (Found w) = if_outcome Held (c.last == 0) _ _ (refl, tt) (refl, tt)
  pops _ = (refl, tt)

  firsts : (block : ℕ) (out : Out T) → Outcomes Held (plans.first_read c block out)
  firsts block (Found w) = if_outcome Held (block == 0) _ _ (refl, tt) (refl, tt)
  firsts block _ = (refl, tt)

  counts : (block : ℕ) (out : Out T) → Outcomes Held (plans.counted c block out)
  counts block (Found w) = if_outcome Held (nat_lt ((w + 1) % 2 ^ 64) c.batch_size) _ _ (onward_held (record c { last = block }), tt) (refl, tt)
  counts block _ = (refl, tt)

  scans : (slot block marks : ℕ) (out : Out T) → Outcomes Held (plans.scanned c slot block marks out)
  scans slot block marks (Found w) = if_outcome Held (w == NEVER) _ _ (refl, tt) (if_outcome Held (nat_lt w ACTIVE) _ _ (refl, tt) (if_outcome Held (block == 0) _ _ (onward_held c, tt) (refl, tt)))
  scans slot block marks _ = (refl, tt)

  marked : (slot marks : ℕ) (out : Out T) → Outcomes Held (plans.marked_next c slot marks out)
  marked slot marks (Found w) = (refl, tt)
  marked slot marks _ = (refl, tt)

  closes : (marks : ℕ) → (plans.closed c marks).held ≡ c.held
  closes marks = one (marks == 0)
    where
      one : (t : Bool) → (if t then record c { last = 0; stands = at.Sums 0 } else record c { last = 0; stands = at.Reads c.first marks 0 }).held ≡ c.held
      one true = refl
      one false = refl

  reads : (block left pushed : ℕ) (out : Out T) → Outcomes Held (plans.slot_read c block left pushed out)
  reads block left pushed (Found w) = (refl, tt)
  reads block left pushed _ = (refl, tt)

  pushes : (block left pushed slot : ℕ) (out : Out T) → Outcomes Held (plans.after_push c block left pushed slot out)
  pushes block left pushed slot (Exchanged (Ok w)) = (refl, tt)
  pushes block left pushed slot (Exchanged (Err w)) = if_outcome Held (plans.needs_none c w) _ _ (refl, tt) (refl, tt)
  pushes block left pushed slot _ = (refl, tt)

  pushed : (left k : ℕ) (out : Out T) → Outcomes Held (plans.next_pushed c left k out)
  pushed left k (Found w) = (refl, tt)
  pushed left k _ = (refl, tt)

  sums : (k : ℕ) (out : Out T) → Outcomes Held (plans.summed c k out)
  sums k (Found w) = if_outcome Held ((w + k) % 2 ^ 64 == 0) _ _ (onward_held (record c { reclaiming = c.first; first = 0 }), tt) (onward_held (record c { first = 0 }), tt)
  sums k _ = (refl, tt)

  drained_first : (next : ℕ) (o : Option ℕ) → Outcomes Held (plans.drained_first {T = T} c next o)
  drained_first next None = (refl, tt)
  drained_first next (Some word) = (refl, tt)

  nexts : (out : Out T) → Outcomes Held (plans.next_read defers c out)
  nexts (Found w) = λ value. drained_first w (defers value)
  nexts _ = (refl, tt)

  drains : (next : ℕ) (out : Out T) → Outcomes Held (plans.drained c next out)
  drains next (Found w) = if_outcome Held (w == 0) _ _ (refl, tt) (if_outcome Held (c.put_first == 0) _ _ (refl, tt) (refl, tt))
  drains next _ = (refl, tt)

  tails : (next : ℕ) (out : Out T) → Outcomes Held (plans.tail_read c next out)
  tails next (Found w) = if_outcome Held (w == 0) _ _ (refl, tt) (refl, tt)
  tails next _ = (refl, tt)

  without : (next : ℕ) → (plans.without_block c next).held ≡ c.held
  without next = one (next == 0) (c.put_first == 0) (c.pending == 0)
    where
      one : (t u z : Bool)
          → (if t then (if u then plans.onward (record c { reclaiming = next }) else (if z then plans.with_put (record c { reclaiming = next }) else record c { reclaiming = next; stands = at.Puts })) else plans.onward (record c { reclaiming = next })).held ≡ c.held
      one true true z = onward_held (record c { reclaiming = next })
      one true false true = onward_held (record c { reclaiming = next; pending = c.put_first; put_first = 0; put_last = 0 })
      one true false false = refl
      one false u z = onward_held (record c { reclaiming = next })

  takes : (next : ℕ) (out : Out T) → Outcomes Held (plans.given_back c next out)
  takes next (Taken value) = (without next, tt)
  takes next _ = (refl, tt)

  lists : (out : Out T) → Outcomes Held (plans.entry_read c out)
  lists (Found w) = (refl, tt)
  lists _ = (refl, tt)

  owns : (next : ℕ) (out : Out T) → Outcomes Held (plans.batch_read c next out)
  owns next (Found w) = (refl, tt)
  owns next _ = (refl, tt)

  downs : (next batch : ℕ) (out : Out T) → Outcomes Held (plans.counted_down c next batch out)
  downs next batch (Found w) = if_outcome Held (w == 1) _ _ (onward_held (record c { list = next; reclaiming = batch }), tt) (onward_held (record c { list = next }), tt)
  downs next batch _ = (refl, tt)

  held_at : (p : Settling) → moves_hold p ≡ false → PlanOutcomes Held (plans.plan_at defers c p)
  held_at at.Sees o = absurd (cc o)
  held_at at.Holds o = absurd (cc o)
  held_at at.Pops o = pops
  held_at (at.Firsts block) o = firsts block
  held_at (at.Batches block) o = λ out. (refl, tt)
  held_at (at.Ends block) o = λ out. (refl, tt)
  held_at (at.Appends block) o = λ out. (refl, tt)
  held_at (at.Counts block) o = counts block
  held_at (at.Scans slot block marks) o = scans slot block marks
  held_at (at.Marks slot block marks) o = λ out. (refl, tt)
  held_at (at.Marked slot block marks) o = marked slot marks
  held_at (at.Closes marks) o = λ out. (closes marks, tt)
  held_at (at.Reads block left k) o = reads block left k
  held_at (at.Links block left k slot head) o = λ out. (refl, tt)
  held_at (at.Pushes block left k slot head) o = pushes block left k slot
  held_at (at.Pushed block left k) o = pushed left k
  held_at (at.Sums k) o = sums k
  held_at at.Nexts o = nexts
  held_at (at.Drains next word) o = drains next
  held_at (at.Joins next more) o = λ out. (refl, tt)
  held_at (at.Tails next) o = tails next
  held_at (at.Takes next) o = takes next
  held_at at.Puts o = λ out. (onward_held (record c { pending = c.put_first; put_first = 0; put_last = 0 }), tt)
  held_at at.Lists o = lists
  held_at (at.Owns next) o = owns next
  held_at (at.Downs next batch) o = downs next batch
  held_at at.Gives o = absurd (cc o)
  held_at at.Over o = (refl, tt)

  spares_at : (p : Settling) → moves_hold p ≡ false → spares_plan BATCH (plans.plan_at defers c p) ≡ true
  spares_at at.Holds o = absurd (cc o)
  spares_at at.Gives o = absurd (cc o)
  spares_at p o = refl

-- No slot's batch is held, but that of the row, if it says so.
abbrev pub HoldsAlone : View → Settle → Type 0
HoldsAlone f c = (s : ℕ) → f.batches s ≡ HELD → (s ≡ c.slot) × (c.held ≡ true)

module _ {T : Type 0} (defers : T → Option ℕ) (n i : ℕ) (mem mem2 : Mem T) (m : State) (x : Extra) (c : Settle) (end : Settle × Settled T)
    (may : (p : Settling) → c.stands ≡ p → May Can Took value_at mem (plans.plan_at defers c p)) where
  -- another slot's word of its batch
  other_word : (v s : ℕ) → IsSome (word_at mem (Slot c.slot BATCH)) → eqb s c.slot ≡ false → words_of (with_word mem (Slot c.slot BATCH) v) (Slot s BATCH) ≡ words_of mem (Slot s BATCH)
  other_word v s some ne = ap (λ w. w (Slot s BATCH)) (wrote mem (Slot c.slot BATCH) v some).words ∙ write_apart (words_of mem) (Slot c.slot BATCH) v (Slot s BATCH) (off (eqb s c.slot) ne)
    where
      off : (t : Bool) → t ≡ false → (t && true) ≡ false
      off true e = absurd (cc e)
      off false e = refl

  -- A batch that is held after a step was held before it, and if by this row, it says so still; or this row has taken hold of it.
  abbrev pub HeldBy : ℕ → Type 0
  HeldBy s = ((words_of mem (Slot s BATCH) ≡ HELD) × (s ≡ c.slot → c.held ≡ true → end.0.held ≡ true)) ⊎ ((s ≡ c.slot) × (end.0.held ≡ true))

  same_by : (s : ℕ) → words_of mem2 (Slot s BATCH) ≡ words_of mem (Slot s BATCH) → end.0.held ≡ c.held → words_of mem2 (Slot s BATCH) ≡ HELD → HeldBy s
  same_by s same held h = inl (sym same ∙ h, (λ on was. held ∙ was))

  sees_by : Steps Took value_at mem (plans.sees c) mem2 end → (s : ℕ) → words_of mem2 (Slot s BATCH) ≡ HELD → HeldBy s
  sees_by st s h =
      let d = loaded mem (plans.seen c) (Slot c.slot BATCH) mem2 end st in
      same_by s (ap (λ (k : Mem T). words_of k (Slot s BATCH)) d.2) (plan_outcome (SeesHeld defers c) mem mem2 (plans.sees c) end (sees defers c) st) h

  moves_by : (p : Settling) → c.stands ≡ p → moves_hold p ≡ false → Steps Took value_at mem (plans.plan_at defers c p) mem2 end → (s : ℕ) → words_of mem2 (Slot s BATCH) ≡ HELD → HeldBy s
  moves_by p e o st s h =
      same_by s (plan_same mem s BATCH (plans.plan_at defers c p) mem2 end (settle_quiet defers c p) (spares_at defers c p o) (may p e) st)
      (plan_outcome (Held defers c) mem mem2 (plans.plan_at defers c p) end (held_at defers c p o) st).0 h

  holds_by : Steps Took value_at mem (plans.holds c) mem2 end → (s : ℕ) → words_of mem2 (Slot s BATCH) ≡ HELD → HeldBy s
  holds_by st s h = elim (exchanged mem (plans.taken_hold c) (Slot c.slot BATCH) c.last HELD mem2 end st) as (λ _. HeldBy s) [
    | inl d ↦ let held : end.0.held ≡ true = ap (λ (q : Settle × Settled T). q.0.held) d.3 ∙ onward_held (record c { held = true }) in
        let some : IsSome (word_at mem (Slot c.slot BATCH)) = rw (d.1.0) refl in
        one (eqb s c.slot) refl held (λ e. sym (other_word HELD s some e) ∙ sym (ap (λ (k : Mem T). words_of k (Slot s BATCH)) d.2) ∙ h)
    | inr d ↦ same_by s (ap (λ (q : Mem T). words_of q (Slot s BATCH)) d.2) (ap (λ (q : Settle × Settled T). q.0.held) d.3) h
  ]
    where
      one : (u : Bool) → eqb s c.slot ≡ u → end.0.held ≡ true → (eqb s c.slot ≡ false → words_of mem (Slot s BATCH) ≡ HELD) → HeldBy s
      one true e held other = inr (eqb-true s c.slot e, held)
      one false e held other = inl (other e, (λ on was. held))

  gives_by : Steps Took value_at mem (plans.gives c) mem2 end → c.stands ≡ at.Gives → Over n i m x (bare c) true → (s : ℕ) → words_of mem2 (Slot s BATCH) ≡ HELD → HeldBy s
  gives_by st stands r s h =
      let d = stored {R = Settle × Settled T} mem (λ out. plans.to (record c { held = false; stands = at.Over })) (Slot c.slot BATCH) c.last mem2 end st in
      two d.0 (eqb s c.slot) refl
    where
      holding : (t : Bool) → t ≡ true → MayHold t i m x (bare c) → Holding i m x (bare c) 0 0 []
      holding true e b = b
      holding false e b = absurd (cc e)

      last_apart : (k : ℕ) → c.last ≡ k * 2048 → c.last ≡ 1 → ⊥
      last_apart k e z = omega (arith, e, z)

      two : mem2 ≡ with_word mem (Slot c.slot BATCH) c.last → (u : Bool) → eqb s c.slot ≡ u → HeldBy s
      two is true e =
          let some = (may at.Gives stands).0 in
          let here : words_of mem2 (Slot c.slot BATCH) ≡ c.last =
          ap (λ (k : Mem T). words_of k (Slot c.slot BATCH)) is ∙ ap (λ w. w (Slot c.slot BATCH)) (wrote mem (Slot c.slot BATCH) c.last some).words ∙ write_here (words_of mem) (Slot c.slot BATCH) c.last in
          absurd (last_apart (last_of (m.blocks (m.open_batch c.slot))) (holding c.held r.holds r.rest.batch).last
          (sym here ∙ ap (λ k. words_of mem2 (Slot k BATCH)) (sym (eqb-true s c.slot e)) ∙ h))
      two is false e =
          let some = (may at.Gives stands).0 in
          inl (sym (other_word c.last s some e) ∙ sym (ap (λ (q : Mem T). words_of q (Slot s BATCH)) is) ∙ h, (λ on was. absurd (eqb-false s c.slot e on)))

  pub settle_by : (p : Settling) → c.stands ≡ p → FitsAt n i (view defers mem) m x (bare c) p → Steps Took value_at mem (plans.plan_at defers c p) mem2 end
      → (s : ℕ) → words_of mem2 (Slot s BATCH) ≡ HELD → HeldBy s
  settle_by at.Sees e r st s h = sees_by st s h
  settle_by at.Holds e r st s h = holds_by st s h
  settle_by at.Gives e r st s h = gives_by st e r s h
  settle_by p e r st s h = moves_by p e refl st s h

  -- where it runs alone it stays so with each step
  pub holds_alone : HoldsAlone (view defers mem) c → end.0.slot ≡ c.slot → (p : Settling) → c.stands ≡ p → FitsAt n i (view defers mem) m x (bare c) p
      → Steps Took value_at mem (plans.plan_at defers c p) mem2 end → HoldsAlone (view defers mem2) end.0
  holds_alone alone slot_is p e r st s h = elim (settle_by p e r st s h) as (λ _. (s ≡ end.0.slot) × (end.0.held ≡ true)) [
    | inl was ↦ let k = alone s was.0 in (k.0 ∙ sym slot_is, was.1 k.0 k.1)
    | inr now ↦ (now.0 ∙ sym slot_is, now.1)
  ]

not_goes : {T : Type 0} (o : Settled T) → o ≡ Waits → o ≡ Goes → ⊥
not_goes o e k = cc (e, k)

-- it waits where it finds the batch held, and nowhere else
module _ {T : Type 0} (defers : T → Option ℕ) (mem mem2 : Mem T) (c d : Settle) where
  pub waits_held : (p : Settling) → Steps Took value_at mem (plans.plan_at defers c p) mem2 (d, Waits) → (words_of mem (Slot c.slot BATCH) ≡ HELD) × (p ≡ at.Sees)
  waits_held at.Sees st =
      let k = loaded mem (plans.seen c) (Slot c.slot BATCH) mem2 (d, Waits) st in
      (by k.0 (word_found mem (Slot c.slot BATCH) k.0 k.1) (k.0 == HELD) refl k.3, refl)
    where
      by : (w : ℕ) → words_of mem (Slot c.slot BATCH) ≡ w → (t : Bool) → (w == HELD) ≡ t
          → Ends (value_at mem) (if t then Now (c, Waits) else plans.to (record c { last = w; stands = at.Holds })) (d, Waits) → words_of mem (Slot c.slot BATCH) ≡ HELD
      by w is true e ends = is ∙ grind (arith, e)
      by w is false e ends = absurd (not_goes Waits refl (ap (λ (q : Settle × Settled T). q.1) ends))
  waits_held at.Holds st = elim (exchanged mem (plans.taken_hold c) (Slot c.slot BATCH) c.last HELD mem2 (d, Waits) st) as (λ _. (words_of mem (Slot c.slot BATCH) ≡ HELD) × (at.Holds ≡ at.Sees)) [
    | inl k ↦ absurd (not_goes Waits refl (ap (λ (q : Settle × Settled T). q.1) k.3))
    | inr k ↦ absurd (not_goes Waits refl (ap (λ (q : Settle × Settled T). q.1) k.3))
  ]
  waits_held at.Gives st =
      let k = stored {R = Settle × Settled T} mem (λ out. plans.to (record c { held = false; stands = at.Over })) (Slot c.slot BATCH) c.last mem2 (d, Waits) st in
      absurd (not_goes Waits refl (ap (λ (q : Settle × Settled T). q.1) k.1))
  waits_held p st = absurd ((plan_outcome (Held defers c) mem mem2 (plans.plan_at defers c p) (d, Waits) (held_at defers c p refl) st).1)
