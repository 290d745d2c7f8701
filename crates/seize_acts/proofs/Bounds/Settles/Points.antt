-- Each step of a settling that retires a block or tries its batch lowers what is left, where the word of its batch stays as it has seen it.
use Rattle.std.specs.Prelude.{if◌then◌else◌, nat_lt, ◌==◌, ◌||◌, not, ◌/◌, Option, IsSome}
use Rattle.std.proofs.Common.{◌≡◌, ℕ, ◌+◌, ◌-◌, ◌*◌, ◌%◌, ◌^◌, ◌<◌, ◌≤◌, Bool, true, false, cond, eqb, List, length, refl, arith, ap, sym, subst, inl, inr, eqb-true, ltb-true, ◌∙◌}
use Rattle.std.proofs.lemmas.Bool.{eqb-false, eq-eqb, ne_eqb}
use Rattle.seize_words.specs.declared.at.At.TheVariants.{Slot, Entry}
use Rattle.seize_words.specs.OneMemory.Mem.{Mem, Took, value_at, word_at, with_word}
use Rattle.seize_words.specs.OneMemory.Op.{Found}
use Rattle.seize_words.specs.OneMemory.Plan.{Steps, Ends, Now}
use Rattle.seize_words.proofs.OneMemory.OneOwner.Operations.{loaded, stored, added, exchanged}
use Rattle.seize.specs.declared.states.TheConstants.{HEAD, BATCH, NEXT, LINK, FIRST, COUNT, ACTIVE, NEVER, HELD, LAST_SLOT, MOST_LOST}
use Rattle.seize.specs.declared.rows.settle.Settle.{Settle}
use Rattle.seize.specs.declared.rows.settle.Settling.{Settling}
use Rattle.seize.specs.declared.rows.settle.Settling.TheVariants as at
use Rattle.seize.specs.declared.rows.settle.Settled.{Settled}
use Rattle.seize.specs.declared.rows.settle.Settled.TheVariants.{Goes, Waits}
use Rattle.seize.specs.Settle as plans
use Rattle.seize_model.proofs.Given.SeizeMovesState.Ghost.{State}
use Rattle.seize_model.proofs.Given.SeizeMemoryWords.Named.{words_of, word_found, wrote, link}
use Rattle.seize_model.proofs.Given.SeizeMemoryWords.Chains.{Chain, last_of, waiting}
use Rattle.seize_model.proofs.Given.SeizeMemoryWords.View.{View, view, view_count}
use Rattle.seize_model.proofs.Given.SeizeMemoryWords.Shows.{Extra, Shows}
use Rattle.seize_model.proofs.Given.SeizeRulePoints.Deferred.{puts_none}
use Rattle.seize_model.proofs.Given.SeizeRulePoints.Told.{Plain, Pushing, part_at, Told}
use Rattle.seize_model.proofs.Given.SeizeRulePoints.Known.{Counts as CountsKnown, bare}
use Rattle.seize_acts.proofs.Bounds.Bounds.Hands.{chains_agree}
use Rattle.seize_acts.proofs.Bounds.Bounds.Knows.{is_popped, known_at}
use Rattle.seize_acts.proofs.Bounds.Bounds.Machine.{MOST}
use Rattle.seize_acts.proofs.Bounds.Settles.Carried.{TAKING, PUSHING, SHUTTING, SCANNING, TRYING, FILLING, DRAINING, COUNTING}
use Rattle.seize_acts.proofs.Bounds.Settles.Measure.{point, ahead, behind, SeenAt, goes_onward}
use Rattle.seize_acts.proofs.Bounds.Settles.Step.{Stepping, Less, far, far2, less, on, goes, leaves, owes_less, still_pushing, flush_not, nothing_more}

-- the word of a slot's batch that is not held
pub word_is : (n : ℕ) (f : View) (m : State) (x : Extra) (s : ℕ) → Shows n f m x → s < n → (f.batches s ≡ HELD → ⊥)
    → f.batches s ≡ link (last_of (m.blocks (m.open_batch s)))
word_is n f m x s v lt free = by (eqb (m.holder s) 0) (v.linkage.batched s lt)
  where
    by : (t : Bool) → f.batches s ≡ cond t (link (last_of (m.blocks (m.open_batch s)))) 1 → f.batches s ≡ link (last_of (m.blocks (m.open_batch s)))
    by true e = e
    by false e = absurd (free e)

module _ {T : Type 0} {defers : T → Option ℕ} {j : ℕ} {mem mem2 : Mem T} {m : State} {x : Extra} {c : Settle} {end : Settle × Settled T} {m2 : State} {x2 : Extra}
    (k : Stepping defers j mem mem2 m x c end m2 x2) where
  -- the batch is held

  pub sees_less : c.held ≡ false → Told (LAST_SLOT + 1) j c (part_at c.flushing at.Sees) m end.0 m2 → Steps Took value_at mem (plans.sees c) mem2 end → Less k at.Sees
  sees_less held told st =
      let d = loaded mem (plans.seen c) (Slot c.slot BATCH) mem2 end st in
      one d.0 (d.0 == HELD) refl (word_found mem (Slot c.slot BATCH) d.0 d.1) d.2 d.3
    where
      one : (w : ℕ) (t : Bool) → (w == HELD) ≡ t → words_of mem (Slot c.slot BATCH) ≡ w → mem2 ≡ mem
          → Ends (value_at mem) (if t then Now (c, Waits) else Now (record c { last = w; stands = at.Holds }, Goes)) end → Less k at.Sees
      one w true q word same e = absurd (k.free held (word ∙ eqb-true w HELD q))
      one w false q word same e =
          let now : words_of mem2 (Slot c.slot BATCH) ≡ w = ap (λ (q : Mem T). words_of q (Slot c.slot BATCH)) same ∙ word in
          let a = owes_less k at.Sees (λ z y. flush_not c.flushing z) told in
          goes k at.Sees at.Holds (record c { last = w }) e
          (sym now ∙ word_is (LAST_SLOT + 1) (view defers mem2) m2 x2 c.slot k.shows2 k.there (λ z. eqb-false w HELD q (sym now ∙ z))) a (omega arith)

  pub holds_less : c.held ≡ false → SeenAt m c at.Holds → Told (LAST_SLOT + 1) j c (part_at c.flushing at.Holds) m end.0 m2
      → Steps Took value_at mem (plans.holds c) mem2 end → Less k at.Holds
  holds_less held seen told st = elim (exchanged mem (plans.taken_hold c) (Slot c.slot BATCH) c.last HELD mem2 end st) as (λ _. Less k at.Holds) [
    | inl d ↦ (let a = owes_less k at.Holds (λ z y. flush_not c.flushing z) told in
        let h = ap (λ (t : Bool). ahead t false) held in
        on k at.Holds (record c { held = true }) Goes d.3 0 0 (nothing_more (far2 k) (far k at.Holds) a) (omega (arith, h)))
    | inr d ↦ absurd (d.1.1 (sym (word_found mem (Slot c.slot BATCH) d.0 d.1.0)
        ∙ word_is (LAST_SLOT + 1) (view defers mem) m x c.slot k.shows k.there (k.free held) ∙ sym seen))
  ]

  -- a block goes into it

  pub pops_less : (c.pending ≡ 0 → ⊥) → Told (LAST_SLOT + 1) j c Plain m end.0 m2 → Steps Took value_at mem (plans.pops c) mem2 end → Less k at.Pops
  pops_less some told st =
      let d = loaded mem (plans.popped c) (Entry (c.pending / 2048) NEXT) mem2 end st in
      one d.0 (c.last == 0) (owes_less k at.Pops (λ z y. cc z) told) d.3
    where
      one : (next : ℕ) (t : Bool) → far2 k ≤ far k at.Pops
          → Ends (value_at mem) (if t then plans.to {T = T} (record c { pending = next; first = c.pending; stands = at.Batches c.pending })
          else plans.to (record c { pending = next; stands = at.Firsts c.pending })) end
          → Less k at.Pops
      one next true a e =
          goes k at.Pops (at.Batches c.pending) (record c { pending = next; first = c.pending }) e tt a (omega arith)
      one next false a e =
          let h = ap (λ (t : Bool). cond t (TRYING + 1) 5) (ne_eqb c.pending 0 some) in
          goes k at.Pops (at.Firsts c.pending) (record c { pending = next }) e tt a (omega (arith, h))

  pub firsts_less : (block : ℕ) → Told (LAST_SLOT + 1) j c (part_at c.flushing (at.Firsts block)) m end.0 m2
      → Steps Took value_at mem (plans.firsts c block) mem2 end → Less k (at.Firsts block)
  firsts_less block told st =
      let d = loaded mem (plans.first_read c block) (Entry (c.last / 2048) FIRST) mem2 end st in
      one d.0 (block == 0) refl (owes_less k (at.Firsts block) (λ z y. flush_not (eqb block 0) z) told) d.3
    where
      one : (first : ℕ) (t : Bool) → (block == 0) ≡ t → far2 k ≤ far k (at.Firsts block)
          → Ends (value_at mem) (if t then plans.to {T = T} (plans.scanning (record c { first = first }))
          else plans.to (record c { first = first; stands = at.Batches block })) end
          → Less k (at.Firsts block)
      one first true q a e =
          let h = ap (λ (t : Bool). cond t (TRYING + 1) 5) (eq-eqb block 0 (eqb-true block 0 q)) in
          goes k (at.Firsts block) (at.Scans 0 first 0) (record c { first = first }) e tt a (omega (arith, h))
      one first false q a e =
          let h = ap (λ (t : Bool). cond t (TRYING + 1) 5) (ne_eqb block 0 (eqb-false block 0 q)) in
          goes k (at.Firsts block) (at.Batches block) (record c { first = first }) e tt a (omega (arith, h))

  pub batches_less : (block : ℕ) → Told (LAST_SLOT + 1) j c Plain m end.0 m2 → Steps Took value_at mem (plans.batches c block) mem2 end → Less k (at.Batches block)
  batches_less block told st =
      let d = stored {R = Settle × Settled T} mem (λ out. plans.goes c (at.Ends block)) (Entry (block / 2048) FIRST) c.first mem2 end st in
      let a = owes_less k (at.Batches block) (λ z y. cc z) told in
      goes k (at.Batches block) (at.Ends block) c d.1 tt a (omega arith)

  pub ends_less : (block : ℕ) → Told (LAST_SLOT + 1) j c Plain m end.0 m2 → Steps Took value_at mem (plans.ends c block) mem2 end → Less k (at.Ends block)
  ends_less block told st =
      let d = stored {R = Settle × Settled T} mem (λ out. plans.goes c (plans.ended c block)) (Entry (block / 2048) NEXT) 0 mem2 end st in
      one (c.last == 0) (owes_less k (at.Ends block) (λ z y. cc z) told) d.1
    where
      one : (t : Bool) → far2 k ≤ far k (at.Ends block) → end ≡ (plans.standing c (if t then at.Counts block else at.Appends block), Goes) → Less k (at.Ends block)
      one true a e = goes k (at.Ends block) (at.Counts block) c e tt a (omega arith)
      one false a e = goes k (at.Ends block) (at.Appends block) c e tt a (omega arith)

  pub appends_less : (block : ℕ) → Told (LAST_SLOT + 1) j c Plain m end.0 m2 → Steps Took value_at mem (plans.appends c block) mem2 end → Less k (at.Appends block)
  appends_less block told st =
      let d = stored {R = Settle × Settled T} mem (λ out. plans.goes c (at.Counts block)) (Entry (c.last / 2048) NEXT) block mem2 end st in
      let a = owes_less k (at.Appends block) (λ z y. cc z) told in
      goes k (at.Appends block) (at.Counts block) c d.1 tt a (omega arith)

  -- a block less is to be retired
  module _ (block : ℕ) (r : CountsKnown (LAST_SLOT + 1) j (view defers mem) m x (bare c) block) where
    fewer : (w : ℕ) → IsSome (word_at mem (Entry (c.first / 2048) COUNT)) → mem2 ≡ with_word mem (Entry (c.first / 2048) COUNT) w
        → end.0.pending ≡ c.pending → is_popped end.0.stands ≡ false → length (m2.pending j) + 1 ≡ length (m.pending j)
    fewer w some is same popped =
        let known = known_at (LAST_SLOT + 1) j (view defers mem2) m2 x2 end.0 end.0.stands k.fits2 in
        let nexts : (view defers mem2).nexts ≡ (view defers mem).nexts =
        ap (λ (q : Mem T). (view defers q).nexts) is
        ∙ ap (λ (g : View). g.nexts)
        (view_count defers mem (c.first / 2048) w (with_word mem (Entry (c.first / 2048) COUNT) w) (wrote mem (Entry (c.first / 2048) COUNT) w some)) in
        let was : Chain 0 (view defers mem).nexts c.pending r.bs =
        subst (λ (l : List ℕ). Chain 0 (view defers mem).nexts c.pending (waiting true l)) r.putting.pending
        (subst (λ (t : Bool). Chain 0 (view defers mem).nexts c.pending (waiting t (m.pending j))) r.putting.popped
        (subst (λ (u : ℕ). Chain 0 (view defers mem).nexts u (waiting (x.popped j) (m.pending j))) r.putting.common.pends (k.shows.lists.pended j))) in
        let now : Chain 0 (view defers mem2).nexts c.pending (m2.pending j) =
        subst (λ (t : Bool). Chain 0 (view defers mem2).nexts c.pending (waiting t (m2.pending j))) (known.popped ∙ popped)
        (subst (λ (u : ℕ). Chain 0 (view defers mem2).nexts u (waiting (x2.popped j) (m2.pending j))) (known.common.pends ∙ same) (k.shows2.lists.pended j)) in
        let agree = chains_agree 0 (omega arith) (view defers mem).nexts (view defers mem2).nexts c.pending r.bs (m2.pending j)
        (λ b p. ap (λ (f : ℕ → ℕ). f b) nexts) was now in
        let long = ap (length) (agree) in
        let was_long = ap (length) r.putting.pending in
        omega (arith, long, was_long)

    -- and nothing was put
    none_put : end.0.put_first ≡ c.put_first → length (m2.puts j) ≡ 0
    none_put same =
        let known = known_at (LAST_SLOT + 1) j (view defers mem2) m2 x2 end.0 end.0.stands k.fits2 in
        ap (length) (puts_none (LAST_SLOT + 1) j (view defers mem2) m2 x2 end.0.put_first k.shows2 known.common.put_first (same ∙ r.putting.put))

    filled : (a a2 p p2 u u2 t t2 : ℕ) → a2 ≤ a → t2 ≤ t → p2 + 1 ≡ p → u2 ≡ 0
        → DRAINING * a2 + FILLING * (p2 + u2) + t2 + FILLING ≤ DRAINING * a + FILLING * (p + u) + t + 0
    filled a a2 p p2 u u2 t t2 f g h i = omega (arith, f, g, h, i)

    pub counts_less : Told (LAST_SLOT + 1) j c Plain m end.0 m2 → Steps Took value_at mem (plans.counts c block) mem2 end → Less k (at.Counts block)
    counts_less told st =
        let d = added mem (plans.counted c block) (Entry (c.first / 2048) COUNT) 1 mem2 end st in
        one (nat_lt ((d.0 + 1) % 2 ^ 64) c.batch_size) ((d.0 + 1) % 2 ^ 64) (rw (d.1) refl) d.2
        (subst (λ (q : Mem T). Ends (value_at q) (plans.counted c block (Found d.0)) end) (sym d.2) d.3)
      where
        paid : length (m2.pending j) + 1 ≡ length (m.pending j) → length (m2.puts j) ≡ 0 → far2 k + FILLING ≤ far k (at.Counts block) + 0
        paid f h =
            let a = leaves k (at.Counts block) told in
            filled _ _ (length (m.pending j)) (length (m2.pending j)) (length (m.puts j)) (length (m2.puts j)) _ _ a.lists (a.takes (λ z y. cc z)) f h

        one : (t : Bool) (w : ℕ) → IsSome (word_at mem (Entry (c.first / 2048) COUNT)) → mem2 ≡ with_word mem (Entry (c.first / 2048) COUNT) w
            → Ends (value_at mem2) (if t then plans.to {T = T} (plans.onward (record c { last = block }))
            else plans.to (plans.scanning (record c { last = block }))) end
            → Less k (at.Counts block)
        one true w some is e =
            let o = goes_onward (m2.puts j) (record c { last = block }) in
            let f = fewer w some is (ap (λ (q : Settle × Settled T). q.0.pending) e ∙ o.pending)
            (ap (λ (q : Settle × Settled T). is_popped q.0.stands) e ∙ o.popped) in
            on k (at.Counts block) (record c { last = block }) Goes e FILLING 0
            (paid f (none_put (ap (λ (q : Settle × Settled T). q.0.put_first) e ∙ o.put))) (omega arith)
        one false w some is e =
            let f = fewer w some is (ap (λ (q : Settle × Settled T). q.0.pending) e) (ap (λ (q : Settle × Settled T). is_popped q.0.stands) e) in
            less k (at.Counts block) (plans.scanning (record c { last = block })) Goes e tt FILLING 0
            (paid f (none_put (ap (λ (q : Settle × Settled T). q.0.put_first) e))) (omega arith)

  -- the batch is tried

  behind_less : (p : Settling) (slot block marks : ℕ) → slot < LAST_SLOT + 1 → end ≡ (plans.standing c (plans.behind slot block marks), Goes)
      → far2 k ≤ far k p
      → SCANNING * (LAST_SLOT + 1 - slot) + PUSHING * marks + (SHUTTING + 3) < point c.lost (behind (c.put_last / 2048) (m.puts j)) p + SCANNING
      → PUSHING * marks + SHUTTING < point c.lost (behind (c.put_last / 2048) (m.puts j)) p → Less k p
  behind_less p slot block marks lt e a far_off close = one (nat_lt slot LAST_SLOT) e
    where
      one : (t : Bool) → end ≡ (plans.standing c (if t then at.Scans (slot + 1) block marks else at.Closes marks), Goes) → Less k p
      one true e = goes k p (at.Scans (slot + 1) block marks) c e tt a (omega (arith, far_off, lt))
      one false e = goes k p (at.Closes marks) c e tt a (omega (arith, close))

  pub scans_less : (slot block marks : ℕ) → slot < LAST_SLOT + 1 → Told (LAST_SLOT + 1) j c (part_at c.flushing (at.Scans slot block marks)) m end.0 m2
      → Steps Took value_at mem (plans.scans c slot block marks) mem2 end → Less k (at.Scans slot block marks)
  scans_less slot block marks lt told st =
      let d = loaded mem (plans.scanned c slot block marks) (Slot slot HEAD) mem2 end st in
      one (d.0 == NEVER) (nat_lt d.0 ACTIVE) (block == 0) (owes_less k (at.Scans slot block marks) (λ z y. cc z) told) d.3
    where
      one : (w u z : Bool) → far2 k ≤ far k (at.Scans slot block marks)
          → Ends (value_at mem) (if w then plans.goes {T = T} c (at.Closes marks) else (if u then plans.goes c (plans.behind slot block marks) else
          (if z then plans.to (plans.onward c) else plans.goes c (at.Marks slot block marks)))) end
          → Less k (at.Scans slot block marks)
      one true u z a e = goes k (at.Scans slot block marks) (at.Closes marks) c e tt a (omega arith)
      one false true z a e = behind_less (at.Scans slot block marks) slot block marks lt e a (omega arith) (omega arith)
      one false false true a e = on k (at.Scans slot block marks) c Goes e 0 0 (nothing_more (far2 k) (far k (at.Scans slot block marks)) a) (omega arith)
      one false false false a e = goes k (at.Scans slot block marks) (at.Marks slot block marks) c e tt a (omega arith)

  pub marks_less : (slot block marks : ℕ) → Told (LAST_SLOT + 1) j c (part_at c.flushing (at.Marks slot block marks)) m end.0 m2
      → Steps Took value_at mem (plans.marks_block c slot block marks) mem2 end → Less k (at.Marks slot block marks)
  marks_less slot block marks told st =
      let d = stored {R = Settle × Settled T} mem (λ out. plans.goes c (at.Marked slot block marks)) (Entry (block / 2048) LINK) slot mem2 end st in
      let a = owes_less k (at.Marks slot block marks) (λ z y. cc z) told in
      goes k (at.Marks slot block marks) (at.Marked slot block marks) c d.1 tt a (omega arith)

  pub marked_less : (slot block marks : ℕ) → slot < LAST_SLOT + 1 → Told (LAST_SLOT + 1) j c (part_at c.flushing (at.Marked slot block marks)) m end.0 m2
      → Steps Took value_at mem (plans.marked c slot block marks) mem2 end → Less k (at.Marked slot block marks)
  marked_less slot block marks lt told st =
      let d = loaded mem (plans.marked_next c slot marks) (Entry (block / 2048) NEXT) mem2 end st in
      let a = owes_less k (at.Marked slot block marks) (λ z y. cc z) told in
      let w : (marks + 1) % 2 ^ 64 ≤ marks + 1 = omega arith in
      behind_less (at.Marked slot block marks) slot d.0 ((marks + 1) % 2 ^ 64) lt d.3 a (omega (arith, w)) (omega (arith, w, lt))

  pub closes_less : (marks : ℕ) → Told (LAST_SLOT + 1) j c (part_at c.flushing (at.Closes marks)) m end.0 m2
      → Steps Took value_at mem (plans.closes c marks) mem2 end → Less k (at.Closes marks)
  closes_less marks told st =
      let d = stored {R = Settle × Settled T} mem (λ out. plans.to (plans.closed c marks)) (Entry (c.first / 2048) COUNT) 0 mem2 end st in
      one (marks == 0) (owes_less k (at.Closes marks) (λ z y. cc z) told) d.1
    where
      one : (t : Bool) → far2 k ≤ far k (at.Closes marks)
          → end ≡ ((if t then record c { last = 0; stands = at.Sums 0 } else record c { last = 0; stands = at.Reads c.first marks 0 }), Goes)
          → Less k (at.Closes marks)
      one true a e = goes k (at.Closes marks) (at.Sums 0) (record c { last = 0 }) e tt a (omega arith)
      one false a e = goes k (at.Closes marks) (at.Reads c.first marks 0) (record c { last = 0 }) e tt a (omega arith)

  -- its entries are put

  pub reads_less : (block left pushed : ℕ) → Told (LAST_SLOT + 1) j c Pushing m end.0 m2 → Steps Took value_at mem (plans.reads c block left pushed) mem2 end
      → Less k (at.Reads block left pushed)
  reads_less block left pushed told st =
      let d = loaded mem (plans.slot_read c block left pushed) (Entry (block / 2048) LINK) mem2 end st in
      let a = owes_less k (at.Reads block left pushed)
      (λ z y. still_pushing k (record c { lost = 0; stands = at.Links block left pushed d.0 ACTIVE }) Goes d.3 refl y) told in
      goes k (at.Reads block left pushed) (at.Links block left pushed d.0 ACTIVE) (record c { lost = 0 }) d.3 tt a (omega arith)

  pub links_less : (block left pushed slot head : ℕ) → Told (LAST_SLOT + 1) j c Pushing m end.0 m2
      → Steps Took value_at mem (plans.links c block left pushed slot head) mem2 end → Less k (at.Links block left pushed slot head)
  links_less block left pushed slot head told st =
      let d = stored {R = Settle × Settled T} mem (λ out. plans.goes c (at.Pushes block left pushed slot head)) (Entry (block / 2048) LINK) head mem2 end st in
      let a = owes_less k (at.Links block left pushed slot head)
      (λ z y. still_pushing k (plans.standing c (at.Pushes block left pushed slot head)) Goes d.1 refl y) told in
      goes k (at.Links block left pushed slot head) (at.Pushes block left pushed slot head) c d.1 tt a (omega arith)

  module _ (block left pushed slot head : ℕ) (some : 0 < left) (told : Told (LAST_SLOT + 1) j c Pushing m end.0 m2) where
    abbrev Here : Type 0
    Here = Less k (at.Pushes block left pushed slot head)

    pushed_less : (u : ℕ) → end ≡ (plans.standing c (plans.pushed_of block left u), Goes) → Here
    pushed_less u e = one (nat_lt 1 left) refl e
      where
        one : (t : Bool) → nat_lt 1 left ≡ t → end ≡ (plans.standing c (if t then at.Pushed block (left - 1) u else at.Sums u), Goes) → Here
        one true q e =
            let a = owes_less k (at.Pushes block left pushed slot head)
            (λ z y. still_pushing k (plans.standing c (at.Pushed block (left - 1) u)) Goes e refl y) told in
            goes k (at.Pushes block left pushed slot head) (at.Pushed block (left - 1) u) c e tt a (omega (arith, some))
        one false q e =
            let a = owes_less k (at.Pushes block left pushed slot head) (λ z y. still_pushing k (plans.standing c (at.Sums u)) Goes e refl y) told in
            goes k (at.Pushes block left pushed slot head) (at.Sums u) c e tt a (omega (arith, some))

    pub pushes_less : Steps Took value_at mem (plans.pushes c block left pushed slot head) mem2 end → Here
    pushes_less st = elim (exchanged mem (plans.after_push c block left pushed slot) (Slot slot HEAD) head block mem2 end st) as (λ _. Here) [
      | inl d ↦ pushed_less ((pushed + 1) % 2 ^ 64) d.3
      | inr d ↦ one d.0 (nat_lt d.0 ACTIVE) (nat_lt c.lost MOST_LOST) refl d.3
    ]
      where
        one : (w : ℕ) (a b : Bool) → nat_lt c.lost MOST_LOST ≡ b
            → Ends (value_at mem) (if a || not b then plans.goes {T = T} c (plans.pushed_of block left pushed)
            else plans.to (record c { lost = c.lost + 1; stands = at.Links block left pushed slot w })) end
            → Here
        one w true b q e = pushed_less pushed e
        one w false false q e = pushed_less pushed e
        one w false true q e =
            let lt = ltb-true c.lost MOST_LOST q in
            let a = owes_less k (at.Pushes block left pushed slot head)
            (λ z y. still_pushing k (record c { lost = c.lost + 1; stands = at.Links block left pushed slot w }) Goes e refl y) told in
            goes k (at.Pushes block left pushed slot head) (at.Links block left pushed slot w) (record c { lost = c.lost + 1 }) e tt a (omega (arith, lt))

  pub pushed_goes : (block left pushed : ℕ) → Told (LAST_SLOT + 1) j c Pushing m end.0 m2 → Steps Took value_at mem (plans.pushed_next c block left pushed) mem2 end
      → Less k (at.Pushed block left pushed)
  pushed_goes block left pushed told st =
      let d = loaded mem (plans.next_pushed c left pushed) (Entry (block / 2048) NEXT) mem2 end st in
      let a = owes_less k (at.Pushed block left pushed) (λ z y. still_pushing k (plans.standing c (at.Reads d.0 left pushed)) Goes d.3 refl y) told in
      goes k (at.Pushed block left pushed) (at.Reads d.0 left pushed) c d.3 tt a (omega arith)

  -- the batch may come to nothing at once
  ended : (u v l l2 c c2 : ℕ) → u ≤ v → l2 ≤ MOST → c2 ≤ c → u + (6 * l2 + COUNTING * c2) + 0 ≤ v + (6 * l + COUNTING * c) + TAKING
  ended u v l l2 c c2 f g h = omega (arith, f, g, h)

  pub sums_less : (pushed : ℕ) → Told (LAST_SLOT + 1) j c Pushing m end.0 m2 → Steps Took value_at mem (plans.sums c pushed) mem2 end → Less k (at.Sums pushed)
  sums_less pushed told st =
      let d = added mem (plans.summed c pushed) (Entry (c.first / 2048) COUNT) pushed mem2 end st in
      let a = leaves k (at.Sums pushed) told in
      one ((d.0 + pushed) % 2 ^ 64 == 0)
      (ended _ _ (length (m.left j)) (length (m2.left j)) (length (m.loose j)) (length (m2.loose j)) a.weighs k.few_left a.counts)
      (subst (λ (q : Mem T). Ends (value_at q) (plans.summed c pushed (Found d.0)) end) (sym d.2) d.3)
    where
      one : (t : Bool) → far2 k + 0 ≤ far k (at.Sums pushed) + TAKING
          → Ends (value_at mem2) (if t then plans.to {T = T} (plans.onward (record c { reclaiming = c.first; first = 0 }))
          else plans.to (plans.onward (record c { first = 0 }))) end
          → Less k (at.Sums pushed)
      one true a e = on k (at.Sums pushed) (record c { reclaiming = c.first; first = 0 }) Goes e 0 TAKING a (omega arith)
      one false a e = on k (at.Sums pushed) (record c { first = 0 }) Goes e 0 TAKING a (omega arith)

  -- the batch is given up
  pub gives_less : Told (LAST_SLOT + 1) j c Plain m end.0 m2 → Steps Took value_at mem (plans.gives c) mem2 end → Less k at.Gives
  gives_less told st =
      let d = stored {R = Settle × Settled T} mem (λ out. plans.to (record c { held = false; stands = at.Over })) (Slot c.slot BATCH) c.last mem2 end st in
      let a = owes_less k at.Gives (λ z y. cc z) told in
      goes k at.Gives at.Over (record c { held = false }) d.1 tt a (omega arith)
