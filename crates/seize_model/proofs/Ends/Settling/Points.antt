-- The points of a settling row that lower what is left by themselves: where nothing is retired, reclaimed, taken over or counted.
use Rattle.std.specs.Prelude.{if◌then◌else◌, nat_lt, ◌==◌, ◌/◌, ◌%◌, ◌^◌, Option, Some, None}
use Rattle.std.proofs.Common.{◌≡◌, ℕ, ◌+◌, ◌-◌, ◌*◌, ◌<◌, ◌≤◌, Bool, true, false, cond, eqb, List, refl, arith, ap, sym, subst, eqb-true, ◌∙◌, inl, inr}
use Rattle.std.proofs.lemmas.Bool.{eqb-false, eq-eqb}
use Rattle.seize.specs.Given.SeizeWordsDeclared.at.At.TheVariants.{Slot, Entry}
use Rattle.seize.specs.Given.SeizeWordsMem.{Mem, Took, value_at}
use Rattle.seize.specs.Given.SeizeWordsOp.{Found}
use Rattle.seize.specs.Given.SeizeWordsPlan.{Steps, Ends, Now}
use Rattle.seize.proofs.Given.SeizeWordsOneOwner.Operations.{loaded, stored, added, exchanged, taken as taken_value}
use Rattle.seize.specs.declared.states.TheConstants.{HEAD, BATCH, NEXT, LINK, FIRST, COUNT, ACTIVE, NEVER, HELD, LAST_SLOT}
use Rattle.seize.specs.declared.rows.settle.Settle.{Settle}
use Rattle.seize.specs.declared.rows.settle.Settling.{Settling}
use Rattle.seize.specs.declared.rows.settle.Settling.TheVariants as at
use Rattle.seize.specs.declared.rows.settle.Settled.{Settled}
use Rattle.seize.specs.declared.rows.settle.Settled.TheVariants.{Goes, Waits, Gave}
use Rattle.seize.specs.Settle as plans
use Rattle.seize_rule.proofs.Given.SeizeMovesState.Ghost.{State}
use Rattle.seize_rule.proofs.Given.SeizeMemoryWords.Named.{words_of, word_found}
use Rattle.seize_rule.proofs.Given.SeizeMemoryWords.View.{View, view}
use Rattle.seize_rule.proofs.Given.SeizeMemoryWords.Shows.{Extra}
use Rattle.seize_rule.proofs.Points.Known.{Holds, Pops, bare}
use Rattle.seize_model.proofs.Ends.Batches.Held.{GoesOn}
use Rattle.seize_model.proofs.Ends.Settling.Measure.{point, ahead_of, here, onward_here}

abbrev pick : Bool → ℕ → ℕ → ℕ
pick t k j = cond t k j

pick_same : (a b k j : ℕ) → a ≡ b → cond (eqb a b) k j ≡ k
pick_same a b k j e = ap (λ t. cond t k j) (eq-eqb a b e)

pick_other : (a b k j : ℕ) → (a ≡ b → ⊥) → cond (eqb a b) k j ≡ j
pick_other a b k j ne = one (eqb a b) refl
  where
    one : (t : Bool) → eqb a b ≡ t → cond t k j ≡ j
    one true e = absurd (ne (eqb-true a b e))
    one false e = refl

not_yet : (t : Bool) → t ≡ false → pick t 0 5 ≡ 5
not_yet true e = absurd (cc e)
not_yet false e = refl

word_le : (k : ℕ) → k % 2 ^ 64 ≤ k
word_le k = omega arith

-- what is left at a point
abbrev pub at_point : ℕ → View → List ℕ → Settle → Settling → ℕ
at_point n f puts c p = ahead_of n c + point n f puts c p

module _ {T : Type 0} (defers : T → Option ℕ) (n i : ℕ) (mem mem2 : Mem T) (m : State) (x : Extra) (c : Settle) (end : Settle × Settled T) (puts puts2 : List ℕ) where
  abbrev before : Settling → ℕ
  before p = at_point n (view defers mem) puts c p

  abbrev after : ℕ
  after = here n (view defers mem2) puts2 end.0

  abbrev after_at : Settle → ℕ
  after_at d = here n (view defers mem2) puts2 d

  to : (k : ℕ) (d : Settle) (o : Settled T) → end ≡ (d, o) → after_at d < k → after < k
  to k d o e h = subst (λ (q : Settle × Settled T). after_at q.0 < k) (sym e) h

  on : (k : ℕ) (d : Settle) (o : Settled T) → end ≡ (plans.onward d, o) → ahead_of n d + 6 < k → after < k
  on k d o e h = to k (plans.onward d) o e (let a = onward_here n (view defers mem2) puts2 d in omega (arith, a, h))

  -- the batch is held

  pub sees_falls : GoesOn end.1 → Steps Took value_at mem (plans.sees c) mem2 end → after < before at.Sees
  sees_falls further st =
      let d = loaded mem (plans.seen c) (Slot c.slot BATCH) mem2 end st in
      let word : (view defers mem).batches c.slot ≡ d.0 = word_found mem (Slot c.slot BATCH) d.0 d.1 in
      one d.0 (d.0 == HELD) refl word d.2 d.3
    where
      one : (w : ℕ) (t : Bool) → (w == HELD) ≡ t → (view defers mem).batches c.slot ≡ w → mem2 ≡ mem
          → Ends (value_at mem) (if t then Now (c, Waits) else Now (record c { last = w; stands = at.Holds }, Goes)) end → after < before at.Sees
      one w true q word same e = absurd (subst (λ (o : Settled T). GoesOn o) (ap (λ (r : Settle × Settled T). r.1) e) further)
      one w false q word same e =
          let k = pick_same ((view defers mem2).batches c.slot) w 2 4 (ap (λ (q : Mem T). (view defers q).batches c.slot) same ∙ word) in
          to (before at.Sees) (record c { last = w; stands = at.Holds }) Goes e (omega (arith, k))

  pub holds_falls : Holds n i m x (bare c) → Steps Took value_at mem (plans.holds c) mem2 end → after < before at.Holds
  holds_falls r st = elim (exchanged mem (plans.taken_hold c) (Slot c.slot BATCH) c.last HELD mem2 end st) as (λ _. after < before at.Holds) [
    | inl d ↦ on (before at.Holds) (record c { held = true }) Goes d.3
        (let k = pick_same ((view defers mem).batches c.slot) c.last 2 4 (word_found mem (Slot c.slot BATCH) d.0 d.1.0 ∙ d.1.1) in let h = not_yet c.held r.retiring.holds in omega (arith, k, h))
    | inr d ↦ to (before at.Holds) (record c { last = 0; stands = at.Sees }) Goes d.3
        (let k = pick_other ((view defers mem).batches c.slot) c.last 2 4 (λ e. d.1.1 (sym (word_found mem (Slot c.slot BATCH) d.0 d.1.0) ∙ e)) in omega (arith, k))
  ]

  -- a block goes into it

  pub pops_falls : Pops n i m x (bare c) → Steps Took value_at mem (plans.pops c) mem2 end → after < before at.Pops
  pops_falls r st =
      let d = loaded mem (plans.popped c) (Entry (c.pending / 2048) NEXT) mem2 end st in
      one d.0 (c.last == 0) d.3
    where
      not_none : cond (eqb c.pending 0) (10 * n + 10) 5 ≡ 5
      not_none = pick_other c.pending 0 (10 * n + 10) 5 r.some

      one : (next : ℕ) (t : Bool)
          → Ends (value_at mem) (if t then plans.to {T = T} (record c { pending = next; first = c.pending; stands = at.Batches c.pending }) else plans.to (record c { pending = next; stands = at.Firsts c.pending })) end
          → after < before at.Pops
      one next true e = to (before at.Pops) (record c { pending = next; first = c.pending; stands = at.Batches c.pending }) Goes e (omega arith)
      one next false e = to (before at.Pops) (record c { pending = next; stands = at.Firsts c.pending }) Goes e (omega (arith, not_none))

  pub firsts_falls : (block : ℕ) → Steps Took value_at mem (plans.firsts c block) mem2 end → after < before (at.Firsts block)
  firsts_falls block st =
      let d = loaded mem (plans.first_read c block) (Entry (c.last / 2048) FIRST) mem2 end st in
      one d.0 (block == 0) refl d.3
    where
      one : (first : ℕ) (t : Bool) → (block == 0) ≡ t
          → Ends (value_at mem) (if t then plans.to {T = T} (plans.scanning (record c { first = first })) else plans.to (record c { first = first; stands = at.Batches block })) end
          → after < before (at.Firsts block)
      one first true q e =
          let k = pick_same block 0 (10 * n + 10) 5 (eqb-true block 0 q) in
          to (before (at.Firsts block)) (plans.scanning (record c { first = first })) Goes e (omega (arith, k))
      one first false q e =
          let k = pick_other block 0 (10 * n + 10) 5 (eqb-false block 0 q) in
          to (before (at.Firsts block)) (record c { first = first; stands = at.Batches block }) Goes e (omega (arith, k))

  pub batches_falls : (block : ℕ) → Steps Took value_at mem (plans.batches c block) mem2 end → after < before (at.Batches block)
  batches_falls block st =
      let d = stored {R = Settle × Settled T} mem (λ out. plans.goes c (at.Ends block)) (Entry (block / 2048) FIRST) c.first mem2 end st in
      to (before (at.Batches block)) (plans.standing c (at.Ends block)) Goes d.1 (omega arith)

  pub ends_falls : (block : ℕ) → Steps Took value_at mem (plans.ends c block) mem2 end → after < before (at.Ends block)
  ends_falls block st =
      let d = stored {R = Settle × Settled T} mem (λ out. plans.goes c (plans.ended c block)) (Entry (block / 2048) NEXT) 0 mem2 end st in
      to (before (at.Ends block)) (plans.standing c (plans.ended c block)) Goes d.1 (one (c.last == 0))
    where
      one : (t : Bool) → after_at (plans.standing c (if t then at.Counts block else at.Appends block)) < before (at.Ends block)
      one true = omega arith
      one false = omega arith

  pub appends_falls : (block : ℕ) → Steps Took value_at mem (plans.appends c block) mem2 end → after < before (at.Appends block)
  appends_falls block st =
      let d = stored {R = Settle × Settled T} mem (λ out. plans.goes c (at.Counts block)) (Entry (c.last / 2048) NEXT) block mem2 end st in
      to (before (at.Appends block)) (plans.standing c (at.Counts block)) Goes d.1 (omega arith)

  -- it is retired
  pub counts_falls : (block : ℕ) → Steps Took value_at mem (plans.counts c block) mem2 end → after < before (at.Counts block) + (10 * n + 9)
  counts_falls block st =
      let d = added mem (plans.counted c block) (Entry (c.first / 2048) COUNT) 1 mem2 end st in
      one d.0 (nat_lt ((d.0 + 1) % 2 ^ 64) c.batch_size) (subst (λ (q : Mem T). Ends (value_at q) (plans.counted c block (Found d.0)) end) (sym d.2) d.3)
    where
      one : (w : ℕ) (t : Bool) → Ends (value_at mem2) (if t then plans.to {T = T} (plans.onward (record c { last = block })) else plans.to (plans.scanning (record c { last = block }))) end
          → after < before (at.Counts block) + (10 * n + 9)
      one w true e = on (before (at.Counts block) + (10 * n + 9)) (record c { last = block }) Goes e (omega arith)
      one w false e = to (before (at.Counts block) + (10 * n + 9)) (plans.scanning (record c { last = block })) Goes e (omega arith)

  -- the batch is tried

  behind_falls : (slot block marks k : ℕ) → slot < n → 10 * (n - slot) + 6 * marks + ahead_of n c < k + 1 → 6 * marks + 8 + ahead_of n c < k
      → after_at (plans.standing c (plans.behind slot block marks)) < k
  behind_falls slot block marks k lt a b = one (nat_lt slot LAST_SLOT)
    where
      one : (t : Bool) → after_at (plans.standing c (if t then at.Scans (slot + 1) block marks else at.Closes marks)) < k
      one true = omega (arith, lt, a)
      one false = omega (arith, b)

  pub scans_falls : (slot block marks : ℕ) → slot < n → Steps Took value_at mem (plans.scans c slot block marks) mem2 end → after < before (at.Scans slot block marks)
  scans_falls slot block marks lt st =
      let d = loaded mem (plans.scanned c slot block marks) (Slot slot HEAD) mem2 end st in
      one d.0 (d.0 == NEVER) (nat_lt d.0 ACTIVE) (block == 0) d.3
    where
      one : (w : ℕ) (t u z : Bool)
          → Ends (value_at mem) (if t then plans.goes {T = T} c (at.Closes marks) else (if u then plans.goes c (plans.behind slot block marks) else (if z then plans.to (plans.onward c) else plans.goes c (at.Marks slot block marks)))) end
          → after < before (at.Scans slot block marks)
      one w true u z e = to (before (at.Scans slot block marks)) (plans.standing c (at.Closes marks)) Goes e (omega (arith, lt))
      one w false true z e =
          to (before (at.Scans slot block marks)) (plans.standing c (plans.behind slot block marks)) Goes e (behind_falls slot block marks (before (at.Scans slot block marks)) lt (omega (arith, lt)) (omega (arith, lt)))
      one w false false true e = on (before (at.Scans slot block marks)) c Goes e (omega (arith, lt))
      one w false false false e = to (before (at.Scans slot block marks)) (plans.standing c (at.Marks slot block marks)) Goes e (omega (arith, lt))

  pub marks_falls : (slot block marks : ℕ) → slot < n → Steps Took value_at mem (plans.marks_block c slot block marks) mem2 end → after < before (at.Marks slot block marks)
  marks_falls slot block marks lt st =
      let d = stored {R = Settle × Settled T} mem (λ out. plans.goes c (at.Marked slot block marks)) (Entry (block / 2048) LINK) slot mem2 end st in
      to (before (at.Marks slot block marks)) (plans.standing c (at.Marked slot block marks)) Goes d.1 (omega (arith, lt))

  pub marked_falls : (slot block marks : ℕ) → slot < n → Steps Took value_at mem (plans.marked c slot block marks) mem2 end → after < before (at.Marked slot block marks)
  marked_falls slot block marks lt st =
      let d = loaded mem (plans.marked_next c slot marks) (Entry (block / 2048) NEXT) mem2 end st in
      let w = word_le (marks + 1) in
      to (before (at.Marked slot block marks)) (plans.standing c (plans.behind slot d.0 ((marks + 1) % 2 ^ 64))) Goes d.3
      (behind_falls slot d.0 ((marks + 1) % 2 ^ 64) (before (at.Marked slot block marks)) lt (omega (arith, lt, w)) (omega (arith, lt, w)))

  pub closes_falls : (marks : ℕ) → Steps Took value_at mem (plans.closes c marks) mem2 end → after < before (at.Closes marks)
  closes_falls marks st =
      let d = stored {R = Settle × Settled T} mem (λ out. plans.to (plans.closed c marks)) (Entry (c.first / 2048) COUNT) 0 mem2 end st in
      to (before (at.Closes marks)) (plans.closed c marks) Goes d.1 (one (marks == 0))
    where
      one : (t : Bool) → after_at (if t then record c { last = 0; stands = at.Sums 0 } else record c { last = 0; stands = at.Reads c.first marks 0 }) < before (at.Closes marks)
      one true = omega arith
      one false = omega arith

  -- its entries are put

  pub reads_falls : (block left pushed : ℕ) → Steps Took value_at mem (plans.reads c block left pushed) mem2 end → after < before (at.Reads block left pushed)
  reads_falls block left pushed st =
      let d = loaded mem (plans.slot_read c block left pushed) (Entry (block / 2048) LINK) mem2 end st in
      to (before (at.Reads block left pushed)) (record c { lost = 0; stands = at.Links block left pushed d.0 ACTIVE }) Goes d.3 (one (eqb ((view defers mem2).heads d.0) ACTIVE))
    where
      one : (t : Bool) → ahead_of n c + (6 * left + cond t 4 6) < before (at.Reads block left pushed)
      one true = omega arith
      one false = omega arith

  pub links_falls : (block left pushed slot head : ℕ) → Steps Took value_at mem (plans.links c block left pushed slot head) mem2 end → after < before (at.Links block left pushed slot head)
  links_falls block left pushed slot head st =
      let d = stored {R = Settle × Settled T} mem (λ out. plans.goes c (at.Pushes block left pushed slot head)) (Entry (block / 2048) LINK) head mem2 end st in
      let same : (view defers mem2).heads slot ≡ (view defers mem).heads slot = ap (λ (q : Mem T). words_of q (Slot slot HEAD)) d.0 in
      to (before (at.Links block left pushed slot head)) (plans.standing c (at.Pushes block left pushed slot head)) Goes d.1
      (one (eqb ((view defers mem2).heads slot) head) (eqb ((view defers mem).heads slot) head) (ap (λ k. eqb k head) same))
    where
      one : (t u : Bool) → t ≡ u → ahead_of n c + (6 * left + cond t 3 5) < ahead_of n c + (6 * left + cond u 4 6)
      one true true e = omega arith
      one true false e = absurd (cc e)
      one false true e = absurd (cc e)
      one false false e = omega arith

  pushed_of_falls : (block left pushed k : ℕ) → 0 < left → 6 * left + 2 + ahead_of n c < k → 7 + ahead_of n c < k → after_at (plans.standing c (plans.pushed_of block left pushed)) < k
  pushed_of_falls block left pushed k some a b = one (nat_lt 1 left)
    where
      one : (t : Bool) → after_at (plans.standing c (if t then at.Pushed block (left - 1) pushed else at.Sums pushed)) < k
      one true = omega (arith, a, some)
      one false = omega (arith, b)

  pub pushes_falls : (block left pushed slot head : ℕ) → 0 < left → Steps Took value_at mem (plans.pushes c block left pushed slot head) mem2 end → after < before (at.Pushes block left pushed slot head)
  pushes_falls block left pushed slot head some st =
      let k = at_least (eqb ((view defers mem).heads slot) head) in
      elim (exchanged mem (plans.after_push c block left pushed slot) (Slot slot HEAD) head block mem2 end st) as (λ _. after < before (at.Pushes block left pushed slot head)) [
        | inl d ↦ to (before (at.Pushes block left pushed slot head)) (plans.standing c (plans.pushed_of block left ((pushed + 1) % 2 ^ 64))) Goes d.3
            (pushed_of_falls block left ((pushed + 1) % 2 ^ 64) (before (at.Pushes block left pushed slot head)) some (omega (arith, k)) (omega (arith, k, some)))
        | inr d ↦ let word = word_found mem (Slot slot HEAD) d.0 d.1.0 in
            one d.0 (plans.needs_none c d.0) (pick_other ((view defers mem).heads slot) head 3 5 (λ e. d.1.1 (sym word ∙ e))) (ap (λ (q : Mem T). words_of q (Slot slot HEAD)) d.2 ∙ word) d.3
      ]
    where
      at_least : (t : Bool) → 3 ≤ pick t 3 5
      at_least true = omega arith
      at_least false = omega arith

      one : (w : ℕ) (t : Bool) → pick (eqb ((view defers mem).heads slot) head) 3 5 ≡ 5 → (view defers mem2).heads slot ≡ w
          → Ends (value_at mem) (if t then plans.goes {T = T} c (plans.pushed_of block left pushed) else plans.to (record c { lost = c.lost + 1; stands = at.Links block left pushed slot w })) end
          → after < before (at.Pushes block left pushed slot head)
      one w true k word e =
          to (before (at.Pushes block left pushed slot head)) (plans.standing c (plans.pushed_of block left pushed)) Goes e
          (pushed_of_falls block left pushed (before (at.Pushes block left pushed slot head)) some (omega (arith, k)) (omega (arith, k, some)))
      one w false k word e =
          let q = pick_same ((view defers mem2).heads slot) w 4 6 word in
          to (before (at.Pushes block left pushed slot head)) (record c { lost = c.lost + 1; stands = at.Links block left pushed slot w }) Goes e (omega (arith, k, q))

  pub pushed_falls : (block left pushed : ℕ) → Steps Took value_at mem (plans.pushed_next c block left pushed) mem2 end → after < before (at.Pushed block left pushed)
  pushed_falls block left pushed st =
      let d = loaded mem (plans.next_pushed c left pushed) (Entry (block / 2048) NEXT) mem2 end st in
      to (before (at.Pushed block left pushed)) (plans.standing c (at.Reads d.0 left pushed)) Goes d.3 (omega arith)

  pub sums_falls : (pushed : ℕ) → Steps Took value_at mem (plans.sums c pushed) mem2 end → after < before (at.Sums pushed)
  sums_falls pushed st =
      let d = added mem (plans.summed c pushed) (Entry (c.first / 2048) COUNT) pushed mem2 end st in
      one ((d.0 + pushed) % 2 ^ 64 == 0) (subst (λ (q : Mem T). Ends (value_at q) (plans.summed c pushed (Found d.0)) end) (sym d.2) d.3)
    where
      one : (t : Bool) → Ends (value_at mem2) (if t then plans.to {T = T} (plans.onward (record c { reclaiming = c.first; first = 0 })) else plans.to (plans.onward (record c { first = 0 }))) end
          → after < before (at.Sums pushed)
      one true e = on (before (at.Sums pushed)) (record c { reclaiming = c.first; first = 0 }) Goes e (omega arith)
      one false e = on (before (at.Sums pushed)) (record c { first = 0 }) Goes e (omega arith)

  -- a batch is reclaimed

  pub nexts_falls : Steps Took value_at mem (plans.nexts defers c) mem2 end → after < before at.Nexts
  nexts_falls st =
      let d = loaded mem (plans.next_read defers c) (Entry (c.reclaiming / 2048) NEXT) mem2 end st in
      let q : (value : T) × (value_at mem (c.reclaiming / 2048) ≡ Some value) × Ends (value_at mem) (plans.drained_first c d.0 (defers value)) end = d.3 in
      one d.0 (defers q.0) q.2
    where
      one : (next : ℕ) (o : Option ℕ) → Ends (value_at mem) (plans.drained_first {T = T} c next o) end → after < before at.Nexts
      one next None e = to (before at.Nexts) (plans.standing c (at.Takes next)) Goes e (omega arith)
      one next (Some word) e = to (before at.Nexts) (plans.standing c (at.Drains next word)) Goes e (omega arith)

  -- a block is reclaimed
  pub takes_falls : (next : ℕ) → Steps Took value_at mem (plans.takes c next) mem2 end → after < before (at.Takes next) + 6
  takes_falls next st =
      let d = taken_value {R = Settle × Settled T} mem (plans.given_back c next) (c.reclaiming / 2048) mem2 end st in
      to (before (at.Takes next) + 6) (plans.without_block c next) (Gave d.0) d.3 (one (next == 0) (c.put_first == 0) (c.pending == 0))
    where
      past : (d : Settle) → ahead_of n d ≡ ahead_of n c → after_at (plans.onward d) < before (at.Takes next) + 6
      past d e = let a = onward_here n (view defers mem2) puts2 d in omega (arith, a, e)

      one : (t u z : Bool)
          → after_at (if t then (if u then plans.onward (record c { reclaiming = next }) else (if z then plans.with_put (record c { reclaiming = next }) else record c { reclaiming = next; stands = at.Puts })) else plans.onward (record c { reclaiming = next })) < before (at.Takes next) + 6
      one true true z = past (record c { reclaiming = next }) refl
      one true false true = past (record c { reclaiming = next; pending = c.put_first; put_first = 0; put_last = 0 }) refl
      one true false false = omega arith
      one false u z = past (record c { reclaiming = next }) refl

  pub puts_falls : Steps Took value_at mem (plans.puts c) mem2 end → after < before at.Puts
  puts_falls st =
      let d = stored {R = Settle × Settled T} mem (λ out. plans.to (plans.with_put c)) (Entry (c.put_last / 2048) NEXT) c.pending mem2 end st in
      on (before at.Puts) (record c { pending = c.put_first; put_first = 0; put_last = 0 }) Goes d.1 (omega arith)

  -- entries are counted

  pub lists_falls : Steps Took value_at mem (plans.lists c) mem2 end → after < before at.Lists
  lists_falls st =
      let d = loaded mem (plans.entry_read c) (Entry (c.list / 2048) LINK) mem2 end st in
      to (before at.Lists) (plans.standing c (at.Owns d.0)) Goes d.3 (omega arith)

  pub owns_falls : (next : ℕ) → Steps Took value_at mem (plans.owns c next) mem2 end → after < before (at.Owns next)
  owns_falls next st =
      let d = loaded mem (plans.batch_read c next) (Entry (c.list / 2048) FIRST) mem2 end st in
      to (before (at.Owns next)) (plans.standing c (at.Downs next d.0)) Goes d.3 (omega arith)

  pub downs_falls : (next batch : ℕ) → Steps Took value_at mem (plans.downs c next batch) mem2 end → after < before (at.Downs next batch) + 6
  downs_falls next batch st =
      let d = added mem (plans.counted_down c next batch) (Entry (batch / 2048) COUNT) (2 ^ 64 - 1) mem2 end st in
      one (d.0 == 1) (subst (λ (q : Mem T). Ends (value_at q) (plans.counted_down c next batch (Found d.0)) end) (sym d.2) d.3)
    where
      one : (t : Bool) → Ends (value_at mem2) (if t then plans.to {T = T} (plans.onward (record c { list = next; reclaiming = batch })) else plans.to (plans.onward (record c { list = next }))) end
          → after < before (at.Downs next batch) + 6
      one true e = on (before (at.Downs next batch) + 6) (record c { list = next; reclaiming = batch }) Goes e (omega arith)
      one false e = on (before (at.Downs next batch) + 6) (record c { list = next }) Goes e (omega arith)

  pub gives_falls : Steps Took value_at mem (plans.gives c) mem2 end → after < before at.Gives
  gives_falls st =
      let d = stored {R = Settle × Settled T} mem (λ out. plans.to (record c { held = false; stands = at.Over })) (Slot c.slot BATCH) c.last mem2 end st in
      to (before at.Gives) (record c { held = false; stands = at.Over }) Goes d.1 (omega arith)
