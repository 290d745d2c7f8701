-- A row within a call that has one block to retire goes on so with each step, by its plan.
use Rattle.std.specs.Prelude.{◌≡◌, ◌≢◌, ℕ, Option, Some, Ok, Err, Bool, true, false, if◌then◌else◌, nat_lt, ◌==◌, ◌+◌, ◌-◌, ◌%◌, ◌^◌}
use Rattle.std.proofs.Common.{refl, ap, sym, subst, eqb-true}
use Rattle.run_places.specs.Given.SeizeWordsDeclared.at.At.TheVariants.{Entry}
use Rattle.run_places.specs.Given.SeizeWordsOp.{Out, Load, Found, Exchanged}
use Rattle.run_places.specs.Given.SeizeWordsMem.{Mem, Took, Gives, value_at, word_at}
use Rattle.run_places.specs.Given.SeizeWordsPlan.{Plan, Then, Turn, Do, Now, Seeing, Sure, Steps, Ends}
use Rattle.run_places.specs.Given.SeizeWordsWord.{block_in}
use Rattle.run_places.specs.Given.SeizeDeclared.states.TheConstants.{HELD, NEVER, ACTIVE, NEXT, LAST_SLOT}
use Rattle.run_places.specs.Given.SeizeDeclared.rows.settle.Settle.{Settle}
use Rattle.run_places.specs.Given.SeizeDeclared.rows.settle.Settling.{Settling}
use Rattle.run_places.specs.Given.SeizeDeclared.rows.settle.Settling.TheVariants as at
use Rattle.run_places.specs.Given.SeizeDeclared.rows.settle.Settled.{Settled}
use Rattle.run_places.specs.Given.SeizeDeclared.rows.settle.Settled.TheVariants as settled
use Rattle.run_places.specs.Given.SeizeSettle as plans
use Rattle.run_places.specs.Hands.Rows.{IsAside, SettlesAside}
use Rattle.run_debts.specs.Entries.{OneAt}

-- its block is told of
abbrev pub IsPast : Settling → Type 0
IsPast at.Sees = ⊥
IsPast at.Holds = ⊥
IsPast at.Pops = ⊥
IsPast (at.Firsts block) = ⊥
IsPast (at.Batches block) = ⊥
IsPast _ = Unit {0}

module _ (Blank : ℕ → Type 0) where
  abbrev pub One : Settle → Type 0
  One d = OneAt Blank d d.stands

  spent_at : (d : Settle) → d.pending ≡ 0 → (p : Settling) → IsPast p → OneAt Blank d p
  spent_at d none at.Sees past = absurd past
  spent_at d none at.Holds past = absurd past
  spent_at d none at.Pops past = absurd past
  spent_at d none (at.Firsts block) past = absurd past
  spent_at d none (at.Batches block) past = absurd past
  spent_at d none _ past = none

  stands_spent : (c : Settle) → c.pending ≡ 0 → (p : Settling) → IsPast p → One (plans.standing c p)
  stands_spent c none p past = spent_at (plans.standing c p) none p past

  -- with nothing to retire it goes on with its list, or gives the batch up, or reclaims
  onward_spent : (c : Settle) → c.pending ≡ 0 → c.flushing ≡ false → One (plans.onward c)
  onward_spent c none steady = by (c.reclaiming == 0) (c.pending == 0) (ap (λ (x : ℕ). x == 0) none) c.flushing steady (nat_lt ACTIVE c.list) c.held
    where
      by : (r p : Bool) → p ≡ true → (f : Bool) → f ≡ false → (l h : Bool)
          → One (if r then (if p then (if f then plans.with_batch c else (if l then plans.standing c at.Lists else (if h then plans.standing c at.Gives else plans.standing c at.Over))) else plans.with_batch c) else plans.standing c at.Nexts)
      by true true e true g l h = absurd (cc g)
      by true true e false g true h = none
      by true true e false g false true = none
      by true true e false g false false = none
      by true false e f g l h = absurd (cc e)
      by false p e f g l h = none

  -- with its block it comes to take hold of the batch, or to take the block
  with_block : (c : Settle) → c.pending ≢ 0 → c.flushing ≡ false → Blank (block_in c.pending) → One (plans.with_batch c)
  with_block c some steady blank = by c.held c.flushing steady (c.last == 0)
    where
      by : (h f : Bool) → f ≡ false → (l : Bool)
          → One (if h then (if f then (if l then record c { flushing = false; stands = at.Gives } else record c { flushing = false; stands = at.Firsts 0 }) else plans.standing c at.Pops) else plans.standing c at.Sees)
      by true true e l = absurd (cc e)
      by true false e l = (some, blank)
      by false f e l = (some, blank)

  onward_block : (c : Settle) → c.reclaiming ≡ 0 → c.pending ≢ 0 → c.flushing ≡ false → Blank (block_in c.pending) → One (plans.onward c)
  onward_block c idle some steady blank =
      by (c.reclaiming == 0) (ap (λ (x : ℕ). x == 0) idle) (c.pending == 0) (λ e. some (eqb-true c.pending 0 e)) c.flushing (nat_lt ACTIVE c.list) c.held
    where
      by : (r : Bool) → r ≡ true → (p : Bool) → (p ≡ true → ⊥) → (f l h : Bool)
          → One (if r then (if p then (if f then plans.with_batch c else (if l then plans.standing c at.Lists else (if h then plans.standing c at.Gives else plans.standing c at.Over))) else plans.with_batch c) else plans.standing c at.Nexts)
      by true e true n f l h = absurd (n refl)
      by true e false n f l h = with_block c some steady blank
      by false e p n f l h = absurd (cc e)

  closed_spent : (c : Settle) (marks : ℕ) → c.pending ≡ 0 → One (plans.closed c marks)
  closed_spent c marks none = by (marks == 0)
    where
      by : (a : Bool) → One (if a then record c { last = 0; stands = at.Sums 0 } else record c { last = 0; stands = at.Reads c.first marks 0 })
      by true = none
      by false = none

  behind_past : (slot block marks : ℕ) → IsPast (plans.behind slot block marks)
  behind_past slot block marks = by (nat_lt slot LAST_SLOT)
    where
      by : (q : Bool) → IsPast (if q then at.Scans (slot + 1) block marks else at.Closes marks)
      by true = tt
      by false = tt

  pushed_past : (block left pushed : ℕ) → IsPast (plans.pushed_of block left pushed)
  pushed_past block left pushed = by (nat_lt 1 left)
    where
      by : (q : Bool) → IsPast (if q then at.Pushed block (left - 1) pushed else at.Sums pushed)
      by true = tt
      by false = tt

  ended_past : (c : Settle) (block : ℕ) → IsPast (plans.ended c block)
  ended_past c block = by (c.last == 0)
    where
      by : (q : Bool) → IsPast (if q then at.Counts block else at.Appends block)
      by true = tt
      by false = tt

  module _ {T : Type 0} where
    -- all ends go on so
    abbrev AllOf : Then T (Settle × Settled T) → Type 0
    AllOf (Now r) = One r.0
    AllOf (Seeing block rest) = (v : T) → AllOf (rest v)
    AllOf (Sure fact rest) = AllOf rest

    ends_of : (shown : ℕ → Option T) (rest : Then T (Settle × Settled T)) (end : Settle × Settled T) → Ends shown rest end → AllOf rest → One end.0
    ends_of shown (Now r) end h a = subst (λ (q : Settle × Settled T). One q.0) (sym h) a
    ends_of shown (Seeing block rest) end h a = ends_of shown (rest h.0) end h.2 (a h.0)
    ends_of shown (Sure fact rest) end h a = ends_of shown rest end h a

    either : (t : Bool) (a b : Then T (Settle × Settled T)) → (t ≡ true → AllOf a) → AllOf b → AllOf (if t then a else b)
    either true a b p q = p refl
    either false a b p q = q

    module _ (m : Mem T) (c : Settle) (aside : SettlesAside c) (stays : One c) where
      idle : c.reclaiming ≡ 0
      idle = aside.0

      steady : c.flushing ≡ false
      steady = aside.2

      seen_one : c.pending ≢ 0 → Blank (block_in c.pending) → (out : Out T) → AllOf (plans.seen c out)
      seen_one some blank (Found w) = either (w == HELD) (Now (c, settled.Waits)) (plans.to (record c { last = w; stands = at.Holds })) (λ e. stays) (some, blank)
      seen_one some blank _ = stays

      held_one : c.pending ≢ 0 → Blank (block_in c.pending) → (out : Out T) → AllOf (plans.taken_hold c out)
      held_one some blank (Exchanged (Ok w)) = onward_block (record c { held = true }) idle some steady blank
      held_one some blank (Exchanged (Err w)) = (some, blank)
      held_one some blank _ = stays

      -- nothing is behind its block
      popped_one : c.pending ≢ 0 → Blank (block_in c.pending) → ((word : ℕ) → word_at m (Entry (block_in c.pending) NEXT) ≡ Some word → word ≡ 0)
          → (out : Out T) → Gives m (Load (Entry (block_in c.pending) NEXT)) out → AllOf (plans.popped c out)
      popped_one some blank next (Found w) g =
          either (c.last == 0) (plans.to (record c { pending = w; first = c.pending; stands = at.Batches c.pending })) (plans.to (record c { pending = w; stands = at.Firsts c.pending }))
          (λ e. (next w g, blank)) (next w g, some, blank)
      popped_one some blank next _ g = stays

      first_one : (block : ℕ) → c.pending ≡ 0 → block ≢ 0 → Blank (block_in block) → (out : Out T) → AllOf (plans.first_read c block out)
      first_one block none some blank (Found w) =
          either (block == 0) (plans.to (plans.scanning (record c { first = w }))) (plans.to (record c { first = w; stands = at.Batches block }))
          (λ e. absurd (some (eqb-true block 0 e))) (none, blank)
      first_one block none some blank _ = stays

      module _ (none : c.pending ≡ 0) where
        goes_to : (p : Settling) → IsPast p → One (plans.standing c p)
        goes_to p past = stands_spent c none p past

        counted_one : (block : ℕ) (out : Out T) → AllOf (plans.counted c block out)
        counted_one block (Found w) =
            either (nat_lt ((w + 1) % 2 ^ 64) c.batch_size) (plans.to (plans.onward (record c { last = block }))) (plans.to (plans.scanning (record c { last = block })))
            (λ e. onward_spent (record c { last = block }) none steady) none
        counted_one block _ = stays

        scanned_one : (slot block marks : ℕ) (out : Out T) → AllOf (plans.scanned c slot block marks out)
        scanned_one slot block marks (Found w) =
            either (w == NEVER) (plans.goes c (at.Closes marks)) (if nat_lt w ACTIVE then plans.goes c (plans.behind slot block marks) else (if block == 0 then plans.to (plans.onward c) else plans.goes c (at.Marks slot block marks)))
            (λ e. none)
            (either (nat_lt w ACTIVE) (plans.goes c (plans.behind slot block marks)) (if block == 0 then plans.to (plans.onward c) else plans.goes c (at.Marks slot block marks))
            (λ e. goes_to (plans.behind slot block marks) (behind_past slot block marks))
            (either (block == 0) (plans.to (plans.onward c)) (plans.goes c (at.Marks slot block marks)) (λ e. onward_spent c none steady) none))
        scanned_one slot block marks _ = stays

        marked_one : (slot marks : ℕ) (out : Out T) → AllOf (plans.marked_next c slot marks out)
        marked_one slot marks (Found w) = goes_to (plans.behind slot w ((marks + 1) % 2 ^ 64)) (behind_past slot w ((marks + 1) % 2 ^ 64))
        marked_one slot marks _ = stays

        read_one : (block left pushed : ℕ) (out : Out T) → AllOf (plans.slot_read c block left pushed out)
        read_one block left pushed (Found w) = none
        read_one block left pushed _ = stays

        push_one : (block left pushed slot : ℕ) (out : Out T) → AllOf (plans.after_push c block left pushed slot out)
        push_one block left pushed slot (Exchanged (Ok w)) = goes_to (plans.pushed_of block left ((pushed + 1) % 2 ^ 64)) (pushed_past block left ((pushed + 1) % 2 ^ 64))
        push_one block left pushed slot (Exchanged (Err w)) =
            either (plans.needs_none c w) (plans.goes c (plans.pushed_of block left pushed)) (plans.to (record c { lost = c.lost + 1; stands = at.Links block left pushed slot w }))
            (λ e. goes_to (plans.pushed_of block left pushed) (pushed_past block left pushed)) none
        push_one block left pushed slot _ = stays

        pushed_one : (left pushed : ℕ) (out : Out T) → AllOf (plans.next_pushed c left pushed out)
        pushed_one left pushed (Found w) = none
        pushed_one left pushed _ = stays

        summed_one : (pushed : ℕ) (out : Out T) → AllOf (plans.summed c pushed out)
        summed_one pushed (Found w) =
            either ((w + pushed) % 2 ^ 64 == 0) (plans.to (plans.onward (record c { reclaiming = c.first; first = 0 }))) (plans.to (plans.onward (record c { first = 0 })))
            (λ e. onward_spent (record c { reclaiming = c.first; first = 0 }) none steady) (onward_spent (record c { first = 0 }) none steady)
        summed_one pushed _ = stays

      abbrev PlanOf : Plan T (Settle × Settled T) → Type 0
      PlanOf (Turn rest) = AllOf rest
      PlanOf (Do op rest) = (out : Out T) → Gives m op out → AllOf (rest out)

      -- what it knows of its block where it takes a step
      plan_of : (defers : T → Option ℕ) (p : Settling) → IsAside p → OneAt Blank c p → (p ≡ at.Pops → (word : ℕ) → word_at m (Entry (block_in c.pending) NEXT) ≡ Some word → word ≡ 0) → PlanOf (plans.plan_at defers c p)
      plan_of defers at.Sees a k next = λ out g. seen_one k.0 k.1 out
      plan_of defers at.Holds a k next = λ out g. held_one k.0 k.1 out
      plan_of defers at.Pops a k next = λ out g. popped_one k.0 k.1 (next refl) out g
      plan_of defers (at.Firsts block) a k next = λ out g. first_one block k.0 k.1 k.2 out
      plan_of defers (at.Batches block) a k next = λ out g. k.0
      plan_of defers (at.Ends block) a k next = λ out g. goes_to k (plans.ended c block) (ended_past c block)
      plan_of defers (at.Appends block) a k next = λ out g. k
      plan_of defers (at.Counts block) a k next = λ out g. counted_one k block out
      plan_of defers (at.Scans slot block marks) a k next = λ out g. scanned_one k slot block marks out
      plan_of defers (at.Marks slot block marks) a k next = λ out g. k
      plan_of defers (at.Marked slot block marks) a k next = λ out g. marked_one k slot marks out
      plan_of defers (at.Closes marks) a k next = λ out g. closed_spent c marks k
      plan_of defers (at.Reads block left pushed) a k next = λ out g. read_one k block left pushed out
      plan_of defers (at.Links block left pushed slot head) a k next = λ out g. k
      plan_of defers (at.Pushes block left pushed slot head) a k next = λ out g. push_one k block left pushed slot out
      plan_of defers (at.Pushed block left pushed) a k next = λ out g. pushed_one k left pushed out
      plan_of defers (at.Sums pushed) a k next = λ out g. summed_one k pushed out
      plan_of defers at.Gives a k next = λ out g. k
      plan_of defers at.Over a k next = stays
      plan_of defers _ a k next = absurd a

      steps_of : (m2 : Mem T) (plan : Plan T (Settle × Settled T)) (end : Settle × Settled T) → Steps Took value_at m plan m2 end → PlanOf plan → One end.0
      steps_of m2 (Turn rest) end s a = ends_of (value_at m2) rest end s.1 a
      steps_of m2 (Do op rest) end s a = ends_of (value_at m2) (rest s.0) end s.2 (a s.0 s.1.0)

      pub goes_one : (defers : T → Option ℕ) (m2 : Mem T) (end : Settle × Settled T) → (c.stands ≡ at.Pops → (word : ℕ) → word_at m (Entry (block_in c.pending) NEXT) ≡ Some word → word ≡ 0)
          → Steps Took value_at m (plans.settle_plan defers c) m2 end → One end.0
      goes_one defers m2 end next s = steps_of m2 (plans.settle_plan defers c) end s (plan_of defers c.stands aside.3 stays next)
