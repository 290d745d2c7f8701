-- A row that reclaims nothing goes on so, by its plan: with a block in the batch that it tries. Where it adds up what it has pushed, it may come to a batch.
use Rattle.std.specs.Prelude.{◌≡◌, ◌≢◌, ℕ, Option, Ok, Err, Bool, true, false, if◌then◌else◌, nat_lt, ◌==◌, ◌+◌, ◌-◌, ◌%◌, ◌^◌}
use Rattle.std.proofs.Common.{refl, ap, sym, subst, eqb-true}
use Rattle.run_shows.specs.Given.SeizeWordsOp.{Out, Found, Exchanged}
use Rattle.run_shows.specs.Given.SeizeWordsMem.{Mem, Took, value_at}
use Rattle.run_shows.specs.Given.SeizeWordsPlan.{Plan, Then, Turn, Do, Now, Seeing, Sure, Steps, Ends}
use Rattle.run_shows.specs.Given.SeizeDeclared.states.TheConstants.{HELD, NEVER, ACTIVE, LAST_SLOT}
use Rattle.run_shows.specs.Given.SeizeDeclared.rows.settle.Settle.{Settle}
use Rattle.run_shows.specs.Given.SeizeDeclared.rows.settle.Settling.{Settling}
use Rattle.run_shows.specs.Given.SeizeDeclared.rows.settle.Settling.TheVariants as at
use Rattle.run_shows.specs.Given.SeizeDeclared.rows.settle.Settled.{Settled}
use Rattle.run_shows.specs.Given.SeizeDeclared.rows.settle.Settled.TheVariants as settled
use Rattle.run_shows.specs.Given.SeizeSettle as plans
use Rattle.run_places.specs.Hands.Rows.{IsAside, SettlesAside, TriesOne}

-- it has nothing to reclaim, no list, and nothing to flush
abbrev pub IsBare : Settle → Type 0
IsBare c = (c.reclaiming ≡ 0) × (c.list ≡ 0) × (c.flushing ≡ false)

-- what is known where it takes a step from here on
abbrev pub KnownAt : (ℕ → Type 0) → Settle → Settling → Type 0
KnownAt One c at.Pops = c.pending ≢ 0
KnownAt One c (at.Counts block) = One c.first
KnownAt One c p = TriesOne One c p

module _ (One : ℕ → Type 0) where
  -- it goes on so
  abbrev pub GoesSo : Settle → Type 0
  GoesSo d = SettlesAside d × TriesOne One d d.stands

  with_aside : (c : Settle) → IsBare c → GoesSo (plans.with_batch c)
  with_aside c q = by c.held c.flushing q.2 (c.last == 0)
    where
      by : (h f : Bool) → f ≡ false → (l : Bool)
          → GoesSo (if h then (if f then (if l then record c { flushing = false; stands = at.Gives } else record c { flushing = false; stands = at.Firsts 0 }) else plans.standing c at.Pops) else plans.standing c at.Sees)
      by true true e l = absurd (cc e)
      by true false e l = ((q.0, q.1, q.2, tt), tt)
      by false f e l = ((q.0, q.1, q.2, tt), tt)

  pub onward_aside : (c : Settle) → IsBare c → GoesSo (plans.onward c)
  onward_aside c q = by (c.reclaiming == 0) refl (c.pending == 0) c.flushing q.2 (nat_lt ACTIVE c.list) refl c.held
    where
      by : (r : Bool) → (c.reclaiming == 0) ≡ r → (p f : Bool) → f ≡ false → (l : Bool) → nat_lt ACTIVE c.list ≡ l → (h : Bool)
          → GoesSo (if r then (if p then (if f then plans.with_batch c else (if l then plans.standing c at.Lists else (if h then plans.standing c at.Gives else plans.standing c at.Over))) else plans.with_batch c) else plans.standing c at.Nexts)
      by true e true true z l g h = absurd (cc z)
      by true e true false z true g h = absurd (let less : nat_lt ACTIVE c.list ≡ false = ap (nat_lt ACTIVE) q.1 in cc (less, g))
      by true e true false z false g true = ((q.0, q.1, q.2, tt), tt)
      by true e true false z false g false = ((q.0, q.1, q.2, tt), tt)
      by true e false f z l g h = with_aside c q
      by false e p f z l g h = absurd (let is : (c.reclaiming == 0) ≡ true = ap (λ (x : ℕ). x == 0) q.0 in cc (is, e))

  closed_aside : (c : Settle) (marks : ℕ) → IsBare c → One c.first → GoesSo (plans.closed c marks)
  closed_aside c marks q one = by (marks == 0)
    where
      by : (a : Bool) → GoesSo (if a then record c { last = 0; stands = at.Sums 0 } else record c { last = 0; stands = at.Reads c.first marks 0 })
      by true = ((q.0, q.1, q.2, tt), one)
      by false = ((q.0, q.1, q.2, tt), one)

  -- from here on it may go, if it has such a block
  abbrev MayStand : Settle → Settling → Type 0
  MayStand c p = IsAside p × TriesOne One c p

  behind_aside : (c : Settle) → One c.first → (slot block marks : ℕ) → MayStand c (plans.behind slot block marks)
  behind_aside c one slot block marks = by (nat_lt slot LAST_SLOT)
    where
      by : (q : Bool) → MayStand c (if q then at.Scans (slot + 1) block marks else at.Closes marks)
      by true = (tt, one)
      by false = (tt, one)

  pushed_aside : (c : Settle) → One c.first → (block left pushed : ℕ) → MayStand c (plans.pushed_of block left pushed)
  pushed_aside c one block left pushed = by (nat_lt 1 left)
    where
      by : (q : Bool) → MayStand c (if q then at.Pushed block (left - 1) pushed else at.Sums pushed)
      by true = (tt, one)
      by false = (tt, one)

  ended_aside : (c : Settle) (block : ℕ) → MayStand c (plans.ended c block)
  ended_aside c block = by (c.last == 0)
    where
      by : (q : Bool) → MayStand c (if q then at.Counts block else at.Appends block)
      by true = (tt, tt)
      by false = (tt, tt)

  goes_to : (c : Settle) → IsBare c → (p : Settling) → MayStand c p → GoesSo (plans.standing c p)
  goes_to c q p may = ((q.0, q.1, q.2, may.0), may.1)

  bare_of : (c : Settle) → SettlesAside c → IsBare c
  bare_of c h = (h.0, h.1, h.2)

  tries_known : (c : Settle) (p : Settling) → KnownAt One c p → TriesOne One c p
  tries_known c at.Pops k = tt
  tries_known c (at.Counts block) k = tt
  tries_known c _ k = k

  module _ {T : Type 0} where
    -- all ends go on so
    abbrev AllOf : Then T (Settle × Settled T) → Type 0
    AllOf (Now r) = GoesSo r.0
    AllOf (Seeing block rest) = (v : T) → AllOf (rest v)
    AllOf (Sure fact rest) = AllOf rest

    ends_of : (shown : ℕ → Option T) (rest : Then T (Settle × Settled T)) (end : Settle × Settled T) → Ends shown rest end → AllOf rest → GoesSo end.0
    ends_of shown (Now r) end h a = subst (λ (q : Settle × Settled T). GoesSo q.0) (sym h) a
    ends_of shown (Seeing block rest) end h a = ends_of shown (rest h.0) end h.2 (a h.0)
    ends_of shown (Sure fact rest) end h a = ends_of shown rest end h a

    either : (t : Bool) (a b : Then T (Settle × Settled T)) → (t ≡ true → AllOf a) → AllOf b → AllOf (if t then a else b)
    either true a b p q = p refl
    either false a b p q = q

    module _ (c : Settle) (h : SettlesAside c) where
      module _ (stays : GoesSo c) where
        seen_of : (out : Out T) → AllOf (plans.seen c out)
        seen_of (Found w) = either (w == HELD) (Now (c, settled.Waits)) (plans.to (record c { last = w; stands = at.Holds })) (λ e. stays) ((h.0, h.1, h.2, tt), tt)
        seen_of _ = stays

        taken_hold_of : (out : Out T) → AllOf (plans.taken_hold c out)
        taken_hold_of (Exchanged (Ok w)) = onward_aside (record c { held = true }) (bare_of c h)
        taken_hold_of (Exchanged (Err w)) = ((h.0, h.1, h.2, tt), tt)
        taken_hold_of _ = stays

        popped_of : c.pending ≢ 0 → (out : Out T) → AllOf (plans.popped c out)
        popped_of some (Found w) =
            either (c.last == 0) (plans.to (record c { pending = w; first = c.pending; stands = at.Batches c.pending })) (plans.to (record c { pending = w; stands = at.Firsts c.pending }))
            (λ e. ((h.0, h.1, h.2, tt), tt)) ((h.0, h.1, h.2, some), tt)
        popped_of some _ = stays

        first_read_of : (block : ℕ) → block ≢ 0 → (out : Out T) → AllOf (plans.first_read c block out)
        first_read_of block some (Found w) =
            either (block == 0) (plans.to (plans.scanning (record c { first = w }))) (plans.to (record c { first = w; stands = at.Batches block }))
            (λ e. absurd (some (eqb-true block 0 e))) ((h.0, h.1, h.2, tt), tt)
        first_read_of block some _ = stays

        module _ (one : One c.first) where
          counted_of : (block : ℕ) (out : Out T) → AllOf (plans.counted c block out)
          counted_of block (Found w) =
              either (nat_lt ((w + 1) % 2 ^ 64) c.batch_size) (plans.to (plans.onward (record c { last = block }))) (plans.to (plans.scanning (record c { last = block })))
              (λ e. onward_aside (record c { last = block }) (bare_of c h)) ((h.0, h.1, h.2, tt), one)
          counted_of block _ = stays

          scanned_of : (slot block marks : ℕ) (out : Out T) → AllOf (plans.scanned c slot block marks out)
          scanned_of slot block marks (Found w) =
              either (w == NEVER) (plans.goes c (at.Closes marks)) (if nat_lt w ACTIVE then plans.goes c (plans.behind slot block marks) else (if block == 0 then plans.to (plans.onward c) else plans.goes c (at.Marks slot block marks)))
              (λ e. goes_to c (bare_of c h) (at.Closes marks) (tt, one))
              (either (nat_lt w ACTIVE) (plans.goes c (plans.behind slot block marks)) (if block == 0 then plans.to (plans.onward c) else plans.goes c (at.Marks slot block marks))
              (λ e. goes_to c (bare_of c h) (plans.behind slot block marks) (behind_aside c one slot block marks))
              (either (block == 0) (plans.to (plans.onward c)) (plans.goes c (at.Marks slot block marks)) (λ e. onward_aside c (bare_of c h)) (goes_to c (bare_of c h) (at.Marks slot block marks) (tt, one))))
          scanned_of slot block marks _ = stays

          marked_next_of : (slot marks : ℕ) (out : Out T) → AllOf (plans.marked_next c slot marks out)
          marked_next_of slot marks (Found w) = goes_to c (bare_of c h) (plans.behind slot w ((marks + 1) % 2 ^ 64)) (behind_aside c one slot w ((marks + 1) % 2 ^ 64))
          marked_next_of slot marks _ = stays

          slot_read_of : (block left pushed : ℕ) (out : Out T) → AllOf (plans.slot_read c block left pushed out)
          slot_read_of block left pushed (Found w) = goes_to (record c { lost = 0 }) (bare_of c h) (at.Links block left pushed w ACTIVE) (tt, one)
          slot_read_of block left pushed _ = stays

          push_told_of : (block left pushed slot : ℕ) (out : Out T) → AllOf (plans.after_push c block left pushed slot out)
          push_told_of block left pushed slot (Exchanged (Ok w)) =
              goes_to c (bare_of c h) (plans.pushed_of block left ((pushed + 1) % 2 ^ 64)) (pushed_aside c one block left ((pushed + 1) % 2 ^ 64))
          push_told_of block left pushed slot (Exchanged (Err w)) = either (plans.needs_none c w) (plans.goes c (plans.pushed_of block left pushed)) (plans.to (record c { lost = c.lost + 1; stands = at.Links block left pushed slot w }))
              (λ e. goes_to c (bare_of c h) (plans.pushed_of block left pushed) (pushed_aside c one block left pushed)) (goes_to (record c { lost = c.lost + 1 }) (bare_of c h) (at.Links block left pushed slot w) (tt, one))
          push_told_of block left pushed slot _ = stays

          next_pushed_of : (left pushed : ℕ) (out : Out T) → AllOf (plans.next_pushed c left pushed out)
          next_pushed_of left pushed (Found w) = goes_to c (bare_of c h) (at.Reads w left pushed) (tt, one)
          next_pushed_of left pushed _ = stays

      abbrev PlanOf : Plan T (Settle × Settled T) → Type 0
      PlanOf (Turn rest) = AllOf rest
      PlanOf (Do op rest) = (out : Out T) → AllOf (rest out)

      plan_of : (defers : T → Option ℕ) (p : Settling) → GoesSo c → IsAside p → KnownAt One c p → ((pushed : ℕ) → p ≡ at.Sums pushed → ⊥) → PlanOf (plans.plan_at defers c p)
      plan_of defers at.Sees s a k never = seen_of s
      plan_of defers at.Holds s a k never = taken_hold_of s
      plan_of defers at.Pops s a k never = popped_of s k
      plan_of defers (at.Firsts block) s a k never = first_read_of s block a
      plan_of defers (at.Batches block) s a k never = λ out. goes_to c (bare_of c h) (at.Ends block) (tt, tt)
      plan_of defers (at.Ends block) s a k never = λ out. goes_to c (bare_of c h) (plans.ended c block) (ended_aside c block)
      plan_of defers (at.Appends block) s a k never = λ out. goes_to c (bare_of c h) (at.Counts block) (tt, tt)
      plan_of defers (at.Counts block) s a k never = counted_of s k block
      plan_of defers (at.Scans slot block marks) s a k never = scanned_of s k slot block marks
      plan_of defers (at.Marks slot block marks) s a k never = λ out. goes_to c (bare_of c h) (at.Marked slot block marks) (tt, k)
      plan_of defers (at.Marked slot block marks) s a k never = marked_next_of s k slot marks
      plan_of defers (at.Closes marks) s a k never = λ out. closed_aside c marks (bare_of c h) k
      plan_of defers (at.Reads block left pushed) s a k never = slot_read_of s k block left pushed
      plan_of defers (at.Links block left pushed slot head) s a k never = λ out. goes_to c (bare_of c h) (at.Pushes block left pushed slot head) (tt, k)
      plan_of defers (at.Pushes block left pushed slot head) s a k never = push_told_of s k block left pushed slot
      plan_of defers (at.Pushed block left pushed) s a k never = next_pushed_of s k left pushed
      plan_of defers (at.Sums pushed) s a k never = absurd (never pushed refl)
      plan_of defers at.Gives s a k never = λ out. ((h.0, h.1, h.2, tt), tt)
      plan_of defers at.Over s a k never = s
      plan_of defers _ s a k never = absurd a

      steps_of : (mem mem2 : Mem T) (plan : Plan T (Settle × Settled T)) (end : Settle × Settled T) → Steps Took value_at mem plan mem2 end → PlanOf plan → GoesSo end.0
      steps_of mem mem2 (Turn rest) end s a = ends_of (value_at mem2) rest end s.1 a
      steps_of mem mem2 (Do op rest) end s a = ends_of (value_at mem2) (rest s.0) end s.2 (a s.0)

      pub goes_aside : (defers : T → Option ℕ) (mem mem2 : Mem T) (end : Settle × Settled T) → KnownAt One c c.stands → ((pushed : ℕ) → c.stands ≡ at.Sums pushed → ⊥)
          → Steps Took value_at mem (plans.settle_plan defers c) mem2 end → GoesSo end.0
      goes_aside defers mem mem2 end known never s =
          steps_of mem mem2 (plans.settle_plan defers c) end s (plan_of defers c.stands (h, tries_known c c.stands known) h.3 known never)
