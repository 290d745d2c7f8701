-- What a step of a row within a call hands over was on its way to the collector: nobody has it in use.
use Rattle.std.specs.Prelude.{◌≡◌, ◌≢◌, ℕ, ◌%◌, ◌+◌, ◌^◌, ◌/◌, ◌==◌, Bool, true, false, length, Option, Some, None, Ok, Err, IsSome, if◌then◌else◌, ◌⊎◌}
use Rattle.std.proofs.Common.{refl, ap, sym, subst, ◌∙◌, arith, inl, inr}
use Rattle.std.proofs.lemmas.Bool.{eq-eqb}
use Rattle.run_shows.specs.Given.SeizeWordsDeclared.at.At.{At}
use Rattle.run_shows.specs.Given.SeizeWordsDeclared.at.At.TheVariants.{Root, Used, Slot, Entry, Word}
use Rattle.run_shows.specs.Given.SeizeWordsMem.{Mem, Can, Took, Gives, same_at, value_at, value_in, word_at, block_of, with_word, after}
use Rattle.run_shows.specs.Given.SeizeWordsOp.{Op, Out, Load, Store, Swap, Add, Or, Exchange, Make, Take, Rewrite, Room, Found, Stored, Exchanged, Made, Taken, Roomed}
use Rattle.run_shows.specs.Given.SeizeWordsPlan.{Plan, Turn, Do, May, Steps}
use Rattle.run_shows.specs.Given.SeizeWordsWord.{block_in}
use Rattle.run_shows.proofs.Given.SeizeWordsOneOwner.AfterWrites.{word_at-with_word, block_of-with_block}
use Rattle.run_shows.specs.Given.SeizeDeclared.advance.Advance.{Advance}
use Rattle.run_shows.specs.Given.SeizeDeclared.advance.Advance.TheVariants as progress
use Rattle.run_shows.specs.Given.SeizeDeclared.rows.defer.Defer.{Defer}
use Rattle.run_shows.specs.Given.SeizeDeclared.rows.defer.Deferring.{Deferring}
use Rattle.run_shows.specs.Given.SeizeDeclared.rows.defer.Deferring.TheVariants as deferring
use Rattle.run_shows.specs.Given.SeizeDeclared.rows.settle.Settle.{Settle}
use Rattle.run_shows.specs.Given.SeizeDeclared.rows.settle.Settled.{Settled}
use Rattle.run_shows.specs.Given.SeizeDeclared.rows.settle.Settled.TheVariants as settled
use Rattle.run_shows.specs.Given.SeizeDeclared.rows.settle.Settling.{Settling}
use Rattle.run_shows.specs.Given.SeizeDeclared.rows.settle.Settling.TheVariants as at
use Rattle.run_shows.specs.Given.SeizeDeclared.states.TheConstants.{FIRST, LAST_SLOT}
use Rattle.run_shows.specs.Given.SeizeDefer as defer
use Rattle.run_shows.specs.Given.SeizeSettle.{settle_plan, plan_at}
use Rattle.run_shows.specs.Given.SeizeWorld.{World, Row, Rests, Registers, Enters, Settles, Leaves, Defers, Frees, Steps', settles_on, defers_on}
use Rattle.run_shows.proofs.Given.SeizeAloneHistories.Reached.{Reached}
use Rattle.run_shows.proofs.Given.SeizeMovesState.Ghost.{IsPending}
use Rattle.run_shows.proofs.Given.SeizeRulePoints.Aside.{is_handed}
use Rattle.run_shows.proofs.Given.SeizeRulePoints.Known.{FitsAt, bare}
use Rattle.run_shows.proofs.Given.SeizeRulePoints.Retire.{of_link}
use Rattle.run_shows.proofs.Given.SeizeRuleRows.Known.{FitsDefer, FitsRow}
use Rattle.run_shows.proofs.Given.SeizeMemoryWords.Apart.{is_pending_first}
use Rattle.run_shows.proofs.Given.SeizeMemoryWords.Named.{same_at-true, block_there}
use Rattle.run_shows.proofs.Given.SeizeMemoryWords.View.{view}
use Rattle.run_shows.proofs.Given.SeizeRuleWorld.Good.{Good}
use Rattle.run_shows.proofs.Given.SeizeRuleWorld.Kept.{row_may}

-- none of the words with which a block is handed over: that which links to the first one of its batch, and a user's
abbrev pub IsAside : At → Type 0
IsAside (Entry b f) = f ≢ FIRST
IsAside (Word b f) = ⊥
IsAside _ = Unit {0}

-- such a word
abbrev pub IsHanding : At → Type 0
IsHanding (Entry b f) = f ≡ FIRST
IsHanding (Word b f) = Unit {0}
IsHanding _ = ⊥

never_both : (x y : At) → x ≡ y → IsAside y → IsHanding x → ⊥
never_both x y e aside handing = by x (subst IsAside (sym e) aside) handing
  where
    by : (z : At) → IsAside z → IsHanding z → ⊥
    by (Root r) a h = h
    by (Used r) a h = h
    by (Slot s f) a h = h
    by (Entry b f) a h = a h
    by (Word b f) a h = a

module _ {T : Type 0} where
  abbrev pub IsAsideOp : Op T → Type 0
  IsAsideOp (Load x) = Unit {0}
  IsAsideOp (Store x v) = IsAside x
  IsAsideOp (Swap x v) = IsAside x
  IsAsideOp (Add x v) = IsAside x
  IsAsideOp (Or x v) = IsAside x
  IsAsideOp (Exchange x old new) = IsAside x
  IsAsideOp (Make value words) = ⊥
  IsAsideOp (Take b) = Unit {0}
  IsAsideOp (Rewrite b value) = ⊥
  IsAsideOp (Room bucket) = Unit {0}

  abbrev pub IsAsidePlan : {R : Type 0} → Plan T R → Type 0
  IsAsidePlan (Turn rest) = Unit {0}
  IsAsidePlan (Do op rest) = IsAsideOp op

  module _ (m m2 : Mem T) (x : At) (handing : IsHanding x) (old new : ℕ) (was : word_at m x ≡ Some old) (is : word_at m2 x ≡ Some new) where
    same_word : word_at m2 x ≡ word_at m x → new ≡ old
    same_word e = let both : Some new ≡ Some old = sym is ∙ e ∙ was in cc both

    -- a word beside it was written
    beside : (y : At) (v : ℕ) → IsSome (word_at m y) → IsAside y → m2 ≡ with_word m y v → new ≡ old
    beside y v some aside e = same_word (ap (λ (n : Mem T). word_at n x) e ∙ word_at-with_word m y v x some ∙ ap (λ (q : Bool). if q then Some v else word_at m x) (other (same_at x y) refl))
      where
        other : (q : Bool) → same_at x y ≡ q → same_at x y ≡ false
        other false e = e
        other true e = absurd (never_both x y (same_at-true x y e) aside handing)

    same_memory : m2 ≡ m → new ≡ old
    same_memory e = same_word (ap (λ (n : Mem T). word_at n x) e)

    room_word : (bucket : ℕ) → m2 ≡ after m (Room bucket) (Roomed (Ok tt)) → new ≡ old
    room_word bucket e = same_word (ap (λ (n : Mem T). word_at n x) e ∙ by x handing)
      where
        by : (y : At) → IsHanding y → word_at (after m (Room bucket) (Roomed (Ok tt))) y ≡ word_at m y
        by (Root r) h = absurd h
        by (Used r) h = absurd h
        by (Slot s f) h = absurd h
        by (Entry b f) h = refl
        by (Word b f) h = refl

    module _ (values : (b : ℕ) → value_at m2 b ≡ value_at m b) where
      op_aside : (op : Op T) (out : Out T) → IsAsideOp op → Can m op → Gives m op out → m2 ≡ after m op out → new ≡ old
      op_aside (Load y) out aside can gives e = same_memory e
      op_aside (Store y v) out aside can gives e = beside y v can aside e
      op_aside (Swap y v) out aside can gives e = beside y v can aside e
      op_aside (Add y v) (Found a) aside can gives e = beside y ((a + v) % 2 ^ 64) can aside e
      op_aside (Add y v) Stored aside can gives e = absurd gives
      op_aside (Add y v) (Exchanged got) aside can gives e = absurd gives
      op_aside (Add y v) (Made got) aside can gives e = absurd gives
      op_aside (Add y v) (Taken got) aside can gives e = absurd gives
      op_aside (Add y v) (Roomed got) aside can gives e = absurd gives
      op_aside (Or y v) (Found a) aside can gives e = beside y _ can aside e
      op_aside (Or y v) Stored aside can gives e = absurd gives
      op_aside (Or y v) (Exchanged got) aside can gives e = absurd gives
      op_aside (Or y v) (Made got) aside can gives e = absurd gives
      op_aside (Or y v) (Taken got) aside can gives e = absurd gives
      op_aside (Or y v) (Roomed got) aside can gives e = absurd gives
      op_aside (Exchange y a b) (Exchanged (Ok got)) aside can gives e = beside y b can aside e
      op_aside (Exchange y a b) (Exchanged (Err got)) aside can gives e = same_memory e
      op_aside (Exchange y a b) (Found got) aside can gives e = absurd gives
      op_aside (Exchange y a b) Stored aside can gives e = absurd gives
      op_aside (Exchange y a b) (Made got) aside can gives e = absurd gives
      op_aside (Exchange y a b) (Taken got) aside can gives e = absurd gives
      op_aside (Exchange y a b) (Roomed got) aside can gives e = absurd gives
      op_aside (Make value words) out aside can gives e = absurd aside
      op_aside (Take b) out aside can gives e =
          absurd (let there = block_there m b can in
          let gone : value_at m2 b ≡ None = ap (λ (n : Mem T). value_at n b) e ∙ ap value_in (block_of-with_block m b b there.0 None there.1) ∙ here b in
          let some : IsSome (value_at m b) = can in let never : IsSome {T = T} None = subst (λ (o : Option T). IsSome o) (sym (values b) ∙ gone) some in cc never)
        where
          here : (b : ℕ) → value_in {T = T} (if b == b then None else block_of m b) ≡ None
          here b = ap (λ q. value_in (if q then None else block_of m b)) (eq-eqb b b refl)
      op_aside (Rewrite b value) out aside can gives e = absurd aside
      op_aside (Room bucket) (Roomed (Ok made)) aside can gives e = room_word bucket e
      op_aside (Room bucket) (Roomed (Err fault)) aside can gives e = same_memory e
      op_aside (Room bucket) (Found got) aside can gives e = absurd gives
      op_aside (Room bucket) Stored aside can gives e = absurd gives
      op_aside (Room bucket) (Exchanged got) aside can gives e = absurd gives
      op_aside (Room bucket) (Made got) aside can gives e = absurd gives
      op_aside (Room bucket) (Taken got) aside can gives e = absurd gives

      -- so a plan that makes such an operation leaves it
      pub plan_aside : {R : Type 0} (plan : Plan T R) (end : R) → IsAsidePlan plan → May Can Took value_at m plan → Steps Took value_at m plan m2 end → new ≡ old
      plan_aside (Turn rest) end aside may steps = same_memory steps.0
      plan_aside (Do op rest) end aside may steps = op_aside op steps.0 aside may.0 steps.1.0 steps.1.1

  -- each point of a row that settles, but the one at which it writes into a block which batch it is of
  pub settle_aside : (defers : T → Option ℕ) (c : Settle) (p : Settling) → ((block : ℕ) → p ≡ at.Batches block → ⊥) → IsAsidePlan (plan_at defers c p)
  settle_aside defers c at.Sees other = tt
  settle_aside defers c at.Holds other = tt
  settle_aside defers c at.Pops other = tt
  settle_aside defers c (at.Firsts block) other = tt
  settle_aside defers c (at.Batches block) other = absurd (other block refl)
  settle_aside defers c (at.Ends block) other = λ e. omega (arith, e)
  settle_aside defers c (at.Appends block) other = λ e. omega (arith, e)
  settle_aside defers c (at.Counts block) other = λ e. omega (arith, e)
  settle_aside defers c (at.Scans slot block marks) other = tt
  settle_aside defers c (at.Marks slot block marks) other = λ e. omega (arith, e)
  settle_aside defers c (at.Marked slot block marks) other = tt
  settle_aside defers c (at.Closes marks) other = λ e. omega (arith, e)
  settle_aside defers c (at.Reads block left pushed) other = tt
  settle_aside defers c (at.Links block left pushed slot head) other = λ e. omega (arith, e)
  settle_aside defers c (at.Pushes block left pushed slot head) other = tt
  settle_aside defers c (at.Pushed block left pushed) other = tt
  settle_aside defers c (at.Sums pushed) other = λ e. omega (arith, e)
  settle_aside defers c at.Nexts other = tt
  settle_aside defers c (at.Drains next word) other = tt
  settle_aside defers c (at.Joins next more) other = λ e. omega (arith, e)
  settle_aside defers c (at.Tails next) other = tt
  settle_aside defers c (at.Takes next) other = tt
  settle_aside defers c at.Puts other = λ e. omega (arith, e)
  settle_aside defers c at.Lists other = tt
  settle_aside defers c (at.Owns next) other = tt
  settle_aside defers c (at.Downs next batch) other = λ e. omega (arith, e)
  settle_aside defers c at.Gives other = tt
  settle_aside defers c at.Over other = tt

-- whether it is about to write into a block which batch it is of
pub is_batches : (p : Settling) → ((block : ℕ) × (p ≡ at.Batches block)) ⊎ ((block : ℕ) → p ≡ at.Batches block → ⊥)
is_batches (at.Batches block) = inl (block, refl)
is_batches _ = inr (λ block e. cc e)

-- rows that hand something over
abbrev pub IsHandingRow : Row → Type 0
IsHandingRow Rests = Unit {0}
IsHandingRow (Settles c) = Unit {0}
IsHandingRow (Defers s c) = Unit {0}
IsHandingRow _ = ⊥

module _ {T : Type 0} (defers : T → Option ℕ) (size : ℕ) (w w2 : World T) (reached : Reached defers size w) (i : ℕ) (values : (b : ℕ) → value_at w2.memory b ≡ value_at w.memory b) where
  abbrev good : Good defers (LAST_SLOT + 1) size w
  good = reached.good

  -- the block is on its way to the collector
  abbrev pub IsOnWay : ℕ → Type 0
  IsOnWay b = is_handed (good.state.life b) ≡ true

  -- it is the one that the word is of, or names
  abbrev pub HandsOne : At → ℕ → Type 0
  HandsOne (Entry b f) new = IsOnWay b
  HandsOne (Word b f) new = IsOnWay (new / 2048)
  HandsOne _ new = ⊥

  module _ (x : At) (handing : IsHanding x) (old new : ℕ) (was : word_at w.memory x ≡ Some old) (is : word_at w2.memory x ≡ Some new) where
    abbrev Told : Type 0
    Told = (new ≡ old) ⊎ HandsOne x new

    -- one word was written: it is this one, or that is what it was
    wrote : (y : At) (v : ℕ) → IsSome (word_at w.memory y) → w2.memory ≡ with_word w.memory y v → (x ≡ y → new ≡ v → HandsOne x new) → Told
    wrote y v some e hands = by (same_at x y) refl (ap (λ (n : Mem T). word_at n x) e ∙ word_at-with_word w.memory y v x some)
      where
        by : (q : Bool) → same_at x y ≡ q → word_at w2.memory x ≡ (if same_at x y then Some v else word_at w.memory x) → Told
        by true same here =
            inr (hands (same_at-true x y same) (let now : Some new ≡ Some v = sym is ∙ here ∙ ap (λ (q : Bool). if q then Some v else word_at w.memory x) same in cc now))
        by false same here = inl (let now : Some new ≡ Some old = sym is ∙ here ∙ ap (λ (q : Bool). if q then Some v else word_at w.memory x) same ∙ was in cc now)

    same_so : w2.memory ≡ w.memory → Told
    same_so e = inl (same_memory w.memory w2.memory x handing old new was is e)

    -- a row that settles, as it writes into a block which batch it is of
    batches_hands : (c : Settle) (block : ℕ) → FitsAt (LAST_SLOT + 1) i (view defers w.memory) good.state good.extra (bare c) (at.Batches block)
        → May Can Took value_at w.memory (plan_at defers c (at.Batches block)) → (end : Settle × Settled T) → Steps Took value_at w.memory (plan_at defers c (at.Batches block)) w2.memory end → Told
    batches_hands c block fits may end steps =
        wrote (Entry (block_in block) FIRST) c.first may.0 steps.1.1 (λ e now. subst (λ (y : At). HandsOne y new) (sym e) (subst IsOnWay (sym (of_link block fits.b fits.putting.block_is)) (ap is_handed life)))
      where
        life : good.state.life fits.b ≡ IsPending i
        life = is_pending_first good.state.stage good.state.blocks good.state.left good.state.pending good.state.puts good.state.deferred good.state.carrier good.state.life good.extra.popped i fits.b fits.bs
            good.inv.places fits.putting.pending

    settle_hands : (c : Settle) → FitsAt (LAST_SLOT + 1) i (view defers w.memory) good.state good.extra (bare c) c.stands → May Can Took value_at w.memory (settle_plan defers c)
        → (end : Settle × Settled T) → Steps Took value_at w.memory (settle_plan defers c) w2.memory end → Told
    settle_hands c fits may end steps = elim (is_batches c.stands) as (λ _. Told) [
      | inl it ↦
          batches_hands c it.0 (subst (FitsAt (LAST_SLOT + 1) i (view defers w.memory) good.state good.extra (bare c)) it.1 fits)
          (subst (λ (p : Settling). May Can Took value_at w.memory (plan_at defers c p)) it.1 may) end (subst (λ (p : Settling). Steps Took value_at w.memory (plan_at defers c p) w2.memory end) it.1 steps)
      | inr other ↦ inl (plan_aside w.memory w2.memory x handing old new was is values (settle_plan defers c) end (settle_aside defers c c.stands other) may steps)
    ]

    -- a row that defers, as it puts a block in front of the others
    pushes_hands : (s : ℕ) (c : Defer) (head : ℕ) → FitsDefer (LAST_SLOT + 1) i (view defers w.memory) good.state good.extra s c.block c.table_word (deferring.Pushes head)
        → IsSome (word_at w.memory c.table_word) → (out : Out T) → Gives w.memory (Exchange c.table_word head c.block) out → w2.memory ≡ after w.memory (Exchange c.table_word head c.block) out → Told
    pushes_hands s c head fits some (Exchanged (Ok got)) gives e =
        wrote c.table_word c.block some e (λ same now. subst (λ (y : At). HandsOne y new) (sym (same ∙ fits.on.at_is))
        (subst IsOnWay (sym (ap (λ (z : ℕ). z / 2048) now ∙ of_link c.block fits.on.b fits.on.block_is)) (ap is_handed fits.on.life)))
    pushes_hands s c head fits some (Exchanged (Err got)) gives e = same_so e
    pushes_hands s c head fits some (Found got) gives e = absurd gives
    pushes_hands s c head fits some Stored gives e = absurd gives
    pushes_hands s c head fits some (Made got) gives e = absurd gives
    pushes_hands s c head fits some (Taken got) gives e = absurd gives
    pushes_hands s c head fits some (Roomed got) gives e = absurd gives

    defer_hands : (s : ℕ) (c : Defer) (p : Deferring) → FitsDefer (LAST_SLOT + 1) i (view defers w.memory) good.state good.extra s c.block c.table_word p
        → May Can Took value_at w.memory (defer.plan_at {T = T} c p) → (end : Defer × Advance Unit) → Steps Took value_at w.memory (defer.plan_at {T = T} c p) w2.memory end → Told
    defer_hands s c deferring.Reads fits may end steps = same_so steps.1.1
    defer_hands s c (deferring.Links head) fits may end steps =
        inl (plan_aside w.memory w2.memory x handing old new was is values (defer.plan_at {T = T} c (deferring.Links head)) end (λ e. omega (arith, e)) may steps)
    defer_hands s c (deferring.Pushes head) fits may end steps = pushes_hands s c head fits may.0 steps.0 steps.1.0 steps.1.1
    defer_hands s c deferring.Over fits may end steps = same_so steps.0

    settled_memory : (c : Settle) (m : Mem T) (end : Settle × Settled T) → (settles_on w i c m end).memory ≡ m
    settled_memory c m (d, settled.Goes) = refl
    settled_memory c m (d, settled.Waits) = refl
    settled_memory c m (d, settled.Gave value) = refl
    settled_memory c m (d, settled.Done) = refl

    deferred_memory : (s : ℕ) (m : Mem T) (end : Defer × Advance Unit) → (defers_on w i s m end).memory ≡ m
    deferred_memory s m (d, progress.Goes) = refl
    deferred_memory s m (d, progress.Waits) = refl
    deferred_memory s m (d, progress.Done u) = refl
    deferred_memory s m (d, progress.Refused fault) = refl

    -- so it is for each such row
    pub row_hands : (row : Row) → w.row i ≡ row → IsHandingRow row → Steps' defers i row w w2 → Told
    row_hands Rests is hands step = absurd step
    row_hands (Settles c) is hands (m, end, steps, e) =
        settle_hands c (subst (λ (r : Row). FitsRow (LAST_SLOT + 1) i (view defers w.memory) good.state good.extra (length w.memory.slots) r) is (good.rows i)) (row_may defers (LAST_SLOT + 1) size refl w good i (Settles c) is) end
        (subst (λ (n : Mem T). Steps Took value_at w.memory (settle_plan defers c) n end) (sym (ap (λ (u : World T). u.memory) e ∙ settled_memory c m end)) steps)
    row_hands (Defers s c) is hands (m, end, steps, e) =
        defer_hands s c c.stands (subst (λ (r : Row). FitsRow (LAST_SLOT + 1) i (view defers w.memory) good.state good.extra (length w.memory.slots) r) is (good.rows i))
        (row_may defers (LAST_SLOT + 1) size refl w good i (Defers s c) is) end
        (subst (λ (n : Mem T). Steps Took value_at w.memory (defer.defer_plan c) n end) (sym (ap (λ (u : World T). u.memory) e ∙ deferred_memory s m end)) steps)
    row_hands (Registers c) is hands step = absurd hands
    row_hands (Enters c) is hands step = absurd hands
    row_hands (Leaves c) is hands step = absurd hands
    row_hands (Frees c) is hands step = absurd hands
