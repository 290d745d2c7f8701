-- The links of blocks that are left to a caller stay as they are, while a row of the collector takes its steps.
use Rattle.std.specs.Prelude.{Option, Some, None, IsSome, Ok, Err, if◌then◌else◌, ◌==◌}
use Rattle.std.proofs.Common.{◌≡◌, ℕ, ◌+◌, ◌/◌, ◌%◌, ◌^◌, ◌<◌, Bool, true, false, List, [], ◌∷◌, refl, arith, ap, sym, subst, ◌∙◌}
use Rattle.seize.specs.Given.SeizeWordsDeclared.at.At.{At}
use Rattle.seize.specs.Given.SeizeWordsDeclared.at.At.TheVariants as name
use Rattle.seize.specs.Given.SeizeWordsDeclared.block.Block.{Block}
use Rattle.seize.specs.Given.SeizeWordsOp.{Op, Out, Load, Store, Swap, Add, Or, Exchange, Make, Take, Rewrite, Room, Found, Stored, Exchanged, Made, Taken, Roomed}
use Rattle.seize.specs.Given.SeizeWordsMem.{Mem, same_at, value_at, entry_in, word_at, block_of, with_word, with_block, Can, Took, Gives, after}
use Rattle.seize.specs.Given.SeizeWordsPlan.{Plan, Turn, Do, May, Steps, plan_as}
use Rattle.seize.proofs.Given.SeizeWordsOneOwner.AfterWrites.{word_at-with_word, word_at-with_value, block_of-with_block}
use Rattle.seize.specs.declared.states.TheConstants.{NEXT, ACTIVE}
use Rattle.seize.specs.declared.rows.settle.Settle.{Settle}
use Rattle.seize.specs.declared.rows.settle.Settling.{Settling}
use Rattle.seize.specs.declared.rows.settle.Settling.TheVariants as at
use Rattle.seize.specs.declared.rows.settle.Settled.{Settled}
use Rattle.seize.specs.declared.rows.leave.Leave.{Leave}
use Rattle.seize.specs.declared.rows.leave.Leaving.{Leaving}
use Rattle.seize.specs.declared.rows.leave.Leaving.TheVariants as leaving
use Rattle.seize.specs.declared.advance.Advance.{Advance}
use Rattle.seize.specs.declared.rows.register.Register.{Register}
use Rattle.seize.specs.declared.rows.register.Registering.{Registering}
use Rattle.seize.specs.declared.rows.register.Registering.TheVariants as registering
use Rattle.seize.specs.declared.rows.defer.Defer.{Defer}
use Rattle.seize.specs.declared.rows.defer.Deferring.{Deferring}
use Rattle.seize.specs.declared.rows.defer.Deferring.TheVariants as deferring
use Rattle.seize.specs.Defer as defer
use Rattle.seize.specs.declared.rows.enter.Enter.{Enter}
use Rattle.seize.specs.declared.rows.enter.Unregister.{Unregister}
use Rattle.seize.specs.Register as register
use Rattle.seize.specs.Enter.{enter_plan, unregister_plan}
use Rattle.seize_model.specs.Alone.Alone.{SameLinks}
use Rattle.seize.specs.Settle.{settle_plan, plan_at}
use Rattle.seize.specs.Leave as leave
use Rattle.seize.specs.Law.{Entered}
use Rattle.seize.specs.World.{Hand, NoBlock, handed_by, settle_effects, leave_effects}
use Rattle.seize_rule.specs.Given.SeizeWaitingHeld.{count}
use Rattle.seize_rule.proofs.Given.SeizeMovesState.Ghost.{Life, IsDeferring, IsPending, IsIn, IsDoomed, IsLeft, State}
use Rattle.seize_rule.proofs.Given.SeizeMovesState.Rule.{Inv}
use Rattle.seize_rule.proofs.Given.SeizeMemoryWords.Chains.{last_of, last_from, count_last}
use Rattle.seize_rule.proofs.Given.SeizeMemoryWords.View.{view}
use Rattle.seize_rule.proofs.Given.SeizeMemoryWords.Named.{block_there, link}
use Rattle.seize_rule.proofs.Given.SeizeMemoryWords.Shows.{Extra, Shows}
use Rattle.seize_rule.proofs.Given.SeizeMemoryWords.Apart.{is_doomed_first, is_pending_first, is_pending_put}
use Rattle.seize_rule.proofs.Points.Deferred.{next_left, puts_some}
use Rattle.seize_rule.proofs.Points.Retire.{open_stage, some_last, of_link as named}
use Rattle.seize_rule.proofs.Given.SeizeMemoryWritten.Retire.{in_batch}
use Rattle.seize_rule.proofs.Points.Known.{FitsAt, Ends, Appends, Backs, bare, open_blocks}
use Rattle.seize_rule.proofs.Rows.Known.{FitsLeave, FitsDefer}
use Rattle.seize_rule.proofs.Rows.Others.{with_other}

-- a name of no link of this block
abbrev pub IsApart : ℕ → At → Type 0
IsApart b (name.Entry c i) = b ≡ c → i ≡ NEXT → ⊥
IsApart b _ = Unit {0}

module _ {T : Type 0} (b : ℕ) where
  -- the operation writes no link of this block, and doesn't take it
  abbrev pub IsOpApart : Op T → Type 0
  IsOpApart (Load at) = Unit {0}
  IsOpApart (Store at w) = IsApart b at
  IsOpApart (Swap at w) = IsApart b at
  IsOpApart (Add at w) = IsApart b at
  IsOpApart (Or at w) = ⊥
  IsOpApart (Exchange at old new) = IsApart b at
  IsOpApart (Make value words) = ⊥
  IsOpApart (Take c) = b ≡ c → ⊥
  IsOpApart (Rewrite c new) = Unit {0}
  IsOpApart (Room bucket) = Unit {0}

  abbrev pub IsPlanApart : {R : Type 0} → Plan T R → Type 0
  IsPlanApart (Turn rest) = Unit {0}
  IsPlanApart (Do op rest) = IsOpApart op

  pub apart_as : {A B : Type 0} (f : A → B) (plan : Plan T A) → IsPlanApart plan → IsPlanApart (plan_as f plan)
  apart_as f (Turn rest) q = tt
  apart_as f (Do op rest) q = q

  -- its link is as it was
  abbrev pub SameNext : Mem T → Mem T → Type 0
  SameNext m m2 = word_at m2 (name.Entry b NEXT) ≡ word_at m (name.Entry b NEXT)

  written : (m : Mem T) (at : At) (w : ℕ) → IsSome (word_at m at) → IsApart b at → SameNext m (with_word m at w)
  written m (name.Root r) w some q = refl
  written m (name.Used r) w some q = refl
  written m (name.Slot s field) w some q = refl
  written m (name.Word c i) w some q = word_at-with_word m (name.Word c i) w (name.Entry b NEXT) some
  written m (name.Entry c i) w some q = by (same_at (name.Entry b NEXT) (name.Entry c i)) refl (word_at-with_word m (name.Entry c i) w (name.Entry b NEXT) some)
    where
      by : (z : Bool) → same_at (name.Entry b NEXT) (name.Entry c i) ≡ z → word_at (with_word m (name.Entry c i) w) (name.Entry b NEXT) ≡ (if z then Some w else word_at m (name.Entry b NEXT))
          → SameNext m (with_word m (name.Entry c i) w)
      by true z k = absurd (q (grind (arith, z)) (grind (arith, z)))
      by false z k = k

  taken : (m : Mem T) (c : ℕ) → IsSome (value_at m c) → (b ≡ c → ⊥) → SameNext m (with_block m c None)
  taken m c some q = let x = block_there m c some in by (b == c) refl (block_of-with_block m c b x.0 None x.1)
    where
      by : (z : Bool) → (b == c) ≡ z → block_of (with_block m c None) b ≡ (if z then None else block_of m b) → SameNext m (with_block m c None)
      by true z k = absurd (q (grind (arith, z)))
      by false z k = ap (λ (o : Option (Block T)). entry_in o NEXT) k

  op_apart : (m : Mem T) (op : Op T) (out : Out T) → IsOpApart op → Can m op → Gives m op out → SameNext m (after m op out)
  op_apart m (Load at) out q can g = refl
  op_apart m (Store at w) out q can g = written m at w can q
  op_apart m (Swap at w) out q can g = written m at w can q
  op_apart m (Add at w) (Found a) q can g = written m at ((a + w) % 2 ^ 64) can q
  op_apart m (Add at w) Stored q can g = absurd g
  op_apart m (Add at w) (Exchanged (Ok a)) q can g = absurd g
  op_apart m (Add at w) (Exchanged (Err a)) q can g = absurd g
  op_apart m (Add at w) (Made (Ok a)) q can g = absurd g
  op_apart m (Add at w) (Made (Err a)) q can g = absurd g
  op_apart m (Add at w) (Taken a) q can g = absurd g
  op_apart m (Add at w) (Roomed (Ok a)) q can g = absurd g
  op_apart m (Add at w) (Roomed (Err a)) q can g = absurd g
  op_apart m (Or at w) out q can g = absurd q
  op_apart m (Exchange at old new) (Exchanged (Ok a)) q can g = written m at new can q
  op_apart m (Exchange at old new) (Exchanged (Err a)) q can g = refl
  op_apart m (Exchange at old new) (Found a) q can g = absurd g
  op_apart m (Exchange at old new) Stored q can g = absurd g
  op_apart m (Exchange at old new) (Made (Ok a)) q can g = absurd g
  op_apart m (Exchange at old new) (Made (Err a)) q can g = absurd g
  op_apart m (Exchange at old new) (Taken a) q can g = absurd g
  op_apart m (Exchange at old new) (Roomed (Ok a)) q can g = absurd g
  op_apart m (Exchange at old new) (Roomed (Err a)) q can g = absurd g
  op_apart m (Make value words) out q can g = absurd q
  op_apart m (Take c) out q can g = taken m c can q
  op_apart m (Rewrite c new) out q can g = word_at-with_value m c new (name.Entry b NEXT) can
  op_apart m (Room bucket) (Roomed (Ok a)) q can g = refl
  op_apart m (Room bucket) (Roomed (Err a)) q can g = refl
  op_apart m (Room bucket) (Found a) q can g = absurd g
  op_apart m (Room bucket) Stored q can g = absurd g
  op_apart m (Room bucket) (Exchanged (Ok a)) q can g = absurd g
  op_apart m (Room bucket) (Exchanged (Err a)) q can g = absurd g
  op_apart m (Room bucket) (Made (Ok a)) q can g = absurd g
  op_apart m (Room bucket) (Made (Err a)) q can g = absurd g
  op_apart m (Room bucket) (Taken a) q can g = absurd g

  pub plan_apart : {R : Type 0} (m : Mem T) (plan : Plan T R) (m2 : Mem T) (end : R) → IsPlanApart plan → May Can Took value_at m plan → Steps Took value_at m plan m2 end → SameNext m m2
  plan_apart m (Turn rest) m2 end q may s = ap (λ (k : Mem T). word_at k (name.Entry b NEXT)) s.0
  plan_apart m (Do op rest) m2 end q may s = ap (λ (k : Mem T). word_at k (name.Entry b NEXT)) s.1.1 ∙ op_apart m op s.0 q may.0 s.1.0

module _ {T : Type 0} (defers : T → Option ℕ) (n i : ℕ) (mem mem2 : Mem T) (m : State) (x : Extra) (inv : Inv n m) (v : Shows n (view defers mem) m x) (b j : ℕ) (left : m.life b ≡ IsLeft j) where
  -- a block that the collector has is another one
  other : (d : ℕ) (l : Life) → m.life d ≡ l → (l ≡ IsLeft j → ⊥) → (w : ℕ) → w / 2048 ≡ d → b ≡ w / 2048 → ⊥
  other d l is ne w at e = ne (sym is ∙ ap m.life (sym at ∙ sym e) ∙ left)

  put_apart : (c : Settle) → x.put_first i ≡ c.put_first → c.put_last ≡ link (last_of (m.puts i)) → (c.put_first ≡ 0 → ⊥) → b ≡ c.put_last / 2048 → ⊥
  put_apart c first last some =
      let h = puts_some n i (view defers mem) m x c.put_first v first some in
      let d = last_from h.0 h.1 in
      other d (IsPending i) (is_pending_put m.stage m.blocks m.left m.pending m.puts m.deferred m.carrier m.life x.popped i d inv.places (subst (λ (l : List ℕ). 0 < count d l) (sym h.2) (count_last h.0 h.1)))
      (λ e. absurd (cc e)) c.put_last (named c.put_last d (last ∙ ap (λ (l : List ℕ). link (last_of l)) h.2))

  taken_apart : (c : Settle) (d : ℕ) (bs : List ℕ) (next : ℕ) → Backs n i m x (bare c) d bs next → b ≡ c.reclaiming / 2048 → ⊥
  taken_apart c d bs next r =
      other d (IsDoomed i) (is_doomed_first m.stage m.blocks m.left m.pending m.puts m.deferred m.carrier m.life x.popped i d bs inv.places r.left) (λ e. absurd (cc e)) c.reclaiming
      (named c.reclaiming d (sym r.common.lefts ∙ (next_left n i (view defers mem) m x d bs v r.left).0))

  ends_apart : (c : Settle) (block : ℕ) → Ends n i (view defers mem) m x (bare c) block → b ≡ block / 2048 → ⊥
  ends_apart c block r =
      let q = r.batches in
      other q.b (IsPending i) (is_pending_first m.stage m.blocks m.left m.pending m.puts m.deferred m.carrier m.life x.popped i q.b q.bs inv.places q.putting.pending) (λ e. absurd (cc e)) block
      (named block q.b q.putting.block_is)

  appends_apart : (c : Settle) (block : ℕ) → Appends n i (view defers mem) m x (bare c) block → b ≡ c.last / 2048 → ⊥
  appends_apart c block r =
      let p = r.ends.batches.putting in
      let y = m.open_batch c.slot in
      let k = some_last c.last (open_blocks m c) p.batch.last r.some in
      other (last_from k.0 k.1) (IsIn y) (in_batch n c.slot y k.0 k.1 m inv (open_stage n i (view defers mem) m x c inv v p.common.slot_lt) k.2).0 (λ e. absurd (cc e)) c.last
      (named c.last (last_from k.0 k.1) k.3)

  settle_apart : (c : Settle) (p : Settling) → FitsAt n i (view defers mem) m x (bare c) p → IsPlanApart b (plan_at defers c p)
  settle_apart c at.Sees r = tt
  settle_apart c at.Holds r = tt
  settle_apart c at.Pops r = tt
  settle_apart c (at.Firsts block) r = tt
  settle_apart c (at.Batches block) r = λ e k. absurd (omega (arith, k))
  settle_apart c (at.Ends block) r = λ e k. ends_apart c block r e
  settle_apart c (at.Appends block) r = λ e k. appends_apart c block r e
  settle_apart c (at.Counts block) r = λ e k. absurd (omega (arith, k))
  settle_apart c (at.Scans slot block marks) r = tt
  settle_apart c (at.Marks slot block marks) r = λ e k. absurd (omega (arith, k))
  settle_apart c (at.Marked slot block marks) r = tt
  settle_apart c (at.Closes marks) r = λ e k. absurd (omega (arith, k))
  settle_apart c (at.Reads block left pushed) r = tt
  settle_apart c (at.Links block left pushed slot head) r = λ e k. absurd (omega (arith, k))
  settle_apart c (at.Pushes block left pushed slot head) r = tt
  settle_apart c (at.Pushed block left pushed) r = tt
  settle_apart c (at.Sums pushed) r = λ e k. absurd (omega (arith, k))
  settle_apart c at.Nexts r = tt
  settle_apart c (at.Drains next word) r = tt
  settle_apart c (at.Joins next more) r = λ e k. put_apart c r.drains.backs.common.put_first r.drains.put_last r.some e
  settle_apart c (at.Tails next) r = tt
  settle_apart c (at.Takes next) r = taken_apart c r.b r.bs next r.backs
  settle_apart c at.Puts r = λ e k. put_apart c r.common.put_first r.put_last r.some e
  settle_apart c at.Lists r = tt
  settle_apart c (at.Owns next) r = tt
  settle_apart c (at.Downs next batch) r = λ e k. absurd (omega (arith, k))
  settle_apart c at.Gives r = tt
  settle_apart c at.Over r = tt

  leave_apart : (c : Leave) (p : Leaving) → FitsLeave n i (view defers mem) m x c.slot c.becomes c.frees p → IsPlanApart b (leave.plan_at defers c p)
  leave_apart c leaving.Swaps r = tt
  leave_apart c (leaving.Settles settle) r = apart_as b (leave.settled c) (settle_plan defers settle) (settle_apart settle settle.stands r.settles)
  leave_apart c leaving.Frees r = tt
  leave_apart c leaving.Over r = tt

  -- and it is whose it was
  settle_hand : (c : Settle) (p : Settling) → FitsAt n i (view defers mem) m x (bare c) p → (hand : ℕ → Hand) → handed_by (settle_effects c p) hand b ≡ hand b
  settle_hand c at.Sees r hand = refl
  settle_hand c at.Holds r hand = refl
  settle_hand c at.Pops r hand = refl
  settle_hand c (at.Firsts block) r hand = refl
  settle_hand c (at.Batches block) r hand = refl
  settle_hand c (at.Ends block) r hand = refl
  settle_hand c (at.Appends block) r hand = refl
  settle_hand c (at.Counts block) r hand = refl
  settle_hand c (at.Scans slot block marks) r hand = refl
  settle_hand c (at.Marks slot block marks) r hand = refl
  settle_hand c (at.Marked slot block marks) r hand = refl
  settle_hand c (at.Closes marks) r hand = refl
  settle_hand c (at.Reads block left pushed) r hand = refl
  settle_hand c (at.Links block left pushed slot head) r hand = refl
  settle_hand c (at.Pushes block left pushed slot head) r hand = refl
  settle_hand c (at.Pushed block left pushed) r hand = refl
  settle_hand c (at.Sums pushed) r hand = refl
  settle_hand c at.Nexts r hand = refl
  settle_hand c (at.Drains next word) r hand = refl
  settle_hand c (at.Joins next more) r hand = refl
  settle_hand c (at.Tails next) r hand = refl
  settle_hand c (at.Takes next) r hand = with_other hand (c.reclaiming / 2048) b NoBlock (taken_apart c r.b r.bs next r.backs)
  settle_hand c at.Puts r hand = refl
  settle_hand c at.Lists r hand = refl
  settle_hand c (at.Owns next) r hand = refl
  settle_hand c (at.Downs next batch) r hand = refl
  settle_hand c at.Gives r hand = refl
  settle_hand c at.Over r hand = refl

  leave_hand : (c : Leave) (p : Leaving) → FitsLeave n i (view defers mem) m x c.slot c.becomes c.frees p → (hand : ℕ → Hand) → handed_by (leave_effects c p) hand b ≡ hand b
  leave_hand c leaving.Swaps r hand = refl
  leave_hand c (leaving.Settles settle) r hand = settle_hand settle settle.stands r.settles hand
  leave_hand c leaving.Frees r hand = refl
  leave_hand c leaving.Over r hand = by (c.becomes == ACTIVE)
    where
      by : (t : Bool) → handed_by (if t then Entered c.slot ∷ [] else []) hand b ≡ hand b
      by true = refl
      by false = refl

  pub settle_next : (c : Settle) (end : Settle × Settled T) → FitsAt n i (view defers mem) m x (bare c) c.stands → May Can Took value_at mem (settle_plan defers c)
      → Steps Took value_at mem (settle_plan defers c) mem2 end → (hand : ℕ → Hand) → (handed_by (settle_effects c c.stands) hand b ≡ hand b) × SameNext b mem mem2
  settle_next c end fits may st hand = (settle_hand c c.stands fits hand, plan_apart b mem (settle_plan defers c) mem2 end (settle_apart c c.stands fits) may st)

  pub leave_next : (c : Leave) (end : Leave × Settled T) → FitsLeave n i (view defers mem) m x c.slot c.becomes c.frees c.stands → May Can Took value_at mem (leave.leave_plan defers c)
      → Steps Took value_at mem (leave.leave_plan defers c) mem2 end → (hand : ℕ → Hand) → (handed_by (leave_effects c c.stands) hand b ≡ hand b) × SameNext b mem mem2
  leave_next c end fits may st hand = (leave_hand c c.stands fits hand, plan_apart b mem (leave.leave_plan defers c) mem2 end (leave_apart c c.stands fits) may st)

  -- a row that defers a block links that one
  defer_apart : (s : ℕ) (c : Defer) (p : Deferring) → FitsDefer n i (view defers mem) m x s c.block c.table_word p → IsPlanApart b (defer.plan_at {T = T} c p)
  defer_apart s c deferring.Reads r = tt
  defer_apart s c (deferring.Links head) r = λ e k. other r.b (IsDeferring i s r.t) r.life (λ q. absurd (cc q)) c.block (named c.block r.b r.block_is) e
  defer_apart s c (deferring.Pushes head) r = subst (IsApart b) (sym r.on.at_is) tt
  defer_apart s c deferring.Over r = tt

  pub defer_next : (s : ℕ) (c : Defer) (end : Defer × Advance Unit) → FitsDefer n i (view defers mem) m x s c.block c.table_word c.stands → May Can Took value_at mem (defer.defer_plan {T = T} c)
      → Steps Took value_at mem (defer.defer_plan c) mem2 end → SameNext b mem mem2
  defer_next s c end fits may st = plan_apart b mem (defer.defer_plan c) mem2 end (defer_apart s c c.stands fits) may st

-- rows that take a slot, enter one or give one up have to do with no block
module _ {T : Type 0} (m m2 : Mem T) where
  register_apart : (b : ℕ) (c : Register) (p : Registering) → IsPlanApart b (register.plan_at {T = T} c p)
  register_apart b c registering.Begin = tt
  register_apart b c registering.Look = tt
  register_apart b c (registering.Widen bucket seen) = tt
  register_apart b c (registering.Take seen) = tt
  register_apart b c registering.Enter = tt
  register_apart b c registering.Registered = tt
  register_apart b c (registering.Refused fault) = tt

  pub register_links : (c : Register) (end : Register × Advance ℕ) → May Can Took value_at m (register.register_plan c) → Steps Took value_at m (register.register_plan c) m2 end → SameLinks m m2
  register_links c end may st b = plan_apart b m (register.register_plan c) m2 end (register_apart b c c.stands) may st

  pub enter_links : (c : Enter) (end : Enter × Advance Unit) → May Can Took value_at m (enter_plan c) → Steps Took value_at m (enter_plan c) m2 end → SameLinks m m2
  enter_links c end may st b = plan_apart b m (enter_plan c) m2 end tt may st

  pub unregister_links : (c : Unregister) (end : Unregister × Advance Unit) → May Can Took value_at m (unregister_plan c) → Steps Took value_at m (unregister_plan c) m2 end → SameLinks m m2
  unregister_links c end may st b = plan_apart b m (unregister_plan c) m2 end tt may st
