-- A settling that has seen a block is to reclaim that one next.
use Rattle.std.specs.Prelude.{◌==◌, ◌+◌, ◌%◌, ◌^◌, nat_lt, Option, Some, None}
use Rattle.std.proofs.Common.{◌≡◌, ℕ, inl, inr, sym, subst, ap}
use Rattle.seize_words.specs.declared.at.At.TheVariants.{Slot, Entry, Word}
use Rattle.seize_words.specs.OneMemory.Mem.{Mem, value_at}
use Rattle.seize_words.specs.OneMemory.Op.{Found}
use Rattle.seize_words.specs.OneMemory.Plan.{Ends}
use Rattle.seize_words.specs.OneMemory.Word.{block_in}
use Rattle.seize.specs.declared.states.TheConstants.{HEAD, BATCH, NEVER, ACTIVE, HELD, NEXT, LINK, FIRST, COUNT}
use Rattle.seize.specs.declared.rows.settle.Settle.{Settle}
use Rattle.seize.specs.declared.rows.settle.Settling.{Settling}
use Rattle.seize.specs.declared.rows.settle.Settling.TheVariants as at
use Rattle.seize.specs.declared.rows.settle.Settled.{Settled}
use Rattle.seize.specs.declared.rows.settle.Settled.TheVariants.{Goes}
use Rattle.seize.specs.Settle as settle
use Rattle.seize.specs.Settle.{settle_plan, plan_at}
use Rattle.many_acts.specs.Looks.Blocks.{MayLookAt}
use Rattle.many_acts.specs.Looks.Sees.{HasSeen}
use Rattle.many_acts.proofs.Looks.Sees.Operations.{none_if, loads, adds, exchanges, takes}
use Rattle.threads_rule.specs.Views.Reclaims.{IsToReclaim}

module _ {T : Type 0} (defers : T → Option ℕ) (b : ℕ) (m n : Mem T) (c : Settle) (end : Settle × Settled T) where
  abbrev Reclaims : Type 0
  Reclaims = IsToReclaim end.0 b × (end.1 ≡ Goes)

  abbrev shown : ℕ → Option T
  shown = value_at n

  none : (⊥ → ⊥)
  none x = x

  -- the next block is read, and this one looked at
  drained_next : (next : ℕ) (o : Option ℕ) → Ends shown (settle.drained_first c next o) end → b ≡ block_in c.reclaiming → Reclaims
  drained_next next (Some word) ends is = ((
    subst (λ (x : Settle × Settled T). IsToReclaim x.0 b) (sym ends) (tt, is),
    ap (λ (x : Settle × Settled T). x.1) ends,
  )
      )
  drained_next next None ends is = ((
    subst (λ (x : Settle × Settled T). IsToReclaim x.0 b) (sym ends) (tt, is),
    ap (λ (x : Settle × Settled T). x.1) ends,
  )
      )

  drained_none : (next : ℕ) (o : Option ℕ) → MayLookAt b shown (settle.drained_first {T = T} c next o) → ⊥
  drained_none next (Some word) sees = sees
  drained_none next None sees = sees

  nexts : (next : ℕ) → Ends shown (settle.next_read defers c (Found next)) end → MayLookAt b shown (settle.next_read defers c (Found next)) → Reclaims
  nexts next (value, is, ends) (inl same) = drained_next next (defers value) ends same
  nexts next ends (inr (value, is, sees)) = absurd (drained_none next (defers value) sees)

  by_point : (p : Settling) → HasSeen b m (plan_at defers c p) n end → Reclaims
  by_point at.Sees saw =
      let l = loads b m n (Slot c.slot BATCH) end (settle.seen c) saw in absurd (none_if b shown (l.0 == HELD) _ _ none none l.3.1)
  by_point at.Holds saw = elim (exchanges b m n (Slot c.slot BATCH) end (settle.taken_hold c) c.last HELD saw) as (λ _. Reclaims) [
    | inl made ↦ absurd made.1.1
    | inr found ↦ absurd found.3.1
  ]
  by_point at.Pops saw =
      let l = loads b m n (Entry (block_in c.pending) NEXT) end (settle.popped c) saw in absurd (none_if b shown (c.last == 0) _ _ none none l.3.1)
  by_point (at.Firsts block) saw =
      let l = loads b m n (Entry (block_in c.last) FIRST) end (settle.first_read c block) saw in absurd (none_if b shown (block == 0) _ _ none none l.3.1)
  by_point (at.Batches block) saw = absurd saw.3
  by_point (at.Ends block) saw = absurd saw.3
  by_point (at.Appends block) saw = absurd saw.3
  by_point (at.Counts block) saw =
      let l = adds b m n (Entry (block_in c.first) COUNT) end (settle.counted c block) 1 saw in
      absurd (none_if b shown (nat_lt ((l.0 + 1) % 2 ^ 64) c.batch_size) _ _ none none l.2.1)
  by_point (at.Scans slot block marks) saw =
      let l = loads b m n (Slot slot HEAD) end (settle.scanned c slot block marks) saw in
      absurd (none_if b shown (l.0 == NEVER) _ _ none (none_if b shown (nat_lt l.0 ACTIVE) _ _ none (none_if b shown (block == 0) _ _ none none)) l.3.1)
  by_point (at.Marks slot block marks) saw = absurd saw.3
  by_point (at.Marked slot block marks) saw = let l = loads b m n (Entry (block_in block) NEXT) end (settle.marked_next c slot marks) saw in absurd l.3.1
  by_point (at.Closes marks) saw = absurd saw.3
  by_point (at.Reads block left pushed) saw = let l = loads b m n (Entry (block_in block) LINK) end (settle.slot_read c block left pushed) saw in absurd l.3.1
  by_point (at.Links block left pushed slot head) saw = absurd saw.3
  by_point (at.Pushes block left pushed slot head) saw = elim (exchanges b m n (Slot slot HEAD) end (settle.after_push c block left pushed slot) head block saw) as (λ _. Reclaims) [
    | inl made ↦ absurd made.1.1
    | inr found ↦ absurd (none_if b shown (settle.needs_none c found.0) _ _ none none found.3.1)
  ]
  by_point (at.Pushed block left pushed) saw = let l = loads b m n (Entry (block_in block) NEXT) end (settle.next_pushed c left pushed) saw in absurd l.3.1
  by_point (at.Sums pushed) saw =
      let l = adds b m n (Entry (block_in c.first) COUNT) end (settle.summed c pushed) pushed saw in absurd (none_if b shown ((l.0 + pushed) % 2 ^ 64 == 0) _ _ none none l.2.1)
  by_point at.Nexts saw = let l = loads b m n (Entry (block_in c.reclaiming) NEXT) end (settle.next_read defers c) saw in nexts l.0 l.3.0 l.3.1
  by_point (at.Drains next word) saw =
      let l = loads b m n (Word (block_in c.reclaiming) word) end (settle.drained c next) saw in
      absurd (none_if b shown (l.0 == 0) _ _ none (none_if b shown (c.put_first == 0) _ _ none none) l.3.1)
  by_point (at.Joins next more) saw = absurd saw.3
  by_point (at.Tails next) saw =
      let l = loads b m n (Entry (block_in c.put_last) NEXT) end (settle.tail_read c next) saw in absurd (none_if b shown (l.0 == 0) _ _ none none l.3.1)
  by_point (at.Takes next) saw = let t = takes b m n end (settle.given_back c next) (block_in c.reclaiming) saw in absurd t.1.1
  by_point at.Puts saw = absurd saw.3
  by_point at.Lists saw = let l = loads b m n (Entry (block_in c.list) LINK) end (settle.entry_read c) saw in absurd l.3.1
  by_point (at.Owns next) saw = let l = loads b m n (Entry (block_in c.list) FIRST) end (settle.batch_read c next) saw in absurd l.3.1
  by_point (at.Downs next batch) saw =
      let l = adds b m n (Entry (block_in batch) COUNT) end (settle.counted_down c next batch) _ saw in absurd (none_if b shown (l.0 == 1) _ _ none none l.2.1)
  by_point at.Gives saw = absurd saw.3
  by_point at.Over saw = absurd saw.2

  pub settle_sees : HasSeen b m (settle_plan defers c) n end → Reclaims
  settle_sees saw = by_point c.stands saw
