-- A step of a settling that only counts: it goes on only counting, and has less to do, unless it was over.
use Rattle.std.specs.Prelude.{if◌then◌else◌, ◌==◌, ◌/◌, ◌%◌, ◌^◌, ◌-◌, IsSome, Option, Some, None}
use Rattle.std.proofs.Common.{◌≡◌, ℕ, ◌+◌, ◌<◌, ◌≤◌, Bool, true, false, length, refl, arith, ap, sym, subst, ◌∙◌}
use Rattle.seize_words.specs.declared.at.At.TheVariants.{Entry}
use Rattle.seize_words.specs.OneMemory.Mem.{Mem, Took, value_at, word_at, with_word}
use Rattle.seize_words.specs.OneMemory.Op.{Found}
use Rattle.seize_words.specs.OneMemory.Plan.{Steps, Ends}
use Rattle.seize_words.proofs.OneMemory.OneOwner.Operations.{loaded, added, taken as taken_value}
use Rattle.seize.specs.declared.states.TheConstants.{NEXT, LINK, FIRST, COUNT}
use Rattle.seize.specs.declared.rows.settle.Settle.{Settle}
use Rattle.seize.specs.declared.rows.settle.Settling.{Settling}
use Rattle.seize.specs.declared.rows.settle.Settling.TheVariants as at
use Rattle.seize.specs.declared.rows.settle.Settled.{Settled}
use Rattle.seize.specs.declared.rows.settle.Settled.TheVariants.{Goes, Gave}
use Rattle.seize.specs.Settle as plans
use Rattle.seize_model.proofs.Given.SeizeMovesState.Ghost.{State}
use Rattle.seize_model.proofs.Given.SeizeMemoryWords.Named.{wrote}
use Rattle.seize_model.proofs.Given.SeizeMemoryWords.Chains.{Chain, blocks_of}
use Rattle.seize_model.proofs.Given.SeizeMemoryWords.Sums.{blocks_long}
use Rattle.seize_model.proofs.Given.SeizeMemoryWords.View.{View, view, view_count}
use Rattle.seize_model.proofs.Given.SeizeMemoryWords.Shows.{Extra, Shows}
use Rattle.seize_model.proofs.Given.SeizeRulePoints.Told.{Plain, Pushing, Draining, part, part_at, Told}
use Rattle.seize_model.proofs.Given.SeizeRulePoints.Known.{FitsAt, Fits, Downs, bare, list_word}
use Rattle.seize_model.proofs.Given.SeizeRulePoints.Down.{word_of_list}
use Rattle.seize_acts.proofs.Bounds.Bounds.Machine.{IsCounting, OnlyCounts, onward_counts, without_counts, point, weight, less_loose, no_more, taken_less}
use Rattle.seize_acts.proofs.Bounds.Bounds.Hands.{chains_agree}
use Rattle.seize_acts.proofs.Bounds.Bounds.Knows.{known_at}

-- an entry less is to be counted, where the row goes on with the word of the next one
pub entry_less : {T : Type 0} (defers : T → Option ℕ) (n j : ℕ) (mem mem2 : Mem T) (m : State) (x : Extra) (c : Settle) (end : Settle × Settled T) (m2 : State)
    (x2 : Extra)
    → Shows n (view defers mem) m x → Shows n (view defers mem2) m2 x2 → Fits n j (view defers mem2) m2 x2 end.0 → (next batch : ℕ)
    → Downs n j (view defers mem) m x (bare c) next batch → (k : ℕ) → IsSome (word_at mem (Entry (batch / 2048) COUNT))
    → mem2 ≡ with_word mem (Entry (batch / 2048) COUNT) k → end.0.list ≡ next → length (m2.loose j) + 1 ≡ length (m.loose j)
entry_less {T} defers n j mem mem2 m x c end m2 x2 v v2 fits2 next batch r k there is list =
    let hand = (known_at n j (view defers mem2) m2 x2 end.0 end.0.stands fits2).common.hand ∙ ap list_word list in
    let links : (view defers mem2).links ≡ (view defers mem).links =
    ap (λ (q : Mem T). (view defers q).links) is
    ∙ ap (λ (g : View). g.links)
    (view_count defers mem (batch / 2048) k (with_word mem (Entry (batch / 2048) COUNT) k) (wrote mem (Entry (batch / 2048) COUNT) k there)) in
    let was : Chain 3 (view defers mem).links next (blocks_of r.owns.es) = rw (r.owns.next_is) at ((rw (r.owns.loose) at (v.entries.loosed j)).2) in
    let word = word_of_list (view defers mem).links next (blocks_of r.owns.es) was in
    let now : Chain 3 (view defers mem2).links next (blocks_of (m2.loose j)) =
    subst (λ (u : ℕ). Chain 3 (view defers mem2).links u (blocks_of (m2.loose j))) (hand ∙ word) (v2.entries.loosed j) in
    let same = ap (length) (chains_agree 3 (omega arith) (view defers mem).links (view defers mem2).links next (blocks_of r.owns.es) (blocks_of (m2.loose j))
    (λ b p. ap (λ (f : ℕ → ℕ). f b) links) was now) in
    let a = blocks_long (m2.loose j) in
    let b = blocks_long r.owns.es in
    let z = ap (length) r.owns.loose in
    omega (arith, same, a, b, z)

module _ {T : Type 0} (defers : T → Option ℕ) (n most j : ℕ) (mem mem2 : Mem T) (m : State) (x : Extra) (c : Settle) (end : Settle × Settled T) (m2 : State)
    (x2 : Extra)
    (v : Shows n (view defers mem) m x) (v2 : Shows n (view defers mem2) m2 x2) (few : length (m2.left j) ≤ most)
    (plain : (b : ℕ) (value : T) → value_at mem b ≡ Some value → defers value ≡ None)
    (counts : OnlyCounts c)
    (fits2 : Fits n j (view defers mem2) m2 x2 end.0) where
  -- it goes on so, from this point
  pub record Less (p : Settling) : Type 0 where
    pub still : OnlyCounts end.0
    pub falls : weight most j m2 + point end.0.stands < weight most j m + point p

  less : (p : Settling) (d : Settle) (o : Settled T) → end ≡ (d, o) → OnlyCounts d → weight most j m2 + point d.stands < weight most j m + point p → Less p
  less p d o e k h = record {
    still = subst (λ (q : Settle × Settled T). OnlyCounts q.0) (sym e) k;
    falls = subst (λ (q : Settle × Settled T). weight most j m2 + point q.0.stands < weight most j m + point p) (sym e) h;
  }

  standing : (p : Settling) → IsCounting p → OnlyCounts (plans.standing c p)
  standing p is = record { counting = is; pending = counts.pending; flushing = counts.flushing; held = counts.held; put = counts.put }

  plain_part : Plain ≡ Pushing → ⊥
  plain_part e = cc e

  lists_less : Told n j c Plain m end.0 m2 → Steps Took value_at mem (plans.lists c) mem2 end → Less at.Lists
  lists_less told st =
      let d = loaded mem (plans.entry_read c) (Entry (c.list / 2048) LINK) mem2 end st in
      let a = no_more n most j m m2 few c Plain end.0 plain_part told in
      less at.Lists (plans.standing c (at.Owns d.0)) Goes d.3 (standing (at.Owns d.0) tt) (omega (arith, a))

  owns_less : (next : ℕ) → Told n j c Plain m end.0 m2 → Steps Took value_at mem (plans.owns c next) mem2 end → Less (at.Owns next)
  owns_less next told st =
      let d = loaded mem (plans.batch_read c next) (Entry (c.list / 2048) FIRST) mem2 end st in
      let a = no_more n most j m m2 few c Plain end.0 plain_part told in
      less (at.Owns next) (plans.standing c (at.Downs next d.0)) Goes d.3 (standing (at.Downs next d.0) tt) (omega (arith, a))

  nexts_less : Told n j c Plain m end.0 m2 → Steps Took value_at mem (plans.nexts defers c) mem2 end → Less at.Nexts
  nexts_less told st =
      let d = loaded mem (plans.next_read defers c) (Entry (c.reclaiming / 2048) NEXT) mem2 end st in
      let q : (value : T) × (value_at mem (c.reclaiming / 2048) ≡ Some value) × Ends (value_at mem) (plans.drained_first c d.0 (defers value)) end = d.3 in
      let e : end ≡ (plans.standing c (at.Takes d.0), Goes) =
      subst (λ (o : Option ℕ). Ends (value_at mem) (plans.drained_first {T = T} c d.0 o) end) (plain (c.reclaiming / 2048) q.0 q.1) q.2 in
      let a = no_more n most j m m2 few c Plain end.0 plain_part told in
      less at.Nexts (plans.standing c (at.Takes d.0)) Goes e (standing (at.Takes d.0) tt) (omega (arith, a))

  takes_less : (next : ℕ) → Told n j c Draining m end.0 m2 → Steps Took value_at mem (plans.takes c next) mem2 end → Less (at.Takes next)
  takes_less next told st =
      let d = taken_value {R = Settle × Settled T} mem (plans.given_back c next) (c.reclaiming / 2048) mem2 end st in
      let o = without_counts c next counts in
      let near = o.near in
      let is : part end.0 ≡ Plain = ap (λ (q : Settle × Settled T). part q.0) d.3 ∙ o.plain in
      let a = taken_less n most j m m2 few c Draining end.0 refl is told in
      less (at.Takes next) (plans.without_block c next) (Gave d.0) d.3 o.counts (omega (arith, a, near))

  -- an entry is counted
  module _ (next batch : ℕ) (r : Downs n j (view defers mem) m x (bare c) next batch) (st : Steps Took value_at mem (plans.downs c next batch) mem2 end) where
    downs_less : Less (at.Downs next batch)
    downs_less =
        let d = added mem (plans.counted_down c next batch) (Entry (batch / 2048) COUNT) (2 ^ 64 - 1) mem2 end st in
        let k = (d.0 + (2 ^ 64 - 1)) % 2 ^ 64 in
        one k (d.0 == 1) (rw (d.1) refl) d.2 (subst (λ (q : Mem T). Ends (value_at q) (plans.counted_down c next batch (Found d.0)) end) (sym d.2) d.3)
      where
        by : (k : ℕ) → IsSome (word_at mem (Entry (batch / 2048) COUNT)) → mem2 ≡ with_word mem (Entry (batch / 2048) COUNT) k
            → (b : Settle) → b.list ≡ next → b.pending ≡ 0 → b.flushing ≡ false → b.held ≡ false → b.put_first ≡ 0 → end ≡ (plans.onward b, Goes)
            → Less (at.Downs next batch)
        by k there is b list pending flushing held put e =
            let o = onward_counts b pending flushing held put in
            let near = o.near in
            let a = less_loose n most j m m2 few
            (entry_less defers n j mem mem2 m x c end m2 x2 v v2 fits2 next batch r k there is (ap (λ (q : Settle × Settled T). q.0.list) e ∙ o.list ∙ list)) in
            less (at.Downs next batch) (plans.onward b) Goes e o.counts (omega (arith, a, near))

        one : (k : ℕ) (t : Bool) → IsSome (word_at mem (Entry (batch / 2048) COUNT)) → mem2 ≡ with_word mem (Entry (batch / 2048) COUNT) k
            → Ends (value_at mem2)
            (if t then plans.to {T = T} (plans.onward (record c { list = next; reclaiming = batch })) else plans.to
            (plans.onward (record c { list = next }))) end
            → Less (at.Downs next batch)
        one k true there is e = by k there is (record c { list = next; reclaiming = batch }) refl counts.pending counts.flushing counts.held counts.put e
        one k false there is e = by k there is (record c { list = next }) refl counts.pending counts.flushing counts.held counts.put e

  -- each point
  pub step_less : (p : Settling) → IsCounting p → (p ≡ at.Over → ⊥) → FitsAt n j (view defers mem) m x (bare c) p → Told n j c (part_at c.flushing p) m end.0 m2
      → Steps Took value_at mem (plans.plan_at defers c p) mem2 end → Less p
  step_less at.Lists is ne r told st = lists_less told st
  step_less (at.Owns next) is ne r told st = owns_less next told st
  step_less (at.Downs next batch) is ne r told st = downs_less next batch r st
  step_less at.Nexts is ne r told st = nexts_less told st
  step_less (at.Takes next) is ne r told st = takes_less next told st
  step_less at.Over is ne r told st = absurd (ne refl)
  step_less _ is ne r told st = absurd is
