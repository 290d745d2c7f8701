-- A step of the end of a map takes away nothing that sections hold of other maps, nor what others have made.
use Rattle.std.specs.Prelude.{◌≢◌, ◌++◌, ◌<◌, ◌==◌, suc, zero, Some, IsSome, if◌then◌else◌}
use Rattle.std.proofs.Common.{◌≡◌, ℕ, ◌+◌, Bool, true, false, List, [], ◌∷◌, ◌⊎◌, inl, inr, refl, sym, subst, ap, arith, ◌∙◌}
use Rattle.seize_words.specs.OneMemory.Mem.{Mem, Took, value_at}
use Rattle.seize_words.specs.OneMemory.Plan.{Steps}
use Rattle.seize.specs.Law.{holds, owner_of}
use Rattle.seize.specs.World.{World, Hand, NoBlock, Making, InUse, Parting, Cutting, Handed, LeftTo, times}
use Rattle.seize.specs.declared.rows.settle.Settled.{Settled}
use Rattle.seize.specs.declared.rows.settle.Settled.TheVariants as settled
use Rattle.map_tables.specs.declared.node.Node.{Node}
use Rattle.map_tables.specs.declared.node.Node.TheVariants.{Shards}
use Rattle.papaya_raw.specs.EndMap.{end_map_plan}
use Rattle.papaya_raw.specs.declared.machines.end_map.EndMap.{EndMap}
use Rattle.papaya_raw.specs.declared.machines.end_map.Ending.{Ending}
use Rattle.papaya_raw.specs.declared.machines.end_map.Ending.TheVariants as at
use Rattle.many_acts.specs.Given.FinishesEndings.{Finishing, FinishingFacts, HasCounter, StepsOfEnding}
use Rattle.many_acts.specs.Given.FinishesFactsEnds.{Deed, Looks, TakesPair, LeavesTable, JoinsPair, TakesLeft, TakesCounter, WritesRoot, taken_by, EndStepSpec, EndOutcome, EndingFacts, IsFresh, IsItsDeed, back_of, from_table}
use Rattle.many_acts.specs.Given.ScenesScene.{Scene, slot_of}
use Rattle.many_acts.specs.Acts.Leads.{AllStand}
use Rattle.many_acts.proofs.Given.FinishesEnds.CountedBlocks.{later_apart, some_here, some_last, times_other}
use Rattle.many_acts.proofs.Given.FinishesEnds.Known.{back_once}
use Rattle.many_acts.proofs.Given.FinishesEnds.OrdersOn.{counter_later}
use Rattle.many_acts.proofs.Given.FinishesEnds.Points.{end_steps}
use Rattle.threads_rule.proofs.Views.Made.{KeepsMade}
use Rattle.seize_words.proofs.General.{same_some}

module _ {K V S : Type 0} (same : K → K → Bool) (hash : S → K → ℕ) (batch_size roots : ℕ) (scene : Scene K V) (all : AllStand same hash batch_size roots slot_of scene) (i : ℕ)
    (d : Finishing K V) (here : scene.enders i ≡ Some d) where
  abbrev w : World (Node K V)
  w = scene.world

  facts : FinishingFacts same batch_size w i d
  facts = all.facts i d here

  abbrev lists : ℕ → List ℕ
  lists = facts.lists

  abbrev Counter : ℕ
  Counter = d.setting.counter

  abbrev All : List ℕ
  All = back_of d.setting d.chart d.blocks lists false

  abbrev Points : World (Node K V) → EndMap → ℕ → List ℕ → Ending → Type 0
  Points v e past back stands = EndingFacts d.setting d.chart d.blocks lists false i d.hash v e past back stands

  behind : (x y : ℕ) (l : List ℕ) → 0 < times x l → 0 < times x (y ∷ l)
  behind x y l some = some_last x (y ∷ []) l some

  later : (t : ℕ) → 0 < times Counter (from_table d.setting d.chart d.blocks lists false t)
  later t = counter_later d.setting d.chart d.blocks lists false t

  before : (back rest : List ℕ) → All ≡ back ++ rest → 0 < times Counter rest → (times Counter back ≡ 0) ⊎ (All ≡ back)
  before back rest e some = inl (later_apart Counter All back rest (back_once same d.hash facts.lawful d.setting d.chart d.blocks lists false i d.began facts.stood) e some)

  -- the counter is reclaimed last
  counter_first : (v : World (Node K V)) (e : EndMap) (past : ℕ) (back : List ℕ) (stands : Ending) → Points v e past back stands → (times Counter back ≡ 0) ⊎ (All ≡ back)
  counter_first v e past back at.Reads (a, is, b, c) = inl (ap (times Counter) is)
  counter_first v e past back at.Words (t, its, inside, is) = before back _ is (some_last Counter _ _ (later d.chart.first))
  counter_first v e past back (at.Takes pair) (t, n, its, inside, link, current, stored, is) =
      before back _ is (behind Counter (d.blocks.pair n) _ (some_last Counter _ _ (later d.chart.first)))
  counter_first v e past back at.Nexts (t, its, is) = before back _ is (some_last Counter _ _ (later d.chart.first))
  counter_first v e past back at.Carries (its, joined, is) = before back _ is (later past)
  counter_first v e past back (at.Joins pair) (t, its, at_past, j) = before back _ j.all (behind Counter (d.blocks.table t) _ (later (suc t)))
  counter_first v e past back (at.Follows pair) (t, its, at_past, inl (q, rest, link, g)) = before back _ g.all (some_last Counter (q ∷ rest) (d.blocks.table t ∷ from_table d.setting d.chart d.blocks lists false (suc t)) (behind Counter (d.blocks.table t) (from_table d.setting d.chart d.blocks lists false (suc t)) (later (suc t))))
  counter_first v e past back (at.Follows pair) (t, its, at_past, inr j) = before back _ j.all (behind Counter (d.blocks.table t) _ (later (suc t)))
  counter_first v e past back (at.Gives pair next) (t, its, at_past, q, rest, link, g, there) = before back _ g.all (some_last Counter (q ∷ rest) (d.blocks.table t ∷ from_table d.setting d.chart d.blocks lists false (suc t)) (behind Counter (d.blocks.table t) (from_table d.setting d.chart d.blocks lists false (suc t)) (later (suc t))))
  counter_first v e past back at.Afters (t, its, at_past, joined, is) = before back _ is (behind Counter (d.blocks.table t) _ (later past))
  counter_first v e past back (at.Drops next) (t, its, at_past, link, joined, is) = before back _ is (behind Counter (d.blocks.table t) _ (later past))
  counter_first v e past back at.Shards (at_past, joined, is) = before back _ is (some_here Counter [])
  counter_first v e past back at.Sets (at_past, joined, is) = inr is
  counter_first v e past back at.Frees (at_past, none, is) = inr is
  counter_first v e past back at.Over point = absurd point

  -- what is reclaimed comes first of what is to be
  starts : (v : World (Node K V)) (e : EndMap) (past : ℕ) (back : List ℕ) (stands : Ending) → Points v e past back stands → (rest : List ℕ) × (All ≡ back ++ rest)
  starts v e past back at.Reads (a, is, b, c) = (All, ap (λ (l : List ℕ). l ++ All) (sym is))
  starts v e past back at.Words (t, its, inside, is) = (_, is)
  starts v e past back (at.Takes pair) (t, n, its, inside, link, current, stored, is) = (_, is)
  starts v e past back at.Nexts (t, its, is) = (_, is)
  starts v e past back at.Carries (its, joined, is) = (_, is)
  starts v e past back (at.Joins pair) (t, its, at_past, j) = (_, j.all)
  starts v e past back (at.Follows pair) (t, its, at_past, inl (q, rest, link, g)) = (_, g.all)
  starts v e past back (at.Follows pair) (t, its, at_past, inr j) = (_, j.all)
  starts v e past back (at.Gives pair next) (t, its, at_past, q, rest, link, g, there) = (_, g.all)
  starts v e past back at.Afters (t, its, at_past, joined, is) = (_, is)
  starts v e past back (at.Drops next) (t, its, at_past, link, joined, is) = (_, is)
  starts v e past back at.Shards (at_past, joined, is) = (_, is)
  starts v e past back at.Sets (at_past, joined, is) = ([], is ∙ none_more back)
    where
      none_more : (l : List ℕ) → l ≡ l ++ []
      none_more [] = refl
      none_more (x ∷ l) = ap (λ (r : List ℕ). x ∷ r) (none_more l)
  starts v e past back at.Frees (at_past, none, is) = ([], is ∙ none_more back)
    where
      none_more : (l : List ℕ) → l ≡ l ++ []
      none_more [] = refl
      none_more (x ∷ l) = ap (λ (r : List ℕ). x ∷ r) (none_more l)
  starts v e past back at.Over point = absurd point

  count_here : (x : ℕ) (a b : List ℕ) → times x (a ++ b) ≡ times x a + times x b
  count_here x [] b = let n = times x b in omega arith
  count_here x (y ∷ a) b = let k = count_here x a b in let n = times x (a ++ b) in let p = times x a in let q = times x b in let u : ℕ = if x == y then 1 else 0 in omega (arith, k)

  -- so it has the counter still, where it reclaims one more
  still_counter : (c : ℕ) (v : World (Node K V)) (e : EndMap) (past : ℕ) → Points v e past (d.back ++ c ∷ []) e.stands → HasCounter d
  still_counter c v e past after = elim (counter_first w d.machine facts.past d.back d.machine.stands facts.facts.point) as (λ _. HasCounter d) [
    | inl none ↦ none
    | inr whole ↦
        let s = starts v e past (d.back ++ c ∷ []) e.stands after in
        let a = ap (times c) (sym whole ∙ s.1) in
        let b = count_here c (d.back ++ c ∷ []) s.0 in
        let g = count_here c d.back (c ∷ []) in
        let k = some_here c [] in absurd (omega (arith, a, b, g, k))
  ]

  module _ (m2 : Mem (Node K V)) (end : EndMap × Settled (Node K V)) (steps : Steps Took value_at w.memory (end_map_plan d.machine) m2 end)
      (did : StepsOfEnding V same same batch_size roots slot_of w scene.maps scene.calls scene.makers scene.enders i d m2 end) where
    went : EndStepSpec d.setting d.chart d.blocks lists false i d.hash d.began w facts.past d.back m2 end
    went =
        (end_steps same d.hash facts.lawful d.setting d.chart d.blocks lists false i d.began facts.stood w d.machine facts.past d.back facts.facts).1 m2 end steps

    -- the counter is in the hands of its maker
    is_made : (past2 c : ℕ) (h : Hand) → IsItsDeed d.setting d.chart d.blocks lists false i (record w { hand = λ x. h }) facts.past past2 (TakesCounter c) → (k : ℕ) × (h ≡ Making k)
    is_made past2 c (Making k) its = (k, refl)
    is_made past2 c NoBlock its = absurd its.2
    is_made past2 c (InUse o) its = absurd its.2
    is_made past2 c (Parting k) its = absurd its.2
    is_made past2 c (Cutting k) its = absurd its.2
    is_made past2 c Handed its = absurd its.2
    is_made past2 c (LeftTo k) its = absurd its.2

    -- what is not the map's own is not taken
    by_deed : (b : ℕ) → owner_of b w.log ≢ Counter → ((h : ℕ) → w.hand b ≡ Making h → ⊥) → (deed : Deed) → IsFresh d.setting d.chart d.blocks lists false d.back deed
        → IsItsDeed d.setting d.chart d.blocks lists false i w facts.past went.past2 deed → times b (taken_by deed) ≡ 0
    by_deed b other made Looks fresh its = refl
    by_deed b other made (LeavesTable c further) fresh its = refl
    by_deed b other made (JoinsPair c word) fresh its = refl
    by_deed b other made (WritesRoot place word) fresh its = refl
    by_deed b other made (TakesPair c) fresh (is, used, n, current, named) =
        times_other b c [] (λ e. other (ap (λ (y : ℕ). owner_of y w.log) (e ∙ named)
        ∙ (facts.facts.since.pairs n current (subst (λ (y : ℕ). times y d.back ≡ 0) named fresh.0)).0.owner_is))
    by_deed b other made (TakesLeft c) fresh (is, left, inl own) = absurd (cc own)
    by_deed b other made (TakesLeft c) fresh (is, left, inr (t, from, late, named)) =
        times_other b c [] (λ e. other (ap (λ (y : ℕ). owner_of y w.log) (e ∙ named)
        ∙ (facts.facts.since.tables t from late (subst (λ (y : ℕ). times y d.back ≡ 0) named fresh)).still.owner_is))
    by_deed b other made (TakesCounter c) fresh (is, named, making) =
        let its = is_made went.past2 c (w.hand c) (is, named, making) in times_other b c [] (λ e. made its.0 (ap w.hand e ∙ its.1))

    not_taken : (b : ℕ) → (HasCounter d → owner_of b w.log ≢ Counter) → ((h : ℕ) → w.hand b ≡ Making h → ⊥) → times b (taken_by went.deed) ≡ 0
    not_taken b other made = by end.1 went.told
      where
        by : (told : Settled (Node K V)) → EndOutcome d.setting d.chart d.blocks lists false i d.hash d.began w went.w2 went.deed went.past2 d.back (end.0, told) → times b (taken_by went.deed) ≡ 0
        by settled.Goes so = ap (times b) so.0
        by settled.Waits so = absurd so
        by (settled.Gave value) (c, taken, was, after) = by_deed b (other (still_counter c went.w2 end.0 went.past2 after.point)) made went.deed went.fresh went.its
        by settled.Done so = ap (times b) so.0

    same_value : (b : ℕ) → times b (taken_by went.deed) ≡ 0 → value_at did.w2.memory b ≡ value_at w.memory b
    same_value b none = ap (λ (m : Mem (Node K V)). value_at m b) (did.memory ∙ sym went.memory) ∙ went.spares.values b none

    -- what is there then was not taken
    there_then : (b : ℕ) → IsSome (value_at did.w2.memory b) → times b (taken_by did.deed) ≡ 0
    there_then b some = by (times b (taken_by did.deed)) refl
      where
        by : (n : ℕ) → times b (taken_by did.deed) ≡ n → times b (taken_by did.deed) ≡ 0
        by zero e = e
        by (suc n) e = let none = did.spares.gone b (subst (λ (k : ℕ). 0 < k) (sym e) (omega arith)) in absurd (cc (none, some))

    pub ends_keep : (t b : ℕ) → (HasCounter d → owner_of b w.log ≢ Counter) → ((h : ℕ) → w.hand b ≡ Making h → ⊥) → IsSome (value_at w.memory b) → holds t b w.log ≡ true
        → (holds t b did.w2.log ≡ true) × (owner_of b did.w2.log ≡ owner_of b w.log) × (value_at did.w2.memory b ≡ value_at w.memory b)
    ends_keep t b other made some held =
        let value = same_value b (not_taken b other made) in
        let none = there_then b (subst IsSome (sym value) some) in (did.spares.held t b none ∙ held, did.spares.owners b, value)

    -- what others have made is not taken, either
    made_kept : (b k : ℕ) (x : Node K V) → w.hand b ≡ Making k → value_at w.memory b ≡ Some x → x ≢ Shards → (deed : Deed) → IsFresh d.setting d.chart d.blocks lists false d.back deed
        → IsItsDeed d.setting d.chart d.blocks lists false i w facts.past went.past2 deed → times b (taken_by deed) ≡ 0
    made_kept b k x made is other Looks fresh its = refl
    made_kept b k x made is other (LeavesTable c further) fresh its = refl
    made_kept b k x made is other (JoinsPair c word) fresh its = refl
    made_kept b k x made is other (WritesRoot place word) fresh its = refl
    made_kept b k x made is other (TakesPair c) fresh its = times_other b c [] (λ e. (let hand = sym made ∙ ap w.hand e ∙ its.1 in cc hand))
    made_kept b k x made is other (TakesLeft c) fresh its = times_other b c [] (λ e. (let hand = sym made ∙ ap w.hand e ∙ its.1 in cc hand))
    made_kept b k x made is other (TakesCounter c) fresh (past, named, making) =
        times_other b c [] (λ e. other (same_some x Shards (sym is ∙ ap (value_at w.memory) (e ∙ named) ∙ (facts.facts.since.counter (subst (λ (y : ℕ). times y d.back ≡ 0) named fresh)).0)))

    pub ends_keep_made : (k : ℕ) → KeepsMade w did.w2 k
    ends_keep_made k b x made is other = same_value b (made_kept b k x made is other went.deed went.fresh went.its) ∙ is

    pub ends_keep_handed : (b : ℕ) → IsSome (value_at did.w2.memory b) → value_at did.w2.memory b ≡ value_at w.memory b
    ends_keep_handed b some = did.spares.values b (there_then b some)
