-- What waits as a map ends are pairs: its deeds take none of them, and what they leave over with a table lay behind it.
use Rattle.std.proofs.Common.{◌≡◌, ℕ, zero, suc, ◌<◌, ◌≤◌, Bool, true, false, List, [], ◌++◌, ◌⊎◌, inl, inr, refl, arith, ap, sym, subst, ◌∙◌}
use Rattle.std.proofs.lemmas.Bool.{cases_lt}
use Rattle.many_calls.specs.Given.SeizeLaw.{With}
use Rattle.many_calls.specs.Given.SeizeWorld.{World, Hand, NoBlock, Making, InUse, Parting, Cutting, Handed, LeftTo, IsNotLeft, times}
use Rattle.many_calls.specs.Given.TablesDeclared.node.Node.{Node}
use Rattle.many_calls.specs.Kept.{IsMaking, IsPair}
use Rattle.many_maps.specs.Endings.{Finishing, FinishingFacts, waiting_by}
use Rattle.many_maps.specs.FactsEnds.{Deed, Looks, TakesPair, LeavesTable, JoinsPair, TakesLeft, TakesCounter, WritesRoot, taken_by, Spares, wait_before}
use Rattle.many_maps.proofs.Among.Own.Apart.{DoesNew, DoesIts, Did}
use Rattle.many_maps.proofs.Ends.CountedBlocks.{times-append}
use Rattle.many_maps.proofs.Ends.Frames.{that_one}
use Rattle.many_maps.proofs.Ends.Since.{none_there}

-- what its maker has is left to nobody
making_not_left : (h : Hand) → IsMaking h → IsNotLeft h
making_not_left NoBlock making = absurd making
making_not_left (Making j) making = tt
making_not_left (InUse o) making = absurd making
making_not_left (Parting j) making = absurd making
making_not_left (Cutting j) making = absurd making
making_not_left Handed making = absurd making
making_not_left (LeftTo j) making = absurd making

-- what is left over is left to somebody
pub left_not : (h : Hand) (j : ℕ) → h ≡ LeftTo j → IsNotLeft h → ⊥
left_not h j e not = subst IsNotLeft e not

module _ {K V : Type 0} (same : K → K → Bool) (batch_size : ℕ) (w : World (Node K V)) (i : ℕ) (f : Finishing K V) (facts : FinishingFacts same batch_size w i f) where
  -- a deed takes what was not left over before, or a table of the map, which it has left over
  abbrev pub TakesSo : Deed → Type 0
  TakesSo deed =
      (x : ℕ) → 0 < times x (taken_by deed)
      → IsNotLeft (w.hand x) ⊎ ((w.hand x ≡ LeftTo i) × (times x f.back ≡ 0) × ((t : ℕ) × (f.chart.first ≤ t) × (t < f.chart.past) × (x ≡ f.blocks.table t)))

  none : {X : Type 0} (x : ℕ) → 0 < times x [] → X
  none x some = absurd (omega (arith, some))

  which_table : (b : ℕ) → ◌⊎◌ (false ≡ true) ((t : ℕ) × (f.chart.first ≤ t) × (t < f.chart.past) × (b ≡ f.blocks.table t)) → (t : ℕ) × (f.chart.first ≤ t) × (t < f.chart.past) × (b ≡ f.blocks.table t)
  which_table b (inl e) = absurd (cc e)
  which_table b (inr k) = k

  pub takes_so : (past2 : ℕ) (deed : Deed) → DoesIts same batch_size w i f facts past2 deed → DoesNew same batch_size w i f facts deed → TakesSo deed
  takes_so past2 Looks its fresh x on = none x on
  takes_so past2 (TakesPair b) its fresh x on = inl (subst IsNotLeft (sym (ap w.hand (that_one x b on) ∙ its.1)) tt)
  takes_so past2 (LeavesTable b further) its fresh x on = none x on
  takes_so past2 (JoinsPair b word) its fresh x on = none x on
  takes_so past2 (TakesLeft b) its fresh x on =
      let e = that_one x b on in
      inr (ap w.hand e ∙ its.1, subst (λ (y : ℕ). times y f.back ≡ 0) (sym e) fresh, (let k = which_table b its.2 in (k.0, k.1, k.2, e ∙ k.3)))
  takes_so past2 (TakesCounter b) its fresh x on = inl (making_not_left (w.hand x) (subst (λ (y : ℕ). IsMaking (w.hand y)) (sym (that_one x b on)) its.2))
  takes_so past2 (WritesRoot place word) its fresh x on = none x on

  -- what waits is left over to the caller
  pub waits_left : (x : ℕ) → 0 < times x f.waits → w.hand x ≡ LeftTo i
  waits_left x on = facts.facts.since.waits x (subst (λ (l : List ℕ). 0 < times x l) facts.waits_are on)

  -- it is none of the map's tables
  no_table : (x t : ℕ) → 0 < times x f.waits → f.chart.first ≤ t → t < f.chart.past → times x f.back ≡ 0 → x ≡ f.blocks.table t → ⊥
  no_table x t on from made fresh e =
      let y = facts.facts.since.tables t from made (subst (λ (b : ℕ). times b f.back ≡ 0) e fresh) in
      elim (cases_lt t facts.past) as (λ _. ⊥) [
        | inl before ↦ (let gone = (y.left before).1 in
            let some = subst (λ (b : ℕ). 0 < times b (wait_before f.setting f.chart f.blocks facts.lists false facts.past)) e (subst (λ (l : List ℕ). 0 < times x l) facts.waits_are on) in
            omega (arith, gone, some))
        | inr later ↦ (let used = (y.used later).0 in let left = waits_left x on in let at = ap w.hand e in cc (used, left, at))
      ]

  -- so a deed takes none of it
  pub waits_stay : (deed : Deed) → TakesSo deed → (x : ℕ) → 0 < times x f.waits → times x (taken_by deed) ≡ 0
  waits_stay deed takes x on = none_there x (taken_by deed) (λ some. elim (takes x some) as (λ _. ⊥) [
    | inl not ↦ left_not (w.hand x) i (waits_left x on) not
    | inr (left, fresh, (t, from, made, e)) ↦ no_table x t on from made fresh e
  ])

  module _ (w2 : World (Node K V)) where
    -- what waited are pairs then
    pub waiting_then : (deed : Deed) → Spares f.setting i w w2 deed → TakesSo deed → (x : ℕ) → 0 < times x f.waits → IsPair w2 x
    waiting_then deed s takes x on = let p = facts.waiting x on in (p.0, p.1, s.values x (waits_stay deed takes x on) ∙ p.2)

    -- and so is what is left over with a table
    left_pairs : (past2 : ℕ) (deed : Deed) → DoesIts same batch_size w i f facts past2 deed → Spares f.setting i w w2 deed → (x : ℕ) → 0 < times x (waiting_by deed) → IsPair w2 x
    left_pairs past2 Looks its s x on = none x on
    left_pairs past2 (TakesPair b) its s x on = none x on
    left_pairs past2 (LeavesTable b further) (is, used, behind, from, made, named, list) s x on =
        let p = (facts.theirs facts.past x from (omega arith) made ((behind.theirs x on).1 ∙ ap With named)).pair in (p.0, p.1, s.values x refl ∙ p.2)
    left_pairs past2 (JoinsPair b word) its s x on = none x on
    left_pairs past2 (TakesLeft b) its s x on = none x on
    left_pairs past2 (TakesCounter b) its s x on = none x on
    left_pairs past2 (WritesRoot place word) its s x on = none x on

    pub waiting_on : (did : Did same batch_size w i f facts w2) → (x : ℕ) → 0 < times x (f.waits ++ waiting_by did.deed) → IsPair w2 x
    waiting_on did x on = by (times x f.waits) refl
      where
        by : (k : ℕ) → times x f.waits ≡ k → IsPair w2 x
        by zero e = left_pairs did.past2 did.deed did.its did.spares x (let k = times-append x f.waits (waiting_by did.deed) in omega (arith, k, on, e))
        by (suc k) e = waiting_then did.deed did.spares (takes_so did.past2 did.deed did.its did.fresh) x (omega (arith, e))
