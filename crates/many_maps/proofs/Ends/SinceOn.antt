-- What was so since a map began to end is so in another world, where its own blocks and those that wait are as they were.
use Rattle.std.specs.Prelude.{◌≢◌, Option, Some, None, IsSome}
use Rattle.std.proofs.Common.{◌≡◌, ℕ, ◌<◌, ◌≤◌, Bool, true, false, List, [], refl, arith, sym, subst, ap, ◌∙◌}
use Rattle.many_calls.specs.Given.SeizeWordsDeclared.at.At.TheVariants.{Word}
use Rattle.many_calls.specs.Given.SeizeWordsMem.{value_at, word_at}
use Rattle.many_calls.specs.Given.SeizeFurther.{FurtherFrom}
use Rattle.many_calls.specs.Given.SeizeLaw.{With, holds, is_orphan, is_over, owner_of}
use Rattle.many_calls.specs.Given.SeizeWorld.{World, Handed, IsOnto, times}
use Rattle.many_calls.proofs.Given.SeizeAloneHistories.Reached.{Reached}
use Rattle.many_calls.specs.Given.TablesNodes.{deferred_word}
use Rattle.many_calls.specs.Given.TablesDeclared.node.Node.{Node}
use Rattle.many_calls.specs.Given.TablesDeclared.setting.Setting.{Setting}
use Rattle.many_calls.specs.Given.TablesDeclared.table_words.TheConstants.{DEFERRED}
use Rattle.many_calls.specs.Given.RuleChart.{Chart}
use Rattle.many_calls.specs.Given.RuleWords.{Blocks}
use Rattle.many_calls.specs.Kept.{IsMaking}
use Rattle.many_calls.proofs.Rows.Behind.{behind_handed, pair_on}
use Rattle.many_maps.specs.FactsEnds.{Deed, Looks, TakesPair, LeavesTable, JoinsPair, TakesLeft, TakesCounter, WritesRoot, CarryTheirs, IsItsDeed, taken_by, left_by, cut_by, joined_by, Spares, HasDeferred, IsOverStill, IsTableYet, Since, wait_before}
use Rattle.many_maps.proofs.Ends.CountedBlocks.{times_other}
use Rattle.many_maps.proofs.Ends.Memory.{list_kept}

-- a block is as it was: its value, who has it, whose it is, and whether its owner has ended
pub record IsSame {T : Type 0} (w w2 : World T) (x : ℕ) : Type 0 where
  pub value : value_at w2.memory x ≡ value_at w.memory x
  pub hand : w2.hand x ≡ w.hand x
  pub owner_is : owner_of x w2.log ≡ owner_of x w.log
  pub orphan : is_orphan x w2.log ≡ is_orphan x w.log
  pub over : is_over x w2.log ≡ is_over x w.log

-- what a block carries it carries still, if it was not unlinked, and nothing was done to what it carries
module _ {K V : Type 0} (setting : Setting) (caller : ℕ) (w w2 : World (Node K V)) (deed : Deed) (s : Spares setting caller w w2 deed) where
  pub behind_kept : (b : ℕ) (list : List ℕ) → HasDeferred w b list → times b (taken_by deed) ≡ 0 → times b (cut_by deed) ≡ 0
      → ((x : ℕ) → 0 < times x list → (times x (taken_by deed) ≡ 0) × (times x (left_by deed) ≡ 0) × (times x (joined_by deed) ≡ 0) × (times x (cut_by deed) ≡ 0)) → HasDeferred w2 b list
  behind_kept b list h there uncut apart = record {
    are = (h.are.0, s.values b there ∙ h.are.1, from (deferred_word h.are.0) h.are.2);
    once = h.once;
    theirs = λ x on.
        let a = apart x on in (
          s.hands x a.0 a.1 ∙ (h.theirs x on).0,
          s.places x a.0 a.3 (λ d e. subst (λ (y : ℕ). times y (cut_by deed) ≡ 0) (same_behind b d (sym (h.theirs x on).1 ∙ e)) uncut) ∙ (h.theirs x on).1,
          subst (λ (o : Option (Node K V)). IsSome o) (sym (s.values x a.0)) (h.theirs x on).2,
        );
    all = λ x behind. h.all x (s.behind x b behind);
  }
    where
      same_behind : (a d : ℕ) → With a ≡ With d → a ≡ d
      same_behind a d e = cc e

      from : (o : Option ℕ) → FurtherFrom w.memory b o list → FurtherFrom w2.memory b o list
      from None k = k
      from (Some field) k =
          (k.0, s.words b field there ∙ k.1, list_kept w.memory w2.memory k.0 list (λ x on. let a = apart x on in s.links x a.0 a.2) k.2)

module _ {K V : Type 0} (setting : Setting) (c : Chart K) (blocks : Blocks) (owns : Bool) (caller : ℕ) (w0 w w2 : World (Node K V)) (past : ℕ) where
  -- What the map has left is as it was in the second world: nobody puts a block behind one of its own, and this is what its tables carry there.
  pub record Lasts (lists lists2 : ℕ → List ℕ) (back2 : List ℕ) : Type 0 where
    pub tables : (t : ℕ) → c.first ≤ t → t < c.past → times (blocks.table t) back2 ≡ 0
        → IsSame w w2 (blocks.table t) × ((i word : ℕ) → i ≢ DEFERRED → word_at w.memory (Word (blocks.table t) i) ≡ Some word → word_at w2.memory (Word (blocks.table t) i) ≡ Some word)
    pub pairs : (n : ℕ) → c.current n ≡ true → times (blocks.pair n) back2 ≡ 0 → IsSame w w2 (blocks.pair n)
    pub counter : times setting.counter back2 ≡ 0 → (value_at w2.memory setting.counter ≡ value_at w.memory setting.counter) × (w2.hand setting.counter ≡ w.hand setting.counter)
    pub tables_onto : (t j : ℕ) → c.first ≤ t → past ≤ t → t < c.past → times (blocks.table t) back2 ≡ 0 → IsOnto (blocks.table t) (w2.row j) → ⊥
    pub pairs_onto : (n j : ℕ) → c.current n ≡ true → times (blocks.pair n) back2 ≡ 0 → IsOnto (blocks.pair n) (w2.row j) → ⊥
    pub carries : (t : ℕ) → c.first ≤ t → past ≤ t → t < c.past → times (blocks.table t) back2 ≡ 0 → HasDeferred w2 (blocks.table t) (lists2 t)
    pub waits : (x : ℕ) → 0 < times x (wait_before setting c blocks lists owns past) → w2.hand x ≡ w.hand x
    pub free : owns ≡ true → (s x : ℕ) → holds s x w2.log ≡ false

  module _ (lists lists2 : ℕ → List ℕ) (back back2 : List ℕ) (l : Lasts lists lists2 back2) where
    still_on : (x : ℕ) → IsSame w w2 x → IsOverStill setting.counter w0 w x → IsOverStill setting.counter w0 w2 x
    still_on x s o = record { value = s.value ∙ o.value; owner_is = s.owner_is ∙ o.owner_is; orphan = s.orphan ∙ o.orphan; over = s.over ∙ o.over }

    pub since_on : wait_before setting c blocks lists2 owns past ≡ wait_before setting c blocks lists owns past → ((x : ℕ) → times x back2 ≡ 0 → times x back ≡ 0)
        → Since setting c blocks lists owns caller w0 w past back → Since setting c blocks lists2 owns caller w0 w2 past back2
    since_on waits_same fewer since = record {
      tables = λ t from made fresh. table_on t from made fresh (since.tables t from made (fewer (blocks.table t) fresh));
      pairs = λ n current fresh.
          let p = since.pairs n current (fewer (blocks.pair n) fresh) in
          let s = l.pairs n current fresh in
          (still_on (blocks.pair n) s p.0, (s.hand ∙ p.1.0, λ j onto. l.pairs_onto n j current fresh onto));
      counter = λ fresh. let k = since.counter (fewer setting.counter fresh) in let s = l.counter fresh in (s.0 ∙ k.0, subst IsMaking (sym s.1) k.1);
      once = λ x. subst (λ (w : List ℕ). times x w ≤ 1) (sym waits_same) (since.once x);
      waits = λ x on. let k = subst (λ (w : List ℕ). 0 < times x w) waits_same on in l.waits x k ∙ since.waits x k;
      free = l.free;
    }
      where
        table_on : (t : ℕ) → c.first ≤ t → t < c.past → times (blocks.table t) back2 ≡ 0 → IsTableYet setting c blocks lists owns caller w0 w past t
            → IsTableYet setting c blocks lists2 owns caller w0 w2 past t
        table_on t from made fresh y =
            let s = l.tables t from made fresh in
            record {
              still = still_on (blocks.table t) s.0 y.still;
              words = λ i word other is. s.1 i word other (y.words i word other is);
              used = λ later. (s.0.hand ∙ (y.used later).0, λ j onto. l.tables_onto t j from later made fresh onto);
              carries = λ later. l.carries t from later made fresh;
              left = λ before. let k = y.left before in (s.0.hand ∙ k.0, ap (times (blocks.table t)) waits_same ∙ k.1);
            }

-- What can be reached through the map's tables is a pair of the map's after a deed, too.
module _ {K V : Type 0} (setting : Setting) (c : Chart K) (blocks : Blocks) (lists : ℕ → List ℕ) (owns : Bool) (caller : ℕ) (w w2 : World (Node K V)) (past : ℕ) where
  -- a deed takes nothing away that the collector has
  pub handed_stays : (deed : Deed) (past2 : ℕ) → IsItsDeed setting c blocks lists owns caller w past past2 deed → (x : ℕ) → w.hand x ≡ Handed → times x (taken_by deed) ≡ 0
  handed_stays Looks past2 its x handed = refl
  handed_stays (TakesPair b) past2 its x handed = times_other x b [] (λ e. let used = its.1 in let at = ap w.hand e in cc (used, at, handed))
  handed_stays (LeavesTable b further) past2 its x handed = refl
  handed_stays (JoinsPair b word) past2 its x handed = refl
  handed_stays (TakesLeft b) past2 its x handed = times_other x b [] (λ e. let left = its.1 in let at = ap w.hand e in cc (left, at, handed))
  handed_stays (TakesCounter b) past2 its x handed = times_other x b [] (λ e. subst IsMaking (sym (ap w.hand e) ∙ handed) its.2)
  handed_stays (WritesRoot at word) past2 its x handed = refl

  pub theirs_on : (size : ℕ) → Reached deferred_word size w → CarryTheirs setting c blocks lists owns w past → (deed : Deed) (past2 : ℕ) → Spares setting caller w w2 deed
      → IsItsDeed setting c blocks lists owns caller w past past2 deed → CarryTheirs setting c blocks lists owns w2 past2
  theirs_on size reached theirs deed past2 s next t x from later made behind =
      let before = s.behind x (blocks.table t) behind in
      pair_on setting.counter x w w2 (s.owners x) (s.values x (handed_stays deed past2 next x (behind_handed deferred_word size w reached x (blocks.table t) before)))
      (theirs t x from (no_less deed past2 next later) made before)
    where
      no_less : (deed : Deed) (past2 : ℕ) → IsItsDeed setting c blocks lists owns caller w past past2 deed → past2 ≤ t → past ≤ t
      no_less Looks past2 is l = omega (arith, is, l)
      no_less (TakesPair b) past2 is l = let k = is.0 in omega (arith, k, l)
      no_less (LeavesTable b further) past2 is l = let k = is.0 in omega (arith, k, l)
      no_less (JoinsPair b word) past2 is l = let k = is.0 in omega (arith, k, l)
      no_less (TakesLeft b) past2 is l = let k = is.0 in omega (arith, k, l)
      no_less (TakesCounter b) past2 is l = let k = is.0 in omega (arith, k, l)
      no_less (WritesRoot at word) past2 is l = let k = is.0 in omega (arith, k, l)
