-- What is known while a map ends: its tables that are still there, and the worlds that its steps lead to.
use Rattle.std.specs.Prelude.{Option, Some, None}
use Rattle.std.proofs.Common.{◌≡◌, ℕ, ◌<◌, ◌≤◌, Bool, true, false, List, [], refl, arith, ap, sym, subst, ◌∙◌, inl, ◌⊎◌}
use Rattle.many_calls.specs.Given.SeizeWordsDeclared.at.At.TheVariants.{Word}
use Rattle.many_calls.specs.Given.SeizeWordsOp.{Taken}
use Rattle.many_calls.specs.Given.SeizeWordsMem.{Mem, value_at, word_at, with_block}
use Rattle.many_calls.specs.Given.SeizeDeclared.rows.settle.Settled.{Settled}
use Rattle.many_calls.specs.Given.SeizeFurther.{FurtherFrom}
use Rattle.many_calls.specs.Given.SeizeWorld.{World, Cutting, LeftTo, times, MayClear, MayCut}
use Rattle.many_calls.specs.Given.TablesNodes.{deferred_word}
use Rattle.many_calls.specs.Given.TablesDeclared.node.Node.{Node}
use Rattle.many_calls.specs.Given.TablesDeclared.node.Node.TheVariants as node
use Rattle.many_calls.specs.Given.TablesDeclared.setting.Setting.{Setting}
use Rattle.many_calls.specs.Given.TablesDeclared.table_words.TheConstants.{NEXT}
use Rattle.many_calls.specs.Given.RawDeclared.machines.end_map.EndMap.{EndMap}
use Rattle.many_calls.specs.Given.RuleChart.{Chart}
use Rattle.many_calls.specs.Given.RuleWords.{Blocks, RepresentsTable, next_word}
use Rattle.many_calls.specs.Given.RuleMaps.{IsTable}
use Rattle.many_calls.specs.Given.PointsSteps.{AreLawful}
use Rattle.many_maps.specs.FactsEnds.{IsFresh, Looks, TakesPair, TakesLeft, IsOverStill, IsUsedYet, Since, BeganIn, IsAt, EndOutcome, EndStepSpec, back_of}
use Rattle.many_maps.proofs.Ends.CountedBlocks.{some_here}
use Rattle.many_maps.proofs.Ends.Worlds.{cut, over, away, over_left}
use Rattle.many_maps.proofs.Ends.Frames.{looks_spare, pair_spares, left_spare}
use Rattle.many_maps.proofs.Ends.OrdersOn.{back_same}
use Rattle.many_maps.proofs.Ends.OrdersOnce.{HasOrder, plain_order, are_with, all_once}
use Rattle.many_calls.proofs.Given.General.{some_is as is_some_of}
use Rattle.many_calls.proofs.Given.SeizeRuleRows.Others.{with_here as hand_here}

module _ {K V : Type 0} (same : K → K → Bool) (hash : K → ℕ) (are : AreLawful same hash) (setting : Setting) (c : Chart K) (blocks : Blocks) (lists : ℕ → List ℕ) (owns : Bool) (caller : ℕ)
    (w0 : World (Node K V)) (may : BeganIn setting c blocks lists owns same hash w0) where
  -- nothing is reclaimed twice
  pub back_once : (x : ℕ) → times x (back_of setting c blocks lists owns) ≤ 1
  back_once x = by owns refl
    where
      by : (o : Bool) → owns ≡ o → times x (back_of setting c blocks lists owns) ≤ 1
      by true e =
          let order : HasOrder setting c blocks lists same hash w0 =
          record { map = may.map; counter = may.counter; behind = λ t from made. are_with w0 (blocks.table t) (lists t) (may.owned e t from made) } in
          let a = all_once same hash are setting c blocks lists owns w0 order x in omega (arith, a)
      by false e =
          let a = all_once same hash are setting c blocks (λ t. []) owns w0 (plain_order setting c blocks same hash w0 may.map may.counter) x in
          let b = ap (times x) (back_same setting c blocks lists (λ t. []) owns e) in omega (arith, a, b)

  module _ (w : World (Node K V)) (past : ℕ) (back : List ℕ) (since : Since setting c blocks lists owns caller w0 w past back) where
    -- a table that is linked, and still there
    module _ (t : ℕ) (from : c.first ≤ t) (made : t < c.past) (fresh : times (blocks.table t) back ≡ 0) where
      shown : RepresentsTable hash w0.memory c blocks t
      shown = may.map.map.shows.tables t made (may.map.map.shows.linked t from made)

      pub table_value : value_at w.memory (blocks.table t) ≡ Some (node.Table (c.len t) (c.limit t) t)
      table_value = (since.tables t from made fresh).still.value ∙ shown.value

      pub table_next : word_at w.memory (Word (blocks.table t) NEXT) ≡ Some (next_word hash c blocks t)
      table_next = (since.tables t from made fresh).words NEXT _ (λ e. cc e) shown.next

    -- it is the one that the machine has come to
    pub table_entered : (e : EndMap) (t : ℕ) → IsAt setting c blocks lists owns e t → IsTable c blocks e.table t
    table_entered e t at = record { made = at.made; known = may.map.map.shows.linked t at.from at.made; is = at.table }

  -- what was made of it
  module _ (w : World (Node K V)) (past : ℕ) (back : List ℕ) (m2 : Mem (Node K V)) (end : EndMap × Settled (Node K V)) where
    -- a step that changed nothing at all
    pub went_still : m2 ≡ w.memory → EndOutcome setting c blocks lists owns caller hash w0 w w Looks past back end → EndStepSpec setting c blocks lists owns caller hash w0 w past back m2 end
    went_still is told =
        record { w2 = w; deed = Looks; past2 = past; runs = refl; memory = sym is; fresh = tt; spares = looks_spare setting caller w; its = refl; told = told }

    -- a block in use is reclaimed, behind which nothing can wait
    pub went_given : (b n : ℕ) (value : Node K V) → c.current n ≡ true → b ≡ blocks.pair n → IsFresh setting c blocks lists owns back (TakesPair b)
        → IsUsedYet setting.counter w b → value_at w.memory b ≡ Some value → deferred_word value ≡ None → IsOverStill setting.counter w0 w b → m2 ≡ with_block w.memory b None
        → EndOutcome setting c blocks lists owns caller hash w0 w (away (over w caller b []) caller b) (TakesPair b) past back end → EndStepSpec setting c blocks lists owns caller hash w0 w past back m2 end
    went_given b n value current named fresh used is none ends memory told = record {
      w2 = away (over w caller b []) caller b;
      deed = TakesPair b;
      past2 = past;
      runs = (
        cut w caller b,
        (subst (MayCut caller) (sym used.0) tt, refl),
        (
          over w caller b [],
          ((caller, hand_here w.hand b (Cutting caller)), ends.orphan, used.1, (value, is, subst (λ (o : Option ℕ). FurtherFrom w.memory b o []) (sym none) refl), refl),
          (away (over w caller b []) caller b, (Taken value, with_block w.memory b None, (caller, left_hand), inl ends.over, (is, refl), refl), refl),
        ),
      );
      memory = sym memory;
      fresh = fresh;
      spares = pair_spares setting caller w b (is_some_of (value_at w.memory b) value is);
      its = (refl, used.0, n, current, named);
      told = told;
    }
      where
        left_hand : (over w caller b []).hand b ≡ LeftTo caller
        left_hand = over_left w caller b [] b (some_here b [])

    -- one that was left over is taken away
    pub went_away : (b : ℕ) (value : Node K V) → times b back ≡ 0 → (owns ≡ true) ⊎ ((t : ℕ) × (c.first ≤ t) × (t < c.past) × (b ≡ blocks.table t)) → w.hand b ≡ LeftTo caller → MayClear b w.log → value_at w.memory b ≡ Some value → m2 ≡ with_block w.memory b None
        → EndOutcome setting c blocks lists owns caller hash w0 w (away w caller b) (TakesLeft b) past back end → EndStepSpec setting c blocks lists owns caller hash w0 w past back m2 end
    went_away b value new which left clear is memory told = record {
      w2 = away w caller b;
      deed = TakesLeft b;
      past2 = past;
      runs = (away w caller b, (Taken value, with_block w.memory b None, (caller, left), clear, (is, refl), refl), refl);
      memory = sym memory;
      fresh = new;
      spares = left_spare setting caller w b (is_some_of (value_at w.memory b) value is);
      its = (refl, left, which);
      told = told;
    }
