-- What was so since a map began to end stays so as it reclaims a block, writes a link, or writes its root, and as it leaves a table over.
use Rattle.std.specs.Prelude.{◌≢◌, Some}
use Rattle.std.proofs.Common.{◌≡◌, ℕ, zero, suc, ◌+◌, ◌<◌, ◌≤◌, Bool, true, false, List, [], ◌∷◌, ◌++◌, inl, inr, refl, arith, ap, sym, subst, ◌∙◌}
use Rattle.std.proofs.lemmas.Bool.{cases_eq}
use Rattle.many_calls.specs.Given.SeizeWordsMem.{value_at}
use Rattle.many_calls.specs.Given.SeizeLaw.{With, holds}
use Rattle.many_calls.specs.Given.SeizeWorld.{World, Row, Hand, InUse, Handed, LeftTo, IsOnto, times}
use Rattle.many_calls.specs.Given.TablesDeclared.node.Node.{Node}
use Rattle.many_calls.specs.Given.TablesDeclared.node.Node.TheVariants as node
use Rattle.many_calls.specs.Given.TablesDeclared.setting.Setting.{Setting}
use Rattle.many_calls.specs.Given.RuleChart.{Chart}
use Rattle.many_calls.specs.Given.RuleWords.{Blocks}
use Rattle.many_calls.specs.Given.PointsSteps.{AreLawful}
use Rattle.many_calls.specs.Kept.{IsMaking}
use Rattle.many_maps.specs.Orders.{waits_of}
use Rattle.many_maps.specs.FactsEnds.{Deed, LeavesTable, taken_by, left_by, cut_by, joined_by, Spares, HasDeferred, IsTableYet, Since, BeganIn, wait_before}
use Rattle.many_maps.proofs.Ends.CountedBlocks.{times-append, some_here}
use Rattle.many_maps.proofs.Ends.OrdersOn.{wait_more}
use Rattle.many_maps.proofs.Ends.OrdersOnce.{plain_order, pair_there, table_there}
use Rattle.many_maps.proofs.Ends.SinceOn.{IsSame, Lasts, behind_kept, since_on}
use Rattle.many_maps.proofs.Ends.Worlds.{over}
use Rattle.many_maps.proofs.Ends.Frames.{leaves_spare, that_one}
use Rattle.many_maps.proofs.Among.Own.Apart.{none_in_both as none_of_first}

-- how a block is had tells blocks apart
pub used_handed : {o : ℕ} (h : Hand) → h ≡ InUse o → h ≡ Handed → ⊥
used_handed h e f = cc (e, f)

pub left_handed : {o : ℕ} (h : Hand) → h ≡ LeftTo o → h ≡ Handed → ⊥
left_handed h e f = cc (e, f)

pub used_left : {o p : ℕ} (h : Hand) → h ≡ InUse o → h ≡ LeftTo p → ⊥
used_left h e f = cc (e, f)

pub making_handed : (h : Hand) → IsMaking h → h ≡ Handed → ⊥
making_handed h own e = subst IsMaking e own

pub making_left : {o : ℕ} (h : Hand) → IsMaking h → h ≡ LeftTo o → ⊥
making_left h own e = subst IsMaking e own

making_used : {o : ℕ} (h : Hand) → IsMaking h → h ≡ InUse o → ⊥
making_used h own e = subst IsMaking e own

-- none of a list
pub none_there : (x : ℕ) (l : List ℕ) → (0 < times x l → ⊥) → times x l ≡ 0
none_there x l none = by (times x l) refl
  where
    by : (k : ℕ) → times x l ≡ k → times x l ≡ 0
    by zero e = e
    by (suc k) e = absurd (none (omega (arith, e)))

-- what is none of a list and one more
pub back_and_one : (x b : ℕ) (back : List ℕ) → times x (back ++ b ∷ []) ≡ 0 → (times x back ≡ 0) × (times x (b ∷ []) ≡ 0)
back_and_one x b back none = let a = times-append x back (b ∷ []) in (omega (arith, a, none), omega (arith, a, none))

-- a block that is had otherwise is another one
pub apart_by_hand : (hand : ℕ → Hand) (x b : ℕ) → (hand b ≡ hand x → ⊥) → times x (b ∷ []) ≡ 0
apart_by_hand hand x b other = none_there x (b ∷ []) (λ some. other (ap hand (sym (that_one x b some))))

module _ {K V : Type 0} (setting : Setting) (c : Chart K) (blocks : Blocks) (lists : ℕ → List ℕ) (owns : Bool) (caller : ℕ) (w0 w : World (Node K V)) (past : ℕ) (back : List ℕ)
    (since : Since setting c blocks lists owns caller w0 w past back) where
  -- A deed that leaves nothing over, and takes only what is in the longer list.
  module _ (w2 : World (Node K V)) (deed : Deed) (s : Spares setting caller w w2 deed) (back2 : List ℕ) (none_left : left_by deed ≡ [])
      (all : (x : ℕ) → times x back2 ≡ 0 → (times x back ≡ 0) × (times x (taken_by deed) ≡ 0))
      (uncut : (x : ℕ) → times x (taken_by deed) ≡ 0 → times x (cut_by deed) ≡ 0)
      (unhanded : (x : ℕ) → w.hand x ≡ Handed → (times x (taken_by deed) ≡ 0) × (times x (joined_by deed) ≡ 0))
      (unwaiting : (x : ℕ) → 0 < times x (wait_before setting c blocks lists owns past) → times x (taken_by deed) ≡ 0) where
    not_left : (x : ℕ) → times x (left_by deed) ≡ 0
    not_left x = ap (times x) none_left

    same_on : (x : ℕ) → times x back2 ≡ 0 → IsSame w w2 x
    same_on x fresh =
        let a = all x fresh in record { value = s.values x a.1; hand = s.hands x a.1 (not_left x); owner_is = s.owners x; orphan = s.orphans x; over = s.overs x }

    lasts : Lasts setting c blocks owns caller w0 w w2 past lists lists back2
    lasts = record {
      tables = λ t from made fresh. (same_on (blocks.table t) fresh, λ i word other is. s.words (blocks.table t) i (all (blocks.table t) fresh).1 ∙ is);
      pairs = λ n current fresh. same_on (blocks.pair n) fresh;
      counter = λ fresh. let k = same_on setting.counter fresh in (k.value, k.hand);
      tables_onto = λ t j from later made fresh onto.
          ((since.tables t from made (all (blocks.table t) fresh).0).used later).1 j (subst (λ (f : ℕ → Row). IsOnto (blocks.table t) (f j)) s.rows onto);
      pairs_onto = λ n j current fresh onto.
          (since.pairs n current (all (blocks.pair n) fresh).0).1.1 j (subst (λ (f : ℕ → Row). IsOnto (blocks.pair n) (f j)) s.rows onto);
      carries = λ t from later made fresh.
          let a = all (blocks.table t) fresh in
          let h = (since.tables t from made a.0).carries later in
          behind_kept setting caller w w2 deed s (blocks.table t) (lists t) h a.1 (uncut (blocks.table t) a.1)
          (λ x on. let k = unhanded x (h.theirs x on).0 in (k.0, not_left x, k.1, uncut x k.0));
      waits = λ x on. s.hands x (unwaiting x on) (not_left x);
      free = λ owned t x. free_now owned t x (times x (taken_by deed)) refl;
    }
      where
        free_now : owns ≡ true → (t x k : ℕ) → times x (taken_by deed) ≡ k → holds t x w2.log ≡ false
        free_now owned t x zero e = s.held t x e ∙ since.free owned t x
        free_now owned t x (suc k) e = s.freed t x (omega (arith, e))

    pub since_by : Since setting c blocks lists owns caller w0 w2 past back2
    since_by = since_on setting c blocks owns caller w0 w w2 past lists lists back back2 lasts refl (λ x fresh. (all x fresh).0) since

-- A table is left over, with what it carries.
module _ {K V : Type 0} (same : K → K → Bool) (hash : K → ℕ) (are : AreLawful same hash) (setting : Setting) (c : Chart K) (blocks : Blocks) (lists : ℕ → List ℕ) (owns : Bool) (caller : ℕ)
    (w0 : World (Node K V)) (may : BeganIn setting c blocks lists owns same hash w0) (w : World (Node K V)) (t : ℕ) (back : List ℕ)
    (since : Since setting c blocks lists owns caller w0 w t back) (from : c.first ≤ t) (made : t < c.past) (fresh : times (blocks.table t) back ≡ 0) where
  abbrev w2 : World (Node K V)
  w2 = over w caller (blocks.table t) (lists t)

  s : Spares setting caller w w2 (LeavesTable (blocks.table t) (lists t))
  s = leaves_spare setting caller w (blocks.table t) (lists t)

  it : IsTableYet setting c blocks lists owns caller w0 w t t
  it = since.tables t from made fresh

  used : w.hand (blocks.table t) ≡ InUse setting.counter
  used = (it.used (omega arith)).0

  carried : HasDeferred w (blocks.table t) (lists t)
  carried = it.carries (omega arith)

  not_on : (x : ℕ) → (w.hand x ≡ Handed → ⊥) → 0 < times x (lists t) → ⊥
  not_on x other on = other (carried.theirs x on).0

  abbrev W : List ℕ
  W = wait_before setting c blocks lists owns t

  of_waits : (o : Bool) (x : ℕ) (m : List ℕ) → times x (waits_of o m) ≤ times x m
  of_waits true x m = omega arith
  of_waits false x m = omega arith

  more : (x : ℕ) → times x (wait_before setting c blocks lists owns (suc t)) ≤ times x W + times x (lists t)
  more x =
      let a = ap (times x) (wait_more setting c blocks lists owns t from) in
      let d = times-append x W (waits_of owns (lists t)) in
      let e = of_waits owns x (lists t) in omega (arith, a, d, e)

  -- what is none of those before, nor on the list, doesn't wait
  no_wait : (x : ℕ) → times x W ≡ 0 → (w.hand x ≡ Handed → ⊥) → times x (wait_before setting c blocks lists owns (suc t)) ≡ 0
  no_wait x none other = let a = more x in let d = none_there x (lists t) (not_on x other) in omega (arith, a, d, none)

  not_before : (x : ℕ) → (w.hand x ≡ LeftTo caller → ⊥) → times x W ≡ 0
  not_before x other = none_there x W (λ on. other (since.waits x on))

  waits_now : (x : ℕ) → 0 < times x (wait_before setting c blocks lists owns (suc t)) → w2.hand x ≡ LeftTo caller
  waits_now x on = by (times x (blocks.table t ∷ lists t)) refl
    where
      by : (k : ℕ) → times x (blocks.table t ∷ lists t) ≡ k → w2.hand x ≡ LeftTo caller
      by (suc k) e = s.left x (omega (arith, e))
      by zero e = s.hands x refl e ∙ since.waits x (let a = more x in omega (arith, a, e, on))

  once_now : (x : ℕ) → times x (wait_before setting c blocks lists owns (suc t)) ≤ 1
  once_now x = by (times x W) refl
    where
      by : (k : ℕ) → times x W ≡ k → times x (wait_before setting c blocks lists owns (suc t)) ≤ 1
      by zero e = let a = more x in let d = carried.once x in omega (arith, a, d, e)
      by (suc k) e =
          let a = more x in
          let d = since.once x in
          let none = none_there x (lists t) (not_on x (left_handed (w.hand x) (since.waits x (omega (arith, e))))) in omega (arith, a, d, none)

  table_now : (u : ℕ) → c.first ≤ u → u < c.past → IsTableYet setting c blocks lists owns caller w0 w t u → IsTableYet setting c blocks lists owns caller w0 w2 (suc t) u
  table_now u first below y = record {
    still = record { value = y.still.value; owner_is = y.still.owner_is; orphan = y.still.orphan; over = y.still.over };
    words = y.words;
    used = λ later. let k = y.used (omega (arith, later)) in (hand_later later ∙ k.0, k.1);
    carries = λ later.
        let h = y.carries (omega (arith, later)) in
        behind_kept setting caller w w2 (LeavesTable (blocks.table t) (lists t)) s (blocks.table u) (lists u) h refl (none_of_first (blocks.table u) (blocks.table t) [] (other later) (λ some. omega (arith, some)))
        (λ x on. (
          refl,
          none_of_first x (blocks.table t) (lists t) (not_table x (h.theirs x on).0)
              (λ there. other later (same_behind (blocks.table u) (blocks.table t) (sym (h.theirs x on).1 ∙ (carried.theirs x there).1))),
          refl,
          none_of_first x (blocks.table t) [] (not_table x (h.theirs x on).0) (λ some. omega (arith, some)),
        ));
    left = λ before. elim (cases_eq u t) as (λ _. (w2.hand (blocks.table u) ≡ LeftTo caller) × (times (blocks.table u) (wait_before setting c blocks lists owns (suc t)) ≡ 0)) [
      | inl here ↦ subst (λ (v : ℕ). (w2.hand (blocks.table v) ≡ LeftTo caller) × (times (blocks.table v) (wait_before setting c blocks lists owns (suc t)) ≡ 0)) (sym here)
          (s.left (blocks.table t) (some_here (blocks.table t) (lists t)), no_wait (blocks.table t) (not_before (blocks.table t) (used_left (w.hand (blocks.table t)) used)) (used_handed (w.hand (blocks.table t)) used))
      | inr ne ↦ (let k = y.left (omega (arith, before, ne)) in (
        s.hands (blocks.table u) refl (none_of_first (blocks.table u) (blocks.table t) (lists t) (λ e. used_left (w.hand (blocks.table t)) used (ap w.hand (sym e) ∙ k.0))
            (not_on (blocks.table u) (left_handed (w.hand (blocks.table u)) k.0))) ∙ k.0,
        no_wait (blocks.table u) k.1 (left_handed (w.hand (blocks.table u)) k.0),
      ))
    ];
  }
    where
      same_behind : (a d : ℕ) → With a ≡ With d → a ≡ d
      same_behind a d e = cc e

      not_table : (x : ℕ) → w.hand x ≡ Handed → x ≢ blocks.table t
      not_table x handed e = used_handed (w.hand (blocks.table t)) used (ap w.hand (sym e) ∙ handed)

      other : suc t ≤ u → blocks.table u ≢ blocks.table t
      other later e =
          let is = may.map.map.shows.tables_apart u t below made (may.map.map.shows.linked u first below) (may.map.map.shows.linked t from made) e in omega (arith, is, later)

      hand_later : suc t ≤ u → w2.hand (blocks.table u) ≡ w.hand (blocks.table u)
      hand_later later =
          s.hands (blocks.table u) refl (none_of_first (blocks.table u) (blocks.table t) (lists t) (other later)
          (not_on (blocks.table u) (used_handed (w.hand (blocks.table u)) (y.used (omega (arith, later))).0)))

  pub since_left : Since setting c blocks lists owns caller w0 w2 (suc t) back
  since_left = record {
    tables = λ u first below there. table_now u first below (since.tables u first below there);
    pairs = λ n current there.
        let p = since.pairs n current there in (
          record { value = p.0.value; owner_is = p.0.owner_is; orphan = p.0.orphan; over = p.0.over },
          (s.hands (blocks.pair n) refl (none_of_first (blocks.pair n) (blocks.table t) (lists t) (pair_other n current p.0.value) (not_on (blocks.pair n) (used_handed (w.hand (blocks.pair n)) p.1.0))) ∙ p.1.0, p.1.1),
        );
    counter = λ there.
        let k = since.counter there in (
          k.0,
          subst IsMaking (sym (s.hands setting.counter refl (none_of_first setting.counter (blocks.table t) (lists t)
              (λ e. making_used (w.hand (blocks.table t)) (subst (λ (x : ℕ). IsMaking (w.hand x)) e k.1) used)
              (not_on setting.counter (making_handed (w.hand setting.counter) k.1))))) k.1,
        );
    once = once_now;
    waits = waits_now;
    free = since.free;
  }
    where
      pair_other : (n : ℕ) → c.current n ≡ true → value_at w.memory (blocks.pair n) ≡ value_at w0.memory (blocks.pair n) → blocks.pair n ≢ blocks.table t
      pair_other n current same_value e =
          let order = plain_order setting c blocks same hash w0 may.map may.counter in
          let p = (pair_there same hash are setting c blocks (λ u. []) owns w0 order n current).3 in
          let table = (table_there same hash are setting c blocks (λ u. []) owns w0 order t from made).2 in
          let q : Some (node.Pair p.0 p.1) ≡ Some (node.Table (c.len t) (c.limit t) t) = sym p.2 ∙ sym same_value ∙ ap (value_at w.memory) e ∙ it.still.value ∙ table in
          cc q
