-- What a sweep for one owner leaves of the list of the pairs, while it goes on and at its end.
use Rattle.std.specs.Prelude.{◌≡◌, ℕ, ◌+◌, ◌<◌, ◌≤◌, Bool, true, false, cond, nat_lt, List, Contains, Some}
use Rattle.std.proofs.Common.{refl, ap, sym, subst, ◌∙◌, inl, inr, arith}
use Rattle.std.proofs.lemmas.Bool.{cases_lt}
use Rattle.seize_words.specs.OneMemory.Mem.{Mem, value_at}
use Rattle.map_tables.specs.declared.node.Node.{Node}
use Rattle.map_tables.specs.declared.node.Node.TheVariants as node
use Rattle.papaya_raw.specs.Given.ReservesDeclared.sweep.Purpose.{Purpose}
use Rattle.papaya_raw.specs.Given.ReservesDeclared.sweep.Purpose.TheVariants.{Walks, Clears, Retains}
use Rattle.papaya_raw.specs.Given.ReservesDeclared.sweep.Sweeping.{Sweeping}
use Rattle.papaya_raw.specs.Given.ReservesDeclared.sweep.Sweeping.TheVariants as at
use Rattle.map_measures.specs.Given.RuleChart.{Chart}
use Rattle.map_measures.specs.Given.RuleWords.{Blocks}
use Rattle.map_measures.specs.Given.LateCovers.{times, IsKept, Came}
use Rattle.owner_facts.specs.Given.CallersOverAll.{CallOverAll}
use Rattle.owner_whole.specs.Whole.LoneSweeps.{IsBefore, goes_once}
use Rattle.owner_whole.specs.Whole.SweptPairs.{about_to_go, gone_since, HasSwept, NumberedBelow, AreNumbered, those, is_done, left_by, SweptBegins, ContentsBetween, ShownIsInIt, AsksOnce, RefusedPreservesAll, SweepsLeave}
use Rattle.owner_whole.proofs.Whole.Contents.Numbered.{pairs_are_in_it, all_those, none_those, numbered_those}
use Rattle.seize_words.proofs.General.{true_or_false as decided}

pub swept_begins : {K V : Type 0} → SweptBegins K V
swept_begins incremental m c blocks moments its purpose = record {
  keeps = record { stored = omega arith; were = λ n l e. e; values = λ n l e. refl };
  stored = refl;
  still = λ i n l h is. (let e : i ≡ c.now = omega (arith, l, h) in ap (λ (x : ℕ). c.was x n) e ∙ moments.now_is n ∙ is);
  from = omega arith;
  walks = λ walks. refl;
  before = λ once early. refl;
  done = λ n l. absurd (omega (arith, l));
  asks = λ once retains n. sym (none_gone (c.current n));
}
  where
    none_gone : (x : Bool) → 0 + cond x (cond x 0 1) 0 + 0 ≡ 0
    none_gone true = refl
    none_gone false = refl

module _ {K V : Type 0} (incremental : Bool) (m0 m : Mem (Node K V)) (c0 c : Chart K) (blocks0 blocks : Blocks) (asked : List ℕ) (o : CallOverAll)
    (swept : HasSwept incremental m0 c0 blocks0 asked o m c blocks) (ns : List (ℕ × (K × V))) (are : AreNumbered m0 c0 blocks0 ns) where
  -- by a test that says which pairs the map has still
  by_test : (test : ℕ → Bool) → ((n : ℕ) → n < c0.stored → c0.current n ≡ true → c.current n ≡ test n) → AreNumbered m c blocks (those test ns)
  by_test test agrees =
      subst (λ (n : ℕ). NumberedBelow m c blocks n (those test ns)) (sym swept.stored)
      (numbered_those m0 m c0 c blocks0 blocks test c0.stored swept.keeps.were agrees swept.keeps.values ns are)

  pub contents_between : AreNumbered m c blocks (those c.current ns)
  contents_between = by_test c.current (λ n l e. refl)

  pub shown_is_in_it : (n : ℕ) (k : K) (v : V) → n < c.stored → c.current n ≡ true → value_at m (blocks.pair n) ≡ Some (node.Pair k v)
      → Contains {X = ℕ × (K × V)} ns (n, (k, v)) × (value_at m0 (blocks0.pair n) ≡ Some (node.Pair k v))
  shown_is_in_it n k v low here block =
      let first : n < c0.stored = (let s = swept.stored in omega (arith, low, s)) in
      let had = sym (swept.keeps.values n first here) ∙ block in (pairs_are_in_it m0 c0 blocks0 ns are n k v first (swept.keeps.were n first here) had, had)

  -- where the pairs are the same
  all_left : c.current ≡ c0.current → AreNumbered m c blocks ns
  all_left e = subst (AreNumbered m c blocks) (all_those ns) (by_test (λ n. true) (λ n l is. ap (λ (f : ℕ → Bool). f n) e ∙ is))

  pub refused_keeps_all : goes_once incremental o.sweep.purpose ≡ true → IsBefore o.sweep.stands → AreNumbered m c blocks ns
  refused_keeps_all once early = all_left (swept.before once early)

  -- at its end
  module _ (came : Came c o.entered o.sweep.purpose o.done) where
    -- what the map has still was there always
    always : (n : ℕ) → c.current n ≡ true → (i : ℕ) → o.entered ≤ i → i ≤ c.now → c.was i n ≡ true
    always n is i l h = swept.still i n (let from = swept.from in omega (arith, from, l)) h is

    kept : (n : ℕ) → c.current n ≡ true → IsKept o.sweep.purpose n o.done
    kept n is = came.all n (always n is)

    -- what is done is what the map has
    gone_none : (n : ℕ) → c.current n ≡ false → times n o.done ≡ 0
    gone_none n gone = elim (cases_lt 0 (times n o.done)) as (λ _. times n o.done ≡ 0) [
      | inl l ↦ absurd (let is = swept.done n l in cc (is, gone))
      | inr zero ↦ omega (arith, zero)
    ]

    some_kept : (purpose : Purpose) → (purpose ≡ Clears → ⊥) → (n : ℕ) → IsKept purpose n o.done → 0 < times n o.done
    some_kept Clears other n h = absurd (other refl)
    some_kept Walks other n h = h
    some_kept Retains other n h = h

    one_each : (o.sweep.purpose ≡ Clears → ⊥) → (n : ℕ) → times n o.done ≡ cond (c.current n) 1 0
    one_each other n = elim (decided (c.current n)) as (λ _. times n o.done ≡ cond (c.current n) 1 0) [
      | inl is ↦
          (let some = some_kept o.sweep.purpose other n (kept n is) in let few = came.shown.1 n in let one : times n o.done ≡ 1 = omega (arith, some, few) in
          one ∙ sym (ap {B = ℕ} (λ (x : Bool). cond x 1 0) is))
      | inr gone ↦ gone_none n gone ∙ sym (ap {B = ℕ} (λ (x : Bool). cond x 1 0) gone)
    ]

    done_is : (o.sweep.purpose ≡ Clears → ⊥) → (n : ℕ) → c.current n ≡ is_done o.done n
    done_is other n = elim (decided (c.current n)) as (λ _. c.current n ≡ is_done o.done n) [
      | inl is ↦ (let e = one_each other n ∙ ap {B = ℕ} (λ (x : Bool). cond x 1 0) is in is ∙ sym (ap (nat_lt 0) e))
      | inr gone ↦ gone ∙ sym (ap (nat_lt 0) (gone_none n gone))
    ]

    left : (purpose : Purpose) → o.sweep.purpose ≡ purpose → AreNumbered m c blocks (left_by purpose o.done ns)
    left Walks is = all_left (swept.walks is)
    left Clears is = subst (AreNumbered m c blocks) (none_those ns) (by_test (λ n. false) (λ n l e. none (c.current n) refl))
      where
        none : {n : ℕ} → (b : Bool) → c.current n ≡ b → c.current n ≡ false
        none false e = e
        none {n} true e = absurd (subst (λ (x : Purpose). IsKept x n o.done) is (kept n e))
    left Retains is = by_test (is_done o.done) (λ n l e. done_is (λ clears. cc (is, clears)) n)

    -- it was told about each pair once
    each_asked : goes_once incremental o.sweep.purpose ≡ true → o.sweep.purpose ≡ Retains → o.sweep.stands ≡ at.Over → (n : ℕ) → n < c.stored → times n asked ≡ cond (c0.current n) 1 0
    each_asked once retains over n l =
        let e = swept.asks once retains n in
        let one = one_each (λ clears. cc (retains, clears)) n in
        let none : about_to_go o.sweep.stands o.told n ≡ 0 = ap (λ (x : Sweeping). about_to_go x o.told n) over in
        e ∙ ap (λ (x : ℕ). times n o.done + gone_since c0 c n + x) none ∙ ap (λ (x : ℕ). x + gone_since c0 c n + 0) one
        ∙ by (c0.current n) (c.current n) refl (λ is. swept.keeps.were n (let s = swept.stored in omega (arith, l, s)) is)
      where
        by : (x y : Bool) → c0.current n ≡ x → (y ≡ true → c0.current n ≡ true) → cond y 1 0 + cond x (cond y 0 1) 0 + 0 ≡ cond x 1 0
        by true true e had = refl
        by true false e had = refl
        by false true e had = absurd (let is = had refl in cc (is, e))
        by false false e had = refl

    pub leaves : o.sweep.stands ≡ at.Over
        → AreNumbered m c blocks (left_by o.sweep.purpose o.done ns) × ((o.sweep.purpose ≡ Clears → ⊥) → (n : ℕ) → times n o.done ≡ cond (c.current n) 1 0)
        × (goes_once incremental o.sweep.purpose ≡ true → o.sweep.purpose ≡ Retains → (n : ℕ) → n < c.stored → times n asked ≡ cond (c0.current n) 1 0)
    leaves over = (left o.sweep.purpose refl, one_each, λ once retains. each_asked once retains over)

module _ {K V : Type 0} (incremental : Bool) (m0 m : Mem (Node K V)) (c0 c : Chart K) (blocks0 blocks : Blocks) (asked : List ℕ) (o : CallOverAll) where
  pub between : ContentsBetween K V incremental m0 m c0 c blocks0 blocks asked o
  between swept ns are = contents_between incremental m0 m c0 c blocks0 blocks asked o swept ns are

  pub shown : ShownIsInIt K V incremental m0 m c0 c blocks0 blocks asked o
  shown swept ns are = shown_is_in_it incremental m0 m c0 c blocks0 blocks asked o swept ns are

  pub asks_once : AsksOnce K V incremental m0 m c0 c blocks0 blocks asked o
  asks_once swept once retains word is n here fresh =
      swept.asks once retains n ∙ ap (λ (x : ℕ). x + gone_since c0 c n + about_to_go o.sweep.stands o.told n) fresh ∙ ap (λ (x : Sweeping). 0 + gone_since c0 c n + about_to_go x o.told n) is
      ∙ ap (λ (x : Bool). 0 + cond (c0.current n) (cond x 0 1) 0 + 0) here ∙ by (c0.current n)
    where
      by : (x : Bool) → 0 + cond x 0 0 + 0 ≡ 0
      by true = refl
      by false = refl

  pub refused : RefusedPreservesAll K V incremental m0 m c0 c blocks0 blocks asked o
  refused swept once fault is ns are = refused_keeps_all incremental m0 m c0 c blocks0 blocks asked o swept ns are once (subst IsBefore (sym is) tt)

  pub sweeps_leave : SweepsLeave K V incremental m0 m c0 c blocks0 blocks asked o
  sweeps_leave swept came over ns are = leaves incremental m0 m c0 c blocks0 blocks asked o swept ns are came over
