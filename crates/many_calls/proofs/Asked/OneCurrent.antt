-- A class has one pair in a map.
use Rattle.std.specs.Cmp.{IsEquivalence}
use Rattle.std.proofs.Common.{◌≡◌, ◌≢◌, ℕ, ◌<◌, ◌≤◌, Bool, true, false, ◌⊎◌, inl, inr, ap, sym, ◌∙◌}
use Rattle.std.proofs.lemmas.Bool.{cases_order}
use Rattle.map_facts_late.specs.Given.RuleChart.{Phase, Copying, Copied, Holds, Chart}
use Rattle.map_facts_late.specs.Given.RuleRule.{Rule, Shut, IsMoving, is_of}

module _ {K : Type 0} (same : K → K → Bool) (spot : ℕ → K → ℕ → ℕ) (classes : IsEquivalence same) (c : Chart K) where
  -- a place has one pair
  one_pair : (t i j n o : ℕ) (phase phase2 : Phase) (borrowed borrowed2 : Bool) → i ≡ j → c.place t i ≡ Holds n phase borrowed → c.place t j ≡ Holds o phase2 borrowed2 → n ≡ o
  one_pair t i j n o phase phase2 borrowed borrowed2 is e d = let here : c.place t i ≡ c.place t j = ap (c.place t) is in cc

  -- the classes of two pairs that are one class with a third key
  one_class : (a b k : K) → same k a ≡ true → same k b ≡ true → same a b ≡ true
  one_class a b k ea eb = classes.congr a k b (classes.symm a k ∙ ea) ∙ eb

  module _ (k : K) (n o : ℕ) where
    -- in blocking mode they stand in the root
    once_blocking : Rule same spot false c → c.current n ≡ true → c.current o ≡ true → is_of same spot false k (c.key n) ≡ true → is_of same spot false k (c.key o) ≡ true → n ≡ o
    once_blocking rule is_n is_o of_n of_o =
        let s = rule.common.stands n is_n in
        let u = rule.common.stands o is_o in
        let at_n : c.place c.first s.1 ≡ Holds n s.2 s.3 = ap (λ (t : ℕ). c.place t s.1) (sym s.6) ∙ s.4 in
        let at_o : c.place c.first u.1 ≡ Holds o u.2 u.3 = ap (λ (t : ℕ). c.place t u.1) (sym u.6) ∙ u.4 in
        one_pair c.first s.1 u.1 n o s.2 u.2 s.3 u.3 (rule.common.once c.first s.1 u.1 n o s.2 u.2 s.3 u.3 k rule.common.live at_n at_o of_n of_o) at_n at_o

  -- in incremental mode
  module _ (rule : Rule same spot true c) (k : K) where
    -- in one table
    once_here : (t i j n o : ℕ) (phase phase2 : Phase) (borrowed borrowed2 : Bool) → c.place t i ≡ Holds n phase borrowed → c.place t j ≡ Holds o phase2 borrowed2
        → is_of same spot true k (c.key n) ≡ true → is_of same spot true k (c.key o) ≡ true → n ≡ o
    once_here t i j n o phase phase2 borrowed borrowed2 e d of_n of_o =
        one_pair t i j n o phase phase2 borrowed borrowed2 (rule.common.once t i j n o phase phase2 borrowed borrowed2 k (rule.in_mode.never_aborted t) e d of_n of_o) e d

    -- one that is not copied, with one of a later table
    once_later : (t u i j n o : ℕ) (phase phase2 : Phase) (borrowed borrowed2 : Bool) → c.first ≤ t → t < u → c.place t i ≡ Holds n phase borrowed → phase ≢ Copied
        → c.place u j ≡ Holds o phase2 borrowed2 → is_of same spot true k (c.key n) ≡ true → is_of same spot true k (c.key o) ≡ true → n ≡ o
    once_later t u i j n o phase phase2 borrowed borrowed2 linked before e left d of_n of_o =
        let a = rule.common.keyed t i n phase borrowed e in
        let b = rule.common.keyed u j o phase2 borrowed2 d in
        let both : same b.1 a.1 ≡ true = one_class b.1 a.1 k (ap (is_of same spot true k) (sym b.2) ∙ of_o) (ap (is_of same spot true k) (sym a.2) ∙ of_n) in
        by b.1 (ap (is_of same spot true b.1) a.2 ∙ both) (rule.in_mode.chain t u j o phase2 borrowed2 b.1 d b.2 before linked)
      where
        by : (owner : K) → is_of same spot true owner (c.key n) ≡ true → Shut same spot true c t owner ⊎ ((t ≡ c.first) × (borrowed2 ≡ true) × IsMoving same spot true c o) → n ≡ o
        by owner is (inl shut) = absurd (left (shut.0 i n phase borrowed e is))
        by owner is (inr m) = once_here t i m.2.0 n o phase Copying borrowed m.2.1 e (ap (λ (x : ℕ). c.place x m.2.0) m.0 ∙ m.2.2) of_n of_o

    once_incremental : (n o : ℕ) → c.current n ≡ true → c.current o ≡ true → is_of same spot true k (c.key n) ≡ true → is_of same spot true k (c.key o) ≡ true → n ≡ o
    once_incremental n o is_n is_o of_n of_o =
        let s = rule.common.stands n is_n in
        let u = rule.common.stands o is_o in
        by s.0 u.0 s.1 u.1 s.2 u.2 s.3 u.3 s.4 u.4 s.5 u.5 s.6 u.6 (cases_order s.0 u.0)
      where
        by : (t u i j : ℕ) (phase phase2 : Phase) (borrowed borrowed2 : Bool) → c.place t i ≡ Holds n phase borrowed → c.place u j ≡ Holds o phase2 borrowed2
            → phase ≢ Copied → phase2 ≢ Copied → c.first ≤ t → c.first ≤ u → (t ≡ u) ⊎ ((t < u) ⊎ (u < t)) → n ≡ o
        by t u i j phase phase2 borrowed borrowed2 e d left left2 linked linked2 (inl is) =
            once_here t i j n o phase phase2 borrowed borrowed2 e (ap (λ (x : ℕ). c.place x j) is ∙ d) of_n of_o
        by t u i j phase phase2 borrowed borrowed2 e d left left2 linked linked2 (inr (inl l)) =
            once_later t u i j n o phase phase2 borrowed borrowed2 linked l e left d of_n of_o
        by t u i j phase phase2 borrowed borrowed2 e d left left2 linked linked2 (inr (inr l)) =
            sym (once_later u t j i o n phase2 phase borrowed2 borrowed linked2 l d left2 e of_o of_n)

  pub one_current : (incremental : Bool) → Rule same spot incremental c → (k : K) (n o : ℕ) → c.current n ≡ true → c.current o ≡ true
      → is_of same spot incremental k (c.key n) ≡ true → is_of same spot incremental k (c.key o) ≡ true → n ≡ o
  one_current true rule k n o is_n is_o of_n of_o = once_incremental rule k n o is_n is_o of_n of_o
  one_current false rule k n o is_n is_o of_n of_o = once_blocking k n o rule is_n is_o of_n of_o
