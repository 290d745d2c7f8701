-- Where a memory shows one map by two ways of looking, the pairs of the map stand in the same blocks.
use Rattle.std.specs.Prelude.{◌≡◌, ℕ, zero, suc, ◌+◌, ◌-◌, ◌*◌, ◌<◌, ◌≤◌, ◌^◌, Bool, true, false, cond, [], None}
use Rattle.std.proofs.Common.{sym, ◌∙◌, ap, subst, arith, ⊎_elim, eqb, ltb}
use Rattle.std.proofs.lemmas.Bool.Decides.{nat_tests}
use Rattle.std.proofs.lemmas.Bool.{cases_lt, eqb-true, false_from_ne_true}
use Rattle.seize_words.specs.OneMemory.Mem.{Mem, word_at}
use Rattle.seize_words.specs.declared.at.At.TheVariants.{Word}
use Rattle.map_tables.specs.declared.table_words.TheConstants.{NEXT, PLACES}
use Rattle.map_tables.specs.declared.node.Node.{Node}
use Rattle.map_straight.specs.Given.RuleChart.{Chart, Phase, Place, Empty, Holds}
use Rattle.map_straight.specs.Given.RuleMaps.{spot_of}
use Rattle.map_straight.specs.Given.RuleRule.{Rule}
use Rattle.map_straight.specs.Given.RuleWords.{Blocks, Represents, place_word}
use Rattle.owner_whole.proofs.Given.CallersAsked.By.{block_of_word}
use Rattle.seize_words.proofs.General.{same_some as same_word}

same_times : (x y : ℕ) → x * 2048 ≡ y * 2048 → x ≡ y
same_times x y e = omega (arith, e)

holds_some : (p : Place) (n : ℕ) (phase : Phase) (borrowed : Bool) → p ≡ Holds n phase borrowed → p ≡ Empty false → ⊥
holds_some p n phase borrowed e f = let x : ◌≡◌ {A = Place} (Holds n phase borrowed) (Empty false) = sym e ∙ f in absurd (cc x)

home_from : (b : Bool) (first t : ℕ) → cond b (first ≤ t) (t ≡ first) → first ≤ t
home_from true first t h = h
home_from false first t h = omega (arith, h)

module _ {K V : Type 0} (same : K → K → Bool) (hash : K → ℕ) (fits : (k : K) → hash k < 2 ^ 64) (incremental : Bool) (m : Mem (Node K V)) (root : ℕ) (c : Chart K) (blocks blocks2 : Blocks)
    (rule : Rule same (spot_of hash) incremental c) (a : Represents hash m c blocks root) (b : Represents hash m c blocks2 root) where
  cond_so : (x : Bool) (p q r : ℕ) → x ≡ true → cond x p r ≡ cond x q r → p ≡ q
  cond_so true p q r is e = e
  cond_so false p q r is e = absurd (cc is)

  cond_not : (x : Bool) (p q r : ℕ) → x ≡ false → cond x r p ≡ cond x r q → p ≡ q
  cond_not true p q r is e = absurd (cc is)
  cond_not false p q r is e = e

  first_same : 0 < c.past → blocks.table c.first ≡ blocks2.table c.first
  first_same some =
      same_times _ _ (cond_not (eqb c.past 0) (blocks.table c.first * 2048) (blocks2.table c.first * 2048) 0
      (false_from_ne_true (eqb c.past 0) (λ z. let e = eqb-true c.past 0 z in omega (arith, e, some)))
      (same_word _ _ (sym a.root_there ∙ b.root_there)))

  tables_same : (d t : ℕ) → t ≡ c.first + d → t < c.past → blocks.table t ≡ blocks2.table t
  tables_same zero t is made = let e : c.first ≡ t = omega (arith, is) in subst (λ x. blocks.table x ≡ blocks2.table x) e (first_same (omega (arith, made)))
  tables_same (suc d) zero is made = absurd (omega (arith, is))
  tables_same (suc d) (suc t) is made =
      let from : c.first ≤ t = omega (arith, is) in
      let before = tables_same d t (omega (arith, is)) (omega (arith, made)) in
      let p = (a.tables t (omega (arith, made)) (a.linked t from (omega (arith, made)))).next in
      let q = (b.tables t (omega (arith, made)) (b.linked t from (omega (arith, made)))).next in
      same_times _ _ (cond_so (ltb (suc t) c.past) (blocks.table (suc t) * 2048) (blocks2.table (suc t) * 2048) 0 (below_so t c.past made)
      (same_word _ _ (sym p ∙ ap (λ x. word_at m (Word x NEXT)) before ∙ q)))
    where
      below_so : (t past : ℕ) → suc t < past → ltb (suc t) past ≡ true
      below_so t past l = grind (arith, nat_tests, l)

  -- the pairs of the map
  pub pair_same : (o : ℕ) → c.current o ≡ true → blocks2.pair o ≡ blocks.pair o
  pair_same o is =
      let s = rule.common.stands o is in
      let t = s.0 in let i = s.1 in
      let from = home_from incremental c.first t s.6 in
      let made : t < c.past = ⊎_elim (λ l. l) (λ l. absurd (holds_some (c.place t i) o s.2 s.3 s.4 (rule.common.unmade t i l))) (cases_lt t c.past) in
      let there : i < c.len t = ⊎_elim (λ l. l) (λ l. absurd (holds_some (c.place t i) o s.2 s.3 s.4 (rule.common.outside t i made l))) (cases_lt i (c.len t)) in
      let p = (a.tables t made (a.linked t from made)).places i there in
      let q = (b.tables t made (b.linked t from made)).places i there in
      let same_table = tables_same (t - c.first) t (omega (arith, from)) made in
      let words : place_word hash c blocks (c.place t i) ≡ place_word hash c blocks2 (c.place t i) = same_word _ _ (sym p ∙ ap (λ x. word_at m (Word x (i + PLACES))) same_table ∙ q) in
      let here : place_word hash c blocks (c.place t i) ≡ place_word hash c blocks (Holds o s.2 s.3) = ap (place_word hash c blocks) s.4 in
      let here2 : place_word hash c blocks (c.place t i) ≡ place_word hash c blocks2 (Holds o s.2 s.3) = words ∙ ap (place_word hash c blocks2) s.4 in
      sym (block_of_word hash fits m c blocks2 None [] root b (place_word hash c blocks (c.place t i)) o s.2 s.3 here2)
      ∙ block_of_word hash fits m c blocks None [] root a (place_word hash c blocks (c.place t i)) o s.2 s.3 here
