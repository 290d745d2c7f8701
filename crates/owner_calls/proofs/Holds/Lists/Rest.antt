-- Of all pairs that stand in a memory some are given: the others stand behind them.
use Rattle.std.specs.Prelude.{◌≡◌, ◌≢◌, ℕ, ◌+◌, ◌<◌, ◌==◌, List, [], ◌∷◌, ◌++◌, Some, IsPermutation, if◌then◌else◌}
use Rattle.std.proofs.Common.{refl, sym, ◌∙◌, ap, subst, arith, inl, inr}
use Rattle.std.proofs.lemmas.Bool.{cases_eq}
use Rattle.std.proofs.lemmas.List.Sorted.{IsPermutation-refl, IsPermutation-trans, IsPermutation-cons, IsPermutation-append_comm, IsPermutation-append_left}
use Rattle.seize_words.specs.OneMemory.Mem.{Mem}
use Rattle.seize.specs.World.{times}
use Rattle.map_tables.specs.declared.node.Node.{Node}
use Rattle.map_tables.specs.declared.node.Node.TheVariants as node
use Rattle.owner_whole.proofs.Given.FinishesEnds.CountedBlocks.{times_other, some_here}
use Rattle.owner_whole.specs.Strides.Standing.{Standing}
use Rattle.owner_calls.specs.Holds.Came.{StandsAt}

-- one value is one pair
pub same_pair : {K V : Type 0} (x y : K × V) → Some (node.Pair x.0 x.1) ≡ Some (node.Pair y.0 y.1) → x ≡ y
same_pair {K} {V} x y e = let k : x.0 ≡ y.0 = cc e in let v : x.1 ≡ y.1 = cc e in ap {B = K × V} (λ (z : K). (z, x.1)) k ∙ ap {B = K × V} (λ (z : V). (y.0, z)) v

turned : {X : Type 0} (x y : X) (xs : List X) → IsPermutation (x ∷ y ∷ xs) (y ∷ x ∷ xs)
turned x y xs = IsPermutation-append_left xs (x ∷ y ∷ []) (y ∷ x ∷ []) (IsPermutation-append_comm (x ∷ []) (y ∷ []))

module _ {K V : Type 0} (m : Mem (Node K V)) where
  -- without the pair of one of the blocks
  pub record Without (b : ℕ) (all : List ℕ) (xs : List (K × V)) : Type 0 where
    pub rest : List ℕ
    pub pair : K × V
    pub others : List (K × V)
    pub stand : Standing m rest others
    pub here : StandsAt m b pair
    pub alone : times b rest ≡ 0
    pub order : IsPermutation xs (pair ∷ others)
    pub counts : (c : ℕ) → times c all ≡ times c (b ∷ rest)

  without_first : (b d : ℕ) (all : List ℕ) (x : K × V) (xs : List (K × V)) → Standing m (d ∷ all) (x ∷ xs) → b ≡ d → Without b (d ∷ all) (x ∷ xs)
  without_first b d all x xs s same = record {
    rest = all;
    pair = x;
    others = xs;
    stand = s.2;
    here = subst (λ (c : ℕ). StandsAt m c x) (sym same) s.0;
    alone = ap (λ (c : ℕ). times c all) same ∙ s.1;
    order = IsPermutation-refl (x ∷ xs);
    counts = λ c. ap (λ (e : ℕ). times c (e ∷ all)) (sym same);
  }

  without_later : (b d : ℕ) (all : List ℕ) (x : K × V) (xs : List (K × V)) → Standing m (d ∷ all) (x ∷ xs) → b ≢ d → Without b all xs → Without b (d ∷ all) (x ∷ xs)
  without_later b d all x xs s ne w = record {
    rest = d ∷ w.rest;
    pair = w.pair;
    others = x ∷ w.others;
    stand = (s.0, sym (times_other d b w.rest (λ e. ne (sym e))) ∙ sym (w.counts d) ∙ s.1, w.stand);
    here = w.here;
    alone = times_other b d w.rest ne ∙ w.alone;
    order = IsPermutation-trans (x ∷ xs) (x ∷ w.pair ∷ w.others) (w.pair ∷ x ∷ w.others) (IsPermutation-cons x xs (w.pair ∷ w.others) w.order) (turned x w.pair w.others);
    counts = λ c. let k = w.counts c in omega (arith, k);
  }

  pub without : (b : ℕ) (all : List ℕ) (xs : List (K × V)) → Standing m all xs → 0 < times b all → Without b all xs
  without b [] [] s some = absurd (omega (arith, some))
  without b (d ∷ all) (x ∷ xs) s some = elim (cases_eq b d) as (λ _. Without b (d ∷ all) (x ∷ xs)) [
    | inl same ↦ without_first b d all x xs s same
    | inr ne ↦ without_later b d all x xs s ne (without b all xs s.2 (let k = times_other b d all ne in omega (arith, k, some)))
  ]
  without b [] (x ∷ xs) s some = absurd s
  without b (d ∷ all) [] s some = absurd s

  -- what stands behind those of some blocks
  pub record Rest (blocks : List ℕ) (ys : List (K × V)) (all : List ℕ) (xs : List (K × V)) : Type 0 where
    pub rest : List ℕ
    pub more : List (K × V)
    pub stand : Standing m (blocks ++ rest) (ys ++ more)
    pub order : IsPermutation xs (ys ++ more)
    pub counts : (c : ℕ) → times c all ≡ times c (blocks ++ rest)

  module _ (b : ℕ) (blocks : List ℕ) (y : K × V) (ys : List (K × V)) (s : Standing m (b ∷ blocks) (y ∷ ys)) (all : List ℕ) (xs : List (K × V)) (w : Without b all xs) where
    others_within : ((c : ℕ) → 0 < times c (b ∷ blocks) → 0 < times c all) → (c : ℕ) → 0 < times c blocks → 0 < times c w.rest
    others_within within c some =
        let apart : c ≢ b = λ e. (let k = ap (λ (d : ℕ). times d blocks) e ∙ s.1 in omega (arith, k, some)) in
        let here = times_other c b blocks apart in
        let there = times_other c b w.rest apart in
        let n = w.counts c in
        let l = within c (omega (arith, here, some)) in omega (arith, l, n, there)

    one_more : Rest blocks ys w.rest w.others → Rest (b ∷ blocks) (y ∷ ys) all xs
    one_more r = record {
      rest = r.rest;
      more = r.more;
      stand = (s.0, sym (r.counts b) ∙ w.alone, r.stand);
      order = IsPermutation-trans xs (w.pair ∷ w.others) (y ∷ (ys ++ r.more)) w.order
          (subst (λ (z : K × V). IsPermutation (z ∷ w.others) (y ∷ (ys ++ r.more))) (same_pair y w.pair (sym s.0 ∙ w.here)) (IsPermutation-cons y w.others (ys ++ r.more) r.order));
      counts = λ c. w.counts c ∙ ap (λ (n : ℕ). (if c == b then 1 else 0) + n) (r.counts c);
    }

  pub rest_of : (blocks : List ℕ) (ys : List (K × V)) → Standing m blocks ys → (all : List ℕ) (xs : List (K × V)) → Standing m all xs → ((c : ℕ) → 0 < times c blocks → 0 < times c all) → Rest blocks ys all xs
  rest_of [] [] s all xs t within = record { rest = all; more = xs; stand = t; order = IsPermutation-refl xs; counts = λ c. refl }
  rest_of (b ∷ blocks) (y ∷ ys) s all xs t within =
      let w = without b all xs t (within b (some_here b blocks)) in
      one_more b blocks y ys s all xs w (rest_of blocks ys s.2 w.rest w.others w.stand (others_within b blocks y ys s all xs w within))
  rest_of [] (y ∷ ys) s all xs t within = absurd s
  rest_of (b ∷ blocks) [] s all xs t within = absurd s
