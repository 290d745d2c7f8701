-- No block is reclaimed twice as a map ends, nor does one wait that is reclaimed.
use Rattle.std.specs.Prelude.{◌-◌, ◌==◌, map, if◌then◌else◌, Option, Some, None}
use Rattle.std.proofs.Common.{◌≡◌, ℕ, zero, suc, ◌+◌, ◌<◌, ◌≤◌, Bool, true, false, cond, List, [], ◌∷◌, ◌++◌, ◌⊎◌, inl, inr, refl, arith, ap, sym, subst, ◌∙◌, eqb-true}
use Rattle.many_calls.specs.Given.SeizeLaw.{With, where_is}
use Rattle.many_calls.specs.Given.SeizeWorld.{World, Hand, NoBlock, Making, InUse, Cutting, Handed, LeftTo, times, Parting}
use Rattle.many_calls.specs.Given.TablesChunks.{is_incremental}
use Rattle.many_calls.specs.Given.TablesDeclared.node.Node.{Node}
use Rattle.many_calls.specs.Given.TablesDeclared.node.Node.TheVariants as node
use Rattle.many_calls.specs.Given.TablesDeclared.setting.Setting.{Setting}
use Rattle.many_calls.specs.Given.SeizeWordsMem.{value_at}
use Rattle.many_calls.specs.Given.RuleChart.{Phase, Holds, Chart}
use Rattle.many_calls.specs.Given.RuleRule.{IsHome}
use Rattle.many_calls.specs.Given.RuleWords.{Blocks}
use Rattle.many_calls.specs.Given.RuleMaps.{spot_of}
use Rattle.many_calls.specs.Given.PointsSteps.{AreLawful}
use Rattle.many_calls.specs.Kept.{IsUsersOwn, IsMaking}
use Rattle.many_maps.specs.Orders.{given_of, waits_of, pairs_of, tables_in, waits_in}
use Rattle.many_calls.specs.Given.RuleInWorld.{IsMapIn}
use Rattle.many_maps.specs.FactsEnds.{HasDeferred, back_of, wait_from}
use Rattle.many_maps.proofs.Ends.CountedBlocks.{times-append, times_here, some_of_two, some_of_first, some_here}
use Rattle.std.proofs.lemmas.Bool.{cases_lt}
use Rattle.many_calls.proofs.Rows.Beside.{making_own}
use Rattle.many_maps.proofs.Ends.OrdersPairs.{pairs_once, pairs_current}

-- the blocks of numbers that have blocks of their own

pub of_map : (f : ℕ → ℕ) (x : ℕ) (l : List ℕ) → 0 < times x (map f l) → (n : ℕ) × (x ≡ f n) × (0 < times n l)
of_map f x [] some = absurd (omega (arith, some))
of_map f x (n ∷ l) some = by (some_of_first x (f n) (map f l) some) (of_map f x l)
  where
    by : (x ≡ f n) ⊎ (0 < times x (map f l)) → (0 < times x (map f l) → (o : ℕ) × (x ≡ f o) × (0 < times o l)) → (o : ℕ) × (x ≡ f o) × (0 < times o (n ∷ l))
    by (inl e) k = (n, e, some_here n l)
    by (inr later) k = let a = k later in let b = a.2 in (a.0, a.1, omega (arith, b))

pub map_once : (f : ℕ → ℕ) (x : ℕ) (l : List ℕ) → ((n o : ℕ) → 0 < times n l → 0 < times o l → f n ≡ f o → n ≡ o) → ((n : ℕ) → times n l ≤ 1) → times x (map f l) ≤ 1
map_once f x [] own once = omega arith
map_once f x (n ∷ l) own once =
    by (x == f n) refl (map_once f x l (λ a b p q. own a b (omega (arith, p)) (omega (arith, q))) (λ a. let k = once a in omega (arith, k)))
  where
    by : (t : Bool) → (x == f n) ≡ t → times x (map f l) ≤ 1 → (if t then 1 else 0) + times x (map f l) ≤ 1
    by false e k = omega (arith, k)
    by true e k = none (times x (map f l)) refl
      where
        none : (a : ℕ) → times x (map f l) ≡ a → 1 + times x (map f l) ≤ 1
        none zero p = omega (arith, p)
        none (suc a) p =
            let o = of_map f x l (omega (arith, p)) in
            let later = o.2 in
            let is = own n o.0 (some_here n l) (omega (arith, later)) (sym (eqb-true x (f n) e) ∙ o.1) in
            let one = once n in
            let here = times_here n l in
            let at_n = subst (λ (y : ℕ). 0 < times y l) (sym is) later in
            absurd (omega (arith, one, here, at_n))

-- the blocks of tables, and those that they carry
module _ (table : ℕ → ℕ) (lists : ℕ → List ℕ) where
  blocks_in : ℕ → ℕ → List ℕ
  blocks_in t zero = []
  blocks_in t (suc tables) = table t ∷ blocks_in (suc t) tables

  deferred_in : ℕ → ℕ → List ℕ
  deferred_in t zero = []
  deferred_in t (suc tables) = lists t ++ deferred_in (suc t) tables

  in_blocks : (x t tables : ℕ) → 0 < times x (blocks_in t tables) → (u : ℕ) × (t ≤ u) × (u < t + tables) × (x ≡ table u)
  unfolding blocks_in
  in_blocks x t zero some = absurd (omega (arith, some))
  in_blocks x t (suc tables) some = by (some_of_first x (table t) (blocks_in (suc t) tables) some) (in_blocks x (suc t) tables)
    where
      by : (x ≡ table t) ⊎ (0 < times x (blocks_in (suc t) tables)) → (0 < times x (blocks_in (suc t) tables) → (u : ℕ) × (suc t ≤ u) × (u < suc t + tables) × (x ≡ table u))
          → (u : ℕ) × (t ≤ u) × (u < t + suc tables) × (x ≡ table u)
      by (inl e) k = (t, omega arith, omega arith, e)
      by (inr later) k = let a = k later in let b = a.1 in let d = a.2 in (a.0, omega (arith, b), omega (arith, d), a.3)

  in_deferred : (x t tables : ℕ) → 0 < times x (deferred_in t tables) → (u : ℕ) × (t ≤ u) × (u < t + tables) × (0 < times x (lists u))
  unfolding deferred_in
  in_deferred x t zero some = absurd (omega (arith, some))
  in_deferred x t (suc tables) some = by (some_of_two x (lists t) (deferred_in (suc t) tables) some) (in_deferred x (suc t) tables)
    where
      by : (0 < times x (lists t)) ⊎ (0 < times x (deferred_in (suc t) tables))
          → (0 < times x (deferred_in (suc t) tables) → (u : ℕ) × (suc t ≤ u) × (u < suc t + tables) × (0 < times x (lists u)))
          → (u : ℕ) × (t ≤ u) × (u < t + suc tables) × (0 < times x (lists u))
      by (inl here) k = (t, omega arith, omega arith, here)
      by (inr later) k = let a = k later in let b = a.1 in let d = a.2 in (a.0, omega (arith, b), omega (arith, d), a.3)

  blocks_once : (x t tables : ℕ) → ((u v : ℕ) → t ≤ u → u < t + tables → t ≤ v → v < t + tables → table u ≡ table v → u ≡ v) → times x (blocks_in t tables) ≤ 1
  unfolding blocks_in
  blocks_once x t zero own = omega arith
  blocks_once x t (suc tables) own =
      by (x == table t) refl (blocks_once x (suc t) tables (λ u v a b d e. own u v (omega (arith, a)) (omega (arith, b)) (omega (arith, d)) (omega (arith, e))))
    where
      by : (z : Bool) → (x == table t) ≡ z → times x (blocks_in (suc t) tables) ≤ 1 → (if z then 1 else 0) + times x (blocks_in (suc t) tables) ≤ 1
      by false e k = omega (arith, k)
      by true e k = none (times x (blocks_in (suc t) tables)) refl
        where
          none : (a : ℕ) → times x (blocks_in (suc t) tables) ≡ a → 1 + times x (blocks_in (suc t) tables) ≤ 1
          none zero p = omega (arith, p)
          none (suc a) p =
              let o = in_blocks x (suc t) tables (omega (arith, p)) in
              let l = o.1 in
              let q = o.2 in
              let is = own t o.0 (omega arith) (omega arith) (omega (arith, l)) (omega (arith, q)) (sym (eqb-true x (table t) e) ∙ o.3) in
              absurd (omega (arith, is, l))

  deferred_once : (x t tables : ℕ) → ((u : ℕ) → t ≤ u → u < t + tables → times x (lists u) ≤ 1)
      → ((u v : ℕ) → t ≤ u → u < t + tables → t ≤ v → v < t + tables → 0 < times x (lists u) → 0 < times x (lists v) → u ≡ v) → times x (deferred_in t tables) ≤ 1
  unfolding deferred_in
  deferred_once x t zero once own = omega arith
  deferred_once x t (suc tables) once own =
      at_most (times x (lists t)) (times x (deferred_in (suc t) tables)) (times-append x (lists t) (deferred_in (suc t) tables)) (once t (omega arith) (omega arith))
      (deferred_once x (suc t) tables (λ u a b. once u (omega (arith, a)) (omega (arith, b))) (λ u v a b d e. own u v (omega (arith, a)) (omega (arith, b)) (omega (arith, d)) (omega (arith, e))))
      (λ p q. let o = in_deferred x (suc t) tables q in let l = o.1 in let k = o.2 in
      let is = own t o.0 (omega arith) (omega arith) (omega (arith, l)) (omega (arith, k)) p o.3 in omega (arith, is, l))
    where
      at_most : (a b : ℕ) → times x (deferred_in t (suc tables)) ≡ a + b → a ≤ 1 → b ≤ 1 → (0 < a → 0 < b → ⊥) → times x (deferred_in t (suc tables)) ≤ 1
      at_most zero b e p q none = omega (arith, e, q)
      at_most (suc a) zero e p q none = omega (arith, e, p)
      at_most (suc a) (suc b) e p q none = absurd (none (omega arith) (omega arith))

  -- what is reclaimed and what waits are the tables and all that they carry
  all_in : (x t tables : ℕ) (owns : Bool) → times x (tables_in table lists owns t tables) + times x (waits_in table lists owns t tables)
      ≡ times x (blocks_in t tables) + times x (deferred_in t tables)
  unfolding blocks_in deferred_in
  all_in x t zero owns = refl
  all_in x t (suc tables) owns = by owns (all_in x (suc t) tables owns)
    where
      by : (o : Bool) → times x (tables_in table lists owns (suc t) tables) + times x (waits_in table lists owns (suc t) tables) ≡ times x (blocks_in (suc t) tables) + times x (deferred_in (suc t) tables)
          → times x (given_of o (lists t) ++ table t ∷ tables_in table lists owns (suc t) tables) + times x (waits_of o (lists t) ++ waits_in table lists owns (suc t) tables)
          ≡ times x (table t ∷ blocks_in (suc t) tables) + times x (lists t ++ deferred_in (suc t) tables)
      by true k =
          let a = times-append x (lists t) (table t ∷ tables_in table lists owns (suc t) tables) in
          let b = times-append x (lists t) (deferred_in (suc t) tables) in
          omega (arith, k, a, b)
      by false k =
          let a = times-append x (lists t) (waits_in table lists owns (suc t) tables) in
          let b = times-append x (lists t) (deferred_in (suc t) tables) in
          omega (arith, k, a, b)

-- of which kind a block is

node_kind : {K V : Type 0} → Option (Node K V) → ℕ
node_kind None = 0
node_kind (Some (node.Pair k v)) = 1
node_kind (Some (node.Table len limit turn)) = 2
node_kind (Some node.Shards) = 3

hand_kind : Hand → ℕ → ℕ
hand_kind NoBlock k = k
hand_kind (Making i) k = k
hand_kind (InUse o) k = k
hand_kind (Parting i) k = k
hand_kind (Cutting i) k = k
hand_kind Handed k = 4
hand_kind (LeftTo i) k = k

own_kind : (h : Hand) (k : ℕ) → IsUsersOwn h → hand_kind h k ≡ k
unfolding hand_kind
own_kind NoBlock k u = refl
own_kind (Making i) k u = refl
own_kind (InUse o) k u = refl
own_kind (Parting i) k u = refl
own_kind (Cutting i) k u = refl
own_kind Handed k u = absurd u
own_kind (LeftTo i) k u = refl

handed_kind : (h : Hand) (k : ℕ) → h ≡ Handed → hand_kind h k ≡ 4
unfolding hand_kind
handed_kind h k e = ap (λ (g : Hand). hand_kind g k) e

-- these blocks are with that one, and the collector has them, each once
pub record AreWith {T : Type 0} (w : World T) (b : ℕ) (list : List ℕ) : Type 0 where
  pub once : (x : ℕ) → times x list ≤ 1
  pub theirs : (x : ℕ) → 0 < times x list → (w.hand x ≡ Handed) × (where_is x w.log ≡ With b)

pub are_with : {K V : Type 0} (w : World (Node K V)) (b : ℕ) (list : List ℕ) → HasDeferred w b list → AreWith w b list
are_with w b list h = record { once = h.once; theirs = λ x on. ((h.theirs x on).0, (h.theirs x on).1) }

-- a map stands in the world, and these are with its tables
pub record HasOrder {K V : Type 0} (setting : Setting) (c : Chart K) (blocks : Blocks) (lists : ℕ → List ℕ) (same : K → K → Bool) (hash : K → ℕ) (w : World (Node K V)) : Type 0 where
  pub map : IsMapIn same hash setting w c blocks
  pub counter : IsMaking (w.hand setting.counter)
  pub behind : (t : ℕ) → c.first ≤ t → t < c.past → AreWith w (blocks.table t) (lists t)

-- whatever they are
pub plain_order : {K V : Type 0} (setting : Setting) (c : Chart K) (blocks : Blocks) (same : K → K → Bool) (hash : K → ℕ) (w : World (Node K V)) → IsMapIn same hash setting w c blocks
    → IsMaking (w.hand setting.counter) → HasOrder setting c blocks (λ t. []) same hash w
plain_order setting c blocks same hash w map counter =
    record { map = map; counter = counter; behind = λ t from made. record { once = λ x. omega arith; theirs = λ x on. absurd (omega (arith, on)) } }

module _ {K V : Type 0} (same : K → K → Bool) (hash : K → ℕ) (are : AreLawful same hash) (setting : Setting) (c : Chart K) (blocks : Blocks) (lists : ℕ → List ℕ) (owns : Bool)
    (w : World (Node K V)) (may : HasOrder setting c blocks lists same hash w) where
  kind : ℕ → ℕ
  kind x = hand_kind (w.hand x) (node_kind (value_at w.memory x))

  used_kind : (x : ℕ) (value : Node K V) → w.hand x ≡ InUse setting.counter → value_at w.memory x ≡ Some value → kind x ≡ node_kind (Some value)
  unfolding kind
  used_kind x value used is = own_kind (w.hand x) (node_kind (value_at w.memory x)) (subst IsUsersOwn (sym used) tt) ∙ ap node_kind is

  abbrev pub bits : Bool
  bits = is_incremental setting.mode

  -- a place with a pair, at a home, is one of a linked table
  pub home_linked : (t i n : ℕ) (phase : Phase) (borrowed : Bool) → c.place t i ≡ Holds n phase borrowed → IsHome same (spot_of hash) bits c t → (c.first ≤ t) × (t < c.past)
  home_linked t i n phase borrowed there home = (from bits home, made (cases_lt t c.past))
    where
      from : (b : Bool) → cond b (c.first ≤ t) (t ≡ c.first) → c.first ≤ t
      from true h = h
      from false h = omega (arith, h)

      made : (t < c.past) ⊎ (c.past ≤ t) → t < c.past
      made (inl l) = l
      made (inr none) = absurd (let e = may.map.map.rule.common.unmade t i none in cc (e, there))

  -- what is known of the pairs of the map
  pub pair_there : (n : ℕ) → c.current n ≡ true
      → (w.hand (blocks.pair n) ≡ InUse setting.counter) × (blocks.pair_known n ≡ true) × (n < c.stored) × ((k : K) × (v : V) × (value_at w.memory (blocks.pair n) ≡ Some (node.Pair k v)))
  pair_there n current =
      let s = may.map.map.rule.common.stands n current in
      let linked = home_linked s.0 s.1 n s.2 s.3 s.4 s.6 in
      let known = may.map.map.shows.named s.0 s.1 n s.2 s.3 linked.1 (may.map.map.shows.linked s.0 linked.0 linked.1) s.4 in
      let was = (may.map.map.rule.common.keyed s.0 s.1 n s.2 s.3 s.4).0 in
      let p = may.map.map.shows.pairs n was known in
      (may.map.pairs n current, known, was, (p.0, p.1, p.2))

  -- and of a linked table
  pub table_there : (t : ℕ) → c.first ≤ t → t < c.past
      → (w.hand (blocks.table t) ≡ InUse setting.counter) × (blocks.table_known t ≡ true) × (value_at w.memory (blocks.table t) ≡ Some (node.Table (c.len t) (c.limit t) t))
  table_there t from made =
      let known = may.map.map.shows.linked t from made in
      (may.map.tables t from made, known, (may.map.map.shows.tables t made known).value)

  abbrev pub P : List ℕ
  P = map blocks.pair (pairs_of bits c)

  pub pairs_apart : (x : ℕ) → times x P ≤ 1
  pairs_apart x = map_once blocks.pair x (pairs_of bits c)
      (λ n o p q e. let a = pairs_current same hash are bits c may.map.map.rule n p in let b = pairs_current same hash are bits c may.map.map.rule o q in
      let k = pair_there n a.0 in let l = pair_there o b.0 in
      may.map.map.shows.pairs_apart n o a.1 b.1 k.1 l.1 e)
      (λ n. pairs_once same hash are bits c may.map.map.rule n)

  pairs_kind : (x : ℕ) → 0 < times x P → kind x ≡ 1
  unfolding node_kind
  pairs_kind x some =
      let o = of_map blocks.pair x (pairs_of bits c) some in
      let a = pairs_current same hash are bits c may.map.map.rule o.0 o.2 in
      let k = pair_there o.0 a.0 in
      ap kind o.1 ∙ used_kind (blocks.pair o.0) (node.Pair k.3.0 k.3.1) k.0 k.3.2

  tables_kind : (x t tables : ℕ) → ((u : ℕ) → t ≤ u → u < t + tables → (c.first ≤ u) × (u < c.past)) → 0 < times x (blocks_in blocks.table lists t tables) → kind x ≡ 2
  unfolding node_kind
  tables_kind x t tables linked some =
      let o = in_blocks blocks.table lists x t tables some in
      let l = linked o.0 o.1 o.2 in
      let k = table_there o.0 l.0 l.1 in
      ap kind o.3 ∙ used_kind (blocks.table o.0) (node.Table (c.len o.0) (c.limit o.0) o.0) k.0 k.2

  lists_kind : (x t tables : ℕ) → ((u : ℕ) → t ≤ u → u < t + tables → (c.first ≤ u) × (u < c.past)) → 0 < times x (deferred_in blocks.table lists t tables) → kind x ≡ 4
  unfolding kind
  lists_kind x t tables linked some =
      let o = in_deferred blocks.table lists x t tables some in
      let l = linked o.0 o.1 o.2 in
      handed_kind (w.hand x) (node_kind (value_at w.memory x)) (((may.behind o.0 l.0 l.1).theirs x o.3).0)

  counter_kind : kind setting.counter ≡ 3
  unfolding kind node_kind
  counter_kind = own_kind (w.hand setting.counter) (node_kind (value_at w.memory setting.counter)) (making_own (w.hand setting.counter) may.counter) ∙ ap node_kind may.map.counter

  all_linked : (u : ℕ) → c.first ≤ u → u < c.first + (c.past - c.first) → (c.first ≤ u) × (u < c.past)
  all_linked u from below = (from, omega (arith, from, below))

  -- each block is reclaimed or waits, once
  pub all_once : (x : ℕ) → times x (back_of setting c blocks lists owns) + times x (wait_from setting c blocks lists owns c.first) ≤ 1
  all_once x =
      let n = c.past - c.first in
      let tables = blocks_in blocks.table lists c.first n in
      let deferred = deferred_in blocks.table lists c.first n in
      let a = times-append x P (tables_in blocks.table lists owns c.first n ++ setting.counter ∷ []) in
      let b = times-append x (tables_in blocks.table lists owns c.first n) (setting.counter ∷ []) in
      let d = all_in blocks.table lists x c.first n owns in
      let sum = only (times x P) (times x tables) (times x deferred) (times x (setting.counter ∷ [])) (kind x)
      (pairs_apart x)
      (blocks_once blocks.table lists x c.first n (λ u v p q r s e.
      let k = all_linked u p q in let l = all_linked v r s in
      may.map.map.shows.tables_apart u v k.1 l.1 ((table_there u k.0 k.1).1) ((table_there v l.0 l.1).1) e))
      (deferred_once blocks.table lists x c.first n (λ u p q. let k = all_linked u p q in (may.behind u k.0 k.1).once x)
      (λ u v p q r s e f. let k = all_linked u p q in let l = all_linked v r s in
      let i = ((may.behind u k.0 k.1).theirs x e).1 in let j = ((may.behind v l.0 l.1).theirs x f).1 in
      may.map.map.shows.tables_apart u v k.1 l.1 ((table_there u k.0 k.1).1) ((table_there v l.0 l.1).1) (behind_same (blocks.table u) (blocks.table v) (sym i ∙ j))))
      one_counter
      (λ s. pairs_kind x s) (λ s. tables_kind x c.first n all_linked s) (λ s. lists_kind x c.first n all_linked s)
      (λ s. elim (some_of_first x setting.counter [] s) as (λ _. kind x ≡ 3) [
        | inl e ↦ ap kind e ∙ counter_kind
        | inr none ↦ absurd (omega (arith, none))
      ]) in
      omega (arith, a, b, d, sum)
    where
      behind_same : (a b : ℕ) → With a ≡ With b → a ≡ b
      behind_same a b e = cc e

      one_counter : times x (setting.counter ∷ []) ≤ 1
      one_counter = at (x == setting.counter)
        where
          at : (t : Bool) → (if t then 1 else 0) + 0 ≤ 1
          at true = omega arith
          at false = omega arith

      only : (p t l o k : ℕ) → p ≤ 1 → t ≤ 1 → l ≤ 1 → o ≤ 1 → (0 < p → k ≡ 1) → (0 < t → k ≡ 2) → (0 < l → k ≡ 4) → (0 < o → k ≡ 3) → p + (t + l) + o ≤ 1
      only p t l o k a b d e f g h i = by p t l o a b d e f g h i
        where
          by : (p t l o : ℕ) → p ≤ 1 → t ≤ 1 → l ≤ 1 → o ≤ 1 → (0 < p → k ≡ 1) → (0 < t → k ≡ 2) → (0 < l → k ≡ 4) → (0 < o → k ≡ 3) → p + (t + l) + o ≤ 1
          by zero zero zero o a b d e f g h i = omega (arith, e)
          by zero zero (suc l) zero a b d e f g h i = omega (arith, d)
          by zero (suc t) zero zero a b d e f g h i = omega (arith, b)
          by (suc p) zero zero zero a b d e f g h i = omega (arith, a)
          by (suc p) (suc t) l o a b d e f g h i = absurd (let x = f (omega arith) in let y = g (omega arith) in omega (arith, x, y))
          by (suc p) zero (suc l) o a b d e f g h i = absurd (let x = f (omega arith) in let y = h (omega arith) in omega (arith, x, y))
          by (suc p) zero zero (suc o) a b d e f g h i = absurd (let x = f (omega arith) in let y = i (omega arith) in omega (arith, x, y))
          by zero (suc t) (suc l) o a b d e f g h i = absurd (let x = g (omega arith) in let y = h (omega arith) in omega (arith, x, y))
          by zero (suc t) zero (suc o) a b d e f g h i = absurd (let x = g (omega arith) in let y = i (omega arith) in omega (arith, x, y))
          by zero zero (suc l) (suc o) a b d e f g h i = absurd (let x = h (omega arith) in let y = i (omega arith) in omega (arith, x, y))
