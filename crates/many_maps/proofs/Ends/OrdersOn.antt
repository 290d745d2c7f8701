-- How the order in which a map reclaims what it has goes on: from place to place, and from table to table.
use Rattle.std.specs.Prelude.{◌-◌, map, ◌≢◌}
use Rattle.std.proofs.Common.{◌≡◌, ℕ, zero, suc, ◌+◌, ◌<◌, ◌≤◌, Bool, true, false, cond, List, [], ◌∷◌, ◌++◌, refl, arith, ap, sym, subst, ◌∙◌, ◌⊎◌, inl, inr}
use Rattle.std.proofs.lemmas.List.{append-nil, append_assoc}
use Rattle.many_calls.specs.Given.TablesChunks.{is_incremental}
use Rattle.many_calls.specs.Given.TablesDeclared.setting.Setting.{Setting}
use Rattle.many_calls.specs.Given.RuleChart.{Chart}
use Rattle.many_calls.specs.Given.RuleWords.{Blocks}
use Rattle.many_maps.specs.Orders.{pair_at, with_pairs, given_of, waits_of, pairs_from, pairs_in, pairs_behind, tables_in, waits_in, pairs_of}
use Rattle.many_maps.specs.FactsEnds.{back_of, from_table, from_place, wait_before}
use Rattle.many_calls.specs.Given.SeizeWorld.{times}
use Rattle.many_maps.proofs.Ends.CountedBlocks.{some_last, some_first, some_here, some_of_two}
use Rattle.std.proofs.lemmas.Bool.{cases_eq}
use Rattle.many_calls.proofs.Given.General.{map_append as map_two}

module _ {K : Type 0} (setting : Setting) (c : Chart K) (blocks : Blocks) (lists : ℕ → List ℕ) (owns : Bool) where
  less : (a b : ℕ) → a < b → b - a ≡ suc (b - suc a)
  less a b l = omega (arith, l)

  all_of : (a : ℕ) → a ≡ a - 0
  all_of a = omega arith

  none : (a b : ℕ) → b ≤ a → b - a ≡ 0
  none a b l = omega (arith, l)

  -- a map with a table begins with the first place of the root
  pub pairs_start : c.first < c.past → back_of setting c blocks lists owns ≡ from_place setting c blocks lists owns c.first 0
  pairs_start l = ap (λ (p : List ℕ). map blocks.pair p ++ from_table setting c blocks lists owns c.first) (by (is_incremental setting.mode))
    where
      by : (b : Bool) → pairs_in b c c.first (with_pairs b (c.past - c.first)) ≡ pairs_from b c c.first 0 (c.len c.first - 0) ++ pairs_in b c (suc c.first) (cond b (c.past - suc c.first) 0)
      by true = ap (λ (k : ℕ). pairs_in true c c.first k) (less c.first c.past l) ∙ ap (λ (k : ℕ). pairs_from true c c.first 0 k ++ pairs_in true c (suc c.first) (c.past - suc c.first)) (all_of (c.len c.first))
      by false = ap (λ (k : ℕ). pairs_in false c c.first (with_pairs false k)) (less c.first c.past l) ∙ ap (λ (k : ℕ). pairs_from false c c.first 0 k ++ []) (all_of (c.len c.first))

  -- one without has none
  pub pairs_none : c.past ≤ c.first → back_of setting c blocks lists owns ≡ setting.counter ∷ []
  pairs_none l =
      ap (λ (k : ℕ). map blocks.pair (pairs_in (is_incremental setting.mode) c c.first (with_pairs (is_incremental setting.mode) k)) ++ (tables_in blocks.table lists owns c.first k ++ setting.counter ∷ []))
      (none c.first c.past l) ∙ by (is_incremental setting.mode)
    where
      by : (b : Bool) → map blocks.pair (pairs_in b c c.first (with_pairs b 0)) ++ setting.counter ∷ [] ≡ setting.counter ∷ []
      by true = refl
      by false = refl

  -- the next place
  pub place_on : (t i : ℕ) → i < c.len t
      → from_place setting c blocks lists owns t i ≡ map blocks.pair (pair_at (is_incremental setting.mode) (c.place t i)) ++ from_place setting c blocks lists owns t (suc i)
  place_on t i l =
      let b = is_incremental setting.mode in
      let here = pair_at b (c.place t i) in
      let rest = pairs_from b c t (suc i) (c.len t - suc i) in
      let behind = pairs_behind b c t in
      ap (λ (k : ℕ). map blocks.pair (pairs_from b c t i k ++ behind) ++ from_table setting c blocks lists owns c.first) (less i (c.len t) l)
      ∙ ap (λ (p : List ℕ). map blocks.pair p ++ from_table setting c blocks lists owns c.first) (append_assoc here rest behind)
      ∙ ap (λ (p : List ℕ). p ++ from_table setting c blocks lists owns c.first) (map_two blocks.pair here (rest ++ behind))
      ∙ append_assoc (map blocks.pair here) (map blocks.pair (rest ++ behind)) (from_table setting c blocks lists owns c.first)

  -- behind the last one
  pub places_over : (t i : ℕ) → c.len t ≤ i
      → from_place setting c blocks lists owns t i ≡ map blocks.pair (pairs_behind (is_incremental setting.mode) c t) ++ from_table setting c blocks lists owns c.first
  places_over t i l =
      ap (λ (k : ℕ). map blocks.pair (pairs_from (is_incremental setting.mode) c t i k ++ pairs_behind (is_incremental setting.mode) c t) ++ from_table setting c blocks lists owns c.first)
      (none i (c.len t) l)

  -- in incremental mode the next table
  pub behind_on : (t : ℕ) → is_incremental setting.mode ≡ true → suc t < c.past
      → map blocks.pair (pairs_behind (is_incremental setting.mode) c t) ++ from_table setting c blocks lists owns c.first ≡ from_place setting c blocks lists owns (suc t) 0
  behind_on t is l = ap (λ (p : List ℕ). map blocks.pair p ++ from_table setting c blocks lists owns c.first) (by (is_incremental setting.mode) is)
    where
      by : (b : Bool) → b ≡ true → pairs_in b c (suc t) (cond b (c.past - suc t) 0) ≡ pairs_from b c (suc t) 0 (c.len (suc t) - 0) ++ pairs_in b c (suc (suc t)) (cond b (c.past - suc (suc t)) 0)
      by true e = ap (λ (k : ℕ). pairs_in true c (suc t) k) (less (suc t) c.past l)
          ∙ ap (λ (k : ℕ). pairs_from true c (suc t) 0 k ++ pairs_in true c (suc (suc t)) (c.past - suc (suc t))) (all_of (c.len (suc t)))
      by false e = absurd (cc e)

  -- at once, or behind the last one, there is none
  pub behind_over : (t : ℕ) → cond (is_incremental setting.mode) (c.past ≤ suc t) (Unit {0})
      → map blocks.pair (pairs_behind (is_incremental setting.mode) c t) ++ from_table setting c blocks lists owns c.first ≡ from_table setting c blocks lists owns c.first
  behind_over t l = ap (λ (p : List ℕ). map blocks.pair p ++ from_table setting c blocks lists owns c.first) (by (is_incremental setting.mode) l)
    where
      by : (b : Bool) → cond b (c.past ≤ suc t) (Unit {0}) → pairs_in b c (suc t) (cond b (c.past - suc t) 0) ≡ []
      by true l = ap (λ (k : ℕ). pairs_in true c (suc t) k) (none (suc t) c.past l)
      by false l = refl

  -- the next table, and what it carries
  pub table_on : (t : ℕ) → t < c.past
      → from_table setting c blocks lists owns t ≡ given_of owns (lists t) ++ blocks.table t ∷ from_table setting c blocks lists owns (suc t)
  table_on t l =
      ap (λ (k : ℕ). tables_in blocks.table lists owns t k ++ setting.counter ∷ []) (less t c.past l)
      ∙ append_assoc (given_of owns (lists t)) (blocks.table t ∷ tables_in blocks.table lists owns (suc t) (c.past - suc t)) (setting.counter ∷ [])

  pub table_over : (t : ℕ) → c.past ≤ t → from_table setting c blocks lists owns t ≡ setting.counter ∷ []
  table_over t l = ap (λ (k : ℕ). tables_in blocks.table lists owns t k ++ setting.counter ∷ []) (none t c.past l)

  -- each table is reclaimed
  pub table_in : (t u tables : ℕ) → u ≤ t → t < u + tables → 0 < times (blocks.table t) (tables_in blocks.table lists owns u tables)
  table_in t u zero from below = absurd (omega (arith, from, below))
  table_in t u (suc tables) from below = some_last (blocks.table t) (given_of owns (lists u)) (blocks.table u ∷ tables_in blocks.table lists owns (suc u) tables)
      (by (cases_eq t u) (λ l. table_in t (suc u) tables l (omega (arith, below))))
    where
      by : (t ≡ u) ⊎ (t ≢ u) → (suc u ≤ t → 0 < times (blocks.table t) (tables_in blocks.table lists owns (suc u) tables))
          → 0 < times (blocks.table t) (blocks.table u ∷ tables_in blocks.table lists owns (suc u) tables)
      by (inl is) k = subst (λ (x : ℕ). 0 < times (blocks.table t) (blocks.table x ∷ tables_in blocks.table lists owns (suc u) tables)) is (some_here (blocks.table t) (tables_in blocks.table lists owns (suc u) tables))
      by (inr ne) k = let a = k (omega (arith, from, ne)) in omega (arith, a)

  pub table_later : (t u : ℕ) → u ≤ t → t < c.past → 0 < times (blocks.table t) (from_table setting c blocks lists owns u)
  table_later t u from made = some_first (blocks.table t) (tables_in blocks.table lists owns u (c.past - u)) (setting.counter ∷ []) (table_in t u (c.past - u) from (omega (arith, from, made)))

  -- the counter comes last
  pub counter_later : (t : ℕ) → 0 < times setting.counter (from_table setting c blocks lists owns t)
  counter_later t = some_last setting.counter (tables_in blocks.table lists owns t (c.past - t)) (setting.counter ∷ []) (some_here setting.counter [])

  -- what waits is behind a table
  pub in_waits : (x t tables : ℕ) → 0 < times x (waits_in blocks.table lists owns t tables) → (u : ℕ) × (t ≤ u) × (u < t + tables) × (0 < times x (lists u))
  in_waits x t zero some = absurd (omega (arith, some))
  in_waits x t (suc tables) some = by (some_of_two x (waits_of owns (lists t)) (waits_in blocks.table lists owns (suc t) tables) some) (in_waits x (suc t) tables)
    where
      own : (o : Bool) → 0 < times x (waits_of o (lists t)) → 0 < times x (lists t)
      own true s = absurd (omega (arith, s))
      own false s = s

      by : (0 < times x (waits_of owns (lists t))) ⊎ (0 < times x (waits_in blocks.table lists owns (suc t) tables))
          → (0 < times x (waits_in blocks.table lists owns (suc t) tables) → (u : ℕ) × (suc t ≤ u) × (u < suc t + tables) × (0 < times x (lists u)))
          → (u : ℕ) × (t ≤ u) × (u < t + suc tables) × (0 < times x (lists u))
      by (inl here) k = (t, omega arith, omega arith, own owns here)
      by (inr later) k = let a = k later in let b = a.1 in let d = a.2 in (a.0, omega (arith, b), omega (arith, d), a.3)

  -- where the map owns its collector, nothing waits
  none_waits : (t tables : ℕ) → owns ≡ true → waits_in blocks.table lists owns t tables ≡ []
  none_waits t zero owned = refl
  none_waits t (suc tables) owned =
      ap (λ (l : List ℕ). waits_of owns (lists t) ++ l) (none_waits (suc t) tables owned) ∙ ap (λ (o : Bool). waits_of o (lists t) ++ []) owned

  pub before_owned : (t : ℕ) → owns ≡ true → wait_before setting c blocks lists owns t ≡ []
  before_owned t owned = none_waits c.first (t - c.first) owned

  -- nothing waits before the root
  pub before_none : (t : ℕ) → t ≤ c.first → wait_before setting c blocks lists owns t ≡ []
  before_none t l = ap (λ (k : ℕ). waits_in blocks.table lists owns c.first k) (none c.first t l)

  -- what one more table carries waits behind what waits already
  waits_more : (t tables : ℕ) → waits_in blocks.table lists owns t (suc tables) ≡ waits_in blocks.table lists owns t tables ++ waits_of owns (lists (t + tables))
  waits_more t zero = append-nil (waits_of owns (lists t)) ∙ ap (λ (u : ℕ). waits_of owns (lists u)) (omega arith)
  waits_more t (suc tables) =
      ap (λ (l : List ℕ). waits_of owns (lists t) ++ l) (waits_more (suc t) tables)
      ∙ sym (append_assoc (waits_of owns (lists t)) (waits_in blocks.table lists owns (suc t) tables) (waits_of owns (lists (suc t + tables))))
      ∙ ap (λ (u : ℕ). (waits_of owns (lists t) ++ waits_in blocks.table lists owns (suc t) tables) ++ waits_of owns (lists u)) (omega arith)

  pub wait_more : (t : ℕ) → c.first ≤ t → wait_before setting c blocks lists owns (suc t) ≡ wait_before setting c blocks lists owns t ++ waits_of owns (lists t)
  wait_more t l =
      ap (λ (k : ℕ). waits_in blocks.table lists owns c.first k) (one_more t c.first l) ∙ waits_more c.first (t - c.first)
      ∙ ap (λ (u : ℕ). wait_before setting c blocks lists owns t ++ waits_of owns (lists u)) (back_at c.first t l)
    where
      one_more : (a b : ℕ) → b ≤ a → suc a - b ≡ suc (a - b)
      one_more a b l = omega (arith, l)

      back_at : (a b : ℕ) → a ≤ b → a + (b - a) ≡ b
      back_at a b l = omega (arith, l)

-- two ways to say what tables carry, that are the same before a table
module _ {K : Type 0} (setting : Setting) (c : Chart K) (blocks : Blocks) (lists lists2 : ℕ → List ℕ) (owns : Bool) where
  waits_same : (t tables : ℕ) → ((u : ℕ) → t ≤ u → u < t + tables → lists2 u ≡ lists u) → waits_in blocks.table lists2 owns t tables ≡ waits_in blocks.table lists owns t tables
  waits_same t zero same = refl
  waits_same t (suc tables) same =
      ap (λ (l : List ℕ). waits_of owns l ++ waits_in blocks.table lists2 owns (suc t) tables) (same t (omega arith) (omega arith))
      ∙ ap (λ (l : List ℕ). waits_of owns (lists t) ++ l) (waits_same (suc t) tables (λ u a b. same u (omega (arith, a)) (omega (arith, b))))

  pub before_same : (past : ℕ) → ((u : ℕ) → c.first ≤ u → u < past → lists2 u ≡ lists u) → wait_before setting c blocks lists2 owns past ≡ wait_before setting c blocks lists owns past
  before_same past same = waits_same c.first (past - c.first) (λ u a b. same u a (omega (arith, a, b)))

  -- where a map doesn't own its collector, what its tables carry is not among what is reclaimed
  given_none : owns ≡ false → (l : List ℕ) → given_of owns l ≡ []
  given_none shared l = ap (λ (o : Bool). given_of o l) shared

  tables_same : owns ≡ false → (t tables : ℕ) → tables_in blocks.table lists2 owns t tables ≡ tables_in blocks.table lists owns t tables
  tables_same shared t zero = refl
  tables_same shared t (suc tables) =
      ap (λ (l : List ℕ). l ++ blocks.table t ∷ tables_in blocks.table lists2 owns (suc t) tables) (given_none shared (lists2 t))
      ∙ ap (λ (l : List ℕ). blocks.table t ∷ l) (tables_same shared (suc t) tables)
      ∙ sym (ap (λ (l : List ℕ). l ++ blocks.table t ∷ tables_in blocks.table lists owns (suc t) tables) (given_none shared (lists t)))

  pub from_same : owns ≡ false → (t : ℕ) → from_table setting c blocks lists2 owns t ≡ from_table setting c blocks lists owns t
  from_same shared t = ap (λ (l : List ℕ). l ++ setting.counter ∷ []) (tables_same shared t (c.past - t))

  pub back_same : owns ≡ false → back_of setting c blocks lists2 owns ≡ back_of setting c blocks lists owns
  back_same shared = ap (λ (l : List ℕ). map blocks.pair (pairs_of (is_incremental setting.mode) c) ++ l) (from_same shared c.first)
