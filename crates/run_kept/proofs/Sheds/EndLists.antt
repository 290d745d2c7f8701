-- The blocks that the end of a map is to reclaim: what it has reclaimed comes first, each stands there once, and each is a pair, a table, or the counter of the map.
use Rattle.std.specs.Prelude.{◌-◌, map}
use Rattle.std.proofs.Common.{◌≡◌, ℕ, zero, suc, ◌+◌, ◌<◌, ◌≤◌, Bool, true, false, List, [], ◌∷◌, ◌++◌, ◌⊎◌, inl, inr, arith, ap, sym, ◌∙◌}
use Rattle.std.proofs.lemmas.List.{append-nil}
use Rattle.seize.specs.World.{World, times}
use Rattle.papaya_raw.specs.Given.TablesChunks.{is_incremental}
use Rattle.papaya_raw.specs.Given.TablesDeclared.node.Node.{Node}
use Rattle.papaya_raw.specs.Given.TablesDeclared.setting.Setting.{Setting}
use Rattle.papaya_raw.specs.declared.machines.end_map.EndMap.{EndMap}
use Rattle.papaya_raw.specs.declared.machines.end_map.Ending.{Ending}
use Rattle.papaya_raw.specs.declared.machines.end_map.Ending.TheVariants as at
use Rattle.run_executor.specs.Given.RuleChart.{Chart}
use Rattle.run_executor.specs.Given.RuleWords.{Blocks}
use Rattle.run_executor.specs.Given.PointsSteps.{AreLawful}
use Rattle.run_executor.specs.Given.FinishesFactsEnds.{EndingFacts, back_of}
use Rattle.run_executor.specs.Given.FinishesOrders.{pairs_of, tables_in}
use Rattle.run_executor.proofs.Given.FinishesEnds.CountedBlocks.{some_of_two, some_of_first}
use Rattle.run_executor.proofs.Given.FinishesEnds.OrdersOnce.{HasOrder, all_once, of_map}
use Rattle.run_executor.proofs.Given.FinishesEnds.OrdersPairs.{pairs_current}

module _ {K V : Type 0} (hash : K → ℕ) (setting : Setting) (c : Chart K) (blocks : Blocks) (lists : ℕ → List ℕ) (owns : Bool) (caller : ℕ) (w : World (Node K V)) (e : EndMap) (past : ℕ) (back : List ℕ) where
  -- what it has reclaimed comes first
  pub back_first : (spot : Ending) → EndingFacts setting c blocks lists owns caller hash w e past back spot → (rest : List ℕ) × (back_of setting c blocks lists owns ≡ back ++ rest)
  back_first at.Reads point = (back_of setting c blocks lists owns, ap (λ (l : List ℕ). l ++ back_of setting c blocks lists owns) (sym point.1))
  back_first at.Words (t, here, inside, all) = (_, all)
  back_first (at.Takes pair) (t, n, here, inside, is, current, made, all) = (_, all)
  back_first at.Nexts (t, here, all) = (_, all)
  back_first at.Carries (here, joined, all) = (_, all)
  back_first (at.Joins pair) (t, here, is_past, j) = (_, j.all)
  back_first (at.Follows pair) (t, here, is_past, inl (q, rest, link, g)) = (_, g.all)
  back_first (at.Follows pair) (t, here, is_past, inr j) = (_, j.all)
  back_first (at.Gives pair next) (t, here, is_past, q, rest, link, g, list) = (_, g.all)
  back_first at.Afters (t, here, is_past, joined, all) = (_, all)
  back_first (at.Drops next) (t, here, is_past, next_is, joined, all) = (_, all)
  back_first at.Shards (is_past, joined, all) = (_, all)
  back_first at.Sets (is_past, joined, all) = ([], all ∙ sym (append-nil back))
  back_first at.Frees (is_past, none, all) = ([], all ∙ sym (append-nil back))
  back_first at.Over point = absurd point

-- the tables alone, if none gives back what it carries
table_in : (table : ℕ → ℕ) (x t tables : ℕ) → 0 < times x (tables_in table (λ u. []) false t tables) → (u : ℕ) × (t ≤ u) × (u < t + tables) × (x ≡ table u)
table_in table x t zero some = absurd (omega (arith, some))
table_in table x t (suc tables) some = by (some_of_first x (table t) (tables_in table (λ u. []) false (suc t) tables) some) (table_in table x (suc t) tables)
  where
    by : (x ≡ table t) ⊎ (0 < times x (tables_in table (λ u. []) false (suc t) tables))
        → (0 < times x (tables_in table (λ u. []) false (suc t) tables) → (u : ℕ) × (suc t ≤ u) × (u < suc t + tables) × (x ≡ table u))
        → (u : ℕ) × (t ≤ u) × (u < t + suc tables) × (x ≡ table u)
    by (inl e) k = (t, omega arith, omega arith, e)
    by (inr later) k = let a = k later in let b = a.1 in let d = a.2 in (a.0, omega (arith, b), omega (arith, d), a.3)

module _ {K V : Type 0} (same : K → K → Bool) (hash : K → ℕ) (are : AreLawful same hash) (setting : Setting) (c : Chart K) (blocks : Blocks) (w : World (Node K V))
    (order : HasOrder setting c blocks (λ t. []) same hash w) where
  abbrev all : List ℕ
  all = back_of setting c blocks (λ t. []) false

  -- none stands there twice
  pub once : (x : ℕ) → times x all ≤ 1
  once x = let a = all_once same hash are setting c blocks (λ t. []) false w order x in omega (arith, a)

  -- of the map
  abbrev pub IsOneOf : ℕ → Type 0
  IsOneOf x = ((n : ℕ) × (c.current n ≡ true) × (x ≡ blocks.pair n)) ⊎ (((t : ℕ) × (c.first ≤ t) × (t < c.past) × (x ≡ blocks.table t)) ⊎ (x ≡ setting.counter))

  abbrev pairs : List ℕ
  pairs = pairs_of (is_incremental setting.mode) c

  abbrev tables : List ℕ
  tables = tables_in blocks.table (λ t. []) false c.first (c.past - c.first)

  counter_of : (x : ℕ) → (x ≡ setting.counter) ⊎ (0 < times x []) → IsOneOf x
  counter_of x (inl e) = inr (inr e)
  counter_of x (inr none) = absurd (omega (arith, none))

  table_of : (x : ℕ) → 0 < times x (tables ++ setting.counter ∷ []) → IsOneOf x
  table_of x some = elim (some_of_two x tables (setting.counter ∷ []) some) as (λ _. IsOneOf x) [
    | inl q ↦ (let o = table_in blocks.table x c.first (c.past - c.first) q in let a = o.1 in let b = o.2 in inr (inl (o.0, a, omega (arith, a, b), o.3)))
    | inr q ↦ counter_of x (some_of_first x setting.counter [] q)
  ]

  pub one_of : (x : ℕ) → 0 < times x all → IsOneOf x
  one_of x some = elim (some_of_two x (map blocks.pair pairs) (tables ++ setting.counter ∷ []) some) as (λ _. IsOneOf x) [
    | inl p ↦ (let o = of_map blocks.pair x pairs p in inl (o.0, (pairs_current same hash are (is_incremental setting.mode) c order.map.map.rule o.0 o.2).0, o.1))
    | inr p ↦ table_of x p
  ]
