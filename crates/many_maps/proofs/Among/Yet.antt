-- What is yet to be reclaimed of a map that ends: its tables from one on, and its counter last.
use Rattle.std.specs.Prelude.{◌-◌, map}
use Rattle.std.proofs.Common.{◌≡◌, ℕ, suc, ◌<◌, ◌≤◌, Bool, List, [], ◌∷◌, ◌++◌, ◌⊎◌, inl, inr, refl, arith, ap, sym, ◌∙◌}
use Rattle.std.proofs.lemmas.List.{append-nil, append_assoc}
use Rattle.many_calls.specs.Given.SeizeWorld.{World, times}
use Rattle.many_calls.specs.Given.TablesChunks.{is_incremental}
use Rattle.many_calls.specs.Given.TablesDeclared.node.Node.{Node}
use Rattle.many_calls.specs.Given.TablesDeclared.setting.Setting.{Setting}
use Rattle.many_calls.specs.Given.RawDeclared.machines.end_map.EndMap.{EndMap}
use Rattle.many_calls.specs.Given.RawDeclared.machines.end_map.Ending.{Ending}
use Rattle.many_calls.specs.Given.RawDeclared.machines.end_map.Ending.TheVariants as at
use Rattle.many_calls.specs.Given.RuleChart.{Chart}
use Rattle.many_calls.specs.Given.RuleWords.{Blocks}
use Rattle.many_maps.specs.Orders.{pairs_from, pairs_behind, pairs_of}
use Rattle.many_maps.specs.FactsEnds.{EndingFacts, EndFacts, back_of, from_table}
use Rattle.many_maps.proofs.Ends.CountedBlocks.{later_apart, some_last, some_here}
use Rattle.many_maps.proofs.Ends.OrdersOn.{counter_later, table_later}

module _ {K V : Type 0} (hash : K → ℕ) (setting : Setting) (c : Chart K) (blocks : Blocks) (lists : ℕ → List ℕ) (owns : Bool) (caller : ℕ) (w : World (Node K V)) (e : EndMap) (past : ℕ) (back : List ℕ) where
  -- these are yet to be reclaimed, the tables that are not left over among them, and the counter, if anything is
  pub record IsYet : Type 0 where
    pub rest : List ℕ
    pub is : back_of setting c blocks lists owns ≡ back ++ rest
    pub tables : (t : ℕ) → c.first ≤ t → past ≤ t → t < c.past → 0 < times (blocks.table t) rest
    pub counter : (0 < times setting.counter rest) ⊎ (rest ≡ [])

  -- from the tables on, behind some blocks
  behind : (before : List ℕ) (u : ℕ) → c.first ≤ u → u ≤ past → back_of setting c blocks lists owns ≡ back ++ (before ++ from_table setting c blocks lists owns u) → IsYet
  behind before u from upto all = record {
    rest = before ++ from_table setting c blocks lists owns u;
    is = all;
    tables = λ t start later made. some_last (blocks.table t) before (from_table setting c blocks lists owns u) (table_later setting c blocks lists owns t u (omega (arith, upto, later)) made);
    counter = inl (some_last setting.counter before (from_table setting c blocks lists owns u) (counter_later setting c blocks lists owns u));
  }

  -- behind a table that is left over
  after : (t : ℕ) → c.first ≤ t → past ≡ suc t → back_of setting c blocks lists owns ≡ back ++ blocks.table t ∷ from_table setting c blocks lists owns (suc t) → IsYet
  after t from is all = behind (blocks.table t ∷ []) (suc t) (omega (arith, from)) (omega (arith, is)) all

  yet_at : (stage : Ending) → EndingFacts setting c blocks lists owns caller hash w e past back stage → IsYet
  yet_at at.Reads (is, none, place, first) =
      behind (map blocks.pair (pairs_of (is_incremental setting.mode) c)) c.first (omega arith) (omega (arith, is)) (ap (λ (l : List ℕ). l ++ back_of setting c blocks lists owns) (sym none))
  yet_at at.Words (t, here, inside, all) =
      behind (map blocks.pair (pairs_from (is_incremental setting.mode) c t e.place (c.len t - e.place) ++ pairs_behind (is_incremental setting.mode) c t)) c.first (omega arith) (let n = here.none_left in omega (arith, n)) all
  yet_at (at.Takes pair) (t, n, here, inside, link, current, was, all) =
      behind (blocks.pair n ∷ map blocks.pair (pairs_from (is_incremental setting.mode) c t (suc e.place) (c.len t - suc e.place) ++ pairs_behind (is_incremental setting.mode) c t)) c.first (omega arith)
      (let n = here.none_left in omega (arith, n)) all
  yet_at at.Nexts (t, here, all) = behind (map blocks.pair (pairs_behind (is_incremental setting.mode) c t)) c.first (omega arith) (let n = here.none_left in omega (arith, n)) all
  yet_at at.Carries (here, joined, all) = behind [] past here.from (omega arith) all
  yet_at (at.Joins pair) (t, here, is, j) = after t here.from is j.all
  yet_at (at.Follows pair) (t, here, is, inl (q, rest, link, g)) =
      behind ((q ∷ rest) ++ blocks.table t ∷ []) (suc t) (let f = here.from in omega (arith, f)) (omega (arith, is)) (g.all ∙ ap (λ (l : List ℕ). back ++ l) (sym (append_assoc (q ∷ rest) (blocks.table t ∷ []) (from_table setting c blocks lists owns (suc t)))))
  yet_at (at.Follows pair) (t, here, is, inr j) = after t here.from is j.all
  yet_at (at.Gives pair next) (t, here, is, q, rest, link, g, there) =
      behind ((q ∷ rest) ++ blocks.table t ∷ []) (suc t) (let f = here.from in omega (arith, f)) (omega (arith, is)) (g.all ∙ ap (λ (l : List ℕ). back ++ l) (sym (append_assoc (q ∷ rest) (blocks.table t ∷ []) (from_table setting c blocks lists owns (suc t)))))
  yet_at at.Afters (t, here, is, joined, all) = after t here.from is (all ∙ ap (λ (u : ℕ). back ++ blocks.table t ∷ from_table setting c blocks lists owns u) is)
  yet_at (at.Drops next) (t, here, is, link, joined, all) = after t here.from is (all ∙ ap (λ (u : ℕ). back ++ blocks.table t ∷ from_table setting c blocks lists owns u) is)
  yet_at at.Shards (is, joined, all) = record {
    rest = setting.counter ∷ [];
    is = all;
    tables = λ t from later made. absurd (omega (arith, is, later, made));
    counter = inl (some_here setting.counter []);
  }
  yet_at at.Sets (is, joined, all) = none_left is all
    where
      none_left : past ≡ c.past → back_of setting c blocks lists owns ≡ back → IsYet
      none_left is all = record { rest = []; is = all ∙ sym (append-nil back); tables = λ t from later made. absurd (omega (arith, is, later, made)); counter = inr refl }
  yet_at at.Frees (is, none, all) = record { rest = []; is = all ∙ sym (append-nil back); tables = λ t from later made. absurd (omega (arith, is, later, made)); counter = inr refl }
  yet_at at.Over h = absurd h

  module _ (w0 : World (Node K V)) (f : EndFacts setting c blocks lists owns caller hash w0 w e past back) (once : (x : ℕ) → times x (back_of setting c blocks lists owns) ≤ 1) where
    -- a table that is not left over was not reclaimed
    pub later_fresh : (t : ℕ) → c.first ≤ t → past ≤ t → t < c.past → times (blocks.table t) back ≡ 0
    later_fresh t from later made = let y = yet_at e.stands f.point in later_apart (blocks.table t) (back_of setting c blocks lists owns) back y.rest once y.is (y.tables t from later made)

    -- nor was the counter, or all was
    pub counter_or_all : (times setting.counter back ≡ 0) ⊎ (back_of setting c blocks lists owns ≡ back)
    counter_or_all =
        let y = yet_at e.stands f.point in
        elim y.counter as (λ _. (times setting.counter back ≡ 0) ⊎ (back_of setting c blocks lists owns ≡ back)) [
          | inl some ↦ inl (later_apart setting.counter (back_of setting c blocks lists owns) back y.rest once y.is some)
          | inr none ↦ inr (y.is ∙ ap (λ (l : List ℕ). back ++ l) none ∙ append-nil back)
        ]
