-- Which tables the end of a map has left over by now: those that are reclaimed, and those that it has; the others are in use.
use Rattle.std.specs.Prelude.{◌≡◌, ◌<◌, ◌≤◌, ◌-◌, ℕ, zero, suc, Bool, false, List, [], ◌∷◌, ◌++◌, map}
use Rattle.std.proofs.Common.{refl, ap, ◌∙◌, arith, inl, inr}
use Rattle.seize.specs.World.{World, InUse, LeftTo, times}
use Rattle.papaya_raw.specs.Given.TablesChunks.{is_incremental}
use Rattle.papaya_raw.specs.Given.TablesDeclared.node.Node.{Node}
use Rattle.papaya_raw.specs.declared.machines.end_map.Ending.{Ending}
use Rattle.papaya_raw.specs.declared.machines.end_map.Ending.TheVariants as at
use Rattle.run_executor.specs.Given.FinishesEndings.{Finishing, FinishingFacts}
use Rattle.run_executor.specs.Given.FinishesFactsEnds.{AtPairs, EndingFacts, HasDeferred, IsAt, IsTableYet, back_of, from_place, from_table}
use Rattle.run_executor.specs.Given.FinishesOrders.{pairs_behind, pairs_from}
use Rattle.run_executor.proofs.Given.FinishesEnds.CountedBlocks.{later_apart, some_last}
use Rattle.run_executor.proofs.Given.FinishesEnds.OrdersOn.{back_same, table_later}
use Rattle.run_executor.proofs.Given.FinishesEnds.OrdersOnce.{HasOrder, plain_order}
use Rattle.run_kept.proofs.Sheds.EndLists.{once}

module _ {K V : Type 0} (same : K → K → Bool) (size : ℕ) (w : World (Node K V)) (i : ℕ) (f : Finishing K V) (k : FinishingFacts same size w i f) where
  abbrev first : ℕ
  first = f.chart.first

  abbrev Point : Ending → Type 0
  Point spot = EndingFacts f.setting f.chart f.blocks k.lists false i f.hash w f.machine k.past f.back spot

  first_made : first ≤ f.chart.past
  first_made = by f.chart.past refl
    where
      by : (p : ℕ) → f.chart.past ≡ p → first ≤ f.chart.past
      by zero e = (let none = k.stood.map.map.rule.common.rootless e in omega (arith, none, e))
      by (suc p) e = (let some = k.stood.map.map.rule.common.rooted (omega (arith, e)) in omega (arith, some))

  abbrev Within : Type 0
  Within = (first ≤ k.past) × (k.past ≤ f.chart.past)

  at_pairs : (t : ℕ) → AtPairs f.setting f.chart f.blocks k.lists false f.machine k.past t → Within
  at_pairs t here = (let is = here.none_left in let made = first_made in (omega (arith, is), omega (arith, is, made)))

  at_next : (t : ℕ) → IsAt f.setting f.chart f.blocks k.lists false f.machine t → k.past ≡ suc t → Within
  at_next t here is = (let from = here.from in let made = here.made in (omega (arith, is, from), omega (arith, is, made)))

  at_end : k.past ≡ f.chart.past → Within
  at_end is = (let made = first_made in (omega (arith, is, made), omega (arith, is)))

  spot_within : (spot : Ending) → Point spot → Within
  spot_within at.Reads point = (let is = point.0 in let made = first_made in (omega (arith, is), omega (arith, is, made)))
  spot_within at.Words (t, here, inside, all) = at_pairs t here
  spot_within (at.Takes pair) (t, n, here, inside, is, current, made, all) = at_pairs t here
  spot_within at.Nexts (t, here, all) = at_pairs t here
  spot_within at.Carries (here, joined, all) = (let from = here.from in let made = here.made in (omega (arith, from), omega (arith, made)))
  spot_within (at.Joins pair) (t, here, is_past, j) = at_next t here is_past
  spot_within (at.Follows pair) (t, here, is_past, j) = at_next t here is_past
  spot_within (at.Gives pair next) (t, here, is_past, q, rest, link, g, list) = at_next t here is_past
  spot_within at.Afters (t, here, is_past, joined, all) = at_next t here is_past
  spot_within (at.Drops next) (t, here, is_past, next_is, joined, all) = at_next t here is_past
  spot_within at.Shards (is_past, joined, all) = at_end is_past
  spot_within at.Sets (is_past, joined, all) = at_end is_past
  spot_within at.Frees (is_past, none, all) = at_end is_past
  spot_within at.Over point = absurd point

  -- so many are left over
  pub past_within : Within
  past_within = spot_within f.machine.stands k.facts.point

  abbrev all : List ℕ
  all = back_of f.setting f.chart f.blocks (λ t. []) false

  order : HasOrder f.setting f.chart f.blocks (λ t. []) same f.hash f.began
  order = plain_order f.setting f.chart f.blocks same f.hash f.began k.stood.map k.stood.counter

  module _ (t : ℕ) (yet : k.past ≤ t) (made : t < f.chart.past) where
    abbrev table : ℕ
    table = f.blocks.table t

    abbrev Fresh : Type 0
    Fresh = times table f.back ≡ 0

    apart : (rest : List ℕ) → back_of f.setting f.chart f.blocks k.lists false ≡ f.back ++ rest → 0 < times table rest → Fresh
    apart rest e some =
        later_apart table all f.back rest (once same f.hash k.lawful f.setting f.chart f.blocks f.began order) (back_same f.setting f.chart f.blocks k.lists (λ u. []) false refl ∙ e) some

    from_it : (u : ℕ) → u ≤ t → 0 < times table (from_table f.setting f.chart f.blocks k.lists false u)
    from_it u le = table_later f.setting f.chart f.blocks k.lists false t u le made

    from_first : 0 < times table (from_table f.setting f.chart f.blocks k.lists false first)
    from_first = from_it first (let within = past_within.0 in omega (arith, within, yet))

    after_pairs : (pairs : List ℕ) → 0 < times table (pairs ++ from_table f.setting f.chart f.blocks k.lists false first)
    after_pairs pairs = some_last table pairs (from_table f.setting f.chart f.blocks k.lists false first) from_first

    after_table : (u : ℕ) → k.past ≡ suc u → 0 < times table (f.blocks.table u ∷ from_table f.setting f.chart f.blocks k.lists false (suc u))
    after_table u is = some_last table (f.blocks.table u ∷ []) (from_table f.setting f.chart f.blocks k.lists false (suc u)) (from_it (suc u) (omega (arith, is, yet)))

    over_yet : k.past ≡ f.chart.past → Fresh
    over_yet is = absurd (omega (arith, is, yet, made))

    spot_fresh : (spot : Ending) → Point spot → Fresh
    spot_fresh at.Reads point = ap (λ (l : List ℕ). times table l) point.1
    spot_fresh at.Words (u, here, inside, all_are) =
        apart (from_place f.setting f.chart f.blocks k.lists false u f.machine.place) all_are
        (after_pairs (map f.blocks.pair (pairs_from (is_incremental f.setting.mode) f.chart u f.machine.place (f.chart.len u - f.machine.place) ++ pairs_behind (is_incremental f.setting.mode) f.chart u)))
    spot_fresh (at.Takes pair) (u, n, here, inside, is, current, stored, all_are) =
        apart (f.blocks.pair n ∷ from_place f.setting f.chart f.blocks k.lists false u (suc f.machine.place)) all_are
        (after_pairs (f.blocks.pair n ∷ map f.blocks.pair (pairs_from (is_incremental f.setting.mode) f.chart u (suc f.machine.place) (f.chart.len u - suc f.machine.place)
        ++ pairs_behind (is_incremental f.setting.mode) f.chart u)))
    spot_fresh at.Nexts (u, here, all_are) =
        apart (map f.blocks.pair (pairs_behind (is_incremental f.setting.mode) f.chart u) ++ from_table f.setting f.chart f.blocks k.lists false first) all_are
        (after_pairs (map f.blocks.pair (pairs_behind (is_incremental f.setting.mode) f.chart u)))
    spot_fresh at.Carries (here, joined, all_are) = apart (from_table f.setting f.chart f.blocks k.lists false k.past) all_are (from_it k.past yet)
    spot_fresh (at.Joins pair) (u, here, is_past, j) = apart (f.blocks.table u ∷ from_table f.setting f.chart f.blocks k.lists false (suc u)) j.all (after_table u is_past)
    spot_fresh (at.Follows pair) (u, here, is_past, inl (q, rest, link, g)) = absurd (cc g.owned)
    spot_fresh (at.Follows pair) (u, here, is_past, inr j) = apart (f.blocks.table u ∷ from_table f.setting f.chart f.blocks k.lists false (suc u)) j.all (after_table u is_past)
    spot_fresh (at.Gives pair next) (u, here, is_past, q, rest, link, g, list) = absurd (cc g.owned)
    spot_fresh at.Afters (u, here, is_past, joined, all_are) =
        apart (f.blocks.table u ∷ from_table f.setting f.chart f.blocks k.lists false k.past) all_are
        (some_last table (f.blocks.table u ∷ []) (from_table f.setting f.chart f.blocks k.lists false k.past) (from_it k.past yet))
    spot_fresh (at.Drops next) (u, here, is_past, next_is, joined, all_are) =
        apart (f.blocks.table u ∷ from_table f.setting f.chart f.blocks k.lists false k.past) all_are
        (some_last table (f.blocks.table u ∷ []) (from_table f.setting f.chart f.blocks k.lists false k.past) (from_it k.past yet))
    spot_fresh at.Shards (is_past, joined, all_are) = over_yet is_past
    spot_fresh at.Sets (is_past, joined, all_are) = over_yet is_past
    spot_fresh at.Frees (is_past, none, all_are) = over_yet is_past
    spot_fresh at.Over point = absurd point

    -- such a table is not reclaimed,
    pub yet_fresh : Fresh
    yet_fresh = spot_fresh f.machine.stands k.facts.point

    its : IsTableYet f.setting f.chart f.blocks k.lists false i f.began w k.past t
    its = k.facts.since.tables t (let within = past_within.0 in omega (arith, within, yet)) made yet_fresh

    -- in use,
    pub yet_used : w.hand table ≡ InUse f.setting.counter
    yet_used = (its.used yet).0

    -- and carries this.
    pub yet_carries : HasDeferred w table (k.lists t)
    yet_carries = its.carries yet

  -- one before those is left over, if it is not reclaimed
  pub left_before : (t : ℕ) → first ≤ t → t < k.past → times (f.blocks.table t) f.back ≡ 0 → w.hand (f.blocks.table t) ≡ LeftTo i
  left_before t from lt fresh = (let within = past_within.1 in ((k.facts.since.tables t from (omega (arith, within, lt)) fresh).left lt).0)
