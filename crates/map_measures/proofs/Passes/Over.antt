-- What a sweep that is at a place of its table knows of it, and its numbers once that place is behind it.
use Rattle.std.proofs.Common.{◌≡◌, ℕ, suc, ◌-◌, ◌^◌, ◌<◌, ◌≤◌, Bool, true, List, ◌∷◌, ap, arith}
use Rattle.seize.specs.World.{World}
use Rattle.map_tables.specs.declared.node.Node.{Node}
use Rattle.map_tables.specs.declared.setting.Setting.{Setting}
use Rattle.map_tables.specs.declared.table.Table.{Table}
use Rattle.map_sweeps.specs.Sweeps.SweepPoints.{further}
use Rattle.map_sweeps.specs.declared.sweep.Sweep.{Sweep}
use Rattle.many_calls.specs.Given.RuleChart.{Chart}
use Rattle.many_calls.specs.Given.RuleWords.{Blocks}
use Rattle.many_calls.specs.Given.RuleInWorld.{IsMapIn}
use Rattle.many_calls.specs.Given.PointsMeasures.{IsBelow}
use Rattle.map_measures.specs.Falls.Room.{tables_to_come}
use Rattle.many_calls.specs.Given.LateFactsSweeps.{GoesOver}
use Rattle.map_measures.specs.Passes.Sweeps.{number_of_sweep}
use Rattle.map_measures.proofs.Passes.Places.{further_below}

module _ {K V : Type 0} (same : K → K → Bool) (hash : K → ℕ) (setting : Setting) (w : World (Node K V)) (caller : ℕ) (c : Chart K) (blocks : Blocks) (began : ℕ)
    (map : IsMapIn same hash setting w c blocks)
    (p : Sweep) (t : ℕ) (over : GoesOver same hash w caller setting c blocks began p t) (inside : p.place < c.len t) where
  pub turn_is : p.table.turn ≡ t
  turn_is = ap (λ (x : Table). x.turn) over.table.is

  len_is : p.table.len ≡ c.len t
  len_is = ap (λ (x : Table). x.len) over.table.is

  pub made : p.table.turn < c.past
  made = let is = turn_is in let l = over.table.made in omega (arith, is, l)

  pub within : p.place < p.table.len
  within = let is = len_is in omega (arith, is, inside)

  pub few : p.table.len ≤ 2 ^ 48
  few = let is = len_is in let most = (map.map.shows.sized t over.table.made).most in omega (arith, is, most)

  -- where it has met a mark, a table is behind its own
  pub has_marks : p.met ≡ true → suc p.table.turn < c.past
  has_marks met = let l = over.marks met in let is = turn_is in omega (arith, l, is)

  -- its place is behind it, and no table was linked
  pub further_on : (c2 : Chart K) (blocks2 : Blocks) → c2.past ≡ c.past → (xs : List ℕ)
      → IsBelow (number_of_sweep hash c2 blocks2 (further p)) (tables_to_come c.past 0 ∷ (c.past - p.table.turn) ∷ 2 ∷ (p.table.len - p.place) ∷ xs)
  further_on c2 blocks2 past xs = further_below hash c blocks c2 blocks2 past p made within few p.met has_marks xs
