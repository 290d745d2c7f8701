-- What a copier knows of the tables that it works at, whether the root is still the one that it copies or has left it: as much as tells which words it
-- writes, and which claims it sees.
use Rattle.std.proofs.Common.{◌≡◌, ℕ, suc, ◌^◌, ◌<◌, Bool, arith}
use Rattle.seize_model.specs.Given.SeizeWordsDeclared.at.At.TheVariants.{Word}
use Rattle.seize_model.specs.Given.SeizeWorld.{World}
use Rattle.map_facts_late.specs.Given.TablesDeclared.node.Node.{Node}
use Rattle.map_facts_late.specs.Given.TablesDeclared.setting.Setting.{Setting}
use Rattle.map_facts_late.specs.Given.TablesDeclared.table.Table.{Table}
use Rattle.map_facts_late.specs.Given.TablesDeclared.table_words.TheConstants.{NEXT}
use Rattle.map_facts_late.specs.Given.ResizeDeclared.copier.Copier.{Copier}
use Rattle.map_facts_late.specs.Given.ResizeDeclared.copier.Copying.{Copying as Point}
use Rattle.map_facts_late.specs.Given.ResizeDeclared.copier.Copying.TheVariants as at
use Rattle.map_facts_late.specs.Given.RuleChart.{Chart}
use Rattle.map_facts_late.specs.Given.RuleInWorld.{IsMapIn}
use Rattle.map_facts_late.specs.Given.RuleMaps.{IsTable, spot_at}
use Rattle.map_facts_late.specs.Given.RuleWords.{Blocks}
use Rattle.map_facts_late.proofs.Given.RuleKeys.TriesSeen.{spot_inside}
use Rattle.map_facts_late.specs.Given.PointsFactsTables.{NewTableFacts}
use Rattle.map_facts_late.specs.Given.PointsFactsCopiesBlocking.{CopyingFactsBlocking}
use Rattle.map_facts_late.specs.Given.PointsTold.{IsRowOfCopier}
use Rattle.map_facts_late.specs.LateCopies.{SupersededCopying}

module _ {K V : Type 0} (w : World (Node K V)) (caller : ℕ) (setting : Setting) (c : Chart K) (blocks : Blocks) where
  -- its points in blocking mode, but for the rows of the collector
  abbrev pub CopierKnows : Copier → Point → Type 0
  CopierKnows p at.Sees = (u : ℕ) × (t : ℕ) × IsTable c blocks p.source u × IsTable c blocks p.target t
  CopierKnows p at.Claims = (t : ℕ) × IsTable c blocks p.target t
  CopierKnows p at.Marks = p.place < 2 ^ 48
  CopierKnows p (at.Puts word code table probe) = probe.i < 2 ^ 48
  CopierKnows p (at.Remakes making) = (t : ℕ) × NewTableFacts w caller setting c blocks (Word (blocks.table t) NEXT) (suc t) making
  CopierKnows p at.Begins = ⊥
  CopierKnows p at.Follows = ⊥
  CopierKnows p (at.Covers word) = ⊥
  CopierKnows p (at.Passes word code table) = ⊥
  CopierKnows p (at.Grows word code making) = ⊥
  CopierKnows p (at.Tallies word fault) = ⊥
  CopierKnows p (at.Unmarks word fault) = ⊥
  CopierKnows p (at.Unclaims fault) = ⊥
  CopierKnows p (at.Retires settle rest) = ⊥
  CopierKnows p _ = Unit {0}

module _ {K V : Type 0} (same : K → K → Bool) (hash : K → ℕ) (w : World (Node K V)) (caller : ℕ) (setting : Setting) (c : Chart K) (blocks : Blocks) (map : IsMapIn same hash setting w c blocks)
    (p : Copier) where
  -- a place of a table
  place_few : (table : Table) (t place : ℕ) → IsTable c blocks table t → place < c.len t → place < 2 ^ 48
  place_few table t place entered inside = let most = (map.map.shows.sized t entered.made).most in omega (arith, most, inside)

  -- a try at it
  try_few : (table : Table) (t code j place : ℕ) → IsTable c blocks table t → place ≡ spot_at (c.len t) code j → place < 2 ^ 48
  try_few table t code j place entered is =
      place_few table t place entered (let inside = spot_inside (c.len t) code j (map.map.rule.common.lens t entered.made).0 in omega (arith, is, inside))

  -- it copies the root
  pub fresh_knows : (stands : Point) → CopyingFactsBlocking same hash w caller setting c blocks p stands → (IsRowOfCopier stands → ⊥) → CopierKnows w caller setting c blocks p stands
  fresh_knows at.Sees (t, rests) row = (c.first, t, rests.0.0, rests.0.2)
  fresh_knows at.Claims (t, rests, small) row = (t, rests.0.2)
  fresh_knows at.Marks (t, into, done, range, inside, most) row = place_few p.source c.first p.place into.0 (omega (arith, inside, most))
  fresh_knows (at.Puts word code table probe) (t, n, k, j, works, code_is, table_is, trial, taken) row = try_few table t code j probe.i trial.table trial.place
  fresh_knows (at.Remakes making) (t, rests, aborted, new) row = (t, new)
  fresh_knows (at.Retires settle rest) facts row = absurd (row tt)
  fresh_knows at.Begins facts row = absurd facts
  fresh_knows at.Follows facts row = absurd facts
  fresh_knows (at.Covers word) facts row = absurd facts
  fresh_knows (at.Passes word code table) facts row = absurd facts
  fresh_knows (at.Grows word code making) facts row = absurd facts
  fresh_knows (at.Tallies word fault) facts row = absurd facts
  fresh_knows (at.Unmarks word fault) facts row = absurd facts
  fresh_knows (at.Unclaims fault) facts row = absurd facts
  fresh_knows _ facts row = tt

  -- the root has left what it copies
  pub late_knows : (began : ℕ) (stands : Point) → SupersededCopying same hash w caller setting c blocks began p stands → (IsRowOfCopier stands → ⊥) → CopierKnows w caller setting c blocks p stands
  late_knows began at.Sees (u, t, copies) row = (u, t, copies.source, copies.target)
  late_knows began at.Claims (u, t, copies) row = (t, copies.target)
  late_knows began at.Marks (u, t, aborted, inside) row = place_few p.source u p.place aborted.0.source (omega (arith, inside.0, inside.1))
  late_knows began (at.Puts word code table probe) (u, t, n, k, j, works, code_is, table_is, trial) row = try_few table t code j probe.i trial.table trial.place
  late_knows began (at.Remakes making) (u, t, aborted, new) row = (t, new)
  late_knows began (at.Retires settle rest) facts row = absurd (row tt)
  late_knows began at.Begins facts row = absurd facts
  late_knows began at.Follows facts row = absurd facts
  late_knows began (at.Covers word) facts row = absurd facts
  late_knows began (at.Passes word code table) facts row = absurd facts
  late_knows began (at.Grows word code making) facts row = absurd facts
  late_knows began (at.Tallies word fault) facts row = absurd facts
  late_knows began (at.Unmarks word fault) facts row = absurd facts
  late_knows began (at.Unclaims fault) facts row = absurd facts
  late_knows began _ facts row = tt
