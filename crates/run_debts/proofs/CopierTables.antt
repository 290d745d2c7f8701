-- What a copier knows of the tables that it unlinks: where it makes its target the root, and where it reads which table comes next.
use Rattle.std.specs.Prelude.{◌*◌}
use Rattle.std.proofs.Common.{◌≡◌, ℕ, suc, ◌<◌, ◌≤◌, Bool, true, false, cond, arith, ap, subst, ◌∙◌}
use Rattle.run_places.specs.Given.SeizeWorld.{World, Cutting}
use Rattle.run_places.specs.Given.TablesChunks.{is_incremental}
use Rattle.run_places.specs.Given.TablesDeclared.node.Node.{Node}
use Rattle.run_places.specs.Given.TablesDeclared.setting.Setting.{Setting}
use Rattle.run_places.specs.Given.TablesDeclared.table.Table.{Table}
use Rattle.run_places.specs.Given.ResizeDeclared.copier.Copier.{Copier}
use Rattle.run_places.specs.Given.ResizeDeclared.copier.Copying.{Copying}
use Rattle.run_places.specs.Given.ResizeDeclared.copier.Copying.TheVariants as copies
use Rattle.run_places.specs.Given.RuleChart.{Chart}
use Rattle.run_places.specs.Given.RuleMaps.{IsTable}
use Rattle.run_places.specs.Given.RuleWords.{Blocks}
use Rattle.owner_facts.specs.Given.PointsFactsCopies.{CopyingFacts, CopierFacts}
use Rattle.owner_facts.specs.Given.PointsFactsCopiesBlocking.{CopyingFactsBlocking, CopierFactsBlocking}
use Rattle.owner_facts.specs.Given.LateFactsReserves.{CopiesWhole, IsEnding}
use Rattle.owner_facts.specs.Given.LateLateCopies.{SupersededCopying, SupersededCopierFacts}

module _ {K V : Type 0} (same : K → K → Bool) (hash : K → ℕ) (w : World (Node K V)) (caller : ℕ) (setting : Setting) (c : Chart K) (blocks : Blocks) where
  -- its source is a table, and its target one behind that
  abbrev pub HasEnds : Copier → Type 0
  HasEnds p = (x : ℕ) × (y : ℕ) × (x < y) × IsTable c blocks p.source x × IsTable c blocks p.target y

  -- a word names a table, and the tables from that one on, up to its target, are its own: it has unlinked them
  abbrev pub HasCutFrom : Copier → ℕ → Type 0
  HasCutFrom p table =
      (x : ℕ) × (y : ℕ) × (x < y) × (table ≡ blocks.table x * 2048) × IsTable c blocks p.target y
      × ((u : ℕ) → x ≤ u → u < y → (blocks.table_known u ≡ true) × (w.hand (blocks.table u) ≡ Cutting caller))

  -- what it knows of them where it stands
  abbrev pub SeesTables : Copier → Copying → Type 0
  SeesTables p copies.Promotes = HasEnds p
  SeesTables p (copies.Succeeds table) = HasCutFrom p table
  SeesTables p _ = Unit {0}

  -- of one table
  cut_one : (s u : ℕ) → s ≤ u → u < suc s → blocks.table_known s ≡ true → w.hand (blocks.table s) ≡ Cutting caller → (blocks.table_known u ≡ true) × (w.hand (blocks.table u) ≡ Cutting caller)
  cut_one s u from before known cut =
      let one : s ≡ u = omega (arith, from, before) in
      subst (λ (x : ℕ). (blocks.table_known x ≡ true) × (w.hand (blocks.table x) ≡ Cutting caller)) one (known, cut)

  fresh_tables : (p : Copier) (stands : Copying) → CopyingFacts same hash w caller setting c blocks p stands → SeesTables p stands
  fresh_tables p copies.Promotes facts = (facts.0, suc facts.0, omega arith, facts.1.0, facts.1.1)
  fresh_tables p (copies.Succeeds table) ((s, before, source, target, cut), done, none, is) =
      (s, suc s, omega arith, is ∙ ap (λ (x : Table). x.link) source.is, target, λ u from low. cut_one s u from low source.known cut)
  fresh_tables p _ facts = tt

  blocking_tables : (p : Copier) (stands : Copying) → CopyingFactsBlocking same hash w caller setting c blocks p stands → SeesTables p stands
  blocking_tables p copies.Promotes (t, rests, counted) = (c.first, t, rests.0.1, rests.0.0, rests.0.2)
  blocking_tables p (copies.Succeeds table) (s, unlinked, is) = (s, c.first, unlinked.0, is, unlinked.1, unlinked.3)
  blocking_tables p _ facts = tt

  late_tables : (began : ℕ) (p : Copier) (stands : Copying) → SupersededCopying same hash w caller setting c blocks began p stands → SeesTables p stands
  late_tables began p copies.Promotes (s, t, copies_late) = (s, t, copies_late.order, copies_late.source, copies_late.target)
  late_tables began p (copies.Succeeds table) (s, t, unlinked, is) = (s, t, unlinked.0, is, unlinked.1, unlinked.4)
  late_tables began p _ facts = tt

  -- it works with the map's setting, and knows so
  abbrev pub KnowsTables : Copier → Type 0
  KnowsTables p = (p.setting ≡ setting) × SeesTables p p.stands

  pub fresh_knows : (p : Copier) → CopierFacts same hash w caller setting c blocks p → KnowsTables p
  fresh_knows p facts = (facts.setting_is, fresh_tables p p.stands facts.point)

  pub blocking_knows : (p : Copier) → CopierFactsBlocking same hash w caller setting c blocks p → KnowsTables p
  blocking_knows p facts = (facts.setting_is, blocking_tables p p.stands facts.point)

  pub late_knows : (began : ℕ) (p : Copier) → SupersededCopierFacts same hash w caller setting c blocks began p → KnowsTables p
  late_knows began p facts = (facts.setting_is, late_tables began p p.stands facts.point)

  abbrev Whole : Bool → Copier → Type 0
  Whole b p =
      cond b
      ((p.whole ≡ true) × CopierFacts same hash w caller setting c blocks p × IsEnding same hash w caller setting c blocks p p.stands)
      (CopierFactsBlocking same hash w caller setting c blocks p)

  pub whole_knows : (p : Copier) → CopiesWhole same hash w caller setting c blocks p → KnowsTables p
  whole_knows p facts = by (is_incremental setting.mode) facts
    where
      by : (b : Bool) → Whole b p → KnowsTables p
      by true k = fresh_knows p k.1
      by false k = blocking_knows p k
