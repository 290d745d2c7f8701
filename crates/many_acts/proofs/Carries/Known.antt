-- What a copier knows, in either mode, of the tables that it copies, and of those that it has unlinked.
use Rattle.std.specs.Prelude.{◌*◌}
use Rattle.std.proofs.Common.{◌≡◌, ℕ, ◌<◌, ◌≤◌, Bool, true, false, cond, refl, subst}
use Rattle.run_shows.specs.Given.SeizeWorld.{World, Cutting}
use Rattle.run_shows.specs.Given.TablesChunks.{is_incremental}
use Rattle.run_shows.specs.Given.TablesDeclared.node.Node.{Node}
use Rattle.run_shows.specs.Given.TablesDeclared.setting.Setting.{Setting}
use Rattle.run_shows.specs.Given.ResizeDeclared.copier.Copier.{Copier}
use Rattle.run_shows.specs.Given.ResizeDeclared.copier.Copying.{Copying}
use Rattle.run_shows.specs.Given.ResizeDeclared.copier.Copying.TheVariants as copies
use Rattle.run_shows.specs.Given.RuleChart.{Chart}
use Rattle.run_shows.specs.Given.RuleMaps.{IsTable}
use Rattle.run_shows.specs.Given.RuleWords.{Blocks}
use Rattle.owner_facts.specs.Given.PointsFactsCopies.{CopierFacts}
use Rattle.owner_facts.specs.Given.PointsFactsCopiesBlocking.{CopyingFactsBlocking, CopierFactsBlocking}
use Rattle.owner_facts.specs.Given.LateFactsReserves.{CopiesWhole, IsEnding}
use Rattle.owner_facts.specs.Given.LateLateCopies.{SupersededCopying, SupersededCopierFacts}

module _ {K V : Type 0} (same : K → K → Bool) (hash : K → ℕ) (w : World (Node K V)) (caller : ℕ) (setting : Setting) (c : Chart K) (blocks : Blocks) where
  -- the tables from this one on, up to its target, are its own: it has unlinked them
  abbrev pub HasCut : Copier → ℕ → ℕ → Type 0
  HasCut p s t =
      (s < t) × IsTable c blocks p.target t × ((u : ℕ) → s ≤ u → u < t → (blocks.table_known u ≡ true) × (w.hand (blocks.table u) ≡ Cutting caller))

  -- where it makes its target the root, and where it reads which table comes next
  abbrev pub KnowsTables : Copier → Copying → Type 0
  KnowsTables p copies.Promotes = (s : ℕ) × (t : ℕ) × IsTable c blocks p.source s × IsTable c blocks p.target t
  KnowsTables p (copies.Succeeds table) = (s : ℕ) × (t : ℕ) × (table ≡ blocks.table s * 2048) × HasCut p s t
  KnowsTables p _ = Unit {0}

  fresh_knows : (p : Copier) (stands : Copying) → CopyingFactsBlocking same hash w caller setting c blocks p stands → KnowsTables p stands
  fresh_knows p copies.Promotes (t, rests, counted) = (c.first, t, rests.0.0, rests.0.2)
  fresh_knows p (copies.Succeeds table) (s, unlinked, is) = (s, c.first, is, (unlinked.0, unlinked.1, unlinked.3))
  fresh_knows p _ facts = tt

  late_knows : (began : ℕ) (p : Copier) (stands : Copying) → SupersededCopying same hash w caller setting c blocks began p stands → KnowsTables p stands
  late_knows began p copies.Promotes (s, t, copies_late) = (s, t, copies_late.source, copies_late.target)
  late_knows began p (copies.Succeeds table) (s, t, unlinked, is) = (s, t, is, (unlinked.0, unlinked.1, unlinked.4))
  late_knows began p _ facts = tt

  -- it works with the map's setting, and in blocking mode knows so
  abbrev pub CopierKnows : Copier → Type 0
  CopierKnows p = (p.setting ≡ setting) × (is_incremental setting.mode ≡ false → KnowsTables p p.stands)

  pub incremental_knows : (p : Copier) → is_incremental setting.mode ≡ true → p.setting ≡ setting → CopierKnows p
  incremental_knows p bits is = (is, λ blocking. absurd (cc (bits, blocking)))

  pub blocking_knows : (p : Copier) → CopierFactsBlocking same hash w caller setting c blocks p → CopierKnows p
  blocking_knows p facts = (facts.setting_is, λ blocking. fresh_knows p p.stands facts.point)

  pub left_knows : (began : ℕ) (p : Copier) → SupersededCopierFacts same hash w caller setting c blocks began p → CopierKnows p
  left_knows began p facts = (facts.setting_is, λ blocking. late_knows began p p.stands facts.point)

  abbrev Whole : Bool → Copier → Type 0
  Whole b p =
      cond b
      ((p.whole ≡ true) × CopierFacts same hash w caller setting c blocks p × IsEnding same hash w caller setting c blocks p p.stands)
      (CopierFactsBlocking same hash w caller setting c blocks p)

  pub whole_knows : (p : Copier) → CopiesWhole same hash w caller setting c blocks p → CopierKnows p
  whole_knows p facts = by (is_incremental setting.mode) refl
    where
      by : (b : Bool) → is_incremental setting.mode ≡ b → CopierKnows p
      by true bits = let k = subst (λ (b : Bool). Whole b p) bits facts in incremental_knows p bits k.1.setting_is
      by false bits = blocking_knows p (subst (λ (b : Bool). Whole b p) bits facts)
