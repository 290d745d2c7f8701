-- What a reservation's copier knows of its tables, in either mode.
use Rattle.std.proofs.Common.{◌≡◌, ℕ, suc, ◌<◌, Bool, true, false, cond, refl, sym, subst}
use Rattle.many_maps.specs.Given.SeizeWorld.{World}
use Rattle.many_maps.specs.Given.TablesChunks.{is_incremental}
use Rattle.many_maps.specs.Given.TablesDeclared.node.Node.{Node}
use Rattle.many_maps.specs.Given.TablesDeclared.setting.Setting.{Setting}
use Rattle.many_maps.specs.Given.TablesDeclared.table_words.TheConstants.{NEXT}
use Rattle.many_maps.specs.Given.ResizeDeclared.copier.Copier.{Copier}
use Rattle.many_maps.specs.Given.ResizeDeclared.copier.Copying.{Copying}
use Rattle.many_maps.specs.Given.ResizeDeclared.copier.Copying.TheVariants as copies
use Rattle.many_maps.specs.Given.RuleChart.{Chart}
use Rattle.many_maps.specs.Given.RuleWords.{Blocks}
use Rattle.many_maps.specs.Given.PointsFactsCopies.{CopyingFacts, CopierFacts}
use Rattle.many_maps.specs.Given.PointsFactsCopiesBlocking.{CopyingFactsBlocking, CopierFactsBlocking}
use Rattle.many_maps.specs.Given.LateFactsReserves.{IsEnding, CopiesWhole}
use Rattle.owner_facts.proofs.Maps.Reserves.LeftOn.{KnowsTables}

module _ {K V : Type 0} (same : K → K → Bool) (hash : K → ℕ) (w : World (Node K V)) (caller : ℕ) (setting : Setting) (c : Chart K) (blocks : Blocks) (p : Copier) where
  -- what a copier of a whole table knows of its tables: in incremental mode
  knows_incremental : is_incremental setting.mode ≡ true → p.whole ≡ true → (stands : Copying) → CopyingFacts same hash w caller setting c blocks p stands → KnowsTables setting c blocks p stands
  knows_incremental bits whole copies.Begins f = absurd (let part = f.4 in cc (whole, part))
  knows_incremental bits whole copies.Follows f = absurd (let part = f.3 in cc (whole, part))
  knows_incremental bits whole copies.Asks f = (tt, λ m t. t)
  knows_incremental bits whole copies.Sees f = (tt, λ m t. t)
  knows_incremental bits whole copies.Claims f = (tt, λ m t. t)
  knows_incremental bits whole copies.Marks f = (tt, λ m t. t)
  knows_incremental bits whole (copies.Probes word code table probe) f = (tt, λ m t. t)
  knows_incremental bits whole (copies.Puts word code table probe) f = (tt, λ m t. t)
  knows_incremental bits whole (copies.Covers word) f = (tt, λ m t. t)
  knows_incremental bits whole (copies.Passes word code table) f = (tt, λ m t. t)
  knows_incremental bits whole (copies.Grows word code making) f = ((blocks.table f.2, NEXT, f.9.link_is), λ m t. t)
  knows_incremental bits whole copies.Aborts f = absurd f
  knows_incremental bits whole copies.Replaces f = absurd f
  knows_incremental bits whole (copies.Remakes making) f = absurd f
  knows_incremental bits whole copies.Counts f = (tt, λ m t. t)
  knows_incremental bits whole (copies.Tallies word fault) f = (tt, λ m t. t)
  knows_incremental bits whole (copies.Unmarks word fault) f = (tt, λ m t. t)
  knows_incremental bits whole (copies.Unclaims fault) f = (tt, λ m t. t)
  knows_incremental bits whole copies.Promotes f = (f.0, suc f.0, f.1.0, f.1.1, subst (λ (b : Bool). cond b (suc f.0 ≡ suc f.0) (c.first < suc f.0)) (sym bits) refl)
  knows_incremental bits whole copies.Announces f = (f.0.0, f.0.2)
  knows_incremental bits whole (copies.Succeeds table) f = (tt, λ m t. t)
  knows_incremental bits whole (copies.Retires settle rest) f = (tt, λ m t. t)
  knows_incremental bits whole copies.Over f = (tt, λ m t. t)
  knows_incremental bits whole (copies.Refused fault) f = (tt, λ m t. t)

  -- and in blocking mode
  knows_blocking : is_incremental setting.mode ≡ false → (stands : Copying) → CopyingFactsBlocking same hash w caller setting c blocks p stands → KnowsTables setting c blocks p stands
  knows_blocking once copies.Begins f = absurd f
  knows_blocking once copies.Follows f = absurd f
  knows_blocking once copies.Asks f = (tt, λ m t. t)
  knows_blocking once copies.Sees f = (tt, λ m t. t)
  knows_blocking once copies.Claims f = (tt, λ m t. t)
  knows_blocking once copies.Marks f = (tt, λ m t. t)
  knows_blocking once (copies.Probes word code table probe) f = (tt, λ m t. t)
  knows_blocking once (copies.Puts word code table probe) f = (tt, λ m t. t)
  knows_blocking once (copies.Covers word) f = absurd f
  knows_blocking once (copies.Passes word code table) f = absurd f
  knows_blocking once (copies.Grows word code making) f = absurd f
  knows_blocking once copies.Aborts f = (tt, λ m t. t)
  knows_blocking once copies.Replaces f = (tt, λ m t. absurd (cc (m, once)))
  knows_blocking once (copies.Remakes making) f = ((blocks.table f.0, NEXT, f.3.link_is), λ m t. absurd (cc (m, once)))
  knows_blocking once copies.Counts f = (tt, λ m t. t)
  knows_blocking once (copies.Tallies word fault) f = absurd f
  knows_blocking once (copies.Unmarks word fault) f = absurd f
  knows_blocking once (copies.Unclaims fault) f = absurd f
  knows_blocking once copies.Promotes f = (c.first, f.0, f.1.0.0, f.1.0.2, subst (λ (b : Bool). cond b (f.0 ≡ suc c.first) (c.first < f.0)) (sym once) f.1.0.1)
  knows_blocking once copies.Announces f = (f.0, f.1)
  knows_blocking once (copies.Succeeds table) f = (tt, λ m t. t)
  knows_blocking once (copies.Retires settle rest) f = (tt, λ m t. t)
  knows_blocking once copies.Over f = (tt, λ m t. t)
  knows_blocking once (copies.Refused fault) f = (tt, λ m t. t)

  pub knows_tables : CopiesWhole same hash w caller setting c blocks p → KnowsTables setting c blocks p p.stands
  knows_tables whole = by (is_incremental setting.mode) refl whole
    where
      by : (b : Bool) → is_incremental setting.mode ≡ b
          → cond b ((p.whole ≡ true) × CopierFacts same hash w caller setting c blocks p × IsEnding same hash w caller setting c blocks p p.stands)
          (CopierFactsBlocking same hash w caller setting c blocks p)
          → KnowsTables setting c blocks p p.stands
      by true bits f = knows_incremental bits f.0 p.stands f.1.point
      by false once f = knows_blocking once p.stands f.point

  pub copier_setting : CopiesWhole same hash w caller setting c blocks p → p.setting ≡ setting
  copier_setting whole = by (is_incremental setting.mode) whole
    where
      by : (b : Bool)
          → cond b ((p.whole ≡ true) × CopierFacts same hash w caller setting c blocks p × IsEnding same hash w caller setting c blocks p p.stands)
          (CopierFactsBlocking same hash w caller setting c blocks p)
          → p.setting ≡ setting
      by true f = f.1.setting_is
      by false f = f.setting_is
