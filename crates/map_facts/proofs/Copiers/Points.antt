-- In incremental mode, each step of a copier that is no row of the collector: it may be taken, and where it leads.
use Rattle.std.specs.Prelude.{◌≡◌, ℕ, ◌^◌, ◌<◌, Bool, true}
use Rattle.std.specs.Int.{IsPowerOfTwo}
use Rattle.std.proofs.Common.{refl}
use Rattle.map_rule.specs.Given.SeizeWordsMem.{Mem, value_at, Can, Took}
use Rattle.map_rule.specs.Given.SeizeWordsPlan.{May, Steps}
use Rattle.papaya_raw.specs.Given.SeizeWorld.{World}
use Rattle.papaya_raw.specs.Given.TablesChunks.{is_incremental}
use Rattle.map_rule.specs.Given.ResizeCopier.{plan_at, copier_plan}
use Rattle.papaya_raw.specs.Given.TablesDeclared.node.Node.{Node}
use Rattle.map_rule.specs.Given.ResizeDeclared.yielding.Yielding.{Yielding}
use Rattle.papaya_raw.specs.Given.TablesDeclared.setting.Setting.{Setting}
use Rattle.papaya_raw.specs.Given.TablesDeclared.table.Table.{Table}
use Rattle.map_rule.specs.Given.ResizeDeclared.copier.Copier.{Copier}
use Rattle.map_rule.specs.Given.ResizeDeclared.copier.Copying.{Copying as Point}
use Rattle.map_rule.specs.Given.ResizeDeclared.copier.Copying.TheVariants as at
use Rattle.map_rule.specs.Chart.{Chart}
use Rattle.map_rule.specs.Rule.{IsLawful}
use Rattle.map_rule.specs.Words.{Blocks}
use Rattle.map_rule.specs.Maps.{spot_of}
use Rattle.map_rule.specs.InWorld.{IsMapIn}
use Rattle.map_facts.specs.FactsCopies.{CopyingFacts, CopierFacts}
use Rattle.map_facts.specs.Told.{IsRowOfCopier}
use Rattle.map_facts.specs.ToldMoves.{MovedAt}
use Rattle.map_facts.proofs.Copiers.CopiersWrote.{CopierWent, CopierMoved, copier_went}
use Rattle.map_facts.proofs.Copiers.Finds.{may_begins, went_begins, may_follows, went_follows}
use Rattle.map_facts.proofs.Copiers.Claims.{may_asks, went_asks, may_sees, went_sees, may_claims, went_claims}
use Rattle.map_facts.proofs.Copiers.Marks.{may_marks, went_marks}
use Rattle.map_facts.proofs.Copiers.Probes.{may_probes, went_probes}
use Rattle.map_facts.proofs.Copiers.Puts.{may_puts, went_puts}
use Rattle.map_facts.proofs.Copiers.Covers.{may_covers, went_covers}
use Rattle.map_facts.proofs.Copiers.Passes.{may_passes, went_passes}
use Rattle.map_facts.proofs.Copiers.Grows.{may_grows, went_grows}
use Rattle.map_facts.proofs.Copiers.Counts.{may_counts, went_counts, may_tallies, went_tallies}
use Rattle.map_facts.proofs.Copiers.Unmarks.{may_unmarks, went_unmarks}
use Rattle.map_facts.proofs.Copiers.Unclaims.{may_unclaims, went_unclaims}
use Rattle.map_facts.proofs.Copiers.Promotes.{may_promotes, went_promotes}
use Rattle.map_facts.proofs.Copiers.Announces.{may_announces, went_announces, may_succeeds, went_succeeds, went_over, went_refused}

module _ {K V : Type 0} (same : K → K → Bool) (hash : K → ℕ) (setting : Setting) (bits : is_incremental setting.mode ≡ true) (initial_is : IsPowerOfTwo setting.initial)
    (lawful : IsLawful same (spot_of hash)) (fits : (k : K) → hash k < 2 ^ 64)
    (w : World (Node K V)) (caller : ℕ) (c : Chart K) (blocks : Blocks) (map : IsMapIn same hash setting w c blocks) where
  module _ (p : Copier) (is : p.setting ≡ setting) where
    may_at : (stands : Point) → CopyingFacts same hash w caller setting c blocks p stands → (IsRowOfCopier stands → ⊥) → May Can Took value_at w.memory (plan_at hash p stands)
    may_at at.Begins f none = may_begins same hash caller setting w c blocks map p is f
    may_at at.Follows f none = may_follows same hash caller setting w c blocks map p is f
    may_at at.Asks f none = may_asks same hash caller setting w c blocks map p is bits f
    may_at at.Sees f none = may_sees same hash caller setting w c blocks map p is f
    may_at at.Claims f none = may_claims same hash caller setting w c blocks map p is f
    may_at at.Marks f none = may_marks same hash caller setting w c blocks map fits p is f
    may_at (at.Probes word code table probe) f none = may_probes same hash setting w caller c blocks map p word code table probe f
    may_at (at.Puts word code table probe) f none = may_puts same hash setting w caller c blocks map p word code table probe f
    may_at (at.Covers word) f none = may_covers same hash caller setting w c blocks map p is word f
    may_at (at.Passes word code table) f none = may_passes same hash setting w caller c blocks map p word code table f
    may_at (at.Grows word code making) f none = may_grows same hash setting w caller c blocks map p word code making f initial_is
    may_at at.Aborts f none = absurd f
    may_at at.Replaces f none = absurd f
    may_at (at.Remakes making) f none = absurd f
    may_at at.Counts f none = may_counts same hash caller setting w c blocks map p is f
    may_at (at.Tallies word fault) f none = may_tallies same hash caller setting w c blocks map p is word fault f
    may_at (at.Unmarks word fault) f none = may_unmarks same hash caller setting w c blocks map p is word fault f
    may_at (at.Unclaims fault) f none = may_unclaims same hash caller setting w c blocks map p is fault f
    may_at at.Promotes f none = may_promotes same hash setting w caller c blocks map p is f
    may_at at.Announces f none = may_announces same hash setting w caller c blocks map p f
    may_at (at.Succeeds table) f none = may_succeeds same hash setting w caller c blocks map p table f
    may_at (at.Retires settle rest) f none = absurd (none tt)
    may_at at.Over f none = tt
    may_at (at.Refused fault) f none = tt

    module _ (m2 : Mem (Node K V)) (end : Copier × Yielding (Node K V) Table) where
      went_at : (stands : Point) → p.stands ≡ stands → CopyingFacts same hash w caller setting c blocks p stands → (IsRowOfCopier stands → ⊥)
          → Steps Took value_at w.memory (plan_at hash p stands) m2 end → CopierMoved same hash caller setting w c blocks (MovedAt hash caller c p stands end) m2 end
      went_at at.Begins here f none s = went_begins same hash caller setting w c blocks map p is f m2 end s
      went_at at.Follows here f none s = went_follows same hash caller setting w c blocks map p is f m2 end s
      went_at at.Asks here f none s = went_asks same hash caller setting w c blocks map p is bits f here m2 end s
      went_at at.Sees here f none s = went_sees same hash caller setting w c blocks map p is f m2 end s
      went_at at.Claims here f none s = went_claims same hash caller setting w c blocks map p is f lawful bits m2 end s
      went_at at.Marks here f none s = went_marks same hash caller setting w c blocks map fits p is f lawful bits here m2 end s
      went_at (at.Probes word code table probe) here f none s = went_probes same hash setting w caller c blocks map p word code table probe f is bits m2 end s
      went_at (at.Puts word code table probe) here f none s = went_puts same hash setting w caller c blocks map p word code table probe f is bits lawful m2 end s
      went_at (at.Covers word) here f none s = went_covers same hash caller setting w c blocks map p is word f lawful bits m2 end s
      went_at (at.Passes word code table) here f none s = went_passes same hash setting w caller c blocks map p word code table f bits initial_is is m2 end s
      went_at (at.Grows word code making) here f none s = went_grows same hash setting w caller c blocks map p word code making f initial_is lawful is m2 end s
      went_at at.Aborts here f none s = absurd f
      went_at at.Replaces here f none s = absurd f
      went_at (at.Remakes making) here f none s = absurd f
      went_at at.Counts here f none s = went_counts same hash caller setting w c blocks map p is f lawful bits m2 end s
      went_at (at.Tallies word fault) here f none s = went_tallies same hash caller setting w c blocks map p is word fault f lawful bits m2 end s
      went_at (at.Unmarks word fault) here f none s = went_unmarks same hash caller setting w c blocks map p is word fault f lawful bits m2 end s
      went_at (at.Unclaims fault) here f none s = went_unclaims same hash caller setting w c blocks map p is fault f lawful bits m2 end s
      went_at at.Promotes here f none s = went_promotes same hash setting w caller c blocks map p is lawful bits f m2 end s
      went_at at.Announces here f none s = went_announces same hash setting w caller c blocks map p f lawful bits is m2 end s
      went_at (at.Succeeds table) here f none s = went_succeeds same hash setting w caller c blocks map p table f is m2 end s
      went_at (at.Retires settle rest) here f none s = absurd (none tt)
      went_at at.Over here f none s = went_over same hash setting w caller c blocks map p f m2 end s
      went_at (at.Refused fault) here f none s = went_refused same hash setting w caller c blocks map p fault f m2 end s

  pub may_copier : (p : Copier) → CopierFacts same hash w caller setting c blocks p → (IsRowOfCopier p.stands → ⊥) → May Can Took value_at w.memory (copier_plan hash p)
  may_copier p f none = may_at p f.setting_is p.stands f.point none

  pub went_copier_moved : (p : Copier) → CopierFacts same hash w caller setting c blocks p → (IsRowOfCopier p.stands → ⊥)
      → (m2 : Mem (Node K V)) (end : Copier × Yielding (Node K V) Table) → Steps Took value_at w.memory (copier_plan hash p) m2 end
      → CopierMoved same hash caller setting w c blocks (MovedAt hash caller c p p.stands end) m2 end
  went_copier_moved p f none m2 end s = went_at p f.setting_is m2 end p.stands refl f.point none s

  pub went_copier : (p : Copier) → CopierFacts same hash w caller setting c blocks p → (IsRowOfCopier p.stands → ⊥)
      → (m2 : Mem (Node K V)) (end : Copier × Yielding (Node K V) Table) → Steps Took value_at w.memory (copier_plan hash p) m2 end
      → CopierWent same hash caller setting w c blocks m2 end
  went_copier p f none m2 end s =
      copier_went same hash caller setting w c blocks (MovedAt hash caller c p p.stands end) m2 end (went_copier_moved p f none m2 end s)
