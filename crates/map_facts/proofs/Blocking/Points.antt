-- Each step of a copier, where all pairs are copied at once: it may be taken, and where it leads; but for those of the rows that retire its tables.
use Rattle.std.specs.Int.{IsPowerOfTwo}
use Rattle.std.proofs.Common.{◌≡◌, ℕ, ◌^◌, ◌<◌, Bool, false}
use Rattle.map_rule.specs.Given.SeizeWordsMem.{Mem, Can, Took, value_at}
use Rattle.map_rule.specs.Given.SeizeWordsPlan.{May, Steps}
use Rattle.papaya_raw.specs.Given.SeizeWorld.{World}
use Rattle.papaya_raw.specs.Given.TablesChunks.{is_incremental}
use Rattle.map_rule.specs.Given.ResizeCopier.{plan_at, copier_plan}
use Rattle.papaya_raw.specs.Given.TablesDeclared.node.Node.{Node}
use Rattle.map_rule.specs.Given.ResizeDeclared.yielding.Yielding.{Yielding}
use Rattle.papaya_raw.specs.Given.TablesDeclared.setting.Setting.{Setting}
use Rattle.papaya_raw.specs.Given.TablesDeclared.table.Table.{Table}
use Rattle.map_rule.specs.Given.ResizeDeclared.copier.Copier.{Copier}
use Rattle.map_rule.specs.Given.ResizeDeclared.copier.Copying.{Copying as Point}
use Rattle.map_rule.specs.Given.ResizeDeclared.copier.Copying.TheVariants as at
use Rattle.map_rule.specs.Chart.{Chart}
use Rattle.map_rule.specs.Rule.{IsLawful}
use Rattle.map_rule.specs.Words.{Blocks}
use Rattle.map_rule.specs.Maps.{spot_of}
use Rattle.map_rule.specs.InWorld.{IsMapIn}
use Rattle.map_facts.specs.FactsCopiesBlocking.{CopyingFactsBlocking, CopierFactsBlocking}
use Rattle.map_facts.specs.Told.{IsRowOfCopier}
use Rattle.map_facts.specs.FactsAloneBlocking.{AloneBlocking}
use Rattle.map_facts.proofs.Copiers.CopierWent.{CopierSays, CopierTells, CopierWent, CopierCame}
use Rattle.map_rule.proofs.World.WentTold.{went_as}
use Rattle.map_facts.proofs.Blocking.Reads.{went_ask, went_see}
use Rattle.map_facts.proofs.Blocking.Claims.{went_claim}
use Rattle.map_facts.proofs.Blocking.Marks.{may_mark, went_mark}
use Rattle.map_facts.proofs.Blocking.Tries.{went_probe, went_put}
use Rattle.map_facts.proofs.Blocking.Placing.{may_probe, may_put}
use Rattle.map_facts.proofs.Blocking.Counts.{went_count, went_abort}
use Rattle.map_facts.proofs.Blocking.Replaces.{went_replace}
use Rattle.map_facts.proofs.Blocking.Remakes.{may_remake, went_remake}
use Rattle.map_facts.proofs.Blocking.Promotes.{may_promote, went_promote}
use Rattle.map_facts.proofs.Blocking.Ends.{went_announce, went_succeed, went_over, went_refused}
use Rattle.map_facts.proofs.Blocking.Successors.{may_succeed}
use Rattle.map_facts.proofs.Blocking.Targets.{may_ask, may_see, may_claim, may_count, may_abort, may_announce, may_replace}

module _ {K V : Type 0} (same : K → K → Bool) (hash : K → ℕ) (fits : (k : K) → hash k < 2 ^ 64) (lawful : IsLawful same (spot_of hash)) (caller : ℕ) (setting : Setting)
    (blocking : is_incremental setting.mode ≡ false) (initial : IsPowerOfTwo setting.initial) (w : World (Node K V)) (c : Chart K) (blocks : Blocks)
    (map : IsMapIn same hash setting w c blocks) (p : Copier) (facts : CopierFactsBlocking same hash w caller setting c blocks p) where
  may_at : (stands : Point) → CopyingFactsBlocking same hash w caller setting c blocks p stands → (IsRowOfCopier stands → ⊥) → May Can Took value_at w.memory (plan_at hash p stands)
  may_at at.Begins point none = absurd point
  may_at at.Follows point none = absurd point
  may_at at.Asks point none = may_ask same hash setting w c blocks map p point.0 point.1.0.2
  may_at at.Sees point none = may_see same hash setting w c blocks map p point.0 point.1.0.2
  may_at at.Claims point none = may_claim same hash setting w c blocks map p point.0 point.1.0.2
  may_at at.Marks point none = may_mark same hash fits caller setting w c blocks map lawful blocking p facts.setting_is point.0 point.1 point.2 point.3 (point.4, point.5)
  may_at (at.Probes word code table probe) (t, n, k, j, works, code_is, table_is, trial, taken) none =
      may_probe same hash setting w c blocks map code table probe t k j code_is trial p word
  may_at (at.Puts word code table probe) (t, n, k, j, works, code_is, table_is, trial, taken) none =
      may_put same hash setting w c blocks map code table probe t k j code_is trial p word
  may_at (at.Covers word) point none = absurd point
  may_at (at.Passes word code table) point none = absurd point
  may_at (at.Grows word code making) point none = absurd point
  may_at at.Aborts point none = may_abort same hash setting w c blocks map p point.0 point.1.0.0.2
  may_at at.Replaces point none = may_replace same hash setting w c blocks map p point.0 point.1.0.2
  may_at (at.Remakes making) point none = may_remake same hash caller setting w c blocks map p facts.setting_is point.0 point.1 point.2 making point.3 initial
  may_at at.Counts point none = may_count same hash setting w c blocks map p point.0 point.1.2
  may_at (at.Tallies word fault) point none = absurd point
  may_at (at.Unmarks word fault) point none = absurd point
  may_at (at.Unclaims fault) point none = absurd point
  may_at at.Promotes point none = may_promote same hash caller setting w c blocks map lawful blocking p facts.setting_is point.0 point.1 point.2
  may_at at.Announces point none = may_announce same hash setting w c blocks map p c.first point.2.1
  may_at (at.Succeeds table) point none = may_succeed same hash caller setting w c blocks map p facts.setting_is point.0 c.first point.1.0 point.1.1 point.1.3 table point.2
  may_at (at.Retires settle rest) point none = absurd (none tt)
  may_at at.Over point none = tt
  may_at (at.Refused fault) point none = tt

  went_at : (stands : Point) → CopyingFactsBlocking same hash w caller setting c blocks p stands → (IsRowOfCopier stands → ⊥) → (m2 : Mem (Node K V))
      (end : Copier × Yielding (Node K V) Table) → Steps Took value_at w.memory (plan_at hash p stands) m2 end
      → CopierCame same hash caller setting w c blocks (AloneBlocking c p stands) m2 end
  went_at at.Begins point none m2 end s = absurd point
  went_at at.Follows point none m2 end s = absurd point
  went_at at.Asks point none m2 end s = went_ask same hash caller setting w c blocks map p facts point.0 point.1 blocking m2 end s
  went_at at.Sees point none m2 end s = went_see same hash caller setting w c blocks map p facts point.0 point.1 m2 end s
  went_at at.Claims point none m2 end s = went_claim same hash caller setting w c blocks map lawful blocking p facts.setting_is point.0 point.1 point.2 m2 end s
  went_at at.Marks point none m2 end s =
      went_mark same hash fits caller setting w c blocks map lawful blocking p facts.setting_is point.0 point.1 point.2 point.3 (point.4, point.5) m2 end s
  went_at (at.Probes word code table probe) (t, n, k, j, works, code_is, table_is, trial, taken) none m2 end s =
      went_probe same hash caller setting w c blocks map lawful blocking p facts.setting_is word code table probe t n k j works code_is table_is trial taken m2 end s
  went_at (at.Puts word code table probe) (t, n, k, j, works, code_is, table_is, trial, taken) none m2 end s =
      went_put same hash caller setting w c blocks map lawful blocking p facts.setting_is word code table probe t n k j works code_is table_is trial taken m2 end s
  went_at (at.Covers word) point none m2 end s = absurd point
  went_at (at.Passes word code table) point none m2 end s = absurd point
  went_at (at.Grows word code making) point none m2 end s = absurd point
  went_at at.Aborts point none m2 end s = went_abort same hash caller setting w c blocks map lawful blocking p facts.setting_is point.0 point.1 m2 end s
  went_at at.Replaces point none m2 end s = went_replace same hash caller setting w c blocks map blocking initial p facts.setting_is point.0 point.1 point.2 m2 end s
  went_at (at.Remakes making) point none m2 end s =
      went_remake same hash caller setting w c blocks map p facts.setting_is point.0 point.1 point.2 making point.3 initial lawful blocking m2 end s
  went_at at.Counts point none m2 end s = went_count same hash caller setting w c blocks map lawful blocking p facts.setting_is point.0 point.1 point.2 point.3 point.4 m2 end s
  went_at (at.Tallies word fault) point none m2 end s = absurd point
  went_at (at.Unmarks word fault) point none m2 end s = absurd point
  went_at (at.Unclaims fault) point none m2 end s = absurd point
  went_at at.Promotes point none m2 end s = went_promote same hash caller setting w c blocks map lawful blocking p facts.setting_is point.0 point.1 point.2 m2 end s
  went_at at.Announces point none m2 end s = went_announce same hash caller setting w c blocks map p facts.setting_is point.0 point.2 lawful blocking point.1 m2 end s
  went_at (at.Succeeds table) point none m2 end s = went_succeed same hash caller setting w c blocks map p facts.setting_is point.0 point.1 table point.2 m2 end s
  went_at (at.Retires settle rest) point none m2 end s = absurd (none tt)
  went_at at.Over point none m2 end s = went_over same hash caller setting w c blocks map p facts.setting_is point.0 point.1 m2 end s
  went_at (at.Refused fault) point none m2 end s = went_refused same hash caller setting w c blocks map p facts.setting_is fault point m2 end s

  pub may_copier_blocking : (IsRowOfCopier p.stands → ⊥) → May Can Took value_at w.memory (copier_plan hash p)
  may_copier_blocking none = may_at p.stands facts.point none

  -- beside where it leads: where it is alone, it does not wait
  pub went_copier_blocking_alone : (IsRowOfCopier p.stands → ⊥) → (m2 : Mem (Node K V)) (end : Copier × Yielding (Node K V) Table)
      → Steps Took value_at w.memory (copier_plan hash p) m2 end → CopierCame same hash caller setting w c blocks (AloneBlocking c p p.stands) m2 end
  went_copier_blocking_alone none m2 end s = went_at p.stands facts.point none m2 end s

  pub went_copier_blocking : (IsRowOfCopier p.stands → ⊥) → (m2 : Mem (Node K V)) (end : Copier × Yielding (Node K V) Table)
      → Steps Took value_at w.memory (copier_plan hash p) m2 end → CopierWent same hash caller setting w c blocks m2 end
  went_copier_blocking none m2 end s =
      went_as same hash setting caller w c blocks m2 (CopierTells same hash caller setting w c blocks (AloneBlocking c p p.stands) end) (CopierSays same hash caller setting w c blocks end)
      (λ w2 c2 blocks2 map2 moved same_blocks told. told.0) (went_copier_blocking_alone none m2 end s)
