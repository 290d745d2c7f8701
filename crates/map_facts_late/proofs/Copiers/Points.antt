-- Each step of a copier whose source the root has left: it may be taken, and where it leads; but for those of the rows that retire its tables.
use Rattle.std.specs.Int.{IsPowerOfTwo}
use Rattle.std.proofs.Common.{◌≡◌, ℕ, ◌^◌, ◌<◌, Bool, false}
use Rattle.map_facts.specs.Given.SeizeWordsMem.{Mem, Can, Took, value_at}
use Rattle.map_facts.specs.Given.SeizeWordsPlan.{May, Steps}
use Rattle.map_facts.specs.Given.SeizeWorld.{World}
use Rattle.map_facts.specs.Given.TablesChunks.{is_incremental}
use Rattle.map_facts.specs.Given.TablesDeclared.node.Node.{Node}
use Rattle.map_facts.specs.Given.TablesDeclared.setting.Setting.{Setting}
use Rattle.map_facts.specs.Given.TablesDeclared.table.Table.{Table}
use Rattle.map_facts.specs.Given.ResizeCopier.{plan_at, copier_plan}
use Rattle.map_facts.specs.Given.ResizeDeclared.copier.Copier.{Copier}
use Rattle.map_facts.specs.Given.ResizeDeclared.copier.Copying.{Copying as Point}
use Rattle.map_facts.specs.Given.ResizeDeclared.copier.Copying.TheVariants as at
use Rattle.map_facts.specs.Given.ResizeDeclared.yielding.Yielding.{Yielding}
use Rattle.map_facts.specs.Given.RuleChart.{Chart}
use Rattle.map_facts.specs.Given.RuleInWorld.{IsMapIn}
use Rattle.map_facts.specs.Given.RuleMaps.{spot_of}
use Rattle.map_facts.specs.Given.RuleMoments.{Moments}
use Rattle.map_facts.specs.Given.RuleRule.{IsLawful}
use Rattle.map_facts.specs.Given.RuleWords.{Blocks}
use Rattle.map_facts.specs.Told.{IsRowOfCopier}
use Rattle.map_facts.proofs.Blocking.Placing.{may_probe, may_put}
use Rattle.map_facts.proofs.Blocking.Successors.{may_succeed}
use Rattle.map_facts.proofs.Blocking.Targets.{may_ask, may_see, may_claim, may_count, may_abort, may_announce, may_replace}
use Rattle.map_facts_late.specs.Left.{ClaimsAreFew}
use Rattle.map_facts_late.specs.LateCopies.{SupersededCopying, SupersededCopierFacts}
use Rattle.map_facts_late.specs.LateSteps.{SupersededCopiersPreserveTheMap}
use Rattle.map_facts_late.proofs.Copiers.LateWent.{LateCame}
use Rattle.map_facts_late.proofs.Copiers.Reads.{went_ask, went_see, went_over}
use Rattle.map_facts_late.proofs.Copiers.Claims.{went_claim}
use Rattle.map_facts_late.proofs.Copiers.Marks.{may_mark, went_mark}
use Rattle.map_facts_late.proofs.Copiers.Tries.{went_probe, went_put}
use Rattle.map_facts_late.proofs.Copiers.Counts.{went_count, went_abort}
use Rattle.map_facts_late.proofs.Copiers.Replaces.{went_replace}
use Rattle.map_facts_late.proofs.Copiers.Remakes.{may_remake, went_remake}
use Rattle.map_facts_late.proofs.Copiers.Ends.{may_promote, went_promote, went_announce, went_succeed}

module _ {K V : Type 0} (same : K → K → Bool) (hash : K → ℕ) (fits : (k : K) → hash k < 2 ^ 64) (lawful : IsLawful same (spot_of hash)) (caller : ℕ)
    (setting : Setting)
    (blocking : is_incremental setting.mode ≡ false) (initial : IsPowerOfTwo setting.initial) (began : ℕ) (w : World (Node K V)) (c : Chart K) (blocks : Blocks)
    (map : IsMapIn same hash setting w c blocks) (moments : Moments false c) (few : ClaimsAreFew c) (p : Copier)
    (facts : SupersededCopierFacts same hash w caller setting c blocks began p) where
  may_at : (stands : Point) → SupersededCopying same hash w caller setting c blocks began p stands → (IsRowOfCopier stands → ⊥)
      → May Can Took value_at w.memory (plan_at hash p stands)
  may_at at.Begins point none = absurd point
  may_at at.Follows point none = absurd point
  may_at at.Asks point none = may_ask same hash setting w c blocks map p point.1 point.2.target
  may_at at.Sees point none = may_see same hash setting w c blocks map p point.1 point.2.target
  may_at at.Claims point none = may_claim same hash setting w c blocks map p point.1 point.2.target
  may_at at.Marks point none = may_mark same hash fits caller setting began w c blocks map blocking p facts.setting_is point.0 point.1 point.2 point.3
  may_at (at.Probes word code table probe) (u, t, n, k, j, works, code_is, table_is, trial) none =
      may_probe same hash setting w c blocks map code table probe t k j code_is trial p word
  may_at (at.Puts word code table probe) (u, t, n, k, j, works, code_is, table_is, trial) none =
      may_put same hash setting w c blocks map code table probe t k j code_is trial p word
  may_at (at.Covers word) point none = absurd point
  may_at (at.Passes word code table) point none = absurd point
  may_at (at.Grows word code making) point none = absurd point
  may_at at.Aborts point none = may_abort same hash setting w c blocks map p point.1 point.2.0.target
  may_at at.Replaces point none = may_replace same hash setting w c blocks map p point.1 point.2.0.target
  may_at (at.Remakes making) point none =
      may_remake same hash caller setting began w c blocks map moments p facts.setting_is point.0 point.1 point.2 making point.3 initial
  may_at at.Counts point none = may_count same hash setting w c blocks map p point.1 point.2.0.target
  may_at (at.Tallies word fault) point none = absurd point
  may_at (at.Unmarks word fault) point none = absurd point
  may_at (at.Unclaims fault) point none = absurd point
  may_at at.Promotes point none = may_promote same hash caller setting began w c blocks map p facts.setting_is point.0 point.1 point.2
  may_at at.Announces point none = may_announce same hash setting w c blocks map p point.1 point.3.1
  may_at (at.Succeeds table) point none =
      may_succeed same hash caller setting w c blocks map p facts.setting_is point.0 point.1 point.2.0 point.2.1 point.2.4 table point.3
  may_at (at.Retires settle rest) point none = absurd (none tt)
  may_at at.Over point none = tt
  may_at (at.Refused fault) point none = absurd point

  went_at : (stands : Point) → SupersededCopying same hash w caller setting c blocks began p stands → (IsRowOfCopier stands → ⊥) → (m2 : Mem (Node K V))
      (end : Copier × Yielding (Node K V) Table) → Steps Took value_at w.memory (plan_at hash p stands) m2 end
      → LateCame same hash caller setting began w c blocks m2 end
  went_at at.Begins point none m2 end s = absurd point
  went_at at.Follows point none m2 end s = absurd point
  went_at at.Asks point none m2 end s = went_ask same hash caller setting began w c blocks map moments p facts point.0 point.1 point.2 m2 end s
  went_at at.Sees point none m2 end s = went_see same hash caller setting began w c blocks map moments p facts point.0 point.1 point.2 m2 end s
  went_at at.Claims point none m2 end s =
      went_claim same hash caller setting began w c blocks map lawful blocking moments few p facts.setting_is point.0 point.1 point.2 m2 end s
  went_at at.Marks point none m2 end s =
      went_mark same hash fits caller setting began w c blocks map blocking p facts.setting_is point.0 point.1 point.2 point.3 m2 end s
  went_at (at.Probes word code table probe) (u, t, n, k, j, works, code_is, table_is, trial) none m2 end s =
      went_probe same hash caller setting began w c blocks map lawful blocking p facts.setting_is word code table probe u t n k j works code_is table_is trial
      m2 end s
  went_at (at.Puts word code table probe) (u, t, n, k, j, works, code_is, table_is, trial) none m2 end s =
      went_put same hash caller setting began w c blocks map lawful blocking p facts.setting_is word code table probe u t n k j works code_is table_is trial m2
      end s
  went_at (at.Covers word) point none m2 end s = absurd point
  went_at (at.Passes word code table) point none m2 end s = absurd point
  went_at (at.Grows word code making) point none m2 end s = absurd point
  went_at at.Aborts point none m2 end s = went_abort same hash caller setting began w c blocks map p facts.setting_is point.0 point.1 point.2 m2 end s
  went_at at.Replaces point none m2 end s =
      went_replace same hash caller setting began w c blocks map moments p facts.setting_is point.0 point.1 point.2 m2 end s
  went_at (at.Remakes making) point none m2 end s =
      went_remake same hash caller setting began w c blocks map moments p facts.setting_is point.0 point.1 point.2 making point.3 initial lawful m2 end s
  went_at at.Counts point none m2 end s =
      went_count same hash caller setting began w c blocks map p facts.setting_is point.0 point.1 point.2 lawful blocking m2 end s
  went_at (at.Tallies word fault) point none m2 end s = absurd point
  went_at (at.Unmarks word fault) point none m2 end s = absurd point
  went_at (at.Unclaims fault) point none m2 end s = absurd point
  went_at at.Promotes point none m2 end s = went_promote same hash caller setting began w c blocks map p facts.setting_is point.0 point.1 point.2 m2 end s
  went_at at.Announces point none m2 end s =
      went_announce same hash caller setting began w c blocks map p facts.setting_is point.0 point.1 point.3 lawful blocking point.2 m2 end s
  went_at (at.Succeeds table) point none m2 end s =
      went_succeed same hash caller setting began w c blocks map p facts.setting_is point.0 point.1 point.2 table point.3 m2 end s
  went_at (at.Retires settle rest) point none m2 end s = absurd (none tt)
  went_at at.Over point none m2 end s = went_over same hash caller setting began w c blocks map moments p facts point.0 point.1 point.2 point.3 m2 end s
  went_at (at.Refused fault) point none m2 end s = absurd point

  pub may_late_copier : (IsRowOfCopier p.stands → ⊥) → May Can Took value_at w.memory (copier_plan hash p)
  may_late_copier none = may_at p.stands facts.point none

  -- where a step leads
  pub went_late_copier : (IsRowOfCopier p.stands → ⊥) → (m2 : Mem (Node K V)) (end : Copier × Yielding (Node K V) Table)
      → Steps Took value_at w.memory (copier_plan hash p) m2 end
      → LateCame same hash caller setting began w c blocks m2 end
  went_late_copier none m2 end s = went_at p.stands facts.point none m2 end s

-- the promise
pub late_copiers_keep_the_map : {K V : Type 0} (same : K → K → Bool) (hash : K → ℕ) → SupersededCopiersPreserveTheMap V same hash
late_copiers_keep_the_map same hash lawful setting initial blocking w caller c blocks began p map moments few facts none = (
  may_late_copier same hash lawful.fits lawful.lawful caller setting blocking initial began w c blocks map moments few p facts none,
  went_late_copier same hash lawful.fits lawful.lawful caller setting blocking initial began w c blocks map moments few p facts none,
)
