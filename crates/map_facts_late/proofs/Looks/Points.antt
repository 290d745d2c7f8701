-- The step of a lookup in a table that the root has left: it may be taken, changes nothing, and ends with what was so.
use Rattle.std.proofs.Common.{◌≡◌, ℕ, ◌^◌, ◌<◌, Bool, false, Option}
use Rattle.map_facts.specs.Given.SeizeWordsMem.{Mem, value_at, Can, Took}
use Rattle.map_facts.specs.Given.SeizeWordsPlan.{May, Steps}
use Rattle.map_facts.specs.Given.SeizeDeclared.advance.Advance.{Advance}
use Rattle.map_facts.specs.Given.TablesChunks.{is_incremental}
use Rattle.map_facts.specs.Given.TablesDeclared.node.Node.{Node}
use Rattle.map_facts.specs.Given.TablesDeclared.resize_mode.ResizeMode.{ResizeMode}
use Rattle.map_facts.specs.Given.ResizeLookup.{plan_at, lookup_plan}
use Rattle.map_facts.specs.Given.ResizeDeclared.lookup.Lookup.{Lookup}
use Rattle.map_facts.specs.Given.ResizeDeclared.lookup.Looking.{Looking}
use Rattle.map_facts.specs.Given.ResizeDeclared.lookup.Looking.TheVariants as at
use Rattle.map_facts.specs.Given.RuleChart.{Chart}
use Rattle.map_facts.specs.Given.RuleRule.{IsLawful}
use Rattle.map_facts.specs.Given.RuleWords.{Blocks}
use Rattle.map_facts.specs.Given.RuleMaps.{spot_at, spot_of, IsClass, IsMap}
use Rattle.map_facts.specs.Given.RuleMoments.{Moments}
use Rattle.map_facts.proofs.Lookups.Reads.{sees_place, may_probes}
use Rattle.map_facts_late.specs.LateLooks.{SupersededLooking, SupersededLookupFacts}
use Rattle.map_facts_late.specs.LateTold.{SupersededLookupOutcome}
use Rattle.map_facts_late.specs.LateSteps.{SupersededLookupsAnswer}
use Rattle.map_facts_late.proofs.Looks.Probes.{went_probes}

module _ {K V : Type 0} (same : K → K → Bool) (hash : K → ℕ) (lawful : IsLawful same (spot_of hash)) (fits : (k : K) → hash k < 2 ^ 64) (mode : ResizeMode) (alone : is_incremental mode ≡ false)
    (root : ℕ) (keys : K → Bool) (code : ℕ) (class : IsClass same hash keys code) (m : Mem (Node K V)) (c : Chart K) (blocks : Blocks) (map : IsMap same hash mode root m c blocks)
    (moments : Moments false c) (began : ℕ) (l : Lookup) (facts : SupersededLookupFacts same hash keys code c blocks began mode root l) where
  may_at : (stands : Looking) → SupersededLooking same hash keys code c blocks began stands → May Can Took value_at m (plan_at {K = K} {V = V} keys l stands)
  may_at at.Roots point = absurd point
  may_at (at.Probes trial) (t, j, tries, before, left) =
      may_probes hash keys code m c blocks l facts.hash_is trial t (c.place t (spot_at (c.len t) code j)) (sees_place same hash fits mode root keys code class m c blocks map trial t j tries)
  may_at (at.Nexts table) point = absurd point
  may_at (at.Over found) point = absurd point

  went_at : (stands : Looking) → SupersededLooking same hash keys code c blocks began stands → (m2 : Mem (Node K V)) (end : Lookup × Advance (Option ℕ))
      → Steps Took value_at m (plan_at {K = K} {V = V} keys l stands) m2 end → (m2 ≡ m) × SupersededLookupOutcome same hash mode root keys code c blocks began end
  went_at at.Roots point m2 end s = absurd point
  went_at (at.Probes trial) (t, j, tries, before, left) m2 end s =
      went_probes same hash lawful fits mode alone root keys code class m c blocks map moments began l facts trial t j tries before left m2 end s
  went_at (at.Nexts table) point m2 end s = absurd point
  went_at (at.Over found) point m2 end s = absurd point

  pub may_lookup : May Can Took value_at m (lookup_plan {K = K} {V = V} keys l)
  may_lookup = may_at l.stands facts.point

  pub went_lookup : (m2 : Mem (Node K V)) (end : Lookup × Advance (Option ℕ)) → Steps Took value_at m (lookup_plan {K = K} {V = V} keys l) m2 end
      → (m2 ≡ m) × SupersededLookupOutcome same hash mode root keys code c blocks began end
  went_lookup m2 end s = went_at l.stands facts.point m2 end s

module _ {K : Type 0} (V : Type 0) (same : K → K → Bool) (hash : K → ℕ) where
  pub late_lookups_tell : SupersededLookupsAnswer V same hash
  late_lookups_tell are mode alone root keys code began m c blocks l class map moments facts = (
    may_lookup same hash are.lawful are.fits mode alone root keys code class m c blocks map moments began l facts,
    λ m2 end s. went_lookup same hash are.lawful are.fits mode alone root keys code class m c blocks map moments began l facts m2 end s,
  )
