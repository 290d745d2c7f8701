-- The steps of a lookup: each may be taken, changes nothing, and ends with what is so.
use Rattle.std.proofs.Common.{◌≡◌, ℕ, ◌^◌, ◌<◌, Bool, Option, refl}
use Rattle.map_rule.specs.Given.SeizeWordsMem.{Mem, value_at, Can, Took}
use Rattle.map_rule.specs.Given.SeizeWordsPlan.{May, Steps}
use Rattle.papaya_raw.specs.Given.SeizeDeclared.advance.Advance.{Advance}
use Rattle.map_rule.specs.Given.ResizeLookup.{plan_at, lookup_plan}
use Rattle.papaya_raw.specs.Given.TablesDeclared.node.Node.{Node}
use Rattle.papaya_raw.specs.Given.TablesDeclared.resize_mode.ResizeMode.{ResizeMode}
use Rattle.map_rule.specs.Given.ResizeDeclared.lookup.Lookup.{Lookup}
use Rattle.map_rule.specs.Given.ResizeDeclared.lookup.Looking.{Looking}
use Rattle.map_rule.specs.Given.ResizeDeclared.lookup.Looking.TheVariants as at
use Rattle.map_rule.specs.Chart.{Chart}
use Rattle.map_rule.specs.Rule.{IsLawful}
use Rattle.map_rule.specs.Words.{Blocks}
use Rattle.map_rule.specs.Maps.{spot_at, spot_of, IsClass, IsMap}
use Rattle.map_facts.specs.FactsLooks.{LookupFacts, LookingFacts}
use Rattle.map_facts.specs.Told.{LookupOutcome}
use Rattle.map_facts.specs.MeasuresLooks.{LookupLeads}
use Rattle.map_facts.proofs.Lookups.Reads.{may_probes, sees_place}
use Rattle.map_facts.proofs.Lookups.Probes.{went_probes}
use Rattle.map_facts.proofs.Lookups.Links.{may_roots, went_roots, may_nexts, went_nexts}

module _ {K V : Type 0} (same : K → K → Bool) (hash : K → ℕ) (lawful : IsLawful same (spot_of hash)) (fits : (k : K) → hash k < 2 ^ 64) (mode : ResizeMode) (root : ℕ) (keys : K → Bool) (code : ℕ)
    (class : IsClass same hash keys code) (m : Mem (Node K V)) (c : Chart K) (blocks : Blocks) (map : IsMap same hash mode root m c blocks) where
  abbrev Facts : Lookup → Type 0
  Facts l = LookupFacts same hash mode root keys code c blocks l

  abbrev Told : Lookup × Advance (Option ℕ) → Type 0
  Told end = LookupOutcome same hash mode root keys code c blocks end

  -- Each step of a lookup may be taken,
  may_at : (l : Lookup) → Facts l → (stands : Looking) → LookingFacts same hash mode root keys code c blocks stands → May Can Took value_at m (plan_at {K = K} {V = V} keys l stands)
  may_at l facts at.Roots point = may_roots same hash lawful mode root keys code class m c blocks map l facts
  may_at l facts (at.Probes trial) point = may_probes hash keys code m c blocks l facts.hash_is trial point.0 (c.place point.0 (spot_at (c.len point.0) code point.1)) (sees_place same hash fits mode root keys code class m c blocks map trial point.0 point.1 point.2)
  may_at l facts (at.Nexts table) point = may_nexts same hash lawful mode root keys code class m c blocks map l table point.1 point.2
  may_at l facts (at.Over found) point = tt

  pub may_lookup : (l : Lookup) → LookupFacts same hash mode root keys code c blocks l → May Can Took value_at m (lookup_plan {K = K} {V = V} keys l)
  may_lookup l facts = may_at l facts l.stands facts.point

  -- and leaves the memory as it is.
  went_at : (l : Lookup) → Facts l → (stands : Looking) → LookingFacts same hash mode root keys code c blocks stands → l.stands ≡ stands
      → (m2 : Mem (Node K V)) (end : Lookup × Advance (Option ℕ)) → Steps Took value_at m (plan_at {K = K} {V = V} keys l stands) m2 end → (m2 ≡ m) × Told end × LookupLeads stands end
  went_at l facts at.Roots point e m2 end s =
      let r = went_roots same hash lawful mode root keys code class m c blocks map l facts m2 end s in (r.0, r.1.0, r.1.1)
  went_at l facts (at.Probes trial) point e m2 end s =
      let r = went_probes same hash lawful fits mode root keys code class m c blocks map.rule l facts trial point.0 point.1 point.2 point.3 point.4 (sees_place same hash fits mode root keys code class m c blocks map trial point.0 point.1 point.2) m2 end s in
      (r.0, r.1.0, r.1.1)
  went_at l facts (at.Nexts table) point e m2 end s =
      let r = went_nexts same hash lawful mode root keys code class m c blocks map l table point.1 point.2 facts point.0 point.3 m2 end s in (r.0, r.1.0, r.1.1)
  went_at l facts (at.Over found) point e m2 end s = absurd point

  -- with where it goes on
  pub went_lookup_leads : (l : Lookup) → LookupFacts same hash mode root keys code c blocks l → (m2 : Mem (Node K V)) (end : Lookup × Advance (Option ℕ))
      → Steps Took value_at m (lookup_plan {K = K} {V = V} keys l) m2 end → (m2 ≡ m) × LookupOutcome same hash mode root keys code c blocks end × LookupLeads l.stands end
  went_lookup_leads l facts m2 end s = went_at l facts l.stands facts.point refl m2 end s

  pub went_lookup : (l : Lookup) → LookupFacts same hash mode root keys code c blocks l → (m2 : Mem (Node K V)) (end : Lookup × Advance (Option ℕ))
      → Steps Took value_at m (lookup_plan {K = K} {V = V} keys l) m2 end → (m2 ≡ m) × LookupOutcome same hash mode root keys code c blocks end
  went_lookup l facts m2 end s = let r = went_lookup_leads l facts m2 end s in (r.0, r.1)
