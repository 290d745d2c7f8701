-- What is promised of the number of loads that a lookup makes.
use Rattle.std.specs.Prelude.{◌≡◌, ℕ, suc, Bool, List, Option}
use Rattle.map_rule.specs.Given.SeizeWordsMem.{Mem, Took, value_at}
use Rattle.map_rule.specs.Given.SeizeWordsPlan.{Steps}
use Rattle.papaya_raw.specs.Given.SeizeDeclared.advance.Advance.{Advance}
use Rattle.papaya_raw.specs.Given.SeizeDeclared.advance.Advance.TheVariants.{Goes}
use Rattle.papaya_raw.specs.Given.TablesDeclared.node.Node.{Node}
use Rattle.papaya_raw.specs.Given.TablesDeclared.resize_mode.ResizeMode.{ResizeMode}
use Rattle.papaya_raw.specs.Given.TablesDeclared.table.Table.{Table}
use Rattle.map_rule.specs.Given.ResizeLookup.{lookup_plan}
use Rattle.map_rule.specs.Given.ResizeDeclared.lookup.Lookup.{Lookup}
use Rattle.map_rule.specs.Chart.{Chart}
use Rattle.map_rule.specs.Words.{Blocks}
use Rattle.map_rule.specs.Maps.{IsClass, IsMap}
use Rattle.map_facts.specs.FactsLooks.{LookupFacts}
use Rattle.map_facts.specs.Steps.{AreLawful}
use Rattle.map_facts.specs.MeasuresLooks.{IsLoad, HasEnded, HasLooked, entered}

module _ (K V : Type 0) where
  -- until it has ended, each step of a lookup is a load
  abbrev pub LookupsLoad : Type 0
  LookupsLoad = (keys : K → Bool) (l : Lookup) → (HasEnded l.stands → ⊥) → IsLoad (lookup_plan {V = V} keys l)

module _ {K : Type 0} (V : Type 0) (same : K → K → Bool) (hash : K → ℕ) where
  -- Where a map stands in a memory, a lookup that goes on has made one load more, and has entered no further table but the one of its next try.
  abbrev pub LookupsLookOn : Type 0
  LookupsLookOn =
      AreLawful same hash → (mode : ResizeMode) (root : ℕ) (keys : K → Bool) (code : ℕ) (m : Mem (Node K V)) (c : Chart K) (blocks : Blocks) (l : Lookup)
      → IsClass same hash keys code → IsMap same hash mode root m c blocks → LookupFacts same hash mode root keys code c blocks l
      → (tables : List Table) (loads : ℕ) → HasLooked l.stands tables loads
      → (m2 : Mem (Node K V)) (end : Lookup × Advance (Option ℕ)) → Steps Took value_at m (lookup_plan keys l) m2 end
      → end.1 ≡ Goes → HasLooked end.0.stands (entered l.stands end.0.stands tables) (suc loads)
