-- A lookup in the map of one owner.
use Rattle.std.specs.Prelude.{ℕ, Bool, Option}
use Rattle.seize_words.specs.OneMemory.Mem.{Mem}
use Rattle.map_tables.specs.declared.node.Node.{Node}
use Rattle.map_tables.specs.declared.table.Table.{Table}
use Rattle.map_tables.specs.declared.trial.Trial.{Trial}
use Rattle.map_measures.specs.Given.ResizeDeclared.lookup.Lookup.{Lookup}
use Rattle.map_measures.specs.Given.ResizeDeclared.lookup.Looking.TheVariants as at
use Rattle.map_measures.specs.Given.RuleChart.{Chart}
use Rattle.map_measures.specs.Given.RuleWords.{Blocks}
use Rattle.map_measures.specs.Given.RuleMaps.{IsClass, IsMap}
use Rattle.map_measures.specs.Given.PointsFactsLooks.{Answers, LookupFacts}
use Rattle.owner_facts.specs.Given.PointsSteps.{AreLawful}

module _ {K V : Type 0} (same : K → K → Bool) (hash : K → ℕ) (keys : K → Bool) (m : Mem (Node K V)) (c : Chart K) (blocks : Blocks) where
  -- The map stands in the memory. A lookup that was begun as this one is for keys of one class, and knows now what its point knows.
  pub record LooksIn (begun l : Lookup) : Type 0 where
    pub lawful : AreLawful same hash
    pub class : IsClass same hash keys begun.hash
    pub map : IsMap same hash begun.mode begun.root m c blocks
    pub facts : LookupFacts same hash begun.mode begun.root keys begun.hash c blocks l

-- What a lookup answers is so: this is the word of the pair that the map has of these keys, or it has none of them.
abbrev pub Finds : {K : Type 0} → (K → K → Bool) → (K → ℕ) → (K → Bool) → Chart K → Blocks → Lookup → Option ℕ → Type 0
Finds same hash keys c blocks l found = Answers same hash l.mode l.root keys l.hash c blocks found

-- the lookup is at this try
abbrev pub at_try : Lookup → Trial → Lookup
at_try l trial = record l { stands = at.Probes trial }

-- it goes on to the table after this one
abbrev pub at_next : Lookup → Table → Lookup
at_next l table = record l { stands = at.Nexts table }
