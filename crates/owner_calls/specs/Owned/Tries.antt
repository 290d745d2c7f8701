-- What the tries of a lookup at one table come to.
use Rattle.std.specs.Prelude.{◌≡◌, ◌≤◌, ℕ, Bool, true, false, Option, None, if◌then◌else◌}
use Rattle.seize_words.specs.OneMemory.Mem.{Mem}
use Rattle.map_tables.specs.Chunks.{is_incremental}
use Rattle.map_tables.specs.declared.finding.Finding.{Finding}
use Rattle.map_tables.specs.declared.finding.Finding.TheVariants as is
use Rattle.map_tables.specs.declared.node.Node.{Node}
use Rattle.map_tables.specs.declared.table.Table.{Table}
use Rattle.map_straight.specs.Given.ResizeDeclared.lookup.Lookup.{Lookup}
use Rattle.map_straight.specs.Given.RuleChart.{Chart}
use Rattle.map_straight.specs.Given.RuleWords.{Blocks}
use Rattle.owner_whole.specs.Strides.Looking.{LooksIn, Finds, at_next}
use Rattle.owner_calls.specs.Owned.Owned.{IsShownAt}
use Rattle.owner_calls.specs.declared.tries.Tried.{Tried}
use Rattle.owner_calls.specs.declared.tries.Tried.TheVariants as tried

-- all tries at a table are made
abbrev pub tried_beyond : Lookup → Table → Tried
tried_beyond l table = if is_incremental l.mode then tried.GoesBeyond table else tried.Ends None

-- a try that ends a lookup with the pair that its word names
abbrev pub is_there : Finding → Bool
is_there is.Copying = true
is_there is.There = true
is_there _ = false

-- with its answer the lookup has the pair of it
abbrev pub IsMet : {K V : Type 0} → Mem (Node K V) → Tried → Option (K × V) → Type 0
IsMet m (tried.Ends found) met = IsShownAt m found met
IsMet m _ met = Unit {0}

-- the lookup ends with an answer that is so, or it knows what it is to know where it goes on
abbrev pub TriesTo : {K V : Type 0} → (K → K → Bool) → (K → ℕ) → (K → Bool) → Mem (Node K V) → Chart K → Blocks → Lookup → Lookup → Tried → Type 0
TriesTo same hash keys m c blocks begun l (tried.Ends found) = Finds same hash keys c blocks begun found
TriesTo same hash keys m c blocks begun l (tried.GoesBeyond table) = LooksIn same hash keys m c blocks begun (at_next l table)
TriesTo same hash keys m c blocks begun l tried.Stays = Unit {0}

-- where it goes on to the next table, it is so there for a number no greater than this one
abbrev pub Nearer : (ℕ → Lookup → Bool) → ℕ → Lookup → Tried → Type 0
Nearer so n l (tried.GoesBeyond table) = (k : ℕ) × (k ≤ n) × (so k (at_next l table) ≡ true)
Nearer so n l _ = Unit {0}
