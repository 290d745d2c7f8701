-- How many pairs the tries of a hash meet at a table: no more than the map has, where that table is the last.
use Rattle.std.specs.Prelude.{◌≡◌, ◌≢◌, ℕ, suc, ◌<◌, ◌≤◌, ◌==◌, Bool, true, false, not, Option, Some, None, IfSome}
use Rattle.many_maps.specs.Given.SeizeWordsMem.{Mem, Took, value_at, word_at}
use Rattle.many_maps.specs.Given.SeizeWordsPlan.{Steps}
use Rattle.many_maps.specs.Given.SeizeWordsWord.{block_in}
use Rattle.many_maps.specs.Given.TablesChunks.{is_incremental}
use Rattle.many_maps.specs.Given.TablesLengths.{next_len, IsTableLen}
use Rattle.many_maps.specs.Given.TablesTablePlaces.{at_place}
use Rattle.many_maps.specs.Given.TablesTrials.{first_trial, with_met, next_trial}
use Rattle.many_maps.specs.Given.TablesDeclared.lengths.Reason.TheVariants.{Full}
use Rattle.many_maps.specs.Given.TablesDeclared.node.Node.{Node}
use Rattle.many_maps.specs.Given.TablesDeclared.resize_mode.ResizeMode.{ResizeMode}
use Rattle.many_maps.specs.Given.TablesDeclared.table.Table.{Table}
use Rattle.many_maps.specs.Given.TablesDeclared.trial.Trial.{Trial}
use Rattle.many_maps.specs.Given.ResizeDeclared.new_table.Making.{Making}
use Rattle.many_maps.specs.Given.ResizeDeclared.new_table.Making.TheVariants as makes
use Rattle.many_maps.specs.Given.RawCall.{call_plan}
use Rattle.many_maps.specs.Given.RawDeclared.machines.answer.Called.{Called}
use Rattle.many_maps.specs.Given.RawDeclared.machines.asking.Asking.{Asking}
use Rattle.many_maps.specs.Given.RawDeclared.machines.call.KeyCall.{KeyCall}
use Rattle.many_maps.specs.Given.RawDeclared.machines.call.Calling.{Calling}
use Rattle.many_maps.specs.Given.RawDeclared.machines.call.Calling.TheVariants as at
use Rattle.many_maps.specs.Given.RuleChart.{Place, Holds, Chart}
use Rattle.many_maps.specs.Given.RuleRule.{IsLawful, Rule, total}
use Rattle.many_maps.specs.Given.RuleWords.{Blocks, place_word}
use Rattle.many_maps.specs.Given.RuleMaps.{spot_at, spot_of, IsMap, IsTable, IsTrial}
use Rattle.owner_facts.specs.Alone.Counting.{one_if, pairs_in}

-- a pair stands at a place
abbrev pub has_pair : Place → Bool
has_pair (Holds n phase borrowed) = true
has_pair _ = false

-- at how many of the first tries of a hash at a table a pair stands
abbrev pub met_in : {K : Type 0} → Chart K → ℕ → ℕ → ℕ → ℕ
met_in c code t tries = total one_if (λ j. has_pair (c.place t (spot_at (c.len t) code j))) tries

-- At the last table, which is the root where all pairs are copied at once, these are no more than the pairs of the map.
abbrev pub MetPairsAreFew : {K : Type 0} → (K → K → Bool) → (K → ℕ) → Bool → Type 0
MetPairsAreFew {K} same hash incremental =
    IsLawful same (spot_of hash) → (c : Chart K) → Rule same (spot_of hash) incremental c
    → (t : ℕ) → suc t ≡ c.past → (incremental ≡ false → t ≡ c.first) → IsTableLen (c.len t)
    → (code tries : ℕ) → tries ≤ c.len t → met_in c code t tries ≤ pairs_in c

-- A call that enters a table has met none there, and what it has met is no more than that: also once it has counted the word of a try, and goes on to the next.
abbrev pub TriesMeetPairs : {K : Type 0} → (K → ℕ) → Type 0
TriesMeetPairs {K} hash =
    (c : Chart K) (blocks : Blocks) (code t : ℕ)
    → ((table : Table) → (first_trial table code).met ≤ met_in c code t 0)
    × ((trial : Trial) (j : ℕ) → trial.met ≤ met_in c code t j
    → (with_met trial (place_word hash c blocks (c.place t (spot_at (c.len t) code j)))).met ≤ met_in c code t (suc j))
    × ((trial : Trial) → IfSome (next_trial trial) (λ next. next.met ≡ trial.met))

-- the same by the words of a memory: a word names a block
abbrev pub names_block : Option ℕ → Bool
names_block None = false
names_block (Some word) = not (block_in word == 0)

abbrev pub words_met : {T : Type 0} → Mem T → Table → ℕ → ℕ → ℕ
words_met m table code tries = total one_if (λ j. names_block (word_at m (at_place table (spot_at table.len code j)))) tries

-- a call is about to look at the word of a try, or to change it
abbrev pub IsTrying : Calling → Type 0
IsTrying at.Probes = Unit {0}
IsTrying (at.Tries word new) = Unit {0}
IsTrying _ = ⊥

module _ {K V Q : Type 0} where
  -- a call is at a try of its hash at some table
  abbrev pub IsAtTry : Chart K → Blocks → KeyCall K V Q → Type 0
  IsAtTry c blocks p = (t : ℕ) × (j : ℕ) × IsTrial c blocks p.trial p.hash t j × IsTableLen (c.len t) × (c.limit t < c.len t)

  -- it has met no more pairs than so many tries at its table meet
  abbrev pub HasMet : Mem (Node K V) → KeyCall K V Q → ℕ → Type 0
  HasMet m p tries = p.trial.met ≤ words_met m p.trial.table p.hash tries

  -- it makes the next table for them, or for the most that it has met where it found a table full, and counts the pairs first
  abbrev pub MetMaking : Mem (Node K V) → KeyCall K V Q → Making → Type 0
  MetMaking m p (makes.Sums before reason sum) = (before ≡ p.trial.table) × (reason ≡ Full p.trial.met p.trial.most) × HasMet m p (suc p.trial.table.limit)
  MetMaking m p _ = Unit {0}

  -- so it is from the first try at a table on, until the pairs are counted for the next one
  abbrev pub MetAt : Mem (Node K V) → KeyCall K V Q → Calling → Type 0
  MetAt m p at.Probes = HasMet m p p.trial.probe.len
  MetAt m p (at.Tries word new) = HasMet m p p.trial.probe.len
  MetAt m p at.Nexts = HasMet m p (suc p.trial.table.limit)
  MetAt m p (at.Allocs making) = MetMaking m p making.stands
  MetAt m p _ = Unit {0}

-- Each step of a call that does not ask leaves it so, in the memory that it leaves.
abbrev pub CallsMeetPairs : {K Q : Type 0} → Type 0 → (K → K → Bool) → (K → ℕ) → (Q → K → Bool) → Type 0
CallsMeetPairs {K} {Q} V same hash asks =
    (m m2 : Mem (Node K V)) (c : Chart K) (blocks : Blocks) (p : KeyCall K V Q) (end : KeyCall K V Q × Called (Node K V)) → (IsTrying p.stands → IsAtTry c blocks p)
    → ((asking : Asking) → p.stands ≢ at.Asks asking) → MetAt m p p.stands → Steps Took value_at m (call_plan asks same hash p) m2 end
    → MetAt m2 end.0 end.0.stands

-- The words of a table say what stands in it.
abbrev pub WordsSayWhatStands : {K : Type 0} → Type 0 → (K → K → Bool) → (K → ℕ) → Type 0
WordsSayWhatStands {K} V same hash =
    (mode : ResizeMode) (root : ℕ) (m : Mem (Node K V)) (c : Chart K) (blocks : Blocks) → IsMap same hash mode root m c blocks
    → (table : Table) (t : ℕ) → IsTable c blocks table t → (code tries : ℕ) → words_met m table code tries ≤ met_in c code t tries

-- So a call that finds the last table full has met no more pairs there than the map has.
abbrev pub MeetsNoMore : {K : Type 0} → Type 0 → Type 0 → (K → K → Bool) → (K → ℕ) → Type 0
MeetsNoMore {K} V Q same hash =
    IsLawful same (spot_of hash) → (mode : ResizeMode) (root : ℕ) (m : Mem (Node K V)) (c : Chart K) (blocks : Blocks) → IsMap same hash mode root m c blocks
    → (p : KeyCall K V Q) (t : ℕ) → IsTable c blocks p.trial.table t → suc t ≡ c.past → (is_incremental mode ≡ false → t ≡ c.first) → IsTableLen (c.len t)
    → HasMet m p (suc p.trial.table.limit) → p.trial.met ≤ pairs_in c

-- Nor has it met more at any table that it found full, if it had not before: a step of a call that does not ask leaves the most that it has met where it was,
-- or takes what it has met at the table which it finds to be the last.
abbrev pub CallsPreserveMost : {K Q : Type 0} → Type 0 → (K → K → Bool) → (K → ℕ) → (Q → K → Bool) → Type 0
CallsPreserveMost {K} {Q} V same hash asks =
    (m m2 : Mem (Node K V)) (p : KeyCall K V Q) (end : KeyCall K V Q × Called (Node K V)) (n : ℕ) → p.trial.most ≤ n → (p.stands ≡ at.Nexts → p.trial.met ≤ n)
    → ((asking : Asking) → p.stands ≢ at.Asks asking) → Steps Took value_at m (call_plan asks same hash p) m2 end → end.0.trial.most ≤ n

-- So where the counter says how many pairs the map has, what a call has met changes nothing.
abbrev pub GoesByTheCounterAlone : Type 0 → Type 0
GoesByTheCounterAlone K = (c : Chart K) (trial : Trial) (len initial : ℕ) → trial.most ≤ pairs_in c
    → next_len (Full trial.met trial.most) len (pairs_in c) initial ≡ next_len (Full 0 0) len (pairs_in c) initial
