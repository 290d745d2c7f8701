-- What an operation does to pairs and tables: its effects, by what it has changed, by what the blocks were before, and by who made it.
use Rattle.std.specs.Prelude.{ℕ, ◌+◌, ◌-◌, ◌==◌, ◌<◌, ◌^◌, ◌&&◌, nat_le, nat_lt, Bool, true, List, [], ◌∷◌, if◌then◌else◌}
use Rattle.run_schedules.specs.Given.SeizeWordsDeclared.at.At.{At}
use Rattle.run_schedules.specs.Given.SeizeWordsDeclared.at.At.TheVariants.{Root, Entry, Word}
use Rattle.run_schedules.specs.Given.SeizeWordsWord.{block_in}
use Rattle.seize.specs.declared.states.TheConstants.{FIRST}
use Rattle.run_schedules.specs.Given.TablesDeclared.table_words.TheConstants.{NEXT, DEFERRED, PLACES}
use Rattle.run_schedules.specs.declared.effect.Effect.{Effect}
use Rattle.run_schedules.specs.declared.effect.Effect.TheVariants as effect
use Rattle.run_schedules.specs.declared.effect.Growth.TheVariants.{ABlock, ABucket}
use Rattle.run_schedules.specs.declared.effect.Spot.{Spot}
use Rattle.run_schedules.specs.declared.effect.TableId.{TableId}
use Rattle.run_schedules.specs.declared.effect.Thing.TheVariants.{APair, ATable}
use Rattle.run_effects.specs.declared.changed.Kind.{Kind}
use Rattle.run_effects.specs.declared.changed.Kind.TheVariants as kind
use Rattle.run_effects.specs.declared.changed.Changed.{Changed}
use Rattle.run_effects.specs.declared.changed.Changed.TheVariants as changed
use Rattle.run_effects.specs.declared.acting.Acting.{Acting}
use Rattle.run_effects.specs.declared.acting.Acting.TheVariants.{Call, Making, Ending, Row}
use Rattle.run_effects.specs.declared.role.Role.{Role}
use Rattle.run_effects.specs.declared.role.Role.TheVariants as role
use Rattle.run_effects.specs.Effects.Known.{Known, with_role, with_pair, with_bucket}

-- On which map it acts. A row acts on none, and makes no block.
abbrev pub map_of : Acting → ℕ
map_of (Call caller map) = map
map_of (Making map) = map
map_of (Ending map) = map
map_of Row = 0

-- whose a block is that it makes: the beginning of a map makes none for a pair, and its end and a row make none at all
abbrev pub caller_of : Acting → ℕ
caller_of (Call caller map) = caller
caller_of _ = 0

-- the table with this turn
abbrev pub table_at : Acting → ℕ → TableId
table_at acting turn = record { map = map_of acting; turn = turn }

-- Blocks that are made, and taken away

-- what a new block is
abbrev pub made_role : Acting → Kind → Role
made_role acting kind.Pair = role.OwnPair (caller_of acting)
made_role acting (kind.Table len limit turn) = role.OwnTable turn (record { len = len; limit = limit })
made_role acting kind.Shards = role.Counter (map_of acting)

-- what was made
abbrev pub made_by : Acting → Kind → List Effect
made_by acting kind.Pair = effect.PairMade ∷ []
made_by acting (kind.Table len limit turn) = effect.TableMade (table_at acting turn) ∷ []
made_by acting kind.Shards = []

-- a pair, and a table, that is taken away: it ends with its map, or is reclaimed
abbrev pub pair_taken : Acting → ℕ → Effect
pair_taken (Ending map) n = effect.Ended n
pair_taken acting n = effect.Reclaimed (APair n)

abbrev pub table_taken : Acting → TableId → Effect
table_taken (Ending map) t = effect.Taken t
table_taken acting t = effect.Reclaimed (ATable t)

-- what a block that is taken away was
abbrev pub taken_by : Acting → Role → List Effect
taken_by acting (role.OwnPair caller) = effect.PairGivenUp ∷ []
taken_by acting (role.OwnTable turn shape) = effect.TableGivenUp (table_at acting turn) ∷ []
taken_by acting (role.Pair n) = pair_taken acting n ∷ []
taken_by acting (role.Table t len) = table_taken acting t ∷ []
taken_by acting _ = []

-- Words that are written, by what the block is that they named, and what that is which they name. One that goes on naming the same block does nothing.
abbrev pub names_same : ℕ → ℕ → Bool
names_same old new = block_in old == block_in new

-- the link to the next table
abbrev pub followed_by : Acting → Role → List Effect
followed_by acting (role.OwnTable turn shape) = effect.Linked (table_at acting turn) shape ∷ []
followed_by acting _ = []

-- the root
abbrev pub led_to : Acting → Role → Role → List Effect
led_to acting was (role.OwnTable turn shape) = effect.Linked (table_at acting turn) shape ∷ []
led_to acting (role.Table t len) (role.Table u other) = effect.Promoted u ∷ []
led_to acting _ _ = []

-- the head of the list of pairs that a table carries
abbrev pub carried : TableId → Role → List Effect
carried t (role.Pair n) = effect.Deferred n t ∷ []
carried t _ = []

-- a place, where so many pairs were stored before
abbrev pub placed : Spot → ℕ → Role → Role → List Effect
placed s stored (role.Pair n) (role.OwnPair caller) = effect.Replaced n ∷ effect.Stored (stored + 1) s ∷ []
placed s stored _ (role.OwnPair caller) = effect.Stored (stored + 1) s ∷ []
placed s stored (role.Pair n) role.Free = effect.Removed n ∷ []
placed s stored role.Free (role.Pair n) = effect.Copied n s ∷ []
placed s stored _ _ = []

-- the place whose word has this number
abbrev pub spot_at : TableId → ℕ → Spot
spot_at t field = record { turn = t.turn; place = field - PLACES }

-- the word of a place, in a table with so many places
abbrev pub is_place : ℕ → ℕ → Bool
is_place len field = nat_le PLACES field && nat_lt (field - PLACES) len

-- a word of a table
abbrev pub in_table : Acting → TableId → ℕ → ℕ → ℕ → Role → Role → List Effect
in_table acting t len field stored was is =
    if field == NEXT then followed_by acting is else
    (if field == DEFERRED then carried t is else (if is_place len field then placed (spot_at t field) stored was is else []))

-- a word of a block's own, which goes on naming the same, or names another one
abbrev pub in_block : Acting → Role → ℕ → ℕ → Bool → Role → Role → List Effect
in_block acting (role.Table t len) field stored same was is = if same then [] else in_table acting t len field stored was is
in_block acting (role.Counter map) field stored same was is = effect.Counted field ∷ []
in_block acting _ field stored same was is = []

-- The word of a block's entry that links to the first block of its batch: with it a call retires the block. A row of no call writes it, too, into blocks that
-- waited behind a table that it has reclaimed; those were retired as the table was.
abbrev pub batched : Acting → ℕ → Role → List Effect
batched (Call caller map) field (role.Pair n) = if field == FIRST then effect.Retired (APair n) ∷ [] else []
batched (Call caller map) field (role.Table t len) = if field == FIRST then effect.Retired (ATable t) ∷ [] else []
batched _ field _ = []

-- what a block is that a word names
abbrev pub named : Known → ℕ → Role
named known word = known.roles (block_in word)

abbrev pub written_by : Acting → Known → At → ℕ → ℕ → List Effect
written_by acting known (Root r) old new = if names_same old new then [] else led_to acting (named known old) (named known new)
written_by acting known (Word b field) old new = in_block acting (known.roles b) field known.stored (names_same old new) (named known old) (named known new)
written_by acting known (Entry b field) old new = if names_same old new then [] else batched acting field (known.roles b)
written_by acting known _ old new = []

-- What an operation does.
abbrev pub effects_of : Acting → Known → Changed → List Effect
effects_of acting known changed.Nothing = []
effects_of acting known (changed.Wrote at old new) = written_by acting known at old new
effects_of acting known (changed.Made kind b) = effect.Asked ABlock ∷ made_by acting kind
effects_of acting known (changed.Unmade kind) = effect.Asked ABlock ∷ []
effects_of acting known (changed.Took b) = taken_by acting (known.roles b)
effects_of acting known (changed.Roomed bucket had) = if had && nat_lt bucket known.buckets then [] else effect.Asked ABucket ∷ []

-- What is known after it

-- a table that is linked is one of its map
abbrev pub linked_on : Acting → ℕ → Role → Known → Known
linked_on acting b (role.OwnTable turn shape) known = with_role b (role.Table (table_at acting turn) shape.len) known
linked_on acting b _ known = known

-- a pair that is stored has its number
abbrev pub stored_on : ℕ → Role → Known → Known
stored_on b (role.OwnPair caller) known = with_pair b known
stored_on b _ known = known

abbrev pub in_table_on : Acting → ℕ → ℕ → ℕ → Role → Known → Known
in_table_on acting len field b is known =
    if field == NEXT then linked_on acting b is known else (if is_place len field then stored_on b is known else known)

abbrev pub in_block_on : Acting → Role → ℕ → Bool → ℕ → Role → Known → Known
in_block_on acting (role.Table t len) field same b is known = if same then known else in_table_on acting len field b is known
in_block_on acting _ field same b is known = known

abbrev pub written_on : Acting → At → ℕ → ℕ → Known → Known
written_on acting (Root r) old new known = if names_same old new then known else linked_on acting (block_in new) (named known new) known
written_on acting (Word b field) old new known = in_block_on acting (known.roles b) field (names_same old new) (block_in new) (named known new) known
written_on acting _ old new known = known

abbrev pub known_after : Acting → Changed → Known → Known
known_after acting (changed.Wrote at old new) known = written_on acting at old new known
known_after acting (changed.Made kind b) known = with_role b (made_role acting kind) known
known_after acting (changed.Took b) known = with_role b role.Free known
known_after acting (changed.Roomed bucket true) known = with_bucket bucket known
known_after acting _ known = known

-- a bucket has a number
abbrev pub HasNumber : Changed → Type 0
HasNumber (changed.Roomed bucket had) = bucket + 1 < 2 ^ 64
HasNumber _ = Unit {0}
