-- What is needed of the points of a call for its number: less than each point knows, and the same in a table that the root has left.
use Rattle.std.proofs.Common.{◌≡◌, ℕ, suc, ◌*◌, ◌<◌, true, false, Some, None, ◌⊎◌}
use Rattle.seize_words.specs.OneMemory.Word.{block_in}
use Rattle.seize_words.specs.declared.at.At.{At}
use Rattle.seize_words.specs.declared.at.At.TheVariants.{Root, Word}
use Rattle.seize_words.specs.OneMemory.Mem.{Mem, word_at, value_at}
use Rattle.map_tables.specs.Chunks.{is_incremental}
use Rattle.map_tables.specs.Trials.{trial_at}
use Rattle.map_tables.specs.declared.node.Node.{Node}
use Rattle.map_tables.specs.declared.node.Node.TheVariants as node
use Rattle.map_tables.specs.declared.setting.Setting.{Setting}
use Rattle.map_tables.specs.declared.probe.Probe.{Probe}
use Rattle.map_tables.specs.declared.table.Table.{Table}
use Rattle.map_tables.specs.declared.table_words.TheConstants.{NEXT, STATUS}
use Rattle.many_calls.specs.Given.RawReplies.{value_for}
use Rattle.many_calls.specs.Given.RawDeclared.machines.asking.Asking.{Asking}
use Rattle.many_calls.specs.Given.RawDeclared.machines.asking.Asking.TheVariants as asking
use Rattle.many_calls.specs.Given.RawDeclared.machines.call.KeyCall.{KeyCall}
use Rattle.many_calls.specs.Given.RawDeclared.machines.call.Calling.{Calling}
use Rattle.many_calls.specs.Given.RawDeclared.machines.call.Calling.TheVariants as at
use Rattle.map_machines.specs.declared.copier.Copier.{Copier}
use Rattle.map_machines.specs.declared.copier.Copying.{Copying}
use Rattle.map_machines.specs.declared.copier.Copying.TheVariants as copies
use Rattle.map_machines.specs.declared.dispose.Dispose.{Dispose}
use Rattle.map_machines.specs.declared.dispose.Disposing.{Disposing}
use Rattle.map_machines.specs.declared.dispose.Disposing.TheVariants as disposes
use Rattle.map_machines.specs.declared.lookup.Looking.{Looking}
use Rattle.map_machines.specs.declared.lookup.Looking.TheVariants as looks
use Rattle.map_machines.specs.declared.new_table.NewTable.{NewTable}
use Rattle.map_machines.specs.declared.new_table.Making.{Making}
use Rattle.map_machines.specs.declared.new_table.Making.TheVariants as makes
use Rattle.many_calls.specs.Given.RuleChart.{Chart}
use Rattle.many_calls.specs.Given.RuleWords.{Blocks}
use Rattle.many_calls.specs.Given.RuleMaps.{IsTable, IsTrial}

-- the place is that of a table behind another one
abbrev pub IsBehind : At → Type 0
IsBehind (Word block field) = Unit {0}
IsBehind _ = ⊥

module _ {K V : Type 0} (setting : Setting) (m : Mem (Node K V)) (c : Chart K) (blocks : Blocks) where
  -- where a table with this turn is to stand
  abbrev pub IsPlaceOf : At → ℕ → Type 0
  IsPlaceOf link turn =
      ((link ≡ Root setting.root) × (turn ≡ 0))
      ⊎ ((t : ℕ) × (link ≡ Word (blocks.table t) NEXT) × (turn ≡ suc t) × (t < c.past) × (blocks.table_known t ≡ true))

  -- the making of a table
  abbrev pub MakingStands : At → ℕ → Making → Type 0
  MakingStands link turn (makes.Promotes table) = (b : ℕ) × (table.link ≡ b * 2048) × (status : ℕ) × (word_at m (Word b STATUS) ≡ Some status)
  MakingStands link turn (makes.Links table) = (0 < table.link) × (table.turn ≡ turn)
  MakingStands link turn (makes.Drops table found) =
      (table.turn ≡ turn) × (u : ℕ) × (u < c.past) × (blocks.table_known u ≡ true) × (found ≡ blocks.table u * 2048) × (IsBehind link → u ≡ turn)
  MakingStands link turn (makes.Over table) = (u : ℕ) × IsTable c blocks table u × (IsBehind link → u ≡ turn)
  MakingStands link turn _ = Unit {0}

  pub record NewTableStands (link : At) (turn : ℕ) (n : NewTable) : Type 0 where
    pub link_is : n.link ≡ link
    pub place : IsPlaceOf link turn
    pub point : MakingStands link turn n.stands

  -- a lookup
  abbrev pub LookingStands : ℕ → Looking → Type 0
  LookingStands code (looks.Probes trial) = (t : ℕ) × (j : ℕ) × IsTrial c blocks trial code t j
  LookingStands code (looks.Nexts table) = (t : ℕ) × IsTable c blocks table t
  LookingStands code _ = Unit {0}

  -- a disposal
  abbrev pub DisposingStands : ℕ → Disposing → Type 0
  DisposingStands t (disposes.Walks link) = (u : ℕ) × (u < t) × (blocks.table_known u ≡ true) × (link ≡ blocks.table u * 2048)
  DisposingStands t _ = Unit {0}

  abbrev pub DisposeStands : Dispose → Type 0
  DisposeStands d = (t : ℕ) × IsTable c blocks d.table t × DisposingStands t d.stands

  -- a copier is at a place of its source
  abbrev pub AtPlace : Copier → Type 0
  AtPlace p = (t : ℕ) × IsTable c blocks p.source t × (p.place < c.len t)

  abbrev pub HasTarget : Copier → Type 0
  HasTarget p = (t : ℕ) × IsTable c blocks p.target t

  -- at a try for a pair
  abbrev pub AtTry : ℕ → Table → Probe → Type 0
  AtTry code table probe = (t : ℕ) × (j : ℕ) × IsTrial c blocks (trial_at table probe) code t j

  -- at an old table
  abbrev pub AtOld : Copier → ℕ → Type 0
  AtOld p link = (s : ℕ) × (t : ℕ) × (s < t) × IsTable c blocks p.target t × (blocks.table_known s ≡ true) × (link ≡ blocks.table s * 2048)

  -- in incremental mode
  abbrev pub CopyingStands : Copier → Copying → Type 0
  CopyingStands p copies.Asks = p.spent ≡ true
  CopyingStands p copies.Marks = AtPlace p
  CopyingStands p (copies.Probes word code table probe) = AtTry code table probe
  CopyingStands p (copies.Puts word code table probe) = AtTry code table probe
  CopyingStands p (copies.Covers word) = AtPlace p
  CopyingStands p (copies.Passes word code table) = (t : ℕ) × IsTable c blocks table t
  CopyingStands p (copies.Grows word code making) =
      (t : ℕ) × (t < c.past) × (blocks.table_known t ≡ true) × NewTableStands (Word (blocks.table t) NEXT) (suc t) making
  CopyingStands p (copies.Unmarks word fault) = AtPlace p
  CopyingStands p (copies.Unclaims fault) = HasTarget p
  CopyingStands p copies.Promotes = HasTarget p
  CopyingStands p copies.Announces = HasTarget p
  CopyingStands p (copies.Succeeds link) = AtOld p link
  CopyingStands p copies.Aborts = ⊥
  CopyingStands p copies.Replaces = ⊥
  CopyingStands p (copies.Remakes making) = ⊥
  CopyingStands p _ = Unit {0}

  -- in blocking mode
  abbrev pub CopyingStandsBlocking : Copier → Copying → Type 0
  CopyingStandsBlocking p copies.Asks = HasTarget p
  CopyingStandsBlocking p copies.Sees = HasTarget p
  CopyingStandsBlocking p copies.Claims = HasTarget p × (u : ℕ) × IsTable c blocks p.source u
  CopyingStandsBlocking p copies.Marks = HasTarget p × AtPlace p
  CopyingStandsBlocking p (copies.Probes word code table probe) = HasTarget p × AtTry code table probe
  CopyingStandsBlocking p (copies.Puts word code table probe) = HasTarget p × AtTry code table probe
  CopyingStandsBlocking p copies.Counts = HasTarget p
  CopyingStandsBlocking p copies.Aborts = HasTarget p
  CopyingStandsBlocking p copies.Replaces = HasTarget p
  CopyingStandsBlocking p (copies.Remakes making) =
      (t : ℕ) × IsTable c blocks p.target t × NewTableStands (Word (blocks.table t) NEXT) (suc t) making
  CopyingStandsBlocking p copies.Promotes = HasTarget p
  CopyingStandsBlocking p copies.Announces = HasTarget p
  CopyingStandsBlocking p (copies.Succeeds link) = AtOld p link
  CopyingStandsBlocking p (copies.Retires settle rest) = Unit {0}
  CopyingStandsBlocking p copies.Over = Unit {0}
  CopyingStandsBlocking p (copies.Refused fault) = Unit {0}
  CopyingStandsBlocking p _ = ⊥

  module _ {Q : Type 0} where
    -- a call at a try
    abbrev pub IsTrying : KeyCall K V Q → Type 0
    IsTrying p = (t : ℕ) × (j : ℕ) × IsTrial c blocks p.trial p.hash t j

    -- a pair is in its own block, unless its key is out of it
    abbrev pub HasPairInside : KeyCall K V Q → Type 0
    HasPairInside p = p.replies.key ≡ None → (key : K) × (value : V) × (value_at m (block_in p.own) ≡ Some (node.Pair key value))

    -- one that goes by what it was told
    abbrev pub AskingStands : KeyCall K V Q → Asking → Type 0
    AskingStands p (asking.Fills word) = IsTrying p × ((value : V) × (value_for p.replies word ≡ Some value)) × HasPairInside p
    AskingStands p (asking.GivesUp word) = IsTrying p
    AskingStands p _ = Unit {0}

    -- a call
    abbrev pub CallingStands : KeyCall K V Q → Calling → Type 0
    CallingStands p (at.Looks lookup) = LookingStands lookup.hash lookup.stands
    CallingStands p at.Probes = IsTrying p
    CallingStands p (at.Tries word new) = IsTrying p
    CallingStands p at.Nexts = (t : ℕ) × IsTable c blocks p.trial.table t
    CallingStands p (at.Firsts making) = NewTableStands (Root setting.root) 0 making
    CallingStands p (at.Allocs making) = (t : ℕ) × IsTable c blocks p.trial.table t × NewTableStands (Word (blocks.table t) NEXT) (suc t) making
    CallingStands p (at.Helps copier goal) = (is_incremental copier.setting.mode ≡ true) × CopyingStands copier copier.stands
    CallingStands p (at.Copies copier) = (is_incremental copier.setting.mode ≡ false) × CopyingStandsBlocking copier copier.stands
    CallingStands p (at.Asks asks_at) = AskingStands p asks_at
    CallingStands p (at.Disposes dispose answer) = DisposeStands dispose
    CallingStands p _ = Unit {0}

    -- what is needed where it stands
    pub record CallStands (p : KeyCall K V Q) : Type 0 where
      pub setting_is : p.setting ≡ setting
      pub point : CallingStands p p.stands
