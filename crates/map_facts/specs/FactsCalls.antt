-- What a call on one key knows, at each of its points.
use Rattle.std.specs.Prelude.{◌≡◌, ◌≢◌, ℕ, suc, ◌^◌, ◌<◌, Bool, true, false, cond, Option, Some, None, ◌⊎◌}
use Rattle.map_rule.specs.Given.SeizeWordsDeclared.at.At.TheVariants.{Root, Word}
use Rattle.map_rule.specs.Given.SeizeWordsMem.{value_at}
use Rattle.papaya_raw.specs.Given.SeizeWorld.{World, Making, Parting, Cutting}
use Rattle.papaya_raw.specs.Given.TablesChunks.{is_incremental}
use Rattle.papaya_raw.specs.Given.TablesNodes.{vacant}
use Rattle.papaya_raw.specs.CallPoints.{word_to}
use Rattle.papaya_raw.specs.Replies.{value_for}
use Rattle.papaya_raw.specs.Given.TablesDeclared.marks.TheConstants.{TOMBSTONE}
use Rattle.papaya_raw.specs.Given.TablesDeclared.node.Node.{Node}
use Rattle.papaya_raw.specs.Given.TablesDeclared.node.Node.TheVariants as node
use Rattle.papaya_raw.specs.Given.TablesDeclared.setting.Setting.{Setting}
use Rattle.papaya_raw.specs.Given.TablesDeclared.table_words.TheConstants.{NEXT}
use Rattle.papaya_raw.specs.declared.machines.answer.KeyAnswer.{KeyAnswer}
use Rattle.papaya_raw.specs.declared.machines.answer.KeyAnswer.TheVariants as answers
use Rattle.papaya_raw.specs.declared.machines.answer.There.{There}
use Rattle.papaya_raw.specs.declared.machines.answer.There.TheVariants as there
use Rattle.papaya_raw.specs.declared.machines.answer.Missing.{Missing}
use Rattle.papaya_raw.specs.declared.machines.answer.Missing.TheVariants as missing
use Rattle.papaya_raw.specs.declared.machines.asking.Asking.{Asking}
use Rattle.papaya_raw.specs.declared.machines.asking.Asking.TheVariants as asking
use Rattle.papaya_raw.specs.declared.machines.asking.Gap.{Gap}
use Rattle.papaya_raw.specs.declared.machines.asking.Gap.TheVariants as gaps
use Rattle.papaya_raw.specs.declared.machines.asking.Replies.{Replies}
use Rattle.papaya_raw.specs.declared.machines.asking.Takes.{Takes}
use Rattle.papaya_raw.specs.declared.machines.asking.Takes.TheVariants as takes
use Rattle.papaya_raw.specs.declared.machines.asking.Told.TheVariants as tells
use Rattle.papaya_raw.specs.declared.machines.call.KeyCall.{KeyCall}
use Rattle.papaya_raw.specs.declared.machines.call.Calling.{Calling}
use Rattle.papaya_raw.specs.declared.machines.call.Calling.TheVariants as at
use Rattle.map_rule.specs.Chart.{Phase, Still, Holds, Chart, put}
use Rattle.map_rule.specs.Rule.{ShutBefore}
use Rattle.map_rule.specs.Words.{Blocks, place_word}
use Rattle.map_rule.specs.Maps.{spot_of, IsTable, IsTrial, IsClass, NoneBefore, IsAbsent, IsPair}
use Rattle.map_facts.specs.FactsTables.{NewTableFacts}
use Rattle.map_facts.specs.FactsLooks.{LookupFacts}
use Rattle.map_facts.specs.FactsDisposes.{LiesBefore, LiesNowhere, HasLeft, DisposeFacts}
use Rattle.map_facts.specs.FactsCopies.{CopierFacts}
use Rattle.map_facts.specs.FactsCopiesBlocking.{CopierFactsBlocking}
use Rattle.map_facts.specs.FactsIdle.{IsIdle}

-- what a call may do, by the replies that it takes
abbrev pub MayStore : Takes → There → Missing → Type 0
MayStore takes.Nothing there.Answers missing.Answers = Unit {0}
MayStore takes.Nothing there.Answers missing.Puts = Unit {0}
MayStore takes.Nothing there.Puts missing.Puts = Unit {0}
MayStore takes.Nothing there.Removes missing.Answers = Unit {0}
MayStore takes.Values there.Asks missing.Answers = Unit {0}
MayStore takes.Values there.Asks missing.Asks = Unit {0}
MayStore takes.Values there.Answers missing.Asks = Unit {0}
MayStore takes.Changes there.Asks missing.Asks = Unit {0}
MayStore takes.Choices there.Asks missing.Answers = Unit {0}
MayStore _ _ _ = ⊥

-- where a call has what it is asked for: apart from any pair, in its own block, or, where it is told values, in its own block or out of it
pub data Holding : Type 0 where
  Apart : Holding
  InBlock : Holding
  ByReply : Holding

abbrev pub holding : Takes → Missing → Holding
holding takes.Nothing missing.Puts = InBlock
holding takes.Nothing _ = Apart
holding takes.Choices _ = Apart
holding takes.Values _ = ByReply
holding takes.Changes _ = ByReply

-- What a call was told: a value that its own block is to have is there, with the key, and it is one at most. That a pair is to be removed is told of
-- pairs alone, and choices are not kept.
pub record RepliesFit {K V : Type 0} (r : Replies K V) : Type 0 where
  pub absent_own : r.absent ≡ tells.Own → r.key ≡ None
  pub present_own : r.present ≡ tells.Own → r.key ≡ None
  pub one_own : r.absent ≡ tells.Own → r.present ≢ tells.Own
  pub absent_stays : r.absent ≢ tells.Removes
  pub choices_stay : r.takes ≡ takes.Choices → r.present ≡ tells.Nothing

abbrev pub MayAsk : {K V Q : Type 0} → KeyCall K V Q → Type 0
MayAsk p = MayStore p.replies.takes p.there p.missing × RepliesFit p.replies

-- it copies pairs, and may have places that are its own to copy
abbrev pub IsCopying : Calling → Type 0
IsCopying (at.Helps copier goal) = Unit {0}
IsCopying (at.Copies copier) = Unit {0}
IsCopying _ = ⊥

-- what a call has changed in its map
pub data Change : Type 0 where
  Unchanged : Change
  Stored : ℕ → Change  -- this pair, where there was none
  Replaced : ℕ → ℕ → Change  -- this pair, by that one
  Removed : ℕ → Change

-- the keys that a call is asked for
module _ {K V Q : Type 0} (same : K → K → Bool) (hash : K → ℕ) (asks : Q → K → Bool) (w : World (Node K V)) (caller : ℕ) (setting : Setting) (c : Chart K) (blocks : Blocks)
    (keys : K → Bool) (change : Change) where
  -- a block with the pair that may be stored: nobody else has it
  pub record IsOwnPair (own code : ℕ) : Type 0 where
    pub block : ℕ
    pub key : K
    pub value : V
    pub number : (0 < block) × (block < 2 ^ 53)
    pub word_is : own ≡ word_to block code
    pub hand : w.hand block ≡ Making caller
    pub there : value_at w.memory block ≡ Some (node.Pair key value)
    pub keys_are : (k : K) → keys k ≡ same key k
    pub code_is : hash key ≡ code

  -- its own block, which its pair is out of
  pub record IsVacant (own code : ℕ) : Type 0 where
    pub block : ℕ
    pub number : (0 < block) × (block < 2 ^ 53)
    pub word_is : own ≡ word_to block code
    pub hand : w.hand block ≡ Making caller
    pub there : value_at w.memory block ≡ Some vacant

  -- its key, which is in no block
  pub record HasKey (out : Option K) (code : ℕ) : Type 0 where
    pub key : K
    pub key_is : out ≡ Some key
    pub keys_are : (k : K) → keys k ≡ same key k
    pub code_is : hash key ≡ code

  -- A call that stores what it began with has its pair in a block of its own. One that is told values has its key, or its pair there. The others
  -- have what they are asked with.
  abbrev pub HasOwn : Holding → Option Q → Option K → ℕ → ℕ → Type 0
  HasOwn InBlock asked key own code = (asked ≡ None) × (key ≡ None) × IsOwnPair own code
  HasOwn Apart asked key own code = (own ≡ 0) × (q : Q) × (asked ≡ Some q) × ((k : K) → asks q k ≡ keys k)
  HasOwn ByReply asked key own code = (asked ≡ None) × (((own ≡ 0) × HasKey key code) ⊎ ((key ≡ None) × IsOwnPair own code))

  abbrev pub HasIts : KeyCall K V Q → Type 0
  HasIts p = HasOwn (holding p.replies.takes p.missing) p.asked p.replies.key p.own p.hash

  -- an answer that changes nothing says what is so
  abbrev pub AnswersOf : KeyAnswer → Type 0
  AnswersOf (answers.Found word) =
      (n : ℕ) × (phase : Phase) × (borrowed : Bool) × IsPair same hash (is_incremental setting.mode) c keys n × (word ≡ place_word hash c blocks (Holds n phase borrowed))
  AnswersOf answers.Absent = IsAbsent same hash (is_incremental setting.mode) c keys
  AnswersOf _ = ⊥

  -- in incremental mode, all tables up to this one are shut for the keys
  abbrev pub ShutUpTo : ℕ → Type 0
  ShutUpTo t = cond (is_incremental setting.mode) ((k : K) → keys k ≡ true → ShutBefore same (spot_of hash) true c (suc t) k) (t ≡ c.first)

  -- in blocking mode, its table is the root's
  abbrev pub AtRoot : ℕ → Type 0
  AtRoot t = is_incremental setting.mode ≡ false → t ≡ c.first

  -- its table is that with this turn
  abbrev pub HasTried : KeyCall K V Q → ℕ → Type 0
  HasTried p t = IsTable c blocks p.trial.table t × ShutUpTo t

  -- at a try: none of its keys was met before
  abbrev pub AtTry : KeyCall K V Q → Type 0
  AtTry p = (t : ℕ) × (j : ℕ) × IsTrial c blocks p.trial p.hash t j × NoneBefore same hash (is_incremental setting.mode) c keys t j × AtRoot t

  -- a word names a pair of its keys that is not marked, and can still be looked at
  abbrev pub NamesPair : ℕ → Type 0
  NamesPair word =
      (n : ℕ) × (k : K) × (borrowed : Bool) × (n < c.stored) × (blocks.pair_known n ≡ true) × (c.key n ≡ Some k) × (keys k ≡ true)
      × (word ≡ place_word hash c blocks (Holds n Still borrowed))

  -- the word that it may replace: that of an empty place, or of such a pair
  abbrev pub MayReplace : ℕ → Type 0
  MayReplace word = (word ≡ 0) ⊎ NamesPair word

  -- by that of its own pair, or by a tombstone, where it has none
  abbrev pub MayTry : KeyCall K V Q → ℕ → ℕ → Type 0
  MayTry p word new =
      ((new ≡ p.own) × IsOwnPair p.own p.hash × MayReplace word)
      ⊎ ((new ≡ TOMBSTONE) × (p.own ≡ 0) × NamesPair word)

  -- the pair was stored, and can still be looked at
  abbrev pub IsKnown : ℕ → Type 0
  IsKnown n = (n < c.stored) × (blocks.pair_known n ≡ true)

  -- an answer tells a change
  abbrev pub AnswersChange : Change → KeyAnswer → Type 0
  AnswersChange (Stored n) (answers.Stored word) = IsKnown n × (word ≡ place_word hash c blocks (Holds n Still false))
  AnswersChange (Replaced o n) (answers.Replaced old new) =
      IsKnown o × IsKnown n × (borrowed : Bool) × (old ≡ place_word hash c blocks (Holds o Still borrowed)) × (new ≡ place_word hash c blocks (Holds n Still false))
  AnswersChange (Removed n) (answers.Removed word) = IsKnown n × (borrowed : Bool) × (word ≡ place_word hash c blocks (Holds n Still borrowed))
  AnswersChange _ _ = ⊥

  -- until it has changed something, or ends
  abbrev pub Seeks : Calling → Type 0
  Seeks (at.Counts removed) = ⊥
  Seeks (at.Disposes dispose answer) = ⊥
  Seeks (at.Over end) = ⊥
  Seeks _ = Unit {0}

  -- where the key is missing
  abbrev pub GapFacts : KeyCall K V Q → Gap → Type 0
  GapFacts p gaps.NoTable = Unit {0}
  GapFacts p gaps.Free = AtTry p
  GapFacts p gaps.Past = (t : ℕ) × HasTried p t
  GapFacts p gaps.Last = (is_incremental setting.mode ≡ true) × (t : ℕ) × HasTried p t

  -- its own block has its pair, or not yet, or was left vacant for it
  abbrev pub IsToFill : KeyCall K V Q → Type 0
  IsToFill p = HasIts p ⊎ ((p.asked ≡ None) × IsVacant p.own p.hash × HasKey p.replies.key p.hash)

  -- where it asks, or goes by what it was told
  abbrev pub AskingFacts : KeyCall K V Q → Asking → Type 0
  AskingFacts p (asking.Absent gap) = HasIts p × (p.missing ≡ missing.Asks) × GapFacts p gap
  AskingFacts p (asking.Present word) = HasIts p × (p.there ≡ there.Asks) × NamesPair word × AtTry p
  AskingFacts p (asking.Fills word) =
      IsToFill p × (holding p.replies.takes p.missing ≡ ByReply) × ((v : V) × (value_for p.replies word ≡ Some v)) × MayReplace word × AtTry p
  AskingFacts p (asking.GivesUp word) = HasIts p × (holding p.replies.takes p.missing ≡ ByReply) × (p.own ≢ 0) × NamesPair word × AtTry p

  -- what a call knows at a point
  abbrev pub CallingFacts : KeyCall K V Q → Calling → Type 0
  CallingFacts p at.Makes =
      (p.own ≡ 0) × (p.missing ≡ missing.Puts) × (p.asked ≡ None)
      × (k : K) × (v : V) × (p.unmade ≡ Some (node.Pair k v)) × ((other : K) → keys other ≡ same k other) × (hash k ≡ p.hash)
      × (p.replies.takes ≡ takes.Nothing) × (p.replies.key ≡ None)
  CallingFacts p (at.Looks lookup) =
      (p.own ≡ 0) × (p.missing ≡ missing.Answers) × (p.there ≡ there.Answers) × (q : Q) × (p.asked ≡ Some q) × ((k : K) → asks q k ≡ keys k)
      × LookupFacts same hash setting.mode setting.root keys p.hash c blocks lookup
  CallingFacts p at.Roots = HasIts p
  CallingFacts p at.Probes = HasIts p × AtTry p
  CallingFacts p (at.Tries word new) = HasIts p × MayTry p word new × AtTry p
  CallingFacts p at.Nexts = HasIts p × (t : ℕ) × HasTried p t
  CallingFacts p (at.Firsts making) =
      HasIts p × (p.missing ≢ missing.Answers) × NewTableFacts w caller setting c blocks (Root setting.root) 0 making
  CallingFacts p (at.Allocs making) =
      HasIts p
      × (t : ℕ) × HasTried p t × NewTableFacts w caller setting c blocks (Word (blocks.table t) NEXT) (suc t) making
  CallingFacts p (at.Helps copier goal) =
      HasIts p × (is_incremental setting.mode ≡ true) × (copier.whole ≡ false)
      × (t : ℕ) × IsTable c blocks goal (suc t) × ShutUpTo t × CopierFacts same hash w caller setting c blocks copier
  CallingFacts p (at.Copies copier) =
      HasIts p × (is_incremental setting.mode ≡ false) × CopierFactsBlocking same hash w caller setting c blocks copier
  CallingFacts p (at.Asks asking) = AskingFacts p asking
  -- after its change
  CallingFacts p (at.Counts removed) =
      ((removed ≡ 0) × (n : ℕ) × (change ≡ Stored n) × IsKnown n × (p.own ≡ place_word hash c blocks (Holds n Still false)))
      ⊎ ((n : ℕ) × (t : ℕ) × (borrowed : Bool) × (change ≡ Removed n) × HasLeft w caller setting c blocks n × (removed ≡ place_word hash c blocks (Holds n Still borrowed))
      × IsTable c blocks p.trial.table t
      × cond (cond (is_incremental setting.mode) borrowed false) ((w.hand (blocks.pair n) ≡ Parting caller) × LiesBefore w caller setting c blocks n t)
      ((w.hand (blocks.pair n) ≡ Cutting caller) × LiesNowhere w caller setting c blocks n))
  CallingFacts p (at.Disposes dispose answer) = DisposeFacts w caller setting c blocks dispose × AnswersChange change answer
  CallingFacts p (at.Drops end) = (change ≡ Unchanged) × IsOwnPair p.own p.hash
  CallingFacts p (at.Over end) = change ≡ Unchanged

  -- what a call knows where it stands
  pub record CallFacts (p : KeyCall K V Q) : Type 0 where
    pub setting_is : p.setting ≡ setting
    pub may : MayAsk p
    pub code : p.hash < 2 ^ 64
    pub class : IsClass same hash keys p.hash
    pub unchanged : Seeks p.stands → change ≡ Unchanged
    pub idle : (IsCopying p.stands → ⊥) → IsIdle same hash w caller setting c blocks
    pub point : CallingFacts p p.stands

-- From one state of the tables to the next, a call of these keys has changed the map: what was there before, and what is there now.
module _ {K : Type 0} (same : K → K → Bool) (hash : K → ℕ) (incremental : Bool) (keys : K → Bool) (c c2 : Chart K) where
  abbrev pub Changes : Change → Type 0
  Changes Unchanged = c2.current ≡ c.current
  Changes (Stored n) = (n ≡ c.stored) × IsAbsent same hash incremental c keys × (c2.current ≡ put c.current n true)
  Changes (Replaced o n) = (n ≡ c.stored) × IsPair same hash incremental c keys o × (c2.current ≡ put (put c.current o false) n true)
  Changes (Removed o) = IsPair same hash incremental c keys o × (c2.current ≡ put c.current o false)
