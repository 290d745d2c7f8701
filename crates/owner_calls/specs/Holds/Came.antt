-- Which pairs a memory has, block by block, and which of them have come since it was another one.
use Rattle.std.specs.Prelude.{◌≡◌, ◌≢◌, ℕ, ◌<◌, ◌^◌, ◌⊎◌, List, Option, Some, None, Result, Ok, Err}
use Rattle.seize_words.specs.OneMemory.Mem.{Mem, value_at}
use Rattle.seize_words.specs.OneMemory.Word.{block_in}
use Rattle.seize_words.specs.declared.fault.Fault.{Fault}
use Rattle.seize.specs.World.{times}
use Rattle.seize.specs.declared.rows.settle.Settled.{Settled}
use Rattle.seize.specs.declared.rows.settle.Settled.TheVariants as settled
use Rattle.map_tables.specs.declared.marks.TheConstants.{TOMBSTONE}
use Rattle.map_tables.specs.declared.node.Node.{Node}
use Rattle.map_tables.specs.declared.node.Node.TheVariants as node
use Rattle.papaya_raw.specs.declared.machines.answer.End.{End}
use Rattle.papaya_raw.specs.declared.machines.answer.End.TheVariants as ends
use Rattle.papaya_raw.specs.declared.machines.answer.KeyAnswer.{KeyAnswer}
use Rattle.papaya_raw.specs.declared.machines.answer.KeyAnswer.TheVariants as answers
use Rattle.papaya_raw.specs.declared.machines.answer.Missing.TheVariants as missing
use Rattle.papaya_raw.specs.declared.machines.answer.There.TheVariants as there
use Rattle.papaya_raw.specs.declared.machines.call.Calling.{Calling}
use Rattle.papaya_raw.specs.declared.machines.call.Calling.TheVariants as at
use Rattle.papaya_raw.specs.declared.machines.call.KeyCall.{KeyCall}
use Rattle.owner_whole.specs.Strides.Standing.{Standing}
use Rattle.owner_calls.specs.declared.machines.OnKey.{OnKey}
use Rattle.owner_calls.specs.declared.machines.Stop.{Stop}
use Rattle.owner_calls.specs.declared.machines.Stop.TheVariants as stop

-- the word of the pair that a call on one key has stored, if it has stored one
abbrev pub stored_by : KeyAnswer → Option ℕ
stored_by (answers.Stored word) = Some word
stored_by (answers.Replaced old new) = Some new
stored_by _ = None

abbrev pub stored_at : Result Stop Fault → Option ℕ
stored_at (Ok (stop.Answered answer)) = stored_by answer
stored_at _ = None

module _ {K V : Type 0} where
  -- this pair stands in this block
  abbrev pub StandsAt : Mem (Node K V) → ℕ → K × V → Type 0
  StandsAt m b x = value_at m b ≡ Some (node.Pair x.0 x.1)

  module _ (m0 m : Mem (Node K V)) where
    -- Since the memory was so, no pair has come: each one that is there stood in the same block.
    abbrev pub NoneCame : Type 0
    NoneCame = (b : ℕ) (x : K × V) → StandsAt m b x → StandsAt m0 b x

    -- but for what stands in this block
    abbrev pub NoneCameBut : ℕ → Type 0
    NoneCameBut c = (b : ℕ) (x : K × V) → StandsAt m b x → StandsAt m0 b x ⊎ (b ≡ c)

    -- Each pair that was there stands there still, or is what this tells as given back.
    abbrev pub HandsOut : Settled (Node K V) → Type 0
    HandsOut told = (b : ℕ) (x : K × V) → StandsAt m0 b x → StandsAt m b x ⊎ (told ≡ settled.Gave (node.Pair x.0 x.1))

    -- each of these pairs stood in a block of its own, and stands there still
    abbrev pub StayInPlace : List (K × V) → Type 0
    StayInPlace xs = (blocks : List ℕ) × Standing m0 blocks xs × Standing m blocks xs

    -- and by how a call on one key has stopped, what it tells as stored stands in none of these blocks
    abbrev pub StayBeside : List (K × V) → Result Stop Fault → Type 0
    StayBeside xs result = (blocks : List ℕ) × Standing m0 blocks xs × Standing m blocks xs × ((word : ℕ) → stored_at result ≡ Some word → times (block_in word) blocks ≡ 0)

    -- By the answer of a call on one key: where it tells the word of a pair that was stored, that pair alone has come.
    abbrev pub CameBy : KeyAnswer → Type 0
    CameBy (answers.Stored word) = NoneCameBut (block_in word)
    CameBy (answers.Replaced old new) = NoneCameBut (block_in new)
    CameBy _ = NoneCame

-- What an answer tells of the word of the call's own block: it is that of the pair stored, or there is no such block.
abbrev pub AnswerNamesOwn : ℕ → KeyAnswer → Type 0
AnswerNamesOwn own (answers.Stored word) = word ≡ own
AnswerNamesOwn own (answers.Replaced old new) = new ≡ own
AnswerNamesOwn own _ = own ≡ 0

abbrev pub EndsOwn : ℕ → End → Type 0
EndsOwn own (ends.Answered answer) = AnswerNamesOwn own answer
EndsOwn own (ends.Refused fault) = own ≡ 0

module _ {K V Q : Type 0} where
  -- By where a call stands: it has no block of its own, or one that it is to put into the map, or has put there, or is to give up.
  abbrev pub OwnsAt : KeyCall K V Q → Calling → Type 0
  OwnsAt p at.Makes = (p.own ≡ 0) × (p.there ≢ there.Removes)
  OwnsAt p (at.Looks lookup) = p.own ≡ 0
  OwnsAt p (at.Tries word new) = (new ≡ p.own) ⊎ (p.own ≡ 0)
  OwnsAt p (at.Counts removed) = (removed ≡ 0) ⊎ (p.own ≡ 0)
  OwnsAt p (at.Asks asking) = p.there ≢ there.Removes
  OwnsAt p (at.Disposes dispose answer) = AnswerNamesOwn p.own answer
  OwnsAt p (at.Drops end) = EndsOwn 0 end
  OwnsAt p (at.Over end) = EndsOwn p.own end
  OwnsAt p _ = Unit {0}

  -- A call that only removes has none at all. The word of such a block is no tombstone.
  pub record Owns (p : KeyCall K V Q) : Type 0 where
    pub code : p.hash < 2 ^ 64
    pub live : p.own ≢ TOMBSTONE
    pub removes : p.there ≡ there.Removes → (p.missing ≡ missing.Answers) × (p.own ≡ 0)
    pub point : OwnsAt p p.stands

  -- Since the memory was so, no pair has come but that of the call's own block.
  abbrev pub HasOnly : Mem (Node K V) → Mem (Node K V) → KeyCall K V Q → Type 0
  HasOnly m0 m p = (b : ℕ) (x : K × V) → StandsAt m b x → StandsAt m0 b x ⊎ ((p.own ≢ 0) × (b ≡ block_in p.own))

  -- A call on one key is under way since the memory was so, and no pair has come but in its own block.
  pub record HasCome (m0 m : Mem (Node K V)) (p : KeyCall K V Q) : Type 0 where
    pub owns : Owns p
    pub only : HasOnly m0 m p

  -- What a run of it has come to: its answer, a question, or a refusal.
  abbrev pub HasOutcome : {S : Type 0} → Mem (Node K V) → Mem (Node K V) → OnKey K V Q S → Result Stop Fault → Type 0
  HasOutcome m0 m x (Ok (stop.Answered answer)) = CameBy m0 m answer
  HasOutcome m0 m x (Ok (stop.Asks asked)) = HasCome m0 m x.call
  HasOutcome m0 m x (Err fault) = NoneCame m0 m
