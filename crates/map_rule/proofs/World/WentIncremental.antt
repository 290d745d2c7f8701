-- In incremental mode, a step of a call that wrote a word of a table by an allowed move.
use Rattle.std.specs.Prelude.{◌≡◌, ℕ, Bool, true, IsSome}
use Rattle.std.proofs.Common.{subst}
use Rattle.map_machines.specs.Given.SeizeWordsDeclared.at.At.{At}
use Rattle.map_machines.specs.Given.SeizeWordsOp.{Op, Out}
use Rattle.map_machines.specs.Given.SeizeWordsMem.{Mem, word_at, with_word, Gives, after as mem_after}
use Rattle.seize_rule.specs.Given.SeizeWorld.{World}
use Rattle.map_machines.specs.Given.TablesChunks.{is_incremental}
use Rattle.map_machines.specs.Given.TablesDeclared.node.Node.{Node}
use Rattle.map_machines.specs.Given.TablesDeclared.setting.Setting.{Setting}
use Rattle.map_rule.specs.Chart.{Chart}
use Rattle.map_rule.specs.Rule.{Rule, IsLawful}
use Rattle.map_rule.specs.Moves.{Move, after, Allowed}
use Rattle.map_rule.specs.Words.{Blocks, Represents}
use Rattle.map_rule.specs.Maps.{spot_of}
use Rattle.map_rule.specs.InWorld.{IsMapIn, StepSpec}
use Rattle.map_rule.proofs.World.MovesKnown.{IsItsMove}
use Rattle.map_rule.proofs.World.Hands.{Hands}
use Rattle.map_rule.proofs.World.Footprints.{MayWriteBy}
use Rattle.map_rule.proofs.World.WentWrote.{went_moved}

module _ {K V : Type 0} (same : K → K → Bool) (hash : K → ℕ) (setting : Setting) (w : World (Node K V)) (c : Chart K) (blocks : Blocks)
    (map : IsMapIn same hash setting w c blocks) (bits : is_incremental setting.mode ≡ true) where
  pub rule_incremental : Rule same (spot_of hash) true c
  rule_incremental = subst (λ (b : Bool). Rule same (spot_of hash) b c) bits map.map.rule

  -- The tables are those that were there, and so are their blocks.
  pub went_move : (caller : ℕ) → IsLawful same (spot_of hash) → (op : Op (Node K V)) (out : Out (Node K V)) (at : At) (word : ℕ) → MayWriteBy setting caller w c blocks op at → IsSome (word_at w.memory at)
      → (m2 : Mem (Node K V)) → Gives w.memory op out → m2 ≡ with_word w.memory at word → with_word w.memory at word ≡ mem_after w.memory op out
      → (Told : World (Node K V) → Chart K → Blocks → Type 0)
      → (move : Move K) → IsItsMove caller blocks move → Allowed same (spot_of hash) true move c
      → Represents hash (with_word w.memory at word) (after (spot_of hash) true move c) blocks setting.root
      → (after (spot_of hash) true move c).past ≡ c.past → (after (spot_of hash) true move c).current ≡ c.current
      → Hands same hash setting w (after (spot_of hash) true move c) blocks
      → Told (record w { memory = with_word w.memory at word }) (after (spot_of hash) true move c) blocks
      → StepSpec same hash setting caller w c blocks m2 Told
  went_move caller lawful op out at word own some m2 gives is wrote Told move by = subst Goal bits first
    where
      Goal : Bool → Type 0
      Goal b =
          Allowed same (spot_of hash) b move c → Represents hash (with_word w.memory at word) (after (spot_of hash) b move c) blocks setting.root
          → (after (spot_of hash) b move c).past ≡ c.past → (after (spot_of hash) b move c).current ≡ c.current
          → Hands same hash setting w (after (spot_of hash) b move c) blocks
          → Told (record w { memory = with_word w.memory at word }) (after (spot_of hash) b move c) blocks
          → StepSpec same hash setting caller w c blocks m2 Told

      first : Goal (is_incremental setting.mode)
      first allowed shows past current hands told =
          went_moved same hash setting caller w c blocks map lawful op out at word own some m2 gives is wrote move by allowed past current shows hands Told told
