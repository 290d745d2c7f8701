-- A step of a copier, in incremental mode, that wrote one word of a table.
use Rattle.std.specs.Prelude.{IsSome}
use Rattle.std.proofs.Common.{sym, ◌∙◌, ◌≡◌, ℕ, Bool, true, inl, inr, refl}
use Rattle.map_rule.specs.Given.SeizeWordsDeclared.at.At.{At}
use Rattle.map_rule.specs.Given.SeizeWordsMem.{Mem, word_at, with_word, Gives, after as mem_after}
use Rattle.map_rule.specs.Given.SeizeWordsOp.{Op, Out}
use Rattle.papaya_raw.specs.Given.SeizeWorld.{World}
use Rattle.papaya_raw.specs.Given.TablesChunks.{is_incremental}
use Rattle.papaya_raw.specs.Given.TablesDeclared.node.Node.{Node}
use Rattle.map_rule.specs.Given.ResizeDeclared.yielding.Yielding.{Yielding}
use Rattle.papaya_raw.specs.Given.TablesDeclared.setting.Setting.{Setting}
use Rattle.papaya_raw.specs.Given.TablesDeclared.table.Table.{Table}
use Rattle.map_rule.specs.Given.ResizeDeclared.copier.Copier.{Copier}
use Rattle.map_rule.specs.Chart.{Share, Chart}
use Rattle.map_rule.specs.Rule.{IsLawful}
use Rattle.map_rule.specs.Moves.{Move, Links, Stores, Replaces, Removes, Marks, MarksBlocking, Skips, Unmarks, Puts, Covers, PutsLate, Claims, Reclaims, Counts, GivesUp, Aborts, Promotes, Announces, after, Allowed}
use Rattle.map_rule.specs.Lasts.{IsBy}
use Rattle.map_rule.specs.Words.{Blocks, Represents}
use Rattle.map_rule.specs.Maps.{spot_of}
use Rattle.map_rule.specs.InWorld.{IsMapIn, StepSpec, SparesPairs}
use Rattle.map_facts.specs.Told.{CopierOutcome}
use Rattle.map_facts.specs.ToldMoves.{IsPlain, MovedPlain}
use Rattle.map_rule.proofs.World.WentTold.{went_as}
use Rattle.map_rule.proofs.World.Footprints.{MayWriteBy}
use Rattle.map_rule.proofs.Shares.CopiersMoves.{beside}
use Rattle.map_rule.proofs.World.MovesKnown.{IsItsMove, IsOfKnown}
use Rattle.map_rule.proofs.World.Hands.{Hands, hands_of}
use Rattle.map_rule.proofs.World.WentStill.{went_still, spares_same, spares_written}
use Rattle.map_rule.proofs.World.WentIncremental.{went_move}

module _ {K V : Type 0} (same : K → K → Bool) (hash : K → ℕ) (caller : ℕ) (setting : Setting) (w : World (Node K V)) (c : Chart K) (blocks : Blocks) where
  -- What a step of a copier, in incremental mode, comes to: pairs of callers' own are spared, and the map has the pairs that it had.
  abbrev pub CopierWent : Mem (Node K V) → Copier × Yielding (Node K V) Table → Type 0
  CopierWent m2 end =
      StepSpec same hash setting caller w c blocks m2 (λ w2 c2 blocks2. SparesPairs w w2 × (c2.current ≡ c.current) × CopierOutcome w2 caller setting c2 blocks2 same hash end)

  -- and which change of the tables it made
  abbrev pub CopierMoved : (Chart K → Type 0) → Mem (Node K V) → Copier × Yielding (Node K V) Table → Type 0
  CopierMoved Moves m2 end =
      StepSpec same hash setting caller w c blocks m2 (λ w2 c2 blocks2. SparesPairs w w2 × (c2.current ≡ c.current) × CopierOutcome w2 caller setting c2 blocks2 same hash end × Moves c2)

  abbrev pub CopierPlain : Mem (Node K V) → Copier × Yielding (Node K V) Table → Type 0
  CopierPlain = CopierMoved (MovedPlain hash caller c)

  pub copier_went : (Moves : Chart K → Type 0) (m2 : Mem (Node K V)) (end : Copier × Yielding (Node K V) Table) → CopierMoved Moves m2 end → CopierWent m2 end
  copier_went Moves m2 end = went_as same hash setting caller w c blocks m2
      (λ w2 c2 blocks2. SparesPairs w w2 × (c2.current ≡ c.current) × CopierOutcome w2 caller setting c2 blocks2 same hash end × Moves c2)
      (λ w2 c2 blocks2. SparesPairs w w2 × (c2.current ≡ c.current) × CopierOutcome w2 caller setting c2 blocks2 same hash end)
      (λ w2 c2 blocks2 map2 moved blocks_same told. (told.0, told.1, told.2))

  -- such a move is its own, if it is some caller's
  plain_by : (move : Move K) → IsPlain hash caller c move → (i : ℕ) → IsBy i move → i ≡ caller
  plain_by (Links len limit) plain i by = absurd by
  plain_by (Stores t k j) plain i by = absurd plain
  plain_by (Replaces t place k) plain i by = absurd plain
  plain_by (Removes t place) plain i by = absurd plain
  plain_by (Marks other place) plain i by = sym by ∙ plain
  plain_by (MarksBlocking place) plain i by = absurd plain
  plain_by (Skips other t place) plain i by = absurd plain
  plain_by (Unmarks other place) plain i by = sym by ∙ plain
  plain_by (Puts other place t k j) plain i by = sym by ∙ plain
  plain_by (Covers other place) plain i by = sym by ∙ plain
  plain_by (PutsLate t place n) plain i by = absurd plain
  plain_by (Claims other t chunk) plain i by = absurd plain
  plain_by (Reclaims t claim) plain i by = absurd by
  plain_by (Counts other t number) plain i by = absurd plain
  plain_by (GivesUp other t) plain i by = absurd plain
  plain_by (Aborts t) plain i by = absurd plain
  plain_by (Promotes t) plain i by = absurd plain
  plain_by (Announces t) plain i by = absurd plain

  module _ (map : IsMapIn same hash setting w c blocks) where
    -- a step that only read
    pub copier_stays : (Moves : Chart K → Type 0) → Moves c → (m2 : Mem (Node K V)) → m2 ≡ w.memory → (end : Copier × Yielding (Node K V) Table)
        → CopierOutcome w caller setting c blocks same hash end → CopierMoved Moves m2 end
    copier_stays Moves still m2 e end told =
        went_still same hash setting caller w c blocks map m2 e
        (λ w2 c2 blocks2. SparesPairs w w2 × (c2.current ≡ c.current) × CopierOutcome w2 caller setting c2 blocks2 same hash end × Moves c2)
        (spares_same w, refl, told, still)

    pub copier_still : (m2 : Mem (Node K V)) → m2 ≡ w.memory → (end : Copier × Yielding (Node K V) Table)
        → CopierOutcome w caller setting c blocks same hash end → CopierPlain m2 end
    copier_still = copier_stays (MovedPlain hash caller c) (inl refl)

    -- words beside the places say nothing of hands
    pub hands_words : (share : ℕ → ℕ → Share) (claim copied : ℕ → ℕ) → Hands same hash setting w (beside c c.place share claim copied) blocks
    hands_words share claim copied =
        let h = hands_of same hash setting w c blocks map in
        record { tables = h.tables; pairs = h.pairs; named = h.named; tables_out = h.tables_out; pairs_out = h.pairs_out }

    -- a step that wrote a word by an allowed move
    pub copier_moves : (Moves : Chart K → Type 0) → is_incremental setting.mode ≡ true → IsLawful same (spot_of hash) → (op : Op (Node K V)) (out : Out (Node K V)) (at : At) (word : ℕ)
        → MayWriteBy setting caller w c blocks op at → IsSome (word_at w.memory at) → (m2 : Mem (Node K V)) → Gives w.memory op out → m2 ≡ with_word w.memory at word
        → with_word w.memory at word ≡ mem_after w.memory op out
        → (move : Move K) → IsItsMove caller blocks move → Moves (after (spot_of hash) true move c) → Allowed same (spot_of hash) true move c → Represents hash (with_word w.memory at word) (after (spot_of hash) true move c) blocks setting.root
        → (after (spot_of hash) true move c).past ≡ c.past → Hands same hash setting w (after (spot_of hash) true move c) blocks
        → (after (spot_of hash) true move c).current ≡ c.current
        → (end : Copier × Yielding (Node K V) Table)
        → CopierOutcome (record w { memory = with_word w.memory at word }) caller setting (after (spot_of hash) true move c) blocks same hash end
        → CopierMoved Moves m2 end
    copier_moves Moves bits lawful op out at word own some m2 gives is wrote move by moves allowed shows past hands current end told =
        went_move same hash setting w c blocks map bits caller lawful op out at word own some m2 gives is wrote
        (λ w2 c2 blocks2. SparesPairs w w2 × (c2.current ≡ c.current) × CopierOutcome w2 caller setting c2 blocks2 same hash end × Moves c2)
        move by allowed shows past current hands (spares_written w at word some, current, told, moves)

    pub copier_wrote : is_incremental setting.mode ≡ true → IsLawful same (spot_of hash) → (op : Op (Node K V)) (out : Out (Node K V)) (at : At) (word : ℕ)
        → MayWriteBy setting caller w c blocks op at → IsSome (word_at w.memory at) → (m2 : Mem (Node K V)) → Gives w.memory op out → m2 ≡ with_word w.memory at word
        → with_word w.memory at word ≡ mem_after w.memory op out
        → (move : Move K) → IsPlain hash caller c move → IsOfKnown blocks move → Allowed same (spot_of hash) true move c → Represents hash (with_word w.memory at word) (after (spot_of hash) true move c) blocks setting.root
        → (after (spot_of hash) true move c).past ≡ c.past → Hands same hash setting w (after (spot_of hash) true move c) blocks
        → (after (spot_of hash) true move c).current ≡ c.current
        → (end : Copier × Yielding (Node K V) Table)
        → CopierOutcome (record w { memory = with_word w.memory at word }) caller setting (after (spot_of hash) true move c) blocks same hash end
        → CopierPlain m2 end
    copier_wrote bits lawful op out at word own some m2 gives is wrote move plain known =
        copier_moves (MovedPlain hash caller c) bits lawful op out at word own some m2 gives is wrote move (plain_by move plain, known) (inr (move, plain, refl))
