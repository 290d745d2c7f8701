-- A copier, in incremental mode, marks a place of the root that was not marked.
use Rattle.std.specs.Prelude.{Some, bit_or, if◌then◌else◌, ◌==◌}
use Rattle.std.proofs.Common.{◌≡◌, ◌≢◌, ℕ, suc, ◌/◌, ◌^◌, ◌<◌, Bool, true, false, refl, ap, sym, subst, ◌∙◌, arith}
use Rattle.std.proofs.lemmas.Bool.{eq-eqb, ne_eqb}
use Rattle.map_rule.specs.Given.SeizeWordsMem.{Mem, value_at, word_at, with_word}
use Rattle.map_rule.specs.Given.SeizeWordsOp.{Or, Found}
use Rattle.map_rule.specs.Given.SeizeWordsPlan.{Ends, Seeing}
use Rattle.map_rule.proofs.Given.SeizeWordsOneOwner.AfterWrites.{value_at-with_word}
use Rattle.papaya_raw.specs.Given.SeizeWorld.{World}
use Rattle.papaya_raw.specs.Given.TablesChunks.{is_incremental}
use Rattle.map_rule.specs.Given.ResizeCopierMarks.{mine_marked, without_copying, key_hash, probing, to}
use Rattle.map_rule.specs.Given.ResizeCopierStates.{place_done}
use Rattle.papaya_raw.specs.Given.TablesTablePlaces.{at_place}
use Rattle.papaya_raw.specs.Given.TablesDeclared.marks.TheConstants.{COPYING}
use Rattle.papaya_raw.specs.Given.TablesDeclared.node.Node.{Node}
use Rattle.papaya_raw.specs.Given.TablesDeclared.node.Node.TheVariants as node
use Rattle.papaya_raw.specs.Given.TablesDeclared.table.Table.{Table}
use Rattle.map_rule.specs.Given.ResizeDeclared.yielding.Yielding.{Yielding}
use Rattle.map_rule.specs.Given.ResizeDeclared.yielding.Yielding.TheVariants.{Goes}
use Rattle.papaya_raw.specs.Given.TablesDeclared.setting.Setting.{Setting}
use Rattle.map_rule.specs.Given.ResizeDeclared.copier.Copier.{Copier}
use Rattle.map_rule.specs.Chart.{Phase, Still, Copying, Copied, Place, Empty, Tombstone, Holds, Free, Done, Chart, put_in, is_marked, is_settled}
use Rattle.map_rule.specs.Rule.{IsLawful}
use Rattle.map_rule.specs.Moves.{Marks, marked, share_of}
use Rattle.map_rule.specs.Words.{Blocks, place_word, byte_of}
use Rattle.map_rule.specs.Maps.{spot_of}
use Rattle.map_rule.specs.InWorld.{IsMapIn}
use Rattle.map_facts.specs.FactsCopies.{CopiesRoot, HasDone, ClaimsNone, HasSettled, InRange}
use Rattle.map_facts.specs.Told.{CopierOutcome}
use Rattle.map_facts.proofs.Copiers.CopiersDone.{done_facts}
use Rattle.map_facts.proofs.Copiers.CopiersMarked.{probing_marked}
use Rattle.map_rule.proofs.Shares.CopiersPlaces.{placed_hands, placed_shows}
use Rattle.map_facts.proofs.Copiers.CopiersWrote.{CopierPlain, copier_wrote}
use Rattle.map_rule.proofs.Moves.MarksIncremental.{was_free}
use Rattle.map_rule.proofs.Words.OwnWords.{own_at_place}
use Rattle.map_rule.proofs.Words.PlaceWords.{pair_block, empty_block, tombstone_block}
use Rattle.map_rule.proofs.Words.PlaceWordsWritten.{word-marked, without_copying-still}
use Rattle.map_rule.proofs.Words.PlacesShown.{byte_of-few}
use Rattle.map_rule.proofs.Moves.SamePairs.{marked_keeps}
use Rattle.map_rule.proofs.Words.TablesSeen.{place_there}
use Rattle.map_rule.proofs.World.WentIncremental.{rule_incremental}
use Rattle.map_rule.proofs.Given.General.{some_is as is_some_of}

module _ {K V : Type 0} (same : K → K → Bool) (hash : K → ℕ) (caller : ℕ) (setting : Setting) (w : World (Node K V)) (c : Chart K) (blocks : Blocks)
    (map : IsMapIn same hash setting w c blocks) where
  -- what the pair of a place that can be looked at says, by the place's word
  pub pair_here : ((k : K) → hash k < 2 ^ 64) → (t i n : ℕ) (phase : Phase) (borrowed : Bool) → t < c.past → blocks.table_known t ≡ true → c.place t i ≡ Holds n phase borrowed
      → (0 < blocks.pair n) × (place_word hash c blocks (c.place t i) / 2048 ≡ blocks.pair n)
      × (k : K) × (v : V) × (value_at w.memory (place_word hash c blocks (c.place t i) / 2048) ≡ Some (node.Pair k v)) × (c.key n ≡ Some k)
  pair_here fits t i n phase borrowed made known e =
      let stored = (map.map.rule.common.keyed t i n phase borrowed e).0 in
      let seen = map.map.shows.named t i n phase borrowed made known e in
      let q = map.map.shows.pairs n stored seen in
      let block : place_word hash c blocks (c.place t i) / 2048 ≡ blocks.pair n =
      ap (λ (x : Place). place_word hash c blocks x / 2048) e ∙ pair_block blocks.pair (λ o. byte_of hash (c.key o)) n phase borrowed (byte_of-few hash fits (c.key n)) in
      ((map.map.shows.pair_numbers n stored seen).0, block, q.0, q.1, ap (value_at w.memory) block ∙ q.2, q.3)

  module _ (fits : (k : K) → hash k < 2 ^ 64) (lawful : IsLawful same (spot_of hash)) (bits : is_incremental setting.mode ≡ true) (p : Copier) (is : p.setting ≡ setting)
      (copies : CopiesRoot same hash w caller setting c blocks p) (done : HasDone same hash w caller setting c blocks p.done)
      (none : ClaimsNone same hash w caller setting c blocks) (range : InRange same hash w caller setting c blocks p c.first)
      (settled : HasSettled same hash w caller setting c blocks p c.first p.place) (unmarked : is_marked (c.place c.first p.place) ≡ false) where
    word_here : word_at w.memory (at_place p.source p.place) ≡ Some (place_word hash c blocks (c.place c.first p.place))
    word_here = place_there hash w.memory c blocks setting.root map.map.shows p.source c.first copies.0 p.place range.0

    free : c.share (suc c.first) p.place ≡ Free
    free = was_free same (spot_of hash) caller p.place c (rule_incremental same hash setting w c blocks map bits) (refl, range.0, copies.1.made, unmarked)

    -- the world with the place marked, and the chart with this place of it marked
    abbrev pub world_marked : World (Node K V)
    world_marked = record w { memory = with_word w.memory (at_place p.source p.place) (place_word hash c blocks (marked (c.place c.first p.place))) }

    abbrev pub chart_marked : Place → Chart K
    chart_marked place = record c { place = put_in c.place c.first p.place (marked place); share = put_in c.share (suc c.first) p.place (share_of caller place) }

    -- an empty place or a tombstone is done
    vacant : (word : ℕ) → word / 2048 ≡ 0 → (m : Mem (Node K V)) (end : Copier × Yielding (Node K V) Table) → Ends (value_at m) (mine_marked hash p word) end → end ≡ (place_done p, Goes)
    vacant word none_there m end = at (word / 2048 == 0) (eq-eqb (word / 2048) 0 none_there)
      where
        at : (b : Bool) → b ≡ true
            → Ends (value_at m) (if b then to (place_done p) else Seeing (word / 2048) (λ value. to (probing p (without_copying word) (key_hash hash value) p.target))) end
            → end ≡ (place_done p, Goes)
        at true e ends = ends
        at false e ends = absurd (cc e)

    -- a pair is looked at
    holding : (word : ℕ) → word / 2048 ≢ 0 → (m : Mem (Node K V)) (end : Copier × Yielding (Node K V) Table) → Ends (value_at m) (mine_marked hash p word) end
        → (value : Node K V) × (value_at m (word / 2048) ≡ Some value) × (end ≡ (probing p (without_copying word) (key_hash hash value) p.target, Goes))
    holding word some m end = at (word / 2048 == 0) (ne_eqb (word / 2048) 0 some)
      where
        at : (b : Bool) → b ≡ false
            → Ends (value_at m) (if b then to (place_done p) else Seeing (word / 2048) (λ value. to (probing p (without_copying word) (key_hash hash value) p.target))) end
            → (value : Node K V) × (value_at m (word / 2048) ≡ Some value) × (end ≡ (probing p (without_copying word) (key_hash hash value) p.target, Goes))
        at true e ends = absurd (cc e)
        at false e ends = ends

    -- where nothing is left to be copied, the place is done
    told_done : (place : Place) → (end : Copier × Yielding (Node K V) Table) → end ≡ (place_done p, Goes) → is_settled place ≡ true
        → CopierOutcome world_marked caller setting (record c { place = put_in c.place c.first p.place place; share = put_in c.share (suc c.first) p.place (Done caller) }) blocks same hash end
    told_done place end e over =
        subst (CopierOutcome world_marked caller setting (record c { place = put_in c.place c.first p.place place; share = put_in c.share (suc c.first) p.place (Done caller) }) blocks same hash) (sym e)
        (done_facts same hash w caller setting c blocks bits p is place over (rw free refl) (λ j claimed. absurd (none j claimed)) copies done range settled
        (map.map.shows.sized c.first copies.0.made).most world_marked)

    -- a pair is to be put into the table behind
    probing_told : (n : ℕ) (borrowed : Bool) → c.place c.first p.place ≡ Holds n Still borrowed → (k : K) → c.key n ≡ Some k → (end : Copier × Yielding (Node K V) Table) (word : ℕ)
        → word ≡ place_word hash c blocks (Holds n Still borrowed) → end ≡ (probing p (without_copying word) (hash k) p.target, Goes)
        → CopierOutcome world_marked caller setting (chart_marked (Holds n Still borrowed)) blocks same hash end
    probing_told n borrowed e k key end word is_word ends =
        subst (CopierOutcome world_marked caller setting (chart_marked (Holds n Still borrowed)) blocks same hash) (sym ends)
        (probing_marked same hash w caller setting c blocks p is n borrowed k (without_copying word) copies done none range settled key free
        (ap without_copying is_word ∙ without_copying-still blocks.pair (λ o. byte_of hash (c.key o)) n borrowed) world_marked lawful
        (rule_incremental same hash setting w c blocks map bits) (map.map.shows.sized (suc c.first) copies.1.made) e)

    pair_told : (n : ℕ) (borrowed : Bool) → c.place c.first p.place ≡ Holds n Still borrowed → (m : Mem (Node K V)) → ((b : ℕ) → value_at m b ≡ value_at w.memory b)
        → (end : Copier × Yielding (Node K V) Table) (word : ℕ) → word ≡ place_word hash c blocks (Holds n Still borrowed) → 0 < blocks.pair n → word / 2048 ≡ blocks.pair n
        → (k : K) (v : V) → value_at w.memory (word / 2048) ≡ Some (node.Pair k v) → c.key n ≡ Some k
        → Ends (value_at m) (mine_marked hash p word) end → CopierOutcome world_marked caller setting (chart_marked (Holds n Still borrowed)) blocks same hash end
    pair_told n borrowed e m values end word is_word some block k v shown key ends =
        let seen = holding word (λ zero_is. absurd (omega (arith, zero_is, block, some))) m end ends in
        let value : seen.0 ≡ node.Pair k v = (let same_value = values (word / 2048) in cc (same_value, seen.1, shown)) in
        probing_told n borrowed e k key end word is_word (seen.2 ∙ ap (λ (x : ℕ). (probing p (without_copying word) x p.target, Goes)) (ap (key_hash hash) value))

    told : (place : Place) → c.place c.first p.place ≡ place → (m : Mem (Node K V)) → ((b : ℕ) → value_at m b ≡ value_at w.memory b) → (end : Copier × Yielding (Node K V) Table)
        → Ends (value_at m) (mine_marked hash p (place_word hash c blocks place)) end → CopierOutcome world_marked caller setting (chart_marked place) blocks same hash end
    told (Empty mark) e m values end ends =
        told_done (Empty true) end (vacant (place_word hash c blocks (Empty mark)) (empty_block blocks.pair (λ o. byte_of hash (c.key o)) mark) m end ends) refl
    told (Tombstone mark) e m values end ends =
        told_done (Tombstone true) end (vacant (place_word hash c blocks (Tombstone mark)) (tombstone_block blocks.pair (λ o. byte_of hash (c.key o)) mark) m end ends) refl
    told (Holds n Copying borrowed) e m values end ends = absurd (let h = ap is_marked e in cc (h, unmarked))
    told (Holds n Copied borrowed) e m values end ends = absurd (let h = ap is_marked e in cc (h, unmarked))
    told (Holds n Still borrowed) e m values end ends =
        let pair = pair_here fits c.first p.place n Still borrowed copies.0.made copies.0.known e in
        pair_told n borrowed e m values end (place_word hash c blocks (Holds n Still borrowed)) refl pair.0
        (sym (ap (λ (x : Place). place_word hash c blocks x / 2048) e) ∙ pair.1) pair.2 pair.3
        (ap (λ (x : Place). value_at w.memory (place_word hash c blocks x / 2048)) (sym e) ∙ pair.4) pair.5 ends

    pub went_first : (m2 : Mem (Node K V)) (end : Copier × Yielding (Node K V) Table) (word : ℕ) → word_at w.memory (at_place p.source p.place) ≡ Some word
        → m2 ≡ with_word w.memory (at_place p.source p.place) (bit_or word COPYING)
        → Ends (value_at (with_word w.memory (at_place p.source p.place) (bit_or word COPYING))) (mine_marked hash p word) end → CopierPlain same hash caller setting w c blocks m2 end
    went_first m2 end word read e ends =
        copier_wrote same hash caller setting w c blocks map bits lawful (Or (at_place p.source p.place) COPYING) (Found word) (at_place p.source p.place)
        (place_word hash c blocks (marked (c.place c.first p.place)))
        (own_at_place same hash setting w c blocks map caller p.source c.first p.place copies.0 range.0) (is_some_of _ _ word_here) m2 read
        (e ∙ ap (with_word w.memory (at_place p.source p.place)) written) (ap (with_word w.memory (at_place p.source p.place)) (sym written))
        (Marks caller p.place) refl tt (refl, range.0, copies.1.made, unmarked)
        (placed_shows same hash setting w c blocks map p.source copies.0 p.place (marked (c.place c.first p.place)) (marked_keeps (c.place c.first p.place))
        (put_in c.share (suc c.first) p.place (share_of caller (c.place c.first p.place))) range.0)
        refl
        (placed_hands same hash setting w c blocks map p.source copies.0 p.place (marked (c.place c.first p.place)) (marked_keeps (c.place c.first p.place))
        (put_in c.share (suc c.first) p.place (share_of caller (c.place c.first p.place))))
        refl end
        (told (c.place c.first p.place) refl (with_word w.memory (at_place p.source p.place) (bit_or word COPYING))
        (λ b. value_at-with_word w.memory (at_place p.source p.place) (bit_or word COPYING) b (is_some_of _ _ word_here)) end
        (subst (λ (x : ℕ). Ends (value_at (with_word w.memory (at_place p.source p.place) (bit_or word COPYING))) (mine_marked hash p x) end) is_word ends))
      where
        is_word : word ≡ place_word hash c blocks (c.place c.first p.place)
        is_word = let there = word_here in cc (there, read)

        written : bit_or word COPYING ≡ place_word hash c blocks (marked (c.place c.first p.place))
        written = ap (λ x. bit_or x COPYING) is_word ∙ word-marked blocks.pair (λ o. byte_of hash (c.key o)) (c.place c.first p.place)
