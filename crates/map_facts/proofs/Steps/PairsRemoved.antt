-- A caller removes a pair that stands unmarked at a place, in a table in which its key may change: what follows, whoever does so.
use Rattle.std.specs.Prelude.{◌≡◌, ◌≢◌, ℕ, ◌+◌, ◌^◌, ◌<◌, ◌≤◌, Bool, true, false, cond, [], ◌∷◌, Some}
use Rattle.std.proofs.Common.{arith, refl, ap, sym, subst, ◌∙◌, inr}
use Rattle.map_rule.specs.Given.SeizeWordsDeclared.at.At.{At}
use Rattle.map_rule.specs.Given.SeizeWordsDeclared.at.At.TheVariants.{Word}
use Rattle.map_rule.specs.Given.SeizeWordsMem.{Mem, word_at, with_word}
use Rattle.papaya_raw.specs.Given.SeizeLaw.{Unlinked}
use Rattle.papaya_raw.specs.Given.SeizeWorld.{World, Hand, InUse, Parting, Cutting, Parts, Unlinks, with_at, MayCut}
use Rattle.papaya_raw.specs.Given.TablesChunks.{is_incremental}
use Rattle.papaya_raw.specs.Given.TablesDeclared.marks.TheConstants.{TOMBSTONE}
use Rattle.papaya_raw.specs.Given.TablesDeclared.node.Node.{Node}
use Rattle.papaya_raw.specs.Given.TablesDeclared.setting.Setting.{Setting}
use Rattle.papaya_raw.specs.Given.TablesDeclared.table_words.TheConstants.{PLACES}
use Rattle.map_rule.proofs.Given.SeizeRuleRows.Others.{with_here}
use Rattle.map_rule.specs.Chart.{Phase, Still, Place, Tombstone, Holds, Chart, put, put_in}
use Rattle.map_rule.specs.Rule.{IsLawful, is_of}
use Rattle.map_rule.specs.Moves.{Removes, after, Allowed, MayChange, without}
use Rattle.map_rule.specs.Words.{Blocks, byte_of, place_word, Represents}
use Rattle.map_rule.specs.Maps.{spot_of}
use Rattle.map_rule.specs.InWorld.{IsMapIn, StepSpec}
use Rattle.map_rule.proofs.Words.PlaceWordsRead.{word-same_pair}
use Rattle.map_rule.proofs.Words.PlacesShown.{byte_of-few, shown_byte, shown_apart, are_stored}
use Rattle.map_rule.proofs.Words.WritesPlaces.{place_written}
use Rattle.map_rule.proofs.Words.LinksOwn.{OutsAreKnown, outs_handed, known_same, known_with}
use Rattle.map_rule.proofs.World.Framed.{shows_beside}
use Rattle.map_rule.proofs.World.Hands.{Hands, hands_of}
use Rattle.map_rule.proofs.World.HandsStored.{hands_tombstone, hands_left, hands_parting}
use Rattle.map_rule.proofs.World.OthersSpared.{keeps_handed, used_not_held}
use Rattle.map_rule.proofs.Moves.Promised.{moves_keep}
use Rattle.map_facts.specs.FactsDisposes.{HasLeft}
use Rattle.map_facts.proofs.Disposals.DisposesBegin.{IsTakenOut}
use Rattle.map_facts.proofs.Steps.PlacesChanged as places
use Rattle.map_facts.proofs.Steps.StandsOut.{tombstone_has_left, tombstone_stands}

module _ {K V : Type 0} (same : K → K → Bool) (hash : K → ℕ) (caller : ℕ) (setting : Setting)
    (w : World (Node K V)) (c : Chart K) (blocks : Blocks) (map : IsMapIn same hash setting w c blocks)
    (t i : ℕ) (made : t < c.past) (seen : blocks.table_known t ≡ true) (inside : i < c.len t) (at : At) (at_is : at ≡ Word (blocks.table t) (i + PLACES)) where
  -- the pair of a known word stands at its place still
  pub stands_still : ((k : K) → hash k < 2 ^ 64) → (n : ℕ) (borrowed : Bool) → n < c.stored → blocks.pair_known n ≡ true → (word found : ℕ) → word ≡ place_word hash c blocks (Holds n Still borrowed)
      → (word_at w.memory at ≡ Some found) × (found ≡ word) → c.place t i ≡ Holds n Still borrowed
  stands_still fits n borrowed was known word found word_is is =
      word-same_pair blocks.pair (λ o. byte_of hash (c.key o)) n Still borrowed (c.place t i)
      (map.map.shows.pair_numbers n was known).0 (byte_of-few hash fits (c.key n)) (shown_byte hash fits c.key (c.place t i))
      (shown_apart hash w.memory c blocks setting.root map.map.shows (are_stored same (spot_of hash) (is_incremental setting.mode) c map.map.rule.common) t i made seen n was known)
      (sym (places.word_is same hash caller setting w c blocks map t i made seen inside at at_is found is.0) ∙ is.1 ∙ word_is)

  module _ (lawful : IsLawful same (spot_of hash)) (n : ℕ) (k : K) (borrowed : Bool) (known : blocks.pair_known n ≡ true) (stands : c.place t i ≡ Holds n Still borrowed)
      (of_key : is_of same (spot_of hash) (is_incremental setting.mode) k (c.key n) ≡ true) (may : MayChange same (spot_of hash) (is_incremental setting.mode) c t k)
      (current : c.current n ≡ true) where
    abbrev bit : Bool
    bit = is_incremental setting.mode

    abbrev c2 : Chart K
    c2 = after (spot_of hash) (is_incremental setting.mode) (Removes t i) c

    pair_used : w.hand (blocks.pair n) ≡ InUse setting.counter
    pair_used = map.pairs n current

    allowed : Allowed same (spot_of hash) (is_incremental setting.mode) (Removes t i) c
    allowed = (k, (n, borrowed, stands, of_key), may)

    was : n < c.stored
    was = (map.map.rule.common.keyed t i n Still borrowed stands).0

    shown : Represents hash (with_word w.memory (Word (blocks.table t) (i + PLACES)) TOMBSTONE) (after (spot_of hash) (is_incremental setting.mode) (Removes t i) c) blocks setting.root
    shown =
        shows_beside hash (with_word w.memory (Word (blocks.table t) (i + PLACES)) TOMBSTONE) (record c { place = put_in c.place t i (Tombstone false) }) blocks setting.root c.share
        (without (spot_of hash) bit (c.place t i) c.current)
        (place_written hash w.memory c blocks setting.root map.map.shows t i (Tombstone false) made seen inside (λ o phase lent e. absurd (cc e)))

    hands : Hands same hash setting w (after (spot_of hash) (is_incremental setting.mode) (Removes t i) c) blocks
    hands = hands_tombstone same hash setting w c blocks map.map.rule t i (hands_of same hash setting w c blocks map)

    pub left : HasLeft w caller setting (after (spot_of hash) (is_incremental setting.mode) (Removes t i) c) blocks n
    left = tombstone_has_left same (spot_of hash) w caller setting blocks lawful c t i n k bit map.map.rule borrowed stands known

    -- it alone is in the map no more
    pub one_less : (after (spot_of hash) (is_incremental setting.mode) (Removes t i) c).current ≡ put c.current n false
    one_less = ap (λ (x : Place). without (spot_of hash) bit x c.current) stands

    abbrev Older : Type 0
    Older = (u j : ℕ) (phase : Phase) (lent : Bool) → c2.place u j ≡ Holds n phase lent → u < t

    abbrev Nowhere : Type 0
    Nowhere = (u j : ℕ) (phase : Phase) (lent : Bool) → c2.first ≤ u → u < c2.past → c2.place u j ≢ Holds n phase lent

    stands_out : cond (cond bit borrowed false) Older Nowhere
    stands_out = tombstone_stands same (spot_of hash) w caller setting blocks lawful c t i n k bit map.map.rule borrowed stands of_key may

    -- nothing comes out but the pair
    come_out : (new : Hand) → OutsAreKnown caller w.hand (with_at w.hand (blocks.pair n) new) c2 blocks
    come_out new = known_with caller w.hand c2 blocks w.hand (blocks.pair n) new (λ own out. inr (n, was, known, refl)) (known_same caller w.hand c2 blocks)

    -- The tombstone was written. What is so wherever the pair was taken out is so of where that led.
    module _ (word found : ℕ) (is : (word_at w.memory at ≡ Some found) × (found ≡ word)) (m2 : Mem (Node K V)) (after_is : m2 ≡ with_word w.memory at TOMBSTONE)
        (Told : World (Node K V) → Chart K → Blocks → Type 0)
        (told : (w2 : World (Node K V)) → IsTakenOut w2 caller setting (after (spot_of hash) (is_incremental setting.mode) (Removes t i) c) blocks n t borrowed
        → Told w2 (after (spot_of hash) (is_incremental setting.mode) (Removes t i) c) blocks) where
      by_older : (q : Bool) → cond bit borrowed false ≡ q → StepSpec same hash setting caller w c blocks m2 Told
      by_older true e =
          places.went_changed same hash caller setting w c blocks map t i made seen inside at at_is lawful word TOMBSTONE found is m2 after_is
          (with_at w.hand (blocks.pair n) (Parting caller)) w.log
          (λ m j other. keeps_handed j m w.hand (blocks.pair n) (Parting caller) (used_not_held j (w.hand (blocks.pair n)) pair_used)) (outs_handed w.memory w.hand (blocks.pair n) (Parting caller) tt)
          (Parts caller (blocks.pair n) ∷ []) (tt, tt) (inr (inr (n, was, known, refl)), tt) (_, ((setting.counter, pair_used), refl), refl)
          (Removes t i) ((λ j by. absurd by), seen) allowed refl blocks (λ x l m. absurd (omega (arith, l, m))) (come_out (Parting caller)) shown map.map.later
          (let h = hands_parting same hash setting w c2 blocks (moves_keep same (spot_of hash) bit lawful (Removes t i) c map.map.rule allowed).0 shown caller n was known left.2 pair_used hands in
          record { tables = h.tables; pairs = h.pairs; named = h.named; tables_out = h.tables_out; pairs_out = h.pairs_out })
          (record { tables = λ u made seen. (refl, seen); pairs = λ o made seen. (refl, seen); tables_back = λ t made known. known; pairs_back = λ n was known. known })
          Told
          (told (record w { memory = with_word w.memory at TOMBSTONE; hand = with_at w.hand (blocks.pair n) (Parting caller) })
          (subst (λ (x : Bool). cond x ((with_at w.hand (blocks.pair n) (Parting caller) (blocks.pair n) ≡ Parting caller) × Older)
          ((with_at w.hand (blocks.pair n) (Parting caller) (blocks.pair n) ≡ Cutting caller) × Nowhere)) (sym e)
          (with_here w.hand (blocks.pair n) (Parting caller), subst (λ (x : Bool). cond x Older Nowhere) e stands_out)))
      by_older false e =
          places.went_changed same hash caller setting w c blocks map t i made seen inside at at_is lawful word TOMBSTONE found is m2 after_is
          (with_at w.hand (blocks.pair n) (Cutting caller)) (Unlinked (blocks.pair n) ∷ w.log)
          (λ m j other. keeps_handed j m w.hand (blocks.pair n) (Cutting caller) (used_not_held j (w.hand (blocks.pair n)) pair_used)) (outs_handed w.memory w.hand (blocks.pair n) (Cutting caller) tt)
          (Unlinks caller (blocks.pair n) ∷ []) (tt, tt) (inr (inr (n, was, known, refl)), tt) (_, (subst (MayCut caller) (sym pair_used) tt, refl), refl)
          (Removes t i) ((λ j by. absurd by), seen) allowed refl blocks (λ x l m. absurd (omega (arith, l, m))) (come_out (Cutting caller)) shown map.map.later
          (let h = hands_left same hash setting w c2 blocks (moves_keep same (spot_of hash) bit lawful (Removes t i) c map.map.rule allowed).0 shown caller n was known left.2 nowhere hands in
          record { tables = h.tables; pairs = h.pairs; named = h.named; tables_out = h.tables_out; pairs_out = h.pairs_out })
          (record { tables = λ u made seen. (refl, seen); pairs = λ o made seen. (refl, seen); tables_back = λ t made known. known; pairs_back = λ n was known. known })
          Told
          (told (record w { memory = with_word w.memory at TOMBSTONE; hand = with_at w.hand (blocks.pair n) (Cutting caller); log = Unlinked (blocks.pair n) ∷ w.log })
          (subst (λ (x : Bool). cond x ((with_at w.hand (blocks.pair n) (Cutting caller) (blocks.pair n) ≡ Parting caller) × Older)
          ((with_at w.hand (blocks.pair n) (Cutting caller) (blocks.pair n) ≡ Cutting caller) × Nowhere)) (sym e)
          (with_here w.hand (blocks.pair n) (Cutting caller), nowhere)))
        where
          nowhere : (u j : ℕ) (phase : Phase) (lent : Bool) → c2.first ≤ u → u < c2.past → c2.place u j ≢ Holds n phase lent
          nowhere = subst (λ (x : Bool). cond x Older Nowhere) e stands_out

      pub went_removed : StepSpec same hash setting caller w c blocks m2 Told
      went_removed = by_older (cond (is_incremental setting.mode) borrowed false) refl
