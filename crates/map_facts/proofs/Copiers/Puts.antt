-- In incremental mode, a copier puts its pair into an empty place of a later table, unless another caller was faster.
use Rattle.std.specs.Prelude.{◌+◌, if◌then◌else◌, Some, Ok}
use Rattle.std.proofs.Common.{◌≡◌, ◌≢◌, ℕ, ◌<◌, ◌≤◌, Bool, true, false, ◌⊎◌, inl, inr, refl, ap, ap₂, sym, subst, ◌∙◌, arith}
use Rattle.map_rule.specs.Given.SeizeWordsDeclared.at.At.{At}
use Rattle.map_rule.specs.Given.SeizeWordsDeclared.at.At.TheVariants.{Word}
use Rattle.map_rule.specs.Given.SeizeWordsMem.{Mem, value_at, word_at, with_word, Can, Took}
use Rattle.map_rule.specs.Given.SeizeWordsOp.{Exchange, Exchanged}
use Rattle.map_rule.specs.Given.SeizeWordsPlan.{May, Steps}
use Rattle.map_rule.proofs.Given.SeizeWordsOneOwner.Operations.{may_exchange, exchanged}
use Rattle.papaya_raw.specs.Given.SeizeWorld.{World, InUse, IsOwn}
use Rattle.papaya_raw.specs.Given.TablesChunks.{is_incremental}
use Rattle.papaya_raw.specs.Given.TablesMarks.{unmarked_in}
use Rattle.papaya_raw.specs.Given.TablesNodes.{deferred_word}
use Rattle.map_rule.specs.Given.ResizeCopierStates.{standing, place_done}
use Rattle.map_rule.specs.Given.ResizeCopierPlaces.{copied_word, next_try, pair_put, after_put, puts}
use Rattle.papaya_raw.specs.Given.TablesTablePlaces.{at_place}
use Rattle.papaya_raw.specs.Given.TablesDeclared.marks.TheConstants.{BORROWED}
use Rattle.papaya_raw.specs.Given.TablesDeclared.node.Node.{Node}
use Rattle.map_rule.specs.Given.ResizeDeclared.yielding.Yielding.{Yielding}
use Rattle.map_rule.specs.Given.ResizeDeclared.yielding.Yielding.TheVariants.{Goes}
use Rattle.papaya_raw.specs.Given.TablesDeclared.probe.Probe.{Probe}
use Rattle.papaya_raw.specs.Given.TablesDeclared.setting.Setting.{Setting}
use Rattle.papaya_raw.specs.Given.TablesDeclared.table.Table.{Table}
use Rattle.papaya_raw.specs.Given.TablesDeclared.table_words.TheConstants.{PLACES}
use Rattle.map_rule.specs.Given.ResizeDeclared.copier.Copier.{Copier}
use Rattle.map_rule.specs.Given.ResizeDeclared.copier.Copying.TheVariants as at
use Rattle.map_rule.specs.Chart.{Phase, Still, Copying, Chart, Place, Empty, Holds, put_in, is_settled}
use Rattle.map_rule.specs.Rule.{Rule, IsLawful}
use Rattle.map_rule.specs.Moves.{Puts, Allowed, after, lent_place}
use Rattle.map_rule.specs.Words.{Blocks, Represents, byte_of, place_word}
use Rattle.map_rule.specs.Maps.{spot_of}
use Rattle.map_rule.specs.InWorld.{IsMapIn, IsReached}
use Rattle.map_facts.specs.FactsCopies.{Works, Tries, CopierFacts}
use Rattle.map_facts.specs.Told.{CopierOutcome}
use Rattle.map_facts.proofs.Copiers.CopiersWrote.{CopierPlain, copier_wrote}
use Rattle.map_rule.proofs.World.Hands.{Hands, hands_of, hands_kept}
use Rattle.map_rule.proofs.Words.PlaceWordsRead.{word-empty}
use Rattle.map_rule.proofs.Words.PlaceWordsWritten.{word-lent}
use Rattle.map_rule.proofs.Words.PlacesShown.{are_stored, shown_block}
use Rattle.map_rule.proofs.Words.TablesSeen.{place_stands}
use Rattle.map_rule.proofs.Words.OwnWords.{own_table_word}
use Rattle.map_rule.proofs.World.WentIncremental.{rule_incremental}
use Rattle.map_rule.proofs.Moves.Writes.{put_in_here, put_in_elsewhere, put_in_one}
use Rattle.map_rule.proofs.Words.WritesPlaces.{place_written}
use Rattle.map_facts.proofs.Copiers.Probes.{told_still, probe_inside, probe_spot, probe_there, probe_seen, told_next_try}

module _ {K V : Type 0} (same : K → K → Bool) (hash : K → ℕ) (setting : Setting) (w : World (Node K V)) (caller : ℕ) (c : Chart K) (blocks : Blocks)
    (map : IsMapIn same hash setting w c blocks) where
  module _ (p : Copier) (word code : ℕ) (table : Table) (probe : Probe) (tries : Tries same hash w caller setting c blocks p word code table probe) where
    pub may_puts : May Can Took value_at w.memory (puts p word code table probe)
    may_puts = may_exchange w.memory (after_put p word code table probe) (at_place table probe.i) 0 (copied_word p word)
        (probe_seen same hash setting w caller c blocks map p word code table probe tries) (λ found is. tt) (λ found is. tt)

    module _ (setting_is : p.setting ≡ setting) (bits : is_incremental setting.mode ≡ true) where
      mode : is_incremental p.setting.mode ≡ true
      mode = ap (λ (s : Setting). is_incremental s.mode) setting_is ∙ bits

      rule : Rule same (spot_of hash) true c
      rule = rule_incremental same hash setting w c blocks map bits

      -- the pair, its key, the table, and the place there
      abbrev n : ℕ
      n = tries.0

      abbrev k : K
      k = tries.1

      abbrev t : ℕ
      t = tries.2

      abbrev i : ℕ
      i = spot_of hash (c.len t) k tries.3

      works : Works same hash w caller setting c blocks p n k word
      works = tries.4

      made : t < c.past
      made = tries.7.table.made

      known : blocks.table_known t ≡ true
      known = tries.7.table.known

      inside : i < c.len t
      inside = subst (λ (x : ℕ). x < c.len t) (probe_spot same hash setting w caller c blocks map p word code table probe tries) (probe_inside same hash setting w caller c blocks map p word code table probe tries)

      stands : at_place table probe.i ≡ Word (blocks.table t) (i + PLACES)
      stands =
          place_stands hash w.memory c blocks setting.root map.map.shows table t tries.7.table probe.i (probe_inside same hash setting w caller c blocks map p word code table probe tries)
          ∙ ap (λ x. Word (blocks.table t) (x + PLACES)) (probe_spot same hash setting w caller c blocks map p word code table probe tries)

      -- the word that it writes
      lent_word : copied_word p word ≡ place_word hash c blocks (Holds n Still true)
      lent_word =
          ap (λ b. if b then unmarked_in word + BORROWED else unmarked_in word) mode ∙ ap (λ x. unmarked_in x + BORROWED) works.word_is
          ∙ word-lent blocks.pair (λ x. byte_of hash (c.key x)) n Still works.borrowed

      lent : lent_place (spot_of hash) true (c.place c.first p.place) ≡ Holds n Still true
      lent = ap (lent_place (spot_of hash) true) works.place

      empty : (found : ℕ) → word_at w.memory (at_place table probe.i) ≡ Some found → found ≡ 0 → c.place t i ≡ Empty false
      empty found read zero_is =
          word-empty blocks.pair (λ x. byte_of hash (c.key x)) (c.place t i) (shown_block hash w.memory c blocks setting.root map.map.shows (are_stored same (spot_of hash) (is_incremental setting.mode) c map.map.rule.common) t i made known)
          (cc (read, zero_is, probe_there same hash setting w caller c blocks map p word code table probe tries))

      allowed : (found : ℕ) → word_at w.memory (at_place table probe.i) ≡ Some found → found ≡ 0 → Allowed same (spot_of hash) true (Puts caller p.place t k tries.3) c
      allowed found read zero_is = (
        tries.6,
        made,
        works.in_range.0,
        tries.7.most,
        empty found read zero_is,
        tries.8,
        (n, works.borrowed, works.place, works.key),
        (works.claims.0, tries.9.0, tries.9.1),
      )

      -- the chart after it was put
      abbrev put_chart : Chart K
      put_chart = after (spot_of hash) true (Puts caller p.place t k tries.3) c

      root_kept : (j : ℕ) → put_chart.place c.first j ≡ c.place c.first j
      root_kept j = let later = tries.6 in put_in_elsewhere c.place t i (lent_place (spot_of hash) true (c.place c.first p.place)) c.first j (omega arith)

      shows : Represents hash (with_word w.memory (Word (blocks.table t) (i + PLACES)) (place_word hash c blocks (Holds n Still true))) put_chart blocks setting.root
      shows = subst
          (λ (x : Place). Represents hash (with_word w.memory (Word (blocks.table t) (i + PLACES)) (place_word hash c blocks (Holds n Still true))) (record c { place = put_in c.place t i x }) blocks setting.root)
          (sym lent)
          (place_written hash w.memory c blocks setting.root map.map.shows t i (Holds n Still true) made known inside (λ m phase borrowed e. subst (λ (x : ℕ). blocks.pair_known x ≡ true) (cc) pair_known))
        where
          pair_known : blocks.pair_known n ≡ true
          pair_known = map.map.shows.named c.first p.place n Copying works.borrowed works.copies.0.made works.copies.0.known works.place

      hands : Hands same hash setting w put_chart blocks
      hands = hands_kept same hash setting w c blocks put_chart (let e : c.first ≤ c.first = omega arith in e) refl refl (λ x e. e)
          (put_in_one
          (λ u j v. (x : ℕ) (phase : Phase) (borrowed : Bool) → c.first ≤ u → u < c.past → v ≡ Holds x phase borrowed → IsReached same hash setting w c blocks u x)
          c.place t i (lent_place (spot_of hash) true (c.place c.first p.place))
          (λ x phase borrowed l m e. inl (inl (subst (λ (y : ℕ). w.hand (blocks.pair y) ≡ InUse setting.counter) (cc (lent, e)) in_use)))
          (λ u j x phase borrowed l m e. map.named u j x phase borrowed l m e))
          (hands_of same hash setting w c blocks map)
        where
          in_use : w.hand (blocks.pair n) ≡ InUse setting.counter
          in_use = map.pairs n (rule.common.is_current c.first p.place n Copying works.borrowed works.place (λ e. absurd (cc)) (omega arith))

      -- what it knows then
      works_then : (w2 : World (Node K V)) → Works same hash w2 caller setting put_chart blocks (standing p (at.Covers word)) n k word
      works_then w2 = record {
        copies = (
          record { made = works.copies.0.made; known = works.copies.0.known; is = works.copies.0.is },
          record { made = works.copies.1.made; known = works.copies.1.known; is = works.copies.1.is },
        );
        has_done = works.has_done;
        claims = works.claims;
        in_range = works.in_range;
        settled = λ whole j l. subst (λ (x : Place). is_settled x ≡ true) (sym (root_kept j)) (works.settled whole j l);
        borrowed = works.borrowed;
        place = root_kept p.place ∙ works.place;
        key = works.key;
        word_is = works.word_is;
      }

      told : (w2 : World (Node K V)) → CopierFacts same hash w2 caller setting put_chart blocks (pair_put p word)
      told w2 = subst (λ (b : Bool). CopierFacts same hash w2 caller setting put_chart blocks (if b then standing p (at.Covers word) else place_done p)) (sym mode)
          (record {
            setting_is = setting_is;
            point = (
              n,
              k,
              works_then w2,
              (t, i, tries.6, put_in_here c.place t i (lent_place (spot_of hash) true (c.place c.first p.place)) ∙ lent),
            );
          })

      pub went_puts : IsLawful same (spot_of hash) → (m2 : Mem (Node K V)) (end : Copier × Yielding (Node K V) Table)
          → Steps Took value_at w.memory (puts p word code table probe) m2 end → CopierPlain same hash caller setting w c blocks m2 end
      went_puts lawful m2 end s = either (exchanged w.memory (after_put p word code table probe) (at_place table probe.i) 0 (copied_word p word) m2 end s)
        where
          place_word_there : word_at w.memory (Word (blocks.table t) (i + PLACES)) ≡ Some (place_word hash c blocks (c.place t i))
          place_word_there = (map.map.shows.tables t made known).places i inside

          written : with_word w.memory (at_place table probe.i) (copied_word p word) ≡ with_word w.memory (Word (blocks.table t) (i + PLACES)) (place_word hash c blocks (Holds n Still true))
          written = ap₂ (with_word w.memory) stands lent_word

          either : ((found : ℕ) × ((word_at w.memory (at_place table probe.i) ≡ Some found) × (found ≡ 0)) × (m2 ≡ with_word w.memory (at_place table probe.i) (copied_word p word))
              × (end ≡ (pair_put p word, Goes)))
              ⊎ ((found : ℕ) × ((word_at w.memory (at_place table probe.i) ≡ Some found) × (found ≢ 0)) × (m2 ≡ w.memory) × (end ≡ (next_try p word code table probe, Goes)))
              → CopierPlain same hash caller setting w c blocks m2 end
          either (inl (found, gives, is, ends)) =
              copier_wrote same hash caller setting w c blocks map bits lawful
              (Exchange (at_place table probe.i) 0 (copied_word p word)) (Exchanged (Ok found))
              (Word (blocks.table t) (i + PLACES)) (place_word hash c blocks (Holds n Still true))
              (let own = own_table_word same hash setting w c blocks map caller t (i + PLACES) made known (omega arith) in (subst (λ (x : At). IsOwn deferred_word w.memory x) (sym stands) own.0, own.1))
              (rw place_word_there refl)
              m2 gives (is ∙ written) (sym written)
              (Puts caller p.place t k tries.3) refl known (allowed found gives.0 gives.1) shows refl hands refl end
              (subst (λ (x : Copier × Yielding (Node K V) Table). CopierOutcome (record w { memory = with_word w.memory (Word (blocks.table t) (i + PLACES)) (place_word hash c blocks (Holds n Still true)) }) caller setting put_chart blocks same hash x)
              (sym ends) (told (record w { memory = with_word w.memory (Word (blocks.table t) (i + PLACES)) (place_word hash c blocks (Holds n Still true)) })))
          either (inr (found, gives, is, ends)) = told_still same hash setting w caller c blocks map m2 is (next_try p word code table probe) end ends
              (told_next_try same hash setting w caller c blocks map p word code table probe tries setting_is bits found gives.0 gives.1)
