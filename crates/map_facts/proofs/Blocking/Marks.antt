-- In blocking mode, a copier marks a place of the root.
use Rattle.std.specs.Prelude.{Some, bit_or}
use Rattle.std.proofs.Common.{◌≡◌, ◌≢◌, ℕ, suc, ◌+◌, ◌^◌, ◌<◌, ◌≤◌, Bool, false, inl, inr, refl, ap, sym, subst, ◌∙◌, arith}
use Rattle.std.proofs.lemmas.Bool.{eq-eqb}
use Rattle.map_rule.specs.Given.SeizeWordsDeclared.at.At.{At}
use Rattle.map_rule.specs.Given.SeizeWordsDeclared.at.At.TheVariants.{Word}
use Rattle.map_rule.specs.Given.SeizeWordsMem.{Mem, Can, Took, value_at, word_at, with_word}
use Rattle.map_rule.specs.Given.SeizeWordsOp.{Or, Found}
use Rattle.map_rule.specs.Given.SeizeWordsPlan.{May, Steps}
use Rattle.papaya_raw.specs.Given.SeizeWorld.{World}
use Rattle.papaya_raw.specs.Given.TablesChunks.{is_incremental}
use Rattle.papaya_raw.specs.Given.TablesDeclared.marks.TheConstants.{COPYING}
use Rattle.papaya_raw.specs.Given.TablesDeclared.node.Node.{Node}
use Rattle.map_rule.specs.Given.ResizeDeclared.yielding.Yielding.{Yielding}
use Rattle.map_rule.specs.Given.ResizeDeclared.yielding.Yielding.TheVariants.{Goes}
use Rattle.papaya_raw.specs.Given.TablesDeclared.setting.Setting.{Setting}
use Rattle.papaya_raw.specs.Given.TablesDeclared.table.Table.{Table}
use Rattle.papaya_raw.specs.Given.TablesDeclared.table_words.TheConstants.{PLACES}
use Rattle.map_rule.specs.Given.ResizeDeclared.copier.Copier.{Copier}
use Rattle.map_rule.specs.Given.ResizeDeclared.copier.Copying.TheVariants as at
use Rattle.papaya_raw.specs.Given.TablesTablePlaces.{at_place}
use Rattle.map_rule.specs.Given.ResizeCopierStates.{place_done}
use Rattle.map_rule.specs.Given.ResizeCopierMarks.{without_copying, probing, marks}
use Rattle.map_rule.specs.Chart.{Phase, Still, Copying, Copied, Place, Holds, Share, Done, Chart, put_in}
use Rattle.map_rule.specs.Rule.{Rule, IsLawful}
use Rattle.map_rule.specs.Moves.{Move, MarksBlocking, Skips, marked, after, Allowed}
use Rattle.map_rule.specs.Words.{Blocks, byte_of, place_word, Represents}
use Rattle.map_rule.specs.Maps.{spot_of, IsTable}
use Rattle.map_rule.specs.InWorld.{IsMapIn}
use Rattle.map_facts.specs.FactsCopiesBlocking.{CopiesInto, HasDoneIn, ClaimsRange, WorksIn, CopyingFactsBlocking}
use Rattle.map_facts.specs.FactsAloneBlocking.{AloneBlocking}
use Rattle.map_rule.specs.Lasts.{IsBy}
use Rattle.map_facts.proofs.Steps.AloneCharts.{aborted_done}
use Rattle.map_facts.proofs.Blocking.Sources.{source_word, may_mark as may_mark_source, mark_tells}
use Rattle.map_facts.proofs.Copiers.CopierDone.{goes_on}
use Rattle.map_facts.proofs.Copiers.CopierMoves.{copier_wrote, copies_again}
use Rattle.map_facts.proofs.Copiers.CopierWent.{CopierCame}
use Rattle.map_rule.proofs.World.Framed.{shows_beside}
use Rattle.map_rule.proofs.World.Hands.{Hands}
use Rattle.map_rule.proofs.World.MovesKnown.{IsOfKnown}
use Rattle.map_rule.proofs.Words.OwnWords.{own_at_place}
use Rattle.map_rule.proofs.Words.PlaceWordsWritten.{word-marked, without_copying-still, without_copying-copying}
use Rattle.map_rule.proofs.Moves.SamePairs.{same_pairs, marked_keeps}
use Rattle.map_rule.proofs.Words.TablesSeen.{place_stands}
use Rattle.map_rule.proofs.Keys.TriesSeen.{first_is}
use Rattle.map_rule.proofs.Words.WritesPlaces.{place_written}
use Rattle.map_rule.proofs.Given.General.{some_is as is_some_of}

module _ {K V : Type 0} (same : K → K → Bool) (hash : K → ℕ) (fits : (k : K) → hash k < 2 ^ 64) (caller : ℕ) (setting : Setting) (w : World (Node K V)) (c : Chart K) (blocks : Blocks)
    (map : IsMapIn same hash setting w c blocks) (lawful : IsLawful same (spot_of hash)) (blocking : is_incremental setting.mode ≡ false) (p : Copier) (setting_is : p.setting ≡ setting)
    (t : ℕ) (copies : CopiesInto same hash w caller setting c blocks p t) (done : HasDoneIn same hash w caller setting c blocks t p.done)
    (claims : ClaimsRange same hash w caller setting c blocks t p.place p.end) (inside : (p.place < p.end) × (p.end ≤ c.len c.first)) where
  abbrev place : Place
  place = c.place c.first p.place

  abbrev word : ℕ
  word = place_word hash c blocks place

  low : p.place < c.len c.first
  low = omega (arith, inside.0, inside.1)

  word_is : word_at w.memory (at_place p.source p.place) ≡ Some word
  word_is = source_word same hash fits setting w c blocks map blocking p setting_is c.first copies.0 low

  abbrev marked_memory : Mem (Node K V)
  marked_memory = with_word w.memory (at_place p.source p.place) (bit_or word COPYING)

  pub may_mark : May Can Took value_at w.memory (marks hash p)
  may_mark = may_mark_source same hash fits setting w c blocks map blocking p setting_is c.first copies.0 low

  -- the places after it
  abbrev marked_places : ℕ → ℕ → Place
  marked_places = put_in c.place c.first p.place (marked place)

  named_before : (u i n : ℕ) (phase : Phase) (borrowed : Bool) → marked_places u i ≡ Holds n phase borrowed → (phase2 : Phase) × (c.place u i ≡ Holds n phase2 borrowed)
  named_before u i n phase borrowed e =
      let before = (same_pairs c.place c.first p.place (marked place) (marked_keeps place) u i).earlier n phase borrowed e in (before.0, before.1)

  marked_shows : Represents hash marked_memory (record c { place = marked_places }) blocks setting.root
  marked_shows =
      subst (λ (x : At). Represents hash (with_word w.memory x (bit_or word COPYING)) (record c { place = marked_places }) blocks setting.root)
      (sym (place_stands hash w.memory c blocks setting.root map.map.shows p.source c.first copies.0 p.place low))
      (subst (λ (y : ℕ). Represents hash (with_word w.memory (Word (blocks.table c.first) (p.place + PLACES)) y) (record c { place = marked_places }) blocks setting.root)
      (sym (word-marked blocks.pair _ place))
      (place_written hash w.memory c blocks setting.root map.map.shows c.first p.place (marked place) copies.0.made copies.0.known low
      (λ n phase borrowed e. let before = (marked_keeps place).earlier n phase borrowed e in
      map.map.shows.named c.first p.place n before.0 borrowed copies.0.made copies.0.known before.1)))

  marked_hands : (share : ℕ → ℕ → Share) → Hands same hash setting w (record c { place = marked_places; share = share }) blocks
  marked_hands share = record {
    tables = map.tables;
    pairs = map.pairs;
    named = λ u i n phase borrowed l made e. let before = named_before u i n phase borrowed e in map.named u i n before.0 borrowed l made before.1;
    tables_out = map.tables_out;
    pairs_out = map.pairs_out;
  }

  rule_blocking : Rule same (spot_of hash) false c
  rule_blocking = subst (λ (b : Bool). Rule same (spot_of hash) b c) blocking map.map.rule

  module _ (m2 : Mem (Node K V)) (m2_is : m2 ≡ marked_memory) (end : Copier × Yielding (Node K V) Table) where
    wrote : (move : Move K) → Allowed same (spot_of hash) false move c → (after (spot_of hash) false move c).past ≡ c.past
        → Represents hash marked_memory (after (spot_of hash) false move c) blocks setting.root → Hands same hash setting w (after (spot_of hash) false move c) blocks
        → (after (spot_of hash) false move c).current ≡ c.current → (q : Copier) → end ≡ (q, Goes) → q.setting ≡ setting
        → CopyingFactsBlocking same hash (record w { memory = marked_memory }) caller setting (after (spot_of hash) false move c) blocks q q.stands
        → (AloneBlocking c p at.Marks → AloneBlocking (after (spot_of hash) false move c) q q.stands) → ((i : ℕ) → (i ≡ caller → ⊥) → IsBy i move → ⊥) → IsOfKnown blocks move
        → CopierCame same hash caller setting w c blocks (AloneBlocking c p at.Marks) m2 end
    wrote move allowed past shows hands current q ends q_setting point alone by known_turn =
        copier_wrote same hash caller setting w c blocks map lawful blocking move allowed (AloneBlocking c p at.Marks) by known_turn
        (Or (at_place p.source p.place) COPYING) (Found word) (at_place p.source p.place) (bit_or word COPYING)
        (own_at_place same hash setting w c blocks map caller p.source c.first p.place copies.0 low) (is_some_of _ _ word_is)
        m2 word_is m2_is refl past shows hands current end q ends q_setting point alone

    -- a place without a pair is done
    went_skip : ((n : ℕ) (phase : Phase) (borrowed : Bool) → place ≢ Holds n phase borrowed) → end ≡ (place_done p, Goes) → CopierCame same hash caller setting w c blocks (AloneBlocking c p at.Marks) m2 end
    went_skip none ends =
        let on = goes_on same hash caller setting w (record w { memory = marked_memory }) c blocks p setting_is (map.map.shows.sized c.first copies.0.made).most t copies done claims inside
        marked_places in
        wrote (Skips caller t p.place) (refl, copies.1, copies.2.made, low, claims.0 p.place (omega arith) inside.0, none) refl
        (shows_beside hash marked_memory (record c { place = marked_places }) blocks setting.root (put_in c.share t p.place (Done caller)) c.current marked_shows)
        (marked_hands (put_in c.share t p.place (Done caller))) refl on.next (ends ∙ ap (λ (q : Copier). (q, Goes)) on.next_is) on.setting_stays on.point
        (λ a. on.alone (aborted_done c t p.place caller a.0, a.1, a.2)) (λ i other is. other (sym is)) tt

    -- a pair is to be copied
    went_pair : (n : ℕ) (phase : Phase) (borrowed : Bool) → place ≡ Holds n phase borrowed → (k : K) → c.key n ≡ Some k → (code : ℕ) → code ≡ hash k
        → end ≡ (probing p (without_copying word) code p.target, Goes) → CopierCame same hash caller setting w c blocks (AloneBlocking c p at.Marks) m2 end
    went_pair n phase borrowed e k key code code_is ends =
        wrote (MarksBlocking p.place) (refl, has_next, n, phase, borrowed, e) refl marked_shows (marked_hands c.share) refl
        (probing p (without_copying word) code p.target) ends setting_is (
          t,
          n,
          k,
          0,
          works,
          code_is,
          refl,
          first_is (record c { place = marked_places }) blocks code t p.target target (map.map.shows.sized t copies.2.made),
          λ g l. absurd (omega (arith, l)),
        ) (λ a. a) (λ i other is. is) tt
      where
        copies_on : CopiesInto same hash (record w { memory = marked_memory }) caller setting (record c { place = marked_places }) blocks p t
        copies_on = copies_again same hash caller setting w (record w { memory = marked_memory }) c (record c { place = marked_places }) blocks refl refl refl refl p t copies

        target : IsTable (record c { place = marked_places }) blocks p.target t
        target = copies_on.2

        has_next : suc c.first < c.past
        has_next = let made = copies.2.made in omega (arith, made, copies.1)

        plain : (phase ≢ Copied) × (borrowed ≡ false)
        plain = rule_blocking.in_mode.plain c.first p.place n phase borrowed e

        marked_is : (x : Phase) (b : Bool) → x ≢ Copied → b ≡ false → marked (Holds n x b) ≡ Holds n Copying false
        marked_is Still b other lent = ap (Holds n Copying) lent
        marked_is Copying b other lent = ap (Holds n Copying) lent
        marked_is Copied b other lent = absurd (other refl)

        unmarked : (x : Phase) (b : Bool) → x ≢ Copied → b ≡ false → without_copying (place_word hash c blocks (Holds n x b)) ≡ place_word hash c blocks (Holds n Still false)
        unmarked Still b other lent = ap (λ (l : Bool). without_copying (place_word hash c blocks (Holds n Still l))) lent ∙ without_copying-still blocks.pair (λ o. byte_of hash (c.key o)) n false
        unmarked Copying b other lent = ap (λ (l : Bool). without_copying (place_word hash c blocks (Holds n Copying l))) lent ∙ without_copying-copying blocks.pair (λ o. byte_of hash (c.key o)) n false
        unmarked Copied b other lent = absurd (other refl)

        works : WorksIn same hash (record w { memory = marked_memory }) caller setting (record c { place = marked_places }) blocks
            (probing p (without_copying word) code p.target) t n k (without_copying word)
        works = record {
          copies = copies_on;
          has_done = done;
          claims = claims;
          inside = inside;
          place = rw (eq-eqb c.first c.first refl, eq-eqb p.place p.place refl) (ap marked e ∙ marked_is phase borrowed plain.0 plain.1);
          key = key;
          word_is = ap (λ (x : Place). without_copying (place_word hash c blocks x)) e ∙ unmarked phase borrowed plain.0 plain.1;
        }

  pub went_mark : (m2 : Mem (Node K V)) (end : Copier × Yielding (Node K V) Table) → Steps Took value_at w.memory (marks hash p) m2 end → CopierCame same hash caller setting w c blocks (AloneBlocking c p at.Marks) m2 end
  went_mark m2 end s =
      let seen = mark_tells same hash fits setting w c blocks map blocking p setting_is c.first copies.0 low m2 end s in
      elim seen.1 as (λ _. CopierCame same hash caller setting w c blocks (AloneBlocking c p at.Marks) m2 end) [
        | inl a ↦ went_skip m2 seen.0 end a.0 a.1
        | inr a ↦ went_pair m2 seen.0 end a.0 a.1 a.2 a.3 a.4 a.5 a.6 a.7 a.8
      ]
