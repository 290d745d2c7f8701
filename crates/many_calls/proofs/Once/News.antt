-- A call comes to ask about a pair: it is the pair that the map has of its keys, so those that it has asked about have left. In a table that the root
-- has left it comes to ask about none.
use Rattle.std.specs.Prelude.{◌≡◌, ◌≢◌, ℕ, ◌<◌, ◌^◌, ◌⊎◌, Bool, true, false, List, Option, Some, None}
use Rattle.std.proofs.Common.{refl, ap, sym, subst, ◌∙◌, inl, inr}
use Rattle.seize_model.specs.Given.SeizeWordsMem.{word_at}
use Rattle.seize_model.specs.Given.SeizeWordsWord.{block_in}
use Rattle.seize_model.specs.Given.SeizeWorld.{World}
use Rattle.map_facts_late.specs.Given.TablesChunks.{is_incremental}
use Rattle.map_facts_late.specs.Given.TablesMarks.{has_mark}
use Rattle.map_facts_late.specs.Given.TablesTablePlaces.{at_place}
use Rattle.map_facts_late.specs.Given.TablesTrials.{place_tried}
use Rattle.map_facts_late.specs.Given.TablesDeclared.marks.TheConstants.{COPYING}
use Rattle.map_facts_late.specs.Given.TablesDeclared.node.Node.{Node}
use Rattle.map_facts_late.specs.Given.TablesDeclared.setting.Setting.{Setting}
use Rattle.map_facts_late.specs.Given.TablesDeclared.trial.Trial.{Trial}
use Rattle.map_facts_late.specs.Given.RawDeclared.machines.answer.KeyAnswer.TheVariants as answers
use Rattle.map_facts_late.specs.Given.RawDeclared.machines.asking.Asking.TheVariants as asking
use Rattle.map_facts_late.specs.Given.RawDeclared.machines.asking.Replies.{Replies}
use Rattle.map_facts_late.specs.Given.RawDeclared.machines.asking.MachineReply.{MachineReply}
use Rattle.map_facts_late.specs.Given.RawDeclared.machines.asking.Takes.TheVariants as takes
use Rattle.map_facts_late.specs.Given.RawDeclared.machines.asking.Told.TheVariants as tells
use Rattle.map_facts_late.specs.Given.RawDeclared.machines.call.Calling.TheVariants as at
use Rattle.map_facts_late.specs.Given.RuleChart.{Still, Holds, Chart, is_marked}
use Rattle.map_facts_late.specs.Given.RuleRule.{IsLawful, Rule, is_of}
use Rattle.map_facts_late.specs.Given.RuleWords.{Blocks, byte_of, place_word}
use Rattle.map_facts_late.specs.Given.RuleMaps.{spot_at, spot_of, IsClass}
use Rattle.map_facts_late.specs.Given.RuleInWorld.{IsMapIn}
use Rattle.map_facts_late.proofs.Given.RuleLaws.{current_is_known, words_tell_marks}
use Rattle.map_facts_late.proofs.Given.RuleKeys.TriesSeen.{spot_inside}
use Rattle.map_facts_late.proofs.Given.RuleWords.TablesSeen.{place_there}
use Rattle.map_facts_late.specs.Given.PointsFactsCalls.{Change, AnswersOf, NamesPair}
use Rattle.map_facts_late.specs.LateLooks.{IsSupersededTrial}
use Rattle.many_calls.specs.Asked.{Asked, last_reply}
use Rattle.many_calls.specs.AskedOnce.{WasAsked, HasGone, IsOfKeys, IsRecalled, AskedAt}
use Rattle.many_calls.proofs.Asked.By.{block_of_word}
use Rattle.many_calls.proofs.Asked.OneCurrent.{one_current}

module _ {K V Q : Type 0} (same : K → K → Bool) (hash : K → ℕ) (lawful : IsLawful same (spot_of hash)) (fits : (k : K) → hash k < 2 ^ 64) (asks : Q → K → Bool) (w : World (Node K V)) (caller : ℕ) (setting : Setting)
    (c : Chart K) (blocks : Blocks) (map : IsMapIn same hash setting w c blocks) (keys : K → Bool) (code : ℕ) (class : IsClass same hash keys code) (asked : List (Asked V)) (change : Change) where
  -- two pairs of the map with keys of the call are one
  one_of_keys : (n o : ℕ) → IsOfKeys hash c blocks keys asked n → IsOfKeys hash c blocks keys asked o → c.current n ≡ true → c.current o ≡ true → n ≡ o
  one_of_keys n o (was, known, k, key, one) (was_o, known_o, k_o, key_o, one_o) is is_o =
      one_current same (spot_of hash) lawful.classes c (is_incremental setting.mode) map.map.rule k n o is is_o
      (ap (is_of same (spot_of hash) (is_incremental setting.mode) k) key ∙ sym (class.one k k one) ∙ one) (ap (is_of same (spot_of hash) (is_incremental setting.mode) k) key_o ∙ sym (class.one k k_o one) ∙ one_o)

  -- the word is that of the map's pair
  module _ (word : ℕ) (names : NamesPair same hash asks w caller setting c blocks keys change word) (found : AnswersOf same hash asks w caller setting c blocks keys change (answers.Found word)) where
    abbrev n : ℕ
    n = names.0

    of_keys : IsOfKeys hash c blocks keys asked n
    of_keys = (names.3, names.4, names.1, names.5, names.6)

    current : c.current n ≡ true
    current =
        let known = current_is_known {V = V} same hash setting w.memory c blocks map.map.rule map.map.shows found.0 found.3.0 in
        let block = block_of_word hash fits w.memory c blocks None asked setting.root map.map.shows word n Still names.2 names.7 in
        let block2 = block_of_word hash fits w.memory c blocks None asked setting.root map.map.shows word found.0 found.1 found.2 found.4 in
        ap c.current (map.map.shows.pairs_apart n found.0 names.3 known.0 names.4 known.1 (sym block ∙ block2)) ∙ found.3.0

    pub asks_new : (r : Replies K V) → r.takes ≢ takes.Choices → (block_in word ≡ r.pair → r.present ≡ tells.Nothing)
        → ((o : ℕ) → WasAsked hash c blocks keys asked o → HasGone hash c blocks keys asked o ⊎ IsRecalled hash c blocks keys asked r o) → AskedAt hash c blocks keys asked r (at.Asks (asking.Present word))
    asks_new r more unlike all = (more, (n, of_keys, names.2, names.7, never (last_reply (Some n) asked) refl), gone)
      where
        -- the one that it remembers is another one
        gone_by : (o : ℕ) → HasGone hash c blocks keys asked o ⊎ IsRecalled hash c blocks keys asked r o → HasGone hash c blocks keys asked o
        gone_by o (inl h) = h
        gone_by o (inr (its, block, some)) = (its.0, by (c.current o) refl)
          where
            by : (b : Bool) → c.current o ≡ b → b ≡ false
            by false is = refl
            by true is =
                let one = one_of_keys n o of_keys its current is in
                absurd (some (unlike (block_of_word hash fits w.memory c blocks None asked setting.root map.map.shows word n Still names.2 names.7 ∙ ap blocks.pair one ∙ block)))

        gone : (o : ℕ) → WasAsked hash c blocks keys asked o → HasGone hash c blocks keys asked o
        gone o was = gone_by o (all o was)

        never : (x : Option (MachineReply V)) → last_reply (Some n) asked ≡ x → x ≡ None
        never None is = refl
        never (Some told) is = absurd (let left = (gone n (λ none. (let e = sym is ∙ none in cc e))).1 in cc (left, current))

-- a word that is read in a table that the root has left is marked
module _ {K V : Type 0} (same : K → K → Bool) (hash : K → ℕ) (setting : Setting) (alone : is_incremental setting.mode ≡ false) (w : World (Node K V)) (c c2 : Chart K) (blocks blocks2 : Blocks)
    (map : IsMapIn same hash setting w c blocks) (keys : K → Bool) (code began : ℕ) (trial : Trial) (late : IsSupersededTrial same hash keys code c blocks began trial) where
  pub late_names_none : (word n : ℕ) (borrowed : Bool) → word_at w.memory (place_tried trial) ≡ Some word → word ≡ place_word hash c2 blocks2 (Holds n Still borrowed) → ⊥
  late_names_none word n borrowed read names =
      let t = late.0 in
      let spot = spot_at (c.len t) code late.1 in
      let inside = spot_inside (c.len t) code late.1 (map.map.rule.common.lens t late.2.table.made).0 in
      let there = ap (λ (i : ℕ). word_at w.memory (at_place trial.table i)) late.2.place ∙ place_there hash w.memory c blocks setting.root map.map.shows trial.table t late.2.table spot inside in
      let marked : is_marked (c.place t spot) ≡ true = blocking.in_mode.left t spot late.4.behind late.4.was_root inside in
      let still = words_tell_marks blocks2.pair (λ n. byte_of hash (c2.key n)) (Holds n Still borrowed) in
      let is = words_tell_marks blocks.pair (λ n. byte_of hash (c.key n)) (c.place t spot) in
      let same_word = sym (one_word word (place_word hash c blocks (c.place t spot)) (sym read ∙ there)) ∙ names in
      let e = sym (is ∙ marked) ∙ ap (λ (x : ℕ). has_mark x COPYING) same_word ∙ still in cc e
    where
      blocking : Rule same (spot_of hash) false c
      blocking = subst (λ (b : Bool). Rule same (spot_of hash) b c) alone map.map.rule

      one_word : (a b : ℕ) → Some a ≡ Some b → a ≡ b
      one_word a b e = cc e
