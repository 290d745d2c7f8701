-- What the links of a map name: its root names the first table, and a table names the next one and the pairs of its places.
use Rattle.std.specs.Prelude.{◌+◌, ◌*◌, ◌^◌, ltb, Option, Some}
use Rattle.std.proofs.Common.{◌≡◌, ◌⊎◌, ℕ, suc, ◌<◌, Bool, true, false, cond, eqb, inl, inr, refl, arith, ap, sym, subst, ◌∙◌}
use Rattle.std.proofs.lemmas.Bool.{eqb-false}
use Rattle.std.proofs.lemmas.Bool.Decides.{nat_tests}
use Rattle.run_shows.specs.Given.SeizeWordsMem.{value_at, word_at}
use Rattle.run_shows.specs.Given.SeizeWordsWord.{block_in}
use Rattle.run_shows.specs.Given.SeizeWordsDeclared.at.At.TheVariants.{Root, Word}
use Rattle.run_shows.specs.Given.SeizeWorld.{World}
use Rattle.run_shows.specs.Given.TablesDeclared.node.Node.{Node}
use Rattle.run_shows.specs.Given.TablesDeclared.node.Node.TheVariants as node
use Rattle.run_shows.specs.Given.TablesDeclared.setting.Setting.{Setting}
use Rattle.run_shows.specs.Given.TablesDeclared.table_words.TheConstants.{NEXT, PLACES}
use Rattle.run_shows.specs.Given.RuleChart.{Phase, Place, Holds, Chart}
use Rattle.run_shows.specs.Given.RuleInWorld.{IsMapIn}
use Rattle.run_shows.specs.Given.RuleWords.{Blocks, RepresentsTable, byte_of, next_word, root_word, place_word}
use Rattle.run_shows.proofs.Given.RuleLaws.{bytes_are_few, words_name_pairs, words_with_blocks}
use Rattle.run_shows.proofs.Given.RuleWords.PlacesShown.{are_stored}
use Rattle.run_shows.specs.Given.RuleMaps.{spot_of}
use Rattle.run_shows.specs.Given.TablesChunks.{is_incremental}
use Rattle.many_acts.proofs.Carries.Owed.{one_some}
use Rattle.many_acts.specs.Links.Tied.{IsLink, Names, TableNames}

-- the length that a table's value tells
same_len : {K V : Type 0} (o : Option (Node K V)) (a limit turn b limit2 turn2 : ℕ) → o ≡ Some (node.Table a limit turn) → o ≡ Some (node.Table b limit2 turn2) → a ≡ b
same_len o a limit turn b limit2 turn2 e f = cc (e, f)

-- a pair is no table
pub no_pair : {K V : Type 0} (o : Option (Node K V)) (key : K) (value : V) (a limit turn : ℕ) → o ≡ Some (node.Pair key value) → o ≡ Some (node.Table a limit turn) → ⊥
no_pair o key value a limit turn e f = cc (e, f)

-- a place of this table holds a pair, in this block
abbrev pub HoldsPair : {K : Type 0} → Chart K → Blocks → ℕ → ℕ → Type 0
HoldsPair c blocks t b = (i : ℕ) × (n : ℕ) × (phase : Phase) × (borrowed : Bool) × (c.place t i ≡ Holds n phase borrowed) × (b ≡ blocks.pair n)

module _ {K V : Type 0} (same : K → K → Bool) (hash : K → ℕ) (fits : (k : K) → hash k < 2 ^ 64) (setting : Setting) (w : World (Node K V)) (c : Chart K) (blocks : Blocks)
    (map : IsMapIn same hash setting w c blocks) where
  -- the root names the first table
  pub root_first : (b : ℕ) → Names w.memory (Root setting.root) b → (c.first < c.past) × (b ≡ blocks.table c.first)
  root_first b (word, there, block, some) = by (eqb c.past 0) refl (one_some _ word (root_word hash c blocks) there map.map.shows.root_there)
    where
      by : (z : Bool) → eqb c.past 0 ≡ z → word ≡ cond z 0 (blocks.table c.first * 2048) → (c.first < c.past) × (b ≡ blocks.table c.first)
      by true e is = absurd (omega (arith, is, block, some))
      by false e is = (map.map.rule.common.rooted (let ne = eqb-false c.past 0 e in omega (arith, ne)), omega (arith, is, block))

  module _ (t : ℕ) (made : t < c.past) (known : blocks.table_known t ≡ true) where
    shown : RepresentsTable hash w.memory c blocks t
    shown = map.map.shows.tables t made known

    next_named : (b word : ℕ) → word ≡ next_word hash c blocks t → block_in word ≡ b → 0 < b → (suc t < c.past) × (b ≡ blocks.table (suc t))
    next_named b word is block some = by (ltb (suc t) c.past) refl is
      where
        by : (z : Bool) → ltb (suc t) c.past ≡ z → word ≡ cond z (blocks.table (suc t) * 2048) 0 → (suc t < c.past) × (b ≡ blocks.table (suc t))
        by true e named = (grind (arith, nat_tests, e), omega (arith, named, block))
        by false e none = absurd (omega (arith, none, block, some))

    place_named : (i b word : ℕ) → word ≡ place_word hash c blocks (c.place t i) → block_in word ≡ b → 0 < b → HoldsPair c blocks t b
    place_named i b word is block some =
        let here : b ≡ block_in (place_word hash c blocks (c.place t i)) = sym block ∙ ap block_in is in
        let k = words_with_blocks blocks.pair (λ n. byte_of hash (c.key n)) (c.place t i) (subst (λ (x : ℕ). 0 < x) here some) in (
          i,
          k.0,
          k.1,
          k.2,
          k.3,
          here ∙ ap (λ (p : Place). block_in (place_word hash c blocks p)) k.3
              ∙ words_name_pairs blocks.pair (λ n. byte_of hash (c.key n)) k.0 k.1 k.2 (bytes_are_few hash fits (c.key k.0)),
        )

    -- So a table that may be looked at names the next one, or such a pair.
    pub table_names : (b : ℕ) → TableNames w.memory (blocks.table t) b → ((suc t < c.past) × (b ≡ blocks.table (suc t))) ⊎ HoldsPair c blocks t b
    table_names b (len, limit, turn, field, value, link, (word, there, block, some)) = by link
      where
        long : suc len ≡ c.len t
        long = same_len (value_at w.memory (blocks.table t)) (suc len) limit turn (c.len t) (c.limit t) t value shown.value

        at_field : (f : ℕ) → field ≡ f → word_at w.memory (Word (blocks.table t) f) ≡ Some word
        at_field f is = ap (λ (x : ℕ). word_at w.memory (Word (blocks.table t) x)) (sym is) ∙ there

        by : IsLink (suc len) field → ((suc t < c.past) × (b ≡ blocks.table (suc t))) ⊎ HoldsPair c blocks t b
        by (inl is) = inl (next_named b word (one_some _ word (next_word hash c blocks t) (at_field NEXT is) shown.next) block some)
        by (inr (i, low, is)) =
            inr (place_named i b word (one_some _ word (place_word hash c blocks (c.place t i)) (at_field (i + PLACES) is) (shown.places i (subst (λ (x : ℕ). i < x) long low))) block some)

    -- and the pair stands in its block
    pub pair_there : (i n : ℕ) (phase : Phase) (borrowed : Bool) → c.place t i ≡ Holds n phase borrowed
        → (n < c.stored) × (blocks.pair_known n ≡ true) × (key : K) × (value : V) × (value_at w.memory (blocks.pair n) ≡ Some (node.Pair key value))
    pair_there i n phase borrowed holds =
        let was = are_stored same (spot_of hash) (is_incremental setting.mode) c map.map.rule.common t i n phase borrowed holds in
        let seen = map.map.shows.named t i n phase borrowed made known holds in
        let k = map.map.shows.pairs n was seen in
        (was, seen, k.0, k.1, k.2)
