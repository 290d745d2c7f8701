-- What is seen of a step that keeps what the map's links and places name.
use Rattle.std.specs.Prelude.{◌≡◌, ℕ, ◌+◌, ◌<◌, ◌≤◌, ◌^◌, Bool, true, Option, Some, None, ◌⊎◌}
use Rattle.std.proofs.Common.{refl, ap, sym, subst, ◌∙◌, zero, suc, inl, inr, arith}
use Rattle.std.proofs.lemmas.Bool.{cases_lt, le-ltb}
use Rattle.run_schedules.specs.Given.SeizeWordsDeclared.at.At.{At}
use Rattle.run_schedules.specs.Given.SeizeWordsDeclared.at.At.TheVariants.{Root, Used, Slot, Entry, Word}
use Rattle.run_schedules.specs.Given.SeizeWordsMem.{Mem, word_at}
use Rattle.run_schedules.specs.Given.SeizeWordsWord.{block_in}
use Rattle.run_schedules.specs.Given.TablesDeclared.node.Node.{Node}
use Rattle.run_schedules.specs.Given.TablesDeclared.setting.Setting.{Setting}
use Rattle.run_schedules.specs.Given.TablesDeclared.table_words.TheConstants.{NEXT, PLACES}
use Rattle.map_rule.specs.Chart.{Place, Empty, Tombstone, Holds, Chart}
use Rattle.map_rule.specs.Words.{Blocks, byte_of, place_word, next_word, root_word, Represents}
use Rattle.map_rule.specs.Maps.{IsMap}
use Rattle.map_rule.specs.InWorld.{SameBlocks}
use Rattle.map_rule.proofs.Laws.{bytes_are_few, words_name_pairs}
use Rattle.map_rule.proofs.Words.PlaceWords.{empty_block, tombstone_block}
use Rattle.run_effects.specs.Tells.Tells.{PreservesNames}
use Rattle.run_effects.proofs.Tells.Kept.{IsWritten}
use Rattle.run_effects.proofs.Tells.Names.{named, IsQuietTo}

-- the block of what is named, or 0
abbrev pub block_named : (ℕ → ℕ) → Option ℕ → ℕ
block_named block None = 0
block_named block (Some n) = block n

module _ {K : Type 0} (hash : K → ℕ) (fits : (k : K) → hash k < 2 ^ 64) where
  pub block_of_place : (c : Chart K) (blocks : Blocks) (place : Place) → block_in (place_word hash c blocks place) ≡ block_named blocks.pair (named place)
  block_of_place c blocks (Empty mark) = empty_block blocks.pair (λ n. byte_of hash (c.key n)) mark
  block_of_place c blocks (Tombstone mark) = tombstone_block blocks.pair (λ n. byte_of hash (c.key n)) mark
  block_of_place c blocks (Holds n phase borrowed) = words_name_pairs blocks.pair (λ n. byte_of hash (c.key n)) n phase borrowed (bytes_are_few hash fits (c.key n))

module _ {K V : Type 0} (same : K → K → Bool) (hash : K → ℕ) (fits : (k : K) → hash k < 2 ^ 64) (setting : Setting) (m m2 : Mem (Node K V)) (c c2 : Chart K) (blocks blocks2 : Blocks)
    (map : IsMap same hash setting.mode setting.root m c blocks) (map2 : IsMap same hash setting.mode setting.root m2 c2 blocks2) (kept : SameBlocks c blocks blocks2) (quiet : IsQuietTo c c2) where
  abbrev shown : Represents hash m c blocks setting.root
  shown = map.shows

  abbrev shown2 : Represents hash m2 c2 blocks2 setting.root
  shown2 = map2.shows

  -- the root leads where it led
  root_kept : root_word hash c2 blocks2 ≡ root_word hash c blocks
  root_kept = by c.past refl
    where
      by : (p : ℕ) → c.past ≡ p → root_word hash c2 blocks2 ≡ root_word hash c blocks
      by zero e = let e2 : c2.past ≡ 0 = quiet.past ∙ e in rw (e, e2) refl
      by (suc p) e =
          let made : c.first < c.past = map.rule.common.rooted (omega (arith, e)) in
          let there : blocks2.table c.first ≡ blocks.table c.first = (kept.tables c.first made (shown.linked c.first (omega arith) made)).0 in
          rw (quiet.past, quiet.first, there) refl

  -- and so does the link behind a table
  next_kept : (t : ℕ) → t < c.past → blocks.table_known t ≡ true → next_word hash c2 blocks2 t ≡ next_word hash c blocks t
  next_kept t made known = by (cases_lt (suc t) c.past)
    where
      by : (suc t < c.past) ⊎ (c.past ≤ suc t) → next_word hash c2 blocks2 t ≡ next_word hash c blocks t
      by (inl l) =
          let there : blocks2.table (suc t) ≡ blocks.table (suc t) = (kept.tables (suc t) l (map.later t (suc t) (omega arith) l known)).0 in
          rw (quiet.past, there) refl
      by (inr l) = rw (quiet.past, le-ltb (suc t) c.past l) refl

  -- a place names the same block
  block_kept : (t i : ℕ) → t < c.past → blocks.table_known t ≡ true → block_named blocks2.pair (named (c2.place t i)) ≡ block_named blocks.pair (named (c.place t i))
  block_kept t i made known = rw (quiet.names t i) (by (c.place t i) refl)
    where
      by : (place : Place) → c.place t i ≡ place → block_named blocks2.pair (named place) ≡ block_named blocks.pair (named place)
      by (Empty mark) e = refl
      by (Tombstone mark) e = refl
      by (Holds n phase borrowed) e = (kept.pairs n (map.rule.common.keyed t i n phase borrowed e).0 (shown.named t i n phase borrowed made known e)).0

  module _ (old new : ℕ) where
    place_kept : (t i : ℕ) → t < c.past → blocks.table_known t ≡ true → i < c.len t
        → IsWritten m m2 (Word (blocks.table t) (i + PLACES)) old new → block_in new ≡ block_in old
    place_kept t i made known inside is =
        let there = kept.tables t made known in
        let old_is : old ≡ place_word hash c blocks (c.place t i) = (let shows = (shown.tables t made known).places i inside in cc) in
        let made2 : t < c2.past = (rw quiet.past made) in
        let inside2 : i < c2.len t = (rw (quiet.lens t) inside) in
        let shows2 = (shown2.tables t made2 there.1).places i inside2 in
        let at2 : word_at m2 (Word (blocks.table t) (i + PLACES)) ≡ Some (place_word hash c2 blocks2 (c2.place t i)) =
        subst (λ (b : ℕ). word_at m2 (Word b (i + PLACES)) ≡ Some (place_word hash c2 blocks2 (c2.place t i))) there.0 shows2 in
        let new_is : new ≡ place_word hash c2 blocks2 (c2.place t i) = cc in
        ap block_in new_is ∙ block_of_place hash fits c2 blocks2 (c2.place t i) ∙ block_kept t i made known ∙ sym (block_of_place hash fits c blocks (c.place t i)) ∙ ap block_in (sym old_is)

    -- what is written of a table's words
    word_written : (b field : ℕ) → IsWritten m m2 (Word b field) old new → PreservesNames setting c blocks (Word b field) old new
    word_written b field is t made known e = (links, λ i inside f. place_kept t i made known inside (at_place i f))
      where
        at_place : (i : ℕ) → field ≡ i + PLACES → IsWritten m m2 (Word (blocks.table t) (i + PLACES)) old new
        at_place i f =
            let at_is : Word b field ≡ Word (blocks.table t) (i + PLACES) = cc (e, f) in
            (subst (λ (x : At). word_at m x ≡ Some old) at_is is.0, subst (λ (x : At). word_at m2 x ≡ Some new) at_is is.1)

        links : field ≡ NEXT → new ≡ old
        links f =
            let at_is : Word b field ≡ Word (blocks.table t) NEXT = cc (e, f) in
            let there = kept.tables t made known in
            let old_is : old ≡ next_word hash c blocks t = (let here : word_at m (Word (blocks.table t) NEXT) ≡ Some old = subst (λ (x : At). word_at m x ≡ Some old) at_is is.0 in cc (here, (shown.tables t made known).next)) in
            let made2 : t < c2.past = (rw quiet.past made) in
            let shows2 : word_at m2 (Word (blocks.table t) NEXT) ≡ Some (next_word hash c2 blocks2 t) = subst (λ (k : ℕ). word_at m2 (Word k NEXT) ≡ Some (next_word hash c2 blocks2 t)) there.0 ((shown2.tables t made2 there.1).next) in
            let new_is : new ≡ next_word hash c2 blocks2 t = (let here : word_at m2 (Word (blocks.table t) NEXT) ≡ Some new = subst (λ (x : At). word_at m2 x ≡ Some new) at_is is.1 in cc (here, shows2)) in
            new_is ∙ next_kept t made known ∙ sym old_is

    -- and of a root's
    root_written : (r : ℕ) → IsWritten m m2 (Root r) old new → PreservesNames setting c blocks (Root r) old new
    root_written r is e =
        let old_is : old ≡ root_word hash c blocks = (let here : word_at m (Root setting.root) ≡ Some old = subst (λ (q : ℕ). word_at m (Root q) ≡ Some old) e is.0 in cc (here, shown.root_there)) in
        let new_is : new ≡ root_word hash c2 blocks2 = (let here : word_at m2 (Root setting.root) ≡ Some new = subst (λ (q : ℕ). word_at m2 (Root q) ≡ Some new) e is.1 in cc (here, shown2.root_there)) in
        new_is ∙ root_kept ∙ sym old_is

    -- what is written of the map's links and places names what it named
    pub quiet_written : (x : At) → IsWritten m m2 x old new → PreservesNames setting c blocks x old new
    quiet_written (Root r) is = root_written r is
    quiet_written (Word b field) is = word_written b field is
    quiet_written (Used r) is = tt
    quiet_written (Slot s field) is = tt
    quiet_written (Entry b field) is = tt
