-- In blocking mode, a copier marks a place of its source, whichever table that is, and sees what stands there.
use Rattle.std.specs.Prelude.{Option, Some, IsSome, bit_or}
use Rattle.std.proofs.Common.{◌≡◌, ◌≢◌, ℕ, ◌/◌, ◌^◌, ◌<◌, ◌≤◌, ◌==◌, Bool, true, false, ◌⊎◌, inl, inr, refl, ap, sym, subst, ◌∙◌, arith}
use Rattle.std.proofs.lemmas.Bool.{eqb-true, eqb-false}
use Rattle.map_rule.specs.Given.SeizeWordsMem.{Mem, Can, Took, value_at, word_at, with_word}
use Rattle.map_rule.specs.Given.SeizeWordsOp.{Found}
use Rattle.map_rule.specs.Given.SeizeWordsPlan.{May, MaySee, Steps, Ends}
use Rattle.map_rule.proofs.Given.SeizeWordsOneOwner.AfterWrites.{value_at-with_word}
use Rattle.map_rule.proofs.Given.SeizeWordsOneOwner.Operations.{may_or, ored}
use Rattle.map_rule.proofs.Given.SeizeWordsPlans.{see_if, ends_if}
use Rattle.papaya_raw.specs.Given.SeizeWorld.{World}
use Rattle.papaya_raw.specs.Given.TablesChunks.{is_incremental}
use Rattle.papaya_raw.specs.Given.TablesTablePlaces.{at_place}
use Rattle.papaya_raw.specs.Given.TablesDeclared.marks.TheConstants.{COPYING}
use Rattle.papaya_raw.specs.Given.TablesDeclared.node.Node.{Node}
use Rattle.papaya_raw.specs.Given.TablesDeclared.node.Node.TheVariants as node
use Rattle.papaya_raw.specs.Given.TablesDeclared.setting.Setting.{Setting}
use Rattle.papaya_raw.specs.Given.TablesDeclared.table.Table.{Table}
use Rattle.map_rule.specs.Given.ResizeCopierMarks.{is_mine, without_copying, probing, key_hash, marked as marked_then, marks}
use Rattle.map_rule.specs.Given.ResizeCopierStates.{place_done}
use Rattle.map_rule.specs.Given.ResizeDeclared.copier.Copier.{Copier}
use Rattle.map_rule.specs.Given.ResizeDeclared.yielding.Yielding.{Yielding}
use Rattle.map_rule.specs.Given.ResizeDeclared.yielding.Yielding.TheVariants.{Goes}
use Rattle.map_rule.specs.Chart.{Phase, Place, Holds, Chart}
use Rattle.map_rule.specs.InWorld.{IsMapIn}
use Rattle.map_rule.specs.Maps.{spot_of, IsTable}
use Rattle.map_rule.specs.Words.{Blocks, byte_of, place_word}
use Rattle.map_rule.proofs.Words.PlacesRead.{pair_value}
use Rattle.map_rule.proofs.Words.PlacesShown.{AreStored, are_stored, shown_block}
use Rattle.map_rule.proofs.Words.PlaceWordsRead.{pair_word-large, word-pair}
use Rattle.map_rule.proofs.Words.TablesSeen.{place_there}
use Rattle.map_rule.proofs.Given.General.{some_is as is_some_of}

module _ {K V : Type 0} (same : K → K → Bool) (hash : K → ℕ) (fits : (k : K) → hash k < 2 ^ 64) (setting : Setting) (w : World (Node K V)) (c : Chart K)
    (blocks : Blocks)
    (map : IsMapIn same hash setting w c blocks) (blocking : is_incremental setting.mode ≡ false) (p : Copier) (setting_is : p.setting ≡ setting)
    (u : ℕ) (source : IsTable c blocks p.source u) (low : p.place < c.len u) where
  abbrev place : Place
  place = c.place u p.place

  abbrev word : ℕ
  word = place_word hash c blocks place

  pub source_word : word_at w.memory (at_place p.source p.place) ≡ Some word
  source_word = place_there hash w.memory c blocks setting.root map.map.shows p.source u source p.place low

  abbrev marked_memory : Mem (Node K V)
  marked_memory = with_word w.memory (at_place p.source p.place) (bit_or word COPYING)

  stored : AreStored c
  stored = are_stored same (spot_of hash) (is_incremental setting.mode) c map.map.rule.common

  -- a pair that is there can be seen
  pub source_value : (n : ℕ) (phase : Phase) (borrowed : Bool) → place ≡ Holds n phase borrowed
      → (k : K) × (v : V) × (value_at marked_memory (word / 2048) ≡ Some (node.Pair k v)) × (c.key n ≡ Some k)
  source_value n phase borrowed e =
      let there = pair_value same hash fits w.memory c blocks setting.root map.map.shows stored u p.place source.made source.known n phase borrowed e in
      (there.0, there.1, value_at-with_word w.memory (at_place p.source p.place) (bit_or word COPYING) (word / 2048) (is_some_of _ _ source_word) ∙ there.2, there.3)

  is_its_own : is_mine p word ≡ true
  is_its_own = rw (ap (λ (x : Setting). is_incremental x.mode) setting_is ∙ blocking) refl

  pub may_mark : May Can Took value_at w.memory (marks hash p)
  may_mark =
      may_or w.memory (marked_then hash p) (at_place p.source p.place) COPYING (is_some_of _ _ source_word)
      (λ found e. subst (λ (x : ℕ). MaySee (value_at (with_word w.memory (at_place p.source p.place) (bit_or x COPYING))) (marked_then hash p (Found x))) (cc (e, source_word)) may_see)
    where
      pair_there : (0 < word / 2048) → IsSome (value_at marked_memory (word / 2048))
      pair_there some =
          let pair = word-pair blocks.pair (λ o. byte_of hash (c.key o)) place some in
          let there = source_value pair.0 pair.1 pair.2 pair.3 in
          subst (λ (o : Option (Node K V)). IsSome o) (sym there.2) refl

      may_see : MaySee (value_at marked_memory) (marked_then hash p (Found word))
      may_see =
          see_if (value_at marked_memory) (is_mine p word) _ _
          (λ mine. see_if (value_at marked_memory) (word / 2048 == 0) _ _ (λ _. tt) (λ some. (pair_there (let ne = eqb-false (word / 2048) 0 some in omega (arith, ne)), λ value e. tt)))
          (λ other. absurd (cc (other, is_its_own)))

  -- what is done with a place without a pair, or with its pair
  abbrev pub MarkTells : Copier × Yielding (Node K V) Table → Type 0
  MarkTells end =
      (((n : ℕ) (phase : Phase) (borrowed : Bool) → place ≢ Holds n phase borrowed) × (end ≡ (place_done p, Goes)))
      ⊎ ((n : ℕ) × (phase : Phase) × (borrowed : Bool) × (place ≡ Holds n phase borrowed) × (k : K) × (c.key n ≡ Some k)
      × (code : ℕ) × (code ≡ hash k) × (end ≡ (probing p (without_copying word) code p.target, Goes)))

  pub mark_tells : (m2 : Mem (Node K V)) (end : Copier × Yielding (Node K V) Table) → Steps Took value_at w.memory (marks hash p) m2 end
      → (m2 ≡ marked_memory) × MarkTells end
  mark_tells m2 end s =
      let or = ored w.memory (marked_then hash p) (at_place p.source p.place) COPYING m2 end s in
      let is : or.0 ≡ word = cc (or.1, source_word) in (
        or.2 ∙ ap (λ (x : ℕ). with_word w.memory (at_place p.source p.place) (bit_or x COPYING)) is,
        elim (ends_if (value_at marked_memory) (is_mine p word) _ _ end
            (subst (λ (x : ℕ). Ends (value_at (with_word w.memory (at_place p.source p.place) (bit_or x COPYING))) (marked_then hash p (Found x)) end) is or.3))
            as (λ _. MarkTells end) [
              | inl mine ↦ by_pair (ends_if (value_at marked_memory) (word / 2048 == 0) _ _ end mine.1)
              | inr other ↦ absurd (cc (other.0, is_its_own))
            ],
      )
    where
      by_pair : (((word / 2048 == 0) ≡ true) × (end ≡ (place_done p, Goes)))
          ⊎ (((word / 2048 == 0) ≡ false)
          × ((value : Node K V) × (value_at marked_memory (word / 2048) ≡ Some value) × (end ≡ (probing p (without_copying word) (key_hash hash value) p.target, Goes))))
          → MarkTells end
      by_pair (inl a) = inl (none, a.1)
        where
          none : (n : ℕ) (phase : Phase) (borrowed : Bool) → place ≢ Holds n phase borrowed
          none n phase borrowed e =
              let some = shown_block hash w.memory c blocks setting.root map.map.shows stored u p.place source.made source.known n phase borrowed e in
              let large : 2048 ≤ word = subst (λ (x : Place). 2048 ≤ place_word hash c blocks x) (sym e) (pair_word-large blocks.pair (λ o. byte_of hash (c.key o)) n phase borrowed some) in
              let zero = eqb-true (word / 2048) 0 a.0 in
              absurd (omega (arith, large, zero))
      by_pair (inr a) =
          let some : 0 < word / 2048 = (let ne = eqb-false (word / 2048) 0 a.0 in omega (arith, ne)) in
          let pair = word-pair blocks.pair (λ o. byte_of hash (c.key o)) place some in
          let there = source_value pair.0 pair.1 pair.2 pair.3 in
          inr (pair.0, pair.1, pair.2, pair.3, there.0, there.3, key_hash hash a.1.0, code_of a.1.0 there.0 there.1 (cc (a.1.1, there.2)), a.1.2)
        where
          code_of : (value : Node K V) (k : K) (v : V) → value ≡ node.Pair k v → key_hash hash value ≡ hash k
          code_of value k v is = ap (key_hash hash) is
