-- What a lookup finds is the pair of its keys in the list.
use Rattle.std.specs.Prelude.{◌≡◌, ℕ, zero, suc, Bool, true, false, List, [], ◌∷◌, ◌++◌, Option, Some, None, if◌then◌else◌}
use Rattle.std.proofs.Common.{refl, sym, ◌∙◌, ap, subst, inl, inr}
use Rattle.seize_words.specs.OneMemory.Mem.{Mem, value_at}
use Rattle.seize_words.specs.OneMemory.Word.{block_in}
use Rattle.seize.specs.World.{World}
use Rattle.map_tables.specs.declared.node.Node.{Node}
use Rattle.map_tables.specs.declared.node.Node.TheVariants as node
use Rattle.map_tables.specs.declared.setting.Setting.{Setting}
use Rattle.map_straight.specs.Given.ResizeLookup.{looking}
use Rattle.map_straight.specs.Given.RuleChart.{Chart}
use Rattle.map_straight.specs.Given.RuleWords.{Blocks}
use Rattle.map_straight.specs.Given.RuleMaps.{IsClass, IsAbsent, IsMap}
use Rattle.map_straight.specs.Given.RuleInWorld.{IsMapIn}
use Rattle.owner_whole.specs.Given.PointsSteps.{AreLawful}
use Rattle.owner_whole.proofs.Given.PointsCalls.StepsTold.{lookups_begin}
use Rattle.owner_whole.proofs.Given.CallersAsked.By.{block_of_word}
use Rattle.owner_whole.specs.Whole.Contents.{ContentsBelow, pair_for, without}
use Rattle.owner_whole.proofs.Whole.Contents.Answers.{present_below}
use Rattle.owner_whole.proofs.Whole.Contents.Below.{ends_with, as_before, has_pair, same_key}
use Rattle.map_straight.proofs.Given.RuleWorld.Hands.{current_known}
use Rattle.owner_whole.specs.Strides.Looking.{LooksIn, Finds}
use Rattle.owner_calls.specs.Owned.Owned.{Holds, IsWordOf, found_by, left_by}
use Rattle.seize_words.proofs.General.{true_or_false as decided}

module _ {K V : Type 0} where
  pub found_append : (keys : K → Bool) (xs ys : List (K × V)) → found_by keys xs ≡ None → found_by keys (xs ++ ys) ≡ found_by keys ys
  found_append keys [] ys none = refl
  found_append keys (x ∷ xs) ys none = by (keys x.0) refl none (found_append keys xs ys)
    where
      by : (b : Bool) → keys x.0 ≡ b → (if b then Some x else found_by keys xs) ≡ None → (found_by keys xs ≡ None → found_by keys (xs ++ ys) ≡ found_by keys ys)
          → (if b then Some x else found_by keys (xs ++ ys)) ≡ found_by keys ys
      by true e none more = absurd (cc none)
      by false e none more = more none

  -- by the test of a class
  pub found_is : (same : K → K → Bool) (k : K) (keys : K → Bool) → ((j : K) → keys j ≡ same k j) → (xs : List (K × V)) → found_by keys xs ≡ pair_for same k xs
  found_is same k keys is [] = refl
  found_is same k keys is (x ∷ xs) =
      ap (λ (b : Bool). if b then Some x else found_by keys xs) (is x.0) ∙ ap (λ (o : Option (K × V)). if same k x.0 then Some x else o) (found_is same k keys is xs)

  pub left_is : (same : K → K → Bool) (k : K) (keys : K → Bool) → ((j : K) → keys j ≡ same k j) → (xs : List (K × V)) → left_by keys xs ≡ without same k xs
  left_is same k keys is [] = refl
  left_is same k keys is (x ∷ xs) =
      ap (λ (b : Bool). if b then left_by keys xs else x ∷ left_by keys xs) (is x.0) ∙ ap (λ (ys : List (K × V)). if same k x.0 then ys else x ∷ ys) (left_is same k keys is xs)

module _ {K V : Type 0} (same : K → K → Bool) (hash : K → ℕ) (lawful : AreLawful same hash) (setting : Setting) (w : World (Node K V)) (c : Chart K) (blocks : Blocks)
    (map : IsMapIn same hash setting w c blocks) (keys : K → Bool) where
  -- where the map has no pair of these keys, the list has none
  pub none_below : (n : ℕ) (xs : List (K × V)) → ContentsBelow w.memory c blocks n xs → IsAbsent same hash true c keys → found_by keys xs ≡ None
  none_below zero xs is none = ap (found_by keys) is
  none_below (suc n) xs below none = elim (decided (c.current n)) as (λ _. found_by keys xs ≡ None) [
    | inl e ↦
        (let l = ends_with w.memory c blocks n xs e below in
        ap (found_by keys) l.is ∙ found_append keys l.before ((l.key, l.value) ∷ []) (none_below n l.before l.below none)
        ∙ ap (λ (b : Bool). if b then Some (l.key, l.value) else None) (none n l.key e (same_key same hash lawful setting w c blocks map n l.key l.value e l.block)))
    | inr e ↦ none_below n xs (as_before w.memory c blocks n xs e below) none
  ]

module _ {K V : Type 0} (same : K → K → Bool) (hash : K → ℕ) (setting : Setting) (m : Mem (Node K V)) (xs : List (K × V)) (h : Holds same hash setting m xs) where
  map_there : IsMapIn same hash setting h.world h.chart h.blocks
  map_there = h.rests.together.ground.map

  -- a lookup begins
  pub look_in : (keys : K → Bool) (code : ℕ) → IsClass same hash keys code
      → LooksIn same hash keys m h.chart h.blocks (looking setting.root setting.mode code) (looking setting.root setting.mode code)
  look_in keys code class = record {
    lawful = h.lawful;
    class = class;
    map = subst (λ (x : Mem (Node K V)). IsMap same hash setting.mode setting.root x h.chart h.blocks) h.memory map_there.map;
    facts = lookups_begin same hash setting.mode setting.root keys code h.chart h.blocks;
  }

  -- what it finds is of the list
  module _ (keys : K → Bool) (code : ℕ) (class : IsClass same hash keys code) where
    found_word : (word n : ℕ) (k : K) (v : V) → h.chart.current n ≡ true → value_at h.world.memory (h.blocks.pair n) ≡ Some (node.Pair k v) → keys k ≡ true → block_in word ≡ h.blocks.pair n
        → IsWordOf keys m xs (Some word)
    found_word word n k v now block of is = (
      k,
      v,
      subst (λ (x : Mem (Node K V)). value_at x (block_in word) ≡ Some (node.Pair k v)) h.memory (ap (value_at h.world.memory) is ∙ block),
      found_is same k keys (λ j. class.one k j of) xs
          ∙ present_below same hash h.lawful setting h.world h.chart h.blocks map_there k n now k v block (sym (class.one k k of) ∙ of) h.chart.stored xs h.are (current_known same hash setting h.world h.chart h.blocks map_there.map.rule map_there.map.shows n now).0,
    )

    pub finds_word : (found : Option ℕ) → Finds same hash keys h.chart h.blocks (looking setting.root setting.mode code) found → IsWordOf keys m xs found
    finds_word None absent = none_below same hash h.lawful setting h.world h.chart h.blocks map_there keys h.chart.stored xs h.are absent
    finds_word (Some word) (n, phase, borrowed, (now, k, key, of), is) =
        let p = has_pair same hash h.lawful setting h.world h.chart h.blocks map_there n now in
        let one : Some p.key ≡ Some k = sym p.key_is ∙ key in
        let e : k ≡ p.key = cc one in
        found_word word n p.key p.value now p.block (subst (λ (j : K). keys j ≡ true) e of) (block_of_word hash h.lawful.fits h.world.memory h.chart h.blocks None [] setting.root map_there.map.shows word n phase borrowed is)
