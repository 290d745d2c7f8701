-- What a lookup has found is there, and shows one pair.
use Rattle.std.specs.Prelude.{◌≡◌, ℕ, ◌≤◌, Bool, true, false, cond, List, [], Option, Some, None, IsSome, IfSome, option_map}
use Rattle.std.proofs.Common.{refl, sym, ◌∙◌, ap, arith}
use Rattle.seize_words.specs.OneMemory.Mem.{Mem, value_at}
use Rattle.map_tables.specs.Chunks.{is_incremental}
use Rattle.map_tables.specs.declared.node.Node.{Node}
use Rattle.map_tables.specs.declared.node.Node.TheVariants as node
use Rattle.map_straight.specs.Given.ResizeDeclared.lookup.Lookup.{Lookup}
use Rattle.map_straight.specs.Given.RuleChart.{Chart}
use Rattle.map_straight.specs.Given.RuleWords.{Blocks}
use Rattle.map_straight.specs.Given.RuleMaps.{spot_of}
use Rattle.map_straight.proofs.Given.RuleMoves.Links.{linked_there}
use Rattle.owner_whole.proofs.Given.CallersAsked.By.{block_of_word}
use Rattle.owner_whole.specs.Strides.Looking.{LooksIn, Finds}
use Rattle.owner_calls.specs.Owned.Owned.{IsPairAt, IsShownAt, IsWordOf, found_by}

module _ {K V : Type 0} (same : K → K → Bool) (hash : K → ℕ) (keys : K → Bool) (m : Mem (Node K V)) (c : Chart K) (blocks : Blocks) (begun l : Lookup)
    (h : LooksIn same hash keys m c blocks begun l) where
  home_first : (b : Bool) (t : ℕ) → cond b (c.first ≤ t) (t ≡ c.first) → c.first ≤ t
  home_first true t first = first
  home_first false t is = omega (arith, is)

  -- each pair of the map is in its block
  pair_there : (n : ℕ) → c.current n ≡ true → (x : K × V) × (value_at m (blocks.pair n) ≡ Some (node.Pair x.0 x.1))
  pair_there n now =
      let (t, i, phase, borrowed, holds, still, home) = h.map.rule.common.stands n now in
      let made = linked_there same (spot_of hash) (is_incremental begun.mode) c h.map.rule.common t i n phase borrowed holds in
      let known = h.map.shows.named t i n phase borrowed made (h.map.shows.linked t (home_first (is_incremental begun.mode) t home) made) holds in
      let p = h.map.shows.pairs n (h.map.rule.common.keyed t i n phase borrowed holds).0 known in
      ((p.0, p.1), p.2)

  -- what is found can be shown
  pub finds_shown : (found : Option ℕ) → Finds same hash keys c blocks begun found → (shown : Option (K × V)) × IsShownAt m found shown
  finds_shown None absent = (None, refl)
  finds_shown (Some word) (n, phase, borrowed, (now, k, key, of), is) =
      let p = pair_there n now in
      (Some p.0, (p.0, refl, ap (value_at m) (block_of_word hash h.lawful.fits m c blocks None [] begun.root h.map.shows word n phase borrowed is) ∙ p.1))

module _ {K V : Type 0} (m : Mem (Node K V)) (keys : K → Bool) (xs : List (K × V)) where
  -- the word of a pair of the list shows that pair
  pub word_shows : (word : Option ℕ) → IsWordOf keys m xs word → IsShownAt m word (found_by keys xs)
  word_shows None none = none
  word_shows (Some word) (k, v, block, found) = ((k, v), found, block)

  -- and no other one
  pub shown_found : (word : Option ℕ) → IsWordOf keys m xs word → (shown : Option (K × V)) → IsShownAt m word shown → shown ≡ found_by keys xs
  shown_found None none shown is = is ∙ sym none
  shown_found (Some word) (k, v, block, found) shown (x, is, at) =
      let one : Some (node.Pair x.0 x.1) ≡ Some (node.Pair k v) = sym at ∙ block in
      let key : x.0 ≡ k = cc one in
      let value : x.1 ≡ v = cc one in
      is ∙ (λ i. Some (key i, value i)) ∙ sym found

-- the pair that was met is shown
pub met_shown : {K V R : Type 0} (m : Mem (Node K V)) (word : ℕ) (f : R → K × V) (met : Option R) → IsSome met → IfSome met (λ x. IsPairAt m word (f x)) → IsShownAt m (Some word) (option_map f met)
met_shown m word f (Some x) some pair = (f x, refl, pair)
met_shown m word f None some pair = absurd (cc some)
