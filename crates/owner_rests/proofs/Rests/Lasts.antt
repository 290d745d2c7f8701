-- The pairs of words, as they can be looked at.
use Rattle.std.specs.Prelude.{◌≡◌, ℕ, Bool, true, List, Option, Some, None, is_some}
use Rattle.std.proofs.Common.{refl, ap, sym, ◌∙◌}
use Rattle.seize_words.specs.OneMemory.Mem.{Mem, value_at}
use Rattle.seize_words.specs.OneMemory.Word.{block_in}
use Rattle.map_tables.specs.declared.node.Node.{Node}
use Rattle.map_tables.specs.declared.node.Node.TheVariants as node
use Rattle.map_tables.specs.declared.setting.Setting.{Setting}
use Rattle.owner_calls.specs.Owned.Owned.{IsShownAt, NamesAPair}
use Rattle.owner_rests.specs.Rests.Lasts.{IsPairOf, QuiescentWith, is_named, pair_in, pair_of}
use Rattle.owner_rests.specs.declared.last.Last.{Last}

module _ {K V : Type 0} (m : Mem (Node K V)) where
  -- what stands in the block of a word is its pair
  pub pair_is : (word : Option ℕ) (pair : Option (K × V)) → IsPairOf m word pair → pair_in m word ≡ pair
  unfolding pair_in
  pair_is None None so = refl
  pair_is (Some word) (Some x) so = ap pair_of so
  pair_is None (Some x) so = absurd so
  pair_is (Some word) None so = absurd so

  pub named : (word : Option ℕ) (pair : Option (K × V)) → IsPairOf m word pair → is_named m word ≡ true
  unfolding is_named
  named None None so = refl
  named (Some word) (Some x) so = ap (λ block. is_some (pair_of block)) so
  named None (Some x) so = absurd so
  named (Some word) None so = absurd so

  -- no word names no pair
  pub none_named : is_named m None ≡ true
  unfolding is_named
  none_named = refl

  pub none_in : pair_in m None ≡ None
  unfolding pair_in
  none_in = refl

  -- a word that is one of a pair names it
  pub names_a_pair : (word : ℕ) → is_named m (Some word) ≡ true → NamesAPair m word
  unfolding is_named
  names_a_pair word is = by (value_at m (block_in word)) refl is
    where
      by : (block : Option (Node K V)) → value_at m (block_in word) ≡ block → is_some (pair_of block) ≡ true → NamesAPair m word
      by (Some (node.Pair key value)) there is = (key, value, there)
      by (Some (node.Table len limit turn)) there is = absurd (cc is)
      by (Some node.Shards) there is = absurd (cc is)
      by None there is = absurd (cc is)

  pub pair_there : (word : ℕ) (key : K) (value : V) → value_at m (block_in word) ≡ Some (node.Pair key value) → pair_in m (Some word) ≡ Some (key, value)
  unfolding pair_in
  pair_there word key value there = ap pair_of there

  -- a word that may be none's shows its pair
  pub can_show : (word : Option ℕ) → is_named m word ≡ true → (shown : Option (K × V)) × IsShownAt m word shown
  can_show None is = (None, refl)
  can_show (Some word) is = let n = names_a_pair word is in (Some (n.0, n.1), ((n.0, n.1), refl, n.2))

  pub shows_in : (word : Option ℕ) (shown : Option (K × V)) → IsShownAt m word shown → shown ≡ pair_in m word
  shows_in None shown none = none ∙ sym none_in
  shows_in (Some word) shown (x, is, at) = is ∙ sym (pair_there word x.0 x.1 at)

-- both pairs can be looked at
module _ {K V : Type 0} (same : K → K → Bool) (hash : K → ℕ) (setting : Setting) (m : Mem (Node K V)) (last : Last) (xs : List (K × V)) (taken met : Option (K × V)) (r : QuiescentWith same hash setting m last xs taken met) where
  pub taken_named : is_named m last.taken ≡ true
  taken_named = named m last.taken taken r.taken_is

  pub met_named : is_named m last.met ≡ true
  met_named = named m last.met met r.met_is

  pub taken_shown : pair_in m last.taken ≡ taken
  taken_shown = pair_is m last.taken taken r.taken_is

  pub met_shown : pair_in m last.met ≡ met
  met_shown = pair_is m last.met met r.met_is
