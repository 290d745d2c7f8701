-- Words in a tree: how it is mended, how the lowest flag is found, and how it gets a row or a word more.
use Rattle.std.proofs.Common.{◌≡◌, ℕ, zero, suc, ◌+◌, ◌*◌, ◌-◌, ◌/◌, ◌%◌, ◌^◌, ◌<◌, ◌≤◌, List, length, get_or, set, refl, sym, ap, ◌∙◌, arith, inl, inr, w64, false}
use Rattle.std.specs.Prelude.{◌≢◌, ◌⊎◌, count_ones, nat_eq}
use Rattle.std.specs.Int.{bit_at}
use Rattle.std.specs.Int.Count.{count_trailing_zeros}
use Rattle.std.proofs.Math.Bool.{beq}
use Rattle.std.proofs.Math.ListN.{get_or-eq_default}
use Rattle.std.proofs.lemmas.Bool.{cases_eq, cases_lt, ne_eqb, true≢false}
use Rattle.std.proofs.lemmas.Grind.{get_or-set_at}
use Rattle.std.proofs.lemmas.List.{get_or-set_other, length-set}
use Rattle.std.proofs.lemmas.Nat.Bits.{bit_at-trailing_zeros}
use Rattle.seize_words.specs.OneMemory.FreeNumbers.{AreFlags, IsBehind, IsTree, IsTurned, flag_at, flag_of, places, row_below, set_among}
use Rattle.seize_words.proofs.OneMemory.FreeWords.{flag_at-kept, flag_at-node, flag_at-none, flag_at-same, flag_at-turned, ones-more, set_among-none, set_among-word, turned}

-- ---- a word is written, and its flag is mended

flag_of-small : (word : ℕ) → flag_of word ≤ 1
flag_of-small zero = omega arith
flag_of-small (suc word) = omega arith

-- words that the code finds unlike
pub flag_of-unlike : (a b : ℕ) → beq (nat_eq a 0) (nat_eq b 0) ≡ false → flag_of a ≢ flag_of b
flag_of-unlike zero zero unlike same = absurd (true≢false unlike)
flag_of-unlike zero (suc b) unlike same = absurd (omega (arith, same))
flag_of-unlike (suc a) zero unlike same = absurd (omega (arith, same))
flag_of-unlike (suc a) (suc b) unlike same =
    let e : nat_eq (suc a) 0 ≡ false = ne_eqb (suc a) 0 (λ z. absurd (omega (arith, z))) in
    let i : nat_eq (suc b) 0 ≡ false = ne_eqb (suc b) 0 (λ z. absurd (omega (arith, z))) in
    let both : beq false false ≡ false = rw (e, i) at unlike in
    absurd (true≢false both)

some-flag_of : (word : ℕ) → flag_of word ≡ 1 → 0 < word
some-flag_of zero one = absurd (omega (arith, one))
some-flag_of (suc word) one = omega arith

none-flag_of : (word : ℕ) → flag_of word ≡ 0 → word ≡ 0
none-flag_of zero none = refl
none-flag_of (suc word) none = absurd (omega (arith, none))

-- The flags are right, but that of this node, which is that of the word that was there. The lowest row is as it was.
pub record IsMended (first : ℕ) (old nodes : List ℕ) (node was : ℕ) : Type 0 where
  pub within : node < length nodes
  pub flags : AreFlags first nodes (set nodes node was)
  pub long : length nodes ≡ length old
  pub lowest : (k : ℕ) → first ≤ k → get_or nodes k 0 ≡ get_or old k 0

-- what is written twice is written the second time
set_twice : (xs : List ℕ) (i x : ℕ) → i < length xs → (j : ℕ) → get_or (set (set xs i x) i (get_or xs i 0)) j 0 ≡ get_or xs j 0
set_twice xs i x within j = at (cases_eq j i)
  where
    at : (j ≡ i) ⊎ (j ≢ i) → get_or (set (set xs i x) i (get_or xs i 0)) j 0 ≡ get_or xs j 0
    at (inl e) =
        get_or-set_at (set xs i x) i j (get_or xs i 0) 0 e (omega (arith, within, length-set xs i x)) ∙ ap (λ k. get_or xs k 0) (sym e)
    at (inr other) = get_or-set_other (set xs i x) i j (get_or xs i 0) 0 other ∙ get_or-set_other xs i j x 0 other

module _ (first : ℕ) (old nodes : List ℕ) (node was : ℕ) (m : IsMended first old nodes node was) where
  flag-other : (k : ℕ) → k < 64 * first → k + 1 ≢ node → flag_at nodes k ≡ flag_of (get_or nodes (k + 1) 0)
  flag-other k less other = m.flags k less ∙ ap flag_of (get_or-set_other nodes node (k + 1) was 0 other)

  flag-node : (k : ℕ) → k < 64 * first → k + 1 ≡ node → flag_at nodes k ≡ flag_of was
  flag-node k less is = m.flags k less ∙ ap flag_of (get_or-set_at nodes node (k + 1) was 0 is m.within)

  module _ (up bit : ℕ) (high : length old ≤ 64 * first + 1) (some : 0 < node) (is_up : up ≡ (node - 1) / 64) (is_bit : bit ≡ (node - 1) % 64)
      (differ : flag_of was ≢ flag_of (get_or nodes node 0)) where
    abbrev next : List ℕ
    next = set nodes up (turned (get_or nodes up 0) bit)

    place : 64 * up + bit + 1 ≡ node
    place = omega (arith, is_up, is_bit, some)

    small : bit < 64
    small = omega (arith, is_bit)

    within_up : up < length nodes
    within_up = omega (arith, is_up, m.within)

    one_of : flag_of was + flag_of (get_or nodes node 0) ≡ 1
    one_of = at (flag_of was) (flag_of (get_or nodes node 0)) (flag_of-small was) (flag_of-small (get_or nodes node 0)) differ
      where
        at : (a b : ℕ) → a ≤ 1 → b ≤ 1 → a ≢ b → a + b ≡ 1
        at a b low high apart = omega (arith, low, high, apart)

    pub mended-more : IsMended first old next up (get_or nodes up 0)
    mended-more = record {
      within = omega (arith, within_up, length-set nodes up (turned (get_or nodes up 0) bit));
      flags = λ k less. at k less (cases_eq (k + 1) node) ∙ ap flag_of (sym (set_twice nodes up (turned (get_or nodes up 0) bit) within_up (k + 1)));
      long = length-set nodes up (turned (get_or nodes up 0) bit) ∙ m.long;
      lowest = λ k low.
          get_or-set_other nodes up k (turned (get_or nodes up 0) bit) 0 (λ e. absurd (omega (arith, e, low, is_up, some, m.within, m.long, high)))
          ∙ m.lowest k low;
    }
      where
        at : (k : ℕ) → k < 64 * first → (k + 1 ≡ node) ⊎ (k + 1 ≢ node) → flag_at next k ≡ flag_of (get_or nodes (k + 1) 0)
        at k less (inl e) =
            flag_at-turned nodes up bit within_up small k (omega (arith, e, place))
            ∙ omega (arith, flag-node k less e, one_of, ap (λ j. flag_of (get_or nodes j 0)) e)
        at k less (inr other) =
            flag_at-kept nodes up bit within_up small k (λ e. other (omega (arith, e, place))) ∙ flag-other k less other

-- a flag of the lowest row is turned over
module _ (first : ℕ) (nodes : List ℕ) (node bit : ℕ) (low : first ≤ node) (within : node < length nodes) (small : bit < 64) where
  abbrev after : List ℕ
  after = set nodes node (turned (get_or nodes node 0) bit)

  pub turned-over : (new : List ℕ) → ((k : ℕ) → first ≤ k → get_or new k 0 ≡ get_or after k 0) → IsTurned first (64 * node + bit) nodes new
  turned-over new lowest = record {
    there = flag_at-same after new (64 * node + bit) (lowest ((64 * node + bit) / 64) (omega (arith, low)))
        ∙ flag_at-turned nodes node bit within small (64 * node + bit) refl;
    others = λ k past other. flag_at-same after new k (lowest (k / 64) (omega (arith, past))) ∙ flag_at-kept nodes node bit within small k other;
  }

-- ---- the way down to the first word with a flag

pub row_below-le : (rows node : ℕ) → node ≤ row_below rows node
row_below-le zero node = omega arith
row_below-le (suc rows) node = omega (arith, row_below-le rows (64 * node + 1))

pub row_below-more : (rows node : ℕ) → row_below rows (64 * node + 1) ≡ 64 * row_below rows node + 1
row_below-more zero node = refl
row_below-more (suc rows) node = row_below-more rows (64 * node + 1)

-- The words of the row that begins here have no flag set up to this node, whose word has one.
pub record IsOnWay (first : ℕ) (nodes : List ℕ) (row node : ℕ) : Type 0 where
  pub deep : (rows : ℕ) × (first ≡ row_below rows row)
  pub low : row ≤ node
  pub high : node ≤ 64 * row
  pub none : (k : ℕ) → row ≤ k → k < node → get_or nodes k 0 ≡ 0
  pub some : 0 < get_or nodes node 0

-- how deep it is where the lowest row is not reached
deeper : (rows first row node : ℕ) → first ≡ row_below rows row → row ≤ node → node < first → (more : ℕ) × (first ≡ row_below more (64 * row + 1))
deeper zero first row node is low less = absurd (omega (arith, is, low, less))
deeper (suc more) first row node is low less = (more, is)

module _ (first : ℕ) (nodes : List ℕ) (tree : IsTree first nodes) where
  -- a node whose flag is not set has no flag set
  empty_by : (k : ℕ) → k < 64 * first → flag_at nodes k ≡ 0 → get_or nodes (k + 1) 0 ≡ 0
  empty_by k less none = none-flag_of (get_or nodes (k + 1) 0) (sym (tree.flags k less) ∙ none)

  module _ (row node bit : ℕ) (way : IsOnWay first nodes row node) (less : node < first) (small : bit < 64)
      (set : bit_at (get_or nodes node 0) bit ≡ 1) (unset : (i : ℕ) → i < bit → bit_at (get_or nodes node 0) i ≡ 0) where
    flag_none : (k : ℕ) → 64 * row ≤ k → k < 64 * node + bit → flag_at nodes k ≡ 0
    flag_none k past before = at (cases_lt k (64 * node))
      where
        at : (k < 64 * node) ⊎ (64 * node ≤ k) → flag_at nodes k ≡ 0
        at (inl earlier) = flag_at-none nodes k (way.none (k / 64) (omega (arith, past)) (omega (arith, earlier)))
        at (inr there) =
            let e : k ≡ 64 * node + (k - 64 * node) = omega (arith, there) in
            ap (flag_at nodes) e ∙ flag_at-node nodes node (k - 64 * node) (omega (arith, before, there, small))
            ∙ unset (k - 64 * node) (omega (arith, before, there))

    pub way-down : IsOnWay first nodes (64 * row + 1) (64 * node + bit + 1)
    way-down = record {
      deep = deeper way.deep.0 first row node way.deep.1 way.low less;
      low = omega (arith, way.low);
      high = omega (arith, way.high, small);
      none = λ k past before.
          let e : k - 1 + 1 ≡ k = omega (arith, past) in
          ap (λ j. get_or nodes j 0) (sym e)
          ∙ empty_by (k - 1) (omega (arith, before, less, small)) (flag_none (k - 1) (omega (arith, past)) (omega (arith, past, before)));
      some = some-flag_of (get_or nodes (64 * node + bit + 1) 0)
          (sym (tree.flags (64 * node + bit) (omega (arith, less, small))) ∙ flag_at-node nodes node bit small ∙ set);
    }

  pub way-next : (row node : ℕ) → IsOnWay first nodes row node → node < first → get_or nodes node 0 < 2 ^ 64
      → IsOnWay first nodes (64 * row + 1) (64 * node + count_trailing_zeros 64 (get_or nodes node 0) + 1)
  way-next row node way less word =
      let z = bit_at-trailing_zeros w64 (get_or nodes node 0) way.some word in
      way-down row node (count_trailing_zeros 64 (get_or nodes node 0)) way less z.0 z.1 z.2

  row_none : (rows row : ℕ) → first ≡ row_below rows row → ((k : ℕ) → row ≤ k → k ≤ 64 * row → get_or nodes k 0 ≡ 0)
      → (k : ℕ) → first ≤ k → k ≤ 64 * first → get_or nodes k 0 ≡ 0
  row_none zero row is none k past before = none k (omega (arith, is, past)) (omega (arith, is, before))
  row_none (suc rows) row is none k past before = row_none rows (64 * row + 1) is below k past before
    where
      below : (j : ℕ) → 64 * row + 1 ≤ j → j ≤ 64 * (64 * row + 1) → get_or nodes j 0 ≡ 0
      below j from to =
          let e : j - 1 + 1 ≡ j = omega (arith, from) in
          let l = row_below-le rows (64 * row + 1) in
          ap (λ i. get_or nodes i 0) (sym e)
          ∙ empty_by (j - 1) (omega (arith, from, to, l, is)) (flag_at-none nodes (j - 1) (none ((j - 1) / 64) (omega (arith, from)) (omega (arith, from, to))))

  -- the root has a flag set, where any flag of the lowest row is
  pub way-begins : 0 < set_among nodes (64 * first) (places first nodes) → IsOnWay first nodes 0 0
  way-begins any = record {
    deep = tree.whole;
    low = omega arith;
    high = omega arith;
    none = λ k past before. absurd (omega (arith, before));
    some = at (cases_lt 0 (get_or nodes 0 0));
  }
    where
      none : get_or nodes 0 0 ≤ 0 → set_among nodes (64 * first) (places first nodes) ≡ 0
      none root = set_among-none nodes (64 * first) (places first nodes) (λ k less.
          flag_at-none nodes (64 * first + k) (row_none tree.whole.0 0 tree.whole.1 (λ j past before.
          let e : j ≡ 0 = omega (arith, before) in ap (λ i. get_or nodes i 0) e ∙ omega (arith, root))
          ((64 * first + k) / 64) (omega arith) (omega (arith, less, tree.within))))

      at : (0 < get_or nodes 0 0) ⊎ (get_or nodes 0 0 ≤ 0) → 0 < get_or nodes 0 0
      at (inl some) = some
      at (inr root) = absurd (omega (arith, any, none root))

  pub way-within : (row node : ℕ) → IsOnWay first nodes row node → node < length nodes
  way-within row node way = at (cases_lt node (length nodes))
    where
      at : (node < length nodes) ⊎ (length nodes ≤ node) → node < length nodes
      at (inl within) = within
      at (inr past) = absurd (omega (arith, way.some, get_or-eq_default nodes 0 past))

  pub way-fits : (row node : ℕ) → IsOnWay first nodes row node → node < first → get_or nodes node 0 < 2 ^ 64
      → 64 * node + count_trailing_zeros 64 (get_or nodes node 0) + 1 < length nodes
  way-fits row node way less word =
      way-within (64 * row + 1) (64 * node + count_trailing_zeros 64 (get_or nodes node 0) + 1) (way-next row node way less word)

  pub way-ends : (row node : ℕ) → IsOnWay first nodes row node → first ≤ node → first ≡ row
  way-ends row node way past = at way.deep.0 way.deep.1
    where
      at : (rows : ℕ) → first ≡ row_below rows row → first ≡ row
      at zero is = is
      at (suc rows) is = absurd (omega (arith, is, row_below-le rows (64 * row + 1), way.high, past))

  -- the lowest flag of the first word with one
  pub first-behind : (node bit : ℕ) → first ≤ node → node < length nodes → bit < 64 → bit_at (get_or nodes node 0) bit ≡ 1
      → ((i : ℕ) → i < bit → bit_at (get_or nodes node 0) i ≡ 0) → ((k : ℕ) → first ≤ k → k < node → get_or nodes k 0 ≡ 0) → IsBehind first nodes 0 node bit
  first-behind node bit low within small set unset none = record {
    low = low;
    within = within;
    small = small;
    set = set;
    rank = set_among-none nodes (64 * first) (64 * (node - first) + bit) (λ k less. at k less (cases_lt k (64 * (node - first))));
  }
    where
      at : (k : ℕ) → k < 64 * (node - first) + bit → (k < 64 * (node - first)) ⊎ (64 * (node - first) ≤ k) → flag_at nodes (64 * first + k) ≡ 0
      at k less (inl earlier) = flag_at-none nodes (64 * first + k) (none ((64 * first + k) / 64) (omega arith) (omega (arith, earlier, low)))
      at k less (inr there) =
          let e : 64 * first + k ≡ 64 * node + (64 * first + k - 64 * node) = omega (arith, there, low) in
          ap (flag_at nodes) e ∙ flag_at-node nodes node (64 * first + k - 64 * node) (omega (arith, less, small, there, low))
          ∙ unset (64 * first + k - 64 * node) (omega (arith, less, there, low))

-- ---- words and bits gone over

-- The words up to this node are gone over, and so many of the flags behind which one is looked for are left.
pub record IsScanned (first : ℕ) (nodes : List ℕ) (before node left : ℕ) : Type 0 where
  pub low : first ≤ node
  pub within : node < length nodes
  pub rank : set_among nodes (64 * first) (64 * (node - first)) + left ≡ before

module _ (first : ℕ) (nodes : List ℕ) (before : ℕ) (few : before < set_among nodes (64 * first) (places first nodes)) where
  pub scanned-begins : IsScanned first nodes before first before
  scanned-begins = record {
    low = omega arith;
    within = at (cases_lt first (length nodes));
    rank = let e : 64 * (first - first) ≡ 0 = omega arith in rw e (omega arith);
  }
    where
      at : (first < length nodes) ⊎ (length nodes ≤ first) → first < length nodes
      at (inl within) = within
      at (inr past) = absurd (
          let e : places first nodes ≡ 0 = omega (arith, past) in
          let n : set_among nodes (64 * first) (places first nodes) ≡ 0 = ap (set_among nodes (64 * first)) e in
          omega (arith, few, n))

  -- all flags of a word
  pub among-word : (node : ℕ) → first ≤ node → get_or nodes node 0 < 2 ^ 64
      → set_among nodes (64 * first) (64 * (node + 1 - first)) ≡ set_among nodes (64 * first) (64 * (node - first)) + count_ones (get_or nodes node 0)
  among-word node low word =
      let e : 64 * (node + 1 - first) ≡ 64 * (node - first) + 64 = omega (arith, low) in
      let i : first + (node - first) ≡ node = omega (arith, low) in
      let w : get_or nodes node 0 % 2 ^ 64 ≡ get_or nodes node 0 = omega (arith, word) in
      ap (set_among nodes (64 * first)) e ∙ set_among-word nodes first (node - first) 64 (omega arith)
      ∙ ap (λ j. set_among nodes (64 * first) (64 * (node - first)) + count_ones (get_or nodes j 0 % 2 ^ 64)) i
      ∙ ap (λ n. set_among nodes (64 * first) (64 * (node - first)) + count_ones n) w

  pub scanned-more : (node left : ℕ) → IsScanned first nodes before node left → get_or nodes node 0 < 2 ^ 64 → count_ones (get_or nodes node 0) ≤ left
      → IsScanned first nodes before (node + 1) (left - count_ones (get_or nodes node 0))
  scanned-more node left s word many = record {
    low = omega (arith, s.low);
    within = at (cases_lt (node + 1) (length nodes));
    rank = omega (arith, among-word node s.low word, s.rank, many);
  }
    where
      at : (node + 1 < length nodes) ⊎ (length nodes ≤ node + 1) → node + 1 < length nodes
      at (inl within) = within
      at (inr past) = absurd (
          let e : places first nodes ≡ 64 * (node + 1 - first) = omega (arith, past, s.within) in
          let n : set_among nodes (64 * first) (places first nodes) ≡ set_among nodes (64 * first) (64 * (node + 1 - first)) =
          ap (set_among nodes (64 * first)) e in
          omega (arith, few, n, among-word node s.low word, s.rank, many))

-- a flag in a word whose place is known
pub node-behind : (first : ℕ) (nodes : List ℕ) (before node left bit : ℕ) → first ≤ node → node < length nodes → bit < 64
    → set_among nodes (64 * first) (64 * (node - first)) + left ≡ before → bit_at (get_or nodes node 0) bit ≡ 1
    → count_ones (get_or nodes node 0 % 2 ^ bit) ≡ left → IsBehind first nodes before node bit
node-behind first nodes before node left bit low within small rank set ones = record {
  low = low;
  within = within;
  small = small;
  set = set;
  rank =
      let i : first + (node - first) ≡ node = omega (arith, low) in
      let w = set_among-word nodes first (node - first) bit (omega (arith, small)) in
      let o : count_ones (get_or nodes (first + (node - first)) 0 % 2 ^ bit) ≡ left = ap (λ j. count_ones (get_or nodes j 0 % 2 ^ bit)) i ∙ ones in
      omega (arith, w, o, rank);
}

-- The bits of a word up to this one are gone over.
pub record IsSought (word before bit left : ℕ) : Type 0 where
  pub small : bit < 64
  pub rank : count_ones (word % 2 ^ bit) + left ≡ before

module _ (word before : ℕ) (fits : word < 2 ^ 64) (few : before < count_ones word) where
  pub sought-more : (bit left : ℕ) → IsSought word before bit left → bit_at word bit ≤ left → IsSought word before (bit + 1) (left - bit_at word bit)
  sought-more bit left s many =
      let e : bit + 1 ≡ suc bit = omega arith in
      let rank : count_ones (word % 2 ^ (bit + 1)) + (left - bit_at word bit) ≡ before =
      rw e (omega (arith, ones-more word bit, s.rank, many)) in
      record { small = at rank (cases_lt (bit + 1) 64); rank = rank }
    where
      at : count_ones (word % 2 ^ (bit + 1)) + (left - bit_at word bit) ≡ before → (bit + 1 < 64) ⊎ (64 ≤ bit + 1) → bit + 1 < 64
      at rank (inl small) = small
      at rank (inr past) = absurd (
          let e : bit + 1 ≡ 64 = omega (arith, past, s.small) in
          let w : word % 2 ^ 64 ≡ word = omega (arith, fits) in
          let o : count_ones (word % 2 ^ (bit + 1)) ≡ count_ones word = ap (λ n. count_ones (word % 2 ^ n)) e ∙ ap count_ones w in
          omega (arith, rank, o, few))
