-- Flags of words: each by its node and bit, how many are set, and the numbers that they stand for.
use Rattle.std.proofs.Common.{◌≡◌, ℕ, zero, suc, ◌+◌, ◌*◌, ◌-◌, ◌/◌, ◌%◌, ◌^◌, ◌<◌, ◌≤◌, List, [], ◌∷◌, length, get_or, set, refl, sym, ap, ◌∙◌, arith, add-zero, inl, inr}
use Rattle.std.specs.Prelude.{◌≢◌, ◌⊎◌, bit_xor, count_ones, remove}
use Rattle.std.specs.Int.{bit_at}
use Rattle.std.specs.Int.Count.{ones_step}
use Rattle.std.proofs.Math.ListN.{get_or-eq_default}
use Rattle.std.proofs.lemmas.Bool.{cases_eq, cases_lt}
use Rattle.std.proofs.lemmas.Grind.{get_or-set_at}
use Rattle.std.proofs.lemmas.List.{get_or-set_other}
use Rattle.std.proofs.lemmas.Nat.{mod-pow-add, mod_below, one_shl, ones_cat, ones_le_self, pow_pos}
use Rattle.std.proofs.lemmas.Nat.Bits.{bit_at-lt, bit_at-pow_other, bit_at-pow_same, bit_at-zero, bit_at_xor}
use Rattle.seize_words.specs.OneMemory.FreeNumbers.{IsTurned, flag_at, flagged_from, flags_from, numbers_in, places, set_among, with_number}
use Rattle.seize_words.proofs.OneMemory.FreeFlags.{AreBits, flagged-at, flagged-given, flagged-more, flagged-same, flagged-taken, flagged-there, length-flagged, length-flagged_le, sum_before, sum_before-more}

-- ---- a flag

pub flag_at-from : (words : List ℕ) (node k : ℕ) → flag_at words (64 * node + k) ≡ bit_at (get_or words (node + k / 64) 0) (k % 64)
flag_at-from words node k =
    let e : (64 * node + k) / 64 ≡ node + k / 64 = omega arith in
    let i : (64 * node + k) % 64 ≡ k % 64 = omega arith in
    rw (e, i) refl

pub flag_at-node : (words : List ℕ) (node bit : ℕ) → bit < 64 → flag_at words (64 * node + bit) ≡ bit_at (get_or words node 0) bit
flag_at-node words node bit small =
    let e : (64 * node + bit) / 64 ≡ node = omega (arith, small) in
    let i : (64 * node + bit) % 64 ≡ bit = omega (arith, small) in
    rw (e, i) refl

pub flag_at-none : (words : List ℕ) (k : ℕ) → get_or words (k / 64) 0 ≡ 0 → flag_at words k ≡ 0
flag_at-none words k none = ap (λ w. bit_at w (k % 64)) none ∙ bit_at-zero (k % 64)

pub flag_at-same : (old new : List ℕ) (k : ℕ) → get_or new (k / 64) 0 ≡ get_or old (k / 64) 0 → flag_at new k ≡ flag_at old k
flag_at-same old new k same = ap (λ w. bit_at w (k % 64)) same

-- a word with one of its bits turned over
abbrev pub turned : ℕ → ℕ → ℕ
turned word bit = bit_xor word (1 * 2 ^ bit % 2 ^ 64)

bit_at-turned : (word bit : ℕ) → bit < 64 → bit_at (turned word bit) bit ≡ 1 - bit_at word bit
bit_at-turned word bit small =
    ap (λ m. bit_at (bit_xor word m) bit) (one_shl bit 64 small)
    ∙ omega (arith, bit_at_xor word (2 ^ bit) bit, bit_at-pow_same bit, bit_at-lt word bit)

bit_at-kept : (word bit i : ℕ) → bit < 64 → i ≢ bit → bit_at (turned word bit) i ≡ bit_at word i
bit_at-kept word bit i small other =
    ap (λ m. bit_at (bit_xor word m) i) (one_shl bit 64 small)
    ∙ omega (arith, bit_at_xor word (2 ^ bit) i, bit_at-pow_other bit i other, bit_at-lt word i)

module _ (words : List ℕ) (node bit : ℕ) (within : node < length words) (small : bit < 64) where
  abbrev with_turned : List ℕ
  with_turned = set words node (turned (get_or words node 0) bit)

  here : (k : ℕ) → k / 64 ≡ node → flag_at with_turned k ≡ bit_at (turned (get_or words node 0) bit) (k % 64)
  here k e = ap (λ w. bit_at w (k % 64)) (get_or-set_at words node (k / 64) (turned (get_or words node 0) bit) 0 e within)

  was_here : (k : ℕ) → k / 64 ≡ node → flag_at words k ≡ bit_at (get_or words node 0) (k % 64)
  was_here k e = ap (λ j. bit_at (get_or words j 0) (k % 64)) e

  pub flag_at-turned : (k : ℕ) → k ≡ 64 * node + bit → flag_at with_turned k ≡ 1 - flag_at words k
  flag_at-turned k is =
      let e : k / 64 ≡ node = omega (arith, is, small) in
      let i : k % 64 ≡ bit = omega (arith, is, small) in
      here k e ∙ ap (bit_at (turned (get_or words node 0) bit)) i ∙ bit_at-turned (get_or words node 0) bit small
      ∙ ap (λ b. 1 - b) (sym (was_here k e ∙ ap (bit_at (get_or words node 0)) i))

  pub flag_at-kept : (k : ℕ) → k ≢ 64 * node + bit → flag_at with_turned k ≡ flag_at words k
  flag_at-kept k other = at (cases_eq (k / 64) node)
    where
      at : (k / 64 ≡ node) ⊎ (k / 64 ≢ node) → flag_at with_turned k ≡ flag_at words k
      at (inl e) =
          here k e ∙ bit_at-kept (get_or words node 0) bit (k % 64) small (λ i. other (omega (arith, e, i)))
          ∙ sym (was_here k e)
      at (inr n) = flag_at-same words with_turned k (get_or-set_other words node (k / 64) (turned (get_or words node 0) bit) 0 n)

-- ---- flags in a row

length-flags_from : (words : List ℕ) (a n : ℕ) → length (flags_from words a n) ≡ n
length-flags_from words a zero = refl
length-flags_from words a (suc n) = ap suc (length-flags_from words (a + 1) n)

flags_from-at : (words : List ℕ) (a n k : ℕ) → k < n → get_or (flags_from words a n) k 0 ≡ flag_at words (a + k)
flags_from-at words a zero k h = absurd (omega (arith, h))
flags_from-at words a (suc n) zero h = ap (flag_at words) (sym (add-zero a))
flags_from-at words a (suc n) (suc k) h =
    let e : a + 1 + k ≡ a + suc k = omega arith in
    flags_from-at words (a + 1) n k (omega (arith, h)) ∙ ap (flag_at words) e

sum_before-none : (flags : List ℕ) → sum_before flags 0 ≡ 0
sum_before-none [] = refl
sum_before-none (x ∷ flags) = refl

sum_before-flags : (words : List ℕ) (a n j : ℕ) → j ≤ n → sum_before (flags_from words a n) j ≡ set_among words a j
sum_before-flags words a n zero h = sum_before-none (flags_from words a n)
sum_before-flags words a n (suc j) h =
    sum_before-more (flags_from words a n) j
    ∙ omega (arith, sum_before-flags words a n j (omega (arith, h)), flags_from-at words a n j (omega (arith, h)))

-- ---- how many are set

pub set_among-none : (words : List ℕ) (a n : ℕ) → ((k : ℕ) → k < n → flag_at words (a + k) ≡ 0) → set_among words a n ≡ 0
set_among-none words a zero none = refl
set_among-none words a (suc n) none = omega (arith, set_among-none words a n (λ k less. none k (omega (arith, less))), none n (omega arith))

ones-bit : (b : ℕ) → b < 2 → count_ones b ≡ b
ones-bit zero h = omega (arith, ones_le_self 0)
ones-bit (suc zero) h = omega (arith, ones_step 1, ones_le_self 0)
ones-bit (suc (suc b)) h = absurd (omega (arith, h))

pub ones-more : (word j : ℕ) → count_ones (word % 2 ^ suc j) ≡ count_ones (word % 2 ^ j) + bit_at word j
ones-more word j =
    let e : suc j ≡ 1 + j = omega arith in
    let s : word % 2 ^ (1 + j) ≡ bit_at word j * 2 ^ j + word % 2 ^ j = mod-pow-add word 1 j in
    let c : count_ones (word % 2 ^ suc j) ≡ count_ones (bit_at word j) + count_ones (word % 2 ^ j) =
    ap (λ n. count_ones (word % 2 ^ n)) e ∙ ap count_ones s ∙ ones_cat j (bit_at word j) (word % 2 ^ j) (mod_below word (2 ^ j) (pow_pos j)) in
    omega (arith, c, ones-bit (bit_at word j) (bit_at-lt word j))

pub ones-none : (word : ℕ) → count_ones (word % 2 ^ 0) ≡ 0
ones-none word = let z : word % 2 ^ 0 ≡ 0 = omega arith in omega (arith, ones_le_self (word % 2 ^ 0), z)

pub set_among-word : (words : List ℕ) (first i j : ℕ) → j ≤ 64
    → set_among words (64 * first) (64 * i + j) ≡ set_among words (64 * first) (64 * i) + count_ones (get_or words (first + i) 0 % 2 ^ j)
set_among-word words first i zero small =
    let e : 64 * i + zero ≡ 64 * i = omega arith in
    rw e (omega (arith, ones-none (get_or words (first + i) 0)))
set_among-word words first i (suc j) small =
    let e : 64 * i + suc j ≡ suc (64 * i + j) = omega arith in
    let k : 64 * first + (64 * i + j) ≡ 64 * (first + i) + j = omega arith in
    let f : flag_at words (64 * first + (64 * i + j)) ≡ bit_at (get_or words (first + i) 0) j =
    ap (flag_at words) k ∙ flag_at-node words (first + i) j (omega (arith, small)) in
    rw e (omega (arith, set_among-word words first i j (omega (arith, small)), f, ones-more (get_or words (first + i) 0) j))

-- ---- the numbers

module _ (first : ℕ) (nodes : List ℕ) where
  abbrev flags : List ℕ
  flags = flags_from nodes (64 * first) (places first nodes)

  are_bits : AreBits flags
  are_bits k = at (cases_lt k (places first nodes))
    where
      at : (k < places first nodes) ⊎ (places first nodes ≤ k) → get_or flags k 0 ≤ 1
      at (inl less) = omega (
        arith,
        flags_from-at nodes (64 * first) (places first nodes) k less,
        bit_at-lt (get_or nodes ((64 * first + k) / 64) 0) ((64 * first + k) % 64),
      )
      at (inr past) =
          let e : get_or flags k 0 ≡ 0 = get_or-eq_default flags 0 (omega (arith, past, length-flags_from nodes (64 * first) (places first nodes))) in
          omega (arith, e)

  -- behind the last word no flag is set
  pub flags-at : (k : ℕ) → get_or flags k 0 ≡ flag_at nodes (64 * first + k)
  flags-at k = at (cases_lt k (places first nodes))
    where
      at : (k < places first nodes) ⊎ (places first nodes ≤ k) → get_or flags k 0 ≡ flag_at nodes (64 * first + k)
      at (inl less) = flags_from-at nodes (64 * first) (places first nodes) k less
      at (inr past) =
          get_or-eq_default flags 0 (omega (arith, past, length-flags_from nodes (64 * first) (places first nodes)))
          ∙ sym (flag_at-none nodes (64 * first + k) (get_or-eq_default nodes 0 (omega (arith, past))))

  pub how_many : length (numbers_in first nodes) ≡ set_among nodes (64 * first) (places first nodes)
  how_many =
      length-flagged 1 flags are_bits ∙ ap (sum_before flags) (length-flags_from nodes (64 * first) (places first nodes))
      ∙ sum_before-flags nodes (64 * first) (places first nodes) (places first nodes) (omega arith)

  pub few_in : length (numbers_in first nodes) ≤ places first nodes
  few_in = omega (arith, length-flagged_le 1 flags, length-flags_from nodes (64 * first) (places first nodes))

  module _ (place : ℕ) (within : place < places first nodes) where
    long : place < length flags
    long = omega (arith, within, length-flags_from nodes (64 * first) (places first nodes))

    -- a number that is among them already
    pub number-there : flag_at nodes (64 * first + place) ≡ 1 → numbers_in first nodes ≡ with_number (1 + place) (numbers_in first nodes)
    number-there one = flagged-there 1 place flags long (flags-at place ∙ one)

    module _ (before : ℕ) (rank : set_among nodes (64 * first) place ≡ before) (one : flag_at nodes (64 * first + place) ≡ 1) where
      behind : sum_before flags place ≡ before
      behind = sum_before-flags nodes (64 * first) (places first nodes) place (omega (arith, within)) ∙ rank

      pub number-at : (d : ℕ) → get_or (numbers_in first nodes) before d ≡ 1 + place
      number-at d = ap (λ c. get_or (numbers_in first nodes) c d) (sym behind) ∙ flagged-at 1 place d flags are_bits (flags-at place ∙ one)

    -- a flag is turned over
    module _ (new : List ℕ) (at_new : (k : ℕ) → get_or (flags_from new (64 * first) (places first new)) k 0 ≡ flag_at new (64 * first + k))
        (turn : IsTurned first (64 * first + place) nodes new) where
      turned-at : (b : ℕ) → b ≡ 1 - flag_at nodes (64 * first + place)
          → (k : ℕ) → get_or (flags_from new (64 * first) (places first new)) k 0 ≡ get_or (set flags place b) k 0
      turned-at b is k = at_new k ∙ at (cases_eq k place)
        where
          at : (k ≡ place) ⊎ (k ≢ place) → flag_at new (64 * first + k) ≡ get_or (set flags place b) k 0
          at (inl e) =
              let i : 64 * first + k ≡ 64 * first + place = ap (λ j. 64 * first + j) e in
              ap (flag_at new) i ∙ turn.there ∙ sym is ∙ sym (get_or-set_at flags place k b 0 e long)
          at (inr other) =
              turn.others (64 * first + k) (omega arith) (λ e. other (omega (arith, e))) ∙ sym (flags-at k)
              ∙ sym (get_or-set_other flags place k b 0 other)

      pub number-taken : (before : ℕ) → set_among nodes (64 * first) place ≡ before → flag_at nodes (64 * first + place) ≡ 1
          → numbers_in first new ≡ remove (numbers_in first nodes) before
      number-taken before rank one =
          flagged-same 1 (flags_from new (64 * first) (places first new)) (set flags place 0) (turned-at 0 (omega (arith, one)))
          ∙ flagged-taken 1 place flags are_bits (flags-at place ∙ one) ∙ ap (remove (numbers_in first nodes)) (behind before rank one)

      given : flag_at nodes (64 * first + place) ≡ 0 → numbers_in first new ≡ flagged_from 1 (set flags place 1)
      given none = flagged-same 1 (flags_from new (64 * first) (places first new)) (set flags place 1) (turned-at 1 (omega (arith, none)))

      pub number-given : flag_at nodes (64 * first + place) ≡ 0 → numbers_in first new ≡ with_number (1 + place) (numbers_in first nodes)
      number-given none = given none ∙ flagged-given 1 place flags long

      pub number-more : flag_at nodes (64 * first + place) ≡ 0 → length (numbers_in first new) ≡ length (numbers_in first nodes) + 1
      number-more none = ap length (given none) ∙ flagged-more 1 place flags long (flags-at place ∙ none)

-- the same words elsewhere
pub numbers-same : (first first' : ℕ) (nodes nodes' : List ℕ) → ((i : ℕ) → get_or nodes' (first' + i) 0 ≡ get_or nodes (first + i) 0)
    → numbers_in first' nodes' ≡ numbers_in first nodes
numbers-same first first' nodes nodes' same =
    flagged-same 1 (flags_from nodes' (64 * first') (places first' nodes')) (flags_from nodes (64 * first) (places first nodes)) (λ k.
    flags-at first' nodes' k ∙ flag_at-from nodes' first' k ∙ ap (λ w. bit_at w (k % 64)) (same (k / 64))
    ∙ sym (flag_at-from nodes first k) ∙ sym (flags-at first nodes k))
