-- Numbers and their blocks: another cell is another block of its number, and a block more is the table with a made one.
use Rattle.std.specs.Prelude.{◌≡◌, ℕ, zero, suc, ◌+◌, ◌-◌, ◌<◌, ◌≤◌, ◌≢◌, Bool, List, [], ◌∷◌, ◌++◌, length, replicate, Option, Some, None, slice_get, slice_set, slice_index_or, if◌then◌else◌}
use Rattle.std.proofs.Common.{refl, sym, ap, ◌∙◌, arith, inl, inr, ◌⊎◌, length-set}
use Rattle.std.proofs.lemmas.Bool.{cases_eq, cases_lt, le-ltb, lt-ltb, ne_eqb}
use Rattle.std.proofs.lemmas.List.{get_or-set_same, get_or-set_other, get_or_past}
use Rattle.seize_words.specs.OneMemory.Mem.{block_of, entry_in, word_in, with_entry, with_word_in, with_block, with_made, with_word, word_at}
use Rattle.seize_words.specs.declared.block.Block.{Block}
use Rattle.seize_words.specs.declared.at.At.TheVariants.{Entry, Word}
use Rattle.seize_seats.specs.Seats.Cells.{Cell, Free, Claimed, Out, Has, Held, block_in, blocks_in, cell_at, noted_in, own_noted_in}
use Rattle.seize_seats.specs.Seats.Lines.{Parts, memory_of, AreLaid}
use Rattle.seize_seats.specs.Seats.Laws.{EntriesLie, EntriesAreApart}

module _ {T : Type 0} where
  -- another cell is another block
  pub blocks_set : (g : ℕ) (cs : List (Cell T)) (i : ℕ) (c : Cell T) → blocks_in g (slice_set cs i c) ≡ slice_set (blocks_in g cs) i (block_in c)
  blocks_set zero cs i c = refl
  blocks_set (suc g) [] i c = refl
  blocks_set (suc g) (d ∷ cs) zero c = refl
  blocks_set (suc g) (d ∷ cs) (suc i) c = ap (λ (l : List (Option (Block T))). block_in d ∷ l) (blocks_set g cs i c)

  -- the block of a place is that of its cell
  pub blocks_get : (g : ℕ) (cs : List (Cell T)) (i : ℕ) → i < g → slice_index_or (blocks_in g cs) i None ≡ block_in (cell_at cs i)
  blocks_get zero cs i lt = absurd (omega (arith, lt))
  blocks_get (suc g) [] i lt = refl
  blocks_get (suc g) (d ∷ cs) zero lt = refl
  blocks_get (suc g) (d ∷ cs) (suc i) lt = blocks_get g cs i (omega (arith, lt))

  blocks_past : (g : ℕ) (cs : List (Cell T)) (i : ℕ) → g ≤ i → slice_index_or (blocks_in g cs) i None ≡ None
  blocks_past zero cs i le = refl
  blocks_past (suc g) [] i le = refl
  blocks_past (suc g) (d ∷ cs) zero le = absurd (omega (arith, le))
  blocks_past (suc g) (d ∷ cs) (suc i) le = blocks_past g cs i (omega (arith, le))

  -- the same block is the same table
  pub blocks_same : (g : ℕ) (cs : List (Cell T)) (i : ℕ) (c : Cell T) → block_in c ≡ block_in (cell_at cs i) → blocks_in g (slice_set cs i c) ≡ blocks_in g cs
  blocks_same zero cs i c e = refl
  blocks_same (suc g) [] i c e = refl
  blocks_same (suc g) (d ∷ cs) zero c e = ap (λ (x : Option (Block T)). x ∷ blocks_in g cs) e
  blocks_same (suc g) (d ∷ cs) (suc i) c e = ap (λ (l : List (Option (Block T))). block_in d ∷ l) (blocks_same g cs i c e)

  pub blocks_long : (g : ℕ) (cs : List (Cell T)) → g ≤ length cs → length (blocks_in g cs) ≡ g
  blocks_long zero cs le = refl
  blocks_long (suc g) [] le = absurd (omega (arith, le))
  blocks_long (suc g) (d ∷ cs) le = ap suc (blocks_long g cs (omega (arith, le)))

  -- further numbers that are free are further places of the table
  blocks_more : (g m j : ℕ) (cs : List (Cell T)) (c : Cell T) → j ≡ g + m → j < length cs → ((k : ℕ) → g ≤ k → block_in (cell_at cs k) ≡ None)
      → blocks_in (suc j) (slice_set cs j c) ≡ blocks_in g cs ++ (replicate m None ++ block_in c ∷ [])
  blocks_more g m j [] c is lt none = absurd (omega (arith, lt))
  blocks_more zero zero zero (d ∷ cs) c is lt none = refl
  blocks_more zero zero (suc j) (d ∷ cs) c is lt none = absurd (omega (arith, is))
  blocks_more zero (suc m) zero (d ∷ cs) c is lt none = absurd (omega (arith, is))
  blocks_more zero (suc m) (suc j) (d ∷ cs) c is lt none =
      let first : block_in d ≡ None = none 0 (omega arith) in
      let rest = blocks_more zero m j cs c (omega (arith, is)) (omega (arith, lt)) (λ k h. none (suc k) (omega arith)) in cc (first, rest)
  blocks_more (suc g) m zero (d ∷ cs) c is lt none = absurd (omega (arith, is))
  blocks_more (suc g) m (suc j) (d ∷ cs) c is lt none =
      ap (λ (l : List (Option (Block T))). block_in d ∷ l)
      (blocks_more g m j cs c (omega (arith, is)) (omega (arith, lt)) (λ k h. none (suc k) (omega (arith, h))))

  -- so many numbers are given once a block of this one is there
  abbrev pub Given : ℕ → ℕ → List (Cell T) → Cell T → Block T → Type 0
  Given g b cs c x = (n : ℕ) × (g ≤ n) × (b ≤ n) × (n ≤ length cs) × (blocks_in n (slice_set cs (b - 1) c) ≡ with_made (blocks_in g cs) b x)

  -- a block in a free place is the table with a made one
  pub blocks_made : (g b : ℕ) (cs : List (Cell T)) (x : Block T) (c : Cell T) → block_in c ≡ Some x → g ≤ length cs → 0 < b → b ≤ length cs
      → ((k : ℕ) → g ≤ k → block_in (cell_at cs k) ≡ None) → Given g b cs c x
  blocks_made g b cs x c is le low lt none = by (cases_lt g b)
    where
      long_is : length (blocks_in g cs) ≡ g
      long_is = blocks_long g cs le

      branch : Bool → List (Option (Block T))
      branch y =
          if y then blocks_in g cs ++ (replicate (b - 1 - length (blocks_in g cs)) None ++ Some x ∷ []) else slice_set (blocks_in g cs) (b - 1) (Some x)

      by : (g < b) ⊎ (b ≤ g) → Given g b cs c x
      by (inr h) = (
        g,
        omega arith,
        h,
        le,
        blocks_set g cs (b - 1) c ∙ ap (slice_set (blocks_in g cs) (b - 1)) is ∙ sym (ap branch (le-ltb (length (blocks_in g cs)) b (omega (arith, h, long_is)))),
      )
      by (inl h) = let next : b ≡ suc (b - 1) = omega (arith, low) in (
        b,
        omega (arith, h),
        omega arith,
        lt,
        ap (λ (n : ℕ). blocks_in n (slice_set cs (b - 1) c)) next
            ∙ blocks_more g (b - 1 - g) (b - 1) cs c (omega (arith, h)) (omega (arith, lt, low)) none
            ∙ ap (λ (y : Option (Block T)). blocks_in g cs ++ (replicate (b - 1 - g) None ++ y ∷ [])) is
            ∙ sym (ap branch (lt-ltb (length (blocks_in g cs)) b (omega (arith, h, long_is)))
            ∙ ap (λ (n : ℕ). blocks_in g cs ++ (replicate (b - 1 - n) None ++ Some x ∷ [])) long_is),
      )

module _ {T : Type 0} (roots count : ℕ) (s : Parts T) (laid : AreLaid roots count s) where
  -- the block of a number is that of its cell
  pub block_is : (b : ℕ) → 0 < b → block_of (memory_of roots s) b ≡ block_in (cell_at s.cells (b - 1))
  block_is b low = ap (λ (y : Bool). if y then None else slice_index_or (blocks_in s.given s.cells) (b - 1) None)
      (ne_eqb b 0 (λ e. omega (arith, low, e))) ∙ by (cases_lt (b - 1) s.given)
    where
      by : (b - 1 < s.given) ⊎ (s.given ≤ b - 1) → slice_index_or (blocks_in s.given s.cells) (b - 1) None ≡ block_in (cell_at s.cells (b - 1))
      by (inl h) = blocks_get s.given s.cells (b - 1) h
      by (inr h) = blocks_past s.given s.cells (b - 1) h ∙ sym (laid.rest (b - 1) h)

  -- the number of a block was given
  pub was_given : (j : ℕ) (x : Block T) → block_in (cell_at s.cells j) ≡ Some x → j < s.given
  was_given j x is = elim (cases_lt j s.given) as (λ _. j < s.given) [
    | inl h ↦ h
    | inr h ↦ absurd (let none = laid.rest j h in cc (is, none))
  ]

-- a cell of the list is that of its number
pub cell_beyond : {T : Type 0} (cs : List (Cell T)) (i : ℕ) (c : Cell T) → cell_at cs i ≡ c → c ≢ Free → i < length cs
cell_beyond [] i c e ne = absurd (ne (sym e))
cell_beyond (d ∷ cs) zero c e ne = omega arith
cell_beyond (d ∷ cs) (suc i) c e ne = let r = cell_beyond cs i c e ne in omega (arith, r)

pub get_some : (ws : List ℕ) (i w : ℕ) → slice_get ws i ≡ Some w → i < length ws
get_some [] i w e = absurd (cc e)
get_some (v ∷ ws) zero w e = omega arith
get_some (v ∷ ws) (suc i) w e = let r = get_some ws i w e in omega (arith, r)

-- another cell leaves all laid
module _ {T : Type 0} (roots count : ℕ) (s : Parts T) (laid : AreLaid roots count s) (i : ℕ) (c : Cell T) where
  abbrev pub recelled : ℕ → Parts T
  recelled given = record { words = s.words; slots = s.slots; cells = slice_set s.cells i c; given = given }

  pub laid_with : (given : ℕ) → s.given ≤ given → given ≤ length s.cells → (block_in c ≡ None) ⊎ (i < given)
      → ((x : Block T) → block_in c ≡ Some x → length x.entry ≡ 4) → AreLaid roots count (recelled given)
  laid_with given more le free four = record {
    all = laid.all;
    slots_are = laid.slots_are;
    counted = let l = length-set s.cells i c in let n = laid.counted in omega (arith, l, n);
    within = let l = length-set s.cells i c in omega (arith, l, le);
    rest = λ k h. rest k h (cases_eq k i);
    fours = λ k x e. fours k x e (cases_eq k i);
  }
    where
      short : (k : ℕ) → k ≡ i → (cell_at (slice_set s.cells i c) k ≡ c) ⊎ (cell_at (slice_set s.cells i c) k ≡ Free)
      short k e = elim (cases_lt i (length s.cells)) as (λ _. (cell_at (slice_set s.cells i c) k ≡ c) ⊎ (cell_at (slice_set s.cells i c) k ≡ Free)) [
        | inl h ↦ inl (ap (cell_at (slice_set s.cells i c)) e ∙ get_or-set_same s.cells i c Free h)
        | inr h ↦ inr (get_or_past (slice_set s.cells i c) k Free (let l = length-set s.cells i c in omega (arith, l, h, e)))
      ]

      rest : (k : ℕ) → given ≤ k → (k ≡ i) ⊎ (k ≢ i) → block_in (cell_at (slice_set s.cells i c) k) ≡ None
      rest k h (inl e) = elim (short k e) as (λ _. block_in (cell_at (slice_set s.cells i c) k) ≡ None) [
        | inl is ↦ ap block_in is ∙ elim free as (λ _. block_in c ≡ None) [
          | inl none ↦ none
          | inr lt ↦ absurd (omega (arith, lt, h, e))
        ]
        | inr is ↦ ap block_in is
      ]
      rest k h (inr ne) = ap block_in (get_or-set_other s.cells i k c Free ne) ∙ laid.rest k (omega (arith, h, more))

      fours : (k : ℕ) (x : Block T) → block_in (cell_at (slice_set s.cells i c) k) ≡ Some x → (k ≡ i) ⊎ (k ≢ i) → length x.entry ≡ 4
      fours k x e (inl is) = elim (short k is) as (λ _. length x.entry ≡ 4) [
        | inl same ↦ four x (sym (ap block_in same) ∙ e)
        | inr none ↦ absurd (let here : block_in (cell_at (slice_set s.cells i c) k) ≡ None = ap block_in none in cc (here, e))
      ]
      fours k x e (inr ne) = laid.fours k x (sym (ap block_in (get_or-set_other s.cells i k c Free ne)) ∙ e)

-- a cell with the same block leaves the memory as it was
pub laid_same : {T : Type 0} (roots count : ℕ) (s : Parts T) (laid : AreLaid roots count s) (i : ℕ) (c : Cell T) → block_in c ≡ block_in (cell_at s.cells i)
    → AreLaid roots count (recelled roots count s laid i c s.given) × (memory_of roots (recelled roots count s laid i c s.given) ≡ memory_of roots s)
laid_same {T} roots count s laid i c e = (
  laid_with roots count s laid i c s.given (omega arith) laid.within (free (cases_lt i s.given)) (λ x is. laid.fours i x (sym e ∙ is)),
  ap (λ (l : List (Option (Block T))). record (memory_of roots s) { blocks = l }) (blocks_same s.given s.cells i c e),
)
  where
    free : (i < s.given) ⊎ (s.given ≤ i) → (block_in c ≡ None) ⊎ (i < s.given)
    free (inl h) = inr h
    free (inr h) = inl (e ∙ laid.rest i h)

pub entries_lie : (T : Type 0) → EntriesLie T
entries_lie T roots count s b i w laid e = let low = numbered b e in
    let here : entry_in (block_in (cell_at s.cells (b - 1))) i ≡ Some w = ap (λ (x : Option (Block T)). entry_in x i) (sym (block_is roots count s laid b low)) ∙ e in
    by low (block_in (cell_at s.cells (b - 1))) refl here
  where
    numbered : (b : ℕ) → word_at (memory_of roots s) (Entry b i) ≡ Some w → 0 < b
    numbered zero e = absurd (cc e)
    numbered (suc b) e = omega arith

    by : 0 < b → (x : Option (Block T)) → block_in (cell_at s.cells (b - 1)) ≡ x → entry_in x i ≡ Some w
        → ((0 < b) × (b ≤ count) × (i < 4)) × (entry_in (block_in (cell_at s.cells (b - 1))) i ≡ Some w)
    by low None is e = absurd (cc e)
    by low (Some x) is e =
        let lt = was_given roots count s laid (b - 1) x is in let small = get_some x.entry i w e in let four = laid.fours (b - 1) x is in
        let within = laid.within in let few = laid.counted in ((low, omega (arith, lt, within, few), omega (arith, small, four)), ap (λ (y : Option (Block T)). entry_in y i) is ∙ e)

-- another word of the entry is one of the block
pub noted_is : {T : Type 0} (c : Cell T) (i w : ℕ) → block_in (noted_in c i w) ≡ with_entry (block_in c) i w
noted_is Free i w = refl
noted_is Claimed i w = refl
noted_is (Out e) i w = refl
noted_is (Has x ws) i w = refl
noted_is (Held ρ e x ws) i w = refl

-- the cell of a number with another block: what there is not stays so, and entries are as long
module _ {T : Type 0} (roots count : ℕ) (s : Parts T) (laid : AreLaid roots count s) (b : ℕ) (low : 0 < b) (d : Cell T)
    (to : Option (Block T) → Option (Block T)) (is : block_in d ≡ to (block_in (cell_at s.cells (b - 1)))) (none : to None ≡ None)
    (long : (y x : Block T) → to (Some y) ≡ Some x → length x.entry ≡ length y.entry) where
  pub laid_changed : AreLaid roots count (recelled roots count s laid (b - 1) d s.given)
  laid_changed = laid_with roots count s laid (b - 1) d s.given (omega arith) laid.within (free (cases_lt (b - 1) s.given))
      (λ x e. four (block_in (cell_at s.cells (b - 1))) refl x (sym is ∙ e))
    where
      free : (b - 1 < s.given) ⊎ (s.given ≤ b - 1) → (block_in d ≡ None) ⊎ (b - 1 < s.given)
      free (inl h) = inr h
      free (inr h) = inl (is ∙ ap to (laid.rest (b - 1) h) ∙ none)

      four : (y : Option (Block T)) → block_in (cell_at s.cells (b - 1)) ≡ y → (x : Block T) → to y ≡ Some x → length x.entry ≡ 4
      four None here x e = absurd (cc (none, e))
      four (Some y) here x e = long y x e ∙ laid.fours (b - 1) y here

  pub blocks_changed : memory_of roots (recelled roots count s laid (b - 1) d s.given) ≡ with_block (memory_of roots s) b (to (block_of (memory_of roots s) b))
  blocks_changed = ap (λ (l : List (Option (Block T))). record (memory_of roots s) { blocks = l })
      (blocks_set s.given s.cells (b - 1) d ∙ ap (slice_set (blocks_in s.given s.cells) (b - 1)) (is ∙ ap to (sym (block_is roots count s laid b low))))

pub entries_are_apart : (T : Type 0) → EntriesAreApart T
entries_are_apart T roots count s b i new laid low =
    let c : Cell T = cell_at s.cells (b - 1) in let d : Cell T = noted_in c i new in let to : Option (Block T) → Option (Block T) = λ x. with_entry x i new in (
      laid_changed roots count s laid b low d to (noted_is c i new) refl long,
      blocks_changed roots count s laid b low d to (noted_is c i new) refl long,
    )
  where
    long : (y x : Block T) → with_entry (Some y) i new ≡ Some x → length x.entry ≡ length y.entry
    long y x e = let same : record { value = y.value; entry = slice_set y.entry i new; words = y.words } ≡ x = cc e in
        sym (ap (λ (z : Block T). length z.entry) same) ∙ length-set y.entry i new

-- another one of the own words is one of the block
pub own_noted_is : {T : Type 0} (c : Cell T) (i w : ℕ) → block_in (own_noted_in c i w) ≡ with_word_in (block_in c) i w
own_noted_is Free i w = refl
own_noted_is Claimed i w = refl
own_noted_is (Out e) i w = refl
own_noted_is (Has x ws) i w = refl
own_noted_is (Held ρ e x ws) i w = refl

-- a word of a block's own lies in the cell of its number
pub own_lies : {T : Type 0} (roots count : ℕ) (s : Parts T) (b i w : ℕ) → AreLaid roots count s → word_at (memory_of roots s) (Word b i) ≡ Some w
    → (0 < b) × (b ≤ count) × (word_in (block_in (cell_at s.cells (b - 1))) i ≡ Some w)
own_lies {T} roots count s b i w laid e = let low = numbered b e in
    let here : word_in (block_in (cell_at s.cells (b - 1))) i ≡ Some w = ap (λ (x : Option (Block T)). word_in x i) (sym (block_is roots count s laid b low)) ∙ e in
    (low, few low (block_in (cell_at s.cells (b - 1))) refl here, here)
  where
    numbered : (b : ℕ) → word_at (memory_of roots s) (Word b i) ≡ Some w → 0 < b
    numbered zero e = absurd (cc e)
    numbered (suc b) e = omega arith

    few : 0 < b → (x : Option (Block T)) → block_in (cell_at s.cells (b - 1)) ≡ x → word_in x i ≡ Some w → b ≤ count
    few low None is e = absurd (cc e)
    few low (Some x) is e = let lt = was_given roots count s laid (b - 1) x is in let within = laid.within in let few = laid.counted in omega (arith, lt, within, few, low)

-- another one there is another word of its name, and nothing else
abbrev pub own_noted : {T : Type 0} → Parts T → ℕ → ℕ → ℕ → Parts T
own_noted s b i new =
    record { words = s.words; slots = s.slots; cells = slice_set s.cells (b - 1) (own_noted_in (cell_at s.cells (b - 1)) i new); given = s.given }

pub own_are_apart : {T : Type 0} (roots count : ℕ) (s : Parts T) (b i new : ℕ) → AreLaid roots count s → 0 < b
    → AreLaid roots count (own_noted s b i new) × (memory_of roots (own_noted s b i new) ≡ with_word (memory_of roots s) (Word b i) new)
own_are_apart {T} roots count s b i new laid low =
    let c : Cell T = cell_at s.cells (b - 1) in let d : Cell T = own_noted_in c i new in let to : Option (Block T) → Option (Block T) = λ x. with_word_in x i new in (
      laid_changed roots count s laid b low d to (own_noted_is c i new) refl long,
      blocks_changed roots count s laid b low d to (own_noted_is c i new) refl long,
    )
  where
    long : (y x : Block T) → with_word_in (Some y) i new ≡ Some x → length x.entry ≡ length y.entry
    long y x e = let same : record { value = y.value; entry = y.entry; words = slice_set y.words i new } ≡ x = cc e in sym (ap (λ (z : Block T). length z.entry) same)
