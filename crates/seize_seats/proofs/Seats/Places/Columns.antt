-- Words and their places: another word at a place is another word of its name.
use Rattle.std.specs.Prelude.{◌≡◌, ◌≢◌, ℕ, zero, suc, ◌+◌, ◌*◌, ◌^◌, ◌<◌, List, length, Some, slice_get, slice_index, slice_set}
use Rattle.std.proofs.Common.{refl, ap, ◌∙◌, arith, inl, inr, length-set}
use Rattle.std.proofs.lemmas.List.{get_or-set_same, get_or-set_other}
use Rattle.seize_words.specs.OneMemory.SlotWords.{slot_word, with_slot_word}
use Rattle.seize_words.specs.declared.at.At.TheVariants.{Root, Used, Slot, Entry, Word}
use Rattle.seize_seats.specs.Seats.Lines.{Parts, column, slots_from, AreSlots, AreLaid}
use Rattle.seize_seats.specs.Seats.Laws.{WordsLie, WordsAreApart}

column_get : (k : ℕ) (ws : List ℕ) (o i w : ℕ) → slice_get (column k ws o) i ≡ Some w → (i < k) × (slice_index ws (i * 16 + o) ≡ w)
column_get zero ws o i w e = absurd (cc e)
column_get (suc k) ws o zero w e = (omega arith, ap (slice_index ws) (let s : 0 * 16 + o ≡ o = omega arith in s) ∙ cc e)
column_get (suc k) ws o (suc i) w e = let r = column_get k ws (o + 16) i w e in
    (omega (arith, r.0), ap (slice_index ws) (let s : suc i * 16 + o ≡ i * 16 + (o + 16) = omega arith in s) ∙ r.1)

column_else : (k : ℕ) (ws : List ℕ) (o p w : ℕ) → ((i : ℕ) → i < k → i * 16 + o ≢ p) → column k (slice_set ws p w) o ≡ column k ws o
column_else zero ws o p w other = refl
column_else (suc k) ws o p w other =
    let first : slice_index (slice_set ws p w) o ≡ slice_index ws o = get_or-set_other ws p o w 0 (λ e. other 0 (omega arith) (omega (arith, e))) in
    let rest = column_else k ws (o + 16) p w (λ i lt e. other (suc i) (omega (arith, lt)) (omega (arith, e))) in
    cc (first, rest)

column_set : (k : ℕ) (ws : List ℕ) (o i w : ℕ) → i < k → i * 16 + o < length ws → column k (slice_set ws (i * 16 + o) w) o ≡ slice_set (column k ws o) i w
column_set zero ws o i w lt le = absurd (omega (arith, lt))
column_set (suc k) ws o zero w lt le =
    let same : 0 * 16 + o ≡ o = omega arith in
    let first : slice_index (slice_set ws o w) o ≡ w = get_or-set_same ws o w 0 (omega (arith, le)) in
    let rest = column_else k ws (o + 16) o w (λ i lt e. omega (arith, e)) in
    ap (λ p. column (suc k) (slice_set ws p w) o) same ∙ cc (first, rest)
column_set (suc k) ws o (suc i) w lt le =
    let same : suc i * 16 + o ≡ i * 16 + (o + 16) = omega arith in
    let first : slice_index (slice_set ws (i * 16 + (o + 16)) w) o ≡ slice_index ws o = get_or-set_other ws (i * 16 + (o + 16)) o w 0 (λ e. omega (arith, e)) in
    let rest = column_set k ws (o + 16) i w (omega (arith, lt)) (omega (arith, le, same)) in
    ap (λ p. column (suc k) (slice_set ws p w) o) same ∙ cc (first, rest)

pub slots_get : (k : ℕ) (ws : List ℕ) (o s f w : ℕ) → slot_word (slots_from k ws o) s f ≡ Some w → (s < k) × (f < 2) × (slice_index ws (s * 16 + o + f) ≡ w)
slots_get zero ws o s f w e = absurd (cc e)
slots_get (suc k) ws o zero zero w e = (omega arith, omega arith, ap (slice_index ws) (let r : 0 * 16 + o + 0 ≡ o = omega arith in r) ∙ cc e)
slots_get (suc k) ws o zero (suc zero) w e = (omega arith, omega arith, ap (slice_index ws) (let r : 0 * 16 + o + 1 ≡ o + 1 = omega arith in r) ∙ cc e)
slots_get (suc k) ws o zero (suc (suc f)) w e = absurd (cc e)
slots_get (suc k) ws o (suc s) f w e =
    let r = slots_get k ws (o + 16) s f w e in
    (omega (arith, r.0), r.1, ap (slice_index ws) (let q : suc s * 16 + o + f ≡ s * 16 + (o + 16) + f = omega arith in q) ∙ r.2)

slots_else : (k : ℕ) (ws : List ℕ) (o p w : ℕ) → ((s f : ℕ) → s < k → f < 2 → s * 16 + o + f ≢ p) → slots_from k (slice_set ws p w) o ≡ slots_from k ws o
slots_else zero ws o p w other = refl
slots_else (suc k) ws o p w other =
    let first : slice_index (slice_set ws p w) o ≡ slice_index ws o =
    get_or-set_other ws p o w 0 (λ e. other 0 0 (omega arith) (omega arith) (omega (arith, e))) in
    let second : slice_index (slice_set ws p w) (o + 1) ≡ slice_index ws (o + 1) =
    get_or-set_other ws p (o + 1) w 0 (λ e. other 0 1 (omega arith) (omega arith) (omega (arith, e))) in
    let rest = slots_else k ws (o + 16) p w (λ s f lt le e. other (suc s) f (omega (arith, lt)) le (omega (arith, e))) in
    cc (first, second, rest)

slots_set : (k : ℕ) (ws : List ℕ) (o s f w : ℕ) → s < k → f < 2 → s * 16 + o + f < length ws
    → slots_from k (slice_set ws (s * 16 + o + f) w) o ≡ with_slot_word (slots_from k ws o) s f w
slots_set zero ws o s f w lt le fits = absurd (omega (arith, lt))
slots_set (suc k) ws o zero zero w lt le fits =
    let same : 0 * 16 + o + 0 ≡ o = omega arith in
    let first : slice_index (slice_set ws o w) o ≡ w = get_or-set_same ws o w 0 (omega (arith, fits)) in
    let second : slice_index (slice_set ws o w) (o + 1) ≡ slice_index ws (o + 1) = get_or-set_other ws o (o + 1) w 0 (λ e. omega (arith, e)) in
    let rest = slots_else k ws (o + 16) o w (λ s f lt le e. omega (arith, e)) in
    ap (λ p. slots_from (suc k) (slice_set ws p w) o) same ∙ cc (first, second, rest)
slots_set (suc k) ws o zero (suc zero) w lt le fits =
    let same : 0 * 16 + o + 1 ≡ o + 1 = omega arith in
    let first : slice_index (slice_set ws (o + 1) w) o ≡ slice_index ws o = get_or-set_other ws (o + 1) o w 0 (λ e. omega (arith, e)) in
    let second : slice_index (slice_set ws (o + 1) w) (o + 1) ≡ w = get_or-set_same ws (o + 1) w 0 (omega (arith, fits)) in
    let rest = slots_else k ws (o + 16) (o + 1) w (λ s f lt le e. omega (arith, e, le)) in
    ap (λ p. slots_from (suc k) (slice_set ws p w) o) same ∙ cc (first, second, rest)
slots_set (suc k) ws o zero (suc (suc f)) w lt le fits = absurd (omega (arith, le))
slots_set (suc k) ws o (suc s) f w lt le fits =
    let same : suc s * 16 + o + f ≡ s * 16 + (o + 16) + f = omega arith in
    let p : ℕ = s * 16 + (o + 16) + f in
    let first : slice_index (slice_set ws p w) o ≡ slice_index ws o = get_or-set_other ws p o w 0 (λ e. omega (arith, e)) in
    let second : slice_index (slice_set ws p w) (o + 1) ≡ slice_index ws (o + 1) = get_or-set_other ws p (o + 1) w 0 (λ e. omega (arith, e)) in
    let rest = slots_set k ws (o + 16) s f w (omega (arith, lt)) le (omega (arith, fits, same)) in
    ap (λ q. slots_from (suc k) (slice_set ws q w) o) same ∙ cc (first, second, rest)

-- a slot that has its words lies within them
slot_fits : (roots slots : ℕ) (ws : List ℕ) → AreSlots roots ws slots → (n f : ℕ) → n < slots → f < 2 → (n + 32 < 2 ^ 38) × ((roots + roots + n) * 16 + f < length ws)
slot_fits roots slots ws (inl none) n f lt low = absurd (let z = none.0 in omega (arith, z, lt))
slot_fits roots slots ws (inr some) n f lt low = let l = some.0 in let m = some.1 in (omega (arith, lt, m), omega (arith, l, lt, low))

module _ {T : Type 0} (roots count : ℕ) (s : Parts T) (laid : AreLaid roots count s) where
  abbrev with_words : List ℕ → Parts T
  with_words ws = record { words = ws; slots = s.slots; cells = s.cells; given = s.given }

  abbrev Slots : List ℕ → Type 0
  Slots ws = AreSlots roots ws s.slots

  -- other words of slots, and all else is as it was
  laid_as : (p w : ℕ) → Slots (slice_set s.words p w) → AreLaid roots count (with_words (slice_set s.words p w))
  laid_as p w are = record {
    all = let l = length-set s.words p w in let a = laid.all in omega (arith, l, a);
    slots_are = are;
    counted = laid.counted;
    within = laid.within;
    rest = laid.rest;
    fours = laid.fours;
  }

  -- what lies before the slots changes none of them
  laid_before : (p w : ℕ) → p < (roots + roots) * 16 → AreLaid roots count (with_words (slice_set s.words p w))
  laid_before p w lt = laid_as p w (elim laid.slots_are as (λ _. Slots (slice_set s.words p w)) [
    | inl none ↦ inl (none.0, length-set s.words p w ∙ none.1, λ k le. get_or-set_other s.words p k w 0 (λ e. omega (arith, e, le, lt)) ∙ none.2 k le)
    | inr some ↦ inr (length-set s.words p w ∙ some.0, some.1)
  ])

pub words_lie : (T : Type 0) → WordsLie T
words_lie T roots count s (Root r) w laid fixed e =
    let g = column_get roots s.words 0 r w e in let lt : r < roots = g.0 in
    (lt, omega (arith, laid.all, lt), ap (slice_index s.words) (let q : r * 16 ≡ r * 16 + 0 = omega arith in q) ∙ g.1)
words_lie T roots count s (Used r) w laid fixed e =
    let g = column_get roots s.words (roots * 16) r w e in let lt : r < roots = g.0 in
    (lt, omega (arith, laid.all, lt), ap (slice_index s.words) (let q : (roots + r) * 16 ≡ r * 16 + roots * 16 = omega arith in q) ∙ g.1)
words_lie T roots count s (Slot n f) w laid fixed e =
    let g = slots_get s.slots s.words ((roots + roots) * 16) n f w e in let lt : n < s.slots = g.0 in let low : f < 2 = g.1 in
    let fits = slot_fits roots s.slots s.words laid.slots_are n f lt low in (
      (fits.0, low),
      fits.1,
      ap (slice_index s.words) (let q : (roots + roots + n) * 16 + f ≡ n * 16 + (roots + roots) * 16 + f = omega arith in q) ∙ g.2,
    )
words_lie T roots count s (Entry b i) w laid fixed e = absurd fixed
words_lie T roots count s (Word b i) w laid fixed e = absurd fixed

pub words_are_apart : (T : Type 0) → WordsAreApart T
words_are_apart T roots count s (Root r) w new laid fixed e =
    let g = words_lie T roots count s (Root r) w laid tt e in let lt : r < roots = g.0 in let ws : List ℕ = s.words in
    let p : ℕ = r * 16 in let same : r * 16 ≡ r * 16 + 0 = omega arith in
    let here = ap (λ q. column roots (slice_set ws q new) 0) same ∙ column_set roots ws 0 r new lt (omega (arith, laid.all, lt)) in
    let used = column_else roots ws (roots * 16) p new (λ i le q. omega (arith, q, lt, le)) in
    let rest = slots_else s.slots ws ((roots + roots) * 16) p new (λ n f le low q. omega (arith, q, lt)) in
    (laid_before roots count s laid p new (omega (arith, lt)), cc (here, used, rest))
words_are_apart T roots count s (Used r) w new laid fixed e =
    let g = words_lie T roots count s (Used r) w laid tt e in let lt : r < roots = g.0 in let ws : List ℕ = s.words in
    let p : ℕ = (roots + r) * 16 in let same : (roots + r) * 16 ≡ r * 16 + roots * 16 = omega arith in
    let here = ap (λ q. column roots (slice_set ws q new) (roots * 16)) same ∙ column_set roots ws (roots * 16) r new lt (omega (arith, laid.all, lt)) in
    let links = column_else roots ws 0 p new (λ i le q. omega (arith, q, lt, le)) in
    let rest = slots_else s.slots ws ((roots + roots) * 16) p new (λ n f le low q. omega (arith, q, lt)) in
    (laid_before roots count s laid p new (omega (arith, lt)), cc (here, links, rest))
words_are_apart T roots count s (Slot n f) w new laid fixed e =
    let h = slots_get s.slots s.words ((roots + roots) * 16) n f w e in let ws : List ℕ = s.words in
    let g = words_lie T roots count s (Slot n f) w laid tt e in let lt : n < s.slots = h.0 in let low : f < 2 = h.1 in
    let p : ℕ = (roots + roots + n) * 16 + f in let same : (roots + roots + n) * 16 + f ≡ n * 16 + (roots + roots) * 16 + f = omega arith in
    let here = ap (λ q. slots_from s.slots (slice_set ws q new)
    ((roots + roots) * 16)) same ∙ slots_set s.slots ws ((roots + roots) * 16) n f new lt low (omega (arith, g.1, same)) in
    let links = column_else roots ws 0 p new (λ i le q. omega (arith, q, le)) in
    let used = column_else roots ws (roots * 16) p new (λ i le q. omega (arith, q, le)) in
    (laid_as roots count s laid p new (some lt), cc (here, links, used))
  where
    some : n < s.slots → Slots roots count s laid (slice_set s.words ((roots + roots + n) * 16 + f) new)
    some lt = elim laid.slots_are as (λ _. Slots roots count s laid (slice_set s.words ((roots + roots + n) * 16 + f) new)) [
      | inl none ↦ absurd (let z = none.0 in omega (arith, z, lt))
      | inr all ↦ inr (length-set s.words ((roots + roots + n) * 16 + f) new ∙ all.0, all.1)
    ]
words_are_apart T roots count s (Entry b i) w new laid fixed e = absurd fixed
words_are_apart T roots count s (Word b i) w new laid fixed e = absurd fixed
