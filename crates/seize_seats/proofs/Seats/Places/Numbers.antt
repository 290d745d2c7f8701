-- One number of a strip opened at a time, and the words of roots, slots and entries by their names. Assumes `Logic`.
use Rattle.std.specs.Prelude.{slice_get, slice_set}
use Rattle.std.proofs.Common.{◌≡◌, ℕ, zero, suc, ◌+◌, ◌-◌, ◌*◌, ◌<◌, List, [], ◌∷◌, length, length-set, set, get_or, sym, refl, ap, ◌∙◌, subst, arith, Some}
use seplogic.Ra.Ura.{Ura}
use base.Fraction.{full_share}
use base.Share.{quarter}
use base.Logic.{SProp, ent, sep, wand, ex, all, guard, id⊢, apply∗, all_e}
use base.Fml.{Lft, Fml, ftrue, fsep, flft}
use types.Logic.{Logic, sem}
use types.Kit.{‵, raw, ◌⊛◌, ◌$◌, ◌∵◌, !, qed, move, drop, split, frame, each, assume, fsplit, fsplit3, fjoin, fjoin3, fpick, fpack, show, check, use1, use2, rewrite, done}
use denote.RattleType.{RattleType}
use denote.RawPtr.{Ptr, block_of, count_of}
use denote.Steps.{nothing}
use Rattle.core.specs.Sync.RawAtomic.{word}
use Rattle.seize_words.specs.OneMemory.Mem.{entry_in, word_at, with_word}
use Rattle.seize_words.specs.declared.at.At.{At}
use Rattle.seize_words.specs.declared.at.At.TheVariants.{Root, Used, Slot, Entry, Word}
use Rattle.seize_seats.specs.Seats.Cells.{Body, Cell, Free, Claimed, Out, Has, Held, block_in, cell_at, noted_in}
use Rattle.seize_seats.specs.Seats.Lines.{Parts, long, place_of, memory_of, IsWord, IsNoBlocks, AreLaid}
use Rattle.seize_seats.specs.Seats.Strips.{Strip, AreStrips}
use Rattle.seize_seats.specs.Seats.Laws.{noted}
use Rattle.seize_seats.specs.Seats.Owned.{row, stride, resting, held, hand, under, strips, listing, listed, all_strips, ground, BaseId, age, core_of, book_of, strip_of, IsListed, IsIts, IsIn, place_in}
use Rattle.seize_seats.proofs.Seats.Places.Cells.{entries_lie, entries_are_apart, own_lies, get_some}
use Rattle.seize_seats.proofs.Seats.Places.Columns.{words_lie, words_are_apart}
use Rattle.seize_seats.proofs.Seats.Places.Rows.{row_at}
use Rattle.seize_seats.proofs.Seats.Places.Rows as Rows
use Rattle.seize_seats.proofs.Seats.Places.Strips.{strip_within}
use Rattle.seize_seats.proofs.Seats.Places.Strips as Strips
use Rattle.seize_seats.proofs.Seats.Places.Grounds as Grounds

module _ {M : Type 1} {𝓤 : Ura M} (𝓛 : Logic 𝓤) (R : RattleType) (p : Ptr) (z : BaseId) (lent : ℕ → Body R.Denot → ℕ → ℕ → Fml) (had : ℕ → ℕ → Body R.Denot → Fml) where
  abbrev ⟦◌⟧ : Fml → SProp 𝓤
  ⟦ P ⟧ = sem 𝓛 P

  abbrev b : ℕ
  b = block_of p

  abbrev o : ℕ
  o = count_of p

  -- where the words of its first number lie
  abbrev f : ℕ
  f = z.skip * 8 + count_of p

  abbrev b' : ℕ
  b' = block_of z.values

  abbrev o' : ℕ
  o' = count_of z.values

  abbrev α : Lft
  α = age z

  -- all words of roots and slots, and what lies under the numbers
  abbrev All : List (Cell R.Denot) → Fml
  All cs = all_strips R α z.hands_name lent had (book_of z) (IsListed p z) cs

  abbrev Fixed : List ℕ → Fml
  Fixed ws = ground (core_of z) ws

  abbrev pub Ws : List ℕ → List (Cell R.Denot) → Fml
  Ws ws cs = fsep (Fixed ws) (All cs)

  abbrev pub cell_of : ℕ → Cell R.Denot → Fml
  cell_of i c = under R α z.hands_name lent had b ((i - z.first) * 40 + f) b' ((i - z.first) * stride R + o') i c

  abbrev pub Recells : List ℕ → List (Cell R.Denot) → ℕ → Cell R.Denot → SProp 𝓤
  Recells ws cs i d = wand 𝓤 ⟦ cell_of i d ⟧ ⟦ Ws ws (slice_set cs i d) ⟧

  -- what is so of the list of the strips
  abbrev Are : List (Cell R.Denot) → List Strip → Type 0
  Are cs ss = AreStrips 0 ss (length cs) × IsListed p z ss

  -- each number of the strip is there
  pub there : (ws : List ℕ) (cs : List (Cell R.Denot)) (i : ℕ) → IsIts z i → ent 𝓤 ⟦ Ws ws cs ⟧ (guard 𝓤 (i < length cs) ⟦ Ws ws cs ⟧)
  there ws cs i of = qed 𝓛 (‵ (Fixed ws) ∷ ‵ (All cs) ∷ []) ∵ move ! (1 ∷ []) $ fpick ! (λ ss. fsplit3 ! $ move ! (1 ∷ []) $ fpick ! (λ are. drop ! $
      let w = strip_within ss 0 (length cs) z.place (strip_of p z) are.0 are.1 in let last = w.1 in let high = of.1 in check ! (omega (arith, last, high)) $
      nothing ! $ fpack ! (Are cs ss) (λ _. ftrue) are $ move ! (1 ∷ 0 ∷ 2 ∷ []) $ fjoin3 ! $
      fpack ! (List Strip) (listed R α z.hands_name lent had (book_of z) (IsListed p z) cs) ss $ move ! (1 ∷ 0 ∷ []) $ fjoin ! $ done !))

  -- one number of the strip
  pub celled : (ws : List ℕ) (cs : List (Cell R.Denot)) (i : ℕ) (c : Cell R.Denot) → IsIts z i → cell_at cs i ≡ c
      → ent 𝓤 ⟦ Ws ws cs ⟧ (sep 𝓤 ⟦ cell_of i c ⟧ (all 𝓤 (Recells ws cs i)))
  celled ws cs i c of has = qed 𝓛 (‵ (Fixed ws) ∷ ‵ (All cs) ∷ []) ∵ move ! (1 ∷ []) $ fpick ! (λ ss. fsplit3 ! $ move ! (1 ∷ []) $ fpick ! (λ are. drop ! $
      let P = Strips.Puts 𝓛 R α z.hands_name lent had ss cs 0 (strip_of p z) i in let same : i - 0 ≡ i = omega arith in
      let Of : List (Cell R.Denot) → Fml = strips R α z.hands_name lent had ss in
      -- [the list; the strips; the words]
      move ! (1 ∷ []) $ use1 𝓛 (‵ (cell_of i c) ⊛ raw (all 𝓤 P))
      (Strips.strips_at 𝓛 R α z.hands_name lent had ss cs 0 (length cs) z.place i (strip_of p z) c are.0 (omega arith) are.1 of
      (ap (cell_at cs) same ∙ has)) $ split ! $ frame ! $
      -- [the others; the list; the words]
      each ! (Recells ws cs i) (λ d. use1 𝓛 (raw (P d)) (all_e 𝓤 P d) $ assume ! (‵ (cell_of i d)) $
      use2 𝓛 (‵ (Of (set cs (i - 0) d))) (apply∗ 𝓤 ⟦ cell_of i d ⟧ ⟦ Of (set cs (i - 0) d) ⟧) $
      rewrite ! 0 (λ (k : ℕ). ‵ (Of (set cs k d))) same refl $
      rewrite ! 1 (λ (n : ℕ). ‵ (listing R α z.hands_name lent had (book_of z) ss n)) (sym (length-set cs i d)) refl $
      let still : AreStrips 0 ss (length (set cs i d)) = subst (AreStrips 0 ss) (sym (length-set cs i d)) are.0 in
      nothing ! $ fpack ! (Are (set cs i d) ss) (λ _. ftrue) (still, are.1) $ move ! (2 ∷ 0 ∷ 1 ∷ []) $ fjoin3 ! $
      fpack ! (List Strip) (listed R α z.hands_name lent had (book_of z) (IsListed p z) (set cs i d)) ss $ move ! (1 ∷ 0 ∷ []) $ fjoin ! $ done !)))

  -- the word of a name is another one
  abbrev pub Rewritten : Parts R.Denot → At → ℕ → Parts R.Denot → SProp 𝓤
  Rewritten s at y n = guard 𝓤 (AreLaid z.roots z.count n × (memory_of z.roots n ≡ with_word (memory_of z.roots s) at y)) ⟦ Ws n.words n.cells ⟧

  abbrev pub Rewrites : Parts R.Denot → At → ℕ → ℕ → SProp 𝓤
  Rewrites s at e y = wand 𝓤 ⟦ word b e y ⟧ (ex 𝓤 (Rewritten s at y))

  module _ (s : Parts R.Denot) (laid : AreLaid z.roots z.count s) where
    abbrev Opens : At → ℕ → ℕ → Type 1
    Opens at e w = ent 𝓤 ⟦ Ws s.words s.cells ⟧ (sep 𝓤 ⟦ word b e w ⟧ (all 𝓤 (Rewrites s at e)))

    -- one that lies before the words of the first strip
    fixed : (at : At) (e w : ℕ) → IsNoBlocks at → place_of z.roots at < long z.roots → z.fixed ≡ p → word_at (memory_of z.roots s) at ≡ Some w
        → e ≡ place_of z.roots at * 8 + o → Opens at e w
    fixed at e w free low first is at_e =
        let ws : List ℕ = s.words in let i : ℕ = place_of z.roots at in let l = words_lie R.Denot z.roots z.count s at w laid free is in
        let c : ℕ = block_of z.fixed in let P = Grounds.Sets 𝓛 (core_of z) ws i c e in let there : e ≡ i * 8 + count_of z.fixed = at_e ∙ ap (λ (r : Ptr). i * 8 + count_of r) (sym first) in
        qed 𝓛 (‵ (Fixed ws) ∷ ‵ (All s.cells) ∷ []) ∵
        use1 𝓛 (‵ (word c e (get_or ws i 0)) ⊛ raw (all 𝓤 P)) (Grounds.ground_at 𝓛 (core_of z) ws i e low laid.all there) $ split ! $
        rewrite ! 0 (λ (k : ℕ). ‵ (word c e k)) l.2 refl $ rewrite ! 0 (λ (r : Ptr). ‵ (word (block_of r) e w)) first refl $ frame ! $
        each ! (Rewrites s at e) (λ y. use1 𝓛 (raw (P y)) (all_e 𝓤 P y) $ assume ! (‵ (word b e y)) $
        rewrite ! 0 (λ (r : Ptr). ‵ (word (block_of r) e y)) (sym first) refl $
        use2 𝓛 (‵ (Fixed (set ws i y))) (apply∗ 𝓤 ⟦ word c e y ⟧ ⟦ Fixed (set ws i y) ⟧) $
        let a = words_are_apart R.Denot z.roots z.count s at w y laid free is in
        show ! (Rewritten s at y) (record { words = set ws i y; slots = s.slots; cells = s.cells; given = s.given }) $ check ! (a.0, a.1) $ fjoin ! $ done !)

    -- a sign, a hand, the words of an entry, and what lies beside them
    abbrev Lying : ℕ → Fml → Fml → List ℕ → Fml
    Lying n H V us = let k : ℕ = (n - 1 - z.first) * 40 + f in fsep (word b (k + 32) 1) (fsep H (fsep (row b k us) V))

    -- the word of an entry, whatever lies beside the words of the cell
    noting : (n i e w : ℕ) (es : List ℕ) (d : List ℕ → Cell R.Denot) (H V : Fml) → cell_at s.cells (n - 1) ≡ d es → IsIts z (n - 1) → 0 < n
        → slice_get es i ≡ Some w → ((us : List ℕ) → ent 𝓤 ⟦ cell_of (n - 1) (d us) ⟧ ⟦ Lying n H V us ⟧) → ((us : List ℕ) → ent 𝓤 ⟦ Lying n H V us ⟧ ⟦ cell_of (n - 1) (d us) ⟧)
        → ((y : ℕ) → noted_in (d es) i y ≡ d (set es i y)) → e ≡ place_in z (Entry n i) * 8 + o → Opens (Entry n i) e w
    noting n i e w es d H V here of low is to from same at_e =
        let j : ℕ = n - 1 in let k : ℕ = (j - z.first) * 40 + f in let P = Recells s.words s.cells j in let Q = Rows.Puts 𝓛 b k es i e in
        qed 𝓛 (‵ (Ws s.words s.cells) ∷ []) ∵
        use1 𝓛 (‵ (cell_of j (d es)) ⊛ raw (all 𝓤 P)) (celled s.words s.cells j (d es) of here) $ split ! $ use1 𝓛 (‵ (Lying n H V es)) (to es) $
        fsplit ! $ move ! (1 ∷ []) $ fsplit ! $ move ! (1 ∷ []) $ fsplit ! $
        -- [the entry; what lies beside it; the hand; the sign; the others]
        use1 𝓛 (‵ (word b e (get_or es i 0)) ⊛ raw (all 𝓤 Q)) (row_at 𝓛 b es k i e (omega (arith, at_e)) (get_some es i w is)) $ split ! $
        rewrite ! 0 (λ (k : ℕ). ‵ (word b e k)) (read es i w is) refl $ frame ! $
        each ! (Rewrites s (Entry n i) e) (λ y. use1 𝓛 (raw (Q y)) (all_e 𝓤 Q y) $ assume ! (‵ (word b e y)) $
        use2 𝓛 (‵ (row b k (set es i y))) (apply∗ 𝓤 ⟦ word b e y ⟧ ⟦ row b k (set es i y) ⟧) $ fjoin ! $ move ! (1 ∷ 0 ∷ []) $ fjoin ! $ move ! (1 ∷ 0 ∷ []) $
        fjoin ! $ use1 𝓛 (‵ (cell_of j (d (set es i y)))) (from (set es i y)) $ move ! (1 ∷ []) $ let c : Cell R.Denot = d (set es i y) in
        use1 𝓛 (raw (P c)) (all_e 𝓤 P c) $ move ! (1 ∷ 0 ∷ []) $
        use2 𝓛 (‵ (Ws s.words (slice_set s.cells j c))) (apply∗ 𝓤 ⟦ cell_of j c ⟧ ⟦ Ws s.words (slice_set s.cells j c) ⟧) $
        let this : noted_in (cell_at s.cells j) i y ≡ c = ap (λ (x : Cell R.Denot). noted_in x i y) here ∙ same y in
        rewrite ! 0 (λ (x : Cell R.Denot). ‵ (Ws s.words (slice_set s.cells j x))) (sym this) refl $
        show ! (Rewritten s (Entry n i) y) (noted R.Denot s n i y) $ check ! (entries_are_apart R.Denot z.roots z.count s n i y laid low) $ done !)
      where
        read : (ws : List ℕ) (i w : ℕ) → slice_get ws i ≡ Some w → get_or ws i 0 ≡ w
        read [] i w e = absurd (cc e)
        read (v ∷ ws) zero w e = cc e
        read (v ∷ ws) (suc i) w e = read ws i w e

    entry : (n i e w : ℕ) → IsIts z (n - 1) → word_at (memory_of z.roots s) (Entry n i) ≡ Some w → e ≡ place_in z (Entry n i) * 8 + o → Opens (Entry n i) e w
    entry n i e w of is at_e = let l = entries_lie R.Denot z.roots z.count s n i w laid is in by l.0.0 (cell_at s.cells (n - 1)) refl l.1
      where
        by : 0 < n → (c : Cell R.Denot) → cell_at s.cells (n - 1) ≡ c → entry_in (block_in c) i ≡ Some w → Opens (Entry n i) e w
        by low Free here got = absurd (cc got)
        by low Claimed here got = absurd (cc got)
        by low (Out q) here got = absurd (cc got)
        by low (Has x es) here got = let j : ℕ = n - 1 in
            noting n i e w es (Has x) (hand R α z.hands_name full_share j resting) (lent j x b' ((j - z.first) * stride R + o')) here of low got
            (λ us. id⊢ 𝓤 ⟦ cell_of j (Has x us) ⟧) (λ us. id⊢ 𝓤 ⟦ cell_of j (Has x us) ⟧) (λ y. refl) at_e
        by low (Held ρ q x es) here got = let j : ℕ = n - 1 in
            noting n i e w es (Held ρ q x) (hand R α z.hands_name quarter j (held ρ q)) (fsep (flft α q) (had ρ j x)) here of low got
            (λ us. id⊢ 𝓤 ⟦ cell_of j (Held ρ q x us) ⟧) (λ us. id⊢ 𝓤 ⟦ cell_of j (Held ρ q x us) ⟧) (λ y. refl) at_e

    -- THE WORD OF A NAME, and what takes another one in its place
    pub word_opens : (at : At) (e w : ℕ) → IsIn p z at → word_at (memory_of z.roots s) at ≡ Some w → e ≡ place_in z at * 8 + o → Opens at e w
    word_opens (Root r) e w of is at_e =
        let lt : r < z.roots = (words_lie R.Denot z.roots z.count s (Root r) w laid tt is).0 in fixed (Root r) e w tt (omega (arith, lt)) of is at_e
    word_opens (Used r) e w of is at_e =
        let lt : r < z.roots = (words_lie R.Denot z.roots z.count s (Used r) w laid tt is).0 in fixed (Used r) e w tt (omega (arith, lt)) of is at_e
    word_opens (Slot n g) e w of is at_e =
        let few = of.0 in let low = (words_lie R.Denot z.roots z.count s (Slot n g) w laid tt is).0.1 in fixed (Slot n g) e w tt (omega (arith, few, low)) of.1 is at_e
    word_opens (Entry n i) e w of is at_e = entry n i e w of is at_e
    word_opens (Word n i) e w of is at_e = absurd of

    pub is_word : (at : At) (w : ℕ) → word_at (memory_of z.roots s) at ≡ Some w → IsWord z.roots z.count at
    is_word (Root r) w is = (words_lie R.Denot z.roots z.count s (Root r) w laid tt is).0
    is_word (Used r) w is = (words_lie R.Denot z.roots z.count s (Used r) w laid tt is).0
    is_word (Slot n g) w is = (words_lie R.Denot z.roots z.count s (Slot n g) w laid tt is).0
    is_word (Entry n i) w is = (entries_lie R.Denot z.roots z.count s n i w laid is).0
    is_word (Word n i) w is = let l = own_lies z.roots z.count s n i w laid is in (l.0, l.1)
