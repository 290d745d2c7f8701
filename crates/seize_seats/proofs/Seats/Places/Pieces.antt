-- The own words of a block: one of them by its name, for whoever knows where they lie, and places that have none. Assumes `Logic`.
use Rattle.std.specs.Prelude.{slice_get, slice_set, replicate}
use Rattle.std.proofs.Common.{◌≡◌, ℕ, zero, suc, ◌+◌, ◌-◌, ◌*◌, ◌^◌, ◌<◌, List, [], ◌∷◌, length, length-set, set, get_or, sym, refl, ap, ◌∙◌, Some, None, arith, subst}
use seplogic.Ra.Ura.{Ura}
use base.Fraction.{full_share}
use base.Share.{quarter}
use base.Logic.{SProp, ent, sep, wand, ex, all, emp, apply∗, all_e}
use base.Fml.{Lft, Share, Fml, Incl, ftrue, fsep, flft, fdead}
use types.Logic.{Logic, sem}
use types.Kit.{‵, raw, ◌⊛◌, later, ◌$◌, ◌∵◌, !, qed, move, drop, split, frame, each, assume, fsplit, fsplit3, fjoin, fpick, fpack, show, check, use0, use1, use2, rewrite, updating, await, now, done}
use denote.RattleType.{RattleType}
use denote.Memory.{part_at}
use denote.Shares.{Shares}
use denote.RawPtr.{Ptr, block_of, count_of, InBlock}
use denote.Steps.{nothing}
use Rattle.core.specs.contracts.option.Option.{the_row as OptionOf}
use Rattle.core.specs.Sync.RawAtomic.{word}
use Rattle.seize_words.specs.OneMemory.Mem.{value_at, value_in, word_at, word_in}
use Rattle.seize_words.specs.declared.at.At.TheVariants.{Word}
use Rattle.seize_seats.specs.Seats.Errands.{ViewCode, coded_of}
use Rattle.seize_seats.specs.Seats.State.{State}
use Rattle.seize_seats.specs.Seats.Seen.{fact}
use Rattle.seize_seats.specs.Seats.Cells.{Cell, Free, Claimed, Out, Has, Held, block_in, cell_at, own_noted_in}
use Rattle.seize_seats.specs.Seats.Lendings.{lendable, in_hand}
use Rattle.seize_seats.specs.Seats.Lines.{Parts, memory_of, AreLaid}
use Rattle.seize_seats.specs.Seats.Owned.{Pieces, IsPiece, words_right, piece, pieces, row, stride, resting, held, hand, BaseId, age, IsIts, lent_here, had_here}
use Rattle.seize_seats.proofs.Seats.Places.Cells.{block_is, own_noted, own_lies, own_are_apart, get_some}
use Rattle.seize_seats.proofs.Seats.Places.Numbers as Numbers
use Rattle.seize_seats.proofs.Seats.Blocks.Lendings as Lendings
use Rattle.seize_seats.proofs.Seats.Places.Rows.{row_at}
use Rattle.seize_seats.proofs.Seats.Places.Rows as Rows

module _ {M : Type 1} {𝓤 : Ura M} (𝓛 : Logic 𝓤) (R : RattleType) (own : Pieces R.Denot) {V W : Type 0} (cv : ViewCode V) (holds : State R.Denot V W → Type 0) (p : Ptr) (z : BaseId) where
  abbrev ⟦◌⟧ : Fml → SProp 𝓤
  ⟦ P ⟧ = sem 𝓛 P

  abbrev α : Lft
  α = age z

  abbrev lent : ℕ → R.Denot × List ℕ → ℕ → ℕ → Fml
  lent = lent_here R own cv holds p z

  abbrev had : ℕ → ℕ → R.Denot × List ℕ → Fml
  had = had_here R own cv holds p z

  abbrev Ws : List ℕ → List (Cell R.Denot) → Fml
  Ws = Numbers.Ws 𝓛 R p z lent had

  abbrev cell_of : ℕ → Cell R.Denot → Fml
  cell_of = Numbers.cell_of 𝓛 R p z lent had

  -- the word of a name, in which block of memory, is another one
  abbrev pub Renotes : Parts R.Denot → ℕ → ℕ → ℕ → ℕ → ℕ → SProp 𝓤
  Renotes s n i k e y = wand 𝓤 ⟦ word k e y ⟧ (ex 𝓤 (Numbers.Rewritten 𝓛 R p z lent had s (Word n i) y))

  -- what lies beside the own words in the cell of a block, and of one whose value is in the hand of a call
  abbrev entry_of : ℕ → List ℕ → Fml
  entry_of j es = row (block_of p) ((j - z.first) * 40 + (z.skip * 8 + count_of p)) es

  abbrev sign : ℕ → Fml
  sign j = word (block_of p) ((j - z.first) * 40 + (z.skip * 8 + count_of p) + 32) 1

  abbrev value_of : ℕ → R.Denot → Fml
  value_of j x = lendable R α cv.code z.views_name holds j x (block_of z.values) ((j - z.first) * stride R + count_of z.values)

  abbrev rest : ℕ → R.Denot → List ℕ → Fml
  rest j x es = fsep (value_of j x) (fsep (entry_of j es) (fsep (hand R α z.hands_name full_share j resting) (sign j)))

  abbrev rest_held : ℕ → ℕ → Share → R.Denot → List ℕ → Fml
  rest_held j ρ q x es = fsep (in_hand R α cv.code z.views_name holds ρ j x)
      (fsep (flft α q) (fsep (hand R α z.hands_name quarter j (held ρ q)) (fsep (entry_of j es) (sign j))))

  parted : (j : ℕ) (x : R.Denot) (us es : List ℕ) → ent 𝓤 ⟦ cell_of j (Has (x, us) es) ⟧ ⟦ fsep (piece own (x, us)) (rest j x es) ⟧
  parted j x us es = qed 𝓛 (‵ (cell_of j (Has (x, us) es)) ∷ []) ∵ fsplit ! $ move ! (1 ∷ []) $ fsplit ! $ move ! (1 ∷ []) $ fsplit ! $ move ! (1 ∷ []) $ fsplit ! $
      -- [the own words; the value; the entry; the hand; the sign]
      move ! (3 ∷ 4 ∷ []) $ fjoin ! $ move ! (3 ∷ 0 ∷ []) $ fjoin ! $ move ! (2 ∷ 0 ∷ []) $ fjoin ! $ move ! (1 ∷ 0 ∷ []) $ fjoin ! $ done !

  joined : (j : ℕ) (x : R.Denot) (us es : List ℕ) → ent 𝓤 ⟦ fsep (piece own (x, us)) (rest j x es) ⟧ ⟦ cell_of j (Has (x, us) es) ⟧
  joined j x us es = qed 𝓛 (‵ (fsep (piece own (x, us)) (rest j x es)) ∷ []) ∵ fsplit ! $ move ! (1 ∷ []) $ fsplit ! $ move ! (1 ∷ []) $ fsplit ! $ move ! (1 ∷ []) $ fsplit ! $
      -- [the hand; the sign; the entry; the value; the own words]
      move ! (4 ∷ 3 ∷ []) $ fjoin ! $ move ! (3 ∷ 0 ∷ []) $ fjoin ! $ move ! (1 ∷ 0 ∷ []) $ fjoin ! $ move ! (1 ∷ 0 ∷ []) $ fjoin ! $ done !

  parted_held : (j ρ : ℕ) (q : Share) (x : R.Denot) (us es : List ℕ)
      → ent 𝓤 ⟦ cell_of j (Held ρ q (x, us) es) ⟧ ⟦ fsep (piece own (x, us)) (rest_held j ρ q x es) ⟧
  parted_held j ρ q x us es = qed 𝓛 (‵ (cell_of j (Held ρ q (x, us) es)) ∷ []) ∵ fsplit ! $ move ! (1 ∷ []) $ fsplit3 ! $ move ! (2 ∷ []) $ fsplit ! $ move ! (1 ∷ []) $
      fsplit ! $
      -- [the own words; who has it; the share; the hand; the entry; the sign]
      move ! (4 ∷ 5 ∷ []) $ fjoin ! $ move ! (4 ∷ 0 ∷ []) $ fjoin ! $ move ! (3 ∷ 0 ∷ []) $ fjoin ! $ move ! (2 ∷ 0 ∷ []) $ fjoin ! $ move ! (1 ∷ 0 ∷ []) $ fjoin ! $ done !

  joined_held : (j ρ : ℕ) (q : Share) (x : R.Denot) (us es : List ℕ)
      → ent 𝓤 ⟦ fsep (piece own (x, us)) (rest_held j ρ q x es) ⟧ ⟦ cell_of j (Held ρ q (x, us) es) ⟧
  joined_held j ρ q x us es = qed 𝓛 (‵ (fsep (piece own (x, us)) (rest_held j ρ q x es)) ∷ []) ∵ fsplit ! $ move ! (1 ∷ []) $ fsplit ! $ move ! (1 ∷ []) $ fsplit ! $
      move ! (1 ∷ []) $ fsplit ! $ move ! (1 ∷ []) $ fsplit ! $
      -- [the entry; the sign; the hand; the share; who has it; the own words]
      move ! (5 ∷ 4 ∷ []) $ fjoin ! $ move ! (4 ∷ 0 ∷ []) $ fjoin ! $ move ! (1 ∷ 0 ∷ []) $ fjoin ! $ move ! (2 ∷ 0 ∷ []) $ fjoin ! $ move ! (1 ∷ 0 ∷ []) $ fjoin ! $ done !

  module _ (s : Parts R.Denot) (laid : AreLaid z.roots z.count s) (n i e w : ℕ) (r q : Ptr)
      (lands : InBlock r → i * 8 < 2 ^ 63 → (r ≡ q) × (e ≡ i * 8 + count_of q)) (low : 0 < n) (of : IsIts z (n - 1)) where
    abbrev j : ℕ
    j = n - 1

    abbrev Opens : Type 1
    Opens = ent 𝓤 ⟦ Ws s.words s.cells ⟧ (sep 𝓤 ⟦ word (block_of q) e w ⟧ (all 𝓤 (Renotes s n i (block_of q) e)))

    -- whatever lies beside the own words in the cell
    noting : (x : R.Denot) (us : List ℕ) (D : List ℕ → Cell R.Denot) (K : Fml) → cell_at s.cells j ≡ D us → own.at x ≡ r → slice_get us i ≡ Some w
        → ((vs : List ℕ) → ent 𝓤 ⟦ cell_of j (D vs) ⟧ ⟦ fsep (piece own (x, vs)) K ⟧) → ((vs : List ℕ) → ent 𝓤 ⟦ fsep (piece own (x, vs)) K ⟧ ⟦ cell_of j (D vs) ⟧)
        → ((y : ℕ) → own_noted_in (D us) i y ≡ D (set us i y)) → Opens
    noting x us D K here kept is to from same =
        let P = Numbers.Recells 𝓛 R p z lent had s.words s.cells j in let k : ℕ = block_of (own.at x) in let o : ℕ = count_of (own.at x) in
        let Q = Rows.Puts 𝓛 k o us i e in
        qed 𝓛 (‵ (Ws s.words s.cells) ∷ []) ∵
        use1 𝓛 (‵ (cell_of j (D us)) ⊛ raw (all 𝓤 P)) (Numbers.celled 𝓛 R p z lent had s.words s.cells j (D us) of here) $ split ! $
        use1 𝓛 (‵ (fsep (piece own (x, us)) K)) (to us) $ fsplit ! $ fsplit ! $ fpick ! (λ fits. drop ! $ fsplit ! $
        let long = fits.0 in let in_it = get_some us i w is in let room = fits.1 (omega (arith, long, in_it)) in let few = room.1 in
        let there = lands (subst InBlock kept room.0) (omega (arith, few, long, in_it)) in let lies : own.at x ≡ q = kept ∙ there.0 in
        let at : e ≡ i * 8 + o = there.1 ∙ ap (λ (t : Ptr). i * 8 + count_of t) (sym lies) in
        -- [the own words; the right; what lies beside them; the others]
        use1 𝓛 (‵ (word k e (get_or us i 0)) ⊛ raw (all 𝓤 Q)) (row_at 𝓛 k us o i e at in_it) $ split ! $
        rewrite ! 0 (λ (t : Ptr × ℕ). ‵ (word (block_of t.0) e t.1)) (λ l. (lies l, read us i w is l)) refl $ frame ! $
        each ! (Renotes s n i (block_of q) e) (λ y. use1 𝓛 (raw (Q y)) (all_e 𝓤 Q y) $ assume ! (‵ (word (block_of q) e y)) $
        rewrite ! 0 (λ (r : Ptr). ‵ (word (block_of r) e y)) (sym lies) refl $
        use2 𝓛 (‵ (row k o (set us i y))) (apply∗ 𝓤 ⟦ word k e y ⟧ ⟦ row k o (set us i y) ⟧) $ fjoin ! $
        nothing ! $ fpack ! (IsPiece own (x, set us i y)) (λ _. ftrue) (length-set us i y ∙ fits.0, fits.1) $ fjoin ! $ fjoin ! $
        let c : Cell R.Denot = D (set us i y) in
        use1 𝓛 (‵ (cell_of j c)) (from (set us i y)) $ move ! (1 ∷ []) $
        use1 𝓛 (raw (P c)) (all_e 𝓤 P c) $ move ! (1 ∷ 0 ∷ []) $
        use2 𝓛 (‵ (Ws s.words (slice_set s.cells j c))) (apply∗ 𝓤 ⟦ cell_of j c ⟧ ⟦ Ws s.words (slice_set s.cells j c) ⟧) $
        let this : own_noted_in (cell_at s.cells j) i y ≡ c = ap (λ (x : Cell R.Denot). own_noted_in x i y) here ∙ same y in
        rewrite ! 0 (λ (x : Cell R.Denot). ‵ (Ws s.words (slice_set s.cells j x))) (sym this) refl $
        show ! (Numbers.Rewritten 𝓛 R p z lent had s (Word n i) y) (own_noted s n i y) $ check ! (own_are_apart z.roots z.count s n i y laid low) $ done !))
      where
        read : (ws : List ℕ) (i w : ℕ) → slice_get ws i ≡ Some w → get_or ws i 0 ≡ w
        read [] i w e = absurd (cc e)
        read (v ∷ ws) zero w e = cc e
        read (v ∷ ws) (suc i) w e = read ws i w e

    -- ONE OF THE OWN WORDS, and what takes another one in its place: they lie where what is kept of the block says
    pub own_opens : (x : R.Denot) → value_at (memory_of z.roots s) n ≡ Some x → own.at x ≡ r → word_at (memory_of z.roots s) (Word n i) ≡ Some w → Opens
    own_opens x value kept is = let l = own_lies z.roots z.count s n i w laid is in
        by (cell_at s.cells j) refl l.2 (ap value_in (sym (block_is z.roots z.count s laid n low)) ∙ value)
      where
        by : (c : Cell R.Denot) → cell_at s.cells j ≡ c → word_in (block_in c) i ≡ Some w → value_in (block_in c) ≡ Some x → Opens
        by Free here got has = absurd (cc got)
        by Claimed here got has = absurd (cc got)
        by (Out u) here got has = absurd (cc got)
        by (Has y es) here got has = let same : y.0 ≡ x = cc has in
            noting y.0 y.1 (λ vs. Has (y.0, vs) es) (rest j y.0 es) here (ap own.at same ∙ kept) got (λ vs. parted j y.0 vs es) (λ vs. joined j y.0 vs es) (λ u. refl)
        by (Held ρ u y es) here got has = let same : y.0 ≡ x = cc has in
            noting y.0 y.1 (λ vs. Held ρ u (y.0, vs) es) (rest_held j ρ u y.0 es) here (ap own.at same ∙ kept) got (λ vs. parted_held j ρ u y.0 vs es)
            (λ vs. joined_held j ρ u y.0 vs es) (λ v. refl)

  -- ---- with the value of the block
  abbrev owned : R.Denot × List ℕ → ℕ → ℕ → Fml
  owned x b o = fsep (piece own x) (part_at (OptionOf R) full_share (Some x.0) b o)

  -- once the lifetime of the memory is over the value is back
  pub over : (i : ℕ) (x : R.Denot × List ℕ) (b o : ℕ) → ent 𝓤 (sep 𝓤 ⟦ fdead α ⟧ ⟦ lent i x b o ⟧) (𝓛.H.⇛ (sep 𝓤 ⟦ fdead α ⟧ ⟦ owned x b o ⟧))
  over i x b o = qed 𝓛 (‵ (fdead α) ∷ ‵ (lent i x b o) ∷ []) ∵ updating ! $ move ! (1 ∷ []) $ fsplit ! $ move ! (2 ∷ 1 ∷ []) $
      use2 𝓛 (later (‵ (fdead α) ⊛ ‵ (part_at (OptionOf R) full_share (Some x.0) b o))) (Lendings.over 𝓛 R α (coded_of cv) z.views_name holds i x.0 b o) $ await ! tt $ split ! $
      -- [dead; the value; the own words]
      move ! (2 ∷ 1 ∷ []) $ fjoin ! $ now ! $ move ! (1 ∷ 0 ∷ []) $ done !

  -- a value that is owned can be lent
  pub offers : Shares 𝓛 (OptionOf R) (OptionOf R).lives → (i : ℕ) (x : R.Denot × List ℕ) (b o : ℕ) (τ : Lft) (s : Share) → Incl τ (OptionOf R).lives
      → ent 𝓤 (sep 𝓤 ⟦ owned x b o ⟧ ⟦ flft τ s ⟧) (𝓛.H.⇛ (sep 𝓤 ⟦ lent i x b o ⟧ ⟦ flft τ s ⟧))
  offers shares i x b o τ s inc = qed 𝓛 (‵ (owned x b o) ∷ ‵ (flft τ s) ∷ []) ∵ updating ! $ fsplit ! $ move ! (1 ∷ 2 ∷ []) $
      use2 𝓛 (later (‵ (lendable R α cv.code z.views_name holds i x.0 b o) ⊛ ‵ (flft τ s)))
      (Lendings.offers 𝓛 R α (coded_of cv) z.views_name holds shares i x.0 b o τ s inc) $ await ! tt $ split ! $
      -- [the value; the token; the own words]
      move ! (2 ∷ 0 ∷ []) $ fjoin ! $ now ! $ done !

-- places without a value have none
pub no_pieces : {M : Type 1} {𝓤 : Ura M} (𝓛 : Logic 𝓤) {D : Type 0} (own : Pieces D) (n : ℕ) → ent 𝓤 (emp 𝓤) (sem 𝓛 (pieces own (replicate n None)))
no_pieces 𝓛 own zero = qed 𝓛 [] ∵ nothing ! $ done !
no_pieces 𝓛 own (suc n) = qed 𝓛 [] ∵ use0 𝓛 (‵ (pieces own (replicate n None))) (no_pieces 𝓛 own n) $ nothing ! $ fjoin ! $ done !

-- they are those of another value that has them where the one had them
pub alike : {M : Type 1} {𝓤 : Ura M} (𝓛 : Logic 𝓤) {D : Type 0} (own : Pieces D) (x y : D) (us : List ℕ) → own.at x ≡ own.at y → own.count x ≡ own.count y
    → ent 𝓤 (sem 𝓛 (piece own (x, us))) (sem 𝓛 (piece own (y, us)))
alike 𝓛 own x y us there many =
    let P : Ptr × ℕ → Fml = λ t. fsep (fact ((length us ≡ t.1) × (0 < t.1 → InBlock t.0 × (t.1 * 8 < 2 ^ 63)))) (fsep (row (block_of t.0) (count_of t.0) us) (words_right t.1 t.0)) in
    qed 𝓛 (‵ (piece own (x, us)) ∷ []) ∵ rewrite ! 0 (λ (t : Ptr × ℕ). ‵ (P t)) (λ i. (there i, many i)) refl $ done !
