-- How a block comes and goes: a number is claimed, its place taken out, a block published, taken away, and its number is free again. Assumes `Logic`.
use Rattle.std.specs.Prelude.{slice_get, slice_set, IsSome, replicate}
use Rattle.std.proofs.Common.{◌≡◌, ◌⊎◌, ℕ, zero, suc, ◌+◌, ◌-◌, ◌*◌, ◌^◌, ◌<◌, ◌≤◌, List, [], ◌∷◌, length, refl, sym, ap, ◌∙◌, subst, arith, inl, inr, Option, Some, None, Ok}
use seplogic.Ra.Ura.{Ura}
use base.Fraction.{full_share}
use base.Share.{quarter, three_quarters}
use base.Logic.{SProp, ent, sep, ex, all, guard, upd, emp, apply∗, all_e, upd_i}
use base.Fml.{Lft, Share, Fml, ftrue, fsep, fex, flft}
use types.Logic.{Logic, sem}
use types.Kit.{‵, raw, ◌⊛◌, given, ◌$◌, ◌∵◌, !, qed, by, move, keep, drop, split, split3, fsplit, fsplit3, fjoin, fjoin3, fpick, fpack, pick, learn, show, frame, each, assume, suffices, settle, use1, use2, use3, rewrite, done}
use denote.RattleType.{RattleType}
use denote.RawPtr.{Ptr, block_ptr, block_of, count_of}
use denote.Steps.{nothing}
use Rattle.core.specs.Sync.RawAtomic.{word, asks, always}
use Rattle.core.proofs.raw_atomic.Asked.{Lies, Again}
use Rattle.seize_words.specs.OneMemory.Mem.{Mem, value_at, value_in, fresh, after, IsFreeNumber}
use Rattle.seize_words.specs.OneMemory.Op.{Make, Take, Made, Taken}
use Rattle.seize_words.specs.OneMemory.Op as Op
use Rattle.seize_words.specs.declared.block.Block.{Block}
use Rattle.seize_seats.specs.Seats.State.{State, Goes, Allows}
use Rattle.seize_seats.specs.Seats.Lendings.{Witness, VisibleByWitness}
use Rattle.seize_seats.specs.Seats.Cells.{Body, Cell, Free, Claimed, Out, Has, Held, block_in, blocks_in, cell_at, sign_of}
use Rattle.seize_seats.specs.Seats.Lines.{Parts, memory_of, AreLaid}
use Rattle.seize_seats.specs.Seats.Errands.{ViewCode, StaysSo, StayAllSo}
use Rattle.seize_seats.specs.Seats.Owned.{Pieces, fact, sitting, claim_owns, Hand, hand_coded, resting, busy, held, zeros, row, stride, hand, inside, offered, lent_here, BaseId, age, IsIts, Inside, state_of, standing, inner}
use Rattle.seize_seats.proofs.Seats.Places.Cells.{recelled, laid_same, laid_with, block_is, blocks_made, blocks_set, cell_beyond}
use Rattle.seize_seats.proofs.Seats.Places.Numbers as Numbers
use Rattle.seize_seats.proofs.Seats.Views.Ledgers as Ledgers
use Rattle.seize_seats.proofs.Seats.Stepping.Moves as Moves
use Rattle.seize_seats.proofs.Seats.Views.Hands as Hands
use Rattle.seize_seats.proofs.Seats.Views.Known as Known

module _ {M : Type 1} {𝓤 : Ura M} (𝓛 : Logic 𝓤) (R : RattleType) (own : Pieces R.Denot) {V W : Type 0} (cv : ViewCode V) (holds : State R.Denot V W → Type 0) (keeps : V → V → W → ℕ
    → Type 0) (p : Ptr) (z : BaseId) where
  open 𝓛 use {H, A}

  abbrev Pr : Type 2
  Pr = SProp 𝓤

  abbrev ◌⊢◌ : Pr → Pr → Type 1
  P ⊢ Q = ent 𝓤 P Q

  abbrev ◌∗◌ : Pr → Pr → Pr
  P ∗ Q = sep 𝓤 P Q

  abbrev ⟦◌⟧ : Fml → Pr
  ⟦ P ⟧ = sem 𝓛 P

  infix 26 ◌⊢◌
  infixr 35 ◌∗◌
  abbrev α : Lft
  α = age z

  abbrev I : Fml
  I = inner R own cv holds p z

  abbrev Inv : Fml
  Inv = Moves.Inv 𝓛 R own cv holds keeps p z

  abbrev In : Type 0
  In = Inside R.Denot V W

  abbrev b : ℕ
  b = block_of p

  abbrev o : ℕ
  o = z.skip * 8 + count_of p

  -- a number of the strip, from its first one on
  abbrev pub nth : ℕ → ℕ
  nth i = i - z.first

  abbrev pub Led : In → Fml
  Led t = sitting (age z) cv z.views_name t.blank t.views

  abbrev seat : ℕ → V → Fml
  seat = Moves.seat 𝓛 R own cv holds keeps p z

  abbrev gone_on : ℕ → (V → Type 0) → Fml
  gone_on = Moves.gone_on 𝓛 R own cv holds keeps p z

  abbrev pub lent : ℕ → Body R.Denot → ℕ → ℕ → Fml
  lent = lent_here R own cv holds p z

  abbrev had : ℕ → ℕ → Body R.Denot → Fml
  had = Moves.had 𝓛 R own cv holds keeps p z

  abbrev Ws : List ℕ → List (Cell R.Denot) → Fml
  Ws = Numbers.Ws 𝓛 R p z lent had

  abbrev pub cell_of : ℕ → Cell R.Denot → Fml
  cell_of = Numbers.cell_of 𝓛 R p z lent had

  abbrev pub Recells : In → ℕ → Cell R.Denot → Pr
  Recells t i = Numbers.Recells 𝓛 R p z lent had t.parts.words t.parts.cells i

  -- a share of who has a number, and what lies under it
  abbrev pub hands : Share → ℕ → Hand → Fml
  hands q i h = hand R α z.hands_name q i h

  abbrev pub contents : ℕ → List ℕ → Option R.Denot → Fml
  contents i ws x = inside R α z.hands_name b (nth i * 40 + o) (block_of z.values) (nth i * stride R + count_of z.values) ws x

  -- the same of a block, whose value can be lent
  abbrev pub offers : ℕ → List ℕ → Body R.Denot → Fml
  offers i ws x = offered R α z.hands_name lent had b (nth i * 40 + o) (block_of z.values) (nth i * stride R + count_of z.values) i ws x

  abbrev pub Sound : In → Type 0
  Sound t = holds (state_of z t) × AreLaid z.roots z.count t.parts

  abbrev At_inside : In → Fml
  At_inside = standing R own cv holds p z

  module _ (t : In) (sound : Sound t) where
    -- another cell with the same block
    pub recell : (i : ℕ) (d : Cell R.Denot) → block_in d ≡ block_in (cell_at t.parts.cells i)
        → ⟦ cell_of i d ⟧ ∗ all 𝓤 (Recells t i) ∗ ⟦ Led t ⟧ ⊢ ⟦ I ⟧
    recell i d same =
        let ws : List ℕ = t.parts.words in let cs : List (Cell R.Denot) = slice_set t.parts.cells i d in
        let l = laid_same z.roots z.count t.parts sound.1 i d same in
        let n : In = record { parts = recelled z.roots z.count t.parts sound.1 i d t.parts.given; blank = t.blank; views = t.views; world = t.world } in
        let so : holds (state_of z n) = subst (λ (m : Mem R.Denot). holds record { memory = m; views = t.views; world = t.world }) (sym l.1) sound.0 in
        qed 𝓛 (‵ (cell_of i d) ∷ raw (all 𝓤 (Recells t i)) ∷ ‵ (Led t) ∷ []) ∵ move ! (1 ∷ []) $ use1 𝓛 (raw (Recells t i d)) (all_e 𝓤 (Recells t i) d) $
        move ! (1 ∷ 0 ∷ []) $ use2 𝓛 (‵ (Ws ws cs)) (apply∗ 𝓤 ⟦ cell_of i d ⟧ ⟦ Ws ws cs ⟧) $
        nothing ! $ fpack ! (holds (state_of z n) × AreLaid z.roots z.count n.parts) (λ _. ftrue) (so, l.0) $ move ! (1 ∷ 2 ∷ 0 ∷ []) $ fjoin3 ! $
        fpack ! In At_inside n $ done !

  -- the cell of a number
  pub opens : (X : Pr) (Z : Pr) (i : ℕ) → IsIts z i
      → ((t : In) (sound : Sound t) (c : Cell R.Denot) → cell_at t.parts.cells i ≡ c → ⟦ cell_of i c ⟧ ∗ all 𝓤 (Recells t i) ∗ ⟦ Led t ⟧ ∗ X ⊢ Z)
      → ⟦ I ⟧ ∗ X ⊢ Z
  opens X Z i lt then = qed 𝓛 (‵ I ∷ raw X ∷ []) ∵ fpick ! (λ t. fsplit3 ! $ move ! (2 ∷ []) $ fpick ! (λ sound. drop ! $ move ! (0 ∷ []) $
      -- [the memory; the views; X]
      let cs : List (Cell R.Denot) = t.parts.cells in let c : Cell R.Denot = cell_at cs i in
      use1 𝓛 (‵ (cell_of i c) ⊛ raw (all 𝓤 (Recells t i))) (Numbers.celled 𝓛 R p z lent had t.parts.words cs i c lt refl) $ split ! $
      by ! (then t sound c refl)))

  -- ---- A NUMBER IS CLAIMED: its sign is set, and who has set it has the number
  abbrev claimed : ℕ → ℕ → Fml
  claimed i n = claim_owns z.hands_name i n

  module _ (q : Share) (i e : ℕ) (lt : IsIts z i) (at : nth i * 40 + o + 32 ≡ e) where
    abbrev f : ℕ → ℕ
    f _ = 1

    abbrev Li : ℕ → Pr
    Li = Lies 𝓛 α q I b e f always (claimed i)

    abbrev Ag : ℕ → Pr
    Ag = Again 𝓛 α q I b e f always (claimed i)

    -- it was not free
    found : (t : In) (sound : Sound t) (c : Cell R.Denot) → cell_at t.parts.cells i ≡ c → sign_of c ≡ 1
        → ⟦ cell_of i c ⟧ ∗ all 𝓤 (Recells t i) ∗ ⟦ Led t ⟧ ∗ emp 𝓤 ⊢ upd 𝓤 (ex 𝓤 Li)
    found t sound c is sign = let Z : Pr = ⟦ I ⟧ ∗ emp 𝓤 in
        qed 𝓛 (‵ (cell_of i c) ∷ raw (all 𝓤 (Recells t i)) ∷ ‵ (Led t) ∷ ‵ ftrue ∷ []) ∵ suffices ! _ (upd_i 𝓤 (ex 𝓤 Li)) $ fsplit ! $
        rewrite ! 0 (λ (u : ℕ × ℕ). ‵ (word b u.0 u.1)) (λ j. (at j, sign j)) refl $ show ! Li 1 $ frame ! $
        each ! (λ (_ : Unit {0}). Ag 1) (λ _. assume ! (‵ (word b e 1)) $
        rewrite ! 0 (λ (u : ℕ × ℕ). ‵ (word b u.0 u.1)) (λ j. (sym at j, sym sign j)) refl $ fjoin ! $
        -- [the cell; the others; the views; nothing]
        suffices ! _ (upd_i 𝓤 Z) $ use3 𝓛 (‵ I) (recell t sound i c (sym (ap block_in is))) $ done !)

    grants : (t : In) (sound : Sound t) (c : Cell R.Denot) → cell_at t.parts.cells i ≡ c
        → ⟦ cell_of i c ⟧ ∗ all 𝓤 (Recells t i) ∗ ⟦ Led t ⟧ ∗ emp 𝓤 ⊢ upd 𝓤 (ex 𝓤 Li)
    grants t sound Claimed is = found t sound Claimed is refl
    grants t sound (Out s) is = found t sound (Out s) is refl
    grants t sound (Has x ws) is = found t sound (Has x ws) is refl
    grants t sound (Held ρ s x ws) is = found t sound (Held ρ s x ws) is refl
    grants t sound Free is = let Z : Pr = ⟦ I ⟧ ∗ ⟦ hands three_quarters i resting ⟧ in
        qed 𝓛 (‵ (cell_of i Free) ∷ raw (all 𝓤 (Recells t i)) ∷ ‵ (Led t) ∷ ‵ ftrue ∷ []) ∵ suffices ! _ (upd_i 𝓤 (ex 𝓤 Li)) $ fsplit ! $
        rewrite ! 0 (λ (k : ℕ). ‵ (word b k 0)) at refl $ show ! Li 0 $ frame ! $
        each ! (λ (_ : Unit {0}). Ag 0) (λ _. assume ! (‵ (word b e 1)) $
        rewrite ! 0 (λ (k : ℕ). ‵ (word b k 1)) (sym at) refl $ move ! (1 ∷ []) $ fsplit ! $
        -- [the hand; the contents; the sign; the others; the views; nothing]
        use1 𝓛 (‵ (hands quarter i resting) ⊛ ‵ (hands three_quarters i resting)) (Ledgers.cuts 𝓛 hand_coded z.hands_name i resting) $ split ! $
        move ! (0 ∷ 2 ∷ []) $ fjoin ! $ move ! (2 ∷ 0 ∷ []) $ fjoin ! $
        -- [the cell; three quarters; the others; the views; nothing]
        suffices ! _ (upd_i 𝓤 Z) $ move ! (0 ∷ 2 ∷ 3 ∷ []) $
        use3 𝓛 (‵ I) (recell t sound i Claimed (sym (ap block_in is))) $ keep ! (0 ∷ 1 ∷ []) $ done !)

    pub claims : ⟦ Inv ⟧ ∗ (A.lft α q ∗ emp 𝓤) ⊢ asks 𝓛 (block_ptr b e) f always (λ n. fsep (flft α q) (claim_owns z.hands_name i n))
    claims = Known.stepped 𝓛 R own cv holds p z q b e f (claimed i) (emp 𝓤) (opens (emp 𝓤) (upd 𝓤 (ex 𝓤 Li)) i lt grants)

  pub same_hand : (i : ℕ) (h w : Hand) → ⟦ hands quarter i w ⟧ ∗ ⟦ hands three_quarters i h ⟧
      ⊢ guard 𝓤 (w ≡ h) (⟦ hands quarter i w ⟧ ∗ ⟦ hands three_quarters i h ⟧)
  same_hand i h w = Ledgers.agree 𝓛 hand_coded z.hands_name i three_quarters w h

  pub turns_hand : (i : ℕ) (w h u : Hand) → ⟦ hands quarter i w ⟧ ∗ ⟦ hands three_quarters i h ⟧ ⊢ upd 𝓤 (⟦ hands quarter i u ⟧ ∗ ⟦ hands three_quarters i u ⟧)
  turns_hand i w h u = Ledgers.sets 𝓛 hand_coded z.hands_name i w h u

  pub busy_is_not : (e : Share) → busy e ≡ resting → ⊥
  busy_is_not e same = let q : 1 ≡ 0 = ap (λ (h : Hand). h.0) same in absurd (omega (arith, q))

  pub held_is_not : (ρ : ℕ) (e : Share) → held ρ e ≡ resting → ⊥
  held_is_not ρ e same = let q : suc (suc ρ) ≡ 0 = ap (λ (h : Hand). h.0) same in absurd (omega (arith, q))

  pub held_is_not_busy : (ρ : ℕ) (s e : Share) → held ρ s ≡ busy e → ⊥
  held_is_not_busy ρ s e same = let q : suc (suc ρ) ≡ 1 = ap (λ (h : Hand). h.0) same in absurd (omega (arith, q))

  -- the hand of a cell is not this one, or the cell has the whole of its own
  abbrev pub IsAnothers : Hand → Cell R.Denot → Type 0
  IsAnothers h Free = Unit {0}
  IsAnothers h Claimed = resting ≡ h → ⊥
  IsAnothers h (Out e) = busy e ≡ h → ⊥
  IsAnothers h (Has x ws) = Unit {0}
  IsAnothers h (Held ρ e x ws) = held ρ e ≡ h → ⊥

  -- a cell with this sign, this share of its hand, and what lies beside
  abbrev cell_with : ℕ → ℕ → Share → Hand → Fml → Fml
  cell_with i n q w K = fsep (word b (nth i * 40 + o + 32) n) (fsep (hands q i w) K)

  whole : (i n : ℕ) (w h : Hand) (K : Fml) (Z : Pr) → ⟦ cell_with i n full_share w K ⟧ ∗ ⟦ hands three_quarters i h ⟧ ⊢ Z
  whole i n w h K Z = qed 𝓛 (‵ (cell_with i n full_share w K) ∷ ‵ (hands three_quarters i h) ∷ []) ∵ fsplit ! $
      move ! (1 ∷ []) $ fsplit ! $ move ! (0 ∷ 3 ∷ []) $
      use2 𝓛 (given ⊥ (‵ (hands full_share i w) ⊛ ‵ (hands three_quarters i h))) (Ledgers.alone 𝓛 hand_coded z.hands_name i three_quarters w h) $
      learn ! (λ no. absurd no)

  strange : (i n : ℕ) (w h : Hand) (K : Fml) (Z : Pr) → (w ≡ h → ⊥) → ⟦ cell_with i n quarter w K ⟧ ∗ ⟦ hands three_quarters i h ⟧ ⊢ Z
  strange i n w h K Z ne = qed 𝓛 (‵ (cell_with i n quarter w K) ∷ ‵ (hands three_quarters i h) ∷ []) ∵ fsplit ! $
      move ! (1 ∷ []) $ fsplit ! $ move ! (0 ∷ 3 ∷ []) $
      use2 𝓛 (given (w ≡ h) (‵ (hands quarter i w) ⊛ ‵ (hands three_quarters i h))) (same_hand i h w) $ learn ! (λ same. absurd (ne same))

  -- who has a number finds no cell of another hand
  pub not_theirs : (i : ℕ) (h : Hand) (c : Cell R.Denot) (Z : Pr) → IsAnothers h c → ⟦ cell_of i c ⟧ ∗ ⟦ hands three_quarters i h ⟧ ⊢ Z
  not_theirs i h Free Z ne = whole i 0 resting h (contents i zeros None) Z
  not_theirs i h Claimed Z ne = strange i 1 resting h (contents i zeros None) Z ne
  not_theirs i h (Out e) Z ne = strange i 1 (busy e) h (flft α e) Z ne
  not_theirs i h (Has x ws) Z ne = whole i 1 resting h (offers i ws x) Z
  not_theirs i h (Held ρ e x ws) Z ne = strange i 1 (held ρ e) h (fsep (row b (nth i * 40 + o) ws) (fsep (flft α e) (had ρ i x))) Z ne

  pub none_of_theirs : (t : In) (i : ℕ) (h : Hand) (c : Cell R.Denot) (X Z : Pr) → IsAnothers h c
      → ⟦ cell_of i c ⟧ ∗ all 𝓤 (Recells t i) ∗ ⟦ Led t ⟧ ∗ ⟦ hands three_quarters i h ⟧ ∗ X ⊢ Z
  none_of_theirs t i h c X Z ne =
      qed 𝓛 (‵ (cell_of i c) ∷ raw (all 𝓤 (Recells t i)) ∷ ‵ (Led t) ∷ (‵ (hands three_quarters i h) ⊛ raw X) ∷ []) ∵ move ! (3 ∷ []) $ split ! $
      move ! (2 ∷ 0 ∷ []) $ use2 𝓛 (raw Z) (not_theirs i h c Z ne) $ keep ! (0 ∷ []) $ done !

  -- ---- ITS PLACE IS TAKEN OUT, for a share of the lifetime
  module _ (i : ℕ) (e : Share) (lt : IsIts z i) where
    abbrev Withdrawn : Pr
    Withdrawn = ⟦ I ⟧ ∗ (⟦ hands three_quarters i (busy e) ⟧ ∗ ⟦ contents i zeros None ⟧)

    abbrev Asking : Pr
    Asking = ⟦ hands three_quarters i resting ⟧ ∗ ⟦ flft α e ⟧

    takes_out : (t : In) (sound : Sound t) (c : Cell R.Denot) → cell_at t.parts.cells i ≡ c
        → ⟦ cell_of i c ⟧ ∗ all 𝓤 (Recells t i) ∗ ⟦ Led t ⟧ ∗ Asking ⊢ upd 𝓤 Withdrawn
    takes_out t sound Free is = none_of_theirs t i resting Free ⟦ flft α e ⟧ (upd 𝓤 Withdrawn) tt
    takes_out t sound (Has x ws) is = none_of_theirs t i resting (Has x ws) ⟦ flft α e ⟧ (upd 𝓤 Withdrawn) tt
    takes_out t sound (Out s) is = none_of_theirs t i resting (Out s) ⟦ flft α e ⟧ (upd 𝓤 Withdrawn) (busy_is_not s)
    takes_out t sound Claimed is =
        qed 𝓛 (‵ (cell_of i Claimed) ∷ raw (all 𝓤 (Recells t i)) ∷ ‵ (Led t) ∷ (‵ (hands three_quarters i resting) ⊛ ‵ (flft α e)) ∷ []) ∵ move ! (3 ∷ []) $
        split ! $ move ! (2 ∷ []) $ fsplit ! $ move ! (1 ∷ []) $ fsplit ! $ move ! (0 ∷ 3 ∷ []) $
        -- [the hand, by two; the contents; the sign; the share; the others; the views]
        use2 𝓛 (raw (upd 𝓤 (⟦ hands quarter i (busy e) ⟧ ∗ ⟦ hands three_quarters i (busy e) ⟧))) (turns_hand i resting resting (busy e)) $
        settle 𝓛 Withdrawn (‵ (hands quarter i (busy e)) ⊛ ‵ (hands three_quarters i (busy e))) $ split ! $ suffices ! _ (upd_i 𝓤 Withdrawn) $
        move ! (0 ∷ 4 ∷ []) $ fjoin ! $ move ! (3 ∷ 0 ∷ []) $ fjoin ! $
        -- [the cell; three quarters; the contents; the others; the views]
        move ! (0 ∷ 3 ∷ 4 ∷ []) $ use3 𝓛 (‵ I) (recell t sound i (Out e) (sym (ap block_in is))) $ done !
    takes_out t sound (Held ρ s x ws) is = none_of_theirs t i resting (Held ρ s x ws) ⟦ flft α e ⟧ (upd 𝓤 Withdrawn) (held_is_not ρ s)

    pub withdraws : ⟦ I ⟧ ∗ Asking ⊢ upd 𝓤 Withdrawn
    withdraws = opens Asking (upd 𝓤 Withdrawn) i lt takes_out

  -- ---- ITS NUMBER IS FREE AGAIN: the sign becomes 0, and the share comes back
  module _ (q : Share) (i : ℕ) (e : Share) (k : ℕ) (lt : IsIts z i) (at : nth i * 40 + o + 32 ≡ k) where
    abbrev g : ℕ → ℕ
    g _ = 0

    abbrev due : ℕ → Fml
    due _ = flft α e

    abbrev Lf : ℕ → Pr
    Lf = Lies 𝓛 α q I b k g always due

    abbrev Returning : Pr
    Returning = ⟦ hands three_quarters i (busy e) ⟧ ∗ ⟦ contents i zeros None ⟧

    returns : (t : In) (sound : Sound t) (c : Cell R.Denot) → cell_at t.parts.cells i ≡ c
        → ⟦ cell_of i c ⟧ ∗ all 𝓤 (Recells t i) ∗ ⟦ Led t ⟧ ∗ Returning ⊢ upd 𝓤 (ex 𝓤 Lf)
    returns t sound Free is = none_of_theirs t i (busy e) Free ⟦ contents i zeros None ⟧ (upd 𝓤 (ex 𝓤 Lf)) tt
    returns t sound (Has x ws) is = none_of_theirs t i (busy e) (Has x ws) ⟦ contents i zeros None ⟧ (upd 𝓤 (ex 𝓤 Lf)) tt
    returns t sound Claimed is = none_of_theirs t i (busy e) Claimed ⟦ contents i zeros None ⟧ (upd 𝓤 (ex 𝓤 Lf)) (λ same. busy_is_not e (sym same))
    returns t sound (Out s) is = let Z : Pr = ⟦ I ⟧ ∗ ⟦ flft α e ⟧ in
        qed 𝓛 (‵ (cell_of i (Out s)) ∷ raw (all 𝓤 (Recells t i)) ∷ ‵ (Led t) ∷ (‵ (hands three_quarters i (busy e)) ⊛ ‵ (contents i zeros None)) ∷ []) ∵
        suffices ! _ (upd_i 𝓤 (ex 𝓤 Lf)) $ fsplit ! $ rewrite ! 0 (λ (n : ℕ). ‵ (word b n 1)) at refl $ show ! Lf 1 $ frame ! $
        each ! (λ (_ : Unit {0}). Again 𝓛 α q I b k g always due 1) (λ _. assume ! (‵ (word b k 0)) $
        rewrite ! 0 (λ (n : ℕ). ‵ (word b n 0)) (sym at) refl $ move ! (1 ∷ []) $ fsplit ! $ move ! (5 ∷ []) $ split ! $ move ! (2 ∷ 0 ∷ []) $
        -- [the hand, by two; the contents; the share; the sign; the others; the views]
        use2 𝓛 (given (busy s ≡ busy e) (‵ (hands quarter i (busy s)) ⊛ ‵ (hands three_quarters i (busy e)))) (same_hand i (busy e) (busy s)) $
        learn ! (λ same. split ! $
        use2 𝓛 (raw (upd 𝓤 (⟦ hands quarter i resting ⟧ ∗ ⟦ hands three_quarters i resting ⟧))) (turns_hand i (busy s) (busy e) resting) $
        settle 𝓛 Z (‵ (hands quarter i resting) ⊛ ‵ (hands three_quarters i resting)) $ split ! $ suffices ! _ (upd_i 𝓤 Z) $
        use2 𝓛 (given (resting ≡ resting) (‵ (hands full_share i resting))) (Ledgers.glues 𝓛 hand_coded z.hands_name i resting resting) $ learn ! (λ _.
        -- [the hand; the contents; the share; the sign; the others; the views]
        fjoin ! $ move ! (2 ∷ 0 ∷ []) $ fjoin ! $ move ! (0 ∷ 2 ∷ 3 ∷ []) $
        use3 𝓛 (‵ I) (recell t sound i Free (sym (ap block_in is))) $
        move ! (1 ∷ []) $ rewrite ! 0 (λ (u : Share). ‵ (flft α u)) (ap (λ (h : Hand). h.1) same) refl $ move ! (1 ∷ 0 ∷ []) $ done !)))
    returns t sound (Held ρ s x ws) is = none_of_theirs t i (busy e) (Held ρ s x ws) ⟦ contents i zeros None ⟧ (upd 𝓤 (ex 𝓤 Lf)) (held_is_not_busy ρ s e)

    pub frees : ⟦ Inv ⟧ ∗ (A.lft α q ∗ Returning) ⊢ asks 𝓛 (block_ptr b k) g always (λ n. fsep (flft α q) (due n))
    frees = Known.stepped 𝓛 R own cv holds p z q b k g due Returning (opens Returning (upd 𝓤 (ex 𝓤 Lf)) i lt returns)

  abbrev back : (id : ℕ) (v : V) (t : In) (s : Parts R.Denot) (so : V → Type 0) → StaysSo cv.away v so → AreLaid z.roots z.count s → slice_get t.views id ≡ Some v
      → Goes holds keeps (state_of z t) (memory_of z.roots s) id so → ⟦ Ws s.words s.cells ⟧ ∗ ⟦ Led t ⟧ ∗ ⟦ seat id v ⟧ ⊢ upd 𝓤 (⟦ I ⟧ ∗ ⟦ gone_on id so ⟧)
  back = Moves.back 𝓛 R own cv holds keeps p z

  abbrev Stands : ℕ → V → In → Type 0
  Stands = Moves.Stands 𝓛 R own cv holds keeps p z

  -- the cell of a number, as a seat sees it
  pub opens_seated : (id : ℕ) (v : V) (X Z : Pr)
      → ((t : In) (g : Stands id v t) → ⟦ Ws t.parts.words t.parts.cells ⟧ ∗ ⟦ Led t ⟧ ∗ ⟦ seat id v ⟧ ∗ X ⊢ Z) → ⟦ I ⟧ ∗ (⟦ seat id v ⟧ ∗ X) ⊢ Z
  opens_seated id v X Z then = qed 𝓛 (‵ I ∷ (‵ (seat id v) ⊛ raw X) ∷ []) ∵ move ! (1 ∷ []) $ split ! $ move ! (2 ∷ 0 ∷ []) $
      use2 𝓛 (Moves.opening 𝓛 R own cv holds keeps p z id v) (Moves.opened 𝓛 R own cv holds keeps p z id v) $ pick ! (λ t. learn ! (λ g. split3 ! $ by ! (then t g)))

  -- ---- A BLOCK IS MADE of a value in its place
  module _ (id : ℕ) (v : V) (i : ℕ) (e : Share) (x : R.Denot) (words : ℕ) (so : Op.Out R.Denot → V
      → Type 0) (stays : StayAllSo cv.away v so) (lt : IsIts z i) (small : i + 1 < 2 ^ 53) (law : Allows holds keeps id v (Make x words) so) where
    abbrev pub body : Body R.Denot
    body = (x, replicate words 0)

    abbrev d : Cell R.Denot
    d = Has body zeros

    abbrev Published : Pr
    Published = ⟦ I ⟧ ∗ (⟦ gone_on id (so (Made (Ok (i + 1)))) ⟧ ∗ ⟦ flft α e ⟧)

    abbrev Ready : Pr
    Ready = ⟦ hands three_quarters i (busy e) ⟧ ∗ ⟦ offers i zeros body ⟧

    made : (t : In) (g : Stands id v t) → i < length t.parts.cells → block_in (cell_at t.parts.cells i) ≡ None
        → (n : ℕ) × AreLaid z.roots z.count (recelled z.roots z.count t.parts g.1 i d n)
        × Goes holds keeps (state_of z t) (memory_of z.roots (recelled z.roots z.count t.parts g.1 i d n)) id (so (Made (Ok (i + 1))))
    made t g has none = let laid = g.1 in let cs : List (Cell R.Denot) = t.parts.cells in let same : i + 1 - 1 ≡ i = omega arith in
        let m = blocks_made t.parts.given (i + 1) cs (fresh x words) d refl laid.within (omega arith) (omega (arith, has)) laid.rest in
        let mo : Mem R.Denot = memory_of z.roots t.parts in
        let free : IsFreeNumber mo (i + 1) =
        (block_is z.roots z.count t.parts laid (i + 1) (omega arith) ∙ ap (λ (k : ℕ). block_in (cell_at cs k)) same ∙ none, omega arith) in
        let is : memory_of z.roots (recelled z.roots z.count t.parts laid i d m.0) ≡ after mo (Make x words) (Made (Ok (i + 1))) =
        ap (λ (l : List (Option (Block R.Denot))). record mo { blocks = l }) (ap (λ (k : ℕ). blocks_in m.0 (slice_set cs k d)) (sym same) ∙ m.4) in (
          m.0,
          laid_with z.roots z.count t.parts laid i d m.0 m.1 m.3 (inr (let h = m.2 in omega (arith, h))) (λ y q.
              let same : fresh x words ≡ y = cc q in sym (ap (λ (l : Block R.Denot). length l.entry) same)),
          (law (state_of z t) g.0 g.2).1 (Made (Ok (i + 1))) (memory_of z.roots (recelled z.roots z.count t.parts laid i d m.0)) ((free, small), is),
        )

    another : (t : In) (c : Cell R.Denot) → IsAnothers (busy e) c
        → ⟦ cell_of i c ⟧ ∗ all 𝓤 (Recells t i) ∗ ⟦ Led t ⟧ ∗ ⟦ seat id v ⟧ ∗ Ready ⊢ upd 𝓤 Published
    another t c ne = let Z : Pr = upd 𝓤 Published in
        qed 𝓛 (‵ (cell_of i c) ∷ raw (all 𝓤 (Recells t i)) ∷ ‵ (Led t) ∷ ‵ (seat id v) ∷ (‵ (hands three_quarters i (busy e)) ⊛ ‵ (offers i zeros body)) ∷ []) ∵
        move ! (4 ∷ []) $ split ! $ move ! (2 ∷ 0 ∷ []) $ use2 𝓛 (raw Z) (not_theirs i (busy e) c Z ne) $ keep ! (0 ∷ []) $ done !

    puts : (t : In) (g : Stands id v t) (c : Cell R.Denot) → i < length t.parts.cells → cell_at t.parts.cells i ≡ c
        → ⟦ cell_of i c ⟧ ∗ all 𝓤 (Recells t i) ∗ ⟦ Led t ⟧ ∗ ⟦ seat id v ⟧ ∗ Ready ⊢ upd 𝓤 Published
    puts t g Free in_it is = another t Free tt
    puts t g (Has y ws) in_it is = another t (Has y ws) tt
    puts t g Claimed in_it is = another t Claimed (λ same. busy_is_not e (sym same))
    puts t g (Out s) in_it is = let r = made t g in_it (ap block_in is) in let cs : List (Cell R.Denot) = slice_set t.parts.cells i d in let ws : List ℕ = t.parts.words in
        qed 𝓛 (‵ (cell_of i (Out s)) ∷ raw (all 𝓤 (Recells t i)) ∷ ‵ (Led t) ∷ ‵ (seat id v) ∷
        (‵ (hands three_quarters i (busy e)) ⊛ ‵ (offers i zeros body)) ∷ []) ∵
        move ! (4 ∷ []) $ split ! $ move ! (2 ∷ []) $ fsplit ! $ move ! (1 ∷ []) $ fsplit ! $ move ! (0 ∷ 3 ∷ []) $
        -- [the hand, by two; the share; the sign; the contents; the others; the views; the seat]
        use2 𝓛 (given (busy s ≡ busy e) (‵ (hands quarter i (busy s)) ⊛ ‵ (hands three_quarters i (busy e)))) (same_hand i (busy e) (busy s)) $
        learn ! (λ same. split ! $
        use2 𝓛 (raw (upd 𝓤 (⟦ hands quarter i resting ⟧ ∗ ⟦ hands three_quarters i resting ⟧))) (turns_hand i (busy s) (busy e) resting) $
        settle 𝓛 Published (‵ (hands quarter i resting) ⊛ ‵ (hands three_quarters i resting)) $ split ! $
        use2 𝓛 (given (resting ≡ resting) (‵ (hands full_share i resting))) (Ledgers.glues 𝓛 hand_coded z.hands_name i resting resting) $ learn ! (λ _.
        -- [the hand; the share; the sign; the contents; the others; the views; the seat]
        move ! (0 ∷ 3 ∷ []) $ fjoin ! $ move ! (2 ∷ 0 ∷ []) $ fjoin ! $
        -- [the cell; the share; the others; the views; the seat]
        move ! (2 ∷ []) $ use1 𝓛 (raw (Recells t i d)) (all_e 𝓤 (Recells t i) d) $ move ! (1 ∷ 0 ∷ []) $
        use2 𝓛 (‵ (Ws ws cs)) (apply∗ 𝓤 ⟦ cell_of i d ⟧ ⟦ Ws ws cs ⟧) $ move ! (0 ∷ 2 ∷ 3 ∷ []) $
        use3 𝓛 (raw (upd 𝓤 (⟦ I ⟧ ∗ ⟦ gone_on id (so (Made (Ok (i + 1)))) ⟧)))
        (back id v t (recelled z.roots z.count t.parts g.1 i d r.0) (so (Made (Ok (i + 1)))) (stays (Made (Ok (i + 1)))) r.1 g.2 r.2) $
        settle 𝓛 Published (‵ I ⊛ ‵ (gone_on id (so (Made (Ok (i + 1)))))) $ split ! $ suffices ! _ (upd_i 𝓤 Published) $
        move ! (2 ∷ []) $ rewrite ! 0 (λ (u : Share). ‵ (flft α u)) (ap (λ (h : Hand). h.1) same) refl $ move ! (1 ∷ 2 ∷ 0 ∷ []) $ done !))
    puts t g (Held ρ s x' ws) in_it is = another t (Held ρ s x' ws) (held_is_not_busy ρ s e)

    pub publishes : ⟦ I ⟧ ∗ (⟦ seat id v ⟧ ∗ Ready) ⊢ upd 𝓤 Published
    publishes = opens_seated id v Ready (upd 𝓤 Published) (λ t g. let cs : List (Cell R.Denot) = t.parts.cells in let c : Cell R.Denot = cell_at cs i in
        qed 𝓛 (‵ (Ws t.parts.words cs) ∷ ‵ (Led t) ∷ ‵ (seat id v) ∷ raw Ready ∷ []) ∵
        use1 𝓛 (given (i < length cs) (‵ (Ws t.parts.words cs))) (Numbers.there 𝓛 R p z lent had t.parts.words cs i lt) $ learn ! (λ in_it.
        use1 𝓛 (‵ (cell_of i c) ⊛ raw (all 𝓤 (Recells t i))) (Numbers.celled 𝓛 R p z lent had t.parts.words cs i c lt refl) $ split ! $
        by ! (puts t g c in_it refl)))

  -- a block that has a value is there
  abbrev pub HasBlock : ℕ → In → Type 0
  HasBlock n t = (x : Body R.Denot) × (ws : List ℕ) × (cell_at t.parts.cells (n - 1) ≡ Has x ws) × (0 < n)

  -- or a call has its value in its hand
  abbrev pub HeldBlock : ℕ → In → Type 0
  HeldBlock n t = (ρ : ℕ) × (s : Share) × (x : Body R.Denot) × (ws : List ℕ) × (cell_at t.parts.cells (n - 1) ≡ Held ρ s x ws) × (0 < n)

  pub has_block : (n : ℕ) (t : In) → AreLaid z.roots z.count t.parts → IsSome (value_at (memory_of z.roots t.parts) n) → HasBlock n t ⊎ HeldBlock n t
  has_block n t laid can = let low = numbered n can in
      by low (cell_at t.parts.cells (n - 1)) refl (subst IsSome (ap value_in (block_is z.roots z.count t.parts laid n low)) can)
    where
      numbered : (k : ℕ) → IsSome (value_at (memory_of z.roots t.parts) k) → 0 < k
      numbered zero some = absurd (cc some)
      numbered (suc k) some = omega arith

      by : 0 < n → (c : Cell R.Denot) → cell_at t.parts.cells (n - 1) ≡ c → IsSome (value_in (block_in c)) → HasBlock n t ⊎ HeldBlock n t
      by low Free is some = absurd (cc some)
      by low Claimed is some = absurd (cc some)
      by low (Out s) is some = absurd (cc some)
      by low (Has x ws) is some = inl (x, ws, is, low)
      by low (Held ρ s x ws) is some = inr (ρ, s, x, ws, is, low)

  -- if there is such a number, it is one of the strip
  abbrev pub Mine : ℕ → Type 0
  Mine n = 0 < n → n ≤ z.count → IsIts z (n - 1)

  pub is_mine : (n : ℕ) (t : In) (c : Cell R.Denot) → Mine n → AreLaid z.roots z.count t.parts → cell_at t.parts.cells (n - 1) ≡ c → (c ≡ Free → ⊥) → 0 < n
      → IsIts z (n - 1)
  is_mine n t c mine laid is ne low = let lt = cell_beyond t.parts.cells (n - 1) c is ne in let few = laid.counted in mine low (omega (arith, lt, few, low))

  -- that is of no block which the views of other seats show
  pub held_away : (n : ℕ) (t : In) → Mine n → Sound t → HeldBlock n t → (j : ℕ) (v : V) (k : ℕ) (u : V) (y : Witness V) (S : Fml)
      → Hands.Shows 𝓛 R own cv holds p z j v k u y S → Hands.Crowds 𝓛 R own cv holds p z j v k u y S → (Z : Pr) → VisibleByWitness holds j v k u y n
      → ⟦ Ws t.parts.words t.parts.cells ⟧ ∗ ⟦ Led t ⟧ ∗ ⟦ S ⟧ ⊢ Z
  held_away n t mine sound h j v k u y S shows crowds Z shown =
      let i : ℕ = n - 1 in let ρ : ℕ = h.0 in let x : Body R.Denot = h.2 in let ws : List ℕ = h.3 in let c : Cell R.Denot = Held ρ h.1 x ws in let low = h.5 in
      let cs : List (Cell R.Denot) = t.parts.cells in let of = is_mine n t c mine sound.1 h.4 (λ e. absurd (cc e)) low in
      let one : n ≡ suc i = omega (arith, low) in let here : VisibleByWitness holds j v k u y (suc i) = subst (λ (m : ℕ). VisibleByWitness holds j v k u y m) one shown in
      qed 𝓛 (‵ (Ws t.parts.words cs) ∷ ‵ (Led t) ∷ ‵ S ∷ []) ∵
      use1 𝓛 (‵ (cell_of i c) ⊛ raw (all 𝓤 (Recells t i))) (Numbers.celled 𝓛 R p z lent had t.parts.words cs i c of h.4) $ split ! $
      fsplit ! $ move ! (1 ∷ []) $ fsplit3 ! $ move ! (2 ∷ []) $ fsplit ! $
      -- [the share; who has it; the hand; the entry; the sign; the others; the views; the seats']
      keep ! (6 ∷ 1 ∷ 7 ∷ []) $ by ! (Hands.excludes 𝓛 R own cv holds p z j v k u y S shows crowds t sound i ρ x Z here)

  -- ---- A BLOCK IS TAKEN AWAY, and its place is taken out for a share of the lifetime
  module _ (id : ℕ) (v : V) (n : ℕ) (e : Share) (so : Op.Out R.Denot → V → Type 0) (stays : StayAllSo cv.away v so) (law : Allows holds keeps id v (Take n) so) (mine : Mine n) where
    abbrev pub Taking : Body R.Denot × List ℕ → Fml
    Taking u =
        fsep (fact ((0 < n) × IsIts z (n - 1) × (length u.1 ≡ 4)))
        (fsep (gone_on id (so (Taken u.0.0))) (fsep (hands three_quarters (n - 1) (busy e)) (offers (n - 1) u.1 u.0)))

    abbrev TakenOut : Pr
    TakenOut = ⟦ I ⟧ ∗ ⟦ fex (Body R.Denot × List ℕ) Taking ⟧

    -- the block is there
    abbrev There : In → Type 0
    There = HasBlock n

    abbrev left : (t : In) (g : Stands id v t) → Parts R.Denot
    left t g = recelled z.roots z.count t.parts g.1 (n - 1) (Out e) t.parts.given

    taken : (t : In) (g : Stands id v t) (th : There t) → AreLaid z.roots z.count (left t g)
        × Goes holds keeps (state_of z t) (memory_of z.roots (left t g)) id (so (Taken th.0.0))
    taken t g th = let mo : Mem R.Denot = memory_of z.roots t.parts in
        let has : value_at mo n ≡ Some th.0.0 = ap value_in (block_is z.roots z.count t.parts g.1 n th.3 ∙ ap block_in th.2) in (
          laid_with z.roots z.count t.parts g.1 (n - 1) (Out e) t.parts.given (omega arith) g.1.within (inl refl) (λ x q. absurd (cc q)),
          (law (state_of z t) g.0 g.2).1 (Taken th.0.0) (memory_of z.roots (left t g))
              (has, ap (λ (l : List (Option (Block R.Denot))). record mo { blocks = l }) (blocks_set t.parts.given t.parts.cells (n - 1) (Out e))),
        )

    goes : (t : In) (g : Stands id v t) → There t → ⟦ Ws t.parts.words t.parts.cells ⟧ ∗ ⟦ Led t ⟧ ∗ ⟦ seat id v ⟧ ∗ ⟦ flft α e ⟧ ⊢ upd 𝓤 TakenOut
    goes t g th = let cs : List (Cell R.Denot) = t.parts.cells in let i : ℕ = n - 1 in
        let d : Cell R.Denot = Out e in let ds : List (Cell R.Denot) = slice_set cs i d in let ws : List ℕ = t.parts.words in
        let r = taken t g th in
        let told : V → Type 0 = so (Taken th.0.0) in
        let of = is_mine n t (Has th.0 th.1) mine g.1 th.2 (λ q. absurd (cc q)) th.3 in
        let facts : (0 < n) × IsIts z i × (length th.1 ≡ 4) = (th.3, of, g.1.fours i _ (ap block_in th.2)) in
        qed 𝓛 (‵ (Ws ws cs) ∷ ‵ (Led t) ∷ ‵ (seat id v) ∷ ‵ (flft α e) ∷ []) ∵
        use1 𝓛 (‵ (cell_of i (Has th.0 th.1)) ⊛ raw (all 𝓤 (Recells t i))) (Numbers.celled 𝓛 R p z lent had ws cs i (Has th.0 th.1) of th.2) $ split ! $
        fsplit ! $ move ! (1 ∷ []) $ fsplit ! $
        -- [the hand; the contents; the sign; the others; the views; the seat; the share]
        use1 𝓛 (‵ (hands quarter i resting) ⊛ ‵ (hands three_quarters i resting)) (Ledgers.cuts 𝓛 hand_coded z.hands_name i resting) $ split ! $
        use2 𝓛 (raw (upd 𝓤 (⟦ hands quarter i (busy e) ⟧ ∗ ⟦ hands three_quarters i (busy e) ⟧))) (turns_hand i resting resting (busy e)) $
        settle 𝓛 TakenOut (‵ (hands quarter i (busy e)) ⊛ ‵ (hands three_quarters i (busy e))) $ split ! $
        move ! (0 ∷ 7 ∷ []) $ fjoin ! $ move ! (3 ∷ 0 ∷ []) $ fjoin ! $
        -- [the cell; three quarters; the contents; the others; the views; the seat]
        move ! (3 ∷ []) $ use1 𝓛 (raw (Recells t i d)) (all_e 𝓤 (Recells t i) d) $ move ! (1 ∷ 0 ∷ []) $
        use2 𝓛 (‵ (Ws ws ds)) (apply∗ 𝓤 ⟦ cell_of i d ⟧ ⟦ Ws ws ds ⟧) $ move ! (0 ∷ 3 ∷ 4 ∷ []) $
        use3 𝓛 (raw (upd 𝓤 (⟦ I ⟧ ∗ ⟦ gone_on id told ⟧))) (back id v t (left t g) told (stays (Taken th.0.0)) r.0 g.2 r.1) $
        settle 𝓛 TakenOut (‵ I ⊛ ‵ (gone_on id told)) $ split ! $ suffices ! _ (upd_i 𝓤 TakenOut) $ frame ! $
        -- [the seat; three quarters; the contents]
        move ! (1 ∷ 2 ∷ []) $ fjoin ! $ move ! (1 ∷ 0 ∷ []) $ fjoin ! $
        nothing ! $ fpack ! ((0 < n) × IsIts z i × (length th.1 ≡ 4)) (λ _. ftrue) facts $ fjoin ! $ fpack ! (Body R.Denot × List ℕ) Taking (th.0, th.1) $
        done !

    -- The block is there, or somebody has its value in the hand: then no other seat's view shows it.
    pub leaves : ⟦ I ⟧ ∗ (⟦ seat id v ⟧ ∗ ⟦ flft α e ⟧) ⊢ upd 𝓤 TakenOut
    leaves = opens_seated id v ⟦ flft α e ⟧ (upd 𝓤 TakenOut) (λ t g. by t g (has_block n t g.1 (law (state_of z t) g.0 g.2).0))
      where
        by : (t : In) (g : Stands id v t) → HasBlock n t ⊎ HeldBlock n t
            → ⟦ Ws t.parts.words t.parts.cells ⟧ ∗ ⟦ Led t ⟧ ∗ ⟦ seat id v ⟧ ∗ ⟦ flft α e ⟧ ⊢ upd 𝓤 TakenOut
        by t g (inl th) = goes t g th
        by t g (inr h) = let Z : Pr = upd 𝓤 TakenOut in
            qed 𝓛 (‵ (Ws t.parts.words t.parts.cells) ∷ ‵ (Led t) ∷ ‵ (seat id v) ∷ ‵ (flft α e) ∷ []) ∵ keep ! (0 ∷ 1 ∷ 2 ∷ []) $
            types.Kit.by ! (held_away n t mine (g.0, g.1) h id v id v None (seat id v) (Hands.one_shows 𝓛 R own cv holds p z id v id v three_quarters refl refl)
            (Hands.one_crowds 𝓛 R own cv holds p z id v id v three_quarters refl) Z (λ s so at _ _. (law s so at).0))
