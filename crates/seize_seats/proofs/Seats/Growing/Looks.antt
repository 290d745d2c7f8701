-- Whoever looks at a door finds null, or the words of a further strip, and can tell from then on that it is one of the list. Assumes `Logic`.
use Rattle.std.specs.Prelude.{slice_get}
use Rattle.std.proofs.Common.{◌≡◌, ◌⊎◌, inl, inr, ℕ, zero, suc, ◌+◌, ◌*◌, ◌^◌, ◌<◌, ◌≤◌, List, [], ◌∷◌, length, sym, refl, ap, ◌∙◌, subst, arith, lit<, Some}
use seplogic.Ra.Ura.{Ura}
use base.Logic.{SProp, ent, sep, wand, ex, guard, emp, apply∗, upd_i}
use base.Fml.{Lft, Share, Fml, ftrue, fsep, fex, flft, fbor, finv}
use types.Logic.{Logic, sem}
use types.Kit.{‵, raw, ◌⊛◌, some as items, given, check, learn, ◌$◌, ◌∵◌, !, qed, by, move, drop, split, fsplit, fsplit3, fjoin, fjoin3, fpick, fpack, pick, show, frame, assume, suffices, use1, use2, rewrite, done}
use denote.RattleType.{RattleType}
use denote.RawPtr.{Ptr, InBlock, Testable, block_ptr, null_ptr, block_of, count_of, at_block}
use denote.Steps.{nothing}
use Rattle.core.specs.Sync.RawAtomic.Pointer.{cell, asks_ptr}
use Rattle.core.proofs.raw_atomic.Asked.{borrowed_ptr, PtrLies}
use Rattle.seize_seats.specs.Seats.Errands.{ViewCode}
use Rattle.seize_seats.specs.Seats.State.{State}
use Rattle.seize_seats.specs.Seats.Seen.{fact, seen}
use Rattle.seize_seats.specs.Seats.Cells.{Cell}
use Rattle.seize_seats.specs.Seats.Strips.{Strip, strip_coded, no_strip, further}
use Rattle.seize_seats.specs.Seats.Doors.{before, block_bytes, IsFurther, right_to, stays, behind, door}
use Rattle.seize_seats.specs.Seats.Stretches.{IsEven}
use Rattle.seize_seats.specs.Seats.Owned.{Pieces, doors_of, listed, BaseId, Inside, age, core_of, book_of, strip_of, strip_known, IsPlaced, stride, lent_here, had_here, standing_in, everything, told}
use Rattle.seize_seats.proofs.Seats.Views.Stretches as Stretches
use Rattle.seize_seats.proofs.Seats.Growing.Doors as Doors
use Rattle.seize_seats.proofs.Seats.Places.Plots as Plots

-- there is such a one, or there are not so many
pub at_or_not : (ss : List Strip) (i : ℕ) → ((s : Strip) × (slice_get ss i ≡ Some s)) ⊎ (length ss ≤ i)
at_or_not [] i = inr (omega arith)
at_or_not (s ∷ ss) zero = inl (s, refl)
at_or_not (s ∷ ss) (suc i) = up (at_or_not ss i)
  where
    up : ((t : Strip) × (slice_get ss i ≡ Some t)) ⊎ (length ss ≤ i) → ((t : Strip) × (slice_get (s ∷ ss) (suc i) ≡ Some t)) ⊎ (suc (length ss) ≤ suc i)
    up (inl has) = inl has
    up (inr few) = inr (omega (arith, few))

module _ {M : Type 1} {𝓤 : Ura M} (𝓛 : Logic 𝓤) (R : RattleType) (own : Pieces R.Denot) {V W : Type 0} (cv : ViewCode V) (holds : State R.Denot V W → Type 0) (p : Ptr) (z : BaseId) where
  open 𝓛 use {H, A}

  abbrev Pr : Type 2
  Pr = SProp 𝓤

  abbrev ◌⊢◌ : Pr → Pr → Type 1
  P ⊢ Q = ent 𝓤 P Q

  abbrev ◌∗◌ : Pr → Pr → Pr
  P ∗ Q = sep 𝓤 P Q

  abbrev ⟦◌⟧ : Fml → Pr
  ⟦ P ⟧ = sem 𝓛 P

  infix 26 ◌⊢◌
  infixr 35 ◌∗◌
  abbrev α : Lft
  α = age z

  abbrev E : Fml
  E = everything R own cv holds (core_of z)

  abbrev Inv : Fml
  Inv = told R own cv holds p z

  abbrev b : ℕ
  b = block_of z.doors

  abbrev o : ℕ
  o = count_of z.doors

  abbrev Is : ℕ → Strip → Type 0
  Is = IsFurther R z.least

  abbrev Drs : List Strip → Fml
  Drs ss = doors_of R (book_of z) (further ss)

  abbrev Any : List Strip → Type 0
  Any ss = Unit {0}

  abbrev Listed : List (Cell R.Denot) → List Strip → Fml
  Listed = listed R α z.hands_name (lent_here R own cv holds p z) (had_here R own cv holds p z) (book_of z) Any

  -- all but the doors
  abbrev Rest : List Strip → Pr
  Rest ss = wand 𝓤 ⟦ Drs ss ⟧ ⟦ E ⟧

  abbrev Apart : List Strip → Pr
  Apart ss = ⟦ Drs ss ⟧ ∗ Rest ss

  pub doors_apart : ⟦ E ⟧ ⊢ ex 𝓤 Apart
  doors_apart = qed 𝓛 (‵ E ∷ []) ∵ fpick ! (λ t. fsplit3 ! $ fsplit ! $ move ! (1 ∷ []) $ fpick ! (λ ss. fsplit ! $ fsplit ! $ move ! (1 ∷ []) $
      -- [the doors; the list and the hands; the strips; the words; the views; the facts]
      show ! Apart ss $ frame ! $ assume ! (‵ (Drs ss)) $ move ! (1 ∷ 0 ∷ []) $ fjoin ! $ fjoin ! $
      fpack ! (List Strip) (Listed t.parts.cells) ss $ move ! (1 ∷ 0 ∷ []) $ fjoin ! $ fjoin3 ! $
      fpack ! (Inside R.Denot V W) (standing_in R own cv holds (core_of z) Any) t $ done !))

  -- one door
  module _ (q : Share) (j e : ℕ) (few : j < 32) (at : e ≡ j * 8 + o) where
    abbrev pub Found : Ptr → Strip → Type 0
    Found r s = (s.words ≡ r) × Is j s

    abbrev pub shown : Ptr → Strip → Fml
    shown r s = fsep (fact (Found r s)) (stays z.strips_name (suc j) s)

    -- what is told
    abbrev pub glimpse : Ptr → Fml
    glimpse null_ptr = ftrue
    glimpse (block_ptr c u) = fex Strip (shown (block_ptr c u))

    -- how many numbers it has, and how many come before
    abbrev many : ℕ
    many = z.least * 2 ^ j

    -- which words they are that lie there
    abbrev pub at_door : Ptr → BaseId
    at_door w =
        record z { place = suc j; skip = before R many; values = w; first = many; size = many; bucket = 0; slots = no_strip }

    is_strip : (w : Ptr) (s : Strip) → Found w s → s ≡ strip_of w (at_door w)
    is_strip w s so = λ i. record {
      words = so.0 i;
      skip = (so.1.2 ∙ ap (before R) sized) i;
      values = (so.1.3 ∙ so.0) i;
      first = so.1.4 i;
      size = sized i;
    }
      where
        sized : s.size ≡ many
        sized = so.1.5 ∙ so.1.4

    -- and what is known of it, where there is an address
    abbrev pub Fits : Ptr → Type 0
    Fits w = Testable w × (InBlock w → ((before R many + many * 5) * 8 < 2 ^ 63) × (many * stride R < 2 ^ 63))

    pub tells_more : InBlock z.doors → (w : Ptr) → ⟦ glimpse w ⟧ ⊢ guard 𝓤 (Fits w) ⟦ strip_known R w (at_door w) ⟧
    tells_more door null_ptr = qed 𝓛 (‵ ftrue ∷ []) ∵ check ! (lit< tt, λ e. absurd e) $ done !
    tells_more door (block_ptr c u) = let w : Ptr = block_ptr c u in let y : BaseId = at_door w in let Sh : Strip → Share → Fml = λ s r. seen strip_coded.code z.strips_name r (suc j) s in
        qed 𝓛 (‵ (glimpse w) ∷ []) ∵ fpick ! (λ s. fsplit ! $ fpick ! (λ so. drop ! $ fpick ! (λ r.
        let same : s ≡ strip_of w y = is_strip w s so in
        let all : ((before R many + many * 5) * 8 < 2 ^ 63) × (many * stride R < 2 ^ 63) = Plots.fits R many (subst (λ (k : ℕ). block_bytes R k < 2 ^ 63) (so.1.5 ∙ so.1.4) so.1.6) in
        let placed : IsPlaced R w y = (tt, all.0, tt, all.1, door) in
        check ! (subst Testable so.0 so.1.1, λ _. all) $
        rewrite ! 0 (λ (s' : Strip). ‵ (Sh s' r)) same refl $ fpack ! Share (Sh (strip_of w y)) r $
        nothing ! $ move ! (1 ∷ 0 ∷ []) $ fjoin ! $ nothing ! $ fpack ! (IsPlaced R w y) (λ _. ftrue) placed $ fjoin ! $ done !)))

    pub tells_strip : InBlock z.doors → (w : Ptr) → ⟦ glimpse w ⟧ ⊢ ⟦ strip_known R w (at_door w) ⟧
    tells_strip door w = qed 𝓛 (‵ (glimpse w) ∷ []) ∵ use1 𝓛 (given (Fits w) (‵ (strip_known R w (at_door w)))) (tells_more door w) $ learn ! (λ _. done !)

    abbrev F : Ptr → Pr
    F = PtrLies 𝓛 α q E b e Ptr (λ r. r) (λ r. r) (λ _. ftrue) glimpse

    abbrev Beh : Strip → Fml
    Beh s = behind z.strips_name Is (right_to R) j s

    abbrev Dr : Strip → Fml
    Dr s = door z.strips_name Is (right_to R) b e j s

    there : (ss : List Strip) (s : Strip) → slice_get (further ss) j ≡ Some s → Apart ss ⊢ ex 𝓤 F
    there ss s has = let B : Pr = wand 𝓤 ⟦ Dr s ⟧ ⟦ Drs ss ⟧ in let St : Fml = stays z.strips_name (suc j) s in
        qed 𝓛 (‵ (Drs ss) ∷ raw (Rest ss) ∷ []) ∵
        use1 𝓛 (‵ (Dr s) ⊛ raw B) (Doors.door_at 𝓛 z.strips_name Is (right_to R) b (further ss) o 32 0 j e j s at (omega arith) few has) $ split ! $ fsplit ! $
        move ! (1 ∷ []) $ use1 𝓛 (‵ (Beh s) ⊛ ‵ St) (Doors.tells 𝓛 z.strips_name Is (right_to R) b j s) $ split ! $ fsplit ! $ fpick ! (λ is. drop ! $
        let c : ℕ = block_of s.words in let u : ℕ = count_of s.words in let w : Ptr = block_ptr c u in let here : s.words ≡ w = at_block s.words is.0 in
        let Z : Pr = ⟦ E ⟧ ∗ ⟦ glimpse w ⟧ in
        -- [it stays, and the right; it stays; the cell; the other doors; the rest]
        nothing ! $ fpack ! (Is j s) (λ _. ftrue) is $ move ! (0 ∷ 1 ∷ []) $ fjoin ! $ move ! (2 ∷ []) $
        -- [the cell; what is behind; it stays; the other doors; the rest]
        rewrite ! 0 (λ (r : Ptr). ‵ (cell b e r)) here refl $ show ! F w $ frame ! $ nothing ! $ frame ! $ assume ! (‵ (cell b e w)) $
        rewrite ! 0 (λ (r : Ptr). ‵ (cell b e r)) (sym here) refl $ fjoin ! $ move ! (0 ∷ 2 ∷ []) $ use2 𝓛 (‵ (Drs ss)) (apply∗ 𝓤 ⟦ Dr s ⟧ ⟦ Drs ss ⟧) $
        move ! (0 ∷ 2 ∷ []) $ use2 𝓛 (‵ E) (apply∗ 𝓤 ⟦ Drs ss ⟧ ⟦ E ⟧) $ suffices ! _ (upd_i 𝓤 Z) $ frame ! $
        nothing ! $ fpack ! (Found w s) (λ _. ftrue) (here, is) $ fjoin ! $ fpack ! Strip (shown w) s $ done !)

    none : (ss : List Strip) → length (further ss) ≤ j → Apart ss ⊢ ex 𝓤 F
    none ss past = let N : Fml = cell b e null_ptr in let B : Pr = wand 𝓤 ⟦ N ⟧ ⟦ Drs ss ⟧ in let Z : Pr = ⟦ E ⟧ ∗ ⟦ glimpse null_ptr ⟧ in
        qed 𝓛 (‵ (Drs ss) ∷ raw (Rest ss) ∷ []) ∵
        use1 𝓛 (‵ N ⊛ raw B) (Doors.door_null 𝓛 z.strips_name Is (right_to R) b (further ss) o 32 0 j e at few past) $ split ! $
        show ! F null_ptr $ frame ! $ nothing ! $ frame ! $ assume ! (‵ N) $ use2 𝓛 (‵ (Drs ss)) (apply∗ 𝓤 ⟦ N ⟧ ⟦ Drs ss ⟧) $
        use2 𝓛 (‵ E) (apply∗ 𝓤 ⟦ Drs ss ⟧ ⟦ E ⟧) $ suffices ! _ (upd_i 𝓤 Z) $ nothing ! $ move ! (1 ∷ 0 ∷ []) $ done !

    either : (ss : List Strip) → ((s : Strip) × (slice_get (further ss) j ≡ Some s)) ⊎ (length (further ss) ≤ j) → Apart ss ⊢ ex 𝓤 F
    either ss (inl has) = there ss has.0 has.1
    either ss (inr past) = none ss past

    -- A LOAD of the door
    pub looks : ⟦ Inv ⟧ ∗ (A.lft α q ∗ emp 𝓤) ⊢ asks_ptr 𝓛 (block_ptr b e) (λ r. r) (λ r. fsep (flft α q) (glimpse r))
    looks = qed 𝓛 (‵ Inv ∷ (‵ (flft α q) ⊛ raw (emp 𝓤)) ∷ []) ∵ fsplit ! $ drop ! $
        use1 𝓛 (‵ (finv (fbor α E))) (Stretches.plain 𝓛 IsEven (fbor α E)) $
        by ! (borrowed_ptr 𝓛 α q E b e Ptr (λ r. r) (λ r. r) (λ _. ftrue) glimpse (emp 𝓤)
        (qed 𝓛 (‵ E ∷ raw (emp 𝓤) ∷ []) ∵ suffices ! _ (upd_i 𝓤 (ex 𝓤 F)) $
        use1 𝓛 (items (λ (ss : List Strip). ‵ (Drs ss) ⊛ raw (Rest ss))) doors_apart $ pick ! (λ ss. split ! $ move ! (2 ∷ []) $ drop ! $
        by ! (either ss (at_or_not (further ss) j)))))
