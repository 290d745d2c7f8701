-- Whose view shows a block finds an address behind the door of its strip. Assumes `Logic`.
use Rattle.std.specs.Prelude.{slice_get}
use Rattle.std.proofs.Common.{◌≡◌, ◌⊎◌, inl, inr, ℕ, zero, suc, ◌+◌, ◌-◌, ◌*◌, ◌^◌, ◌<◌, ◌≤◌, List, [], ◌∷◌, length, sym, refl, ap, ◌∙◌, subst, arith, lit<, Some}
use native.Mathlib.Nat.{pow-suc, mul_assoc, mul-le-mul_left, pow-le-pow_right}
use seplogic.Ra.Ura.{Ura}
use base.Logic.{SProp, ent, sep, wand, ex, apply∗, upd_i}
use base.Fml.{Lft, Share, Fml, ftrue, fsep, flft, fbor, finv}
use types.Logic.{Logic, sem}
use types.Kit.{‵, raw, ◌⊛◌, given, ◌$◌, ◌∵◌, !, qed, by, move, drop, split, group, fsplit, fsplit3, fjoin, fpick, fpack, learn, show, frame, assume, suffices, use1, use2, rewrite, done}
use denote.RattleType.{RattleType}
use denote.RawPtr.{Ptr, block_ptr, block_of, count_of, at_block, InBlock}
use denote.Steps.{nothing}
use Rattle.core.specs.Sync.RawAtomic.Pointer.{cell, asks_ptr}
use Rattle.core.proofs.raw_atomic.Asked.{borrowed_ptr, PtrLies}
use Rattle.seize_seats.specs.Seats.Errands.{ViewCode}
use Rattle.seize_seats.specs.Seats.State.{State}
use Rattle.seize_seats.specs.Seats.Seen.{fact, seen}
use Rattle.seize_seats.specs.Seats.Cells.{Cell, Free, cell_at}
use Rattle.seize_seats.specs.Seats.Lines.{memory_of, AreLaid}
use Rattle.seize_seats.specs.Seats.Strips.{Strip, strip_coded, no_strip, further, AreStrips}
use Rattle.seize_seats.specs.Seats.Doors.{IsFurther, right_to, stays, behind, door}
use Rattle.seize_seats.specs.Seats.Stretches.{IsEven}
use Rattle.seize_seats.specs.Seats.Lendings.{VisibleToThree}
use Rattle.seize_seats.specs.Seats.Owned.{Pieces, ground, ledger, sitting, unborn, hand_coded, resting, strips, doors_of, BaseId, Inside, age, core_of, book_of, strip_of, is_listed, state_of, lent_here, had_here, everything, told}
use Rattle.seize_seats.proofs.Seats.Views.Stretches as Stretches
use Rattle.seize_seats.proofs.Seats.Views.Ledgers as Ledgers
use Rattle.seize_seats.proofs.Seats.Views.Hands as Hands
use Rattle.seize_seats.proofs.Seats.Blocks.Makings as Makings
use Rattle.seize_seats.proofs.Seats.Growing.Doors as Doors
use Rattle.seize_seats.proofs.Seats.Growing.Looks as Looks
use Rattle.seize_seats.proofs.Seats.Growing.Offers as Offers

-- how many numbers there are, where each further strip doubles them
grown : {M : Type 1} {𝓤 : Ura M} (𝓛 : Logic 𝓤) (R : RattleType) (σ b least : ℕ) (us : List Strip) (i n k : ℕ) → AreStrips i us n
    → Doors.AllAre 𝓛 σ (IsFurther R least) (right_to R) b k us → i ≡ least * 2 ^ k → n ≡ least * 2 ^ (length us + k)
grown 𝓛 R σ b least [] i n k are all at = let same : k ≡ zero + k = omega arith in are ∙ at ∙ ap (λ (x : ℕ). least * 2 ^ x) same
grown 𝓛 R σ b least (s ∷ us) i n k are all at =
    let first = all.0.4 in let size = all.0.5 in
    let twice : least * 2 ^ suc k ≡ least * 2 ^ k * 2 = ap (λ (x : ℕ). least * x) (pow-suc 2 k) ∙ sym (mul_assoc least (2 ^ k) 2) in
    let next : i + s.size ≡ least * 2 ^ suc k = omega (arith, twice, first, size, at) in
    let on : length us + suc k ≡ suc (length us) + k = omega arith in
    grown 𝓛 R σ b least us (i + s.size) n (suc k) are.1 all.1 next ∙ ap (λ (x : ℕ). least * 2 ^ x) on

-- a number whose cell is not free is there
is_there : {T : Type 0} (cs : List (Cell T)) (i : ℕ) → (cell_at cs i ≡ Free → ⊥) → i < length cs
is_there [] i some = absurd (some refl)
is_there (c ∷ cs) zero some = omega arith
is_there (c ∷ cs) (suc i) some = let r = is_there cs i some in omega (arith, r)

module _ {M : Type 1} {𝓤 : Ura M} (𝓛 : Logic 𝓤) (R : RattleType) (own : Pieces R.Denot) {V W : Type 0} (cv : ViewCode V) (holds : State R.Denot V W → Type 0) (keeps : V → V → W → ℕ
    → Type 0) (p : Ptr) (z : BaseId) where
  open 𝓛 use {H, A}

  abbrev Pr : Type 2
  Pr = SProp 𝓤

  abbrev ◌⊢◌ : Pr → Pr → Type 1
  P ⊢ Q = ent 𝓤 P Q

  abbrev ◌∗◌ : Pr → Pr → Pr
  P ∗ Q = sep 𝓤 P Q

  abbrev ⟦◌⟧ : Fml → Pr
  ⟦ P ⟧ = sem 𝓛 P

  infix 26 ◌⊢◌
  infixr 35 ◌∗◌
  abbrev α : Lft
  α = age z

  abbrev E : Fml
  E = everything R own cv holds (core_of z)

  abbrev Inv : Fml
  Inv = told R own cv holds p z

  abbrev b : ℕ
  b = block_of z.doors

  abbrev o : ℕ
  o = count_of z.doors

  abbrev σ : ℕ
  σ = z.strips_name

  abbrev Is : ℕ → Strip → Type 0
  Is = IsFurther R z.least

  abbrev In : Type 0
  In = Inside R.Denot V W

  abbrev Drs : List Strip → Fml
  Drs ss = doors_of R (book_of z) (further ss)

  abbrev LH : List Strip → ℕ → Fml
  LH ss n = fsep (ledger strip_coded.code σ no_strip ss) (unborn hand_coded.code z.hands_name n resting)

  abbrev All : List Strip → List (Cell R.Denot) → Fml
  All ss cs = strips R α z.hands_name (lent_here R own cv holds p z) (had_here R own cv holds p z) ss cs

  abbrev Fixed : List ℕ → Fml
  Fixed ws = ground (core_of z) ws

  abbrev Views : In → Fml
  Views t = sitting (age z) cv z.views_name t.blank t.views

  abbrev Sound : In → Type 0
  Sound t = holds record { memory = memory_of z.roots t.parts; views = t.views; world = t.world } × AreLaid z.roots z.count t.parts

  -- These are the words of the first strip. The views of three seats show the block, whose index is none of those that come before the strip of the j-th door.
  module _ (first : z.place ≡ 0) (whole : z.size ≡ z.least) (q : Share) (j e : ℕ) (few : j < 32) (at : e ≡ j * 8 + o) (h : ℕ) (d : V) (i : ℕ) (v : V) (k : ℕ) (u : V) (n : ℕ)
      (shown : VisibleToThree holds h d i v k u n) (low : 0 < n → z.least * 2 ^ j ≤ n - 1) (r f f' : Share) where
    abbrev pub Sn : Fml
    Sn = Hands.three 𝓛 R own cv holds p z i v k u h d r f f'

    abbrev glimpse : Ptr → Fml
    glimpse = Looks.glimpse 𝓛 R own cv holds p z q j e few at

    abbrev pub met : Ptr → Fml
    met r = fsep (fact (InBlock r)) (fsep (glimpse r) Sn)

    abbrev F : Ptr → Pr
    F = PtrLies 𝓛 α q E b e Ptr (λ r. r) (λ r. r) (λ _. ftrue) met

    abbrev Beh : Strip → Fml
    Beh s = behind σ Is (right_to R) j s

    abbrev Dr : Strip → Fml
    Dr s = door σ Is (right_to R) b e j s

    abbrev Has-cell : In → Type 0
    Has-cell t = (0 < n) × (cell_at t.parts.cells (n - 1) ≡ Free → ⊥)

    has_cell : (t : In) → Makings.HasBlock 𝓛 R own cv holds keeps p z n t ⊎ Makings.HeldBlock 𝓛 R own cv holds keeps p z n t → Has-cell t
    has_cell t (inl th) = (th.3, λ free. absurd (let c = th.2 in cc (c, free)))
    has_cell t (inr th) = (th.5, λ free. absurd (let c = th.4 in cc (c, free)))

    -- there are too few numbers, if its strip is not there
    lacks : (t : In) (ss : List Strip) → AreStrips 0 ss (length t.parts.cells) → slice_get ss 0 ≡ Some (strip_of p z) → length (further ss) ≤ j
        → Doors.AllAre 𝓛 σ Is (right_to R) b 0 (further ss) → Has-cell t → ⊥
    lacks t [] are has past all some = absurd (cc has)
    lacks t (s ∷ ss) are has past all some =
        let same : s ≡ strip_of p z = cc has in let size : s.size ≡ z.least = ap (λ (r : Strip). r.size) same ∙ whole in
        let start : 0 + s.size ≡ z.least * 2 ^ 0 = omega (arith, size) in
        let total = grown 𝓛 R σ b z.least ss (0 + s.size) (length t.parts.cells) 0 are.1 all start in
        let none : length ss + 0 ≤ j = omega (arith, past) in
        let most : z.least * 2 ^ (length ss + 0) ≤ z.least * 2 ^ j = mul-le-mul_left z.least (pow-le-pow_right (lit< tt) none) in
        let high = is_there t.parts.cells (n - 1) some.1 in let far = low some.0 in omega (arith, total, most, high, far)

    there : (ss : List Strip) (s : Strip) → slice_get (further ss) j ≡ Some s → ⟦ Drs ss ⟧ ∗ wand 𝓤 ⟦ Drs ss ⟧ ⟦ E ⟧ ∗ ⟦ Sn ⟧ ⊢ ex 𝓤 F
    there ss s has = let B : Pr = wand 𝓤 ⟦ Dr s ⟧ ⟦ Drs ss ⟧ in let St : Fml = stays σ (suc j) s in
        qed 𝓛 (‵ (Drs ss) ∷ raw (wand 𝓤 ⟦ Drs ss ⟧ ⟦ E ⟧) ∷ ‵ Sn ∷ []) ∵
        use1 𝓛 (‵ (Dr s) ⊛ raw B) (Doors.door_at 𝓛 σ Is (right_to R) b (further ss) o 32 0 j e j s at (omega arith) few has) $ split ! $ fsplit ! $
        move ! (1 ∷ []) $ use1 𝓛 (‵ (Beh s) ⊛ ‵ St) (Doors.tells 𝓛 σ Is (right_to R) b j s) $ split ! $ fsplit ! $ fpick ! (λ is. drop ! $
        let c : ℕ = block_of s.words in let u : ℕ = count_of s.words in let w : Ptr = block_ptr c u in let here : s.words ≡ w = at_block s.words is.0 in
        let Z : Pr = ⟦ E ⟧ ∗ ⟦ met w ⟧ in
        -- [it stays, and the right; it stays; the cell; the other doors; the rest; the views]
        nothing ! $ fpack ! (Is j s) (λ _. ftrue) is $ move ! (0 ∷ 1 ∷ []) $ fjoin ! $ move ! (2 ∷ []) $
        -- [the cell; what is behind; it stays; the other doors; the rest; the views]
        rewrite ! 0 (λ (r : Ptr). ‵ (cell b e r)) here refl $ show ! F w $ frame ! $ nothing ! $ frame ! $ assume ! (‵ (cell b e w)) $
        rewrite ! 0 (λ (r : Ptr). ‵ (cell b e r)) (sym here) refl $ fjoin ! $ move ! (0 ∷ 2 ∷ []) $ use2 𝓛 (‵ (Drs ss)) (apply∗ 𝓤 ⟦ Dr s ⟧ ⟦ Drs ss ⟧) $
        move ! (0 ∷ 2 ∷ []) $ use2 𝓛 (‵ E) (apply∗ 𝓤 ⟦ Drs ss ⟧ ⟦ E ⟧) $ suffices ! _ (upd_i 𝓤 Z) $ frame ! $
        nothing ! $ fpack ! (Looks.Found 𝓛 R own cv holds p z q j e few at w s) (λ _. ftrue) (here, is) $ fjoin ! $
        fpack ! Strip (Looks.shown 𝓛 R own cv holds p z q j e few at w) s $ fjoin ! $ nothing ! $ fpack ! (InBlock w) (λ _. ftrue) tt $ fjoin ! $ done !)

    -- the list shows the first strip
    abbrev Sh : Share → Fml
    Sh r = seen strip_coded.code σ r z.place (strip_of p z)

    found : ⟦ E ⟧ ∗ ⟦ is_listed p z ⟧ ∗ ⟦ Sn ⟧ ⊢ ex 𝓤 F
    found = qed 𝓛 (‵ E ∷ ‵ (is_listed p z) ∷ ‵ Sn ∷ []) ∵ fpick ! (λ t. fsplit3 ! $ move ! (2 ∷ []) $ fpick ! (λ sound. drop ! $
        -- [the memory; the views; it is listed; the seats' views]
        move ! (1 ∷ 3 ∷ []) $ use2 𝓛 (given (Hands.AreAll 𝓛 R own cv holds p z i v k u h d t) (‵ (Views t) ⊛ ‵ Sn)) (Hands.three_show 𝓛 R own cv holds p z i v k u h d r f f' t) $
        learn ! (λ sit. split ! $ move ! (2 ∷ []) $ fsplit ! $ move ! (1 ∷ []) $ fpick ! (λ ss. fsplit3 ! $ move ! (1 ∷ []) $ fpick ! (λ are. drop ! $ fsplit ! $ fsplit ! $
        -- [the list; the hands; the doors; the strips; the words; the views; the seats' views; it is listed]
        move ! (7 ∷ []) $ fsplit ! $ move ! (1 ∷ []) $ drop ! $ fpick ! (λ r. move ! (1 ∷ 0 ∷ []) $
        use2 𝓛 (given (slice_get ss z.place ≡ Some (strip_of p z)) (‵ (ledger strip_coded.code σ no_strip ss) ⊛ ‵ (Sh r)))
        (Ledgers.sits 𝓛 strip_coded σ no_strip ss z.place r (strip_of p z)) $ learn ! (λ has. split ! $ move ! (1 ∷ []) $ drop ! $ fjoin ! $
        let some : Has-cell t = has_cell t (Makings.has_block 𝓛 R own cv holds keeps p z n t sound.1 (shown (state_of z t) sound.0 sit.0 sit.1.0 sit.1.1)) in
        -- [the list and the hands; the doors; the strips; the words; the views; the seats' views]
        by ! (cases t ss sound are.0 (subst (λ (m : ℕ). slice_get ss m ≡ Some (strip_of p z)) first has) some (Looks.at_or_not (further ss) j)))))))))
      where
        cases : (t : In) (ss : List Strip) → Sound t → AreStrips 0 ss (length t.parts.cells) → slice_get ss 0 ≡ Some (strip_of p z) → Has-cell t
            → ((s : Strip) × (slice_get (further ss) j ≡ Some s)) ⊎ (length (further ss) ≤ j)
            → ⟦ LH ss (length t.parts.cells) ⟧ ∗ ⟦ Drs ss ⟧ ∗ ⟦ All ss t.parts.cells ⟧ ∗ ⟦ Fixed t.parts.words ⟧ ∗ ⟦ Views t ⟧ ∗ ⟦ Sn ⟧ ⊢ ex 𝓤 F
        cases t ss sound are has some (inl got) =
            qed 𝓛 (‵ (LH ss (length t.parts.cells)) ∷ ‵ (Drs ss) ∷ ‵ (All ss t.parts.cells) ∷ ‵ (Fixed t.parts.words) ∷ ‵ (Views t) ∷ ‵ Sn ∷ []) ∵
            move ! (0 ∷ 2 ∷ 3 ∷ 4 ∷ []) $ group ! 4 $ use1 𝓛 (raw (wand 𝓤 ⟦ Drs ss ⟧ ⟦ E ⟧)) (Offers.shuts 𝓛 R own cv holds p z t ss sound are) $
            move ! (1 ∷ 0 ∷ []) $ by ! (there ss got.0 got.1)
        cases t ss sound are has some (inr past) =
            qed 𝓛 (‵ (LH ss (length t.parts.cells)) ∷ ‵ (Drs ss) ∷ ‵ (All ss t.parts.cells) ∷ ‵ (Fixed t.parts.words) ∷ ‵ (Views t) ∷ ‵ Sn ∷ []) ∵ move ! (1 ∷ []) $
            use1 𝓛 (given (Doors.AllAre 𝓛 σ Is (right_to R) b 0 (further ss)) (‵ (Drs ss))) (Doors.all_are 𝓛 σ Is (right_to R) b (further ss) o 32 0 (omega (arith, past, few))) $
            learn ! (λ all. absurd (lacks t ss are has past all some))

    -- A LOAD of the door
    pub finds : ⟦ Inv ⟧ ∗ (A.lft α q ∗ ⟦ Sn ⟧) ⊢ asks_ptr 𝓛 (block_ptr b e) (λ r. r) (λ r. fsep (flft α q) (met r))
    finds = qed 𝓛 (‵ Inv ∷ (‵ (flft α q) ⊛ ‵ Sn) ∷ []) ∵ fsplit ! $ move ! (1 ∷ []) $ use1 𝓛 (‵ (finv (fbor α E))) (Stretches.plain 𝓛 IsEven (fbor α E)) $
        move ! (2 ∷ []) $ split ! $
        -- [the token; the seats' views; the invariant; it is listed]
        move ! (2 ∷ 0 ∷ 3 ∷ 1 ∷ []) $
        by ! (borrowed_ptr 𝓛 α q E b e Ptr (λ r. r) (λ r. r) (λ _. ftrue) met (⟦ is_listed p z ⟧ ∗ ⟦ Sn ⟧)
        (qed 𝓛 (‵ E ∷ (‵ (is_listed p z) ⊛ ‵ Sn) ∷ []) ∵ suffices ! _ (upd_i 𝓤 (ex 𝓤 F)) $ move ! (1 ∷ []) $ split ! $ move ! (2 ∷ 0 ∷ 1 ∷ []) $ by ! found))
