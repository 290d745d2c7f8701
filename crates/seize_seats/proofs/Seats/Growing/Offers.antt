-- Who sets a door that is null has a strip more join, and who finds it set keeps its own. Assumes `Logic`.
use Rattle.std.specs.Prelude.{slice_get, replicate}
use Rattle.std.proofs.Common.{◌≡◌, ◌⊎◌, inl, inr, ℕ, zero, suc, ◌+◌, ◌*◌, ◌<◌, ◌≤◌, Bool, true, false, List, [], ◌∷◌, ◌++◌, length, sym, refl, subst, arith, Some, None, lit<}
use seplogic.Ra.Ura.{Ura}
use base.Logic.{SProp, ent, sep, wand, ex, all, upd, apply∗, all_e, upd_i}
use base.Fml.{Lft, Share, Fml, ftrue, fsep, flft, fbor, finv}
use types.Logic.{Logic, sem}
use types.Kit.{‵, raw, ◌⊛◌, given, ◌$◌, ◌∵◌, !, qed, by, move, drop, split, group, fsplit, fsplit3, fjoin, fjoin3, fpick, fpack, learn, show, frame, assume, suffices, settle, use0, use1, use2, rewrite, done}
use denote.RattleType.{RattleType}
use denote.RawPtr.{Ptr, block_ptr, null_ptr, block_of, count_of, at_block, Testable}
use denote.Steps.{nothing}
use Rattle.core.specs.Sync.RawAtomic.Pointer.{cell, alike, compares}
use Rattle.core.proofs.raw_atomic.Asked.{borrowed_compares, Compared, alike_null}
use Rattle.seize_words.specs.OneMemory.Mem.{Mem}
use Rattle.seize_seats.specs.Seats.Errands.{ViewCode}
use Rattle.seize_seats.specs.Seats.State.{State}
use Rattle.seize_seats.specs.Seats.Seen.{seen}
use Rattle.seize_seats.specs.Seats.Cells.{Body, Cell}
use Rattle.seize_seats.specs.Seats.Lines.{memory_of, AreLaid}
use Rattle.seize_seats.specs.Seats.Strips.{Strip, strip_coded, no_strip, further, AreStrips}
use Rattle.seize_seats.specs.Seats.Doors.{IsFurther, right_to, stays, behind, door}
use Rattle.seize_seats.specs.Seats.Stretches.{IsEven}
use Rattle.seize_seats.specs.Seats.Owned.{Pieces, row, ground, ledger, sitting, unborn, hand_coded, resting, places, strips, doors_of, listed, BaseId, Inside, age, core_of, book_of, lent_here, had_here, standing_in, everything, told}
use Rattle.seize_seats.proofs.Seats.Views.Stretches as Stretches
use Rattle.seize_seats.proofs.Seats.Views.Ledgers as Ledgers
use Rattle.seize_seats.proofs.Seats.Growing.Doors as Doors
use Rattle.seize_seats.proofs.Seats.Growing.Looks as Looks
use Rattle.seize_seats.proofs.Seats.Growing.Joining as Joining
use Rattle.seize_seats.proofs.Seats.Opening.{fives}

-- a list that has one at a place and nothing behind it ends there
ends_there : (ss : List Strip) (j : ℕ) (s : Strip) → slice_get ss j ≡ Some s → length (further ss) ≤ j → (length ss ≡ suc j) × (length (further ss) ≡ j)
ends_there [] j s at le = absurd (cc at)
ends_there (x ∷ ss) j s at le = let low = within (x ∷ ss) j s at in (omega (arith, low, le), omega (arith, low, le))
  where
    within : (us : List Strip) (i : ℕ) (u : Strip) → slice_get us i ≡ Some u → i < length us
    within [] i u e = absurd (cc e)
    within (y ∷ us) zero u e = omega arith
    within (y ∷ us) (suc i) u e = let r = within us i u e in omega (arith, r)

last_ends : (ss : List Strip) (i n j : ℕ) (s : Strip) → AreStrips i ss n → slice_get ss j ≡ Some s → length ss ≡ suc j → n ≡ s.first + s.size
last_ends [] i n j s are at long = absurd (cc at)
last_ends (x ∷ []) i n zero s are at long = let same : x ≡ s = cc at in let first = are.0 in let last = are.1 in
    subst (λ (y : Strip). n ≡ y.first + y.size) same (omega (arith, first, last))
last_ends (x ∷ y ∷ ss) i n zero s are at long = absurd (omega (arith, long))
last_ends (x ∷ ss) i n (suc j) s are at long = last_ends ss (i + x.size) n j s are.1 at (omega (arith, long))

further_more : (ss : List Strip) (s : Strip) (j : ℕ) → length ss ≡ suc j → further (ss ++ s ∷ []) ≡ further ss ++ s ∷ []
further_more [] s j long = absurd (omega (arith, long))
further_more (x ∷ ss) s j long = refl

module _ {M : Type 1} {𝓤 : Ura M} (𝓛 : Logic 𝓤) (R : RattleType) (own : Pieces R.Denot) {V W : Type 0} (cv : ViewCode V) (holds : State R.Denot V W → Type 0) (p : Ptr) (z : BaseId) where
  open 𝓛 use {H, A}

  abbrev Pr : Type 2
  Pr = SProp 𝓤

  abbrev ◌⊢◌ : Pr → Pr → Type 1
  P ⊢ Q = ent 𝓤 P Q

  abbrev ◌∗◌ : Pr → Pr → Pr
  P ∗ Q = sep 𝓤 P Q

  abbrev ⟦◌⟧ : Fml → Pr
  ⟦ P ⟧ = sem 𝓛 P

  infix 26 ◌⊢◌
  infixr 35 ◌∗◌
  abbrev α : Lft
  α = age z

  abbrev E : Fml
  E = everything R own cv holds (core_of z)

  abbrev Inv : Fml
  Inv = told R own cv holds p z

  abbrev b : ℕ
  b = block_of z.doors

  abbrev o : ℕ
  o = count_of z.doors

  abbrev σ : ℕ
  σ = z.strips_name

  abbrev Is : ℕ → Strip → Type 0
  Is = IsFurther R z.least

  abbrev Drs : List Strip → Fml
  Drs us = doors_of R (book_of z) us

  abbrev Lt : ℕ → Body R.Denot → ℕ → ℕ → Fml
  Lt = lent_here R own cv holds p z

  abbrev Hd : ℕ → ℕ → Body R.Denot → Fml
  Hd = had_here R own cv holds p z

  abbrev Any : List Strip → Type 0
  Any ss = Unit {0}

  abbrev Led : List Strip → Fml
  Led ss = ledger strip_coded.code σ no_strip ss

  abbrev Hands : ℕ → Fml
  Hands n = unborn hand_coded.code z.hands_name n resting

  abbrev Fixed : List ℕ → Fml
  Fixed ws = ground (core_of z) ws

  abbrev Views : Inside R.Denot V W → Fml
  Views t = sitting (age z) cv z.views_name t.blank t.views

  abbrev All : List Strip → List (Cell R.Denot) → Fml
  All ss cs = strips R α z.hands_name Lt Hd ss cs

  -- with the doors it is all of it
  pub shuts : (t : Inside R.Denot V W) (ss : List Strip) (sound : holds record { memory = memory_of z.roots t.parts; views = t.views; world = t.world } × AreLaid z.roots z.count t.parts)
      → AreStrips 0 ss (length t.parts.cells)
      → ⟦ fsep (Led ss) (Hands (length t.parts.cells)) ⟧ ∗ ⟦ All ss t.parts.cells ⟧ ∗ ⟦ Fixed t.parts.words ⟧ ∗ ⟦ Views t ⟧ ⊢ wand 𝓤 ⟦ Drs (further ss) ⟧ ⟦ E ⟧
  shuts t ss sound are =
      qed 𝓛 (‵ (fsep (Led ss) (Hands (length t.parts.cells))) ∷ ‵ (All ss t.parts.cells) ∷ ‵ (Fixed t.parts.words) ∷ ‵ (Views t) ∷ []) ∵
      assume ! (‵ (Drs (further ss))) $ move ! (1 ∷ 0 ∷ []) $ fjoin ! $
      nothing ! $ fpack ! (AreStrips 0 ss (length t.parts.cells) × Unit {0}) (λ _. ftrue) (are, tt) $ move ! (1 ∷ 0 ∷ 2 ∷ []) $ fjoin3 ! $
      fpack ! (List Strip) (listed R α z.hands_name Lt Hd (book_of z) Any t.parts.cells) ss $ move ! (1 ∷ 0 ∷ []) $ fjoin ! $
      nothing ! $ fpack ! (holds record { memory = memory_of z.roots t.parts; views = t.views; world = t.world } × AreLaid z.roots z.count t.parts) (λ _. ftrue) sound $
      move ! (1 ∷ 2 ∷ 0 ∷ []) $ fjoin3 ! $ fpack ! (Inside R.Denot V W) (standing_in R own cv holds (core_of z) Any) t $ done !

  -- A strip s is offered at the j-th door. The one before it is there, and its numbers end where those of s begin.
  module _ (q : Share) (j e : ℕ) (few : j < 32) (at : e ≡ j * 8 + o) (s : Strip) (is : Is j s) (before : Strip)
      (follows : before.first + before.size ≡ s.first) (room : s.first + s.size ≤ z.count) where
    abbrev Fives : Fml
    Fives = row (block_of s.words) (s.skip * 8 + count_of s.words) (fives s.size)

    abbrev Nones : Fml
    Nones = places R (block_of s.values) (count_of s.values) (replicate s.size None)

    -- its words, its places, and the right to give its memory back
    abbrev pub Own : Fml
    Own = fsep Fives (fsep Nones (right_to R s))

    abbrev pub Stays : Fml
    Stays = stays σ (suc j) s

    abbrev pub won : Ptr → Fml
    won r = Stays

    abbrev glimpse : Ptr → Fml
    glimpse = Looks.glimpse 𝓛 R own cv holds p z q j e few at

    abbrev pub lost : Ptr → Fml
    lost r = fsep Own (glimpse r)

    abbrev F : Ptr × Bool → Pr
    F = Compared 𝓛 α q E b e null_ptr s.words won lost

    abbrev Beh : Strip → Fml
    Beh r = behind σ Is (right_to R) j r

    abbrev Dr : Strip → Fml
    Dr r = door σ Is (right_to R) b e j r

    -- it was set before
    misses : (ss : List Strip) (r : Strip) → slice_get (further ss) j ≡ Some r
        → ⟦ Drs (further ss) ⟧ ∗ wand 𝓤 ⟦ Drs (further ss) ⟧ ⟦ E ⟧ ∗ ⟦ Own ⟧ ⊢ ex 𝓤 F
    misses ss r has = let Ds : Fml = Drs (further ss) in let B : Pr = wand 𝓤 ⟦ Dr r ⟧ ⟦ Ds ⟧ in let St : Fml = stays σ (suc j) r in
        qed 𝓛 (‵ Ds ∷ raw (wand 𝓤 ⟦ Ds ⟧ ⟦ E ⟧) ∷ ‵ Own ∷ []) ∵
        use1 𝓛 (‵ (Dr r) ⊛ raw B) (Doors.door_at 𝓛 σ Is (right_to R) b (further ss) o 32 0 j e j r at (omega arith) few has) $ split ! $ fsplit ! $
        move ! (1 ∷ []) $ use1 𝓛 (‵ (Beh r) ⊛ ‵ St) (Doors.tells 𝓛 σ Is (right_to R) b j r) $ split ! $ fsplit ! $ fpick ! (λ so. drop ! $
        let c : ℕ = block_of r.words in let u : ℕ = count_of r.words in let w : Ptr = block_ptr c u in let here : r.words ≡ w = at_block r.words so.0 in
        let Z : Pr = ⟦ E ⟧ ∗ ⟦ lost w ⟧ in let test : Testable w = subst Testable here so.1 in
        -- [it stays, and the right; it stays; the cell; the other doors; the rest; one's own]
        nothing ! $ fpack ! (Is j r) (λ _. ftrue) so $ move ! (0 ∷ 1 ∷ []) $ fjoin ! $ move ! (2 ∷ []) $
        -- [the cell; what is behind; it stays; the other doors; the rest; one's own]
        rewrite ! 0 (λ (v : Ptr). ‵ (cell b e v)) here refl $ show ! F (w, false) $ frame ! $
        use0 𝓛 (‵ (alike w null_ptr false)) (alike_null 𝓛 w test) $ frame ! $ assume ! (‵ (cell b e w)) $
        rewrite ! 0 (λ (v : Ptr). ‵ (cell b e v)) (sym here) refl $ fjoin ! $ move ! (0 ∷ 2 ∷ []) $ use2 𝓛 (‵ Ds) (apply∗ 𝓤 ⟦ Dr r ⟧ ⟦ Ds ⟧) $
        move ! (0 ∷ 2 ∷ []) $ use2 𝓛 (‵ E) (apply∗ 𝓤 ⟦ Ds ⟧ ⟦ E ⟧) $ suffices ! _ (upd_i 𝓤 Z) $ frame ! $
        nothing ! $ fpack ! (Looks.Found 𝓛 R own cv holds p z q j e few at w r) (λ _. ftrue) (here, so) $ fjoin ! $
        fpack ! Strip (Looks.shown 𝓛 R own cv holds p z q j e few at w) r $ move ! (1 ∷ 0 ∷ []) $ fjoin ! $ done !)

    -- it is null: whoever sets it has the strip join
    module _ (t : Inside R.Denot V W) (ss : List Strip) (sound : holds record { memory = memory_of z.roots t.parts; views = t.views; world = t.world } × AreLaid z.roots z.count t.parts)
        (are : AreStrips 0 ss (length t.parts.cells)) (has : slice_get ss j ≡ Some before) (past : length (further ss) ≤ j) where
      abbrev cs : List (Cell R.Denot)
      cs = t.parts.cells

      abbrev us : List Strip
      us = ss ++ s ∷ []

      long : length ss ≡ suc j
      long = (ends_there ss j before has past).0

      last : length (further ss) ≡ j
      last = (ends_there ss j before has past).1

      first : s.first ≡ length cs
      first = let l = last_ends ss 0 (length cs) j before are has long in omega (arith, l, follows)

      abbrev Sets : Pr
      Sets = Doors.Sets 𝓛 σ Is (right_to R) b o 32 0 (further ss) e j s

      abbrev Opens : Pr
      Opens = wand 𝓤 ⟦ stays σ (length ss) s ⟧ ⟦ Drs (further us) ⟧

      opens : ⟦ cell b e s.words ⟧ ∗ Sets ∗ ⟦ right_to R s ⟧ ⊢ Opens
      opens = let Ds : Fml = Drs (further ss ++ s ∷ []) in
          qed 𝓛 (‵ (cell b e s.words) ∷ raw Sets ∷ ‵ (right_to R s) ∷ []) ∵ assume ! (‵ (stays σ (length ss) s)) $
          rewrite ! 0 (λ (k : ℕ). ‵ (stays σ k s)) long refl $
          -- [it stays; the cell; the other doors; the right]
          move ! (0 ∷ 3 ∷ []) $ fjoin ! $ nothing ! $ fpack ! (Is j s) (λ _. ftrue) is $ fjoin ! $ move ! (1 ∷ 0 ∷ []) $ fjoin ! $
          use2 𝓛 (‵ Ds) (apply∗ 𝓤 ⟦ Dr s ⟧ ⟦ Ds ⟧) $ rewrite ! 0 (λ (l : List Strip). ‵ (Drs l)) (sym (further_more ss s j long)) refl $ done !

      abbrev grown : Inside R.Denot V W
      grown = record { parts = Joining.grown z.roots z.count t.parts sound.1 s.size; blank = t.blank; views = t.views; world = t.world }

      laid : AreLaid z.roots z.count grown.parts × (memory_of z.roots grown.parts ≡ memory_of z.roots t.parts)
      laid = Joining.laid_grown z.roots z.count t.parts sound.1 s.size (let f = first in omega (arith, f, room))

      still : holds record { memory = memory_of z.roots grown.parts; views = t.views; world = t.world }
      still = subst (λ (m : Mem R.Denot). holds record { memory = m; views = t.views; world = t.world }) (sym laid.1) sound.0

      sets : ⟦ fsep (Led ss) (Hands (length cs)) ⟧ ∗ ⟦ Drs (further ss) ⟧ ∗ ⟦ All ss cs ⟧ ∗ ⟦ Fixed t.parts.words ⟧ ∗ ⟦ Views t ⟧ ∗ ⟦ Own ⟧ ⊢ ex 𝓤 F
      sets = let P = Doors.Sets 𝓛 σ Is (right_to R) b o 32 0 (further ss) e j in let N : Fml = cell b e null_ptr in let LH : Fml = fsep (Led ss) (Hands (length cs)) in
          let Joined : Fml = Joining.Joined 𝓛 R α z.hands_name Lt Hd (book_of z) Any ss cs s are first tt in let St : Fml = stays σ (length ss) s in
          let Z : Pr = ⟦ E ⟧ ∗ ⟦ won null_ptr ⟧ in
          qed 𝓛 (‵ LH ∷ ‵ (Drs (further ss)) ∷ ‵ (All ss cs) ∷ ‵ (Fixed t.parts.words) ∷ ‵ (Views t) ∷ ‵ Own ∷ []) ∵ move ! (1 ∷ []) $
          use1 𝓛 (‵ N ⊛ raw (all 𝓤 P))
          (Doors.door_next 𝓛 σ Is (right_to R) b (further ss) o 32 0 e j (let l = last in omega (arith, at, l)) (let l = last in omega (arith, l)) (let l = last in omega (arith, l, few))) $ split ! $
          show ! F (null_ptr, true) $ frame ! $ use0 𝓛 (‵ (alike null_ptr null_ptr true)) (alike_null 𝓛 null_ptr (lit< tt)) $ frame ! $
          assume ! (‵ (cell b e s.words)) $ move ! (1 ∷ []) $ use1 𝓛 (raw Sets) (all_e 𝓤 P s) $ move ! (6 ∷ []) $ fsplit3 ! $
          -- [the words; the places; the right; the other doors; the cell; the list and the hands; the strips; the first words; the views]
          move ! (4 ∷ 3 ∷ 2 ∷ []) $ group ! 3 $ use1 𝓛 (raw Opens) opens $
          -- [what opens; the words; the places; the list and the hands; the strips; the first words; the views]
          move ! (3 ∷ 4 ∷ 1 ∷ 2 ∷ 0 ∷ []) $ group ! 5 $
          use1 𝓛 (raw (upd 𝓤 (⟦ Joined ⟧ ∗ ⟦ St ⟧))) (Joining.joins 𝓛 R α z.hands_name Lt Hd (book_of z) Any ss cs s are first tt) $
          settle 𝓛 Z (‵ Joined ⊛ ‵ St) $ split ! $ suffices ! _ (upd_i 𝓤 Z) $
          -- [the strips; it stays; the first words; the views]
          fpack ! (List Strip) (listed R α z.hands_name Lt Hd (book_of z) Any grown.parts.cells) us $ move ! (2 ∷ 0 ∷ []) $ fjoin ! $
          nothing ! $ fpack ! (holds record { memory = memory_of z.roots grown.parts; views = t.views; world = t.world } × AreLaid z.roots z.count grown.parts) (λ _. ftrue) (still, laid.0) $
          move ! (1 ∷ 3 ∷ 0 ∷ []) $ fjoin3 ! $ fpack ! (Inside R.Denot V W) (standing_in R own cv holds (core_of z) Any) grown $ frame ! $
          rewrite ! 0 (λ (k : ℕ). ‵ (stays σ k s)) long refl $ done !

    -- the list shows the one before
    abbrev Sh : Share → Fml
    Sh r = seen strip_coded.code σ r j before

    either : ⟦ E ⟧ ∗ ⟦ stays σ j before ⟧ ∗ ⟦ Own ⟧ ⊢ ex 𝓤 F
    either = qed 𝓛 (‵ E ∷ ‵ (stays σ j before) ∷ ‵ Own ∷ []) ∵ fpick ! (λ t. fsplit3 ! $ fsplit ! $ move ! (1 ∷ []) $ fpick ! (λ ss. fsplit3 ! $ move ! (1 ∷ []) $
        fpick ! (λ are. drop ! $ fsplit ! $ fsplit ! $
        -- [the list; the hands; the doors; the strips; the words; the views; the facts; the one before; one's own]
        move ! (7 ∷ []) $ fpick ! (λ r. move ! (1 ∷ 0 ∷ []) $
        use2 𝓛 (given (slice_get ss j ≡ Some before) (‵ (Led ss) ⊛ ‵ (Sh r))) (Ledgers.sits 𝓛 strip_coded σ no_strip ss j r before) $ learn ! (λ has. split ! $
        move ! (1 ∷ []) $ drop ! $ fjoin ! $
        -- [the list and the hands; the doors; the strips; the words; the views; the facts; one's own]
        move ! (5 ∷ []) $ fpick ! (λ sound. drop ! $ by ! (cases t ss sound are.0 has (Looks.at_or_not (further ss) j))))))))
      where
        cases : (t : Inside R.Denot V W) (ss : List Strip) (sound : holds record { memory = memory_of z.roots t.parts; views = t.views; world = t.world } × AreLaid z.roots z.count t.parts)
            → AreStrips 0 ss (length t.parts.cells) → slice_get ss j ≡ Some before → ((r : Strip) × (slice_get (further ss) j ≡ Some r)) ⊎ (length (further ss) ≤ j)
            → ⟦ fsep (Led ss) (Hands (length t.parts.cells)) ⟧ ∗ ⟦ Drs (further ss) ⟧ ∗ ⟦ All ss t.parts.cells ⟧ ∗ ⟦ Fixed t.parts.words ⟧ ∗ ⟦ Views t ⟧ ∗ ⟦ Own ⟧ ⊢ ex 𝓤 F
        cases t ss sound are has (inr past) = sets t ss sound are has past
        cases t ss sound are has (inl got) =
            qed 𝓛 (‵ (fsep (Led ss) (Hands (length t.parts.cells))) ∷ ‵ (Drs (further ss)) ∷ ‵ (All ss t.parts.cells) ∷ ‵ (Fixed t.parts.words) ∷ ‵ (Views t) ∷ ‵ Own ∷ []) ∵
            move ! (0 ∷ 2 ∷ 3 ∷ 4 ∷ []) $ group ! 4 $ use1 𝓛 (raw (wand 𝓤 ⟦ Drs (further ss) ⟧ ⟦ E ⟧)) (shuts t ss sound are) $ move ! (1 ∷ 0 ∷ []) $
            by ! (misses ss got.0 got.1)

    -- AN EXCHANGE of null for its address
    pub offers : ⟦ Inv ⟧ ∗ (A.lft α q ∗ (⟦ stays σ j before ⟧ ∗ ⟦ Own ⟧))
        ⊢ compares 𝓛 (block_ptr b e) null_ptr s.words (λ r. fsep (flft α q) (won r)) (λ r. fsep (flft α q) (lost r))
    offers = qed 𝓛 (‵ Inv ∷ (‵ (flft α q) ⊛ (‵ (stays σ j before) ⊛ ‵ Own)) ∷ []) ∵ fsplit ! $ drop ! $
        use1 𝓛 (‵ (finv (fbor α E))) (Stretches.plain 𝓛 IsEven (fbor α E)) $
        by ! (borrowed_compares 𝓛 α q E b e null_ptr s.words won lost (⟦ stays σ j before ⟧ ∗ ⟦ Own ⟧)
        (qed 𝓛 (‵ E ∷ (‵ (stays σ j before) ⊛ ‵ Own) ∷ []) ∵ suffices ! _ (upd_i 𝓤 (ex 𝓤 F)) $ move ! (1 ∷ []) $ split ! $ move ! (2 ∷ 0 ∷ 1 ∷ []) $ by ! either))
