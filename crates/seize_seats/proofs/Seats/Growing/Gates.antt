-- One door of the buckets of slots: that of a bucket which is there, or one that is null. Whose view shows a word of a slot finds an address behind the door of its
-- bucket. Assumes `Logic`.
use Rattle.std.specs.Prelude.{slice_get, Option, None, IsSome}
use Rattle.std.proofs.Common.{◌≡◌, ◌≢◌, ◌⊎◌, inl, inr, ℕ, suc, ◌+◌, ◌*◌, ◌<◌, ◌≤◌, List, [], ◌∷◌, length, take, drop, sym, refl, ap, ◌∙◌, subst, arith, Some}
use Rattle.std.proofs.lemmas.Bool.{cases_lt}
use seplogic.Ra.Ura.{Ura}
use base.Logic.{SProp, ent, sep, wand, ex, guard, apply∗, upd_i}
use base.Fml.{Lft, Share, Fml, ftrue, fsep, flft, fbor, finv}
use types.Logic.{Logic, sem}
use types.Kit.{‵, raw, ◌⊛◌, some as items, given, ◌$◌, ◌∵◌, !, qed, by, move, drop as leave, split, split3, fsplit, fsplit3, fjoin, fjoin3, fpick, fpack, pick, learn, check, show, frame, assume, suffices, use1, use2, rewrite, done}
use denote.RattleType.{RattleType}
use denote.RawPtr.{Ptr, block_ptr, block_of, count_of, at_block}
use denote.Steps.{nothing}
use Rattle.core.specs.Sync.RawAtomic.Pointer.{cell, asks_ptr}
use Rattle.core.proofs.raw_atomic.Asked.{borrowed_ptr, PtrLies}
use Rattle.seize_words.specs.OneMemory.Place.{capacity}
use Rattle.seize_words.specs.OneMemory.Mem.{word_at}
use Rattle.seize_words.specs.declared.at.At.TheVariants.{Slot}
use Rattle.seize_words.proofs.OneMemory.Places.Words.{capacity_le_capacity, capacity-one_to_one}
use Rattle.seize_seats.specs.Seats.Errands.{ViewCode}
use Rattle.seize_seats.specs.Seats.State.{State, view_of}
use Rattle.seize_seats.specs.Seats.Seen.{seen}
use Rattle.seize_seats.specs.Seats.Lines.{long, memory_of, AreSlots, AreLaid}
use Rattle.seize_seats.specs.Seats.Strips.{Strip, strip_coded, no_strip}
use Rattle.seize_seats.specs.Seats.Doors.{stays, behind, door}
use Rattle.seize_seats.specs.Seats.Buckets.{bucket_at, IsBucket, AreBuckets}
use Rattle.seize_seats.specs.Seats.Stretches.{IsEven}
use Rattle.seize_seats.specs.Seats.Owned.{Pieces, row, lines, ledger, sitting, bucket_right, Core, gates, ground_of, ground, all_strips, BaseId, Inside, age, core_of, book_of, state_of, bucket_known, lent_here, had_here, standing_in, everything, told}
use Rattle.seize_seats.proofs.Seats.Views.Stretches as Stretches
use Rattle.seize_seats.proofs.Seats.Views.Sitters as Sitters
use Rattle.seize_seats.proofs.Seats.Growing.Doors as Doors
use Rattle.seize_seats.proofs.Seats.Growing.Looks.{at_or_not}
use Rattle.seize_seats.proofs.Seats.Places.Columns.{slots_get}
use Rattle.seize_seats.proofs.Seats.Places.Grounds.{AllBuckets, capacity_least, capacity_twice}

-- ---- how many slots have their words, where so many buckets are there
pub slots_count : (roots slots : ℕ) (ws : List ℕ) (ss : List Strip) → AreSlots roots ws slots → AreBuckets roots ws ss
    → (slots ≡ 0) ⊎ (slots + 32 ≡ capacity (suc (length ss)))
slots_count roots slots ws ss (inl none) are = inl none.0
slots_count roots slots ws ss (inr all) are = let l = all.0 in let a = are.1 in inr (omega (arith, l, a))

-- the bucket of a slot that has its words is there
pub bucket_there : (roots slots n j : ℕ) (ws : List ℕ) (ss : List Strip) → AreSlots roots ws slots → AreBuckets roots ws ss → n < slots → capacity (suc j) ≤ n + 32 → j < length ss
bucket_there roots slots n j ws ss are count lt low = by (slots_count roots slots ws ss are count) (cases_lt j (length ss))
  where
    by : (slots ≡ 0) ⊎ (slots + 32 ≡ capacity (suc (length ss))) → (j < length ss) ⊎ (length ss ≤ j) → j < length ss
    by either (inl some) = some
    by (inl none) (inr few) = absurd (omega (arith, none, lt))
    by (inr all) (inr few) = let c = capacity_le_capacity (suc (length ss)) (suc j) (omega (arith, few)) in absurd (omega (arith, all, c, low, lt))

-- so there is no room to be made for one that is
pub room_there : (roots slots j : ℕ) (ws : List ℕ) (ss : List Strip) → AreSlots roots ws slots → AreBuckets roots ws ss → j < length ss → slots + 32 ≢ capacity (suc j)
room_there roots slots j ws ss are count lt e = by (slots_count roots slots ws ss are count)
  where
    by : (slots ≡ 0) ⊎ (slots + 32 ≡ capacity (suc (length ss))) → ⊥
    by (inl none) = let t = capacity_twice j in let c = capacity_least j in omega (arith, none, e, t, c)
    by (inr all) = let c = capacity_le_capacity (suc (suc j)) (suc (length ss)) (omega (arith, lt)) in let t = capacity_twice (suc j) in
        let l = capacity_least (suc j) in omega (arith, all, e, c, t, l)

-- and one that isn't is the next one, where room may be asked for
pub room_next : (roots slots j : ℕ) (ws : List ℕ) (ss : List Strip) → AreSlots roots ws slots → AreBuckets roots ws ss → length ss ≤ j → capacity (suc j) ≤ slots + 32
    → (slots + 32 ≡ capacity (suc j)) × (length ss ≡ j)
room_next roots slots j ws ss are count le may = by (slots_count roots slots ws ss are count)
  where
    next : slots + 32 ≡ capacity (suc (length ss)) → slots + 32 ≡ capacity (suc j)
    next all = let c = capacity_le_capacity (suc (length ss)) (suc j) (omega (arith, le)) in omega (arith, all, c, may)

    same : slots + 32 ≡ capacity (suc (length ss)) → length ss ≡ j
    same all = let e = capacity-one_to_one (suc (length ss)) (suc j) (sym all ∙ next all) in omega (arith, e)

    by : (slots ≡ 0) ⊎ (slots + 32 ≡ capacity (suc (length ss))) → (slots + 32 ≡ capacity (suc j)) × (length ss ≡ j)
    by (inl none) = let t = capacity_twice j in let c = capacity_least j in absurd (omega (arith, none, may, t, c))
    by (inr all) = (next all, same all)

module _ {M : Type 1} {𝓤 : Ura M} (𝓛 : Logic 𝓤) (k : Core) (ws : List ℕ) where
  -- the doors apart from the words
  abbrev pub AreAll : List Strip → Type 0
  AreAll ss = AreBuckets k.roots ws ss × AllBuckets 𝓛 k ss

  abbrev pub Shuts : List Strip → SProp 𝓤
  Shuts ss = wand 𝓤 (sem 𝓛 (gates k ss)) (sem 𝓛 (ground k ws))

  abbrev Apart : List Strip → SProp 𝓤
  Apart ss = guard 𝓤 (AreAll ss) (sep 𝓤 (sem 𝓛 (gates k ss)) (Shuts ss))

  abbrev pub apart_item : types.Kit.Item 𝓤
  apart_item = items (λ (ss : List Strip). given (AreAll ss) (‵ (gates k ss) ⊛ raw (Shuts ss)))

  abbrev First : Fml
  First = row (block_of k.fixed) (count_of k.fixed) (take (long k.roots) ws)

  abbrev Further : List Strip → Fml
  Further ss = lines ss (drop (long k.roots) ws)

  abbrev Book : List Strip → Fml
  Book ss = ledger strip_coded.code k.slots_name no_strip (no_strip ∷ ss)

  -- all of it apart
  abbrev Opened : List Strip → SProp 𝓤
  Opened ss = guard 𝓤 (AreAll ss) (sep 𝓤 (sem 𝓛 First) (sep 𝓤 (sem 𝓛 (Further ss)) (sep 𝓤 (sem 𝓛 (Book ss)) (sem 𝓛 (gates k ss)))))

  pub ground_opens : ent 𝓤 (sem 𝓛 (ground k ws)) (ex 𝓤 Opened)
  ground_opens = qed 𝓛 (‵ (ground k ws) ∷ []) ∵ fpick ! (λ ss. fsplit ! $ fsplit ! $ move ! (2 ∷ []) $ fsplit ! $ move ! (1 ∷ []) $ fpick ! (λ are. leave ! $ fsplit ! $ move ! (1 ∷ []) $
      -- [the doors; the list; the first words; the others]
      use1 𝓛 (given (AllBuckets 𝓛 k ss) (‵ (gates k ss)))
      (Doors.all_are 𝓛 k.slots_name IsBucket bucket_right (block_of k.doors) ss (256 + count_of k.doors) 32 0 are.0) $ learn ! (λ all.
      show ! Opened ss $ check ! (are, all) $ move ! (2 ∷ 3 ∷ 1 ∷ 0 ∷ []) $ done !)))

  pub shuts_by : (ss : List Strip) → AreBuckets k.roots ws ss → ent 𝓤 (sep 𝓤 (sem 𝓛 First) (sep 𝓤 (sem 𝓛 (Further ss)) (sem 𝓛 (Book ss)))) (Shuts ss)
  shuts_by ss are = qed 𝓛 (‵ First ∷ ‵ (Further ss) ∷ ‵ (Book ss) ∷ []) ∵ assume ! (‵ (gates k ss)) $
      -- [the doors; the first words; the others; the list]
      move ! (3 ∷ 0 ∷ []) $ fjoin ! $ nothing ! $ fpack ! (AreBuckets k.roots ws ss) (λ _. ftrue) are $ move ! (1 ∷ 0 ∷ []) $ fjoin ! $ move ! (1 ∷ 2 ∷ []) $ fjoin ! $
      move ! (0 ∷ 1 ∷ []) $ fjoin ! $ fpack ! (List Strip) (ground_of k ws) ss $ done !

  abbrev opened_item : types.Kit.Item 𝓤
  opened_item = items (λ (ss : List Strip). given (AreAll ss) (‵ First ⊛ ‵ (Further ss) ⊛ (‵ (Book ss) ⊛ ‵ (gates k ss))))

  pub gates_apart : ent 𝓤 (sem 𝓛 (ground k ws)) (ex 𝓤 Apart)
  gates_apart = qed 𝓛 (‵ (ground k ws) ∷ []) ∵ use1 𝓛 opened_item ground_opens $ pick ! (λ ss. learn ! (λ are. split3 ! $ move ! (2 ∷ []) $ split ! $
      -- [the list; the doors; the first words; the others]
      show ! Apart ss $ check ! are $ move ! (1 ∷ []) $ frame ! $ move ! (1 ∷ 2 ∷ 0 ∷ []) $ by ! (shuts_by ss are.0)))

module _ {M : Type 1} {𝓤 : Ura M} (𝓛 : Logic 𝓤) (R : RattleType) (own : Pieces R.Denot) {V W : Type 0} (cv : ViewCode V) (holds : State R.Denot V W → Type 0) (p : Ptr) (z : BaseId) where
  open 𝓛 use {H, A}

  abbrev Pr : Type 2
  Pr = SProp 𝓤

  abbrev ◌⊢◌ : Pr → Pr → Type 1
  P ⊢ Q = ent 𝓤 P Q

  abbrev ◌∗◌ : Pr → Pr → Pr
  P ∗ Q = sep 𝓤 P Q

  abbrev ⟦◌⟧ : Fml → Pr
  ⟦ P ⟧ = sem 𝓛 P

  infix 26 ◌⊢◌
  infixr 35 ◌∗◌
  abbrev α : Lft
  α = age z

  abbrev E : Fml
  E = everything R own cv holds (core_of z)

  abbrev Inv : Fml
  Inv = told R own cv holds p z

  abbrev b : ℕ
  b = block_of z.doors

  abbrev o : ℕ
  o = 256 + count_of z.doors

  abbrev σ : ℕ
  σ = z.slots_name

  abbrev In : Type 0
  In = Inside R.Denot V W

  abbrev Views : In → Fml
  Views t = sitting α cv z.views_name t.blank t.views

  abbrev Any : List Strip → Type 0
  Any ss = Unit {0}

  abbrev All : In → Fml
  All t = all_strips R α z.hands_name (lent_here R own cv holds p z) (had_here R own cv holds p z) (book_of z) Any t.parts.cells

  abbrev Sound : In → Type 0
  Sound t = holds (state_of z t) × AreLaid z.roots z.count t.parts

  -- A seat looks at the j-th door of a bucket, a word of which its view shows.
  module _ (j e : ℕ) (few : j < 32) (at : e ≡ j * 8 + o) (id : ℕ) (v : V) (n f : ℕ) (low : capacity (suc j) ≤ n + 32)
      (shown : (t : State R.Denot V W) → holds t → view_of t id ≡ Some v → IsSome (word_at t.memory (Slot n f))) (q r : Share) where
    abbrev pub Sn : Fml
    Sn = seen cv.code z.views_name r id v

    -- what is told: that the bucket is there
    abbrev pub met : Ptr → Fml
    met w = fsep (bucket_known σ (suc j) (bucket_at (suc j) w)) Sn

    abbrev F : Ptr → Pr
    F = PtrLies 𝓛 α q E b e Ptr (λ w. w) (λ w. w) (λ _. ftrue) met

    abbrev Beh : Strip → Fml
    Beh s = behind σ IsBucket bucket_right j s

    abbrev Dr : Strip → Fml
    Dr s = door σ IsBucket bucket_right b e j s

    has_bucket : (t : In) (ss : List Strip) → Sound t → AreBuckets z.roots t.parts.words ss → view_of (state_of z t) id ≡ Some v → j < length ss
    has_bucket t ss sound are sits =
        let word_is = some_word (word_at (memory_of z.roots t.parts) (Slot n f)) (shown (state_of z t) sound.0 sits) in
        let g = slots_get t.parts.slots t.parts.words ((z.roots + z.roots) * 16) n f word_is.0 word_is.1 in
        bucket_there z.roots t.parts.slots n j t.parts.words ss sound.1.slots_are are g.0 low
      where
        some_word : (x : Option ℕ) → IsSome x → (w : ℕ) × (x ≡ Some w)
        some_word None is = absurd (cc is)
        some_word (Some w) is = (w, refl)

    -- the door of a bucket that is there, with all the rest
    there : (t : In) (ss : List Strip) (s : Strip) → Sound t → slice_get ss j ≡ Some s
        → ⟦ gates (core_of z) ss ⟧ ∗ Shuts 𝓛 (core_of z) t.parts.words ss ∗ ⟦ All t ⟧ ∗ ⟦ Views t ⟧ ∗ ⟦ Sn ⟧ ⊢ ex 𝓤 F
    there t ss s sound has = let B : Pr = wand 𝓤 ⟦ Dr s ⟧ ⟦ gates (core_of z) ss ⟧ in let St : Fml = stays σ (suc j) s in let G : Fml = ground (core_of z) t.parts.words in
        qed 𝓛 (‵ (gates (core_of z) ss) ∷ raw (Shuts 𝓛 (core_of z) t.parts.words ss) ∷ ‵ (All t) ∷ ‵ (Views t) ∷ ‵ Sn ∷ []) ∵
        use1 𝓛 (‵ (Dr s) ⊛ raw B) (Doors.door_at 𝓛 σ IsBucket bucket_right b ss o 32 0 j e j s at (omega arith) few has) $ split ! $ fsplit ! $
        move ! (1 ∷ []) $ use1 𝓛 (‵ (Beh s) ⊛ ‵ St) (Doors.tells 𝓛 σ IsBucket bucket_right b j s) $ split ! $ fsplit ! $ fpick ! (λ is. leave ! $
        let w : Ptr = block_ptr (block_of s.words) (count_of s.words) in let here : s.words ≡ w = at_block s.words is.0 in
        let same : s ≡ bucket_at (suc j) w = is.2 ∙ ap (bucket_at (suc j)) here in
        let Z : Pr = ⟦ E ⟧ ∗ ⟦ met w ⟧ in
        -- [it stays, and the right; it stays; the cell; the other doors; the rest; the strips; the views; the seat's view]
        nothing ! $ fpack ! (IsBucket j s) (λ _. ftrue) is $ move ! (0 ∷ 1 ∷ []) $ fjoin ! $ move ! (2 ∷ []) $
        -- [the cell; what is behind; it stays; the other doors; the rest; the strips; the views; the seat's view]
        rewrite ! 0 (λ (x : Ptr). ‵ (cell b e x)) here refl $ show ! F w $ frame ! $ nothing ! $ frame ! $ assume ! (‵ (cell b e w)) $
        rewrite ! 0 (λ (x : Ptr). ‵ (cell b e x)) (sym here) refl $ fjoin ! $ move ! (0 ∷ 2 ∷ []) $ use2 𝓛 (‵ (gates (core_of z) ss)) (apply∗ 𝓤 ⟦ Dr s ⟧ ⟦ gates (core_of z) ss ⟧) $
        move ! (0 ∷ 2 ∷ []) $ use2 𝓛 (‵ G) (apply∗ 𝓤 ⟦ gates (core_of z) ss ⟧ ⟦ G ⟧) $
        -- [the words; it stays; the strips; the views; the seat's view]
        move ! (0 ∷ 2 ∷ []) $ fjoin ! $ nothing ! $ fpack ! (Sound t) (λ _. ftrue) sound $ move ! (1 ∷ 3 ∷ 0 ∷ []) $ fjoin3 ! $
        fpack ! In (standing_in R own cv holds (core_of z) Any) t $ suffices ! _ (upd_i 𝓤 Z) $ frame ! $
        rewrite ! 0 (λ (x : Strip). ‵ (stays σ (suc j) x)) same refl $
        nothing ! $ fpack ! (IsBucket j (bucket_at (suc j) w)) (λ _. ftrue) (subst (IsBucket j) same is) $ fjoin ! $ fjoin ! $ done !)

    found : ⟦ E ⟧ ∗ ⟦ Sn ⟧ ⊢ ex 𝓤 F
    found = qed 𝓛 (‵ E ∷ ‵ Sn ∷ []) ∵ fpick ! (λ t. fsplit3 ! $ move ! (2 ∷ []) $ fpick ! (λ sound. leave ! $
        -- [the memory; the views; the seat's view]
        move ! (1 ∷ 2 ∷ []) $ use2 𝓛 (given (view_of (state_of z t) id ≡ Some v) (‵ (Views t) ⊛ ‵ Sn)) (Sitters.sits 𝓛 α cv z.views_name t.blank t.views id r v) $
        learn ! (λ sits. split ! $ move ! (2 ∷ []) $ fsplit ! $ use1 𝓛 (apart_item 𝓛 (core_of z) t.parts.words) (gates_apart 𝓛 (core_of z) t.parts.words) $
        pick ! (λ ss. learn ! (λ so. split ! $ by ! (cases t ss sound (has_bucket t ss sound so.0 sits) (at_or_not ss j)))))))
      where
        cases : (t : In) (ss : List Strip) → Sound t → j < length ss → ((s : Strip) × (slice_get ss j ≡ Some s)) ⊎ (length ss ≤ j)
            → ⟦ gates (core_of z) ss ⟧ ∗ Shuts 𝓛 (core_of z) t.parts.words ss ∗ ⟦ All t ⟧ ∗ ⟦ Views t ⟧ ∗ ⟦ Sn ⟧ ⊢ ex 𝓤 F
        cases t ss sound lt (inl has) = there t ss has.0 sound has.1
        cases t ss sound lt (inr past) = absurd (omega (arith, lt, past))

    -- A LOAD of the door
    pub finds : ⟦ Inv ⟧ ∗ (A.lft α q ∗ ⟦ Sn ⟧) ⊢ asks_ptr 𝓛 (block_ptr b e) (λ w. w) (λ w. fsep (flft α q) (met w))
    finds = qed 𝓛 (‵ Inv ∷ (‵ (flft α q) ⊛ ‵ Sn) ∷ []) ∵ fsplit ! $ leave ! $ use1 𝓛 (‵ (finv (fbor α E))) (Stretches.plain 𝓛 IsEven (fbor α E)) $
        by ! (borrowed_ptr 𝓛 α q E b e Ptr (λ w. w) (λ w. w) (λ _. ftrue) met ⟦ Sn ⟧
        (qed 𝓛 (‵ E ∷ ‵ Sn ∷ []) ∵ suffices ! _ (upd_i 𝓤 (ex 𝓤 F)) $ by ! found))
