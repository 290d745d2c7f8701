-- Room is made for a bucket of slots that has a door: who puts the bucket's words behind it has the bucket join, and who finds it set keeps its own. Where there is
-- no memory for them the door is looked at. Assumes `Logic`.
use Rattle.std.specs.Prelude.{slice_get, Ok, Err, replicate}
use Rattle.std.proofs.Common.{◌≡◌, ◌⊎◌, inl, inr, ℕ, zero, suc, ◌+◌, ◌-◌, ◌*◌, ◌<◌, ◌≤◌, Bool, true, false, List, [], ◌∷◌, ◌++◌, length, length-append, take, drop, sym, refl, ap, subst, arith, lit<, Some}
use Rattle.std.proofs.lemmas.List.{length-replicate, length-drop, take_all, take-append-le, drop-append-le}
use seplogic.Ra.Ura.{Ura}
use base.Share.{three_quarters}
use base.Logic.{SProp, ent, sep, wand, ex, all, upd, apply∗, all_e, upd_i}
use base.Fml.{Lft, Share, Fml, ftrue, fsep, flft, fbor, finv}
use types.Logic.{Logic, sem}
use types.Kit.{‵, raw, ◌⊛◌, given, ◌$◌, ◌∵◌, !, qed, by, move, drop as leave, split, split3, fsplit, fjoin, fjoin3, fpick, fpack, pick, learn, show, frame, assume, suffices, settle, use0, use1, use2, use3, rewrite, done}
use denote.RattleType.{RattleType}
use denote.RawPtr.{Ptr, block_ptr, null_ptr, block_of, count_of, at_block, InBlock, Testable}
use denote.Steps.{nothing}
use Rattle.core.specs.Sync.RawAtomic.Pointer.{cell, alike, asks_ptr, compares}
use Rattle.core.proofs.raw_atomic.Asked.{borrowed_ptr, PtrLies, borrowed_compares, Compared, alike_null}
use Rattle.seize_words.specs.OneMemory.Mem.{Mem}
use Rattle.seize_words.specs.OneMemory.Op.{Out, Room, Roomed}
use Rattle.seize_words.specs.OneMemory.Place.{capacity}
use Rattle.seize_words.specs.declared.fault.Fault.TheVariants.{Memory}
use Rattle.seize_seats.specs.Seats.Errands.{ViewCode, StaysSo, StayAllSo}
use Rattle.seize_seats.specs.Seats.State.{State, Goes, Allows}
use Rattle.seize_seats.specs.Seats.Seen.{fact, seen}
use Rattle.seize_seats.specs.Seats.Lines.{Parts, long, memory_of, AreLaid}
use Rattle.seize_seats.specs.Seats.Strips.{Strip, strip_coded, no_strip, AreStrips}
use Rattle.seize_seats.specs.Seats.Doors.{stays, door}
use Rattle.seize_seats.specs.Seats.Buckets.{bucket_at, IsBucket, AreBuckets}
use Rattle.seize_seats.specs.Seats.Stretches.{IsEven}
use Rattle.seize_seats.specs.Seats.Owned.{Pieces, row, lines, ledger, bucket_right, gates, ground_of, ground, all_strips, sitting, BaseId, Inside, age, core_of, book_of, state_of, IsListed, is_listed, lent_here, had_here, standing, inner, everything}
use Rattle.seize_seats.proofs.Seats.Places.Strips.{strips_up}
use Rattle.seize_seats.proofs.Seats.Views.Stretches as Stretches
use Rattle.seize_seats.proofs.Seats.Views.Ledgers as Ledgers
use Rattle.seize_seats.proofs.Seats.Growing.Doors as Doors
use Rattle.seize_seats.proofs.Seats.Views.Known as Known
use Rattle.seize_seats.proofs.Seats.Growing.Looks.{at_or_not}
use Rattle.seize_seats.proofs.Seats.Growing.Rooms as Rooms
use Rattle.seize_seats.proofs.Seats.Places.Grounds.{buckets_follow, capacity_least, capacity_twice}
use Rattle.seize_seats.proofs.Seats.Growing.Gates.{room_there, room_next, AreAll, Shuts, apart_item, gates_apart, ground_opens, shuts_by}
use Rattle.seize_seats.proofs.Seats.Stepping.Moves as Moves

-- one of a list is within it
within : (us : List Strip) (i : ℕ) (u : Strip) → slice_get us i ≡ Some u → i < length us
within [] i u e = absurd (cc e)
within (y ∷ us) zero u e = omega arith
within (y ∷ us) (suc i) u e = let r = within us i u e in omega (arith, r)

module _ {M : Type 1} {𝓤 : Ura M} (𝓛 : Logic 𝓤) where
  -- a bucket more follows the others
  lines_join : (ss : List Strip) (us zs : List ℕ) (j n : ℕ) (s : Strip) → AreStrips j ss n → n * 16 ≡ j * 16 + length us → length zs ≡ s.size * 16
      → ent 𝓤 (sep 𝓤 (sem 𝓛 (lines ss us)) (sem 𝓛 (row (block_of s.words) (count_of s.words) zs))) (sem 𝓛 (lines (ss ++ s ∷ []) (us ++ zs)))
  lines_join [] (u ∷ us) zs j n s are long_is size = absurd (omega (arith, are, long_is))
  lines_join [] [] zs j n s are long_is size = let b : ℕ = block_of s.words in let o : ℕ = count_of s.words in
      let same : take (s.size * 16) zs ≡ zs = take_all (s.size * 16) zs (omega (arith, size)) in
      qed 𝓛 (‵ ftrue ∷ ‵ (row b o zs) ∷ []) ∵ rewrite ! 1 (λ (l : List ℕ). ‵ (row b o l)) (sym same) refl $ move ! (1 ∷ 0 ∷ []) $ fjoin ! $ done !
  lines_join (x ∷ ss) us zs j n s are long_is size = let b : ℕ = block_of x.words in let o : ℕ = count_of x.words in let t : ℕ = x.size * 16 in
      let up = strips_up ss (j + x.size) n are.1 in let le : t ≤ length us = omega (arith, up, long_is) in let rest = length-drop t us in
      qed 𝓛 ((‵ (row b o (take t us)) ⊛ ‵ (lines ss (drop t us))) ∷ ‵ (row (block_of s.words) (count_of s.words) zs) ∷ []) ∵ split ! $ move ! (1 ∷ 2 ∷ []) $
      use2 𝓛 (‵ (lines (ss ++ s ∷ []) (drop t us ++ zs))) (lines_join ss (drop t us) zs (j + x.size) n s are.1 (omega (arith, long_is, rest, le)) size) $
      rewrite ! 0 (λ (l : List ℕ). ‵ (lines (ss ++ s ∷ []) l)) (sym (drop-append-le t us zs le)) refl $
      rewrite ! 1 (λ (l : List ℕ). ‵ (row b o l)) (sym (take-append-le t us zs le)) refl $ move ! (1 ∷ 0 ∷ []) $ fjoin ! $ done !

module _ {M : Type 1} {𝓤 : Ura M} (𝓛 : Logic 𝓤) (R : RattleType) (own : Pieces R.Denot) {V W : Type 0} (cv : ViewCode V) (holds : State R.Denot V W → Type 0) (keeps : V → V → W → ℕ
    → Type 0) (p : Ptr) (z : BaseId) where
  open 𝓛 use {H, A}

  abbrev Pr : Type 2
  Pr = SProp 𝓤

  abbrev ◌⊢◌ : Pr → Pr → Type 1
  P ⊢ Q = ent 𝓤 P Q

  abbrev ◌∗◌ : Pr → Pr → Pr
  P ∗ Q = sep 𝓤 P Q

  abbrev ⟦◌⟧ : Fml → Pr
  ⟦ P ⟧ = sem 𝓛 P

  infix 26 ◌⊢◌
  infixr 35 ◌∗◌
  abbrev α : Lft
  α = age z

  abbrev E : Fml
  E = everything R own cv holds (core_of z)

  abbrev I : Fml
  I = inner R own cv holds p z

  abbrev L : Fml
  L = is_listed p z

  abbrev Inv : Fml
  Inv = Moves.Inv 𝓛 R own cv holds keeps p z

  abbrev b : ℕ
  b = block_of z.doors

  abbrev o : ℕ
  o = 256 + count_of z.doors

  abbrev σ : ℕ
  σ = z.slots_name

  abbrev In : Type 0
  In = Inside R.Denot V W

  abbrev Ground : List ℕ → Fml
  Ground ws = ground (core_of z) ws

  abbrev Gates : List Strip → Fml
  Gates ss = gates (core_of z) ss

  abbrev Shut : In → List Strip → Pr
  Shut t ss = Shuts 𝓛 (core_of z) t.parts.words ss

  abbrev All : In → Fml
  All t = all_strips R α z.hands_name (lent_here R own cv holds p z) (had_here R own cv holds p z) (book_of z) (IsListed p z) t.parts.cells

  abbrev Ws : Parts R.Denot → Fml
  Ws = Moves.Ws 𝓛 R own cv holds keeps p z

  abbrev opened_item : In → types.Kit.Item 𝓤
  opened_item t = types.Kit.some (λ (ss : List Strip). given (AreAll 𝓛 (core_of z) t.parts.words ss)
      (‵ (row (block_of z.fixed) (count_of z.fixed) (take (long z.roots) t.parts.words)) ⊛ ‵ (lines ss (drop (long z.roots) t.parts.words))
      ⊛ (‵ (ledger strip_coded.code σ no_strip (no_strip ∷ ss)) ⊛ ‵ (Gates ss))))

  abbrev Led : In → Fml
  Led t = sitting α cv z.views_name t.blank t.views

  abbrev seat : ℕ → V → Fml
  seat = Moves.seat 𝓛 R own cv holds keeps p z

  abbrev gone_on : ℕ → (V → Type 0) → Fml
  gone_on = Moves.gone_on 𝓛 R own cv holds keeps p z

  module _ (id : ℕ) (v : V) where
    abbrev Stands : In → Type 0
    Stands = Moves.Stands 𝓛 R own cv holds keeps p z id v

    -- the seat has gone on, and the invariant is closed
    back_out : (t : In) (s : Parts R.Denot) (so : V → Type 0) → StaysSo cv.away v so → AreLaid z.roots z.count s → slice_get t.views id ≡ Some v
        → (g : Goes holds keeps (state_of z t) (memory_of z.roots s) id so) → ⟦ Ws s ⟧ ∗ ⟦ Led t ⟧ ∗ ⟦ seat id v ⟧ ⊢ upd 𝓤 (⟦ E ⟧ ∗ ⟦ gone_on id so ⟧)
    back_out t s so same laid at g = let Z : Pr = ⟦ E ⟧ ∗ ⟦ gone_on id so ⟧ in qed 𝓛 (‵ (Ws s) ∷ ‵ (Led t) ∷ ‵ (seat id v) ∷ []) ∵
        use3 𝓛 (raw (upd 𝓤 (⟦ I ⟧ ∗ ⟦ gone_on id so ⟧))) (Moves.back 𝓛 R own cv holds keeps p z id v t s so same laid at g) $
        settle 𝓛 Z (‵ I ⊛ ‵ (gone_on id so)) $ split ! $ suffices ! _ (upd_i 𝓤 Z) $ use1 𝓛 (‵ E) (Known.goes_out 𝓛 R own cv holds p z) $ done !

    -- all stays as it was
    stay_out : (t : In) → Stands t → ⟦ Ws t.parts ⟧ ∗ ⟦ Led t ⟧ ∗ ⟦ seat id v ⟧ ⊢ upd 𝓤 (⟦ E ⟧ ∗ ⟦ seat id v ⟧)
    stay_out t g = let Z : Pr = ⟦ E ⟧ ∗ ⟦ seat id v ⟧ in qed 𝓛 (‵ (Ws t.parts) ∷ ‵ (Led t) ∷ ‵ (seat id v) ∷ []) ∵ suffices ! _ (upd_i 𝓤 Z) $
        nothing ! $ fpack ! (holds (state_of z t) × AreLaid z.roots z.count t.parts) (λ _. ftrue) (g.0, g.1) $ move ! (1 ∷ 2 ∷ 0 ∷ []) $ fjoin3 ! $
        fpack ! In (standing R own cv holds p z) t $ use1 𝓛 (‵ E) (Known.goes_out 𝓛 R own cv holds p z) $ done !

    -- room is asked for, for the bucket behind the j-th door
    module _ (j e : ℕ) (few : j < 32) (at : e ≡ j * 8 + o) (so : Out R.Denot → V → Type 0) (same : StayAllSo cv.away v so)
        (law : Allows holds keeps id v (Room (suc j)) so) (q : Share) where
      abbrev pub Ok_so : Fml
      Ok_so = gone_on id (so (Roomed (Ok tt)))

      abbrev Dr : Strip → Fml
      Dr s = door σ IsBucket bucket_right b e j s

      long_is : (t : In) → length (memory_of z.roots t.parts).slots ≡ t.parts.slots
      long_is t = Rooms.slots_long t.parts.slots t.parts.words ((z.roots + z.roots) * 16)

      -- a bucket that is there, and one that isn't
      goes_there : (t : In) (ss : List Strip) → Stands t → AreBuckets z.roots t.parts.words ss → j < length ss
          → Goes holds keeps (state_of z t) (memory_of z.roots t.parts) id (so (Roomed (Ok tt)))
      goes_there t ss g are lt = let m : Mem R.Denot = memory_of z.roots t.parts in let l = long_is t in
          let ne = room_there z.roots t.parts.slots j t.parts.words ss g.1.slots_are are lt in
          (law (state_of z t) g.0 g.2).1 (Roomed (Ok tt)) m (Rooms.rooms_there z.roots z.count t.parts (suc j) m (λ q. ne (omega (arith, q, l))))

      next_is : (t : In) (ss : List Strip) → Stands t → AreBuckets z.roots t.parts.words ss → length ss ≤ j → (t.parts.slots + 32 ≡ capacity (suc j)) × (length ss ≡ j)
      next_is t ss g are past = let c = (law (state_of z t) g.0 g.2).0.1 in let l = long_is t in
          room_next z.roots t.parts.slots j t.parts.words ss g.1.slots_are are past (omega (arith, c, l))

      -- ---- A LOAD of the door: null, where the bucket isn't there. last: it is refused then
      abbrev pub answered : Bool → Ptr → Fml
      answered last (block_ptr c u) = fsep (fact (Testable (block_ptr c u))) Ok_so
      answered true null_ptr = gone_on id (so (Roomed (Err Memory)))
      answered false null_ptr = seat id v

      module _ (last : Bool) where
        abbrev F : Ptr → Pr
        F = PtrLies 𝓛 α q E b e Ptr (λ w. w) (λ w. w) (λ _. ftrue) (answered last)

        there : (t : In) (ss : List Strip) (s : Strip) → Stands t → AreBuckets z.roots t.parts.words ss → j < length ss → slice_get ss j ≡ Some s
            → ⟦ Gates ss ⟧ ∗ Shut t ss ∗ ⟦ All t ⟧ ∗ ⟦ Led t ⟧ ∗ ⟦ seat id v ⟧ ⊢ ex 𝓤 F
        there t ss s g are lt has = let B : Pr = wand 𝓤 ⟦ Dr s ⟧ ⟦ Gates ss ⟧ in let G : Fml = Ground t.parts.words in let St : Fml = stays σ (suc j) s in
            qed 𝓛 (‵ (Gates ss) ∷ raw (Shut t ss) ∷ ‵ (All t) ∷ ‵ (Led t) ∷ ‵ (seat id v) ∷ []) ∵
            use1 𝓛 (‵ (Dr s) ⊛ raw B) (Doors.door_at 𝓛 σ IsBucket bucket_right b ss o 32 0 j e j s at (omega arith) few has) $ split ! $ fsplit ! $
            move ! (1 ∷ []) $ fsplit ! $ fpick ! (λ is. leave ! $
            let w : Ptr = block_ptr (block_of s.words) (count_of s.words) in let here : s.words ≡ w = at_block s.words is.0 in
            -- [it stays, and the right; the cell; the other doors; the rest; the strips; the views; the seat]
            nothing ! $ fpack ! (IsBucket j s) (λ _. ftrue) is $ move ! (0 ∷ 1 ∷ []) $ fjoin ! $ move ! (1 ∷ []) $
            rewrite ! 0 (λ (x : Ptr). ‵ (cell b e x)) here refl $ show ! F w $ frame ! $ nothing ! $ frame ! $ assume ! (‵ (cell b e w)) $
            rewrite ! 0 (λ (x : Ptr). ‵ (cell b e x)) (sym here) refl $ fjoin ! $ move ! (0 ∷ 1 ∷ []) $ use2 𝓛 (‵ (Gates ss)) (apply∗ 𝓤 ⟦ Dr s ⟧ ⟦ Gates ss ⟧) $
            use2 𝓛 (‵ G) (apply∗ 𝓤 ⟦ Gates ss ⟧ ⟦ G ⟧) $ fjoin ! $ let Z : Pr = ⟦ E ⟧ ∗ ⟦ answered last w ⟧ in
            use3 𝓛 (raw (upd 𝓤 (⟦ E ⟧ ∗ ⟦ Ok_so ⟧))) (back_out t t.parts (so (Roomed (Ok tt))) (same (Roomed (Ok tt))) g.1 g.2 (goes_there t ss g are lt)) $
            settle 𝓛 Z (‵ E ⊛ ‵ Ok_so) $ split ! $ suffices ! _ (upd_i 𝓤 Z) $ frame ! $
            nothing ! $ fpack ! (Testable w) (λ _. ftrue) (subst Testable here is.1) $ fjoin ! $ done !)

        none : (t : In) (ss : List Strip) → Stands t → AreBuckets z.roots t.parts.words ss → length ss ≤ j
            → ⟦ Gates ss ⟧ ∗ Shut t ss ∗ ⟦ All t ⟧ ∗ ⟦ Led t ⟧ ∗ ⟦ seat id v ⟧ ⊢ ex 𝓤 F
        none t ss g are past = let N : Fml = cell b e null_ptr in let B : Pr = wand 𝓤 ⟦ N ⟧ ⟦ Gates ss ⟧ in let G : Fml = Ground t.parts.words in
            qed 𝓛 (‵ (Gates ss) ∷ raw (Shut t ss) ∷ ‵ (All t) ∷ ‵ (Led t) ∷ ‵ (seat id v) ∷ []) ∵
            use1 𝓛 (‵ N ⊛ raw B) (Doors.door_null 𝓛 σ IsBucket bucket_right b ss o 32 0 j e at few past) $ split ! $
            show ! F null_ptr $ frame ! $ nothing ! $ frame ! $ assume ! (‵ N) $ use2 𝓛 (‵ (Gates ss)) (apply∗ 𝓤 ⟦ N ⟧ ⟦ Gates ss ⟧) $
            use2 𝓛 (‵ G) (apply∗ 𝓤 ⟦ Gates ss ⟧ ⟦ G ⟧) $ fjoin ! $ by ! (ends last)
          where
            ends : (y : Bool) → ⟦ Ws t.parts ⟧ ∗ ⟦ Led t ⟧ ∗ ⟦ seat id v ⟧ ⊢ upd 𝓤 (⟦ E ⟧ ∗ ⟦ answered y null_ptr ⟧)
            ends true = let m : Mem R.Denot = memory_of z.roots t.parts in let l = long_is t in let n = (next_is t ss g are past).0 in
                back_out t t.parts (so (Roomed (Err Memory))) (same (Roomed (Err Memory))) g.1 g.2
                ((law (state_of z t) g.0 g.2).1 (Roomed (Err Memory)) m (Rooms.rooms_refused z.roots z.count t.parts (suc j) m (omega (arith, l, n))))
            ends false = stay_out t g

        either : ⟦ E ⟧ ∗ ⟦ L ⟧ ∗ ⟦ seat id v ⟧ ⊢ ex 𝓤 F
        either = qed 𝓛 (‵ E ∷ ‵ L ∷ ‵ (seat id v) ∷ []) ∵ use2 𝓛 (‵ I) (Known.comes_in 𝓛 R own cv holds p z) $
            use2 𝓛 (Moves.opening 𝓛 R own cv holds keeps p z id v) (Moves.opened 𝓛 R own cv holds keeps p z id v) $ pick ! (λ t. learn ! (λ g. split3 ! $ fsplit ! $
            use1 𝓛 (apart_item 𝓛 (core_of z) t.parts.words) (gates_apart 𝓛 (core_of z) t.parts.words) $ pick ! (λ ss. learn ! (λ are. split ! $
            by ! (cases t ss g are.0 (at_or_not ss j))))))
          where
            cases : (t : In) (ss : List Strip) → Stands t → AreBuckets z.roots t.parts.words ss → ((s : Strip) × (slice_get ss j ≡ Some s)) ⊎ (length ss ≤ j)
                → ⟦ Gates ss ⟧ ∗ Shut t ss ∗ ⟦ All t ⟧ ∗ ⟦ Led t ⟧ ∗ ⟦ seat id v ⟧ ⊢ ex 𝓤 F
            cases t ss g are (inl has) = there t ss has.0 g are (within ss j has.0 has.1) has.1
            cases t ss g are (inr past) = none t ss g are past

        pub asks : ⟦ Inv ⟧ ∗ (A.lft α q ∗ ⟦ seat id v ⟧) ⊢ asks_ptr 𝓛 (block_ptr b e) (λ w. w) (λ w. fsep (flft α q) (answered last w))
        asks = qed 𝓛 (‵ Inv ∷ (‵ (flft α q) ⊛ ‵ (seat id v)) ∷ []) ∵ fsplit ! $ move ! (1 ∷ []) $ use1 𝓛 (‵ (finv (fbor α E))) (Stretches.plain 𝓛 IsEven (fbor α E)) $
            move ! (2 ∷ []) $ split ! $
            -- [the token; the seat; the invariant; what is listed]
            move ! (2 ∷ 0 ∷ 3 ∷ 1 ∷ []) $
            by ! (borrowed_ptr 𝓛 α q E b e Ptr (λ w. w) (λ w. w) (λ _. ftrue) (answered last) (⟦ L ⟧ ∗ ⟦ seat id v ⟧)
            (qed 𝓛 (‵ E ∷ (‵ L ⊛ ‵ (seat id v)) ∷ []) ∵ suffices ! _ (upd_i 𝓤 (ex 𝓤 F)) $ move ! (1 ∷ []) $ split ! $ move ! (2 ∷ 0 ∷ 1 ∷ []) $ by ! either))

      -- ---- AN EXCHANGE of null for the address of the bucket's words, each 0
      module _ (r₀ : Ptr) (lies : InBlock r₀) (test : Testable r₀) where
        abbrev s : Strip
        s = bucket_at (suc j) r₀

        abbrev zs : List ℕ
        zs = replicate (capacity (suc j) * 16) 0

        is_bucket : IsBucket j s
        is_bucket = (lies, test, refl)

        abbrev Zeros : Fml
        Zeros = row (block_of r₀) (count_of r₀) zs

        -- its words, and the right to give their memory back
        abbrev pub Own : Fml
        Own = fsep Zeros (bucket_right s)

        abbrev pub won : Ptr → Fml
        won w = Ok_so

        abbrev pub lost : Ptr → Fml
        lost w = fsep Own Ok_so

        abbrev G : Ptr × Bool → Pr
        G = Compared 𝓛 α q E b e null_ptr r₀ won lost

        -- it was set before
        misses : (t : In) (ss : List Strip) (u : Strip) → Stands t → AreBuckets z.roots t.parts.words ss → j < length ss → slice_get ss j ≡ Some u
            → ⟦ Gates ss ⟧ ∗ Shut t ss ∗ ⟦ All t ⟧ ∗ ⟦ Led t ⟧ ∗ ⟦ seat id v ⟧ ∗ ⟦ Own ⟧ ⊢ ex 𝓤 G
        misses t ss u g are lt has = let B : Pr = wand 𝓤 ⟦ Dr u ⟧ ⟦ Gates ss ⟧ in let K : Fml = Ground t.parts.words in
            qed 𝓛 (‵ (Gates ss) ∷ raw (Shut t ss) ∷ ‵ (All t) ∷ ‵ (Led t) ∷ ‵ (seat id v) ∷ ‵ Own ∷ []) ∵
            use1 𝓛 (‵ (Dr u) ⊛ raw B) (Doors.door_at 𝓛 σ IsBucket bucket_right b ss o 32 0 j e j u at (omega arith) few has) $ split ! $ fsplit ! $
            move ! (1 ∷ []) $ fsplit ! $ fpick ! (λ is. leave ! $
            let w : Ptr = block_ptr (block_of u.words) (count_of u.words) in let here : u.words ≡ w = at_block u.words is.0 in let tested : Testable w = subst Testable here is.1 in
            let Z : Pr = ⟦ E ⟧ ∗ ⟦ lost w ⟧ in
            -- [it stays, and the right; the cell; the other doors; the rest; the strips; the views; the seat; one's own]
            nothing ! $ fpack ! (IsBucket j u) (λ _. ftrue) is $ move ! (0 ∷ 1 ∷ []) $ fjoin ! $ move ! (1 ∷ []) $
            rewrite ! 0 (λ (x : Ptr). ‵ (cell b e x)) here refl $ show ! G (w, false) $ frame ! $
            use0 𝓛 (‵ (alike w null_ptr false)) (alike_null 𝓛 w tested) $ frame ! $ assume ! (‵ (cell b e w)) $
            rewrite ! 0 (λ (x : Ptr). ‵ (cell b e x)) (sym here) refl $ fjoin ! $ move ! (0 ∷ 1 ∷ []) $ use2 𝓛 (‵ (Gates ss)) (apply∗ 𝓤 ⟦ Dr u ⟧ ⟦ Gates ss ⟧) $
            use2 𝓛 (‵ K) (apply∗ 𝓤 ⟦ Gates ss ⟧ ⟦ K ⟧) $ fjoin ! $
            use3 𝓛 (raw (upd 𝓤 (⟦ E ⟧ ∗ ⟦ Ok_so ⟧))) (back_out t t.parts (so (Roomed (Ok tt))) (same (Roomed (Ok tt))) g.1 g.2 (goes_there t ss g are lt)) $
            settle 𝓛 Z (‵ E ⊛ ‵ Ok_so) $ split ! $ suffices ! _ (upd_i 𝓤 Z) $ frame ! $ move ! (1 ∷ 0 ∷ []) $ fjoin ! $ done !)

        -- it is null: whoever sets it has the bucket join
        sets : (t : In) → Stands t → (ss : List Strip) → AreBuckets z.roots t.parts.words ss → Doors.AllAre 𝓛 σ IsBucket bucket_right b 0 ss → length ss ≤ j
            → ⟦ row (block_of z.fixed) (count_of z.fixed) (take (long z.roots) t.parts.words) ⟧ ∗ ⟦ lines ss (drop (long z.roots) t.parts.words) ⟧
            ∗ ⟦ ledger strip_coded.code σ no_strip (no_strip ∷ ss) ⟧ ∗ ⟦ Gates ss ⟧ ∗ ⟦ All t ⟧ ∗ ⟦ Led t ⟧ ∗ ⟦ seat id v ⟧ ∗ ⟦ Own ⟧ ⊢ ex 𝓤 G
        sets t g ss are every past =
            let P = Doors.Sets 𝓛 σ IsBucket bucket_right b o 32 0 ss e j in let N : Fml = cell b e null_ptr in let n = next_is t ss g are past in let last = n.1 in
            let us : List Strip = ss ++ s ∷ [] in let ws : List ℕ = t.parts.words in let K : ℕ = long z.roots in let fits = g.1.all in
            let Bk : List Strip → Fml = λ l. ledger strip_coded.code σ no_strip (no_strip ∷ l) in let Sh : Share → Fml = λ x. seen strip_coded.code σ x (suc j) s in
            let Row : List ℕ → Fml = λ l. row (block_of z.fixed) (count_of z.fixed) l in let Z : Pr = ⟦ E ⟧ ∗ ⟦ won null_ptr ⟧ in
            let size : length zs ≡ capacity (suc j) * 16 = length-replicate (capacity (suc j) * 16) 0 in let least = capacity_least (suc (length ss)) in
            let follows = buckets_follow 𝓛 (core_of z) ss every in let beyond = length-drop K ws in let a = are.1 in
            let first : take K (ws ++ zs) ≡ take K ws = take-append-le K ws zs fits in let rest : drop K (ws ++ zs) ≡ drop K ws ++ zs = drop-append-le K ws zs fits in
            let more : AreBuckets z.roots (ws ++ zs) us = many ss are last size in
            let joined = Rooms.rooms_made z.roots z.count t.parts (suc j) g.1 (λ q. omega (arith, q)) (omega (arith, few)) n.0 in
            let then : Parts R.Denot = Rooms.with_bucket_of z.roots z.count t.parts (suc j) in
            qed 𝓛 (‵ (Row (take K ws)) ∷ ‵ (lines ss (drop K ws)) ∷ ‵ (Bk ss) ∷ ‵ (Gates ss) ∷ ‵ (All t) ∷ ‵ (Led t) ∷ ‵ (seat id v) ∷ ‵ Own ∷ []) ∵ move ! (3 ∷ []) $
            use1 𝓛 (‵ N ⊛ raw (all 𝓤 P))
            (Doors.door_next 𝓛 σ IsBucket bucket_right b ss o 32 0 e j (omega (arith, at, last)) (omega (arith, last)) (omega (arith, last, few))) $ split ! $
            show ! G (null_ptr, true) $ frame ! $ use0 𝓛 (‵ (alike null_ptr null_ptr true)) (alike_null 𝓛 null_ptr (lit< tt)) $ frame ! $
            assume ! (‵ (cell b e r₀)) $ move ! (1 ∷ []) $ use1 𝓛 (raw (P s)) (all_e 𝓤 P s) $ move ! (8 ∷ []) $ fsplit ! $
            -- [its words; the right; the other doors; the cell; the first words; the buckets; the list; the strips; the views; the seat]
            move ! (6 ∷ []) $ use1 𝓛 (raw (upd 𝓤 (⟦ Bk us ⟧ ∗ ⟦ seen strip_coded.code σ three_quarters (suc (length ss)) s ⟧))) (Ledgers.comes 𝓛 strip_coded σ no_strip (no_strip ∷ ss) s) $
            settle 𝓛 Z (‵ (Bk us) ⊛ ‵ (seen strip_coded.code σ three_quarters (suc (length ss)) s)) $ split ! $ move ! (1 ∷ []) $
            rewrite ! 0 (λ (k : ℕ). ‵ (seen strip_coded.code σ three_quarters (suc k) s)) last refl $ fpack ! Share Sh three_quarters $
            -- [it stays; the list; its words; the right; the other doors; the cell; the first words; the buckets; the strips; the views; the seat]
            move ! (0 ∷ 3 ∷ []) $ fjoin ! $ nothing ! $ fpack ! (IsBucket j s) (λ _. ftrue) is_bucket $ fjoin ! $ move ! (4 ∷ 0 ∷ []) $ fjoin ! $ move ! (0 ∷ 3 ∷ []) $
            use2 𝓛 (‵ (Gates us)) (apply∗ 𝓤 ⟦ Dr s ⟧ ⟦ Gates us ⟧) $
            -- [the doors; the list; its words; the first words; the buckets; the strips; the views; the seat]
            move ! (1 ∷ 0 ∷ []) $ fjoin ! $ move ! (3 ∷ 1 ∷ []) $
            use2 𝓛 (‵ (lines us (drop K ws ++ zs)))
            (lines_join 𝓛 ss (drop K ws) zs 32 (capacity (suc (length ss)) - 32) s follows (omega (arith, a, least, beyond)) size) $
            rewrite ! 0 (λ (l : List ℕ). ‵ (lines us l)) (sym rest) refl $ move ! (2 ∷ []) $ rewrite ! 0 (λ (l : List ℕ). ‵ (Row l)) (sym first) refl $ fjoin ! $
            -- [the words; the list and the doors; the strips; the views; the seat]
            nothing ! $ fpack ! (AreBuckets z.roots (ws ++ zs) us) (λ _. ftrue) more $ move ! (2 ∷ 0 ∷ []) $ fjoin ! $ move ! (1 ∷ 0 ∷ []) $ fjoin ! $
            fpack ! (List Strip) (ground_of (core_of z) (ws ++ zs)) us $ fjoin ! $
            by ! (back_out t then (so (Roomed (Ok tt))) (same (Roomed (Ok tt))) joined.0 g.2
            ((law (state_of z t) g.0 g.2).1 (Roomed (Ok tt)) (memory_of z.roots then) joined.1))
          where
            many : (ss : List Strip) → AreBuckets z.roots t.parts.words ss → length ss ≡ j → length zs ≡ capacity (suc j) * 16 → AreBuckets z.roots (t.parts.words ++ zs) (ss ++ s ∷ [])
            many ss are last size =
                let l : length (ss ++ s ∷ []) ≡ length ss + 1 = length-append ss (s ∷ []) in let w = length-append t.parts.words zs in let a = are.1 in
                let n : suc (length (ss ++ s ∷ [])) ≡ suc (suc j) = omega (arith, l, last) in let c : capacity (suc (length (ss ++ s ∷ []))) ≡ capacity (suc (suc j)) = ap capacity n in
                let d : capacity (suc (length ss)) ≡ capacity (suc j) = ap (λ (k : ℕ). capacity (suc k)) last in let t = capacity_twice (suc j) in
                (omega (arith, l, last, few), omega (arith, w, size, a, c, d, t))

        either_way : ⟦ E ⟧ ∗ ⟦ L ⟧ ∗ ⟦ seat id v ⟧ ∗ ⟦ Own ⟧ ⊢ ex 𝓤 G
        either_way = qed 𝓛 (‵ E ∷ ‵ L ∷ ‵ (seat id v) ∷ ‵ Own ∷ []) ∵ use2 𝓛 (‵ I) (Known.comes_in 𝓛 R own cv holds p z) $
            use2 𝓛 (Moves.opening 𝓛 R own cv holds keeps p z id v) (Moves.opened 𝓛 R own cv holds keeps p z id v) $ pick ! (λ t. learn ! (λ g. split3 ! $ fsplit ! $
            use1 𝓛 (opened_item t) (ground_opens 𝓛 (core_of z) t.parts.words) $ pick ! (λ ss. learn ! (λ are. split3 ! $ move ! (2 ∷ []) $ split ! $ move ! (2 ∷ 3 ∷ 0 ∷ 1 ∷ []) $
            by ! (cases t g ss are.0 are.1 (at_or_not ss j))))))
          where
            cases : (t : In) → Stands t → (ss : List Strip) → AreBuckets z.roots t.parts.words ss → Doors.AllAre 𝓛 σ IsBucket bucket_right b 0 ss
                → ((u : Strip) × (slice_get ss j ≡ Some u)) ⊎ (length ss ≤ j)
                → ⟦ row (block_of z.fixed) (count_of z.fixed) (take (long z.roots) t.parts.words) ⟧ ∗ ⟦ lines ss (drop (long z.roots) t.parts.words) ⟧
                ∗ ⟦ ledger strip_coded.code σ no_strip (no_strip ∷ ss) ⟧ ∗ ⟦ Gates ss ⟧ ∗ ⟦ All t ⟧ ∗ ⟦ Led t ⟧ ∗ ⟦ seat id v ⟧ ∗ ⟦ Own ⟧ ⊢ ex 𝓤 G
            cases t g ss are every (inr past) = sets t g ss are every past
            cases t g ss are every (inl has) =
                qed 𝓛 (‵ (row (block_of z.fixed) (count_of z.fixed) (take (long z.roots) t.parts.words)) ∷ ‵ (lines ss (drop (long z.roots) t.parts.words))
                ∷ ‵ (ledger strip_coded.code σ no_strip (no_strip ∷ ss)) ∷ ‵ (Gates ss) ∷ ‵ (All t) ∷ ‵ (Led t) ∷ ‵ (seat id v) ∷ ‵ Own ∷ []) ∵
                move ! (0 ∷ 1 ∷ 2 ∷ []) $ types.Kit.group ! 3 $ use1 𝓛 (raw (Shut t ss)) (shuts_by 𝓛 (core_of z) t.parts.words ss are) $ move ! (1 ∷ 0 ∷ []) $
                by ! (misses t ss has.0 g are (within ss j has.0 has.1) has.1)

        pub offers : ⟦ Inv ⟧ ∗ (A.lft α q ∗ (⟦ seat id v ⟧ ∗ ⟦ Own ⟧))
            ⊢ compares 𝓛 (block_ptr b e) null_ptr r₀ (λ w. fsep (flft α q) (won w)) (λ w. fsep (flft α q) (lost w))
        offers = qed 𝓛 (‵ Inv ∷ (‵ (flft α q) ⊛ (‵ (seat id v) ⊛ ‵ Own)) ∷ []) ∵ fsplit ! $ move ! (1 ∷ []) $
            use1 𝓛 (‵ (finv (fbor α E))) (Stretches.plain 𝓛 IsEven (fbor α E)) $ move ! (2 ∷ []) $ split ! $
            -- [the token; the seat and one's own; the invariant; what is listed]
            move ! (2 ∷ 0 ∷ 3 ∷ 1 ∷ []) $
            by ! (borrowed_compares 𝓛 α q E b e null_ptr r₀ won lost (⟦ L ⟧ ∗ (⟦ seat id v ⟧ ∗ ⟦ Own ⟧))
            (qed 𝓛 (‵ E ∷ (‵ L ⊛ (‵ (seat id v) ⊛ ‵ Own)) ∷ []) ∵ suffices ! _ (upd_i 𝓤 (ex 𝓤 G)) $ move ! (1 ∷ []) $ split ! $ move ! (1 ∷ []) $ split ! $
            move ! (3 ∷ 2 ∷ 0 ∷ 1 ∷ []) $ by ! either_way))
