-- What seats do to the words and the views, under any rule: one step on a word, a step without an operation, and a seat that comes. Assumes `Logic`.
use Rattle.std.specs.Prelude.{slice_get}
use Rattle.std.proofs.Common.{◌≡◌, ◌⊎◌, ℕ, ◌+◌, ◌*◌, ◌<◌, List, [], ◌∷◌, ◌++◌, length, set, sym, refl, ap, ◌∙◌, Some, None, Err}
use mathlib.Core.List.{not-mem-nil}
use seplogic.Ra.Ura.{Ura}
use base.Share.{three_quarters}
use base.Logic.{SProp, ent, sep, ex, all, guard, upd, emp, id⊢, via, apply∗, all_e, upd_i}
use base.Fml.{Lft, Share, Fml, ftrue, fsep, fex, flft, fbor, fnamed}
use types.Logic.{Logic, sem}
use types.Kit.{‵, raw, ◌⊛◌, some as items, given, later, ◌$◌, ◌∵◌, !, qed, by, move, drop, split, split3, fsplit, fsplit3, fjoin, fjoin3, fpick, fpack, pick, learn, check, show, frame, each, assume, suffices, settle, use0, use1, use2, use3, updating, await, now, done}
use types.Tokens.{shr_bor-open, obor_close}
use types.Within.{tokens_halve}
use denote.RattleType.{RattleType}
use denote.RawPtr.{Ptr, block_ptr, block_of, count_of}
use denote.Steps.{nothing}
use Rattle.core.specs.Sync.RawAtomic.{word, asks, always}
use Rattle.core.proofs.raw_atomic.Asked.{Lies, Again}
use Rattle.seize_words.specs.OneMemory.Mem.{word_at, with_word}
use Rattle.seize_words.specs.OneMemory.Op.{Op, Out, Make, Made, Room, Roomed}
use Rattle.seize_words.specs.declared.at.At.{At}
use Rattle.seize_seats.specs.Seats.State.{State, Goes, Allows, Turns, Comes}
use Rattle.seize_seats.specs.Seats.Lines.{Parts, memory_of, AreLaid}
use Rattle.seize_seats.specs.Seats.Steps.{IsStepOf, roomed}
use Rattle.seize_seats.specs.Seats.Errands.{ViewCode, StaysSo, StayAllSo}
use Rattle.seize_seats.specs.Seats.Owned.{Pieces, fact, sitting, BaseId, age, core_of, place_in, IsIn, Inside, state_of, standing, inner, everything, is_listed, words_share, lent_here, had_here, seen}
use Rattle.seize_seats.specs.Seats.Owned as Owned
use Rattle.seize_seats.proofs.Seats.Places.Numbers as Numbers
use Rattle.seize_seats.proofs.Seats.Views.Sitters as Sitters
use Rattle.seize_seats.proofs.Seats.Views.Known as Known
use Rattle.seize_seats.proofs.Seats.Growing.Rooms as Rooms
use Rattle.seize_seats.specs.Seats.Cells.{Body}

module _ {M : Type 1} {𝓤 : Ura M} (𝓛 : Logic 𝓤) (R : RattleType) (own : Pieces R.Denot) {V W : Type 0} (cv : ViewCode V) (holds : State R.Denot V W → Type 0) (keeps : V → V → W → ℕ
    → Type 0) (p : Ptr) (z : BaseId) where
  open 𝓛 use {H, A}

  abbrev Pr : Type 2
  Pr = SProp 𝓤

  abbrev ◌⊢◌ : Pr → Pr → Type 1
  P ⊢ Q = ent 𝓤 P Q

  abbrev ◌∗◌ : Pr → Pr → Pr
  P ∗ Q = sep 𝓤 P Q

  abbrev ⟦◌⟧ : Fml → Pr
  ⟦ P ⟧ = sem 𝓛 P

  infix 26 ◌⊢◌
  infixr 35 ◌∗◌
  abbrev α : Lft
  α = age z

  abbrev I : Fml
  I = inner R own cv holds p z

  abbrev pub Inv : Fml
  Inv = Owned.told R own cv holds p z

  abbrev b : ℕ
  b = block_of p

  abbrev o : ℕ
  o = count_of p

  abbrev pub lent : ℕ → Body R.Denot → ℕ → ℕ → Fml
  lent = lent_here R own cv holds p z

  abbrev pub had : ℕ → ℕ → Body R.Denot → Fml
  had = had_here R own cv holds p z

  -- the words, and what lies under the numbers
  abbrev pub Ws : Parts R.Denot → Fml
  Ws s = Numbers.Ws 𝓛 R p z lent had s.words s.cells

  abbrev Led : V → List V → Fml
  Led = sitting α cv z.views_name

  abbrev pub seat : ℕ → V → Fml
  seat id v = seen cv.code z.views_name three_quarters id v

  abbrev At_inside : Inside R.Denot V W → Fml
  At_inside = standing R own cv holds p z

  -- the seat, at a view of which this is so
  abbrev pub next : ℕ → (V → Type 0) → V → Fml
  next id so w = fsep (fact (so w)) (seat id w)

  abbrev pub gone_on : ℕ → (V → Type 0) → Fml
  gone_on id so = fex V (next id so)

  module _ (id : ℕ) (v : V) where
    -- the memory as it is then, the views and the seat make the invariant again
    pub back : (t : Inside R.Denot V W) (s : Parts R.Denot) (so : V → Type 0) → StaysSo cv.away v so → AreLaid z.roots z.count s → slice_get t.views id ≡ Some v
        → (g : Goes holds keeps (state_of z t) (memory_of z.roots s) id so)
        → ⟦ Ws s ⟧ ∗ ⟦ Led t.blank t.views ⟧ ∗ ⟦ seat id v ⟧ ⊢ upd 𝓤 (⟦ I ⟧ ∗ ⟦ gone_on id so ⟧)
    back t s so same laid at g = let Z : Pr = ⟦ I ⟧ ∗ ⟦ gone_on id so ⟧ in let w : V = g.0 in let us : List V = set t.views id w in
        let n : Inside R.Denot V W = record { parts = s; blank = t.blank; views = us; world = g.1 } in
        qed 𝓛 (‵ (Ws s) ∷ ‵ (Led t.blank t.views) ∷ ‵ (seat id v) ∷ []) ∵ move ! (1 ∷ 2 ∷ []) $
        use2 𝓛 (raw (upd 𝓤 (⟦ Led t.blank us ⟧ ∗ ⟦ seat id w ⟧))) (Sitters.turns 𝓛 α cv z.views_name t.blank t.views id v w at (same w g.4)) $
        settle 𝓛 Z (‵ (Led t.blank us) ⊛ ‵ (seat id w)) $ split ! $ suffices ! _ (upd_i 𝓤 Z) $
        nothing ! $ fpack ! (holds (state_of z n) × AreLaid z.roots z.count s) (λ _. ftrue) (g.2, laid) $ move ! (3 ∷ 1 ∷ 0 ∷ []) $ fjoin3 ! $
        fpack ! (Inside R.Denot V W) At_inside n $ frame ! $
        nothing ! $ fpack ! (so w) (λ _. ftrue) g.4 $ fjoin ! $ fpack ! V (next id so) w $ done !

    -- the state, as the seat sees it
    abbrev pub Stands : Inside R.Denot V W → Type 0
    Stands t = holds (state_of z t) × AreLaid z.roots z.count t.parts × (slice_get t.views id ≡ Some v)

    abbrev pub Open : Inside R.Denot V W → Pr
    Open t = guard 𝓤 (Stands t) (⟦ Ws t.parts ⟧ ∗ ⟦ Led t.blank t.views ⟧ ∗ ⟦ seat id v ⟧)

    pub opened : ⟦ I ⟧ ∗ ⟦ seat id v ⟧ ⊢ ex 𝓤 Open
    opened = qed 𝓛 (‵ I ∷ ‵ (seat id v) ∷ []) ∵ fpick ! (λ t. fsplit3 ! $ move ! (2 ∷ []) $ fpick ! (λ so. drop ! $ move ! (1 ∷ 2 ∷ []) $
        use2 𝓛 (given (slice_get t.views id ≡ Some v) (‵ (Led t.blank t.views) ⊛
        ‵ (seat id v))) (Sitters.sits 𝓛 α cv z.views_name t.blank t.views id three_quarters v) $ learn ! (λ at. split ! $
        show ! Open t $ check ! (so.0, so.1, at) $ move ! (2 ∷ 0 ∷ 1 ∷ []) $ done !)))

    abbrev pub opening : types.Kit.Item 𝓤
    opening = items (λ (t : Inside R.Denot V W). given (Stands t) (‵ (Ws t.parts) ⊛ ‵ (Led t.blank t.views) ⊛ ‵ (seat id v)))

    -- No word changes: the seat goes on without an operation, or with one that makes no step on a word.
    module _ (so : V → Type 0) (same : StaysSo cv.away v so) (law : (t : Inside R.Denot V W) → Stands t
        → (slots : ℕ) × AreLaid z.roots z.count (Rooms.with_slots z.roots z.count t.parts 0 slots)
        × Goes holds keeps (state_of z t) (memory_of z.roots (Rooms.with_slots z.roots z.count t.parts 0 slots)) id so) where
      moves : ⟦ I ⟧ ∗ ⟦ seat id v ⟧ ⊢ upd 𝓤 (⟦ I ⟧ ∗ ⟦ gone_on id so ⟧)
      moves = qed 𝓛 (‵ I ∷ ‵ (seat id v) ∷ []) ∵ use2 𝓛 opening opened $
          pick ! (λ t. learn ! (λ f. let r = law t f in by ! (back t (Rooms.with_slots z.roots z.count t.parts 0 r.0) so same r.1 f.2 r.2)))

  -- the invariant is opened once, and no step is taken
  pub reach : (q : Share) (K Q : Pr) → ⟦ I ⟧ ∗ K ⊢ upd 𝓤 (⟦ I ⟧ ∗ Q) → ⟦ Inv ⟧ ∗ A.lft α q ∗ K ⊢ H.⇛ (Q ∗ A.lft α q)
  reach q K Q go = qed 𝓛 (‵ Inv ∷ ‵ (flft α q) ∷ raw K ∷ []) ∵ fsplit ! $ move ! (1 ∷ []) $ fpick ! (λ n. fsplit ! $ fpick ! (λ is. drop ! $
      move ! (0 ∷ 2 ∷ []) $ by ! (named n)))
    where
      E : Fml
      E = everything R own cv holds (core_of z)

      K' : Pr
      K' = ⟦ is_listed p z ⟧ ∗ K

      named : (n : ℕ) → A.named n (fbor α E) ∗ A.lft α q ∗ K' ⊢ H.⇛ (Q ∗ A.lft α q)
      named n = let Z : Pr = ⟦ E ⟧ ∗ emp 𝓤 ∗ Q in via 𝓤 _ (qed 𝓛 (‵ (fnamed n (fbor α E)) ∷ ‵ (flft α q) ∷ raw K' ∷ []) ∵ use0 𝓛 (‵ ftrue) (id⊢ 𝓤 (emp 𝓤)) $
          move ! (1 ∷ 0 ∷ []) $ fjoin ! $ frame ! $ frame ! $
          assume ! (‵ E ⊛ ‵ ftrue) $ split ! $ move ! (0 ∷ 2 ∷ []) $ use2 𝓛 (raw (upd 𝓤 (⟦ E ⟧ ∗ Q))) (Known.within 𝓛 R own cv holds p z K Q go) $
          settle 𝓛 Z (‵ E ⊛ raw Q) $ split ! $ suffices ! _ (upd_i 𝓤 Z) $ frame ! $ move ! (1 ∷ 0 ∷ []) $ done !)
          (𝓛.invs.invs_bor_acc n α q E [] Q ((λ m. not-mem-nil m), tt))

  -- the same by what a `&` to the words has
  module _ (κ : Lft) (q : Share) (K Q : Pr) (go : ⟦ I ⟧ ∗ K ⊢ upd 𝓤 (⟦ I ⟧ ∗ Q)) where
    pub reaches : ⟦ words_share R own cv holds p z κ ⟧ ∗ A.lft κ q ∗ K ⊢ H.⇛ (Q ∗ A.lft κ q)
    reaches = qed 𝓛 (‵ (words_share R own cv holds p z κ) ∷ ‵ (flft κ q) ∷ raw K ∷ []) ∵ updating ! $ fsplit ! $ move ! (1 ∷ []) $ fsplit ! $ drop ! $
        -- [the invariant; its lifetime lasts; the token; K]
        move ! (1 ∷ 2 ∷ []) $ shr_bor-open ! tt (tokens_halve 𝓛 α) (λ s. move ! (2 ∷ 1 ∷ 3 ∷ []) $
        use3 𝓛 (later (raw Q ⊛ ‵ (flft α s))) (reach s K Q go) $ await ! tt $ split ! $ move ! (2 ∷ 1 ∷ []) $ obor_close ! tt $ drop ! $ now ! $
        move ! (1 ∷ 0 ∷ []) $ done !)

  -- a step without an operation
  pub turns : (κ : Lft) (q : Share) (id : ℕ) (v : V) (so : V → Type 0) → StaysSo cv.away v so → Turns holds keeps id v so
      → ⟦ words_share R own cv holds p z κ ⟧ ∗ A.lft κ q ∗ ⟦ seat id v ⟧ ⊢ H.⇛ (⟦ gone_on id so ⟧ ∗ A.lft κ q)
  turns κ q id v so same law = reaches κ q ⟦ seat id v ⟧ ⟦ gone_on id so ⟧ (moves id v so same (λ t f. (t.parts.slots, f.1, law (state_of z t) f.0 f.2)))

  -- room is asked for, for the first bucket or for one that has no door
  pub rooms : (κ : Lft) (q : Share) (id : ℕ) (v : V) (bucket : ℕ) → (bucket ≡ 0) ⊎ (32 < bucket) → (so : Out R.Denot → V → Type 0) → StayAllSo cv.away v so
      → Allows holds keeps id v (Room bucket) so
      → ⟦ words_share R own cv holds p z κ ⟧ ∗ A.lft κ q ∗ ⟦ seat id v ⟧ ⊢ H.⇛ (⟦ gone_on id (so (Roomed (roomed bucket))) ⟧ ∗ A.lft κ q)
  rooms κ q id v bucket which so same law = reaches κ q ⟦ seat id v ⟧ ⟦ gone_on id (so (Roomed (roomed bucket))) ⟧ (moves id v (so (Roomed (roomed bucket))) (same (Roomed (roomed bucket))) (λ t f.
      let a = law (state_of z t) f.0 f.2 in let r = Rooms.rooms z.roots z.count t.parts bucket f.1 which a.0 in
      (r.0, r.1, a.1 (Roomed (roomed bucket)) (memory_of z.roots (Rooms.with_slots z.roots z.count t.parts bucket r.0)) r.2)))

  -- a block is refused, and its value stays with its maker
  pub refuses : (κ : Lft) (q : Share) (id : ℕ) (v : V) (x : R.Denot) (words : ℕ) (so : Out R.Denot → V → Type 0) → StayAllSo cv.away v so → Allows holds keeps id v (Make x words) so
      → ⟦ words_share R own cv holds p z κ ⟧ ∗ A.lft κ q ∗ ⟦ seat id v ⟧ ⊢ H.⇛ (⟦ gone_on id (so (Made (Err x))) ⟧ ∗ A.lft κ q)
  refuses κ q id v x words so same law = reaches κ q ⟦ seat id v ⟧ ⟦ gone_on id (so (Made (Err x))) ⟧ (moves id v (so (Made (Err x))) (same (Made (Err x))) (λ t f.
      (t.parts.slots, f.1, (law (state_of z t) f.0 f.2).1 (Made (Err x)) (memory_of z.roots t.parts) (refl, refl))))

  -- a seat comes
  abbrev pub newcomer : V → Fml
  newcomer v = fex ℕ (λ id. seat id v)

  pub comes : (κ : Lft) (q : Share) (v : V) → cv.away v ≡ None → Comes holds keeps v → ⟦ words_share R own cv holds p z κ ⟧ ∗ A.lft κ q ∗ emp 𝓤 ⊢ H.⇛ (⟦ newcomer v ⟧ ∗ A.lft κ q)
  comes κ q v home law = reaches κ q (emp 𝓤) ⟦ newcomer v ⟧ grows
    where
      grows : ⟦ I ⟧ ∗ emp 𝓤 ⊢ upd 𝓤 (⟦ I ⟧ ∗ ⟦ newcomer v ⟧)
      grows = let Z : Pr = ⟦ I ⟧ ∗ ⟦ newcomer v ⟧ in qed 𝓛 (‵ I ∷ ‵ ftrue ∷ []) ∵ move ! (1 ∷ []) $ drop ! $ fpick ! (λ t. fsplit3 ! $ move ! (2 ∷ []) $
          fpick ! (λ so. drop ! $
          let g = law (state_of z t) so.0 in let us : List V = t.views ++ v ∷ [] in
          let n : Inside R.Denot V W = record { parts = t.parts; blank = t.blank; views = us; world = g.0 } in
          move ! (1 ∷ []) $ use1 𝓛 (raw (upd 𝓤 (⟦ Led t.blank us ⟧ ∗ ⟦ seat (length t.views) v ⟧))) (Sitters.comes 𝓛 α cv z.views_name t.blank t.views v home) $
          settle 𝓛 Z (‵ (Led t.blank us) ⊛ ‵ (seat (length t.views) v)) $ split ! $ suffices ! _ (upd_i 𝓤 Z) $
          nothing ! $ fpack ! (holds (state_of z n) × AreLaid z.roots z.count t.parts) (λ _. ftrue) (g.1, so.1) $ move ! (3 ∷ 1 ∷ 0 ∷ []) $ fjoin3 ! $
          fpack ! (Inside R.Denot V W) At_inside n $ frame ! $
          fpack ! ℕ (λ id. seat id v) (length t.views) $ done !))

  -- One step on a word: it becomes f of what it was, and that is the operation of the word's name.
  module _ (id : ℕ) (v : V) (at : At) (i : ℕ) (op : Op R.Denot) (f : ℕ → ℕ) (out : ℕ → Out R.Denot) (so : Out R.Denot → V → Type 0) where
    abbrev pub told : ℕ → Fml
    told n = gone_on id (so (out n))

    module _ (is : IsStepOf R.Denot p z at i op f out) (same : StayAllSo cv.away v so) (law : Allows holds keeps id v op so) where
      abbrev e : ℕ
      e = i * 8 + o

      -- where the word lies
      lies : (t : Inside R.Denot V W) → Stands id v t → (w : ℕ) → word_at (memory_of z.roots t.parts) at ≡ Some w
          → IsIn p z at × (e ≡ place_in z at * 8 + o)
      lies t g w found = let l = is.lies (Numbers.is_word 𝓛 R p z lent had t.parts g.1 at w found) in (l.0, ap (λ (k : ℕ). k * 8 + o) l.1)

      -- the memory with the other word is one after the operation
      goes : (t : Inside R.Denot V W) → Stands id v t → (w : ℕ) → word_at (memory_of z.roots t.parts) at ≡ Some w → (s : Parts R.Denot)
          → memory_of z.roots s ≡ with_word (memory_of z.roots t.parts) at (f w) → Goes holds keeps (state_of z t) (memory_of z.roots s) id (so (out w))
      goes t g w found s alike = let a = law (state_of z t) g.0 g.2 in let made = is.makes (memory_of z.roots t.parts) w found in
          a.1 (out w) (memory_of z.roots s) (made.0, alike ∙ sym made.1)

      pub steps : (q : Share) → ⟦ Inv ⟧ ∗ (A.lft α q ∗ ⟦ seat id v ⟧) ⊢ asks 𝓛 (block_ptr b e) f always (λ n. fsep (flft α q) (told n))
      steps q = let G : Pr = ex 𝓤 (Lies 𝓛 α q I b e f always told) in Known.stepped 𝓛 R own cv holds p z q b e f told ⟦ seat id v ⟧
          (qed 𝓛 (‵ I ∷ ‵ (seat id v) ∷ []) ∵ suffices ! _ (upd_i 𝓤 G) $ use2 𝓛 (opening id v) (opened id v) $ pick ! (λ t. learn ! (λ g. split3 ! $
          let found = is.needs (memory_of z.roots t.parts) (law (state_of z t) g.0 g.2).0 in let w : ℕ = found.0 in
          let P = Numbers.Rewrites 𝓛 R p z lent had t.parts at e in let l = lies t g w found.1 in
          -- [the memory; the views; the seat]
          use1 𝓛 (‵ (word b e w) ⊛ raw (all 𝓤 P)) (Numbers.word_opens 𝓛 R p z lent had t.parts g.1 at e w l.0 found.1 l.1) $ split ! $
          show ! (Lies 𝓛 α q I b e f always told) w $ frame ! $
          each ! (λ (_ : Unit {0}). Again 𝓛 α q I b e f always told w) (λ _. assume ! (‵ (word b e (f w))) $
          -- [the word; the others; the views; the seat]
          move ! (1 ∷ []) $ use1 𝓛 (raw (P (f w))) (all_e 𝓤 P (f w)) $ move ! (1 ∷ 0 ∷ []) $
          use2 𝓛 (items (λ (s : Parts R.Denot). given (AreLaid z.roots z.count s × (memory_of z.roots s ≡ with_word (memory_of z.roots t.parts) at (f w)))
          (‵ (Ws s)))) (apply∗ 𝓤 ⟦ word b e (f w) ⟧ (ex 𝓤 (Numbers.Rewritten 𝓛 R p z lent had t.parts at (f w)))) $
          pick ! (λ s. learn ! (λ so_is. by ! (back id v t s (so (out w)) (same (out w)) so_is.0 g.2 (goes t g w found.1 s so_is.1))))))))
