-- The value of a block comes back from its lendings, where it was taken away, and where a seat that has it to itself takes its value in the hand. Assumes
-- `Logic`.
use Rattle.std.specs.Prelude.{IsSome}
use Rattle.std.proofs.Common.{◌≡◌, ◌≢◌, ◌⊎◌, inl, inr, ℕ, suc, ◌-◌, ◌+◌, Bool, true, false, [], ◌∷◌, sym, ap, ◌∙◌, subst, arith}
use mathlib.Core.Logic.Or
use mathlib.Core.HLevel.{⊥_prop}
use mathlib.Core.List.{mem-cons, not-mem-nil}
use seplogic.Ra.Ura.{Ura}
use base.Share.{three_quarters}
use base.Logic.{SProp, ent, sep, all, upd, emp, id⊢, via, upd_i}
use base.Fml.{Lft, Share, Fml, ftrue, fsep, flft, fdead, fbor, fnamed}
use base.Several.{Apart, bodies}
use contract.BorrowLft.{meet_⊑_left, meet_⊑_right}
use types.Logic.{Logic, sem}
use types.Kit.{‵, raw, ◌⊛◌, given, later, ◌$◌, ◌∵◌, !, qed, by, move, keep, drop, split, split3, join, group, fsplit, fsplit3, fjoin, fpick, fpack, learn, frame, assume, suffices, settle, use0, use1, use2, use3, updating, await, now, done}
use denote.RattleType.{RattleType}
use denote.RawPtr.{Ptr}
use denote.Steps.{nothing}
use Rattle.seize_words.specs.OneMemory.Mem.{value_in}
use Rattle.seize_seats.specs.Seats.Errands.{ViewCode, coded_of}
use Rattle.seize_seats.specs.Seats.State.{State}
use Rattle.seize_seats.specs.Seats.Cells.{Cell, Free, Claimed, Out, Has, Held, block_in, cell_at}
use Rattle.seize_seats.specs.Seats.Seen.{seen}
use Rattle.seize_seats.specs.Seats.Stretches.{IsEven, IsOfSeat, stretch_part, lasting, stretch, stretch_shared}
use Rattle.seize_seats.specs.Seats.Lendings.{Holder, Lending, Witness, VisibleByWitness, AreShown, witnessed, span, lending}
use Rattle.seize_seats.specs.Seats.Owned.{Pieces, Hand, busy, held, BaseId, age, core_of, IsIts, is_listed, Inside, state_of, inner, everything}
use Rattle.seize_seats.proofs.Seats.Places.Cells.{block_is}
use Rattle.seize_seats.proofs.Seats.Views.Stretches.{one_seat}
use Rattle.seize_seats.proofs.Seats.Views.Stretches as Stretches
use Rattle.seize_seats.proofs.Seats.Blocks.Lendings as Lendings
use Rattle.seize_seats.proofs.Seats.Stepping.Moves as Moves
use Rattle.seize_seats.proofs.Seats.Blocks.Makings as Makings
use Rattle.seize_seats.proofs.Seats.Views.Hands as Hands
use Rattle.seize_seats.proofs.Seats.Views.Known as Known

-- an even number and an odd one are two
even_odd : (n m : ℕ) → IsEven n → (h : ℕ) → m ≡ h + h + 1 → ¬ (n ≡ m)
even_odd n m e h odd = λ same. (let even = e.1 in absurd (omega (arith, same, even, odd)))

two : (id n m : ℕ) (P Q : Fml) → IsEven n → IsOfSeat id m → Apart ((n, P) ∷ (m, Q) ∷ [])
two id n m P Q e o = (
  (λ in_it. Or.elim ⊥_prop ((mem-cons {a = n} {b = m} {l = []}).0 in_it) (even_odd n m e o.0 o.1) (λ x. not-mem-nil x)),
  ((λ x. not-mem-nil x), tt),
)

three : (i j n m k : ℕ) (P Q S : Fml) → i ≢ j → IsEven n → IsOfSeat i m → IsOfSeat j k → Apart ((n, P) ∷ (m, Q) ∷ (k, S) ∷ [])
three i j n m k P Q S ne e o u =
    let other : ¬ (m ≡ k) = λ same. ne (one_seat i j m o (subst (IsOfSeat j) (sym same) u)) in (
      (λ in_it. Or.elim ⊥_prop ((mem-cons {a = n} {b = m} {l = k ∷ []}).0 in_it) (even_odd n m e o.0 o.1)
          (λ x. Or.elim ⊥_prop ((mem-cons {a = n} {b = k} {l = []}).0 x) (even_odd n k e u.0 u.1) (λ y. not-mem-nil y))),
      ((λ in_it. Or.elim ⊥_prop ((mem-cons {a = m} {b = k} {l = []}).0 in_it) other (λ x. not-mem-nil x)), ((λ x. not-mem-nil x), tt)),
    )

module _ {M : Type 1} {𝓤 : Ura M} (𝓛 : Logic 𝓤) (R : RattleType) (own : Pieces R.Denot) {V W : Type 0} (cv : ViewCode V) (holds : State R.Denot V W → Type 0) (keeps : V → V → W → ℕ
    → Type 0) (p : Ptr) (z : BaseId) (i : ℕ) where
  open 𝓛 use {H, A}

  abbrev Pr : Type 2
  Pr = SProp 𝓤

  abbrev ◌⊢◌ : Pr → Pr → Type 1
  P ⊢ Q = ent 𝓤 P Q

  abbrev ◌∗◌ : Pr → Pr → Pr
  P ∗ Q = sep 𝓤 P Q

  abbrev ⟦◌⟧ : Fml → Pr
  ⟦ P ⟧ = sem 𝓛 P

  infix 26 ◌⊢◌
  infixr 35 ◌∗◌
  abbrev α : Lft
  α = age z

  abbrev I : Fml
  I = inner R own cv holds p z

  -- the invariant itself, and what is known of the strip
  abbrev E : Fml
  E = everything R own cv holds (core_of z)

  abbrev L : Fml
  L = is_listed p z

  abbrev Inv : Fml
  Inv = Moves.Inv 𝓛 R own cv holds keeps p z

  abbrev In : Type 0
  In = Inside R.Denot V W

  abbrev cell_of : Cell R.Denot → Fml
  cell_of = Makings.cell_of 𝓛 R own cv holds keeps p z i

  abbrev Recells : In → Cell R.Denot → Pr
  Recells t = Makings.Recells 𝓛 R own cv holds keeps p z t i

  abbrev hands : Share → Hand → Fml
  hands q h = Makings.hands 𝓛 R own cv holds keeps p z q i h

  abbrev IsAnothers : Hand → Cell R.Denot → Type 0
  IsAnothers = Makings.IsAnothers 𝓛 R own cv holds keeps p z

  abbrev Led : In → Fml
  Led = Makings.Led 𝓛 R own cv holds keeps p z

  abbrev Sound : In → Type 0
  Sound = Makings.Sound 𝓛 R own cv holds keeps p z

  abbrev Sn : Holder V → Fml
  Sn h = seen cv.code z.views_name stretch_part h.seat h.view

  abbrev Shows : Holder V → Holder V → Witness V → Fml → Type 1
  Shows g o says S = Hands.Shows 𝓛 R own cv holds p z g.seat g.view o.seat o.view says S

  abbrev Crowds : Holder V → Holder V → Witness V → Fml → Type 2
  Crowds g o says S = Hands.Crowds 𝓛 R own cv holds p z g.seat g.view o.seat o.view says S

  abbrev Shown : Holder V → Holder V → Witness V → Type 0
  Shown g o says = VisibleByWitness holds g.seat g.view o.seat o.view says (suc i)

  abbrev Wd : Witness V → Fml
  Wd = witnessed R α cv.code z.views_name holds

  -- who has the number finds no cell of another hand
  another : (h : Hand) (c : Cell R.Denot) → IsAnothers h c → (S : Fml) (Z : Pr) (t : In)
      → ⟦ cell_of c ⟧ ∗ all 𝓤 (Recells t) ∗ ⟦ Led t ⟧ ∗ ⟦ S ⟧ ∗ ⟦ hands three_quarters h ⟧ ⊢ Z
  another h c ne S Z t = qed 𝓛 (‵ (cell_of c) ∷ raw (all 𝓤 (Recells t)) ∷ ‵ (Led t) ∷ (‵ S ⊛ ‵ (hands three_quarters h)) ∷ []) ∵ move ! (3 ∷ []) $ split ! $
      move ! (2 ∷ 1 ∷ []) $ use2 𝓛 (raw Z) (Makings.not_theirs 𝓛 R own cv holds keeps p z i h c Z ne) $ keep ! (0 ∷ []) $ done !

  -- The place is in the hand of a call, and no seats whose views show the block have those views now.
  module _ (Hd : Fml) (none : (g o : Holder V) (says : Witness V) (S : Fml) → Shows g o says S → Crowds g o says S → Shown g o says → (Z : Pr)
      → ⟦ I ⟧ ∗ (⟦ S ⟧ ∗ ⟦ Hd ⟧) ⊢ Z) where
    module _ (g o : Holder V) (says : Witness V) (shown : Shown g o says) (q : Share) where
      -- with what the witness has of its view
      abbrev Hx : Fml
      Hx = fsep Hd (Wd says)

      abbrev St : Holder V → Fml
      St h = stretch cv.code z.views_name h.seat h.view h.stretch h.mark

      abbrev Lasts : Holder V → Bool → Fml
      Lasts h y = lasting cv.code z.views_name h.seat h.view h.stretch h.mark y

      abbrev Told : Holder V → Fml
      Told h = stretch_shared cv.code z.views_name h.seat h.view h.stretch h.mark

      abbrev Over : Lft
      Over = span α g o

      abbrev Q : Pr
      Q = A.dead Over ∗ ⟦ Hx ⟧

      -- with the one stretch both are over
      by_guard : A.dead (g.stretch ∷ []) ⊢ A.dead Over
      by_guard = 𝓛.lfts.dead-incl Over (g.stretch ∷ []) (meet_⊑_left (g.stretch ∷ []) (o.stretch ∷ α))

      by_owner : A.dead (o.stretch ∷ []) ⊢ A.dead Over
      by_owner = qed 𝓛 (‵ (fdead (o.stretch ∷ [])) ∷ []) ∵
          use1 𝓛 (‵ (fdead (o.stretch ∷ α))) (𝓛.lfts.dead-incl (o.stretch ∷ α) (o.stretch ∷ []) (meet_⊑_left (o.stretch ∷ []) α)) $
          by ! (𝓛.lfts.dead-incl Over (o.stretch ∷ α) (meet_⊑_right (g.stretch ∷ []) (o.stretch ∷ α)))

      -- it is one seat
      module _ (same : g.seat ≡ o.seat) (view : g.view ≡ o.view) where
        finds : (m : ℕ) (y : Bool) → ⟦ Lasts g y ⟧ ∗ ⟦ I ⟧ ∗ ⟦ Hx ⟧ ⊢ upd 𝓤 (⟦ I ⟧ ∗ ⟦ bodies ((m, St g) ∷ []) ⟧ ∗ Q)
        finds m true = let Z : Pr = ⟦ I ⟧ ∗ ⟦ bodies ((m, St g) ∷ []) ⟧ ∗ Q in
            qed 𝓛 (‵ (Sn g) ∷ ‵ I ∷ ‵ Hx ∷ []) ∵ move ! (2 ∷ []) $ fsplit ! $
            -- [the hand; the witness; the view; the invariant]
            move ! (2 ∷ 1 ∷ []) $ fjoin ! $ move ! (0 ∷ 1 ∷ []) $ join ! $ move ! (1 ∷ 0 ∷ []) $
            by ! (none g o says (fsep (Sn g) (Wd says))
            (Hands.shows_with 𝓛 R own cv holds p z g.seat g.view o.seat o.view says (Sn g) (Hands.one_sits 𝓛 R own cv holds p z g.seat g.view o.seat o.view stretch_part same view))
            (Hands.crowds_with 𝓛 R own cv holds p z g.seat g.view o.seat o.view says (Sn g) (Hands.one_apart 𝓛 R own cv holds p z g.seat g.view o.seat o.view stretch_part same))
            shown (upd 𝓤 Z))
        finds m false = let Z : Pr = ⟦ I ⟧ ∗ ⟦ bodies ((m, St g) ∷ []) ⟧ ∗ Q in
            qed 𝓛 (‵ (Lasts g false) ∷ ‵ I ∷ ‵ Hx ∷ []) ∵ suffices ! _ (upd_i 𝓤 Z) $ fsplit ! $
            use1 𝓛 (‵ (fdead (g.stretch ∷ [])) ⊛ ‵ (fdead (g.stretch ∷ []))) (𝓛.lfts.dead_dup (g.stretch ∷ [])) $ split ! $ move ! (1 ∷ 2 ∷ []) $ fjoin ! $
            fpack ! Bool (Lasts g) false $ nothing ! $ move ! (1 ∷ 0 ∷ []) $ fjoin ! $
            -- [the stretch; dead; the invariant; the hand]
            move ! (1 ∷ []) $ use1 𝓛 (‵ (fdead Over)) by_guard $ move ! (2 ∷ 1 ∷ 0 ∷ 3 ∷ []) $ frame ! $ frame ! $ done !

        both : (n m : ℕ) → IsEven n → IsOfSeat g.seat m → A.named m (St g) ∗ A.named n (fbor α E) ∗ A.lft α q ∗ ⟦ L ⟧ ∗ ⟦ Hx ⟧ ⊢ H.⇛ (Q ∗ A.lft α q)
        both n m e u = let Z : Pr = ⟦ E ⟧ ∗ ⟦ bodies ((m, St g) ∷ []) ⟧ ∗ Q in
            via 𝓤 _ (qed 𝓛 (‵ (fnamed m (St g)) ∷ ‵ (fnamed n (fbor α E)) ∷ ‵ (flft α q) ∷ ‵ L ∷ ‵ Hx ∷ []) ∵ use0 𝓛 (‵ ftrue) (id⊢ 𝓤 (emp 𝓤)) $
            move ! (1 ∷ 0 ∷ []) $ fjoin ! $ move ! (1 ∷ 0 ∷ []) $ fjoin ! $ frame ! $ frame ! $ assume ! (‵ E ⊛ ‵ (bodies ((m, St g) ∷ []))) $ split ! $
            move ! (0 ∷ 2 ∷ []) $ use2 𝓛 (‵ I) (Known.comes_in 𝓛 R own cv holds p z) $
            move ! (1 ∷ []) $ fsplit ! $ move ! (1 ∷ []) $ drop ! $ fpick ! (λ y.
            use3 𝓛 (raw (upd 𝓤 (⟦ I ⟧ ∗ ⟦ bodies ((m, St g) ∷ []) ⟧ ∗ Q))) (finds m y) $ settle 𝓛 Z (‵ I ⊛ ‵ (bodies ((m, St g) ∷ [])) ⊛ raw Q) $
            split3 ! $ suffices ! _ (upd_i 𝓤 Z) $ use1 𝓛 (‵ E) (Known.goes_out 𝓛 R own cv holds p z) $ done !))
            (𝓛.invs.invs_bor_acc n α q E ((m, St g) ∷ []) Q (two g.seat n m (fbor α E) (St g) e u))

        ended : ⟦ Inv ⟧ ∗ A.lft α q ∗ ⟦ Told g ⟧ ∗ ⟦ Hx ⟧ ⊢ H.⇛ (Q ∗ A.lft α q)
        ended = qed 𝓛 (‵ Inv ∷ ‵ (flft α q) ∷ ‵ (Told g) ∷ ‵ Hx ∷ []) ∵ fsplit ! $ move ! (1 ∷ []) $ fpick ! (λ n. fsplit ! $ fpick ! (λ e. drop ! $
            -- [the invariant; the strip; the lifetime; the stretch; the hand]
            move ! (3 ∷ []) $ fpick ! (λ m. fsplit ! $ fpick ! (λ u. drop ! $ move ! (0 ∷ 1 ∷ 3 ∷ 2 ∷ []) $ by ! (both n m e u)))))

      -- they are two
      module _ (ne : g.seat ≢ o.seat) where
        abbrev All : ℕ → ℕ → Fml
        All m k = bodies ((m, St g) ∷ (k, St o) ∷ [])

        finds_two : (m k : ℕ) (y y' : Bool) → ⟦ Lasts g y ⟧ ∗ ⟦ Lasts o y' ⟧ ∗ ⟦ I ⟧ ∗ ⟦ Hx ⟧ ⊢ upd 𝓤 (⟦ I ⟧ ∗ ⟦ All m k ⟧ ∗ Q)
        finds_two m k true true = let Z : Pr = ⟦ I ⟧ ∗ ⟦ All m k ⟧ ∗ Q in let S : Fml = fsep (Sn g) (Sn o) in
            qed 𝓛 (‵ (Sn g) ∷ ‵ (Sn o) ∷ ‵ I ∷ ‵ Hx ∷ []) ∵ fjoin ! $ move ! (2 ∷ []) $ fsplit ! $
            -- [the hand; the witness; the views; the invariant]
            move ! (2 ∷ 1 ∷ []) $ fjoin ! $ move ! (0 ∷ 1 ∷ []) $ join ! $ move ! (1 ∷ 0 ∷ []) $
            by ! (none g o says (fsep S (Wd says))
            (Hands.shows_with 𝓛 R own cv holds p z g.seat g.view o.seat o.view says S (Hands.two_show 𝓛 R own cv holds p z g.seat g.view o.seat o.view stretch_part stretch_part))
            (Hands.crowds_with 𝓛 R own cv holds p z g.seat g.view o.seat o.view says S (Hands.two_crowd 𝓛 R own cv holds p z g.seat g.view o.seat o.view stretch_part stretch_part))
            shown (upd 𝓤 Z))
        finds_two m k false y' = let Z : Pr = ⟦ I ⟧ ∗ ⟦ All m k ⟧ ∗ Q in
            qed 𝓛 (‵ (Lasts g false) ∷ ‵ (Lasts o y') ∷ ‵ I ∷ ‵ Hx ∷ []) ∵ suffices ! _ (upd_i 𝓤 Z) $ fsplit ! $
            use1 𝓛 (‵ (fdead (g.stretch ∷ [])) ⊛ ‵ (fdead (g.stretch ∷ []))) (𝓛.lfts.dead_dup (g.stretch ∷ [])) $ split ! $ move ! (1 ∷ 2 ∷ []) $ fjoin ! $
            fpack ! Bool (Lasts g) false $ move ! (2 ∷ []) $ fpack ! Bool (Lasts o) y' $
            -- [the owner's stretch; the guard's; dead; the invariant; the hand]
            nothing ! $ move ! (1 ∷ 0 ∷ []) $ fjoin ! $ move ! (1 ∷ 0 ∷ []) $ fjoin ! $
            move ! (1 ∷ []) $ use1 𝓛 (‵ (fdead Over)) by_guard $ move ! (2 ∷ 1 ∷ 0 ∷ 3 ∷ []) $ frame ! $ frame ! $ done !
        finds_two m k true false = let Z : Pr = ⟦ I ⟧ ∗ ⟦ All m k ⟧ ∗ Q in
            qed 𝓛 (‵ (Sn g) ∷ ‵ (Lasts o false) ∷ ‵ I ∷ ‵ Hx ∷ []) ∵ suffices ! _ (upd_i 𝓤 Z) $ fpack ! Bool (Lasts g) true $ move ! (1 ∷ []) $ fsplit ! $
            use1 𝓛 (‵ (fdead (o.stretch ∷ [])) ⊛ ‵ (fdead (o.stretch ∷ []))) (𝓛.lfts.dead_dup (o.stretch ∷ [])) $ split ! $ move ! (1 ∷ 2 ∷ []) $ fjoin ! $
            fpack ! Bool (Lasts o) false $
            -- [the owner's stretch; dead; the guard's; the invariant; the hand]
            nothing ! $ move ! (1 ∷ 0 ∷ []) $ fjoin ! $ move ! (2 ∷ 0 ∷ []) $ fjoin ! $
            move ! (1 ∷ []) $ use1 𝓛 (‵ (fdead Over)) by_owner $ move ! (2 ∷ 1 ∷ 0 ∷ 3 ∷ []) $ frame ! $ frame ! $ done !

        all_three : (n m k : ℕ) → IsEven n → IsOfSeat g.seat m → IsOfSeat o.seat k
            → A.named m (St g) ∗ A.named k (St o) ∗ A.named n (fbor α E) ∗ A.lft α q ∗ ⟦ L ⟧ ∗ ⟦ Hx ⟧ ⊢ H.⇛ (Q ∗ A.lft α q)
        all_three n m k e u w = let Z : Pr = ⟦ E ⟧ ∗ ⟦ All m k ⟧ ∗ Q in
            via 𝓤 _ (qed 𝓛 (‵ (fnamed m (St g)) ∷ ‵ (fnamed k (St o)) ∷ ‵ (fnamed n (fbor α E)) ∷ ‵ (flft α q) ∷ ‵ L ∷ ‵ Hx ∷ []) ∵
            use0 𝓛 (‵ ftrue) (id⊢ 𝓤 (emp 𝓤)) $
            move ! (2 ∷ 0 ∷ []) $ fjoin ! $ move ! (1 ∷ 0 ∷ []) $ fjoin ! $ move ! (1 ∷ 0 ∷ []) $ fjoin ! $ frame ! $ frame ! $
            assume ! (‵ E ⊛ ‵ (All m k)) $ split ! $ move ! (0 ∷ 2 ∷ []) $ use2 𝓛 (‵ I) (Known.comes_in 𝓛 R own cv holds p z) $
            move ! (1 ∷ []) $ fsplit3 ! $ move ! (2 ∷ []) $ drop ! $ fpick ! (λ y. move ! (1 ∷ []) $ fpick ! (λ y'. move ! (1 ∷ 0 ∷ 2 ∷ 3 ∷ []) $
            group ! 4 $ use1 𝓛 (raw (upd 𝓤 (⟦ I ⟧ ∗ ⟦ All m k ⟧ ∗ Q))) (finds_two m k y y') $ settle 𝓛 Z (‵ I ⊛ ‵ (All m k) ⊛ raw Q) $
            split3 ! $ suffices ! _ (upd_i 𝓤 Z) $ use1 𝓛 (‵ E) (Known.goes_out 𝓛 R own cv holds p z) $ done !)))
            (𝓛.invs.invs_bor_acc n α q E ((m, St g) ∷ (k, St o) ∷ []) Q (three g.seat o.seat n m k (fbor α E) (St g) (St o) ne e u w))

        ended_two : ⟦ Inv ⟧ ∗ A.lft α q ∗ ⟦ Told g ⟧ ∗ ⟦ Told o ⟧ ∗ ⟦ Hx ⟧ ⊢ H.⇛ (Q ∗ A.lft α q)
        ended_two = qed 𝓛 (‵ Inv ∷ ‵ (flft α q) ∷ ‵ (Told g) ∷ ‵ (Told o) ∷ ‵ Hx ∷ []) ∵ fsplit ! $ move ! (1 ∷ []) $ fpick ! (λ n. fsplit ! $ fpick ! (λ e. drop ! $
            -- [the invariant; the strip; the lifetime; the guard's stretch; the owner's; the hand]
            move ! (4 ∷ []) $ fpick ! (λ k. fsplit ! $ fpick ! (λ w. drop ! $ move ! (4 ∷ []) $ fpick ! (λ m. fsplit ! $ fpick ! (λ u. drop ! $
            move ! (0 ∷ 1 ∷ 2 ∷ 4 ∷ 3 ∷ []) $ by ! (all_three n m k e u w)))))))

      ends : (g.seat ≢ o.seat) ⊎ ((g.seat ≡ o.seat) × (g.view ≡ o.view)) → ⟦ Inv ⟧ ∗ A.lft α q ∗ ⟦ Told g ⟧ ∗ ⟦ Told o ⟧ ∗ ⟦ Hx ⟧ ⊢ H.⇛ (Q ∗ A.lft α q)
      ends (inl ne) = ended_two ne
      ends (inr same) = qed 𝓛 (‵ Inv ∷ ‵ (flft α q) ∷ ‵ (Told g) ∷ ‵ (Told o) ∷ ‵ Hx ∷ []) ∵ keep ! (0 ∷ 1 ∷ 2 ∷ 4 ∷ []) $ by ! (ended same.0 same.1)

    module _ (q : Share) where
      abbrev One : ℕ → Lending V → Fml
      One = lending R α cv.code z.views_name holds i

      -- what is had with the value: the invariant, the lifetime, and the place
      abbrev pub Having : Pr
      Having = ⟦ Inv ⟧ ∗ A.lft α q ∗ ⟦ Hd ⟧

      dies : (a : ℕ) (l : Lending V) → Having ∗ ⟦ One a l ⟧ ⊢ H.⇛ (Having ∗ A.dead (span α l.guard l.owner) ∗ ⟦ One a l ⟧)
      dies a l = let g : Holder V = l.guard in let o : Holder V = l.owner in
          let T : Holder V → Fml = λ h. stretch_shared cv.code z.views_name h.seat h.view h.stretch h.mark in
          let St : Holder V → Fml = λ h. stretch cv.code z.views_name h.seat h.view h.stretch h.mark in
          let says : Witness V = l.witness in let Hx : Fml = fsep Hd (Wd says) in
          let Are : Type 0 = AreShown R α cv.code z.views_name holds i g o says in let Over : Lft = span α g o in
          qed 𝓛 ((‵ Inv ⊛ ‵ (flft α q) ⊛ ‵ Hd) ∷ ‵ (One a l) ∷ []) ∵ updating ! $ split3 ! $ move ! (3 ∷ []) $ fsplit3 ! $ move ! (2 ∷ []) $ fsplit ! $
          fsplit ! $ fsplit ! $
          -- [the guard's stretch; the owner's; the witness; what is shown; the part; the account; the invariant; the lifetime; the hand]
          move ! (8 ∷ 2 ∷ []) $ fjoin ! $ move ! (1 ∷ 2 ∷ 3 ∷ 4 ∷ 5 ∷ 6 ∷ 7 ∷ []) $
          -- [the guard's stretch; the owner's; what is shown; the part; the account; the invariant; the lifetime; the hand]
          use1 𝓛 (‵ (T g) ⊛ ‵ (T g)) (Stretches.twice 𝓛 (IsOfSeat g.seat) (St g)) $ split ! $ move ! (2 ∷ []) $
          use1 𝓛 (‵ (T o) ⊛ ‵ (T o)) (Stretches.twice 𝓛 (IsOfSeat o.seat) (St o)) $ split ! $
          -- [the owner's, twice; the guard's, twice; what is shown; the part; the account; the invariant; the lifetime; the hand]
          move ! (4 ∷ []) $ fpick ! (λ are. fpack ! Are (λ _. ftrue) are $
          -- [what is shown; the owner's, twice; the guard's, twice; the part; the account; the invariant; the lifetime; the hand]
          move ! (7 ∷ []) $ use1 𝓛 (‵ Inv ⊛ ‵ Inv) (Known.twice 𝓛 R own cv holds p z) $ split ! $
          -- [the invariant, twice; what is shown; the owner's, twice; the guard's, twice; the part; the account; the lifetime; the hand]
          move ! (0 ∷ 9 ∷ 5 ∷ 3 ∷ 10 ∷ []) $ group ! 5 $
          use1 𝓛 (later ((‵ (fdead Over) ⊛ ‵ Hx) ⊛ ‵ (flft α q))) (ends g o says are.0 q are.1) $ await ! tt $ split ! $ split ! $
          -- [dead; the hand; the lifetime; the invariant; what is shown; the owner's; the guard's; the part; the account]
          now ! $ move ! (1 ∷ []) $ fsplit ! $ move ! (7 ∷ 6 ∷ []) $ fjoin ! $ move ! (0 ∷ 2 ∷ []) $ fjoin ! $ move ! (0 ∷ 5 ∷ []) $ fjoin ! $
          move ! (0 ∷ 2 ∷ 1 ∷ []) $
          -- [the stretches and what is shown; dead; the hand; the lifetime; the invariant; the part; the account]
          move ! (6 ∷ 0 ∷ []) $ fjoin ! $ move ! (5 ∷ 0 ∷ []) $ fjoin ! $
          -- [the lending; dead; the hand; the lifetime; the invariant]
          move ! (4 ∷ 3 ∷ 2 ∷ []) $ group ! 3 $ move ! (0 ∷ 2 ∷ 1 ∷ []) $ done !)

      -- THE VALUE COMES BACK: seats whose views show the block have other views by now
      pub comes_back : (x : R.Denot) (b o : ℕ) → Having ∗ ⟦ Lendings.Lent 𝓛 R α (coded_of cv) z.views_name holds i x b o ⟧
          ⊢ H.⇛ (Having ∗ ⟦ Lendings.Own 𝓛 R α (coded_of cv) z.views_name holds x b o ⟧)
      comes_back = Lendings.regains 𝓛 R α (coded_of cv) z.views_name holds i Having dies

  -- A BLOCK THAT WAS TAKEN AWAY: its place is in the hand of the call that has taken it
  module _ (e : Share) (lt : IsIts z i) where
    abbrev Hd : Fml
    Hd = hands three_quarters (busy e)

    gone : (g o : Holder V) (says : Witness V) (shown : Shown g o says) (t : In) (sound : Sound t) (s : Share) → cell_at t.parts.cells i ≡ Out s
        → Hands.Sit 𝓛 R own cv holds p z g.seat g.view o.seat o.view says t → ⊥
    gone g o says shown t sound s is at =
        let some = shown (state_of z t) sound.0 at.0.0 at.0.1 at.1 in let one : suc i - 1 ≡ i = omega arith in
        let b = block_is z.roots z.count t.parts sound.1 (suc i) (omega arith) ∙ ap (λ (k : ℕ). block_in (cell_at t.parts.cells k)) one ∙ ap block_in is in
        absurd (cc (subst IsSome (ap value_in b) some))

    by_cell : (g o : Holder V) (says : Witness V) (S : Fml) → Shows g o says S → Crowds g o says S → Shown g o says → (Z : Pr) (t : In) (sound : Sound t) (c : Cell R.Denot)
        → cell_at t.parts.cells i ≡ c → ⟦ cell_of c ⟧ ∗ all 𝓤 (Recells t) ∗ ⟦ Led t ⟧ ∗ ⟦ S ⟧ ∗ ⟦ Hd ⟧ ⊢ Z
    by_cell g o says S shows crowds shown Z t sound Free is = another (busy e) Free tt S Z t
    by_cell g o says S shows crowds shown Z t sound (Has x ws) is = another (busy e) (Has x ws) tt S Z t
    by_cell g o says S shows crowds shown Z t sound Claimed is =
        another (busy e) Claimed (λ same. Makings.busy_is_not 𝓛 R own cv holds keeps p z e (sym same)) S Z t
    by_cell g o says S shows crowds shown Z t sound (Out s) is = qed 𝓛 (‵ (cell_of (Out s)) ∷ raw (all 𝓤 (Recells t)) ∷ ‵ (Led t) ∷ (‵ S ⊛ ‵ Hd) ∷ []) ∵
        move ! (3 ∷ []) $ split ! $ move ! (4 ∷ 0 ∷ []) $
        use2 𝓛 (given (Hands.Sit 𝓛 R own cv holds p z g.seat g.view o.seat o.view says t) (‵ (Led t) ⊛ ‵ S)) (shows t) $
        learn ! (λ at. absurd (gone g o says shown t sound s is at))
    by_cell g o says S shows crowds shown Z t sound (Held ρ s x ws) is =
        another (busy e) (Held ρ s x ws) (Makings.held_is_not_busy 𝓛 R own cv holds keeps p z ρ s e) S Z t

    -- no seat has that view
    pub none_taken : (g o : Holder V) (says : Witness V) (S : Fml) → Shows g o says S → Crowds g o says S → Shown g o says → (Z : Pr) → ⟦ I ⟧ ∗ (⟦ S ⟧ ∗ ⟦ Hd ⟧) ⊢ Z
    none_taken g o says S shows crowds shown Z = Makings.opens 𝓛 R own cv holds keeps p z (⟦ S ⟧ ∗ ⟦ Hd ⟧) Z i lt (by_cell g o says S shows crowds shown Z)

    pub regains : (q : Share) (x : R.Denot) (b o : ℕ) → Having Hd none_taken q ∗ ⟦ Lendings.Lent 𝓛 R α (coded_of cv) z.views_name holds i x b o ⟧
        ⊢ H.⇛ (Having Hd none_taken q ∗ ⟦ Lendings.Own 𝓛 R α (coded_of cv) z.views_name holds x b o ⟧)
    regains = comes_back Hd none_taken

  -- A BLOCK WHOSE VALUE IS IN THE HAND of a call: its seat has it to itself
  module _ (ρ : ℕ) (e : Share) (lt : IsIts z i) where
    abbrev Hh : Fml
    Hh = hands three_quarters (held ρ e)

    by_hand : (g o : Holder V) (says : Witness V) (S : Fml) → Shows g o says S → Crowds g o says S → Shown g o says → (Z : Pr) (t : In) (sound : Sound t) (c : Cell R.Denot)
        → cell_at t.parts.cells i ≡ c → ⟦ cell_of c ⟧ ∗ all 𝓤 (Recells t) ∗ ⟦ Led t ⟧ ∗ ⟦ S ⟧ ∗ ⟦ Hh ⟧ ⊢ Z
    by_hand g o says S shows crowds shown Z t sound Free is = another (held ρ e) Free tt S Z t
    by_hand g o says S shows crowds shown Z t sound (Has x ws) is = another (held ρ e) (Has x ws) tt S Z t
    by_hand g o says S shows crowds shown Z t sound Claimed is =
        another (held ρ e) Claimed (λ same. Makings.held_is_not 𝓛 R own cv holds keeps p z ρ e (sym same)) S Z t
    by_hand g o says S shows crowds shown Z t sound (Out s) is =
        another (held ρ e) (Out s) (λ same. Makings.held_is_not_busy 𝓛 R own cv holds keeps p z ρ e s (sym same)) S Z t
    by_hand g o says S shows crowds shown Z t sound (Held ρ' s x ws) is =
        qed 𝓛 (‵ (cell_of (Held ρ' s x ws)) ∷ raw (all 𝓤 (Recells t)) ∷ ‵ (Led t) ∷ (‵ S ⊛ ‵ Hh) ∷ []) ∵
        move ! (3 ∷ []) $ split ! $ move ! (2 ∷ []) $ fsplit ! $ move ! (1 ∷ []) $ fsplit3 ! $ move ! (2 ∷ []) $ fsplit ! $
        -- [the share; who has it; the hand; the entry; the sign; the seat's; three quarters; the others; the views]
        keep ! (8 ∷ 1 ∷ 5 ∷ []) $ by ! (Hands.excludes 𝓛 R own cv holds p z g.seat g.view o.seat o.view says S shows crowds t sound i ρ' x Z shown)

    pub none_held : (g o : Holder V) (says : Witness V) (S : Fml) → Shows g o says S → Crowds g o says S → Shown g o says → (Z : Pr) → ⟦ I ⟧ ∗ (⟦ S ⟧ ∗ ⟦ Hh ⟧) ⊢ Z
    none_held g o says S shows crowds shown Z = Makings.opens 𝓛 R own cv holds keeps p z (⟦ S ⟧ ∗ ⟦ Hh ⟧) Z i lt (by_hand g o says S shows crowds shown Z)

    pub regains_held : (q : Share) (x : R.Denot) (b o : ℕ) → Having Hh none_held q ∗ ⟦ Lendings.Lent 𝓛 R α (coded_of cv) z.views_name holds i x b o ⟧
        ⊢ H.⇛ (Having Hh none_held q ∗ ⟦ Lendings.Own 𝓛 R α (coded_of cv) z.views_name holds x b o ⟧)
    regains_held = comes_back Hh none_held
