-- The value of a block is lent by what a third seat knows now: a seat comes to bear witness of it, which nobody has, and stays with the lending. Assumes
-- `Logic`.
use Rattle.std.specs.Prelude.{slice_get}
use Rattle.std.proofs.Common.{◌≡◌, ℕ, ◌+◌, ◌-◌, ◌*◌, ◌<◌, List, [], ◌∷◌, ◌++◌, length, Some, None}
use seplogic.Ra.Ura.{Ura}
use base.Share
use base.Logic.{SProp, ent, sep, ex, guard, upd, upd_i}
use base.Fml.{Lft, Share, Fml, ftrue, fsep, flft}
use types.Logic.{Logic, sem}
use types.Tokens.{shr_bor-open, shr_bor_dup, obor_close}
use types.Kit.{‵, raw, ◌⊛◌, given, later, ◌$◌, ◌∵◌, !, qed, move, drop, split, group, fsplit, fsplit3, fjoin, fjoin3, fpick, fpack, learn, frame, suffices, settle, use1, use2, use3, updating, await, now, done}
use denote.RattleType.{RattleType, RowLaws}
use denote.Memory.{shared_of}
use denote.RawPtr.{Ptr, block_of, count_of}
use denote.Steps.{nothing}
use Rattle.core.specs.contracts.option.Option.{the_row as OptionOf}
use Rattle.seize_seats.specs.Seats.State.{State, view_of, Testifies}
use Rattle.seize_seats.specs.Seats.Lines.{AreLaid}
use Rattle.seize_seats.specs.Seats.Errands.{ViewCode, coded_of}
use Rattle.seize_seats.specs.Seats.Stretches.{seat_shares}
use Rattle.seize_seats.specs.Seats.Lendings.{Holder, VisibleByWitness, IsValueSo}
use Rattle.seize_seats.specs.Seats.Owned.{Pieces, sitting, age, stride, BaseId, IsIts, IsPlaced, Inside, state_of, standing, inner, words_share, seen}
use Rattle.seize_seats.proofs.Seats.Views.Ledgers as Ledgers
use Rattle.seize_seats.proofs.Seats.Views.Sitters as Sitters
use Rattle.seize_seats.proofs.Seats.Views.Hands as Hands
use Rattle.seize_seats.proofs.Seats.Views.Known as Known
use Rattle.seize_seats.proofs.Seats.Stepping.Moves as Moves
use Rattle.seize_seats.proofs.Seats.Blocks.Makings as Makings
use Rattle.seize_seats.proofs.Seats.Blocks.Lends as Lends

module _ {M : Type 1} {𝓤 : Ura M} (𝓛 : Logic 𝓤) (R : RattleType) (L : RowLaws (OptionOf R)) (own : Pieces R.Denot) {V W : Type 0} (cv : ViewCode V)
    (holds : State R.Denot V W → Type 0) (keeps : V → V → W → ℕ → Type 0) (p : Ptr) (z : BaseId) (i : ℕ) (v : V) (g o : Holder V) (x : V) (home : cv.away x ≡ None)
    (law : Testifies holds i v g.seat g.view o.seat o.view x) where
  open 𝓛 use {H, A}

  abbrev Pr : Type 2
  Pr = SProp 𝓤

  abbrev ◌⊢◌ : Pr → Pr → Type 1
  P ⊢ Q = ent 𝓤 P Q

  abbrev ◌∗◌ : Pr → Pr → Pr
  P ∗ Q = sep 𝓤 P Q

  abbrev ⟦◌⟧ : Fml → Pr
  ⟦ P ⟧ = sem 𝓛 P

  infix 26 ◌⊢◌
  infixr 35 ◌∗◌
  abbrev I : Fml
  I = inner R own cv holds p z

  abbrev In : Type 0
  In = Inside R.Denot V W

  abbrev Led : V → List V → Fml
  Led = sitting (age z) cv z.views_name

  -- shares of the views of all three
  abbrev pub By : Share → Fml
  By r = seen cv.code z.views_name r i v

  abbrev Two : Share → Share → Fml
  Two f f' = Hands.two 𝓛 R own cv holds p z g.seat g.view o.seat o.view f f'

  abbrev All : Share → Share → Share → Fml
  All r f f' = fsep (By r) (Two f f')

  abbrev newcomer : Fml
  newcomer = Moves.newcomer 𝓛 R own cv holds keeps p z x

  -- the one who bears witness comes
  comes : (r f f' : Share) → ⟦ I ⟧ ∗ ⟦ All r f f' ⟧ ⊢ upd 𝓤 (⟦ I ⟧ ∗ ⟦ All r f f' ⟧ ∗ ⟦ newcomer ⟧)
  comes r f f' = let Z : Pr = ⟦ I ⟧ ∗ ⟦ All r f f' ⟧ ∗ ⟦ newcomer ⟧ in qed 𝓛 (‵ I ∷ ‵ (All r f f') ∷ []) ∵ fpick ! (λ t. fsplit3 ! $ move ! (2 ∷ []) $
      fpick ! (λ so. drop ! $
      -- [the memory; the views; all three]
      move ! (2 ∷ []) $ fsplit ! $ move ! (3 ∷ 0 ∷ []) $
      use2 𝓛 (given (slice_get t.views i ≡ Some v) (‵ (Led t.blank t.views) ⊛ ‵ (By r))) (Sitters.sits 𝓛 (age z) cv z.views_name t.blank t.views i r v) $
      learn ! (λ at. split ! $ move ! (0 ∷ 2 ∷ []) $
      use2 𝓛 (given (Hands.AreBoth 𝓛 R own cv holds p z g.seat g.view o.seat o.view t) (‵ (Led t.blank t.views) ⊛ ‵ (Two f f')))
      (Hands.two_show 𝓛 R own cv holds p z g.seat g.view o.seat o.view f f' t) $ learn ! (λ both. split ! $
      -- [the views; the two; the one; the memory]
      move ! (2 ∷ 1 ∷ []) $ fjoin ! $
      let l = law (state_of z t) so.0 at both.0 both.1 in let us : List V = t.views ++ x ∷ [] in
      let n : In = record { parts = t.parts; blank = t.blank; views = us; world = l.0 } in
      move ! (1 ∷ []) $ use1 𝓛 (raw (upd 𝓤 (⟦ Led t.blank us ⟧ ∗ ⟦ Moves.seat 𝓛 R own cv holds keeps p z (length t.views) x ⟧)))
      (Sitters.comes 𝓛 (age z) cv z.views_name t.blank t.views x home) $
      settle 𝓛 Z (‵ (Led t.blank us) ⊛ ‵ (Moves.seat 𝓛 R own cv holds keeps p z (length t.views) x)) $ split ! $ suffices ! _ (upd_i 𝓤 Z) $
      -- [the views; the newcomer; all three; the memory]
      nothing ! $ fpack ! (holds (state_of z n) × AreLaid z.roots z.count t.parts) (λ _. ftrue) (l.1, so.1) $ move ! (4 ∷ 1 ∷ 0 ∷ []) $ fjoin3 ! $
      fpack ! In (standing R own cv holds p z) n $ frame ! $ move ! (1 ∷ 0 ∷ []) $ frame ! $
      fpack ! ℕ (λ id. Moves.seat 𝓛 R own cv holds keeps p z id x) (length t.views) $ done !))))

  module _ (n : ℕ) (shown : (id : ℕ) → VisibleByWitness holds g.seat g.view o.seat o.view (Some (id, x)) n) (mine : Makings.Mine 𝓛 R own cv holds keeps p z n) (κ : Lft) where
    -- it is the block's value, in a state in which all three know what they know, and the number is one of the strip
    abbrev pub So : R.Denot → Type 0
    So d = IsValueSo holds g.seat g.view o.seat o.view (λ s. view_of s i ≡ Some v) n d × (0 < n) × IsIts z (n - 1)

    abbrev pub Lent : R.Denot → Pr
    Lent d = guard 𝓤 (So d) ⟦ shared_of (OptionOf R) (Some d) (block_of z.values) ((n - 1 - z.first) * stride R + count_of z.values) κ ⟧

    abbrev shares_of : Holder V → Fml
    shares_of h = seat_shares cv.code z.views_name h.seat h.view h.stretch h.mark κ

    -- THE VALUE IS LENT
    pub lent_by : (q r : Share) → ⟦ words_share R own cv holds p z κ ⟧ ∗ ⟦ shares_of g ⟧ ∗ ⟦ shares_of o ⟧ ∗ A.lft κ q ∗ ⟦ By r ⟧
        ⊢ H.⇛ (ex 𝓤 Lent ∗ A.lft κ q ∗ ⟦ By r ⟧)
    lent_by q r = let q₁ : Share = Share.left q in let q₂ : Share = Share.right q in let q₃ : Share = Share.left q₂ in let q₄ : Share = Share.right q₂ in
        let Inv : Fml = Moves.Inv 𝓛 R own cv holds keeps p z in
        qed 𝓛 (‵ (words_share R own cv holds p z κ) ∷ ‵ (shares_of g) ∷ ‵ (shares_of o) ∷ ‵ (flft κ q) ∷ ‵ (By r) ∷ []) ∵ updating ! $ fsplit ! $ shr_bor_dup ! $
        move ! (2 ∷ []) $ fsplit ! $ fpick ! (λ placed. drop ! $ use1 𝓛 (‵ Inv ⊛ ‵ Inv) (Known.twice 𝓛 R own cv holds p z) $ split ! $
        -- [the invariant, twice; its lifetime, twice; the guard; the owner; the token; the one]
        nothing ! $ fpack ! (IsPlaced R p z) (λ _. ftrue) placed $ fjoin ! $ move ! (2 ∷ 0 ∷ []) $ fjoin ! $
        nothing ! $ fpack ! (IsPlaced R p z) (λ _. ftrue) placed $ move ! (0 ∷ 2 ∷ []) $ fjoin ! $ move ! (2 ∷ 0 ∷ []) $ fjoin ! $
        -- [the words, twice; the guard; the owner; the token; the one]
        move ! (2 ∷ []) $ fsplit3 ! $ move ! (1 ∷ []) $ shr_bor_dup ! $ move ! (2 ∷ 1 ∷ 3 ∷ []) $ fjoin3 ! $
        -- [the guard; its view; the words, twice; the owner; the token; the one]
        move ! (4 ∷ []) $ fsplit3 ! $ move ! (1 ∷ []) $ shr_bor_dup ! $ move ! (2 ∷ 1 ∷ 3 ∷ []) $ fjoin3 ! $
        -- [the owner; its view; the guard; its view; the words, twice; the token; the one]
        move ! (6 ∷ []) $ use1 𝓛 (‵ (flft κ q₁) ⊛ ‵ (flft κ q₂)) (𝓛.lfts.lft_split κ q) $ split ! $ move ! (1 ∷ []) $
        use1 𝓛 (‵ (flft κ q₃) ⊛ ‵ (flft κ q₄)) (𝓛.lfts.lft_split κ q₂) $ split ! $
        -- [q₃; q₄; q₁; the owner; its view; the guard; its view; the words, twice; the one]
        move ! (6 ∷ 0 ∷ []) $ shr_bor-open ! tt (Ledgers.view_halves 𝓛 (coded_of cv) z.views_name g.seat g.view) (λ f.
        move ! (5 ∷ 2 ∷ []) $ shr_bor-open ! tt (Ledgers.view_halves 𝓛 (coded_of cv) z.views_name o.seat o.view) (λ f'.
        -- [the owner's view is open; the view; the guard's is open; the view; q₁; the owner; the guard; the words, twice; the one]
        move ! (3 ∷ 1 ∷ []) $ fjoin ! $ move ! (8 ∷ 0 ∷ []) $ fjoin ! $ move ! (7 ∷ 3 ∷ 0 ∷ []) $
        use3 𝓛 (later ((‵ (All r f f') ⊛ ‵ newcomer) ⊛ ‵ (flft κ q₁)))
        (Moves.reaches 𝓛 R own cv holds keeps p z κ q₁ ⟦ All r f f' ⟧ (⟦ All r f f' ⟧ ∗ ⟦ newcomer ⟧) (comes r f f')) $ await ! tt $ split ! $ split ! $
        -- [all three; the newcomer; q₁; the owner's view is open; the guard's; the owner; the guard; the words]
        fsplit ! $ move ! (1 ∷ []) $ fsplit ! $ move ! (6 ∷ 0 ∷ []) $ obor_close ! tt $ drop ! $ move ! (5 ∷ 1 ∷ []) $ obor_close ! tt $ drop ! $
        -- [q₄; q₃; the one; the newcomer; q₁; the owner; the guard; the words]
        move ! (1 ∷ 0 ∷ []) $ use2 𝓛 (‵ (flft κ q₂)) (𝓛.lfts.lft_join κ q₂) $ move ! (3 ∷ 0 ∷ []) $ use2 𝓛 (‵ (flft κ q)) (𝓛.lfts.lft_join κ q) $
        -- [the token; the one; the newcomer; the owner; the guard; the words]
        move ! (2 ∷ []) $ fpick ! (λ id. move ! (2 ∷ 0 ∷ []) $ fjoin ! $ move ! (4 ∷ 3 ∷ 2 ∷ 1 ∷ 0 ∷ []) $ group ! 5 $
        use1 𝓛 (later (raw (ex 𝓤 Lent) ⊛ ‵ (flft κ q) ⊛ ‵ (By r))) (Lends.lent_to 𝓛 R L own cv holds keeps p z g o (Some (id, x)) n (shown id) mine (By r)
        (λ s. view_of s i ≡ Some v) (λ t. Sitters.sits 𝓛 (age z) cv z.views_name t.blank t.views i r v) κ q) $ await ! tt $ now ! $ done !))))
