-- The value of a block is lent to whoever has a `&` to the memory and to a seat whose view shows the block. Assumes `Logic`.
use Rattle.std.specs.Prelude.{slice_get}
use Rattle.std.proofs.Common.{◌≡◌, ◌≢◌, ◌⊎◌, inl, inr, ℕ, suc, ◌+◌, ◌-◌, ◌*◌, ◌<◌, List, [], ◌∷◌, ◌++◌, sym, ap, ◌∙◌, subst, arith, Some}
use Rattle.std.proofs.lemmas.Bool.{cases_eq}
use seplogic.Ra.Ura.{Ura}
use base.Fraction.{full_share}
use base.FractionLaws.{common}
use base.Share
use base.Share.{quarter, three_quarters}
use base.Logic.{SProp, ent, sep, wand, ex, all, guard, upd, via, apply∗, upd_i, guard_i, ex_i}
use base.Fml.{Lft, Share, Fml, ftrue, fsep, fex, flft, flent, finv, fshr_bor}
use contract.BorrowLft.{meet_⊑_left, meet_⊑_right}
use types.Keyed.{entries_from, entries_new, entries_take}
use types.Logic.{Logic, sem}
use types.Owned.{basic}
use types.Tokens.{bor_new, bor_fracture, shr_bor-open, shr_bor_dup, obor_close, lft-common}
use types.Within.{tokens_halve}
use types.Kit.{‵, raw, ◌⊛◌, some as items, given, later, ◌$◌, ◌∵◌, !, qed, by, move, keep, drop, split, split3, group, fsplit, fsplit3, fjoin, fpick, fpack, pick, learn, check, show, frame, assume, suffices, settle, use0, use1, use2, use3, updating, await, now, done}
use denote.RattleType.{RattleType, RowLaws}
use denote.Memory.{shared_of}
use denote.Moves.{moves}
use denote.SharingLaws.{shortens}
use denote.RawPtr.{Ptr, block_of, count_of}
use denote.Steps.{nothing}
use Rattle.core.specs.contracts.option.Option.{the_row as OptionOf}
use Rattle.seize_words.specs.OneMemory.Mem.{value_in}
use Rattle.seize_seats.specs.Seats.Errands.{ViewCode, coded_of}
use Rattle.seize_seats.specs.Seats.State.{State}
use Rattle.seize_seats.specs.Seats.Cells.{Body, Cell, Has, block_in}
use Rattle.seize_seats.specs.Seats.Seen.{shared_view, number_share_coded}
use Rattle.seize_seats.specs.Seats.Stretches.{stretch_shared, seat_shares}
use Rattle.seize_seats.specs.Seats.Lendings.{Phase, Begins, Lasts, Over as Ended, part, due, in_phase, account, Holder, Lending, Loan, Left, span, Witness, Bears, VisibleByWitness, AreShown, IsValueSo, witnessed, loan}
use Rattle.seize_seats.specs.Seats.Owned.{Pieces, stride, BaseId, age, IsIts, Inside, state_of, inner, words_share}
use Rattle.seize_seats.proofs.Seats.Places.Cells.{block_is}
use Rattle.seize_seats.proofs.Seats.Views.Ledgers as Ledgers
use Rattle.seize_seats.proofs.Seats.Places.Numbers as Numbers
use Rattle.seize_seats.proofs.Seats.Stepping.Moves as Moves
use Rattle.seize_seats.proofs.Seats.Blocks.Makings as Makings
use Rattle.seize_seats.proofs.Seats.Views.Hands as Hands

module _ {M : Type 1} {𝓤 : Ura M} (𝓛 : Logic 𝓤) where
  open 𝓛 use {H, A}

  abbrev Pr : Type 2
  Pr = SProp 𝓤

  abbrev ◌⊢◌ : Pr → Pr → Type 1
  P ⊢ Q = ent 𝓤 P Q

  abbrev ◌∗◌ : Pr → Pr → Pr
  P ∗ Q = sep 𝓤 P Q

  abbrev ⟦◌⟧ : Fml → Pr
  ⟦ P ⟧ = sem 𝓛 P

  infix 26 ◌⊢◌
  infixr 35 ◌∗◌
  -- A LENDING LASTS from now on: what was put in at first comes back
  module _ (μ : Lft) (ν : ℕ) (s : Share) (u : ℕ × Share) where
    abbrev Ac : Fml
    Ac = account μ ν s

    abbrev Pt : Fml
    Pt = part ν three_quarters u

    abbrev Due : Fml
    Due = flent μ (flft (u.0 ∷ []) u.1)

    abbrev Back : Pr
    Back = ⟦ Ac ⟧ ∗ A.lft μ s

    by_phase : (ph : Phase) → ⟦ in_phase μ ν s ph ⟧ ∗ ⟦ Pt ⟧ ∗ ⟦ Due ⟧ ⊢ upd 𝓤 Back
    by_phase Begins = qed 𝓛 (‵ (flft μ s) ∷ ‵ Pt ∷ ‵ Due ∷ []) ∵ suffices ! _ (upd_i 𝓤 Back) $ move ! (1 ∷ 2 ∷ []) $ fjoin ! $
        fpack ! (ℕ × Share) (due μ ν s) u $ fpack ! Phase (in_phase μ ν s) Lasts $ done !
    by_phase Lasts = qed 𝓛 (‵ (fex (ℕ × Share) (due μ ν s)) ∷ ‵ Pt ∷ ‵ Due ∷ []) ∵ fpick ! (λ w. fsplit ! $ move ! (0 ∷ 2 ∷ []) $
        use2 𝓛 (given ⊥ (‵ (part ν three_quarters w) ⊛ ‵ Pt)) (Ledgers.once 𝓛 number_share_coded ν 0 w u) $ learn ! (λ no. absurd no))
    by_phase Ended = qed 𝓛 (‵ (fex (ℕ × Share) (part ν full_share)) ∷ ‵ Pt ∷ ‵ Due ∷ []) ∵ fpick ! (λ w.
        use2 𝓛 (given ⊥ (‵ (part ν full_share w) ⊛ ‵ Pt)) (Ledgers.alone 𝓛 number_share_coded ν 0 three_quarters w u) $ learn ! (λ no. absurd no))

    lasts : ⟦ finv Ac ⟧ ∗ ⟦ Pt ⟧ ∗ ⟦ Due ⟧ ⊢ H.⇛ (A.lft μ s)
    lasts = via 𝓤 _ (qed 𝓛 (‵ (finv Ac) ∷ ‵ Pt ∷ ‵ Due ∷ []) ∵ frame ! $ assume ! (‵ Ac) $ fpick ! (λ ph. by ! (by_phase ph)))
        (𝓛.invs.inv_acc Ac (A.lft μ s))

  module _ (R : RattleType) (L : RowLaws (OptionOf R)) (own : Pieces R.Denot) {V W : Type 0} (cv : ViewCode V) (holds : State R.Denot V W → Type 0) (keeps : V → V → W → ℕ
      → Type 0) (p : Ptr) (z : BaseId) (g o : Holder V) (says : Witness V) (n : ℕ) (shown : VisibleByWitness holds g.seat g.view o.seat o.view says n)
      (mine : Makings.Mine 𝓛 R own cv holds keeps p z n) (By : Fml) (also : State R.Denot V W → Type 0) (there : (t : Inside R.Denot V W)
      → ⟦ Makings.Led 𝓛 R own cv holds keeps p z t ⟧ ∗ ⟦ By ⟧ ⊢ guard 𝓤 (also (state_of z t)) (⟦ Makings.Led 𝓛 R own cv holds keeps p z t ⟧ ∗ ⟦ By ⟧)) where
    abbrev α : Lft
    α = age z

    abbrev O : RattleType
    O = OptionOf R

    abbrev I : Fml
    I = inner R own cv holds p z

    abbrev In : Type 0
    In = Inside R.Denot V W

    abbrev i : ℕ
    i = n - 1

    abbrev b : ℕ
    b = block_of z.values

    abbrev e₀ : ℕ
    e₀ = (i - z.first) * stride R + count_of z.values

    abbrev Sh : R.Denot → Lft → Fml
    Sh x = shared_of O (Some x) b e₀

    -- shares of both views, and what shows what else is so
    abbrev Two : Share → Share → Fml
    Two q q' = Hands.two 𝓛 R own cv holds p z g.seat g.view o.seat o.view q q'

    abbrev Sn : Share → Share → Fml
    Sn q q' = fsep (Two q q') By

    -- both stretches, and what the witness has of its view
    abbrev Wd : Fml
    Wd = witnessed R α cv.code z.views_name holds says

    abbrev Told_two : Fml
    Told_two = fsep (stretch_shared cv.code z.views_name g.seat g.view g.stretch g.mark) (stretch_shared cv.code z.views_name o.seat o.view o.stretch o.mark)

    abbrev Told : Fml
    Told = fsep Told_two Wd

    abbrev Over : Lft
    Over = span α g o

    -- it is the block's value, and the number is one of the strip
    abbrev pub So : R.Denot → Type 0
    So x = IsValueSo holds g.seat g.view o.seat o.view also n x × (0 < n) × IsIts z i

    abbrev Led : In → Fml
    Led = Makings.Led 𝓛 R own cv holds keeps p z

    abbrev AreBoth : In → Type 0
    AreBoth = Hands.AreBoth 𝓛 R own cv holds p z g.seat g.view o.seat o.view

    abbrev Sit : In → Type 0
    Sit t = AreBoth t × Bears t.views says × also (state_of z t)

    abbrev Are : Type 0
    Are = AreShown R α cv.code z.views_name holds i g o says

    -- they are two seats, or one with one view
    two_or_one : (st : In) → Sit st → (g.seat ≡ o.seat) ⊎ (g.seat ≢ o.seat) → (g.seat ≢ o.seat) ⊎ ((g.seat ≡ o.seat) × (g.view ≡ o.view))
    two_or_one st at (inr ne) = inl ne
    two_or_one st at (inl same) =
        let e : Some g.view ≡ Some o.view = sym at.0.0 ∙ ap (slice_get st.views) same ∙ at.0.1 in let view : g.view ≡ o.view = cc e in inr (same, view)

    -- ---- THE FIRST OPENING: the block gives a part of its token
    module _ (ν : ℕ) (s t t' : Share) where
      abbrev Acc : Fml
      Acc = account Over ν s

      abbrev Asks : Pr
      Asks = ⟦ Sn t t' ⟧ ∗ ⟦ part ν full_share (0, s) ⟧ ∗ ⟦ finv Acc ⟧ ∗ ⟦ Told ⟧

      -- the value, and the atom of its lifetime with the part
      abbrev Given : R.Denot × ℕ × Share → Pr
      Given u = guard 𝓤 (So u.0) (⟦ Sh u.0 (u.1 ∷ []) ⟧ ∗ A.lft (u.1 ∷ []) u.2 ∗ ⟦ part ν three_quarters (u.1, u.2) ⟧ ∗ ⟦ Sn t t' ⟧)

      abbrev given_item : R.Denot × ℕ × Share → types.Kit.Item 𝓤
      given_item u = given (So u.0) (‵ (Sh u.0 (u.1 ∷ [])) ⊛ ‵ (flft (u.1 ∷ []) u.2) ⊛ ‵ (part ν three_quarters (u.1, u.2)) ⊛ ‵ (Sn t t'))

      abbrev Gives : Pr
      Gives = ⟦ I ⟧ ∗ ex 𝓤 Given

      abbrev lending_of : Share → Lending V
      lending_of e = record { guard = g; owner = o; witness = says; name = ν; part = e; stake = s }

      abbrev new_loan : Loan V → Loan V
      new_loan l = record { atom = l.atom; rest = Share.right l.rest; lendings = lending_of (Share.left l.rest) ∷ l.lendings }

      gives : ⟦ I ⟧ ∗ Asks ⊢ upd 𝓤 Gives
      gives = qed 𝓛 (‵ I ∷ (‵ (Sn t t') ⊛ ‵ (part ν full_share (0, s)) ⊛ ‵ (finv Acc) ⊛ ‵ Told) ∷ []) ∵ fpick ! (λ st. fsplit3 ! $ move ! (2 ∷ []) $
          fpick ! (λ sound. drop ! $ move ! (2 ∷ []) $ split ! $ fsplit ! $ move ! (4 ∷ 0 ∷ []) $
          -- [the views; the seat's; what else shows; the others; the memory]
          use2 𝓛 (given (AreBoth st) (‵ (Led st) ⊛ ‵ (Two t t'))) (Hands.two_show 𝓛 R own cv holds p z g.seat g.view o.seat o.view t t' st) $ learn ! (λ at. split ! $
          move ! (0 ∷ 2 ∷ []) $ use2 𝓛 (given (also (state_of z st)) (‵ (Led st) ⊛ ‵ By)) (there st) $ learn ! (λ too. split ! $
          move ! (2 ∷ 1 ∷ []) $ fjoin ! $ move ! (2 ∷ []) $ split3 ! $ move ! (2 ∷ []) $ fsplit ! $
          -- [the stretches; the witness; the part; the account; the seat's; the views; the memory]
          move ! (5 ∷ 1 ∷ []) $ use2 𝓛 (given (Bears st.views says) (‵ (Led st) ⊛ ‵ Wd)) (Hands.bears 𝓛 R own cv holds p z says st) $ learn ! (λ bears. split ! $
          move ! (2 ∷ 1 ∷ []) $ fjoin ! $ move ! (5 ∷ 2 ∷ 3 ∷ 0 ∷ 1 ∷ []) $
          -- [the memory; the part; the account; the stretch; the views; the seat's]
          by ! (of_any st sound (at, bears, too) (Makings.has_block 𝓛 R own cv holds keeps p z n st sound.1 (shown (state_of z st) sound.0 at.0 at.1 bears))))))))
        where
          of_cell : (st : In) (sound : Makings.Sound 𝓛 R own cv holds keeps p z st) → Sit st → Makings.HasBlock 𝓛 R own cv holds keeps p z n st
              → ⟦ Moves.Ws 𝓛 R own cv holds keeps p z st.parts ⟧ ∗ ⟦ part ν full_share (0, s) ⟧ ∗ ⟦ finv Acc ⟧ ∗ ⟦ Told ⟧ ∗
              ⟦ Makings.Led 𝓛 R own cv holds keeps p z st ⟧ ∗ ⟦ Sn t t' ⟧ ⊢ upd 𝓤 Gives
          of_cell st sound at th =
              let y : Body R.Denot = th.0 in let x : R.Denot = y.0 in let ws : List ℕ = th.1 in let c : Cell R.Denot = Has y ws in let cs : List (Cell R.Denot) = st.parts.cells in
              let low = th.3 in let of = Makings.is_mine 𝓛 R own cv holds keeps p z n st c mine sound.1 th.2 (λ e. absurd (cc e)) low in
              let is = ap value_in (block_is z.roots z.count st.parts sound.1 n low ∙ ap block_in th.2) in
              let so : So x = ((state_of z st, sound.0, at.0.0, at.0.1, at.2, is), low, of) in
              let one : suc i ≡ n = omega (arith, low) in
              let shows : Are = (
                subst (λ (k : ℕ). VisibleByWitness holds g.seat g.view o.seat o.view says k)
                    (sym one) shown,
                two_or_one st at (cases_eq g.seat o.seat),
              ) in
              qed 𝓛 (‵ (Moves.Ws 𝓛 R own cv holds keeps p z st.parts) ∷ ‵ (part ν full_share (0, s)) ∷ ‵ (finv Acc) ∷ ‵ Told ∷
              ‵ (Makings.Led 𝓛 R own cv holds keeps p z st) ∷ ‵ (Sn t t') ∷ []) ∵
              use1 𝓛 (‵ (Makings.cell_of 𝓛 R own cv holds keeps p z i c) ⊛ raw (all 𝓤 (Makings.Recells 𝓛 R own cv holds keeps p z st i)))
              (Numbers.celled 𝓛 R p z (Moves.lent 𝓛 R own cv holds keeps p z) (Moves.had 𝓛 R own cv holds keeps p z) st.parts.words cs i c of th.2) $ split ! $
              fsplit ! $ move ! (1 ∷ []) $ fsplit ! $ move ! (1 ∷ []) $ fsplit ! $ move ! (1 ∷ []) $ fsplit ! $
              -- the own words behind all else
              move ! (1 ∷ 2 ∷ 3 ∷ 4 ∷ 5 ∷ 6 ∷ 7 ∷ 8 ∷ 9 ∷ 10 ∷ 0 ∷ []) $ fpick ! (λ l. let a : ℕ = l.atom in
              let e : Share = Share.left l.rest in let r : Share = Share.right l.rest in
              fsplit3 ! $ move ! (2 ∷ []) $ fsplit3 ! $ move ! (1 ∷ []) $ fpick ! (λ left. drop ! $
              -- [the token; the lendings; it is shared; what is due; the entry; the hand; the sign; the others; the part; the account; the stretch; the
              -- views; the seat's]
              use1 𝓛 (‵ (flft (a ∷ []) e) ⊛ ‵ (flft (a ∷ []) r)) (𝓛.lfts.lft_split (a ∷ []) l.rest) $ split ! $
              move ! (9 ∷ []) $ use1 𝓛 (‵ (part ν quarter (0, s)) ⊛ ‵ (part ν three_quarters (0, s))) (Ledgers.cuts 𝓛 number_share_coded ν 0 (0, s)) $ split ! $
              use2 𝓛 (raw (upd 𝓤 (⟦ part ν quarter (a, e) ⟧ ∗ ⟦ part ν three_quarters (a, e) ⟧))) (Ledgers.sets 𝓛 number_share_coded ν 0 (0, s) (0, s) (a, e)) $
              settle 𝓛 Gives (‵ (part ν quarter (a, e)) ⊛ ‵ (part ν three_quarters (a, e))) $ split ! $ suffices ! _ (upd_i 𝓤 Gives) $
              -- [a quarter; three; e; the token; the lendings; it is shared; what is due; the entry; the hand; the sign; the others; the account; the
              -- stretch; the views; the seat's]
              nothing ! $ fpack ! Are (λ _. ftrue) shows $ move ! (13 ∷ 0 ∷ []) $ fjoin ! $ move ! (12 ∷ 0 ∷ []) $ fjoin ! $
              -- [the account and so on; a quarter; three; e; the token; the lendings; it is shared; what is due; the entry; the hand; the sign; the others;
              -- the views; the seat's]
              move ! (1 ∷ 0 ∷ []) $ fjoin ! $ move ! (0 ∷ 4 ∷ []) $ fjoin ! $
              -- [the lendings; three; e; the token; it is shared; what is due; the entry; the hand; the sign; the others; the views; the seat's]
              nothing ! $ fpack ! (Left full_share (lending_of e ∷ l.lendings) r) (λ _. ftrue) (l.rest, left, Share.halves l.rest) $ move ! (0 ∷ 1 ∷ []) $
              fjoin ! $
              move ! (3 ∷ 0 ∷ []) $ fjoin ! $ move ! (4 ∷ 0 ∷ []) $ fjoin ! $ move ! (3 ∷ []) $
              use1 𝓛 (‵ (Sh x (a ∷ [])) ⊛ ‵ (Sh x (a ∷ []))) ((L (Some x) b e₀).contraction M 𝓤 𝓛 (a ∷ [])) $ split ! $ move ! (0 ∷ 2 ∷ []) $ fjoin ! $
              fpack ! (Loan V) (loan R α cv.code z.views_name holds i x b e₀) (new_loan l) $
              -- [the value; it is shared; three; e; the entry; the hand; the sign; the others; the views; the seat's]
              move ! (10 ∷ 0 ∷ []) $ fjoin ! $ move ! (4 ∷ 0 ∷ []) $ fjoin ! $ move ! (4 ∷ 0 ∷ []) $ fjoin ! $ move ! (4 ∷ 0 ∷ []) $ fjoin ! $
              -- [the cell; it is shared; three; e; the others; the views; the seat's]
              move ! (0 ∷ 4 ∷ 5 ∷ []) $ use3 𝓛 (‵ I) (Makings.recell 𝓛 R own cv holds keeps p z st sound i c (sym (ap block_in th.2))) $
              frame ! $ show ! Given (x, a, e) $ check ! so $ move ! (0 ∷ 2 ∷ 1 ∷ 3 ∷ []) $ done !))

          of_any : (st : In) (sound : Makings.Sound 𝓛 R own cv holds keeps p z st) → Sit st
              → Makings.HasBlock 𝓛 R own cv holds keeps p z n st ⊎ Makings.HeldBlock 𝓛 R own cv holds keeps p z n st
              → ⟦ Moves.Ws 𝓛 R own cv holds keeps p z st.parts ⟧ ∗ ⟦ part ν full_share (0, s) ⟧ ∗ ⟦ finv Acc ⟧ ∗ ⟦ Told ⟧ ∗
              ⟦ Makings.Led 𝓛 R own cv holds keeps p z st ⟧ ∗ ⟦ Sn t t' ⟧ ⊢ upd 𝓤 Gives
          of_any st sound at (inl th) = of_cell st sound at th
          of_any st sound at (inr h) = let S : Fml = fsep (Two t t') Wd in qed 𝓛 (‵ (Moves.Ws 𝓛 R own cv holds keeps p z st.parts) ∷ ‵ (part ν full_share (0, s)) ∷
              ‵ (finv Acc) ∷ ‵ Told ∷ ‵ (Led st) ∷ ‵ (Sn t t') ∷ []) ∵ move ! (3 ∷ []) $ fsplit ! $ move ! (6 ∷ []) $ fsplit ! $
              -- [the seat's; what else shows; the stretches; the witness; the memory; the part; the account; the views]
              move ! (0 ∷ 3 ∷ []) $ fjoin ! $ keep ! (3 ∷ 6 ∷ 0 ∷ []) $
              by ! (Makings.held_away 𝓛 R own cv holds keeps p z n st mine sound h g.seat g.view o.seat o.view says S
              (Hands.shows_with 𝓛 R own cv holds p z g.seat g.view o.seat o.view says (Two t t') (Hands.two_show 𝓛 R own cv holds p z g.seat g.view o.seat o.view t t'))
              (Hands.crowds_with 𝓛 R own cv holds p z g.seat g.view o.seat o.view says (Two t t') (Hands.two_crowd 𝓛 R own cv holds p z g.seat g.view o.seat o.view t t'))
              (upd 𝓤 Gives) shown)

    -- ---- what is shared for the value's lifetime is shared for as long as both are borrowed
    module _ (κ : Lft) where
      abbrev lasts_for : ℕ → Fml
      lasts_for σ = fshr_bor κ (λ q. flft (σ ∷ []) q)

      near : (x : R.Denot) (a : ℕ) → ⟦ fshr_bor Over (λ q. flft (a ∷ []) q) ⟧ ∗ ⟦ Sh x (a ∷ []) ⟧ ∗ ⟦ fshr_bor κ (λ q. flft α q) ⟧ ∗
          ⟦ lasts_for g.stretch ⟧ ∗ ⟦ lasts_for o.stretch ⟧ ⊢ ⟦ Sh x κ ⟧
      near x a = let σ : Lft = g.stretch ∷ [] in let ρ : Lft = o.stretch ∷ [] in let μ : Lft = α ++ κ in let ν : Lft = ρ ++ μ in let Ls = L (Some x) b e₀ in
          qed 𝓛 (‵ (fshr_bor Over (λ q. flft (a ∷ []) q)) ∷ ‵ (Sh x (a ∷ [])) ∷ ‵ (fshr_bor κ (λ q. flft α q)) ∷ ‵ (fshr_bor κ (λ q. flft σ q)) ∷
          ‵ (fshr_bor κ (λ q. flft ρ q)) ∷ []) ∵
          move ! (1 ∷ []) $ use1 𝓛 (‵ (Sh x ((a ∷ []) ++ Over))) (shortens 𝓛 (Sh x) Ls (a ∷ []) ((a ∷ []) ++ Over) (meet_⊑_left (a ∷ []) Over)) $
          move ! (1 ∷ 0 ∷ []) $
          use2 𝓛 (‵ (Sh x Over)) (moves 𝓛 (Sh x) Ls Over (a ∷ [])) $
          use1 𝓛 (‵ (Sh x (σ ++ ν))) (shortens 𝓛 (Sh x) Ls Over (σ ++ ν) (meet_⊑_left Over κ)) $ move ! (2 ∷ []) $
          -- [the one stretch; it is shared; α; the other stretch]
          use1 𝓛 (‵ (fshr_bor ν (λ q. flft σ q))) (𝓛.shr_bors.shr_bor_shorten κ ν (λ q. flft σ q) (meet_⊑_right (o.stretch ∷ α) κ)) $ move ! (0 ∷ 1 ∷ []) $
          use2 𝓛 (‵ (Sh x ν)) (moves 𝓛 (Sh x) Ls ν σ) $ move ! (2 ∷ []) $
          use1 𝓛 (‵ (fshr_bor μ (λ q. flft ρ q))) (𝓛.shr_bors.shr_bor_shorten κ μ (λ q. flft ρ q) (meet_⊑_right α κ)) $ move ! (0 ∷ 1 ∷ []) $
          use2 𝓛 (‵ (Sh x μ)) (moves 𝓛 (Sh x) Ls μ ρ) $ move ! (1 ∷ 0 ∷ []) $ by ! (moves 𝓛 (Sh x) Ls κ α)

      abbrev pub Lent : R.Denot → Pr
      Lent x = guard 𝓤 (So x) ⟦ Sh x κ ⟧

      abbrev unused : Share → ℕ → Fml
      unused c ν = entries_from shared_view ν 0 (λ _. (full_share, number_share_coded.code (0, c)))

      abbrev Unused : Share → ℕ → Pr
      Unused c ν = ⟦ unused c ν ⟧

      abbrev shares_of : Holder V → Fml
      shares_of h = seat_shares cv.code z.views_name h.seat h.view h.stretch h.mark κ

      -- THE VALUE IS LENT
      pub lent_to : (q : Share) → ⟦ words_share R own cv holds p z κ ⟧ ∗ ⟦ shares_of g ⟧ ∗ ⟦ shares_of o ⟧ ∗ A.lft κ q ∗ ⟦ fsep By Wd ⟧
          ⊢ H.⇛ (ex 𝓤 Lent ∗ A.lft κ q ∗ ⟦ By ⟧)
      lent_to q = let q₁ : Share = Share.left q in let q₂ : Share = Share.right q in let q₃ : Share = Share.left q₂ in let q₄ : Share = Share.right q₂ in
          let q₅ : Share = Share.left q₄ in let q₆ : Share = Share.right q₄ in let q₇ : Share = Share.left q₆ in let q₈ : Share = Share.right q₆ in
          let σ : Lft = g.stretch ∷ [] in let ρ : Lft = o.stretch ∷ [] in
          qed 𝓛 (‵ (words_share R own cv holds p z κ) ∷ ‵ (shares_of g) ∷ ‵ (shares_of o) ∷ ‵ (flft κ q) ∷ ‵ (fsep By Wd) ∷ []) ∵ updating ! $ fsplit ! $
          shr_bor_dup ! $ move ! (2 ∷ []) $ fsplit ! $ fpick ! (λ placed. drop ! $ move ! (3 ∷ []) $ fsplit3 ! $ shr_bor_dup ! $
          move ! (7 ∷ []) $ fsplit3 ! $ shr_bor_dup ! $
          -- [ρ, twice; its view; its stretch; σ, twice; its view; its stretch; the invariant; α, twice; the token]
          move ! (11 ∷ []) $ use1 𝓛 (‵ (flft κ q₁) ⊛ ‵ (flft κ q₂)) (𝓛.lfts.lft_split κ q) $ split ! $ move ! (1 ∷ []) $
          use1 𝓛 (‵ (flft κ q₃) ⊛ ‵ (flft κ q₄)) (𝓛.lfts.lft_split κ q₂) $ split ! $ move ! (1 ∷ []) $
          use1 𝓛 (‵ (flft κ q₅) ⊛ ‵ (flft κ q₆)) (𝓛.lfts.lft_split κ q₄) $ split ! $ move ! (1 ∷ []) $
          use1 𝓛 (‵ (flft κ q₇) ⊛ ‵ (flft κ q₈)) (𝓛.lfts.lft_split κ q₆) $ split ! $
          -- [q₇; q₈; q₅; q₃; q₁; ρ, twice; its view; its stretch; σ, twice; its view; its stretch; the invariant; α, twice]
          move ! (14 ∷ 0 ∷ []) $ shr_bor-open ! tt (tokens_halve 𝓛 α) (λ r. move ! (10 ∷ 2 ∷ []) $ shr_bor-open ! tt (tokens_halve 𝓛 σ) (λ s.
          move ! (7 ∷ 4 ∷ []) $ shr_bor-open ! tt (tokens_halve 𝓛 ρ) (λ s'.
          move ! (12 ∷ 6 ∷ []) $ shr_bor-open ! tt (Ledgers.view_halves 𝓛 (coded_of cv) z.views_name g.seat g.view) (λ t.
          move ! (10 ∷ 8 ∷ []) $ shr_bor-open ! tt (Ledgers.view_halves 𝓛 (coded_of cv) z.views_name o.seat o.view) (λ t'.
          let r₁ : Share = Share.left r in let r₂ : Share = Share.right r in let c₁ : Share = (common s' r₂).0 in let c : Share = (common s c₁).0 in
          let Owners : Pr = A.lft ρ s' ∗ A.lft α r₂ in let Both : Pr = A.lft σ s ∗ A.lft (ρ ++ α) c₁ in
          -- [ρ's view is open; the view; σ's view is open; the view; ρ is open; its token; σ is open; its token; α is open; its token; ρ; its stretch; σ;
          -- its stretch; the invariant; α]
          move ! (9 ∷ []) $ use1 𝓛 (‵ (flft α r₁) ⊛ ‵ (flft α r₂)) (𝓛.lfts.lft_split α r) $ split ! $ move ! (7 ∷ 1 ∷ []) $
          use2 𝓛 (‵ (flft (ρ ++ α) c₁) ⊛ raw (wand 𝓤 (A.lft (ρ ++ α) c₁) Owners)) (lft-common 𝓛 ρ α s' r₂) $ split ! $ move ! (9 ∷ 0 ∷ []) $
          use2 𝓛 (‵ (flft Over c) ⊛ raw (wand 𝓤 (A.lft Over c) Both)) (lft-common 𝓛 σ (ρ ++ α) s c₁) $ split ! $
          -- [all three; the way back; that to ρ and α; α's token; ρ's view is open; the view; σ's view is open; the view; ρ is open; σ is open; α is open;
          -- ρ; its stretch; σ; its stretch; the invariant; α]
          use0 𝓛 (later (items (λ (ν : ℕ). ‵ (unused c ν)))) (via 𝓤 _ (entries_new shared_view 𝓛 0 (λ _. (full_share, number_share_coded.code (0, c))))
          (basic 𝓛 (ex 𝓤 (Unused c)))) $ await ! tt $ pick ! (λ ν. let Ac : Fml = account Over ν c in
          let Rest : Fml = entries_from shared_view ν 1 (λ _. (full_share, number_share_coded.code (0, c))) in
          use1 𝓛 (‵ (part ν full_share (0, c)) ⊛ ‵ Rest) (entries_take shared_view 𝓛 ν 0 (λ _. (full_share, number_share_coded.code (0, c)))) $ split ! $
          move ! (1 ∷ []) $ drop ! $ move ! (1 ∷ []) $ fpack ! Phase (in_phase Over ν c) Begins $
          use1 𝓛 (later (‵ (finv Ac))) (𝓛.invs.inv_new Ac) $ await ! tt $ use1 𝓛 (‵ (finv Ac) ⊛ ‵ (finv Ac)) (𝓛.invs.inv_dup Ac) $ split ! $
          -- [the account, twice; the part; the two ways back; α's token; ρ's view is open; the view; σ's view is open; the view; ρ is open; σ is open; α is
          -- open; ρ; its stretch; σ; its stretch; the invariant; α]
          move ! (9 ∷ 7 ∷ []) $ fjoin ! $ move ! (15 ∷ 13 ∷ []) $ fjoin ! $ move ! (17 ∷ []) $ fsplit ! $ move ! (2 ∷ 1 ∷ []) $ fjoin ! $
          move ! (2 ∷ 1 ∷ []) $ fjoin ! $ move ! (1 ∷ 0 ∷ []) $ move ! (1 ∷ 4 ∷ 2 ∷ 0 ∷ []) $ group ! 4 $ move ! (12 ∷ 4 ∷ 0 ∷ []) $
          use3 𝓛 (later (items (given_item ν c t t') ⊛ ‵ (flft α r₁))) (Moves.reach 𝓛 R own cv holds keeps p z r₁ (Asks ν c t t') (ex 𝓤 (Given ν c t t'))
          (gives ν c t t')) $
          await ! tt $ split ! $ pick ! (λ u. learn ! (λ so. let x : R.Denot = u.0 in let a : ℕ = u.1 in let e : Share = u.2 in split3 ! $ move ! (2 ∷ []) $
          split ! $
          -- [three; the views; it is shared; e; α's token; the account; the two ways back; ρ's view is open; σ's; ρ is open; σ; α; ρ; σ; α]
          move ! (3 ∷ []) $ bor_new ! tt Over $ move ! (6 ∷ 2 ∷ 1 ∷ []) $
          use3 𝓛 (later (‵ (flft Over c))) (lasts Over ν c (a, e)) $ await ! tt $
          -- [all three; the borrow; the views; it is shared; α's token; the two ways back; ρ's view is open; σ's; ρ is open; σ; α; ρ; σ; α]
          move ! (0 ∷ 5 ∷ []) $ use2 𝓛 (‵ (flft σ s) ⊛ ‵ (flft (ρ ++ α) c₁)) (apply∗ 𝓤 (A.lft Over c) Both) $ split ! $
          move ! (1 ∷ 6 ∷ []) $ use2 𝓛 (‵ (flft ρ s') ⊛ ‵ (flft α r₂)) (apply∗ 𝓤 (A.lft (ρ ++ α) c₁) Owners) $ split ! $
          -- [ρ's token; α's other part; σ's token; the borrow; the views; it is shared; α's token; ρ's view is open; σ's; ρ is open; σ; α; ρ; σ; α]
          move ! (9 ∷ 0 ∷ []) $ obor_close ! tt $ drop ! $ move ! (9 ∷ 2 ∷ []) $ obor_close ! tt $ drop ! $
          -- [q₈; q₅; α's other part; the borrow; the views; it is shared; α's token; ρ's view is open; σ's; α; ρ; σ; α]
          move ! (4 ∷ []) $ fsplit ! $ move ! (0 ∷ 2 ∷ 3 ∷ 4 ∷ 5 ∷ 6 ∷ 7 ∷ 8 ∷ 9 ∷ 10 ∷ 11 ∷ 12 ∷ 13 ∷ []) $ fsplit ! $ move ! (9 ∷ 0 ∷ []) $ obor_close ! tt $ drop ! $ move ! (8 ∷ 1 ∷ []) $ obor_close ! tt $ drop ! $
          -- [q₁; q₃; q₈; q₅; α's other part; the borrow; it is shared; α's token; α is open; ρ; σ; α]
          move ! (7 ∷ 4 ∷ []) $ use2 𝓛 (‵ (flft α r)) (𝓛.lfts.lft_join α r) $ move ! (7 ∷ 0 ∷ []) $ obor_close ! tt $ drop ! $
          -- [q₇; q₁; q₃; q₈; q₅; the borrow; it is shared; ρ; σ; α]
          move ! (0 ∷ 3 ∷ []) $ use2 𝓛 (‵ (flft κ q₆)) (𝓛.lfts.lft_join κ q₆) $ move ! (3 ∷ 0 ∷ []) $ use2 𝓛 (‵ (flft κ q₄)) (𝓛.lfts.lft_join κ q₄) $
          move ! (2 ∷ 0 ∷ []) $ use2 𝓛 (‵ (flft κ q₂)) (𝓛.lfts.lft_join κ q₂) $ move ! (1 ∷ 0 ∷ []) $ use2 𝓛 (‵ (flft κ q)) (𝓛.lfts.lft_join κ q) $
          -- [the token; the borrow; it is shared; ρ; σ; α]
          move ! (1 ∷ []) $ bor_fracture ! tt (λ w. flft (a ∷ []) w) e $ move ! (0 ∷ 2 ∷ 5 ∷ 4 ∷ 3 ∷ []) $ group ! 5 $ use1 𝓛 (‵ (Sh x κ)) (near x a) $
          use1 𝓛 (raw (ex 𝓤 Lent)) (via 𝓤 (Lent x) (guard_i 𝓤 (So x) ⟦ Sh x κ ⟧ so) (ex_i 𝓤 Lent x)) $ now ! $ done !)))))))))
