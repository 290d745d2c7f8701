-- A value that can be lent, from one that is owned, and back once no lending lasts. Assumes `Logic`.
use Rattle.std.proofs.Common.{◌≡◌, ℕ, List, [], ◌∷◌, refl, sym, subst, Some}
use seplogic.Ra.Ura.{Ura}
use base.Fraction.{full_share}
use base.Share.{quarter}
use base.Stored.{Coded}
use base.Logic.{SProp, ent, sep, upd, via, never, never_e, upd_i}
use base.Fml.{Lft, Share, Fml, Incl, Incl-trans, ftrue, fex, flft, fdead, flent, finv}
use ghost.Rules.{Toks}
use contract.BorrowLft.{meet_⊑_left, meet_⊑_right}
use types.Logic.{Logic, sem}
use types.Tokens.{lft_new, lft_end, bor_new, lent_back}
use types.Kit.{‵, raw, ◌⊛◌, given, later, ◌$◌, ◌∵◌, !, qed, by, move, keep, drop, split, split3, group, fsplit, fsplit3, fjoin, fpick, fpack, learn, frame, assume, suffices, use1, use2, use3, rewrite, updating, await, now, done}
use denote.RattleType.{RattleType}
use denote.Memory.{part_at, shared_of}
use denote.Shares.{Shares}
use denote.Steps.{nothing}
use Rattle.core.specs.contracts.option.Option.{the_row as OptionOf}
use Rattle.seize_seats.specs.Seats.State.{State}
use Rattle.seize_seats.specs.Seats.Seen.{number_share_coded}
use Rattle.seize_seats.specs.Seats.Lendings.{Phase, Begins, Lasts, Over, part, due, in_phase, account, Lending, Loan, Left, span, lending, lendings, loan, lendable}
use Rattle.seize_seats.proofs.Seats.Views.Ledgers as Ledgers

module _ {M : Type 1} {𝓤 : Ura M} (𝓛 : Logic 𝓤) where
  open 𝓛 use {H, A}

  abbrev Pr : Type 2
  Pr = SProp 𝓤

  abbrev ◌⊢◌ : Pr → Pr → Type 1
  P ⊢ Q = ent 𝓤 P Q

  abbrev ◌∗◌ : Pr → Pr → Pr
  P ∗ Q = sep 𝓤 P Q

  abbrev ⟦◌⟧ : Fml → Pr
  ⟦ P ⟧ = sem 𝓛 P

  infix 26 ◌⊢◌
  infixr 35 ◌∗◌
  -- the right to the part is had where the stretch has ended
  module _ (μ : Lft) (ν : ℕ) (s : Share) (u : ℕ × Share) where
    abbrev Ac : Fml
    Ac = account μ ν s

    abbrev Due : Fml
    Due = flent μ (flft (u.0 ∷ []) u.1)

    abbrev Settled : Pr
    Settled = ⟦ Ac ⟧ ∗ ⟦ Due ⟧

    by_phase : (ph : Phase) → ⟦ in_phase μ ν s ph ⟧ ∗ ⟦ part ν quarter u ⟧ ∗ A.dead μ ⊢ upd 𝓤 Settled
    by_phase Begins = qed 𝓛 (‵ (flft μ s) ∷ ‵ (part ν quarter u) ∷ ‵ (fdead μ) ∷ []) ∵ move ! (0 ∷ 2 ∷ []) $
        use2 𝓛 (raw (never 𝓤)) (𝓛.lfts.lft-dead μ s) $ keep ! (0 ∷ []) $ by ! (never_e 𝓤 (upd 𝓤 Settled))
    by_phase Lasts = qed 𝓛 (‵ (fex (ℕ × Share) (due μ ν s)) ∷ ‵ (part ν quarter u) ∷ ‵ (fdead μ) ∷ []) ∵ fpick ! (λ w. fsplit ! $ move ! (2 ∷ 0 ∷ []) $
        use2 𝓛 (given (u ≡ w) (‵ (part ν full_share u))) (Ledgers.glues 𝓛 number_share_coded ν 0 u w) $ learn ! (λ same.
        -- [the whole of the part; what is due; dead]
        fpack ! (ℕ × Share) (part ν full_share) u $ fpack ! Phase (in_phase μ ν s) Over $ suffices ! _ (upd_i 𝓤 Settled) $ move ! (1 ∷ []) $
        rewrite ! 0 (λ (t : ℕ × Share). ‵ (flent μ (flft (t.0 ∷ []) t.1))) (sym same) refl $ keep ! (1 ∷ 0 ∷ []) $ done !))
    by_phase Over = qed 𝓛 (‵ (fex (ℕ × Share) (part ν full_share)) ∷ ‵ (part ν quarter u) ∷ ‵ (fdead μ) ∷ []) ∵ fpick ! (λ w.
        use2 𝓛 (given ⊥ (‵ (part ν full_share w) ⊛ ‵ (part ν quarter u))) (Ledgers.alone 𝓛 number_share_coded ν 0 quarter w u) $ learn ! (λ no. absurd no))

    settles : ⟦ finv Ac ⟧ ∗ ⟦ part ν quarter u ⟧ ∗ A.dead μ ⊢ H.⇛ ⟦ Due ⟧
    settles = via 𝓤 _ (qed 𝓛 (‵ (finv Ac) ∷ ‵ (part ν quarter u) ∷ ‵ (fdead μ) ∷ []) ∵ frame ! $ assume ! (‵ Ac) $ fpick ! (λ ph. by ! (by_phase ph)))
        (𝓛.invs.inv_acc Ac ⟦ Due ⟧)

  module _ (R : RattleType) (α : Lft) {V W : Type 0} (cv : Coded V) (γ : ℕ) (holds : State R.Denot V W → Type 0) where
    abbrev O : RattleType
    O = OptionOf R

    abbrev pub One : ℕ → ℕ → Lending V → Fml
    One = lending R α cv.code γ holds

    abbrev All : ℕ → ℕ → List (Lending V) → Fml
    All = lendings R α cv.code γ holds

    abbrev pub Lent : ℕ → R.Denot → ℕ → ℕ → Fml
    Lent = lendable R α cv.code γ holds

    abbrev pub Own : R.Denot → ℕ → ℕ → Fml
    Own x b o = part_at O full_share (Some x) b o

    returns : (i a : ℕ) (l : Lending V) → A.dead (span α l.guard l.owner) ∗ ⟦ One i a l ⟧ ⊢ H.⇛ (A.lft (a ∷ []) l.part)
    returns i a l = let δ : Lft = span α l.guard l.owner in let P : Fml = flft (a ∷ []) l.part in
        qed 𝓛 (‵ (fdead δ) ∷ ‵ (One i a l) ∷ []) ∵ updating ! $ use1 𝓛 (‵ (fdead δ) ⊛ ‵ (fdead δ)) (𝓛.lfts.dead_dup δ) $ split ! $ move ! (2 ∷ []) $ fsplit3 ! $
        -- [the part; the account; the others; dead; dead]
        move ! (1 ∷ 0 ∷ 3 ∷ []) $ use3 𝓛 (later (‵ (flent δ P))) (settles δ l.name l.stake (a, l.part)) $ await ! tt $
        move ! (2 ∷ 0 ∷ []) $ lent_back ! tt $ now ! $ keep ! (0 ∷ []) $ done !

    -- K shows of each lending that its stretch has ended
    module _ (i : ℕ) (K : Pr) (dies : (a : ℕ) (l : Lending V) → K ∗ ⟦ One i a l ⟧ ⊢ H.⇛ (K ∗ A.dead (span α l.guard l.owner) ∗ ⟦ One i a l ⟧)) where
      gathers : (a : ℕ) (ls : List (Lending V)) (q r : Share) → Left q ls r → K ∗ ⟦ All i a ls ⟧ ∗ A.lft (a ∷ []) r ⊢ H.⇛ (K ∗ A.lft (a ∷ []) q)
      gathers a [] q r e = subst (λ (x : Share). K ∗ ⟦ All i a [] ⟧ ∗ A.lft (a ∷ []) r ⊢ H.⇛ (K ∗ A.lft (a ∷ []) x)) (sym e)
          (qed 𝓛 (raw K ∷ ‵ ftrue ∷ ‵ (flft (a ∷ []) r) ∷ []) ∵ updating ! $ move ! (1 ∷ []) $ drop ! $ now ! $ done !)
      gathers a (l ∷ ls) q r t = qed 𝓛 (raw K ∷ ‵ (All i a (l ∷ ls)) ∷ ‵ (flft (a ∷ []) r) ∷ []) ∵ updating ! $ move ! (1 ∷ []) $ fsplit ! $ move ! (2 ∷ 0 ∷ []) $
          use2 𝓛 (later (raw K ⊛ ‵ (fdead (span α l.guard l.owner)) ⊛ ‵ (One i a l))) (dies a l) $ await ! tt $ split3 ! $
          -- [K; dead; the lending; the others; the token]
          move ! (1 ∷ 2 ∷ []) $ use2 𝓛 (later (‵ (flft (a ∷ []) l.part))) (returns i a l) $ await ! tt $ move ! (0 ∷ 3 ∷ []) $
          use2 𝓛 (‵ (flft (a ∷ []) t.0)) (𝓛.lfts.lft_glue (a ∷ []) t.0 l.part r t.2) $ move ! (1 ∷ 2 ∷ 0 ∷ []) $
          use3 𝓛 (later (raw K ⊛ ‵ (flft (a ∷ []) q))) (gathers a ls q t.0 t.1) $ await ! tt $ split ! $ now ! $ done !

      -- THE VALUE IS OWNED AGAIN
      pub regains : (x : R.Denot) (b o : ℕ) → K ∗ ⟦ Lent i x b o ⟧ ⊢ H.⇛ (K ∗ ⟦ Own x b o ⟧)
      regains x b o = qed 𝓛 (raw K ∷ ‵ (Lent i x b o) ∷ []) ∵ updating ! $ move ! (1 ∷ []) $ fpick ! (λ n. let a : ℕ = n.atom in fsplit3 ! $ drop ! $
          move ! (1 ∷ []) $ fsplit3 ! $ move ! (1 ∷ []) $ fpick ! (λ left. drop ! $
          -- [the token; the lendings; what is due; K]
          move ! (3 ∷ 1 ∷ 0 ∷ []) $ use3 𝓛 (later (raw K ⊛ ‵ (flft (a ∷ []) full_share))) (gathers a n.lendings full_share n.rest left) $ await ! tt $ split ! $
          move ! (1 ∷ []) $ lft_end ! tt $ move ! (0 ∷ 2 ∷ []) $ lent_back ! tt $ now ! $ move ! (1 ∷ 0 ∷ []) $ done !))

    -- once the lifetime of the memory is over, whatever was lent
    pub over : (i : ℕ) (x : R.Denot) (b o : ℕ) → A.dead α ∗ ⟦ Lent i x b o ⟧ ⊢ H.⇛ (A.dead α ∗ ⟦ Own x b o ⟧)
    over i = regains i (A.dead α) dies
      where
        dies : (a : ℕ) (l : Lending V) → A.dead α ∗ ⟦ One i a l ⟧ ⊢ H.⇛ (A.dead α ∗ A.dead (span α l.guard l.owner) ∗ ⟦ One i a l ⟧)
        dies a l = qed 𝓛 (‵ (fdead α) ∷ ‵ (One i a l) ∷ []) ∵ updating ! $ use1 𝓛 (‵ (fdead α) ⊛ ‵ (fdead α)) (𝓛.lfts.dead_dup α) $ split ! $
            use1 𝓛 (‵ (fdead (span α l.guard l.owner))) (𝓛.lfts.dead-incl (span α l.guard l.owner) α (meet_⊑_right (l.guard.stretch ∷ l.owner.stretch ∷ []) α)) $ now ! $ move ! (1 ∷ 0 ∷ 2 ∷ []) $ done !

    -- A VALUE THAT IS OWNED can be lent from now on
    pub offers : Shares 𝓛 O O.lives → (i : ℕ) (x : R.Denot) (b o : ℕ) (τ : Lft) (s : Share) → Incl τ O.lives
        → ⟦ Own x b o ⟧ ∗ A.lft τ s ⊢ H.⇛ (⟦ Lent i x b o ⟧ ∗ A.lft τ s)
    offers shares i x b o τ s inc = qed 𝓛 (‵ (Own x b o) ∷ ‵ (flft τ s) ∷ []) ∵ updating ! $ lft_new ! tt (λ a. let ts : Toks = (a ∷ [], full_share) ∷ (τ, s) ∷ [] in
        let n : Loan V = record { atom = a; rest = full_share; lendings = [] } in
        move ! (1 ∷ []) $ bor_new ! tt (a ∷ []) $ move ! (2 ∷ 3 ∷ []) $ group ! 2 $ move ! (1 ∷ 0 ∷ []) $
        use2 𝓛 (later (‵ (shared_of O (Some x) b o (a ∷ [])) ⊛ ‵ (flft (a ∷ []) full_share) ⊛ ‵ (flft τ s)))
        (shares (Some x) (a ∷ []) ts b o (Incl-trans (meet_⊑_right (a ∷ []) τ) inc) (meet_⊑_left (a ∷ []) τ)) $ await ! tt $ split3 ! $
        -- [it is shared; the token; the type's token; what is due]
        nothing ! $ nothing ! $ fpack ! (Left {V = V} full_share [] full_share) (λ _. ftrue) refl $ fjoin ! $ move ! (2 ∷ 0 ∷ []) $ fjoin ! $
        move ! (3 ∷ 0 ∷ []) $ fjoin ! $ move ! (1 ∷ 0 ∷ []) $ fjoin ! $ fpack ! (Loan V) (loan R α cv.code γ holds i x b o) n $ now ! $ done !)
