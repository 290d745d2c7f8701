-- How a seat that is had by `&mut` is sent on an errand for which seats are lent, or none, and how it comes back: it is lent to whoever takes the steps, for a
-- lifetime within that of the `&mut`. Assumes `Logic`.
use Rattle.std.specs.Prelude.{Some, None}
use Rattle.std.proofs.Common.{◌≡◌, ℕ, List, [], ◌∷◌, refl, inl, inr}
use mir.Syntax.{named}
use mir.Val.{Val, vptr}
use seplogic.Ra.Ura.{Ura}
use base.Share
use base.Logic.{SProp, ent, sep, ex, apply∗}
use base.Fml.{Lft, Share, Fml, flft, fdead, fbor, fobs, fres}
use types.Logic.{Logic, sem}
use types.SemTy.{Body}
use types.Kit.{‵, raw, ◌⊛◌, later, ◌$◌, ◌∵◌, !, qed, move, keep, split, split3, fsplit, fsplit3, fjoin, fjoin3, group, use1, use2, use3, await, rewrite, feq_i, some as items, pick, show, updating, now, done}
use denote.RattleType.{RattleType}
use denote.Memory.{mem}
use denote.Lend.{LentAgain, lends_again, comes_back}
use denote.Ref.{MutRef}
use denote.Steps.{opens, closes}
use Rattle.seize_seats.specs.contracts.kept.Kept as kept_of
use Rattle.seize_seats.specs.Plots.Pieces.{kept_words}
use Rattle.seize_seats.specs.Seats.Errands.{Away, Aided, ViewCode, coded_of, aide_stake}
use Rattle.seize_seats.specs.Seats.Owned.{words_share}
use Rattle.seize_seats.specs.Seats.State.{State}
use Rattle.seize_seats.specs.Seats.Stretches.{seat_owns}
use Rattle.seize_seats.proofs.Seats.Views.Stretches.{ends, begins}
use Rattle.seize_seats.proofs.Seats.Views.Inside.{Ends, begins_within}
use Rattle.seize_seats.proofs.Seats.Stepping.Moves.{seat as seat_of}
use Rattle.seize_seats.proofs.Seats.Stepping.Outings as Outings
use Rattle.seize_seats.specs.declared.kept.Kept.{Kept}
use Rattle.seize_atoms.specs.declared.rule.Rule.{Ghosts}
use Rattle.seize_atoms.specs.Visiting.{Seen, HoldsSince, keeps_here, seat_coded}
use Rattle.seize_atoms.specs.contracts.words.StripWords as words
use Rattle.seize_atoms.specs.contracts.seat.Seat as seat
use Rattle.seize_atoms.proofs.Allowed.{errand_allowed}

-- What a seat on its way is known by: the part of the memory's token that is cut for it, its stretch, the lifetime for which it is lent and the share of that
-- one's token, and the name under which it is lent.
pub record Trip : Type 0 where
  pub cut : Share
  pub stretch : ℕ
  pub mark : ℕ
  pub atom : ℕ
  pub token : Share
  pub name : ℕ

-- κ, q: how the words are shared; κ₁, q₁: how the seat, at (b, o) under γ, is had
module _ {M : Type 1} {𝓤 : Ura M} (𝓛 : Logic 𝓤) (X R V F : RattleType) (g : Ghosts R.Denot X.Denot V.Denot F.Denot) (t : (words.the_row X R V F g).Denot)
    (κ : Lft) (q : Share) (κ₁ : Lft) (q₁ : Share) (γ b o : ℕ) (a : Aided) where
  open 𝓛 use {H, A}

  abbrev Pr : Type 2
  Pr = SProp 𝓤

  abbrev ◌⊢◌ : Pr → Pr → Type 1
  P ⊢ Q = ent 𝓤 P Q

  abbrev ◌∗◌ : Pr → Pr → Pr
  P ∗ Q = sep 𝓤 P Q

  abbrev ⟦◌⟧ : Fml → Pr
  ⟦ P ⟧ = sem 𝓛 P

  infix 26 ◌⊢◌
  infixr 35 ◌∗◌
  abbrev Sr : RattleType
  Sr = seat.the_row X R V F g

  abbrev K : RattleType
  K = kept_of.the_row X

  abbrev cv : ViewCode (Seen V.Denot)
  cv = seat_coded V.coded

  abbrev holds : State (Kept X.Denot) (Seen V.Denot) g.World → Type 0
  holds = HoldsSince g.rests g.leans t.start (g.holds t.fixed) g.keeps

  abbrev keeps : Seen V.Denot → Seen V.Denot → g.World → ℕ → Type 0
  keeps = keeps_here g.keeps

  abbrev Shared : Fml
  Shared = words_share K kept_words cv holds t.words t.id κ

  abbrev Seat : ℕ → Seen V.Denot → Fml
  Seat = seat_of 𝓛 K kept_words cv holds keeps t.words t.id

  abbrev Owns : ℕ → Seen V.Denot → ℕ × ℕ → Fml
  Owns id v st = seat_owns cv.code t.id.views_name id v st.0 st.1

  abbrev Pledge : ℕ → Share → Fml
  Pledge id = Outings.pledge 𝓛 K kept_words cv holds keeps t.words t.id id κ q

  abbrev Aides : Fml
  Aides = aide_stake t.id.views_name a

  -- a `&mut` to the seat, for a lifetime and under a name
  abbrev Ref : Lft → ℕ → Sr.Denot → Fml
  Ref ν δ x = (MutRef (named 1) ν Sr).own_val (record { ref_ptr = (b, o); ghost_name = δ; now = x }) (vptr b o ∷ [])

  abbrev Value : Sr.Denot → Fml
  Value h = fobs γ (Sr.coded.code h)

  abbrev Lent : Fml
  Lent = fbor κ₁ (Body (mem Sr) b o γ)

  -- what is known of a seat on its way, with the part of the token that it has left
  abbrev out : Sr.Denot → Share → Seen V.Denot
  out h r = ((h.view, h.visit), Some record { part = r; aided = a })

  -- the seat as it goes
  abbrev pub gone : Sr.Denot → Trip → Sr.Denot
  gone h x = record {
    marker = h.marker;
    base = t.id.views_name;
    id = h.id;
    view = h.view;
    visit = h.visit;
    away = Some record { part = Share.right x.cut; aided = a };
    stretch = x.stretch;
    mark = x.mark;
  }

  -- and as it is back
  abbrev pub back : Sr.Denot → ℕ → ℕ × ℕ → Sr.Denot
  back h id st = record { marker = h.marker; base = t.id.views_name; id = id; view = h.view; visit = h.visit; away = None; stretch = st.0; mark = st.1 }

  abbrev pub trip : Trip → Lft
  trip x = x.atom ∷ κ₁

  abbrev Lender : Sr.Denot → Trip → Fml
  Lender h x = LentAgain Sr κ₁ (trip x) (Share.left q₁) γ b o x.name (gone h x)

  abbrev On : Sr.Denot → Trip → Pr
  On h x =
      ⟦ Ref (trip x) x.name (gone h x) ⟧ ∗ ⟦ Lender h x ⟧ ∗ A.lft (trip x) x.token ∗ Ends 𝓛 κ₁ (Share.right q₁) x.atom x.token
      ∗ ⟦ Pledge h.id x.cut ⟧

  abbrev pub under_way : Sr.Denot → types.Kit.Item 𝓤
  under_way h = later (items (λ (x : Trip). ‵ (Ref (trip x) x.name (gone h x)) ⊛ ‵ (Lender h x) ⊛ ‵ (flft (trip x) x.token)
      ⊛ raw (Ends 𝓛 κ₁ (Share.right q₁) x.atom x.token) ⊛ ‵ (Pledge h.id x.cut)))

  -- A SEAT THAT IS ON NO ERRAND GOES ON ONE
  module _ (h : Sr.Denot) (base : h.base ≡ t.id.views_name) (home : h.away ≡ None) where
    pub departs : ⟦ Shared ⟧ ∗ A.lft κ q ∗ ⟦ Value h ⟧ ∗ ⟦ Lent ⟧ ∗ A.lft κ₁ q₁ ∗ ⟦ Aides ⟧ ⊢ H.⇛ (ex 𝓤 (On h))
    departs = let id : ℕ = h.id in let v : Seen V.Denot = ((h.view, h.visit), h.away) in
        qed 𝓛 (‵ Shared ∷ ‵ (flft κ q) ∷ ‵ (Value h) ∷ ‵ Lent ∷ ‵ (flft κ₁ q₁) ∷ ‵ Aides ∷ []) ∵ updating ! $
        move ! (2 ∷ 3 ∷ 4 ∷ []) $ opens ! tt Sr b o (λ ts. move ! (1 ∷ []) $ fsplit ! $
        rewrite ! 1 (λ (u : ℕ). ‵ (seat_owns cv.code u id v h.stretch h.mark)) base refl $ move ! (1 ∷ []) $
        use1 𝓛 (later (‵ (Seat id v))) (ends 𝓛 (coded_of cv) t.id.views_name id v h.stretch h.mark) $ await ! tt $
        -- [the seat; its fields; four of it; what the words share; their token; the aides']
        move ! (6 ∷ 7 ∷ 0 ∷ 8 ∷ []) $ group ! 4 $
        use1 𝓛 (later (items (λ (s : Share). ‵ (Seat id (out h (Share.right s))) ⊛ ‵ (Pledge id s))))
        (Outings.goes 𝓛 K kept_words cv holds keeps t.words t.id id κ q v home a (out h) (λ r. refl)
        (λ r. errand_allowed g.rests g.leans g.upright (g.holds t.fixed) g.keeps t.start id h.view h.visit h.away
        (Some record { part = r; aided = a }) (λ none. absurd (cc none)) (inl home))) $ await ! tt $ pick ! (λ s. split ! $
        let v₁ : Seen V.Denot = out h (Share.right s) in
        use1 𝓛 (later (items (λ (st : ℕ × ℕ). ‵ (Owns id v₁ st)))) (begins 𝓛 (coded_of cv) t.id.views_name id v₁) $ await ! tt $ pick ! (λ st.
        let h₁ : Sr.Denot = gone h record { cut = s; stretch = st.0; mark = st.1; atom = 0; token = s; name = 0 } in
        -- [the seat; the pledge; the fields; four]
        move ! (2 ∷ 0 ∷ []) $ fjoin ! $ move ! (2 ∷ 0 ∷ 3 ∷ 4 ∷ 5 ∷ []) $ closes ! tt Sr h₁ ts b o $
        feq_i ! (List Val) (vptr b o ∷ []) (vptr b o ∷ []) refl $ fjoin3 ! $
        -- [the seat; its token; the pledge]
        move ! (1 ∷ []) $ use1 𝓛 (‵ (flft κ₁ (Share.left q₁)) ⊛ ‵ (flft κ₁ (Share.right q₁))) (𝓛.lfts.lft_split κ₁ q₁) $ split ! $ move ! (1 ∷ []) $
        use1 𝓛 (later (items (λ (u : ℕ × Share). ‵ (flft (u.0 ∷ κ₁) u.1) ⊛ raw (Ends 𝓛 κ₁ (Share.right q₁) u.0 u.1))))
        (begins_within 𝓛 κ₁ (Share.right q₁)) $ await ! tt $ pick ! (λ u. split ! $ let β : Lft = u.0 ∷ κ₁ in
        -- [the new token; how it ends; half of the seat's; the seat; the pledge]
        move ! (3 ∷ 2 ∷ []) $
        use2 𝓛 (later (items (λ (δ : ℕ). ‵ (Ref β δ h₁) ⊛ ‵ (LentAgain Sr κ₁ β (Share.left q₁) γ b o δ h₁))))
        (lends_again 𝓛 Sr (named 1) κ₁ β (Share.left q₁) γ b o (named 1) h₁) $ await ! tt $ pick ! (λ δ. split ! $
        now ! $ show ! (On h) (record { cut = s; stretch = st.0; mark = st.1; atom = u.0; token = u.1; name = δ }) $ done !)))))

  -- AND COMES BACK
  module _ (h : Sr.Denot) (x : Trip) (h₂ : Sr.Denot) (base : h₂.base ≡ t.id.views_name) (same : h₂.id ≡ h.id)
      (away : h₂.away ≡ Some record { part = Share.right x.cut; aided = a }) (rested : g.rests h₂.view) where
    abbrev Back : ℕ × ℕ → Pr
    Back st = ⟦ Value (back h₂ h.id st) ⟧ ∗ ⟦ Lent ⟧ ∗ A.lft κ₁ q₁ ∗ A.lft κ q ∗ ⟦ Aides ⟧

    abbrev pub at_home : types.Kit.Item 𝓤
    at_home = later (items (λ (st : ℕ × ℕ). ‵ (Value (back h₂ h.id st)) ⊛ ‵ Lent ⊛ ‵ (flft κ₁ q₁) ⊛ ‵ (flft κ q) ⊛ ‵ Aides))

    pub arrives : ⟦ Shared ⟧ ∗ ⟦ Pledge h.id x.cut ⟧ ∗ A.lft (trip x) x.token ∗ Ends 𝓛 κ₁ (Share.right q₁) x.atom x.token ∗ ⟦ Lender h x ⟧
        ∗ A.res x.name (Sr.coded.code h₂) ⊢ H.⇛ (ex 𝓤 Back)
    arrives = let id : ℕ = h.id in let β : Lft = trip x in let h₁ : Sr.Denot = gone h x in
        let v₂ : Seen V.Denot = out h₂ (Share.right x.cut) in let v₃ : Seen V.Denot = ((h₂.view, h₂.visit), None) in
        qed 𝓛 (‵ Shared ∷ ‵ (Pledge id x.cut) ∷ ‵ (flft β x.token) ∷ raw (Ends 𝓛 κ₁ (Share.right q₁) x.atom x.token) ∷ ‵ (Lender h x) ∷
        ‵ (fres x.name (Sr.coded.code h₂)) ∷ []) ∵ updating ! $
        move ! (2 ∷ 3 ∷ []) $ use2 𝓛 (later (‵ (fdead β) ⊛ ‵ (flft κ₁ (Share.right q₁)))) (apply∗ 𝓤 (A.lft β x.token) _) $ await ! tt $ split ! $
        -- [dead; half of the seat's token; what the words share; the pledge; what the lender has; the last value]
        move ! (0 ∷ 4 ∷ 5 ∷ []) $ use3 𝓛 (later (‵ (Ref κ₁ γ h₂) ⊛ ‵ (flft κ₁ (Share.left q₁))))
        (comes_back 𝓛 Sr (named 1) κ₁ β (Share.left q₁) γ b o x.name h₁ h₂) $ await ! tt $ split ! $
        move ! (1 ∷ 2 ∷ []) $ use2 𝓛 (‵ (flft κ₁ q₁)) (𝓛.lfts.lft_join κ₁ q₁) $
        -- [the seat's token; the seat; what the words share; the pledge]
        move ! (1 ∷ []) $ fsplit3 ! $ move ! (1 ∷ 2 ∷ 3 ∷ []) $ opens ! tt Sr b o (λ ts. move ! (1 ∷ []) $ fsplit ! $
        rewrite ! 1 (λ (k : ℕ × ℕ × Away). ‵ (seat_owns cv.code k.0 k.1 ((h₂.view, h₂.visit), k.2) h₂.stretch h₂.mark))
        (λ i. (base i, same i, away i)) refl $
        move ! (1 ∷ []) $ use1 𝓛 (later (‵ (Seat id v₂))) (ends 𝓛 (coded_of cv) t.id.views_name id v₂ h₂.stretch h₂.mark) $ await ! tt $
        -- [the seat; its fields; four; its address; what the words share; the pledge]
        move ! (7 ∷ 8 ∷ 0 ∷ []) $ use3 𝓛 (later (‵ (Seat id v₃) ⊛ ‵ (flft κ q) ⊛ ‵ Aides))
        (Outings.returns 𝓛 K kept_words cv holds keeps t.words t.id id κ q x.cut a v₂ v₃ refl refl
        (errand_allowed g.rests g.leans g.upright (g.holds t.fixed) g.keeps t.start id h₂.view h₂.visit
        (Some record { part = Share.right x.cut; aided = a }) None (λ _. rested) (inr refl))) $ await ! tt $ split3 ! $
        use1 𝓛 (later (items (λ (st : ℕ × ℕ). ‵ (Owns id v₃ st)))) (begins 𝓛 (coded_of cv) t.id.views_name id v₃) $ await ! tt $ pick ! (λ st.
        -- [the seat; the words' token; the aides'; the fields; four; its address]
        move ! (3 ∷ 0 ∷ []) $ fjoin ! $ move ! (3 ∷ 0 ∷ 4 ∷ 5 ∷ 6 ∷ []) $ closes ! tt Sr (back h₂ id st) ts b o $
        keep ! (0 ∷ 1 ∷ 2 ∷ 3 ∷ 4 ∷ []) $ now ! $ show ! Back st $ done !))
