-- A seat's stretch begins and ends, and invariants that are known by their numbers. Assumes `Logic`.
use Rattle.std.proofs.Common.{◌≡◌, ℕ, zero, suc, ◌+◌, ◌≤◌, Bool, true, false, [], ◌∷◌, refl, ap, subst, arith}
use seplogic.Ra.Ura.{Ura}
use base.Share.{three_quarters}
use base.Stored.{Coded}
use base.Logic.{SProp, ent, sep, ex, all, guard, upd, via, never, never_e, upd_i}
use base.Fml.{Share, Fml, ftrue, fsep, fdead, finv, fnamed}
use types.Keyed.{token, ticket, tickets_from, ticket_once, entries_new, entries_take}
use types.Logic.{Logic, sem}
use types.Owned.{basic}
use types.Tokens.{lft_new, lft_end}
use types.Kit.{‵, raw, ◌⊛◌, some as items, given, later, ◌$◌, ◌∵◌, !, qed, by, move, keep, drop, split, fsplit, fsplit3, fjoin, fpick, fpack, pick, learn, show, frame, each, assume, suffices, use0, use1, use2, use3, updating, await, now, done}
use denote.Steps.{nothing}
use Rattle.seize_seats.specs.Seats.Seen.{seen}
use Rattle.seize_seats.specs.Seats.Stretches.{IsEven, IsOdd, IsOfKind, IsOfSeat, numbered, invariant, seats_part, stretch_part, lasting, stretch, stretch_shared, seat_owns}
use Rattle.seize_seats.proofs.Seats.Views.Ledgers as Ledgers

pub evens : (n : ℕ) → (j : ℕ) × (n ≤ j) × IsEven j
evens n = (n + n, omega arith, (n, refl))

pub odds : (n : ℕ) → (j : ℕ) × (n ≤ j) × IsOdd j
odds n = (n + n + 1, omega arith, (n, refl))

pub kinds : (k n : ℕ) → (j : ℕ) × (n ≤ j) × IsOfKind k j
kinds zero n = odds n
kinds (suc k) n = let r = kinds k n in let le = r.1 in (r.0 + r.0, omega (arith, le), (r.0, refl, r.2))

pub numbers_of : (id n : ℕ) → (j : ℕ) × (n ≤ j) × IsOfSeat id j
numbers_of id n = let r = kinds id n in let le = r.1 in (r.0 + r.0 + 1, omega (arith, le), (r.0, refl, r.2))

-- no number is of two kinds
pub one_kind : (i j m : ℕ) → IsOfKind i m → IsOfKind j m → i ≡ j
one_kind zero zero m a b = refl
one_kind zero (suc j) m a b = let odd = a.1 in let even = b.1 in absurd (omega (arith, odd, even))
one_kind (suc i) zero m a b = let odd = b.1 in let even = a.1 in absurd (omega (arith, odd, even))
one_kind (suc i) (suc j) m a b = let p = a.1 in let q = b.1 in let same : b.0 ≡ a.0 = omega (arith, p, q) in
    ap suc (one_kind i j a.0 a.2 (subst (IsOfKind j) same b.2))

pub one_seat : (i j n : ℕ) → IsOfSeat i n → IsOfSeat j n → i ≡ j
one_seat i j n a b = let p = a.1 in let q = b.1 in let same : b.0 ≡ a.0 = omega (arith, p, q) in one_kind i j a.0 a.2 (subst (IsOfKind j) same b.2)

module _ {M : Type 1} {𝓤 : Ura M} (𝓛 : Logic 𝓤) where
  open 𝓛 use {H, A}

  abbrev Pr : Type 2
  Pr = SProp 𝓤

  abbrev ◌⊢◌ : Pr → Pr → Type 1
  P ⊢ Q = ent 𝓤 P Q

  abbrev ◌∗◌ : Pr → Pr → Pr
  P ∗ Q = sep 𝓤 P Q

  abbrev ⟦◌⟧ : Fml → Pr
  ⟦ P ⟧ = sem 𝓛 P

  infix 26 ◌⊢◌
  infixr 35 ◌∗◌
  module _ (good : ℕ → Type 0) (P : Fml) where
    abbrev In : Fml
    In = invariant good P

    -- it may be told again
    pub twice : ⟦ In ⟧ ⊢ ⟦ In ⟧ ∗ ⟦ In ⟧
    twice = qed 𝓛 (‵ In ∷ []) ∵ fpick ! (λ n. fsplit ! $ fpick ! (λ is. drop ! $
        use1 𝓛 (‵ (fnamed n P) ⊛ ‵ (fnamed n P)) (𝓛.invs.named_dup n P) $ split ! $
        nothing ! $ fpack ! (good n) (λ _. ftrue) is $ fjoin ! $ fpack ! ℕ (numbered good P) n $ move ! (1 ∷ []) $
        nothing ! $ fpack ! (good n) (λ _. ftrue) is $ fjoin ! $ fpack ! ℕ (numbered good P) n $ done !))

    -- whatever its number is
    pub plain : ⟦ In ⟧ ⊢ ⟦ finv P ⟧
    plain = qed 𝓛 (‵ In ∷ []) ∵ fpick ! (λ n. fsplit ! $ fpick ! (λ is. drop ! $ by ! (𝓛.invs.named_inv n P)))

    pub made : ((n : ℕ) → (j : ℕ) × (n ≤ j) × good j) → ⟦ P ⟧ ⊢ H.⇛ ⟦ In ⟧
    made any = qed 𝓛 (‵ P ∷ []) ∵ updating ! $ use1 𝓛 (later (items (λ (k : ℕ). given (good k) (‵ (fnamed k P))))) new $ await ! tt $
        pick ! (λ k. learn ! (λ is. now ! $ nothing ! $ fpack ! (good k) (λ _. ftrue) is $ fjoin ! $ fpack ! ℕ (numbered good P) k $ done !))
      where
        new : ⟦ P ⟧ ⊢ H.⇛ (ex 𝓤 (λ (k : ℕ). guard 𝓤 (good k) (A.named k P)))
        new = via 𝓤 _ (qed 𝓛 (‵ P ∷ []) ∵ each ! (λ (k : ℕ). all 𝓤 (λ (_ : good k). ⟦ P ⟧)) (λ k. each ! (λ (_ : good k). ⟦ P ⟧) (λ _. done !)))
            (𝓛.invs.named_among good any (λ _. P))

  module _ {V : Type 0} (cv : Coded V) (γ id : ℕ) (v : V) where
    abbrev Sn : Share → Fml
    Sn q = seen cv.code γ q id v

    module _ (σ θ : ℕ) where
      abbrev St : Fml
      St = stretch cv.code γ id v σ θ

      abbrev Told : Fml
      Told = stretch_shared cv.code γ id v σ θ

      abbrev Swapped : Pr
      Swapped = ⟦ St ⟧ ∗ ⟦ Sn stretch_part ⟧

      swaps : (y : Bool) → ⟦ lasting cv.code γ id v σ θ y ⟧ ∗ ⟦ ticket θ 0 ⟧ ∗ A.dead (σ ∷ []) ⊢ upd 𝓤 Swapped
      swaps true = qed 𝓛 (‵ (Sn stretch_part) ∷ ‵ (ticket θ 0) ∷ ‵ (fdead (σ ∷ [])) ∷ []) ∵ suffices ! _ (upd_i 𝓤 Swapped) $ move ! (2 ∷ 1 ∷ []) $ fjoin ! $
          fpack ! Bool (lasting cv.code γ id v σ θ) false $ done !
      swaps false = qed 𝓛 (‵ (fsep (fdead (σ ∷ [])) (ticket θ 0)) ∷ ‵ (ticket θ 0) ∷ ‵ (fdead (σ ∷ [])) ∷ []) ∵ fsplit ! $ move ! (1 ∷ 2 ∷ []) $
          use2 𝓛 (raw (never 𝓤)) (ticket_once 𝓛 θ 0) $ keep ! (0 ∷ []) $ by ! (never_e 𝓤 (upd 𝓤 Swapped))

      gets : ⟦ Told ⟧ ∗ ⟦ ticket θ 0 ⟧ ∗ A.dead (σ ∷ []) ⊢ H.⇛ ⟦ Sn stretch_part ⟧
      gets = via 𝓤 _ (qed 𝓛 (‵ Told ∷ ‵ (ticket θ 0) ∷ ‵ (fdead (σ ∷ [])) ∷ []) ∵ use1 𝓛 (‵ (finv St)) (plain (IsOfSeat id) St) $ frame ! $ assume ! (‵ St) $
          fpick ! (λ y. by ! (swaps y))) (𝓛.invs.inv_acc St ⟦ Sn stretch_part ⟧)

      -- A STRETCH ENDS: the seat has all that is its own of its view
      pub ends : ⟦ seat_owns cv.code γ id v σ θ ⟧ ⊢ H.⇛ ⟦ Sn three_quarters ⟧
      ends = qed 𝓛 (‵ (seat_owns cv.code γ id v σ θ) ∷ []) ∵ updating ! $ fsplit3 ! $ move ! (2 ∷ []) $ fsplit ! $ move ! (2 ∷ []) $ lft_end ! tt $
          -- [dead; the stretch; the mark; the part]
          move ! (1 ∷ 2 ∷ 0 ∷ []) $ use3 𝓛 (later (‵ (Sn stretch_part))) gets $ await ! tt $
          use2 𝓛 (‵ (Sn three_quarters)) ((Ledgers.view_halves 𝓛 cv γ id v).join three_quarters) $ now ! $ done !

    abbrev pub begun : ℕ × ℕ → Pr
    begun s = ⟦ seat_owns cv.code γ id v s.0 s.1 ⟧

    abbrev Marks : ℕ → Pr
    Marks θ = ⟦ tickets_from θ 0 ⟧

    -- ANOTHER BEGINS
    pub begins : ⟦ Sn three_quarters ⟧ ⊢ H.⇛ (ex 𝓤 begun)
    begins = qed 𝓛 (‵ (Sn three_quarters) ∷ []) ∵ updating ! $ lft_new ! tt (λ σ.
        use0 𝓛 (later (items (λ (θ : ℕ). ‵ (tickets_from θ 0)))) (via 𝓤 _ (entries_new token 𝓛 0 (λ _. tt)) (basic 𝓛 (ex 𝓤 Marks))) $ await ! tt $
        pick ! (λ θ. use1 𝓛 (‵ (ticket θ 0) ⊛ ‵ (tickets_from θ 1)) (entries_take token 𝓛 θ 0 (λ _. tt)) $ split ! $
        -- [the mark; other marks; the token; the view]
        move ! (3 ∷ []) $ use1 𝓛 (‵ (Sn stretch_part) ⊛ ‵ (Sn seats_part)) ((Ledgers.view_halves 𝓛 cv γ id v).cut three_quarters) $ split ! $
        fpack ! Bool (lasting cv.code γ id v σ θ) true $
        use1 𝓛 (later (‵ (stretch_shared cv.code γ id v σ θ))) (made (IsOfSeat id) (stretch cv.code γ id v σ θ) (numbers_of id)) $ await ! tt $
        -- [the stretch; the seat's part; the mark; other marks; the token]
        move ! (0 ∷ 2 ∷ []) $ fjoin ! $ move ! (1 ∷ 0 ∷ []) $ fjoin ! $ move ! (2 ∷ 0 ∷ []) $ fjoin ! $ now ! $ show ! begun (σ, θ) $ keep ! (0 ∷ []) $ done !))
