-- What seats claim stays so: whoever steps leaves what others keep, and is past the step that a claim names. And a seat that comes may claim what is kept now.
use Rattle.std.specs.Prelude.{◌≡◌, ◌≢◌, ◌⊎◌, ℕ, zero, suc, ◌≤◌, List, [], ◌∷◌, ◌++◌, Option, Some, None, slice_get, slice_set}
use Rattle.std.proofs.Common.{refl, sym, ap, ◌∙◌, subst, inl, inr, arith}
use Rattle.std.proofs.lemmas.Bool.{cases_eq}
use Rattle.seize_words.specs.OneMemory.Mem.{Mem}
use Rattle.seize_seats.specs.Seats.State.{State, view_of, joined}
use Rattle.seize_seats.specs.Seats.State as State
use Rattle.seize_seats.specs.Seats.Visits.{Visit, Claim}
use Rattle.seize_seats.specs.Seats.Errands.{Away}
use Rattle.seize_seats.proofs.Seats.Views.Ledgers.{other_view}
use Rattle.seize_seats.proofs.Seats.Stepping.Visits.{own_view, among}
use Rattle.seize_seats.specs.declared.kept.Kept.{Kept}
use Rattle.seize_atoms.specs.Visiting.{Seen, IsKept, AreClaimed, keeps_here}

set_here : {A : Type 0} (vs : List A) (i : ℕ) (v w : A) → slice_get vs i ≡ Some v → slice_get (slice_set vs i w) i ≡ Some w
set_here [] i v w at = absurd (cc at)
set_here (x ∷ vs) zero v w at = refl
set_here (x ∷ vs) (suc i) v w at = set_here vs i v w at

still_there : {A : Type 0} (vs : List A) (i : ℕ) (v w : A) → slice_get vs i ≡ Some v → slice_get (vs ++ w ∷ []) i ≡ Some v
still_there [] i v w at = absurd (cc at)
still_there (x ∷ vs) zero v w at = at
still_there (x ∷ vs) (suc i) v w at = still_there vs i v w at

-- it has taken one step more, and claims nothing
abbrev pub IsOn : {V : Type 0} → Visit → Seen V → Type 0
IsOn y w = (w.0.1.steps ≡ suc y.steps) × (w.0.1.claim ≡ None)

module _ {T V W : Type 0} (holds : State (Kept T) (Seen V) W → Type 0) (keeps : V → V → W → ℕ → Type 0) where
  abbrev St : Type 0
  St = State (Kept T) (Seen V) W

  abbrev Keep : Seen V → Seen V → W → ℕ → Type 0
  Keep = keeps_here keeps

  abbrev one_claim : Seen V → Option Claim
  one_claim u = u.0.1.claim

  -- of seats that are other ones by now, or the same at the same step
  keeps_as : (c : Claim) (w : W) (a o b d : Seen V) → b ≡ a → d ≡ o → Keep a o w c.block → Keep b d w c.block
  keeps_as c w a o b d one other kept =
      subst (λ (x : Seen V). Keep x d w c.block) (sym one) (subst (λ (x : Seen V). Keep a x w c.block) (sym other) kept)

  -- ---- one seat steps
  module _ (s : St) (n : Mem (Kept T)) (id : ℕ) (u w : Seen V) (world : W) (at : view_of s id ≡ Some u) (on : IsOn u.0.1 w) where
    abbrev now : St
    now = State.after s n id w world

    -- where a seat has come to a step it has come to it still, and is at it just where it is another seat
    seat_after : (j : ℕ) (a : Seen V) (m : ℕ) → view_of s j ≡ Some a → m ≤ a.0.1.steps
        → (b : Seen V) × (view_of now j ≡ Some b) × (m ≤ b.0.1.steps) × (m ≡ b.0.1.steps → (j ≢ id) × (b ≡ a))
    seat_after j a m at_j le = by (cases_eq j id)
      where
        by : (j ≡ id) ⊎ (j ≢ id) → (b : Seen V) × (view_of now j ≡ Some b) × (m ≤ b.0.1.steps) × (m ≡ b.0.1.steps → (j ≢ id) × (b ≡ a))
        by (inl same) =
            let there : view_of s id ≡ Some a = ap (slice_get s.views) (sym same) ∙ at_j in let is : Some a ≡ Some u = sym there ∙ at in let one : a ≡ u = cc is in
            let steps : a.0.1.steps ≡ u.0.1.steps = ap (λ (x : Seen V). x.0.1.steps) one in let next = on.0 in (
              w,
              ap (λ (k : ℕ). slice_get (slice_set s.views id w) k) same ∙ set_here s.views id u w at,
              omega (arith, le, steps, next),
              λ e. absurd (omega (arith, le, steps, next, e)),
            )
        by (inr ne) = (a, other_view s.views id j w ne ∙ at_j, le, λ e. (ne, refl))

    claim_after : State.PreservesKept holds Keep s id world → (c : Claim) → IsKept keeps c s → IsKept keeps c now
    claim_after others c k = let g = seat_after c.guard k.0 c.guards k.2 k.4 in let o = seat_after c.owner k.1 c.owners k.3 k.5 in (
      g.0,
      o.0,
      g.1,
      o.1,
      g.2,
      o.2,
      λ eg eo.
          (let a = g.3 eg in let b = o.3 eo in
          keeps_as c world k.0 k.1 g.0 o.0 a.1 b.1 (others c.guard c.owner c.block k.0 k.1 a.0 b.0 k.2 k.3
          (k.6 (eg ∙ ap (λ (x : Seen V). x.0.1.steps) a.1) (eo ∙ ap (λ (x : Seen V). x.0.1.steps) b.1)))),
    )

    pub claims_after : State.PreservesKept holds Keep s id world → AreClaimed keeps s → AreClaimed keeps now
    claims_after others claimed j x c at_j claims = by (cases_eq j id)
      where
        by : (j ≡ id) ⊎ (j ≢ id) → IsKept keeps c now
        by (inl same) =
            let here : slice_get (slice_set s.views j w) j ≡ Some x = ap (λ (k : ℕ). slice_get (slice_set s.views k w) j) same ∙ at_j in
            let one : w ≡ x = own_view s.views j w x here in let none = on.1 in let no : w.0.1.claim ≡ Some c = ap one_claim one ∙ claims in absurd (cc (none, no))
        by (inr ne) = claim_after others c (claimed j x c (sym (other_view s.views id j w ne) ∙ at_j) claims)

  -- ---- one goes on another errand, and all that rules know stays
  module _ (s : St) (id : ℕ) (v : V) (y : Visit) (e f : Away) (at : view_of s id ≡ Some ((v, y), e)) where
    abbrev then : St
    then = State.after s s.memory id ((v, y), f) s.world

    abbrev is_on : Away → Seen V
    is_on g = ((v, y), g)

    seat_then : (j : ℕ) (a : Seen V) → view_of s j ≡ Some a → (b : Seen V) × (view_of then j ≡ Some b) × (b.0 ≡ a.0)
    seat_then j a at_j = by (cases_eq j id)
      where
        by : (j ≡ id) ⊎ (j ≢ id) → (b : Seen V) × (view_of then j ≡ Some b) × (b.0 ≡ a.0)
        by (inl same) =
            let there : view_of s id ≡ Some a = ap (slice_get s.views) (sym same) ∙ at_j in let is : Some a ≡ Some (is_on e) = sym there ∙ at in let one : a ≡ is_on e = cc is in
            (is_on f, ap (λ (k : ℕ). slice_get (slice_set s.views id (is_on f)) k) same ∙ set_here s.views id (is_on e) (is_on f) at, ap (λ (x : Seen V). x.0) (sym one))
        by (inr ne) = (a, other_view s.views id j (is_on f) ne ∙ at_j, refl)

    seat_before : (j : ℕ) (b : Seen V) → view_of then j ≡ Some b → (a : Seen V) × (view_of s j ≡ Some a) × (a.0 ≡ b.0)
    seat_before j b at_j = by (cases_eq j id)
      where
        by : (j ≡ id) ⊎ (j ≢ id) → (a : Seen V) × (view_of s j ≡ Some a) × (a.0 ≡ b.0)
        by (inl same) =
            let here : slice_get (slice_set s.views j (is_on f)) j ≡ Some b = ap (λ (k : ℕ). slice_get (slice_set s.views k (is_on f)) j) same ∙ at_j in
            let one : is_on f ≡ b = own_view s.views j (is_on f) b here in (is_on e, ap (slice_get s.views) same ∙ at, ap (λ (x : Seen V). x.0) one)
        by (inr ne) = (b, sym (other_view s.views id j (is_on f) ne) ∙ at_j, refl)

    pub claims_then : AreClaimed keeps s → AreClaimed keeps then
    claims_then claimed j x c at_j claims =
        let a = seat_before j x at_j in let k = claimed j a.0 c a.1 (ap (λ (u : V × Visit). u.1.claim) a.2 ∙ claims) in
        let g = seat_then c.guard k.0 k.2 in let o = seat_then c.owner k.1 k.3 in
        let gs : g.0.0.1.steps ≡ k.0.0.1.steps = ap (λ (u : V × Visit). u.1.steps) g.2 in let os : o.0.0.1.steps ≡ k.1.0.1.steps = ap (λ (u : V × Visit). u.1.steps) o.2 in
        let gl = k.4 in let ol = k.5 in (
          g.0,
          o.0,
          g.1,
          o.1,
          omega (arith, gl, gs),
          omega (arith, ol, os),
          λ eg eo.
              subst (λ (u : V). keeps u o.0.0.0 s.world c.block) (ap (λ (u : V × Visit). u.0) (sym g.2))
              (subst (λ (u : V). keeps k.0.0.0 u s.world c.block) (ap (λ (u : V × Visit). u.0) (sym o.2)) (k.6 (eg ∙ gs) (eo ∙ os))),
        )

  -- ---- one comes, and what it claims is so now
  pub claims_joined : (s : St) (x : Seen V) (world : W) → ((b : ℕ) (u o : Seen V) → Keep u o s.world b → Keep u o world b)
      → ((c : Claim) → x.0.1.claim ≡ Some c → IsKept keeps c s) → AreClaimed keeps s → AreClaimed keeps (joined s x world)
  claims_joined s x world all mine claimed j w c at_j claims = by (among s.views x w j at_j)
    where
      too : IsKept keeps c s → IsKept keeps c (joined s x world)
      too k = (
        k.0,
        k.1,
        still_there s.views c.guard k.0 x k.2,
        still_there s.views c.owner k.1 x k.3,
        k.4,
        k.5,
        λ eg eo. all c.block k.0 k.1 (k.6 eg eo),
      )

      by : (view_of s j ≡ Some w) ⊎ (x ≡ w) → IsKept keeps c (joined s x world)
      by (inl there) = too (claimed j w c there claims)
      by (inr one) = too (mine c (ap one_claim one ∙ claims))

  -- ---- two step at once, and the world stays
  pub claims_met : (s : St) (i j : ℕ) (u o w x : Seen V) → view_of s i ≡ Some u → view_of s j ≡ Some o → i ≢ j → IsOn u.0.1 w → IsOn o.0.1 x → AreClaimed keeps s
      → AreClaimed keeps record { memory = s.memory; views = slice_set (slice_set s.views i w) j x; world = s.world }
  claims_met s i j u o w x at_i at_j ne on_i on_j claimed =
      let one : St = State.after s s.memory i w s.world in let there : view_of one j ≡ Some o = other_view s.views i j w (λ e. ne (sym e)) ∙ at_j in
      claims_after one s.memory j o x s.world there on_j (λ a k b c d nj nk at_a at_k kept. kept)
      (claims_after s s.memory i u w s.world at_i on_i (λ a k b c d nj nk at_a at_k kept. kept) claimed)
