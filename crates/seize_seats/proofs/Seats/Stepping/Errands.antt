-- What a rule allows a seat it may do where seats go on errands: those on none rest, and where all are back all rest.
use Rattle.std.specs.Prelude.{◌≡◌, ◌≢◌, ◌⊎◌, ℕ, zero, suc, List, [], ◌∷◌, Some, None, map, slice_get, slice_set}
use Rattle.std.proofs.Common.{refl, sym, ap, ◌∙◌, subst, inl, inr}
use Rattle.core.specs.Option.{option_map}
use Rattle.std.proofs.lemmas.Bool.{cases_eq}
use Rattle.std.proofs.lemmas.List.{map-set, map-append}
use Rattle.std.proofs.lemmas.Option.{slice_get-map}
use base.Fraction.{full_share}
use Rattle.seize_words.specs.OneMemory.Mem.{Mem}
use Rattle.seize_words.specs.OneMemory.Op.{Op, Out, Take}
use Rattle.seize_seats.specs.Seats.State.{State, view_of, Goes, Allows, Turns, Learns, Starts, Comes, Meets}
use Rattle.seize_seats.specs.Seats.State as State
use Rattle.seize_seats.specs.Seats.Lendings.{VisibleToBoth, IsValueOf, IsValueOfBoth}
use Rattle.seize_seats.specs.Seats.Errands.{Away, Anyone, Lends, AreUnlent, inward, AreResting, AreLeaning, HoldsAway, IsUnlent, TurnsUnlent, AreIdle, AreAllBack, RenewsBack, RenewsIdle, RenewsTo, RenewsFrom, RenewsInto, keeps_away, then_away, MayGo, MayGoAll, MayLean, MayLeanAll, MayMeet, MayLeanBoth}
use Rattle.seize_seats.proofs.Seats.Views.Ledgers.{other_view}
use Rattle.seize_seats.proofs.Seats.Stepping.Visits.{own_view, among}

-- what stands at a place of a list of images is the image of what stands there
pub mapped_at : {A B : Type 0} (f : A → B) (xs : List A) (i : ℕ) (y : B) → slice_get (map f xs) i ≡ Some y → (x : A) × (slice_get xs i ≡ Some x) × (f x ≡ y)
mapped_at f [] i y at = absurd (cc at)
mapped_at f (x ∷ xs) zero y at = (x, refl, cc at)
mapped_at f (x ∷ xs) (suc i) y at = mapped_at f xs i y at

-- what is so of one, and of each of a list, is so of each of the list where that one is put in
pub set_all : {A : Type 0} (P : A → Type 0) (us : List A) (id : ℕ) (x : A) → P x → ((i : ℕ) (u : A) → slice_get us i ≡ Some u → P u)
    → (i : ℕ) (u : A) → slice_get (slice_set us id x) i ≡ Some u → P u
set_all {A} P us id x one all i u is = by (cases_eq i id)
  where
    by : (i ≡ id) ⊎ (i ≢ id) → P u
    by (inl same) = subst P (own_view us i x u (ap (λ (j : ℕ). slice_get (slice_set us j x) i) same ∙ is)) one
    by (inr ne) = all i u (sym (other_view us id i x ne) ∙ is)

-- images of images, one of them put in, where two ways lead to the same
module _ {A B C D : Type 0} (f : A → B) (p : B → C) (q : A → D) (r : D → C) (same : (a : A) → p (f a) ≡ r (q a)) where
  map_left : (us : List A) → map p (map f us) ≡ map r (map q us)
  map_left [] = refl
  map_left (u ∷ us) = ap (λ (c : C). c ∷ map p (map f us)) (same u) ∙ ap (λ (cs : List C). r (q u) ∷ cs) (map_left us)

  pub set_left : (us : List A) (id : ℕ) (x : B) → map p (slice_set (map f us) id x) ≡ slice_set (map r (map q us)) id (p x)
  set_left us id x = map-set p (map f us) id x ∙ ap (λ (cs : List C). slice_set cs id (p x)) (map_left us)

-- upright: one at rest leans on nobody
module _ {T V W : Type 0} (rests : V → Type 0) (leans : V → ℕ → Type 0) (upright : (v : V) (n : ℕ) → rests v → leans v n → ⊥) (holds : State T V W → Type 0)
    (keeps : V → V → W → ℕ → Type 0) where
  abbrev St : Type 0
  St = State T (V × Away) W

  abbrev Hold : St → Type 0
  Hold = HoldsAway rests leans holds

  abbrev Keep : V × Away → V × Away → W → ℕ → Type 0
  Keep = keeps_away keeps

  abbrev view : V × Away → V
  view u = u.0

  abbrev of : V → Away → V × Away
  of v e = (v, e)

  abbrev away_of : V → Away → Away
  away_of v e = e

  abbrev map_of : List (V × Away) → List V
  map_of us = map view us

  pub inward_view : (s : St) (id : ℕ) (u : V × Away) → view_of s id ≡ Some u → view_of (inward s) id ≡ Some u.0
  inward_view s id u e = slice_get-map view s.views id ∙ ap (option_map view) e

  inward_after : (s : St) (n : Mem T) (id : ℕ) (u : V × Away) (w : W) → inward (State.after s n id u w) ≡ State.after (inward s) n id u.0 w
  inward_after s n id u w = ap (λ (vs : List V). record { memory = n; views = vs; world = w }) (map-set view s.views id u)

  others_kept : (s : St) (id : ℕ) (w : W) → State.PreservesKept holds keeps (inward s) id w → State.PreservesKept Hold Keep s id w
  others_kept s id w kept j k b u o nj nk at_j at_k is = kept j k b u.0 o.0 nj nk (inward_view s j u at_j) (inward_view s k o at_k) is

  -- the one with another view, on the errand that it was on, rests if it may go so, and all others do as before
  resting_set : (us : List (V × Away)) (m n : Mem T) (w w' : W) (id : ℕ) (v v' : V) (e : Away) → AreResting rests record { memory = m; views = us; world = w }
      → slice_get us id ≡ Some (v, e) → (e ≡ None → rests v → rests v') → AreResting rests record { memory = n; views = slice_set us id (v', e); world = w' }
  resting_set us m n w w' id v v' e are here may i u at = by (cases_eq i id)
    where
      by : (i ≡ id) ⊎ (i ≢ id) → rests u
      by (inl is) =
          let there : slice_get (slice_set us i (v', e)) i ≡ Some (u, None) = ap (λ (k : ℕ). slice_get (slice_set us k (v', e)) i) is ∙ at in
          let one : of v' e ≡ of u None = own_view us i (v', e) (u, None) there in
          let home : e ≡ None = ap (λ (x : V × Away). x.1) one in let same : v' ≡ u = ap view one in
          subst rests same (may home (are id v (here ∙ ap (λ (x : Away). Some (of v x)) home)))
      by (inr ne) = are i u (sym (other_view us id i (v', e) ne) ∙ at)

  resting_after : (s : St) (n : Mem T) (id : ℕ) (v v' : V) (e : Away) (w' : W) → AreResting rests s → view_of s id ≡ Some (v, e)
      → (e ≡ None → rests v → rests v') → AreResting rests (State.after s n id (v', e) w')
  resting_after s n id v v' e w' = resting_set s.views s.memory n s.world w' id v v' e

  -- the one with another view leans on no seat more, but on the one that its errand is lent
  leaning_set : (us : List (V × Away)) (m n : Mem T) (w w' : W) (id : ℕ) (v v' : V) (e : Away) → AreLeaning leans record { memory = m; views = us; world = w }
      → slice_get us id ≡ Some (v, e) → ((k : ℕ) → leans v' k → leans v k ⊎ Lends e k)
      → AreLeaning leans record { memory = n; views = slice_set us id (v', e); world = w' }
  leaning_set us m n w w' id v v' e are here may i u k at lean = by (cases_eq i id)
    where
      more : leans v k ⊎ Lends e k → Lends e k
      more (inl before) = are id (v, e) k here before
      more (inr lent) = lent

      by : (i ≡ id) ⊎ (i ≢ id) → Lends u.1 k
      by (inl is) =
          let one : of v' e ≡ u = own_view us i (v', e) u (ap (λ (j : ℕ). slice_get (slice_set us j (v', e)) i) is ∙ at) in
          subst (λ (x : Away). Lends x k) (ap (λ (x : V × Away). x.1) one) (more (may k (subst (λ (x : V). leans x k) (sym (ap view one)) lean)))
      by (inr ne) = are i u k (sym (other_view us id i (v', e) ne) ∙ at) lean

  goes_away : (s : St) (n : Mem T) (id : ℕ) (v : V) (e : Away) (so : V → Type 0) → Hold s → view_of s id ≡ Some (v, e) → MayGo rests e v so → MayLean leans e v so
      → Goes holds keeps (inward s) n id so → Goes Hold Keep s n id (λ u. so u.0 × (u.1 ≡ e))
  goes_away s n id v e so h at may lean g = (
    (g.0, e),
    g.1,
    (
      subst holds (sym (inward_after s n id (g.0, e) g.1)) g.2,
      resting_after s n id v g.0 e g.1 h.1 at (λ home rest. may home rest g.0 g.4),
      leaning_set s.views s.memory n s.world g.1 id v g.0 e h.2 at (lean g.0 g.4),
    ),
    others_kept s id g.1 g.3,
    (g.4, refl),
  )

  -- AN OPERATION THAT THE RULE ALLOWS IS ALLOWED TO A SEAT THAT MAY GO SO
  pub allowed_away : (id : ℕ) (v : V) (e : Away) (op : Op T) (so : Out T → V → Type 0) → MayGoAll rests e v so → MayLeanAll leans e v so
      → Allows holds keeps id v op so → Allows Hold Keep id (v, e) op (then_away e so)
  allowed_away id v e op so may lean allows s h at = let a = allows (inward s) h.0 (inward_view s id (v, e) at) in
      (a.0, λ out n took. goes_away s n id v e (so out) h at (may out) (lean out) (a.1 out n took))

  -- a seat may take a block away, whatever errand it is on
  pub owned_away : (id : ℕ) (v : V) (e : Away) (b : ℕ) (so : Out T → V → Type 0) → Allows holds keeps id v (Take b) so
      → Allows Hold Keep id (v, e) (Take b) (λ out u. so out u.0)
  owned_away id v e b so owns s h at = let a = owns (inward s) h.0 (inward_view s id (v, e) at) in (
    a.0,
    λ out n took. (let g = a.1 out n took in (
      (g.0, what_if),
      g.1,
      (subst holds (sym (inward_after s n id (g.0, what_if) g.1)) g.2, resting n g.0 g.1, leaning n g.0 g.1),
      others_kept s id g.1 g.3,
      g.4,
    )),
  )
    where
      -- it might be on any errand then
      what_if : Away
      what_if = Some record { part = full_share; aided = Anyone }

      resting : (n : Mem T) (v' : V) (w' : W) → AreResting rests (State.after s n id (v', what_if) w')
      resting n v' w' i u is = by (cases_eq i id)
        where
          by : (i ≡ id) ⊎ (i ≢ id) → rests u
          by (inl one) =
              let there : slice_get (slice_set s.views i (v', what_if)) i ≡ Some (u, None) = ap (λ (k : ℕ). slice_get (slice_set s.views k (v', what_if)) i) one ∙ is in
              let same : of v' what_if ≡ of u None = own_view s.views i (v', what_if) (u, None) there in
              let none : away_of v' what_if ≡ away_of u None = ap (λ (x : V × Away). x.1) same in absurd (cc none)
          by (inr ne) = h.1 i u (sym (other_view s.views id i (v', what_if) ne) ∙ is)

      leaning : (n : Mem T) (v' : V) (w' : W) → AreLeaning leans (State.after s n id (v', what_if) w')
      leaning n v' w' i u k is lean = by (cases_eq i id)
        where
          by : (i ≡ id) ⊎ (i ≢ id) → Lends u.1 k
          by (inl one) =
              let there : slice_get (slice_set s.views i (v', what_if)) i ≡ Some u = ap (λ (j : ℕ). slice_get (slice_set s.views j (v', what_if)) i) one ∙ is in
              subst (λ (x : Away). Lends x k) (ap (λ (x : V × Away). x.1) (own_view s.views i (v', what_if) u there)) tt
          by (inr ne) = h.2 i u k (sym (other_view s.views id i (v', what_if) ne) ∙ is) lean

  pub turn_away : (id : ℕ) (v : V) (e : Away) (so : V → Type 0) → MayGo rests e v so → MayLean leans e v so → Turns holds keeps id v so
      → Turns Hold Keep id (v, e) (λ u. so u.0 × (u.1 ≡ e))
  turn_away id v e so may lean turns s h at = goes_away s s.memory id v e so h at may lean (turns (inward s) h.0 (inward_view s id (v, e) at))

  -- a seat that is lent to nobody turns where the rule lets it turn if nobody leans on it
  pub unlent_away : (id : ℕ) (v : V) (e : Away) (so : V → Type 0) → MayGo rests e v so → MayLean leans e v so → TurnsUnlent holds keeps leans id v so
      → (s : St) → Hold s → view_of s id ≡ Some (v, e) → AreUnlent (λ (u : V × Away). u.1) id s.views → Goes Hold Keep s s.memory id (λ u. so u.0 × (u.1 ≡ e))
  unlent_away id v e so may lean turns s h at none = goes_away s s.memory id v e so h at may lean (turns (inward s) h.0 (inward_view s id (v, e) at) unlent)
    where
      unlent : IsUnlent leans id (inward s)
      unlent i w is leaning = let u = mapped_at view s.views i w is in
          none i u.0 u.1 (h.2 i u.0 id u.1 (subst (λ (x : V). leans x id) (sym u.2) leaning))

  pub learn_away : (i : ℕ) (v : V) (e : Away) (j : ℕ) (u : V) (f : Away) (so : V → Type 0) → MayGo rests e v so → MayLean leans e v so → Learns holds keeps i v j u so
      → Learns Hold Keep i (v, e) j (u, f) (λ w. so w.0 × (w.1 ≡ e))
  learn_away i v e j u f so may lean learns s h at_i at_j ne =
      goes_away s s.memory i v e so h at_i may lean (learns (inward s) h.0 (inward_view s i (v, e) at_i) (inward_view s j (u, f) at_j) ne)

  pub comes_away : (v : V) → rests v → Comes holds keeps v → Comes Hold Keep (v, None)
  comes_away v rest comes s h = let c = comes (inward s) h.0 in
      let joins : inward (State.joined s (v, None) c.0) ≡ State.joined (inward s) v c.0 =
      ap (λ (vs : List V). record { memory = s.memory; views = vs; world = c.0 }) (map-append view s.views ((v, None) ∷ [])) in
      (c.0, (subst holds (sym joins) c.1, resting c.0, leaning c.0), λ b u o. c.2 b u.0 o.0)
    where
      resting : (w : W) → AreResting rests (State.joined s (v, None) w)
      resting w i u e = by (among s.views (v, None) (u, None) i e)
        where
          by : (view_of s i ≡ Some (u, None)) ⊎ (of v None ≡ of u None) → rests u
          by (inl at) = h.1 i u at
          by (inr one) = subst rests (ap view one) rest

      leaning : (w : W) → AreLeaning leans (State.joined s (v, None) w)
      leaning w i u k e lean = by (among s.views (v, None) u i e)
        where
          by : (view_of s i ≡ Some u) ⊎ (of v None ≡ u) → Lends u.1 k
          by (inl at) = h.2 i u k at lean
          by (inr one) = absurd (upright v k rest (subst (λ (x : V). leans x k) (sym (ap view one)) lean))

  pub meets_away : (i : ℕ) (v : V) (e : Away) (j : ℕ) (u : V) (f : Away) (so : V → V → Type 0)
      → MayMeet rests e v f u so → MayLeanBoth leans e v f u so → Meets holds i v j u so
      → Meets Hold i (v, e) j (u, f) (λ v' u'. so v'.0 u'.0 × (v'.1 ≡ e) × (u'.1 ≡ f))
  meets_away i v e j u f so may lean meets s h at_i at_j ne =
      let g = meets (inward s) h.0 (inward_view s i (v, e) at_i) (inward_view s j (u, f) at_j) ne in
      let us : List (V × Away) = slice_set s.views i (g.0, e) in
      let is : slice_set (slice_set (inward s).views i g.0) j g.1 ≡ map_of (slice_set us j (g.1, f)) =
      sym (map-set view us j (g.1, f) ∙ ap (λ (vs : List V). slice_set vs j g.1) (map-set view s.views i (g.0, e))) in
      let there : slice_get us j ≡ Some (u, f) = other_view s.views i j (g.0, e) (λ k. ne (sym k)) ∙ at_j in (
        (g.0, e),
        (g.1, f),
        (
          subst (λ (vs : List V). holds record { memory = s.memory; views = vs; world = s.world }) is g.2,
          resting_set us s.memory s.memory s.world s.world j u g.1 f
              (resting_set s.views s.memory s.memory s.world s.world i v g.0 e h.1 at_i (may g.0 g.1 g.3).0) there
              (may g.0 g.1 g.3).1,
          leaning_set us s.memory s.memory s.world s.world j u g.1 f
              (leaning_set s.views s.memory s.memory s.world s.world i v g.0 e h.2 at_i (lean g.0 g.1 g.3).0) there
              (lean g.0 g.1 g.3).1,
        ),
        (g.3, refl, refl),
      )

  pub starts_away : (roots : ℕ) → Starts holds roots → Starts Hold roots
  starts_away roots s = (s.0, (s.1, (λ id v e. absurd (cc e)), λ id u k e lean. absurd (cc e)))

  pub idle : (s : St) → Hold s → AreAllBack (λ (u : V × Away). u.1) s.views → AreIdle rests (inward s)
  idle s h back id v at = let u = mapped_at view s.views id v at in let home : u.0.1 ≡ None = back id u.0 u.1 in
      h.1 id v (u.1 ∙ ap (λ (x : V). Some (of x u.0.1)) u.2 ∙ ap (λ (x : Away). Some (of v x)) home)

  -- WHERE ALL ARE BACK THE MEMORY MAY BE RENEWED IF IT MAY BE WHERE ALL REST
  pub renews_away : RenewsIdle rests holds → RenewsBack (λ (u : V × Away). u.1) Hold
  renews_away law s h back = let r = law (inward s) h.0 (idle s h back) in (r.0, (r.1, (λ id v e. absurd (cc e)), λ id u k e lean. absurd (cc e)))

  -- with one seat that comes and rests, and with one whose view is known, under another rule
  module _ {V' W' : Type 0} (rests' : V' → Type 0) (leans' : V' → ℕ → Type 0) (upright' : (v : V') (n : ℕ) → rests' v → leans' v n → ⊥)
      (after : State T V' W' → Type 0) where
    abbrev Then : State T (V' × Away) W' → Type 0
    Then = HoldsAway rests' leans' after

    abbrev first : V' → Away → V' × Away
    first v e = (v, e)

    abbrev one : V' → List (V' × Away)
    one v = (v, None) ∷ []

    pub comes_alone : (v : V') → rests' v → RenewsTo rests holds after (v ∷ []) → (s : St) → Hold s → AreAllBack (λ (u : V × Away). u.1) s.views
        → (w : W') × Then record { memory = s.memory; views = (v, None) ∷ []; world = w }
    comes_alone v rest law s h back = let r = law (inward s) h.0 (idle s h back) in (r.0, (r.1, by, leaning))
      where
        by : (i : ℕ) (u : V') → slice_get (one v) i ≡ Some (first u None) → rests' u
        by zero u e = let same : first v None ≡ first u None = cc e in subst rests' (ap (λ (x : V' × Away). x.0) same) rest
        by (suc i) u e = absurd (cc e)

        leaning : (i : ℕ) (u : V' × Away) (k : ℕ) → slice_get (one v) i ≡ Some u → leans' u.0 k → Lends u.1 k
        leaning zero u k e lean =
            let same : first v None ≡ u = own_view (one v) zero (first v None) u e in
            absurd (upright' v k rest (subst (λ (x : V'). leans' x k) (sym (ap (λ (x : V' × Away). x.0) same)) lean))
        leaning (suc i) u k e lean = absurd (cc e)

    pub ends_alone : (id : ℕ) (v : V) (e : Away) → RenewsFrom rests holds after id v → (s : St) → Hold s → AreAllBack (λ (u : V × Away). u.1) s.views
        → slice_get s.views id ≡ Some (v, e) → (w : W') × Then record { memory = s.memory; views = []; world = w }
    ends_alone id v e law s h back at = let r = law (inward s) h.0 (inward_view s id (v, e) at) (idle s h back) in (r.0, (r.1, (λ i u is. absurd (cc is)), λ i u k is lean. absurd (cc is)))

    -- with the same seats, and each one rests
    module _ (left : V → V') (heir : V') (resting : (v : V) → rests v → rests' (left v)) (rest : rests' heir) where
      abbrev leaves : V × Away → V' × Away
      leaves u = (left u.0, None)

      abbrev pub all_left : List (V × Away) → ℕ → List (V' × Away)
      all_left us id = slice_set (map leaves us) id (heir, None)

      pub inherits_alone : (id : ℕ) (v : V) (e : Away) → RenewsInto rests holds after id v left heir → (s : St) → Hold s → AreAllBack (λ (u : V × Away). u.1) s.views
          → slice_get s.views id ≡ Some (v, e) → (w : W') × Then record { memory = s.memory; views = all_left s.views id; world = w }
      inherits_alone id v e law s h back at =
          let r = law (inward s) h.0 (inward_view s id (v, e) at) (idle s h back) in (
            r.0,
            (
              subst (λ (vs : List V'). after record { memory = s.memory; views = vs; world = r.0 })
                  (sym (set_left leaves (λ (u : V' × Away). u.0) view left (λ u. refl) s.views id (heir, None))) r.1,
              λ i u is. rested i (first u None) is,
              λ i u k is lean. absurd (upright' u.0 k (rested i u is) lean),
            ),
          )
        where
          rested : (i : ℕ) (u : V' × Away) → slice_get (all_left s.views id) i ≡ Some u → rests' u.0
          rested = set_all (λ (u : V' × Away). rests' u.0) (map leaves s.views) id (heir, None) rest (λ i u is.
              (let k = mapped_at leaves s.views i u is in
              subst (λ (x : V' × Away). rests' x.0) k.2 (resting k.0.0 (idle s h back i k.0.0 (inward_view s i k.0 k.1)))))

  pub shown_both_away : (i : ℕ) (v : V) (e : Away) (j : ℕ) (u : V) (f : Away) (b : ℕ) → VisibleToBoth holds i v j u b
      → VisibleToBoth Hold i (v, e) j (u, f) b
  shown_both_away i v e j u f b shown s h at_i at_j = shown (inward s) h.0 (inward_view s i (v, e) at_i) (inward_view s j (u, f) at_j)

  pub value_both_away : (i : ℕ) (v : V) (e : Away) (j : ℕ) (u : V) (f : Away) (b : ℕ) (x : T) → IsValueOfBoth Hold i (v, e) j (u, f) b x
      → IsValueOfBoth holds i v j u b x
  value_both_away i v e j u f b x is = (inward is.0, is.1.0, inward_view is.0 i (v, e) is.2, inward_view is.0 j (u, f) is.3, is.4)

  pub value_away : (id : ℕ) (v : V) (e : Away) (b : ℕ) (x : T) → IsValueOf Hold id (v, e) b x → IsValueOf holds id v b x
  value_away id v e b x is = (inward is.0, is.1.0, inward_view is.0 id (v, e) is.2, is.3)

  -- ---- errands
  here_again : (us : List (V × Away)) (id : ℕ) (v : V) (e f : Away) → slice_get us id ≡ Some (v, e)
      → map_of (slice_set us id (v, f)) ≡ map_of us
  here_again [] id v e f at = refl
  here_again (u ∷ us) zero v e f at = let same : u ≡ of v e = cc at in ap (λ (x : V). x ∷ map_of us) (sym (ap view same))
  here_again (u ∷ us) (suc id) v e f at = ap (λ (l : List V). u.0 ∷ l) (here_again us id v e f at)

  -- it is another errand then, or none, and it rests if it is none
  pub errs : (id : ℕ) (v : V) (e f : Away) → (f ≡ None → rests v) → ((k : ℕ) → leans v k → Lends f k) → (s : St) → Hold s → view_of s id ≡ Some (v, e)
      → Hold (State.after s s.memory id (v, f) s.world)
  errs id v e f rest lent s h at = (
    subst (λ (vs : List V). holds record { memory = s.memory; views = vs; world = s.world }) (sym (here_again s.views id v e f at)) h.0,
    resting,
    leaning,
  )
    where
      leaning : AreLeaning leans (State.after s s.memory id (v, f) s.world)
      leaning i u k is lean = by (cases_eq i id)
        where
          by : (i ≡ id) ⊎ (i ≢ id) → Lends u.1 k
          by (inl one) =
              let there : slice_get (slice_set s.views i (v, f)) i ≡ Some u = ap (λ (j : ℕ). slice_get (slice_set s.views j (v, f)) i) one ∙ is in
              let same : of v f ≡ u = own_view s.views i (v, f) u there in
              subst (λ (x : Away). Lends x k) (ap (λ (x : V × Away). x.1) same) (lent k (subst (λ (x : V). leans x k) (sym (ap view same)) lean))
          by (inr ne) = h.2 i u k (sym (other_view s.views id i (v, f) ne) ∙ is) lean

      resting : AreResting rests (State.after s s.memory id (v, f) s.world)
      resting i u is = by (cases_eq i id)
        where
          by : (i ≡ id) ⊎ (i ≢ id) → rests u
          by (inl one) =
              let there : slice_get (slice_set s.views i (v, f)) i ≡ Some (u, None) = ap (λ (k : ℕ). slice_get (slice_set s.views k (v, f)) i) one ∙ is in
              let same : of v f ≡ of u None = own_view s.views i (v, f) (u, None) there in
              subst rests (ap view same) (rest (ap (λ (x : V × Away). x.1) same))
          by (inr ne) = h.1 i u (sym (other_view s.views id i (v, f) ne) ∙ is)
