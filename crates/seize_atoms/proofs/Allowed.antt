-- What a rule allows a seat it may do where seats visit blocks and go on errands.
use Rattle.std.specs.Prelude.{◌≡◌, ℕ, zero, suc, List, [], ◌∷◌, Some, None, IsSome, slice_get, slice_set, map, ◌++◌}
use Rattle.std.proofs.Common.{refl, sym, ap, ◌∙◌, subst, arith, ◌⊎◌, inl, inr}
use denote.RawPtr.{Ptr}
use Rattle.seize_words.specs.OneMemory.Mem.{Mem, value_at, word_at}
use Rattle.seize_words.specs.declared.at.At.{At}
use Rattle.seize_words.specs.declared.at.At.TheVariants.{Root, Used, Slot, Entry, Word}
use Rattle.seize_words.specs.OneMemory.Op.{Op, Out, Make, Take, Rewrite}
use Rattle.seize_seats.specs.Seats.State.{State, view_of, Goes, Allows, Owns, Turns, Learns, KeptByTwo, AreThere, Starts, Comes, Meets, Testifies}
use Rattle.seize_seats.specs.Seats.State as State
use Rattle.seize_seats.specs.Seats.Lendings.{VisibleTo, VisibleToBoth, VisibleToThree, VisibleByWitness, IsValueOf, IsValueOfBoth, IsValueSo, IsValueBy}
use Rattle.seize_seats.specs.Seats.Start.{bare, WasIdle, WasKnown}
use Rattle.seize_seats.specs.Seats.Visits.{Spot, Visit, Claim, fresh, onward, onward_at, witness, plain, plain_memory, plain_op, plain_out, HoldsKept, keeps_kept, then_kept}
use Rattle.seize_seats.specs.Seats.Errands.{Away, inward, RenewsIdle, RenewsTo, RenewsFrom, RenewsInto, AreAllBack, AreIdle, then_away, Lends, AreUnlent, TurnsUnlent, MayGo, MayGoAll, MayLean, MayLeanAll, MayMeet, MayLeanBoth}
use Rattle.seize_seats.proofs.Seats.Places.Plain.{IsOnWord, value_of_block}
use Rattle.seize_seats.proofs.Seats.Stepping.Visits as Visits
use Rattle.seize_seats.proofs.Seats.Stepping.Errands as Errands
use Rattle.seize_seats.specs.Plots.Pieces.{value_of, lies}
use Rattle.seize_seats.specs.declared.kept.Kept.{Kept}
use Rattle.seize_seats.specs.Seats.Owned.{BaseId}
use Rattle.seize_atoms.specs.Placed.{IsItsPlace}
use Rattle.seize_seats.proofs.Seats.Stepping.Visits.{own_view}
use Rattle.seize_atoms.specs.Visiting.{Seen, IsKept, HoldsHere, HoldsSince, keeps_here}
use Rattle.seize_atoms.proofs.Claimed.{IsOn, claims_after, claims_joined, claims_met, claims_then}

-- ---- who is there is there still
set_there : {A : Type 0} (vs : List A) (i : ℕ) (v w : A) → slice_get vs i ≡ Some v → slice_set vs i w ≡ [] → ⊥
set_there [] i v w at e = absurd (cc at)
set_there (x ∷ vs) zero v w at e = cc e
set_there (x ∷ vs) (suc i) v w at e = cc e

two_there : {A : Type 0} (vs : List A) (i j : ℕ) (v w u : A) → slice_get vs i ≡ Some v → slice_set (slice_set vs i w) j u ≡ [] → ⊥
two_there [] i j v w u at e = absurd (cc at)
two_there (x ∷ vs) zero zero v w u at e = cc e
two_there (x ∷ vs) zero (suc j) v w u at e = cc e
two_there (x ∷ vs) (suc i) zero v w u at e = cc e
two_there (x ∷ vs) (suc i) (suc j) v w u at e = cc e

come_there : {A : Type 0} (vs : List A) (v : A) → vs ++ v ∷ [] ≡ [] → ⊥
come_there [] v e = cc e
come_there (x ∷ vs) v e = cc e

-- m: what the memory was as its present lifetime began
module _ {T V W : Type 0} (rests : V → Type 0) (leans : V → ℕ → Type 0) (upright : (v : V) (n : ℕ) → rests v → leans v n → ⊥) (holds : State T V W → Type 0)
    (keeps : V → V → W → ℕ → Type 0) (m : Mem T) where
  abbrev St : Type 0
  St = State (Kept T) (Seen V) W

  abbrev Here : St → Type 0
  Here = HoldsHere rests leans holds

  abbrev Hold : St → Type 0
  Hold = HoldsSince rests leans m holds keeps

  abbrev Keep : Seen V → Seen V → W → ℕ → Type 0
  Keep = keeps_here keeps

  abbrev rest : V × Visit → Type 0
  rest u = rests u.0

  abbrev lean : V × Visit → ℕ → Type 0
  lean u n = leans u.0 n

  up : (u : V × Visit) (n : ℕ) → rest u → lean u n → ⊥
  up u n = upright u.0 n

  -- what holds where seats visit blocks, and go on no errands
  abbrev Visited : State (Kept T) (V × Visit) W → Type 0
  Visited = HoldsKept value_of lies holds

  abbrev Keeps : V × Visit → V × Visit → W → ℕ → Type 0
  Keeps = keeps_kept {T = T} value_of keeps

  onwards : (y : Visit) (w : Seen V) → w.0.1 ≡ onward y → IsOn y w
  onwards y w is = (ap (λ (x : Visit). x.steps) is, ap (λ (x : Visit). x.claim) is)

  -- what a step leaves holds in a lifetime that began so, and what was claimed is so
  goes_since : (s : St) (n : Mem (Kept T)) (id : ℕ) (u : Seen V) (so : Seen V → Type 0) → Hold s → view_of s id ≡ Some u → ((w : Seen V) → so w → IsOn u.0.1 w)
      → Goes Here Keep s n id so → Goes Hold Keep s n id so
  goes_since s n id u so h at on g = (
    g.0,
    g.1,
    (g.2, (λ e. absurd (set_there s.views id u g.0 at e)), claims_after Hold keeps s n id u g.0 g.1 at (on g.0 g.4) g.3 h.2),
    g.3,
    g.4,
  )

  allows_since : (id : ℕ) (u : Seen V) (op : Op (Kept T)) (so : Out (Kept T) → Seen V → Type 0) → ((out : Out (Kept T)) (w : Seen V) → so out w → IsOn u.0.1 w)
      → Allows Here Keep id u op so → Allows Hold Keep id u op so
  allows_since id u op so on law s h at = let k = law s h.0 at in (k.0, λ out n took. goes_since s n id u (so out) h at (on out) (k.1 out n took))

  turns_since : (id : ℕ) (u : Seen V) (so : Seen V → Type 0) → ((w : Seen V) → so w → IsOn u.0.1 w) → Turns Here Keep id u so → Turns Hold Keep id u so
  turns_since id u so on law s h at = goes_since s s.memory id u so h at on (law s h.0 at)

  module _ (tells : V → Op T → Out T → V → Type 0) (stay : (v : V) (op : Op T) (out : Out T) (w : V) → tells v op out w → rests v → rests w)
      (stays_up : (v : V) (op : Op T) (out : Out T) (w : V) → tells v op out w → (n : ℕ) → leans w n → leans v n) where
    may : (v : V) (y : Visit) (e : Away) (op : Op T) → MayGoAll {T = Kept T} rest e (v, y) (then_kept value_of y (tells v op))
    may v y e op out home rested u told = stay v op (plain_out value_of out) u.0 told.0 rested

    may_lean : (v : V) (y : Visit) (e : Away) (op : Op T) → MayLeanAll {T = Kept T} lean e (v, y) (then_kept value_of y (tells v op))
    may_lean v y e op out u told n leaning = inl (stays_up v op (plain_out value_of out) u.0 told.0 n leaning)

    pub word_allowed : (id : ℕ) (v : V) (y : Visit) (e : Away) (op : Op (Kept T)) → IsOnWord op
        → Allows holds keeps id v (plain_op value_of op) (tells v (plain_op value_of op))
        → Allows Hold Keep id ((v, y), e) op (then_away e (then_kept value_of y (tells v (plain_op value_of op))))
    word_allowed id v y e op on law = let told : Op T = plain_op value_of op in
        allows_since id ((v, y), e) op (then_away e (then_kept value_of y (tells v told))) (λ out w k. onwards y w k.0.1) (
        Errands.allowed_away rest lean up Visited Keeps id (v, y) e op (then_kept value_of y (tells v told)) (may v y e told) (may_lean v y e told)
        (Visits.word_allowed value_of lies holds keeps id v y op (tells v told) on law))

    pub make_allowed : (id : ℕ) (v : V) (y : Visit) (e : Away) (x : Kept T) (words : ℕ) → Allows holds keeps id v (Make (value_of x) words) (tells v (Make (value_of x) words))
        → Allows Hold Keep id ((v, y), e) (Make x words) (then_away e (then_kept value_of y (tells v (Make (value_of x) words))))
    make_allowed id v y e x words law = let told : Op T = Make (value_of x) words in
        allows_since id ((v, y), e) (Make x words) (then_away e (then_kept value_of y (tells v told))) (λ out w k. onwards y w k.0.1) (
        Errands.allowed_away rest lean up Visited Keeps id (v, y) e (Make x words) (then_kept value_of y (tells v told)) (may v y e told) (may_lean v y e told)
        (Visits.make_allowed value_of lies holds keeps id v y x words (tells v told) law))

    pub take_allowed : (id : ℕ) (v : V) (y : Visit) (e : Away) (b : ℕ) → Allows holds keeps id v (Take b) (tells v (Take b))
        → Allows Hold Keep id ((v, y), e) (Take b) (then_away e (then_kept value_of y (tells v (Take b))))
    take_allowed id v y e b law = let told : Op T = Take b in
        allows_since id ((v, y), e) (Take b) (then_away e (then_kept value_of y (tells v told))) (λ out w k. onwards y w k.0.1) (
        Errands.allowed_away rest lean up Visited Keeps id (v, y) e (Take b) (then_kept value_of y (tells v told)) (may v y e told) (may_lean v y e told)
        (Visits.take_allowed value_of lies holds keeps id v y b (tells v told) law))

    pub rewrite_allowed : (id : ℕ) (v : V) (y : Visit) (e : Away) (b : ℕ) (x : Kept T) → Owns holds keeps id v b
        → Allows holds keeps id v (Rewrite b (value_of x)) (tells v (Rewrite b (value_of x)))
        → Allows Hold Keep id ((v, y), e) (Rewrite b x) (then_away e (then_kept value_of y (tells v (Rewrite b (value_of x)))))
    rewrite_allowed id v y e b x owns law = let told : Op T = Rewrite b (value_of x) in
        allows_since id ((v, y), e) (Rewrite b x) (then_away e (then_kept value_of y (tells v told))) (λ out w k. onwards y w k.0.1) (
        Errands.allowed_away rest lean up Visited Keeps id (v, y) e (Rewrite b x) (then_kept value_of y (tells v told)) (may v y e told) (may_lean v y e told)
        (Visits.rewrite_allowed value_of lies holds keeps id v y b x (tells v told) owns law))

  pub owned_here : (id : ℕ) (v : V) (y : Visit) (e : Away) (b : ℕ) → Owns holds keeps id v b → Owns Hold Keep id ((v, y), e) b
  owned_here id v y e b owns s h at =
      let so : Out (Kept T) → V × Visit → Type 0 = then_kept value_of y (λ _ _. Unit {0}) in
      let a = allows_since id ((v, y), e) (Take b) (λ out u. so out u.0) (λ out w k. onwards y w k.1)
      (Errands.owned_away rest lean up Visited Keeps id (v, y) e b so (Visits.take_allowed value_of lies holds keeps id v y b (λ _ _. Unit {0}) owns)) s h at in
      (a.0, λ out n took. (let g = a.1 out n took in (g.0, g.1, g.2, g.3, tt)))

  pub starts_allowed : (roots : ℕ) → Starts holds roots → Starts (HoldsSince rests leans (bare roots) holds keeps) roots
  starts_allowed roots law =
      let r = Errands.starts_away rest lean up Visited Keeps roots (Visits.starts_kept value_of lies holds keeps roots law) in (r.0, (r.1, (λ e. refl), λ id u c at claims. absurd (cc at)))

  pub turn_allowed : (id : ℕ) (v : V) (y : Visit) (e : Away) (so : V → Type 0) → MayGo rests e v so → MayLean leans e v so
      → Turns holds keeps id v so → Turns Hold Keep id ((v, y), e) (λ u. (so u.0.0 × (u.0.1 ≡ onward y)) × (u.1 ≡ e))
  turn_allowed id v y e so may leaning law =
      turns_since id ((v, y), e) (λ u. (so u.0.0 × (u.0.1 ≡ onward y)) × (u.1 ≡ e)) (λ w k. onwards y w k.0.1) (
      Errands.turn_away rest lean up Visited Keeps id (v, y) e (λ u. so u.0 × (u.1 ≡ onward y)) (λ home rested u told. may home rested u.0 told.0)
      (λ u told n leans_on. leaning u.0 told.0 n leans_on)
      (Visits.turn_kept value_of lies holds keeps id v y so law))

  -- a seat that is lent to nobody turns where the rule lets it turn if nobody leans on it
  pub part_allowed : (id : ℕ) (v : V) (y : Visit) (e : Away) (so : V → Type 0) → MayGo rests e v so → MayLean leans e v so
      → TurnsUnlent holds keeps leans id v so → (s : St) → Hold s → view_of s id ≡ Some ((v, y), e) → AreUnlent (λ (u : Seen V). u.1) id s.views
      → Goes Hold Keep s s.memory id (λ u. (so u.0.0 × (u.0.1 ≡ onward y)) × (u.1 ≡ e))
  part_allowed id v y e so may leaning law s h at none =
      goes_since s s.memory id ((v, y), e) (λ w. (so w.0.0 × (w.0.1 ≡ onward y)) × (w.1 ≡ e)) h at (λ w k. onwards y w k.0.1) (
      Errands.unlent_away rest lean up Visited Keeps id (v, y) e (λ w. so w.0 × (w.1 ≡ onward y)) (λ home rested w told. may home rested w.0 told.0)
      (λ w told n leans_on. leaning w.0 told.0 n leans_on) plain_turn s h.0 at none)
    where
      plain_turn : TurnsUnlent Visited Keeps lean id (v, y) (λ w. so w.0 × (w.1 ≡ onward y))
      plain_turn t held here unlent = Visits.goes_kept value_of lies holds keeps t id y so held
          (law (plain value_of t) held.0 (Visits.view_plain value_of lies holds keeps t id (v, y) here) (λ i w at_i leans_on.
          (let u = Errands.mapped_at (λ (u : V × Visit). u.0) t.views i w at_i in unlent i u.0 u.1 (subst (λ (x : V). leans x id) (sym u.2) leans_on))))

  pub learn_allowed : (i : ℕ) (v : V) (y : Visit) (e : Away) (j : ℕ) (u : V) (x : Visit) (f : Away) (so : V → Type 0) → MayGo rests e v so → MayLean leans e v so
      → Learns holds keeps i v j u so → Learns Hold Keep i ((v, y), e) j ((u, x), f) (λ w. (so w.0.0 × (w.0.1 ≡ onward y)) × (w.1 ≡ e))
  learn_allowed i v y e j u x f so may leaning law s h at_i at_j ne =
      goes_since s s.memory i ((v, y), e) (λ w. (so w.0.0 × (w.0.1 ≡ onward y)) × (w.1 ≡ e)) h at_i (λ w k. onwards y w k.0.1) (
      Errands.learn_away rest lean up Visited Keeps i (v, y) e j (u, x) f (λ w. so w.0 × (w.1 ≡ onward y)) (λ home rested w told. may home rested w.0 told.0)
      (λ w told n leans_on. leaning w.0 told.0 n leans_on)
      (Visits.learn_kept value_of lies holds keeps i v y j u x so law) s h.0 at_i at_j ne)

  pub visit_allowed : (id : ℕ) (v : V) (y : Visit) (e : Away) (b : ℕ) → VisibleTo holds id v b
      → Turns Hold Keep id ((v, y), e) (λ u. ((u.0.0 ≡ v) × ((p : Spot) × (u.0.1 ≡ onward_at y b p))) × (u.1 ≡ e))
  visit_allowed id v y e b shown =
      turns_since id ((v, y), e) (λ u. ((u.0.0 ≡ v) × ((p : Spot) × (u.0.1 ≡ onward_at y b p))) × (u.1 ≡ e))
      (λ w k. (ap (λ (x : Visit). x.steps) k.0.1.1, ap (λ (x : Visit). x.claim) k.0.1.1)) (
      Errands.turn_away rest lean up Visited Keeps id (v, y) e (λ u. (u.0 ≡ v) × ((p : Spot) × (u.1 ≡ onward_at y b p))) (λ home rested u told. subst rests (sym told.0) rested)
      (λ u told n leans_on. inl (subst (λ (w : V). leans w n) told.0 leans_on))
      (Visits.visits value_of lies holds keeps id v y b shown))

  pub comes_allowed : (v : V) → rests v → Comes holds keeps v → Comes Hold Keep ((v, fresh), None)
  comes_allowed v rested law s h =
      let r = Errands.comes_away rest lean up Visited Keeps (v, fresh) rested (Visits.comes_kept value_of lies holds keeps v fresh refl law) s h.0 in (
        r.0,
        (
          r.1,
          (λ e. absurd (come_there s.views ((v, fresh), None) e)),
          claims_joined Hold keeps s ((v, fresh), None) r.0 r.2 (λ c claims. absurd (cc claims)) h.2,
        ),
        r.2,
      )

  pub meet_allowed : (i : ℕ) (v : V) (y : Visit) (e : Away) (j : ℕ) (u : V) (x : Visit) (f : Away) (so : V → V → Type 0) → MayMeet rests e v f u so
      → MayLeanBoth leans e v f u so → Meets holds i v j u so
      → Meets Hold i ((v, y), e) j ((u, x), f) (λ c d. (so c.0.0 d.0.0 × (c.0.1 ≡ onward y) × (d.0.1 ≡ onward x)) × (c.1 ≡ e) × (d.1 ≡ f))
  meet_allowed i v y e j u x f so may leaning law s h at_i at_j ne =
      let g = Errands.meets_away rest lean up Visited Keeps i (v, y) e j (u, x) f (λ c d. so c.0 d.0 × (c.1 ≡ onward y) × (d.1 ≡ onward x)) (λ c d told. may c.0 d.0 told.0)
      (λ c d told. leaning c.0 d.0 told.0)
      (Visits.meets_kept value_of lies holds keeps i v y j u x so law) s h.0 at_i at_j ne in (
        g.0,
        g.1,
        (
          g.2,
          (λ none. absurd (two_there s.views i j ((v, y), e) g.0 g.1 at_i none)),
          claims_met Hold keeps s i j ((v, y), e) ((u, x), f) g.0 g.1 at_i at_j ne (onwards y g.0 g.3.0.1) (onwards x g.1 g.3.0.2) h.2,
        ),
        g.3,
      )

  -- where all rest
  plain_idle : (s : State (Kept T) (V × Visit) W) → AreIdle rest s → AreIdle rests (plain value_of s)
  plain_idle s idle id v at = (let u = Errands.mapped_at (λ (u : V × Visit). u.0) s.views id v at in subst rests u.2 (idle id u.0 u.1))

  renews_visited : RenewsIdle rests holds → RenewsIdle rest Visited
  renews_visited law s h idle = let r = law (plain value_of s) h.0 (plain_idle s idle) in (r.0, (r.1, λ id u b p e visits. absurd (cc e)))

  pub renew_allowed : RenewsIdle rests holds → (s : St) → Hold s → AreAllBack (λ (u : Seen V). u.1) s.views
      → (w : W) × HoldsSince rests leans (plain_memory value_of s.memory) holds keeps record { memory = s.memory; views = []; world = w }
  renew_allowed law s h home = let r = Errands.renews_away rest lean up Visited Keeps (renews_visited law) s h.0 home in (r.0, (r.1, (λ e. refl), λ id u c at claims. absurd (cc at)))

  -- with one seat that comes and rests, and with one whose view is known, under another rule
  module _ {V' W' : Type 0} (rests' : V' → Type 0) (leans' : V' → ℕ → Type 0) (upright' : (v : V') (n : ℕ) → rests' v → leans' v n → ⊥)
      (after : State T V' W' → Type 0) (keeps' : V' → V' → W' → ℕ → Type 0) where
    abbrev rest' : V' × Visit → Type 0
    rest' u = rests' u.0

    abbrev lean' : V' × Visit → ℕ → Type 0
    lean' u n = leans' u.0 n

    up' : (u : V' × Visit) (n : ℕ) → rest' u → lean' u n → ⊥
    up' u n = upright' u.0 n

    abbrev Later : State (Kept T) (V' × Visit) W' → Type 0
    Later = HoldsKept value_of lies after

    abbrev Then : St → State (Kept T) (Seen V') W' → Type 0
    Then s = HoldsSince rests' leans' (plain_memory value_of s.memory) after keeps'

    abbrev back : Seen V → Away
    back u = u.1

    abbrev one : V' → List (V' × Visit)
    one v = (v, fresh) ∷ []

    abbrev alone : V' → Seen V'
    alone v = ((v, fresh), None)

    pub comes_alone : (v : V') → rests' v → RenewsTo rests holds after (v ∷ []) → (s : St) → Hold s → AreAllBack back s.views
        → (w : W') × Then s record { memory = s.memory; views = ((v, fresh), None) ∷ []; world = w }
    comes_alone v rested law s h home =
        let k = Errands.comes_alone rest lean up Visited Keeps rest' lean' up' Later (v, fresh) rested
        (λ t i idle. (let r = law (plain value_of t) i.0 (plain_idle t idle) in (r.0, (r.1, λ i u b p e visits. by i u b p e visits)))) s h.0 home in
        (k.0, (k.1, (λ e. absurd (cc e)), λ id u c at claims. claims_none id u c at claims))
      where
        by : {A : Type 0} (i : ℕ) (u : V' × Visit) (b : ℕ) (p : Spot) → slice_get (one v) i ≡ Some u → u.1.spot ≡ Some (b, p) → A
        by zero u b p e visits =
            absurd (cc (ap (λ (x : V' × Visit). x.1.spot) (own_view (one v) zero (v, fresh) u e) ∙ visits))
        by (suc i) u b p e visits = absurd (cc e)

        claims_none : {A : Type 0} (i : ℕ) (u : Seen V') (c : Claim) → slice_get (alone v ∷ []) i ≡ Some u → u.0.1.claim ≡ Some c → A
        claims_none zero u c e claims = absurd (cc (ap (λ (x : Seen V'). x.0.1.claim) (own_view (alone v ∷ []) zero (alone v) u e) ∙ claims))
        claims_none (suc i) u c e claims = absurd (cc e)

    pub ends_alone : (id : ℕ) (v : V) (y : Visit) (e : Away) → RenewsFrom rests holds after id v → (s : St) → Hold s → AreAllBack back s.views
        → slice_get s.views id ≡ Some ((v, y), e) → (w : W') × Then s record { memory = s.memory; views = []; world = w }
    ends_alone id v y e law s h home at =
        let k = Errands.ends_alone rest lean up Visited Keeps rest' lean' up' Later id (v, y) e
        (λ t i at_id idle. (let r = law (plain value_of t) i.0 (Visits.view_plain value_of lies holds keeps t id (v, y) at_id) (plain_idle t idle) in (r.0, (r.1, λ i u b p is visits. absurd (cc is))))) s h.0 home at in
        (k.0, (k.1, (λ none. refl), λ i u c is claims. absurd (cc is)))

    -- with the same seats
    module _ (left : V → V') (heir : V') (resting : (v : V) → rests v → rests' (left v)) (rested : rests' heir) where
      abbrev pub leaves : Seen V → Seen V'
      leaves u = alone (left u.0.0)

      abbrev visitor : V × Visit → V' × Visit
      visitor u = (left u.0, fresh)

      -- none of them visits a block, and none bears witness
      all_fresh : (us : List (V × Visit)) (id i : ℕ) (u : V' × Visit) → slice_get (slice_set (map visitor us) id (heir, fresh)) i ≡ Some u → u.1 ≡ fresh
      all_fresh us id = Errands.set_all (λ (u : V' × Visit). u.1 ≡ fresh) (map visitor us) id (heir, fresh) refl (λ i u at.
          (let k = Errands.mapped_at visitor us i u at in ap (λ (x : V' × Visit). x.1) (sym k.2)))

      none_claim : (us : List (Seen V)) (id i : ℕ) (u : Seen V') → slice_get (slice_set (map leaves us) id (alone heir)) i ≡ Some u → u.0.1.claim ≡ None
      none_claim us id = Errands.set_all (λ (u : Seen V'). u.0.1.claim ≡ None) (map leaves us) id (alone heir) refl (λ i u at.
          (let k = Errands.mapped_at leaves us i u at in ap (λ (x : Seen V'). x.0.1.claim) (sym k.2)))

      pub inherits_alone : (id : ℕ) (v : V) (y : Visit) (e : Away) → RenewsInto rests holds after id v left heir → (s : St) → Hold s → AreAllBack back s.views
          → slice_get s.views id ≡ Some ((v, y), e)
          → (w : W') × Then s record { memory = s.memory; views = slice_set (map leaves s.views) id (alone heir); world = w }
      inherits_alone id v y e law s h home at =
          let k = Errands.inherits_alone rest lean up Visited Keeps rest' lean' up' Later visitor (heir, fresh) (λ u is. resting u.0 is) rested id (v, y) e visited s h.0 home at in
          (k.0, (k.1, (λ none. refl), λ i u c is claims. absurd (cc (sym (none_claim s.views id i u is) ∙ claims))))
        where
          visited : RenewsInto rest Visited Later id (v, y) visitor (heir, fresh)
          visited t i at_id idle =
              let r = law (plain value_of t) i.0 (Visits.view_plain value_of lies holds keeps t id (v, y) at_id) (plain_idle t idle) in (
                r.0,
                (
                  subst (λ (vs : List V'). after record { memory = plain_memory value_of t.memory; views = vs; world = r.0 })
                      (sym (Errands.set_left visitor (λ (u : V' × Visit). u.0) (λ (u : V × Visit). u.0) left (λ u. refl) t.views id (heir, fresh))) r.1,
                  λ i u b p is visits. absurd (cc (ap (λ (x : Visit). x.spot) (sym (all_fresh t.views id i u is)) ∙ visits)),
                ),
              )

  -- what was so of the memory as a renewal found it
  pub was_idle : (s : St) → Hold s → AreAllBack (λ (u : Seen V). u.1) s.views → WasIdle rests holds (plain_memory value_of s.memory)
  was_idle s h home = (plain value_of (inward s), h.0.0.0, plain_idle (inward s) (Errands.idle rest lean up Visited Keeps s h.0 home), refl)

  pub was_known : (id : ℕ) (v : V) (y : Visit) (e : Away) (s : St) → Hold s → AreAllBack (λ (u : Seen V). u.1) s.views
      → slice_get s.views id ≡ Some ((v, y), e) → WasKnown rests holds id v (plain_memory value_of s.memory)
  was_known id v y e s h home at =
      let known = Visits.view_plain value_of lies holds keeps (inward s) id (v, y) (Errands.inward_view rest lean up Visited Keeps s id ((v, y), e) at) in
      (plain value_of (inward s), h.0.0.0, known, plain_idle (inward s) (Errands.idle rest lean up Visited Keeps s h.0 home), refl)

  pub shown_here : (i : ℕ) (v : V) (y : Visit) (e : Away) (j : ℕ) (u : V) (x : Visit) (f : Away) (b : ℕ) → VisibleToBoth holds i v j u b
      → VisibleToBoth Hold i ((v, y), e) j ((u, x), f) b
  shown_here i v y e j u x f b shown s h at_i at_j =
      Errands.shown_both_away rest lean up Visited Keeps i (v, y) e j (u, x) f b (Visits.shown_to_both value_of lies holds keeps i v y j u x b shown) s h.0 at_i at_j

  -- ---- a seat comes that bears witness of what three seats show to be kept
  known : (s : St) (id : ℕ) (v : V) (y : Visit) (e : Away) → view_of s id ≡ Some ((v, y), e) → view_of (plain value_of (inward s)) id ≡ Some v
  known s id v y e at = Visits.view_plain value_of lies holds keeps (inward s) id (v, y) (Errands.inward_view rest lean up Visited Keeps s id ((v, y), e) at)

  module _ (i : ℕ) (v : V) (y : Visit) (e : Away) (j : ℕ) (u : V) (x : Visit) (f : Away) (k : ℕ) (o : V) (r : Visit) (d : Away) (b : ℕ) (new : V) where
    abbrev claim : Claim
    claim = record { guard = j; guards = x.steps; owner = k; owners = r.steps; block = b }

    abbrev pub bears_witness : Seen V
    bears_witness = ((new, witness claim), None)

    pub testifies_here : rests new → Comes holds keeps new → KeptByTwo holds keeps i v j u k o b
        → Testifies Hold i ((v, y), e) j ((u, x), f) k ((o, r), d) bears_witness
    testifies_here rested law shows s h at_i at_j at_k =
        let c = Errands.comes_away rest lean up Visited Keeps (new, witness claim) rested (Visits.comes_kept value_of lies holds keeps new (witness claim) refl law) s h.0 in
        let here : IsKept keeps claim s = (
          ((u, x), f),
          ((o, r), d),
          at_j,
          at_k,
          omega arith,
          omega arith,
          λ _ _. shows (plain value_of (inward s)) h.0.0.0 (known s i v y e at_i) (known s j u x f at_j) (known s k o r d at_k),
        ) in (
          c.0,
          (
            c.1,
            (λ none. absurd (come_there s.views bears_witness none)),
            claims_joined Hold keeps s bears_witness c.0 c.2 (λ is claims. (let one : claim ≡ is = cc claims in subst (λ (q : Claim). IsKept keeps q s) one here)) h.2,
          ),
        )

    -- as long as the two are at the steps of the claim the block is there
    pub shown_by_here : AreThere holds keeps → (id : ℕ) → VisibleByWitness Hold j ((u, x), f) k ((o, r), d) (Some (id, bears_witness)) b
    shown_by_here there id t h at_j at_k bears =
        let is = h.2 id bears_witness claim bears refl in let same_j : Some is.0 ≡ Some ((u, x), f) = sym is.2 ∙ at_j in let same_k : Some is.1 ≡ Some ((o, r), d) = sym is.3 ∙ at_k in
        let guard : is.0 ≡ ((u, x), f) = cc same_j in let owner : is.1 ≡ ((o, r), d) = cc same_k in
        let kept = is.6 (ap (λ (w : Seen V). w.0.1.steps) (sym guard)) (ap (λ (w : Seen V). w.0.1.steps) (sym owner)) in
        let now : keeps u o t.world b = subst (λ (w : Seen V). keeps w.0.0 o t.world b) guard (subst (λ (w : Seen V). keeps is.0.0.0 w.0.0 t.world b) owner kept) in
        value_of_block value_of t.memory b (there (plain value_of (inward t)) j u k o b h.0.0.0 (known t j u x f at_j) (known t k o r d at_k) now)

    pub value_by_here : (q : Kept T) → IsValueSo Hold j ((u, x), f) k ((o, r), d) (λ s. view_of s i ≡ Some ((v, y), e)) b q → IsValueBy holds i v j u k o b (value_of q)
    value_by_here q is = (
      plain value_of (inward is.0),
      is.1.0.0.0,
      known is.0 j u x f is.2,
      known is.0 k o r d is.3,
      known is.0 i v y e is.4,
      Visits.plain_value value_of lies holds keeps is.0.memory b q is.5,
    )

  pub shown_all_here : (i : ℕ) (v : V) (y : Visit) (e : Away) (j : ℕ) (u : V) (x : Visit) (f : Away) (k : ℕ) (o : V) (r : Visit) (d : Away) (b : ℕ)
      → VisibleToThree holds i v j u k o b → VisibleToThree Hold i ((v, y), e) j ((u, x), f) k ((o, r), d) b
  shown_all_here i v y e j u x f k o r d b shown t h at_i at_j at_k =
      value_of_block value_of t.memory b (shown (plain value_of (inward t)) h.0.0.0 (known t i v y e at_i) (known t j u x f at_j) (known t k o r d at_k))

  -- a word of a slot is there
  pub slot_here : (id : ℕ) (v : V) (y : Visit) (e : Away) (n f : ℕ) → ((s : State T V W) → holds s → view_of s id ≡ Some v → IsSome (word_at s.memory (Slot n f)))
      → (t : St) → Hold t → view_of t id ≡ Some ((v, y), e) → IsSome (word_at t.memory (Slot n f))
  slot_here id v y e n f has t h at = has (plain value_of (inward t)) h.0.0.0 (known t id v y e at)

  pub value_both : (i : ℕ) (c : Seen V) (j : ℕ) (d : Seen V) (b : ℕ) (x : Kept T) → IsValueSo Hold i c j d (λ _. Unit {0}) b x → IsValueOfBoth Here i c j d b x
  value_both i c j d b x is = (is.0, is.1.0, is.2, is.3, is.5)

  -- what both show they show with no witness
  pub shown_alone : (i : ℕ) (c : Seen V) (j : ℕ) (d : Seen V) (b : ℕ) → VisibleToBoth Hold i c j d b → VisibleByWitness Hold i c j d None b
  shown_alone i c j d b shown t h at_i at_j bears = shown t h at_i at_j

  pub value_one : (id : ℕ) (c : Seen V) (b : ℕ) (x : Kept T) → IsValueOf Hold id c b x → IsValueOf Here id c b x
  value_one id c b x is = (is.0, is.1.0, is.2, is.3)

  -- an operation is made from where the rule says, also in a lifetime that began so
  pub place_here : (id : ℕ) (c : Seen V) (p : Ptr) (z : BaseId) (at : At) (address : Ptr) (place : ℕ) → IsItsPlace Here id c p z at address place
      → IsItsPlace Hold id c p z at address place
  place_here id c p z (Word b i) address place is =
      (is.0, is.1, (is.2.0, (is.2.1.0, (λ t h at_id. is.2.1.1 t h.0 at_id), is.2.1.2)))
  place_here id c p z (Root r) address place is = is
  place_here id c p z (Used r) address place is = is
  place_here id c p z (Slot s i) address place is = is
  place_here id c p z (Entry b i) address place is = is

  -- a seat goes on another errand, or on none if it rests
  pub errand_allowed : (id : ℕ) (v : V) (y : Visit) (e f : Away) → (f ≡ None → rests v) → (e ≡ None) ⊎ (f ≡ None) → (s : St) → Hold s
      → view_of s id ≡ Some ((v, y), e) → Hold (State.after s s.memory id ((v, y), f) s.world)
  errand_allowed id v y e f rested either s h at = (
    Errands.errs rest lean up Visited Keeps id (v, y) e f rested (λ n leaning. lent either n leaning) s h.0 at,
    (λ none. absurd (set_there s.views id ((v, y), e) ((v, y), f) at none)),
    claims_then Hold keeps s id v y e f at h.2,
  )
    where
      -- as it goes, and as it comes back, it leans on nobody
      lent : (e ≡ None) ⊎ (f ≡ None) → (n : ℕ) → leans v n → Lends f n
      lent (inl none) n leaning = absurd (subst (λ (x : Away). Lends x n) none (h.0.2 id ((v, y), e) n at leaning))
      lent (inr home) n leaning = absurd (upright v n (rested home) leaning)

-- ---- what is shown and found
module _ {T V W : Type 0} (rests : V → Type 0) (leans : V → ℕ → Type 0) (upright : (v : V) (n : ℕ) → rests v → leans v n → ⊥) (holds : State T V W → Type 0)
    (keeps : V → V → W → ℕ → Type 0) where
  abbrev resting : V × Visit → Type 0
  resting u = rests u.0

  abbrev leaning : V × Visit → ℕ → Type 0
  leaning u n = leans u.0 n

  stands_up : (u : V × Visit) (n : ℕ) → resting u → leaning u n → ⊥
  stands_up u n = upright u.0 n

  abbrev Visiting : State (Kept T) (V × Visit) W → Type 0
  Visiting = HoldsKept value_of lies holds

  abbrev Keeping : V × Visit → V × Visit → W → ℕ → Type 0
  Keeping = keeps_kept {T = T} value_of keeps

  abbrev As : State (Kept T) (Seen V) W → Type 0
  As = HoldsHere rests leans holds

  pub value_here : (i : ℕ) (v : V) (y : Visit) (e : Away) (j : ℕ) (u : V) (x : Visit) (f : Away) (b : ℕ) (d : Kept T) → IsValueOfBoth As i ((v, y), e) j ((u, x), f) b d
      → IsValueOfBoth holds i v j u b (value_of d)
  value_here i v y e j u x f b d is =
      Visits.value_of_both value_of lies holds keeps i v y j u x b d (Errands.value_both_away resting leaning stands_up Visiting Keeping i (v, y) e j (u, x) f b d is)

  pub value_found : (id : ℕ) (v : V) (y : Visit) (e : Away) (b : ℕ) (p : Spot) (x : Kept T) → y.spot ≡ Some (b, p) → IsValueOf As id ((v, y), e) b x → lies x ≡ p
  value_found id v y e b p x visits is = Visits.value_found value_of lies holds keeps id v y b p x visits (Errands.value_away resting leaning stands_up Visiting Keeping id (v, y) e b x is)

  pub visits_found : (s : State (Kept T) (Seen V) W) (id : ℕ) (v : V) (y : Visit) (e : Away) (b : ℕ) (p : Spot) → As s → view_of s id ≡ Some ((v, y), e)
      → y.spot ≡ Some (b, p) → (x : Kept T) × (value_at s.memory b ≡ Some x) × (lies x ≡ p)
  visits_found s id v y e b p h at visits =
      Visits.visits_found value_of lies holds keeps (inward s) id v y b p h.0 (Errands.inward_view resting leaning stands_up Visiting Keeping s id ((v, y), e) at) visits
