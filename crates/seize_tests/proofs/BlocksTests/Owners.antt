-- A seat makes a block, replaces its value, and takes it away: what is said of the seats' blocks holds again.
use Rattle.std.specs.Prelude.{◌≡◌, ◌≢◌, ℕ, zero, suc, ◌==◌, Bool, List, [], ◌∷◌, ◌++◌, Option, Some, None, Ok, Err, IfSome, IsSome, slice_get, slice_set, if◌then◌else◌}
use Rattle.std.proofs.Common.{refl, sym, ap, ◌∙◌, subst, inl, inr, ◌⊎◌}
use Rattle.std.proofs.lemmas.Bool.{cases_eq, eq-eqb, ne_eqb}
use Rattle.seize_words.specs.OneMemory.Mem.{Mem, Took, block_of, value_in, value_at, with_value_in, fresh, IsFreeNumber}
use Rattle.seize_words.specs.OneMemory.Op.{Out, Make, Take, Rewrite, Found, Stored, Exchanged, Made, Taken, Roomed}
use Rattle.seize_words.specs.declared.block.Block.{Block}
use Rattle.seize_words.proofs.OneMemory.OneOwner.AfterWrites.{block_of-with_block, block_of-made}
use Rattle.seize_seats.specs.Seats.State.{State, Goes, Allows, Owns, KeptByTwo, AreThere, Comes, view_of}
use Rattle.seize_seats.specs.Seats.State as State
use Rattle.seize_seats.specs.Seats.Lendings.{VisibleTo, VisibleToBoth}
use Rattle.seize_tests.specs.BlocksTests.Theirs.{Own, has as has_block, keeps_own, AreTheirs, tells}

module _ {A : Type 0} where
  pub set_here : (l : List A) (i : ℕ) (x y : A) → slice_get l i ≡ Some x → slice_get (slice_set l i y) i ≡ Some y
  set_here [] i x y e = absurd (cc e)
  set_here (z ∷ l) zero x y e = refl
  set_here (z ∷ l) (suc i) x y e = set_here l i x y e

  pub set_else : (l : List A) (i j : ℕ) (y : A) → j ≢ i → slice_get (slice_set l i y) j ≡ slice_get l j
  set_else [] i j y ne = refl
  set_else (z ∷ l) zero zero y ne = absurd (ne refl)
  set_else (z ∷ l) zero (suc j) y ne = refl
  set_else (z ∷ l) (suc i) zero y ne = refl
  set_else (z ∷ l) (suc i) (suc j) y ne = set_else l i j y (λ e. ne (ap suc e))

  pub push_get : (l : List A) (i : ℕ) (x y : A) → slice_get (l ++ x ∷ []) i ≡ Some y → (slice_get l i ≡ Some y) ⊎ (y ≡ x)
  push_get [] zero x y e = inr (let same : x ≡ y = cc e in sym same)
  push_get [] (suc i) x y e = absurd (cc e)
  push_get (z ∷ l) zero x y e = inl e
  push_get (z ∷ l) (suc i) x y e = push_get l i x y e

abbrev S : Type 0
S = State ℕ Own (Unit {0})

module _ (s : S) (has : AreTheirs s) (id : ℕ) (v : Own) (at : view_of s id ≡ Some v) (m : Mem ℕ) where
  -- the seat has no block any more, and the others' are there still
  gives_up : ((j n x : ℕ) → j ≢ id → view_of s j ≡ Some (Some (n, x)) → value_at m n ≡ Some x) → AreTheirs (State.after s m id None tt)
  gives_up others = record {
    there = λ j n x e. by j n x e (cases_eq j id);
    apart = λ j k n x y e f. both j k n x y e f (cases_eq j id) (cases_eq k id);
  }
    where
      mine : (j n x : ℕ) → j ≡ id → slice_get (slice_set s.views id None) j ≡ Some (Some (n, x)) → ⊥
      mine j n x is e = let here : slice_get (slice_set s.views id None) j ≡ Some None = ap (slice_get (slice_set s.views id None)) is ∙ set_here s.views id v None at in
          absurd (cc (here, e))

      by : (j n x : ℕ) → slice_get (slice_set s.views id None) j ≡ Some (Some (n, x)) → (j ≡ id) ⊎ (j ≢ id) → value_at m n ≡ Some x
      by j n x e (inl is) = absurd (mine j n x is e)
      by j n x e (inr ne) = others j n x ne (sym (set_else s.views id j None ne) ∙ e)

      both : (j k n x y : ℕ) → slice_get (slice_set s.views id None) j ≡ Some (Some (n, x)) → slice_get (slice_set s.views id None) k ≡ Some (Some (n, y))
          → (j ≡ id) ⊎ (j ≢ id) → (k ≡ id) ⊎ (k ≢ id) → j ≡ k
      both j k n x y e f (inl is) q = absurd (mine j n x is e)
      both j k n x y e f (inr ne) (inl is) = absurd (mine k n y is f)
      both j k n x y e f (inr ne) (inr nf) = has.apart j k n x y (sym (set_else s.views id j None ne) ∙ e) (sym (set_else s.views id k None nf) ∙ f)

  -- the seat has a block, with this value
  module _ (b x : ℕ) where
    mine : (j n y : ℕ) → j ≡ id → slice_get (slice_set s.views id (Some (b, x))) j ≡ Some (Some (n, y)) → (n ≡ b) × (y ≡ x)
    mine j n y is e =
        let here : slice_get (slice_set s.views id (Some (b, x))) j ≡ Some (Some (b, x)) =
        ap (slice_get (slice_set s.views id (Some (b, x)))) is ∙ set_here s.views id v (Some (b, x)) at in
        let same : (b, x) ≡ (n, y) = cc (here, e) in (sym (ap (λ (p : ℕ × ℕ). p.0) same), sym (ap (λ (p : ℕ × ℕ). p.1) same))

    theirs : (j n y : ℕ) → j ≢ id → slice_get (slice_set s.views id (Some (b, x))) j ≡ Some (Some (n, y)) → view_of s j ≡ Some (Some (n, y))
    theirs j n y ne e = sym (set_else s.views id j (Some (b, x)) ne) ∙ e

    -- no other seat has it, and the blocks of others are there still
    module _ (there : value_at m b ≡ Some x) (others : (j n y : ℕ) → j ≢ id → view_of s j ≡ Some (Some (n, y)) → (n ≢ b) × (value_at m n ≡ Some y)) where
      has_now : AreTheirs (State.after s m id (Some (b, x)) tt)
      has_now = record {
        there = λ j n y e. by j n y e (cases_eq j id);
        apart = λ j k n y w e f. both j k n y w e f (cases_eq j id) (cases_eq k id);
      }
        where
          by : (j n y : ℕ) → slice_get (slice_set s.views id (Some (b, x))) j ≡ Some (Some (n, y)) → (j ≡ id) ⊎ (j ≢ id) → value_at m n ≡ Some y
          by j n y e (inl is) = let q = mine j n y is e in ap (value_at m) q.0 ∙ there ∙ ap Some (sym q.1)
          by j n y e (inr ne) = (others j n y ne (theirs j n y ne e)).1

          both : (j k n y w : ℕ) → slice_get (slice_set s.views id (Some (b, x))) j ≡ Some (Some (n, y))
              → slice_get (slice_set s.views id (Some (b, x))) k ≡ Some (Some (n, w)) → (j ≡ id) ⊎ (j ≢ id) → (k ≡ id) ⊎ (k ≢ id) → j ≡ k
          both j k n y w e f (inl is) (inl it) = is ∙ sym it
          both j k n y w e f (inl is) (inr ne) = absurd ((others k n w ne (theirs k n w ne f)).0 (mine j n y is e).0)
          both j k n y w e f (inr ne) (inl is) = absurd ((others j n y ne (theirs j n y ne e)).0 (mine k n w is f).0)
          both j k n y w e f (inr ne) (inr nf) = has.apart j k n y w (theirs j n y ne e) (theirs k n w nf f)

  -- the seat has a block that nobody had
  gets : (b x : ℕ) → value_at m b ≡ Some x → ((n y : ℕ) → value_at s.memory n ≡ Some y → (n ≢ b) × (value_at m n ≡ Some y))
      → AreTheirs (State.after s m id (Some (b, x)) tt)
  gets b x there others = has_now b x there (λ j n y ne e. others n y (has.there j n y e))

  -- the block that the seat has comes to have another value
  changes : (b x y : ℕ) → v ≡ Some (b, x) → value_at m b ≡ Some y → ((n z : ℕ) → n ≢ b → value_at s.memory n ≡ Some z → value_at m n ≡ Some z)
      → AreTheirs (State.after s m id (Some (b, y)) tt)
  changes b x y is there others = has_now b y there (λ j n z ne e.
      let other : n ≢ b = λ q. ne (has.apart j id b z x (subst (λ (c : ℕ). view_of s j ≡ Some (Some (c, z))) q e) (at ∙ ap Some is)) in
      (other, others n z other (has.there j n z e)))

value_there : (m : Mem ℕ) (n x : ℕ) → value_at m n ≡ Some x → (b : Block ℕ) × (block_of m n ≡ Some b)
value_there m n x e = by (block_of m n) refl e
  where
    by : (o : Option (Block ℕ)) → block_of m n ≡ o → value_in o ≡ Some x → (b : Block ℕ) × (block_of m n ≡ Some b)
    by None is e = absurd (cc e)
    by (Some b) is e = (b, is)

pub makes : (id x words : ℕ) (v : Own) → Allows AreTheirs keeps_own id v (Make x words) (tells v (Make x words))
makes id x words v s has at = (tt, λ out m took. told out m took)
  where
    told : (out : Out ℕ) (m : Mem ℕ) → Took s.memory (Make x words) out m → Goes AreTheirs keeps_own s m id (tells v (Make x words) out)
    told (Made (Ok b)) m took = (Some (b, x), tt, gets s has id v at m b x here others, (λ j k c u o p q r w kept. kept), refl)
      where
        free : IsFreeNumber s.memory b
        free = took.0.0

        at_number : (k : ℕ) → block_of m k ≡ (if k == b then Some (fresh x words) else block_of s.memory k)
        at_number k = ap (λ (n : Mem ℕ). block_of n k) took.1 ∙ block_of-made s.memory x words b k free

        branch : (k : ℕ) → Bool → Option (Block ℕ)
        branch k y = if y then Some (fresh x words) else block_of s.memory k

        here : value_at m b ≡ Some x
        here = ap value_in (at_number b ∙ ap (branch b) (eq-eqb b b refl))

        others : (n y : ℕ) → value_at s.memory n ≡ Some y → (n ≢ b) × (value_at m n ≡ Some y)
        others n y e = let ne : n ≢ b = λ is. (let none : value_at s.memory n ≡ None = ap (value_at s.memory) is ∙ ap value_in free.0 in absurd (cc (none, e))) in
            (ne, ap value_in (at_number n ∙ ap (branch n) (ne_eqb n b ne)) ∙ e)
    told (Made (Err y)) m took = (None, tt, gives_up s has id v at m (λ j n z ne e. ap (λ (k : Mem ℕ). value_at k n) took.1 ∙ has.there j n z e), (λ j k c u o p q r w kept. kept), refl)
    told (Found w) m took = absurd took.0
    told Stored m took = absurd took.0
    told (Exchanged r) m took = absurd took.0
    told (Taken r) m took = absurd took.0
    told (Roomed r) m took = absurd took.0

pub takes : (id n x : ℕ) (v : Own) → v ≡ Some (n, x) → Allows AreTheirs keeps_own id v (Take n) (tells v (Take n))
takes id n x v is s has at = (subst IsSome (sym there) refl, λ out m took. told out m took)
  where
    there : value_at s.memory n ≡ Some x
    there = has.there id n x (at ∙ ap Some is)

    told : (out : Out ℕ) (m : Mem ℕ) → Took s.memory (Take n) out m → Goes AreTheirs keeps_own s m id (tells v (Take n) out)
    told (Taken y) m took = (None, tt, gives_up s has id v at m others, (λ j k c u o p q r w kept. kept), (refl, value))
      where
        same : y ≡ x
        same = let p = took.0 in cc (p, there)

        value : IfSome v (λ b. y ≡ b.1)
        value = subst (λ (u : Own). IfSome u (λ b. y ≡ b.1)) (sym is) same

        others : (j k z : ℕ) → j ≢ id → view_of s j ≡ Some (Some (k, z)) → value_at m k ≡ Some z
        others j k z ne e = let ne_n : k ≢ n = λ q. ne (has.apart j id n z x (subst (λ (c : ℕ). view_of s j ≡ Some (Some (c, z))) q e) (at ∙ ap Some is)) in
            let b = value_there s.memory n x there in
            ap value_in (ap (λ (c : Mem ℕ). block_of c k) took.1 ∙ block_of-with_block s.memory n k b.0 None b.1
            ∙ ap (λ (t : Bool). if t then None else block_of s.memory k) (ne_eqb k n ne_n)) ∙ has.there j k z e
    told (Found w) m took = absurd took.0
    told Stored m took = absurd took.0
    told (Exchanged r) m took = absurd took.0
    told (Made r) m took = absurd took.0
    told (Roomed r) m took = absurd took.0

-- who has a block has it to itself
pub owns : (id n x : ℕ) (v : Own) → v ≡ Some (n, x) → Owns AreTheirs keeps_own id v n
owns id n x v is s has at = let a = takes id n x v is s has at in (a.0, λ out m took. let g = a.1 out m took in (g.0, g.1, g.2, g.3, tt))

pub rewrites : (id n x y : ℕ) (v : Own) → v ≡ Some (n, x) → Allows AreTheirs keeps_own id v (Rewrite n y) (tells v (Rewrite n y))
rewrites id n x y v is s has at = (subst IsSome (sym there) refl, λ out m took. told out m took)
  where
    there : value_at s.memory n ≡ Some x
    there = has.there id n x (at ∙ ap Some is)

    told : (out : Out ℕ) (m : Mem ℕ) → Took s.memory (Rewrite n y) out m → Goes AreTheirs keeps_own s m id (tells v (Rewrite n y) out)
    told (Taken z) m took = (Some (n, y), tt, changes s has id v at m n x y is here others, (λ j k c u o p q r w kept. kept), (refl, value))
      where
        b : (b : Block ℕ) × (block_of s.memory n ≡ Some b)
        b = value_there s.memory n x there

        branch : (k : ℕ) → Bool → Option (Block ℕ)
        branch k t = if t then with_value_in (block_of s.memory n) y else block_of s.memory k

        at_number : (k : ℕ) → block_of m k ≡ branch k (k == n)
        at_number k = ap (λ (c : Mem ℕ). block_of c k) took.1 ∙ block_of-with_block s.memory n k b.0 (with_value_in (block_of s.memory n) y) b.1

        here : value_at m n ≡ Some y
        here = ap value_in (at_number n ∙ ap (branch n) (eq-eqb n n refl)) ∙ ap (λ (o : Option (Block ℕ)). value_in (with_value_in o y)) b.1

        others : (k w : ℕ) → k ≢ n → value_at s.memory k ≡ Some w → value_at m k ≡ Some w
        others k w ne e = ap value_in (at_number k ∙ ap (branch k) (ne_eqb k n ne)) ∙ e

        same : z ≡ x
        same = let p = took.0 in cc (p, there)

        value : IfSome v (λ b. z ≡ b.1)
        value = subst (λ (u : Own). IfSome u (λ b. z ≡ b.1)) (sym is) same
    told (Found w) m took = absurd took.0
    told Stored m took = absurd took.0
    told (Exchanged r) m took = absurd took.0
    told (Made r) m took = absurd took.0
    told (Roomed r) m took = absurd took.0

-- as long as a seat has a block it is there, and what is seen is the value that the seat has
pub shows : (id n x : ℕ) (v : Own) → v ≡ Some (n, x) → VisibleTo AreTheirs id v n
shows id n x v is s has at = subst IsSome (sym (has.there id n x (at ∙ ap Some is))) refl

pub shows_to_both : (i : ℕ) (w : Own) (id n x : ℕ) (v : Own) → v ≡ Some (n, x) → VisibleToBoth AreTheirs i w id v n
shows_to_both i w id n x v is s has _ at = shows id n x v is s has at

pub shows_kept : (i : ℕ) (w : Own) (j : ℕ) (u : Own) (id n x : ℕ) (v : Own) → v ≡ Some (n, x) → KeptByTwo AreTheirs keeps_own i w j u id v n
shows_kept i w j u id n x v e s so at_i at_j at = subst (λ (o : Own). has_block o n) (sym e) refl

pub are_there : AreThere AreTheirs keeps_own
are_there s j u k None b so at_j at kept = absurd kept
are_there s j u k (Some x) b so at_j at kept =
    let there = so.there k x.0 x.1 at in subst (λ (n : ℕ). IsSome (value_at s.memory n)) kept (subst (λ (y : Option ℕ). IsSome y) (sym there) refl)

-- and what is taken is, too
pub taken_is : (n x y : ℕ) (v w : Own) → v ≡ Some (n, x) → tells v (Take n) (Taken y) w → y ≡ x
taken_is n x y v w is told = (subst (λ (u : Own). tells u (Take n) (Taken y) w) is told).1

-- one block
abbrev one : ℕ → ℕ → Own
one n x = Some (n, x)

pub comes : Comes AreTheirs keeps_own None
comes s has = (
  tt,
  record {
    there = λ j n x e. there j n x (push_get s.views j None (one n x) e);
    apart = λ j k n x y e f. apart j k n x y (push_get s.views j None (one n x) e) (push_get s.views k None (one n y) f);
  },
  λ b u o kept. kept,
)
  where
    there : (j n x : ℕ) → (view_of s j ≡ Some (one n x)) ⊎ (one n x ≡ None) → value_at s.memory n ≡ Some x
    there j n x (inl e) = has.there j n x e
    there j n x (inr none) = absurd (cc none)

    apart : (j k n x y : ℕ) → (view_of s j ≡ Some (one n x)) ⊎ (one n x ≡ None) → (view_of s k ≡ Some (one n y)) ⊎ (one n y ≡ None) → j ≡ k
    apart j k n x y (inl e) (inl f) = has.apart j k n x y e f
    apart j k n x y (inr none) q = absurd (cc none)
    apart j k n x y (inl e) (inr none) = absurd (cc none)
