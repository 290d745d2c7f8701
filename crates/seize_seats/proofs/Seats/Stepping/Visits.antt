-- What a rule allows a seat it may do where blocks have words of their own, and seats visit them; and a seat may begin a visit.
use Rattle.std.specs.Prelude.{◌≡◌, ◌≢◌, ◌⊎◌, ℕ, zero, suc, List, [], ◌∷◌, ◌++◌, Option, Some, None, IsSome, Ok, Err, slice_get, slice_set}
use Rattle.std.proofs.Common.{refl, sym, ap, ◌∙◌, subst, inl, inr}
use Rattle.core.specs.Option.{option_map}
use Rattle.std.proofs.lemmas.Bool.{cases_eq}
use Rattle.std.proofs.lemmas.List.{map-set, map-append}
use Rattle.std.proofs.lemmas.Option.{slice_get-map}
use denote.RawPtr.{null_ptr}
use Rattle.seize_words.specs.OneMemory.Mem.{Mem, Can, Took, block_of, value_in, value_at, with_block, IsFreeNumber}
use Rattle.seize_words.specs.OneMemory.Op.{Op, Out, Make, Take, Rewrite, Made}
use Rattle.seize_seats.specs.Seats.State.{State, view_of, Goes, Allows, Owns, Turns, Learns, Starts, Comes, Meets}
use Rattle.seize_seats.specs.Seats.State as State
use Rattle.seize_seats.specs.Seats.Lendings.{VisibleTo, VisibleToBoth, Alone, IsValueOf, IsValueOfBoth}
use Rattle.seize_seats.specs.Seats.Visits.{Spot, Visit, fresh, onward, onward_at, plain_memory, plain_op, plain_out, plain, AreFound, HoldsKept, keeps_kept, then_kept}
use Rattle.seize_seats.proofs.Seats.Views.Ledgers.{other_view}
use Rattle.seize_seats.proofs.Seats.Blocks.Rewrites.{emptied, owns_alone}
use Rattle.seize_seats.proofs.Seats.Places.Plain.{block_at, value_plain, set_plain, value_of_block, after_plain, gives_plain, can_plain, IsOnWord, value_after, made_apart, taken_apart, rewritten_apart}
use Rattle.seize_words.proofs.General.{some_there as some_value, set_same}

pub own_view : {A : Type 0} (xs : List A) (i : ℕ) (x y : A) → slice_get (slice_set xs i x) i ≡ Some y → x ≡ y
own_view [] i x y e = absurd (cc e)
own_view (a ∷ xs) zero x y e = cc e
own_view (a ∷ xs) (suc i) x y e = own_view xs i x y e

-- the block that is visited, and where, is one
abbrev visited : Option (ℕ × Spot) → ℕ
visited None = 0
visited (Some u) = u.0

abbrev visited_at : Option (ℕ × Spot) → Spot
visited_at None = (null_ptr, 0)
visited_at (Some u) = u.1

one_block : (b c : ℕ) (p q : Spot) (e : Option (ℕ × Spot)) → e ≡ Some (b, p) → e ≡ Some (c, q) → (b ≡ c) × (p ≡ q)
one_block b c p q e is same = (ap visited (sym is ∙ same), ap visited_at (sym is ∙ same))

-- where a seat has another view, without a visit, those who visit a block are others
others_visit : {V : Type 0} (us : List (V × Visit)) (i id : ℕ) (w u : V × Visit) (b : ℕ) (p : Spot) → w.1.spot ≡ None → slice_get (slice_set us id w) i ≡ Some u
    → u.1.spot ≡ Some (b, p) → (i ≢ id) × (slice_get us i ≡ Some u)
others_visit {V} us i id w u b p none e at = by (cases_eq i id)
  where
    by : (i ≡ id) ⊎ (i ≢ id) → (i ≢ id) × (slice_get us i ≡ Some u)
    by (inl is) = let same : w ≡ u = own_view us i w u (ap (λ (k : ℕ). slice_get (slice_set us k w) i) is ∙ e) in
        let no : w.1.spot ≡ Some (b, p) = ap (λ (x : V × Visit). x.1.spot) same ∙ at in absurd (cc (none, no))
    by (inr ne) = (ne, sym (other_view us id i w ne) ∙ e)

-- a view in a list with one more is in the list, or is that one
pub among : {A : Type 0} (xs : List A) (x y : A) (i : ℕ) → slice_get (xs ++ x ∷ []) i ≡ Some y → (slice_get xs i ≡ Some y) ⊎ (x ≡ y)
among [] x y zero e = inr (cc e)
among [] x y (suc i) e = absurd (cc e)
among (a ∷ xs) x y zero e = inl e
among (a ∷ xs) x y (suc i) e = among xs x y i e

module _ {D T V W : Type 0} (value : D → T) (own : D → Spot) (holds : State T V W → Type 0) (keeps : V → V → W → ℕ → Type 0) where
  abbrev St : Type 0
  St = State D (V × Visit) W

  abbrev flat : St → State T V W
  flat = plain value

  abbrev Hold : St → Type 0
  Hold = HoldsKept value own holds

  abbrev Keep : V × Visit → V × Visit → W → ℕ → Type 0
  Keep = keeps_kept value keeps

  pub view_plain : (s : St) (id : ℕ) (u : V × Visit) → view_of s id ≡ Some u → view_of (flat s) id ≡ Some u.0
  view_plain s id u e = slice_get-map (λ (u : V × Visit). u.0) s.views id ∙ ap (option_map (λ (u : V × Visit). u.0)) e

  flat_after : (s : St) (n : Mem D) (id : ℕ) (u : V × Visit) (w : W) → flat (State.after s n id u w) ≡ State.after (flat s) (plain_memory value n) id u.0 w
  flat_after s n id u w = ap (λ (vs : List V). record { memory = plain_memory value n; views = vs; world = w }) (map-set (λ (u : V × Visit). u.0) s.views id u)

  -- what other seats can be shown is as it was
  abbrev Untouched : ℕ → St → Mem D → Type 0
  Untouched id s n = (i : ℕ) (v : V) (b : ℕ) → i ≢ id → view_of (flat s) i ≡ Some v → VisibleTo holds i v b → value_at n b ≡ value_at s.memory b

  found_after : (s : St) (n : Mem D) (id : ℕ) (v' : V) (y : Visit) (w' : W) → AreFound value own holds s → Untouched id s n
      → AreFound value own holds (State.after s n id (v', onward y) w')
  found_after s n id v' y w' are same i u b p e visits = let o = others_visit s.views i id (v', onward y) u b p refl e visits in let f = are i u b p o.1 visits in
      (f.0, λ x at. f.1 x (sym (same i u.0 b o.0 (view_plain s i u o.1) f.0) ∙ at))

  others_kept : (s : St) (id : ℕ) (w : W) → State.PreservesKept holds keeps (flat s) id w → State.PreservesKept Hold Keep s id w
  others_kept s id w kept j k b u o nj nk at_j at_k is = kept j k b u.0 o.0 nj nk (view_plain s j u at_j) (view_plain s k o at_k) is

  -- An operation that leaves what others can be shown is allowed as by the rule; the seat's own visit ends.
  module _ (id : ℕ) (v : V) (y : Visit) (op : Op D) (so : Out T → V → Type 0) where
    abbrev Leaves : Type 0
    Leaves =
        (s : St) (out : Out D) (n : Mem D) → Hold s → view_of (flat s) id ≡ Some v → Can s.memory op → Took s.memory op out n
        → Goes holds keeps (flat s) (plain_memory value n) id (so (plain_out value out)) → Untouched id s n

    pub allowed : Leaves → Allows holds keeps id v (plain_op value op) so → Allows Hold Keep id (v, y) op (then_kept value y so)
    allowed leaves allows s h at =
        let here : view_of (flat s) id ≡ Some v = view_plain s id (v, y) at in let a = allows (flat s) h.0 here in let can : Can s.memory op = can_plain value s.memory op a.0 in (
          can,
          λ out n took.
              let g : Goes holds keeps (flat s) (plain_memory value n) id (so (plain_out value out)) = a.1 (plain_out value out) (plain_memory value n)
              (gives_plain value s.memory op out took.0, ap (plain_memory value) took.1 ∙ after_plain value s.memory op out) in (
                (g.0, onward y),
                g.1,
                (subst holds (sym (flat_after s n id (g.0, onward y) g.1)) g.2, found_after s n id g.0 y g.1 h.1 (leaves s out n h here can took g)),
                others_kept s id g.1 g.3,
                (g.4, refl),
              ),
        )

  -- operations on words
  pub word_allowed : (id : ℕ) (v : V) (y : Visit) (op : Op D) (so : Out T → V → Type 0) → IsOnWord op → Allows holds keeps id v (plain_op value op) so
      → Allows Hold Keep id (v, y) op (then_kept value y so)
  word_allowed id v y op so on = allowed id v y op so (λ s out n h here can took g. λ i u b ne at shown. ap (λ (m : Mem D). value_at m b) took.1 ∙ value_after s.memory op out b on can)

  there : (s : St) (i : ℕ) (u : V) (b : ℕ) → Hold s → view_of (flat s) i ≡ Some u → VisibleTo holds i u b → IsSome (value_at s.memory b)
  there s i u b h at shown = value_of_block value s.memory b (shown (flat s) h.0 at)

  make_leaves : (id : ℕ) (v : V) (x : D) (words : ℕ) (so : Out T → V → Type 0) → Leaves id v fresh (Make x words) so
  make_leaves id v x words so s (Made (Ok b)) n h here can took g i u k ne at shown =
      let some = there s i u k h at shown in let free : IsFreeNumber s.memory b = took.0.0 in
      let apart : k ≢ b = λ e. (let none : value_at s.memory k ≡ None = ap value_in (ap (block_of s.memory) e ∙ free.0) in absurd (cc (none, some))) in
      ap (λ (m : Mem D). value_at m k) took.1 ∙ made_apart s.memory x words b k free apart
  make_leaves id v x words so s (Made (Err back)) n h here can took g i u k ne at shown = ap (λ (m : Mem D). value_at m k) took.1
  make_leaves id v x words so s _ n h here can took g i u k ne at shown = absurd took.0

  pub make_allowed : (id : ℕ) (v : V) (y : Visit) (x : D) (words : ℕ) (so : Out T → V → Type 0) → Allows holds keeps id v (Make (value x) words) so
      → Allows Hold Keep id (v, y) (Make x words) (then_kept value y so)
  make_allowed id v y x words so = allowed id v y (Make x words) so (make_leaves id v x words so)

  take_leaves : (id : ℕ) (v : V) (b : ℕ) (so : Out T → V → Type 0) → Leaves id v fresh (Take b) so
  take_leaves id v b so s out n h here can took g i u k ne at shown =
      let m : Mem T = with_block (plain_memory value s.memory) b None in let is : plain_memory value n ≡ m = ap (plain_memory value) took.1 ∙ set_plain value s.memory b None in
      let some : IsSome (value_at m k) = subst (λ (l : Mem T). IsSome (value_at l k)) is (shown (State.after (flat s) (plain_memory value n) id g.0 g.1) g.2 (other_view (flat s).views id i g.0 ne ∙ at)) in
      let apart : k ≢ b = λ e. (let none : value_at m k ≡ None = ap (value_at m) e ∙ emptied (plain_memory value s.memory) b in absurd (cc (none, some))) in
      ap (λ (m : Mem D). value_at m k) took.1 ∙ taken_apart s.memory b k can apart

  pub take_allowed : (id : ℕ) (v : V) (y : Visit) (b : ℕ) (so : Out T → V → Type 0) → Allows holds keeps id v (Take b) so
      → Allows Hold Keep id (v, y) (Take b) (then_kept value y so)
  take_allowed id v y b so = allowed id v y (Take b) so (take_leaves id v b so)

  rewrite_leaves : (id : ℕ) (v : V) (b : ℕ) (x : D) (so : Out T → V → Type 0) → Alone holds id v b → Leaves id v fresh (Rewrite b x) so
  rewrite_leaves id v b x so alone s out n h here can took g i u k ne at shown =
      let apart : k ≢ b = λ e. (alone (flat s) i u i u None h.0 here ne ne tt at at tt (λ t ht one other bears. subst (λ (j : ℕ). IsSome (value_at t.memory j)) e (shown t ht one))) in
      ap (λ (m : Mem D). value_at m k) took.1 ∙ rewritten_apart s.memory b x k can apart

  pub rewrite_allowed : (id : ℕ) (v : V) (y : Visit) (b : ℕ) (x : D) (so : Out T → V → Type 0) → Owns holds keeps id v b
      → Allows holds keeps id v (Rewrite b (value x)) so → Allows Hold Keep id (v, y) (Rewrite b x) (then_kept value y so)
  rewrite_allowed id v y b x so owns = allowed id v y (Rewrite b x) so (rewrite_leaves id v b x so (owns_alone holds keeps id v b owns))

  -- ---- visits
  -- what a seat's view shows it shows where the seat visits a block, too
  pub shown_kept : (id : ℕ) (v : V) (y : Visit) (b : ℕ) → VisibleTo holds id v b → VisibleTo Hold id (v, y) b
  shown_kept id v y b shown s h at = there s id v b h (view_plain s id (v, y) at) shown

  -- a seat whose view shows a block may begin to visit it
  pub visits : (id : ℕ) (v : V) (y : Visit) (b : ℕ) → VisibleTo holds id v b → Turns Hold Keep id (v, y) (λ u. (u.0 ≡ v) × ((p : Spot) × (u.1 ≡ onward_at y b p)))
  visits id v y b shown s h at =
      let x = some_value (value_at s.memory b) (shown_kept id v y b shown s h at) in let p : Spot = own x.0 in let u : V × Visit = (v, onward_at y b p) in
      let here : view_of (flat s) id ≡ Some v = view_plain s id (v, y) at in
      let same : State.after (flat s) (plain_memory value s.memory) id v s.world ≡ flat s = ap (λ (vs : List V). record { memory = plain_memory value s.memory; views = vs; world = s.world }) (set_same (flat s).views id v here) in (
        u,
        s.world,
        (subst holds (sym (flat_after s s.memory id u s.world ∙ same)) h.0, found p x.0 x.1 refl),
        (λ j k c w o nj nk at_j at_k is. is),
        (refl, (p, refl)),
      )
    where
      found : (p : Spot) (x : D) → value_at s.memory b ≡ Some x → own x ≡ p → AreFound value own holds (State.after s s.memory id (v, onward_at y b p) s.world)
      found p x is lies i w c q e visits = by (cases_eq i id)
        where
          at_p : V × Visit
          at_p = (v, onward_at y b p)

          by : (i ≡ id) ⊎ (i ≢ id) → VisibleTo holds i w.0 c × ((z : D) → value_at s.memory c ≡ Some z → own z ≡ q)
          by (inl own_one) =
              let two : at_p ≡ w = own_view s.views i at_p w (ap (λ (k : ℕ). slice_get (slice_set s.views k at_p) i) own_one ∙ e) in
              let views : v ≡ w.0 = ap (λ (u : V × Visit). u.0) two in let there : at_p.1.spot ≡ Some (c, q) = ap (λ (u : V × Visit). u.1.spot) two ∙ visits in
              let one = one_block b c p q at_p.1.spot refl there in (
                subst (λ (k : ℕ). VisibleTo holds k w.0 c) (sym own_one) (subst (λ (k : ℕ). VisibleTo holds id w.0 k) one.0 (subst (λ (u : V). VisibleTo holds id u b) views shown)),
                λ z at_c. (let there_too : value_at s.memory b ≡ Some z = ap (value_at s.memory) one.0 ∙ at_c in let same : x ≡ z = cc (is, there_too) in ap own (sym same) ∙ lies ∙ one.1),
              )
          by (inr ne) = h.1 i w c q (sym (other_view s.views id i at_p ne) ∙ e) visits

  -- where it visits a block what is kept of that has its own words where the seat has seen them
  pub visits_found : (s : St) (id : ℕ) (v : V) (y : Visit) (b : ℕ) (p : Spot) → Hold s → view_of s id ≡ Some (v, y) → y.spot ≡ Some (b, p)
      → (x : D) × (value_at s.memory b ≡ Some x) × (own x ≡ p)
  visits_found s id v y b p h at visits =
      let f = h.1 id (v, y) b p at visits in let x = some_value (value_at s.memory b) (shown_kept id v y b f.0 s h at) in (x.0, x.1, f.1 x.0 x.1)

  pub value_found : (id : ℕ) (v : V) (y : Visit) (b : ℕ) (p : Spot) (x : D) → y.spot ≡ Some (b, p) → IsValueOf Hold id (v, y) b x → own x ≡ p
  value_found id v y b p x visits is = (is.1.1 id (v, y) b p is.2 visits).1 x is.3

  -- ---- seats that come, turn and meet, and a memory that begins and is renewed
  pub starts_kept : (roots : ℕ) → Starts holds roots → Starts Hold roots
  starts_kept roots s = (s.0, (s.1, λ id u b p e visits. absurd (cc e)))

  -- without an operation a seat goes on that goes on by the rule, and its visit ends
  pub goes_kept : (s : St) (id : ℕ) (y : Visit) (so : V → Type 0) → Hold s → Goes holds keeps (flat s) (flat s).memory id so
      → Goes Hold Keep s s.memory id (λ u. so u.0 × (u.1 ≡ onward y))
  goes_kept s id y so h g = (
    (g.0, onward y),
    g.1,
    (subst holds (sym (flat_after s s.memory id (g.0, onward y) g.1)) g.2, found_after s s.memory id g.0 y g.1 h.1 (λ i u b ne here shown. refl)),
    others_kept s id g.1 g.3,
    (g.4, refl),
  )

  pub turn_kept : (id : ℕ) (v : V) (y : Visit) (so : V → Type 0) → Turns holds keeps id v so → Turns Hold Keep id (v, y) (λ u. so u.0 × (u.1 ≡ onward y))
  turn_kept id v y so turns s h at = goes_kept s id y so h (turns (flat s) h.0 (view_plain s id (v, y) at))

  pub learn_kept : (i : ℕ) (v : V) (y : Visit) (j : ℕ) (u : V) (x : Visit) (so : V → Type 0) → Learns holds keeps i v j u so
      → Learns Hold Keep i (v, y) j (u, x) (λ w. so w.0 × (w.1 ≡ onward y))
  learn_kept i v y j u x so learns s h at_i at_j ne = goes_kept s i y so h (learns (flat s) h.0 (view_plain s i (v, y) at_i) (view_plain s j (u, x) at_j) ne)

  -- one comes that visits no block
  pub comes_kept : (v : V) (y : Visit) → y.spot ≡ None → Comes holds keeps v → Comes Hold Keep (v, y)
  comes_kept v y none comes s h =
      let c = comes (flat s) h.0 in
      let joins : flat (State.joined s (v, y) c.0) ≡ State.joined (flat s) v c.0 =
      ap (λ (vs : List V). record { memory = plain_memory value s.memory; views = vs; world = c.0 }) (map-append (λ (u : V × Visit). u.0) s.views ((v, y) ∷ [])) in
      (c.0, (subst holds (sym joins) c.1, found c.0), λ b u o. c.2 b u.0 o.0)
    where
      first : V × Visit
      first = (v, y)

      found : (w : W) → AreFound value own holds (State.joined s (v, y) w)
      found w i u b p e visits = by (among s.views (v, y) u i e)
        where
          by : (view_of s i ≡ Some u) ⊎ (first ≡ u) → VisibleTo holds i u.0 b × ((x : D) → value_at s.memory b ≡ Some x → own x ≡ p)
          by (inl at) = h.1 i u b p at visits
          by (inr one) = let no : y.spot ≡ Some (b, p) = ap (λ (x : V × Visit). x.1.spot) one ∙ visits in absurd (cc (none, no))

  pub meets_kept : (i : ℕ) (v : V) (y : Visit) (j : ℕ) (u : V) (x : Visit) (so : V → V → Type 0) → Meets holds i v j u so
      → Meets Hold i (v, y) j (u, x) (λ v' u'. so v'.0 u'.0 × (v'.1 ≡ onward y) × (u'.1 ≡ onward x))
  meets_kept i v y j u x so meets s h at_i at_j ne =
      let g = meets (flat s) h.0 (view_plain s i (v, y) at_i) (view_plain s j (u, x) at_j) ne in let us : List (V × Visit) = slice_set s.views i (g.0, onward y) in
      let is : slice_set (slice_set (flat s).views i g.0) j g.1 ≡ (flat record { memory = s.memory; views = slice_set us j (g.1, onward x); world = s.world }).views =
      sym (map-set (λ (u : V × Visit). u.0) us j (g.1, onward x) ∙ ap (λ (vs : List V). slice_set vs j g.1) (map-set (λ (u : V × Visit). u.0) s.views i (g.0, onward y))) in (
        (g.0, onward y),
        (g.1, onward x),
        (
          subst (λ (vs : List V). holds record { memory = plain_memory value s.memory; views = vs; world = s.world }) is g.2,
          λ k w b p e visits.
              (let one = others_visit us k j (g.1, onward x) w b p refl e visits in let two = others_visit s.views k i (g.0, onward y) w b p refl one.1 visits in h.1 k w b p two.1 visits),
        ),
        (g.3, refl, refl),
      )

  -- ---- what is shown
  pub shown_to_both : (i : ℕ) (v : V) (y : Visit) (j : ℕ) (u : V) (x : Visit) (b : ℕ) → VisibleToBoth holds i v j u b → VisibleToBoth Hold i (v, y) j (u, x) b
  shown_to_both i v y j u x b shown s h at_i at_j = value_of_block value s.memory b (shown (flat s) h.0 (view_plain s i (v, y) at_i) (view_plain s j (u, x) at_j))

  pub plain_value : (m : Mem D) (b : ℕ) (d : D) → value_at m b ≡ Some d → value_at (plain_memory value m) b ≡ Some (value d)
  plain_value m b d is = ap value_in (block_at value m b) ∙ value_plain value (block_of m b) d is

  pub value_of_both : (i : ℕ) (v : V) (y : Visit) (j : ℕ) (u : V) (x : Visit) (b : ℕ) (d : D) → IsValueOfBoth Hold i (v, y) j (u, x) b d
      → IsValueOfBoth holds i v j u b (value d)
  value_of_both i v y j u x b d is = (flat is.0, is.1.0, view_plain is.0 i (v, y) is.2, view_plain is.0 j (u, x) is.3, plain_value is.0.memory b d is.4)
