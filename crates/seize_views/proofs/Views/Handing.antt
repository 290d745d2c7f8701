-- A seat without a slot hands on the block that it has unlinked, to one that has a slot.
use Rattle.std.specs.Prelude.{◌≢◌, Option, Some, None, slice_get, slice_set}
use Rattle.std.proofs.Common.{◌≡◌, ℕ, ◌⊎◌, inl, inr, refl, sym, subst, ap, ◌∙◌}
use Rattle.std.proofs.lemmas.Bool.{cases_eq}
use Rattle.seize.specs.World.{World, Hand}
use Rattle.seize_seats.specs.Seats.State.{State, view_of, Meets}
use Rattle.seize_views.specs.Views.Begun.{Hands}
use Rattle.seize_views.specs.Views.Promises.{BorneAreHandedOn}
use Rattle.seize_views.specs.Views.Rows.{use_of, hand_of, had_in, IsInSomeHand, Fits, IsBounded, Holds}
use Rattle.seize_views.specs.declared.view.SlotView.{SlotView}
use Rattle.seize_views.specs.declared.view.SlotView.TheVariants.{Rests, Registers, Outside, Owes, Enters, Inside, Settles, Leaves, Left, Frees, Brings, Bears, Watches, Under, Joins, Defers, Busy}
use Rattle.seize_views.specs.declared.view.Has.{Has}
use Rattle.seize_views.specs.declared.view.Has.TheVariants.{Nothing, Made, Seen, Both, Cut, Walks}
use Rattle.seize_views.specs.declared.view.Fixed.{Fixed}
use Rattle.seize_views.proofs.Views.Found.{found_at}
use Rattle.seize_views.proofs.Views.Lists.{there, elsewhere}
use Rattle.seize_words.proofs.General.{same_some}

module _ {T : Type 0} (defers : T → Option ℕ) (fixed : Fixed) (s : State T (SlotView T) (World T)) (i j : ℕ) (v u : SlotView T) (h : Holds defers fixed s)
    (at_i : view_of s i ≡ Some v) (at_j : view_of s j ≡ Some u) (apart : i ≢ j) where
  -- what both know then: the same slots, and the blocks that one of them had in its hand
  pub record Meeting (p q : SlotView T) : Type 0 where
    pub one : Fits defers s.world i p
    pub other : Fits defers s.world j q
    pub one_bound : IsBounded defers fixed s.world i p
    pub other_bound : IsBounded defers fixed s.world j q
    pub one_use : use_of p ≡ use_of v
    pub other_use : use_of q ≡ use_of u
    pub one_hand : hand_of p ≡ None
    pub hands_on : (b : ℕ) → (hand_of v ≡ Some b) ⊎ (hand_of u ≡ Some b) → hand_of q ≡ Some b
    pub other_hand : (b : ℕ) → hand_of q ≡ Some b → (hand_of v ≡ Some b) ⊎ (hand_of u ≡ Some b)

  module _ (p q : SlotView T) (m : Meeting p q) where
    abbrev after_meeting : State T (SlotView T) (World T)
    after_meeting = record { memory = s.memory; views = slice_set (slice_set s.views i p) j q; world = s.world }

    abbrev views : ℕ → Option (SlotView T)
    views k = slice_get (slice_set (slice_set s.views i p) j q) k

    -- who it is: one of both, or another one, who knows what it knew
    data Who (k : ℕ) (x : SlotView T) : Type 0 where
      IsOne : k ≡ i → p ≡ x → Who k x
      IsOther : k ≡ j → q ≡ x → Who k x
      IsThird : k ≢ i → k ≢ j → view_of s k ≡ Some x → Who k x

    who : (k : ℕ) (x : SlotView T) → views k ≡ Some x → Who k x
    who k x e = by (cases_eq k j) (cases_eq k i)
      where
        at_one : slice_get (slice_set s.views i p) i ≡ Some p
        at_one = there s.views i p v at_i

        by : (k ≡ j) ⊎ (k ≢ j) → (k ≡ i) ⊎ (k ≢ i) → Who k x
        by (inl is) either =
            let here = there (slice_set s.views i p) j q u (elsewhere s.views i j p (λ f. apart (sym f)) ∙ at_j) in
            IsOther is (same_some q x (sym here ∙ ap views (sym is) ∙ e))
        by (inr ne) (inl is) =
            IsOne is (same_some p x (sym at_one ∙ ap (λ (n : ℕ). slice_get (slice_set s.views i p) n) (sym is)
            ∙ sym (elsewhere (slice_set s.views i p) j k q ne) ∙ e))
        by (inr ne) (inr ne2) =
            IsThird ne2 ne (sym (elsewhere s.views i k p ne2) ∙ sym (elsewhere (slice_set s.views i p) j k q ne) ∙ e)

    unborn_before : (k : ℕ) → views k ≡ None → view_of s k ≡ None
    unborn_before k e = by (cases_eq k j) (cases_eq k i)
      where
        by : (k ≡ j) ⊎ (k ≢ j) → (k ≡ i) ⊎ (k ≢ i) → view_of s k ≡ None
        by (inl is) either =
            let here = there (slice_set s.views i p) j q u (elsewhere s.views i j p (λ f. apart (sym f)) ∙ at_j) in
            let none = subst (λ (n : ℕ). views n ≡ None) is e in absurd (cc (here, none))
        by (inr ne) (inl is) =
            let here = there s.views i p v at_i in
            let none = subst (λ (n : ℕ). slice_get (slice_set s.views i p) n ≡ None) is (sym (elsewhere (slice_set s.views i p) j k q ne) ∙ e) in
            absurd (cc (here, none))
        by (inr ne) (inr ne2) = sym (elsewhere s.views i k p ne2) ∙ sym (elsewhere (slice_set s.views i p) j k q ne) ∙ e

    -- whose slot it was before
    used_before : (k : ℕ) (x : SlotView T) → Who k x → (y : SlotView T) × (view_of s k ≡ Some y) × (use_of x ≡ use_of y)
    used_before k x (IsOne is e) = (v, ap (λ (n : ℕ). view_of s n) is ∙ at_i, ap use_of (sym e) ∙ m.one_use)
    used_before k x (IsOther is e) = (u, ap (λ (n : ℕ). view_of s n) is ∙ at_j, ap use_of (sym e) ∙ m.other_use)
    used_before k x (IsThird ne ne2 e) = (x, e, refl)

    -- a block that one of both has is no third one's
    not_third : (k b : ℕ) (x : SlotView T) → k ≢ i → k ≢ j → view_of s k ≡ Some x → hand_of x ≡ Some b → hand_of q ≡ Some b → ⊥
    not_third k b x ne ne2 e has it = elim (m.other_hand b it) as (λ _. ⊥) [
      | inl was ↦ ne (h.sole k i b x v e at_i has was)
      | inr was ↦ ne2 (h.sole k j b x u e at_j has was)
    ]

    none_has : (b : ℕ) (x : SlotView T) → p ≡ x → hand_of x ≡ Some b → ⊥
    none_has b x e has = let k = m.one_hand in let f = ap hand_of e in cc (k, f, has)

    one_hand : (k l b : ℕ) (x y : SlotView T) → Who k x → Who l y → hand_of x ≡ Some b → hand_of y ≡ Some b → k ≡ l
    one_hand k l b x y (IsOne is e) other a c = absurd (none_has b x e a)
    one_hand k l b x y (IsOther is e) (IsOne js f) a c = absurd (none_has b y f c)
    one_hand k l b x y (IsOther is e) (IsOther js f) a c = is ∙ sym js
    one_hand k l b x y (IsOther is e) (IsThird ne ne2 f) a c = absurd (not_third l b y ne ne2 f c (ap hand_of e ∙ a))
    one_hand k l b x y (IsThird ne ne2 e) (IsOne js f) a c = absurd (none_has b y f c)
    one_hand k l b x y (IsThird ne ne2 e) (IsOther js f) a c = absurd (not_third k b x ne ne2 e a (ap hand_of f ∙ c))
    one_hand k l b x y (IsThird ne ne2 e) (IsThird ne3 ne4 f) a c = h.sole k l b x y e f a c

    -- who has a block has it still, or the other one has it
    has_still : (b : ℕ) (k : Hand) → IsInSomeHand s h.life.began b k → IsInSomeHand after_meeting h.life.began b k
    has_still b k (inr was) = inr was
    has_still b k (inl (l, x, e, has)) = by (cases_eq l j) (cases_eq l i)
      where
        is_view : (n : ℕ) (y : SlotView T) → view_of s n ≡ Some y → l ≡ n → hand_of y ≡ Some b
        is_view n y at same = ap hand_of (same_some y x (sym at ∙ ap (λ (a : ℕ). view_of s a) (sym same) ∙ e)) ∙ has

        here : views j ≡ Some q
        here = there (slice_set s.views i p) j q u (elsewhere s.views i j p (λ f. apart (sym f)) ∙ at_j)

        by : (l ≡ j) ⊎ (l ≢ j) → (l ≡ i) ⊎ (l ≢ i) → IsInSomeHand after_meeting h.life.began b k
        by (inl is) either = inl (j, q, here, m.hands_on b (inr (is_view j u at_j is)))
        by (inr ne) (inl is) = inl (j, q, here, m.hands_on b (inl (is_view i v at_i is)))
        by (inr ne) (inr ne2) = inl (l, x, elsewhere (slice_set s.views i p) j l q ne ∙ elsewhere s.views i l p ne2 ∙ e, has)

    fits : (k : ℕ) (x : SlotView T) → Who k x → Fits defers s.world k x
    fits k x (IsOne is e) = subst (λ (n : ℕ). Fits defers s.world n x) (sym is) (subst (λ (y : SlotView T). Fits defers s.world i y) e m.one)
    fits k x (IsOther is e) = subst (λ (n : ℕ). Fits defers s.world n x) (sym is) (subst (λ (y : SlotView T). Fits defers s.world j y) e m.other)
    fits k x (IsThird ne ne2 e) = h.seats k x e

    bound : (k : ℕ) (x : SlotView T) → Who k x → IsBounded defers fixed s.world k x
    bound k x (IsOne is e) =
        subst (λ (n : ℕ). IsBounded defers fixed s.world n x) (sym is) (subst (λ (y : SlotView T). IsBounded defers fixed s.world i y) e m.one_bound)
    bound k x (IsOther is e) =
        subst (λ (n : ℕ). IsBounded defers fixed s.world n x) (sym is) (subst (λ (y : SlotView T). IsBounded defers fixed s.world j y) e m.other_bound)
    bound k x (IsThird ne ne2 e) = h.bounded k x e

    pub met : Holds defers fixed record { memory = s.memory; views = slice_set (slice_set s.views i p) j q; world = s.world }
    met = record {
      came = h.came;
      memory = h.memory;
      seats = λ k x e. fits k x (who k x e);
      unborn = λ k e. h.unborn k (unborn_before k e);
      apart = λ k l t a b x y e f c d.
          let w = used_before k x (who k x e) in let z = used_before l y (who l y f) in
          h.apart k l t a b w.0 z.0 w.1 z.1 (sym w.2 ∙ c) (sym z.2 ∙ d);
      sole = λ k l b x y e f a c. one_hand k l b x y (who k x e) (who l y f) a c;
      roots = h.roots;
      rooted = h.rooted;
      chains = h.chains;
      life = h.life;
      found = λ b. found_at fixed s.memory s.memory b (IsInSomeHand s h.life.began b) (IsInSomeHand after_meeting h.life.began b) refl (has_still b)
          (s.world.hand b) (h.found b);
      bounded = λ k x e. bound k x (who k x e);
    }

module _ {T : Type 0} (defers : T → Option ℕ) (fixed : Fixed) (i j t b : ℕ) where
  -- who is outside of a section owes the block then
  owes : Meets (Holds defers fixed) i (Bears b) j (Outside t) (Hands fixed (Bears b) (Outside t))
  owes s h at_i at_j apart =
      let f = h.seats i (Bears b) at_i in let g = h.seats j (Outside t) at_j in (
        Rests,
        Owes t b,
        met defers fixed s i j (Bears b) (Outside t) h at_i at_j apart Rests (Owes t b) (record {
          one = record { row = f.row; slot = tt; short = tt; known = tt; its_own = tt };
          other = record { row = g.row; slot = g.slot; short = tt; known = f.known; its_own = tt };
          one_bound = tt;
          other_bound = tt;
          one_use = refl;
          other_use = refl;
          one_hand = refl;
          hands_on = λ c e. elim e as (λ _. hand_of {T = T} (Owes t b) ≡ Some c) [
            | inl mine ↦ mine
            | inr his ↦ absurd (cc his)
          ];
          other_hand = λ c e. inl e;
        }),
        (refl, refl),
      )

  -- who is within one has it in its hand
  cuts : (has : Has T) → had_in has ≡ None → (s : State T (SlotView T) (World T)) → Holds defers fixed s → view_of s i ≡ Some (Bears b) → view_of s j ≡ Some (Inside t has) → i ≢ j
      → Holds defers fixed record { memory = s.memory; views = slice_set (slice_set s.views i Rests) j (Inside t (Cut b)); world = s.world }
  cuts has empty s h at_i at_j apart =
      let f = h.seats i (Bears b) at_i in let g = h.seats j (Inside t has) at_j in
      met defers fixed s i j (Bears b) (Inside t has) h at_i at_j apart Rests (Inside t (Cut b)) (record {
        one = record { row = f.row; slot = tt; short = tt; known = tt; its_own = tt };
        other = record { row = g.row; slot = g.slot; short = tt; known = f.known; its_own = tt };
        one_bound = tt;
        other_bound = tt;
        one_use = refl;
        other_use = refl;
        one_hand = refl;
        hands_on = λ c e. elim e as (λ _. hand_of {T = T} (Inside t (Cut b)) ≡ Some c) [
          | inl mine ↦ mine
          | inr his ↦ absurd (cc (empty, his))
        ];
        other_hand = λ c e. inl e;
      })

module _ (T : Type 0) (defers : T → Option ℕ) where
  pub borne_are_handed_on : BorneAreHandedOn T defers
  borne_are_handed_on fixed i j b (Outside t) takes = owes defers fixed i j t b
  borne_are_handed_on fixed i j b (Inside t Nothing) takes =
      λ s h at_i at_j apart. (Rests, Inside t (Cut b), cuts defers fixed i j t b Nothing refl s h at_i at_j apart, (refl, refl))
  borne_are_handed_on fixed i j b (Inside t (Seen a)) takes =
      λ s h at_i at_j apart. (Rests, Inside t (Cut b), cuts defers fixed i j t b (Seen a) refl s h at_i at_j apart, (refl, refl))
  borne_are_handed_on fixed i j b (Inside t (Made c x)) takes = absurd takes
  borne_are_handed_on fixed i j b (Inside t (Both c x a)) takes = absurd takes
  borne_are_handed_on fixed i j b (Inside t (Cut c)) takes = absurd takes
  borne_are_handed_on fixed i j b (Inside t (Walks c next)) takes = absurd takes
  borne_are_handed_on fixed i j b Rests takes = absurd takes
  borne_are_handed_on fixed i j b (Registers c) takes = absurd takes
  borne_are_handed_on fixed i j b (Owes t c) takes = absurd takes
  borne_are_handed_on fixed i j b (Enters t) takes = absurd takes
  borne_are_handed_on fixed i j b (Settles c why seen left) takes = absurd takes
  borne_are_handed_on fixed i j b (Leaves t size way) takes = absurd takes
  borne_are_handed_on fixed i j b (Left t size way) takes = absurd takes
  borne_are_handed_on fixed i j b (Frees t) takes = absurd takes
  borne_are_handed_on fixed i j b (Brings c x) takes = absurd takes
  borne_are_handed_on fixed i j b (Bears c) takes = absurd takes
  borne_are_handed_on fixed i j b (Watches t c) takes = absurd takes
  borne_are_handed_on fixed i j b (Under n t c) takes = absurd takes
  borne_are_handed_on fixed i j b (Joins block) takes = absurd takes
  borne_are_handed_on fixed i j b (Defers t c) takes = absurd takes
  borne_are_handed_on fixed i j b (Busy t) takes = absurd takes
