-- In incremental mode, a caller that copies a place finds it, and its pair behind the root, as they were.
use Rattle.std.proofs.Common.{◌≡◌, ℕ, suc, ◌<◌, Bool, true, false, inl, inr, refl, arith, ap, sym, subst, ◌∙◌}
use Rattle.map_rule.specs.Chart.{Phase, Still, Copying, Copied, Place, Empty, Tombstone, Holds, Claimed, Chart, put_in, is_marked}
use Rattle.map_rule.specs.Rule.{Rule, IsLawful, is_of}
use Rattle.map_rule.specs.Moves.{Move, Links, Stores, Replaces, Removes, Marks, MarksBlocking, Skips, Unmarks, Puts, Covers, PutsLate, Claims, Reclaims, Counts, GivesUp, Aborts, Promotes, Announces, marked, lent_place, copied_place, still_place, IsStill, after, Allowed}
use Rattle.map_rule.specs.Lasts.{IsBy}
use Rattle.map_rule.specs.Leaves.{LiesAlike}
use Rattle.map_rule.proofs.Moves.Writes.{put_in_cases}

module _ {K : Type 0} (same : K → K → Bool) (spot : ℕ → K → ℕ → ℕ) (lawful : IsLawful same spot) (i : ℕ) (c : Chart K) (rule : Rule same spot true c)
    (j n : ℕ) (borrowed : Bool) (next : suc c.first < c.past) (within : j < c.len c.first) (mine : c.share (suc c.first) j ≡ Claimed i) (here : c.place c.first j ≡ Holds n Copying borrowed) where
  abbrev Stays : Chart K → Type 0
  Stays c2 = (c2.place c.first j ≡ Holds n Copying borrowed) × LiesAlike same spot true c c2 n

  n_below : n < c.stored
  n_below = (rule.common.keyed c.first j n Copying borrowed here).0

  no_place_changed : (c2 : Chart K) → ((t p : ℕ) → c2.place t p ≡ c.place t p) → Stays c2
  no_place_changed c2 kept = (kept c.first j ∙ here, λ t p l. ((λ phase b e. sym (kept t p) ∙ e), (λ b e. kept t p ∙ e)))

  -- one place is written: not this one, with nothing of this pair, and where the pair doesn't stand behind the root
  one_written : (u q : ℕ) (x : Place) → (u ≡ c.first → q ≡ j → ⊥) → (c.first < u → (phase : Phase) (b : Bool) → x ≡ Holds n phase b → ⊥)
      → (c.first < u → (b : Bool) → c.place u q ≡ Holds n Still b → ⊥) → (c2 : Chart K) → c2.place ≡ put_in c.place u q x → Stays c2
  one_written u q x not_here not_new not_old c2 is = (
    elim (put_in_cases c.place u q x c.first j) [
      | inl at ↦ absurd (not_here (sym at.0) (sym at.1))
      | inr kept ↦ ap (λ (f : ℕ → ℕ → Place). f c.first j) is ∙ kept ∙ here
    ],
    λ t p l. (
      (λ phase b e. elim (put_in_cases c.place u q x t p) [
        | inl at ↦ absurd (not_new (subst (λ (v : ℕ). c.first < v) at.0 l) phase b (sym at.2 ∙ sym (ap (λ (f : ℕ → ℕ → Place). f t p) is) ∙ e))
        | inr kept ↦ sym kept ∙ sym (ap (λ (f : ℕ → ℕ → Place). f t p) is) ∙ e
      ]),
      (λ b e. elim (put_in_cases c.place u q x t p) [
        | inl at ↦ absurd (not_old (subst (λ (v : ℕ). c.first < v) at.0 l) b (subst (λ (v : ℕ). c.place v q ≡ Holds n Still b) at.0 (subst (λ (v : ℕ). c.place t v ≡ Holds n Still b) at.1 e)))
        | inr kept ↦ ap (λ (f : ℕ → ℕ → Place). f t p) is ∙ kept ∙ e
      ]),
    ),
  )

  -- nothing of this pair's class is changed behind the root while it is copied
  not_replaced : (u q : ℕ) (k : K) → IsStill same spot true c u q k → ((v : ℕ) → v < u → (r o : ℕ) (phase : Phase) (b : Bool) → c.place v r ≡ Holds o phase b → is_of same spot true k (c.key o) ≡ true → phase ≡ Copied)
      → c.first < u → (b : Bool) → c.place u q ≡ Holds n Still b → ⊥
  not_replaced u q k still shut l b e =
      let same_pair : still.0 ≡ n = pair (sym still.2 ∙ e) in
      let copied = shut c.first l j n Copying borrowed here (subst (λ (o : ℕ). is_of same spot true k (c.key o) ≡ true) same_pair still.3) in
      cc copied
    where
      pair : {o : ℕ} {a : Bool} → Holds o Still a ≡ Holds n Still b → o ≡ n
      pair q = cc q

  not_marked : (p : Place) → p ≡ Holds n Copying borrowed → is_marked p ≡ false → ⊥
  not_marked p e m = cc (ap is_marked e, m)

  other_caller : (caller q : ℕ) → (caller ≡ i → ⊥) → c.share (suc c.first) q ≡ Claimed caller → q ≡ j → ⊥
  other_caller caller q ne his e = let m = ap (λ (v : ℕ). c.share (suc c.first) v) e in ne (cc (m, his, mine))

  not_empty : (u q : ℕ) → c.place u q ≡ Empty false → (phase : Phase) (b : Bool) → c.place u q ≡ Holds n phase b → ⊥
  not_empty u q e phase b h = cc (e, h)

  stored_other : (phase : Phase) (b : Bool) → Holds c.stored Still false ≡ Holds n phase b → ⊥
  stored_other phase b e = let l = n_below in omega (arith, number e, l)
    where
      number : {phase : Phase} {b : Bool} → Holds c.stored Still false ≡ Holds n phase b → c.stored ≡ n
      number q = cc q

  -- the pair of another place of the root is another one
  another_pair : (q m : ℕ) (b : Bool) → c.place c.first q ≡ Holds m Copying b → m ≡ n → q ≡ j
  another_pair q m b e is =
      let key = rule.common.keyed c.first j n Copying borrowed here in
      let of = ap (is_of same spot true key.1) key.2 ∙ lawful.classes.refl key.1 in
      rule.common.once c.first q j m n Copying Copying b borrowed key.1 rule.common.live e here (subst (λ (o : ℕ). is_of same spot true key.1 (c.key o) ≡ true) (sym is) of) of

  stays : (move : Move K) → (IsBy i move → ⊥) → Allowed same spot true move c → Stays (after spot true move c)
  stays (Links len limit) ne a = no_place_changed (after spot true (Links len limit) c) (λ t p. refl)
  stays (Stores u k g) ne a =
      one_written u (spot (c.len u) k g) (Holds c.stored Still false)
      (λ e f. not_empty u (spot (c.len u) k g) a.3 Copying borrowed (subst (λ (v : ℕ). c.place u v ≡ Holds n Copying borrowed) (sym f) (subst (λ (v : ℕ). c.place v j ≡ Holds n Copying borrowed) (sym e) here)))
      (λ l. stored_other) (λ l b. not_empty u (spot (c.len u) k g) a.3 Still b) (after spot true (Stores u k g) c) refl
  stays (Replaces u q k) ne a =
      one_written u q (Holds c.stored Still false) (λ e f. not_still a.0 e f) (λ l. stored_other)
      (not_replaced u q k a.0 (λ v l r o phase b e p. (a.1 v l).0 r o phase b e p)) (after spot true (Replaces u q k) c) refl
    where
      not_still : IsStill same spot true c u q k → u ≡ c.first → q ≡ j → ⊥
      not_still still e f = let at = ap (λ (v : ℕ). c.place v q) e ∙ ap (c.place c.first) f ∙ here in let was = still.2 in cc (at, was)
  stays (Removes u q) ne a =
      one_written u q (Tombstone false) (λ e f. not_still a.1 e f) (λ l phase b e. cc e)
      (not_replaced u q a.0 a.1 (λ v l r o phase b e p. (a.2 v l).0 r o phase b e p)) (after spot true (Removes u q) c) refl
    where
      not_still : IsStill same spot true c u q a.0 → u ≡ c.first → q ≡ j → ⊥
      not_still still e f = let at = ap (λ (v : ℕ). c.place v q) e ∙ ap (c.place c.first) f ∙ here in let was = still.2 in cc (at, was)
  stays (Marks caller q) ne a =
      one_written c.first q (marked (c.place c.first q)) (λ e f. not_marked (c.place c.first q) (ap (c.place c.first) f ∙ here) a.3) (λ l. absurd (omega (arith, l))) (λ l. absurd (omega (arith, l)))
      (after spot true (Marks caller q) c) refl
  stays (MarksBlocking q) ne a = absurd (cc a.0)
  stays (Skips caller u q) ne a = absurd (cc a.0)
  stays (Unmarks caller q) ne a =
      one_written c.first q (still_place spot true (c.place c.first q)) (λ e. other_caller caller q ne a.2) (λ l. absurd (omega (arith, l))) (λ l. absurd (omega (arith, l))) (after spot true (Unmarks caller q) c) refl
  stays (Puts caller q u k g) ne a =
      one_written u (spot (c.len u) k g) (lent_place spot true (c.place c.first q)) (λ e f. let l = a.0 in omega (arith, e, l)) (λ l phase b e. not_new a.6.0 a.6.1 a.6.2 phase b e)
      (λ l b. not_empty u (spot (c.len u) k g) a.4 Still b) (after spot true (Puts caller q u k g) c) refl
    where
      pair : (m : ℕ) (phase : Phase) (b : Bool) → Holds m Still true ≡ Holds n phase b → m ≡ n
      pair m phase b e = cc e

      not_new : (m : ℕ) (x : Bool) → c.place c.first q ≡ Holds m Copying x → (phase : Phase) (b : Bool) → lent_place spot true (c.place c.first q) ≡ Holds n phase b → ⊥
      not_new m x at phase b e = other_caller caller q ne a.7.0 (another_pair q m x at (pair m phase b (sym (ap (lent_place spot true) at) ∙ e)))
  stays (Covers caller q) ne a =
      one_written c.first q (copied_place spot true (c.place c.first q)) (λ e. other_caller caller q ne a.2) (λ l. absurd (omega (arith, l))) (λ l. absurd (omega (arith, l))) (after spot true (Covers caller q) c) refl
  stays (PutsLate u q m) ne a = absurd (cc a.0)
  stays (Claims caller u chunk) ne a = absurd (cc a.0)
  stays (Reclaims u claim) ne a = no_place_changed (after spot true (Reclaims u claim) c) (λ t p. refl)
  stays (Counts caller u number) ne a = no_place_changed (after spot true (Counts caller u number) c) (λ t p. refl)
  stays (GivesUp caller u) ne a = absurd (cc a)
  stays (Aborts u) ne a = absurd (cc a.0)
  stays (Promotes u) ne a = no_place_changed (after spot true (Promotes u) c) (λ t p. refl)
  stays (Announces u) ne a = no_place_changed (after spot true (Announces u) c) (λ t p. refl)

pub place_stays : {K : Type 0} (same : K → K → Bool) (spot : ℕ → K → ℕ → ℕ) → IsLawful same spot → (i : ℕ) (c : Chart K) → Rule same spot true c → (j n : ℕ) (borrowed : Bool) → suc c.first < c.past → j < c.len c.first
    → c.share (suc c.first) j ≡ Claimed i → c.place c.first j ≡ Holds n Copying borrowed → (move : Move K) → (IsBy i move → ⊥) → Allowed same spot true move c
    → ((after spot true move c).place c.first j ≡ Holds n Copying borrowed) × LiesAlike same spot true c (after spot true move c) n
place_stays same spot lawful i c rule j n borrowed next within mine here move ne a = stays same spot lawful i c rule j n borrowed next within mine here move ne a
