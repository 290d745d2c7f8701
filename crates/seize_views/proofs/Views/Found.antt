-- Each block is found after what a seat has done: in its hand or in another one's, or at the root that names it.
use Rattle.std.specs.Prelude.{◌≢◌, Option, Some, None, IsSome, slice_get}
use Rattle.std.proofs.Common.{◌≡◌, ℕ, List, ◌⊎◌, inl, inr, refl, sym, subst, ap, ◌∙◌}
use Rattle.std.proofs.lemmas.Bool.{cases_eq}
use Rattle.seize_words.specs.OneMemory.Mem.{Mem, value_at}
use Rattle.seize.specs.World.{World, Hand, with_at}
use Rattle.seize.specs.World as world
use Rattle.seize_acts.proofs.Given.SeizeRuleRows.Others.{with_here, with_other}
use Rattle.seize_acts.proofs.Given.SeizeAloneHistories.NotTaken.{IsHad, kept_there}
use Rattle.seize_seats.specs.Seats.State.{State, view_of, after}
use Rattle.seize_views.specs.Views.Rows.{hand_of, IsInSomeHand, IsFound, Holds}
use Rattle.seize_views.specs.declared.view.SlotView.{SlotView}
use Rattle.seize_views.specs.declared.view.Fixed.{Fixed}
use Rattle.seize_views.proofs.Views.Came.{of_users, reached}
use Rattle.seize_views.proofs.Views.Lists.{there, elsewhere}
use Rattle.seize_words.proofs.General.{same_some}

-- it is this block, or not
pub has_or_not : (o : Option ℕ) (b : ℕ) → (o ≡ Some b) ⊎ (o ≡ Some b → ⊥)
has_or_not None b = inr (λ e. cc e)
has_or_not (Some c) b = elim (cases_eq c b) as (λ _. (Some c ≡ Some b) ⊎ (Some c ≡ Some b → ⊥)) [
  | inl is ↦ inl (ap Some is)
  | inr ne ↦ inr (λ e. ne (same_some c b e))
]

module _ {T : Type 0} where
  -- where the roots are as they were, and who has a block has it still
  pub found_at : (fixed : Fixed) (m n : Mem T) (b : ℕ) (has now : Hand → Type 0) → n.roots ≡ m.roots → ((k : Hand) → has k → now k) → (k : Hand) → IsFound fixed m b has k → IsFound fixed n b now k
  found_at fixed m n b has now same still world.NoBlock f = tt
  found_at fixed m n b has now same still (world.Making h) f = still (world.Making h) f
  found_at fixed m n b has now same still (world.InUse r) (inl f) = inl (f.0, ap (λ (l : List ℕ). slice_get l r) same ∙ f.1, f.2)
  found_at fixed m n b has now same still (world.InUse r) (inr chain) = inr chain
  found_at fixed m n b has now same still (world.Parting h) f = still (world.Parting h) f
  found_at fixed m n b has now same still (world.Cutting h) f = still (world.Cutting h) f
  found_at fixed m n b has now same still world.Handed f = tt
  found_at fixed m n b has now same still (world.LeftTo h) f = f

  -- a block that is found, whoever has it, is found, where that is who has one in its hand
  pub found_as : (fixed : Fixed) (m : Mem T) (b : ℕ) (has : Hand → Type 0) (hand k : Hand) → hand ≡ k → ((l : Hand) → hand ≡ l → has l) → IsFound fixed m b (λ l. Unit {0}) k → IsFound fixed m b has k
  found_as fixed m b has hand world.NoBlock is so f = tt
  found_as fixed m b has hand (world.Making h) is so f = so (world.Making h) is
  found_as fixed m b has hand (world.InUse r) is so f = f
  found_as fixed m b has hand (world.Parting h) is so f = so (world.Parting h) is
  found_as fixed m b has hand (world.Cutting h) is so f = so (world.Cutting h) is
  found_as fixed m b has hand world.Handed is so f = tt
  found_as fixed m b has hand (world.LeftTo h) is so f = f

module _ {T : Type 0} (s : State T (SlotView T) (World T)) (id : ℕ) (began : World T) where
  -- another seat has the block in its hand
  abbrev pub IsAnothers : ℕ → Type 0
  IsAnothers b = (j : ℕ) × (x : SlotView T) × (j ≢ id) × (view_of s j ≡ Some x) × (hand_of x ≡ Some b)

  -- the seat has it, in whose hand this is, or another one, or it was in this hand already as the present lifetime began
  abbrev pub HasNow : Option ℕ → ℕ → Hand → Type 0
  HasNow o b k = (o ≡ Some b) ⊎ IsAnothers b ⊎ (began.hand b ≡ k)

  abbrev pub AreFound : Fixed → Option ℕ → Mem T → (ℕ → Hand) → Type 0
  AreFound fixed o m hand = (b : ℕ) → IsFound fixed m b (HasNow o b) (hand b)

  -- whoever the seat has nothing of has it with something in the seat's hand, too
  pub has_more : (o p : Option ℕ) (b : ℕ) → (o ≡ Some b → p ≡ Some b) → (k : Hand) → HasNow o b k → HasNow p b k
  has_more o p b still k (inl mine) = inl (still mine)
  has_more o p b still k (inr other) = inr other

  -- in the hand of some seat it is then
  pub some_has : (v u : SlotView T) → view_of s id ≡ Some v → (m : Mem T) (n : World T) (b : ℕ) (k : Hand) → HasNow (hand_of u) b k
      → IsInSomeHand (after s m id u n) began b k
  some_has v u at m n b k (inl mine) = inl (id, u, there s.views id u v at, mine)
  some_has v u at m n b k (inr (inl other)) = inl (other.0, other.1, elsewhere s.views id other.0 u other.2 ∙ other.3, other.4)
  some_has v u at m n b k (inr (inr was)) = inr was

module _ {T : Type 0} (defers : T → Option ℕ) (fixed : Fixed) (s : State T (SlotView T) (World T)) (id : ℕ) (v : SlotView T) (h : Holds defers fixed s)
    (at : view_of s id ≡ Some v) where
  abbrev w : World T
  w = s.world

  abbrev Now : Option ℕ → ℕ → Hand → Type 0
  Now o b k = HasNow s id h.life.began o b k

  -- who has a block has it still, where the seat has let go of none
  pub still_has : (o : Option ℕ) (b : ℕ) → (hand_of v ≡ Some b → o ≡ Some b) → (k : Hand) → IsInSomeHand s h.life.began b k → Now o b k
  still_has o b still k (inl (j, x, e, has)) =
      elim (cases_eq j id) as (λ _. Now o b k) [
        | inl same ↦ inl (still (ap hand_of (same_some v x (sym at ∙ ap (λ (i : ℕ). view_of s i) (sym same) ∙ e)) ∙ has))
        | inr ne ↦ inr (inl (j, x, ne, e, has))
      ]
  still_has o b still k (inr was) = inr (inr was)

  -- a block that is in the same hand, where the roots are the same, too
  pub found_on : (o : Option ℕ) (m : Mem T) → m.roots ≡ s.memory.roots → (b : ℕ) → (hand_of v ≡ Some b → o ≡ Some b) → IsFound fixed m b (Now o b) (w.hand b)
  found_on o m same b still =
      found_at fixed s.memory m b (IsInSomeHand s h.life.began b) (Now o b) same (still_has o b still) (w.hand b) (h.found b)

  -- each one, where one is in another hand
  pub found_with : (o : Option ℕ) (m : Mem T) → m.roots ≡ s.memory.roots → (b : ℕ) (k : Hand) → IsFound fixed m b (Now o b) k
      → ((c : ℕ) → c ≢ b → hand_of v ≡ Some c → o ≡ Some c) → AreFound s id h.life.began fixed o m (with_at w.hand b k)
  found_with o m same b k here still c =
      elim (cases_eq c b) as (λ _. IsFound fixed m c (Now o c) (with_at w.hand b k c)) [
        | inl is ↦ subst (λ (d : ℕ). IsFound fixed m d (Now o d) (with_at w.hand b k d)) (sym is)
            (subst (λ (l : Hand). IsFound fixed m b (Now o b) l) (sym (with_here w.hand b k)) here)
        | inr ne ↦ subst (λ (l : Hand). IsFound fixed m c (Now o c) l) (sym (with_other w.hand b c k ne)) (found_on o m same c (still c ne))
      ]

  -- a block that is linked has a number
  pub linked_some : (b r : ℕ) → w.hand b ≡ world.InUse r → b ≢ 0
  linked_some b r is none =
      let there = kept_there defers fixed.batch_size w (reached defers fixed w h.came) b (IsHad (of_users w.hand b (world.InUse r) tt is)) in
      let some = subst (λ (c : ℕ). IsSome (value_at w.memory c)) none there in cc some
