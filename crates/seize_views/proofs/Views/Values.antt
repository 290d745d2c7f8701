-- Each value is found by whose its block is; what is the collector's is reached.
use Rattle.std.specs.Prelude.{◌<◌, Option, Some, None, IsSome}
use Rattle.std.proofs.Common.{◌≡◌, ℕ, ◌⊎◌, inl, inr, refl, sym, subst, ◌∙◌, arith}
use Rattle.seize_words.specs.OneMemory.Mem.{Mem, value_at}
use Rattle.seize_words.specs.OneMemory.Word.{block_in}
use Rattle.seize.specs.World.{World, Row, Hand}
use Rattle.seize.specs.World as world
use Rattle.seize_acts.proofs.Given.SeizeAloneHistories.NotTaken.{nobodys}
use Rattle.seize_seats.specs.Seats.State.{State, view_of}
use Rattle.seize_views.specs.Reaches.Reached.{words_of_row, OneLeadsTo, IsOfASlot, IsOfARow, IsOfABlock}
use Rattle.seize_views.specs.Views.Chains.{all_roots}
use Rattle.seize_views.specs.Views.Rows.{row_of, IsSomeones, IsInSomeHand, IsFound, Holds}
use Rattle.seize_views.specs.Views.Values.{IsAtARoot, IsOfASeat, IsReached, WasKept, ValuesAreFound}
use Rattle.seize_views.specs.declared.view.SlotView.{SlotView}
use Rattle.seize_views.specs.declared.view.Fixed.{Fixed}
use Rattle.seize_views.proofs.Reaches.Reached.{handed_are_reached}
use Rattle.seize_views.proofs.Views.Chains.{stands_there}
use Rattle.seize_views.proofs.Views.Came.{reached}

module _ (T : Type 0) (defers : T → Option ℕ) (fixed : Fixed) (s : State T (SlotView T) (World T)) (h : Holds defers fixed s) (b : ℕ) where
  abbrev FoundSo : Type 0
  FoundSo = IsSomeones s b ⊎ IsAtARoot s.memory b ⊎ IsReached s b ⊎ WasKept h.life.began s.world b

  -- a row that has a word at hand is that of a seat that is there
  of_a_seat : IsOfARow s.world b → IsOfASeat s b
  of_a_seat (i, way) = by (view_of s i) refl
    where
      by : (o : Option (SlotView T)) → view_of s i ≡ o → IsOfASeat s b
      by None e = absurd (subst (λ (row : Row). OneLeadsTo s.world.memory b (words_of_row row)) (h.unborn i e) way)
      by (Some v) e = (
        i,
        v,
        e,
        subst (λ (m : Mem T). OneLeadsTo m b (words_of_row (row_of v))) (sym h.memory)
            (subst (λ (row : Row). OneLeadsTo s.world.memory b (words_of_row row)) (h.seats i v e).row way),
      )

  is_reached : IsOfASlot s.world.memory b ⊎ IsOfARow s.world b ⊎ IsOfABlock s.world.memory b → IsReached s b
  is_reached (inl slot) = inl (subst (λ (m : Mem T). IsOfASlot m b) (sym h.memory) slot)
  is_reached (inr (inl row)) = inr (inl (of_a_seat row))
  is_reached (inr (inr block)) = inr (inr (subst (λ (m : Mem T). IsOfABlock m b) (sym h.memory) block))

  had : (k : Hand) → s.world.hand b ≡ k → IsInSomeHand s h.life.began b k → FoundSo
  had k e (inl has) = inl has
  had k e (inr was) = inr (inr (inr (e ∙ sym was)))

  found_by_hand : IsSome (value_at s.memory b) → (k : Hand) → s.world.hand b ≡ k → IsFound fixed s.memory b (IsInSomeHand s h.life.began b) k → FoundSo
  found_by_hand some world.NoBlock e f =
      let none = nobodys defers fixed.batch_size s.world (reached defers fixed s.world h.came) b e in
      let there = subst (λ (m : Mem T). IsSome (value_at m b)) h.memory some in absurd (cc (none, there))
  found_by_hand some (world.Making i) e f = had (world.Making i) e f
  found_by_hand some (world.InUse r) e (inl f) = inr (inl (r, 0, b, f, refl))
  found_by_hand some (world.InUse r) e (inr is) =
      let c = h.chains r is in
      let k = stands_there defers s.memory c.blocks (block_in c.word) b c.stand (subst (λ (n : ℕ). 0 < n) (sym (c.once b e)) (omega arith)) in
      inr (inl (r, k.0, block_in c.word, (c.word, c.at, refl), k.1))
  found_by_hand some (world.Parting i) e f = had (world.Parting i) e f
  found_by_hand some (world.Cutting i) e f = had (world.Cutting i) e f
  found_by_hand some world.Handed e f = inr (inr (inl (is_reached (handed_are_reached defers fixed.batch_size (all_roots fixed) h.came.0 s.world h.came.1 b e))))
  found_by_hand some (world.LeftTo i) e f = absurd f

pub values_are_found : (T : Type 0) (defers : T → Option ℕ) → ValuesAreFound T defers
values_are_found T defers fixed s h b some = found_by_hand T defers fixed s h b some (s.world.hand b) refl (h.found b)
