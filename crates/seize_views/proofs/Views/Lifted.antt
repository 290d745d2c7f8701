-- What leads on in a world leads on by the rule, for whoever has the row.
use Rattle.std.specs.Prelude.{◌≢◌, Option, Some, None}
use Rattle.std.proofs.Common.{◌≡◌, ℕ, inl, inr, sym, subst, ◌∙◌}
use Rattle.seize_words.specs.OneMemory.Mem.{Mem, Can, Took}
use Rattle.seize_words.specs.OneMemory.Op.{Op, Out}
use Rattle.seize.specs.World.{World, Use}
use Rattle.seize_acts.specs.Acts.Waits.{SettlesOn}
use Rattle.seize_seats.specs.Seats.State.{State, view_of}
use Rattle.seize_views.specs.Views.Chains.{all_roots}
use Rattle.seize_views.specs.Views.Rows.{use_of, IsUsed, IsPlain, IsItsOwn, Holds, Leads}
use Rattle.seize_views.specs.declared.view.SlotView.{SlotView}
use Rattle.seize_views.specs.declared.view.SlotView.TheVariants.{Defers}
use Rattle.seize_views.specs.declared.view.Fixed.{Fixed}
use Rattle.seize_views.proofs.Views.Aside.{has_it, alone_on_slot}
use Rattle.seize_views.proofs.Views.InWorld.{IsJustSo, IsUsedLike, HasRow, Went, GoesTo, MayMake, BeginsTo}
use Rattle.seize_views.proofs.Views.Moved.{Moved, moved, not_vacant, used_so}
use Rattle.seize_views.proofs.Views.Steps.{begun, stepped}

module _ {T : Type 0} (w : World T) where
  like_used : (o : Option (ℕ × Use)) → IsUsed w o → IsUsedLike IsJustSo w o
  like_used None is = tt
  like_used (Some slot) is = is

  used_like : (o : Option (ℕ × Use)) → IsUsedLike IsJustSo w o → IsUsed w o
  used_like None is = tt
  used_like (Some slot) is = is

-- who knows of no block has taken none out
plain_own : {T : Type 0} (u : SlotView T) (n : World T) (j : ℕ) → IsPlain u → IsItsOwn n j u
plain_own (Defers t c) n j plain = absurd plain
plain_own _ n j plain = tt

module _ {T : Type 0} (defers : T → Option ℕ) (fixed : Fixed) (s : State T (SlotView T) (World T)) (id : ℕ) (v : SlotView T) (h : Holds defers fixed s)
    (at_id : view_of s id ≡ Some v) where
  pub has_row : HasRow defers fixed IsJustSo s.world id v
  has_row =
      let f = h.seats id v at_id in
      record {
        came = (all_roots fixed, h.came.0, h.came.1);
        row = f.row;
        used = like_used s.world (use_of v) f.slot;
        short = f.short;
        bounded = h.bounded id v at_id;
        alone = alone_on_slot s.world (view_of s) (λ j x e. (h.seats j x e).row) h.unborn h.apart id;
      }

  -- nobody else settles on its slot
  pub lone_on : (t : ℕ) (a : Use) → use_of v ≡ Some (t, a) → (j : ℕ) → (j ≡ id → ⊥) → SettlesOn t (s.world.row j) → ⊥
  lone_on t a mine j ne on =
      let k = has_it s.world (view_of s) (λ i x e. (h.seats i x e).row) h.unborn h.apart j t on in ne (h.apart j id t k.1 a k.0 v k.2 at_id k.3 mine)

  module _ (m : Mem T) (u : SlotView T) (n : World T) (g : Went defers fixed IsJustSo s.world id v m u n) where
    lone : (j t : ℕ) (x : SlotView T) (a b : Use) → j ≢ id → view_of s j ≡ Some x → use_of x ≡ Some (t, a) → use_of u ≡ Some (t, b) → ⊥
    lone j t x a b ne e p q =
        elim (g.slot t b q) as (λ _. ⊥) [
          | inl had ↦ ne (h.apart j id t a had.0 x v e at_id p had.1)
          | inr free ↦ not_vacant x t a p (sym (used_so s.world (use_of x) t a (h.seats j x e).slot p) ∙ free.0)
        ]

    went : Moved defers fixed s id h.life.began u m n
    went =
        stepped defers fixed s id v h at_id u m n g.step g.memory
        (record { row = g.row; slot = used_like n (use_of u) g.used; short = g.short; known = g.known; its_own = plain_own u n id g.plain }) lone g.none g.bounded

  pub goes : (m : Mem T) (so : SlotView T → Type 0) → GoesTo defers fixed IsJustSo s.world id v m so → Leads defers fixed s m id so
  goes m so g = moved defers fixed s id v g.0 m g.1 so h at_id (went m g.0 g.1 g.2) g.3

  pub makes : (op : Op T) (so : Out T → SlotView T → Type 0) → MayMake defers fixed IsJustSo s.world id v op so
      → Can s.memory op × ((out : Out T) (m : Mem T) → Took s.memory op out m → Leads defers fixed s m id (so out))
  makes op so k = (
    subst (λ (m : Mem T). Can m op) (sym h.memory) k.0,
    λ out m took. goes m (so out) (k.1 out m (subst (λ (x : Mem T). Took x op out m) h.memory took)),
  )

  pub ends : (so : SlotView T → Type 0) → GoesTo defers fixed IsJustSo s.world id v s.world.memory so → Leads defers fixed s s.memory id so
  ends so g = subst (λ (m : Mem T). Leads defers fixed s m id so) (sym h.memory) (goes s.world.memory so g)

  pub begins : (so : SlotView T → Type 0) → BeginsTo defers fixed s.world id v so → Leads defers fixed s s.memory id so
  begins so (u, n, request, g, is) =
      moved defers fixed s id v u s.memory n so h at_id
      (begun defers fixed s id v h at_id request u n g.happens g.memory g.log (λ j b x ne e q. g.hand b (λ k. ne (h.sole j id b x v e at_id q k))) g.none g.linked
      g.rows g.uses (record { row = g.row; slot = used_like n (use_of u) g.used; short = g.short; known = g.known; its_own = plain_own u n id g.plain }) g.slot g.bounded g.hand g.handed)
      is
