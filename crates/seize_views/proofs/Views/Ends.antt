-- Rows end: each leads on, whatever else is so of the world.
use Rattle.std.specs.Prelude.{Option, None}
use Rattle.std.proofs.Common.{◌≡◌, ℕ, inl, inr, refl, sym, subst, ◌∙◌}
use Rattle.seize_words.specs.OneMemory.Mem.{Mem, Can, Took, value_at}
use Rattle.seize_words.specs.OneMemory.Plan.{Steps}
use Rattle.seize_words.proofs.OneMemory.Plans.{steps_as}
use Rattle.seize.specs.declared.rows.leave.Leave.{Leave}
use Rattle.seize.specs.declared.rows.leave.Leaving.TheVariants as leaving_at
use Rattle.seize.specs.declared.rows.settle.Settle.{Settle}
use Rattle.seize.specs.declared.rows.settle.Settling.{Settling}
use Rattle.seize.specs.declared.rows.settle.Settling.TheVariants as settling_at
use Rattle.seize.specs.declared.rows.settle.Settled.{Settled}
use Rattle.seize.specs.declared.rows.settle.Settled.TheVariants as settled
use Rattle.seize.specs.Leave.{standing, settled as leave_settled}
use Rattle.seize.specs.Settle.{settle_plan, plan_at}
use Rattle.seize.specs.World.{World, Use, one_less, settles_on, leaves_on}
use Rattle.seize.specs.World as world
use Rattle.seize_acts.proofs.Given.SeizeRuleRows.Others.{with_here}
use Rattle.seize_views.specs.Views.Begun.{left_with}
use Rattle.seize_views.specs.Views.Rows.{row_of, use_of, used_for, hand_of, leave_of, counting, IsPlain, IsShort, IsKnown, IsBounded}
use Rattle.seize_views.specs.declared.view.SlotView.{SlotView}
use Rattle.seize_views.specs.declared.view.Becomes.{Becomes}
use Rattle.seize_views.specs.declared.view.Becomes.TheVariants.{Idle, Active}
use Rattle.seize_views.specs.declared.view.SlotView.TheVariants.{Outside, Inside, Settles, Left}
use Rattle.seize_views.specs.declared.view.Has.TheVariants.{Nothing}
use Rattle.seize_views.specs.declared.view.Why.TheVariants.{Retiring, Ending}
use Rattle.seize_views.specs.declared.view.Fixed.{Fixed}
use Rattle.seize_views.proofs.Views.InWorld.{IsLikeness, IsUsedLike, HasRow, GoesTo, used_as, same_slot}

module _ {T : Type 0} (defers : T → Option ℕ) where
  -- the step of a settling that is over
  over_step : (c : Settle) (m : Mem T) (end : Settle × Settled T) → c.stands ≡ settling_at.Over → (m ≡ m) × (end ≡ (c, settled.Done))
      → Steps Took value_at m (settle_plan defers c) m end
  over_step c m end over is = subst (λ (p : Settling). Steps Took value_at m (plan_at defers c p) m end) (sym over) is

module _ {T : Type 0} (defers : T → Option ℕ) (fixed : Fixed) (Is : Use → Use → Type 0) (like : IsLikeness Is) (w : World T) (i : ℕ) where
  abbrev To : SlotView T → (SlotView T → Type 0) → Type 0
  To v so = GoesTo defers fixed Is w i v w.memory so

  -- a settling that is over ends, and its caller stands as before

  left_used : (way : Becomes) (t : ℕ) (n : World T) → n.uses t ≡ one_less (w.uses t) → Is (used_for (Retiring way)) (w.uses t) → IsUsedLike Is n (use_of {T = T} (left_with way t))
  left_used Idle t n after is = subst (λ (u : Use). Is (world.Outside 0) u) (sym after) (like.less (world.Outside 1) (w.uses t) is)
  left_used Active t n after is = subst (λ (u : Use). Is (world.Inside 0) u) (sym after) (like.less (world.Inside 1) (w.uses t) is)

  left_row : (way : Becomes) (t : ℕ) → row_of {T = T} (left_with way t) ≡ world.Rests
  left_row Idle t = refl
  left_row Active t = refl

  left_use : (way : Becomes) (a b : Use) (t x : ℕ) → use_of {T = T} (left_with way t) ≡ used_as x b → (d : Use) × (used_as t a ≡ used_as x d)
  left_use Idle a b t x e = same_slot t x (world.Outside 0) b a e
  left_use Active a b t x e = same_slot t x (world.Inside 0) b a e

  left_hand : (way : Becomes) (t : ℕ) → hand_of {T = T} (left_with way t) ≡ None
  left_hand Idle t = refl
  left_hand Active t = refl

  left_short : (way : Becomes) (t : ℕ) → IsShort {T = T} (left_with way t)
  left_short Idle t = tt
  left_short Active t = tt

  left_plain : (way : Becomes) (t : ℕ) → IsPlain {T = T} (left_with way t)
  left_plain Idle t = tt
  left_plain Active t = tt

  left_known : (way : Becomes) (n : World T) (t : ℕ) → IsKnown defers n (left_with way t)
  left_known Idle n t = tt
  left_known Active n t = tt

  left_bound : (way : Becomes) (n : World T) (t : ℕ) → IsBounded defers fixed n i (left_with way t)
  left_bound Idle n t = tt
  left_bound Active n t = tt

  pub settled_ends : (c : Settle) (way : Becomes) (seen : Option (ℕ × T)) (left : ℕ) → c.stands ≡ settling_at.Over
      → HasRow defers fixed Is w i (Settles c (Retiring way) seen left) → To (Settles c (Retiring way) seen left) (λ x. x ≡ left_with way c.slot)
  settled_ends c way seen left over h =
      let n : World T = settles_on w i c w.memory (c, settled.Done) in (
        left_with way c.slot,
        n,
        record {
          step = (w.memory, (c, settled.Done), over_step defers c w.memory (c, settled.Done) over (refl, refl), refl);
          memory = refl;
          row = with_here w.row i world.Rests ∙ sym (left_row way c.slot);
          used = left_used way c.slot n (with_here w.uses c.slot (one_less (w.uses c.slot))) h.used;
          plain = left_plain way c.slot;
          short = left_short way c.slot;
          known = left_known way n c.slot;
          bounded = left_bound way n c.slot;
          none = left_hand way c.slot;
          slot = λ x b e. inl (left_use way (used_for (Retiring way)) b c.slot x e);
          place = inl (left_row way c.slot);
        },
        refl,
      )

  pub counted_ends : (c : Settle) (size : ℕ) (way : Becomes) (seen : Option (ℕ × T)) (left : ℕ) → c.stands ≡ settling_at.Over
      → HasRow defers fixed Is w i (Settles c (Ending size way) seen left) → To (Settles c (Ending size way) seen left) (λ x. x ≡ Left c.slot size way)
  counted_ends c size way seen left over h =
      let d : Leave = counting size way c in let e : Leave = standing (leave_of c.slot size way) leaving_at.Over in (
        Left c.slot size way,
        leaves_on w i d w.memory (e, settled.Goes),
        record {
          step = (
            w.memory,
            (e, settled.Goes),
            steps_as (leave_settled d) Can Took value_at w.memory w.memory (settle_plan defers c) (c, settled.Done)
                (over_step defers c w.memory (c, settled.Done) over (refl, refl)),
            refl,
          );
          memory = refl;
          row = with_here w.row i (world.Leaves e);
          used = subst (λ (u : Use). Is world.Changing u) (sym (with_here w.uses c.slot (w.uses c.slot))) h.used;
          plain = tt;
          short = tt;
          known = tt;
          bounded = tt;
          none = refl;
          slot = λ x b q. inl (same_slot c.slot x world.Changing b world.Changing q);
          place = inr refl;
        },
        refl,
      )

  -- the row of a caller that has left ends
  pub left_ends : (t size : ℕ) (way : Becomes) → HasRow defers fixed Is w i (Left t size way) → To (Left t size way) (λ x. x ≡ left_with way t)
  left_ends t size Idle h =
      let d : Leave = standing (leave_of t size Idle) leaving_at.Over in let n : World T = leaves_on w i d w.memory (d, settled.Done) in (
        Outside t,
        n,
        record {
          step = (w.memory, (d, settled.Done), (refl, refl), refl);
          memory = refl;
          row = with_here w.row i world.Rests;
          used = subst (λ (u : Use). Is (world.Outside 0) u) (sym (with_here w.uses t (world.Outside 0))) (like.same (world.Outside 0));
          plain = tt;
          short = tt;
          known = tt;
          bounded = tt;
          none = refl;
          slot = λ x b e. inl (same_slot t x (world.Outside 0) b world.Changing e);
          place = inl refl;
        },
        refl,
      )
  left_ends t size Active h =
      let d : Leave = standing (leave_of t size Active) leaving_at.Over in let n : World T = leaves_on w i d w.memory (d, settled.Done) in (
        Inside t Nothing,
        n,
        record {
          step = (w.memory, (d, settled.Done), (refl, refl), refl);
          memory = refl;
          row = with_here w.row i world.Rests;
          used = subst (λ (u : Use). Is (world.Inside 0) u) (sym (with_here w.uses t (world.Inside 0))) (like.same (world.Inside 0));
          plain = tt;
          short = tt;
          known = tt;
          bounded = tt;
          none = refl;
          slot = λ x b e. inl (same_slot t x (world.Inside 0) b world.Changing e);
          place = inl refl;
        },
        refl,
      )
