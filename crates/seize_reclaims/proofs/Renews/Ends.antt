-- Those who come wait; what is looked at is there; and where the machine is over nothing is left that waits, and the rule of all holds again.
use Rattle.std.specs.Prelude.{Option, Some, None, IsSome, slice_get}
use Rattle.std.proofs.Common.{◌≡◌, ℕ, zero, suc, Bool, false, [], ◌∷◌, inr, refl, sym, subst, ap, ◌∙◌}
use Rattle.seize_words.specs.OneMemory.Mem.{Mem, value_at}
use Rattle.seize.specs.declared.rows.reclaim_all.ReclaimAll.{ReclaimAll}
use Rattle.seize.specs.declared.rows.reclaim_all.Reclaiming.{Reclaiming}
use Rattle.seize.specs.declared.rows.reclaim_all.Reclaiming.TheVariants as at
use Rattle.seize.specs.declared.rows.register.Registering.TheVariants as register_at
use Rattle.seize.specs.World.{World, Begin, Register', with_row}
use Rattle.seize.specs.World as world
use Rattle.seize_rule.proofs.Rows.Others.{with_here, with_other}
use Rattle.seize_seats.specs.Seats.State.{State, view_of}
use Rattle.seize_seats.specs.Seats.Lendings.{VisibleTo}
use Rattle.seize_acts.specs.Quiet.Slots.{IsQuiescent, StageAt}
use Rattle.seize_acts.proofs.Quiet.Promised.{nothing_waits}
use Rattle.seize_views.specs.declared.view.SlotView.{SlotView}
use Rattle.seize_views.specs.declared.view.Fixed.{Fixed}
use Rattle.seize_views.specs.Views.Rows.{IsInSomeHand}
use Rattle.seize_views.proofs.Views.Came.{came_then}
use Rattle.seize_views.proofs.Views.Found.{found_at, found_as}
use Rattle.seize_reclaims.specs.Renews.Rule.{IsAtPoint, HoldsAlone}
use Rattle.seize_reclaims.specs.Renews.Promises.{first_of, IdleRenew, LookedIsShown, OverIsQuiescent, OverRenews}
use Rattle.seize_reclaims.specs.declared.alone.Alone.{Alone}
use Rattle.seize_reclaims.specs.declared.alone.Alone.TheVariants.{Reclaims}
use Rattle.seize_reclaims.proofs.Renews.Roots.{came_quiet}
use Rattle.seize_words.proofs.General.{same_some}

module _ {T : Type 0} (defers : T → Option ℕ) (left_over : T → Bool) where
  pub idle_renew : IdleRenew defers left_over
  idle_renew fixed s h idle = (
    n,
    record {
      came = came_then defers fixed s.world n (Begin 0 (Register' false)) h.came (rests 0, refl);
      memory = h.memory;
      seats = seats_there;
      one = λ j k a b e f. first j a e ∙ sym (first k b f);
      roots = h.roots;
      found = λ b. found_at fixed s.memory s.memory b (IsInSomeHand s h.life.began b) (λ k. Unit {0}) refl (λ k has. tt) (s.world.hand b) (h.found b);
      rooted = h.rooted;
      chains = h.chains;
    },
  )
    where
      rests : (j : ℕ) → s.world.row j ≡ world.Rests
      rests j = by (view_of s j) refl
        where
          by : (o : Option (SlotView T)) → view_of s j ≡ o → s.world.row j ≡ world.Rests
          by None e = h.unborn j e
          by (Some v) e = (h.seats j v e).row ∙ idle j v e

      n : World T
      n = with_row s.world 0 (world.Registers (record { slot = 0; enters = false; stands = register_at.Begin }))

      first : (j : ℕ) (v : Alone T) → slice_get ((first_of defers left_over fixed) ∷ []) j ≡ Some v → j ≡ 0
      first zero v e = refl
      first (suc j) v e = absurd (cc e)

      seats_there : (j : ℕ) (v : Alone T) → slice_get (first_of defers left_over fixed ∷ []) j ≡ Some v → IsAtPoint defers left_over fixed n j v
      seats_there zero v e =
          subst (λ (a : Alone T). IsAtPoint defers left_over fixed n 0 a) (same_some (first_of defers left_over fixed) v e)
          (refl, with_here s.world.row 0 _, (λ k ne. with_other s.world.row 0 k _ ne ∙ rests k), refl, tt, refl)
      seats_there (suc j) v e = absurd (cc e)

  pub looked_is_shown : LookedIsShown defers left_over
  looked_is_shown fixed id c b left x = (there, λ y of. same_some y x (sym of.3 ∙ here of.0 of.1 of.2))
    where
      here : (t : State T (Alone T) (World T)) → HoldsAlone defers left_over fixed t → view_of t id ≡ Some (Reclaims c (Some (b, x)) left) → value_at t.memory b ≡ Some x
      here t h at_id = ap (λ (m : Mem T). value_at m b) h.memory ∙ (h.seats id (Reclaims c (Some (b, x)) left) at_id).2

      there : VisibleTo (HoldsAlone defers left_over fixed) id (Reclaims c (Some (b, x)) left) b
      there t h at_id = subst IsSome (sym (here t h at_id)) refl

  quiet_at : (fixed : Fixed) (id : ℕ) (c : ReclaimAll) (seen : Option (ℕ × T)) (left : ℕ) → c.stands ≡ at.Over
      → (s : State T (Alone T) (World T)) → HoldsAlone defers left_over fixed s → view_of s id ≡ Some (Reclaims c seen left) → IsQuiescent s.world
  quiet_at fixed id c seen left over s h at_id =
      let st = (h.seats id (Reclaims c seen left) at_id).0 in
      (subst (λ (p : Reclaiming). StageAt defers fixed.batch_size id c s.world p) over st.here).1

  pub over_is_quiet : OverIsQuiescent defers left_over
  over_is_quiet fixed id c seen left word over s h at_id =
      let quiet = quiet_at fixed id c seen left over s h at_id in
      (quiet, nothing_waits defers fixed.batch_size s.world word (came_quiet defers fixed s.world h.came) quiet)

  pub over_renews : OverRenews defers left_over
  over_renews fixed id c seen left over s h at_id = (
    s.world,
    record {
      came = h.came;
      memory = h.memory;
      seats = λ j v e. absurd (cc e);
      unborn = λ j e. (quiet_at fixed id c seen left over s h at_id).rests j;
      apart = λ j k t a b v u e f p q. absurd (cc e);
      sole = λ j k b v u e f p q. absurd (cc e);
      roots = h.roots;
      rooted = h.rooted;
      chains = h.chains;
      life = record { began = s.world; past = h.came; idle = (quiet_at fixed id c seen left over s h at_id).rests; since = ([], refl) };
      found = λ b. found_as fixed s.memory b (IsInSomeHand none_there s.world b) (s.world.hand b) (s.world.hand b) refl (λ k is. inr is) (h.found b);
      bounded = λ j v e. absurd (cc e);
    },
  )
    where
      -- no seat is there
      none_there : State T (SlotView T) (World T)
      none_there = record { memory = s.memory; views = []; world = s.world }
