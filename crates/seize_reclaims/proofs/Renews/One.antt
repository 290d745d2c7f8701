-- The rule by which one seat acts alone: it begins where all rest, each operation may be made, and it ends.
use Rattle.std.specs.Prelude.{◌==◌, Option, Some, None, if◌then◌else◌, slice_get}
use Rattle.std.proofs.Common.{◌≡◌, ℕ, Bool, true, false, refl, sym, subst, ◌∙◌, arith, eqb-true}
use Rattle.seize_words.specs.OneMemory.Op.{Op}
use Rattle.seize.specs.declared.rows.reclaim_all.ReclaimAll.{ReclaimAll}
use Rattle.seize.specs.declared.rows.reclaim_all.Reclaiming.{Reclaiming}
use Rattle.seize.specs.declared.rows.reclaim_all.Reclaiming.TheVariants as at
use Rattle.seize.specs.ReclaimAll.{plan_at}
use Rattle.seize.specs.World.{World}
use Rattle.seize.specs.World as world
use Rattle.seize_seats.specs.Seats.Lendings.{VisibleTo, IsValueOf}
use Rattle.seize_seats.specs.Seats.State.{State, view_of}
use Rattle.seize_seats.proofs.Seats.Stepping.Errands.{mapped_at}
use Rattle.seize_acts.specs.Quiet.Slots.{StageAt}
use Rattle.seize_acts.specs.Quiet.Promises.{IsOnSlots}
use Rattle.seize_views.specs.Views.Notes.{as_known}
use Rattle.seize_views.specs.Views.Promises.{op_in}
use Rattle.seize_views.specs.Views.Rows.{row_of, IsQuiescent}
use Rattle.seize_views.specs.Views.Watched.{known_by}
use Rattle.seize_views.specs.declared.view.Fixed.{Fixed}
use Rattle.seize_views.specs.declared.view.Noted.{Noted}
use Rattle.seize_views.specs.declared.view.SlotView.{SlotView}
use Rattle.seize_views.specs.declared.view.SlotView.TheVariants as view
use Rattle.seize_reclaims.specs.Renews.One.{HoldsOne, OneBegins, OneContinues, OneTurns, OneIsShown, OneEnds}
use Rattle.seize_reclaims.specs.Renews.Rule.{IsAtPoint}
use Rattle.seize_reclaims.specs.declared.alone.Alone.{Alone}
use Rattle.seize_reclaims.specs.declared.alone.Alone.TheVariants.{Registers, Reclaims}
use Rattle.seize_reclaims.proofs.Renews.Ends.{idle_renew, looked_is_shown, over_renews}
use Rattle.seize_reclaims.proofs.Renews.Registering.{registering_goes_on}
use Rattle.seize_reclaims.proofs.Renews.Steps.{reclaiming_goes_on, reclaiming_turns}

-- who has nothing under way has no row
pub no_row : {T : Type 0} (v : SlotView T) → IsQuiescent v → row_of v ≡ world.Rests
no_row view.Rests r = refl
no_row (view.Registers c) r = absurd r
no_row (view.Outside t) r = refl
no_row (view.Owes t b) r = refl
no_row (view.Enters t) r = absurd r
no_row (view.Inside t has) r = refl
no_row (view.Settles c why seen left) r = absurd r
no_row (view.Leaves t size way) r = absurd r
no_row (view.Left t size way) r = absurd r
no_row (view.Frees t) r = absurd r
no_row (view.Brings b x) r = refl
no_row (view.Bears b) r = refl
no_row (view.Joins block) r = refl
no_row (view.Watches t b) r = refl
no_row (view.Under n t b) r = refl
no_row (view.Defers t c) r = absurd r
no_row (view.Busy t) r = absurd r

module _ {T : Type 0} (defers : T → Option ℕ) (left_over : T → Bool) where
  pub one_begins : OneBegins defers left_over
  one_begins fixed s h idle = idle_renew defers left_over fixed (as_known s) h.0 (λ j v at. rest j v (mapped_at known_by s.views j v at))
    where
      rest : (j : ℕ) (v : SlotView T) → (u : Noted T) × (slice_get s.views j ≡ Some u) × (u.knows ≡ v) → row_of v ≡ world.Rests
      rest j v u = no_row v (subst IsQuiescent u.2 (idle j u.0 u.1))

  abbrev Hold : Fixed → State T (Alone T) (World T) → Type 0
  Hold fixed = HoldsOne defers left_over fixed

  -- its machine is not over, and works on slots
  module _ (fixed : Fixed) (id : ℕ) (c : ReclaimAll) (seen : Option (ℕ × T)) (left : ℕ) (s : State T (Alone T) (World T)) (h : Hold fixed s)
      (at_id : view_of s id ≡ Some (Reclaims c seen left)) where
    stands : IsAtPoint defers left_over fixed s.world id (Reclaims c seen left)
    stands = h.seats id (Reclaims c seen left) at_id

    on_slots : (p : Reclaiming) → StageAt defers fixed.batch_size id c s.world p → (p ≡ at.Over → ⊥) → IsOnSlots p
    on_slots (at.Heads a) st ne = tt
    on_slots (at.Retakes a) st ne = tt
    on_slots (at.Leaves a leave) st ne = tt
    on_slots (at.Batches a) st ne = tt
    on_slots (at.Flushes a settle) st ne = tt
    on_slots (at.Frees a) st ne = tt
    on_slots (at.Roots root) st ne = let none = stands.0.roots_are in let some = st.1 in absurd (omega (arith, none, some))
    on_slots (at.Nexts root b) st ne = absurd st
    on_slots (at.Takes root b next) st ne = absurd st
    on_slots (at.Empties root) st ne = absurd st
    on_slots (at.Unuses root) st ne = absurd st
    on_slots at.Over st ne = absurd (ne refl)

    on : (c.stands ≡ at.Over → ⊥) → IsOnSlots c.stands
    on ne = on_slots c.stands stands.0.here ne

  -- where it is over it makes no operation
  not_over : (c : ReclaimAll) (op : Op T) (p : Reclaiming) → op_in (plan_at defers left_over c p) ≡ Some op → p ≡ at.Over → ⊥
  not_over c op p e over = let none : op_in (plan_at defers left_over c at.Over) ≡ Some op = subst (λ (q : Reclaiming). op_in (plan_at defers left_over c q) ≡ Some op) over e in absurd (cc none)

  pub one_goes_on : OneContinues defers left_over
  one_goes_on fixed id (Registers c size) op word is = registering_goes_on defers left_over fixed id c size op word is
  one_goes_on fixed id (Reclaims c seen left) op word is =
      λ s h at_id. reclaiming_goes_on defers left_over fixed id c seen left op word (on fixed id c seen left s h at_id (not_over c op c.stands is)) is s h at_id

  pub one_turns : OneTurns defers left_over
  one_turns fixed id c c2 progress seen left word ne plan s h at_id =
      let g = reclaiming_turns defers left_over fixed id c c2 progress seen left word (on fixed id c seen left s h at_id ne) plan s h at_id in
      (g.0, g.1, g.2, g.3, (c2, progress, g.4.0, plan, g.4.1, g.4.2))

  some_same : (y : Bool) (o : T) (x : T) → (if y then Some o else None) ≡ Some x → (y ≡ true) × (o ≡ x)
  some_same true o x is = (refl, cc is)
  some_same false o x is = absurd (cc is)

  pub one_is_shown : OneIsShown defers left_over
  one_is_shown fixed id (Registers c size) b x is = absurd (cc is)
  one_is_shown fixed id (Reclaims c None left) b x is = absurd (cc is)
  one_is_shown fixed id (Reclaims c (Some (a, z)) left) b x is =
      let k = some_same (b == a) z x is in let e : a ≡ b = sym (eqb-true b a k.0) in let l = looked_is_shown defers left_over fixed id c a left z in (
        subst (λ (n : ℕ). VisibleTo (Hold fixed) id (Reclaims c (Some (a, z)) left) n) e l.0,
        λ y of. l.1 y (subst (λ (n : ℕ). IsValueOf (Hold fixed) id (Reclaims c (Some (a, z)) left) n y) (sym e) of) ∙ k.1,
      )

  pub one_ends : OneEnds defers left_over
  one_ends fixed id c seen left over s h at_id idle =
      let r = over_renews defers left_over fixed id c seen left over s h at_id in (
        r.0,
        (
          r.1,
          record {
            held = λ j t b e. absurd (cc e);
            counted = λ k v e. absurd (cc e);
            opened = λ t some. absurd (some refl);
            leaned = record { based = λ j n t b v e. absurd (cc e); seen = λ j n t b v e. absurd (cc e) };
          },
        ),
      )
