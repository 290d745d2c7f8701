-- What an event does by its row it may do, and a flush is of a slot within a section.
use Rattle.std.specs.Prelude.{◌≡◌, ◌==◌, ◌&&◌, ℕ, Bool, true, false, List, [], ◌∷◌, if◌then◌else◌}
use Rattle.std.specs.List.{list_all}
use Rattle.std.proofs.Common.{refl, ap, sym, ◌∙◌}
use Rattle.play_stepping.specs.Given.SeizeWorld.{IsInside}
use Rattle.run_schedules.specs.Runs.Present.{guards_on, has_registration}
use Rattle.run_schedules.specs.declared.effect.Effect.{Effect}
use Rattle.run_schedules.specs.declared.event.Event.{Event}
use Rattle.run_schedules.specs.declared.event.Event.TheVariants.{DropGuard, Enter, Flush, Own, Refresh, Register, Unregister}
use Rattle.run_schedules.specs.Schedules.After.{moment}
use Rattle.run_schedules.specs.Schedules.Entry.{Entry}
use Rattle.run_schedules.specs.Schedules.Handing.{is_only, is_reclaiming, may_do}
use Rattle.run_schedules.specs.Schedules.Terms.{Terms}
use Rattle.play_lists.specs.Given.ScenesDeclared.row.SlotCall.{SlotCall}
use Rattle.play_lists.specs.Given.ScenesDeclared.row.SlotCall.TheVariants as call
use Rattle.run_legal.proofs.Given.RowsThere.{is_inside, on_its_slot}
use Rattle.play_stepping.specs.Given.SchedulerPlayed.{RefinesFor}
use Rattle.play_stepping.specs.Given.SchedulerWorks.{IsAbout, IsItsRow}
use Rattle.play_stepping.specs.Given.SchedulerDeclared.scheduler.Scheduler.{Scheduler}
use Rattle.play_stepping.proofs.Given.SchedulerDropped.{free_lives}
use Rattle.run_legal.specs.Works.Rows.{may_row}
use Rattle.play_events.proofs.Events.OfRows.Facts.{inside_by, one_on}
use Rattle.play_stepping.proofs.Given.General.{both_true as and_both}

-- what passes one test passes another one
pub all_by : {X : Type 0} (p q : X → Bool) → ((x : X) → p x ≡ true → q x ≡ true) → (xs : List X) → list_all p xs ≡ true → list_all q xs ≡ true
all_by p q so [] all = refl
all_by p q so (x ∷ xs) all =
    let both = and_both (p x) (list_all p xs) all in
    ap (λ (b : Bool). b && list_all q xs) (so x both.0) ∙ all_by p q so xs both.1

-- what a row may do is what the row may do that it is
as_it_is : (called its : SlotCall) (f : Effect) → called ≡ its → may_row called f ≡ true → may_row its f ≡ true
as_it_is called its f is may = sym (ap (λ (c : SlotCall). may_row c f) is) ∙ may

left_may : (b : Bool) (f : Effect) → may_row (if b then call.Leave else call.LeaveOwned) f ≡ true → is_reclaiming f ≡ true
left_may true f may = may
left_may false f may = may

left_is_none : (b : Bool) (called : SlotCall) → called ≡ (if b then call.Leave else call.LeaveOwned) → called ≡ call.Flush → ⊥
left_is_none true called is flush = cc (is, flush)
left_is_none false called is flush = cc (is, flush)

module _ {K V S : Type 0} (same : K → K → Bool) (hash : K → ℕ) (terms : Terms) (log : List (Entry K V)) (p : Scheduler K V S) (stands : RefinesFor same hash terms (moment log) p) where
  -- the guard is the only one on its slot
  alone : (guard : List ℕ) (slot : ℕ) → IsAbout (Refresh guard) p slot → guards_on slot p.there.guards ≡ 1 → is_only guard (moment log) ≡ true
  alone guard slot about one = ap (λ (n : ℕ). n == 1) (one_on same hash terms log p stands guard slot (free_lives same hash terms (moment log) p stands guard slot about) one)

  only_may : (guard : List ℕ) (f : Effect) → is_only guard (moment log) ≡ true → is_reclaiming f ≡ true → may_do (DropGuard guard) (moment log) f ≡ true
  only_may guard f only back = ap (λ (b : Bool). b && is_reclaiming f) only ∙ back

  pub may_by : (event : Event K V) (slot : ℕ) (called : SlotCall) → IsAbout event p slot → IsItsRow event p slot called → (fs : List Effect) → list_all (may_row called) fs ≡ true
      → list_all (may_do event (moment log)) fs ≡ true
  may_by (Register registration) slot called about its fs all = all_by (may_row called) (may_do (Register registration) (moment log)) (λ f may. as_it_is called (call.Register false) f its may) fs all
  may_by (Own guard) slot called about its fs all = all_by (may_row called) (may_do (Own guard) (moment log)) (λ f may. as_it_is called (call.Register true) f its may) fs all
  may_by (Unregister registration) slot called about its fs all =
      all_by (may_row called) (may_do (Unregister registration) (moment log)) (λ f may. as_it_is called call.Unregister f its.0 may) fs all
  may_by (Enter guard registration) slot called about its fs all = all_by (may_row called) (may_do (Enter guard registration) (moment log)) (λ f may. as_it_is called call.Enter f its.0 may) fs all
  may_by (Flush guard) slot called about its fs all = all_by (may_row called) (may_do (Flush guard) (moment log)) (λ f may. as_it_is called call.Flush f its.0 may) fs all
  may_by (Refresh guard) slot called about its fs all =
      all_by (may_row called) (may_do (Refresh guard) (moment log)) (λ f may. only_may guard f (alone guard slot about its.1) (as_it_is called call.Refresh f its.0 may)) fs all
  may_by (DropGuard guard) slot called about its fs all =
      all_by (may_row called) (may_do (DropGuard guard) (moment log))
      (λ f may. only_may guard f (alone guard slot about its.1) (left_may (has_registration slot p.there.registrations) f (as_it_is called _ f its.0 may))) fs all
  may_by _ slot called about its fs all = absurd about

  -- a slot that is flushed has a guard
  pub flush_inside : (event : Event K V) (slot : ℕ) (called : SlotCall) → IsAbout event p slot → IsItsRow event p slot called → called ≡ call.Flush → IsInside (stands.scene.world.uses slot)
  flush_inside (Flush guard) slot called about its is =
      inside_by _ (stands.scene.world.uses slot) (stands.shown.is_at.uses slot) (stands.slots slot ∙ is_inside slot p.there (on_its_slot guard p.there.guards slot about))
  flush_inside (Register registration) slot called about its is = absurd (cc (its, is))
  flush_inside (Own guard) slot called about its is = absurd (cc (its, is))
  flush_inside (Unregister registration) slot called about its is = absurd (let one = its.0 in cc (one, is))
  flush_inside (Enter guard registration) slot called about its is = absurd (let one = its.0 in cc (one, is))
  flush_inside (Refresh guard) slot called about its is = absurd (let one = its.0 in cc (one, is))
  flush_inside (DropGuard guard) slot called about its is = absurd (left_is_none (has_registration slot p.there.registrations) called its.0 is)
  flush_inside _ slot called about its is = absurd about
