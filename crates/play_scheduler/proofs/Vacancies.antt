-- While calls alone are under way no row works on a vacant slot; and the first vacant slot is the least that is not in use.
use Rattle.std.specs.Prelude.{◌==◌, Option, Some, None}
use Rattle.std.proofs.Common.{◌≡◌, ℕ, ◌+◌, ◌≤◌, ◌<◌, Bool, true, refl, sym, ap, subst, ◌∙◌, arith}
use Rattle.seize.specs.declared.states.TheConstants.{LAST_SLOT}
use Rattle.seize.specs.Sequence.{new_slot}
use Rattle.seize.specs.World.{Use, Vacant}
use Rattle.map_straight.proofs.Given.SeizeRuleRows.Known.{works_on}
use Rattle.run_shows.proofs.Given.SeizeSetsSlots.Registers.{NoneOnVacant}
use Rattle.run_shows.proofs.Given.SeizeSetsSlots.Vacant.{first_vacant_says, first_vacant_says_none}
use Rattle.run_shows.specs.Given.FinishesMachines.{machine_of}
use Rattle.run_schedules.specs.Runs.Present.{guards_on, has_registration}
use Rattle.run_schedules.specs.Schedules.InUse.{used_slots}
use Rattle.run_schedules.specs.Schedules.Lists.{is_among, least_free}
use Rattle.run_schedules.specs.Schedules.Moment.{Moment}
use Rattle.run_schedules.specs.Schedules.Terms.{Terms}
use Rattle.run_executor.specs.declared.executor.Executor.{Executor}
use Rattle.run_shows.specs.declared.row.SlotUse.{SlotUse}
use Rattle.run_shows.specs.declared.row.SlotUse.TheVariants as used
use Rattle.run_executor.specs.declared.worker.Work.{Work}
use Rattle.run_executor.specs.declared.worker.Work.TheVariants as work
use Rattle.run_logged.proofs.Rows.InUse.{among_used, unused_by, used_by}
use Rattle.run_logged.proofs.Rows.Light.{has_call, light, within_call}
use Rattle.run_logged.specs.Rows.Rows.{used_as}
use Rattle.play_scheduler.specs.Played.{RefinesFor}
use Rattle.play_scheduler.specs.declared.scheduler.Scheduler.{Scheduler}
use Rattle.run_logged.proofs.Rows.Facts.{row_rests, used_once}
use Rattle.run_logged.proofs.Rows.Least.{least_is, least_past}
use Rattle.run_executor.specs.Executing.IsThere.{IsUsedAs, call_in, use_at, work_of}
use Rattle.run_shows.specs.Scenes.Scene.{Scene}
use Rattle.seize_words.proofs.General.{none_mapped as none_of}

module _ {K V S : Type 0} (same : K → K → Bool) (hash : K → ℕ) (terms : Terms) (m : Moment K V) (p : Scheduler K V S) (stands : RefinesFor same hash terms m p) where
  abbrev e : Executor K V S
  e = p.logged.executor

  abbrev s : Scene K V
  s = stands.scene

  -- nothing is under way but calls, so no other row works on a vacant slot
  pub none_on_vacant : (i : ℕ) → NoneOnVacant i s.world
  none_on_vacant i j t other at_it vacant = by (work_of e j) refl
    where
      idle : work_of e j ≡ None → ⊥
      idle none = let rest : works_on (s.world.row j) ≡ 0 = ap works_on (row_rests same hash e s stands.shown.is_at j none) in omega (arith, rest, at_it)

      quiet : (o : Option (Work K V)) → work_of e j ≡ o → ((n : ℕ) → call_in o n ≡ None) → ⊥
      quiet o is none = idle (stands.rests j (λ n. none_of machine_of (s.calls n j) (stands.shown.is_at.calls n j ∙ ap (λ (x : Option (Work K V)). call_in x n) is ∙ none n)))

      by : (o : Option (Work K V)) → work_of e j ≡ o → ⊥
      by None is = idle is
      by (Some (work.Call map machine)) is =
          let call = has_call same hash e s stands.shown.is_at map j machine is in
          light same hash e s stands.shown.is_at j t at_it vacant (within_call same hash e s stands.shown.is_at map j call.0 call.1)
      by (Some (work.Making map opening)) is = quiet (Some (work.Making map opening)) is (λ n. refl)
      by (Some (work.Ending ending)) is = quiet (Some (work.Ending ending)) is (λ n. refl)
      by (Some (work.OnSlot row)) is = quiet (Some (work.OnSlot row)) is (λ n. refl)

module _ {K V S : Type 0} (same : K → K → Bool) (hash : K → ℕ) (terms : Terms) (m : Moment K V) (p : Scheduler K V S) (stands : RefinesFor same hash terms m p) where
  abbrev uses : ℕ → Use
  uses = stands.scene.world.uses

  vacant_as : (t : ℕ) → uses t ≡ Vacant → used_as t p.there ≡ used.Vacant
  vacant_as t is = sym (stands.slots t) ∙ used_once (use_at p.logged.executor t) used.Vacant (uses t) (stands.shown.is_at.uses t) is

  as_vacant : (t : ℕ) → used_as t p.there ≡ used.Vacant → uses t ≡ Vacant
  as_vacant t is = subst (λ (v : SlotUse). IsUsedAs v (uses t)) (stands.slots t ∙ is) (stands.shown.is_at.uses t)

  in_use : (t : ℕ) → (uses t ≡ Vacant → ⊥) → is_among t (used_slots p.there) ≡ true
  in_use t taken = among_used t p.there ∙ used_by (guards_on t p.there.guards == 0) (has_registration t p.there.registrations) (λ is. taken (as_vacant t is))

  pub record IsFirst (slot : ℕ) : Type 0 where
    pub vacant : used_as slot p.there ≡ used.Vacant
    pub least : least_free (used_slots p.there) ≡ slot
    pub below : slot < LAST_SLOT + 1

  pub first_is : (slot : ℕ) → new_slot uses ≡ Some slot → IsFirst slot
  first_is slot is =
      let first = first_vacant_says (LAST_SLOT + 1) 0 slot uses is in
      let vacant = vacant_as slot first.vacant in
      record {
        vacant = vacant;
        least = least_is (used_slots p.there) slot (λ t l. in_use t (first.none t (omega arith) l))
            (among_used slot p.there ∙ unused_by (guards_on slot p.there.guards == 0) (has_registration slot p.there.registrations) vacant);
        below = let l = first.below in omega (arith, l);
      }

  pub none_left : new_slot uses ≡ None → LAST_SLOT + 1 ≤ least_free (used_slots p.there)
  none_left is = least_past (used_slots p.there) (LAST_SLOT + 1) (λ t l. in_use t (first_vacant_says_none (LAST_SLOT + 1) 0 uses is t (omega arith) (omega (arith, l))))
