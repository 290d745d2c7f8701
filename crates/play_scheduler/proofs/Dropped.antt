-- A guard that no call uses: who is there without it, and that nobody else is in its slot where it is the only one there.
use Rattle.std.specs.Prelude.{◌==◌, ◌⊎◌, ◌≢◌, cond, is_some, Option, Some, None, if◌then◌else◌}
use Rattle.std.specs.List.{AllByRecursion, list_any}
use Rattle.std.proofs.Common.{◌≡◌, ℕ, ◌+◌, ◌<◌, Bool, true, false, List, refl, sym, ap, subst, ◌∙◌, inl, inr, arith}
use Rattle.std.proofs.lemmas.Bool.{cases_eq, eq-eqb, ne_eqb}
use Rattle.run_schedules.specs.declared.holders.NamedGuard.{NamedGuard}
use Rattle.run_schedules.specs.Runs.Present.{Present, HaveNames, drops, guard_of, guards_on, living_slot}
use Rattle.run_schedules.specs.Runs.Same.{is_same}
use Rattle.run_schedules.proofs.Runs.Laws.{drops_counts}
use Rattle.run_schedules.specs.Schedules.Moment.{Moment}
use Rattle.run_schedules.specs.Schedules.Terms.{Terms}
use Rattle.run_shows.specs.declared.row.SlotUse.TheVariants as used
use Rattle.run_shows.specs.declared.callers.TheConstants.{SLOTS}
use Rattle.run_logged.specs.Rows.Rows.{used_as}
use Rattle.play_scheduler.specs.Played.{IsUnderWay, RefinesFor}
use Rattle.run_executor.specs.Named.Seen.{free_slot}
use Rattle.play_scheduler.specs.declared.scheduler.Scheduler.{Scheduler}
use Rattle.run_logged.proofs.Rows.Facts.{slot_fits}
use Rattle.run_logged.proofs.Given.Lists.{all_but}
use Rattle.play_scheduler.proofs.RanOn.{nobody_by}
use Rattle.play_scheduler.proofs.Seats.{none_uses}
use Rattle.run_logged.proofs.Rows.There.{is_inside, on_its_slot, others_left, used_alike}
use Rattle.run_executor.specs.Executing.IsThere.{use_at}
use Rattle.run_executor.specs.Executing.OnSlots.{NobodyIn}

-- the guard that lives on a slot
pub lives_on : (o : Option NamedGuard) (slot : ℕ) → living_slot o ≡ Some slot → (g : NamedGuard) × (o ≡ Some g) × (g.slot ≡ slot)
lives_on None slot e = absurd (cc e)
lives_on (Some g) slot e = (g, refl, by g.forgotten e)
  where
    by : (f : Bool) → (if f then None else Some g.slot) ≡ Some slot → g.slot ≡ slot
    by true h = absurd (cc h)
    by false h = cc h

module _ (guard : List ℕ) (slot : ℕ) (there : Present) (names : HaveNames there) (lives : living_slot (guard_of guard there.guards) ≡ Some slot) where
  abbrev pub less : Present
  less = drops guard there

  its : (g : NamedGuard) × (guard_of guard there.guards ≡ Some g) × (g.slot ≡ slot)
  its = lives_on (guard_of guard there.guards) slot lives

  counted : (t : ℕ) → guards_on t less.guards + cond (its.0.slot == t) 1 0 ≡ guards_on t there.guards
  counted t = (drops_counts guard there.guards).1 its.0 its.1 (names.guards guard) t

  one_less : guards_on slot less.guards + 1 ≡ guards_on slot there.guards
  one_less = let c = counted slot in let q = ap {B = ℕ} (λ (b : Bool). cond b 1 0) (eq-eqb its.0.slot slot its.2) in omega (arith, c, q)

  on_others : (t : ℕ) → t ≢ slot → guards_on t less.guards ≡ guards_on t there.guards
  on_others t ne = let c = counted t in let q = ap {B = ℕ} (λ (b : Bool). cond b 1 0) (ne_eqb its.0.slot t (λ e. ne (sym e ∙ its.2))) in omega (arith, c, q)

  -- it is the only one
  pub none_left : guards_on slot there.guards ≡ 1 → guards_on slot less.guards ≡ 0
  none_left one = let c = one_less in omega (arith, c, one)

  -- other slots are used as before,
  pub others_used : (t : ℕ) → t ≢ slot → used_as t less ≡ used_as t there
  others_used t ne = used_alike t there less (on_others t ne) refl

  -- and so is its own where others are on it
  pub used_still : guards_on slot there.guards ≢ 1 → (t : ℕ) → used_as t less ≡ used_as t there
  used_still many t = by (cases_eq t slot)
    where
      some_left : guards_on slot less.guards ≢ 0
      some_left z = many (let c = one_less in omega (arith, c, z))

      by : (t ≡ slot) ⊎ (t ≢ slot) → used_as t less ≡ used_as t there
      by (inl e) = subst (λ (x : ℕ). used_as x less ≡ used_as x there) (sym e) (is_inside slot less some_left ∙ sym (is_inside slot there (on_its_slot guard there.guards slot lives)))
      by (inr ne) = others_used t ne

module _ {K V S : Type 0} (same : K → K → Bool) (hash : K → ℕ) (terms : Terms) (m : Moment K V) (p : Scheduler K V S) (stands : RefinesFor same hash terms m p) (guard : List ℕ) (slot : ℕ) where
  -- the slot of a guard that lives is entered,
  module _ (lives : living_slot (guard_of guard p.there.guards) ≡ Some slot) where
    pub inside : use_at p.logged.executor slot ≡ used.Inside
    inside = stands.slots slot ∙ is_inside slot p.there (on_its_slot guard p.there.guards slot lives)

    pub fits : slot < SLOTS
    fits = slot_fits same hash p.logged.executor stands.scene stands.shown.is_at slot (λ e. let h = sym inside ∙ e in cc h)

  -- and so it is of one that no call uses
  module _ (free : free_slot guard p.there p.calls ≡ Some slot) where
    none : list_any (λ d. is_same d.guard guard) p.calls ≡ false
    none = none_uses same hash terms m p stands guard (ap is_some free)

    pub free_lives : living_slot (guard_of guard p.there.guards) ≡ Some slot
    free_lives = by (list_any (λ d. is_same d.guard guard) p.calls) free
      where
        by : (b : Bool) → (if b then None else living_slot (guard_of guard p.there.guards)) ≡ Some slot → living_slot (guard_of guard p.there.guards) ≡ Some slot
        by true e = absurd (cc e)
        by false e = e

    -- each call has its guard still without it,
    pub each_left : AllByRecursion (IsUnderWay stands.name stands.scene (drops guard p.there)) p.calls
    each_left =
        all_but (IsUnderWay stands.name stands.scene p.there) (IsUnderWay stands.name stands.scene (drops guard p.there)) (λ d. is_same d.guard guard)
        (λ d other way. (way.0, way.1, way.2, ap living_slot (others_left guard d.guard p.there.guards other) ∙ way.3, way.4)) p.calls none stands.calls.each

    -- and nobody is in its slot where it is the only one there
    pub nobody_else : guards_on slot p.there.guards ≡ 1 → NobodyIn p.logged.executor slot
    nobody_else one = nobody_by same hash terms m p stands (drops guard p.there) each_left slot (none_left guard slot p.there stands.names free_lives one)
