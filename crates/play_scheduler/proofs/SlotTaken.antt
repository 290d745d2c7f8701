-- A registering that has run has taken the least slot that is not in use, or is refused as it must be; how slots are used then.
use Rattle.std.specs.Prelude.{◌≢◌, ◌||◌, nat_lt, slice_index_or, slice_set, Some, None, MatchBool, if◌then◌else◌}
use Rattle.std.proofs.Common.{◌≡◌, ℕ, ◌<◌, Bool, true, false, List, [], ◌∷◌, ◌++◌, length, ◌⊎◌, inl, inr, refl, sym, ap, subst, ◌∙◌, arith}
use Rattle.std.proofs.lemmas.Bool.{cases_eq, le-ltb, lt-ltb}
use Rattle.std.proofs.lemmas.List.{get_or-set_other, get_or-set_same}
use Rattle.seize_words.specs.declared.fault.Fault.{Fault}
use Rattle.seize_words.specs.declared.fault.Fault.TheVariants.{Memory, SlotsUsedUp}
use Rattle.seize.specs.declared.rows.register.Register.{Register}
use Rattle.seize.specs.declared.rows.register.Registering.TheVariants as at
use Rattle.run_shows.proofs.Given.SeizeSetsSlots.Registers.{NoneOnVacant, WhyRefused}
use Rattle.seize.specs.Sequence.{new_slot}
use Rattle.papaya_raw.specs.Given.TablesDeclared.node.Node.{Node}
use Rattle.run_logged.specs.Given.EffectsDeclared.changed.Changed.{Changed}
use Rattle.run_logged.specs.Given.EffectsDeclared.changed.Changed.TheVariants as changed
use Rattle.run_schedules.specs.Runs.Present.{Present}
use Rattle.run_schedules.specs.declared.effect.Effect.{Effect}
use Rattle.run_schedules.specs.declared.effect.Effect.TheVariants.{Asked}
use Rattle.run_schedules.specs.declared.effect.Growth.{Growth}
use Rattle.run_schedules.specs.declared.effect.Growth.TheVariants.{ABucket}
use Rattle.run_schedules.specs.declared.outcome.Outcome.{Outcome}
use Rattle.run_schedules.specs.declared.outcome.Outcome.TheVariants.{Refused, Slot}
use Rattle.run_schedules.specs.Schedules.InTurn.{GetsSlot, IsShort, has_grown, is_growth, most_slots}
use Rattle.run_schedules.specs.Schedules.InUse.{used_slots}
use Rattle.run_schedules.specs.Schedules.Lists.{least_free}
use Rattle.run_schedules.specs.Schedules.Moment.{Moment}
use Rattle.run_schedules.specs.Schedules.Terms.{Terms}
use Rattle.run_logged.specs.Given.EffectsEffects.{effects_of}
use Rattle.run_logged.specs.Given.EffectsDeclared.acting.Acting.TheVariants as acts
use Rattle.run_shows.specs.declared.row.RowTold.{RowTold}
use Rattle.run_shows.specs.declared.row.RowTold.TheVariants as told
use Rattle.run_shows.specs.declared.row.SlotCall.TheVariants as call
use Rattle.run_shows.specs.declared.row.SlotRow.TheVariants as rows
use Rattle.run_shows.specs.declared.row.SlotUse.{SlotUse}
use Rattle.run_shows.specs.declared.row.SlotUse.TheVariants as used
use Rattle.run_shows.specs.declared.callers.TheConstants.{SLOTS}
use Rattle.run_logged.specs.Given.ShedsEnded.{has_ended, uses_ended}
use Rattle.run_logged.specs.declared.logged.Logged.{Logged}
use Rattle.play_scheduler.specs.Played.{RefinesFor}
use Rattle.run_logged.specs.Rows.Rows.{RowRan, used_as}
use Rattle.play_scheduler.specs.declared.scheduler.Scheduler.{Scheduler}
use Rattle.run_logged.proofs.Rows.Ran.{Led}
use Rattle.run_logged.proofs.Rows.Taking.{Ends, taken}
use Rattle.play_scheduler.proofs.Vacancies.{IsFirst, first_is, none_left, none_on_vacant}
use Rattle.run_executor.specs.Executing.IsThere.{held_by, use_at, work_of}

-- what ends with a growth that was asked for has one
grown_last : (first : List Effect) (growth : Growth) → has_grown (first ++ Asked growth ∷ []) ≡ true
grown_last [] growth = refl
grown_last (f ∷ first) growth = ap (λ (b : Bool). is_growth f || b) (grown_last first growth) ∙ or_true (is_growth f)
  where
    or_true : (b : Bool) → (b || true) ≡ true
    or_true true = refl
    or_true false = refl

-- how a slot is used that was taken
abbrev pub use_with : Bool → SlotUse
use_with enters = if enters then used.Inside else used.Outside

-- what must come of it, by the least slot
module _ {V : Type 0} (there : Present) (did : List Effect) (outcome : Outcome V) where
  abbrev least : ℕ
  least = least_free (used_slots there)

  gets_by : (b : Bool) → nat_lt least most_slots ≡ b → MatchBool b ((outcome ≡ Slot least) ⊎ IsShort did outcome) (outcome ≡ Refused SlotsUsedUp) → GetsSlot there did outcome
  gets_by b is so = subst (λ (q : Bool). MatchBool q ((outcome ≡ Slot least) ⊎ IsShort did outcome) (outcome ≡ Refused SlotsUsedUp)) (sym is) so

module _ {K V S : Type 0} (same : K → K → Bool) (hash : K → ℕ) (terms : Terms) (m : Moment K V) (p : Scheduler K V S) (stands : RefinesFor same hash terms m p)
    (enters : Bool) (said : RowTold (Node K V)) (before after : List Effect) (new : Logged K V S) (ran : RowRan 0 (call.Register enters) said before after p.logged new) where
  apart : NoneOnVacant ran.caller stands.scene.world
  apart = none_on_vacant same hash terms m p stands ran.caller

  abbrev Ended : RowTold (Node K V) → Type 0
  Ended x = Ends same (λ map. hash) ran.caller stands.scene p.logged.executor.batch_size enters apart (held_by new.executor) x

  all : Led same hash ran.caller stands.scene new.executor × Ended said × (work_of new.executor ran.caller ≡ None)
  all = taken same hash stands.name m stands.scene p.logged new stands.shown enters said before after ran apart

  pub led_taking : Led same hash ran.caller stands.scene new.executor
  led_taking = all.0

  pub over_taking : work_of new.executor ran.caller ≡ None
  over_taking = all.2

  -- it has told a slot, or a fault
  pub told_one : ((slot : ℕ) → said ≡ told.Registered slot → ⊥) → ((fault : Fault) → said ≡ told.Refused fault → ⊥) → ⊥
  told_one no_slot no_fault = by all.1
    where
      by : Ended said → ⊥
      by (inl (fault, is, why, asked)) = no_fault fault is
      by (inr (slot, is, first)) = no_slot slot is

  -- and which fault it may be
  pub which : ((slot : ℕ) × (said ≡ told.Registered slot)) ⊎ ((fault : Fault) × (said ≡ told.Refused fault) × ((fault ≡ Memory) ⊎ (fault ≡ SlotsUsedUp)))
  which = by all.1
    where
      by : Ended said → ((slot : ℕ) × (said ≡ told.Registered slot)) ⊎ ((fault : Fault) × (said ≡ told.Refused fault) × ((fault ≡ Memory) ⊎ (fault ≡ SlotsUsedUp)))
      by (inl (fault, is, inl (memory, room), asked)) = inr (fault, is, inl memory)
      by (inl (fault, is, inr (used_up, none), asked)) = inr (fault, is, inr used_up)
      by (inr (slot, is, first)) = inl (slot, is)

  abbrev begun : Register
  begun = record { slot = 0; enters = enters; stands = at.Begin }

  ends_as : (x : RowTold (Node K V)) → said ≡ x → has_ended x ≡ true → new.executor.slots.items ≡ uses_ended (rows.Registers begun) x p.logged.executor.slots.items
  ends_as x is ended =
      ran.used (ap (λ (y : RowTold (Node K V)). has_ended y) is ∙ ended)
      ∙ ap (λ (y : RowTold (Node K V)). uses_ended (rows.Registers begun) y p.logged.executor.slots.items) is

  -- the slot that it has told is the least one
  module _ (slot : ℕ) (is : said ≡ told.Registered slot) where
    pub first : IsFirst same hash terms m p stands slot
    first = by all.1
      where
        by : Ended said → IsFirst same hash terms m p stands slot
        by (inl (fault, refused, why, asked)) = absurd (cc (is, refused))
        by (inr (other, found, new_is)) =
            let alike : other ≡ slot = let both : ◌≡◌ {A = RowTold (Node K V)} (told.Registered other) (told.Registered slot) = sym found ∙ is in cc both in
            subst (IsFirst same hash terms m p stands) alike (first_is same hash terms m p stands other new_is)

    pub gets_slot : (did : List Effect) → GetsSlot {V = V} m.there did (Slot slot)
    gets_slot did =
        subst (λ (x : Present). GetsSlot {V = V} x did (Slot slot)) (sym stands.there)
        (gets_by p.there did (Slot slot) true (ap (λ (n : ℕ). nat_lt n most_slots) first.least ∙ lt-ltb slot most_slots (let l = first.below in omega (arith, l)))
        (inl (ap Slot (sym first.least))))

    pub below_slots : slot < SLOTS
    below_slots = let l = first.below in omega (arith, l)

    -- it was the first vacant one,
    pub first_vacant : new_slot stands.scene.world.uses ≡ Some slot
    first_vacant = by all.1
      where
        by : Ended said → new_slot stands.scene.world.uses ≡ Some slot
        by (inl (fault, refused, why, asked)) = absurd (cc (is, refused))
        by (inr (other, found, new_is)) =
            let alike : other ≡ slot = let both : ◌≡◌ {A = RowTold (Node K V)} (told.Registered other) (told.Registered slot) = sym found ∙ is in cc both in
            subst (λ (x : ℕ). new_slot stands.scene.world.uses ≡ Some x) alike new_is

    -- and is used so from then on
    pub used_so : use_at new.executor slot ≡ use_with enters
    used_so =
        ap (λ (xs : List SlotUse). slice_index_or xs slot used.Vacant) (ends_as (told.Registered slot) is refl)
        ∙ get_or-set_same p.logged.executor.slots.items slot (use_with enters) used.Vacant (let n = stands.shown.is_at.slots in let l = below_slots in omega (arith, n, l))

    -- it is used by this registration or guard, and the others as before
    pub use_then : (there2 : Present) → used_as slot there2 ≡ use_with enters → ((t : ℕ) → t ≢ slot → used_as t there2 ≡ used_as t p.there) → (t : ℕ) → use_at new.executor t ≡ used_as t there2
    use_then there2 here others t = by (cases_eq t slot)
      where
        slots_now : new.executor.slots.items ≡ slice_set p.logged.executor.slots.items slot (use_with enters)
        slots_now = ends_as (told.Registered slot) is refl

        long : slot < length p.logged.executor.slots.items
        long = let n = stands.shown.is_at.slots in let l = below_slots in omega (arith, n, l)

        by : (t ≡ slot) ⊎ (t ≢ slot) → use_at new.executor t ≡ used_as t there2
        by (inl e) =
            subst (λ (x : ℕ). use_at new.executor x ≡ used_as x there2) (sym e)
            (ap (λ (xs : List SlotUse). slice_index_or xs slot used.Vacant) slots_now
            ∙ get_or-set_same p.logged.executor.slots.items slot (use_with enters) used.Vacant long ∙ sym here)
        by (inr ne) =
            ap (λ (xs : List SlotUse). slice_index_or xs t used.Vacant) slots_now
            ∙ get_or-set_other p.logged.executor.slots.items slot t (use_with enters) used.Vacant ne ∙ stands.slots t ∙ sym (others t ne)

  -- and the fault is one of a registering
  module _ (fault : Fault) (is : said ≡ told.Refused fault) where
    pub use_still : (t : ℕ) → use_at new.executor t ≡ used_as t p.there
    use_still t = ap (λ (xs : List SlotUse). slice_index_or xs t used.Vacant) (ends_as (told.Refused fault) is refl) ∙ stands.slots t

    pub gets_none : before ≡ [] → GetsSlot {V = V} m.there ran.did (Refused fault)
    gets_none nothing = subst (λ (x : Present). GetsSlot {V = V} x ran.did (Refused fault)) (sym stands.there) (by all.1)
      where
        grown : (bucket : ℕ) → new.executor.memory.changed ≡ changed.Roomed bucket false → has_grown ran.did ≡ true
        grown bucket roomed =
            let tells = ran.tells in
            let did : ran.did ≡ after = sym (ran.follows ∙ ap (λ (xs : List Effect). xs ++ ran.did) nothing) in
            ap has_grown (did ∙ tells.2 ∙ ap (λ (x : Changed). tells.1 ++ effects_of acts.Row tells.0 x) roomed) ∙ grown_last tells.1 ABucket

        refused_as : (other : Fault) → other ≡ fault → WhyRefused new.executor.memory.memory stands.scene.world.uses other → (other ≡ Memory → (bucket : ℕ) × (new.executor.memory.changed ≡ changed.Roomed bucket false))
            → GetsSlot {V = V} p.there ran.did (Refused fault)
        refused_as other alike (inl (memory, room)) asked =
            let first_one = first_is same hash terms m p stands room.0 room.1 in
            let a = asked memory in
            gets_by p.there ran.did (Refused fault) true
            (ap (λ (n : ℕ). nat_lt n most_slots) first_one.least ∙ lt-ltb room.0 most_slots (let l = first_one.below in omega (arith, l)))
            (inr (ap Refused (sym alike ∙ memory), grown a.0 a.1))
        refused_as other alike (inr (used_up, none)) asked =
            gets_by p.there ran.did (Refused fault) false (le-ltb (least_free (used_slots p.there)) most_slots (let l = none_left same hash terms m p stands none in omega (arith, l)))
            (ap Refused (sym alike ∙ used_up))

        by : Ended said → GetsSlot {V = V} p.there ran.did (Refused fault)
        by (inl (other, refused, why, asked)) =
            refused_as other (let both : ◌≡◌ {A = RowTold (Node K V)} (told.Refused other) (told.Refused fault) = sym refused ∙ is in cc both) why asked
        by (inr (slot, found, new_is)) = absurd (cc (is, found))
