-- A point of the work on slots, and from where slots are given up: what is so of whatever comes behind it is so there.
use Rattle.std.specs.Prelude.{Option, nat_lt, ◌==◌, if◌then◌else◌}
use Rattle.std.proofs.Common.{◌≡◌, ℕ, ◌+◌, ◌-◌, ◌<◌, ◌≤◌, ◌^◌, Bool, true, false, ◌⊎◌, inl, inr, refl, arith, ap, sym, subst}
use Rattle.seize_words.specs.OneMemory.Mem.{Mem, Took, value_at}
use Rattle.seize_words.specs.OneMemory.Plan.{Steps}
use Rattle.seize.specs.declared.advance.Advance.{Advance}
use Rattle.seize.specs.declared.rows.enter.Unregister.{Unregister}
use Rattle.seize.specs.declared.rows.settle.Settled.{Settled}
use Rattle.seize.specs.declared.rows.settle.Settled.TheVariants as settled
use Rattle.seize.specs.declared.rows.reclaim_all.ReclaimAll.{ReclaimAll}
use Rattle.seize.specs.declared.rows.reclaim_all.Reclaiming.{Reclaiming}
use Rattle.seize.specs.declared.rows.reclaim_all.Reclaiming.TheVariants as at
use Rattle.seize.specs.Enter.{unregister_plan}
use Rattle.seize.specs.ReclaimAll.{standing, first_root, next_free, reclaim_all_plan, plan_at}
use Rattle.seize.specs.World.{World}
use Rattle.seize_model.proofs.Given.SeizeRuleRows.Leaving.{steps_back}
use Rattle.seize_acts.specs.Reclaims.AllReclaimed.{weight_at}
use Rattle.seize_acts.proofs.Reclaims.AllReclaimed.Weights.{weight, at_next_free}
use Rattle.seize_acts.specs.Quiet.Slots.{Came, Stage, Led}
use Rattle.seize_acts.specs.Quiet.Promises.{IsOnSlots}
use Rattle.seize_acts.proofs.Quiet.Slots.Came.{came_on}
use Rattle.seize_acts.proofs.Quiet.Promised.{slots_lead}
use Rattle.seize_acts.proofs.Quiet.Ends.Measures.{by_two}

-- slots are given up
abbrev pub IsFreeing : ReclaimAll → Reclaiming → Type 0
IsFreeing c (at.Frees s) = s < c.slots
IsFreeing c p = ⊥

pub freeing_on : (c : ReclaimAll) (p : Reclaiming) → IsFreeing c p → IsOnSlots p
freeing_on c (at.Frees s) lt = tt
freeing_on c (at.Heads s) lt = absurd lt
freeing_on c (at.Retakes s) lt = absurd lt
freeing_on c (at.Leaves s l) lt = absurd lt
freeing_on c (at.Batches s) lt = absurd lt
freeing_on c (at.Flushes s l) lt = absurd lt
freeing_on c (at.Roots root) lt = absurd lt
freeing_on c (at.Nexts root block) lt = absurd lt
freeing_on c (at.Takes root block next) lt = absurd lt
freeing_on c (at.Empties root) lt = absurd lt
freeing_on c (at.Unuses root) lt = absurd lt
freeing_on c at.Over lt = absurd lt

-- it has done with slots
abbrev pub IsPast : Reclaiming → Type 0
IsPast p = IsOnSlots p → ⊥

first_past : (c : ReclaimAll) → IsPast (first_root c).stands
first_past c = by (c.roots == 0)
  where
    by : (b : Bool) → IsPast (if b then standing c at.Over else standing c (at.Roots 0)).stands
    by true on = on
    by false on = on

freed_on : (c : ReclaimAll) (s : ℕ) → s < c.slots → IsFreeing (next_free c s) (next_free c s).stands ⊎ IsPast (next_free c s).stands
freed_on c s lt = by (nat_lt s (c.slots - 1)) refl
  where
    by : (b : Bool) → nat_lt s (c.slots - 1) ≡ b
        → IsFreeing (if b then standing c (at.Frees (s + 1)) else first_root c) (if b then standing c (at.Frees (s + 1)) else first_root c).stands
        ⊎ IsPast (if b then standing c (at.Frees (s + 1)) else first_root c).stands
    by true e = inl (let l : s < c.slots - 1 = grind (arith, e) in omega (arith, l))
    by false e = inr (first_past c)

module _ {T : Type 0} (defers : T → Option ℕ) (left_over : T → Bool) where
  free_falls : (c : ReclaimAll) (p : Reclaiming) (m m2 : Mem T) (c2 : ReclaimAll) (told : Settled T) → IsFreeing c p → Steps Took value_at m (plan_at defers left_over c p) m2 (c2, told)
      → (weight c2 < weight_at c p) × (IsFreeing c2 c2.stands ⊎ IsPast c2.stands)
  free_falls c (at.Frees s) m m2 c2 told lt st =
      let row : Unregister = record { slot = s } in
      let goes : Unregister × Advance Unit → ReclaimAll × Settled T = λ k. (next_free c s, settled.Goes) in
      let back = steps_back goes m m2 (unregister_plan row) (c2, told) st in
      subst (λ (d : ReclaimAll). (weight d < weight_at c (at.Frees s)) × (IsFreeing d d.stands ⊎ IsPast d.stands)) (sym (ap (λ (p : ReclaimAll × Settled T). p.0) back.2))
      ((at_next_free c s lt).0, freed_on c s lt)
  free_falls c (at.Heads s) m m2 c2 told lt st = absurd lt
  free_falls c (at.Retakes s) m m2 c2 told lt st = absurd lt
  free_falls c (at.Leaves s l) m m2 c2 told lt st = absurd lt
  free_falls c (at.Batches s) m m2 c2 told lt st = absurd lt
  free_falls c (at.Flushes s l) m m2 c2 told lt st = absurd lt
  free_falls c (at.Roots root) m m2 c2 told lt st = absurd lt
  free_falls c (at.Nexts root block) m m2 c2 told lt st = absurd lt
  free_falls c (at.Takes root block next) m m2 c2 told lt st = absurd lt
  free_falls c (at.Empties root) m m2 c2 told lt st = absurd lt
  free_falls c (at.Unuses root) m m2 c2 told lt st = absurd lt
  free_falls c at.Over m m2 c2 told lt st = absurd lt

  module _ (size roots i : ℕ) (word : size < 2 ^ 64) where
    -- reclaiming all is under way
    pub record Point : Type 0 where
      pub w : World T
      pub c : ReclaimAll
      pub came : Came defers size w
      pub stage : Stage defers size i roots c w

    -- a step may be taken from a point, and has led on
    abbrev pub StepsFrom : Point → Mem T → ReclaimAll → Settled T → Type 0
    StepsFrom x m2 c2 told = Steps Took value_at x.w.memory (reclaim_all_plan defers left_over x.c) m2 (c2, told)

    abbrev pub LedFrom : Point → Mem T → ReclaimAll → Settled T → Type 0
    LedFrom x m2 c2 told = Led defers size i roots x.w x.c.stands m2 c2 told

    abbrev pub next_point : (x : Point) (m2 : Mem T) (c2 : ReclaimAll) (told : Settled T) → LedFrom x m2 c2 told → Point
    next_point x m2 c2 told led = record { w = led.w2; c = c2; came = came_on defers size x.w led.w2 led.events x.came led.runs; stage = led.stage }

    pub leads : (x : Point) → IsOnSlots x.c.stands → (m2 : Mem T) (c2 : ReclaimAll) (told : Settled T) → StepsFrom x m2 c2 told → LedFrom x m2 c2 told
    leads x on m2 c2 told st = (slots_lead defers left_over size roots i x.c x.w word x.came x.stage on).1 m2 c2 told st

    -- what is so where slots are done with, and where it is so wherever a step leads
    pub record Backward (Q : World T → ReclaimAll → Type 0) : Type 0 where
      pub past : (x : Point) → IsPast x.c.stands → Q x.w x.c
      pub step : (x : Point) → IsOnSlots x.c.stands
          → ((m2 : Mem T) (c2 : ReclaimAll) (told : Settled T) → StepsFrom x m2 c2 told → (led : LedFrom x m2 c2 told) × Q led.w2 c2) → Q x.w x.c

    module _ (Q : World T → ReclaimAll → Type 0) (back : Backward Q) where
      abbrev AtFrees : Type 0
      AtFrees = (x : Point) × IsFreeing x.c x.c.stands

      abbrev left_at : AtFrees → ℕ
      left_at x = weight x.0.c

      frees_step : (x : AtFrees) → ((y : AtFrees) → ((left_at y < left_at x) ⊎ ((left_at y ≤ left_at x) × (0 < 0))) → Q y.0.w y.0.c) → Q x.0.w x.0.c
      frees_step (x, on) below =
          let is = freeing_on x.c x.c.stands on in
          back.step x is (λ m2 c2 told st.
          let led = leads x is m2 c2 told st in
          let y = next_point x m2 c2 told led in
          let f = free_falls x.c x.c.stands x.w.memory m2 c2 told on st in (
            led,
            elim f.1 as (λ _. Q led.w2 c2) [
              | inl still ↦ below (y, still) (inl f.0)
              | inr past ↦ back.past y past
            ],
          ))

      pub frees_end : (x : Point) → IsFreeing x.c x.c.stands → Q x.w x.c
      frees_end x on = by_two left_at (λ (y : AtFrees). 0) (λ (y : AtFrees). Q y.0.w y.0.c) frees_step (x, on)
