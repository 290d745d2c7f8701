-- A step of a counting adds the next shard: it goes on, with fewer to add, or ends with its count.
use Rattle.std.specs.Prelude.{◌<◌, ◌^◌, ◌%◌, ◌+◌, ◌-◌, nat_lt, if◌then◌else◌, Option}
use Rattle.std.proofs.Common.{◌≡◌, ℕ, Bool, true, false, refl, sym, subst, ap, ◌∙◌, arith}
use Rattle.std.proofs.lemmas.Bool.{ltb-true}
use Rattle.seize_words.specs.OneMemory.Op.{Op, Out, Load, Found, Stored, Exchanged, Made, Taken, Roomed}
use Rattle.seize_words.specs.OneMemory.Plan.{Now, Ends}
use Rattle.seize_words.specs.declared.at.At.TheVariants.{Word}
use Rattle.seize.specs.declared.advance.Advance.TheVariants as summing_told
use Rattle.map_tables.specs.Counts.{count_in}
use Rattle.map_tables.specs.declared.node.Node.{Node}
use Rattle.map_machines.specs.Sum.{added, plan_at, standing, sum_plan, summed}
use Rattle.map_machines.specs.declared.sum.Sum.{Sum}
use Rattle.map_machines.specs.declared.sum.Summing.{Summing}
use Rattle.map_machines.specs.declared.sum.Summing.TheVariants.{Adds, Over}
use Rattle.papaya_raw.specs.Machine.{counted as of_count}
use Rattle.papaya_raw.specs.declared.machines.machine.Machine.{Machine}
use Rattle.papaya_raw.specs.declared.machines.machine.Machine.TheVariants as kinds
use Rattle.papaya_raw.specs.declared.machines.progress.Answer.TheVariants as said
use Rattle.papaya_raw.specs.declared.machines.progress.Progress.{Progress}
use Rattle.papaya_raw.specs.declared.machines.progress.Progress.TheVariants as progress
use Rattle.seize.specs.declared.advance.Advance.{Advance as Told}
use Rattle.threads_rule.specs.Views.Looks.{shown_in}
use Rattle.threads_rule.specs.Views.Told.{call_after}
use Rattle.threads_rule.specs.declared.view.View.{View}
use Rattle.threads_kinds.specs.CallKinds.Answers.{IsAnswer}
use Rattle.threads_kinds.specs.CallKinds.Leads.{Leads}
use Rattle.threads_rule.specs.Errands.Calling.{MayStep, StepsTo, Works}
use Rattle.threads_rule.specs.Errands.Counting.{AddsStill, CountedSo, IsAdding, IsCounting, IsOfCounting, MayCount, left_at}
use Rattle.threads_rule.specs.Errands.Looking.{StaysThere}
use Rattle.threads_kinds.proofs.CallKinds.Leads.{leads_as}
use Rattle.threads_rule.proofs.Errands.Stepping.{works_so}

-- What a shard's step comes to: the next one is to be added, and fewer are left, or the count is known.
abbrev Comes : Sum → Sum × Told ℕ → Type 0
Comes c (d, summing_told.Goes) = AddsStill d.stands × (left_at d.stands d.setting.mask < left_at c.stands c.setting.mask)
Comes c (d, summing_told.Done count) = Unit {0}
Comes c (d, told) = ⊥

module _ {T : Type 0} (shown : ℕ → Option T) (c : Sum) (shard total : ℕ) (at : c.stands ≡ Adds shard total) (end : Sum × Told ℕ) where
  abbrev load : Op T
  load = Load (Word c.setting.counter shard)

  fewer : shard < c.setting.mask → c.setting.mask + 1 - (shard + 1) < left_at c.stands c.setting.mask
  fewer less = subst (λ (s : Summing). c.setting.mask + 1 - (shard + 1) < left_at s c.setting.mask) (sym at) (omega (arith, less))

  by : (word : ℕ) (b : Bool) → nat_lt shard c.setting.mask ≡ b
      → Ends shown (if b then Now (standing c (Adds (shard + 1) ((total + word) % 2 ^ 64)), summing_told.Goes) else Now (summed c (count_in ((total + word) % 2 ^ 64)))) end → Comes c end
  by word true is e = subst (Comes c) (sym e) (tt, fewer (ltb-true shard c.setting.mask is))
  by word false is e = subst (Comes c) (sym e) tt

  added_so : (out : Out T) → IsAnswer load out → Ends shown (added c shard total out) end → Comes c end
  added_so (Found word) fits e = by word (nat_lt shard c.setting.mask) refl e
  added_so Stored fits e = absurd fits
  added_so (Exchanged x) fits e = absurd fits
  added_so (Made x) fits e = absurd fits
  added_so (Taken x) fits e = absurd fits
  added_so (Roomed x) fits e = absurd fits

sum_says : {T : Type 0} (shown : ℕ → Option T) (c : Sum) (s : Summing) → c.stands ≡ s → AddsStill s → (end : Sum × Told ℕ) → Leads shown (plan_at {T = T} c s) end → Comes c end
sum_says shown c (Adds shard total) at is end e = added_so shown c shard total at end e.0 e.1 e.2
sum_says shown c (Over count) at is end e = absurd is

module _ {K V S : Type 0} (hasher : S) where
  -- its next step may be taken
  pub may_add : (machine : Machine K V K) (v : View K V S) → IsCounting hasher machine v → MayStep hasher machine v
  may_add (kinds.Count c) v is = record { at = is.at; steady = tt }
  may_add (kinds.Key c) v is = absurd is.adds
  may_add (kinds.Reserve c) v is = absurd is.adds
  may_add (kinds.Sweep c) v is = absurd is.adds

  -- one that begins has shards to add
  pub is_counting : (same : K → K → Bool) (hash : S → K → ℕ) (machine : Machine K V K) (v w : View K V S) → MayCount same hash hasher machine v → Works hasher machine w
      → IsCounting hasher machine w
  is_counting same hash machine v w may works = record { at = works; adds = subst IsAdding (sym may.counts) tt }

  module _ (same : K → K → Bool) (hash : S → K → ℕ) (v w : View K V S) where
    -- what its step has come to
    came : (c d : Sum) (told : Told ℕ) → Works hasher (kinds.Count c) v → StaysThere v w → w.work ≡ call_after (of_count {K = K} {V = V} {Q = K} (d, told)).0 (of_count {K = K} {V = V} {Q = K} (d, told)).1
        → Comes c (d, told) → CountedSo hasher (kinds.Count c) (of_count {K = K} {V = V} {Q = K} (d, told)).0 (of_count {K = K} {V = V} {Q = K} (d, told)).1 w
    came c d summing_told.Goes at stays work comes = (record { at = works_so hasher (kinds.Count c) (kinds.Count d) v w at stays work; adds = comes.0 }, comes.1)
    came c d (summing_told.Done count) at stays work comes = work
    came c d summing_told.Waits at stays work comes = absurd comes
    came c d (summing_told.Refused fault) at stays work comes = absurd comes

    pub counts_so : (machine next : Machine K V K) (told : Progress (Node K V)) → IsCounting hasher machine v → StepsTo same hash hasher machine next told v w
        → CountedSo hasher machine next told w
    counts_so (kinds.Count c) next told is stepped =
        let l = leads_as of_count (shown_in w.held) (sum_plan c) (next, told) stepped.leads in
        let comes = sum_says (shown_in w.held) c c.stands refl is.adds l.0 l.1 in
        subst (λ (x : Machine K V K × Progress (Node K V)). CountedSo hasher (kinds.Count c) x.0 x.1 w) (sym l.2)
        (came c l.0.0 l.0.1 is.at stepped.stays (stepped.work ∙ ap (λ (x : Machine K V K × Progress (Node K V)). call_after x.0 x.1) l.2) comes)
    counts_so (kinds.Key c) next told is stepped = absurd is.adds
    counts_so (kinds.Reserve c) next told is stepped = absurd is.adds
    counts_so (kinds.Sweep c) next told is stepped = absurd is.adds

  -- it tells what a counting may,
  pub of_counting : (machine next : Machine K V K) (told : Progress (Node K V)) (w : View K V S) → CountedSo hasher machine next told w → IsOfCounting told
  of_counting machine next progress.Goes w so = tt
  of_counting machine next (progress.Done (said.Count count)) w so = tt
  of_counting machine next (progress.Done (said.Key answer)) w so = absurd so
  of_counting machine next (progress.Done said.Reserved) w so = absurd so
  of_counting machine next (progress.Done said.Swept) w so = absurd so
  of_counting machine next progress.Waits w so = absurd so
  of_counting machine next (progress.Asks pair) w so = absurd so
  of_counting machine next progress.Ready w so = absurd so
  of_counting machine next (progress.Pair pair) w so = absurd so
  of_counting machine next (progress.Gave value) w so = absurd so
  of_counting machine next (progress.Unstored value) w so = absurd so
  of_counting machine next (progress.Refused fault) w so = absurd so
