-- A step of a walk, a clearing or a retaining that stands within no copier: where it begins to copy, its copier has not found each place claimed.
use Rattle.std.specs.Prelude.{if◌then◌else◌, ◌==◌, ◌&&◌, Ok, Err, None, ◌/◌}
use Rattle.std.proofs.Common.{◌≡◌, ℕ, Bool, true, false, refl}
use Rattle.seize_words.specs.OneMemory.Mem.{Mem, Took, value_at}
use Rattle.seize_words.specs.OneMemory.Op.{Out, Found, Exchanged}
use Rattle.seize_words.specs.OneMemory.Plan.{Steps}
use Rattle.seize.specs.declared.rows.settle.Settled.{Settled}
use Rattle.seize.specs.declared.rows.settle.Settled.TheVariants as settled
use Rattle.map_tables.specs.Marks.{has_mark}
use Rattle.map_tables.specs.declared.marks.TheConstants.{COPYING}
use Rattle.map_tables.specs.declared.node.Node.{Node}
use Rattle.map_machines.specs.Dispose.{dispose_plan}
use Rattle.map_machines.specs.declared.dispose.Dispose.{Dispose}
use Rattle.map_sweeps.specs.Sweeps.Sweep as sweep
use Rattle.map_sweeps.specs.Sweeps.SweepPoints.{removes, further, telling, at_pair, seen}
use Rattle.map_sweeps.specs.declared.sweep.Purpose.{Purpose}
use Rattle.map_sweeps.specs.declared.sweep.Purpose.TheVariants.{Walks, Clears, Retains}
use Rattle.map_sweeps.specs.declared.sweep.Sweep.{Sweep}
use Rattle.map_sweeps.specs.declared.sweep.Sweeping.{Sweeping}
use Rattle.map_sweeps.specs.declared.sweep.Sweeping.TheVariants as sweeps
use Rattle.map_sweeps.specs.declared.sweep.Swept.{Swept}
use Rattle.many_calls.proofs.Given.RuleKeys.Always.{Always, AlwaysOf, always_if, always_steps, always_plan_as}
use Rattle.many_calls.proofs.Given.LateSwept.Sweeps.Stands.{IsQuiet, quiet_beginning, quiet_entering, quiet_further, quiet_tableless}
use Rattle.map_measures.specs.Waits.Others.{copier_in_sweep}
use Rattle.map_measures.proofs.Waiters.Begins.{IsNew, as_none, begun_new}

abbrev pub IsNewSweep : Sweeping → Type 0
IsNewSweep stands = IsNew (copier_in_sweep stands)

-- where it copies nothing it has no copier
pub quiet_none : (stands : Sweeping) → IsQuiet stands → copier_in_sweep stands ≡ None
quiet_none (sweeps.Copies copier) quiet = absurd quiet
quiet_none _ quiet = refl

quiet_new : (stands : Sweeping) → IsQuiet stands → IsNewSweep stands
quiet_new stands quiet = as_none (quiet_none stands quiet)

module _ {K V : Type 0} where
  abbrev pub NewSweep : Sweep × Swept (Node K V) → Type 0
  NewSweep end = IsNewSweep end.0.stands

module _ (K V : Type 0) (hash : K → ℕ) (p : Sweep) (here : IsNewSweep p.stands) where
  pair_new : (purpose : Purpose) (word : ℕ) → NewSweep {K = K} {V = V} (at_pair purpose p word)
  pair_new Walks word = tt
  pair_new Clears word = tt
  pair_new Retains word = tt

  seen_new : (word : ℕ) → NewSweep {K = K} {V = V} (seen p word)
  seen_new word = by (removes p.purpose && has_mark word COPYING) (word / 2048 == 0)
    where
      by : (m z : Bool)
          → NewSweep {K = K} {V = V} (if m then telling (further (record p { met = true })) else (if z then telling (further p) else at_pair p.purpose p word))
      by true z = quiet_new _ (quiet_further (record p { met = true }))
      by false true = quiet_new _ (quiet_further p)
      by false false = pair_new p.purpose word

  on_root : (out : Out (Node K V)) → Always NewSweep (sweep.root_read p out)
  on_root (Found root) = always_if NewSweep (root == 0) _ _ (quiet_new _ (quiet_tableless p)) (λ value. quiet_new _ (quiet_entering p _))
  on_root _ = here

  on_next : (out : Out (Node K V)) → Always NewSweep (sweep.next_read p out)
  on_next (Found link) = always_if NewSweep (link == 0) _ _ (quiet_new _ (quiet_beginning p)) (λ value. begun_new p.setting p.table _)
  on_next _ = here

  on_word : (out : Out (Node K V)) → Always NewSweep (sweep.word_found p out)
  on_word (Found word) = seen_new word
  on_word _ = here

  on_tried : (word : ℕ) (out : Out (Node K V)) → Always NewSweep (sweep.tried p word out)
  on_tried word (Exchanged (Ok found)) = tt
  on_tried word (Exchanged (Err found)) = seen_new found
  on_tried word _ = here

  disposed_new : (end : Dispose × Settled (Node K V)) → NewSweep {K = K} {V = V} (sweep.disposed p end)
  disposed_new (next, settled.Goes) = tt
  disposed_new (next, settled.Waits) = tt
  disposed_new (next, settled.Gave value) = tt
  disposed_new (next, settled.Done) = quiet_new _ (quiet_further p)

  sweep_plan_new : (stands : Sweeping) → copier_in_sweep stands ≡ None → AlwaysOf (NewSweep {K = K} {V = V}) (sweep.plan_at hash p stands)
  sweep_plan_new sweeps.Reads none = on_root
  sweep_plan_new sweeps.Follows none = on_next
  sweep_plan_new (sweeps.Copies copier) none = absurd (cc none)
  sweep_plan_new sweeps.Words none = on_word
  sweep_plan_new (sweeps.Tries word) none = on_tried word
  sweep_plan_new (sweeps.Counts removed) none = λ out. tt
  sweep_plan_new (sweeps.Disposes dispose) none = always_plan_as NewSweep (sweep.disposed p) disposed_new (dispose_plan dispose)
  sweep_plan_new sweeps.Ready none = here
  sweep_plan_new (sweeps.Asks word) none = here
  sweep_plan_new sweeps.Over none = here
  sweep_plan_new (sweeps.Refused fault) none = here

module _ {K V : Type 0} (hash : K → ℕ) (m m2 : Mem (Node K V)) where
  pub sweep_new : (p : Sweep) (end : Sweep × Swept (Node K V)) → copier_in_sweep p.stands ≡ None → Steps Took value_at m (sweep.sweep_plan hash p) m2 end → NewSweep end
  sweep_new p end none s = always_steps NewSweep m m2 (sweep.sweep_plan hash p) end (sweep_plan_new K V hash p (as_none none) p.stands none) s
