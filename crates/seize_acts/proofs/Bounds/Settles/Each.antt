-- Each step of a settling lowers what is left.
use Rattle.std.specs.Prelude.{Option}
use Rattle.std.proofs.Common.{◌≡◌, ℕ, ◌+◌, refl, arith}
use Rattle.seize_words.specs.OneMemory.Mem.{Mem, Took, value_at}
use Rattle.seize_words.specs.OneMemory.Plan.{Steps}
use Rattle.seize.specs.declared.states.TheConstants.{LAST_SLOT}
use Rattle.seize.specs.declared.rows.settle.Settle.{Settle}
use Rattle.seize.specs.declared.rows.settle.Settling.{Settling}
use Rattle.seize.specs.declared.rows.settle.Settling.TheVariants as at
use Rattle.seize.specs.declared.rows.settle.Settled.{Settled}
use Rattle.seize.specs.Settle as plans
use Rattle.seize_model.proofs.Given.SeizeMovesState.Ghost.{State}
use Rattle.seize_model.proofs.Given.SeizeMemoryWords.View.{view}
use Rattle.seize_model.proofs.Given.SeizeMemoryWords.Shows.{Extra}
use Rattle.seize_model.proofs.Given.SeizeRulePoints.Told.{part_at, Told}
use Rattle.seize_model.proofs.Given.SeizeRulePoints.Known.{FitsAt, bare}
use Rattle.seize_acts.proofs.Bounds.Settles.Measure.{SeenAt}
use Rattle.seize_acts.proofs.Bounds.Settles.Step.{Stepping, Less}
use Rattle.seize_acts.proofs.Bounds.Settles.Points.{sees_less, holds_less, pops_less, firsts_less, batches_less, ends_less, appends_less, counts_less, scans_less, marks_less, marked_less, closes_less, reads_less, links_less, pushes_less, pushed_goes, sums_less, gives_less}
use Rattle.seize_acts.proofs.Bounds.Settles.Reclaims.{nexts_less, drains_less, joins_less, tails_less, takes_less, puts_less, lists_less, owns_less, downs_less}

module _ {T : Type 0} {defers : T → Option ℕ} {j : ℕ} {mem mem2 : Mem T} {m : State} {x : Extra} {c : Settle} {end : Settle × Settled T} {m2 : State} {x2 : Extra}
    (k : Stepping defers j mem mem2 m x c end m2 x2) where
  pub step_less : (p : Settling) → (p ≡ at.Over → ⊥) → SeenAt m c p → FitsAt (LAST_SLOT + 1) j (view defers mem) m x (bare c) p
      → Told (LAST_SLOT + 1) j c (part_at c.flushing p) m end.0 m2 → Steps Took value_at mem (plans.plan_at defers c p) mem2 end → Less k p
  step_less at.Sees ne seen r told st = sees_less k r.retiring.holds told st
  step_less at.Holds ne seen r told st = holds_less k r.retiring.holds seen told st
  step_less at.Pops ne seen r told st = pops_less k r.some told st
  step_less (at.Firsts block) ne seen r told st = firsts_less k block told st
  step_less (at.Batches block) ne seen r told st = batches_less k block told st
  step_less (at.Ends block) ne seen r told st = ends_less k block told st
  step_less (at.Appends block) ne seen r told st = appends_less k block told st
  step_less (at.Counts block) ne seen r told st = counts_less k block r told st
  step_less (at.Scans slot block marks) ne seen r told st = scans_less k slot block marks r.lt told st
  step_less (at.Marks slot block marks) ne seen r told st = marks_less k slot block marks told st
  step_less (at.Marked slot block marks) ne seen r told st = marked_less k slot block marks r.lt told st
  step_less (at.Closes marks) ne seen r told st = closes_less k marks told st
  step_less (at.Reads block left pushed) ne seen r told st = reads_less k block left pushed told st
  step_less (at.Links block left pushed slot head) ne seen r told st = links_less k block left pushed slot head told st
  step_less (at.Pushes block left pushed slot head) ne seen r told st =
      let some = r.links.reads.shuts.left_is in pushes_less k block left pushed slot head (omega (arith, some)) told st
  step_less (at.Pushed block left pushed) ne seen r told st = pushed_goes k block left pushed told st
  step_less (at.Sums pushed) ne seen r told st = sums_less k pushed told st
  step_less at.Nexts ne seen r told st = nexts_less k told st
  step_less (at.Drains next word) ne seen r told st = drains_less k next word r told st
  step_less (at.Joins next more) ne seen r told st = joins_less k next more r told st
  step_less (at.Tails next) ne seen r told st = tails_less k next r told st
  step_less (at.Takes next) ne seen r told st = takes_less k next r.backs.once told st
  step_less at.Puts ne seen r told st = puts_less k told st
  step_less at.Lists ne seen r told st = lists_less k told st
  step_less (at.Owns next) ne seen r told st = owns_less k next told st
  step_less (at.Downs next batch) ne seen r told st = downs_less k next batch r told st
  step_less at.Gives ne seen r told st = gives_less k told st
  step_less at.Over ne seen r told st = absurd (ne refl)
