-- Every step of a settling row, save its last, lowers what is left of its work, unless it waits.
use Rattle.std.specs.Prelude.{◌/◌, Option}
use Rattle.std.proofs.Common.{◌≡◌, ℕ, ◌+◌, ◌<◌, ◌++◌, false, arith}
use Rattle.seize.specs.Given.SeizeWordsMem.{Mem, Took, value_at}
use Rattle.seize.specs.Given.SeizeWordsPlan.{Steps}
use Rattle.seize.specs.declared.rows.settle.Settle.{Settle}
use Rattle.seize.specs.declared.rows.settle.Settling.{Settling}
use Rattle.seize.specs.declared.rows.settle.Settling.TheVariants as at
use Rattle.seize.specs.declared.rows.settle.Settled.{Settled}
use Rattle.seize.specs.Settle.{plan_at, settle_plan}
use Rattle.seize.specs.World.{settle_effects}
use Rattle.seize_rule.proofs.Given.SeizeMovesState.Ghost.{State}
use Rattle.seize_rule.proofs.Given.SeizeMovesState.Rule.{Inv}
use Rattle.seize_rule.proofs.Given.SeizeMemoryWords.View.{view}
use Rattle.seize_rule.proofs.Given.SeizeMemoryWords.Shows.{Extra, Shows}
use Rattle.seize_rule.proofs.Points.Told.{part, part_at, Told}
use Rattle.seize_rule.proofs.Points.Stepped.{Went}
use Rattle.seize_rule.proofs.Points.Known.{FitsAt, Fits, bare}
use Rattle.seize_rule.proofs.Points.Settle.{is_over}
use Rattle.seize_model.proofs.Ends.Batches.Held.{GoesOn}
use Rattle.seize_model.proofs.Ends.Settling.Measure.{weighs, here, ends}
use Rattle.seize_model.proofs.Ends.Settling.Moves.{Below, not_more, retired_less, taken_less}
use Rattle.seize_model.proofs.Ends.Settling.Points.{at_point, sees_falls, holds_falls, pops_falls, firsts_falls, batches_falls, ends_falls, appends_falls, counts_falls, scans_falls, marks_falls, marked_falls, closes_falls, reads_falls, links_falls, pushes_falls, pushed_falls, sums_falls, nexts_falls, takes_falls, puts_falls, lists_falls, owns_falls, gives_falls}
use Rattle.seize_model.proofs.Ends.Settling.Deferred.{drains_ends, joins_ends, tails_ends, downs_ends}

module _ {T : Type 0} (defers : T → Option ℕ) (n bound i : ℕ) (mem mem2 : Mem T) (m : State) (x : Extra) (c : Settle) (end : Settle × Settled T)
    (inv : Inv n m) (v : Shows n (view defers mem) m x) (below : Below bound m.life) (further : GoesOn end.1)
    (m2 : State) (x2 : Extra) (v2 : Shows n (view defers mem2) m2 x2) (fits2 : Fits n i (view defers mem2) m2 x2 end.0) where
  abbrev Falls : Settling → Type 0
  Falls p = weighs n bound i m2 + here n (view defers mem2) (m2.puts i) end.0 < weighs n bound i m + at_point n (view defers mem) (m.puts i) c p

  -- nothing behind the row's work grows
  by_point : (p : Settling) → Told n i c (part_at c.flushing p) m end.0 m2 → here n (view defers mem2) (m2.puts i) end.0 < at_point n (view defers mem) (m.puts i) c p → Falls p
  by_point p told h = let a = not_more n bound i m inv c (part_at c.flushing p) end.0 m2 told in omega (arith, a, h)

  falls_at : (p : Settling) → is_over p ≡ false → FitsAt n i (view defers mem) m x (bare c) p → Told n i c (part_at c.flushing p) m end.0 m2 → m2.log ≡ settle_effects c p ++ m.log
      → Steps Took value_at mem (plan_at defers c p) mem2 end → Falls p
  falls_at at.Sees o r told log st = by_point at.Sees told (sees_falls defers n i mem mem2 m x c end (m.puts i) (m2.puts i) further st)
  falls_at at.Holds o r told log st = by_point at.Holds told (holds_falls defers n i mem mem2 m x c end (m.puts i) (m2.puts i) r st)
  falls_at at.Pops o r told log st = by_point at.Pops told (pops_falls defers n i mem mem2 m x c end (m.puts i) (m2.puts i) r st)
  falls_at (at.Firsts block) o r told log st = by_point (at.Firsts block) told (firsts_falls defers n i mem mem2 m x c end (m.puts i) (m2.puts i) block st)
  falls_at (at.Batches block) o r told log st = by_point (at.Batches block) told (batches_falls defers n i mem mem2 m x c end (m.puts i) (m2.puts i) block st)
  falls_at (at.Ends block) o r told log st = by_point (at.Ends block) told (ends_falls defers n i mem mem2 m x c end (m.puts i) (m2.puts i) block st)
  falls_at (at.Appends block) o r told log st = by_point (at.Appends block) told (appends_falls defers n i mem mem2 m x c end (m.puts i) (m2.puts i) block st)
  falls_at (at.Counts block) o r told log st =
      let a = counts_falls defers n i mem mem2 m x c end (m.puts i) (m2.puts i) block st in
      let b = retired_less n bound i m inv c (part_at c.flushing (at.Counts block)) end.0 m2 (block / 2048) below log told in
      omega (arith, a, b)
  falls_at (at.Scans slot block marks) o r told log st =
      by_point (at.Scans slot block marks) told (scans_falls defers n i mem mem2 m x c end (m.puts i) (m2.puts i) slot block marks r.lt st)
  falls_at (at.Marks slot block marks) o r told log st =
      by_point (at.Marks slot block marks) told (marks_falls defers n i mem mem2 m x c end (m.puts i) (m2.puts i) slot block marks r.lt st)
  falls_at (at.Marked slot block marks) o r told log st =
      by_point (at.Marked slot block marks) told (marked_falls defers n i mem mem2 m x c end (m.puts i) (m2.puts i) slot block marks r.lt st)
  falls_at (at.Closes marks) o r told log st = by_point (at.Closes marks) told (closes_falls defers n i mem mem2 m x c end (m.puts i) (m2.puts i) marks st)
  falls_at (at.Reads block left pushed) o r told log st =
      by_point (at.Reads block left pushed) told (reads_falls defers n i mem mem2 m x c end (m.puts i) (m2.puts i) block left pushed st)
  falls_at (at.Links block left pushed slot head) o r told log st =
      by_point (at.Links block left pushed slot head) told (links_falls defers n i mem mem2 m x c end (m.puts i) (m2.puts i) block left pushed slot head st)
  falls_at (at.Pushes block left pushed slot head) o r told log st =
      let some = r.links.reads.shuts.left_is in
      by_point (at.Pushes block left pushed slot head) told (pushes_falls defers n i mem mem2 m x c end (m.puts i) (m2.puts i) block left pushed slot head (omega (arith, some)) st)
  falls_at (at.Pushed block left pushed) o r told log st =
      by_point (at.Pushed block left pushed) told (pushed_falls defers n i mem mem2 m x c end (m.puts i) (m2.puts i) block left pushed st)
  falls_at (at.Sums pushed) o r told log st = by_point (at.Sums pushed) told (sums_falls defers n i mem mem2 m x c end (m.puts i) (m2.puts i) pushed st)
  falls_at at.Nexts o r told log st = by_point at.Nexts told (nexts_falls defers n i mem mem2 m x c end (m.puts i) (m2.puts i) st)
  falls_at (at.Drains next word) o r told log st = drains_ends defers n bound i mem mem2 m x c end m2 inv v below next word r told st
  falls_at (at.Joins next more) o r told log st = joins_ends defers n bound i mem mem2 m x c end m2 inv v below next more r told st
  falls_at (at.Tails next) o r told log st = tails_ends defers n bound i mem mem2 m x c end m2 inv v below next r told st
  falls_at (at.Takes next) o r told log st =
      let a = takes_falls defers n i mem mem2 m x c end (m.puts i) (m2.puts i) next st in
      let b = taken_less n bound i m inv c (part_at c.flushing (at.Takes next)) end.0 m2 (c.reclaiming / 2048) below log told in
      omega (arith, a, b)
  falls_at at.Puts o r told log st = by_point at.Puts told (puts_falls defers n i mem mem2 m x c end (m.puts i) (m2.puts i) st)
  falls_at at.Lists o r told log st = by_point at.Lists told (lists_falls defers n i mem mem2 m x c end (m.puts i) (m2.puts i) st)
  falls_at (at.Owns next) o r told log st = by_point (at.Owns next) told (owns_falls defers n i mem mem2 m x c end (m.puts i) (m2.puts i) next st)
  falls_at (at.Downs next batch) o r told log st = downs_ends defers n bound i mem mem2 m x c end m2 inv v below next batch x2 r told v2 fits2 st
  falls_at at.Gives o r told log st = by_point at.Gives told (gives_falls defers n i mem mem2 m x c end (m.puts i) (m2.puts i) st)
  falls_at at.Over o r told log st = absurd (cc o)

module _ {T : Type 0} (defers : T → Option ℕ) (n bound i : ℕ) (mem mem2 : Mem T) (m : State) (x : Extra) (c : Settle) (end : Settle × Settled T)
    (inv : Inv n m) (v : Shows n (view defers mem) m x) (below : Below bound m.life) (further : GoesOn end.1) where
  -- a step that went as its point says
  pub settle_ends : (w : Went defers n i c (part c) mem m x (settle_effects c c.stands) mem2 end) → is_over c.stands ≡ false → Fits n i (view defers mem) m x c
      → Steps Took value_at mem (settle_plan defers c) mem2 end → ends n bound i w.0.m2 (view defers mem2) end.0 < ends n bound i m (view defers mem) c
  settle_ends w o r st =
      falls_at defers n bound i mem mem2 m x c end inv v below further w.0.m2 w.0.x2 w.0.written.shows w.0.fits c.stands o r w.0.told w.0.logged st
