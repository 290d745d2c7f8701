-- Every step of a settling row comes to a move, and leaves the row with what it knows at its next point.
use Rattle.std.specs.Prelude.{Option, ◌^◌}
use Rattle.std.proofs.Common.{◌≡◌, ℕ, ◌+◌, ◌<◌, Bool, true, false, arith}
use Rattle.seize_moves.specs.Given.SeizeWordsMem.{Mem, Took, value_at}
use Rattle.seize_moves.specs.Given.SeizeWordsPlan.{Steps}
use Rattle.seize_moves.specs.Given.SeizeDeclared.states.TheConstants.{LAST_SLOT}
use Rattle.seize_moves.specs.Given.SeizeDeclared.rows.settle.Settle.{Settle}
use Rattle.seize_moves.specs.Given.SeizeDeclared.rows.settle.Settling.{Settling}
use Rattle.seize_moves.specs.Given.SeizeDeclared.rows.settle.Settling.TheVariants as at
use Rattle.seize_moves.specs.Given.SeizeDeclared.rows.settle.Settled.{Settled}
use Rattle.seize_moves.specs.Given.SeizeSettle.{plan_at}
use Rattle.seize_moves.specs.Given.SeizeWorld.{settle_effects}
use Rattle.seize_moves.proofs.Moves.State.Ghost.{State}
use Rattle.seize_moves.proofs.Moves.State.Rule.{Inv}
use Rattle.seize_moves.proofs.Memory.Words.View.{view}
use Rattle.seize_moves.proofs.Memory.Words.Shows.{Extra, Shows}
use Rattle.seize_rule.proofs.Points.Told.{part_at}
use Rattle.seize_rule.proofs.Points.Stepped.{HasWords, Went}
use Rattle.seize_rule.proofs.Points.Known.{FitsAt, bare}
use Rattle.seize_rule.proofs.Points.Hold.{sees_steps, holds_steps, gives_steps}
use Rattle.seize_rule.proofs.Points.Retire.{pops_steps, firsts_steps, batches_steps, ends_steps, appends_steps}
use Rattle.seize_rule.proofs.Points.Counts.{counts_steps}
use Rattle.seize_rule.proofs.Points.Scan.{scans_steps}
use Rattle.seize_rule.proofs.Points.Mark.{marks_steps, marked_steps, closes_steps}
use Rattle.seize_rule.proofs.Points.Entries.{reads_steps, links_steps, pushed_steps}
use Rattle.seize_rule.proofs.Points.Push.{pushes_steps}
use Rattle.seize_rule.proofs.Points.Sum.{sums_steps}
use Rattle.seize_rule.proofs.Points.Deferred.{nexts_steps, drains_steps, tails_steps}
use Rattle.seize_rule.proofs.Points.Take.{joins_steps, puts_steps, takes_steps}
use Rattle.seize_rule.proofs.Points.Lists.{lists_steps, owns_steps}
use Rattle.seize_rule.proofs.Points.Down.{downs_steps}

-- it stands at its end
abbrev pub is_over : Settling → Bool
is_over at.Over = true
is_over _ = false

module _ {T : Type 0} (defers : T → Option ℕ) (n i : ℕ) (mem mem2 : Mem T) (m : State) (x : Extra) (c : Settle) (end : Settle × Settled T)
    (last : n ≡ LAST_SLOT + 1) (words : HasWords defers n mem m.head) (inv : Inv n m) (v : Shows n (view defers mem) m x) where
  small : n < 2 ^ 64
  small = omega (arith, last)

  pub settle_steps : (p : Settling) → c.stands ≡ p → is_over p ≡ false → FitsAt n i (view defers mem) m x (bare c) p → Steps Took value_at mem (plan_at defers c p) mem2 end
      → Went defers n i c (part_at c.flushing p) mem m x (settle_effects c p) mem2 end
  settle_steps at.Sees e o r st = sees_steps defers n i mem m x c inv v mem2 end r e st
  settle_steps at.Holds e o r st = holds_steps defers n i mem m x c mem2 end words inv v r st
  settle_steps at.Pops e o r st = pops_steps defers n i mem mem2 m x c end inv v r st
  settle_steps (at.Firsts block) e o r st = firsts_steps defers n i mem mem2 m x c end inv v block r st
  settle_steps (at.Batches block) e o r st = batches_steps defers n i mem mem2 m x c end inv v block words r st
  settle_steps (at.Ends block) e o r st = ends_steps defers n i mem mem2 m x c end inv v block words r st
  settle_steps (at.Appends block) e o r st = appends_steps defers n i mem mem2 m x c end inv v block words r st
  settle_steps (at.Counts block) e o r st = counts_steps defers n i mem mem2 m x c end inv v block r st
  settle_steps (at.Scans slot block marks) e o r st = scans_steps defers n i mem mem2 m x c end inv v last slot block marks r st
  settle_steps (at.Marks slot block marks) e o r st = marks_steps defers n i mem mem2 m x c end inv v last words slot block marks r st
  settle_steps (at.Marked slot block marks) e o r st = marked_steps defers n i mem mem2 m x c end inv v last words slot block marks r st
  settle_steps (at.Closes marks) e o r st = closes_steps defers n i mem mem2 m x c end inv v last words marks r st
  settle_steps (at.Reads block left pushed) e o r st = reads_steps defers n i mem mem2 m x c end inv v block left pushed r st
  settle_steps (at.Links block left pushed slot head) e o r st = links_steps defers n i mem mem2 m x c end inv v block left pushed slot head words r st
  settle_steps (at.Pushes block left pushed slot head) e o r st = pushes_steps defers n i mem mem2 m x c end small words inv v block left pushed slot head r st
  settle_steps (at.Pushed block left pushed) e o r st = pushed_steps defers n i mem mem2 m x c end inv v block left pushed r st
  settle_steps (at.Sums pushed) e o r st = sums_steps defers n i mem mem2 m x c end small inv v pushed r st
  settle_steps at.Nexts e o r st = nexts_steps defers n i mem m x c inv v mem2 end r st
  settle_steps (at.Drains next word) e o r st = drains_steps defers n i mem m x c inv v next word mem2 end r st
  settle_steps (at.Joins next more) e o r st = joins_steps defers n i mem m x c inv v next more r mem2 end words st
  settle_steps (at.Tails next) e o r st = tails_steps defers n i mem m x c inv v next mem2 end r st
  settle_steps (at.Takes next) e o r st = (takes_steps defers n i mem m x c inv v next r mem2 end st).0
  settle_steps at.Puts e o r st = puts_steps defers n i mem m x c inv v r mem2 end words st
  settle_steps at.Lists e o r st = lists_steps defers n i mem m x c mem2 end inv v r st
  settle_steps (at.Owns next) e o r st = owns_steps defers n i mem m x c next mem2 end inv v r st
  settle_steps (at.Downs next batch) e o r st = downs_steps defers n i mem m x c next batch inv v r mem2 end words small st
  settle_steps at.Gives e o r st = gives_steps defers n i mem m x c mem2 end words inv v r st
  settle_steps at.Over e o r st = absurd (cc o)
