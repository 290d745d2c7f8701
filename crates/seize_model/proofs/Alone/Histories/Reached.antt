-- What holds of every world that is reached from the start.
use Rattle.std.specs.Prelude.{Option}
use Rattle.std.proofs.Common.{ℕ, ◌+◌, List, [], ◌∷◌, refl, sym, subst}
use Rattle.seize.specs.Given.SeizeWordsMem.{Mem}
use Rattle.seize.specs.declared.states.TheConstants.{LAST_SLOT}
use Rattle.seize.specs.World.{World, Event, Step, Happens, Runs, Steps'}
use Rattle.seize_model.specs.Alone.Alone.{History, IsHistory, at_rest}
use Rattle.seize_rule.proofs.World.Good.{Good}
use Rattle.seize_rule.proofs.Rows.Sizes.{AllSized}
use Rattle.seize_rule.proofs.Rows.SizesKept.{happens_sized}
use Rattle.seize_rule.proofs.World.Kept.{happens_good}
use Rattle.seize_rule.proofs.World.Rested.{resting_sized}
use Rattle.seize_model.proofs.Alone.Histories.Calls.{history_rested}

pub record Reached {T : Type 0} (defers : T → Option ℕ) (size : ℕ) (w : World T) : Type 0 where
  pub good : Good defers (LAST_SLOT + 1) size w
  pub sized : AllSized size w.row

module _ {T : Type 0} (defers : T → Option ℕ) (size : ℕ) where
  pub happens_reached : (e : Event T) (w w2 : World T) → Reached defers size w → Happens defers size e w w2 → Reached defers size w2
  happens_reached e w w2 r h = record { good = happens_good defers (LAST_SLOT + 1) size refl w w2 r.good r.sized e h; sized = happens_sized defers size w w2 r.sized e h }

  pub steps_reached : (i : ℕ) (w w2 : World T) → Reached defers size w → Steps' defers i (w.row i) w w2 → Reached defers size w2
  steps_reached i w w2 r h = happens_reached (Step i) w w2 r h

  pub runs_reached : (events : List (Event T)) (w w2 : World T) → Reached defers size w → Runs defers size events w w2 → Reached defers size w2
  runs_reached [] w w2 r h = subst (λ (v : World T). Reached defers size v) (sym h) r
  runs_reached (e ∷ events) w w2 r h = runs_reached events h.0 w2 (happens_reached e w h.0 r h.1) h.2

  pub history_reached : (roots : ℕ) (m : Mem T) (h : History) → IsHistory defers size roots m h → Reached defers size (at_rest defers m h)
  history_reached roots m h had =
      let r = history_rested defers size roots m h had in record { good = r.good; sized = resting_sized defers (LAST_SLOT + 1) size refl (at_rest defers m h) r.rests }
