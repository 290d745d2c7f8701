-- A world that came about from the start is sound, and one event more leads to another such one.
use Rattle.std.specs.Prelude.{◌++◌, Option}
use Rattle.std.proofs.Common.{◌≡◌, ℕ, ◌+◌, List, [], ◌∷◌, refl, sym, subst}
use Rattle.seize.specs.declared.states.TheConstants.{LAST_SLOT}
use Rattle.seize.specs.World.{World, Hand, Event, Happens, Runs, at_start}
use Rattle.seize_acts.proofs.Given.SeizeRuleWorld.Start.{start_good}
use Rattle.seize_acts.specs.Given.SeizeAloneAlone.{IsOfUsers}
use Rattle.seize_acts.proofs.Given.SeizeAloneHistories.Reached.{Reached, runs_reached}
use Rattle.seize_views.specs.Views.Chains.{all_roots}
use Rattle.seize_views.specs.Views.Rows.{Since, Came}
use Rattle.seize_views.specs.declared.view.Fixed.{Fixed}

-- what is in a seat's hand is some caller's
pub of_users : (hand : ℕ → Hand) (b : ℕ) (k : Hand) → IsOfUsers k → hand b ≡ k → IsOfUsers (hand b)
of_users hand b k is e = subst IsOfUsers (sym e) is

module _ {T : Type 0} (defers : T → Option ℕ) (fixed : Fixed) where
  abbrev size : ℕ
  size = fixed.batch_size

  start_reached : (roots : ℕ) → Reached defers size (at_start defers roots)
  start_reached roots = record { good = start_good defers (LAST_SLOT + 1) size roots; sized = λ i. tt }

  pub from_start : (roots : ℕ) (events : List (Event T)) (w : World T) → Runs defers size events (at_start defers roots) w → Reached defers size w
  from_start roots events w runs = runs_reached defers size events (at_start defers roots) w (start_reached roots) runs

  pub reached : (w : World T) → Came defers fixed w → Reached defers size w
  reached w came = from_start (all_roots fixed) came.0 w came.1

  runs_both : (events more : List (Event T)) (w v n : World T) → Runs defers size events w v → Runs defers size more v n → Runs defers size (events ++ more) w n
  runs_both [] more w v n h step = subst (λ (u : World T). Runs defers size more u n) h step
  runs_both (a ∷ events) more w v n h step = (h.0, h.1, runs_both events more h.0 v n h.2 step)

  -- one event, one more, and what has come of it

  pub since_one : (w n : World T) (e : Event T) → Happens defers size e w n → Since defers fixed w n
  since_one w n e step = (e ∷ [], (n, step, refl))

  pub since_both : (w v n : World T) → Since defers fixed w v → Since defers fixed v n → Since defers fixed w n
  since_both w v n a b = (a.0 ++ b.0, runs_both a.0 b.0 w v n a.1 b.1)

  pub since_then : (w v n : World T) (e : Event T) → Since defers fixed w v → Happens defers size e v n → Since defers fixed w n
  since_then w v n e before step = since_both w v n before (since_one v n e step)

  pub came_then : (w n : World T) (e : Event T) → Came defers fixed w → Happens defers size e w n → Came defers fixed n
  came_then w n e came step = since_then (at_start defers (all_roots fixed)) w n e came step
