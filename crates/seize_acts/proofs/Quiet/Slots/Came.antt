-- A world that came about from the start, what happens next, and a memory without a block that was taken away.
use Rattle.std.specs.Prelude.{Option, None, IsSome, if◌then◌else◌}
use Rattle.std.proofs.Common.{◌≡◌, ℕ, ◌+◌, Bool, List, [], ◌∷◌, ◌++◌, refl, ap, subst, ◌∙◌, eq-eqb}
use Rattle.seize_words.specs.OneMemory.Mem.{Mem, block_of, value_in, value_at, with_block}
use Rattle.seize_words.proofs.OneMemory.OneOwner.AfterWrites.{block_of-with_block}
use Rattle.seize.specs.declared.states.TheConstants.{LAST_SLOT}
use Rattle.seize.specs.World.{World, Event, Happens, Runs, at_start}
use Rattle.seize_model.proofs.Given.SeizeMemoryWords.Named.{block_there}
use Rattle.seize_model.proofs.Given.SeizeRuleWorld.Start.{start_good}
use Rattle.seize_model.proofs.Alone.Histories.Reached.{Reached, runs_reached}
use Rattle.seize_acts.specs.Quiet.Slots.{Came}

pub taken_gone : {T : Type 0} (m : Mem T) (b : ℕ) → IsSome (value_at m b) → value_at (with_block m b None) b ≡ None
taken_gone m b some = let h = block_there m b some in ap value_in (block_of-with_block m b b h.0 None h.1 ∙ ap (λ (t : Bool). if t then None else block_of m b) (eq-eqb b b refl))

module _ {T : Type 0} (defers : T → Option ℕ) (size : ℕ) where
  runs_then : (first next : List (Event T)) (w v n : World T) → Runs defers size first w v → Runs defers size next v n → Runs defers size (first ++ next) w n
  runs_then [] next w v n a b = subst (λ (x : World T). Runs defers size next x n) a b
  runs_then (e ∷ first) next w v n a b = (a.0, a.1, runs_then first next a.0 v n a.2 b)

  pub came_reached : (w : World T) → Came defers size w → Reached defers size w
  came_reached w (roots, events, runs) =
      runs_reached defers size events (at_start defers roots) w (record { good = start_good defers (LAST_SLOT + 1) size roots; sized = λ i. tt }) runs

  pub came_on : (w n : World T) (events : List (Event T)) → Came defers size w → Runs defers size events w n → Came defers size n
  came_on w n events (roots, before, runs) on = (roots, before ++ events, runs_then before events (at_start defers roots) w n runs on)

  pub came_next : (w n : World T) (e : Event T) → Came defers size w → Happens defers size e w n → Came defers size n
  came_next w n e came h = came_on w n (e ∷ []) came (n, h, refl)
