-- The world stays good whatever happens, and each row may take its next step.
use Rattle.std.specs.Prelude.{Option}
use Rattle.std.proofs.Common.{◌≡◌, ℕ, ◌+◌, Bool, true, false, List, [], ◌∷◌, length, refl, subst, sym, ap}
use Rattle.seize_moves.specs.Given.SeizeWordsMem.{Mem, Took, value_at}
use Rattle.seize_moves.specs.Given.SeizeWordsPlan.{Steps}
use Rattle.seize_moves.specs.Given.SeizeDeclared.states.TheConstants.{LAST_SLOT}
use Rattle.seize_moves.specs.Given.SeizeDeclared.rows.settle.Settle.{Settle}
use Rattle.seize_moves.specs.Given.SeizeDeclared.rows.settle.Settled.{Settled}
use Rattle.seize_moves.specs.Given.SeizeSettle.{settle_plan}
use Rattle.seize_moves.specs.Given.SeizeLaw.{Effect, IsSound}
use Rattle.seize_moves.specs.Given.SeizeWorld.{World, Hand, Row, Rests, Registers, Enters, Settles, Leaves, Defers, Frees, Event, Begin, Step, Makes, Drops, Links, Parts, Unlinks, Rewrites, Operates, Chooses, Happens, Runs, Steps', MayStep, RowsAreSound, RowsMayStep, at_start, settles_on, LeavesOver, Relinks, Clears, Ends}
use Rattle.seize_moves.proofs.Memory.Words.View.{view}
use Rattle.seize_rule.proofs.Points.Known.{FitsAt, bare}
use Rattle.seize_rule.proofs.Rows.Known.{FitsRow}
use Rattle.seize_rule.proofs.World.Good.{Good, StillGood, Next}
use Rattle.seize_rule.proofs.World.Start.{start_good, words_good, settles_may}
use Rattle.seize_rule.proofs.Rows.Sizes.{Sized, AllSized}
use Rattle.seize_rule.proofs.Rows.SizesKept.{happens_sized}
use Rattle.seize_rule.proofs.Rows.Short.{tries_on}
use Rattle.seize_rule.proofs.Points.Short.{settle_still}
use Rattle.seize_rule.proofs.Points.Settle.{is_over, settle_steps}
use Rattle.seize_rule.proofs.Points.Aside.{HandFits}
use Rattle.seize_rule.proofs.Rows.Settled.{settles_next, settles_over_next}
use Rattle.seize_rule.proofs.World.Begins.{begins_next}
use Rattle.seize_rule.proofs.Rows.Slots.{enters_next, enters_may, frees_next, frees_may}
use Rattle.seize_rule.proofs.Rows.Leave.{leaves_next, leaves_may, over_is}
use Rattle.seize_rule.proofs.Rows.Deferring.{defers_next, defers_may}
use Rattle.seize_rule.proofs.Rows.Register.{registers_next, registers_may}
use Rattle.seize_rule.proofs.World.Events.{makes_good, drops_good, link_good, end_good, part_good, unlink_good, rewrites_good, operates_good, chooses_good, leaves_over_good, relinks_good, clears_good}
use Rattle.seize_moves.proofs.Moves.State.Ghost.{State}
use Rattle.seize_moves.proofs.Moves.Sets.Unmoved.{Unmoved}
use Rattle.seize_rule.proofs.World.Ended.{left_over_unmoved}

-- an event between rows that leaves no further value over
abbrev pub IsStill : {T : Type 0} → Event T → Type 0
IsStill (Begin i request) = ⊥
IsStill (Step i) = ⊥
IsStill (LeavesOver i b (c ∷ further)) = ⊥
IsStill _ = Unit {0}

module _ {T : Type 0} (defers : T → Option ℕ) (n size : ℕ) (last : n ≡ LAST_SLOT + 1) (w w2 : World T) (good : Good defers n size w) (sized : AllSized size w.row) where
  settle_all : (i : ℕ) (c : Settle) → w.row i ≡ Settles c
      → (mem2 : Mem T) × (end : Settle × Settled T) × Steps Took value_at w.memory (settle_plan defers c) mem2 end × (w2 ≡ settles_on w i c mem2 end) → Next defers n size w good.state i w2
  settle_all i c is h = one (is_over c.stands) refl
    where
      sized_of : (r : Row) → w.row i ≡ r → Sized size r
      sized_of r e = subst (λ (q : Row). Sized size q) e (sized i)

      fits : FitsAt n i (view defers w.memory) good.state good.extra (bare c) c.stands
      fits = subst (λ (r : Row). FitsRow n i (view defers w.memory) good.state good.extra (length w.memory.slots) r) is (good.rows i)

      one : (t : Bool) → is_over c.stands ≡ t → Next defers n size w good.state i w2
      one true e = settles_over_next defers n w good i c h.0 h.1 w2 is (over_is c.stands e) h.2 h.3
      one false e =
          let s = settle_steps defers n i w.memory h.0 good.state good.extra c h.1 last (words_good defers n w good) good.inv good.shows c.stands refl e fits h.2 in
          settles_next defers n w good i c h.0 h.1 w2 is (settles_may defers n w good i c is) h.2 s.0 s.1
          (settle_still defers n i w.memory h.0 good.state good.extra c h.1 good.inv good.shows last (sized_of (Settles c) is) fits h.2 s.0 (w.row i) (Settles h.1.0)
          (λ t. ap (λ (q : Row). tries_on q t) is) (λ t. refl)) h.3

  pub steps_next : (i : ℕ) (row : Row) → w.row i ≡ row → Steps' defers i row w w2 → Next defers n size w good.state i w2
  steps_next i Rests is h = absurd h
  steps_next i (Registers c) is h = registers_next defers n last w good i c is w2 h
  steps_next i (Enters c) is h = enters_next defers n w good i c w2 is h
  steps_next i (Settles c) is h = settle_all i c is h
  steps_next i (Leaves c) is h = leaves_next defers n last w good i c is w2 ((subst (λ (q : Row). Sized size q) is (sized i)).1) h
  steps_next i (Defers s c) is h = defers_next defers n w good i s c is w2 h
  steps_next i (Frees c) is h = frees_next defers n w good i c w2 is h

  pub users_good : (e : Event T) → IsStill e → Happens defers size e w w2 → StillGood defers n size good.state w2
  users_good (Begin i request) u h = absurd u
  users_good (Step i) u h = absurd u
  users_good (Makes i value words) u h = makes_good defers n size w w2 good i value words h
  users_good (Drops i b) u h = drops_good defers n size w w2 good i b h
  users_good (Links i b o) u h = link_good defers n size w w2 good i b o h
  users_good (Parts i b) u h = part_good defers n size w w2 good i b h
  users_good (Unlinks i b) u h = unlink_good defers n size w w2 good i b h
  users_good (Rewrites i b value) u h = rewrites_good defers n size w w2 good i b value h
  users_good (Operates op) u h = operates_good defers n size w w2 good op h
  users_good (Ends i o) u h = end_good defers n size w w2 good i o h
  users_good (LeavesOver i b []) u h =
      let g = leaves_over_good defers n size w w2 good i b [] h in
      (g.0, subst (λ (m : State). Unmoved n good.state m) (sym g.1) (left_over_unmoved n i b h.0.0 good.state (subst (λ (k : Hand). HandFits k (good.state.life b)) h.0.1 (good.hands b)) good.inv.places.all_deferred (sym g.2)))
  users_good (LeavesOver i b (c ∷ further)) u h = absurd u
  users_good (Relinks i b word) u h = relinks_good defers n size w w2 good i b word h
  users_good (Clears i b) u h = clears_good defers n size w w2 good i b h
  users_good (Chooses choice) u h = chooses_good defers n size w w2 good choice h

  pub happens_good : (e : Event T) → Happens defers size e w w2 → Good defers n size w2
  happens_good (Begin i request) h = (begins_next defers n size last w w2 good i h.0 request h.1).0
  happens_good (Step i) h = (steps_next i (w.row i) refl h).good
  happens_good (Makes i value words) h = (users_good (Makes i value words) tt h).0
  happens_good (Drops i b) h = (users_good (Drops i b) tt h).0
  happens_good (Links i b o) h = (users_good (Links i b o) tt h).0
  happens_good (Parts i b) h = (users_good (Parts i b) tt h).0
  happens_good (Unlinks i b) h = (users_good (Unlinks i b) tt h).0
  happens_good (Rewrites i b value) h = (users_good (Rewrites i b value) tt h).0
  happens_good (Operates op) h = (users_good (Operates op) tt h).0
  happens_good (Ends i o) h = (users_good (Ends i o) tt h).0
  happens_good (LeavesOver i b further) h = (leaves_over_good defers n size w w2 good i b further h).0
  happens_good (Relinks i b word) h = (users_good (Relinks i b word) tt h).0
  happens_good (Clears i b) h = (users_good (Clears i b) tt h).0
  happens_good (Chooses choice) h = (users_good (Chooses choice) tt h).0

module _ {T : Type 0} (defers : T → Option ℕ) (n size : ℕ) (last : n ≡ LAST_SLOT + 1) where
  pub runs_good : (events : List (Event T)) (w w2 : World T) → Good defers n size w → AllSized size w.row → Runs defers size events w w2 → Good defers n size w2
  runs_good [] w w2 good sized h = subst (λ (v : World T). Good defers n size v) (sym h) good
  runs_good (e ∷ events) w w2 good sized h = runs_good events h.0 w2 (happens_good defers n size last w h.0 good sized e h.1) (happens_sized defers size w h.0 sized e h.1) h.2

  pub row_may : (w : World T) → Good defers n size w → (i : ℕ) (row : Row) → w.row i ≡ row → MayStep defers row w.memory
  row_may w good i Rests is = tt
  row_may w good i (Registers c) is = registers_may defers n last w good i c is
  row_may w good i (Enters c) is = enters_may defers n w good i c is
  row_may w good i (Settles c) is = settles_may defers n w good i c is
  row_may w good i (Leaves c) is = leaves_may defers n last w good i c is
  row_may w good i (Defers s c) is = defers_may defers n w good i s c is
  row_may w good i (Frees c) is = frees_may defers n w good i c is

pub rows_sound : {T : Type 0} (defers : T → Option ℕ) → RowsAreSound defers
rows_sound defers size roots events w h =
    let good = runs_good defers (LAST_SLOT + 1) size refl events (at_start defers roots) w (start_good defers (LAST_SLOT + 1) size roots) (λ i. tt) h in
    subst (λ (l : List Effect). IsSound l) good.logged good.inv.logged.sound

pub rows_may : {T : Type 0} (defers : T → Option ℕ) → RowsMayStep defers
rows_may defers size roots events w h i =
    let good = runs_good defers (LAST_SLOT + 1) size refl events (at_start defers roots) w (start_good defers (LAST_SLOT + 1) size roots) (λ i. tt) h in
    row_may defers (LAST_SLOT + 1) size refl w good i (w.row i) refl
