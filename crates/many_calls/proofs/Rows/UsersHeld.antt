-- What users do keeps, within an open section, all blocks of a map: also what a table deferred that is unlinked.
use Rattle.std.specs.Prelude.{Ok, Err}
use Rattle.std.proofs.Common.{◌≡◌, ℕ, true, List, [], ◌∷◌, sym, subst, ap, ◌∙◌, ◌+◌}
use Rattle.seize_model.specs.Given.SeizeWordsOp.{Out, Found, Stored, Exchanged, Made, Taken, Roomed}
use Rattle.seize_model.specs.Given.SeizeWordsMem.{Mem}
use Rattle.seize_model.specs.Given.SeizeLaw.{Linked, Unlinked, holds}
use Rattle.seize_model.specs.Given.SeizeWorld.{World, Use, Event, Begin, Step, Makes, Drops, Links, Unlinks, Rewrites, Operates, LeavesOver, Relinks, Clears, Chooses, Happens, Runs, IsInside, made_by, Making, Hand, Parts, Ends}
use Rattle.seize_model.specs.Given.SeizeSequence.{IsUsers}
use Rattle.seize_model.proofs.Given.SeizeMovesState.Held.{held_on, held_beside}
use Rattle.seize_model.proofs.Alone.Histories.UsersTurn.{users_uses}
use Rattle.seize_model.proofs.Alone.Histories.Reached.{Reached}
use Rattle.map_facts_late.specs.Given.TablesNodes.{deferred_word}
use Rattle.map_facts_late.specs.Given.TablesDeclared.node.Node.{Node}
use Rattle.map_facts_late.specs.Given.RuleInWorld.{AllUsers}
use Rattle.seize_model.proofs.Given.SeizeMovesMoves.Blocks.{never_held}
use Rattle.seize_model.proofs.Given.SeizeRulePoints.Aside.{HandFits}
use Rattle.seize_model.specs.Given.SeizeDeclared.states.TheConstants.{LAST_SLOT}

module _ {K V : Type 0} (size : ℕ) (w : World (Node K V)) (r : Reached deferred_word size w) (slot : ℕ) (inside : IsInside (w.uses slot)) (x : ℕ) where
  made_held : (i : ℕ) (m : Mem (Node K V)) (out : Out (Node K V)) → holds slot x w.log ≡ true → holds slot x (made_by deferred_word w i m out).log ≡ true
  made_held i m (Found word) h = h
  made_held i m Stored h = h
  made_held i m (Exchanged result) h = h
  made_held i m (Made (Ok b)) h = h
  made_held i m (Made (Err back)) h = h
  made_held i m (Taken block) h = h
  made_held i m (Roomed result) h = h

  -- no section holds a block that was never linked
  apart : (i b : ℕ) → w.hand b ≡ Making i → holds slot x w.log ≡ true → x ≡ b → ⊥
  apart i b making h same =
      let owned = subst (λ (k : Hand). HandFits k (r.good.state.life b)) making (r.good.hands b) in
      let none = ap (holds slot b) (sym r.good.logged) ∙ never_held (LAST_SLOT + 1) i r.good.state b r.good.inv owned slot in
      let here = subst (λ (y : ℕ). holds slot y w.log ≡ true) same h in
      cc (none, here)

  -- the section holds what it held
  pub still_holds : (e : Event (Node K V)) (v : World (Node K V)) → IsUsers e → Happens deferred_word size e w v → holds slot x w.log ≡ true → holds slot x v.log ≡ true
  still_holds (Begin i request) v u e h = absurd u
  still_holds (Step i) v u e h = absurd u
  still_holds (Makes i value words) v u e h = subst (λ (y : World (Node K V)). holds slot x y.log ≡ true) (sym e.4) (made_held i e.1 e.0 h)
  still_holds (Drops i b) v u e h = subst (λ (y : World (Node K V)). holds slot x y.log ≡ true) (sym e.4) (held_beside slot x b w.log (apart e.2.0 b e.2.1 h) h)
  still_holds (Links i b o) v u e h = subst (λ (y : World (Node K V)). holds slot x y.log ≡ true) (sym e.1) (held_on slot x (Linked b o) w.log tt h)
  still_holds (Ends i o) v u e h = absurd u
  still_holds (Parts i b) v u e h = subst (λ (y : World (Node K V)). holds slot x y.log ≡ true) (sym e.1) h
  still_holds (Unlinks i b) v u e h = subst (λ (y : World (Node K V)). holds slot x y.log ≡ true) (sym e.1) (held_on slot x (Unlinked b) w.log tt h)
  still_holds (Rewrites i b value) v u e h = subst (λ (y : World (Node K V)). holds slot x y.log ≡ true) (sym e.5) h
  still_holds (Operates op) v u e h = subst (λ (y : World (Node K V)). holds slot x y.log ≡ true) (sym e.4) h
  still_holds (LeavesOver i b further) v u e h = absurd u
  still_holds (Relinks i b word) v u e h = absurd u
  still_holds (Clears i b) v u e h = absurd u
  still_holds (Chooses choice) v u e h = subst (λ (y : World (Node K V)). holds slot x y.log ≡ true) (sym e) h

module _ {K V : Type 0} (size slot : ℕ) where
  -- users leave everybody inside
  pub events_inside : (events : List (Event (Node K V))) (w w2 : World (Node K V)) → AllUsers events → Runs deferred_word size events w w2 → IsInside (w.uses slot) → IsInside (w2.uses slot)
  events_inside [] w w2 u runs inside = subst (λ (y : World (Node K V)). IsInside (y.uses slot)) (sym runs) inside
  events_inside (e ∷ events) w w2 u runs inside =
      events_inside events runs.0 w2 u.1 runs.2
      (subst (λ (f : ℕ → Use). IsInside (f slot)) (sym (users_uses deferred_word size w runs.0 e u.0 runs.1)) inside)
