-- Wherever turns come to from the start, the world is good and every row rests.
use Rattle.std.specs.Prelude.{Option}
use Rattle.std.proofs.Common.{◌≡◌, ℕ, zero, suc, ◌+◌, List, [], ◌∷◌, inl, inr, refl, subst, sym, ap, ◌∙◌}
use Rattle.std.proofs.lemmas.Bool.{cases_eq}
use Rattle.seize_moves.specs.Given.SeizeDeclared.states.TheConstants.{LAST_SLOT}
use Rattle.seize_moves.specs.Given.SeizeWaitingSets.{Change}
use Rattle.seize_moves.specs.Given.SeizeWorld.{World, Row, Rests, Event, Begin, Step, Happens, Steps', Begins, Request, at_start}
use Rattle.seize_moves.specs.Given.SeizeSequence.{Turn, Whole, Between, IsBetween, RunsOn, Calls, TakesTurns}
use Rattle.seize_rule.proofs.World.Good.{Good}
use Rattle.seize_rule.proofs.Rows.Sizes.{AllSized, Sized}
use Rattle.seize_rule.proofs.Rows.SizesKept.{happens_sized}
use Rattle.seize_rule.proofs.World.Start.{start_good}
use Rattle.seize_rule.proofs.World.Kept.{happens_good}
use Rattle.seize_rule.proofs.Rows.Others.{OthersRest, begins_others, steps_others, users_rows}

-- what holds between any two steps of row i, while no other row is under way
pub record Lone {T : Type 0} (defers : T → Option ℕ) (n size i : ℕ) (w : World T) : Type 0 where
  pub good : Good defers n size w
  pub sized : AllSized size w.row
  pub others : OthersRest i w

-- and while none is
pub record Rested {T : Type 0} (defers : T → Option ℕ) (n size : ℕ) (w : World T) : Type 0 where
  pub good : Good defers n size w
  pub rests : (i : ℕ) → w.row i ≡ Rests

-- a row that rests takes no more steps
pub rests_on : {T : Type 0} (defers : T → Option ℕ) (i steps : ℕ) (w v : World T) → w.row i ≡ Rests → RunsOn defers steps i w v → (steps ≡ 0) × (v ≡ w)
rests_on defers i zero w v e h = (refl, h.1)
rests_on defers i (suc steps) w v e h = absurd (subst (λ (r : Row). Steps' defers i r w h.0) e h.1)

module _ {T : Type 0} (defers : T → Option ℕ) (n size : ℕ) (last : n ≡ LAST_SLOT + 1) where
  pub resting_sized : (w : World T) → ((i : ℕ) → w.row i ≡ Rests) → AllSized size w.row
  resting_sized w h i = subst (λ (r : Row). Sized size r) (sym (h i)) tt

  pub start_rested : (roots : ℕ) → Rested defers n size (at_start defers roots)
  start_rested roots = record { good = start_good defers n size roots; rests = λ i. refl }

  -- a row begins, and steps

  pub begins_lone : (i : ℕ) (request : Request) (w v : World T) → Rested defers n size w → Begins defers size i request w v → Lone defers n size i v
  begins_lone i request w v r h = record {
    good = happens_good defers n size last w v r.good (resting_sized w r.rests) (Begin i request) (r.rests i, h);
    sized = happens_sized defers size w v (resting_sized w r.rests) (Begin i request) (r.rests i, h);
    others = λ j ne. begins_others defers size w v i j ne request h ∙ r.rests j;
  }

  pub steps_lone : (i : ℕ) (w v : World T) → Lone defers n size i w → Steps' defers i (w.row i) w v → Lone defers n size i v
  steps_lone i w v r h = record {
    good = happens_good defers n size last w v r.good r.sized (Step i) h;
    sized = happens_sized defers size w v r.sized (Step i) h;
    others = λ j ne. steps_others defers size w v i j ne (w.row i) h ∙ r.others j ne;
  }

  pub lone_rested : (i : ℕ) (w : World T) → Lone defers n size i w → w.row i ≡ Rests → Rested defers n size w
  lone_rested i w r e = record {
    good = r.good;
    rests = λ j. (elim (cases_eq j i) as (λ _. w.row j ≡ Rests) [
      | inl same ↦ ap w.row same ∙ e
      | inr other ↦ r.others j other
    ]);
  }

  -- it runs to its end

  pub runs_rested : (steps i : ℕ) (w v : World T) → Lone defers n size i w → RunsOn defers steps i w v → Rested defers n size v
  runs_rested zero i w v r h = subst (λ (u : World T). Rested defers n size u) (sym h.1) (lone_rested i w r h.0)
  runs_rested (suc steps) i w v r h = runs_rested steps i h.0 v (steps_lone i w h.0 r h.1) h.2

  pub calls_rested : (i : ℕ) (request : Request) (w v : World T) → Rested defers n size w → Calls defers size i request w v → Rested defers n size v
  calls_rested i request w v r h = runs_rested h.1 i h.0 v (begins_lone i request w h.0 r h.3) h.4

  pub users_rested : (e : Event T) (w v : World T) → IsBetween e → Rested defers n size w → Happens defers size e w v → Rested defers n size v
  users_rested e w v u r h = record {
    good = happens_good defers n size last w v r.good (resting_sized w r.rests) e h;
    rests = λ i. ap (λ (rows : ℕ → Row). rows i) (users_rows defers size w v e u h) ∙ r.rests i;
  }

  pub turns_rested : (turns : List (Turn T)) (w v : World T) (all : List Change) → Rested defers n size w → TakesTurns defers size turns w v all → Rested defers n size v
  turns_rested [] w v all r h = subst (λ (u : World T). Rested defers n size u) (sym h.0) r
  turns_rested (Whole i request ∷ turns) w v all r h = turns_rested turns h.0 v h.1 (calls_rested i request w h.0 r h.2) h.3
  turns_rested (Between e ∷ turns) w v all r h = turns_rested turns h.0 v h.1 (users_rested e w h.0 h.2 r h.3) h.4
