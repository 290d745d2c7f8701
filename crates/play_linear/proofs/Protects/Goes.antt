-- Sections that no row of a caller ends go on over its steps.
use Rattle.std.specs.Prelude.{◌≢◌, false}
use Rattle.std.proofs.Common.{◌≡◌, ℕ, [], ◌∷◌, inl, inr, refl, ap, sym, subst, ◌∙◌, ◌+◌}
use Rattle.run_logged.specs.Given.SeizeLaw.{Deferred}
use Rattle.seize_acts.specs.Given.SeizeWorld.{Begin, Defer', Defers, Enter', Flush, Happens, IsInside, Leave', LeaveOwned, Leaves, Refresh, Register', Request, Retire, Row, Settles, Unregister', World}
use Rattle.seize_acts.specs.Given.SeizeDeclared.rows.leave.Leave.{Leave}
use Rattle.seize_acts.specs.Given.SeizeDeclared.rows.leave.Leaving.TheVariants as leaving
use Rattle.seize_acts.proofs.Given.SeizeAloneHistories.Reached.{Reached}
use Rattle.seize_acts.proofs.Given.SeizeRuleRows.Known.{leaving_on, works_on}
use Rattle.seize_acts.proofs.Given.SeizeRuleRows.Teams.{is_shared, no_other, shares}
use Rattle.play_lists.specs.Given.TablesNodes.{deferred_word}
use Rattle.play_lists.specs.Given.TablesDeclared.node.Node.{Node}
use Rattle.play_lists.specs.Given.TablesDeclared.setting.Setting.{Setting}
use Rattle.run_logged.specs.Given.CallersTogether.{HandsOver, IsOneStep}
use Rattle.run_logged.proofs.Given.CallersTogether.At.{at_same}
use Rattle.play_lists.proofs.Given.PromisesShelters.Within.{GoOnByRows, Sections}
use Rattle.play_linear.specs.Protects.Shelters.{IsOpen}
use Rattle.play_linear.proofs.Protects.Sections.{Keeps, Spares, keeps_by, keeps_same, keeps_then, step_keeps, users_keep}
use Rattle.seize_acts.proofs.Given.SeizeAloneHistories.Uses.{inside_shared}

module _ {K V : Type 0} where
  -- a section is open, and no row of this caller ends it with its next step
  abbrev pub IsSpared : ℕ → World (Node K V) → ℕ → Type 0
  IsSpared i w t = IsOpen w t × Spares t w (w.row i)

module _ {K V : Type 0} (size : ℕ) (w : World (Node K V)) (r : Reached deferred_word size w) (t i : ℕ) where
  -- who is to end a section works on its slot alone
  alone : (j : ℕ) (c : Leave) → w.row j ≡ Leaves c → c.stands ≡ leaving.Swaps → c.slot ≡ t → (works_on (w.row j) ≡ t + 1) × (shares (w.row j) ≡ false)
  alone j c is at on = (ap works_on is ∙ ap (leaving_on c.slot c.frees) at ∙ ap (λ (k : ℕ). k + 1) on, ap shares is)

  -- so nobody is inside then,
  pub inside_spares : IsInside (w.uses t) → Spares t w (w.row i)
  inside_spares inside c is at on =
      let its = alone i c is at on in let kinds : shares (w.row i) ≡ is_shared (w.uses t) = r.good.used.kinds i t its.0 in let shared = inside_shared (w.uses t) inside in cc (its.1, kinds, shared)

  -- and nobody else is to end it
  pub leaving_spares : (j : ℕ) → i ≢ j → (c : Leave) → w.row j ≡ Leaves c → c.stands ≡ leaving.Swaps → c.slot ≡ t → Spares t w (w.row i)
  leaving_spares j ne c is at on d also at_swap on_it =
      let its = alone j c is at on in
      let others = alone i d also at_swap on_it in
      no_other j t r.good.state.head r.good.state.head r.good.state.log r.good.state.log w.row w.uses (w.row j) (w.uses t) r.good.used (λ s other. (refl, refl)) its.0 its.1 i ne others.0

-- a row that is no leaving
abbrev IsNoLeave : Row → Type 0
IsNoLeave (Leaves c) = ⊥
IsNoLeave row = Unit {0}

not_leaves : (row : Row) (c : Leave) → row ≡ Leaves c → IsNoLeave row → ⊥
not_leaves row c is other = subst IsNoLeave is other

module _ {K V : Type 0} (i : ℕ) where
  -- The row of a call that begins to hand something over keeps all sections, and ends none.
  begun_keeps : (t : ℕ) (setting : Setting) (w begun : World (Node K V)) (request : Request) → HandsOver setting i w request → Happens deferred_word setting.batch_size (Begin i request) w begun
      → Keeps t w begun × Spares t begun (begun.row i)
  begun_keeps t setting w begun (Retire s b) hands h = (
    keeps_same t w begun (ap (λ (v : World (Node K V)). v.log) h.1.2),
    subst (λ (v : World (Node K V)). Spares t v (v.row i)) (sym h.1.2) (λ c is at on. not_leaves (Settles _) c (sym (at_same w.row i (Settles _) i refl) ∙ is) tt),
  )
  begun_keeps t setting w begun (Defer' s b u) hands h = (
    keeps_by t w (Deferred b u ∷ []) (tt, tt) begun (ap (λ (v : World (Node K V)). v.log) h.1.7),
    subst (λ (v : World (Node K V)). Spares t v (v.row i)) (sym h.1.7) (λ c is at on. not_leaves (Defers s _) c (sym (at_same w.row i (Defers s _) i refl) ∙ is) tt),
  )
  begun_keeps t setting w begun (Register' enters) hands h = absurd hands
  begun_keeps t setting w begun (Enter' s) hands h = absurd hands
  begun_keeps t setting w begun (Leave' s) hands h = absurd hands
  begun_keeps t setting w begun (LeaveOwned s) hands h = absurd hands
  begun_keeps t setting w begun (Refresh s) hands h = absurd hands
  begun_keeps t setting w begun (Unregister' s) hands h = absurd hands
  begun_keeps t setting w begun (Flush s) hands h = absurd hands

  row_keeps : (t : ℕ) (setting : Setting) (w w2 : World (Node K V)) → IsOneStep setting i w w2 → Spares t w (w.row i) → Keeps t w w2
  row_keeps t setting w w2 (inl step) spares = step_keeps deferred_word i t w w2 (w.row i) spares step
  row_keeps t setting w w2 (inr (request, begun, hands, begins, step)) spares =
      let first = begun_keeps t setting w begun request hands begins in
      keeps_then t w begun w2 first.0 (step_keeps deferred_word i t begun w2 (begun.row i) first.1 step)

  pub spared_by_rows : GoOnByRows {K = K} {V = V} (IsSpared i) IsOpen i
  spared_by_rows setting w w2 came step = record {
    inside = λ t on. (row_keeps t setting w w2 step on.1).stays on.0;
    held = λ t b on. (row_keeps t setting w w2 step on.1).held b;
  }

  pub spared_sections : Sections {K = K} {V = V} (IsSpared i) IsOpen
  spared_sections = record {
    opens = λ size w r t on. on.0;
    opens_then = λ size w r t o. o;
    events = λ size w w2 r events users runs. record { inside = λ t on. (users_keep size t events w w2 r users runs).stays on.0; held = λ t b on. (users_keep size t events w w2 r users runs).held b };
  }

-- all that are open, where users do something
pub open_sections : {K V : Type 0} → Sections {K = K} {V = V} IsOpen IsOpen
open_sections = record {
  opens = λ size w r t o. o;
  opens_then = λ size w r t o. o;
  events = λ size w w2 r events users runs. record { inside = λ t o. (users_keep size t events w w2 r users runs).stays o; held = λ t b o. (users_keep size t events w w2 r users runs).held b };
}
