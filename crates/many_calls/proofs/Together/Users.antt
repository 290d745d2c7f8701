-- What users do leaves rows and slots as they are, and keeps all that is kept.
use Rattle.std.specs.Prelude.{Some}
use Rattle.std.proofs.Common.{◌≡◌, ℕ, List, [], ◌∷◌, ap, sym, subst, ◌∙◌, inl, inr}
use Rattle.seize_model.specs.Given.SeizeWordsMem.{value_at}
use Rattle.seize_model.specs.Given.SeizeWorld.{World, Use, Event, Runs, IsInside}
use Rattle.seize_model.proofs.Given.SeizeMovesState.Logs.{reached_held}
use Rattle.seize_model.proofs.Given.SeizeRuleRows.Others.{users_rows}
use Rattle.seize_model.proofs.Alone.Histories.Reached.{Reached, runs_reached}
use Rattle.seize_model.proofs.Alone.Histories.Uses.{inside_open}
use Rattle.seize_model.proofs.Alone.Histories.UsersTurn.{users_between, users_uses}
use Rattle.map_facts_late.specs.Given.TablesNodes.{deferred_word}
use Rattle.map_facts_late.specs.Given.TablesDeclared.node.Node.{Node}
use Rattle.map_facts_late.specs.Given.RuleInWorld.{AllUsers}
use Rattle.many_calls.specs.Kept.{IsKeptBy}
use Rattle.many_calls.proofs.Rows.Users.{events_hold, own_not_handed, events_not_handed, own_there}

module _ {K V : Type 0} (size : ℕ) where
  pub events_uses : (events : List (Event (Node K V))) (w v : World (Node K V)) → AllUsers events → Runs deferred_word size events w v → v.uses ≡ w.uses
  events_uses [] w v u r = ap (λ (x : World (Node K V)). x.uses) r
  events_uses (e ∷ events) w v u r = events_uses events r.0 v u.1 r.2 ∙ users_uses deferred_word size w r.0 e u.0 r.1

  pub events_rows : (events : List (Event (Node K V))) (w v : World (Node K V)) → AllUsers events → Runs deferred_word size events w v → v.row ≡ w.row
  events_rows [] w v u r = ap (λ (x : World (Node K V)). x.row) r
  events_rows (e ∷ events) w v u r = events_rows events r.0 v u.1 r.2 ∙ users_rows deferred_word size w r.0 e (users_between e u.0) r.1

  -- one caller is inside while they do it
  module _ (slot : ℕ → ℕ) (i : ℕ) (events : List (Event (Node K V))) (w v : World (Node K V)) (r : Reached deferred_word size w) (inside : IsInside (w.uses (slot i))) (u : AllUsers events) (runs : Runs deferred_word size events w v) where
    r2 : Reached deferred_word size v
    r2 = runs_reached deferred_word size events w v r runs

    uses : (s : ℕ) → v.uses s ≡ w.uses s
    uses s = ap (λ (f : ℕ → Use). f s) (events_uses events w v u runs)

    pub inside_on : (s : ℕ) → IsInside (w.uses s) → IsInside (v.uses s)
    inside_on s h = subst IsInside (sym (uses s)) h

    pub inside_back : (s : ℕ) → IsInside (v.uses s) → IsInside (w.uses s)
    inside_back s h = subst IsInside (uses s) h

    -- what is kept stays so
    pub kept_on : (b : ℕ) (value : Node K V) → value_at v.memory b ≡ Some value → IsKeptBy w b → IsKeptBy v b
    kept_on b value there (inl (inl own)) =
        inl (inl (own_there size b v r2 value there (events_not_handed size b events w v u runs (own_not_handed (w.hand b) own))))
    kept_on b value there (inl (inr reached)) =
        inr (slot i, inside_on (slot i) inside, events_hold size b (slot i) events w v r inside u runs (reached_held (slot i) b w.log reached (inside_open deferred_word size w r (slot i) inside)))
    kept_on b value there (inr (s, in_it, h)) = inr (s, inside_on s in_it, events_hold size b s events w v r in_it u runs h)
