-- A disposal that stands at no row has seen the table of the root, which its section holds.
use Rattle.std.specs.Prelude.{◌==◌, ◌/◌, ◌^◌, ◌<◌, nat_lt, Some}
use Rattle.std.proofs.Common.{◌≡◌, ℕ, Bool, true, inl, inr, sym, subst, ap, arith, ◌∙◌}
use Rattle.run_shows.specs.Given.SeizeWordsDeclared.at.At.TheVariants.{Root, Word}
use Rattle.run_shows.specs.Given.SeizeWordsMem.{Mem, value_at, word_at}
use Rattle.run_shows.specs.Given.SeizeWordsOp.{Found}
use Rattle.run_shows.specs.Given.SeizeWorld.{World}
use Rattle.run_shows.specs.Given.SeizeDeclared.rows.settle.Settled.{Settled}
use Rattle.run_shows.specs.Given.TablesNodes.{table_seen}
use Rattle.run_shows.specs.Given.TablesDeclared.node.Node.{Node}
use Rattle.run_shows.specs.Given.TablesDeclared.setting.Setting.{Setting}
use Rattle.run_shows.specs.Given.TablesDeclared.table.Table.{Table}
use Rattle.run_shows.specs.Given.TablesDeclared.table_words.TheConstants.{NEXT}
use Rattle.run_shows.specs.Given.ResizeDispose as dispose
use Rattle.run_shows.specs.Given.ResizeDispose.{dispose_plan}
use Rattle.run_shows.specs.Given.ResizeDeclared.dispose.Dispose.{Dispose}
use Rattle.run_shows.specs.Given.ResizeDeclared.dispose.Disposing.{Disposing}
use Rattle.run_shows.specs.Given.ResizeDeclared.dispose.Disposing.TheVariants as at
use Rattle.run_shows.specs.Given.RuleChart.{Chart}
use Rattle.run_shows.specs.Given.RuleWords.{Blocks}
use Rattle.run_shows.specs.Given.RuleInWorld.{IsMapIn}
use Rattle.owner_facts.specs.Given.PointsFactsDisposes.{DisposeFacts}
use Rattle.owner_facts.specs.Given.PointsTold.{IsRowOf}
use Rattle.many_acts.specs.Looks.Blocks.{MayLookAt}
use Rattle.many_acts.specs.Looks.Sees.{HasSeen}
use Rattle.many_acts.proofs.Looks.Sees.Held.{AllSeen}
use Rattle.many_acts.proofs.Looks.Sees.Copiers.{root_held}
use Rattle.many_acts.proofs.Looks.Sees.Operations.{none_if, loads}

module _ {K V : Type 0} (same : K → K → Bool) (hash : K → ℕ) (fits : (k : K) → hash k < 2 ^ 64) (w : World (Node K V)) (slot caller : ℕ) (c : Chart K) (seen : Blocks)
    (setting : Setting) (Held : ℕ → Type 0) (within : AllSeen Held c seen) (map : IsMapIn same hash setting w c seen)
    (p : Dispose) (facts : DisposeFacts w caller setting c seen p) (b : ℕ) (n : Mem (Node K V)) (end : Dispose × Settled (Node K V)) where
  abbrev IsHeld : Type 0
  IsHeld = Held b

  -- by the root's table nothing further is seen
  compared_none : (root : ℕ) (table : Table) → MayLookAt b (value_at n) (dispose.compared {K = K} {V = V} p root table) → ⊥
  compared_none root table sees = none_if b (value_at n) (nat_lt table.turn p.table.turn) _ _ (λ x. x) (λ x. x) sees

  root_seen : (root : ℕ) → word_at w.memory (Root setting.root) ≡ Some root → MayLookAt b (value_at n) (dispose.root_read {K = K} {V = V} p (Found root)) → IsHeld
  root_seen root read (inl is) =
      let made = facts.table.made in
      subst (λ (x : ℕ). Held x) (sym is)
      (root_held same hash fits w slot caller c seen setting Held within map (omega (arith, made)) root read)
  root_seen root read (inr (value, shown, sees)) = absurd (compared_none root (table_seen root value) sees)

  by_point : (stands : Disposing) → (IsRowOf stands → ⊥) → HasSeen b w.memory (dispose.plan_at p stands) n end → IsHeld
  by_point (at.Settles settle) none saw = absurd (none tt)
  by_point at.Reads none saw =
      let l = loads b w.memory n (Root p.setting.root) end (dispose.root_read p) saw in
      root_seen l.0 (ap (λ (x : Setting). word_at w.memory (Root x.root)) (sym facts.setting_is) ∙ l.1) l.3.1
  by_point (at.Walks table) none saw =
      let l = loads b w.memory n (Word (table / 2048) NEXT) end (dispose.walked p table) saw in
      absurd (none_if b (value_at n) (l.0 / 2048 == p.table.link / 2048) _ _ (λ x. x) (λ x. x) l.3.1)
  by_point (at.Defers defer) none saw = absurd (none tt)
  by_point at.Over none saw = absurd saw.2

  pub dispose_sees : (IsRowOf p.stands → ⊥) → HasSeen b w.memory (dispose_plan p) n end → IsHeld
  dispose_sees none saw = by_point p.stands none saw
