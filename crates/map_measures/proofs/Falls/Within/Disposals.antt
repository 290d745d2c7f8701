-- Each step of a disposal before its row writes nothing, and leaves fewer tables up to the pair's own.
use Rattle.std.specs.Prelude.{◌/◌, ◌==◌, nat_lt}
use Rattle.std.proofs.Common.{◌≡◌, ℕ, suc, ◌*◌, ◌<◌, Bool, true, inl, inr, ap, sym, subst, ◌∙◌, arith}
use Rattle.seize_words.specs.declared.at.At.TheVariants.{Root, Word}
use Rattle.seize_words.specs.OneMemory.Mem.{Mem, Took, value_at}
use Rattle.seize_words.specs.OneMemory.Plan.{Steps}
use Rattle.seize_words.proofs.OneMemory.OneOwner.Operations.{loaded}
use Rattle.seize_words.proofs.OneMemory.Plans.{ends_if}
use Rattle.seize.specs.declared.rows.settle.Settled.{Settled}
use Rattle.map_tables.specs.Nodes.{table_seen}
use Rattle.map_tables.specs.declared.node.Node.{Node}
use Rattle.map_tables.specs.declared.setting.Setting.{Setting}
use Rattle.map_tables.specs.declared.table.Table.{Table}
use Rattle.map_tables.specs.declared.table_words.TheConstants.{NEXT}
use Rattle.map_machines.specs.Dispose.{retires, carrying, goes, walked, root_read, plan_at, dispose_plan}
use Rattle.map_machines.specs.declared.dispose.Dispose.{Dispose}
use Rattle.map_machines.specs.declared.dispose.Disposing.{Disposing}
use Rattle.map_machines.specs.declared.dispose.Disposing.TheVariants as at
use Rattle.many_calls.specs.Given.RuleChart.{Chart}
use Rattle.many_calls.specs.Given.RuleMaps.{IsTable}
use Rattle.many_calls.specs.Given.RuleWords.{Blocks}
use Rattle.many_calls.proofs.Given.PointsSteps.TurnsFound.{turn_found}
use Rattle.many_calls.specs.Given.PointsMeasures.{IsBelow}
use Rattle.many_calls.specs.Given.PointsMeasuresDisposes.{turn_of, number_at_disposing, number_of_dispose}
use Rattle.many_calls.specs.Given.PointsTold.{IsRowOf}
use Rattle.map_measures.proofs.Falls.Onward.{Onward, grows, known_on, link_behind}
use Rattle.map_measures.proofs.Falls.Stands.{DisposingStands}
use Rattle.map_measures.proofs.Falls.Within.DisposalRows.{RowGoesFurther}

module _ {K V : Type 0} (same : K → K → Bool) (hash : K → ℕ) (setting : Setting) (m : Mem (Node K V)) (c : Chart K) (blocks : Blocks) (m2 : Mem (Node K V)) (c2 : Chart K) (blocks2 : Blocks)
    (on : Onward same hash setting m c blocks m2 c2 blocks2) (d : Dispose) (t : ℕ) (own : IsTable c blocks d.table t) where
  -- if it goes on, its number is lower
  abbrev Lowers : Disposing → Dispose × Settled (Node K V) → Type 0
  Lowers stands end = RowGoesFurther end.1 → IsBelow (number_of_dispose c2 blocks2 end.0) (number_at_disposing c blocks d.table.turn stands)

  by_end : (stands : Disposing) (end e : Dispose × Settled (Node K V)) → end ≡ e → Lowers stands e → Lowers stands end
  by_end stands end e is = subst (λ x. Lowers stands x) (sym is)

  turn : d.table.turn ≡ t
  turn = ap (λ (x : Table). x.turn) own.is

  -- the turn of a table by its link, before the step and after it
  before : (link u : ℕ) → u < c.past → blocks.table_known u ≡ true → link ≡ blocks.table u * 2048 → turn_of blocks link c.past ≡ u
  before link u made known is = turn_found hash m c blocks setting.root on.map.shows link u made known is

  after : (link u : ℕ) → u < c.past → blocks.table_known u ≡ true → link ≡ blocks.table u * 2048 → turn_of blocks2 link c2.past ≡ u
  after link u made known is =
      let kept = known_on same hash setting m c blocks m2 c2 blocks2 on u made known in
      let up = grows same hash setting m c blocks m2 c2 blocks2 on in
      turn_found hash m2 c2 blocks2 setting.root on.map2.shows link u (omega (arith, made, up)) kept.1 (is ∙ ap (λ b. b * 2048) (sym kept.0))

  on_at : (stands : Disposing) → DisposingStands setting m c blocks t stands → (IsRowOf stands → ⊥) → (end : Dispose × Settled (Node K V))
      → Steps Took value_at m (plan_at d stands) m2 end → Lowers stands end
  on_at (at.Settles settle) facts none end s = absurd (none tt)
  on_at (at.Defers defer) facts none end s = absurd (none tt)
  on_at at.Over facts none end s = by_end at.Over end _ s.1 (λ goes. absurd goes)
  on_at at.Reads facts none end s =
      let r = loaded m (root_read d) (Root d.setting.root) m2 end s in
      elim (ends_if (value_at m) (nat_lt (table_seen r.0 r.3.0).turn d.table.turn) (goes d (at.Walks r.0)) (goes d (retires d.setting d.pair)) end r.3.2) as (λ _. Lowers at.Reads end) [
        | inl h ↦ by_end at.Reads end _ h.1 (λ goes. inl (omega arith))
        | inr h ↦ by_end at.Reads end _ h.1 (λ goes. inl (omega arith))
      ]
  on_at (at.Walks link) facts none end s =
      let r = loaded m (walked d link) (Word (link / 2048) NEXT) m2 end s in
      let made : facts.0 < c.past = let made = own.made in let l = facts.1 in omega (arith, made, l) in
      let here = before link facts.0 made facts.2 facts.3 in
      let l = facts.1 in
      let next = link_behind same hash setting m c blocks on.map facts.0 (let own_made = own.made in omega (arith, own_made, l)) facts.2 link facts.3 r.0 r.1 in
      elim (ends_if (value_at m) (r.0 / 2048 == d.table.link / 2048) (goes d (carrying d link)) (goes d (at.Walks r.0)) end r.3) as (λ _. Lowers (at.Walks link) end) [
        | inl h ↦ by_end (at.Walks link) end _ h.1 (λ goes. inl (omega (arith, here, turn, l)))
        | inr h ↦ by_end (at.Walks link) end _ h.1 (λ goes. inl (
            let there = after r.0 (suc facts.0) next.1 next.2 next.0 in omega (arith, here, there, turn, l)))
      ]

  pub disposed_on : DisposingStands setting m c blocks t d.stands → (IsRowOf d.stands → ⊥) → (end : Dispose × Settled (Node K V)) → Steps Took value_at m (dispose_plan d) m2 end
      → RowGoesFurther end.1 → IsBelow (number_of_dispose c2 blocks2 end.0) (number_of_dispose c blocks d)
  disposed_on facts none end s = on_at d.stands facts none end s

-- such a step writes nothing
pub disposed_still : {K V : Type 0} (m m2 : Mem (Node K V)) (d : Dispose) → (IsRowOf d.stands → ⊥) → (end : Dispose × Settled (Node K V)) → Steps Took value_at m (dispose_plan d) m2 end → m2 ≡ m
disposed_still {K} {V} m m2 d none end s = by d.stands none s
  where
    by : (stands : Disposing) → (IsRowOf stands → ⊥) → Steps Took value_at m (plan_at d stands) m2 end → m2 ≡ m
    by at.Reads none s = (loaded m (root_read d) (Root d.setting.root) m2 end s).2
    by (at.Walks link) none s = (loaded m (walked d link) (Word (link / 2048) NEXT) m2 end s).2
    by at.Over none s = s.0
    by (at.Settles settle) none s = absurd (none tt)
    by (at.Defers defer) none s = absurd (none tt)
