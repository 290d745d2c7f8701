-- A step of a row of the collector within a call lowers what the row has left to do, or, as the row ends, the numbers of the call.
use Rattle.std.specs.Prelude.{◌≡◌, ℕ, ◌+◌, ◌<◌, true, List, [], ◌∷◌, ◌++◌, ◌⊎◌}
use Rattle.std.proofs.Common.{inl, inr, sym, subst, arith}
use Rattle.seize_words.specs.OneMemory.Mem.{Mem, Took, value_at}
use Rattle.seize_words.specs.OneMemory.Plan.{Steps}
use Rattle.seize.specs.Defer.{defer_plan}
use Rattle.seize.specs.Settle.{settle_plan}
use Rattle.seize.specs.World.{World, Row, Settles, Defers}
use Rattle.seize.specs.declared.advance.Advance.{Advance}
use Rattle.seize.specs.declared.advance.Advance.TheVariants as progress
use Rattle.seize.specs.declared.rows.defer.Defer.{Defer}
use Rattle.seize.specs.declared.rows.settle.Settle.{Settle}
use Rattle.seize.specs.declared.rows.settle.Settled.{Settled}
use Rattle.seize.specs.declared.states.TheConstants.{LAST_SLOT}
use Rattle.map_measures.proofs.Given.SeizeEndsRows.Among.{Came, row_steps_left, settles_go_lower}
use Rattle.map_measures.proofs.Given.SeizeEndsRows.Defer.{defer_ends}
use Rattle.map_measures.proofs.Given.SeizeEndsSettling.Most.{goes_further}
use Rattle.map_tables.specs.Nodes.{deferred_word}
use Rattle.map_tables.specs.declared.node.Node.{Node}
use Rattle.map_measures.specs.Given.PointsMeasures.{IsBelow}
use Rattle.owner_facts.specs.Given.CallersTogether.{CameAbout}
use Rattle.owner_facts.proofs.Given.CallersTogether.Came.{came_reached}
use Rattle.owner_whole.proofs.Whole.Keys.Falls.{lower_last}

-- what a row has left to do, by the memory
abbrev pub left : {K V : Type 0} → Mem (Node K V) → Row → ℕ
left = row_steps_left deferred_word

-- numbers, and last what a row has left to do
abbrev pub with_left : {K V : Type 0} → List ℕ → Mem (Node K V) → Row → List ℕ
with_left numbers m row = numbers ++ (left m row ∷ [])

module _ {K V : Type 0} (batch_size : ℕ) (v : World (Node K V)) (came : CameAbout batch_size v) (i : ℕ) (m2 : Mem (Node K V)) where
  came_so : Came deferred_word batch_size i v
  came_so = let r = came_reached batch_size v came in record { good = r.good; sized = r.sized }

  pub settling_less : (x y : Settle) (o : Settled (Node K V)) → v.row i ≡ Settles x → Steps Took value_at v.memory (settle_plan deferred_word x) m2 (y, o) → goes_further o ≡ true
      → left m2 (Settles y) < left v.memory (Settles x)
  settling_less x y o is st going = let less = settles_go_lower deferred_word batch_size i v came_so x is m2 (y, o) st going in omega (arith, less)

  pub deferring_less : (s : ℕ) (x y : Defer) (o : Advance Unit) → v.row i ≡ Defers s x → Steps Took value_at v.memory (defer_plan x) m2 (y, o)
      → ((o ≡ progress.Goes) × (left m2 (Defers s y) < left v.memory (Defers s x))) ⊎ (o ≡ progress.Done tt)
  deferring_less s x y o is st = elim (defer_ends deferred_word (LAST_SLOT + 1) v came_so.good i s x is m2 (y, o) st)
      as (λ _. ((o ≡ progress.Goes) × (left m2 (Defers s y) < left v.memory (Defers s x))) ⊎ (o ≡ progress.Done tt)) [
        | inl on ↦ (let less = on.1 in inl (on.0, omega (arith, less)))
        | inr done ↦ inr done
      ]

-- less is left to the row, and the numbers before that are as they were
pub row_lowers : {K V : Type 0} (m m2 : Mem (Node K V)) (xs ys : List ℕ) (row row2 x y : Row) → ys ≡ xs → row ≡ x → row2 ≡ y → left m2 y < left m x → IsBelow (with_left ys m2 row2) (with_left xs m row)
row_lowers {K} {V} m m2 xs ys row row2 x y same is is2 less =
    subst (λ (zs : List ℕ). IsBelow (with_left zs m2 row2) (with_left xs m row)) (sym same)
    (subst (λ (r : Row). IsBelow (with_left xs m2 r) (with_left xs m row)) (sym is2) (subst (λ (r : Row). IsBelow (with_left xs m2 y) (with_left xs m r)) (sym is) (lower_last xs (left m2 y) (left m x) less)))
