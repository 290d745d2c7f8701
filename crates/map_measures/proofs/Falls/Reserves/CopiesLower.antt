-- A step of a reservation's copying that goes on, or ends it, leads to lower numbers, whatever other callers do.
use Rattle.std.specs.Prelude.{◌-◌, ◌==◌, if◌then◌else◌}
use Rattle.std.proofs.Common.{◌≡◌, ℕ, Bool, true, false, List, ◌∷◌, inl, inr, refl, ap, sym, subst, ◌∙◌, arith}
use Rattle.seize_words.specs.OneMemory.Mem.{Mem, Took, value_at}
use Rattle.seize_words.specs.OneMemory.Plan.{Steps}
use Rattle.seize.specs.declared.rows.settle.Settle.{Settle}
use Rattle.map_tables.specs.declared.node.Node.{Node}
use Rattle.map_tables.specs.declared.setting.Setting.{Setting}
use Rattle.map_tables.specs.declared.table.Table.{Table}
use Rattle.map_machines.specs.Copier.{copier_plan}
use Rattle.map_machines.specs.CopierPromotes.{table_retired}
use Rattle.map_machines.specs.CopierStates as copying
use Rattle.map_machines.specs.declared.copier.Copier.{Copier}
use Rattle.map_machines.specs.declared.copier.Copying.{Copying}
use Rattle.map_machines.specs.declared.copier.Copying.TheVariants as copies
use Rattle.map_machines.specs.declared.yielding.Yielding.{Yielding}
use Rattle.map_machines.specs.declared.yielding.Yielding.TheVariants as outcome
use Rattle.map_machines.specs.declared.sum.Sum.{Sum}
use Rattle.map_sweeps.specs.declared.reserve.Reserving.TheVariants as at
use Rattle.many_calls.specs.Given.RuleChart.{Chart}
use Rattle.many_calls.specs.Given.RuleWords.{Blocks}
use Rattle.many_calls.specs.Given.PointsMeasures.{IsBelow}
use Rattle.many_calls.specs.Given.PointsTold.{IsRowOfCopier}
use Rattle.map_measures.specs.Falls.Copies.{number_at, number_of_copier}
use Rattle.map_measures.specs.Falls.CopiesBlocking.{number_at as blocking_at, number_of_copier_blocking, targets}
use Rattle.map_measures.proofs.Falls.Onward.{Onward}
use Rattle.map_measures.proofs.Falls.Calls.Inner.{targets_first}
use Rattle.map_measures.proofs.Falls.Copiers.CopierOn.{FallsTo, CopierOn}
use Rattle.map_measures.proofs.Falls.Copiers.Incremental.{copied_on}
use Rattle.map_measures.proofs.Falls.Copiers.Blocking.{copied_on_blocking}
use Rattle.map_measures.proofs.Falls.Copiers.CopiersTarget.{target_stays}
use Rattle.map_measures.proofs.Falls.Reserves.Lower.{Lowered, lowers_linked, lowers_kept}
use Rattle.map_measures.proofs.Falls.Reserves.Stands.{WholeStands}

-- what falls first falls alone, too
with_first : (x y : ℕ) (xs ys us vs : List ℕ) → xs ≡ x ∷ us → ys ≡ y ∷ vs → IsBelow xs ys → IsBelow (x ∷ 4 ∷ xs) (y ∷ 4 ∷ ys)
with_first x y xs ys us vs is is2 below = by (subst (IsBelow (x ∷ us)) is2 (subst (λ (zs : List ℕ). IsBelow zs ys) is below))
  where
    by : IsBelow (x ∷ us) (y ∷ vs) → IsBelow (x ∷ 4 ∷ xs) (y ∷ 4 ∷ ys)
    by (inl l) = inl l
    by (inr h) = inr (h.0, inr (refl, below))

-- a table was retired
pub retired_lowers : {K : Type 0} (incremental : Bool) (c : Chart K) (blocks : Blocks) (copier : Copier) (first settle : Settle) (rest : ℕ) → copier.stands ≡ copies.Retires first rest
    → Lowered incremental c blocks c blocks (at.Copies copier) (at.Copies (table_retired (copying.standing copier (copies.Retires settle rest)) rest))
retired_lowers incremental c blocks copier first settle rest is =
    subst (λ (x : Copier). Lowered incremental c blocks c blocks (at.Copies x) (at.Copies (table_retired (copying.standing copier (copies.Retires settle rest)) rest)))
    (sym (ap (λ (x : Copying). copying.standing copier x) is)) (by incremental (rest == 0) refl)
  where
    by : (b none : Bool) → (rest == 0) ≡ none
        → Lowered b c blocks c blocks (at.Copies (copying.standing copier (copies.Retires first rest)))
        (at.Copies (if none then copying.standing (copying.standing copier (copies.Retires settle rest)) copies.Over else copying.standing (copying.standing copier (copies.Retires settle rest)) (copies.Succeeds rest)))
    by true true e = inr (refl, inr (refl, inr (refl, inl (omega arith))))
    by true false e = inr (refl, inr (refl, inr (refl, inr (refl, rw e (inr (refl, inl (omega arith)))))))
    by false true e = inr (refl, inr (refl, inr (refl, inr (refl, inl (omega arith)))))
    by false false e = inr (refl, inr (refl, inr (refl, inr (refl, inr (refl, rw e (inr (refl, inl (omega arith))))))))

module _ {K V : Type 0} (same : K → K → Bool) (hash : K → ℕ) (setting : Setting) (m : Mem (Node K V)) (c : Chart K) (blocks : Blocks) (m2 : Mem (Node K V)) (c2 : Chart K) (blocks2 : Blocks)
    (on : Onward same hash setting m c blocks m2 c2 blocks2) (copier : Copier) (none : IsRowOfCopier copier.stands → ⊥) where
  -- where its copier goes on, or has come to its end
  abbrev pub CopyFalls : Bool → Copier × Yielding (Node K V) Table → Type 0
  CopyFalls b (copier2, outcome.Goes) = Lowered b c blocks c2 blocks2 (at.Copies copier) (at.Copies copier2)
  CopyFalls b (copier2, outcome.Done root) = (sum : Sum) → Lowered b c blocks c2 blocks2 (at.Copies copier) (at.Sums root sum)
  CopyFalls b (copier2, outcome.Waits) = Unit {0}
  CopyFalls b (copier2, outcome.Gave value) = Lowered b c blocks c2 blocks2 (at.Copies copier) (at.Copies copier2)
  CopyFalls b (copier2, outcome.Refused fault) = Unit {0}

  -- at its end, it has its target
  done_falls : (b : Bool) (table : Table) (sum : Sum) → (c2.past ≡ c.past) × (table ≡ copier.target) → Lowered b c blocks c2 blocks2 (at.Copies copier) (at.Sums table sum)
  done_falls b table sum done =
      lowers_kept b c blocks c2 blocks2 done.0 (at.Copies copier) (at.Sums table sum) (omega arith)
      (inr (ap (λ (x : ℕ). x - table.turn) done.0 ∙ ap (λ (x : Table). c.past - x.turn) done.1, inl (omega arith)))

  -- in incremental mode
  bits_further : (copier2 : Copier) → copier2.target ≡ copier.target → FallsTo c.past c2.past (number_at c blocks copier) (number_of_copier c2 blocks2) copier.stands copier2
      → Lowered true c blocks c2 blocks2 (at.Copies copier) (at.Copies copier2)
  bits_further copier2 target (inl linked) = lowers_linked true c blocks c2 blocks2 (at.Copies copier) (at.Copies copier2) linked.0 linked.1 linked.2
  bits_further copier2 target (inr own) =
      lowers_kept true c blocks c2 blocks2 own.0 (at.Copies copier) (at.Copies copier2) own.1
      (inr (ap (λ (x : ℕ). x - copier2.target.turn) own.0 ∙ ap (λ (x : Table). c.past - x.turn) target, inr (refl, own.2)))

  bits_fall : (copier2 : Copier) → copier2.target ≡ copier.target → (told : Yielding (Node K V) Table)
      → CopierOn c.past c2.past (number_at c blocks copier) (number_of_copier c2 blocks2) copier copier.stands (copier2, told) → CopyFalls true (copier2, told)
  bits_fall copier2 target outcome.Goes falls = bits_further copier2 target falls
  bits_fall copier2 target (outcome.Done table) done = λ sum. done_falls true table sum done
  bits_fall copier2 target outcome.Waits on_it = tt
  bits_fall copier2 target (outcome.Gave value) falls = bits_further copier2 target falls
  bits_fall copier2 target (outcome.Refused fault) on_it = tt

  -- and in blocking mode
  once_further : (copier2 : Copier) → FallsTo c.past c2.past (blocking_at c blocks copier) (number_of_copier_blocking c2 blocks2) copier.stands copier2
      → Lowered false c blocks c2 blocks2 (at.Copies copier) (at.Copies copier2)
  once_further copier2 (inl linked) = lowers_linked false c blocks c2 blocks2 (at.Copies copier) (at.Copies copier2) linked.0 linked.1 linked.2
  once_further copier2 (inr own) =
      let f = targets_first c blocks copier copier.stands in
      let f2 = targets_first c2 blocks2 copier2 copier2.stands in
      lowers_kept false c blocks c2 blocks2 own.0 (at.Copies copier) (at.Copies copier2) own.1
      (with_first (targets c2 blocks2 copier2) (targets c blocks copier) (number_of_copier_blocking c2 blocks2 copier2) (number_of_copier_blocking c blocks copier) f2.0 f.0 f2.1 f.1 own.2)

  once_falls : (copier2 : Copier) (told : Yielding (Node K V) Table)
      → CopierOn c.past c2.past (blocking_at c blocks copier) (number_of_copier_blocking c2 blocks2) copier copier.stands (copier2, told) → CopyFalls false (copier2, told)
  once_falls copier2 outcome.Goes falls = once_further copier2 falls
  once_falls copier2 (outcome.Done table) done = λ sum. done_falls false table sum done
  once_falls copier2 outcome.Waits on_it = tt
  once_falls copier2 (outcome.Gave value) falls = once_further copier2 falls
  once_falls copier2 (outcome.Refused fault) on_it = tt

  pub copies_fall : (b : Bool) → WholeStands setting m c blocks b copier → (end : Copier × Yielding (Node K V) Table) → Steps Took value_at m (copier_plan hash copier) m2 end → CopyFalls b end
  copies_fall true (bits, keeps, stands) end s =
      bits_fall end.0 (target_stays hash copier m m2 end s keeps) end.1 (copied_on same hash setting m c blocks m2 c2 blocks2 on copier bits stands none end s)
  copies_fall false (blocking, stands) end s = once_falls end.0 end.1 (copied_on_blocking same hash setting m c blocks m2 c2 blocks2 on copier blocking stands none end s)
