-- A step of a row within which a copier is: what it was to hand over next it has begun to retire, and it is to come to the tables behind still.
use Rattle.std.specs.Prelude.{◌≢◌, ◌*◌, ◌==◌, if◌then◌else◌}
use Rattle.std.proofs.Common.{◌≡◌, ℕ, Bool, true, false, refl, arith, sym, subst}
use Rattle.std.proofs.lemmas.Bool.{ne_eqb}
use Rattle.run_shows.specs.Given.SeizeWordsMem.{Mem, Took, value_at}
use Rattle.run_shows.specs.Given.SeizeWordsPlan.{Steps}
use Rattle.run_shows.specs.Given.SeizeSettle.{settle_plan}
use Rattle.run_shows.specs.Given.SeizeWorld.{Row, Settles}
use Rattle.run_shows.specs.Given.SeizeDeclared.rows.settle.Settle.{Settle}
use Rattle.run_shows.specs.Given.SeizeDeclared.rows.settle.Settled.{Settled}
use Rattle.run_shows.specs.Given.SeizeDeclared.rows.settle.Settled.TheVariants as settled
use Rattle.seize_acts.proofs.Given.SeizeRuleRows.Leaving.{steps_back}
use Rattle.run_shows.specs.Given.TablesNodes.{deferred_word}
use Rattle.run_shows.specs.Given.TablesDeclared.node.Node.{Node}
use Rattle.run_shows.specs.Given.TablesDeclared.table.Table.{Table}
use Rattle.run_shows.specs.Given.ResizeCopier.{plan_at as copier_plan_at}
use Rattle.run_shows.specs.Given.ResizeCopierPromotes.{retired}
use Rattle.run_shows.specs.Given.ResizeCopierStates.{standing}
use Rattle.run_shows.specs.Given.ResizeDeclared.copier.Copier.{Copier}
use Rattle.run_shows.specs.Given.ResizeDeclared.copier.Copying.{Copying}
use Rattle.run_shows.specs.Given.ResizeDeclared.copier.Copying.TheVariants as copies
use Rattle.run_shows.specs.Given.ResizeDeclared.yielding.Yielding.{Yielding}
use Rattle.owner_facts.specs.Given.PointsTold.{IsRowOfCopier}
use Rattle.owner_facts.specs.Given.CallersRows.{row_of_copier}
use Rattle.many_acts.specs.Carries.Theirs.{IsObligedAt, IsAhead, next_of_them}
use Rattle.many_acts.proofs.Carries.FirstSteps.{IsRetiring, retires_first}
use Rattle.owner_facts.specs.Maps.EndingsReserves.{HasMore as IsOn}

-- this row is the retirement of this block, which has begun
abbrev pub IsItsRow : ℕ → Row → Type 0
IsItsRow b row = (d : Settle) × (row ≡ Settles d) × (d.pending ≡ b * 2048)

module _ {K V : Type 0} (copier : Copier) (rest : ℕ) where
  -- it is within the retirement of this block
  abbrev IsWithin : ℕ → Copier × Yielding (Node K V) Table → Type 0
  IsWithin b end = IsItsRow b (row_of_copier end.0.stands)

  by_settle : (b : ℕ) (end : Settle × Settled (Node K V)) → IsRetiring deferred_word (b * 2048) end → IsWithin b (retired copier rest end)
  by_settle b (d, settled.Goes) is = (d, refl, is)
  by_settle b (d, settled.Waits) is = (d, refl, is)
  by_settle b (d, settled.Gave value) is = (d, refl, is)
  by_settle b (d, settled.Done) is = absurd is

  -- it goes on, up to the same target, and comes to the same table next, if to one
  abbrev ComesNext : Copier × Yielding (Node K V) Table → Type 0
  ComesNext end = IsOn end.1 × (end.0.target ≡ copier.target) × (rest ≢ 0 → next_of_them end.0 end.0.stands ≡ rest)

  by_retired : (end : Settle × Settled (Node K V)) → ComesNext (retired copier rest end)
  by_retired (d, settled.Goes) = (tt, refl, λ some. refl)
  by_retired (d, settled.Waits) = (tt, refl, λ some. refl)
  by_retired (d, settled.Gave value) = (tt, refl, λ some. refl)
  by_retired (d, settled.Done) = (tt, target (rest == 0), λ some. next (rest == 0) (ne_eqb rest 0 some))
    where
      goes : Bool → Copier
      goes none = if none then standing copier copies.Over else standing copier (copies.Succeeds rest)

      target : (none : Bool) → (goes none).target ≡ copier.target
      target true = refl
      target false = refl

      next : (none : Bool) → none ≡ false → next_of_them (goes none) (goes none).stands ≡ rest
      next true e = absurd (cc e)
      next false e = refl

module _ {K V : Type 0} (hash : K → ℕ) (p : Copier) (m m2 : Mem (Node K V)) (end : Copier × Yielding (Node K V) Table) where
  -- by the first step of a retirement that is due
  pub row_within : (b : ℕ) (stands : Copying) → IsRowOfCopier stands → IsObligedAt p stands b → Steps Took value_at m (copier_plan_at hash p stands) m2 end → IsItsRow b (row_of_copier end.0.stands)
  row_within b (copies.Retires settle rest) row due s =
      let k = steps_back (retired p rest) m m2 (settle_plan deferred_word settle) end s in
      subst (λ (e : Copier × Yielding (Node K V) Table). IsItsRow b (row_of_copier e.0.stands)) (sym k.2)
      (by_settle p rest b k.0 (retires_first deferred_word p.setting.slot p.setting.batch_size (b * 2048) m m2 k.0
      (subst (λ (x : Settle). Steps Took value_at m (settle_plan deferred_word x) m2 k.0) due k.1)))
  row_within b _ row due s = absurd row

  -- by any step of one
  abbrev GoesNext : Copying → Copier × Yielding (Node K V) Table → Type 0
  GoesNext stands e = IsOn e.1 × (e.0.target ≡ p.target) × (next_of_them p stands ≢ 0 → next_of_them e.0 e.0.stands ≡ next_of_them p stands)

  pub row_goes : (stands : Copying) → IsRowOfCopier stands → Steps Took value_at m (copier_plan_at hash p stands) m2 end → GoesNext stands end
  row_goes (copies.Retires settle rest) row s =
      let k = steps_back (retired p rest) m m2 (settle_plan deferred_word settle) end s in subst (GoesNext (copies.Retires settle rest)) (sym k.2) (by_retired p rest k.0)
  row_goes _ row s = absurd row

-- what is ahead of it is so still
pub ahead_next : (past : ℕ) (table : ℕ → ℕ) (p q : Copier) → q.target ≡ p.target → (next_of_them p p.stands ≢ 0 → next_of_them q q.stands ≡ next_of_them p p.stands) → (b : ℕ)
    → IsAhead past table (next_of_them p p.stands) p.target.turn b → IsAhead past table (next_of_them q q.stands) q.target.turn b
ahead_next past table p q target next b ahead =
    subst (λ (x : ℕ). IsAhead past table x q.target.turn b) (sym (next some)) (subst (λ (x : Table). IsAhead past table (next_of_them p p.stands) x.turn b) (sym target) ahead)
  where
    some : next_of_them p p.stands ≢ 0
    some e = let named = ahead.1.named in let there = ahead.1.some in omega (arith, named, there, e)
