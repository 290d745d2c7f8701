-- A reservation asks for as many further pairs as it was begun for, at each of its steps.
use Rattle.std.specs.Prelude.{◌≡◌, ℕ, ◌^◌, ◌==◌, nat_lt, if◌then◌else◌, Bool, true, false}
use Rattle.std.proofs.Common.{refl}
use Rattle.map_facts.specs.Given.SeizeWordsDeclared.fault.Fault.TheVariants.{Capacity}
use Rattle.map_facts.specs.Given.SeizeWordsMem.{Mem, value_at, Took}
use Rattle.map_facts.specs.Given.SeizeWordsOp.{Out, Found, Stored, Exchanged, Made, Taken, Roomed}
use Rattle.map_facts.specs.Given.SeizeWordsPlan.{Steps}
use Rattle.map_facts.specs.Given.SeizeDeclared.advance.Advance.{Advance}
use Rattle.map_facts.specs.Given.SeizeDeclared.advance.Advance.TheVariants as progress
use Rattle.map_facts.specs.Given.ResizeCopier.{copier_plan}
use Rattle.map_facts.specs.Given.ResizeNewTable.{new_table_plan}
use Rattle.map_facts.specs.Given.ReservesReserve.{standing, needed, refusing, enough, summed, made, grown, copied, root_read, next_read, plan_at, reserve_plan}
use Rattle.map_facts.specs.Given.ResizeSum.{sum_plan}
use Rattle.map_facts.specs.Given.TablesDeclared.node.Node.{Node}
use Rattle.map_facts.specs.Given.ResizeDeclared.yielding.Yielding.{Yielding}
use Rattle.map_facts.specs.Given.ResizeDeclared.yielding.Yielding.TheVariants as outcome
use Rattle.map_facts.specs.Given.TablesDeclared.table.Table.{Table}
use Rattle.map_facts.specs.Given.ResizeDeclared.copier.Copier.{Copier}
use Rattle.map_facts.specs.Given.ResizeDeclared.new_table.NewTable.{NewTable}
use Rattle.map_facts.specs.Given.ReservesDeclared.reserve.Reserve.{Reserve}
use Rattle.map_facts.specs.Given.ReservesDeclared.reserve.Reserving.{Reserving}
use Rattle.map_facts.specs.Given.ReservesDeclared.reserve.Reserving.TheVariants as at
use Rattle.map_facts.specs.Given.ResizeDeclared.sum.Sum.{Sum}
use Rattle.map_facts.proofs.Given.RuleKeys.Always.{Always, AlwaysOf, always_if, always_plan_as, always_steps}

module _ (K V : Type 0) (hash : K → ℕ) (p : Reserve) where
  abbrev AsksSo : Reserve × Yielding (Node K V) Unit → Type 0
  AsksSo end = end.0.additional ≡ p.additional

  enough_asks : (table : Table) (need : ℕ) → AsksSo (enough p table need)
  enough_asks table need = by (nat_lt (2 ^ 48) need) (nat_lt table.len need)
    where
      by : (long short : Bool) → AsksSo (if long then refusing p Capacity else (if short then (standing p (at.Follows table need), outcome.Goes) else (standing p at.Over, outcome.Done tt)))
      by true short = refl
      by false true = refl
      by false false = refl

  summed_asks : (table : Table) (end : Sum × Advance ℕ) → AsksSo (summed p table end)
  summed_asks table (sum, progress.Goes) = refl
  summed_asks table (sum, progress.Waits) = refl
  summed_asks table (sum, progress.Done count) = enough_asks table (needed p.additional count)
  summed_asks table (sum, progress.Refused fault) = refl

  made_asks : (end : NewTable × Advance Table) → AsksSo (made p end)
  made_asks (making, progress.Goes) = refl
  made_asks (making, progress.Waits) = refl
  made_asks (making, progress.Done table) = refl
  made_asks (making, progress.Refused fault) = refl

  grown_asks : (table : Table) (end : NewTable × Advance Table) → AsksSo (grown p table end)
  grown_asks table (making, progress.Goes) = refl
  grown_asks table (making, progress.Waits) = refl
  grown_asks table (making, progress.Done next) = refl
  grown_asks table (making, progress.Refused fault) = refl

  copied_asks : (end : Copier × Yielding (Node K V) Table) → AsksSo (copied p end)
  copied_asks (copier, outcome.Goes) = refl
  copied_asks (copier, outcome.Waits) = refl
  copied_asks (copier, outcome.Gave value) = refl
  copied_asks (copier, outcome.Done table) = refl
  copied_asks (copier, outcome.Refused fault) = refl

  root_asks : (out : Out (Node K V)) → Always AsksSo (root_read p out)
  root_asks (Found root) = always_if AsksSo (root == 0) _ _ refl (λ value. refl)
  root_asks Stored = refl
  root_asks (Exchanged r) = refl
  root_asks (Made r) = refl
  root_asks (Taken value) = refl
  root_asks (Roomed r) = refl

  follows_asks : (table : Table) (need : ℕ) (out : Out (Node K V)) → Always AsksSo (next_read p table need out)
  follows_asks table need (Found link) = always_if AsksSo (link == 0) _ _ refl (λ value. refl)
  follows_asks table need Stored = refl
  follows_asks table need (Exchanged r) = refl
  follows_asks table need (Made r) = refl
  follows_asks table need (Taken value) = refl
  follows_asks table need (Roomed r) = refl

  always_asks : (stage : Reserving) → AlwaysOf AsksSo (plan_at hash p stage)
  always_asks at.Reads = root_asks
  always_asks (at.Makes making) = always_plan_as AsksSo (made p) made_asks (new_table_plan making)
  always_asks (at.Sums table sum) = always_plan_as AsksSo (summed p table) (summed_asks table) (sum_plan sum)
  always_asks (at.Follows table need) = follows_asks table need
  always_asks (at.Grows table making) = always_plan_as AsksSo (grown p table) (grown_asks table) (new_table_plan making)
  always_asks (at.Copies copier) = always_plan_as AsksSo (copied p) copied_asks (copier_plan hash copier)
  always_asks at.Over = refl
  always_asks (at.Refused fault) = refl

  pub reserve_asks : (m m2 : Mem (Node K V)) (end : Reserve × Yielding (Node K V) Unit) → Steps Took value_at m (reserve_plan hash p) m2 end → end.0.additional ≡ p.additional
  reserve_asks m m2 end s = always_steps AsksSo m m2 (reserve_plan hash p) end (always_asks p.stands) s
