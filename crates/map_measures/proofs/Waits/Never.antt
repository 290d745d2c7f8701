-- Machines within calls that never wait, whatever the memory is: lookups, countings, makings of tables, and disposals before their rows.
use Rattle.std.specs.Prelude.{◌/◌, ◌==◌, nat_lt, if◌then◌else◌, Ok, Err, Option, Some, None}
use Rattle.std.proofs.Common.{ℕ, Bool, true, false}
use Rattle.seize_words.specs.OneMemory.Op.{Out, Found, Made, Exchanged}
use Rattle.seize_words.specs.OneMemory.Plan.{Plan, Then, Turn, Do, Now, Seeing, Sure, then_as, plan_as}
use Rattle.seize.specs.declared.advance.Advance.{Advance}
use Rattle.seize.specs.declared.advance.Advance.TheVariants as progress
use Rattle.seize.specs.declared.rows.settle.Settled.{Settled}
use Rattle.seize.specs.declared.rows.settle.Settled.TheVariants as settled
use Rattle.map_tables.specs.Chunks.{is_incremental}
use Rattle.map_tables.specs.Finding.{finding, may_name}
use Rattle.map_tables.specs.Nodes.{table_seen}
use Rattle.map_tables.specs.Trials.{next_trial}
use Rattle.map_tables.specs.declared.finding.Aim.TheVariants.{Looks}
use Rattle.map_tables.specs.declared.finding.Finding.{Finding}
use Rattle.map_tables.specs.declared.finding.Finding.TheVariants as is
use Rattle.map_tables.specs.declared.lengths.Reason.{Reason}
use Rattle.map_tables.specs.declared.node.Node.{Node}
use Rattle.map_tables.specs.declared.table.Table.{Table}
use Rattle.map_tables.specs.declared.trial.Trial.{Trial}
use Rattle.map_machines.specs.Lookup as lookups
use Rattle.map_machines.specs.Sum as sums
use Rattle.map_machines.specs.NewTable as tables
use Rattle.map_machines.specs.Dispose as disposals
use Rattle.map_machines.specs.declared.dispose.Dispose.{Dispose}
use Rattle.map_machines.specs.declared.dispose.Disposing.{Disposing}
use Rattle.map_machines.specs.declared.dispose.Disposing.TheVariants as disposing
use Rattle.map_machines.specs.declared.lookup.Lookup.{Lookup}
use Rattle.map_machines.specs.declared.lookup.Looking.{Looking}
use Rattle.map_machines.specs.declared.lookup.Looking.TheVariants as looking
use Rattle.map_machines.specs.declared.new_table.NewTable.{NewTable}
use Rattle.map_machines.specs.declared.new_table.Making.{Making}
use Rattle.map_machines.specs.declared.new_table.Making.TheVariants as making
use Rattle.map_machines.specs.declared.sum.Sum.{Sum}
use Rattle.map_machines.specs.declared.sum.Summing.{Summing}
use Rattle.map_machines.specs.declared.sum.Summing.TheVariants as summing
use Rattle.many_calls.specs.Given.PointsTold.{IsRowOf}
use Rattle.many_calls.proofs.Given.RuleKeys.Always.{Always, AlwaysOf, always_if}

-- what is so of each outcome within is so, turned, of each outcome of the whole
module _ {T A B : Type 0} (Q : A → Type 0) (P : B → Type 0) (f : A → B) (turned : (a : A) → Q a → P (f a)) where
  always_then : (rest : Then T A) → Always Q rest → Always P (then_as f rest)
  always_then (Now end) all = turned end all
  always_then (Seeing block rest) all = λ value. always_then (rest value) (all value)
  always_then (Sure fact rest) all = always_then rest all

  pub always_within : (plan : Plan T A) → AlwaysOf Q plan → AlwaysOf P (plan_as f plan)
  always_within (Turn rest) all = always_then rest all
  always_within (Do op rest) all = λ out. always_then (rest out) (all out)

-- it goes on, or has ended
abbrev pub Advances : {A S : Type 0} → S × Advance A → Type 0
Advances (s, progress.Waits) = ⊥
Advances (s, _) = Unit {0}

abbrev pub Settles : {T S : Type 0} → S × Settled T → Type 0
Settles (s, settled.Waits) = ⊥
Settles (s, _) = Unit {0}

module _ (l : Lookup) where
  beyond_goes : (table : Table) (b : Bool) → Advances (if b then lookups.going l (looking.Nexts table) else lookups.answered l None)
  beyond_goes table true = tt
  beyond_goes table false = tt

  passed_goes : (table : Table) (next : Option Trial) → Advances (lookups.passed l table next)
  passed_goes table (Some trial) = tt
  passed_goes table None = beyond_goes table (is_incremental l.mode)

  told_goes : (trial : Trial) (word : ℕ) (x : Finding) → Advances (lookups.after_finding l trial word x)
  told_goes trial word is.Free = tt
  told_goes trial word is.Passed = passed_goes trial.table (next_trial trial)
  told_goes trial word is.Moved = tt
  told_goes trial word is.Copying = tt
  told_goes trial word is.There = tt

module _ {K : Type 0} (V : Type 0) (keys : K → Bool) (l : Lookup) where
  abbrev Looks_on : Lookup × Advance (Option ℕ) → Type 0
  Looks_on = Advances

  link_goes : (out : Out (Node K V)) → Always Looks_on (lookups.link_found l out)
  link_goes (Found link) = always_if Looks_on (link == 0) _ _ tt (λ value. tt)
  link_goes _ = tt

  word_goes : (trial : Trial) (out : Out (Node K V)) → Always Looks_on (lookups.word_found keys l trial out)
  word_goes trial (Found word) =
      always_if Looks_on (may_name l.hash word) _ _ (λ value. told_goes l trial word (finding l.mode Looks word (lookups.names_pair keys value)))
      (told_goes l trial word (finding l.mode Looks word false))
  word_goes trial _ = tt

  looks_at : (stands : Looking) → AlwaysOf Looks_on (lookups.plan_at {K = K} {V = V} keys l stands)
  looks_at looking.Roots = link_goes
  looks_at (looking.Probes trial) = word_goes trial
  looks_at (looking.Nexts table) = link_goes
  looks_at (looking.Over found) = tt

  pub lookup_goes : AlwaysOf Looks_on (lookups.lookup_plan {K = K} {V = V} keys l)
  lookup_goes = looks_at l.stands

module _ (T : Type 0) (sum : Sum) where
  abbrev Sums_on : Sum × Advance ℕ → Type 0
  Sums_on = Advances

  added_goes : (shard total : ℕ) (out : Out T) → Always Sums_on (sums.added sum shard total out)
  added_goes shard total (Found word) = always_if Sums_on (nat_lt shard sum.setting.mask) _ _ tt tt
  added_goes shard total _ = tt

  sums_at : (stands : Summing) → AlwaysOf Sums_on (sums.plan_at {T = T} sum stands)
  sums_at (summing.Adds shard total) = added_goes shard total
  sums_at (summing.Over count) = tt

  pub sum_goes : AlwaysOf Sums_on (sums.sum_plan {T = T} sum)
  sum_goes = sums_at sum.stands

module _ (K V : Type 0) (n : NewTable) where
  abbrev Makes_on : NewTable × Advance Table → Type 0
  Makes_on = Advances

  counted_goes : (before : Table) (reason : Reason) (to : Sum × Advance ℕ) → Advances to → Makes_on (tables.counted n before reason to)
  counted_goes before reason (sum, progress.Goes) on = tt
  counted_goes before reason (sum, progress.Waits) on = on
  counted_goes before reason (sum, progress.Done count) on = tt
  counted_goes before reason (sum, progress.Refused fault) on = tt

  made_goes : (table : Table) (out : Out (Node K V)) → Always Makes_on (tables.made n table out)
  made_goes table (Made (Ok block)) = tt
  made_goes table (Made (Err value)) = tt
  made_goes table _ = tt

  linked_goes : (table : Table) (out : Out (Node K V)) → Always Makes_on (tables.linked n table out)
  linked_goes table (Exchanged (Ok found)) = tt
  linked_goes table (Exchanged (Err found)) = tt
  linked_goes table _ = tt

  makes_at : (stands : Making) → AlwaysOf Makes_on (tables.plan_at {K = K} {V = V} n stands)
  makes_at (making.Sums before reason sum) =
      always_within Advances Makes_on (tables.counted n before reason) (counted_goes before reason) (sums.sum_plan sum) (sum_goes (Node K V) sum)
  makes_at (making.Makes table) = made_goes table
  makes_at (making.Promotes table) = λ out. tt
  makes_at (making.Links table) = linked_goes table
  makes_at (making.Drops table found) = λ out value. tt
  makes_at (making.Over table) = tt
  makes_at (making.Refused fault) = tt

  pub new_table_goes : AlwaysOf Makes_on (tables.new_table_plan {K = K} {V = V} n)
  new_table_goes = makes_at n.stands

module _ (K V : Type 0) (d : Dispose) where
  abbrev Disposes_on : Dispose × Settled (Node K V) → Type 0
  Disposes_on = Settles

  root_goes : (out : Out (Node K V)) → Always Disposes_on (disposals.root_read d out)
  root_goes (Found root) = λ value. always_if Disposes_on (nat_lt (table_seen root value).turn d.table.turn) _ _ tt tt
  root_goes _ = tt

  walked_goes : (link : ℕ) (out : Out (Node K V)) → Always Disposes_on (disposals.walked d link out)
  walked_goes link (Found next) = always_if Disposes_on (next / 2048 == d.table.link / 2048) _ _ tt tt
  walked_goes link _ = tt

  disposes_at : (stands : Disposing) → (IsRowOf stands → ⊥) → AlwaysOf Disposes_on (disposals.plan_at {K = K} {V = V} d stands)
  disposes_at disposing.Reads none = root_goes
  disposes_at (disposing.Walks link) none = walked_goes link
  disposes_at disposing.Over none = tt
  disposes_at (disposing.Settles settle) none = absurd (none tt)
  disposes_at (disposing.Defers defer) none = absurd (none tt)

  pub dispose_goes : (IsRowOf d.stands → ⊥) → AlwaysOf Disposes_on (disposals.dispose_plan {K = K} {V = V} d)
  dispose_goes none = disposes_at d.stands none
