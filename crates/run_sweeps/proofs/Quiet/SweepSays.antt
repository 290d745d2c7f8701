-- What a step of a sweep says, by what it is for: a walk that has come to no pair yet goes on so, or is ready; and one that removes pairs shows none.
use Rattle.std.specs.Prelude.{◌≡◌, ◌==◌, ◌&&◌, ℕ, nat_lt, Bool, true, false, Ok, Err, if◌then◌else◌}
use Rattle.std.proofs.Common.{refl, sym, subst}
use Rattle.run_schedules.specs.Given.SeizeWordsOp.{Out, Found, Stored, Exchanged, Made, Taken, Roomed}
use Rattle.run_schedules.specs.Given.SeizeWordsPlan.{plan_as}
use Rattle.run_schedules.specs.Given.SeizeWordsWord.{block_in}
use Rattle.papaya_raw.specs.Given.SeizeDeclared.rows.settle.Settled.{Settled}
use Rattle.papaya_raw.specs.Given.SeizeDeclared.rows.settle.Settled.TheVariants as settled
use Rattle.papaya_raw.specs.Given.TablesChunks.{is_incremental}
use Rattle.papaya_raw.specs.Given.TablesMarks.{has_mark}
use Rattle.papaya_raw.specs.Given.TablesNodes.{table_seen}
use Rattle.papaya_raw.specs.Given.TablesDeclared.marks.TheConstants.{COPYING}
use Rattle.papaya_raw.specs.Given.TablesDeclared.node.Node.{Node}
use Rattle.papaya_raw.specs.Given.TablesDeclared.table.Table.{Table}
use Rattle.papaya_raw.specs.Given.ResizeCopier.{copier_plan}
use Rattle.papaya_raw.specs.Given.ResizeDispose.{dispose_plan}
use Rattle.run_finds.specs.Given.ResizeDeclared.copier.Copier.{Copier}
use Rattle.run_finds.specs.Given.ResizeDeclared.dispose.Dispose.{Dispose}
use Rattle.run_finds.specs.Given.ResizeDeclared.yielding.Yielding.{Yielding}
use Rattle.run_finds.specs.Given.ResizeDeclared.yielding.Yielding.TheVariants as outcome
use Rattle.papaya_raw.specs.Given.SweepsSweep.{copied, disposed, next_read, plan_at, root_read, tried, word_found}
use Rattle.papaya_raw.specs.Given.SweepsSweepPoints.{at_pair, beginning, entering, further, past, removes, seen, tableless, told, telling}
use Rattle.papaya_raw.specs.Given.ReservesDeclared.sweep.Purpose.{Purpose}
use Rattle.papaya_raw.specs.Given.ReservesDeclared.sweep.Purpose.TheVariants.{Walks, Clears, Retains}
use Rattle.papaya_raw.specs.Given.ReservesDeclared.sweep.Sweep.{Sweep}
use Rattle.papaya_raw.specs.Given.ReservesDeclared.sweep.Sweeping.{Sweeping}
use Rattle.papaya_raw.specs.Given.ReservesDeclared.sweep.Sweeping.TheVariants as at
use Rattle.papaya_raw.specs.Given.ReservesDeclared.sweep.Swept.{Swept}
use Rattle.papaya_raw.specs.Given.ReservesDeclared.sweep.Swept.TheVariants as ends
use Rattle.papaya_raw.specs.Machine.{swept}
use Rattle.papaya_raw.specs.declared.machines.machine.Machine.{Machine}
use Rattle.papaya_raw.specs.declared.machines.machine.Machine.TheVariants as kinds
use Rattle.papaya_raw.specs.declared.machines.progress.Progress.{Progress}
use Rattle.papaya_raw.specs.declared.machines.progress.Progress.TheVariants as progress
use Rattle.run_finds.proofs.Given.RuleKeys.Always.{Always, AlwaysOf, always_if, always_plan_as}
use Rattle.run_finds.specs.Given.EffectsDeclared.changed.Changed.TheVariants.{Nothing}
use Rattle.run_finds.proofs.Given.HistoriesAsking.{always_told, always_turned}
use Rattle.run_finds.specs.Given.NamedMachines.{IsBefore}
use Rattle.run_finds.specs.Given.ScenesHeld.{Held}
use Rattle.run_finds.specs.Given.ScenesStepping.{StepsFrom}

-- a walk before its first pair
module _ (K V : Type 0) (p : Sweep) (walks : p.purpose ≡ Walks) where
  abbrev Says : Swept (Node K V) → Sweeping → Type 0
  Says ends.Goes stands = IsBefore stands
  Says ends.Waits stands = IsBefore stands
  Says (ends.Gave value) stands = IsBefore stands
  Says ends.Ready stands = stands ≡ at.Ready
  Says (ends.Refused fault) stands = Unit {0}
  Says _ stands = ⊥

  abbrev SaysSo : Sweep × Swept (Node K V) → Type 0
  SaysSo (q, end) = Says end q.stands

  -- where it has no place to go over yet, or begins to go over its table
  begins : (q : Sweep) → q.purpose ≡ Walks → SaysSo (telling (beginning q))
  begins q is = subst (λ (x : Purpose). Says (told (if removes x then at.Words else at.Ready)) (if removes x then at.Words else at.Ready)) (sym is) refl

  without_table : SaysSo (telling (tableless p))
  without_table = subst (λ (x : Purpose). Says (told (if removes x then at.Over else at.Ready)) (if removes x then at.Over else at.Ready)) (sym walks) refl

  enters : (table : Table) → SaysSo (telling (entering p table))
  enters table = by (is_incremental p.setting.mode)
    where
      by : (b : Bool) → SaysSo (telling (if b then record p { table = table; stands = at.Follows } else beginning (record p { table = table })))
      by true = tt
      by false = begins (record p { table = table }) walks

  root_says : (out : Out (Node K V)) → IsBefore p.stands → Always SaysSo (root_read p out)
  root_says (Found root) before = always_if SaysSo (root == 0) _ _ without_table (λ value. enters (table_seen root value))
  root_says Stored before = before
  root_says (Exchanged r) before = before
  root_says (Made r) before = before
  root_says (Taken value) before = before
  root_says (Roomed r) before = before

  next_says : (out : Out (Node K V)) → IsBefore p.stands → Always SaysSo (next_read p out)
  next_says (Found link) before = always_if SaysSo (link == 0) _ _ (begins p walks) (λ value. tt)
  next_says Stored before = before
  next_says (Exchanged r) before = before
  next_says (Made r) before = before
  next_says (Taken value) before = before
  next_says (Roomed r) before = before

  copied_says : (end : Copier × Yielding (Node K V) Table) → SaysSo (copied p end)
  copied_says (c, outcome.Goes) = tt
  copied_says (c, outcome.Waits) = tt
  copied_says (c, outcome.Gave value) = tt
  copied_says (c, outcome.Done root) = enters root
  copied_says (c, outcome.Refused fault) = tt

  pub walk_from : (hash : K → ℕ) (stands : Sweeping) → p.stands ≡ stands → IsBefore stands → AlwaysOf SaysSo (plan_at hash p stands)
  walk_from hash at.Reads is before = λ out. root_says out (subst IsBefore (sym is) before)
  walk_from hash at.Follows is before = λ out. next_says out (subst IsBefore (sym is) before)
  walk_from hash (at.Copies copier) is before = always_plan_as SaysSo (copied p) copied_says (copier_plan hash copier)
  walk_from hash _ is before = absurd before

-- one that removes pairs, which is not ready to show any
module _ (K V : Type 0) (p : Sweep) (takes : removes p.purpose ≡ true) where
  abbrev Shows : Swept (Node K V) → Type 0
  Shows ends.Ready = ⊥
  Shows (ends.Pair word) = ⊥
  Shows _ = Unit {0}

  abbrev ShowsSo : Sweep × Swept (Node K V) → Type 0
  ShowsSo (q, end) = Shows end

  begins_not : (q : Sweep) → removes q.purpose ≡ true → ShowsSo (telling (beginning q))
  begins_not q is = subst (λ (b : Bool). Shows (told (if b then at.Words else at.Ready))) (sym is) tt

  tableless_not : ShowsSo (telling (tableless p))
  tableless_not = subst (λ (b : Bool). Shows (told (if b then at.Over else at.Ready))) (sym takes) tt

  enters_not : (table : Table) → ShowsSo (telling (entering p table))
  enters_not table = by (is_incremental p.setting.mode)
    where
      by : (b : Bool) → ShowsSo (telling (if b then record p { table = table; stands = at.Follows } else beginning (record p { table = table })))
      by true = tt
      by false = begins_not (record p { table = table }) takes

  -- the next place, or none
  further_not : (q : Sweep) → ShowsSo (telling (further q))
  further_not q = by (nat_lt (past q).place q.table.len) (removes q.purpose && q.met)
    where
      by : (b c : Bool) → Shows (told (if b then at.Words else (if c then at.Follows else at.Over)))
      by true c = tt
      by false true = tt
      by false false = tt

  pair_not : (purpose : Purpose) (word : ℕ) → removes purpose ≡ true → ShowsSo (at_pair purpose p word)
  pair_not Walks word is = absurd (cc is)
  pair_not Clears word is = tt
  pair_not Retains word is = tt

  seen_not : (word : ℕ) → ShowsSo (seen p word)
  seen_not word = by (removes p.purpose && has_mark word COPYING) (block_in word == 0)
    where
      by : (b z : Bool) → ShowsSo (if b then telling (further (record p { met = true })) else (if z then telling (further p) else at_pair p.purpose p word))
      by true z = further_not (record p { met = true })
      by false true = further_not p
      by false false = pair_not p.purpose word takes

  found_not : (out : Out (Node K V)) → Always ShowsSo (word_found p out)
  found_not (Found word) = seen_not word
  found_not Stored = tt
  found_not (Exchanged r) = tt
  found_not (Made r) = tt
  found_not (Taken value) = tt
  found_not (Roomed r) = tt

  tried_not : (word : ℕ) (out : Out (Node K V)) → Always ShowsSo (tried p word out)
  tried_not word (Exchanged (Ok found)) = tt
  tried_not word (Exchanged (Err found)) = seen_not found
  tried_not word (Found found) = tt
  tried_not word Stored = tt
  tried_not word (Made r) = tt
  tried_not word (Taken value) = tt
  tried_not word (Roomed r) = tt

  root_not : (out : Out (Node K V)) → Always ShowsSo (root_read p out)
  root_not (Found root) = always_if ShowsSo (root == 0) _ _ tableless_not (λ value. enters_not (table_seen root value))
  root_not Stored = tt
  root_not (Exchanged r) = tt
  root_not (Made r) = tt
  root_not (Taken value) = tt
  root_not (Roomed r) = tt

  next_not : (out : Out (Node K V)) → Always ShowsSo (next_read p out)
  next_not (Found link) = always_if ShowsSo (link == 0) _ _ (begins_not p takes) (λ value. tt)
  next_not Stored = tt
  next_not (Exchanged r) = tt
  next_not (Made r) = tt
  next_not (Taken value) = tt
  next_not (Roomed r) = tt

  copied_not : (end : Copier × Yielding (Node K V) Table) → ShowsSo (copied p end)
  copied_not (c, outcome.Goes) = tt
  copied_not (c, outcome.Waits) = tt
  copied_not (c, outcome.Gave value) = tt
  copied_not (c, outcome.Done root) = enters_not root
  copied_not (c, outcome.Refused fault) = tt

  disposed_not : (end : Dispose × Settled (Node K V)) → ShowsSo (disposed p end)
  disposed_not (d, settled.Goes) = tt
  disposed_not (d, settled.Waits) = tt
  disposed_not (d, settled.Gave value) = tt
  disposed_not (d, settled.Done) = further_not p

  pub others_from : (hash : K → ℕ) (stands : Sweeping) → (stands ≡ at.Ready → ⊥) → AlwaysOf ShowsSo (plan_at hash p stands)
  others_from hash at.Reads never = root_not
  others_from hash at.Follows never = next_not
  others_from hash (at.Copies copier) never = always_plan_as ShowsSo (copied p) copied_not (copier_plan hash copier)
  others_from hash at.Words never = found_not
  others_from hash (at.Tries word) never = tried_not word
  others_from hash (at.Counts removed) never = λ out. tt
  others_from hash (at.Disposes dispose) never = always_plan_as ShowsSo (disposed p) disposed_not (dispose_plan dispose)
  others_from hash at.Ready never = absurd (never refl)
  others_from hash (at.Asks word) never = tt
  others_from hash at.Over never = tt
  others_from hash (at.Refused fault) never = tt

-- in the words of a machine
module _ {K V : Type 0} where
  abbrev pub WalkSays : Progress (Node K V) → Sweeping → Type 0
  WalkSays progress.Goes stands = IsBefore stands
  WalkSays progress.Waits stands = IsBefore stands
  WalkSays (progress.Gave value) stands = IsBefore stands
  WalkSays progress.Ready stands = stands ≡ at.Ready
  WalkSays (progress.Refused fault) stands = Unit {0}
  WalkSays _ stands = ⊥

  abbrev pub IsWalkSaying : Machine K V K × Progress (Node K V) → Type 0
  IsWalkSaying (kinds.Sweep q, said) = WalkSays said q.stands
  IsWalkSaying (_, said) = ⊥

  abbrev pub ShowsNone : Progress (Node K V) → Type 0
  ShowsNone progress.Ready = ⊥
  ShowsNone (progress.Pair word) = ⊥
  ShowsNone _ = Unit {0}

  abbrev IsShowingNone : Machine K V K × Progress (Node K V) → Type 0
  IsShowingNone (machine, said) = ShowsNone said

  as_walk : (p : Sweep) (walks : p.purpose ≡ Walks) (end : Sweep × Swept (Node K V)) → SaysSo K V p walks end → IsWalkSaying (swept end)
  as_walk p walks (q, ends.Goes) so = so
  as_walk p walks (q, ends.Waits) so = so
  as_walk p walks (q, ends.Gave value) so = so
  as_walk p walks (q, ends.Ready) so = so
  as_walk p walks (q, ends.Pair word) so = absurd so
  as_walk p walks (q, ends.Asks word) so = absurd so
  as_walk p walks (q, ends.Done) so = absurd so
  as_walk p walks (q, ends.Refused fault) so = tt

  as_other : (p : Sweep) (takes : removes p.purpose ≡ true) (end : Sweep × Swept (Node K V)) → ShowsSo K V p takes end → IsShowingNone (swept end)
  as_other p takes (q, ends.Goes) so = tt
  as_other p takes (q, ends.Waits) so = tt
  as_other p takes (q, ends.Gave value) so = tt
  as_other p takes (q, ends.Ready) so = absurd so
  as_other p takes (q, ends.Pair word) so = absurd so
  as_other p takes (q, ends.Asks word) so = tt
  as_other p takes (q, ends.Done) so = tt
  as_other p takes (q, ends.Refused fault) so = tt

module _ {K V : Type 0} (same : K → K → Bool) (hash : K → ℕ) (old new : Held K V) (p : Sweep) (machine : Machine K V K) (said : Progress (Node K V))
    (steps : StepsFrom same hash (kinds.Sweep p) old new machine said) where
  pub walk_says : p.purpose ≡ Walks → IsBefore p.stands → IsWalkSaying (machine, said)
  walk_says walks before =
      always_told IsWalkSaying old.memory new.memory Nothing new.changed (plan_as swept (plan_at hash p p.stands)) (machine, said)
      (always_turned (SaysSo K V p walks) IsWalkSaying swept (as_walk p walks) (plan_at hash p p.stands) (walk_from K V p walks hash p.stands refl before)) steps

  pub shows_none : removes p.purpose ≡ true → (p.stands ≡ at.Ready → ⊥) → ShowsNone said
  shows_none takes never =
      always_told IsShowingNone old.memory new.memory Nothing new.changed (plan_as swept (plan_at hash p p.stands)) (machine, said)
      (always_turned (ShowsSo K V p takes) IsShowingNone swept (as_other p takes) (plan_at hash p p.stands) (others_from K V p takes hash p.stands never)) steps
