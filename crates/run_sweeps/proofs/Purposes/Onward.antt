-- A walk that goes over its table does not begin anew.
use Rattle.std.specs.Prelude.{◌≡◌, ℕ, ◌==◌, ◌&&◌, nat_lt, Bool, true, false, if◌then◌else◌, ◌⊎◌}
use Rattle.std.proofs.Common.{ap, inl, inr}
use Rattle.run_finds.specs.Given.SeizeWordsOp.{Out, Found, Stored, Exchanged, Made, Taken, Roomed}
use Rattle.run_finds.specs.Given.SeizeWordsPlan.{plan_as}
use Rattle.run_finds.specs.Given.SeizeWordsWord.{block_in}
use Rattle.run_finds.specs.Given.SeizeWorld.{World}
use Rattle.run_finds.specs.Given.TablesMarks.{has_mark}
use Rattle.run_finds.specs.Given.TablesDeclared.marks.TheConstants.{COPYING}
use Rattle.run_finds.specs.Given.TablesDeclared.node.Node.{Node}
use Rattle.run_finds.specs.Given.TablesDeclared.setting.Setting.{Setting}
use Rattle.run_finds.specs.Given.SweepsSweep.{word_found, plan_at}
use Rattle.run_finds.specs.Given.SweepsSweepPoints.{removes, past, further, at_end, telling, at_pair, seen}
use Rattle.run_finds.specs.Given.ReservesDeclared.sweep.Purpose.{Purpose}
use Rattle.run_finds.specs.Given.ReservesDeclared.sweep.Purpose.TheVariants.{Walks, Clears, Retains}
use Rattle.run_finds.specs.Given.ReservesDeclared.sweep.Sweep.{Sweep}
use Rattle.run_finds.specs.Given.ReservesDeclared.sweep.Sweeping.{Sweeping}
use Rattle.run_finds.specs.Given.ReservesDeclared.sweep.Sweeping.TheVariants as at
use Rattle.run_finds.specs.Given.ReservesDeclared.sweep.Swept.{Swept}
use Rattle.run_finds.specs.Given.RawMachine.{swept}
use Rattle.run_finds.specs.Given.RawDeclared.machines.machine.Machine.{Machine}
use Rattle.run_finds.specs.Given.RawDeclared.machines.machine.Machine.TheVariants as kinds
use Rattle.run_finds.specs.Given.RawDeclared.machines.progress.Progress.{Progress}
use Rattle.run_finds.specs.Given.EffectsDeclared.changed.Changed.TheVariants.{Nothing}
use Rattle.run_finds.specs.Given.RuleChart.{Chart}
use Rattle.run_finds.specs.Given.RuleWords.{Blocks}
use Rattle.run_finds.proofs.Given.RuleKeys.Always.{Always, AlwaysOf}
use Rattle.run_finds.specs.Given.LateFactsSweeps.{SweepingFacts}
use Rattle.run_finds.specs.Given.LateToldSweeps.{IsRowOfSweep}
use Rattle.run_finds.specs.Given.CallersOverAll.{CallOverAll, sweep_once_over, past_sweeping}
use Rattle.run_finds.specs.Given.CallersTogether.{OverAll, IsAtPoint}
use Rattle.run_finds.proofs.Given.HistoriesAsking.{always_told, always_turned}
use Rattle.run_finds.specs.Given.NamedMachines.{IsBefore}
use Rattle.run_finds.specs.Given.ScenesHeld.{Held}
use Rattle.run_finds.specs.Given.ScenesStepping.{StepsFrom}

pub before_or : (p : Sweeping) → IsBefore p ⊎ (IsBefore p → ⊥)
before_or at.Reads = inl tt
before_or at.Follows = inl tt
before_or (at.Copies copier) = inl tt
before_or _ = inr (λ never. never)

-- where a walk stands that goes over its table, or is over
abbrev IsWalkAt : Sweeping → Type 0
IsWalkAt at.Words = Unit {0}
IsWalkAt at.Ready = Unit {0}
IsWalkAt at.Over = Unit {0}
IsWalkAt (at.Refused fault) = Unit {0}
IsWalkAt _ = ⊥

pub not_walking : (purpose : Purpose) → purpose ≡ Walks → removes purpose ≡ true → ⊥
not_walking purpose e r = (let walks = ap removes e in cc (walks, r))

pub not_retaining : (purpose : Purpose) → purpose ≡ Walks → purpose ≡ Retains → ⊥
not_retaining purpose e r = cc (e, r)

module _ {K V : Type 0} (same : K → K → Bool) (hash : K → ℕ) (w : World (Node K V)) (caller : ℕ) (setting : Setting) (c : Chart K) (blocks : Blocks) (began : ℕ) where
  walk_at : (p : Sweep) (stands : Sweeping) → p.purpose ≡ Walks → (IsBefore stands → ⊥) → SweepingFacts same hash w caller setting c blocks began p stands → IsWalkAt stands
  walk_at p at.Reads walks before facts = absurd (before tt)
  walk_at p at.Follows walks before facts = absurd (before tt)
  walk_at p (at.Copies copier) walks before facts = absurd (before tt)
  walk_at p at.Ready walks before facts = tt
  walk_at p at.Words walks before facts = tt
  walk_at p (at.Asks word) walks before facts = not_retaining p.purpose walks facts.0
  walk_at p (at.Tries word) walks before facts = not_walking p.purpose walks facts.0
  walk_at p (at.Counts removed) walks before facts = not_walking p.purpose walks facts.0
  walk_at p (at.Disposes dispose) walks before facts = not_walking p.purpose walks facts.0
  walk_at p at.Over walks before facts = tt
  walk_at p (at.Refused fault) walks before facts = tt

  -- within a row it copies, or disposes of what it has removed
  row_at : (p : Sweep) (stands : Sweeping) → p.purpose ≡ Walks → (IsBefore stands → ⊥) → IsRowOfSweep stands → SweepingFacts same hash w caller setting c blocks began p (past_sweeping stands) → ⊥
  row_at p (at.Copies copier) walks before row facts = before tt
  row_at p (at.Disposes dispose) walks before row facts = not_walking p.purpose walks facts.0
  row_at p _ walks before row facts = row

module _ {K : Type 0} (V : Type 0) (same : K → K → Bool) (hash : K → ℕ) (setting : Setting) (slot : ℕ → ℕ) (w : World (Node K V)) (c : Chart K) (seen : Blocks) (i : ℕ) (o : CallOverAll) where
  -- so a walk that is under way stands there
  pub walk_stands : IsAtPoint V same hash same setting slot w c seen i (OverAll o) → o.sweep.purpose ≡ Walks → (IsBefore o.sweep.stands → ⊥) → IsWalkAt o.sweep.stands
  walk_stands (inl (rests, knows)) walks before = walk_at same hash w i _ c seen o.began o.sweep o.sweep.stands walks before knows.facts.point
  walk_stands (inr (row, is_row, knows)) walks before = absurd (row_at same hash w i _ c seen o.began (sweep_once_over o.sweep) o.sweep.stands walks before is_row knows.facts.point)

module _ (T : Type 0) (p : Sweep) (none : removes p.purpose ≡ false) where
  abbrev Onward : Sweep × Swept T → Type 0
  Onward (q, end) = IsBefore q.stands → ⊥

  end_onward : (q : Sweep) → removes q.purpose ≡ false → IsBefore (at_end q) → ⊥
  end_onward q e = by (removes q.purpose) e
    where
      by : (b : Bool) → b ≡ false → IsBefore (if b && q.met then at.Follows else at.Over) → ⊥
      by false e never = never
      by true e never = cc e

  further_onward : (q : Sweep) → removes q.purpose ≡ false → Onward (telling (further q))
  further_onward q e = by (nat_lt (past q).place q.table.len)
    where
      by : (b : Bool) → IsBefore (if b then at.Words else at_end q) → ⊥
      by true never = never
      by false never = end_onward q e never

  pair_onward : (purpose : Purpose) (word : ℕ) → Onward (at_pair purpose p word)
  pair_onward Walks word never = never
  pair_onward Clears word never = never
  pair_onward Retains word never = never

  seen_onward : (word : ℕ) → Onward (seen p word)
  seen_onward word = by (removes p.purpose) none (block_in word == 0)
    where
      by : (b : Bool) → b ≡ false → (z : Bool) → Onward (if b && has_mark word COPYING then telling (further (record p { met = true })) else (if z then telling (further p) else at_pair p.purpose p word))
      by false e true = further_onward p none
      by false e false = pair_onward p.purpose word
      by true e z = λ never. cc e

  module _ (at_words : IsBefore p.stands → ⊥) where
    found_onward : (out : Out T) → Always Onward (word_found p out)
    found_onward (Found word) = seen_onward word
    found_onward Stored = at_words
    found_onward (Exchanged r) = at_words
    found_onward (Made r) = at_words
    found_onward (Taken value) = at_words
    found_onward (Roomed r) = at_words

module _ {K : Type 0} (V : Type 0) (hash : K → ℕ) (p : Sweep) (none : removes p.purpose ≡ false) (before : IsBefore p.stands → ⊥) where
  plan_onward : (stands : Sweeping) → IsWalkAt stands → AlwaysOf (Onward (Node K V) p none) (plan_at hash p stands)
  plan_onward at.Words is = found_onward (Node K V) p none before
  plan_onward at.Ready is = before
  plan_onward at.Over is = before
  plan_onward (at.Refused fault) is = before
  plan_onward _ is = absurd is

-- the machine is one for a sweep, which goes over a table
abbrev pub GoesOver : {K V : Type 0} → Machine K V K × Progress (Node K V) → Type 0
GoesOver (kinds.Sweep q, said) = IsBefore q.stands → ⊥
GoesOver (_, said) = Unit {0}

-- by each step
pub walk_onward : {K V : Type 0} (same : K → K → Bool) (hash : K → ℕ) (old new : Held K V) (p : Sweep) (machine : Machine K V K) (said : Progress (Node K V))
    → StepsFrom same hash (kinds.Sweep p) old new machine said → p.purpose ≡ Walks → IsWalkAt p.stands → (IsBefore p.stands → ⊥) → GoesOver (machine, said)
walk_onward {K} {V} same hash old new p machine said steps walks is before =
    always_told GoesOver old.memory new.memory Nothing new.changed (plan_as swept (plan_at hash p p.stands)) (machine, said)
    (always_turned (Onward (Node K V) p (ap removes walks)) GoesOver swept (λ end so. so) (plan_at hash p p.stands) (plan_onward V hash p (ap removes walks) before p.stands is)) steps
