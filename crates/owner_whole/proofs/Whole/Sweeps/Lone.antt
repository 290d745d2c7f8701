-- Where a sweep that is alone goes on: beside its copying it leaves all to itself, and then it may begin to copy; and where its copying leads.
use Rattle.std.specs.Prelude.{◌≡◌, ℕ, Bool, true, false, ◌==◌, ◌&&◌, if◌then◌else◌}
use Rattle.std.proofs.Common.{refl}
use Rattle.seize_words.specs.OneMemory.Word.{block_in}
use Rattle.map_tables.specs.Marks.{has_mark}
use Rattle.map_tables.specs.declared.marks.TheConstants.{COPYING}
use Rattle.papaya_raw.specs.Given.SweepsSweepPoints.{removes, further, told, telling, at_pair, seen}
use Rattle.papaya_raw.specs.Given.ReservesDeclared.sweep.Purpose.{Purpose}
use Rattle.papaya_raw.specs.Given.ReservesDeclared.sweep.Purpose.TheVariants.{Walks, Clears, Retains}
use Rattle.papaya_raw.specs.Given.ReservesDeclared.sweep.Sweep.{Sweep}
use Rattle.papaya_raw.specs.Given.ReservesDeclared.sweep.Sweeping.{Sweeping}
use Rattle.papaya_raw.specs.Given.ReservesDeclared.sweep.Sweeping.TheVariants as at
use Rattle.papaya_raw.specs.Given.ReservesDeclared.sweep.Swept.{Swept}
use Rattle.papaya_raw.specs.Given.ReservesDeclared.sweep.Swept.TheVariants as swept
use Rattle.map_measures.specs.Given.RuleChart.{Chart}
use Rattle.owner_facts.specs.Alone.FactsAloneCalls.{TablesAlone, AloneBetweenCalls}
use Rattle.owner_facts.specs.Given.LateFactsSweeps.{CopiesPairs}
use Rattle.owner_facts.proofs.Given.LateSwept.Sweeps.Stands.{IsQuiet, quiet_further}
use Rattle.owner_whole.specs.Whole.LoneSweeps.{SweepsAlone, IsLoneSweep}

-- where it is quiet it copies nothing
pub quiet_copies : (stage : Sweeping) → IsQuiet stage → CopiesPairs stage → ⊥
quiet_copies (at.Copies copier) quiet copies = quiet
quiet_copies at.Reads quiet copies = copies
quiet_copies at.Follows quiet copies = copies
quiet_copies at.Ready quiet copies = copies
quiet_copies at.Words quiet copies = copies
quiet_copies (at.Asks word) quiet copies = copies
quiet_copies (at.Tries word) quiet copies = copies
quiet_copies (at.Counts removed) quiet copies = copies
quiet_copies (at.Disposes dispose) quiet copies = copies
quiet_copies at.Over quiet copies = copies
quiet_copies (at.Refused fault) quiet copies = copies

-- it says that it is ready only where it is
pub told_ready : {T : Type 0} (stage : Sweeping) → told {T = T} stage ≡ swept.Ready → stage ≡ at.Ready
told_ready at.Ready e = refl
told_ready at.Reads e = absurd (cc e)
told_ready at.Follows e = absurd (cc e)
told_ready (at.Copies copier) e = absurd (cc e)
told_ready at.Words e = absurd (cc e)
told_ready (at.Asks word) e = absurd (cc e)
told_ready (at.Tries word) e = absurd (cc e)
told_ready (at.Counts removed) e = absurd (cc e)
told_ready (at.Disposes dispose) e = absurd (cc e)
told_ready at.Over e = absurd (cc e)
told_ready (at.Refused fault) e = absurd (cc e)

-- What is so of each end of a reading of the word of its place: it copies nothing, and says that it is ready only where it is.
pub record ReadsOn (T : Type 0) (end : Sweep × Swept T) : Type 0 where
  pub copies : CopiesPairs end.0.stands → ⊥
  pub ready : end.1 ≡ swept.Ready → end.0.stands ≡ at.Ready

pub telling_on : (T : Type 0) (q : Sweep) → IsQuiet q.stands → ReadsOn T (telling q)
telling_on T q quiet = record { copies = quiet_copies q.stands quiet; ready = told_ready q.stands }

pub seen_on : (T : Type 0) (p : Sweep) (word : ℕ) → ReadsOn T (seen p word)
seen_on T p word = by (removes p.purpose && has_mark word COPYING) (block_in word == 0)
  where
    pair_on : (purpose : Purpose) → ReadsOn T (at_pair purpose p word)
    pair_on Walks = record { copies = λ h. h; ready = λ e. refl }
    pair_on Clears = record { copies = λ h. h; ready = λ e. absurd (cc e) }
    pair_on Retains = record { copies = λ h. h; ready = λ e. absurd (cc e) }

    by : (m z : Bool) → ReadsOn T (if m then telling (further (record p { met = true })) else (if z then telling (further p) else at_pair p.purpose p word))
    by true z = telling_on T (further (record p { met = true })) (quiet_further (record p { met = true }))
    by false true = telling_on T (further p) (quiet_further p)
    by false false = pair_on p.purpose

module _ {K : Type 0} (b : Bool) (c : Chart K) where
  -- beside its copying
  pub alone_at : TablesAlone b c → (stage : Sweeping) → (CopiesPairs stage → ⊥) → SweepsAlone b c stage
  alone_at tables (at.Copies copier) other = absurd (other tt)
  alone_at tables at.Reads other = tables
  alone_at tables at.Follows other = tables
  alone_at tables at.Ready other = tables
  alone_at tables at.Words other = tables
  alone_at tables (at.Asks word) other = tables
  alone_at tables (at.Tries word) other = tables
  alone_at tables (at.Counts removed) other = tables
  alone_at tables (at.Disposes dispose) other = tables
  alone_at tables at.Over other = tables
  alone_at tables (at.Refused fault) other = tables

  pub tables_at : (stage : Sweeping) → (CopiesPairs stage → ⊥) → SweepsAlone b c stage → TablesAlone b c
  tables_at (at.Copies copier) other alone = absurd (other tt)
  tables_at at.Reads other alone = alone
  tables_at at.Follows other alone = alone
  tables_at at.Ready other alone = alone
  tables_at at.Words other alone = alone
  tables_at (at.Asks word) other alone = alone
  tables_at (at.Tries word) other alone = alone
  tables_at (at.Counts removed) other alone = alone
  tables_at (at.Disposes dispose) other alone = alone
  tables_at at.Over other alone = alone
  tables_at (at.Refused fault) other alone = alone

-- where a step of a sweep that is alone leads: it never waits, and reclaims nothing itself
abbrev pub LeadsSweep : {K T : Type 0} → Bool → ℕ → Chart K → Sweep × Swept T → Type 0
LeadsSweep b caller c (p, swept.Waits) = ⊥
LeadsSweep b caller c (p, swept.Gave value) = ⊥
LeadsSweep b caller c (p, swept.Done) = AloneBetweenCalls b caller c
LeadsSweep b caller c (p, swept.Refused fault) = AloneBetweenCalls b caller c
LeadsSweep b caller c (p, swept.Goes) = IsLoneSweep b caller c p.stands
LeadsSweep b caller c (p, swept.Ready) = IsLoneSweep b caller c p.stands
LeadsSweep b caller c (p, swept.Pair word) = IsLoneSweep b caller c p.stands
LeadsSweep b caller c (p, swept.Asks word) = IsLoneSweep b caller c p.stands
