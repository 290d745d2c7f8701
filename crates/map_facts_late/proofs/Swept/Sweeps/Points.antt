-- Each step of a sweep: it may be taken, and where it leads.
use Rattle.std.specs.Prelude.{◌≡◌, ℕ, Bool, false}
use Rattle.std.specs.Int.{IsPowerOfTwo}
use Rattle.std.proofs.Common.{refl, sym, subst}
use Rattle.map_facts.specs.Given.SeizeWordsMem.{Mem, value_at, Can, Took}
use Rattle.map_facts.specs.Given.SeizeWordsPlan.{May, Steps}
use Rattle.map_facts.specs.Given.SeizeWorld.{World}
use Rattle.map_facts.specs.Given.TablesChunks.{is_incremental}
use Rattle.map_facts.specs.Given.TablesDeclared.node.Node.{Node}
use Rattle.map_facts.specs.Given.TablesDeclared.setting.Setting.{Setting}
use Rattle.map_facts.specs.Given.SweepsSweep.{plan_at, sweep_plan}
use Rattle.map_facts.specs.Given.SweepsSweepPoints.{told}
use Rattle.map_facts.specs.Given.ReservesDeclared.sweep.Sweep.{Sweep}
use Rattle.map_facts.specs.Given.ReservesDeclared.sweep.Sweeping.{Sweeping}
use Rattle.map_facts.specs.Given.ReservesDeclared.sweep.Sweeping.TheVariants as at
use Rattle.map_facts.specs.Given.ReservesDeclared.sweep.Swept.{Swept}
use Rattle.map_facts.specs.Given.RuleChart.{Chart}
use Rattle.map_facts.specs.Given.RuleWords.{Blocks}
use Rattle.map_facts.specs.Given.RuleMoments.{Moments}
use Rattle.map_facts.specs.Given.RuleInWorld.{IsMapIn}
use Rattle.map_facts.proofs.Given.RuleWorld.WentStill.{went_still}
use Rattle.map_facts.specs.FactsIdle.{IsIdle}
use Rattle.map_facts.specs.Steps.{AreLawful}
use Rattle.map_facts_late.specs.Left.{ClaimsAreFew}
use Rattle.map_facts_late.specs.FactsSweeps.{CopiesPairs, SweepingFacts, SweepFacts}
use Rattle.map_facts_late.specs.ToldSweeps.{IsRowOfSweep}
use Rattle.map_facts_late.proofs.Swept.Sweeps.Copies.{may_copies, went_copies}
use Rattle.map_facts_late.proofs.Swept.Sweeps.Moved.{SweepTells, SweepWent}
use Rattle.map_facts_late.proofs.Swept.Sweeps.Reads.{may_reads, may_follows, may_words, went_reads, went_follows, went_words}
use Rattle.map_facts_late.proofs.Swept.Sweeps.Removes.{may_counts, may_disposes, may_tries, went_tries, went_counts, went_disposes}

module _ {K V : Type 0} (same : K → K → Bool) (hash : K → ℕ) (are : AreLawful same hash) (caller : ℕ) (setting : Setting) (initial_is : IsPowerOfTwo setting.initial) (began : ℕ)
    (w : World (Node K V)) (c : Chart K) (blocks : Blocks) (map : IsMapIn same hash setting w c blocks) (moments : Moments (is_incremental setting.mode) c)
    (few : is_incremental setting.mode ≡ false → ClaimsAreFew c) (p : Sweep) (f : SweepFacts same hash w caller setting c blocks began p) where
  may_at : (stage : Sweeping) → SweepingFacts same hash w caller setting c blocks began p stage → ((CopiesPairs stage → ⊥) → IsIdle same hash w caller setting c blocks)
      → (IsRowOfSweep stage → ⊥) → May Can Took value_at w.memory (plan_at hash p stage)
  may_at at.Reads point idle none = may_reads same hash caller setting began w c blocks map p f.setting_is
  may_at at.Follows (t, entered, root) idle none = may_follows same hash caller setting began w c blocks map p t entered
  may_at (at.Copies copier) point idle none = may_copies same hash caller setting began p f.setting_is are initial_is w c blocks map moments few copier none point
  may_at at.Ready point idle none = tt
  may_at at.Words (t, (over, inside)) idle none = may_words same hash caller setting began w c blocks map p t over.table inside
  may_at (at.Asks word) point idle none = tt
  may_at (at.Tries word) (taking, names, t, (over, inside)) idle none =
      may_tries same hash caller setting began w c blocks map p f.setting_is (idle (λ h. h)) t over inside word
  may_at (at.Counts removed) point idle none = may_counts same hash caller setting began w c blocks map p f.setting_is removed
  may_at (at.Disposes dispose) point idle none = may_disposes same hash caller setting began w c blocks map p f.setting_is dispose point.3 none hash
  may_at at.Over point idle none = tt
  may_at (at.Refused fault) point idle none = tt

  pub may_sweep : (IsRowOfSweep p.stands → ⊥) → May Can Took value_at w.memory (sweep_plan hash p)
  may_sweep none = may_at p.stands f.point f.idle none

  module _ (m2 : Mem (Node K V)) (end : Sweep × Swept (Node K V)) where
    -- it stands where it stood, and says so again
    stays : (stage : Sweeping) → SweepTells same hash caller setting began w c blocks p stage (p, told stage) w c blocks → (m2 ≡ w.memory) × (end ≡ (p, told stage))
        → SweepWent same hash caller setting began w c blocks p m2 stage end
    stays stage tells s =
        subst (SweepWent same hash caller setting began w c blocks p m2 stage) (sym s.1)
        (went_still same hash setting caller w c blocks map m2 s.0 (SweepTells same hash caller setting began w c blocks p stage (p, told stage)) tells)

    went_at : (stage : Sweeping) → SweepingFacts same hash w caller setting c blocks began p stage → ((CopiesPairs stage → ⊥) → IsIdle same hash w caller setting c blocks)
        → (IsRowOfSweep stage → ⊥) → Steps Took value_at w.memory (plan_at hash p stage) m2 end → SweepWent same hash caller setting began w c blocks p m2 stage end
    went_at at.Reads point idle none s = went_reads same hash caller setting began w c blocks map p f.setting_is (idle (λ h. h)) point m2 end s
    went_at at.Follows (t, entered, root) idle none s = went_follows same hash caller setting began w c blocks map p f.setting_is (idle (λ h. h)) moments t entered root m2 end s
    went_at (at.Copies copier) point idle none s = went_copies same hash caller setting began p f.setting_is are initial_is w c blocks map moments few copier none point m2 end s
    went_at at.Ready point idle none s = stays at.Ready (f, (refl, refl)) s
    went_at at.Words (t, (over, inside)) idle none s = went_words same hash caller setting began w c blocks map p f.setting_is (idle (λ h. h)) t over inside m2 end s
    went_at (at.Asks word) point idle none s = stays (at.Asks word) (f, (refl, refl)) s
    went_at (at.Tries word) (taking, names, t, (over, inside)) idle none s =
        went_tries same hash caller setting began w c blocks map p f.setting_is (idle (λ h. h)) t over inside taking are.lawful are.fits word names m2 end s
    went_at (at.Counts removed) (taking, t, (over, inside), taken) idle none s =
        went_counts same hash caller setting began w c blocks map p f.setting_is (idle (λ h. h)) t over inside taking are.fits removed taken m2 end s
    went_at (at.Disposes dispose) (taking, t, (over, inside), facts) idle none s =
        went_disposes same hash caller setting began w c blocks map p f.setting_is (idle (λ h. h)) t over inside taking dispose facts none m2 end s
    went_at at.Over point idle none s = stays at.Over (f, (refl, refl)) s
    went_at (at.Refused fault) point idle none s = stays (at.Refused fault) (f, (refl, refl)) s

    pub went_sweep : (IsRowOfSweep p.stands → ⊥) → Steps Took value_at w.memory (sweep_plan hash p) m2 end → SweepWent same hash caller setting began w c blocks p m2 p.stands end
    went_sweep none s = went_at p.stands f.point f.idle none s
