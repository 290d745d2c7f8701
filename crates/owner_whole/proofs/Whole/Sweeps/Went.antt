-- A step of a sweep that is alone, none of a row of the collector: where it leads, be it one of its copying or not.
use Rattle.std.specs.Prelude.{◌≡◌, ◌≢◌, ℕ, ◌≤◌, Bool, true, false, cond, ◌⊎◌}
use Rattle.std.specs.Int.{IsPowerOfTwo}
use Rattle.std.proofs.Common.{refl, ap, sym, subst, inl, inr, ◌∙◌}
use Rattle.seize_words.specs.OneMemory.Mem.{Mem, Took, value_at}
use Rattle.seize_words.specs.OneMemory.Plan.{Steps}
use Rattle.seize.specs.World.{World}
use Rattle.map_measures.proofs.Given.SeizeRuleRows.Leaving.{steps_back}
use Rattle.map_tables.specs.Chunks.{is_incremental}
use Rattle.map_tables.specs.declared.node.Node.{Node}
use Rattle.map_tables.specs.declared.setting.Setting.{Setting}
use Rattle.map_tables.specs.declared.table.Table.{Table}
use Rattle.map_measures.specs.Given.ResizeCopier.{copier_plan}
use Rattle.map_measures.specs.Given.ResizeDeclared.copier.Copier.{Copier}
use Rattle.map_measures.specs.Given.ResizeDeclared.yielding.Yielding.{Yielding}
use Rattle.map_measures.specs.Given.ResizeDeclared.yielding.Yielding.TheVariants as outcome
use Rattle.papaya_raw.specs.Given.SweepsSweep.{copied, plan_at, sweep_plan}
use Rattle.papaya_raw.specs.Given.SweepsSweepPoints.{entering, told}
use Rattle.papaya_raw.specs.Given.ReservesDeclared.sweep.Sweep.{Sweep}
use Rattle.papaya_raw.specs.Given.ReservesDeclared.sweep.Sweeping.{Sweeping}
use Rattle.papaya_raw.specs.Given.ReservesDeclared.sweep.Sweeping.TheVariants as at
use Rattle.papaya_raw.specs.Given.ReservesDeclared.sweep.Swept.{Swept}
use Rattle.papaya_raw.specs.Given.ReservesDeclared.sweep.Swept.TheVariants as swept
use Rattle.map_measures.specs.Given.RuleChart.{Chart}
use Rattle.map_measures.specs.Given.RuleWords.{Blocks}
use Rattle.map_measures.specs.Given.RuleMoves.{Removes}
use Rattle.map_measures.specs.Given.RuleMoments.{Moments}
use Rattle.map_measures.specs.Given.RuleInWorld.{IsMapIn, SparesPairs, Moved, SameBlocks, StepSpec}
use Rattle.map_measures.proofs.Given.RuleWorld.WentTold.{went_as}
use Rattle.owner_facts.specs.Given.PointsFactsCopies.{CopierFacts}
use Rattle.owner_facts.specs.Given.PointsFactsCopiesBlocking.{CopierFactsBlocking}
use Rattle.map_measures.specs.Given.PointsMeasures.{OthersIdle}
use Rattle.owner_facts.specs.Given.PointsSteps.{AreLawful}
use Rattle.owner_facts.specs.Given.PointsTold.{IsRowOfCopier, CopierOutcome, CopierOutcomeBlocking, MovedBesideCopying}
use Rattle.owner_facts.proofs.Alone.Lone.Beside.{beside_idle}
use Rattle.map_measures.specs.Given.LateCoversSweeps.{CoversOn}
use Rattle.owner_facts.specs.Given.LateFactsReserves.{IsEnding, CopiesWhole}
use Rattle.owner_facts.specs.Given.LateFactsSweeps.{CopiesPairs, SweepFacts}
use Rattle.owner_facts.specs.Given.LateLeft.{ClaimsAreFew}
use Rattle.owner_facts.specs.Given.LateToldReserves.{EndsAtRoot, WholeCopyOutcome}
use Rattle.owner_facts.specs.Given.LateToldSweeps.{IsRowOfSweep, OutcomeAgrees, OnlyRemoves, SweepAfter, SweepOutcome}
use Rattle.owner_facts.proofs.Given.LateRooms.Reserves.Copies.{went_whole}
use Rattle.owner_facts.proofs.Given.LateRooms.Reserves.Moved.{CopierMoves}
use Rattle.owner_facts.proofs.Given.LateSwept.Covers.Steps.{covers_by}
use Rattle.owner_facts.proofs.Given.LateSwept.Sweeps.Copies.{whole_leads_in}
use Rattle.owner_facts.proofs.Given.LateSwept.Sweeps.Moved.{SweepMoves, SweepTells}
use Rattle.owner_facts.proofs.Given.LateSwept.Sweeps.Points.{went_sweep}
use Rattle.owner_facts.proofs.Given.LateSwept.Sweeps.Told.{told_of}
use Rattle.owner_facts.proofs.Maps.Reserves.Beside.{CopierLeads, copier_leads}
use Rattle.map_measures.specs.Waits.Waits.{SweepAwaits}
use Rattle.map_measures.proofs.Waits.Laws.{sweeps_wait_for_a_copying}
use Rattle.owner_whole.specs.Whole.LoneSweeps.{IsBefore, SweepsAlone, IsLoneSweep, OverRoot}
use Rattle.owner_whole.proofs.Whole.Fresh.Sweeps.{CopiesRoot}
use Rattle.owner_whole.proofs.Whole.Sweeps.Lone.{tables_at, LeadsSweep}
use Rattle.owner_whole.proofs.Whole.Sweeps.Stages.{StageTold, enters, stage_told}

-- beside its copying it never waits
awaits_none : {K : Type 0} (c : Chart K) (b : Bool) (stage : Sweeping) → (CopiesPairs stage → ⊥) → SweepAwaits c b stage → ⊥
awaits_none c b (at.Copies copier) other awaits = other tt
awaits_none c b at.Reads other awaits = awaits
awaits_none c b at.Follows other awaits = awaits
awaits_none c b at.Ready other awaits = awaits
awaits_none c b at.Words other awaits = awaits
awaits_none c b (at.Asks word) other awaits = awaits
awaits_none c b (at.Tries word) other awaits = awaits
awaits_none c b (at.Counts removed) other awaits = awaits
awaits_none c b (at.Disposes dispose) other awaits = awaits
awaits_none c b at.Over other awaits = awaits
awaits_none c b (at.Refused fault) other awaits = awaits

-- it copies, or not
copies_cases : (stage : Sweeping) → ((copier : Copier) × (stage ≡ at.Copies copier)) ⊎ (CopiesPairs stage → ⊥)
copies_cases (at.Copies copier) = inl (copier, refl)
copies_cases at.Reads = inr (λ h. h)
copies_cases at.Follows = inr (λ h. h)
copies_cases at.Ready = inr (λ h. h)
copies_cases at.Words = inr (λ h. h)
copies_cases (at.Asks word) = inr (λ h. h)
copies_cases (at.Tries word) = inr (λ h. h)
copies_cases (at.Counts removed) = inr (λ h. h)
copies_cases (at.Disposes dispose) = inr (λ h. h)
copies_cases at.Over = inr (λ h. h)
copies_cases (at.Refused fault) = inr (λ h. h)

-- where a step leads, by what it tells
leads_by : {K T : Type 0} (b : Bool) (c : Chart K) (was : Sweeping) (p : Sweep) (end : Swept T) → end ≢ swept.Waits → ((value : T) → end ≢ swept.Gave value) → OutcomeAgrees was p.stands end
    → OthersIdle 0 c → SweepsAlone b c p.stands → LeadsSweep b 0 c (p, end)
leads_by b c was p swept.Goes waits gave tells idle alone = record { idle = idle; point = alone }
leads_by b c was p swept.Waits waits gave tells idle alone = waits refl
leads_by b c was p (swept.Gave value) waits gave tells idle alone = gave value refl
leads_by b c was p swept.Ready waits gave tells idle alone = record { idle = idle; point = alone }
leads_by b c was p (swept.Pair word) waits gave tells idle alone = record { idle = idle; point = alone }
leads_by b c was p (swept.Asks word) waits gave tells idle alone = record { idle = idle; point = alone }
leads_by b c was p swept.Done waits gave tells idle alone = record { idle = idle; tables = subst (SweepsAlone b c) tells alone }
leads_by b c was p (swept.Refused fault) waits gave tells idle alone = record { idle = idle; tables = subst (SweepsAlone b c) tells alone }

-- a step that reclaims something is none of its own
gave_none : {K V : Type 0} (same : K → K → Bool) (hash : K → ℕ) (setting : Setting) (began : ℕ) (w : World (Node K V)) (c : Chart K) (blocks : Blocks) (p : Sweep) (end : Swept (Node K V))
    → SweepAfter same hash 0 setting began w c blocks (p, end) → (value : Node K V) → end ≢ swept.Gave value
gave_none same hash setting began w c blocks p (swept.Gave other) after value e = after
gave_none same hash setting began w c blocks p swept.Goes after value e = cc e
gave_none same hash setting began w c blocks p swept.Waits after value e = cc e
gave_none same hash setting began w c blocks p swept.Ready after value e = cc e
gave_none same hash setting began w c blocks p (swept.Pair word) after value e = cc e
gave_none same hash setting began w c blocks p (swept.Asks word) after value e = cc e
gave_none same hash setting began w c blocks p swept.Done after value e = cc e
gave_none same hash setting began w c blocks p (swept.Refused fault) after value e = cc e

module _ {K V : Type 0} (same : K → K → Bool) (hash : K → ℕ) (lawful : AreLawful same hash) (setting : Setting) (initial : IsPowerOfTwo setting.initial) (began : ℕ)
    (w : World (Node K V)) (c : Chart K) (blocks : Blocks) (map : IsMapIn same hash setting w c blocks) (moments : Moments (is_incremental setting.mode) c)
    (few : is_incremental setting.mode ≡ false → ClaimsAreFew c) (since : began ≤ c.now) (p : Sweep) (f : SweepFacts same hash w 0 setting c blocks began p)
    (whole : CopiesRoot same hash setting w c blocks p.stands) (lone : IsLoneSweep (is_incremental setting.mode) 0 c p.stands)
    (over : OverRoot hash (is_incremental setting.mode) c blocks p p.stands) (none : IsRowOfSweep p.stands → ⊥)
    (m2 : Mem (Node K V)) (p2 : Sweep) (end : Swept (Node K V)) (steps : Steps Took value_at w.memory (sweep_plan hash p) m2 (p2, end)) where
  abbrev b : Bool
  b = is_incremental setting.mode

  -- all that is told of it
  pub record OwnTold (w2 : World (Node K V)) (c2 : Chart K) (blocks2 : Blocks) : Type 0 where
    pub told : SweepOutcome same hash 0 setting began c blocks p w2 c2 blocks2 p2 end
    pub covers : CoversOn hash began c blocks p c2 blocks2 p2 end
    pub moves : SweepMoves same hash 0 setting began w c blocks p p.stands (p2, end) w2 c2 blocks2
    pub stage : StageTold same hash setting w2 c2 blocks2 p (p2, end)
    pub leads : LeadsSweep b 0 c2 (p2, end)

  module _ (w2 : World (Node K V)) (c2 : Chart K) (blocks2 : Blocks) (map2 : IsMapIn same hash setting w2 c2 blocks2) (moved : Moved same hash setting.mode 0 c c2)
      (same_blocks : SameBlocks c blocks blocks2) (tells : SweepTells same hash 0 setting began w c blocks p p.stands (p2, end) w2 c2 blocks2) where
    told_then : SweepOutcome same hash 0 setting began c blocks p w2 c2 blocks2 p2 end
    told_then = told_of same hash 0 setting began w c blocks map p w2 c2 blocks2 p2 end tells

    own_told : end ≢ swept.Waits → OthersIdle 0 c2 → StageTold same hash setting w2 c2 blocks2 p (p2, end) → OwnTold w2 c2 blocks2
    own_told waits idle2 stage = record {
      told = told_then;
      covers = covers_by same hash lawful setting 0 began w c blocks map moments since p f w2 c2 blocks2 map2 moved same_blocks p2 end tells.1;
      moves = tells.1;
      stage = stage;
      leads = leads_by b c2 p.stands p2 end waits (gave_none same hash setting began w2 c2 blocks2 p2 end tells.0) told_then.stands.tells idle2 stage.alone;
    }

    -- beside its copying
    beside_told : (CopiesPairs p.stands → ⊥) → OwnTold w2 c2 blocks2
    beside_told other =
        own_told
        (λ e. awaits_none c b p.stands other
        (sweeps_wait_for_a_copying V same hash lawful setting w 0 c blocks began p map f none m2 p2 (subst (λ (x : Swept (Node K V)). Steps Took value_at w.memory (sweep_plan hash p) m2 (p2, x)) e steps)).1)
        (beside_idle same hash 0 c setting.mode c2 (beside_moved (told_then.beside other)) lone.idle)
        (stage_told same hash setting began w c blocks map p f w2 c2 blocks2 map2 same_blocks (p2, end) (tables_at b c p.stands other lone.point) p.stands refl f.point f.idle other over tells.1 tells.0)
      where
        beside_moved : OnlyRemoves hash setting.mode c c2 → MovedBesideCopying hash setting.mode c c2
        beside_moved (inl e) = inl e
        beside_moved (inr (t, i, e)) = inr (Removes t i, tt, e)

  pub own_beside : (CopiesPairs p.stands → ⊥) → StepSpec same hash setting 0 w c blocks m2 OwnTold
  own_beside other =
      went_as same hash setting 0 w c blocks m2 (SweepTells same hash 0 setting began w c blocks p p.stands (p2, end)) OwnTold
      (λ w2 c2 blocks2 map2 moved same_blocks tells. beside_told w2 c2 blocks2 map2 moved same_blocks tells other)
      (went_sweep same hash lawful 0 setting initial began w c blocks map moments few p f m2 (p2, end) none steps)

  -- within its copying
  module _ (copier : Copier) (is : p.stands ≡ at.Copies copier) where
    root : CopiesWhole same hash w 0 setting c blocks copier
    root = subst (CopiesRoot same hash setting w c blocks) is whole

    no_row : IsRowOfCopier copier.stands → ⊥
    no_row row = none (subst IsRowOfSweep (sym is) row)

    before : IsBefore p.stands
    before = subst IsBefore (sym is) tt

    its : (x : Copier × Yielding (Node K V) Table) × Steps Took value_at w.memory (copier_plan hash copier) m2 x × ((p2, end) ≡ copied p x)
    its = steps_back (copied p) w.memory m2 (copier_plan hash copier) (p2, end) (subst (λ (x : Sweeping). Steps Took value_at w.memory (plan_at hash p x) m2 (p2, end)) is steps)

    module _ (w2 : World (Node K V)) (c2 : Chart K) (blocks2 : Blocks) where
      abbrev Told : Copier × Yielding (Node K V) Table → Type 0
      Told x = StageTold same hash setting w2 c2 blocks2 p (copied p x)

      -- what it tells, by the mode of the map
      abbrev ToldIn : Copier × Yielding (Node K V) Table → Bool → Type 0
      ToldIn x mode =
          cond mode (CopierOutcome w2 0 setting c2 blocks2 same hash x × (x.0.whole ≡ true) × EndsAtRoot w2 0 setting c2 blocks2 same hash x)
          (CopierOutcomeBlocking w2 0 setting c2 blocks2 same hash x)

      abbrev WholeIn : Copier → Bool → Type 0
      WholeIn next mode =
          cond mode ((next.whole ≡ true) × CopierFacts same hash w2 0 setting c2 blocks2 next × IsEnding same hash w2 0 setting c2 blocks2 next next.stands)
          (CopierFactsBlocking same hash w2 0 setting c2 blocks2 next)

      goes_whole : (mode : Bool) (next : Copier) → ToldIn (next, outcome.Goes) mode → WholeIn next mode
      goes_whole true next told = (told.1, told.0, told.2)
      goes_whole false next told = told

      done_root : (mode : Bool) (next : Copier) (table : Table) → ToldIn (next, outcome.Done table) mode → mode ≡ false → table.turn ≡ c2.first
      done_root true next table told blocking = absurd (cc blocking)
      done_root false next table told blocking = ap (λ (x : Table). x.turn) told.0.is

      copied_stage : (x : Copier × Yielding (Node K V) Table) → WholeCopyOutcome w2 0 setting c2 blocks2 same hash x → CopierLeads b 0 c2 x → Told x
      copied_stage (next, outcome.Goes) told leads = record { whole = goes_whole b next told; alone = leads.1; table = tt; none = λ once at_place. absurd (at_place before); ready = λ e. absurd (cc e) }
      copied_stage (next, outcome.Waits) told leads = absurd leads
      copied_stage (next, outcome.Gave value) told leads = absurd leads
      copied_stage (next, outcome.Done table) told leads = enters same hash setting w2 c2 blocks2 p f.setting_is leads.tables table (done_root b next table told) before
      copied_stage (next, outcome.Refused fault) told leads = record { whole = tt; alone = leads.tables; table = tt; none = λ once at_place. absurd (at_place before); ready = λ e. absurd (cc e) }

      copied_idle : (x : Copier × Yielding (Node K V) Table) → CopierLeads b 0 c2 x → OthersIdle 0 c2
      copied_idle (next, outcome.Goes) leads = leads.0
      copied_idle (next, outcome.Waits) leads = absurd leads
      copied_idle (next, outcome.Gave value) leads = absurd leads
      copied_idle (next, outcome.Done table) leads = leads.idle
      copied_idle (next, outcome.Refused fault) leads = leads.idle

      told_none : (stage : Sweeping) → told {T = Node K V} stage ≢ swept.Waits
      told_none at.Reads e = cc e
      told_none at.Follows e = cc e
      told_none (at.Copies q) e = cc e
      told_none at.Ready e = cc e
      told_none at.Words e = cc e
      told_none (at.Asks word) e = cc e
      told_none (at.Tries word) e = cc e
      told_none (at.Counts removed) e = cc e
      told_none (at.Disposes dispose) e = cc e
      told_none at.Over e = cc e
      told_none (at.Refused fault) e = cc e

      copied_goes : (x : Copier × Yielding (Node K V) Table) → CopierLeads b 0 c2 x → (copied p x).1 ≢ swept.Waits
      copied_goes (next, outcome.Goes) leads e = cc e
      copied_goes (next, outcome.Waits) leads e = leads
      copied_goes (next, outcome.Gave value) leads e = leads
      copied_goes (next, outcome.Done table) leads e = told_none (entering p table).stands e
      copied_goes (next, outcome.Refused fault) leads e = cc e

      copies_told : (map2 : IsMapIn same hash setting w2 c2 blocks2) (moved : Moved same hash setting.mode 0 c c2) (same_blocks : SameBlocks c blocks blocks2)
          → SparesPairs w w2 × (c2.current ≡ c.current) × WholeCopyOutcome w2 0 setting c2 blocks2 same hash its.0 × CopierMoves same hash 0 setting w c copier its.0 c2 → OwnTold w2 c2 blocks2
      copies_told map2 moved same_blocks (spares, current, told, moves) =
          let leads = copier_leads same hash 0 setting lawful.lawful lawful.fits initial w w2 c c2 blocks blocks2 map map2 m2 b refl copier no_row root its.0 its.1 told moves lone.idle
          (subst (SweepsAlone b c) is lone.point) in
          let on = whole_leads_in same hash 0 setting began p f.setting_is w2 c2 blocks2 map2 b refl its.0 told in
          own_told w2 c2 blocks2 map2 moved same_blocks (
            subst (SweepAfter same hash 0 setting began w2 c2 blocks2) (sym its.2) on.0,
            subst (λ (x : Sweeping). SweepMoves same hash 0 setting began w c blocks p x (p2, end) w2 c2 blocks2) (sym is) (current, its.0, its.2, on.1),
          )
          (λ e. copied_goes its.0 leads (sym (ap (λ (x : Sweep × Swept (Node K V)). x.1) its.2) ∙ e))
          (copied_idle its.0 leads)
          (subst (StageTold same hash setting w2 c2 blocks2 p) (sym its.2) (copied_stage its.0 told leads))

    own_copies : StepSpec same hash setting 0 w c blocks m2 OwnTold
    own_copies =
        went_as same hash setting 0 w c blocks m2
        (λ w2 c2 blocks2. SparesPairs w w2 × (c2.current ≡ c.current) × WholeCopyOutcome w2 0 setting c2 blocks2 same hash its.0 × CopierMoves same hash 0 setting w c copier its.0 c2) OwnTold
        (λ w2 c2 blocks2 map2 moved same_blocks told. copies_told w2 c2 blocks2 map2 moved same_blocks told)
        (went_whole same hash 0 setting lawful.lawful lawful.fits initial w c blocks map copier no_row root m2 its.0 its.1)

  pub own_went : StepSpec same hash setting 0 w c blocks m2 OwnTold
  own_went = elim (copies_cases p.stands) as (λ _. StepSpec same hash setting 0 w c blocks m2 OwnTold) [
    | inl copies ↦ own_copies copies.0 copies.1
    | inr other ↦ own_beside other
  ]
